use Rattle.std.proofs.Common.{◌≡◌, ◌++◌, [], drop, length}
use Rattle.cond_lowering.specs.Statements.{coding, listed_of}
use Rattle.cond_lowering.proofs.functions.emit_body.Given as goal

abbrev pub invariant-loop-i : goal.invariant-loop-i
invariant-loop-i l =
    let k = coding l.table l.slots in
    record {
      exits : l.exits ≡ [];
      rest : l.code ++ listed_of k l.gives (drop l.i l.body) (length l.code) ≡ l.fn.code ++ listed_of k l.gives l.body (length l.fn.code);
    }
