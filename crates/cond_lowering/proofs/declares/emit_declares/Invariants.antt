use Rattle.std.proofs.Common.{◌≡◌, ◌++◌, drop, length}
use Rattle.cond_lowering.specs.Statements.{coding, declares_of}
use Rattle.cond_lowering.proofs.declares.emit_declares.Given as goal

abbrev pub invariant-loop-i : goal.invariant-loop-i
invariant-loop-i l =
    let k = coding l.table l.slots in
    l.code ++ declares_of k l.depth (drop l.i l.ds) (length l.code) ≡ l.fn.code ++ declares_of k l.depth l.ds (length l.fn.code)
