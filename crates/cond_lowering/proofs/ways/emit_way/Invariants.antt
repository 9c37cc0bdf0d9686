use Rattle.std.proofs.Common.{◌≡◌, ◌≤◌, ◌++◌, length, take}
use Rattle.oc_code.specs.Lower.{end_code}
use Rattle.cond_lowering.specs.Ways.{way}
use Rattle.cond_lowering.proofs.ways.emit_way.Given as goal

abbrev pub invariant-outward : goal.invariant-outward
invariant-outward l = record {
  within : l.at ≤ length l.list;
  rest : l.code ++ way l.again (take l.at l.list) (end_code l.gives) ≡ l.fn.code ++ way l.again l.list (end_code l.gives);
}

abbrev pub decreases-outward : goal.decreases-outward
decreases-outward l = l.at
