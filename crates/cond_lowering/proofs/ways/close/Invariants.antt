use Rattle.std.proofs.Common.{◌≡◌, ◌≤◌, ◌++◌, length, take, drop}
use Rattle.cond_lowering.specs.Ways.{outs}
use Rattle.cond_lowering.proofs.ways.close.Given as goal

abbrev pub invariant-leaving : goal.invariant-leaving
invariant-leaving l = record {
  within : l.mark ≤ length l.exits;
  kept : take l.mark l.exits ≡ take l.mark l.fn.exits;
  rest : l.code ++ outs (drop l.mark l.exits) ≡ l.fn.code ++ outs (drop l.mark l.fn.exits);
}

abbrev pub decreases-leaving : goal.decreases-leaving
decreases-leaving l = length l.exits
