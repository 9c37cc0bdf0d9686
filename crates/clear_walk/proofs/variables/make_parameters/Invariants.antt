use Rattle.std.proofs.Common.{drop}
use Rattle.clear_walk.specs.Runs.{around, Filled}
use Rattle.clear_walk.proofs.variables.make_parameters.Given as goal

abbrev pub invariant-loop-number : goal.invariant-loop-number
invariant-loop-number l = Filled (around l.frame l.at) l.spot l.values l.initial.m l.number (drop l.number l.values) l.m
