use Rattle.std.proofs.Common.{◌≡◌, ◌≤◌, length, take}
use Rattle.oc_outside.specs.Told.{appended}
use Rattle.oblivc_main.specs.Shown.{shown}
use Rattle.oblivc_main.proofs.printing.print_all.Given as goal

abbrev pub invariant-loop-item : goal.invariant-loop-item
invariant-loop-item g l = record {
  within : l.item-index ≤ length l.items;
  no_fault : g.S.Sink.faults l.out ≡ g.S.Sink.faults l.initial.out;
  written : g.S.Sink.written l.out ≡ appended (shown (take l.item-index l.items)) (g.S.Sink.written l.initial.out);
}
