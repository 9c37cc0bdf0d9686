use Rattle.std.proofs.Common.{◌≡◌, ◌-◌, ◌≤◌, length, take}
use Rattle.oc_outside.specs.Told.{appended}
use Rattle.oc_outside.proofs.sinks.write_all.Given as goal

abbrev pub invariant-loop-at : goal.invariant-loop-at
invariant-loop-at g l = record {
  within : l.at ≤ length l.bytes;
  no_fault : g.S.Sink.faults l.sink ≡ g.S.Sink.faults l.initial.sink;
  written : g.S.Sink.written l.sink ≡ appended (take l.at l.bytes) (g.S.Sink.written l.initial.sink);
}

abbrev pub decreases-loop-at : goal.decreases-loop-at
decreases-loop-at g l = length l.bytes - l.at
