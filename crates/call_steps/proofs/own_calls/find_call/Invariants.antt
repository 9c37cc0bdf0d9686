use Rattle.std.proofs.Common.{◌≡◌, drop}
use Rattle.call_steps.specs.OwnCalls.{find_call}
use Rattle.call_steps.proofs.own_calls.find_call.Given as goal

abbrev pub invariant-loop-call : goal.invariant-loop-call
invariant-loop-call l = find_call (drop l.call-index l.calls) l.word ≡ find_call l.calls l.word
