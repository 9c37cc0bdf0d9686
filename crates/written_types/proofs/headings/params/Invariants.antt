use Rattle.std.proofs.Common.{[], take}
use Rattle.written_types.specs.Known.{lookup}
use Rattle.written_types.specs.Numbers.{Has}
use Rattle.written_types.specs.Each.{state_after}
use Rattle.written_types.specs.Params.{param_judged, with_param}
use Rattle.written_types.proofs.EachItem.{Left}
use Rattle.written_types.proofs.headings.params.Given as goal

abbrev pub invariant-loop-param : goal.invariant-loop-param
invariant-loop-param l =
    record {
      typed : Left (param_judged (lookup l.known)) with_param [] l.param-items l.param-index l.slots;
      names : Has l.numbers (state_after with_param [] (take l.param-index l.param-items));
    }
