use Rattle.std.proofs.Common.{◌∙◌}
use Rattle.call_steps.proofs.Spelled.{named_call}
use Rattle.call_steps.proofs.own_calls.own_call.Goals as goal

pub returns : goal.returns
returns c = c.find_call.ensures ∙ named_call c.args.name.now
