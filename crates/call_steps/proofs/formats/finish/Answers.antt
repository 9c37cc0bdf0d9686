use Rattle.std.proofs.Common.{ap, ◌∙◌, ◌++◌, []}
use Rattle.call_steps.specs.Formats.{bytes_before}
use Rattle.call_steps.proofs.Reading.{finished}
use Rattle.call_steps.proofs.formats.finish.Goals as goal

pub returns : goal.returns
returns c =
    finished c.args.reader _ _ (c.in_ok-flush.ensures ∙ ap (λ t. c.args.reader.pieces ++ bytes_before t []) c.as_slice.ensures.value) c.may_end.ensures
