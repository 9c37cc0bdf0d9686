use Rattle.std.proofs.Common.{ap, ◌∙◌, []}
use Rattle.call_steps.specs.declared.formats.Reading.TheVariants as reading
use Rattle.call_steps.specs.Formats.{read_before, format_from}
use Rattle.call_steps.proofs.formats.new_reader.Goals as goal

pub returns : goal.returns
returns c =
    λ bs. ap (λ ps. read_before ps c.new-text.result.items (format_from reading.Outside bs)) c.new-pieces.ensures
    ∙ ap (λ t. read_before [] t (format_from reading.Outside bs)) c.new-text.ensures.items
