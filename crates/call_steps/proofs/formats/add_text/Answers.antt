use Rattle.std.proofs.Common.{ap, ◌∙◌}
use Rattle.call_steps.specs.declared.formats.Reading.TheVariants as reading
use Rattle.call_steps.specs.Formats.{read_before, format_from}
use Rattle.call_steps.proofs.Reading.{more_text}
use Rattle.call_steps.proofs.formats.add_text.Goals as goal

pub returns : goal.returns
returns c = λ bs. ap (λ t. read_before c.args.reader.pieces t (format_from reading.Outside bs)) c.in_ok-push.ensures.items ∙ more_text c.args.reader.pieces c.args.reader.text.items c.args.byte (format_from reading.Outside bs)
