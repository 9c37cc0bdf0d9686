use Rattle.call_steps.specs.declared.formats.Reading.TheVariants as reading
use Rattle.call_steps.specs.Formats.{format_from}
use Rattle.call_steps.proofs.Reading.{ended_piece}
use Rattle.call_steps.proofs.formats.end_piece.Goals as goal

pub returns : goal.returns
returns c =
    λ bs. ended_piece c.args.reader.pieces _ _ c.args.reader.text.items _ _ c.args.kind _ (format_from reading.Outside bs) c.in_ok-push.ensures.ok c.new_piece.ensures c.in_ok-flush.ensures c.as_slice.ensures.value c.clear.ensures.items
