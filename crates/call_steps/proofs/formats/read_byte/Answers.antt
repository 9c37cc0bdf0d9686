use Rattle.call_steps.proofs.Reading.{reads_on}
use Rattle.call_steps.proofs.formats.read_byte.Goals as goal

pub returns : goal.returns
returns c = reads_on _ c.args.reader c.args.byte _ c.read_turn.ensures c.turn_at-turn.ensures
