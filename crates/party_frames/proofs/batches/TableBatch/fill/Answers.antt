use Rattle.std.proofs.Common.{sym, ◌∙◌}
use Rattle.dealt_transfer.proofs.Pieces.{pairs_same}
use Rattle.party_frames.proofs.batches.TableBatch.fill.Goals as goal

pub returns-clause-again : goal.returns-clause-again
returns-clause-again c rows h e = pairs_same c.fill_rows.new.rows.items rows c.fill_rows.ensures.labels h (c.fill_rows.ensures.bytes ∙ sym e)
