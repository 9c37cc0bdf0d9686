use Rattle.party_frames.proofs.Wrongs.{finds_first}
use Rattle.party_frames.proofs.frames.first_wrong_byte_is_first.Goals as goal

pub returns : goal.returns
returns c = finds_first
