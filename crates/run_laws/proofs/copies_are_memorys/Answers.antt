use Rattle.run_laws.proofs.Copying.{copies}
use Rattle.run_laws.proofs.copies_are_memorys.Goals as goal

pub returns : goal.returns
returns c = copies
