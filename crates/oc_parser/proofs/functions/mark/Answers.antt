use Rattle.oc_parser.proofs.AfterResults.{mark_found, mark_absent}
use Rattle.oc_parser.proofs.functions.mark.Goals as goal

pub returns-in-Some : goal.returns-in-Some
returns-in-Some c = mark_found c.in-Some.ensures

pub returns-in-None : goal.returns-in-None
returns-in-None c = mark_absent c.in-None.ensures
