use Rattle.oc_declarators.proofs.Words.{optional_found, optional_absent}
use Rattle.oc_declarators.proofs.integers.optional.Goals as goal

pub returns-in-Some : goal.returns-in-Some
returns-in-Some c = optional_found _ _ c.in-Some.ensures

pub returns-in-None : goal.returns-in-None
returns-in-None c = optional_absent _ c.in-None.ensures
