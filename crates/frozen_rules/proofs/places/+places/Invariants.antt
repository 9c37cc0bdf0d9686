use Rattle.std.proofs.Common.{◌+◌}
use Rattle.frozen_rules.proofs.Weight.{expr_weight, place_weight}
use Rattle.frozen_rules.proofs.places.+places.Given as goal

abbrev pub decreases-is_frozen_place : goal.decreases-is_frozen_place
decreases-is_frozen_place l = place_weight l.place.now

abbrev pub decreases-comes_from_frozen : goal.decreases-comes_from_frozen
decreases-comes_from_frozen l = expr_weight l.e.now

abbrev pub decreases-leads_to_frozen : goal.decreases-leads_to_frozen
decreases-leads_to_frozen l = expr_weight l.e.now + 1
