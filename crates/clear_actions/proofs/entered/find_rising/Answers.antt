use Rattle.std.proofs.Common.{◌∙◌, ap, subst, None, rules}
use Rattle.clear_actions.specs.Rising.{IsPlaceOf}
use Rattle.clear_actions.proofs.Rising.{found_at, placed}
use Rattle.clear_actions.proofs.entered.find_rising.Goals as goal

pub returns-in-None : goal.returns-in-None
returns-in-None c =
    ap (λ o. placed c.args.slot None o) c.in-None.ensures.value
    ∙ found_at c.args.slot c.args.slots.now c.place_of-place.result c.requires
    (subst (λ l. IsPlaceOf c.args.slot l c.place_of-place.result) c.as_slice.ensures c.place_of-place.ensures)

pub returns-then-named-slot : goal.returns-then-named-slot
returns-then-named-slot c =
    (search rules)
    ∙ ap (λ o. placed c.args.slot None o) c.in-Some.ensures.value
    ∙ found_at c.args.slot c.args.slots.now c.place_of-place.result c.requires
    (subst (λ l. IsPlaceOf c.args.slot l c.place_of-place.result) c.as_slice.ensures c.place_of-place.ensures)

pub returns-else-named-slot : goal.returns-else-named-slot
returns-else-named-slot c =
    (search rules)
    ∙ ap (λ o. placed c.args.slot None o) c.in-Some.ensures.value
    ∙ found_at c.args.slot c.args.slots.now c.place_of-place.result c.requires
    (subst (λ l. IsPlaceOf c.args.slot l c.place_of-place.result) c.as_slice.ensures c.place_of-place.ensures)
