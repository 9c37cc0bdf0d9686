-- Lists whose items are taken in one after another.
use Rattle.std.specs.Prelude.{List, [], ◌∷◌, Ok}
use Rattle.type_rules.specs.Judging.{Judged, next}

-- what is made of these items, each taken in where those before it were
abbrev pub in_turn : {S X : Type 0} → (S → X → Judged S) → S → List X → Judged S
in_turn step s [] = Ok s
in_turn step s (x ∷ xs) = next (step s x) (λ t. in_turn step t xs)
