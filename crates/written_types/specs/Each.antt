-- Lists that are judged item by item.
use Rattle.std.specs.Prelude.{List, [], ◌∷◌, Result, Ok, Err}
use Rattle.type_rules.specs.Judging.{Judged, next}
use Rattle.type_steps.specs.declared.fault.TypeFault.{TypeFault}

-- each item judged in a state that the items before it made
abbrev pub each : {S X Y : Type 0} → (S → X → Judged Y) → (S → X → S) → S → List X → Judged (List Y)
each judge after s [] = Ok []
each judge after s (x ∷ xs) = next (judge s x) (λ y. next (each judge after (after s x) xs) (λ ys. Ok (y ∷ ys)))

-- the state after these items
abbrev pub state_after : {S X : Type 0} → (S → X → S) → S → List X → S
state_after after s [] = s
state_after after s (x ∷ xs) = state_after after (after s x) xs

-- an answer seen otherwise
abbrev pub mapped : {A B : Type 0} → (B → A) → Result B TypeFault → Result A TypeFault
mapped view (Ok b) = Ok (view b)
mapped view (Err f) = Err f
