-- Relations of lists.
use Rattle.std.specs.Prelude.{List, [], ◌∷◌}

-- two lists of one length whose elements are related in pairs
abbrev pub All2 : {V W : Type 0} → (V → W → Type 0) → List V → List W → Type 0
All2 R [] [] = Unit {0}
All2 R [] (w ∷ ws) = ⊥
All2 R (v ∷ vs) [] = ⊥
All2 R (v ∷ vs) (w ∷ ws) = R v w × All2 R vs ws
