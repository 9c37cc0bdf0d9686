-- What proofs say of whole circuits: their truth, their sameness over two kinds of wires, their ANDs.
use Rattle.std.specs.Prelude.{◌≡◌, ℕ, ◌+◌, Bool, not, ◌&&◌, ◌⊎◌}
use Rattle.gate_core.specs.Circuit.{Circuit, xor}
use Rattle.gate_core.specs.Circuit.Circuit.{give, known, flip, join, meet}

-- the answer of a circuit whose wires are bits
abbrev pub truth : {A : Type 0} → Circuit Bool A → A
truth (give a) = a
truth (known b k) = truth (k b)
truth (flip x k) = truth (k (not x))
truth (join x y k) = truth (k (xor x y))
truth (meet x y k) = truth (k (x && y))

-- one circuit over two kinds of wires: each gate takes wires that belong together, and the answers meet Q
abbrev pub Same : {V W A B : Type 0} → (V → W → Type 0) → ((V → W → Type 0) → A → B → Type 0) → Circuit V A → Circuit W B → Type 0
Same R Q (give a) (give b) = Q R a b
Same {V} {W} R Q (known b k) (known c l) = (b ≡ c) × ((v : V) (w : W) → Same (λ x y. R x y ⊎ ((x ≡ v) × (y ≡ w))) Q (k v) (l w))
Same {V} {W} R Q (flip x k) (flip y l) = R x y × ((v : V) (w : W) → Same (λ x y. R x y ⊎ ((x ≡ v) × (y ≡ w))) Q (k v) (l w))
Same {V} {W} R Q (join x x' k) (join y y' l) = R x y × R x' y' × ((v : V) (w : W) → Same (λ x y. R x y ⊎ ((x ≡ v) × (y ≡ w))) Q (k v) (l w))
Same {V} {W} R Q (meet x x' k) (meet y y' l) = R x y × R x' y' × ((v : V) (w : W) → Same (λ x y. R x y ⊎ ((x ≡ v) × (y ≡ w))) Q (k v) (l w))
Same R Q _ _ = ⊥

-- whichever wires come, n ANDs are made and the answer meets Q
abbrev pub Costs : {W A : Type 0} → (A → Type 0) → ℕ → Circuit W A → Type 0
Costs Q n (give a) = (n ≡ 0) × Q a
Costs {W} Q n (known b k) = (w : W) → Costs Q n (k w)
Costs {W} Q n (flip x k) = (w : W) → Costs Q n (k w)
Costs {W} Q n (join x y k) = (w : W) → Costs Q n (k w)
Costs {W} Q n (meet x y k) = (m : ℕ) × (n ≡ m + 1) × ((w : W) → Costs Q m (k w))
