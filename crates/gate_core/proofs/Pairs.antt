-- One circuit over two kinds of wires.
use Rattle.std.proofs.Common.{◌≡◌, ℕ, zero, suc, List, [], ◌∷◌, ◌++◌, length, get_or, take, drop, replicate, refl, arith, inl}
use Rattle.gate_core.specs.Circuit.{Circuit, then, times, row}
use Rattle.gate_core.specs.Circuit.Circuit.{give, known, flip, join, meet}
use Rattle.gate_core.specs.Relations.{All2}
use Rattle.gate_core.proofs.Relating.{Same}

-- one circuit after another, over two kinds of wires
pub Same-then : {V W A B C D : Type 0} (Q : (V → W → Type 0) → A → B → Type 0) (Q' : (V → W → Type 0) → C → D → Type 0) (R : V → W → Type 0)
    (c : Circuit V A) (d : Circuit W B) (f : A → Circuit V C) (g : B → Circuit W D)
    → Same R Q c d → ((P : V → W → Type 0) → ((v : V) (w : W) → R v w → P v w) → (a : A) (b : B) → Q P a b → Same P Q' (f a) (g b))
    → Same R Q' (then c f) (then d g)
Same-then Q Q' R (give a) (give b) f g h k = k R (λ v w e. e) a b h
Same-then Q Q' R (known x c) (known y d) f g h k = (h.0, λ v w. Same-then Q Q' _ (c v) (d w) f g (h.1 v w) (λ P up. k P (λ x y e. up x y (inl e))))
Same-then Q Q' R (flip x c) (flip y d) f g h k = (h.0, λ v w. Same-then Q Q' _ (c v) (d w) f g (h.1 v w) (λ P up. k P (λ x y e. up x y (inl e))))
Same-then Q Q' R (join x x' c) (join y y' d) f g h k = (h.0, h.1, λ v w. Same-then Q Q' _ (c v) (d w) f g (h.2 v w) (λ P up. k P (λ x y e. up x y (inl e))))
Same-then Q Q' R (meet x x' c) (meet y y' d) f g h k = (h.0, h.1, λ v w. Same-then Q Q' _ (c v) (d w) f g (h.2 v w) (λ P up. k P (λ x y e. up x y (inl e))))
Same-then Q Q' R _ _ f g h k = absurd h

pub Same-times : {V W A B : Type 0} (Q : (V → W → Type 0) → A → B → Type 0) (R : V → W → Type 0) (f : ℕ → A → Circuit V A) (g : ℕ → B → Circuit W B)
    (a : A) (b : B) (n : ℕ)
    → ((i : ℕ) (P : V → W → Type 0) → ((v : V) (w : W) → R v w → P v w) → (a : A) (b : B) → Q P a b → Same P Q (f i a) (g i b))
    → Q R a b → Same R Q (times n f a) (times n g b)
Same-times Q R f g a b zero step h = h
Same-times Q R f g a b (suc n) step h = Same-then Q Q R (times n f a) (times n g b) (f n) (g n) (Same-times Q R f g a b n step h) (λ P up. step n P up)

pub All2-up : {V W : Type 0} (P R : V → W → Type 0) (vs : List V) (ws : List W) → ((v : V) (w : W) → P v w → R v w) → All2 P vs ws → All2 R vs ws
All2-up P R [] [] up h = tt
All2-up P R [] (w ∷ ws) up h = absurd h
All2-up P R (v ∷ vs) [] up h = absurd h
All2-up P R (v ∷ vs) (w ∷ ws) up h = (up v w h.0, All2-up P R vs ws up h.1)

pub All2-at : {V W : Type 0} (R : V → W → Type 0) (vs : List V) (ws : List W) (d : V) (e : W) (i : ℕ) → R d e → All2 R vs ws → R (get_or vs i d) (get_or ws i e)
All2-at R [] [] d e i k h = k
All2-at R [] (w ∷ ws) d e i k h = absurd h
All2-at R (v ∷ vs) [] d e i k h = absurd h
All2-at R (v ∷ vs) (w ∷ ws) d e zero k h = h.0
All2-at R (v ∷ vs) (w ∷ ws) d e (suc i) k h = All2-at R vs ws d e i k h.1

pub All2-push : {V W : Type 0} (R : V → W → Type 0) (vs : List V) (ws : List W) (v : V) (w : W) → All2 R vs ws → R v w → All2 R (vs ++ v ∷ []) (ws ++ w ∷ [])
All2-push R [] [] v w h k = (k, tt)
All2-push R [] (b ∷ ws) v w h k = absurd h
All2-push R (a ∷ vs) [] v w h k = absurd h
All2-push R (a ∷ vs) (b ∷ ws) v w h k = (h.0, All2-push R vs ws v w h.1 k)

pub All2-length : {V W : Type 0} (R : V → W → Type 0) (vs : List V) (ws : List W) → All2 R vs ws → length vs ≡ length ws
All2-length R [] [] h = refl
All2-length R [] (w ∷ ws) h = absurd h
All2-length R (v ∷ vs) [] h = absurd h
All2-length R (v ∷ vs) (w ∷ ws) h = omega (arith, All2-length R vs ws h.1)

pub All2-take : {V W : Type 0} (R : V → W → Type 0) (n : ℕ) (vs : List V) (ws : List W) → All2 R vs ws → All2 R (take n vs) (take n ws)
All2-take R zero vs ws h = tt
All2-take R (suc n) [] [] h = tt
All2-take R (suc n) [] (w ∷ ws) h = absurd h
All2-take R (suc n) (v ∷ vs) [] h = absurd h
All2-take R (suc n) (v ∷ vs) (w ∷ ws) h = (h.0, All2-take R n vs ws h.1)

pub All2-drop : {V W : Type 0} (R : V → W → Type 0) (n : ℕ) (vs : List V) (ws : List W) → All2 R vs ws → All2 R (drop n vs) (drop n ws)
All2-drop R zero vs ws h = h
All2-drop R (suc n) [] [] h = tt
All2-drop R (suc n) [] (w ∷ ws) h = absurd h
All2-drop R (suc n) (v ∷ vs) [] h = absurd h
All2-drop R (suc n) (v ∷ vs) (w ∷ ws) h = All2-drop R n vs ws h.1

pub All2-append : {V W : Type 0} (R : V → W → Type 0) (vs : List V) (ws : List W) (vs2 : List V) (bs : List W) → All2 R vs ws → All2 R vs2 bs → All2 R (vs ++ vs2) (ws ++ bs)
All2-append R [] [] vs2 bs h k = k
All2-append R [] (w ∷ ws) vs2 bs h k = absurd h
All2-append R (v ∷ vs) [] vs2 bs h k = absurd h
All2-append R (v ∷ vs) (w ∷ ws) vs2 bs h k = (h.0, All2-append R vs ws vs2 bs h.1 k)

-- a row whose circuits belong together
pub Same-row : {V W : Type 0} (R : V → W → Type 0) (f : ℕ → Circuit V V) (g : ℕ → Circuit W W) (n : ℕ)
    → ((i : ℕ) (P : V → W → Type 0) → ((v : V) (w : W) → R v w → P v w) → Same P (λ T v w. T v w) (f i) (g i))
    → Same R All2 (row n f) (row n g)
Same-row {V} {W} R f g n each =
    Same-times All2 R (λ i ws. then (f i) (λ w. give (ws ++ w ∷ []))) (λ i ws. then (g i) (λ w. give (ws ++ w ∷ []))) [] [] n
    (λ i P up a b h. Same-then (λ T v w. T v w) All2 P (f i) (g i) (λ w. give (a ++ w ∷ [])) (λ w. give (b ++ w ∷ [])) (each i P up)
    (λ T more v w k. All2-push T a b v w (All2-up P T a b more h) k)) tt

pub All2-replicate : {V W : Type 0} (R : V → W → Type 0) (n : ℕ) (z : V) (z' : W) → R z z' → All2 R (replicate n z) (replicate n z')
All2-replicate R zero z z' h = tt
All2-replicate R (suc n) z z' h = (h, All2-replicate R n z z' h)
