-- Operations bit by bit, choices and shifts over two kinds of wires, and the calls that play them.
use Rattle.std.proofs.Common.{◌≡◌, ℕ, ◌-◌, ◌*◌, ◌%◌, ◌^◌, ◌≤◌, Bool, true, false, List, ◌++◌, length, get_or, take, drop, replicate, min, refl, arith, subst, ◌⊎◌, inl, inr}
use Rattle.std.proofs.lemmas.List.{length-append, length-replicate, length-take, length-take-le, length-drop}
use Rattle.gate_core.specs.Circuit.{times}
use Rattle.gate_core.specs.Circuit.Circuit.{give, join, meet}
use Rattle.gate_core.specs.Relations.{All2}
use Rattle.gate_core.proofs.Relating.{Same, Costs}
use Rattle.gate_core.proofs.Pairs.{Same-times, Same-row, All2-up, All2-at, All2-take, All2-drop, All2-append, All2-replicate}
use Rattle.gate_core.proofs.Playing.{Costs-times}
use Rattle.word_circuits.specs.Widths.{log2}
use Rattle.word_circuits.specs.Choices.{meet_circuit, either_bit, either_circuit, differ_circuit, choose_bit, choose, moved_in, moved, shift_known_circuit, shift_step, shift_word_circuit, resize_circuit}
use Rattle.word_circuits.proofs.Choosing.{Costs-choose}

module _ {V W : Type 0} where
  pub Same-meet : (R : V → W → Type 0) (n : ℕ) (x y : List V) (x' y' : List W) (d : V) (d' : W) → All2 R x x' → All2 R y y' → R d d' → Same R All2 (meet_circuit n x y d) (meet_circuit n x' y' d')
  Same-meet R n x y x' y' d d' hx hy hd =
      Same-row R (λ i. meet (get_or x i d) (get_or y i d) (λ r. give r)) (λ i. meet (get_or x' i d') (get_or y' i d') (λ r. give r)) n
      (λ i P up. (up _ _ (All2-at R x x' d d' i hd hx), up _ _ (All2-at R y y' d d' i hd hy), λ w w'. inr (refl, refl)))

  pub Same-differ : (R : V → W → Type 0) (n : ℕ) (x y : List V) (x' y' : List W) (d : V) (d' : W) → All2 R x x' → All2 R y y' → R d d' → Same R All2 (differ_circuit n x y d) (differ_circuit n x' y' d')
  Same-differ R n x y x' y' d d' hx hy hd =
      Same-row R (λ i. join (get_or x i d) (get_or y i d) (λ r. give r)) (λ i. join (get_or x' i d') (get_or y' i d') (λ r. give r)) n
      (λ i P up. (up _ _ (All2-at R x x' d d' i hd hx), up _ _ (All2-at R y y' d d' i hd hy), λ w w'. inr (refl, refl)))

  pub Same-either : (R : V → W → Type 0) (n : ℕ) (x y : List V) (x' y' : List W) (d : V) (d' : W) → All2 R x x' → All2 R y y' → R d d' → Same R All2 (either_circuit n x y d) (either_circuit n x' y' d')
  Same-either R n x y x' y' d d' hx hy hd =
      Same-row R (λ i. either_bit (get_or x i d) (get_or y i d)) (λ i. either_bit (get_or x' i d') (get_or y' i d')) n
      (λ i P up. (up _ _ (All2-at R x x' d d' i hd hx), λ a a'. (inl (up _ _ (All2-at R y y' d d' i hd hy)), λ b b'. (inl (inr (refl, refl)), inr (refl, refl), λ c c'. (inr (refl, refl), λ r r'. inr (refl, refl))))))

  pub Same-choose : (R : V → W → Type 0) (e : V) (e' : W) (x y z : List V) (x' y' z' : List W) (d : V) (d' : W) (n : ℕ)
      → R e e' → All2 R x x' → All2 R y y' → All2 R z z' → R d d' → Same R All2 (choose e x y z d n) (choose e' x' y' z' d' n)
  Same-choose R e e' x y z x' y' z' d d' n he hx hy hz hd =
      Same-row R (λ i. choose_bit e (get_or x i d) (get_or y i d) (get_or z i d)) (λ i. choose_bit e' (get_or x' i d') (get_or y' i d') (get_or z' i d')) n
      (λ i P up. (
        up _ _ (All2-at R x x' d d' i hd hx),
        up _ _ (All2-at R y y' d d' i hd hy),
        λ p p'. (inl (up e e' he), inr (refl, refl), λ q q'. (inl (inl (up _ _ (All2-at R z z' d d' i hd hz))), inr (refl, refl), λ w w'. inr (refl, refl))),
      ))

  pub Same-moved_in : (R : V → W → Type 0) (left signed : Bool) (n : ℕ) (x : List V) (x' : List W) (d : V) (d' : W) → All2 R x x' → R d d' → R (moved_in left signed n x d) (moved_in left signed n x' d')
  Same-moved_in R true signed n x x' d d' hx hd = hd
  Same-moved_in R false true n x x' d d' hx hd = All2-at R x x' d d' (n - 1) hd hx
  Same-moved_in R false false n x x' d d' hx hd = hd

  pub Same-moved : (R : V → W → Type 0) (left : Bool) (n k : ℕ) (f : V) (f' : W) (x : List V) (x' : List W) → R f f' → All2 R x x' → All2 R (moved left n k f x) (moved left n k f' x')
  Same-moved R true n k f f' x x' hf hx = All2-append R (replicate k f) (replicate k f') (take (n - k) x) (take (n - k) x') (All2-replicate R k f f' hf) (All2-take R (n - k) x x' hx)
  Same-moved R false n k f f' x x' hf hx = All2-append R (drop k x) (drop k x') (replicate k f) (replicate k f') (All2-drop R k x x' hx) (All2-replicate R k f f' hf)

  pub Same-shift_known : (R : V → W → Type 0) (left signed : Bool) (n amount : ℕ) (x : List V) (x' : List W) → All2 R x x' → Same R All2 (shift_known_circuit left signed n amount x) (shift_known_circuit left signed n amount x')
  Same-shift_known R left signed n amount x x' hx = (
    refl,
    λ z z'.
        let P : V → W → Type 0 = λ v w. R v w ⊎ ((v ≡ z) × (w ≡ z')) in
        let px = All2-up R P x x' (λ v w e. inl e) hx in
        Same-moved P left n (amount % n) _ _ x x' (Same-moved_in P left signed n x x' z z' px (inr (refl, refl))) px,
  )

  pub Same-resize : (R : V → W → Type 0) (signed : Bool) (v n : ℕ) (x : List V) (x' : List W) → All2 R x x' → Same R All2 (resize_circuit signed v n x) (resize_circuit signed v n x')
  Same-resize R signed v n x x' hx = (
    refl,
    λ z z'.
        let P : V → W → Type 0 = λ v w. R v w ⊎ ((v ≡ z) × (w ≡ z')) in
        let px = All2-up R P x x' (λ v w e. inl e) hx in
        All2-append P (take v x) (take v x') _ _ (All2-take P v x x' px) (All2-replicate P (v - n) _ _ (Same-moved_in P false signed n x x' z z' px (inr (refl, refl)))),
  )

  pub Same-shift_word : (R : V → W → Type 0) (left signed : Bool) (n : ℕ) (x m : List V) (x' m' : List W) → All2 R x x' → All2 R m m' → Same R All2 (shift_word_circuit left signed n x m) (shift_word_circuit left signed n x' m')
  Same-shift_word R left signed n x m x' m' hx hm = (
    refl,
    λ z z'.
        let P : V → W → Type 0 = λ v w. R v w ⊎ ((v ≡ z) × (w ≡ z')) in
        let pz : P z z' = inr (refl, refl) in
        let pm = All2-up R P m m' (λ v w e. inl e) hm in
        Same-times All2 P (shift_step left signed n m z) (shift_step left signed n m' z') x x' (log2 n)
        (λ k T up a a' ha.
        let tz = up z z' pz in
        Same-choose T _ _ a _ a a' _ a' z z' n (up _ _ (All2-at P m m' z z' k pz pm)) ha (Same-moved T left n (2 ^ k) _ _ a a' (Same-moved_in T left signed n a a' z z' ha tz) ha) ha tz)
        (All2-up R P x x' (λ v w e. inl e) hx),
  )

pub length-moved : {W : Type 0} (left : Bool) (w k : ℕ) (f : W) (x : List W) → length x ≡ w → k ≤ w → length (moved left w k f x) ≡ w
length-moved {W} true w k f x lx h =
    let a = length-append (replicate k f) (take (w - k) x) in
    let b = length-replicate k f in
    let c = length-take-le (w - k) x (omega (arith, lx)) in
    omega (arith, a, b, c, h)
length-moved {W} false w k f x lx h =
    let a = length-append (drop k x) (replicate k f) in
    let b = length-replicate k f in
    let c = length-drop k x in
    omega (arith, a, b, c, h, lx)

pub length-resized : {W : Type 0} (v w : ℕ) (f : W) (x : List W) → length x ≡ w → length (take v x ++ replicate (v - w) f) ≡ v
length-resized {W} v w f x lx =
    let a = length-append (take v x) (replicate (v - w) f) in
    let b = length-replicate (v - w) f in
    let c : length (take v x) ≡ min v (length x) = length-take v x in
    omega (arith, a, b, c, lx)

pub Costs-shift_steps : {W : Type 0} (left signed : Bool) (w : ℕ) (m : List W) (z : W) (x : List W) (n : ℕ) → length x ≡ w
    → Costs (λ (l : List W). length l ≡ w) (n * w) (times n (shift_step left signed w m z) x)
Costs-shift_steps {W} left signed w m z x n lx =
    Costs-times (λ i (l : List W). length l ≡ w) (λ i. i * w) (shift_step left signed w m z) x n w (omega arith) (λ i. omega arith) lx
    (λ i l lt h. Costs-choose _ l _ l z w)

pub Costs-shift_word : {W : Type 0} (left signed : Bool) (w : ℕ) (x m : List W) → length x ≡ w → Costs (λ (l : List W). length l ≡ w) (w * log2 w) (shift_word_circuit left signed w x m)
Costs-shift_word {W} left signed w x m lx = λ z.
    subst (λ k. Costs (λ (l : List W). length l ≡ w) k (times (log2 w) (shift_step left signed w m z) x)) (let e : log2 w * w ≡ w * log2 w = omega arith in e) (Costs-shift_steps left signed w m z x (log2 w) lx)
