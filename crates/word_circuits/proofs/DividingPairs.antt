-- Divisions over two kinds of wires, and what their calls owe.
use Rattle.std.proofs.Common.{◌≡◌, ℕ, ◌+◌, ◌-◌, ◌<◌, Bool, true, false, List, [], ◌∷◌, ◌++◌, get_or, take, drop, refl, ◌⊎◌, inl, inr}
use Rattle.gate_core.specs.Circuit.{times}
use Rattle.gate_core.specs.Relations.{All2}
use Rattle.gate_core.proofs.Relating.{Same}
use Rattle.gate_core.proofs.Pairs.{Same-then, Same-times, All2-up, All2-at, All2-push, All2-take, All2-drop, All2-replicate}
use Rattle.word_circuits.specs.Chains.{Carried, chain, flips}
use Rattle.word_circuits.specs.Choices.{choose}
use Rattle.word_circuits.specs.Divisions.{Divided, divide_bit, divide_step, divide_circuit, negate_step, cond_negate, divide_sizes, quotient_circuit, remainder_circuit}
use Rattle.word_circuits.specs.Fragments.Operation.{op_quotient, op_remainder}
use Rattle.word_circuits.proofs.AddingPairs.{SameCarried, Same-chain, Same-flips}
use Rattle.word_circuits.proofs.ChoosingPairs.{Same-choose}
use Rattle.word_circuits.proofs.Signing.{Costs-quotient, Costs-remainder, Costs-signed_quotient, Costs-signed_remainder}
use Rattle.word_circuits.proofs.Calling.{Uniform, Counted}

module _ {V W : Type 0} where
  abbrev pub SameBit : (V → W → Type 0) → (V × List V) → (W × List W) → Type 0
  SameBit R a b = R a.0 b.0 × All2 R a.1 b.1

  abbrev pub SameDivided : (V → W → Type 0) → Divided V → Divided W → Type 0
  SameDivided R a b = All2 R a.quotient b.quotient × All2 R a.rest b.rest

  pub Same-divide_bit : (R : V → W → Type 0) (u : V) (u' : W) (ny : List V) (ny' : List W) (one : V) (one' : W) (rest : List V) (rest' : List W) (w : ℕ)
      → R u u' → All2 R ny ny' → R one one' → All2 R rest rest' → Same R SameBit (divide_bit u ny one rest w) (divide_bit u' ny' one' rest' w)
  Same-divide_bit R u u' ny ny' one one' rest rest' w hu hny h1 hr =
      Same-then SameCarried SameBit R (chain (u ∷ rest) ny one one (w + 1)) (chain (u' ∷ rest') ny' one' one' (w + 1)) _ _
      (Same-chain R (u ∷ rest) ny (u' ∷ rest') ny' one one one' one' (hu, hr) hny h1 h1 (w + 1))
      (λ P up a b h.
      let ht : All2 P (u ∷ rest) (u' ∷ rest') = (up u u' hu, All2-up R P rest rest' up hr) in
      Same-then All2 SameBit P (choose a.carry a.sums (u ∷ rest) (u ∷ rest) one w) (choose b.carry b.sums (u' ∷ rest') (u' ∷ rest') one' w) _ _
      (Same-choose P a.carry b.carry a.sums (u ∷ rest) (u ∷ rest) b.sums (u' ∷ rest') (u' ∷ rest') one one' w h.1 h.0 ht ht (up one one' h1))
      (λ T more r r' k. (more a.carry b.carry h.1, k)))

  pub Same-divide_step : (R : V → W → Type 0) (w : ℕ) (x ny : List V) (x' ny' : List W) (one : V) (one' : W) → All2 R x x' → All2 R ny ny' → R one one' → (i : ℕ)
      (P : V → W → Type 0) → ((v : V) (w : W) → R v w → P v w) → (a : Divided V) (b : Divided W) → SameDivided P a b
      → Same P SameDivided (divide_step w x ny one i a) (divide_step w x' ny' one' i b)
  Same-divide_step R w x ny x' ny' one one' hx hny h1 i P up a b h =
      Same-then SameBit SameDivided P (divide_bit (get_or x (w - 1 - i) one) ny one a.rest w) (divide_bit (get_or x' (w - 1 - i) one') ny' one' b.rest w) _ _
      (Same-divide_bit P _ _ ny ny' one one' a.rest b.rest w (up _ _ (All2-at R x x' one one' (w - 1 - i) h1 hx)) (All2-up R P ny ny' up hny) (up one one' h1) h.1)
      (λ T more r r' k. ((k.0, All2-up P T a.quotient b.quotient more h.0), k.1))

  pub Same-divide : (R : V → W → Type 0) (w : ℕ) (x y : List V) (x' y' : List W) → All2 R x x' → All2 R y y' → Same R SameDivided (divide_circuit w x y) (divide_circuit w x' y')
  Same-divide R w x y x' y' hx hy = (
    refl,
    λ z z'. (
      refl,
      λ o o'.
          let P : V → W → Type 0 = λ v w. (R v w ⊎ ((v ≡ z) × (w ≡ z'))) ⊎ ((v ≡ o) × (w ≡ o')) in
          let up : (v : V) (w : W) → R v w → P v w = λ v w e. inl (inl e) in
          let pz : P z z' = inl (inr (refl, refl)) in
          let po : P o o' = inr (refl, refl) in
          Same-then All2 SameDivided P (flips (y ++ z ∷ []) o (w + 1)) (flips (y' ++ z' ∷ []) o' (w + 1)) _ _
          (Same-flips P (y ++ z ∷ []) (y' ++ z' ∷ []) o o' (w + 1) (All2-push P y y' z z' (All2-up R P y y' up hy) pz) po)
          (λ T more ny ny' k. Same-times SameDivided T (divide_step w x ny o) (divide_step w x' ny' o') _ _ w
          (Same-divide_step T w x ny x' ny' o o' (All2-up R T x x' (λ v w e. more v w (up v w e)) hx) k (more o o' po))
          (tt, All2-replicate T w z z' (more z z' pz))),
    ),
  )

  Same-negate_step : (R : V → W → Type 0) (x : List V) (x' : List W) (b d : V) (b' d' : W) → All2 R x x' → R b b' → R d d' → (i : ℕ)
      (P : V → W → Type 0) → ((v : V) (w : W) → R v w → P v w) → (a : Carried V) (c : Carried W) → SameCarried P a c
      → Same P SameCarried (negate_step x b d i a) (negate_step x' b' d' i c)
  Same-negate_step R x x' b d b' d' hx hb hd i P up a c h = (
    up _ _ (All2-at R x x' d d' i hd hx),
    up b b' hb,
    λ y y'. (
      inr (refl, refl),
      inl h.1,
      λ s s'. (
        inl (inr (refl, refl)),
        inl (inl h.1),
        λ e e'. (All2-push _ a.sums c.sums s s' (All2-up P _ a.sums c.sums (λ v w k. inl (inl (inl k))) h.0) (inl (inr (refl, refl))), inr (refl, refl)),
      ),
    ),
  )

  pub Same-cond_negate : (R : V → W → Type 0) (n : ℕ) (b : V) (b' : W) (x : List V) (x' : List W) (d : V) (d' : W) → R b b' → All2 R x x' → R d d'
      → Same R All2 (cond_negate n b x d) (cond_negate n b' x' d')
  Same-cond_negate R n b b' x x' d d' hb hx hd =
      Same-then SameCarried All2 R (times (n - 1) (negate_step x b d) (record { sums = []; carry = b })) (times (n - 1) (negate_step x' b' d') (record { sums = []; carry = b' })) _ _
      (Same-times SameCarried R (negate_step x b d) (negate_step x' b' d') _ _ (n - 1) (Same-negate_step R x x' b d b' d' hx hb hd) (tt, hb))
      (λ P up a c h. (
        up _ _ (All2-at R x x' d d' (n - 1) hd hx),
        up b b' hb,
        λ y y'. (inr (refl, refl), inl h.1, λ s s'. All2-push _ a.sums c.sums s s' (All2-up P _ a.sums c.sums (λ v w k. inl (inl k)) h.0) (inr (refl, refl))),
      ))

  pub Same-divide_sizes : (R : V → W → Type 0) (n : ℕ) (x y : List V) (x' y' : List W) (d : V) (d' : W) → All2 R x x' → All2 R y y' → R d d'
      → Same R SameDivided (divide_sizes n x y d) (divide_sizes n x' y' d')
  Same-divide_sizes R n x y x' y' d d' hx hy hd =
      Same-then All2 SameDivided R (cond_negate n (get_or x (n - 1) d) x d) (cond_negate n (get_or x' (n - 1) d') x' d') _ _
      (Same-cond_negate R n _ _ x x' d d' (All2-at R x x' d d' (n - 1) hd hx) hx hd)
      (λ P up a a' ha. Same-then All2 SameDivided P (cond_negate n (get_or y (n - 1) d) y d) (cond_negate n (get_or y' (n - 1) d') y' d') _ _
      (Same-cond_negate P n _ _ y y' d d' (up _ _ (All2-at R y y' d d' (n - 1) hd hy)) (All2-up R P y y' up hy) (up d d' hd))
      (λ T more b b' hb. Same-divide T n a b a' b' (All2-up P T a a' more ha) hb))

  pub Same-quotient : (R : V → W → Type 0) (signed : Bool) (n : ℕ) (x y : List V) (x' y' : List W) (d : V) (d' : W) → All2 R x x' → All2 R y y' → R d d'
      → Same R All2 (quotient_circuit signed n x y d) (quotient_circuit signed n x' y' d')
  Same-quotient R false n x y x' y' d d' hx hy hd =
      Same-then SameDivided All2 R (divide_circuit n x y) (divide_circuit n x' y') _ _ (Same-divide R n x y x' y' hx hy) (λ P up a a' h. h.0)
  Same-quotient R true n x y x' y' d d' hx hy hd =
      Same-then SameDivided All2 R (divide_sizes n x y d) (divide_sizes n x' y' d') _ _ (Same-divide_sizes R n x y x' y' d d' hx hy hd)
      (λ P up a a' h. (
        up _ _ (All2-at R x x' d d' (n - 1) hd hx),
        up _ _ (All2-at R y y' d d' (n - 1) hd hy),
        λ s s'. Same-cond_negate _ n s s' a.quotient a'.quotient d d' (inr (refl, refl)) (All2-up P _ a.quotient a'.quotient (λ v w k. inl k) h.0) (inl (up d d' hd)),
      ))

  pub Same-remainder : (R : V → W → Type 0) (signed : Bool) (n : ℕ) (x y : List V) (x' y' : List W) (d : V) (d' : W) → All2 R x x' → All2 R y y' → R d d'
      → Same R All2 (remainder_circuit signed n x y d) (remainder_circuit signed n x' y' d')
  Same-remainder R false n x y x' y' d d' hx hy hd =
      Same-then SameDivided All2 R (divide_circuit n x y) (divide_circuit n x' y') _ _ (Same-divide R n x y x' y' hx hy) (λ P up a a' h. h.1)
  Same-remainder R true n x y x' y' d d' hx hy hd =
      Same-then SameDivided All2 R (divide_sizes n x y d) (divide_sizes n x' y' d') _ _ (Same-divide_sizes R n x y x' y' d d' hx hy hd)
      (λ P up a a' h. Same-cond_negate P n _ _ a.rest a'.rest d d' (up _ _ (All2-at R x x' d d' (n - 1) hd hx)) h.1 (up d d' hd))

pub Uniform-quotient : (signed : Bool) (w : ℕ) → Uniform (op_quotient signed) w
Uniform-quotient signed w V W R d e xs ys h k = Same-quotient R signed w _ _ _ _ d e (All2-take R w xs ys k) (All2-drop R w xs ys k) h

pub Uniform-remainder : (signed : Bool) (w : ℕ) → Uniform (op_remainder signed) w
Uniform-remainder signed w V W R d e xs ys h k = Same-remainder R signed w _ _ _ _ d e (All2-take R w xs ys k) (All2-drop R w xs ys k) h

pub Counted-quotient : (signed : Bool) (w : ℕ) → 0 < w → Counted (op_quotient signed) w
Counted-quotient false w some W d xs e = Costs-quotient w (take w xs) (drop w xs) d
Counted-quotient true w some W d xs e = Costs-signed_quotient w (take w xs) (drop w xs) d some

pub Counted-remainder : (signed : Bool) (w : ℕ) → 0 < w → Counted (op_remainder signed) w
Counted-remainder false w some W d xs e = Costs-remainder w (take w xs) (drop w xs) d
Counted-remainder true w some W d xs e = Costs-signed_remainder w (take w xs) (drop w xs) d some
