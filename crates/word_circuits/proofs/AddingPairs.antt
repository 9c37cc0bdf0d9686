-- Chains of carries and comparisons over two kinds of wires.
use Rattle.std.proofs.Common.{◌≡◌, ℕ, ◌+◌, ◌-◌, Bool, true, false, List, [], ◌∷◌, ◌++◌, get_or, take, replicate, refl, ◌⊎◌, inl, inr}
use Rattle.gate_core.specs.Circuit.{Circuit, then}
use Rattle.gate_core.specs.Circuit.Circuit.{give, flip, meet}
use Rattle.gate_core.specs.Relations.{All2}
use Rattle.gate_core.proofs.Relating.{Same}
use Rattle.gate_core.proofs.Pairs.{Same-then, Same-times, Same-row, All2-up, All2-at, All2-push, All2-take, All2-replicate}
use Rattle.word_circuits.specs.Chains.{Carried, adder, chain_step, chain, last_sum, sums, add_circuit, flips, subtract_circuit, negate_circuit, biased, less_circuit, conjunction, alike, equal_circuit, other, to_bool_circuit}

module _ {V W : Type 0} where
  abbrev pub SamePair : (V → W → Type 0) → (V × V) → (W × W) → Type 0
  SamePair R a b = R a.0 b.0 × R a.1 b.1

  abbrev pub SameCarried : (V → W → Type 0) → Carried V → Carried W → Type 0
  SameCarried R a b = All2 R a.sums b.sums × R a.carry b.carry

  abbrev pub SameWire : (V → W → Type 0) → V → W → Type 0
  SameWire R v w = R v w

  pub Same-adder : (R : V → W → Type 0) (x y c : V) (x' y' c' : W) → R x x' → R y y' → R c c' → Same R SamePair (adder x y c) (adder x' y' c')
  Same-adder R x y c x' y' c' hx hy hc = search (inl, inr) depth 12

  pub Same-chain_step : (R : V → W → Type 0) (x y : List V) (x' y' : List W) (d : V) (d' : W) → All2 R x x' → All2 R y y' → R d d' → (i : ℕ)
      (P : V → W → Type 0) → ((v : V) (w : W) → R v w → P v w) → (a : Carried V) (b : Carried W) → SameCarried P a b → Same P SameCarried (chain_step x y d i a) (chain_step x' y' d' i b)
  Same-chain_step R x y x' y' d d' hx hy hd i P up a b h =
      Same-then SamePair SameCarried P (adder (get_or x i d) (get_or y i d) a.carry) (adder (get_or x' i d') (get_or y' i d') b.carry)
      (λ r. give (record { sums = a.sums ++ r.0 ∷ []; carry = r.1 })) (λ r. give (record { sums = b.sums ++ r.0 ∷ []; carry = r.1 }))
      (Same-adder P _ _ _ _ _ _ (up _ _ (All2-at R x x' d d' i hd hx)) (up _ _ (All2-at R y y' d d' i hd hy)) h.1)
      (λ T more r r' k. (All2-push T a.sums b.sums r.0 r'.0 (All2-up P T a.sums b.sums more h.0) k.0, k.1))

  pub Same-chain : (R : V → W → Type 0) (x y : List V) (x' y' : List W) (d c : V) (d' c' : W) → All2 R x x' → All2 R y y' → R d d' → R c c' → (n : ℕ)
      → Same R SameCarried (chain x y d c n) (chain x' y' d' c' n)
  Same-chain R x y x' y' d c d' c' hx hy hd hc n =
      Same-times SameCarried R (chain_step x y d) (chain_step x' y' d') _ _ n (Same-chain_step R x y x' y' d d' hx hy hd) (tt, hc)

  pub Same-last_sum : (R : V → W → Type 0) (x y : List V) (x' y' : List W) (d : V) (d' : W) → All2 R x x' → All2 R y y' → R d d' → (n : ℕ)
      → (a : Carried V) (b : Carried W) → SameCarried R a b → Same R All2 (last_sum x y d n a) (last_sum x' y' d' n b)
  Same-last_sum R x y x' y' d d' hx hy hd n a b h = (
    All2-at R x x' d d' n hd hx,
    h.1,
    λ p p'. (
      inr (refl, refl),
      inl (All2-at R y y' d d' n hd hy),
      λ s s'. All2-push _ a.sums b.sums s s' (All2-up R _ a.sums b.sums (λ v w e. inl (inl e)) h.0) (inr (refl, refl)),
    ),
  )

  pub Same-sums : (R : V → W → Type 0) (n : ℕ) (x y : List V) (x' y' : List W) (c : V) (c' : W) → All2 R x x' → All2 R y y' → R c c'
      → Same R All2 (sums n x y c) (sums n x' y' c')
  Same-sums R n x y x' y' c c' hx hy hc =
      Same-then SameCarried All2 R (chain x y c c (n - 1)) (chain x' y' c' c' (n - 1)) (last_sum x y c (n - 1)) (last_sum x' y' c' (n - 1))
      (Same-chain R x y x' y' c c c' c' hx hy hc hc (n - 1))
      (λ T more a b k. Same-last_sum T x y x' y' c c' (All2-up R T x x' more hx) (All2-up R T y y' more hy) (more c c' hc) (n - 1) a b k)

  pub Same-add : (R : V → W → Type 0) (n : ℕ) (x y : List V) (x' y' : List W) → All2 R x x' → All2 R y y' → Same R All2 (add_circuit n x y) (add_circuit n x' y')
  Same-add R n x y x' y' hx hy = (
    refl,
    λ z z'. Same-sums (λ v w. R v w ⊎ ((v ≡ z) × (w ≡ z'))) n x y x' y' z z' (All2-up R _ x x' (λ v w e. inl e) hx) (All2-up R _ y y' (λ v w e. inl e) hy) (inr (refl, refl)),
  )

  pub Same-flips : (R : V → W → Type 0) (x : List V) (x' : List W) (d : V) (d' : W) (n : ℕ) → All2 R x x' → R d d' → Same R All2 (flips x d n) (flips x' d' n)
  Same-flips R x x' d d' n hx hd =
      Same-row R (λ i. flip (get_or x i d) (λ w. give w)) (λ i. flip (get_or x' i d') (λ w. give w)) n
      (λ i P up. (up _ _ (All2-at R x x' d d' i hd hx), λ w w'. inr (refl, refl)))

  pub Same-subtract : (R : V → W → Type 0) (n : ℕ) (x y : List V) (x' y' : List W) → All2 R x x' → All2 R y y' → Same R All2 (subtract_circuit n x y) (subtract_circuit n x' y')
  Same-subtract R n x y x' y' hx hy = (
    refl,
    λ z z'.
        let P : V → W → Type 0 = λ v w. R v w ⊎ ((v ≡ z) × (w ≡ z')) in
        let pz : P z z' = inr (refl, refl) in
        Same-then All2 All2 P (flips y z n) (flips y' z' n) (λ ny. sums n x ny z) (λ ny. sums n x' ny z')
        (Same-flips P y y' z z' n (All2-up R P y y' (λ v w e. inl e) hy) pz)
        (λ T more ny ny' k. Same-sums T n x ny x' ny' z z' (All2-up R T x x' (λ v w e. more v w (inl e)) hx) k (more z z' pz)),
  )

  pub Same-negate : (R : V → W → Type 0) (n : ℕ) (x : List V) (x' : List W) → All2 R x x' → Same R All2 (negate_circuit n x) (negate_circuit n x')
  Same-negate R n x x' hx = (
    refl,
    λ z z'. Same-subtract (λ v w. R v w ⊎ ((v ≡ z) × (w ≡ z'))) n (replicate n z) x (replicate n z') x' (All2-replicate _ n z z' (inr (refl, refl))) (All2-up R _ x x' (λ v w e. inl e) hx),
  )

  pub Same-biased : (R : V → W → Type 0) (signed : Bool) (n : ℕ) (x : List V) (x' : List W) (d : V) (d' : W) → All2 R x x' → R d d' → Same R All2 (biased signed n x d) (biased signed n x' d')
  Same-biased R true n x x' d d' hx hd = (
    All2-at R x x' d d' (n - 1) hd hx,
    λ t t'. All2-push _ (take (n - 1) x) (take (n - 1) x') t t' (All2-up R _ (take (n - 1) x) (take (n - 1) x') (λ v w e. inl e) (All2-take R (n - 1) x x' hx)) (inr (refl, refl)),
  )
  Same-biased R false n x x' d d' hx hd = hx

  pub Same-less : (R : V → W → Type 0) (signed : Bool) (n : ℕ) (x y : List V) (x' y' : List W) → All2 R x x' → All2 R y y' → Same R All2 (less_circuit signed n x y) (less_circuit signed n x' y')
  Same-less R signed n x y x' y' hx hy = (
    refl,
    λ z z'.
        let P : V → W → Type 0 = λ v w. R v w ⊎ ((v ≡ z) × (w ≡ z')) in
        let pz : P z z' = inr (refl, refl) in
        let px = All2-up R P x x' (λ v w e. inl e) hx in
        let py = All2-up R P y y' (λ v w e. inl e) hy in
        Same-then All2 All2 P (biased signed n x z) (biased signed n x' z') _ _ (Same-biased P signed n x x' z z' px pz)
        (λ A upA u u' hu. Same-then All2 All2 A (biased signed n y z) (biased signed n y' z') _ _ (Same-biased A signed n y y' z z' (All2-up P A y y' upA py) (upA z z' pz))
        (λ B upB t t' ht.
        let bz : B z z' = upB z z' (upA z z' pz) in
        Same-then All2 All2 B (flips t z n) (flips t' z' n) _ _ (Same-flips B t t' z z' n ht bz)
        (λ C upC nt nt' hn. Same-then SameCarried All2 C (chain u nt z z n) (chain u' nt' z' z' n) _ _
        (Same-chain C u nt u' nt' z z z' z' (All2-up A C u u' (λ v w e. upC v w (upB v w e)) hu) hn (upC z z' bz) (upC z z' bz) n)
        (λ D upD a a' ha. (ha.1, λ l l'. (inr (refl, refl), tt)))))),
  )

  pub Same-conjunction : (R : V → W → Type 0) (f : ℕ → Circuit V V) (g : ℕ → Circuit W W) (n : ℕ)
      → ((i : ℕ) (P : V → W → Type 0) → ((v : V) (w : W) → R v w → P v w) → Same P SameWire (f i) (g i)) → Same R SameWire (conjunction f n) (conjunction g n)
  Same-conjunction R f g n each =
      Same-then SameWire SameWire R (f 0) (g 0) _ _ (each 0 R (λ v w e. e))
      (λ P up z z' hz. Same-times SameWire P (λ i t. then (f (i + 1)) (λ z. meet t z (λ u. give u))) (λ i t. then (g (i + 1)) (λ z. meet t z (λ u. give u))) z z' (n - 1)
      (λ i T more t t' ht. Same-then SameWire SameWire T (f (i + 1)) (g (i + 1)) _ _ (each (i + 1) T (λ v w e. more v w (up v w e)))
      (λ U on u u' hu. (on t t' ht, hu, λ r r'. inr (refl, refl))))
      hz)

  pub Same-equal : (R : V → W → Type 0) (n : ℕ) (x y : List V) (x' y' : List W) (d : V) (d' : W) → All2 R x x' → All2 R y y' → R d d'
      → Same R All2 (equal_circuit n x y d) (equal_circuit n x' y' d')
  Same-equal R n x y x' y' d d' hx hy hd =
      Same-then SameWire All2 R (conjunction (alike x y d) n) (conjunction (alike x' y' d') n) _ _
      (Same-conjunction R (alike x y d) (alike x' y' d') n
      (λ i P up. (up _ _ (All2-at R x x' d d' i hd hx), up _ _ (All2-at R y y' d d' i hd hy), λ p p'. (inr (refl, refl), λ z z'. inr (refl, refl)))))
      (λ P up t t' ht. (ht, tt))

  pub Same-to_bool : (R : V → W → Type 0) (n : ℕ) (x : List V) (x' : List W) (d : V) (d' : W) → All2 R x x' → R d d' → Same R All2 (to_bool_circuit n x d) (to_bool_circuit n x' d')
  Same-to_bool R n x x' d d' hx hd =
      Same-then SameWire All2 R (conjunction (other x d) n) (conjunction (other x' d') n) _ _
      (Same-conjunction R (other x d) (other x' d') n (λ i P up. (up _ _ (All2-at R x x' d d' i hd hx), λ z z'. inr (refl, refl))))
      (λ P up t t' ht. (ht, λ r r'. (inr (refl, refl), tt)))
