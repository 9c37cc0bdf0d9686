-- The calls that play chains of carries and comparisons.
use Rattle.std.proofs.Common.{◌≡◌, ℕ, Bool, true, false, replicate, ◌+◌, ◌-◌, List, [], ◌∷◌, ◌++◌, get_or, take, refl, ap, sym, subst}
use Rattle.gate_core.specs.Circuit.{Circuit, Calls, Plays, then, times}
use Rattle.gate_core.specs.Circuit.Circuit.{give, flip, meet}
use Rattle.gate_core.proofs.Playing.{Plays-then}
use Rattle.word_circuits.specs.Chains.{Carried, adder, chain, chain_step, last_sum, sums, add_circuit, flips, subtract_circuit, negate_circuit, biased, less_circuit, conjunction, alike, other, equal_circuit, to_bool_circuit}

module _ {S W : Type 0} (m : Calls S W) where
  pub Plays-chain_step : (x y : List W) (d : W) (i : ℕ) (a : Carried W) (s t : S) (u v : W) (r : W × W)
      → u ≡ get_or x i d → v ≡ get_or y i d → Plays m (adder u v a.carry) s r t
      → Plays m (chain_step x y d i a) s (record { sums = a.sums ++ r.0 ∷ []; carry = r.1 }) t
  Plays-chain_step x y d i a s t u v r eu ev h =
      let new : Carried W = record { sums = a.sums ++ r.0 ∷ []; carry = r.1 } in
      subst (λ k. Plays m (then (adder k (get_or y i d) a.carry) (λ r. give (record { sums = a.sums ++ r.0 ∷ []; carry = r.1 }))) s new t) eu
      (subst (λ k. Plays m (then (adder u k a.carry) (λ r. give (record { sums = a.sums ++ r.0 ∷ []; carry = r.1 }))) s new t) ev
      (Plays-then m (adder u v a.carry) (λ r. give (record { sums = a.sums ++ r.0 ∷ []; carry = r.1 })) s t t r new h (refl, refl)))

  pub Plays-last_sum : (x y : List W) (d : W) (i : ℕ) (a : Carried W) (s : S) (u v p sum : W)
      → u ≡ get_or x i d → v ≡ get_or y i d → p ≡ m.xor_wire s u a.carry → sum ≡ m.xor_wire s p v
      → Plays m (last_sum x y d i a) s (a.sums ++ sum ∷ []) s
  Plays-last_sum x y d i a s u v p sum eu ev ep es = rw (← eu, ← ev, ← ep, ← es) (refl, refl)

  pub Plays-sums : (w : ℕ) (x y : List W) (c : W) (a : Carried W) (s t : S) (r : List W)
      → Plays m (chain x y c c (w - 1)) s a t → Plays m (last_sum x y c (w - 1) a) t r t → Plays m (sums w x y c) s r t
  Plays-sums w x y c a s t r h k = Plays-then m (chain x y c c (w - 1)) (last_sum x y c (w - 1)) s t t a r h k

  pub Plays-add : (w : ℕ) (x y : List W) (c : W) (s t : S) (r : List W) → c ≡ m.known_wire s false → Plays m (sums w x y c) s r t → Plays m (add_circuit w x y) s r t
  Plays-add w x y c s t r e h = subst (λ v. Plays m (sums w x y v) s r t) e h

  pub Plays-subtract : (w : ℕ) (x y : List W) (c : W) (ny ny2 : List W) (s t : S) (r : List W) → c ≡ m.known_wire s true → ny2 ≡ ny
      → Plays m (flips y c w) s ny s → Plays m (sums w x ny2 c) s r t → Plays m (subtract_circuit w x y) s r t
  Plays-subtract w x y c ny ny2 s t r e en h k =
      subst (λ v. Plays m (then (flips y v w) (λ ny. sums w x ny v)) s r t) e
      (Plays-then m (flips y c w) (λ ny. sums w x ny c) s s t ny r h (subst (λ v. Plays m (sums w x v c) s r t) en k))

  pub Plays-negate : (w : ℕ) (x x2 z : List W) (c : W) (s t : S) (r : List W) → c ≡ m.known_wire s false → z ≡ replicate w c → x2 ≡ x
      → Plays m (subtract_circuit w z x2) s r t → Plays m (negate_circuit w x) s r t
  Plays-negate w x x2 z c s t r e ez ex h =
      subst (λ v. Plays m (subtract_circuit w (replicate w v) x) s r t) e
      (subst (λ v. Plays m (subtract_circuit w v x) s r t) ez (subst (λ v. Plays m (subtract_circuit w z v) s r t) ex h))

  pub Plays-biased : (x : List W) (d : W) (w : ℕ) (s : S) (u t : W) (l : List W) → u ≡ get_or x (w - 1) d → t ≡ m.not_wire s u → l ≡ take (w - 1) x
      → Plays m (biased true w x d) s (l ++ t ∷ []) s
  Plays-biased x d w s u t l eu et el = rw (← eu, ← et, el) (refl, refl)

  pub Plays-less : (signed : Bool) (w : ℕ) (x y : List W) (c : W) (u v nv v2 u2 nv2 : List W) (a : Carried W) (s t : S) (l : W)
      → c ≡ m.known_wire s true → v2 ≡ v → u2 ≡ u → nv2 ≡ nv
      → Plays m (biased signed w x c) s u s → Plays m (biased signed w y c) s v s → Plays m (flips v2 c w) s nv s
      → Plays m (chain u2 nv2 c c w) s a t → l ≡ m.not_wire t a.carry → Plays m (less_circuit signed w x y) s (l ∷ []) t
  Plays-less signed w x y c u v nv v2 u2 nv2 a s t l e ev eu en hx hy hn hc el =
      subst (λ c. Plays m (then (biased signed w x c) (λ u. then (biased signed w y c) (λ v. then (flips v c w) (λ nv. then (chain u nv c c w) (λ a. flip a.carry (λ l. give (l ∷ [])))))))
      s (l ∷ []) t) e
      (Plays-then m (biased signed w x c) _ s s t u (l ∷ []) hx
      (Plays-then m (biased signed w y c) _ s s t v (l ∷ []) hy
      (Plays-then m (flips v c w) _ s s t nv (l ∷ []) (subst (λ k. Plays m (flips k c w) s nv s) ev hn)
      (Plays-then m (chain u nv c c w) _ s t t a (l ∷ []) (subst (λ k. Plays m (chain u k c c w) s a t) en (subst (λ k. Plays m (chain k nv2 c c w) s a t) eu hc))
      (ap (λ (k : W). k ∷ []) (sym el), refl)))))

  -- one wire more of a conjunction
  pub Plays-conjunction_step : (f : ℕ → Circuit W W) (i : ℕ) (t z r : W) (s e : S) → Plays m (f (i + 1)) s z s → m.and_is s t z r e
      → Plays m (then (f (i + 1)) (λ z. meet t z (λ u. give u))) s r e
  Plays-conjunction_step f i t z r s e h k = Plays-then m (f (i + 1)) (λ z. meet t z (λ u. give u)) s s e z r h (r, e, k, (refl, refl))

  pub Plays-conjunction : (f : ℕ → Circuit W W) (w n : ℕ) (z r : W) (s e : S) → n ≡ w - 1 → Plays m (f 0) s z s
      → Plays m (times n (λ i t. then (f (i + 1)) (λ z. meet t z (λ u. give u))) z) s r e → Plays m (conjunction f w) s r e
  Plays-conjunction f w n z r s e en h k =
      Plays-then m (f 0) (times (w - 1) (λ i t. then (f (i + 1)) (λ z. meet t z (λ u. give u)))) s s e z r h
      (subst (λ n. Plays m (times n (λ i t. then (f (i + 1)) (λ z. meet t z (λ u. give u))) z) s r e) en k)

  pub Plays-alike : (x y : List W) (d : W) (i : ℕ) (s : S) (u v r : W) → u ≡ get_or x i d → v ≡ get_or y i d → r ≡ m.not_wire s (m.xor_wire s u v)
      → Plays m (alike x y d i) s r s
  Plays-alike x y d i s u v r eu ev er = rw (← eu, ← ev, ← er) (refl, refl)

  pub Plays-other : (x : List W) (d : W) (i : ℕ) (s : S) (u r : W) → u ≡ get_or x i d → r ≡ m.not_wire s u → Plays m (other x d i) s r s
  Plays-other x d i s u r eu er = rw (← eu, ← er) (refl, refl)

  pub Plays-equal : (w : ℕ) (x y : List W) (d t : W) (s e : S) → Plays m (conjunction (alike x y d) w) s t e → Plays m (equal_circuit w x y d) s (t ∷ []) e
  Plays-equal w x y d t s e h = Plays-then m (conjunction (alike x y d) w) (λ t. give (t ∷ [])) s e e t (t ∷ []) h (refl, refl)

  pub Plays-to_bool : (w : ℕ) (x : List W) (d t r : W) (s e : S) → Plays m (conjunction (other x d) w) s t e → r ≡ m.not_wire e t → Plays m (to_bool_circuit w x d) s (r ∷ []) e
  Plays-to_bool w x d t r s e h er = Plays-then m (conjunction (other x d) w) (λ t. flip t (λ r. give (r ∷ []))) s e e t (r ∷ []) h (ap (λ (k : W). k ∷ []) (sym er), refl)
