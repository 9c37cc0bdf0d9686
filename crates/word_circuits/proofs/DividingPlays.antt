-- The calls that play divisions.
use Rattle.std.proofs.Common.{◌≡◌, ℕ, zero, suc, ◌+◌, ◌-◌, ◌<◌, true, false, List, [], ◌∷◌, ◌++◌, length, get_or, take, replicate, refl, ap, ◌∙◌, sym, arith, subst}
use Rattle.std.proofs.lemmas.List.{get_or-take, take_at, get_or_push}
use Rattle.gate_core.specs.Circuit.{Circuit, Calls, Plays, then, times}
use Rattle.gate_core.specs.Circuit.Circuit.{give, known, flip, join}
use Rattle.gate_core.proofs.Playing.{Plays-then, Plays-more, Plays-row_more}
use Rattle.word_circuits.specs.Chains.{Carried, adder, chain, chain_step, flips}
use Rattle.word_circuits.specs.Choices.{choose, choose_bit}
use Rattle.word_circuits.specs.Divisions.{Divided, divide_bit, divide_step, divide_circuit, negate_step, last_negated, cond_negate, divide_sizes, quotient_circuit, remainder_circuit}
use Rattle.word_circuits.proofs.AddingPlays.{Plays-chain_step}

-- turns that are the same below n
times-front : {W A : Type 0} (f g : ℕ → A → Circuit W A) (a : A) (n : ℕ) → ((i : ℕ) → i < n → f i ≡ g i) → times n f a ≡ times n g a
times-front f g a zero h = refl
times-front {W} {A} f g a (suc n) h =
    ap (λ (c : Circuit W A). then c (f n)) (times-front f g a n (λ i lt. h i (omega (arith, lt)))) ∙ ap (λ (k : A → Circuit W A). then (times n g a) k) (h n (omega arith))

-- a turn of a chain, of a choice, of a row of turned wires
abbrev chained : {W : Type 0} → W → W → Carried W → Circuit W (Carried W)
chained u v a = then (adder u v a.carry) (λ r. give (record { sums = a.sums ++ r.0 ∷ []; carry = r.1 }))

abbrev chosen : {W : Type 0} → W → W → W → W → List W → Circuit W (List W)
chosen e u v z ws = then (choose_bit e u v z) (λ w. give (ws ++ w ∷ []))

abbrev flipped : {W : Type 0} → W → List W → Circuit W (List W)
flipped u ws = then (flip u (λ w. give w)) (λ w. give (ws ++ w ∷ []))

-- a chain takes the first places of its words
pub chain-front : {W : Type 0} (x y : List W) (d c : W) (n : ℕ) → chain x y d c n ≡ chain (take n x) (take n y) d c n
chain-front {W} x y d c n =
    times-front (chain_step x y d) (chain_step (take n x) (take n y) d) (record { sums = []; carry = c }) n
    (λ i lt.
    ap (λ (u : W). chained u (get_or y i d)) (sym (get_or-take n x i d lt)) ∙ ap (λ (u : W). chained (get_or (take n x) i d) u) (sym (get_or-take n y i d lt)))

-- and so does a choice
pub choose-front : {W : Type 0} (e : W) (x y z : List W) (d : W) (n : ℕ) → choose e x y z d n ≡ choose e (take n x) (take n y) (take n z) d n
choose-front {W} e x y z d n =
    times-front (λ i. chosen e (get_or x i d) (get_or y i d) (get_or z i d)) (λ i. chosen e (get_or (take n x) i d) (get_or (take n y) i d) (get_or (take n z) i d)) [] n
    (λ i lt.
    ap (λ (u : W). chosen e u (get_or y i d) (get_or z i d)) (sym (get_or-take n x i d lt))
    ∙ ap (λ (u : W). chosen e (get_or (take n x) i d) u (get_or z i d)) (sym (get_or-take n y i d lt))
    ∙ ap (λ (u : W). chosen e (get_or (take n x) i d) (get_or (take n y) i d) u) (sym (get_or-take n z i d lt)))

-- and turned wires
pub flips-front : {W : Type 0} (x : List W) (d : W) (n : ℕ) → flips x d n ≡ flips (take n x) d n
flips-front {W} x d n =
    times-front (λ i. flipped (get_or x i d)) (λ i. flipped (get_or (take n x) i d)) [] n (λ i lt. ap (λ (u : W). flipped u) (sym (get_or-take n x i d lt)))

module _ {S W : Type 0} (m : Calls S W) where
  -- the divisor turned, and above it the zero wire
  pub Plays-turned_divisor : (y : List W) (low high above : W) (w : ℕ) (ny : List W) (s : S) → length y ≡ w → above ≡ m.not_wire s low
      → Plays m (flips y high w) s ny s → Plays m (flips (y ++ low ∷ []) high (w + 1)) s (ny ++ above ∷ []) s
  Plays-turned_divisor y low high above w ny s ly ea h =
      let front : flips (y ++ low ∷ []) high w ≡ flips y high w = flips-front (y ++ low ∷ []) high w ∙ ap (λ l. flips l high w) (take_at y (low ∷ []) w ly) in
      let top : get_or (y ++ low ∷ []) w high ≡ low = get_or_push y low high w ly in
      Plays-row_more m (λ i. flip (get_or (y ++ low ∷ []) i high) (λ w. give w)) w ny above s s s (subst (λ c. Plays m c s ny s) (sym front) h)
      (ap (λ v. m.not_wire s v) top ∙ sym ea, refl)

  Plays-divide_bit : (u : W) (ny : List W) (high : W) (rest : List W) (w : ℕ) (s v e : S) (b : Carried W) (r : List W)
      → Plays m (chain (u ∷ rest) ny high high (w + 1)) s b v → Plays m (choose b.carry b.sums (u ∷ rest) (u ∷ rest) high w) v r e
      → Plays m (divide_bit u ny high rest w) s (b.carry, r) e
  Plays-divide_bit u ny high rest w s v e b r h k =
      Plays-then m (chain (u ∷ rest) ny high high (w + 1)) (λ b. then (choose b.carry b.sums (u ∷ rest) (u ∷ rest) high w) (λ r. give (b.carry, r))) s v e b (b.carry, r) h
      (Plays-then m (choose b.carry b.sums (u ∷ rest) (u ∷ rest) high w) (λ r. give (b.carry, r)) v e e r (b.carry, r) k (refl, refl))

  -- the top place by an adder of its own, so that no word has a place more
  pub Plays-divide_bit_top : (u : W) (turned : List W) (above high : W) (rest taken t2 t3 sums s2 : List W) (w : ℕ) (s a v e : S) (carry x : W) (last : W × W) (r : List W)
      → 0 < w → length rest ≡ w → length turned ≡ w → length sums ≡ w → taken ≡ u ∷ take (w - 1) rest → t2 ≡ taken → t3 ≡ taken → s2 ≡ sums → x ≡ get_or rest (w - 1) high
      → Plays m (chain taken turned high high w) s (record { sums = sums; carry = carry }) a
      → Plays m (adder x above carry) a last v
      → Plays m (choose last.1 s2 t2 t3 high w) v r e
      → Plays m (divide_bit u (turned ++ above ∷ []) high rest w) s (last.1, r) e
  Plays-divide_bit_top u turned above high rest taken t2 t3 sums s2 zero s a v e carry x last r some lr lt ls et e2 e3 es ex h top k = absurd (omega (arith, some))
  Plays-divide_bit_top u turned above high rest taken t2 t3 sums s2 (suc n) s a v e carry x last r some lr lt ls et e2 e3 es ex h top k =
      let w = suc n in
      let t = u ∷ rest in
      let ny = turned ++ above ∷ [] in
      let one : w - 1 ≡ n = omega arith in
      let eu : taken ≡ take w t = et ∙ ap (λ i. u ∷ take i rest) one in
      let ey : turned ≡ take w ny = sym (take_at turned (above ∷ []) w lt) in
      let hc : chain t ny high high w ≡ chain taken turned high high w =
      chain-front t ny high high w ∙ ap (λ l. chain l (take w ny) high high w) (sym eu) ∙ ap (λ l. chain taken l high high w) (sym ey) in
      let h2 = subst (λ c. Plays m c s (record { sums = sums; carry = carry }) a) (sym hc) h in
      let place : x ≡ get_or t w high = ex ∙ ap (λ i. get_or rest i high) one in
      let over : above ≡ get_or ny w high = sym (get_or_push turned above high w lt) in
      let b : Carried W = record { sums = sums ++ last.0 ∷ []; carry = last.1 } in
      let all = Plays-more m (chain_step t ny high) w _ _ _ s a v h2 (Plays-chain_step m t ny high w (record { sums = sums; carry = carry }) a v x above last place over top) in
      let fs : take w (sums ++ last.0 ∷ []) ≡ sums = take_at sums (last.0 ∷ []) w ls in
      let kc : choose last.1 (sums ++ last.0 ∷ []) t t high w ≡ choose last.1 s2 t2 t3 high w =
      choose-front last.1 (sums ++ last.0 ∷ []) t t high w ∙ ap (λ l. choose last.1 l (take w t) (take w t) high w) (fs ∙ sym es)
      ∙ ap (λ l. choose last.1 s2 l (take w t) high w) (sym eu ∙ sym e2) ∙ ap (λ l. choose last.1 s2 t2 l high w) (sym eu ∙ sym e3) in
      Plays-divide_bit u ny high rest w s v e b r all (subst (λ c. Plays m c v r e) (sym kc) k)

  pub Plays-divide_step : (w : ℕ) (x ny : List W) (high : W) (i : ℕ) (a : Divided W) (s t : S) (u : W) (r : W × List W)
      → u ≡ get_or x (w - 1 - i) high → Plays m (divide_bit u ny high a.rest w) s r t
      → Plays m (divide_step w x ny high i a) s (record { quotient = r.0 ∷ a.quotient; rest = r.1 }) t
  Plays-divide_step w x ny high i a s t u r eu h =
      let new : Divided W = record { quotient = r.0 ∷ a.quotient; rest = r.1 } in
      subst (λ k. Plays m (then (divide_bit k ny high a.rest w) (λ q. give (record { quotient = q.0 ∷ a.quotient; rest = q.1 }))) s new t) eu
      (Plays-then m (divide_bit u ny high a.rest w) (λ q. give (record { quotient = q.0 ∷ a.quotient; rest = q.1 })) s t t r new h (refl, refl))

  pub Plays-divide : (w : ℕ) (x y : List W) (low high : W) (ny start : List W) (n : ℕ) (a : Divided W) (s t : S)
      → n ≡ w → low ≡ m.known_wire s false → high ≡ m.known_wire s true → start ≡ replicate w low
      → Plays m (flips (y ++ low ∷ []) high (w + 1)) s ny s → Plays m (times n (divide_step w x ny high) (record { quotient = []; rest = start })) s a t
      → Plays m (divide_circuit w x y) s a t
  Plays-divide w x y z o ny start n a s t en ez eo el h k =
      subst (λ low. Plays m (known true (λ high. then (flips (y ++ low ∷ []) high (w + 1)) (λ ny. times w (divide_step w x ny high) (record { quotient = []; rest = replicate w low })))) s a t) ez
      (subst (λ high. Plays m (then (flips (y ++ z ∷ []) high (w + 1)) (λ ny. times w (divide_step w x ny high) (record { quotient = []; rest = replicate w z }))) s a t) eo
      (Plays-then m (flips (y ++ z ∷ []) o (w + 1)) (λ ny. times w (divide_step w x ny o) (record { quotient = []; rest = replicate w z })) s s t ny a h
      (subst (λ v. Plays m (times w (divide_step w x ny o) (record { quotient = []; rest = v })) s a t) el
      (subst (λ v. Plays m (times v (divide_step w x ny o) (record { quotient = []; rest = start })) s a t) en k))))

  pub Plays-negate_step : (x : List W) (b d : W) (i : ℕ) (a : Carried W) (s t : S) (u y z c : W)
      → u ≡ get_or x i d → y ≡ m.xor_wire s u b → z ≡ m.xor_wire s y a.carry → m.and_is s y a.carry c t
      → Plays m (negate_step x b d i a) s (record { sums = a.sums ++ z ∷ []; carry = c }) t
  Plays-negate_step x b d i a s t u y z c eu ey ez h = rw (← eu, ← ey, ← ez) (c, t, h, (refl, refl))

  pub Plays-cond_negate : (w : ℕ) (b : W) (x : List W) (d : W) (n : ℕ) (a : Carried W) (s t : S) (u y z : W)
      → n ≡ w - 1 → Plays m (times n (negate_step x b d) (record { sums = []; carry = b })) s a t
      → u ≡ get_or x (w - 1) d → y ≡ m.xor_wire t u b → z ≡ m.xor_wire t y a.carry
      → Plays m (cond_negate w b x d) s (a.sums ++ z ∷ []) t
  Plays-cond_negate w b x d n a s t u y z en h eu ey ez =
      Plays-then m (times (w - 1) (negate_step x b d) (record { sums = []; carry = b })) (last_negated x b d (w - 1)) s t t a (a.sums ++ z ∷ [])
      (subst (λ k. Plays m (times k (negate_step x b d) (record { sums = []; carry = b })) s a t) en h) (rw (← eu, ← ey, ← ez) (refl, refl))

  pub Plays-divide_sizes : (w : ℕ) (x y : List W) (d u v : W) (a a2 b b2 : List W) (r : Divided W) (s s2 s3 t : S)
      → u ≡ get_or x (w - 1) d → v ≡ get_or y (w - 1) d → a2 ≡ a → b2 ≡ b
      → Plays m (cond_negate w u x d) s a s2 → Plays m (cond_negate w v y d) s2 b s3 → Plays m (divide_circuit w a2 b2) s3 r t
      → Plays m (divide_sizes w x y d) s r t
  Plays-divide_sizes w x y d u v a a2 b b2 r s s2 s3 t eu ev ea eb h k l =
      Plays-then m (cond_negate w (get_or x (w - 1) d) x d) (λ a. then (cond_negate w (get_or y (w - 1) d) y d) (λ b. divide_circuit w a b)) s s2 t a r
      (subst (λ c. Plays m (cond_negate w c x d) s a s2) eu h)
      (Plays-then m (cond_negate w (get_or y (w - 1) d) y d) (λ b. divide_circuit w a b) s2 s3 t b r (subst (λ c. Plays m (cond_negate w c y d) s2 b s3) ev k)
      (subst (λ n. Plays m (divide_circuit w a n) s3 r t) eb (subst (λ n. Plays m (divide_circuit w n b2) s3 r t) ea l)))

  pub Plays-quotient : (w : ℕ) (x y : List W) (d : W) (a : Divided W) (s t : S) → Plays m (divide_circuit w x y) s a t → Plays m (quotient_circuit false w x y d) s a.quotient t
  Plays-quotient w x y d a s t h = Plays-then m (divide_circuit w x y) (λ a. give a.quotient) s t t a a.quotient h (refl, refl)

  pub Plays-remainder : (w : ℕ) (x y : List W) (d : W) (a : Divided W) (s t : S) → Plays m (divide_circuit w x y) s a t → Plays m (remainder_circuit false w x y d) s a.rest t
  Plays-remainder w x y d a s t h = Plays-then m (divide_circuit w x y) (λ a. give a.rest) s t t a a.rest h (refl, refl)

  pub Plays-signed_quotient : (w : ℕ) (x y : List W) (d u v c : W) (a : Divided W) (q r : List W) (s e t : S)
      → u ≡ get_or x (w - 1) d → v ≡ get_or y (w - 1) d → c ≡ m.xor_wire e u v → q ≡ a.quotient
      → Plays m (divide_sizes w x y d) s a e → Plays m (cond_negate w c q d) e r t → Plays m (quotient_circuit true w x y d) s r t
  Plays-signed_quotient w x y d u v c a q r s e t eu ev ec eq h k =
      let sign : c ≡ m.xor_wire e (get_or x (w - 1) d) (get_or y (w - 1) d) = ec ∙ ap (λ z. m.xor_wire e z v) eu ∙ ap (λ z. m.xor_wire e (get_or x (w - 1) d) z) ev in
      Plays-then m (divide_sizes w x y d) (λ a. join (get_or x (w - 1) d) (get_or y (w - 1) d) (λ s. cond_negate w s a.quotient d)) s e t a r h
      (subst (λ z. Plays m (cond_negate w z a.quotient d) e r t) sign (subst (λ z. Plays m (cond_negate w c z d) e r t) eq k))

  pub Plays-signed_remainder : (w : ℕ) (x y : List W) (d u : W) (a : Divided W) (q r : List W) (s e t : S)
      → u ≡ get_or x (w - 1) d → q ≡ a.rest
      → Plays m (divide_sizes w x y d) s a e → Plays m (cond_negate w u q d) e r t → Plays m (remainder_circuit true w x y d) s r t
  Plays-signed_remainder w x y d u a q r s e t eu eq h k =
      Plays-then m (divide_sizes w x y d) (λ a. cond_negate w (get_or x (w - 1) d) a.rest d) s e t a r h
      (subst (λ z. Plays m (cond_negate w z a.rest d) e r t) eu (subst (λ z. Plays m (cond_negate w u z d) e r t) eq k))
