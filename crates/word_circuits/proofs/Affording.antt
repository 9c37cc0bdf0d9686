-- Room for the parts of circuits.
use Rattle.std.proofs.Common.{◌≡◌, ℕ, zero, suc, ◌+◌, ◌-◌, ◌^◌, ◌<◌, Bool, true, false, List, [], ◌∷◌, ◌++◌, length, get_or, take, drop, replicate, ap, ◌∙◌, sym, arith, subst}
use Rattle.std.proofs.lemmas.List.{take_at, get_or_push}
use Rattle.gate_core.specs.Circuit.{Circuit, Calls, Plays, Affords, then, times}
use Rattle.gate_core.specs.Circuit.Circuit.{give, known, flip, join, meet}
use Rattle.gate_core.proofs.Playing.{Plays-more}
use Rattle.gate_core.proofs.Affording.{Affords-first, Affords-next, Affords-turn}
use Rattle.word_circuits.specs.Chains.{Carried, adder, chain, chain_step, sums, flips, subtract_circuit, biased, less_circuit, conjunction}
use Rattle.word_circuits.specs.Choices.{choose, moved, moved_in, shift_step, shift_word_circuit}
use Rattle.word_circuits.specs.Widths.{log2}
use Rattle.word_circuits.specs.Divisions.{Divided, divide_bit, divide_step, divide_circuit, cond_negate, divide_sizes, quotient_circuit, remainder_circuit}
use Rattle.word_circuits.specs.Products.{part, multiply_row, multiply_step, multiply_circuit}
use Rattle.word_circuits.specs.Chains.{add_circuit}
use Rattle.word_circuits.proofs.AddingPlays.{Plays-chain_step}
use Rattle.word_circuits.proofs.DividingPlays.{chain-front, choose-front}

-- what holds of wires holds of those that they are
pub of_one : {W : Type 0} (P : W → Type 0) (u u2 : W) → u ≡ u2 → P u2 → P u
of_one P u u2 e h = subst P (sym e) h

pub of_two : {W : Type 0} (P : W → W → Type 0) (u u2 v v2 : W) → u ≡ u2 → v ≡ v2 → P u2 v2 → P u v
of_two P u u2 v v2 e f h = of_one (λ x. P x v) u u2 e (of_one (λ y. P u2 y) v v2 f h)

pub of_three : {W : Type 0} (P : W → W → W → Type 0) (u u2 v v2 z z2 : W) → u ≡ u2 → v ≡ v2 → z ≡ z2 → P u2 v2 z2 → P u v z
of_three P u u2 v v2 z z2 e f g h = of_one (λ x. P x v z) u u2 e (of_two (λ y q. P u2 y q) v v2 z z2 f g h)

-- the chain of a bit of a division takes the places of the rest that are left
divide_chain : {W : Type 0} (u : W) (turned : List W) (above high : W) (rest taken : List W) (w : ℕ) → 0 < w → length turned ≡ w → taken ≡ u ∷ take (w - 1) rest
    → chain (u ∷ rest) (turned ++ above ∷ []) high high w ≡ chain taken turned high high w
divide_chain u turned above high rest taken zero some lt et = absurd (omega (arith, some))
divide_chain u turned above high rest taken (suc n) some lt et =
    let w = suc n in
    let ny = turned ++ above ∷ [] in
    let one : w - 1 ≡ n = omega arith in
    let eu : taken ≡ take w (u ∷ rest) = et ∙ ap (λ i. u ∷ take i rest) one in
    let ey : turned ≡ take w ny = sym (take_at turned (above ∷ []) w lt) in
    chain-front (u ∷ rest) ny high high w ∙ ap (λ l. chain l (take w ny) high high w) (sym eu) ∙ ap (λ l. chain taken l high high w) (sym ey)

-- and so does its choice
divide_choice : {W : Type 0} (e u : W) (high last : W) (rest taken t2 t3 sums s2 : List W) (w : ℕ) → 0 < w → length sums ≡ w → taken ≡ u ∷ take (w - 1) rest
    → t2 ≡ taken → t3 ≡ taken → s2 ≡ sums
    → choose e (sums ++ last ∷ []) (u ∷ rest) (u ∷ rest) high w ≡ choose e s2 t2 t3 high w
divide_choice e u high last rest taken t2 t3 sums s2 zero some ls et e2 e3 es = absurd (omega (arith, some))
divide_choice e u high last rest taken t2 t3 sums s2 (suc n) some ls et e2 e3 es =
    let w = suc n in
    let t = u ∷ rest in
    let one : w - 1 ≡ n = omega arith in
    let eu : taken ≡ take w t = et ∙ ap (λ i. u ∷ take i rest) one in
    let fs : take w (sums ++ last ∷ []) ≡ sums = take_at sums (last ∷ []) w ls in
    choose-front e (sums ++ last ∷ []) t t high w ∙ ap (λ l. choose e l (take w t) (take w t) high w) (fs ∙ sym es)
    ∙ ap (λ l. choose e s2 l (take w t) high w) (sym eu ∙ sym e2) ∙ ap (λ l. choose e s2 t2 l high w) (sym eu ∙ sym e3)

next_place : {W : Type 0} (u high : W) (rest : List W) (w : ℕ) → 0 < w → get_or rest (w - 1) high ≡ get_or (u ∷ rest) w high
next_place u high rest zero some = absurd (omega (arith, some))
next_place u high rest (suc n) some = let one : suc n - 1 ≡ n = omega arith in ap (λ i. get_or rest i high) one

module _ {S W : Type 0} (m : Calls S W) where
  -- the sum in a difference
  pub Affords-subtract : (w : ℕ) (x y : List W) (c : W) (ny n2 : List W) (s : S) → c ≡ m.known_wire s true → n2 ≡ ny → Plays m (flips y c w) s ny s
      → Affords m (subtract_circuit w x y) s → Affords m (sums w x n2 c) s
  Affords-subtract w x y c ny n2 s e en p h =
      let a = subst (λ v. Affords m (then (flips y v w) (λ ny. sums w x ny v)) s) (sym e) h in
      subst (λ l. Affords m (sums w x l c) s) (sym en) (Affords-next m (flips y c w) (λ ny. sums w x ny c) s s ny a p)

  -- the chain in a comparison
  pub Affords-less : (signed : Bool) (w : ℕ) (x y : List W) (c : W) (u v nv v2 u2 nv2 : List W) (s : S)
      → c ≡ m.known_wire s true → v2 ≡ v → u2 ≡ u → nv2 ≡ nv
      → Plays m (biased signed w x c) s u s → Plays m (biased signed w y c) s v s → Plays m (flips v2 c w) s nv s
      → Affords m (less_circuit signed w x y) s → Affords m (chain u2 nv2 c c w) s
  Affords-less signed w x y c u v nv v2 u2 nv2 s e ev eu en hx hy hn h =
      let last : List W → List W → Circuit W (List W) = λ u nv. then (chain u nv c c w) (λ a. flip a.carry (λ l. give (l ∷ []))) in
      let a = subst (λ c. Affords m (then (biased signed w x c) (λ u. then (biased signed w y c) (λ v. then (flips v c w) (λ nv. then (chain u nv c c w) (λ a. flip a.carry (λ l. give (l ∷ []))))))) s) (sym e) h in
      let b = Affords-next m (biased signed w x c) (λ u. then (biased signed w y c) (λ v. then (flips v c w) (last u))) s s u a hx in
      let d = Affords-next m (biased signed w y c) (λ v. then (flips v c w) (last u)) s s v b hy in
      let f = Affords-next m (flips v c w) (last u) s s nv d (subst (λ k. Plays m (flips k c w) s nv s) ev hn) in
      let k = Affords-first m (chain u nv c c w) (λ a. flip a.carry (λ l. give (l ∷ []))) s f in
      subst (λ l. Affords m (chain l nv2 c c w) s) (sym eu) (subst (λ l. Affords m (chain u l c c w) s) (sym en) k)

  -- each AND of a conjunction
  pub Affords-conjunction : (f : ℕ → Circuit W W) (g : W → Circuit W (List W)) (w i : ℕ) (first t z : W) (s u : S)
      → i < w - 1 → Affords m (then (conjunction f w) g) s → Plays m (f 0) s first s
      → Plays m (times i (λ i t. then (f (i + 1)) (λ z. meet t z (λ u. give u))) first) s t u → Plays m (f (i + 1)) u z u → m.has_room u t z
  Affords-conjunction f g w i first t z s u lt h p q r =
      let step : ℕ → W → Circuit W W = λ i t. then (f (i + 1)) (λ z. meet t z (λ u. give u)) in
      let all = Affords-next m (f 0) (times (w - 1) step) s s first (Affords-first m (conjunction f w) g s h) p in
      let turn = Affords-turn m step first (w - 1) i s u t lt all q in
      (Affords-next m (f (i + 1)) (λ z. meet t z (λ u. give u)) u u z turn r).0

  -- the parts of a row of a product, and their sum
  pub Affords-row_sum : (w : ℕ) (x : List W) (b d : W) (j : ℕ) (p back parts parts2 : List W) (s u : S) → back ≡ drop j p → parts2 ≡ parts → length back ≡ w - j
      → Plays m (part x b d (w - j)) s parts u → Affords m (multiply_row w x b d j p) s → Affords m (add_circuit (length back) back parts2) u
  Affords-row_sum w x b d j p back parts parts2 s u eb ep lb q h =
      let a = Affords-next m (part x b d (w - j)) (λ r. then (add_circuit (w - j) (drop j p) r) (λ s. give (take j p ++ s))) s u parts h q in
      let k = Affords-first m (add_circuit (w - j) (drop j p) parts) (λ s. give (take j p ++ s)) u a in
      subst (λ n. Affords m (add_circuit n back parts2) u) (sym lb)
      (subst (λ l. Affords m (add_circuit (w - j) l parts2) u) (sym eb) (subst (λ l. Affords m (add_circuit (w - j) (drop j p) l) u) (sym ep) k))

  -- a row of a product
  pub Affords-multiply_row : (w : ℕ) (x y : List W) (d b c : W) (j : ℕ) (first sum sum2 : List W) (s v u : S) → b ≡ get_or y 0 d → c ≡ get_or y (j + 1) d → sum2 ≡ sum
      → j < w - 1 → Plays m (part x b d w) s first v → Plays m (times j (multiply_step w x y d) first) v sum u
      → Affords m (multiply_circuit w x y d) s → Affords m (multiply_row w x c d (j + 1) sum2) u
  Affords-multiply_row w x y d b c j first sum sum2 s v u eb ec es lt p q h =
      let rows = Affords-next m (part x (get_or y 0 d) d w) (times (w - 1) (multiply_step w x y d)) s v first h (subst (λ z. Plays m (part x z d w) s first v) eb p) in
      let turn = Affords-turn m (multiply_step w x y d) first (w - 1) j v u sum lt rows q in
      subst (λ l. Affords m (multiply_row w x c d (j + 1) l) u) (sym es) (subst (λ z. Affords m (multiply_row w x z d (j + 1) sum) u) (sym ec) turn)

  -- the parts of a bit of a division: the chain, the adder of the top place, the choice
  module _ (u : W) (turned : List W) (above high : W) (rest taken : List W) (w : ℕ) (s : S) (some : 0 < w) (lt : length turned ≡ w) (et : taken ≡ u ∷ take (w - 1) rest)
      (h : Affords m (divide_bit u (turned ++ above ∷ []) high rest w) s) where
    chain_whole : Affords m (chain (u ∷ rest) (turned ++ above ∷ []) high high (w + 1)) s
    chain_whole =
        Affords-first m (chain (u ∷ rest) (turned ++ above ∷ []) high high (w + 1)) (λ b. then (choose b.carry b.sums (u ∷ rest) (u ∷ rest) high w) (λ r. give (b.carry, r))) s h

    pub Affords-divide_chain : Affords m (chain taken turned high high w) s
    Affords-divide_chain =
        let t = u ∷ rest in
        let ny = turned ++ above ∷ [] in
        let one : w + 1 ≡ suc w = omega arith in
        let k = Affords-first m (chain t ny high high w) (chain_step t ny high w) s (subst (λ n. Affords m (chain t ny high high n) s) one chain_whole) in
        subst (λ c. Affords m c s) (divide_chain u turned above high rest taken w some lt et) k

    module _ (sums : List W) (carry x : W) (a : S) (ex : x ≡ get_or rest (w - 1) high) (p : Plays m (chain taken turned high high w) s (record { sums = sums; carry = carry }) a) where
      chained : Plays m (chain (u ∷ rest) (turned ++ above ∷ []) high high w) s (record { sums = sums; carry = carry }) a
      chained = subst (λ c. Plays m c s (record { sums = sums; carry = carry }) a) (sym (divide_chain u turned above high rest taken w some lt et)) p

      top : x ≡ get_or (u ∷ rest) w high
      top = ex ∙ next_place u high rest w some

      over : above ≡ get_or (turned ++ above ∷ []) w high
      over = sym (get_or_push turned above high w lt)

      pub Affords-divide_top : Affords m (adder x above carry) a
      Affords-divide_top =
          let t = u ∷ rest in
          let ny = turned ++ above ∷ [] in
          let turn = Affords-turn m (chain_step t ny high) (record { sums = []; carry = high }) (w + 1) w s a (record { sums = sums; carry = carry }) (omega arith) chain_whole chained in
          let k = Affords-first {B = Carried W} m (adder (get_or t w high) (get_or ny w high) carry) (λ r. give (record { sums = sums ++ r.0 ∷ []; carry = r.1 })) a turn in
          subst (λ z. Affords m (adder z above carry) a) (sym top) (subst (λ z. Affords m (adder (get_or t w high) z carry) a) (sym over) k)

      pub Affords-divide_choice : (t2 t3 s2 : List W) (last : W × W) (v : S) → length sums ≡ w → t2 ≡ taken → t3 ≡ taken → s2 ≡ sums → Plays m (adder x above carry) a last v
          → Affords m (choose last.1 s2 t2 t3 high w) v
      Affords-divide_choice t2 t3 s2 last v ls e2 e3 es q =
          let t = u ∷ rest in
          let ny = turned ++ above ∷ [] in
          let b : Carried W = record { sums = sums ++ last.0 ∷ []; carry = last.1 } in
          let all = Plays-more m (chain_step t ny high) w _ _ _ s a v chained (Plays-chain_step m t ny high w (record { sums = sums; carry = carry }) a v x above last top over q) in
          let k = Affords-next m (chain t ny high high (w + 1)) (λ b. then (choose b.carry b.sums t t high w) (λ r. give (b.carry, r))) s v b h all in
          let j = Affords-first m (choose last.1 (sums ++ last.0 ∷ []) t t high w) (λ r. give (last.1, r)) v k in
          subst (λ c. Affords m c v) (divide_choice last.1 u high last.0 rest taken t2 t3 sums s2 w some ls et e2 e3 es) j

  -- each bit of a division
  pub Affords-divide_step : (w : ℕ) (x y : List W) (low high : W) (ny start : List W) (i : ℕ) (a : Divided W) (s u : S) (b : W) (ny2 rest2 : List W)
      → low ≡ m.known_wire s false → high ≡ m.known_wire s true → start ≡ replicate w low → Plays m (flips (y ++ low ∷ []) high (w + 1)) s ny s
      → i < w → Plays m (times i (divide_step w x ny high) (record { quotient = []; rest = start })) s a u
      → b ≡ get_or x (w - 1 - i) high → ny2 ≡ ny → rest2 ≡ a.rest → length rest2 ≡ w
      → Affords m (divide_circuit w x y) s → Affords m (divide_bit b ny2 high rest2 (length rest2)) u
  Affords-divide_step w x y z o ny start i a s u b ny2 rest2 ez eo el p lt q eb en er lr h =
      let h1 = subst (λ low. Affords m (known true (λ high. then (flips (y ++ low ∷ []) high (w + 1)) (λ ny. times w (divide_step w x ny high) (record { quotient = []; rest = replicate w low })))) s) (sym ez) h in
      let h2 = subst (λ high. Affords m (then (flips (y ++ z ∷ []) high (w + 1)) (λ ny. times w (divide_step w x ny high) (record { quotient = []; rest = replicate w z }))) s) (sym eo) h1 in
      let h3 = Affords-next m (flips (y ++ z ∷ []) o (w + 1)) (λ ny. times w (divide_step w x ny o) (record { quotient = []; rest = replicate w z })) s s ny h2 p in
      let h4 = subst (λ v. Affords m (times w (divide_step w x ny o) (record { quotient = []; rest = v })) s) (sym el) h3 in
      let turn = Affords-turn m (divide_step w x ny o) (record { quotient = []; rest = start }) w i s u a lt h4 q in
      let k = Affords-first m (divide_bit (get_or x (w - 1 - i) o) ny o a.rest w) (λ r. give (record { quotient = r.0 ∷ a.quotient; rest = r.1 })) u turn in
      subst (λ n. Affords m (divide_bit b ny2 o rest2 n) u) (sym lr)
      (subst (λ l. Affords m (divide_bit b ny2 o l w) u) (sym er) (subst (λ l. Affords m (divide_bit b l o a.rest w) u) (sym en)
      (subst (λ c. Affords m (divide_bit c ny o a.rest w) u) (sym eb) k)))

  -- the two sizes of a division with a sign, and their division
  pub Affords-left : (w : ℕ) (x y : List W) (d u : W) (s : S) → u ≡ get_or x (w - 1) d → Affords m (divide_sizes w x y d) s → Affords m (cond_negate w u x d) s
  Affords-left w x y d u s eu h =
      subst (λ c. Affords m (cond_negate w c x d) s) (sym eu)
      (Affords-first m (cond_negate w (get_or x (w - 1) d) x d) (λ a. then (cond_negate w (get_or y (w - 1) d) y d) (λ b. divide_circuit w a b)) s h)

  after_left : (w : ℕ) (x y : List W) (d u : W) (a : List W) (s t : S) → u ≡ get_or x (w - 1) d → Plays m (cond_negate w u x d) s a t
      → Affords m (divide_sizes w x y d) s → Affords m (then (cond_negate w (get_or y (w - 1) d) y d) (λ b. divide_circuit w a b)) t
  after_left w x y d u a s t eu p h =
      Affords-next m (cond_negate w (get_or x (w - 1) d) x d) (λ a. then (cond_negate w (get_or y (w - 1) d) y d) (λ b. divide_circuit w a b)) s t a h
      (subst (λ c. Plays m (cond_negate w c x d) s a t) eu p)

  pub Affords-right : (w n : ℕ) (x y : List W) (d u v : W) (a : List W) (s t : S) → u ≡ get_or x (w - 1) d → v ≡ get_or y (w - 1) d → n ≡ w → Plays m (cond_negate w u x d) s a t
      → Affords m (divide_sizes w x y d) s → Affords m (cond_negate n v y d) t
  Affords-right w n x y d u v a s t eu ev en p h =
      let k = Affords-first m (cond_negate w (get_or y (w - 1) d) y d) (λ b. divide_circuit w a b) t (after_left w x y d u a s t eu p h) in
      subst (λ n. Affords m (cond_negate n v y d) t) (sym en) (subst (λ c. Affords m (cond_negate w c y d) t) (sym ev) k)

  pub Affords-sizes : (w n : ℕ) (x y : List W) (d u v : W) (a a2 b b2 : List W) (s t e : S)
      → u ≡ get_or x (w - 1) d → v ≡ get_or y (w - 1) d → a2 ≡ a → b2 ≡ b → n ≡ w
      → Plays m (cond_negate w u x d) s a t → Plays m (cond_negate w v y d) t b e
      → Affords m (divide_sizes w x y d) s → Affords m (divide_circuit n a2 b2) e
  Affords-sizes w n x y d u v a a2 b b2 s t e eu ev ea eb en p q h =
      let k = Affords-next m (cond_negate w (get_or y (w - 1) d) y d) (λ b. divide_circuit w a b) t e b (after_left w x y d u a s t eu p h) (subst (λ c. Plays m (cond_negate w c y d) t b e) ev q) in
      subst (λ n. Affords m (divide_circuit n a2 b2) e) (sym en) (subst (λ l. Affords m (divide_circuit w l b2) e) (sym ea) (subst (λ l. Affords m (divide_circuit w a l) e) (sym eb) k))

  -- the negation at the end of a quotient and of a remainder with a sign
  pub Affords-signed_quotient : (w n : ℕ) (x y : List W) (d u v c : W) (a : Divided W) (q : List W) (s e : S)
      → u ≡ get_or x (w - 1) d → v ≡ get_or y (w - 1) d → c ≡ m.xor_wire e u v → q ≡ a.quotient → n ≡ w
      → Plays m (divide_sizes w x y d) s a e → Affords m (quotient_circuit true w x y d) s → Affords m (cond_negate n c q d) e
  Affords-signed_quotient w n x y d u v c a q s e eu ev ec eq en p h =
      let sign : c ≡ m.xor_wire e (get_or x (w - 1) d) (get_or y (w - 1) d) = ec ∙ ap (λ z. m.xor_wire e z v) eu ∙ ap (λ z. m.xor_wire e (get_or x (w - 1) d) z) ev in
      let k = Affords-next m (divide_sizes w x y d) (λ a. join (get_or x (w - 1) d) (get_or y (w - 1) d) (λ s. cond_negate w s a.quotient d)) s e a h p in
      subst (λ n. Affords m (cond_negate n c q d) e) (sym en) (subst (λ l. Affords m (cond_negate w c l d) e) (sym eq) (subst (λ z. Affords m (cond_negate w z a.quotient d) e) (sym sign) k))

  pub Affords-signed_remainder : (w n : ℕ) (x y : List W) (d u : W) (a : Divided W) (q : List W) (s e : S) → u ≡ get_or x (w - 1) d → q ≡ a.rest → n ≡ w
      → Plays m (divide_sizes w x y d) s a e → Affords m (remainder_circuit true w x y d) s → Affords m (cond_negate n u q d) e
  Affords-signed_remainder w n x y d u a q s e eu eq en p h =
      let k = Affords-next m (divide_sizes w x y d) (λ a. cond_negate w (get_or x (w - 1) d) a.rest d) s e a h p in
      subst (λ n. Affords m (cond_negate n u q d) e) (sym en) (subst (λ l. Affords m (cond_negate w u l d) e) (sym eq) (subst (λ z. Affords m (cond_negate w z a.rest d) e) (sym eu) k))

  -- each step of a shift by a hidden amount
  pub Affords-shift_step : (left signed : Bool) (w : ℕ) (a : List W) (k : ℕ) (start x now u : List W) (z e : W) (s t : S)
      → z ≡ m.known_wire s false → start ≡ x → e ≡ get_or a k z → u ≡ now → length u ≡ w → k < log2 w → Plays m (times k (shift_step left signed w a z) start) s now t
      → Affords m (shift_word_circuit left signed w x a) s → Affords m (choose e u (moved left (length u) (2 ^ k) (moved_in left signed (length u) u z) u) u z (length u)) t
  Affords-shift_step left signed w a k start x now u z e s t ez ex ee eu l lt p h =
      let h1 = subst (λ y. Affords m (times (log2 w) (shift_step left signed w a y) x) s) (sym ez) h in
      let h2 = subst (λ y. Affords m (times (log2 w) (shift_step left signed w a z) y) s) (sym ex) h1 in
      let turn = Affords-turn m (shift_step left signed w a z) start (log2 w) k s t now lt h2 p in
      let h3 = subst (λ c. Affords m (choose c now (moved left w (2 ^ k) (moved_in left signed w now z) now) now z w) t) (sym ee) turn in
      let h4 = subst (λ v. Affords m (choose e v (moved left w (2 ^ k) (moved_in left signed w v z) v) v z w) t) (sym eu) h3 in
      subst (λ n. Affords m (choose e u (moved left n (2 ^ k) (moved_in left signed n u z) u) u z n) t) (sym l) h4
