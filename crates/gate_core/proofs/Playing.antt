-- Playing circuits, one after another and in loops: the state, the counts and the bits.
use Rattle.std.proofs.Common.{◌≡◌, ℕ, zero, suc, ◌+◌, ◌*◌, ◌%◌, ◌^◌, ◌<◌, ◌≤◌, Bool, ◌&&◌, not, List, [], ◌∷◌, ◌++◌, length, refl, ap, ◌∙◌, sym, arith, subst, inl, inr, add-one}
use Rattle.std.proofs.lemmas.List.{length_push}
use Rattle.gate_core.specs.Circuit.{Circuit, Calls, then, times, row, Plays, xor}
use Rattle.gate_core.proofs.Relating.{truth, Same, Costs}
use Rattle.gate_core.specs.Circuit.Circuit.{give, known, flip, join, meet}
use Rattle.gate_core.specs.Laws.{Laws, Counts, Rises}

-- a circuit and what follows it
pub Plays-then : {S W A B : Type 0} (m : Calls S W) (c : Circuit W A) (f : A → Circuit W B) (s u t : S) (a : A) (r : B)
    → Plays m c s a u → Plays m (f a) u r t → Plays m (then c f) s r t
Plays-then m (give b) f s u t a r h k = subst (λ v. Plays m (f b) v r t) (sym h.1) (subst (λ v. Plays m (f v) u r t) (sym h.0) k)
Plays-then m (known b c) f s u t a r h k = Plays-then m (c (m.known_wire s b)) f s u t a r h k
Plays-then m (flip x c) f s u t a r h k = Plays-then m (c (m.not_wire s x)) f s u t a r h k
Plays-then m (join x y c) f s u t a r h k = Plays-then m (c (m.xor_wire s x y)) f s u t a r h k
Plays-then m (meet x y c) f s u t a r h k = (h.0, h.1, h.2, Plays-then m (c h.0) f h.1 u t a r h.3 k)

-- one turn more
pub Plays-more : {S W A : Type 0} (m : Calls S W) (f : ℕ → A → Circuit W A) (n : ℕ) (start a r : A) (s u t : S)
    → Plays m (times n f start) s a u → Plays m (f n a) u r t → Plays m (times (n + 1) f start) s r t
Plays-more m f n start a r s u t h k = rw add-one (Plays-then m (times n f start) (f n) s u t a r h k)

pub Plays-row_more : {S W : Type 0} (m : Calls S W) (f : ℕ → Circuit W W) (n : ℕ) (ws : List W) (w : W) (s u t : S)
    → Plays m (row n f) s ws u → Plays m (f n) u w t → Plays m (row (n + 1) f) s (ws ++ w ∷ []) t
Plays-row_more m f n ws w s u t h k =
    Plays-more m (λ i vs. then (f i) (λ v. give (vs ++ v ∷ []))) n [] ws (ws ++ w ∷ []) s u t h
    (Plays-then m (f n) (λ v. give (ws ++ v ∷ [])) u t t w (ws ++ w ∷ []) k (refl, refl))

-- what it costs
pub Costs-then : {W A B : Type 0} (P : A → Type 0) (Q : B → Type 0) (i j n : ℕ) (c : Circuit W A) (f : A → Circuit W B)
    → n ≡ i + j → Costs P i c → ((a : A) → P a → Costs Q j (f a)) → Costs Q n (then c f)
Costs-then P Q i j n (give b) f e h k = let e2 : n ≡ j = omega (arith, h.0) in subst (λ v. Costs Q v (f b)) (sym e2) (k b h.1)
Costs-then P Q i j n (known b c) f e h k = λ w. Costs-then P Q i j n (c w) f e (h w) k
Costs-then P Q i j n (flip x c) f e h k = λ w. Costs-then P Q i j n (c w) f e (h w) k
Costs-then P Q i j n (join x y c) f e h k = λ w. Costs-then P Q i j n (c w) f e (h w) k
Costs-then P Q i j n (meet x y c) f e h k = (h.0 + j, omega (arith, h.1), λ w. Costs-then P Q h.0 j (h.0 + j) (c w) f refl (h.2 w) k)

pub Costs-times : {W A : Type 0} (P : ℕ → A → Type 0) (cost : ℕ → ℕ) (f : ℕ → A → Circuit W A) (start : A) (n k : ℕ)
    → cost 0 ≡ 0 → ((i : ℕ) → cost (suc i) ≡ cost i + k)
    → P 0 start → ((i : ℕ) (a : A) → i < n → P i a → Costs (P (suc i)) k (f i a)) → Costs (P n) (cost n) (times n f start)
Costs-times P cost f start zero k e0 e h step = (e0, h)
Costs-times P cost f start (suc n) k e0 e h step =
    Costs-then (P n) (P (suc n)) (cost n) k (cost (suc n)) (times n f start) (f n) (e n)
    (Costs-times P cost f start n k e0 e h (λ i a lt. step i a (omega (arith, lt))))
    (λ a p. step n a (omega arith) p)

pub Costs-row : {W : Type 0} (f : ℕ → Circuit W W) (n k : ℕ) → ((i : ℕ) → i < n → Costs (λ (w : W). Unit {0}) k (f i))
    → Costs (λ (ws : List W). length ws ≡ n) (n * k) (row n f)
Costs-row {W} f n k each =
    Costs-times (λ i (ws : List W). length ws ≡ i) (λ i. i * k) (λ i ws. then (f i) (λ w. give (ws ++ w ∷ []))) [] n k (omega arith) (λ i. omega arith) refl
    (λ i ws lt e. Costs-then (λ (w : W). Unit {0}) (λ (vs : List W). length vs ≡ suc i) k 0 k (f i) (λ w. give (ws ++ w ∷ [])) (omega arith) (each i lt) (λ w u. (refl, omega (arith, length_push ws w, e))))

same_more : (a b k : ℕ) → a % 2 ^ 64 ≡ b % 2 ^ 64 → (a + k) % 2 ^ 64 ≡ (b + k) % 2 ^ 64
same_more a b k e = omega (arith, e)

-- the count after n ANDs, and what the answer meets
pub Costs-made : {S W A : Type 0} (m : Calls S W) (made : S → ℕ) → ((s t : S) (a b w : W) → m.and_is s a b w t → Rises (made s) 1 (made t))
    → (Q : A → Type 0) (n : ℕ) (c : Circuit W A) (s t : S) (r : A) → Costs Q n c → Plays m c s r t → Rises (made s) n (made t) × Q r
Costs-made m made law Q n (give a) s t r k h =
    (ap (λ v. made v % 2 ^ 64) (sym h.1) ∙ ap (λ v. v % 2 ^ 64) (let e : made s ≡ made s + n = omega (arith, k.0) in e), subst Q h.0 k.1)
Costs-made m made law Q n (known b c) s t r k h = Costs-made m made law Q n (c (m.known_wire s b)) s t r (k _) h
Costs-made m made law Q n (flip x c) s t r k h = Costs-made m made law Q n (c (m.not_wire s x)) s t r (k _) h
Costs-made m made law Q n (join x y c) s t r k h = Costs-made m made law Q n (c (m.xor_wire s x y)) s t r (k _) h
Costs-made m made law Q n (meet x y c) s t r k h =
    let rest = Costs-made m made law Q k.0 (c h.0) h.1 t r (k.2 h.0) h.3 in
    (rest.0 ∙ same_more (made h.1) (made s + 1) k.0 (law s h.1 x y h.0 h.2) ∙ ap (λ v. v % 2 ^ 64) (let e : made s + 1 + k.0 ≡ made s + n = omega (arith, k.1) in e), rest.1)

-- the room falls by at most one for each
pub Costs-room : {S W A : Type 0} (m : Calls S W) (room : S → ℕ) → ((s t : S) (a b w : W) → m.and_is s a b w t → room s ≤ room t + 1)
    → (Q : A → Type 0) (n : ℕ) (c : Circuit W A) (s t : S) (r : A) → Costs Q n c → Plays m c s r t → room s ≤ room t + n
Costs-room m room law Q n (give a) s t r k h = omega (arith, ap room h.1, k.0)
Costs-room m room law Q n (known b c) s t r k h = Costs-room m room law Q n (c (m.known_wire s b)) s t r (k _) h
Costs-room m room law Q n (flip x c) s t r k h = Costs-room m room law Q n (c (m.not_wire s x)) s t r (k _) h
Costs-room m room law Q n (join x y c) s t r k h = Costs-room m room law Q n (c (m.xor_wire s x y)) s t r (k _) h
Costs-room m room law Q n (meet x y c) s t r k h =
    let rest = Costs-room m room law Q k.0 (c h.0) h.1 t r (k.2 h.0) h.3 in
    omega (arith, rest, law s h.1 x y h.0 h.2, k.1)

-- both, by the laws of a backend
pub Counts-all : {S W A : Type 0} (m : Calls S W) (made room : S → ℕ) → Counts m made room
    → (Q : A → Type 0) (n : ℕ) (c : Circuit W A) (s t : S) (r : A) → Costs Q n c → Plays m c s r t → Rises (made s) n (made t) × (room s ≤ room t + n) × Q r
Counts-all m made room law Q n c s t r h p =
    let k = Costs-made m made law.and_made Q n c s t r h p in
    (k.0, Costs-room m room law.and_room Q n c s t r h p, k.1)

-- bits
pub truth-then : {A B : Type 0} (c : Circuit Bool A) (f : A → Circuit Bool B) → truth (then c f) ≡ truth (f (truth c))
truth-then (give a) f = refl
truth-then (known b k) f = truth-then (k b) f
truth-then (flip x k) f = truth-then (k (not x)) f
truth-then (join x y k) f = truth-then (k (xor x y)) f
truth-then (meet x y k) f = truth-then (k (x && y)) f

-- and what the answer meets
pub truth-costs : {A : Type 0} (Q : A → Type 0) (n : ℕ) (c : Circuit Bool A) → Costs Q n c → Q (truth c)
truth-costs Q n (give a) h = h.1
truth-costs Q n (known b k) h = truth-costs Q n (k b) (h b)
truth-costs Q n (flip x k) h = truth-costs Q n (k (not x)) (h (not x))
truth-costs Q n (join x y k) h = truth-costs Q n (k (xor x y)) (h (xor x y))
truth-costs Q n (meet x y k) h = truth-costs Q h.0 (k (x && y)) (h.2 (x && y))

-- where wires stand for bits before, the answer stands for the truth after
pub Plays-stands : {S W A B : Type 0} (m : Calls S W) (stands : S → W → Bool → Type 0) → Laws m stands
    → (Q : (W → Bool → Type 0) → A → B → Type 0)
    → ((P R : W → Bool → Type 0) → ((w : W) (b : Bool) → P w b → R w b) → (a : A) (b : B) → Q P a b → Q R a b)
    → (R : W → Bool → Type 0) (c : Circuit W A) (d : Circuit Bool B) (s t : S) (r : A)
    → Same R Q c d → ((w : W) (b : Bool) → R w b → stands s w b) → Plays m c s r t → Q (stands t) r (truth d)
Plays-stands {S} {W} m stands law Q mono R (give a) (give b) s t r h k p =
    subst (λ v. Q (stands t) v b) p.0 (mono R (stands t) (λ w x e. subst (λ v. stands v w x) p.1 (k w x e)) a b h)
Plays-stands {S} {W} m stands law Q mono R (known b c) (known b' d) s t r h k p =
    let w = m.known_wire s b in
    Plays-stands m stands law Q mono _ (c w) (d b') s t r (h.1 w b')
    (λ v x e. elim e [ inl q ↦ k v x q | inr q ↦ subst (λ z. stands s z x) (sym q.0) (subst (λ z. stands s w z) (h.0 ∙ sym q.1) (law.known_stands s b)) ]) p
Plays-stands {S} {W} m stands law Q mono R (flip x c) (flip x' d) s t r h k p =
    let w = m.not_wire s x in
    Plays-stands m stands law Q mono _ (c w) (d (not x')) s t r (h.1 w (not x'))
    (λ v b e. elim e [ inl q ↦ k v b q | inr q ↦ subst (λ z. stands s z b) (sym q.0) (subst (λ z. stands s w z) (sym q.1) (law.not_stands s x x' (k x x' h.0))) ]) p
Plays-stands {S} {W} m stands law Q mono R (join x y c) (join x' y' d) s t r h k p =
    let w = m.xor_wire s x y in
    Plays-stands m stands law Q mono _ (c w) (d (xor x' y')) s t r (h.2 w (xor x' y'))
    (λ v b e. elim e [ inl q ↦ k v b q | inr q ↦ subst (λ z. stands s z b) (sym q.0) (subst (λ z. stands s w z) (sym q.1) (law.xor_stands s x y x' y' (k x x' h.0) (k y y' h.1))) ]) p
Plays-stands {S} {W} m stands law Q mono R (meet x y c) (meet x' y' d) s t r h k p =
    let w = p.0 in
    Plays-stands m stands law Q mono _ (c w) (d (x' && y')) p.1 t r (h.2 w (x' && y'))
    (λ v b e. elim e [ inl q ↦ law.and_keeps s p.1 x y w v b p.2 (k v b q) | inr q ↦ subst (λ z. stands p.1 z b) (sym q.0) (subst (λ z. stands p.1 w z) (sym q.1) (law.and_stands s p.1 x y w x' y' p.2 (k x x' h.0) (k y y' h.1))) ]) p.3
Plays-stands m stands law Q mono R _ _ s t r h k p = absurd h

-- one lemma for each loop: what the start meets and each turn keeps
pub truth-times : {A : Type 0} (P : ℕ → A → Type 0) (f : ℕ → A → Circuit Bool A) (a : A) (n : ℕ)
    → P 0 a → ((i : ℕ) (b : A) → i < n → P i b → P (suc i) (truth (f i b))) → P n (truth (times n f a))
truth-times P f a zero h k = h
truth-times P f a (suc n) h k =
    subst (P (suc n)) (sym (truth-then (times n f a) (f n)))
    (k n (truth (times n f a)) (omega arith) (truth-times P f a n h (λ i b lt. k i b (omega (arith, lt)))))

pub truth-row : (P : ℕ → List Bool → Type 0) (f : ℕ → Circuit Bool Bool) (n : ℕ)
    → P 0 [] → ((i : ℕ) (ws : List Bool) → i < n → P i ws → P (suc i) (ws ++ truth (f i) ∷ [])) → P n (truth (row n f))
truth-row P f n h k =
    truth-times P (λ i ws. then (f i) (λ w. give (ws ++ w ∷ []))) [] n h
    (λ i ws lt p. subst (P (suc i)) (sym (truth-then (f i) (λ w. give (ws ++ w ∷ [])))) (k i ws lt p))
