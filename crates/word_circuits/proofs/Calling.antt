-- What a call owes, once its circuit was played: the list of gates, the counts, the bits.
use Rattle.std.proofs.Common.{◌≡◌, ℕ, zero, suc, ◌+◌, ◌<◌, ◌≤◌, ℤ, Bool, false, IsTrue, List, [], ◌∷◌, ◌++◌, length, take, drop, ap, ◌∙◌, sym, arith, subst, inl, inr}
use Rattle.std.proofs.lemmas.List.{length-append, take_at, drop_at}
use Rattle.std.proofs.lemmas.Bool.Decides.{nat_tests}
use Rattle.gate_core.specs.Circuit.{Circuit, Calls, Plays, Affords}
use Rattle.gate_core.proofs.Relating.{truth, Same, Costs}
use Rattle.gate_core.specs.Circuit.Circuit.{give, known, flip, join, meet}
use Rattle.gate_core.specs.Relations.{All2}
use Rattle.gate_core.specs.Laws.{Laws, Counts}
use Rattle.gate_core.specs.GateList.{PlaysGates, numbers}
use Rattle.gate_core.proofs.Playing.{Counts-all, Plays-stands}
use Rattle.gate_core.proofs.Pairs.{All2-up, All2-append, All2-length}
use Rattle.gate_core.proofs.Numbered.{Plays-gates}
use Rattle.gate_core.proofs.Affording.{Affords-count, Affords-gates}
use Rattle.word_circuits.specs.Widths.{is_width}
use Rattle.word_circuits.specs.Integers.{number, Means}
use Rattle.word_circuits.specs.Fragments.{Operation, inputs, outputs, circuit, fragment, ands_of, word_op, HasRoomFor, Performs}

pub width_pos : (n : ℕ) → IsTrue (is_width n) → 0 < n
width_pos zero h = absurd (cc)
width_pos (suc n) h = omega arith

pub width_most : (n : ℕ) → IsTrue (is_width n) → n ≤ 64
width_most n h = grind (arith, nat_tests)

-- the circuit of an operation is one circuit, whatever its wires are
abbrev pub Uniform : Operation → ℕ → Type 1
Uniform op w = (V W : Type 0) (R : V → W → Type 0) (d : V) (e : W) (xs : List V) (ys : List W) → R d e → All2 R xs ys → Same R All2 (circuit op w d xs) (circuit op w e ys)

-- and it makes the ANDs of the table, and answers as many wires as are said
abbrev pub Counted : Operation → ℕ → Type 1
Counted op w = (W : Type 0) (d : W) (xs : List W) → length xs ≡ inputs op w → Costs (λ (l : List W). length l ≡ outputs op w) (ands_of (word_op op) w) (circuit op w d xs)

-- what a call owes, and how many wires it answers
pub record Owed {S W : Type 0} (m : Calls S W) (stands : S → W → Bool → Type 0) (tally space : S → ℕ) (op : Operation) (w : ℕ) (xs : List W) (s : S) (r : List W) (t : S) : Type 0 where
  pub performs : Performs m stands tally space op w xs s r t
  pub width : length r ≡ outputs op w

-- wires that stood for a bit do so after any circuit
Plays-keeps : {S W A : Type 0} (m : Calls S W) (stands : S → W → Bool → Type 0) → Laws m stands → (c : Circuit W A) (s t : S) (r : A) → Plays m c s r t
    → (v : W) (b : Bool) → stands s v b → stands t v b
Plays-keeps m stands law (give a) s t r p v b h = subst (λ k. stands k v b) p.1 h
Plays-keeps m stands law (known x c) s t r p v b h = Plays-keeps m stands law (c (m.known_wire s x)) s t r p v b h
Plays-keeps m stands law (flip x c) s t r p v b h = Plays-keeps m stands law (c (m.not_wire s x)) s t r p v b h
Plays-keeps m stands law (join x y c) s t r p v b h = Plays-keeps m stands law (c (m.xor_wire s x y)) s t r p v b h
Plays-keeps m stands law (meet x y c) s t r p v b h = Plays-keeps m stands law (c p.0) p.1 t r p.3 v b (law.and_keeps s p.1 x y p.0 v b p.2 h)

pub length-two : {W : Type 0} (x y : List W) (w : ℕ) → length x ≡ w → length y ≡ w → length (x ++ y) ≡ w + w
length-two x y w ex ey = let l = length-append x y in omega (arith, l, ex, ey)

-- the first of the operands has the number 0
first_number : {W : Type 0} (R : W → ℕ → Type 0) (x : W) (xs : List W) (n : ℕ) → 0 < n → All2 R (x ∷ xs) (numbers 0 n) → R x 0
first_number R x xs zero lt h = absurd (omega (arith, lt))
first_number R x xs (suc n) lt h = h.0

list_played : {S W : Type 0} (m : Calls S W) (op : Operation) (w : ℕ) (xs : List W) (s t : S) (r : List W)
    → 0 < inputs op w → length xs ≡ inputs op w → Uniform op w → ((d : W) → Plays m (circuit op w d xs) s r t)
    → PlaysGates m (fragment op w) xs s r t
unfolding fragment
list_played m op w [] s t r pos len same p = absurd (omega (arith, len, pos))
list_played {S} {W} m op w (x ∷ xs) s t r pos len same p =
    Plays-gates m (circuit op w x (x ∷ xs)) (circuit op w 0 (numbers 0 (inputs op w))) (x ∷ xs) (inputs op w) s t r (sym len)
    (λ R h. same W ℕ R x 0 (x ∷ xs) (numbers 0 (inputs op w)) (first_number R x xs (inputs op w) pos h) h) (p x)

-- room for an operation is room for its circuit
pub afforded : {S W : Type 0} (m : Calls S W) (made room : S → ℕ) → Counts m made room
    → (op : Operation) (w : ℕ) (xs : List W) (s : S)
    → 0 < inputs op w → length xs ≡ inputs op w → Uniform op w → Counted op w → HasRoomFor m room s op w xs → (d : W) × Affords m (circuit op w d xs) s
unfolding fragment
afforded m made room counts op w [] s pos len same cost h = absurd (omega (arith, len, pos))
afforded {S} {W} m made room counts op w (x ∷ xs) s pos len same cost h = (
  x,
  elim h as (λ _. Affords m (circuit op w x (x ∷ xs)) s) [
    | inl n ↦ Affords-count m made room counts _ (ands_of (word_op op) w) (circuit op w x (x ∷ xs)) s (cost W x (x ∷ xs) len) n
    | inr p ↦ Affords-gates m (circuit op w x (x ∷ xs)) (circuit op w 0 (numbers 0 (inputs op w))) (x ∷ xs) (inputs op w) s (sym len)
        (λ R h. same W ℕ R x 0 (x ∷ xs) (numbers 0 (inputs op w)) (first_number R x xs (inputs op w) pos h) h) p
  ],
)

-- and so it is where the operand's wires are those of a word
pub afforded_one : {S W : Type 0} (m : Calls S W) (made room : S → ℕ) → Counts m made room
    → (op : Operation) (w : ℕ) (F : W → List W → Circuit W (List W)) (u x : List W) (s : S)
    → ((d : W) → circuit op w d x ≡ F d x) → u ≡ x → 0 < inputs op w → length x ≡ inputs op w → Uniform op w → Counted op w
    → HasRoomFor m room s op w x → (d : W) × Affords m (F d u) s
afforded_one m made room counts op w F u x s is ex pos len same cost h =
    let a = afforded m made room counts op w x s pos len same cost h in
    (a.0, subst (λ l. Affords m (F a.0 l) s) (sym ex) (subst (λ c. Affords m c s) (is a.0) a.1))

-- and where they are those of two words of one width
pub afforded_two : {S W : Type 0} (m : Calls S W) (made room : S → ℕ) → Counts m made room
    → (op : Operation) (w : ℕ) (F : W → List W → List W → Circuit W (List W)) (u x v y : List W) (s : S)
    → ((d : W) → circuit op w d (x ++ y) ≡ F d x y) → u ≡ x → v ≡ y → inputs op w ≡ w + w → 0 < w → length x ≡ w → length y ≡ w → Uniform op w → Counted op w
    → HasRoomFor m room s op w (x ++ y) → (d : W) × Affords m (F d u v) s
afforded_two m made room counts op w F u x v y s is ex ey two some lx ly same cost h =
    let l = length-two x y w lx ly in
    let a = afforded m made room counts op w (x ++ y) s (omega (arith, two, some)) (l ∙ sym two) same cost h in
    (a.0, subst (λ l. Affords m (F a.0 l v) s) (sym ex) (subst (λ l. Affords m (F a.0 x l) s) (sym ey) (subst (λ c. Affords m c s) (is a.0) a.1)))

pub owed : {S W : Type 0} (m : Calls S W) (stands : S → W → Bool → Type 0) (made room : S → ℕ) → Laws m stands → Counts m made room
    → (op : Operation) (w : ℕ) (xs : List W) (s t : S) (r : List W)
    → 0 < inputs op w → length xs ≡ inputs op w → Uniform op w → Counted op w → ((d : W) → Plays m (circuit op w d xs) s r t)
    → Owed m stands made room op w xs s r t
owed {S} {W} m stands made room law counts op w xs s t r pos len same cost p =
    let z = m.known_wire s false in
    let k = Counts-all m made room counts _ (ands_of (word_op op) w) (circuit op w z xs) s t r (cost W z xs len) (p z) in
    record {
      performs = record {
        plays = list_played m op w xs s t r pos len same p;
        made = k.0;
        room = k.1;
        keeps = Plays-keeps m stands law (circuit op w z xs) s t r (p z);
      };
      width = k.2;
    }

-- the answer's wires stand for what the circuit gives of the operands' bits
pub bits_after : {S W : Type 0} (m : Calls S W) (stands : S → W → Bool → Type 0) → Laws m stands
    → (op : Operation) (w : ℕ) (xs : List W) (bs : List Bool) (s t : S) (r : List W)
    → Uniform op w → ((d : W) → Plays m (circuit op w d xs) s r t) → All2 (stands s) xs bs → All2 (stands t) r (truth (circuit op w false bs))
bits_after {S} {W} m stands law op w xs bs s t r same p h =
    let z = m.known_wire s false in
    Plays-stands m stands law All2 (λ P R up vs ws. All2-up P R vs ws up) (stands s) (circuit op w z xs) (circuit op w false bs) s t r
    (same W Bool (stands s) z false xs bs (law.known_stands s false) h) (λ w b e. e) (p z)

-- an operation on one word
pub means_one : {S W : Type 0} (m : Calls S W) (stands : S → W → Bool → Type 0) → Laws m stands
    → (op : Operation) (w : ℕ) (x : List W) (s t : S) (r : List W) → length x ≡ w
    → Uniform op w → ((d : W) → Plays m (circuit op w d x) s r t)
    → (signed out : Bool) (f : ℤ → ℤ)
    → ((p : List Bool) → length p ≡ w → number out (truth (circuit op w false p)) ≡ f (number signed p))
    → (a : ℤ) → Means (stands s) signed x a → Means (stands t) out r (f a)
means_one m stands law op w x s t r lx same p signed out f is a hx =
    let lp : length hx.0 ≡ w = sym (All2-length (stands s) x hx.0 hx.1) ∙ lx in
    (truth (circuit op w false hx.0), bits_after m stands law op w x hx.0 s t r same p hx.1, is hx.0 lp ∙ ap f hx.2)

-- and on two words of one width
pub means_two : {S W : Type 0} (m : Calls S W) (stands : S → W → Bool → Type 0) → Laws m stands
    → (op : Operation) (w : ℕ) (x y : List W) (s t : S) (r : List W) → length x ≡ w → length y ≡ w
    → Uniform op w → ((d : W) → Plays m (circuit op w d (x ++ y)) s r t)
    → (signed kind out : Bool) (f : ℤ → ℤ → ℤ)
    → ((p q : List Bool) → length p ≡ w → length q ≡ w → number out (truth (circuit op w false (p ++ q))) ≡ f (number signed p) (number kind q))
    → (a b : ℤ) → Means (stands s) signed x a → Means (stands s) kind y b → Means (stands t) out r (f a b)
means_two m stands law op w x y s t r lx ly same p signed kind out f is a b hx hy =
    let lp : length hx.0 ≡ w = sym (All2-length (stands s) x hx.0 hx.1) ∙ lx in
    let lq : length hy.0 ≡ w = sym (All2-length (stands s) y hy.0 hy.1) ∙ ly in (
      truth (circuit op w false (hx.0 ++ hy.0)),
      bits_after m stands law op w (x ++ y) (hx.0 ++ hy.0) s t r same p (All2-append (stands s) x hx.0 y hy.0 hx.1 hy.1),
      is hx.0 hy.0 lp lq ∙ ap (λ k. f k (number kind hy.0)) hx.2 ∙ ap (λ k. f a k) hy.2,
    )

-- two words one after the other, taken apart again
pub apart : {W B : Type 0} (F : List W → List W → B) (x y : List W) (w : ℕ) → length x ≡ w → F (take w (x ++ y)) (drop w (x ++ y)) ≡ F x y
apart F x y w e = ap (λ u. F u (drop w (x ++ y))) (take_at x y w e) ∙ ap (λ v. F x v) (drop_at x y w e)

-- a play of wires that are those of a word, and gave those of another
pub carried_one : {S W : Type 0} (m : Calls S W) (F : List W → Circuit W (List W)) (u x r0 r : List W) (s t : S)
    → u ≡ x → r ≡ r0 → Plays m (F u) s r0 t → Plays m (F x) s r t
carried_one m F u x r0 r s t ex er p = subst (λ l. Plays m (F x) s l t) (sym er) (subst (λ l. Plays m (F l) s r0 t) ex p)

pub carried_two : {S W : Type 0} (m : Calls S W) (F : List W → List W → Circuit W (List W)) (u x v y r0 r : List W) (s t : S)
    → u ≡ x → v ≡ y → r ≡ r0 → Plays m (F u v) s r0 t → Plays m (F x y) s r t
carried_two m F u x v y r0 r s t ex ey er p = carried_one m (F x) v y r0 r s t ey er (subst (λ l. Plays m (F l v) s r0 t) ex p)

pub width_of : {W : Type 0} (u x : List W) → u ≡ x → IsTrue (is_width (length u)) → IsTrue (is_width (length x))
width_of u x e h = subst (λ l. IsTrue (is_width (length l))) e h

-- a play on two words is a play on their wires together
pub on_two : {S W : Type 0} (m : Calls S W) (op : Operation) (w : ℕ) (F : W → List W → List W → Circuit W (List W)) (x y : List W) (s t : S) (r : List W)
    → ((d : W) (xs : List W) → circuit op w d xs ≡ F d (take w xs) (drop w xs)) → length x ≡ w
    → ((d : W) → Plays m (F d x y) s r t) → (d : W) → Plays m (circuit op w d (x ++ y)) s r t
on_two m op w F x y s t r is e p d = subst (λ c. Plays m c s r t) (sym (is d (x ++ y) ∙ apart (F d) x y w e)) (p d)

pub on_one : {S W : Type 0} (m : Calls S W) (op : Operation) (w : ℕ) (x : List W) (s t : S) (r : List W)
    → ((d : W) → Plays m (circuit op w d x) s r t) → (d : W) → Plays m (circuit op w d x) s r t
on_one m op w x s t r p = p
