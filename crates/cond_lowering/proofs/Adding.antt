-- Pieces that are added one after another.
use Rattle.std.proofs.Common.{ℕ, ◌+◌, ◌≡◌, List, [], ◌∷◌, ◌++◌, length, refl, sym, ap, ◌∙◌, append_assoc, append-nil, arith, length-append, OnOk, Result}
use Rattle.std.proofs.Math.Seq.{set-append_seam}
use Rattle.std.proofs.lemmas.Result.{on_ok_weaker}
use Rattle.std.specs.Prelude.{slice_set}
use Rattle.oc_source.specs.declared.spot.Spot.{Spot}
use Rattle.oc_code.specs.declared.code.Instr.{Instr}
use Rattle.oc_code.specs.declared.code.Instr.TheVariants.{Jump, JumpZero}
use Rattle.oc_code.specs.declared.code.Line.{Line}
use Rattle.oc_code.specs.Lower.{line, if_code}
use Rattle.cond_lowering.specs.Pieces.{Piece, one, none, seq, choice, Adds}

-- how many lines there are after a piece
pub adds_length : (c0 c1 : List Line) (a : Piece) → Adds c0 a c1 → length c1 ≡ length c0 + length (a (length c0))
adds_length c0 c1 a x = ap length x.so ∙ length-append c0 (a (length c0))

-- a piece, and another after it
pub adds_seq : (c0 c1 c2 : List Line) (a b : Piece) → Adds c0 a c1 → Adds c1 b c2 → Adds c0 (seq a b) c2
adds_seq c0 c1 c2 a b x y =
    let n = adds_length c0 c1 a x in
    record { so = y.so ∙ ap (λ c. c ++ b (length c1)) x.so ∙ ap (λ i. (c0 ++ a (length c0)) ++ b i) n ∙ append_assoc c0 (a (length c0)) (b (length c0 + length (a (length c0)))) }

-- the same, where the second may want memory
pub seq_puts : {T E : Type 0} (c0 c1 c2 : List Line) (a b : Piece) (r : Result T E) → Adds c0 a c1 → OnOk r (Adds c1 b c2) → OnOk r (Adds c0 (seq a b) c2)
seq_puts c0 c1 c2 a b r x y = on_ok_weaker r (λ z. adds_seq c0 c1 c2 a b x z) y

-- a piece by another description
pub adds_as : (c0 c1 : List Line) (a b : Piece) → b (length c0) ≡ a (length c0) → Adds c0 a c1 → Adds c0 b c1
adds_as c0 c1 a b e x = record { so = x.so ∙ ap (λ l. c0 ++ l) (sym e) }

-- the same, where it may want memory
pub told_as : {T E : Type 0} (c0 c1 : List Line) (a b : Piece) (r : Result T E) → OnOk r (Adds c0 a c1) → b (length c0) ≡ a (length c0) → OnOk r (Adds c0 b c1)
told_as c0 c1 a b r x e = on_ok_weaker r (λ z. adds_as c0 c1 a b e z) x

-- no piece
pub adds_none : (c : List Line) → Adds c none c
adds_none c = record { so = sym (append-nil c) }

-- the two jumps of a test are written once their places are known
two_writes : (c a b : List Line) (x y i j : Line) → slice_set (slice_set (c ++ x ∷ (a ++ y ∷ b)) (length c) i) (length (c ++ i ∷ a)) j ≡ c ++ i ∷ (a ++ j ∷ b)
two_writes c a b x y i j =
    ap (λ l. slice_set l (length (c ++ i ∷ a)) j) (set-append_seam c x (a ++ y ∷ b) i ∙ sym (append_assoc c (i ∷ a) (y ∷ b)))
    ∙ set-append_seam (c ++ i ∷ a) y b j
    ∙ append_assoc c (i ∷ a) (j ∷ b)

patch_if : (base t a b c1 c2 c3 c4 c5 : List Line) (x y : Line) (p : Spot) (n1 n2 n3 n4 : ℕ) → c1 ≡ base ++ t → n1 ≡ length c1 → c2 ≡ c1 ++ x ∷ [] → c3 ≡ c2 ++ a → n2 ≡ length c3 → c4 ≡ c3 ++ y ∷ [] → n3 ≡ length c4 → c5 ≡ c4 ++ b → n4 ≡ length c5 → slice_set (slice_set c5 n1 (line p (JumpZero n3))) n2 (line p (Jump n4)) ≡ base ++ if_code p (length base) t a b
patch_if base t a b c1 c2 c3 c4 c5 x y p n1 n2 n3 n4 e1 m1 e2 e3 m2 e4 m3 e5 m4 =
    let l1 = ap length e1 ∙ length-append base t in
    let l2 = ap length e2 ∙ length-append c1 (x ∷ []) in
    let l3 = ap length e3 ∙ length-append c2 a in
    let l4 = ap length e4 ∙ length-append c3 (y ∷ []) in
    let l5 = ap length e5 ∙ length-append c4 b in
    let i = line p (JumpZero n3) in
    let j = line p (Jump n4) in
    let d1 : n3 ≡ length base + length t + 1 + length a + 1 = omega arith in
    let d2 : n4 ≡ length base + length t + 1 + length a + 1 + length b = omega arith in
    let at2 : n2 ≡ length (c1 ++ i ∷ a) = omega (arith, length-append c1 (i ∷ a)) in
    let all : c5 ≡ (((c1 ++ x ∷ []) ++ a) ++ y ∷ []) ++ b = cc in
    let flat : (((c1 ++ x ∷ []) ++ a) ++ y ∷ []) ++ b ≡ c1 ++ x ∷ (a ++ y ∷ b) = simp append_assoc in
    ap (λ l. slice_set (slice_set l n1 i) n2 j) (all ∙ flat)
    ∙ ap (λ n. slice_set (slice_set (c1 ++ x ∷ (a ++ y ∷ b)) n i) n2 j) m1
    ∙ ap (λ n. slice_set (slice_set (c1 ++ x ∷ (a ++ y ∷ b)) (length c1) i) n j) at2
    ∙ two_writes c1 a b x y i j
    ∙ ap (λ l. l ++ i ∷ (a ++ j ∷ b)) e1
    ∙ append_assoc base t (i ∷ (a ++ j ∷ b))
    ∙ ap (λ n. base ++ (t ++ line p (JumpZero n) ∷ (a ++ j ∷ b))) d1
    ∙ ap (λ n. base ++ (t ++ line p (JumpZero (length base + length t + 1 + length a + 1)) ∷ (a ++ line p (Jump n) ∷ b))) d2

-- a choice lands: c1 ends with its test, c2 with the jump of the test, c3 with the first part, c4 with its jump, c5 with the second part
pub choice_lands : (c0 c1 c2 c3 c4 c5 c6 : List Line) (t a b : Piece) (p : Spot) (x y : Instr) (test jump : ℕ) → Adds c0 t c1 → test ≡ length c1 → Adds c1 (one p x) c2
    → Adds c2 a c3 → jump ≡ length c3 → Adds c3 (one p y) c4 → Adds c4 b c5 → c6 ≡ slice_set (slice_set c5 test (line p (JumpZero (jump + 1)))) jump (line p (Jump (length c5)))
    → Adds c0 (choice p t a b) c6
choice_lands c0 c1 c2 c3 c4 c5 c6 t a b p x y test jump e1 m1 e2 e3 m2 e4 e5 h =
    let n0 = length c0 in
    let tl = t n0 in
    let l1 = adds_length c0 c1 t e1 in
    let l2 = adds_length c1 c2 (one p x) e2 in
    let at1 : length c2 ≡ n0 + length tl + 1 = omega arith in
    let al = a (n0 + length tl + 1) in
    let f3 : c3 ≡ c2 ++ al = e3.so ∙ ap (λ i. c2 ++ a i) at1 in
    let l3 : length c3 ≡ length c2 + length al = ap length f3 ∙ length-append c2 al in
    let l4 = adds_length c3 c4 (one p y) e4 in
    let at2 : length c4 ≡ n0 + length tl + 1 + length al + 1 = omega arith in
    let bl = b (n0 + length tl + 1 + length al + 1) in
    let f5 : c5 ≡ c4 ++ bl = e5.so ∙ ap (λ i. c4 ++ b i) at2 in
    let m3 : jump + 1 ≡ length c4 = omega arith in
    record { so = h ∙ patch_if c0 tl al bl c1 c2 c3 c4 c5 (line p x) (line p y) p test jump (jump + 1) (length c5) e1.so m1 e2.so f3 m2 e4.so m3 f5 refl }
