-- The parts that are taken off a line are those that its form names.
use Rattle.std.proofs.Common.{ℕ, inl, inr, ◌≡◌, ◌≤◌, ℤ, List, [], ◌∷◌, ◌++◌, length, Option, Some, None, Bool, true, false, nat_eq, IsTrue, refl, sym, ap, ◌∙◌, subst, arith, ◌^◌, pos, negsuc, SFits, w64, to_z, of_z}
use Rattle.std.specs.Prelude.{◌&&◌, ◌⊎◌, nat_le, if◌then◌else◌, IfSome, IfNone}
use Rattle.std.specs.List.{list_all}
use Rattle.std.proofs.lemmas.Bool.Decides.{nat_tests}
use Rattle.std.proofs.lemmas.Bool.{false≢true, and_parts, and_from, leb-true, le-leb, ltb-true}
use Rattle.std.proofs.lemmas.Int.{to_z-of_z}
use Rattle.oc_values.specs.Integers.{is_in_bits}
use Rattle.input_words.specs.Words.{IsWord, is_digit, decimal_value, sign_of, signed}
use Rattle.input_words.specs.Parts.{is_minus, digits_of, decimal_of, fitting}

both_left : (a b : Bool) → (a && b) ≡ true → a ≡ true
both_left true b h = refl
both_left false b h = h

not_minus : (d : ℕ) → is_digit d ≡ true → nat_eq d 45 ≡ false
not_minus d h = grind (arith, nat_tests)

passed : (b : Bool) (xs ys zs : List ℕ) → b ≡ false → ys ≡ zs → (if b then xs else ys) ≡ zs
passed true xs ys zs h e = absurd (false≢true (sym h))
passed false xs ys zs h e = e

minus_is : (m : Bool) (ds : List ℕ) → list_all is_digit ds ≡ true → 1 ≤ length ds → is_minus (sign_of m ++ ds) ≡ m
minus_is m [] h n = absurd (omega arith)
minus_is true (d ∷ ds) h n = refl
minus_is false (d ∷ ds) h n = not_minus d (both_left (is_digit d) (list_all is_digit ds) h)

digits_are : (m : Bool) (ds : List ℕ) → list_all is_digit ds ≡ true → 1 ≤ length ds → digits_of (sign_of m ++ ds) ≡ ds
digits_are m [] h n = absurd (omega arith)
digits_are true (d ∷ ds) h n = refl
digits_are false (d ∷ ds) h n = passed (nat_eq d 45) ds (d ∷ ds) (d ∷ ds) (not_minus d (both_left (is_digit d) (list_all is_digit ds) h)) refl

-- what a line that spells a word is, in the parts that are taken off
pub record Parts (line : List ℕ) (word : ℤ) : Type 0 where
  pub some : 1 ≤ length (digits_of line)
  pub most : length (digits_of line) ≤ 19
  pub decimal : list_all is_digit (digits_of line) ≡ true
  pub value : word ≡ signed (is_minus line) (decimal_value (digits_of line))
  pub range : IsTrue (is_in_bits true 64 word)

pub parts_of : (line : List ℕ) (word : ℤ) → IsWord line word → Parts line word
parts_of line word i =
    let digits : digits_of line ≡ i.digits = ap digits_of i.text ∙ digits_are i.minus i.digits i.decimal i.some in
    let minus : is_minus line ≡ i.minus = ap is_minus i.text ∙ minus_is i.minus i.digits i.decimal i.some in
    record {
      some = subst (λ ds. 1 ≤ length ds) (sym digits) i.some;
      most = subst (λ ds. length ds ≤ 19) (sym digits) i.most;
      decimal = ap (list_all is_digit) digits ∙ i.decimal;
      value = i.value ∙ sym (ap (λ m. signed m (decimal_value (digits_of line))) minus ∙ ap (λ ds. signed i.minus (decimal_value ds)) digits);
      range = i.range;
    }

sign_is : (line : List ℕ) → line ≡ sign_of (is_minus line) ++ digits_of line
sign_is [] = refl
sign_is (b ∷ bs) = elim (nat_eq b 45) as (λ t. nat_eq b 45 ≡ t → (b ∷ bs) ≡ sign_of t ++ (if t then bs else (b ∷ bs))) [
  | true ↦ λ e. let same : b ≡ 45 = grind (arith, nat_tests) in ap (λ x. x ∷ bs) same
  | false ↦ λ e. refl
] refl

pub word_from : (line : List ℕ) (word : ℤ) → Parts line word → IsWord line word
word_from line word p = record {
  minus = is_minus line;
  digits = digits_of line;
  text = sign_is line;
  decimal = p.decimal;
  some = p.some;
  most = p.most;
  value = p.value;
  range = p.range;
}

-- a line spells one word at most
pub word_once : (line : List ℕ) (v w : ℤ) → IsWord line v → IsWord line w → v ≡ w
word_once line v w i j = (parts_of line v i).value ∙ sym (parts_of line w j).value

sign_short : (m : Bool) (ds : List ℕ) → length ds ≤ 19 → length (sign_of m ++ ds) ≤ 20
sign_short true ds h = omega arith
sign_short false ds h = omega arith

-- a line that spells a word has at most 20 bytes
pub word_short : (line : List ℕ) (w : ℤ) → IsWord line w → length line ≤ 20
word_short line w i = subst (λ l. length l ≤ 20) (sym i.text) (sign_short i.minus i.digits i.most)

fits_bits : (w : ℤ) → IsTrue (is_in_bits true 64 w) → SFits w64 w
fits_bits (pos n) h = omega (arith, ltb-true n (2 ^ 63) h)
fits_bits (negsuc n) h = omega (arith, ltb-true n (2 ^ 63) h)

-- a word has 64 bits
pub word_fits : (line : List ℕ) (w : ℤ) → IsWord line w → to_z w64 (of_z w64 w) ≡ w
word_fits line w i = to_z-of_z w64 w (fits_bits w i.range)

-- whether a line spells a word, in one test
abbrev spelled : List ℕ → Bool
spelled line =
    nat_le 1 (length (digits_of line)) && (nat_le (length (digits_of line)) 19 && (list_all is_digit (digits_of line) && is_in_bits true 64 (signed (is_minus line) (decimal_value (digits_of line)))))

-- a line spells a word or none
pub word_or_none : (line : List ℕ) → ((w : ℤ) × IsWord line w) ⊎ ((w : ℤ) → IsWord line w → ⊥)
word_or_none line = elim (spelled line) as (λ t. spelled line ≡ t → ((w : ℤ) × IsWord line w) ⊎ ((w : ℤ) → IsWord line w → ⊥)) [
  | true ↦ λ h.
      let ds = digits_of line in
      let z = signed (is_minus line) (decimal_value ds) in
      let a = and_parts (nat_le 1 (length ds)) (nat_le (length ds) 19 && (list_all is_digit ds && is_in_bits true 64 z)) h in
      let b = and_parts (nat_le (length ds) 19) (list_all is_digit ds && is_in_bits true 64 z) a.1 in
      let c = and_parts (list_all is_digit ds) (is_in_bits true 64 z) b.1 in
      inl (z, word_from line z (record { some = leb-true 1 (length ds) a.0; most = leb-true (length ds) 19 b.0; decimal = c.0; value = refl; range = c.1 }))
  | false ↦ λ h.
      inr (λ w i.
      let p = parts_of line w i in
      let range = ap (is_in_bits true 64) (sym p.value) ∙ p.range in
      let t : spelled line ≡ true =
      and_from _ _ (le-leb 1 (length (digits_of line)) p.some) (and_from _ _ (le-leb (length (digits_of line)) 19 p.most) (and_from _ _ p.decimal range)) in
      false≢true (sym h ∙ t))
] refl

digits_so : (ds : List ℕ) (v : ℕ) → Some v ≡ decimal_of ds → (list_all is_digit ds ≡ true) × (v ≡ decimal_value ds)
digits_so ds v = elim (list_all is_digit ds) as (λ t. Some v ≡ (if t then Some (decimal_value ds) else None) → (t ≡ true) × (v ≡ decimal_value ds)) [
  | true ↦ λ e. (refl, cc)
  | false ↦ λ e. cc
]

module _ (line : List ℕ) (m : Bool) (v : ℕ) (ds : List ℕ) (ds_so : ds ≡ digits_of line) (m_so : m ≡ is_minus line) (v_so : Some v ≡ decimal_of ds) (some : 1 ≤ length ds) (most : length ds ≤ 19) where
  value_is : signed m v ≡ signed (is_minus line) (decimal_value (digits_of line))
  value_is = ap (λ b. signed b v) m_so ∙ ap (signed (is_minus line)) ((digits_so ds v v_so).1 ∙ ap decimal_value ds_so)

  parts_so : IsTrue (is_in_bits true 64 (signed m v)) → Parts line (signed m v)
  parts_so h = record {
    some = subst (λ xs. 1 ≤ length xs) ds_so some;
    most = subst (λ xs. length xs ≤ 19) ds_so most;
    decimal = ap (list_all is_digit) (sym ds_so) ∙ (digits_so ds v v_so).0;
    value = value_is;
    range = h;
  }

  pub word_read : (r : Option ℤ) → r ≡ fitting (signed m v) → IfSome r (λ w. IsWord line w)
  word_read r e = subst (λ o. IfSome o (λ w. IsWord line w)) (sym e) (elim (is_in_bits true 64 (signed m v)) as (λ t. is_in_bits true 64 (signed m v) ≡ t → IfSome (if t then Some (signed m v) else None) (λ w. IsWord line w)) [
    | true ↦ λ h. word_from line (signed m v) (parts_so h)
    | false ↦ λ h. tt
  ] refl)

  pub word_lost : (r : Option ℤ) → r ≡ fitting (signed m v) → IfNone r ((w : ℤ) → IsWord line w → ⊥)
  word_lost r e = subst (λ o. IfNone o ((w : ℤ) → IsWord line w → ⊥)) (sym e) (elim (is_in_bits true 64 (signed m v)) as (λ t. is_in_bits true 64 (signed m v) ≡ t → IfNone (if t then Some (signed m v) else None) ((w : ℤ) → IsWord line w → ⊥)) [
    | true ↦ λ h. tt
    | false ↦ λ h w i. false≢true (sym h ∙ ap (is_in_bits true 64) (sym ((parts_of line w i).value ∙ sym value_is)) ∙ i.range)
  ] refl)
