-- The suffixes that are looked up are those that are spelled.
use Rattle.std.proofs.Common.{◌≡◌, ℕ, Bool, true, false, cond, List, [], ◌∷◌, ◌++◌, get_or, Option, Some, refl, sym, subst, inl, inr}
use Rattle.std.specs.Prelude.{◌⊎◌, not, ◌&&◌, ◌||◌, nat_eq, codes}
use Rattle.std.specs.List.{list_any}
use Rattle.std.specs.Map.{lookup}
use Rattle.std.specs.Str.{bytes_eq}
use Rattle.std.proofs.lemmas.Bool.{false≢true}
use Rattle.std.proofs.lemmas.Slice.Eq.{bytes_eq-Decides}
use Rattle.oc_lexer.specs.declared.bytes.ByteClass.TheVariants as class
use Rattle.oc_lexer.specs.declared.numbers.Suffix.{Suffix}
use Rattle.oc_lexer.specs.Bytes.{is_in, begins_with}
use Rattle.oc_lexer.specs.Numbers.{unsigned_marks, long_marks, SpellsSuffix}
use Rattle.oc_lexer.specs.ScannedNumbers.{suffix, suffixes}

-- ---- what is spelled is looked up

-- the suffix that a text is, and whether no digit and no `x` stands first in it
abbrev pub seen : List ℕ → Option Suffix × Bool
seen t = (
  lookup (bytes_eq t) suffixes,
  not (begins_with (is_in class.Decimal) t) && (not (begins_with (is_in class.Octal) t)
      && (not (begins_with (is_in class.Hexadecimal) t) && not (nat_eq (get_or t 0 0) 120 || nat_eq (get_or t 0 0) 88))),
)

abbrev pub Ending : Suffix → List ℕ → Type 0
Ending s t = seen t ≡ (let x : Option Suffix × Bool = (Some s, true) in x)

abbrev Each : (List ℕ → Type 0) → List (List ℕ) → Type 0
Each P [] = Unit {0}
Each P (m ∷ ms) = P m × Each P ms

any_at : (P : List ℕ → Type 0) (x m : List ℕ) (b more : Bool) → bytes_eq x m ≡ b → (b || more) ≡ true → P m → (more ≡ true → P x) → P x
any_at P x m true more e h p on = subst P (sym ((bytes_eq-Decides x m).0 e)) p
any_at P x m false more e h p on = on h

-- one of some texts has what each of them has
any_of : (P : List ℕ → Type 0) (x : List ℕ) (ms : List (List ℕ)) → list_any (bytes_eq x) ms ≡ true → Each P ms → P x
any_of P x [] h each = absurd (false≢true h)
any_of P x (m ∷ ms) h each = any_at P x m (bytes_eq x m) (list_any (bytes_eq x) ms) refl h each.0 (λ g. any_of P x ms g each.1)

abbrev Both : Suffix → List ℕ → List ℕ → Type 0
Both s u l = Ending s (u ++ l) × Ending s (l ++ u)

marks : (unsigned long : Bool) → Each (λ u. Each (Both (suffix unsigned long) u) (long_marks long)) (unsigned_marks unsigned)
marks false false = (((refl, refl), tt), tt)
marks true false = (((refl, refl), tt), (((refl, refl), tt), tt))
marks false true = (((refl, refl), ((refl, refl), ((refl, refl), ((refl, refl), tt)))), tt)
marks true true = (((refl, refl), ((refl, refl), ((refl, refl), ((refl, refl), tt)))), (((refl, refl), ((refl, refl), ((refl, refl), ((refl, refl), tt)))), tt))

ordered : (s : Suffix) (t u l : List ℕ) → (t ≡ u ++ l) ⊎ (t ≡ l ++ u) → Both s u l → Ending s t
ordered s t u l (inl e) b = subst (Ending s) (sym e) b.0
ordered s t u l (inr e) b = subst (Ending s) (sym e) b.1

pub suffix_read : (s : Suffix) (t : List ℕ) → SpellsSuffix s t → Ending s t
suffix_read s t w =
    ordered s t w.u w.l w.order
    (any_of (Both s w.u) w.l (long_marks s.long) w.long
    (any_of (λ u. Each (Both s u) (long_marks s.long)) w.u (unsigned_marks s.unsigned) w.unsigned (marks s.unsigned s.long)))

-- ---- what is looked up is spelled

first : (s : Suffix) (u l : List ℕ) → list_any (bytes_eq u) (unsigned_marks s.unsigned) ≡ true → list_any (bytes_eq l) (long_marks s.long) ≡ true → SpellsSuffix s (u ++ l)
first s u l f g = record { u = u; l = l; unsigned = f; long = g; order = inl refl }

last : (s : Suffix) (u l : List ℕ) → list_any (bytes_eq u) (unsigned_marks s.unsigned) ≡ true → list_any (bytes_eq l) (long_marks s.long) ≡ true → SpellsSuffix s (l ++ u)
last s u l f g = record { u = u; l = l; unsigned = f; long = g; order = inr refl }

abbrev EachRow : List (List ℕ × Suffix) → Type 0
EachRow [] = Unit {0}
EachRow (r ∷ rs) = SpellsSuffix r.1 r.0 × EachRow rs

every_row : EachRow suffixes
every_row = (
  first (suffix false false) [] [] refl refl,
  (
    first (suffix true false) (codes "u") [] refl refl,
    (
      first (suffix true false) (codes "U") [] refl refl,
      (
        first (suffix false true) [] (codes "l") refl refl,
        (
          first (suffix false true) [] (codes "L") refl refl,
          (
            first (suffix false true) [] (codes "ll") refl refl,
            (
              first (suffix false true) [] (codes "LL") refl refl,
              (
                first (suffix true true) (codes "u") (codes "l") refl refl,
                (
                  first (suffix true true) (codes "u") (codes "L") refl refl,
                  (
                    first (suffix true true) (codes "u") (codes "ll") refl refl,
                    (
                      first (suffix true true) (codes "u") (codes "LL") refl refl,
                      (
                        first (suffix true true) (codes "U") (codes "l") refl refl,
                        (
                          first (suffix true true) (codes "U") (codes "L") refl refl,
                          (
                            first (suffix true true) (codes "U") (codes "ll") refl refl,
                            (
                              first (suffix true true) (codes "U") (codes "LL") refl refl,
                              (
                                last (suffix true true) (codes "u") (codes "l") refl refl,
                                (
                                  last (suffix true true) (codes "u") (codes "L") refl refl,
                                  (
                                    last (suffix true true) (codes "u") (codes "ll") refl refl,
                                    (
                                      last (suffix true true) (codes "u") (codes "LL") refl refl,
                                      (
                                        last (suffix true true) (codes "U") (codes "l") refl refl,
                                        (
                                          last (suffix true true) (codes "U") (codes "L") refl refl,
                                          (
                                            last (suffix true true) (codes "U") (codes "ll") refl refl,
                                            (last (suffix true true) (codes "U") (codes "LL") refl refl, tt),
                                          ),
                                        ),
                                      ),
                                    ),
                                  ),
                                ),
                              ),
                            ),
                          ),
                        ),
                      ),
                    ),
                  ),
                ),
              ),
            ),
          ),
        ),
      ),
    ),
  ),
)

row_at : (s : Suffix) (t : List ℕ) (r : List ℕ × Suffix) (b : Bool) (more : Option Suffix) → bytes_eq t r.0 ≡ b → cond b (Some r.1) more ≡ Some s → SpellsSuffix r.1 r.0 → (more ≡ Some s → SpellsSuffix s t) → SpellsSuffix s t
row_at s t r true more h e w on =
    let same : r.1 ≡ s = cc in
    subst (λ x. SpellsSuffix x t) same (subst (SpellsSuffix r.1) (sym ((bytes_eq-Decides t r.0).0 h)) w)
row_at s t r false more h e w on = on e

row_of : (s : Suffix) (t : List ℕ) (rs : List (List ℕ × Suffix)) → lookup (bytes_eq t) rs ≡ Some s → EachRow rs → SpellsSuffix s t
row_of s t [] e each = absurd cc
row_of s t (r ∷ rs) e each = row_at s t r (bytes_eq t r.0) (lookup (bytes_eq t) rs) refl e each.0 (λ g. row_of s t rs g each.1)

pub suffix_spelled : (s : Suffix) (t : List ℕ) → lookup (bytes_eq t) suffixes ≡ Some s → SpellsSuffix s t
suffix_spelled s t e = row_of s t suffixes e every_row
