-- The sign that is found at the front of a text is the longest.
use Rattle.std.proofs.Common.{◌≡◌, ℕ, ◌≤◌, Bool, true, false, cond, List, [], ◌∷◌, ◌++◌, length, take, drop, Option, Some, None, refl, sym, ap, subst, ◌∙◌, arith, inl, inr, take-append-drop}
use Rattle.std.specs.Prelude.{not, ◌&&◌, ◌||◌, ◌⊎◌, nat_eq, nat_lt}
use Rattle.std.specs.List.{list_all, list_any, starts_with}
use Rattle.std.specs.Str.{bytes_eq}
use Rattle.std.proofs.lemmas.Bool.{and_parts, and_from, not-true, false≢true, true≢false}
use Rattle.std.proofs.lemmas.Bool.Decides.{nat_tests}
use Rattle.std.proofs.lemmas.List.{take-take}
use Rattle.std.proofs.lemmas.Slice.Eq.{bytes_eq-Decides}
use Rattle.oc_lexer.specs.declared.token.Sign.{Sign}
use Rattle.oc_lexer.specs.declared.token.Sign.TheVariants as s
use Rattle.oc_lexer.specs.Words.{sign_text, signs}
use Rattle.oc_lexer.specs.Pieces.{SpellsSign}
use Rattle.oc_lexer.specs.Scanned.{find_sign, sign_at}
use Rattle.oc_lexer.proofs.Openings.{starts_true, starts_of, split_is}

-- the second sign begins with the first one and is longer
abbrev extends : Sign → Sign → Bool
extends x y = starts_with nat_eq (sign_text y) (sign_text x) && nat_lt (length (sign_text x)) (length (sign_text y))

abbrev are_ordered : List Sign → Bool
are_ordered [] = true
are_ordered (x ∷ xs) = list_all (λ y. not (extends x y)) xs && are_ordered xs

ordered : are_ordered signs ≡ true
ordered = refl

abbrev has : Sign → List Sign → Bool
has y xs = list_any (λ x. bytes_eq (sign_text x) (sign_text y)) xs

or_cases : (a b : Bool) → (a || b) ≡ true → (a ≡ true) ⊎ (b ≡ true)
or_cases true b h = inl refl
or_cases false b h = inr h

-- of two fronts of one text the shorter is a front of the longer
front_of_front : (text x y : List ℕ) → starts_with nat_eq text x ≡ true → starts_with nat_eq text y ≡ true → length x ≤ length y → starts_with nat_eq y x ≡ true
front_of_front text x y hx hy le =
    let a = starts_true text x hx in
    let b = starts_true text y hy in
    let u : take (length x) text ≡ x = (split_is (length x) text x (drop (length x) text) a refl).front_is in
    let v : take (length y) text ≡ y = (split_is (length y) text y (drop (length y) text) b refl).front_is in
    let w : take (length x) y ≡ x = ap (take (length x)) (sym v) ∙ take-take (length x) (length y) text le ∙ u in
    starts_of y x (drop (length x) y) (sym (take-append-drop (length x) y) ∙ ap (λ t. t ++ drop (length x) y) w)

-- of two fronts of one length there is one
same_front : (text x y : List ℕ) → starts_with nat_eq text x ≡ true → starts_with nat_eq text y ≡ true → length x ≡ length y → x ≡ y
same_front text x y hx hy e =
    sym (split_is (length x) text x (drop (length x) text) (starts_true text x hx) refl).front_is ∙ ap (λ n. take n text) e
    ∙ (split_is (length y) text y (drop (length y) text) (starts_true text y hy) refl).front_is

none_extends : (x y : Sign) (xs : List Sign) → list_all (λ z. not (extends x z)) xs ≡ true → has y xs ≡ true → extends x y ≡ false
none_extends x y [] all h = absurd (false≢true h)
none_extends x y (z ∷ zs) all h =
    let p = and_parts (not (extends x z)) (list_all (λ w. not (extends x w)) zs) all in
    elim (or_cases _ _ h) [
      | inl same ↦ ap (λ t. starts_with nat_eq t (sign_text x) && nat_lt (length (sign_text x)) (length t)) (sym ((bytes_eq-Decides (sign_text z) (sign_text y)).0 same)) ∙ not-true _ p.0
      | inr more ↦ none_extends x y zs p.1 more
    ]

not_longer_at : (text : List ℕ) (x y : Sign) → starts_with nat_eq text (sign_text x) ≡ true → starts_with nat_eq text (sign_text y) ≡ true → extends x y ≡ false → (b : Bool) → nat_lt (length (sign_text x)) (length (sign_text y)) ≡ b → length (sign_text y) ≤ length (sign_text x)
not_longer_at text x y hx hy h true lt =
    let le : length (sign_text x) ≤ length (sign_text y) = grind (arith, nat_tests) in
    absurd (true≢false (sym (and_from _ _ (front_of_front text (sign_text x) (sign_text y) hx hy le) lt) ∙ h))
not_longer_at text x y hx hy h false lt = grind (arith, nat_tests)

not_longer : (text : List ℕ) (x y : Sign) → starts_with nat_eq text (sign_text x) ≡ true → starts_with nat_eq text (sign_text y) ≡ true → extends x y ≡ false → length (sign_text y) ≤ length (sign_text x)
not_longer text x y hx hy h = not_longer_at text x y hx hy h (nat_lt (length (sign_text x)) (length (sign_text y))) refl

longest_at : (x y : Sign) (xs : List Sign) (text : List ℕ) (found : Sign) (b : Bool) → starts_with nat_eq text (sign_text x) ≡ b → cond b (Some x) (find_sign xs text) ≡ Some found → list_all (λ z. not (extends x z)) xs ≡ true → starts_with nat_eq text (sign_text y) ≡ true
    → (bytes_eq (sign_text x) (sign_text y) ≡ true) ⊎ (has y xs ≡ true) → (find_sign xs text ≡ Some found → has y xs ≡ true → length (sign_text y) ≤ length (sign_text found)) → length (sign_text y) ≤ length (sign_text found)
longest_at x y xs text found true hx e all hy (inl same) on =
    let f : x ≡ found = cc in
    let g = ap length ((bytes_eq-Decides (sign_text x) (sign_text y)).0 same) in
    let k = ap (λ z. length (sign_text z)) f in
    omega (arith, g, k)
longest_at x y xs text found true hx e all hy (inr more) on =
    let f : x ≡ found = cc in
    subst (λ z. length (sign_text y) ≤ length (sign_text z)) f (not_longer text x y hx hy (none_extends x y xs all more))
longest_at x y xs text found false hx e all hy (inl same) on = absurd (false≢true (sym hx ∙ ap (starts_with nat_eq text) ((bytes_eq-Decides (sign_text x) (sign_text y)).0 same) ∙ hy))
longest_at x y xs text found false hx e all hy (inr more) on = on e more

longest : (xs : List Sign) (y found : Sign) (text : List ℕ) → are_ordered xs ≡ true → has y xs ≡ true → starts_with nat_eq text (sign_text y) ≡ true → find_sign xs text ≡ Some found → length (sign_text y) ≤ length (sign_text found)
longest [] y found text o h hy e = absurd (false≢true h)
longest (x ∷ xs) y found text o h hy e =
    let p = and_parts (list_all (λ z. not (extends x z)) xs) (are_ordered xs) o in
    longest_at x y xs text found (starts_with nat_eq text (sign_text x)) refl e p.0 hy (or_cases _ _ h) (λ e' h'. longest xs y found text p.1 h' hy e')

found_starts_at : (x found : Sign) (xs : List Sign) (text : List ℕ) (b : Bool) → starts_with nat_eq text (sign_text x) ≡ b → cond b (Some x) (find_sign xs text) ≡ Some found → (find_sign xs text ≡ Some found → starts_with nat_eq text (sign_text found) ≡ true) → starts_with nat_eq text (sign_text found) ≡ true
found_starts_at x found xs text true h e on = let f : x ≡ found = cc in subst (λ z. starts_with nat_eq text (sign_text z) ≡ true) f h
found_starts_at x found xs text false h e on = on e

found_starts : (xs : List Sign) (found : Sign) (text : List ℕ) → find_sign xs text ≡ Some found → starts_with nat_eq text (sign_text found) ≡ true
found_starts [] found text e = absurd cc
found_starts (x ∷ xs) found text e = found_starts_at x found xs text (starts_with nat_eq text (sign_text x)) refl e (found_starts xs found text)

finds_at : (x y : Sign) (xs : List Sign) (text : List ℕ) (b : Bool) → starts_with nat_eq text (sign_text x) ≡ b → starts_with nat_eq text (sign_text y) ≡ true → (bytes_eq (sign_text x) (sign_text y) ≡ true) ⊎ (has y xs ≡ true) → (has y xs ≡ true → (found : Sign) × (find_sign xs text ≡ Some found)) → (found : Sign) × (cond b (Some x) (find_sign xs text) ≡ Some found)
finds_at x y xs text true h hy which on = (x, refl)
finds_at x y xs text false h hy (inl same) on = absurd (false≢true (sym h ∙ ap (starts_with nat_eq text) ((bytes_eq-Decides (sign_text x) (sign_text y)).0 same) ∙ hy))
finds_at x y xs text false h hy (inr more) on = on more

finds : (xs : List Sign) (y : Sign) (text : List ℕ) → has y xs ≡ true → starts_with nat_eq text (sign_text y) ≡ true → (found : Sign) × (find_sign xs text ≡ Some found)
finds [] y text h hy = absurd (false≢true h)
finds (x ∷ xs) y text h hy =
    let r = finds_at x y xs text (starts_with nat_eq text (sign_text x)) refl hy (or_cases _ _ h) (λ h'. finds xs y text h' hy) in
    (r.0, r.1)

-- ---- every sign

named : List Sign → List ℕ → Option Sign
named [] text = None
named (x ∷ xs) text = cond (bytes_eq (sign_text x) text) (Some x) (named xs text)

has_all : (y : Sign) → has y signs ≡ true
has_all s.LeftParen = refl
has_all s.RightParen = refl
has_all s.LeftBracket = refl
has_all s.RightBracket = refl
has_all s.LeftBrace = refl
has_all s.RightBrace = refl
has_all s.Semicolon = refl
has_all s.Comma = refl
has_all s.Dot = refl
has_all s.Arrow = refl
has_all s.PlusPlus = refl
has_all s.MinusMinus = refl
has_all s.Plus = refl
has_all s.Minus = refl
has_all s.Star = refl
has_all s.Slash = refl
has_all s.Percent = refl
has_all s.Ampersand = refl
has_all s.Bar = refl
has_all s.Caret = refl
has_all s.Tilde = refl
has_all s.Bang = refl
has_all s.Less = refl
has_all s.Greater = refl
has_all s.LessEq = refl
has_all s.GreaterEq = refl
has_all s.EqualEqual = refl
has_all s.NotEqual = refl
has_all s.ShiftLeft = refl
has_all s.ShiftRight = refl
has_all s.AndAnd = refl
has_all s.OrOr = refl
has_all s.Question = refl
has_all s.Colon = refl
has_all s.Assign = refl
has_all s.PlusAssign = refl
has_all s.MinusAssign = refl
has_all s.StarAssign = refl
has_all s.SlashAssign = refl
has_all s.PercentAssign = refl
has_all s.AndAssign = refl
has_all s.OrAssign = refl
has_all s.XorAssign = refl
has_all s.ShiftLeftAssign = refl
has_all s.ShiftRightAssign = refl

named_all : (y : Sign) → named signs (sign_text y) ≡ Some y
unfolding named
named_all s.LeftParen = refl
named_all s.RightParen = refl
named_all s.LeftBracket = refl
named_all s.RightBracket = refl
named_all s.LeftBrace = refl
named_all s.RightBrace = refl
named_all s.Semicolon = refl
named_all s.Comma = refl
named_all s.Dot = refl
named_all s.Arrow = refl
named_all s.PlusPlus = refl
named_all s.MinusMinus = refl
named_all s.Plus = refl
named_all s.Minus = refl
named_all s.Star = refl
named_all s.Slash = refl
named_all s.Percent = refl
named_all s.Ampersand = refl
named_all s.Bar = refl
named_all s.Caret = refl
named_all s.Tilde = refl
named_all s.Bang = refl
named_all s.Less = refl
named_all s.Greater = refl
named_all s.LessEq = refl
named_all s.GreaterEq = refl
named_all s.EqualEqual = refl
named_all s.NotEqual = refl
named_all s.ShiftLeft = refl
named_all s.ShiftRight = refl
named_all s.AndAnd = refl
named_all s.OrOr = refl
named_all s.Question = refl
named_all s.Colon = refl
named_all s.Assign = refl
named_all s.PlusAssign = refl
named_all s.MinusAssign = refl
named_all s.StarAssign = refl
named_all s.SlashAssign = refl
named_all s.PercentAssign = refl
named_all s.AndAssign = refl
named_all s.OrAssign = refl
named_all s.XorAssign = refl
named_all s.ShiftLeftAssign = refl
named_all s.ShiftRightAssign = refl

pub sign_some : (y : Sign) → 1 ≤ length (sign_text y)
sign_some s.LeftParen = omega arith
sign_some s.RightParen = omega arith
sign_some s.LeftBracket = omega arith
sign_some s.RightBracket = omega arith
sign_some s.LeftBrace = omega arith
sign_some s.RightBrace = omega arith
sign_some s.Semicolon = omega arith
sign_some s.Comma = omega arith
sign_some s.Dot = omega arith
sign_some s.Arrow = omega arith
sign_some s.PlusPlus = omega arith
sign_some s.MinusMinus = omega arith
sign_some s.Plus = omega arith
sign_some s.Minus = omega arith
sign_some s.Star = omega arith
sign_some s.Slash = omega arith
sign_some s.Percent = omega arith
sign_some s.Ampersand = omega arith
sign_some s.Bar = omega arith
sign_some s.Caret = omega arith
sign_some s.Tilde = omega arith
sign_some s.Bang = omega arith
sign_some s.Less = omega arith
sign_some s.Greater = omega arith
sign_some s.LessEq = omega arith
sign_some s.GreaterEq = omega arith
sign_some s.EqualEqual = omega arith
sign_some s.NotEqual = omega arith
sign_some s.ShiftLeft = omega arith
sign_some s.ShiftRight = omega arith
sign_some s.AndAnd = omega arith
sign_some s.OrOr = omega arith
sign_some s.Question = omega arith
sign_some s.Colon = omega arith
sign_some s.Assign = omega arith
sign_some s.PlusAssign = omega arith
sign_some s.MinusAssign = omega arith
sign_some s.StarAssign = omega arith
sign_some s.SlashAssign = omega arith
sign_some s.PercentAssign = omega arith
sign_some s.AndAssign = omega arith
sign_some s.OrAssign = omega arith
sign_some s.XorAssign = omega arith
sign_some s.ShiftLeftAssign = omega arith
sign_some s.ShiftRightAssign = omega arith

same_sign : (x y : Sign) → sign_text x ≡ sign_text y → x ≡ y
same_sign x y e = let h : Some x ≡ Some y = sym (named_all x) ∙ ap (named signs) e ∙ named_all y in cc

-- ---- the sign at the front

pub sign_found : (text : List ℕ) (found : Sign) → sign_at text ≡ Some found → (text ≡ sign_text found ++ drop (length (sign_text found)) text) × SpellsSign found (sign_text found) (drop (length (sign_text found)) text)
unfolding sign_at
sign_found text found e =
    let h = starts_true text (sign_text found) (found_starts signs found text e) in (
      h,
      record {
        spelled = refl;
        longest = λ longer more is. longest signs longer found text ordered (has_all longer) (starts_of text (sign_text longer) more (h ∙ is)) e;
      },
    )

pub sign_spelled : (found : Sign) (text rest : List ℕ) → SpellsSign found text rest → sign_at (text ++ rest) ≡ Some found
unfolding sign_at
sign_spelled found text rest h =
    let whole = text ++ rest in
    let starts = starts_of whole (sign_text found) rest (ap (λ t. t ++ rest) h.spelled) in
    let r = finds signs found whole (has_all found) starts in
    let other = starts_true whole (sign_text r.0) (found_starts signs r.0 whole r.1) in
    let le = h.longest r.0 (drop (length (sign_text r.0)) whole) other in
    let ge = longest signs found r.0 whole ordered (has_all found) starts r.1 in
    let size : length (sign_text r.0) ≡ length (sign_text found) = let k = ap length h.spelled in omega (arith, le, ge, k) in
    r.1 ∙ ap (λ x. Some x) (same_sign r.0 found (same_front whole (sign_text r.0) (sign_text found) (found_starts signs r.0 whole r.1) starts size))
