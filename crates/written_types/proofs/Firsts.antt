-- The first of a name in a list, by its number.
use Rattle.std.proofs.Common.{ℕ, zero, suc, ◌+◌, ◌≡◌, List, [], ◌∷◌, Option, Some, None, Bool, true, false, refl, sym, ap, ◌∙◌, arith}
use Rattle.std.specs.Prelude.{if◌then◌else◌, slice_get}
use Rattle.oc_cells.specs.declared.types.FieldType.{FieldType}
use Rattle.oc_cells.specs.declared.types.StructType.{StructType}
use Rattle.oc_typing.specs.Rules.{field_names}
use Rattle.type_rules.specs.Lookup.{same_name}
use Rattle.type_rules.specs.Operators.{field_of}
use Rattle.type_rules.specs.Written.{number_from}
use Rattle.written_types.specs.declared.shape.Shape.{Shape}
use Rattle.written_types.specs.Shapes.{types}

-- a number, counted from n
abbrev pub from : ℕ → Option ℕ → Option ℕ
from n None = None
from n (Some i) = Some (n + i)

-- the next number
abbrev pub after : Option ℕ → Option ℕ
after None = None
after (Some i) = Some (suc i)

-- the number of the first of a name, counted from 0
abbrev pub first : List (List ℕ) → List ℕ → Option ℕ
first [] x = None
first (y ∷ ys) x = if same_name y x then Some 0 else after (first ys x)

number_zero : (n : ℕ) → n ≡ n + 0
number_zero n = omega arith

number_after : (n : ℕ) (o : Option ℕ) → from (n + 1) o ≡ from n (after o)
number_after n None = refl
number_after n (Some i) = ap (λ k. Some k) (moved n i)
  where
    moved : (n i : ℕ) → (n + 1) + i ≡ n + suc i
    moved n i = omega arith

pub number_first : (n : ℕ) (xs : List (List ℕ)) (x : List ℕ) → number_from n xs x ≡ from n (first xs x)
number_first n [] x = refl
number_first n (y ∷ ys) x = go (same_name y x) (number_first (n + 1) ys x)
  where
    go : (t : Bool) → number_from (n + 1) ys x ≡ from (n + 1) (first ys x) → (if t then Some n else number_from (n + 1) ys x) ≡ from n (if t then Some 0 else after (first ys x))
    go true h = ap (λ k. Some k) (number_zero n)
    go false h = h ∙ number_after n (first ys x)

from_zero : (o : Option ℕ) → from 0 o ≡ o
from_zero None = refl
from_zero (Some i) = ap (λ k. Some k) (zero_left i)
  where
    zero_left : (i : ℕ) → 0 + i ≡ i
    zero_left i = omega arith

-- what a list has at a number, if there is one
abbrev pub got : {A : Type 0} → List A → Option ℕ → Option A
got xs None = None
got xs (Some i) = slice_get xs i

got_after : {A : Type 0} (x : A) (xs : List A) (o : Option ℕ) → got (x ∷ xs) (after o) ≡ got xs o
got_after x xs None = refl
got_after x xs (Some i) = refl

field_first : (fs : List FieldType) (x : List ℕ) → field_of fs x ≡ got fs (first (field_names fs) x)
field_first [] x = refl
field_first (f ∷ fs) x = go (same_name f.name x) (field_first fs x)
  where
    go : (t : Bool) → field_of fs x ≡ got fs (first (field_names fs) x) → (if t then Some f else field_of fs x) ≡ got (f ∷ fs) (if t then Some 0 else after (first (field_names fs) x))
    go true h = refl
    go false h = h ∙ sym (got_after f fs (first (field_names fs) x))

pub field_number : (fs : List FieldType) (x : List ℕ) → field_of fs x ≡ got fs (number_from 0 (field_names fs) x)
field_number fs x = field_first fs x ∙ ap (λ o. got fs o) (sym (number_first 0 (field_names fs) x ∙ from_zero (first (field_names fs) x)))

-- a struct that was judged, by its number
abbrev pub ty_of : Option Shape → Option StructType
ty_of None = None
ty_of (Some s) = Some s.ty

pub types_at : (ss : List Shape) (n : ℕ) → slice_get (types ss) n ≡ ty_of (slice_get ss n)
types_at [] n = refl
types_at (s ∷ ss) zero = refl
types_at (s ∷ ss) (suc n) = types_at ss n
