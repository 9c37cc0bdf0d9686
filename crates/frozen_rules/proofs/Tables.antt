-- Facts of structs, of which each stands on those of the structs before it.
use Rattle.std.proofs.Common.{ℕ, zero, suc, ◌<◌, ◌≤◌, ◌+◌, take, ◌≡◌, refl, sym, ap, ◌∙◌, List, [], ◌∷◌, ◌++◌, Bool, false, Option, Some, None, arith}
use Rattle.std.specs.Prelude.{slice_get, slice_index_or}
use Rattle.std.proofs.lemmas.List.{append_assoc, append-nil}
use Rattle.oc_cells.specs.declared.types.CType.{CType}
use Rattle.oc_cells.specs.declared.types.StructType.{StructType}
use Rattle.oc_cells.specs.Types.{some_public, public_after, public_structs}
use Rattle.oc_cells.specs.Layout.{field_leaves, leaves_after, struct_leaves, or_none}

module _ (B : Type 0) (q : List B → StructType → B) where
  -- the facts of some structs, where those of the ones before are known
  abbrev pub later : List B → List StructType → List B
  later known [] = []
  later known (s ∷ ss) = q known s ∷ later (known ++ q known s ∷ []) ss

  later_at : (known : List B) (ss : List StructType) (k : ℕ) (s : StructType) → slice_get ss k ≡ Some s → slice_get (later known ss) k ≡ Some (q (known ++ take k (later known ss)) s)
  later_at known [] k s h = absurd cc
  later_at known (t ∷ ts) zero s h = cc (append-nil known)
  later_at known (t ∷ ts) (suc k) s h =
      later_at (known ++ q known t ∷ []) ts k s h ∙ ap (λ x. Some (q x s)) (append_assoc known (q known t ∷ []) (take k (later (known ++ q known t ∷ []) ts)))

  later_none : (known : List B) (ss : List StructType) (k : ℕ) → slice_get ss k ≡ None → slice_get (later known ss) k ≡ None
  later_none known [] k h = refl
  later_none known (t ∷ ts) zero h = absurd cc
  later_none known (t ∷ ts) (suc k) h = later_none (known ++ q known t ∷ []) ts k h

abbrev public_of : List Bool → StructType → Bool
public_of known s = some_public known s.fields

public_later : (known : List Bool) (ss : List StructType) → public_after known ss ≡ known ++ later Bool public_of known ss
public_later known [] = sym (append-nil known)
public_later known (s ∷ ss) = public_later (known ++ public_of known s ∷ []) ss ∙ append_assoc known (public_of known s ∷ []) (later Bool public_of (known ++ public_of known s ∷ []) ss)

or_false : Option Bool → Bool
or_false None = false
or_false (Some b) = b

index_is : (xs : List Bool) (n : ℕ) → slice_index_or xs n false ≡ or_false (slice_get xs n)
unfolding or_false
index_is [] n = refl
index_is (x ∷ xs) zero = refl
index_is (x ∷ xs) (suc n) = index_is xs n

-- a struct that is there
pub public_at : (ss : List StructType) (n : ℕ) (s : StructType) → Some s ≡ slice_get ss n → slice_index_or (public_structs ss) n false ≡ some_public (take n (public_structs ss)) s.fields
unfolding or_false
public_at ss n s h =
    let e = public_later [] ss in
    rw e (index_is (later Bool public_of [] ss) n ∙ ap or_false (later_at Bool public_of [] ss n s (sym h)))

-- and one that isn't
pub public_none : (ss : List StructType) (n : ℕ) → None ≡ slice_get ss n → slice_index_or (public_structs ss) n false ≡ false
unfolding or_false
public_none ss n h =
    let e = public_later [] ss in
    rw e (index_is (later Bool public_of [] ss) n ∙ ap or_false (later_none Bool public_of [] ss n (sym h)))

abbrev leaves_of : List (List CType) → StructType → List CType
leaves_of known s = field_leaves known s.fields

leaves_later : (known : List (List CType)) (ss : List StructType) → leaves_after known ss ≡ known ++ later (List CType) leaves_of known ss
leaves_later known [] = sym (append-nil known)
leaves_later known (s ∷ ss) = leaves_later (known ++ leaves_of known s ∷ []) ss ∙ append_assoc known (leaves_of known s ∷ []) (later (List CType) leaves_of (known ++ leaves_of known s ∷ []) ss)

pub leaves_at : (ss : List StructType) (n : ℕ) (s : StructType) → Some s ≡ slice_get ss n → or_none (slice_get (struct_leaves ss) n) ≡ field_leaves (take n (struct_leaves ss)) s.fields
leaves_at ss n s h =
    let e = leaves_later [] ss in
    rw e (ap (λ o. or_none o) (later_at (List CType) leaves_of [] ss n s (sym h)))

pub leaves_none : (ss : List StructType) (n : ℕ) → None ≡ slice_get ss n → or_none (slice_get (struct_leaves ss) n) ≡ []
leaves_none ss n h =
    let e = leaves_later [] ss in
    rw e (ap (λ o. or_none o) (later_none (List CType) leaves_of [] ss n (sym h)))

get_before : {A : Type 0} (xs : List A) (m n : ℕ) → n < m → slice_get (take m xs) n ≡ slice_get xs n
get_before xs zero n h = absurd (omega arith)
get_before [] (suc m) n h = refl
get_before (x ∷ xs) (suc m) zero h = refl
get_before (x ∷ xs) (suc m) (suc n) h = get_before xs m n (omega arith)

get_past : {A : Type 0} (xs : List A) (m n : ℕ) → m ≤ n → slice_get (take m xs) n ≡ None
get_past xs zero n h = refl
get_past [] (suc m) n h = refl
get_past (x ∷ xs) (suc m) zero h = absurd (omega arith)
get_past (x ∷ xs) (suc m) (suc n) h = get_past xs m n (omega arith)

-- a struct among the first ones
pub public_before : (xs : List Bool) (m n : ℕ) → n < m → slice_index_or (take m xs) n false ≡ slice_index_or xs n false
public_before xs m n h = index_is (take m xs) n ∙ ap or_false (get_before xs m n h) ∙ sym (index_is xs n)

pub public_past : (xs : List Bool) (m n : ℕ) → m ≤ n → slice_index_or (take m xs) n false ≡ false
unfolding or_false
public_past xs m n h = index_is (take m xs) n ∙ ap or_false (get_past xs m n h)

pub leaves_before : (xs : List (List CType)) (m n : ℕ) → n < m → or_none (slice_get (take m xs) n) ≡ or_none (slice_get xs n)
leaves_before xs m n h = ap (λ o. or_none o) (get_before xs m n h)

pub leaves_past : (xs : List (List CType)) (m n : ℕ) → m ≤ n → or_none (slice_get (take m xs) n) ≡ []
leaves_past xs m n h = ap (λ o. or_none o) (get_past xs m n h)
