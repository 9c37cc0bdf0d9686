-- The leaves of an array, found by division.
use Rattle.std.proofs.Common.{ℕ, zero, suc, ◌+◌, ◌*◌, ◌/◌, ◌%◌, ◌≤◌, ◌<◌, ◌^◌, ◌≡◌, refl, sym, ap, ◌∙◌, subst, List, [], ◌∷◌, ◌++◌, length, Option, None, slice_get, arith, min, ◌⊎◌, inl, inr, ⊎_elim, nat_le, false, IsTrue}
use Rattle.std.specs.Prelude.{◌&&◌}
use Rattle.std.proofs.lemmas.Bool.{cases_lt}
use Rattle.std.proofs.lemmas.Option.{slice_get_past}
use Rattle.std.proofs.lemmas.Nat.{div-add-mod', mod_below, mul-add-lt}
use Rattle.oc_cells.specs.declared.types.CType.{CType, Array}
use Rattle.oc_cells.specs.Layout.{leaves, repeated, has_size}
use Rattle.oc_cells.proofs.Lengths.{length_repeated}
use Rattle.oc_cells.proofs.Views.{leaves_array}
use Rattle.block_memory.specs.Content.{Counts, FindsLeaf}

pub length_array : (ss : List (List CType)) (n : ℕ) (t : CType) → length (leaves ss (Array n t)) ≡ n * length (leaves ss t)
length_array ss n t = ap length (leaves_array ss n t) ∙ length_repeated n (leaves ss t)

nothing : (x : ℕ) → 0 ≡ 0 * x
nothing x = grind arith

one_fits : (n x : ℕ) → suc n * x ≤ 65536 → x ≤ 65536
one_fits n x h = grind (arith, h)

-- the product of a length and a count of elements
counts_small : (ss : List (List CType)) (n c m : ℕ) (of t : CType) (ty : CType) → ty ≡ Array n of → t ≡ of → Counts (length (leaves ss t)) c → (n * c < 2 ^ 32 → m ≡ n * c) → (n ≡ 0 → m ≡ 0) → length (leaves ss ty) ≤ 65536 → m ≡ length (leaves ss ty)
counts_small ss zero c m of t ty e f g h z b = rw (e) (z refl ∙ nothing (length (leaves ss of)) ∙ sym (length_array ss zero of))
counts_small ss (suc n) c m of t ty e f g h z b =
    let total = length_array ss (suc n) of in
    let w = subst (λ k. k ≤ 65536) (ap (λ y. length (leaves ss y)) e ∙ total) b in
    let q = g.0 (subst (λ y. length (leaves ss y) ≤ 65536) (sym f) (one_fits n (length (leaves ss of)) w)) in
    let r = q ∙ ap (λ y. length (leaves ss y)) f in
    rw (e, total) (h (subst (λ k. suc n * k < 2 ^ 32) (sym r) (omega (arith, w))) ∙ ap (λ k. suc n * k) r)

row_below : (q x r n : ℕ) → q < n → r < x → q * x + r < n * x
row_below q x r n h k = subst (λ m. q * x + r < m) (grind arith) (mul-add-lt q x r n h k)

rows_past : (n i c : ℕ) → n ≤ i / c → n * c ≤ i
rows_past n i c h = grind (arith, div-add-mod' i c, h)

positive : (c : ℕ) → (c ≡ 0 → ⊥) → 0 < c
positive zero z = absurd (z refl)
positive (suc c) z = omega arith

part_fits : (n x q : ℕ) → q < n → n * x ≤ 65536 → x ≤ 65536
part_fits zero x q h b = absurd (omega (arith, h))
part_fits (suc n) x q h b = one_fits n x b

get_left : {A : Type 0} (xs ys : List A) (i : ℕ) → i < length xs → slice_get (xs ++ ys) i ≡ slice_get xs i
get_left [] ys i h = absurd (omega (arith, h))
get_left (x ∷ xs) ys zero h = refl
get_left (x ∷ xs) ys (suc i) h = get_left xs ys i (omega (arith, h))

one_more : (m n : ℕ) → suc m + n ≡ suc (m + n)
one_more m n = omega arith

get_right : {A : Type 0} (xs ys : List A) (i : ℕ) → slice_get (xs ++ ys) (length xs + i) ≡ slice_get ys i
get_right [] ys i = ap (slice_get ys) (omega arith)
get_right (x ∷ xs) ys i = ap (slice_get (x ∷ xs ++ ys)) (one_more (length xs) i) ∙ get_right xs ys i

below_or_last : (q n : ℕ) → q < suc n → (q < n) ⊎ (q ≡ n)
below_or_last zero zero h = inr refl
below_or_last zero (suc n) h = inl (omega arith)
below_or_last (suc q) zero h = absurd (omega (arith, h))
below_or_last (suc q) (suc n) h = ⊎_elim (λ g. inl (omega (arith, g))) (λ e. inr (ap (λ k. suc k) e)) (below_or_last q n (omega (arith, h)))

pub get_repeated : {A : Type 0} (xs : List A) (n q r : ℕ) → r < length xs → q < n → slice_get (repeated n xs) (q * length xs + r) ≡ slice_get xs r
get_repeated xs zero q r h k = absurd (omega (arith, k))
get_repeated xs (suc n) q r h k = ⊎_elim
    (λ g. get_left (repeated n xs) xs (q * length xs + r) (rw (length_repeated n xs) (row_below q (length xs) r n g h)) ∙ get_repeated xs n q r h g)
    (λ e. ap (λ m. slice_get (repeated n xs ++ xs) (m + r)) (ap (λ m. m * length xs) e ∙ sym (length_repeated n xs)) ∙ get_right (repeated n xs) xs r)
    (below_or_last q n k)

-- no element of an empty list, or past the last row
pub get_past : {A : Type 0} (xs : List A) (n i : ℕ) → (length xs ≡ 0) ⊎ (n * length xs ≤ i) → slice_get (repeated n xs) i ≡ None
get_past xs n i h = slice_get_past (repeated n xs) i (rw (length_repeated n xs) (⊎_elim (λ e. rw (e) (grind arith)) (λ b. b) h))

-- the leaf of an array's element
pub leaf_in_array : (ss : List (List CType)) (n i c : ℕ) (of t ty : CType) (found : Option CType) → ty ≡ Array n of → t ≡ of → Counts (length (leaves ss t)) c → (c ≡ 0 → ⊥) → i / c < n → FindsLeaf (leaves ss t) (i % c) found → FindsLeaf (leaves ss ty) i found
leaf_in_array ss n i c of t ty found e f g z b h w =
    let total = length_array ss n of in
    let v = subst (λ k. k ≤ 65536) (ap (λ y. length (leaves ss y)) e ∙ total) w in
    let u = subst (λ y. length (leaves ss y) ≤ 65536) (sym f) (part_fits n (length (leaves ss of)) (i / c) b v) in
    let q = g.0 u in
    let r = q ∙ ap (λ y. length (leaves ss y)) f in
    let low = mod_below i c (positive c z) in
    h u ∙ ap (λ y. slice_get (leaves ss y) (i % c)) f
    ∙ sym (get_repeated (leaves ss of) n (i / c) (i % c) (subst (λ k. i % c < k) r low) b)
    ∙ ap (slice_get (repeated n (leaves ss of))) (ap (λ k. i / c * k + i % c) (sym r) ∙ div-add-mod' i c)
    ∙ ap (λ ls. slice_get ls i) (sym (leaves_array ss n of) ∙ ap (leaves ss) (sym e))

pub no_leaf_in_array : (ss : List (List CType)) (n i c : ℕ) (of t ty : CType) → ty ≡ Array n of → t ≡ of → Counts (length (leaves ss t)) c → (c ≡ 0) ⊎ (n ≤ i / c) → FindsLeaf (leaves ss ty) i None
no_leaf_in_array ss zero i c of t ty e f g h w =
    sym (ap (λ y. slice_get (leaves ss y) i) e ∙ ap (λ ls. slice_get ls i) (leaves_array ss zero of))
no_leaf_in_array ss (suc n) i c of t ty e f g h w =
    let total = length_array ss (suc n) of in
    let v = subst (λ k. k ≤ 65536) (ap (λ y. length (leaves ss y)) e ∙ total) w in
    let q = g.0 (subst (λ y. length (leaves ss y) ≤ 65536) (sym f) (one_fits n (length (leaves ss of)) v)) in
    let r = q ∙ ap (λ y. length (leaves ss y)) f in
    let past = ⊎_elim (λ z. inl (sym r ∙ z)) (λ b. inr (subst (λ k. suc n * k ≤ i) r (rows_past (suc n) i c b))) h in
    sym (ap (λ y. slice_get (leaves ss y) i) e ∙ ap (λ ls. slice_get ls i) (leaves_array ss (suc n) of) ∙ get_past (leaves ss of) (suc n) i past)

pub product_fits : (n c m : ℕ) → m ≡ min (n * c) 4294967295 → n * c < 2 ^ 32 → m ≡ n * c
product_fits n c m e h = grind (arith, e, h)

least : (c : ℕ) → min (0 * c) 4294967295 ≡ 0
least c = grind arith

pub product_of_none : (n c m : ℕ) → m ≡ min (n * c) 4294967295 → n ≡ 0 → m ≡ 0
product_of_none n c m e z = e ∙ ap (λ k. min (k * c) 4294967295) z ∙ least c

no_product : (x : ℕ) → 65536 < 0 * x → ⊥
no_product x h = grind (arith, h)

once_more : (n c : ℕ) → 65536 < c → 65536 < suc n * c
once_more n c h = grind (arith, h)

small_or_far : (x : ℕ) → (x ≤ 65536) ⊎ (65536 < x)
small_or_far x = ⊎_elim (λ b. inr b) (λ b. inl b) (cases_lt 65536 x)

far_min : (k : ℕ) → 65536 < k → 65536 < min k 4294967295
far_min k h = grind (arith, h)

far_product : (n x c : ℕ) → (x ≤ 65536 → c ≡ x) → (65536 < x → 65536 < c) → 65536 < n * x → 65536 < n * c
far_product zero x c f g h = absurd (no_product x h)
far_product (suc n) x c f g h = ⊎_elim (λ b. subst (λ k. 65536 < suc n * k) (sym (f b)) h) (λ b. once_more n c (g b)) (small_or_far x)

pub counts_array : (ss : List (List CType)) (n c m : ℕ) (of t : CType) (ty : CType) → ty ≡ Array n of → t ≡ of → Counts (length (leaves ss t)) c → m ≡ min (n * c) 4294967295 → Counts (length (leaves ss ty)) m
counts_array ss n c m of t ty e f g h = (
  counts_small ss n c m of t ty e f g (product_fits n c m h) (product_of_none n c m h),
  λ b. rw (h) (far_min (n * c) (far_product n (length (leaves ss t)) c g.0 g.1 (subst (λ k. 65536 < k) (ap (λ y. length (leaves ss y)) e ∙ length_array ss n of ∙ ap (λ y. n * length (leaves ss y)) (sym f)) b))),
)

both_sizes : (n : ℕ) → IsTrue (nat_le 1 n && nat_le n 65536) → (1 ≤ n) × (n ≤ 65536)
both_sizes n h = (grind (arith, h), grind (arith, h))

neither : (n : ℕ) → 65536 < n → (nat_le 1 n && nat_le n 65536) ≡ false
neither n h = grind (arith, h)

pub sized : (ls : List CType) → IsTrue (has_size ls) → (1 ≤ length ls) × (length ls ≤ 65536)
sized ls h = both_sizes (length ls) h

pub sizes : (n c : ℕ) → Counts n c → (nat_le 1 c && nat_le c 65536) ≡ (nat_le 1 n && nat_le n 65536)
sizes n c h = ⊎_elim (λ b. ap (λ k. nat_le 1 k && nat_le k 65536) (h.0 b)) (λ b. neither c (h.1 b) ∙ sym (neither n b)) (small_or_far n)
