-- Types that are made star by star and length by length.
use Rattle.std.proofs.Common.{ℕ, zero, suc, ◌≡◌, ◌+◌, ◌*◌, ◌<◌, ◌≤◌, List, [], ◌∷◌, ◌++◌, length, get_or, refl, sym, ap, ◌∙◌, arith, Bool, true, false, nat_le, leb-true, suc-mul}
use Rattle.std.specs.Prelude.{◌&&◌, ◌||◌}
use Rattle.oc_cells.specs.declared.types.CType.{CType, Int, Pointer', Array', Struct, Nothing, Pointer, Array}
use Rattle.oc_cells.specs.declared.types.CType.TheBlock.{hidden-the_row-CType-0}
use denote.Hole.Carrier.{hidden}
use Rattle.oc_cells.specs.Types.{holds_public, normal}
use Rattle.oc_cells.specs.Layout.{cells}
use Rattle.type_rules.specs.Written.{starred, arrays, is_length, are_lengths}
use Rattle.written_types.specs.Forms.{IsBase, marked, times}
use Rattle.written_types.proofs.Counting.{cells_array}

normal_pointer : (ps : List Bool) (i f : Bool) (t : CType) → normal ps i (Pointer f t) ≡ Pointer (holds_public ps t && (i || f)) (normal ps (i || f) t)
unfolding hidden-the_row-CType-0 hidden
normal_pointer ps i f t = refl

normal_array : (ps : List Bool) (i : Bool) (n : ℕ) (t : CType) → normal ps i (Array n t) ≡ Array n (normal ps i t)
unfolding hidden-the_row-CType-0 hidden
normal_array ps i n t = refl

public_pointer : (ps : List Bool) (f : Bool) (t : CType) → holds_public ps (Pointer f t) ≡ true
unfolding hidden-the_row-CType-0 hidden
public_pointer ps f t = refl

or_twice : (f : Bool) → (f || f) ≡ f
or_twice true = refl
or_twice false = refl

-- the pointers round a pointer keep its mark where they have it
normal_stars : (ps : List Bool) (n : ℕ) (f : Bool) (t : CType) → normal ps false (starred f n (Pointer f t)) ≡ starred f n (Pointer (holds_public ps t && f) (normal ps f t))
normal_stars ps zero f t = normal_pointer ps false f t
normal_stars ps (suc n) f t =
    normal_stars ps n f (Pointer f t)
    ∙ ap (λ b. starred f n (Pointer (b && f) (normal ps f (Pointer f t)))) (public_pointer ps f t)
    ∙ ap (λ u. starred f n (Pointer f u)) (normal_pointer ps f f t)
    ∙ ap (λ g. starred f n (Pointer f (Pointer (holds_public ps t && g) (normal ps g t)))) (or_twice f)

marked_stars : (f : Bool) (n : ℕ) (t : CType) → starred f n t ≡ marked f f n t
marked_stars f zero t = refl
marked_stars f (suc n) t = marked_stars f n (Pointer f t)

normal_base : (ps : List Bool) (i : Bool) (b : CType) → IsBase b → normal ps i b ≡ b
normal_base ps i (Int k o) h = refl
normal_base ps i (Struct n) h = refl
normal_base ps i (Pointer' f u t) h = absurd h
normal_base ps i (Array' n u t) h = absurd h
normal_base ps i Nothing h = absurd h

pub normal_marked : (ps : List Bool) (f : Bool) (n : ℕ) (b : CType) → IsBase b → marked (holds_public ps b && f) f n b ≡ normal ps false (starred f n b)
normal_marked ps f zero b h = sym (normal_base ps false b h)
normal_marked ps f (suc n) b h =
    sym (normal_stars ps n f b ∙ ap (λ u. starred f n (Pointer (holds_public ps b && f) u)) (normal_base ps f b h)
    ∙ marked_stars f n (Pointer (holds_public ps b && f) b))

pub normal_arrays : (ps : List Bool) (ns : List ℕ) (t : CType) → normal ps false (arrays ns t) ≡ arrays ns (normal ps false t)
normal_arrays ps [] t = refl
normal_arrays ps (n ∷ ns) t = normal_array ps false n (arrays ns t) ∙ ap (λ u. Array n u) (normal_arrays ps ns t)

pub arrays_push : (ns : List ℕ) (n : ℕ) (t : CType) → arrays (ns ++ n ∷ []) t ≡ arrays ns (Array n t)
arrays_push [] n t = refl
arrays_push (m ∷ ms) n t = ap (λ u. Array m u) (arrays_push ms n t)

pub length_bound : (n : ℕ) → is_length n ≡ true → (1 ≤ n) × (n ≤ 65536)
length_bound n h = go (nat_le 1 n) (nat_le n 65536) refl refl h
  where
    go : (a b : Bool) → nat_le 1 n ≡ a → nat_le n 65536 ≡ b → (a && b) ≡ true → (1 ≤ n) × (n ≤ 65536)
    go true true p q h = (leb-true 1 n p, leb-true n 65536 q)
    go true false p q h = cc
    go false b p q h = cc

pub both_true : (a b : Bool) → (a && b) ≡ true → (a ≡ true) × (b ≡ true)
both_true true b h = (refl, h)
both_true false b h = cc

pub lengths_bound : (ns : List ℕ) (i : ℕ) → are_lengths ns ≡ true → i < length ns → get_or ns i 0 ≤ 65536
lengths_bound [] i h l = absurd (omega (arith, l))
lengths_bound (n ∷ ns) zero h l = (length_bound n (both_true (is_length n) (are_lengths ns) h).0).1
lengths_bound (n ∷ ns) (suc i) h l = lengths_bound ns i (both_true (is_length n) (are_lengths ns) h).1 (omega (arith, l))

grown : (n t : ℕ) → 1 ≤ n → 65536 < t → 65536 < n * t
grown zero t h l = absurd (omega (arith, h))
grown (suc n) t h l = let q : suc n * t ≡ n * t + t = suc-mul n t in omega (arith, q, l)

pub too_many : (ns : List ℕ) (t : ℕ) → 65536 < t → (are_lengths ns && nat_le (times t ns) 65536) ≡ false
too_many [] t l = go (nat_le t 65536) refl
  where
    go : (b : Bool) → nat_le t 65536 ≡ b → b ≡ false
    go true e = let h = leb-true t 65536 e in absurd (omega (arith, h, l))
    go false e = refl
too_many (n ∷ ns) t l = go (is_length n) refl (λ h. too_many ns (n * t) (grown n t (length_bound n h).0 l))
  where
    go : (b : Bool) → is_length n ≡ b → (is_length n ≡ true → (are_lengths ns && nat_le (times (n * t) ns) 65536) ≡ false) → ((b && are_lengths ns) && nat_le (times (n * t) ns) 65536) ≡ false
    go true e f = f e
    go false e f = refl

times_more : (n t : ℕ) (ns : List ℕ) → times (n * t) ns ≡ n * times t ns
times_more n t [] = refl
times_more n t (m ∷ ms) = ap (λ k. times k ms) (swapped m n t) ∙ times_more n (m * t) ms
  where
    swapped : (m n t : ℕ) → m * (n * t) ≡ n * (m * t)
    swapped m n t = grind arith

pub cells_arrays : (ss : List ℕ) (ns : List ℕ) (t : CType) → cells ss (arrays ns t) ≡ times (cells ss t) ns
cells_arrays ss [] t = refl
cells_arrays ss (n ∷ ns) t = cells_array ss n (arrays ns t) ∙ ap (λ k. n * k) (cells_arrays ss ns t) ∙ sym (times_more n (cells ss t) ns)

cells_pointer : (ss : List ℕ) (f : Bool) (t : CType) → cells ss (Pointer f t) ≡ 1
unfolding hidden-the_row-CType-0 hidden
cells_pointer ss f t = refl

cells_starred : (ss : List ℕ) (f : Bool) (n : ℕ) (t : CType) → cells ss (starred f n (Pointer f t)) ≡ 1
cells_starred ss f zero t = cells_pointer ss f t
cells_starred ss f (suc n) t = cells_starred ss f n (Pointer f t)

pub cells_stars : (ss : List ℕ) (f : Bool) (n : ℕ) (t : CType) → (n ≡ 0 → ⊥) → cells ss (starred f n t) ≡ 1
cells_stars ss f zero t h = absurd (h refl)
cells_stars ss f (suc n) t h = cells_starred ss f n t
