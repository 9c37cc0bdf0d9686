-- Cells and depths of structs by their numbers, and sizes that stop at a bound.
use Rattle.std.proofs.Common.{ℕ, zero, suc, ◌≡◌, ◌+◌, ◌*◌, ◌<◌, List, [], ◌∷◌, Some, None, min, refl, sym, ap, ◌∙◌, arith, Bool, true, false, nat_le, leb-true, leb-false, suc-mul}
use Rattle.std.specs.Prelude.{slice_get, slice_index_or}
use Rattle.oc_cells.specs.declared.types.CType.{CType, Array}
use Rattle.oc_cells.specs.declared.types.CType.TheBlock.{hidden-the_row-CType-0}
use denote.Hole.Carrier.{hidden}
use Rattle.oc_cells.specs.Layout.{cells}
use Rattle.oc_typing.specs.Rules.{depth}
use Rattle.oc_cells.specs.Types.{holds_public}
use Rattle.written_types.specs.declared.shape.Shape.{Shape}
use Rattle.written_types.specs.Shapes.{sizes, depths}

pub size_at : (ss : List Shape) (n : ℕ) (s : Shape) → Some s ≡ slice_get ss n → slice_index_or (sizes ss) n 0 ≡ s.ty.cells
size_at [] n s e = cc
size_at (t ∷ ts) zero s e = let p : s ≡ t = cc in ap (λ s. s.ty.cells) (sym p)
size_at (t ∷ ts) (suc n) s e = size_at ts n s e

pub no_size_at : (ss : List Shape) (n : ℕ) → None ≡ slice_get ss n → slice_index_or (sizes ss) n 0 ≡ 0
no_size_at [] n e = refl
no_size_at (t ∷ ts) zero e = cc
no_size_at (t ∷ ts) (suc n) e = no_size_at ts n e

pub depth_at : (ss : List Shape) (n : ℕ) (s : Shape) → Some s ≡ slice_get ss n → slice_index_or (depths ss) n 0 ≡ s.depth
depth_at [] n s e = cc
depth_at (t ∷ ts) zero s e = let p : s ≡ t = cc in ap (λ s. s.depth) (sym p)
depth_at (t ∷ ts) (suc n) s e = depth_at ts n s e

pub no_depth_at : (ss : List Shape) (n : ℕ) → None ≡ slice_get ss n → slice_index_or (depths ss) n 0 ≡ 0
no_depth_at [] n e = refl
no_depth_at (t ∷ ts) zero e = cc
no_depth_at (t ∷ ts) (suc n) e = no_depth_at ts n e

pub truth_at : (bs : List Bool) (n : ℕ) (b : Bool) → Some b ≡ slice_get bs n → b ≡ slice_index_or bs n false
truth_at [] n b e = cc
truth_at (a ∷ bs) zero b e = cc
truth_at (a ∷ bs) (suc n) b e = truth_at bs n b e

pub no_truth_at : (bs : List Bool) (n : ℕ) → None ≡ slice_get bs n → false ≡ slice_index_or bs n false
no_truth_at [] n e = refl
no_truth_at (a ∷ bs) zero e = cc
no_truth_at (a ∷ bs) (suc n) e = no_truth_at bs n e

capped_at : (n x : ℕ) (b : Bool) → nat_le x 65537 ≡ b → min (n * min x 65537) 65537 ≡ min (n * x) 65537
capped_at n x true e = let m : min x 65537 ≡ x = omega (arith, leb-true x 65537 e) in ap (λ i. min (n * i) 65537) m
capped_at zero x false e = omega arith
capped_at (suc n) x false e =
    let l : 65537 < x = leb-false x 65537 e in
    let m : min x 65537 ≡ 65537 = omega (arith, l) in
    let q : suc n * x ≡ n * x + x = suc-mul n x in
    let a : min (suc n * 65537) 65537 ≡ 65537 = omega arith in
    let b : min (suc n * x) 65537 ≡ 65537 = omega (arith, q, l) in
    ap (λ i. min (suc n * i) 65537) m ∙ a ∙ sym b

pub cells_array : (ss : List ℕ) (n : ℕ) (t : CType) → cells ss (Array n t) ≡ n * cells ss t
unfolding hidden-the_row-CType-0 hidden
cells_array ss n t = refl

depth_array : (ds : List ℕ) (n : ℕ) (t : CType) → depth ds (Array n t) ≡ depth ds t
unfolding hidden-the_row-CType-0 hidden
depth_array ds n t = refl

public_array : (ps : List Bool) (n : ℕ) (t : CType) → holds_public ps (Array n t) ≡ holds_public ps t
unfolding hidden-the_row-CType-0 hidden
public_array ps n t = refl

-- the cells of an array, where those of its elements are capped
pub array_capped : (ss : List ℕ) (n : ℕ) (t u v : CType) (each all : ℕ) → u ≡ Array n t → each ≡ min (cells ss v) 65537 → v ≡ t → all ≡ min (n * each) 65537 → all ≡ min (cells ss u) 65537
array_capped ss n t u v each all is e q f =
    let x = cells ss t in
    f ∙ ap (λ i. min (n * i) 65537) (e ∙ ap (λ t. min (cells ss t) 65537) q) ∙ capped_at n x (nat_le x 65537) refl
    ∙ ap (λ i. min i 65537) (sym (cells_array ss n t))
    ∙ ap (λ u. min (cells ss u) 65537) (sym is)

pub array_depth : (ds : List ℕ) (n : ℕ) (t u v : CType) (d : ℕ) → u ≡ Array n t → d ≡ depth ds v → v ≡ t → d ≡ depth ds u
array_depth ds n t u v d is e q = e ∙ ap (λ t. depth ds t) q ∙ sym (depth_array ds n t) ∙ ap (λ u. depth ds u) (sym is)

pub array_public : (ps : List Bool) (n : ℕ) (t u v : CType) (b : Bool) → u ≡ Array n t → b ≡ holds_public ps v → v ≡ t → b ≡ holds_public ps u
array_public ps n t u v b is e q = e ∙ ap (λ t. holds_public ps t) q ∙ sym (public_array ps n t) ∙ ap (λ u. holds_public ps u) (sym is)
