-- New cells: their number, their form, and what they are where each kind has one zero.
use Rattle.std.proofs.Common.{ℕ, ◌*◌, ◌≡◌, refl, sym, ap, ◌∙◌, subst, List, ◌∷◌, length, max, Bool, true, false}
use Rattle.oc_values.specs.declared.integers.IntKind.{IntKind}
use Rattle.oc_cells.specs.declared.types.CType.{CType, Int as CInt, Pointer', Array', Struct, Nothing}
use Rattle.oc_cells.specs.declared.memory.CellValue.{CellValue}
use Rattle.oc_cells.specs.declared.memory.CellValue.TheVariants.{Int, Pointer, Hidden}
use Rattle.oc_cells.specs.declared.memory.Cell.{Cell}
use Rattle.oc_cells.specs.declared.memory.Block.TheVariants.{Live}
use Rattle.oc_cells.specs.Types.{IsLeaf, AreLeaves}
use Rattle.oc_cells.specs.Layout.{repeated}
use Rattle.oc_cells.specs.Memory.{weight, blank, blanks, HasForm, CellsHaveForm}
use Rattle.oc_cells.specs.Joined.{none, more}
use Rattle.oc_cells.proofs.Formed.{zero_of_kind}
use Rattle.oc_cells.proofs.Joined.{length_same}
use Rattle.oc_cells.proofs.Lengths.{length_repeated}
use Rattle.block_memory.specs.Content.{IsBlank, AreBlank}
use Rattle.block_memory.proofs.Living.{weight_of_cells}

form_blank : {H : Type 0} (z : IntKind → H → Type 0) (l : CType) (v : CellValue H) → IsLeaf l → IsBlank z l v → HasForm l v
form_blank z (CInt k true) (Hidden h) i b = tt
form_blank z (CInt k true) (Int n) i b = absurd b
form_blank z (CInt k true) (Pointer at) i b = absurd b
form_blank z (CInt k false) v i b = subst (λ w. HasForm (CInt k false) w) (sym b) (zero_of_kind k)
form_blank z (Pointer' f u t) v i b = subst (λ w. HasForm (Pointer' f u t) w) (sym b) tt
form_blank z (Array' n u t) v i b = absurd i
form_blank z (Struct n) v i b = absurd i
form_blank z Nothing v i b = absurd i

module _ {H : Type 0} {z : IntKind → H → Type 0} where
  pub weight_of_copies : (a : Bool) (n : ℕ) (ls : List CType) {cs : List (Cell H)} → AreBlank z (repeated n ls) cs → weight (Live a cs) ≡ max 1 (n * length ls)
  weight_of_copies a n ls {cs} p = weight_of_cells a cs ∙ ap (max 1) (sym (length_same p) ∙ length_repeated n ls)

  -- new cells of leaves are of the form of their leaves
  pub form_blanks : {ls : List CType} {cs : List (Cell H)} → AreBlank z ls cs → AreLeaves ls → CellsHaveForm cs
  form_blanks none i = tt
  form_blanks (more {x = l} {y = c} p ps) i = (subst (λ k. HasForm k c.value) (sym p.made_with) (form_blank z l c.value i.0 p.blank), form_blanks ps i.1)

  module _ (zero_of : IntKind → H) (one : (k : IntKind) (h : H) → z k h → h ≡ zero_of k) where
    value_is : (l : CType) (v : CellValue H) → IsBlank z l v → v ≡ blank zero_of l
    value_is (CInt k true) (Hidden h) b = ap Hidden (one k h b)
    value_is (CInt k true) (Int n) b = absurd b
    value_is (CInt k true) (Pointer at) b = absurd b
    value_is (CInt k false) v b = b
    value_is (Pointer' f u t) v b = b
    value_is (Array' n u t) v b = b
    value_is (Struct n) v b = b
    value_is Nothing v b = b

    cell_is : (c : Cell H) (l : CType) (v : CellValue H) → c.leaf ≡ l → c.value ≡ v → c ≡ record { leaf = l; value = v }
    cell_is c l v p q = ap {A = CType} {B = Cell H} (λ k. record { leaf = k; value = c.value }) p ∙ ap {A = CellValue H} {B = Cell H} (λ w. record { leaf = l; value = w }) q

    -- where each kind has one zero, new cells are the memory's own
    pub blanks_are : {ls : List CType} {cs : List (Cell H)} → AreBlank z ls cs → cs ≡ blanks zero_of ls
    blanks_are none = refl
    blanks_are (more {x = l} {y = c} {ys = cs} p ps) =
        ap (λ d. d ∷ cs) (cell_is c l (blank zero_of l) p.made_with (value_is l c.value p.blank)) ∙ ap (λ ds. record { leaf = l; value = blank zero_of l } ∷ ds) (blanks_are ps)
