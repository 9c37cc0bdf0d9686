-- The leaves of types are integer and pointer types.
use Rattle.std.proofs.Common.{ℕ, zero, suc, List, [], ◌∷◌, ◌++◌, slice_get}
use Rattle.oc_cells.specs.declared.types.CType.{CType, Int, Pointer', Array', Struct, Nothing, Row_of-CType, end_of-CType, more_of-CType}
use Rattle.oc_cells.specs.declared.types.FieldType.{FieldType}
use Rattle.oc_cells.specs.declared.types.StructType.{StructType}
use Rattle.oc_cells.specs.Layout.{repeated, or_none, leaves, leaves_row, field_leaves, leaves_after, struct_leaves}
use Rattle.oc_cells.specs.Types.{AreLeaves}
use Rattle.block_memory.specs.Content.{AllAreLeaves}

leafy_join : (ks ls : List CType) → AreLeaves ks → AreLeaves ls → AreLeaves (ks ++ ls)
leafy_join [] ls h j = j
leafy_join (k ∷ ks) ls h j = (h.0, leafy_join ks ls h.1 j)

pub leafy_repeated : (n : ℕ) (ls : List CType) → AreLeaves ls → AreLeaves (repeated n ls)
leafy_repeated zero ls h = tt
leafy_repeated (suc n) ls h = leafy_join (repeated n ls) ls (leafy_repeated n ls h) h

leafy_known : (ss : List (List CType)) (n : ℕ) → AllAreLeaves ss → AreLeaves (or_none (slice_get ss n))
leafy_known [] n h = tt
leafy_known (ls ∷ ss) zero h = h.0
leafy_known (ls ∷ ss) (suc n) h = leafy_known ss n h.1

mutual
  pub leafy : (ss : List (List CType)) (t : CType) → AllAreLeaves ss → AreLeaves (leaves ss t)
  leafy ss (Int k o) h = (tt, tt)
  leafy ss (Pointer' f u t) h = (tt, tt)
  leafy ss (Array' n u t) h = leafy_repeated n (leaves_row ss t) (leafy_row ss t h)
  leafy ss (Struct n) h = leafy_known ss n h
  leafy ss Nothing h = tt

  leafy_row : {m : _} (ss : List (List CType)) (t : Row_of-CType m) → AllAreLeaves ss → AreLeaves (leaves_row ss t)
  leafy_row ss (more_of-CType t ts) h = leafy ss t h
  leafy_row ss end_of-CType h = tt

leafy_fields : (ss : List (List CType)) (fs : List FieldType) → AllAreLeaves ss → AreLeaves (field_leaves ss fs)
leafy_fields ss [] h = tt
leafy_fields ss (f ∷ fs) h = leafy_join (leaves ss f.ty) (field_leaves ss fs) (leafy ss f.ty h) (leafy_fields ss fs h)

leafy_more : (ss : List (List CType)) (ls : List CType) → AllAreLeaves ss → AreLeaves ls → AllAreLeaves (ss ++ ls ∷ [])
leafy_more [] ls h j = (j, tt)
leafy_more (ks ∷ ss) ls h j = (h.0, leafy_more ss ls h.1 j)

leafy_after : (known : List (List CType)) (ss : List StructType) → AllAreLeaves known → AllAreLeaves (leaves_after known ss)
leafy_after known [] h = h
leafy_after known (s ∷ ss) h = leafy_after (known ++ field_leaves known s.fields ∷ []) ss (leafy_more known (field_leaves known s.fields) h (leafy_fields known s.fields h))

pub leafy_structs : (ss : List StructType) → AllAreLeaves (struct_leaves ss)
leafy_structs ss = leafy_after [] ss tt
