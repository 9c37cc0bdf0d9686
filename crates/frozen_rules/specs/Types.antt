-- Types without their arrays.
use Rattle.std.specs.Prelude.{nat_eq, Bool, true, not, ◌&&◌}
use Rattle.oc_cells.specs.declared.types.CType.{CType, Array', Nothing, Row_of-CType, end_of-CType, more_of-CType}

abbrev mutual
  -- what an array is of in the end, and any other type itself
  pub stripped : CType → CType
  stripped (Array' n u t) = stripped_row t
  stripped t = t

  -- that of the first type of a row, of which an empty row has none
  pub stripped_row : {m : _} → Row_of-CType m → CType
  stripped_row (more_of-CType t ts) = stripped t
  stripped_row end_of-CType = Nothing

abbrev mutual
  -- whether no array that a type is made of is empty
  pub has_elements : CType → Bool
  has_elements (Array' n u t) = not (nat_eq n 0) && has_elements_row t
  has_elements t = true

  -- that of the first type of a row, if there is one
  pub has_elements_row : {m : _} → Row_of-CType m → Bool
  has_elements_row (more_of-CType t ts) = has_elements t
  has_elements_row end_of-CType = true
