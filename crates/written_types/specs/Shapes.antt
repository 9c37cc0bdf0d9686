-- The structs that were judged, as the rules see them.
use Rattle.std.specs.Prelude.{ℕ, List, [], ◌∷◌}
use Rattle.oc_cells.specs.declared.types.StructType.{StructType}
use Rattle.written_types.specs.declared.shape.Shape.{Shape}

-- the structs that were judged
abbrev pub types : List Shape → List StructType
types [] = []
types (s ∷ ss) = s.ty ∷ types ss

-- the cells of each struct that was judged
abbrev pub sizes : List Shape → List ℕ
sizes [] = []
sizes (s ∷ ss) = s.ty.cells ∷ sizes ss

-- how deep each nests others by value
abbrev pub depths : List Shape → List ℕ
depths [] = []
depths (s ∷ ss) = s.depth ∷ depths ss
