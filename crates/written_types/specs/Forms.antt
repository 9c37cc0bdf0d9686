-- Forms of written types, as they are made step by step.
use Rattle.std.specs.Prelude.{ℕ, zero, suc, ◌*◌, List, [], ◌∷◌, Bool}
use Rattle.oc_cells.specs.declared.types.CType.{CType, Int, Struct}
use Rattle.oc_cells.specs.declared.types.CType.TheViews.{Pointer}

-- what a written type begins with: an integer or a struct
abbrev pub IsBase : CType → Type 0
IsBase (Int k o) = Unit {0}
IsBase (Struct n) = Unit {0}
IsBase _ = ⊥

-- so many pointers to a type, of which the innermost has a mark of its own
abbrev pub marked : Bool → Bool → ℕ → CType → CType
marked m f zero ty = ty
marked m f (suc n) ty = marked f f n (Pointer m ty)

-- a number of cells, taken so many times as each of these lengths says
abbrev pub times : ℕ → List ℕ → ℕ
times t [] = t
times t (n ∷ ns) = times (n * t) ns
