-- The fields of a struct: their types judged one by one, and their places.
use Rattle.std.specs.Prelude.{◌≡◌, ℕ, ◌+◌, min, List, [], ◌∷◌, Ok, not}
use Rattle.oc_cells.specs.declared.types.CType.{CType}
use Rattle.oc_cells.specs.declared.types.FieldType.{FieldType}
use Rattle.oc_source.specs.declared.parsed.FieldDef.{FieldDef}
use Rattle.oc_cells.specs.Layout.{cells, field_cells}
use Rattle.oc_typing.specs.Rules.{field_depth}
use Rattle.type_rules.specs.declared.judging.TypeRule.TheVariants.{T2}
use Rattle.type_rules.specs.Judging.{Judged, next, needs}
use Rattle.type_rules.specs.Lookup.{Lookup}
use Rattle.type_rules.specs.Written.{field_type, has_name}
use Rattle.written_types.specs.declared.shape.Shape.{Shape}
use Rattle.typed_structs.specs.declared.laid.Fields.{Fields}

-- the type of a field, after these names
abbrev pub type_judged : Lookup → List (List ℕ) → FieldDef → Judged CType
type_judged g earlier d = next (field_type g d) (λ ty. next (needs d.spot T2 (not (has_name earlier d.name))) (λ _. Ok ty))

-- a field that isn't laid yet
abbrev pub new_field : FieldDef → CType → FieldType
new_field d ty = record { name = d.name; ty = ty; offset = 0 }

-- a field, after these names, before it is laid
abbrev pub field_judged : Lookup → List (List ℕ) → FieldDef → Judged FieldType
field_judged g earlier d = next (type_judged g earlier d) (λ ty. Ok (new_field d ty))

-- the names with that of a field
abbrev pub with_field : List (List ℕ) → FieldDef → List (List ℕ)
with_field earlier d = d.name ∷ earlier

-- fields before they are laid
abbrev pub unlaid : List FieldType → List FieldType
unlaid [] = []
unlaid (f ∷ fs) = record { name = f.name; ty = f.ty; offset = 0 } ∷ unlaid fs

-- fields that are laid one after another, from a cell on
abbrev pub laid : List ℕ → ℕ → List FieldType → List FieldType
laid ss at [] = []
laid ss at (f ∷ fs) = record { name = f.name; ty = f.ty; offset = at } ∷ laid ss (at + cells ss f.ty) fs

-- the same, where no offset is above 65,537
abbrev pub laid_within : List ℕ → ℕ → List FieldType → List FieldType
laid_within ss at [] = []
laid_within ss at (f ∷ fs) = record { name = f.name; ty = f.ty; offset = min at 65537 } ∷ laid_within ss (at + cells ss f.ty) fs

-- fields that are laid as far as a struct may reach, with their cells up to one more, and their depth
pub record Laid (ss ds : List ℕ) (f : Fields) : Type 0 where
  pub list : f.list ≡ laid_within ss 0 (unlaid f.list)
  pub cells : f.cells ≡ min (field_cells ss f.list) 65537
  pub depth : f.depth ≡ field_depth ds f.list

-- a struct whose cells and depth are those of its fields
pub record Whole (ss ds : List ℕ) (s : Shape) : Type 0 where
  pub cells : s.ty.cells ≡ field_cells ss s.ty.fields
  pub depth : s.depth ≡ field_depth ds s.ty.fields + 1
