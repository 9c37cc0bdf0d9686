-- Structs that were judged, with one more at their end.
use Rattle.std.proofs.Common.{ℕ, ◌≡◌, ◌+◌, List, [], ◌∷◌, ◌++◌, Result, Ok, Err, refl, sym, ap, ◌∙◌}
use Rattle.std.specs.Prelude.{OnOk, OnErr}
use Rattle.oc_cells.specs.declared.types.StructType.{StructType}
use Rattle.oc_cells.specs.Layout.{struct_cells, cells_after, field_cells}
use Rattle.oc_typing.specs.Rules.{field_depth}
use Rattle.type_rules.specs.Written.{depths_after}
use Rattle.written_types.specs.declared.shape.Shape.{Shape}
use Rattle.written_types.specs.Shapes.{types, sizes, depths}

types_push : (ss : List Shape) (s : Shape) → types (ss ++ s ∷ []) ≡ types ss ++ s.ty ∷ []
types_push [] s = refl
types_push (t ∷ ts) s = ap (λ us. t.ty ∷ us) (types_push ts s)

sizes_push : (ss : List Shape) (s : Shape) → sizes (ss ++ s ∷ []) ≡ sizes ss ++ s.ty.cells ∷ []
sizes_push [] s = refl
sizes_push (t ∷ ts) s = ap (λ us. t.ty.cells ∷ us) (sizes_push ts s)

depths_push : (ss : List Shape) (s : Shape) → depths (ss ++ s ∷ []) ≡ depths ss ++ s.depth ∷ []
depths_push [] s = refl
depths_push (t ∷ ts) s = ap (λ us. t.depth ∷ us) (depths_push ts s)

cells_push : (known : List ℕ) (ss : List StructType) (s : StructType) → cells_after known (ss ++ s ∷ []) ≡ cells_after known ss ++ field_cells (cells_after known ss) s.fields ∷ []
cells_push known [] s = refl
cells_push known (t ∷ ts) s = cells_push (known ++ field_cells known t.fields ∷ []) ts s

nested_push : (known : List ℕ) (ss : List StructType) (s : StructType) → depths_after known (ss ++ s ∷ []) ≡ depths_after known ss ++ (field_depth (depths_after known ss) s.fields + 1) ∷ []
nested_push known [] s = refl
nested_push known (t ∷ ts) s = nested_push (known ++ (field_depth known t.fields + 1) ∷ []) ts s

pub sized_more : {E : Type 0} (r : Result (Unit {0}) E) (old new : List Shape) (s : Shape) → OnOk r (new ≡ old ++ s ∷ []) → OnErr r (new ≡ old) → sizes old ≡ struct_cells (types old) → s.ty.cells ≡ field_cells (struct_cells (types old)) s.ty.fields → sizes new ≡ struct_cells (types new)
sized_more (Ok u) old new s h k e c =
    ap sizes h ∙ sizes_push old s ∙ ap (λ ns. ns ++ s.ty.cells ∷ []) e ∙ ap (λ n. struct_cells (types old) ++ n ∷ []) c
    ∙ sym (ap (λ ss. struct_cells (types ss)) h ∙ ap struct_cells (types_push old s) ∙ cells_push [] (types old) s.ty)
sized_more (Err f) old new s h k e c = ap sizes k ∙ e ∙ sym (ap (λ ss. struct_cells (types ss)) k)

pub nested_more : {E : Type 0} (r : Result (Unit {0}) E) (old new : List Shape) (s : Shape) → OnOk r (new ≡ old ++ s ∷ []) → OnErr r (new ≡ old) → depths old ≡ depths_after [] (types old) → s.depth ≡ field_depth (depths_after [] (types old)) s.ty.fields + 1 → depths new ≡ depths_after [] (types new)
nested_more (Ok u) old new s h k e c =
    ap depths h ∙ depths_push old s ∙ ap (λ ns. ns ++ s.depth ∷ []) e ∙ ap (λ n. depths_after [] (types old) ++ n ∷ []) c
    ∙ sym (ap (λ ss. depths_after [] (types ss)) h ∙ ap (λ ss. depths_after [] ss) (types_push old s) ∙ nested_push [] (types old) s.ty)
nested_more (Err f) old new s h k e c = ap depths k ∙ e ∙ sym (ap (λ ss. depths_after [] (types ss)) k)
