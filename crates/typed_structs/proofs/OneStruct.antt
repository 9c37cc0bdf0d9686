-- The struct of a definition, judged step by step.
use Rattle.std.proofs.Common.{ℕ, ◌≡◌, ◌≤◌, List, [], take, Result, Ok, Err, nat_le, refl, sym, ap, ◌∙◌}
use Rattle.std.specs.Prelude.{◌&&◌, nat_lt, not}
use Rattle.oc_source.specs.declared.parsed.FieldDef.{FieldDef}
use Rattle.oc_source.specs.declared.parsed.StructDef.{StructDef}
use Rattle.oc_cells.specs.declared.types.FieldType.{FieldType}
use Rattle.oc_cells.specs.declared.types.StructType.{StructType}
use Rattle.oc_cells.specs.Layout.{field_cells, struct_cells}
use Rattle.oc_typing.specs.Rules.{field_depth}
use Rattle.type_rules.specs.declared.judging.TypeRule.TheVariants.{T2, T11}
use Rattle.type_rules.specs.Judging.{Judged, next, needs}
use Rattle.type_rules.specs.Lookup.{Lookup}
use Rattle.type_rules.specs.Written.{fields, has_name, struct_type, depths_after}
use Rattle.type_steps.specs.declared.fault.TypeFault.{TypeFault}
use Rattle.type_steps.specs.Answering.{Answers}
use Rattle.type_steps.proofs.Steps.{go, stop, fine, said_as}
use Rattle.written_types.specs.declared.shape.Shape.{Shape}
use Rattle.written_types.specs.Each.{each, mapped}
use Rattle.typed_structs.specs.declared.laid.Fields.{Fields}
use Rattle.typed_structs.specs.Fields.{field_judged, with_field, unlaid, laid, Laid}
use Rattle.typed_structs.proofs.Judging.{fields_answer, stops, size_so}
use Rattle.typed_structs.proofs.Laying.{cells_laid, depth_laid, cells_whole, laid_whole}

module _ (g : Lookup) (d : StructDef) (es : List FieldDef) where
  -- the cells and the depth of fields among the structs that are known
  abbrev pub cells_in : List FieldType → ℕ
  cells_in fs = field_cells (struct_cells g.structs) fs

  abbrev pub depth_in : List FieldType → ℕ
  depth_in fs = field_depth (depths_after [] g.structs) fs

  -- the fields, judged before they are laid
  abbrev pub fields_judged : Judged (List FieldType)
  fields_judged = each (field_judged g) with_field [] es

  -- the fields, laid
  abbrev pub all_laid : Fields → List FieldType
  all_laid f = laid (struct_cells g.structs) 0 (unlaid f.list)

  -- the fields are those of the definition, and this is what they were found to be
  abbrev pub Found : Fields → Type 0
  Found f = (es ≡ d.fields) × Answers fields_judged (Ok (unlaid f.list))

  -- their places and their totals are those among the structs that are known
  abbrev pub LaidHere : Fields → Type 0
  LaidHere f = Laid (struct_cells g.structs) (depths_after [] g.structs) f

  -- the struct's name is new among those above
  abbrev pub name_judged : Judged (Unit {0})
  name_judged = needs d.spot T2 (not (has_name (take g.above g.names) d.name))

  -- the struct has a size, by these totals
  abbrev pub size_judged : ℕ → ℕ → Judged (Unit {0})
  size_judged c n = needs d.spot T11 (nat_le 1 c && nat_le c 65536 && nat_lt n 64)

  -- the struct of these fields
  abbrev pub the_struct : List FieldType → StructType
  the_struct fs = record { name = d.name; fields = fs; cells = cells_in fs }

  -- the struct of a definition, once its fields are judged, and once its name is
  abbrev pub then_size : List FieldType → Judged StructType
  then_size fs = next (size_judged (cells_in fs) (depth_in fs)) (λ _. Ok (the_struct fs))

  abbrev pub then_name : List FieldType → Judged StructType
  then_name fs = next name_judged (λ _. then_size fs)

  -- the struct is judged so
  abbrev pub Told : Result Shape TypeFault → Type 0
  Told r = Answers (struct_type g d) (mapped (λ s. s.ty) r)

  pub struct_fields_fail : (r : Result Shape TypeFault) {k l : TypeFault} → es ≡ d.fields → Answers {A = List FieldType} fields_judged (Err k) → r ≡ Err l → l ≡ k → Told r
  struct_fields_fail r e h p q =
      stops (fields g [] 0 d.fields) then_name (λ s. s.ty) r
      (fields_answer g d.fields es e (stop fields_judged (λ us. Ok (laid (struct_cells g.structs) 0 us)) h refl refl)) p q

  fields_go : (f : Fields) → Found f → Answers (fields g [] 0 d.fields) (Ok (all_laid f))
  fields_go f h = fields_answer g d.fields es h.0 (go fields_judged (λ us. Ok (laid (struct_cells g.structs) 0 us)) h.1 (fine refl))

  pub struct_name_fails : (f : Fields) (r : Result Shape TypeFault) {k l : TypeFault} → Found f → Answers {A = Unit {0}} name_judged (Err k) → r ≡ Err l → l ≡ k → Told r
  struct_name_fails f r h n p q = go (fields g [] 0 d.fields) then_name (fields_go f h) (stops name_judged (λ _. then_size (all_laid f)) (λ s. s.ty) r n p q)

  sized_so : (f : Fields) {r : Result (Unit {0}) TypeFault} → LaidHere f → Answers (size_judged f.cells f.depth) r → Answers (size_judged (cells_in (all_laid f)) (depth_in (all_laid f))) r
  sized_so f l h =
      let c = cells_laid (struct_cells g.structs) f.list in
      let n = l.depth ∙ sym (depth_laid (struct_cells g.structs) (depths_after [] g.structs) f.list) in
      said_as (ap (λ b. needs d.spot T11 b) (size_so f.cells (cells_in f.list) (cells_in (all_laid f)) f.depth (depth_in (all_laid f)) l.cells c n)) h

  pub struct_size_fails : (f : Fields) (r : Result Shape TypeFault) {k l : TypeFault} → Found f → LaidHere f → Answers name_judged (Ok tt) → Answers {A = Unit {0}} (size_judged f.cells f.depth) (Err k) → r ≡ Err l → l ≡ k → Told r
  struct_size_fails f r h l n s p q =
      go (fields g [] 0 d.fields) then_name (fields_go f h)
      (go name_judged (λ _. then_size (all_laid f)) n
      (stops (size_judged (cells_in (all_laid f)) (depth_in (all_laid f))) (λ _. Ok (the_struct (all_laid f))) (λ s. s.ty) r (sized_so f l s) p q))

  struct_same : (f : Fields) (t : StructType) → LaidHere f → f.cells ≤ 65536 → t ≡ record { name = d.name; fields = f.list; cells = f.cells } → the_struct (all_laid f) ≡ t
  struct_same f t l w is =
      let ss = struct_cells g.structs in
      let c : f.cells ≡ cells_in (all_laid f) = cells_whole f.cells (cells_in f.list) l.cells w ∙ sym (cells_laid ss f.list) in
      let fs : f.list ≡ all_laid f = laid_whole ss f.list f.cells l.list l.cells w in
      sym (is ∙ ap (λ n. record { name = d.name; fields = f.list; cells = n }) c ∙ ap (λ gs. record { name = d.name; fields = gs; cells = cells_in (all_laid f) }) fs)

  pub struct_judged : (f : Fields) (t : StructType) → Found f → LaidHere f → Answers name_judged (Ok tt) → Answers (size_judged f.cells f.depth) (Ok tt) → f.cells ≤ 65536 → t ≡ record { name = d.name; fields = f.list; cells = f.cells } → Answers (struct_type g d) (Ok t)
  struct_judged f t h l n s w is =
      go (fields g [] 0 d.fields) then_name (fields_go f h)
      (go name_judged (λ _. then_size (all_laid f)) n
      (go (size_judged (cells_in (all_laid f)) (depth_in (all_laid f))) (λ _. Ok (the_struct (all_laid f))) (sized_so f l s) (fine (ap (λ t. Ok t) (struct_same f t l w is)))))
