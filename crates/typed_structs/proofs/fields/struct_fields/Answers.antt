use Rattle.std.proofs.Common.{◌≡◌, ℕ, ◌+◌, ◌<◌, List, [], ◌∷◌, ◌++◌, length, get_or, take, min, refl, sym, ap, ◌∙◌, subst}
use Rattle.std.proofs.lemmas.Result.{err_from_is_err_and}
use Rattle.std.specs.BTreeMap.{BTreeMap}
use denote.Ref.{Bor}
use Rattle.oc_source.specs.declared.parsed.FieldDef.{FieldDef}
use Rattle.oc_cells.specs.declared.types.FieldType.{FieldType}
use Rattle.oc_cells.specs.Layout.{field_cells, struct_cells}
use Rattle.oc_typing.specs.Rules.{field_depth, field_names}
use Rattle.type_rules.specs.Written.{depths_after}
use Rattle.type_steps.proofs.Steps.{fine}
use Rattle.written_types.specs.Known.{lookup}
use Rattle.written_types.specs.Numbers.{Numbers, Has}
use Rattle.written_types.specs.Each.{mapped, state_after}
use Rattle.written_types.specs.Shapes.{types}
use Rattle.written_types.proofs.EachItem.{to_item, state_push, Left, begins, goes_on, fails, ends}
use Rattle.written_types.proofs.Naming.{has_none}
use Rattle.typed_structs.specs.Fields.{field_judged, with_field, unlaid, laid_within}
use Rattle.typed_structs.proofs.Naming.{numbers_none}
use Rattle.typed_structs.proofs.Laying.{names_length, unlaid_more, names_more, laid_more, cells_more, depth_more}
use Rattle.typed_structs.proofs.Judging.{type_gives, type_fails}
use Rattle.typed_structs.proofs.fields.struct_fields.Goals as goal

named : (old new : BTreeMap (Bor (List ℕ)) ℕ) (ds : List FieldDef) (i : ℕ) (d : FieldDef) (read : List ℕ) → ((xs : List (List ℕ)) → Has old xs → Has new (read ∷ xs)) → read ≡ d.name → d ≡ get_or ds i d → i < length ds → Has old (state_after with_field [] (take i ds)) → Has new (state_after with_field [] (take (i + 1) ds))
named old new ds i d read f e q l h =
    subst (λ xs. Has new xs) (ap (λ n. n ∷ state_after with_field [] (take i ds)) e ∙ sym (ap (λ es. state_after with_field [] es) (to_item ds i d q l) ∙ state_push with_field [] (take i ds) d))
    (f (state_after with_field [] (take i ds)) h)

counted : (old new : BTreeMap (Bor (List ℕ)) ℕ) (fs gs : List FieldType) (n : ℕ) (name read : List ℕ) → ((xs : List (List ℕ)) → Numbers old xs → n ≡ length xs → Numbers new (xs ++ read ∷ [])) → read ≡ name → n ≡ length fs → field_names gs ≡ field_names fs ++ name ∷ [] → Numbers old (field_names fs) → Numbers new (field_names gs)
counted old new fs gs n name read f e l q h =
    subst (λ xs. Numbers new xs) (ap (λ x. field_names fs ++ x ∷ []) e ∙ sym q) (f (field_names fs) h (l ∙ names_length fs))

pub loop-def-init : goal.loop-def-init
loop-def-init c =
    let judge = field_judged (lookup c.args.known.now) in
    let ds = c.args.defs.now in
    let ss = struct_cells (types c.args.known.now.shapes.now.list) in
    let depths = depths_after [] (types c.args.known.now.shapes.now.list) in
    let e = sym c.new-list.ensures in
    record {
      typed = subst (λ list. Left judge with_field [] ds 0 (unlaid list)) e (begins judge with_field [] ds);
      names = has_none _ c.new-numbers.ensures.empty;
      numbers = subst (λ list. Numbers c.new-numbers.result (field_names list)) e (numbers_none _ c.new-numbers.ensures.empty);
      laid = subst (λ (list : List FieldType). list ≡ laid_within ss 0 (unlaid list)) e refl;
      cells = subst (λ list. 0 ≡ min (field_cells ss list) 65537) e refl;
      depth = subst (λ list. 0 ≡ field_depth depths list) e refl;
    }

pub loop-def-preserved : goal.loop-def-preserved
loop-def-preserved c =
    let g = lookup c.args.known.now in
    let judge = field_judged g in
    let ds = c.args.defs.now in
    let ss = struct_cells (types c.args.known.now.shapes.now.list) in
    let depths = depths_after [] (types c.args.known.now.shapes.now.list) in
    let i = c.loop-def.invariant in
    let old = c.loop-def.list in
    let new = c.push.new.self in
    let d = c.def-item.result in
    let ty = c.in_ok-ty.ty in
    let f = c.in_ok-field.field in
    let at = c.loop-def.cells in
    let list = c.in_ok-push.ensures.ok in
    let is = c.in_ok-field.ensures in
    let more = goes_on judge with_field [] ds c.loop-def.def-index (unlaid old) d _ i.typed c.def-item.is c.loop-def-test.true (type_gives g _ d ty (c.in_ok-ty.ensures _ i.names)) in
    record {
      typed = subst (λ out. Left judge with_field [] ds (c.loop-def.def-index + 1) out) (sym (unlaid_more ss depths old new d ty at f list is)) more;
      names = named _ _ ds _ d _ c.in_ok-add_name.ensures.has c.as_bytes.ensures c.def-item.is c.loop-def-test.true i.names;
      numbers = counted _ _ old new _ d.name _ c.in_ok-add_name.ensures.numbers c.as_bytes.ensures c.len.ensures (names_more ss depths old new d ty at f list is) i.numbers;
      laid = laid_more ss depths old new d ty at f list is i.laid i.cells;
      cells = cells_more ss depths old new d ty at f list is _ i.cells c.more_cells-cells.ensures;
      depth = depth_more ss depths old new d ty at f list is _ _ i.depth c.deeper-depth.ensures;
    }

pub returns-in_err-ty-clause-typed : goal.returns-in_err-ty-clause-typed
returns-in_err-ty-clause-typed c =
    let q = err_from_is_err_and c.from_residual.result c.from_residual.ensures.1 in
    let g = lookup c.args.known.now in
    let i = c.loop-def.invariant in
    fails (field_judged g) with_field [] c.args.defs.now c.loop-def.def-index (unlaid c.loop-def.list) c.def-item.result {r = mapped (λ f. unlaid f.list) c.from_residual.result} i.typed c.def-item.is c.loop-def-test.true
    (type_fails g _ c.def-item.result _ (c.in_err-ty.ensures _ i.names)) (ap (λ r. mapped (λ f. unlaid f.list) r) q.1) q.2

pub returns-clause-typed : goal.returns-clause-typed
returns-clause-typed c = fine (ends (field_judged (lookup c.args.known.now)) with_field [] c.args.defs.now _ _ c.loop-def.invariant.typed c.loop-def-test.false)
