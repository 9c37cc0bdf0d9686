-- Programs: what the functions of structs, headings and programs answer is what their typing and their first faults say.
use Rattle.std.proofs.Common.{ℕ, ◌+◌, ◌≡◌, List, [], ◌∷◌, ◌++◌, Option, Some, None, Ok, Err, length, refl, sym, ap, ◌∙◌, subst, Bool, true, false, inl, inr, ◌⊎◌, append-nil, append_assoc}
use Rattle.std.specs.Prelude.{not, take, is_some}
use Rattle.oc_source.specs.declared.spot.Spot.{Spot}
use Rattle.oc_cells.specs.declared.types.CType.{CType}
use Rattle.oc_cells.specs.declared.types.FieldType.{FieldType}
use Rattle.oc_cells.specs.declared.types.SlotType.{SlotType}
use Rattle.oc_cells.specs.declared.types.StructType.{StructType}
use Rattle.oc_source.specs.declared.parsed.TypeName.{TypeName}
use Rattle.oc_source.specs.declared.parsed.FieldDef.{FieldDef}
use Rattle.oc_source.specs.declared.parsed.StructDef.{StructDef}
use Rattle.oc_source.specs.declared.parsed.Param.{Param}
use Rattle.oc_source.specs.declared.parsed.Function.{Function}
use Rattle.oc_source.specs.declared.parsed.Program.{Program}
use Rattle.oc_source.specs.declared.parsed.Stmt.{Stmt}
use Rattle.oc_typed.specs.declared.typed.TStmt.{TStmt}
use Rattle.oc_typed.specs.declared.typed.TypedFunction.{TypedFunction}
use Rattle.oc_typing.specs.Tree.{TypedTree}
use Rattle.oc_cells.specs.Types.{is_struct}
use Rattle.oc_cells.specs.Layout.{struct_cells, field_cells}
use Rattle.type_rules.specs.declared.judging.TypeRule.{TypeRule}
use Rattle.type_rules.specs.declared.judging.TypeRule.TheVariants.{T2, T10, T11}
use Rattle.type_rules.specs.declared.judging.Refusal.{Refusal}
use Rattle.type_rules.specs.declared.judging.Heading.{Heading}
use Rattle.type_rules.specs.Judging.{Judged, next, needs}
use Rattle.type_rules.specs.Lookup.{Lookup}
use Rattle.type_rules.specs.Written.{type_name, field_type, param_of, more_stars, has_name, cells_of, with_struct, at_function, bodies_of, fields, struct_type, structs_from, result_type, params, heading, headings_from}
use Rattle.type_rules.specs.StatementRules.{Scope, bind, pure, stmt}
use Rattle.type_rules.specs.ProgramRules.{entry_from, entry, first_lookup, statements, body, function, functions_from, typed_program}
use Rattle.type_rules.specs.Moves.{Done}
use Rattle.type_rules.proofs.Laws.{absurd, parted, broken, then_ok, then_err, fine_back, not_both}
use Rattle.type_rules.proofs.Statements.{fault_back, never, walk_bad, faults_stmt}
use Rattle.type_rules.proofs.Unique.{only_stmt}
use Rattle.judged_programs.specs.ProgramTyping.{FieldsTyping, is_small, StructTyping, StructsTyping, ResultTyping, ParamsTyping, HeadingTyping, stands_after, HeadingsTyping, first_scope, MaybeTyping, FunctionsTyping, with_bodies, ProgramTyping}
use Rattle.judged_programs.specs.ProgramFault.{at, FieldsFault, StructFault, StructsFault, ResultFault, ParamsFault, HeadingFault, HeadingsFault, BodyFault, MaybeFault, FunctionsFault, BodiesFault, ProgramFault}
use Rattle.judged_programs.proofs.Statements.{met, meets, statement_typed, statement_is, body_typed, body_is}

-- one of two, either way
cases : {P Q R : Type 0} → P ⊎ Q → (P → R) → (Q → R) → R
cases (inl p) f h = f p
cases (inr q) f h = h q

-- the converse of a test
off : (b : Bool) → not b ≡ true → b ≡ false
off false h = refl
off true h = sym h

on : (b : Bool) → not b ≡ false → b ≡ true
on true h = refl
on false h = sym h

-- what is needed at a node isn't so, and the fault that this is
unmet : (p : Spot) (rule : TypeRule) (b : Bool) (x : Refusal) → needs p rule b ≡ Err x → (b ≡ false) × (x ≡ at rule p)
unmet p rule true x h = never tt x h
unmet p rule false x h = (refl, sym (fault_back _ _ h))

fails : (p : Spot) (rule : TypeRule) (b : Bool) (x : Refusal) → b ≡ false → x ≡ at rule p → needs p rule b ≡ Err x
fails p rule b x h e = ap (λ c. needs p rule c) h ∙ ap (λ y. Err y) (sym e)

answer : {A : Type 0} {a b : A} → b ≡ a → ◌≡◌ {A = Judged A} (Ok a) (Ok b)
answer e = ap (λ y. Ok y) (sym e)

-- structs

fields_typed : (g : Lookup) (earlier : List (List ℕ)) (n : ℕ) (fs : List FieldDef) (xs : List FieldType) → fields g earlier n fs ≡ Ok xs → FieldsTyping g earlier n fs xs
fields_typed g earlier n [] xs h = sym (fine_back _ _ h)
fields_typed g earlier n (f ∷ fs) xs h =
    let a = parted (field_type g f) (λ ty. next (needs f.spot T2 (not (has_name earlier f.name))) (λ _. next (fields g (f.name ∷ earlier) (n + cells_of g ty) fs) (λ rest. Ok (record { name = f.name; ty = ty; offset = n } ∷ rest)))) xs h in
    let b = parted (needs f.spot T2 (not (has_name earlier f.name))) (λ _. next (fields g (f.name ∷ earlier) (n + cells_of g a.0) fs) (λ rest. Ok (record { name = f.name; ty = a.0; offset = n } ∷ rest))) xs a.2 in
    let c = parted (fields g (f.name ∷ earlier) (n + cells_of g a.0) fs) (λ rest. Ok (record { name = f.name; ty = a.0; offset = n } ∷ rest)) xs b.2 in
    (a.0, c.0, a.1, off _ (met f.spot T2 _ b.0 b.1), fields_typed g (f.name ∷ earlier) (n + cells_of g a.0) fs c.0 c.1, sym (fine_back _ _ c.2))

fields_are : (g : Lookup) (earlier : List (List ℕ)) (n : ℕ) (fs : List FieldDef) (xs : List FieldType) → FieldsTyping g earlier n fs xs → fields g earlier n fs ≡ Ok xs
fields_are g earlier n [] xs h = answer h
fields_are g earlier n (f ∷ fs) xs h =
    then_ok (λ ty. next (needs f.spot T2 (not (has_name earlier f.name))) (λ _. next (fields g (f.name ∷ earlier) (n + cells_of g ty) fs) (λ rest. Ok (record { name = f.name; ty = ty; offset = n } ∷ rest)))) h.2
    ∙ then_ok (λ _. next (fields g (f.name ∷ earlier) (n + cells_of g h.0) fs) (λ rest. Ok (record { name = f.name; ty = h.0; offset = n } ∷ rest))) (meets f.spot T2 _ (ap not h.3))
    ∙ then_ok (λ rest. Ok (record { name = f.name; ty = h.0; offset = n } ∷ rest)) (fields_are g (f.name ∷ earlier) (n + cells_of g h.0) fs h.1 h.4)
    ∙ answer h.5

fields_fault : (g : Lookup) (earlier : List (List ℕ)) (n : ℕ) (fs : List FieldDef) (x : Refusal) → fields g earlier n fs ≡ Err x → FieldsFault g earlier fs x
fields_fault g earlier n [] x h = never _ x h
fields_fault g earlier n (f ∷ fs) x h =
    broken (field_type g f) (λ ty. next (needs f.spot T2 (not (has_name earlier f.name))) (λ _. next (fields g (f.name ∷ earlier) (n + cells_of g ty) fs) (λ rest. Ok (record { name = f.name; ty = ty; offset = n } ∷ rest)))) x h (λ i. inl i) (λ ty i j.
    inr (
      ty,
      i,
      broken (needs f.spot T2 (not (has_name earlier f.name))) (λ _. next (fields g (f.name ∷ earlier) (n + cells_of g ty) fs) (λ rest. Ok (record { name = f.name; ty = ty; offset = n } ∷ rest))) x j
          (λ k. let u = unmet f.spot T2 _ x k in inl (on _ u.0, u.1))
          (λ u k l. inr (off _ (met f.spot T2 _ u k), broken (fields g (f.name ∷ earlier) (n + cells_of g ty) fs) (λ rest. Ok (record { name = f.name; ty = ty; offset = n } ∷ rest)) x l (λ m. fields_fault g (f.name ∷ earlier) (n + cells_of g ty) fs x m) (λ r m o. never _ x o))),
    ))

fields_fail : (g : Lookup) (earlier : List (List ℕ)) (n : ℕ) (fs : List FieldDef) (x : Refusal) → FieldsFault g earlier fs x → fields g earlier n fs ≡ Err x
fields_fail g earlier n [] x h = absurd h
fields_fail g earlier n (f ∷ fs) x (inl h) =
    then_err (λ ty. next (needs f.spot T2 (not (has_name earlier f.name))) (λ _. next (fields g (f.name ∷ earlier) (n + cells_of g ty) fs) (λ rest. Ok (record { name = f.name; ty = ty; offset = n } ∷ rest)))) h
fields_fail g earlier n (f ∷ fs) x (inr h) =
    then_ok (λ ty. next (needs f.spot T2 (not (has_name earlier f.name))) (λ _. next (fields g (f.name ∷ earlier) (n + cells_of g ty) fs) (λ rest. Ok (record { name = f.name; ty = ty; offset = n } ∷ rest)))) h.1
    ∙ cases h.2 (λ k. then_err (λ _. next (fields g (f.name ∷ earlier) (n + cells_of g h.0) fs) (λ rest. Ok (record { name = f.name; ty = h.0; offset = n } ∷ rest))) (fails f.spot T2 _ x (ap not k.0) k.1)) (λ k. then_ok (λ _. next (fields g (f.name ∷ earlier) (n + cells_of g h.0) fs) (λ rest. Ok (record { name = f.name; ty = h.0; offset = n } ∷ rest))) (meets f.spot T2 _ (ap not k.0)) ∙ then_err (λ rest. Ok (record { name = f.name; ty = h.0; offset = n } ∷ rest)) (fields_fail g (f.name ∷ earlier) (n + cells_of g h.0) fs x k.1))

module _ (g : Lookup) (d : StructDef) where
  -- what follows the fields, the name and the size of a struct
  abbrev made : List FieldType → Judged StructType
  made fs = Ok (record { name = d.name; fields = fs; cells = field_cells (struct_cells g.structs) fs })

  abbrev sized : List FieldType → Judged StructType
  sized fs = next (needs d.spot T11 (is_small g fs)) (λ _. made fs)

  abbrev named : List FieldType → Judged StructType
  named fs = next (needs d.spot T2 (not (has_name (take g.above g.names) d.name))) (λ _. sized fs)

  struct_typed : (s : StructType) → struct_type g d ≡ Ok s → StructTyping g d s
  struct_typed s h =
      let a = parted (fields g [] 0 d.fields) named s h in
      let b = parted (needs d.spot T2 (not (has_name (take g.above g.names) d.name))) (λ _. sized a.0) s a.2 in
      let c = parted (needs d.spot T11 (is_small g a.0)) (λ _. made a.0) s b.2 in
      (a.0, fields_typed g [] 0 d.fields a.0 a.1, off _ (met d.spot T2 _ b.0 b.1), met d.spot T11 _ c.0 c.1, sym (fine_back _ _ c.2))

  struct_is : (s : StructType) → StructTyping g d s → struct_type g d ≡ Ok s
  struct_is s h =
      then_ok named (fields_are g [] 0 d.fields h.0 h.1) ∙ then_ok (λ _. sized h.0) (meets d.spot T2 _ (ap not h.2))
      ∙ then_ok (λ _. made h.0) (meets d.spot T11 _ h.3) ∙ answer h.4

  too_large : (fs : List FieldType) (x : Refusal) → sized fs ≡ Err x → (is_small g fs ≡ false) × (x ≡ at T11 d.spot)
  too_large fs x h = broken (needs d.spot T11 (is_small g fs)) (λ _. made fs) x h (λ i. unmet d.spot T11 _ x i) (λ v i j. never _ x j)

  struct_fault : (x : Refusal) → struct_type g d ≡ Err x → StructFault g d x
  struct_fault x h =
      broken (fields g [] 0 d.fields) named x h (λ i. inl (fields_fault g [] 0 d.fields x i)) (λ fs i j.
      inr (
        fs,
        fields_typed g [] 0 d.fields fs i,
        broken (needs d.spot T2 (not (has_name (take g.above g.names) d.name))) (λ _. sized fs) x j
            (λ k. let u = unmet d.spot T2 _ x k in inl (on _ u.0, u.1))
            (λ u k l. let w = too_large fs x l in inr (off _ (met d.spot T2 _ u k), w.0, w.1)),
      ))

  struct_fails : (x : Refusal) → StructFault g d x → struct_type g d ≡ Err x
  struct_fails x (inl h) = then_err named (fields_fail g [] 0 d.fields x h)
  struct_fails x (inr h) = then_ok named (fields_are g [] 0 d.fields h.0 h.1) ∙ cases h.2 (λ k. then_err (λ _. sized h.0) (fails d.spot T2 _ x (ap not k.0) k.1)) (λ k. then_ok (λ _. sized h.0) (meets d.spot T2 _ (ap not k.0)) ∙ then_err (λ _. made h.0) (fails d.spot T11 _ x k.1 k.2))

structs_typed : (g : Lookup) (ds : List StructDef) (k : Lookup) → structs_from g ds ≡ Ok k → StructsTyping g ds k
structs_typed g [] k h = sym (fine_back _ _ h)
structs_typed g (d ∷ ds) k h =
    let a = parted (struct_type g d) (λ s. structs_from (with_struct g s) ds) k h in
    (a.0, struct_typed g d a.0 a.1, structs_typed (with_struct g a.0) ds k a.2)

structs_are : (g : Lookup) (ds : List StructDef) (k : Lookup) → StructsTyping g ds k → structs_from g ds ≡ Ok k
structs_are g [] k h = answer h
structs_are g (d ∷ ds) k h = then_ok (λ s. structs_from (with_struct g s) ds) (struct_is g d h.0 h.1) ∙ structs_are (with_struct g h.0) ds k h.2

structs_fault : (g : Lookup) (ds : List StructDef) (x : Refusal) → structs_from g ds ≡ Err x → StructsFault g ds x
structs_fault g [] x h = never _ x h
structs_fault g (d ∷ ds) x h =
    broken (struct_type g d) (λ s. structs_from (with_struct g s) ds) x h (λ i. inl (struct_fault g d x i)) (λ s i j. inr (s, struct_typed g d s i, structs_fault (with_struct g s) ds x j))

structs_fail : (g : Lookup) (ds : List StructDef) (x : Refusal) → StructsFault g ds x → structs_from g ds ≡ Err x
structs_fail g [] x h = absurd h
structs_fail g (d ∷ ds) x (inl h) = then_err (λ s. structs_from (with_struct g s) ds) (struct_fails g d x h)
structs_fail g (d ∷ ds) x (inr h) = then_ok (λ s. structs_from (with_struct g s) ds) (struct_is g d h.0 h.1) ∙ structs_fail (with_struct g h.0) ds x h.2

-- headings

abbrev kept : TypeName → CType → Judged CType
kept w ty = next (needs w.base.spot T11 (not (is_struct ty))) (λ _. Ok ty)

result_typed : (g : Lookup) (o : Option TypeName) (ty : CType) → result_type g o ≡ Ok ty → ResultTyping g o ty
result_typed g None ty h = sym (fine_back _ _ h)
result_typed g (Some w) ty h =
    let a = parted (type_name g w) (kept w) ty h in
    let b = parted (needs w.base.spot T11 (not (is_struct a.0))) (λ _. Ok a.0) ty a.2 in
    let e = fine_back _ _ b.2 in
    (a.1 ∙ ap (λ y. Ok y) e, ap is_struct (sym e) ∙ off _ (met w.base.spot T11 _ b.0 b.1))

result_is : (g : Lookup) (o : Option TypeName) (ty : CType) → ResultTyping g o ty → result_type g o ≡ Ok ty
result_is g None ty h = answer h
result_is g (Some w) ty h = then_ok (kept w) h.0 ∙ then_ok (λ _. Ok ty) (meets w.base.spot T11 _ (ap not h.1))

a_struct : (w : TypeName) (ty : CType) (x : Refusal) → kept w ty ≡ Err x → (is_struct ty ≡ true) × (x ≡ at T11 w.base.spot)
a_struct w ty x h =
    broken (needs w.base.spot T11 (not (is_struct ty))) (λ _. Ok ty) x h (λ k. let u = unmet w.base.spot T11 _ x k in (on _ u.0, u.1)) (λ u k l. never _ x l)

result_fault : (g : Lookup) (o : Option TypeName) (x : Refusal) → result_type g o ≡ Err x → ResultFault g o x
result_fault g None x h = never _ x h
result_fault g (Some w) x h =
    broken (type_name g w) (kept w) x h (λ i. inl i) (λ ty i j.
    let u = a_struct w ty x j in inr (ty, i, u.0, u.1))

result_fails : (g : Lookup) (o : Option TypeName) (x : Refusal) → ResultFault g o x → result_type g o ≡ Err x
result_fails g None x h = absurd h
result_fails g (Some w) x (inl h) = then_err (kept w) h
result_fails g (Some w) x (inr h) = then_ok (kept w) h.1 ∙ then_err (λ _. Ok h.0) (fails w.base.spot T11 _ x (ap not h.2) h.3)

module _ (g : Lookup) where
  abbrev slot : Param → Judged SlotType
  slot p = param_of g p.base (more_stars p.array p.stars) p.array

  abbrev further : List (List ℕ) → Param → List Param → SlotType → Judged (List SlotType)
  further earlier p ps s = next (params g (p.name ∷ earlier) ps) (λ rest. Ok (s ∷ rest))

  abbrev distinct : List (List ℕ) → Param → List Param → SlotType → Judged (List SlotType)
  distinct earlier p ps s = next (needs p.spot T2 (not (has_name earlier p.name))) (λ _. further earlier p ps s)

  params_typed : (earlier : List (List ℕ)) (ps : List Param) (xs : List SlotType) → params g earlier ps ≡ Ok xs → ParamsTyping g earlier ps xs
  params_typed earlier [] xs h = sym (fine_back _ _ h)
  params_typed earlier (p ∷ ps) xs h =
      let a = parted (slot p) (distinct earlier p ps) xs h in
      let b = parted (needs p.spot T2 (not (has_name earlier p.name))) (λ _. further earlier p ps a.0) xs a.2 in
      let c = parted (params g (p.name ∷ earlier) ps) (λ rest. Ok (a.0 ∷ rest)) xs b.2 in
      (a.0, c.0, a.1, off _ (met p.spot T2 _ b.0 b.1), params_typed (p.name ∷ earlier) ps c.0 c.1, sym (fine_back _ _ c.2))

  params_are : (earlier : List (List ℕ)) (ps : List Param) (xs : List SlotType) → ParamsTyping g earlier ps xs → params g earlier ps ≡ Ok xs
  params_are earlier [] xs h = answer h
  params_are earlier (p ∷ ps) xs h =
      then_ok (distinct earlier p ps) h.2 ∙ then_ok (λ _. further earlier p ps h.0) (meets p.spot T2 _ (ap not h.3))
      ∙ then_ok (λ rest. Ok (h.0 ∷ rest)) (params_are (p.name ∷ earlier) ps h.1 h.4) ∙ answer h.5

  params_fault : (earlier : List (List ℕ)) (ps : List Param) (x : Refusal) → params g earlier ps ≡ Err x → ParamsFault g earlier ps x
  params_fault earlier [] x h = never _ x h
  params_fault earlier (p ∷ ps) x h =
      broken (slot p) (distinct earlier p ps) x h (λ i. inl i) (λ s i j.
      inr (
        s,
        i,
        broken (needs p.spot T2 (not (has_name earlier p.name))) (λ _. further earlier p ps s) x j
            (λ k. let u = unmet p.spot T2 _ x k in inl (on _ u.0, u.1))
            (λ u k l. inr (off _ (met p.spot T2 _ u k), broken (params g (p.name ∷ earlier) ps) (λ rest. Ok (s ∷ rest)) x l (λ m. params_fault (p.name ∷ earlier) ps x m) (λ r m o. never _ x o))),
      ))

  params_fail : (earlier : List (List ℕ)) (ps : List Param) (x : Refusal) → ParamsFault g earlier ps x → params g earlier ps ≡ Err x
  params_fail earlier [] x h = absurd h
  params_fail earlier (p ∷ ps) x (inl h) = then_err (distinct earlier p ps) h
  params_fail earlier (p ∷ ps) x (inr h) = then_ok (distinct earlier p ps) h.1 ∙ cases h.2 (λ k. then_err (λ _. further earlier p ps h.0) (fails p.spot T2 _ x (ap not k.0) k.1)) (λ k. then_ok (λ _. further earlier p ps h.0) (meets p.spot T2 _ (ap not k.0)) ∙ then_err (λ rest. Ok (h.0 ∷ rest)) (params_fail (p.name ∷ earlier) ps x k.1))

  abbrev headed : Function → CType → List SlotType → Heading
  headed f ty ps = record { name = f.name; result = ty; params = ps; obliv = f.obliv; has_body = is_some f.body }

  abbrev behind : Function → CType → Judged Heading
  behind f ty = next (params g [] f.params) (λ ps. Ok (headed f ty ps))

  heading_typed : (f : Function) (h : Heading) → heading g f ≡ Ok h → HeadingTyping g f h
  heading_typed f h i =
      let a = parted (result_type g f.result) (behind f) h i in
      let b = parted (params g [] f.params) (λ ps. Ok (headed f a.0 ps)) h a.2 in
      (a.0, b.0, result_typed g f.result a.0 a.1, params_typed [] f.params b.0 b.1, sym (fine_back _ _ b.2))

  heading_is : (f : Function) (h : Heading) → HeadingTyping g f h → heading g f ≡ Ok h
  heading_is f h i =
      then_ok (behind f) (result_is g f.result i.0 i.2) ∙ then_ok (λ ps. Ok (headed f i.0 ps)) (params_are [] f.params i.1 i.3) ∙ answer i.4

  heading_fault : (f : Function) (x : Refusal) → heading g f ≡ Err x → HeadingFault g f x
  heading_fault f x h =
      broken (result_type g f.result) (behind f) x h (λ i. inl (result_fault g f.result x i)) (λ ty i j.
      inr (ty, result_typed g f.result ty i, broken (params g [] f.params) (λ ps. Ok (headed f ty ps)) x j (λ k. params_fault [] f.params x k) (λ ps k l. never _ x l)))

  heading_fails : (f : Function) (x : Refusal) → HeadingFault g f x → heading g f ≡ Err x
  heading_fails f x (inl h) = then_err (behind f) (result_fails g f.result x h)
  heading_fails f x (inr h) = then_ok (behind f) (result_is g f.result h.0 h.1) ∙ then_err (λ ps. Ok (headed f h.0 ps)) (params_fail [] f.params x h.2)

module _ (g : Lookup) (ds : List StructDef) where
  abbrev onward : List Heading → List Function → Heading → Judged (List Heading)
  onward earlier fs h = headings_from g ds (earlier ++ h ∷ []) fs

  abbrev placed : List Heading → Function → List Function → Heading → Judged (List Heading)
  placed earlier f fs h = next (needs f.spot T2 (stands_after earlier f h)) (λ _. onward earlier fs h)

  headings_typed : (earlier : List Heading) (fs : List Function) (hs : List Heading) → headings_from g ds earlier fs ≡ Ok hs → HeadingsTyping g ds earlier fs hs
  headings_typed earlier [] hs h = sym (fine_back _ _ h)
  headings_typed earlier (f ∷ fs) hs h =
      let a = parted (heading (at_function g ds f) f) (placed earlier f fs) hs h in
      let b = parted (needs f.spot T2 (stands_after earlier f a.0)) (λ _. onward earlier fs a.0) hs a.2 in
      (a.0, heading_typed (at_function g ds f) f a.0 a.1, met f.spot T2 _ b.0 b.1, headings_typed (earlier ++ a.0 ∷ []) fs hs b.2)

  headings_are : (earlier : List Heading) (fs : List Function) (hs : List Heading) → HeadingsTyping g ds earlier fs hs → headings_from g ds earlier fs ≡ Ok hs
  headings_are earlier [] hs h = answer h
  headings_are earlier (f ∷ fs) hs h =
      then_ok (placed earlier f fs) (heading_is (at_function g ds f) f h.0 h.1) ∙ then_ok (λ _. onward earlier fs h.0) (meets f.spot T2 _ h.2)
      ∙ headings_are (earlier ++ h.0 ∷ []) fs hs h.3

  headings_fault : (earlier : List Heading) (fs : List Function) (x : Refusal) → headings_from g ds earlier fs ≡ Err x → HeadingsFault g ds earlier fs x
  headings_fault earlier [] x h = never _ x h
  headings_fault earlier (f ∷ fs) x h =
      broken (heading (at_function g ds f) f) (placed earlier f fs) x h (λ i. inl (heading_fault (at_function g ds f) f x i)) (λ k i j.
      inr (
        k,
        heading_typed (at_function g ds f) f k i,
        broken (needs f.spot T2 (stands_after earlier f k)) (λ _. onward earlier fs k) x j
            (λ l. inl (unmet f.spot T2 _ x l))
            (λ u l m. inr (met f.spot T2 _ u l, headings_fault (earlier ++ k ∷ []) fs x m)),
      ))

  headings_fail : (earlier : List Heading) (fs : List Function) (x : Refusal) → HeadingsFault g ds earlier fs x → headings_from g ds earlier fs ≡ Err x
  headings_fail earlier [] x h = absurd h
  headings_fail earlier (f ∷ fs) x (inl h) = then_err (placed earlier f fs) (heading_fails (at_function g ds f) f x h)
  headings_fail earlier (f ∷ fs) x (inr h) = then_ok (placed earlier f fs) (heading_is (at_function g ds f) f h.0 h.1) ∙ cases h.2 (λ k. then_err (λ _. onward earlier fs h.0) (fails f.spot T2 _ x k.0 k.1)) (λ k. then_ok (λ _. onward earlier fs h.0) (meets f.spot T2 _ k.0) ∙ headings_fail (earlier ++ h.0 ∷ []) fs x k.1)

-- bodies

module _ (g : Lookup) where
  body_fault : (cs : List Stmt) (s : Scope) (x : Refusal) → statements g cs s ≡ Err x → BodyFault g cs s x
  body_fault [] s x h = never _ x h
  body_fault (c ∷ cs) s x h =
      walk_bad (stmt g false c.spot c.node) (λ y. bind (statements g cs) (λ ys. pure (y ∷ ys))) s x h (λ i. inl (faults_stmt g false c.spot c.node s x Done i)) (λ r i j.
      inr (r.0, r.1, statement_typed g false c.spot c.node s r i, walk_bad (statements g cs) (λ ys. pure (r.0 ∷ ys)) r.1 x j (λ k. body_fault cs r.1 x k) (λ q k l. never _ x l)))

  body_fails : (cs : List Stmt) (s : Scope) (x : Refusal) → BodyFault g cs s x → statements g cs s ≡ Err x
  body_fails [] s x h = absurd h
  body_fails (c ∷ cs) s x (inl h) = then_err (λ r. bind (statements g cs) (λ ys. pure (r.0 ∷ ys)) r.1) (only_stmt g false c.spot c.node s x h)
  body_fails (c ∷ cs) s x (inr h) =
      then_ok (λ r. bind (statements g cs) (λ ys. pure (r.0 ∷ ys)) r.1) (statement_is g false c.spot c.node s h.0 h.1 h.2)
      ∙ then_err (λ r. pure (h.0 ∷ r.0) r.1) (body_fails cs h.1 x h.3)

abbrev whole : Function → Heading → List TStmt × Scope → Judged TypedFunction
whole f h r = Ok (record { name = f.name; result = h.result; params = length h.params; slots = r.1.slots; obliv = f.obliv; body = r.0 })

abbrev inside : Lookup → Heading → Lookup
inside g h = record g { result = h.result }

module _ (g : Lookup) (f : Function) (h : Heading) where
  abbrev ended : List TypedFunction → TypedFunction → Judged (List TypedFunction)
  ended done t = Ok (done ++ t ∷ [])

  maybe_typed : (o : Option (List Stmt)) (done ts : List TypedFunction) → function g f h o done ≡ Ok ts → (us : List TypedFunction) × MaybeTyping g f h o us × (ts ≡ done ++ us)
  maybe_typed None done ts e = ([], refl, sym (fine_back _ _ e) ∙ sym (append-nil done))
  maybe_typed (Some ss) done ts e =
      let a = parted (body (inside g h) f h ss) (ended done) ts e in
      let b = parted (statements (inside g h) ss (first_scope f h)) (whole f h) a.0 a.1 in
      (a.0 ∷ [], (a.0, (b.0.0, b.0.1, body_typed (inside g h) ss (first_scope f h) b.0 b.1, sym (fine_back _ _ b.2)), refl), sym (fine_back _ _ a.2))

  maybe_is : (o : Option (List Stmt)) (done us : List TypedFunction) → MaybeTyping g f h o us → function g f h o done ≡ Ok (done ++ us)
  maybe_is None done us e = answer (ap (λ us. done ++ us) e ∙ append-nil done)
  maybe_is (Some ss) done us e =
      then_ok (ended done) (then_ok (whole f h) (body_is (inside g h) ss (first_scope f h) e.1.0 e.1.1 e.1.2) ∙ answer e.1.3) ∙ answer (ap (λ us. done ++ us) e.2)

  maybe_fault : (o : Option (List Stmt)) (done : List TypedFunction) (x : Refusal) → function g f h o done ≡ Err x → MaybeFault g f h o x
  maybe_fault None done x e = never _ x e
  maybe_fault (Some ss) done x e =
      broken (body (inside g h) f h ss) (ended done) x e (λ i. broken (statements (inside g h) ss (first_scope f h)) (whole f h) x i (λ j. body_fault (inside g h) ss (first_scope f h) x j) (λ r j k. never _ x k)) (λ t i j. never _ x j)

  maybe_fails : (o : Option (List Stmt)) (done : List TypedFunction) (x : Refusal) → MaybeFault g f h o x → function g f h o done ≡ Err x
  maybe_fails None done x e = absurd e
  maybe_fails (Some ss) done x e = then_err (ended done) (then_err (whole f h) (body_fails (inside g h) ss (first_scope f h) x e))

module _ (g : Lookup) (ds : List StructDef) where
  functions_typed : (done : List TypedFunction) (fs : List Function) (hs : List Heading) (ts : List TypedFunction) → functions_from g ds done fs hs ≡ Ok ts → (vs : List TypedFunction) × FunctionsTyping g ds fs hs vs × (ts ≡ done ++ vs)
  functions_typed done [] hs ts e = ([], refl, sym (fine_back _ _ e) ∙ sym (append-nil done))
  functions_typed done (f ∷ fs) [] ts e = ([], refl, sym (fine_back _ _ e) ∙ sym (append-nil done))
  functions_typed done (f ∷ fs) (h ∷ hs) ts e =
      let a = parted (function (at_function g ds f) f h f.body done) (λ ts. functions_from g ds ts fs hs) ts e in
      let b = maybe_typed (at_function g ds f) f h f.body done a.0 a.1 in
      let c = functions_typed a.0 fs hs ts a.2 in
      (b.0 ++ c.0, (b.0, c.0, b.1, c.1, refl), c.2 ∙ ap (λ us. us ++ c.0) b.2 ∙ append_assoc done b.0 c.0)

  functions_are : (done : List TypedFunction) (fs : List Function) (hs : List Heading) (vs : List TypedFunction) → FunctionsTyping g ds fs hs vs → functions_from g ds done fs hs ≡ Ok (done ++ vs)
  functions_are done [] hs vs e = answer (ap (λ us. done ++ us) e ∙ append-nil done)
  functions_are done (f ∷ fs) [] vs e = answer (ap (λ us. done ++ us) e ∙ append-nil done)
  functions_are done (f ∷ fs) (h ∷ hs) vs e =
      then_ok (λ ts. functions_from g ds ts fs hs) (maybe_is (at_function g ds f) f h f.body done e.0 e.2) ∙ functions_are (done ++ e.0) fs hs e.1 e.3
      ∙ answer (ap (λ us. done ++ us) e.4 ∙ sym (append_assoc done e.0 e.1))

  functions_fault : (done : List TypedFunction) (fs : List Function) (hs : List Heading) (x : Refusal) → functions_from g ds done fs hs ≡ Err x → FunctionsFault g ds fs hs x
  functions_fault done [] hs x e = never _ x e
  functions_fault done (f ∷ fs) [] x e = never _ x e
  functions_fault done (f ∷ fs) (h ∷ hs) x e =
      broken (function (at_function g ds f) f h f.body done) (λ ts. functions_from g ds ts fs hs) x e (λ i. inl (maybe_fault (at_function g ds f) f h f.body done x i)) (λ ts i j.
      let b = maybe_typed (at_function g ds f) f h f.body done ts i in inr (b.0, b.1, functions_fault ts fs hs x j))

  functions_fail : (done : List TypedFunction) (fs : List Function) (hs : List Heading) (x : Refusal) → FunctionsFault g ds fs hs x → functions_from g ds done fs hs ≡ Err x
  functions_fail done [] hs x e = absurd e
  functions_fail done (f ∷ fs) [] x e = absurd e
  functions_fail done (f ∷ fs) (h ∷ hs) x (inl e) = then_err (λ ts. functions_from g ds ts fs hs) (maybe_fails (at_function g ds f) f h f.body done x e)
  functions_fail done (f ∷ fs) (h ∷ hs) x (inr e) =
      then_ok (λ ts. functions_from g ds ts fs hs) (maybe_is (at_function g ds f) f h f.body done e.0 e.1) ∙ functions_fail (done ++ e.0) fs hs x e.2

-- the entry

entered : (p : Spot) (o : Option ℕ) (n : ℕ) → entry p o ≡ Ok n → o ≡ Some n
entered p None n h = absurd (not_both n _ h)
entered p (Some m) n h = ap (λ y. Some y) (fine_back _ _ h)

no_entry : (p : Spot) (o : Option ℕ) (x : Refusal) → entry p o ≡ Err x → (o ≡ None) × (x ≡ at T10 p)
no_entry p None x h = (refl, sym (fault_back _ _ h))
no_entry p (Some m) x h = never m x h

module _ (p : Program) where
  abbrev first : Lookup
  first = first_lookup p.structs

  abbrev tree : Lookup → List TypedFunction → ℕ → Judged TypedTree
  tree g ts n = Ok (record { structs = g.structs; functions = ts; entry = n })

  abbrev started : Lookup → List Heading → List TypedFunction → Judged TypedTree
  started g hs ts = next (entry p.end (entry_from 0 (bodies_of hs))) (tree g ts)

  abbrev bodied : Lookup → List Heading → Judged TypedTree
  bodied g hs = next (functions_from (with_bodies g hs) p.structs [] p.functions hs) (started g hs)

  abbrev after_structs : Lookup → Judged TypedTree
  after_structs g = next (headings_from g p.structs [] p.functions) (bodied g)

  pub program_typed : (t : TypedTree) → typed_program p ≡ Ok t → ProgramTyping p t
  unfolding typed_program
  program_typed t h =
      let a = parted (structs_from first p.structs) after_structs t h in
      let b = parted (headings_from a.0 p.structs [] p.functions) (bodied a.0) t a.2 in
      let c = parted (functions_from (with_bodies a.0 b.0) p.structs [] p.functions b.0) (started a.0 b.0) t b.2 in
      let d = parted (entry p.end (entry_from 0 (bodies_of b.0))) (tree a.0 c.0) t c.2 in
      let e = fine_back _ _ d.2 in
      let f = functions_typed (with_bodies a.0 b.0) p.structs [] p.functions b.0 c.0 c.1 in (
        a.0,
        b.0,
        structs_typed first p.structs a.0 a.1,
        headings_typed a.0 p.structs [] p.functions b.0 b.1,
        subst (λ ts. FunctionsTyping (with_bodies a.0 b.0) p.structs p.functions b.0 ts) (sym f.2 ∙ ap (λ (u : TypedTree). u.functions) e) f.1,
        entered p.end _ d.0 d.1 ∙ ap (λ (u : TypedTree). Some u.entry) e,
        sym (ap (λ (u : TypedTree). u.structs) e),
      )

  pub program_is : (t : TypedTree) → ProgramTyping p t → typed_program p ≡ Ok t
  unfolding typed_program
  program_is t h =
      then_ok after_structs (structs_are first p.structs h.0 h.2) ∙ then_ok (bodied h.0) (headings_are h.0 p.structs [] p.functions h.1 h.3)
      ∙ then_ok (started h.0 h.1) (functions_are (with_bodies h.0 h.1) p.structs [] p.functions h.1 t.functions h.4)
      ∙ then_ok (tree h.0 t.functions) (ap (λ o. entry p.end o) h.5) ∙ ap (λ ss. Ok (record { structs = ss; functions = t.functions; entry = t.entry })) (sym h.6)

  bodies_fault : (g : Lookup) (hs : List Heading) (x : Refusal) → bodied g hs ≡ Err x → BodiesFault p g hs x
  bodies_fault g hs x h =
      broken (functions_from (with_bodies g hs) p.structs [] p.functions hs) (started g hs) x h (λ i. inl (functions_fault (with_bodies g hs) p.structs [] p.functions hs x i)) (λ ts i j.
      let f = functions_typed (with_bodies g hs) p.structs [] p.functions hs ts i in
      let e = broken (entry p.end (entry_from 0 (bodies_of hs))) (tree g ts) x j (λ k. no_entry p.end _ x k) (λ n k l. never _ x l) in
      inr (f.0, f.1, e.0, e.1))

  pub program_fault : (x : Refusal) → typed_program p ≡ Err x → ProgramFault p x
  unfolding typed_program
  program_fault x h =
      broken (structs_from first p.structs) after_structs x h (λ i. inl (structs_fault first p.structs x i)) (λ g i j.
      inr (
        g,
        structs_typed first p.structs g i,
        broken (headings_from g p.structs [] p.functions) (bodied g) x j (λ k. inl (headings_fault g p.structs [] p.functions x k)) (λ hs k l.
            inr (hs, headings_typed g p.structs [] p.functions hs k, bodies_fault g hs x l)),
      ))

  bodies_fail : (g : Lookup) (hs : List Heading) (x : Refusal) → BodiesFault p g hs x → bodied g hs ≡ Err x
  bodies_fail g hs x (inl h) = then_err (started g hs) (functions_fail (with_bodies g hs) p.structs [] p.functions hs x h)
  bodies_fail g hs x (inr h) =
      then_ok (started g hs) (functions_are (with_bodies g hs) p.structs [] p.functions hs h.0 h.1)
      ∙ then_err (tree g h.0) (ap (λ o. entry p.end o) h.2 ∙ ap (λ y. Err y) (sym h.3))

  pub program_fails : (x : Refusal) → ProgramFault p x → typed_program p ≡ Err x
  unfolding typed_program
  program_fails x (inl h) = then_err after_structs (structs_fail first p.structs x h)
  program_fails x (inr h) = then_ok after_structs (structs_are first p.structs h.0 h.1) ∙ cases h.2 (λ k. then_err (bodied h.0) (headings_fail h.0 p.structs [] p.functions x k)) (λ k. then_ok (bodied h.0) (headings_are h.0 p.structs [] p.functions k.0 k.1) ∙ bodies_fail h.0 k.0 x k.2)
