-- Fields and functions that the rules look up are those of the typed tree.
use Rattle.std.proofs.Common.{ℕ, zero, suc, ◌+◌, ◌≡◌, List, [], ◌∷◌, ◌++◌, length, Option, Some, None, Ok, sym, ap, ◌∙◌, subst, Bool, true, false, nat_eq, arith, append-nil}
use Rattle.std.specs.Prelude.{◌&&◌, nat_le, slice_get, if◌then◌else◌, IfOk}
use Rattle.oc_cells.specs.declared.types.CType.{CType, Int, Pointer', Array', Struct, Nothing}
use Rattle.oc_cells.specs.declared.types.FieldType.{FieldType}
use Rattle.oc_cells.specs.declared.types.SlotType.{SlotType}
use Rattle.oc_cells.specs.declared.types.StructType.{StructType}
use Rattle.oc_cells.specs.Types.{same}
use Rattle.oc_source.specs.declared.parsed.Stmt.{Stmt}
use Rattle.oc_source.specs.declared.parsed.Param.{Param}
use Rattle.oc_source.specs.declared.parsed.Function.{Function}
use Rattle.oc_typed.specs.declared.typed.TStmt.{TStmt}
use Rattle.oc_typed.specs.declared.typed.TypedFunction.{TypedFunction}
use Rattle.oc_typing.specs.Rules.{is_type, is_sized, has_field, has_field_of, are_fields, is_struct_type, are_structs, field_depth, differ, field_names, field}
use Rattle.oc_typing.specs.Typed.{Context}
use Rattle.oc_cells.specs.Layout.{cells, field_cells}
use Rattle.type_rules.specs.declared.judging.Heading.{Heading}
use Rattle.type_rules.specs.declared.judging.Seen.{Seen}
use Rattle.type_rules.specs.declared.judging.OwnCall.{OwnCall}
use Rattle.type_rules.specs.declared.judging.OwnCall.TheVariants as call_of
use Rattle.type_rules.specs.Lookup.{Lookup, find, same_name}
use Rattle.type_rules.specs.Operators.{field_of, fields_of, field_in}
use Rattle.type_rules.specs.Calls.{Variable, Unknown, Print, Own, Known, function_from, called_own, called_function, called_name, called, own_call}
use Rattle.type_rules.specs.StatementRules.{Scope, add}
use Rattle.type_rules.specs.ProgramRules.{statements, with_params, body}
use Rattle.type_rules.proofs.Laws.{fine_back, parted}
use Rattle.rules_typed.specs.Agreeing.{Goes, GoodField}
use Rattle.rules_typed.proofs.Bools.{both, first, second, last, either, none_some, some_is}
use Rattle.rules_typed.proofs.Types.{itself}
use Rattle.rules_typed.proofs.Slots.{one_on}
use Rattle.rules_typed.proofs.Growing.{grows_statements}
use Rattle.rules_typed.proofs.Numbers.{number_itself, suc_is, counted_here, counted_later, counted_from_none}
use Rattle.rules_typed.proofs.Numbers as number

-- Fields.

-- a field that is found has a type, and stands at its offset
field_found : (sizes : List ℕ) (public : List Bool) (known : List ℕ) (at : ℕ) (fs : List FieldType) (x : List ℕ) (f : FieldType) → are_fields sizes public known at fs ≡ true → field_of fs x ≡ Some f
    → (is_type sizes public f.ty ≡ true) × (has_field f.offset f.ty fs ≡ true)
field_found sizes public known at [] x f h q = absurd (none_some q)
field_found sizes public known at (y ∷ fs) x f h q =
    on (same_name y.name x) q (λ p. field_found sizes public known (at + cells known y.ty) fs x f (second (is_type sizes public y.ty && is_sized known y.ty && nat_eq y.offset at) (are_fields sizes public known (at + cells known y.ty) fs) h) p)
  where
    mine : is_type sizes public y.ty ≡ true
    mine = first (is_type sizes public y.ty) (is_sized known y.ty) (first (is_type sizes public y.ty && is_sized known y.ty) (nat_eq y.offset at) (first (is_type sizes public y.ty && is_sized known y.ty && nat_eq y.offset at) (are_fields sizes public known (at + cells known y.ty) fs) h))

    on : (b : Bool) → (if b then Some y else field_of fs x) ≡ Some f → (field_of fs x ≡ Some f → (is_type sizes public f.ty ≡ true) × (has_field f.offset f.ty fs ≡ true)) → (is_type sizes public f.ty ≡ true) × (has_field f.offset f.ty (y ∷ fs) ≡ true)
    on true q r = subst (λ f. (is_type sizes public f.ty ≡ true) × (has_field f.offset f.ty (y ∷ fs) ≡ true)) (some_is q) (mine, either (nat_eq y.offset y.offset && same true y.ty y.ty) _ (both (number_itself y.offset) (itself y.ty)))
    on false q r = let z = r q in (z.0, last (nat_eq y.offset f.offset && same true y.ty f.ty) (has_field f.offset f.ty fs) z.1)

-- so among structs
fields_found : (sizes : List ℕ) (public : List Bool) (known depths : List ℕ) (ss : List StructType) (n : ℕ) (x : List ℕ) (f : FieldType) → are_structs sizes public known depths ss ≡ true → field_of (fields_of (slice_get ss n)) x ≡ Some f
    → (is_type sizes public f.ty ≡ true) × (has_field_of f.offset f.ty (slice_get ss n) ≡ true)
fields_found sizes public known depths [] n x f h q = absurd (none_some q)
fields_found sizes public known depths (s ∷ ss) zero x f h q =
    field_found sizes public known 0 s.fields x f
    (second (nat_eq s.cells (field_cells known s.fields) && nat_le 1 s.cells && nat_le s.cells 65536 && nat_le (field_depth depths s.fields) 63) (are_fields sizes public known 0 s.fields)
    (first (nat_eq s.cells (field_cells known s.fields) && nat_le 1 s.cells && nat_le s.cells 65536 && nat_le (field_depth depths s.fields) 63 && are_fields sizes public known 0 s.fields) (differ (field_names s.fields))
    (first (is_struct_type sizes public known depths s) (are_structs sizes public (known ++ field_cells known s.fields ∷ []) (depths ++ suc (field_depth depths s.fields) ∷ []) ss) h))) q
fields_found sizes public known depths (s ∷ ss) (suc n) x f h q = fields_found sizes public (known ++ field_cells known s.fields ∷ []) (depths ++ suc (field_depth depths s.fields) ∷ []) ss n x f (second (is_struct_type sizes public known depths s) (are_structs sizes public (known ++ field_cells known s.fields ∷ []) (depths ++ suc (field_depth depths s.fields) ∷ []) ss) h) q

-- so of any type
pub fields_good : (r : Lookup) (g : Context) (known depths : List ℕ) → g.structs ≡ r.structs → are_structs g.sizes g.public known depths r.structs ≡ true → (u : CType) (x : List ℕ) → GoodField g (field_in r u x) u
fields_good r g known depths e h (Struct n) x f q =
    let z = fields_found g.sizes g.public known depths r.structs n x f h q in
    (z.0, subst (λ l. field l (Struct n) f.offset f.ty ≡ true) (sym e) z.1)
fields_good r g known depths e h (Int k o) x f q = absurd (none_some q)
fields_good r g known depths e h (Pointer' k o y) x f q = absurd (none_some q)
fields_good r g known depths e h (Array' k o y) x f q = absurd (none_some q)
fields_good r g known depths e h Nothing x f q = absurd (none_some q)

-- Functions.

-- which function a name means
abbrev Named : List Heading → ℕ → ℕ → Heading → Type 0
Named hs n m h = (k : ℕ) × (m ≡ n + k) × (slice_get hs k ≡ Some h)

-- what a called name is
known_number : {n m : ℕ} {h k : Heading} → Known n h ≡ Known m k → n ≡ m
known_number q = (cc)

known_heading : {n m : ℕ} {h k : Heading} → Known n h ≡ Known m k → h ≡ k
known_heading q = (cc)

no_unknown : {n : ℕ} {h : Heading} → Unknown ≡ Known n h → ⊥
no_unknown q = (cc)

no_variable : {n : ℕ} {h : Heading} → Variable ≡ Known n h → ⊥
no_variable q = (cc)

no_print : {n : ℕ} {h : Heading} → Print ≡ Known n h → ⊥
no_print q = (cc)

no_own : {n : ℕ} {c : OwnCall} {h : Heading} → Own c ≡ Known n h → ⊥
no_own q = (cc)

-- a function that is found stands at its number
function_named : (n : ℕ) (hs : List Heading) (x : List ℕ) (m : ℕ) (h : Heading) → function_from n hs x ≡ Known m h → Named hs n m h
function_named n [] x m h q = absurd (no_unknown q)
function_named n (k ∷ hs) x m h q = on (same_name k.name x) q (λ p. function_named (n + 1) hs x m h p)
  where
    here : (n m : ℕ) → n ≡ m → m ≡ n + 0
    here n m e = omega arith

    later : (n m i : ℕ) → m ≡ n + 1 + i → m ≡ n + suc i
    later n m i e = omega arith

    on : (b : Bool) → (if b then Known n k else function_from (n + 1) hs x) ≡ Known m h → (function_from (n + 1) hs x ≡ Known m h → Named hs (n + 1) m h) → Named (k ∷ hs) n m h
    on true q f = (0, counted_here n m (known_number q), ap (λ h. Some h) (known_heading q))
    on false q f = let z = f q in (suc z.0, counted_later n m z.0 z.1, z.2)

-- a call of the language's own is no function
own_named : (c : OwnCall) (m : ℕ) (h : Heading) → called_own c ≡ Known m h → ⊥
own_named call_of.Printf m h q = no_print q
own_named call_of.Private m h q = no_own q
own_named (call_of.Feed l) m h q = no_own q
own_named (call_of.Reveal l) m h q = no_own q
own_named call_of.Result m h q = no_own q
own_named call_of.PrivateCount m h q = no_own q
own_named call_of.PublicCount m h q = no_own q
own_named call_of.Public m h q = no_own q
own_named call_of.Calloc m h q = no_own q
own_named call_of.Malloc m h q = no_own q
own_named call_of.Free m h q = no_own q

-- so a called name
pub called_named : (r : Lookup) (x : List ℕ) (m : ℕ) (h : Heading) → called r x ≡ Known m h → slice_get r.bodies m ≡ Some h
called_named r x m h q = on (find r.seen x) q
  where
    at : (o : Option OwnCall) → called_function r x o ≡ Known m h → slice_get r.bodies m ≡ Some h
    at (Some c) q = absurd (own_named c m h q)
    at None q = let z = function_named 0 r.bodies x m h q in subst (λ k. slice_get r.bodies k ≡ Some h) (counted_from_none z.0 m z.1) z.2

    on : (o : Option Seen) → called_name r x o ≡ Known m h → slice_get r.bodies m ≡ Some h
    on (Some s) q = absurd (no_variable q)
    on None q = at (own_call x) q

-- Their bodies.

-- parameters are slots after those before
pub params_slots : (ps : List Param) (ss : List SlotType) (z : Scope) → length ss ≡ length ps → (with_params ps ss z).slots ≡ z.slots ++ ss
params_slots [] [] z q = sym (append-nil z.slots)
params_slots [] (s ∷ ss) z q = absurd (number.some_none (length ss) q)
params_slots (p ∷ ps) [] z q = absurd (number.none_some (length ps) q)
params_slots (p ∷ ps) (s ∷ ss) z q = params_slots ps ss (add p.name s.ty s.frozen z) (suc_is (length ss) (length ps) q) ∙ one_on z.slots ss s

-- what a function's body starts with
abbrev pub started : Function → Heading → Scope
started f h = with_params f.params h.params (record { seen = []; slots = []; outer = 0 })

-- the function of a heading and a body
pub record MadeFunction (r : Lookup) (f : Function) (h : Heading) (ss : List Stmt) (t : TypedFunction) : Type 0 where
  pub rest : List TStmt × Scope
  pub walked : statements r ss (started f h) ≡ Ok rest
  pub is : t ≡ record { name = f.name; result = h.result; params = length h.params; slots = rest.1.slots; obliv = f.obliv; body = rest.0 }
  pub grows : Goes h.params t.slots

-- what is found for a function
pub made_function : (r : Lookup) (f : Function) (h : Heading) (ss : List Stmt) (t : TypedFunction) → length h.params ≡ length f.params → body r f h ss ≡ Ok t → MadeFunction r f h ss t
made_function r f h ss t c q =
    let z = parted (statements r ss (started f h)) _ t q in
    let g = subst (λ m. IfOk m (λ q. Goes (started f h).slots q.1.slots)) z.1 (grows_statements r ss (started f h)) in
    let e = fine_back (record { name = f.name; result = h.result; params = length h.params; slots = z.0.1.slots; obliv = f.obliv; body = z.0.0 }) t z.2 in
    record {
      rest = z.0;
      walked = z.1;
      is = sym e;
      grows = subst (λ t. Goes h.params t.slots) e (subst (λ l. Goes l z.0.1.slots) (params_slots f.params h.params (record { seen = []; slots = []; outer = 0 }) c) g);
    }
