-- The first fault of a program: structs first, then headings, then bodies, each in the order of the text, and then the entry.
use Rattle.std.specs.Prelude.{ℕ, ◌≡◌, List, [], ◌∷◌, ◌++◌, take, true, false, Option, Some, None, Ok, Err, ◌⊎◌}
use Rattle.oc_cells.specs.declared.types.CType.{CType}
use Rattle.oc_cells.specs.declared.types.FieldType.{FieldType}
use Rattle.oc_cells.specs.declared.types.SlotType.{SlotType}
use Rattle.oc_cells.specs.declared.types.StructType.{StructType}
use Rattle.oc_source.specs.declared.spot.Spot.{Spot}
use Rattle.oc_source.specs.declared.parsed.TypeName.{TypeName}
use Rattle.oc_source.specs.declared.parsed.FieldDef.{FieldDef}
use Rattle.oc_source.specs.declared.parsed.StructDef.{StructDef}
use Rattle.oc_source.specs.declared.parsed.Param.{Param}
use Rattle.oc_source.specs.declared.parsed.Function.{Function}
use Rattle.oc_source.specs.declared.parsed.Program.{Program}
use Rattle.oc_source.specs.declared.parsed.Stmt.{Stmt}
use Rattle.oc_typed.specs.declared.typed.TStmt.{TStmt}
use Rattle.oc_typed.specs.declared.typed.TypedFunction.{TypedFunction}
use Rattle.oc_cells.specs.Types.{is_struct}
use Rattle.type_rules.specs.declared.judging.TypeRule.{TypeRule}
use Rattle.type_rules.specs.declared.judging.TypeRule.TheVariants.{T2, T10, T11}
use Rattle.type_rules.specs.declared.judging.Refusal.{Refusal}
use Rattle.type_rules.specs.declared.judging.Heading.{Heading}
use Rattle.type_rules.specs.Lookup.{Lookup}
use Rattle.type_rules.specs.Written.{type_name, field_type, param_of, more_stars, has_name, with_struct, at_function, bodies_of}
use Rattle.type_rules.specs.StatementRules.{Scope}
use Rattle.type_rules.specs.ProgramRules.{entry_from, first_lookup}
use Rattle.type_rules.specs.Moves.{moves, Done, FirstFault}
use Rattle.judged_programs.specs.StatementTyping.{StatementTyping}
use Rattle.judged_programs.specs.ProgramTyping.{FieldsTyping, is_small, StructTyping, StructsTyping, ResultTyping, HeadingTyping, stands_after, HeadingsTyping, first_scope, MaybeTyping, FunctionsTyping, with_bodies}

-- the rule at the spot
abbrev pub at : TypeRule → Spot → Refusal
at r p = record { rule = r; spot = p }

-- of the fields of a struct after these names: a type's fault, or a name that is there
abbrev pub FieldsFault : Lookup → List (List ℕ) → List FieldDef → Refusal → Type 0
FieldsFault g earlier [] x = ⊥
FieldsFault g earlier (f ∷ fs) x =
    (field_type g f ≡ Err x) ⊎ ((ty : CType) × (field_type g f ≡ Ok ty)
    × (((has_name earlier f.name ≡ true) × (x ≡ at T2 f.spot))
    ⊎ ((has_name earlier f.name ≡ false) × FieldsFault g (f.name ∷ earlier) fs x)))

-- of a struct: its fields', then its name, then its size
abbrev pub StructFault : Lookup → StructDef → Refusal → Type 0
StructFault g d x =
    FieldsFault g [] d.fields x ⊎ ((fs : List FieldType) × FieldsTyping g [] 0 d.fields fs
    × (((has_name (take g.above g.names) d.name ≡ true) × (x ≡ at T2 d.spot))
    ⊎ ((has_name (take g.above g.names) d.name ≡ false) × (is_small g fs ≡ false) × (x ≡ at T11 d.spot))))

-- of structs in order
abbrev pub StructsFault : Lookup → List StructDef → Refusal → Type 0
StructsFault g [] x = ⊥
StructsFault g (d ∷ ds) x = StructFault g d x ⊎ ((s : StructType) × StructTyping g d s × StructsFault (with_struct g s) ds x)

-- of the type of a result
abbrev pub ResultFault : Lookup → Option TypeName → Refusal → Type 0
ResultFault g None x = ⊥
ResultFault g (Some w) x =
    (type_name g w ≡ Err x) ⊎ ((ty : CType) × (type_name g w ≡ Ok ty) × (is_struct ty ≡ true) × (x ≡ at T11 w.base.spot))

-- of parameters after these names
abbrev pub ParamsFault : Lookup → List (List ℕ) → List Param → Refusal → Type 0
ParamsFault g earlier [] x = ⊥
ParamsFault g earlier (p ∷ ps) x =
    (param_of g p.base (more_stars p.array p.stars) p.array ≡ Err x)
    ⊎ ((s : SlotType) × (param_of g p.base (more_stars p.array p.stars) p.array ≡ Ok s)
    × (((has_name earlier p.name ≡ true) × (x ≡ at T2 p.spot))
    ⊎ ((has_name earlier p.name ≡ false) × ParamsFault g (p.name ∷ earlier) ps x)))

-- of a heading: its result's, then its parameters'
abbrev pub HeadingFault : Lookup → Function → Refusal → Type 0
HeadingFault g f x = ResultFault g f.result x ⊎ ((ty : CType) × ResultTyping g f.result ty × ParamsFault g [] f.params x)

-- of headings in order, after earlier ones
abbrev pub HeadingsFault : Lookup → List StructDef → List Heading → List Function → Refusal → Type 0
HeadingsFault g ds earlier [] x = ⊥
HeadingsFault g ds earlier (f ∷ fs) x =
    HeadingFault (at_function g ds f) f x ⊎ ((h : Heading) × HeadingTyping (at_function g ds f) f h
    × (((stands_after earlier f h ≡ false) × (x ≡ at T2 f.spot))
    ⊎ ((stands_after earlier f h ≡ true) × HeadingsFault g ds (earlier ++ h ∷ []) fs x)))

-- of statements in order
abbrev pub BodyFault : Lookup → List Stmt → Scope → Refusal → Type 0
BodyFault g [] s x = ⊥
BodyFault g (c ∷ cs) s x =
    FirstFault g s (moves false c.spot c.node Done) x
    ⊎ ((t : TStmt) × (r : Scope) × StatementTyping g false c.spot c.node s t r × BodyFault g cs r x)

-- of a function, if it has a body
abbrev pub MaybeFault : Lookup → Function → Heading → Option (List Stmt) → Refusal → Type 0
MaybeFault g f h None x = ⊥
MaybeFault g f h (Some ss) x = BodyFault (record g { result = h.result }) ss (first_scope f h) x

-- of the functions that have a body, in order
abbrev pub FunctionsFault : Lookup → List StructDef → List Function → List Heading → Refusal → Type 0
FunctionsFault g ds [] hs x = ⊥
FunctionsFault g ds (f ∷ fs) [] x = ⊥
FunctionsFault g ds (f ∷ fs) (h ∷ hs) x =
    MaybeFault (at_function g ds f) f h f.body x
    ⊎ ((us : List TypedFunction) × MaybeTyping (at_function g ds f) f h f.body us × FunctionsFault g ds fs hs x)

-- after structs and headings: a fault in a body, or where there is none, that no function can be started
abbrev pub BodiesFault : Program → Lookup → List Heading → Refusal → Type 0
BodiesFault p g hs x =
    FunctionsFault (with_bodies g hs) p.structs p.functions hs x
    ⊎ ((ts : List TypedFunction) × FunctionsTyping (with_bodies g hs) p.structs p.functions hs ts
    × (entry_from 0 (bodies_of hs) ≡ None) × (x ≡ at T10 p.end))

-- x is the first fault of a program
abbrev pub ProgramFault : Program → Refusal → Type 0
ProgramFault p x =
    StructsFault (first_lookup p.structs) p.structs x
    ⊎ ((g : Lookup) × StructsTyping (first_lookup p.structs) p.structs g
    × (HeadingsFault g p.structs [] p.functions x
    ⊎ ((hs : List Heading) × HeadingsTyping g p.structs [] p.functions hs × BodiesFault p g hs x)))
