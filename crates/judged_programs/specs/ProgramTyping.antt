-- Typing of structs, headings and whole programs, as relations.
use Rattle.std.specs.Prelude.{ℕ, ◌+◌, nat_le, nat_lt, ◌≡◌, List, [], ◌∷◌, ◌++◌, length, take, Bool, true, false, not, ◌&&◌, Option, Some, None, is_none, is_some, Ok}
use Rattle.oc_cells.specs.declared.types.CType.{CType, Nothing}
use Rattle.oc_cells.specs.declared.types.FieldType.{FieldType}
use Rattle.oc_cells.specs.declared.types.SlotType.{SlotType}
use Rattle.oc_cells.specs.declared.types.StructType.{StructType}
use Rattle.oc_source.specs.declared.parsed.TypeName.{TypeName}
use Rattle.oc_source.specs.declared.parsed.FieldDef.{FieldDef}
use Rattle.oc_source.specs.declared.parsed.StructDef.{StructDef}
use Rattle.oc_source.specs.declared.parsed.Param.{Param}
use Rattle.oc_source.specs.declared.parsed.Function.{Function}
use Rattle.oc_source.specs.declared.parsed.Program.{Program}
use Rattle.oc_source.specs.declared.parsed.Stmt.{Stmt}
use Rattle.oc_typed.specs.declared.typed.TStmt.{TStmt}
use Rattle.oc_typed.specs.declared.typed.TypedFunction.{TypedFunction}
use Rattle.oc_typing.specs.Tree.{TypedTree}
use Rattle.oc_cells.specs.Types.{is_struct}
use Rattle.oc_cells.specs.Layout.{struct_cells, field_cells}
use Rattle.oc_typing.specs.Rules.{field_depth}
use Rattle.type_rules.specs.declared.judging.Heading.{Heading}
use Rattle.type_rules.specs.Lookup.{Lookup}
use Rattle.type_rules.specs.Calls.{own_call}
use Rattle.type_rules.specs.Written.{type_name, field_type, param_of, more_stars, has_name, cells_of, depths_after, with_struct, may_stand, at_function, bodies_of}
use Rattle.type_rules.specs.StatementRules.{Scope}
use Rattle.type_rules.specs.ProgramRules.{with_params, entry_from, first_lookup}
use Rattle.judged_programs.specs.StatementTyping.{BodyTyping}

-- the fields of a struct from a cell on, after these names: names differ, and each begins where the one before it ends
abbrev pub FieldsTyping : Lookup → List (List ℕ) → ℕ → List FieldDef → List FieldType → Type 0
FieldsTyping g earlier at [] xs = xs ≡ []
FieldsTyping g earlier at (f ∷ fs) xs =
    (ty : CType) × (ys : List FieldType) × (field_type g f ≡ Ok ty) × (has_name earlier f.name ≡ false)
    × FieldsTyping g (f.name ∷ earlier) (at + cells_of g ty) fs ys × (xs ≡ record { name = f.name; ty = ty; offset = at } ∷ ys)

-- whether a struct of these fields has a cell, is small enough, and not nested too deeply
abbrev pub is_small : Lookup → List FieldType → Bool
is_small g fs =
    nat_le 1 (field_cells (struct_cells g.structs) fs) && nat_le (field_cells (struct_cells g.structs) fs) 65536
    && nat_lt (field_depth (depths_after [] g.structs) fs) 64

-- s is the struct of a definition, where those above it are known
abbrev pub StructTyping : Lookup → StructDef → StructType → Type 0
StructTyping g d s =
    (fs : List FieldType) × FieldsTyping g [] 0 d.fields fs × (has_name (take g.above g.names) d.name ≡ false) × (is_small g fs ≡ true)
    × (s ≡ record { name = d.name; fields = fs; cells = field_cells (struct_cells g.structs) fs })

-- of structs in order, each where those above it are known; k is what is known after them
abbrev pub StructsTyping : Lookup → List StructDef → Lookup → Type 0
StructsTyping g [] k = k ≡ g
StructsTyping g (d ∷ ds) k = (s : StructType) × StructTyping g d s × StructsTyping (with_struct g s) ds k

-- the type of a result, which is no struct
abbrev pub ResultTyping : Lookup → Option TypeName → CType → Type 0
ResultTyping g None ty = ty ≡ Nothing
ResultTyping g (Some w) ty = (type_name g w ≡ Ok ty) × (is_struct ty ≡ false)

-- the variables of parameters, whose names differ from these and each other
abbrev pub ParamsTyping : Lookup → List (List ℕ) → List Param → List SlotType → Type 0
ParamsTyping g earlier [] xs = xs ≡ []
ParamsTyping g earlier (p ∷ ps) xs =
    (x : SlotType) × (ys : List SlotType) × (param_of g p.base (more_stars p.array p.stars) p.array ≡ Ok x)
    × (has_name earlier p.name ≡ false) × ParamsTyping g (p.name ∷ earlier) ps ys × (xs ≡ x ∷ ys)

-- h is the heading of a function
abbrev pub HeadingTyping : Lookup → Function → Heading → Type 0
HeadingTyping g f h =
    (ty : CType) × (ps : List SlotType) × ResultTyping g f.result ty × ParamsTyping g [] f.params ps
    × (h ≡ record { name = f.name; result = ty; params = ps; obliv = f.obliv; has_body = is_some f.body })

-- whether a function's heading may stand after these: its name isn't one of the language's own calls, and those of its name agree
abbrev pub stands_after : List Heading → Function → Heading → Bool
stands_after earlier f h = is_none (own_call f.name) && may_stand earlier h

-- hs are the headings of functions after earlier ones, each where the structs above it are known
abbrev pub HeadingsTyping : Lookup → List StructDef → List Heading → List Function → List Heading → Type 0
HeadingsTyping g ds earlier [] hs = hs ≡ earlier
HeadingsTyping g ds earlier (f ∷ fs) hs =
    (h : Heading) × HeadingTyping (at_function g ds f) f h × (stands_after earlier f h ≡ true)
    × HeadingsTyping g ds (earlier ++ h ∷ []) fs hs

-- the scope of a function's body before its first statement, in which its parameters are
abbrev pub first_scope : Function → Heading → Scope
first_scope f h = with_params f.params h.params (record { seen = []; slots = []; outer = 0 })

-- t is the typed function of this heading and these statements
abbrev pub FunctionTyping : Lookup → Function → Heading → List Stmt → TypedFunction → Type 0
FunctionTyping g f h ss t =
    (cs : List TStmt) × (r : Scope) × BodyTyping (record g { result = h.result }) ss (first_scope f h) cs r
    × (t ≡ record { name = f.name; result = h.result; params = length h.params; slots = r.slots; obliv = f.obliv; body = cs })

-- of a function, which has a typed one where it has a body
abbrev pub MaybeTyping : Lookup → Function → Heading → Option (List Stmt) → List TypedFunction → Type 0
MaybeTyping g f h None ts = ts ≡ []
MaybeTyping g f h (Some ss) ts = (t : TypedFunction) × FunctionTyping g f h ss t × (ts ≡ t ∷ [])

-- ts are the functions that have a body, in order
abbrev pub FunctionsTyping : Lookup → List StructDef → List Function → List Heading → List TypedFunction → Type 0
FunctionsTyping g ds [] hs ts = ts ≡ []
FunctionsTyping g ds (f ∷ fs) [] ts = ts ≡ []
FunctionsTyping g ds (f ∷ fs) (h ∷ hs) ts =
    (us vs : List TypedFunction) × MaybeTyping (at_function g ds f) f h f.body us × FunctionsTyping g ds fs hs vs × (ts ≡ us ++ vs)

-- what bodies are judged with: structs, and the headings of functions that have a body
abbrev pub with_bodies : Lookup → List Heading → Lookup
with_bodies g hs = record g { bodies = bodies_of hs }

-- t is the typed tree of a program
abbrev pub ProgramTyping : Program → TypedTree → Type 0
ProgramTyping p t =
    (g : Lookup) × (hs : List Heading) × StructsTyping (first_lookup p.structs) p.structs g × HeadingsTyping g p.structs [] p.functions hs
    × FunctionsTyping (with_bodies g hs) p.structs p.functions hs t.functions × (entry_from 0 (bodies_of hs) ≡ Some t.entry)
    × (t.structs ≡ g.structs)
