-- The rules of typing for functions and whole programs, as functions.
use Rattle.std.specs.Prelude.{if◌then◌else◌, ℕ, ◌+◌, List, [], ◌∷◌, ◌++◌, length, Bool, true, false, not, ◌&&◌, Option, Some, None, Ok, codes}
use Rattle.oc_source.specs.declared.spot.Spot.{Spot}
use Rattle.oc_cells.specs.declared.types.CType.{Nothing}
use Rattle.oc_cells.specs.declared.types.SlotType.{SlotType}
use Rattle.oc_source.specs.declared.parsed.Stmt.{Stmt}
use Rattle.oc_source.specs.declared.parsed.StructDef.{StructDef}
use Rattle.oc_source.specs.declared.parsed.Param.{Param}
use Rattle.oc_source.specs.declared.parsed.Function.{Function}
use Rattle.oc_source.specs.declared.parsed.Program.{Program}
use Rattle.oc_typed.specs.declared.typed.TStmt as typed
use Rattle.oc_typed.specs.declared.typed.TypedFunction.{TypedFunction}
use Rattle.oc_typing.specs.Tree.{TypedTree}
use Rattle.type_rules.specs.declared.judging.TypeRule.TheVariants.{T10}
use Rattle.type_rules.specs.declared.judging.Heading.{Heading}
use Rattle.type_rules.specs.Judging.{Judged, next, breaks, is_nothing}
use Rattle.type_rules.specs.Lookup.{Lookup, same_name}
use Rattle.type_rules.specs.Written.{public_from, struct_names, structs_from, headings_from, bodies_of, at_function}
use Rattle.type_rules.specs.StatementRules.{Scope, Walk, bind, pure, add, stmt}

-- the statements of a function's body, in order
abbrev pub statements : Lookup → List Stmt → Walk (List typed.TStmt)
statements g [] = pure []
statements g (x ∷ xs) = bind (stmt g false x.spot x.node) (λ y. bind (statements g xs) (λ ys. pure (y ∷ ys)))

-- the parameters, which share the scope of the body
abbrev pub with_params : List Param → List SlotType → Scope → Scope
with_params [] ss s = s
with_params (p ∷ ps) [] s = s
with_params (p ∷ ps) (t ∷ ts) s = with_params ps ts (add p.name t.ty t.frozen s)

-- a function with its body, in whose scope its parameters are
abbrev pub body : Lookup → Function → Heading → List Stmt → Judged TypedFunction
body g f h ss =
    next (statements g ss (with_params f.params h.params (record { seen = []; slots = []; outer = 0 }))) (λ r.
    Ok (record { name = f.name; result = h.result; params = length h.params; slots = r.1.slots; obliv = f.obliv; body = r.0 }))

-- a function with its heading
abbrev pub function : Lookup → Function → Heading → Option (List Stmt) → List TypedFunction → Judged (List TypedFunction)
function g f h None done = Ok done
function g f h (Some ss) done = next (body (record g { result = h.result }) f h ss) (λ t. Ok (done ++ t ∷ []))

-- the functions with a body, in order
abbrev pub functions_from : Lookup → List StructDef → List TypedFunction → List Function → List Heading → Judged (List TypedFunction)
functions_from g ds done [] hs = Ok done
functions_from g ds done (f ∷ fs) [] = Ok done
functions_from g ds done (f ∷ fs) (h ∷ hs) = next (function (at_function g ds f) f h f.body done) (λ ts. functions_from g ds ts fs hs)

-- whether there is no slot
abbrev pub is_empty : List SlotType → Bool
is_empty [] = true
is_empty (s ∷ ss) = false

-- whether a heading is that of the function that a run starts with
abbrev pub is_entry : Heading → Bool
is_entry h = same_name h.name (codes "oc_main") && is_nothing h.result && is_empty h.params && not h.obliv

-- the number of the first such heading, counted from n
abbrev pub entry_from : ℕ → List Heading → Option ℕ
entry_from n [] = None
entry_from n (h ∷ hs) = if is_entry h then Some n else entry_from (n + 1) hs

-- the number of the function that a run starts with, which has to be there
abbrev pub entry : Spot → Option ℕ → Judged ℕ
entry p None = breaks p T10
entry p (Some n) = Ok n

-- what is known before the structs are judged
abbrev pub first_lookup : List StructDef → Lookup
first_lookup ds =
    record {
      names = struct_names ds;
      public = public_from (struct_names ds) [] ds;
      structs = [];
      above = 0;
      bodies = [];
      result = Nothing;
      seen = [];
    }

-- the typed tree of a program, or its first fault
unfoldable pub typed_program : Program → Judged TypedTree
typed_program p =
    next (structs_from (first_lookup p.structs) p.structs) (λ g.
    next (headings_from g p.structs [] p.functions) (λ hs.
    next (functions_from (record g { bodies = bodies_of hs }) p.structs [] p.functions hs) (λ ts.
    next (entry p.end (entry_from 0 (bodies_of hs))) (λ n.
    Ok (record { structs = g.structs; functions = ts; entry = n })))))
