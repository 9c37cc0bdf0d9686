-- The functions of a program, judged one after another.
use Rattle.std.specs.Prelude.{ℕ, List, [], ◌∷◌, ◌++◌, length, Option, Some, None, Ok, slice_get}
use Rattle.oc_source.specs.declared.parsed.Stmt.{Stmt}
use Rattle.oc_source.specs.declared.parsed.StructDef.{StructDef}
use Rattle.oc_source.specs.declared.parsed.Function.{Function}
use Rattle.oc_source.specs.declared.parsed.Program.{Program}
use Rattle.oc_cells.specs.declared.types.CType.{Nothing}
use Rattle.oc_typed.specs.declared.typed.TypedFunction.{TypedFunction}
use Rattle.type_rules.specs.declared.judging.Heading.{Heading}
use Rattle.type_rules.specs.Judging.{Judged, next}
use Rattle.type_rules.specs.Lookup.{Lookup}
use Rattle.type_rules.specs.Written.{at_function, headings_from, bodies_of}
use Rattle.type_rules.specs.ProgramRules.{body, functions_from, entry_from, entry}
use Rattle.typed_headings.specs.declared.structs.Structs.{Structs}
use Rattle.typed_headings.specs.Judging.{with_structs}

-- what is known where bodies stand
abbrev pub body_lookup : Structs → List Heading → Lookup
body_lookup s hs = with_structs s.names.now s.shapes.now hs Nothing

-- what is known in the body of a function of this heading
abbrev pub in_body : Lookup → List StructDef → Function → Heading → Lookup
in_body g ds f h = record (at_function g ds f) { result = h.result }

-- typed functions with that of a body, if its heading is there
abbrev pub body_added : Lookup → List StructDef → List TypedFunction → Function → Option Heading → List Stmt → Judged (List TypedFunction)
body_added g ds done f None ss = Ok done
body_added g ds done f (Some h) ss = next (body (in_body g ds f h) f h ss) (λ t. Ok (done ++ t ∷ []))

-- typed functions with a further one, if it has a body
abbrev pub maybe_added : Lookup → List StructDef → List Heading → List TypedFunction → Function → Option (List Stmt) → Judged (List TypedFunction)
maybe_added g ds hs done f None = Ok done
maybe_added g ds hs done f (Some ss) = body_added g ds done f (slice_get hs (length done)) ss

-- typed functions with a further one, whose heading is the next of these if it has a body
abbrev pub function_added : Lookup → List StructDef → List Heading → List TypedFunction → Function → Judged (List TypedFunction)
function_added g ds hs done f = maybe_added g ds hs done f f.body

-- the typed functions of a program, and the number of the one that a run starts with, where its structs are known
abbrev pub functions_judged : Lookup → Program → Judged (List TypedFunction × ℕ)
functions_judged g p =
    next (headings_from g p.structs [] p.functions) (λ hs.
    next (functions_from (record g { bodies = bodies_of hs }) p.structs [] p.functions hs) (λ ts.
    next (entry p.end (entry_from 0 (bodies_of hs))) (λ n. Ok (ts, n))))
