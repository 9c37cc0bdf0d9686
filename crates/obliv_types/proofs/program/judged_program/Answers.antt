use Rattle.std.proofs.Common.{◌≡◌, List, ℕ, Ok, Result, ap, sym}
use Rattle.std.proofs.lemmas.Result.{err_from_is_err_and}
use Rattle.oc_source.specs.declared.parsed.Program.{Program}
use Rattle.oc_cells.specs.declared.types.StructType.{StructType}
use Rattle.oc_typed.specs.declared.typed.TypedFunction.{TypedFunction}
use Rattle.oc_typing.specs.Tree.{TypedTree, tree_of}
use Rattle.type_rules.specs.Judging.{next}
use Rattle.type_rules.specs.Written.{structs_from}
use Rattle.type_rules.specs.ProgramRules.{first_lookup, typed_program}
use Rattle.type_steps.specs.declared.fault.TypeFault.{TypeFault}
use Rattle.type_steps.specs.Answering.{Answers}
use Rattle.type_steps.proofs.Steps.{go, stop, fine, said_as}
use Rattle.written_types.specs.Each.{mapped}
use Rattle.written_types.specs.Shapes.{types}
use Rattle.written_types.specs.declared.names.Names.{Names}
use Rattle.written_types.specs.declared.shapes.Shapes.{Shapes}
use Rattle.typed_structs.specs.Structs.{after_structs}
use Rattle.obliv_types.specs.Functions.{functions_judged}
use Rattle.obliv_types.proofs.Programs.{tree, program_so, structs_as, typed_so}
use Rattle.obliv_types.proofs.program.judged_program.Goals as goal

in_parts : (p : Program) {r : Result TypedTree TypeFault} → Answers (next (structs_from (first_lookup p.structs) p.structs) (λ g. next (functions_judged g p) (tree g))) r → Answers (typed_program p) r
in_parts p x = said_as (sym (program_so p)) x

tree_so : (n : Names) (h : Shapes) (ss : List StructType) (ts : List TypedFunction) (e : ℕ) → ss ≡ types h.list → tree (after_structs n h) (ts, e) ≡ Ok (record { structs = ss; functions = ts; entry = e })
tree_so n h ss ts e q = ap (λ ss. Ok (record { structs = ss; functions = ts; entry = e })) (sym q)

pub returns-in_err-shapes : goal.returns-in_err-shapes
returns-in_err-shapes c =
    let q = err_from_is_err_and c.from_residual-in_err-shapes.result c.from_residual-in_err-shapes.ensures.1 in
    let p = c.args.program.now in
    let n = c.in_ok-names.ensures in
    in_parts p (stop _ _ (structs_as p c.in_ok-names.names c.as_slice.result.now n.defs n.public c.as_slice.ensures c.in_err-shapes.ensures) (ap (λ r. mapped tree_of r) q.1) q.2)

pub returns-in_err-functions : goal.returns-in_err-functions
returns-in_err-functions c =
    let q = err_from_is_err_and c.from_residual-in_err-functions.result c.from_residual-in_err-functions.ensures.1 in
    let p = c.args.program.now in
    let n = c.in_ok-names.ensures in
    in_parts p
    (go _ _ (structs_as p c.in_ok-names.names c.as_slice.result.now n.defs n.public c.as_slice.ensures c.in_ok-shapes.ensures)
    (stop _ _ c.in_err-functions.ensures (ap (λ r. mapped tree_of r) q.1) q.2))

pub invariant_of-result : goal.invariant_of-result
invariant_of-result c =
    let p = c.args.program.now in
    let n = c.in_ok-names.ensures in
    let x = in_parts p
    (go _ _ (structs_as p c.in_ok-names.names c.as_slice.result.now n.defs n.public c.as_slice.ensures c.in_ok-shapes.ensures)
    (go _ _ c.in_ok-functions.ensures (fine (tree_so c.in_ok-names.names c.in_ok-shapes.shapes c.in_ok-structs.structs c.in_ok-functions.functions c.in_ok-functions.entry c.in_ok-structs.ensures)))) in
    record { well_typed = typed_so p c.in_ok-structs.structs c.in_ok-functions.functions c.in_ok-functions.entry x.said }

pub returns : goal.returns
returns c =
    let p = c.args.program.now in
    let n = c.in_ok-names.ensures in
    in_parts p
    (go _ _ (structs_as p c.in_ok-names.names c.as_slice.result.now n.defs n.public c.as_slice.ensures c.in_ok-shapes.ensures)
    (go _ _ c.in_ok-functions.ensures (fine (tree_so c.in_ok-names.names c.in_ok-shapes.shapes c.in_ok-structs.structs c.in_ok-functions.functions c.in_ok-functions.entry c.in_ok-structs.ensures))))
