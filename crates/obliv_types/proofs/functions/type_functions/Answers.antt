use Rattle.std.proofs.Common.{◌≡◌, List, [], ap, Result}
use Rattle.std.proofs.lemmas.Result.{err_from_is_err_and}
use Rattle.oc_source.specs.declared.parsed.StructDef.{StructDef}
use Rattle.oc_source.specs.declared.parsed.Function.{Function}
use Rattle.oc_typed.specs.declared.typed.TypedFunction.{TypedFunction}
use Rattle.type_rules.specs.declared.judging.Heading.{Heading}
use Rattle.type_rules.specs.Lookup.{Lookup}
use Rattle.type_steps.specs.declared.fault.TypeFault.{TypeFault}
use Rattle.type_steps.specs.Answering.{Answers}
use Rattle.type_steps.proofs.Steps.{said_as, fine}
use Rattle.typed_headings.specs.InTurn.{in_turn}
use Rattle.typed_headings.proofs.InTurn.{goes_on, fails, ends}
use Rattle.obliv_types.specs.Functions.{body_lookup, function_added}
use Rattle.obliv_types.proofs.functions.type_functions.Goals as goal

of_items : (g : Lookup) (ds : List StructDef) (hs : List Heading) (fs xs : List Function) {r : Result (List TypedFunction) TypeFault} → xs ≡ fs → Answers (in_turn (function_added g ds hs) [] xs) r → Answers (in_turn (function_added g ds hs) [] fs) r
of_items g ds hs fs xs e h = said_as (ap (λ fs. in_turn (function_added g ds hs) [] fs) e) h

pub loop-function-preserved : goal.loop-function-preserved
loop-function-preserved c =
    let s = c.args.structs.now in
    let hs = c.args.bodies.now.headings in
    let step = function_added (body_lookup s hs) s.names.now.defs.now hs in
    let fs = c.as_slice-function-items.result.now in
    goes_on step (in_turn step [] fs) fs c.loop-function.function-index c.loop-function.typed _ _ c.loop-function.invariant c.function-item.is c.loop-function-test.true c.in_ok-typed.ensures.said

pub returns-in_err-typed : goal.returns-in_err-typed
returns-in_err-typed c =
    let q = err_from_is_err_and c.from_residual.result c.from_residual.ensures.1 in
    let s = c.args.structs.now in
    let hs = c.args.bodies.now.headings in
    let step = function_added (body_lookup s hs) s.names.now.defs.now hs in
    let fs = c.as_slice-function-items.result.now in
    of_items (body_lookup s hs) s.names.now.defs.now hs _ fs c.as_slice-function-items.ensures
    (fails step (in_turn step [] fs) fs c.loop-function.function-index c.loop-function.typed _ c.loop-function.invariant c.function-item.is c.loop-function-test.true c.in_err-typed.ensures q.1 q.2)

pub returns : goal.returns
returns c =
    let s = c.args.structs.now in
    let hs = c.args.bodies.now.headings in
    let step = function_added (body_lookup s hs) s.names.now.defs.now hs in
    let fs = c.as_slice-function-items.result.now in
    of_items (body_lookup s hs) s.names.now.defs.now hs _ fs c.as_slice-function-items.ensures
    (fine (ends step (in_turn step [] fs) fs _ c.loop-function.typed c.loop-function.invariant c.loop-function-test.false))
