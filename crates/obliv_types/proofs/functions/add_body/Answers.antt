use Rattle.std.proofs.Common.{◌≡◌, ℕ, List, [], ◌∷◌, ◌++◌, length, Some, Result, Ok, sym, ap, ◌∙◌}
use Rattle.std.specs.Prelude.{slice_get}
use Rattle.std.proofs.lemmas.Result.{err_from_is_err_and}
use Rattle.oc_source.specs.declared.parsed.Stmt.{Stmt}
use Rattle.oc_source.specs.declared.parsed.StructDef.{StructDef}
use Rattle.oc_source.specs.declared.parsed.Function.{Function}
use Rattle.oc_typed.specs.declared.typed.TypedFunction.{TypedFunction}
use Rattle.type_rules.specs.declared.judging.Heading.{Heading}
use Rattle.type_rules.specs.Judging.{Judged}
use Rattle.type_rules.specs.Lookup.{Lookup}
use Rattle.type_steps.specs.declared.fault.TypeFault.{TypeFault}
use Rattle.type_steps.specs.Answering.{Answers}
use Rattle.type_steps.proofs.Steps.{go, stop, fine, said_as}
use Rattle.obliv_types.specs.Functions.{body_lookup, body_added}
use Rattle.obliv_types.proofs.functions.add_body.Goals as goal

-- where the heading is found
found : (g : Lookup) (ds : List StructDef) (hs : List Heading) (done : List TypedFunction) (f : Function) (ss : List Stmt) (n : ℕ) (h : Heading) {r : Result (List TypedFunction) TypeFault} → n ≡ length done → Some h ≡ slice_get hs n → Answers (body_added g ds done f (Some h) ss) r → Answers (body_added g ds done f (slice_get hs (length done)) ss) r
found g ds hs done f ss n h e q x = said_as (ap (λ o. body_added g ds done f o ss) (q ∙ ap (λ n. slice_get hs n) e)) x

more_so : (ts us : List TypedFunction) (t : TypedFunction) → us ≡ ts ++ t ∷ [] → ◌≡◌ {A = Judged (List TypedFunction)} (Ok (ts ++ t ∷ [])) (Ok us)
more_so ts us t e = ap (λ ts. Ok ts) (sym e)

pub returns-in_err-type_function-in-Some : goal.returns-in_err-type_function-in-Some
returns-in_err-type_function-in-Some c =
    let q = err_from_is_err_and c.from_residual.result c.from_residual.ensures.1 in
    let s = c.args.structs.now in
    let hs = c.args.bodies.now.headings in
    found (body_lookup s hs) s.names.now.defs.now hs c.args.typed c.args.function.now c.args.stmts.now c.len.result c.in-Some.heading.now c.len.ensures c.in-Some.ensures.value
    (stop _ _ c.in_err-type_function-in-Some.ensures q.1 q.2)

pub returns-in_ok-push-in-Some : goal.returns-in_ok-push-in-Some
returns-in_ok-push-in-Some c =
    let s = c.args.structs.now in
    let hs = c.args.bodies.now.headings in
    found (body_lookup s hs) s.names.now.defs.now hs c.args.typed c.args.function.now c.args.stmts.now c.len.result c.in-Some.heading.now c.len.ensures c.in-Some.ensures.value
    (go _ _ c.in_ok-type_function-in-Some.ensures (fine (more_so c.args.typed _ _ c.in_ok-push-in-Some.ensures.ok)))
