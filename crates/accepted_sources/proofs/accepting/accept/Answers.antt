use Rattle.std.proofs.Common.{◌≡◌, ◌∙◌, ap, sym, subst, refl, Err}
use Rattle.std.specs.Prelude.{is_none}
use Rattle.oc_typing.specs.Tree.{tree_of}
use Rattle.std.proofs.lemmas.Result.{err_from_is_err_and}
use Rattle.accepted_sources.specs.Answers.{Accepts}
use Rattle.accepted_sources.proofs.Refusing.{scopes_refuse, accepts}
use Rattle.accepted_sources.proofs.Steps.{no_program, no_types}
use Rattle.accepted_sources.proofs.accepting.accept.Goals as goal

pub returns-in_err-program : goal.returns-in_err-program
returns-in_err-program c =
    let q = err_from_is_err_and c.from_residual.result c.from_residual.ensures.1 in
    subst (Accepts c.args.source.now) (sym (q.1 ∙ ap Err q.2)) (no_program c.args.source.now c.in_err-program.field-0.0 c.in_err-program.ensures)

pub returns-in-Err : goal.returns-in-Err
returns-in-Err c =
    subst (λ f. Accepts c.args.source.now (Err f)) (sym c.types_fault.ensures)
    (no_types c.args.source.now c.in_ok-program.program c.in_ok-program.ensures c.in-Err.fault c.in-Err.ensures.promised)

pub returns-in-Some : goal.returns-in-Some
returns-in-Some c =
    subst (λ f. Accepts c.args.source.now (Err f)) (sym c.scopes_fault.ensures)
    (scopes_refuse c.args.source.now c.in_ok-program.program c.in_ok-program.ensures (tree_of c.in-Ok.typed) c.in-Ok.ensures.promised c.in-Some.fault (sym c.broken_scopes.ensures ∙ c.in-Some.is))

pub returns-in-None : goal.returns-in-None
returns-in-None c =
    accepts c.args.source.now c.in_ok-program.program c.in_ok-program.ensures c.in-Ok.typed c.in-Ok.ensures.promised (sym c.broken_scopes.ensures ∙ c.in-None.is)

pub invariant_of-result : goal.invariant_of-result
invariant_of-result c = record { in_scope = ap (λ o. is_none o) (sym c.broken_scopes.ensures ∙ c.in-None.is) }
