use Rattle.std.proofs.Common.{sym, ap, subst, ◌∙◌}
use Rattle.std.proofs.lemmas.Result.{err_from_is_err_and}
use Rattle.type_rules.specs.StatementRules.{declare, declare_all}
use Rattle.written_types.specs.Known.{lookup}
use Rattle.visible_variables.specs.Scopes.{scope_of}
use Rattle.typed_statements.proofs.Walks.{ends_as}
use Rattle.typed_statements.proofs.Loops.{Left, begins, goes_on, fails, ends, declares_at}
use Rattle.typed_statements.proofs.declarations.type_declares.Goals as goal

pub loop-declared-init : goal.loop-declared-init
loop-declared-init c =
    let judge = declare (lookup c.args.known.now) in
    subst (λ out. Left judge c.args.scope.now c.args.scope.now c.as_slice-declared-items.result.now 0 out) (sym c.new-typed.ensures) (begins judge c.args.scope.now _ c.requires)

pub loop-declared-preserved : goal.loop-declared-preserved
loop-declared-preserved c =
    let judge = declare (lookup c.args.known.now) in
    goes_on judge _ c.loop-declared.declared-index _ _ c.loop-declared.invariant c.declared-item.is c.loop-declared-test.true c.in_ok-each.ensures c.in_ok-push.ensures.ok

pub returns-in_err-each : goal.returns-in_err-each
returns-in_err-each c =
    let q = err_from_is_err_and c.from_residual.result c.from_residual.ensures.1 in
    let g = lookup c.args.known.now in
    ends_as (declares_at g _ _ ∙ ap (λ ds. declare_all g ds (scope_of c.args.scope.now)) c.as_slice-declared-items.ensures)
    (fails (declare g) _ c.loop-declared.declared-index _ _ c.loop-declared.invariant c.declared-item.is c.loop-declared-test.true c.in_err-each.ensures q.1 q.2)

pub returns : goal.returns
returns c =
    let g = lookup c.args.known.now in
    ends_as (declares_at g _ _ ∙ ap (λ ds. declare_all g ds (scope_of c.args.scope.now)) c.as_slice-declared-items.ensures)
    (ends (declare g) _ _ _ c.loop-declared.invariant c.loop-declared-test.false)
