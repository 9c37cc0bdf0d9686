use Rattle.std.proofs.Common.{Ok, sym, ap, ◌∙◌}
use Rattle.std.proofs.lemmas.Result.{err_from_is_err_and}
use Rattle.type_steps.proofs.Steps.{go, fine}
use Rattle.call_steps.specs.Given.{given_of}
use Rattle.type_rules.specs.Calls as rules
use Rattle.std.specs.Prelude.{true}
use Rattle.type_rules.specs.Lookup.{converted}
use Rattle.oc_cells.specs.declared.types.CType.{CType}
use Rattle.call_steps.proofs.Giving.{stop_seen}
use Rattle.call_steps.proofs.given.given_own.Goals as goal

pub returns-in_err-need_own : goal.returns-in_err-need_own
returns-in_err-need_own c =
    let q = err_from_is_err_and c.from_residual.result c.from_residual.ensures.1 in
    stop_seen given_of _ _ c.in_err-need_own.ensures q.1 q.2

pub returns : goal.returns
returns c = go _ _ c.in_ok-need_own.ensures (fine (ap (λ v. Ok v) (sym (c.in_ok-given_value.ensures ∙ ap (λ v. rules.given_value v) (c.in_ok-value.ensures ∙ ap (λ k. converted (CType.Int k true) c.args.value) c.own_kind-kind.ensures)))))
