use Rattle.std.proofs.Common.{Ok, sym, ap}
use Rattle.std.proofs.lemmas.Result.{err_from_is_err_and}
use Rattle.type_steps.proofs.Steps.{go, fine}
use Rattle.call_steps.specs.Given.{given_of}
use Rattle.call_steps.proofs.Giving.{stop_seen}
use Rattle.call_steps.proofs.given.given_index.Goals as goal

pub returns-in_err-need_index : goal.returns-in_err-need_index
returns-in_err-need_index c =
    let q = err_from_is_err_and c.from_residual.result c.from_residual.ensures.1 in
    stop_seen given_of _ _ c.in_err-need_index.ensures q.1 q.2

pub returns : goal.returns
returns c = go _ _ c.in_ok-need_index.ensures (fine (ap (λ v. Ok v) (sym c.in_ok-given_value.ensures)))
