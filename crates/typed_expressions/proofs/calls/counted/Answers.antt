use Rattle.std.proofs.Common.{Ok, sym, ap}
use Rattle.std.proofs.lemmas.Result.{err_from_is_err_and}
use Rattle.type_steps.proofs.Steps.{go, fine}
use Rattle.call_steps.specs.Given.{given_of}
use Rattle.typed_expressions.proofs.Loops.{mapped_stop}
use Rattle.typed_expressions.proofs.calls.counted.Goals as goal

pub returns-in_err-need_public : goal.returns-in_err-need_public
returns-in_err-need_public c =
    let q = err_from_is_err_and c.from_residual.result c.from_residual.ensures.1 in
    mapped_stop given_of _ _ (rw (c.get.ensures) at c.in_err-need_public.ensures) q.1 q.2

pub returns : goal.returns
returns c = go _ _ (rw (c.get.ensures) at c.in_ok-need_public.ensures) (fine (ap (λ a. Ok a) (sym c.in_ok-given_value.ensures)))
