use Rattle.std.proofs.Common.{ap, ◌∙◌, Err}
use Rattle.std.proofs.lemmas.Result.{err_from_is_err_and}
use Rattle.std.proofs.lemmas.List.{get_or_default}
use Rattle.clear_walk.specs.Runs.{around}
use Rattle.clear_walk.proofs.Calls.{params_start, params_next, params_over, params_stop}
use Rattle.clear_walk.proofs.variables.make_parameters.Goals as goal

pub loop-number-init : goal.loop-number-init
loop-number-init c = params_start (around c.args.frame.now c.args.at) c.args.spot c.args.values.now c.args.m.now

pub loop-number-preserved : goal.loop-number-preserved
loop-number-preserved c = params_next (around c.args.frame.now c.args.at) c.args.spot c.loop-number.invariant c.loop-number-test.true (get_or_default c.args.values.now c.loop-number.number _ _ c.loop-number-test.true) c.in_ok-make_parameter.ensures

pub returns-in_err-make_parameter : goal.returns-in_err-make_parameter
returns-in_err-make_parameter c =
    let q = err_from_is_err_and c.from_residual.result c.from_residual.ensures.1 in
    params_stop (around c.args.frame.now c.args.at) c.args.spot c.loop-number.invariant c.loop-number-test.true (get_or_default c.args.values.now c.loop-number.number _ _ c.loop-number-test.true) c.in_err-make_parameter.ensures (q.1 ∙ ap Err q.2)

pub returns : goal.returns
returns c = params_over (around c.args.frame.now c.args.at) c.args.spot c.loop-number.invariant c.loop-number-test.false
