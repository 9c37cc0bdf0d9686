use Rattle.std.proofs.Common.{◌∙◌, ap, sym, Err}
use Rattle.std.proofs.lemmas.Result.{err_from_is_err_and}
use Rattle.frozen_rules.specs.Scopes.{facts_of, around}
use Rattle.frozen_rules.proofs.Sequences.{loop_failed, loop_next, loop_ended}
use Rattle.frozen_rules.proofs.Loops.{declares_next, declares_end, declared_next, declared_end}
use Rattle.frozen_rules.proofs.statements.check_declares.Goals as goal

pub returns-in_err-check_declared : goal.returns-in_err-check_declared
returns-in_err-check_declared c =
    let q = err_from_is_err_and c.from_residual.result c.from_residual.ensures.1 in
    loop_failed _ c.loop-d.invariant.left (declares_next (around c.args.typed.now c.args.f.now) (facts_of c.args.w) c.args.ds.now c.loop-d.d-index _ c.loop-d-test.true c.d-item.is) c.in_err-check_declared.ensures (q.1 ∙ ap Err q.2)

pub loop-d-preserved : goal.loop-d-preserved
loop-d-preserved c = record {
  left = loop_next _ c.loop-d.invariant.left (declares_next (around c.args.typed.now c.args.f.now) (facts_of c.args.w) c.args.ds.now c.loop-d.d-index _ c.loop-d-test.true c.d-item.is) c.in_ok-check_declared.ensures;
  slots = sym (declared_next c.loop-d.last c.args.ds.now c.loop-d.d-index _ c.loop-d-test.true c.d-item.is) ∙ c.loop-d.invariant.slots;
}

pub returns : goal.returns
returns c =
    loop_ended c.loop-d.invariant.left (declares_end (around c.args.typed.now c.args.f.now) (facts_of c.args.w) c.args.ds.now c.loop-d.d-index c.loop-d-test.false)
    (sym (declared_end c.loop-d.last c.args.ds.now c.loop-d.d-index c.loop-d-test.false) ∙ c.loop-d.invariant.slots)
