use Rattle.std.proofs.Common.{◌++◌, ap, ◌∙◌}
use Rattle.type_rules.specs.Prints.{asked}
use Rattle.call_steps.proofs.Asking.{asks_on, asks_end}
use Rattle.call_steps.proofs.prints.asked.Goals as goal

pub loop-piece-init : goal.loop-piece-init
loop-piece-init c = ap (λ ks. ks ++ asked c.as_slice-piece-items.result.now) c.new-kinds.ensures

pub loop-piece-preserved : goal.loop-piece-preserved
loop-piece-preserved c = asks_on _ _ _ _ _ c.piece-item.is c.loop-piece-test.true c.in_ok-push_asked.ensures c.loop-piece.invariant

pub returns : goal.returns
returns c = asks_end _ _ _ c.loop-piece-test.false c.loop-piece.invariant ∙ ap asked c.as_slice-piece-items.ensures
