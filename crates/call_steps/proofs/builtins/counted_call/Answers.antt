use Rattle.std.proofs.Common.{sym, ◌∙◌}
use Rattle.call_steps.proofs.Giving.{holds, refused, alike, unlike}
use Rattle.call_steps.proofs.builtins.counted_call.Goals as goal

pub returns-then-count-wanted : goal.returns-then-count-wanted
returns-then-count-wanted c = holds _ _ _ _ (alike _ _ (sym c.len-count.ensures ∙ c.if-count-wanted.true ∙ c.wanted_count-wanted.ensures)) c.formed_call.ensures

pub returns-else-count-wanted : goal.returns-else-count-wanted
returns-else-count-wanted c = refused _ _ _ _ (unlike _ _ (λ e. c.if-count-wanted.false (c.len-count.ensures ∙ e ∙ sym c.wanted_count-wanted.ensures)))
