use Rattle.std.proofs.Common.{sym, ◌∙◌}
use Rattle.oc_declarators.proofs.Words.{sign_on, sign_other, sign_end}
use Rattle.oc_declarators.proofs.integers.after_sign.Goals as goal

pub returns-in-Named : goal.returns-in-Named
returns-in-Named c = sign_on _ _ c.in-Some.ensures (sym c.opening_of.ensures ∙ c.in-Named.is) c.tail.ensures

pub returns-in_default : goal.returns-in_default
returns-in_default c = rw c.int_kind.ensures (sign_other _ _ c.in-Some.ensures (λ w e. c.in_default.not-Named w (c.opening_of.ensures ∙ e)))

pub returns-in-None : goal.returns-in-None
returns-in-None c = rw c.int_kind-in-None.ensures (sign_end _ _ c.in-None.ensures)
