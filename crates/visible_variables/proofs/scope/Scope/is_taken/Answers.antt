use Rattle.std.proofs.Common.{sym, ap, ◌∙◌}
use Rattle.visible_variables.proofs.Scoping.{from, taken_last}
use Rattle.visible_variables.proofs.scope.Scope.is_taken.Goals as goal

pub returns-in-None : goal.returns-in-None
returns-in-None c =
    let s = c.args.self.now in
    ap (λ o. from o s.outer) (c.in-None.ensures ∙ c.requires.latest.at c.args.name.now) ∙ sym (taken_last s.outer s.variables c.args.name.now)

pub returns-in-Some : goal.returns-in-Some
returns-in-Some c =
    let s = c.args.self.now in
    ap (λ o. from o s.outer) (c.in-Some.ensures ∙ c.requires.latest.at c.args.name.now) ∙ sym (taken_last s.outer s.variables c.args.name.now)
