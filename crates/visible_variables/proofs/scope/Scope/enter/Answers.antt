use Rattle.std.proofs.Common.{◌∙◌, sym, ap, arith}
use Rattle.visible_variables.specs.Seen.{all_seen}
use Rattle.visible_variables.proofs.Scoping.{made, seen_length}
use Rattle.visible_variables.proofs.scope.Scope.enter.Goals as goal

pub returns-clause-sound : goal.returns-clause-sound
returns-clause-sound c =
    let e = c.len.ensures in
    record { latest = c.requires.latest; hidden = c.requires.hidden; within = omega (arith, e) }

pub returns-clause-entered : goal.returns-clause-entered
returns-clause-entered c =
    let s = c.args.self.now in
    ap (λ n. made (all_seen s.variables) s.slots n) (c.len.ensures ∙ sym (seen_length s.variables))
