use Rattle.std.proofs.Common.{sym, subst, ◌∙◌, rules, SFits, w64}
use Rattle.std.proofs.lemmas.Int.{to_z-of_z}
use Rattle.clear_glances.specs.Writes.{IsWritten}
use Rattle.clear_glances.proofs.Written.{assigned_so}
use Rattle.clear_glances.proofs.writes.assign_at_once.Goals as goal

pub returns : goal.returns
returns c =
    let f : SFits w64 c.in_ok-n.n = search rules in
    assigned_so c.args.m.now c.write.new.m c.args.place.now c.args.value.now c.in_ok-kind.kind c.in_ok-of.of c.in_ok-at.at c.in_ok-n.n _ c.in_ok-kind.ensures c.in_ok-of.ensures
    (sym c.same_kind.ensures ∙ c.if-not-same_kind.false) c.in_ok-at.ensures c.in_ok-n.ensures
    (subst (λ i. IsWritten c.args.m.now c.args.place.now.ty c.in_ok-kind.kind c.in_ok-at.at i c.write.result c.write.new.m) (to_z-of_z w64 c.in_ok-n.n f) c.write.ensures)
