use Rattle.std.proofs.Common.{◌≡◌, ap, sym, subst, ◌∙◌, Ok, rules, SFits, w64, to_z, of_z}
use Rattle.std.specs.Int.{w128}
use Rattle.std.proofs.lemmas.Int.{to_z-of_z}
use Rattle.oc_values.specs.Integers.{operate_public}
use Rattle.clear_glances.specs.Glances.{Fits}
use Rattle.oc_values.specs.Kinds.{same_kind}
use Rattle.clear_glances.proofs.Telling.{operated_so}
use Rattle.clear_glances.proofs.numbers.operated.Goals as goal

pub returns-in-Ok : goal.returns-in-Ok
returns-in-Ok c =
    let f : SFits w128 c.from.result = search rules in
    let g : SFits w128 c.from-2.result = search rules in
    let x = to_z-of_z w128 c.from.result f ∙ c.from.ensures ∙ to_z-of_z w64 c.args.x c.ranges.x in
    let y = to_z-of_z w128 c.from-2.result g ∙ c.from-2.ensures ∙ to_z-of_z w64 c.args.y c.ranges.y in
    let h : SFits w128 c.in-Ok.n = search rules in
    operated_so c.args.kind c.args.op c.args.left c.args.right c.args.x c.args.y c.in-Ok.n _
    (sym c.same_kind.ensures ∙ c.if-not-same_kind.false) (ap (λ k. same_kind k c.args.kind) (sym c.kind_of_result.ensures) ∙ sym c.same_kind-else-not-same_kind.ensures ∙ c.if-not-same_kind-2.false)
    (subst (λ i. operate_public c.args.op c.args.left c.args.x i ≡ Ok c.in-Ok.n) y (subst (λ i. operate_public c.args.op c.args.left i (to_z w128 (of_z w128 c.from-2.result)) ≡ Ok c.in-Ok.n) x (sym c.in-Ok.ensures.value)))
    (subst (λ i. Fits i c.narrow.result) (to_z-of_z w128 c.in-Ok.n h) c.narrow.ensures)
