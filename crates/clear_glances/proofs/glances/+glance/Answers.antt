use Rattle.std.proofs.Common.{◌≡◌, sym, ap, subst, ◌∙◌, rules, SFits, w64, to_z, of_z}
use Rattle.std.specs.Int.{w128}
use Rattle.std.proofs.lemmas.Int.{to_z-of_z}
use Rattle.oc_values.specs.Integers.{convert}
use Rattle.oc_typed.specs.declared.typed.TPlaceNode.{Field}
use Rattle.clear_glances.specs.Glances.{Fits, IsOperated, IsMoved}
use Rattle.clear_glances.proofs.Telling.{tells_node, tells_place, tells_link, read_tells, link_tells, binary_tells, convert_tells, element_tells, field_tells}
use Rattle.clear_glances.proofs.glances.+glance.Goals as goal

pub glance-returns-in-Read : goal.glance-returns-in-Read
glance-returns-in-Read t c = tells_node c.args.m.now c.args.e.now _ c.in_ok-kind.ensures c.in-Read.is c.glance_read.ensures

pub glance_binary-returns : goal.glance_binary-returns
glance_binary-returns t c =
    let f : SFits w64 c.in_ok-x.x = search rules in
    let g : SFits w64 c.in_ok-y.y = search rules in
    binary_tells c.args.m.now c.args.kind c.args.op c.args.left.now c.args.right.now c.in_ok-l.l c.in_ok-r.r c.in_ok-x.x c.in_ok-y.y _
    c.in_ok-l.ensures c.in_ok-r.ensures c.in_ok-x.ensures c.in_ok-y.ensures
    (subst (λ i. IsOperated c.args.kind c.args.op c.in_ok-l.l c.in_ok-r.r c.in_ok-x.x i c.operated.result) (to_z-of_z w64 c.in_ok-y.y g)
    (subst (λ i. IsOperated c.args.kind c.args.op c.in_ok-l.l c.in_ok-r.r i (to_z w64 (of_z w64 c.in_ok-y.y)) c.operated.result) (to_z-of_z w64 c.in_ok-x.x f) c.operated.ensures))

pub glance_convert-returns : goal.glance_convert-returns
glance_convert-returns t c =
    let f : SFits w128 c.convert.result = search rules in
    let g : SFits w128 c.from.result = search rules in
    let h : SFits w64 c.in_ok-x.x = search rules in
    let e : c.convert.result ≡ convert c.in_ok-x.x c.args.kind =
    c.convert.ensures.value ∙ ap (λ i. convert i c.args.kind) (to_z-of_z w128 c.from.result g ∙ c.from.ensures ∙ to_z-of_z w64 c.in_ok-x.x h) in
    convert_tells c.args.m.now c.args.kind c.args.part.now c.in_ok-x.x _ c.in_ok-x.ensures
    (subst (λ i. Fits i c.narrow.result) (to_z-of_z w128 c.convert.result f ∙ e) c.narrow.ensures)

pub glance_element-returns : goal.glance_element-returns
glance_element-returns t c =
    let f : SFits w64 c.in_ok-n.n = search rules in
    element_tells c.args.m.now c.args.ty.now c.args.pointer.now c.args.amount.now c.in_ok-kind.kind c.in_ok-from.from c.in_ok-n.n _
    c.in_ok-kind.ensures c.in_ok-from.ensures c.in_ok-n.ensures
    (subst (λ i. IsMoved c.args.m.now c.args.ty.now c.in_ok-kind.kind c.in_ok-from.from i c.moved.result) (to_z-of_z w64 c.in_ok-n.n f) c.moved.ensures)

pub glance_field-returns : goal.glance_field-returns
glance_field-returns t c = λ u.
    field_tells c.args.m.now u c.args.base.now c.args.offset c.in_ok-from.from _ c.in_ok-from.ensures c.ahead.ensures

pub glance_link-returns : goal.glance_link-returns
glance_link-returns t c = link_tells c.args.m.now c.args.place.now c.in_ok-at.at _ c.in_ok-at.ensures c.linked.ensures

pub glance_read-returns : goal.glance_read-returns
glance_read-returns t c = read_tells c.args.m.now c.args.kind c.args.place.now c.in_ok-at.at _ c.in_ok-at.ensures c.held.ensures

pub glance_pointer-returns-in-Read : goal.glance_pointer-returns-in-Read
glance_pointer-returns-in-Read t c = tells_link c.args.m.now c.args.e.now _ c.in-Read.is c.glance_link.ensures

pub glance_place-returns-in-Field : goal.glance_place-returns-in-Field
glance_place-returns-in-Field t c =
    tells_place c.args.m.now c.args.place.now _ (c.in-Field.is ∙ ap (λ q. Field q c.in-Field.offset) (sym c.get-in-Field.ensures)) (c.glance_field.ensures c.args.place.now.ty)
