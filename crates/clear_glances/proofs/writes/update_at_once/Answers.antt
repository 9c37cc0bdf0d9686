use Rattle.std.proofs.Common.{Some, sym, subst, rules, SFits, w64, to_z, of_z, true, false}
use Rattle.std.proofs.lemmas.Int.{to_z-of_z}
use Rattle.oc_typed.specs.declared.typed.TExprNode.{Update}
use Rattle.clear_glances.specs.Writes.{DoesAtOnce, IsWritten, IsRenewed}
use Rattle.clear_glances.proofs.Written.{update_so}
use Rattle.clear_glances.proofs.writes.update_at_once.Goals as goal

pub returns-then-old : goal.returns-then-old
returns-then-old c =
    let x : SFits w64 c.in_ok-before.before = search rules in
    let y : SFits w64 c.in_ok-operand.operand = search rules in
    let n : SFits w64 c.in_ok-after.after = search rules in
    subst (λ t. DoesAtOnce c.args.m.now (Update c.args.op c.args.place.now c.args.value.now t) c.args.place.now.ty (to_z w64 (of_z w64 c.in_ok-before.before)) c.write.new.m) (sym c.if-old.true)
    (subst (λ i. DoesAtOnce c.args.m.now (Update c.args.op c.args.place.now c.args.value.now true) c.args.place.now.ty i c.write.new.m) (sym (to_z-of_z w64 c.in_ok-before.before x))
    (update_so c.args.m.now c.write.new.m c.args.op c.args.place.now c.args.value.now c.in_ok-kind.kind c.in_ok-of.of c.in_ok-at.at c.in_ok-before.before c.in_ok-operand.operand c.in_ok-after.after _
    c.in_ok-kind.ensures c.in_ok-of.ensures c.in_ok-at.ensures c.in_ok-operand.ensures c.in_ok-before.ensures
    (subst (λ i. IsRenewed c.args.op c.in_ok-kind.kind c.in_ok-of.of c.in_ok-before.before i (Some c.in_ok-after.after)) (to_z-of_z w64 c.in_ok-operand.operand y)
    (subst (λ i. IsRenewed c.args.op c.in_ok-kind.kind c.in_ok-of.of i (to_z w64 (of_z w64 c.in_ok-operand.operand)) (Some c.in_ok-after.after)) (to_z-of_z w64 c.in_ok-before.before x) c.in_ok-after.ensures))
    (subst (λ i. IsWritten c.args.m.now c.args.place.now.ty c.in_ok-kind.kind c.in_ok-at.at i (Some c.in_ok-write.field-0) c.write.new.m) (to_z-of_z w64 c.in_ok-after.after n) c.in_ok-write.ensures)
    true))

pub returns-else-old : goal.returns-else-old
returns-else-old c =
    let x : SFits w64 c.in_ok-before.before = search rules in
    let y : SFits w64 c.in_ok-operand.operand = search rules in
    let n : SFits w64 c.in_ok-after.after = search rules in
    subst (λ t. DoesAtOnce c.args.m.now (Update c.args.op c.args.place.now c.args.value.now t) c.args.place.now.ty (to_z w64 (of_z w64 c.in_ok-after.after)) c.write.new.m) (sym c.if-old.false)
    (subst (λ i. DoesAtOnce c.args.m.now (Update c.args.op c.args.place.now c.args.value.now false) c.args.place.now.ty i c.write.new.m) (sym (to_z-of_z w64 c.in_ok-after.after n))
    (update_so c.args.m.now c.write.new.m c.args.op c.args.place.now c.args.value.now c.in_ok-kind.kind c.in_ok-of.of c.in_ok-at.at c.in_ok-before.before c.in_ok-operand.operand c.in_ok-after.after _
    c.in_ok-kind.ensures c.in_ok-of.ensures c.in_ok-at.ensures c.in_ok-operand.ensures c.in_ok-before.ensures
    (subst (λ i. IsRenewed c.args.op c.in_ok-kind.kind c.in_ok-of.of c.in_ok-before.before i (Some c.in_ok-after.after)) (to_z-of_z w64 c.in_ok-operand.operand y)
    (subst (λ i. IsRenewed c.args.op c.in_ok-kind.kind c.in_ok-of.of i (to_z w64 (of_z w64 c.in_ok-operand.operand)) (Some c.in_ok-after.after)) (to_z-of_z w64 c.in_ok-before.before x) c.in_ok-after.ensures))
    (subst (λ i. IsWritten c.args.m.now c.args.place.now.ty c.in_ok-kind.kind c.in_ok-at.at i (Some c.in_ok-write.field-0) c.write.new.m) (to_z-of_z w64 c.in_ok-after.after n) c.in_ok-write.ensures)
    false))
