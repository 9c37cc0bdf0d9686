use Rattle.std.proofs.Common.{refl, sym, ap, subst, rules}
use Rattle.std.proofs.lemmas.Result.{err_from_is_err_and}
use Rattle.written_types.specs.Known.{lookup}
use Rattle.visible_variables.specs.Scopes.{scope_of}
use Rattle.typed_statements.specs.Parts.{whole, all_of, always_within, for_within}
use Rattle.typed_statements.proofs.Walks.{ends_as, walks, halts, still, asked, leaves, breaks_within}
use Rattle.typed_statements.proofs.Nodes.{block_at, if_at, obliv_at, always_at, while_at, for_at, by_node, mark_fails, mark_done}
use Rattle.typed_statements.proofs.Loops.{Left, begins, goes_on, fails, ends}
use Rattle.typed_statements.proofs.Weight.{item_weight}
use Rattle.typed_statements.proofs.statements.+stmts.Goals as goal

-- ---- a statement

pub type_stmt-returns-in-Declare : goal.type_stmt-returns-in-Declare
type_stmt-returns-in-Declare t c = by_node (lookup c.args.known.now) _ _ _ c.in-Declare.is c.type_declaration.ensures

pub type_stmt-returns-in-Express : goal.type_stmt-returns-in-Express
type_stmt-returns-in-Express t c = by_node (lookup c.args.known.now) _ _ _ c.in-Express.is (rw c.get.ensures at c.type_express.ensures)

pub type_stmt-returns-in-Block : goal.type_stmt-returns-in-Block
type_stmt-returns-in-Block t c = by_node (lookup c.args.known.now) _ _ _ c.in-Block.is c.type_block.ensures

pub type_stmt-returns-in-If : goal.type_stmt-returns-in-If
type_stmt-returns-in-If t c = by_node (lookup c.args.known.now) _ _ _ c.in-If.is (rw (c.get-in-If.ensures, c.get-in-If-2.ensures) at c.type_if.ensures)

pub type_stmt-returns-in-OblivIf : goal.type_stmt-returns-in-OblivIf
type_stmt-returns-in-OblivIf t c = by_node (lookup c.args.known.now) _ _ _ c.in-OblivIf.is (rw (c.get-in-OblivIf.ensures, c.get-in-OblivIf-2.ensures) at c.type_obliv_if.ensures)

pub type_stmt-returns-in-Always : goal.type_stmt-returns-in-Always
type_stmt-returns-in-Always t c = by_node (lookup c.args.known.now) _ _ _ c.in-Always.is (rw c.get-in-Always.ensures at c.type_always.ensures)

pub type_stmt-returns-in-While : goal.type_stmt-returns-in-While
type_stmt-returns-in-While t c = by_node (lookup c.args.known.now) _ _ _ c.in-While.is (rw (c.get-in-While.ensures, c.get-in-While-2.ensures) at c.type_while.ensures)

pub type_stmt-returns-in-For : goal.type_stmt-returns-in-For
type_stmt-returns-in-For t c = by_node (lookup c.args.known.now) _ _ _ c.in-For.is (rw c.get-in-For.ensures at c.type_for.ensures)

pub type_stmt-returns-in-Return : goal.type_stmt-returns-in-Return
type_stmt-returns-in-Return t c = by_node (lookup c.args.known.now) _ _ _ c.in-Return.is c.type_return.ensures

pub type_stmt-returns-in_err-needs-in-Break : goal.type_stmt-returns-in_err-needs-in-Break
type_stmt-returns-in_err-needs-in-Break t c =
    let q = err_from_is_err_and c.from_residual.result c.from_residual.ensures.1 in
    by_node (lookup c.args.known.now) _ _ _ c.in-Break.is (halts _ _ (asked _ _ c.args.scope.now (λ _. refl) c.requires c.in_err-needs-in-Break.ensures) q.1 q.2)

pub type_stmt-returns-in_ok-needs-in-Break : goal.type_stmt-returns-in_ok-needs-in-Break
type_stmt-returns-in_ok-needs-in-Break t c =
    by_node (lookup c.args.known.now) _ _ _ c.in-Break.is (walks _ _ (asked _ _ c.args.scope.now (λ _. refl) c.requires c.in_ok-needs-in-Break.ensures) (still _ _ c.requires))

pub type_stmt-returns-in_err-needs-in-Continue : goal.type_stmt-returns-in_err-needs-in-Continue
type_stmt-returns-in_err-needs-in-Continue t c =
    let q = err_from_is_err_and c.from_residual-in_err-needs-in-Continue.result c.from_residual-in_err-needs-in-Continue.ensures.1 in
    by_node (lookup c.args.known.now) _ _ _ c.in-Continue.is (halts _ _ (asked _ _ c.args.scope.now (λ _. refl) c.requires c.in_err-needs-in-Continue.ensures) q.1 q.2)

pub type_stmt-returns-in_ok-needs-in-Continue : goal.type_stmt-returns-in_ok-needs-in-Continue
type_stmt-returns-in_ok-needs-in-Continue t c =
    by_node (lookup c.args.known.now) _ _ _ c.in-Continue.is (walks _ _ (asked _ _ c.args.scope.now (λ _. refl) c.requires c.in_ok-needs-in-Continue.ensures) (still _ _ c.requires))

pub type_stmt-returns-in-Empty : goal.type_stmt-returns-in-Empty
type_stmt-returns-in-Empty t c = by_node (lookup c.args.known.now) _ _ _ c.in-Empty.is (still _ _ c.requires)

-- ---- lists and parts

pub type_stmts-loop-s-init : goal.type_stmts-loop-s-init
type_stmts-loop-s-init t c =
    let judge = whole (lookup c.args.known.now) c.args.in_loop in
    subst (λ out. Left judge c.args.scope.now c.args.scope.now c.as_slice-s-items.result.now 0 out) (sym c.new-typed.ensures) (begins judge c.args.scope.now _ c.requires)

pub type_stmts-loop-s-preserved : goal.type_stmts-loop-s-preserved
type_stmts-loop-s-preserved t c =
    let judge = whole (lookup c.args.known.now) c.args.in_loop in
    goes_on judge _ c.loop-s.s-index _ _ c.loop-s.invariant c.s-item.is c.loop-s-test.true c.in_ok-each.ensures c.in_ok-push.ensures.ok

pub type_stmts-type_stmt-requires : goal.type_stmts-type_stmt-requires
type_stmts-type_stmt-requires t c =
    let r = item_weight c.as_slice-s-items.result.now c.loop-s.s-index c.s-item.result c.loop-s-test.true c.s-item.is in
    search (rules, r, c.as_slice-s-items.ensures, c.loop-s.invariant.kept.sound)

pub type_stmts-returns-in_err-each : goal.type_stmts-returns-in_err-each
type_stmts-returns-in_err-each t c =
    let q = err_from_is_err_and c.from_residual.result c.from_residual.ensures.1 in
    let g = lookup c.args.known.now in
    ends_as (ap (λ cs. all_of g c.args.in_loop cs (scope_of c.args.scope.now)) c.as_slice-s-items.ensures)
    (fails (whole g c.args.in_loop) _ c.loop-s.s-index _ _ c.loop-s.invariant c.s-item.is c.loop-s-test.true c.in_err-each.ensures q.1 q.2)

pub type_stmts-returns : goal.type_stmts-returns
type_stmts-returns t c =
    let g = lookup c.args.known.now in
    ends_as (ap (λ cs. all_of g c.args.in_loop cs (scope_of c.args.scope.now)) c.as_slice-s-items.ensures)
    (ends (whole g c.args.in_loop) _ _ _ c.loop-s.invariant c.loop-s-test.false)

pub type_part-returns-in_err-typed : goal.type_part-returns-in_err-typed
type_part-returns-in_err-typed t c =
    let q = err_from_is_err_and c.from_residual.result c.from_residual.ensures.1 in
    breaks_within (whole (lookup c.args.known.now) c.args.in_loop c.args.s.now) c.args.scope.now _ c.enter-around.ensures.entered c.in_err-typed.ensures q.1 q.2

pub type_part-returns : goal.type_part-returns
type_part-returns t c =
    rw c.in_ok-new.ensures (leaves (whole (lookup c.args.known.now) c.args.in_loop c.args.s.now) c.args.scope.now _ c.enter-around.ensures.entered c.enter-around.ensures.kept c.in_ok-typed.ensures
    c.in_ok-leave.ensures.sound (rw c.enter-around.ensures.around at c.in_ok-leave.ensures.left))

pub type_other-returns-in-None : goal.type_other-returns-in-None
type_other-returns-in-None t c = rw c.in-None.is (still _ _ c.requires)

pub type_other-returns-in_err-typed-in-Some : goal.type_other-returns-in_err-typed-in-Some
type_other-returns-in_err-typed-in-Some t c =
    let q = err_from_is_err_and c.from_residual.result c.from_residual.ensures.1 in
    rw c.in-Some.is (halts _ _ (rw c.get.ensures at c.in_err-typed-in-Some.ensures) q.1 q.2)

pub type_other-returns-in_ok-typed-in-Some : goal.type_other-returns-in_ok-typed-in-Some
type_other-returns-in_ok-typed-in-Some t c =
    rw c.in-Some.is (walks _ _ (rw c.get.ensures at c.in_ok-typed-in-Some.ensures) (still _ _ c.in_ok-typed-in-Some.ensures.ended.1.sound))

pub type_block-returns-in_err-list : goal.type_block-returns-in_err-list
type_block-returns-in_err-list t c =
    let q = err_from_is_err_and c.from_residual.result c.from_residual.ensures.1 in
    ends_as (block_at (lookup c.args.known.now) c.args.in_loop c.args.spot _ c.args.list.now)
    (halts _ _ {mid = c.args.scope.now} (breaks_within (all_of (lookup c.args.known.now) c.args.in_loop c.args.list.now) c.args.scope.now _ c.enter-around.ensures.entered c.in_err-list.ensures refl refl) q.1 q.2)

pub type_block-returns : goal.type_block-returns
type_block-returns t c =
    ends_as (block_at (lookup c.args.known.now) c.args.in_loop c.args.spot _ c.args.list.now)
    (walks _ _ (leaves (all_of (lookup c.args.known.now) c.args.in_loop c.args.list.now) c.args.scope.now _ c.enter-around.ensures.entered c.enter-around.ensures.kept c.in_ok-list.ensures
    c.in_ok-leave.ensures.sound (rw c.enter-around.ensures.around at c.in_ok-leave.ensures.left)) (still _ _ c.in_ok-leave.ensures.sound))

-- ---- `if`

pub type_if-returns-in_err-cond : goal.type_if-returns-in_err-cond
type_if-returns-in_err-cond t c =
    let q = err_from_is_err_and c.from_residual.result c.from_residual.ensures.1 in
    ends_as (if_at (lookup c.args.known.now) c.args.in_loop c.args.spot _ c.args.cond.now c.args.yes.now c.args.no.now) (halts _ _ c.in_err-cond.ensures q.1 q.2)

pub type_if-returns-in_err-need_public : goal.type_if-returns-in_err-need_public
type_if-returns-in_err-need_public t c =
    let q = err_from_is_err_and c.from_residual-in_err-need_public.result c.from_residual-in_err-need_public.ensures.1 in
    ends_as (if_at (lookup c.args.known.now) c.args.in_loop c.args.spot _ c.args.cond.now c.args.yes.now c.args.no.now)
    (walks _ _ c.in_ok-cond.ensures (halts _ _ (asked _ _ c.args.scope.now (λ _. refl) c.requires c.in_err-need_public.ensures) q.1 q.2))

pub type_if-returns-in_err-yes : goal.type_if-returns-in_err-yes
type_if-returns-in_err-yes t c =
    let q = err_from_is_err_and c.from_residual-in_err-yes.result c.from_residual-in_err-yes.ensures.1 in
    ends_as (if_at (lookup c.args.known.now) c.args.in_loop c.args.spot _ c.args.cond.now c.args.yes.now c.args.no.now)
    (walks _ _ c.in_ok-cond.ensures (walks _ _ (asked _ _ c.args.scope.now (λ _. refl) c.requires c.in_ok-need_public.ensures) (halts _ _ c.in_err-yes.ensures q.1 q.2)))

pub type_if-returns-in_err-no : goal.type_if-returns-in_err-no
type_if-returns-in_err-no t c =
    let q = err_from_is_err_and c.from_residual-in_err-no.result c.from_residual-in_err-no.ensures.1 in
    ends_as (if_at (lookup c.args.known.now) c.args.in_loop c.args.spot _ c.args.cond.now c.args.yes.now c.args.no.now)
    (walks _ _ c.in_ok-cond.ensures (walks _ _ (asked _ _ c.args.scope.now (λ _. refl) c.requires c.in_ok-need_public.ensures) (walks _ _ c.in_ok-yes.ensures (halts _ _ c.in_err-no.ensures q.1 q.2))))

pub type_if-returns : goal.type_if-returns
type_if-returns t c =
    ends_as (if_at (lookup c.args.known.now) c.args.in_loop c.args.spot _ c.args.cond.now c.args.yes.now c.args.no.now)
    (walks _ _ c.in_ok-cond.ensures (walks _ _ (asked _ _ c.args.scope.now (λ _. refl) c.requires c.in_ok-need_public.ensures)
    (walks _ _ c.in_ok-yes.ensures (walks _ _ c.in_ok-no.ensures (still _ _ c.in_ok-no.ensures.ended.1.sound)))))

-- ---- `obliv if`

pub type_obliv_if-returns-in_err-cond : goal.type_obliv_if-returns-in_err-cond
type_obliv_if-returns-in_err-cond t c =
    let q = err_from_is_err_and c.from_residual.result c.from_residual.ensures.1 in
    ends_as (obliv_at (lookup c.args.known.now) c.args.in_loop c.args.spot _ c.args.cond.now c.args.yes.now c.args.no.now) (halts _ _ c.in_err-cond.ensures q.1 q.2)

pub type_obliv_if-returns-in_err-need_integer : goal.type_obliv_if-returns-in_err-need_integer
type_obliv_if-returns-in_err-need_integer t c =
    let q = err_from_is_err_and c.from_residual-in_err-need_integer.result c.from_residual-in_err-need_integer.ensures.1 in
    ends_as (obliv_at (lookup c.args.known.now) c.args.in_loop c.args.spot _ c.args.cond.now c.args.yes.now c.args.no.now)
    (walks _ _ c.in_ok-cond.ensures (halts _ _ (asked _ _ c.args.scope.now (λ _. refl) c.requires c.in_err-need_integer.ensures) q.1 q.2))

pub type_obliv_if-returns-in_err-yes : goal.type_obliv_if-returns-in_err-yes
type_obliv_if-returns-in_err-yes t c =
    let q = err_from_is_err_and c.from_residual-in_err-yes.result c.from_residual-in_err-yes.ensures.1 in
    ends_as (obliv_at (lookup c.args.known.now) c.args.in_loop c.args.spot _ c.args.cond.now c.args.yes.now c.args.no.now)
    (walks _ _ c.in_ok-cond.ensures (walks _ _ (asked _ _ c.args.scope.now (λ _. refl) c.requires c.in_ok-need_integer.ensures) (halts _ _ c.in_err-yes.ensures q.1 q.2)))

pub type_obliv_if-returns-in_err-no : goal.type_obliv_if-returns-in_err-no
type_obliv_if-returns-in_err-no t c =
    let q = err_from_is_err_and c.from_residual-in_err-no.result c.from_residual-in_err-no.ensures.1 in
    ends_as (obliv_at (lookup c.args.known.now) c.args.in_loop c.args.spot _ c.args.cond.now c.args.yes.now c.args.no.now)
    (walks _ _ c.in_ok-cond.ensures (walks _ _ (asked _ _ c.args.scope.now (λ _. refl) c.requires c.in_ok-need_integer.ensures) (walks _ _ c.in_ok-yes.ensures (halts _ _ c.in_err-no.ensures q.1 q.2))))

pub type_obliv_if-returns : goal.type_obliv_if-returns
type_obliv_if-returns t c =
    ends_as (obliv_at (lookup c.args.known.now) c.args.in_loop c.args.spot _ c.args.cond.now c.args.yes.now c.args.no.now)
    (rw c.in_ok-cond-2.ensures (walks _ _ c.in_ok-cond.ensures (walks _ _ (asked _ _ c.args.scope.now (λ _. refl) c.requires c.in_ok-need_integer.ensures)
    (walks _ _ c.in_ok-yes.ensures (walks _ _ c.in_ok-no.ensures (still _ _ c.in_ok-no.ensures.ended.1.sound))))))

-- ---- `while`

pub type_while-returns-in_err-cond : goal.type_while-returns-in_err-cond
type_while-returns-in_err-cond t c =
    let q = err_from_is_err_and c.from_residual.result c.from_residual.ensures.1 in
    ends_as (while_at (lookup c.args.known.now) c.args.in_loop c.args.spot _ c.args.cond.now c.args.body.now) (halts _ _ c.in_err-cond.ensures q.1 q.2)

pub type_while-returns-in_err-need_public : goal.type_while-returns-in_err-need_public
type_while-returns-in_err-need_public t c =
    let q = err_from_is_err_and c.from_residual-in_err-need_public.result c.from_residual-in_err-need_public.ensures.1 in
    ends_as (while_at (lookup c.args.known.now) c.args.in_loop c.args.spot _ c.args.cond.now c.args.body.now)
    (walks _ _ c.in_ok-cond.ensures (halts _ _ (asked _ _ c.args.scope.now (λ _. refl) c.requires c.in_err-need_public.ensures) q.1 q.2))

pub type_while-returns-in_err-body : goal.type_while-returns-in_err-body
type_while-returns-in_err-body t c =
    let q = err_from_is_err_and c.from_residual-in_err-body.result c.from_residual-in_err-body.ensures.1 in
    ends_as (while_at (lookup c.args.known.now) c.args.in_loop c.args.spot _ c.args.cond.now c.args.body.now)
    (walks _ _ c.in_ok-cond.ensures (walks _ _ (asked _ _ c.args.scope.now (λ _. refl) c.requires c.in_ok-need_public.ensures) (halts _ _ c.in_err-body.ensures q.1 q.2)))

pub type_while-returns : goal.type_while-returns
type_while-returns t c =
    ends_as (while_at (lookup c.args.known.now) c.args.in_loop c.args.spot _ c.args.cond.now c.args.body.now)
    (walks _ _ c.in_ok-cond.ensures (walks _ _ (asked _ _ c.args.scope.now (λ _. refl) c.requires c.in_ok-need_public.ensures)
    (walks _ _ c.in_ok-body.ensures (still _ _ c.in_ok-body.ensures.ended.1.sound))))

-- ---- `~obliv`

pub type_marked-returns-in_err-body : goal.type_marked-returns-in_err-body
type_marked-returns-in_err-body t c =
    let q = err_from_is_err_and c.from_residual-in_err-body.result c.from_residual-in_err-body.ensures.1 in
    mark_fails (lookup c.args.known.now) c.args.in_loop c.args.spot c.args.name.now c.args.body.now c.in_ok-add_mark.ensures.added c.in_ok-add_mark.ensures.kept c.in_err-body.ensures q.1 q.2

pub type_marked-returns : goal.type_marked-returns
type_marked-returns t c =
    mark_done (lookup c.args.known.now) c.args.in_loop c.args.spot c.args.name.now c.args.body.now c.len-slot.ensures c.in_ok-add_mark.ensures.added c.in_ok-add_mark.ensures.kept c.in_ok-body.ensures

pub type_always-returns-in_err-typed : goal.type_always-returns-in_err-typed
type_always-returns-in_err-typed t c =
    let q = err_from_is_err_and c.from_residual.result c.from_residual.ensures.1 in
    ends_as (always_at (lookup c.args.known.now) c.args.in_loop c.args.spot _ c.args.name.now c.args.body.now)
    (breaks_within (always_within (lookup c.args.known.now) c.args.in_loop c.args.spot c.args.name.now c.args.body.now) c.args.scope.now _ c.enter-around.ensures.entered c.in_err-typed.ensures q.1 q.2)

pub type_always-returns : goal.type_always-returns
type_always-returns t c =
    ends_as (always_at (lookup c.args.known.now) c.args.in_loop c.args.spot _ c.args.name.now c.args.body.now)
    (leaves (always_within (lookup c.args.known.now) c.args.in_loop c.args.spot c.args.name.now c.args.body.now) c.args.scope.now _ c.enter-around.ensures.entered c.enter-around.ensures.kept c.in_ok-typed.ensures
    c.in_ok-leave.ensures.sound (rw c.enter-around.ensures.around at c.in_ok-leave.ensures.left))

-- ---- `for`

pub type_headed-returns-in_err-init : goal.type_headed-returns-in_err-init
type_headed-returns-in_err-init t c =
    let q = err_from_is_err_and c.from_residual.result c.from_residual.ensures.1 in
    halts _ _ c.in_err-init.ensures q.1 q.2

pub type_headed-returns-in_err-cond : goal.type_headed-returns-in_err-cond
type_headed-returns-in_err-cond t c =
    let q = err_from_is_err_and c.from_residual-in_err-cond.result c.from_residual-in_err-cond.ensures.1 in
    walks _ _ c.in_ok-init.ensures (halts _ _ c.in_err-cond.ensures q.1 q.2)

pub type_headed-returns-in_err-advance : goal.type_headed-returns-in_err-advance
type_headed-returns-in_err-advance t c =
    let q = err_from_is_err_and c.from_residual-in_err-advance.result c.from_residual-in_err-advance.ensures.1 in
    walks _ _ c.in_ok-init.ensures (walks _ _ c.in_ok-cond.ensures (halts _ _ c.in_err-advance.ensures q.1 q.2))

pub type_headed-returns-in_err-need_condition : goal.type_headed-returns-in_err-need_condition
type_headed-returns-in_err-need_condition t c =
    let q = err_from_is_err_and c.from_residual-in_err-need_condition.result c.from_residual-in_err-need_condition.ensures.1 in
    walks _ _ c.in_ok-init.ensures (walks _ _ c.in_ok-cond.ensures (walks _ _ c.in_ok-advance.ensures
    (halts _ _ (asked _ _ _ (λ _. refl) c.in_ok-init.ensures.ended.1.sound c.in_err-need_condition.ensures) q.1 q.2)))

pub type_headed-returns-in_err-body : goal.type_headed-returns-in_err-body
type_headed-returns-in_err-body t c =
    let q = err_from_is_err_and c.from_residual-in_err-body.result c.from_residual-in_err-body.ensures.1 in
    walks _ _ c.in_ok-init.ensures (walks _ _ c.in_ok-cond.ensures (walks _ _ c.in_ok-advance.ensures
    (walks _ _ (asked _ _ _ (λ _. refl) c.in_ok-init.ensures.ended.1.sound c.in_ok-need_condition.ensures) (halts _ _ c.in_err-body.ensures q.1 q.2))))

pub type_headed-returns : goal.type_headed-returns
type_headed-returns t c =
    walks _ _ c.in_ok-init.ensures (walks _ _ c.in_ok-cond.ensures (walks _ _ c.in_ok-advance.ensures
    (walks _ _ (asked _ _ _ (λ _. refl) c.in_ok-init.ensures.ended.1.sound c.in_ok-need_condition.ensures) (walks _ _ c.in_ok-body.ensures (still _ _ c.in_ok-body.ensures.ended.1.sound)))))

pub type_for-returns-in_err-typed : goal.type_for-returns-in_err-typed
type_for-returns-in_err-typed t c =
    let q = err_from_is_err_and c.from_residual.result c.from_residual.ensures.1 in
    ends_as (for_at (lookup c.args.known.now) c.args.in_loop c.args.spot _ c.args.init.now c.args.cond.now c.args.advance.now c.args.body.now)
    (breaks_within (for_within (lookup c.args.known.now) c.args.spot c.args.init.now c.args.cond.now c.args.advance.now c.args.body.now) c.args.scope.now _ c.enter-around.ensures.entered c.in_err-typed.ensures q.1 q.2)

pub type_for-returns : goal.type_for-returns
type_for-returns t c =
    ends_as (for_at (lookup c.args.known.now) c.args.in_loop c.args.spot _ c.args.init.now c.args.cond.now c.args.advance.now c.args.body.now)
    (leaves (for_within (lookup c.args.known.now) c.args.spot c.args.init.now c.args.cond.now c.args.advance.now c.args.body.now) c.args.scope.now _ c.enter-around.ensures.entered c.enter-around.ensures.kept c.in_ok-typed.ensures
    c.in_ok-leave.ensures.sound (rw c.enter-around.ensures.around at c.in_ok-leave.ensures.left))
