use Rattle.std.proofs.Common.{sym}
use Rattle.std.proofs.lemmas.Result.{err_from_is_err_and}
use Rattle.typed_statements.proofs.Walks.{told, refused, walks, halts, still, from_kept}
use Rattle.typed_statements.proofs.declarations.type_declared.Goals as goal

pub returns-in_err-ty : goal.returns-in_err-ty
returns-in_err-ty c =
    let q = err_from_is_err_and c.from_residual.result c.from_residual.ensures.1 in
    refused _ _ c.in_err-ty.ensures q.1 q.2

pub returns-in_err-need_free : goal.returns-in_err-need_free
returns-in_err-need_free c =
    let q = err_from_is_err_and c.from_residual-in_err-need_free.result c.from_residual-in_err-need_free.ensures.1 in
    told _ _ c.in_ok-ty.ensures (refused _ _ c.in_err-need_free.ensures q.1 q.2)

pub returns-in_err-init : goal.returns-in_err-init
returns-in_err-init c =
    let q = err_from_is_err_and c.from_residual-in_err-init.result c.from_residual-in_err-init.ensures.1 in
    told _ _ c.in_ok-ty.ensures (told _ _ c.in_ok-need_free.ensures
    (rw (sym c.in_ok-add_field.ensures.added) (from_kept _ _ _ c.in_ok-add_field.ensures.kept (halts _ _ c.in_err-init.ensures q.1 q.2))))

pub returns : goal.returns
returns c =
    told _ _ c.in_ok-ty.ensures (told _ _ c.in_ok-need_free.ensures
    (rw (sym c.in_ok-add_field.ensures.added, c.len-slot.ensures) (from_kept _ _ _ c.in_ok-add_field.ensures.kept (walks _ _ c.in_ok-init.ensures (still _ _ c.in_ok-add_field.ensures.kept.sound)))))
