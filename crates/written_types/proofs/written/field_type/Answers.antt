use Rattle.std.proofs.Common.{Ok, sym, ap}
use Rattle.std.proofs.lemmas.Result.{err_from_is_err_and}
use Rattle.type_steps.proofs.Steps.{go, stop, fine}
use Rattle.written_types.proofs.written.field_type.Goals as goal

pub returns-in_err-base : goal.returns-in_err-base
returns-in_err-base c =
    let q = err_from_is_err_and c.from_residual.result c.from_residual.ensures.1 in
    stop _ _ c.in_err-base.ensures.typed q.1 q.2

pub returns-in_err-need_room : goal.returns-in_err-need_room
returns-in_err-need_room c =
    let q = err_from_is_err_and c.from_residual-in_err-need_room.result c.from_residual-in_err-need_room.ensures.1 in
    go _ _ c.in_ok-base.ensures.typed (stop _ _ c.in_err-need_room.ensures.room q.1 q.2)

pub returns : goal.returns
returns c = go _ _ c.in_ok-base.ensures.typed (go _ _ c.in_ok-need_room.ensures.room (fine (ap (λ t. Ok t) (sym c.in_ok-declared.ensures))))
