use Rattle.std.proofs.Common.{◌≡◌, Bool, Ok, sym, ap, ◌∙◌}
use Rattle.std.proofs.lemmas.Result.{err_from_is_err_and}
use Rattle.oc_cells.specs.declared.types.CType.{CType}
use Rattle.oc_cells.specs.declared.types.SlotType.{SlotType}
use Rattle.type_rules.specs.Judging.{Judged}
use Rattle.type_steps.proofs.Steps.{go, stop, fine}
use Rattle.written_types.proofs.headings.param_of.Goals as goal

pub returns-in_err-ty : goal.returns-in_err-ty
returns-in_err-ty c =
    let q = err_from_is_err_and c.from_residual.result c.from_residual.ensures.1 in
    stop _ _ c.in_err-ty.ensures.typed q.1 q.2

pub returns-in_err-need_param : goal.returns-in_err-need_param
returns-in_err-need_param c =
    let q = err_from_is_err_and c.from_residual-in_err-need_param.result c.from_residual-in_err-need_param.ensures.1 in
    go _ _ c.in_ok-ty.ensures.typed (stop _ _ c.in_err-need_param.ensures q.1 q.2)

slot_so : (t u : CType) (f g : Bool) → u ≡ t → g ≡ f → ◌≡◌ {A = Judged SlotType} (Ok (record { ty = t; frozen = f })) (Ok (record { ty = u; frozen = g }))
slot_so t u f g p q = ap (λ x. Ok (record { ty = x; frozen = f })) (sym p) ∙ ap (λ x. Ok (record { ty = u; frozen = x })) (sym q)

pub returns : goal.returns
returns c =
    go _ _ c.in_ok-ty.ensures.typed (go _ _ c.in_ok-need_param.ensures (fine (slot_so _ _ _ _ c.in_ok-ty-2.ensures c.is_frozen_place-frozen.ensures)))
