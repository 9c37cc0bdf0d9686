use Rattle.std.proofs.Common.{◌≡◌, ℕ, List, Bool, Ok, sym, ap, ◌∙◌}
use Rattle.std.proofs.lemmas.Result.{err_from_is_err_and}
use Rattle.oc_cells.specs.declared.types.CType.{CType}
use Rattle.oc_cells.specs.declared.types.SlotType.{SlotType}
use Rattle.type_rules.specs.declared.judging.Heading.{Heading}
use Rattle.type_rules.specs.Judging.{Judged}
use Rattle.type_steps.proofs.Steps.{go, stop, fine}
use Rattle.written_types.proofs.headings.heading.Goals as goal

pub returns-in_err-result : goal.returns-in_err-result
returns-in_err-result c =
    let q = err_from_is_err_and c.from_residual.result c.from_residual.ensures.1 in
    stop _ _ c.in_err-result.ensures q.1 q.2

pub returns-in_err-params : goal.returns-in_err-params
returns-in_err-params c =
    let q = err_from_is_err_and c.from_residual-in_err-params.result c.from_residual-in_err-params.ensures.1 in
    go _ _ c.in_ok-result.ensures (stop _ _ c.in_err-params.ensures q.1 q.2)

heading_so : (n m : List ℕ) (t : CType) (ps : List SlotType) (o b d : Bool) → m ≡ n → d ≡ b → ◌≡◌ {A = Judged Heading} (Ok (record { name = n; result = t; params = ps; obliv = o; has_body = b })) (Ok (record { name = m; result = t; params = ps; obliv = o; has_body = d }))
heading_so n m t ps o b d p q =
    ap (λ x. Ok (record { name = x; result = t; params = ps; obliv = o; has_body = b })) (sym p) ∙ ap (λ x. Ok (record { name = m; result = t; params = ps; obliv = o; has_body = x })) (sym q)

pub returns : goal.returns
returns c = go _ _ c.in_ok-result.ensures (go _ _ c.in_ok-params.ensures (fine (heading_so _ _ _ _ _ _ _ c.in_ok-share.ensures c.is_some.ensures)))
