use Rattle.std.proofs.Common.{◌∙◌, ap, refl, Err}
use Rattle.std.proofs.lemmas.Result.{err_from_is_err_and}
use Rattle.scope_rules.specs.FirstFault.{first_broken}
use Rattle.numbered_scopes.specs.Numbered.{numbered_fault, numbered_functions}
use Rattle.frozen_rules.specs.Scopes.{answer}
use Rattle.frozen_rules.proofs.Sequences.{loop_failed, loop_next, loop_ended}
use Rattle.frozen_rules.proofs.Loops.{functions_next, functions_end}
use Rattle.frozen_rules.proofs.functions.check_functions.Goals as goal

pub returns-in_err-check_function : goal.returns-in_err-check_function
unfolding numbered_fault
returns-in_err-check_function c =
    let q = err_from_is_err_and c.from_residual.result c.from_residual.ensures.1 in
    let t = c.args.typed.now in
    let h = loop_failed _ {a = tt} c.loop-f.invariant (functions_next t.structs t.functions c.as_slice-f-items.result.now c.loop-f.f-index _ c.loop-f-test.true c.f-item.is) c.in_err-check_function.ensures (q.1 ∙ ap Err q.2) in
    h.told ∙ ap (λ fs. answer (first_broken (numbered_functions t.structs t.functions fs)) tt) c.as_slice-f-items.ensures

pub loop-f-preserved : goal.loop-f-preserved
loop-f-preserved c =
    let t = c.args.typed.now in
    loop_next _ c.loop-f.invariant (functions_next t.structs t.functions c.as_slice-f-items.result.now c.loop-f.f-index _ c.loop-f-test.true c.f-item.is) c.in_ok-check_function.ensures

pub returns : goal.returns
unfolding numbered_fault
returns c =
    let t = c.args.typed.now in
    let h = loop_ended c.loop-f.invariant (functions_end t.structs t.functions c.as_slice-f-items.result.now c.loop-f.f-index c.loop-f-test.false) refl in
    h.told ∙ ap (λ fs. answer (first_broken (numbered_functions t.structs t.functions fs)) tt) c.as_slice-f-items.ensures
