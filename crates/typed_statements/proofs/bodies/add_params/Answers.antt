use Rattle.std.proofs.Common.{◌+◌, sym, ap, ◌∙◌}
use Rattle.std.specs.Prelude.{slice_get}
use Rattle.type_rules.specs.ProgramRules.{with_params}
use Rattle.visible_variables.specs.Scopes.{scope_of}
use Rattle.typed_statements.proofs.Params.{none_left, one_taken, no_more}
use Rattle.typed_statements.proofs.bodies.add_params.Goals as goal

pub loop-param-preserved : goal.loop-param-preserved
loop-param-preserved c =
    let i = c.loop-param.invariant in
    record {
      sound = c.in_ok-add-in-Some.ensures.sound;
      index = ap (λ n. n + 1) i.index;
      added =
          one_taken c.as_slice-param-items.result.now c.args.slots.now c.loop-param.param-index _ _ _ c.param-item.is c.loop-param-test.true (sym (ap (λ n. slice_get c.args.slots.now n) i.index) ∙ sym c.in-Some.ensures.value)
          (c.in_ok-add-in-Some.ensures.added) c.as_bytes.ensures c.in_ok-share_type-in-Some.ensures i.added;
    }

pub returns-in-None-clause-added : goal.returns-in-None-clause-added
returns-in-None-clause-added c =
    let i = c.loop-param.invariant in
    none_left c.as_slice-param-items.result.now c.args.slots.now c.loop-param.param-index _ _ (sym (ap (λ n. slice_get c.args.slots.now n) i.index) ∙ sym c.in-None.ensures.value) i.added ∙ ap (λ ps. with_params ps c.args.slots.now (scope_of c.args.scope.now)) c.as_slice-param-items.ensures

pub returns-clause-added : goal.returns-clause-added
returns-clause-added c =
    no_more c.as_slice-param-items.result.now c.args.slots.now c.loop-param.param-index _ _ c.loop-param-test.false c.loop-param.invariant.added ∙ ap (λ ps. with_params ps c.args.slots.now (scope_of c.args.scope.now)) c.as_slice-param-items.ensures
