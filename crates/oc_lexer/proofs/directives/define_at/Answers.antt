use Rattle.std.proofs.Common.{Some, None, sym, ap, ◌∙◌, arith, length}
use Rattle.std.specs.Prelude.{option_map}
use Rattle.oc_lexer.specs.declared.bytes.ByteClass.TheVariants as class
use Rattle.oc_lexer.specs.Bytes.{is_in, is_space, is_name_byte}
use Rattle.oc_lexer.proofs.Runs.{after_within}
use Rattle.oc_lexer.proofs.Cuts.{define_fails, define_goes}
use Rattle.oc_lexer.proofs.directives.define_at.Goals as goal

pub returns-then-not-is_definition : goal.returns-then-not-is_definition
returns-then-not-is_definition c = record {
  value = define_fails c.args.text.now c.split_run.result.0.now c.split_run-2.result.0.now c.split_run-3.result.0.now c.split_run-4.result.0.now c.split_run-4.result.1.now (record {
    body = c.split_at.result.1.now;
    first = c.split_run.result.1.now;
    middle = c.split_run-2.result.1.now;
    last = c.split_run-3.result.1.now;
    starts = sym c.starts_with.ensures.value ∙ c.if-not-starts_with.false;
    body_is = c.split_at.ensures.back;
    gap_is = c.split_run.ensures.run;
    first_is = c.split_run.ensures.after;
    name_is = c.split_run-2.ensures.run;
    middle_is = c.split_run-2.ensures.after;
    second_is = c.split_run-3.ensures.run;
    last_is = c.split_run-3.ensures.after;
    number_is = c.split_run-4.ensures.run;
    rest_is = c.split_run-4.ensures.after;
  }) (sym c.is_definition.ensures ∙ c.if-not-is_definition.true);
}

pub returns-in_err-literal : goal.returns-in_err-literal
returns-in_err-literal c = record {
  value = ap (option_map _) c.from_residual.ensures ∙ define_goes c.args.text.now c.split_run.result.0.now c.split_run-2.result.0.now c.split_run-3.result.0.now c.split_run-4.result.0.now c.split_run-4.result.1.now None (record {
    body = c.split_at.result.1.now;
    first = c.split_run.result.1.now;
    middle = c.split_run-2.result.1.now;
    last = c.split_run-3.result.1.now;
    starts = sym c.starts_with.ensures.value ∙ c.if-not-starts_with.false;
    body_is = c.split_at.ensures.back;
    gap_is = c.split_run.ensures.run;
    first_is = c.split_run.ensures.after;
    name_is = c.split_run-2.ensures.run;
    middle_is = c.split_run-2.ensures.after;
    second_is = c.split_run-3.ensures.run;
    last_is = c.split_run-3.ensures.after;
    number_is = c.split_run-4.ensures.run;
    rest_is = c.split_run-4.ensures.after;
  }) (sym c.is_definition.ensures ∙ c.if-not-is_definition.false) c.in_err-literal.ensures;
}

pub overflow_sub-result : goal.overflow_sub-result
overflow_sub-result c =
    let a = ap length c.split_run.ensures.after in
    let b = ap length c.split_run-2.ensures.after in
    let d = ap length c.split_run-3.ensures.after in
    let e = ap length c.split_run-4.ensures.after in
    omega (arith, a, b, d, e, after_within is_space c.split_at.result.1.now, after_within is_name_byte c.split_run.result.1.now, after_within is_space c.split_run-2.result.1.now, after_within (is_in class.Number) c.split_run-3.result.1.now, c.split_at.ensures.back_len)

pub returns : goal.returns
returns c = record {
  value = define_goes c.args.text.now c.split_run.result.0.now c.split_run-2.result.0.now c.split_run-3.result.0.now c.split_run-4.result.0.now c.split_run-4.result.1.now (Some c.in_ok-literal.literal) (record {
    body = c.split_at.result.1.now;
    first = c.split_run.result.1.now;
    middle = c.split_run-2.result.1.now;
    last = c.split_run-3.result.1.now;
    starts = sym c.starts_with.ensures.value ∙ c.if-not-starts_with.false;
    body_is = c.split_at.ensures.back;
    gap_is = c.split_run.ensures.run;
    first_is = c.split_run.ensures.after;
    name_is = c.split_run-2.ensures.run;
    middle_is = c.split_run-2.ensures.after;
    second_is = c.split_run-3.ensures.run;
    last_is = c.split_run-3.ensures.after;
    number_is = c.split_run-4.ensures.run;
    rest_is = c.split_run-4.ensures.after;
  }) (sym c.is_definition.ensures ∙ c.if-not-is_definition.false) c.in_ok-literal.ensures;
}
