use Rattle.std.proofs.Common.{Some, None, sym, ap, ◌∙◌, arith, length}
use Rattle.oc_lexer.specs.Bytes.{is_space, after}
use Rattle.oc_lexer.proofs.Runs.{after_within}
use Rattle.oc_lexer.proofs.Cuts.{include_with}
use Rattle.oc_lexer.proofs.directives.include_length.Goals as goal

pub returns-in_err-length : goal.returns-in_err-length
returns-in_err-length c = record {
  value = c.from_residual.ensures ∙ include_with c.args.text.now c.split_run.result.1.now None (sym c.starts_with.ensures.value ∙ c.if-not-starts_with.false) (c.split_run.ensures.after ∙ ap (after is_space) c.split_at.ensures.back) c.in_err-length.ensures.value;
}

pub overflow_sub-result : goal.overflow_sub-result
overflow_sub-result c = let a = ap length c.split_run.ensures.after in omega (arith, a, after_within is_space c.split_at.result.1.now, c.split_at.ensures.back_len)

pub returns : goal.returns
returns c = record {
  value = include_with c.args.text.now c.split_run.result.1.now (Some c.in_ok-length.length) (sym c.starts_with.ensures.value ∙ c.if-not-starts_with.false) (c.split_run.ensures.after ∙ ap (after is_space) c.split_at.ensures.back) c.in_ok-length.ensures.value;
}
