use Rattle.std.proofs.Common.{sym, ◌∙◌}
use Rattle.oc_lexer.proofs.Cuts.{suffix_with}
use Rattle.oc_lexer.proofs.numbers.suffix_of.Goals as goal

pub returns-else-is_empty : goal.returns-else-is_empty
returns-else-is_empty c = c.find_suffix.ensures ∙ suffix_with c.args.text.now c.split_number.result.0.now c.split_number.result.1.now c.split_number.ensures.digits c.split_number.ensures.suffix (sym c.is_empty.ensures ∙ c.if-is_empty.false)
