use Rattle.std.proofs.Common.{◌<◌, ◌+◌, sym, take, arith}
use Rattle.std.proofs.lemmas.Grind.{common_steps}
use Rattle.command_grammar.specs.Forms.{decimal_value}
use Rattle.command_grammar.proofs.Numbers.{too_much}
use Rattle.command_grammar.proofs.form.number_to.Goals as goal

pub returns-then-next-from : goal.returns-then-next-from
returns-then-next-from c =
    let h : c.args.most < decimal_value (take (c.loop-digit.digit-index + 1) c.args.digits.now) = grind (arith, common_steps) in
    sym (too_much c.args.most c.args.digits.now (c.loop-digit.digit-index + 1) h)
