use Rattle.std.proofs.Common.{sym, ap, ◌∙◌, arith}
use Rattle.std.specs.Prelude.{string_bytes}
use Rattle.std.proofs.lemmas.List.{length-map}
use Rattle.command_grammar.specs.Grammar.{texts, has}
use Rattle.command_grammar.specs.Views.{command_options_of}
use Rattle.command_grammar.proofs.Pairs.{pair_step, no_pair}
use Rattle.command_grammar.proofs.scanner.is_taken.Goals as goal

pub returns-then-takes : goal.returns-then-takes
returns-then-takes c =
    sym (pair_step (command_options_of c.args.options.now) c.args.pairs.now c.loop-at.at c.args.slot c.index-pairs-at.result c.index-pairs-at-in-loop-at.result c.as_str.result.now c.as_str-in-loop-at.result.now _ _ (omega arith) c.index-pairs-at.is c.index-pairs-at-in-loop-at.is c.as_str.ensures.value c.as_str-in-loop-at.ensures.value (sym c.if-takes.true ∙ c.takes.ensures) c.loop-at.invariant.left)

pub loop-at-preserved : goal.loop-at-preserved
loop-at-preserved c = record {
  within = omega arith;
  left = pair_step (command_options_of c.args.options.now) c.args.pairs.now c.loop-at.at c.args.slot c.index-pairs-at.result c.index-pairs-at-in-loop-at.result c.as_str.result.now c.as_str-in-loop-at.result.now _ _ (omega arith) c.index-pairs-at.is c.index-pairs-at-in-loop-at.is c.as_str.ensures.value c.as_str-in-loop-at.ensures.value (sym c.if-takes.false ∙ c.takes.ensures) c.loop-at.invariant.left;
}

pub returns : goal.returns
returns c =
    let ws = texts c.args.pairs.now in
    let size = length-map c.args.pairs.now string_bytes in
    sym (c.loop-at.invariant.left ∙ ap (λ ps. has ps c.args.slot) (no_pair (command_options_of c.args.options.now) ws c.loop-at.at (omega (arith, size, c.loop-at-test.false))))
