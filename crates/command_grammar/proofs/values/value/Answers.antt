use Rattle.std.proofs.Common.{◌+◌, [], Some, drop, get_or, sym, ap, ◌∙◌, arith}
use Rattle.std.specs.Prelude.{if◌then◌else◌, string_bytes}
use Rattle.std.proofs.lemmas.List.{length-map}
use Rattle.command_grammar.specs.Grammar.{texts}
use Rattle.command_grammar.proofs.Pairs.{text_at}
use Rattle.command_grammar.specs.Reading.{value_after}
use Rattle.command_grammar.proofs.Answering.{value_end, value_step}
use Rattle.command_grammar.proofs.values.value.Goals as goal

pub returns-then-eq : goal.returns-then-eq
returns-then-eq c =
    let ws = c.args.pairs.now in
    let at = c.loop-at.at in
    let step = value_step ws at c.index-pairs-at.result c.as_str.result.now c.args.name.now c.eq.result (value_after (texts ws) c.args.name.now) (omega arith) c.index-pairs-at.is c.as_str.ensures.value c.eq.ensures c.loop-at.invariant.left in
    let value = c.as_str-then-eq.ensures.value ∙ sym (text_at ws (at + 1) c.index-pairs-at-then-eq.result (omega arith) c.index-pairs-at-then-eq.is) in
    ap (λ v. Some v) value ∙ sym (step ∙ ap (λ t. if t then Some (get_or (texts ws) (at + 1) []) else value_after (drop (at + 2) (texts ws)) c.args.name.now) c.if-eq.true)

pub loop-at-preserved : goal.loop-at-preserved
loop-at-preserved c =
    let ws = c.args.pairs.now in
    let at = c.loop-at.at in
    record {
      within = omega arith;
      left = value_step ws at c.index-pairs-at.result c.as_str.result.now c.args.name.now c.eq.result (value_after (texts ws) c.args.name.now) (omega arith) c.index-pairs-at.is c.as_str.ensures.value c.eq.ensures c.loop-at.invariant.left
          ∙ ap (λ t. if t then Some (get_or (texts ws) (at + 1) []) else value_after (drop (at + 2) (texts ws)) c.args.name.now) c.if-eq.false;
    }

pub returns : goal.returns
returns c =
    let size = length-map c.args.pairs.now string_bytes in
    sym (c.loop-at.invariant.left ∙ value_end (texts c.args.pairs.now) c.loop-at.at c.args.name.now (omega (arith, size, c.loop-at-test.false)))
