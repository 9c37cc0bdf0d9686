use Rattle.std.proofs.Common.{◌+◌, ◌<◌, [], length, refl, ◌∙◌, subst, arith}
use Rattle.std.specs.Prelude.{string_bytes}
use Rattle.std.proofs.lemmas.List.{length-map}
use Rattle.command_grammar.specs.Grammar.{Usage, texts}
use Rattle.command_grammar.specs.Scanning.{operands_in}
use Rattle.command_grammar.specs.Views.{command_of}
use Rattle.command_grammar.proofs.Scans.{begin_read, name_fault, name_read, read_all, read_more, value_fault, value_missing, value_read, required_fault, required_read}
use Rattle.command_grammar.proofs.scanner.option_fault.Goals as goal

pub loop-at-init : goal.loop-at-init
loop-at-init g c = let size = length-map c.args.words.now string_bytes in
    record { from = omega arith; within = omega (arith, size, c.requires.operands.enough); read = ([], begin_read (command_of c.args.command.now) (texts c.args.words.now) c.requires.operands) }

pub returns-then-not-can_name : goal.returns-then-not-can_name
returns-then-not-can_name g c = λ table sound inside.
    let ws = texts c.args.words.now in
    let size = length-map c.args.words.now string_bytes in
    let read = c.loop-at.invariant.read in
    let test = name_read c.args.command.now c.args.words.now c.requires.sound c.loop-at.at read.0 c.loop-at.invariant.from read.1 c.loop-at-test.true c.index-words-at.result c.index-words-at.is c.as_str-name.result.now c.as_str-name.ensures.value c.can_name.result c.can_name.ensures in
    name_fault table sound (command_of c.args.command.now) inside ws (operands_in (command_of c.args.command.now) ws) c.loop-at.at read.0 read.1 (omega (arith, size, c.loop-at-test.true)) (test ∙ c.if-not-can_name.true)

pub returns-then-at-count : goal.returns-then-at-count
returns-then-at-count g c = λ table sound inside.
    let ws = texts c.args.words.now in
    let size = length-map c.args.words.now string_bytes in
    let read = c.loop-at.invariant.read in
    let test = name_read c.args.command.now c.args.words.now c.requires.sound c.loop-at.at read.0 c.loop-at.invariant.from read.1 c.loop-at-test.true c.index-words-at.result c.index-words-at.is c.as_str-name.result.now c.as_str-name.ensures.value c.can_name.result c.can_name.ensures in
    subst (Usage table ws) size (value_missing table sound (command_of c.args.command.now) inside ws (operands_in (command_of c.args.command.now) ws) c.loop-at.at read.0 read.1 (omega (arith, size, c.if-at-count.true)) (test ∙ c.if-not-can_name.false))

pub returns-then-not-can_take : goal.returns-then-not-can_take
returns-then-not-can_take g c = λ table sound inside.
    let ws = texts c.args.words.now in
    let size = length-map c.args.words.now string_bytes in
    let read = c.loop-at.invariant.read in
    let lt : c.loop-at.at + 1 < length c.args.words.now = omega (arith, c.loop-at-test.true, c.if-at-count.false) in
    let test = name_read c.args.command.now c.args.words.now c.requires.sound c.loop-at.at read.0 c.loop-at.invariant.from read.1 c.loop-at-test.true c.index-words-at.result c.index-words-at.is c.as_str-name.result.now c.as_str-name.ensures.value c.can_name.result c.can_name.ensures in
    let value = value_read c.args.command.now c.args.words.now c.requires.sound c.loop-at.at read.0 c.loop-at.invariant.from read.1 lt c.index-words-at.result c.index-words-at-in-loop-at.result c.index-words-at.is c.index-words-at-in-loop-at.is c.as_str-name.result.now c.as_str.result.now c.as_str-name.ensures.value c.as_str.ensures.value c.can_take.result c.can_take.ensures in
    value_fault table sound (command_of c.args.command.now) inside ws (operands_in (command_of c.args.command.now) ws) c.loop-at.at read.0 read.1 (omega (arith, size, lt)) (test ∙ c.if-not-can_name.false) (value ∙ c.if-not-can_take.true)

pub loop-at-preserved : goal.loop-at-preserved
loop-at-preserved g c =
    let ws = texts c.args.words.now in
    let size = length-map c.args.words.now string_bytes in
    let read = c.loop-at.invariant.read in
    let lt : c.loop-at.at + 1 < length c.args.words.now = omega (arith, c.loop-at-test.true, c.if-at-count.false) in
    let value = value_read c.args.command.now c.args.words.now c.requires.sound c.loop-at.at read.0 c.loop-at.invariant.from read.1 lt c.index-words-at.result c.index-words-at-in-loop-at.result c.index-words-at.is c.index-words-at-in-loop-at.is c.as_str-name.result.now c.as_str.result.now c.as_str-name.ensures.value c.as_str.ensures.value c.can_take.result c.can_take.ensures in
    record {
      from = omega (arith, c.loop-at.invariant.from);
      within = omega (arith, lt);
      read = read_more (command_of c.args.command.now) c.requires.sound ws (operands_in (command_of c.args.command.now) ws) c.loop-at.at read.0 read.1 (omega (arith, size, lt)) (value ∙ c.if-not-can_take.false);
    }

pub returns-then-are_taken : goal.returns-then-are_taken
returns-then-are_taken g c = λ table sound inside.
    let ws = texts c.args.words.now in
    let size = length-map c.args.words.now string_bytes in
    let read = c.loop-at.invariant.read in
    let test = required_read c.args.command.now c.args.words.now c.requires.sound c.loop-at.at read.0 c.loop-at.invariant.from read.1 c.loop-at-test.false c.are_taken.result c.are_taken.ensures in
    read_all (command_of c.args.command.now) c.requires.sound ws (operands_in (command_of c.args.command.now) ws) c.loop-at.at read.0 read.1 refl c.loop-at.invariant.from (omega (arith, size, c.loop-at-test.false)) (test ∙ c.if-are_taken.true)

pub returns-else-are_taken : goal.returns-else-are_taken
returns-else-are_taken g c = λ table sound inside.
    let ws = texts c.args.words.now in
    let size = length-map c.args.words.now string_bytes in
    let read = c.loop-at.invariant.read in
    let test = required_read c.args.command.now c.args.words.now c.requires.sound c.loop-at.at read.0 c.loop-at.invariant.from read.1 c.loop-at-test.false c.are_taken.result c.are_taken.ensures in
    subst (Usage table ws) size (required_fault table sound (command_of c.args.command.now) inside ws (operands_in (command_of c.args.command.now) ws) c.loop-at.at read.0 read.1 (omega (arith, size, c.loop-at-test.false)) (test ∙ c.if-are_taken.false))
