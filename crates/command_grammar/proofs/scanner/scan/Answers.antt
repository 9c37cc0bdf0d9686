use Rattle.std.proofs.Common.{◌≡◌, ◌+◌, ◌-◌, ◌<◌, ◌∷◌, length, take, drop, sym, ap, ◌∙◌, subst, arith}
use Rattle.std.proofs.lemmas.Bool.Decides.{nat_tests}
use Rattle.std.proofs.lemmas.List.{length-take, length-drop}
use Rattle.command_grammar.specs.Grammar.{Usage, texts}
use Rattle.command_grammar.specs.Scanning.{HasOperands}
use Rattle.command_grammar.specs.Views.{command_of, commands_of}
use Rattle.command_grammar.proofs.Fronts.{sound_command}
use Rattle.command_grammar.proofs.Scans.{command_found, has_operands, no_texts, no_words, operand_fault, texts_front, unknown_fault}
use Rattle.command_grammar.proofs.scanner.scan.Goals as goal

pub returns-then-is_empty : goal.returns-then-is_empty
returns-then-is_empty g c =
    let none : length c.args.words.now ≡ 0 = grind (arith, nat_tests) in
    subst (λ ws. Usage (commands_of c.args.table.now) ws 0) (sym (no_texts c.args.words.now none)) (no_words (commands_of c.args.table.now) c.requires)

pub returns-in-None : goal.returns-in-None
returns-in-None g c =
    let some : 0 < length c.args.words.now = grind (arith, nat_tests) in
    let front = texts_front c.args.words.now c.index-words-0.result some c.index-words-0.is in
    let named = ap (λ n. n ∷ texts (take (length c.args.words.now - 1) (drop 1 c.args.words.now))) c.as_str.ensures.value in
    subst (λ ws. Usage (commands_of c.args.table.now) ws 0) (named ∙ sym front) (unknown_fault (commands_of c.args.table.now) c.requires c.as_str.result.now (texts (take (length c.args.words.now - 1) (drop 1 c.args.words.now))) c.in-None.ensures)

pub returns-then-count-required : goal.returns-then-count-required
returns-then-count-required g c =
    let some : 0 < length c.args.words.now = grind (arith, nat_tests) in
    let rest = texts (take (length c.args.words.now - 1) (drop 1 c.args.words.now)) in
    let front = texts_front c.args.words.now c.index-words-0.result some c.index-words-0.is in
    let named = ap (λ n. n ∷ rest) c.as_str.ensures.value in
    let found = command_found (commands_of c.args.table.now) c.as_str.result.now (command_of c.in-Some.command.now) c.in-Some.ensures in
    let u = operand_fault (commands_of c.args.table.now) c.requires (command_of c.in-Some.command.now) found.0 c.as_str.result.now rest found.1 (omega (arith, c.fitting-count.ensures.value, c.if-count-required.true)) in
    subst (λ ws. Usage (commands_of c.args.table.now) ws (c.fitting-count.result + 1)) (named ∙ sym front) (subst (λ k. Usage (commands_of c.args.table.now) (c.as_str.result.now ∷ rest) (k + 1)) (sym c.fitting-count.ensures.value) u)

pub option_fault-requires-clause-sound : goal.option_fault-requires-clause-sound
option_fault-requires-clause-sound g c =
    let found = command_found (commands_of c.args.table.now) c.as_str.result.now (command_of c.in-Some.command.now) c.in-Some.ensures in
    sound_command (commands_of c.args.table.now) c.requires (command_of c.in-Some.command.now) found.0

pub option_fault-requires-clause-operands : goal.option_fault-requires-clause-operands
option_fault-requires-clause-operands g c =
    let some : 0 < length c.args.words.now = grind (arith, nat_tests) in
    let rest = texts (take (length c.args.words.now - 1) (drop 1 c.args.words.now)) in
    let front = texts_front c.args.words.now c.index-words-0.result some c.index-words-0.is in
    let named = ap (λ n. n ∷ rest) c.as_str.ensures.value in
    let found = command_found (commands_of c.args.table.now) c.as_str.result.now (command_of c.in-Some.command.now) c.in-Some.ensures in
    subst (HasOperands (command_of c.in-Some.command.now)) (named ∙ sym front) (has_operands (commands_of c.args.table.now) c.requires (command_of c.in-Some.command.now) c.as_str.result.now rest found.1 (omega (arith, c.fitting-count.ensures.value, c.if-count-required.false)))

pub returns-in-None-option_fault : goal.returns-in-None-option_fault
returns-in-None-option_fault g c =
    let found = command_found (commands_of c.args.table.now) c.as_str.result.now (command_of c.in-Some.command.now) c.in-Some.ensures in
    (found.0, c.in-None-option_fault.ensures (commands_of c.args.table.now) c.requires found.0)

pub returns-in-Some-option_fault : goal.returns-in-Some-option_fault
returns-in-Some-option_fault g c =
    let found = command_found (commands_of c.args.table.now) c.as_str.result.now (command_of c.in-Some.command.now) c.in-Some.ensures in
    c.in-Some-option_fault.ensures (commands_of c.args.table.now) c.requires found.0

pub overflow_add-result : goal.overflow_add-result
overflow_add-result g c = omega (arith, c.fitting-count.ensures.within, length-take (length c.args.words.now - 1) (drop 1 c.args.words.now), length-drop 1 c.args.words.now)
