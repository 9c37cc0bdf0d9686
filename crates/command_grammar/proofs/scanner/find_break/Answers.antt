use Rattle.std.proofs.Common.{subst}
use Rattle.std.specs.Prelude.{string_bytes}
use Rattle.std.proofs.lemmas.List.{length-map}
use Rattle.command_grammar.specs.Grammar.{Breaks, texts}
use Rattle.command_grammar.specs.Scanning.{operands_in, options_in}
use Rattle.command_grammar.specs.Views.{command_of, commands_of}
use Rattle.command_grammar.proofs.Fronts.{breaks_at, breaks_end}
use Rattle.command_grammar.proofs.scanner.find_break.Goals as goal

pub returns-in-Ok : goal.returns-in-Ok
returns-in-Ok g c =
    let table = commands_of c.args.table.now in
    let ws = texts c.args.words.now in
    let row = command_of c.in-Ok.field-0.now in
    let e = c.in-Ok.ensures in
    subst (Breaks table ws) (length-map c.args.words.now string_bytes) (breaks_end table c.requires ws (row, e.0, operands_in row ws, options_in row ws, e.1))

pub returns-in-Err : goal.returns-in-Err
returns-in-Err g c = breaks_at (commands_of c.args.table.now) c.requires (texts c.args.words.now) _ c.in-Err.ensures
