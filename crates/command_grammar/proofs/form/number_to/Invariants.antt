use Rattle.std.proofs.Common.{◌≡◌, ◌≤◌, take, true}
use Rattle.std.specs.List.{list_all}
use Rattle.command_grammar.specs.Forms.{is_digit, decimal_value}
use Rattle.command_grammar.proofs.form.number_to.Given as goal

abbrev pub invariant-loop-digit : goal.invariant-loop-digit
invariant-loop-digit l = record { digits : list_all is_digit (take l.digit-index l.digits) ≡ true; value : l.value ≡ decimal_value (take l.digit-index l.digits); within : l.value ≤ l.most }
