-- The values of a print and its format, as the rules see them.
use Rattle.type_rules.specs.Prints as rules
use Rattle.call_steps.specs.declared.prints.Printed.{Printed}
use Rattle.call_steps.specs.declared.formats.Format.{Format}

-- the values of a print, as the rules see them
abbrev pub printed_of : Printed → rules.Printed
printed_of a = record { args = a.args; fit = a.fit }

-- a format, as the rules see it
abbrev pub format_seen : Format → rules.Format
format_seen f = record { pieces = f.pieces; good = f.good }
