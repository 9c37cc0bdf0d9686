-- What called names mean, as the code tells it.
use Rattle.type_rules.specs.Calls as rules
use Rattle.typed_expressions.specs.declared.called.Called.{Called}
use Rattle.typed_expressions.specs.declared.called.Called.TheVariants as called

-- what a called name means, as the rules see it
abbrev pub called_of : Called → rules.Called
called_of called.Variable = rules.Variable
called_of called.Unknown = rules.Unknown
called_of called.Print = rules.Print
called_of (called.Own c) = rules.Own c
called_of (called.Known n h) = rules.Known n h.now
