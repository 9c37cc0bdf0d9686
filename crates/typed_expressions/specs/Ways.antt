-- How arguments are judged, as the code tells it.
use Rattle.type_rules.specs.Calls as rules
use Rattle.typed_expressions.specs.declared.calls.Way.{Way}
use Rattle.typed_expressions.specs.declared.calls.Way.TheVariants.{ByValue, ByPrivate, BySize}

-- a way, as the rules see it
abbrev pub way_of : Way → rules.Way
way_of ByValue = rules.ByValue
way_of ByPrivate = rules.ByPrivate
way_of BySize = rules.BySize
