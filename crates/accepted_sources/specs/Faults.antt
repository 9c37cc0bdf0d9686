-- The faults of types and scopes as those of a source.
use Rattle.type_steps.specs.declared.fault.TypeFault.{TypeFault}
use Rattle.type_steps.specs.declared.fault.TypeFault.TheVariants as types
use Rattle.scope_rules.specs.declared.rules.ScopeFault.{ScopeFault}
use Rattle.accepted_sources.specs.declared.rules.SourceRule.TheVariants.{Types, Scopes}
use Rattle.accepted_sources.specs.declared.source.SourceFault.{SourceFault}
use Rattle.accepted_sources.specs.declared.source.SourceFault.TheVariants.{Refused, NoMemory}

-- why a source whose tree has no types isn't accepted
abbrev pub types_fault : TypeFault → SourceFault
types_fault (types.Refused rule spot) = Refused (Types rule) spot
types_fault types.NoMemory = NoMemory

-- why a source whose typed tree breaks a rule of scopes isn't accepted
abbrev pub scopes_fault : ScopeFault → SourceFault
scopes_fault f = Refused (Scopes f.rule) f.spot
