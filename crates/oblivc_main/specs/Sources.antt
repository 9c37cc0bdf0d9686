-- The end of a command at a source that isn't accepted.
use Rattle.accepted_sources.specs.declared.source.SourceFault.{SourceFault}
use Rattle.accepted_sources.specs.declared.source.SourceFault.TheVariants as fault
use Rattle.oblivc_main.specs.declared.status.Status.{Status}
use Rattle.oblivc_main.specs.declared.status.Status.TheVariants.{Refused, NoMemory}

-- its status
abbrev pub status_of : SourceFault → Status
status_of (fault.Refused broken spot) = Refused (record { rule = broken; spot = spot })
status_of fault.NoMemory = NoMemory
