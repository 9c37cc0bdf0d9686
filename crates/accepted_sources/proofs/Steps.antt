-- What the steps of reading a source answer.
use Rattle.std.proofs.Common.{ℕ, List, Err}
use Rattle.oc_source.specs.declared.parsed.Program.{Program}
use Rattle.type_steps.specs.declared.fault.TypeFault.{TypeFault}
use Rattle.type_steps.specs.declared.fault.TypeFault.TheVariants as untyped
use Rattle.obliv_types.specs.Promise.{Promised}
use Rattle.accepted_sources.specs.Faults.{types_fault}
use Rattle.accepted_sources.specs.Answers.{HasProgram, ReadsProgram, Accepts}
use Rattle.accepted_sources.specs.declared.source.SourceFault.{SourceFault}
use Rattle.accepted_sources.specs.declared.source.SourceFault.TheVariants.{Refused, NoMemory}
use Rattle.accepted_sources.proofs.Refusing.{types_refuse}

-- a source without a parsed tree
pub no_program : (source : List ℕ) (f : SourceFault) → ReadsProgram source (Err f) → Accepts source (Err f)
no_program source (Refused rule spot) h = h
no_program source NoMemory h = tt

-- a source whose tree has no types
pub no_types : (source : List ℕ) (program : Program) → HasProgram source program → (f : TypeFault) → Promised program (Err f) → Accepts source (Err (types_fault f))
no_types source program has (untyped.Refused rule spot) a = types_refuse source program has rule spot a
no_types source program has untyped.NoMemory a = tt
