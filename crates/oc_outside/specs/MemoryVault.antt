-- A vault in memory, as contracts see it.
use Rattle.std.specs.Prelude.{ℕ, List, Option, Some}
use Rattle.oc_outside.specs.declared.memory_vault.MemoryVault.{MemoryVault}
use Rattle.oc_outside.specs.Files.{held}

-- what a name holds, which is always told
abbrev pub contents_of : MemoryVault → List ℕ → Option (Option (List ℕ))
contents_of vault name = Some (held vault.files.files name)

-- how often it was called
abbrev pub calls_of : MemoryVault → ℕ
calls_of vault = vault.plan.calls

-- the numbers of the calls that fail
abbrev pub failing_of : MemoryVault → List ℕ
failing_of vault = vault.plan.failing

-- how many calls failed
abbrev pub faults_of : MemoryVault → ℕ
faults_of vault = vault.plan.faults

-- the name in the last of these, where there was memory for it
abbrev pub failed_of : MemoryVault → Option (List ℕ)
failed_of vault = vault.failed
