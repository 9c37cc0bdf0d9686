-- What a vault tells of files, and what reading one of them answers.
use Rattle.std.specs.Prelude.{ℕ, ◌≡◌, List, take, Option, Some, None, IfSome, Result, Ok, Err, ◌⊎◌}
use Rattle.oc_outside.specs.Counts.{Rose}
use Rattle.oblivc_main.specs.declared.status.Status.{Status}
use Rattle.oblivc_main.specs.declared.status.Status.TheVariants.{File, NoMemory}

-- what a vault tells of each name: None where nothing is told, Some None where the name holds nothing
abbrev pub Told : Type 0
Told = List ℕ → Option (Option (List ℕ))

-- the name holds these bytes, where it is told
abbrev pub Holds : Told → List ℕ → List ℕ → Type 0
Holds told name bytes = IfSome (told name) (λ held. held ≡ Some bytes)

-- the name holds nothing, where it is told
abbrev pub IsAbsent : Told → List ℕ → Type 0
IsAbsent told name = IfSome (told name) (λ held. held ≡ None)

-- the files of a call: what the vault tells of each name, its faults before and after, and the name that failed last
pub record Files : Type 0 where
  pub told : Told
  pub faults_before : ℕ
  pub faults_after : ℕ
  pub failed : Option (List ℕ)

-- a name can't be read: it is absent, or the faults rose and it is the name that failed last
abbrev pub IsUnreadable : Files → List ℕ → Type 0
IsUnreadable f name = IsAbsent f.told name ⊎ (Rose f.faults_before f.faults_after × IfSome f.failed (λ last. last ≡ name))

-- the status is `file` with this name
abbrev pub IsFile : Status → List ℕ → Type 0
IsFile (File named) name = named.now ≡ name
IsFile _ name = ⊥

-- what reading up to so many bytes of a file answers
abbrev pub Fetches : Files → List ℕ → ℕ → Result (List ℕ) Status → Type 0
Fetches f name limit (Ok bytes) = (whole : List ℕ) × Holds f.told name whole × (bytes ≡ take limit whole)
Fetches f name limit (Err (File named)) = (named.now ≡ name) × IsUnreadable f name
Fetches f name limit (Err NoMemory) = Unit {0}
Fetches f name limit (Err _) = ⊥
