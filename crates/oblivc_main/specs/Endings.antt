-- How a command ends, and why: one of five ways, over what it reads, makes and means.
use Rattle.std.specs.Prelude.{ℕ, ◌≡◌, ◌≤◌, List, length, take, Option, ◌⊎◌}
use Rattle.std.specs.List.{AllZip, AllByRecursion}
use Rattle.oc_outside.specs.Counts.{Rose}
use Rattle.oc_outside.specs.Told.{appended}
use Rattle.oc_outside.specs.Sinks.{OnDone, OnEndFailed, UnlessDone, UnlessEndFailed}
use Rattle.oc_outside.specs.declared.sinks.PutEnd.{PutEnd}
use Rattle.oblivcc_commands.specs.declared.asked.Asked.{Asked}
use Rattle.oblivc_main.specs.Reading.{Told, Files, IsFile}
use Rattle.oblivc_main.specs.Forms.{Content}
use Rattle.oblivc_main.specs.Steps.{Takes, StopsAt, IsReady}
use Rattle.oblivc_main.specs.Making.{Writing, HoldsAll, IsElsewhere, IsUnwritable}
use Rattle.oblivc_main.specs.Commands.{steps, made_files, Means}
use Rattle.oblivc_main.specs.declared.status.Status.{Status}
use Rattle.oblivc_main.specs.declared.status.Status.TheVariants.{NoMemory, Output as OutputFails}

-- a stream of a call: its faults before and after, and what was written to it before and after
pub record Output : Type 0 where
  pub faults_before : ℕ
  pub faults_after : ℕ
  pub before : Option (List ℕ)
  pub after : Option (List ℕ)

-- what a command finds and leaves: what the vault tells of each name before and after, the vault's faults before and after
-- and the name that failed last, and the output
pub record Outside : Type 0 where
  pub told : Told
  pub told_after : Told
  pub faults_before : ℕ
  pub faults_after : ℕ
  pub failed : Option (List ℕ)
  pub out : Output

-- the files of a call
abbrev pub files_of : Outside → Files
files_of o = record { told = o.told; faults_before = o.faults_before; faults_after = o.faults_after; failed = o.failed }

-- what a call wrote to files
abbrev pub writing_of : Outside → Writing
writing_of o = record {
  before = o.told;
  after = o.told_after;
  faults_before = o.faults_before;
  faults_after = o.faults_after;
  failed = o.failed;
}

-- nothing was written to the stream
abbrev pub IsSilent : Output → Type 0
IsSilent s = s.after ≡ s.before

-- all files that are read have their form, and of them this is to be printed, with this status at the end
pub record IsMeant (told : Told) (asked : Asked) (bytes : List ℕ) (status : Status) : Type 0 where
  pub contents : List Content
  pub taken : AllZip (Takes told) (steps asked) contents
  pub meant : Means asked contents bytes status

-- all that is meant was printed without a fault, and all files were made
pub record Finishes (o : Outside) (asked : Asked) (status : Status) : Type 0 where
  pub bytes : List ℕ
  pub meant : IsMeant o.told asked bytes status
  pub printed : o.out.after ≡ appended bytes o.out.before
  pub faultless : o.out.faults_after ≡ o.out.faults_before
  pub made : HoldsAll o.told_after (made_files asked)

-- a front of what is to be printed was printed, which may be nothing or all of it
pub record PrintsFront (o : Outside) (asked : Asked) : Type 0 where
  pub bytes : List ℕ
  pub status : Status
  pub meant : IsMeant o.told asked bytes status
  pub count : ℕ
  pub within : count ≤ length bytes
  pub printed : o.out.after ≡ appended (take count bytes) o.out.before

-- how a command ends: it did all, it stopped at a file that it reads or at one that it makes, the output failed, or memory
-- was wanting
pub data Ends (o : Outside) (asked : Asked) (status : Status) : Type 0 where
  finished : Finishes o asked status → Ends o asked status
  stopped : StopsAt (files_of o) (steps asked) status → IsSilent o.out → Ends o asked status
  unmade :
      (name : List ℕ) → IsFile status name → IsUnwritable (writing_of o) (made_files asked) name → IsSilent o.out
      → Ends o asked status
  unwritten : status ≡ OutputFails → Rose o.out.faults_before o.out.faults_after → PrintsFront o asked → Ends o asked status
  without_memory : status ≡ NoMemory → IsSilent o.out ⊎ PrintsFront o asked → Ends o asked status

-- no fault of the vault or of the output rose
abbrev pub IsFaultless : Outside → Type 0
IsFaultless o = (Rose o.faults_before o.faults_after → ⊥) × (Rose o.out.faults_before o.out.faults_after → ⊥)

-- what a command answers: it ends in one of these ways; where all files that it reads have their form and nothing fails it does
-- all, but for want of memory; and what the vault tells stays, but of the files that it makes
pub record IsAnswered (o : Outside) (asked : Asked) (status : Status) : Type 0 where
  pub ended : Ends o asked status
  pub complete : AllByRecursion (IsReady o.told) (steps asked) → IsFaultless o → Finishes o asked status ⊎ (status ≡ NoMemory)
  pub kept : (name : List ℕ) → IsElsewhere name (made_files asked) → o.told_after name ≡ o.told name

-- these bytes were printed, or a front of them where the sink refused; the faults never fell, and rose only where it failed
pub record Printed (bytes : List ℕ) (r : PutEnd) (faults_before faults_after : ℕ) (before after : Option (List ℕ)) : Type 0 where
  pub never_falls : faults_before ≤ faults_after
  pub done : OnDone r (after ≡ appended bytes before)
  pub failed : OnEndFailed r (Rose faults_before faults_after)
  pub no_fault : UnlessEndFailed r (faults_after ≡ faults_before)
  pub refused : UnlessDone r ((n : ℕ) × (n ≤ length bytes) × (after ≡ appended (take n bytes) before))
