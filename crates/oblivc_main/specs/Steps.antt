-- The files that a command reads, one after another, and where that stops.
use Rattle.std.specs.Prelude.{ℕ, ◌≡◌, List, ◌∷◌, ◌++◌, Some, Result, Ok, Err, ◌⊎◌}
use Rattle.std.specs.List.{AllZip}
use Rattle.oblivc_main.specs.Reading.{Told, Holds, Files, IsUnreadable, IsFile}
use Rattle.oblivc_main.specs.Forms.{FileForm, Content, source_form, input_form, HasForm, IsReadAs, IsMalformed}
use Rattle.oblivc_main.specs.declared.status.Status.{Status}
use Rattle.oblivc_main.specs.declared.status.Status.TheVariants.{NoMemory}

-- a file that is read, by its name, and the form that it has to have
pub record ReadStep : Type 0 where
  pub name : List ℕ
  pub form : FileForm

-- a source is read
abbrev pub source_step : List ℕ → ReadStep
source_step name = record { name = name; form = source_form }

-- an input file is read
abbrev pub input_step : List ℕ → ReadStep
input_step name = record { name = name; form = input_form }

-- the step's file has its form, and is read as this
abbrev pub Takes : Told → ReadStep → Content → Type 0
Takes told s content = (bytes : List ℕ) × Holds told s.name bytes × IsReadAs s.form bytes content

-- the command ends with this status, since the step's file can't be read or hasn't its form
pub data Fails (f : Files) (s : ReadStep) (status : Status) : Type 0 where
  unreadable : IsFile status s.name → IsUnreadable f s.name → Fails f s status
  malformed : (bytes : List ℕ) → Holds f.told s.name bytes → IsMalformed s.form bytes status → Fails f s status

-- reading these files one after another stops at one of them, and those before it have their form
pub record StopsAt (f : Files) (steps : List ReadStep) (status : Status) : Type 0 where
  pub before : List ReadStep
  pub step : ReadStep
  pub after : List ReadStep
  pub contents : List Content
  pub split : steps ≡ before ++ step ∷ after
  pub earlier : AllZip (Takes f.told) before contents
  pub cause : Fails f step status

-- the vault tells of the step's file that it has its form
abbrev pub IsReady : Told → ReadStep → Type 0
IsReady told s = (bytes : List ℕ) × (told s.name ≡ Some (Some bytes)) × HasForm s.form bytes

-- what reading the step's file answers
abbrev pub Reads : {A : Type 0} → (A → Content) → Files → ReadStep → Result A Status → Type 0
Reads content f s (Ok x) = Takes f.told s (content x)
Reads content f s (Err status) = (status ≡ NoMemory) ⊎ Fails f s status
