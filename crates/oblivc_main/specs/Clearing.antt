-- The command `clear`: what it reads, what it prints, and with which status it ends.
use Rattle.std.specs.Prelude.{◌≡◌, ℤ, ℕ, List, [], ◌∷◌, Option, Some, None, Result, Ok, Err, ◌⊎◌}
use Rattle.std.specs.List.{AllZip}
use Rattle.oc_typing.specs.declared.program.Typed.{Typed}
use Rattle.oc_walk.specs.declared.run.ShownItem.{ShownItem}
use Rattle.oc_walk.specs.declared.run.ClearSetup.{ClearSetup}
use Rattle.oc_walk.specs.declared.run.Outcome.{Outcome}
use Rattle.oc_walk.specs.declared.run.Outcome.TheVariants as outcomes
use Rattle.oc_meanings.specs.Clear.{Clear}
use Rattle.clear_walk.specs.declared.run.ClearRun.{ClearRun}
use Rattle.oblivcc_commands.specs.Asked.{ClearAsked}
use Rattle.oblivc_main.specs.Reading.{Files}
use Rattle.oblivc_main.specs.Forms.{Content, source, words}
use Rattle.oblivc_main.specs.Steps.{ReadStep, source_step, input_step, Takes, Reads, StopsAt}
use Rattle.oblivc_main.specs.Shown.{shown}
use Rattle.oblivc_main.specs.declared.status.Status.{Status}
use Rattle.oblivc_main.specs.declared.status.Status.TheVariants.{Done, Trap, Steps, Dealt, NoMemory}

-- a run on these words of both parties, with the public words, the dealt transfers and the step budget that are asked for
abbrev pub setup_of : ClearAsked → List ℤ → List ℤ → ClearSetup
setup_of d first second = record { public = d.public; first = first; second = second; dealt = d.dealt; budget = d.steps }

-- before these, the input of a party is read, where one is named
abbrev pub with_input : Option (List ℕ) → List ReadStep → List ReadStep
with_input None rest = rest
with_input (Some name) rest = input_step name ∷ rest

-- the source is read, and then the inputs of both parties that are named
abbrev pub clear_steps : ClearAsked → List ReadStep
clear_steps d = source_step d.file ∷ with_input d.first (with_input d.second [])

-- before these, what the input of a party is read as, where one is named
abbrev pub with_words : Option (List ℕ) → List ℤ → List Content → List Content
with_words None ws rest = rest
with_words (Some name) ws rest = words ws ∷ rest

-- a party without a named input has no words
abbrev pub IsGiven : Option (List ℕ) → List ℤ → Type 0
IsGiven None ws = ws ≡ []
IsGiven (Some name) ws = Unit {0}

-- the status of a run that ends so
abbrev pub end_of : ClearAsked → Outcome → Status
end_of d outcomes.Done = Done
end_of d (outcomes.Trap kind spot) = Trap kind spot
end_of d outcomes.StepsSpent = Steps d.steps
end_of d outcomes.DealtSpent = Dealt d.dealt

-- of a source and the words of both parties, these bytes are printed: what the program shows until it ends; and the status says how
pub record ClearMeans (d : ClearAsked) (contents : List Content) (bytes : List ℕ) (status : Status) : Type 0 where
  pub program : Typed
  pub first : List ℤ
  pub second : List ℤ
  pub items : List ShownItem
  pub outcome : Outcome
  pub read : contents ≡ source program ∷ with_words d.first first (with_words d.second second [])
  pub first_given : IsGiven d.first first
  pub second_given : IsGiven d.second second
  pub meaning : Clear program.structs program.functions program.entry (setup_of d first second) items outcome
  pub printed : bytes ≡ shown items
  pub ended : status ≡ end_of d outcome

-- what reading the words of a party answers
abbrev pub ReadsGiven : Files → Option (List ℕ) → Result (List ℤ) Status → Type 0
ReadsGiven f None r = r ≡ Ok []
ReadsGiven f (Some name) r = Reads words f (input_step name) r

-- what reading the files and running the program answers
abbrev pub Runs : Files → ClearAsked → Result ClearRun Status → Type 0
Runs f d (Ok run) = (contents : List Content) × AllZip (Takes f.told) (clear_steps d) contents × ClearMeans d contents (shown run.shown) (end_of d run.outcome)
Runs f d (Err status) = (status ≡ NoMemory) ⊎ StopsAt f (clear_steps d) status
