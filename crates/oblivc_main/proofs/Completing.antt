-- Where all files have their form and nothing fails, a command does all, but for want of memory.
use Rattle.std.proofs.Common.{ℕ, ◌≡◌, List, inl, inr}
use Rattle.std.specs.Prelude.{◌⊎◌}
use Rattle.std.specs.List.{AllByRecursion}
use Rattle.oblivcc_commands.specs.declared.asked.Asked.{Asked}
use Rattle.oblivc_main.specs.Steps.{IsReady}
use Rattle.oblivc_main.specs.Making.{IsElsewhere}
use Rattle.oblivc_main.specs.Commands.{steps, made_files}
use Rattle.oblivc_main.specs.Endings.{Outside, Ends, finished, stopped, unmade, unwritten, without_memory, Finishes, IsFaultless, IsAnswered, files_of}
use Rattle.oblivc_main.specs.declared.status.Status.{Status}
use Rattle.oblivc_main.specs.declared.status.Status.TheVariants.{NoMemory}
use Rattle.oblivc_main.proofs.Steps.{never_stops}

completed : (o : Outside) (asked : Asked) (status : Status) → Ends o asked status → AllByRecursion (IsReady o.told) (steps asked) → IsFaultless o → Finishes o asked status ⊎ (status ≡ NoMemory)
completed o asked status (finished all) ready faultless = inl all
completed o asked status (stopped at silent) ready faultless = absurd (never_stops (files_of o) (steps asked) status faultless.0 ready at)
completed o asked status (unmade name is cause silent) ready faultless = absurd (faultless.0 cause.rose)
completed o asked status (unwritten is rose front) ready faultless = absurd (faultless.1 rose)
completed o asked status (without_memory is front) ready faultless = inr is

-- the whole answer, by how the command ended and what stayed
pub answered : (o : Outside) (asked : Asked) (status : Status) → Ends o asked status → ((name : List ℕ) → IsElsewhere name (made_files asked) → o.told_after name ≡ o.told name) → IsAnswered o asked status
answered o asked status ended kept = record {
  ended = ended;
  complete = completed o asked status ended;
  kept = kept;
}
