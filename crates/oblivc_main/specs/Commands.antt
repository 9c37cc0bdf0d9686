-- What each command reads, makes and prints: one row a command.
use Rattle.std.specs.Prelude.{ℕ, ◌≡◌, List, []}
use Rattle.oblivcc_commands.specs.Views.{check_of, clear_of, deal_of}
use Rattle.oblivcc_commands.specs.declared.asked.Asked.{Asked}
use Rattle.oblivcc_commands.specs.declared.asked.Asked.TheVariants.{Check, Clear, Deal}
use Rattle.oblivc_main.specs.Forms.{Content}
use Rattle.oblivc_main.specs.Steps.{ReadStep}
use Rattle.oblivc_main.specs.Making.{Made}
use Rattle.oblivc_main.specs.Checking.{check_steps, CheckMeans}
use Rattle.oblivc_main.specs.Clearing.{clear_steps, ClearMeans}
use Rattle.oblivc_main.specs.Dealing.{dealt_files}
use Rattle.oblivc_main.specs.declared.status.Status.{Status}
use Rattle.oblivc_main.specs.declared.status.Status.TheVariants.{Done}

-- the files that are read, in this order
abbrev pub steps : Asked → List ReadStep
steps (Check words) = check_steps (check_of words)
steps (Clear words) = clear_steps (clear_of words)
steps (Deal words) = []

-- the files that are made, in this order
abbrev pub made_files : Asked → List Made
made_files (Check words) = []
made_files (Clear words) = []
made_files (Deal words) = dealt_files (deal_of words)

-- of what the files are read as, these bytes are printed, and the command ends with this status
abbrev pub Means : Asked → List Content → List ℕ → Status → Type 0
Means (Check words) contents bytes status = CheckMeans contents bytes status
Means (Clear words) contents bytes status = ClearMeans (clear_of words) contents bytes status
Means (Deal words) contents bytes status = (bytes ≡ []) × (status ≡ Done)
