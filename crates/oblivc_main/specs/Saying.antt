-- The number and the line of each status, and what saying it answers.
use Rattle.std.specs.Prelude.{ℕ, ◌≡◌, List, Option, Some, None, ◌⊎◌}
use Rattle.oc_outside.specs.Counts.{Rose}
use Rattle.oc_outside.specs.Told.{appended}
use Rattle.oblivc_main.specs.Lines.{usage_line, refused_line, trap_line, steps_line, file_line, dealt_line, input_line, output_line, memory_line}
use Rattle.oblivc_main.specs.Endings.{Output as Stream, IsSilent}
use Rattle.oblivc_main.specs.declared.status.Status.{Status}
use Rattle.oblivc_main.specs.declared.status.Status.TheVariants.{Done, Refused, NoCommand, Trap, Steps, File, Dealt, Input, NoMemory, Output}

-- the number that the program exits with
abbrev pub number_of : Status → ℕ
number_of Done = 0
number_of (Refused r) = 1
number_of (NoCommand k) = 2
number_of (Trap kind spot) = 3
number_of (Steps n) = 4
number_of (File name) = 5
number_of (Dealt n) = 8
number_of (Input line) = 9
number_of NoMemory = 10
number_of Output = 11

-- the line that goes to the error stream
abbrev pub line_of : Status → Option (List ℕ)
line_of Done = None
line_of (Refused r) = Some (refused_line r)
line_of (NoCommand k) = Some (usage_line k)
line_of (Trap kind spot) = Some (trap_line kind spot)
line_of (Steps n) = Some (steps_line n)
line_of (File name) = Some (file_line name.now)
line_of (Dealt n) = Some (dealt_line n)
line_of (Input line) = Some (input_line line)
line_of NoMemory = Some memory_line
line_of Output = Some output_line

-- what writing a line answers: this number, where the line was appended or the stream's faults rose; or that of want of memory
abbrev pub Says : Stream → List ℕ → ℕ → ℕ → Type 0
Says e line number result =
    ((result ≡ number) × ((Rose e.faults_before e.faults_after → ⊥) → e.after ≡ appended line e.before)) ⊎ (result ≡ 10)

-- what saying a line, if there is one, answers
abbrev pub SaysLine : Stream → Option (List ℕ) → ℕ → ℕ → Type 0
SaysLine e None number result = (result ≡ number) × IsSilent e
SaysLine e (Some line) number result = Says e line number result

-- what saying a status answers
abbrev pub Said : Stream → Status → ℕ → Type 0
Said e status result = SaysLine e (line_of status) (number_of status) result
