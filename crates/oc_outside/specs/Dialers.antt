-- What is said of a dialer's answers.
use Rattle.std.specs.Prelude.{⊤}
use Rattle.oc_outside.specs.declared.dialers.DialAnswer.{DialAnswer}
use Rattle.oc_outside.specs.declared.dialers.DialAnswer.TheVariants.{Line, Failed, NoMemory}

-- a fact of the line, where one is handed out
abbrev pub IfLine : {L : Type 0} → DialAnswer L → (L → Type 0) → Type 0
IfLine (Line line) fact = fact line
IfLine Failed fact = ⊤
IfLine NoMemory fact = ⊤

-- a fact where the dialer failed
abbrev pub OnDialFailed : {L : Type 0} → DialAnswer L → Type 0 → Type 0
OnDialFailed (Line line) fact = ⊤
OnDialFailed Failed fact = fact
OnDialFailed NoMemory fact = ⊤

-- a fact of every answer but a fault
abbrev pub UnlessDialFailed : {L : Type 0} → DialAnswer L → Type 0 → Type 0
UnlessDialFailed (Line line) fact = fact
UnlessDialFailed Failed fact = ⊤
UnlessDialFailed NoMemory fact = fact

-- a fact where no line is handed out
abbrev pub UnlessLine : {L : Type 0} → DialAnswer L → Type 0 → Type 0
UnlessLine (Line line) fact = ⊤
UnlessLine Failed fact = fact
UnlessLine NoMemory fact = fact

-- a fact where the dialer found no memory
abbrev pub OnDialNoMemory : {L : Type 0} → DialAnswer L → Type 0 → Type 0
OnDialNoMemory (Line line) fact = ⊤
OnDialNoMemory Failed fact = ⊤
OnDialNoMemory NoMemory fact = fact

-- a fact of a line and of a fault
abbrev pub UnlessDialNoMemory : {L : Type 0} → DialAnswer L → Type 0 → Type 0
UnlessDialNoMemory (Line line) fact = fact
UnlessDialNoMemory Failed fact = fact
UnlessDialNoMemory NoMemory fact = ⊤
