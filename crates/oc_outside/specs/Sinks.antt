-- What is said of the answers of a sink, and of the end of a whole write.
use Rattle.std.specs.Prelude.{ℕ, ⊤}
use Rattle.oc_outside.specs.declared.sinks.PutAnswer.{PutAnswer}
use Rattle.oc_outside.specs.declared.sinks.PutAnswer.TheVariants.{Took, Failed as NotTaken, NoMemory as PutNoMemory}
use Rattle.oc_outside.specs.declared.sinks.PutEnd.{PutEnd}
use Rattle.oc_outside.specs.declared.sinks.PutEnd.TheVariants.{Done, Failed as NotDone, NoMemory as EndNoMemory}

-- a fact of the number of bytes taken, where some were taken
abbrev pub IfTook : PutAnswer → (ℕ → Type 0) → Type 0
IfTook (Took n) fact = fact n
IfTook NotTaken fact = ⊤
IfTook PutNoMemory fact = ⊤

-- a fact where the sink failed
abbrev pub OnPutFailed : PutAnswer → Type 0 → Type 0
OnPutFailed (Took n) fact = ⊤
OnPutFailed NotTaken fact = fact
OnPutFailed PutNoMemory fact = ⊤

-- a fact of every answer but a fault
abbrev pub UnlessPutFailed : PutAnswer → Type 0 → Type 0
UnlessPutFailed (Took n) fact = fact
UnlessPutFailed NotTaken fact = ⊤
UnlessPutFailed PutNoMemory fact = fact

-- a fact of every refusal
abbrev pub UnlessTook : PutAnswer → Type 0 → Type 0
UnlessTook (Took n) fact = ⊤
UnlessTook NotTaken fact = fact
UnlessTook PutNoMemory fact = fact

-- a fact where all bytes were taken
abbrev pub OnDone : PutEnd → Type 0 → Type 0
OnDone Done fact = fact
OnDone NotDone fact = ⊤
OnDone EndNoMemory fact = ⊤

-- a fact where the whole write ended with a fault
abbrev pub OnEndFailed : PutEnd → Type 0 → Type 0
OnEndFailed Done fact = ⊤
OnEndFailed NotDone fact = fact
OnEndFailed EndNoMemory fact = ⊤

-- a fact of every whole write that no fault ended
abbrev pub UnlessEndFailed : PutEnd → Type 0 → Type 0
UnlessEndFailed Done fact = fact
UnlessEndFailed NotDone fact = ⊤
UnlessEndFailed EndNoMemory fact = fact

-- a fact of every whole write that ended early
abbrev pub UnlessDone : PutEnd → Type 0 → Type 0
UnlessDone Done fact = ⊤
UnlessDone NotDone fact = fact
UnlessDone EndNoMemory fact = fact
