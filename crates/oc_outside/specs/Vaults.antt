-- What is said of a vault's answers. The contents of a name are None where nothing is told of them, Some None where
-- the name holds nothing, and else Some of Some of its bytes.
use Rattle.std.specs.Prelude.{ℕ, List, ⊤}
use Rattle.oc_outside.specs.declared.vaults.FileAnswer.{FileAnswer}
use Rattle.oc_outside.specs.declared.vaults.FileAnswer.TheVariants.{Bytes, Absent, Failed as NotRead, NoMemory as ReadNoMemory}
use Rattle.oc_outside.specs.declared.vaults.WriteAnswer.{WriteAnswer}
use Rattle.oc_outside.specs.declared.vaults.WriteAnswer.TheVariants.{Written, Failed as NotWritten, NoMemory as WriteNoMemory}

-- a fact of the bytes, where the answer has bytes
abbrev pub IfBytes : FileAnswer → (List ℕ → Type 0) → Type 0
IfBytes (Bytes bytes) fact = fact bytes
IfBytes Absent fact = ⊤
IfBytes NotRead fact = ⊤
IfBytes ReadNoMemory fact = ⊤

-- a fact where the name holds nothing
abbrev pub OnAbsent : FileAnswer → Type 0 → Type 0
OnAbsent (Bytes bytes) fact = ⊤
OnAbsent Absent fact = fact
OnAbsent NotRead fact = ⊤
OnAbsent ReadNoMemory fact = ⊤

-- a fact where the read failed
abbrev pub OnReadFailed : FileAnswer → Type 0 → Type 0
OnReadFailed (Bytes bytes) fact = ⊤
OnReadFailed Absent fact = ⊤
OnReadFailed NotRead fact = fact
OnReadFailed ReadNoMemory fact = ⊤

-- a fact of every read that didn't fail
abbrev pub UnlessReadFailed : FileAnswer → Type 0 → Type 0
UnlessReadFailed (Bytes bytes) fact = fact
UnlessReadFailed Absent fact = fact
UnlessReadFailed NotRead fact = ⊤
UnlessReadFailed ReadNoMemory fact = fact

-- a fact where the bytes were written
abbrev pub OnWritten : WriteAnswer → Type 0 → Type 0
OnWritten Written fact = fact
OnWritten NotWritten fact = ⊤
OnWritten WriteNoMemory fact = ⊤

-- a fact where the write failed
abbrev pub OnWriteFailed : WriteAnswer → Type 0 → Type 0
OnWriteFailed Written fact = ⊤
OnWriteFailed NotWritten fact = fact
OnWriteFailed WriteNoMemory fact = ⊤

-- a fact of every write that didn't fail
abbrev pub UnlessWriteFailed : WriteAnswer → Type 0 → Type 0
UnlessWriteFailed Written fact = fact
UnlessWriteFailed NotWritten fact = ⊤
UnlessWriteFailed WriteNoMemory fact = fact

-- a fact where a write found no memory
abbrev pub OnWriteNoMemory : WriteAnswer → Type 0 → Type 0
OnWriteNoMemory Written fact = ⊤
OnWriteNoMemory NotWritten fact = ⊤
OnWriteNoMemory WriteNoMemory fact = fact
