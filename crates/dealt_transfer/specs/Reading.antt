-- What reading a file of a half answers.
use Rattle.std.specs.Prelude.{ℕ, ◌≡◌, List, Some, Result, Ok, Err}
use Rattle.dealt_transfer.specs.declared.fault.HalfRule.{HalfRule}
use Rattle.dealt_transfer.specs.declared.fault.HalfFault.{HalfFault}
use Rattle.dealt_transfer.specs.declared.fault.HalfFault.TheVariants.{Form, NoMemory}
use Rattle.dealt_transfer.specs.declared.half.SenderHalf.{SenderHalf}
use Rattle.dealt_transfer.specs.declared.half.ReceiverHalf.{ReceiverHalf}
use Rattle.dealt_transfer.specs.Halves.{receiver}
use Rattle.dealt_transfer.specs.Files.{Half1, Half2}
use Rattle.dealt_transfer.specs.Faults.{sender_fault, receiver_fault}

-- a sender's half whose file this is, or the file's form fault, or want of memory
abbrev pub ReadsSender : List ℕ → Result SenderHalf HalfFault → Type 0
ReadsSender bytes (Ok half) = Half1 bytes half
ReadsSender bytes (Err (Form rule offset)) = sender_fault bytes ≡ Some (rule, offset)
ReadsSender bytes (Err NoMemory) = Unit {0}

-- a receiver's half whose file this is, or the file's form fault, or want of memory
abbrev pub ReadsReceiver : List ℕ → Result ReceiverHalf HalfFault → Type 0
ReadsReceiver bytes (Ok half) = Half2 bytes (receiver half)
ReadsReceiver bytes (Err (Form rule offset)) = receiver_fault bytes ≡ Some (rule, offset)
ReadsReceiver bytes (Err NoMemory) = Unit {0}

-- this half, as it is seen, or want of memory
abbrev pub Gives : {X Y : Type 0} → (X → Y) → Y → Result X HalfFault → Type 0
Gives view half (Ok read) = view read ≡ half
Gives view half (Err (Form rule offset)) = ⊥
Gives view half (Err NoMemory) = Unit {0}

-- this fault, or want of memory
abbrev pub Refuses : {X : Type 0} → HalfRule → ℕ → Result X HalfFault → Type 0
Refuses rule offset (Ok read) = ⊥
Refuses rule offset (Err (Form found at)) = (found ≡ rule) × (at ≡ offset)
Refuses rule offset (Err NoMemory) = Unit {0}
