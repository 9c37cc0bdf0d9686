-- The files of the two halves. A file has a magic, the version 1, the tag, for the sender the coin key, the number of
-- transfers with its highest byte first, for the receiver the bits, and the pads, each with its lowest byte first.
use Rattle.std.specs.Prelude.{ℕ, ◌≡◌, List, [], ◌∷◌, ◌++◌, length, codes}
use Rattle.std.specs.List.{flat_map}
use Rattle.std.specs.Int.{w32, w128, to_be_bytes, to_le_bytes}
use Rattle.dealt_transfer.specs.declared.half.SenderHalf.{SenderHalf}
use Rattle.dealt_transfer.specs.Halves.{IsSender, IsReceiver, Receiver}
use Rattle.oc_values.specs.Packing.{pack}

-- sixteen bytes of a label, the lowest first
unfoldable pub label_bytes : ℕ → List ℕ
label_bytes label = to_le_bytes w128 label

-- the bytes of both pads of a transfer, the pad of the bit 0 first
abbrev pub pair_bytes : ℕ × ℕ → List ℕ
pair_bytes pads = label_bytes pads.0 ++ label_bytes pads.1

-- four bytes of a number, the highest first
abbrev pub number_bytes : ℕ → List ℕ
number_bytes n = to_be_bytes w32 n

-- what a file begins with: its magic, and the version 1
abbrev pub opening : List ℕ → List ℕ
opening magic = magic ++ 1 ∷ []

-- the four bytes that every sender's file begins with
abbrev pub sender_magic : List ℕ
sender_magic = codes "OCHG"

-- the four bytes that every receiver's file begins with
abbrev pub receiver_magic : List ℕ
receiver_magic = codes "OCHE"

-- the one file of a sender's half
unfoldable pub sender_file : SenderHalf → List ℕ
sender_file half =
    opening sender_magic ++ (half.tag ++ (half.coin_key ++ (number_bytes (length half.pads) ++ flat_map pair_bytes half.pads)))

-- the one file of a receiver's half
unfoldable pub receiver_file : Receiver → List ℕ
receiver_file half =
    opening receiver_magic ++ (half.tag ++ (number_bytes (length half.pads) ++ (pack half.bits ++ flat_map label_bytes half.pads)))

-- the bytes are the file of this sender's half
abbrev pub Half1 : List ℕ → SenderHalf → Type 0
Half1 bytes half = IsSender half × (bytes ≡ sender_file half)

-- the bytes are the file of this receiver's half
abbrev pub Half2 : List ℕ → Receiver → Type 0
Half2 bytes half = IsReceiver half × (bytes ≡ receiver_file half)
