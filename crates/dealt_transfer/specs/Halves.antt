-- The two halves of dealt transfers, which a dealer makes together.
use Rattle.std.specs.Prelude.{ℕ, ◌≡◌, ◌<◌, ◌≤◌, ◌^◌, List, length, Bool}
use Rattle.std.specs.List.{AllByRecursion}
use Rattle.dealt_transfer.specs.declared.half.SenderHalf.{SenderHalf}
use Rattle.dealt_transfer.specs.declared.half.ReceiverHalf.{ReceiverHalf}

-- how many transfers a half has at most
abbrev pub most_transfers : ℕ
most_transfers = 1048576

-- a receiver's half without the fact that it has as many bits as pads
pub record Receiver : Type 0 where
  pub tag : List ℕ
  pub bits : List Bool
  pub pads : List ℕ

-- the tag, bits and pads of a receiver's half
abbrev pub receiver : ReceiverHalf → Receiver
receiver half = record { tag = half.tag; bits = half.bits; pads = half.pads }

-- a label is a number below 2^128
abbrev pub IsLabel : ℕ → Type 0
IsLabel label = label < 2 ^ 128

-- both pads of a transfer are labels
abbrev pub IsPair : ℕ × ℕ → Type 0
IsPair pads = IsLabel pads.0 × IsLabel pads.1

-- a sender's half that has a file: a tag of 16 bytes, a coin key of 32, and not too many pads, which are labels
pub record IsSender (half : SenderHalf) : Type 0 where
  pub tag : length half.tag ≡ 16
  pub coin_key : length half.coin_key ≡ 32
  pub count : length half.pads ≤ most_transfers
  pub pads : AllByRecursion IsPair half.pads

-- what has a receiver's file: a tag of 16 bytes, not too many pads, which are labels, and a bit for each pad
pub record IsReceiver (half : Receiver) : Type 0 where
  pub tag : length half.tag ≡ 16
  pub count : length half.pads ≤ most_transfers
  pub bits : length half.bits ≡ length half.pads
  pub pads : AllByRecursion IsLabel half.pads
