-- Halves that match, and a transfer over them: the receiver chooses one of the sender's two messages by a bit.
use Rattle.std.specs.Prelude.{ℕ, ◌≡◌, ◌<◌, Bool, true, false, not, length, slice_index, slice_index_or, bit_xor, if◌then◌else◌}
use Rattle.dealt_transfer.specs.declared.half.SenderHalf.{SenderHalf}
use Rattle.dealt_transfer.specs.Halves.{Receiver}
use Rattle.dealt_transfer.specs.Dealing.{chosen}

-- the sender's pads of the transfer i
abbrev pub pads_of : SenderHalf → ℕ → ℕ × ℕ
pads_of half i = slice_index_or half.pads i (0, 0)

-- the receiver's bit of the transfer i
abbrev pub bit_of : Receiver → ℕ → Bool
bit_of half i = slice_index_or half.bits i false

-- the receiver's pad of the transfer i
abbrev pub pad_of : Receiver → ℕ → ℕ
pad_of half i = slice_index half.pads i

-- the receiver's pad is the sender's pad of the receiver's bit
abbrev pub MatchesAt : SenderHalf → Receiver → ℕ → Type 0
MatchesAt sender receiver i = pad_of receiver i ≡ chosen (pads_of sender i) (bit_of receiver i)

-- the same tag and number of transfers, and every place matches
pub record Match (sender : SenderHalf) (receiver : Receiver) : Type 0 where
  pub tag : sender.tag ≡ receiver.tag
  pub count : length sender.pads ≡ length receiver.pads
  pub pads : (i : ℕ) → i < length sender.pads → MatchesAt sender receiver i

-- the first place that doesn't match
pub record FirstUnmatched (sender : SenderHalf) (receiver : Receiver) (i : ℕ) : Type 0 where
  pub within : i < length sender.pads
  pub unmatched : MatchesAt sender receiver i → ⊥
  pub before : (k : ℕ) → k < i → MatchesAt sender receiver k

-- one bit turned by another
abbrev pub turned : Bool → Bool → Bool
turned b false = b
turned b true = not b

-- what the receiver sends for its choice
abbrev pub sent_bit : Receiver → ℕ → Bool → Bool
sent_bit half i choice = turned choice (bit_of half i)

-- what the sender sends for two messages, by the bit that came
abbrev pub masked_pair : SenderHalf → ℕ → Bool → ℕ → ℕ → ℕ × ℕ
masked_pair half i d m0 m1 = (bit_xor m0 (chosen (pads_of half i) d), bit_xor m1 (chosen (pads_of half i) (not d)))

-- what the receiver takes out of the pair that came
abbrev pub opened : Receiver → ℕ → Bool → ℕ → ℕ → ℕ
opened half i choice e0 e1 = bit_xor (if choice then e1 else e0) (pad_of half i)
