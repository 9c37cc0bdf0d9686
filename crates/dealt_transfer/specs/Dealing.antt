-- What a dealer makes of a key: both halves of so many transfers, from the words of the ChaCha20 stream 0 of the key.
use Rattle.std.specs.Prelude.{ℕ, ◌+◌, ◌*◌, ◌%◌, Bool, nat_eq, List, ◌++◌, map, if◌then◌else◌}
use Rattle.std.specs.List.{range_with_len}
use Rattle.rand_chacha.specs.ChaCha.{key_of}
use Rattle.dealt_transfer.specs.declared.half.SenderHalf.{SenderHalf}
use Rattle.dealt_transfer.specs.Halves.{Receiver}
use Rattle.dealt_transfer.specs.Files.{label_bytes}
use Rattle.dealt_transfer.specs.Labels.{word, label_at}

-- the sixteen bytes of four words, the lowest first
abbrev pub bytes_at : List ℕ → ℕ → List ℕ
bytes_at key place = label_bytes (label_at key place)

-- the first word of a transfer: before all stand the tag's four and the coin key's eight, and each transfer has nine
abbrev pub place_of : ℕ → ℕ
place_of i = 12 + 9 * i

-- both pads of a transfer
abbrev pub pair_at : List ℕ → ℕ → ℕ × ℕ
pair_at key i = (label_at key (place_of i), label_at key (place_of i + 4))

-- the receiver's bit of a transfer: the lowest bit of its ninth word
abbrev pub bit_at : List ℕ → ℕ → Bool
bit_at key i = nat_eq (word key (place_of i + 8) % 2) 1

-- the one of two pads that belongs to a bit: the first to 0, the second to 1
abbrev pub chosen : ℕ × ℕ → Bool → ℕ
chosen pads bit = if bit then pads.1 else pads.0

-- the receiver's pad of a transfer: the sender's pad of the receiver's bit
abbrev pub pad_at : List ℕ → ℕ → ℕ
pad_at key i = chosen (pair_at key i) (bit_at key i)

-- the sender's half that a key gives, of so many transfers
abbrev pub sender_dealt : List ℕ → ℕ → SenderHalf
sender_dealt seed n = let key = key_of seed in record {
  tag = bytes_at key 0;
  coin_key = bytes_at key 4 ++ bytes_at key 8;
  pads = map (pair_at key) (range_with_len 0 n);
}

-- the receiver's half that a key gives, of so many transfers
abbrev pub receiver_dealt : List ℕ → ℕ → Receiver
receiver_dealt seed n = let key = key_of seed in record {
  tag = bytes_at key 0;
  bits = map (bit_at key) (range_with_len 0 n);
  pads = map (pad_at key) (range_with_len 0 n);
}
