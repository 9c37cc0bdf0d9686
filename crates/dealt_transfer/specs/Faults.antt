-- The form faults of a half's file, and which is the first.
use Rattle.std.specs.Prelude.{ℕ, ◌+◌, ◌-◌, ◌*◌, Bool, not, nat_eq, nat_lt, List, [], ◌∷◌, ◌++◌, length, take, drop, slice_index, Option, Some, None, if◌then◌else◌}
use Rattle.byteorder.specs.Endian.{big_number}
use Rattle.std.specs.Str.{bytes_eq}
use Rattle.dealt_transfer.specs.declared.fault.HalfRule.{HalfRule}
use Rattle.dealt_transfer.specs.declared.fault.HalfRule.TheVariants.{H1, H2, H3, H4}
use Rattle.dealt_transfer.specs.Halves.{most_transfers}
use Rattle.oc_values.specs.Packing.{byte_count, padding_set}
use Rattle.dealt_transfer.specs.Files.{sender_magic, receiver_magic}

-- a fault that a file may have: whether it has it, and its rule and offset
pub record Check : Type 0 where
  pub found : Bool
  pub rule : HalfRule
  pub offset : ℕ

-- the first fault that is found
abbrev pub first_found : List Check → Option (HalfRule × ℕ)
first_found [] = None
first_found (c ∷ cs) = if c.found then Some (c.rule, c.offset) else first_found cs

-- the file ends before this many bytes: H3 at its length
abbrev pub ends_before : ℕ → List ℕ → Check
ends_before size bytes = record { found = nat_lt (length bytes) size; rule = H3; offset = length bytes }

-- the file goes on behind this many bytes: H3 at the first that is too much
abbrev pub goes_past : ℕ → List ℕ → Check
goes_past size bytes = record { found = nat_lt size (length bytes); rule = H3; offset = size }

-- the magic is another: H1 at 0
abbrev pub has_other_magic : List ℕ → List ℕ → Check
has_other_magic magic bytes = record { found = not (bytes_eq (take 4 bytes) magic); rule = H1; offset = 0 }

-- the version is another: H2 at 4
abbrev pub has_other_version : List ℕ → Check
has_other_version bytes = record { found = not (nat_eq (slice_index bytes 4) 1); rule = H2; offset = 4 }

-- the number of transfers that stands at a place, in four bytes, the highest first
abbrev pub count_at : ℕ → List ℕ → ℕ
count_at at bytes = big_number 4 (drop at bytes)

-- it is too high: H3 at that place
abbrev pub counts_too_many : ℕ → List ℕ → Check
counts_too_many at bytes = record { found = nat_lt most_transfers (count_at at bytes); rule = H3; offset = at }

-- the last of the bytes of this many bits, which stand from a place on, has a bit besides them: H4 at that byte
abbrev pub has_padding : ℕ → ℕ → List ℕ → Check
has_padding bits at bytes = record {
  found = padding_set bits (drop at bytes);
  rule = H4;
  offset = at + byte_count bits - 1;
}

-- the fields up to the number of transfers, in the order in which they stand
abbrev pub opening_checks : List ℕ → ℕ → List ℕ → List Check
opening_checks magic at bytes =
    ends_before 4 bytes ∷ has_other_magic magic bytes ∷ ends_before 5 bytes ∷ has_other_version bytes
    ∷ ends_before (at + 4) bytes ∷ counts_too_many at bytes ∷ []

-- the size of the file, which must be so many bytes
abbrev pub size_checks : ℕ → List ℕ → List Check
size_checks size bytes = ends_before size bytes ∷ goes_past size bytes ∷ []

-- the bits, which stand from a place on
abbrev pub bits_checks : ℕ → ℕ → List ℕ → List Check
bits_checks bits at bytes = ends_before (at + byte_count bits) bytes ∷ has_padding bits at bytes ∷ []

-- the size of a sender's file of so many transfers
abbrev pub sender_size : ℕ → ℕ
sender_size n = 57 + 32 * n

-- the size of a receiver's file of so many transfers
abbrev pub receiver_size : ℕ → ℕ
receiver_size n = 25 + byte_count n + 16 * n

-- the faults that a sender's file may have, in the order in which they are sought
abbrev pub sender_checks : List ℕ → List Check
sender_checks bytes = opening_checks sender_magic 53 bytes ++ size_checks (sender_size (count_at 53 bytes)) bytes

-- the faults that a receiver's file may have, in the order in which they are sought
abbrev pub receiver_checks : List ℕ → List Check
receiver_checks bytes =
    let n = count_at 21 bytes in
    opening_checks receiver_magic 21 bytes ++ (bits_checks n 25 bytes ++ size_checks (receiver_size n) bytes)

-- the form fault of a sender's file, if it has one
unfoldable pub sender_fault : List ℕ → Option (HalfRule × ℕ)
sender_fault bytes = first_found (sender_checks bytes)

-- the form fault of a receiver's file, if it has one
unfoldable pub receiver_fault : List ℕ → Option (HalfRule × ℕ)
receiver_fault bytes = first_found (receiver_checks bytes)
