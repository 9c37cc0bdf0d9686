-- What the bytes of a frame have to be, and the first byte of a list that isn't so.
use Rattle.std.specs.Prelude.{ℕ, suc, ◌+◌, ◌/◌, ◌%◌, ◌^◌, ◌<◌, ◌≡◌, List, [], ◌∷◌, ◌++◌, length, map, replicate, slice_index, slice_index_or, nat_eq, if◌then◌else◌, Option, Some, None}
use Rattle.party_frames.specs.declared.frames.FrameKind.{FrameKind}
use Rattle.party_frames.specs.Frames.{header_bytes}

-- what a byte has to be: this one; one whose bits from this number on are 0; or any
pub data Form : Type 0 where
  Fixed : ℕ → Form
  Padded : ℕ → Form
  Free : Form

-- the byte that has to stand where this one was found
abbrev pub right_byte : Form → ℕ → ℕ
right_byte (Fixed byte) found = byte
right_byte (Padded bits) found = found % 2 ^ bits
right_byte Free found = found

-- the forms of the bytes of so many packed bits: of the last byte the bits behind the last one are 0
abbrev pub packed_forms : ℕ → List Form
packed_forms bits = replicate (bits / 8) Free ++ (if nat_eq (bits % 8) 0 then [] else Padded (bits % 8) ∷ [])

-- the forms of the bytes of a frame whose payload has these forms: its header is fixed
abbrev pub frame_forms : FrameKind → List Form → List Form
frame_forms kind payload = map Fixed (header_bytes (record { kind = kind; length = length payload })) ++ payload

-- a byte that isn't as its form wants: its place, the byte that has to stand there, and the one that does
pub record WrongByte : Type 0 where
  pub at : ℕ
  pub expected : ℕ
  pub found : ℕ

-- the same, the first that there is from a place on, as far as there are both forms and bytes
abbrev pub first_wrong_from : ℕ → List Form → List ℕ → Option WrongByte
first_wrong_from at [] bytes = None
first_wrong_from at (form ∷ forms) [] = None
first_wrong_from at (form ∷ forms) (byte ∷ bytes) =
    if nat_eq (right_byte form byte) byte then first_wrong_from (suc at) forms bytes
    else Some (record { at = at; expected = right_byte form byte; found = byte })

-- the first byte of a list that isn't as its form wants
abbrev pub first_wrong : List Form → List ℕ → Option WrongByte
first_wrong forms bytes = first_wrong_from 0 forms bytes

-- the byte at a place is as its form wants
abbrev pub IsRight : List Form → List ℕ → ℕ → Type 0
IsRight forms bytes i = right_byte (slice_index_or forms i Free) (slice_index bytes i) ≡ slice_index bytes i

-- the byte is the first that isn't as its form wants
pub record IsFirstWrong (forms : List Form) (bytes : List ℕ) (wrong : WrongByte) : Type 0 where
  pub here : wrong.at < length bytes
  pub bound : wrong.at < length forms
  pub found : wrong.found ≡ slice_index bytes wrong.at
  pub expected : wrong.expected ≡ right_byte (slice_index_or forms wrong.at Free) wrong.found
  pub differs : wrong.expected ≡ wrong.found → ⊥
  pub before : (i : ℕ) → i < wrong.at → IsRight forms bytes i

-- what is found is the first wrong byte, and where none is found, all bytes that there are forms for are right
abbrev pub FindsFirst : List Form → List ℕ → Option WrongByte → Type 0
FindsFirst forms bytes (Some wrong) = IsFirstWrong forms bytes wrong
FindsFirst forms bytes None = (i : ℕ) → i < length bytes → i < length forms → IsRight forms bytes i
