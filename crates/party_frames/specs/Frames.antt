-- Frames. A frame is a header, which says its kind and how many bytes follow, and a payload of that many bytes.
use Rattle.std.specs.Prelude.{ℕ, List, ◌∷◌, ◌++◌, length}
use Rattle.std.specs.Int.{w32, to_be_bytes}
use Rattle.party_frames.specs.declared.frames.FrameKind.{FrameKind}
use Rattle.party_frames.specs.declared.frames.FrameKind.TheVariants.{Hello, Labels, Choice, Pairs, Tables, Decode, Shown, Colours, End}
use Rattle.party_frames.specs.declared.frames.Header.{Header}

-- the byte that a frame of a kind begins with
abbrev pub kind_byte : FrameKind → ℕ
kind_byte Hello = 1
kind_byte Labels = 2
kind_byte Choice = 3
kind_byte Pairs = 4
kind_byte Tables = 5
kind_byte Decode = 6
kind_byte Shown = 7
kind_byte Colours = 8
kind_byte End = 9

-- the five bytes of a header: the kind, and the length in four bytes, the highest first
unfoldable pub header_bytes : Header → List ℕ
header_bytes header = kind_byte header.kind ∷ to_be_bytes w32 header.length

-- a frame: its kind and its payload
pub record Frame : Type 0 where
  pub kind : FrameKind
  pub payload : List ℕ

-- the bytes of a frame: its header, and its payload
abbrev pub frame_bytes : Frame → List ℕ
frame_bytes frame = header_bytes (record { kind = frame.kind; length = length frame.payload }) ++ frame.payload

-- how many bytes an inbox holds at most, and an outbox
abbrev pub most_frame_bytes : ℕ
most_frame_bytes = 327680

-- how many pairs of rows a batch holds at most, and so one Tables frame
abbrev pub most_rows : ℕ
most_rows = 1024
