-- The frames of a session, as everybody sees them: by whom each is sent, what it is for, and how long it is.
use Rattle.std.specs.Prelude.{ℕ, zero, suc, ◌+◌, ◌*◌, ◌/◌, ◌%◌, nat_eq, if◌then◌else◌, List, [], ◌∷◌, ◌++◌}
use Rattle.oc_values.specs.Integers.{width}
use Rattle.oc_values.specs.Packing.{byte_count}
use Rattle.party_frames.specs.declared.frames.FrameKind.{FrameKind}
use Rattle.party_frames.specs.declared.frames.FrameKind.TheVariants.{Hello, Labels, Choice, Pairs, Tables, Decode, Shown, Colours, End}
use Rattle.party_frames.specs.Frames.{most_rows}
use Rattle.oc_meanings.specs.Events.{Entry, Feed, Reveal, Give, Print}
use Rattle.session_shapes.specs.declared.frames.SeenFrame.{SeenFrame}
use Rattle.session_shapes.specs.Gates.{ands}

-- a frame that a party sends
abbrev pub sends : ℕ → FrameKind → ℕ → SeenFrame
sends party kind n = record { sender = party; kind = kind; length = n }

-- the bytes of a label, and of the rows of a gate
abbrev pub label_bytes : ℕ
label_bytes = 16

abbrev pub rows_bytes : ℕ
rows_bytes = 32

-- n frames of the rows of as many gates as a frame holds
abbrev pub full_tables : ℕ → List SeenFrame
full_tables zero = []
full_tables (suc n) = sends 1 Tables (rows_bytes * most_rows) ∷ full_tables n

-- a frame of the rows of n gates, where there is any
abbrev pub last_tables : ℕ → List SeenFrame
last_tables zero = []
last_tables (suc n) = sends 1 Tables (rows_bytes * suc n) ∷ []

-- the frames of the rows of n gates
abbrev pub tables : ℕ → List SeenFrame
tables n = full_tables (n / most_rows) ++ last_tables (n % most_rows)

-- the frames of a private word of w bits: of the first party, or else of the second
abbrev pub fed_frames : ℕ → ℕ → List SeenFrame
fed_frames party w =
    if nat_eq party 1 then sends 1 Labels (label_bytes * w) ∷ []
    else sends 2 Choice (byte_count w) ∷ sends 1 Pairs (2 * label_bytes * w) ∷ []

-- the frame of a result of w bits: for the first party, or else for the second
abbrev pub given_frames : ℕ → ℕ → List SeenFrame
given_frames party w = (if nat_eq party 1 then sends 2 Colours (byte_count w) else sends 1 Decode (byte_count w)) ∷ []

-- the frames of an entry
abbrev pub frames_of : Entry → List SeenFrame
frames_of (Feed party k i) = fed_frames party (width k)
frames_of (Reveal k x) = sends 1 Decode (byte_count (width k)) ∷ sends 2 Shown (byte_count (width k)) ∷ []
frames_of (Give party k x) = given_frames party (width k)
frames_of (Print bytes) = []
frames_of e = tables (ands e)

-- the frames of a list of entries, in order
abbrev pub frames_of_all : List Entry → List SeenFrame
frames_of_all [] = []
frames_of_all (e ∷ es) = frames_of e ++ frames_of_all es

-- the frames with which both begin, and those with which both end
abbrev pub first_frames : List SeenFrame
first_frames = sends 1 Hello 57 ∷ sends 2 Hello 57 ∷ []

abbrev pub last_frames : List SeenFrame
last_frames = sends 1 End 1 ∷ sends 2 End 1 ∷ []

-- the shape of a session with these events
abbrev pub shape : List Entry → List SeenFrame
shape es = first_frames ++ frames_of_all es ++ last_frames

-- how many ANDs a list of entries has
abbrev pub ands_of_all : List Entry → ℕ
ands_of_all [] = 0
ands_of_all (e ∷ es) = ands e + ands_of_all es

-- how many bytes a frame has with its header, where this party sends it
abbrev pub bytes_by : ℕ → SeenFrame → ℕ
bytes_by party f = if nat_eq f.sender party then 5 + f.length else 0

-- how many bytes a party sends
abbrev pub bytes_of : ℕ → List SeenFrame → ℕ
bytes_of party [] = 0
bytes_of party (f ∷ fs) = bytes_by party f + bytes_of party fs
