-- Shapes that are computed: of a comparison of two words, of none, and of one of 64 bits with a division.
use Rattle.std.proofs.Common.{◌≡◌, refl, List, [], ◌∷◌}
use Rattle.oc_values.specs.declared.integers.IntKind.TheVariants.{Bool as KBool, I32, U64}
use Rattle.oc_values.specs.declared.integers.BinaryOp.TheVariants.{Greater, Div}
use Rattle.party_frames.specs.declared.frames.FrameKind.TheVariants.{Hello, Labels, Choice, Pairs, Tables, Decode, Shown, End}
use Rattle.oc_meanings.specs.Events.{Entry, Of, Feed, Op, Reveal}
use Rattle.session_shapes.specs.Shapes.{sends, shape, tables, ands_of_all, bytes_of}

-- a comparison of a word of each party, revealed
abbrev compared : List Entry
compared = Feed 1 I32 0 ∷ Feed 2 I32 0 ∷ Op Greater I32 (Of 0) (Of 1) ∷ Reveal KBool (Of 2) ∷ []

compared_shape : shape compared ≡
    sends 1 Hello 57 ∷ sends 2 Hello 57 ∷ sends 1 Labels 512 ∷ sends 2 Choice 4 ∷ sends 1 Pairs 1024 ∷ sends 1 Tables 1024
    ∷ sends 1 Decode 1 ∷ sends 2 Shown 1 ∷ sends 1 End 1 ∷ sends 2 End 1 ∷ []
compared_shape = refl

compared_ands : ands_of_all compared ≡ 32
compared_ands = refl

compared_by_first : bytes_of 1 (shape compared) ≡ 2649
compared_by_first = refl

compared_by_second : bytes_of 2 (shape compared) ≡ 83
compared_by_second = refl

-- a session without events
nothing_by_first : bytes_of 1 (shape []) ≡ 68
nothing_by_first = refl

-- the rows of a quotient of 64 bits without a sign: eight frames of 1,024 gates and one of 64
quotient_tables : tables 8256 ≡
    sends 1 Tables 32768 ∷ sends 1 Tables 32768 ∷ sends 1 Tables 32768 ∷ sends 1 Tables 32768 ∷ sends 1 Tables 32768 ∷ sends 1 Tables 32768
    ∷ sends 1 Tables 32768 ∷ sends 1 Tables 32768 ∷ sends 1 Tables 2048 ∷ []
quotient_tables = refl

quotient_ands : ands_of_all (Op Div U64 (Of 0) (Of 1) ∷ []) ≡ 8256
quotient_ands = refl

-- just one full frame, and one gate more
full_tables_alone : tables 1024 ≡ sends 1 Tables 32768 ∷ []
full_tables_alone = refl

one_gate_more : tables 1025 ≡ sends 1 Tables 32768 ∷ sends 1 Tables 32 ∷ []
one_gate_more = refl
