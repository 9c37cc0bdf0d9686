-- Frames that are written piece by piece, and rows that are read one after another.
use Rattle.std.proofs.Common.{ℕ, ◌+◌, ◌*◌, ◌≡◌, ◌<◌, ◌≤◌, Bool, List, [], ◌∷◌, ◌++◌, length, take, drop, refl, sym, ap, ◌∙◌, arith, append_assoc, length-append}
use Rattle.std.specs.List.{flat_map}
use Rattle.std.proofs.lemmas.List.{length-take, length-drop}
use Rattle.oc_values.specs.Packing.{number_of_bits, byte_count, pack}
use Rattle.oc_values.proofs.Packs.{pack_more, pack_last, pack_none}
use Rattle.dealt_transfer.specs.Files.{label_bytes, pair_bytes}
use Rattle.dealt_transfer.proofs.Pieces.{pairs_step, length-pairs}
use Rattle.party_frames.specs.declared.frames.FrameKind.{FrameKind}
use Rattle.party_frames.specs.Frames.{header_bytes, frame_bytes}

-- a header and its payload, one after the other, are a frame
pub framed : (start header payload : List ℕ) (kind : FrameKind) (n : ℕ) → header ≡ header_bytes (record { kind = kind; length = n }) → n ≡ length payload
    → (start ++ header) ++ payload ≡ start ++ frame_bytes (record { kind = kind; payload = payload })
framed start header payload kind n h e =
    append_assoc start header payload ∙ ap (λ (t : List ℕ). start ++ (t ++ payload)) (h ∙ ap (λ (k : ℕ). header_bytes (record { kind = kind; length = k })) e)

-- ---- rows

-- one more pair of rows was read
pub rows_step : (i first second : ℕ) (bytes : List ℕ) (rows : List (ℕ × ℕ)) → flat_map pair_bytes rows ≡ take (32 * i) bytes
    → label_bytes first ≡ take 16 (drop (32 * i) bytes) → label_bytes second ≡ take 16 (drop (32 * i + 16) bytes)
    → flat_map pair_bytes (rows ++ (first, second) ∷ []) ≡ take (32 * (i + 1)) bytes
rows_step i first second bytes rows e h k =
    let z : 0 + 32 * i ≡ 32 * i = omega arith in
    pairs_step 0 i first second bytes rows e (h ∙ ap (λ (n : ℕ). take 16 (drop n bytes)) (sym z)) (k ∙ ap (λ (n : ℕ). take 16 (drop (n + 16) bytes)) (sym z))

-- there is room for one more pair of rows
pub rows_room : (start before : List ℕ) (rows : List (ℕ × ℕ)) (i most : ℕ) → before ≡ start ++ flat_map pair_bytes (take i rows) → i < length rows
    → length start + 32 * length rows ≤ most → length before + 32 ≤ most
rows_room start before rows i most e lt fits =
    let size = ap length e in
    omega (arith, size, length-append start (flat_map pair_bytes (take i rows)), length-pairs (take i rows), length-take i rows, lt, fits)

-- ---- bits

-- eight more bits were written
pub bits_step : (start before after : List ℕ) (byte : ℕ) (rest back : List Bool) → 8 < length rest → after ≡ before ++ byte ∷ [] → byte ≡ number_of_bits (take 8 rest)
    → back ≡ drop 8 rest → before ++ pack rest ≡ start → after ++ pack back ≡ start
bits_step start before after byte rest back lt h hb hr e =
    ap (λ (t : List ℕ). t ++ pack back) h ∙ append_assoc before (byte ∷ []) (pack back)
    ∙ ap (λ (t : List ℕ). before ++ t) (ap (λ (b : ℕ). b ∷ pack back) hb ∙ ap (λ (bits : List Bool). number_of_bits (take 8 rest) ∷ pack bits) hr ∙ sym (pack_more rest lt)) ∙ e

-- there is room for the others
pub bits_room : (before after : List ℕ) (byte most : ℕ) (rest back : List Bool) → 8 < length rest → after ≡ before ++ byte ∷ [] → back ≡ drop 8 rest
    → length before + byte_count (length rest) ≤ most → length after + byte_count (length back) ≤ most
bits_room before after byte most rest back lt h hr fits =
    let grown = ap length h in
    let left = ap length hr in
    omega (arith, grown, left, length-append before (byte ∷ []), length-drop 8 rest, lt, fits)

-- the last bits were written
pub bits_last : (start before after : List ℕ) (byte : ℕ) (rest : List Bool) → length rest ≤ 8 → 0 < length rest → after ≡ before ++ byte ∷ [] → byte ≡ number_of_bits rest
    → before ++ pack rest ≡ start → after ≡ start
bits_last start before after byte rest le some h hb e =
    h ∙ ap (λ (b : ℕ). before ++ b ∷ []) hb ∙ ap (λ (t : List ℕ). before ++ t) (sym (pack_last rest le some)) ∙ e
