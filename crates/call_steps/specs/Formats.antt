-- A format that is read from its front, with the text that was read and isn't a piece yet.
use Rattle.std.specs.Prelude.{ℕ, List, [], ◌∷◌, ◌++◌, Bool, true, false, Option, Some, None}
use Rattle.oc_values.specs.declared.integers.IntKind.{IntKind}
use Rattle.oc_typed.specs.declared.typed.PrintPiece.{PrintPiece}
use Rattle.oc_typed.specs.declared.typed.PrintPiece.TheVariants as piece
use Rattle.type_rules.specs.Prints.{Format, Outside, Percent, Long, LongLong, byte_before, with_byte, with_piece, ended, format}
use Rattle.call_steps.specs.declared.formats.Reading.{Reading}
use Rattle.call_steps.specs.declared.formats.Reading.TheVariants as reading
use Rattle.call_steps.specs.declared.formats.Turn.{Turn}
use Rattle.call_steps.specs.declared.formats.Turn.TheVariants as turn
use Rattle.call_steps.specs.declared.formats.Reader.{Reader}

-- the format that these bytes are where so much of a conversion has been read
abbrev pub format_from : Reading → List ℕ → Format
format_from reading.Outside bs = format Outside bs
format_from reading.Percent bs = format Percent bs
format_from reading.Long bs = format Long bs
format_from reading.LongLong bs = format LongLong bs
format_from reading.Broken bs = ended false

-- the format of a byte with what it does and of the bytes after it
abbrev pub turned : Turn → ℕ → List ℕ → Format
turned turn.Text b bs = with_byte b (format_from reading.Outside bs)
turned (turn.On r) b bs = format_from r bs
turned (turn.Decimal k) b bs = with_piece (piece.Decimal k) (format_from reading.Outside bs)
turned turn.Byte b bs = with_piece piece.Byte (format_from reading.Outside bs)

-- the conversion to decimal by a kind, or to a byte
abbrev pub piece_of : Option IntKind → PrintPiece
piece_of (Some k) = piece.Decimal k
piece_of None = piece.Byte

-- bytes of text before these pieces
abbrev pub bytes_before : List ℕ → List PrintPiece → List PrintPiece
bytes_before [] ps = ps
bytes_before (b ∷ bs) ps = byte_before b (bytes_before bs ps)

-- pieces and bytes of text before a format
abbrev pub read_before : List PrintPiece → List ℕ → Format → Format
read_before done text f = record { pieces = done ++ bytes_before text f.pieces; good = f.good }

-- what was read and then these bytes
abbrev pub read_with : Reader → List ℕ → Format
read_with r bs = read_before r.pieces r.text.items (format_from r.reading bs)

-- whether a format may end where so much of a conversion has been read
abbrev pub may_end : Reading → Bool
may_end reading.Outside = true
may_end _ = false
