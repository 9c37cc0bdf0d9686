-- What a print is: its format, and the values that it takes.
use Rattle.std.specs.Prelude.{if◌then◌else◌, ℕ, nat_eq, nat_le, List, [], ◌∷◌, ◌++◌, length, Bool, true, false, ◌&&◌, Option, Some, None, Ok}
use Rattle.oc_values.specs.declared.integers.IntKind.{IntKind}
use Rattle.oc_values.specs.declared.integers.IntKind.TheVariants.{I32, U32, I64, U64}
use Rattle.oc_values.specs.Integers.{width}
use Rattle.oc_source.specs.declared.spot.Spot.{Spot}
use Rattle.oc_cells.specs.declared.types.CType.{Int, Nothing}
use Rattle.oc_typed.specs.declared.typed.TExpr.{TExpr}
use Rattle.oc_typed.specs.declared.typed.TExprNode as t
use Rattle.oc_typed.specs.declared.typed.Builtin.TheVariants as own
use Rattle.oc_typed.specs.declared.typed.PrintPiece.{PrintPiece}
use Rattle.oc_typed.specs.declared.typed.PrintPiece.TheVariants as piece
use Rattle.type_rules.specs.declared.judging.TypeRule.TheVariants.{T3, T7, T8}
use Rattle.type_rules.specs.declared.judging.Found.{Found}
use Rattle.oc_cells.specs.Types.{kind_of}
use Rattle.oc_values.specs.Kinds.{promoted}
use Rattle.type_rules.specs.Judging.{Judged, next, needs}
use Rattle.type_rules.specs.Lookup.{is, convert}

-- a format as far as it is one, and whether it is one to its end
pub record Format : Type 0 where
  pub pieces : List PrintPiece
  pub good : Bool

-- what of a conversion has been read
pub data Part : Type 0 where
  Outside : Part
  Percent : Part
  Long : Part
  LongLong : Part

-- a piece before these
abbrev pub with_piece : PrintPiece → Format → Format
with_piece x f = record { pieces = x ∷ f.pieces; good = f.good }

-- a byte of text before these pieces
abbrev pub byte_before : ℕ → List PrintPiece → List PrintPiece
byte_before b [] = piece.Text (b ∷ []) ∷ []
byte_before b (piece.Text bs ∷ ps) = piece.Text (b ∷ bs) ∷ ps
byte_before b (piece.Decimal k ∷ ps) = piece.Text (b ∷ []) ∷ piece.Decimal k ∷ ps
byte_before b (piece.Byte ∷ ps) = piece.Text (b ∷ []) ∷ piece.Byte ∷ ps

-- a byte of text before these pieces
abbrev pub with_byte : ℕ → Format → Format
with_byte b f = record { pieces = byte_before b f.pieces; good = f.good }

-- no piece, and whether the format is one to its end
abbrev pub ended : Bool → Format
ended good = record { pieces = []; good = good }

-- the bytes `%`, `c`, `d`, `l`, `u` are 37, 99, 100, 108, 117
abbrev pub format : Part → List ℕ → Format
format Outside [] = ended true
format Percent [] = ended false
format Long [] = ended false
format LongLong [] = ended false
format Outside (b ∷ bs) = if nat_eq b 37 then format Percent bs else with_byte b (format Outside bs)
format Percent (b ∷ bs) =
    if nat_eq b 37 then with_byte 37 (format Outside bs)
    else if nat_eq b 100 then with_piece (piece.Decimal I32) (format Outside bs)
    else if nat_eq b 117 then with_piece (piece.Decimal U32) (format Outside bs)
    else if nat_eq b 99 then with_piece piece.Byte (format Outside bs)
    else if nat_eq b 108 then format Long bs
    else ended false
format Long (b ∷ bs) =
    if nat_eq b 100 then with_piece (piece.Decimal I64) (format Outside bs)
    else if nat_eq b 117 then with_piece (piece.Decimal U64) (format Outside bs)
    else if nat_eq b 108 then format LongLong bs
    else ended false
format LongLong (b ∷ bs) =
    if nat_eq b 100 then with_piece (piece.Decimal I64) (format Outside bs)
    else if nat_eq b 117 then with_piece (piece.Decimal U64) (format Outside bs)
    else ended false

-- the kinds that these pieces ask for
abbrev pub asked : List PrintPiece → List IntKind
asked [] = []
asked (piece.Text bs ∷ ps) = asked ps
asked (piece.Decimal k ∷ ps) = k ∷ asked ps
asked (piece.Byte ∷ ps) = I32 ∷ asked ps

-- the format that a text is, if there is one
abbrev pub format_of : Option (List ℕ) → Format
format_of None = ended true
format_of (Some text) = format Outside text

-- the values of a print, and whether each has the width that is asked for
pub record Printed : Type 0 where
  pub args : List TExpr
  pub fit : Bool

-- a value that is printed as this kind, whose promoted width it has
abbrev pub printed_value : IntKind → TExpr → Judged Printed
printed_value k v =
    next (convert (Int k false) v) (λ x.
    Ok (record { args = x ∷ []; fit = nat_eq (width (promoted (kind_of v.ty))) (width k) }))

-- the values of two parts of a print
abbrev pub printed_both : Printed → Printed → Printed
printed_both a b = record { args = a.args ++ b.args; fit = a.fit && b.fit }

-- how many bytes a text has, if there is one
abbrev pub text_length : Option (List ℕ) → ℕ
text_length None = 0
text_length (Some text) = length text

-- whether there is a text
abbrev pub is_there : Option (List ℕ) → Bool
is_there None = false
is_there (Some text) = true

-- a print: whether it has a first argument, the text if that is one, and the values after it
abbrev pub print_called : Bool → Spot → Bool → Option (List ℕ) → Printed → Judged Found
print_called alone p any text a =
    let f = format_of text in
    next (needs p T3 alone) (λ _.
    next (needs p T7 any) (λ _.
    next (needs p T8 (is_there text && f.good && a.fit && nat_eq (length a.args) (length (asked f.pieces))
    && nat_le (length a.args) 64 && nat_le (text_length text) 4000)) (λ _.
    is p Nothing (t.Builtin (own.Print f.pieces) a.args))))
