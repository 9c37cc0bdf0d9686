-- What the tables say of a token, read backwards.
use Rattle.std.proofs.Common.{true, false}
use Rattle.oc_lexer.specs.declared.token.TokenKind.{TokenKind}
use Rattle.oc_lexer.specs.declared.token.TokenKind.TheVariants.{Keyword}
use Rattle.oc_lexer.specs.declared.token.Keyword.TheVariants as w
use Rattle.oc_grammar.specs.declared.tables.Width.TheVariants as width
use Rattle.oc_grammar.specs.declared.tables.Opening.{Opening}
use Rattle.oc_grammar.specs.declared.tables.Opening.TheVariants as o
use Rattle.oc_grammar.specs.Tables.{opening}

pub data OpeningView : TokenKind → Opening → Type 0 where
  is_frozen : OpeningView (Keyword w.Frozen) o.Frozen
  is_obliv : OpeningView (Keyword w.Obliv) o.Obliv
  is_struct : OpeningView (Keyword w.Struct) o.Struct
  is_bool : OpeningView (Keyword w.Bool) o.Bool
  is_underscore_bool : OpeningView (Keyword w.UnderscoreBool) o.Bool
  is_signed : OpeningView (Keyword w.Signed) (o.Signs false)
  is_unsigned : OpeningView (Keyword w.Unsigned) (o.Signs true)
  is_char : OpeningView (Keyword w.Char) (o.Named width.Char)
  is_short : OpeningView (Keyword w.Short) (o.Named width.Short)
  is_int : OpeningView (Keyword w.Int) (o.Named width.Int)
  is_long : OpeningView (Keyword w.Long) (o.Named width.Long)
  is_other : {k : TokenKind} → OpeningView k o.Other

pub opening_view : (k : TokenKind) → OpeningView k (opening k)
opening_view (Keyword w.Frozen) = is_frozen
opening_view (Keyword w.Obliv) = is_obliv
opening_view (Keyword w.Struct) = is_struct
opening_view (Keyword w.Bool) = is_bool
opening_view (Keyword w.UnderscoreBool) = is_underscore_bool
opening_view (Keyword w.Signed) = is_signed
opening_view (Keyword w.Unsigned) = is_unsigned
opening_view (Keyword w.Char) = is_char
opening_view (Keyword w.Short) = is_short
opening_view (Keyword w.Int) = is_int
opening_view (Keyword w.Long) = is_long
opening_view _ = is_other
