-- Continuations: what is left of a written type after its first tokens.
use Rattle.std.specs.Prelude.{ℕ, List, [], ◌∷◌, Bool, true, false}
use Rattle.oc_values.specs.declared.integers.IntKind.{IntKind}
use Rattle.oc_values.specs.declared.integers.IntKind.TheVariants as kind
use Rattle.oc_source.specs.declared.spot.Spot.{Spot}
use Rattle.oc_source.specs.declared.literal.Literal.{Literal}
use Rattle.oc_source.specs.declared.parsed.BaseName.{BaseName}
use Rattle.oc_source.specs.declared.parsed.TypeName.{TypeName}
use Rattle.oc_lexer.specs.declared.token.Token.{Token}
use Rattle.oc_lexer.specs.declared.token.TokenKind.TheVariants.{Number, Keyword, Sign}
use Rattle.oc_lexer.specs.declared.token.Keyword.{Keyword as Word}
use Rattle.oc_lexer.specs.declared.token.Keyword.TheVariants as w
use Rattle.oc_lexer.specs.declared.token.Sign.TheVariants as s
use Rattle.oc_grammar.specs.declared.tables.Width.{Width}
use Rattle.oc_grammar.specs.declared.tables.Width.TheVariants as width
use Rattle.oc_grammar.specs.declared.tables.Opening.{Opening}
use Rattle.oc_grammar.specs.declared.tables.Opening.TheVariants as o
use Rattle.oc_grammar.specs.Tokens.{Is, NotNext}
use Rattle.oc_grammar.specs.Tables.{int_kind, opening}
use Rattle.oc_source.specs.Parsed.{int_base}
use Rattle.oc_grammar.specs.Trees.{struct_base}
use Rattle.oc_grammar.specs.Parsing.{End, Then, By, Maybe}
use Rattle.oc_grammar.specs.Calls.{One, ANamed}
use Rattle.oc_grammar.specs.WrittenTypes.{Optional, Ints, TypeNamed}

-- no keyword comes next
abbrev pub NoWord : List Token → Type 0
NoWord [] = Unit {0}
NoWord (t ∷ ts) = (word : Word) → Is (Keyword word) t → ⊥

-- the same, after any value
abbrev pub BeforeNoWord : {A : Type 0} → A → List Token → Type 0
BeforeNoWord v ts = NoWord ts

-- this keyword does not come next
abbrev pub NotWord : Word → Unit {0} → List Token → Type 0
NotWord word u ts = NotNext (Keyword word) ts

-- after the word that an integer type is named after
abbrev pub tail : Bool → Width → IntKind → List Token → Type 0
tail u width.Char = End (int_kind u width.Char)
tail u width.Short = Then (Optional w.Int) (λ _. End (int_kind u width.Short))
tail u width.Int = End (int_kind u width.Int)
tail u width.Long = Then (Optional w.Long) (λ _. Then (Optional w.Int) (λ _. End (int_kind u width.Long)))

-- what follows a word that an integer type is named after, by what that word begins
abbrev pub width_after : Bool → Opening → IntKind → List Token → Type 0
width_after u (o.Named c) = tail u c
width_after u _ = λ v ys. ⊥

-- after the first word of an integer type, by what that word begins
abbrev pub int_after : Opening → IntKind → List Token → Type 0
int_after o.Bool = End kind.Bool
int_after (o.Signs u) = Maybe (λ t. width_after u (opening t.kind)) (int_kind u width.Int)
int_after (o.Named c) = tail false c
int_after _ = λ v ys. ⊥

-- after the first word of an integer type that begins at the spot, with these marks
abbrev pub marked : Opening → Spot → Bool → Bool → BaseName → List Token → Type 0
marked op spot frozen obliv = Then (int_after op) (λ k. End (int_base spot frozen obliv k))

-- after `struct`, where the type begins at the spot
abbrev pub named_struct : Spot → Bool → BaseName → List Token → Type 0
named_struct spot frozen = Then ANamed (λ n. End (struct_base spot frozen n.name))

-- after `obliv` at the spot and a token that begins `op`
abbrev pub after_obliv : Spot → Opening → BaseName → List Token → Type 0
after_obliv spot o.Frozen = Then Ints (λ k. End (int_base spot true true k))
after_obliv spot op = marked op spot false true

-- after `frozen` at the spot and a token that begins `op`
abbrev pub after_frozen : Spot → Opening → BaseName → List Token → Type 0
after_frozen spot o.Obliv = Then Ints (λ k. End (int_base spot true true k))
after_frozen spot o.Struct = named_struct spot true
after_frozen spot op = marked op spot true false

-- after the first token of a type, which begins `op` at the spot
abbrev pub base_after : Spot → Opening → BaseName → List Token → Type 0
base_after spot o.Frozen = By (λ t. after_frozen spot (opening t.kind))
base_after spot o.Obliv = By (λ t. after_obliv spot (opening t.kind))
base_after spot o.Struct = named_struct spot false
base_after spot op = marked op spot false false

-- a type and then a closing parenthesis
abbrev pub closed_type : TypeName → List Token → Type 0
closed_type = Then TypeNamed (λ ty. Then (One (Sign s.RightParen)) (λ _. End ty))

-- no star comes next
abbrev pub NoStar : {A : Type 0} → A → List Token → Type 0
NoStar v ts = NotNext (Sign s.Star) ts

-- no opening bracket comes next
abbrev pub NoBracket : {A : Type 0} → A → List Token → Type 0
NoBracket v ts = NotNext (Sign s.LeftBracket) ts

-- a number, as the length of an array
pub data ALength : ℕ → List Token → Type 0 where
  a_length : {n : Literal} {t : Token} → Is (Number n) t → ALength n.value (t ∷ [])

-- after an opening bracket: a length and the closing bracket
abbrev pub dim_rest : ℕ → List Token → Type 0
dim_rest = Then ALength (λ n. Then (One (Sign s.RightBracket)) (λ _. End n))
