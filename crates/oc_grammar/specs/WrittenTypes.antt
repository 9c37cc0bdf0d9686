-- Written types: which tokens spell a type, a declared name, and a list with commas.
use Rattle.std.specs.Prelude.{ℕ, ◌+◌, List, [], ◌∷◌, ◌++◌, true, false}
use Rattle.oc_values.specs.declared.integers.IntKind.{IntKind}
use Rattle.oc_values.specs.declared.integers.IntKind.TheVariants as kind
use Rattle.oc_source.specs.declared.literal.Literal.{Literal}
use Rattle.oc_source.specs.declared.parsed.BaseName.{BaseName}
use Rattle.oc_source.specs.declared.parsed.TypeName.{TypeName}
use Rattle.oc_source.specs.declared.parsed.FieldDef.{FieldDef}
use Rattle.oc_lexer.specs.declared.token.Token.{Token}
use Rattle.oc_lexer.specs.declared.token.TokenKind.TheVariants.{Name, Number, Keyword, Sign}
use Rattle.oc_lexer.specs.declared.token.Keyword.{Keyword as Word}
use Rattle.oc_lexer.specs.declared.token.Keyword.TheVariants as w
use Rattle.oc_lexer.specs.declared.token.Sign.TheVariants as s
use Rattle.oc_grammar.specs.declared.tables.Width.{Width}
use Rattle.oc_grammar.specs.declared.tables.Width.TheVariants as width
use Rattle.oc_grammar.specs.Tokens.{Is, spot_at}
use Rattle.oc_grammar.specs.Tables.{int_kind}
use Rattle.oc_source.specs.Parsed.{int_base, field}
use Rattle.oc_grammar.specs.Trees.{struct_base, type_name}

-- the keyword, or nothing
pub data Optional (word : Word) : Unit {0} → List Token → Type 0 where
  absent : Optional word tt []
  present : {t : Token} → Is (Keyword word) t → Optional word tt (t ∷ [])

-- the word that an integer type is named after
pub data Core : Width → List Token → Type 0 where
  char : {t : Token} → Is (Keyword w.Char) t → Core width.Char (t ∷ [])
  short : {t : Token} {x : List Token} → Is (Keyword w.Short) t → Optional w.Int tt x → Core width.Short (t ∷ x)
  int : {t : Token} → Is (Keyword w.Int) t → Core width.Int (t ∷ [])
  long : {t : Token} {x y : List Token} →
      Is (Keyword w.Long) t → Optional w.Long tt x → Optional w.Int tt y →
      Core width.Long (t ∷ (x ++ y))

-- an integer type without marks
pub data Ints : IntKind → List Token → Type 0 where
  bool : {t : Token} → Is (Keyword w.Bool) t → Ints kind.Bool (t ∷ [])
  underscore_bool : {t : Token} → Is (Keyword w.UnderscoreBool) t → Ints kind.Bool (t ∷ [])
  plain : {c : Width} {x : List Token} → Core c x → Ints (int_kind false c) x
  signed : {c : Width} {t : Token} {x : List Token} →
      Is (Keyword w.Signed) t → Core c x →
      Ints (int_kind false c) (t ∷ x)
  unsigned : {c : Width} {t : Token} {x : List Token} →
      Is (Keyword w.Unsigned) t → Core c x →
      Ints (int_kind true c) (t ∷ x)
  signed_alone : {t : Token} → Is (Keyword w.Signed) t → Ints kind.I32 (t ∷ [])
  unsigned_alone : {t : Token} → Is (Keyword w.Unsigned) t → Ints kind.U32 (t ∷ [])

-- an integer with its marks, or a struct
pub data Base : BaseName → List Token → Type 0 where
  plain_int : {k : IntKind} {x : List Token} → Ints k x → Base (int_base (spot_at x) false false k) x
  obliv_int : {k : IntKind} {t : Token} {x : List Token} →
      Is (Keyword w.Obliv) t → Ints k x →
      Base (int_base t.spot false true k) (t ∷ x)
  frozen_int : {k : IntKind} {t : Token} {x : List Token} →
      Is (Keyword w.Frozen) t → Ints k x →
      Base (int_base t.spot true false k) (t ∷ x)
  frozen_obliv : {k : IntKind} {t u : Token} {x : List Token} →
      Is (Keyword w.Frozen) t → Is (Keyword w.Obliv) u → Ints k x →
      Base (int_base t.spot true true k) (t ∷ (u ∷ x))
  obliv_frozen : {k : IntKind} {t u : Token} {x : List Token} →
      Is (Keyword w.Obliv) t → Is (Keyword w.Frozen) u → Ints k x →
      Base (int_base t.spot true true k) (t ∷ (u ∷ x))
  a_struct : {n : List ℕ} {t u : Token} →
      Is (Keyword w.Struct) t → Is (Name n) u →
      Base (struct_base t.spot false n) (t ∷ (u ∷ []))
  frozen_struct : {n : List ℕ} {f t u : Token} →
      Is (Keyword w.Frozen) f → Is (Keyword w.Struct) t → Is (Name n) u →
      Base (struct_base f.spot true n) (f ∷ (t ∷ (u ∷ [])))

-- this many stars
pub data Stars : ℕ → List Token → Type 0 where
  no_star : Stars 0 []
  star : {t : Token} {n : ℕ} {x : List Token} → Is (Sign s.Star) t → Stars n x → Stars (n + 1) (t ∷ x)

-- a written type without a name: a base and the stars after it
pub data TypeNamed : TypeName → List Token → Type 0 where
  type_named : {b : BaseName} {n : ℕ} {x y : List Token} → Base b x → Stars n y → TypeNamed (type_name b n) (x ++ y)

-- lengths in brackets
pub data Dims : List ℕ → List Token → Type 0 where
  no_dim : Dims [] []
  dim : {a b c : Token} {n : Literal} {ds : List ℕ} {x : List Token} →
      Is (Sign s.LeftBracket) a → Is (Number n) b → Is (Sign s.RightBracket) c → Dims ds x →
      Dims (n.value ∷ ds) (a ∷ (b ∷ (c ∷ x)))

-- a declared name of this base
pub data Declr (b : BaseName) : FieldDef → List Token → Type 0 where
  declr : {n : ℕ} {m : List ℕ} {ds : List ℕ} {t : Token} {x y : List Token} →
      Stars n x → Is (Name m) t → Dims ds y →
      Declr b (field t.spot m b n ds) (x ++ t ∷ y)

-- one or more, with commas between them
pub data Commas {A : Type 0} (form : A → List Token → Type 0) : List A → List Token → Type 0 where
  last : {v : A} {x : List Token} → form v x → Commas form (v ∷ []) x
  more : {t : Token} {v : A} {vs : List A} {x y : List Token} →
      form v x → Is (Sign s.Comma) t → Commas form vs y →
      Commas form (v ∷ vs) (x ++ t ∷ y)
