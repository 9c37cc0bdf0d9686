-- Headings: which tokens spell a struct definition, a function and a program.
use Rattle.std.specs.Prelude.{ℕ, List, [], ◌∷◌, ◌++◌, Bool, true, false, Option, Some, None}
use Rattle.oc_source.specs.declared.spot.Spot.{Spot}
use Rattle.oc_source.specs.declared.literal.Literal.{Literal}
use Rattle.oc_source.specs.declared.parsed.BaseName.{BaseName}
use Rattle.oc_source.specs.declared.parsed.TypeName.{TypeName}
use Rattle.oc_source.specs.declared.parsed.FieldDef.{FieldDef}
use Rattle.oc_source.specs.declared.parsed.StructDef.{StructDef}
use Rattle.oc_source.specs.declared.parsed.Param.{Param}
use Rattle.oc_source.specs.declared.parsed.ParamArray.{ParamArray}
use Rattle.oc_source.specs.declared.parsed.ParamArray.TheVariants as array
use Rattle.oc_source.specs.declared.parsed.Function.{Function}
use Rattle.oc_source.specs.declared.parsed.Program.{Program}
use Rattle.oc_source.specs.declared.parsed.Stmt.{Stmt}
use Rattle.oc_lexer.specs.declared.token.Token.{Token}
use Rattle.oc_lexer.specs.declared.token.TokenKind.TheVariants.{Name, Number, Keyword, Sign}
use Rattle.oc_lexer.specs.declared.token.Keyword.TheVariants as w
use Rattle.oc_lexer.specs.declared.token.Sign.TheVariants as s
use Rattle.oc_grammar.specs.Tokens.{Is}
use Rattle.oc_grammar.specs.WrittenTypes.{Base, Stars, TypeNamed, Declr, Commas}
use Rattle.oc_grammar.specs.Statements.{Block}

-- names of one type, up to a semicolon
pub data Fields : List FieldDef → List Token → Type 0 where
  fields : {b : BaseName} {fs : List FieldDef} {t : Token} {x y : List Token} →
      Base b x → Commas (Declr b) fs y → Is (Sign s.Semicolon) t →
      Fields fs (x ++ (y ++ t ∷ []))

-- one or more of these
pub data AllFields : List FieldDef → List Token → Type 0 where
  last_fields : {fs : List FieldDef} {x : List Token} → Fields fs x → AllFields fs x
  more_fields : {fs gs : List FieldDef} {x y : List Token} →
      Fields fs x → AllFields gs y →
      AllFields (fs ++ gs) (x ++ y)

-- a struct definition: the spot of its name, the name, and the fields
abbrev pub struct_def : Spot → List ℕ → List FieldDef → StructDef
struct_def spot name fs = record { spot = spot; name = name; fields = fs }

-- a struct definition, up to its semicolon
pub data Struct : StructDef → List Token → Type 0 where
  struct : {t n a b c : Token} {name : List ℕ} {fs : List FieldDef} {x : List Token} →
      Is (Keyword w.Struct) t → Is (Name name) n → Is (Sign s.LeftBrace) a → AllFields fs x → Is (Sign s.RightBrace) b →
      Is (Sign s.Semicolon) c →
      Struct (struct_def n.spot name fs) (t ∷ (n ∷ (a ∷ (x ++ b ∷ (c ∷ [])))))

-- brackets after the name of a parameter
pub data Brackets : ParamArray → List Token → Type 0 where
  plain : Brackets array.Plain []
  open_brackets : {a b : Token} →
      Is (Sign s.LeftBracket) a → Is (Sign s.RightBracket) b →
      Brackets array.Open (a ∷ (b ∷ []))
  sized : {a b c : Token} {n : Literal} →
      Is (Sign s.LeftBracket) a → Is (Number n) b → Is (Sign s.RightBracket) c →
      Brackets (array.Sized n.value) (a ∷ (b ∷ (c ∷ [])))

-- a parameter: the spot of its name, the name, the base, the number of stars, and the brackets
abbrev pub param : Spot → List ℕ → BaseName → ℕ → ParamArray → Param
param spot name b n array = record { spot = spot; name = name; base = b; stars = n; array = array }

-- a parameter, from its type to its brackets
pub data Parameter : Param → List Token → Type 0 where
  parameter : {b : BaseName} {n : ℕ} {name : List ℕ} {r : ParamArray} {t : Token} {x y z : List Token} →
      Base b x → Stars n y → Is (Name name) t → Brackets r z →
      Parameter (param t.spot name b n r) (x ++ (y ++ t ∷ z))

-- what stands in the parentheses of a function: nothing, `void`, or parameters with commas between them
pub data Parameters : List Param → List Token → Type 0 where
  no_parameter : Parameters [] []
  void_parameter : {t : Token} → Is (Keyword w.Void) t → Parameters [] (t ∷ [])
  parameters : {ps : List Param} {x : List Token} → Commas Parameter ps x → Parameters ps x

-- the type of a result, or `void`
pub data Result : Option TypeName → List Token → Type 0 where
  void : {t : Token} → Is (Keyword w.Void) t → Result None (t ∷ [])
  typed : {ty : TypeName} {x : List Token} → TypeNamed ty x → Result (Some ty) x

-- the mark `obliv`, or none
pub data Mark : Bool → List Token → Type 0 where
  unmarked : Mark false []
  marked : {t : Token} → Is (Keyword w.Obliv) t → Mark true (t ∷ [])

-- a body, or the semicolon of a prototype
pub data Body : Option (List Stmt) → List Token → Type 0 where
  prototype : {t : Token} → Is (Sign s.Semicolon) t → Body None (t ∷ [])
  body : {vs : List Stmt} {x : List Token} → Block vs x → Body (Some vs) x

-- a function: the spot of its name, the name, the result, the parameters, whether it is marked, and the body
abbrev pub function : Spot → List ℕ → Option TypeName → List Param → Bool → Option (List Stmt) → Function
function spot name r ps mark b = record { spot = spot; name = name; result = r; params = ps; obliv = mark; body = b }

-- what follows the result of a function
pub data AfterResult (r : Option TypeName) : Function → List Token → Type 0 where
  after_result : {t a b : Token} {name : List ℕ} {ps : List Param} {mark : Bool} {bd : Option (List Stmt)} {y z w : List Token} →
      Is (Name name) t → Is (Sign s.LeftParen) a → Parameters ps y → Is (Sign s.RightParen) b → Mark mark z →
      Body bd w →
      AfterResult r (function t.spot name r ps mark bd) (t ∷ (a ∷ (y ++ b ∷ (z ++ w))))

-- a function with a body, or a prototype
pub data FunctionSpelled : Function → List Token → Type 0 where
  a_function : {r : Option TypeName} {f : Function} {x y : List Token} →
      Result r x → AfterResult r f y →
      FunctionSpelled f (x ++ y)

-- struct definitions and functions in any order
pub data Parts : List StructDef → List Function → List Token → Type 0 where
  no_part : Parts [] [] []
  struct_part : {d : StructDef} {ds : List StructDef} {fs : List Function} {x y : List Token} →
      Struct d x → Parts ds fs y →
      Parts (d ∷ ds) fs (x ++ y)
  function_part : {f : Function} {ds : List StructDef} {fs : List Function} {x y : List Token} →
      FunctionSpelled f x → Parts ds fs y →
      Parts ds (f ∷ fs) (x ++ y)

-- a program, whatever its end
pub data Derives : Program → List Token → Type 0 where
  program : {p : Program} {x : List Token} → Parts p.structs p.functions x → Derives p x
