-- Continuations: what is left of a struct definition and of a function after their first tokens.
use Rattle.std.specs.Prelude.{List, [], ◌∷◌, ◌++◌, Bool, false, Option, Some}
use Rattle.oc_source.specs.declared.spot.Spot.{Spot}
use Rattle.oc_source.specs.declared.parsed.BaseName.{BaseName}
use Rattle.oc_source.specs.declared.parsed.TypeName.{TypeName}
use Rattle.oc_source.specs.declared.parsed.FieldDef.{FieldDef}
use Rattle.oc_source.specs.declared.parsed.StructDef.{StructDef}
use Rattle.oc_source.specs.declared.parsed.Param.{Param}
use Rattle.oc_source.specs.declared.parsed.Function.{Function}
use Rattle.oc_lexer.specs.declared.token.Token.{Token}
use Rattle.oc_lexer.specs.declared.token.TokenKind.TheVariants.{Keyword, Sign}
use Rattle.oc_lexer.specs.declared.token.Keyword.TheVariants as w
use Rattle.oc_lexer.specs.declared.token.Sign.TheVariants as s
use Rattle.oc_grammar.specs.declared.taking.Named.{Named}
use Rattle.oc_grammar.specs.Tokens.{Is, NotNext}
use Rattle.oc_grammar.specs.Trees.{struct_base, type_name}
use Rattle.oc_grammar.specs.Parsing.{End, Then}
use Rattle.oc_grammar.specs.Calls.{One, ANamed}
use Rattle.oc_grammar.specs.WrittenTypes.{Stars}
use Rattle.oc_grammar.specs.Headings.{Fields, Struct, struct_def, Parameters, Mark, AfterResult, FunctionSpelled}
use Rattle.oc_parser.specs.declared.functions.Heading.{Heading}
use Rattle.oc_parser.specs.declared.parts.Part.{Part}
use Rattle.oc_parser.specs.declared.parts.Part.TheVariants as part

-- neither a comma nor an opening bracket comes next
abbrev pub DeclaratorsEnd : {A : Type 0} → A → List Token → Type 0
DeclaratorsEnd v ts = NotNext (Sign s.Comma) ts × NotNext (Sign s.LeftBracket) ts

-- ---- structs

-- after the fields l: further ones, up to the closing brace
pub data FieldRun : List FieldDef → List FieldDef → List Token → Type 0 where
  run_end : {l : List FieldDef} {t : Token} → Is (Sign s.RightBrace) t → FieldRun l l (t ∷ [])
  run_more : {l fs gs : List FieldDef} {x y : List Token} →
      Fields fs x → FieldRun (l ++ fs) gs y →
      FieldRun l gs (x ++ y)

-- fields up to the closing brace
abbrev pub closed_fields : List FieldDef → List Token → Type 0
closed_fields = Then Fields FieldRun

-- after `struct`, the name and `{`
abbrev pub struct_after : Named → Part → List Token → Type 0
struct_after n = Then closed_fields (λ fs. Then (One (Sign s.Semicolon)) (λ _. End (part.Struct (struct_def n.spot n.name fs))))

-- ---- functions

-- parameters up to the closing parenthesis
abbrev pub closed_parameters : List Param → List Token → Type 0
closed_parameters = Then Parameters (λ ps. Then (One (Sign s.RightParen)) (λ _. End ps))

-- no `obliv` comes next
abbrev pub NoObliv : {A : Type 0} → A → List Token → Type 0
NoObliv v ts = NotNext (Keyword w.Obliv) ts

-- a heading: the name with its spot, the parameters, and whether the function is marked
abbrev pub heading : Named → List Param → Bool → Heading
heading n ps mark = record { named = n; params = ps; obliv = mark }

-- between the result of a function and its body
abbrev pub signature : Heading → List Token → Type 0
signature = Then ANamed (λ n. Then (One (Sign s.LeftParen)) (λ _. Then closed_parameters (λ ps. Then Mark (λ m. End (heading n ps m)))))

-- after the result of a function
abbrev pub function_after : Option TypeName → Part → List Token → Type 0
function_after r = Then (AfterResult r) (λ f. End (part.Function f))

-- after what the type of the result begins with
abbrev pub typed_after : BaseName → Part → List Token → Type 0
typed_after b = Then Stars (λ n. function_after (Some (type_name b n)))

-- ---- either

-- a struct definition or a function
pub data APart : Part → List Token → Type 0 where
  a_struct_part : {d : StructDef} {x : List Token} → Struct d x → APart (part.Struct d) x
  a_function_part : {f : Function} {x : List Token} → FunctionSpelled f x → APart (part.Function f) x

-- after `struct` at the spot and the name: the fields of a definition, or the rest of a function whose result is the struct
pub data NamedAfter (spot : Spot) (n : Named) : Part → List Token → Type 0 where
  by_brace : {t : Token} {v : Part} {ys : List Token} →
      Is (Sign s.LeftBrace) t → struct_after n v ys →
      NamedAfter spot n v (t ∷ ys)
  by_result : {v : Part} {ys : List Token} →
      typed_after (struct_base spot false n.name) v ys →
      NamedAfter spot n v ys

-- after `struct` at the spot
abbrev pub named_after : Spot → Part → List Token → Type 0
named_after spot = Then ANamed (NamedAfter spot)
