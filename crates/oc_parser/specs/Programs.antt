-- Programs: parts one after the other, up to the end.
use Rattle.std.specs.Prelude.{◌≡◌, List, [], ◌∷◌, ◌++◌}
use Rattle.oc_source.specs.declared.spot.Spot.{Spot}
use Rattle.oc_source.specs.declared.parsed.StructDef.{StructDef}
use Rattle.oc_source.specs.declared.parsed.Function.{Function}
use Rattle.oc_source.specs.declared.parsed.Program.{Program}
use Rattle.oc_lexer.specs.declared.token.Token.{Token}
use Rattle.oc_grammar.specs.Headings.{Parts}
use Rattle.oc_parser.specs.declared.parts.Part.{Part}
use Rattle.oc_parser.specs.declared.parts.Part.TheVariants as part

-- a program: the struct definitions, the functions, and the spot of its end
abbrev pub program_of : List StructDef → List Function → Spot → Program
program_of ds fs end = record { structs = ds; functions = fs; end = end }

-- the tokens spell this program, which has this end
pub data Whole (end : Spot) : Program → List Token → Type 0 where
  whole : {ds : List StructDef} {fs : List Function} {x : List Token} →
      Parts ds fs x →
      Whole end (program_of ds fs end) x

-- no token comes next
abbrev pub AtEnd : {A : Type 0} → A → List Token → Type 0
AtEnd v ts = ts ≡ []

-- with one more part
abbrev pub with_part : Program → Part → Program
with_part p (part.Struct d) = program_of (p.structs ++ d ∷ []) p.functions p.end
with_part p (part.Function f) = program_of p.structs (p.functions ++ f ∷ []) p.end
