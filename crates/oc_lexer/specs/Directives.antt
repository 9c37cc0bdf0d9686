-- Directives: `#include` of one of four headers, and `#define` of a name that stands for a number.
use Rattle.std.specs.Prelude.{ℕ, ◌≡◌, List, [], ◌∷◌, ◌++◌, None, false, not, IsTrue, codes}
use Rattle.std.specs.List.{list_all, list_any}
use Rattle.std.specs.Str.{bytes_eq}
use Rattle.oc_source.specs.declared.literal.Literal.{Literal}
use Rattle.oc_lexer.specs.declared.bytes.ByteClass.TheVariants as class
use Rattle.oc_lexer.specs.Bytes.{is_in, is_space, is_name_start, is_name_byte, is_empty, begins_with}
use Rattle.oc_lexer.specs.Comments.{ends_line}
use Rattle.oc_lexer.specs.Words.{keyword_of}
use Rattle.oc_lexer.specs.Numbers.{SpellsNumber}

-- what an `#include` may name, with its angle brackets
abbrev pub headers : List (List ℕ)
headers = codes "<obliv.oh>" ∷ codes "<stdio.h>" ∷ codes "<stdlib.h>" ∷ codes "<stdbool.h>" ∷ []

-- the text is an accepted `#include`, before this rest of the source
pub record Includes (text rest : List ℕ) : Type 0 where
  pub gap : List ℕ
  pub header : List ℕ
  pub whole : text ≡ codes "#include" ++ (gap ++ header)
  pub spaces : IsTrue (list_all is_space gap)
  pub known : IsTrue (list_any (bytes_eq header) headers)
  pub ends : IsTrue (ends_line false rest)

-- the text is an accepted `#define` of the name as this number, before this rest of the source
pub record Defines (name : List ℕ) (literal : Literal) (text rest : List ℕ) : Type 0 where
  pub gap : List ℕ
  pub second : List ℕ
  pub number : List ℕ
  pub whole : text ≡ codes "#define" ++ (gap ++ (name ++ (second ++ number)))
  pub spaces : IsTrue (list_all is_space gap)
  pub spaced : IsTrue (not (is_empty gap))
  pub begins : IsTrue (begins_with is_name_start name)
  pub named : IsTrue (list_all is_name_byte name)
  pub free : keyword_of name ≡ None
  pub second_spaces : IsTrue (list_all is_space second)
  pub second_spaced : IsTrue (not (is_empty second))
  pub digits : IsTrue (list_all (is_in class.Number) number)
  pub longest : IsTrue (not (begins_with (is_in class.Number) rest))
  pub value : SpellsNumber literal number
  pub ends : IsTrue (ends_line false rest)
