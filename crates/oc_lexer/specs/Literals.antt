-- Characters and texts: what may stand between the quotes, and the bytes that it stands for.
use Rattle.std.specs.Prelude.{ℕ, List, [], ◌∷◌, ◌++◌, Option, Some, None, Bool, false, ◌&&◌, ◌||◌, not, nat_eq, nat_le, if◌then◌else◌}

-- the byte that a letter after `\` stands for
abbrev pub escape_value : ℕ → Option ℕ
escape_value b =
    if nat_eq b 110 then Some 10
    else if nat_eq b 116 then Some 9
    else if nat_eq b 114 then Some 13
    else if nat_eq b 48 then Some 0
    else if nat_eq b 92 || nat_eq b 39 || nat_eq b 34 then Some b
    else None

-- a byte that stands for itself in a text: any but `"`, `\` and the bytes below the space, of which a tab may stand
abbrev pub is_text_byte : ℕ → Bool
is_text_byte b = (nat_le 32 b || nat_eq b 9) && not (nat_eq b 34) && not (nat_eq b 92)

-- a byte that stands for itself in a character literal: from the space to `~`, but for `'` and `\`
abbrev pub is_character_byte : ℕ → Bool
is_character_byte b = nat_le 32 b && nat_le b 126 && not (nat_eq b 39) && not (nat_eq b 92)

-- an element of a literal
pub data Element : Type 0 where
  -- a byte that stands for itself
  Plain : ℕ → Element
  -- `\` and a letter, which stand for this byte
  Escape : ℕ → ℕ → Element

-- the bytes that spell an element
abbrev pub element_text : Element → List ℕ
element_text (Plain b) = b ∷ []
element_text (Escape letter b) = 92 ∷ letter ∷ []

-- the byte that an element stands for
abbrev pub element_value : Element → ℕ
element_value (Plain b) = b
element_value (Escape letter b) = b

-- whether the value of an escape is this byte; what is no escape has no value
abbrev pub is_escape : Option ℕ → ℕ → Bool
is_escape (Some v) b = nat_eq v b
is_escape None b = false

-- whether an element may stand where these bytes stand for themselves
abbrev pub is_element : (ℕ → Bool) → Element → Bool
is_element plain (Plain b) = plain b
is_element plain (Escape letter b) = is_escape (escape_value letter) b

-- the bytes that spell these elements, one after the other
abbrev pub elements_text : List Element → List ℕ
elements_text [] = []
elements_text (e ∷ es) = element_text e ++ elements_text es
