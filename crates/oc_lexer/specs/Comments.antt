-- Comments, and what may follow a directive on its line.
use Rattle.std.specs.Prelude.{ℕ, List, [], ◌∷◌, Bool, true, false, ◌&&◌, ◌||◌, nat_eq, if◌then◌else◌}
use Rattle.oc_lexer.specs.Bytes.{is_space}

-- whether an end of a comment stands in these bytes
abbrev pub has_end : List ℕ → Bool
has_end [] = false
has_end (b ∷ []) = false
has_end (b ∷ c ∷ more) = (nat_eq b 42 && nat_eq c 47) || has_end (c ∷ more)

-- whether only blanks and comments stand up to the end of the line; the flag says whether the text begins inside a
-- comment. A comment that goes on over further lines, or isn't closed, ends the line too.
abbrev pub ends_line : Bool → List ℕ → Bool
ends_line in_comment [] = true
ends_line false (b ∷ []) = is_space b || nat_eq b 10
ends_line true (b ∷ []) = true
ends_line false (b ∷ c ∷ more) =
    if nat_eq b 10 then true
    else if nat_eq b 47 && nat_eq c 47 then true
    else if nat_eq b 47 && nat_eq c 42 then ends_line true more
    else is_space b && ends_line false (c ∷ more)
ends_line true (b ∷ c ∷ more) =
    if nat_eq b 10 then true
    else if nat_eq b 42 && nat_eq c 47 then ends_line false more
    else ends_line true (c ∷ more)
