-- What begins at the front of a text, told by its first bytes.
use Rattle.std.specs.Prelude.{ℕ, List, [], ◌∷◌, Bool, ◌&&◌, nat_eq, if◌then◌else◌}
use Rattle.oc_lexer.specs.declared.kinds.Kind.{Kind}
use Rattle.oc_lexer.specs.declared.kinds.Kind.TheVariants.{Blank, Word, Number, Character, Text, Directive, BlockComment, LineComment, Sign}
use Rattle.oc_lexer.specs.Bytes.{is_blank, is_name_start, is_digit, begins_with}

-- what begins so: by the first byte, what follows it, and whether only blanks stand before it on its line
abbrev pub kind_by : Bool → ℕ → List ℕ → Kind
kind_by is_fresh b more =
    if is_blank b then Blank
    else if is_name_start b then Word
    else if is_digit b then Number
    else if nat_eq b 39 then Character
    else if nat_eq b 34 then Text
    else if nat_eq b 35 && is_fresh then Directive
    else if nat_eq b 47 && begins_with (λ c. nat_eq c 42) more then BlockComment
    else if nat_eq b 47 && begins_with (λ c. nat_eq c 47) more then LineComment
    else Sign

-- what begins at the front of a text, where the flag says whether only blanks stand before it on its line
unfoldable pub kind_at : Bool → List ℕ → Kind
kind_at is_fresh [] = Sign
kind_at is_fresh (b ∷ more) = kind_by is_fresh b more
