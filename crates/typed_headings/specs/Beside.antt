-- Headings of one name, of which the first stands for all.
use Rattle.std.specs.Prelude.{ℕ, List, [], ◌∷◌, Bool, true, not, ◌&&◌, ◌||◌, if◌then◌else◌, Option, Some, None}
use Rattle.type_rules.specs.declared.judging.Heading.{Heading}
use Rattle.type_rules.specs.Lookup.{same_name}
use Rattle.type_rules.specs.Written.{same_heading}

-- the first heading of a name
abbrev pub first_named : List Heading → List ℕ → Option Heading
first_named [] x = None
first_named (h ∷ hs) x = if same_name h.name x then Some h else first_named hs x

-- whether a heading may stand beside the first one of its name, where one of them has a body or none
abbrev pub beside : Option Heading → Bool → Heading → Bool
beside None b h = true
beside (Some k) b h = same_heading k h && not (b && h.has_body)

-- whether each of these that has its name agrees with a heading
abbrev pub agree_with : Heading → List Heading → Bool
agree_with k [] = true
agree_with k (h ∷ hs) = (not (same_name k.name h.name) || same_heading k h) && agree_with k hs

-- whether headings of one name agree
abbrev pub are_agreeing : List Heading → Bool
are_agreeing [] = true
are_agreeing (h ∷ hs) = agree_with h hs && are_agreeing hs
