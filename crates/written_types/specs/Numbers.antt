-- What maps of names tell.
use Rattle.std.specs.Prelude.{ℕ, ◌≡◌, List, [], ◌∷◌, Option, is_some}
use Rattle.std.specs.Ordering.{nat_cmp}
use Rattle.std.specs.Cmp.Lexicographic.{slice_cmp}
use Rattle.std.specs.BTreeMap.{BTreeMap, get_by}
use denote.Ref.{Bor}
use Rattle.type_rules.specs.declared.judging.Heading.{Heading}
use Rattle.type_rules.specs.Written.{number_from, has_name}

-- what a map has at a name
abbrev pub get_at : BTreeMap (Bor (List ℕ)) ℕ → List ℕ → Option ℕ
get_at m name = get_by (λ k. slice_cmp nat_cmp name k.now) m

-- the map has the number of the first of each of these names
pub record Numbers (m : BTreeMap (Bor (List ℕ)) ℕ) (names : List (List ℕ)) : Type 0 where
  pub at : (x : List ℕ) → get_at m x ≡ number_from 0 names x

-- the map has these names
pub record Has (m : BTreeMap (Bor (List ℕ)) ℕ) (names : List (List ℕ)) : Type 0 where
  pub at : (x : List ℕ) → is_some (get_at m x) ≡ has_name names x

-- the names of headings
abbrev pub heading_names : List Heading → List (List ℕ)
heading_names [] = []
heading_names (h ∷ hs) = h.name ∷ heading_names hs
