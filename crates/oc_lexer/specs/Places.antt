-- Where a byte stands, told by what stands before it in the source.
use Rattle.std.specs.Prelude.{ℕ, ◌+◌, List, [], ◌∷◌, ◌++◌, length, fold, count_by, Bool, nat_eq, if◌then◌else◌}
use Rattle.std.specs.List.{list_all}
use Rattle.oc_source.specs.declared.spot.Spot.{Spot}
use Rattle.oc_lexer.specs.Bytes.{is_blank}

-- the byte that ends a line
abbrev pub is_newline : ℕ → Bool
is_newline b = nat_eq b 10

-- what stands after the last newline of a text
abbrev pub last_line : List ℕ → List ℕ
last_line text = fold (λ line b. if is_newline b then [] else line ++ b ∷ []) [] text

-- lines and columns count from 1, and columns count bytes
abbrev pub spot_after : List ℕ → Spot
spot_after front = record { line = count_by is_newline front + 1; column = length (last_line front) + 1 }

-- whether only blanks stand before it on its line
abbrev pub is_fresh_after : List ℕ → Bool
is_fresh_after front = list_all is_blank (last_line front)
