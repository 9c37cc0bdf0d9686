-- The bytes that shown items are printed as.
use Rattle.std.specs.Prelude.{ℕ, ℤ, List, [], ◌∷◌, ◌++◌, codes}
use Rattle.std.specs.Fmt.{decimal, signed_decimal}
use Rattle.oc_walk.specs.declared.run.ShownItem.{ShownItem}
use Rattle.oc_walk.specs.declared.run.ShownItem.TheVariants.{Print, Reveal, Give}

-- a line for the result of a party
abbrev pub result_line : ℕ → ℤ → List ℕ
result_line party n = codes "result" ++ decimal party ++ codes " " ++ signed_decimal n ++ 10 ∷ []

-- what a run in the clear prints of an item: a print as it is, and each result with its party
abbrev pub shown_item : ShownItem → List ℕ
shown_item (Print bytes) = bytes
shown_item (Reveal k n) = []
shown_item (Give party k n) = result_line party n

-- what a run in the clear prints of these items, in order
abbrev pub shown : List ShownItem → List ℕ
shown [] = []
shown (i ∷ is) = shown_item i ++ shown is
