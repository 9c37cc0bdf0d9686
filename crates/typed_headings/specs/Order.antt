-- Whether structs stand in the order of their spots.
use Rattle.std.specs.Prelude.{List, [], ◌∷◌, Bool, true, ◌&&◌, Option, Some, None}
use Rattle.oc_source.specs.declared.spot.Spot.{Spot}
use Rattle.oc_source.specs.declared.parsed.StructDef.{StructDef}
use Rattle.type_rules.specs.Written.{is_before}

-- whether a spot stands after another one, if there is one
abbrev pub follows : Option Spot → Spot → Bool
follows None p = true
follows (Some q) p = is_before q p

-- whether each struct stands after the one before it, and the first after this spot
abbrev pub ordered_after : Option Spot → List StructDef → Bool
ordered_after o [] = true
ordered_after o (d ∷ ds) = follows o d.spot && ordered_after (Some d.spot) ds
