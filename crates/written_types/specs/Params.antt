-- Parameters, judged item by item.
use Rattle.std.specs.Prelude.{ℕ, List, ◌∷◌, Ok, not}
use Rattle.oc_source.specs.declared.parsed.Param.{Param}
use Rattle.oc_cells.specs.declared.types.SlotType.{SlotType}
use Rattle.type_rules.specs.declared.judging.TypeRule.TheVariants.{T2}
use Rattle.type_rules.specs.Judging.{Judged, next, needs}
use Rattle.type_rules.specs.Lookup.{Lookup}
use Rattle.type_rules.specs.Written.{param_of, more_stars, has_name}

-- a parameter, after these names
abbrev pub param_judged : Lookup → List (List ℕ) → Param → Judged SlotType
param_judged g earlier p =
    next (param_of g p.base (more_stars p.array p.stars) p.array) (λ s.
    next (needs p.spot T2 (not (has_name earlier p.name))) (λ _. Ok s))

-- the names with that of a parameter
abbrev pub with_param : List (List ℕ) → Param → List (List ℕ)
with_param earlier p = p.name ∷ earlier
