-- The visible variables as the rules see them, and the last one of a name.
use Rattle.std.specs.Prelude.{ℕ, suc, ◌≡◌, List, [], ◌∷◌, Option, Some, None, if◌then◌else◌}
use Rattle.std.specs.BTreeMap.{BTreeMap}
use denote.Ref.{Bor}
use Rattle.type_rules.specs.declared.judging.Seen.{Seen}
use Rattle.type_rules.specs.Lookup.{same_name}
use Rattle.written_types.specs.Numbers.{get_at}
use Rattle.visible_variables.specs.declared.scope.Variable.{Variable}

-- a variable as the rules see it
abbrev pub seen_of : Variable → Seen
seen_of v = record { name = v.name.now; slot = v.slot; ty = v.ty }

-- variables as the rules see them
abbrev pub all_seen : List Variable → List Seen
all_seen [] = []
all_seen (v ∷ vs) = seen_of v ∷ all_seen vs

-- the number of a variable in a longer list, or else this one
abbrev pub later : Option ℕ → Option ℕ → Option ℕ
later (Some i) o = Some (suc i)
later None o = o

-- the number of the last variable of a name
abbrev pub last : List Variable → List ℕ → Option ℕ
last [] x = None
last (v ∷ vs) x = later (last vs x) (if same_name v.name.now x then Some 0 else None)

-- the map has the number of the last variable of each name
pub record Latest (m : BTreeMap (Bor (List ℕ)) ℕ) (vs : List Variable) : Type 0 where
  pub at : (x : List ℕ) → get_at m x ≡ last vs x
