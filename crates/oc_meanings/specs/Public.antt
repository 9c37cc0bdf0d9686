-- What both parties see of a run, and runs that agree in what is public.
use Rattle.std.specs.Prelude.{ℕ, ◌≡◌, ℤ, List, map}
use Rattle.oc_values.specs.declared.integers.IntKind.{IntKind}
use Rattle.oc_cells.specs.declared.types.StructType.{StructType}
use Rattle.oc_typed.specs.declared.typed.TypedFunction.{TypedFunction}
use Rattle.oc_walk.specs.declared.run.ShownItem.{ShownItem}
use Rattle.oc_walk.specs.declared.run.ShownItem.TheVariants.{Print, Reveal, Give}
use Rattle.oc_walk.specs.declared.run.ClearSetup.{ClearSetup}
use Rattle.oc_walk.specs.declared.run.Outcome.{Outcome}
use Rattle.oc_meanings.specs.Clear.{known_of, Clear}
use Rattle.oc_meanings.specs.Events.{events_walk}
use Rattle.oc_meanings.specs.Values.{revealed_of}

-- an item as both parties see it: a result for one of them without its value
pub data Seen : Type 0 where
  SeenPrint : List ℕ → Seen
  SeenReveal : IntKind → ℤ → Seen
  SeenResult : ℕ → IntKind → Seen

-- what both parties see of an item
abbrev pub seen : ShownItem → Seen
seen (Print bytes) = SeenPrint bytes
seen (Reveal k n) = SeenReveal k n
seen (Give party k n) = SeenResult party k

-- two setups that differ in nothing but the values of private words
pub record SamePublic (s t : ClearSetup) : Type 0 where
  pub known : known_of s ≡ known_of t
  pub dealt : s.dealt ≡ t.dealt
  pub budget : s.budget ≡ t.budget

-- two runs in the clear from such setups, which reveal the same values, make the same events, are seen alike by both parties, and end alike
abbrev pub PublicRunsAgree : Type 0
PublicRunsAgree =
    (structs : List StructType) (fs : List TypedFunction) (entry : ℕ) (s t : ClearSetup)
    (items others : List ShownItem) (outcome end : Outcome)
    → Clear structs fs entry s items outcome
    → Clear structs fs entry t others end
    → SamePublic s t
    → revealed_of items ≡ revealed_of others
    → (events_walk structs fs entry (known_of s) s.dealt (revealed_of items) s.budget
    ≡ events_walk structs fs entry (known_of t) t.dealt (revealed_of others) t.budget)
    × (map seen items ≡ map seen others)
    × (outcome ≡ end)
