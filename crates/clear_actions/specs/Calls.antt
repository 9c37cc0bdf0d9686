-- The language's own calls as actions on memory, on the values of their arguments.
use Rattle.std.specs.Prelude.{ℕ, ℤ, pos, List, [], ◌∷◌, length, false}
use Rattle.oc_values.specs.declared.integers.IntKind.{IntKind}
use Rattle.oc_values.specs.declared.integers.IntKind.TheVariants.{I32}
use Rattle.oc_values.specs.Integers.{wrap}
use Rattle.oc_cells.specs.declared.types.CType.{CType, Int as CInt}
use Rattle.oc_cells.specs.declared.types.SlotType.{SlotType}
use Rattle.oc_cells.specs.Types.{target}
use Rattle.oc_source.specs.declared.spot.Spot.{Spot}
use Rattle.oc_typed.specs.declared.typed.Builtin.{Builtin}
use Rattle.oc_typed.specs.declared.typed.Builtin.TheVariants.{Private, Feed, Reveal, Give, PrivateCount, PublicCount, PublicWord, Print, Calloc, Malloc, Free}
use Rattle.oc_walk.specs.declared.run.ClearSetup.{ClearSetup}
use Rattle.oc_walk.specs.declared.run.Source.{Source}
use Rattle.oc_walk.specs.declared.run.Value.{Value}
use Rattle.oc_walk.specs.declared.run.Value.TheVariants.{Int}
use Rattle.oc_walk.specs.Walking.{Act, Known, Site, bind, pure, odd}
use Rattle.oc_walk.specs.Cells.{puts, addressed, allocates, frees}
use Rattle.oc_walk.specs.Exchange.{count_of, formatted, feeds, reveals, gives, public_word, prints}
use Rattle.oc_meanings.specs.Clear.{clear, known_of}
use Rattle.clear_actions.specs.Acting.{ClearMem, bare}

-- an action on memory that gives a value
abbrev pub Call : Type 0
Call = Act ClearMem (Value ℤ)

-- what follows where there is no argument
abbrev pub none : Spot → List (Value ℤ) → Call → Call
none p [] k = k
none p _ k = odd p

-- what follows the value of the only argument
abbrev pub one : Spot → List (Value ℤ) → (Value ℤ → Call) → Call
one p (v ∷ []) k = k v
one p _ k = odd p

-- what follows the values of two arguments
abbrev pub two : Spot → List (Value ℤ) → (Value ℤ → Value ℤ → Call) → Call
two p (v ∷ y ∷ []) k = k v y
two p _ k = odd p

-- what follows the value of the only argument, which is 1 where there is none
abbrev pub some : Spot → List (Value ℤ) → (Value ℤ → Call) → Call
some p [] k = k (Int I32 (pos 1))
some p (v ∷ []) k = k v
some p _ k = odd p

-- a hidden value is shown to both parties, and then written where a pointer leads
abbrev pub shows : Spot → IntKind → Value ℤ → Value ℤ → Call
shows p k a v = bind (reveals bare p k v) (λ y. bind (addressed bare p a) (λ b. puts bare p (CInt k false) b y))

-- the number of a party's words
abbrev pub count_value : Known → ℕ → Call
count_value known party = pure (Int I32 (wrap I32 (pos (count_of known party))))

-- the number of public words
abbrev pub public_count : Known → Call
public_count known = pure (Int I32 (wrap I32 (pos (length known.public))))

-- a call of the language's own on memory
abbrev pub called : ClearSetup → List (List CType) → Spot → CType → Source → Builtin → List (Value ℤ) → Call
called s lss p t source Private vs = one p vs (λ v. pure v)
called s lss p t source (Feed k party) vs = one p vs (λ v. feeds (clear s.first s.second) (known_of s) p source party k v)
called s lss p t source (Reveal k) vs = two p vs (shows p k)
called s lss p t source (Give k party) vs = one p vs (λ v. gives bare p k party v)
called s lss p t source (PrivateCount party) vs = none p vs (count_value (known_of s) party)
called s lss p t source PublicCount vs = none p vs (public_count (known_of s))
called s lss p t source PublicWord vs = one p vs (λ v. public_word bare (known_of s) p v)
called s lss p t source (Print ps) vs = prints bare p (formatted ps vs)
called s lss p t source Calloc vs = one p vs (λ v. allocates bare p lss (target t) v)
called s lss p t source Malloc vs = some p vs (λ v. allocates bare p lss (target t) v)
called s lss p t source Free vs = one p vs (λ v. frees bare p v)

-- what surrounds a node of a run from this setup, with the leaves of each struct
abbrev pub site : ClearSetup → List (List CType) → ℕ → List SlotType → ℕ → Site
site s lss rounds slots room = record { run = record { known = known_of s; structs = lss; rounds = rounds }; slots = slots; room = room }
