-- The language's own calls: what they do on memory is what the walk does on the whole state.
use Rattle.std.proofs.Common.{ℕ, ℤ, ◌≡◌, List, [], ◌∷◌, Result, Ok, Err, refl, sym, ap, subst, arith, false}
use Rattle.oc_values.specs.declared.integers.IntKind.{IntKind}
use Rattle.oc_cells.specs.declared.types.CType.{CType, Int as CInt}
use Rattle.oc_cells.specs.declared.types.SlotType.{SlotType}
use Rattle.oc_source.specs.declared.spot.Spot.{Spot}
use Rattle.oc_typed.specs.declared.typed.Builtin.{Builtin}
use Rattle.oc_typed.specs.declared.typed.Builtin.TheVariants.{Private, Feed, Reveal, Give, PrivateCount, PublicCount, PublicWord, Print, Calloc, Malloc, Free}
use Rattle.oc_walk.specs.declared.run.ClearSetup.{ClearSetup}
use Rattle.oc_walk.specs.declared.run.Source.{Source}
use Rattle.oc_walk.specs.declared.run.Value.{Value}
use Rattle.oc_walk.specs.Walking.{Go, Stop, Act, after, bind, still, stilled}
use Rattle.oc_walk.specs.Cells.{puts, addressed}
use Rattle.oc_walk.specs.Exchange.{reveals}
use Rattle.oc_walk.specs.Builtins.{on_none, on_one, on_two, on_some, performs}
use Rattle.oc_meanings.specs.Clear.{clear}
use Rattle.clear_actions.specs.Acting.{ClearMem, ClearState, bare, mem_of, state_of, Gives, DoesWithin, MovesWithin}
use Rattle.clear_actions.specs.Calls.{Call, none, one, two, some, shows, called, site}
use Rattle.clear_actions.specs.declared.machine.Fault.{Fault}
use Rattle.clear_actions.specs.declared.machine.Fault.TheVariants.{Halted, NoMemory}
use Rattle.clear_actions.specs.declared.machine.Machine.{Machine}
use Rattle.clear_actions.specs.declared.machine.Store.{Store}

-- an action on memory and what follows it on memory, on the whole state
pub still_then : {A B : Type 0} (m : Act ClearMem A) (k : A → Act ClearMem B) (s : ClearState) → bind (still m) (λ a. still (k a)) s ≡ still (bind m k) s
still_then {A} {B} m k s = elim (m s.mem) as (λ r. after (stilled s r) (λ a. still (k a)) ≡ stilled s (after r k)) [
  | Go a t ↦ refl
  | Stop h t ↦ refl
]

module _ (s : ClearSetup) (p : Spot) where
  one_still : (vs : List (Value ℤ)) (k : Value ℤ → Call) (st : ClearState) → on_one (clear s.first s.second) p vs (λ v. still (k v)) st ≡ still (one p vs k) st
  one_still [] k st = refl
  one_still (v ∷ []) k st = refl
  one_still (v ∷ w ∷ vs) k st = refl

  none_still : (vs : List (Value ℤ)) (k : Call) (st : ClearState) → on_none (clear s.first s.second) p vs (still k) st ≡ still (none p vs k) st
  none_still [] k st = refl
  none_still (v ∷ vs) k st = refl

  some_still : (vs : List (Value ℤ)) (k : Value ℤ → Call) (st : ClearState) → on_some (clear s.first s.second) p vs (λ v. still (k v)) st ≡ still (some p vs k) st
  some_still [] k st = refl
  some_still (v ∷ []) k st = refl
  some_still (v ∷ w ∷ vs) k st = refl

  shows_still : (k : IntKind) (a v : Value ℤ) (st : ClearState) → bind (still (reveals bare p k v)) (λ y. bind (still (addressed bare p a)) (λ b. still (puts bare p (CInt k false) b y))) st ≡ still (shows p k a v) st
  shows_still k a v st = elim (reveals bare p k v st.mem) as (λ r. after (stilled st r) (λ y. bind (still (addressed bare p a)) (λ b. still (puts bare p (CInt k false) b y))) ≡ stilled st (after r (λ y. bind (addressed bare p a) (λ b. puts bare p (CInt k false) b y)))) [
    | Go y t ↦ still_then (addressed bare p a) (λ b. puts bare p (CInt k false) b y) (record st { mem = t })
    | Stop h t ↦ refl
  ]

  two_still : (k : IntKind) (vs : List (Value ℤ)) (st : ClearState) → on_two (clear s.first s.second) p vs (λ a v. bind (still (reveals bare p k v)) (λ y. bind (still (addressed bare p a)) (λ b. still (puts bare p (CInt k false) b y)))) st ≡ still (two p vs (shows p k)) st
  two_still k [] st = refl
  two_still k (a ∷ []) st = refl
  two_still k (a ∷ v ∷ []) st = shows_still k a v st
  two_still k (a ∷ v ∷ w ∷ vs) st = refl

  -- a call of the language's own works on memory alone
  pub performs_is : (lss : List (List CType)) (rounds room : ℕ) (slots : List SlotType) (t : CType) (source : Source) (which : Builtin) (vs : List (Value ℤ)) (st : ClearState) → performs (clear s.first s.second) (site s lss rounds slots room) p t source which vs st ≡ still (called s lss p t source which vs) st
  performs_is lss rounds room slots t source Private vs st = one_still vs _ st
  performs_is lss rounds room slots t source (Feed k party) vs st = one_still vs _ st
  performs_is lss rounds room slots t source (Reveal k) vs st = two_still k vs st
  performs_is lss rounds room slots t source (Give k party) vs st = one_still vs _ st
  performs_is lss rounds room slots t source (PrivateCount party) vs st = none_still vs _ st
  performs_is lss rounds room slots t source PublicCount vs st = none_still vs _ st
  performs_is lss rounds room slots t source PublicWord vs st = one_still vs _ st
  performs_is lss rounds room slots t source (Print ps) vs st = refl
  performs_is lss rounds room slots t source Calloc vs st = one_still vs _ st
  performs_is lss rounds room slots t source Malloc vs st = some_still vs _ st
  performs_is lss rounds room slots t source Free vs st = one_still vs _ st

module _ {A : Type 0} (act : Act ClearState A) (call : Act ClearMem A) (m : Machine) (s : Store) where
  -- the machine with this store
  abbrev storing : Machine
  storing = record { store = s; entered = m.entered; steps = m.steps }

  gives_still : (r : Result A Fault) → Gives (call (mem_of m.store)) r (mem_of s) → Gives (still call (state_of m)) r (state_of storing)
  gives_still (Ok a) d = ap (stilled (state_of m)) d
  gives_still (Err (Halted h)) d = ap (stilled (state_of m)) d
  gives_still (Err NoMemory) d = tt

  -- what is done to a machine's store
  pub by_memory : (r : Result A Fault) → ((st : ClearState) → act st ≡ still call st) → DoesWithin (call (mem_of m.store)) r m.store s → MovesWithin act r m storing
  by_memory r same (d, kept) = (λ l. subst (λ x. Gives x r (state_of storing)) (sym (same (state_of m))) (gives_still r (d l)), kept, omega arith)
