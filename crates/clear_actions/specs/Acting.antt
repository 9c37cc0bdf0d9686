-- What the code of a run in the clear does, as the walk's actions have it.
use Rattle.std.specs.Prelude.{Bool, ℕ, ◌≡◌, ◌≤◌, ℤ, pos, negsuc, List, [], Option, Some, None, Result, Ok, Err, reverse, slice_get}
use Rattle.oc_values.specs.declared.integers.IntKind.{IntKind}
use Rattle.oc_values.specs.Integers.{convert}
use Rattle.oc_cells.specs.declared.types.CType.{CType}
use Rattle.oc_cells.specs.declared.memory.Address.{Address}
use Rattle.oc_cells.specs.declared.trap.TrapKind.TheVariants.{I1}
use Rattle.oc_source.specs.declared.spot.Spot.{Spot}
use Rattle.oc_walk.specs.declared.run.ShownItem.{ShownItem}
use Rattle.oc_walk.specs.declared.run.Outcome.TheVariants as outcome
use Rattle.oc_walk.specs.Domain.{Domain}
use Rattle.oc_walk.specs.Walking as walk
use Rattle.oc_walk.specs.Walking.{Mem, State, Res, Act, Go, Stop, bind, pure, transfers, live_limit}
use Rattle.oc_walk.specs.Cells.{copies_cell, starts_copy, copies_all}
use Rattle.oc_walk.specs.Exchange.{cost}
use Rattle.oc_walk.specs.declared.run.Value.{Value}
use Rattle.oc_walk.specs.declared.run.Value.TheVariants.{Hidden}
use Rattle.oc_meanings.specs.Clear.{clear}
use Rattle.clear_actions.specs.declared.machine.Halt.{Halt}
use Rattle.clear_actions.specs.declared.machine.Halt.TheVariants as halt
use Rattle.clear_actions.specs.declared.machine.Fault.{Fault}
use Rattle.clear_actions.specs.declared.machine.Fault.TheVariants.{Halted, NoMemory}
use Rattle.clear_actions.specs.declared.machine.Store.{Store}
use Rattle.clear_actions.specs.declared.machine.Machine.{Machine}

-- what actions on memory work on, in the clear
abbrev pub ClearMem : Type 0
ClearMem = Mem ℤ (List ShownItem)

-- the state of a walk in the clear
abbrev pub ClearState : Type 0
ClearState = State ℤ (List ShownItem)

-- the clear domain, where it doesn't matter which words there are: a feed alone looks at them
abbrev pub bare : Domain
bare = clear [] []

-- why a run stops, as a walk says it
abbrev pub halt_of : Halt → walk.Halt
halt_of (halt.Trap kind p) = walk.Ended (outcome.Trap kind p)
halt_of halt.StepsSpent = walk.Ended outcome.StepsSpent
halt_of halt.DealtSpent = walk.Ended outcome.DealtSpent
halt_of (halt.Odd p) = walk.Odd p

-- a store as a walk has it: no revealed value is known beforehand, for the domain knows each
abbrev pub mem_of : Store → ClearMem
mem_of s = record { blocks = s.blocks.blocks; dealt = s.dealt; answers = []; taken = 0; own = s.shown }

-- a machine's state as that of a walk: the running call's slots, the newest first
abbrev pub state_of : Machine → ClearState
state_of m = record { mem = mem_of m.store; entered = reverse m.entered; steps = m.steps }

-- the answer and the state are those of the walk, unless memory ran out
abbrev pub Gives : {S A : Type 0} → Res S A → Result A Fault → S → Type 0
Gives r (Ok a) s = r ≡ Go a s
Gives r (Err (Halted h)) s = r ≡ Stop (halt_of h) s
Gives r (Err NoMemory) s = Unit {0}

-- what stays of the blocks: their limit and the leaves of each struct
abbrev pub SameBlocks : Store → Store → Type 0
SameBlocks old new = (new.blocks.limit ≡ old.blocks.limit) × (new.blocks.structs ≡ old.blocks.structs)

-- the same of an action on memory that changes the store, of which the limit and the structs stay in any case
abbrev pub Does : {A : Type 0} → Res ClearMem A → Result A Fault → Store → Store → Type 0
Does r result old new = Gives r result (mem_of new) × SameBlocks old new

-- the same of an action on the whole state, which gains no step
abbrev pub Moves : {A : Type 0} → Act ClearState A → Result A Fault → Machine → Machine → Type 0
Moves act result old new = Gives (act (state_of old)) result (state_of new) × SameBlocks old.store new.store × (new.steps ≤ old.steps)

-- what makes blocks does so of a store whose limit is that of the language
abbrev pub DoesWithin : {A : Type 0} → Res ClearMem A → Result A Fault → Store → Store → Type 0
DoesWithin r result old new = (old.blocks.limit ≡ live_limit → Gives r result (mem_of new)) × SameBlocks old new

-- the same of an action on the whole state, which gains no step
abbrev pub MovesWithin : {A : Type 0} → Act ClearState A → Result A Fault → Machine → Machine → Type 0
MovesWithin act result old new =
    (old.store.blocks.limit ≡ live_limit → Gives (act (state_of old)) result (state_of new))
    × SameBlocks old.store new.store × (new.steps ≤ old.steps)

-- the word at an index, which may be negative
abbrev pub word_in : List ℤ → ℤ → Option ℤ
word_in words (pos i) = slice_get words i
word_in words (negsuc i) = None

-- what a feed of a private word does, by what stands at its index
abbrev pub fed : Spot → ℕ → IntKind → Option ℤ → Act ClearMem (Value ℤ)
fed q party k (Some n) = bind (transfers (cost party k)) (λ _. pure (Hidden k (convert n k)))
fed q party k None = walk.trap I1 q

-- the cell of a copy where a leaf has its number
abbrev pub copies_place : Spot → Bool → Option CType → Address → Address → Act ClearMem (Unit {0})
copies_place p e (Some l) to from = bind (copies_cell bare p e l to from) (λ _. pure tt)
copies_place p e None to from = pure tt

-- a struct copied to an address, cell by cell under the enable, after all its cells were checked
abbrev pub struct_copies : Spot → Bool → List CType → Address → Value ℤ → Act ClearMem (Unit {0})
struct_copies p e ls to v = bind (starts_copy bare p ls to v) (λ b. copies_all bare p e ls to b)
