-- What every walk has: its state, its stops, how one action follows another, and the actions on memory, steps and slots.
use Rattle.std.specs.Prelude.{ℕ, zero, suc, ◌+◌, ◌-◌, ℤ, List, [], ◌∷◌, length, Option, Some, None, Result, Ok, Err, nat_eq, nat_le, drop, if◌then◌else◌, Bool, true, false}
use Rattle.oc_values.specs.declared.integers.IntKind.{IntKind}
use Rattle.oc_source.specs.declared.spot.Spot.{Spot}
use Rattle.oc_values.specs.Integers.{convert}
use Rattle.oc_cells.specs.declared.memory.Address.TheVariants.{Null, At}
use Rattle.oc_cells.specs.declared.types.SlotType.{SlotType}
use Rattle.oc_typed.specs.declared.typed.TExprNode.{Row_of-TExpr}
use Rattle.oc_typed.specs.Static.{same_spot, spot_of}
use Rattle.oc_cells.specs.declared.types.CType.{CType}
use Rattle.oc_cells.specs.declared.memory.Address.{Address}
use Rattle.oc_cells.specs.declared.memory.CellValue.{CellValue}
use Rattle.oc_cells.specs.declared.memory.Block.{Block}
use Rattle.oc_cells.specs.declared.trap.TrapKind.{TrapKind}
use Rattle.oc_walk.specs.declared.run.Outcome.{Outcome}
use Rattle.oc_walk.specs.declared.run.Outcome.TheVariants.{Trap, StepsSpent, DealtSpent}
use Rattle.oc_walk.specs.declared.run.Named.{Named}
use Rattle.oc_cells.specs.Memory.{load, store, make_copies, ended}

-- how many cells may live
abbrev pub live_limit : ℕ
live_limit = 65536

-- what the actions on memory work on
pub record Mem (H O : Type 0) : Type 0 where
  pub blocks : List (Block H)
  -- the dealt transfers that are left
  pub dealt : ℕ
  -- what is known beforehand of the values that are revealed, in order, and how many of them were taken
  pub answers : List ℤ
  pub taken : ℕ
  -- the domain's own state
  pub own : O

-- the state of a walk: its memory, the slots that were entered, and the steps that are left
pub record State (H O : Type 0) : Type 0 where
  pub mem : Mem H O
  -- of the call that runs, the newest first
  pub entered : List Named
  pub steps : ℕ

-- why a walk stops before its end
pub data Halt : Type 0 where
  Ended : Outcome → Halt
  -- a revealed value, from 0, that isn't known, and its kind
  Needs : ℕ → IntKind → Halt
  -- a value of another form than a node wants: no typed program comes here
  Odd : Spot → Halt

-- how an action ends: it goes on with a result, or it stops, and each has the state that is left
pub data Res (S A : Type 0) : Type 0 where
  Go : A → S → Res S A
  Stop : Halt → S → Res S A

-- an action: from a state to a result or a stop
abbrev pub Act : Type 0 → Type 0 → Type 0
Act S A = S → Res S A

-- what follows a result; a stop stays
abbrev pub after : {S A B : Type 0} → Res S A → (A → Act S B) → Res S B
after (Go a t) k = k a t
after (Stop w t) k = Stop w t

-- an action, then the action that its result gives
abbrev pub bind : {S A B : Type 0} → Act S A → (A → Act S B) → Act S B
bind m k s = after (m s) k

-- the action that gives this and changes nothing
abbrev pub pure : {S A : Type 0} → A → Act S A
pure a s = Go a s

-- the action that ends the walk with this trap at this spot
abbrev pub trap : {S A : Type 0} → TrapKind → Spot → Act S A
trap kind p s = Stop (Ended (Trap kind p)) s

-- the action for a value of another form than the node at this spot wants
abbrev pub odd : {S A : Type 0} → Spot → Act S A
odd p s = Stop (Odd p) s

-- the first action where this holds, else the second
abbrev pub choose : {S A : Type 0} → Bool → Act S A → Act S A → Act S A
choose true m n s = m s
choose false m n s = n s

-- what an action on the memory gives, as that of the whole state, whose other parts stay
abbrev pub stilled : {H O A : Type 0} → State H O → Res (Mem H O) A → Res (State H O) A
stilled s (Go a m) = Go a (record s { mem = m })
stilled s (Stop w m) = Stop w (record s { mem = m })

-- an action on the memory alone: it takes no step and enters no slot
abbrev pub still : {H O A : Type 0} → Act (Mem H O) A → Act (State H O) A
still m s = stilled s (m s.mem)

-- an action on the domain's own state
abbrev pub own : {H O A : Type 0} → (O → A × O) → Act (Mem H O) A
own f m = let r = f m.own in Go r.0 (record m { own = r.1 })

-- a memory's answer, or its trap at this spot
abbrev pub answered : {S A : Type 0} → Spot → Result A TrapKind → Act S A
answered p (Ok a) s = Go a s
answered p (Err kind) s = Stop (Ended (Trap kind p)) s

-- the value of the cell at this address, which is read with this leaf, or the trap at this spot
abbrev pub loads : {H O : Type 0} → Spot → Address → CType → Act (Mem H O) (CellValue H)
loads p at leaf m = answered p (load m.blocks at leaf) m

-- these blocks take the place of those before
abbrev pub keeps : {H O : Type 0} → List (Block H) → Act (Mem H O) (Unit {0})
keeps blocks m = Go tt (record m { blocks = blocks })

-- a write of this value with this leaf to the cell at this address, or the trap at this spot
abbrev pub stores : {H O : Type 0} → Spot → Address → CType → CellValue H → Act (Mem H O) (Unit {0})
stores p at leaf v m = after (answered p (store m.blocks at leaf v) m) keeps

-- a new block of so many copies of these leaves, whose number it gives
abbrev pub makes : {H O : Type 0} → (IntKind → H) → Spot → Bool → List CType → ℤ → Act (Mem H O) ℕ
makes zero_of p allocated ls n m =
    after (answered p (make_copies zero_of live_limit allocated m.blocks ls n) m) (λ blocks.
    bind (keeps blocks) (λ _. pure (length m.blocks)))

-- the first of these values known beforehand, converted to the kind, or a stop that says which one is needed
abbrev pub takes_answer : {H O : Type 0} → IntKind → List ℤ → Act (Mem H O) ℤ
takes_answer k [] m = Stop (Needs m.taken k) m
takes_answer k (n ∷ ns) m = Go (convert n k) (record m { answers = ns; taken = m.taken + 1 })

-- a revealed value of this kind: as the domain knows it, or else the next of those known beforehand
abbrev pub answer : {H O : Type 0} → IntKind → Option ℤ → Act (Mem H O) ℤ
answer k (Some n) m = Go (convert n k) m
answer k None m = takes_answer k m.answers m

-- so many dealt transfers are used where enough are left, else the run ends for want of them
abbrev pub pays : {H O : Type 0} → Bool → ℕ → Act (Mem H O) (Unit {0})
pays true n m = Go tt (record m { dealt = m.dealt - n })
pays false n m = Stop (Ended DealtSpent) m

-- so many dealt transfers
abbrev pub transfers : {H O : Type 0} → ℕ → Act (Mem H O) (Unit {0})
transfers n m = pays (nat_le n m.dealt) n m

-- one step is taken of so many that are left, and where none is, the run ends
abbrev pub spent : {H O : Type 0} → ℕ → Act (State H O) (Unit {0})
spent zero s = Stop (Ended StepsSpent) s
spent (suc n) s = Go tt (record s { steps = n })

-- one step of the budget
abbrev pub step : {H O : Type 0} → Act (State H O) (Unit {0})
step s = spent s.steps s

-- the block of the slot that was entered last under this number
abbrev pub block_of : ℕ → List Named → Option ℕ
block_of n [] = None
block_of n (e ∷ es) = if nat_eq e.slot n then Some e.block else block_of n es

-- the slot of this number is entered, with the block of this number
abbrev pub enter : {H O : Type 0} → ℕ → ℕ → Act (State H O) (Unit {0})
enter n b s = Go tt (record s { entered = record { slot = n; block = b } ∷ s.entered })

-- the blocks, those of the newest n of these entered slots gone
abbrev pub shut : {H : Type 0} → ℕ → List Named → List (Block H) → List (Block H)
shut zero es blocks = blocks
shut (suc n) [] blocks = blocks
shut (suc n) (e ∷ es) blocks = shut n es (ended blocks e.block)

-- the newest n entered slots are left, and their blocks are gone
abbrev pub close : {H O : Type 0} → ℕ → State H O → State H O
close n s = record s { mem = record s.mem { blocks = shut n s.entered s.mem.blocks }; entered = drop n s.entered }

-- after a scope, before which so many slots were entered
abbrev pub leave : {H O A : Type 0} → ℕ → Res (State H O) A → Res (State H O) A
leave k (Go a t) = Go a (close (length t.entered - k) t)
leave k (Stop w t) = Stop w t

-- a scope: the slots that it enters are left at its end
abbrev pub scoped : {H O A : Type 0} → Act (State H O) A → Act (State H O) A
scoped m s = leave (length s.entered) (m s)

-- the state after a call, before which these slots were entered
abbrev pub finish : {H O : Type 0} → List Named → State H O → State H O
finish outer s = record s { mem = record s.mem { blocks = shut (length s.entered) s.entered s.mem.blocks }; entered = outer }

-- the address so many cells further on; an offset stops at 2^32 - 1, which no block reaches
abbrev pub ahead : ℕ → Address → Address
ahead n Null = Null
ahead n (At b i) = At b (if nat_le (i + n) 4294967295 then i + n else 4294967295)

-- what both parties know before a walk: the public words, and how many private words each party has
pub record Known : Type 0 where
  pub public : List ℤ
  pub first : ℕ
  pub second : ℕ

-- what a run's nodes share
pub record Run : Type 0 where
  pub known : Known
  -- the leaves of each struct
  pub structs : List (List CType)
  -- more rounds than any loop makes
  pub rounds : ℕ

-- what surrounds a node, in every walk alike: `room` is 1,000 less the nodes that hold it through all open calls
pub record Site : Type 0 where
  pub run : Run
  pub slots : List SlotType
  pub room : ℕ

-- what surrounds a node's parts: the same with one less of room
abbrev pub deeper : Site → Site
deeper x = record x { room = x.room - 1 }

-- what surrounds the part of a conversion: one that the checker added, at its part's spot, counts for nothing
abbrev pub lighter : Site → Spot → Row_of-TExpr 1 → Site
lighter x p part = if same_spot p (spot_of part) then x else deeper x
