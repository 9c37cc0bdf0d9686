-- What the samples share: setups, ends of walks, and parts of small trees.
use Rattle.std.proofs.Common.{ℕ, ◌≡◌, ℤ, List, [], ◌∷◌, Option, Some, None, false}
use Rattle.oc_values.specs.declared.integers.IntKind.TheVariants.{I32}
use Rattle.oc_cells.specs.declared.types.CType.{CType, Pointer, Array}
use Rattle.oc_source.specs.declared.spot.Spot.{Spot}
use Rattle.oc_typed.specs.declared.typed.TPlace.{TPlace}
use Rattle.oc_typed.specs.declared.typed.TExprNode.{Decay}
use Rattle.oc_typed.specs.declared.typed.TPlaceNode.{Deref, Index}
use Rattle.oc_typed.specs.declared.typed.PrintPiece.TheVariants.{Text, Decimal}
use Rattle.oc_typed.specs.declared.typed.TStmt.{TStmt}
use Rattle.oc_typed.specs.declared.typed.TStmtNode.{Block}
use Rattle.oc_walk.specs.declared.run.Value.{Value}
use Rattle.oc_walk.specs.declared.run.ClearSetup.{ClearSetup}
use Rattle.oc_walk.specs.declared.run.Outcome.{Outcome}
use Rattle.oc_walk.specs.declared.run.Outcome.TheVariants.{Done}
use Rattle.oc_walk.specs.Walking.{State, Res, Go, Stop, Halt, Ended, Needs, Odd, Known as Both}
use Rattle.oc_meanings.specs.Events.{Operand, Entry}
use Rattle.oc_meanings.proofs.Building.{here, hid, int, ex, pl, num, var, st, print}

-- a setup of these private words of both parties, with 64 transfers and 1,000 steps
abbrev pub words : List ℤ → List ℤ → ClearSetup
words x y = record { public = []; first = x; second = y; dealt = 64; budget = 1000 }

-- no public word, and so many private ones of each party
abbrev pub known : ℕ → ℕ → Both
known x y = record { public = []; first = x; second = y }

-- the list of a walk by events
abbrev pub entries : {A : Type 0} → Res (State Operand (List Entry)) A → List Entry
entries (Go a t) = t.mem.own
entries (Stop w t) = t.mem.own

-- why a walk stopped
abbrev pub halted : {S A : Type 0} → Res S A → Option Halt
halted (Go a t) = None
halted (Stop w t) = Some w

-- how a walk by events ends: with these entries and this outcome
abbrev pub Ends : Res (State Operand (List Entry)) (Value Operand) → List Entry → Outcome → Type 0
Ends (Go v s) es outcome = (es ≡ s.mem.own) × (outcome ≡ Done)
Ends (Stop (Ended o) s) es outcome = (es ≡ s.mem.own) × (outcome ≡ o)
Ends (Stop (Needs k kind) s) es outcome = ⊥
Ends (Stop (Odd p) s) es outcome = ⊥

-- the steps and the dealt transfers that a walk leaves
abbrev pub Left : {H O A : Type 0} → Res (State H O) A → ℕ → ℕ → Type 0
Left (Go v s) steps dealt = (s.steps ≡ steps) × (s.mem.dealt ≡ dealt)
Left (Stop w s) steps dealt = (s.steps ≡ steps) × (s.mem.dealt ≡ dealt)

-- the newline
abbrev pub line : List ℕ
line = 10 ∷ []

-- the print of a variable, and of two
abbrev pub shows : ℕ → TStmt
shows n = print (Decimal I32 ∷ Text line ∷ []) (var int n ∷ [])

abbrev pub shows_two : ℕ → CType → ℕ → TStmt
shows_two n t m = print (Decimal I32 ∷ Text (32 ∷ []) ∷ Decimal I32 ∷ Text line ∷ []) (var int n ∷ var t m ∷ [])

abbrev pub block : List TStmt → TStmt
block ss = st (Block ss)

-- an element of the array in a slot, at a spot
abbrev pub element : CType → ℕ → ℕ → Spot → ℕ → TPlace
element t n slot p i = record { spot = p; ty = t; node = Index (ex (Pointer false t) (Decay (pl (Array n t) slot))) (num i) }

-- a pointer to a hidden integer, and where the one in a slot leads
abbrev pub pointer : CType
pointer = Pointer false hid

abbrev pub led_by : ℕ → TPlace
led_by n = record { spot = here; ty = hid; node = Deref (var pointer n) }
