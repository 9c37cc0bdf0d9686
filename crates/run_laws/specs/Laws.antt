-- What holds of single actions of a run in the clear.
use Rattle.std.specs.Prelude.{ℕ, ◌≡◌, ◌≤◌, ◌+◌, ℤ, List, length, Bool, true, false, not, ◌&&◌, slice_get}
use Rattle.oc_values.specs.declared.integers.IntKind.{IntKind}
use Rattle.oc_values.specs.declared.integers.IntKind.TheVariants.{Bool as KBool}
use Rattle.oc_values.specs.Integers.{is_zero, number_of}
use Rattle.oc_cells.specs.declared.types.CType.{CType, Int as CInt}
use Rattle.oc_cells.specs.declared.memory.Address.{Address}
use Rattle.oc_cells.specs.declared.memory.Address.TheVariants.{Null, At}
use Rattle.oc_cells.specs.Types.{is_hidden}
use Rattle.oc_cells.specs.Layout.{has_size}
use Rattle.oc_cells.specs.Memory.{copy, AllHaveForm}
use Rattle.oc_source.specs.declared.spot.Spot.{Spot}
use Rattle.oc_typed.specs.declared.typed.TStmtNode.{Always', Row_of-TStmt}
use Rattle.oc_walk.specs.declared.run.ShownItem.{ShownItem}
use Rattle.oc_walk.specs.declared.run.Value.{Value}
use Rattle.oc_walk.specs.declared.run.Value.TheVariants.{Hidden, Pointer}
use Rattle.oc_walk.specs.Walking.{Mem, State, Res, Act, Go, Stop, Site, bind, still, scoped, answered, keeps}
use Rattle.oc_walk.specs.Cells.{puts, writes, opens, typed_slot, starts_copy, copies_all}
use Rattle.oc_walk.specs.Expressions.{Under}
use Rattle.oc_walk.specs.Statements.{F, proceed, both, node, part}
use Rattle.oc_meanings.specs.Clear.{clear}

-- what actions on memory work on, in the clear
abbrev pub ClearMem : Type 0
ClearMem = Mem ℤ (List ShownItem)

-- the state of a walk in the clear
abbrev pub ClearState : Type 0
ClearState = State ℤ (List ShownItem)

-- what is there after an action, or where it stopped
abbrev pub end_of : {S A : Type 0} → Res S A → S
end_of (Go a t) = t
end_of (Stop w t) = t

module _ (X Y : List ℤ) where
  -- a write to a hidden cell where the condition doesn't hold leaves all memory as it is
  abbrev pub LeavesHidden : Type 0
  LeavesHidden = (p : Spot) (k : IntKind) (a : Address) (v : Value ℤ) (m : ClearMem) → end_of (writes (clear X Y) p false (CInt k true) a v m) ≡ m

  -- a write to a cell that isn't hidden asks no condition
  abbrev pub WritesPublic : Type 0
  WritesPublic = (p : Spot) (e : Bool) (u : CType) (a : Address) (v : Value ℤ) (m : ClearMem) → is_hidden u ≡ false
      → writes (clear X Y) p e u a v m ≡ puts (clear X Y) p u a v m

  -- the first part under the outer condition and this one, then the second under the outer one and not this one
  abbrev pub RunsBoth : Type 0
  RunsBoth = (e : Bool) (c : ℤ) (first second : Bool → Act ClearState (F (clear X Y))) (s : ClearState)
      → both (clear X Y) e c first second s ≡ bind (first (e && not (is_zero c))) (λ f. proceed (clear X Y) f (second (e && is_zero c))) s

-- each in a run with any words of both parties
abbrev pub HeldBackWritesLeave : Type 0
HeldBackWritesLeave = (X Y : List ℤ) → LeavesHidden X Y

abbrev pub PublicWritesAreMade : Type 0
PublicWritesAreMade = (X Y : List ℤ) → WritesPublic X Y

abbrev pub BothPartsRun : Type 0
BothPartsRun = (X Y : List ℤ) → RunsBoth X Y

-- the part of a `~obliv` block runs where the condition holds, with the surrounding one as the value of its name
abbrev pub AlwaysRuns : Type 0
AlwaysRuns =
    (X Y : List ℤ) (x : Site) (w : Under (clear X Y)) (p : Spot) (n : ℕ) (s : Row_of-TStmt 1) (st : ClearState)
    → node (clear X Y) x w p (Always' n _ s) st
    ≡ scoped (typed_slot (clear X Y) p (slice_get x.slots n) (λ t. bind (opens (clear X Y) p x.run.structs t.ty n) (λ b.
    bind (still (puts (clear X Y) p t.ty (At b 0) (Hidden KBool (number_of w.enable)))) (λ _. part (clear X Y) x (record w { enable = true }) s)))) st

-- so many cells from an address on have offsets that an address can have
abbrev pub IsNear : ℕ → Address → Type 0
IsNear n Null = Unit {0}
IsNear n (At b i) = i + n ≤ 4294967295

-- a copy of cells of these leaves under no condition is that of memory, where each cell has the form of its leaf
abbrev pub CopiesAreMemorys : Type 0
CopiesAreMemorys =
    (X Y : List ℤ) (p : Spot) (ls : List CType) (to from : Address) (m : ClearMem)
    → has_size ls ≡ true → IsNear (length ls) to → IsNear (length ls) from → AllHaveForm m.blocks
    → bind (starts_copy (clear X Y) p ls to (Pointer from)) (λ b. copies_all (clear X Y) p true ls to b) m
    ≡ bind (λ n. answered p (copy n.blocks to from ls) n) keeps m
