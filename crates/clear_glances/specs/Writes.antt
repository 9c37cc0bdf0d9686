-- What an assignment or an update that needs no walk does.
use Rattle.std.specs.Prelude.{◌≡◌, ℤ, List, Option, Some, None, Bool, true, Ok, if◌then◌else◌}
use Rattle.oc_values.specs.declared.integers.IntKind.{IntKind}
use Rattle.oc_values.specs.declared.integers.BinaryOp.{BinaryOp}
use Rattle.oc_values.specs.Integers.{convert}
use Rattle.oc_values.specs.Kinds.{same_kind, is_shift, promoted}
use Rattle.oc_source.specs.declared.spot.Spot.{Spot}
use Rattle.oc_cells.specs.declared.types.CType.{CType}
use Rattle.oc_cells.specs.declared.memory.Block.{Block}
use Rattle.oc_cells.specs.declared.memory.Address.{Address}
use Rattle.oc_cells.specs.declared.memory.CellValue.TheVariants.{Int as CellInt}
use Rattle.oc_cells.specs.Types.{kind_of}
use Rattle.oc_cells.specs.Memory.{store}
use Rattle.oc_typed.specs.declared.typed.TExpr.{TExpr}
use Rattle.oc_typed.specs.declared.typed.TExprNode.{TExprNode, Assign, Update}
use Rattle.oc_typed.specs.declared.typed.TPlace.{TPlace}
use Rattle.oc_walk.specs.declared.run.Value.TheVariants.{Int}
use Rattle.oc_walk.specs.Walking.{Site, Go}
use Rattle.oc_walk.specs.Cells.{is_of_kind}
use Rattle.oc_walk.specs.Expressions.{Under, expr}
use Rattle.oc_meanings.specs.Clear.{clear}
use Rattle.clear_actions.specs.Acting.{state_of}
use Rattle.clear_actions.specs.declared.machine.Machine.{Machine}
use Rattle.clear_glances.specs.Glances.{IsOperated}

-- the machine with these blocks
abbrev pub with_blocks : Machine → List (Block ℤ) → Machine
with_blocks m bs = record m { store = record m.store { blocks = record m.store.blocks { blocks = bs } } }

-- the walk of this node in the clear gives this integer, of the kind of that type, whatever the words of both parties are, wherever
-- the node stands, under any enable, and blocks alone are changed
abbrev pub DoesAtOnce : Machine → TExprNode → CType → ℤ → Machine → Type 0
DoesAtOnce m node t n new =
    ((first second : List ℤ) (x : Site) (w : Under (clear first second)) (p : Spot) (u : CType) → x.run.structs ≡ m.store.blocks.structs
    → expr (clear first second) x w p u node (state_of m) ≡ Go (Int (kind_of t) n) (state_of new))
    × (new ≡ with_blocks m new.store.blocks.blocks)

-- an assignment is made, or nothing
abbrev pub AssignsAtOnce : Machine → TPlace → TExpr → Option ℤ → Machine → Type 0
AssignsAtOnce m q e None new = new ≡ m
AssignsAtOnce m q e (Some n) new = DoesAtOnce m (Assign q e) q.ty n new

-- an update is made, or nothing
abbrev pub UpdatesAtOnce : Machine → BinaryOp → TPlace → TExpr → Bool → Option ℤ → Machine → Type 0
UpdatesAtOnce m op q e old None new = new ≡ m
UpdatesAtOnce m op q e old (Some n) new = DoesAtOnce m (Update op q e old) q.ty n new

-- the number is in the cell at the address now, or nothing changed
abbrev pub IsWritten : Machine → CType → IntKind → Address → ℤ → Option ℤ → Machine → Type 0
IsWritten m t k a n None new = new ≡ m
IsWritten m t k a n (Some v) new =
    (v ≡ n) × (is_of_kind k n ≡ true) × (store m.store.blocks.blocks a t (CellInt n) ≡ Ok new.store.blocks.blocks)
    × (new ≡ with_blocks m new.store.blocks.blocks)

-- a number of the first kind as one of the second
abbrev pub turned : IntKind → IntKind → ℤ → ℤ
turned k l n = if same_kind k l then n else convert n l

-- it is that number
abbrev pub IsTurned : IntKind → IntKind → ℤ → Option ℤ → Type 0
IsTurned k l n None = Unit {0}
IsTurned k l n (Some v) = v ≡ turned k l n

-- the kind at which an update of a place of the first kind by a value of the second is computed
abbrev pub work : BinaryOp → IntKind → IntKind → IntKind
work op k l = if is_shift op then promoted k else l

-- an update of a place of the first kind that holds x by the number y of the second kind leaves this number in it
abbrev pub IsRenewed : BinaryOp → IntKind → IntKind → ℤ → ℤ → Option ℤ → Type 0
IsRenewed op k l x y None = Unit {0}
IsRenewed op k l x y (Some n) =
    (z : ℤ) × IsOperated (work op k l) op (work op k l) l (turned k (work op k l) x) y (Some z) × (n ≡ turned (work op k l) k z)
