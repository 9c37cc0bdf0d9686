-- What a glance at a part of a tree tells of its walk. One that gives nothing tells nothing.
use Rattle.std.specs.Prelude.{ℕ, ◌≡◌, ℤ, List, Option, Some, None, true, false, Ok, reverse}
use Rattle.oc_values.specs.declared.integers.IntKind.{IntKind}
use Rattle.oc_values.specs.declared.integers.BinaryOp.{BinaryOp}
use Rattle.oc_values.specs.Integers.{operate_public, kind_of_result}
use Rattle.oc_values.specs.Kinds.{same_kind}
use Rattle.oc_source.specs.declared.spot.Spot.{Spot}
use Rattle.oc_cells.specs.declared.types.CType.{CType, Int as CInt}
use Rattle.oc_cells.specs.declared.memory.Address.{Address}
use Rattle.oc_cells.specs.declared.memory.Address.TheVariants.{At}
use Rattle.oc_cells.specs.declared.memory.CellValue.TheVariants.{Int as CellInt, Pointer as CellPointer}
use Rattle.oc_cells.specs.Types.{kind_of, is_pointer}
use Rattle.oc_cells.specs.Layout.{size_of}
use Rattle.oc_cells.specs.Memory.{load, offset}
use Rattle.oc_typed.specs.declared.typed.TExpr.{TExpr}
use Rattle.oc_typed.specs.declared.typed.TExprNode.{TExprNode}
use Rattle.oc_typed.specs.declared.typed.TPlace.{TPlace}
use Rattle.oc_typed.specs.declared.typed.TPlaceNode.{TPlaceNode}
use Rattle.oc_walk.specs.declared.run.Value.TheVariants.{Int, Pointer}
use Rattle.oc_walk.specs.Walking.{Site, Act, Go, block_of}
use Rattle.oc_walk.specs.Cells.{Only, is_of_kind}
use Rattle.oc_walk.specs.Expressions.{Under, whole, expr, place}
use Rattle.oc_meanings.specs.Clear.{clear}
use Rattle.clear_actions.specs.Acting.{ClearState, state_of}
use Rattle.clear_actions.specs.declared.machine.Machine.{Machine}

-- the walk of a part in the clear, whatever the words of both parties are
abbrev pub Part : Type 0 → Type 0
Part T = (first second : List ℤ) → Site → Under (clear first second) → Act ClearState T

-- wherever the part stands among the store's structs, its walk gives this at once, and changes nothing
abbrev pub AtOnce : {T : Type 0} → Machine → Part T → T → Type 0
AtOnce m part a = (first second : List ℤ) (x : Site) (w : Under (clear first second)) → x.run.structs ≡ m.store.blocks.structs
    → part first second x w (state_of m) ≡ Go a (state_of m)

-- a glance at an expression tells its integer
abbrev pub Tells : Machine → TExpr → Option ℤ → Type 0
Tells m e None = Unit {0}
Tells m e (Some n) = AtOnce m (λ f s x w. whole (clear f s) x w e) (Int (kind_of e.ty) n)

-- the same of a node whose type is a public integer of this kind
abbrev pub TellsNode : Machine → IntKind → TExprNode → Option ℤ → Type 0
TellsNode m k e None = Unit {0}
TellsNode m k e (Some n) = (p : Spot) → AtOnce m (λ f s x w. expr (clear f s) x w p (CInt k false) e) (Int k n)

-- a glance at an expression tells where it leads
abbrev pub TellsPointer : Machine → TExpr → Option Address → Type 0
TellsPointer m e None = Unit {0}
TellsPointer m e (Some a) = AtOnce m (λ f s x w. whole (clear f s) x w e) (Pointer a)

-- the same of a node, of any type
abbrev pub TellsLink : Machine → TExprNode → Option Address → Type 0
TellsLink m e None = Unit {0}
TellsLink m e (Some a) = (p : Spot) (t : CType) → AtOnce m (λ f s x w. expr (clear f s) x w p t e) (Pointer a)

-- a glance at a place tells where it stands
abbrev pub TellsPlace : Machine → TPlace → Option Address → Type 0
TellsPlace m q None = Unit {0}
TellsPlace m q (Some a) = AtOnce m (λ f s x w. place (clear f s) x w q.spot q.ty q.node) (Only a)

-- the same of a place of this type with this node
abbrev pub TellsPlaceNode : Machine → CType → TPlaceNode → Option Address → Type 0
TellsPlaceNode m t q None = Unit {0}
TellsPlaceNode m t q (Some a) = (p : Spot) → AtOnce m (λ f s x w. place (clear f s) x w p t q) (Only a)

-- the type is a public integer of this kind
abbrev pub IsPublic : CType → Option IntKind → Type 0
IsPublic t None = Unit {0}
IsPublic t (Some k) = t ≡ CInt k false

-- it is this number
abbrev pub Fits : ℤ → Option ℤ → Type 0
Fits n None = Unit {0}
Fits n (Some m) = n ≡ m

-- the operator on these numbers of one kind gives this one of the other kind
abbrev pub IsOperated : IntKind → BinaryOp → IntKind → IntKind → ℤ → ℤ → Option ℤ → Type 0
IsOperated k op l r x y None = Unit {0}
IsOperated k op l r x y (Some n) = (same_kind l r ≡ true) × (kind_of_result op l ≡ k) × (operate_public op l x y ≡ Ok n)

-- the variable of a slot stands there
abbrev pub IsEntered : Machine → ℕ → Option Address → Type 0
IsEntered m n None = Unit {0}
IsEntered m n (Some a) = (b : ℕ) × (block_of n (reverse m.entered) ≡ Some b) × (a ≡ At b 0)

-- the cell of this public type, whose kind it is, holds this number
abbrev pub IsHeld : Machine → CType → IntKind → Address → Option ℤ → Type 0
IsHeld m t k a None = Unit {0}
IsHeld m t k a (Some n) = (t ≡ CInt k false) × (load m.store.blocks.blocks a t ≡ Ok (CellInt n))

-- the cell of this pointer type holds this address
abbrev pub IsLinked : Machine → CType → Address → Option Address → Type 0
IsLinked m t a None = Unit {0}
IsLinked m t a (Some b) = (is_pointer t ≡ true) × (load m.store.blocks.blocks a t ≡ Ok (CellPointer b))

-- the address moved by so many elements, an integer of this kind, is this one
abbrev pub IsMoved : Machine → CType → IntKind → Address → ℤ → Option Address → Type 0
IsMoved m t k a n None = Unit {0}
IsMoved m t k a n (Some b) = (is_of_kind k n ≡ true) × (offset m.store.blocks.blocks a n (size_of m.store.blocks.structs t) ≡ Ok b)
