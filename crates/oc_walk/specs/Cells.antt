-- The actions of a walk on blocks and cells, each of which is what one instruction does, or a part of one that stands beside it.
use Rattle.std.specs.Prelude.{ℕ, ℤ, pos, neg_ℤ, List, [], ◌∷◌, Option, Some, None, Bool, true, false, not, ◌&&◌, nat_eq}
use Rattle.oc_values.specs.declared.integers.IntKind.{IntKind}
use Rattle.oc_values.specs.declared.integers.IntKind.TheVariants.{I32}
use Rattle.oc_values.specs.Integers.{number_of, width, is_in_bits, is_signed}
use Rattle.oc_values.specs.Kinds.{same_kind}
use Rattle.oc_cells.specs.declared.types.CType.{CType, Int as CInt, Pointer'}
use Rattle.oc_cells.specs.declared.types.SlotType.{SlotType}
use Rattle.oc_cells.specs.declared.memory.Address.{Address}
use Rattle.oc_cells.specs.declared.memory.Address.TheVariants.{Null, At}
use Rattle.oc_cells.specs.declared.memory.CellValue.{CellValue}
use Rattle.oc_cells.specs.declared.memory.CellValue.TheVariants.{Int as CellInt, Pointer as CellPointer, Hidden as CellHidden}
use Rattle.oc_cells.specs.declared.trap.TrapKind.TheVariants.{M3}
use Rattle.oc_cells.specs.Types.{kind_of, is_hidden, is_struct}
use Rattle.oc_cells.specs.Layout.{leaves, has_size}
use Rattle.oc_cells.specs.Memory.{offset, free, copyable}
use Rattle.oc_source.specs.declared.spot.Spot.{Spot}
use Rattle.oc_walk.specs.declared.run.Value.{Value}
use Rattle.oc_walk.specs.declared.run.Value.TheVariants.{Int, Pointer, Hidden, Nothing}
use Rattle.oc_walk.specs.Domain.{Domain}
use Rattle.oc_walk.specs.Walking.{Mem, State, Act, after, bind, pure, trap, odd, choose, still, own, answered, keeps, loads, stores, makes, enter, block_of, ahead}

-- whether a public integer is a value of the kind
abbrev pub is_of_kind : IntKind → ℤ → Bool
is_of_kind k n = is_in_bits (is_signed k) (width k) n

-- an amount of elements, forward or back
abbrev pub signed_by : Bool → ℤ → ℤ
signed_by true n = neg_ℤ n
signed_by false n = n

-- whether two addresses are the same
abbrev pub same_address : Address → Address → Bool
same_address Null Null = true
same_address (At b i) (At c j) = nat_eq b c && nat_eq i j
same_address _ _ = false

-- the truth value, or the other one where it is negated
abbrev pub negated_by : Bool → Bool → Bool
negated_by true b = not b
negated_by false b = b

-- what a place is for a read or a write: the cell at an address
pub data Goal (H : Type 0) : Type 0 where
  Only : Address → Goal H

module _ (D : Domain) where
  -- the value of an expression, with the domain's hidden values
  abbrev pub V : Type 0
  V = Value D.Hidden

  -- what the actions on memory work on, with the domain's hidden values and its own state
  abbrev pub M : Type 0
  M = Mem D.Hidden D.Own

  -- the state of a walk over the domain
  abbrev pub S : Type 0
  S = State D.Hidden D.Own

  -- an action of a walk over the domain, whose result is of this type
  abbrev pub A : Type 0 → Type 0
  A T = Act S T

  -- what a cell that is read with this type holds, as a value
  abbrev pub valued : Spot → CType → CellValue D.Hidden → Act M V
  valued p (CInt k false) (CellInt n) = pure (Int k n)
  valued p (CInt k true) (CellHidden h) = pure (Hidden k h)
  valued p (Pointer' f u t) (CellPointer a) = pure (Pointer a)
  valued p _ _ = odd p

  -- the value of the cell at this address, which is read with this type
  abbrev pub reads : Spot → CType → Address → Act M V
  reads p ty a = bind (loads p a ty) (valued p ty)

  -- whether a cell of this type holds the value
  abbrev pub fits_leaf : CType → V → Bool
  fits_leaf (CInt k false) (Int l n) = same_kind k l && is_of_kind k n
  fits_leaf (CInt k true) (Hidden l h) = same_kind k l
  fits_leaf (Pointer' f u t) (Pointer a) = true
  fits_leaf _ _ = false

  -- a value as a cell holds it
  abbrev pub cell_of : V → CellValue D.Hidden
  cell_of (Int k n) = CellInt n
  cell_of (Pointer a) = CellPointer a
  cell_of (Hidden k h) = CellHidden h
  cell_of Nothing = CellPointer Null

  -- a write that no enable holds back, and the value that is then in the cell
  abbrev pub puts : Spot → CType → Address → V → Act M V
  puts p u a v = choose (fits_leaf u v) (bind (stores p a u (cell_of v)) (λ _. pure v)) (odd p)

  -- a write to a hidden cell that holds this: the new value or the old one, as the domain picks
  abbrev pub picks : Spot → D.Enable → IntKind → Address → D.Hidden → CellValue D.Hidden → Act M V
  picks p e k a new (CellHidden old) =
      bind (own (D.pick k e new old)) (λ h. bind (stores p a (CInt k true) (CellHidden h)) (λ _. pure (Hidden k h)))
  picks p e k a new _ = odd p

  -- a write to a hidden cell under the enable, and what is then in it
  abbrev pub writes_hidden : Spot → D.Enable → IntKind → Address → V → Act M V
  writes_hidden p e k a (Hidden l h) =
      choose (same_kind k l) (bind (loads p a (CInt k true)) (picks p e k a h)) (odd p)
  writes_hidden p e k a _ = odd p

  -- a write, which the enable holds back where the cell is hidden, and what is then in the cell
  abbrev pub writes : Spot → D.Enable → CType → Address → V → Act M V
  writes p e u a v = choose (is_hidden u) (writes_hidden p e (kind_of u) a v) (puts p u a v)

  -- what an update reads of a place
  abbrev pub gets : Spot → CType → Goal D.Hidden → Act M V
  gets p u (Only a) = reads p u a

  -- what is read of a place; of a struct, where it stands
  abbrev pub fetches : Spot → CType → Goal D.Hidden → Act M V
  fetches p u (Only a) = choose (is_struct u) (pure (Pointer a)) (reads p u a)

  -- a write to a place that is no struct
  abbrev pub sets : Spot → D.Enable → CType → Goal D.Hidden → V → Act M V
  sets p e u (Only a) v = writes p e u a v

  -- where a pointer leads, or trap M3
  abbrev pub follows : Spot → V → Act M Address
  follows p (Pointer (At b i)) = pure (At b i)
  follows p (Pointer Null) = trap M3 p
  follows p _ = odd p

  -- the address that a pointer is, null too
  abbrev pub addressed : Spot → V → Act M Address
  addressed p (Pointer a) = pure a
  addressed p _ = odd p

  -- an address moved by so many elements of this size
  abbrev pub moves : Spot → ℕ → Bool → V → V → Act M Address
  moves p size back (Pointer a) (Int k n) m =
      choose (is_of_kind k n) (answered p (offset m.blocks a (signed_by back n) size)) (odd p) m
  moves p size back _ _ m = odd p m

  -- whether two pointers are the same, or aren't
  abbrev pub same_places : Spot → Bool → V → V → Act M V
  same_places p negated (Pointer a) (Pointer b) = pure (Int I32 (number_of (negated_by negated (same_address a b))))
  same_places p negated _ _ = odd p

  -- the first trap of a copy of cells of these leaves: all reads, then all writes
  abbrev pub checks_copy : Spot → Address → Address → List CType → Act M (Unit {0})
  checks_copy p to from ls m = answered p (copyable m.blocks to from ls) m

  -- the checks of a copy to this address, and where it copies from
  abbrev pub starts_copy : Spot → List CType → Address → V → Act M Address
  starts_copy p ls a v =
      choose (has_size ls) (bind (addressed p v) (λ b. bind (checks_copy p a b ls) (λ _. pure b))) (odd p)

  -- one cell of a copy
  abbrev pub copies_cell : Spot → D.Enable → CType → Address → Address → Act M V
  copies_cell p e l to from = bind (reads p l from) (λ v. writes p e l to v)

  -- cells of these leaves copied in order, each read just before it is written
  abbrev pub copies_all : Spot → D.Enable → List CType → Address → Address → Act M (Unit {0})
  copies_all p e [] to from = pure tt
  copies_all p e (l ∷ ls) to from = bind (copies_cell p e l to from) (λ _. copies_all p e ls (ahead 1 to) (ahead 1 from))

  -- a hidden zero of the kind
  abbrev pub nought : IntKind → D.Hidden
  nought k = D.known k (pos 0)

  -- a new variable of zero cells, whose slot's number stands for it from now on: its block
  abbrev pub opens : Spot → List (List CType) → CType → ℕ → A ℕ
  opens p lss u n =
      choose (has_size (leaves lss u))
      (bind (still (makes nought p false (leaves lss u) (pos 1))) (λ b. bind (enter n b) (λ _. pure b)))
      (odd p)

  -- a new allocated block of so many elements of this type, all zero
  abbrev pub allocates : Spot → List (List CType) → CType → V → Act M V
  allocates p lss u (Int k n) =
      choose (has_size (leaves lss u)) (bind (makes nought p true (leaves lss u) n) (λ b. pure (Pointer (At b 0)))) (odd p)
  allocates p lss u _ = odd p

  -- the allocated block that starts here is gone
  abbrev pub frees : Spot → V → Act M V
  frees p (Pointer a) m = after (answered p (free m.blocks a) m) (λ blocks. bind (keeps blocks) (λ _. pure Nothing))
  frees p _ m = odd p m

  -- what follows with the type of a slot that is there
  abbrev pub typed_slot : {T R : Type 0} → Spot → Option SlotType → (SlotType → Act T R) → Act T R
  typed_slot p (Some t) k = k t
  typed_slot p None k = odd p

  -- the variable of a slot
  abbrev pub variable : Spot → Option ℕ → A Address
  variable p (Some b) = pure (At b 0)
  variable p None = odd p

  -- the address of the variable that was entered last under this slot's number
  abbrev pub slot : Spot → ℕ → A Address
  slot p n s = variable p (block_of n s.entered) s
