-- What the blocks of a run are to contracts, and what the calls that change them answer.
use Rattle.std.specs.Prelude.{◌≡◌, ◌≤◌, ◌<◌, ◌^◌, ◌*◌, nat_le, nat_lt, max, Bool, ◌&&◌, ℕ, ◌+◌, ℤ, pos, negsuc, List, [], ◌∷◌, ◌++◌, length, slice_get, Option, Result, Ok, Err, true, false}
use Rattle.oc_values.specs.declared.integers.IntKind.{IntKind}
use Rattle.oc_cells.specs.declared.types.CType.{CType, Int as CInt}
use Rattle.oc_cells.specs.declared.memory.Address.{Address}
use Rattle.oc_cells.specs.declared.memory.Address.TheVariants.{Null, At}
use Rattle.oc_cells.specs.declared.memory.CellValue.{CellValue}
use Rattle.oc_cells.specs.declared.memory.CellValue.TheVariants.{Int, Pointer, Hidden}
use Rattle.oc_cells.specs.declared.memory.Cell.{Cell}
use Rattle.oc_cells.specs.declared.memory.Block.{Block}
use Rattle.oc_cells.specs.declared.memory.Block.TheVariants.{Live}
use Rattle.oc_cells.specs.declared.trap.TrapKind.{TrapKind}
use Rattle.oc_cells.specs.declared.trap.TrapKind.TheVariants.{M4}
use Rattle.oc_cells.specs.Types.{AreLeaves}
use Rattle.oc_cells.specs.Layout.{repeated}
use Rattle.oc_cells.specs.Memory.{living, make_copies, AllHaveForm}
use Rattle.oc_cells.specs.Joined.{SameList}
use Rattle.block_memory.specs.declared.blocks.MakeRefusal.{MakeRefusal}
use Rattle.block_memory.specs.declared.blocks.MakeRefusal.TheVariants.{Trap, NoMemory}

-- the blocks, how many cells may live, and the leaves of each struct that types name
pub record Memory (H : Type 0) : Type 0 where
  pub blocks : List (Block H)
  pub limit : ℕ
  pub structs : List (List CType)

-- the address so many cells further on
abbrev pub further : Address → ℕ → Address
further Null n = Null
further (At b i) n = At b (i + n)

-- a count of leaves that is right where a type may have so many, and else too large as well
abbrev pub Counts : ℕ → ℕ → Type 0
Counts leaves count = (leaves ≤ 65536 → count ≡ leaves) × (65536 < leaves → 65536 < count)

-- the leaf of this number that is right where a type may have so many
abbrev pub FindsLeaf : List CType → ℕ → Option CType → Type 0
FindsLeaf leaves number found = length leaves ≤ 65536 → found ≡ slice_get leaves number

-- the blocks of the answer stand now, or the memory is as it was at a trap
abbrev pub Changes : {H : Type 0} → Result (List (Block H)) TrapKind → Result (Unit {0}) TrapKind → Memory H → Memory H → Type 0
Changes r (Ok u) old new = (r ≡ Ok new.blocks) × (new ≡ record old { blocks = new.blocks })
Changes r (Err kind) old new = (r ≡ Err kind) × (new ≡ old)

-- what a new cell of a leaf holds, where this says which hidden values are zeros of a kind: such a one, the public 0, or null
abbrev pub IsBlank : {H : Type 0} → (IntKind → H → Type 0) → CType → CellValue H → Type 0
IsBlank is_zero (CInt k true) (Hidden h) = is_zero k h
IsBlank is_zero (CInt k true) _ = ⊥
IsBlank is_zero (CInt k false) v = v ≡ Int (pos 0)
IsBlank is_zero _ v = v ≡ Pointer Null

-- a new cell of a leaf
pub record IsBlankCell {H : Type 0} (is_zero : IntKind → H → Type 0) (leaf : CType) (c : Cell H) : Type 0 where
  pub made_with : c.leaf ≡ leaf
  pub blank : IsBlank is_zero leaf c.value

-- new cells of these leaves, in order
abbrev pub AreBlank : {H : Type 0} → (IntKind → H → Type 0) → List CType → List (Cell H) → Type 0
AreBlank is_zero = SameList (IsBlankCell is_zero)

-- cells, and new ones of these leaves after them
pub record Adds {H : Type 0} (is_zero : IntKind → H → Type 0) (leaves : List CType) (old new : List (Cell H)) : Type 0 where
  pub cells : List (Cell H)
  pub blank : AreBlank is_zero leaves cells
  pub added : new ≡ old ++ cells

-- whether so many copies of so many cells may live beside those that do, where a block without cells counts as one
abbrev pub has_room : {H : Type 0} → Memory H → ℕ → ℤ → Bool
has_room m cells (pos n) = nat_le (living m.blocks + max 1 (n * cells)) m.limit && nat_lt (length m.blocks) (2 ^ 63)
has_room m cells (negsuc n) = false

-- so many copies of these leaves
abbrev pub copies_of : List CType → ℤ → List CType
copies_of leaves (pos n) = repeated n leaves
copies_of leaves (negsuc n) = []

-- a live block with new cells of these leaves stands after the other blocks
pub record AddsBlock {H : Type 0} (is_zero : IntKind → H → Type 0) (allocated : Bool) (leaves : List CType) (old new : Memory H)
    : Type 0 where
  pub cells : List (Cell H)
  pub blank : AreBlank is_zero leaves cells
  pub added : new ≡ record old { blocks = old.blocks ++ Live allocated cells ∷ [] }

-- there is room, and the new block has the number of blocks before it; or none is made, as at want of memory
abbrev pub Makes : {H : Type 0} → (IntKind → H → Type 0) → Bool → List CType → ℤ → Result ℕ MakeRefusal
    → Memory H → Memory H → Type 0
Makes is_zero allocated leaves count (Ok number) old new =
    (number ≡ length old.blocks) × (has_room old (length leaves) count ≡ true)
    × AddsBlock is_zero allocated (copies_of leaves count) old new
Makes is_zero allocated leaves count (Err (Trap kind)) old new =
    (kind ≡ M4) × (has_room old (length leaves) count ≡ false) × (new ≡ old)
Makes is_zero allocated leaves count (Err NoMemory) old new = new ≡ old

-- a block is made as the meaning of memory answers, or none at want of memory
abbrev pub MakesBy : {H : Type 0} → Result (List (Block H)) TrapKind → Result ℕ MakeRefusal → Memory H → Memory H → Type 0
MakesBy r (Ok number) old new = (number ≡ length old.blocks) × (r ≡ Ok new.blocks) × (new ≡ record old { blocks = new.blocks })
MakesBy r (Err (Trap kind)) old new = (r ≡ Err kind) × (new ≡ old)
MakesBy r (Err NoMemory) old new = new ≡ old

-- where each kind has this one zero, the memory's meaning of a new block with these zeros
abbrev pub MakesExactly : {H : Type 0} → (IntKind → H → Type 0) → Bool → List CType → ℤ → Result ℕ MakeRefusal
    → Memory H → Memory H → Type 0
MakesExactly {H} is_zero allocated leaves count result old new =
    (zero_of : IntKind → H) → ((k : IntKind) (h : H) → is_zero k h → h ≡ zero_of k)
    → MakesBy (make_copies zero_of old.limit allocated old.blocks leaves count) result old new

-- each of these is an integer or pointer type, struct by struct
abbrev pub AllAreLeaves : List (List CType) → Type 0
AllAreLeaves [] = Unit {0}
AllAreLeaves (ls ∷ lss) = AreLeaves ls × AllAreLeaves lss

-- what every memory keeps: the live cells are within the limit, and each value is of its leaf's form
pub record IsKept {H : Type 0} (m : Memory H) : Type 0 where
  pub within_limit : living m.blocks ≤ m.limit
  pub forms : AllHaveForm m.blocks
