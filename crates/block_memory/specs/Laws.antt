-- Two memories that answer alike.
use Rattle.std.specs.Prelude.{◌≡◌, ℕ, ℤ, pos, Bool, List, length, slice_get, Some, Ok}
use Rattle.oc_values.specs.declared.integers.IntKind.{IntKind}
use Rattle.oc_values.specs.Integers.{IsOfKind}
use Rattle.oc_cells.specs.declared.types.CType.{CType}
use Rattle.oc_cells.specs.declared.memory.Address.{Address}
use Rattle.oc_cells.specs.declared.memory.CellValue.{CellValue}
use Rattle.oc_cells.specs.declared.memory.Cell.{Cell}
use Rattle.oc_cells.specs.declared.memory.Block.{Block}
use Rattle.oc_cells.specs.Types.{kind_of}
use Rattle.oc_cells.specs.Memory.{cell, load, storable, store, put, offset, copyable, copy, ended, free, living, make_copies, is_live}
use Rattle.oc_cells.specs.Joined.{SameAnswer, SameCell, SameValue, SameMemory}

-- each call answers alike on two memories, and leaves them alike; hidden values are related at the kind of their cell
pub record AnswerAlike {H K : Type 0} (R : IntKind → H → K → Type 0) (zero_of : IntKind → H) (nought_of : IntKind → K)
    (m : List (Block H)) (n : List (Block K)) : Type 0 where
  pub cells : (at : Address) → SameAnswer (SameCell R) (cell m at) (cell n at)
  pub loads : (at : Address) (leaf : CType) → SameAnswer (SameValue R (kind_of leaf)) (load m at leaf) (load n at leaf)
  pub writable : (at : Address) (leaf : CType) → SameAnswer (λ _ _. Unit {0}) (storable m at leaf) (storable n at leaf)
  pub stores : (at : Address) (leaf : CType) (v : CellValue H) (w : CellValue K)
      → SameValue R (kind_of leaf) v w → SameAnswer (SameMemory R) (store m at leaf v) (store n at leaf w)
  pub puts : (at : Address) (k : IntKind) (v : CellValue H) (w : CellValue K)
      → ((c : Cell H) → cell m at ≡ Ok c → kind_of c.leaf ≡ k) → SameValue R k v w → SameMemory R (put m at v) (put n at w)
  pub offsets : (at : Address) (amount : ℤ) (size : ℕ)
      → SameAnswer (λ a b. a ≡ b) (offset m at amount size) (offset n at amount size)
  pub checks : (to from : Address) (leaves : List CType)
      → SameAnswer (λ _ _. Unit {0}) (copyable m to from leaves) (copyable n to from leaves)
  pub copies : (to from : Address) (leaves : List CType) → SameAnswer (SameMemory R) (copy m to from leaves) (copy n to from leaves)
  pub ends : (block : ℕ) → SameMemory R (ended m block) (ended n block)
  pub frees : (at : Address) → SameAnswer (SameMemory R) (free m at) (free n at)
  pub makes : (limit : ℕ) (allocated : Bool) (leaves : List CType) (count : ℤ)
      → SameAnswer (SameMemory R) (make_copies zero_of limit allocated m leaves count)
      (make_copies nought_of limit allocated n leaves count)
  pub counts : living m ≡ living n
  pub numbers : length m ≡ length n
  pub lives : (block : ℕ) → is_live (slice_get m block) ≡ is_live (slice_get n block)

-- what a hidden integer is to whoever lists the events of a run: an integer that is known, or the value of an event
pub data Operand : Type 0 where
  known : IntKind → ℤ → Operand
  event : ℕ → Operand

-- the value of an operand is this integer, where these are the values of the events
abbrev pub HasValue : List ℤ → ℤ → Operand → Type 0
HasValue values z (known k n) = z ≡ n
HasValue values z (event i) = slice_get values i ≡ Some z

-- the integer that an operand stands for is its value, and one of the kind
pub record Stands (values : List ℤ) (k : IntKind) (z : ℤ) (y : Operand) : Type 0 where
  pub value : HasValue values z y
  pub of_kind : IsOfKind k z

-- the memory of integers and that of operands answer alike
abbrev pub OperandsAgree : Type 0
OperandsAgree = (values : List ℤ) (m : List (Block ℤ)) (n : List (Block Operand)) → SameMemory (Stands values) m n
    → AnswerAlike (Stands values) (λ k. pos 0) (λ k. known k (pos 0)) m n
