-- What a walk does with hidden values: the walk of a program is one, and each of its meanings is a domain.
use Rattle.std.specs.Prelude.{ℕ, ℤ, List, Option}
use Rattle.oc_values.specs.declared.integers.IntKind.{IntKind}
use Rattle.oc_values.specs.declared.integers.BinaryOp.{BinaryOp}
use Rattle.oc_values.specs.declared.integers.OneOp.{OneOp}

-- which parts of an `obliv if` are walked
pub data Parts : Type 0 where
  AllOf : Parts
  FirstOf : Parts
  SecondOf : Parts

-- what hidden values are to a walk, and what is done with them
pub record Domain : Type 1 where
  pub Hidden : Type 0
  -- under what a hidden cell is written
  pub Enable : Type 0
  -- what the domain itself keeps: the shown items, or the events with the prints
  pub Own : Type 0
  -- a public integer of the kind as a hidden one
  pub known : IntKind → ℤ → Hidden
  -- an operator with one operand, of a value of the kind
  pub one : OneOp → IntKind → Hidden → Own → Hidden × Own
  -- an operator with two operands, of values of the kind; a shift's right operand may have another kind
  pub binary : BinaryOp → IntKind → Hidden → Hidden → Own → Hidden × Own
  -- a shift of a value of the kind by a public amount
  pub shift : BinaryOp → IntKind → Hidden → ℤ → Own → Hidden × Own
  -- a value of the first kind converted to the second
  pub turn : IntKind → IntKind → Hidden → Own → Hidden × Own
  -- what a cell of the kind holds after a write under the enable: of the new value and the old one
  pub pick : IntKind → Enable → Hidden → Hidden → Own → Hidden × Own
  -- the enable of unconditional code
  pub always : Enable
  -- an enable as a hidden Bool
  pub held : Enable → Hidden
  -- the enable of the first part of an `obliv if`, from the outer one and the condition
  pub first : Enable → Hidden → Own → Enable × Own
  -- and of the second part, from the outer one, the condition and the first part's
  pub second : Enable → Hidden → Enable → Own → Enable × Own
  -- which parts are walked at this condition
  pub decide : Hidden → Parts
  -- the private word of a party at an index within its count, converted to the kind
  pub feed : ℕ → IntKind → ℕ → Own → Hidden × Own
  -- the integer of a hidden value of the kind, where the domain knows it
  pub knows : IntKind → Hidden → Option ℤ
  -- the hidden value of the kind was revealed as this integer
  pub reveal : IntKind → Hidden → ℤ → Own → Own
  -- the hidden value of the kind is shown to a party alone
  pub give : ℕ → IntKind → Hidden → Own → Own
  -- the text of a print is shown
  pub print : List ℕ → Own → Own
