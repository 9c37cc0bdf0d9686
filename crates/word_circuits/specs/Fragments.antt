-- The list of gates of each operation, how many of them are ANDs, and what a call owes that makes them.
use Rattle.std.specs.Prelude.{ℕ, ◌+◌, ◌-◌, ◌*◌, ◌≤◌, ◌⊎◌, Bool, true, false, List, get_or, take, drop}
use Rattle.gate_core.specs.Circuit.{Circuit, Calls, then}
use Rattle.gate_core.specs.Circuit.Circuit.{give}
use Rattle.gate_core.specs.Laws.{HasRoom, Rises}
use Rattle.gate_core.specs.GateList.{Gate, gates_of, numbers, PlaysGates, AffordsList}
use Rattle.word_circuits.specs.Widths.{log2}
use Rattle.word_circuits.specs.Chains.{add_circuit, subtract_circuit, negate_circuit, less_circuit, equal_circuit, to_bool_circuit, other_word}
use Rattle.word_circuits.specs.Choices.{meet_circuit, either_circuit, differ_circuit, flip_circuit, select_circuit, shift_known_circuit, shift_word_circuit, resize_circuit}
use Rattle.word_circuits.specs.Products.{multiply_circuit}
use Rattle.word_circuits.specs.Divisions.{quotient_circuit, remainder_circuit}
use Rattle.word_circuits.specs.declared.operation.WordOp.{WordOp}
use Rattle.word_circuits.specs.declared.operation.WordOp.TheVariants.{Add, Subtract, Negate, Multiply, Quotient, SignedQuotient, Remainder, SignedRemainder, Less, Equal, ToBool, Meet, Either, Differ, Flip, Select, ShiftKnown, ShiftWord, Resize}

-- an operation with what its gates depend on: whether there is a sign, whether a shift goes left, a public amount, the width to come
pub data Operation : Type 0 where
  op_add : Operation
  op_subtract : Operation
  op_negate : Operation
  op_multiply : Operation
  op_quotient : Bool → Operation
  op_remainder : Bool → Operation
  op_less : Bool → Operation
  op_less_equal : Bool → Operation
  op_greater : Bool → Operation
  op_greater_equal : Bool → Operation
  op_equal : Operation
  op_unequal : Operation
  op_to_bool : Operation
  op_is_zero : Operation
  op_meet : Operation
  op_either : Operation
  op_differ : Operation
  op_flip : Operation
  op_select : Operation
  op_shift_known : ℕ → Bool → Bool → Operation
  op_shift_word : Bool → Bool → Operation
  op_resize : ℕ → Bool → Operation
  op_copy : Operation

-- the wires of the operands, where words have w
abbrev pub inputs : Operation → ℕ → ℕ
inputs op_negate w = w
inputs op_to_bool w = w
inputs op_is_zero w = w
inputs op_flip w = w
inputs op_select w = 1 + w + w
inputs (op_shift_known amount left signed) w = w
inputs (op_resize v signed) w = w
inputs op_copy w = w
inputs _ w = w + w

-- the wires of the answer
abbrev pub outputs : Operation → ℕ → ℕ
outputs (op_less signed) w = 1
outputs (op_less_equal signed) w = 1
outputs (op_greater signed) w = 1
outputs (op_greater_equal signed) w = 1
outputs op_equal w = 1
outputs op_unequal w = 1
outputs op_to_bool w = 1
outputs op_is_zero w = 1
outputs (op_resize v signed) w = v
outputs _ w = w

-- the circuit of an operation on the operands' wires in their order; d is for a wire that isn't there
abbrev pub circuit : {W : Type 0} → Operation → ℕ → W → List W → Circuit W (List W)
circuit op_add w d xs = add_circuit w (take w xs) (drop w xs)
circuit op_subtract w d xs = subtract_circuit w (take w xs) (drop w xs)
circuit op_negate w d xs = negate_circuit w xs
circuit op_multiply w d xs = multiply_circuit w (take w xs) (drop w xs) d
circuit (op_quotient signed) w d xs = quotient_circuit signed w (take w xs) (drop w xs) d
circuit (op_remainder signed) w d xs = remainder_circuit signed w (take w xs) (drop w xs) d
circuit (op_less signed) w d xs = less_circuit signed w (take w xs) (drop w xs)
circuit (op_less_equal signed) w d xs = then (less_circuit signed w (drop w xs) (take w xs)) (other_word d)
circuit (op_greater signed) w d xs = less_circuit signed w (drop w xs) (take w xs)
circuit (op_greater_equal signed) w d xs = then (less_circuit signed w (take w xs) (drop w xs)) (other_word d)
circuit op_equal w d xs = equal_circuit w (take w xs) (drop w xs) d
circuit op_unequal w d xs = then (equal_circuit w (take w xs) (drop w xs) d) (other_word d)
circuit op_to_bool w d xs = to_bool_circuit w xs d
circuit op_is_zero w d xs = then (to_bool_circuit w xs d) (other_word d)
circuit op_meet w d xs = meet_circuit w (take w xs) (drop w xs) d
circuit op_either w d xs = either_circuit w (take w xs) (drop w xs) d
circuit op_differ w d xs = differ_circuit w (take w xs) (drop w xs) d
circuit op_flip w d xs = flip_circuit w xs d
circuit op_select w d xs = select_circuit w (get_or xs 0 d) (take w (drop 1 xs)) (drop w (drop 1 xs)) d
circuit (op_shift_known amount left signed) w d xs = shift_known_circuit left signed w amount xs
circuit (op_shift_word left signed) w d xs = shift_word_circuit left signed w (take w xs) (drop w xs)
circuit (op_resize v signed) w d xs = resize_circuit signed v w xs
circuit op_copy w d xs = give xs

-- the gates of an operation on words of w wires, and the numbers of its answer: the operands' wires have the first numbers
unfoldable pub fragment : Operation → ℕ → List Gate × List ℕ
fragment op w = gates_of (inputs op w) (circuit op w 0 (numbers 0 (inputs op w)))

-- the ANDs of an operation on words of w wires
abbrev pub ands_of : WordOp → ℕ → ℕ
ands_of Add w = w - 1
ands_of Subtract w = w - 1
ands_of Negate w = w - 1
ands_of Equal w = w - 1
ands_of ToBool w = w - 1
ands_of Less w = w
ands_of Meet w = w
ands_of Either w = w
ands_of Select w = w
ands_of Multiply w = w * w - w + 1
ands_of Quotient w = w * (2 * w + 1)
ands_of Remainder w = w * (2 * w + 1)
ands_of SignedQuotient w = w * (2 * w + 1) + 3 * (w - 1)
ands_of SignedRemainder w = w * (2 * w + 1) + 3 * (w - 1)
ands_of ShiftWord w = w * log2 w
ands_of Differ w = 0
ands_of Flip w = 0
ands_of ShiftKnown w = 0
ands_of Resize w = 0

-- the operation by the name under which its gates are counted
abbrev pub word_op : Operation → WordOp
word_op op_add = Add
word_op op_subtract = Subtract
word_op op_negate = Negate
word_op op_multiply = Multiply
word_op (op_quotient false) = Quotient
word_op (op_quotient true) = SignedQuotient
word_op (op_remainder false) = Remainder
word_op (op_remainder true) = SignedRemainder
word_op (op_less signed) = Less
word_op (op_less_equal signed) = Less
word_op (op_greater signed) = Less
word_op (op_greater_equal signed) = Less
word_op op_equal = Equal
word_op op_unequal = Equal
word_op op_to_bool = ToBool
word_op op_is_zero = ToBool
word_op op_meet = Meet
word_op op_either = Either
word_op op_differ = Differ
word_op op_flip = Flip
word_op op_select = Select
word_op (op_shift_known amount left signed) = ShiftKnown
word_op (op_shift_word left signed) = ShiftWord
word_op (op_resize v signed) = Resize
word_op op_copy = Resize

-- a state has room for an operation on words of w wires, where the operands' wires are xs: for as many ANDs as the table says, or else
-- for each AND that its gates come to
abbrev pub HasRoomFor : {S W : Type 0} → Calls S W → (S → ℕ) → S → Operation → ℕ → List W → Type 0
HasRoomFor m room s op w xs = HasRoom room s (ands_of (word_op op) w) ⊎ AffordsList m (fragment op w).0 xs s

-- an operation on words of w wires was performed on the operands' wires xs from the state s, and gave r and the state t
pub record Performs {S W : Type 0} (m : Calls S W) (stands : S → W → Bool → Type 0) (tally space : S → ℕ)
    (op : Operation) (w : ℕ) (xs : List W)
    (s : S) (r : List W) (t : S) : Type 0 where
  -- the state and the wires are those of the backend's own calls, played in the order of the list of gates
  pub plays : PlaysGates m (fragment op w) xs s r t
  -- as many ANDs were made as the table says
  pub made : Rises (tally s) (ands_of (word_op op) w) (tally t)
  -- and the room fell by no more
  pub room : space s ≤ space t + ands_of (word_op op) w
  -- a wire that stood for a bit stands for it still
  pub keeps : (v : W) (b : Bool) → stands s v b → stands t v b
