-- Which gates an event makes, over the wires of its operands.
use Rattle.std.specs.Prelude.{ℕ, ◌-◌, nat_eq, Bool, true, false, List, [], ◌∷◌, ◌++◌, length, take, replicate, if◌then◌else◌}
use Rattle.oc_values.specs.declared.integers.IntKind.{IntKind}
use Rattle.oc_values.specs.declared.integers.IntKind.TheVariants.{Bool as KBool}
use Rattle.oc_values.specs.Integers.{width, is_signed, residue, shift_amount}
use Rattle.oc_values.specs.Kinds.{is_shift}
use Rattle.gate_core.specs.Circuit.{Calls}
use Rattle.word_circuits.specs.Known.{known_wires}
use Rattle.word_circuits.specs.Fragments.{Operation, ands_of, word_op}
use Rattle.word_circuits.specs.Fragments.Operation.{op_select, op_shift_known}
use Rattle.word_circuits.specs.Operators.{binary, unary, conversion}
use Rattle.event_gates.specs.declared.events.Operand.{Operand}
use Rattle.event_gates.specs.declared.events.Operand.TheVariants.{Fix, Of}
use Rattle.event_gates.specs.declared.events.Gated.{Gated}
use Rattle.event_gates.specs.declared.events.Gated.TheVariants.{Binary, One, Turn, ShiftBy, Pick}

-- the wires of an operand at a kind; a word of another width, which no event has there, counts as 0
abbrev pub wires_of : {S W : Type 0} → Calls S W → S → IntKind → Operand (List W) → List W
wires_of m s k (Fix l z) = known_wires m s (residue (width k) z) (width k)
wires_of m s k (Of ws) = if nat_eq (length ws) (width k) then ws else known_wires m s 0 (width k)

-- the first of these wires, or a known 0 where there is none
abbrev pub first_wire : {S W : Type 0} → Calls S W → S → List W → W
first_wire m s [] = m.known_wire s false
first_wire m s (w ∷ ws) = w

-- the wires of a shift's amount at a width: its own, as many as there is room for, and known zeros behind them
abbrev pub amount_wires : {S W : Type 0} → Calls S W → S → ℕ → Operand (List W) → List W
amount_wires m s w (Fix l z) = known_wires m s (residue w z) w
amount_wires m s w (Of ws) = take w ws ++ replicate (w - length ws) (m.known_wire s false)

-- the wires of a right operand: of a shift those of its amount
abbrev pub right_wires : {S W : Type 0} → Calls S W → S → Bool → IntKind → Operand (List W) → List W
right_wires m s true k y = amount_wires m s (width k) y
right_wires m s false k y = wires_of m s k y

-- the operation of an event, on words of so many wires
abbrev pub operation_of : {A : Type 0} → Gated A → Operation
operation_of (Binary op k x y) = binary op (is_signed k)
operation_of (One op k x) = unary op
operation_of (Turn from to x) = conversion from to
operation_of (ShiftBy left k x n) = op_shift_known (shift_amount (width k) n) left (is_signed k)
operation_of (Pick k e new old) = op_select

abbrev pub width_of : {A : Type 0} → Gated A → ℕ
width_of (Binary op k x y) = width k
width_of (One op k x) = width k
width_of (Turn from to x) = width from
width_of (ShiftBy left k x n) = width k
width_of (Pick k e new old) = width k

-- the wires of its operands, in order
abbrev pub inputs_of : {S W : Type 0} → Calls S W → S → Gated (List W) → List W
inputs_of m s (Binary op k x y) = wires_of m s k x ++ right_wires m s (is_shift op) k y
inputs_of m s (One op k x) = wires_of m s k x
inputs_of m s (Turn from to x) = wires_of m s from x
inputs_of m s (ShiftBy left k x n) = wires_of m s k x
inputs_of m s (Pick k e new old) = first_wire m s (wires_of m s KBool e) ∷ (wires_of m s k new ++ wires_of m s k old)

-- how many ANDs an event makes
abbrev pub event_ands : {A : Type 0} → Gated A → ℕ
event_ands e = ands_of (word_op (operation_of e)) (width_of e)
