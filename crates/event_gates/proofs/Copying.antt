-- A word handed on makes no gate.
use Rattle.std.proofs.Common.{ℕ, ◌≡◌, ◌+◌, ◌%◌, ◌^◌, List, [], length, Bool, refl, sym, subst, arith}
use Rattle.gate_core.specs.Circuit.{Calls}
use Rattle.gate_core.specs.GateList.{PlaysGates}
use Rattle.gate_core.proofs.Numbered.{All2-numbers}
use Rattle.oc_values.specs.declared.integers.OneOp.{OneOp}
use Rattle.oc_values.specs.declared.integers.OneOp.TheVariants.{Plus}
use Rattle.word_circuits.specs.Fragments.{Performs, fragment}
use Rattle.word_circuits.specs.Fragments.Operation.{op_copy}
use Rattle.word_circuits.specs.Operators.{unary}

module _ {S W : Type 0} (m : Calls S W) (stands : S → W → Bool → Type 0) (tally space : S → ℕ) where
  plays : (ws : List W) (s : S) → PlaysGates m (fragment op_copy (length ws)) ws s ws s
  unfolding PlaysGates fragment
  plays ws s = (ws, (refl, refl), All2-numbers [] ws 0 refl)

  same_count : (n : ℕ) → n % 2 ^ 64 ≡ (n + 0) % 2 ^ 64
  same_count n = omega arith

  copied : (ws : List W) (s : S) → Performs m stands tally space op_copy (length ws) ws s ws s
  copied ws s = record { plays = plays ws s; made = same_count (tally s); room = omega arith; keeps = λ v b h. h }

  pub handed_on : (op : OneOp) (ws r : List W) (s : S) → op ≡ Plus → r ≡ ws → Performs m stands tally space (unary op) (length ws) ws s r s
  handed_on op ws r s e h =
      subst (λ o. Performs m stands tally space (unary o) (length ws) ws s r s) (sym e)
      (subst (λ x. Performs m stands tally space op_copy (length ws) ws s x s) (sym h) (copied ws s))
