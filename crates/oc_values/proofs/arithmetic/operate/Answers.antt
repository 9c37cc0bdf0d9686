use Rattle.std.proofs.Common.{rules, SFits}
use Rattle.std.specs.Int.{w128}
use Rattle.std.proofs.lemmas.Int.{to_z-of_z}
use Rattle.oc_values.specs.declared.integers.BinaryOp.TheVariants.{And, Or, Xor}
use Rattle.oc_values.proofs.Numbers.{result_fits}
use Rattle.oc_values.proofs.arithmetic.operate.Goals as goal

pub returns-in-And-clause-of_kind : goal.returns-in-And-clause-of_kind
returns-in-And-clause-of_kind c =
    let fits : SFits w128 c.bitwise_and.result = search rules in
    rw (c.in-And.is, to_z-of_z w128 c.bitwise_and.result fits, c.bitwise_and.ensures) (result_fits And c.args.kind _ _)

pub returns-in-Or-clause-of_kind : goal.returns-in-Or-clause-of_kind
returns-in-Or-clause-of_kind c =
    let fits : SFits w128 c.bitwise_or.result = search rules in
    rw (c.in-Or.is, to_z-of_z w128 c.bitwise_or.result fits, c.bitwise_or.ensures) (result_fits Or c.args.kind _ _)

pub returns-in-Xor-clause-of_kind : goal.returns-in-Xor-clause-of_kind
returns-in-Xor-clause-of_kind c =
    let fits : SFits w128 c.bitwise_xor.result = search rules in
    rw (c.in-Xor.is, to_z-of_z w128 c.bitwise_xor.result fits, c.bitwise_xor.ensures) (result_fits Xor c.args.kind _ _)
