use Rattle.std.proofs.Common.{◌≡◌, ◌≤◌, ◌*◌, ◌+◌, get_or, sym, ap, subst, arith, Option, None}
use Rattle.std.specs.Prelude.{MatchOption, ℕ}
use Rattle.oc_lexer.specs.Numbers.{base_of, digit_value}
use Rattle.oc_lexer.proofs.Cuts.{value_over}
use Rattle.oc_lexer.proofs.numbers.value_of.Goals as goal

over : (o : Option ℕ) (limit total : ℕ) → o ≡ None → limit ≤ total → MatchOption o (limit ≤ total) (λ v. v ≡ total)
over o limit total e h = subst (λ (x : Option ℕ). MatchOption x (limit ≤ total) (λ v. v ≡ total)) (sym e) h

pub returns-in_err-checked_mul : goal.returns-in_err-checked_mul
returns-in_err-checked_mul c =
    let d = get_or c.args.digits.now c.loop-byte.byte-index 0 in
    let b = ap (λ x. c.loop-byte.value * x) c.base.ensures in
    let h : 18446744073709551616 ≤ c.loop-byte.value * base_of c.args.form + digit_value d = omega (arith, b, c.in_err-checked_mul.ensures) in
    over _ _ _ c.from_residual.ensures (value_over c.args.form c.loop-byte.value _ 18446744073709551616 c.args.digits.now c.loop-byte.byte-index c.loop-byte-test.true c.loop-byte.invariant h)

pub returns-in_err-value : goal.returns-in_err-value
returns-in_err-value c =
    let d = get_or c.args.digits.now c.loop-byte.byte-index 0 in
    let b = ap (λ x. c.loop-byte.value * x) c.base.ensures in
    let h : 18446744073709551616 ≤ c.loop-byte.value * base_of c.args.form + digit_value d = omega (arith, b, c.in_err-value.ensures, c.in_ok-checked_mul.ensures, c.digit_value.ensures) in
    over _ _ _ c.from_residual-in_err-value.ensures (value_over c.args.form c.loop-byte.value _ 18446744073709551616 c.args.digits.now c.loop-byte.byte-index c.loop-byte-test.true c.loop-byte.invariant h)
