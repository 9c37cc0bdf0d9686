use Rattle.std.proofs.Common.{◌<◌, ◌≤◌, arith, subst, reverse}
use Rattle.oc_parser.specs.Load.{stack, load, with_token}
use Rattle.oc_parser.proofs.Totals.{total-reverse}
use Rattle.oc_parser.proofs.Loads.{Passed, pass, heavy, light}
use Rattle.oc_parser.proofs.load.first_heavy.Goals as goal

pub returns-then-more-gt-MAX_LOAD : goal.returns-then-more-gt-MAX_LOAD
returns-then-more-gt-MAX_LOAD c =
    let p = subst (λ r. Passed c.args.tokens.now (stack c.loop-token.counts.0 (reverse c.loop-token.counts.1.0)) r) c.in-Some.ensures c.loop-token.invariant.passed in
    let h : 1000 < load (with_token (stack c.loop-token.counts.0 (reverse c.loop-token.counts.1.0))) = omega (arith, total-reverse c.loop-token.counts.1.0, c.loop-token.invariant.summed, c.with_token-more.ensures.sum, c.if-more-gt-MAX_LOAD.true) in
    heavy p h

pub loop-token-preserved : goal.loop-token-preserved
loop-token-preserved c =
    let p = subst (λ r. Passed c.args.tokens.now (stack c.loop-token.counts.0 (reverse c.loop-token.counts.1.0)) r) c.in-Some.ensures c.loop-token.invariant.passed in
    let h : load (with_token (stack c.loop-token.counts.0 (reverse c.loop-token.counts.1.0))) ≤ 1000 = omega (arith, total-reverse c.loop-token.counts.1.0, c.loop-token.invariant.summed, c.with_token-more.ensures.sum, c.if-more-gt-MAX_LOAD.false) in
    record {
      passed = rw (c.in_ok-counts.ensures.stack, c.effect_of.ensures, c.is_else_next.ensures, c.with_token-more.ensures.stack) (pass p h);
      light = omega (arith, c.in_ok-counts.ensures.sum, c.if-more-gt-MAX_LOAD.false);
      summed = c.in_ok-counts.counts.summed;
      narrow = c.in_ok-counts.counts.narrow;
      all_narrow = c.in_ok-counts.counts.all_narrow;
    }

pub returns : goal.returns
returns c = light (subst (λ r. Passed c.args.tokens.now (stack c.loop-token.counts.0 (reverse c.loop-token.counts.1.0)) r) c.in_default.ensures c.loop-token.invariant.passed)
