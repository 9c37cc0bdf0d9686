use Rattle.std.proofs.Common.{arith, ap, length}
use Rattle.oc_lexer.specs.declared.token.TokenKind.TheVariants.{Sign}
use Rattle.oc_lexer.specs.declared.token.Sign.TheVariants as s
use Rattle.oc_grammar.specs.Tokens.{NotNext}
use Rattle.oc_grammar.specs.Headings.{Parameter}
use Rattle.oc_grammar.proofs.Calls.{error_on}
use Rattle.oc_grammar.proofs.Lists as list
use Rattle.oc_parser.proofs.Fields.{comma_bracket}
use Rattle.oc_parser.proofs.params.listed.Goals as goal

pub returns-in_err-first-clause-reads : goal.returns-in_err-first-clause-reads
returns-in_err-first-clause-reads c = error_on _ _ _ _ _ _ _ _ c.from_residual.ensures.1 c.in_err-first.ensures.reads (λ rest f. list.list_fails Parameter (NotNext (Sign s.LeftBracket)) comma_bracket _ f)

pub loop-after-init : goal.loop-after-init
loop-after-init c = record { reads = rw (c.in_ok-push.ensures.ok, c.new-found.ensures) (list.list_first Parameter (NotNext (Sign s.LeftBracket)) comma_bracket _ c.in_ok-first.ensures.reads); shorter = c.in_ok-first.ensures.shorter }

pub returns-in_err-more-clause-reads : goal.returns-in_err-more-clause-reads
returns-in_err-more-clause-reads c = error_on _ _ _ _ _ _ _ _ c.from_residual-in_err-more.ensures.1 c.in_err-more.ensures.reads (λ rest f. list.more_fails Parameter (NotNext (Sign s.LeftBracket)) comma_bracket _ c.loop-after.invariant.reads c.in-Some.ensures f)

pub loop-after-preserved : goal.loop-after-preserved
loop-after-preserved c = record { reads = rw c.in_ok-push-2.ensures.ok (list.more_read Parameter (NotNext (Sign s.LeftBracket)) comma_bracket _ c.loop-after.invariant.reads c.in-Some.ensures c.in_ok-more.ensures.reads); shorter = omega (arith, ap length c.in-Some.ensures.whole, c.in_ok-more.ensures.shorter, c.loop-after.invariant.shorter) }

pub returns-clause-reads : goal.returns-clause-reads
returns-clause-reads c = list.list_done Parameter (NotNext (Sign s.LeftBracket)) comma_bracket _ c.loop-after.invariant.reads c.in_default.ensures
