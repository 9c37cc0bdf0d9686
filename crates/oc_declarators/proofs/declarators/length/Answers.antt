use Rattle.std.proofs.Common.{arith}
use Rattle.oc_grammar.proofs.Calls.{error_on, none_next, other_next}
use Rattle.oc_lexer.specs.declared.token.TokenKind.TheVariants.{Number}
use Rattle.oc_declarators.proofs.Names.{length_found, length_refused, dim_fails, bracket_fails, dim_read}
use Rattle.oc_declarators.proofs.declarators.length.Goals as goal

pub returns-in_default-clause-reads : goal.returns-in_default-clause-reads
returns-in_default-clause-reads c = dim_fails (length_refused _ (λ n. none_next (Number n) _ c.in_default.ensures))

pub returns-in_err-rest-in-Number-clause-reads : goal.returns-in_err-rest-in-Number-clause-reads
returns-in_err-rest-in-Number-clause-reads c = error_on _ _ _ _ _ _ _ _ c.from_residual.ensures.1 c.in_err-rest-in-Number.ensures (λ rest f. bracket_fails (length_found _ _ c.in-Some.ensures c.in-Number.is) f)

pub returns-in_ok-rest-in-Number-clause-reads : goal.returns-in_ok-rest-in-Number-clause-reads
returns-in_ok-rest-in-Number-clause-reads c = dim_read (length_found _ _ c.in-Some.ensures c.in-Number.is) c.in_ok-rest-in-Number.ensures

pub returns-in-Keyword-clause-reads : goal.returns-in-Keyword-clause-reads
returns-in-Keyword-clause-reads c = let h = c.in-Keyword.is in dim_fails (length_refused _ (λ n. other_next (Number n) _ _ _ c.in-Some.ensures (λ e. grind arith)))
