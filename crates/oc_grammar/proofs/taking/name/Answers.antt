use Rattle.std.proofs.Common.{arith}
use Rattle.oc_grammar.proofs.Calls.{name_found, name_refused, none_next, other_next}
use Rattle.oc_lexer.specs.declared.token.TokenKind.TheVariants.{Name}
use Rattle.oc_grammar.proofs.taking.name.Goals as goal

pub returns-in_default-clause-reads : goal.returns-in_default-clause-reads
returns-in_default-clause-reads c = name_refused _ (λ n. none_next (Name n) _ c.in_default.ensures)

pub returns-in_ok-name-in-Name-clause-reads : goal.returns-in_ok-name-in-Name-clause-reads
returns-in_ok-name-in-Name-clause-reads c = name_found _ _ c.in-Some.ensures (cc (c.in-Name.is, c.in_ok-name-in-Name.ensures))

pub returns-in-Keyword-clause-reads : goal.returns-in-Keyword-clause-reads
returns-in-Keyword-clause-reads c = let h = c.in-Keyword.is in name_refused _ (λ n. other_next (Name n) _ _ _ c.in-Some.ensures (λ e. grind arith))
