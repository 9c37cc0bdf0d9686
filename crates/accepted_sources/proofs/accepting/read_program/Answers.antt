use Rattle.std.proofs.Common.{◌≡◌, List, subst}
use Rattle.oc_source.specs.declared.spot.Spot.{Spot}
use Rattle.oc_source.specs.declared.parsed.Program.{Program}
use Rattle.oc_lexer.specs.declared.token.LexRule.{LexRule}
use Rattle.oc_lexer.specs.declared.token.Token.{Token}
use Rattle.oc_lexer.specs.Faults.{IfRefused as IfUnlexed}
use Rattle.oc_lexer.specs.Sources.{Spells, HasNoTokens}
use Rattle.oc_grammar.specs.Headings.{Derives}
use Rattle.oc_parser.specs.declared.faults.ParseRule.{ParseRule}
use Rattle.oc_parser.specs.Load.{IsLight}
use Rattle.oc_parser.specs.Refusals.{IfRefused as IfUnparsed, HasNoTree}
use Rattle.accepted_sources.specs.Accepted.{IsLexed}
use Rattle.accepted_sources.proofs.Refusing.{lex_refuses, parse_refuses, has_program}
use Rattle.accepted_sources.proofs.accepting.read_program.Goals as goal

pub returns-in-Err-Refused : goal.returns-in-Err-Refused
returns-in-Err-Refused c =
    rw (c.refused.ensures, c.in-Err-Refused.rule-is, c.in-Err-Refused.spot-is)
    (lex_refuses c.args.source.now c.in-Err-Refused.rule c.in-Err-Refused.spot
    (subst (λ e. IfUnlexed e (λ rule spot. (other : LexRule) (at : Spot) → HasNoTokens c.args.source.now other at → (other ≡ rule) × (at ≡ spot))) c.in-Err-Refused.field-0-is c.in-Err-Refused.ensures.only_refusal)
    (subst (λ e. IfUnlexed e (λ rule spot. (tokens : List Token) → Spells c.args.source.now tokens → ⊥)) c.in-Err-Refused.field-0-is c.in-Err-Refused.ensures.none)
    (subst (λ e. IfUnlexed e (λ rule spot. HasNoTokens c.args.source.now rule spot)) c.in-Err-Refused.field-0-is c.in-Err-Refused.ensures.refused))

pub returns-in-Err-Refused-parse : goal.returns-in-Err-Refused-parse
returns-in-Err-Refused-parse c =
    let is : IsLexed c.args.source.now c.in-Ok.lexed = record { spelled = c.in-Ok.ensures.spelled; end = c.in-Ok.ensures.end } in
    rw (c.refused-in-Err-Refused-parse.ensures, c.in-Err-Refused-parse.rule-is, c.in-Err-Refused-parse.spot-is)
    (parse_refuses c.args.source.now c.in-Ok.lexed is c.in-Ok.ensures.only c.in-Ok.ensures.accepted c.in-Err-Refused-parse.rule c.in-Err-Refused-parse.spot
    (subst (λ e. IfUnparsed e (λ rule spot. (other : ParseRule) (at : Spot) → HasNoTree c.in-Ok.lexed other at → (other ≡ rule) × (at ≡ spot))) c.in-Err-Refused-parse.field-0-is c.in-Err-Refused-parse.ensures.only_refusal)
    (subst (λ e. IfUnparsed e (λ rule spot. (program : Program) → Derives program c.in-Ok.lexed.tokens → IsLight c.in-Ok.lexed.tokens → ⊥)) c.in-Err-Refused-parse.field-0-is c.in-Err-Refused-parse.ensures.none)
    (subst (λ e. IfUnparsed e (λ rule spot. HasNoTree c.in-Ok.lexed rule spot)) c.in-Err-Refused-parse.field-0-is c.in-Err-Refused-parse.ensures.refused))

pub returns-in-Ok-parse : goal.returns-in-Ok-parse
returns-in-Ok-parse c =
    let is : IsLexed c.args.source.now c.in-Ok.lexed = record { spelled = c.in-Ok.ensures.spelled; end = c.in-Ok.ensures.end } in
    has_program c.args.source.now c.in-Ok.lexed is c.in-Ok.ensures.only c.in-Ok.ensures.accepted c.in-Ok-parse.program c.in-Ok-parse.ensures.light c.in-Ok-parse.ensures.tree c.in-Ok-parse.ensures.only c.in-Ok-parse.ensures.accepted
