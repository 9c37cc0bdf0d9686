-- What the lines call rules and traps.
use Rattle.std.specs.Prelude.{ℕ, List, codes}
use Rattle.oc_lexer.specs.declared.token.LexRule.{LexRule}
use Rattle.oc_lexer.specs.declared.token.LexRule.TheVariants.{L1, L2, L3, L4, L5, L6}
use Rattle.oc_parser.specs.declared.faults.ParseRule.{ParseRule}
use Rattle.oc_parser.specs.declared.faults.ParseRule.TheVariants.{G1, G2}
use Rattle.type_rules.specs.declared.judging.TypeRule.{TypeRule}
use Rattle.type_rules.specs.declared.judging.TypeRule.TheVariants.{T1, T2, T3, T4, T5, T6, T7, T8, T9, T10, T11, T12}
use Rattle.scope_rules.specs.declared.rules.ScopeRule.{ScopeRule}
use Rattle.scope_rules.specs.declared.rules.ScopeRule.TheVariants.{F1, F2, F3, F4, F5}
use Rattle.accepted_sources.specs.declared.rules.SourceRule.{SourceRule}
use Rattle.accepted_sources.specs.declared.rules.SourceRule.TheVariants.{Lex, Parse, Types, Scopes}
use Rattle.oc_cells.specs.declared.trap.TrapKind.{TrapKind}
use Rattle.oc_cells.specs.declared.trap.TrapKind.TheVariants.{Z1, I1, M1, M2, M3, M4, M5, M6}

-- a rule of tokens
abbrev pub lex_name : LexRule → List ℕ
lex_name L1 = codes "L1"
lex_name L2 = codes "L2"
lex_name L3 = codes "L3"
lex_name L4 = codes "L4"
lex_name L5 = codes "L5"
lex_name L6 = codes "L6"

-- a rule of trees
abbrev pub parse_name : ParseRule → List ℕ
parse_name G1 = codes "G1"
parse_name G2 = codes "G2"

-- a rule of typing
abbrev pub types_name : TypeRule → List ℕ
types_name T1 = codes "T1"
types_name T2 = codes "T2"
types_name T3 = codes "T3"
types_name T4 = codes "T4"
types_name T5 = codes "T5"
types_name T6 = codes "T6"
types_name T7 = codes "T7"
types_name T8 = codes "T8"
types_name T9 = codes "T9"
types_name T10 = codes "T10"
types_name T11 = codes "T11"
types_name T12 = codes "T12"

-- a rule of hidden scopes and frozen places
abbrev pub scopes_name : ScopeRule → List ℕ
scopes_name F1 = codes "F1"
scopes_name F2 = codes "F2"
scopes_name F3 = codes "F3"
scopes_name F4 = codes "F4"
scopes_name F5 = codes "F5"

-- a rule that refuses a source
abbrev pub source_name : SourceRule → List ℕ
source_name (Lex rule) = lex_name rule
source_name (Parse rule) = parse_name rule
source_name (Types rule) = types_name rule
source_name (Scopes rule) = scopes_name rule

-- a trap
abbrev pub trap_name : TrapKind → List ℕ
trap_name Z1 = codes "Z1"
trap_name I1 = codes "I1"
trap_name M1 = codes "M1"
trap_name M2 = codes "M2"
trap_name M3 = codes "M3"
trap_name M4 = codes "M4"
trap_name M5 = codes "M5"
trap_name M6 = codes "M6"
