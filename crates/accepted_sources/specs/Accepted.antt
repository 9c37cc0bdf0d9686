-- When a source is accepted, with which typed tree, and else which rule it breaks first, and where.
use Rattle.std.specs.Prelude.{ℕ, ◌≡◌, List, Some}
use Rattle.oc_source.specs.declared.spot.Spot.{Spot}
use Rattle.oc_source.specs.declared.parsed.Program.{Program}
use Rattle.oc_lexer.specs.declared.token.Lexed.{Lexed}
use Rattle.oc_lexer.specs.Places.{spot_after}
use Rattle.oc_lexer.specs.Sources.{Spells, HasNoTokens}
use Rattle.oc_grammar.specs.Headings.{Derives}
use Rattle.oc_parser.specs.Load.{IsLight}
use Rattle.oc_parser.specs.Refusals.{HasNoTree}
use Rattle.oc_typing.specs.declared.program.Typed.{Typed}
use Rattle.oc_typing.specs.Tree.{TypedTree, tree_of}
use Rattle.judged_programs.specs.ProgramTyping.{ProgramTyping}
use Rattle.judged_programs.specs.ProgramFault.{ProgramFault}
use Rattle.scope_rules.specs.InScope.{InScope}
use Rattle.scope_rules.specs.FirstFault.{first_fault}
use Rattle.accepted_sources.specs.declared.rules.SourceRule.{SourceRule}
use Rattle.accepted_sources.specs.declared.rules.SourceRule.TheVariants.{Lex, Parse, Types, Scopes}

-- the tokens of a source, and its end
pub record IsLexed (source : List ℕ) (lexed : Lexed) : Type 0 where
  pub spelled : Spells source lexed.tokens
  pub end : lexed.end ≡ spot_after source

-- the parsed tree of a source, whose tokens don't nest too deep
pub record IsParsed (source : List ℕ) (program : Program) : Type 0 where
  pub lexed : Lexed
  pub tokens : IsLexed source lexed
  pub light : IsLight lexed.tokens
  pub derived : Derives program lexed.tokens
  pub end : program.end ≡ lexed.end

-- the typed tree of a source
pub record IsTyped (source : List ℕ) (t : TypedTree) : Type 0 where
  pub program : Program
  pub parsed : IsParsed source program
  pub typed : ProgramTyping program t

-- a source is accepted with this typed tree: it has tokens, a tree and types, and keeps the rules of scopes
pub record Accepted (source : List ℕ) (t : Typed) : Type 0 where
  pub typed : IsTyped source (tree_of t)
  pub in_scope : InScope (tree_of t)

-- this is the first rule that a source breaks, and where: of its tokens, where it has them of its tree, where it has one of its
-- types, and where it has these of its scopes
abbrev pub IsRefusedBy : List ℕ → SourceRule → Spot → Type 0
IsRefusedBy source (Lex rule) p = HasNoTokens source rule p
IsRefusedBy source (Parse rule) p = (lexed : Lexed) × IsLexed source lexed × HasNoTree lexed rule p
IsRefusedBy source (Types rule) p =
    (program : Program) × IsParsed source program × ProgramFault program (record { rule = rule; spot = p })
IsRefusedBy source (Scopes rule) p = (t : TypedTree) × IsTyped source t × (first_fault t ≡ Some (record { rule = rule; spot = p }))
