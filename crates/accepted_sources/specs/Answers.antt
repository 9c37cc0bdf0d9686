-- What reading a source answers (it is accepted, or has just one refusal), and the law that a source with a parsed tree is one of both.
use Rattle.std.specs.Prelude.{ℕ, ◌≡◌, ◌⊎◌, List, Result, Ok, Err}
use Rattle.oc_source.specs.declared.spot.Spot.{Spot}
use Rattle.oc_source.specs.declared.parsed.Program.{Program}
use Rattle.oc_lexer.specs.declared.token.LexRule.{LexRule}
use Rattle.oc_parser.specs.declared.faults.ParseRule.{ParseRule}
use Rattle.oc_typing.specs.declared.program.Typed.{Typed}
use Rattle.oc_typing.specs.Tree.{TypedTree, tree_of}
use Rattle.scope_rules.specs.InScope.{InScope}
use Rattle.accepted_sources.specs.Accepted.{IsParsed, IsTyped, Accepted, IsRefusedBy}
use Rattle.accepted_sources.specs.declared.rules.SourceRule.{SourceRule}
use Rattle.accepted_sources.specs.declared.rules.SourceRule.TheVariants.{Lex, Parse}
use Rattle.accepted_sources.specs.declared.source.AcceptedSource.{AcceptedSource}
use Rattle.accepted_sources.specs.declared.source.SourceFault.{SourceFault}
use Rattle.accepted_sources.specs.declared.source.SourceFault.TheVariants.{Refused, NoMemory}

-- the source has this parsed tree and no other, and no rule of tokens or trees refuses it
pub record HasProgram (source : List ℕ) (program : Program) : Type 0 where
  pub parsed : IsParsed source program
  pub only : (other : Program) → IsParsed source other → other ≡ program
  pub lexes : (rule : LexRule) (spot : Spot) → IsRefusedBy source (Lex rule) spot → ⊥
  pub parses : (rule : ParseRule) (spot : Spot) → IsRefusedBy source (Parse rule) spot → ⊥

-- the source is accepted with this typed tree and no other, its parsed tree is this program and no other, and no rule refuses it
pub record IsAccepted (source : List ℕ) (program : Program) (t : Typed) : Type 0 where
  pub accepted : Accepted source t
  pub parsed : IsParsed source program
  pub only : (other : Typed) → Accepted source other → tree_of other ≡ tree_of t
  pub only_parsed : (other : Program) → IsParsed source other → other ≡ program
  pub unbroken : (rule : SourceRule) (spot : Spot) → IsRefusedBy source rule spot → ⊥

-- this rule refuses the source at this spot, no other rule or spot does, and it is accepted with no typed tree
pub record IsRefused (source : List ℕ) (rule : SourceRule) (spot : Spot) : Type 0 where
  pub broken : IsRefusedBy source rule spot
  pub only : (other : SourceRule) (at : Spot) → IsRefusedBy source other at → (other ≡ rule) × (at ≡ spot)
  pub none : (t : Typed) → Accepted source t → ⊥

-- what reading the parsed tree of a source answers
abbrev pub ReadsProgram : List ℕ → Result Program SourceFault → Type 0
ReadsProgram source (Ok program) = HasProgram source program
ReadsProgram source (Err (Refused rule spot)) = IsRefused source rule spot
ReadsProgram source (Err NoMemory) = Unit {0}

-- what reading a source answers; want of memory says nothing
abbrev pub Accepts : List ℕ → Result AcceptedSource SourceFault → Type 0
Accepts source (Ok a) = IsAccepted source a.program a.typed
Accepts source (Err (Refused rule spot)) = IsRefused source rule spot
Accepts source (Err NoMemory) = Unit {0}

-- a source with a parsed tree has a typed tree that keeps the rules of scopes, or has just one refusal
abbrev pub SourcesAreJudged : Type 0
SourcesAreJudged =
    (source : List ℕ) (program : Program) → HasProgram source program
    → ((t : TypedTree) × IsTyped source t × InScope t) ⊎ ((rule : SourceRule) × (spot : Spot) × IsRefused source rule spot)
