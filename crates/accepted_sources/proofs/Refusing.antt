-- A source that a rule refuses is refused by no other and isn't accepted, and one that is accepted is refused by none.
use Rattle.std.proofs.Common.{ℕ, ◌≡◌, List, Some, None, sym, ap, ◌∙◌, subst}
use Rattle.std.specs.Option.{unwrap_or}
use Rattle.oc_source.specs.declared.spot.Spot.{Spot}
use Rattle.oc_source.specs.declared.parsed.Program.{Program}
use Rattle.oc_lexer.specs.declared.token.Token.{Token}
use Rattle.oc_lexer.specs.declared.token.Lexed.{Lexed}
use Rattle.oc_lexer.specs.declared.token.LexRule.{LexRule}
use Rattle.oc_lexer.specs.Sources.{Spells, HasNoTokens}
use Rattle.oc_grammar.specs.Headings.{Derives}
use Rattle.oc_parser.specs.declared.faults.ParseRule.{ParseRule}
use Rattle.oc_parser.specs.Load.{IsLight}
use Rattle.oc_parser.specs.Refusals.{HasNoTree}
use Rattle.oc_parser.specs.Trees.{IsTree}
use Rattle.oc_typing.specs.declared.program.Typed.{Typed}
use Rattle.oc_typing.specs.Tree.{TypedTree, tree_of}
use Rattle.type_rules.specs.declared.judging.TypeRule.{TypeRule}
use Rattle.type_rules.specs.declared.judging.Refusal.{Refusal}
use Rattle.judged_programs.specs.ProgramTyping.{ProgramTyping}
use Rattle.judged_programs.specs.ProgramFault.{ProgramFault}
use Rattle.judged_programs.proofs.Judged.{programs}
use Rattle.scope_rules.specs.declared.rules.ScopeRule.{ScopeRule}
use Rattle.scope_rules.specs.declared.rules.ScopeFault.{ScopeFault}
use Rattle.scope_rules.specs.FirstFault.{first_fault}
use Rattle.judged_scopes.proofs.Judged.{scopes}
use Rattle.obliv_types.specs.Promise.{IsTyped as HasTypes, IsRefused as HasNoTypes}
use Rattle.accepted_sources.specs.declared.rules.SourceRule.{SourceRule}
use Rattle.accepted_sources.specs.declared.rules.SourceRule.TheVariants.{Lex, Parse, Types, Scopes}
use Rattle.accepted_sources.specs.Accepted.{IsLexed, IsParsed, IsTyped, Accepted, IsRefusedBy}
use Rattle.accepted_sources.specs.Answers.{HasProgram, IsAccepted, IsRefused}

-- ---- Tokens

-- no tokens are the source's
module _ (source : List ℕ) (broken : LexRule) (spot : Spot) (one : (other : LexRule) (at : Spot) → HasNoTokens source other at → (other ≡ broken) × (at ≡ spot)) (never : (tokens : List Token) → Spells source tokens → ⊥) where
  unlexed : (program : Program) → IsParsed source program → ⊥
  unlexed program p = never p.lexed.tokens p.tokens.spelled

  lex_only : (other : SourceRule) (at : Spot) → IsRefusedBy source other at → (other ≡ Lex broken) × (at ≡ spot)
  lex_only (Lex other) at b = let o = one other at b in (ap Lex o.0, o.1)
  lex_only (Parse other) at b = let is : IsLexed source b.0 = b.1 in absurd (never b.0.tokens is.spelled)
  lex_only (Types other) at b = absurd (unlexed b.0 b.1)
  lex_only (Scopes other) at b = let t : IsTyped source b.0 = b.1 in absurd (unlexed t.program t.parsed)

  pub lex_refuses : HasNoTokens source broken spot → IsRefused source (Lex broken) spot
  lex_refuses h = record {
    broken = h;
    only = lex_only;
    none = λ t a. unlexed a.typed.program a.typed.parsed;
  }

-- ---- Trees

-- of a source with tokens
module _ (source : List ℕ) (lexed : Lexed) (is : IsLexed source lexed) (only : (tokens : List Token) → Spells source tokens → tokens ≡ lexed.tokens) (spelled : (other : LexRule) (at : Spot) → HasNoTokens source other at → ⊥) where
  abbrev with_parts : List Token → Spot → Lexed
  with_parts tokens end = record { tokens = tokens; end = end }

  same_lexed : (other : Lexed) → IsLexed source other → other ≡ lexed
  same_lexed other o = ap (λ ts. with_parts ts other.end) (only other.tokens o.spelled) ∙ ap (λ e. with_parts lexed.tokens e) (o.end ∙ sym is.end)

  same_tokens : (program : Program) (p : IsParsed source program) → p.lexed.tokens ≡ lexed.tokens
  same_tokens program p = only p.lexed.tokens p.tokens.spelled

  no_tree : (other : ParseRule) (at : Spot) → IsRefusedBy source (Parse other) at → HasNoTree lexed other at
  no_tree other at b = subst (λ l. HasNoTree l other at) (same_lexed b.0 b.1) b.2

  -- that have no tree
  module _ (broken : ParseRule) (spot : Spot) (one : (other : ParseRule) (at : Spot) → HasNoTree lexed other at → (other ≡ broken) × (at ≡ spot)) (never : (program : Program) → Derives program lexed.tokens → IsLight lexed.tokens → ⊥) where
    unparsed : (program : Program) → IsParsed source program → ⊥
    unparsed program p = never program (subst (λ ts. Derives program ts) (same_tokens program p) p.derived) (subst (λ ts. IsLight ts) (same_tokens program p) p.light)

    parse_only : (other : SourceRule) (at : Spot) → IsRefusedBy source other at → (other ≡ Parse broken) × (at ≡ spot)
    parse_only (Lex other) at b = absurd (spelled other at b)
    parse_only (Parse other) at b = let o = one other at (no_tree other at b) in (ap Parse o.0, o.1)
    parse_only (Types other) at b = absurd (unparsed b.0 b.1)
    parse_only (Scopes other) at b = let t : IsTyped source b.0 = b.1 in absurd (unparsed t.program t.parsed)

    pub parse_refuses : HasNoTree lexed broken spot → IsRefused source (Parse broken) spot
    parse_refuses h = record {
      broken = (lexed, is, h);
      only = parse_only;
      none = λ t a. unparsed a.typed.program a.typed.parsed;
    }

  -- that have this tree
  module _ (program : Program) (light : IsLight lexed.tokens) (tree : IsTree lexed program) (one : (other : Program) → IsTree lexed other → other ≡ program) (parses : (other : ParseRule) (at : Spot) → HasNoTree lexed other at → ⊥) where
    same_program : (other : Program) → IsParsed source other → other ≡ program
    same_program other o = one other (record {
      spelled = subst (λ ts. Derives other ts) (same_tokens other o) o.derived;
      end = o.end ∙ o.tokens.end ∙ sym is.end;
    })

    pub has_program : HasProgram source program
    has_program = record {
      parsed = record { lexed = lexed; tokens = is; light = light; derived = tree.spelled; end = tree.end };
      only = same_program;
      lexes = spelled;
      parses = λ other at b. parses other at (no_tree other at b);
    }

-- ---- Types and scopes

abbrev refusal : TypeRule → Spot → Refusal
refusal rule spot = record { rule = rule; spot = spot }

abbrev scope_fault : ScopeRule → Spot → ScopeFault
scope_fault rule spot = record { rule = rule; spot = spot }

just : (f g : ScopeFault) → Some f ≡ Some g → f ≡ g
just f g e = ap (λ o. unwrap_or o f) e

-- no program has a typed tree and a fault
never_both : (p : Program) (t : TypedTree) (x : Refusal) → ProgramTyping p t → ProgramFault p x → ⊥
never_both p t x typing fault = let l = programs p in let e = sym ((l.0 t).1 typing) ∙ (l.1 x).1 fault in absurd (cc e)

-- of a source with a parsed tree
module _ (source : List ℕ) (program : Program) (has : HasProgram source program) where
  typing_of : (t : TypedTree) → IsTyped source t → ProgramTyping program t
  typing_of t h = subst (λ p. ProgramTyping p t) (has.only h.program h.parsed) h.typed

  fault_of : (rule : TypeRule) (at : Spot) → IsRefusedBy source (Types rule) at → ProgramFault program (refusal rule at)
  fault_of rule at b = subst (λ p. ProgramFault p (refusal rule at)) (has.only b.0 b.1) b.2

  -- that has no types
  module _ (broken : TypeRule) (spot : Spot) (untyped : HasNoTypes program (refusal broken spot)) where
    no_types : (t : TypedTree) → IsTyped source t → ⊥
    no_types t h = untyped.untyped t (typing_of t h)

    types_only : (other : SourceRule) (at : Spot) → IsRefusedBy source other at → (other ≡ Types broken) × (at ≡ spot)
    types_only (Lex other) at b = absurd (has.lexes other at b)
    types_only (Parse other) at b = absurd (has.parses other at b)
    types_only (Types other) at b =
        let e = untyped.alone (refusal other at) (fault_of other at b) in
        (ap (λ f. Types f.rule) e, ap (λ f. f.spot) e)
    types_only (Scopes other) at b = absurd (no_types b.0 b.1)

    pub types_refuse : IsRefused source (Types broken) spot
    types_refuse = record {
      broken = (program, has.parsed, untyped.first);
      only = types_only;
      none = λ t a. no_types (tree_of t) a.typed;
    }

  -- that has these types
  module _ (tree : TypedTree) (typing : HasTypes program tree) where
    same_tree : (t : TypedTree) → IsTyped source t → t ≡ tree
    same_tree t h = typing.alone t (typing_of t h)

    pub types : IsTyped source tree
    types = record { program = program; parsed = has.parsed; typed = typing.typed }

    has_types : (rule : TypeRule) (at : Spot) → IsRefusedBy source (Types rule) at → ⊥
    has_types rule at b = never_both program tree (refusal rule at) typing.typed (fault_of rule at b)

    same_fault : (rule : ScopeRule) (at : Spot) (b : IsRefusedBy source (Scopes rule) at) → first_fault tree ≡ Some (scope_fault rule at)
    same_fault rule at b = sym (ap first_fault (same_tree b.0 b.1)) ∙ b.2

    -- and breaks a rule of scopes
    module _ (fault : ScopeFault) (breaks : first_fault tree ≡ Some fault) where
      not_in_scope : (t : Typed) → Accepted source t → ⊥
      not_in_scope t a =
          let none = (scopes (tree_of t)).0 a.in_scope in
          let e = sym none ∙ ap first_fault (same_tree (tree_of t) a.typed) ∙ breaks in absurd (cc e)

      scopes_only : (other : SourceRule) (at : Spot) → IsRefusedBy source other at → (other ≡ Scopes fault.rule) × (at ≡ fault.spot)
      scopes_only (Lex other) at b = absurd (has.lexes other at b)
      scopes_only (Parse other) at b = absurd (has.parses other at b)
      scopes_only (Types other) at b = absurd (has_types other at b)
      scopes_only (Scopes other) at b =
          let e = just (scope_fault other at) fault (sym (same_fault other at b) ∙ breaks) in
          (ap (λ f. Scopes f.rule) e, ap (λ f. f.spot) e)

      pub scopes_refuse : IsRefused source (Scopes fault.rule) fault.spot
      scopes_refuse = record {
        broken = (tree, types, breaks);
        only = scopes_only;
        none = not_in_scope;
      }

    -- and keeps the rules of scopes
    module _ (kept : first_fault tree ≡ None) where
      none_refuses : (rule : SourceRule) (at : Spot) → IsRefusedBy source rule at → ⊥
      none_refuses (Lex rule) at b = has.lexes rule at b
      none_refuses (Parse rule) at b = has.parses rule at b
      none_refuses (Types rule) at b = has_types rule at b
      none_refuses (Scopes rule) at b = let e = sym kept ∙ same_fault rule at b in absurd (cc e)

  pub accepts : (typed : Typed) → HasTypes program (tree_of typed) → first_fault (tree_of typed) ≡ None → IsAccepted source program typed
  accepts typed typing kept = record {
    accepted = record { typed = types (tree_of typed) typing; in_scope = (scopes (tree_of typed)).1 kept };
    parsed = has.parsed;
    only = λ other a. same_tree (tree_of typed) typing (tree_of other) a.typed;
    only_parsed = has.only;
    unbroken = none_refuses (tree_of typed) typing kept;
  }
