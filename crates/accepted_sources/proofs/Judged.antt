-- A source with a parsed tree is accepted, or has just one refusal.
use Rattle.std.proofs.Common.{ℕ, ◌≡◌, ◌⊎◌, inl, inr, List, Option, Some, None, Result, Ok, Err, sym, ap, ◌∙◌, refl}
use Rattle.oc_source.specs.declared.spot.Spot.{Spot}
use Rattle.oc_source.specs.declared.parsed.Program.{Program}
use Rattle.oc_typing.specs.Tree.{TypedTree}
use Rattle.type_rules.specs.declared.judging.Refusal.{Refusal}
use Rattle.type_rules.specs.ProgramRules.{typed_program}
use Rattle.judged_programs.specs.ProgramTyping.{ProgramTyping}
use Rattle.judged_programs.proofs.Judged.{programs}
use Rattle.scope_rules.specs.declared.rules.ScopeFault.{ScopeFault}
use Rattle.scope_rules.specs.InScope.{InScope}
use Rattle.scope_rules.specs.FirstFault.{first_fault}
use Rattle.judged_scopes.proofs.Judged.{scopes}
use Rattle.obliv_types.specs.Promise.{IsTyped as HasTypes, IsRefused as HasNoTypes}
use Rattle.accepted_sources.specs.declared.rules.SourceRule.{SourceRule}
use Rattle.accepted_sources.specs.declared.rules.SourceRule.TheVariants.{Types, Scopes}
use Rattle.accepted_sources.specs.Accepted.{IsTyped}
use Rattle.accepted_sources.specs.Answers.{HasProgram, IsRefused, SourcesAreJudged}
use Rattle.accepted_sources.proofs.Refusing.{types_refuse, types, scopes_refuse}

-- the value of an answer of the rules
abbrev value_or : TypedTree → Result TypedTree Refusal → TypedTree
value_or t (Ok u) = u
value_or t (Err x) = t

-- the fault of an answer of the rules
abbrev fault_or : Refusal → Result TypedTree Refusal → Refusal
fault_or x (Ok t) = x
fault_or x (Err y) = y

module _ (p : Program) where
  typed_alone : (t : TypedTree) → typed_program p ≡ Ok t → HasTypes p t
  typed_alone t e =
      let l = programs p in
      record { typed = (l.0 t).0 e; alone = λ u h. ap (value_or u) (sym ((l.0 u).1 h) ∙ e) }

  refused_alone : (x : Refusal) → typed_program p ≡ Err x → HasNoTypes p x
  refused_alone x e =
      let l = programs p in
      record {
        first = (l.1 x).0 e;
        alone = λ y h. ap (fault_or y) (sym ((l.1 y).1 h) ∙ e);
        untyped = λ t h. let both = sym ((l.0 t).1 h) ∙ e in absurd (cc both);
      }

module _ (source : List ℕ) (program : Program) (has : HasProgram source program) where
  abbrev IsJudged : Type 0
  IsJudged = ((t : TypedTree) × IsTyped source t × InScope t) ⊎ ((rule : SourceRule) × (spot : Spot) × IsRefused source rule spot)

  by_scopes : (t : TypedTree) → HasTypes program t → (o : Option ScopeFault) → first_fault t ≡ o → IsJudged
  by_scopes t h None e = inl (t, types source program has t h, (scopes t).1 e)
  by_scopes t h (Some f) e = inr (Scopes f.rule, f.spot, scopes_refuse source program has t h f e)

  by_types : (r : Result TypedTree Refusal) → typed_program program ≡ r → IsJudged
  by_types (Ok t) e = by_scopes t (typed_alone program t e) (first_fault t) refl
  by_types (Err x) e = inr (Types x.rule, x.spot, types_refuse source program has x.rule x.spot (refused_alone program x e))

pub judged : SourcesAreJudged
judged source program has = by_types source program has (typed_program program) refl
