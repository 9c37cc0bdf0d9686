-- A whole program: what the check of its functions answers, and when its rules are kept.
use Rattle.std.proofs.Common.{◌≡◌, ◌∙◌, sym, ap, subst, refl, true, false, Option, Some, None, Ok, Err}
use Rattle.std.specs.Prelude.{◌↔◌, Result, IsOk, IfOk, IfErr, is_none}
use Rattle.std.proofs.lemmas.Bool.{false≢true}
use Rattle.oc_typing.specs.Tree.{TypedTree, is_well_typed}
use Rattle.scope_rules.specs.declared.rules.ScopeFault.{ScopeFault}
use Rattle.scope_rules.specs.InScope.{InScope}
use Rattle.scope_rules.specs.FirstFault.{first_fault}
use Rattle.numbered_scopes.specs.Numbered.{numbered_fault}
use Rattle.judged_scopes.proofs.Judged.{scopes}
use Rattle.numbered_scopes.proofs.Numbered.{numbered}
use Rattle.frozen_rules.specs.Scopes.{answer}
use Rattle.frozen_rules.proofs.Sequences.{fault_of, none_of}

module _ (t : TypedTree) (h : is_well_typed t ≡ true) where
  pub no_fault : (r : Result (Unit {0}) ScopeFault) (u : Unit {0}) → r ≡ answer (numbered_fault t) tt → r ≡ Ok u → first_fault t ≡ None
  no_fault r u e p = sym (numbered t h) ∙ none_of (numbered_fault t) tt u (sym e ∙ p)

  pub a_fault : (r : Result (Unit {0}) ScopeFault) (f : ScopeFault) → r ≡ answer (numbered_fault t) tt → r ≡ Err f → first_fault t ≡ Some f
  a_fault r f e p = sym (numbered t h) ∙ fault_of (numbered_fault t) tt f (sym e ∙ p)

pub none_is : (o : Option ScopeFault) → o ≡ None → is_none o ≡ true
none_is o e = ap (λ p. is_none p) e

pub is_left : (o : Option ScopeFault) → is_none o ≡ true → o ≡ None
is_left None e = refl
is_left (Some f) e = absurd (false≢true e)

pub in_scope_of : (t : TypedTree) → is_none (first_fault t) ≡ true → InScope t
in_scope_of t e = (scopes t).1 (is_left (first_fault t) e)

pub in_scope_by : (t : TypedTree) → first_fault t ≡ None → InScope t
in_scope_by t n = (scopes t).1 n

module _ {C : Type 0} (t : TypedTree) (r : Result C ScopeFault) where
  pub kept_err : (f : ScopeFault) → r ≡ Err f → first_fault t ≡ Some f → IsOk r ↔ InScope t
  kept_err f e n = (λ k. absurd (false≢true (subst (λ z. IsOk z) e k)), λ s. let m = (scopes t).0 s in absurd (cc m))

  pub first_err : (f : ScopeFault) → r ≡ Err f → first_fault t ≡ Some f → IfErr r (λ g. first_fault t ≡ Some g)
  first_err f e n = subst (λ z. IfErr z (λ g. first_fault t ≡ Some g)) (sym e) n

  pub no_ok : (f : ScopeFault) (P : C → Type 0) → r ≡ Err f → IfOk r P
  no_ok f P e = subst (λ z. IfOk z P) (sym e) tt
