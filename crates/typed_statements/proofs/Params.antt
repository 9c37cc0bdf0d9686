-- Parameters become variables one by one.
use Rattle.std.proofs.Common.{ℕ, zero, suc, ◌≡◌, ◌+◌, ◌<◌, ◌≤◌, List, [], ◌∷◌, length, get_or, drop, Option, Some, None, refl, sym, ap, ◌∙◌, arith}
use Rattle.std.proofs.lemmas.List.{drop_all}
use Rattle.std.specs.Prelude.{slice_get}
use Rattle.oc_cells.specs.declared.types.CType.{CType}
use Rattle.oc_cells.specs.declared.types.SlotType.{SlotType}
use Rattle.oc_source.specs.declared.parsed.Param.{Param}
use Rattle.type_rules.specs.StatementRules.{Scope, add}
use Rattle.type_rules.specs.ProgramRules.{with_params}
use Rattle.written_types.proofs.EachItem.{at_item}

dropped_none : (ts : List SlotType) (i : ℕ) → slice_get ts i ≡ None → drop i ts ≡ []
dropped_none [] zero h = refl
dropped_none [] (suc i) h = refl
dropped_none (t ∷ ts) zero h = cc
dropped_none (t ∷ ts) (suc i) h = dropped_none ts i h

dropped_some : (ts : List SlotType) (i : ℕ) (t : SlotType) → slice_get ts i ≡ Some t → drop i ts ≡ t ∷ drop (i + 1) ts
dropped_some [] zero t h = cc
dropped_some [] (suc i) t h = cc
dropped_some (u ∷ ts) zero t h = ap (λ v. v ∷ ts) (some_same u t h)
  where
    some_same : (a b : SlotType) → ◌≡◌ {A = Option SlotType} (Some a) (Some b) → a ≡ b
    some_same a b h = cc
dropped_some (u ∷ ts) (suc i) t h = dropped_some ts i t h ∙ ap (λ n. t ∷ drop n (u ∷ ts)) (one_more i)
  where
    one_more : (i : ℕ) → suc (i + 1) ≡ suc i + 1
    one_more i = omega arith

no_slots : (ps : List Param) (s : Scope) → with_params ps [] s ≡ s
no_slots [] s = refl
no_slots (p ∷ ps) s = refl

module _ (ps : List Param) (ts : List SlotType) (i : ℕ) (now all : Scope) where
  pub none_left : slice_get ts i ≡ None → with_params (drop i ps) (drop i ts) now ≡ all → now ≡ all
  none_left h inv = sym (no_slots (drop i ps) now) ∙ sym (ap (λ us. with_params (drop i ps) us now) (dropped_none ts i h)) ∙ inv

  pub no_more : length ps ≤ i → with_params (drop i ps) (drop i ts) now ≡ all → now ≡ all
  no_more l inv = sym (ap (λ qs. with_params qs (drop i ts) now) (drop_all i ps l)) ∙ inv

pub one_taken : (ps : List Param) (ts : List SlotType) (i : ℕ) (p : Param) (t : SlotType) (now : Scope) {new all : Scope} {name : List ℕ} {ty : CType} → p ≡ get_or ps i p → i < length ps
    → slice_get ts i ≡ Some t → new ≡ add name ty t.frozen now → name ≡ p.name → ty ≡ t.ty → with_params (drop i ps) (drop i ts) now ≡ all
    → with_params (drop (i + 1) ps) (drop (i + 1) ts) new ≡ all
one_taken ps ts i p t now {new} {all} {name} {ty} e l h q m n inv =
    ap (λ s. with_params (drop (i + 1) ps) (drop (i + 1) ts) s) (q ∙ ap (λ x. add x ty t.frozen now) m ∙ ap (λ u. add p.name u t.frozen now) n)
    ∙ sym (ap (λ us. with_params (p ∷ drop (i + 1) ps) us now) (dropped_some ts i t h))
    ∙ sym (ap (λ qs. with_params qs (drop i ts) now) (at_item ps i p e l)) ∙ inv
