-- A loop over a list takes its items in one after another.
use Rattle.std.proofs.Common.{ℕ, ◌≡◌, ◌+◌, ◌<◌, ◌≤◌, List, length, get_or, drop, Result, Ok, Err, refl, sym, ap, ◌∙◌}
use Rattle.std.proofs.lemmas.List.{drop_all}
use Rattle.type_rules.specs.Judging.{Judged, next}
use Rattle.type_steps.specs.declared.fault.TypeFault.{TypeFault}
use Rattle.type_steps.specs.Answering.{Answers}
use Rattle.type_steps.proofs.Steps.{stop, said_as}
use Rattle.written_types.proofs.EachItem.{at_item}
use Rattle.typed_headings.specs.InTurn.{in_turn}

pub next_of : {A B : Type 0} (m : Judged A) (k : A → Judged B) (a : A) → m ≡ Ok a → next m k ≡ k a
unfolding next
next_of m k a h = ap (λ m. next m k) h

module _ {S X : Type 0} (step : S → X → Judged S) (all : Judged S) (xs : List X) where
  -- what is still to be taken in gives what all give
  abbrev pub Left : ℕ → S → Type 0
  Left i s = in_turn step s (drop i xs) ≡ all

  pub goes_on : (i : ℕ) (s t : S) (x : X) → Left i s → x ≡ get_or xs i x → i < length xs → step s x ≡ Ok t → Left (i + 1) t
  goes_on i s t x inv e l h =
      sym (ap (λ ys. in_turn step s ys) (at_item xs i x e l) ∙ next_of (step s x) (λ t. in_turn step t (drop (i + 1) xs)) t h) ∙ inv

  pub fails : (i : ℕ) (s : S) (x : X) {f g : TypeFault} {r : Result S TypeFault} → Left i s → x ≡ get_or xs i x → i < length xs → Answers {A = S} (step s x) (Err f) → r ≡ Err g → g ≡ f → Answers all r
  fails i s x inv e l h p q = said_as (ap (λ ys. in_turn step s ys) (sym (at_item xs i x e l)) ∙ inv) (stop (step s x) (λ t. in_turn step t (drop (i + 1) xs)) h p q)

  pub ends : (i : ℕ) (s : S) → Left i s → length xs ≤ i → all ≡ Ok s
  ends i s inv l = sym inv ∙ ap (λ ys. in_turn step s ys) (drop_all i xs l)

-- one judgement after another that answers: the first answered, and then the second
pub parted : {A B : Type 0} (m : Judged A) (k : A → Judged B) (b : B) → next m k ≡ Ok b → (a : A) × (m ≡ Ok a) × (k a ≡ Ok b)
unfolding next
parted (Ok a) k b h = (a, refl, h)
parted (Err f) k b h = cc
