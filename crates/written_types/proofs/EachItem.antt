-- A loop over a list judges each of its items.
use Rattle.std.proofs.Common.{ℕ, ◌≡◌, ◌+◌, ◌<◌, ◌≤◌, List, [], ◌∷◌, ◌++◌, length, get_or, take, drop, Result, Ok, Err, refl, sym, ap, ◌∙◌, append_assoc, append-nil}
use Rattle.std.proofs.lemmas.List.{drop_more, take_more, drop_all}
use Rattle.type_rules.specs.Judging.{Judged, next}
use Rattle.type_steps.specs.declared.fault.TypeFault.{TypeFault}
use Rattle.type_steps.specs.Answering.{Answers}
use Rattle.type_steps.proofs.Steps.{stop, said_as}
use Rattle.written_types.specs.Each.{each, state_after}

pub at_item : {X : Type 0} (xs : List X) (i : ℕ) (x : X) → x ≡ get_or xs i x → i < length xs → drop i xs ≡ x ∷ drop (i + 1) xs
at_item xs i x e l = drop_more xs i x l ∙ ap (λ y. y ∷ drop (i + 1) xs) (sym e)

pub to_item : {X : Type 0} (xs : List X) (i : ℕ) (x : X) → x ≡ get_or xs i x → i < length xs → take (i + 1) xs ≡ take i xs ++ x ∷ []
to_item xs i x e l = take_more xs i x l ∙ ap (λ y. take i xs ++ y ∷ []) (sym e)

-- one judgement after another, said in one
pub next_next : {A B C : Type 0} (m : Judged A) (k : A → Judged B) (l : B → Judged C) → next (next m k) l ≡ next m (λ a. next (k a) l)
unfolding next
next_next (Ok a) k l = refl
next_next (Err f) k l = refl

pub next_same : {A B : Type 0} (m : Judged A) (k l : A → Judged B) → ((a : A) → k a ≡ l a) → next m k ≡ next m l
unfolding next
next_same (Ok a) k l h = h a
next_same (Err f) k l h = refl

next_of : {A B : Type 0} (m : Judged A) (k : A → Judged B) (a : A) → m ≡ Ok a → next m k ≡ k a
unfolding next
next_of m k a h = ap (λ m. next m k) h

none_before : {Y : Type 0} (m : Judged (List Y)) → next m (λ ys. Ok ([] ++ ys)) ≡ m
unfolding next
none_before (Ok ys) = refl
none_before (Err f) = refl

pub state_push : {S X : Type 0} (after : S → X → S) (s : S) (xs : List X) (x : X) → state_after after s (xs ++ x ∷ []) ≡ after (state_after after s xs) x
state_push after s [] x = refl
state_push after s (y ∷ ys) x = state_push after (after s y) ys x

next_twice : {Y : Type 0} (y : Y) (out : List Y) (m : Judged (List Y)) → next (next m (λ ys. Ok (y ∷ ys))) (λ ys. Ok (out ++ ys)) ≡ next m (λ ys. Ok (out ++ (y ∷ ys)))
unfolding next
next_twice y out (Ok ys) = refl
next_twice y out (Err f) = refl

module _ {S X Y : Type 0} (judge : S → X → Judged Y) (after : S → X → S) where
  -- what is still to be judged gives, after what was made, what all give
  abbrev pub Left : S → List X → ℕ → List Y → Type 0
  Left s xs i out = next (each judge after (state_after after s (take i xs)) (drop i xs)) (λ ys. Ok (out ++ ys)) ≡ each judge after s xs

  pub begins : (s : S) (xs : List X) → Left s xs 0 []
  begins s xs = none_before (each judge after s xs)

  one_more : (s : S) (x : X) (y : Y) (xs : List X) (out : List Y) → judge s x ≡ Ok y → next (each judge after (after s x) xs) (λ ys. Ok ((out ++ y ∷ []) ++ ys)) ≡ next (each judge after s (x ∷ xs)) (λ ys. Ok (out ++ ys))
  one_more s x y xs out h =
      next_same (each judge after (after s x) xs) (λ ys. Ok ((out ++ y ∷ []) ++ ys)) (λ ys. Ok (out ++ (y ∷ ys))) (λ ys. ap (λ zs. Ok zs) (append_assoc out (y ∷ []) ys))
      ∙ sym (next_twice y out (each judge after (after s x) xs))
      ∙ sym (ap (λ m. next m (λ ys. Ok (out ++ ys))) (next_of (judge s x) (λ y. next (each judge after (after s x) xs) (λ ys. Ok (y ∷ ys))) y h))

  pub goes_on : (s : S) (xs : List X) (i : ℕ) (out : List Y) (x : X) (y : Y) → Left s xs i out → x ≡ get_or xs i x → i < length xs → judge (state_after after s (take i xs)) x ≡ Ok y → Left s xs (i + 1) (out ++ y ∷ [])
  goes_on s xs i out x y inv e l h =
      let t = state_after after s (take i xs) in
      let q : state_after after s (take (i + 1) xs) ≡ after t x = ap (λ ys. state_after after s ys) (to_item xs i x e l) ∙ state_push after s (take i xs) x in
      ap (λ u. next (each judge after u (drop (i + 1) xs)) (λ ys. Ok ((out ++ y ∷ []) ++ ys))) q
      ∙ one_more t x y (drop (i + 1) xs) out h
      ∙ ap (λ ys. next (each judge after t ys) (λ ys. Ok (out ++ ys))) (sym (at_item xs i x e l)) ∙ inv

  pub fails : (s : S) (xs : List X) (i : ℕ) (out : List Y) (x : X) {f g : TypeFault} {r : Result (List Y) TypeFault} → Left s xs i out → x ≡ get_or xs i x → i < length xs → Answers {A = Y} (judge (state_after after s (take i xs)) x) (Err f) → r ≡ Err g → g ≡ f → Answers (each judge after s xs) r
  fails s xs i out x inv e l h p q =
      said_as (ap (λ ys. next (each judge after (state_after after s (take i xs)) ys) (λ ys. Ok (out ++ ys))) (sym (at_item xs i x e l)) ∙ inv)
      (stop _ _ (stop _ _ h refl refl) p q)

  pub ends : (s : S) (xs : List X) (i : ℕ) (out : List Y) → Left s xs i out → length xs ≤ i → each judge after s xs ≡ Ok out
  ends s xs i out inv l =
      sym inv ∙ ap (λ ys. next (each judge after (state_after after s (take i xs)) ys) (λ ys. Ok (out ++ ys))) (drop_all i xs l)
      ∙ next_of (Ok []) (λ ys. Ok (out ++ ys)) [] refl ∙ ap (λ ys. Ok ys) (append-nil out)
