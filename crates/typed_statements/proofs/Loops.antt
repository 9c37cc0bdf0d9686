-- A loop over a list judges each of its items, and the scope goes along.
use Rattle.std.proofs.Common.{ℕ, ◌≡◌, ◌+◌, ◌<◌, ◌≤◌, List, [], ◌∷◌, ◌++◌, length, get_or, drop, Result, Ok, Err, refl, sym, ap, ◌∙◌, append_assoc, append-nil}
use Rattle.std.proofs.lemmas.List.{drop_all}
use Rattle.oc_source.specs.declared.parsed.Declared.{Declared}
use Rattle.type_rules.specs.Judging.{Judged, next}
use Rattle.type_rules.specs.Lookup.{Lookup}
use Rattle.type_rules.specs.StatementRules as rules
use Rattle.type_rules.specs.StatementRules.{Walk, bind, pure, declare, declare_all}
use Rattle.type_steps.specs.declared.fault.TypeFault.{TypeFault}
use Rattle.written_types.proofs.EachItem.{at_item, next_next, next_same}
use Rattle.visible_variables.specs.declared.scope.Scope.{Scope}
use Rattle.visible_variables.specs.Scopes.{scope_of, Sound}
use Rattle.typed_statements.specs.Walking.{Kept, Ends, Does, in_turn}
use Rattle.typed_statements.proofs.Walks.{same_scope, kept_twice, ends_as, halts, from_kept}

next_of : {A B : Type 0} (m : Judged A) (k : A → Judged B) (a : A) → m ≡ Ok a → next m k ≡ k a
unfolding next
next_of m k a h = ap (λ m. next m k) h

none_before : {Y : Type 0} (m : Judged (List Y × rules.Scope)) → next m (λ r. Ok ([] ++ r.0, r.1)) ≡ m
unfolding next
none_before (Ok r) = refl
none_before (Err f) = refl

-- declarations are judged in order
pub declares_at : (g : Lookup) (ds : List Declared) (z : rules.Scope) → in_turn (declare g) ds z ≡ declare_all g ds z
declares_at g [] z = refl
declares_at g (d ∷ ds) z =
    next_same (declare g d z) (λ r. bind (in_turn (declare g) ds) (λ ys. pure (r.0 ∷ ys)) r.1) (λ r. bind (declare_all g ds) (λ ys. pure (r.0 ∷ ys)) r.1)
    (λ r. ap (λ j. next j (λ q. Ok (r.0 ∷ q.0, q.1))) (declares_at g ds r.1))

module _ {X Y : Type 0} (judge : X → Walk Y) where
  -- what is still to be judged, in the scope that was reached, gives after what was made what all give
  pub record Left (start now : Scope) (xs : List X) (i : ℕ) (out : List Y) : Type 0 where
    pub rest : next (in_turn judge (drop i xs) (scope_of now)) (λ r. Ok (out ++ r.0, r.1)) ≡ in_turn judge xs (scope_of start)
    pub kept : Kept start now

  pub begins : (start : Scope) (xs : List X) → Sound start → Left start start xs 0 []
  begins start xs h = record { rest = none_before (in_turn judge xs (scope_of start)); kept = same_scope start h }

  -- an item more in front, and items after others
  abbrev front : Y → List Y × rules.Scope → Judged (List Y × rules.Scope)
  front y r = Ok (y ∷ r.0, r.1)

  abbrev onto : List Y → List Y × rules.Scope → Judged (List Y × rules.Scope)
  onto out r = Ok (out ++ r.0, r.1)

  abbrev rest_of : List X → Y × rules.Scope → Judged (List Y × rules.Scope)
  rest_of xs r = next (in_turn judge xs r.1) (front r.0)

  next_twice : (y : Y) (out : List Y) (m : Judged (List Y × rules.Scope)) → next (next m (front y)) (onto out) ≡ next m (λ r. onto out (y ∷ r.0, r.1))
  next_twice y out m =
      next_next m (front y) (onto out) ∙ next_same m (λ r. next (front y r) (onto out)) (λ r. onto out (y ∷ r.0, r.1)) (λ r. next_of (front y r) (onto out) (y ∷ r.0, r.1) refl)

  one_more : (x : X) (y : Y) (xs : List X) (out : List Y) (s t : rules.Scope) → judge x s ≡ Ok (y, t)
      → next (in_turn judge xs t) (onto (out ++ y ∷ [])) ≡ next (in_turn judge (x ∷ xs) s) (onto out)
  one_more x y xs out s t h =
      next_same (in_turn judge xs t) (onto (out ++ y ∷ [])) (λ r. onto out (y ∷ r.0, r.1)) (λ r. ap (λ zs. onto [] (zs, r.1)) (append_assoc out (y ∷ []) r.0))
      ∙ sym (next_twice y out (in_turn judge xs t))
      ∙ sym (ap (λ m. next m (onto out)) (next_of (judge x s) (rest_of xs) (y, t) h))

  pub goes_on : {start now new : Scope} (xs : List X) (i : ℕ) (out : List Y) (x : X) {y : Y} {made : List Y} → Left start now xs i out → x ≡ get_or xs i x → i < length xs
      → Does (judge x) now (Ok y) new → made ≡ out ++ y ∷ [] → Left start new xs (i + 1) made
  goes_on {start} {now} {new} xs i out x {y} l e lt d q =
      record {
        rest = ap (λ o. next (in_turn judge (drop (i + 1) xs) (scope_of new)) (onto o)) q ∙ one_more x y (drop (i + 1) xs) out (scope_of now) (scope_of new) d.ended.0
            ∙ ap (λ ys. next (in_turn judge ys (scope_of now)) (λ r. Ok (out ++ r.0, r.1))) (sym (at_item xs i x e lt)) ∙ l.rest;
        kept = kept_twice start now new l.kept d.ended.1;
      }

  pub fails : {start now mid new : Scope} (xs : List X) (i : ℕ) (out : List Y) (x : X) {f g : TypeFault} {r : Result (List Y) TypeFault} → Left start now xs i out → x ≡ get_or xs i x → i < length xs
      → Ends {A = Y} (judge x (scope_of now)) now (Err f) mid → r ≡ Err g → g ≡ f → Ends (in_turn judge xs (scope_of start)) start r new
  fails {start} {now} {mid} {new} xs i out x l e lt d p q =
      ends_as (ap (λ ys. next (in_turn judge ys (scope_of now)) (λ r. Ok (out ++ r.0, r.1))) (sym (at_item xs i x e lt)) ∙ l.rest)
      (from_kept _ start now l.kept (halts _ _ {mid = new} (halts _ _ {mid = mid} d refl refl) p q))

  pub ends : {start now : Scope} (xs : List X) (i : ℕ) (out : List Y) → Left start now xs i out → length xs ≤ i → Ends (in_turn judge xs (scope_of start)) start (Ok out) now
  ends {start} {now} xs i out l le =
      record {
        ended = (
          sym l.rest ∙ ap (λ ys. next (in_turn judge ys (scope_of now)) (λ r. Ok (out ++ r.0, r.1))) (drop_all i xs le)
              ∙ next_of (Ok ([], scope_of now)) (λ r. Ok (out ++ r.0, r.1)) ([], scope_of now) refl ∙ ap (λ ys. Ok (ys, scope_of now)) (append-nil out),
          l.kept,
        );
      }
