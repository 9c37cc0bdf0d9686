-- How judgements that may declare follow one another.
use Rattle.std.proofs.Common.{ℕ, ◌≡◌, List, [], ◌++◌, length, take, Result, Ok, Err, refl, sym, ap, ◌∙◌, subst, append_assoc, append-nil}
use Rattle.std.proofs.lemmas.List.{take_at}
use Rattle.oc_cells.specs.declared.types.SlotType.{SlotType}
use Rattle.type_rules.specs.Judging.{Judged, next}
use Rattle.type_rules.specs.StatementRules as rules
use Rattle.type_rules.specs.StatementRules.{Walk, bind, ask, scoped}
use Rattle.type_steps.specs.declared.fault.TypeFault.{TypeFault}
use Rattle.type_steps.specs.declared.fault.TypeFault.TheVariants.{Refused, NoMemory}
use Rattle.type_steps.specs.Answering.{Said, Answers}
use Rattle.visible_variables.specs.declared.scope.Variable.{Variable}
use Rattle.visible_variables.specs.declared.scope.Scope.{Scope}
use Rattle.visible_variables.specs.Seen.{all_seen}
use Rattle.visible_variables.specs.Scopes.{scope_of, Sound, Grown, entered}
use Rattle.typed_statements.specs.Walking.{Kept, Ended, Ends}

-- a scope that stays as it is
pub same_scope : (s : Scope) → Sound s → Kept s s
same_scope s h = record { sound = h; grown = ([], sym (append-nil s.variables)); outer = refl }

pub kept_twice : (a b c : Scope) → Kept a b → Kept b c → Kept a c
kept_twice a b c p q =
    record {
      sound = q.sound;
      grown = (p.grown.0 ++ q.grown.0, q.grown.1 ∙ ap (λ vs. vs ++ q.grown.0) p.grown.1 ∙ append_assoc a.variables p.grown.0 q.grown.0);
      outer = q.outer ∙ p.outer;
    }

next_ok : {A B : Type 0} (m : Judged A) (k : A → Judged B) (a : A) → m ≡ Ok a → next m k ≡ k a
unfolding next
next_ok m k a h = ap (λ m. next m k) h

next_err : {A B : Type 0} (m : Judged A) (k : A → Judged B) (f : _) → m ≡ Err f → next m k ≡ Err f
unfolding next
next_err m k f h = ap (λ m. next m k) h

ended_as : {A : Type 0} (m n : Judged (A × rules.Scope)) (old new : Scope) (r : Result A TypeFault) → n ≡ m → Ended n old r new → Ended m old r new
ended_as m n old new r e x = subst (λ q. Ended q old r new) e x

-- the same in other words
pub ends_as : {A : Type 0} {m n : Judged (A × rules.Scope)} {old new : Scope} {r : Result A TypeFault} → n ≡ m → Ends n old r new → Ends m old r new
ends_as {m} {n} {old} {new} {r} e x = record { ended = ended_as m n old new r e x.ended }

-- an answer, and nothing declared
pub still : {A : Type 0} (a : A) (s : Scope) → Sound s → Ends (Ok (a, scope_of s)) s (Ok a) s
still a s h = record { ended = (refl, same_scope s h) }

moved : {A : Type 0} (m : Judged (A × rules.Scope)) (old mid new : Scope) (r : Result A TypeFault) → Kept old mid → Ended m mid r new → Ended m old r new
moved m old mid new (Ok a) k x = (x.0, kept_twice old mid new k x.1)
moved m old mid new (Err (Refused r p)) k x = x
moved m old mid new (Err NoMemory) k x = tt

-- the same from a scope that was kept
pub from_kept : {A : Type 0} (m : Judged (A × rules.Scope)) (old mid : Scope) {new : Scope} {r : Result A TypeFault} → Kept old mid → Ends m mid r new → Ends m old r new
from_kept m old mid {new} {r} k x = record { ended = moved m old mid new r k x.ended }

-- a judgement that declares nothing, and then the rest
pub told : {A B : Type 0} (m : Judged A) (k : A → Judged (B × rules.Scope)) {old new : Scope} {a : A} {r : Result B TypeFault} → Answers m (Ok a) → Ends (k a) old r new → Ends (next m k) old r new
told m k {a = a} x y = ends_as (sym (next_ok m k a x.said)) y

stopped : {A B : Type 0} (m : Judged A) (k : A → Judged (B × rules.Scope)) (old new : Scope) (f : TypeFault) → Said {A = A} m (Err f) → Ended {A = B} (next m k) old (Err f) new
stopped m k old new (Refused r p) h = next_err m k _ h
stopped m k old new NoMemory h = tt

as_fault : {B : Type 0} {m : Judged (B × rules.Scope)} {old new : Scope} {f g : TypeFault} {r : Result B TypeFault} → Ended {A = B} m old (Err f) new → r ≡ Err g → g ≡ f → Ends m old r new
as_fault {B = B} {m} {old} {new} x y z = subst (λ q. Ends m old q new) (sym (y ∙ ap (λ h. Err h) z)) (record { ended = x })

-- one that breaks a rule
pub refused : {A B : Type 0} (m : Judged A) (k : A → Judged (B × rules.Scope)) {old new : Scope} {f g : TypeFault} {r : Result B TypeFault} → Answers {A = A} m (Err f) → r ≡ Err g → g ≡ f → Ends (next m k) old r new
refused m k {old} {new} {f} x y z = as_fault (stopped m k old new f x.said) y z

-- no memory
pub no_memory : {A : Type 0} (m : Judged (A × rules.Scope)) {old new : Scope} {g : TypeFault} {r : Result A TypeFault} → r ≡ Err g → g ≡ NoMemory → Ends m old r new
no_memory {A = A} m {old} {new} y z = as_fault {f = NoMemory} tt y z

-- a first step that may declare, then the rest
pub walks : {A B : Type 0} (m : Judged (A × rules.Scope)) (k : A × rules.Scope → Judged (B × rules.Scope)) {old mid new : Scope} {a : A} {r : Result B TypeFault} → Ends m old (Ok a) mid → Ends (k (a, scope_of mid)) mid r new → Ends (next m k) old r new
walks m k {old} {mid} {new} {a} {r} x y =
    ends_as (sym (next_ok m k (a, scope_of mid) x.ended.0)) (from_kept (k (a, scope_of mid)) old mid x.ended.1 y)

halted : {A B : Type 0} (m : Judged (A × rules.Scope)) (k : A × rules.Scope → Judged (B × rules.Scope)) (old mid new : Scope) (f : TypeFault) → Ended {A = A} m old (Err f) mid → Ended {A = B} (next m k) old (Err f) new
halted m k old mid new (Refused r p) h = next_err m k _ h
halted m k old mid new NoMemory h = tt

-- a first step that breaks a rule
pub halts : {A B : Type 0} (m : Judged (A × rules.Scope)) (k : A × rules.Scope → Judged (B × rules.Scope)) {old mid new : Scope} {f g : TypeFault} {r : Result B TypeFault} → Ends {A = A} m old (Err f) mid → r ≡ Err g → g ≡ f → Ends (next m k) old r new
halts m k {old} {mid} {new} {f} x y z = as_fault (halted m k old mid new f x.ended) y z

-- the rest from a scope that a step made, as the rules make it
pub from_made : {A : Type 0} (k : Walk A) {old mid new : Scope} {z : rules.Scope} {r : Result A TypeFault} → scope_of mid ≡ z → Kept old mid → Ends (k (scope_of mid)) mid r new → Ends (k z) old r new
from_made k {old} {mid} e h x = ends_as (ap k e) (from_kept (k (scope_of mid)) old mid h x)

-- a judgement that declares nothing, seen as one that may
pub asked : {A : Type 0} (m : Judged A) (k : A → Judged (A × rules.Scope)) (s : Scope) {r : Result A TypeFault} → ((a : A) → k a ≡ Ok (a, scope_of s)) → Sound s → Answers m r → Ends (next m k) s r s
asked m k s {r} e h x = record { ended = go r x.said }
  where
    go : (r : Result _ TypeFault) → Said m r → Ended (next m k) s r s
    go (Ok a) x = (next_ok m k a x ∙ e a, same_scope s h)
    go (Err (Refused r p)) x = next_err m k _ x
    go (Err NoMemory) x = tt

-- a scope of these parts
abbrev made : List Variable → List SlotType → ℕ → rules.Scope
made vs slots outer = record { seen = all_seen vs; slots = slots; outer = outer }

restored : (before vs now : List Variable) (n : ℕ) → Grown before vs → n ≡ length before → now ≡ take n vs → now ≡ before
restored before vs now n g e q = q ∙ ap (λ us. take n us) g.1 ∙ take_at before g.0 n (sym e)

-- a scope is left: the variables from around it are back, and the slots stay
module _ {A : Type 0} (m : Walk A) (old inner : Scope) (begins : scope_of inner ≡ entered (scope_of old)) where
  pub leaves : {mid new : Scope} {a : A} → (inner.variables ≡ old.variables) × (inner.outer ≡ length old.variables) → Ends (m (scope_of inner)) inner (Ok a) mid → Sound new
      → (new.variables ≡ take mid.outer mid.variables) × (new.slots ≡ mid.slots) × (new.outer ≡ old.outer) → Ends (scoped m (scope_of old)) old (Ok a) new
  leaves {mid} {new} {a} same x h left =
      let k = x.ended.1 in
      let back : new.variables ≡ old.variables = restored old.variables mid.variables new.variables mid.outer (subst (λ vs. Grown vs mid.variables) same.0 k.grown) (k.outer ∙ same.1) left.0 in
      record {
        ended = (
          next_ok (m (entered (scope_of old))) _ (a, scope_of mid) (ap m (sym begins) ∙ x.ended.0)
              ∙ ap (λ n. Ok (a, made old.variables mid.slots n)) (sym left.2) ∙ ap (λ ss. Ok (a, made old.variables ss new.outer)) (sym left.1) ∙ ap (λ vs. Ok (a, made vs new.slots new.outer)) (sym back),
          record { sound = h; grown = ([], back ∙ sym (append-nil old.variables)); outer = left.2 },
        );
      }

  ended_within : (mid new : Scope) (f : TypeFault) → Ended {A = A} (m (scope_of inner)) inner (Err f) mid → Ended {A = A} (scoped m (scope_of old)) old (Err f) new
  ended_within mid new (Refused r p) x = next_err (m (entered (scope_of old))) _ _ (ap m (sym begins) ∙ x)
  ended_within mid new NoMemory x = tt

  -- a rule is broken within it
  pub breaks_within : {mid new : Scope} {f g : TypeFault} {r : Result A TypeFault} → Ends {A = A} (m (scope_of inner)) inner (Err f) mid → r ≡ Err g → g ≡ f → Ends (scoped m (scope_of old)) old r new
  breaks_within {mid} {new} {f} x y z = as_fault (ended_within mid new f x.ended) y z
