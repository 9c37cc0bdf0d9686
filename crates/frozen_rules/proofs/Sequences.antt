-- What is visited first, and then the rest: the first rule that is broken.
use Rattle.std.proofs.Common.{◌≡◌, List, [], ◌∷◌, ◌++◌, refl, sym, ap, ◌∙◌, Bool, true, false, Option, Some, None}
use Rattle.std.specs.Prelude.{if◌then◌else◌, Result, Ok, Err}
use Rattle.scope_rules.specs.declared.rules.ScopeFault.{ScopeFault}
use Rattle.scope_rules.specs.FirstFault.{Visit, first_broken}
use Rattle.frozen_rules.specs.Scopes.{answer, Judges}

-- the first of two, or else the second
abbrev pub or_else : Option ScopeFault → Option ScopeFault → Option ScopeFault
or_else None o = o
or_else (Some f) o = Some f

by_kept : (b : Bool) (f : ScopeFault) (x y z : Option ScopeFault) → x ≡ or_else y z → (if b then x else Some f) ≡ or_else (if b then y else Some f) z
by_kept true f x y z h = h
by_kept false f x y z h = refl

pub joined : (xs ys : List Visit) → first_broken (xs ++ ys) ≡ or_else (first_broken xs) (first_broken ys)
joined [] ys = refl
joined (v ∷ vs) ys = by_kept v.kept (record { rule = v.rule; spot = v.spot }) (first_broken (vs ++ ys)) (first_broken vs) (first_broken ys) (joined vs ys)

module _ {B : Type 0} where
  pub fault_of : (o : Option ScopeFault) (b : B) (f : ScopeFault) → answer o b ≡ Err f → o ≡ Some f
  fault_of None b f h = absurd cc
  fault_of (Some g) b f h = cc

  pub none_of : (o : Option ScopeFault) (b x : B) → answer o b ≡ Ok x → o ≡ None
  none_of None b x h = refl
  none_of (Some g) b x h = absurd cc

  pub value_of : (o : Option ScopeFault) (b x : B) → answer o b ≡ Ok x → x ≡ b
  value_of None b x h = cc
  value_of (Some g) b x h = absurd cc

-- the first part breaks a rule
pub failed : {A B : Type 0} {xs : List Visit} (ys : List Visit) {a : A} {b : B} {z : Result A ScopeFault} {f : ScopeFault} → Judges xs b (Err f) → z ≡ Err f → Judges (xs ++ ys) a z
failed {A} {B} {xs} ys {a} {b} {z} {f} h q = record {
  told = q ∙ sym (ap (λ o. answer o a) (joined xs ys ∙ ap (λ o. or_else o (first_broken ys)) (fault_of (first_broken xs) b f (sym h.told))));
}

module _ {A B : Type 0} {xs : List Visit} {a : A} {b : B} {z : Result A ScopeFault} where
  -- the first part breaks none
  pub passed : {ys : List Visit} {x : B} → Judges xs b (Ok x) → Judges ys a z → Judges (xs ++ ys) a z
  passed {ys} {x} h k = record {
    told = k.told ∙ sym (ap (λ o. answer o a) (joined xs ys ∙ ap (λ o. or_else o (first_broken ys)) (none_of (first_broken xs) b x (sym h.told))));
  }

  -- a rule is broken, whatever value there would be
  pub stopped : {f : ScopeFault} → Judges xs b (Err f) → z ≡ Err f → Judges xs a z
  stopped {f} h q = record { told = q ∙ sym (ap (λ o. answer o a) (fault_of (first_broken xs) b f (sym h.told))) }

  -- none is, and this is the value
  pub finished : {x : B} → Judges xs b (Ok x) → z ≡ Ok a → Judges xs a z
  finished {x} h q = record { told = q ∙ sym (ap (λ o. answer o a) (none_of (first_broken xs) b x (sym h.told))) }

-- the value that is told
pub value_is : {B : Type 0} {xs : List Visit} {b x : B} → Judges xs b (Ok x) → x ≡ b
value_is {B} {xs} {b} {x} h = value_of (first_broken xs) b x (sym h.told)

-- other visits that are the same
pub told_as : {A : Type 0} {xs ys : List Visit} {a : A} {z : Result A ScopeFault} → ys ≡ xs → Judges xs a z → Judges ys a z
told_as {A} {xs} {ys} {a} {z} e h = record { told = h.told ∙ ap (λ vs. answer (first_broken vs) a) (sym e) }

-- in a loop: what is left has the first fault of all
pub record Left (rest all : List Visit) : Type 0 where
  pub same : first_broken rest ≡ first_broken all

module _ {A B : Type 0} {rest all xs : List Visit} {b : B} where
  pub loop_failed : (ys : List Visit) {a : A} {f : ScopeFault} {z : Result A ScopeFault} → Left rest all → rest ≡ xs ++ ys → Judges xs b (Err f) → z ≡ Err f → Judges all a z
  loop_failed ys {a} {f} {z} s e h q = record {
    told = q ∙ ap (λ o. answer o a) (sym (sym s.same ∙ ap (λ vs. first_broken vs) e ∙ joined xs ys ∙ ap (λ o. or_else o (first_broken ys)) (fault_of (first_broken xs) b f (sym h.told))));
  }

pub loop_next : {B : Type 0} {rest all xs : List Visit} {b : B} (ys : List Visit) {x : B} → Left rest all → rest ≡ xs ++ ys → Judges xs b (Ok x) → Left ys all
loop_next {B} {rest} {all} {xs} {b} ys {x} s e h = record {
  same = sym (sym s.same ∙ ap (λ vs. first_broken vs) e ∙ joined xs ys ∙ ap (λ o. or_else o (first_broken ys)) (none_of (first_broken xs) b x (sym h.told)));
}

pub loop_ended : {A : Type 0} {rest all : List Visit} {a x : A} → Left rest all → rest ≡ [] → x ≡ a → Judges all a (Ok x)
loop_ended {A} {rest} {all} {a} {x} s e q = record { told = ap Ok q ∙ sym (ap (λ o. answer o a) (sym s.same ∙ ap (λ vs. first_broken vs) e)) }
