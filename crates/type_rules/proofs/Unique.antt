-- Unique: there is at most one first fault of moves, and none where all of them are fine.
use Rattle.std.proofs.Common.{◌≡◌, Some, None, Ok, Err, refl, sym, ap, ◌∙◌, subst, Bool, true, false, inl, inr}
use Rattle.oc_source.specs.declared.spot.Spot.{Spot}
use Rattle.oc_source.specs.declared.parsed.ExprNode.{ExprNode}
use Rattle.oc_source.specs.declared.parsed.StmtNode.{StmtNode}
use Rattle.oc_typed.specs.declared.typed.TStmt as typed
use Rattle.type_rules.specs.declared.judging.TypeRule.TheVariants.{T3}
use Rattle.type_rules.specs.declared.judging.Refusal.{Refusal}
use Rattle.type_rules.specs.declared.judging.Found.{Found}
use Rattle.type_rules.specs.Judging.{Judged, needs, public_integer}
use Rattle.oc_cells.specs.Types.{is_integer}
use Rattle.type_rules.specs.Lookup.{Lookup, value_of, convert}
use Rattle.type_rules.specs.Written.{is_frozen_place}
use Rattle.type_rules.specs.StatementRules.{Scope, at, add, returned, stmt}
use Rattle.type_rules.specs.Typing.{Typing}
use Rattle.type_rules.specs.Moves.{Step, Alone, Value, Test, Jump, Name, First, Hidden, Tested, Gives, Mark, Moves, Done, More, Inside, moves, deeper, back, Fine, Breaks, AllFine, FirstFault}
use Rattle.type_rules.proofs.Laws.{absurd, not_both, fine_back, from_err, holds, only}
use Rattle.type_rules.proofs.Statements.{fine_carried, through, faults_stmt}

-- what one judgement answers is one
same_answer : {A : Type 0} {m : Judged A} (a b : A) → m ≡ Ok a → m ≡ Ok b → a ≡ b
same_answer a b h k = fine_back a b (sym h ∙ k)

same_fault : {A : Type 0} {m : Judged A} (x y : Refusal) → m ≡ Err x → m ≡ Err y → x ≡ y
same_fault {A = A} {m = m} x y h k = ap (λ (r : Judged A). from_err x r) (sym h ∙ k)

clash : {A R : Type 0} {m : Judged A} (a : A) (x : Refusal) → m ≡ Ok a → m ≡ Err x → R
clash a x h k = absurd (not_both a x (sym k ∙ h))

same_found : (g : Lookup) (alone : Bool) (p : Spot) (n : ExprNode) (f h : Found) → Typing g alone p n f → Typing g alone p n h → f ≡ h
same_found g alone p n f h a b = same_answer f h (holds g alone p n f a) (holds g alone p n h b)

abbrev Untrue : Bool → Type 0
Untrue true = ⊥
Untrue false = Unit {0}

module _ (g : Lookup) where
  -- a step leads to one scope
  one_scope : (s q r : Scope) (v : Step) → Fine g s v q → Fine g s v r → q ≡ r
  one_scope s q r (Alone v) a b = a.2 ∙ sym b.2
  one_scope s q r (Value v) a b = a.2 ∙ sym b.2
  one_scope s q r (Test p v) a b = a.3 ∙ sym b.3
  one_scope s q r (Jump p loop) a b = a.1 ∙ sym b.1
  one_scope s q r (Name d) a b = a.3 ∙ (ap (λ ty. add d.field.name ty (is_frozen_place d.field.base d.field.stars) s) (same_answer a.0 b.0 a.1 b.1) ∙ sym b.3)
  one_scope s q r (First d v) a b = a.6 ∙ sym b.6
  one_scope s q r (Hidden p v) a b = a.3 ∙ sym b.3
  one_scope s q r (Tested p None) a b = a ∙ sym b
  one_scope s q r (Tested p (Some v)) a b = a.3 ∙ sym b.3
  one_scope s q r (Gives p None) a b = a.2 ∙ sym b.2
  one_scope s q r (Gives p (Some v)) a b = a.4 ∙ sym b.4
  one_scope s q r (Mark y) a b = a ∙ sym b

  -- a step that is fine breaks no rule
  not_fine : {R : Type 0} (s q : Scope) (v : Step) (x : Refusal) → Fine g s v q → Breaks g s v x → R
  not_fine s q (Alone v) x a b = clash a.0 x (holds (at g s) true v.spot v.node a.0 a.1) (only (at g s) true v.spot v.node x b)
  not_fine s q (Value v) x a b = clash a.0 x (holds (at g s) false v.spot v.node a.0 a.1) (only (at g s) false v.spot v.node x b)
  not_fine s q (Test p v) x a b = clash tt x (subst (λ f. public_integer p (value_of f).ty ≡ Ok tt) (same_found (at g s) false v.spot v.node a.0 b.0 a.1 b.1) a.2) b.2
  not_fine s q (Jump p loop) x a b = clash tt x a.0 b
  not_fine s q (Name d) x a (inl b) = clash a.0 x a.1 b
  not_fine s q (Name d) x a (inr b) = absurd (subst Untrue (sym a.2 ∙ b.2) tt)
  not_fine s q (First d v) x a b = clash a.2 x (subst (λ ty. convert ty (value_of b.1) ≡ Ok a.2) (same_answer a.0 b.0 a.3 b.2) (subst (λ f. convert a.0 (value_of f) ≡ Ok a.2) (same_found (at g s) false v.spot v.node a.1 b.1 a.4 b.3) a.5)) b.4
  not_fine s q (Hidden p v) x a b = clash tt x (subst (λ f. needs p T3 (is_integer (value_of f).ty) ≡ Ok tt) (same_found (at g s) false v.spot v.node a.0 b.0 a.1 b.1) a.2) b.2
  not_fine s q (Tested p None) x a b = absurd b
  not_fine s q (Tested p (Some v)) x a b = clash tt x (subst (λ f. public_integer p (value_of f).ty ≡ Ok tt) (same_found (at g s) false v.spot v.node a.0 b.0 a.1 b.1) a.2) b.2
  not_fine s q (Gives p None) x a b = clash a.0 x a.1 b
  not_fine s q (Gives p (Some v)) x a b = clash a.1 x (subst (λ f. returned g p (Some (value_of f)) ≡ Ok a.1) (same_found (at g s) false v.spot v.node a.0 b.0 a.2 b.1) a.3) b.2
  not_fine s q (Mark y) x a b = absurd b

  -- a step breaks one rule
  one_fault : (s : Scope) (v : Step) (x y : Refusal) → Breaks g s v x → Breaks g s v y → x ≡ y
  one_fault s (Alone v) x y a b = same_fault x y (only (at g s) true v.spot v.node x a) (only (at g s) true v.spot v.node y b)
  one_fault s (Value v) x y a b = same_fault x y (only (at g s) false v.spot v.node x a) (only (at g s) false v.spot v.node y b)
  one_fault s (Test p v) x y a b = same_fault x y (subst (λ f. public_integer p (value_of f).ty ≡ Err x) (same_found (at g s) false v.spot v.node a.0 b.0 a.1 b.1) a.2) b.2
  one_fault s (Jump p loop) x y a b = same_fault x y a b
  one_fault s (Name d) x y (inl a) (inl b) = same_fault x y a b
  one_fault s (Name d) x y (inl a) (inr b) = clash b.0 x b.1 a
  one_fault s (Name d) x y (inr a) (inl b) = clash a.0 y a.1 b
  one_fault s (Name d) x y (inr a) (inr b) = a.3 ∙ sym b.3
  one_fault s (First d v) x y a b = same_fault x y (subst (λ ty. convert ty (value_of b.1) ≡ Err x) (same_answer a.0 b.0 a.2 b.2) (subst (λ f. convert a.0 (value_of f) ≡ Err x) (same_found (at g s) false v.spot v.node a.1 b.1 a.3 b.3) a.4)) b.4
  one_fault s (Hidden p v) x y a b = same_fault x y (subst (λ f. needs p T3 (is_integer (value_of f).ty) ≡ Err x) (same_found (at g s) false v.spot v.node a.0 b.0 a.1 b.1) a.2) b.2
  one_fault s (Tested p None) x y a b = absurd a
  one_fault s (Tested p (Some v)) x y a b = same_fault x y (subst (λ f. public_integer p (value_of f).ty ≡ Err x) (same_found (at g s) false v.spot v.node a.0 b.0 a.1 b.1) a.2) b.2
  one_fault s (Gives p None) x y a b = same_fault x y a b
  one_fault s (Gives p (Some v)) x y a b = same_fault x y (subst (λ f. returned g p (Some (value_of f)) ≡ Err x) (same_found (at g s) false v.spot v.node a.0 b.0 a.1 b.1) a.2) b.2
  one_fault s (Mark y) x z a b = absurd a

  one_end : (s q r : Scope) (vs : Moves) → AllFine g s vs q → AllFine g s vs r → q ≡ r
  one_end s q r Done a b = a ∙ sym b
  one_end s q r (More v vs) a b = one_end b.0 q r vs (subst (λ t. AllFine g t vs q) (one_scope s a.0 b.0 v a.1 b.1) a.2) b.2
  one_end s q r (Inside us vs) a b = one_end (back s b.0) q r vs (subst (λ t. AllFine g (back s t) vs q) (one_end (deeper s) a.0 b.0 us a.1 b.1) a.2) b.2

  -- moves that are fine have no fault
  pub excluded : {R : Type 0} (s q : Scope) (vs : Moves) (x : Refusal) → AllFine g s vs q → FirstFault g s vs x → R
  excluded s q Done x a b = absurd b
  excluded s q (More v vs) x a (inl b) = not_fine s a.0 v x a.1 b
  excluded s q (More v vs) x a (inr b) = excluded b.0 q vs x (subst (λ t. AllFine g t vs q) (one_scope s a.0 b.0 v a.1 b.1) a.2) b.2
  excluded s q (Inside us vs) x a (inl b) = excluded (deeper s) a.0 us x a.1 b
  excluded s q (Inside us vs) x a (inr b) = excluded (back s b.0) q vs x (subst (λ t. AllFine g (back s t) vs q) (one_end (deeper s) a.0 b.0 us a.1 b.1) a.2) b.2

  -- moves have one first fault
  pub unique : (s : Scope) (vs : Moves) (x y : Refusal) → FirstFault g s vs x → FirstFault g s vs y → x ≡ y
  unique s Done x y a b = absurd a
  unique s (More v vs) x y (inl a) (inl b) = one_fault s v x y a b
  unique s (More v vs) x y (inl a) (inr b) = not_fine s b.0 v x b.1 a
  unique s (More v vs) x y (inr a) (inl b) = not_fine s a.0 v y a.1 b
  unique s (More v vs) x y (inr a) (inr b) = unique b.0 vs x y (subst (λ t. FirstFault g t vs x) (one_scope s a.0 b.0 v a.1 b.1) a.2) b.2
  unique s (Inside us vs) x y (inl a) (inl b) = unique (deeper s) us x y a b
  unique s (Inside us vs) x y (inl a) (inr b) = excluded (deeper s) b.0 us x b.1 a
  unique s (Inside us vs) x y (inr a) (inl b) = excluded (deeper s) a.0 us y a.1 b
  unique s (Inside us vs) x y (inr a) (inr b) = unique (back s b.0) vs x y (subst (λ t. FirstFault g (back s t) vs x) (one_end (deeper s) a.0 b.0 us a.1 b.1) a.2) b.2

  settled : (loop : Bool) (p : Spot) (n : StmtNode) (s : Scope) (x : Refusal) (r : Judged (typed.TStmt × Scope)) → stmt g loop p n s ≡ r → FirstFault g s (moves loop p n Done) x → r ≡ Err x
  settled loop p n s x (Ok z) h f = excluded s z.1 (moves loop p n Done) x (through g (λ t us. AllFine g t us z.1) (fine_carried g z.1) loop p n s z Done h refl) f
  settled loop p n s x (Err y) h f = ap (λ w. Err w) (unique s (moves loop p n Done) y x (faults_stmt g loop p n s y Done h) f)

  -- the first fault is the function's
  pub only_stmt : (loop : Bool) (p : Spot) (n : StmtNode) (s : Scope) (x : Refusal) → FirstFault g s (moves loop p n Done) x → stmt g loop p n s ≡ Err x
  only_stmt loop p n s x f = settled loop p n s x (stmt g loop p n s) refl f
