-- What the code answers to a judgement that may declare.
use Rattle.std.specs.Prelude.{◌≡◌, List, [], ◌∷◌, Result, Ok, Err}
use Rattle.type_rules.specs.Judging.{Judged}
use Rattle.type_rules.specs.StatementRules as rules
use Rattle.type_rules.specs.StatementRules.{Walk, bind, pure}
use Rattle.type_steps.specs.declared.fault.TypeFault.{TypeFault}
use Rattle.type_steps.specs.declared.fault.TypeFault.TheVariants.{Refused, NoMemory}
use Rattle.visible_variables.specs.declared.scope.Scope.{Scope}
use Rattle.visible_variables.specs.Scopes.{scope_of, Sound, Grown}

-- a scope after a judgement is sound, and the same one as before, with the same variables or more
pub record Kept (old new : Scope) : Type 0 where
  pub sound : Sound new
  pub grown : Grown old.variables new.variables
  pub outer : new.outer ≡ old.outer

-- the answer of a judgement with the scope after it, or its fault, unless memory ran out
abbrev pub Ended : {A : Type 0} → Judged (A × rules.Scope) → Scope → Result A TypeFault → Scope → Type 0
Ended m old (Ok a) new = (m ≡ Ok (a, scope_of new)) × Kept old new
Ended m old (Err (Refused r p)) new = m ≡ Err (record { rule = r; spot = p })
Ended m old (Err NoMemory) new = Unit {0}

-- what the code answers, from one scope to another, is what is judged
pub record Ends {A : Type 0} (m : Judged (A × rules.Scope)) (old : Scope) (result : Result A TypeFault) (new : Scope) : Type 0 where
  pub ended : Ended m old result new

-- the same of a judgement that may declare
abbrev pub Does : {A : Type 0} → Walk A → Scope → Result A TypeFault → Scope → Type 0
Does walk old result new = Ends (walk (scope_of old)) old result new

-- each item of a list, judged in order
abbrev pub in_turn : {X Y : Type 0} → (X → Walk Y) → List X → Walk (List Y)
in_turn judge [] = pure []
in_turn judge (x ∷ xs) = bind (judge x) (λ y. bind (in_turn judge xs) (λ ys. pure (y ∷ ys)))
