-- What the code answers to a judgement.
use Rattle.std.specs.Prelude.{◌≡◌, Result, Ok, Err}
use Rattle.type_steps.specs.declared.fault.TypeFault.{TypeFault}
use Rattle.type_steps.specs.declared.fault.TypeFault.TheVariants.{Refused, NoMemory}
use Rattle.type_rules.specs.Judging.{Judged}

-- the answer of a judgement or its fault, unless memory ran out
abbrev pub Said : {A : Type 0} → Judged A → Result A TypeFault → Type 0
Said m (Ok a) = m ≡ Ok a
Said m (Err (Refused r p)) = m ≡ Err (record { rule = r; spot = p })
Said m (Err NoMemory) = Unit {0}

-- what the code answers is what is judged
pub record Answers {A : Type 0} (m : Judged A) (result : Result A TypeFault) : Type 0 where
  pub said : Said m result
