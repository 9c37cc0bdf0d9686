-- What the code knows of a scope, and what it answers.
use Rattle.std.specs.Prelude.{◌≡◌, List, Option, Some, None, Result, Ok, Err}
use Rattle.oc_typed.specs.declared.typed.TypedFunction.{TypedFunction}
use Rattle.oc_typing.specs.declared.program.Typed.{Typed}
use Rattle.oc_typing.specs.Typed.{Context, context}
use Rattle.scope_rules.specs.declared.rules.ScopeFault.{ScopeFault}
use Rattle.scope_rules.specs.Frozen.{Facts}
use Rattle.scope_rules.specs.FirstFault.{Visit, first_broken}
use Rattle.numbered_scopes.specs.Numbered.{up_to}
use Rattle.frozen_rules.specs.declared.scopes.Scope.{Scope}

-- the facts of a scope, outside of which are the slots up to the last
abbrev pub facts_of : Scope → Facts
facts_of w = record { hidden = w.hidden; outside = λ n. up_to w.last_outside n; parted = w.parted; loop = w.looped }

-- what the nodes of a function stand in
abbrev pub around : Typed → TypedFunction → Context
around typed f = context typed.structs typed.functions f

-- the answer: the rule that is broken, or else this value
abbrev pub answer : {A : Type 0} → Option ScopeFault → A → Result A ScopeFault
answer None a = Ok a
answer (Some broken) a = Err broken

-- what is answered at some visits is the first rule that is broken there, or else this value
pub record Judges {A : Type 0} (vs : List Visit) (a : A) (result : Result A ScopeFault) : Type 0 where
  pub told : result ≡ answer (first_broken vs) a
