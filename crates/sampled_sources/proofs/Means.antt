-- What a source that the rules accept means.
use Rattle.std.proofs.Common.{◌≡◌, ℤ, List, Ok, Err, true}
use Rattle.oc_walk.specs.declared.run.ShownItem.{ShownItem}
use Rattle.oc_walk.specs.declared.run.ClearSetup.{ClearSetup}
use Rattle.oc_walk.specs.declared.run.Value.{Value}
use Rattle.oc_walk.specs.declared.run.Outcome.{Outcome}
use Rattle.oc_walk.specs.declared.run.Outcome.TheVariants.{Done}
use Rattle.oc_walk.specs.Walking.{State, Res, Go, Stop, Ended, Needs, Odd}
use Rattle.oc_meanings.specs.Clear.{Clear, known_of}
use Rattle.oc_meanings.specs.Events.{Operand, Entry, events_walk}
use Rattle.oc_typing.specs.Tree.{TypedTree}
use Rattle.oc_typing.specs.Typed.{is_typed}
use Rattle.type_rules.specs.Judging.{Judged}

-- a source that the rules accept shows these items in the clear and ends so
abbrev pub Means : Judged TypedTree → ClearSetup → List ShownItem → Outcome → Type 0
Means (Ok t) setup items outcome = Clear t.structs t.functions t.entry setup items outcome
Means (Err f) setup items outcome = ⊥

-- how a walk by events ends: with these entries and this outcome
abbrev pub Ends : Res (State Operand (List Entry)) (Value Operand) → List Entry → Outcome → Type 0
Ends (Go v s) es outcome = (es ≡ s.mem.own) × (outcome ≡ Done)
Ends (Stop (Ended o) s) es outcome = (es ≡ s.mem.own) × (outcome ≡ o)
Ends (Stop (Needs k kind) s) es outcome = ⊥
Ends (Stop (Odd p) s) es outcome = ⊥

-- it makes these entries where these values are revealed
abbrev pub Makes : Judged TypedTree → ClearSetup → List ℤ → List Entry → Outcome → Type 0
Makes (Ok t) setup rev es outcome =
    Ends (events_walk t.structs t.functions t.entry (known_of setup) setup.dealt rev setup.budget) es outcome
Makes (Err f) setup rev es outcome = ⊥

-- the typed tree that the rules give it is well typed
abbrev pub Passes : Judged TypedTree → Type 0
Passes (Ok t) = is_typed t.structs t.functions t.entry ≡ true
Passes (Err f) = ⊥
