-- One number stands for the variables that are outside.
use Rattle.std.specs.Prelude.{◌≡◌, true}
use Rattle.oc_typing.specs.Tree.{TypedTree, is_well_typed}
use Rattle.scope_rules.specs.FirstFault.{first_fault}
use Rattle.numbered_scopes.specs.Numbered.{numbered_fault}

-- a well typed program has the same first fault in scopes
abbrev pub SlotsAreNumbered : Type 0
SlotsAreNumbered = (t : TypedTree) → is_well_typed t ≡ true → numbered_fault t ≡ first_fault t
