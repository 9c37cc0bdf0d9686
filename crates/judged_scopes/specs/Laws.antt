-- The rules of scopes as a relation and as a first fault are one.
use Rattle.std.specs.Prelude.{◌≡◌, None}
use Rattle.oc_typing.specs.Tree.{TypedTree}
use Rattle.scope_rules.specs.InScope.{InScope}
use Rattle.scope_rules.specs.FirstFault.{first_fault}

-- a program that keeps the rules has no first fault, and one without a first fault keeps them
abbrev pub ScopesAreJudged : Type 0
ScopesAreJudged = (t : TypedTree) → (InScope t → first_fault t ≡ None) × (first_fault t ≡ None → InScope t)
