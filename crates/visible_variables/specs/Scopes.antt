-- Scopes as the rules see them, and what is kept of them.
use Rattle.std.specs.Prelude.{◌≡◌, ◌≤◌, List, [], ◌∷◌, ◌++◌, length}
use Rattle.type_rules.specs.StatementRules as rules
use Rattle.visible_variables.specs.declared.scope.Variable.{Variable}
use Rattle.visible_variables.specs.declared.scope.Scope.{Scope}
use Rattle.visible_variables.specs.Seen.{all_seen, last, Latest}

-- a scope as the rules see it
abbrev pub scope_of : Scope → rules.Scope
scope_of s = record { seen = all_seen s.variables; slots = s.slots; outer = s.outer }

-- a scope in which another one begins
abbrev pub entered : rules.Scope → rules.Scope
entered s = record s { outer = length s.seen }

-- each variable says which one of its name was the last before it
abbrev pub Hidden : List Variable → List Variable → Type 0
Hidden before [] = Unit {0}
Hidden before (v ∷ vs) = (v.hides ≡ last before v.name.now) × Hidden (before ++ v ∷ []) vs

-- what is kept of a scope
pub record Sound (s : Scope) : Type 0 where
  pub latest : Latest s.latest s.variables
  pub hidden : Hidden [] s.variables
  pub within : s.outer ≤ length s.variables

-- variables were only added
abbrev pub Grown : List Variable → List Variable → Type 0
Grown before now = (more : List Variable) × (now ≡ before ++ more)
