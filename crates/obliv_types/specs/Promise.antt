-- What typing promises of a program: both of its outcomes.
use Rattle.std.specs.Prelude.{◌≡◌, Result, Ok, Err}
use Rattle.oc_source.specs.declared.parsed.Program.{Program}
use Rattle.oc_typing.specs.declared.program.Typed.{Typed}
use Rattle.oc_typing.specs.Tree.{TypedTree, tree_of}
use Rattle.type_rules.specs.declared.judging.Refusal.{Refusal}
use Rattle.type_steps.specs.declared.fault.TypeFault.{TypeFault}
use Rattle.type_steps.specs.declared.fault.TypeFault.TheVariants.{Refused, NoMemory}
use Rattle.judged_programs.specs.ProgramTyping.{ProgramTyping}
use Rattle.judged_programs.specs.ProgramFault.{ProgramFault}

-- the tree meets the typing of the program, and no other does
pub record IsTyped (p : Program) (t : TypedTree) : Type 0 where
  pub typed : ProgramTyping p t
  pub alone : (u : TypedTree) → ProgramTyping p u → u ≡ t

-- this is the first fault of the program, no other is, and no tree meets the typing
pub record IsRefused (p : Program) (x : Refusal) : Type 0 where
  pub first : ProgramFault p x
  pub alone : (y : Refusal) → ProgramFault p y → y ≡ x
  pub untyped : (t : TypedTree) → ProgramTyping p t → ⊥

-- a typed tree is the one that the program has, and a refusal names its first fault; want of memory promises nothing
abbrev pub Promised : Program → Result Typed TypeFault → Type 0
Promised p (Ok t) = IsTyped p (tree_of t)
Promised p (Err (Refused r q)) = IsRefused p (record { rule = r; spot = q })
Promised p (Err NoMemory) = Unit {0}
