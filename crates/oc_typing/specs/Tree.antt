-- A typed tree that isn't said to be well typed: what the rules of typing give, and what the rules of scopes speak of.
use Rattle.std.specs.Prelude.{ℕ, List, Bool}
use Rattle.oc_cells.specs.declared.types.StructType.{StructType}
use Rattle.oc_typed.specs.declared.typed.TypedFunction.{TypedFunction}
use Rattle.oc_typing.specs.declared.program.Typed.{Typed}
use Rattle.oc_typing.specs.Typed.{is_typed}

-- the structs and functions of a program, and the number of the function that a run starts with
pub record TypedTree : Type 0 where
  pub structs : List StructType
  pub functions : List TypedFunction
  pub entry : ℕ

-- the tree of a program that is well typed
abbrev pub tree_of : Typed → TypedTree
tree_of t = record { structs = t.structs; functions = t.functions; entry = t.entry }

-- whether a tree is well typed
abbrev pub is_well_typed : TypedTree → Bool
is_well_typed t = is_typed t.structs t.functions t.entry
