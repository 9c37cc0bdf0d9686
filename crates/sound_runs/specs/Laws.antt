-- A well typed tree has the shapes that its walks want, and so meets no value of another form.
use Rattle.std.specs.Prelude.{ℕ, ◌≡◌, ℤ, List, [], map, true, Some, slice_get}
use Rattle.oc_cells.specs.declared.types.CType.{Nothing}
use Rattle.oc_cells.specs.declared.types.StructType.{StructType}
use Rattle.oc_cells.specs.Layout.{struct_leaves}
use Rattle.oc_typed.specs.declared.typed.TypedFunction.{TypedFunction}
use Rattle.oc_walk.specs.declared.run.ClearSetup.{ClearSetup}
use Rattle.oc_walk.specs.Walking.{Known}
use Rattle.oc_meanings.specs.Clear.{clear_walk}
use Rattle.oc_meanings.specs.Events.{events_walk}
use Rattle.oc_typing.specs.Typed.{param_types, is_typed}
use Rattle.typed_runs.specs.Shapes.{Heading}
use Rattle.typed_runs.specs.Statements.{ProgramOk}
use Rattle.typed_runs.specs.Laws.{NotOdd}

-- a function's heading: the types of its parameters, and its result
abbrev pub heading : TypedFunction → Heading
heading f = record { params = param_types f; result = f.result }

-- the heading of each function
abbrev pub headings : List TypedFunction → List Heading
headings fs = map heading fs

-- a program's shapes, and those of the function that it starts with
pub record Right (structs : List StructType) (fs : List TypedFunction) (entry : ℕ) : Type 0 where
  pub program : ProgramOk (struct_leaves structs) (headings fs) fs
  pub entered : slice_get (headings fs) entry ≡ Some (record { params = []; result = Nothing })

-- a tree that passes the test of types has the shapes that its walks want
abbrev pub TypedTreesAreRight : Type 0
TypedTreesAreRight =
    (structs : List StructType) (fs : List TypedFunction) (entry : ℕ) → is_typed structs fs entry ≡ true → Right structs fs entry

-- so it meets no value of another form: in the clear, and by events whatever is known of revealed values
abbrev pub TypedNeverOdd : Type 0
TypedNeverOdd =
    (structs : List StructType) (fs : List TypedFunction) (entry : ℕ) → is_typed structs fs entry ≡ true
    → ((s : ClearSetup) → NotOdd (clear_walk structs fs entry s))
    × ((known : Known) (dealt : ℕ) (rev : List ℤ) (budget : ℕ) → NotOdd (events_walk structs fs entry known dealt rev budget))
