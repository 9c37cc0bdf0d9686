-- A program whose shapes are right never stops for a value of another form.
use Rattle.std.specs.Prelude.{ℕ, ◌≡◌, ℤ, List, [], Some, slice_get}
use Rattle.oc_cells.specs.declared.types.CType.{CType}
use Rattle.oc_cells.specs.declared.types.StructType.{StructType}
use Rattle.oc_cells.specs.Layout.{struct_leaves}
use Rattle.oc_typed.specs.declared.typed.TypedFunction.{TypedFunction}
use Rattle.oc_walk.specs.declared.run.ClearSetup.{ClearSetup}
use Rattle.oc_walk.specs.Walking.{Res, Go, Stop, Ended, Needs, Odd, Known}
use Rattle.oc_meanings.specs.Clear.{clear_walk}
use Rattle.oc_meanings.specs.Events.{events_walk}
use Rattle.typed_runs.specs.Shapes.{Heading}
use Rattle.typed_runs.specs.Statements.{ProgramOk}

-- no value of another form than a node wants was met
abbrev pub NotOdd : {S A : Type 0} → Res S A → Type 0
NotOdd (Stop (Odd p) s) = ⊥
NotOdd (Stop (Ended o) s) = Unit {0}
NotOdd (Stop (Needs k kind) s) = Unit {0}
NotOdd (Go a s) = Unit {0}

-- a program whose shapes are right meets none: in the clear, and by events whatever is known of revealed values
abbrev pub NeverOdd : Type 0
NeverOdd =
    (structs : List StructType) (hs : List Heading) (fs : List TypedFunction) (entry : ℕ) (result : CType)
    → ProgramOk (struct_leaves structs) hs fs
    → slice_get hs entry ≡ Some (record { params = []; result = result })
    → ((s : ClearSetup) → NotOdd (clear_walk structs fs entry s))
    × ((known : Known) (dealt : ℕ) (rev : List ℤ) (budget : ℕ) → NotOdd (events_walk structs fs entry known dealt rev budget))
