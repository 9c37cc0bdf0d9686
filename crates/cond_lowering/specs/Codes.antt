-- What holds between a program and code.
use Rattle.std.specs.Prelude.{ℕ, ℤ, List, [], ◌≡◌, Some, slice_get}
use Rattle.oc_cells.specs.declared.types.StructType.{StructType}
use Rattle.oc_typed.specs.declared.typed.TypedFunction.{TypedFunction}
use Rattle.oc_walk.specs.Walking.{Known}
use Rattle.oc_walk.specs.declared.run.ClearSetup.{ClearSetup}
use Rattle.oc_meanings.specs.Clear.{clear, clear_walk, known_of}
use Rattle.oc_meanings.specs.Events.{events, events_walk}
use Rattle.oc_code.specs.Machine.{EndsSo}
use Rattle.oc_code.specs.declared.code.CodeFunction.{CodeFunction}
use Rattle.code_runs.specs.Jumps.{Good}

-- for all public words, counts, transfers, revealed values and budgets, the word events of the code are those of the tree
abbrev pub SameEvents : List StructType → List TypedFunction → ℕ → List CodeFunction → Type 0
SameEvents structs fs entry gs =
    (known : Known) (dealt : ℕ) (rev : List ℤ) (budget : ℕ) → EndsSo events structs gs entry known dealt rev budget [] (events_walk structs fs entry known dealt rev budget)

-- for all words of both parties, the code shows in the clear what the tree shows
abbrev pub SameShown : List StructType → List TypedFunction → ℕ → List CodeFunction → Type 0
SameShown structs fs entry gs = (s : ClearSetup) → EndsSo (clear s.first s.second) structs gs entry (known_of s) s.dealt [] s.budget [] (clear_walk structs fs entry s)

-- each jump leads ahead, to a step, or to a jump past it, and each call reaches at least 2 nodes
abbrev pub JumpsLeadOn : List CodeFunction → Type 0
JumpsLeadOn gs = (n : ℕ) (f : CodeFunction) → slice_get gs n ≡ Some f → Good f.code 0 f.code
