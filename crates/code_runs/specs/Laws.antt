-- What holds between the code of a program and its walk.
use Rattle.std.specs.Prelude.{ℕ, zero, suc, ℤ, Option, Some, None, slice_get, List, [], ◌∷◌, ◌++◌, ◌≡◌}
use Rattle.oc_cells.specs.declared.types.StructType.{StructType}
use Rattle.oc_cells.specs.declared.types.CType.{CType}
use Rattle.oc_cells.specs.Layout.{struct_leaves}
use Rattle.oc_source.specs.declared.spot.Spot.{Spot}
use Rattle.oc_typed.specs.declared.typed.TypedFunction.{TypedFunction}
use Rattle.typed_runs.specs.Shapes.{Heading}
use Rattle.typed_runs.specs.Statements.{ProgramOk}
use Rattle.oc_typed.specs.declared.typed.TStmtNode.{Held-TStmtNode-If-2}
use Rattle.oc_walk.specs.Domain.{Domain, AllOf}
use Rattle.oc_walk.specs.Walking.{Known, Site, Odd}
use Rattle.oc_walk.specs.Cells.{A, S}
use Rattle.oc_walk.specs.Walk.{walk, start}
use Rattle.oc_walk.specs.declared.run.ClearSetup.{ClearSetup}
use Rattle.oc_meanings.specs.Clear.{clear, clear_walk, known_of}
use Rattle.oc_meanings.specs.Events.{Entry, events, events_walk}
use Rattle.oc_code.specs.Machine.{Setup, Conf, Out, On, Halted, Over, next, entry_at, setup_of, EndsSo}
use Rattle.oc_code.specs.declared.code.CodeFunction.{CodeFunction}
use Rattle.oc_code.specs.Lower.{lowered}
use Rattle.code_runs.specs.Jumps.{Good}

-- for every domain that walks all parts, the code's run ends as the walk does: the same result, outcome, memory, steps and items
abbrev pub CodeWalks : Type 1
CodeWalks =
    (D : Domain) → ((h : D.Hidden) → D.decide h ≡ AllOf) → (skips : ℕ → Site → Held-TStmtNode-If-2 → A D (Unit {0}))
    → (structs : List StructType) (fs : List TypedFunction) (entry : ℕ) (known : Known) (dealt : ℕ) (answers : List ℤ) (budget : ℕ) (o : D.Own)
    → EndsSo D structs (lowered structs fs) entry known dealt answers budget o (walk D skips structs fs entry known dealt answers budget o)

-- the word events of the code are those of the tree, whatever is known beforehand of the values that are revealed
abbrev pub CodeEvents : Type 0
CodeEvents =
    (structs : List StructType) (fs : List TypedFunction) (entry : ℕ) (known : Known) (dealt : ℕ) (rev : List ℤ) (budget : ℕ)
    → EndsSo events structs (lowered structs fs) entry known dealt rev budget [] (events_walk structs fs entry known dealt rev budget)

-- and so is what the code shows in the clear
abbrev pub CodeShows : Type 0
CodeShows =
    (structs : List StructType) (fs : List TypedFunction) (entry : ℕ) (s : ClearSetup)
    → EndsSo (clear s.first s.second) structs (lowered structs fs) entry (known_of s) s.dealt [] s.budget [] (clear_walk structs fs entry s)

-- the same entries, or one more
pub data AtMostOne (es : List Entry) : List Entry → Type 0 where
  none : AtMostOne es es
  more : (e : Entry) → AtMostOne es (es ++ e ∷ [])

-- the entries after a beat
abbrev pub own_out : Out events → List Entry
own_out (On c) = c.state.mem.own
own_out (Halted w t) = t.mem.own
own_out (Over v t) = t.mem.own

-- a beat makes at most one word event or print, whatever the code is
abbrev pub OneABeat : Type 0
OneABeat = (g : Setup) (c : Conf events) → AtMostOne c.state.mem.own (own_out (next events g c))

-- what follows a beat after which the run goes on
abbrev pub and_on : Out events → (Conf events → Option (Conf events)) → Option (Conf events)
and_on (On c) k = k c
and_on (Halted w t) k = None
and_on (Over v t) k = None

-- where a run stands after so many beats, where it has not ended by then
abbrev pub stands_after : Setup → ℕ → Conf events → Option (Conf events)
stands_after g zero c = Some c
stands_after g (suc n) c = and_on (next events g c) (stands_after g n)

-- no beat of a program whose shapes are right lacks an operand or meets one of another form
abbrev pub NoOddBeat : Type 0
NoOddBeat =
    (structs : List StructType) (hs : List Heading) (fs : List TypedFunction) (entry : ℕ) (result : CType)
    → ProgramOk (struct_leaves structs) hs fs → slice_get hs entry ≡ Some (record { params = []; result = result })
    → (known : Known) (dealt : ℕ) (rev : List ℤ) (budget n : ℕ) (c : Conf events)
    → stands_after (setup_of structs (lowered structs fs) known budget) n (entry_at events entry (start events dealt rev budget [])) ≡ Some c
    → (p : Spot) (t : S events) → next events (setup_of structs (lowered structs fs) known budget) c ≡ Halted (Odd p) t → ⊥

-- each jump of each function leads ahead, to a step, or to a jump past it, and each call reaches at least 2 nodes
abbrev pub JumpsAreGood : Type 0
JumpsAreGood =
    (structs : List StructType) (fs : List TypedFunction) (n : ℕ) (f : CodeFunction) → slice_get (lowered structs fs) n ≡ Some f → Good f.code 0 f.code
