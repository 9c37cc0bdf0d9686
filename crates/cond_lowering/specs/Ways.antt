-- The ways out of a statement: what a `break` and a `continue` leave on their way.
use Rattle.std.specs.Prelude.{ℕ, ◌≡◌, List, [], ◌∷◌, ◌++◌, Bool, true, false, if◌then◌else◌}
use Rattle.oc_source.specs.declared.spot.Spot.{Spot}
use Rattle.oc_code.specs.declared.code.Instr.{Instr}
use Rattle.oc_code.specs.declared.code.Instr.TheVariants.{Leave, EndWhen, EndAlways, Jump, Null, BackValue}
use Rattle.oc_code.specs.declared.code.Line.{Line}
use Rattle.oc_walk.specs.Walk.{nowhere}
use Rattle.oc_code.specs.Lower.{line}
use Rattle.cond_lowering.specs.declared.ways.Exit.{Exit}
use Rattle.cond_lowering.specs.declared.ways.ExitKind.{ExitKind}
use Rattle.cond_lowering.specs.declared.ways.ExitKind.TheVariants.{Slot, Part, Lift, Loop}

-- how a `break` leaves this, or a `continue`, which goes on with the next turn
abbrev pub exit_of : Bool → ExitKind → Instr
exit_of again (Slot n) = Leave n
exit_of again Part = EndWhen
exit_of again Lift = EndAlways
exit_of true (Loop end again) = Jump again
exit_of false (Loop end again) = Jump end

-- the same as a line
abbrev pub exit_line : Bool → Exit → Line
exit_line again e = line e.spot (exit_of again e.kind)

-- whether this is a loop
abbrev pub is_loop : ExitKind → Bool
is_loop (Loop end again) = true
is_loop k = false

-- the way out of all of these, of which the newest is the last, up to a loop, and else on with x
abbrev pub way : Bool → List Exit → List Line → List Line
way again [] x = x
way again (e ∷ es) x = way again es (exit_line again e ∷ (if is_loop e.kind then [] else x))

-- what leaves all of these, the newest first
abbrev pub outs : List Exit → List Line
outs [] = []
outs (e ∷ es) = outs es ++ exit_line false e ∷ []

-- slots, of which the newest is the first, as ways out, of which it is the last
abbrev pub entered : Spot → List ℕ → List Exit
entered p [] = []
entered p (n ∷ ns) = entered p ns ++ record { spot = p; kind = Slot n } ∷ []

-- the end of a call that gives the null pointer
abbrev pub null_end : List Line
null_end = line nowhere Null ∷ (line nowhere BackValue ∷ [])

-- the newest way out was left
pub record LeavesLast (es0 es1 : List Exit) (c0 c1 : List Line) : Type 0 where
  pub last : Exit
  pub popped : es0 ≡ es1 ++ last ∷ []
  pub code : c1 ≡ c0 ++ exit_line false last ∷ []
