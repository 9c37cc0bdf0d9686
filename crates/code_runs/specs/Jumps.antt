-- What is asked of the jumps and calls of lowered code, place by place.
use Rattle.std.specs.Prelude.{ℕ, ◌+◌, ◌<◌, ◌≤◌, ◌≡◌, List, [], ◌∷◌, Some, slice_get}
use Rattle.oc_source.specs.declared.spot.Spot.{Spot}
use Rattle.oc_code.specs.declared.code.Instr.{Instr}
use Rattle.oc_code.specs.declared.code.Instr.TheVariants.{Jump, JumpZero, Step, Invoke}
use Rattle.oc_code.specs.declared.code.Line.{Line}
use Rattle.oc_code.specs.Lower.{line}

-- where a jump at place i leads: ahead, to a step, or to a jump that goes past i
pub data Leads (code : List Line) (i n : ℕ) : Type 0 where
  ahead : i < n → Leads code i n
  to_step : (p : Spot) → slice_get code n ≡ Some (line p Step) → Leads code i n
  past : (p : Spot) (m : ℕ) → slice_get code n ≡ Some (line p (Jump m)) → i < m → Leads code i n

-- what is asked of an instruction at a place
abbrev pub IsGood : List Line → ℕ → Instr → Type 0
IsGood code i (Jump n) = Leads code i n
IsGood code i (JumpZero n) = Leads code i n
IsGood code i (Invoke f n r) = 2 ≤ r
IsGood code i other = Unit {0}

-- each instruction from this place on is as it should be
abbrev pub Good : List Line → ℕ → List Line → Type 0
Good code pc [] = Unit {0}
Good code pc (l ∷ ls) = IsGood code pc l.instr × Good code (pc + 1) ls
