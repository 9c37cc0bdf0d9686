-- A sink in memory.
use Rattle.std.specs.Prelude.{ℕ, List}

-- the sink as contracts see it
pub record SinkState : Type 0 where
  -- the bytes that it took
  pub written : List ℕ
  -- how often it was called, the numbers of the calls that fail, and how many failed
  pub calls : ℕ
  pub failing : List ℕ
  pub faults : ℕ
  -- how many bytes it takes at once at most
  pub most : ℕ
