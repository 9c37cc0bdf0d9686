-- What is told of a line over TCP, and of what makes such lines: counts alone.
use Rattle.std.specs.Prelude.{ℕ}

-- the line as contracts see it
pub record TcpLine : Type 0 where
  -- how many calls failed
  pub faults : ℕ
  -- how often it was found ended
  pub ends : ℕ

-- the dialer as contracts see it
pub record TcpDialing : Type 0 where
  -- how many calls failed
  pub faults : ℕ
  -- how many lines were handed out, and how many were closed
  pub handed : ℕ
  pub closed : ℕ
  -- the last of these
  pub last : TcpLine
