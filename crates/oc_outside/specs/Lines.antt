-- A line in memory, and what hands it out.
use Rattle.std.specs.Prelude.{ℕ, List, []}
use Rattle.oc_outside.specs.declared.dialers.Asked.{Asked}

-- the line as contracts see it
pub record LineState : Type 0 where
  pub sent : List ℕ
  pub arrived : List ℕ
  pub coming : List ℕ
  -- how often it was found ended
  pub ends : ℕ

-- a line that wasn't used yet, and on which these bytes come
abbrev pub new_line : List ℕ → LineState
new_line bytes = record { sent = []; arrived = []; coming = bytes; ends = 0 }

-- the dialer as contracts see it
pub record DialerState : Type 0 where
  -- the bytes that come on each line
  pub coming : List ℕ
  pub asked : List Asked
  -- how many lines were handed out
  pub handed : ℕ
  -- how many lines were closed, and the last of them
  pub closed : ℕ
  pub last : LineState
