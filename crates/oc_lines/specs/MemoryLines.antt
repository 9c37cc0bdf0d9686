-- A line in memory whose calls may fail, and what hands it out.
use Rattle.std.specs.Prelude.{◌≡◌, ◌≢◌, ℕ, List, [], Contains}
use Rattle.oc_outside.specs.declared.dialers.Asked.{Asked}

-- the line as contracts see it
pub record MemoryLine : Type 0 where
  pub sent : List ℕ
  pub arrived : List ℕ
  pub coming : List ℕ
  -- how often it was found ended
  pub ends : ℕ
  -- how many bytes it gives or takes at once at most
  pub most : ℕ
  -- how often it was called, the numbers of the calls that fail, and how many failed
  pub calls : ℕ
  pub failing : List ℕ
  pub faults : ℕ

-- a line that wasn't used yet, and on which these bytes come
abbrev pub unused_line : List ℕ → ℕ → List ℕ → MemoryLine
unused_line bytes most failing = record {
  sent = [];
  arrived = [];
  coming = bytes;
  ends = 0;
  most = most;
  calls = 0;
  failing = failing;
  faults = 0;
}

-- the line wasn't used yet
abbrev pub IsUnused : MemoryLine → Type 0
IsUnused line = line ≡ unused_line line.coming line.most line.failing

-- the dialer as contracts see it
pub record MemoryDialing : Type 0 where
  -- the lines that it will hand out, in their order
  pub lines : List MemoryLine
  pub asked : List Asked
  -- how many lines were handed out
  pub handed : ℕ
  -- how many lines were closed, and the last of them
  pub closed : ℕ
  pub last : MemoryLine
  -- how often it was called, the numbers of the calls that fail, and how many failed
  pub calls : ℕ
  pub failing : List ℕ
  pub faults : ℕ

-- its next call hands out a line: it isn't to fail, and there is one left
abbrev pub IsDue : MemoryDialing → Type 0
IsDue dialer = (Contains dialer.failing dialer.calls → ⊥) × (dialer.lines ≢ [])
