-- What a run says of the dialer that it was handed, over any dialer.
use Rattle.std.specs.Prelude.{◌≡◌, ℕ, ◌+◌, ◌-◌, ◌^◌, ◌<◌, List, [], ◌∷◌, Option, IfSome}
use Rattle.oc_outside.specs.Counts.{Rose}
use Rattle.oc_outside.specs.Told.{appended}
use Rattle.oc_outside.specs.declared.dialers.Asked.{Asked}

-- a dialer as contracts see it: its counts, what it was asked for, and the lists and counts of the line that was closed last
pub record Dialed : Type 0 where
  pub faults : ℕ
  pub handed : ℕ
  pub closed : ℕ
  pub asked : Option (List Asked)
  pub last_sent : Option (List ℕ)
  pub last_arrived : Option (List ℕ)
  pub last_faults : ℕ
  pub last_ends : ℕ

-- it was asked for one line, and for nothing else
abbrev pub AskedOnce : Asked → Dialed → Dialed → Type 0
AskedOnce one before after = after.asked ≡ appended (one ∷ []) before.asked

-- it was asked for nothing
abbrev pub AskedNothing : Dialed → Dialed → Type 0
AskedNothing before after = after.asked ≡ before.asked

-- each line that it handed out in between was closed, where the counts are below their type's end
abbrev pub ClosedAll : Dialed → Dialed → Type 0
ClosedAll before after =
    after.handed < 2 ^ 64 - 1 → after.closed < 2 ^ 64 - 1 → after.closed + before.handed ≡ before.closed + after.handed

-- one line was closed: the lists and counts of the line closed last are those of this run's line
abbrev pub RanOneLine : Dialed → Dialed → Type 0
RanOneLine before after = after.closed ≡ before.closed + 1

-- the bytes that were sent on the line closed last, where they are told, are these
abbrev pub SentIs : List ℕ → Dialed → Type 0
SentIs bytes after = IfSome after.last_sent (λ sent. sent ≡ bytes)

-- the line closed last had a fault
abbrev pub LineFailed : Dialed → Type 0
LineFailed after = 0 < after.last_faults

-- the line closed last was found ended
abbrev pub LineEnded : Dialed → Type 0
LineEnded after = 0 < after.last_ends

-- the dialer itself had a fault
abbrev pub DialingFailed : Dialed → Dialed → Type 0
DialingFailed before after = Rose before.faults after.faults
