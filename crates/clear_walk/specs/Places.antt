-- Where a node stands in a run, and where its parts stand.
use Rattle.std.specs.Prelude.{◌-◌, Bool, if◌then◌else◌}
use Rattle.oc_source.specs.declared.spot.Spot.{Spot}
use Rattle.oc_typed.specs.Static.{same_spot}
use Rattle.clear_walk.specs.declared.around.At.{At}

-- where a node's parts stand
abbrev pub below : At → At
below at = record at { room = at.room - 1 }

-- where the part at the second spot of a conversion at the first one stands
abbrev pub beside : At → Spot → Spot → At
beside at p q = if same_spot p q then at else below at

-- the same under another enable
abbrev pub enabled_by : At → Bool → At
enabled_by at e = record at { enabled = e }
