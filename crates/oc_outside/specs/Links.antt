-- What is said of the answers of a link's receiving half.
use Rattle.std.specs.Prelude.{ℕ, ⊤}
use Rattle.oc_outside.specs.declared.links.RecvAnswer.{RecvAnswer}
use Rattle.oc_outside.specs.declared.links.RecvAnswer.TheVariants.{Got, Ended, Failed}

-- a fact of the number of bytes received, where some were received
abbrev pub IfGot : RecvAnswer → (ℕ → Type 0) → Type 0
IfGot (Got n) fact = fact n
IfGot Ended fact = ⊤
IfGot Failed fact = ⊤

-- a fact where the line ended
abbrev pub OnEnded : RecvAnswer → Type 0 → Type 0
OnEnded (Got n) fact = ⊤
OnEnded Ended fact = fact
OnEnded Failed fact = ⊤

-- a fact where the line failed
abbrev pub OnRecvFailed : RecvAnswer → Type 0 → Type 0
OnRecvFailed (Got n) fact = ⊤
OnRecvFailed Ended fact = ⊤
OnRecvFailed Failed fact = fact

-- a fact of every answer but a fault
abbrev pub UnlessRecvFailed : RecvAnswer → Type 0 → Type 0
UnlessRecvFailed (Got n) fact = fact
UnlessRecvFailed Ended fact = fact
UnlessRecvFailed Failed fact = ⊤

-- a fact of every answer but the line's end
abbrev pub UnlessEnded : RecvAnswer → Type 0 → Type 0
UnlessEnded (Got n) fact = fact
UnlessEnded Ended fact = ⊤
UnlessEnded Failed fact = fact

-- a fact where nothing was received
abbrev pub UnlessGot : RecvAnswer → Type 0 → Type 0
UnlessGot (Got n) fact = ⊤
UnlessGot Ended fact = fact
UnlessGot Failed fact = fact
