use Rattle.gate_core.proofs.Affording.{list_counts}
use Rattle.gate_core.proofs.laws.room_suffices.Goals as goal

pub returns : goal.returns
returns g c = list_counts g.G.Gates.calls g.G.Gates.made g.G.Gates.room g.met.G.Gates.counts
