use Rattle.block_memory.proofs.Growing.{adds_one}
use Rattle.block_memory.proofs.layout.push_blank.Goals as goal

pub returns : goal.returns
returns g c = adds_one _ _ _ _ c.in_ok-push.ensures.ok c.new.ensures c.blank_value-value.ensures
