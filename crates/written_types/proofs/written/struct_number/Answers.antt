use Rattle.std.proofs.Common.{◌∙◌}
use Rattle.written_types.proofs.written.struct_number.Goals as goal

pub returns : goal.returns
returns c = c.number_of.ensures ∙ c.args.names.now.numbered.at c.args.name.now
