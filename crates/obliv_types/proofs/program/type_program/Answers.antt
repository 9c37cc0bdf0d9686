use Rattle.obliv_types.proofs.Programs.{promised}
use Rattle.obliv_types.proofs.program.type_program.Goals as goal

pub returns : goal.returns
returns c = record { promised = promised c.args.program.now c.judged_program.result c.judged_program.ensures }
