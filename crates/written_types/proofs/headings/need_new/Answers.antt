use Rattle.written_types.proofs.Naming.{new_name, old_name}
use Rattle.written_types.proofs.headings.need_new.Goals as goal

pub returns-in-None : goal.returns-in-None
returns-in-None c = λ xs h. new_name c.args.numbers.now c.args.name.now _ c.args.spot xs h c.as_bytes.ensures c.in-None.ensures

pub returns-in-Some : goal.returns-in-Some
returns-in-Some c = λ xs h. old_name c.args.numbers.now c.args.name.now _ c.args.spot xs h c.as_bytes.ensures _ c.in-Some.ensures
