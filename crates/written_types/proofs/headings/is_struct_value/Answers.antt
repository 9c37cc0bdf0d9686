use Rattle.std.proofs.Common.{sym}
use Rattle.written_types.proofs.Naming.{struct_stars}
use Rattle.written_types.proofs.headings.is_struct_value.Goals as goal

pub returns-else-stars-eq0 : goal.returns-else-stars-eq0
returns-else-stars-eq0 c = sym (struct_stars c.args.frozen c.args.stars c.args.ty.now c.if-stars-eq0.false)
