use Rattle.std.proofs.Common.{min, sym, ap}
use Rattle.written_types.proofs.Forms.{cells_stars}
use Rattle.written_types.proofs.written.element_cells.Goals as goal

pub returns-else-field-eq0 : goal.returns-else-field-eq0
returns-else-field-eq0 c = ap (λ n. min n 65537) (sym (cells_stars _ c.args.field.now.base.frozen c.args.field.now.stars c.args.base.now c.if-field-eq0.false))
