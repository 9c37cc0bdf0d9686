use Rattle.oc_cells.specs.Layout.{struct_cells}
use Rattle.written_types.specs.Shapes.{types}
use Rattle.written_types.proofs.Counting.{array_capped}
use Rattle.written_types.proofs.sizes.+type_cells.Goals as goal

pub returns-in-Array : goal.returns-in-Array
returns-in-Array t c =
    array_capped (struct_cells (types c.args.shapes.now.list)) c.in-Array.len c.in-Array.of c.args.ty.now c.get.result.now c.type_cells-each.result c.capped.result c.in-Array.is c.type_cells-each.ensures c.get.ensures c.capped.ensures
