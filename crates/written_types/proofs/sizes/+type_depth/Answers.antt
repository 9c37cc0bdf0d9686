use Rattle.type_rules.specs.Written.{depths_after}
use Rattle.std.proofs.Common.{[]}
use Rattle.written_types.specs.Shapes.{types}
use Rattle.written_types.proofs.Counting.{array_depth}
use Rattle.written_types.proofs.sizes.+type_depth.Goals as goal

pub returns-in-Array : goal.returns-in-Array
returns-in-Array t c =
    array_depth (depths_after [] (types c.args.shapes.now.list)) c.in-Array.len c.in-Array.of c.args.ty.now c.get.result.now c.type_depth.result c.in-Array.is c.type_depth.ensures c.get.ensures
