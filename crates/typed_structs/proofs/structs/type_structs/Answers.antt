use Rattle.std.proofs.lemmas.Result.{err_from_is_err_and}
use Rattle.typed_structs.specs.Structs.{after_structs}
use Rattle.typed_structs.proofs.AllStructs.{structs_fail, structs_go_on}
use Rattle.typed_structs.proofs.structs.type_structs.Goals as goal

pub returns-in_err-shape : goal.returns-in_err-shape
returns-in_err-shape c =
    let q = err_from_is_err_and c.from_residual.result c.from_residual.ensures.1 in
    let n = c.args.names.now in
    structs_fail n n.defs.now c.loop-def.def-index c.loop-def.shapes c.def-item.result (after_structs n) c.from_residual.result c.loop-def.invariant c.def-item.is c.loop-def-test.true c.in_err-shape.ensures.typed q.1 q.2

pub loop-def-preserved : goal.loop-def-preserved
loop-def-preserved c =
    let n = c.args.names.now in
    structs_go_on n n.defs.now c.loop-def.def-index c.loop-def.shapes c.push.new.self c.def-item.result c.in_ok-shape.shape c.loop-def.invariant c.def-item.is c.loop-def-test.true c.in_ok-shape.ensures.typed.said c.in_ok-push.ensures
