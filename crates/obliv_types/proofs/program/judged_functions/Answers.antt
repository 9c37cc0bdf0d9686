use Rattle.std.proofs.Common.{refl}
use Rattle.std.proofs.lemmas.Result.{err_from_is_err_and}
use Rattle.type_steps.proofs.Steps.{go, stop, fine}
use Rattle.typed_structs.specs.Structs.{after_structs}
use Rattle.obliv_types.proofs.Programs.{headings_as, functions_as, entry_as, headed_so}
use Rattle.obliv_types.proofs.program.judged_functions.Goals as goal

pub returns-in_err-headings : goal.returns-in_err-headings
returns-in_err-headings c =
    let q = err_from_is_err_and c.from_residual.result c.from_residual.ensures.1 in
    let p = c.args.program.now in
    let e = c.new-structs.ensures in
    stop _ _ (headings_as c.new-structs.result c.args.names.now c.args.shapes.now p.structs p.functions e.names e.shapes c.requires c.in_err-headings.ensures) q.1 q.2

pub returns-in_err-functions : goal.returns-in_err-functions
returns-in_err-functions c =
    let q = err_from_is_err_and c.from_residual-in_err-functions.result c.from_residual-in_err-functions.ensures.1 in
    let p = c.args.program.now in
    let e = c.new-structs.ensures in
    let hs = c.in_ok-headings.headings.list.items in
    let m = headings_as c.new-structs.result c.args.names.now c.args.shapes.now p.structs p.functions e.names e.shapes c.requires c.in_ok-headings.ensures in
    let k = headed_so (after_structs c.args.names.now c.args.shapes.now) p.structs p.functions hs m.said in
    go _ _ m
    (stop _ _ (functions_as c.new-structs.result c.args.names.now c.args.shapes.now p.structs p.functions e.names e.shapes c.requires c.bodies_of-bodies.result.headings hs c.bodies_of-bodies.ensures k c.in_err-functions.ensures) q.1 q.2)

pub returns-in_err-entry : goal.returns-in_err-entry
returns-in_err-entry c =
    let q = err_from_is_err_and c.from_residual-in_err-entry.result c.from_residual-in_err-entry.ensures.1 in
    let p = c.args.program.now in
    let e = c.new-structs.ensures in
    let hs = c.in_ok-headings.headings.list.items in
    let bs = c.bodies_of-bodies.result.headings in
    let m = headings_as c.new-structs.result c.args.names.now c.args.shapes.now p.structs p.functions e.names e.shapes c.requires c.in_ok-headings.ensures in
    let k = headed_so (after_structs c.args.names.now c.args.shapes.now) p.structs p.functions hs m.said in
    go _ _ m
    (go _ _ (functions_as c.new-structs.result c.args.names.now c.args.shapes.now p.structs p.functions e.names e.shapes c.requires bs hs c.bodies_of-bodies.ensures k c.in_ok-functions.ensures)
    (stop _ _ (entry_as p.end c.as_slice.result.now bs hs c.as_slice.ensures c.bodies_of-bodies.ensures c.in_err-entry.ensures) q.1 q.2))

pub returns : goal.returns
returns c =
    let p = c.args.program.now in
    let e = c.new-structs.ensures in
    let hs = c.in_ok-headings.headings.list.items in
    let bs = c.bodies_of-bodies.result.headings in
    let m = headings_as c.new-structs.result c.args.names.now c.args.shapes.now p.structs p.functions e.names e.shapes c.requires c.in_ok-headings.ensures in
    let k = headed_so (after_structs c.args.names.now c.args.shapes.now) p.structs p.functions hs m.said in
    go _ _ m
    (go _ _ (functions_as c.new-structs.result c.args.names.now c.args.shapes.now p.structs p.functions e.names e.shapes c.requires bs hs c.bodies_of-bodies.ensures k c.in_ok-functions.ensures)
    (go _ _ (entry_as p.end c.as_slice.result.now bs hs c.as_slice.ensures c.bodies_of-bodies.ensures c.in_ok-entry.ensures) (fine refl)))
