use Rattle.clear_actions.proofs.CellByCell.{at_leaf}
use Rattle.clear_actions.proofs.copying.copy_place.Goals as goal

pub returns-in_ok-leaf-in-Some : goal.returns-in_ok-leaf-in-Some
returns-in_ok-leaf-in-Some c =
    at_leaf c.args.spot c.args.enabled _ c.args.place c.args.to c.args.from _ _ _ _ _ c.in-Some.ensures c.in_ok-leaf-in-Some.ensures c.copy_cell.ensures
