use Rattle.std.proofs.Common.{◌∙◌, Some, None, refl, sym}
use Rattle.std.proofs.lemmas.Map.Text.{btree_map_updates_str}
use Rattle.visible_variables.proofs.Scoping.{latest_back}
use Rattle.visible_variables.proofs.scope.show.Goals as goal

pub returns-in-None : goal.returns-in-None
returns-in-None c =
    λ vs h e. latest_back _ _ c.args.variable.now.name.now None (btree_map_updates_str c.args.variable.now.name.now c.args.latest.now c.remove.new.self None c.remove.ensures.updates) vs c.args.variable.now refl (sym c.in-None.is ∙ e) h

pub returns-in_ok-insert-in-Some : goal.returns-in_ok-insert-in-Some
returns-in_ok-insert-in-Some c =
    λ vs h e. latest_back _ _ c.args.variable.now.name.now (Some c.in-Some.number) (btree_map_updates_str c.args.variable.now.name.now c.args.latest.now c.insert.new.self (Some c.in-Some.number) c.in_ok-insert-in-Some.ensures.updates) vs c.args.variable.now refl (sym c.in-Some.is ∙ e) h
