use Rattle.std.proofs.Common.{None, rules, arith, sym, ◌∙◌}
use Rattle.std.specs.Prelude.{nat_lt}
use Rattle.std.proofs.lemmas.List.Sorted.{IsPartitionPoint-from_clause}
use Rattle.oc_walk.specs.declared.run.Named.{Named}
use Rattle.clear_actions.proofs.Rising.{parted, place_here}
use Rattle.clear_actions.proofs.entered.place_of.Goals as goal

pub returns : goal.returns
returns c =
    let point = IsPartitionPoint-from_clause (λ (e : Named). nat_lt e.slot c.args.slot) _ _ c.partition_point.ensures.partitioned (parted c.args.slot None _ c.requires) (λ a r q k. search rules) in
    record { within = c.partition_point.ensures.bound; before = λ k d h. point.0 k d (omega arith) h; behind = point.1 }

pub returns-then-is_at : goal.returns-then-is_at
returns-then-is_at c =
    place_here c.args.slot c.args.slots.now c.args.slot c.requires (sym c.is_at.ensures ∙ c.if-is_at.true)
