use Rattle.std.proofs.Common.{◌≤◌, arith, lit≤}
use Rattle.std.proofs.lemmas.List.Elements.{All-push, All-same}
use Rattle.oc_parser.specs.declared.entries.Entry.{Entry}
use Rattle.oc_parser.proofs.Totals.{total-push}
use Rattle.oc_parser.proofs.load.entered.Goals as goal

pub invariant_of-result : goal.invariant_of-result
invariant_of-result c = record {
  summed = rw c.in_ok-push.ensures.ok (omega (arith, total-push c.args.counts.below c.args.counts.top, c.args.counts.summed));
  narrow = lit≤ tt;
  all_narrow = All-same (λ (e : Entry). e.opened ≤ e.count) _ _ c.in_ok-push.ensures.ok (All-push (λ (e : Entry). e.opened ≤ e.count) _ _ c.args.counts.all_narrow c.args.counts.narrow);
}
