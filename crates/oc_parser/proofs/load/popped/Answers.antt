use Rattle.std.proofs.Common.{◌≤◌, Some, sym, ◌∙◌, arith, ap}
use Rattle.std.proofs.lemmas.List.Elements.{All-same, All-pop}
use Rattle.oc_parser.specs.Load.{total}
use Rattle.oc_parser.specs.declared.entries.Entry.{Entry}
use Rattle.oc_parser.proofs.Totals.{total-push}
use Rattle.oc_parser.proofs.load.popped.Goals as goal

pub invariant_of-result : goal.invariant_of-result
invariant_of-result c =
    let e = c.in_default.ensures.1 ∙ sym c.in_default.ensures.0 in
    record {
      summed = omega (arith, ap total e, c.args.counts.summed);
      narrow = c.args.counts.narrow;
      all_narrow = All-same (λ (e : Entry). e.opened ≤ e.count) _ _ e c.args.counts.all_narrow;
    }

pub invariant_of-result-2 : goal.invariant_of-result-2
invariant_of-result-2 c =
    let e = c.in-Some.ensures in
    let p = All-pop (λ (e : Entry). e.opened ≤ e.count) c.args.counts.below c.pop.new.self (Some c.in-Some.next) e c.args.counts.all_narrow in
    record {
      summed = omega (arith, ap total e, total-push c.pop.new.self c.in-Some.next, c.args.counts.summed);
      narrow = p.1;
      all_narrow = p.0;
    }
