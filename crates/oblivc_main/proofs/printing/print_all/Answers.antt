use Rattle.std.proofs.Common.{◌∙◌, subst, arith}
use Rattle.oblivc_main.specs.Shown.{shown_item}
use Rattle.oblivc_main.specs.Endings.{Printed}
use Rattle.oblivc_main.proofs.Fronts.{failed_all, spent_all, written_next}
use Rattle.oblivc_main.proofs.printing.print_all.Goals as goal

pub returns-in-Failed : goal.returns-in-Failed
returns-in-Failed g c =
    failed_all c.args.items.now c.loop-item.item-index c.item-item.result (g.S.Sink.faults c.args.out.now) (g.S.Sink.faults c.loop-item.out) (g.S.Sink.faults c.print_item.new.out) (g.S.Sink.written c.args.out.now) (g.S.Sink.written c.loop-item.out) (g.S.Sink.written c.print_item.new.out) c.loop-item-test.true c.item-item.is c.loop-item.invariant.no_fault c.loop-item.invariant.written
    (subst (λ r. Printed (shown_item c.item-item.result) r (g.S.Sink.faults c.loop-item.out) (g.S.Sink.faults c.print_item.new.out) (g.S.Sink.written c.loop-item.out) (g.S.Sink.written c.print_item.new.out)) c.in-Failed.is c.print_item.ensures)

pub returns-in-NoMemory : goal.returns-in-NoMemory
returns-in-NoMemory g c =
    spent_all c.args.items.now c.loop-item.item-index c.item-item.result (g.S.Sink.faults c.args.out.now) (g.S.Sink.faults c.loop-item.out) (g.S.Sink.faults c.print_item.new.out) (g.S.Sink.written c.args.out.now) (g.S.Sink.written c.loop-item.out) (g.S.Sink.written c.print_item.new.out) c.loop-item-test.true c.item-item.is c.loop-item.invariant.no_fault c.loop-item.invariant.written
    (subst (λ r. Printed (shown_item c.item-item.result) r (g.S.Sink.faults c.loop-item.out) (g.S.Sink.faults c.print_item.new.out) (g.S.Sink.written c.loop-item.out) (g.S.Sink.written c.print_item.new.out)) c.in-NoMemory.is c.print_item.ensures)

pub loop-item-preserved : goal.loop-item-preserved
loop-item-preserved g c =
    let printed = subst (λ r. Printed (shown_item c.item-item.result) r (g.S.Sink.faults c.loop-item.out) (g.S.Sink.faults c.print_item.new.out) (g.S.Sink.written c.loop-item.out) (g.S.Sink.written c.print_item.new.out)) c.in-Done.is c.print_item.ensures in
    record {
      within = omega (arith, c.loop-item-test.true);
      no_fault = printed.no_fault ∙ c.loop-item.invariant.no_fault;
      written = written_next c.args.items.now c.loop-item.item-index c.item-item.result (g.S.Sink.written c.args.out.now) (g.S.Sink.written c.loop-item.out) (g.S.Sink.written c.print_item.new.out) c.loop-item-test.true c.item-item.is c.loop-item.invariant.written printed.done;
    }
