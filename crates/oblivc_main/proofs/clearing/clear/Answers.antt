use Rattle.std.proofs.Common.{refl, subst}
use Rattle.oblivc_main.specs.Shown.{shown}
use Rattle.oblivc_main.specs.Endings.{Printed}
use Rattle.oblivc_main.proofs.ClearRuns.{clear_stops, clear_done, clear_unwritten, clear_spent}
use Rattle.oblivc_main.proofs.clearing.clear.Goals as goal

pub returns-in-Err-clause-end : goal.returns-in-Err-clause-end
returns-in-Err-clause-end g c = clear_stops _ c.args.asked.now c.in-Err.status c.in-Err.ensures.end refl

pub returns-in-Done-clause-end : goal.returns-in-Done-clause-end
returns-in-Done-clause-end g c =
    clear_done _ c.args.asked.now c.in-Ok.run' c.in-Ok.ensures.end c.end_of.result c.end_of.ensures
    (subst (λ items. Printed (shown items) _ (g.S.Sink.faults c.args.out.now) (g.S.Sink.faults c.print_all.new.out) (g.S.Sink.written c.args.out.now) (g.S.Sink.written c.print_all.new.out)) c.as_slice.ensures
    (subst (λ r. Printed (shown c.as_slice.result.now) r (g.S.Sink.faults c.args.out.now) (g.S.Sink.faults c.print_all.new.out) (g.S.Sink.written c.args.out.now) (g.S.Sink.written c.print_all.new.out)) c.in-Done.is c.print_all.ensures))

pub returns-in-Failed-clause-end : goal.returns-in-Failed-clause-end
returns-in-Failed-clause-end g c =
    clear_unwritten _ c.args.asked.now c.in-Ok.run' c.in-Ok.ensures.end
    (subst (λ items. Printed (shown items) _ (g.S.Sink.faults c.args.out.now) (g.S.Sink.faults c.print_all.new.out) (g.S.Sink.written c.args.out.now) (g.S.Sink.written c.print_all.new.out)) c.as_slice.ensures
    (subst (λ r. Printed (shown c.as_slice.result.now) r (g.S.Sink.faults c.args.out.now) (g.S.Sink.faults c.print_all.new.out) (g.S.Sink.written c.args.out.now) (g.S.Sink.written c.print_all.new.out)) c.in-Failed.is c.print_all.ensures))

pub returns-clause-end : goal.returns-clause-end
returns-clause-end g c =
    clear_spent _ c.args.asked.now c.in-Ok.run' c.in-Ok.ensures.end
    (subst (λ items. Printed (shown items) _ (g.S.Sink.faults c.args.out.now) (g.S.Sink.faults c.print_all.new.out) (g.S.Sink.written c.args.out.now) (g.S.Sink.written c.print_all.new.out)) c.as_slice.ensures
    (subst (λ r. Printed (shown c.as_slice.result.now) r (g.S.Sink.faults c.args.out.now) (g.S.Sink.faults c.print_all.new.out) (g.S.Sink.written c.args.out.now) (g.S.Sink.written c.print_all.new.out)) c.in-NoMemory.is c.print_all.ensures))
