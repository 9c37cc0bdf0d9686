use Rattle.std.proofs.Common.{refl, subst}
use Rattle.std.specs.Prelude.{codes}
use Rattle.oblivc_main.specs.Endings.{Printed}
use Rattle.oblivc_main.proofs.CheckRuns.{check_stops, check_done, check_unwritten, check_spent}
use Rattle.oblivc_main.proofs.checking.check.Goals as goal

pub returns-in-Err-clause-end : goal.returns-in-Err-clause-end
returns-in-Err-clause-end g c = check_stops _ c.args.asked.now c.in-Err.status c.in-Err.ensures.end refl

pub returns-in-Done-clause-end : goal.returns-in-Done-clause-end
returns-in-Done-clause-end g c =
    check_done _ c.args.asked.now c.in-Ok.accepted c.in-Ok.ensures.end
    (subst (λ r. Printed (codes "ok\n") r (g.S.Sink.faults c.args.out.now) (g.S.Sink.faults c.print_line.new.out) (g.S.Sink.written c.args.out.now) (g.S.Sink.written c.print_line.new.out)) c.in-Done.is c.print_line.ensures)

pub returns-in-Failed-clause-end : goal.returns-in-Failed-clause-end
returns-in-Failed-clause-end g c =
    check_unwritten _ c.args.asked.now c.in-Ok.accepted c.in-Ok.ensures.end
    (subst (λ r. Printed (codes "ok\n") r (g.S.Sink.faults c.args.out.now) (g.S.Sink.faults c.print_line.new.out) (g.S.Sink.written c.args.out.now) (g.S.Sink.written c.print_line.new.out)) c.in-Failed.is c.print_line.ensures)

pub returns-clause-end : goal.returns-clause-end
returns-clause-end g c =
    check_spent _ c.args.asked.now c.in-Ok.accepted c.in-Ok.ensures.end
    (subst (λ r. Printed (codes "ok\n") r (g.S.Sink.faults c.args.out.now) (g.S.Sink.faults c.print_line.new.out) (g.S.Sink.written c.args.out.now) (g.S.Sink.written c.print_line.new.out)) c.in-NoMemory.is c.print_line.ensures)
