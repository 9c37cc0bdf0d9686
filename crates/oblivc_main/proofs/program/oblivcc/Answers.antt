use Rattle.oblivc_main.proofs.program.oblivcc.Goals as goal

pub returns-clause-answered : goal.returns-clause-answered
returns-clause-answered g c = record { status = c.serve-status.result; cause = c.serve-status.ensures; said = c.report.ensures }
