use Rattle.std.proofs.lemmas.Result.{err_from_is_err_and}
use Rattle.oc_grammar.proofs.Calls.{failing}
use Rattle.oc_parser.proofs.Wholes.{program_opened, part_fails, part_read, program_read, some_left, none_left}
use Rattle.oc_parser.proofs.programs.program.Goals as goal

pub loop-rest-init : goal.loop-rest-init
loop-rest-init c = rw (c.new.ensures, c.new-2.ensures) (program_opened _ _)

pub returns-in_err-more : goal.returns-in_err-more
returns-in_err-more c =
    let p = err_from_is_err_and c.from_residual.result c.from_residual.ensures.1 in
    rw (p.1, p.2) (failing _ _ _ _ _ _ _ c.in_err-more.ensures.reads (λ rest f. part_fails _ _ c.loop-rest.invariant (some_left _ _ c.is_empty.ensures c.loop-rest-test.true) f))

pub loop-rest-preserved : goal.loop-rest-preserved
loop-rest-preserved c = rw c.in_ok-found.ensures (part_read _ _ c.loop-rest.invariant (some_left _ _ c.is_empty.ensures c.loop-rest-test.true) c.in_ok-more.ensures.reads)

pub returns : goal.returns
returns c = program_read _ _ c.loop-rest.invariant (none_left _ _ c.is_empty.ensures c.loop-rest-test.false)
