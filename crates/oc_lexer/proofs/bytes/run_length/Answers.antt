use Rattle.std.proofs.Common.{sym, ◌∙◌, zero-add, arith}
use Rattle.oc_lexer.specs.Bytes.{is_in}
use Rattle.oc_lexer.proofs.Runs.{run_goes, run_stops, run_ends}
use Rattle.oc_lexer.proofs.bytes.run_length.Goals as goal

pub loop-index-init : goal.loop-index-init
loop-index-init c = zero-add _

pub returns-then-not-contains : goal.returns-then-not-contains
returns-then-not-contains c = run_stops (is_in c.args.class) c.args.text.now c.loop-index.index _ c.loop-index-test.true (sym c.contains.ensures ∙ c.if-not-contains.true) c.loop-index.invariant

pub loop-index-preserved : goal.loop-index-preserved
loop-index-preserved c = run_goes (is_in c.args.class) c.args.text.now c.loop-index.index _ c.loop-index-test.true (sym c.contains.ensures ∙ c.if-not-contains.false) c.loop-index.invariant

pub returns : goal.returns
returns c = run_ends (is_in c.args.class) c.args.text.now c.loop-index.index _ c.loop-index-test.false (omega arith) c.loop-index.invariant
