use Rattle.std.proofs.Common.{arith}
use Rattle.input_words.proofs.LineForm.{line_found, line_whole}
use Rattle.input_words.proofs.lines.split_line.Goals as goal

pub returns-then-byte-eq10-clause-lines : goal.returns-then-byte-eq10-clause-lines
returns-then-byte-eq10-clause-lines c = line_found c.args.text.now c.loop-at.at c.loop-at-test.true c.if-byte-eq10.true c.loop-at.invariant

pub returns-clause-lines : goal.returns-clause-lines
returns-clause-lines c = line_whole c.args.text.now c.loop-at.at c.requires (omega (arith, c.loop-at-test.false)) c.loop-at.invariant
