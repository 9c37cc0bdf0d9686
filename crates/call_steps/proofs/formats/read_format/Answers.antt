use Rattle.std.proofs.Common.{sym, get_or}
use Rattle.std.proofs.lemmas.Grind.{get_or_default_zero}
use Rattle.call_steps.proofs.Reading.{goes_on, ends}
use Rattle.call_steps.proofs.formats.read_format.Goals as goal

pub loop-byte-init : goal.loop-byte-init
loop-byte-init c = c.new_reader-reader.ensures c.args.text.now

pub loop-byte-preserved : goal.loop-byte-preserved
loop-byte-preserved c =
    let text = c.args.text.now in
    let i = c.loop-byte.byte-index in
    let inside = c.loop-byte-test.true in
    goes_on text i (get_or text i 0) c.loop-byte.reader c.in_ok-reader.reader (sym (get_or_default_zero text i (get_or text i 0) inside)) inside c.in_ok-reader.ensures c.loop-byte.invariant

pub returns : goal.returns
returns c = ends c.args.text.now _ c.loop-byte.reader _ c.loop-byte-test.false c.finish.ensures c.loop-byte.invariant
