use Rattle.typed_structs.proofs.Naming.{numbers_none, numbered_more, numbered_all}
use Rattle.typed_structs.proofs.names.numbered.Goals as goal

pub loop-number-init : goal.loop-number-init
loop-number-init c = numbers_none _ c.new-numbers.ensures.empty

pub loop-number-preserved : goal.loop-number-preserved
loop-number-preserved c =
    numbered_more _ _ c.args.defs.now _ _ _ c.in_ok-add_name.ensures.numbers c.as_bytes.ensures c.index-defs-number.is c.loop-number-test.true c.loop-number.invariant

pub invariant_of-result : goal.invariant_of-result
invariant_of-result c = record { numbered = numbered_all _ c.args.defs.now _ c.loop-number-test.false c.loop-number.invariant }
