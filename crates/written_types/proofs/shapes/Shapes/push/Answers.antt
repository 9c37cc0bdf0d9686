use Rattle.written_types.proofs.Pushing.{sized_more, nested_more}
use Rattle.written_types.proofs.shapes.Shapes.push.Goals as goal

pub invariant_of-self : goal.invariant_of-self
invariant_of-self c =
    record {
      sized = sized_more c.push.result c.args.self.now.list c.push.new.self c.args.shape c.push.ensures.ok c.push.ensures.err c.args.self.now.sized c.requires.sized;
      nested = nested_more c.push.result c.args.self.now.list c.push.new.self c.args.shape c.push.ensures.ok c.push.ensures.err c.args.self.now.nested c.requires.nested;
    }
