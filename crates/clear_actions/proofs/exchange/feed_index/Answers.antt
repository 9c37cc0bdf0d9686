use Rattle.std.specs.Int.{w128}
use Rattle.std.proofs.lemmas.Int.{to_z-of_z}
use Rattle.clear_actions.proofs.Words.{word_from}
use Rattle.clear_actions.proofs.exchange.feed_index.Goals as goal

pub returns : goal.returns
returns c =
    word_from c.args.setup.now c.args.spot c.args.party c.args.kind c.args._of c.args.index _ _ _ _ _ _ _ c.find_word-found.ensures (to_z-of_z w128 c.args.index c.ranges.index) c.as_slice.ensures c.words_of.ensures c.feed_found.ensures
