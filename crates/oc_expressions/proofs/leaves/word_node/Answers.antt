use Rattle.oc_grammar.specs.Trees.{null, truth, falsity}
use Rattle.oc_expressions.proofs.leaves.word_node.Goals as goal

pub returns-in-Null : goal.returns-in-Null
returns-in-Null c = rw c.in-Null.is null

pub returns-in-True : goal.returns-in-True
returns-in-True c = rw c.in-True.is (truth _ c.small.ensures.kind c.small.ensures.value)

pub returns-in-False : goal.returns-in-False
returns-in-False c = rw c.in-False.is (falsity _ c.small-in-False.ensures.kind c.small-in-False.ensures.value)
