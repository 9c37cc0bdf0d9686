use Rattle.oc_expressions.specs.Continuations.{leaf_of}
use Rattle.oc_expressions.proofs.leaves.leaf.Goals as goal

pub returns-in_ok-boxed-in-Some : goal.returns-in_ok-boxed-in-Some
returns-in_ok-boxed-in-Some c = rw c.in_ok-boxed-in-Some.ensures (leaf_of (rw c.in-Some.is at c.in_ok-node.ensures))
