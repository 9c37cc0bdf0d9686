use Rattle.oc_grammar.specs.Trees.{number, character, text}
use Rattle.oc_expressions.proofs.leaves.leaf_node.Goals as goal

pub returns-in-Number : goal.returns-in-Number
returns-in-Number c = rw c.in-Number.is (number _)

pub returns-in-Character : goal.returns-in-Character
returns-in-Character c = rw c.in-Character.is (character _ c.small.ensures.kind c.small.ensures.value)

pub returns-in_ok-text-in-Text : goal.returns-in_ok-text-in-Text
returns-in_ok-text-in-Text c = rw (c.in-Text.is, c.in_ok-text-in-Text.ensures) (text _)
