use Rattle.std.proofs.Common.{Some}
use Rattle.std.proofs.lemmas.Map.Text.{btree_map_updates_str}
use Rattle.written_types.proofs.Numbering.{numbers_added, has_added, numbers_kept, has_kept}
use Rattle.written_types.proofs.numbers.add_name.Goals as goal

pub returns-in_ok-insert-in-None-clause-numbers : goal.returns-in_ok-insert-in-None-clause-numbers
returns-in_ok-insert-in-None-clause-numbers c =
    λ xs h e. numbers_added _ _ _ _ (btree_map_updates_str c.args.name.now c.args.numbers.now c.insert.new.self (Some c.args.number) c.in_ok-insert-in-None.ensures.updates) xs c.in-None.ensures h e

pub returns-in_ok-insert-in-None-clause-has : goal.returns-in_ok-insert-in-None-clause-has
returns-in_ok-insert-in-None-clause-has c =
    λ xs h. has_added _ _ _ _ (btree_map_updates_str c.args.name.now c.args.numbers.now c.insert.new.self (Some c.args.number) c.in_ok-insert-in-None.ensures.updates) xs h

pub returns-in-Some-clause-numbers : goal.returns-in-Some-clause-numbers
returns-in-Some-clause-numbers c = λ xs h e. numbers_kept _ _ _ c.in-Some.ensures xs h

pub returns-in-Some-clause-has : goal.returns-in-Some-clause-has
returns-in-Some-clause-has c = λ xs h. has_kept _ _ _ c.in-Some.ensures xs h
