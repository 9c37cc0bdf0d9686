use Rattle.std.proofs.Common.{Some}
use Rattle.std.proofs.lemmas.Map.Text.{btree_map_updates_str}
use Rattle.oc_lexer.proofs.defines.define.Goals as goal

pub returns : goal.returns
returns c = btree_map_updates_str c.args.name.now c.args.known.now c.insert.new.self (Some c.args.literal) c.in_ok-insert.ensures.updates
