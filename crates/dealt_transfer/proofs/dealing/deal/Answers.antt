use Rattle.std.proofs.Common.{rules}
use Rattle.dealt_transfer.proofs.Opening.{matched, sender_count, receiver_count}
use Rattle.dealt_transfer.proofs.dealing.deal.Goals as goal

pub returns-clause-sender : goal.returns-clause-sender
returns-clause-sender c = search rules

pub returns-clause-receiver : goal.returns-clause-receiver
returns-clause-receiver c = search rules

pub returns-clause-matched : goal.returns-clause-matched
returns-clause-matched c = matched _ _ c.args.key.now c.args.count (returns-clause-sender c) (returns-clause-receiver c)

pub returns-clause-counts : goal.returns-clause-counts
returns-clause-counts c = (sender_count _ c.args.key.now c.args.count (returns-clause-sender c), receiver_count _ c.args.key.now c.args.count (returns-clause-receiver c))
