use Rattle.std.proofs.Common.{◌≡◌, map}
use Rattle.std.specs.List.{range_with_len}
use Rattle.dealt_transfer.specs.Dealing.{bit_at, pad_at, pair_at, place_of}
use Rattle.dealt_transfer.proofs.dealing.deal_transfers.Given as goal

abbrev pub invariant-loop : goal.invariant-loop
invariant-loop l = record {
  stream : l.rng.stream ≡ 0;
  place : l.rng.word_pos ≡ place_of l.counter;
  key : l.rng.key ≡ l.fn.rng.key;
  pairs : l.pairs.items ≡ map (pair_at l.fn.rng.key) (range_with_len 0 l.counter);
  bits : l.bits.items ≡ map (bit_at l.fn.rng.key) (range_with_len 0 l.counter);
  pads : l.pads.items ≡ map (pad_at l.fn.rng.key) (range_with_len 0 l.counter);
}
