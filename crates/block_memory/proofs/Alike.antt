-- Each law of memory at any two contents, and at integers against operands.
use Rattle.std.proofs.Common.{◌≡◌, refl, pos, List, Option}
use Rattle.oc_values.specs.declared.integers.IntKind.{IntKind}
use Rattle.oc_cells.specs.declared.memory.Block.{Block}
use Rattle.oc_cells.specs.Memory.{is_live}
use Rattle.oc_cells.specs.Joined.{SameOption, nothing, some, SameBlock, lives, gones, SameMemory}
use Rattle.oc_cells.proofs.Joined.{cell_same, load_same, storable_same, store_same, put_same, offset_same, ended_same, free_same, make_copies_same, living_same, length_same, get_same}
use Rattle.oc_cells.proofs.Copied.{copyable_same, copy_same}
use Rattle.oc_cells.proofs.Formed.{zero_of_kind}
use Rattle.block_memory.specs.Laws.{AnswerAlike, known, OperandsAgree}

live_alike : {H K : Type 0} {R : IntKind → H → K → Type 0} {a : Option (Block H)} {b : Option (Block K)} → SameOption (SameBlock R) a b → is_live a ≡ is_live b
live_alike nothing = refl
live_alike (some (lives p)) = refl
live_alike (some gones) = refl

pub answer_alike : {H K : Type 0} {R : IntKind → H → K → Type 0} (zero_of : IntKind → H) (nought_of : IntKind → K) → ((k : IntKind) → R k (zero_of k) (nought_of k)) → {m : List (Block H)} {n : List (Block K)} → SameMemory R m n → AnswerAlike R zero_of nought_of m n
answer_alike zero_of nought_of zeros s = record {
  cells = λ at. cell_same s at;
  loads = λ at leaf. load_same s at leaf;
  writable = λ at leaf. storable_same s at leaf;
  stores = λ at leaf v w r. store_same s at leaf r;
  puts = λ at k v w fit r. put_same s at k fit r;
  offsets = λ at amount size. offset_same s at amount size;
  checks = λ to from leaves. copyable_same s to from leaves;
  copies = λ to from leaves. copy_same s to from leaves;
  ends = λ block. ended_same s block;
  frees = λ at. free_same s at;
  makes = λ limit allocated leaves count. make_copies_same zero_of nought_of zeros limit allocated s leaves count;
  counts = living_same s;
  numbers = length_same s;
  lives = λ block. live_alike (get_same s block);
}

pub agree : OperandsAgree
agree values m n s = answer_alike (λ k. pos 0) (λ k. known k (pos 0)) (λ k. record { value = refl; of_kind = zero_of_kind k }) s
