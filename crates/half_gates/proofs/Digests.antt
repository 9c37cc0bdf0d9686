-- Lemmas on the hash of a label.
use Rattle.std.proofs.Common.{◌≡◌, ℕ, ◌<◌, List, take, slice_index, refl, sym, lit<, ap, ◌∙◌, ◌++◌}
use Rattle.std.proofs.lemmas.List.{get_or-take}
use Rattle.std.specs.Int.{w64, w128, from_le_bytes, to_le_bytes, to_be_bytes}
use Rattle.sha2.specs.Sha256.{sha256}
use Rattle.half_gates.specs.Hash.{hash_of}

-- a number of 16 bytes reads the first 16 bytes alone
pub from_le_bytes-take : (d : List ℕ) → from_le_bytes w128 (take 16 d) ≡ from_le_bytes w128 d
from_le_bytes-take d =
    let at : (i : ℕ) → i < 16 → slice_index (take 16 d) i ≡ slice_index d i = λ i h. get_or-take 16 d i 0 h in
    rw (
      at 0 (lit< tt),
      at 1 (lit< tt),
      at 2 (lit< tt),
      at 3 (lit< tt),
      at 4 (lit< tt),
      at 5 (lit< tt),
      at 6 (lit< tt),
      at 7 (lit< tt),
      at 8 (lit< tt),
      at 9 (lit< tt),
      at 10 (lit< tt),
      at 11 (lit< tt),
      at 12 (lit< tt),
      at 13 (lit< tt),
      at 14 (lit< tt),
      at 15 (lit< tt),
    ) refl

-- the hash, by the steps of a hasher that takes the label's bytes and then the tweak's
pub hash_of-steps : (label tweak x : ℕ) (ls ts d : List ℕ) → ls ≡ to_le_bytes w128 label → ts ≡ to_be_bytes w64 tweak
    → d ≡ sha256 (ls ++ ts) → x ≡ from_le_bytes w128 d → x ≡ hash_of label tweak
unfolding hash_of
hash_of-steps label tweak x ls ts d hl ht hd hx =
    hx ∙ sym (from_le_bytes-take d) ∙ ap (λ m. from_le_bytes w128 (take 16 m)) (hd ∙ ap (λ m. sha256 (m ++ ts)) hl ∙ ap (λ m. sha256 (to_le_bytes w128 label ++ m)) ht)
