use Rattle.std.proofs.Common.{◌≡◌, ◌+◌, ◌*◌, ◌≤◌, ℕ, List, Bool, length, take, drop, sym, ap, subst, ◌∙◌, arith}
use Rattle.std.specs.List.{flat_map}
use Rattle.std.proofs.lemmas.Option.{none-some}
use Rattle.std.proofs.lemmas.List.FromFn.{length-map-range_with_len}
use Rattle.oc_values.specs.Packing.{bit_in, byte_count, pack, unpack}
use Rattle.dealt_transfer.specs.Files.{Half2, label_bytes}
use Rattle.dealt_transfer.specs.Faults.{count_at}
use Rattle.oc_values.proofs.Packs.{IsBytes}
use Rattle.dealt_transfer.proofs.Faults.{receiver_passes}
use Rattle.dealt_transfer.proofs.Spelled.{receiver_read, same_receiver, receiver_faultless, bits_read}
use Rattle.dealt_transfer.proofs.reading.read_receiver_half.Goals as goal

pub returns-in-Some-clause-again : goal.returns-in-Some-clause-again
returns-in-Some-clause-again c half h =
    none-some _ (sym (receiver_faultless c.args.bytes.now half h) ∙ sym c.receiver_fault.ensures ∙ c.in-Some.is)

pub count_at-count-requires : goal.count_at-count-requires
count_at-count-requires c = (receiver_passes c.args.bytes.now (sym c.receiver_fault.ensures ∙ c.in_default.is)).0.long

pub read_bits-requires : goal.read_bits-requires
read_bits-requires c =
    let p = (receiver_passes c.args.bytes.now (sym c.receiver_fault.ensures ∙ c.in_default.is)).1.long in
    subst (λ (n : ℕ). 25 + byte_count n ≤ length c.args.bytes.now) (sym c.count_at-count.ensures) p

pub read_labels-requires : goal.read_labels-requires
read_labels-requires c =
    (receiver_passes c.args.bytes.now (sym c.receiver_fault.ensures ∙ c.in_default.is)).2
    ∙ ap (λ (n : ℕ). 25 + byte_count n + 16 * n) (sym c.count_at-count.ensures) ∙ ap (λ (k : ℕ). 25 + k + 16 * c.count_at-count.result) (sym c.byte_count.ensures)

pub sixteen_at-requires : goal.sixteen_at-requires
sixteen_at-requires c = let p = (receiver_passes c.args.bytes.now (sym c.receiver_fault.ensures ∙ c.in_default.is)).0.long in omega (arith, p)

pub invariant_of-result : goal.invariant_of-result
invariant_of-result c = record {
  one_length = ap length c.in_ok-bits.ensures ∙ length-map-range_with_len (bit_in (drop 25 c.args.bytes.now)) 0 c.count_at-count.result ∙ sym c.in_ok-pads.ensures.count;
}

pub returns-clause-reads : goal.returns-clause-reads
returns-clause-reads c =
    let bytes = c.args.bytes.now in
    let n : ℕ = c.count_at-count.result in
    let count : n ≡ count_at 21 bytes = c.count_at-count.ensures in
    let passes = receiver_passes bytes (sym c.receiver_fault.ensures ∙ c.in_default.is) in
    let fits : IsBytes bytes = λ i. omega (arith, c.type_inv.bytes i) in
    let bits : List Bool = c.in_ok-bits.bits in
    let pads : List ℕ = c.in_ok-pads.pads in
    let bits_are : bits ≡ unpack (count_at 21 bytes) (drop 25 bytes) = c.in_ok-bits.ensures ∙ ap (λ (k : ℕ). unpack k (drop 25 bytes)) count in
    let packed : pack bits ≡ take (byte_count (count_at 21 bytes)) (drop 25 bytes) = ap pack bits_are ∙ bits_read bytes fits passes.1 in
    let spelled : flat_map label_bytes pads ≡ drop (25 + byte_count (count_at 21 bytes)) bytes =
    c.in_ok-pads.ensures.bytes ∙ ap (λ (k : ℕ). drop (25 + k) bytes) (c.byte_count.ensures ∙ ap byte_count count) in
    let size : length bits ≡ length pads = ap length c.in_ok-bits.ensures ∙ length-map-range_with_len (bit_in (drop 25 bytes)) 0 n ∙ sym c.in_ok-pads.ensures.count in
    let half = receiver_read bytes bits pads fits passes.0 packed spelled size (c.in_ok-pads.ensures.count ∙ count) c.in_ok-pads.ensures.pads in
    subst (λ (tag : List ℕ). Half2 bytes (record { tag = tag; bits = bits; pads = pads })) (sym c.sixteen_at.ensures) half

pub returns-clause-again : goal.returns-clause-again
returns-clause-again c half h = same_receiver c.args.bytes.now _ half (returns-clause-reads c) h
