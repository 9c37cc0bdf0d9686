-- A file without a form fault is the file of the half that is read of it, and no other half has this file; the file of
-- a half has no form fault.
use Rattle.std.proofs.Common.{ℕ, ◌+◌, ◌*◌, ◌≡◌, ◌<◌, ◌≤◌, Bool, true, false, cond, eqb, ltb, List, [], ◌∷◌, ◌++◌, length, take, drop, get_or, Option, Some, None, refl, sym, ap, ◌∙◌, subst, arith, append_assoc, length-append}
use Rattle.std.specs.Prelude.{not}
use Rattle.std.specs.Str.{bytes_eq}
use Rattle.std.specs.List.{flat_map, AllByRecursion}
use Rattle.std.proofs.lemmas.Bool.{le-ltb}
use Rattle.std.proofs.lemmas.Slice.Eq.{bytes_eq-Decides}
use Rattle.std.proofs.lemmas.List.{take-append-drop, length-take, length-drop, get_or-drop, take_at, drop_at, drop-drop, flat_map_more, take_more}
use Rattle.std.proofs.Math.Seq.{drop-cons}
use Rattle.dealt_transfer.specs.declared.half.SenderHalf.{SenderHalf}
use Rattle.dealt_transfer.specs.Halves.{most_transfers, IsLabel, IsPair, Receiver}
use Rattle.oc_values.specs.Packing.{byte_count, pack, unpack, padding_set}
use Rattle.dealt_transfer.specs.Files.{opening, sender_magic, receiver_magic, number_bytes, label_bytes, pair_bytes, sender_file, receiver_file, Half1, Half2}
use Rattle.dealt_transfer.specs.Faults.{first_found, opening_checks, size_checks, bits_checks, count_at, sender_size, receiver_size, sender_fault, receiver_fault}
use Rattle.byteorder.specs.Endian.{big_number}
use Rattle.byteorder.specs.Numbers.{big_number-reads_back}
use Rattle.dealt_transfer.proofs.Bytes.{big_bytes-again}
use Rattle.dealt_transfer.proofs.Pieces.{piece, peel, pairs_same, labels_same, length-pairs, length-labels}
use Rattle.oc_values.proofs.Packs.{IsBytes, IsBytes-drop, pack_same, length-pack, padding_none_of, pack-unpack}
use Rattle.dealt_transfer.proofs.Faults.{Fault, IsOpened, HasBits, sender_sized, receiver_sized}

-- ---- what is read

-- a file that is opened so begins so
opened_is : (magic : List ℕ) (at : ℕ) (bytes : List ℕ) → IsOpened magic at bytes → bytes ≡ opening magic ++ drop 5 bytes
opened_is magic at bytes o =
    let lt : 4 < length bytes = omega (arith, o.longer) in
    let rest : drop 4 bytes ≡ 1 ∷ drop 5 bytes = drop-cons bytes 4 0 lt ∙ ap (λ (b : ℕ). b ∷ drop 5 bytes) o.version in
    sym (take-append-drop 4 bytes) ∙ ap (λ (t : List ℕ). t ++ drop 4 bytes) o.magic_is ∙ ap (λ (t : List ℕ). magic ++ t) rest ∙ sym (append_assoc magic (1 ∷ []) (drop 5 bytes))

-- the number of transfers stands there
number_is : (at : ℕ) (bytes : List ℕ) → IsBytes bytes → at + 4 ≤ length bytes → number_bytes (count_at at bytes) ≡ take 4 (drop at bytes)
number_is at bytes fits long =
    big_bytes-again (drop at bytes) (IsBytes-drop at bytes fits) (omega (arith, long, length-drop at bytes))

pub sender_read : (bytes : List ℕ) (pads : List (ℕ × ℕ)) → IsBytes bytes → IsOpened sender_magic 53 bytes
    → flat_map pair_bytes pads ≡ drop 57 bytes → length pads ≡ count_at 53 bytes → AllByRecursion IsPair pads
    → Half1 bytes (record { tag = take 16 (drop 5 bytes); coin_key = take 32 (drop 21 bytes); pads = pads })
unfolding sender_file
sender_read bytes pads fits o spelled count labels =
    let number : number_bytes (length pads) ≡ take 4 (drop 53 bytes) = ap number_bytes count ∙ number_is 53 bytes fits o.long in
    let last : number_bytes (length pads) ++ flat_map pair_bytes pads ≡ drop 53 bytes =
    ap (λ (t : List ℕ). t ++ flat_map pair_bytes pads) number ∙ ap (λ (t : List ℕ). take 4 (drop 53 bytes) ++ t) spelled ∙ sym (piece 53 4 bytes) in
    let key : take 32 (drop 21 bytes) ++ (number_bytes (length pads) ++ flat_map pair_bytes pads) ≡ drop 21 bytes =
    ap (λ (t : List ℕ). take 32 (drop 21 bytes) ++ t) last ∙ sym (piece 21 32 bytes) in
    let tag : take 16 (drop 5 bytes) ++ (take 32 (drop 21 bytes) ++ (number_bytes (length pads) ++ flat_map pair_bytes pads)) ≡ drop 5 bytes =
    ap (λ (t : List ℕ). take 16 (drop 5 bytes) ++ t) key ∙ sym (piece 5 16 bytes) in
    let whole = opened_is sender_magic 53 bytes o ∙ ap (λ (t : List ℕ). opening sender_magic ++ t) (sym tag) in
    let long = o.long in (
      record {
        tag = omega (arith, long, length-take 16 (drop 5 bytes), length-drop 5 bytes);
        coin_key = omega (arith, long, length-take 32 (drop 21 bytes), length-drop 21 bytes);
        count = omega (arith, count, o.count);
        pads = labels;
      },
      whole,
    )

pub receiver_read : (bytes : List ℕ) (bits : List Bool) (pads : List ℕ) → IsBytes bytes → IsOpened receiver_magic 21 bytes
    → pack bits ≡ take (byte_count (count_at 21 bytes)) (drop 25 bytes)
    → flat_map label_bytes pads ≡ drop (25 + byte_count (count_at 21 bytes)) bytes
    → length bits ≡ length pads → length pads ≡ count_at 21 bytes → AllByRecursion IsLabel pads
    → Half2 bytes (record { tag = take 16 (drop 5 bytes); bits = bits; pads = pads })
unfolding receiver_file
receiver_read bytes bits pads fits o packed spelled size count labels =
    let number : number_bytes (length pads) ≡ take 4 (drop 21 bytes) = ap number_bytes count ∙ number_is 21 bytes fits o.long in
    let k : ℕ = byte_count (count_at 21 bytes) in
    let last : pack bits ++ flat_map label_bytes pads ≡ drop 25 bytes =
    ap (λ (t : List ℕ). t ++ flat_map label_bytes pads) packed ∙ ap (λ (t : List ℕ). take k (drop 25 bytes) ++ t) spelled ∙ sym (piece 25 k bytes) in
    let counted : number_bytes (length pads) ++ (pack bits ++ flat_map label_bytes pads) ≡ drop 21 bytes =
    ap (λ (t : List ℕ). t ++ (pack bits ++ flat_map label_bytes pads)) number ∙ ap (λ (t : List ℕ). take 4 (drop 21 bytes) ++ t) last ∙ sym (piece 21 4 bytes) in
    let tag : take 16 (drop 5 bytes) ++ (number_bytes (length pads) ++ (pack bits ++ flat_map label_bytes pads)) ≡ drop 5 bytes =
    ap (λ (t : List ℕ). take 16 (drop 5 bytes) ++ t) counted ∙ sym (piece 5 16 bytes) in
    let whole = opened_is receiver_magic 21 bytes o ∙ ap (λ (t : List ℕ). opening receiver_magic ++ t) (sym tag) in
    let long = o.long in (
      record {
        tag = omega (arith, long, length-take 16 (drop 5 bytes), length-drop 5 bytes);
        count = omega (arith, count, o.count);
        bits = size;
        pads = labels;
      },
      whole,
    )

-- ---- no other half has the file

number_bytes-length : (n : ℕ) → length (number_bytes n) ≡ 4
number_bytes-length n = refl

number_again : (n : ℕ) (rest : List ℕ) → n ≤ most_transfers → big_number 4 (number_bytes n ++ rest) ≡ n
number_again n rest le = big_number-reads_back 4 n rest (omega (arith, le))

numbers_same : (m n : ℕ) → m ≤ most_transfers → n ≤ most_transfers → number_bytes m ≡ number_bytes n → m ≡ n
numbers_same m n hm hn e = sym (number_again m [] hm) ∙ ap (λ (t : List ℕ). big_number 4 (t ++ [])) e ∙ number_again n [] hn

senders_equal : (p q : SenderHalf) → p.tag ≡ q.tag → p.coin_key ≡ q.coin_key → p.pads ≡ q.pads → p ≡ q
senders_equal p q e f g = λ i. record { tag = e i; coin_key = f i; pads = g i }

receivers_equal : (p q : Receiver) → p.tag ≡ q.tag → p.bits ≡ q.bits → p.pads ≡ q.pads → p ≡ q
receivers_equal p q e f g = λ i. record { tag = e i; bits = f i; pads = g i }

pub same_sender : (bytes : List ℕ) (p q : SenderHalf) → Half1 bytes p → Half1 bytes q → p ≡ q
unfolding sender_file
same_sender bytes p q hp hq =
    let one = peel (opening sender_magic) (opening sender_magic)
    (p.tag ++ (p.coin_key ++ (number_bytes (length p.pads) ++ flat_map pair_bytes p.pads)))
    (q.tag ++ (q.coin_key ++ (number_bytes (length q.pads) ++ flat_map pair_bytes q.pads))) refl (sym hp.1 ∙ hq.1) in
    let two = peel p.tag q.tag
    (p.coin_key ++ (number_bytes (length p.pads) ++ flat_map pair_bytes p.pads))
    (q.coin_key ++ (number_bytes (length q.pads) ++ flat_map pair_bytes q.pads)) (hp.0.tag ∙ sym hq.0.tag) one.1 in
    let three = peel p.coin_key q.coin_key (number_bytes (length p.pads) ++ flat_map pair_bytes p.pads) (number_bytes (length q.pads) ++ flat_map pair_bytes q.pads) (hp.0.coin_key ∙ sym hq.0.coin_key) two.1 in
    let four = peel (number_bytes (length p.pads)) (number_bytes (length q.pads)) (flat_map pair_bytes p.pads) (flat_map pair_bytes q.pads) refl three.1 in
    senders_equal p q two.0 three.0 (pairs_same p.pads q.pads hp.0.pads hq.0.pads four.1)

pub same_receiver : (bytes : List ℕ) (p q : Receiver) → Half2 bytes p → Half2 bytes q → p ≡ q
unfolding receiver_file
same_receiver bytes p q hp hq =
    let one = peel (opening receiver_magic) (opening receiver_magic)
    (p.tag ++ (number_bytes (length p.pads) ++ (pack p.bits ++ flat_map label_bytes p.pads)))
    (q.tag ++ (number_bytes (length q.pads) ++ (pack q.bits ++ flat_map label_bytes q.pads))) refl (sym hp.1 ∙ hq.1) in
    let two = peel p.tag q.tag
    (number_bytes (length p.pads) ++ (pack p.bits ++ flat_map label_bytes p.pads))
    (number_bytes (length q.pads) ++ (pack q.bits ++ flat_map label_bytes q.pads)) (hp.0.tag ∙ sym hq.0.tag) one.1 in
    let three = peel (number_bytes (length p.pads)) (number_bytes (length q.pads)) (pack p.bits ++ flat_map label_bytes p.pads) (pack q.bits ++ flat_map label_bytes q.pads) refl two.1 in
    let count : length p.pads ≡ length q.pads = numbers_same (length p.pads) (length q.pads) hp.0.count hq.0.count three.0 in
    let bits : length p.bits ≡ length q.bits = hp.0.bits ∙ count ∙ sym hq.0.bits in
    let four = peel (pack p.bits) (pack q.bits) (flat_map label_bytes p.pads) (flat_map label_bytes q.pads) (length-pack p.bits ∙ ap byte_count bits ∙ sym (length-pack q.bits)) three.1 in
    receivers_equal p q two.0 (pack_same p.bits q.bits bits four.0) (labels_same p.pads q.pads hp.0.pads hq.0.pads four.1)

-- ---- the file of a half has no form fault

not_true : (b : Bool) → b ≡ true → not b ≡ false
not_true true e = refl
not_true false e = absurd cc

found_none : (b : Bool) (f : Fault) (rest : Option Fault) → b ≡ false → rest ≡ None → cond b (Some f) rest ≡ None
found_none true f rest e h = absurd cc
found_none false f rest e h = h

opening_none : (magic : List ℕ) (at : ℕ) (bytes : List ℕ) → IsOpened magic at bytes → first_found (opening_checks magic at bytes) ≡ None
opening_none magic at bytes o =
    let one : ltb (length bytes) 4 ≡ false = le-ltb _ _ (omega (arith, o.longer)) in
    let two : bytes_eq (take 4 bytes) magic ≡ true = (bytes_eq-Decides (take 4 bytes) magic).1 o.magic_is in
    let three : ltb (length bytes) 5 ≡ false = le-ltb _ _ o.longer in
    let four : eqb (get_or bytes 4 0) 1 ≡ true = ap (λ (b : ℕ). eqb b 1) o.version in
    let five : ltb (length bytes) (at + 4) ≡ false = le-ltb _ _ o.long in
    let six : ltb most_transfers (count_at at bytes) ≡ false = le-ltb _ _ o.count in
    found_none _ _ _ one (found_none _ _ _ (not_true _ two) (found_none _ _ _ three (found_none _ _ _ (not_true _ four) (found_none _ _ _ five (found_none _ _ _ six refl)))))

size_none : (size : ℕ) (bytes : List ℕ) → length bytes ≡ size → first_found (size_checks size bytes) ≡ None
size_none size bytes e =
    let one : ltb (length bytes) size ≡ false = le-ltb _ _ (omega (arith, e)) in
    let two : ltb size (length bytes) ≡ false = le-ltb _ _ (omega (arith, e)) in
    found_none _ _ _ one (found_none _ _ _ two refl)

bits_none : (bits at : ℕ) (bytes : List ℕ) → HasBits bits at bytes → first_found (bits_checks bits at bytes) ≡ None
bits_none bits at bytes h =
    found_none _ _ _ (le-ltb _ _ h.long)
    (found_none _ _ _ h.padded refl)

-- a file of an opening, fields of this length, and then a number and more
pub opened : (magic fields rest bytes : List ℕ) (n at : ℕ) → length magic ≡ 4 → at ≡ 5 + length fields → n ≤ most_transfers
    → bytes ≡ opening magic ++ (fields ++ (number_bytes n ++ rest)) → IsOpened magic at bytes × (count_at at bytes ≡ n) × (drop (at + 4) bytes ≡ rest)
opened magic fields rest bytes n at four place few e =
    let behind : List ℕ = fields ++ (number_bytes n ++ rest) in
    let open_size : length (opening magic) ≡ 5 = length-append magic (1 ∷ []) ∙ omega (arith, four) in
    let size : length bytes ≡ at + 4 + length rest = ap length e ∙ length-append (opening magic) behind
    ∙ omega (arith, open_size, length-append fields (number_bytes n ++ rest), length-append (number_bytes n) rest, number_bytes-length n, place) in
    let split : bytes ≡ magic ++ (1 ∷ behind) = e ∙ append_assoc magic (1 ∷ []) behind in
    let front : take 4 bytes ≡ magic = ap (take 4) split ∙ take_at magic (1 ∷ behind) 4 four in
    let version : get_or bytes 4 0 ≡ 1 = sym (get_or-drop 4 bytes 0 0) ∙ ap (λ (t : List ℕ). get_or t 0 0) (ap (drop 4) split ∙ drop_at magic (1 ∷ behind) 4 four) in
    let regrouped : bytes ≡ (opening magic ++ fields) ++ (number_bytes n ++ rest) = e ∙ sym (append_assoc (opening magic) fields (number_bytes n ++ rest)) in
    let at_number : drop at bytes ≡ number_bytes n ++ rest = ap (drop at) regrouped ∙ drop_at (opening magic ++ fields) (number_bytes n ++ rest) at (length-append (opening magic) fields ∙ omega (arith, open_size, place)) in
    let count : count_at at bytes ≡ n = ap (big_number 4) at_number ∙ number_again n rest few in
    let after : drop (at + 4) bytes ≡ rest = sym (drop-drop 4 at bytes) ∙ ap (drop 4) at_number ∙ drop_at (number_bytes n) rest 4 (number_bytes-length n) in
    (record { long = omega (arith, size); magic_is = front; longer = omega (arith, size, place); version = version; count = omega (arith, count, few) }, count, after)

pub sender_faultless : (bytes : List ℕ) (half : SenderHalf) → Half1 bytes half → sender_fault bytes ≡ None
unfolding sender_file
sender_faultless bytes half h =
    let n : ℕ = length half.pads in
    let pads : List ℕ = flat_map pair_bytes half.pads in
    let joined : bytes ≡ opening sender_magic ++ ((half.tag ++ half.coin_key) ++ (number_bytes n ++ pads)) =
    h.1 ∙ ap (λ (t : List ℕ). opening sender_magic ++ t) (sym (append_assoc half.tag half.coin_key (number_bytes n ++ pads))) in
    let o = opened sender_magic (half.tag ++ half.coin_key) pads bytes n 53 refl (omega (arith, length-append half.tag half.coin_key, h.0.tag, h.0.coin_key)) h.0.count joined in
    let long = o.0.long in
    let rest : length (drop 57 bytes) ≡ 32 * n = ap length o.2 ∙ length-pairs half.pads in
    let size : length bytes ≡ sender_size (count_at 53 bytes) = omega (arith, long, rest, length-drop 57 bytes, o.1) in
    sender_sized bytes (opening_none sender_magic 53 bytes o.0) ∙ size_none (sender_size (count_at 53 bytes)) bytes size

pub receiver_faultless : (bytes : List ℕ) (half : Receiver) → Half2 bytes half → receiver_fault bytes ≡ None
unfolding receiver_file
receiver_faultless bytes half h =
    let n : ℕ = length half.pads in
    let pads : List ℕ = flat_map label_bytes half.pads in
    let o = opened receiver_magic half.tag (pack half.bits ++ pads) bytes n 21 refl (omega (arith, h.0.tag)) h.0.count h.1 in
    let long = o.0.long in
    let bytes_of_bits : length (pack half.bits) ≡ byte_count n = length-pack half.bits ∙ ap byte_count h.0.bits in
    let rest : length (drop 25 bytes) ≡ byte_count n + 16 * n = ap length o.2 ∙ length-append (pack half.bits) pads ∙ omega (arith, bytes_of_bits, length-labels half.pads) in
    let size : length bytes ≡ 25 + byte_count n + 16 * n = omega (arith, long, rest, length-drop 25 bytes) in
    let front : take (byte_count n) (drop 25 bytes) ≡ pack half.bits = ap (take (byte_count n)) o.2 ∙ take_at (pack half.bits) pads (byte_count n) bytes_of_bits in
    let padded : padding_set n (drop 25 bytes) ≡ false = padding_none_of n (drop 25 bytes) half.bits h.0.bits front in
    let bits : HasBits (count_at 21 bytes) 25 bytes = subst (λ (k : ℕ). HasBits k 25 bytes) (sym o.1) (record { long = omega (arith, size); padded = padded }) in
    let sized : length bytes ≡ receiver_size (count_at 21 bytes) = size ∙ ap receiver_size (sym o.1) in
    receiver_sized bytes (opening_none receiver_magic 21 bytes o.0) (bits_none (count_at 21 bytes) 25 bytes bits) ∙ size_none (receiver_size (count_at 21 bytes)) bytes sized

-- ---- what is written, field after field

pub sender_written : (half : SenderHalf) (start one two three four five number pads : List ℕ) → start ≡ [] → one ≡ start ++ opening sender_magic → two ≡ one ++ half.tag → three ≡ two ++ half.coin_key
    → four ≡ three ++ number → number ≡ number_bytes (length half.pads) → five ≡ four ++ pads → pads ≡ flat_map pair_bytes half.pads
    → five ≡ sender_file half
unfolding sender_file
sender_written half start one two three four five number pads e0 e1 e2 e3 e4 en e5 ep =
    let o : List ℕ = opening sender_magic in
    let t : List ℕ = half.tag in
    let k : List ℕ = half.coin_key in
    let n : List ℕ = number_bytes (length half.pads) in
    let p : List ℕ = flat_map pair_bytes half.pads in
    let whole : five ≡ (((o ++ t) ++ k) ++ n) ++ p =
    e5 ∙ ap (λ (x : List ℕ). four ++ x) ep ∙ ap (λ (x : List ℕ). x ++ p) (e4 ∙ ap (λ (x : List ℕ). three ++ x) en ∙ ap (λ (x : List ℕ). x ++ n) (e3 ∙ ap (λ (x : List ℕ). x ++ k) (e2 ∙ ap (λ (x : List ℕ). x ++ t) (e1 ∙ ap (λ (x : List ℕ). x ++ o) e0)))) in
    whole ∙ append_assoc ((o ++ t) ++ k) n p ∙ append_assoc (o ++ t) k (n ++ p) ∙ append_assoc o t (k ++ (n ++ p))

pub receiver_written : (half : Receiver) (start one two three four five number bits pads : List ℕ) → start ≡ [] → one ≡ start ++ opening receiver_magic → two ≡ one ++ half.tag
    → three ≡ two ++ number → number ≡ number_bytes (length half.pads) → four ≡ three ++ bits → bits ≡ pack half.bits → five ≡ four ++ pads → pads ≡ flat_map label_bytes half.pads
    → five ≡ receiver_file half
unfolding receiver_file
receiver_written half start one two three four five number bits pads e0 e1 e2 e3 en e4 eb e5 ep =
    let o : List ℕ = opening receiver_magic in
    let t : List ℕ = half.tag in
    let b : List ℕ = pack half.bits in
    let n : List ℕ = number_bytes (length half.pads) in
    let p : List ℕ = flat_map label_bytes half.pads in
    let whole : five ≡ (((o ++ t) ++ n) ++ b) ++ p =
    e5 ∙ ap (λ (x : List ℕ). four ++ x) ep ∙ ap (λ (x : List ℕ). x ++ p) (e4 ∙ ap (λ (x : List ℕ). three ++ x) eb ∙ ap (λ (x : List ℕ). x ++ b) (e3 ∙ ap (λ (x : List ℕ). two ++ x) en ∙ ap (λ (x : List ℕ). x ++ n) (e2 ∙ ap (λ (x : List ℕ). x ++ t) (e1 ∙ ap (λ (x : List ℕ). x ++ o) e0)))) in
    whole ∙ append_assoc ((o ++ t) ++ n) b p ∙ append_assoc (o ++ t) n (b ++ p) ∙ append_assoc o t (n ++ (b ++ p))

-- one more pair was written
pub pairs_put : (start before between after first second : List ℕ) (pairs : List (ℕ × ℕ)) (i : ℕ) → i < length pairs → before ≡ start ++ flat_map pair_bytes (take i pairs)
    → between ≡ before ++ first → first ≡ label_bytes (get_or pairs i (0, 0)).0 → after ≡ between ++ second → second ≡ label_bytes (get_or pairs i (0, 0)).1
    → after ≡ start ++ flat_map pair_bytes (take (i + 1) pairs)
pairs_put start before between after first second pairs i lt e h hf k ks =
    let pair : ℕ × ℕ = get_or pairs i (0, 0) in
    k ∙ ap (λ (x : List ℕ). between ++ x) ks ∙ ap (λ (x : List ℕ). x ++ label_bytes pair.1) (h ∙ ap (λ (x : List ℕ). before ++ x) hf) ∙ append_assoc before (label_bytes pair.0) (label_bytes pair.1)
    ∙ ap (λ (x : List ℕ). x ++ pair_bytes pair) e ∙ flat_map_more pair_bytes start (take i pairs) pair
    ∙ ap (λ (xs : List (ℕ × ℕ)). start ++ flat_map pair_bytes xs) (sym (take_more pairs i (0, 0) lt))

-- the bits that were read of a file are packed into its bytes
pub bits_read : (bytes : List ℕ) → IsBytes bytes → HasBits (count_at 21 bytes) 25 bytes
    → pack (unpack (count_at 21 bytes) (drop 25 bytes)) ≡ take (byte_count (count_at 21 bytes)) (drop 25 bytes)
bits_read bytes fits h =
    let long = h.long in
    pack-unpack (count_at 21 bytes) (drop 25 bytes) (IsBytes-drop 25 bytes fits) (omega (arith, long, length-drop 25 bytes)) h.padded
