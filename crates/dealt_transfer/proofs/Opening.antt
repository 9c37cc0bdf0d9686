-- What the receiver takes out of the sender's answer, and places that match.
use Rattle.std.proofs.Common.{ℕ, ◌≡◌, ◌<◌, ◌+◌, Bool, true, false, List, [], ◌∷◌, ◌++◌, length, get_or, refl, sym, ap, ◌∙◌, subst, arith, map}
use Rattle.std.specs.Prelude.{not, bit_xor, if◌then◌else◌}
use Rattle.std.specs.List.{range_with_len}
use Rattle.std.specs.Int.Bits.{xor_assoc, xor_self, xor_zero_r}
use Rattle.std.proofs.lemmas.List.FromFn.{length-map-range_with_len, get_or-map-range_with_len, map-range_with_len_more}
use Rattle.rand_chacha.specs.ChaCha.{key_of}
use Rattle.dealt_transfer.specs.declared.half.SenderHalf.{SenderHalf}
use Rattle.dealt_transfer.specs.Halves.{Receiver}
use Rattle.dealt_transfer.specs.Dealing.{chosen, pair_at, bit_at, pad_at, sender_dealt, receiver_dealt}
use Rattle.dealt_transfer.specs.Transfers.{Match, pads_of, bit_of, pad_of, turned, sent_bit, masked_pair}

xor_back : (m p : ℕ) → bit_xor (bit_xor m p) p ≡ m
xor_back m p = xor_assoc m p p ∙ ap (λ (n : ℕ). bit_xor m n) (xor_self p) ∙ xor_zero_r m

-- the pair of messages, each under one pad, opens to the chosen one
opens_at : (pads : ℕ × ℕ) (r choice : Bool) (m0 m1 : ℕ)
    → bit_xor (chosen (bit_xor m0 (chosen pads (turned choice r)), bit_xor m1 (chosen pads (not (turned choice r)))) choice) (chosen pads r) ≡ (if choice then m1 else m0)
opens_at pads true true m0 m1 = xor_back m1 pads.1
opens_at pads true false m0 m1 = xor_back m0 pads.1
opens_at pads false true m0 m1 = xor_back m1 pads.0
opens_at pads false false m0 m1 = xor_back m0 pads.0

pub opens : (sender : SenderHalf) (receiver : Receiver) (i : ℕ) (choice : Bool) (e0 e1 m0 m1 : ℕ) (pair : ℕ × ℕ) → pair ≡ (e0, e1) → Match sender receiver → i < length receiver.pads
    → pair ≡ masked_pair sender i (sent_bit receiver i choice) m0 m1
    → bit_xor (chosen (e0, e1) choice) (pad_of receiver i) ≡ (if choice then m1 else m0)
opens sender receiver i choice e0 e1 m0 m1 pair given h lt e =
    let pad : pad_of receiver i ≡ chosen (pads_of sender i) (bit_of receiver i) = h.pads i (let c = h.count in omega (arith, c)) in
    ap (λ (q : ℕ × ℕ). bit_xor (chosen q choice) (pad_of receiver i)) (sym given ∙ e)
    ∙ ap (λ (p : ℕ). bit_xor (chosen (masked_pair sender i (sent_bit receiver i choice) m0 m1) choice) p) pad
    ∙ opens_at (pads_of sender i) (bit_of receiver i) choice m0 m1

-- dealt halves match
pub dealt_match : (seed : List ℕ) (n : ℕ) → Match (sender_dealt seed n) (receiver_dealt seed n)
dealt_match seed n =
    let key = key_of seed in
    let count : length (map (pair_at key) (range_with_len 0 n)) ≡ n = length-map-range_with_len (pair_at key) 0 n in
    record {
      tag = refl;
      count = count ∙ sym (length-map-range_with_len (pad_at key) 0 n);
      pads = λ i lt.
          let below : i < n = omega (arith, count) in
          get_or-map-range_with_len (pad_at key) 0 n i i 0 below (omega arith)
          ∙ sym (ap (λ (p : ℕ × ℕ). chosen p (bit_at key i)) (get_or-map-range_with_len (pair_at key) 0 n i i (0, 0) below (omega arith)))
          ∙ sym (ap (chosen (get_or (map (pair_at key) (range_with_len 0 n)) i (0, 0))) (get_or-map-range_with_len (bit_at key) 0 n i i false below (omega arith)));
    }

pub matched : (sender : SenderHalf) (receiver : Receiver) (seed : List ℕ) (n : ℕ) → sender ≡ sender_dealt seed n → receiver ≡ receiver_dealt seed n → Match sender receiver
matched sender receiver seed n e f = subst (λ (s : SenderHalf). Match s receiver) (sym e) (subst (Match (sender_dealt seed n)) (sym f) (dealt_match seed n))

-- one more of what was dealt
pub dealt_more : {X : Type 0} (f : ℕ → X) (old new : List X) (x : X) (i : ℕ) → old ≡ map f (range_with_len 0 i) → new ≡ old ++ x ∷ [] → x ≡ f i → new ≡ map f (range_with_len 0 (i + 1))
dealt_more f old new x i e h is =
    h ∙ ap (λ y. old ++ y ∷ []) is ∙ ap (λ t. t ++ f i ∷ []) e ∙ sym (map-range_with_len_more f 0 i i (omega arith))

pub sender_count : (sender : SenderHalf) (seed : List ℕ) (n : ℕ) → sender ≡ sender_dealt seed n → length sender.pads ≡ n
sender_count sender seed n e = ap (λ (s : SenderHalf). length s.pads) e ∙ length-map-range_with_len (pair_at (key_of seed)) 0 n

pub receiver_count : (receiver : Receiver) (seed : List ℕ) (n : ℕ) → receiver ≡ receiver_dealt seed n → length receiver.pads ≡ n
receiver_count receiver seed n e = ap (λ (r : Receiver). length r.pads) e ∙ length-map-range_with_len (pad_at (key_of seed)) 0 n
