use Rattle.std.proofs.Common.{◌≡◌, ◌+◌, ◌%◌, ◌^◌, ◌<◌, ℕ, List, eqb, ap, ◌∙◌, arith}
use Rattle.rand_chacha.specs.ChaCha.{ChaCha}
use Rattle.dealt_transfer.specs.Dealing.{place_of, pair_at, bit_at, pad_at, chosen}
use Rattle.dealt_transfer.specs.Labels.{word, label_at}
use Rattle.dealt_transfer.proofs.Opening.{dealt_more}
use Rattle.dealt_transfer.proofs.dealing.deal_transfers.Goals as goal

pub loop-preserved : goal.loop-preserved
loop-preserved c =
    let key : List ℕ = c.args.rng.now.key in
    let i : ℕ = c.loop.counter in
    let keep = c.loop.invariant in
    let one = c.next_label-first.ensures.place in
    let two = c.next_label-second.ensures.place in
    let three = c.next.ensures.place in
    let key_1 : c.next_label-first.new.rng.key ≡ key = ap (λ (g : ChaCha). g.key) one ∙ keep.key in
    let key_2 : c.next_label-second.new.rng.key ≡ key = ap (λ (g : ChaCha). g.key) two ∙ key_1 in
    let few : i < 2 ^ 32 = omega arith in
    let at_1 : c.next_label-first.new.rng.word_pos ≡ place_of i + 4 = ap (λ (g : ChaCha). g.word_pos) one ∙ (let p = keep.place in omega (arith, p, few)) in
    let at_2 : c.next_label-second.new.rng.word_pos ≡ place_of i + 8 = ap (λ (g : ChaCha). g.word_pos) two ∙ (let p = at_1 in omega (arith, p, few)) in
    let first : c.next_label-first.result ≡ label_at key (place_of i) =
    c.next_label-first.ensures.label ∙ ap (λ (k : List ℕ). label_at k c.loop.rng.word_pos) keep.key ∙ ap (label_at key) keep.place in
    let second : c.next_label-second.result ≡ label_at key (place_of i + 4) =
    c.next_label-second.ensures.label ∙ ap (λ (k : List ℕ). label_at k c.next_label-first.new.rng.word_pos) key_1 ∙ ap (label_at key) at_1 in
    let third : c.next.result ≡ word key (place_of i + 8) =
    c.next.ensures.word ∙ ap (λ (k : List ℕ). word k c.next_label-second.new.rng.word_pos) key_2 ∙ ap (word key) at_2 in
    let pair : (ℕ × ℕ) = (c.next_label-first.result, c.next_label-second.result) in
    let pair_is : pair ≡ pair_at key i = λ j. (first j, second j) in
    let bit_is : eqb (c.next.result % 2) 1 ≡ bit_at key i = ap (λ (w : ℕ). eqb (w % 2) 1) third in
    let pad_is : c.chosen.result ≡ pad_at key i =
    c.chosen.ensures ∙ ap (λ (p : ℕ × ℕ). chosen p (eqb (c.next.result % 2) 1)) pair_is ∙ ap (chosen (pair_at key i)) bit_is in
    record {
      stream = ap (λ (g : ChaCha). g.stream) three ∙ ap (λ (g : ChaCha). g.stream) two ∙ ap (λ (g : ChaCha). g.stream) one ∙ keep.stream;
      place = ap (λ (g : ChaCha). g.word_pos) three ∙ omega (arith, at_2, few);
      key = ap (λ (g : ChaCha). g.key) three ∙ key_2;
      pairs = dealt_more (pair_at key) c.loop.pairs.items c.push.new.self.items pair i keep.pairs c.in_ok-push.ensures.items pair_is;
      bits = dealt_more (bit_at key) c.loop.bits.items c.push-in-loop.new.self.items (eqb (c.next.result % 2) 1) i keep.bits c.in_ok-push-2.ensures.items bit_is;
      pads = dealt_more (pad_at key) c.loop.pads.items c.push-in-loop-2.new.self.items c.chosen.result i keep.pads c.in_ok-push-3.ensures.items pad_is;
    }
