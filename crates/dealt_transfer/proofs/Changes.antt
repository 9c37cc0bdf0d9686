-- Why what transfers send is the same for other choices and other messages.
use Rattle.std.proofs.Common.{ℕ, zero, suc, ◌≡◌, Bool, true, false, List, [], ◌∷◌, length, refl, sym, ap, ◌∙◌, arith}
use Rattle.std.specs.Prelude.{bit_xor, slice_index_or}
use Rattle.std.specs.Int.Bits.{xor_assoc, xor_self}
use Rattle.std.proofs.lemmas.Nat.{xor_comm}
use Rattle.dealt_transfer.specs.Dealing.{chosen}
use Rattle.dealt_transfer.specs.Transfers.{turned}
use Rattle.dealt_transfer.specs.Hiding.{sent_all, remapped, remapped_all, apart, apart_all, masked, masked_all, chosen_all, ChoicesAreHidden, UnchosenIsHidden}

-- two numbers changed by the same bits differ as before
cancels : (a p x : ℕ) → bit_xor (bit_xor a x) (bit_xor p x) ≡ bit_xor a p
cancels a p x =
    xor_assoc a x (bit_xor p x)
    ∙ ap (λ t. bit_xor a t) (ap (λ t. bit_xor x t) (xor_comm p x) ∙ sym (xor_assoc x x p) ∙ ap (λ t. bit_xor t p) (xor_self x))

pub sent_same : (b c r : Bool) → turned c (remapped b c r) ≡ turned b r
sent_same false false false = refl
sent_same false false true = refl
sent_same false true false = refl
sent_same false true true = refl
sent_same true false false = refl
sent_same true false true = refl
sent_same true true false = refl
sent_same true true true = refl

back_again : (b c r : Bool) → remapped c b (remapped b c r) ≡ r
back_again false false false = refl
back_again false false true = refl
back_again false true false = refl
back_again false true true = refl
back_again true false false = refl
back_again true false true = refl
back_again true true false = refl
back_again true true true = refl

both_same : {A : Type 0} (a b : A) (xs ys : List A) → a ≡ b → xs ≡ ys → a ∷ xs ≡ b ∷ ys
both_same a b xs ys e f = rw (e, f) refl

sent_so : (bs cs rs : List Bool) → length bs ≡ length rs → length cs ≡ length rs → sent_all cs (remapped_all bs cs rs) ≡ sent_all bs rs
sent_so [] [] [] h g = refl
sent_so [] [] (r ∷ rs) h g = absurd (omega (arith, h))
sent_so [] (c ∷ cs) [] h g = absurd (omega (arith, g))
sent_so [] (c ∷ cs) (r ∷ rs) h g = absurd (omega (arith, h))
sent_so (b ∷ bs) cs [] h g = absurd (omega (arith, h))
sent_so (b ∷ bs) [] (r ∷ rs) h g = absurd (omega (arith, g))
sent_so (b ∷ bs) (c ∷ cs) (r ∷ rs) h g =
    both_same (turned c (remapped b c r)) (turned b r) (sent_all cs (remapped_all bs cs rs)) (sent_all bs rs) (sent_same b c r)
    (sent_so bs cs rs (omega (arith, h)) (omega (arith, g)))

back_so : (bs cs rs : List Bool) → length bs ≡ length rs → length cs ≡ length rs → remapped_all cs bs (remapped_all bs cs rs) ≡ rs
back_so [] [] rs h g = refl
back_so [] (c ∷ cs) rs h g = refl
back_so (b ∷ bs) cs [] h g = absurd (omega (arith, h))
back_so (b ∷ bs) [] (r ∷ rs) h g = absurd (omega (arith, g))
back_so (b ∷ bs) (c ∷ cs) (r ∷ rs) h g =
    both_same (remapped c b (remapped b c r)) r (remapped_all cs bs (remapped_all bs cs rs)) rs (back_again b c r)
    (back_so bs cs rs (omega (arith, h)) (omega (arith, g)))

pub choices : ChoicesAreHidden
choices = record {
  sent = sent_so;
  back = back_so;
  one_to_one = λ bs cs rs ss h g l e.
      sym (back_so bs cs rs h g) ∙ ap (λ t. remapped_all cs bs t) e ∙ back_so bs cs ss (omega (arith, h, l)) (omega (arith, g, l));
}

pub masked_same : (b r : Bool) (x : ℕ) (p m : ℕ × ℕ) → masked (apart r x p) (turned b r) (apart b x m) ≡ masked p (turned b r) m
masked_same false false x p m = ap (λ t. (bit_xor m.0 p.0, t)) (cancels m.1 p.1 x)
masked_same false true x p m = ap (λ t. (bit_xor m.0 p.1, t)) (cancels m.1 p.0 x)
masked_same true false x p m = ap (λ t. (t, bit_xor m.1 p.0)) (cancels m.0 p.1 x)
masked_same true true x p m = ap (λ t. (t, bit_xor m.1 p.1)) (cancels m.0 p.0 x)

chosen_same : (b : Bool) (x : ℕ) (p : ℕ × ℕ) → chosen (apart b x p) b ≡ chosen p b
chosen_same true x p = refl
chosen_same false x p = refl

masked_so : (bs rs : List Bool) (xs : List ℕ) (ps ms : List (ℕ × ℕ)) → masked_all (apart_all rs xs ps) (sent_all bs rs) (apart_all bs xs ms) ≡ masked_all ps (sent_all bs rs) ms
masked_so [] rs xs ps ms = none (apart_all rs xs ps) ps ms
  where
    none : (ps qs ms : List (ℕ × ℕ)) → masked_all ps [] ms ≡ masked_all qs [] ms
    none [] [] ms = refl
    none [] (q ∷ qs) ms = refl
    none (p ∷ ps) [] ms = refl
    none (p ∷ ps) (q ∷ qs) ms = refl
masked_so (b ∷ bs) [] xs ps ms = none ps (apart_all (b ∷ bs) xs ms) ms
  where
    none : (ps ms ns : List (ℕ × ℕ)) → masked_all ps [] ms ≡ masked_all ps [] ns
    none [] ms ns = refl
    none (p ∷ ps) ms ns = refl
masked_so (b ∷ bs) (r ∷ rs) [] ps ms = refl
masked_so (b ∷ bs) (r ∷ rs) (x ∷ xs) [] ms = refl
masked_so (b ∷ bs) (r ∷ rs) (x ∷ xs) (p ∷ ps) [] = refl
masked_so (b ∷ bs) (r ∷ rs) (x ∷ xs) (p ∷ ps) (m ∷ ms) =
    both_same (masked (apart r x p) (turned b r) (apart b x m)) (masked p (turned b r) m)
    (masked_all (apart_all rs xs ps) (sent_all bs rs) (apart_all bs xs ms)) (masked_all ps (sent_all bs rs) ms)
    (masked_same b r x p m) (masked_so bs rs xs ps ms)

told_so : (bs : List Bool) (xs : List ℕ) (ms : List (ℕ × ℕ)) → chosen_all (apart_all bs xs ms) bs ≡ chosen_all ms bs
told_so [] xs ms = refl
told_so (b ∷ bs) [] ms = refl
told_so (b ∷ bs) (x ∷ xs) [] = refl
told_so (b ∷ bs) (x ∷ xs) (m ∷ ms) =
    both_same (chosen (apart b x m) b) (chosen m b) (chosen_all (apart_all bs xs ms) bs) (chosen_all ms bs) (chosen_same b x m) (told_so bs xs ms)

length_so : (bs : List Bool) (xs : List ℕ) (ps : List (ℕ × ℕ)) → length (apart_all bs xs ps) ≡ length ps
length_so [] xs ps = refl
length_so (b ∷ bs) [] ps = refl
length_so (b ∷ bs) (x ∷ xs) [] = refl
length_so (b ∷ bs) (x ∷ xs) (p ∷ ps) = ap suc (length_so bs xs ps)

chosen_at : (bs : List Bool) (xs : List ℕ) (ps : List (ℕ × ℕ)) (i : ℕ) → length bs ≡ length ps
    → chosen (slice_index_or (apart_all bs xs ps) i (0, 0)) (slice_index_or bs i false) ≡ chosen (slice_index_or ps i (0, 0)) (slice_index_or bs i false)
chosen_at [] xs ps i h = refl
chosen_at (b ∷ bs) [] ps i h = refl
chosen_at (b ∷ bs) (x ∷ xs) [] i h = refl
chosen_at (b ∷ bs) (x ∷ xs) (p ∷ ps) zero h = chosen_same b x p
chosen_at (b ∷ bs) (x ∷ xs) (p ∷ ps) (suc i) h = chosen_at bs xs ps i (omega (arith, h))

pub unchosen : UnchosenIsHidden
unchosen = record {
  sent = masked_so;
  told = told_so;
  matched = λ s r xs m h. record {
    tag = m.tag;
    count = length_so r.bits xs s.pads ∙ m.count;
    pads = λ i l. m.pads i (let e = length_so r.bits xs s.pads in omega (arith, l, e)) ∙ sym (chosen_at r.bits xs s.pads i (h ∙ sym m.count));
  };
}
