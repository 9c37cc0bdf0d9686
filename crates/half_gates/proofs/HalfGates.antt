-- Half gates compute AND.
use Rattle.std.proofs.Common.{◌≡◌, ℕ, ◌%◌, Bool, true, false, ◌&&◌, ◌==◌, ◌⊎◌, ⊎_elim, refl, sym, ap, ◌∙◌, arith}
use Rattle.std.specs.Prelude.{bit_xor, not, if◌then◌else◌}
use Rattle.std.specs.Int.Bits.{xor_assoc, xor_self, xor_zero_l, xor_zero_r}
use Rattle.std.proofs.lemmas.Nat.{xor_comm, xor_mod}
use Rattle.half_gates.specs.Hash.{hash_of}
use Rattle.half_gates.specs.Gate.{Hashes, MakesAnd, active, and_label, hashes_of, masked, row_e, row_g, select_of, tweak_a, tweak_b, zero_of}

pub xor_left_comm : (a b c : ℕ) → bit_xor a (bit_xor b c) ≡ bit_xor b (bit_xor a c)
xor_left_comm a b c = sym (xor_assoc a b c) ∙ ap (λ m. bit_xor m c) (xor_comm a b) ∙ xor_assoc b a c

pub xor_cancel : (a b : ℕ) → bit_xor a (bit_xor a b) ≡ b
xor_cancel a b = sym (xor_assoc a a b) ∙ ap (λ m. bit_xor m b) (xor_self a) ∙ xor_zero_l b

pub xor_cancel_end : (a b : ℕ) → bit_xor a (bit_xor b a) ≡ b
xor_cancel_end a b = ap (λ m. bit_xor a m) (xor_comm b a) ∙ xor_cancel a b

ruleset xors = (xor_assoc, xor_comm, xor_left_comm, xor_cancel, xor_cancel_end, xor_self, xor_zero_l, xor_zero_r)

-- one bit turned by another
abbrev pub turned_by : Bool → Bool → Bool
turned_by p true = not p
turned_by p false = p

-- the two halves give the label for the conjunction of the bits x and y, where pa and pb are the select bits of the labels for false
pub half_gates : (ha0 ha1 hb0 hb1 a r : ℕ) (pa pb x y : Bool)
    → let tg = bit_xor (bit_xor ha0 ha1) (masked pb r) in
    let te = bit_xor (bit_xor hb0 hb1) a in
    bit_xor (bit_xor (if x then ha1 else ha0) (masked (turned_by pa x) tg))
    (bit_xor (if y then hb1 else hb0) (masked (turned_by pb y) (bit_xor te (bit_xor a (masked x r)))))
    ≡ bit_xor (bit_xor (bit_xor ha0 (masked pa tg)) (bit_xor hb0 (masked pb (bit_xor te a)))) (masked (x && y) r)
half_gates ha0 ha1 hb0 hb1 a r true true true true =
    let e : bit_xor (bit_xor ha1 0) (bit_xor hb1 0) ≡ bit_xor (bit_xor (bit_xor ha0 (bit_xor (bit_xor ha0 ha1) r)) (bit_xor hb0 (bit_xor (bit_xor (bit_xor hb0 hb1) a) a))) r = simp xors refl in e
half_gates ha0 ha1 hb0 hb1 a r true true true false =
    let e : bit_xor (bit_xor ha1 0) (bit_xor hb0 (bit_xor (bit_xor (bit_xor hb0 hb1) a) (bit_xor a r))) ≡ bit_xor (bit_xor (bit_xor ha0 (bit_xor (bit_xor ha0 ha1) r)) (bit_xor hb0 (bit_xor (bit_xor (bit_xor hb0 hb1) a) a))) 0 = simp xors refl in e
half_gates ha0 ha1 hb0 hb1 a r true true false true =
    let e : bit_xor (bit_xor ha0 (bit_xor (bit_xor ha0 ha1) r)) (bit_xor hb1 0) ≡ bit_xor (bit_xor (bit_xor ha0 (bit_xor (bit_xor ha0 ha1) r)) (bit_xor hb0 (bit_xor (bit_xor (bit_xor hb0 hb1) a) a))) 0 = simp xors refl in e
half_gates ha0 ha1 hb0 hb1 a r true true false false =
    let e : bit_xor (bit_xor ha0 (bit_xor (bit_xor ha0 ha1) r)) (bit_xor hb0 (bit_xor (bit_xor (bit_xor hb0 hb1) a) (bit_xor a 0))) ≡ bit_xor (bit_xor (bit_xor ha0 (bit_xor (bit_xor ha0 ha1) r)) (bit_xor hb0 (bit_xor (bit_xor (bit_xor hb0 hb1) a) a))) 0 = simp xors refl in e
half_gates ha0 ha1 hb0 hb1 a r true false true true =
    let e : bit_xor (bit_xor ha1 0) (bit_xor hb1 (bit_xor (bit_xor (bit_xor hb0 hb1) a) (bit_xor a r))) ≡ bit_xor (bit_xor (bit_xor ha0 (bit_xor (bit_xor ha0 ha1) 0)) (bit_xor hb0 0)) r = simp xors refl in e
half_gates ha0 ha1 hb0 hb1 a r true false true false =
    let e : bit_xor (bit_xor ha1 0) (bit_xor hb0 0) ≡ bit_xor (bit_xor (bit_xor ha0 (bit_xor (bit_xor ha0 ha1) 0)) (bit_xor hb0 0)) 0 = simp xors refl in e
half_gates ha0 ha1 hb0 hb1 a r true false false true =
    let e : bit_xor (bit_xor ha0 (bit_xor (bit_xor ha0 ha1) 0)) (bit_xor hb1 (bit_xor (bit_xor (bit_xor hb0 hb1) a) (bit_xor a 0))) ≡ bit_xor (bit_xor (bit_xor ha0 (bit_xor (bit_xor ha0 ha1) 0)) (bit_xor hb0 0)) 0 = simp xors refl in e
half_gates ha0 ha1 hb0 hb1 a r true false false false =
    let e : bit_xor (bit_xor ha0 (bit_xor (bit_xor ha0 ha1) 0)) (bit_xor hb0 0) ≡ bit_xor (bit_xor (bit_xor ha0 (bit_xor (bit_xor ha0 ha1) 0)) (bit_xor hb0 0)) 0 = simp xors refl in e
half_gates ha0 ha1 hb0 hb1 a r false true true true =
    let e : bit_xor (bit_xor ha1 (bit_xor (bit_xor ha0 ha1) r)) (bit_xor hb1 0) ≡ bit_xor (bit_xor (bit_xor ha0 0) (bit_xor hb0 (bit_xor (bit_xor (bit_xor hb0 hb1) a) a))) r = simp xors refl in e
half_gates ha0 ha1 hb0 hb1 a r false true true false =
    let e : bit_xor (bit_xor ha1 (bit_xor (bit_xor ha0 ha1) r)) (bit_xor hb0 (bit_xor (bit_xor (bit_xor hb0 hb1) a) (bit_xor a r))) ≡ bit_xor (bit_xor (bit_xor ha0 0) (bit_xor hb0 (bit_xor (bit_xor (bit_xor hb0 hb1) a) a))) 0 = simp xors refl in e
half_gates ha0 ha1 hb0 hb1 a r false true false true =
    let e : bit_xor (bit_xor ha0 0) (bit_xor hb1 0) ≡ bit_xor (bit_xor (bit_xor ha0 0) (bit_xor hb0 (bit_xor (bit_xor (bit_xor hb0 hb1) a) a))) 0 = simp xors refl in e
half_gates ha0 ha1 hb0 hb1 a r false true false false =
    let e : bit_xor (bit_xor ha0 0) (bit_xor hb0 (bit_xor (bit_xor (bit_xor hb0 hb1) a) (bit_xor a 0))) ≡ bit_xor (bit_xor (bit_xor ha0 0) (bit_xor hb0 (bit_xor (bit_xor (bit_xor hb0 hb1) a) a))) 0 = simp xors refl in e
half_gates ha0 ha1 hb0 hb1 a r false false true true =
    let e : bit_xor (bit_xor ha1 (bit_xor (bit_xor ha0 ha1) 0)) (bit_xor hb1 (bit_xor (bit_xor (bit_xor hb0 hb1) a) (bit_xor a r))) ≡ bit_xor (bit_xor (bit_xor ha0 0) (bit_xor hb0 0)) r = simp xors refl in e
half_gates ha0 ha1 hb0 hb1 a r false false true false =
    let e : bit_xor (bit_xor ha1 (bit_xor (bit_xor ha0 ha1) 0)) (bit_xor hb0 0) ≡ bit_xor (bit_xor (bit_xor ha0 0) (bit_xor hb0 0)) 0 = simp xors refl in e
half_gates ha0 ha1 hb0 hb1 a r false false false true =
    let e : bit_xor (bit_xor ha0 0) (bit_xor hb1 (bit_xor (bit_xor (bit_xor hb0 hb1) a) (bit_xor a 0))) ≡ bit_xor (bit_xor (bit_xor ha0 0) (bit_xor hb0 0)) 0 = simp xors refl in e
half_gates ha0 ha1 hb0 hb1 a r false false false false =
    let e : bit_xor (bit_xor ha0 0) (bit_xor hb0 0) ≡ bit_xor (bit_xor (bit_xor ha0 0) (bit_xor hb0 0)) 0 = simp xors refl in e

parity : (n : ℕ) → (n % 2 ≡ 0) ⊎ (n % 2 ≡ 1)
parity n = grind arith

-- an active label for 1 has the other select bit
select_of-active : (zero_label delta : ℕ) (x : Bool) → delta % 2 ≡ 1 → select_of (active zero_label delta x) ≡ turned_by (select_of zero_label) x
select_of-active a delta false odd = ap (λ m. m % 2 == 1) (xor_zero_r a)
select_of-active a delta true odd =
    let split : bit_xor a delta % 2 ≡ bit_xor (a % 2) (delta % 2) = xor_mod a delta 1 in
    ⊎_elim
    (λ (e : a % 2 ≡ 0). rw (split, e, odd) refl)
    (λ (e : a % 2 ≡ 1). rw (split, e, odd) refl)
    (parity a)

hash_of-active : (zero_label delta tweak : ℕ) (x : Bool) → hash_of (active zero_label delta x) tweak ≡ (if x then hash_of (bit_xor zero_label delta) tweak else hash_of zero_label tweak)
hash_of-active a delta j true = refl
hash_of-active a delta j false = ap (λ m. hash_of m j) (xor_zero_r a)

-- half gates make AND
pub make_and : (h : Hashes) (delta a b : ℕ) → delta % 2 ≡ 1 → MakesAnd h delta a b
make_and h delta a b odd x y =
    let all = half_gates h.a0 h.a1 h.b0 h.b1 a delta (select_of a) (select_of b) x y in
    rw (select_of-active a delta x odd, select_of-active b delta y odd) all

-- also where the hash's values are those of labels
pub make_and_hashed : (delta a b gate : ℕ) → delta % 2 ≡ 1 → (x y : Bool)
    → and_label (active a delta x) (active b delta y) (row_g (hashes_of delta a b gate) delta b) (row_e (hashes_of delta a b gate) a)
    (hash_of (active a delta x) (tweak_a gate)) (hash_of (active b delta y) (tweak_b gate))
    ≡ active (zero_of (hashes_of delta a b gate) delta a b) delta (x && y)
make_and_hashed delta a b gate odd x y =
    let law = make_and (hashes_of delta a b gate) delta a b odd x y in
    rw (hash_of-active a delta (tweak_a gate) x, hash_of-active b delta (tweak_b gate) y) law
