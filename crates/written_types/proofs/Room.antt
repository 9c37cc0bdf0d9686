-- What is needed for arrays is that they have room.
use Rattle.std.proofs.Common.{ℕ, ◌≡◌, ◌<◌, List, Bool, true, false, min, nat_le, leb-true, leb-false, Result, Ok, Err, refl, sym, ap, ◌∙◌, arith}
use Rattle.std.specs.Prelude.{◌&&◌, IsTrue, OnOk}
use Rattle.oc_source.specs.declared.spot.Spot.{Spot}
use Rattle.oc_cells.specs.declared.types.CType.{CType}
use Rattle.oc_cells.specs.Layout.{cells}
use Rattle.type_rules.specs.declared.judging.TypeRule.TheVariants.{T11}
use Rattle.type_rules.specs.Judging.{needs}
use Rattle.type_rules.specs.Written.{arrays, are_lengths}
use Rattle.type_steps.specs.declared.fault.TypeFault.{TypeFault}
use Rattle.type_steps.specs.Answering.{Answers}
use Rattle.written_types.specs.Forms.{times}
use Rattle.written_types.proofs.Forms.{too_many, cells_arrays}

capped_room : (ns : List ℕ) (x : ℕ) (b : Bool) → nat_le x 65537 ≡ b → (are_lengths ns && nat_le (times (min x 65537) ns) 65536) ≡ (are_lengths ns && nat_le (times x ns) 65536)
capped_room ns x true e = let m : min x 65537 ≡ x = omega (arith, leb-true x 65537 e) in ap (λ t. are_lengths ns && nat_le (times t ns) 65536) m
capped_room ns x false e =
    let l : 65537 < x = leb-false x 65537 e in
    let m : 65536 < min x 65537 = omega (arith, l) in
    let n : 65536 < x = omega (arith, l) in
    too_many ns (min x 65537) m ∙ sym (too_many ns x n)

pub room_so : (ss ns ms : List ℕ) (t : CType) (each : ℕ) (r : Bool) → r ≡ (are_lengths ms && nat_le (times each ms) 65536) → ms ≡ ns → each ≡ min (cells ss t) 65537 → r ≡ (are_lengths ns && nat_le (cells ss (arrays ns t)) 65536)
room_so ss ns ms t each r p q e =
    p ∙ ap (λ ms. are_lengths ms && nat_le (times each ms) 65536) q
    ∙ ap (λ k. are_lengths ns && nat_le (times k ns) 65536) e
    ∙ capped_room ns (cells ss t) (nat_le (cells ss t) 65537) refl
    ∙ ap (λ k. are_lengths ns && nat_le k 65536) (sym (cells_arrays ss ns t))

pub lengths_so : (p : Spot) (a x : Bool) (r : Result (Unit {0}) TypeFault) → Answers (needs p T11 (a && x)) r → OnOk r (IsTrue a)
lengths_so p true x r h = go r
  where
    go : (r : Result (Unit {0}) TypeFault) → OnOk r (IsTrue true)
    go (Ok u) = refl
    go (Err e) = search
lengths_so p false x (Ok u) h = let e = h.said in cc
lengths_so p false x (Err e) h = search
