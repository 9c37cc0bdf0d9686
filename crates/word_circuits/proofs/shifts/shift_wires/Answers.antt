use Rattle.std.proofs.Common.{◌≡◌, ◌<◌, ◌≤◌, ◌^◌, ℕ, IsTrue, length, arith, refl, ap, ◌∙◌, rules}
use Rattle.std.proofs.lemmas.List.{append-nil}
use Rattle.gate_core.proofs.Playing.{Plays-more}
use Rattle.word_circuits.specs.Widths.{log2, is_width}
use Rattle.word_circuits.specs.Choices.{shift_step}
use Rattle.word_circuits.proofs.Calling.{width_pos, width_most}
use Rattle.word_circuits.proofs.Shifting.{place_within, log2-small, Plays-shift_step, Plays-shift_word}
use Rattle.word_circuits.proofs.Affording.{Affords-shift_step}
use Rattle.word_circuits.proofs.shifts.shift_wires.Goals as goal

pub joined-shifted-requires : goal.joined-shifted-requires
joined-shifted-requires g c = (search rules, (let h = width_most (length c.args.x.now) c.requires.width in omega (arith, h)))

pub rounds-init : goal.rounds-init
rounds-init g c = (ap length c.joined-shifted.ensures ∙ ap length (append-nil c.args.x.now), (refl, refl))

-- the place is one of the word's
within : (w k n : ℕ) → IsTrue (is_width w) → n ≡ log2 w → k < n → (2 ^ k ≤ w) × (k < w) × (k < log2 w) × (k ≤ 6)
within w k n wide e lt =
    let l : k < log2 w = omega (arith, e, lt) in
    let p = place_within w k wide l in
    let s = log2-small w wide in
    (p.0, p.1, l, omega (arith, l, s))

pub wire-chosen-requires : goal.wire-chosen-requires
wire-chosen-requires g c =
    let h = within (length c.args.x.now) c.rounds.k c.places-k-end.result c.requires.width c.places-k-end.ensures.value c.rounds-test.true in
    omega (arith, h.1, c.requires.same)

pub shift_step-shifted-requires : goal.shift_step-shifted-requires
shift_step-shifted-requires g c =
    let m = g.G.Gates.calls in
    let x = c.args.x.now in
    let w = length x in
    let left = c.args.left in
    let signed = c.args.signed in
    let a = c.args.amount.now in
    let h = within w c.rounds.k c.places-k-end.result c.requires.width c.places-k-end.ensures.value c.rounds-test.true in
    let some = width_pos w c.requires.width in
    let most = width_most w c.requires.width in
    let l = ap length c.as_slice.ensures.value ∙ c.rounds.invariant.0 in
    let room = Affords-shift_step m left signed w a c.rounds.k c.joined-shifted.result.items x c.rounds.shifted.items c.as_slice.result.now c.known-zero.result c.wire-chosen.result _ _
    c.known-zero.ensures (c.joined-shifted.ensures ∙ append-nil x) (c.wire-chosen.ensures c.known-zero.result) c.as_slice.ensures.value l h.2 c.rounds.invariant.1 c.requires.room in
    (search rules, (omega (arith, l, some), (omega (arith, l, most), (omega (arith, l, h.0), (h.3, room)))))

pub rounds-preserved : goal.rounds-preserved
rounds-preserved g c =
    let m = g.G.Gates.calls in
    let x = c.args.x.now in
    let w = length x in
    let z = c.known-zero.result in
    let a = c.args.amount.now in
    let l = ap length c.as_slice.ensures.value ∙ c.rounds.invariant.0 in (
      c.shift_step-shifted.ensures.len ∙ l,
      Plays-more m (shift_step c.args.left c.args.signed w a z) c.rounds.k _ _ _ _ _ _ c.rounds.invariant.1
          (Plays-shift_step m c.args.left c.args.signed w c.rounds.k a z c.wire-chosen.result c.as_slice.result.now c.rounds.shifted.items _ _ _
          (c.wire-chosen.ensures z) c.as_slice.ensures.value c.rounds.invariant.0 c.shift_step-shifted.ensures.plays),
    )

pub returns : goal.returns
returns g c =
    let m = g.G.Gates.calls in
    let x = c.args.x.now in
    let w = length x in
    let done : c.rounds.k ≡ c.places-k-end.result = omega (arith, c.rounds-test.false, c.rounds.auto.k-end) in
    record {
      plays = Plays-shift_word m c.args.left c.args.signed w c.rounds.k c.joined-shifted.result.items x c.args.amount.now c.known-zero.result _ _ _
          c.known-zero.ensures (done ∙ c.places-k-end.ensures.value) (c.joined-shifted.ensures ∙ append-nil x) c.rounds.invariant.1;
      len = c.rounds.invariant.0;
    }
