use Rattle.std.proofs.Common.{◌-◌, length, arith, sym, ap, ◌∙◌, rules, subst, get_or}
use Rattle.gate_core.specs.Circuit.{Plays, Affords}
use Rattle.word_circuits.specs.Divisions.{Divided, divide_sizes, cond_negate, remainder_circuit, divide_circuit}
use Rattle.word_circuits.proofs.DividingPlays.{Plays-remainder, Plays-signed_remainder}
use Rattle.gate_core.proofs.Affording.{Affords-first}
use Rattle.gate_core.specs.Circuit.Circuit.{give}
use Rattle.word_circuits.proofs.Affording.{Affords-signed_remainder}
use Rattle.word_circuits.proofs.divisions.remainder_wires.Goals as goal

pub divide-requires : goal.divide-requires
divide-requires g c =
    let m = g.G.Gates.calls in
    let x = c.args.x.now in
    let y = c.args.y.now in
    let w = length x in
    let room = subst (λ b. Affords m (remainder_circuit b w x y c.requires.room.0) c.args.gates.now) c.if-not-signed.true c.requires.room.1 in
    (search rules, (c.requires.some, (c.requires.same, (c.requires.fits, Affords-first m (divide_circuit w x y) (λ a. give a.rest) c.args.gates.now room))))

pub divide_sizes-parts-requires : goal.divide_sizes-parts-requires
divide_sizes-parts-requires g c =
    let m = g.G.Gates.calls in
    let x = c.args.x.now in
    let y = c.args.y.now in
    let w = length x in
    let d = c.requires.room.0 in
    let room = subst (λ b. Affords m (remainder_circuit b w x y d) c.args.gates.now) c.if-not-signed.false c.requires.room.1 in
    (search rules, (c.requires.some, (c.requires.same, (c.requires.fits, (d, Affords-first m (divide_sizes w x y d) (λ a. cond_negate w (get_or x (w - 1) d) a.rest d) c.args.gates.now room)))))

pub cond_negate-requires : goal.cond_negate-requires
cond_negate-requires g c =
    let m = g.G.Gates.calls in
    let x = c.args.x.now in
    let y = c.args.y.now in
    let w = length x in
    let d = c.requires.room.0 in
    let room = subst (λ b. Affords m (remainder_circuit b w x y d) c.args.gates.now) c.if-not-signed.false c.requires.room.1 in
    let a : Divided _ = record { quotient = c.divide_sizes-parts.result.0.items; rest = c.divide_sizes-parts.result.1.items } in
    let l = ap length c.as_slice.ensures.value ∙ c.divide_sizes-parts.ensures.rest in
    (search rules, (omega (arith, l, c.requires.some), (omega (arith, l, c.requires.fits), (d, Affords-signed_remainder m w _ x y d c.wire.result a c.as_slice.result.now _ _ (c.wire.ensures d) c.as_slice.ensures.value l (c.divide_sizes-parts.ensures.plays d) room))))

pub returns-then-not-signed : goal.returns-then-not-signed
returns-then-not-signed g c =
    let m = g.G.Gates.calls in
    let x = c.args.x.now in
    let y = c.args.y.now in
    let w = length x in
    let a : Divided _ = record { quotient = c.divide.result.0.items; rest = c.divide.result.1.items } in
    record {
      plays = λ d. subst (λ b. Plays m (remainder_circuit b w x y d) c.args.gates.now c.divide.result.1.items c.divide.new.gates) (sym c.if-not-signed.true) (Plays-remainder m w x y d a _ _ c.divide.ensures.plays);
      len = c.divide.ensures.rest;
    }

pub returns : goal.returns
returns g c =
    let m = g.G.Gates.calls in
    let x = c.args.x.now in
    let y = c.args.y.now in
    let w = length x in
    let s = c.args.gates.now in
    let e = c.divide_sizes-parts.new.gates in
    let t = c.cond_negate.new.gates in
    let l = ap length c.as_slice.ensures.value ∙ c.divide_sizes-parts.ensures.rest in
    let a : Divided _ = record { quotient = c.divide_sizes-parts.result.0.items; rest = c.divide_sizes-parts.result.1.items } in
    let sign = c.wire.result in
    record {
      plays = λ d. subst (λ b. Plays m (remainder_circuit b w x y d) s c.cond_negate.result.items t) (sym c.if-not-signed.false)
          (Plays-signed_remainder m w x y d sign a c.as_slice.result.now c.cond_negate.result.items s e t (c.wire.ensures d) c.as_slice.ensures.value
          (c.divide_sizes-parts.ensures.plays d) (subst (λ n. Plays m (cond_negate n sign c.as_slice.result.now d) e c.cond_negate.result.items t) l (c.cond_negate.ensures.plays d)));
      len = c.cond_negate.ensures.len ∙ l;
    }
