use Rattle.std.proofs.Common.{◌-◌, length, arith, sym, ap, ◌∙◌, rules, subst, get_or}
use Rattle.gate_core.specs.Circuit.{Plays, Affords}
use Rattle.word_circuits.specs.Divisions.{Divided, divide_sizes, cond_negate, quotient_circuit, divide_circuit}
use Rattle.word_circuits.proofs.DividingPlays.{Plays-quotient, Plays-signed_quotient}
use Rattle.gate_core.proofs.Affording.{Affords-first}
use Rattle.gate_core.specs.Circuit.Circuit.{give, join}
use Rattle.word_circuits.proofs.Affording.{Affords-signed_quotient}
use Rattle.word_circuits.proofs.divisions.quotient_wires.Goals as goal

pub divide-requires : goal.divide-requires
divide-requires g c =
    let m = g.G.Gates.calls in
    let x = c.args.x.now in
    let y = c.args.y.now in
    let w = length x in
    let room = subst (λ b. Affords m (quotient_circuit b w x y c.requires.room.0) c.args.gates.now) c.if-not-signed.true c.requires.room.1 in
    (search rules, (c.requires.some, (c.requires.same, (c.requires.fits, Affords-first m (divide_circuit w x y) (λ a. give a.quotient) c.args.gates.now room))))

pub divide_sizes-parts-requires : goal.divide_sizes-parts-requires
divide_sizes-parts-requires g c =
    let m = g.G.Gates.calls in
    let x = c.args.x.now in
    let y = c.args.y.now in
    let w = length x in
    let d = c.requires.room.0 in
    let room = subst (λ b. Affords m (quotient_circuit b w x y d) c.args.gates.now) c.if-not-signed.false c.requires.room.1 in
    (search rules, (c.requires.some, (c.requires.same, (c.requires.fits, (d, Affords-first m (divide_sizes w x y d) (λ a. join (get_or x (w - 1) d) (get_or y (w - 1) d) (λ s. cond_negate w s a.quotient d)) c.args.gates.now room)))))

pub cond_negate-requires : goal.cond_negate-requires
cond_negate-requires g c =
    let m = g.G.Gates.calls in
    let x = c.args.x.now in
    let y = c.args.y.now in
    let w = length x in
    let d = c.requires.room.0 in
    let room = subst (λ b. Affords m (quotient_circuit b w x y d) c.args.gates.now) c.if-not-signed.false c.requires.room.1 in
    let a : Divided _ = record { quotient = c.divide_sizes-parts.result.0.items; rest = c.divide_sizes-parts.result.1.items } in
    let l = ap length c.as_slice.ensures.value ∙ c.divide_sizes-parts.ensures.quotient in
    (search rules, (omega (arith, l, c.requires.some), (omega (arith, l, c.requires.fits), (d, Affords-signed_quotient m w _ x y d c.wire.result c.wire-2.result c.xor-sign.result a c.as_slice.result.now _ _ (c.wire.ensures d) (c.wire-2.ensures d) c.xor-sign.ensures c.as_slice.ensures.value l (c.divide_sizes-parts.ensures.plays d) room))))

pub returns-then-not-signed : goal.returns-then-not-signed
returns-then-not-signed g c =
    let m = g.G.Gates.calls in
    let x = c.args.x.now in
    let y = c.args.y.now in
    let w = length x in
    let a : Divided _ = record { quotient = c.divide.result.0.items; rest = c.divide.result.1.items } in
    record {
      plays = λ d. subst (λ b. Plays m (quotient_circuit b w x y d) c.args.gates.now c.divide.result.0.items c.divide.new.gates) (sym c.if-not-signed.true) (Plays-quotient m w x y d a _ _ c.divide.ensures.plays);
      len = c.divide.ensures.quotient;
    }

pub returns : goal.returns
returns g c =
    let m = g.G.Gates.calls in
    let x = c.args.x.now in
    let y = c.args.y.now in
    let w = length x in
    let s = c.args.gates.now in
    let e = c.divide_sizes-parts.new.gates in
    let t = c.cond_negate.new.gates in
    let l = ap length c.as_slice.ensures.value ∙ c.divide_sizes-parts.ensures.quotient in
    let a : Divided _ = record { quotient = c.divide_sizes-parts.result.0.items; rest = c.divide_sizes-parts.result.1.items } in
    let sign = c.xor-sign.result in
    record {
      plays = λ d. subst (λ b. Plays m (quotient_circuit b w x y d) s c.cond_negate.result.items t) (sym c.if-not-signed.false)
          (Plays-signed_quotient m w x y d c.wire.result c.wire-2.result sign a c.as_slice.result.now c.cond_negate.result.items s e t (c.wire.ensures d) (c.wire-2.ensures d) c.xor-sign.ensures c.as_slice.ensures.value
          (c.divide_sizes-parts.ensures.plays d) (subst (λ n. Plays m (cond_negate n sign c.as_slice.result.now d) e c.cond_negate.result.items t) l (c.cond_negate.ensures.plays d)));
      len = c.cond_negate.ensures.len ∙ l;
    }
