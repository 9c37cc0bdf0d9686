use Rattle.std.proofs.Common.{◌∷◌, [], length, ap, ◌∙◌, refl, arith, add-one}
use Rattle.std.proofs.lemmas.List.{length-append}
use Rattle.word_circuits.proofs.known.known_wires.Goals as goal

pub places-preserved : goal.places-preserved
places-preserved g c =
    let n = length-append c.places.wires.items (c.known.result ∷ []) in
    let e = c.push.ensures.items in
    (ap length e ∙ omega (arith, n, c.places.invariant.0), rw add-one (e ∙ rw (c.known.ensures, c.places.invariant.1) refl))
