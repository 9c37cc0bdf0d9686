use Rattle.std.proofs.Common.{◌∙◌, ap, take, arith, length-drop}
use Rattle.std.proofs.lemmas.List.{take_rest}
use Rattle.oc_outside.specs.Told.{appended}
use Rattle.oc_outside.proofs.Lists.{appended-next}
use Rattle.oc_outside.proofs.sinks.write_all.Goals as goal

pub loop-at-preserved : goal.loop-at-preserved
loop-at-preserved g c =
    let within = rw (take_rest, length-drop) at c.in-Took.ensures.within in
    let took = rw take_rest at c.in-Took.ensures.took in
    let told = g.S.Sink.written c.args.sink.now in
    record {
      within = omega (arith, within);
      no_fault = c.in-Took.ensures.no_fault ∙ c.loop-at.invariant.no_fault;
      written =
          took ∙ ap (appended (take c.in-Took.n _)) c.loop-at.invariant.written ∙ appended-next c.args.bytes.now c.loop-at.at c.in-Took.n told;
    }
