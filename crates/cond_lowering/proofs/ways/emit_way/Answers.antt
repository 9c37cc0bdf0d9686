use Rattle.std.proofs.Common.{◌∙◌, ap, sym, ◌++◌, arith}
use Rattle.std.proofs.lemmas.Result.{on_ok_weaker}
use Rattle.oc_code.specs.Lower.{end_code}
use Rattle.cond_lowering.specs.Ways.{way}
use Rattle.cond_lowering.proofs.Exits.{way_next, way_stops, way_ends, one_below}
use Rattle.cond_lowering.proofs.ways.emit_way.Goals as goal

pub outward-preserved : goal.outward-preserved
outward-preserved c =
    let q = one_below c.as_slice-list.result.now c.outward.at _ _ c.outward-test.true c.outward.invariant.within in
    record {
      within = omega (arith, c.outward.invariant.within);
      rest = way_next c.args.again c.as_slice-list.result.now (end_code c.args.gives.now) c.outward.at _ _ _ _ c.outward-test.true c.outward.invariant.within q c.outward.invariant.rest c.in_ok-emit_exit.ensures.so (sym c.is_loop.ensures ∙ c.if-is_loop.false);
    }

pub returns-then-is_loop : goal.returns-then-is_loop
returns-then-is_loop c =
    let q = one_below c.as_slice-list.result.now c.outward.at _ _ c.outward-test.true c.outward.invariant.within in
    record {
      so = way_stops c.args.again c.as_slice-list.result.now (end_code c.args.gives.now) c.outward.at _ _ _ _ c.outward-test.true c.outward.invariant.within q c.outward.invariant.rest c.in_ok-emit_exit.ensures.so (sym c.is_loop.ensures ∙ c.if-is_loop.true)
          ∙ ap (λ es. c.args.code.now ++ way c.args.again es (end_code c.args.gives.now)) c.as_slice-list.ensures;
    }

pub returns : goal.returns
returns c =
    on_ok_weaker c.emit_end.result (λ z. record {
      so = z.so ∙ way_ends c.args.again c.as_slice-list.result.now (end_code c.args.gives.now) c.outward.at _ _ c.outward-test.false c.outward.invariant.rest
          ∙ ap (λ es. c.args.code.now ++ way c.args.again es (end_code c.args.gives.now)) c.as_slice-list.ensures;
    }) c.emit_end.ensures
