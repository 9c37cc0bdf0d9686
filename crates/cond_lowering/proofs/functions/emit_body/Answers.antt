use Rattle.std.proofs.Common.{◌∙◌}
use Rattle.std.proofs.lemmas.Result.{on_ok_weaker}
use Rattle.cond_lowering.specs.Statements.{coding}
use Rattle.cond_lowering.proofs.Parts.{listed_next, listed_end}
use Rattle.cond_lowering.proofs.functions.emit_body.Goals as goal

pub loop-i-preserved : goal.loop-i-preserved
loop-i-preserved c =
    let i = c.loop-i.invariant in
    record {
      exits = c.in_ok-emit_turn_of.ensures.exits ∙ i.exits;
      rest = listed_next (coding c.args.table.now c.args.slots.now) c.args.gives.now _ _ _ c.args.body.now c.loop-i.i c.index-body-i.result c.loop-i-test.true c.index-body-i.is i.rest (rw i.exits at c.in_ok-emit_turn_of.ensures.code);
    }

pub returns : goal.returns
returns c =
    on_ok_weaker c.emit_end.result (λ z. record {
      so = z.so ∙ listed_end (coding c.args.table.now c.args.slots.now) c.args.gives.now _ _ c.args.body.now c.loop-i.i c.loop-i-test.false c.loop-i.invariant.rest;
    }) c.emit_end.ensures
