use Rattle.std.proofs.Common.{arith, ap, ◌∙◌, length, length-append}
use Rattle.dealt_transfer.proofs.Pieces.{length-label_bytes}
use Rattle.party_frames.proofs.Framing.{rows_room}
use Rattle.party_frames.proofs.batches.put_rows.Goals as goal

pub put-requires : goal.put-requires
put-requires c =
    let room = rows_room c.args.outbox.now c.loop-tg.outbox c.args.rows.now c.loop-tg.tg-index 327680 c.loop-tg.invariant c.loop-tg-test.true c.requires in
    let field = ap length c.label_field.ensures ∙ length-label_bytes _ in
    (omega arith, omega (arith, room, field))

pub put-requires-in-loop-tg : goal.put-requires-in-loop-tg
put-requires-in-loop-tg c =
    let room = rows_room c.args.outbox.now c.loop-tg.outbox c.args.rows.now c.loop-tg.tg-index 327680 c.loop-tg.invariant c.loop-tg-test.true c.requires in
    let first = ap length c.label_field.ensures ∙ length-label_bytes _ in
    let second = ap length c.label_field-in-loop-tg.ensures ∙ length-label_bytes _ in
    let grown = ap length c.put.ensures ∙ length-append c.loop-tg.outbox c.label_field.result in
    (omega arith, omega (arith, room, first, second, grown))
