use Rattle.std.proofs.Common.{◌≡◌, ◌++◌, ◌<◌, List, ℕ, length, ap, sym, ◌∙◌, arith, append-nil}
use Rattle.std.proofs.lemmas.Bool.Decides.{nat_tests}
use Rattle.oc_values.specs.Packing.{number_of_bits, pack, byte_count}
use Rattle.oc_values.proofs.Packs.{pack_none, length-pack}
use Rattle.party_frames.proofs.Framing.{framed, bits_step, bits_room, bits_last}
use Rattle.party_frames.proofs.frames.write_bits.Goals as goal

pub loop-rest-preserved : goal.loop-rest-preserved
loop-rest-preserved c =
    let rest = c.loop-rest.rest.now in
    record {
      written = bits_step (c.put.new.self ++ pack c.args.bits.now) c.loop-rest.outbox c.put-in-loop-rest.new.self c.pack_byte.result rest c.split_at.result.1.now
          c.loop-rest-test.true c.put-in-loop-rest.ensures (c.pack_byte.ensures ∙ ap number_of_bits c.split_at.ensures.front) c.split_at.ensures.back c.loop-rest.invariant.written;
      room = bits_room c.loop-rest.outbox c.put-in-loop-rest.new.self c.pack_byte.result 327680 rest c.split_at.result.1.now
          c.loop-rest-test.true c.put-in-loop-rest.ensures c.split_at.ensures.back c.loop-rest.invariant.room;
    }

pub returns-then-not-is_empty : goal.returns-then-not-is_empty
returns-then-not-is_empty c =
    let bits = c.args.bits.now in
    let rest = c.loop-rest.rest.now in
    let tested = c.is_empty.ensures in
    let some : 0 < length rest = grind (arith, nat_tests) in
    bits_last (c.put.new.self ++ pack bits) c.loop-rest.outbox c.put-then-not-is_empty.new.self c.pack_byte-then-not-is_empty.result rest
    c.loop-rest-test.false some c.put-then-not-is_empty.ensures c.pack_byte-then-not-is_empty.ensures c.loop-rest.invariant.written
    ∙ ap (λ (t : List ℕ). t ++ pack bits) c.put.ensures
    ∙ framed c.args.outbox.now c.write.result (pack bits) c.args.kind _ c.write.ensures (c.byte_count.ensures ∙ sym (length-pack bits))

pub returns-else-not-is_empty : goal.returns-else-not-is_empty
returns-else-not-is_empty c =
    let bits = c.args.bits.now in
    let rest = c.loop-rest.rest.now in
    let tested = c.is_empty.ensures in
    let none : length rest ≡ 0 = grind (arith, nat_tests) in
    sym (append-nil c.loop-rest.outbox) ∙ ap (λ (t : List ℕ). c.loop-rest.outbox ++ t) (sym (pack_none rest none)) ∙ c.loop-rest.invariant.written
    ∙ ap (λ (t : List ℕ). t ++ pack bits) c.put.ensures
    ∙ framed c.args.outbox.now c.write.result (pack bits) c.args.kind _ c.write.ensures (c.byte_count.ensures ∙ sym (length-pack bits))
