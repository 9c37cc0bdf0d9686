use Rattle.std.proofs.Common.{◌≡◌, ◌++◌, ◌∙◌, List, ℕ, ℤ, pos, length, take, get_or, ap, subst, arith, rules, SFits, w64}
use Rattle.std.proofs.lemmas.Int.{to_z-of_z}
use Rattle.std.specs.List.{flat_map}
use Rattle.std.proofs.lemmas.List.{take_all}
use Rattle.sha2.specs.Sha256.{sha256}
use Rattle.sha2.specs.Hashers.{Holds256}
use Rattle.party_frames.specs.Setup.{number_bytes, word_bytes}
use Rattle.party_frames.proofs.Messages.{word_more, whole_message}
use Rattle.party_frames.proofs.setup.setup_digest.Goals as goal

pub loop-word-preserved : goal.loop-word-preserved
loop-word-preserved c =
    let source = c.args.source.now in
    let words = c.args.public.now in
    let listed = c.as_slice-word-items.ensures in
    let size = ap length listed in
    let start : List ℕ = (number_bytes (length source) ++ source) ++ number_bytes (length words) in
    let x : ℤ = get_or c.as_slice-word-items.result.now c.loop-word.word-index (pos 0) in
    let fits : SFits w64 x = search rules in
    let word : c.to_be_bytes-in-loop-word.result ≡ word_bytes x = c.to_be_bytes-in-loop-word.ensures ∙ ap word_bytes (to_z-of_z w64 x fits) in
    subst (λ (m : List ℕ). Holds256 c.update-in-loop-word.new.self m)
    (word_more start c.to_be_bytes-in-loop-word.result words c.loop-word.word-index (omega (arith, size, c.loop-word-test.true))
    (word ∙ ap (λ (ws : List ℤ). word_bytes (get_or ws c.loop-word.word-index (pos 0))) listed))
    (c.update-in-loop-word.ensures _ c.loop-word.invariant)

pub returns : goal.returns
returns c =
    let source = c.args.source.now in
    let words = c.args.public.now in
    let size = ap length c.as_slice-word-items.ensures in
    c.finalize.ensures _ (c.update-4.ensures _ c.loop-word.invariant)
    ∙ ap sha256 (whole_message source c.to_be_bytes-3.result words (take c.loop-word.word-index words) c.args.budget
    (take_all c.loop-word.word-index words (omega (arith, size, c.loop-word-test.false))) c.to_be_bytes-3.ensures)
