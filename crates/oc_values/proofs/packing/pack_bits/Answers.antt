use Rattle.std.proofs.Common.{◌≡◌, ◌++◌, ◌∷◌, [], List, ℕ, ◌<◌, length, drop, take, sym, ap, ◌∙◌, arith, append_assoc, append-nil}
use Rattle.std.proofs.lemmas.Bool.Decides.{nat_tests}
use Rattle.oc_values.specs.Packing.{number_of_bits, pack}
use Rattle.oc_values.proofs.Packs.{pack_more, pack_last, pack_none}
use Rattle.oc_values.proofs.packing.pack_bits.Goals as goal

pub loop-rest-preserved : goal.loop-rest-preserved
loop-rest-preserved c =
    let out = c.loop-rest.out.items in
    let rest = c.loop-rest.rest.now in
    let byte : c.pack_byte.result ≡ number_of_bits (take 8 rest) = c.pack_byte.ensures ∙ ap number_of_bits c.split_at.ensures.front in
    let written : c.push.new.self.items ≡ out ++ number_of_bits (take 8 rest) ∷ [] = c.in_ok-push.ensures.items ∙ ap (λ (b : ℕ). out ++ b ∷ []) byte in
    let one : (out ++ number_of_bits (take 8 rest) ∷ []) ++ pack (drop 8 rest) ≡ out ++ pack rest =
    append_assoc out (number_of_bits (take 8 rest) ∷ []) (pack (drop 8 rest)) ∙ ap (λ (t : List ℕ). out ++ t) (sym (pack_more rest c.loop-rest-test.true)) in
    ap (λ (t : List ℕ). t ++ pack c.split_at.result.1.now) written ∙ ap (λ t. (out ++ number_of_bits (take 8 rest) ∷ []) ++ pack t) c.split_at.ensures.back ∙ one ∙ c.loop-rest.invariant

pub returns-in_ok-push-2 : goal.returns-in_ok-push-2
returns-in_ok-push-2 c =
    let out = c.loop-rest.out.items in
    let rest = c.loop-rest.rest.now in
    let tested = c.is_empty.ensures in
    let some : 0 < length rest = grind (arith, nat_tests) in
    c.in_ok-push-2.ensures.items ∙ ap (λ (b : ℕ). out ++ b ∷ []) c.pack_byte-then-not-is_empty.ensures ∙ ap (λ (t : List ℕ). out ++ t) (sym (pack_last rest c.loop-rest-test.false some)) ∙ c.loop-rest.invariant

pub returns-else-not-is_empty : goal.returns-else-not-is_empty
returns-else-not-is_empty c =
    let out = c.loop-rest.out.items in
    let rest = c.loop-rest.rest.now in
    let tested = c.is_empty.ensures in
    let none : length rest ≡ 0 = grind (arith, nat_tests) in
    sym (append-nil out) ∙ ap (λ (t : List ℕ). out ++ t) (sym (pack_none rest none)) ∙ c.loop-rest.invariant
