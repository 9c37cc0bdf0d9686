use Rattle.std.proofs.Common.{◌+◌, ◌*◌, ℕ, List, take, drop, sym, ap, subst, ◌∙◌, arith}
use Rattle.std.proofs.lemmas.Option.{none-some}
use Rattle.dealt_transfer.specs.Files.{Half1}
use Rattle.oc_values.proofs.Packs.{IsBytes}
use Rattle.dealt_transfer.proofs.Faults.{sender_passes}
use Rattle.dealt_transfer.proofs.Spelled.{sender_read, same_sender, sender_faultless}
use Rattle.dealt_transfer.proofs.reading.read_sender_half.Goals as goal

pub returns-in-Some-clause-again : goal.returns-in-Some-clause-again
returns-in-Some-clause-again c half h =
    none-some _ (sym (sender_faultless c.args.bytes.now half h) ∙ sym c.sender_fault.ensures ∙ c.in-Some.is)

pub count_at-count-requires : goal.count_at-count-requires
count_at-count-requires c = (sender_passes c.args.bytes.now (sym c.sender_fault.ensures ∙ c.in_default.is)).0.long

pub sixteen_at-requires : goal.sixteen_at-requires
sixteen_at-requires c = let p = (sender_passes c.args.bytes.now (sym c.sender_fault.ensures ∙ c.in_default.is)).0.long in omega (arith, p)

pub thirty_two_at-requires : goal.thirty_two_at-requires
thirty_two_at-requires c = let p = (sender_passes c.args.bytes.now (sym c.sender_fault.ensures ∙ c.in_default.is)).0.long in omega (arith, p)

pub read_pairs-requires : goal.read_pairs-requires
read_pairs-requires c = (sender_passes c.args.bytes.now (sym c.sender_fault.ensures ∙ c.in_default.is)).1 ∙ ap (λ (n : ℕ). 57 + 32 * n) (sym c.count_at-count.ensures)

pub returns-clause-reads : goal.returns-clause-reads
returns-clause-reads c =
    let bytes = c.args.bytes.now in
    let pads = c.in_ok-read_pairs.field-0 in
    let passes = sender_passes bytes (sym c.sender_fault.ensures ∙ c.in_default.is) in
    let fits : IsBytes bytes = λ i. omega (arith, c.type_inv.bytes i) in
    let half = sender_read bytes pads fits passes.0 c.in_ok-read_pairs.ensures.bytes (c.in_ok-read_pairs.ensures.count ∙ c.count_at-count.ensures) c.in_ok-read_pairs.ensures.pads in
    subst (λ (tag : List ℕ). Half1 bytes (record { tag = tag; coin_key = c.thirty_two_at.result; pads = pads })) (sym c.sixteen_at.ensures)
    (subst (λ (key : List ℕ). Half1 bytes (record { tag = take 16 (drop 5 bytes); coin_key = key; pads = pads })) (sym c.thirty_two_at.ensures) half)

pub returns-clause-again : goal.returns-clause-again
returns-clause-again c half h = same_sender c.args.bytes.now _ half (returns-clause-reads c) h
