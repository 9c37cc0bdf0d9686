use Rattle.std.proofs.Common.{◌≡◌, ◌+◌, Some, sym, ap, ◌∙◌, arith, ℕ, inl, inr}
use Rattle.oc_lexer.specs.Scanned.{onto, quoted}
use Rattle.oc_lexer.proofs.CommentEnds.{within_or_past}
use Rattle.oc_lexer.proofs.Quotes.{read_none, read_more, read_end, onto_none}
use Rattle.oc_lexer.proofs.literals.quoted.Goals as goal

zero_is_no_quote : (b : ℕ) → b ≡ 0 → b ≡ 34 → ⊥
zero_is_no_quote b e h = omega arith

pub loop-rest-init : goal.loop-rest-init
loop-rest-init c = record { within = omega arith; so_far = ap (λ b. onto b 0 (quoted c.args.text.now)) c.new-bytes.ensures.items ∙ onto_none (quoted c.args.text.now) }

pub split_at-requires : goal.split_at-requires
split_at-requires c = c.loop-rest.invariant.within

pub returns-in_default : goal.returns-in_default
returns-in_default c = record {
  within = tt;
  value = read_none c.loop-rest.bytes.items c.loop-rest.at c.args.text.now c.split_at.result.1.now _ c.loop-rest.invariant c.split_at.ensures.back (λ e. c.loop-rest-test.true (c.byte_at.ensures ∙ e)) c.in_default.ensures.value;
}

pub loop-rest-smaller : goal.loop-rest-smaller
loop-rest-smaller c = omega (arith, c.loop-rest.invariant.within, c.split_at.ensures.back_len, c.in-Some.ensures.within, c.in-Some.ensures.some)

pub loop-rest-preserved : goal.loop-rest-preserved
loop-rest-preserved c =
    read_more c.loop-rest.bytes.items c.loop-rest.at c.args.text.now c.split_at.result.1.now _ c.in-Some.value c.in-Some.length _ c.loop-rest.invariant c.split_at.ensures.back (λ e. c.loop-rest-test.true (c.byte_at.ensures ∙ e)) c.in-Some.ensures.value
    (omega (arith, c.split_at.ensures.back_len, c.in-Some.ensures.within)) c.in_ok-push.ensures.items

pub returns : goal.returns
returns c =
    let h = sym c.byte_at.ensures ∙ c.loop-rest-test.false in
    record {
      within = elim (within_or_past c.args.text.now c.loop-rest.at) [ inl lt ↦ omega arith | inr e ↦ absurd (zero_is_no_quote _ e h) ];
      value = ap (λ b. Some (b, c.loop-rest.at + 1)) c.in_ok-from_vec.ensures ∙ read_end c.loop-rest.bytes.items c.loop-rest.at c.args.text.now _ c.loop-rest.invariant h;
    }
