-- The first bytes of a source, up to one more than it may have, say of the whole whether it is accepted and which rule it breaks.
use Rattle.std.proofs.Common.{ℕ, ◌≡◌, ◌<◌, ◌≤◌, List, [], length, take, sym, ap, ◌∙◌, subst, arith, min, inl, inr}
use Rattle.std.specs.Prelude.{◌⊎◌}
use Rattle.std.proofs.lemmas.List.{take_all, length-take}
use Rattle.std.proofs.lemmas.Bool.{cases_lt}
use Rattle.oc_source.specs.declared.spot.Spot.{Spot}
use Rattle.oc_source.specs.declared.parsed.Program.{Program}
use Rattle.oc_lexer.specs.declared.token.LexRule.TheVariants.{L6}
use Rattle.oc_lexer.specs.Places.{spot_after}
use Rattle.oc_typing.specs.declared.program.Typed.{Typed}
use Rattle.accepted_sources.specs.declared.rules.SourceRule.{SourceRule}
use Rattle.accepted_sources.specs.declared.rules.SourceRule.TheVariants.{Lex, Parse, Types, Scopes}
use Rattle.accepted_sources.specs.Accepted.{IsLexed, IsParsed, IsTyped, Accepted, IsRefusedBy}
use Rattle.accepted_sources.specs.Answers.{IsAccepted, IsRefused}

pub below_limit : (whole bytes : List ℕ) (limit : ℕ) → bytes ≡ take limit whole → length bytes < limit → whole ≡ bytes
below_limit whole bytes limit e lt =
    let n : length bytes ≡ min limit (length whole) = ap length e ∙ length-take limit whole in
    sym (e ∙ take_all limit whole (omega arith))

parsed_size : (source : List ℕ) (program : Program) → IsParsed source program → length source ≤ 1048576
parsed_size source program p = p.tokens.spelled.size

accepted_size : (source : List ℕ) (t : Typed) → Accepted source t → length source ≤ 1048576
accepted_size source t a = parsed_size source a.typed.program a.typed.parsed

-- a front is the whole, or both are long
front_or_long : (whole bytes : List ℕ) → bytes ≡ take 1048577 whole → (whole ≡ bytes) ⊎ ((1048576 < length bytes) × (1048576 < length whole))
front_or_long whole bytes e = at_length (cases_lt (length bytes) 1048577)
  where
    size : length bytes ≡ min 1048577 (length whole)
    size = ap length e ∙ length-take 1048577 whole

    at_length : (length bytes < 1048577) ⊎ (1048577 ≤ length bytes) → (whole ≡ bytes) ⊎ ((1048576 < length bytes) × (1048576 < length whole))
    at_length (inl short) = inl (below_limit whole bytes 1048577 e short)
    at_length (inr long) = inr (omega (arith, long), omega (arith, size, long))

-- a text is accepted where its front is
pub accepted_front : (whole bytes : List ℕ) (program : Program) (t : Typed) → bytes ≡ take 1048577 whole → IsAccepted bytes program t → IsAccepted whole program t
accepted_front whole bytes program t e a =
    let size = accepted_size bytes t a.accepted in
    subst (λ s. IsAccepted s program t) (sym (below_limit whole bytes 1048577 e (omega (arith, size)))) a

-- a long text is refused by one rule, at its start
long_refused : (source : List ℕ) (broken : SourceRule) (spot : Spot) → 1048576 < length source → IsRefusedBy source broken spot → (broken ≡ Lex L6) × (spot ≡ spot_after [])
long_refused source (Lex broken) spot long (inl b) = (ap Lex b.1, b.2)
long_refused source (Lex broken) spot long (inr short) = absurd (omega (arith, short.0, long))
long_refused source (Parse broken) spot long b = let lexed : IsLexed source b.0 = b.1 in absurd (omega (arith, lexed.spelled.size, long))
long_refused source (Types broken) spot long b = let size = parsed_size source b.0 b.1 in absurd (omega (arith, size, long))
long_refused source (Scopes broken) spot long b =
    let t : IsTyped source b.0 = b.1 in
    let size = parsed_size source t.program t.parsed in absurd (omega (arith, size, long))

-- a long text is refused by the rule that refuses its front, which is long too
refused_by_long : (whole bytes : List ℕ) (broken : SourceRule) (spot : Spot) → 1048576 < length bytes → 1048576 < length whole → IsRefusedBy bytes broken spot → IsRefusedBy whole broken spot
refused_by_long whole bytes (Lex broken) spot lb lw (inl long) = inl (lw, long.1, long.2)
refused_by_long whole bytes (Lex broken) spot lb lw (inr short) = absurd (omega (arith, short.0, lb))
refused_by_long whole bytes (Parse broken) spot lb lw b = let lexed : IsLexed bytes b.0 = b.1 in absurd (omega (arith, lexed.spelled.size, lb))
refused_by_long whole bytes (Types broken) spot lb lw b = let size = parsed_size bytes b.0 b.1 in absurd (omega (arith, size, lb))
refused_by_long whole bytes (Scopes broken) spot lb lw b =
    let t : IsTyped bytes b.0 = b.1 in
    let size = parsed_size bytes t.program t.parsed in absurd (omega (arith, size, lb))

refused_long : (whole bytes : List ℕ) (broken : SourceRule) (spot : Spot) → 1048576 < length bytes → 1048576 < length whole → IsRefused bytes broken spot → IsRefused whole broken spot
refused_long whole bytes broken spot lb lw h = record {
  broken = refused_by_long whole bytes broken spot lb lw h.broken;
  only = λ other at b. let one = long_refused whole other at lw b in let two = long_refused bytes broken spot lb h.broken in (one.0 ∙ sym two.0, one.1 ∙ sym two.1);
  none = λ t a. let size = accepted_size whole t a in absurd (omega (arith, size, lw));
}

-- a text is refused as its front is
pub refused_front : (whole bytes : List ℕ) (broken : SourceRule) (spot : Spot) → bytes ≡ take 1048577 whole → IsRefused bytes broken spot → IsRefused whole broken spot
refused_front whole bytes broken spot e h = at_front (front_or_long whole bytes e)
  where
    at_front : (whole ≡ bytes) ⊎ ((1048576 < length bytes) × (1048576 < length whole)) → IsRefused whole broken spot
    at_front (inl same) = subst (λ s. IsRefused s broken spot) (sym same) h
    at_front (inr long) = refused_long whole bytes broken spot long.0 long.1 h
