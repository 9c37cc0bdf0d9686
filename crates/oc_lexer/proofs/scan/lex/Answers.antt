use Rattle.std.proofs.Common.{ℕ, Option, arith, sym, ap, ◌∙◌}
use Rattle.std.specs.Prelude.{option_map}
use Rattle.oc_lexer.specs.declared.pieces.Piece.{Piece as ReadPiece}
use Rattle.oc_lexer.specs.Scanned.{piece_of}
use Rattle.oc_lexer.specs.Pieces.{Piece}
use Rattle.oc_lexer.proofs.Walks.{walked_start, walked_more, walked_within, walked_tokens, walked_end, walked_only, walked_accepted, walked_refused, walked_only_refusal, walked_none, fronts, filtered_some, not_empty, is_nil}
use Rattle.oc_lexer.proofs.scan.lex.Goals as goal

abbrev shown : Option (ReadPiece × ℕ) → Option (Piece × ℕ)
shown found = option_map (λ (r : ReadPiece × ℕ). (piece_of r.0, r.1)) found

pub loop-rest-init : goal.loop-rest-init
loop-rest-init c = walked_start c.args.source.now c.new-known.result c.new-tokens.result (omega arith) c.new-known.ensures.empty c.new-tokens.ensures

pub returns-in_default-clause-refused : goal.returns-in_default-clause-refused
returns-in_default-clause-refused c = walked_refused c.loop-rest.invariant (not_empty c.loop-rest.rest.now (sym c.is_empty.ensures ∙ c.loop-rest-test.true)) (sym c.in_ok-piece.ensures ∙ ap shown c.in_default.is) c.rule_at.result c.rule_at.ensures

pub returns-in_default-clause-only_refusal : goal.returns-in_default-clause-only_refusal
returns-in_default-clause-only_refusal c = walked_only_refusal c.loop-rest.invariant (not_empty c.loop-rest.rest.now (sym c.is_empty.ensures ∙ c.loop-rest-test.true)) (sym c.in_ok-piece.ensures ∙ ap shown c.in_default.is) c.rule_at.result c.rule_at.ensures

pub returns-in_default-clause-none : goal.returns-in_default-clause-none
returns-in_default-clause-none c = walked_none c.loop-rest.invariant (not_empty c.loop-rest.rest.now (sym c.is_empty.ensures ∙ c.loop-rest-test.true)) (sym c.in_ok-piece.ensures ∙ ap shown c.in_default.is)

pub split_at-requires : goal.split_at-requires
split_at-requires c =
    let f = filtered_some _ _ (piece_of c.in-Some.piece) c.in-Some.length (sym c.in_ok-piece.ensures ∙ ap shown c.in-Some.is) in
    (fronts c.loop-rest.place.is_fresh (piece_of c.in-Some.piece) c.in-Some.length c.loop-rest.rest.now (not_empty c.loop-rest.rest.now (sym c.is_empty.ensures ∙ c.loop-rest-test.true)) f.0).within

pub loop-rest-smaller : goal.loop-rest-smaller
loop-rest-smaller c =
    let f = filtered_some _ _ (piece_of c.in-Some.piece) c.in-Some.length (sym c.in_ok-piece.ensures ∙ ap shown c.in-Some.is) in
    let g = fronts c.loop-rest.place.is_fresh (piece_of c.in-Some.piece) c.in-Some.length c.loop-rest.rest.now (not_empty c.loop-rest.rest.now (sym c.is_empty.ensures ∙ c.loop-rest-test.true)) f.0 in
    omega (arith, g.some, c.split_at.ensures.back_len)

pub loop-rest-preserved : goal.loop-rest-preserved
loop-rest-preserved c =
    let found = sym c.in_ok-piece.ensures ∙ ap shown c.in-Some.is in
    let f = filtered_some _ _ (piece_of c.in-Some.piece) c.in-Some.length found in
    let g = fronts c.loop-rest.place.is_fresh (piece_of c.in-Some.piece) c.in-Some.length c.loop-rest.rest.now (not_empty c.loop-rest.rest.now (sym c.is_empty.ensures ∙ c.loop-rest-test.true)) f.0 in
    walked_more c.args.source.now c.loop-rest.rest.now c.split_at.result.0.now c.split_at.result.1.now c.loop-rest.place c.passed-next.result c.loop-rest.known c.take_piece.new.known c.loop-rest.tokens c.take_piece.new.tokens (piece_of c.in-Some.piece) c.in-Some.length c.loop-rest.invariant
    found g c.split_at.ensures.front c.split_at.ensures.back c.passed-next.ensures c.in_ok-take_piece.ensures.known c.in_ok-take_piece.ensures.tokens

pub passed-next-requires-clause-at : goal.passed-next-requires-clause-at
passed-next-requires-clause-at c = let w = walked_within c.args.source.now c.loop-rest.rest.now c.loop-rest.place c.loop-rest.known c.loop-rest.tokens c.loop-rest.invariant in omega (arith, w.0, c.split_at.ensures.front_len, c.split_at.ensures.back_len)

pub passed-next-requires-clause-line : goal.passed-next-requires-clause-line
passed-next-requires-clause-line c = let w = walked_within c.args.source.now c.loop-rest.rest.now c.loop-rest.place c.loop-rest.known c.loop-rest.tokens c.loop-rest.invariant in omega (arith, w.1, c.split_at.ensures.front_len, c.split_at.ensures.back_len)

pub passed-next-requires-clause-column : goal.passed-next-requires-clause-column
passed-next-requires-clause-column c = let w = walked_within c.args.source.now c.loop-rest.rest.now c.loop-rest.place c.loop-rest.known c.loop-rest.tokens c.loop-rest.invariant in omega (arith, w.2, c.split_at.ensures.front_len, c.split_at.ensures.back_len)

pub returns-clause-spelled : goal.returns-clause-spelled
returns-clause-spelled c = walked_tokens c.loop-rest.invariant (is_nil c.loop-rest.rest.now (sym c.is_empty.ensures ∙ c.loop-rest-test.false))

pub returns-clause-end : goal.returns-clause-end
returns-clause-end c = walked_end c.loop-rest.invariant (is_nil c.loop-rest.rest.now (sym c.is_empty.ensures ∙ c.loop-rest-test.false))

pub returns-clause-only : goal.returns-clause-only
returns-clause-only c = walked_only c.loop-rest.invariant (is_nil c.loop-rest.rest.now (sym c.is_empty.ensures ∙ c.loop-rest-test.false))

pub returns-clause-accepted : goal.returns-clause-accepted
returns-clause-accepted c = walked_accepted c.loop-rest.invariant (is_nil c.loop-rest.rest.now (sym c.is_empty.ensures ∙ c.loop-rest-test.false))
