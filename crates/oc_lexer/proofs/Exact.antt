-- The piece that is read at the front of a text is spelled there, and one that is spelled there is read.
use Rattle.std.proofs.Common.{◌≡◌, ℕ, suc, ◌+◌, ◌≤◌, Bool, true, false, cond, List, [], ◌∷◌, ◌++◌, length, get_or, drop, Option, Some, None, refl, sym, ap, subst, ◌∙◌, arith, append_assoc, inl, inr, length-append}
use Rattle.std.specs.Prelude.{not, ◌&&◌, ◌||◌, nat_eq, option_map}
use Rattle.std.proofs.lemmas.Bool.{and_parts, not-true, false≢true}
use Rattle.std.proofs.lemmas.Bool.Decides.{nat_tests, Decides-eqb}
use Rattle.oc_source.specs.declared.literal.Literal.{Literal}
use Rattle.oc_lexer.specs.declared.bytes.ByteClass.TheVariants as class
use Rattle.oc_lexer.specs.declared.kinds.Kind.{Kind}
use Rattle.oc_lexer.specs.declared.kinds.Kind.TheVariants as k
use Rattle.oc_lexer.specs.declared.token.Sign.{Sign}
use Rattle.oc_lexer.specs.declared.token.TokenKind.TheVariants as t
use Rattle.oc_lexer.specs.Bytes.{is_in, is_name_start, is_name_byte, is_digit, begins_with, run, after}
use Rattle.oc_lexer.specs.Kinds.{kind_at}
use Rattle.oc_lexer.specs.Comments.{has_end}
use Rattle.oc_lexer.specs.Words.{keyword_of, word_kind, sign_text}
use Rattle.oc_lexer.specs.ScannedNumbers.{literal_of}
use Rattle.oc_lexer.specs.Literals.{elements_text}
use Rattle.oc_lexer.specs.Directives.{Includes, Defines}
use Rattle.oc_lexer.specs.Pieces.{Piece, Comment, Lexeme, IsRun, SpellsCharacter, SpellsText, Spelled, SpellsPiece}
use Rattle.oc_lexer.specs.Scanned.{body_length, comment_length, sign_at, character_at, quoted, include_length, define_at, piece_by, piece_at, directive_of, defined_piece, lexeme_of_length}
use Rattle.oc_lexer.proofs.Runs.{run-append-after, run_all, after_longest, run_is}
use Rattle.oc_lexer.proofs.Openings.{told}
use Rattle.oc_lexer.proofs.Longest.{sign_some, sign_found, sign_spelled}
use Rattle.oc_lexer.proofs.Elements.{character_found, character_spelled, quoted_found, quoted_spelled}
use Rattle.oc_lexer.proofs.Bodies.{body_found, body_spelled}
use Rattle.oc_lexer.proofs.Written.{number_spelled, number_read}
use Rattle.oc_lexer.proofs.Accepted.{include_found, include_spelled, define_found, define_spelled}

-- ---- what is read is spelled

-- the piece is spelled at the front, by these bytes
pub record Front (kind : Kind) (piece : Piece) (n : ℕ) (text : List ℕ) : Type 0 where
  pub front : List ℕ
  pub rest : List ℕ
  pub whole : text ≡ front ++ rest
  pub size : n ≡ length front
  pub some : 1 ≤ n
  pub spelled : Spelled kind piece front rest

abbrev At : Kind → List ℕ → Option (Piece × ℕ) → Type 0
At kind text None = Unit {0}
At kind text (Some p) = Front kind p.0 p.1 text

and_false : (x : Bool) → (x && false) ≡ false
and_false true = refl
and_false false = refl

eq_from : (a b : ℕ) → nat_eq a b ≡ true → a ≡ b
eq_from a b h = (Decides-eqb a b).0 h

run_front : (kind : Kind) (p : ℕ → Bool) (piece : Piece) (text : List ℕ) → 1 ≤ length (run p text) → (IsRun p (run p text) (after p text) → Spelled kind piece (run p text) (after p text)) → Front kind piece (length (run p text)) text
run_front kind p piece text some spelled = record {
  front = run p text;
  rest = after p text;
  whole = sym (run-append-after p text);
  size = refl;
  some = some;
  spelled = spelled (record { all = run_all p text; longest = after_longest p text });
}

run_some : (p : ℕ → Bool) (b : ℕ) (more : List ℕ) → p b ≡ true → 1 ≤ length (run p (b ∷ more))
run_some p b more h = let e : length (run p (b ∷ more)) ≡ suc (length (run p more)) = ap (λ v. length (cond v (b ∷ run p more) [])) h in omega (arith, e)

name_start : (b : ℕ) → is_name_start b ≡ true → is_name_byte b ≡ true
name_start b h = ap (λ v. v || is_digit b) h

digit_number : (b : ℕ) → is_digit b ≡ true → is_in class.Number b ≡ true
digit_number b h = grind (arith, nat_tests)

slash_line : (b : ℕ) → b ≡ 47 → is_in class.Line b ≡ true
slash_line b h = grind (arith, nat_tests)

number_front : (text : List ℕ) (o : Option Literal) → literal_of (run (is_in class.Number) text) ≡ o → 1 ≤ length (run (is_in class.Number) text) → At k.Number text (lexeme_of_length (length (run (is_in class.Number) text)) o)
number_front text None e some = tt
number_front text (Some literal) e some = run_front k.Number (is_in class.Number) (Lexeme (t.Number literal)) text some (λ r. (literal, refl, number_spelled literal _ e, r))

character_some : (v n : ℕ) (text : List ℕ) → n ≡ length text → SpellsCharacter v text → 1 ≤ n
character_some v n text size s = let l = ap length s.whole in omega arith

character_front : (text : List ℕ) (o : Option (ℕ × ℕ)) → character_at text ≡ o → get_or text 0 0 ≡ 39 → At k.Character text (option_map (λ c. let p : Piece × ℕ = (Lexeme (t.Character c.0), c.1) in p) o)
character_front text None e first = tt
character_front text (Some (v, n)) e first =
    let f = character_found v n text first e in
    record { front = f.text; rest = f.rest; whole = f.whole; size = f.size; some = character_some v n f.text f.size f.spelled; spelled = (v, refl, f.spelled) }

text_front : (more : List ℕ) (o : Option (List ℕ × ℕ)) → quoted more ≡ o → At k.Text (34 ∷ more) (option_map (λ c. let p : Piece × ℕ = (Lexeme (t.Text c.0), c.1 + 1) in p) o)
text_front more None e = tt
text_front more (Some (bytes, n)) e =
    let q = quoted_found more bytes n e in
    let l = length-append (elements_text q.elements) (34 ∷ []) in
    record {
      front = 34 ∷ (elements_text q.elements ++ 34 ∷ []);
      rest = q.rest;
      whole = ap (λ t. 34 ∷ t) (q.whole ∙ sym (append_assoc (elements_text q.elements) (34 ∷ []) q.rest));
      size = let s = q.size in omega arith;
      some = omega arith;
      spelled = (bytes, refl, record { elements = q.elements; whole = refl; fit = q.fit; value = q.value });
    }

sign_front : (text : List ℕ) (o : Option Sign) → sign_at text ≡ o → At k.Sign text (option_map (λ s. let p : Piece × ℕ = (Lexeme (t.Sign s), length (sign_text s)) in p) o)
sign_front text None e = tt
sign_front text (Some s) e =
    let f = sign_found text s e in
    record { front = sign_text s; rest = drop (length (sign_text s)) text; whole = f.0; size = refl; some = sign_some s; spelled = (s, refl, f.1) }

comment_front : (body : List ℕ) (o : Option ℕ) → body_length body ≡ o → At k.BlockComment (47 ∷ 42 ∷ body) (option_map (λ n. let p : Piece × ℕ = (Comment, n) in p) (option_map (λ n. n + 4) o))
comment_front body None e = tt
comment_front body (Some n) e =
    let b = body_found body n e in
    let l = length-append b.body (42 ∷ 47 ∷ []) in
    record {
      front = 47 ∷ 42 ∷ (b.body ++ 42 ∷ 47 ∷ []);
      rest = b.rest;
      whole = ap (λ t. 47 ∷ 42 ∷ t) (b.whole ∙ sym (append_assoc b.body (42 ∷ 47 ∷ []) b.rest));
      size = let s = b.size in omega arith;
      some = omega arith;
      spelled = (refl, (b.body, refl, ap not b.unended));
    }

define_some : (name : List ℕ) (literal : Literal) (n : ℕ) (front rest : List ℕ) → n ≡ length front → Defines name literal front rest → 1 ≤ n
define_some name literal n front rest size d = let l = ap length d.whole in omega arith

include_some : (n : ℕ) (front rest : List ℕ) → n ≡ length front → Includes front rest → 1 ≤ n
include_some n front rest size i = let l = ap length i.whole in omega arith

define_front : (text : List ℕ) (o : Option (List ℕ × Literal × ℕ)) → define_at text ≡ o → At k.Directive text (defined_piece o)
define_front text None e = tt
define_front text (Some (name, literal, n)) e =
    let d = define_found text name literal n e in
    record { front = d.front; rest = d.rest; whole = d.whole; size = d.size; some = define_some name literal n d.front d.rest d.size d.defines; spelled = inr (name, literal, refl, d.defines) }

directive_front : (text : List ℕ) (o : Option ℕ) → include_length text ≡ o → At k.Directive text (directive_of o text)
directive_front text (Some n) e =
    let i = include_found text n e in
    record { front = i.front; rest = i.rest; whole = i.whole; size = i.size; some = include_some n i.front i.rest i.size i.includes; spelled = inl (refl, i.includes) }
directive_front text None e = define_front text (define_at text) refl

block_front : (b : ℕ) (more : List ℕ) → (nat_eq b 47 && begins_with (λ c. nat_eq c 42) more) ≡ true → At k.BlockComment (b ∷ more) (piece_by k.BlockComment (b ∷ more))
unfolding comment_length
block_front b [] h = absurd (false≢true (sym (and_false (nat_eq b 47)) ∙ h))
block_front b (c ∷ more) h =
    let p = and_parts (nat_eq b 47) (nat_eq c 42) h in
    subst (λ x. At k.BlockComment (x ∷ c ∷ more) (piece_by k.BlockComment (x ∷ c ∷ more))) (sym (eq_from b 47 p.0))
    (subst (λ x. At k.BlockComment (47 ∷ x ∷ more) (piece_by k.BlockComment (47 ∷ x ∷ more))) (sym (eq_from c 42 p.1)) (comment_front more (body_length more) refl))

-- a text that opens so
front_at : (kind : Kind) (is_fresh : Bool) (b : ℕ) (more : List ℕ) → kind_at is_fresh (b ∷ more) ≡ kind → At kind (b ∷ more) (piece_by kind (b ∷ more))
unfolding comment_length
front_at k.Blank is_fresh b more e = record { front = b ∷ []; rest = more; whole = refl; size = refl; some = omega arith; spelled = (refl, refl) }
front_at k.LineComment is_fresh b more e =
    let p = and_parts (nat_eq b 47) (begins_with (λ c. nat_eq c 47) more) (told is_fresh b more k.LineComment e) in
    run_front k.LineComment (is_in class.Line) Comment (b ∷ more) (run_some (is_in class.Line) b more (slash_line b (eq_from b 47 p.0))) (λ r. (refl, r))
front_at k.BlockComment is_fresh b more e = block_front b more (told is_fresh b more k.BlockComment e)
front_at k.Directive is_fresh b more e = directive_front (b ∷ more) (include_length (b ∷ more)) refl
front_at k.Word is_fresh b more e = run_front k.Word is_name_byte _ (b ∷ more) (run_some is_name_byte b more (name_start b (told is_fresh b more k.Word e))) (λ r. (refl, r))
front_at k.Number is_fresh b more e = number_front (b ∷ more) (literal_of (run (is_in class.Number) (b ∷ more))) refl (run_some (is_in class.Number) b more (digit_number b (told is_fresh b more k.Number e)))
front_at k.Character is_fresh b more e = character_front (b ∷ more) (character_at (b ∷ more)) refl (eq_from b 39 (told is_fresh b more k.Character e))
front_at k.Text is_fresh b more e = subst (λ x. At k.Text (x ∷ more) (piece_by k.Text (x ∷ more))) (sym (eq_from b 34 (told is_fresh b more k.Text e))) (text_front more (quoted more) refl)
front_at k.Sign is_fresh b more e = sign_front (b ∷ more) (sign_at (b ∷ more)) refl

pub front_of : (is_fresh : Bool) (text : List ℕ) (piece : Piece) (n : ℕ) → (text ≡ [] → ⊥) → piece_at is_fresh text ≡ Some (piece, n) → Front (kind_at is_fresh text) piece n text
front_of is_fresh [] piece n some e = absurd (some refl)
front_of is_fresh (b ∷ more) piece n some e = subst (At (kind_at is_fresh (b ∷ more)) (b ∷ more)) e (front_at (kind_at is_fresh (b ∷ more)) is_fresh b more refl)

-- ---- what is spelled is read

block_spelled : (body text rest : List ℕ) → text ≡ 47 ∷ 42 ∷ (body ++ 42 ∷ 47 ∷ []) → has_end body ≡ false → comment_length (text ++ rest) ≡ Some (length text)
unfolding comment_length
block_spelled body text rest whole h =
    let l = ap length whole in
    let m = length-append body (42 ∷ 47 ∷ []) in
    ap (λ t. comment_length (t ++ rest)) whole ∙ ap (λ t. comment_length (47 ∷ 42 ∷ t)) (append_assoc body (42 ∷ 47 ∷ []) rest) ∙ ap (option_map (λ n. n + 4)) (body_spelled body rest h)
    ∙ ap (λ n. Some n) (let e : length body + 4 ≡ length text = omega arith in e)

text_spelled : (bytes text rest : List ℕ) → SpellsText bytes text → (n : ℕ) × (quoted (drop 1 (text ++ rest)) ≡ Some (bytes, n)) × (n + 1 ≡ length text)
text_spelled bytes text rest s =
    let l = ap length s.whole in
    let m = length-append (elements_text s.elements) (34 ∷ []) in (
      length (elements_text s.elements) + 1,
      ap (λ t. quoted (drop 1 (t ++ rest))) s.whole ∙ ap quoted (append_assoc (elements_text s.elements) (34 ∷ []) rest) ∙ quoted_spelled s.elements rest s.fit ∙ ap (λ b. Some (b, length (elements_text s.elements) + 1)) (sym s.value),
      omega arith,
    )

spelled_at : (kind : Kind) (piece : Piece) (text rest : List ℕ) → Spelled kind piece text rest → piece_by kind (text ++ rest) ≡ Some (piece, length text)
unfolding comment_length
spelled_at k.Blank piece text rest s = ap (λ p. let o : Option (Piece × ℕ) = Some (p, 1) in o) (sym s.0) ∙ ap (λ n. Some (piece, n)) (sym s.1)
spelled_at k.LineComment piece text rest s = ap (λ x. let o : Option (Piece × ℕ) = Some (Comment, length x) in o) (run_is (is_in class.Line) text rest s.1.all s.1.longest) ∙ ap (λ p. Some (p, length text)) (sym s.0)
spelled_at k.BlockComment piece text rest s = ap (option_map (λ n. let p : Piece × ℕ = (Comment, n) in p)) (block_spelled s.1.0 text rest s.1.1 (not-true _ s.1.2)) ∙ ap (λ p. Some (p, length text)) (sym s.0)
spelled_at k.Directive piece text rest (inl s) =
    ap (λ o. directive_of o (text ++ rest)) (include_spelled text rest s.1) ∙ ap (λ p. Some (p, length text)) (sym s.0)
spelled_at k.Directive piece text rest (inr (name, literal, is, d)) =
    let e = define_spelled name literal text rest d in
    ap (λ o. directive_of o (text ++ rest)) e.0 ∙ ap defined_piece e.1 ∙ ap (λ p. Some (p, length text)) (sym is)
spelled_at k.Word piece text rest s =
    ap (λ x. let o : Option (Piece × ℕ) = Some (Lexeme (word_kind (keyword_of x) x), length x) in o) (run_is is_name_byte text rest s.1.all s.1.longest) ∙ ap (λ p. Some (p, length text)) (sym s.0)
spelled_at k.Number piece text rest (literal, is, value, r) =
    ap (λ x. lexeme_of_length (length x) (literal_of x)) (run_is (is_in class.Number) text rest r.all r.longest) ∙ ap (lexeme_of_length (length text)) (number_read literal text value) ∙ ap (λ p. Some (p, length text)) (sym is)
spelled_at k.Character piece text rest (v, is, s) =
    ap (option_map (λ c. let p : Piece × ℕ = (Lexeme (t.Character c.0), c.1) in p)) (character_spelled v text rest s) ∙ ap (λ p. Some (p, length text)) (sym is)
spelled_at k.Text piece text rest (bytes, is, s) =
    let q = text_spelled bytes text rest s in
    ap (option_map (λ c. let p : Piece × ℕ = (Lexeme (t.Text c.0), c.1 + 1) in p)) q.1 ∙ ap (λ n. Some (Lexeme (t.Text bytes), n)) q.2 ∙ ap (λ p. Some (p, length text)) (sym is)
spelled_at k.Sign piece text rest (s, is, h) =
    ap (option_map (λ s. let p : Piece × ℕ = (Lexeme (t.Sign s), length (sign_text s)) in p)) (sign_spelled s text rest h) ∙ ap (λ n. Some (Lexeme (t.Sign s), n)) (sym (ap length h.spelled)) ∙ ap (λ p. Some (p, length text)) (sym is)

pub spelled_of : (is_fresh : Bool) (piece : Piece) (text rest : List ℕ) → SpellsPiece is_fresh piece text rest → piece_at is_fresh (text ++ rest) ≡ Some (piece, length text)
spelled_of is_fresh piece text rest s = spelled_at (kind_at is_fresh (text ++ rest)) piece text rest s
