-- Pieces one after the other: how a walk goes on, and that there is one of them.
use Rattle.std.proofs.Common.{◌≡◌, ℕ, suc, ◌+◌, ◌≤◌, Bool, true, false, cond, List, [], ◌∷◌, ◌++◌, length, take, drop, Option, Some, None, refl, sym, ap, subst, ◌∙◌, arith, zero-add, append_assoc, inl, inr, take-append-drop}
use Rattle.std.specs.Prelude.{◌&&◌, nat_eq, fold, count_by, is_none}
use Rattle.std.specs.List.{list_all}
use Rattle.std.specs.Map.{lookup}
use Rattle.std.specs.Str.{bytes_eq}
use Rattle.std.specs.BTreeMap.{BTreeMap, is_at}
use Rattle.std.specs.Ordering.{nat_cmp}
use Rattle.std.specs.Cmp.Lexicographic.{slice_cmp}
use Rattle.std.proofs.lemmas.Bool.{true≢false}
use Rattle.std.proofs.lemmas.Bool.Decides.{nat_tests}
use Rattle.std.proofs.lemmas.List.{append-nil, length-append, length_push}
use Rattle.std.proofs.lemmas.List.Sums.{fold-append, sum_by-append, count_by-le-length}
use Rattle.std.proofs.lemmas.List.Folds.{list_all-append}
use Rattle.std.proofs.lemmas.Cmp.{nat_list_eq_equiv}
use denote.Ref.{Bor}
use Rattle.oc_lexer.proofs.Exact.{front_of, spelled_of}
use Rattle.oc_lexer.proofs.Written.{rule_is, rule_only}
use Rattle.oc_lexer.proofs.Openings.{split_is, take_front, drop_front}
use Rattle.oc_source.specs.declared.spot.Spot.{Spot}
use Rattle.oc_source.specs.declared.literal.Literal.{Literal}
use Rattle.oc_lexer.specs.declared.places.Place.{Place}
use Rattle.oc_lexer.specs.declared.token.LexRule.{LexRule}
use Rattle.oc_lexer.specs.declared.token.Token.{Token}
use Rattle.oc_lexer.specs.declared.token.TokenKind.{TokenKind}
use Rattle.oc_lexer.specs.declared.token.TokenKind.TheVariants as t
use Rattle.oc_lexer.specs.declared.bytes.ByteClass.TheVariants as class
use Rattle.oc_lexer.specs.declared.kinds.Kind.{Kind}
use Rattle.oc_lexer.specs.declared.kinds.Kind.TheVariants as k
use Rattle.oc_lexer.specs.Bytes.{is_blank, is_in, run}
use Rattle.oc_lexer.specs.Kinds.{kind_at}
use Rattle.oc_lexer.specs.Places.{is_newline, last_line, spot_after, is_fresh_after}
use Rattle.oc_lexer.specs.Moving.{place_of, stepped, passed, token_between}
use Rattle.oc_lexer.specs.Pieces.{Piece, Blank, Comment, Include, Define, Lexeme, Spelled, SpellsPiece}
use Rattle.oc_lexer.specs.Sources.{Definitions, defined, with_piece, is_new, is_new_by, Laid, laid, AreLaid, definitions, token_by, replaced_by, number_or_name, tokens_of, Spells, IsRule, IsStuck, BreaksOff, HasNoTokens}
use Rattle.oc_lexer.specs.Known.{Knows, get_at, known_after, filtered}
use Rattle.oc_lexer.specs.ScannedNumbers.{literal_of}
use Rattle.oc_lexer.specs.Scanned.{piece_at, piece_by, lexeme_of_length, rule_of, sign_at}

-- ---- the piece at the front of a text

-- the piece has these bytes at the front of the text
pub record Fronts (is_fresh : Bool) (piece : Piece) (n : ℕ) (text : List ℕ) : Type 0 where
  pub within : n ≤ length text
  pub some : 1 ≤ n
  pub spells : SpellsPiece is_fresh piece (take n text) (drop n text)

pub fronts : (is_fresh : Bool) (piece : Piece) (n : ℕ) (text : List ℕ) → (text ≡ [] → ⊥) → piece_at is_fresh text ≡ Some (piece, n) → Fronts is_fresh piece n text
fronts is_fresh piece n text some e =
    let f = front_of is_fresh text piece n some e in
    let s = split_is n text f.front f.rest f.whole f.size in
    record {
      within = s.within;
      some = f.some;
      spells =
          subst (λ x. Spelled (kind_at is_fresh (take n text ++ drop n text)) piece x (drop n text)) (sym s.front_is)
          (subst (λ x. Spelled (kind_at is_fresh (take n text ++ drop n text)) piece f.front x) (sym s.rest_is) (subst (λ x. Spelled (kind_at is_fresh x) piece f.front f.rest) (sym (take-append-drop n text)) f.spelled));
    }

no_piece : (is_fresh : Bool) → piece_at is_fresh [] ≡ None
unfolding kind_at sign_at
no_piece is_fresh = refl

nothing_spelled : (is_fresh : Bool) (text : List ℕ) (piece : Piece) (n : ℕ) → piece_at is_fresh text ≡ Some (piece, n) → text ≡ [] → ⊥
nothing_spelled is_fresh text piece n e empty =
    let h : (let o : Option (Piece × ℕ) = None in o) ≡ Some (piece, n) = sym (no_piece is_fresh) ∙ ap (piece_at is_fresh) (sym empty) ∙ e in
    cc

pub spelled_piece : (is_fresh : Bool) (piece : Piece) (text rest : List ℕ) → SpellsPiece is_fresh piece text rest → (piece_at is_fresh (text ++ rest) ≡ Some (piece, length text)) × (text ++ rest ≡ [] → ⊥)
spelled_piece is_fresh piece text rest s = let e = spelled_of is_fresh piece text rest s in (e, nothing_spelled is_fresh (text ++ rest) piece (length text) e)

first : Option (Piece × ℕ) → Piece
first None = Blank
first (Some p) = p.0

second : Option (Piece × ℕ) → ℕ
second None = 0
second (Some p) = p.1

-- one piece is spelled at the front of a text
pub same_piece : (is_fresh : Bool) (p q : Piece) (x y r s : List ℕ) → SpellsPiece is_fresh p x r → SpellsPiece is_fresh q y s → x ++ r ≡ y ++ s → (p ≡ q) × (x ≡ y) × (r ≡ s)
unfolding first second
same_piece is_fresh p q x y r s hp hq e =
    let a = (spelled_piece is_fresh p x r hp).0 in
    let b = (spelled_piece is_fresh q y s hq).0 in
    let both : Some (p, length x) ≡ Some (q, length y) = sym a ∙ ap (piece_at is_fresh) e ∙ b in
    let piece : p ≡ q = ap first both in
    let size : length x ≡ length y = ap second both in
    let text : x ≡ y = sym (take_front x r) ∙ ap (take (length x)) e ∙ ap (λ n. take n (y ++ s)) size ∙ take_front y s in
    (piece, text, sym (drop_front x r) ∙ ap (drop (length x)) e ∙ ap (λ n. drop n (y ++ s)) size ∙ drop_front y s)

-- ---- a walk goes on by one piece

pub laid-push : (ls : List Laid) (l : Laid) (rest : List ℕ) → laid (ls ++ l ∷ []) ++ rest ≡ laid ls ++ (l.text ++ rest)
laid-push [] l rest = ap (λ t. t ++ rest) (append-nil l.text)
laid-push (m ∷ ms) l rest = append_assoc m.text (laid (ms ++ l ∷ [])) rest ∙ ap (λ t. m.text ++ t) (laid-push ms l rest) ∙ sym (append_assoc m.text (laid ms) (l.text ++ rest))

laid_push : (ls : List Laid) (l : Laid) → laid (ls ++ l ∷ []) ≡ laid ls ++ l.text
laid_push [] l = append-nil l.text
laid_push (m ∷ ms) l = ap (λ t. m.text ++ t) (laid_push ms l) ∙ sym (append_assoc m.text (laid ms) l.text)

pub definitions_push : (ds : Definitions) (ls : List Laid) (l : Laid) → definitions ds (ls ++ l ∷ []) ≡ with_piece (definitions ds ls) l.piece
definitions_push ds [] l = refl
definitions_push ds (m ∷ ms) l = definitions_push (with_piece ds m.piece) ms l

pub are_laid_push : (front : List ℕ) (ds : Definitions) (ls : List Laid) (l : Laid) (rest : List ℕ) → AreLaid front ds ls (l.text ++ rest) → SpellsPiece (is_fresh_after (front ++ laid ls)) l.piece l.text rest → is_new (definitions ds ls) l.piece ≡ true
    → AreLaid front ds (ls ++ l ∷ []) rest
are_laid_push front ds [] l rest are spells new = (subst (λ t. SpellsPiece (is_fresh_after t) l.piece l.text rest) (append-nil front) spells, new, tt)
are_laid_push front ds (m ∷ ms) l rest are spells new = (
  subst (λ t. SpellsPiece (is_fresh_after front) m.piece m.text t) (sym (laid-push ms l rest)) are.0,
  are.1,
  are_laid_push (front ++ m.text) (with_piece ds m.piece) ms l rest are.2 (subst (λ t. SpellsPiece (is_fresh_after t) l.piece l.text rest) (sym (append_assoc front m.text (laid ms))) spells) new,
)

pub tokens_push : (front : List ℕ) (ds : Definitions) (ls : List Laid) (l : Laid) → tokens_of front ds (ls ++ l ∷ []) ≡ tokens_of front ds ls ++ token_by (defined (definitions ds ls)) (front ++ laid ls) l.text l.piece
tokens_push front ds [] l = append-nil (token_by (defined ds) front l.text l.piece) ∙ ap (λ f. token_by (defined ds) f l.text l.piece) (sym (append-nil front))
tokens_push front ds (m ∷ ms) l =
    let t = token_by (defined ds) front m.text m.piece in
    ap (λ ts. t ++ ts) (tokens_push (front ++ m.text) (with_piece ds m.piece) ms l)
    ∙ sym (append_assoc t (tokens_of (front ++ m.text) (with_piece ds m.piece) ms) (token_by (defined (definitions (with_piece ds m.piece) ms)) (front ++ m.text ++ laid ms) l.text l.piece))
    ∙ ap (λ f. t ++ tokens_of (front ++ m.text) (with_piece ds m.piece) ms ++ token_by (defined (definitions (with_piece ds m.piece) ms)) f l.text l.piece) (append_assoc front m.text (laid ms))

-- ---- there is one walk

pub stuck_end : (front : List ℕ) (ds : Definitions) → IsStuck front ds []
stuck_end front ds = λ piece spelling rest e spells new. (spelled_piece (is_fresh_after front) piece spelling rest spells).1 (sym e)

same_laid : (p q : Laid) → p.piece ≡ q.piece → p.text ≡ q.text → p ≡ q
same_laid p q e f = ap (λ x. let l : Laid = record { piece = x; text = p.text } in l) e ∙ ap (λ x. let l : Laid = record { piece = q.piece; text = x } in l) f

pub same_walk : (front : List ℕ) (ds : Definitions) (ps qs : List Laid) (r s : List ℕ) → AreLaid front ds ps r → AreLaid front ds qs s → laid ps ++ r ≡ laid qs ++ s → IsStuck (front ++ laid ps) (definitions ds ps) r → IsStuck (front ++ laid qs) (definitions ds qs) s
    → (ps ≡ qs) × (r ≡ s)
same_walk front ds [] [] r s hp hq e stuck other = (refl, e)
same_walk front ds [] (q ∷ qs) r s hp hq e stuck other =
    absurd (subst (λ f. IsStuck f ds r) (append-nil front) stuck q.piece q.text (laid qs ++ s) (e ∙ append_assoc q.text (laid qs) s) hq.0 hq.1)
same_walk front ds (p ∷ ps) [] r s hp hq e stuck other =
    absurd (subst (λ f. IsStuck f ds s) (append-nil front) other p.piece p.text (laid ps ++ r) (sym e ∙ append_assoc p.text (laid ps) r) hp.0 hp.1)
same_walk front ds (p ∷ ps) (q ∷ qs) r s hp hq e stuck other =
    let h = same_piece (is_fresh_after front) p.piece q.piece p.text q.text (laid ps ++ r) (laid qs ++ s) hp.0 hq.0 (sym (append_assoc p.text (laid ps) r) ∙ e ∙ append_assoc q.text (laid qs) s) in
    let same = same_laid p q h.0 h.1 in
    let k = same_walk (front ++ p.text) (with_piece ds p.piece) ps qs r s hp.2 (subst (λ (x : Laid). AreLaid (front ++ x.text) (with_piece ds x.piece) qs s) (sym same) hq.2) h.2
    (subst (λ f. IsStuck f (definitions (with_piece ds p.piece) ps) r) (sym (append_assoc front p.text (laid ps))) stuck)
    (subst (λ (x : Laid). IsStuck (front ++ x.text ++ laid qs) (definitions (with_piece ds x.piece) qs) s) (sym same) (subst (λ f. IsStuck f (definitions (with_piece ds q.piece) qs) s) (sym (append_assoc front q.text (laid qs))) other)) in
    (ap (λ x. x ∷ ps) same ∙ ap (λ xs. q ∷ xs) k.0, k.1)

-- ---- what a map knows

alike_new : (known : List ℕ → Option Literal) (ds : Definitions) (piece : Piece) → ((name : List ℕ) → known name ≡ defined ds name) → is_new_by known piece ≡ is_new ds piece
alike_new known ds Blank h = refl
alike_new known ds Comment h = refl
alike_new known ds Include h = refl
alike_new known ds (Define name literal) h = ap is_none (h name)
alike_new known ds (Lexeme kind) h = refl

alike_kind : (known : List ℕ → Option Literal) (ds : Definitions) (kind : TokenKind) → ((name : List ℕ) → known name ≡ defined ds name) → replaced_by known kind ≡ replaced_by (defined ds) kind
alike_kind known ds (t.Name name) h = ap (λ o. number_or_name o name) (h name)
alike_kind known ds (t.Keyword keyword) h = refl
alike_kind known ds (t.Number literal) h = refl
alike_kind known ds (t.Character byte) h = refl
alike_kind known ds (t.Text bytes) h = refl
alike_kind known ds (t.Sign sign) h = refl

alike_token : (known : List ℕ → Option Literal) (ds : Definitions) (front text : List ℕ) (piece : Piece) → ((name : List ℕ) → known name ≡ defined ds name) → token_between known (place_of front) (place_of (front ++ text)) piece ≡ token_by (defined ds) front text piece
alike_token known ds front text Blank h = refl
alike_token known ds front text Comment h = refl
alike_token known ds front text Include h = refl
alike_token known ds front text (Define name literal) h = refl
alike_token known ds front text (Lexeme kind) h = ap (λ k. let x : Token = record { kind = k; from = length front; to = length (front ++ text); spot = spot_after front } in x ∷ []) (alike_kind known ds kind h)

alike_after : (known : List ℕ → Option Literal) (ds : Definitions) (piece : Piece) (name : List ℕ) → ((q : List ℕ) → known q ≡ defined ds q) → known_after known piece name ≡ defined (with_piece ds piece) name
alike_after known ds Blank name h = h name
alike_after known ds Comment name h = h name
alike_after known ds Include name h = h name
alike_after known ds (Define other literal) name h = ap (λ b. cond b (Some literal) (known name)) (nat_list_eq_equiv.symm other name) ∙ ap (λ o. cond (bytes_eq name other) (Some literal) o) (h name)
alike_after known ds (Lexeme kind) name h = h name

filtered_at : (known : List ℕ → Option Literal) (found : Piece × ℕ) (piece : Piece) (n : ℕ) (b : Bool) → is_new_by known found.0 ≡ b → cond b (Some found) None ≡ Some (piece, n) → (Some found ≡ Some (piece, n)) × (is_new_by known piece ≡ true)
unfolding first
filtered_at known found piece n true h e = (e, ap (is_new_by known) (sym (ap first e)) ∙ h)
filtered_at known found piece n false h e = absurd cc

pub filtered_some : (known : List ℕ → Option Literal) (o : Option (Piece × ℕ)) (piece : Piece) (n : ℕ) → filtered known o ≡ Some (piece, n) → (o ≡ Some (piece, n)) × (is_new_by known piece ≡ true)
filtered_some known None piece n e = absurd cc
filtered_some known (Some found) piece n e = filtered_at known found piece n (is_new_by known found.0) refl e

filtered_none : (known : List ℕ → Option Literal) (o : Option (Piece × ℕ)) (piece : Piece) (n : ℕ) → filtered known o ≡ None → o ≡ Some (piece, n) → is_new_by known piece ≡ true → ⊥
filtered_none known o piece n e is new =
    let a : filtered known (Some (piece, n)) ≡ None = ap (filtered known) (sym is) ∙ e in
    let b : filtered known (Some (piece, n)) ≡ Some (piece, n) = ap (λ b. cond b (Some (piece, n)) None) new in
    cc

pub stuck : (m : BTreeMap (Bor (List ℕ)) Literal) (ds : Definitions) (front text : List ℕ) → Knows m ds → filtered (get_at m) (piece_at (is_fresh_after front) text) ≡ None → IsStuck front ds text
stuck m ds front text knows e = λ piece spelling rest is spells new.
    filtered_none (get_at m) (piece_at (is_fresh_after front) text) piece (length spelling) e (ap (piece_at (is_fresh_after front)) is ∙ (spelled_piece (is_fresh_after front) piece spelling rest spells).0) (alike_new (get_at m) ds piece knows ∙ new)

-- ---- places

placed : ℕ → ℕ → ℕ → Bool → Place
placed at line column is_fresh = record { at = at; spot = record { line = line; column = column }; is_fresh = is_fresh }

same_place : (a b c d e f : ℕ) (x y : Bool) → a ≡ b → c ≡ d → e ≡ f → x ≡ y → placed a c e x ≡ placed b d f y
same_place a b c d e f x y p q r s = ap (λ n. placed n c e x) p ∙ ap (λ n. placed b n e x) q ∙ ap (λ n. placed b d n x) r ∙ ap (placed b d f) s

on_line : List ℕ → ℕ → List ℕ
on_line line b = cond (is_newline b) [] (line ++ b ∷ [])

last_line_push : (front : List ℕ) (b : ℕ) (v : Bool) → is_newline b ≡ v → last_line (front ++ b ∷ []) ≡ cond v [] (last_line front ++ b ∷ [])
last_line_push front b v h = fold-append (λ (line : List ℕ) (c : ℕ). cond (is_newline c) [] (line ++ c ∷ [])) [] front (b ∷ []) ∙ ap (λ x. cond x [] (last_line front ++ b ∷ [])) h

count_push : (front : List ℕ) (b : ℕ) (v : Bool) → is_newline b ≡ v → count_by is_newline (front ++ b ∷ []) ≡ count_by is_newline front + cond v 1 0
count_push front b v h =
    sum_by-append (λ c. cond (is_newline c) 1 0) front (b ∷ [])
    ∙ ap (λ n. count_by is_newline front + n) (zero-add (cond (is_newline b) 1 0) ∙ ap (λ x. cond x 1 0) h)

and_true : (x : Bool) → (x && true) ≡ x
and_true true = refl
and_true false = refl

fresh_push : (line : List ℕ) (b : ℕ) → (list_all is_blank line && is_blank b) ≡ list_all is_blank (line ++ b ∷ [])
fresh_push line b = ap (λ x. list_all is_blank line && x) (sym (and_true (is_blank b))) ∙ sym (list_all-append is_blank line (b ∷ []))

place_at : (front : List ℕ) (b : ℕ) (v : Bool) → is_newline b ≡ v
    → cond v (placed (length front + 1) (count_by is_newline front + 1 + 1) 1 true) (placed (length front + 1) (count_by is_newline front + 1) (length (last_line front) + 1 + 1) (is_fresh_after front && is_blank b)) ≡ place_of (front ++ b ∷ [])
unfolding placed
place_at front b true h =
    let c = count_push front b true h in
    same_place (length front + 1) (length (front ++ b ∷ [])) (count_by is_newline front + 1 + 1) (count_by is_newline (front ++ b ∷ []) + 1) 1 (length (last_line (front ++ b ∷ [])) + 1) true (is_fresh_after (front ++ b ∷ []))
    (sym (length_push front b)) (omega (arith, c)) (ap (λ t. length t + 1) (sym (last_line_push front b true h))) (ap (list_all is_blank) (sym (last_line_push front b true h)))
place_at front b false h =
    let c = count_push front b false h in
    let l = ap length (last_line_push front b false h) ∙ length_push (last_line front) b in
    same_place (length front + 1) (length (front ++ b ∷ [])) (count_by is_newline front + 1) (count_by is_newline (front ++ b ∷ []) + 1) (length (last_line front) + 1 + 1) (length (last_line (front ++ b ∷ [])) + 1) (is_fresh_after front && is_blank b) (is_fresh_after (front ++ b ∷ []))
    (sym (length_push front b)) (omega (arith, c)) (omega (arith, l)) (fresh_push (last_line front) b ∙ ap (list_all is_blank) (sym (last_line_push front b false h)))

place_push : (front : List ℕ) (b : ℕ) → stepped (place_of front) b ≡ place_of (front ++ b ∷ [])
unfolding placed
place_push front b = place_at front b (is_newline b) refl

-- a place is moved on to the one after the bytes
pub passed_is : (front text : List ℕ) → passed (place_of front) text ≡ place_of (front ++ text)
passed_is front [] = ap place_of (sym (append-nil front))
passed_is front (b ∷ bs) = ap (λ p. passed p bs) (place_push front b) ∙ passed_is (front ++ b ∷ []) bs ∙ ap place_of (append_assoc front (b ∷ []) bs)

line_at : (line : List ℕ) (b n : ℕ) (v : Bool) → length line ≤ n → length (cond v [] (line ++ b ∷ [])) ≤ suc n
line_at line b n true h = omega arith
line_at line b n false h = let l = length_push line b in omega arith

line_within : (line text : List ℕ) (n : ℕ) → length line ≤ n → length (fold (λ (t : List ℕ) (c : ℕ). cond (is_newline c) [] (t ++ c ∷ [])) line text) ≤ n + length text
line_within line [] n h = omega arith
line_within line (b ∷ bs) n h = let k = line_within (cond (is_newline b) [] (line ++ b ∷ [])) bs (suc n) (line_at line b n (is_newline b) h) in omega arith

-- ---- the walk of a source, so far

pub record Walked (source rest : List ℕ) (place : Place) (known : BTreeMap (Bor (List ℕ)) Literal) (tokens : List Token) : Type 0 where
  pub size : length source ≤ 1048576
  pub pieces : List Laid
  pub text : source ≡ laid pieces ++ rest
  pub spelled : AreLaid [] [] pieces rest
  pub given : tokens ≡ tokens_of [] [] pieces
  pub at : place ≡ place_of (laid pieces)
  pub knows : Knows known (definitions [] pieces)

pub walked_start : (source : List ℕ) (known : BTreeMap (Bor (List ℕ)) Literal) (tokens : List Token) → length source ≤ 1048576 → known.entries ≡ [] → tokens ≡ [] → Walked source source (place_of []) known tokens
walked_start source known tokens small empty none = record {
  size = small;
  pieces = [];
  text = refl;
  spelled = tt;
  given = none;
  at = refl;
  knows = λ name. ap (lookup (λ k. is_at (λ k. slice_cmp nat_cmp name k.now) k)) empty;
}

pub walked_more : (source rest text after : List ℕ) (place next : Place) (known more : BTreeMap (Bor (List ℕ)) Literal) (tokens longer : List Token) (piece : Piece) (n : ℕ) → Walked source rest place known tokens
    → filtered (get_at known) (piece_at place.is_fresh rest) ≡ Some (piece, n) → Fronts place.is_fresh piece n rest → text ≡ take n rest → after ≡ drop n rest → next ≡ passed place text
    → ((name : List ℕ) → get_at more name ≡ known_after (get_at known) piece name) → longer ≡ tokens ++ token_between (get_at known) place next piece
    → Walked source after next more longer
walked_more source rest text after place next known more tokens longer piece n w found at_front front back is learns adds =
    let l : Laid = record { piece = piece; text = text } in
    let ds = definitions [] w.pieces in
    let before = laid w.pieces in
    let f = filtered_some (get_at known) (piece_at place.is_fresh rest) piece n found in
    let whole : rest ≡ text ++ after = sym (take-append-drop n rest) ∙ ap (λ t. t ++ drop n rest) (sym front) ∙ ap (λ t. text ++ t) (sym back) in
    let spells : SpellsPiece place.is_fresh piece text after = subst (λ t. SpellsPiece place.is_fresh piece t after) (sym front) (subst (λ t. SpellsPiece place.is_fresh piece (take n rest) t) (sym back) at_front.spells) in
    let there : next ≡ place_of (before ++ text) = is ∙ ap (λ p. passed p text) w.at ∙ passed_is before text in
    record {
      size = w.size;
      pieces = w.pieces ++ l ∷ [];
      text = w.text ∙ ap (λ t. before ++ t) whole ∙ sym (laid-push w.pieces l after);
      spelled = are_laid_push [] [] w.pieces l after (subst (AreLaid [] [] w.pieces) whole w.spelled) (subst (λ (p : Place). SpellsPiece p.is_fresh piece text after) w.at spells) (sym (alike_new (get_at known) ds piece w.knows) ∙ f.1);
      given =
          adds ∙ ap (λ ts. ts ++ token_between (get_at known) place next piece) w.given
          ∙ ap (λ ts. tokens_of [] [] w.pieces ++ ts) (ap (λ p. token_between (get_at known) p next piece) w.at ∙ ap (λ p. token_between (get_at known) (place_of before) p piece) there ∙ alike_token (get_at known) ds before text piece w.knows)
          ∙ sym (tokens_push [] [] w.pieces l);
      at = there ∙ ap place_of (sym (laid_push w.pieces l));
      knows = λ name. learns name ∙ alike_after (get_at known) ds piece name w.knows ∙ ap (λ d. defined d name) (sym (definitions_push [] w.pieces l));
    }

-- no count of a place goes over that of the bytes
pub walked_within : (source rest : List ℕ) (place : Place) (known : BTreeMap (Bor (List ℕ)) Literal) (tokens : List Token) → Walked source rest place known tokens
    → (place.at + length rest ≤ 1048576) × (place.spot.line + length rest ≤ 1048577) × (place.spot.column + length rest ≤ 1048577)
walked_within source rest place known tokens w =
    let size = w.size in
    let whole = ap length w.text ∙ length-append (laid w.pieces) rest in
    let a = ap (λ (p : Place). p.at) w.at in
    let l = ap (λ (p : Place). p.spot.line) w.at in
    let c = ap (λ (p : Place). p.spot.column) w.at in
    let lines = count_by-le-length is_newline (laid w.pieces) in
    let columns = line_within [] (laid w.pieces) 0 (omega arith) in
    (omega (arith, size, whole, a), omega (arith, size, whole, l, lines), omega (arith, size, whole, c, columns))

-- ---- a source that is walked whole

module _ {source rest : List ℕ} {place : Place} {known : BTreeMap (Bor (List ℕ)) Literal} {tokens : List Token} (w : Walked source rest place known tokens) (empty : rest ≡ []) where
  whole : source ≡ laid w.pieces
  whole = w.text ∙ ap (λ t. laid w.pieces ++ t) empty ∙ append-nil (laid w.pieces)

  all_spelled : AreLaid [] [] w.pieces []
  all_spelled = subst (AreLaid [] [] w.pieces) empty w.spelled

  pub walked_tokens : Spells source tokens
  walked_tokens = record { size = w.size; pieces = w.pieces; text = whole; spelled = all_spelled; given = w.given }

  pub walked_end : place.spot ≡ spot_after source
  walked_end = ap (λ (p : Place). p.spot) (w.at ∙ ap place_of (sym whole))

  pub walked_only : (others : List Token) → Spells source others → others ≡ tokens
  walked_only others o =
      let same = same_walk [] [] o.pieces w.pieces [] [] o.spelled all_spelled (append-nil (laid o.pieces) ∙ sym o.text ∙ whole ∙ sym (append-nil (laid w.pieces))) (stuck_end (laid o.pieces) (definitions [] o.pieces)) (stuck_end (laid w.pieces) (definitions [] w.pieces)) in
      o.given ∙ ap (tokens_of [] []) same.0 ∙ sym w.given

  pub walked_accepted : (rule : LexRule) (spot : Spot) → HasNoTokens source rule spot → ⊥
  walked_accepted rule spot (inl long) = let s = w.size in let l = long.0 in omega arith
  walked_accepted rule spot (inr short) =
      let o = short.1 in
      let same = same_walk [] [] o.pieces w.pieces o.rest [] o.spelled all_spelled (sym o.text ∙ whole ∙ sym (append-nil (laid w.pieces))) o.stuck (stuck_end (laid w.pieces) (definitions [] w.pieces)) in
      o.some same.1

-- ---- a source at whose rest no piece can start

unread : (known : List ℕ → Option Literal) (n : ℕ) (o : Option Literal) → filtered known (lexeme_of_length n o) ≡ None → o ≡ None
unread known n None e = refl
unread known n (Some literal) e = absurd cc

-- no literal is read where no piece is, and a number begins
no_literal : (known : List ℕ → Option Literal) (kind : Kind) (text : List ℕ) → filtered known (piece_by kind text) ≡ None → kind ≡ k.Number → literal_of (run (is_in class.Number) text) ≡ None
no_literal known kind text e is = unread known (length (run (is_in class.Number) text)) (literal_of (run (is_in class.Number) text)) (ap (λ x. filtered known (piece_by x text)) (sym is) ∙ e)

module _ {source rest : List ℕ} {place : Place} {known : BTreeMap (Bor (List ℕ)) Literal} {tokens : List Token} (w : Walked source rest place known tokens) (some : rest ≡ [] → ⊥) (none : filtered (get_at known) (piece_at place.is_fresh rest) ≡ None) where
  fresh : place.is_fresh ≡ is_fresh_after (laid w.pieces)
  fresh = ap (λ (p : Place). p.is_fresh) w.at

  stuck_here : IsStuck (laid w.pieces) (definitions [] w.pieces) rest
  stuck_here = stuck known (definitions [] w.pieces) (laid w.pieces) rest w.knows (ap (λ f. filtered (get_at known) (piece_at f rest)) (sym fresh) ∙ none)

  stopped : BreaksOff source (rule_of (kind_at place.is_fresh rest) rest) place.spot
  stopped = record {
    pieces = w.pieces;
    rest = rest;
    text = w.text;
    some = some;
    spelled = w.spelled;
    stuck = stuck_here;
    rule = subst (λ f. IsRule (kind_at f rest) rest (rule_of (kind_at place.is_fresh rest) rest)) fresh (rule_is (kind_at place.is_fresh rest) rest (no_literal (get_at known) (kind_at place.is_fresh rest) rest none));
    spot = ap (λ (p : Place). p.spot) w.at;
  }

  pub walked_refused : (rule : LexRule) → rule ≡ rule_of (kind_at place.is_fresh rest) rest → HasNoTokens source rule place.spot
  walked_refused rule e = inr (w.size, subst (λ r. BreaksOff source r place.spot) (sym e) stopped)

  pub walked_only_refusal : (rule : LexRule) → rule ≡ rule_of (kind_at place.is_fresh rest) rest → (other : LexRule) (at : Spot) → HasNoTokens source other at → (other ≡ rule) × (at ≡ place.spot)
  walked_only_refusal rule e other at (inl long) = let s = w.size in let l = long.0 in absurd (omega arith)
  walked_only_refusal rule e other at (inr short) =
      let o = short.1 in
      let same = same_walk [] [] o.pieces w.pieces o.rest rest o.spelled w.spelled (sym o.text ∙ w.text) o.stuck stuck_here in
      let there : place_of (laid o.pieces) ≡ place = ap (λ ls. place_of (laid ls)) same.0 ∙ sym w.at in (
        rule_only _ o.rest other o.rule ∙ ap (λ (p : Place). rule_of (kind_at p.is_fresh o.rest) o.rest) there ∙ ap (λ t. rule_of (kind_at place.is_fresh t) t) same.1 ∙ sym e,
        o.spot ∙ ap (λ (p : Place). p.spot) there,
      )

  pub walked_none : (others : List Token) → Spells source others → ⊥
  walked_none others o =
      let same = same_walk [] [] o.pieces w.pieces [] rest o.spelled w.spelled (append-nil (laid o.pieces) ∙ sym o.text ∙ w.text) (stuck_end (laid o.pieces) (definitions [] o.pieces)) stuck_here in
      some (sym same.1)

pub not_empty : (xs : List ℕ) → nat_eq (length xs) 0 ≡ false → xs ≡ [] → ⊥
not_empty xs h e = true≢false (sym (ap (λ t. nat_eq (length t) 0) e) ∙ h)

pub is_nil : (xs : List ℕ) → nat_eq (length xs) 0 ≡ true → xs ≡ []
is_nil [] h = refl
is_nil (x ∷ xs) h = absurd (grind (arith, nat_tests))
