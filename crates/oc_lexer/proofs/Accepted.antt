-- Directives: what is read at a front is one, and one is read where it stands.
use Rattle.std.proofs.Common.{◌≡◌, ℕ, ◌+◌, ◌-◌, Bool, true, false, cond, List, [], ◌∷◌, ◌++◌, length, drop, Option, Some, None, refl, sym, ap, subst, ◌∙◌, arith, append_assoc, length-append}
use Rattle.std.specs.Prelude.{not, ◌&&◌, ◌||◌, nat_eq, option_map, codes, is_none}
use Rattle.std.specs.List.{list_all, list_any, starts_with}
use Rattle.std.specs.Str.{bytes_eq}
use Rattle.std.proofs.lemmas.Bool.{and_parts, and_from, false≢true, true≢false}
use Rattle.std.proofs.lemmas.Bool.Decides.{nat_tests}
use Rattle.std.proofs.lemmas.Slice.Eq.{bytes_eq-Decides}
use Rattle.oc_source.specs.declared.literal.Literal.{Literal}
use Rattle.oc_lexer.specs.declared.bytes.ByteClass.TheVariants as class
use Rattle.oc_lexer.specs.Bytes.{is_in, is_space, is_name_start, is_name_byte, is_empty, begins_with, run, after}
use Rattle.oc_lexer.specs.Comments.{ends_line}
use Rattle.oc_lexer.specs.Words.{keyword_of}
use Rattle.oc_lexer.specs.ScannedNumbers.{literal_of, suffix_of}
use Rattle.oc_lexer.specs.Directives.{headers, Includes, Defines}
use Rattle.oc_lexer.specs.Scanned.{find_header, header_end, header_at, included, include_length, is_free_name, is_definition, define_after, define_at}
use Rattle.oc_lexer.proofs.Runs.{run-append-after, run_all, after_longest, run_is, after_is}
use Rattle.oc_lexer.proofs.Cuts.{Cut, define_goes}
use Rattle.oc_lexer.proofs.Written.{number_spelled, number_read}
use Rattle.oc_lexer.proofs.Openings.{starts_true, starts_of, drop_front}

taken : {A : Type 0} (b : Bool) (o : Option A) (x : A) → cond b o None ≡ Some x → (b ≡ true) × (o ≡ Some x)
taken true o x e = (refl, e)
taken false o x e = absurd cc

number : Option ℕ → ℕ
number None = 0
number (Some n) = n

-- ---- `#include`

record Header (n : ℕ) (hs : List (List ℕ)) (text : List ℕ) : Type 0 where
  pub header : List ℕ
  pub known : list_any (bytes_eq header) hs ≡ true
  pub whole : text ≡ header ++ drop n text
  pub size : n ≡ length header

same_bytes : (x : List ℕ) → bytes_eq x x ≡ true
same_bytes x = (bytes_eq-Decides x x).1 refl

or_right : (a : Bool) → (a || true) ≡ true
or_right true = refl
or_right false = refl

header_at_first : (x : List ℕ) (xs : List (List ℕ)) (text : List ℕ) (n : ℕ) (b : Bool) → starts_with nat_eq text x ≡ b → cond b (Some (length x)) (find_header xs text) ≡ Some n → (find_header xs text ≡ Some n → Header n xs text) → Header n (x ∷ xs) text
unfolding number
header_at_first x xs text n true h e on = let s : n ≡ length x = sym (ap number e) in record {
  header = x;
  known = ap (λ b. b || list_any (bytes_eq x) xs) (same_bytes x);
  whole = starts_true text x h ∙ ap (λ k. x ++ drop k text) (sym s);
  size = s;
}
header_at_first x xs text n false h e on = let k = on e in record {
  header = k.header;
  known = ap (λ b. bytes_eq k.header x || b) k.known ∙ or_right (bytes_eq k.header x);
  whole = k.whole;
  size = k.size;
}

header_found : (hs : List (List ℕ)) (text : List ℕ) (n : ℕ) → find_header hs text ≡ Some n → Header n hs text
header_found [] text n e = absurd cc
header_found (x ∷ xs) text n e = header_at_first x xs text n (starts_with nat_eq text x) refl e (header_found xs text n)

ended : (text : List ℕ) (o : Option ℕ) (n : ℕ) → header_end text o ≡ Some n → (o ≡ Some n) × (ends_line false (drop n text) ≡ true)
unfolding number
ended text None n e = absurd cc
ended text (Some m) n e =
    let p = taken (ends_line false (drop m text)) (Some m) n e in
    let s : m ≡ n = ap number p.1 in
    (p.1, ap (λ k. ends_line false (drop k text)) (sym s) ∙ p.0)

mapped : (k : ℕ) (o : Option ℕ) (n : ℕ) → option_map (λ m. k + m) o ≡ Some n → (m : ℕ) × (o ≡ Some m) × (n ≡ k + m)
unfolding number
mapped k None n e = absurd cc
mapped k (Some m) n e = (m, refl, sym (ap number e))

pub record Included (n : ℕ) (text : List ℕ) : Type 0 where
  pub front : List ℕ
  pub rest : List ℕ
  pub whole : text ≡ front ++ rest
  pub size : n ≡ length front
  pub includes : Includes front rest

pub include_found : (text : List ℕ) (n : ℕ) → include_length text ≡ Some n → Included n text
unfolding include_length
include_found text n e =
    let a = taken (starts_with nat_eq text (codes "#include")) (included text (after is_space (drop 8 text))) n e in
    let body = drop 8 text in
    let more = after is_space body in
    let gap = run is_space body in
    let m = mapped (length text - length more) (header_at more) n a.1 in
    let b = ended more (find_header headers more) m.0 m.1 in
    let h = header_found headers more m.0 b.0 in
    let rest = drop m.0 more in
    let start : text ≡ codes "#include" ++ body = starts_true text (codes "#include") a.0 in
    let cut : body ≡ (gap ++ h.header) ++ rest = sym (run-append-after is_space body) ∙ ap (λ t. gap ++ t) h.whole ∙ sym (append_assoc gap h.header rest) in
    let l1 = ap length start in
    let l2 = ap length (run-append-after is_space body) in
    let l3 = length-append gap more in
    let l4 = length-append gap h.header in
    record {
      front = codes "#include" ++ (gap ++ h.header);
      rest = rest;
      whole = start ∙ ap (λ t. codes "#include" ++ t) cut;
      size = let q = m.2 in let r = h.size in omega arith;
      includes = record { gap = gap; header = h.header; whole = refl; spaces = run_all is_space body; known = h.known; ends = b.1 };
    }

-- a header is one of four
equal_to : (P : List ℕ → Type 0) (h x : List ℕ) → bytes_eq h x ≡ true → P x → P h
equal_to P h x e p = subst P (sym ((bytes_eq-Decides h x).0 e)) p

header_of : (P : List ℕ → Type 0) (h : List ℕ) (u v w x : Bool) → bytes_eq h (codes "<obliv.oh>") ≡ u → bytes_eq h (codes "<stdio.h>") ≡ v → bytes_eq h (codes "<stdlib.h>") ≡ w → bytes_eq h (codes "<stdbool.h>") ≡ x → (u || (v || (w || (x || false)))) ≡ true → P (codes "<obliv.oh>") → P (codes "<stdio.h>") → P (codes "<stdlib.h>") → P (codes "<stdbool.h>") → P h
header_of P h true v w x hu hv hw hx k a b c d = equal_to P h (codes "<obliv.oh>") hu a
header_of P h false true w x hu hv hw hx k a b c d = equal_to P h (codes "<stdio.h>") hv b
header_of P h false false true x hu hv hw hx k a b c d = equal_to P h (codes "<stdlib.h>") hw c
header_of P h false false false true hu hv hw hx k a b c d = equal_to P h (codes "<stdbool.h>") hx d
header_of P h false false false false hu hv hw hx k a b c d = absurd (false≢true k)

header_cases : (P : List ℕ → Type 0) (h : List ℕ) → list_any (bytes_eq h) headers ≡ true → P (codes "<obliv.oh>") → P (codes "<stdio.h>") → P (codes "<stdlib.h>") → P (codes "<stdbool.h>") → P h
header_cases P h known a b c d = header_of P h (bytes_eq h (codes "<obliv.oh>")) (bytes_eq h (codes "<stdio.h>")) (bytes_eq h (codes "<stdlib.h>")) (bytes_eq h (codes "<stdbool.h>")) refl refl refl refl known a b c d

header_finds : (h rest : List ℕ) → list_any (bytes_eq h) headers ≡ true → find_header headers (h ++ rest) ≡ Some (length h)
header_finds h rest known = header_cases (λ x. find_header headers (x ++ rest) ≡ Some (length x)) h known refl refl refl refl

header_unspaced : (h rest : List ℕ) → list_any (bytes_eq h) headers ≡ true → not (begins_with is_space (h ++ rest)) ≡ true
header_unspaced h rest known = header_cases (λ x. not (begins_with is_space (x ++ rest)) ≡ true) h known refl refl refl refl

included_at : (text gap header rest : List ℕ) → text ≡ codes "#include" ++ (gap ++ header) → list_all is_space gap ≡ true → list_any (bytes_eq header) headers ≡ true → ends_line false rest ≡ true → include_length (codes "#include" ++ ((gap ++ header) ++ rest)) ≡ Some (length text)
unfolding include_length
included_at text gap header rest is spaces known ends =
    let whole = codes "#include" ++ ((gap ++ header) ++ rest) in
    let more : after is_space ((gap ++ header) ++ rest) ≡ header ++ rest = ap (after is_space) (append_assoc gap header rest) ∙ after_is is_space gap (header ++ rest) spaces (header_unspaced header rest known) in
    let found : header_at (header ++ rest) ≡ Some (length header) = ap (header_end (header ++ rest)) (header_finds header rest known) ∙ ap (λ b. cond b (Some (length header)) None) (ap (ends_line false) (drop_front header rest) ∙ ends) in
    let l1 = ap length is in
    let l2 = length-append gap header in
    let l3 = length-append (gap ++ header) rest in
    let l4 = length-append header rest in
    let size : length whole - length (header ++ rest) + length header ≡ length text = omega arith in
    ap (included whole) more ∙ ap (option_map (λ m. length whole - length (header ++ rest) + m)) found ∙ ap (λ n. Some n) size

pub include_spelled : (text rest : List ℕ) → Includes text rest → include_length (text ++ rest) ≡ Some (length text)
include_spelled text rest i = ap include_length (ap (λ t. t ++ rest) i.whole) ∙ included_at text i.gap i.header rest i.whole i.spaces i.known i.ends

-- ---- `#define`

none_from : {A : Type 0} (o : Option A) → is_none o ≡ true → o ≡ None
none_from None h = refl
none_from (Some x) h = absurd (false≢true h)

record Made (name : List ℕ) (literal : Literal) (n : ℕ) (text gap word second digits rest : List ℕ) : Type 0 where
  pub fits : is_definition gap word second rest ≡ true
  pub value : literal_of digits ≡ Some literal
  pub name_is : name ≡ word
  pub size : n ≡ length text - length rest

name_of : Option (List ℕ × Literal × ℕ) → List ℕ
name_of None = []
name_of (Some d) = d.0

literal_at : Literal → Option (List ℕ × Literal × ℕ) → Literal
literal_at l None = l
literal_at l (Some d) = d.1

size_of : Option (List ℕ × Literal × ℕ) → ℕ
size_of None = 0
size_of (Some d) = d.2

abbrev triple : List ℕ → ℕ → Option Literal → Option (List ℕ × Literal × ℕ)
triple word size o = option_map (λ l. (word, l, size)) o

made_at : (name : List ℕ) (literal : Literal) (n : ℕ) (text gap word second digits rest : List ℕ) (o : Option Literal) → is_definition gap word second rest ≡ true → literal_of digits ≡ o → triple word (length text - length rest) o ≡ Some (name, literal, n) → Made name literal n text gap word second digits rest
unfolding name_of literal_at size_of
made_at name literal n text gap word second digits rest None f h e = absurd cc
made_at name literal n text gap word second digits rest (Some l) f h e = record {
  fits = f;
  value = h ∙ ap (λ x. Some x) (ap (literal_at l) e);
  name_is = sym (ap name_of e);
  size = sym (ap size_of e);
}

made_by : (name : List ℕ) (literal : Literal) (n : ℕ) (text gap word second digits rest : List ℕ) (b : Bool) → is_definition gap word second rest ≡ b → cond b (triple word (length text - length rest) (literal_of digits)) None ≡ Some (name, literal, n) → Made name literal n text gap word second digits rest
made_by name literal n text gap word second digits rest true f e = made_at name literal n text gap word second digits rest (literal_of digits) f refl e
made_by name literal n text gap word second digits rest false f e = absurd cc

pub record Defined (name : List ℕ) (literal : Literal) (n : ℕ) (text : List ℕ) : Type 0 where
  pub front : List ℕ
  pub rest : List ℕ
  pub whole : text ≡ front ++ rest
  pub size : n ≡ length front
  pub defines : Defines name literal front rest

abbrev after_gap : List ℕ → List ℕ
after_gap body = after is_space body

abbrev after_name : List ℕ → List ℕ
after_name body = after is_name_byte (after_gap body)

abbrev after_second : List ℕ → List ℕ
after_second body = after is_space (after_name body)

abbrev after_number : List ℕ → List ℕ
after_number body = after (is_in class.Number) (after_second body)

defined_from : (name : List ℕ) (literal : Literal) (n : ℕ) (text body : List ℕ) → text ≡ codes "#define" ++ body
    → Made name literal n text (run is_space body) (run is_name_byte (after_gap body)) (run is_space (after_name body)) (run (is_in class.Number) (after_second body)) (after_number body) → Defined name literal n text
defined_from name literal n text body start m =
    let gap = run is_space body in
    let word = run is_name_byte (after_gap body) in
    let second = run is_space (after_name body) in
    let digits = run (is_in class.Number) (after_second body) in
    let rest = after_number body in
    let p = and_parts (not (is_empty gap) && not (is_empty second) && is_free_name word) (ends_line false rest) m.fits in
    let q = and_parts (not (is_empty gap) && not (is_empty second)) (is_free_name word) p.0 in
    let r = and_parts (not (is_empty gap)) (not (is_empty second)) q.0 in
    let s = and_parts (begins_with is_name_start word) (is_none (keyword_of word)) q.1 in
    let cut : body ≡ (gap ++ (word ++ (second ++ digits))) ++ rest =
    sym (run-append-after is_space body)
    ∙ ap (λ t. gap ++ t) (sym (run-append-after is_name_byte (after_gap body)) ∙ ap (λ t. word ++ t) (sym (run-append-after is_space (after_name body)) ∙ ap (λ t. second ++ t) (sym (run-append-after (is_in class.Number) (after_second body))) ∙ sym (append_assoc second digits rest)) ∙ sym (append_assoc word (second ++ digits) rest))
    ∙ sym (append_assoc gap (word ++ (second ++ digits)) rest) in
    let front = codes "#define" ++ (gap ++ (word ++ (second ++ digits))) in
    let whole : text ≡ front ++ rest = start ∙ ap (λ t. codes "#define" ++ t) cut in
    let l = ap length whole in
    let k = length-append front rest in
    let size : n ≡ length front = let z = m.size in omega arith in
    record {
      front = front;
      rest = rest;
      whole = whole;
      size = size;
      defines = record {
        gap = gap;
        second = second;
        number = digits;
        whole = ap (λ w. codes "#define" ++ (gap ++ (w ++ (second ++ digits)))) (sym m.name_is);
        spaces = run_all is_space body;
        spaced = r.0;
        begins = ap (begins_with is_name_start) m.name_is ∙ s.0;
        named = ap (list_all is_name_byte) m.name_is ∙ run_all is_name_byte (after_gap body);
        free = ap keyword_of m.name_is ∙ none_from (keyword_of word) s.1;
        second_spaces = run_all is_space (after_name body);
        second_spaced = r.1;
        digits = run_all (is_in class.Number) (after_second body);
        longest = after_longest (is_in class.Number) (after_second body);
        value = number_spelled literal digits m.value;
        ends = p.1;
      };
    }

pub define_found : (text name : List ℕ) (literal : Literal) (n : ℕ) → define_at text ≡ Some (name, literal, n) → Defined name literal n text
unfolding define_at
define_found text name literal n e =
    let a = taken (starts_with nat_eq text (codes "#define")) (define_after text (drop 7 text)) (name, literal, n) e in
    let body = drop 7 text in
    defined_from name literal n text body (starts_true text (codes "#define") a.0)
    (made_by name literal n text (run is_space body) (run is_name_byte (after_gap body)) (run is_space (after_name body)) (run (is_in class.Number) (after_second body)) (after_number body) (is_definition (run is_space body) (run is_name_byte (after_gap body)) (run is_space (after_name body)) (after_number body)) refl a.1)

start_unspaced : (b : ℕ) → is_name_start b ≡ true → is_space b ≡ false
start_unspaced b h = grind (arith, nat_tests)

space_unnamed : (b : ℕ) → is_space b ≡ true → is_name_byte b ≡ false
space_unnamed b h = grind (arith, nat_tests)

number_unspaced : (b : ℕ) → is_in class.Number b ≡ true → is_space b ≡ false
number_unspaced b h = grind (arith, nat_tests)

not_from : (b : Bool) → b ≡ false → not b ≡ true
not_from true h = absurd (true≢false h)
not_from false h = refl

name_unspaced : (name more : List ℕ) → begins_with is_name_start name ≡ true → not (begins_with is_space (name ++ more)) ≡ true
name_unspaced [] more h = absurd (false≢true h)
name_unspaced (b ∷ bs) more h = not_from (is_space b) (start_unspaced b h)

second_unnamed : (second more : List ℕ) → not (is_empty second) ≡ true → list_all is_space second ≡ true → not (begins_with is_name_byte (second ++ more)) ≡ true
second_unnamed [] more some all = absurd (false≢true some)
second_unnamed (b ∷ bs) more some all = not_from (is_name_byte b) (space_unnamed b (and_parts (is_space b) (list_all is_space bs) all).0)

no_number : (l : Literal) → literal_of [] ≡ Some l → ⊥
unfolding literal_of suffix_of
no_number l e = cc

digits_unspaced : (digits more : List ℕ) (l : Literal) → literal_of digits ≡ Some l → list_all (is_in class.Number) digits ≡ true → not (begins_with is_space (digits ++ more)) ≡ true
digits_unspaced [] more l e all = absurd (no_number l e)
digits_unspaced (b ∷ bs) more l e all = not_from (is_space b) (number_unspaced b (and_parts (is_in class.Number b) (list_all (is_in class.Number) bs) all).0)

pub not_include : (body : List ℕ) → include_length (codes "#define" ++ body) ≡ None
unfolding include_length
not_include body = refl

pub define_spelled : (name : List ℕ) (literal : Literal) (text rest : List ℕ) → Defines name literal text rest → (include_length (text ++ rest) ≡ None) × (define_at (text ++ rest) ≡ Some (name, literal, length text))
define_spelled name literal text rest d =
    let last = d.number ++ rest in
    let middle = d.second ++ last in
    let first = name ++ middle in
    let body = d.gap ++ first in
    let flat : (d.gap ++ (name ++ (d.second ++ d.number))) ++ rest ≡ body =
    append_assoc d.gap (name ++ (d.second ++ d.number)) rest ∙ ap (λ t. d.gap ++ t) (append_assoc name (d.second ++ d.number) rest ∙ ap (λ t. name ++ t) (append_assoc d.second d.number rest)) in
    let whole : text ++ rest ≡ codes "#define" ++ body = ap (λ t. t ++ rest) d.whole ∙ ap (λ t. codes "#define" ++ t) flat in
    let at_first = name_unspaced name middle d.begins in
    let at_middle = second_unnamed d.second last d.second_spaced d.second_spaces in
    let value = number_read literal d.number d.value in
    let at_last = digits_unspaced d.number rest literal value d.digits in
    let fits = and_from _ _ (and_from _ _ (and_from _ _ d.spaced d.second_spaced) (and_from _ _ d.begins (ap is_none d.free))) d.ends in
    let cut : Cut (codes "#define" ++ body) d.gap name d.second d.number rest = record {
      body = body;
      first = first;
      middle = middle;
      last = last;
      starts = starts_of (codes "#define" ++ body) (codes "#define") body refl;
      body_is = refl;
      gap_is = sym (run_is is_space d.gap first d.spaces at_first);
      first_is = sym (after_is is_space d.gap first d.spaces at_first);
      name_is = sym (run_is is_name_byte name middle d.named at_middle);
      middle_is = sym (after_is is_name_byte name middle d.named at_middle);
      second_is = sym (run_is is_space d.second last d.second_spaces at_last);
      last_is = sym (after_is is_space d.second last d.second_spaces at_last);
      number_is = sym (run_is (is_in class.Number) d.number rest d.digits d.longest);
      rest_is = sym (after_is (is_in class.Number) d.number rest d.digits d.longest);
    } in
    let l = ap length whole in
    let k = length-append text rest in
    let size : length (codes "#define" ++ body) - length rest ≡ length text = omega arith in (
      ap include_length whole ∙ not_include body,
      ap define_at whole ∙ sym (define_goes (codes "#define" ++ body) d.gap name d.second d.number rest (Some literal) cut fits (sym value)) ∙ ap (λ n. Some (name, literal, n)) size,
    )
