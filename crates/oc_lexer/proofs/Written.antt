-- The literal that is read of a text is the one that it spells, and a text that is none breaks the rule that is told.
use Rattle.std.proofs.Common.{◌≡◌, ℕ, Bool, true, false, cond, List, [], ◌∷◌, ◌++◌, get_or, drop, Option, Some, None, refl, sym, ap, subst, ◌∙◌, arith, inl, inr}
use Rattle.std.specs.Prelude.{not, ◌&&◌, ◌||◌, nat_eq, codes}
use Rattle.std.specs.List.{list_all}
use Rattle.std.specs.Map.{lookup}
use Rattle.std.specs.Str.{bytes_eq}
use Rattle.std.proofs.lemmas.Bool.{and_parts, and_from, not-true, false≢true, true≢false}
use Rattle.std.proofs.lemmas.Bool.Decides.{nat_tests, Decides-eqb}
use Rattle.oc_values.specs.declared.integers.IntKind.{IntKind}
use Rattle.oc_source.specs.declared.literal.Literal.{Literal}
use Rattle.oc_source.specs.Literals.{holds, is_literal}
use Rattle.oc_lexer.specs.declared.bytes.ByteClass.TheVariants as class
use Rattle.oc_lexer.specs.declared.kinds.Kind.{Kind}
use Rattle.oc_lexer.specs.declared.kinds.Kind.TheVariants as k
use Rattle.oc_lexer.specs.declared.numbers.Form.{Form}
use Rattle.oc_lexer.specs.declared.numbers.Form.TheVariants.{Decimal, Octal, Hexadecimal}
use Rattle.oc_lexer.specs.declared.numbers.Suffix.{Suffix}
use Rattle.oc_lexer.specs.declared.token.LexRule.{LexRule}
use Rattle.oc_lexer.specs.Bytes.{is_in, is_empty, begins_with, run, after}
use Rattle.oc_lexer.specs.Numbers.{IsPrefix, digit_class, WritesNumber, base_of, value_of, kinds_of, none_holds, IsFirstHolding, SpellsNumber}
use Rattle.oc_lexer.specs.ScannedNumbers.{form_of, prefix_length, digits_of, suffix_text, suffixes, suffix_of, first_holding, literal_where, literal, literal_of_kind, literal_with, number_value, literal_of}
use Rattle.oc_lexer.specs.Sources.{IsNumberRule, IsRule}
use Rattle.oc_lexer.specs.Scanned.{number_rule, rule_of}
use Rattle.oc_lexer.proofs.Runs.{run-append-after, run_all, run_is, after_is}
use Rattle.oc_lexer.proofs.Cuts.{literal_holds, literal_is}
use Rattle.oc_lexer.proofs.Suffixes.{Ending, suffix_read, suffix_spelled}

-- ---- the kind of a number

first_at : (x : IntKind) (xs : List IntKind) (v : ℕ) (kind : IntKind) (b : Bool) → holds x v ≡ b → cond b (Some x) (first_holding xs v) ≡ Some kind → (first_holding xs v ≡ Some kind → IsFirstHolding xs v kind) → IsFirstHolding (x ∷ xs) v kind
first_at x xs v kind true h e on =
    let same : x ≡ kind = cc in
    record { before = []; behind = xs; whole = ap (λ y. y ∷ xs) same; fits = subst (λ y. holds y v ≡ true) same h; first = refl }
first_at x xs v kind false h e on =
    let r = on e in
    record { before = x ∷ r.before; behind = r.behind; whole = ap (λ t. x ∷ t) r.whole; fits = r.fits; first = and_from _ _ (ap not h) r.first }

first_found : (xs : List IntKind) (v : ℕ) (kind : IntKind) → first_holding xs v ≡ Some kind → IsFirstHolding xs v kind
first_found [] v kind e = absurd cc
first_found (x ∷ xs) v kind e = first_at x xs v kind (holds x v) refl e (first_found xs v kind)

first_after : (xs more : List IntKind) (v : ℕ) (kind : IntKind) → none_holds xs v ≡ true → holds kind v ≡ true → first_holding (xs ++ kind ∷ more) v ≡ Some kind
first_after [] more v kind none h = ap (λ b. cond b (Some kind) (first_holding more v)) h
first_after (x ∷ xs) more v kind none h =
    let p = and_parts (not (holds x v)) (none_holds xs v) none in
    ap (λ b. cond b (Some x) (first_holding (xs ++ kind ∷ more) v)) (not-true _ p.0) ∙ first_after xs more v kind p.1 h

first_is : (xs : List IntKind) (v : ℕ) (kind : IntKind) → IsFirstHolding xs v kind → first_holding xs v ≡ Some kind
first_is xs v kind f = ap (λ ks. first_holding ks v) f.whole ∙ first_after f.before f.behind v kind f.first f.fits

none_at : (x : IntKind) (xs : List IntKind) (v : ℕ) (b : Bool) → holds x v ≡ b → cond b (Some x) (first_holding xs v) ≡ None → (first_holding xs v ≡ None → none_holds xs v ≡ true) → none_holds (x ∷ xs) v ≡ true
none_at x xs v true h e on = absurd cc
none_at x xs v false h e on = and_from _ _ (ap not h) (on e)

none_found : (xs : List IntKind) (v : ℕ) → first_holding xs v ≡ None → none_holds xs v ≡ true
none_found [] v e = refl
none_found (x ∷ xs) v e = none_at x xs v (holds x v) refl e (none_found xs v)

-- ---- what is written is read

pub record ReadAs (form : Form) (digits : List ℕ) (s : Suffix) (text : List ℕ) : Type 0 where
  pub form_is : form_of text ≡ form
  pub suffix_is : suffix_of text ≡ Some s
  pub value_is : number_value text ≡ value_of (base_of form) digits

abbrev is_x : ℕ → Bool
is_x b = nat_eq b 120 || nat_eq b 88

-- what follows the digits of a number begins with no digit and no `x`
record Apart (t : List ℕ) : Type 0 where
  pub decimal : not (begins_with (is_in class.Decimal) t) ≡ true
  pub octal : not (begins_with (is_in class.Octal) t) ≡ true
  pub hexadecimal : not (begins_with (is_in class.Hexadecimal) t) ≡ true
  pub no_x : is_x (get_or t 0 0) ≡ false

four : (a b c d : Bool) → (a && (b && (c && not d))) ≡ true → (a ≡ true) × (b ≡ true) × (c ≡ true) × (d ≡ false)
four true true true false h = (refl, refl, refl, refl)
four true true true true h = absurd (false≢true h)
four true true false d h = absurd (false≢true h)
four true false c d h = absurd (false≢true h)
four false b c d h = absurd (false≢true h)

apart_by : (s : Suffix) (t : List ℕ) → Ending s t → Apart t
apart_by s t e =
    let f = four (not (begins_with (is_in class.Decimal) t)) (not (begins_with (is_in class.Octal) t)) (not (begins_with (is_in class.Hexadecimal) t)) (is_x (get_or t 0 0)) (ap (λ (x : Option Suffix × Bool). x.1) e) in
    record { decimal = f.0; octal = f.1; hexadecimal = f.2; no_x = f.3 }

ending_apart : (form : Form) (s : Suffix) (t : List ℕ) → Ending s t → not (begins_with (is_in (digit_class form)) t) ≡ true
ending_apart Decimal s t e = let a = apart_by s t e in a.decimal
ending_apart Octal s t e = let a = apart_by s t e in a.octal
ending_apart Hexadecimal s t e = let a = apart_by s t e in a.hexadecimal

ending_no_x : (s : Suffix) (t : List ℕ) → Ending s t → is_x (get_or t 0 0) ≡ false
ending_no_x s t e = let a = apart_by s t e in a.no_x

-- a text whose form is known, and whose digits stand after its prefix
read_as : (form : Form) (digits all ending : List ℕ) (s : Suffix) (text : List ℕ) → form_of text ≡ form → drop (prefix_length form) text ≡ all ++ ending
    → list_all (is_in (digit_class form)) all ≡ true → is_empty all ≡ false → Ending s ending → value_of (base_of form) all ≡ value_of (base_of form) digits → ReadAs form digits s text
unfolding suffix_of
read_as form digits all ending s text f d a some e v =
    let apart = ending_apart form s ending e in
    let p = is_in (digit_class form) in
    let digits_are : digits_of text ≡ all = ap (λ x. run (is_in (digit_class x)) (drop (prefix_length x) text)) f ∙ ap (run p) d ∙ run_is p all ending a apart in
    let suffix_is : suffix_text text ≡ ending = ap (λ x. after (is_in (digit_class x)) (drop (prefix_length x) text)) f ∙ ap (after p) d ∙ after_is p all ending a apart in
    record {
      form_is = f;
      suffix_is = ap (λ b. cond b None (lookup (bytes_eq (suffix_text text)) suffixes)) (ap is_empty digits_are ∙ some) ∙ ap (λ t. lookup (bytes_eq t) suffixes) suffix_is ∙ ap (λ (x : Option Suffix × Bool). x.0) e;
      value_is = ap (λ x. value_of (base_of x) (digits_of text)) f ∙ ap (value_of (base_of form)) digits_are ∙ v;
    }

octal_no_x : (b : ℕ) → is_in class.Octal b ≡ true → is_x b ≡ false
octal_no_x b h = grind (arith, nat_tests)

octal_second : (digits ending : List ℕ) (s : Suffix) → list_all (is_in class.Octal) digits ≡ true → Ending s ending → is_x (get_or (digits ++ ending) 0 0) ≡ false
octal_second [] ending s a e = ending_no_x s ending e
octal_second (d ∷ ds) ending s a e = octal_no_x d (and_parts (is_in class.Octal d) (list_all (is_in class.Octal) ds) a).0

some_is : (xs : List ℕ) → not (is_empty xs) ≡ true → is_empty xs ≡ false
some_is xs h = not-true _ h

hexadecimal_read : (digits ending : List ℕ) (s : Suffix) (text : List ℕ) → (prefix : List ℕ) → IsPrefix Hexadecimal prefix → text ≡ prefix ++ (digits ++ ending)
    → list_all (is_in class.Hexadecimal) digits ≡ true → is_empty digits ≡ false → Ending s ending → ReadAs Hexadecimal digits s text
hexadecimal_read digits ending s text prefix (inl p) whole a some e =
    subst (ReadAs Hexadecimal digits s) (sym (whole ∙ ap (λ t. t ++ (digits ++ ending)) p)) (read_as Hexadecimal digits digits ending s (48 ∷ 120 ∷ (digits ++ ending)) refl refl a some e refl)
hexadecimal_read digits ending s text prefix (inr p) whole a some e =
    subst (ReadAs Hexadecimal digits s) (sym (whole ∙ ap (λ t. t ++ (digits ++ ending)) p)) (read_as Hexadecimal digits digits ending s (48 ∷ 88 ∷ (digits ++ ending)) refl refl a some e refl)

decimal_read : (digits ending : List ℕ) (s : Suffix) → list_all (is_in class.Decimal) digits ≡ true → begins_with (λ d. not (nat_eq d 48)) digits ≡ true → Ending s ending → ReadAs Decimal digits s (digits ++ ending)
decimal_read [] ending s a some e = absurd (false≢true some)
decimal_read (d ∷ ds) ending s a some e = read_as Decimal (d ∷ ds) (d ∷ ds) ending s ((d ∷ ds) ++ ending) (ap (λ b. cond b (cond (is_x (get_or (ds ++ ending) 0 0)) Hexadecimal Octal) Decimal) (not-true _ some)) refl a refl e refl

octal_read : (digits ending : List ℕ) (s : Suffix) → list_all (is_in class.Octal) digits ≡ true → Ending s ending → ReadAs Octal digits s (48 ∷ (digits ++ ending))
octal_read digits ending s a e = read_as Octal digits (48 ∷ digits) ending s (48 ∷ (digits ++ ending)) (ap (λ b. cond b Hexadecimal Octal) (octal_second digits ending s a e)) refl a refl e refl

pub written_read : (form : Form) (digits : List ℕ) (s : Suffix) (text : List ℕ) → WritesNumber form digits s text → ReadAs form digits s text
written_read Decimal digits s text w =
    subst (ReadAs Decimal digits s) (sym (w.whole ∙ ap (λ t. t ++ (digits ++ w.ending)) w.begins)) (decimal_read digits w.ending s w.all w.some (suffix_read s w.ending w.ends))
written_read Octal digits s text w =
    subst (ReadAs Octal digits s) (sym (w.whole ∙ ap (λ t. t ++ (digits ++ w.ending)) w.begins)) (octal_read digits w.ending s w.all (suffix_read s w.ending w.ends))
written_read Hexadecimal digits s text w = hexadecimal_read digits w.ending s text w.prefix w.begins w.whole w.all (some_is digits w.some) (suffix_read s w.ending w.ends)

-- ---- what is read is written

pub record Found (form : Form) (s : Suffix) (text : List ℕ) (value : ℕ) : Type 0 where
  pub digits : List ℕ
  pub written : WritesNumber form digits s text
  pub value_is : value ≡ value_of (base_of form) digits

-- a text of this form, as its first two bytes tell
abbrev Opens : Form → Bool → Bool → Type 0
Opens Decimal zero_first x_second = zero_first ≡ false
Opens Octal zero_first x_second = zero_first ≡ true
Opens Hexadecimal zero_first x_second = (zero_first ≡ true) × (x_second ≡ true)

opens_by : (z x : Bool) → Opens (cond z (cond x Hexadecimal Octal) Decimal) z x
opens_by true true = (refl, refl)
opens_by true false = refl
opens_by false x = refl

begins_by : (q p : ℕ → Bool) (b : ℕ) (more : List ℕ) (v : Bool) → is_empty (cond v (b ∷ run p more) []) ≡ false → q b ≡ true → begins_with q (cond v (b ∷ run p more) []) ≡ true
begins_by q p b more true some h = h
begins_by q p b more false some h = absurd (true≢false some)

decimal_found : (s : Suffix) (text : List ℕ) → nat_eq (get_or text 0 0) 48 ≡ false → is_empty (run (is_in class.Decimal) text) ≡ false → lookup (bytes_eq (after (is_in class.Decimal) text)) suffixes ≡ Some s
    → Found Decimal s text (value_of 10 (run (is_in class.Decimal) text))
decimal_found s [] z some e = absurd (true≢false some)
decimal_found s (b ∷ more) z some e =
    let p = is_in class.Decimal in
    record {
      digits = run p (b ∷ more);
      written = record {
        prefix = [];
        ending = after p (b ∷ more);
        whole = sym (run-append-after p (b ∷ more));
        begins = refl;
        all = run_all p (b ∷ more);
        some = begins_by (λ d. not (nat_eq d 48)) p b more (p b) some (ap not z);
        ends = suffix_spelled s (after p (b ∷ more)) e;
      };
      value_is = refl;
    }

octal_found : (s : Suffix) (more : List ℕ) → lookup (bytes_eq (after (is_in class.Octal) more)) suffixes ≡ Some s → Found Octal s (48 ∷ more) (value_of 8 (48 ∷ run (is_in class.Octal) more))
octal_found s more e =
    let p = is_in class.Octal in
    record {
      digits = run p more;
      written = record {
        prefix = codes "0";
        ending = after p more;
        whole = ap (λ t. 48 ∷ t) (sym (run-append-after p more));
        begins = refl;
        all = run_all p more;
        some = refl;
        ends = suffix_spelled s (after p more) e;
      };
      value_is = refl;
    }

hexadecimal_found : (s : Suffix) (x : ℕ) (more : List ℕ) → IsPrefix Hexadecimal (48 ∷ x ∷ []) → is_empty (run (is_in class.Hexadecimal) more) ≡ false → lookup (bytes_eq (after (is_in class.Hexadecimal) more)) suffixes ≡ Some s
    → Found Hexadecimal s (48 ∷ x ∷ more) (value_of 16 (run (is_in class.Hexadecimal) more))
hexadecimal_found s x more begins some e =
    let p = is_in class.Hexadecimal in
    record {
      digits = run p more;
      written = record {
        prefix = 48 ∷ x ∷ [];
        ending = after p more;
        whole = ap (λ t. 48 ∷ x ∷ t) (sym (run-append-after p more));
        begins = begins;
        all = run_all p more;
        some = ap not some;
        ends = suffix_spelled s (after p more) e;
      };
      value_is = refl;
    }

eq_from : (a b : ℕ) → nat_eq a b ≡ true → a ≡ b
eq_from a b h = (Decides-eqb a b).0 h

x_at : (x : ℕ) (b c : Bool) → nat_eq x 120 ≡ b → nat_eq x 88 ≡ c → (b || c) ≡ true → IsPrefix Hexadecimal (48 ∷ x ∷ [])
x_at x true c f g h = inl (ap (λ y. 48 ∷ y ∷ []) (eq_from x 120 f))
x_at x false true f g h = inr (ap (λ y. 48 ∷ y ∷ []) (eq_from x 88 g))
x_at x false false f g h = absurd (false≢true h)

-- what is read of a text of this form
abbrev digits_by : Form → List ℕ → List ℕ
digits_by form text = run (is_in (digit_class form)) (drop (prefix_length form) text)

abbrev rest_by : Form → List ℕ → List ℕ
rest_by form text = after (is_in (digit_class form)) (drop (prefix_length form) text)

found_by : (form : Form) (s : Suffix) (text : List ℕ) → Opens form (nat_eq (get_or text 0 0) 48) (is_x (get_or text 1 0)) → is_empty (digits_by form text) ≡ false → lookup (bytes_eq (rest_by form text)) suffixes ≡ Some s
    → Found form s text (value_of (base_of form) (digits_by form text))
found_by Decimal s text o some e = decimal_found s text o some e
found_by Octal s [] o some e = absurd (false≢true o)
found_by Octal s (b ∷ more) o some e =
    let p = is_in class.Octal in
    let zero_is = eq_from b 48 o in
    subst (λ y. Found Octal s (y ∷ more) (value_of 8 (run p (y ∷ more)))) (sym zero_is) (octal_found s more (ap (λ y. lookup (bytes_eq (after p (y ∷ more))) suffixes) (sym zero_is) ∙ e))
found_by Hexadecimal s [] o some e = absurd (false≢true o.0)
found_by Hexadecimal s (b ∷ []) o some e = absurd (false≢true o.1)
found_by Hexadecimal s (b ∷ x ∷ more) o some e =
    subst (λ y. Found Hexadecimal s (y ∷ x ∷ more) (value_of 16 (run (is_in class.Hexadecimal) more))) (sym (eq_from b 48 o.0)) (hexadecimal_found s x more (x_at x (nat_eq x 120) (nat_eq x 88) refl refl o.1) some e)

split_suffix : (b : Bool) (o : Option Suffix) (s : Suffix) → cond b None o ≡ Some s → (b ≡ false) × (o ≡ Some s)
split_suffix true o s e = absurd cc
split_suffix false o s e = (refl, e)

pub read_written : (text : List ℕ) (s : Suffix) → suffix_of text ≡ Some s → Found (form_of text) s text (number_value text)
unfolding suffix_of
read_written text s e =
    let p = split_suffix (is_empty (digits_of text)) (lookup (bytes_eq (suffix_text text)) suffixes) s e in
    found_by (form_of text) s text (opens_by (nat_eq (get_or text 0 0) 48) (is_x (get_or text 1 0))) p.0 p.1

-- ---- literals

pub number_read : (l : Literal) (text : List ℕ) → SpellsNumber l text → literal_of text ≡ Some l
unfolding literal_of
number_read l text w =
    let r = written_read w.form w.digits w.suffix text w.written in
    ap (λ o. literal_with o (form_of text) (number_value text)) r.suffix_is
    ∙ ap (λ f. literal_of_kind (first_holding (kinds_of f w.suffix) (number_value text)) (number_value text)) r.form_is
    ∙ ap (λ v. literal_of_kind (first_holding (kinds_of w.form w.suffix) v) v) (r.value_is ∙ sym w.value)
    ∙ ap (λ o. literal_of_kind o l.value) (first_is (kinds_of w.form w.suffix) l.value l.kind w.kind) ∙ literal_is l

where_tells : (kind : IntKind) (value : ℕ) (b : Bool) (h : is_literal kind value ≡ b) (l : Literal) → literal_where kind value b h ≡ Some l → (l.kind ≡ kind) × (l.value ≡ value)
where_tells kind value true h l e =
    let same : (let m : Literal = record { kind = kind; value = value; of_kind = h } in m) ≡ l = cc in
    (sym (ap (λ (x : Literal). x.kind) same), sym (ap (λ (x : Literal). x.value) same))
where_tells kind value false h l e = absurd cc

literal_tells : (kind : IntKind) (value : ℕ) (l : Literal) → literal kind value ≡ Some l → (l.kind ≡ kind) × (l.value ≡ value)
unfolding literal
literal_tells kind value l e = where_tells kind value (is_literal kind value) refl l e

spelled_kind : (l : Literal) (form : Form) (s : Suffix) (text : List ℕ) (v : ℕ) (o : Option IntKind) → first_holding (kinds_of form s) v ≡ o → literal_of_kind o v ≡ Some l → Found form s text v → SpellsNumber l text
spelled_kind l form s text v None f e found = absurd cc
spelled_kind l form s text v (Some kind) f e found =
    let t = literal_tells kind v l e in
    record {
      form = form;
      digits = found.digits;
      suffix = s;
      written = found.written;
      value = t.1 ∙ found.value_is;
      kind = first_found (kinds_of form s) l.value l.kind (ap (first_holding (kinds_of form s)) t.1 ∙ f ∙ ap (λ x. Some x) (sym t.0));
    }

spelled_suffix : (l : Literal) (text : List ℕ) (o : Option Suffix) → suffix_of text ≡ o → literal_with o (form_of text) (number_value text) ≡ Some l → SpellsNumber l text
spelled_suffix l text None h e = absurd cc
spelled_suffix l text (Some s) h e =
    spelled_kind l (form_of text) s text (number_value text) (first_holding (kinds_of (form_of text) s) (number_value text)) refl e (read_written text s h)

pub number_spelled : (l : Literal) (text : List ℕ) → literal_of text ≡ Some l → SpellsNumber l text
unfolding literal_of
number_spelled l text e = spelled_suffix l text (suffix_of text) refl e

-- ---- rules

where_none : (kind : IntKind) (value : ℕ) (b : Bool) (h : is_literal kind value ≡ b) → is_literal kind value ≡ true → literal_where kind value b h ≡ None → ⊥
where_none kind value true h is e = cc
where_none kind value false h is e = true≢false (sym is ∙ h)

literal_none : (kind : IntKind) (value : ℕ) → is_literal kind value ≡ true → literal kind value ≡ None → ⊥
unfolding literal
literal_none kind value is e = where_none kind value (is_literal kind value) refl is e

none_kind : (form : Form) (s : Suffix) (v : ℕ) (o : Option IntKind) → first_holding (kinds_of form s) v ≡ o → literal_of_kind o v ≡ None → none_holds (kinds_of form s) v ≡ true
none_kind form s v None f e = none_found (kinds_of form s) v f
none_kind form s v (Some kind) f e = absurd (literal_none kind v (literal_holds form s v kind f) e)

rule_by : (text : List ℕ) (o : Option Suffix) → suffix_of text ≡ o → literal_with o (form_of text) (number_value text) ≡ None → IsNumberRule text (number_rule o)
rule_by text None h e = inl (refl, λ form digits s w. let r = written_read form digits s text w in let f = sym h ∙ r.suffix_is in cc)
rule_by text (Some s) h e =
    let found = read_written text s h in
    inr (
      refl,
      record {
        form = form_of text;
        digits = found.digits;
        suffix = s;
        written = found.written;
        none = subst (λ v. none_holds (kinds_of (form_of text) s) v ≡ true) found.value_is (none_kind (form_of text) s (number_value text) (first_holding (kinds_of (form_of text) s) (number_value text)) refl e);
      },
    )

number_rule_is : (text : List ℕ) → literal_of text ≡ None → IsNumberRule text (number_rule (suffix_of text))
unfolding literal_of
number_rule_is text e = rule_by text (suffix_of text) refl e

number_rule_by : (text : List ℕ) (rule : LexRule) (o : Option Suffix) → suffix_of text ≡ o → IsNumberRule text rule → rule ≡ number_rule o
number_rule_by text rule None h (inl (e, none)) = e
number_rule_by text rule (Some s) h (inl (e, none)) = let found = read_written text s h in absurd (none (form_of text) found.digits s found.written)
number_rule_by text rule o h (inr (e, big)) = let r = written_read big.form big.digits big.suffix text big.written in e ∙ sym (ap number_rule (sym h ∙ r.suffix_is))

-- the rule that is told is one that the text breaks, where no literal is read of it
pub rule_is : (kind : Kind) (text : List ℕ) → (kind ≡ k.Number → literal_of (run (is_in class.Number) text) ≡ None) → IsRule kind text (rule_of kind text)
rule_is k.Blank text none = refl
rule_is k.Word text none = refl
rule_is k.Character text none = refl
rule_is k.Text text none = refl
rule_is k.Sign text none = refl
rule_is k.LineComment text none = refl
rule_is k.BlockComment text none = refl
rule_is k.Number text none = number_rule_is (run (is_in class.Number) text) (none refl)
rule_is k.Directive text none = refl

-- and the only one
pub rule_only : (kind : Kind) (text : List ℕ) (rule : LexRule) → IsRule kind text rule → rule ≡ rule_of kind text
rule_only k.Blank text rule e = e
rule_only k.Word text rule e = e
rule_only k.Character text rule e = e
rule_only k.Text text rule e = e
rule_only k.Sign text rule e = e
rule_only k.LineComment text rule e = e
rule_only k.BlockComment text rule e = e
rule_only k.Number text rule e = number_rule_by (run (is_in class.Number) text) rule (suffix_of (run (is_in class.Number) text)) refl e
rule_only k.Directive text rule e = e
