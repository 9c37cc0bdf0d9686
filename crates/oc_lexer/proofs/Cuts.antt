-- What the parts of directives and numbers make together.
use Rattle.std.proofs.Common.{◌≡◌, ℕ, ◌+◌, ◌*◌, ◌-◌, ◌<◌, ◌≤◌, Bool, true, false, cond, List, [], ◌∷◌, length, get_or, drop, Option, Some, None, refl, sym, ap, subst, ◌∙◌, arith}
use Rattle.std.specs.Prelude.{nat_eq, option_map, codes, fold}
use Rattle.std.specs.List.{list_all, starts_with}
use Rattle.std.specs.Map.{lookup}
use Rattle.std.specs.Str.{bytes_eq}
use Rattle.std.proofs.lemmas.Bool.{and_parts, and_from, true≢false}
use Rattle.std.proofs.lemmas.List.{drop_more}
use Rattle.std.proofs.lemmas.Bool.Decides.{nat_tests}
use mathlib.Core.Bool.{Bool-set}
use Rattle.oc_values.specs.declared.integers.IntKind.{IntKind}
use Rattle.oc_source.specs.declared.literal.Literal.{Literal}
use Rattle.oc_source.specs.Literals.{is_literal, is_literal_kind, holds}
use Rattle.oc_lexer.specs.declared.bytes.ByteClass.TheVariants as class
use Rattle.oc_lexer.specs.declared.numbers.Form.{Form}
use Rattle.oc_lexer.specs.declared.numbers.Form.TheVariants.{Decimal, Octal, Hexadecimal}
use Rattle.oc_lexer.specs.declared.numbers.Suffix.{Suffix}
use Rattle.oc_lexer.specs.Bytes.{is_in, is_space, is_name_byte, is_empty, run, after}
use Rattle.oc_lexer.specs.Numbers.{base_of, digit_value, kinds_of}
use Rattle.oc_lexer.specs.ScannedNumbers.{digits_of, suffix_text, suffixes, suffix_of, first_holding, literal, literal_where, literal_of}
use Rattle.oc_lexer.specs.Scanned.{included, include_length, header_at, is_definition, defined_as, define_number, define_second, define_name, define_after, define_at}

-- ---- directives

pub include_with : (text rest : List ℕ) (found : Option ℕ) → starts_with nat_eq text (codes "#include") ≡ true → rest ≡ after is_space (drop 8 text) → found ≡ header_at rest
    → option_map (λ n. length text - length rest + n) found ≡ include_length text
unfolding include_length
include_with text rest found h r f = ap (option_map (λ n. length text - length rest + n)) f ∙ ap (included text) r ∙ sym (ap (λ b. cond b (included text (after is_space (drop 8 text))) None) h)

-- a text that begins with `#define`, cut into its parts
pub record Cut (text gap name second number rest : List ℕ) : Type 0 where
  pub body : List ℕ
  pub first : List ℕ
  pub middle : List ℕ
  pub last : List ℕ
  pub starts : starts_with nat_eq text (codes "#define") ≡ true
  pub body_is : body ≡ drop 7 text
  pub gap_is : gap ≡ run is_space body
  pub first_is : first ≡ after is_space body
  pub name_is : name ≡ run is_name_byte first
  pub middle_is : middle ≡ after is_name_byte first
  pub second_is : second ≡ run is_space middle
  pub last_is : last ≡ after is_space middle
  pub number_is : number ≡ run (is_in class.Number) last
  pub rest_is : rest ≡ after (is_in class.Number) last

pub define_with : (text gap name second number rest : List ℕ) → Cut text gap name second number rest → defined_as text gap name second number rest ≡ define_at text
unfolding define_at
define_with text gap name second number rest c =
    ap (λ x. defined_as text gap name second x rest) c.number_is ∙ ap (λ x. defined_as text gap name second (run (is_in class.Number) c.last) x) c.rest_is
    ∙ ap (λ x. define_number text gap name x c.last) c.second_is ∙ ap (define_number text gap name (run is_space c.middle)) c.last_is
    ∙ ap (λ x. define_second text gap x c.middle) c.name_is ∙ ap (define_second text gap (run is_name_byte c.first)) c.middle_is
    ∙ ap (λ x. define_name text x c.first) c.gap_is ∙ ap (define_name text (run is_space c.body)) c.first_is
    ∙ ap (define_after text) c.body_is
    ∙ sym (ap (λ b. cond b (define_after text (drop 7 text)) None) c.starts)

pub define_fails : (text gap name second number rest : List ℕ) → Cut text gap name second number rest → is_definition gap name second rest ≡ false → None ≡ define_at text
define_fails text gap name second number rest c h = sym (ap (λ b. cond b (option_map (λ l. (name, l, length text - length rest)) (literal_of number)) None) h) ∙ define_with text gap name second number rest c

pub define_goes : (text gap name second number rest : List ℕ) (found : Option Literal) → Cut text gap name second number rest → is_definition gap name second rest ≡ true → found ≡ literal_of number → option_map (λ l. (name, l, length text - length rest)) found ≡ define_at text
define_goes text gap name second number rest found c h f = ap (option_map (λ l. (name, l, length text - length rest))) f ∙ sym (ap (λ b. cond b (option_map (λ l. (name, l, length text - length rest)) (literal_of number)) None) h) ∙ define_with text gap name second number rest c

-- ---- numbers

pub empty_is : (xs : List ℕ) → is_empty xs ≡ nat_eq (length xs) 0
empty_is [] = refl
empty_is (x ∷ xs) = grind (arith, nat_tests)

pub suffix_with : (text digits suffix : List ℕ) → digits ≡ digits_of text → suffix ≡ suffix_text text → nat_eq (length digits) 0 ≡ false → lookup (bytes_eq suffix) suffixes ≡ suffix_of text
unfolding suffix_of
suffix_with text digits suffix d s h =
    let e : is_empty (digits_of text) ≡ false = sym (ap is_empty d) ∙ empty_is digits ∙ h in
    ap (λ x. lookup (bytes_eq x) suffixes) s ∙ sym (ap (λ b. cond b None (lookup (bytes_eq (suffix_text text)) suffixes)) e)

holding_at : (k k' : IntKind) (ks : List IntKind) (v : ℕ) (b : Bool) → holds k v ≡ b → is_literal_kind k ≡ true → cond b (Some k) (first_holding ks v) ≡ Some k' → (first_holding ks v ≡ Some k' → is_literal k' v ≡ true) → is_literal k' v ≡ true
holding_at k k' ks v true h l e on = let same : k ≡ k' = cc in subst (λ x. is_literal x v ≡ true) same (and_from _ _ l h)
holding_at k k' ks v false h l e on = on e

holding : (ks : List IntKind) (v : ℕ) (k : IntKind) → list_all is_literal_kind ks ≡ true → first_holding ks v ≡ Some k → is_literal k v ≡ true
holding [] v k all e = absurd cc
holding (x ∷ xs) v k all e = let h = and_parts (is_literal_kind x) (list_all is_literal_kind xs) all in holding_at x k xs v (holds x v) refl h.0 e (holding xs v k h.1)

all_literal : (form : Form) (u l : Bool) → list_all is_literal_kind (kinds_of form (record { unsigned = u; long = l })) ≡ true
all_literal Decimal true true = refl
all_literal Decimal true false = refl
all_literal Decimal false true = refl
all_literal Decimal false false = refl
all_literal Octal true true = refl
all_literal Octal true false = refl
all_literal Octal false true = refl
all_literal Octal false false = refl
all_literal Hexadecimal true true = refl
all_literal Hexadecimal true false = refl
all_literal Hexadecimal false true = refl
all_literal Hexadecimal false false = refl

pub literal_holds : (form : Form) (s : Suffix) (v : ℕ) (k : IntKind) → first_holding (kinds_of form s) v ≡ Some k → is_literal k v ≡ true
literal_holds form s v k e = holding (kinds_of form s) v k (all_literal form s.unsigned s.long) e

made : (kind : IntKind) (value : ℕ) (g h : is_literal kind value ≡ true) → g ≡ h → (let l : Literal = record { kind = kind; value = value; of_kind = g } in l) ≡ record { kind = kind; value = value; of_kind = h }
made kind value g h e = ap (λ x. let l : Literal = record { kind = kind; value = value; of_kind = x } in l) e

literal_where_is : (l : Literal) (b : Bool) (e : is_literal l.kind l.value ≡ b) → literal_where l.kind l.value b e ≡ Some l
literal_where_is l true e = ap (λ x. Some x) (made l.kind l.value e l.of_kind (Bool-set _ _ e l.of_kind))
literal_where_is l false e = absurd (true≢false (sym l.of_kind ∙ e))

pub literal_is : (l : Literal) → literal l.kind l.value ≡ Some l
unfolding literal
literal_is l = literal_where_is l (is_literal l.kind l.value) refl

-- two literals of one kind and one value are one
pub same_literal : (a b : Literal) → a.kind ≡ b.kind → a.value ≡ b.value → a ≡ b
same_literal a b k v = let e : Some a ≡ Some b = sym (literal_is a) ∙ ap (λ x. literal x a.value) k ∙ ap (literal b.kind) v ∙ literal_is b in cc

-- ---- the value of some digits

abbrev pub in_form : Form → ℕ → ℕ → ℕ
in_form form v b = v * base_of form + digit_value b

le_step : (form : Form) (v d : ℕ) → v ≤ v * base_of form + d
le_step Decimal v d = omega arith
le_step Octal v d = omega arith
le_step Hexadecimal v d = omega arith

le_fold : (form : Form) (v : ℕ) (ds : List ℕ) → v ≤ fold (in_form form) v ds
le_fold form v [] = omega arith
le_fold form v (d ∷ ds) = let a = le_step form v (digit_value d) in let b = le_fold form (in_form form v d) ds in omega (arith, a, b)

pub value_over : (form : Form) (v total limit : ℕ) (ds : List ℕ) (i : ℕ) → i < length ds → fold (in_form form) v (drop i ds) ≡ total → limit ≤ v * base_of form + digit_value (get_or ds i 0) → limit ≤ total
value_over form v total limit ds i lt e over =
    let a = le_fold form (in_form form v (get_or ds i 0)) (drop (i + 1) ds) in
    let b = ap (fold (in_form form) v) (drop_more ds i 0 lt) in
    omega (arith, a, b, e, over)
