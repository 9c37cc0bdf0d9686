-- What is read of a command's options is what they say.
use Rattle.std.proofs.Common.{ℕ, ◌+◌, ◌-◌, ◌≡◌, ◌<◌, ◌≤◌, ℤ, pos, List, [], ◌∷◌, ◌++◌, length, take, drop, get_or, map, Bool, true, false, Option, Some, None, Ok, Err, IsOk, Result, refl, inl, inr, sym, ap, ◌∙◌, arith}
use Rattle.std.specs.Prelude.{◌&&◌, ◌||◌, not, String, string_bytes, slice_index, nat_eq, nat_le, if◌then◌else◌, ◌⊎◌}
use Rattle.std.specs.List.{AllByRecursion, drop-map, flat_map, list_all, slice_split}
use Rattle.std.specs.Option.{unwrap_or}
use Rattle.std.specs.Str.{bytes_eq}
use Rattle.std.proofs.lemmas.Bool.Decides.{nat_tests}
use Rattle.std.proofs.lemmas.Bool.{false≢true}
use Rattle.std.proofs.lemmas.List.{length-map, length-drop, length-append, take_all}
use Rattle.std.proofs.Math.Seq.{drop-append_seam}
use Rattle.command_grammar.specs.declared.form.WordForm.{WordForm}
use Rattle.command_grammar.specs.declared.form.WordForm.TheVariants.{Any, Number, Key, IntegerList}
use Rattle.command_grammar.specs.Forms.{decimal_value, fits, is_digit, is_hex_digit, is_key, is_plain, is_signed}
use Rattle.command_grammar.specs.Grammar.{Belongs, Command, Given, IsCommandOf, has, option_words, slots_of, texts}
use Rattle.command_grammar.specs.Scanning.{operands_in, options_in}
use Rattle.command_grammar.proofs.Pairs.{text_at, two_words}
use Rattle.command_grammar.proofs.Slots.{all_at, either, has_append, both_left, both_right}
use Rattle.command_grammar.proofs.Fronts.{fit_length}
use Rattle.command_grammar.specs.Values.{list_or_none, list_value, number_or, signed_value, value_of}
use Rattle.hex.specs.declared.FromHexError.{FromHexError}
use Rattle.hex.specs.Hex.{decode_sized, is_hex_digit as hex_digit}
use Rattle.hex.proofs.HexLemmas.{IsOk-decode_sized}
use Rattle.std.proofs.lemmas.List.Elements.{All-from_recursion}
use Rattle.command_grammar.specs.Reading.{is_within, key_or_zeros, read_key, read_list, read_number, read_signed, takes_form, value_after}

-- ---- one pair after the other

pub value_step : {Y : Type 0} (pairs : List (String Y)) (at : ℕ) (w : String Y) (n name : List ℕ) (b : Bool) (all : Option (List ℕ)) → at + 1 < length pairs → w ≡ get_or pairs at w → n ≡ string_bytes w → b ≡ bytes_eq n name → all ≡ value_after (drop at (texts pairs)) name → all ≡ (if b then Some (get_or (texts pairs) (at + 1) []) else value_after (drop (at + 2) (texts pairs)) name)
value_step pairs at w n name b all lt iw en eb ea =
    let ws = texts pairs in
    let size = length-map pairs string_bytes in
    let word : get_or ws at [] ≡ n = text_at pairs at w (omega arith) iw ∙ sym en in
    ea ∙ ap (λ xs. value_after xs name) (two_words ws at (omega (arith, size)))
    ∙ ap (λ t. if t then Some (get_or ws (at + 1) []) else value_after (drop (at + 2) ws) name) (ap (λ x. bytes_eq x name) word ∙ sym eb)

pub value_end : (ws : List (List ℕ)) (at : ℕ) (name : List ℕ) → length ws ≤ at + 1 → value_after (drop at ws) name ≡ None
value_end ws at name le = few (drop at ws) (omega (arith, length-drop at ws))
  where
    few : (xs : List (List ℕ)) → length xs ≤ 1 → value_after xs name ≡ None
    few [] h = refl
    few (x ∷ []) h = refl
    few (x ∷ y ∷ xs) h = absurd (omega arith)

-- ---- the options of a command

given_values : (gs : List Given) (name : List ℕ) → value_after (flat_map option_words gs) name ≡ value_of gs name
given_values [] name = refl
given_values (g ∷ gs) name = ap (λ o. if bytes_eq g.option.name name then Some g.value else o) (given_values gs name)

within_fits : (f g : WordForm) (w : List ℕ) → is_within f g ≡ true → fits f w ≡ true → fits g w ≡ true
within_fits f Any w h k = refl
within_fits (Number least most) (Number low high) w h k =
    let n = decimal_value w in
    let k0 = both_left (is_plain w && nat_le least n) (nat_le n most) k in
    plain (is_plain w) least most low high n h (both_left (is_plain w) (nat_le least n) k0) (both_right (is_plain w) (nat_le least n) k0) (both_right (is_plain w && nat_le least n) (nat_le n most) k)
  where
    plain : (p : Bool) (least most low high n : ℕ) → (nat_le low least && nat_le most high) ≡ true → p ≡ true → nat_le least n ≡ true → nat_le n most ≡ true → (p && nat_le low n && nat_le n high) ≡ true
    plain p least most low high n h hp hl hm = grind (arith, nat_tests)
within_fits Key Key w h k = k
within_fits IntegerList IntegerList w h k = k
within_fits Any (Number low high) w h k = absurd (false≢true h)
within_fits Any Key w h k = absurd (false≢true h)
within_fits Any IntegerList w h k = absurd (false≢true h)
within_fits (Number least most) Key w h k = absurd (false≢true h)
within_fits (Number least most) IntegerList w h k = absurd (false≢true h)
within_fits Key (Number low high) w h k = absurd (false≢true h)
within_fits Key IntegerList w h k = absurd (false≢true h)
within_fits IntegerList (Number low high) w h k = absurd (false≢true h)
within_fits IntegerList Key w h k = absurd (false≢true h)

-- a given value has the form of its name's options
value_fits : {K : Type 0} (c : Command K) (gs : List Given) (name : List ℕ) (form : WordForm) (v : List ℕ) → AllByRecursion (Belongs c) gs → takes_form c.options name form ≡ true → value_of gs name ≡ Some v → fits form v ≡ true
value_fits c [] name form v a h e = absurd cc
value_fits c (g ∷ gs) name form v a h e = elim (bytes_eq g.option.name name) as (λ t. bytes_eq g.option.name name ≡ t → (if t then Some g.value else value_of gs name) ≡ Some v → fits form v ≡ true) [
  | true ↦ λ t s.
      let i = a.0.listed in
      let test = all_at (λ o. not (bytes_eq o.name name) || is_within o.form form) c.options i.0 g.option h i.1 i.2 in
      let within : is_within g.option.form form ≡ true = ap (λ b. not b || is_within g.option.form form) (sym t) ∙ test in
      let same : g.value ≡ v = cc in
      ap (fits form) (sym same) ∙ within_fits g.option.form form g.value within a.0.form
  | false ↦ λ t s. value_fits c gs name form v a.1 h s
] refl e

pub number_read : (least most other : ℕ) (w : List ℕ) → fits (Number least most) w ≡ true → read_number most other (Some w) ≡ decimal_value w
number_read least most other w h =
    let inside = both_right (is_plain w && nat_le least (decimal_value w)) (nat_le (decimal_value w) most) h in
    let plain = both_left (is_plain w) (nat_le least (decimal_value w)) (both_left (is_plain w && nat_le least (decimal_value w)) (nat_le (decimal_value w) most) h) in
    let digits = plain_digits w plain in
    ap (λ a. unwrap_or (if a && nat_le (decimal_value w) most then Some (decimal_value w) else None) other) digits ∙ ap (λ b. unwrap_or (if b then Some (decimal_value w) else None) other) inside
  where
    plain_digits : (w : List ℕ) → is_plain w ≡ true → list_all is_digit w ≡ true
    plain_digits w p = both_right (nat_le 1 (length w) && not (nat_le 2 (length w) && nat_eq (slice_index w 0) 48)) (list_all is_digit w) p

number_range : (least most : ℕ) (w : List ℕ) → fits (Number least most) w ≡ true → (least ≤ decimal_value w) × (decimal_value w ≤ most)
number_range least most w f =
    let up = both_right (is_plain w && nat_le least (decimal_value w)) (nat_le (decimal_value w) most) f in
    let low = both_right (is_plain w) (nat_le least (decimal_value w)) (both_left (is_plain w && nat_le least (decimal_value w)) (nat_le (decimal_value w) most) f) in
    let n = decimal_value w in
    let a : least ≤ n = grind (arith, nat_tests) in
    let b : n ≤ most = grind (arith, nat_tests) in
    (a, b)

-- 64 hexadecimal digits decode
key_decodes : (w : List ℕ) → is_key w ≡ true → (key : List ℕ) × (decode_sized w 32 ≡ Ok key)
key_decodes w h = key_of (decode_sized w 32) ((IsOk-decode_sized w 32).1 (size, All-from_recursion (λ x. hex_digit x ≡ true) w (each w (both_right (nat_eq (length w) 64) (list_all is_hex_digit w) h))))
  where
    eq_64 : (n : ℕ) → nat_eq n 64 ≡ true → n ≡ 64
    eq_64 n e = grind (arith, nat_tests)

    size : length w ≡ 64
    size = eq_64 (length w) (both_left (nat_eq (length w) 64) (list_all is_hex_digit w) h)

    key_of : (r : Result (List ℕ) FromHexError) → IsOk r → (key : List ℕ) × (r ≡ Ok key)
    key_of (Ok k) o = (k, refl)
    key_of (Err e) o = absurd cc

    digit : (b : ℕ) → is_hex_digit b ≡ true → hex_digit b ≡ true
    digit b e = grind (arith, nat_tests)

    each : (xs : List ℕ) → list_all is_hex_digit xs ≡ true → AllByRecursion (λ x. hex_digit x ≡ true) xs
    each [] e = tt
    each (x ∷ xs) e = (digit x (both_left (is_hex_digit x) (list_all is_hex_digit xs) e), each xs (both_right (is_hex_digit x) (list_all is_hex_digit xs) e))

list_read : (w : List ℕ) → fits IntegerList w ≡ true → map read_signed (slice_split (λ b. nat_eq b 44) w) ≡ list_value w
list_read w h = signed_parts (slice_split (λ b. nat_eq b 44) w) (both_right (nat_le (length (slice_split (λ b. nat_eq b 44) w)) 65536) (list_all is_signed (slice_split (λ b. nat_eq b 44) w)) h)
  where
    signed_parts : (xs : List (List ℕ)) → list_all is_signed xs ≡ true → map read_signed xs ≡ map signed_value xs
    signed_parts [] h = refl
    signed_parts (x ∷ xs) h =
        ap (λ b. (if b then signed_value x else pos 0) ∷ map read_signed xs) (both_left (is_signed x) (list_all is_signed xs) h) ∙ ap (λ ys. signed_value x ∷ ys) (signed_parts xs (both_right (is_signed x) (list_all is_signed xs) h))

module _ {K : Type 0} (c : Command K) (ws : List (List ℕ)) (is : IsCommandOf c ws (operands_in c ws) (options_in c ws)) where
  pub options_text : drop (1 + length c.operands) ws ≡ flat_map option_words (options_in c ws)
  options_text =
      let front = c.name ∷ operands_in c ws in
      let size : 1 + length c.operands ≡ length front = omega (arith, fit_length c.operands (operands_in c ws) is.reads.forms) in
      ap (drop (1 + length c.operands)) is.reads.text ∙ ap (λ k. drop k (front ++ flat_map option_words (options_in c ws))) size ∙ drop-append_seam front (flat_map option_words (options_in c ws))

  -- the value of an option
  pub value_is : (name : List ℕ) → value_after (drop (1 + length c.operands) ws) name ≡ value_of (options_in c ws) name
  value_is name = ap (λ xs. value_after xs name) options_text ∙ given_values (options_in c ws) name

  -- its number
  pub number_is : (name : List ℕ) (least most other : ℕ) → takes_form c.options name (Number least most) ≡ true → read_number most other (value_after (drop (1 + length c.operands) ws) name) ≡ number_or other (value_of (options_in c ws) name)
  number_is name least most other h = ap (read_number most other) (value_is name) ∙ by_value (value_of (options_in c ws) name) refl
    where
      by_value : (o : Option (List ℕ)) → value_of (options_in c ws) name ≡ o → read_number most other o ≡ number_or other o
      by_value None e = refl
      by_value (Some w) e = number_read least most other w (value_fits c (options_in c ws) name (Number least most) w is.reads.members h e)

  -- its list
  pub list_is : (name : List ℕ) → takes_form c.options name IntegerList ≡ true → read_list (value_after (drop (1 + length c.operands) ws) name) ≡ list_or_none (value_of (options_in c ws) name)
  list_is name h = ap read_list (value_is name) ∙ by_value (value_of (options_in c ws) name) refl
    where
      by_value : (o : Option (List ℕ)) → value_of (options_in c ws) name ≡ o → read_list o ≡ list_or_none o
      by_value None e = refl
      by_value (Some w) e = list_read w (value_fits c (options_in c ws) name IntegerList w is.reads.members h e)

  -- a value of a required slot, which options of one or the other name take
  pub required_value : (slot : ℕ) (n m : List ℕ) → has c.required slot ≡ true → list_all (λ o. not (has o.slots slot) || bytes_eq o.name n || bytes_eq o.name m) c.options ≡ true → ((v : List ℕ) × (value_of (options_in c ws) n ≡ Some v)) ⊎ ((v : List ℕ) × (value_of (options_in c ws) m ≡ Some v))
  required_value slot n m w h = given_at (options_in c ws) is.reads.members (required_has c.required w is.complete)
    where
      required_has : (ps : List ℕ) → has ps slot ≡ true → AllByRecursion (λ p. has (slots_of (options_in c ws)) p ≡ true) ps → has (slots_of (options_in c ws)) slot ≡ true
      required_has [] e a = absurd (false≢true e)
      required_has (p ∷ ps) e a = elim (either (nat_eq p slot) (has ps slot) e) [
        | inl t ↦ let same : p ≡ slot = grind (arith, nat_tests) in ap (has (slots_of (options_in c ws))) (sym same) ∙ a.0
        | inr t ↦ required_has ps t a.1
      ]

      found : (gs : List Given) (g : Given) (name : List ℕ) → bytes_eq g.option.name name ≡ true → (v : List ℕ) × (value_of (g ∷ gs) name ≡ Some v)
      found gs g name t = (g.value, ap (λ b. if b then Some g.value else value_of gs name) t)

      later : (gs : List Given) (g : Given) (name : List ℕ) → (v : List ℕ) × (value_of gs name ≡ Some v) → (v : List ℕ) × (value_of (g ∷ gs) name ≡ Some v)
      later gs g name (v, e) = elim (bytes_eq g.option.name name) as (λ b. (v : List ℕ) × ((if b then Some g.value else value_of gs name) ≡ Some v)) [ true ↦ (g.value, refl) | false ↦ (v, e) ]

      given_at : (gs : List Given) → AllByRecursion (Belongs c) gs → has (slots_of gs) slot ≡ true → ((v : List ℕ) × (value_of gs n ≡ Some v)) ⊎ ((v : List ℕ) × (value_of gs m ≡ Some v))
      given_at [] a e = absurd (false≢true e)
      given_at (g ∷ gs) a e = elim (either (has g.option.slots slot) (has (slots_of gs) slot) (sym (has_append g.option.slots (slots_of gs) slot) ∙ e)) [
        | inl t ↦
            let i = a.0.listed in
            let test = all_at (λ o. not (has o.slots slot) || bytes_eq o.name n || bytes_eq o.name m) c.options i.0 g.option h i.1 i.2 in
            let one : (bytes_eq g.option.name n || bytes_eq g.option.name m) ≡ true = ap (λ b. not b || bytes_eq g.option.name n || bytes_eq g.option.name m) (sym t) ∙ test in
            elim (either (bytes_eq g.option.name n) (bytes_eq g.option.name m) one) [ inl s ↦ inl (found gs g n s) | inr s ↦ inr (found gs g m s) ]
        | inr t ↦ elim (given_at gs a.1 t) [ inl v ↦ inl (later gs g n v) | inr v ↦ inr (later gs g m v) ]
      ]

  -- the same of what functions answered of the words after the operands
  module _ (os : List (List ℕ)) (rest : os ≡ drop (1 + length c.operands) ws) where
    pub text_read : (name : List ℕ) (o : Option (List ℕ)) → o ≡ value_after os name → o ≡ value_of (options_in c ws) name
    text_read name o e = e ∙ ap (λ xs. value_after xs name) rest ∙ value_is name

    pub number_answer : (name : List ℕ) (least most other : ℕ) (o : Option (List ℕ)) (r : ℕ) → o ≡ value_after os name → r ≡ read_number most other o → takes_form c.options name (Number least most) ≡ true → r ≡ number_or other (value_of (options_in c ws) name)
    number_answer name least most other o r e f h = f ∙ ap (read_number most other) (e ∙ ap (λ xs. value_after xs name) rest) ∙ number_is name least most other h

    pub list_answer : (name : List ℕ) (o : Option (List ℕ)) (r : List ℤ) → o ≡ value_after os name → r ≡ read_list o → takes_form c.options name IntegerList ≡ true → r ≡ list_or_none (value_of (options_in c ws) name)
    list_answer name o r e f h = f ∙ ap read_list (e ∙ ap (λ xs. value_after xs name) rest) ∙ list_is name h

    -- the text of a required slot
    pub required_text : (slot : ℕ) (name : List ℕ) (o : Option (List ℕ)) (t : List ℕ) → o ≡ value_after os name → t ≡ unwrap_or o [] → has c.required slot ≡ true → list_all (λ o. not (has o.slots slot) || bytes_eq o.name name || bytes_eq o.name name) c.options ≡ true → value_of (options_in c ws) name ≡ Some t
    required_text slot name o t e f w h =
        let given = text_read name o e in
        elim (required_value slot name name w h) [
          | inl (v, g) ↦ g ∙ ap (λ x. Some x) (sym (f ∙ ap (λ x. unwrap_or x []) (given ∙ g)))
          | inr (v, g) ↦ g ∙ ap (λ x. Some x) (sym (f ∙ ap (λ x. unwrap_or x []) (given ∙ g)))
        ]

    -- the number of a required slot, and that it is in the range
    pub required_number : (slot : ℕ) (name : List ℕ) (least most other : ℕ) (o : Option (List ℕ)) (r : ℕ) → o ≡ value_after os name → r ≡ read_number most other o → takes_form c.options name (Number least most) ≡ true → has c.required slot ≡ true → list_all (λ o. not (has o.slots slot) || bytes_eq o.name name || bytes_eq o.name name) c.options ≡ true → (v : List ℕ) × (value_of (options_in c ws) name ≡ Some v) × (r ≡ decimal_value v) × (least ≤ r) × (r ≤ most)
    required_number slot name least most other o r e f t w h =
        elim (required_value slot name name w h) [ inl (v, g) ↦ numbered v g | inr (v, g) ↦ numbered v g ]
      where
        numbered : (v : List ℕ) → value_of (options_in c ws) name ≡ Some v → (v : List ℕ) × (value_of (options_in c ws) name ≡ Some v) × (r ≡ decimal_value v) × (least ≤ r) × (r ≤ most)
        numbered v g =
            let form = value_fits c (options_in c ws) name (Number least most) v is.reads.members t g in
            let same : r ≡ decimal_value v = f ∙ ap (read_number most other) (text_read name o e ∙ g) ∙ number_read least most other v form in
            let bounds = number_range least most v form in
            (v, g, same, omega (arith, same, bounds.0), omega (arith, same, bounds.1))

    -- the key of a required slot
    pub required_key : (slot : ℕ) (name : List ℕ) (o : Option (List ℕ)) (r : List ℕ) → o ≡ value_after os name → r ≡ read_key o → takes_form c.options name Key ≡ true → has c.required slot ≡ true → list_all (λ o. not (has o.slots slot) || bytes_eq o.name name || bytes_eq o.name name) c.options ≡ true → (v : List ℕ) × (value_of (options_in c ws) name ≡ Some v) × (decode_sized v 32 ≡ Ok r)
    required_key slot name o r e f t w h =
        elim (required_value slot name name w h) [ inl (v, g) ↦ keyed v g | inr (v, g) ↦ keyed v g ]
      where
        keyed : (v : List ℕ) → value_of (options_in c ws) name ≡ Some v → (v : List ℕ) × (value_of (options_in c ws) name ≡ Some v) × (decode_sized v 32 ≡ Ok r)
        keyed v g =
            let form = value_fits c (options_in c ws) name Key v is.reads.members t g in
            let k = key_decodes v form in
            (v, g, k.1 ∙ ap (λ x. Ok x) (sym (f ∙ ap read_key (text_read name o e ∙ g) ∙ ap key_or_zeros k.1)))

  pub words_enough : 1 + length c.operands ≤ length ws
  words_enough =
      let size = fit_length c.operands (operands_in c ws) is.reads.forms in
      omega (arith, size, ap length is.reads.text, length-append (operands_in c ws) (flat_map option_words (options_in c ws)))

pub rest_texts : {Y : Type 0} (words : List (String Y)) (n : ℕ) → texts (take (length words - n) (drop n words)) ≡ drop n (texts words)
rest_texts words n = ap texts (take_all (length words - n) (drop n words) (omega (arith, length-drop n words))) ∙ sym (drop-map string_bytes n words)

pub one_operand : (ws : List (List ℕ)) → 2 ≤ length ws → take 1 (drop 1 ws) ≡ get_or ws 1 [] ∷ []
one_operand [] le = absurd (omega arith)
one_operand (w ∷ []) le = absurd (omega arith)
one_operand (w ∷ v ∷ ws) le = refl

pub two_operands : (ws : List (List ℕ)) → 3 ≤ length ws → take 2 (drop 1 ws) ≡ get_or ws 1 [] ∷ get_or ws 2 [] ∷ []
two_operands [] le = absurd (omega arith)
two_operands (w ∷ []) le = absurd (omega arith)
two_operands (w ∷ v ∷ []) le = absurd (omega arith)
two_operands (w ∷ v ∷ u ∷ ws) le = refl
