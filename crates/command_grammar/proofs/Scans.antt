-- What the scanner's tests say of the words.
use Rattle.std.proofs.Common.{ℕ, zero, suc, ◌+◌, ◌-◌, ◌≡◌, ◌<◌, ◌≤◌, List, [], ◌∷◌, ◌++◌, length, take, drop, get_or, map, cond, Bool, true, false, Some, None, refl, sym, ap, ◌∙◌, subst, arith, append_assoc, append-nil, one-add, inl, inr}
use Rattle.std.specs.Prelude.{◌&&◌, ◌||◌, Contains, ◌⊎◌, String, string_bytes, if◌then◌else◌}
use Rattle.std.specs.List.{AllByRecursion, list_all, list_any, flat_map, slice_range, take-map, drop-map}
use Rattle.std.specs.Str.{bytes_eq}
use Rattle.std.proofs.lemmas.Bool.{false≢true}
use Rattle.std.proofs.lemmas.List.{take_more, take-append-drop, take_all, length-drop, length-map, drop-take}
use Rattle.std.proofs.Math.Seq.{drop-cons, drop-append_seam}
use Rattle.command_grammar.specs.declared.form.WordForm.{WordForm}
use Rattle.command_grammar.specs.Forms.{fits}
use Rattle.command_grammar.specs.Grammar.{Begins, Command, Given, IsCommand, IsCommandOf, Reads, Usage, has, option_words, slots_of, texts}
use Rattle.command_grammar.specs.Sound.{is_sound, is_sound_command}
use Rattle.command_grammar.specs.Scanning.{HasOperands, can_name, can_take, command_named, fitting, means, given_in, operands_in, options_in, slots_in, is_free}
use Rattle.command_grammar.specs.Views.{command_option_of, command_options_of, command_of}
use Rattle.command_grammar.specs.declared.table.Command.{Command as Row}
use Rattle.command_grammar.proofs.Slots.{both, bytes_same, both_left, both_right, same_bytes}
use Rattle.command_grammar.proofs.Options.{given_is, slots_are}
use Rattle.command_grammar.proofs.Pairs.{text_at}
use Rattle.command_grammar.proofs.Fronts.{AllFit, Next, begins_name, begins_nothing, begins_operands, begins_read, few_operands, fit_length, next, no_command, no_name, no_operand, no_value, takes, usage_at, usage_end, required_given}

-- ---- the words of a command

module _ {K : Type 0} (c : Command K) (ws : List (List ℕ)) where
  pub begin_read : HasOperands c ws → Reads c (take (1 + length c.operands) ws) (operands_in c ws) []
  begin_read h = record {
    text = ap (λ n. take n ws) (one-add (length c.operands)) ∙ by_cases ws h.named ∙ ap (λ xs. c.name ∷ xs) (sym (append-nil (operands_in c ws)));
    forms = h.forms;
    members = tt;
    once = refl;
  }
    where
      by_cases : (xs : List (List ℕ)) → take 1 xs ≡ c.name ∷ [] → take (suc (length c.operands)) xs ≡ c.name ∷ take (length c.operands) (drop 1 xs)
      by_cases [] e = absurd cc
      by_cases (x ∷ xs) e = let same : x ≡ c.name = cc in ap (λ y. y ∷ take (length c.operands) xs) same

  -- the words from the first option on are those of the given options
  pub options_from : (at : ℕ) (gs : List Given) → 1 + length c.operands ≤ at → Reads c (take at ws) (operands_in c ws) gs → take (at - (1 + length c.operands)) (drop (1 + length c.operands) ws) ≡ flat_map option_words gs
  options_from at gs le r =
      let n = 1 + length c.operands in
      let front = c.name ∷ operands_in c ws in
      let whole : at ≡ n + (at - n) = omega arith in
      let size : n ≡ length front = omega (arith, fit_length c.operands (operands_in c ws) r.forms) in
      sym (drop-take n (at - n) ws) ∙ ap (λ k. drop n (take k ws)) (sym whole) ∙ ap (drop n) r.text ∙ ap (λ k. drop k (front ++ flat_map option_words gs)) size ∙ drop-append_seam front (flat_map option_words gs)

  -- all words were read
  pub options_all : (at : ℕ) (gs : List Given) → 1 + length c.operands ≤ at → length ws ≤ at → Reads c (take at ws) (operands_in c ws) gs → drop (1 + length c.operands) ws ≡ flat_map option_words gs
  options_all at gs le all r =
      let n = 1 + length c.operands in
      sym (take_all (at - n) (drop n ws) (omega (arith, length-drop n ws))) ∙ options_from at gs le r

texts_range : {Y : Type 0} (words : List (String Y)) (a b : ℕ) → texts (slice_range words a b) ≡ take (b - a) (drop a (texts words))
texts_range words a b = sym (take-map string_bytes (b - a) (drop a words)) ∙ ap (take (b - a)) (sym (drop-map string_bytes a words))

any_map : {X Y : Type 0} (f : X → Y) (p : Y → Bool) (xs : List X) → list_any p (map f xs) ≡ list_any (λ x. p (f x)) xs
any_map f p [] = refl
any_map f p (x ∷ xs) = ap (λ b. p (f x) || b) (any_map f p xs)

-- ---- the options, where the scanner stands at a word

module _ {K : Type 0} {Y : Type 0} (row : Row K) (words : List (String Y)) (sound : is_sound_command (command_of row) ≡ true) (at : ℕ) (gs : List Given) (from : 1 + length row.operands.now ≤ at) (r : Reads (command_of row) (take at (texts words)) (operands_in (command_of row) (texts words)) gs) where
  abbrev taken : List ℕ
  taken = slots_in (command_options_of row.options.now) (texts (slice_range words (1 + length row.operands.now) at))

  pub taken_is : taken ≡ slots_of gs
  taken_is =
      ap (slots_in (command_options_of row.options.now)) (texts_range words (1 + length row.operands.now) at ∙ options_from (command_of row) (texts words) at gs from r) ∙ slots_are (command_of row) sound gs r.members

  pub can_name_is : (name : List ℕ) (b : Bool) → b ≡ list_any (λ o. bytes_eq o.name.now name && is_free taken (command_option_of o)) row.options.now → b ≡ can_name (command_options_of row.options.now) (slots_of gs) name
  can_name_is name b e = e ∙ sym (any_map command_option_of (λ o. bytes_eq o.name name && is_free taken o) row.options.now) ∙ ap (λ ps. can_name (command_options_of row.options.now) ps name) taken_is

  pub can_take_is : (name value : List ℕ) (b : Bool) → b ≡ list_any (λ o. means name value (command_option_of o) && is_free taken (command_option_of o)) row.options.now → b ≡ can_take (command_options_of row.options.now) (slots_of gs) name value
  can_take_is name value b e = e ∙ sym (any_map command_option_of (λ o. means name value o && is_free taken o) row.options.now) ∙ ap (λ ps. can_take (command_options_of row.options.now) ps name value) taken_is

  -- what the tests answered, of the words where the scanner stands
  pub name_read : at < length words → (w : String Y) → w ≡ get_or words at w → (name : List ℕ) → name ≡ string_bytes w → (b : Bool) → b ≡ list_any (λ o. bytes_eq o.name.now name && is_free taken (command_option_of o)) row.options.now → can_name (command_options_of row.options.now) (slots_of gs) (get_or (texts words) at []) ≡ b
  name_read lt w iw name ew b e =
      ap (λ n. can_name (command_options_of row.options.now) (slots_of gs) n) (text_at words at w lt iw ∙ sym ew) ∙ sym (can_name_is name b e)

  pub value_read : at + 1 < length words → (w v : String Y) → w ≡ get_or words at w → v ≡ get_or words (at + 1) v → (name value : List ℕ) → name ≡ string_bytes w → value ≡ string_bytes v → (b : Bool) → b ≡ list_any (λ o. means name value (command_option_of o) && is_free taken (command_option_of o)) row.options.now → can_take (command_options_of row.options.now) (slots_of gs) (get_or (texts words) at []) (get_or (texts words) (at + 1) []) ≡ b
  value_read lt w v iw iv name value ew ev b e =
      ap (λ n. can_take (command_options_of row.options.now) (slots_of gs) n (get_or (texts words) (at + 1) [])) (text_at words at w (omega arith) iw ∙ sym ew)
      ∙ ap (λ n. can_take (command_options_of row.options.now) (slots_of gs) name n) (text_at words (at + 1) v lt iv ∙ sym ev) ∙ sym (can_take_is name value b e)

  pub required_read : length words ≤ at → (b : Bool) → b ≡ list_all (λ p. has (slots_in (command_options_of row.options.now) (texts (slice_range words (1 + length row.operands.now) (length words)))) p) row.required.now → list_all (λ p. has (slots_of gs) p) row.required.now ≡ b
  required_read le b e =
      let n = 1 + length row.operands.now in
      let size : length (texts words) ≡ length words = length-map words string_bytes in
      let all : take (length words - n) (drop n (texts words)) ≡ drop n (texts words) = take_all (length words - n) (drop n (texts words)) (omega (arith, size, length-drop n (texts words))) in
      let slots : slots_in (command_options_of row.options.now) (texts (slice_range words n (length words))) ≡ slots_of gs =
      ap (slots_in (command_options_of row.options.now)) (texts_range words n (length words) ∙ all ∙ options_all (command_of row) (texts words) at gs from (omega (arith, size, le)) r) ∙ slots_are (command_of row) sound gs r.members in
      ap (λ ps. list_all (λ p. has ps p) row.required.now) (sym slots) ∙ sym e

-- the first word, and those after it
pub texts_front : {Y : Type 0} (words : List (String Y)) (w : String Y) → 0 < length words → w ≡ get_or words 0 w → texts words ≡ string_bytes w ∷ texts (take (length words - 1) (drop 1 words))
texts_front [] w lt e = absurd (omega arith)
texts_front (x ∷ xs) w lt e =
    let n : suc (length xs) - 1 ≡ length xs = omega arith in
    ap (λ y. string_bytes y ∷ texts xs) (sym e) ∙ ap (λ ys. string_bytes w ∷ texts ys) (sym (ap (λ k. take k xs) n ∙ take_all (length xs) xs (omega arith)))

-- ---- what is said of the words

module _ {K : Type 0} (table : List (Command K)) (sound : is_sound table ≡ true) (c : Command K) (inside : Contains table c) (ws ops : List (List ℕ)) (at : ℕ) (gs : List Given) (r : Reads c (take at ws) ops gs) where
  pub name_fault : at < length ws → can_name c.options (slots_of gs) (get_or ws at []) ≡ false → Usage table ws at
  name_fault lt f =
      usage_at table sound ws at lt (begins_read table sound c inside (take at ws) ops gs r) (no_name table sound c inside (take at ws) ops gs r (get_or ws at []) f)

  named : at < length ws → can_name c.options (slots_of gs) (get_or ws at []) ≡ true → Begins table (take (at + 1) ws)
  named lt f = subst (Begins table) (sym (take_more ws at [] lt)) (begins_name table sound c inside (take at ws) ops gs r (get_or ws at []) f)

  pub value_missing : at + 1 ≡ length ws → can_name c.options (slots_of gs) (get_or ws at []) ≡ true → Usage table ws (length ws)
  value_missing last f =
      let lt : at < length ws = omega arith in
      let all : take (at + 1) ws ≡ ws = take_all (at + 1) ws (omega arith) in
      let split : ws ≡ take at ws ++ get_or ws at [] ∷ [] = sym all ∙ take_more ws at [] lt in
      usage_end table sound ws (subst (Begins table) all (named lt f)) (λ is. alone (next table sound c inside (take at ws) ops gs r (get_or ws at []) [] (subst (IsCommand table) split is)))
    where
      alone : Next table sound c inside (take at ws) ops gs r (get_or ws at []) [] → ⊥
      alone n = let text = n.text in absurd cc

  two_more : at + 1 < length ws → take (at + 2) ws ≡ take at ws ++ get_or ws at [] ∷ get_or ws (at + 1) [] ∷ []
  two_more lt =
      let k : at + 2 ≡ (at + 1) + 1 = omega arith in
      ap (λ n. take n ws) k ∙ take_more ws (at + 1) [] lt ∙ ap (λ xs. xs ++ get_or ws (at + 1) [] ∷ []) (take_more ws at [] (omega arith)) ∙ append_assoc (take at ws) (get_or ws at [] ∷ []) (get_or ws (at + 1) [] ∷ [])

  pub value_fault : at + 1 < length ws → can_name c.options (slots_of gs) (get_or ws at []) ≡ true → can_take c.options (slots_of gs) (get_or ws at []) (get_or ws (at + 1) []) ≡ false → Usage table ws (at + 1)
  value_fault lt f g =
      let both : take (at + 1) ws ++ get_or ws (at + 1) [] ∷ [] ≡ take at ws ++ get_or ws at [] ∷ get_or ws (at + 1) [] ∷ [] =
      ap (λ xs. xs ++ get_or ws (at + 1) [] ∷ []) (take_more ws at [] (omega arith)) ∙ append_assoc (take at ws) (get_or ws at [] ∷ []) (get_or ws (at + 1) [] ∷ []) in
      usage_at table sound ws (at + 1) lt (named (omega arith) f) (λ b. no_value table sound c inside (take at ws) ops gs r (get_or ws at []) (get_or ws (at + 1) []) g (subst (Begins table) both b))

  pub required_fault : length ws ≤ at → list_all (λ p. has (slots_of gs) p) c.required ≡ false → Usage table ws (length ws)
  required_fault le f =
      let all : take at ws ≡ ws = take_all at ws le in
      usage_end table sound ws (subst (Begins table) all (begins_read table sound c inside (take at ws) ops gs r))
      (λ is. false≢true (sym f ∙ all_tested (λ p. has (slots_of gs) p) c.required (required_given table sound c inside (take at ws) ops gs r (subst (IsCommand table) (sym all) is))))
    where
      all_tested : (p : ℕ → Bool) (xs : List ℕ) → AllByRecursion (λ x. p x ≡ true) xs → list_all p xs ≡ true
      all_tested p [] h = refl
      all_tested p (x ∷ xs) h = both (p x) (list_all p xs) h.0 (all_tested p xs h.1)

-- a name and its value are read, by what the command alone says
module _ {K : Type 0} (c : Command K) (sound : is_sound_command c ≡ true) (ws ops : List (List ℕ)) (at : ℕ) (gs : List Given) (r : Reads c (take at ws) ops gs) where
  pub read_more : at + 1 < length ws → can_take c.options (slots_of gs) (get_or ws at []) (get_or ws (at + 1) []) ≡ true → (hs : List Given) × Reads c (take (at + 2) ws) ops hs
  read_more lt f =
      let k : at + 2 ≡ (at + 1) + 1 = omega arith in
      let two : take (at + 2) ws ≡ take at ws ++ get_or ws at [] ∷ get_or ws (at + 1) [] ∷ [] =
      ap (λ n. take n ws) k ∙ take_more ws (at + 1) [] lt ∙ ap (λ xs. xs ++ get_or ws (at + 1) [] ∷ []) (take_more ws at [] (omega arith)) ∙ append_assoc (take at ws) (get_or ws at [] ∷ []) (get_or ws (at + 1) [] ∷ []) in
      let t = takes (c ∷ []) (ap (λ b. b && true) sound) c (zero, omega arith, refl) (take at ws) ops gs r (get_or ws at []) (get_or ws (at + 1) []) f in
      (gs ++ t.0 ∷ [], subst (λ xs. Reads c xs ops (gs ++ t.0 ∷ [])) (sym two) t.1)

  -- all is read, and all that is required is there
  pub read_all : ops ≡ operands_in c ws → 1 + length c.operands ≤ at → length ws ≤ at → list_all (λ p. has (slots_of gs) p) c.required ≡ true → IsCommandOf c ws (operands_in c ws) (options_in c ws)
  read_all o from le f =
      let all : take at ws ≡ ws = take_all at ws le in
      let given : options_in c ws ≡ gs = ap (given_in c.options) (options_all c ws at gs from le (subst (λ xs. Reads c (take at ws) xs gs) o r)) ∙ given_is c sound gs r.members in
      subst (λ xs. IsCommandOf c ws (operands_in c ws) xs) (sym given)
      (subst (λ xs. IsCommandOf c ws xs gs) o (record { reads = subst (λ xs. Reads c xs ops gs) all r; complete = each (λ p. has (slots_of gs) p) c.required f }))
    where
      each : (p : ℕ → Bool) (xs : List ℕ) → list_all p xs ≡ true → AllByRecursion (λ x. p x ≡ true) xs
      each p [] h = tt
      each p (x ∷ xs) h = (both_left (p x) (list_all p xs) h, each p xs (both_right (p x) (list_all p xs) h))

-- ---- the operands

fitting_front : (fs : List WordForm) (ws : List (List ℕ)) → AllFit (take (fitting fs ws) fs) (take (fitting fs ws) ws)
fitting_front [] ws = tt
fitting_front (f ∷ fs) [] = tt
fitting_front (f ∷ fs) (w ∷ ws) = elim (fits f w) as (λ t. fits f w ≡ t → AllFit (take (if t then 1 + fitting fs ws else 0) (f ∷ fs)) (take (if t then 1 + fitting fs ws else 0) (w ∷ ws))) [
  | true ↦ λ e. rw one-add (e, fitting_front fs ws)
  | false ↦ λ e. tt
] refl

fitting_stop : (fs : List WordForm) (ws : List (List ℕ)) → fitting fs ws < length fs → (fitting fs ws ≡ length ws) ⊎ ((f : WordForm) × (fitting fs ws < length ws) × (get_or fs (fitting fs ws) f ≡ f) × (fits f (get_or ws (fitting fs ws) []) ≡ false))
fitting_stop [] ws lt = absurd (omega arith)
fitting_stop (f ∷ fs) [] lt = inl refl
fitting_stop (f ∷ fs) (w ∷ ws) less = elim (fits f w) as (λ t. fits f w ≡ t → (if t then 1 + fitting fs ws else 0) < suc (length fs) → ((if t then 1 + fitting fs ws else 0) ≡ suc (length ws)) ⊎ ((g : WordForm) × ((if t then 1 + fitting fs ws else 0) < suc (length ws)) × (get_or (f ∷ fs) (if t then 1 + fitting fs ws else 0) g ≡ g) × (fits g (get_or (w ∷ ws) (if t then 1 + fitting fs ws else 0) []) ≡ false))) [
  | true ↦ λ e lt. rw one-add (further (fitting_stop fs ws (omega arith)))
  | false ↦ λ e lt. inr (f, omega arith, refl, e)
] refl less
  where
    further : (fitting fs ws ≡ length ws) ⊎ ((g : WordForm) × (fitting fs ws < length ws) × (get_or fs (fitting fs ws) g ≡ g) × (fits g (get_or ws (fitting fs ws) []) ≡ false)) → (suc (fitting fs ws) ≡ suc (length ws)) ⊎ ((g : WordForm) × (suc (fitting fs ws) < suc (length ws)) × (get_or fs (fitting fs ws) g ≡ g) × (fits g (get_or ws (fitting fs ws) []) ≡ false))
    further (inl e) = inl (ap suc e)
    further (inr (g, lt, e, m)) = inr (g, omega arith, e, m)

pub all_fitting : (fs : List WordForm) (ws : List (List ℕ)) → length fs ≤ fitting fs ws → (length fs ≤ length ws) × AllFit fs (take (length fs) ws)
all_fitting [] ws le = (omega arith, tt)
all_fitting (f ∷ fs) [] le = absurd (omega arith)
all_fitting (f ∷ fs) (w ∷ ws) all = elim (fits f w) as (λ t. fits f w ≡ t → suc (length fs) ≤ (if t then 1 + fitting fs ws else 0) → (suc (length fs) ≤ suc (length ws)) × AllFit (f ∷ fs) (w ∷ take (length fs) ws)) [
  | true ↦ λ e le. let r = all_fitting fs ws (omega arith) in (omega (arith, r.0), (e, r.1))
  | false ↦ λ e le. absurd (omega arith)
] refl all

module _ {K : Type 0} (table : List (Command K)) (sound : is_sound table ≡ true) where
  -- an operand is missing, or hasn't its form
  pub operand_fault : (c : Command K) → Contains table c → (w : List ℕ) (ws : List (List ℕ)) → w ≡ c.name → fitting c.operands ws < length c.operands → Usage table (w ∷ ws) (fitting c.operands ws + 1)
  operand_fault c inside w ws e lt = elim (fitting_stop c.operands ws lt) [
    | inl all ↦
        let n = fitting c.operands ws in
        let whole : take n ws ≡ ws = take_all n ws (omega arith) in
        let k : n + 1 ≡ length (w ∷ ws) = omega arith in
        let b : Begins table (w ∷ ws) = subst (λ x. Begins table (x ∷ ws)) (sym e) (begins_operands table sound c inside (take n c.operands) (drop n c.operands) (sym (take-append-drop n c.operands)) ws (subst (AllFit (take n c.operands)) whole (fitting_front c.operands ws))) in
        subst (Usage table (w ∷ ws)) (sym k) (usage_end table sound (w ∷ ws) b (λ is. few_operands table sound c inside ws (omega arith) (subst (λ x. IsCommand table (x ∷ ws)) e is)))
    | inr (f, less, here, misfit) ↦
        let n = fitting c.operands ws in
        let fs = take n c.operands in
        let fit = fitting_front c.operands ws in
        let rest : c.operands ≡ fs ++ f ∷ drop (suc n) c.operands = sym (take-append-drop n c.operands) ∙ ap (λ xs. fs ++ xs) (drop-cons c.operands n f lt ∙ ap (λ x. x ∷ drop (suc n) c.operands) here) in
        let front : take (n + 1) (w ∷ ws) ≡ c.name ∷ take n ws = ap (λ j. take j (w ∷ ws)) add-one-n ∙ ap (λ x. x ∷ take n ws) e in
        let at_word : get_or (w ∷ ws) (n + 1) [] ≡ get_or ws n [] = ap (λ j. get_or (w ∷ ws) j []) add-one-n in
        let b : Begins table (take (n + 1) (w ∷ ws)) = subst (Begins table) (sym front) (begins_operands table sound c inside fs (f ∷ drop (suc n) c.operands) rest (take n ws) fit) in
        let same : take (n + 1) (w ∷ ws) ++ get_or (w ∷ ws) (n + 1) [] ∷ [] ≡ (c.name ∷ take n ws) ++ get_or ws n [] ∷ [] = ap (λ xs. xs ++ get_or (w ∷ ws) (n + 1) [] ∷ []) front ∙ ap (λ x. (c.name ∷ take n ws) ++ x ∷ []) at_word in
        usage_at table sound (w ∷ ws) (n + 1) (omega arith) b (λ g. no_operand table sound c inside fs f (drop (suc n) c.operands) rest (take n ws) fit (get_or ws n []) misfit (subst (Begins table) same g))
  ]
    where
      add-one-n : fitting c.operands ws + 1 ≡ suc (fitting c.operands ws)
      add-one-n = omega arith

  pub has_operands : (c : Command K) (w : List ℕ) (ws : List (List ℕ)) → w ≡ c.name → length c.operands ≤ fitting c.operands ws → HasOperands c (w ∷ ws)
  has_operands c w ws e le = let r = all_fitting c.operands ws le in record { named = ap (λ x. x ∷ []) e; enough = omega (arith, r.0); forms = r.1 }

  -- the first word names no command
  pub unknown_fault : (w : List ℕ) (ws : List (List ℕ)) → None ≡ command_named table w → Usage table (w ∷ ws) 0
  unknown_fault w ws e =
      usage_at table sound (w ∷ ws) 0 (omega arith) (begins_nothing table sound) (no_command table sound w (λ c i n. unnamed table i.0 c e i.1 i.2 n))
    where
      onward : (d : Command K) (ds : List (Command K)) (b : Bool) → None ≡ cond b (Some d) (command_named ds w) → None ≡ command_named ds w
      onward d ds true f = absurd cc
      onward d ds false f = f

      unnamed : (cs : List (Command K)) (k : ℕ) (c : Command K) → None ≡ command_named cs w → k < length cs → get_or cs k c ≡ c → c.name ≡ w → ⊥
      unnamed [] k c e lt is n = omega arith
      unnamed (d ∷ ds) zero c e lt is n =
          let t : bytes_eq d.name w ≡ true = bytes_same d.name w (ap (λ x. x.name) is ∙ n) in
          let f : None ≡ Some d = e ∙ ap (λ b. cond b (Some d) (command_named ds w)) t in
          absurd cc
      unnamed (d ∷ ds) (suc k) c e lt is n = unnamed ds k c (onward d ds (bytes_eq d.name w) e) (omega arith) is n

  pub no_words : Usage table [] 0
  no_words = usage_end table sound [] (begins_nothing table sound) (λ is. let text = is.4.reads.text in absurd cc)

-- a command that is found is in the table, under that name
pub command_found : {K : Type 0} (table : List (Command K)) (w : List ℕ) (c : Command K) → Some c ≡ command_named table w → Contains table c × (w ≡ c.name)
command_found [] w c e = absurd cc
command_found (d ∷ ds) w c found = elim (bytes_eq d.name w) as (λ t. bytes_eq d.name w ≡ t → Some c ≡ cond t (Some d) (command_named ds w) → Contains (d ∷ ds) c × (w ≡ c.name)) [
  | true ↦ λ t e. let same : c ≡ d = cc in ((zero, omega arith, sym same), sym (same_bytes d.name w t) ∙ ap (λ x. x.name) (sym same))
  | false ↦ λ t e. let r = command_found ds w c e in ((suc r.0.0, omega (arith, r.0.1), r.0.2), r.1)
] refl found

-- a fitting operand, and one that doesn't fit
pub fitting_step : {Y : Type 0} (fs : List WordForm) (words : List (String Y)) (n : ℕ) (w : String Y) (name : List ℕ) (d : WordForm) (b : Bool) → n < length fs → n < length words → w ≡ get_or words n w → name ≡ string_bytes w → b ≡ fits (get_or fs n d) name → fitting (drop n fs) (drop n (texts words)) ≡ (if b then 1 + fitting (drop (n + 1) fs) (drop (n + 1) (texts words)) else 0)
fitting_step fs words n w name d b lf lw iw ew eb =
    let size : length (texts words) ≡ length words = length-map words string_bytes in
    let word : name ≡ get_or (texts words) n [] = ew ∙ sym (text_at words n w lw iw) in
    let k : n + 1 ≡ suc n = omega arith in
    let forms : drop n fs ≡ get_or fs n d ∷ drop (n + 1) fs = drop-cons fs n d lf ∙ ap (λ j. get_or fs n d ∷ drop j fs) (sym k) in
    let texts_so : drop n (texts words) ≡ get_or (texts words) n [] ∷ drop (n + 1) (texts words) = drop-cons (texts words) n [] (omega (arith, size)) ∙ ap (λ j. get_or (texts words) n [] ∷ drop j (texts words)) (sym k) in
    ap (λ xs. fitting xs (drop n (texts words))) forms ∙ ap (λ xs. fitting (get_or fs n d ∷ drop (n + 1) fs) xs) texts_so
    ∙ ap (λ t. if t then 1 + fitting (drop (n + 1) fs) (drop (n + 1) (texts words)) else 0) (ap (fits (get_or fs n d)) (sym word) ∙ sym eb)

pub fitting_end : (fs : List WordForm) (ws : List (List ℕ)) (n : ℕ) → length ws ≤ n → fitting (drop n fs) (drop n ws) ≡ 0
fitting_end fs ws n le = none (drop n fs) (drop n ws) (omega (arith, length-drop n ws))
  where
    none : (gs : List WordForm) (us : List (List ℕ)) → length us ≡ 0 → fitting gs us ≡ 0
    none [] us e = refl
    none (g ∷ gs) [] e = refl
    none (g ∷ gs) (u ∷ us) e = absurd (omega arith)

pub no_texts : {Y : Type 0} (words : List (String Y)) → length words ≡ 0 → texts words ≡ []
no_texts [] e = refl
no_texts (w ∷ ws) e = absurd (omega arith)
