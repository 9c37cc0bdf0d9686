-- Given options: which option a name and a value mean, and how more are given.
use Rattle.std.proofs.Common.{ℕ, zero, suc, ◌≡◌, ◌<◌, List, [], ◌∷◌, ◌++◌, length, get_or, Bool, true, false, Option, Some, cond, refl, sym, ap, ◌∙◌, subst, arith, append_assoc, append-nil}
use Rattle.std.specs.Prelude.{◌&&◌, ◌||◌, not, Contains, nat_le}
use Rattle.std.specs.List.{AllByRecursion, list_all, list_any, find, flat_map}
use Rattle.std.specs.Str.{bytes_eq}
use Rattle.std.proofs.lemmas.Bool.Decides.{nat_tests}
use Rattle.std.proofs.lemmas.Bool.{false≢true}
use Rattle.std.proofs.lemmas.List.Concat.{flat_map-append}
use Rattle.command_grammar.specs.declared.form.WordForm.{WordForm}
use Rattle.command_grammar.specs.declared.form.WordForm.TheVariants.{Any, Number, Key, IntegerList}
use Rattle.command_grammar.specs.Forms.{fits, sample, excludes, is_plain, decimal_value}
use Rattle.command_grammar.specs.Grammar.{CommandOption, Command, Given, Belongs, option_words, slots_of, has, is_once}
use Rattle.command_grammar.specs.Sound.{are_apart, has_sample, is_unambiguous, is_sound_command, is_sound_option, takes_only}
use Rattle.command_grammar.specs.Scanning.{means, option_of, slots_in, slots_or_none, given_in, given_option, is_free}
use Rattle.command_grammar.proofs.Slots.{all_at, all_join, apart, apart_one, both, both_left, both_right, bytes_same, has_left, has_one, has_right, once_join, same_bytes, some_at}

-- ---- one option

in_both : (low most least high n : ℕ) → (not (nat_le low most) || not (nat_le least high)) ≡ true → nat_le least n ≡ true → nat_le n most ≡ true → nat_le low n ≡ true → nat_le n high ≡ true → ⊥
in_both low most least high n h a b c d = grind (arith, nat_tests)

excluded : (f g : WordForm) (w : List ℕ) → excludes f g ≡ true → fits f w ≡ true → fits g w ≡ true → ⊥
excluded (Number least most) (Number low high) w h a b =
    let n = decimal_value w in
    let a1 = both_right (is_plain w && nat_le least n) (nat_le n most) a in
    let a0 = both_right (is_plain w) (nat_le least n) (both_left (is_plain w && nat_le least n) (nat_le n most) a) in
    let b1 = both_right (is_plain w && nat_le low n) (nat_le n high) b in
    let b0 = both_right (is_plain w) (nat_le low n) (both_left (is_plain w && nat_le low n) (nat_le n high) b) in
    in_both low most least high n h a0 a1 b0 b1
excluded Any g w h a b = false≢true h
excluded Key g w h a b = false≢true h
excluded IntegerList g w h a b = false≢true h
excluded (Number least most) Any w h a b = false≢true h
excluded (Number least most) Key w h a b = false≢true h
excluded (Number least most) IntegerList w h a b = false≢true h

-- two options that stand apart aren't both meant
not_both : (n v : List ℕ) (o p : CommandOption) → are_apart o p ≡ true → means n v o ≡ true → means n v p ≡ true → ⊥
not_both n v o p h a b =
    let named_o = same_bytes o.name n (both_left (bytes_eq o.name n) (fits o.form v) a) in
    let named_p = same_bytes p.name n (both_left (bytes_eq p.name n) (fits p.form v) b) in
    let same : bytes_eq o.name p.name ≡ true = bytes_same o.name p.name (named_o ∙ sym named_p) in
    let both_so : (excludes o.form p.form && list_any (has o.slots) p.slots) ≡ true = ap (λ t. not t || (excludes o.form p.form && list_any (has o.slots) p.slots)) (sym same) ∙ h in
    excluded o.form p.form v (both_left (excludes o.form p.form) (list_any (has o.slots) p.slots) both_so) (both_right (bytes_eq o.name n) (fits o.form v) a) (both_right (bytes_eq p.name n) (fits p.form v) b)

-- an option that is meant is found
finds_at : (n v : List ℕ) (os : List CommandOption) (k : ℕ) (o : CommandOption) → k < length os → get_or os k o ≡ o → is_unambiguous os ≡ true → means n v o ≡ true → find (means n v) os ≡ Some o
finds_at n v [] k o lt e h m = absurd (omega arith)
finds_at n v (p ∷ ps) zero o lt e h m = ap (λ t. cond t (Some p) (find (means n v) ps)) (ap (means n v) e ∙ m) ∙ ap (λ q. Some q) e
finds_at n v (p ∷ ps) (suc k) o lt e h m =
    let other : means n v p ≡ false = apart_from (means n v p) (λ t. not_both n v p o (all_at (are_apart p) ps k o (both_left (list_all (are_apart p) ps) (is_unambiguous ps) h) (omega arith) e) t m) in
    ap (λ t. cond t (Some p) (find (means n v) ps)) other ∙ finds_at n v ps k o (omega arith) e (both_right (list_all (are_apart p) ps) (is_unambiguous ps) h) m
  where
    apart_from : (t : Bool) → (t ≡ true → ⊥) → t ≡ false
    apart_from true f = absurd (f refl)
    apart_from false f = refl

-- ---- a command whose options are clear

meant : {K : Type 0} (c : Command K) (g : Given) → Belongs c g → means g.option.name g.value g.option ≡ true
meant c g b = both (bytes_eq g.option.name g.option.name) (fits g.option.form g.value) (bytes_same g.option.name g.option.name refl) b.form

pub unambiguous_options : {K : Type 0} (c : Command K) → is_sound_command c ≡ true → is_unambiguous c.options ≡ true
unambiguous_options c h =
    both_right (list_all has_sample c.operands && list_all is_sound_option c.options) (is_unambiguous c.options)
    (both_left (list_all has_sample c.operands && list_all is_sound_option c.options && is_unambiguous c.options) (list_all (λ slot. list_any (takes_only slot) c.options) c.required) h)

pub sound_options : {K : Type 0} (c : Command K) → is_sound_command c ≡ true → list_all is_sound_option c.options ≡ true
sound_options c h =
    both_right (list_all has_sample c.operands) (list_all is_sound_option c.options)
    (both_left (list_all has_sample c.operands && list_all is_sound_option c.options) (is_unambiguous c.options)
    (both_left (list_all has_sample c.operands && list_all is_sound_option c.options && is_unambiguous c.options) (list_all (λ slot. list_any (takes_only slot) c.options) c.required) h))

pub sound_operands : {K : Type 0} (c : Command K) → is_sound_command c ≡ true → list_all has_sample c.operands ≡ true
sound_operands c h =
    both_left (list_all has_sample c.operands) (list_all is_sound_option c.options)
    (both_left (list_all has_sample c.operands && list_all is_sound_option c.options) (is_unambiguous c.options)
    (both_left (list_all has_sample c.operands && list_all is_sound_option c.options && is_unambiguous c.options) (list_all (λ slot. list_any (takes_only slot) c.options) c.required) h))

pub sound_required : {K : Type 0} (c : Command K) → is_sound_command c ≡ true → list_all (λ slot. list_any (takes_only slot) c.options) c.required ≡ true
sound_required c h = both_right (list_all has_sample c.operands && list_all is_sound_option c.options && is_unambiguous c.options) (list_all (λ slot. list_any (takes_only slot) c.options) c.required) h

module _ {K : Type 0} (c : Command K) (sound : is_sound_command c ≡ true) where
  -- an option's name and value mean it
  pub found : (g : Given) → Belongs c g → option_of c.options g.option.name g.value ≡ Some g.option
  found g b = finds_at g.option.name g.value c.options b.listed.0 g.option b.listed.1 b.listed.2 (unambiguous_options c sound) (meant c g b)

  pub given_is : (gs : List Given) → AllByRecursion (Belongs c) gs → given_in c.options (flat_map option_words gs) ≡ gs
  given_is [] h = refl
  given_is (g ∷ gs) h =
      ap (λ o. given_option g.value o (given_in c.options (flat_map option_words gs))) (found g h.0) ∙ ap (λ hs. g ∷ hs) (given_is gs h.1)

  pub slots_are : (gs : List Given) → AllByRecursion (Belongs c) gs → slots_in c.options (flat_map option_words gs) ≡ slots_of gs
  slots_are [] h = refl
  slots_are (g ∷ gs) h =
      ap (λ o. slots_or_none o ++ slots_in c.options (flat_map option_words gs)) (found g h.0) ∙ ap (λ ps. g.option.slots ++ ps) (slots_are gs h.1)

  -- of two rows of options that begin alike, the shorter is the front of the longer
  pub front_of : (gs hs : List Given) (rest : List (List ℕ)) → AllByRecursion (Belongs c) gs → AllByRecursion (Belongs c) hs → flat_map option_words hs ≡ flat_map option_words gs ++ rest → (tail : List Given) × (hs ≡ gs ++ tail) × (flat_map option_words tail ≡ rest)
  front_of [] hs rest a b e = (hs, refl, e)
  front_of (g ∷ gs) [] rest a b e = absurd cc
  front_of (g ∷ gs) (h ∷ hs) rest a b e =
      let name : h.option.name ≡ g.option.name = cc in
      let value : h.value ≡ g.value = cc in
      let others : flat_map option_words hs ≡ flat_map option_words gs ++ rest = cc in
      let so : option_of c.options h.option.name h.value ≡ option_of c.options g.option.name g.value = cc in
      let option : h.option ≡ g.option = same_option h.option g.option (option_of c.options h.option.name h.value) (option_of c.options g.option.name g.value) (found h b.0) so (found g a.0) in
      let same : h ≡ g = ap (λ o. given_of o h.value) option ∙ ap (given_of g.option) value in
      let r = front_of gs hs rest a.1 b.1 others in
      (r.0, ap (λ x. x ∷ hs) same ∙ ap (λ xs. g ∷ xs) r.1, r.2)
    where
      same_option : (o p : CommandOption) (s t : Option CommandOption) → s ≡ Some o → s ≡ t → t ≡ Some p → o ≡ p
      same_option o p s t d e f = cc

      given_of : CommandOption → List ℕ → Given
      given_of o v = record { option = o; value = v }

  -- ---- one more option

  pub one_more : (gs : List Given) (g : Given) → AllByRecursion (Belongs c) gs → Belongs c g → AllByRecursion (Belongs c) (gs ++ g ∷ [])
  one_more gs g a b = all_join (Belongs c) gs (g ∷ []) a (b, tt)

  pub slots_more : (gs : List Given) (g : Given) → slots_of (gs ++ g ∷ []) ≡ slots_of gs ++ g.option.slots
  slots_more gs g = flat_map-append (λ h. h.option.slots) gs (g ∷ []) ∙ ap (λ ps. slots_of gs ++ ps) (append-nil g.option.slots)

  pub option_at : (o : CommandOption) → Contains c.options o → is_sound_option o ≡ true
  option_at o k = all_at is_sound_option c.options k.0 o (sound_options c sound) k.1 k.2

  pub once_more : (gs : List Given) (g : Given) → is_once (slots_of gs) ≡ true → Contains c.options g.option → is_free (slots_of gs) g.option ≡ true → is_once (slots_of (gs ++ g ∷ [])) ≡ true
  once_more gs g h k f =
      ap is_once (slots_more gs g) ∙ once_join (slots_of gs) g.option.slots h (both_right (has_sample g.option.form && nat_le 1 (length g.option.slots)) (is_once g.option.slots) (option_at g.option k)) f

  -- an option of this name that is free, with a value of its form
  pub sampled : (o : CommandOption) → Contains c.options o → (g : Given) × Belongs c g × (g.option ≡ o)
  sampled o k = (record { option = o; value = sample o.form }, record { listed = k; form = both_left (has_sample o.form) (nat_le 1 (length o.slots)) (both_left (has_sample o.form && nat_le 1 (length o.slots)) (is_once o.slots) (option_at o k)) }, refl)

  -- ---- the required slots can be taken

  pub record Completed (gs : List Given) (required : List ℕ) : Type 0 where
    pub more : List Given
    pub members : AllByRecursion (Belongs c) (gs ++ more)
    pub once : is_once (slots_of (gs ++ more)) ≡ true
    pub complete : AllByRecursion (λ slot. has (slots_of (gs ++ more)) slot ≡ true) required

  has_front : (gs hs : List Given) (p : ℕ) → has (slots_of gs) p ≡ true → has (slots_of (gs ++ hs)) p ≡ true
  has_front gs hs p h = ap (λ ps. has ps p) (flat_map-append (λ g. g.option.slots) gs hs) ∙ has_left (slots_of gs) (slots_of hs) p h

  pub completed : (ps : List ℕ) → list_all (λ slot. list_any (takes_only slot) c.options) ps ≡ true → (gs : List Given) → AllByRecursion (Belongs c) gs → is_once (slots_of gs) ≡ true → Completed gs ps
  completed [] h gs a o = record { more = []; members = subst (AllByRecursion (Belongs c)) (sym (append-nil gs)) a; once = ap (λ xs. is_once (slots_of xs)) (append-nil gs) ∙ o; complete = tt }
  completed (p ∷ ps) h gs a o = elim (has (slots_of gs) p) as (λ t. has (slots_of gs) p ≡ t → Completed gs (p ∷ ps)) [
    | true ↦ λ e. taken e (completed ps rest gs a o)
    | false ↦ λ e. filled e (λ hs b k. completed ps rest hs b k)
  ] refl
    where
      here : list_any (takes_only p) c.options ≡ true
      here = both_left (list_any (takes_only p) c.options) (list_all (λ slot. list_any (takes_only slot) c.options) ps) h

      rest : list_all (λ slot. list_any (takes_only slot) c.options) ps ≡ true
      rest = both_right (list_any (takes_only p) c.options) (list_all (λ slot. list_any (takes_only slot) c.options) ps) h

      taken : has (slots_of gs) p ≡ true → Completed gs ps → Completed gs (p ∷ ps)
      taken e r = record { more = r.more; members = r.members; once = r.once; complete = (has_front gs r.more p e, r.complete) }

      joined : (g : Given) → has (slots_of (gs ++ g ∷ [])) p ≡ true → Completed (gs ++ g ∷ []) ps → Completed gs (p ∷ ps)
      joined g e r =
          let so : (gs ++ g ∷ []) ++ r.more ≡ gs ++ (g ∷ r.more) = append_assoc gs (g ∷ []) r.more in
          record {
            more = g ∷ r.more;
            members = subst (AllByRecursion (Belongs c)) so r.members;
            once = ap (λ xs. is_once (slots_of xs)) (sym so) ∙ r.once;
            complete = subst (λ xs. AllByRecursion (λ slot. has (slots_of xs) slot ≡ true) (p ∷ ps)) so (has_front (gs ++ g ∷ []) r.more p e, r.complete);
          }

      filled : has (slots_of gs) p ≡ false → ((hs : List Given) → AllByRecursion (Belongs c) hs → is_once (slots_of hs) ≡ true → Completed hs ps) → Completed gs (p ∷ ps)
      filled e onward =
          let s = some_at (takes_only p) c.options here in
          let g = sampled s.0 s.1 in
          let slots : g.0.option.slots ≡ p ∷ [] = ap (λ q. q.slots) g.2 ∙ same_bytes s.0.slots (p ∷ []) s.2 in
          let listed : Contains c.options g.0.option = g.1.listed in
          let free : is_free (slots_of gs) g.0.option ≡ true = ap (apart (slots_of gs)) slots ∙ apart_one (slots_of gs) p e in
          let once = once_more gs g.0 o listed free in
          let taken_now : has (slots_of (gs ++ g.0 ∷ [])) p ≡ true =
          ap (λ xs. has xs p) (slots_more gs g.0) ∙ has_right (slots_of gs) g.0.option.slots p (ap (λ xs. has xs p) slots ∙ has_one p) in
          joined g.0 taken_now (onward (gs ++ g.0 ∷ []) (one_more gs g.0 a g.1) once)
