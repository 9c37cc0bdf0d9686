-- Fronts of commands: which words begin a command, and which don't.
use Rattle.std.proofs.Common.{ℕ, zero, suc, ◌+◌, ◌≡◌, ◌<◌, List, [], ◌∷◌, ◌++◌, length, take, drop, get_or, map, true, false, refl, sym, ap, ◌∙◌, subst, arith, append_assoc, append-nil}
use Rattle.std.specs.Prelude.{◌&&◌, not, Contains}
use Rattle.std.specs.List.{AllByRecursion, AllZip, list_all, flat_map}
use Rattle.std.specs.Str.{bytes_eq}
use Rattle.std.proofs.lemmas.Bool.{false≢true}
use Rattle.std.proofs.lemmas.List.{take_more, take-append-drop, take_all, length-append}
use Rattle.std.proofs.lemmas.List.Concat.{flat_map-append}
use Rattle.command_grammar.specs.declared.form.WordForm.{WordForm}
use Rattle.command_grammar.specs.Forms.{fits, sample}
use Rattle.command_grammar.specs.Grammar.{Begins, Belongs, Breaks, CommandOption, Command, Given, HasOneReading, IsCommand, IsCommandOf, Reads, Usage, has, is_once, option_words, slots_of}
use Rattle.command_grammar.specs.Sound.{are_distinct, has_sample, is_sound, is_sound_command}
use Rattle.command_grammar.specs.Scanning.{can_name, can_take, is_free, means}
use Rattle.command_grammar.proofs.Slots.{all_at, all_right, both, both_left, both_right, bytes_same, none_at, not_true, once_apart, once_left, same_bytes, some_at}
use Rattle.command_grammar.proofs.Options.{completed, front_of, once_more, one_more, sampled, sound_operands, sound_required}

abbrev pub given_of : CommandOption → List ℕ → Given
given_of o v = record { option = o; value = v }

-- ---- lists

pub append_split : {X : Type 0} (xs ys us vs : List X) → length xs ≡ length ys → xs ++ us ≡ ys ++ vs → (xs ≡ ys) × (us ≡ vs)
append_split [] [] us vs l e = (refl, e)
append_split [] (y ∷ ys) us vs l e = absurd (omega arith)
append_split (x ∷ xs) [] us vs l e = absurd (omega arith)
append_split (x ∷ xs) (y ∷ ys) us vs l e =
    let head : x ≡ y = cc in
    let tail : xs ++ us ≡ ys ++ vs = cc in
    let r = append_split xs ys us vs (omega arith) tail in
    (ap (λ z. z ∷ xs) head ∙ ap (λ zs. y ∷ zs) r.0, r.1)

abbrev pub AllFit : List WordForm → List (List ℕ) → Type 0
AllFit forms words = AllZip (λ form word. fits form word ≡ true) forms words

pub fit_length : (forms : List WordForm) (words : List (List ℕ)) → AllFit forms words → length words ≡ length forms
fit_length [] [] h = refl
fit_length [] (w ∷ ws) h = absurd h
fit_length (f ∷ fs) [] h = absurd h
fit_length (f ∷ fs) (w ∷ ws) h = ap suc (fit_length fs ws h.1)

pub fit_join : (fs hs : List WordForm) (ws us : List (List ℕ)) → AllFit fs ws → AllFit hs us → AllFit (fs ++ hs) (ws ++ us)
fit_join [] hs [] us h k = k
fit_join [] hs (w ∷ ws) us h k = absurd h
fit_join (f ∷ fs) hs [] us h k = absurd h
fit_join (f ∷ fs) hs (w ∷ ws) us h k = (h.0, fit_join fs hs ws us h.1 k)

samples_fit : (fs hs : List WordForm) → list_all has_sample (fs ++ hs) ≡ true → AllFit hs (map sample hs)
samples_fit [] [] h = tt
samples_fit [] (f ∷ fs) h = (both_left (has_sample f) (list_all has_sample fs) h, samples_fit [] fs (both_right (has_sample f) (list_all has_sample fs) h))
samples_fit (f ∷ fs) hs h = samples_fit fs hs (both_right (has_sample f) (list_all has_sample (fs ++ hs)) h)

-- an operand's form holds of the word at its slot
operand_fits : (fs : List WordForm) (f : WordForm) (hs : List WordForm) (ops ws rest more : List (List ℕ)) (w : List ℕ) → AllFit (fs ++ f ∷ hs) ops → length ws ≡ length fs → ops ++ rest ≡ ws ++ w ∷ more → fits f w ≡ true
operand_fits [] f hs [] ws rest more w h l e = absurd h
operand_fits [] f hs (o ∷ ops) [] rest more w h l e = let same : o ≡ w = cc in ap (fits f) (sym same) ∙ h.0
operand_fits [] f hs (o ∷ ops) (x ∷ ws) rest more w h l e = absurd (omega arith)
operand_fits (g ∷ fs) f hs [] ws rest more w h l e = absurd h
operand_fits (g ∷ fs) f hs (o ∷ ops) [] rest more w h l e = absurd (omega arith)
operand_fits (g ∷ fs) f hs (o ∷ ops) (x ∷ ws) rest more w h l e = let tail : ops ++ rest ≡ ws ++ w ∷ more = cc in operand_fits fs f hs ops ws rest more w h.1 (omega arith) tail

-- ---- tables

same_at : {K : Type 0} (cs : List (Command K)) (i j : ℕ) (c d : Command K) → are_distinct cs ≡ true → i < length cs → get_or cs i c ≡ c → j < length cs → get_or cs j d ≡ d → c.name ≡ d.name → c ≡ d
same_at [] i j c d h l e m f n = absurd (omega arith)
same_at (x ∷ xs) zero zero c d h l e m f n = sym e ∙ f
same_at (x ∷ xs) zero (suc j) c d h l e m f n =
    let t = not_true (bytes_eq x.name d.name) (all_at (λ d. not (bytes_eq x.name d.name)) xs j d (both_left (list_all (λ d. not (bytes_eq x.name d.name)) xs) (are_distinct xs) h) (omega arith) f) in
    absurd (false≢true (sym t ∙ bytes_same x.name d.name (ap (λ y. y.name) e ∙ n)))
same_at (x ∷ xs) (suc i) zero c d h l e m f n =
    let t = not_true (bytes_eq x.name c.name) (all_at (λ d. not (bytes_eq x.name d.name)) xs i c (both_left (list_all (λ d. not (bytes_eq x.name d.name)) xs) (are_distinct xs) h) (omega arith) e) in
    absurd (false≢true (sym t ∙ bytes_same x.name c.name (ap (λ y. y.name) f ∙ sym n)))
same_at (x ∷ xs) (suc i) (suc j) c d h l e m f n = same_at xs i j c d (both_right (list_all (λ d. not (bytes_eq x.name d.name)) xs) (are_distinct xs) h) (omega arith) e (omega arith) f n

distinct_of : {K : Type 0} (t : List (Command K)) → is_sound t ≡ true → are_distinct t ≡ true
distinct_of [] h = absurd (false≢true h)
distinct_of (c ∷ cs) h = both_left (are_distinct (c ∷ cs)) (list_all is_sound_command (c ∷ cs)) h

all_sound : {K : Type 0} (t : List (Command K)) → is_sound t ≡ true → list_all is_sound_command t ≡ true
all_sound [] h = absurd (false≢true h)
all_sound (c ∷ cs) h = both_right (are_distinct (c ∷ cs)) (list_all is_sound_command (c ∷ cs)) h

first_row : {K : Type 0} (t : List (Command K)) → is_sound t ≡ true → (c : Command K) × Contains t c
first_row [] h = absurd (false≢true h)
first_row (c ∷ cs) h = (c, (zero, omega arith, refl))

module _ {K : Type 0} (table : List (Command K)) (sound : is_sound table ≡ true) where
  pub same_command : (c d : Command K) → Contains table c → Contains table d → c.name ≡ d.name → c ≡ d
  same_command c d i j n = same_at table i.0 j.0 c d (distinct_of table sound) i.1 i.2 j.1 j.2 n

  pub sound_command : (c : Command K) → Contains table c → is_sound_command c ≡ true
  sound_command c i = all_at is_sound_command table i.0 c (all_sound table sound) i.1 i.2

  -- a front of words that begin a command begins one
  pub begins_front : (xs ys : List (List ℕ)) → Begins table (xs ++ ys) → Begins table xs
  begins_front xs ys b = (ys ++ b.0, subst (IsCommand table) (append_assoc xs ys b.0) b.1)

  -- a first word that names no command
  pub no_command : (w : List ℕ) → ((c : Command K) → Contains table c → c.name ≡ w → ⊥) → Begins table (w ∷ []) → ⊥
  no_command w none (more, (c, i, ops, gs, is)) = let text = is.reads.text in let name : c.name ≡ w = cc in none c i name

  -- ---- the options

  module _ (c : Command K) (inside : Contains table c) (ws ops : List (List ℕ)) (gs : List Given) (r : Reads c ws ops gs) where
    -- a command that goes on after what was read gives more options
    pub continued : (rest : List (List ℕ)) → IsCommand table (ws ++ rest) → (tail : List Given) × (flat_map option_words tail ≡ rest) × IsCommandOf c (ws ++ rest) ops (gs ++ tail)
    continued rest (d, i, os, hs, is) =
        let text : d.name ∷ (os ++ flat_map option_words hs) ≡ (c.name ∷ (ops ++ flat_map option_words gs)) ++ rest = sym is.reads.text ∙ ap (λ xs. xs ++ rest) r.text in
        let name : d.name ≡ c.name = cc in
        let tails : os ++ flat_map option_words hs ≡ (ops ++ flat_map option_words gs) ++ rest = cc in
        let same : d ≡ c = same_command d c i inside name in
        let lengths : length os ≡ length ops = fit_length d.operands os is.reads.forms ∙ ap (λ e. length e.operands) same ∙ sym (fit_length c.operands ops r.forms) in
        let s = append_split os ops (flat_map option_words hs) (flat_map option_words gs ++ rest) lengths (tails ∙ append_assoc ops (flat_map option_words gs) rest) in
        let here : IsCommandOf c (ws ++ rest) ops hs = subst (λ xs. IsCommandOf c (ws ++ rest) xs hs) s.0 (subst (λ e. IsCommandOf e (ws ++ rest) os hs) same is) in
        let f = front_of c (sound_command c inside) gs hs rest r.members here.reads.members s.1 in
        (f.0, f.2, subst (λ xs. IsCommandOf c (ws ++ rest) ops xs) f.1 here)

    -- the option that the next word names
    pub record Next (w : List ℕ) (more : List (List ℕ)) : Type 0 where
      pub given : Given
      pub belongs : Belongs c given
      pub free : is_free (slots_of gs) given.option ≡ true
      pub others : List Given
      pub text : option_words given ++ flat_map option_words others ≡ w ∷ more

    pub next : (w : List ℕ) (more : List (List ℕ)) → IsCommand table (ws ++ w ∷ more) → Next w more
    next w more is = let k = continued (w ∷ more) is in at_tail k.0 k.1 k.2
      where
        at_tail : (tail : List Given) → flat_map option_words tail ≡ w ∷ more → IsCommandOf c (ws ++ w ∷ more) ops (gs ++ tail) → Next w more
        at_tail [] e k = absurd cc
        at_tail (g ∷ tail) e k =
            let members = all_right (Belongs c) gs (g ∷ tail) k.reads.members in
            let slots : slots_of (gs ++ g ∷ tail) ≡ slots_of gs ++ (g.option.slots ++ slots_of tail) = flat_map-append (λ h. h.option.slots) gs (g ∷ tail) in
            let split : slots_of gs ++ (g.option.slots ++ slots_of tail) ≡ (slots_of gs ++ g.option.slots) ++ slots_of tail = sym (append_assoc (slots_of gs) g.option.slots (slots_of tail)) in
            let once = once_left (slots_of gs ++ g.option.slots) (slots_of tail) (ap is_once (sym split) ∙ ap is_once (sym slots) ∙ k.reads.once) in
            record { given = g; belongs = members.0; free = once_apart (slots_of gs) g.option.slots once; others = tail; text = e }

    -- a word that names no free option
    pub no_name : (w : List ℕ) → can_name c.options (slots_of gs) w ≡ false → Begins table (ws ++ w ∷ []) → ⊥
    no_name w f b =
        let n = next w b.0 (subst (IsCommand table) (append_assoc ws (w ∷ []) b.0) b.1) in
        let text = n.text in
        let name : n.given.option.name ≡ w = cc in
        let i = n.belongs.listed in
        let t = none_at (λ o. bytes_eq o.name w && is_free (slots_of gs) o) c.options i.0 n.given.option f i.1 i.2 in
        false≢true (sym t ∙ both (bytes_eq n.given.option.name w) (is_free (slots_of gs) n.given.option) (bytes_same n.given.option.name w name) n.free)

    -- a value that no free option of that name has
    pub no_value : (w v : List ℕ) → can_take c.options (slots_of gs) w v ≡ false → Begins table (ws ++ w ∷ v ∷ []) → ⊥
    no_value w v f b =
        let n = next w (v ∷ b.0) (subst (IsCommand table) (append_assoc ws (w ∷ v ∷ []) b.0) b.1) in
        let text = n.text in
        let name : n.given.option.name ≡ w = cc in
        let value : n.given.value ≡ v = cc in
        let i = n.belongs.listed in
        let t = none_at (λ o. means w v o && is_free (slots_of gs) o) c.options i.0 n.given.option f i.1 i.2 in
        let fit : fits n.given.option.form v ≡ true = ap (fits n.given.option.form) (sym value) ∙ n.belongs.form in
        false≢true (sym t ∙ both (means w v n.given.option) (is_free (slots_of gs) n.given.option) (both (bytes_eq n.given.option.name w) (fits n.given.option.form v) (bytes_same n.given.option.name w name) fit) n.free)

    -- one more option is read
    pub reads_more : (g : Given) → Belongs c g → is_free (slots_of gs) g.option ≡ true → Reads c (ws ++ option_words g) ops (gs ++ g ∷ [])
    reads_more g b f =
        let slots = once_more c (sound_command c inside) gs g r.once b.listed f in
        record {
          text = ap (λ xs. xs ++ option_words g) r.text ∙ ap (λ xs. c.name ∷ xs) (append_assoc ops (flat_map option_words gs) (option_words g) ∙ ap (λ xs. ops ++ xs) (sym (flat_map-append option_words gs (g ∷ []))));
          forms = r.forms;
          members = one_more c (sound_command c inside) gs g r.members b;
          once = slots;
        }

    -- what was read begins a command
    pub begins_read : Begins table ws
    begins_read =
        let k = completed c (sound_command c inside) c.required (sound_required c (sound_command c inside)) gs r.members r.once in
        let text : ws ++ flat_map option_words k.more ≡ c.name ∷ (ops ++ flat_map option_words (gs ++ k.more)) =
        ap (λ xs. xs ++ flat_map option_words k.more) r.text ∙ ap (λ xs. c.name ∷ xs) (append_assoc ops (flat_map option_words gs) (flat_map option_words k.more) ∙ ap (λ xs. ops ++ xs) (sym (flat_map-append option_words gs k.more))) in (
          flat_map option_words k.more,
          (
            c,
            inside,
            ops,
            gs ++ k.more,
            record {
              reads = record { text = text; forms = r.forms; members = k.members; once = k.once };
              complete = k.complete;
            },
          ),
        )

  module _ (c : Command K) (inside : Contains table c) (ws ops : List (List ℕ)) (gs : List Given) (r : Reads c ws ops gs) where
    -- a name of a free option goes on
    pub begins_name : (w : List ℕ) → can_name c.options (slots_of gs) w ≡ true → Begins table (ws ++ w ∷ [])
    begins_name w h =
        let s = some_at (λ o. bytes_eq o.name w && is_free (slots_of gs) o) c.options h in
        let g = sampled c (sound_command c inside) s.0 s.1 in
        let free : is_free (slots_of gs) g.0.option ≡ true = ap (is_free (slots_of gs)) g.2 ∙ both_right (bytes_eq s.0.name w) (is_free (slots_of gs) s.0) s.2 in
        let name : g.0.option.name ≡ w = ap (λ o. o.name) g.2 ∙ same_bytes s.0.name w (both_left (bytes_eq s.0.name w) (is_free (slots_of gs) s.0) s.2) in
        let more = reads_more c inside ws ops gs r g.0 g.1 free in
        let b : Begins table (ws ++ option_words g.0) = begins_read c inside (ws ++ option_words g.0) ops (gs ++ g.0 ∷ []) more in
        let split : ws ++ option_words g.0 ≡ (ws ++ w ∷ []) ++ (g.0.value ∷ []) = ap (λ n. ws ++ n ∷ g.0.value ∷ []) name ∙ sym (append_assoc ws (w ∷ []) (g.0.value ∷ [])) in
        begins_front (ws ++ w ∷ []) (g.0.value ∷ []) (subst (Begins table) split b)

    -- a name and a value that a free option takes
    pub takes : (w v : List ℕ) → can_take c.options (slots_of gs) w v ≡ true → (g : Given) × Reads c (ws ++ w ∷ v ∷ []) ops (gs ++ g ∷ [])
    takes w v h =
        let s = some_at (λ o. means w v o && is_free (slots_of gs) o) c.options h in
        let m = both_left (means w v s.0) (is_free (slots_of gs) s.0) s.2 in
        let free = both_right (means w v s.0) (is_free (slots_of gs) s.0) s.2 in
        let name : s.0.name ≡ w = same_bytes s.0.name w (both_left (bytes_eq s.0.name w) (fits s.0.form v) m) in
        let g = given_of s.0 v in
        let b : Belongs c g = record { listed = s.1; form = both_right (bytes_eq s.0.name w) (fits s.0.form v) m } in
        (g, subst (λ n. Reads c (ws ++ n ∷ v ∷ []) ops (gs ++ g ∷ [])) name (reads_more c inside ws ops gs r g b free))

    -- what is required is given in each command of these words
    pub required_given : IsCommand table ws → AllByRecursion (λ slot. has (slots_of gs) slot ≡ true) c.required
    required_given is =
        let k = continued c inside ws ops gs r [] (subst (IsCommand table) (sym (append-nil ws)) is) in
        let none : k.0 ≡ [] = no_options k.0 k.1 in
        subst (λ xs. AllByRecursion (λ slot. has (slots_of xs) slot ≡ true) c.required) (ap (λ xs. gs ++ xs) none ∙ append-nil gs) k.2.complete
      where
        no_options : (xs : List Given) → flat_map option_words xs ≡ [] → xs ≡ []
        no_options [] e = refl
        no_options (x ∷ xs) e = absurd cc

  no_options : (xs : List Given) → flat_map option_words xs ≡ [] → xs ≡ []
  no_options [] e = refl
  no_options (x ∷ xs) e = absurd cc

  pub one_reading : HasOneReading table
  one_reading ws c d i j ops os gs hs a b =
      let text : d.name ∷ (os ++ flat_map option_words hs) ≡ c.name ∷ (ops ++ flat_map option_words gs) = sym b.reads.text ∙ a.reads.text in
      let name : d.name ≡ c.name = cc in
      let tails : os ++ flat_map option_words hs ≡ ops ++ flat_map option_words gs = cc in
      let same : d ≡ c = same_command d c j i name in
      let lengths : length os ≡ length ops = fit_length d.operands os b.reads.forms ∙ ap (λ e. length e.operands) same ∙ sym (fit_length c.operands ops a.reads.forms) in
      let s = append_split os ops (flat_map option_words hs) (flat_map option_words gs) lengths tails in
      let members : AllByRecursion (Belongs c) hs = subst (λ e. AllByRecursion (Belongs e) hs) same b.reads.members in
      let f = front_of c (sound_command c i) gs hs [] a.reads.members members (s.1 ∙ sym (append-nil (flat_map option_words gs))) in
      (sym same, sym s.0, sym (f.1 ∙ ap (λ xs. gs ++ xs) (no_options f.0 f.2) ∙ append-nil gs))

  -- ---- the operands

  module _ (c : Command K) (inside : Contains table c) (fs hs : List WordForm) (all : c.operands ≡ fs ++ hs) (ws : List (List ℕ)) (fit : AllFit fs ws) where
    -- a name and the first operands begin a command
    pub begins_operands : Begins table (c.name ∷ ws)
    begins_operands =
        let samples = samples_fit fs hs (ap (list_all has_sample) (sym all) ∙ sound_operands c (sound_command c inside)) in
        let ops = ws ++ map sample hs in
        let r : Reads c (c.name ∷ ops) ops [] = record {
          text = ap (λ xs. c.name ∷ xs) (sym (append-nil ops));
          forms = subst (λ xs. AllFit xs ops) (sym all) (fit_join fs hs ws (map sample hs) fit samples);
          members = tt;
          once = refl;
        } in
        begins_front (c.name ∷ ws) (map sample hs) (begins_read c inside (c.name ∷ ops) ops [] r)

  -- the rest of a command after its name
  operands_of : (c : Command K) → Contains table c → (more : List (List ℕ)) → IsCommand table (c.name ∷ more) → (ops rest : List (List ℕ)) × AllFit c.operands ops × (ops ++ rest ≡ more)
  operands_of c i more (d, j, ops, gs, is) =
      let text = is.reads.text in
      let name : c.name ≡ d.name = cc in
      let tail : ops ++ flat_map option_words gs ≡ more = cc in
      (ops, flat_map option_words gs, subst (λ e. AllFit e.operands ops) (sym (same_command c d i j name)) is.reads.forms, tail)

  pub no_operand : (c : Command K) → Contains table c → (fs : List WordForm) (f : WordForm) (hs : List WordForm) → c.operands ≡ fs ++ f ∷ hs → (ws : List (List ℕ)) → AllFit fs ws → (w : List ℕ) → fits f w ≡ false → Begins table ((c.name ∷ ws) ++ w ∷ []) → ⊥
  no_operand c i fs f hs all ws fit w misfit b =
      let o = operands_of c i (ws ++ w ∷ b.0) (subst (IsCommand table) (append_assoc (c.name ∷ ws) (w ∷ []) b.0) b.1) in
      false≢true (sym misfit ∙ operand_fits fs f hs o.0 ws o.1 b.0 w (subst (λ xs. AllFit xs o.0) all o.2) (fit_length fs ws fit) o.3)

  pub few_operands : (c : Command K) → Contains table c → (ws : List (List ℕ)) → length ws < length c.operands → IsCommand table (c.name ∷ ws) → ⊥
  few_operands c i ws lt is =
      let o = operands_of c i ws is in
      let n = fit_length c.operands o.0 o.2 in
      absurd (omega (arith, lt, n, ap length o.3, length-append o.0 o.1))

  -- ---- the fault

  pub usage_at : (words : List (List ℕ)) (k : ℕ) → k < length words → Begins table (take k words) → (Begins table (take k words ++ get_or words k [] ∷ []) → ⊥) → Usage table words k
  usage_at words k lt b never =
      let more : take (k + 1) words ≡ take k words ++ get_or words k [] ∷ [] = take_more words k [] lt in
      record {
        none = λ is. never (subst (Begins table) more (drop (k + 1) words, subst (IsCommand table) (sym (take-append-drop (k + 1) words)) is));
        within = omega arith;
        begun = b;
        fault = λ l c. never (subst (Begins table) more c);
      }

  pub usage_end : (words : List (List ℕ)) → Begins table words → (IsCommand table words → ⊥) → Usage table words (length words)
  usage_end words b never = record { none = never; within = omega arith; begun = subst (Begins table) (sym (take_all (length words) words (omega arith))) b; fault = λ l c. absurd (omega (arith, l)) }

  -- the words before one that isn't text
  pub breaks_at : (words : List (List ℕ)) (k : ℕ) → Usage table words k → Breaks table words k
  breaks_at words k u = record { within = u.within; begun = u.begun; fault = u.fault }

  pub breaks_end : (words : List (List ℕ)) → IsCommand table words → Breaks table words (length words)
  breaks_end words is = record {
    within = omega arith;
    begun = subst (Begins table) (sym (take_all (length words) words (omega arith))) ([], subst (IsCommand table) (sym (append-nil words)) is);
    fault = λ l b. absurd (omega (arith, l));
  }

  -- no words
  pub begins_nothing : Begins table []
  begins_nothing =
      let c = first_row table sound in
      begins_front [] (c.0.name ∷ []) (begins_operands c.0 c.1 [] c.0.operands refl [] tt)
