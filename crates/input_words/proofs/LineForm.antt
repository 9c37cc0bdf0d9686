-- Lines are taken off a text one by one, and what they spell is one list of words.
use Rattle.std.proofs.Common.{ℕ, inl, inr, suc, ◌+◌, ◌-◌, ◌≡◌, ◌≤◌, ◌<◌, ℤ, List, [], ◌∷◌, ◌++◌, length, take, drop, get_or, Bool, true, false, nat_eq, refl, sym, ap, ◌∙◌, subst, arith, length-append}
use Rattle.std.specs.Prelude.{not}
use Rattle.std.specs.List.{list_all}
use Rattle.std.proofs.lemmas.Bool.{and_parts, cases_order, not-true}
use Rattle.std.proofs.lemmas.List.{take-append-drop, drop_more, take_rest, take_all}
use Rattle.input_words.specs.Words.{IsWord}
use Rattle.input_words.specs.Lines.{lines_of, Spell, HasWords, FirstWrong}
use Rattle.input_words.specs.Telling.{AreItsWords, IsWrongAt}
use Rattle.input_words.proofs.WordForm.{word_once}

-- a byte within a line
abbrev pub is_inner : ℕ → Bool
is_inner b = not (nat_eq b 10)

begins : (b : ℕ) (bs : List ℕ) (line : List ℕ) (lines : List (List ℕ)) → is_inner b ≡ true → lines_of bs ≡ line ∷ lines → lines_of (b ∷ bs) ≡ (b ∷ line) ∷ lines
begins b bs line lines h e =
    let n : nat_eq b 10 ≡ false = not-true (nat_eq b 10) h in
    rw (n, e) refl

-- a newline ends the first line
pub lines_ended : (xs ys : List ℕ) → list_all is_inner xs ≡ true → lines_of (xs ++ 10 ∷ ys) ≡ xs ∷ lines_of ys
lines_ended [] ys h = refl
lines_ended (x ∷ xs) ys h =
    let p = and_parts (is_inner x) (list_all is_inner xs) h in
    begins x (xs ++ 10 ∷ ys) xs (lines_of ys) p.0 (lines_ended xs ys p.1)

-- a text without a newline is one line
pub lines_open : (x : ℕ) (xs : List ℕ) → list_all is_inner (x ∷ xs) ≡ true → lines_of (x ∷ xs) ≡ (x ∷ xs) ∷ []
lines_open x [] h =
    let p = and_parts (is_inner x) true h in
    let n : nat_eq x 10 ≡ false = not-true (nat_eq x 10) p.0 in
    rw n refl
lines_open x (y ∷ ys) h =
    let p = and_parts (is_inner x) (list_all is_inner (y ∷ ys)) h in
    begins x (y ∷ ys) (y ∷ ys) [] p.0 (lines_open y ys p.1)

-- what a text without a newline begins, its first line begins with
pub lines_longer : (x : ℕ) (xs ys : List ℕ) → list_all is_inner (x ∷ xs) ≡ true → (more : List ℕ) × (after : List (List ℕ)) × (lines_of ((x ∷ xs) ++ ys) ≡ ((x ∷ xs) ++ more) ∷ after)
lines_longer x [] ys h =
    let p = and_parts (is_inner x) true h in
    starts (lines_of ys) refl p.0
  where
    starts : (ls : List (List ℕ)) → lines_of ys ≡ ls → is_inner x ≡ true → (more : List ℕ) × (after : List (List ℕ)) × (lines_of (x ∷ ys) ≡ (x ∷ more) ∷ after)
    starts [] e k = let n : nat_eq x 10 ≡ false = not-true (nat_eq x 10) k in ([], [], rw (n, e) refl)
    starts (l ∷ ls) e k = (l, ls, begins x ys l ls k e)
lines_longer x (y ∷ xs) ys h =
    let p = and_parts (is_inner x) (list_all is_inner (y ∷ xs)) h in
    let r = lines_longer y xs ys p.1 in
    (r.0, r.1, begins x ((y ∷ xs) ++ ys) ((y ∷ xs) ++ r.0) r.1 p.0 r.2)

-- a text up to an index, the byte there, and the rest
pub cut : (xs : List ℕ) (at : ℕ) → at < length xs → xs ≡ take at xs ++ get_or xs at 0 ∷ drop (at + 1) xs
cut xs at h = sym (take-append-drop at xs) ∙ ap (λ ys. take at xs ++ ys) (drop_more xs at 0 h)

-- a newline is found at an index
pub line_found : (xs : List ℕ) (at : ℕ) → at < length xs → get_or xs at 0 ≡ 10 → list_all is_inner (take at xs) ≡ true → lines_of xs ≡ take at xs ∷ lines_of (take (length xs - (at + 1)) (drop (at + 1) xs))
line_found xs at h e free =
    ap lines_of (cut xs at h ∙ ap (λ b. take at xs ++ b ∷ drop (at + 1) xs) e) ∙ lines_ended (take at xs) (drop (at + 1) xs) free ∙ ap (λ r. take at xs ∷ lines_of r) (sym (take_rest xs (at + 1)))

-- no newline is found
pub line_whole : (xs : List ℕ) (at : ℕ) → 1 ≤ length xs → length xs ≤ at → list_all is_inner (take at xs) ≡ true → lines_of xs ≡ xs ∷ []
line_whole [] at h k free = absurd (omega arith)
line_whole (x ∷ xs) at h k free = lines_open x xs (ap (list_all is_inner) (sym (take_all at (x ∷ xs) k)) ∙ free)

-- ---- what lines spell

pub spell_length : (ls : List (List ℕ)) (ws : List ℤ) → Spell ls ws → length ls ≡ length ws
spell_length [] [] s = refl
spell_length [] (w ∷ ws) s = absurd s
spell_length (l ∷ ls) [] s = absurd s
spell_length (l ∷ ls) (w ∷ ws) s = ap suc (spell_length ls ws s.1)

pub spell_once : (ls : List (List ℕ)) (vs ws : List ℤ) → Spell ls vs → Spell ls ws → vs ≡ ws
spell_once [] [] [] s t = refl
spell_once [] [] (w ∷ ws) s t = absurd t
spell_once [] (v ∷ vs) ws s t = absurd s
spell_once (l ∷ ls) [] ws s t = absurd s
spell_once (l ∷ ls) (v ∷ vs) [] s t = absurd t
spell_once (l ∷ ls) (v ∷ vs) (w ∷ ws) s t = ap (λ x. x ∷ vs) (word_once l v w s.0 t.0) ∙ ap (λ xs. w ∷ xs) (spell_once ls vs ws s.1 t.1)

pub spell_push : (ls : List (List ℕ)) (ws : List ℤ) (l : List ℕ) (w : ℤ) → Spell ls ws → IsWord l w → Spell (ls ++ l ∷ []) (ws ++ w ∷ [])
spell_push [] [] l w s i = (i, tt)
spell_push [] (v ∷ vs) l w s i = absurd s
spell_push (k ∷ ks) [] l w s i = absurd s
spell_push (k ∷ ks) (v ∷ vs) l w s i = (s.0, spell_push ks vs l w s.1 i)

-- each line among those that spell words spells one
pub spell_at : (before : List (List ℕ)) (l : List ℕ) (after : List (List ℕ)) (ws : List ℤ) → Spell (before ++ l ∷ after) ws → (w : ℤ) × IsWord l w
spell_at [] l after [] s = absurd s
spell_at [] l after (w ∷ ws) s = (w, s.0)
spell_at (k ∷ ks) l after [] s = absurd s
spell_at (k ∷ ks) l after (w ∷ ws) s = spell_at ks l after ws s.1

-- of two cuts of the same lines, the line of the earlier stands before that of the later
earlier : (xs ys : List (List ℕ)) (l m : List ℕ) (ks js : List (List ℕ)) (ws : List ℤ) → xs ++ l ∷ ks ≡ ys ++ m ∷ js → Spell ys ws → length xs < length ys → (w : ℤ) × IsWord l w
earlier xs [] l m ks js ws e s h = absurd (omega arith)
earlier xs (y ∷ ys) l m ks js [] e s h = absurd s
earlier [] (y ∷ ys) l m ks js (w ∷ ws) e s h = (w, subst (λ k. IsWord k w) (sym (ap (λ ks. get_or ks 0 l) e)) s.0)
earlier (x ∷ xs) (y ∷ ys) l m ks js (w ∷ ws) e s h = earlier xs ys l m ks js ws (ap (drop 1) e) s.1 (omega arith)

not_earlier : (bytes : List ℕ) (m n : ℕ) (p : FirstWrong bytes m) (q : FirstWrong bytes n) → length p.before < length q.before → ⊥
not_earlier bytes m n p q h = elim p.wrong [
  | inl e ↦ omega (arith, e, p.place, q.few, h)
  | inr none ↦ let r = earlier p.before q.before p.line q.line p.after q.after q.words (sym p.lines ∙ q.lines) q.spelled h in none r.0 r.1
]

-- one line at most is the first wrong one
pub wrong_once : (bytes : List ℕ) (m n : ℕ) → FirstWrong bytes m → FirstWrong bytes n → m ≡ n
wrong_once bytes m n p q = elim (cases_order (length p.before) (length q.before)) [
  | inl e ↦ omega (arith, e, p.place, q.place)
  | inr (inl lt) ↦ absurd (not_earlier bytes m n p q lt)
  | inr (inr gt) ↦ absurd (not_earlier bytes n m q p gt)
]

-- a file with words has no wrong line
pub words_right : (bytes : List ℕ) (ws : List ℤ) (n : ℕ) → HasWords bytes ws → FirstWrong bytes n → ⊥
words_right bytes ws n h p =
    let s : Spell (p.before ++ p.line ∷ p.after) ws = subst (λ ls. Spell ls ws) p.lines h.spelled in
    let size = spell_length (p.before ++ p.line ∷ p.after) ws s in
    let parts = length-append p.before (p.line ∷ p.after) in
    elim p.wrong [
      | inl e ↦ omega (arith, e, p.place, size, parts, h.few)
      | inr none ↦ let r = spell_at p.before p.line p.after ws s in none r.0 r.1
    ]

pub are_words : (bytes : List ℕ) (ws : List ℤ) → HasWords bytes ws → AreItsWords bytes ws
are_words bytes ws h = record {
  has = h;
  only = λ vs k. spell_once (lines_of bytes) vs ws k.spelled h.spelled;
  right = λ n p. words_right bytes ws n h p;
}

pub is_wrong : (bytes : List ℕ) (n : ℕ) → FirstWrong bytes n → IsWrongAt bytes n
is_wrong bytes n p = record {
  first = p;
  only = λ m q. wrong_once bytes m n q p;
  none = λ ws h. words_right bytes ws n h p;
}
