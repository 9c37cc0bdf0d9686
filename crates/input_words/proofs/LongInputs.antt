-- A long file is wrong at the same line as its front.
use Rattle.std.proofs.Common.{ℕ, inl, inr, zero, suc, ◌+◌, ◌*◌, ◌≡◌, ◌≤◌, ℤ, List, [], ◌∷◌, ◌++◌, length, take, drop, true, false, nat_eq, refl, ap, ◌∙◌, subst, arith, length-append, append_assoc}
use Rattle.std.specs.Prelude.{◌⊎◌}
use Rattle.std.specs.List.{list_all}
use Rattle.std.proofs.lemmas.Bool.{eqb-true, and_from, not_from_false}
use Rattle.std.proofs.lemmas.List.{take-append-drop, length-take-le}
use Rattle.input_words.specs.Words.{IsWord}
use Rattle.input_words.specs.Lines.{lines_of, Spell}
use Rattle.input_words.specs.Telling.{IsWrongAt, LongInputsAreWrong}
use Rattle.input_words.proofs.WordForm.{word_short, word_or_none}
use Rattle.input_words.proofs.LineForm.{is_inner, lines_ended, lines_open, lines_longer, is_wrong}

-- the first newline of a text cuts it
record Cut (xs : List ℕ) : Type 0 where
  pub line : List ℕ
  pub after : List ℕ
  pub text : xs ≡ line ++ 10 ∷ after
  pub inner : list_all is_inner line ≡ true

-- a text has a first newline or none
cut_or_open : (xs : List ℕ) → Cut xs ⊎ (list_all is_inner xs ≡ true)
cut_or_open [] = inr refl
cut_or_open (x ∷ xs) = elim (nat_eq x 10) as (λ t. nat_eq x 10 ≡ t → Cut (x ∷ xs) ⊎ (list_all is_inner (x ∷ xs) ≡ true)) [
  | true ↦ λ e. inl (record { line = []; after = xs; text = ap (λ b. b ∷ xs) (eqb-true x 10 e); inner = refl })
  | false ↦ λ e. elim (cut_or_open xs) [
    | inl c ↦ inl (record { line = x ∷ c.line; after = c.after; text = ap (λ bs. x ∷ bs) c.text; inner = and_from (is_inner x) (list_all is_inner c.line) (not_from_false (nat_eq x 10) e) c.inner })
    | inr h ↦ inr (and_from (is_inner x) (list_all is_inner xs) (not_from_false (nat_eq x 10) e) h)
  ]
] refl

-- two texts have lines before one that is wrong in both, or that n lines stand before
record Alike (n : ℕ) (xs ys : List ℕ) : Type 0 where
  pub before : List (List ℕ)
  pub line : List ℕ
  pub after : List (List ℕ)
  pub lines : lines_of xs ≡ before ++ line ∷ after
  pub other : List ℕ
  pub rest : List (List ℕ)
  pub others : lines_of ys ≡ before ++ other ∷ rest
  pub words : List ℤ
  pub spelled : Spell before words
  pub few : length before ≤ n
  pub wrong : (length before ≡ n) ⊎ (((w : ℤ) → IsWord line w → ⊥) × ((w : ℤ) → IsWord other w → ⊥))

too_long : (line : List ℕ) → 21 ≤ length line → (w : ℤ) → IsWord line w → ⊥
too_long line h w i = let s = word_short line w i in omega (arith, s, h)

-- a front without a newline is too long a line in both
open_front : (n : ℕ) (xs ys : List ℕ) → 21 ≤ length xs → list_all is_inner xs ≡ true → Alike n xs (xs ++ ys)
open_front n [] ys h free = absurd (omega arith)
open_front n (x ∷ xs) ys h free =
    let r = lines_longer x xs ys free in
    let size = length-append (x ∷ xs) r.0 in
    record {
      before = [];
      line = x ∷ xs;
      after = [];
      lines = lines_open x xs free;
      other = (x ∷ xs) ++ r.0;
      rest = r.1;
      others = r.2;
      words = [];
      spelled = tt;
      few = omega arith;
      wrong = inr (too_long (x ∷ xs) h, too_long ((x ∷ xs) ++ r.0) (omega (arith, size, h)));
    }

-- the lines of two texts that begin with the same line
cut_lines : (xs ys : List ℕ) (c : Cut xs) → (lines_of xs ≡ c.line ∷ lines_of c.after) × (lines_of (xs ++ ys) ≡ c.line ∷ lines_of (c.after ++ ys))
cut_lines xs ys c = (
  ap lines_of c.text ∙ lines_ended c.line c.after c.inner,
  ap (λ bs. lines_of (bs ++ ys)) c.text ∙ ap lines_of (append_assoc c.line (10 ∷ c.after) ys) ∙ lines_ended c.line (c.after ++ ys) c.inner,
)

-- where the first line spells no word
wrong_front : (n : ℕ) (xs ys : List ℕ) (c : Cut xs) → ((w : ℤ) → IsWord c.line w → ⊥) → Alike n xs (xs ++ ys)
wrong_front n xs ys c none =
    let l = cut_lines xs ys c in
    record {
      before = [];
      line = c.line;
      after = lines_of c.after;
      lines = l.0;
      other = c.line;
      rest = lines_of (c.after ++ ys);
      others = l.1;
      words = [];
      spelled = tt;
      few = omega arith;
      wrong = inr (none, none);
    }

-- where the first line spells a word and as much is known of the rest
right_front : (n : ℕ) (xs ys : List ℕ) (c : Cut xs) (w : ℤ) → IsWord c.line w → Alike n c.after (c.after ++ ys) → Alike (suc n) xs (xs ++ ys)
right_front n xs ys c w i a =
    let l = cut_lines xs ys c in
    record {
      before = c.line ∷ a.before;
      line = a.line;
      after = a.after;
      lines = l.0 ∙ ap (λ ls. c.line ∷ ls) a.lines;
      other = a.other;
      rest = a.rest;
      others = l.1 ∙ ap (λ ls. c.line ∷ ls) a.others;
      words = w ∷ a.words;
      spelled = (i, a.spelled);
      few = omega (arith, a.few);
      wrong = elim a.wrong [ inl e ↦ inl (ap suc e) | inr none ↦ inr none ];
    }

-- where no line may stand before
first_front : (xs ys : List ℕ) → 21 ≤ length xs → Alike zero xs (xs ++ ys)
first_front xs ys h = elim (cut_or_open xs) [
  | inl c ↦
      let l = cut_lines xs ys c in
      record {
        before = [];
        line = c.line;
        after = lines_of c.after;
        lines = l.0;
        other = c.line;
        rest = lines_of (c.after ++ ys);
        others = l.1;
        words = [];
        spelled = tt;
        few = omega arith;
        wrong = inl refl;
      }
  | inr free ↦ open_front zero xs ys h free
]

after_size : (n : ℕ) (xs : List ℕ) (c : Cut xs) (w : ℤ) → IsWord c.line w → 21 * suc n + 21 ≤ length xs → 21 * suc n ≤ length c.after
after_size n xs c w i h =
    let short = word_short c.line w i in
    let whole = ap length c.text in
    let parts = length-append c.line (10 ∷ c.after) in
    omega (arith, short, whole, parts, h)

fronts : (n : ℕ) (xs ys : List ℕ) → 21 * suc n ≤ length xs → Alike n xs (xs ++ ys)
fronts zero xs ys h = first_front xs ys (omega (arith, h))
fronts (suc n) xs ys h = elim (cut_or_open xs) [
  | inl c ↦ elim (word_or_none c.line) [
    | inl r ↦ right_front n xs ys c r.0 r.1 (fronts n c.after ys (after_size n xs c r.0 r.1 (omega (arith, h))))
    | inr none ↦ wrong_front (suc n) xs ys c none
  ]
  | inr free ↦ open_front (suc n) xs ys (omega (arith, h)) free
]

both_wrong : (xs ys : List ℕ) → Alike 65536 xs ys → (number : ℕ) × IsWrongAt ys number × IsWrongAt xs number
both_wrong xs ys a = (
  length a.before + 1,
  is_wrong ys (length a.before + 1) (record {
    before = a.before;
    line = a.other;
    after = a.rest;
    lines = a.others;
    place = refl;
    words = a.words;
    spelled = a.spelled;
    few = a.few;
    wrong = elim a.wrong [ inl e ↦ inl (omega (arith, e)) | inr none ↦ inr none.1 ];
  }),
  is_wrong xs (length a.before + 1) (record {
    before = a.before;
    line = a.line;
    after = a.after;
    lines = a.lines;
    place = refl;
    words = a.words;
    spelled = a.spelled;
    few = a.few;
    wrong = elim a.wrong [ inl e ↦ inl (omega (arith, e)) | inr none ↦ inr none.0 ];
  }),
)

pub long_wrong : LongInputsAreWrong
long_wrong bytes h =
    let n : ℕ = 1376277 in
    let size : length (take n bytes) ≡ n = length-take-le n bytes h in
    let a = fronts 65536 (take n bytes) (drop n bytes) (omega (arith, size)) in
    both_wrong (take n bytes) bytes (subst (λ bs. Alike 65536 (take n bytes) bs) (take-append-drop n bytes) a)
