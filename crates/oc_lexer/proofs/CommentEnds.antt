-- Where a comment ends, and what ends a line.
use Rattle.std.proofs.Common.{◌≡◌, ℕ, zero, suc, ◌+◌, ◌<◌, ◌≤◌, Bool, true, false, cond, List, [], ◌∷◌, length, get_or, take, drop, Option, Some, None, refl, sym, ap, subst, ◌∙◌, arith, zero-add, add-zero, inl, inr}
use Rattle.std.specs.Prelude.{not, ◌⊎◌, ◌&&◌, ◌||◌, nat_eq, option_map}
use Rattle.std.specs.List.{list_any}
use Rattle.std.proofs.lemmas.Bool.{and_parts, false≢true, true≢false}
use Rattle.std.proofs.lemmas.Bool.Decides.{nat_tests}
use Rattle.std.proofs.lemmas.List.{drop_more, drop_all, get_or-drop}
use Rattle.oc_lexer.specs.Bytes.{is_space, after, begins_with}
use Rattle.oc_lexer.specs.Comments.{ends_line}
use Rattle.oc_lexer.proofs.Runs.{after_longest}
use Rattle.oc_lexer.specs.Scanned.{body_length, comment_length, is_line_end, starts_comment}

-- ---- the first end of a comment

abbrev pub later : ℕ → Option ℕ → Option ℕ
later n o = option_map (λ m. n + m) o

pub later_zero : (o : Option ℕ) → later 0 o ≡ o
later_zero None = refl
later_zero (Some m) = ap (λ x. Some x) (zero-add m)

later_more : (n : ℕ) (o : Option ℕ) → later (n + 1) o ≡ later n (option_map (λ m. m + 1) o)
later_more n None = refl
later_more n (Some m) = ap (λ x. Some x) (let e : n + 1 + m ≡ n + (m + 1) = omega arith in e)

abbrev is_end : ℕ → ℕ → Bool
is_end b c = nat_eq b 42 && nat_eq c 47

none_anyway : (v : Bool) → (let o : Option ℕ = None in o) ≡ cond (v && false) (Some 0) None
none_anyway true = refl
none_anyway false = refl

pub body_cons : (b : ℕ) (more : List ℕ) → body_length (b ∷ more) ≡ cond (is_end b (get_or more 0 0)) (Some 0) (option_map (λ n. n + 1) (body_length more))
unfolding body_length
body_cons b [] = none_anyway (nat_eq b 42)
body_cons b (c ∷ more) = refl

body_at : (xs : List ℕ) (i : ℕ) (v : Bool) → i < length xs → is_end (get_or xs i 0) (get_or xs (i + 1) 0) ≡ v → body_length (drop i xs) ≡ cond v (Some 0) (option_map (λ n. n + 1) (body_length (drop (i + 1) xs)))
body_at xs i v lt h =
    ap body_length (drop_more xs i 0 lt) ∙ body_cons (get_or xs i 0) (drop (i + 1) xs)
    ∙ ap (λ x. cond x (Some 0) (option_map (λ n. n + 1) (body_length (drop (i + 1) xs)))) (ap (is_end (get_or xs i 0)) (get_or-drop (i + 1) xs 0 0 ∙ ap (λ k. get_or xs k 0) (add-zero (i + 1))) ∙ h)

pub body_goes : (xs : List ℕ) (i : ℕ) (total : Option ℕ) → i < length xs → is_end (get_or xs i 0) (get_or xs (i + 1) 0) ≡ false → later i (body_length (drop i xs)) ≡ total → later (i + 1) (body_length (drop (i + 1) xs)) ≡ total
body_goes xs i total lt h so_far = later_more i (body_length (drop (i + 1) xs)) ∙ sym (ap (later i) (body_at xs i false lt h)) ∙ so_far

pub body_stops : (xs : List ℕ) (i : ℕ) (total : Option ℕ) → i < length xs → is_end (get_or xs i 0) (get_or xs (i + 1) 0) ≡ true → later i (body_length (drop i xs)) ≡ total → Some i ≡ total
body_stops xs i total lt h so_far = ap (λ x. Some x) (sym (add-zero i)) ∙ sym (ap (later i) (body_at xs i true lt h)) ∙ so_far

body_nil : body_length [] ≡ None
unfolding body_length
body_nil = refl

pub body_ends : (xs : List ℕ) (i : ℕ) (total : Option ℕ) → length xs ≤ i → later i (body_length (drop i xs)) ≡ total → None ≡ total
body_ends xs i total le so_far = sym (ap (λ ys. later i (body_length ys)) (drop_all i xs le) ∙ ap (later i) body_nil) ∙ so_far

pub within_or_past : (xs : List ℕ) (i : ℕ) → (i < length xs) ⊎ (get_or xs i 0 ≡ 0)
within_or_past [] i = inr refl
within_or_past (x ∷ xs) zero = inl (omega arith)
within_or_past (x ∷ xs) (suc i) = elim (within_or_past xs i) [ inl lt ↦ inl (omega arith) | inr e ↦ inr e ]

past_is_no_end : (c : ℕ) → c ≡ 0 → nat_eq c 47 ≡ true → ⊥
past_is_no_end c e h = grind (arith, nat_tests)

pub end_within : (xs : List ℕ) (i : ℕ) → is_end (get_or xs i 0) (get_or xs (i + 1) 0) ≡ true → i + 2 ≤ length xs
end_within xs i h =
    let t = (and_parts _ _ h).1 in
    elim (within_or_past xs (i + 1)) [
      | inl lt ↦ omega arith
      | inr e ↦ absurd (past_is_no_end _ e t)
    ]

-- ---- what ends a line

-- blanks before the end of a line don't matter
space_skips : (b : ℕ) (more : List ℕ) → is_space b ≡ true → ends_line false (b ∷ more) ≡ ends_line false more
space_skips b [] h = rw h refl
space_skips b (c ∷ more) h =
    let n10 : nat_eq b 10 ≡ false = grind (arith, nat_tests) in
    let n47 : nat_eq b 47 ≡ false = grind (arith, nat_tests) in
    rw (n10, n47, h) refl

spaces_skip_at : (b : ℕ) (bs : List ℕ) (v : Bool) → is_space b ≡ v → ends_line false bs ≡ ends_line false (after is_space bs) → ends_line false (b ∷ bs) ≡ ends_line false (cond v (after is_space bs) (b ∷ bs))
spaces_skip_at b bs true h more = space_skips b bs h ∙ more
spaces_skip_at b bs false h more = refl

pub spaces_skip : (xs : List ℕ) → ends_line false xs ≡ ends_line false (after is_space xs)
spaces_skip [] = refl
spaces_skip (b ∷ bs) = spaces_skip_at b bs (is_space b) refl (spaces_skip bs)

or_true : (v : Bool) → (v || true) ≡ true
or_true true = refl
or_true false = refl

pub line_end : (xs : List ℕ) → is_line_end xs ≡ true → ends_line false xs ≡ true
line_end [] h = refl
line_end (b ∷ []) h = let e : nat_eq b 10 ≡ true = grind (arith, nat_tests) in rw e (or_true (is_space b))
line_end (b ∷ c ∷ more) h = grind (arith, nat_tests)

pub line_goes_on : (xs : List ℕ) → not (begins_with is_space xs) ≡ true → is_line_end xs ≡ false → starts_comment xs ≡ false → ends_line false xs ≡ false
line_goes_on [] s e c = absurd (true≢false e)
line_goes_on (b ∷ []) s e c = grind (arith, nat_tests)
line_goes_on (b ∷ d ∷ more) s e c = grind (arith, nat_tests)

abbrev pub is_newline : ℕ → Bool
is_newline b = nat_eq b 10

in_comment_cons : (b c : ℕ) (more : List ℕ) (v : Bool) → is_end b c ≡ v → ends_line true (b ∷ c ∷ more) ≡ cond (is_newline b) true (cond v (ends_line false more) (ends_line true (c ∷ more)))
in_comment_cons b c more v h = ap (λ x. cond (is_newline b) true (cond x (ends_line false more) (ends_line true (c ∷ more)))) h

cond_same : (v : Bool) → cond v true true ≡ true
cond_same true = refl
cond_same false = refl

map_none : (o : Option ℕ) → option_map (λ m. m + 1) o ≡ None → o ≡ None
map_none None h = refl
map_none (Some m) h = absurd cc

-- a comment that isn't closed goes up to the end of its line
open_at : (b c : ℕ) (more : List ℕ) (v : Bool) → is_end b c ≡ v → cond v (Some 0) (option_map (λ m. m + 1) (body_length (c ∷ more))) ≡ None → (body_length (c ∷ more) ≡ None → ends_line true (c ∷ more) ≡ true) → ends_line true (b ∷ c ∷ more) ≡ true
open_at b c more true e h on = absurd cc
open_at b c more false e h on = in_comment_cons b c more false e ∙ ap (λ x. cond (is_newline b) true x) (on (map_none _ h)) ∙ cond_same (is_newline b)

pub comment_open : (xs : List ℕ) → body_length xs ≡ None → ends_line true xs ≡ true
comment_open [] h = refl
comment_open (b ∷ []) h = refl
comment_open (b ∷ c ∷ more) h = open_at b c more (is_end b c) refl (sym (body_cons b (c ∷ more)) ∙ h) (comment_open (c ∷ more))

-- a comment that is closed ends the line where a newline stands in it, and else the line goes on after it
abbrev closes : List ℕ → ℕ → Bool
closes xs n = cond (list_any is_newline (take (n + 2) xs)) true (ends_line false (drop (n + 2) xs))

map_some : (o : Option ℕ) (n : ℕ) → option_map (λ m. m + 1) o ≡ Some n → (m : ℕ) × (o ≡ Some m) × (n ≡ suc m)
map_some None n h = absurd cc
map_some (Some m) n h = (m, refl, let e : m + 1 ≡ n = cc in omega (arith, e))

closes_with : (n m : Bool) (x : Bool) → m ≡ false → cond n true x ≡ cond (n || (m || false)) true x
closes_with true m x h = refl
closes_with false true x h = absurd (true≢false h)
closes_with false false x h = refl

or_first : (n m : Bool) (x : Bool) → cond (n || m) true x ≡ cond n true (cond m true x)
or_first true m x = refl
or_first false m x = refl

closes_here : (b c : ℕ) (more : List ℕ) → is_end b c ≡ true → cond (is_newline b) true (ends_line false more) ≡ cond (is_newline b || (is_newline c || false)) true (ends_line false more)
closes_here b c more e = let h : is_newline c ≡ false = grind (arith, nat_tests) in closes_with (is_newline b) (is_newline c) _ h

closes_more : (b : ℕ) (rest : List ℕ) (m : ℕ) → closes (b ∷ rest) (suc m) ≡ cond (is_newline b) true (closes rest m)
closes_more b rest m =
    let e : suc m + 2 ≡ suc (m + 2) = omega arith in
    ap (λ k. cond (list_any is_newline (take k (b ∷ rest))) true (ends_line false (drop k (b ∷ rest)))) e ∙ or_first (is_newline b) (list_any is_newline (take (m + 2) rest)) (ends_line false (drop (m + 2) rest))

closed_at : (b c : ℕ) (more : List ℕ) (n : ℕ) (v : Bool) → is_end b c ≡ v → cond v (Some 0) (option_map (λ m. m + 1) (body_length (c ∷ more))) ≡ Some n → ((m : ℕ) → body_length (c ∷ more) ≡ Some m → ends_line true (c ∷ more) ≡ closes (c ∷ more) m) → ends_line true (b ∷ c ∷ more) ≡ closes (b ∷ c ∷ more) n
closed_at b c more n true e h on =
    let z : 0 ≡ n = cc in
    in_comment_cons b c more true e ∙ closes_here b c more e ∙ ap (closes (b ∷ c ∷ more)) z
closed_at b c more n false e h on =
    let p = map_some _ n h in
    in_comment_cons b c more false e ∙ ap (λ x. cond (is_newline b) true x) (on p.0 p.1) ∙ sym (closes_more b (c ∷ more) p.0) ∙ ap (closes (b ∷ c ∷ more)) (sym p.2)

pub comment_closed : (xs : List ℕ) (n : ℕ) → body_length xs ≡ Some n → ends_line true xs ≡ closes xs n
unfolding body_length
comment_closed [] n h = absurd cc
comment_closed (b ∷ []) n h = absurd cc
comment_closed (b ∷ c ∷ more) n h = closed_at b c more n (is_end b c) refl h (comment_closed (c ∷ more))

-- where a comment begins
record Begins (xs : List ℕ) : Type 0 where
  pub body : List ℕ
  pub is : xs ≡ 47 ∷ 42 ∷ body

begins_comment : (xs : List ℕ) → starts_comment xs ≡ true → Begins xs
begins_comment [] h = absurd (false≢true h)
begins_comment (b ∷ []) h = absurd (grind (arith, nat_tests))
begins_comment (b ∷ c ∷ more) h =
    let p : b ≡ 47 = grind (arith, nat_tests) in
    let q : c ≡ 42 = grind (arith, nat_tests) in
    record { body = more; is = ap (λ x. x ∷ c ∷ more) p ∙ ap (λ x. 47 ∷ x ∷ more) q }

-- ---- a line, read blanks and comments at a time

mapped_none : (o : Option ℕ) → option_map (λ m. m + 4) o ≡ None → o ≡ None
mapped_none None h = refl
mapped_none (Some m) h = absurd cc

mapped_some : (o : Option ℕ) (n : ℕ) → option_map (λ m. m + 4) o ≡ Some n → (m : ℕ) × (o ≡ Some m) × (n ≡ suc (suc (m + 2)))
mapped_some None n h = absurd cc
mapped_some (Some m) n h = (m, refl, let e : m + 4 ≡ n = cc in omega (arith, e))

length_none : (body : List ℕ) → comment_length (47 ∷ 42 ∷ body) ≡ None → body_length body ≡ None
unfolding comment_length
length_none body h = mapped_none (body_length body) h

pub length_short : (text : List ℕ) → length text < 2 → None ≡ comment_length text
unfolding comment_length body_length
length_short [] lt = refl
length_short (b ∷ []) lt = refl
length_short (b ∷ c ∷ more) lt = absurd (omega arith)

length_some : (body : List ℕ) (n : ℕ) → comment_length (47 ∷ 42 ∷ body) ≡ Some n → (m : ℕ) × (body_length body ≡ Some m) × (n ≡ suc (suc (m + 2)))
unfolding comment_length
length_some body n h = mapped_some (body_length body) n h

pub record Line (rest text : List ℕ) (total : Bool) : Type 0 where
  pub spaces : text ≡ after is_space rest
  pub so_far : ends_line false rest ≡ total

line_is : (rest text : List ℕ) {total : Bool} → Line rest text total → ends_line false text ≡ total
line_is rest text l = ap (ends_line false) l.spaces ∙ sym (spaces_skip rest) ∙ l.so_far

pub line_ends : (rest text : List ℕ) {total : Bool} → Line rest text total → is_line_end text ≡ true → true ≡ total
line_ends rest text l h = sym (line_end text h) ∙ line_is rest text l

pub line_fails : (rest text : List ℕ) {total : Bool} → Line rest text total → is_line_end text ≡ false → starts_comment text ≡ false → false ≡ total
line_fails rest text l h s = sym (line_goes_on text (subst (λ t. not (begins_with is_space t) ≡ true) (sym l.spaces) (after_longest is_space rest)) h s) ∙ line_is rest text l

pub line_open : (rest text : List ℕ) {total : Bool} → Line rest text total → starts_comment text ≡ true → comment_length text ≡ None → true ≡ total
line_open rest text l s h =
    let b = begins_comment text s in
    sym (ap (ends_line false) b.is ∙ comment_open b.body (length_none b.body (ap comment_length (sym b.is) ∙ h))) ∙ line_is rest text l

closed_text : (body : List ℕ) (n : ℕ) (newline : Bool) → comment_length (47 ∷ 42 ∷ body) ≡ Some n → list_any is_newline (take n (47 ∷ 42 ∷ body)) ≡ newline → ends_line true body ≡ cond newline true (ends_line false (drop n (47 ∷ 42 ∷ body)))
closed_text body n newline h e =
    let p = length_some body n h in
    let same : list_any is_newline (take (p.0 + 2) body) ≡ newline = sym (ap (λ k. list_any is_newline (take k (47 ∷ 42 ∷ body))) p.2) ∙ e in
    comment_closed body p.0 p.1 ∙ ap (λ v. cond v true (ends_line false (drop (p.0 + 2) body))) same ∙ sym (ap (λ k. cond newline true (ends_line false (drop k (47 ∷ 42 ∷ body)))) p.2)

pub line_closed : (rest text : List ℕ) {total : Bool} (n : ℕ) (newline : Bool) → Line rest text total → starts_comment text ≡ true → comment_length text ≡ Some n → list_any is_newline (take n text) ≡ newline → cond newline true (ends_line false (drop n text)) ≡ total
line_closed rest text n newline l s h e =
    let b = begins_comment text s in
    sym (ap (ends_line false) b.is ∙ closed_text b.body n newline (ap comment_length (sym b.is) ∙ h) (ap (λ t. list_any is_newline (take n t)) (sym b.is) ∙ e) ∙ ap (λ t. cond newline true (ends_line false (drop n t))) (sym b.is)) ∙ line_is rest text l
