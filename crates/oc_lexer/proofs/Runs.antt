-- Runs of bytes of a class: what they are of, where they end, and that there is one of them.
use Rattle.std.proofs.Common.{◌≡◌, ℕ, suc, ◌+◌, ◌<◌, ◌≤◌, Bool, true, false, cond, List, [], ◌∷◌, ◌++◌, length, get_or, take, drop, refl, ap, ◌∙◌, arith}
use Rattle.std.specs.Prelude.{not}
use Rattle.std.specs.List.{list_all}
use Rattle.std.proofs.lemmas.Bool.{and_parts, and_from, not-true, true≢false}
use Rattle.std.proofs.lemmas.List.{drop_more, drop_all}
use Rattle.oc_lexer.specs.Bytes.{begins_with, run, after}

run_cons : (p : ℕ → Bool) (b : ℕ) (bs : List ℕ) (v : Bool) → p b ≡ v → run p (b ∷ bs) ≡ cond v (b ∷ run p bs) []
run_cons p b bs v h = ap (λ x. cond x (b ∷ run p bs) []) h

after_cons : (p : ℕ → Bool) (b : ℕ) (bs : List ℕ) (v : Bool) → p b ≡ v → after p (b ∷ bs) ≡ cond v (after p bs) (b ∷ bs)
after_cons p b bs v h = ap (λ x. cond x (after p bs) (b ∷ bs)) h

pub run_goes : (p : ℕ → Bool) (xs : List ℕ) (i n : ℕ) → i < length xs → p (get_or xs i 0) ≡ true → i + length (run p (drop i xs)) ≡ n → i + 1 + length (run p (drop (i + 1) xs)) ≡ n
run_goes p xs i n lt h e =
    let r = ap length (ap (run p) (drop_more xs i 0 lt) ∙ run_cons p (get_or xs i 0) (drop (i + 1) xs) true h) in
    omega (arith, r, e)

pub run_stops : (p : ℕ → Bool) (xs : List ℕ) (i n : ℕ) → i < length xs → p (get_or xs i 0) ≡ false → i + length (run p (drop i xs)) ≡ n → i ≡ n
run_stops p xs i n lt h e =
    let r = ap length (ap (run p) (drop_more xs i 0 lt) ∙ run_cons p (get_or xs i 0) (drop (i + 1) xs) false h) in
    omega (arith, r, e)

pub run_ends : (p : ℕ → Bool) (xs : List ℕ) (i n : ℕ) → length xs ≤ i → i ≤ length xs → i + length (run p (drop i xs)) ≡ n → length xs ≡ n
run_ends p xs i n le ge e =
    let r = ap (λ ys. length (run p ys)) (drop_all i xs le) in
    omega (arith, r, e)

-- a text is its run and what follows it
pub run-append-after : (p : ℕ → Bool) (xs : List ℕ) → run p xs ++ after p xs ≡ xs
run-append-after p [] = refl
run-append-after p (b ∷ bs) = elim (p b) as (λ v. cond v (b ∷ run p bs) [] ++ cond v (after p bs) (b ∷ bs) ≡ b ∷ bs) [ true ↦ ap (λ t. b ∷ t) (run-append-after p bs) | false ↦ refl ]

pub take_run : (p : ℕ → Bool) (xs : List ℕ) → take (length (run p xs)) xs ≡ run p xs
take_run p [] = refl
take_run p (b ∷ bs) = elim (p b) as (λ v. take (length (cond v (b ∷ run p bs) [])) (b ∷ bs) ≡ cond v (b ∷ run p bs) []) [ true ↦ ap (λ t. b ∷ t) (take_run p bs) | false ↦ refl ]

pub drop_run : (p : ℕ → Bool) (xs : List ℕ) → drop (length (run p xs)) xs ≡ after p xs
drop_run p [] = refl
drop_run p (b ∷ bs) = elim (p b) as (λ v. drop (length (cond v (b ∷ run p bs) [])) (b ∷ bs) ≡ cond v (after p bs) (b ∷ bs)) [ true ↦ drop_run p bs | false ↦ refl ]

pub run_within : (p : ℕ → Bool) (xs : List ℕ) → length (run p xs) ≤ length xs
run_within p [] = omega arith
run_within p (b ∷ bs) = let h = run_within p bs in elim (p b) as (λ v. length (cond v (b ∷ run p bs) []) ≤ suc (length bs)) [ true ↦ omega arith | false ↦ omega arith ]

pub after_within : (p : ℕ → Bool) (xs : List ℕ) → length (after p xs) ≤ length xs
after_within p [] = omega arith
after_within p (b ∷ bs) = let h = after_within p bs in elim (p b) as (λ v. length (cond v (after p bs) (b ∷ bs)) ≤ suc (length bs)) [ true ↦ omega arith | false ↦ omega arith ]

-- every byte of a run is of the class, and the next one isn't
run_all_at : (p : ℕ → Bool) (b : ℕ) (bs : List ℕ) (v : Bool) → p b ≡ v → list_all p (run p bs) ≡ true → list_all p (cond v (b ∷ run p bs) []) ≡ true
run_all_at p b bs true h all = and_from _ _ h all
run_all_at p b bs false h all = refl

pub run_all : (p : ℕ → Bool) (xs : List ℕ) → list_all p (run p xs) ≡ true
run_all p [] = refl
run_all p (b ∷ bs) = run_all_at p b bs (p b) refl (run_all p bs)

not_from : (b : Bool) → b ≡ false → not b ≡ true
not_from true h = absurd (true≢false h)
not_from false h = refl

after_longest_at : (p : ℕ → Bool) (b : ℕ) (bs : List ℕ) (v : Bool) → p b ≡ v → not (begins_with p (after p bs)) ≡ true → not (begins_with p (cond v (after p bs) (b ∷ bs))) ≡ true
after_longest_at p b bs true h more = more
after_longest_at p b bs false h more = not_from (p b) h

pub after_longest : (p : ℕ → Bool) (xs : List ℕ) → not (begins_with p (after p xs)) ≡ true
after_longest p [] = refl
after_longest p (b ∷ bs) = after_longest_at p b bs (p b) refl (after_longest p bs)

-- what is of the class, before what isn't, is the run
pub run_is : (p : ℕ → Bool) (xs ys : List ℕ) → list_all p xs ≡ true → not (begins_with p ys) ≡ true → run p (xs ++ ys) ≡ xs
run_is p [] [] all longest = refl
run_is p [] (y ∷ ys) all longest = run_cons p y ys false (not-true _ longest)
run_is p (x ∷ xs) ys all longest =
    let h = and_parts (p x) (list_all p xs) all in
    run_cons p x (xs ++ ys) true h.0 ∙ ap (λ t. x ∷ t) (run_is p xs ys h.1 longest)

pub after_is : (p : ℕ → Bool) (xs ys : List ℕ) → list_all p xs ≡ true → not (begins_with p ys) ≡ true → after p (xs ++ ys) ≡ ys
after_is p [] [] all longest = refl
after_is p [] (y ∷ ys) all longest = after_cons p y ys false (not-true _ longest)
after_is p (x ∷ xs) ys all longest =
    let h = and_parts (p x) (list_all p xs) all in
    after_cons p x (xs ++ ys) true h.0 ∙ after_is p xs ys h.1 longest
