-- The first place at which a list goes wrong.
use Rattle.std.proofs.Common.{◌≡◌, ℕ, zero, suc, ◌+◌, ◌≤◌, ◌<◌, length, List, [], ◌∷◌, ◌++◌, refl, sym, ◌∙◌, ap, append_assoc, append-nil, subst, arith, take, drop, length-append}
use Rattle.std.proofs.Math.Logic.{⊎_elim}
use Rattle.std.proofs.Math.Nat.{eq-or-lt_of_le}
use Rattle.std.proofs.lemmas.Bool.{cases_lt}
use Rattle.oc_grammar.specs.Parsing.{SameNext, Refused}
use Rattle.oc_parser.specs.Refusals.{Begins, IsFault}

-- a front of a front, and how it goes on
split_front : {X : Type 0} (n : ℕ) (xs ys : List X) → n ≤ length xs → (m : List X) × (xs ≡ take n (xs ++ ys) ++ m)
split_front zero xs ys h = (xs, refl)
split_front (suc n) [] ys h = absurd (let P : suc n ≤ 0 → ⊥ = λ h. omega arith in P h)
split_front (suc n) (x ∷ xs) ys h = let (m, e) = split_front n xs ys (omega arith) in (m, ap (λ xs. x ∷ xs) e)

take_front : {X : Type 0} (xs ys : List X) → take (length xs) (xs ++ ys) ≡ xs
take_front [] ys = refl
take_front (x ∷ xs) ys = ap (λ xs. x ∷ xs) (take_front xs ys)

take_one_more : {X : Type 0} (xs : List X) (t : X) (r : List X) → take (suc (length xs)) (xs ++ t ∷ r) ≡ xs ++ t ∷ []
take_one_more [] t r = refl
take_one_more (x ∷ xs) t r = ap (λ xs. x ∷ xs) (take_one_more xs t r)

take_all : {X : Type 0} (xs : List X) → take (length xs) xs ≡ xs
take_all [] = refl
take_all (x ∷ xs) = ap (λ xs. x ∷ xs) (take_all xs)

module _ {X A : Type 0} (form stop : A → List X → Type 0) (ends : (w : A) → stop w []) where
  before : (front rest : List X) (v : A) (close : List X) → form v (front ++ close) → (q : ℕ) → q < length front → Begins form (front ++ rest) (suc q)
  before front rest v close d q h =
      let (m, e) = split_front (suc q) front rest (omega arith) in
      (v, m ++ close, (let g : front ++ close ≡ take (suc q) (front ++ rest) ++ (m ++ close) = ap (λ x. x ++ close) e ∙ append_assoc (take (suc q) (front ++ rest)) m close in subst (λ x. form v x) g d))

  there : (front rest : List X) → ((us xs zs : List X) (w : A) → SameNext rest us → form w xs → stop w zs → front ++ us ≡ xs ++ zs → ⊥) → length front < length (front ++ rest) → Begins form (front ++ rest) (suc (length front)) → ⊥
  there front [] n h b = let P : length front < length front + 0 → ⊥ = λ h. omega arith in P (rw (length-append front []) at h)
  there front (t ∷ r) n h (v, ys, d) = n (t ∷ ys) (front ++ (t ∷ ys)) [] v (ys, refl)
      (let g : take (suc (length front)) (front ++ t ∷ r) ++ ys ≡ front ++ (t ∷ ys) = ap (λ x. x ++ ys) (take_one_more front t r) ∙ append_assoc front (t ∷ []) ys in subst (λ x. form v x) g d)
      (ends v) (sym (append-nil (front ++ (t ∷ ys))))

  at_end : (front rest : List X) (v : A) (close : List X) → form v (front ++ close) → ((us xs zs : List X) (w : A) → SameNext rest us → form w xs → stop w zs → front ++ us ≡ xs ++ zs → ⊥) → length front ≡ length (front ++ rest) → Begins form (front ++ rest) (length front) × ((w : A) → form w (front ++ rest) → ⊥)
  at_end front [] v close d n h = ((v, close, (let g : front ≡ take (length front) (front ++ []) = sym (take_front front []) in subst (λ x. form v (x ++ close)) g d)), λ w d'. n [] front [] w refl (rw append-nil at d') (ends w) refl)
  at_end front (t ∷ r) v close d n h = absurd (let P : length front ≡ length front + suc (length r) → ⊥ = λ h. omega arith in P (h ∙ length-append front (t ∷ r)))

  -- what is refused has its fault there
  pub is_fault : (ts rest : List X) (f : Refused form stop ts rest) → IsFault form ts (length f.front)
  is_fault ts rest f = rw f.whole (record {
    within = omega (arith, length-append f.front rest);
    before = before f.front rest f.closes.0 f.closes.1 f.closes.2;
    there = there f.front rest f.none;
    at_end = at_end f.front rest f.closes.0 f.closes.1 f.closes.2 f.none;
  })

-- the same place for forms of the same lists
module _ {X A B : Type 0} {form : A → List X → Type 0} {form' : B → List X → Type 0} (into : (v : A) (x : List X) → form v x → (w : B) × form' w x) (back : (w : B) (x : List X) → form' w x → (v : A) × form v x) where
  begins : (ts : List X) (n : ℕ) → Begins form ts n → Begins form' ts n
  begins ts n (v, ys, d) = let (w, d') = into v (take n ts ++ ys) d in (w, ys, d')

  begins_back : (ts : List X) (n : ℕ) → Begins form' ts n → Begins form ts n
  begins_back ts n (w, ys, d) = let (v, d') = back w (take n ts ++ ys) d in (v, ys, d')

  pub same_fault : (ts : List X) (p : ℕ) → IsFault form ts p → IsFault form' ts p
  same_fault ts p f = record {
    within = f.within;
    before = λ q lt. begins ts (suc q) (f.before q lt);
    there = λ lt b. f.there lt (begins_back ts (suc p) b);
    at_end = λ e. let (b, n) = f.at_end e in (begins ts p b, λ w d. n (back w ts d).0 (back w ts d).1);
  }

take_drop : {X : Type 0} (n : ℕ) (xs : List X) → take n xs ++ drop n xs ≡ xs
take_drop zero xs = refl
take_drop (suc n) [] = refl
take_drop (suc n) (x ∷ xs) = ap (λ xs. x ∷ xs) (take_drop n xs)

module _ {X A : Type 0} {form : A → List X → Type 0} {ts : List X} where
  -- a list that spells a value has no fault
  pub spelled_no_fault : (v : A) (p : ℕ) → form v ts → IsFault form ts p → ⊥
  spelled_no_fault v p d f =
      ⊎_elim
      (λ e. (f.at_end e).1 v d)
      (λ lt. f.there lt (v, drop (suc p) ts, subst (λ x. form v x) (sym (take_drop (suc p) ts)) d))
      (eq-or-lt_of_le f.within)

  -- and no two
  pub one_fault : (p q : ℕ) → IsFault form ts p → IsFault form ts q → p ≡ q
  one_fault p q f g =
      ⊎_elim
      (λ lt. absurd (f.there (omega (arith, g.within)) (g.before p lt)))
      (λ le. ⊎_elim (λ e. sym e) (λ lt. absurd (g.there (omega (arith, f.within)) (f.before q lt))) (eq-or-lt_of_le le))
      (cases_lt p q)
