-- Numbers of names in a list that grows at its end.
use Rattle.std.proofs.Common.{ℕ, ◌+◌, ◌≡◌, List, [], ◌∷◌, ◌++◌, length, Option, Some, None, Bool, true, false, cond, nat_eq, refl, sym, ap, ◌∙◌, arith}
use Rattle.std.specs.Prelude.{◌&&◌, ◌||◌, if◌then◌else◌, is_some}
use Rattle.std.specs.Str.{bytes_eq}
use Rattle.std.specs.Map.{update}
use Rattle.std.specs.BTreeMap.{BTreeMap}
use denote.Ref.{Bor}
use Rattle.type_rules.specs.Lookup.{same_name}
use Rattle.type_rules.specs.Written.{number_from, has_name}
use Rattle.written_types.specs.Numbers.{get_at, Numbers, Has}

pub same_bytes : (a b : List ℕ) → bytes_eq a b ≡ same_name a b
same_bytes [] [] = refl
same_bytes [] (c ∷ cs) = refl
same_bytes (b ∷ bs) [] = refl
same_bytes (b ∷ bs) (c ∷ cs) = ap (λ z. nat_eq b c && z) (same_bytes bs cs)

same_numbers : (m n : ℕ) → nat_eq m n ≡ true → m ≡ n
same_numbers m n e = grind (arith)

pub equal_names : (a b : List ℕ) → same_name a b ≡ true → a ≡ b
equal_names [] [] h = refl
equal_names [] (c ∷ cs) h = cc
equal_names (b ∷ bs) [] h = cc
equal_names (b ∷ bs) (c ∷ cs) h = go (nat_eq b c) refl h (λ e. equal_names bs cs e)
  where
    go : (t : Bool) → nat_eq b c ≡ t → (t && same_name bs cs) ≡ true → (same_name bs cs ≡ true → bs ≡ cs) → b ∷ bs ≡ c ∷ cs
    go true e h f = let p = same_numbers b c e in let q = f h in cc
    go false e h f = cc

-- the first of two numbers that is there
abbrev pub earlier : Option ℕ → Option ℕ → Option ℕ
earlier (Some a) b = Some a
earlier None b = b

earlier_none : (a : Option ℕ) → a ≡ earlier a None
earlier_none (Some a) = refl
earlier_none None = refl

shifted : (n k : ℕ) → (n + 1) + k ≡ n + (k + 1)
shifted n k = omega arith

zero_right : (n : ℕ) → n ≡ n + 0
zero_right n = omega arith

pub number_push : (n : ℕ) (xs : List (List ℕ)) (y x : List ℕ) → number_from n (xs ++ y ∷ []) x ≡ earlier (number_from n xs x) (if same_name y x then Some (n + length xs) else None)
number_push n [] y x = ap (λ k. if same_name y x then Some k else None) (zero_right n)
number_push n (z ∷ zs) y x = go (same_name z x) (number_push (n + 1) zs y x ∙ ap (λ k. earlier (number_from (n + 1) zs x) (if same_name y x then Some k else None)) (shifted n (length zs)))
  where
    go : (t : Bool) → number_from (n + 1) (zs ++ y ∷ []) x ≡ earlier (number_from (n + 1) zs x) (if same_name y x then Some (n + (length zs + 1)) else None) → (if t then Some n else number_from (n + 1) (zs ++ y ∷ []) x) ≡ earlier (if t then Some n else number_from (n + 1) zs x) (if same_name y x then Some (n + length (z ∷ zs)) else None)
    go true h = refl
    go false h = h ∙ ap (λ k. earlier (number_from (n + 1) zs x) (if same_name y x then Some k else None)) (longer n z zs)
      where
        longer : (n : ℕ) (z : List ℕ) (zs : List (List ℕ)) → n + (length zs + 1) ≡ n + length (z ∷ zs)
        longer n z zs = omega arith

module _ (old new : BTreeMap (Bor (List ℕ)) ℕ) (name : List ℕ) (number : ℕ) (u : (x : List ℕ) → get_at new x ≡ update bytes_eq (get_at old) name (Some number) x) where
  told : (x : List ℕ) → get_at new x ≡ cond (same_name name x) (Some number) (get_at old x)
  told x = u x ∙ ap (λ t. cond t (Some number) (get_at old x)) (same_bytes name x)

  pub numbers_added : (xs : List (List ℕ)) → None ≡ get_at old name → Numbers old xs → number ≡ length xs → Numbers new (xs ++ name ∷ [])
  numbers_added xs none h e = record { at = λ x. told x ∙ go x (same_name name x) refl ∙ sym (number_push 0 xs name x) }
    where
      go : (x : List ℕ) (t : Bool) → same_name name x ≡ t → cond t (Some number) (get_at old x) ≡ earlier (number_from 0 xs x) (if t then Some (0 + length xs) else None)
      go x true q =
          let p : number_from 0 xs x ≡ None = sym (h.at x) ∙ ap (λ y. get_at old y) (sym (equal_names name x q)) ∙ sym none in
          let l : number ≡ 0 + length xs = omega (arith, e) in
          ap (λ k. Some k) l ∙ sym (ap (λ o. earlier o (Some (0 + length xs))) p)
      go x false q = h.at x ∙ earlier_none (number_from 0 xs x)

  pub has_added : (xs : List (List ℕ)) → Has old xs → Has new (name ∷ xs)
  has_added xs h = record { at = λ x. ap is_some (told x) ∙ go x (same_name name x) }
    where
      go : (x : List ℕ) (t : Bool) → is_some (cond t (Some number) (get_at old x)) ≡ (t || has_name xs x)
      go x true = refl
      go x false = h.at x

module _ (m : BTreeMap (Bor (List ℕ)) ℕ) (name : List ℕ) (k : ℕ) (some : Some k ≡ get_at m name) where
  pub numbers_kept : (xs : List (List ℕ)) → Numbers m xs → Numbers m (xs ++ name ∷ [])
  numbers_kept xs h = record { at = λ x. h.at x ∙ go x (same_name name x) refl ∙ sym (number_push 0 xs name x) }
    where
      go : (x : List ℕ) (t : Bool) → same_name name x ≡ t → number_from 0 xs x ≡ earlier (number_from 0 xs x) (if t then Some (0 + length xs) else None)
      go x true q =
          let p : number_from 0 xs x ≡ Some k = sym (h.at x) ∙ ap (λ y. get_at m y) (sym (equal_names name x q)) ∙ sym some in
          p ∙ sym (ap (λ o. earlier o (Some (0 + length xs))) p)
      go x false q = earlier_none (number_from 0 xs x)

  pub has_kept : (xs : List (List ℕ)) → Has m xs → Has m (name ∷ xs)
  has_kept xs h = record { at = λ x. go x (same_name name x) refl }
    where
      go : (x : List ℕ) (t : Bool) → same_name name x ≡ t → is_some (get_at m x) ≡ (t || has_name xs x)
      go x true q = ap is_some (ap (λ y. get_at m y) (sym (equal_names name x q)) ∙ sym some)
      go x false q = h.at x
