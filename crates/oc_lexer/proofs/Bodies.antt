-- The body of a comment: up to its first end.
use Rattle.std.proofs.Common.{◌≡◌, ℕ, zero, suc, ◌+◌, Bool, true, false, cond, List, [], ◌∷◌, ◌++◌, length, get_or, Option, Some, None, refl, sym, ap, ◌∙◌, arith}
use Rattle.std.specs.Prelude.{◌&&◌, ◌||◌, nat_eq, option_map}
use Rattle.std.proofs.lemmas.Bool.{and_parts, true≢false}
use Rattle.std.proofs.lemmas.Bool.Decides.{nat_tests}
use Rattle.oc_lexer.specs.Comments.{has_end}
use Rattle.oc_lexer.specs.Scanned.{body_length}
use Rattle.oc_lexer.proofs.CommentEnds.{body_cons}

abbrev is_end : ℕ → ℕ → Bool
is_end b c = nat_eq b 42 && nat_eq c 47

and_false : (x : Bool) → (x && false) ≡ false
and_false true = refl
and_false false = refl

or_false : (a b : Bool) → (a || b) ≡ false → (a ≡ false) × (b ≡ false)
or_false true b h = absurd (true≢false h)
or_false false b h = (refl, h)

goes : (b : ℕ) (rest : List ℕ) (n : ℕ) → is_end b (get_or rest 0 0) ≡ false → body_length rest ≡ Some n → body_length (b ∷ rest) ≡ Some (n + 1)
goes b rest n h e = body_cons b rest ∙ ap (λ x. cond x (Some 0) (option_map (λ m. m + 1) (body_length rest))) h ∙ ap (option_map (λ m. m + 1)) e

pub body_spelled : (body rest : List ℕ) → has_end body ≡ false → body_length (body ++ 42 ∷ 47 ∷ rest) ≡ Some (length body)
body_spelled [] rest h = body_cons 42 (47 ∷ rest)
body_spelled (b ∷ []) rest h = goes b (42 ∷ 47 ∷ rest) 0 (and_false (nat_eq b 42)) (body_cons 42 (47 ∷ rest)) ∙ ap (λ n. Some n) (let e : 0 + 1 ≡ suc zero = omega arith in e)
body_spelled (b ∷ c ∷ more) rest h =
    let p = or_false (is_end b c) (has_end (c ∷ more)) h in
    goes b (c ∷ more ++ 42 ∷ 47 ∷ rest) (length (c ∷ more)) p.0 (body_spelled (c ∷ more) rest p.1) ∙ ap (λ n. Some n) (let e : length (c ∷ more) + 1 ≡ suc (length (c ∷ more)) = omega arith in e)

-- a comment's body, and what follows its end
pub record Body (n : ℕ) (text : List ℕ) : Type 0 where
  pub body : List ℕ
  pub rest : List ℕ
  pub whole : text ≡ body ++ 42 ∷ 47 ∷ rest
  pub unended : has_end body ≡ false
  pub size : n ≡ length body
  -- the first byte of what the end closes
  pub first : (b : ℕ) → is_end b (get_or text 0 0) ≡ false → has_end (b ∷ body) ≡ false

number : Option ℕ → ℕ
number None = 0
number (Some n) = n

eq_from : (a b : ℕ) → nat_eq a b ≡ true → a ≡ b
eq_from a b h = grind (arith, nat_tests)

body_here : (b c n : ℕ) (more : List ℕ) → is_end b c ≡ true → (let z : ℕ = 0 in z) ≡ n → Body n (b ∷ c ∷ more)
body_here b c n more h e =
    let p = and_parts _ _ h in
    record {
      body = [];
      rest = more;
      whole = ap (λ x. x ∷ c ∷ more) (eq_from b 42 p.0) ∙ ap (λ x. 42 ∷ x ∷ more) (eq_from c 47 p.1);
      unended = refl;
      size = sym e;
      first = λ x f. refl;
    }

first_of : (b c : ℕ) (body more rest : List ℕ) → c ∷ more ≡ body ++ 42 ∷ 47 ∷ rest → is_end b c ≡ false → has_end body ≡ false → has_end (b ∷ body) ≡ false
first_of b c [] more rest w h o = refl
first_of b c (d ∷ body) more rest w h o = let same : c ≡ d = cc in ap (λ x. is_end b x || has_end (d ∷ body)) (sym same) ∙ ap (λ x. x || has_end (d ∷ body)) h ∙ o

body_later : (b c n m : ℕ) (more : List ℕ) → is_end b c ≡ false → n ≡ m + 1 → Body m (c ∷ more) → Body n (b ∷ c ∷ more)
body_later b c n m more h e k = record {
  body = b ∷ k.body;
  rest = k.rest;
  whole = ap (λ t. b ∷ t) k.whole;
  unended = k.first b h;
  size = let f = k.size in omega arith;
  first = λ x f. ap (λ y. y || has_end (b ∷ k.body)) f ∙ k.first b h;
}

mapped : (o : Option ℕ) (n : ℕ) → option_map (λ m. m + 1) o ≡ Some n → (m : ℕ) × (o ≡ Some m) × (n ≡ m + 1)
unfolding number
mapped None n e = absurd cc
mapped (Some m) n e = (m, refl, sym (ap number e))

body_at : (b c n : ℕ) (more : List ℕ) (v : Bool) → is_end b c ≡ v → cond v (Some 0) (option_map (λ m. m + 1) (body_length (c ∷ more))) ≡ Some n → ((m : ℕ) → body_length (c ∷ more) ≡ Some m → Body m (c ∷ more)) → Body n (b ∷ c ∷ more)
unfolding number
body_at b c n more true h e on = body_here b c n more h (ap number e)
body_at b c n more false h e on = let p = mapped _ n e in body_later b c n p.0 more h p.2 (on p.0 p.1)

pub body_found : (text : List ℕ) (n : ℕ) → body_length text ≡ Some n → Body n text
unfolding body_length
body_found [] n e = absurd cc
body_found (b ∷ []) n e = absurd cc
body_found (b ∷ c ∷ more) n e = body_at b c n more (is_end b c) refl e (λ m h. body_found (c ∷ more) m h)
