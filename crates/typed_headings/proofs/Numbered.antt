-- Headings by the numbers of their names.
use Rattle.std.proofs.Common.{ℕ, suc, ◌+◌, ◌≡◌, ◌≤◌, List, [], ◌∷◌, ◌++◌, length, Option, Some, None, Bool, true, false, refl, sym, ap, ◌∙◌, subst, arith}
use Rattle.std.specs.Prelude.{◌||◌, is_some, if◌then◌else◌, filter}
use Rattle.std.specs.Map.{lookup}
use Rattle.std.specs.Ordering.{nat_cmp}
use Rattle.std.specs.Cmp.Lexicographic.{slice_cmp}
use Rattle.std.specs.BTreeMap.{BTreeMap, is_at}
use denote.Ref.{Bor}
use Rattle.type_rules.specs.declared.judging.Heading.{Heading}
use Rattle.type_rules.specs.Lookup.{same_name}
use Rattle.type_rules.specs.Written.{number_from, has_name, bodies_of}
use Rattle.written_types.specs.Numbers.{Numbers, heading_names}
use Rattle.written_types.proofs.Firsts.{from, after, first, number_first, got}
use Rattle.typed_headings.specs.Beside.{first_named}

pub numbers_none : (m : BTreeMap (Bor (List ℕ)) ℕ) → m.entries ≡ [] → Numbers m []
numbers_none m e = record { at = λ x. ap (λ es. lookup (is_at (λ k. slice_cmp nat_cmp x k.now)) es) e }

pub is_numbered : (n : ℕ) (xs : List (List ℕ)) (x : List ℕ) → is_some (number_from n xs x) ≡ has_name xs x
is_numbered n [] x = refl
is_numbered n (y ∷ ys) x = go (same_name y x) (is_numbered (n + 1) ys x)
  where
    go : (t : Bool) → is_some (number_from (n + 1) ys x) ≡ has_name ys x → is_some (if t then Some n else number_from (n + 1) ys x) ≡ (t || has_name ys x)
    go true h = refl
    go false h = h

from_zero : (o : Option ℕ) → from 0 o ≡ o
from_zero None = refl
from_zero (Some i) = ap (λ k. Some k) (zero_left i)
  where
    zero_left : (i : ℕ) → 0 + i ≡ i
    zero_left i = omega arith

got_after : {A : Type 0} (x : A) (xs : List A) (o : Option ℕ) → got (x ∷ xs) (after o) ≡ got xs o
got_after x xs None = refl
got_after x xs (Some i) = refl

heading_first : (hs : List Heading) (x : List ℕ) → first_named hs x ≡ got hs (first (heading_names hs) x)
heading_first [] x = refl
heading_first (h ∷ hs) x = go (same_name h.name x) (heading_first hs x)
  where
    go : (t : Bool) → first_named hs x ≡ got hs (first (heading_names hs) x) → (if t then Some h else first_named hs x) ≡ got (h ∷ hs) (if t then Some 0 else after (first (heading_names hs) x))
    go true e = refl
    go false e = e ∙ sym (got_after h hs (first (heading_names hs) x))

pub heading_number : (hs : List Heading) (x : List ℕ) → first_named hs x ≡ got hs (number_from 0 (heading_names hs) x)
heading_number hs x = heading_first hs x ∙ ap (λ o. got hs o) (sym (number_first 0 (heading_names hs) x ∙ from_zero (first (heading_names hs) x)))

names_more : (hs : List Heading) (h : Heading) → heading_names (hs ++ h ∷ []) ≡ heading_names hs ++ h.name ∷ []
names_more [] h = refl
names_more (k ∷ ks) h = ap (λ xs. k.name ∷ xs) (names_more ks h)

names_length : (hs : List Heading) → length (heading_names hs) ≡ length hs
names_length [] = refl
names_length (h ∷ hs) = ap suc (names_length hs)

-- the numbers of names with that of a heading more
pub numbers_more : (m : BTreeMap (Bor (List ℕ)) ℕ) (hs : List Heading) (h : Heading) → Numbers m (heading_names hs ++ h.name ∷ []) → Numbers m (heading_names (hs ++ h ∷ []))
numbers_more m hs h n = subst (λ xs. Numbers m xs) (sym (names_more hs h)) n

pub counts : (hs : List Heading) (n : ℕ) → n ≡ length hs → n ≡ length (heading_names hs)
counts hs n e = e ∙ sym (names_length hs)

-- those with a body, with a heading more
abbrev with_one : Bool → List Heading → Heading → List Heading
with_one b hs h = if b then hs ++ h ∷ [] else hs

bodies_more : (hs : List Heading) (h : Heading) → bodies_of (hs ++ h ∷ []) ≡ with_one h.has_body (bodies_of hs) h
bodies_more [] h = go h.has_body
  where
    go : (b : Bool) → (if b then h ∷ [] else []) ≡ with_one b [] h
    go true = refl
    go false = refl
bodies_more (k ∷ ks) h = ap (λ bs. if k.has_body then k ∷ bs else bs) (bodies_more ks h) ∙ go k.has_body h.has_body
  where
    go : (a b : Bool) → (if a then k ∷ with_one b (bodies_of ks) h else with_one b (bodies_of ks) h) ≡ with_one b (if a then k ∷ bodies_of ks else bodies_of ks) h
    go true true = refl
    go true false = refl
    go false true = refl
    go false false = refl

pub body_more : (hs : List Heading) (h : Heading) → h.has_body ≡ true → bodies_of (hs ++ h ∷ []) ≡ bodies_of hs ++ h ∷ []
body_more hs h e = bodies_more hs h ∙ ap (λ b. with_one b (bodies_of hs) h) e

pub no_body_more : (hs : List Heading) (h : Heading) → h.has_body ≡ false → bodies_of (hs ++ h ∷ []) ≡ bodies_of hs
no_body_more hs h e = bodies_more hs h ∙ ap (λ b. with_one b (bodies_of hs) h) e

pub few_bodies : (hs : List Heading) → length (bodies_of hs) ≤ length hs
few_bodies [] = omega arith
few_bodies (h ∷ hs) = go h.has_body (few_bodies hs)
  where
    go : (b : Bool) → length (bodies_of hs) ≤ length hs → length (if b then h ∷ bodies_of hs else bodies_of hs) ≤ length (h ∷ hs)
    go true e = omega (arith, e)
    go false e = omega (arith, e)

pub filtered : (hs : List Heading) → filter (λ (h : Heading). h.has_body) hs ≡ bodies_of hs
filtered [] = refl
filtered (h ∷ hs) = go h.has_body (filtered hs)
  where
    go : (b : Bool) → filter (λ (h : Heading). h.has_body) hs ≡ bodies_of hs → (if b then h ∷ filter (λ (h : Heading). h.has_body) hs else filter (λ (h : Heading). h.has_body) hs) ≡ (if b then h ∷ bodies_of hs else bodies_of hs)
    go true e = ap (λ hs. h ∷ hs) e
    go false e = e
