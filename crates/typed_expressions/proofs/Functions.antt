-- The function of a name, by its number.
use Rattle.std.proofs.Common.{ℕ, zero, suc, ◌≡◌, ◌+◌, List, [], ◌∷◌, Option, Some, None, Bool, true, false, refl, sym, ap, ◌∙◌, arith}
use Rattle.std.specs.Prelude.{if◌then◌else◌, slice_get}
use Rattle.type_rules.specs.declared.judging.Heading.{Heading}
use Rattle.type_rules.specs.Lookup.{same_name}
use Rattle.type_rules.specs.Calls.{Called, Unknown, Known, function_from}
use Rattle.type_rules.specs.Written.{number_from}
use Rattle.written_types.specs.Numbers.{heading_names}

-- the function of a number counted from n, where the number is there
abbrev pub function_at : ℕ → List Heading → Option ℕ → Called
function_at n hs None = Unknown
function_at n [] (Some i) = Unknown
function_at n (h ∷ hs) (Some zero) = Known n h
function_at n (h ∷ hs) (Some (suc i)) = function_at (n + 1) hs (Some i)

-- a number counted from n, and one more
abbrev pub from : ℕ → Option ℕ → Option ℕ
from n None = None
from n (Some i) = Some (n + i)

abbrev pub after : Option ℕ → Option ℕ
after None = None
after (Some i) = Some (suc i)

-- the number of the first heading of a name
abbrev pub first : List Heading → List ℕ → Option ℕ
first [] x = None
first (h ∷ hs) x = if same_name h.name x then Some 0 else after (first hs x)

number_first : (n : ℕ) (hs : List Heading) (x : List ℕ) → number_from n (heading_names hs) x ≡ from n (first hs x)
number_first n [] x = refl
number_first n (h ∷ hs) x = go (same_name h.name x) (first hs x) (number_first (n + 1) hs x)
  where
    here : (n : ℕ) → n ≡ n + 0
    here n = omega arith

    moved : (n i : ℕ) → (n + 1) + i ≡ n + suc i
    moved n i = omega arith

    go : (t : Bool) (o : Option ℕ) → number_from (n + 1) (heading_names hs) x ≡ from (n + 1) o → (if t then Some n else number_from (n + 1) (heading_names hs) x) ≡ from n (if t then Some 0 else after o)
    go true o e = ap (λ k. Some k) (here n)
    go false None e = e
    go false (Some i) e = e ∙ ap (λ k. Some k) (moved n i)

function_first : (n : ℕ) (hs : List Heading) (x : List ℕ) → function_from n hs x ≡ function_at n hs (first hs x)
function_first n [] x = refl
function_first n (h ∷ hs) x = go (same_name h.name x) (first hs x) (function_first (n + 1) hs x)
  where
    go : (t : Bool) (o : Option ℕ) → function_from (n + 1) hs x ≡ function_at (n + 1) hs o → (if t then Known n h else function_from (n + 1) hs x) ≡ function_at n (h ∷ hs) (if t then Some 0 else after o)
    go true o e = refl
    go false None e = e
    go false (Some i) e = e

-- a function that is there, by its number
abbrev pub told : ℕ → Option Heading → Called
told n None = Unknown
told n (Some h) = Known n h

function_told : (n i : ℕ) (hs : List Heading) → function_at n hs (Some i) ≡ told (n + i) (slice_get hs i)
function_told n i [] = refl
function_told n zero (h ∷ hs) = ap (λ k. Known k h) (here n)
  where
    here : (n : ℕ) → n ≡ n + 0
    here n = omega arith
function_told n (suc i) (h ∷ hs) = function_told (n + 1) i hs ∙ ap (λ k. told k (slice_get hs i)) (moved n i)
  where
    moved : (n i : ℕ) → (n + 1) + i ≡ n + suc i
    moved n i = omega arith

zero_left : (i : ℕ) → 0 + i ≡ i
zero_left i = omega arith

-- what the number of a name tells of the function of the name
abbrev pub by_number : List Heading → Option ℕ → Called
by_number hs None = Unknown
by_number hs (Some i) = told i (slice_get hs i)

pub function_number : (hs : List Heading) (x : List ℕ) → function_from 0 hs x ≡ by_number hs (number_from 0 (heading_names hs) x)
function_number hs x = function_first 0 hs x ∙ go (first hs x) ∙ ap (λ o. by_number hs o) (sym (number_first 0 hs x))
  where
    go : (o : Option ℕ) → function_at 0 hs o ≡ by_number hs (from 0 o)
    go None = refl
    go (Some i) = function_told 0 i hs ∙ ap (λ k. told (0 + i) (slice_get hs k)) (sym (zero_left i))
