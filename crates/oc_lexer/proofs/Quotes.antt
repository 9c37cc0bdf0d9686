-- A text is read element after element.
use Rattle.std.proofs.Common.{◌≡◌, ℕ, ◌+◌, ◌≤◌, Bool, true, false, cond, List, [], ◌∷◌, ◌++◌, length, get_or, drop, Option, Some, None, refl, sym, ap, ◌∙◌, arith, zero-add, add-zero, append_assoc}
use Rattle.std.specs.Prelude.{nat_eq, option_map}
use Rattle.std.proofs.lemmas.Bool.{false≢true}
use Rattle.std.proofs.lemmas.Bool.Decides.{nat_tests}
use Rattle.std.proofs.lemmas.List.{append-nil, drop-drop, get_or-drop}
use Rattle.oc_lexer.specs.Literals.{escape_value, is_text_byte}
use Rattle.oc_lexer.specs.Scanned.{element_at, onto, onto_escape, quoted}

-- ---- one element

-- what is read where the element is this
abbrev pub with_element : List ℕ → Option (ℕ × ℕ) → Option (List ℕ × ℕ)
with_element xs None = None
with_element xs (Some (v, n)) = onto (v ∷ []) n (quoted (drop n xs))

quoted_nil : quoted [] ≡ None
unfolding quoted
quoted_nil = refl

escape_goes : (b c : ℕ) (more : List ℕ) (o : Option ℕ) → onto_escape o (quoted more) ≡ with_element (b ∷ c ∷ more) (option_map (λ v. (v, 2)) o)
escape_goes b c more None = refl
escape_goes b c more (Some v) = refl

one_at : (b : ℕ) (escape text : Bool) → (let o : Option (List ℕ × ℕ) = None in o) ≡ with_element (b ∷ []) (cond escape None (cond text (Some (b, 1)) None))
one_at b true text = refl
one_at b false true = sym (ap (onto (b ∷ []) 1) quoted_nil)
one_at b false false = refl

two_at : (b c : ℕ) (more : List ℕ) (escape text : Bool) → cond escape (onto_escape (escape_value c) (quoted more)) (cond text (onto (b ∷ []) 1 (quoted (c ∷ more))) None) ≡ with_element (b ∷ c ∷ more) (cond escape (option_map (λ v. (v, 2)) (escape_value c)) (cond text (Some (b, 1)) None))
two_at b c more true text = escape_goes b c more (escape_value c)
two_at b c more false true = refl
two_at b c more false false = refl

pub quoted_element : (xs : List ℕ) → nat_eq (get_or xs 0 0) 34 ≡ false → quoted xs ≡ with_element xs (element_at xs)
unfolding quoted element_at
quoted_element [] h = refl
quoted_element (b ∷ []) h = ap (λ x. cond x (Some ([], 1)) None) h ∙ one_at b (nat_eq b 92) (is_text_byte b)
quoted_element (b ∷ c ∷ more) h =
    ap (λ x. cond x (Some ([], 1)) (cond (nat_eq b 92) (onto_escape (escape_value c) (quoted more)) (cond (is_text_byte b) (onto (b ∷ []) 1 (quoted (c ∷ more))) None))) h
    ∙ two_at b c more (nat_eq b 92) (is_text_byte b)

pub quoted_end : (xs : List ℕ) → nat_eq (get_or xs 0 0) 34 ≡ true → quoted xs ≡ Some ([], 1)
unfolding quoted
quoted_end [] h = absurd (false≢true h)
quoted_end (b ∷ []) h = ap (λ x. cond x (Some ([], 1)) None) h
quoted_end (b ∷ c ∷ more) h = ap (λ x. cond x (Some ([], 1)) (cond (nat_eq b 92) (onto_escape (escape_value c) (quoted more)) (cond (is_text_byte b) (onto (b ∷ []) 1 (quoted (c ∷ more))) None))) h

-- ---- the loop

onto_onto : (bytes : List ℕ) (n v m : ℕ) (o : Option (List ℕ × ℕ)) → onto bytes n (onto (v ∷ []) m o) ≡ onto (bytes ++ v ∷ []) (n + m) o
onto_onto bytes n v m None = refl
onto_onto bytes n v m (Some (more, k)) = ap (λ x. Some (x, n + (m + k))) (sym (append_assoc bytes (v ∷ []) more)) ∙ ap (λ x. Some (bytes ++ v ∷ [] ++ more, x)) (let e : n + (m + k) ≡ n + m + k = omega arith in e)

pub onto_none : (o : Option (List ℕ × ℕ)) → onto [] 0 o ≡ o
onto_none None = refl
onto_none (Some (more, k)) = ap (λ x. Some (more, x)) (zero-add k)

-- the bytes before this place are read
pub record Read (bytes : List ℕ) (at : ℕ) (xs : List ℕ) (total : Option (List ℕ × ℕ)) : Type 0 where
  pub within : at ≤ length xs
  pub so_far : onto bytes at (quoted (drop at xs)) ≡ total

rest_first : (at : ℕ) (xs rest : List ℕ) → rest ≡ drop at xs → get_or rest 0 0 ≡ get_or xs at 0
rest_first at xs rest is = ap (λ t. get_or t 0 0) is ∙ get_or-drop at xs 0 0 ∙ ap (λ k. get_or xs k 0) (add-zero at)

not_quote : (b : ℕ) → (b ≡ 34 → ⊥) → nat_eq b 34 ≡ false
not_quote b h = grind (arith, nat_tests)

is_quote : (b : ℕ) → b ≡ 34 → nat_eq b 34 ≡ true
is_quote b h = grind (arith, nat_tests)

read_is : (bytes : List ℕ) (at : ℕ) (xs rest : List ℕ) (total : Option (List ℕ × ℕ)) → Read bytes at xs total → rest ≡ drop at xs → (get_or xs at 0 ≡ 34 → ⊥) → onto bytes at (with_element rest (element_at rest)) ≡ total
read_is bytes at xs rest total r is h = sym (ap (onto bytes at) (ap quoted (sym is) ∙ quoted_element rest (ap (λ b. nat_eq b 34) (rest_first at xs rest is) ∙ not_quote _ h))) ∙ r.so_far

pub read_none : (bytes : List ℕ) (at : ℕ) (xs rest : List ℕ) (total : Option (List ℕ × ℕ)) → Read bytes at xs total → rest ≡ drop at xs → (get_or xs at 0 ≡ 34 → ⊥) → None ≡ element_at rest → None ≡ total
read_none bytes at xs rest total r is h e = ap (λ o. onto bytes at (with_element rest o)) e ∙ read_is bytes at xs rest total r is h

pub read_more : (bytes : List ℕ) (at : ℕ) (xs rest : List ℕ) (total : Option (List ℕ × ℕ)) (v n : ℕ) (longer : List ℕ) → Read bytes at xs total → rest ≡ drop at xs → (get_or xs at 0 ≡ 34 → ⊥) → Some (v, n) ≡ element_at rest → at + n ≤ length xs → longer ≡ bytes ++ v ∷ [] → Read longer (at + n) xs total
read_more bytes at xs rest total v n longer r is h e within more = record {
  within = within;
  so_far =
      ap (λ b. onto b (at + n) (quoted (drop (at + n) xs))) more
      ∙ ap (λ t. onto (bytes ++ v ∷ []) (at + n) (quoted t)) (sym (drop-drop n at xs) ∙ ap (drop n) (sym is))
      ∙ sym (onto_onto bytes at v n (quoted (drop n rest)))
      ∙ ap (λ o. onto bytes at (with_element rest o)) e
      ∙ read_is bytes at xs rest total r is h;
}

pub read_end : (bytes : List ℕ) (at : ℕ) (xs : List ℕ) (total : Option (List ℕ × ℕ)) → Read bytes at xs total → get_or xs at 0 ≡ 34 → Some (bytes, at + 1) ≡ total
read_end bytes at xs total r h =
    ap (λ x. Some (x, at + 1)) (sym (append-nil bytes)) ∙ sym (ap (onto bytes at) (quoted_end (drop at xs) (ap (λ b. nat_eq b 34) (rest_first at xs (drop at xs) refl) ∙ is_quote _ h))) ∙ r.so_far
