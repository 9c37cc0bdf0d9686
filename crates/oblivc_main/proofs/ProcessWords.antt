-- Reading the words of a process, one after another.
use Rattle.std.proofs.Common.{ℕ, suc, ◌+◌, ◌≡◌, ◌<◌, ◌≤◌, List, [], ◌∷◌, ◌++◌, length, take, drop, get_or, Option, Some, None, refl, sym, ap, ◌∙◌, arith}
use Rattle.std.specs.Prelude.{IfSome, IsUtf8, String, string_bytes}
use Rattle.std.specs.List.{AllByRecursion}
use Rattle.std.proofs.Math.Seq.{take-suc}
use Rattle.std.proofs.lemmas.Str.{IsUtf8-string_bytes}
use Rattle.std.proofs.lemmas.List.{take_all, take-append-drop, drop_more}
use Rattle.command_grammar.specs.Grammar.{texts}

-- the first n words of the process are these
abbrev pub AreFirst : Option (List (List ℕ)) → ℕ → List (List ℕ) → Type 0
AreFirst told n words = IfSome told (λ all. (n ≤ length all) × (take n all ≡ words))

-- none
pub first_none : (told : Option (List (List ℕ))) → AreFirst told 0 []
first_none None = tt
first_none (Some all) = (omega arith, refl)

-- and one more
pub first_next : (told : Option (List (List ℕ))) (n : ℕ) (words : List (List ℕ)) (word : List ℕ)
    → AreFirst told n words → IfSome told (λ all. (n < length all) × (get_or all n [] ≡ word)) → AreFirst told (n + 1) (words ++ word ∷ [])
first_next None n words word f w = tt
first_next (Some all) n words word f w =
    let lt = w.0 in
    let on : n + 1 ≡ suc n = omega arith in
    (omega (arith, lt), ap (λ m. take m all) on ∙ take-suc all n [] lt ∙ ap (λ x. take n all ++ x ∷ []) w.1 ∙ ap (λ xs. xs ++ word ∷ []) f.1)

-- and no more
pub first_all : (told : Option (List (List ℕ))) (n : ℕ) (words : List (List ℕ)) → AreFirst told n words → IfSome told (λ all. length all ≤ n) → IfSome told (λ all. all ≡ words)
first_all None n words f w = tt
first_all (Some all) n words f w = sym (take_all n all w) ∙ f.1

-- and then this one
pub first_before : (told : Option (List (List ℕ))) (n : ℕ) (words : List (List ℕ)) (word : List ℕ)
    → AreFirst told n words → IfSome told (λ all. (n < length all) × (get_or all n [] ≡ word)) → IfSome told (λ all. (rest : List (List ℕ)) × (all ≡ words ++ word ∷ rest))
first_before None n words word f w = tt
first_before (Some all) n words word f w =
    (drop (n + 1) all, sym (take-append-drop n all) ∙ ap (λ xs. xs ++ drop n all) f.1 ∙ ap (λ xs. words ++ xs) (drop_more all n [] w.0 ∙ ap (λ x. x ∷ drop (n + 1) all) w.1))

-- texts are text
pub all_texts : {Y : Type 0} (words : List (String Y)) → AllByRecursion IsUtf8 (texts words)
all_texts [] = tt
all_texts (w ∷ words) = (IsUtf8-string_bytes w, all_texts words)

-- one more text
pub texts_next : {Y : Type 0} (words : List (String Y)) (word : String Y) → texts (words ++ word ∷ []) ≡ texts words ++ string_bytes word ∷ []
texts_next [] word = refl
texts_next (w ∷ words) word = ap (λ ts. string_bytes w ∷ ts) (texts_next words word)
