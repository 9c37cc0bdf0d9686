-- Pairs of a name and a value, from one on.
use Rattle.std.proofs.Common.{ℕ, zero, suc, ◌+◌, ◌≡◌, ◌<◌, ◌≤◌, List, [], ◌∷◌, length, drop, get_or, Bool, refl, sym, ap, ◌∙◌, arith}
use Rattle.std.specs.Prelude.{◌||◌, String, string_bytes}
use Rattle.std.proofs.Math.Seq.{drop-cons}
use Rattle.std.proofs.lemmas.List.{length-map, length-drop}
use Rattle.command_grammar.specs.Grammar.{CommandOption, has, texts}
use Rattle.command_grammar.specs.Scanning.{option_of, slots_in, slots_or_none}
use Rattle.command_grammar.proofs.Slots.{has_append}

-- the words from one on begin with it and the next
pub two_words : (ws : List (List ℕ)) (at : ℕ) → at + 1 < length ws → drop at ws ≡ get_or ws at [] ∷ get_or ws (at + 1) [] ∷ drop (at + 2) ws
two_words ws at lt =
    let second : at + 1 ≡ suc at = omega arith in
    let third : at + 2 ≡ suc (suc at) = omega arith in
    drop-cons ws at [] (omega arith) ∙ ap (λ xs. get_or ws at [] ∷ xs) (drop-cons ws (suc at) [] (omega arith) ∙ rw (second, third) refl)

pub has_pair : (options : List CommandOption) (ws : List (List ℕ)) (at p : ℕ) → at + 1 < length ws → has (slots_in options (drop at ws)) p ≡ (has (slots_or_none (option_of options (get_or ws at []) (get_or ws (at + 1) []))) p || has (slots_in options (drop (at + 2) ws)) p)
has_pair options ws at p lt =
    ap (λ xs. has (slots_in options xs) p) (two_words ws at lt) ∙ has_append (slots_or_none (option_of options (get_or ws at []) (get_or ws (at + 1) []))) (slots_in options (drop (at + 2) ws)) p

-- fewer than two words make no pair
pub no_pair : (options : List CommandOption) (ws : List (List ℕ)) (at : ℕ) → length ws ≤ at + 1 → slots_in options (drop at ws) ≡ []
no_pair options ws at le = few (drop at ws) (omega (arith, length-drop at ws))
  where
    few : (xs : List (List ℕ)) → length xs ≤ 1 → slots_in options xs ≡ []
    few [] h = refl
    few (x ∷ []) h = refl
    few (x ∷ y ∷ xs) h = absurd (omega arith)

pub text_at : {Y : Type 0} (words : List (String Y)) (at : ℕ) (w : String Y) → at < length words → w ≡ get_or words at w → get_or (texts words) at [] ≡ string_bytes w
text_at [] at w lt e = absurd (omega arith)
text_at (x ∷ xs) zero w lt e = ap string_bytes (sym e)
text_at (x ∷ xs) (suc at) w lt e = text_at xs at w (omega arith) e

-- what the pair at hand takes, and what those after it take
pub pair_step : {Y : Type 0} (options : List CommandOption) (pairs : List (String Y)) (at p : ℕ) (w v : String Y) (name value : List ℕ) (r all : Bool) → at + 1 < length pairs → w ≡ get_or pairs at w → v ≡ get_or pairs (at + 1) v → name ≡ string_bytes w → value ≡ string_bytes v → r ≡ has (slots_or_none (option_of options name value)) p → all ≡ has (slots_in options (drop at (texts pairs))) p → all ≡ (r || has (slots_in options (drop (at + 2) (texts pairs))) p)
pair_step options pairs at p w v name value r all lt iw iv en ev er ea =
    let ws = texts pairs in
    let size = length-map pairs string_bytes in
    let name_so : name ≡ get_or ws at [] = en ∙ sym (text_at pairs at w (omega arith) iw) in
    let value_so : value ≡ get_or ws (at + 1) [] = ev ∙ sym (text_at pairs (at + 1) v (omega arith) iv) in
    let same : r ≡ has (slots_or_none (option_of options (get_or ws at []) (get_or ws (at + 1) []))) p =
    er ∙ ap (λ n. has (slots_or_none (option_of options n value)) p) name_so ∙ ap (λ x. has (slots_or_none (option_of options (get_or ws at []) x)) p) value_so in
    ea ∙ has_pair options ws at p (omega (arith, size)) ∙ ap (λ b. b || has (slots_in options (drop (at + 2) ws)) p) (sym same)
