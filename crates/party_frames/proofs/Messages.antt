-- The message of which the setup digest is made, piece by piece.
use Rattle.std.proofs.Common.{ℕ, ◌+◌, ◌≡◌, ◌<◌, ℤ, pos, List, [], ◌∷◌, ◌++◌, length, take, get_or, refl, sym, ap, ◌∙◌, append_assoc}
use Rattle.std.specs.List.{flat_map}
use Rattle.std.proofs.lemmas.List.{flat_map_more, take_more}
use Rattle.party_frames.specs.Setup.{number_bytes, word_bytes, setup_bytes}

-- one more word
pub word_more : (start bytes : List ℕ) (words : List ℤ) (i : ℕ) → i < length words → bytes ≡ word_bytes (get_or words i (pos 0))
    → (start ++ flat_map word_bytes (take i words)) ++ bytes ≡ start ++ flat_map word_bytes (take (i + 1) words)
word_more start bytes words i lt e =
    ap (λ (t : List ℕ). (start ++ flat_map word_bytes (take i words)) ++ t) e ∙ flat_map_more word_bytes start (take i words) (get_or words i (pos 0))
    ∙ ap (λ (xs : List ℤ). start ++ flat_map word_bytes xs) (sym (take_more words i (pos 0) lt))

-- the whole message
pub whole_message : (source last : List ℕ) (words taken : List ℤ) (budget : ℕ) → taken ≡ words → last ≡ number_bytes budget
    → (((number_bytes (length source) ++ source) ++ number_bytes (length words)) ++ flat_map word_bytes taken) ++ last ≡ setup_bytes source words budget
unfolding setup_bytes
whole_message source last words taken budget e h =
    let front : List ℕ = number_bytes (length source) in
    let count : List ℕ = number_bytes (length words) in
    ap (λ (t : List ℕ). (((front ++ source) ++ count) ++ flat_map word_bytes taken) ++ t) h ∙ ap (λ (ws : List ℤ). (((front ++ source) ++ count) ++ flat_map word_bytes ws) ++ number_bytes budget) e
    ∙ append_assoc ((front ++ source) ++ count) (flat_map word_bytes words) (number_bytes budget)
    ∙ append_assoc (front ++ source) count (flat_map word_bytes words ++ number_bytes budget) ∙ append_assoc front source (count ++ (flat_map word_bytes words ++ number_bytes budget))
