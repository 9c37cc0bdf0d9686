-- A loop that asks whether a test holds of one of a list.
use Rattle.std.proofs.Common.{ℕ, ◌<◌, ◌≤◌, ◌+◌, length, drop, get_or, ◌≡◌, sym, ap, ◌∙◌, List, [], ◌∷◌, Bool, true, false}
use Rattle.std.specs.Prelude.{◌||◌}
use Rattle.std.proofs.lemmas.List.{at_drop_more, at_drop_all}

module _ {A : Type 0} (F : List A → Bool) (p : A → Bool) (each : (x : A) (xs : List A) → F (x ∷ xs) ≡ (p x || F xs)) where
  next : (xs : List A) (i : ℕ) (x : A) → x ≡ get_or xs i x → i < length xs → F (drop i xs) ≡ (p x || F (drop (i + 1) xs))
  next xs i x e h = at_drop_more F xs i x h ∙ ap (λ y. F (y ∷ drop (i + 1) xs)) (sym e) ∙ each x (drop (i + 1) xs)

  pub any_step : (xs : List A) (i : ℕ) (x : A) (r : Bool) → F (drop i xs) ≡ F xs → x ≡ get_or xs i x → i < length xs → r ≡ p x → r ≡ false → F (drop (i + 1) xs) ≡ F xs
  any_step xs i x r s e h q n = ap (λ b. b || F (drop (i + 1) xs)) (sym n ∙ q) ∙ sym (next xs i x e h) ∙ s

  pub any_found : (xs : List A) (i : ℕ) (x : A) (r : Bool) → F (drop i xs) ≡ F xs → x ≡ get_or xs i x → i < length xs → r ≡ p x → r ≡ true → true ≡ F xs
  any_found xs i x r s e h q n = ap (λ b. b || F (drop (i + 1) xs)) (sym n ∙ q) ∙ sym (next xs i x e h) ∙ s

pub any_end : {A : Type 0} (F : List A → Bool) (xs : List A) (i : ℕ) → F [] ≡ false → F (drop i xs) ≡ F xs → length xs ≤ i → false ≡ F xs
any_end F xs i n s h = sym n ∙ sym (at_drop_all F xs i h) ∙ s
