-- New cells that are added leaf by leaf, copy by copy.
use Rattle.std.proofs.Common.{ℕ, zero, ◌+◌, ◌<◌, ◌≤◌, ◌≡◌, refl, sym, ap, ◌∙◌, subst, List, [], ◌∷◌, ◌++◌, suc, take, length, get_or, append_assoc, arith}
use Rattle.std.proofs.lemmas.List.{take_more, append-nil}
use Rattle.oc_values.specs.declared.integers.IntKind.{IntKind}
use Rattle.oc_cells.specs.declared.types.CType.{CType, Array}
use Rattle.oc_cells.specs.declared.memory.Cell.{Cell}
use Rattle.oc_cells.specs.Joined.{none, more}
use Rattle.oc_cells.specs.Layout.{leaves, repeated}
use Rattle.oc_cells.proofs.Views.{leaves_array}
use Rattle.block_memory.specs.Content.{IsBlank, AreBlank, Adds}

counted : (k n : ℕ) → k ≤ n → n ≤ k → k ≡ n
counted k n h i = omega (arith, h, i)

plus_one : (n : ℕ) → suc n ≡ n + 1
plus_one n = omega arith

take_all : {A : Type 0} (xs : List A) (i : ℕ) → length xs ≤ i → take i xs ≡ xs
take_all [] zero h = refl
take_all [] (suc i) h = refl
take_all (x ∷ xs) zero h = absurd (omega (arith, h))
take_all (x ∷ xs) (suc i) h = ap (λ ys. x ∷ ys) (take_all xs i (omega (arith, h)))

module _ {H : Type 0} {z : IntKind → H → Type 0} where
  blanks_join : {ks ls : List CType} {cs ds : List (Cell H)} → AreBlank z ks cs → AreBlank z ls ds → AreBlank z (ks ++ ls) (cs ++ ds)
  blanks_join none q = q
  blanks_join (more p ps) q = more p (blanks_join ps q)

  pub adds_none : (old : List (Cell H)) → Adds z [] old old
  adds_none old = record { cells = []; blank = none; added = sym (append-nil old) }

  pub adds_empty : (old : List (Cell H)) (ls : List CType) → ls ≡ [] → Adds z ls old old
  adds_empty old ls e = subst (λ ks. Adds z ks old old) (sym e) (adds_none old)

  pub adds_one : (old new : List (Cell H)) (l : CType) (c : Cell H) → new ≡ old ++ c ∷ [] → c.leaf ≡ l → IsBlank z l c.value → Adds z (l ∷ []) old new
  adds_one old new l c e f b = record { cells = c ∷ []; blank = more (record { made_with = f; blank = b }) none; added = e }

  pub adds_join : {ks ls : List CType} {a b c : List (Cell H)} → Adds z ks a b → Adds z ls b c → Adds z (ks ++ ls) a c
  adds_join {a = a} f g = record {
    cells = f.cells ++ g.cells;
    blank = blanks_join f.blank g.blank;
    added = g.added ∙ ap (λ r. r ++ g.cells) f.added ∙ append_assoc a f.cells g.cells;
  }

  pub known_step : (before out now : List (Cell H)) (ls : List CType) (i : ℕ) (l t : CType) → Adds z (take i ls) before out → Adds z (t ∷ []) out now → t ≡ l → l ≡ get_or ls i l → i < length ls → Adds z (take (i + 1) ls) before now
  known_step before out now ls i l t a b r q h =
      subst (λ ks. Adds z ks before now) (ap (λ g. take i ls ++ g ∷ []) (r ∙ q) ∙ sym (take_more ls i l h)) (adds_join a b)

  pub known_end : (before now : List (Cell H)) (ls ks : List CType) (i : ℕ) → ls ≡ ks → Adds z (take i ls) before now → length ls ≤ i → Adds z ks before now
  known_end before now ls ks i e a h = subst (λ js. Adds z js before now) (take_all ls i h ∙ e) a

  -- what was added to nothing
  pub all_added : {ls : List CType} {old new : List (Cell H)} (f : Adds z ls old new) → old ≡ [] → new ≡ f.cells
  all_added f e = f.added ∙ ap (λ r. r ++ f.cells) e

  pub copies_step : (before out now : List (Cell H)) (ls : List CType) (n : ℕ) → Adds z (repeated n ls) before out → Adds z ls out now → Adds z (repeated (n + 1) ls) before now
  copies_step before out now ls n a b = subst (λ k. Adds z (repeated k ls) before now) (plus_one n) (adds_join a b)

  pub array_blanks : (ss : List (List CType)) (before now : List (Cell H)) (k n : ℕ) (t s ty : CType) → Adds z (repeated k (leaves ss s)) before now → s ≡ t → k ≤ n → n ≤ k → ty ≡ Array n t → Adds z (leaves ss ty) before now
  array_blanks ss before now k n t s ty e p h i q =
      subst (λ ls. Adds z ls before now) (ap (λ j. repeated j (leaves ss s)) (counted k n h i) ∙ ap (λ y. repeated n (leaves ss y)) p ∙ sym (leaves_array ss n t) ∙ ap (leaves ss) (sym q)) e

  pub all_copies : (before now : List (Cell H)) (k n : ℕ) (ls : List CType) → Adds z (repeated k ls) before now → k ≤ n → n ≤ k → Adds z (repeated n ls) before now
  all_copies before now k n ls e h i = subst (λ j. Adds z (repeated j ls) before now) (counted k n h i) e
