-- Cells that are checked and copied one after the other.
use Rattle.std.proofs.Common.{ℕ, zero, suc, ◌+◌, ◌-◌, ◌<◌, ◌≤◌, ◌≡◌, refl, sym, ap, ◌∙◌, subst, List, [], ◌∷◌, length, drop, Option, Some, None, slice_get, Ok, Err, true, false, arith}
use Rattle.oc_cells.specs.declared.types.CType.{CType}
use Rattle.oc_cells.specs.declared.memory.Address.{Address}
use Rattle.oc_cells.specs.declared.memory.Address.TheVariants.{Null, At}
use Rattle.oc_cells.specs.declared.memory.Cell.{Cell}
use Rattle.oc_cells.specs.declared.memory.Block.{Block}
use Rattle.oc_cells.specs.declared.trap.TrapKind.{TrapKind}
use Rattle.oc_cells.specs.declared.trap.TrapKind.TheVariants.{M5}
use Rattle.oc_cells.specs.Types.{same, fits}
use Rattle.oc_cells.specs.Memory.{then, only, cell, load, loadable, storable, all_storable, take_over, copied, next}
use Rattle.block_memory.specs.Content.{further}
use Rattle.block_memory.proofs.Accesses.{further_none}

abbrev IsThere : {A : Type 0} → Option A → Type 0
IsThere (Some x) = Unit {0}
IsThere None = ⊥

no_element : {A : Type 0} {x : A} → None ≡ Some x → ⊥
no_element e = subst IsThere (sym e) tt

abbrev first_of_option : {A : Type 0} → Option A → A → A
first_of_option (Some x) y = x
first_of_option None y = y

less_one : (n i : ℕ) → i < n → n - i ≡ suc (n - (i + 1))
less_one n i h = omega (arith, h)

none_left : (n i : ℕ) → n ≤ i → n - i ≡ 0
none_left n i h = omega (arith, h)

next_further : (at : Address) (i : ℕ) → next (further at i) ≡ further at (i + 1)
next_further Null i = refl
next_further (At b o) i = ap (At b) (omega arith)

drop_at : {A : Type 0} (xs : List A) (i : ℕ) (x : A) → slice_get xs i ≡ Some x → drop i xs ≡ x ∷ drop (suc i) xs
drop_at [] i x e = absurd (no_element e)
drop_at (y ∷ ys) zero x e = ap (λ o. first_of_option o y ∷ ys) e
drop_at (y ∷ ys) (suc i) x e = drop_at ys i x e

plus_one : (n : ℕ) → suc n ≡ n + 1
plus_one n = omega arith

drop_next : {A : Type 0} (xs : List A) (i : ℕ) (x : A) → slice_get xs i ≡ Some x → drop i xs ≡ x ∷ drop (i + 1) xs
drop_next xs i x e = drop_at xs i x e ∙ ap (λ j. x ∷ drop j xs) (plus_one i)

drop_end : {A : Type 0} (xs : List A) (i : ℕ) → length xs ≤ i → drop i xs ≡ []
drop_end [] zero h = refl
drop_end [] (suc i) h = refl
drop_end (x ∷ xs) zero h = absurd (omega (arith, h))
drop_end (x ∷ xs) (suc i) h = drop_end xs i (omega (arith, h))

pub get_is_some : {A : Type 0} (xs : List A) (i : ℕ) → i < length xs → slice_get xs i ≡ None → ⊥
get_is_some [] i h e = omega (arith, h)
get_is_some (x ∷ xs) zero h e = no_element (sym e)
get_is_some (x ∷ xs) (suc i) h e = get_is_some xs i (omega (arith, h)) e

module _ {H : Type 0} (bs : List (Block H)) (at : Address) (ls : List CType) where
  pub loads_from_start : loadable bs at ls ≡ loadable bs (further at 0) (drop 0 ls)
  loads_from_start = ap (λ a. loadable bs a ls) (sym (further_none at))

  pub stores_from_start : all_storable bs at ls ≡ all_storable bs (further at 0) (drop 0 ls)
  stores_from_start = ap (λ a. all_storable bs a ls) (sym (further_none at))

  at_load : (i : ℕ) (l : CType) → slice_get ls i ≡ Some l → loadable bs (further at i) (drop i ls) ≡ then (load bs (further at i) l) (λ _. loadable bs (further at (i + 1)) (drop (i + 1) ls))
  at_load i l e = ap (loadable bs (further at i)) (drop_next ls i l e) ∙ ap (λ a. then (load bs (further at i) l) (λ _. loadable bs a (drop (i + 1) ls))) (next_further at i)

  at_store : (i : ℕ) (l : CType) → slice_get ls i ≡ Some l → all_storable bs (further at i) (drop i ls) ≡ then (storable bs (further at i) l) (λ _. all_storable bs (further at (i + 1)) (drop (i + 1) ls))
  at_store i l e = ap (all_storable bs (further at i)) (drop_next ls i l e) ∙ ap (λ a. then (storable bs (further at i) l) (λ _. all_storable bs a (drop (i + 1) ls))) (next_further at i)

  module _ (i : ℕ) (l m : CType) (e : Some l ≡ slice_get ls i) where
    pub load_passes : (c : Cell H) → cell bs (further at i) ≡ Ok c → m ≡ c.leaf → fits l m ≡ true → loadable bs (further at i) (drop i ls) ≡ loadable bs (further at (i + 1)) (drop (i + 1) ls)
    load_passes c f p q = at_load i l (sym e) ∙ ap (λ r. then (then r (λ c. only (fits l c.leaf) c.value)) (λ _. loadable bs (further at (i + 1)) (drop (i + 1) ls))) f ∙ ap (λ b. then (only b c.value) (λ _. loadable bs (further at (i + 1)) (drop (i + 1) ls))) (ap (fits l) (sym p) ∙ q)

    pub load_fails : (c : Cell H) → cell bs (further at i) ≡ Ok c → m ≡ c.leaf → fits l m ≡ false → loadable bs (further at i) (drop i ls) ≡ Err M5
    load_fails c f p q = at_load i l (sym e) ∙ ap (λ r. then (then r (λ c. only (fits l c.leaf) c.value)) (λ _. loadable bs (further at (i + 1)) (drop (i + 1) ls))) f ∙ ap (λ b. then (only b c.value) (λ _. loadable bs (further at (i + 1)) (drop (i + 1) ls))) (ap (fits l) (sym p) ∙ q)

    pub load_traps : (t : TrapKind) → cell bs (further at i) ≡ Err t → loadable bs (further at i) (drop i ls) ≡ Err t
    load_traps t f = at_load i l (sym e) ∙ ap (λ r. then (then r (λ c. only (fits l c.leaf) c.value)) (λ _. loadable bs (further at (i + 1)) (drop (i + 1) ls))) f

    pub store_passes : (c : Cell H) → cell bs (further at i) ≡ Ok c → m ≡ c.leaf → same true l m ≡ true → all_storable bs (further at i) (drop i ls) ≡ all_storable bs (further at (i + 1)) (drop (i + 1) ls)
    store_passes c f p q = at_store i l (sym e) ∙ ap (λ r. then (then r (λ c. only (same true l c.leaf) tt)) (λ _. all_storable bs (further at (i + 1)) (drop (i + 1) ls))) f ∙ ap (λ b. then (only b tt) (λ _. all_storable bs (further at (i + 1)) (drop (i + 1) ls))) (ap (same true l) (sym p) ∙ q)

    pub store_fails : (c : Cell H) → cell bs (further at i) ≡ Ok c → m ≡ c.leaf → same true l m ≡ false → all_storable bs (further at i) (drop i ls) ≡ Err M5
    store_fails c f p q = at_store i l (sym e) ∙ ap (λ r. then (then r (λ c. only (same true l c.leaf) tt)) (λ _. all_storable bs (further at (i + 1)) (drop (i + 1) ls))) f ∙ ap (λ b. then (only b tt) (λ _. all_storable bs (further at (i + 1)) (drop (i + 1) ls))) (ap (same true l) (sym p) ∙ q)

    pub store_traps : (t : TrapKind) → cell bs (further at i) ≡ Err t → all_storable bs (further at i) (drop i ls) ≡ Err t
    store_traps t f = at_store i l (sym e) ∙ ap (λ r. then (then r (λ c. only (same true l c.leaf) tt)) (λ _. all_storable bs (further at (i + 1)) (drop (i + 1) ls))) f

  pub loads_end : (i : ℕ) → length ls ≤ i → loadable bs (further at i) (drop i ls) ≡ Ok tt
  loads_end i h = ap (loadable bs (further at i)) (drop_end ls i h)

  pub stores_end : (i : ℕ) → length ls ≤ i → all_storable bs (further at i) (drop i ls) ≡ Ok tt
  stores_end i h = ap (all_storable bs (further at i)) (drop_end ls i h)

-- what is left to copy, one cell less
pub copied_step : {H : Type 0} (n i : ℕ) (bs now : List (Block H)) (to from : Address) → i < n → now ≡ take_over bs (further to i) (cell bs (further from i)) → copied (n - i) bs (further to i) (further from i) ≡ copied (n - (i + 1)) now (further to (i + 1)) (further from (i + 1))
copied_step n i bs now to from h e =
    ap (λ k. copied k bs (further to i) (further from i)) (less_one n i h) ∙ ap (λ a. copied (n - (i + 1)) (take_over bs (further to i) (cell bs (further from i))) a (next (further from i))) (next_further to i)
    ∙ ap (λ a. copied (n - (i + 1)) (take_over bs (further to i) (cell bs (further from i))) (further to (i + 1)) a) (next_further from i)
    ∙ ap (λ m. copied (n - (i + 1)) m (further to (i + 1)) (further from (i + 1))) (sym e)

all_left : (n : ℕ) → n - 0 ≡ n
all_left n = omega arith

pub copied_start : {H : Type 0} (n : ℕ) (bs : List (Block H)) (to from : Address) → copied n bs to from ≡ copied (n - 0) bs (further to 0) (further from 0)
copied_start n bs to from = sym (ap (λ k. copied k bs (further to 0) (further from 0)) (all_left n) ∙ ap (λ a. copied n bs a (further from 0)) (further_none to) ∙ ap (λ a. copied n bs to a) (further_none from))

pub copied_end : {H : Type 0} (n i : ℕ) (bs : List (Block H)) (to from : Address) → n ≤ i → copied (n - i) bs to from ≡ bs
copied_end n i bs to from h = ap (λ k. copied k bs to from) (none_left n i h)

-- the same number of cells, as it is known of the leaves
pub copied_as : {H : Type 0} (n k : ℕ) (bs now : List (Block H)) (to from : Address) → now ≡ copied n bs to from → n ≡ k → now ≡ copied k bs to from
copied_as n k bs now to from e f = subst (λ m. now ≡ copied m bs to from) f e
