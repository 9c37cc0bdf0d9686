-- A cell that is written, as the code writes it, and what stays the same.
use Rattle.std.proofs.Common.{ℕ, zero, suc, ◌+◌, ◌≤◌, ◌≡◌, refl, sym, ap, ◌∙◌, List, [], ◌∷◌, Some, slice_get, slice_set, length, arith, Bool}
use Rattle.oc_cells.specs.declared.memory.Address.{Address}
use Rattle.oc_cells.specs.declared.memory.Address.TheVariants.{Null, At}
use Rattle.oc_cells.specs.declared.memory.CellValue.{CellValue}
use Rattle.oc_cells.specs.declared.memory.Cell.{Cell}
use Rattle.oc_cells.specs.declared.memory.Block.{Block}
use Rattle.oc_cells.specs.declared.memory.Block.TheVariants.{Live, Gone}
use Rattle.oc_cells.specs.Memory.{update, written, in_live, put, weight, living, copied, take_over, cell, next}
use Rattle.oc_cells.specs.declared.trap.TrapKind.{TrapKind}
use Rattle.std.proofs.Common.{Result, Ok, Err}
use Rattle.oc_cells.proofs.Updates.{set_update, set_twice}
use Rattle.block_memory.specs.Content.{further}

pub update_past : {A : Type 0} (f : A → A) (xs : List A) (i : ℕ) → length xs ≤ i → update f xs i ≡ xs
update_past f [] i h = refl
update_past f (x ∷ xs) zero h = absurd (omega (arith, h))
update_past f (x ∷ xs) (suc i) h = ap (λ ys. x ∷ ys) (update_past f xs i (omega (arith, h)))

pub length_update : {A : Type 0} (f : A → A) (xs : List A) (i : ℕ) → length (update f xs i) ≡ length xs
length_update f [] i = refl
length_update f (x ∷ xs) zero = refl
length_update f (x ∷ xs) (suc i) = ap (λ n. suc n) (length_update f xs i)

module _ {H : Type 0} (v : CellValue H) where
  abbrev pub writing : ℕ → Block H → Block H
  writing i = in_live (λ cells. update (written v) cells i)

  pub put_live : (old mid new : List (Block H)) (at : Address) (b o n i : ℕ) (a : Bool) (cells now : List (Cell H)) → at ≡ At b o → mid ≡ slice_set old b Gone → new ≡ slice_set mid b (Live a now) → now ≡ update (written v) cells i → i ≡ o + n → slice_get old b ≡ Some (Live a cells) → new ≡ put old (further at n) v
  put_live old mid new at b o n i a cells now e f g h j k =
      rw (e) (g ∙ ap (λ m. slice_set m b (Live a now)) f ∙ set_twice old b Gone (Live a now) ∙ ap (λ cs. slice_set old b (Live a cs)) (h ∙ ap (update (written v) cells) j) ∙ set_update (writing (o + n)) old b (Live a cells) k)

  pub put_gone : (old new : List (Block H)) (at : Address) (b o n : ℕ) → at ≡ At b o → new ≡ slice_set old b Gone → slice_get old b ≡ Some Gone → new ≡ put old (further at n) v
  put_gone old new at b o n e f k = rw (e) (f ∙ set_update (writing (o + n)) old b Gone k)

  pub put_past : (old : List (Block H)) (at : Address) (b o n : ℕ) → at ≡ At b o → length old ≤ b → old ≡ put old (further at n) v
  put_past old at b o n e h = rw (e) (sym (update_past (writing (o + n)) old b h))

  weight_writing : (i : ℕ) (b : Block H) → weight (writing i b) ≡ weight b
  weight_writing i (Live a []) = refl
  weight_writing zero (Live a (c ∷ cs)) = refl
  weight_writing (suc i) (Live a (c ∷ cs)) = ap (λ n. suc n) (length_update (written v) cs i)
  weight_writing i Gone = refl

  living_update : (i : ℕ) (bs : List (Block H)) (b : ℕ) → living (update (writing i) bs b) ≡ living bs
  living_update i [] b = refl
  living_update i (c ∷ bs) zero = ap (λ n. n + living bs) (weight_writing i c)
  living_update i (c ∷ bs) (suc b) = ap (λ n. weight c + n) (living_update i bs b)

  -- a write changes no number of live cells
  pub living_put : (bs : List (Block H)) (at : Address) → living (put bs at v) ≡ living bs
  living_put bs Null = refl
  living_put bs (At b i) = living_update i bs b

module _ {H : Type 0} where
  living_take_over : (bs : List (Block H)) (to : Address) (r : Result (Cell H) TrapKind) → living (take_over bs to r) ≡ living bs
  living_take_over bs to (Ok c) = living_put c.value bs to
  living_take_over bs to (Err t) = refl

  pub living_copied : (n : ℕ) (bs : List (Block H)) (to from : Address) → living (copied n bs to from) ≡ living bs
  living_copied zero bs to from = refl
  living_copied (suc n) bs to from = living_copied n (take_over bs to (cell bs from)) (next to) (next from) ∙ living_take_over bs to (cell bs from)
