-- Cells that are copied one after the other: no leaf changes, each value keeps the form of its cell's leaf, and two memories stay alike.
use Rattle.std.proofs.Common.{ℕ, zero, suc, ◌≡◌, refl, sym, ap, ◌∙◌, subst, List, [], ◌∷◌, length, Some, slice_get, Result, Ok, Err, Bool, true, false}
use Rattle.std.specs.Prelude.{IfOk}
use Rattle.oc_values.specs.declared.integers.IntKind.{IntKind}
use Rattle.oc_cells.specs.declared.types.CType.{CType, Int as CInt}
use Rattle.oc_cells.specs.declared.memory.Address.{Address}
use Rattle.oc_cells.specs.declared.memory.Address.TheVariants.{Null, At}
use Rattle.oc_cells.specs.declared.memory.CellValue.{CellValue}
use Rattle.oc_cells.specs.declared.memory.CellValue.TheVariants.{Hidden}
use Rattle.oc_cells.specs.declared.memory.Cell.{Cell}
use Rattle.oc_cells.specs.declared.memory.Block.{Block}
use Rattle.oc_cells.specs.declared.memory.Block.TheVariants.{Live, Gone}
use Rattle.oc_cells.specs.declared.trap.TrapKind.{TrapKind}
use Rattle.oc_cells.specs.Types.{same, fits, kind_of}
use Rattle.oc_cells.specs.Memory.{then, live, within, only, cell, load, loadable, storable, all_storable, copyable, update, written, in_live, put, take_over, copied, copy, next, HasForm, AllHaveForm}
use Rattle.oc_cells.specs.Joined.{SameAnswer, answers, traps, SameCell, SameMemory}
use Rattle.oc_cells.proofs.Equal.{same_is}
use Rattle.oc_cells.proofs.Formed.{no_answer, or_none, only_then, then_ok, by_leaf, only_alike, AnswerForm, cell_form, form_fits, form_put}
use Rattle.oc_cells.proofs.Joined.{then_same, kinds_fit, cell_same, put_same, loadable_same, all_storable_same}

module _ {H : Type 0} where
  abbrev pub leaf_of : Result (Cell H) TrapKind → Result CType TrapKind
  leaf_of (Ok c) = Ok c.leaf
  leaf_of (Err t) = Err t

  within_put : (v : CellValue H) (cs : List (Cell H)) (i j : ℕ) → leaf_of (within (slice_get (update (written v) cs i) j)) ≡ leaf_of (within (slice_get cs j))
  within_put v [] i j = refl
  within_put v (c ∷ cs) zero zero = refl
  within_put v (c ∷ cs) zero (suc j) = refl
  within_put v (c ∷ cs) (suc i) zero = refl
  within_put v (c ∷ cs) (suc i) (suc j) = within_put v cs i j

  live_put : (v : CellValue H) (b : Block H) (i j : ℕ) → leaf_of (then (live (Some (in_live (λ cells. update (written v) cells i) b))) (λ cells. within (slice_get cells j))) ≡ leaf_of (then (live (Some b)) (λ cells. within (slice_get cells j)))
  live_put v (Live a cs) i j = within_put v cs i j
  live_put v Gone i j = refl

  leaf_put_at : (v : CellValue H) (bs : List (Block H)) (b i d j : ℕ) → leaf_of (cell (put bs (At b i) v) (At d j)) ≡ leaf_of (cell bs (At d j))
  leaf_put_at v [] b i d j = refl
  leaf_put_at v (c ∷ bs) zero i zero j = live_put v c i j
  leaf_put_at v (c ∷ bs) zero i (suc d) j = refl
  leaf_put_at v (c ∷ bs) (suc b) i zero j = refl
  leaf_put_at v (c ∷ bs) (suc b) i (suc d) j = leaf_put_at v bs b i d j

  -- a write changes no leaf
  pub leaf_put : (v : CellValue H) (bs : List (Block H)) (to at : Address) → leaf_of (cell (put bs to v) at) ≡ leaf_of (cell bs at)
  leaf_put v bs Null at = refl
  leaf_put v bs (At b i) Null = refl
  leaf_put v bs (At b i) (At d j) = leaf_put_at v bs b i d j

  load_by_leaf : (l : CType) (r : Result (Cell H) TrapKind) (k : Result (Unit {0}) TrapKind) → then (then r (λ c. only (fits l c.leaf) c.value)) (λ _. k) ≡ by_leaf (leaf_of r) (fits l) k
  load_by_leaf l (Ok c) k = only_alike (fits l c.leaf) c.value (tt {0}) k
  load_by_leaf l (Err t) k = refl

  store_by_leaf : (l : CType) (r : Result (Cell H) TrapKind) (k : Result (Unit {0}) TrapKind) → then (then r (λ c. only (same true l c.leaf) (tt {0}))) (λ _. k) ≡ by_leaf (leaf_of r) (same true l) k
  store_by_leaf l (Ok c) k = refl
  store_by_leaf l (Err t) k = refl

  pub loadable_put : (v : CellValue H) (bs : List (Block H)) (to at : Address) (ls : List CType) → loadable (put bs to v) at ls ≡ loadable bs at ls
  loadable_put v bs to at [] = refl
  loadable_put v bs to at (l ∷ ls) =
      load_by_leaf l (cell (put bs to v) at) (loadable (put bs to v) (next at) ls)
      ∙ ap (λ r. by_leaf r (fits l) (loadable (put bs to v) (next at) ls)) (leaf_put v bs to at)
      ∙ ap (by_leaf (leaf_of (cell bs at)) (fits l)) (loadable_put v bs to (next at) ls)
      ∙ sym (load_by_leaf l (cell bs at) (loadable bs (next at) ls))

  pub storable_put : (v : CellValue H) (bs : List (Block H)) (to at : Address) (ls : List CType) → all_storable (put bs to v) at ls ≡ all_storable bs at ls
  storable_put v bs to at [] = refl
  storable_put v bs to at (l ∷ ls) =
      store_by_leaf l (cell (put bs to v) at) (all_storable (put bs to v) (next at) ls)
      ∙ ap (λ r. by_leaf r (same true l) (all_storable (put bs to v) (next at) ls)) (leaf_put v bs to at)
      ∙ ap (by_leaf (leaf_of (cell bs at)) (same true l)) (storable_put v bs to (next at) ls)
      ∙ sym (store_by_leaf l (cell bs at) (all_storable bs (next at) ls))

  form_taken : (l : CType) (ls : List CType) (bs : List (Block H)) (to from : Address) (r : Result (Cell H) TrapKind) → AnswerForm r → then (then r (λ c. only (fits l c.leaf) c.value)) (λ _. loadable bs (next from) ls) ≡ Ok (tt {0}) → (storable bs to l ≡ Ok (tt {0})) × (all_storable bs (next to) ls ≡ Ok (tt {0})) → AllHaveForm bs
      → ((cs : List (Block H)) → loadable cs (next from) ls ≡ Ok (tt {0}) → all_storable cs (next to) ls ≡ Ok (tt {0}) → AllHaveForm cs → AllHaveForm (copied (length ls) cs (next to) (next from))) → AllHaveForm (copied (length ls) (take_over bs to r) (next to) (next from))
  form_taken l ls bs to from (Ok c) a e f h rest =
      let p = only_then (fits l c.leaf) c.value (loadable bs (next from) ls) e in
      rest (put bs to c.value) (loadable_put c.value bs to (next from) ls ∙ p.1) (storable_put c.value bs to (next to) ls ∙ f.1) (form_put l c.value bs to f.0 (form_fits l c.leaf p.0 c.value a) h)
  form_taken l ls bs to from (Err t) a e f h rest = absurd (no_answer e)

  -- a copy whose cells all passed keeps the forms
  pub form_copied : (ls : List CType) (bs : List (Block H)) (to from : Address) → loadable bs from ls ≡ Ok (tt {0}) → all_storable bs to ls ≡ Ok (tt {0}) → AllHaveForm bs → AllHaveForm (copied (length ls) bs to from)
  form_copied [] bs to from e f h = h
  form_copied (l ∷ ls) bs to from e f h = form_taken l ls bs to from (cell bs from) (cell_form bs from h) e (then_ok (storable bs to l) (all_storable bs (next to) ls) f) h (λ cs i j k. form_copied ls cs (next to) (next from) i j k)

  hidden_form : (k : IntKind) (r : Result (Cell H) TrapKind) (v : CellValue H) → then r (λ c. only (fits (CInt k true) c.leaf) c.value) ≡ Ok v → (h : H) → IfOk r (λ c. HasForm c.leaf (Hidden h))
  hidden_form k (Err t) v e h = tt
  hidden_form k (Ok c) v e h = at_leaf (fits (CInt k true) c.leaf) refl e
    where
      at_leaf : (b : Bool) → fits (CInt k true) c.leaf ≡ b → only b c.value ≡ Ok v → HasForm c.leaf (Hidden h)
      at_leaf true f g = subst (λ l. HasForm l (Hidden h)) (same_is (CInt k true) c.leaf (or_none (same true (CInt k true) c.leaf) f)) tt
      at_leaf false f g = absurd (no_answer g)

  -- where a hidden integer was read, a hidden integer is written
  pub hidden_write : (bs : List (Block H)) (at : Address) (k : IntKind) (v : CellValue H) → load bs at (CInt k true) ≡ Ok v → (h : H) → IfOk (cell bs at) (λ c. HasForm c.leaf (Hidden h))
  hidden_write bs at k v e h = hidden_form k (cell bs at) v e h

  -- the kind of the cell that was read is that of the cell that is written
  kinds_meet : (l : CType) (c d : Cell H) (x y : Result (Unit {0}) TrapKind) → then (only (fits l c.leaf) c.value) (λ _. x) ≡ Ok (tt {0}) → only (same true l d.leaf) (tt {0}) ≡ Ok (tt {0}) → kind_of d.leaf ≡ kind_of c.leaf
  kinds_meet l c d x y e f =
      let p = only_then (fits l c.leaf) c.value x e in
      let q = only_then (same true l d.leaf) (tt {0}) (Ok (tt {0})) (ap (λ r. then r (λ _. Ok (tt {0}))) f) in
      sym (ap kind_of (same_is l d.leaf q.0)) ∙ sym (kinds_fit l c.leaf p.0)

  take_over_put : (m : List (Block H)) (to at : Address) (r : Result (Cell H) TrapKind) (ls : List CType) → (loadable (take_over m to r) at ls ≡ loadable m at ls) × (all_storable (take_over m to r) at ls ≡ all_storable m at ls)
  take_over_put m to at (Ok c) ls = (loadable_put c.value m to at ls, storable_put c.value m to at ls)
  take_over_put m to at (Err t) ls = (refl, refl)

module _ {H K : Type 0} {R : IntKind → H → K → Type 0} where
  -- one cell that is copied, where its read and its write pass
  taken_same : (l : CType) {m : List (Block H)} {n : List (Block K)} → SameMemory R m n → (to from : Address) (k : Result (Unit {0}) TrapKind) (x : Result (Cell H) TrapKind) (y : Result (Cell K) TrapKind)
      → then (then x (λ c. only (fits l c.leaf) c.value)) (λ _. k) ≡ Ok (tt {0}) → storable m to l ≡ Ok (tt {0}) → SameAnswer (SameCell R) x y → SameMemory R (take_over m to x) (take_over n to y)
  taken_same l {m} s to from k (Ok c) (Ok d) e f (answers p) =
      put_same s to (kind_of c.leaf) (λ o g. kinds_meet l c o k (Ok (tt {0})) e (ap (λ r. then r (λ o. only (same true l o.leaf) (tt {0}))) (sym g) ∙ f)) p.value
  taken_same l s to from k (Err t) (Err u) e f traps = s
  taken_same l s to from k (Ok c) (Err u) e f p = elim p [ ]
  taken_same l s to from k (Err t) (Ok d) e f p = elim p [ ]

  pub copied_same : (ls : List CType) {m : List (Block H)} {n : List (Block K)} → SameMemory R m n → (to from : Address) → loadable m from ls ≡ Ok (tt {0}) → all_storable m to ls ≡ Ok (tt {0}) → SameMemory R (copied (length ls) m to from) (copied (length ls) n to from)
  copied_same [] s to from e f = s
  copied_same (l ∷ ls) {m} {n} s to from e f =
      let g = then_ok (storable m to l) (all_storable m (next to) ls) f in
      copied_same ls (taken_same l s to from (loadable m (next from) ls) (cell m from) (cell n from) e g.0 (cell_same s from)) (next to) (next from)
      ((take_over_put m to (next from) (cell m from) ls).0 ∙ after_load (load m from l) (loadable m (next from) ls) e) ((take_over_put m to (next to) (cell m from) ls).1 ∙ g.1)
    where
      after_load : {A : Type 0} (r : Result A TrapKind) (k : Result (Unit {0}) TrapKind) → then r (λ _. k) ≡ Ok (tt {0}) → k ≡ Ok (tt {0})
      after_load (Ok a) k e = e
      after_load (Err t) k e = absurd (no_answer e)

  pub copyable_same : {m : List (Block H)} {n : List (Block K)} → SameMemory R m n → (to from : Address) (ls : List CType) → SameAnswer (λ _ _. Unit {0}) (copyable m to from ls) (copyable n to from ls)
  copyable_same s to from ls = then_same (loadable_same s from ls) (λ _ _ _. all_storable_same s to ls)

  checked : {m : List (Block H)} {n : List (Block K)} (ls : List CType) → SameMemory R m n → (to from : Address) (x y : Result (Unit {0}) TrapKind) → copyable m to from ls ≡ x → SameAnswer (λ _ _. Unit {0}) x y
      → SameAnswer (SameMemory R) (then x (λ _. Ok (copied (length ls) m to from))) (then y (λ _. Ok (copied (length ls) n to from)))
  checked {m} ls s to from (Ok u) (Ok v) e (answers p) = let g = then_ok (loadable m from ls) (all_storable m to ls) e in answers (copied_same ls s to from g.0 g.1)
  checked ls s to from (Err t) (Err o) e traps = traps
  checked ls s to from (Ok u) (Err o) e p = elim p [ ]
  checked ls s to from (Err t) (Ok v) e p = elim p [ ]

  -- a copy answers alike, and leaves the memories alike
  pub copy_same : {m : List (Block H)} {n : List (Block K)} → SameMemory R m n → (to from : Address) (ls : List CType) → SameAnswer (SameMemory R) (copy m to from ls) (copy n to from ls)
  copy_same {m} {n} s to from ls = checked ls s to from (copyable m to from ls) (copyable n to from ls) refl (copyable_same s to from ls)
