-- Writes that a condition holds back.
use Rattle.std.proofs.Common.{ℕ, zero, suc, ◌≡◌, refl, sym, ap, ◌∙◌, ℤ, List, [], ◌∷◌, Bool, true, false, Result, Ok, Err, slice_get}
use Rattle.oc_values.specs.declared.integers.IntKind.{IntKind}
use Rattle.oc_values.specs.Kinds.{same_kind}
use Rattle.oc_cells.specs.declared.types.CType.{CType, Int as CInt}
use Rattle.oc_cells.specs.declared.memory.Address.{Address}
use Rattle.oc_cells.specs.declared.memory.Address.TheVariants.{Null, At}
use Rattle.oc_cells.specs.declared.memory.CellValue.{CellValue}
use Rattle.oc_cells.specs.declared.memory.CellValue.TheVariants.{Int as CellInt, Pointer as CellPointer, Hidden as CellHidden}
use Rattle.oc_cells.specs.declared.memory.Cell.{Cell}
use Rattle.oc_cells.specs.declared.memory.Block.{Block}
use Rattle.oc_cells.specs.declared.memory.Block.TheVariants.{Live, Gone}
use Rattle.oc_cells.specs.declared.trap.TrapKind.{TrapKind}
use Rattle.oc_cells.specs.Types.{fits, same, kind_of}
use Rattle.oc_cells.specs.Memory.{then, within, only, cell, load, store, update, written, put}
use Rattle.oc_source.specs.declared.spot.Spot.{Spot}
use Rattle.oc_walk.specs.declared.run.Value.{Value}
use Rattle.oc_walk.specs.declared.run.Value.TheVariants.{Int, Pointer, Hidden, Nothing}
use Rattle.oc_walk.specs.Walking.{Act, after, bind, pure, choose, answered, odd, loads, keeps}
use Rattle.oc_walk.specs.Cells.{writes, writes_hidden, puts, picks}
use Rattle.oc_meanings.specs.Clear.{clear}
use Rattle.run_laws.specs.Laws.{ClearMem, end_of, HeldBackWritesLeave, PublicWritesAreMade, BothPartsRun}

-- what an answer has, where it is a cell
abbrev inside : {A : Type 0} → A → Result A TrapKind → A
inside d (Ok a) = a
inside d (Err t) = d

ok_is : {A : Type 0} {x y : A} → ◌≡◌ {A = Result A TrapKind} (Ok x) (Ok y) → x ≡ y
ok_is {A} {x} {y} q = ap (inside x) q

module _ {H : Type 0} where
  put_in_cells : (v : CellValue H) (cs : List (Cell H)) (i : ℕ) (c : Cell H) → within (slice_get cs i) ≡ Ok c → v ≡ c.value → update (written v) cs i ≡ cs
  put_in_cells v [] i c e h = refl
  put_in_cells v (d ∷ cs) zero c e h = ap (λ z. z ∷ cs) (same_cell d c v e h)
    where
      same_cell : (d c : Cell H) (v : CellValue H) → ◌≡◌ {A = Result (Cell H) TrapKind} (Ok d) (Ok c) → v ≡ c.value → written v d ≡ d
      same_cell d c v e h = ap (λ z. written z d) (h ∙ ap (λ q. q.value) (sym (ok_is e)))
  put_in_cells v (d ∷ cs) (suc i) c e h = ap (λ z. d ∷ z) (put_in_cells v cs i c e h)

  put_at : (v : CellValue H) (bs : List (Block H)) (b i : ℕ) (c : Cell H) → cell bs (At b i) ≡ Ok c → v ≡ c.value → put bs (At b i) v ≡ bs
  put_at v [] b i c e h = refl
  put_at v (Live a cs ∷ bs) zero i c e h = ap (λ z. Live a z ∷ bs) (put_in_cells v cs i c e h)
  put_at v (Gone ∷ bs) zero i c e h = refl
  put_at v (d ∷ bs) (suc b) i c e h = ap (λ z. d ∷ z) (put_at v bs b i c e h)

  -- what a cell holds, put there once more, changes nothing
  pub put_again : (v : CellValue H) (bs : List (Block H)) (a : Address) (c : Cell H) → cell bs a ≡ Ok c → v ≡ c.value → put bs a v ≡ bs
  put_again v bs Null c e h = refl
  put_again v bs (At b i) c e h = put_at v bs b i c e h

  -- a store of what was loaded leaves the blocks as they are, where it ends
  stored_again : (bs : List (Block H)) (a : Address) (u : CType) (r : Result (Cell H) TrapKind) (v : CellValue H) (cs : List (Block H))
      → cell bs a ≡ r → then r (λ c. only (fits u c.leaf) c.value) ≡ Ok v
      → then (then r (λ c. only (same true u c.leaf) (tt {0}))) (λ _. Ok (put bs a v)) ≡ Ok cs → cs ≡ bs
  stored_again bs a u (Err t) v cs e h k = cc
  stored_again bs a u (Ok c) v cs e h k = by_test (fits u c.leaf) (same true u c.leaf) h k
    where
      by_test : (f g : Bool) → only f c.value ≡ Ok v → then (only g (tt {0})) (λ _. Ok (put bs a v)) ≡ Ok cs → cs ≡ bs
      by_test false g h k = cc
      by_test true false h k = cc
      by_test true true h k = sym (ok_is k) ∙ put_again v bs a c e (sym (ok_is h))

module _ (X Y : List ℤ) (p : Spot) (k : IntKind) (a : Address) where
  abbrev valued : ℤ → Act ClearMem (Value ℤ)
  valued old = pure (Hidden k old)

  kept : (h : ℤ) (m : ClearMem) (old : ℤ) (r : Result (List (Block ℤ)) TrapKind) → store m.blocks a (CInt k true) (CellHidden old) ≡ r
      → load m.blocks a (CInt k true) ≡ Ok (CellHidden old)
      → end_of (after (after (answered p r m) keeps) (λ (_ : Unit {0}). valued old)) ≡ m
  kept h m old (Err t) e l = refl
  kept h m old (Ok cs) e l = ap (λ z. record m { blocks = z }) (stored_again m.blocks a (CInt k true) (cell m.blocks a) (CellHidden old) cs refl l e)

  picked : (h : ℤ) (m : ClearMem) (r : Result (CellValue ℤ) TrapKind) → load m.blocks a (CInt k true) ≡ r
      → end_of (after (answered p r m) (picks (clear X Y) p false k a h)) ≡ m
  picked h m (Err t) e = refl
  picked h m (Ok (CellHidden old)) e = kept h m old (store m.blocks a (CInt k true) (CellHidden old)) refl e
  picked h m (Ok (CellInt n)) e = refl
  picked h m (Ok (CellPointer b)) e = refl

  chosen : (b : Bool) (h : ℤ) (m : ClearMem) → end_of (choose b (bind (loads p a (CInt k true)) (picks (clear X Y) p false k a h)) (odd p) m) ≡ m
  chosen true h m = picked h m (load m.blocks a (CInt k true)) refl
  chosen false h m = refl

  pub leaves : (v : Value ℤ) (m : ClearMem) → end_of (writes (clear X Y) p false (CInt k true) a v m) ≡ m
  leaves (Hidden l h) m = chosen (same_kind k l) h m
  leaves (Int l n) m = refl
  leaves (Pointer b) m = refl
  leaves Nothing m = refl

pub held_back : HeldBackWritesLeave
held_back X Y p k a v m = leaves X Y p k a v m

pub public : PublicWritesAreMade
public X Y p e u a v m h = ap (λ b. choose b (writes_hidden (clear X Y) p e (kind_of u) a v) (puts (clear X Y) p u a v) m) h

pub both_run : BothPartsRun
both_run X Y e c first second s = refl
