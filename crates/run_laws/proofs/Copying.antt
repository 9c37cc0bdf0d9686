-- A copy under no condition, cell by cell, is memory's own.
use Rattle.std.proofs.Common.{ℕ, suc, ◌≡◌, ◌≤◌, ◌+◌, refl, sym, ap, ◌∙◌, subst, ℤ, List, [], ◌∷◌, length, Bool, true, false, Result, Ok, Err, arith}
use Rattle.std.specs.Prelude.{◌&&◌, ◌||◌, nat_le, if◌then◌else◌}
use Rattle.oc_values.specs.declared.integers.IntKind.{IntKind}
use Rattle.oc_values.specs.declared.integers.IntKind.TheVariants.{Bool as KBool, I8, U8, I16, U16, I32, U32, I64, U64}
use Rattle.oc_values.specs.Integers.{IsOfKind}
use Rattle.oc_values.specs.Kinds.{same_kind}
use Rattle.oc_cells.specs.declared.types.CType.{CType, Int as CInt, Pointer', Array', Struct, Nothing as CNothing}
use Rattle.oc_cells.specs.declared.memory.Address.{Address}
use Rattle.oc_cells.specs.declared.memory.Address.TheVariants.{Null, At}
use Rattle.oc_cells.specs.declared.memory.CellValue.{CellValue}
use Rattle.oc_cells.specs.declared.memory.CellValue.TheVariants.{Int as CellInt, Pointer as CellPointer, Hidden as CellHidden}
use Rattle.oc_cells.specs.declared.memory.Cell.{Cell}
use Rattle.oc_cells.specs.declared.memory.Block.{Block}
use Rattle.oc_cells.specs.declared.trap.TrapKind.{TrapKind}
use Rattle.oc_cells.specs.Types.{fits, same, is_frozen_pointer}
use Rattle.oc_cells.specs.Memory.{then as or_trap, only, cell, load, loadable, storable, all_storable, copyable, store, put, take_over, copied, next, HasForm, AllHaveForm}
use Rattle.oc_cells.proofs.Equal.{same_is}
use Rattle.oc_cells.proofs.Formed.{no_answer, only_then, then_ok, form_fits, form_put, cell_form, AnswerForm}
use Rattle.oc_cells.proofs.Copied.{loadable_put, storable_put}
use Rattle.oc_source.specs.declared.spot.Spot.{Spot}
use Rattle.oc_walk.specs.declared.run.Value.{Value}
use Rattle.oc_walk.specs.declared.run.Value.TheVariants.{Int, Pointer, Hidden}
use Rattle.oc_walk.specs.Walking.{Res, Go, Act, after, bind, pure, choose, answered, odd, loads, stores, keeps, ahead}
use Rattle.oc_walk.specs.Cells.{valued, is_of_kind, picks, writes, checks_copy, addressed, copies_cell, copies_all}
use Rattle.oc_meanings.specs.Clear.{clear}
use Rattle.run_laws.specs.Laws.{ClearMem, IsNear, CopiesAreMemorys}

-- a kind is the same as itself
kind_itself : (k : IntKind) → same_kind k k ≡ true
kind_itself KBool = refl
kind_itself I8 = refl
kind_itself U8 = refl
kind_itself I16 = refl
kind_itself U16 = refl
kind_itself I32 = refl
kind_itself U32 = refl
kind_itself I64 = refl
kind_itself U64 = refl

both_hold : (a b : Bool) → a ≡ true → b ≡ true → (a && b) ≡ true
both_hold a b h k = ap (λ t. t && b) h ∙ k

in_range : (n : ℕ) → n ≤ 4294967295 → nat_le n 4294967295 ≡ true
in_range n h = grind arith

-- the next cell, where it has an offset
near_next : (n : ℕ) (a : Address) → IsNear (suc n) a → ahead 1 a ≡ next a
near_next n Null h = refl
near_next n (At b i) h = ap (λ t. At b (if t then i + 1 else 4294967295)) (in_range (i + 1) (omega (arith, h)))

near_rest : (n : ℕ) (a : Address) → IsNear (suc n) a → IsNear n (next a)
near_rest n Null h = tt
near_rest n (At b i) h = omega (arith, h)

module _ (X Y : List ℤ) (p : Spot) where
  -- the memory with these blocks
  abbrev with_blocks : ClearMem → List (Block ℤ) → ClearMem
  with_blocks m bs = record m { blocks = bs }

  module _ (m : ClearMem) (to from : Address) (k : Act ClearMem (Unit {0})) where
    -- one cell of a copy, and what follows it
    abbrev cell_then : CType → Res ClearMem (Unit {0})
    cell_then l = bind (copies_cell (clear X Y) p true l to from) (λ _. k) m

    -- the same, where the read answers so
    abbrev read_then : CType → Result (CellValue ℤ) TrapKind → Res ClearMem (Unit {0})
    read_then l r = after (after (after (answered p r m) (valued (clear X Y) p l)) (λ v. writes (clear X Y) p true l to v)) (λ _. k)

    public_cell : (j : IntKind) (n : ℤ) → load m.blocks from (CInt j false) ≡ Ok (CellInt n) → store m.blocks to (CInt j false) (CellInt n) ≡ Ok (put m.blocks to (CellInt n)) → IsOfKind j n
        → cell_then (CInt j false) ≡ k (with_blocks m (put m.blocks to (CellInt n)))
    public_cell j n e s h =
        ap (λ r. read_then (CInt j false) r) e
        ∙ ap (λ b. after (choose b (bind (stores p to (CInt j false) (CellInt n)) (λ _. pure {A = Value ℤ} (Int j n))) (odd p) m) (λ _. k)) (both_hold (same_kind j j) (is_of_kind j n) (kind_itself j) h)
        ∙ ap (λ r. after (after (after (answered p r m) keeps) (λ _. pure {A = Value ℤ} (Int j n))) (λ _. k)) s

    pointer_cell : (l : CType) (a : Address) → writes (clear X Y) p true l to (Pointer a) ≡ bind (stores p to l (CellPointer a)) (λ _. pure {A = Value ℤ} (Pointer a)) → ((v : CellValue ℤ) → v ≡ CellPointer a → valued (clear X Y) p l v ≡ pure {A = Value ℤ} (Pointer a))
        → load m.blocks from l ≡ Ok (CellPointer a) → store m.blocks to l (CellPointer a) ≡ Ok (put m.blocks to (CellPointer a))
        → cell_then l ≡ k (with_blocks m (put m.blocks to (CellPointer a)))
    pointer_cell l a w u e s =
        ap (λ r. read_then l r) e
        ∙ ap (λ f. after (after (f m) (λ v. writes (clear X Y) p true l to v)) (λ _. k)) (u (CellPointer a) refl)
        ∙ ap (λ f. after (f m) (λ _. k)) w
        ∙ ap (λ r. after (after (after (answered p r m) keeps) (λ _. pure {A = Value ℤ} (Pointer a))) (λ _. k)) s

    hidden_cell : (j : IntKind) (h old : ℤ) → load m.blocks from (CInt j true) ≡ Ok (CellHidden h) → load m.blocks to (CInt j true) ≡ Ok (CellHidden old) → store m.blocks to (CInt j true) (CellHidden h) ≡ Ok (put m.blocks to (CellHidden h))
        → cell_then (CInt j true) ≡ k (with_blocks m (put m.blocks to (CellHidden h)))
    hidden_cell j h old e f s =
        ap (λ r. read_then (CInt j true) r) e
        ∙ ap (λ b. after (choose b (bind (loads p to (CInt j true)) (picks (clear X Y) p true j to h)) (odd p) m) (λ _. k)) (kind_itself j)
        ∙ ap (λ r. after (after (answered p r m) (picks (clear X Y) p true j to h)) (λ _. k)) f
        ∙ ap (λ r. after (after (after (answered p r m) keeps) (λ _. pure {A = Value ℤ} (Hidden j h))) (λ _. k)) s

    -- one cell of any leaf
    one : (l : CType) (c d : CellValue ℤ) → load m.blocks from l ≡ Ok c → load m.blocks to l ≡ Ok d → ((v : CellValue ℤ) → store m.blocks to l v ≡ Ok (put m.blocks to v)) → HasForm l c → HasForm l d
        → cell_then l ≡ k (with_blocks m (put m.blocks to c))
    one (CInt j false) (CellInt n) d e f s h g = public_cell j n e (s (CellInt n)) h
    one (CInt j false) (CellPointer a) d e f s h g = absurd h
    one (CInt j false) (CellHidden n) d e f s h g = absurd h
    one (CInt j true) (CellHidden n) (CellHidden old) e f s h g = hidden_cell j n old e f (s (CellHidden n))
    one (CInt j true) (CellHidden n) (CellInt old) e f s h g = absurd g
    one (CInt j true) (CellHidden n) (CellPointer old) e f s h g = absurd g
    one (CInt j true) (CellInt n) d e f s h g = absurd h
    one (CInt j true) (CellPointer n) d e f s h g = absurd h
    one (Pointer' x u t) (CellPointer a) d e f s h g = pointer_cell (Pointer' x u t) a refl (λ v q. ap (valued (clear X Y) p (Pointer' x u t)) q) e (s (CellPointer a))
    one (Pointer' x u t) (CellInt n) d e f s h g = absurd h
    one (Pointer' x u t) (CellHidden n) d e f s h g = absurd h
    one (Array' n u t) c d e f s h g = absurd h
    one (Struct n) c d e f s h g = absurd h
    one CNothing c d e f s h g = absurd h

  -- a cell that is read, by what stands there
  read_is : (r : Result (Cell ℤ) TrapKind) (l : CType) (q : Result (Unit {0}) TrapKind) → AnswerForm r → or_trap (or_trap r (λ c. only (fits l c.leaf) c.value)) (λ _. q) ≡ Ok (tt {0})
      → (c : CellValue ℤ) × (or_trap r (λ c. only (fits l c.leaf) c.value) ≡ Ok c) × HasForm l c × (q ≡ Ok (tt {0})) × ((bs : List (Block ℤ)) (to : Address) → take_over bs to r ≡ put bs to c)
  read_is (Ok c) l q a e =
      let h = only_then (fits l c.leaf) c.value q e in
      (c.value, ap (λ b. only b c.value) h.0, form_fits l c.leaf h.0 c.value a, h.1, λ bs to. refl)
  read_is (Err t) l q a e = absurd (no_answer e)

  -- a cell that is written with a leaf is read with it
  written_is : (r : Result (Cell ℤ) TrapKind) (l : CType) → AnswerForm r → or_trap r (λ c. only (same true l c.leaf) (tt {0})) ≡ Ok (tt {0}) → (d : CellValue ℤ) × (or_trap r (λ c. only (fits l c.leaf) c.value) ≡ Ok d) × HasForm l d
  written_is (Ok d) l a e =
      let h = only_then (same true l d.leaf) (tt {0}) (Ok (tt {0})) (ap (λ r. or_trap r (λ _. Ok (tt {0}))) e) in
      (d.value, ap (λ b. only (b || (is_frozen_pointer l && same false l d.leaf)) d.value) h.0, subst (λ x. HasForm x d.value) (sym (same_is l d.leaf h.0)) a)
  written_is (Err t) l a e = absurd (no_answer e)

  -- all cells, where all are read and written
  all : (ls : List CType) (m : ClearMem) (to from : Address) → IsNear (length ls) to → IsNear (length ls) from → AllHaveForm m.blocks
      → loadable m.blocks from ls ≡ Ok (tt {0}) → all_storable m.blocks to ls ≡ Ok (tt {0})
      → copies_all (clear X Y) p true ls to from m ≡ Go (tt {0}) (with_blocks m (copied (length ls) m.blocks to from))
  all [] m to from a b h e f = refl
  all (l ∷ ls) m to from a b h e f =
      let c = read_is (cell m.blocks from) l (loadable m.blocks (next from) ls) (cell_form m.blocks from h) e in
      let g = then_ok (storable m.blocks to l) (all_storable m.blocks (next to) ls) f in
      let d = written_is (cell m.blocks to) l (cell_form m.blocks to h) g.0 in
      one m to from (copies_all (clear X Y) p true ls (ahead 1 to) (ahead 1 from)) l c.0 d.0 c.1 d.1 (λ v. ap (λ r. or_trap r (λ _. Ok (put m.blocks to v))) g.0) c.2 d.2
      ∙ ap (λ t. copies_all (clear X Y) p true ls t (ahead 1 from) (with_blocks m (put m.blocks to c.0))) (near_next (length ls) to a)
      ∙ ap (λ t. copies_all (clear X Y) p true ls (next to) t (with_blocks m (put m.blocks to c.0))) (near_next (length ls) from b)
      ∙ all ls (with_blocks m (put m.blocks to c.0)) (next to) (next from) (near_rest (length ls) to a) (near_rest (length ls) from b)
      (form_put l c.0 m.blocks to g.0 c.2 h)
      (loadable_put c.0 m.blocks to (next from) ls ∙ c.3) (storable_put c.0 m.blocks to (next to) ls ∙ g.1)
      ∙ ap (λ bs. Go (tt {0}) (with_blocks m (copied (length ls) bs (next to) (next from)))) (sym (c.4 m.blocks to))

  -- after the checks
  checked : (ls : List CType) (m : ClearMem) (to from : Address) (r : Result (Unit {0}) TrapKind) → IsNear (length ls) to → IsNear (length ls) from → AllHaveForm m.blocks → copyable m.blocks to from ls ≡ r
      → after (after (answered p r m) (λ _. pure from)) (λ b. copies_all (clear X Y) p true ls to b) ≡ after (answered p (or_trap r (λ _. Ok (copied (length ls) m.blocks to from))) m) keeps
  checked ls m to from (Err t) a b h e = refl
  checked ls m to from (Ok u) a b h e =
      let g = then_ok (loadable m.blocks from ls) (all_storable m.blocks to ls) e in
      all ls m to from a b h g.0 g.1

pub copies : CopiesAreMemorys
copies X Y p ls to from m s a b h =
    ap (λ t. after (choose t (bind (addressed (clear X Y) p (Pointer from)) (λ b. bind (checks_copy (clear X Y) p to b ls) (λ _. pure b))) (odd p) m) (λ b. copies_all (clear X Y) p true ls to b)) s
    ∙ checked X Y p ls m to from (copyable m.blocks to from ls) a b h refl
