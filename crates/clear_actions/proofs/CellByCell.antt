-- A copy cell by cell, one cell more at a time.
use Rattle.std.proofs.Common.{ℕ, zero, suc, ◌+◌, ◌≤◌, ◌≡◌, List, [], ◌∷◌, length, drop, slice_get, Some, Bool, Result, Ok, Err, add-one, sym, ap, subst, ◌∙◌}
use Rattle.std.proofs.lemmas.List.{drop_all}
use Rattle.oc_cells.specs.declared.types.CType.{CType}
use Rattle.oc_cells.specs.declared.memory.Address.{Address}
use Rattle.oc_cells.specs.Layout.{leaves}
use Rattle.oc_source.specs.declared.spot.Spot.{Spot}
use Rattle.oc_walk.specs.Walking.{Res, Go, Stop, Halt, Act, after, bind, pure, ahead}
use Rattle.oc_walk.specs.Cells.{copies_all, copies_cell}
use Rattle.clear_actions.specs.Acting.{ClearMem, SameBlocks, bare, halt_of, mem_of, copies_place, Does}
use Rattle.clear_actions.specs.declared.machine.Fault.{Fault}
use Rattle.clear_actions.specs.declared.machine.Fault.TheVariants.{Halted, NoMemory}
use Rattle.clear_actions.specs.declared.machine.Store.{Store}

-- what follows a part whose result doesn't matter
after_go : {A B : Type 0} (r : Res ClearMem A) (m : ClearMem) (k : Act ClearMem B) → after r (λ _. pure (tt {0})) ≡ Go (tt {0}) m → after r (λ _. k) ≡ k m
after_go (Go a t) m k e = let same : t ≡ m = cc in ap k same
after_go (Stop h t) m k e = cc

after_stop : {A B : Type 0} (r : Res ClearMem A) (h : Halt) (m : ClearMem) (k : Act ClearMem B) → after r (λ _. pure (tt {0})) ≡ Stop h m → after r (λ _. k) ≡ Stop h m
after_stop (Go a t) h m k e = cc
after_stop (Stop g t) h m k e = cc

module _ (p : Spot) (e : Bool) where
  goes_after : (ls : List CType) (i : ℕ) (to from : Address) (m new : ClearMem) → copies_place p e (slice_get ls i) to from m ≡ Go (tt {0}) new → copies_all bare p e (drop i ls) to from m ≡ copies_all bare p e (drop (suc i) ls) (ahead 1 to) (ahead 1 from) new
  goes_after [] zero to from m new h = h
  goes_after [] (suc i) to from m new h = h
  goes_after (l ∷ ls) zero to from m new h = after_go _ new (copies_all bare p e ls (ahead 1 to) (ahead 1 from)) h
  goes_after (l ∷ ls) (suc i) to from m new h = goes_after ls i to from m new h

  -- a cell was copied, and those after it are left
  pub goes_on : (ls : List CType) (i : ℕ) (to from : Address) (m new : ClearMem) → copies_place p e (slice_get ls i) to from m ≡ Go (tt {0}) new → copies_all bare p e (drop i ls) to from m ≡ copies_all bare p e (drop (i + 1) ls) (ahead 1 to) (ahead 1 from) new
  goes_on ls i to from m new h = goes_after ls i to from m new h ∙ ap (λ j. copies_all bare p e (drop j ls) (ahead 1 to) (ahead 1 from) new) (sym (add-one i))

  -- a cell that isn't copied ends the copy
  pub stops : (ls : List CType) (i : ℕ) (to from : Address) (h : Halt) (m new : ClearMem) → copies_place p e (slice_get ls i) to from m ≡ Stop h new → copies_all bare p e (drop i ls) to from m ≡ Stop h new
  stops [] i to from h m new s = cc
  stops (l ∷ ls) zero to from h m new s = after_stop _ h new (copies_all bare p e ls (ahead 1 to) (ahead 1 from)) s
  stops (l ∷ ls) (suc i) to from h m new s = stops ls i to from h m new s

  -- all cells were copied
  pub ends : (ls : List CType) (i : ℕ) (to from : Address) (m : ClearMem) → length ls ≤ i → copies_all bare p e (drop i ls) to from m ≡ Go (tt {0}) m
  ends ls i to from m h = ap (λ xs. copies_all bare p e xs to from m) (drop_all i ls h)

  -- the cell of a leaf that is there
  pub at_leaf : (ls : List CType) (i : ℕ) (to from : Address) (l k : CType) (old new : Store) (r : Result (Unit {0}) Fault) → Some k ≡ slice_get ls i → l ≡ k → Does (bind (copies_cell bare p e l to from) (λ _. pure (tt {0})) (mem_of old)) r old new → Does (copies_place p e (slice_get ls i) to from (mem_of old)) r old new
  at_leaf ls i to from l k old new r h q d = subst (λ o. Does (copies_place p e o to from (mem_of old)) r old new) h (subst (λ x. Does (copies_place p e (Some x) to from (mem_of old)) r old new) q d)

module _ (p : Spot) (e : Bool) (t : CType) (first : Store) (to from : Address) where
  -- the cells of the type, as they were counted first
  abbrev ls : List CType
  ls = leaves first.blocks.structs t

  -- after some cells, those from this number on are left
  abbrev pub Left : Store → ℕ → Address → Address → Type 0
  Left cur i a b = (copies_all bare p e ls to from (mem_of first) ≡ copies_all bare p e (drop i ls) a b (mem_of cur)) × SameBlocks first cur

  pub left_more : (cur new : Store) (i : ℕ) (a b c d : Address) → Left cur i a b → Does (copies_place p e (slice_get (leaves cur.blocks.structs t) i) a b (mem_of cur)) (Ok (tt {0})) cur new → c ≡ ahead 1 a → d ≡ ahead 1 b → Left new (i + 1) c d
  left_more cur new i a b c d (h, k) (g, l) x y =
      let here : copies_place p e (slice_get ls i) a b (mem_of cur) ≡ Go (tt {0}) (mem_of new) = subst (λ lss. copies_place p e (slice_get (leaves lss t) i) a b (mem_of cur) ≡ Go (tt {0}) (mem_of new)) k.1 g in
      rw (x, y) (h ∙ goes_on p e ls i a b (mem_of cur) (mem_of new) here, (l.0 ∙ k.0, l.1 ∙ k.1))

  left_fault : (cur new : Store) (i : ℕ) (a b : Address) (f : Fault) → Left cur i a b → Does (copies_place p e (slice_get (leaves cur.blocks.structs t) i) a b (mem_of cur)) (Err f) cur new → Does (copies_all bare p e ls to from (mem_of first)) (Err f) first new
  left_fault cur new i a b (Halted w) (h, k) (g, l) =
      let here : copies_place p e (slice_get ls i) a b (mem_of cur) ≡ Stop (halt_of w) (mem_of new) = subst (λ lss. copies_place p e (slice_get (leaves lss t) i) a b (mem_of cur) ≡ Stop (halt_of w) (mem_of new)) k.1 g in
      (h ∙ stops p e ls i a b (halt_of w) (mem_of cur) (mem_of new) here, (l.0 ∙ k.0, l.1 ∙ k.1))
  left_fault cur new i a b NoMemory (h, k) (g, l) = (tt, (l.0 ∙ k.0, l.1 ∙ k.1))

  pub left_stops : (cur new : Store) (i : ℕ) (a b : Address) (f : Fault) (r : Result (Unit {0}) Fault) → Left cur i a b → Does (copies_place p e (slice_get (leaves cur.blocks.structs t) i) a b (mem_of cur)) (Err f) cur new → r ≡ Err f → Does (copies_all bare p e ls to from (mem_of first)) r first new
  left_stops cur new i a b f r h g z = subst (λ x. Does (copies_all bare p e ls to from (mem_of first)) x first new) (sym z) (left_fault cur new i a b f h g)
