-- A struct that is copied at once is copied as cell by cell.
use Rattle.std.proofs.Common.{ℕ, ◌≡◌, ◌≤◌, ℤ, List, [], length, Bool, true, Result, Ok, Err, refl, sym, ap, subst, ◌∙◌, arith, IsTrue}
use Rattle.oc_cells.specs.declared.types.CType.{CType}
use Rattle.oc_cells.specs.declared.memory.Address.{Address}
use Rattle.oc_cells.specs.declared.memory.Address.TheVariants.{Null, At}
use Rattle.oc_cells.specs.declared.trap.TrapKind.{TrapKind}
use Rattle.oc_cells.specs.Layout.{leaves, has_size}
use Rattle.oc_cells.specs.Memory.{copy, AllHaveForm}
use Rattle.block_memory.specs.Content.{Changes}
use Rattle.oc_source.specs.declared.spot.Spot.{Spot}
use Rattle.oc_walk.specs.declared.run.Value.{Value}
use Rattle.oc_walk.specs.declared.run.Value.TheVariants.{Pointer}
use Rattle.oc_walk.specs.Walking.{Res, Go, Stop, Act, after, bind, still, stilled, answered, keeps}
use Rattle.oc_walk.specs.Cells.{starts_copy, copies_all}
use Rattle.oc_walk.specs.Expressions.{copies}
use Rattle.run_laws.specs.Laws.{IsNear}
use Rattle.run_laws.proofs.Copying as laws
use Rattle.clear_actions.specs.Acting.{ClearMem, ClearState, Gives, Does, Moves, bare, halt_of, mem_of, state_of, struct_copies}
use Rattle.clear_actions.specs.declared.machine.Fault.{Fault}
use Rattle.clear_actions.specs.declared.machine.Fault.TheVariants.{Halted, NoMemory}
use Rattle.clear_actions.specs.declared.machine.Halt.TheVariants as halt
use Rattle.clear_actions.specs.declared.machine.Store.{Store}
use Rattle.clear_actions.specs.declared.machine.Machine.{Machine}

-- fewer cells are near too
nearer : (n : ℕ) (a : Address) → n ≤ 65536 → IsNear 65536 a → IsNear n a
nearer n Null h l = tt
nearer n (At b i) h l = omega (arith, h, l)

-- a memory's answer as the code's, with its trap at this spot
abbrev pub told : Result (Unit {0}) TrapKind → Spot → Result (Unit {0}) Fault
told (Ok u) p = Ok tt
told (Err kind) p = Err (Halted (halt.Trap kind p))

-- what memory's copy answers, as the action that it is
copies_so : (p : Spot) (ls : List CType) (to from : Address) (old new : Store) (r : Result (Unit {0}) TrapKind) (f : Result (Unit {0}) Fault)
    → Changes (copy old.blocks.blocks to from ls) r old.blocks new.blocks → new ≡ record old { blocks = new.blocks }
    → f ≡ told r p → Does (bind (λ n. answered p (copy n.blocks to from ls) n) keeps (mem_of old)) f old new
copies_so p ls to from old new (Ok u) f (h, g) e q = subst (λ x. Does (bind (λ n. answered p (copy n.blocks to from ls) n) keeps (mem_of old)) x old new) (sym q)
    (ap (λ r. after (answered p r (mem_of old)) keeps) h ∙ ap (λ s. Go tt (mem_of s)) (sym e), (ap (λ b. b.limit) g, ap (λ b. b.structs) g))
copies_so p ls to from old new (Err kind) f (h, g) e q = subst (λ x. Does (bind (λ n. answered p (copy n.blocks to from ls) n) keeps (mem_of old)) x old new) (sym q)
    (ap (λ r. after (answered p r (mem_of old)) keeps) h ∙ ap (λ b. Stop (halt_of (halt.Trap kind p)) (mem_of (record old { blocks = b }))) (sym g) ∙ ap (λ s. Stop (halt_of (halt.Trap kind p)) (mem_of s)) (sym e), (ap (λ b. b.limit) g, ap (λ b. b.structs) g))

-- the law on copies, where the code has checked what it wants
pub at_once : (p : Spot) (t : CType) (to from : Address) (old new : Store) (r : Result (Unit {0}) TrapKind) (f : Result (Unit {0}) Fault)
    → IsTrue (has_size (leaves old.blocks.structs t)) → length (leaves old.blocks.structs t) ≤ 65536 → IsNear 65536 to × IsNear 65536 from → AllHaveForm old.blocks.blocks
    → Changes (copy old.blocks.blocks to from (leaves old.blocks.structs t)) r old.blocks new.blocks → new ≡ record old { blocks = new.blocks } → f ≡ told r p
    → Does (struct_copies p true (leaves old.blocks.structs t) to (Pointer from) (mem_of old)) f old new
at_once p t to from old new r f s l n k d e q =
    subst (λ m. Does m f old new)
    (sym (laws.copies [] [] p (leaves old.blocks.structs t) to from (mem_of old) s (nearer _ to l n.0) (nearer _ from l n.1) k))
    (copies_so p (leaves old.blocks.structs t) to from old new r f d e q)

still_after : {A B : Type 0} (q : Res ClearMem A) (k : A → Act ClearMem B) (s : ClearState) → after (stilled s q) (λ a. still (k a)) ≡ stilled s (after q k)
still_after (Go a m) k s = again (k a m)
  where
    again : {B : Type 0} (q : Res ClearMem B) → stilled (record s { mem = m }) q ≡ stilled s q
    again (Go b n) = refl
    again (Stop h n) = refl
still_after (Stop h m) k s = refl

gives_still : {T : Type 0} (q : Res ClearMem T) (r : Result T Fault) (m : Machine) (s : Store) → Gives q r (mem_of s) → Gives (stilled (state_of m) q) r (state_of (record m { store = s }))
gives_still q (Ok a) m s d = ap (λ z. stilled (state_of m) z) d
gives_still q (Err (Halted h)) m s d = ap (λ z. stilled (state_of m) z) d
gives_still q (Err NoMemory) m s d = tt

-- a copy in the store is one in the machine
pub moves_so : (p : Spot) (e : Bool) (t : CType) (to : Address) (v : Value ℤ) (m : Machine) (s : Store) (r : Result (Unit {0}) Fault)
    → Does (struct_copies p e (leaves m.store.blocks.structs t) to v (mem_of m.store)) r m.store s
    → Moves (copies bare p e (leaves m.store.blocks.structs t) to v) r m (record m { store = s })
moves_so p e t to v m s r (d, k) = (
  subst (λ q. Gives q r (state_of (record m { store = s })))
      (sym (still_after (starts_copy bare p (leaves m.store.blocks.structs t) to v (mem_of m.store)) (λ b. copies_all bare p e (leaves m.store.blocks.structs t) to b) (state_of m)))
      (gives_still (struct_copies p e (leaves m.store.blocks.structs t) to v (mem_of m.store)) r m s d),
  k,
  omega arith,
)
