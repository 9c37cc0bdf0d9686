-- A new block, as the code and the walk make it.
use Rattle.std.proofs.Common.{ℕ, ℤ, pos, ◌≡◌, refl, sym, subst, List, Result, Err, Bool}
use Rattle.oc_cells.specs.declared.types.CType.{CType}
use Rattle.oc_cells.specs.declared.memory.Block.{Block}
use Rattle.oc_cells.specs.declared.trap.TrapKind.{TrapKind}
use Rattle.oc_cells.specs.Memory.{make_copies}
use Rattle.oc_source.specs.declared.spot.Spot.{Spot}
use Rattle.block_memory.specs.Content.{Memory, MakesBy}
use Rattle.block_memory.specs.declared.blocks.MakeRefusal.{MakeRefusal}
use Rattle.block_memory.specs.declared.blocks.MakeRefusal.TheVariants.{Trap}
use Rattle.oc_walk.specs.Walking.{live_limit, makes}
use Rattle.oc_walk.specs.Cells.{nought}
use Rattle.clear_actions.specs.Acting.{bare, mem_of, DoesWithin}
use Rattle.clear_actions.specs.declared.machine.Fault.{Fault}
use Rattle.clear_actions.specs.declared.machine.Fault.TheVariants.{Halted}
use Rattle.clear_actions.specs.declared.machine.Halt.TheVariants as halt
use Rattle.clear_actions.specs.declared.machine.Store.{Store}

module _ (s : Store) (new : Memory ℤ) (p : Spot) (allocated : Bool) (ls : List CType) (n : ℤ) where
  -- the store with these blocks
  abbrev with_new : Store
  with_new = record { blocks = new; dealt = s.dealt; shown = s.shown }

  -- what is made where so many cells may live
  abbrev made : ℤ → ℕ → Result (List (Block ℤ)) TrapKind
  made n limit = make_copies (λ k. pos 0) limit allocated s.blocks.blocks ls n

  at_trap : (kind : TrapKind) → new ≡ s.blocks → (s.blocks.limit ≡ live_limit → made n live_limit ≡ Err kind) → DoesWithin (makes (nought bare) p allocated ls n (mem_of s)) (Err (Halted (halt.Trap kind p))) s with_new
  at_trap kind b a = rw b (λ l. rw (a l) refl, (refl, refl))

  -- no block is made, for a trap
  pub trapped : (kind : TrapKind) (refusal : MakeRefusal) (f : Fault) (j : ℤ) → refusal ≡ Trap kind → MakesBy (made j s.blocks.limit) (Err refusal) s.blocks new → j ≡ n → f ≡ Halted (halt.Trap kind p) → DoesWithin (makes (nought bare) p allocated ls n (mem_of s)) (Err f) s with_new
  trapped kind refusal f j e h i q =
      let both = subst (λ r. MakesBy (made j s.blocks.limit) (Err r) s.blocks new) e h in
      subst (λ f. DoesWithin (makes (nought bare) p allocated ls n (mem_of s)) (Err f) s with_new) (sym q)
      (at_trap kind both.1 (λ l. subst (λ limit. made n limit ≡ Err kind) l (subst (λ m. made m s.blocks.limit ≡ Err kind) i both.0)))
