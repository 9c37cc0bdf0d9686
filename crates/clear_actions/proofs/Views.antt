-- The definitions at each form, as the code opens it.
use Rattle.std.proofs.Common.{◌≡◌, refl, sym, subst, ℤ, List, Bool, Err}
use Rattle.oc_cells.specs.declared.types.CType.{CType, Pointer, Nothing as CNothing}
use Rattle.oc_cells.specs.declared.types.CType.TheBlock.{hidden-the_row-CType-0}
use denote.Hole.Carrier.{hidden}
use Rattle.oc_cells.specs.Types.{target}
use Rattle.oc_source.specs.declared.spot.Spot.{Spot}
use Rattle.oc_walk.specs.declared.run.Value.{Value}
use Rattle.oc_walk.specs.declared.run.Value.TheVariants.{Int, Pointer as VPointer, Hidden, Nothing}
use Rattle.oc_walk.specs.Cells.{allocates}
use Rattle.clear_actions.specs.Acting.{bare, mem_of, DoesWithin}
use Rattle.clear_actions.specs.declared.machine.Fault.{Fault}
use Rattle.clear_actions.specs.declared.machine.Fault.TheVariants.{Halted}
use Rattle.clear_actions.specs.declared.machine.Halt.TheVariants as halt
use Rattle.clear_actions.specs.declared.machine.Store.{Store}

pub target_at : (f : Bool) (t : CType) → target (Pointer f t) ≡ t
unfolding hidden-the_row-CType-0 hidden
target_at f t = refl

-- of what has no cells nothing is allocated
pub nothing_made : (p : Spot) (lss : List (List CType)) (v : Value ℤ) (s : Store) → DoesWithin (allocates bare p lss CNothing v (mem_of s)) (Err (Halted (halt.Odd p))) s s
nothing_made p lss (Int k n) s = (λ _. refl, (refl, refl))
nothing_made p lss (VPointer a) s = (λ _. refl, (refl, refl))
nothing_made p lss (Hidden k h) s = (λ _. refl, (refl, refl))
nothing_made p lss Nothing s = (λ _. refl, (refl, refl))

-- the same of a type that has none
pub none_made : (p : Spot) (t : CType) (v : Value ℤ) (s : Store) (f : Fault) → t ≡ CNothing → f ≡ Halted (halt.Odd p) → DoesWithin (allocates bare p s.blocks.structs t v (mem_of s)) (Err f) s s
none_made p t v s f h q =
    subst (λ u. DoesWithin (allocates bare p s.blocks.structs u v (mem_of s)) (Err f) s s) (sym h)
    (subst (λ g. DoesWithin (allocates bare p s.blocks.structs CNothing v (mem_of s)) (Err g) s s) (sym q) (nothing_made p s.blocks.structs v s))
