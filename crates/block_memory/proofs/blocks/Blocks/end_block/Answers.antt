use Rattle.std.proofs.Common.{◌≡◌, ◌+◌, ◌-◌, ◌≤◌, ℕ, ◌∙◌, ap, sym, subst, arith, refl, slice_set}
use Rattle.oc_cells.specs.declared.memory.Block.TheVariants.{Gone}
use Rattle.oc_cells.specs.Memory.{living, AllHaveForm}
use Rattle.block_memory.proofs.Living.{living_ended, set_gone}
use Rattle.oc_cells.proofs.Formed.{form_ended}
use Rattle.block_memory.proofs.blocks.Blocks.end_block.Goals as goal

enough : (live w l r : ℕ) → r + w ≡ l → live ≡ l → w ≤ live
enough live w l r e f = omega (arith, e, f)

left : (live w l r : ℕ) → r + w ≡ l → live ≡ l → live - w ≡ r
left live w l r e f = omega (arith, e, f)

lower : (live w k : ℕ) → live ≤ k → live - w ≤ k
lower live w k h = omega (arith, h)

pub overflow_sub-self : goal.overflow_sub-self
overflow_sub-self g c =
    let e = living_ended c.self.inside.blocks c.args.block c.replace-ended.result c.replace-ended.ensures.was in
    enough _ _ _ _ (ap (λ w. living (slice_set c.self.inside.blocks c.args.block Gone) + w) c.weigh.ensures ∙ e) c.self.invariant.0

pub invariant_of-self : goal.invariant_of-self
invariant_of-self g c =
    let e = living_ended c.self.inside.blocks c.args.block c.replace-ended.result c.replace-ended.ensures.was in (
      left _ _ _ _ (ap (λ w. living (slice_set c.self.inside.blocks c.args.block Gone) + w) c.weigh.ensures ∙ e) c.self.invariant.0 ∙ ap living (sym c.replace-ended.ensures.now),
      lower _ _ _ c.self.invariant.1,
      c.self.invariant.2,
      subst AllHaveForm (sym (c.replace-ended.ensures.now ∙ set_gone _ _ _ c.replace-ended.ensures.was)) (form_ended c.self.inside.blocks c.args.block c.self.invariant.3),
      c.self.invariant.4,
    )

pub returns : goal.returns
returns g c = rw (← c.self.view_is, c.replace-ended.ensures.now, set_gone _ _ _ c.replace-ended.ensures.was) refl
