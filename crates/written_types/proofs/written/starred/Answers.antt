use Rattle.std.proofs.Common.{ℕ, suc, ◌≡◌, ◌+◌, ◌≤◌, List, Bool, false, ap, ◌∙◌, arith, refl}
use Rattle.std.specs.Prelude.{◌&&◌}
use Rattle.oc_cells.specs.declared.types.CType.{CType}
use Rattle.oc_cells.specs.declared.types.CType.TheViews.{Pointer}
use Rattle.oc_cells.specs.Types.{holds_public, normal}
use Rattle.type_rules.specs.Written.{starred}
use Rattle.written_types.specs.Forms.{IsBase, marked}
use Rattle.written_types.proofs.Forms.{normal_marked}
use Rattle.written_types.proofs.written.starred.Goals as goal

begin : (ps : List Bool) (m f : Bool) (k n : ℕ) (b : CType) → IsBase b → m ≡ (holds_public ps b && f) → 0 + n ≡ k → marked m f n b ≡ normal ps false (starred f k b)
begin ps m f k n b h e q =
    let z : n ≡ k = omega (arith, q) in
    ap (λ m. marked m f n b) e ∙ normal_marked ps f n b h ∙ ap (λ n. normal ps false (starred f n b)) z

next_star : (all : CType) (m f : Bool) (i k n : ℕ) (t to new : CType) → ((n : ℕ) → i + n ≡ k → marked m f n t ≡ all) → to ≡ t → new ≡ Pointer m to → (i + 1) + n ≡ k → marked f f n new ≡ all
next_star all m f i k n t to new inv p q e =
    let z : i + suc n ≡ k = omega (arith, e) in
    ap (λ u. marked f f n u) (q ∙ ap (λ t. Pointer m t) p) ∙ inv (suc n) z

done : (all t : CType) (m f : Bool) (i k : ℕ) → ((n : ℕ) → i + n ≡ k → marked m f n t ≡ all) → i ≤ k → k ≤ i → t ≡ all
done all t m f i k inv a b = let z : i + 0 ≡ k = omega (arith, a, b) in inv 0 z

pub loop-init : goal.loop-init
loop-init c = λ n e. begin _ _ _ _ n c.args.base c.requires c.base_mark-mark.ensures e

pub loop-preserved : goal.loop-preserved
loop-preserved c = λ n e. next_star _ _ _ _ _ n _ _ _ c.loop.invariant c.in_ok-to.ensures refl e

pub returns : goal.returns
returns c = done _ _ _ _ _ _ c.loop.invariant c.loop.auto.counter-end c.loop-test.false
