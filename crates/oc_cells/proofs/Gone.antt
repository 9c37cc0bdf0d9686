-- A block that is gone stays so as it ends.
use Rattle.std.proofs.Common.{ℕ, zero, suc, ◌≡◌, refl, sym, ap, List, [], ◌∷◌, slice_get, false}
use Rattle.std.proofs.lemmas.Bool.{false≢true}
use Rattle.oc_cells.specs.declared.memory.Block.{Block}
use Rattle.oc_cells.specs.declared.memory.Block.TheVariants.{Live, Gone}
use Rattle.oc_cells.specs.Memory.{is_live, ended}

pub gone_stay : {H : Type 0} (blocks : List (Block H)) (b : ℕ) → is_live (slice_get blocks b) ≡ false → ended blocks b ≡ blocks
gone_stay [] b e = refl
gone_stay (Gone ∷ bs) zero e = refl
gone_stay (Live a cs ∷ bs) zero e = absurd (false≢true (sym e))
gone_stay (x ∷ bs) (suc b) e = ap (λ ys. x ∷ ys) (gone_stay bs b e)
