use Rattle.std.proofs.Common.{◌≡◌, suc, List, [], ◌∷◌, length, Bool, true, false, refl, ap}
use Rattle.std.specs.Prelude.{◌&&◌}
use Rattle.oc_cells.specs.declared.types.SlotType.{SlotType}
use Rattle.oc_cells.specs.Types.{same}
use Rattle.type_rules.specs.Calls.{types_of}
use Rattle.type_rules.specs.Written.{same_types}
use Rattle.typed_headings.proofs.agreeing.same_types.Goals as goal

and_false : (a b : Bool) → false ≡ b → false ≡ (a && b)
and_false true b e = e
and_false false b e = refl

-- lists of different lengths have no same types
unlike : (ts ss : List SlotType) → (length ts ≡ length ss → ⊥) → false ≡ same_types (types_of ts) (types_of ss)
unlike [] [] f = absurd (f refl)
unlike [] (s ∷ ss) f = refl
unlike (t ∷ ts) [] f = refl
unlike (t ∷ ts) (s ∷ ss) f = and_false (same true t.ty s.ty) (same_types (types_of ts) (types_of ss)) (unlike ts ss (λ e. f (ap suc e)))

pub returns-then-slots-others : goal.returns-then-slots-others
returns-then-slots-others c = unlike _ _ c.if-slots-others.true
