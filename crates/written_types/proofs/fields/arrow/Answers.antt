use Rattle.std.proofs.Common.{◌≡◌, List, ℕ, Option, Result, ap, ◌∙◌}
use Rattle.oc_source.specs.declared.spot.Spot.{Spot}
use Rattle.oc_cells.specs.declared.types.CType.{CType}
use Rattle.oc_cells.specs.declared.types.FieldType.{FieldType}
use Rattle.oc_cells.specs.Types.{target}
use Rattle.oc_typed.specs.declared.typed.TExpr.{TExpr}
use Rattle.oc_typed.specs.declared.typed.TPlaceNode as place
use Rattle.type_rules.specs.declared.judging.Found.{Found}
use Rattle.type_rules.specs.Lookup.{Lookup}
use Rattle.type_rules.specs.Operators.{field_at, field_in, arrow}
use Rattle.type_steps.specs.declared.fault.TypeFault.{TypeFault}
use Rattle.type_steps.specs.Answering.{Answers}
use Rattle.type_steps.proofs.Steps.{said_as}
use Rattle.written_types.specs.Known.{lookup}
use Rattle.written_types.proofs.fields.arrow.Goals as goal

arrow_so : (g : Lookup) (p : Spot) (x : List ℕ) (e : TExpr) (t : CType) (o : Option FieldType) (r : Result Found TypeFault) → t ≡ target e.ty → o ≡ field_in g t x → Answers (field_at p (record { spot = p; ty = t; node = place.Deref e }) o) r → Answers (arrow g p x e) r
arrow_so g p x e t o r a b h = said_as (ap (λ o. field_at p (record { spot = p; ty = t; node = place.Deref e }) o) b ∙ ap (λ t. field_at p (record { spot = p; ty = t; node = place.Deref e }) (field_in g t x)) a) h

pub returns : goal.returns
returns c =
    arrow_so (lookup c.args.known.now) c.args.spot c.args.name.now c.args.value _ _ _ (c.in_ok-ty.ensures ∙ ap (λ v. target v.ty) c.get.ensures) c.field_in-found.ensures c.field_at.ensures
