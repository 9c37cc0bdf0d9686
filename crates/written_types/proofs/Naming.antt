-- Names that are new, and parameters judged one after another.
use Rattle.std.proofs.Common.{ℕ, zero, suc, ◌≡◌, List, [], ◌∷◌, Some, None, Bool, false, Ok, Err, refl, sym, ap, ◌∙◌}
use Rattle.std.specs.Prelude.{not, is_some}
use Rattle.std.specs.Map.{lookup}
use Rattle.std.specs.Ordering.{nat_cmp}
use Rattle.std.specs.Cmp.Lexicographic.{slice_cmp}
use Rattle.std.specs.BTreeMap.{BTreeMap, is_at}
use denote.Ref.{Bor}
use Rattle.oc_source.specs.declared.spot.Spot.{Spot}
use Rattle.oc_source.specs.declared.parsed.Param.{Param}
use Rattle.oc_cells.specs.declared.types.SlotType.{SlotType}
use Rattle.oc_cells.specs.declared.types.CType.{CType, Pointer}
use Rattle.oc_cells.specs.declared.types.CType.TheBlock.{hidden-the_row-CType-0}
use denote.Hole.Carrier.{hidden}
use Rattle.oc_cells.specs.Types.{is_struct}
use Rattle.type_rules.specs.declared.judging.TypeRule.TheVariants.{T2}
use Rattle.type_rules.specs.Judging.{Judged, next, needs}
use Rattle.type_rules.specs.Lookup.{Lookup}
use Rattle.type_rules.specs.Written.{has_name, params, param_of, more_stars, starred}
use Rattle.type_steps.specs.declared.fault.TypeFault.TheVariants.{Refused}
use Rattle.type_steps.specs.Answering.{Answers}
use Rattle.type_steps.proofs.Steps.{said_as, fine}
use Rattle.written_types.specs.Numbers.{get_at, Has}
use Rattle.written_types.specs.Each.{each}
use Rattle.written_types.specs.Params.{param_judged, with_param}
use Rattle.written_types.proofs.EachItem.{next_next, next_same}

module _ (m : BTreeMap (Bor (List ℕ)) ℕ) (name read : List ℕ) (p : Spot) (xs : List (List ℕ)) (h : Has m xs) (e : read ≡ name) where
  pub new_name : None ≡ get_at m read → Answers (needs p T2 (not (has_name xs name))) (Ok tt)
  new_name none = said_as (ap (λ b. needs p T2 (not b)) (ap is_some none ∙ h.at read) ∙ ap (λ x. needs p T2 (not (has_name xs x))) e) (fine refl)

  pub old_name : (k : ℕ) → Some k ≡ get_at m read → Answers (needs p T2 (not (has_name xs name))) (Err (Refused T2 p))
  old_name k some = said_as (ap (λ b. needs p T2 (not b)) (ap is_some some ∙ h.at read) ∙ ap (λ x. needs p T2 (not (has_name xs x))) e) (record { said = refl })

pub has_none : (m : BTreeMap (Bor (List ℕ)) ℕ) → m.entries ≡ [] → Has m []
has_none m e = record { at = λ x. ap (λ es. is_some (lookup (is_at (λ k. slice_cmp nat_cmp x k.now)) es)) e }

then_new : (m : Judged (Unit {0})) (s : SlotType) (rest : Judged (List SlotType)) → next m (λ _. next rest (λ ys. Ok (s ∷ ys))) ≡ next (next m (λ _. Ok s)) (λ s. next rest (λ ys. Ok (s ∷ ys)))
unfolding next
then_new (Ok u) s rest = refl
then_new (Err f) s rest = refl

pub params_so : (g : Lookup) (earlier : List (List ℕ)) (ps : List Param) → params g earlier ps ≡ each (param_judged g) with_param earlier ps
params_so g earlier [] = refl
params_so g earlier (p ∷ ps) =
    let first = param_of g p.base (more_stars p.array p.stars) p.array in
    let is_new = needs p.spot T2 (not (has_name earlier p.name)) in
    let rest = each (param_judged g) with_param (p.name ∷ earlier) ps in
    next_same first (λ s. next is_new (λ _. next (params g (p.name ∷ earlier) ps) (λ ys. Ok (s ∷ ys)))) (λ s. next (next is_new (λ _. Ok s)) (λ s. next rest (λ ys. Ok (s ∷ ys))))
    (λ s. ap (λ m. next is_new (λ _. next m (λ ys. Ok (s ∷ ys)))) (params_so g (p.name ∷ earlier) ps) ∙ then_new is_new s rest)
    ∙ sym (next_next first (λ s. next is_new (λ _. Ok s)) (λ s. next rest (λ ys. Ok (s ∷ ys))))

struct_pointer : (f : Bool) (t : CType) → is_struct (Pointer f t) ≡ false
unfolding hidden-the_row-CType-0 hidden
struct_pointer f t = refl

struct_starred : (f : Bool) (n : ℕ) (t : CType) → is_struct (starred f n (Pointer f t)) ≡ false
struct_starred f zero t = struct_pointer f t
struct_starred f (suc n) t = struct_starred f n (Pointer f t)

pub struct_stars : (f : Bool) (n : ℕ) (t : CType) → (n ≡ 0 → ⊥) → is_struct (starred f n t) ≡ false
struct_stars f zero t h = absurd (h refl)
struct_stars f (suc n) t h = struct_starred f n t
