-- What is left of a list in a loop over it.
use Rattle.std.proofs.Common.{ℕ, zero, suc, ◌+◌, ◌<◌, ◌≤◌, ◌≡◌, List, [], ◌∷◌, ◌++◌, length, take, drop, get_or, Option, Some, None, refl, ap, sym, ◌∙◌, arith, add-one}
use Rattle.std.specs.Prelude.{map, slice_get}
use Rattle.std.proofs.lemmas.List.{drop_all}
use Rattle.oc_cells.specs.declared.types.CType.{CType}
use Rattle.oc_cells.specs.declared.types.SlotType.{SlotType}
use Rattle.oc_typed.specs.declared.typed.TExpr.{TExpr}
use Rattle.oc_typing.specs.Typed.{Context}
use Rattle.scope_rules.specs.Frozen.{Facts}
use Rattle.scope_rules.specs.InScope.{unfrozen, first_unfrozen}
use Rattle.frozen_rules.specs.Lists.{visits_arg, visits_list, types_in}

nothing_left : (i : ℕ) (ts : List CType) → ts ≡ [] → drop i ts ≡ []
nothing_left zero ts e = e
nothing_left (suc i) [] e = refl
nothing_left (suc i) (t ∷ ts) e = absurd cc

module _ (g : Context) (w : Facts) where
  next_arg : (ts : List CType) (es : List TExpr) (i : ℕ) (e : TExpr) → i < length es → e ≡ get_or es i e
      → visits_list g w (drop i ts) (drop i es) ≡ visits_arg g w (slice_get ts i) e ++ visits_list g w (drop (suc i) ts) (drop (suc i) es)
  next_arg ts [] i e h q = absurd (omega arith)
  next_arg [] (x ∷ es) zero e h q = ap (λ y. visits_arg g w None y ++ visits_list g w [] es) (sym q)
  next_arg (t ∷ ts) (x ∷ es) zero e h q = ap (λ y. visits_arg g w (Some t) y ++ visits_list g w ts es) (sym q)
  next_arg [] (x ∷ es) (suc i) e h q = ap (λ us. visits_list g w us (drop i es)) (sym (nothing_left i [] refl)) ∙ next_arg [] es i e (omega arith) q
  next_arg (t ∷ ts) (x ∷ es) (suc i) e h q = next_arg ts es i e (omega arith) q

  pub arg_next : (ts : List CType) (es : List TExpr) (i : ℕ) (e : TExpr) (o : Option CType) → i < length es → e ≡ get_or es i e → o ≡ slice_get ts i
      → visits_list g w (drop i ts) (drop i es) ≡ visits_arg g w o e ++ visits_list g w (drop (i + 1) ts) (drop (i + 1) es)
  arg_next ts es i e o h q p = rw (add-one, p) (next_arg ts es i e h q)

  pub args_end : (ts : List CType) (es : List TExpr) (i : ℕ) → length es ≤ i → visits_list g w (drop i ts) (drop i es) ≡ []
  args_end ts es i h = ap (λ us. visits_list g w (drop i ts) us) (drop_all i es h)

pub param_there : (xs : List SlotType) (n i : ℕ) (s : SlotType) → i < n → Some s ≡ slice_get xs i → Some s.ty ≡ slice_get (map (λ x. x.ty) (take n xs)) i
param_there xs zero i s h q = absurd (omega arith)
param_there [] (suc n) i s h q = absurd cc
param_there (x ∷ xs) (suc n) zero s h q = cc
param_there (x ∷ xs) (suc n) (suc i) s h q = param_there xs n i s (omega arith) q

pub param_missing : (xs : List SlotType) (n i : ℕ) → None ≡ slice_get xs i → None ≡ slice_get (map (λ (x : SlotType). x.ty) (take n xs)) i
param_missing xs zero i q = refl
param_missing [] (suc n) i q = refl
param_missing (x ∷ xs) (suc n) zero q = absurd cc
param_missing (x ∷ xs) (suc n) (suc i) q = param_missing xs n i q

pub param_past : (xs : List SlotType) (n i : ℕ) → n ≤ i → None ≡ slice_get (map (λ (x : SlotType). x.ty) (take n xs)) i
param_past xs zero i h = refl
param_past [] (suc n) i h = refl
param_past (x ∷ xs) (suc n) zero h = absurd (omega arith)
param_past (x ∷ xs) (suc n) (suc i) h = param_past xs n i (omega arith)

pub own_args : (g : Context) (w : Facts) (cs : List CType) (es rest : List TExpr) (x : TExpr) → es ≡ x ∷ rest → cs ≡ first_unfrozen (types_in es)
    → visits_list g w cs es ≡ visits_arg g w (Some (unfrozen x.ty)) x ++ visits_list g w [] rest
own_args g w cs es rest x e p =
    ap (λ us. visits_list g w us es) (p ∙ ap (λ ys. first_unfrozen (types_in ys)) e) ∙ ap (λ ys. visits_list g w (unfrozen x.ty ∷ []) ys) e
