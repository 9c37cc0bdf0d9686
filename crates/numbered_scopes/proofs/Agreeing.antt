-- Facts that agree on what is visible give the same visits of an expression.
use Rattle.std.proofs.Common.{ℕ, ◌≡◌, List, [], ◌∷◌, ◌++◌, refl, ap, ◌∙◌, Bool, true, false, Some}
use Rattle.std.specs.Prelude.{◌&&◌, ◌||◌, not, slice_get}
use Rattle.oc_source.specs.declared.spot.Spot.{Spot}
use Rattle.oc_cells.specs.declared.types.CType.{CType}
use Rattle.oc_cells.specs.Types.{is_frozen_pointer, holds_public}
use Rattle.oc_typed.specs.declared.typed.TExpr.{TExpr}
use Rattle.oc_typed.specs.declared.typed.TExprNode.{TExprNode, Number, NullPointer, Read', AddressOf', Decay', Unary', Binary', PointerStep', PointerSame', Logic', Choose', Assign', Update', Convert', Call', Builtin', Row_of-TExpr, end_of-TExpr, more_of-TExpr}
use Rattle.oc_typed.specs.declared.typed.TPlaceNode.{TPlaceNode, Slot, Deref', Index', Field', Row_of-TPlace, more_of-TPlace}
use Rattle.oc_typed.specs.Static.{types_of, spot_of}
use Rattle.oc_typed.specs.Visible.{is_among}
use Rattle.oc_typing.specs.Typed.{Context, expr, place, place_one, one, exprs, alone, is_feed}
use Rattle.sound_runs.proofs.Bools.{first, second}
use Rattle.scope_rules.specs.declared.rules.ScopeRule.TheVariants.{F2, F3}
use Rattle.scope_rules.specs.Frozen.{Facts, declared_frozen, type_here, is_frozen, is_frozen_one, from_frozen, from_frozen_one, leads_frozen, loses, loses_one, is_kept, is_marked}
use Rattle.scope_rules.specs.InScope.{params_of, comings}
use Rattle.scope_rules.specs.FirstFault.{Visit, visit, writing, in_order, visits, visits_place, visits_base, visits_one, visits_all, visits_coming}

-- facts that differ at most in variables that aren't visible
pub record Agree (vis : List ℕ) (w v : Facts) : Type 0 where
  pub hidden : w.hidden ≡ v.hidden
  pub parted : w.parted ≡ v.parted
  pub loop : w.loop ≡ v.loop
  pub outside : (n : ℕ) → is_among vis n ≡ true → w.outside n ≡ v.outside n

pub both : {xs ys us vs : List Visit} → xs ≡ ys → us ≡ vs → xs ++ us ≡ ys ++ vs
both {xs} {ys} {us} {vs} e f = ap (λ z. z ++ us) e ∙ ap (λ z. ys ++ z) f

module _ (g : Context) (vis : List ℕ) (w v : Facts) (a : Agree vis w v) where
  writing_same : writing w ≡ writing v
  writing_same = ap (λ h. writing (record w { hidden = h })) a.hidden

  mutual
    frozen_same : (c : TPlaceNode) (t : CType) → place g vis t c ≡ true → is_frozen g w c ≡ is_frozen g v c
    frozen_same (Slot n) t h =
        ap (λ b. (b && w.outside n) || declared_frozen (slice_get g.slots n)) a.hidden
        ∙ ap (λ b. (v.hidden && b) || declared_frozen (slice_get g.slots n)) (a.outside n (first _ _ h))
    frozen_same (Deref' _ e) t h = leads_same e (second _ _ h)
    frozen_same (Index' _ l _ r) t h = leads_same l (second _ _ (first _ _ h))
    frozen_same (Field' _ b n) t h = frozen_one_same b n t h

    frozen_one_same : (b : Row_of-TPlace 1) (n : ℕ) (t : CType) → place_one g vis n t b ≡ true → is_frozen_one g w b ≡ is_frozen_one g v b
    frozen_one_same (more_of-TPlace q u c rest) n t h = frozen_same c u (second _ _ h)

    from_same : (c : TExprNode) (t : CType) (fed : Bool) → expr g vis fed t c ≡ true → from_frozen g w c ≡ from_frozen g v c
    from_same (Number n) t fed h = refl
    from_same NullPointer t fed h = refl
    from_same (Read' q u c) t fed h = frozen_same c u (second _ _ h)
    from_same (AddressOf' q u c) t fed h = frozen_same c u (second _ _ h)
    from_same (Decay' q u c) t fed h = frozen_same c u (second _ _ h)
    from_same (Unary' op _ e) t fed h = refl
    from_same (Binary' op _ l _ r) t fed h = refl
    from_same (PointerStep' _ l _ r back behind) t fed h = from_one_same l (second _ _ (first _ _ h))
    from_same (PointerSame' _ l _ r negated) t fed h = refl
    from_same (Logic' all _ l _ r) t fed h = refl
    from_same (Choose' _ c _ l _ r) t fed h = refl
    from_same (Assign' q u c _ e) t fed h = refl
    from_same (Update' op q u c _ e old) t fed h = refl
    from_same (Convert' _ e) t fed h = refl
    from_same (Call' f _ es) t fed h = refl
    from_same (Builtin' which _ es) t fed h = refl

    from_one_same : (e : Row_of-TExpr 1) → one g vis e ≡ true → from_frozen_one g w e ≡ from_frozen_one g v e
    from_one_same (more_of-TExpr q u c rest) h = from_same c u false (second _ _ h)

    leads_same : (e : Row_of-TExpr 1) → one g vis e ≡ true → leads_frozen g w e ≡ leads_frozen g v e
    leads_same (more_of-TExpr q u c rest) h = ap (λ b. is_frozen_pointer (type_here g.public b u)) (from_same c u false (second _ _ h))

  kept_same : (q : Spot) (u : CType) (c : TPlaceNode) → place g vis u c ≡ true → visit (writing w) q (not (is_kept g w u c)) ≡ visit (writing v) q (not (is_kept g v u c))
  kept_same q u c h =
      ap (λ r. visit r q (not (is_kept g w u c))) writing_same ∙ ap (λ b. visit (writing v) q (not (b && holds_public g.public u))) (frozen_same c u h)

  loses_same : (e : Row_of-TExpr 1) (t : CType) → one g vis e ≡ true → visit F2 (spot_of e) (not (loses_one g w e t)) ≡ visit F2 (spot_of e) (not (loses_one g v e t))
  loses_same (more_of-TExpr q u c rest) t h = ap (λ b. visit F2 q (not (loses g b u t))) (from_same c u false (second _ _ h))

  mutual
    pub visits_same : (c : TExprNode) (p : Spot) (t : CType) (fed : Bool) → expr g vis fed t c ≡ true → visits g w p t c ≡ visits g v p t c
    visits_same (Number n) p t fed h = refl
    visits_same NullPointer p t fed h = refl
    visits_same (Read' q u c) p t fed h = place_visits_same c u (second _ _ h)
    visits_same (AddressOf' q u c) p t fed h = place_visits_same c u (second _ _ h)
    visits_same (Decay' q u c) p t fed h = place_visits_same c u (second _ _ h)
    visits_same (Unary' op _ e) p t fed h = one_visits_same e (second _ _ h)
    visits_same (Binary' op _ l _ r) p t fed h = both (one_visits_same l (second _ _ (first _ _ h))) (one_visits_same r (second _ _ h))
    visits_same (PointerStep' _ l _ r back behind) p t fed h =
        ap (λ z. in_order behind z (visits_one g w r)) (one_visits_same l (second _ _ (first _ _ h))) ∙ ap (λ z. in_order behind (visits_one g v l) z) (one_visits_same r (second _ _ h))
    visits_same (PointerSame' _ l _ r negated) p t fed h = both (one_visits_same l (second _ _ (first _ _ h))) (one_visits_same r (second _ _ h))
    visits_same (Logic' all _ l _ r) p t fed h = both (one_visits_same l (second _ _ (first _ _ h))) (one_visits_same r (second _ _ h))
    visits_same (Choose' _ c _ l _ r) p t fed h =
        both (both (one_visits_same c (second _ _ (first _ _ (first _ _ h)))) (one_visits_same l (second _ _ (first _ _ h)))) (one_visits_same r (second _ _ h))
    visits_same (Assign' q u c _ e) p t fed h =
        let i = second _ _ (first _ _ h) in let j = second _ _ h in
        both (both (both (place_visits_same c u i) (one_visits_same e j)) (loses_same e u j)) (kept_same q u c i)
    visits_same (Update' op q u c _ e old) p t fed h =
        let i = second _ _ (first _ _ (first _ _ h)) in let j = second _ _ (first _ _ h) in
        both (both (place_visits_same c u i) (one_visits_same e j)) (kept_same q u c i)
    visits_same (Convert' _ e) p t fed h = let j = second _ _ h in both (one_visits_same e j) (loses_same e t j)
    visits_same (Call' f _ es) p t fed h =
        both (all_visits_same (params_of (slice_get g.functions f)) es false (second _ _ h)) (ap (λ b. visit F3 p (not b || is_marked (slice_get g.functions f))) a.hidden)
    visits_same (Builtin' which _ es) p t fed h =
        both (all_visits_same (comings which (types_of es)) es (is_feed which) (second _ _ h)) (ap (λ b. visit F3 p (not b)) a.hidden)

    place_visits_same : (c : TPlaceNode) (t : CType) → place g vis t c ≡ true → visits_place g w c ≡ visits_place g v c
    place_visits_same (Slot n) t h = refl
    place_visits_same (Deref' _ e) t h = one_visits_same e (second _ _ h)
    place_visits_same (Index' _ l _ r) t h = both (one_visits_same l (second _ _ (first _ _ h))) (one_visits_same r (second _ _ h))
    place_visits_same (Field' _ b n) t h = base_visits_same b n t h

    base_visits_same : (b : Row_of-TPlace 1) (n : ℕ) (t : CType) → place_one g vis n t b ≡ true → visits_base g w b ≡ visits_base g v b
    base_visits_same (more_of-TPlace q u c rest) n t h = place_visits_same c u (second _ _ h)

    one_visits_same : (e : Row_of-TExpr 1) → one g vis e ≡ true → visits_one g w e ≡ visits_one g v e
    one_visits_same (more_of-TExpr q u c rest) h = visits_same c q u false (second _ _ h)

    all_visits_same : {m : _} (ts : List CType) (es : Row_of-TExpr m) (fed : Bool) → exprs g vis fed es ≡ true → visits_all g w ts es ≡ visits_all g v ts es
    all_visits_same ts end_of-TExpr fed h = refl
    all_visits_same [] (more_of-TExpr q u c rest) fed h = both (visits_same c q u fed (second _ _ (first _ _ h))) (all_visits_same [] rest fed (second _ _ h))
    all_visits_same (t ∷ ts) (more_of-TExpr q u c rest) fed h =
        let i = second _ _ (first _ _ h) in
        both (both (visits_same c q u fed i) (ap (λ b. visit F2 q (not (loses g b u t))) (from_same c u fed i))) (all_visits_same ts rest fed (second _ _ h))

  pub alone_same : (e : TExpr) → alone g vis e ≡ true → visits g w e.spot e.ty e.node ≡ visits g v e.spot e.ty e.node
  alone_same e h = visits_same e.node e.spot e.ty false (second _ _ h)

  pub coming_same : (t : CType) (e : TExpr) → alone g vis e ≡ true → visits_coming g w t (Some e) ≡ visits_coming g v t (Some e)
  coming_same t e h = both (alone_same e h) (ap (λ b. visit F2 e.spot (not (loses g b e.ty t))) (from_same e.node e.ty false (second _ _ h)))
