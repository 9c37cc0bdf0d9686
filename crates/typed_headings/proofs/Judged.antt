-- Headings that are judged one after another.
use Rattle.std.proofs.Common.{◌≡◌, List, [], ◌∷◌, ◌++◌, Ok, Err, Bool, true, false, refl, sym, ap, ◌∙◌}
use Rattle.std.specs.Prelude.{◌&&◌, is_none, is_some}
use Rattle.oc_source.specs.declared.spot.Spot.{Spot}
use Rattle.oc_source.specs.declared.parsed.StructDef.{StructDef}
use Rattle.oc_source.specs.declared.parsed.Function.{Function}
use Rattle.type_rules.specs.declared.judging.Heading.{Heading}
use Rattle.type_rules.specs.declared.judging.TypeRule.{TypeRule}
use Rattle.type_rules.specs.declared.judging.TypeRule.TheVariants.{T2}
use Rattle.type_rules.specs.Judging.{Judged, next, needs}
use Rattle.type_rules.specs.Lookup.{Lookup}
use Rattle.type_rules.specs.Calls.{own_call}
use Rattle.type_rules.specs.Written.{heading, params, result_type, may_stand, at_function, headings_from}
use Rattle.written_types.proofs.Forms.{both_true}
use Rattle.typed_headings.specs.InTurn.{in_turn}
use Rattle.typed_headings.specs.Judging.{heading_judged, heading_added}
use Rattle.typed_headings.proofs.InTurn.{parted}

fine_back : {A : Type 0} (a b : A) → ◌≡◌ {A = Judged A} (Ok a) (Ok b) → a ≡ b
fine_back a b e = cc

needed : (p : Spot) (r : TypeRule) (b : Bool) (u : Unit {0}) → needs p r b ≡ Ok u → b ≡ true
needed p r true u h = refl
needed p r false u h = cc

-- a heading has its function's name, and a body where that has one
pub heading_named : (g : Lookup) (f : Function) (h : Heading) → heading g f ≡ Ok h → (h.name ≡ f.name) × (h.has_body ≡ is_some f.body)
heading_named g f h e =
    let a = parted (result_type g f.result) _ h e in
    let b = parted (params g [] f.params) _ h a.2 in
    let q = fine_back _ h b.2 in
    (sym (ap (λ (h : Heading). h.name) q), sym (ap (λ (h : Heading). h.has_body) q))

module _ (g : Lookup) (ds : List StructDef) (earlier : List Heading) (f : Function) (h : Heading) (e : heading_judged g ds earlier f ≡ Ok h) where
  pub judged_named : h.name ≡ f.name
  judged_named =
      let a = parted (heading (at_function g ds f) f) _ h e in
      let b = parted (needs f.spot T2 (is_none (own_call f.name) && may_stand earlier a.0)) _ h a.2 in
      sym (ap (λ (h : Heading). h.name) (fine_back a.0 h b.2)) ∙ (heading_named (at_function g ds f) f a.0 a.1).0

  pub judged_stands : may_stand earlier h ≡ true
  judged_stands =
      let a = parted (heading (at_function g ds f) f) _ h e in
      let b = parted (needs f.spot T2 (is_none (own_call f.name) && may_stand earlier a.0)) _ h a.2 in
      sym (ap (λ h. may_stand earlier h) (fine_back a.0 h b.2)) ∙ (both_true (is_none (own_call f.name)) (may_stand earlier a.0) (needed f.spot T2 (is_none (own_call f.name) && may_stand earlier a.0) b.0 b.1)).1

after_need : {H S : Type 0} (m : Judged (Unit {0})) (h : H) (k : H → S) (l r : S → Judged S) → ((s : S) → l s ≡ r s) → next m (λ _. l (k h)) ≡ next (next (next m (λ _. Ok h)) (λ h. Ok (k h))) r
unfolding next
after_need (Ok u) h k l r e = e (k h)
after_need (Err x) h k l r e = refl

regroup : {H S : Type 0} (m : Judged H) (n : H → Judged (Unit {0})) (k : H → S) (l r : S → Judged S) → ((s : S) → l s ≡ r s) → next m (λ h. next (n h) (λ _. l (k h))) ≡ next (next (next m (λ h. next (n h) (λ _. Ok h))) (λ h. Ok (k h))) r
unfolding next
regroup (Ok h) n k l r e = after_need (n h) h k l r e
regroup (Err x) n k l r e = refl

-- the headings of functions are made one after another
pub headings_so : (g : Lookup) (ds : List StructDef) (earlier : List Heading) (fs : List Function) → headings_from g ds earlier fs ≡ in_turn (heading_added g ds) earlier fs
headings_so g ds earlier [] = refl
headings_so g ds earlier (f ∷ fs) =
    regroup (heading (at_function g ds f) f) (λ h. needs f.spot T2 (is_none (own_call f.name) && may_stand earlier h)) (λ h. earlier ++ h ∷ [])
    (λ hs. headings_from g ds hs fs) (λ hs. in_turn (heading_added g ds) hs fs) (λ hs. headings_so g ds hs fs)
