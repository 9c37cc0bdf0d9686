-- The headings that the rules find: types of a typed tree, and names that differ where there is a body.
use Rattle.std.proofs.Common.{ℕ, suc, ◌≡◌, List, [], ◌∷◌, ◌++◌, length, Option, Some, None, Ok, refl, sym, ap, ◌∙◌, subst, true, false, nat_eq, append-nil}
use Rattle.std.specs.Prelude.{◌&&◌, not, is_some, is_none}
use Rattle.oc_cells.specs.declared.types.CType.{CType, Nothing}
use Rattle.oc_cells.specs.declared.types.SlotType.{SlotType}
use Rattle.oc_cells.specs.declared.types.StructType.{StructType}
use Rattle.oc_cells.specs.Types.{is_struct, normal, public_structs}
use Rattle.oc_source.specs.declared.parsed.TypeName.{TypeName}
use Rattle.oc_source.specs.declared.parsed.StructDef.{StructDef}
use Rattle.oc_source.specs.declared.parsed.BaseName.{BaseName}
use Rattle.oc_source.specs.declared.parsed.Param.{Param}
use Rattle.oc_source.specs.declared.parsed.ParamArray.{ParamArray}
use Rattle.oc_source.specs.declared.parsed.Function.{Function}
use Rattle.oc_typing.specs.Rules.{all, is_type, is_leaf, is_nothing}
use Rattle.oc_typing.specs.Typed.{is_slot, is_result, slot_types}
use Rattle.type_rules.specs.declared.judging.TypeRule.TheVariants.{T2, T11}
use Rattle.type_rules.specs.declared.judging.Heading.{Heading}
use Rattle.type_rules.specs.Lookup.{Lookup}
use Rattle.type_rules.specs.Calls.{own_call}
use Rattle.type_rules.specs.Written.{has_name, base_type, starred, type_name, is_frozen_place, more_stars, array_fits, param_of, params, result_type, heading, may_stand, at_function, headings_from}
use Rattle.type_rules.proofs.Laws.{fine_back, parted}
use Rattle.rules_typed.proofs.Bools.{both, first, second, last}
use Rattle.rules_typed.proofs.Slots.{one_on}
use Rattle.rules_typed.proofs.WrittenTypes.{needed, begins, Known, Written, written, written_good, written_leaf, written_slot, struct_of_normal}

-- a parameter is a slot of a leaf's type
pub record MadeParam (sizes : List ℕ) (structs : List StructType) (s : SlotType) : Type 0 where
  pub slot : is_slot sizes (public_structs structs) s ≡ true
  pub leaf : is_leaf s.ty ≡ true

-- what is found for a parameter
made_param : (g : Lookup) (structs : List StructType) (sizes : List ℕ) (b : BaseName) (k : ℕ) (a : ParamArray) (s : SlotType) → g.public ≡ public_structs structs → Known g sizes → param_of g b k a ≡ Ok s → MadeParam sizes structs s
made_param g structs sizes b k a s e h q =
    let z = parted (base_type g (nat_eq k 0) b) _ s q in
    let n = needed b.spot T11 (not (is_struct (starred b.frozen k z.0)) && array_fits a) (Ok (record { ty = normal g.public false (starred b.frozen k z.0); frozen = is_frozen_place b k })) s z.2 in
    let w : Written g b.frozen k (normal g.public false (starred b.frozen k z.0)) = record { base = z.0; begins = begins g (nat_eq k 0) b z.0 z.1; is = refl } in
    let plain = first (not (is_struct (starred b.frozen k z.0))) (array_fits a) n.0 in
    subst (λ s. MadeParam sizes structs s) (fine_back _ s n.1)
    (record {
      slot = written_slot g structs sizes b k (normal g.public false (starred b.frozen k z.0)) e h w;
      leaf = written_leaf g b.frozen k (normal g.public false (starred b.frozen k z.0)) w (subst (λ c. not c ≡ true) (sym (struct_of_normal g.public false (starred b.frozen k z.0))) plain);
    })

-- parameters, as many as are written
pub record MadeParams (sizes : List ℕ) (structs : List StructType) (ps : List Param) (ss : List SlotType) : Type 0 where
  pub slots : all (is_slot sizes (public_structs structs)) ss ≡ true
  pub leaves : all is_leaf (slot_types ss) ≡ true
  pub count : length ss ≡ length ps

-- what is found for parameters
made_params : (g : Lookup) (structs : List StructType) (sizes : List ℕ) (earlier : List (List ℕ)) (ps : List Param) (ss : List SlotType) → g.public ≡ public_structs structs → Known g sizes → params g earlier ps ≡ Ok ss → MadeParams sizes structs ps ss
made_params g structs sizes earlier [] ss e h q = subst (λ ss. MadeParams sizes structs [] ss) (fine_back [] ss q) (record { slots = refl; leaves = refl; count = refl })
made_params g structs sizes earlier (p ∷ ps) ss e h q =
    let z = parted (param_of g p.base (more_stars p.array p.stars) p.array) _ ss q in
    let n = needed p.spot T2 (not (has_name earlier p.name)) _ ss z.2 in
    let y = parted (params g (p.name ∷ earlier) ps) _ ss n.1 in
    let one = made_param g structs sizes p.base (more_stars p.array p.stars) p.array z.0 e h z.1 in
    let rest = made_params g structs sizes (p.name ∷ earlier) ps y.0 e h y.1 in
    subst (λ ss. MadeParams sizes structs (p ∷ ps) ss) (fine_back (z.0 ∷ y.0) ss y.2)
    (record { slots = both one.slot rest.slots; leaves = both one.leaf rest.leaves; count = ap (λ n. suc n) rest.count })

-- a result passes the test
result_good : (g : Lookup) (structs : List StructType) (sizes : List ℕ) (o : Option TypeName) (u : CType) → g.public ≡ public_structs structs → Known g sizes → result_type g o ≡ Ok u → is_result sizes (public_structs structs) u ≡ true
result_good g structs sizes None u e h q = subst (λ u. is_result sizes (public_structs structs) u ≡ true) (fine_back Nothing u q) refl
result_good g structs sizes (Some w) u e h q =
    let z = parted (type_name g w) _ u q in
    let n = needed w.base.spot T11 (not (is_struct z.0)) (Ok z.0) u z.2 in
    let wr = written g w z.0 z.1 in
    subst (λ u. is_result sizes (public_structs structs) u ≡ true) (fine_back z.0 u n.1)
    (last (is_nothing z.0) (is_leaf z.0 && is_type sizes (public_structs structs) z.0) (both (written_leaf g w.base.frozen w.stars z.0 wr n.0) (written_good g structs sizes w.base.frozen w.stars z.0 e h wr)))

-- the heading of a function
pub record MadeHeading (sizes : List ℕ) (structs : List StructType) (f : Function) (h : Heading) : Type 0 where
  pub name : h.name ≡ f.name
  pub obliv : h.obliv ≡ f.obliv
  pub body : h.has_body ≡ is_some f.body
  pub result : is_result sizes (public_structs structs) h.result ≡ true
  pub params : MadeParams sizes structs f.params h.params

-- what is found for a heading
made_heading : (g : Lookup) (structs : List StructType) (sizes : List ℕ) (f : Function) (h : Heading) → g.public ≡ public_structs structs → Known g sizes → heading g f ≡ Ok h → MadeHeading sizes structs f h
made_heading g structs sizes f h e k q =
    let z = parted (result_type g f.result) _ h q in
    let y = parted (params g [] f.params) _ h z.2 in
    subst (λ h. MadeHeading sizes structs f h) (fine_back (record { name = f.name; result = z.0; params = y.0; obliv = f.obliv; has_body = is_some f.body }) h y.2)
    (record { name = refl; obliv = refl; body = refl; result = result_good g structs sizes f.result z.0 e k z.1; params = made_params g structs sizes [] f.params y.0 e k y.1 })

-- headings that are judged one after another
abbrev pub MadeHeadings : List ℕ → List StructType → List Heading → List Function → List Heading → Type 0
MadeHeadings sizes structs earlier [] [] = Unit {0}
MadeHeadings sizes structs earlier [] (h ∷ hs) = ⊥
MadeHeadings sizes structs earlier (f ∷ fs) [] = ⊥
MadeHeadings sizes structs earlier (f ∷ fs) (h ∷ hs) = MadeHeading sizes structs f h × (may_stand earlier h ≡ true) × MadeHeadings sizes structs (earlier ++ h ∷ []) fs hs

-- what is found for headings
pub made_headings : (g : Lookup) (ds : List StructDef) (structs : List StructType) (sizes : List ℕ) (earlier : List Heading) (fs : List Function) (hs : List Heading) → g.public ≡ public_structs structs → ((n : ℕ) → Known (record g { above = n }) sizes)
    → headings_from g ds earlier fs ≡ Ok hs → (new : List Heading) × MadeHeadings sizes structs earlier fs new × (hs ≡ earlier ++ new)
made_headings g ds structs sizes earlier [] hs e k q = ([], tt, sym (fine_back earlier hs q) ∙ sym (append-nil earlier))
made_headings g ds structs sizes earlier (f ∷ fs) hs e k q =
    let z = parted (heading (at_function g ds f) f) _ hs q in
    let n = needed f.spot T2 (is_none (own_call f.name) && may_stand earlier z.0) _ hs z.2 in
    let r = made_headings g ds structs sizes (earlier ++ z.0 ∷ []) fs hs e k n.1 in
    (z.0 ∷ r.0, (made_heading (at_function g ds f) structs sizes f z.0 e (k (at_function g ds f).above) z.1, second (is_none (own_call f.name)) (may_stand earlier z.0) n.0, r.1), r.2 ∙ one_on earlier r.0 z.0)
