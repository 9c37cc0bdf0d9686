-- The fields of a struct, judged one by one and then laid, and when it has a size.
use Rattle.std.proofs.Common.{ℕ, ◌+◌, ◌≡◌, ◌<◌, List, [], ◌∷◌, min, Result, Ok, Err, Bool, true, false, nat_le, leb-true, leb-false, refl, sym, ap, ◌∙◌, arith}
use Rattle.std.specs.Prelude.{◌&&◌, nat_lt, not}
use Rattle.oc_source.specs.declared.parsed.FieldDef.{FieldDef}
use Rattle.oc_cells.specs.declared.types.CType.{CType}
use Rattle.oc_cells.specs.declared.types.FieldType.{FieldType}
use Rattle.oc_cells.specs.Layout.{cells, struct_cells}
use Rattle.type_rules.specs.declared.judging.TypeRule.TheVariants.{T2}
use Rattle.type_rules.specs.Judging.{Judged, next, needs}
use Rattle.type_rules.specs.Lookup.{Lookup}
use Rattle.type_rules.specs.Written.{field_type, fields, has_name}
use Rattle.type_steps.specs.declared.fault.TypeFault.{TypeFault}
use Rattle.type_steps.specs.Answering.{Answers}
use Rattle.type_steps.proofs.Steps.{go, stop, fine, said_as}
use Rattle.written_types.specs.Each.{each, mapped}
use Rattle.typed_structs.specs.Fields.{field_judged, type_judged, with_field, new_field, laid}

last_laid : (ss : List ℕ) (d : FieldDef) (at : ℕ) (ty : CType) (rest : Judged (List FieldType)) → next (next rest (λ us. Ok (laid ss (at + cells ss ty) us))) (λ fs. Ok (record { name = d.name; ty = ty; offset = at } ∷ fs)) ≡ next (next rest (λ ys. Ok (new_field d ty ∷ ys))) (λ us. Ok (laid ss at us))
unfolding next
last_laid ss d at ty (Ok us) = refl
last_laid ss d at ty (Err f) = refl

first_laid : (ss : List ℕ) (d : FieldDef) (at : ℕ) (m : Judged CType) (n : Judged (Unit {0})) (tail : CType → Judged (List FieldType)) (rest : Judged (List FieldType)) → ((ty : CType) → tail ty ≡ next rest (λ us. Ok (laid ss (at + cells ss ty) us))) → next m (λ ty. next n (λ _. next (tail ty) (λ fs. Ok (record { name = d.name; ty = ty; offset = at } ∷ fs)))) ≡ next (next (next (next m (λ ty. next n (λ _. Ok ty))) (λ ty. Ok (new_field d ty))) (λ y. next rest (λ ys. Ok (y ∷ ys)))) (λ us. Ok (laid ss at us))
unfolding next
first_laid ss d at (Ok ty) (Ok u) tail rest h = ap (λ m. next m (λ fs. Ok (record { name = d.name; ty = ty; offset = at } ∷ fs))) (h ty) ∙ last_laid ss d at ty rest
first_laid ss d at (Ok ty) (Err f) tail rest h = refl
first_laid ss d at (Err f) n tail rest h = refl

none_laid : (ss : List ℕ) (at : ℕ) → Ok [] ≡ next (Ok []) (λ us. Ok (laid ss at us))
unfolding next
none_laid ss at = refl

-- fields are judged one by one, then laid
fields_from : (g : Lookup) (earlier : List (List ℕ)) (at : ℕ) (ds : List FieldDef) → fields g earlier at ds ≡ next (each (field_judged g) with_field earlier ds) (λ us. Ok (laid (struct_cells g.structs) at us))
fields_from g earlier at [] = none_laid (struct_cells g.structs) at
fields_from g earlier at (d ∷ ds) =
    first_laid (struct_cells g.structs) d at (field_type g d) (needs d.spot T2 (not (has_name earlier d.name)))
    (λ ty. fields g (d.name ∷ earlier) (at + cells (struct_cells g.structs) ty) ds) (each (field_judged g) with_field (d.name ∷ earlier) ds)
    (λ ty. fields_from g (d.name ∷ earlier) (at + cells (struct_cells g.structs) ty) ds)

-- a field that was judged, before it is laid
pub type_gives : (g : Lookup) (earlier : List (List ℕ)) (d : FieldDef) (ty : CType) → Answers (type_judged g earlier d) (Ok ty) → field_judged g earlier d ≡ Ok (new_field d ty)
type_gives g earlier d ty h = (go (type_judged g earlier d) (λ ty. Ok (new_field d ty)) h (fine {a = new_field d ty} refl)).said

pub type_fails : (g : Lookup) (earlier : List (List ℕ)) (d : FieldDef) (f : TypeFault) → Answers {A = CType} (type_judged g earlier d) (Err f) → Answers {A = FieldType} (field_judged g earlier d) (Err f)
type_fails g earlier d f h = stop (type_judged g earlier d) (λ ty. Ok (new_field d ty)) h refl refl

pub fields_answer : (g : Lookup) (ds es : List FieldDef) {r : Result (List FieldType) TypeFault} → es ≡ ds → Answers (next (each (field_judged g) with_field [] es) (λ us. Ok (laid (struct_cells g.structs) 0 us))) r → Answers (fields g [] 0 ds) r
fields_answer g ds es e h = said_as (sym (fields_from g [] 0 es) ∙ ap (λ ds. fields g [] 0 ds) e) h

-- a first step that fails, where the answer is seen otherwise
pub stops : {A B C : Type 0} (m : Judged A) (k : A → Judged C) (view : B → C) {f g : TypeFault} (r : Result B TypeFault) → Answers {A = A} m (Err f) → r ≡ Err g → g ≡ f → Answers (next m k) (mapped view r)
stops m k view r h p q = stop m k h (ap (λ r. mapped view r) p) q

not_within : (x : ℕ) (b : Bool) → 65536 < x → nat_le x 65536 ≡ b → b ≡ false
not_within x true l e = let h = leb-true x 65536 e in absurd (omega (arith, h, l))
not_within x false l e = refl

and_false : (b : Bool) → (b && false) ≡ false
and_false true = refl
and_false false = refl

capped_size : (x : ℕ) (b : Bool) → nat_le x 65537 ≡ b → (nat_le 1 (min x 65537) && nat_le (min x 65537) 65536) ≡ (nat_le 1 x && nat_le x 65536)
capped_size x true e = let m : min x 65537 ≡ x = omega (arith, leb-true x 65537 e) in ap (λ n. nat_le 1 n && nat_le n 65536) m
capped_size x false e =
    let l : 65537 < x = leb-false x 65537 e in
    let m : 65536 < min x 65537 = omega (arith, l) in
    let n : 65536 < x = omega (arith, l) in
    ap (λ b. nat_le 1 (min x 65537) && b) (not_within (min x 65537) _ m refl) ∙ and_false (nat_le 1 (min x 65537))
    ∙ sym (ap (λ b. nat_le 1 x && b) (not_within x _ n refl) ∙ and_false (nat_le 1 x))

-- whether a struct has a size, by cells that are counted up to one more than it may have
pub size_so : (c x y d e : ℕ) → c ≡ min x 65537 → y ≡ x → d ≡ e → (nat_le 1 c && nat_le c 65536 && nat_lt d 64) ≡ (nat_le 1 y && nat_le y 65536 && nat_lt e 64)
size_so c x y d e p q r =
    ap (λ c. nat_le 1 c && nat_le c 65536 && nat_lt d 64) p ∙ ap (λ b. b && nat_lt d 64) (capped_size x (nat_le x 65537) refl)
    ∙ ap (λ x. nat_le 1 x && nat_le x 65536 && nat_lt d 64) (sym q) ∙ ap (λ d. nat_le 1 y && nat_le y 65536 && nat_lt d 64) r
