-- The structs of a program, judged one after another.
use Rattle.std.proofs.Common.{ℕ, suc, ◌+◌, ◌≡◌, ◌<◌, List, [], ◌∷◌, ◌++◌, length, get_or, drop, Result, Ok, Err, refl, sym, ap, ◌∙◌}
use Rattle.std.proofs.lemmas.List.{length_push}
use Rattle.oc_source.specs.declared.parsed.StructDef.{StructDef}
use Rattle.oc_cells.specs.declared.types.CType.{CType, Nothing}
use Rattle.oc_cells.specs.declared.types.StructType.{StructType}
use Rattle.type_rules.specs.declared.judging.Heading.{Heading}
use Rattle.type_rules.specs.Judging.{Judged, next}
use Rattle.type_rules.specs.Lookup.{Lookup}
use Rattle.type_rules.specs.Written.{struct_type, struct_names, structs_from, with_struct}
use Rattle.type_steps.specs.declared.fault.TypeFault.{TypeFault}
use Rattle.type_steps.specs.Answering.{Answers}
use Rattle.type_steps.proofs.Steps.{said_as}
use Rattle.written_types.specs.declared.names.Names.{Names}
use Rattle.written_types.specs.declared.shape.Shape.{Shape}
use Rattle.written_types.specs.declared.shapes.Shapes.{Shapes}
use Rattle.written_types.specs.Each.{mapped}
use Rattle.written_types.specs.Shapes.{types}
use Rattle.written_types.proofs.EachItem.{at_item}
use Rattle.typed_structs.specs.Structs.{structs_lookup, after_structs}
use Rattle.typed_structs.proofs.Judging.{stops}

pub types_push : (ss : List Shape) (s : Shape) → types (ss ++ s ∷ []) ≡ types ss ++ s.ty ∷ []
types_push [] s = refl
types_push (t ∷ ts) s = ap (λ us. t.ty ∷ us) (types_push ts s)

pub types_length : (ss : List Shape) → length ss ≡ length (types ss)
types_length [] = refl
types_length (s ∷ ss) = ap suc (types_length ss)

-- what is known at the next struct
abbrev pub known_with : Names → List StructType → ℕ → List Heading → CType → Lookup
known_with n ss a hs t = record { names = struct_names n.defs.now; public = n.public; structs = ss; above = a; bodies = hs; result = t; seen = [] }

pub known_as : (n : Names) (s : Shapes) (a : ℕ) (hs : List Heading) (t : CType) → a ≡ length s.list → hs ≡ [] → t ≡ Nothing → known_with n (types s.list) a hs t ≡ after_structs n s
known_as n s a hs t e h q =
    ap (λ a. known_with n (types s.list) a hs t) (e ∙ types_length s.list) ∙ ap (λ hs. known_with n (types s.list) (length (types s.list)) hs t) h
    ∙ ap (λ t. known_with n (types s.list) (length (types s.list)) [] t) q

after_more : (n : Names) (old new : Shapes) (s : Shape) → new.list ≡ old.list ++ s ∷ [] → after_structs n new ≡ with_struct (after_structs n old) s.ty
after_more n old new s e =
    let t : types new.list ≡ types old.list ++ s.ty ∷ [] = ap types e ∙ types_push old.list s in
    ap (λ ss. known_with n ss (length ss) [] Nothing) t
    ∙ ap (λ a. known_with n (types old.list ++ s.ty ∷ []) a [] Nothing) (length_push (types old.list) s.ty)

next_of : {A B : Type 0} (m : Judged A) (k : A → Judged B) (a : A) → m ≡ Ok a → next m k ≡ k a
unfolding next
next_of m k a h = ap (λ m. next m k) h

-- what is left of the structs gives what all of them give
abbrev pub StructsLeft : Names → List StructDef → ℕ → Shapes → Type 0
StructsLeft n ds i s = structs_from (after_structs n s) (drop i ds) ≡ structs_from (structs_lookup n) ds

pub structs_go_on : (n : Names) (ds : List StructDef) (i : ℕ) (old new : Shapes) (d : StructDef) (s : Shape) → StructsLeft n ds i old → d ≡ get_or ds i d → i < length ds → struct_type (after_structs n old) d ≡ Ok s.ty → new.list ≡ old.list ++ s ∷ [] → StructsLeft n ds (i + 1) new
structs_go_on n ds i old new d s inv e l h q =
    ap (λ g. structs_from g (drop (i + 1) ds)) (after_more n old new s q)
    ∙ sym (next_of (struct_type (after_structs n old) d) (λ s. structs_from (with_struct (after_structs n old) s) (drop (i + 1) ds)) s.ty h)
    ∙ ap (λ ds. structs_from (after_structs n old) ds) (sym (at_item ds i d e l)) ∙ inv

pub structs_fail : (n : Names) (ds : List StructDef) (i : ℕ) (old : Shapes) (d : StructDef) {B : Type 0} (view : B → Lookup) {f g : TypeFault} (r : Result B TypeFault) → StructsLeft n ds i old → d ≡ get_or ds i d → i < length ds → Answers {A = StructType} (struct_type (after_structs n old) d) (Err f) → r ≡ Err g → g ≡ f → Answers (structs_from (structs_lookup n) ds) (mapped view r)
structs_fail n ds i old d view r inv e l h p q =
    said_as (ap (λ ds. structs_from (after_structs n old) ds) (sym (at_item ds i d e l)) ∙ inv)
    (stops (struct_type (after_structs n old) d) (λ s. structs_from (with_struct (after_structs n old) s) (drop (i + 1) ds)) view r h p q)
