-- Names of structs that are numbered one after another, and what is known of them.
use Rattle.std.proofs.Common.{ℕ, suc, ◌+◌, ◌≡◌, ◌<◌, ◌≤◌, List, [], ◌∷◌, ◌++◌, length, get_or, take, drop, Option, None, Bool, true, false, refl, sym, ap, ◌∙◌, subst, arith}
use Rattle.std.specs.Prelude.{◌||◌, slice_index_or}
use Rattle.std.proofs.lemmas.List.{length-take-le, take_all, drop_all}
use Rattle.std.specs.Map.{lookup}
use Rattle.std.specs.Ordering.{nat_cmp}
use Rattle.std.specs.Cmp.Lexicographic.{slice_cmp}
use Rattle.std.specs.BTreeMap.{BTreeMap, is_at}
use denote.Ref.{Bor}
use Rattle.oc_source.specs.declared.parsed.FieldDef.{FieldDef}
use Rattle.oc_source.specs.declared.parsed.StructDef.{StructDef}
use Rattle.type_rules.specs.Written.{struct_names, number_or, field_public, some_public_field}
use Rattle.written_types.specs.Numbers.{Numbers}
use Rattle.written_types.proofs.EachItem.{at_item, to_item}

pub numbers_none : (m : BTreeMap (Bor (List ℕ)) ℕ) → m.entries ≡ [] → Numbers m []
numbers_none m e = record { at = λ x. ap (λ es. lookup (is_at (λ k. slice_cmp nat_cmp x k.now)) es) e }

names_push : (ds : List StructDef) (d : StructDef) → struct_names (ds ++ d ∷ []) ≡ struct_names ds ++ d.name ∷ []
names_push [] d = refl
names_push (e ∷ es) d = ap (λ xs. e.name ∷ xs) (names_push es d)

names_length : (ds : List StructDef) → length (struct_names ds) ≡ length ds
names_length [] = refl
names_length (d ∷ ds) = ap suc (names_length ds)

pub numbered_more : (old new : BTreeMap (Bor (List ℕ)) ℕ) (ds : List StructDef) (i : ℕ) (d : StructDef) (read : List ℕ) → ((xs : List (List ℕ)) → Numbers old xs → i ≡ length xs → Numbers new (xs ++ read ∷ [])) → read ≡ d.name → d ≡ get_or ds i d → i < length ds → Numbers old (struct_names (take i ds)) → Numbers new (struct_names (take (i + 1) ds))
numbered_more old new ds i d read f e q l h =
    let w : i ≤ length ds = omega (arith, l) in
    let n : i ≡ length (struct_names (take i ds)) = sym (names_length (take i ds) ∙ length-take-le i ds w) in
    subst (λ xs. Numbers new xs) (ap (λ x. struct_names (take i ds) ++ x ∷ []) e ∙ sym (ap struct_names (to_item ds i d q l) ∙ names_push (take i ds) d))
    (f (struct_names (take i ds)) h n)

pub numbered_all : (m : BTreeMap (Bor (List ℕ)) ℕ) (ds : List StructDef) (i : ℕ) → length ds ≤ i → Numbers m (struct_names (take i ds)) → Numbers m (struct_names ds)
numbered_all m ds i l h = subst (λ es. Numbers m (struct_names es)) (take_all i ds l) h

past : (bs : List Bool) → false ≡ slice_index_or bs (length bs) false
past [] = refl
past (b ∷ bs) = past bs

pub none_known : (bs : List Bool) (o : Option ℕ) → None ≡ o → false ≡ slice_index_or bs (number_or (length bs) o) false
none_known bs o e = past bs ∙ ap (λ o. slice_index_or bs (number_or (length bs) o) false) e

module _ (names : List (List ℕ)) (known : List Bool) (fs : List FieldDef) (i : ℕ) (f : FieldDef) (all b : Bool) (inv : some_public_field names known (drop i fs) ≡ all) (at : f ≡ get_or fs i f) (within : i < length fs) (is : b ≡ field_public names known f) where
  item_or : (b || some_public_field names known (drop (i + 1) fs)) ≡ all
  item_or = ap (λ b. b || some_public_field names known (drop (i + 1) fs)) is ∙ ap (λ gs. some_public_field names known gs) (sym (at_item fs i f at within)) ∙ inv

  pub one_public : b ≡ true → true ≡ all
  one_public e = ap (λ b. b || some_public_field names known (drop (i + 1) fs)) (sym e) ∙ item_or

  pub not_public : b ≡ false → some_public_field names known (drop (i + 1) fs) ≡ all
  not_public e = ap (λ b. b || some_public_field names known (drop (i + 1) fs)) (sym e) ∙ item_or

pub no_more_public : (names : List (List ℕ)) (known : List Bool) (fs : List FieldDef) (i : ℕ) (all : Bool) → some_public_field names known (drop i fs) ≡ all → length fs ≤ i → false ≡ all
no_more_public names known fs i all inv l = sym (ap (λ gs. some_public_field names known gs) (drop_all i fs l)) ∙ inv
