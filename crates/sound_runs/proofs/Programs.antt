-- Well typed programs have the shapes that walks want.
use Rattle.std.proofs.Common.{ℕ, zero, suc, ◌+◌, ◌≡◌, List, [], ◌∷◌, length, take, Some, refl, sym, ap, ◌∙◌, subst, Bool, true, nat_eq, arith}
use Rattle.std.specs.Prelude.{not, nat_le, slice_get, codes}
use Rattle.oc_cells.specs.declared.types.CType.{CType, Int, Pointer', Array', Struct, Nothing}
use Rattle.oc_cells.specs.declared.types.SlotType.{SlotType}
use Rattle.oc_cells.specs.declared.types.StructType.{StructType}
use Rattle.oc_cells.specs.Types.{public_structs}
use Rattle.oc_cells.specs.Layout.{struct_cells, struct_leaves}
use Rattle.oc_typed.specs.declared.typed.TypedFunction.{TypedFunction}
use Rattle.oc_typed.specs.Visible.{after_params}
use Rattle.oc_typing.specs.Rules.{all, is_leaf, same_name, differ, struct_names, are_structs}
use Rattle.oc_typing.specs.Typed.{context, slot_types, param_types, slots_in_all, count_up, is_slot, is_result, stmts, function, is_entry, function_names}
use Rattle.typed_runs.specs.Shapes.{Heading}
use Rattle.typed_runs.specs.Statements.{ParamsOk, IsResult, FunctionOk}
use Rattle.typed_runs.proofs.Calls.{never_odd}
use Rattle.sound_runs.specs.Laws.{heading, headings, TypedTreesAreRight, TypedNeverOdd}
use Rattle.sound_runs.proofs.Bools.{first, second, kept, never, all2, all4, all5, all6}
use Rattle.sound_runs.proofs.Rules.{leaf_right, nothing_is}
use Rattle.sound_runs.proofs.Stmts.{none_some, some_is, stmts_right}

-- these slots stand from a number on
abbrev Stand : List SlotType → ℕ → List SlotType → Type 0
Stand slots n [] = Unit {0}
Stand slots n (s ∷ ss) = (slice_get slots n ≡ Some s) × Stand slots (suc n) ss

no_more : (n : ℕ) → n + 0 ≡ n
no_more n = omega arith

none_more : (i : ℕ) → 0 + i ≡ i
none_more i = omega arith

one_later : (n i : ℕ) → n + suc i ≡ suc n + i
one_later n i = omega arith

stand : (k : ℕ) (xs slots : List SlotType) (n : ℕ) → ((i : ℕ) → slice_get slots (n + i) ≡ slice_get xs i) → Stand slots n (take k xs)
stand zero xs slots n h = tt
stand (suc k) [] slots n h = tt
stand (suc k) (x ∷ xs) slots n h = (subst (λ m. slice_get slots m ≡ Some x) (no_more n) (h zero), stand k xs slots (suc n) (λ i. subst (λ m. slice_get slots m ≡ slice_get xs i) (one_later n i) (h (suc i))))

params_right : (ss slots : List SlotType) (n : ℕ) → Stand slots n ss → all is_leaf (slot_types ss) ≡ true → ParamsOk slots n (slot_types ss)
params_right [] slots n h i = tt
params_right (s ∷ ss) slots n h i =
    let z = all2 (leaf_right s.ty) (params_right ss slots (suc n) h.1) i in
    (record { type = s; there = h.0; is = refl; leaf = z.0 }, z.1)

leaf_result : (t : CType) → is_leaf t ≡ true → IsResult t
leaf_result (Int k o) h = tt
leaf_result (Pointer' f u t) h = tt
leaf_result (Struct n) h = never h
leaf_result (Array' n u t) h = never h
leaf_result Nothing h = never h

result_right : (sizes : List ℕ) (public : List Bool) (t : CType) → is_result sizes public t ≡ true → IsResult t
result_right sizes public Nothing h = tt
result_right sizes public (Int k o) h = tt
result_right sizes public (Pointer' f u t) h = tt
result_right sizes public (Struct n) h = never h
result_right sizes public (Array' n u t) h = never h

module _ (structs : List StructType) (fs : List TypedFunction) where
  abbrev lss : List (List CType)
  lss = struct_leaves structs

  abbrev slot_ok : SlotType → Bool
  slot_ok = is_slot (struct_cells structs) (public_structs structs)

  function_right : (f : TypedFunction) → function structs fs f ≡ true → FunctionOk lss (headings fs) (heading f) f
  function_right f h =
      let z = all6 (kept (all slot_ok f.slots)) (result_right (struct_cells structs) (public_structs structs) f.result) (kept (nat_le f.params (length f.slots))) (kept (all is_leaf (param_types f))) (kept (count_up f.params (slots_in_all f.body) (length f.slots))) (kept (stmts (context structs fs f) (after_params [] 0 (param_types f)) f.body)) h in
      record {
        result = refl;
        returns = z.1;
        params = params_right (take f.params f.slots) f.slots 0 (stand f.params f.slots f.slots 0 (λ i. ap (λ m. slice_get f.slots m) (none_more i))) z.3;
        body = stmts_right structs fs f z.0 f.body (after_params [] 0 (param_types f)) z.5;
      }

  program_right : (gs : List TypedFunction) (n : ℕ) (h : Heading) → all (function structs fs) gs ≡ true → slice_get (headings gs) n ≡ Some h → (f : TypedFunction) × (slice_get gs n ≡ Some f) × FunctionOk lss (headings fs) h f
  program_right [] n h a q = absurd (none_some q)
  program_right (f ∷ gs) zero h a q = (f, refl, subst (λ h. FunctionOk lss (headings fs) h f) (some_is q) (function_right f (first (function structs fs f) (all (function structs fs) gs) a)))
  program_right (f ∷ gs) (suc n) h a q = program_right gs n h (second (function structs fs f) (all (function structs fs) gs) a) q

number_is : (n m : ℕ) → nat_eq n m ≡ true → n ≡ m
number_is n m h = grind arith

none_taken : (n : ℕ) (ss : List SlotType) → n ≡ 0 → slot_types (take n ss) ≡ []
none_taken n ss q = subst (λ n. slot_types (take n ss) ≡ []) (sym q) refl

entry_right : (fs : List TypedFunction) (n : ℕ) → is_entry (slice_get fs n) ≡ true → slice_get (headings fs) n ≡ Some (record { params = []; result = Nothing })
entry_right [] n h = never h
entry_right (f ∷ fs) zero h =
    let z = all4 (kept (same_name f.name (codes "oc_main"))) (nothing_is f.result) (number_is f.params 0) (kept (not f.obliv)) h in
    ap (λ u. Some (record { params = param_types f; result = u })) z.1 ∙ ap (λ us. Some (record { params = us; result = Nothing })) (none_taken f.params f.slots z.2)
entry_right (f ∷ fs) (suc n) h = entry_right fs n h

pub typed_right : TypedTreesAreRight
typed_right structs fs entry h =
    let z = all5 (kept (are_structs (struct_cells structs) (public_structs structs) [] [] structs)) (kept (differ (struct_names structs))) (kept (all (function structs fs) fs)) (kept (differ (function_names fs))) (entry_right fs entry) h in
    record { program = λ n h q. program_right structs fs fs n h z.2 q; entered = z.4 }

pub typed_never_odd : TypedNeverOdd
typed_never_odd structs fs entry h =
    let z = typed_right structs fs entry h in
    never_odd structs (headings fs) fs entry Nothing z.program z.entered
