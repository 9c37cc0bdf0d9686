-- The tests of types give the shapes that walks want.
use Rattle.std.proofs.Common.{ℕ, zero, suc, ◌≡◌, ℤ, List, [], ◌∷◌, ◌++◌, refl, sym, ap, ◌∙◌, subst, Bool, true, false, nat_eq, arith}
use Rattle.std.specs.Prelude.{◌&&◌, ◌||◌, not, nat_le, slice_get, if◌then◌else◌}
use Rattle.oc_values.specs.declared.integers.IntKind.{IntKind}
use Rattle.oc_values.specs.declared.integers.IntKind.TheVariants.{Bool as KBool, I32}
use Rattle.oc_values.specs.declared.integers.BinaryOp.{BinaryOp}
use Rattle.oc_values.specs.declared.integers.BinaryOp.TheVariants.{Less, LessEq, Greater, GreaterEq, Equal, NotEqual}
use Rattle.oc_values.specs.declared.integers.OneOp.{OneOp}
use Rattle.oc_values.specs.Integers.{kind_of_result}
use Rattle.oc_values.specs.Kinds.{number_of_kind, same_kind, promoted, is_shift, result_kind}
use Rattle.oc_cells.specs.declared.types.CType.{CType, Int, Pointer', Array', Struct, Nothing, Row_of-CType, end_of-CType, more_of-CType}
use Rattle.oc_cells.specs.declared.types.FieldType.{FieldType}
use Rattle.oc_cells.specs.declared.types.StructType.{StructType}
use Rattle.oc_cells.specs.Types.{same, is_normal, is_pointer, is_frozen_pointer, target, IsLeaf}
use Rattle.oc_cells.specs.Layout.{struct_cells, or_none, repeated, leaves, leaves_row, field_leaves, leaves_after, struct_leaves}
use Rattle.oc_cells.proofs.Equal.{same_is}
use Rattle.oc_cells.proofs.Lengths.{length_in}
use Rattle.oc_cells.specs.Types.{AreLeaves}
use Rattle.oc_typed.specs.declared.typed.PrintPiece.{PrintPiece}
use Rattle.oc_typed.specs.declared.typed.PrintPiece.TheVariants.{Text, Decimal, Byte}
use Rattle.oc_typed.specs.Static.{working_kind, one_type, two_type}
use Rattle.oc_typing.specs.Rules.{is_sized, is_whole, is_whole_row, is_type, is_nothing, is_null, is_public, is_promoted, is_leaf, is_held, is_comparison, number, address, decay, takes_one, unary, marks, binary, step, alike_pointers, logic, update, converts, same_all, formats}
use Rattle.typed_runs.specs.Shapes.{Sized, Held, integer, pointer, struct, UnaryOk, unary_ok, Operands, alike_marks, by_public, BinaryOk, binary_ok, UpdateOk, steps, computes, ConvertOk, kinds, pointers, StepOk, step_ok, LogicOk, hidden_logic, public_logic, PublicOk, public_ok, NumberOk, Formats, no_pieces, a_text, a_number, a_byte}
use Rattle.sound_runs.proofs.Bools.{first, second, kept, never, all2, all3, all4}

-- Sizes.

whole_sized : (ss : List ℕ) (t : CType) → is_whole ss t ≡ true → is_sized ss t ≡ true
whole_sized ss (Int k o) h = refl
whole_sized ss (Pointer' f u t) h = refl
whole_sized ss (Array' n u t) h = first (is_sized ss (Array' n u t)) (is_whole_row ss t) h
whole_sized ss (Struct n) h = h
whole_sized ss Nothing h = never h

abbrev AllLeaves : List (List CType) → Type 0
AllLeaves [] = Unit {0}
AllLeaves (ls ∷ lss) = AreLeaves ls × AllLeaves lss

leaves_append : (ls ms : List CType) → AreLeaves ls → AreLeaves ms → AreLeaves (ls ++ ms)
leaves_append [] ms h i = i
leaves_append (l ∷ ls) ms h i = (h.0, leaves_append ls ms h.1 i)

leaves_repeated : (n : ℕ) (ls : List CType) → AreLeaves ls → AreLeaves (repeated n ls)
leaves_repeated zero ls h = tt
leaves_repeated (suc n) ls h = leaves_append (repeated n ls) ls (leaves_repeated n ls h) h

leaves_known : (lss : List (List CType)) (n : ℕ) → AllLeaves lss → AreLeaves (or_none (slice_get lss n))
leaves_known [] n h = tt
leaves_known (ls ∷ lss) zero h = h.0
leaves_known (ls ∷ lss) (suc n) h = leaves_known lss n h.1

mutual
  leaves_flat : (lss : List (List CType)) (t : CType) → AllLeaves lss → AreLeaves (leaves lss t)
  leaves_flat lss (Int k o) h = (tt, tt)
  leaves_flat lss (Pointer' f u t) h = (tt, tt)
  leaves_flat lss (Array' n u t) h = leaves_repeated n (leaves_row lss t) (leaves_flat_row lss t h)
  leaves_flat lss (Struct n) h = leaves_known lss n h
  leaves_flat lss Nothing h = tt

  leaves_flat_row : {m : _} (lss : List (List CType)) (t : Row_of-CType m) → AllLeaves lss → AreLeaves (leaves_row lss t)
  leaves_flat_row lss (more_of-CType t ts) h = leaves_flat lss t h
  leaves_flat_row lss end_of-CType h = tt

fields_flat : (lss : List (List CType)) (fs : List FieldType) → AllLeaves lss → AreLeaves (field_leaves lss fs)
fields_flat lss [] h = tt
fields_flat lss (f ∷ fs) h = leaves_append (leaves lss f.ty) (field_leaves lss fs) (leaves_flat lss f.ty h) (fields_flat lss fs h)

all_append : (lss : List (List CType)) (ls : List CType) → AllLeaves lss → AreLeaves ls → AllLeaves (lss ++ ls ∷ [])
all_append [] ls h i = (i, tt)
all_append (ks ∷ lss) ls h i = (h.0, all_append lss ls h.1 i)

after_flat : (known : List (List CType)) (ss : List StructType) → AllLeaves known → AllLeaves (leaves_after known ss)
after_flat known [] h = h
after_flat known (s ∷ ss) h = after_flat (known ++ field_leaves known s.fields ∷ []) ss (all_append known (field_leaves known s.fields) h (fields_flat known s.fields h))

abbrev size_test : ℕ → Bool
size_test n = nat_le 1 n && nat_le n 65536

pub sized_right : (structs : List StructType) (t : CType) → is_sized (struct_cells structs) t ≡ true → Sized (struct_leaves structs) t
sized_right structs t h = record {
  size = subst (λ n. size_test n ≡ true) (sym (length_in structs t)) h;
  flat = leaves_flat (struct_leaves structs) t (after_flat [] structs tt);
}

pub type_right : (structs : List StructType) (public : List Bool) (t : CType) → is_type (struct_cells structs) public t ≡ true → Sized (struct_leaves structs) t
type_right structs public t h = sized_right structs t (whole_sized (struct_cells structs) t (second (is_normal public false t) (is_whole (struct_cells structs) t) h))

pub held_right : (structs : List StructType) (public : List Bool) (t : CType) → is_held t ≡ true → is_type (struct_cells structs) public t ≡ true → Held (struct_leaves structs) t
held_right structs public (Int k o) h i = integer
held_right structs public (Pointer' f u t) h i = pointer
held_right structs public (Struct n) h i = struct (type_right structs public (Struct n) i)
held_right structs public (Array' n u t) h i = never h
held_right structs public Nothing h i = never h

pub leaf_right : (t : CType) → is_leaf t ≡ true → IsLeaf t
leaf_right (Int k o) h = tt
leaf_right (Pointer' f u t) h = tt
leaf_right (Struct n) h = never h
leaf_right (Array' n u t) h = never h
leaf_right Nothing h = never h

-- Forms.

pub nothing_is : (t : CType) → is_nothing t ≡ true → t ≡ Nothing
nothing_is Nothing h = refl
nothing_is (Int k o) h = never h
nothing_is (Pointer' f u t) h = never h
nothing_is (Struct n) h = never h
nothing_is (Array' n u t) h = never h

pub null_right : (t : CType) → is_null t ≡ true → is_pointer t ≡ true
null_right (Pointer' f u t) h = refl
null_right (Int k o) h = never h
null_right (Struct n) h = never h
null_right (Array' n u t) h = never h
null_right Nothing h = never h

pub public_right : (t : CType) → is_public t ≡ true → PublicOk t
public_right (Int k false) h = public_ok
public_right (Int k true) h = never h
public_right (Pointer' f u t) h = never h
public_right (Struct n) h = never h
public_right (Array' n u t) h = never h
public_right Nothing h = never h

pub number_right : (t : CType) (n : ℤ) → number t n ≡ true → NumberOk t n
number_right (Int k false) n h = h
number_right (Int k true) n h = never h
number_right (Pointer' f u t) n h = never h
number_right (Struct m) n h = never h
number_right (Array' m u t) n h = never h
number_right Nothing n h = never h

pub address_right : (t u : CType) → address t u ≡ true → is_pointer t ≡ true
address_right t u h = (all3 (kept (is_pointer t)) (kept (not (is_frozen_pointer t))) (kept (same true (target t) u)) h).0

pub decay_right : (t u : CType) → decay t u ≡ true → is_pointer t ≡ true
decay_right t (Array' n u s) h = address_right t _ h
decay_right t (Int k o) h = never h
decay_right t (Pointer' f u s) h = never h
decay_right t (Struct n) h = never h
decay_right t Nothing h = never h

pub unary_right : (op : OneOp) (t u : CType) → unary op t u ≡ true → UnaryOk op t u
unary_right op t (Int k o) h = unary_ok (same_is t (one_type op k o) (second (takes_one op k) (same true t (one_type op k o)) h))
unary_right op t (Pointer' f u s) h = never h
unary_right op t (Struct n) h = never h
unary_right op t (Array' n u s) h = never h
unary_right op t Nothing h = never h

operands_right : (op : BinaryOp) (k m : IntKind) (o q : Bool) → marks op o q ≡ true → (is_shift op || same_kind k m) ≡ true → Operands op k m o q
operands_right op k m true true h i = alike_marks i
operands_right op k m false false h i = alike_marks i
operands_right op k m true false h i = by_public (first (is_shift op) true h)
operands_right op k m false true h i = never (second (is_shift op) false h)

pub binary_right : (op : BinaryOp) (t u y : CType) → binary op t u y ≡ true → BinaryOk op t u y
binary_right op t (Int k o) (Int m q) h =
    let z = all3 (all3 (kept (is_promoted k)) (kept (is_promoted m)) (kept (is_shift op || same_kind k m))) (kept (marks op o q)) (same_is t (two_type op k o)) h in
    binary_ok (operands_right op k m o q z.1 z.0.2) (z.2)
binary_right op t _ _ h = never h

pub step_right : (t u y : CType) → step t u y ≡ true → StepOk t u y
step_right t u y h =
    let z = all4 (same_is t u) (kept (is_pointer u)) (kept (not (is_null u))) (public_right y) h in
    step_at y z.3 (subst (λ t. is_pointer t ≡ true) (sym z.0) z.1) z.1
  where
    step_at : (y : CType) → PublicOk y → is_pointer t ≡ true → is_pointer u ≡ true → StepOk t u y
    step_at _ public_ok p q = step_ok p q

pub logic_right : (t u y : CType) → logic t u y ≡ true → LogicOk t u y
logic_right t (Int KBool true) y h =
    let z = all2 (same_is y (Int KBool true)) (same_is t (Int KBool true)) h in
    subst (λ t. LogicOk t (Int KBool true) y) (sym z.1) (subst (λ y. LogicOk (Int KBool true) (Int KBool true) y) (sym z.0) hidden_logic)
logic_right t (Int KBool false) y h =
    let z = all2 (same_is y (Int KBool false)) (same_is t (Int I32 false)) h in
    subst (λ t. LogicOk t (Int KBool false) y) (sym z.1) (subst (λ y. LogicOk (Int I32 false) (Int KBool false) y) (sym z.0) public_logic)
logic_right t _ y h = never h

plain_result : (op : BinaryOp) (k : IntKind) → not (is_comparison op) ≡ true → (result_kind op k ≡ k) × (kind_of_result op k ≡ k)
plain_result Less k h = never h
plain_result LessEq k h = never h
plain_result Greater k h = never h
plain_result GreaterEq k h = never h
plain_result Equal k h = never h
plain_result NotEqual k h = never h
plain_result _ k h = (refl, refl)

plain_type : (op : BinaryOp) (k : IntKind) (o : Bool) → not (is_comparison op) ≡ true → two_type op k o ≡ Int k o
plain_type op k true h = ap (λ l. Int l true) (plain_result op k h).0
plain_type op k false h = ap (λ l. Int l false) (plain_result op k h).1

number_itself : (n : ℕ) → nat_eq n n ≡ true
number_itself n = grind arith

working : (b : Bool) (p m : IntKind) → (b || same_kind (if b then p else m) m) ≡ true
working true p m = refl
working false p m = number_itself (number_of_kind m)

pub update_right : (op : BinaryOp) (u y : CType) → update op u y ≡ true → UpdateOk op u y
update_right op (Pointer' f u t) (Int m false) h = steps
update_right op (Pointer' f u t) (Int m true) h = never h
update_right op (Int k o) (Int m q) h =
    let z = all4 (kept (not (is_comparison op))) (kept (is_promoted m)) (kept (marks op o q)) (kept (is_shift op || nat_le (number_of_kind (promoted k)) (number_of_kind m))) h in
    computes (operands_right op (working_kind op (Int k o) (Int m q)) m o q z.2 (working (is_shift op) (promoted k) m)) (plain_type op (working_kind op (Int k o) (Int m q)) o z.0)
update_right op _ _ h = never h

hides : (o q : Bool) → (not o || q) ≡ true → (o || q) ≡ q
hides true true h = refl
hides true false h = never h
hides false q h = refl

pub convert_right : (u t : CType) → converts u t ≡ true → ConvertOk u t
convert_right (Int k o) (Int l q) h = kinds (hides o q h)
convert_right (Pointer' f u s) t h = pointers refl (first (is_pointer t) (is_null (Pointer' f u s) || same false (Pointer' f u s) t) h)
convert_right _ _ h = never h

pub alike_pointers_right : (u y : CType) → alike_pointers u y ≡ true → (is_pointer u ≡ true) × (is_pointer y ≡ true)
alike_pointers_right u y h =
    let z = all3 (kept (is_pointer u)) (kept (is_pointer y)) (kept (same false u y || is_null u || is_null y)) h in
    (z.0, z.1)

pub same_all_is : (ts us : List CType) → same_all ts us ≡ true → ts ≡ us
same_all_is [] [] h = refl
same_all_is (t ∷ ts) (u ∷ us) h =
    let z = all2 (same_is t u) (same_all_is ts us) h in
    ap (λ x. x ∷ ts) z.0 ∙ ap (λ xs. u ∷ xs) z.1
same_all_is _ _ h = never h

pub formats_right : (ps : List PrintPiece) (ts : List CType) → formats ps ts ≡ true → Formats ps ts
formats_right [] [] h = no_pieces
formats_right [] (t ∷ ts) h = never h
formats_right (Text bytes ∷ ps) ts h = a_text (formats_right ps ts h)
formats_right (Decimal k ∷ ps) (t ∷ ts) h =
    let z = all3 (kept (is_promoted k)) (same_is t (Int k false)) (formats_right ps ts) h in
    subst (λ t. Formats (Decimal k ∷ ps) (t ∷ ts)) (sym z.1) (a_number z.2)
formats_right (Decimal k ∷ ps) [] h = never h
formats_right (Byte ∷ ps) (t ∷ ts) h =
    let z = all2 (same_is t (Int I32 false)) (formats_right ps ts) h in
    subst (λ t. Formats (Byte ∷ ps) (t ∷ ts)) (sym z.0) (a_byte z.1)
formats_right (Byte ∷ ps) [] h = never h
