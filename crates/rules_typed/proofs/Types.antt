-- What the rules ask of types gives what the test asks.
use Rattle.std.proofs.Common.{ℕ, ◌≡◌, refl, sym, ◌∙◌, Bool, true, false, arith}
use Rattle.std.specs.Prelude.{◌&&◌, ◌||◌, not, nat_le, nat_lt}
use Rattle.oc_values.specs.declared.integers.IntKind.{IntKind}
use Rattle.oc_values.specs.declared.integers.IntKind.TheVariants.{Bool as KBool, I8, U8, I16, U16, I32, U32, I64, U64}
use Rattle.oc_values.specs.declared.integers.BinaryOp.{BinaryOp}
use Rattle.oc_values.specs.declared.integers.BinaryOp.TheVariants.{Add, Sub, Less, LessEq, Greater, GreaterEq, Equal, NotEqual}
use Rattle.oc_values.specs.Integers.{kind_of_result}
use Rattle.oc_values.specs.Kinds.{number_of_kind, promoted, result_kind}
use Rattle.oc_cells.specs.declared.types.CType.{CType, Int, Pointer', Array', Struct, Nothing, end_of-CType, more_of-CType}
use Rattle.oc_cells.specs.Types.{alike, same, first_type, target, is_pointer, is_integer, is_hidden}
use Rattle.oc_cells.proofs.Equal.{same_is_equal}
use Rattle.type_rules.specs.Judging.{both_integers}
use Rattle.oc_typing.specs.Rules.{is_nothing, is_promoted}
use Rattle.oc_typing.specs.Typed.{Context, is_of_node}
use Rattle.type_rules.specs.Judging as judging
use Rattle.oc_typing.specs.Rules as test
use Rattle.oc_values.specs.Kinds as kinds
use Rattle.rules_typed.proofs.Bools.{both, either_null, either_way, first, never, or_none, second}

-- a type is the same as itself
pub itself : (u : CType) → same true u u ≡ true
itself u = (same_is_equal u u).itself refl

-- the type of `NULL` is so for the rules and for the test
pub null_same : (g : Context) (u : CType) → is_of_node g u ≡ true → judging.is_null u ≡ true → test.is_null u ≡ true
null_same g (Pointer' false v s) h i = i
null_same g (Pointer' true v (more_of-CType Nothing end_of-CType)) h i = never h
null_same g (Pointer' true v (more_of-CType (Int k o) end_of-CType)) h i = never i
null_same g (Pointer' true v (more_of-CType (Pointer' f w s) end_of-CType)) h i = never i
null_same g (Pointer' true v (more_of-CType (Array' n w s) end_of-CType)) h i = never i
null_same g (Pointer' true v (more_of-CType (Struct n) end_of-CType)) h i = never i
null_same g (Int k o) h i = never i
null_same g (Array' n v s) h i = never i
null_same g (Struct n) h i = never i
null_same g Nothing h i = never i

-- what gives no truth value has the kind of its operands
pub plain_kind : (op : BinaryOp) (k : IntKind) → judging.is_comparison op ≡ false → (result_kind op k ≡ k) × (kind_of_result op k ≡ k)
plain_kind Less k h = never (sym h)
plain_kind LessEq k h = never (sym h)
plain_kind Greater k h = never (sym h)
plain_kind GreaterEq k h = never (sym h)
plain_kind Equal k h = never (sym h)
plain_kind NotEqual k h = never (sym h)
plain_kind _ k h = (refl, refl)

-- a comparison gives a truth value
pub compared_kind : (op : BinaryOp) (k : IntKind) → judging.is_comparison op ≡ true → (result_kind op k ≡ KBool) × (kind_of_result op k ≡ I32)
compared_kind Less k h = (refl, refl)
compared_kind LessEq k h = (refl, refl)
compared_kind Greater k h = (refl, refl)
compared_kind GreaterEq k h = (refl, refl)
compared_kind Equal k h = (refl, refl)
compared_kind NotEqual k h = (refl, refl)
compared_kind _ k h = never h

-- a conversion that changes something is one of integers or of pointers
pub changes : (g : Context) (u y : CType) → is_of_node g u ≡ true → judging.converts u y ≡ true → same true u y ≡ false → test.converts u y ≡ true
changes g (Int k true) (Int l true) h i s = refl
changes g (Int k true) (Int l false) h i s = never i
changes g (Int k false) (Int l q) h i s = refl
changes g (Int k o) (Pointer' f v x) h i s = never (second (not (is_nothing (first_type x))) false (or_none _ i))
changes g (Int k o) (Array' n v x) h i s = never i
changes g (Int k o) (Struct n) h i s = never i
changes g (Int k o) Nothing h i s = never i
changes g (Pointer' f v x) (Int k o) h i s = never i
changes g (Pointer' f v x) (Pointer' e w y) h i s =
    either_null (judging.is_null (Pointer' f v x)) (test.is_null (Pointer' f v x)) (same false (Pointer' f v x) (Pointer' e w y)) (null_same g (Pointer' f v x) h) (second (not (is_nothing (first_type y))) (judging.is_null (Pointer' f v x) || same false (Pointer' f v x) (Pointer' e w y)) (or_none _ i))
changes g (Pointer' f v x) (Array' n w y) h i s = never i
changes g (Pointer' f v x) (Struct n) h i s = never i
changes g (Pointer' f v x) Nothing h i s = never i
changes g (Struct n) (Struct m) h i s = never (sym s ∙ i)
changes g (Struct n) (Int k o) h i s = never i
changes g (Struct n) (Pointer' f v x) h i s = never (second (not (is_nothing (first_type x))) false (or_none _ i))
changes g (Struct n) (Array' m v x) h i s = never i
changes g (Struct n) Nothing h i s = never i
changes g (Array' n v x) (Int k o) h i s = never i
changes g (Array' n v x) (Pointer' f w y) h i s = never (second (not (is_nothing (first_type y))) false (or_none _ i))
changes g (Array' n v x) (Array' m w y) h i s = never i
changes g (Array' n v x) (Struct m) h i s = never i
changes g (Array' n v x) Nothing h i s = never i
changes g Nothing (Int k o) h i s = never i
changes g Nothing (Pointer' f w y) h i s = never (second (not (is_nothing (first_type y))) false (or_none _ i))
changes g Nothing (Array' m w y) h i s = never i
changes g Nothing (Struct m) h i s = never i
changes g Nothing Nothing h i s = never i

-- a public integer is so for the rules and for the test
pub public_test : (u : CType) → judging.is_public u ≡ true → test.is_public u ≡ true
public_test (Int k o) h = h
public_test (Pointer' f v s) h = never h
public_test (Array' n v s) h = never h
public_test (Struct n) h = never h
public_test Nothing h = never h

-- what leads to something is no `NULL`
pub not_null : (u : CType) → judging.leads u ≡ true → not (test.is_null u) ≡ true
not_null (Pointer' false v s) h = h
not_null (Pointer' true v s) h = refl
not_null (Int k o) h = refl
not_null (Array' n v s) h = refl
not_null (Struct n) h = refl
not_null Nothing h = refl

-- a pointer steps by a public amount
pub step_test : (u y : CType) → judging.steps u y ≡ true → test.step u u y ≡ true
step_test u y a =
    both (both (both (itself u) (first (is_pointer u) (not (is_nothing (target u))) (first (judging.leads u) (judging.is_public y) a))) (not_null u (first (judging.leads u) (judging.is_public y) a))) (public_test y (second (judging.leads u) (judging.is_public y) a))

-- a pointer is no integer
pub no_address : (u : CType) → is_pointer u ≡ true → judging.is_public u ≡ true → false ≡ true
no_address (Pointer' f v s) h i = i
no_address (Int k o) h i = h
no_address (Array' n v s) h i = h
no_address (Struct n) h i = h
no_address Nothing h i = h

-- what asks whether operands are the same is no sum
pub no_sum : (op : BinaryOp) → judging.is_equality op ≡ true → (judging.is_add op || judging.is_minus op) ≡ false
no_sum Equal h = refl
no_sum NotEqual h = refl
no_sum _ h = never h

pub no_add : (op : BinaryOp) → judging.is_equality op ≡ true → judging.is_add op ≡ false
no_add Equal h = refl
no_add NotEqual h = refl
no_add _ h = never h

-- what is converted to is held as a whole
pub held_of : (u y : CType) → judging.converts u y ≡ true → test.is_held y ≡ true
held_of u (Int k o) h = refl
held_of u (Pointer' f v s) h = refl
held_of u (Struct n) h = refl
held_of u (Array' n v s) h = never (second (is_integer u) false (first (is_integer u && false) (not (is_hidden u) || false) (or_none _ (or_none _ h))))
held_of u Nothing h = never (second (is_integer u) false (first (is_integer u && false) (not (is_hidden u) || false) (or_none _ (or_none _ h))))

-- a sum and a difference are so for the rules and for the test
pub sum_same : (op : BinaryOp) → (judging.is_add op || judging.is_minus op) ≡ true → (test.is_addition op || judging.is_minus op) ≡ true
sum_same Add h = refl
sum_same Sub h = refl
sum_same _ h = never h

-- numbers of kinds
pub not_over : (a b : ℕ) → nat_lt a b ≡ true → nat_le a b ≡ true
not_over a b h = grind arith

pub not_self : (a : ℕ) → nat_le a a ≡ true
not_self a = grind arith

-- the kind that two promoted kinds have in common has no lesser number than the first
pub wider_over : (k l : IntKind) → is_promoted k ≡ true → is_promoted l ≡ true → nat_le (number_of_kind k) (number_of_kind (kinds.wider k l)) ≡ true
wider_over I32 I32 h i = refl
wider_over I32 U32 h i = refl
wider_over I32 I64 h i = refl
wider_over I32 U64 h i = refl
wider_over U32 I32 h i = refl
wider_over U32 U32 h i = refl
wider_over U32 I64 h i = refl
wider_over U32 U64 h i = refl
wider_over I64 I32 h i = refl
wider_over I64 U32 h i = refl
wider_over I64 I64 h i = refl
wider_over I64 U64 h i = refl
wider_over U64 I32 h i = refl
wider_over U64 U32 h i = refl
wider_over U64 I64 h i = refl
wider_over U64 U64 h i = refl
wider_over KBool l h i = never h
wider_over I8 l h i = never h
wider_over U8 l h i = never h
wider_over I16 l h i = never h
wider_over U16 l h i = never h
wider_over k l h i = never i

-- a promoted kind is so for the test
pub promoted_is : (k : IntKind) → is_promoted (promoted k) ≡ true
promoted_is KBool = refl
promoted_is I8 = refl
promoted_is U8 = refl
promoted_is I16 = refl
promoted_is U16 = refl
promoted_is I32 = refl
promoted_is U32 = refl
promoted_is I64 = refl
promoted_is U64 = refl

-- the common kind has no lesser number than the promoted first
pub common_over : (k m : IntKind) → nat_le (number_of_kind (promoted k)) (number_of_kind (judging.common k m)) ≡ true
common_over k m = wider_over (promoted k) (promoted m) (promoted_is k) (promoted_is m)

-- of an update of an integer, and of another
pub pointer_other : (u : CType) → is_integer u ≡ true → judging.leads u ≡ true → false ≡ true
pointer_other (Int k o) h i = i
pointer_other (Pointer' f v s) h i = h
pointer_other (Array' n v s) h i = h
pointer_other (Struct n) h i = h
pointer_other Nothing h i = h

-- what an operator that computes takes, apart from steps
abbrev pub computed : BinaryOp → CType → CType → Bool
computed op u y = both_integers u y && not (judging.is_comparison op) && (not (is_hidden y) || is_hidden u)

-- an update of an integer computes, of an integer that may be stored in it
pub as_integers : (op : BinaryOp) (u y : CType) → is_integer u ≡ true → judging.takes_update op u y ≡ true → computed op u y ≡ true
as_integers op u y i k =
    either_way (computed op u y) ((judging.is_add op || judging.is_minus op) && judging.steps u y) (λ a. a)
    (λ b. never (pointer_other u i (first (judging.leads u) (judging.is_public y) (second (judging.is_add op || judging.is_minus op) (judging.steps u y) b)))) k

pub value_integer : (op : BinaryOp) (u y : CType) → is_integer u ≡ true → judging.takes_update op u y ≡ true → is_integer y ≡ true
value_integer op u y i k =
    second (is_integer u) (is_integer y)
    (first (both_integers u y) (not (judging.is_comparison op)) (first (both_integers u y && not (judging.is_comparison op)) (not (is_hidden y) || is_hidden u) (as_integers op u y i k)))

pub computes : (op : BinaryOp) (u y : CType) → is_integer u ≡ true → judging.takes_update op u y ≡ true → not (judging.is_comparison op) ≡ true
computes op u y i k =
    second (both_integers u y) (not (judging.is_comparison op)) (first (both_integers u y && not (judging.is_comparison op)) (not (is_hidden y) || is_hidden u) (as_integers op u y i k))

pub value_marked : (op : BinaryOp) (u y : CType) → is_integer u ≡ true → judging.takes_update op u y ≡ true → (not (is_hidden y) || is_hidden u) ≡ true
value_marked op u y i k = second (both_integers u y && not (judging.is_comparison op)) (not (is_hidden y) || is_hidden u) (as_integers op u y i k)

-- an update of what is no integer is a step
pub only_steps : (op : BinaryOp) (u y : CType) → is_integer u ≡ false → judging.takes_update op u y ≡ true → ((judging.is_add op || judging.is_minus op) && judging.steps u y) ≡ true
only_steps op u y i k =
    either_way (computed op u y) ((judging.is_add op || judging.is_minus op) && judging.steps u y)
    (λ a. never (sym i ∙ first (is_integer u) (is_integer y) (first (both_integers u y) (not (judging.is_comparison op)) (first (both_integers u y && not (judging.is_comparison op)) (not (is_hidden y) || is_hidden u) a)))) (λ b. b) k

-- marks are like themselves
pub alike_itself : (o : Bool) → alike o o ≡ true
alike_itself true = refl
alike_itself false = refl
