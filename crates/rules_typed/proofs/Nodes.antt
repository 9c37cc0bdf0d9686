-- Each rule on a node gives what passes the test, of parts that pass it.
use Rattle.std.proofs.Common.{ℕ, ◌≡◌, List, Option, Some, None, Ok, refl, sym, ap, ◌∙◌, subst, Bool, true, false, nat_eq, pos}
use Rattle.std.specs.Prelude.{◌&&◌, ◌||◌, not, if◌then◌else◌, nat_lt}
use Rattle.oc_values.specs.declared.integers.IntKind.{IntKind}
use Rattle.oc_values.specs.declared.integers.IntKind.TheVariants.{Bool as KBool, I32}
use Rattle.oc_values.specs.declared.integers.BinaryOp.{BinaryOp}
use Rattle.oc_values.specs.Integers.{width, is_signed}
use Rattle.oc_values.specs.declared.integers.OneOp.{OneOp}
use Rattle.oc_values.specs.declared.integers.OneOp.TheVariants.{Neg, Plus, Not, Flip}
use Rattle.oc_values.specs.Kinds.{number_of_kind, same_kind, promoted, is_shift}
use Rattle.oc_cells.specs.declared.types.CType.{CType, Int, Pointer', Array', Struct, Nothing, end_of-CType, more_of-CType}
use Rattle.oc_cells.specs.Types.{alike, same, target, is_pointer, is_normal, is_normal_row, mark_allowed, holds_public, holds_public_row, is_integer, is_hidden, kind_of}
use Rattle.oc_cells.proofs.Equal.{same_is}
use Rattle.oc_source.specs.declared.spot.Spot.{Spot}
use Rattle.oc_typed.specs.declared.typed.TExpr.{TExpr}
use Rattle.oc_typed.specs.declared.typed.TPlace.{TPlace}
use Rattle.oc_typed.specs.declared.typed.TExprNode.TheBlock.{hidden-the_row-TExpr-0, hidden-the_row-TExpr-1, hidden-the_row-TPlace-2}
use Rattle.oc_cells.specs.declared.types.CType.TheBlock.{hidden-the_row-CType-0}
use denote.Hole.Carrier.{hidden}
use Rattle.oc_cells.specs.declared.types.CType.TheViews.{Pointer}
use Rattle.oc_cells.specs.declared.types.FieldType.{FieldType}
use Rattle.oc_source.specs.declared.literal.Literal.{Literal}
use Rattle.type_rules.specs.declared.judging.Seen.{Seen}
use Rattle.type_rules.specs.declared.judging.Found.{Found}
use Rattle.type_rules.specs.declared.judging.Found.TheVariants.{Place, Value}
use Rattle.type_rules.specs.declared.judging.TypeRule.{TypeRule}
use Rattle.type_rules.specs.declared.judging.TypeRule.TheVariants.{T3, T4}
use Rattle.type_rules.specs.Judging.{Judged, next, breaks, needs, demand, bare, both_integers}
use Rattle.type_rules.specs.Lookup.{converted, convert, is, number, variable, value_of}
use Rattle.type_rules.specs.Operators.{truth, negate, deny, logic, choice, result_of, arithmetic, operated, operate, follow, index, assigned, updated, working, sum_op, bump, refer, field_at, cast}
use Rattle.oc_typing.specs.Rules.{is_type, is_sized, is_whole, is_nothing, is_promoted, unary}
use Rattle.oc_typing.specs.Typed.{Context, is_of_node, expr, alone}
use Rattle.rules_typed.specs.Agreeing.{Good, Passes, Valued, GoodVariable, GoodField}
use Rattle.oc_source.specs.Literals.{is_literal_kind, holds}
use Rattle.oc_typed.specs.declared.typed.TExprNode.{more_of-TExpr, end_of-TExpr}
use Rattle.oc_source.specs.declared.parsed.UnaryOp.TheVariants.{Neg, Plus, Not, Flip}
use Rattle.oc_typed.specs.declared.typed.TExprNode as t
use Rattle.oc_typed.specs.declared.typed.TPlaceNode as place
use Rattle.type_rules.specs.Judging as judging
use Rattle.oc_typed.specs.Static as static
use Rattle.oc_typing.specs.Rules as test
use Rattle.oc_typing.specs.Typed as typed
use Rattle.oc_values.specs.Kinds as kinds
use Rattle.rules_typed.proofs.Bools.{both, either, first, last, leads, left_marked, marked, never, not_back, one_of, others, right_marked, second, three, turned}
use Rattle.rules_typed.proofs.Types.{computes, alike_itself, changes, common_over, compared_kind, held_of, itself, no_add, no_address, no_sum, null_same, only_steps, plain_kind, promoted_is, public_test, step_test, sum_same, value_integer, value_marked}
use Rattle.rules_typed.proofs.Numbers.{number_itself}

-- a rule that is kept, and what follows
pub if_needs : (g : Context) (vis : List ℕ) (p : Spot) (r : TypeRule) (b : Bool) (k : Judged Found) → (b ≡ true → Passes g vis k) → Passes g vis (next (needs p r b) (λ _. k))
unfolding next
if_needs g vis p r true k f = f refl
if_needs g vis p r false k f = tt

-- types that a node asks for, and what follows
pub if_demand : (g : Context) (vis : List ℕ) (p : Spot) (ok : CType → CType → Bool) (a b : CType) (k : Judged Found) → (ok a b ≡ true → Passes g vis k) → Passes g vis (next (demand p ok a b) (λ _. k))
unfolding next
if_demand g vis p ok a b k f = at (ok a b) (ok (bare a) (bare b)) f
  where
    at : (c d : Bool) → (c ≡ true → Passes g vis k) → Passes g vis (next (if c then Ok (tt {0}) else if d then breaks p T4 else breaks p T3) (λ _. k))
    at true d f = f refl
    at false true f = tt
    at false false f = tt

-- a conversion, and what follows
pub if_convert : (g : Context) (vis : List ℕ) (u : CType) (e : TExpr) (k : TExpr → Judged Found) → (judging.converts e.ty u ≡ true → Passes g vis (k (converted u e))) → Passes g vis (next (convert u e) k)
unfolding next
if_convert g vis u e k f = at (judging.converts e.ty u) (judging.converts (bare e.ty) (bare u)) f
  where
    at : (c d : Bool) → (c ≡ true → Passes g vis (k (converted u e))) → Passes g vis (next (next (if c then Ok (tt {0}) else if d then breaks e.spot T4 else breaks e.spot T3) (λ _. Ok (converted u e))) k)
    at true d f = f refl
    at false true f = tt
    at false false f = tt

-- whether a value is the number 1, as it stands or converted
abbrev pub is_unit_value : TExpr → Bool
is_unit_value x = typed.is_unit (more_of-TExpr x.spot x.ty x.node end_of-TExpr)

module _ (g : Context) (vis : List ℕ) where
  -- a type is that of a node
  abbrev pub of_type : CType → Bool
  of_type u = is_type g.sizes g.public u

  -- a type may be that of a node
  pub of_node : (u : CType) → of_type u ≡ true → is_of_node g u ≡ true
  of_node u h = last (is_nothing u || test.is_null u) (of_type u) h

  -- the node that converts
  pub node_good : (u : CType) (e : TExpr) → alone g vis e ≡ true → of_type u ≡ true → test.converts e.ty u ≡ true → alone g vis (record { spot = e.spot; ty = u; node = t.Convert e }) ≡ true
  unfolding hidden-the_row-TExpr-0 hidden
  node_good u e h i c = both (of_node u i) (both c h)

  -- a value where a type is wanted: it stands, or a node converts it
  pub converted_at : (b : Bool) (u : CType) (e : TExpr) → same true e.ty u ≡ b → alone g vis e ≡ true → of_type u ≡ true → judging.converts e.ty u ≡ true → Valued g vis u (if b then e else record { spot = e.spot; ty = u; node = t.Convert e })
  converted_at true u e q h i c = record { ty = same_is e.ty u q; good = h }
  converted_at false u e q h i c = record { ty = refl; good = node_good u e h i (changes g e.ty u (first (is_of_node g e.ty) (expr g vis false e.ty e.node) h) c q) }

  pub converted_good : (u : CType) (e : TExpr) → alone g vis e ≡ true → of_type u ≡ true → judging.converts e.ty u ≡ true → Valued g vis u (converted u e)
  converted_good u e h i c = converted_at (same true e.ty u) u e refl h i c

  -- between integers, where nothing hidden becomes public
  pub converts_int : (u : CType) (l : IntKind) (q : Bool) → is_integer u ≡ true → (not (is_hidden u) || q) ≡ true → judging.converts u (Int l q) ≡ true
  converts_int (Int k true) l true h i = refl
  converts_int (Int k true) l false h i = never i
  converts_int (Int k false) l q h i = refl
  converts_int (Pointer' f v s) l q h i = never h
  converts_int (Array' n v s) l q h i = never h
  converts_int (Struct n) l q h i = never h
  converts_int Nothing l q h i = never h

  -- a value is converted to an integer
  pub int_good : (l : IntKind) (q : Bool) (e : TExpr) → alone g vis e ≡ true → is_integer e.ty ≡ true → (not (is_hidden e.ty) || q) ≡ true → Valued g vis (Int l q) (converted (Int l q) e)
  int_good l q e h i m = converted_good (Int l q) e h refl (converts_int e.ty l q i m)

  -- the node of an operator with one operand
  pub unary_node : (p : Spot) (op : OneOp) (y u : CType) (c : TExpr) → of_type y ≡ true → Valued g vis u c → unary op y u ≡ true → alone g vis (record { spot = p; ty = y; node = t.Unary op c }) ≡ true
  unfolding hidden-the_row-TExpr-0 hidden
  unary_node p op y u c i v h = both (of_node y i) (both (subst (λ w. unary op y w ≡ true) (sym v.ty) h) v.good)

  -- an integer's type, and the type of a truth value
  pub of_truth : (o : Bool) → of_type (truth o) ≡ true
  of_truth true = refl
  of_truth false = refl

  -- `-`, `+`, `~` and `!` have the types that the test asks for
  pub minus_test : (k : IntKind) (o : Bool) → unary Neg (Int (promoted k) o) (Int (promoted k) o) ≡ true
  minus_test k true = both (promoted_is k) (itself (Int (promoted k) true))
  minus_test k false = both (promoted_is k) (itself (Int (promoted k) false))

  pub plus_test : (k : IntKind) (o : Bool) → unary Plus (Int (promoted k) o) (Int (promoted k) o) ≡ true
  plus_test k true = both (promoted_is k) (itself (Int (promoted k) true))
  plus_test k false = both (promoted_is k) (itself (Int (promoted k) false))

  pub flip_test : (k : IntKind) (o : Bool) → unary Flip (Int (promoted k) o) (Int (promoted k) o) ≡ true
  flip_test k true = both (promoted_is k) (itself (Int (promoted k) true))
  flip_test k false = both (promoted_is k) (itself (Int (promoted k) false))

  pub not_test : (o : Bool) → unary Not (truth o) (Int KBool o) ≡ true
  not_test true = refl
  not_test false = refl

  -- `-e`, `+e` and `~e`, of an operator that asks for a promoted kind
  pub negate_good : (p : Spot) (op : OneOp) (e : TExpr) → ((k : IntKind) (o : Bool) → unary op (Int (promoted k) o) (Int (promoted k) o) ≡ true) → alone g vis e ≡ true → Passes g vis (negate p op e)
  negate_good p op e f h = if_needs g vis p T3 (is_integer e.ty) _ (λ i.
      unary_node p op (Int (promoted (kind_of e.ty)) (is_hidden e.ty)) (Int (promoted (kind_of e.ty)) (is_hidden e.ty)) (converted (Int (promoted (kind_of e.ty)) (is_hidden e.ty)) e) refl (int_good (promoted (kind_of e.ty)) (is_hidden e.ty) e h i (marked (is_hidden e.ty))) (f (kind_of e.ty) (is_hidden e.ty)))

  -- `!e`
  pub deny_good : (p : Spot) (e : TExpr) → alone g vis e ≡ true → Passes g vis (deny p e)
  deny_good p e h = if_needs g vis p T3 (is_integer e.ty) _ (λ i.
      unary_node p Not (truth (is_hidden e.ty)) (Int KBool (is_hidden e.ty)) (converted (Int KBool (is_hidden e.ty)) e) (of_truth (is_hidden e.ty)) (int_good KBool (is_hidden e.ty) e h i (marked (is_hidden e.ty))) (not_test (is_hidden e.ty)))

  -- Two parts.

  -- `&&` and `||`
  pub logic_test : (o : Bool) → test.logic (truth o) (Int KBool o) (Int KBool o) ≡ true
  logic_test true = refl
  logic_test false = refl

  pub logic_node : (p : Spot) (every : Bool) (y u v : CType) (c d : TExpr) → of_type y ≡ true → Valued g vis u c → Valued g vis v d → test.logic y u v ≡ true → alone g vis (record { spot = p; ty = y; node = t.Logic every c d }) ≡ true
  unfolding hidden-the_row-TExpr-0 hidden
  logic_node p every y u v c d i m n h = both (of_node y i) (three (subst (λ w. test.logic y c.ty w ≡ true) (sym n.ty) (subst (λ w. test.logic y w v ≡ true) (sym m.ty) h)) m.good n.good)

  pub logic_good : (p : Spot) (every : Bool) (l r : TExpr) → alone g vis l ≡ true → alone g vis r ≡ true → Passes g vis (logic p every l r)
  logic_good p every l r h i = if_needs g vis p T3 (both_integers l.ty r.ty) _ (λ b.
      logic_node p every (truth (is_hidden l.ty || is_hidden r.ty)) (Int KBool (is_hidden l.ty || is_hidden r.ty)) (Int KBool (is_hidden l.ty || is_hidden r.ty)) (converted (Int KBool (is_hidden l.ty || is_hidden r.ty)) l) (converted (Int KBool (is_hidden l.ty || is_hidden r.ty)) r) (of_truth (is_hidden l.ty || is_hidden r.ty))
      (int_good KBool (is_hidden l.ty || is_hidden r.ty) l h (first (is_integer l.ty) (is_integer r.ty) b) (left_marked (is_hidden l.ty) (is_hidden r.ty)))
      (int_good KBool (is_hidden l.ty || is_hidden r.ty) r i (second (is_integer l.ty) (is_integer r.ty) b) (right_marked (is_hidden l.ty) (is_hidden r.ty))) (logic_test (is_hidden l.ty || is_hidden r.ty)))

  -- the wider of two promoted kinds is promoted
  pub wider_promoted : (k l : IntKind) → is_promoted k ≡ true → is_promoted l ≡ true → is_promoted (kinds.wider k l) ≡ true
  wider_promoted k l h i = at (nat_lt (width k) (width l) || (nat_eq (width k) (width l) && is_signed k))
    where
      at : (b : Bool) → is_promoted (if b then l else k) ≡ true
      at true = i
      at false = h

  pub common_promoted : (k l : IntKind) → is_promoted (judging.common k l) ≡ true
  common_promoted k l = wider_promoted (promoted k) (promoted l) (promoted_is k) (promoted_is l)

  -- operands of an operator that doesn't shift
  pub binary_node : (p : Spot) (op : BinaryOp) (y u v : CType) (c d : TExpr) → of_type y ≡ true → Valued g vis u c → Valued g vis v d → test.binary op y u v ≡ true → alone g vis (record { spot = p; ty = y; node = t.Binary op c d }) ≡ true
  unfolding hidden-the_row-TExpr-0 hidden
  binary_node p op y u v c d i m n h = both (of_node y i) (three (subst (λ w. test.binary op y c.ty w ≡ true) (sym n.ty) (subst (λ w. test.binary op y w v ≡ true) (sym m.ty) h)) m.good n.good)

  -- the type of a result, by whether the operator compares
  pub plain_two : (op : BinaryOp) (k : IntKind) (o : Bool) → judging.is_comparison op ≡ false → static.two_type op k o ≡ Int k o
  plain_two op k true h = ap (λ l. Int l true) (plain_kind op k h).0
  plain_two op k false h = ap (λ l. Int l false) (plain_kind op k h).1

  pub compared_two : (op : BinaryOp) (k : IntKind) (o : Bool) → judging.is_comparison op ≡ true → static.two_type op k o ≡ truth o
  compared_two op k true h = ap (λ l. Int l true) (compared_kind op k h).0
  compared_two op k false h = ap (λ l. Int l false) (compared_kind op k h).1

  pub result_two : (op : BinaryOp) (k : IntKind) (o : Bool) → same true (result_of op (Int k o)) (static.two_type op k o) ≡ true
  result_two op k o = at (judging.is_comparison op) refl
    where
      at : (b : Bool) → judging.is_comparison op ≡ b → same true (if b then truth o else Int k o) (static.two_type op k o) ≡ true
      at true h = subst (λ w. same true (truth o) w ≡ true) (sym (compared_two op k o h)) (itself (truth o))
      at false h = subst (λ w. same true (Int k o) w ≡ true) (sym (plain_two op k o h)) (itself (Int k o))

  -- the type of a result is a type
  pub result_type : (op : BinaryOp) (k : IntKind) (o : Bool) → of_type (result_of op (Int k o)) ≡ true
  result_type op k o = at (judging.is_comparison op)
    where
      at : (b : Bool) → of_type (if b then truth o else Int k o) ≡ true
      at true = of_truth o
      at false = refl

  -- of a common kind
  pub common_test : (op : BinaryOp) (k : IntKind) (o : Bool) → is_promoted k ≡ true → test.binary op (result_of op (Int k o)) (Int k o) (Int k o) ≡ true
  common_test op k o h = three (three h h (last (is_shift op) (same_kind k k) (number_itself (number_of_kind k)))) (either (alike o o) (is_shift op && o) (alike_itself o)) (result_two op k o)

  -- of a shift
  pub shift_marks : (op : BinaryOp) (o q : Bool) → is_shift op ≡ true → test.marks op (o || q) q ≡ true
  shift_marks op true true h = refl
  shift_marks op true false h = both h refl
  shift_marks op false true h = refl
  shift_marks op false false h = refl

  -- a shift passes, by any amount
  pub shift_test : (op : BinaryOp) (k m : IntKind) (o q : Bool) → is_shift op ≡ true → test.binary op (result_of op (Int (promoted k) (o || q))) (Int (promoted k) (o || q)) (Int (promoted m) q) ≡ true
  shift_test op k m o q h = three (three (promoted_is k) (promoted_is m) (either (is_shift op) (same_kind (promoted k) (promoted m)) h)) (shift_marks op o q h) (result_two op (promoted k) (o || q))

  -- a mark that is allowed inside of a frozen pointer is so outside
  pub allowed_less : (f p : Bool) → mark_allowed true f p ≡ true → mark_allowed false f p ≡ true
  allowed_less true true h = refl
  allowed_less true false h = never h
  allowed_less false p h = refl

  -- what is in normal form inside of a frozen pointer is so outside of one
  pub less_normal : (s : CType) → is_normal g.public true s ≡ true → is_normal g.public false s ≡ true
  less_normal (Int k o) h = refl
  less_normal (Pointer' true v s) h = both (allowed_less true (holds_public_row g.public s) (first (mark_allowed true true (holds_public_row g.public s)) (is_normal_row g.public true s) h)) (second (mark_allowed true true (holds_public_row g.public s)) (is_normal_row g.public true s) h)
  less_normal (Pointer' false v (more_of-CType s end_of-CType)) h = both (allowed_less false (holds_public g.public s) (first (mark_allowed true false (holds_public g.public s)) (is_normal g.public true s) h)) (less_normal s (second (mark_allowed true false (holds_public g.public s)) (is_normal g.public true s) h))
  less_normal (Array' n v (more_of-CType s end_of-CType)) h = less_normal s h
  less_normal (Struct n) h = refl
  less_normal Nothing h = refl

  -- kind and types of an operation, for a shift or not
  abbrev pub kind_with : Bool → TExpr → TExpr → IntKind
  kind_with b l r = if b then promoted (kind_of l.ty) else judging.common (kind_of l.ty) (kind_of r.ty)

  abbrev pub right_with : Bool → TExpr → TExpr → CType
  right_with b l r = if b then Int (promoted (kind_of r.ty)) (is_hidden r.ty) else Int (kind_with b l r) (is_hidden l.ty || is_hidden r.ty)

  abbrev pub left_type : Bool → TExpr → TExpr → CType
  left_type b l r = Int (kind_with b l r) (is_hidden l.ty || is_hidden r.ty)

  -- an operation on integers
  pub arithmetic_with : (b : Bool) (p : Spot) (op : BinaryOp) (l r : TExpr) → is_shift op ≡ b → alone g vis l ≡ true → alone g vis r ≡ true → both_integers l.ty r.ty ≡ true
      → alone g vis (record { spot = p; ty = result_of op (left_type b l r); node = t.Binary op (converted (left_type b l r) l) (converted (right_with b l r) r) }) ≡ true
  arithmetic_with true p op l r q h i b =
      binary_node p op (result_of op (left_type true l r)) (left_type true l r) (right_with true l r) (converted (left_type true l r) l) (converted (right_with true l r) r) (result_type op (promoted (kind_of l.ty)) (is_hidden l.ty || is_hidden r.ty))
      (int_good (promoted (kind_of l.ty)) (is_hidden l.ty || is_hidden r.ty) l h (first (is_integer l.ty) (is_integer r.ty) b) (left_marked (is_hidden l.ty) (is_hidden r.ty)))
      (int_good (promoted (kind_of r.ty)) (is_hidden r.ty) r i (second (is_integer l.ty) (is_integer r.ty) b) (marked (is_hidden r.ty)))
      (shift_test op (kind_of l.ty) (kind_of r.ty) (is_hidden l.ty) (is_hidden r.ty) q)
  arithmetic_with false p op l r q h i b =
      binary_node p op (result_of op (left_type false l r)) (left_type false l r) (right_with false l r) (converted (left_type false l r) l) (converted (right_with false l r) r) (result_type op (kind_with false l r) (is_hidden l.ty || is_hidden r.ty))
      (int_good (kind_with false l r) (is_hidden l.ty || is_hidden r.ty) l h (first (is_integer l.ty) (is_integer r.ty) b) (left_marked (is_hidden l.ty) (is_hidden r.ty)))
      (int_good (kind_with false l r) (is_hidden l.ty || is_hidden r.ty) r i (second (is_integer l.ty) (is_integer r.ty) b) (right_marked (is_hidden l.ty) (is_hidden r.ty)))
      (common_test op (kind_with false l r) (is_hidden l.ty || is_hidden r.ty) (common_promoted (kind_of l.ty) (kind_of r.ty)))

  pub arithmetic_good : (p : Spot) (op : BinaryOp) (l r : TExpr) → alone g vis l ≡ true → alone g vis r ≡ true → both_integers l.ty r.ty ≡ true → Passes g vis (arithmetic p op l r)
  arithmetic_good p op l r h i b = arithmetic_with (is_shift op) p op l r refl h i b

  -- a value's type is that of a node
  pub node_of : (e : TExpr) → alone g vis e ≡ true → is_of_node g e.ty ≡ true
  node_of e h = first (is_of_node g e.ty) (expr g vis false e.ty e.node) h

  -- pointers that are compared
  pub same_test : (u y : CType) → is_of_node g u ≡ true → is_of_node g y ≡ true → judging.alike_pointers u y ≡ true → test.alike_pointers u y ≡ true
  same_test u y h i a =
      three (first (is_pointer u) (is_pointer y) (first (is_pointer u && is_pointer y) _ a)) (second (is_pointer u) (is_pointer y) (first (is_pointer u && is_pointer y) _ a))
      (turned (judging.is_null u) (judging.is_null y) (same false u y) (test.is_null u) (test.is_null y) (null_same g u h) (null_same g y i) (second (is_pointer u && is_pointer y) (judging.is_null u || judging.is_null y || same false u y) a))

  -- two pointers that are compared
  pub same_node : (p : Spot) (l r : TExpr) (negated : Bool) → alone g vis l ≡ true → alone g vis r ≡ true → test.alike_pointers l.ty r.ty ≡ true → alone g vis (record { spot = p; ty = Int I32 false; node = t.PointerSame l r negated }) ≡ true
  unfolding hidden-the_row-TExpr-0 hidden
  same_node p l r negated h i a = both refl (both (both (both refl a) h) i)

  -- a step of a pointer
  pub step_node : (p : Spot) (l r : TExpr) (back amount_first : Bool) → alone g vis l ≡ true → alone g vis r ≡ true → judging.steps l.ty r.ty ≡ true → not (back && amount_first) ≡ true → alone g vis (record { spot = p; ty = l.ty; node = t.PointerStep l r back amount_first }) ≡ true
  unfolding hidden-the_row-TExpr-0 hidden
  step_node p l r back amount_first h i a f = both (node_of l h) (both (both (both (step_test l.ty r.ty a) f) h) i)

  -- `?:`
  pub choice_node : (p : Spot) (y : CType) (b c d : TExpr) → of_type y ≡ true → test.is_common y ≡ true → test.is_public b.ty ≡ true → alone g vis b ≡ true → Valued g vis y c → Valued g vis y d → alone g vis (record { spot = p; ty = y; node = t.Choose b c d }) ≡ true
  unfolding hidden-the_row-TExpr-0 hidden
  choice_node p y b c d i k m h v w = both (of_node y i) (both (both (both (both (both (both m k) (subst (λ z. same true z y ≡ true) (sym v.ty) (itself y))) (subst (λ z. same true z y ≡ true) (sym w.ty) (itself y))) h) v.good) w.good)

  pub choice_good : (p : Spot) (c y n : TExpr) → alone g vis c ≡ true → alone g vis y ≡ true → alone g vis n ≡ true → Passes g vis (choice p c y n)
  choice_good p c y n h i j =
      if_needs g vis p T3 (is_integer c.ty && both_integers y.ty n.ty) _ (λ b.
      if_needs g vis p T4 (not (is_hidden c.ty)) _ (λ m.
      choice_node p (Int (judging.common (kind_of y.ty) (kind_of n.ty)) (is_hidden y.ty || is_hidden n.ty)) c (converted (Int (judging.common (kind_of y.ty) (kind_of n.ty)) (is_hidden y.ty || is_hidden n.ty)) y) (converted (Int (judging.common (kind_of y.ty) (kind_of n.ty)) (is_hidden y.ty || is_hidden n.ty)) n) refl (common_promoted (kind_of y.ty) (kind_of n.ty)) (public_test c.ty (both (first (is_integer c.ty) (both_integers y.ty n.ty) b) m)) h
      (int_good (judging.common (kind_of y.ty) (kind_of n.ty)) (is_hidden y.ty || is_hidden n.ty) y i (first (is_integer y.ty) (is_integer n.ty) (second (is_integer c.ty) (both_integers y.ty n.ty) b)) (left_marked (is_hidden y.ty) (is_hidden n.ty)))
      (int_good (judging.common (kind_of y.ty) (kind_of n.ty)) (is_hidden y.ty || is_hidden n.ty) n j (second (is_integer y.ty) (is_integer n.ty) (second (is_integer c.ty) (both_integers y.ty n.ty) b)) (right_marked (is_hidden y.ty) (is_hidden n.ty)))))

  -- Numbers, places and what is read of them.

  -- the value that a place holds
  pub read_node : (p : Spot) (y : CType) (q : TPlace) → of_type y ≡ true → q.ty ≡ y → test.is_held y ≡ true → typed.place g vis q.ty q.node ≡ true → alone g vis (record { spot = p; ty = y; node = t.Read q }) ≡ true
  unfolding hidden-the_row-TPlace-2 hidden
  read_node p y q i e k h = both (of_node y i) (both (both (both (subst (λ w. same true y w ≡ true) (sym e) (itself y)) (subst (λ w. test.is_held w ≡ true) (sym e) k)) (subst (λ w. of_type w ≡ true) (sym e) i)) h)

  -- an element
  pub index_node : (p : Spot) (e a : TExpr) → alone g vis e ≡ true → alone g vis a ≡ true → judging.leads e.ty ≡ true → test.is_public a.ty ≡ true → typed.place g vis (target e.ty) (place.Index e a) ≡ true
  unfolding hidden-the_row-TExpr-0 hidden
  index_node p e a h i k m = both (both (both (both (first (is_pointer e.ty) (not (is_nothing (target e.ty))) k) (itself (target e.ty))) m) h) i

  -- where a pointer leads
  pub deref_node : (e : TExpr) → alone g vis e ≡ true → judging.leads e.ty ≡ true → typed.place g vis (target e.ty) (place.Deref e) ≡ true
  unfolding hidden-the_row-TExpr-0 hidden
  deref_node e h k = both (both (first (is_pointer e.ty) (not (is_nothing (target e.ty))) k) (itself (target e.ty))) h

  -- what a pointer leads to is in normal form
  pub inner_normal : (f inside : Bool) (s : CType) → is_normal g.public (inside || f) s ≡ true → is_normal g.public inside s ≡ true
  inner_normal false true s h = h
  inner_normal false false s h = h
  inner_normal true true s h = h
  inner_normal true false s h = less_normal s h

  -- what a pointer leads to is a type
  pub target_ok : (f : Bool) (v : _) (s : CType) → of_type (Pointer' f v (more_of-CType s end_of-CType)) ≡ true → of_type s ≡ true
  target_ok f v s h = both (inner_normal f false s (second (mark_allowed false f (holds_public g.public s)) (is_normal g.public f s) (first (mark_allowed false f (holds_public g.public s) && is_normal g.public f s) (is_whole g.sizes s) h))) (second (mark_allowed false f (holds_public g.public s) && is_normal g.public f s) (is_whole g.sizes s) h)

  -- an address of an element
  pub element_ok : (n : ℕ) (v : _) (s : CType) → of_type (Array' n v (more_of-CType s end_of-CType)) ≡ true → of_type (Pointer' false v (more_of-CType s end_of-CType)) ≡ true
  element_ok n v s h = both (first (is_normal g.public false s) (is_sized g.sizes (Array' n v (more_of-CType s end_of-CType)) && is_whole g.sizes s) h) (second (is_sized g.sizes (Array' n v (more_of-CType s end_of-CType))) (is_whole g.sizes s) (second (is_normal g.public false s) (is_sized g.sizes (Array' n v (more_of-CType s end_of-CType)) && is_whole g.sizes s) h))

  -- a cast to an integer converts
  pub cast_converts : (y u : CType) → is_integer u ≡ true → judging.converts y u ≡ true → test.converts y u ≡ true
  cast_converts (Int k true) (Int l true) i c = refl
  cast_converts (Int k true) (Int l false) i c = never c
  cast_converts (Int k false) (Int l q) i c = refl
  cast_converts (Pointer' f v s) (Int l q) i c = never c
  cast_converts (Array' n v s) (Int l q) i c = never c
  cast_converts (Struct n) (Int l q) i c = never c
  cast_converts Nothing (Int l q) i c = never c
  cast_converts y (Pointer' f v s) i c = never i
  cast_converts y (Array' n v s) i c = never i
  cast_converts y (Struct n) i c = never i
  cast_converts y Nothing i c = never i

  -- the node of a cast
  pub cast_node : (p : Spot) (u : CType) (e : TExpr) → of_type u ≡ true → alone g vis e ≡ true → is_integer u ≡ true → judging.converts e.ty u ≡ true → alone g vis (record { spot = p; ty = u; node = t.Convert e }) ≡ true
  unfolding hidden-the_row-TExpr-0 hidden
  cast_node p u e i h b c = both (of_node u i) (both (cast_converts e.ty u b c) h)

  -- what a pointer leads to has a size, and is in normal form
  pub target_type : (u : CType) → is_of_node g u ≡ true → judging.leads u ≡ true → of_type (target u) ≡ true
  target_type (Pointer' f v (more_of-CType s end_of-CType)) h k =
      leads (is_nothing s) (not f && is_nothing s) (of_type (Pointer' f v (more_of-CType s end_of-CType))) (of_type s) h k (λ i. target_ok f v s i) (λ i. second (not f) (is_nothing s) i)
  target_type (Int k o) h i = never i
  target_type (Array' n v s) h i = never i
  target_type (Struct n) h i = never i
  target_type Nothing h i = never i

  -- `*e`
  pub follow_good : (p : Spot) (e : TExpr) → alone g vis e ≡ true → Passes g vis (follow p e)
  follow_good p e h = if_needs g vis p T3 (judging.leads e.ty) _ (λ k. (target_type e.ty (node_of e h) k, deref_node e h k))

  -- `e[a]`
  pub index_good : (p : Spot) (e a : TExpr) → alone g vis e ≡ true → alone g vis a ≡ true → Passes g vis (index p e a)
  index_good p e a h i =
      if_needs g vis p T3 (judging.leads e.ty && is_integer a.ty) _ (λ b.
      if_needs g vis p T4 (not (is_hidden a.ty)) _ (λ m.
      (target_type e.ty (node_of e h) (first (judging.leads e.ty) (is_integer a.ty) b), index_node p e a h i (first (judging.leads e.ty) (is_integer a.ty) b) (public_test a.ty (both (second (judging.leads e.ty) (is_integer a.ty) b) m)))))

  -- Operators.

  -- a sum that is no comparison of pointers steps the one that is a pointer
  pub left_step : (op : BinaryOp) (u y : CType) → is_pointer u ≡ true → judging.is_equality op ≡ false → (((judging.is_add op || judging.is_minus op) && judging.steps u y) || (judging.is_add op && judging.steps y u) || (judging.is_equality op && judging.alike_pointers u y)) ≡ true → judging.steps u y ≡ true
  left_step op u y h e k =
      one_of ((judging.is_add op || judging.is_minus op) && judging.steps u y) (judging.is_add op && judging.steps y u) (judging.is_equality op && judging.alike_pointers u y) (λ a. second (judging.is_add op || judging.is_minus op) (judging.steps u y) a)
      (λ b. never (no_address u h (second (judging.leads y) (judging.is_public u) (second (judging.is_add op) (judging.steps y u) b)))) (λ c. never (sym e ∙ first (judging.is_equality op) (judging.alike_pointers u y) c)) k

  pub right_step : (op : BinaryOp) (u y : CType) → is_pointer u ≡ false → judging.is_equality op ≡ false → (((judging.is_add op || judging.is_minus op) && judging.steps u y) || (judging.is_add op && judging.steps y u) || (judging.is_equality op && judging.alike_pointers u y)) ≡ true → judging.steps y u ≡ true
  right_step op u y h e k =
      one_of ((judging.is_add op || judging.is_minus op) && judging.steps u y) (judging.is_add op && judging.steps y u) (judging.is_equality op && judging.alike_pointers u y)
      (λ a. never (sym h ∙ first (is_pointer u) (not (is_nothing (target u))) (first (judging.leads u) (judging.is_public y) (second (judging.is_add op || judging.is_minus op) (judging.steps u y) a))))
      (λ b. second (judging.is_add op) (judging.steps y u) b) (λ c. never (sym e ∙ first (judging.is_equality op) (judging.alike_pointers u y) c)) k

  -- what asks whether pointers are the same takes two that are alike
  pub compared : (op : BinaryOp) (u y : CType) → judging.is_equality op ≡ true → (((judging.is_add op || judging.is_minus op) && judging.steps u y) || (judging.is_add op && judging.steps y u) || (judging.is_equality op && judging.alike_pointers u y)) ≡ true → judging.alike_pointers u y ≡ true
  compared op u y e k =
      one_of ((judging.is_add op || judging.is_minus op) && judging.steps u y) (judging.is_add op && judging.steps y u) (judging.is_equality op && judging.alike_pointers u y)
      (λ a. never (sym (no_sum op e) ∙ first (judging.is_add op || judging.is_minus op) (judging.steps u y) a)) (λ b. never (sym (no_add op e) ∙ first (judging.is_add op) (judging.steps y u) b)) (λ c. second (judging.is_equality op) (judging.alike_pointers u y) c) k

  -- an operator whose operands it takes
  pub operated_good : (p : Spot) (op : BinaryOp) (l r : TExpr) → alone g vis l ≡ true → alone g vis r ≡ true → judging.takes op l.ty r.ty ≡ true → Passes g vis (operated p op l r)
  operated_good p op l r h i k = at (both_integers l.ty r.ty) refl
    where
      steps_at : (a : Bool) → is_pointer l.ty ≡ a → judging.is_equality op ≡ false → (((judging.is_add op || judging.is_minus op) && judging.steps l.ty r.ty) || (judging.is_add op && judging.steps r.ty l.ty) || (judging.is_equality op && judging.alike_pointers l.ty r.ty)) ≡ true → Passes g vis (if a then is p l.ty (t.PointerStep l r (judging.is_minus op) false) else is p r.ty (t.PointerStep r l false true))
      steps_at true a e m = step_node p l r (judging.is_minus op) false h i (left_step op l.ty r.ty a e m) (not_back (judging.is_minus op))
      steps_at false a e m = step_node p r l false true i h (right_step op l.ty r.ty a e m) refl

      rest : (c : Bool) → judging.is_equality op ≡ c → (((judging.is_add op || judging.is_minus op) && judging.steps l.ty r.ty) || (judging.is_add op && judging.steps r.ty l.ty) || (judging.is_equality op && judging.alike_pointers l.ty r.ty)) ≡ true → Passes g vis (if c then is p (truth false) (t.PointerSame l r (judging.is_unlike op)) else if is_pointer l.ty then is p l.ty (t.PointerStep l r (judging.is_minus op) false) else is p r.ty (t.PointerStep r l false true))
      rest true c m = same_node p l r (judging.is_unlike op) h i (same_test l.ty r.ty (node_of l h) (node_of r i) (compared op l.ty r.ty c m))
      rest false c m = steps_at (is_pointer l.ty) refl c m

      at : (b : Bool) → both_integers l.ty r.ty ≡ b → Passes g vis (if b then arithmetic p op l r else if judging.is_equality op then is p (truth false) (t.PointerSame l r (judging.is_unlike op)) else if is_pointer l.ty then is p l.ty (t.PointerStep l r (judging.is_minus op) false) else is p r.ty (t.PointerStep r l false true))
      at true q = arithmetic_good p op l r h i q
      at false q = rest (judging.is_equality op) refl (others (both_integers l.ty r.ty) ((judging.is_add op || judging.is_minus op) && judging.steps l.ty r.ty) (judging.is_add op && judging.steps r.ty l.ty) (judging.is_equality op && judging.alike_pointers l.ty r.ty) q k)

  -- an operator with two operands
  pub operate_good : (p : Spot) (op : BinaryOp) (l r : TExpr) → alone g vis l ≡ true → alone g vis r ≡ true → Passes g vis (operate p op l r)
  operate_good p op l r h i = if_demand g vis p (judging.takes op) l.ty r.ty _ (λ k. operated_good p op l r h i k)

  -- Assignments.

  -- the node of an assignment
  pub assign_node : (p : Spot) (q : TPlace) (x : TExpr) → of_type q.ty ≡ true → typed.place g vis q.ty q.node ≡ true → test.is_held q.ty ≡ true → Valued g vis q.ty x → alone g vis (record { spot = p; ty = q.ty; node = t.Assign q x }) ≡ true
  unfolding hidden-the_row-TExpr-0 hidden-the_row-TExpr-1 hidden-the_row-TPlace-2 hidden
  assign_node p q x i k h v = both (of_node q.ty i) (both (both (both (both (both (itself q.ty) (subst (λ w. same true w q.ty ≡ true) (sym v.ty) (itself q.ty))) h) i) k) v.good)

  -- `l = r`
  pub assigned_good : (p : Spot) (f : Found) (v : TExpr) → Good g vis f → alone g vis v ≡ true → Passes g vis (assigned p f v)
  unfolding next
  assigned_good p (Value e) v h i = tt
  assigned_good p (Place q) v h i = if_convert g vis q.ty v _ (λ c. assign_node p q (converted q.ty v) h.0 h.1 (held_of v.ty q.ty c) (converted_good q.ty v i h.0 c))

  -- the node of an update
  pub update_node : (p : Spot) (op : BinaryOp) (q : TPlace) (x : TExpr) (old : Bool) → of_type q.ty ≡ true → typed.place g vis q.ty q.node ≡ true → test.update op q.ty x.ty ≡ true → alone g vis x ≡ true → (not old || is_unit_value x) ≡ true → alone g vis (record { spot = p; ty = q.ty; node = t.Update op q x old }) ≡ true
  unfolding hidden-the_row-TExpr-0 hidden-the_row-TExpr-1 hidden-the_row-TPlace-2 hidden
  update_node p op q x old i k h v u = both (of_node q.ty i) (both (both (both (both (both (itself q.ty) h) i) k) v) u)

  -- the value that an update takes: a shift, another operator, a step
  pub shift_update : (op : BinaryOp) (u : CType) (m : IntKind) (q : Bool) → not (judging.is_comparison op) ≡ true → is_integer u ≡ true → is_shift op ≡ true → (not q || is_hidden u) ≡ true → test.update op u (Int (promoted m) q) ≡ true
  shift_update op (Int k o) m q n i h f = both (both (both n (promoted_is m)) (marks_at o q f)) (either (is_shift op) _ h)
    where
      marks_at : (o q : Bool) → (not q || o) ≡ true → test.marks op o q ≡ true
      marks_at true true f = refl
      marks_at true false f = both h refl
      marks_at false true f = never f
      marks_at false false f = refl
  shift_update op (Pointer' f v s) m q n i h e = never i
  shift_update op (Array' k v s) m q n i h e = never i
  shift_update op (Struct k) m q n i h e = never i
  shift_update op Nothing m q n i h e = never i

  pub plain_update : (op : BinaryOp) (u : CType) (m : IntKind) → not (judging.is_comparison op) ≡ true → is_integer u ≡ true → test.update op u (Int (judging.common (kind_of u) m) (is_hidden u)) ≡ true
  plain_update op (Int k o) m n i = both (both (both n (common_promoted k m)) (either (alike o o) (is_shift op && o) (alike_itself o))) (last (is_shift op) _ (common_over k m))
  plain_update op (Pointer' f v s) m n i = never i
  plain_update op (Array' k v s) m n i = never i
  plain_update op (Struct k) m n i = never i
  plain_update op Nothing m n i = never i

  pub step_update : (op : BinaryOp) (u y : CType) → judging.leads u ≡ true → judging.is_public y ≡ true → (judging.is_add op || judging.is_minus op) ≡ true → test.update op u y ≡ true
  step_update op (Pointer' f v s) (Int m q) h i k = both i (sum_same op k)
  step_update op (Pointer' f v s) (Pointer' e w x) h i k = never i
  step_update op (Pointer' f v s) (Array' n w x) h i k = never i
  step_update op (Pointer' f v s) (Struct n) h i k = never i
  step_update op (Pointer' f v s) Nothing h i k = never i
  step_update op (Int m o) y h i k = never h
  step_update op (Array' n v s) y h i k = never h
  step_update op (Struct n) y h i k = never h
  step_update op Nothing y h i k = never h

  -- the value of an update, as its operator takes it
  pub record Works (op : BinaryOp) (u : CType) (x : TExpr) : Type 0 where
    good : alone g vis x ≡ true
    fits : test.update op u x.ty ≡ true

  -- it is converted as its operator takes it
  pub works_at : (b c : Bool) (op : BinaryOp) (u : CType) (v : TExpr) → is_integer u ≡ b → is_shift op ≡ c → alone g vis v ≡ true → judging.takes_update op u v.ty ≡ true
      → Works op u (if not b then v else if c then converted (Int (promoted (kind_of v.ty)) (is_hidden v.ty)) v else converted (Int (judging.common (kind_of u) (kind_of v.ty)) (is_hidden u)) v)
  works_at true true op u v p s h k =
      let w = int_good (promoted (kind_of v.ty)) (is_hidden v.ty) v h (value_integer op u v.ty p k) (marked (is_hidden v.ty)) in
      record { good = w.good; fits = subst (λ z. test.update op u z ≡ true) (sym w.ty) (shift_update op u (kind_of v.ty) (is_hidden v.ty) (computes op u v.ty p k) p s (value_marked op u v.ty p k)) }
  works_at true false op u v p s h k =
      let w = int_good (judging.common (kind_of u) (kind_of v.ty)) (is_hidden u) v h (value_integer op u v.ty p k) (value_marked op u v.ty p k) in
      record { good = w.good; fits = subst (λ z. test.update op u z ≡ true) (sym w.ty) (plain_update op u (kind_of v.ty) (computes op u v.ty p k) p) }
  works_at false c op u v p s h k =
      let z = only_steps op u v.ty p k in
      record { good = h; fits = step_update op u v.ty (first (judging.leads u) (judging.is_public v.ty) (second (judging.is_add op || judging.is_minus op) (judging.steps u v.ty) z)) (second (judging.leads u) (judging.is_public v.ty) (second (judging.is_add op || judging.is_minus op) (judging.steps u v.ty) z)) (first (judging.is_add op || judging.is_minus op) (judging.steps u v.ty) z) }

  -- a compound assignment
  pub updated_good : (p : Spot) (op : BinaryOp) (f : Found) (v : TExpr) → Good g vis f → alone g vis v ≡ true → Passes g vis (updated p op f v)
  unfolding next
  updated_good p op (Value e) v h i = if_demand g vis p (judging.takes_update op) e.ty v.ty _ (λ k. tt)
  updated_good p op (Place q) v h i = if_demand g vis p (judging.takes_update op) q.ty v.ty _ (λ k.
      let w = works_at (is_integer q.ty) (is_shift op) op q.ty v refl refl i k in
      update_node p op q (working op q.ty v) false h.0 h.1 w.fits w.good refl)

  -- `++` and `--` add and subtract
  pub bump_takes : (up : Bool) (u : CType) → (is_integer u || judging.leads u) ≡ true → judging.takes_update (sum_op up) u (Int I32 false) ≡ true
  bump_takes true (Int k o) h = refl
  bump_takes false (Int k o) h = refl
  bump_takes true (Pointer' f v s) h = both h refl
  bump_takes false (Pointer' f v s) h = both h refl
  bump_takes up (Array' n v s) h = never h
  bump_takes up (Struct n) h = never h
  bump_takes up Nothing h = never h

  -- the number 1 that is added or subtracted
  abbrev pub unit_at : Spot → TExpr
  unit_at p = record { spot = p; ty = Int I32 false; node = t.Number (pos 1) }

  -- it stays the number 1 where it is converted
  pub unit_converted : (b : Bool) (p : Spot) (u : CType) → is_unit_value (if b then unit_at p else record { spot = p; ty = u; node = t.Convert (unit_at p) }) ≡ true
  unfolding hidden-the_row-TExpr-0 hidden
  unit_converted true p u = refl
  unit_converted false p u = refl

  pub unit_works : (b c : Bool) (p : Spot) (u : CType) → is_unit_value (if not b then unit_at p else if c then unit_at p else record { spot = p; ty = u; node = t.Convert (unit_at p) }) ≡ true
  unit_works true c p u = unit_converted c p u
  unit_works false c p u = refl

  pub bump_unit : (p : Spot) (up : Bool) (u : CType) → is_unit_value (working (sum_op up) u (unit_at p)) ≡ true
  bump_unit p true u = unit_works (is_integer u) (same true (Int I32 false) (Int (judging.common (kind_of u) I32) (is_hidden u))) p (Int (judging.common (kind_of u) I32) (is_hidden u))
  bump_unit p false u = unit_works (is_integer u) (same true (Int I32 false) (Int (judging.common (kind_of u) I32) (is_hidden u))) p (Int (judging.common (kind_of u) I32) (is_hidden u))

  -- `++` and `--`
  pub bump_good : (p : Spot) (up before : Bool) (f : Found) → Good g vis f → Passes g vis (bump p up before f)
  unfolding next
  bump_good p up before (Value e) h = if_needs g vis p T3 (is_integer e.ty || judging.leads e.ty) _ (λ k. tt)
  bump_good p up before (Place q) h = if_needs g vis p T3 (is_integer q.ty || judging.leads q.ty) _ (λ k.
      let w = works_at (is_integer q.ty) (is_shift (sum_op up)) (sum_op up) q.ty (record { spot = p; ty = Int I32 false; node = t.Number (pos 1) }) refl refl refl (bump_takes up q.ty k) in
      update_node p (sum_op up) q (working (sum_op up) q.ty (record { spot = p; ty = Int I32 false; node = t.Number (pos 1) })) (not before) h.0 h.1 w.fits w.good (last (not (not before)) _ (bump_unit p up q.ty)))

  -- Numbers, names, addresses, fields and casts.

  -- a number
  pub number_good : (p : Spot) (l : Literal) → Passes g vis (number p l)
  number_good p l = both refl (second (is_literal_kind l.kind) (holds l.kind l.value) l.of_kind)

  -- a name
  pub variable_good : (p : Spot) (o : Option Seen) → ((s : Seen) → o ≡ Some s → GoodVariable g vis s) → Passes g vis (variable p o)
  variable_good p None f = tt
  variable_good p (Some s) f = let h = f s refl in (h.ty, both h.visible h.slot)

  -- a type that is no array is held as a whole
  pub held_here : (u : CType) → judging.is_array u ≡ false → of_type u ≡ true → test.is_held u ≡ true
  held_here (Int k o) a h = refl
  held_here (Pointer' f v s) a h = refl
  held_here (Struct n) a h = refl
  held_here (Array' n v s) a h = never (sym a)
  held_here Nothing a h = h

  -- the address of the first element
  pub decay_node : (p : Spot) (q : TPlace) (u : CType) → q.ty ≡ u → judging.is_array u ≡ true → of_type q.ty ≡ true → typed.place g vis q.ty q.node ≡ true → alone g vis (record { spot = p; ty = Pointer false (judging.element u); node = t.Decay q }) ≡ true
  unfolding hidden-the_row-TPlace-2 hidden-the_row-CType-0 hidden
  decay_node p q (Array' n v (more_of-CType s end_of-CType)) e a i h =
      both (of_node (Pointer' false v (more_of-CType s end_of-CType)) (element_ok n v s (subst (λ w. of_type w ≡ true) e i))) (both (both (subst (λ w. test.decay (Pointer' false v (more_of-CType s end_of-CType)) w ≡ true) (sym e) (itself s)) i) h)
  decay_node p q (Int k o) e a i h = never a
  decay_node p q (Pointer' f v s) e a i h = never a
  decay_node p q (Struct n) e a i h = never a
  decay_node p q Nothing e a i h = never a

  -- the value of what is found
  pub value_good : (f : Found) → Good g vis f → alone g vis (value_of f) ≡ true
  value_good (Value e) h = h
  value_good (Place q) h = at (judging.is_array q.ty) refl
    where
      at : (b : Bool) → judging.is_array q.ty ≡ b → alone g vis (if b then record { spot = q.spot; ty = Pointer false (judging.element q.ty); node = t.Decay q } else record { spot = q.spot; ty = q.ty; node = t.Read q }) ≡ true
      at true a = decay_node q.spot q q.ty refl a h.0 h.1
      at false a = read_node q.spot q.ty q h.0 refl (held_here q.ty a h.0) h.1

  -- the node of an address
  pub address_node : (p : Spot) (q : TPlace) → of_type q.ty ≡ true → typed.place g vis q.ty q.node ≡ true → alone g vis (record { spot = p; ty = Pointer false q.ty; node = t.AddressOf q }) ≡ true
  unfolding hidden-the_row-TPlace-2 hidden-the_row-CType-0 hidden
  address_node p q i h = both (last (is_nothing q.ty) (of_type (Pointer false q.ty)) i) (both (both (itself q.ty) i) h)

  -- `&e`
  pub refer_good : (p : Spot) (f : Found) → Good g vis f → Passes g vis (refer p f)
  unfolding next
  refer_good p (Value e) h = tt
  refer_good p (Place q) h = address_node p q h.0 h.1

  -- the place of a field
  pub field_node : (q : TPlace) (n : ℕ) (u : CType) → of_type q.ty ≡ true → typed.place g vis q.ty q.node ≡ true → test.field g.structs q.ty n u ≡ true → typed.place g vis u (place.Field q n) ≡ true
  unfolding hidden-the_row-TPlace-2 hidden
  field_node q n u i h f = both (both f i) h

  -- a field that is found
  pub field_good : (p : Spot) (q : TPlace) (o : Option FieldType) → GoodField g o q.ty → of_type q.ty ≡ true → typed.place g vis q.ty q.node ≡ true → Passes g vis (field_at p q o)
  field_good p q None f i h = tt
  field_good p q (Some x) f i h = let z = f x refl in (z.0, field_node q x.offset x.ty i h z.1)

  -- a cast
  pub cast_good : (p : Spot) (u : CType) (e : TExpr) → of_type u ≡ true → alone g vis e ≡ true → Passes g vis (cast p u e)
  cast_good p u e i h =
      if_needs g vis p T3 (is_integer u) _ (λ b.
      if_demand g vis e.spot judging.converts e.ty u _ (λ c.
      cast_node p u e i h b c))
