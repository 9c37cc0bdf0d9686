-- A value that is used has a type.
use Rattle.std.proofs.Common.{ℕ, ◌≡◌, List, Option, Some, None, Ok, Err, refl, sym, subst, Bool, true, false}
use Rattle.std.specs.Prelude.{◌&&◌, ◌||◌, not, nat_eq, if◌then◌else◌, IfOk}
use Rattle.oc_values.specs.declared.integers.BinaryOp.{BinaryOp}
use Rattle.oc_values.specs.Kinds.{is_shift}
use Rattle.oc_cells.specs.declared.types.CType.{CType, Int, Pointer', Array', Struct, Nothing}
use Rattle.oc_cells.specs.declared.types.CType.TheViews.{Pointer}
use Rattle.oc_cells.specs.declared.types.CType.TheBlock.{hidden-the_row-CType-0}
use Rattle.oc_cells.specs.Types.{same, is_pointer, is_integer, is_frozen_pointer, target, first_type}
use Rattle.oc_cells.proofs.Equal.{same_is}
use Rattle.oc_source.specs.declared.spot.Spot.{Spot}
use Rattle.oc_typed.specs.declared.typed.TExpr.{TExpr}
use Rattle.oc_typed.specs.declared.typed.TPlace.{TPlace}
use Rattle.oc_typed.specs.declared.typed.TExprNode as t
use Rattle.oc_typed.specs.declared.typed.TExprNode.TheBlock.{hidden-the_row-TExpr-0, hidden-the_row-TExpr-1, hidden-the_row-TPlace-2}
use denote.Hole.Carrier.{hidden}
use Rattle.oc_source.specs.declared.parsed.ExprNode.{ExprNode, Number, NullPointer, Text, Named, Unary', Bump', Binary', Logic', Choose', Assign', Index', Field', Arrow', Call', Cast', SizeOf, Row_of-Expr, end_of-Expr, more_of-Expr}
use Rattle.oc_source.specs.declared.parsed.UnaryOp.{UnaryOp}
use Rattle.oc_source.specs.declared.parsed.UnaryOp.TheVariants.{Neg, Plus, Not, Flip, Deref, Address}
use Rattle.type_rules.specs.declared.judging.Found.{Found}
use Rattle.type_rules.specs.declared.judging.Found.TheVariants.{Place, Value}
use Rattle.type_rules.specs.declared.judging.Seen.{Seen}
use Rattle.type_rules.specs.declared.judging.Heading.{Heading}
use Rattle.type_rules.specs.declared.judging.OwnCall.{OwnCall}
use Rattle.type_rules.specs.declared.judging.OwnCall.TheVariants as call
use Rattle.type_rules.specs.declared.judging.TypeRule.{TypeRule}
use Rattle.type_rules.specs.declared.judging.TypeRule.TheVariants.{T3, T9}
use Rattle.type_rules.specs.declared.judging.Refusal.{Refusal}
use Rattle.type_rules.specs.Judging.{Judged, next, breaks, needs, both_integers}
use Rattle.type_rules.specs.Judging as judging
use Rattle.type_rules.specs.Lookup.{Lookup}
use Rattle.type_rules.specs.Lookup as lookup
use Rattle.type_rules.specs.Operators as operators
use Rattle.type_rules.specs.Calls.{Called, Variable, Unknown, Print, Own, Known, Given}
use Rattle.type_rules.specs.Calls as calls
use Rattle.type_rules.specs.Prints as prints
use Rattle.type_rules.specs.Written.{type_name, base_type}
use Rattle.type_rules.specs.Rules.{expr, one, value, printing, invoked}
use Rattle.type_rules.specs.Rules as rules
use Rattle.oc_typed.specs.Static.{type_of}
use Rattle.oc_typing.specs.Rules.{is_type, is_nothing}
use Rattle.oc_typing.specs.Rules as test
use Rattle.oc_typing.specs.Typed.{Context, is_of_node, alone}
use Rattle.oc_typing.specs.Typed as typed
use Rattle.rules_typed.proofs.Bools.{first, never, second}

-- nodes whose type is that of a part
abbrev pub is_open : t.TExprNode → Bool
is_open (t.Read' q u c) = true
is_open (t.Decay' q u c) = true
is_open (t.PointerStep' _ l _ r b f) = true
is_open (t.Assign' q u c _ e) = true
is_open (t.Update' o q u c _ e b) = true
is_open _ = false

-- a type of a value
abbrev pub Used : CType → Type 0
Used u = not (is_nothing u) ≡ true

-- what is held, and what points, is a value
used_held : (u : CType) → test.is_held u ≡ true → Used u
used_held (Int k o) h = refl
used_held (Pointer' f v s) h = refl
used_held (Struct n) h = refl
used_held (Array' n v s) h = never h
used_held Nothing h = never h

used_pointer : (u : CType) → is_pointer u ≡ true → Used u
used_pointer (Pointer' f v s) h = refl
used_pointer (Int k o) h = never h
used_pointer (Struct n) h = never h
used_pointer (Array' n v s) h = never h
used_pointer Nothing h = never h

-- what is updated is a value
used_update : (o : BinaryOp) (u y : CType) → test.update o u y ≡ true → Used u
used_update o (Int k m) y h = refl
used_update o (Pointer' f v s) y h = refl
used_update o (Struct n) y h = refl
used_update o (Array' n v s) y h = refl
used_update o Nothing (Int k m) h = never h
used_update o Nothing (Pointer' f v s) h = never h
used_update o Nothing (Struct n) h = never h
used_update o Nothing (Array' n v s) h = never h
used_update o Nothing Nothing h = never h

-- the address of an element is a value
used_decay : (y u : CType) → test.decay y u ≡ true → Used y
used_decay y (Array' n v s) h = used_pointer y (first (is_pointer y) (not (is_frozen_pointer y)) (first (is_pointer y && not (is_frozen_pointer y)) (same true (target y) (first_type s)) h))
used_decay y (Int k o) h = never h
used_decay y (Pointer' f v s) h = never h
used_decay y (Struct n) h = never h
used_decay y Nothing h = never h

module _ (g : Context) (vis : List ℕ) where
  -- a type
  abbrev ok : CType → Bool
  ok u = is_type g.sizes g.public u

  -- a node whose type is that of a part
  open_used : (c : t.TExprNode) (y : CType) → typed.expr g vis false y c ≡ true → is_open c ≡ true → Used y
  open_used (t.Read' q u c) y h i =
      let k = first (same true y u && test.is_held u) (ok u) (first (same true y u && test.is_held u && ok u) (typed.place g vis u c) h) in
      subst (λ y. Used y) (sym (same_is y u (first (same true y u) (test.is_held u) k))) (used_held u (second (same true y u) (test.is_held u) k))
  open_used (t.Decay' q u c) y h i = used_decay y u (first (test.decay y u) (ok u) (first (test.decay y u && ok u) (typed.place g vis u c) h))
  open_used (t.PointerStep' _ l _ r b f) y h i =
      let k = first (test.step y (type_of l) (type_of r)) (not (b && f)) (first (test.step y (type_of l) (type_of r) && not (b && f)) (typed.one g vis l) (first (test.step y (type_of l) (type_of r) && not (b && f) && typed.one g vis l) (typed.one g vis r) h)) in
      let m = first (same true y (type_of l)) (is_pointer (type_of l)) (first (same true y (type_of l) && is_pointer (type_of l)) (not (test.is_null (type_of l))) (first (same true y (type_of l) && is_pointer (type_of l) && not (test.is_null (type_of l))) (test.is_public (type_of r)) k)) in
      let n = second (same true y (type_of l)) (is_pointer (type_of l)) (first (same true y (type_of l) && is_pointer (type_of l)) (not (test.is_null (type_of l))) (first (same true y (type_of l) && is_pointer (type_of l) && not (test.is_null (type_of l))) (test.is_public (type_of r)) k)) in
      subst (λ y. Used y) (sym (same_is y (type_of l) m)) (used_pointer (type_of l) n)
  open_used (t.Assign' q u c _ e) y h i =
      let k = first (same true y u && same true (type_of e) u) (test.is_held u) (first (same true y u && same true (type_of e) u && test.is_held u) (ok u) (first (same true y u && same true (type_of e) u && test.is_held u && ok u) (typed.place g vis u c) (first (same true y u && same true (type_of e) u && test.is_held u && ok u && typed.place g vis u c) (typed.one g vis e) h))) in
      let m = second (same true y u && same true (type_of e) u) (test.is_held u) (first (same true y u && same true (type_of e) u && test.is_held u) (ok u) (first (same true y u && same true (type_of e) u && test.is_held u && ok u) (typed.place g vis u c) (first (same true y u && same true (type_of e) u && test.is_held u && ok u && typed.place g vis u c) (typed.one g vis e) h))) in
      subst (λ y. Used y) (sym (same_is y u (first (same true y u) (same true (type_of e) u) k))) (used_held u m)
  open_used (t.Update' o q u c _ e b) y h i =
      let k = first (same true y u && test.update o u (type_of e)) (ok u) (first (same true y u && test.update o u (type_of e) && ok u) (typed.place g vis u c) (first (same true y u && test.update o u (type_of e) && ok u && typed.place g vis u c) (typed.one g vis e) (first (same true y u && test.update o u (type_of e) && ok u && typed.place g vis u c && typed.one g vis e) (not b || typed.is_unit e) h))) in
      subst (λ y. Used y) (sym (same_is y u (first (same true y u) (test.update o u (type_of e)) k))) (used_update o u (type_of e) (second (same true y u) (test.update o u (type_of e)) k))
  open_used _ y h i = never i

-- what is found is a place, or a value whose type is no part's and is one of a value
abbrev Gives : Found → Type 0
Gives (Place q) = Unit {0}
Gives (Value e) = is_open e.node ≡ false → Used e.ty

-- any judgement, and what follows
any_next : {A : Type 0} (m : Judged A) (k : A → Judged Found) → ((a : A) → IfOk (k a) Gives) → IfOk (next m k) Gives
unfolding next
any_next (Ok a) k f = f a
any_next (Err b) k f = tt

-- a rule that is kept, and what follows
when : (p : Spot) (b : TypeRule) (c : Bool) (k : Judged Found) → (c ≡ true → IfOk k Gives) → IfOk (next (needs p b c) (λ _. k)) Gives
unfolding next
when p b true k f = f refl
when p b false k f = tt

-- integers and truth values are values
used_int : (u : CType) → is_integer u ≡ true → Used u
used_int (Int k o) h = refl
used_int (Pointer' f v s) h = refl
used_int (Struct n) h = refl
used_int (Array' n v s) h = refl
used_int Nothing h = never h

used_truth : (o : Bool) → Used (operators.truth o)
used_truth true = refl
used_truth false = refl

-- so is the result of an operator
used_result : (o : BinaryOp) (u : CType) → Used u → Used (operators.result_of o u)
used_result o u h = on (judging.is_comparison o)
  where
    on : (b : Bool) → Used (if b then operators.truth (judging.is_hidden u) else u)
    on true = used_truth (judging.is_hidden u)
    on false = h

-- an operator with one operand
unary_used : (p : Spot) (o : UnaryOp) (f : Found) → IfOk (operators.unary p o f) Gives
unfolding next hidden-the_row-TExpr-0 hidden-the_row-TExpr-1 hidden-the_row-TPlace-2 hidden-the_row-CType-0 hidden
unary_used p Neg f = when p T3 (is_integer (lookup.value_of f).ty) _ (λ i j. refl)
unary_used p Plus f = when p T3 (is_integer (lookup.value_of f).ty) _ (λ i j. refl)
unary_used p Flip f = when p T3 (is_integer (lookup.value_of f).ty) _ (λ i j. refl)
unary_used p Not f = when p T3 (is_integer (lookup.value_of f).ty) _ (λ i j. used_truth (judging.is_hidden (lookup.value_of f).ty))
unary_used p Deref f = when p T3 (judging.leads (lookup.value_of f).ty) _ (λ i. tt)
unary_used p Address (Place q) = λ j. refl
unary_used p Address (Value e) = tt

-- a place, and what follows
placed_used : (p : Spot) (f : Found) (k : TPlace → Judged Found) → ((q : TPlace) → IfOk (k q) Gives) → IfOk (next (lookup.placed p f) k) Gives
unfolding next
placed_used p (Place q) k h = h q
placed_used p (Value e) k h = tt

-- an operation on integers
used_arithmetic : (o : BinaryOp) (l r : TExpr) → Used (operators.result_of o (Int (if is_shift o then judging.promoted (judging.kind_of l.ty) else judging.common (judging.kind_of l.ty) (judging.kind_of r.ty)) (judging.is_hidden l.ty || judging.is_hidden r.ty)))
used_arithmetic o l r = used_result o (Int (if is_shift o then judging.promoted (judging.kind_of l.ty) else judging.common (judging.kind_of l.ty) (judging.kind_of r.ty)) (judging.is_hidden l.ty || judging.is_hidden r.ty)) refl

-- an operator with two operands
operated_used : (p : Spot) (o : BinaryOp) (l r : TExpr) → IfOk (operators.operated p o l r) Gives
unfolding hidden-the_row-TExpr-0 hidden-the_row-TExpr-1 hidden-the_row-TPlace-2 hidden
operated_used p o l r = on (both_integers l.ty r.ty) (judging.is_equality o) (is_pointer l.ty)
  where
    on : (a b c : Bool) → IfOk (if a then operators.arithmetic p o l r else if b then lookup.is p (operators.truth false) (t.PointerSame l r (judging.is_unlike o)) else if c then lookup.is p l.ty (t.PointerStep l r (judging.is_minus o) false) else lookup.is p r.ty (t.PointerStep r l false true)) Gives
    on true b c = λ j. used_arithmetic o l r
    on false true c = λ j. refl
    on false false true = λ j. never (sym j)
    on false false false = λ j. never (sym j)

-- a call of the language's own that has a value
own_used : (c : OwnCall) (a : Given) → calls.has_value c ≡ true → not (calls.is_private c) ≡ true → Used (calls.own_type c a)
unfolding hidden-the_row-CType-0 hidden
own_used call.Private a h n = never n
own_used (call.Feed k) a h n = refl
own_used call.PrivateCount a h n = refl
own_used call.PublicCount a h n = refl
own_used call.Public a h n = refl
own_used call.Calloc a h n = refl
own_used call.Malloc a h n = refl
own_used (call.Reveal k) a h n = never h
own_used call.Result a h n = never h
own_used call.Printf a h n = never h
own_used call.Free a h n = never h

own_called_used : (p : Spot) (c : OwnCall) (a : Given) → IfOk (calls.own_called false p c a) Gives
own_called_used p c a = when p T3 (calls.has_value c) _ (λ i. when p _ _ _ (λ _. when p _ (not (calls.is_private c) && not a.misplaced) _ (λ n j. own_used c a i (first (not (calls.is_private c)) (not a.misplaced) n))))

-- a call of a function
function_used : (p : Spot) (n : ℕ) (h : Heading) (vs : List TExpr) → IfOk (calls.function_called false p n h vs) Gives
function_used p n h vs = when p T3 (not (is_nothing h.result)) _ (λ i. when p _ _ _ (λ _ j. i))

-- a print has none
print_used : {m : _} (r : Lookup) (p : Spot) (c : Row_of-Expr m) → IfOk (printing r false p c) Gives
unfolding next
print_used r p end_of-Expr = tt
print_used r p (more_of-Expr q n rest) = any_next (rules.headed (rules.text_of n) (expr r false q n)) _ (λ _. any_next (rules.printed r (prints.asked (prints.format_of (rules.text_of n)).pieces) rest) _ (λ a. tt))

-- a call
invoked_used : (p : Spot) (c : Called) (vs : Judged (List TExpr)) (a : Judged Given) (m : Judged Found) → IfOk m Gives → IfOk (invoked false p c vs a m) Gives
invoked_used p Variable vs a m h = any_next vs _ (λ _. tt)
invoked_used p Unknown vs a m h = any_next vs _ (λ _. tt)
invoked_used p (Known n k) vs a m h = any_next vs _ (λ ws. function_used p n k ws)
invoked_used p Print vs a m h = h
invoked_used p (Own c) vs a m h = any_next a _ (λ b. own_called_used p c b)

-- fields and names are places
field_used : (p : Spot) (q : TPlace) (o : Option _) → IfOk (operators.field_at p q o) Gives
field_used p q None = tt
field_used p q (Some f) = tt

member_used : (r : Lookup) (p : Spot) (x : List ℕ) (f : Found) → IfOk (operators.field r p x f) Gives
member_used r p x (Place q) = field_used p q (operators.field_in r q.ty x)
member_used r p x (Value e) = tt

variable_used : (p : Spot) (o : Option Seen) → IfOk (lookup.variable p o) Gives
variable_used p None = tt
variable_used p (Some s) = tt

-- an assignment
assign_used : (p : Spot) (o : Option BinaryOp) (f : Found) (v : TExpr) → IfOk (operators.assign p o f v) Gives
unfolding hidden-the_row-TExpr-0 hidden-the_row-TExpr-1 hidden-the_row-TPlace-2 hidden
assign_used p None f v = placed_used p f _ (λ q. any_next (lookup.convert q.ty v) _ (λ x j. never (sym j)))
assign_used p (Some o) f v = any_next (judging.demand p (judging.takes_update o) (lookup.type_of f) v.ty) _ (λ _. placed_used p f _ (λ q j. never (sym j)))

-- a cast
cast_used : (p : Spot) (u : CType) (e : TExpr) → IfOk (operators.cast p u e) Gives
cast_used p u e = when p T3 (is_integer u) _ (λ i. any_next (judging.demand e.spot judging.converts e.ty u) _ (λ _ j. used_int u i))

-- each form of an expression
pub expr_used : (r : Lookup) (n : ExprNode) (p : Spot) → IfOk (expr r false p n) Gives
unfolding next hidden-the_row-TExpr-0 hidden-the_row-TExpr-1 hidden-the_row-TPlace-2 hidden-the_row-CType-0 hidden
expr_used r (Number l) p = λ j. refl
expr_used r NullPointer p = λ j. refl
expr_used r (Text x) p = tt
expr_used r (Named x) p = variable_used p (lookup.find r.seen x)
expr_used r (Unary' o _ e) p = any_next (rules.one r e) _ (λ f. unary_used p o f)
expr_used r (Bump' up before _ e) p = any_next (rules.one r e) _ (λ f. when p T3 (is_integer (lookup.type_of f) || judging.leads (lookup.type_of f)) _ (λ _. placed_used p f _ (λ q j. never (sym j))))
expr_used r (Binary' o _ l _ k) p = any_next (rules.value r l) _ (λ x. any_next (rules.value r k) _ (λ y. any_next (judging.demand p (judging.takes o) x.ty y.ty) _ (λ _. operated_used p o x y)))
expr_used r (Logic' every _ l _ k) p = any_next (rules.value r l) _ (λ x. any_next (rules.value r k) _ (λ y. when p T3 (both_integers x.ty y.ty) _ (λ _ j. used_truth (judging.is_hidden x.ty || judging.is_hidden y.ty))))
expr_used r (Choose' _ c _ y _ n) p = any_next (rules.value r c) _ (λ a. any_next (rules.value r y) _ (λ b. any_next (rules.value r n) _ (λ d. when p T3 (is_integer a.ty && both_integers b.ty d.ty) _ (λ _. when p _ (not (judging.is_hidden a.ty)) _ (λ _ j. refl)))))
expr_used r (Assign' o _ l _ k) p = any_next (rules.one r l) _ (λ f. any_next (rules.value r k) _ (λ v. assign_used p o f v))
expr_used r (Index' _ e _ a) p = any_next (rules.value r e) _ (λ x. any_next (rules.value r a) _ (λ y. when p T3 (judging.leads x.ty && is_integer y.ty) _ (λ _. when p _ (not (judging.is_hidden y.ty)) _ (λ _. tt))))
expr_used r (Field' _ e x) p = any_next (rules.one r e) _ (λ f. member_used r p x f)
expr_used r (Arrow' _ e x) p = any_next (rules.value r e) _ (λ v. field_used p _ (operators.field_in r (target v.ty) x))
expr_used r (Cast' w _ e) p = any_next (type_name r w) _ (λ u. any_next (rules.value r e) _ (λ v. cast_used p u v))
expr_used r (SizeOf w) p = any_next (base_type r (nat_eq w.stars 0) w.base) (λ _. breaks p T9) (λ _. tt)
expr_used r (Call' x _ es) p = invoked_used p (calls.called r x) _ _ _ (print_used r p es)

-- a value that is read has the type of its place
place_open : (q : TPlace) → is_open (lookup.value_of (Place q)).node ≡ true
unfolding hidden-the_row-TPlace-2 hidden
place_open q = on (judging.is_array q.ty)
  where
    open_node : TExpr → Bool
    open_node e = is_open e.node

    on : (b : Bool) → open_node (if b then record { spot = q.spot; ty = Pointer false (judging.element q.ty); node = t.Decay q } else record { spot = q.spot; ty = q.ty; node = t.Read q }) ≡ true
    on true = refl
    on false = refl

-- so the value of what is found
pub used_of : (g : Context) (vis : List ℕ) (f : Found) → Gives f → alone g vis (lookup.value_of f) ≡ true → Used (lookup.value_of f).ty
used_of g vis (Place q) h i = open_used g vis (lookup.value_of (Place q)).node (lookup.value_of (Place q)).ty (second (is_of_node g (lookup.value_of (Place q)).ty) (typed.expr g vis false (lookup.value_of (Place q)).ty (lookup.value_of (Place q)).node) i) (place_open q)
used_of g vis (Value e) h i = on (is_open e.node) refl
  where
    on : (b : Bool) → is_open e.node ≡ b → Used e.ty
    on true q = open_used g vis e.node e.ty (second (is_of_node g e.ty) (typed.expr g vis false e.ty e.node) i) q
    on false q = h q

-- two judgements are the same
abbrev same_judged : Judged TExpr → Judged TExpr → Type 0
same_judged a b = a ≡ b

-- a value that is used, and passes the test, isn't of the type of no value
pub value_used : (r : Lookup) (p : Spot) (n : ExprNode) (v : TExpr) → lookup.valued (expr r false p n) ≡ Ok v → (g : Context) (vis : List ℕ) → alone g vis v ≡ true → Used v.ty
unfolding next
value_used r p n v q g vis h = on (expr r false p n) (expr_used r n p) q
  where
    ok_is : {a b : TExpr} → same_judged (Ok a) (Ok b) → a ≡ b
    ok_is q = (cc)

    err_ok : {e : Refusal} {a : TExpr} → same_judged (Err e) (Ok a) → ⊥
    err_ok q = (cc)

    on : (m : Judged Found) → IfOk m Gives → lookup.valued m ≡ Ok v → Used v.ty
    on (Ok f) i q = subst (λ w. Used w.ty) (ok_is q) (used_of g vis f i (subst (λ w. alone g vis w ≡ true) (sym (ok_is q)) h))
    on (Err b) i q = absurd (err_ok q)
