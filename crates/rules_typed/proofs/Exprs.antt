-- What the rules give for an expression passes the test.
use Rattle.std.proofs.Common.{ℕ, ◌≡◌, List, Option, Some, None, Ok, refl, sym, ◌∙◌, subst, Bool, true, false, nat_eq, arith, suc, [], ◌∷◌, length, Err}
use Rattle.std.specs.Prelude.{◌||◌, not, if◌then◌else◌, slice_get, IfOk}
use Rattle.oc_values.specs.declared.integers.IntKind.{IntKind}
use Rattle.oc_values.specs.declared.integers.BinaryOp.{BinaryOp}
use Rattle.oc_values.specs.declared.integers.OneOp.TheVariants.{Neg, Plus, Not, Flip}
use Rattle.oc_cells.specs.declared.types.CType.{CType, Int, Pointer', Array', Struct, Nothing, end_of-CType, more_of-CType}
use Rattle.oc_cells.specs.Types.{target, is_struct}
use Rattle.oc_source.specs.declared.spot.Spot.{Spot}
use Rattle.oc_typed.specs.declared.typed.TExpr.{TExpr}
use Rattle.oc_typed.specs.declared.typed.TExprNode.TheBlock.{hidden-the_row-TExpr-0, hidden-the_row-TExpr-1, hidden-the_row-TPlace-2}
use Rattle.oc_cells.specs.declared.types.CType.TheBlock.{hidden-the_row-CType-0}
use denote.Hole.Carrier.{hidden}
use Rattle.oc_cells.specs.declared.types.CType.TheViews.{Pointer}
use Rattle.oc_cells.specs.declared.types.FieldType.{FieldType}
use Rattle.type_rules.specs.declared.judging.Found.{Found}
use Rattle.type_rules.specs.declared.judging.Found.TheVariants.{Place, Value}
use Rattle.type_rules.specs.declared.judging.TypeRule.{TypeRule}
use Rattle.type_rules.specs.declared.judging.TypeRule.TheVariants.{T3, T4, T1, T7, T9}
use Rattle.type_rules.specs.Judging.{Judged, next, breaks}
use Rattle.type_rules.specs.Lookup.{converted, convert, is, value_of, Lookup, valued, find}
use Rattle.type_rules.specs.Operators.{field_at, unary, assign, field_in, field}
use Rattle.oc_typing.specs.Rules.{is_nothing}
use Rattle.oc_typing.specs.Typed.{Context, is_of_node, alone}
use Rattle.rules_typed.specs.Agreeing.{Good, Passes, Valued, GoodField, Agrees}
use Rattle.oc_source.specs.declared.parsed.TypeName.{TypeName}
use Rattle.oc_source.specs.declared.parsed.UnaryOp.{UnaryOp}
use Rattle.oc_source.specs.declared.parsed.UnaryOp.TheVariants.{Neg, Plus, Not, Flip, Deref, Address}
use Rattle.oc_source.specs.declared.parsed.ExprNode.{ExprNode, Number, NullPointer, Text, Named, Unary', Bump', Binary', Logic', Choose', Assign', Index', Field', Arrow', Call', Cast', SizeOf, Row_of-Expr, end_of-Expr, more_of-Expr}
use Rattle.type_rules.specs.declared.judging.Heading.{Heading}
use Rattle.type_rules.specs.declared.judging.OwnCall.{OwnCall}
use Rattle.type_rules.specs.declared.judging.Want.{Want}
use Rattle.type_rules.specs.Calls.{called, Called, Variable, Unknown, Print, Own, Known, types_of, Given, function_called}
use Rattle.type_rules.specs.Written.{type_name}
use Rattle.type_rules.specs.Rules.{expr, one, value, passed, given, printing, printed, headed, text_of, sized, params_of, wants_of, invoked}
use Rattle.rules_typed.specs.Laws.{ExpressionsPass}
use Rattle.oc_typed.specs.declared.typed.TExprNode as t
use Rattle.oc_typed.specs.declared.typed.TPlaceNode as place
use Rattle.type_rules.specs.Judging as judging
use Rattle.oc_typing.specs.Rules as test
use Rattle.oc_typing.specs.Typed as typed
use Rattle.oc_values.specs.declared.integers.OneOp.TheVariants as op
use Rattle.type_rules.specs.declared.judging.Want.TheVariants as want
use Rattle.type_rules.specs.Calls as calls
use Rattle.type_rules.specs.Prints as prints
use Rattle.type_rules.specs.Rules as rules
use Rattle.rules_typed.proofs.Bools.{both, first, never, none_some, second}
use Rattle.rules_typed.proofs.Types.{public_test}
use Rattle.rules_typed.proofs.Nodes.{assigned_good, bump_good, cast_good, choice_good, converted_good, deny_good, deref_node, field_good, flip_test, follow_good, if_needs, index_good, logic_good, minus_test, negate_good, node_of, number_good, of_type, operate_good, plus_test, refer_good, target_type, updated_good, value_good, variable_good}
use Rattle.rules_typed.proofs.Arguments.{AllAlone, Matched, all_alone, exprs_row, length_types, matched_types, types_in, types_row}
use Rattle.rules_typed.proofs.Prints.{GivesPrinted, after_any, if_printed, print_good, printed_as, printed_more}
use Rattle.rules_typed.proofs.OwnCalls.{Told1, exact_none, Exact, IsFed, Told, bytes_of, called_shown, either_same, extra_good, more_good, none_given, only_count, own_called_good, private_given, private_many, private_of, shown, size_of, times, value_given}
use Rattle.rules_typed.proofs.Numbers.{number_is}

module _ (r : Lookup) (g : Context) (vis : List ℕ) (fits : Agrees r g vis) where
  -- what is judged to have a value
  abbrev pub Gives : Judged TExpr → Type 0
  Gives m = IfOk m (λ e. alone g vis e ≡ true)

  -- a part, and what follows
  pub if_next : (m : Judged Found) (k : Found → Judged Found) → Passes g vis m → ((f : Found) → Good g vis f → Passes g vis (k f)) → Passes g vis (next m k)
  unfolding next
  if_next (Ok f) k h i = i f h
  if_next (Err e) k h i = tt

  pub if_value : (m : Judged TExpr) (k : TExpr → Judged Found) → Gives m → ((e : TExpr) → alone g vis e ≡ true → Passes g vis (k e)) → Passes g vis (next m k)
  unfolding next
  if_value (Ok e) k h i = i e h
  if_value (Err e) k h i = tt

  -- its value passes
  pub valued_good : (m : Judged Found) → Passes g vis m → Gives (valued m)
  unfolding next
  valued_good (Ok f) h = value_good g vis f h
  valued_good (Err e) h = tt

  -- `NULL`
  pub null_node : (p : Spot) → Passes g vis (is p (Pointer false Nothing) t.NullPointer)
  unfolding hidden-the_row-CType-0 hidden
  null_node p = refl

  -- what breaks a rule in any case
  pub broken_after : {A : Type 0} (m : Judged A) (p : Spot) (b : TypeRule) → Passes g vis (next m (λ _. breaks p b))
  unfolding next
  broken_after (Ok a) p b = tt
  broken_after (Err e) p b = tt

  -- an operator with one operand
  pub unary_good : (p : Spot) (o : UnaryOp) (f : Found) → Good g vis f → Passes g vis (unary p o f)
  unary_good p Neg f h = negate_good g vis p op.Neg (value_of f) (minus_test g vis) (value_good g vis f h)
  unary_good p Plus f h = negate_good g vis p op.Plus (value_of f) (plus_test g vis) (value_good g vis f h)
  unary_good p Flip f h = negate_good g vis p op.Flip (value_of f) (flip_test g vis) (value_good g vis f h)
  unary_good p Not f h = deny_good g vis p (value_of f) (value_good g vis f h)
  unary_good p Deref f h = follow_good g vis p (value_of f) (value_good g vis f h)
  unary_good p Address f h = refer_good g vis p f h

  -- an assignment
  pub assign_good : (p : Spot) (o : Option BinaryOp) (f : Found) (v : TExpr) → Good g vis f → alone g vis v ≡ true → Passes g vis (assign p o f v)
  assign_good p None f v h i = assigned_good g vis p f v h i
  assign_good p (Some o) f v h i = updated_good g vis p o f v h i

  -- a field of a place
  pub member_good : (p : Spot) (x : List ℕ) (f : Found) → Good g vis f → Passes g vis (field r p x f)
  member_good p x (Value e) h = tt
  member_good p x (Place q) h = field_good g vis p q (field_in r q.ty x) (fits.fields q.ty x) h.0 h.1

  -- what has a field is a struct
  pub some_struct : (u : CType) (x : List ℕ) (f : FieldType) → field_in r u x ≡ Some f → is_struct u ≡ true
  some_struct (Struct n) x f h = refl
  some_struct (Int k o) x f h = absurd (none_some h)
  some_struct (Pointer' k o y) x f h = absurd (none_some h)
  some_struct (Array' k o y) x f h = absurd (none_some h)
  some_struct Nothing x f h = absurd (none_some h)

  -- what leads to a struct leads to something
  pub to_struct : (u : CType) → is_struct (target u) ≡ true → judging.leads u ≡ true
  to_struct (Pointer' f v (more_of-CType (Struct n) end_of-CType)) h = refl
  to_struct (Pointer' f v (more_of-CType (Int k o) end_of-CType)) h = never h
  to_struct (Pointer' f v (more_of-CType (Pointer' e w y) end_of-CType)) h = never h
  to_struct (Pointer' f v (more_of-CType (Array' n w y) end_of-CType)) h = never h
  to_struct (Pointer' f v (more_of-CType Nothing end_of-CType)) h = never h
  to_struct (Int k o) h = never h
  to_struct (Array' n v y) h = never h
  to_struct (Struct n) h = never h
  to_struct Nothing h = never h

  -- a field of where a pointer leads
  pub arrow_at : (p : Spot) (x : List ℕ) (e : TExpr) (o : Option FieldType) → field_in r (target e.ty) x ≡ o → alone g vis e ≡ true → Passes g vis (field_at p (record { spot = p; ty = target e.ty; node = place.Deref e }) o)
  arrow_at p x e None q h = tt
  arrow_at p x e (Some f) q h =
      let k = to_struct e.ty (some_struct (target e.ty) x f q) in
      field_good g vis p (record { spot = p; ty = target e.ty; node = place.Deref e }) (Some f) (subst (λ o. GoodField g o (target e.ty)) q (fits.fields (target e.ty) x)) (target_type g vis e.ty (node_of g vis e h) k) (deref_node g vis e h k)

  -- a written type, and what follows
  pub if_type : (w : TypeName) (k : CType → Judged Found) → ((u : CType) → of_type g vis u ≡ true → Passes g vis (k u)) → Passes g vis (next (type_name r w) k)
  unfolding next
  if_type w k f = at (type_name r w) (fits.types w)
    where
      at : (m : Judged CType) → ((u : CType) → m ≡ Ok u → of_type g vis u ≡ true) → Passes g vis (next m k)
      at (Ok u) i = f u (i u refl)
      at (Err e) i = tt

-- nothing is wanted where arguments are left
pub no_length : (n : ℕ) → nat_eq 0 (suc n) ≡ true → ⊥
no_length n h = grind arith

module _ (r : Lookup) (g : Context) (vis : List ℕ) (fits : Agrees r g vis) where
  -- the node of a call
  pub call_node : (p : Spot) (n : ℕ) (u : CType) (vs : List TExpr) → is_of_node g u ≡ true → typed.call u (types_in vs) (slice_get g.functions n) ≡ true → AllAlone g vis vs → alone g vis (record { spot = p; ty = u; node = t.Call n vs }) ≡ true
  unfolding hidden-the_row-TExpr-0 hidden-the_row-TExpr-1 hidden-the_row-TPlace-2 hidden
  call_node p n u vs i c h = both i (both (subst (λ ts. typed.call u ts (slice_get g.functions n) ≡ true) (sym (types_row vs)) c) (exprs_row g vis vs h))

  -- a call of a function
  pub function_good : (alone_here : Bool) (p : Spot) (x : List ℕ) (n : ℕ) (h : Heading) (vs : List TExpr) → called r x ≡ Known n h → Matched g vis (types_of h.params) vs → Passes g vis (function_called alone_here p n h vs)
  function_good alone_here p x n h vs q m =
      if_needs g vis p T3 (alone_here || not (is_nothing h.result)) _ (λ _.
      if_needs g vis p T7 (nat_eq (length vs) (length h.params)) _ (λ k.
      call_node p n h.result vs (fits.functions x n h q).result
      (subst (λ ts. typed.call h.result ts (slice_get g.functions n) ≡ true) (sym (matched_types g vis (types_of h.params) vs m (number_is (length vs) (length h.params) k ∙ length_types h.params))) (fits.functions x n h q).call)
      (all_alone g vis (types_of h.params) vs m)))

  -- arguments break a rule, or match their parameters
  abbrev pub GivesAll : List CType → Judged (List TExpr) → Type 0
  GivesAll ts m = IfOk m (λ es. Matched g vis ts es)

  -- one argument after another
  pub then_all : (ts us : List CType) (m : Judged TExpr) (rest : Judged (List TExpr)) (P : TExpr → Type 0) → IfOk m P → GivesAll us rest → ((e : TExpr) (es : List TExpr) → P e → Matched g vis us es → Matched g vis ts (e ∷ es)) → GivesAll ts (next m (λ v. next rest (λ vs. Ok (v ∷ vs))))
  unfolding next
  then_all ts us (Ok e) (Ok es) P h i f = f e es h i
  then_all ts us (Ok e) (Err b) P h i f = tt
  then_all ts us (Err b) rest P h i f = tt

  -- an argument that is converted
  pub converted_all : (u : CType) (ts : List CType) (m : Judged TExpr) (rest : Judged (List TExpr)) → of_type g vis u ≡ true → IfOk m (λ e. alone g vis e ≡ true) → GivesAll ts rest → GivesAll (u ∷ ts) (next m (λ v. next (convert u v) (λ x. next rest (λ vs. Ok (x ∷ vs)))))
  unfolding next
  converted_all u ts (Err b) rest k h i = tt
  converted_all u ts (Ok e) rest k h i = at (judging.converts e.ty u) (judging.converts (judging.bare e.ty) (judging.bare u)) (λ c. converted_good g vis u e h k c)
    where
      at : (c d : Bool) → (c ≡ true → Valued g vis u (converted u e)) → GivesAll (u ∷ ts) (next (next (if c then Ok (tt {0}) else if d then breaks e.spot T4 else breaks e.spot T3) (λ _. Ok (converted u e))) (λ x. next rest (λ vs. Ok (x ∷ vs))))
      at true d f = tail rest i (f refl)
        where
          tail : (rest : Judged (List TExpr)) → GivesAll ts rest → Valued g vis u (converted u e) → GivesAll (u ∷ ts) (next rest (λ vs. Ok (converted u e ∷ vs)))
          tail (Ok es) i v = (v, i)
          tail (Err b) i v = tt
      at false true f = tt
      at false false f = tt

  -- arguments, and what follows
  pub with_list : (ts : List CType) (m : Judged (List TExpr)) (k : List TExpr → Judged Found) → GivesAll ts m → ((vs : List TExpr) → Matched g vis ts vs → Passes g vis (k vs)) → Passes g vis (next m k)
  unfolding next
  with_list ts (Ok vs) k h f = f vs h
  with_list ts (Err b) k h f = tt

  -- a call of what the name is
  pub invoked_good : (alone_here : Bool) (p : Spot) (x : List ℕ) (c : Called) (vs : Judged (List TExpr)) (a : Judged Given) (m : Judged Found) → called r x ≡ c → GivesAll (params_of c) vs → ((k : OwnCall) → c ≡ Own k → Passes g vis (next a (λ b. calls.own_called alone_here p k b))) → Passes g vis m → Passes g vis (invoked alone_here p c vs a m)
  invoked_good alone_here p x Variable vs a m q h f i = broken_after r g vis fits vs p T7
  invoked_good alone_here p x Unknown vs a m q h f i = broken_after r g vis fits vs p T1
  invoked_good alone_here p x (Known n k) vs a m q h f i = with_list (types_of k.params) vs (λ ws. function_called alone_here p n k ws) h (λ ws j. function_good alone_here p x n k ws q j)
  invoked_good alone_here p x Print vs a m q h f i = i
  invoked_good alone_here p x (Own c) vs a m q h f i = f c refl

  -- the types of the parameters of what is called
  pub params_whole : (x : List ℕ) (c : Called) → called r x ≡ c → test.all (of_type g vis) (params_of c) ≡ true
  params_whole x Variable q = refl
  params_whole x Unknown q = refl
  params_whole x Print q = refl
  params_whole x (Own k) q = refl
  params_whole x (Known n h) q = (fits.functions x n h q).params

  -- a call of the language's own
  pub own_passes : (a : Bool) (p : Spot) (c : OwnCall) (m : Judged Given) → IfOk m (Told g vis (calls.wants c)) → shown g vis c ≡ true → Passes g vis (next m (λ b. calls.own_called a p c b))
  unfolding next
  own_passes a p c (Ok x) t s = own_called_good g vis a p c x t s
  own_passes a p c (Err b) t s = tt

  -- a written type in a call
  pub sized_good : (w : TypeName) (want : Want) → ((u : CType) → of_type g vis u ≡ true → Exact g vis want (calls.given_size u)) → IfOk (sized r w) (Told1 g vis want)
  unfolding next
  sized_good w want f = at (type_name r w) (fits.types w)
    where
      at : (m : Judged CType) → ((u : CType) → m ≡ Ok u → of_type g vis u ≡ true) → IfOk (next m (λ ty. Ok (calls.given_size ty))) (Told1 g vis want)
      at (Ok u) i = (refl, λ n. f u (i u refl))
      at (Err e) i = tt

  -- a product with a type in front, and behind
  pub front_good : (w : TypeName) (m : Judged TExpr) → IfOk m (λ e. alone g vis e ≡ true) → IfOk (next (sized r w) (λ a. next m (λ v. next (rules.counted v) (λ b. Ok (rules.both_parts a b))))) (Told1 g vis want.Bytes)
  unfolding next
  front_good w m h = at (type_name r w) m (fits.types w) h
    where
      inner : (c d : Bool) (u : CType) (v : TExpr) → of_type g vis u ≡ true → alone g vis v ≡ true → (c ≡ true → test.is_public v.ty ≡ true) → IfOk (next (next (if c then Ok (tt {0}) else if d then breaks v.spot T4 else breaks v.spot T3) (λ _. Ok (calls.given_value v))) (λ b. Ok (rules.both_parts (calls.given_size u) b))) (Told1 g vis want.Bytes)
      inner true d u v i h f = (refl, λ n. subst (λ w. Exact g vis want.Bytes (record { args = v ∷ []; party = 0; of = w; misplaced = false; count = 1 })) (sym (either_same g vis u)) (times i h (f refl)))
      inner false true u v i h f = tt
      inner false false u v i h f = tt

      at : (t : Judged CType) (m : Judged TExpr) → ((u : CType) → t ≡ Ok u → of_type g vis u ≡ true) → IfOk m (λ e. alone g vis e ≡ true) → IfOk (next (next t (λ ty. Ok (calls.given_size ty))) (λ a. next m (λ v. next (rules.counted v) (λ b. Ok (rules.both_parts a b))))) (Told1 g vis want.Bytes)
      at (Ok u) (Ok v) i h = inner (judging.is_public v.ty) (judging.is_public (judging.bare v.ty)) u v (i u refl) h (λ c. public_test v.ty c)
      at (Ok u) (Err e) i h = tt
      at (Err e) m i h = tt

  -- a product with a type behind
  pub behind_good : (w : TypeName) (m : Judged TExpr) → IfOk m (λ e. alone g vis e ≡ true) → IfOk (next m (λ v. next (rules.counted v) (λ a. next (sized r w) (λ b. Ok (rules.both_parts a b))))) (Told1 g vis want.Bytes)
  unfolding next
  behind_good w m h = at (type_name r w) m (fits.types w) h
    where
      inner : (c d : Bool) (t : Judged CType) (v : TExpr) → ((u : CType) → t ≡ Ok u → of_type g vis u ≡ true) → alone g vis v ≡ true → (c ≡ true → test.is_public v.ty ≡ true) → IfOk (next (next (if c then Ok (tt {0}) else if d then breaks v.spot T4 else breaks v.spot T3) (λ _. Ok (calls.given_value v))) (λ a. next (next t (λ ty. Ok (calls.given_size ty))) (λ b. Ok (rules.both_parts a b)))) (Told1 g vis want.Bytes)
      inner true d (Ok u) v i h f = (refl, λ n. times (i u refl) h (f refl))
      inner true d (Err e) v i h f = tt
      inner false true t v i h f = tt
      inner false false t v i h f = tt

      at : (t : Judged CType) (m : Judged TExpr) → ((u : CType) → t ≡ Ok u → of_type g vis u ≡ true) → IfOk m (λ e. alone g vis e ≡ true) → IfOk (next m (λ v. next (rules.counted v) (λ a. next (next t (λ ty. Ok (calls.given_size ty))) (λ b. Ok (rules.both_parts a b))))) (Told1 g vis want.Bytes)
      at t (Ok v) i h = inner (judging.is_public v.ty) (judging.is_public (judging.bare v.ty)) t v i h (λ c. public_test v.ty c)
      at t (Err e) i h = tt

  -- what is out of place
  pub wrong_good : (w : Want) → Told1 g vis w calls.given_wrong
  wrong_good w = (refl, λ n. never (sym n))

  -- a product with a `sizeof`
  pub product_good : (o q : Option TypeName) (l k : Judged Found) → Passes g vis l → Passes g vis k → IfOk (rules.product r o q l k) (Told1 g vis want.Bytes)
  product_good (Some w) q l k h i = front_good w (valued k) (valued_good r g vis fits k i)
  product_good None (Some w) l k h i = behind_good w (valued l) (valued_good r g vis fits l h)
  product_good None None l k h i = wrong_good want.Bytes

  -- an argument, judged in either way
  pub by_choice : (w : Want) (b : Bool) (x y : calls.Way) (m : Judged Found) (v : Judged TExpr) (z : Judged Given) → IfOk (calls.given_by x w m v z) (Told1 g vis w) → IfOk (calls.given_by y w m v z) (Told1 g vis w) → IfOk (calls.given_by (if b then x else y) w m v z) (Told1 g vis w)
  by_choice w true x y m v z h i = h
  by_choice w false x y m v z h i = i

  -- an argument where something is wanted
  pub argument_good : (n : ExprNode) (p : Spot) (w : Want) → Passes g vis (expr r false p n) → IsFed g vis (rules.private r p n) → IfOk (rules.size r n) (Told1 g vis want.Bytes) → IfOk (calls.given_by (rules.way r w n) w (expr r false p n) (rules.private r p n) (rules.size r n)) (Told1 g vis w)
  argument_good n p want.Index h f z = value_given g vis want.Index (expr r false p n) h
  argument_good n p (want.Word k) h f z = by_choice (want.Word k) (rules.is_private_node r n) calls.ByPrivate calls.ByValue (expr r false p n) (rules.private r p n) (rules.size r n) (private_given g vis k (rules.private r p n) f) (value_given g vis (want.Word k) (expr r false p n) h)
  argument_good n p want.Party h f z = value_given g vis want.Party (expr r false p n) h
  argument_good n p (want.Target k) h f z = value_given g vis (want.Target k) (expr r false p n) h
  argument_good n p (want.Hidden k) h f z = value_given g vis (want.Hidden k) (expr r false p n) h
  argument_good n p want.Zero h f z = value_given g vis want.Zero (expr r false p n) h
  argument_good n p want.Own h f z = value_given g vis want.Own (expr r false p n) h
  argument_good n p want.Address h f z = value_given g vis want.Address (expr r false p n) h
  argument_good n p want.Bytes h f z = by_choice want.Bytes (rules.has_sizeof n) calls.BySize calls.ByValue (expr r false p n) (rules.private r p n) (rules.size r n) z (value_given g vis want.Bytes (expr r false p n) h)
  argument_good (SizeOf w) p want.Size h f z = sized_good w want.Size (λ u i. size_of i)
  argument_good n p want.Size h f z = value_given g vis want.Size (expr r false p n) h

  mutual
    -- each form of an expression
    pub expr_good : (n : ExprNode) (alone_here : Bool) (p : Spot) → Passes g vis (expr r alone_here p n)
    expr_good (Number l) a p = number_good g vis p l
    expr_good NullPointer a p = null_node r g vis fits p
    expr_good (Text x) a p = tt
    expr_good (Named x) a p = variable_good g vis p (find r.seen x) (fits.seen x)
    expr_good (Unary' op _ e) a p = if_next r g vis fits (one r e) _ (one_good e) (λ f i. unary_good r g vis fits p op f i)
    expr_good (Bump' up before _ e) a p = if_next r g vis fits (one r e) _ (one_good e) (λ f i. bump_good g vis p up before f i)
    expr_good (Binary' op _ l _ k) a p = if_value r g vis fits (value r l) _ (values_good l) (λ x i. if_value r g vis fits (value r k) _ (values_good k) (λ y j. operate_good g vis p op x y i j))
    expr_good (Logic' every _ l _ k) a p = if_value r g vis fits (value r l) _ (values_good l) (λ x i. if_value r g vis fits (value r k) _ (values_good k) (λ y j. logic_good g vis p every x y i j))
    expr_good (Choose' _ c _ y _ n) a p =
        if_value r g vis fits (value r c) _ (values_good c) (λ b i. if_value r g vis fits (value r y) _ (values_good y) (λ d j. if_value r g vis fits (value r n) _ (values_good n) (λ e k. choice_good g vis p b d e i j k)))
    expr_good (Assign' op _ l _ k) a p = if_next r g vis fits (one r l) _ (one_good l) (λ f i. if_value r g vis fits (value r k) _ (values_good k) (λ v j. assign_good r g vis fits p op f v i j))
    expr_good (Index' _ e _ b) a p = if_value r g vis fits (value r e) _ (values_good e) (λ x i. if_value r g vis fits (value r b) _ (values_good b) (λ y j. index_good g vis p x y i j))
    expr_good (Field' _ e x) a p = if_next r g vis fits (one r e) _ (one_good e) (λ f i. member_good r g vis fits p x f i)
    expr_good (Arrow' _ e x) a p = if_value r g vis fits (value r e) _ (values_good e) (λ v i. arrow_at r g vis fits p x v (field_in r (target v.ty) x) refl i)
    expr_good (Cast' w _ e) a p = if_type r g vis fits w _ (λ u k. if_value r g vis fits (value r e) _ (values_good e) (λ v i. cast_good g vis p u v k i))
    expr_good (SizeOf w) a p = broken_after r g vis fits _ p T9
    expr_good (Call' x _ es) a p =
        invoked_good a p x (called r x) (passed r (params_of (called r x)) es) (given r (wants_of (called r x)) es) (printing r a p es) refl (passed_good es (params_of (called r x)) (params_whole x (called r x) refl))
        (λ k q. subst (λ c. Passes g vis (next (given r (wants_of c) es) (λ b. calls.own_called a p k b))) (sym q) (own_passes a p k (given r (calls.wants k) es) (given_good es (calls.wants k)) (called_shown g vis r x (find r.seen x) k q))) (printing_good es a p)

    one_good : (c : Row_of-Expr 1) → Passes g vis (one r c)
    one_good (more_of-Expr p n rest) = expr_good n false p

    values_good : (c : Row_of-Expr 1) → IfOk (value r c) (λ e. alone g vis e ≡ true)
    values_good (more_of-Expr p n rest) = valued_good r g vis fits (expr r false p n) (expr_good n false p)

    passed_good : {m : _} (c : Row_of-Expr m) (ts : List CType) → test.all (of_type g vis) ts ≡ true → GivesAll ts (passed r ts c)
    passed_good end_of-Expr ts k = tt
    passed_good (more_of-Expr p n rest) [] k = then_all [] [] (valued (expr r false p n)) (passed r [] rest) (λ e. alone g vis e ≡ true) (valued_good r g vis fits (expr r false p n) (expr_good n false p)) (passed_good rest [] k) (λ e es i j. (i, j))
    passed_good (more_of-Expr p n rest) (u ∷ ts) k = converted_all u ts (valued (expr r false p n)) (passed r ts rest) (first (of_type g vis u) (test.all (of_type g vis) ts) k) (valued_good r g vis fits (expr r false p n) (expr_good n false p)) (passed_good rest ts (second (of_type g vis u) (test.all (of_type g vis) ts) k))

    printing_good : {m : _} (c : Row_of-Expr m) (alone_here : Bool) (p : Spot) → Passes g vis (printing r alone_here p c)
    printing_good end_of-Expr a p = print_good g vis a p false None (record { args = []; fit = true }) tt
    printing_good (more_of-Expr q n rest) a p =
        after_any g vis (headed (text_of n) (expr r false q n)) _
        (if_printed g vis (prints.asked (prints.format_of (text_of n)).pieces) (printed r (prints.asked (prints.format_of (text_of n)).pieces) rest) _ (printed_good rest (prints.asked (prints.format_of (text_of n)).pieces)) (λ x i. print_good g vis a p true (text_of n) x i))

    printed_good : {m : _} (c : Row_of-Expr m) (ks : List IntKind) → GivesPrinted g vis ks (printed r ks c)
    printed_good end_of-Expr ks = tt
    printed_good (more_of-Expr p n rest) [] = printed_more g vis (valued (expr r false p n)) (printed r [] rest) (valued_good r g vis fits (expr r false p n) (expr_good n false p)) (printed_good rest [])
    printed_good (more_of-Expr p n rest) (k ∷ ks) = printed_as g vis k ks (valued (expr r false p n)) (printed r ks rest) (valued_good r g vis fits (expr r false p n) (expr_good n false p)) (printed_good rest ks)

    given_good : {m : _} (c : Row_of-Expr m) (ws : List Want) → IfOk (given r ws c) (Told g vis ws)
    given_good end_of-Expr [] = λ q n. exact_none
    given_good end_of-Expr (w ∷ ws) = λ q n. absurd (no_length (length ws) q)
    given_good (more_of-Expr p n rest) [] = extra_good g vis (valued (expr r false p n)) (given r [] rest)
    given_good (more_of-Expr p n rest) (w ∷ ws) = more_good g vis w ws (calls.given_by (rules.way r w n) w (expr r false p n) (rules.private r p n) (rules.size r n)) (given r ws rest) (argument_good n p w (expr_good n false p) (private_good n p) (size_good n)) (given_good rest ws)

    private_good : (n : ExprNode) (p : Spot) → IsFed g vis (rules.private r p n)
    private_good (Call' x _ es) p = private_row es p
    private_good _ p = tt

    private_row : {m : _} (c : Row_of-Expr m) (p : Spot) → IsFed g vis (next (given r (want.Index ∷ []) c) (λ a. calls.private_word p a))
    private_row end_of-Expr p = none_given g vis p
    private_row (more_of-Expr q n end_of-Expr) p = private_of g vis p (valued (expr r false q n)) (valued_good r g vis fits (expr r false q n) (expr_good n false q))
    private_row (more_of-Expr q n (more_of-Expr s k rest)) p = private_many g vis p (calls.given_by (rules.way r want.Index n) want.Index (expr r false q n) (rules.private r q n) (rules.size r n)) (valued (expr r false s k)) (given r [] rest) (only_count g vis want.Index (calls.given_by (rules.way r want.Index n) want.Index (expr r false q n) (rules.private r q n) (rules.size r n)) (value_given g vis want.Index (expr r false q n) (expr_good n false q)))

    size_good : (n : ExprNode) → IfOk (rules.size r n) (Told1 g vis want.Bytes)
    size_good (SizeOf w) = sized_good w want.Bytes (λ u i. bytes_of i)
    size_good (Binary' op _ l _ k) = product_good (rules.sizeof_row l) (rules.sizeof_row k) (one r l) (one r k) (one_good l) (one_good k)
    size_good _ = wrong_good want.Bytes

pub expressions_typed : ExpressionsPass
expressions_typed r g vis n a p fits = expr_good r g vis fits n a p
