-- What the rules give for a statement passes the test.
use Rattle.std.proofs.Common.{ℕ, ◌≡◌, List, [], ◌∷◌, ◌++◌, length, Option, Some, None, Ok, Err, refl, sym, ap, ◌∙◌, subst, Bool, true, false}
use Rattle.std.specs.Prelude.{◌&&◌, not, if◌then◌else◌, slice_get, IfOk}
use Rattle.oc_values.specs.declared.integers.IntKind.TheVariants.{Bool as KBool}
use Rattle.oc_cells.specs.declared.types.CType.{CType, Int}
use Rattle.oc_cells.specs.declared.types.SlotType.{SlotType}
use Rattle.oc_cells.specs.Types.{same}
use Rattle.oc_source.specs.declared.spot.Spot.{Spot}
use Rattle.oc_typed.specs.declared.typed.TExpr.{TExpr}
use Rattle.oc_typed.specs.declared.typed.TStmt as made_stmt
use Rattle.oc_typed.specs.declared.typed.TStmtNode as s
use Rattle.oc_typed.specs.declared.typed.TStmtNode.TheBlock.{hidden-the_row-TStmt-0, hidden-the_row-TStmt-1, back-the_row-TStmt}
use Rattle.oc_typed.specs.declared.typed.TDeclared as made_declared
use Rattle.oc_typed.specs.declared.typed.TForInit as made_init
use Rattle.oc_typed.specs.declared.typed.TForInit.TheVariants as init
use denote.Hole.Carrier.{hidden}
use Rattle.oc_source.specs.declared.parsed.Expr.{Expr}
use Rattle.oc_source.specs.declared.parsed.Declared.{Declared}
use Rattle.oc_source.specs.declared.parsed.StmtNode.{StmtNode, Declare, Express, Block', If', OblivIf', Always', While', For', Return, Break, Continue, Empty, Row_of-Stmt, end_of-Stmt, more_of-Stmt, Held-StmtNode-If-2, None', Some'}
use Rattle.oc_source.specs.declared.parsed.ForInit.{ForInit}
use Rattle.oc_source.specs.declared.parsed.ForInit.TheVariants as begin
use mathlib.Core.Former.{this, list_count, children}
use mathlib.Core.List as lists
use Rattle.sqlite_items.specs.formers.items.Items.{the_former}
use Rattle.type_rules.specs.declared.judging.Seen.{Seen}
use Rattle.type_rules.specs.declared.judging.TypeRule.{TypeRule}
use Rattle.type_rules.specs.declared.judging.TypeRule.TheVariants.{T2, T3, T4, T12}
use Rattle.type_rules.specs.Judging.{Judged, next, breaks, needs, public_integer}
use Rattle.type_rules.specs.Judging as judging
use Rattle.type_rules.specs.Lookup.{Lookup}
use Rattle.type_rules.specs.Lookup as lookup
use Rattle.type_rules.specs.Written.{field_type, is_frozen_place}
use Rattle.type_rules.specs.Rules.{expr, typed_value, typed_alone}
use Rattle.type_rules.specs.StatementRules.{Scope, Walk, bind, pure, ask, at, scoped, is_taken, add, value_in, alone_in, optional_in, declare, declare_all}
use Rattle.type_rules.specs.StatementRules as walk
use Rattle.oc_typed.specs.Visible as visible
use Rattle.oc_typing.specs.Rules.{is_type, is_nothing}
use Rattle.oc_typing.specs.Rules as test
use Rattle.oc_typing.specs.Typed.{Context, alone, has_type}
use Rattle.oc_typing.specs.Typed as typed
use Rattle.rules_typed.specs.Agreeing.{Valued, GoodVariable, Agrees, Goes, AgreesApart, SeesAll}
use Rattle.rules_typed.specs.Laws.{StatementsPass}
use Rattle.rules_typed.proofs.Used.{value_used}
use Rattle.rules_typed.proofs.Bools.{both, either, first, hidden_last, last, none_some, some_is, some_none, three}
use Rattle.rules_typed.proofs.Types.{held_of, itself, public_test}
use Rattle.rules_typed.proofs.Nodes.{converted_good, int_good}
use Rattle.rules_typed.proofs.Slots.{there, Adds, adds_none, adds_both, adds_one}
use Rattle.rules_typed.proofs.Exprs.{expressions_typed, valued_good}
use Rattle.rules_typed.proofs.Numbers.{number_itself}

-- the slots of the part after an `else`
abbrev pub slots_after : Option made_stmt.TStmt → List ℕ
slots_after None = []
slots_after (Some x) = typed.slots_in x.node

module _ (r : Lookup) (g : Context) (around : AgreesApart r g) where
  -- the context among these slots
  abbrev pub among : List SlotType → Context
  among f = record g { slots = f }

  -- what is visible among these slots
  abbrev pub Sees : List ℕ → List Seen → List SlotType → Type 0
  Sees vis ss f = SeesAll g vis ss f

  -- what an expression needs of its names
  fits : (ss : List Seen) (f : List SlotType) (vis : List ℕ) → Sees vis ss f → Agrees (record r { seen = ss }) (among f) vis
  fits ss f vis h = record {
    seen = h;
    fields = around.fields ss f;
    types = around.types ss;
    functions = around.functions ss f;
  }

  -- an expression whose value is used, and one that stands alone
  value_fact : (e : Expr) (z : Scope) (f : List SlotType) (vis : List ℕ) → Sees vis z.seen f → IfOk (typed_value (at r z) e) (λ v. alone (among f) vis v ≡ true)
  unfolding typed_value
  value_fact e z f vis i = valued_good (at r z) (among f) vis (fits z.seen f vis i) (expr (at r z) false e.spot e.node) (expressions_typed (at r z) (among f) vis e.node false e.spot (fits z.seen f vis i))

  alone_fact : (e : Expr) (z : Scope) (f : List SlotType) (vis : List ℕ) → Sees vis z.seen f → IfOk (typed_alone (at r z) e) (λ v. alone (among f) vis v ≡ true)
  unfolding typed_alone
  alone_fact e z f vis i = valued_good (at r z) (among f) vis (fits z.seen f vis i) (expr (at r z) true e.spot e.node) (expressions_typed (at r z) (among f) vis e.node true e.spot (fits z.seen f vis i))

  -- an expression passes the test wherever its names are visible
  abbrev Passed : Scope → TExpr → Type 0
  Passed z v = (f : List SlotType) (vis : List ℕ) → Sees vis z.seen f → alone (among f) vis v ≡ true

  -- such an expression, and what follows
  with_value : {B : Type 0} (Q : B × Scope → Type 0) (e : Expr) (k : TExpr → Walk B) (z : Scope) → ((v : TExpr) → Passed z v → IfOk (k v z) Q) → IfOk (bind (value_in r e) k z) Q
  unfolding next
  with_value {B} Q e k z f = on (typed_value (at r z) e) (λ l vis i. value_fact e z l vis i) f
    where
      on : (m : Judged TExpr) → ((l : List SlotType) (vis : List ℕ) → Sees vis z.seen l → IfOk m (λ v. alone (among l) vis v ≡ true)) → ((v : TExpr) → Passed z v → IfOk (k v z) Q) → IfOk (next {A = TExpr × Scope} (next m (λ v. Ok (v, z))) (λ x. k x.0 x.1)) Q
      on (Ok v) i f = f v i
      on (Err b) i f = tt

  with_alone : {B : Type 0} (Q : B × Scope → Type 0) (e : Expr) (k : TExpr → Walk B) (z : Scope) → ((v : TExpr) → Passed z v → IfOk (k v z) Q) → IfOk (bind (alone_in r e) k z) Q
  unfolding next
  with_alone {B} Q e k z f = on (typed_alone (at r z) e) (λ l vis i. alone_fact e z l vis i) f
    where
      on : (m : Judged TExpr) → ((l : List SlotType) (vis : List ℕ) → Sees vis z.seen l → IfOk m (λ v. alone (among l) vis v ≡ true)) → ((v : TExpr) → Passed z v → IfOk (k v z) Q) → IfOk (next {A = TExpr × Scope} (next m (λ v. Ok (v, z))) (λ x. k x.0 x.1)) Q
      on (Ok v) i f = f v i
      on (Err b) i f = tt

  -- one part after another
  with_part : {A B : Type 0} (P : A × Scope → Type 0) (Q : B × Scope → Type 0) (m : Walk A) (k : A → Walk B) (z : Scope) → IfOk (m z) P → ((a : A) (t : Scope) → P (a, t) → IfOk (k a t) Q) → IfOk (bind m k z) Q
  unfolding next
  with_part {A} {B} P Q m k z h f = on (m z) h
    where
      on : (x : Judged (A × Scope)) → IfOk x P → IfOk (next x (λ x. k x.0 x.1)) Q
      on (Ok x) h = f x.0 x.1 h
      on (Err b) h = tt

  -- a rule that is kept, and what follows
  with_needs : {B : Type 0} (Q : B × Scope → Type 0) (p : Spot) (b : TypeRule) (c : Bool) (k : Walk B) (z : Scope) → (c ≡ true → IfOk (k z) Q) → IfOk (bind (ask (needs p b c)) (λ _. k) z) Q
  unfolding next
  with_needs Q p b true k z f = f refl
  with_needs Q p b false k z f = tt

  -- a public integer, and what follows
  with_public : {B : Type 0} (Q : B × Scope → Type 0) (p : Spot) (u : CType) (k : Walk B) (z : Scope) → (test.is_public u ≡ true → IfOk (k z) Q) → IfOk (bind (ask (public_integer p u)) (λ _. k) z) Q
  unfolding next
  with_public {B} Q p u k z f = on (judging.is_public u) (judging.is_public (judging.bare u)) (λ c. f (public_test u c))
    where
      on : (c d : Bool) → (c ≡ true → IfOk (k z) Q) → IfOk (next {A = Unit {0} × Scope} (next {A = Unit {0}} (if c then Ok (tt {0}) else if d then breaks p T4 else breaks p T3) (λ a. Ok (a, z))) (λ x. k x.1)) Q
      on true d f = f refl
      on false true f = tt
      on false false f = tt

  -- a conversion, and what follows
  with_convert : {B : Type 0} (Q : B × Scope → Type 0) (u : CType) (v : TExpr) (k : TExpr → Walk B) (z : Scope) → (judging.converts v.ty u ≡ true → IfOk (k (lookup.converted u v) z) Q) → IfOk (bind (ask (lookup.convert u v)) k z) Q
  unfolding next
  with_convert {B} Q u v k z f = on (judging.converts v.ty u) (judging.converts (judging.bare v.ty) (judging.bare u)) f
    where
      on : (c d : Bool) → (c ≡ true → IfOk (k (lookup.converted u v) z) Q) → IfOk (next {A = TExpr × Scope} (next {A = TExpr} (next {A = Unit {0}} (if c then Ok (tt {0}) else if d then breaks v.spot T4 else breaks v.spot T3) (λ _. Ok (lookup.converted u v))) (λ a. Ok (a, z))) (λ x. k x.0 x.1)) Q
      on true d f = f refl
      on false true f = tt
      on false false f = tt

  -- Names.

  -- a name that is not found among more variables is not among the earlier ones
  none_add : (ss : List Seen) (n : Seen) (x : List ℕ) → lookup.find (ss ++ n ∷ []) x ≡ None → lookup.find ss x ≡ None
  none_add [] n x q = refl
  none_add (y ∷ ss) n x q = on (lookup.find (ss ++ n ∷ []) x) (lookup.find ss x) (lookup.seen_here y x) (λ p. none_add ss n x p) q
    where
      on : (o m k : Option Seen) → (o ≡ None → m ≡ None) → lookup.or_else o k ≡ None → lookup.or_else m k ≡ None
      on (Some a) m k f q = absurd (some_none q)
      on None m k f q = subst (λ m. lookup.or_else m k ≡ None) (sym (f refl)) q

  -- a name that is found is that of the last variable, or was found before
  find_add : (P : Type 0) (ss : List Seen) (n : Seen) (x : List ℕ) (y : Seen) → lookup.find (ss ++ n ∷ []) x ≡ Some y → (y ≡ n → P) → (lookup.find ss x ≡ Some y → P) → P
  find_add P [] n x y q f h = on (lookup.same_name n.name x) q
    where
      on : (b : Bool) → (if b then Some n else None) ≡ Some y → P
      on true q = f (sym (some_is q))
      on false q = absurd (none_some q)
  find_add P (w ∷ ss) n x y q f h = on (lookup.find (ss ++ n ∷ []) x) refl q
      (λ p. find_add P ss n x y p f (λ m. h (subst (λ o. lookup.or_else o (lookup.seen_here w x) ≡ Some y) (sym m) refl)))
      (λ p. none_add ss n x p)
    where
      on : (o : Option Seen) → lookup.find (ss ++ n ∷ []) x ≡ o → lookup.or_else o (lookup.seen_here w x) ≡ Some y → (lookup.find (ss ++ n ∷ []) x ≡ Some y → P) → (lookup.find (ss ++ n ∷ []) x ≡ None → lookup.find ss x ≡ None) → P
      on (Some a) p q i j = i (p ∙ q)
      on None p q i j = h (subst (λ o. lookup.or_else o (lookup.seen_here w x) ≡ Some y) (sym (j p)) q)

  -- a slot has its type
  has_itself : (u : CType) (frozen : Bool) (o : Option SlotType) → o ≡ Some (record { ty = u; frozen = frozen }) → has_type u o ≡ true
  has_itself u frozen o q = subst (λ o. has_type u o ≡ true) (sym q) (itself u)

  -- a variable more is visible
  pub sees_more : (z : Scope) (f : List SlotType) (vis : List ℕ) (x : List ℕ) (u : CType) (frozen : Bool) → is_type g.sizes g.public u ≡ true → Goes (add x u frozen z).slots f → Sees vis z.seen f → Sees (length z.slots ∷ vis) (add x u frozen z).seen f
  sees_more z f vis x u frozen k e h = λ y w q.
      find_add (GoodVariable (among f) (length z.slots ∷ vis) w) z.seen (record { name = x; slot = length z.slots; ty = u }) y w q
      (λ p. subst (λ w. GoodVariable (among f) (length z.slots ∷ vis) w) (sym p) (record { visible = either _ _ (number_itself (length z.slots)); slot = has_itself u frozen _ (there z.slots f (record { ty = u; frozen = frozen }) e); ty = k }))
      (λ p. let o = h y w p in record { visible = last _ _ o.visible; slot = o.slot; ty = o.ty })

  -- Declarations.

  -- a variable of this type may be a slot, frozen or not
  abbrev IsSlot : CType → Bool → Type 0
  IsSlot u frozen = typed.is_slot g.sizes g.public (record { ty = u; frozen = frozen }) ≡ true

  -- a slot's type is a type
  slot_type : (u : CType) (frozen : Bool) → IsSlot u frozen → is_type g.sizes g.public u ≡ true
  slot_type u frozen h = first (is_type g.sizes g.public u) (not (frozen && typed.is_starred u)) h

  -- a variable that is declared
  pub record DoneDeclared (z : Scope) (x : made_declared.TDeclared) (t : Scope) : Type 0 where
    pub adds : Adds g z.slots t.slots (x.slot ∷ [])
    pub test : (f : List SlotType) (vis : List ℕ) → Goes t.slots f → Sees vis z.seen f → typed.initial (among f) (x.slot ∷ vis) (slice_get f x.slot) x.init ≡ true
    pub sees : (f : List SlotType) (vis : List ℕ) → Goes t.slots f → Sees vis z.seen f → Sees (x.slot ∷ vis) t.seen f

  -- a value that is converted to a type, wherever its names are visible
  abbrev Turned : Scope → CType → TExpr → Type 0
  Turned z u x = (f : List SlotType) (vis : List ℕ) → Sees vis z.seen f → Valued (among f) vis u x

  -- a conversion of a value that passes
  turned_value : (z : Scope) (u : CType) (v : TExpr) → is_type g.sizes g.public u ≡ true → Passed z v → judging.converts v.ty u ≡ true → Turned z u (lookup.converted u v)
  turned_value z u v k h c = λ f vis i. converted_good (among f) vis u v (h f vis i) k c

  -- an initialiser, or none
  initial_test : (f : List SlotType) (vis : List ℕ) (u : CType) (frozen : Bool) (o : Option SlotType) (x : TExpr) → o ≡ Some (record { ty = u; frozen = frozen }) → test.is_held u ≡ true → Valued (among f) vis u x → typed.initial (among f) vis o (Some x) ≡ true
  initial_test f vis u frozen o x q h v = subst (λ o. typed.initial (among f) vis o (Some x) ≡ true) (sym q) (three (subst (λ w. same true w u ≡ true) (sym v.ty) (itself u)) h v.good)

  initial_none : (f : List SlotType) (vis : List ℕ) (u : CType) (frozen : Bool) (o : Option SlotType) → o ≡ Some (record { ty = u; frozen = frozen }) → typed.initial (among f) vis o None ≡ true
  initial_none f vis u frozen o q = subst (λ o. typed.initial (among f) vis o None ≡ true) (sym q) refl

  -- a variable without an initialiser, and with one
  declared_none : (z : Scope) (p : Spot) (x : List ℕ) (u : CType) (frozen : Bool) → IsSlot u frozen → DoneDeclared z (record { spot = p; slot = length z.slots; init = None }) (add x u frozen z)
  declared_none z p x u frozen k = record {
    adds = adds_one g z.slots (record { ty = u; frozen = frozen }) k;
    test = λ f vis e h. initial_none f (length z.slots ∷ vis) u frozen (slice_get f (length z.slots)) (there z.slots f (record { ty = u; frozen = frozen }) e);
    sees = λ f vis e h. sees_more z f vis x u frozen (slot_type u frozen k) e h;
  }

  declared_some : (z : Scope) (p : Spot) (x : List ℕ) (u : CType) (frozen : Bool) (v : TExpr) → IsSlot u frozen → test.is_held u ≡ true → Turned (add x u frozen z) u v → DoneDeclared z (record { spot = p; slot = length z.slots; init = Some v }) (add x u frozen z)
  declared_some z p x u frozen v k h t = record {
    adds = adds_one g z.slots (record { ty = u; frozen = frozen }) k;
    test = λ f vis e i. initial_test f (length z.slots ∷ vis) u frozen (slice_get f (length z.slots)) v (there z.slots f (record { ty = u; frozen = frozen }) e) h (t f (length z.slots ∷ vis) (sees_more z f vis x u frozen (slot_type u frozen k) e i));
    sees = λ f vis e i. sees_more z f vis x u frozen (slot_type u frozen k) e i;
  }

  -- its initialiser is judged
  initial_done : (z : Scope) (p : Spot) (x : List ℕ) (u : CType) (frozen : Bool) (o : Option Expr) → IsSlot u frozen → IfOk (bind (walk.initial r u o) (λ v. pure (record { spot = p; slot = length z.slots; init = v })) (add x u frozen z)) (λ q. DoneDeclared z q.0 q.1)
  unfolding next
  initial_done z p x u frozen None k = declared_none z p x u frozen k
  initial_done z p x u frozen (Some e) k =
      with_part (λ q. (v : TExpr) × (q.0 ≡ Some v) × (q.1 ≡ add x u frozen z) × (test.is_held u ≡ true) × Turned (add x u frozen z) u v) (λ q. DoneDeclared z q.0 q.1) (walk.initial r u (Some e)) (λ v. pure (record { spot = p; slot = length z.slots; init = v })) (add x u frozen z)
      (with_value (λ q. (v : TExpr) × (q.0 ≡ Some v) × (q.1 ≡ add x u frozen z) × (test.is_held u ≡ true) × Turned (add x u frozen z) u v) e (λ v. bind (ask (lookup.convert u v)) (λ x. pure (Some x))) (add x u frozen z)
      (λ v i. with_convert (λ q. (v : TExpr) × (q.0 ≡ Some v) × (q.1 ≡ add x u frozen z) × (test.is_held u ≡ true) × Turned (add x u frozen z) u v) u v (λ x. pure (Some x)) (add x u frozen z) (λ c. (lookup.converted u v, refl, refl, held_of v.ty u c, turned_value (add x u frozen z) u v (slot_type u frozen k) i c))))
      (λ a t q. subst (λ t. DoneDeclared z (record { spot = p; slot = length z.slots; init = a }) t) (sym q.2) (subst (λ a. DoneDeclared z (record { spot = p; slot = length z.slots; init = a }) (add x u frozen z)) (sym q.1) (declared_some z p x u frozen q.0 k q.3 q.4)))

  -- a declaration
  declare_done : (d : Declared) (z : Scope) → IfOk (declare r d z) (λ q. DoneDeclared z q.0 q.1)
  unfolding next
  declare_done d z = on (field_type r d.field) (not (is_taken z d.field.name)) around_declared
    where
      around_declared : (u : CType) → field_type r d.field ≡ Ok u → IsSlot u (is_frozen_place d.field.base d.field.stars)
      around_declared u q = around.declared d.field u q

      on : (m : Judged CType) (b : Bool) → ((u : CType) → m ≡ Ok u → IsSlot u (is_frozen_place d.field.base d.field.stars)) → IfOk (next m (λ ty. next (needs d.field.spot T2 b) (λ _. bind {B = made_declared.TDeclared} (walk.initial r ty d.init) (λ v. pure (record { spot = d.field.spot; slot = length z.slots; init = v })) (add d.field.name ty (is_frozen_place d.field.base d.field.stars) z)))) (λ q. DoneDeclared z q.0 q.1)
      on (Ok u) true i = initial_done z d.field.spot d.field.name u (is_frozen_place d.field.base d.field.stars) d.init (i u refl)
      on (Ok u) false i = tt
      on (Err e) b i = tt

  -- variables that are declared one after the other
  pub record DoneAll (z : Scope) (xs : List made_declared.TDeclared) (t : Scope) : Type 0 where
    pub adds : Adds g z.slots t.slots (typed.slots_of xs)
    pub test : (f : List SlotType) (vis : List ℕ) → Goes t.slots f → Sees vis z.seen f → typed.declares (among f) vis xs ≡ true
    pub sees : (f : List SlotType) (vis : List ℕ) → Goes t.slots f → Sees vis z.seen f → Sees (visible.after_all vis xs) t.seen f

  -- declarations in order
  declare_all_done : (ds : List Declared) (z : Scope) → IfOk (declare_all r ds z) (λ q. DoneAll z q.0 q.1)
  declare_all_done [] z = record { adds = adds_none g z.slots; test = λ f vis e i. refl; sees = λ f vis e i. i }
  declare_all_done (d ∷ ds) z =
      with_part (λ q. DoneDeclared z q.0 q.1) (λ q. DoneAll z q.0 q.1) (declare r d) (λ x. bind (declare_all r ds) (λ xs. pure (x ∷ xs))) z (declare_done d z)
      (λ x t a. with_part (λ q. DoneAll t q.0 q.1) (λ q. DoneAll z q.0 q.1) (declare_all r ds) (λ xs. pure (x ∷ xs)) t (declare_all_done ds t)
      (λ xs w b. record {
        adds = adds_both g z.slots t.slots w.slots (x.slot ∷ []) (typed.slots_of xs) a.adds b.adds;
        test = λ f vis e i. both (a.test f vis (b.adds.grows f e) i) (b.test f (x.slot ∷ vis) e (a.sees f vis (b.adds.grows f e) i));
        sees = λ f vis e i. b.sees f (x.slot ∷ vis) e (a.sees f vis (b.adds.grows f e) i);
      }))

  -- Statements.

  -- a statement
  pub record Done (loop : Bool) (z : Scope) (x : made_stmt.TStmt) (t : Scope) : Type 0 where
    pub adds : Adds g z.slots t.slots (typed.slots_in x.node)
    pub test : (f : List SlotType) (vis : List ℕ) → Goes t.slots f → Sees vis z.seen f → typed.stmt (among f) loop vis x.node ≡ true
    pub sees : (f : List SlotType) (vis : List ℕ) → Goes t.slots f → Sees vis z.seen f → Sees (visible.after_node vis x.node) t.seen f

  -- a statement's part: what was visible stays so
  pub record DonePart (loop : Bool) (z : Scope) (x : made_stmt.TStmt) (t : Scope) : Type 0 where
    pub adds : Adds g z.slots t.slots (typed.slots_in x.node)
    pub test : (f : List SlotType) (vis : List ℕ) → Goes t.slots f → Sees vis z.seen f → typed.stmt (among f) loop vis x.node ≡ true
    pub sees : (f : List SlotType) (vis : List ℕ) → Goes t.slots f → Sees vis z.seen f → Sees vis t.seen f

  -- the test of the part after an `else`
  abbrev other_test : List SlotType → Bool → List ℕ → Option made_stmt.TStmt → Type 0
  other_test f loop vis None = Unit {0}
  other_test f loop vis (Some x) = typed.stmt (among f) loop vis x.node ≡ true

  -- the part after an `else`
  pub record DoneOther (loop : Bool) (z : Scope) (o : Option made_stmt.TStmt) (t : Scope) : Type 0 where
    pub adds : Adds g z.slots t.slots (slots_after o)
    pub test : (f : List SlotType) (vis : List ℕ) → Goes t.slots f → Sees vis z.seen f → other_test f loop vis o
    pub sees : (f : List SlotType) (vis : List ℕ) → Goes t.slots f → Sees vis z.seen f → Sees vis t.seen f

  -- the test of statements one after another
  abbrev pub rows_test : List SlotType → Bool → List ℕ → List made_stmt.TStmt → Bool
  rows_test f loop vis [] = true
  rows_test f loop vis (x ∷ xs) = typed.stmt (among f) loop vis x.node && rows_test f loop (visible.after_node vis x.node) xs

  -- statements one after another
  pub record DoneRows (loop : Bool) (z : Scope) (xs : List made_stmt.TStmt) (t : Scope) : Type 0 where
    pub adds : Adds g z.slots t.slots (typed.slots_in_all xs)
    pub test : (f : List SlotType) (vis : List ℕ) → Goes t.slots f → Sees vis z.seen f → rows_test f loop vis xs ≡ true

  -- the statements of a block as a row
  abbrev stmts_of : (ss : List made_stmt.TStmt) → s.Row_of-TStmt (list_count (this {0}) (lists.map (λ x. (this {0}).shape made_stmt.TStmt x) ss) 0)
  stmts_of ss = back-the_row-TStmt (list_count (this {0}) (lists.map (λ x. (this {0}).shape made_stmt.TStmt x) ss) 0) (children (the_former (this {0})) made_stmt.TStmt ss)

  -- the test of a row is that of its list
  rows_same : (f : List SlotType) (loop : Bool) (vis : List ℕ) (ss : List made_stmt.TStmt) → typed.rows (among f) loop vis (stmts_of ss) ≡ rows_test f loop vis ss
  unfolding hidden
  rows_same f loop vis [] = refl
  rows_same f loop vis (x ∷ xs) = ap (λ b. typed.stmt (among f) loop vis x.node && b) (rows_same f loop (visible.after_node vis x.node) xs)

  -- the node of a block
  block_node : (f : List SlotType) (loop : Bool) (vis : List ℕ) (ss : List made_stmt.TStmt) → rows_test f loop vis ss ≡ true → typed.stmt (among f) loop vis (s.Block ss) ≡ true
  unfolding hidden-the_row-TStmt-1 hidden
  block_node f loop vis ss h = rows_same f loop vis ss ∙ h

  -- the slots of a row are those of its list
  slots_same : (ss : List made_stmt.TStmt) → typed.slots_in_rows (stmts_of ss) ≡ typed.slots_in_all ss
  unfolding hidden
  slots_same [] = refl
  slots_same (x ∷ xs) = ap (λ l. typed.slots_in x.node ++ l) (slots_same xs)

  -- the slots that each form declares, in order
  block_slots : (ss : List made_stmt.TStmt) → typed.slots_in (s.Block ss) ≡ typed.slots_in_all ss
  unfolding hidden-the_row-TStmt-1 hidden
  block_slots ss = slots_same ss

  if_slots : (c : TExpr) (a : made_stmt.TStmt) (b : Option made_stmt.TStmt) → typed.slots_in (s.If c a b) ≡ typed.slots_in a.node ++ slots_after b
  unfolding hidden-the_row-TStmt-0 hidden-the_row-TStmt-1 hidden
  if_slots c a None = refl
  if_slots c a (Some b) = refl

  hidden_slots : (c : TExpr) (a : made_stmt.TStmt) (b : Option made_stmt.TStmt) → typed.slots_in (s.OblivIf c a b) ≡ typed.slots_in a.node ++ slots_after b
  unfolding hidden-the_row-TStmt-0 hidden-the_row-TStmt-1 hidden
  hidden_slots c a None = refl
  hidden_slots c a (Some b) = refl

  while_slots : (c : TExpr) (a : made_stmt.TStmt) → typed.slots_in (s.While c a) ≡ typed.slots_in a.node
  unfolding hidden-the_row-TStmt-0 hidden-the_row-TStmt-1 hidden
  while_slots c a = refl

  always_slots : (n : ℕ) (a : made_stmt.TStmt) → typed.slots_in (s.Always n a) ≡ n ∷ typed.slots_in a.node
  unfolding hidden-the_row-TStmt-0 hidden-the_row-TStmt-1 hidden
  always_slots n a = refl

  for_slots : (i : made_init.TForInit) (c v : Option TExpr) (a : made_stmt.TStmt) → typed.slots_in (s.For i c v a) ≡ typed.slots_of_header i ++ typed.slots_in a.node
  unfolding hidden-the_row-TStmt-0 hidden-the_row-TStmt-1 hidden
  for_slots i c v a = refl

  -- nothing more is visible after a statement that is no declaration
  block_still : (ss : List made_stmt.TStmt) (vis : List ℕ) → visible.after_node vis (s.Block ss) ≡ vis
  unfolding hidden-the_row-TStmt-1 hidden
  block_still ss vis = refl

  -- the node of an `if`
  if_node : (f : List SlotType) (loop : Bool) (vis : List ℕ) (c : TExpr) (a : made_stmt.TStmt) (b : Option made_stmt.TStmt) → typed.condition (among f) vis c ≡ true → typed.stmt (among f) loop vis a.node ≡ true → other_test f loop vis b → typed.stmt (among f) loop vis (s.If c a b) ≡ true
  unfolding hidden-the_row-TStmt-0 hidden-the_row-TStmt-1 hidden
  if_node f loop vis c a None h i j = three h i refl
  if_node f loop vis c a (Some b) h i j = three h i j

  if_still : (c : TExpr) (a : made_stmt.TStmt) (b : Option made_stmt.TStmt) (vis : List ℕ) → visible.after_node vis (s.If c a b) ≡ vis
  unfolding hidden-the_row-TStmt-0 hidden-the_row-TStmt-1 hidden
  if_still c a None vis = refl
  if_still c a (Some b) vis = refl

  -- the node of an `obliv if`
  hidden_node : (f : List SlotType) (loop : Bool) (vis : List ℕ) (c : TExpr) (a : made_stmt.TStmt) (b : Option made_stmt.TStmt) → Valued (among f) vis (Int KBool true) c → typed.stmt (among f) loop vis a.node ≡ true → other_test f loop vis b → typed.stmt (among f) loop vis (s.OblivIf c a b) ≡ true
  unfolding hidden-the_row-TStmt-0 hidden-the_row-TStmt-1 hidden
  hidden_node f loop vis c a None h i j = both (three (subst (λ u. same true u (Int KBool true) ≡ true) (sym h.ty) refl) h.good i) refl
  hidden_node f loop vis c a (Some b) h i j = both (three (subst (λ u. same true u (Int KBool true) ≡ true) (sym h.ty) refl) h.good i) j

  hidden_still : (c : TExpr) (a : made_stmt.TStmt) (b : Option made_stmt.TStmt) (vis : List ℕ) → visible.after_node vis (s.OblivIf c a b) ≡ vis
  unfolding hidden-the_row-TStmt-0 hidden-the_row-TStmt-1 hidden
  hidden_still c a None vis = refl
  hidden_still c a (Some b) vis = refl

  -- the node of a `while`
  while_node : (f : List SlotType) (loop : Bool) (vis : List ℕ) (c : TExpr) (a : made_stmt.TStmt) → typed.condition (among f) vis c ≡ true → typed.stmt (among f) true vis a.node ≡ true → typed.stmt (among f) loop vis (s.While c a) ≡ true
  unfolding hidden-the_row-TStmt-0 hidden-the_row-TStmt-1 hidden
  while_node f loop vis c a h i = both h i

  while_still : (c : TExpr) (a : made_stmt.TStmt) (vis : List ℕ) → visible.after_node vis (s.While c a) ≡ vis
  unfolding hidden-the_row-TStmt-0 hidden-the_row-TStmt-1 hidden
  while_still c a vis = refl

  -- the node of a `~obliv`
  always_node : (f : List SlotType) (loop : Bool) (vis : List ℕ) (n : ℕ) (a : made_stmt.TStmt) → has_type (Int KBool true) (slice_get f n) ≡ true → typed.stmt (among f) loop (n ∷ vis) a.node ≡ true → typed.stmt (among f) loop vis (s.Always n a) ≡ true
  unfolding hidden-the_row-TStmt-0 hidden-the_row-TStmt-1 hidden
  always_node f loop vis n a h i = both h i

  always_still : (n : ℕ) (a : made_stmt.TStmt) (vis : List ℕ) → visible.after_node vis (s.Always n a) ≡ vis
  unfolding hidden-the_row-TStmt-0 hidden-the_row-TStmt-1 hidden
  always_still n a vis = refl

  -- the node of a `for`
  for_node : (f : List SlotType) (loop : Bool) (vis : List ℕ) (i : made_init.TForInit) (c v : Option TExpr) (a : made_stmt.TStmt) → typed.header (among f) vis i ≡ true → typed.maybe (typed.condition (among f) (visible.after_header vis i)) c ≡ true → typed.maybe (typed.valued (among f) (visible.after_header vis i)) v ≡ true → typed.stmt (among f) true (visible.after_header vis i) a.node ≡ true → typed.stmt (among f) loop vis (s.For i c v a) ≡ true
  unfolding hidden-the_row-TStmt-0 hidden-the_row-TStmt-1 hidden
  for_node f loop vis i c v a h j k l = both (three h j k) l

  for_still : (i : made_init.TForInit) (c v : Option TExpr) (a : made_stmt.TStmt) (vis : List ℕ) → visible.after_node vis (s.For i c v a) ≡ vis
  unfolding hidden-the_row-TStmt-0 hidden-the_row-TStmt-1 hidden
  for_still i c v a vis = refl

  -- a part with a scope of its own
  scoped_ok : {A : Type 0} (P Q : A × Scope → Type 0) (m : Walk A) (z : Scope) → IfOk (m (record z { outer = length z.seen })) P → ((a : A) (t : Scope) → P (a, t) → Q (a, record { seen = z.seen; slots = t.slots; outer = z.outer })) → IfOk (scoped m z) Q
  unfolding next
  scoped_ok {A} P Q m z h f = on (m (record z { outer = length z.seen })) h
    where
      on : (x : Judged (A × Scope)) → IfOk x P → IfOk (next {B = A × Scope} x (λ q. Ok (q.0, record { seen = z.seen; slots = q.1.slots; outer = z.outer }))) Q
      on (Ok x) h = f x.0 x.1 h
      on (Err b) h = tt

  -- a value has a type wherever its names are visible
  abbrev UsedIn : Scope → TExpr → Type 0
  UsedIn z v = (f : List SlotType) (vis : List ℕ) → Sees vis z.seen f → not (is_nothing v.ty) ≡ true

  -- an expression that may be missing
  abbrev PassedOption : Scope → Option TExpr → Type 0
  PassedOption z None = Unit {0}
  PassedOption z (Some v) = Passed z v × UsedIn z v

  -- an expression with a value, and what follows
  with_used : {B : Type 0} (Q : B × Scope → Type 0) (e : Expr) (k : TExpr → Walk B) (z : Scope) → ((v : TExpr) → Passed z v → UsedIn z v → IfOk (k v z) Q) → IfOk (bind (value_in r e) k z) Q
  unfolding next typed_value
  with_used {B} Q e k z f = on (typed_value (at r z) e) (λ l vis i. value_fact e z l vis i) (λ v q l vis a. value_used (at r z) e.spot e.node v q (among l) vis a) f
    where
      on : (m : Judged TExpr) → ((l : List SlotType) (vis : List ℕ) → Sees vis z.seen l → IfOk m (λ v. alone (among l) vis v ≡ true)) → ((v : TExpr) → m ≡ Ok v → (l : List SlotType) (vis : List ℕ) → alone (among l) vis v ≡ true → not (is_nothing v.ty) ≡ true) → ((v : TExpr) → Passed z v → UsedIn z v → IfOk (k v z) Q) → IfOk (next {A = TExpr × Scope} (next m (λ v. Ok (v, z))) (λ x. k x.0 x.1)) Q
      on (Ok v) i j f = f v i (λ l vis s. j v refl l vis (i l vis s))
      on (Err b) i j f = tt

  -- one that may be missing, and what follows
  with_optional : {B : Type 0} (Q : B × Scope → Type 0) (o : Option Expr) (k : Option TExpr → Walk B) (z : Scope) → ((y : Option TExpr) → PassedOption z y → IfOk (k y z) Q) → IfOk (bind (optional_in r o) k z) Q
  unfolding next
  with_optional Q None k z f = f None tt
  with_optional {B} Q (Some e) k z f =
      with_part (λ q. (v : TExpr) × (q.0 ≡ Some v) × (q.1 ≡ z) × PassedOption z (Some v)) Q (optional_in r (Some e)) k z
      (with_used (λ q. (v : TExpr) × (q.0 ≡ Some v) × (q.1 ≡ z) × PassedOption z (Some v)) e (λ v. pure (Some v)) z (λ v i j. (v, refl, refl, (i, j))))
      (λ a t q. subst (λ t. IfOk (k a t) Q) (sym q.2) (subst (λ a. IfOk (k a z) Q) (sym q.1) (f (Some q.0) q.3)))

  -- a public integer, if it is there
  public_option : Option TExpr → Type 0
  public_option None = Unit {0}
  public_option (Some v) = test.is_public v.ty ≡ true

  -- the condition of a `for`, and what follows
  with_condition : {B : Type 0} (Q : B × Scope → Type 0) (p : Spot) (o : Option TExpr) (k : Walk B) (z : Scope) → ((v : TExpr) → o ≡ Some v → test.is_public v.ty ≡ true → Unit {0}) → (((v : TExpr) → o ≡ Some v → test.is_public v.ty ≡ true) → IfOk (k z) Q) → IfOk (bind (ask (walk.condition p o)) (λ _. k) z) Q
  unfolding next
  with_condition Q p None k z u f = f (λ v q. absurd (none_some q))
  with_condition Q p (Some v) k z u f = with_public Q p v.ty k z (λ c. f (λ w q. subst (λ w. test.is_public w.ty ≡ true) (some_is q) c))

  -- what the header of a `for` begins with
  pub record DoneHeader (z : Scope) (i : made_init.TForInit) (t : Scope) : Type 0 where
    pub adds : Adds g z.slots t.slots (typed.slots_of_header i)
    pub test : (f : List SlotType) (vis : List ℕ) → Goes t.slots f → Sees vis z.seen f → typed.header (among f) vis i ≡ true
    pub sees : (f : List SlotType) (vis : List ℕ) → Goes t.slots f → Sees vis z.seen f → Sees (visible.after_header vis i) t.seen f

  -- the header of a `for`
  header_done : (i : ForInit) (z : Scope) → IfOk (walk.header r i z) (λ q. DoneHeader z q.0 q.1)
  header_done begin.Nothing z = record { adds = adds_none g z.slots; test = λ f vis e i. refl; sees = λ f vis e i. i }
  header_done (begin.Declare ds) z =
      with_part (λ q. DoneAll z q.0 q.1) (λ q. DoneHeader z q.0 q.1) (declare_all r ds) (λ xs. pure (init.Declare xs)) z (declare_all_done ds z) (λ xs t a. record { adds = a.adds; test = a.test; sees = a.sees })
  header_done (begin.Express e) z =
      with_used (λ q. DoneHeader z q.0 q.1) e (λ v. pure (init.Express v)) z (λ v i n. record { adds = adds_none g z.slots; test = λ f vis e j. both (n f vis j) (i f vis j); sees = λ f vis e j. j })

  -- a condition and a step that may be missing
  maybe_condition : (f : List SlotType) (vis : List ℕ) (z : Scope) (o : Option TExpr) → PassedOption z o → ((v : TExpr) → o ≡ Some v → test.is_public v.ty ≡ true) → Sees vis z.seen f → typed.maybe (typed.condition (among f) vis) o ≡ true
  maybe_condition f vis z None h i j = refl
  maybe_condition f vis z (Some v) h i j = both (i v refl) (h.0 f vis j)

  maybe_value : (f : List SlotType) (vis : List ℕ) (z : Scope) (o : Option TExpr) → PassedOption z o → Sees vis z.seen f → typed.maybe (typed.valued (among f) vis) o ≡ true
  maybe_value f vis z None h j = refl
  maybe_value f vis z (Some v) h j = both (h.1 f vis j) (h.0 f vis j)

  -- a statement with a scope of its own, before its names end
  pub record Inner (loop : Bool) (z : Scope) (x : made_stmt.TStmt) (t : Scope) : Type 0 where
    pub adds : Adds g z.slots t.slots (typed.slots_in x.node)
    pub test : (f : List SlotType) (vis : List ℕ) → Goes t.slots f → Sees vis z.seen f → typed.stmt (among f) loop vis x.node ≡ true
    pub still : (vis : List ℕ) → visible.after_node vis x.node ≡ vis

  -- the statements of a block, whose names end with it
  pub record DoneBlock (loop : Bool) (z : Scope) (xs : List made_stmt.TStmt) (t : Scope) : Type 0 where
    pub adds : Adds g z.slots t.slots (typed.slots_in_all xs)
    pub test : (f : List SlotType) (vis : List ℕ) → Goes t.slots f → Sees vis z.seen f → rows_test f loop vis xs ≡ true
    pub sees : t.seen ≡ z.seen

  -- its names end
  from_inner : (loop : Bool) (z : Scope) (x : made_stmt.TStmt) (t : Scope) → Inner loop z x t → Done loop z x (record { seen = z.seen; slots = t.slots; outer = z.outer })
  from_inner loop z x t h = record { adds = h.adds; test = h.test; sees = λ f vis e i. subst (λ v. Sees v z.seen f) (sym (h.still vis)) i }

  -- a `return`
  returned_done : (loop : Bool) (p : Spot) (o : Option TExpr) (z : Scope) → PassedOption z o → IfOk (bind (ask (walk.returned r p o)) (λ x. walk.made p (s.Return x)) z) (λ q. Done loop z q.0 q.1)
  unfolding next
  returned_done loop p None z h = on (is_nothing r.result) (λ q. subst (λ u. is_nothing u ≡ true) around.same_result q)
    where
      on : (b : Bool) → (b ≡ true → is_nothing g.result ≡ true) → IfOk (next {A = Option TExpr × Scope} (next {A = Option TExpr} (next {A = Unit {0}} (needs p T3 b) (λ _. Ok None)) (λ a. Ok (a, z))) (λ x. walk.made p (s.Return x.0) x.1)) (λ q. Done loop z q.0 q.1)
      on true f = record { adds = adds_none g z.slots; test = λ l vis e i. f refl; sees = λ l vis e i. i }
      on false f = tt
  returned_done loop p (Some v) z h = on (not (is_nothing r.result)) (λ q. subst (λ u. not (is_nothing u) ≡ true) around.same_result q)
    where
      on : (b : Bool) → (b ≡ true → not (is_nothing g.result) ≡ true) → IfOk (next {A = Option TExpr × Scope} (next {A = Option TExpr} (next {A = Unit {0}} (needs p T3 b) (λ _. next (lookup.convert r.result v) (λ x. Ok (Some x)))) (λ a. Ok (a, z))) (λ x. walk.made p (s.Return x.0) x.1)) (λ q. Done loop z q.0 q.1)
      on false f = tt
      on true f = give (judging.converts v.ty r.result) (judging.converts (judging.bare v.ty) (judging.bare r.result)) (λ c. turned_value z r.result v (subst (λ u. is_type g.sizes g.public u ≡ true) (sym around.same_result) (around.back (f refl))) h.0 c)
        where
          give : (c d : Bool) → (c ≡ true → Turned z r.result (lookup.converted r.result v)) → IfOk (next {A = Option TExpr × Scope} (next {A = Option TExpr} (next {A = TExpr} (next {A = Unit {0}} (if c then Ok (tt {0}) else if d then breaks v.spot T4 else breaks v.spot T3) (λ _. Ok (lookup.converted r.result v))) (λ x. Ok (Some x))) (λ a. Ok (a, z))) (λ x. walk.made p (s.Return x.0) x.1)) (λ q. Done loop z q.0 q.1)
          give true d t = record { adds = adds_none g z.slots; test = λ l vis e i. let w = t refl l vis i in three (f refl) (subst (λ u. same true u g.result ≡ true) (sym (w.ty ∙ around.same_result)) (itself g.result)) w.good; sees = λ l vis e i. i }
          give false true t = tt
          give false false t = tt

  -- a `~obliv` with its part
  always_done : (loop : Bool) (p : Spot) (x : List ℕ) (z : Scope) (a : made_stmt.TStmt) (t : Scope) → DonePart loop (add x (Int KBool true) false z) a t → Inner loop z (made_stmt.roll-TStmt (record { spot = p; node = s.Always (length z.slots) a })) t
  always_done loop p x z a t h = record {
    adds = subst (λ l. Adds g z.slots t.slots l) (sym (always_slots (length z.slots) a)) (adds_both g z.slots (z.slots ++ record { ty = Int KBool true; frozen = false } ∷ []) t.slots (length z.slots ∷ []) (typed.slots_in a.node) (adds_one g z.slots (record { ty = Int KBool true; frozen = false }) refl) h.adds);
    test = λ f vis e i. always_node f loop vis (length z.slots) a (has_itself (Int KBool true) false _ (there z.slots f (record { ty = Int KBool true; frozen = false }) (h.adds.grows f e))) (h.test f (length z.slots ∷ vis) e (sees_more z f vis x (Int KBool true) false refl (h.adds.grows f e) i));
    still = λ vis. always_still (length z.slots) a vis;
  }

  -- no statement, and one before others
  pub rows_none : (loop : Bool) (z : Scope) → DoneRows loop z [] z
  rows_none loop z = record { adds = adds_none g z.slots; test = λ f vis e i. refl }

  pub rows_more : (loop : Bool) (z : Scope) (m : Walk made_stmt.TStmt) (rest : Walk (List made_stmt.TStmt)) → IfOk (m z) (λ q. Done loop z q.0 q.1) → ((t : Scope) → IfOk (rest t) (λ q. DoneRows loop t q.0 q.1)) → IfOk (bind m (λ x. bind rest (λ xs. pure (x ∷ xs))) z) (λ q. DoneRows loop z q.0 q.1)
  rows_more loop z m rest h f =
      with_part (λ q. Done loop z q.0 q.1) (λ q. DoneRows loop z q.0 q.1) m (λ x. bind rest (λ xs. pure (x ∷ xs))) z h (λ x t a.
      with_part (λ q. DoneRows loop t q.0 q.1) (λ q. DoneRows loop z q.0 q.1) rest (λ xs. pure (x ∷ xs)) t (f t) (λ xs w b. record {
        adds = adds_both g z.slots t.slots w.slots (typed.slots_in x.node) (typed.slots_in_all xs) a.adds b.adds;
        test = λ l vis e i. both (a.test l vis (b.adds.grows l e) i) (b.test l (visible.after_node vis x.node) e (a.sees l vis (b.adds.grows l e) i));
      }))

  -- where a scope begins is no matter
  header_level : (i : ForInit) (z : Scope) → IfOk (walk.header r i (record z { outer = length z.seen })) (λ q. DoneHeader z q.0 q.1)
  header_level i z = weaker (walk.header r i (record z { outer = length z.seen })) (header_done i (record z { outer = length z.seen }))
    where
      weaker : (m : Judged (made_init.TForInit × Scope)) → IfOk m (λ q. DoneHeader (record z { outer = length z.seen }) q.0 q.1) → IfOk m (λ q. DoneHeader z q.0 q.1)
      weaker (Ok x) h = record { adds = h.adds; test = h.test; sees = h.sees }
      weaker (Err b) h = tt

  inner_level : (loop : Bool) (p : Spot) (x : List ℕ) (z : Scope) (a : made_stmt.TStmt) (t : Scope) → DonePart loop (add x (Int KBool true) false (record z { outer = length z.seen })) a t → Inner loop z (made_stmt.roll-TStmt (record { spot = p; node = s.Always (length z.slots) a })) t
  inner_level loop p x z a t h =
      let k = always_done loop p x (record z { outer = length z.seen }) a t h in
      record { adds = k.adds; test = k.test; still = k.still }

  mutual
    unfolding next

    -- each form of a statement
    pub stmt_done : (c : StmtNode) (loop : Bool) (p : Spot) (z : Scope) → IfOk (walk.stmt r loop p c z) (λ q. Done loop z q.0 q.1)
    stmt_done (Declare ds) loop p z =
        with_part (λ q. DoneAll z q.0 q.1) (λ q. Done loop z q.0 q.1) (declare_all r ds) (λ xs. walk.made p (s.Declare xs)) z (declare_all_done ds z)
        (λ xs t a. record { adds = a.adds; test = a.test; sees = a.sees })
    stmt_done (Express e) loop p z =
        with_alone (λ q. Done loop z q.0 q.1) e (λ v. walk.made p (s.Express v)) z (λ v i. record { adds = adds_none g z.slots; test = λ f vis e j. i f vis j; sees = λ f vis e j. j })
    stmt_done (Block' _ ss) loop p z =
        with_part (λ q. DoneBlock loop z q.0 q.1) (λ q. Done loop z q.0 q.1) (scoped (walk.stmts r loop ss)) (λ xs. walk.made p (s.Block xs)) z (block_done ss loop z)
        (λ xs t a. record { adds = subst (λ l. Adds g z.slots t.slots l) (sym (block_slots xs)) a.adds; test = λ f vis e i. block_node f loop vis xs (a.test f vis e i); sees = λ f vis e i. subst (λ v. Sees v t.seen f) (sym (block_still xs vis)) (subst (λ l. Sees vis l f) (sym a.sees) i) })
    stmt_done (If' c _ y n) loop p z =
        with_value (λ q. Done loop z q.0 q.1) c (λ v. bind (ask (public_integer p v.ty)) (λ _. bind (walk.part r loop y) (λ a. bind (walk.other r loop n) (λ b. walk.made p (s.If v a b))))) z (λ v i.
        with_public (λ q. Done loop z q.0 q.1) p v.ty (bind (walk.part r loop y) (λ a. bind (walk.other r loop n) (λ b. walk.made p (s.If v a b)))) z (λ k.
        with_part (λ q. DonePart loop z q.0 q.1) (λ q. Done loop z q.0 q.1) (walk.part r loop y) (λ a. bind (walk.other r loop n) (λ b. walk.made p (s.If v a b))) z (part_done y loop z) (λ a t d.
        with_part (λ q. DoneOther loop t q.0 q.1) (λ q. Done loop z q.0 q.1) (walk.other r loop n) (λ b. walk.made p (s.If v a b)) t (other_done n loop t) (λ o w b. record {
          adds = subst (λ l. Adds g z.slots w.slots l) (sym (if_slots v a o)) (adds_both g z.slots t.slots w.slots (typed.slots_in a.node) (slots_after o) d.adds b.adds);
          test = λ f vis e j. if_node f loop vis v a o (both k (i f vis j)) (d.test f vis (b.adds.grows f e) j) (b.test f vis e (d.sees f vis (b.adds.grows f e) j));
          sees = λ f vis e j. subst (λ u. Sees u w.seen f) (sym (if_still v a o vis)) (b.sees f vis e (d.sees f vis (b.adds.grows f e) j));
        }))))
    stmt_done (OblivIf' c _ y n) loop p z =
        with_value (λ q. Done loop z q.0 q.1) c (λ v. bind (ask (needs p T3 (judging.is_integer v.ty))) (λ _. bind (walk.part r loop y) (λ a. bind (walk.other r loop n) (λ b. walk.made p (s.OblivIf (lookup.converted (Int KBool true) v) a b))))) z (λ v i.
        with_needs (λ q. Done loop z q.0 q.1) p T3 (judging.is_integer v.ty) (bind (walk.part r loop y) (λ a. bind (walk.other r loop n) (λ b. walk.made p (s.OblivIf (lookup.converted (Int KBool true) v) a b)))) z (λ k.
        with_part (λ q. DonePart loop z q.0 q.1) (λ q. Done loop z q.0 q.1) (walk.part r loop y) (λ a. bind (walk.other r loop n) (λ b. walk.made p (s.OblivIf (lookup.converted (Int KBool true) v) a b))) z (part_done y loop z) (λ a t d.
        with_part (λ q. DoneOther loop t q.0 q.1) (λ q. Done loop z q.0 q.1) (walk.other r loop n) (λ b. walk.made p (s.OblivIf (lookup.converted (Int KBool true) v) a b)) t (other_done n loop t) (λ o w b. record {
          adds = subst (λ l. Adds g z.slots w.slots l) (sym (hidden_slots (lookup.converted (Int KBool true) v) a o)) (adds_both g z.slots t.slots w.slots (typed.slots_in a.node) (slots_after o) d.adds b.adds);
          test = λ f vis e j. hidden_node f loop vis (lookup.converted (Int KBool true) v) a o (int_good (among f) vis KBool true v (i f vis j) k (hidden_last (judging.is_hidden v.ty))) (d.test f vis (b.adds.grows f e) j) (b.test f vis e (d.sees f vis (b.adds.grows f e) j));
          sees = λ f vis e j. subst (λ u. Sees u w.seen f) (sym (hidden_still (lookup.converted (Int KBool true) v) a o vis)) (b.sees f vis e (d.sees f vis (b.adds.grows f e) j));
        }))))
    stmt_done (Always' x _ b) loop p z =
        scoped_ok (λ y. Inner loop z y.0 y.1) (λ y. Done loop z y.0 y.1) (bind (walk.name_mark x) (λ n. bind (walk.part r loop b) (λ a. walk.made p (s.Always n a)))) z
        (with_part (λ y. DonePart loop (add x (Int KBool true) false (record z { outer = length z.seen })) y.0 y.1) (λ y. Inner loop z y.0 y.1) (walk.part r loop b) (λ a. walk.made p (s.Always (length z.slots) a)) (add x (Int KBool true) false (record z { outer = length z.seen })) (part_done b loop (add x (Int KBool true) false (record z { outer = length z.seen })))
        (λ a t d. inner_level loop p x z a t d))
        (λ a t q. from_inner loop z a t q)
    stmt_done (While' c _ b) loop p z =
        with_value (λ q. Done loop z q.0 q.1) c (λ v. bind (ask (public_integer p v.ty)) (λ _. bind (walk.part r true b) (λ a. walk.made p (s.While v a)))) z (λ v i.
        with_public (λ q. Done loop z q.0 q.1) p v.ty (bind (walk.part r true b) (λ a. walk.made p (s.While v a))) z (λ k.
        with_part (λ q. DonePart true z q.0 q.1) (λ q. Done loop z q.0 q.1) (walk.part r true b) (λ a. walk.made p (s.While v a)) z (part_done b true z) (λ a t d. record {
          adds = subst (λ l. Adds g z.slots t.slots l) (sym (while_slots v a)) d.adds;
          test = λ f vis e j. while_node f loop vis v a (both k (i f vis j)) (d.test f vis e j);
          sees = λ f vis e j. subst (λ u. Sees u t.seen f) (sym (while_still v a vis)) (d.sees f vis e j);
        })))
    stmt_done (For' i c v _ b) loop p z =
        scoped_ok (λ y. Inner loop z y.0 y.1) (λ y. Done loop z y.0 y.1) (bind (walk.header r i) (λ x. bind (optional_in r c) (λ y. bind (optional_in r v) (λ w. bind (ask (walk.condition p y)) (λ _. bind (walk.part r true b) (λ a. walk.made p (s.For x y w a))))))) z
        (with_part (λ y. DoneHeader z y.0 y.1) (λ y. Inner loop z y.0 y.1) (walk.header r i) (λ x. bind (optional_in r c) (λ y. bind (optional_in r v) (λ w. bind (ask (walk.condition p y)) (λ _. bind (walk.part r true b) (λ a. walk.made p (s.For x y w a)))))) (record z { outer = length z.seen }) (header_level i z) (λ x t d.
        with_optional (λ y. Inner loop z y.0 y.1) c (λ y. bind (optional_in r v) (λ w. bind (ask (walk.condition p y)) (λ _. bind (walk.part r true b) (λ a. walk.made p (s.For x y w a))))) t (λ y j.
        with_optional (λ y. Inner loop z y.0 y.1) v (λ w. bind (ask (walk.condition p y)) (λ _. bind (walk.part r true b) (λ a. walk.made p (s.For x y w a)))) t (λ w k.
        with_condition (λ y. Inner loop z y.0 y.1) p y (bind (walk.part r true b) (λ a. walk.made p (s.For x y w a))) t (λ _ _ _. tt) (λ l.
        with_part (λ y. DonePart true t y.0 y.1) (λ y. Inner loop z y.0 y.1) (walk.part r true b) (λ a. walk.made p (s.For x y w a)) t (part_done b true t) (λ a m n. record {
          adds = subst (λ l. Adds g z.slots m.slots l) (sym (for_slots x y w a)) (adds_both g z.slots t.slots m.slots (typed.slots_of_header x) (typed.slots_in a.node) d.adds n.adds);
          test = λ f vis e o. let see = d.sees f vis (n.adds.grows f e) o in for_node f loop vis x y w a (d.test f vis (n.adds.grows f e) o) (maybe_condition f (visible.after_header vis x) t y j l see) (maybe_value f (visible.after_header vis x) t w k see) (n.test f (visible.after_header vis x) e see);
          still = λ vis. for_still x y w a vis;
        }))))))
        (λ a t q. from_inner loop z a t q)
    stmt_done (Return e) loop p z = with_optional (λ q. Done loop z q.0 q.1) e (λ v. bind (ask (walk.returned r p v)) (λ x. walk.made p (s.Return x))) z (λ y i. returned_done loop p y z i)
    stmt_done Break loop p z = with_needs (λ q. Done loop z q.0 q.1) p T12 loop (walk.made p s.Break) z (λ k. record { adds = adds_none g z.slots; test = λ f vis e j. k; sees = λ f vis e j. j })
    stmt_done Continue loop p z = with_needs (λ q. Done loop z q.0 q.1) p T12 loop (walk.made p s.Continue) z (λ k. record { adds = adds_none g z.slots; test = λ f vis e j. k; sees = λ f vis e j. j })
    stmt_done Empty loop p z = record { adds = adds_none g z.slots; test = λ f vis e j. refl; sees = λ f vis e j. j }

    part_done : (c : Row_of-Stmt 1) (loop : Bool) (z : Scope) → IfOk (walk.part r loop c z) (λ q. DonePart loop z q.0 q.1)
    part_done (more_of-Stmt p n rest) loop z =
        scoped_ok (λ q. Done loop (record z { outer = length z.seen }) q.0 q.1) (λ q. DonePart loop z q.0 q.1) (walk.stmt r loop p n) z (stmt_done n loop p (record z { outer = length z.seen }))
        (λ a t q. record { adds = q.adds; test = q.test; sees = λ f vis e i. i })

    other_done : (c : Held-StmtNode-If-2) (loop : Bool) (z : Scope) → IfOk (walk.other r loop c z) (λ q. DoneOther loop z q.0 q.1)
    other_done None' loop z = record { adds = adds_none g z.slots; test = λ f vis e i. tt; sees = λ f vis e i. i }
    other_done (Some' _ y) loop z = with_part (λ q. DonePart loop z q.0 q.1) (λ q. DoneOther loop z q.0 q.1) (walk.part r loop y) (λ x. pure (Some x)) z (part_done y loop z) (λ x t a. record { adds = a.adds; test = a.test; sees = a.sees })

    block_done : {m : _} (c : Row_of-Stmt m) (loop : Bool) (z : Scope) → IfOk (scoped (walk.stmts r loop c) z) (λ q. DoneBlock loop z q.0 q.1)
    block_done end_of-Stmt loop z = scoped_ok (λ q. DoneRows loop (record z { outer = length z.seen }) q.0 q.1) (λ q. DoneBlock loop z q.0 q.1) (walk.stmts r loop end_of-Stmt) z (rows_none loop (record z { outer = length z.seen })) (λ a t q. record { adds = q.adds; test = q.test; sees = refl })
    block_done (more_of-Stmt p n rest) loop z = scoped_ok (λ q. DoneRows loop (record z { outer = length z.seen }) q.0 q.1) (λ q. DoneBlock loop z q.0 q.1) (walk.stmts r loop (more_of-Stmt p n rest)) z (rows_more loop (record z { outer = length z.seen }) (walk.stmt r loop p n) (walk.stmts r loop rest) (stmt_done n loop p (record z { outer = length z.seen })) (λ t. rows_done rest loop t)) (λ a t q. record { adds = q.adds; test = q.test; sees = refl })

    rows_done : {m : _} (c : Row_of-Stmt m) (loop : Bool) (z : Scope) → IfOk (walk.stmts r loop c z) (λ q. DoneRows loop z q.0 q.1)
    rows_done end_of-Stmt loop z = rows_none loop z
    rows_done (more_of-Stmt p n rest) loop z = rows_more loop z (walk.stmt r loop p n) (walk.stmts r loop rest) (stmt_done n loop p z) (λ t. rows_done rest loop t)

-- so each statement passes
pub statements_typed : StatementsPass
statements_typed r g c loop p z around = shown (walk.stmt r loop p c z) (stmt_done r g around c loop p z)
  where
    shown : (m : Judged (made_stmt.TStmt × Scope)) → IfOk m (λ q. Done r g around loop z q.0 q.1) → IfOk m (λ q. (f : List SlotType) (vis : List ℕ) → Goes q.1.slots f → SeesAll g vis z.seen f → typed.stmt (record g { slots = f }) loop vis q.0.node ≡ true)
    shown (Ok x) h = h.test
    shown (Err b) h = tt
