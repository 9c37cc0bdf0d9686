-- Expressions whose shapes are right meet no value of another form.
use Rattle.std.proofs.Common.{ℕ, ◌≡◌, ℤ, pos, List, length, Some, refl, sym, ap, ◌∙◌, subst, Bool, true, false, ◌&&◌, ◌||◌, not}
use Rattle.std.specs.Prelude.{slice_get, if◌then◌else◌}
use Rattle.std.proofs.lemmas.Bool.{false≢true}
use Rattle.oc_values.specs.declared.integers.IntKind.{IntKind}
use Rattle.oc_values.specs.declared.integers.IntKind.TheVariants.{Bool as KBool, I32}
use Rattle.oc_values.specs.declared.integers.BinaryOp.{BinaryOp}
use Rattle.oc_values.specs.declared.integers.OneOp.{OneOp}
use Rattle.oc_values.specs.Integers.{wrap}
use Rattle.oc_values.specs.Kinds.{same_kind, is_shift, is_minus}
use Rattle.oc_cells.specs.declared.types.CType.{CType, Int as CInt, Pointer' as CPointer', Array' as CArray', Struct as CStruct, Nothing as CNothing}
use Rattle.oc_cells.specs.declared.memory.Address.{Address}
use Rattle.oc_cells.specs.Types.{kind_of, is_hidden, is_integer, is_pointer, target, alike}
use Rattle.oc_cells.specs.Layout.{leaves}
use Rattle.oc_source.specs.declared.spot.Spot.{Spot}
use Rattle.oc_typed.specs.declared.typed.TExprNode.{TExprNode, Number, NullPointer, Read', AddressOf', Decay', Unary', Binary', PointerStep', PointerSame', Logic', Choose', Assign', Update', Convert', Call', Builtin', Row_of-TExpr, end_of-TExpr, more_of-TExpr}
use Rattle.oc_typed.specs.declared.typed.TPlaceNode.{TPlaceNode, Slot, Deref', Index', Field', Row_of-TPlace, more_of-TPlace}
use Rattle.oc_typed.specs.declared.typed.Builtin.{Builtin}
use Rattle.oc_typed.specs.Static.{same_spot, spot_of, type_of, working_kind, types_of}
use Rattle.oc_typed.specs.Visible.{is_among}
use Rattle.oc_walk.specs.declared.run.Value.TheVariants.{Int}
use Rattle.oc_walk.specs.declared.run.Source.{Source}
use Rattle.oc_walk.specs.declared.run.Named.{Named}
use Rattle.oc_walk.specs.Domain.{Domain}
use Rattle.oc_walk.specs.Walking.{Res, Go, Stop, Ended, Needs, Odd, bind, pure, choose, still, block_of, Site, deeper}
use Rattle.oc_walk.specs.Cells.{V, S, Goal, Only, gets, fetches, sets, same_places, moves, variable, slot}
use Rattle.oc_walk.specs.Operations.{operates, tests, turns, unaries}
use Rattle.oc_walk.specs.Exchange.{count_of}
use Rattle.oc_walk.specs.Builtins.{performs}
use Rattle.oc_walk.specs.Expressions.{Under, stepping, converted, turned, copies, assigns, readied, renewed, both_or_one, decided, solely, expr, place, place_one, one, exprs}
use Rattle.typed_runs.specs.Shapes.{Heading, Env, Sized, Held, integer, pointer, struct, UnaryOk, unary_ok, alike_marks, BinaryOk, binary_ok, UpdateOk, steps, computes, ConvertOk, kinds, pointers, StepOk, step_ok, LogicOk, hidden_logic, public_logic, PublicOk, public_ok, NumberOk, BuiltinOk, private_ok, word_ok, fed_ok, reveal_ok, give_ok, count_ok, counts_ok, known_word_ok, print_ok, calloc_ok, malloc_ok, mallocs_ok, free_ok, ExprOk, PlaceOk, PlaceOneOk, OneOk, AllOk}
use Rattle.typed_runs.proofs.Sure.{Fine, went, ended, needs, Has, pubs, hids, ptrs, places, none, Safe, seq, lift, answers_so, reads_sure, puts_sure, writes_sure, follows_sure, of_pointer, of_struct, addressed_sure, moves_sure, same_sure, tests_sure, unaries_sure, operates_sure, turns_sure, starts_copy_sure, copied_sure, allocates_sure, frees_sure, word_sure, public_sure, reveals_sure, gives_sure, public_word_sure, HasAll, no_more, one_more, prints_sure, formats_some}
use Rattle.oc_cells.proofs.Equal.{kind_is}
use Rattle.oc_cells.specs.Types.{IsLeaf}
use Rattle.oc_cells.specs.Memory.{AllHaveForm}
use Rattle.oc_values.proofs.Numbers.{truth_fits, wrap_fits}

or_none : (o : Bool) → (o || false) ≡ o
or_none true = refl
or_none false = refl

-- an update's old value as its operator takes it
abbrev pub ready_type : BinaryOp → CType → CType → CType
ready_type op (CInt k o) y = CInt (working_kind op (CInt k o) y) o
ready_type op u y = u

module _ (D : Domain) (e : List Named) where
  abbrev Yes : {A : Type 0} → A → Type 0
  Yes a = Unit {0}

  number_safe : (t : CType) (n : ℤ) → NumberOk t n → Safe D e (Has D t) (pure (Int (kind_of t) n))
  number_safe (CInt k false) n h = answers_so D (pubs h)
  number_safe (CInt k true) n h = absurd h
  number_safe (CPointer' f u t) n h = absurd h
  number_safe (CArray' m u t) n h = absurd h
  number_safe (CStruct m) n h = absurd h
  number_safe CNothing n h = absurd h

  pub choose_safe : {A : Type 0} {P : A → Type 0} (b : Bool) {m n : S D → Res (S D) A} → Safe D e P m → Safe D e P n → Safe D e P (choose b m n)
  choose_safe true f g = f
  choose_safe false f g = g

  read_safe : (lss : List (List CType)) (q : Spot) {u : CType} (g : Goal D.Hidden) → Held lss u → Safe D e (Has D u) (still (fetches D q u g))
  read_safe lss q {u} (Only a) integer = lift D (reads_sure D q u a tt)
  read_safe lss q {u} (Only a) pointer = lift D (reads_sure D q u a tt)
  read_safe lss q (Only a) (struct h) = answers_so D places

  get_safe : (q : Spot) (u : CType) (g : Goal D.Hidden) → IsLeaf u → Safe D e (Has D u) (still (gets D q u g))
  get_safe q u (Only a) h = lift D (reads_sure D q u a h)

  set_safe : (q : Spot) (en : D.Enable) (u : CType) (g : Goal D.Hidden) {v : V D} → IsLeaf u → Has D u v → Safe D e (Has D u) (still (sets D q en u g v))
  set_safe q en u (Only a) h i = lift D (writes_sure D q en u a h i)

  solely_safe : (q : Spot) (g : Goal D.Hidden) → Safe D e Yes (solely D q g)
  solely_safe q (Only a) = answers_so D (tt {0})

  unary_safe : (p : Spot) (op : OneOp) {t u : CType} {v : V D} → UnaryOk op t u → Has D u v → Safe D e (Has D t) (still (unaries D p op (kind_of u) (is_hidden t) v))
  unary_safe p op {v = v} (unary_ok {k = k} {o = true} q) h = subst (λ t. Safe D e (Has D t) (still (unaries D p op k (is_hidden t) v))) (sym q) (lift D (unaries_sure D p op k true h))
  unary_safe p op {v = v} (unary_ok {k = k} {o = false} q) h = subst (λ t. Safe D e (Has D t) (still (unaries D p op k (is_hidden t) v))) (sym q) (lift D (unaries_sure D p op k false h))

  binary_safe : (p : Spot) (op : BinaryOp) {t u y : CType} {v z : V D} → BinaryOk op t u y → Has D u v → Has D y z → Safe D e (Has D t) (still (operates D p op (kind_of u) (is_hidden t) v z))
  binary_safe p op {v = v} {z = z} (binary_ok {k = k} {m = m} {o = true} {q = q} f r) h i = subst (λ t. Safe D e (Has D t) (still (operates D p op k (is_hidden t) v z))) (sym r) (lift D (operates_sure D p op k m true q f h i))
  binary_safe p op {v = v} {z = z} (binary_ok {k = k} {m = m} {o = false} {q = q} f r) h i = subst (λ t. Safe D e (Has D t) (still (operates D p op k (is_hidden t) v z))) (sym r) (lift D (operates_sure D p op k m false q f h i))

  stepping_safe : (p : Spot) (size : ℕ) (back : Bool) {t u : CType} {m : IntKind} {v n : V D} → is_pointer t ≡ true → is_pointer u ≡ true → Has D u v → Has D (CInt m false) n → Safe D e (Has D t) (stepping D p size back v n)
  stepping_safe p size back q r h i = seq D (lift D (moves_sure D p size back r h i)) (λ a _. answers_so D (ptrs q))

  step_safe : (p : Spot) (size : ℕ) (back : Bool) {t u y : CType} {v n : V D} → StepOk t u y → Has D u v → Has D y n → Safe D e (Has D t) (stepping D p size back v n)
  step_safe p size back (step_ok q r) h i = stepping_safe p size back q r h i

  both_kinds : (all : Bool) → (is_shift (both_or_one D all) || same_kind KBool KBool) ≡ true
  both_kinds true = refl
  both_kinds false = refl

  logic_safe : (p : Spot) (all : Bool) {t u y : CType} {m n : S D → Res (S D) (V D)} → LogicOk t u y → Safe D e (Has D u) m → Safe D e (Has D y) n → Safe D e (Has D t)
      (choose (is_hidden t) (bind m (λ v. bind n (λ z. still (operates D p (both_or_one D all) KBool true v z)))) (bind m (λ v. bind (still (tests D p v)) (λ b. choose (alike all b) (bind n (λ z. still (turns D p KBool I32 false z))) (pure (decided D b))))))
  logic_safe p true hidden_logic f g = seq D f (λ v h. seq D g (λ z i. lift D (operates_sure D p (both_or_one D true) KBool KBool true true (alike_marks (both_kinds true)) h i)))
  logic_safe p false hidden_logic f g = seq D f (λ v h. seq D g (λ z i. lift D (operates_sure D p (both_or_one D false) KBool KBool true true (alike_marks (both_kinds false)) h i)))
  logic_safe p all public_logic f g =
      seq D f (λ v h. seq D (lift D (tests_sure D p h)) (λ b _. choose_safe (alike all b) (seq D g (λ z i. lift D (turns_sure D p KBool I32 false false (λ q. refl) i))) (answers_so D (pubs (truth_fits I32 b)))))

  pub test_safe : (p : Spot) {u : CType} {v : V D} → PublicOk u → Has D u v → Safe D e Yes (still (tests D p v))
  test_safe p public_ok h = lift D (tests_sure D p h)

  pub copies_safe : (r : Spot) (en : D.Enable) (lss : List (List CType)) {n : ℕ} (a : Address) {v : V D} → Sized lss (CStruct n) → Has D (CStruct n) v → Safe D e Yes (copies D r en (leaves lss (CStruct n)) a v)
  copies_safe r en lss {n = n} a s h = seq D (lift D (starts_copy_sure D r (leaves lss (CStruct n)) a s.size of_struct h)) (λ b _. lift D (copied_sure D r en (leaves lss (CStruct n)) a b s.flat))

  assign_safe : (x : Site) (en : D.Enable) (q r : Spot) {u : CType} (g : Goal D.Hidden) {v : V D} → Held x.run.structs u → Has D u v → Safe D e (Has D u) (assigns D x en q r u g v)
  assign_safe x en q r {u} (Only a) integer h = lift D (writes_sure D q en u a tt h)
  assign_safe x en q r {u} (Only a) pointer h = lift D (writes_sure D q en u a tt h)
  assign_safe x en q r (Only a) (struct s) h = seq D (copies_safe r en x.run.structs a s h) (λ _ _. answers_so D places)

  turned_safe : (p : Spot) (k l : IntKind) (o : Bool) {v : V D} → Has D (CInt k o) v → Safe D e (Has D (CInt l o)) (turned D p k l v)
  turned_safe p k l o {v} h = turned_at (same_kind k l) refl
    where
      turned_at : (b : Bool) → same_kind k l ≡ b → Safe D e (Has D (CInt l o)) (choose b (pure v) (still (turns D p k l false v)))
      turned_at true q = answers_so D (subst (λ i. Has D (CInt i o) v) (kind_is k l q) h)
      turned_at false q = subst (λ i. Safe D e (Has D (CInt l i)) (still (turns D p k l false v))) (or_none o) (lift D (turns_sure D p k l o false (λ _. refl) h))

  readied_safe : (p : Spot) (op : BinaryOp) {u y : CType} {v : V D} → UpdateOk op u y → Has D u v → Safe D e (Has D (ready_type op u y)) (readied D p op u y v)
  readied_safe p op steps h = answers_so D h
  readied_safe p op (computes {k = k} {m = m} {o = o} {q = q} f r) h = turned_safe p k (working_kind op (CInt k o) (CInt m q)) o h

  renewed_safe : (x : Site) (p : Spot) (op : BinaryOp) {u y : CType} {v z : V D} → UpdateOk op u y → Has D (ready_type op u y) v → Has D y z → Safe D e (Has D u) (renewed D x p op u y v z)
  renewed_safe x p op steps h i = stepping_safe p _ (is_minus op) refl refl h i
  renewed_safe x p op {v = v} {z = z} (computes {k = k} {m = m} {o = true} {q = q} f r) h i = seq D (lift D (operates_sure D p op _ m true q f h i)) (λ n j. turned_safe p _ k true (subst (λ t. Has D t n) r j))
  renewed_safe x p op {v = v} {z = z} (computes {k = k} {m = m} {o = false} {q = q} f r) h i = seq D (lift D (operates_sure D p op _ m false q f h i)) (λ n j. turned_safe p _ k false (subst (λ t. Has D t n) r j))

  update_held : {op : BinaryOp} {u y : CType} → UpdateOk op u y → IsLeaf u
  update_held steps = tt
  update_held (computes f r) = tt

  repointed : {t u : CType} {v : V D} → is_pointer t ≡ true → is_pointer u ≡ true → Has D t v → Has D u v
  repointed q r (ptrs h) = ptrs r
  repointed q r (pubs h) = absurd (false≢true q)
  repointed q r hids = absurd (false≢true q)
  repointed q r places = absurd (false≢true q)
  repointed q r none = absurd (false≢true q)

  no_integer : (t : CType) → is_pointer t ≡ true → is_integer t ≡ false
  no_integer (CPointer' f u t) h = refl
  no_integer (CInt k o) h = absurd (false≢true h)
  no_integer (CArray' n u t) h = refl
  no_integer (CStruct n) h = refl
  no_integer CNothing h = refl

  convert_safe : (p : Spot) {a t : CType} {v : V D} → ConvertOk a t → Has D a v → Safe D e (Has D t) (converted D p a t v)
  convert_safe p (kinds {k = k} {l = l} {o = false} {q = false} r) h = lift D (turns_sure D p k l false false (λ q. refl) h)
  convert_safe p (kinds {k = k} {l = l} {o = false} {q = true} r) h = lift D (turns_sure D p k l false true (λ q. sym q) h)
  convert_safe p (kinds {k = k} {l = l} {o = true} {q = true} r) h = lift D (turns_sure D p k l true false (λ q. refl) h)
  convert_safe p (kinds {o = true} {q = false} r) h = absurd (false≢true (sym r))
  convert_safe p {a} {t} {v} (pointers q r) h = subst (λ b. Safe D e (Has D t) (choose b (still (turns D p (kind_of a) (kind_of t) (is_hidden t && not (is_hidden a)) v)) (pure v))) (sym (no_integer t r)) (answers_so D (repointed q r h))

  weaker : {A : Type 0} {P Q : A → Type 0} {m : S D → Res (S D) A} → ((a : A) → P a → Q a) → Safe D e P m → Safe D e Q m
  weaker {m = m} f h = record { run = λ s g q. weaker_at (m s) (h.run s g q) f }
    where
      weaker_at : {A : Type 0} {P Q : A → Type 0} {G : S D → Type 0} (r : Res (S D) A) → Fine G P r → ((a : A) → P a → Q a) → Fine G Q r
      weaker_at (Go a s) (went p g) f = went (f a p) g
      weaker_at (Stop (Ended o) s) ended f = ended
      weaker_at (Stop (Needs k i) s) needs f = needs
      weaker_at (Stop (Odd p) s) h f = elim h [ ]

  count_has : (n : ℤ) → Has D (CInt I32 false) (Int I32 (wrap I32 n))
  count_has n = pubs (wrap_fits I32 n)

  pub performs_safe : (x : Site) (p : Spot) {t : CType} {s : Source} {which : Builtin} {ts : List CType} {vs : List (V D)} → BuiltinOk x.run.structs t s which ts → HasAll D ts vs → Safe D e (Has D t) (performs D x p t s which vs)
  performs_safe x p private_ok (one_more h no_more) = answers_so D h
  performs_safe x p (word_ok {k = k} {party = party} {q = q}) (one_more h no_more) = lift D (word_sure D x.run.known q party k h)
  performs_safe x p (fed_ok {k = k} {party = party}) (one_more h no_more) = lift D (public_sure D x.run.known p party k h)
  performs_safe x p (reveal_ok {k = k} q) (one_more g (one_more h no_more)) =
      seq D (lift D (reveals_sure D p k h)) (λ y i. seq D (lift D (addressed_sure D p (of_pointer q) g)) (λ b _. weaker (λ _ _. none) (lift D (puts_sure D p (CInt k false) b tt i))))
  performs_safe x p (give_ok {k = k} {party = party}) (one_more h no_more) = lift D (gives_sure D p k party h)
  performs_safe x p (count_ok {party = party}) no_more = answers_so D (count_has (pos (count_of x.run.known party)))
  performs_safe x p counts_ok no_more = answers_so D (count_has (pos (length x.run.known.public)))
  performs_safe x p known_word_ok (one_more h no_more) = lift D (public_word_sure D x.run.known p h)
  performs_safe x p (print_ok f) hs = lift D (prints_sure D p _ (formats_some D f hs))
  performs_safe x p {t = t} (calloc_ok q s) (one_more h no_more) = lift D (allocates_sure D p x.run.structs (target t) q s.size s.flat h)
  performs_safe x p {t = t} (malloc_ok q s) no_more = lift D (allocates_sure D p x.run.structs (target t) q s.size s.flat (pubs {k = I32} {n = pos 1} refl))
  performs_safe x p {t = t} (mallocs_ok q s) (one_more h no_more) = lift D (allocates_sure D p x.run.structs (target t) q s.size s.flat h)
  performs_safe x p (free_ok q) (one_more h no_more) = lift D (frees_sure D p q h)

-- each visible slot is entered
abbrev pub Covers : Env → List Named → Type 0
Covers g e = (n : ℕ) → is_among g.visible n ≡ true → (b : ℕ) × (block_of n e ≡ Some b)

-- calls keep to their headings
pub record Keeps (D : Domain) (g : Env) (w : Under D) : Type 0 where
  pub call : (e : List Named) (p : Spot) (f : ℕ) (en : D.Enable) (room : ℕ) (vs : List (V D)) (h : Heading) → slice_get g.headings f ≡ Some h → HasAll D h.params vs → Safe D e (Has D h.result) (w.call p f en room vs)

module _ (D : Domain) (g : Env) (e : List Named) (covers : Covers g e) where
  slot_safe : (p : Spot) (n : ℕ) → is_among g.visible n ≡ true → Safe D e (λ _. Unit {0}) (slot D p n)
  slot_safe p n h = record { run = λ s i q. let c = covers n h in subst (λ o. Fine (λ t. AllHaveForm t.mem.blocks × (t.entered ≡ e)) (λ _. Unit {0}) (variable D p o s)) (sym (ap (λ es. block_of n es) q ∙ c.1)) (went (tt {0}) (i, q)) }

  lighter_safe : (b : Bool) (x : Site) (w : Under D) {P : V D → Type 0} (c : Row_of-TExpr 1) → Safe D e P (one D x w c) → Safe D e P (one D (deeper x) w c) → Safe D e P (one D (if b then x else deeper x) w c)
  lighter_safe true x w c f h = f
  lighter_safe false x w c f h = h

  mutual
    pub expr_safe : (c : TExprNode) (x : Site) (w : Under D) (p : Spot) (t : CType) → Keeps D g w → ExprOk x.run.structs g t c → Safe D e (Has D t) (expr D x w p t c)
    expr_safe (Number n) x w p t a h = number_safe D e t n h
    expr_safe NullPointer x w p t a h = answers_so D (ptrs h)
    expr_safe (Read' q u c) x w p t a h = subst (λ t. Safe D e (Has D t) (expr D x w p t (Read' q u c))) (sym h.0) (seq D (place_safe c (deeper x) w q u a h.2) (λ i _. read_safe D e x.run.structs q i h.1))
    expr_safe (AddressOf' q u c) x w p t a h = seq D (place_safe c (deeper x) w q u a h.1) (λ g _. seq D (solely_safe D e q g) (λ i _. answers_so D (ptrs h.0)))
    expr_safe (Decay' q u c) x w p t a h = seq D (place_safe c (deeper x) w q u a h.1) (λ g _. seq D (solely_safe D e q g) (λ i _. answers_so D (ptrs h.0)))
    expr_safe (Unary' op _ c) x w p t a h = seq D (one_safe c (deeper x) w a h.1) (λ v i. unary_safe D e p op h.0 i)
    expr_safe (Binary' op _ c _ d) x w p t a h = seq D (one_safe c (deeper x) w a h.1) (λ v i. seq D (one_safe d (deeper x) w a h.2) (λ z j. binary_safe D e p op h.0 i j))
    expr_safe (PointerStep' _ c _ d back false) x w p t a h = seq D (one_safe c (deeper x) w a h.1) (λ v i. seq D (one_safe d (deeper x) w a h.2) (λ z j. step_safe D e p _ back h.0 i j))
    expr_safe (PointerStep' _ c _ d back true) x w p t a h = seq D (one_safe d (deeper x) w a h.2) (λ z j. seq D (one_safe c (deeper x) w a h.1) (λ v i. step_safe D e p _ back h.0 i j))
    expr_safe (PointerSame' _ c _ d negated) x w p t a h = seq D (one_safe c (deeper x) w a h.3) (λ v i. seq D (one_safe d (deeper x) w a h.4) (λ z j. subst (λ t. Safe D e (Has D t) (still (same_places D p negated v z))) (sym h.0) (lift D (same_sure D p negated h.1 h.2 i j))))
    expr_safe (Logic' all _ c _ d) x w p t a h = logic_safe D e p all h.0 (one_safe c (deeper x) w a h.1) (one_safe d (deeper x) w a h.2)
    expr_safe (Choose' _ b _ c _ d) x w p t a h = seq D (one_safe b (deeper x) w a h.3) (λ v i. seq D (test_safe D e p h.0 i) (λ k _. choose_safe D e k (subst (λ u. Safe D e (Has D u) (one D (deeper x) w c)) h.1 (one_safe c (deeper x) w a h.4)) (subst (λ u. Safe D e (Has D u) (one D (deeper x) w d)) h.2 (one_safe d (deeper x) w a h.5))))
    expr_safe (Assign' q u c _ d) x w p t a h = subst (λ t. Safe D e (Has D t) (expr D x w p t (Assign' q u c _ d))) (sym h.0) (seq D (place_safe c (deeper x) w q u a h.3) (λ i _. seq D (one_safe d (deeper x) w a h.4) (λ v j. assign_safe D e x w.enable q (spot_of d) i h.2 (subst (λ u. Has D u v) h.1 j))))
    expr_safe (Update' op q u c _ d false) x w p t a h = subst (λ t. Safe D e (Has D t) (expr D x w p t (Update' op q u c _ d false))) (sym h.0) (seq D (place_safe c (deeper x) w q u a h.2) (λ i _. seq D (one_safe d (deeper x) w a h.3) (λ v j. seq D (get_safe D e q u i (update_held D e h.1)) (λ o k. seq D (readied_safe D e p op h.1 k) (λ y l. seq D (renewed_safe D e x p op h.1 l j) (λ z n. set_safe D e q w.enable u i (update_held D e h.1) n))))))
    expr_safe (Update' op q u c _ d true) x w p t a h = subst (λ t. Safe D e (Has D t) (expr D x w p t (Update' op q u c _ d true))) (sym h.0) (seq D (place_safe c (deeper x) w q u a h.2) (λ i _. seq D (get_safe D e q u i (update_held D e h.1)) (λ old b. seq D (get_safe D e q u i (update_held D e h.1)) (λ o k. seq D (readied_safe D e p op h.1 k) (λ y l. seq D (one_safe d (deeper x) w a h.3) (λ v j. seq D (renewed_safe D e x p op h.1 l j) (λ z n. seq D (set_safe D e q w.enable u i (update_held D e h.1) n) (λ _ _. answers_so D b))))))))
    expr_safe (Convert' _ c) x w p t a h = seq D (lighter_safe (same_spot p (spot_of c)) x w c (one_safe c x w a h.1) (one_safe c (deeper x) w a h.1)) (λ v i. convert_safe D e p h.0 i)
    expr_safe (Call' f _ cs) x w p t a h = seq D (exprs_safe cs (deeper x) w a h.1) (λ vs i. a.call e p f w.enable x.room vs _ h.0 i)
    expr_safe (Builtin' which _ cs) x w p t a h = seq D (exprs_safe cs (deeper x) w a h.1) (λ vs i. performs_safe D e x p h.0 i)

    pub place_safe : (c : TPlaceNode) (x : Site) (w : Under D) (p : Spot) (t : CType) → Keeps D g w → PlaceOk x.run.structs g c → Safe D e (λ _. Unit {0}) (place D x w p t c)
    place_safe (Slot n) x w p t a h = seq D (slot_safe p n h) (λ i _. answers_so D (tt {0}))
    place_safe (Deref' _ c) x w p t a h = seq D (one_safe c (deeper x) w a h.1) (λ v i. seq D (lift D (follows_sure D p h.0 i)) (λ b _. answers_so D (tt {0})))
    place_safe (Index' _ c _ d) x w p t a h = seq D (one_safe c (deeper x) w a h.2) (λ v i. seq D (one_safe d (deeper x) w a h.3) (λ z j. index_at h.1 p _ h.0 i j))
      where
        index_at : {y u : CType} {v z : V D} → PublicOk y → (p : Spot) (size : ℕ) → is_pointer u ≡ true → Has D u v → Has D y z → Safe D {A = Goal D.Hidden} e (λ _. Unit {0}) (bind (still (moves D p size false v z)) (λ b. pure (Only b)))
        index_at public_ok p size q i j = seq D (lift D (moves_sure D p size false q i j)) (λ b _. answers_so D (tt {0}))
    place_safe (Field' _ b n) x w p t a h = seq D (place_one_safe b (deeper x) w a h) (λ g _. seq D (solely_safe D e p g) (λ i _. answers_so D (tt {0})))

    pub place_one_safe : (c : Row_of-TPlace 1) (x : Site) (w : Under D) → Keeps D g w → PlaceOneOk x.run.structs g c → Safe D e (λ _. Unit {0}) (place_one D x w c)
    place_one_safe (more_of-TPlace q u c rest) x w a h = place_safe c x w q u a h

    pub one_safe : (c : Row_of-TExpr 1) (x : Site) (w : Under D) → Keeps D g w → OneOk x.run.structs g c → Safe D e (Has D (type_of c)) (one D x w c)
    one_safe (more_of-TExpr q u c rest) x w a h = expr_safe c x w q u a h

    pub exprs_safe : {m : _} (c : Row_of-TExpr m) (x : Site) (w : Under D) → Keeps D g w → AllOk x.run.structs g c → Safe D e (HasAll D (types_of c)) (exprs D x w c)
    exprs_safe end_of-TExpr x w a h = answers_so D no_more
    exprs_safe (more_of-TExpr q u c rest) x w a h = seq D (expr_safe c x w q u a h.0) (λ v i. seq D (exprs_safe rest x w a h.1) (λ vs j. answers_so D (one_more i j)))
