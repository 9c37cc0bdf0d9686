-- Actions that meet no value of another form than they want, over any domain.
use Rattle.std.proofs.Common.{ℕ, zero, suc, ◌≡◌, ℤ, pos, negsuc, List, [], ◌∷◌, ◌++◌, length, Option, Some, None, Result, Ok, Err, refl, subst, Bool, true, false, ◌&&◌, ◌||◌}
use Rattle.std.specs.Prelude.{slice_get, nat_lt, nat_le, IfOk, if◌then◌else◌}
use Rattle.std.proofs.lemmas.Bool.{false≢true}
use Rattle.std.specs.Fmt.{signed_decimal}
use Rattle.oc_values.specs.declared.integers.IntKind.{IntKind}
use Rattle.oc_values.specs.declared.integers.IntKind.TheVariants.{Bool as KBool, I8, U8, I16, U16, I32, U32, I64, U64}
use Rattle.oc_values.specs.declared.integers.BinaryOp.{BinaryOp}
use Rattle.oc_values.specs.declared.integers.BinaryOp.TheVariants.{Add, Sub, Mul, Div, Rem, Shl, Shr, And, Or, Xor, Less, LessEq, Greater, GreaterEq, Equal, NotEqual}
use Rattle.oc_values.specs.declared.integers.OneOp.{OneOp}
use Rattle.oc_values.specs.declared.integers.OneOp.TheVariants.{Neg, Plus, Not, Flip}
use Rattle.oc_values.specs.Integers.{IsOfKind, convert, operate, operate_public, kind_of_result, is_zero, number_of, divides, residue}
use Rattle.oc_values.specs.Kinds.{same_kind, is_shift, result_kind, operate_one, one_kind}
use Rattle.oc_cells.specs.declared.types.CType.{CType, Int as CInt, Pointer' as CPointer', Array' as CArray', Struct as CStruct, Nothing as CNothing}
use Rattle.oc_cells.specs.declared.memory.Address.{Address}
use Rattle.oc_cells.specs.declared.memory.Address.TheVariants.{Null, At}
use Rattle.oc_cells.specs.declared.memory.CellValue.{CellValue}
use Rattle.oc_cells.specs.declared.memory.CellValue.TheVariants.{Int as CellInt, Pointer as CellPointer, Hidden as CellHidden}
use Rattle.oc_cells.specs.declared.memory.Block.{Block}
use Rattle.oc_cells.specs.declared.trap.TrapKind.{TrapKind}
use Rattle.oc_cells.specs.Types.{is_pointer, IsLeaf, AreLeaves}
use Rattle.oc_cells.specs.Layout.{leaves, has_size, repeated}
use Rattle.oc_cells.specs.Memory.{make_copies, joined, loadable, all_storable, ended as block_ended, then, load, storable, put, offset, free, freeable, HasForm, AllHaveForm}
use Rattle.oc_cells.proofs.Formed.{form_put, form_loaded, form_ended, form_more, form_blanks}
use Rattle.oc_source.specs.declared.spot.Spot.{Spot}
use Rattle.oc_walk.specs.declared.run.Value.TheVariants.{Int, Pointer, Hidden, Nothing}
use Rattle.oc_walk.specs.declared.run.Outcome.{Outcome}
use Rattle.oc_walk.specs.declared.run.Named.{Named}
use Rattle.oc_walk.specs.declared.run.Source.TheVariants.{Public}
use Rattle.oc_typed.specs.declared.typed.PrintPiece.{PrintPiece}
use Rattle.oc_typed.specs.Static.{one_type, two_type}
use Rattle.oc_walk.specs.Domain.{Domain}
use Rattle.oc_walk.specs.Walking.{makes, answer, takes_answer, pays, ahead, Known, Ended, Needs, Odd, Res, Go, Stop, after, bind, pure, odd, choose, stilled, still, own, answered, keeps, loads, stores}
use Rattle.oc_walk.specs.Cells.{checks_copy, starts_copy, copies_all, nought, allocates, frees, is_of_kind, signed_by, V, M, S, valued, reads, fits_leaf, cell_of, puts, picks, writes, follows, addressed, moves, same_places}
use Rattle.oc_walk.specs.Operations.{tests, condition, hidden_of, unaries, divided, operates, lifted, turns}
use Rattle.oc_walk.specs.Exchange.{count_of, cost, formatted, onto, counted, word, feeds, reveals, gives, known_word, public_word, prints}
use Rattle.typed_runs.specs.Shapes.{Operands, alike_marks, by_public, Formats, no_pieces, a_text, a_number, a_byte}
use Rattle.oc_values.proofs.Numbers.{truth_fits, convert_fits, operate_fits, one_op_fits}

kind_itself : (k : IntKind) → same_kind k k ≡ true
kind_itself KBool = refl
kind_itself I8 = refl
kind_itself U8 = refl
kind_itself I16 = refl
kind_itself U16 = refl
kind_itself I32 = refl
kind_itself U32 = refl
kind_itself I64 = refl
kind_itself U64 = refl

-- a walk's end that is no value of another form
pub data Fine {S A : Type 0} (G : S → Type 0) (P : A → Type 0) : Res S A → Type 0 where
  went : {a : A} {s : S} → P a → G s → Fine G P (Go a s)
  ended : {o : Outcome} {s : S} → Fine G P (Stop (Ended o) s)
  needs : {k : ℕ} {kind : IntKind} {s : S} → Fine G P (Stop (Needs k kind) s)

module _ (D : Domain) where
  -- a value of a type's form
  pub data Has : CType → V D → Type 0 where
    pubs : {k : IntKind} {n : ℤ} → IsOfKind k n → Has (CInt k false) (Int k n)
    hids : {k : IntKind} {h : D.Hidden} → Has (CInt k true) (Hidden k h)
    ptrs : {t : CType} {a : Address} → is_pointer t ≡ true → Has t (Pointer a)
    places : {n : ℕ} {a : Address} → Has (CStruct n) (Pointer a)
    none : {v : V D} → Has CNothing v

  abbrev pub Formed : M D → Type 0
  Formed x = AllHaveForm x.blocks

  -- an action on the memory that keeps the forms of cells and meets no other form
  pub record Sure {A : Type 0} (P : A → Type 0) (m : M D → Res (M D) A) : Type 0 where
    pub run : (x : M D) → AllHaveForm x.blocks → Fine Formed P (m x)

  -- the same of an action on the state, which leaves these slots entered
  pub record Safe {A : Type 0} (e : List Named) (P : A → Type 0) (m : S D → Res (S D) A) : Type 0 where
    pub run : (s : S D) → AllHaveForm s.mem.blocks → s.entered ≡ e → Fine (λ t. AllHaveForm t.mem.blocks × (t.entered ≡ e)) P (m s)

  then_at : {A B : Type 0} {P : A → Type 0} {Q : B → Type 0} {k : A → M D → Res (M D) B} (r : Res (M D) A) → Fine Formed P r → ((a : A) → P a → Sure Q (k a)) → Fine Formed Q (after r k)
  then_at (Go a x) (went p g) f = (f a p).run x g
  then_at (Stop (Ended o) x) ended f = ended
  then_at (Stop (Needs k i) x) needs f = needs
  then_at (Stop (Odd p) x) h f = elim h [ ]

  pub next : {A B : Type 0} {P : A → Type 0} {Q : B → Type 0} {m : M D → Res (M D) A} {k : A → M D → Res (M D) B} → Sure P m → ((a : A) → P a → Sure Q (k a)) → Sure Q (bind m k)
  next {m = m} s f = record { run = λ x g. then_at (m x) (s.run x g) f }

  after_at : {A B : Type 0} {P : A → Type 0} {Q : B → Type 0} {e : List Named} {k : A → S D → Res (S D) B} (r : Res (S D) A) → Fine (λ t. AllHaveForm t.mem.blocks × (t.entered ≡ e)) P r → ((a : A) → P a → Safe e Q (k a)) → Fine (λ t. AllHaveForm t.mem.blocks × (t.entered ≡ e)) Q (after r k)
  after_at (Go a x) (went p g) f = (f a p).run x g.0 g.1
  after_at (Stop (Ended o) x) ended f = ended
  after_at (Stop (Needs k i) x) needs f = needs
  after_at (Stop (Odd p) x) h f = elim h [ ]

  pub seq : {A B : Type 0} {P : A → Type 0} {Q : B → Type 0} {e : List Named} {m : S D → Res (S D) A} {k : A → S D → Res (S D) B} → Safe e P m → ((a : A) → P a → Safe e Q (k a)) → Safe e Q (bind m k)
  seq {m = m} s f = record { run = λ x g q. after_at (m x) (s.run x g q) f }

  lift_at : {A : Type 0} {P : A → Type 0} {e : List Named} (s : S D) (r : Res (M D) A) → Fine Formed P r → s.entered ≡ e → Fine (λ t. AllHaveForm t.mem.blocks × (t.entered ≡ e)) P (stilled s r)
  lift_at s (Go a x) (went p g) q = went p (g, q)
  lift_at s (Stop (Ended o) x) ended q = ended
  lift_at s (Stop (Needs k i) x) needs q = needs
  lift_at s (Stop (Odd p) x) h q = elim h [ ]

  pub lift : {A : Type 0} {P : A → Type 0} {e : List Named} {m : M D → Res (M D) A} → Sure P m → Safe e P (still m)
  lift {m = m} f = record { run = λ s g q. lift_at s (m s.mem) (f.run s.mem g) q }

  pub gives_so : {A : Type 0} {P : A → Type 0} {a : A} → P a → Sure P (pure a)
  gives_so p = record { run = λ x g. went p g }

  pub answers_so : {A : Type 0} {P : A → Type 0} {e : List Named} {a : A} → P a → Safe e P (pure a)
  answers_so p = record { run = λ s g q. went p (g, q) }

  pub traps : {A : Type 0} {P : A → Type 0} (o : Outcome) → Sure P (λ x. Stop (Ended o) x)
  traps o = record { run = λ x g. ended }

  -- a test that is known to hold
  pub holding : {A : Type 0} {P : A → Type 0} (b : Bool) (m n : M D → Res (M D) A) → b ≡ true → Sure P m → Sure P (choose b m n)
  holding true m n h f = f
  holding false m n h f = absurd (false≢true h)

  pub either : {A : Type 0} {P : A → Type 0} (b : Bool) (m n : M D → Res (M D) A) → (b ≡ true → Sure P m) → (b ≡ false → Sure P n) → Sure P (choose b m n)
  either true m n f g = f refl
  either false m n f g = g refl

  pub owns : {A : Type 0} {P : A → Type 0} (f : D.Own → A × D.Own) → ((a : A) → P a) → Sure P (own f)
  owns f p = record { run = λ x g. went (p (f x.own).0) g }

  answereds : {A : Type 0} {P : A → Type 0} (p : Spot) (x : M D) (r : Result A TrapKind) → IfOk r P → AllHaveForm x.blocks → Fine Formed P (answered p r x)
  answereds p x (Ok a) h g = went h g
  answereds p x (Err t) h g = ended

  pub loads_sure : (p : Spot) (a : Address) (u : CType) → Sure (λ c. HasForm u c) (loads p a u)
  loads_sure p a u = record { run = λ x g. answereds p x (load x.blocks a u) (form_loaded x.blocks a u g) g }

  stored : (p : Spot) (x : M D) (bs : List (Block D.Hidden)) (r : Result (Unit {0}) TrapKind) → (r ≡ Ok (tt {0}) → AllHaveForm bs) → Fine Formed (λ _. Unit {0}) (after (answered p ((then) r (λ _. Ok bs)) x) keeps)
  stored p x bs (Ok u) h = went (tt {0}) (h refl)
  stored p x bs (Err t) h = ended

  pub stores_sure : (p : Spot) (a : Address) (u : CType) (c : CellValue D.Hidden) → HasForm u c → Sure (λ _. Unit {0}) (stores p a u c)
  stores_sure p a u c f = record { run = λ x g. stored p x (put x.blocks a c) (storable x.blocks a u) (λ e. form_put u c x.blocks a e f g) }

  values_sure : (p : Spot) (u : CType) (c : CellValue D.Hidden) → IsLeaf u → HasForm u c → Sure (Has u) (valued D p u c)
  values_sure p (CInt k false) (CellInt n) l h = gives_so (pubs h)
  values_sure p (CInt k true) (CellHidden n) l h = gives_so hids
  values_sure p (CPointer' f u t) (CellPointer a) l h = gives_so (ptrs refl)
  values_sure p (CInt k false) (CellPointer a) l h = absurd h
  values_sure p (CInt k false) (CellHidden n) l h = absurd h
  values_sure p (CInt k true) (CellInt n) l h = absurd h
  values_sure p (CInt k true) (CellPointer n) l h = absurd h
  values_sure p (CPointer' f u t) (CellInt n) l h = absurd h
  values_sure p (CPointer' f u t) (CellHidden n) l h = absurd h
  values_sure p (CArray' n u t) c l h = absurd l
  values_sure p (CStruct n) c l h = absurd l
  values_sure p CNothing c l h = absurd l

  pub reads_sure : (p : Spot) (u : CType) (a : Address) → IsLeaf u → Sure (Has u) (reads D p u a)
  reads_sure p u a l = next (loads_sure p a u) (λ c h. values_sure p u c l h)

  leaf_fits : {u : CType} {v : V D} → Has u v → IsLeaf u → fits_leaf D u v ≡ true
  leaf_fits (pubs {k = k} {n = n} h) l = rw (kind_itself k) h
  leaf_fits (hids {k = k}) l = kind_itself k
  leaf_fits {u = CPointer' f u t} (ptrs h) l = refl
  leaf_fits {u = CInt k o} (ptrs h) l = absurd (false≢true h)
  leaf_fits {u = CArray' n u t} (ptrs h) l = absurd l
  leaf_fits {u = CStruct n} (ptrs h) l = absurd l
  leaf_fits {u = CNothing} (ptrs h) l = absurd l
  leaf_fits places l = absurd l
  leaf_fits none l = absurd l

  leaf_form : {u : CType} {v : V D} → Has u v → IsLeaf u → HasForm u (cell_of D v)
  leaf_form (pubs h) l = h
  leaf_form hids l = tt
  leaf_form {u = CPointer' f u t} (ptrs h) l = tt
  leaf_form {u = CInt k o} (ptrs h) l = absurd (false≢true h)
  leaf_form {u = CArray' n u t} (ptrs h) l = absurd l
  leaf_form {u = CStruct n} (ptrs h) l = absurd l
  leaf_form {u = CNothing} (ptrs h) l = absurd l
  leaf_form places l = absurd l
  leaf_form none l = absurd l

  pub puts_sure : (p : Spot) (u : CType) (a : Address) {v : V D} → IsLeaf u → Has u v → Sure (Has u) (puts D p u a v)
  puts_sure p u a {v} l h = holding (fits_leaf D u v) (bind (stores p a u (cell_of D v)) (λ _. pure v)) (odd p) (leaf_fits h l) (next (stores_sure p a u (cell_of D v) (leaf_form h l)) (λ _ _. gives_so h))

  pub writes_sure : (p : Spot) (e : D.Enable) (u : CType) (a : Address) {v : V D} → IsLeaf u → Has u v → Sure (Has u) (writes D p e u a v)
  writes_sure p e (CInt k true) a l (hids {h = h}) =
      holding (same_kind k k) (bind (loads p a (CInt k true)) (picks D p e k a h)) (odd p) (kind_itself k) (next (loads_sure p a (CInt k true)) (λ c f. picks_sure c f))
    where
      picks_sure : (c : CellValue D.Hidden) → HasForm (CInt k true) c → Sure (Has (CInt k true)) (picks D p e k a h c)
      picks_sure (CellHidden old) f = next (owns {P = λ _. Unit {0}} (D.pick k e h old) (λ _. tt {0})) (λ n _. next (stores_sure p a (CInt k true) (CellHidden n) tt) (λ _ _. gives_so (hids {h = n})))
      picks_sure (CellInt n) f = absurd f
      picks_sure (CellPointer n) f = absurd f
  writes_sure p e (CInt k false) a l h = puts_sure p (CInt k false) a l h
  writes_sure p e (CInt k true) a l (ptrs h) = absurd (false≢true h)
  writes_sure p e (CPointer' f u t) a l h = puts_sure p (CPointer' f u t) a l h
  writes_sure p e (CArray' n u t) a l h = absurd l
  writes_sure p e (CStruct n) a l h = absurd l
  writes_sure p e CNothing a l h = absurd l

  pub follows_sure : (p : Spot) {u : CType} {v : V D} → is_pointer u ≡ true → Has u v → Sure (λ _. Unit {0}) (follows D p v)
  follows_sure p q (ptrs {a = Null} h) = record { run = λ x g. ended }
  follows_sure p q (ptrs {a = At b i} h) = gives_so (tt {0})
  follows_sure p q (pubs h) = absurd (false≢true q)
  follows_sure p q hids = absurd (false≢true q)
  follows_sure p q places = absurd (false≢true q)
  follows_sure p q none = absurd (false≢true q)

  -- an address: of a pointer, or of a struct
  pub data At_one : CType → Type 0 where
    of_pointer : {u : CType} → is_pointer u ≡ true → At_one u
    of_struct : {n : ℕ} → At_one (CStruct n)

  pub addressed_sure : (p : Spot) {u : CType} {v : V D} → At_one u → Has u v → Sure (λ _. Unit {0}) (addressed D p v)
  addressed_sure p q (ptrs h) = gives_so (tt {0})
  addressed_sure p q places = gives_so (tt {0})
  addressed_sure p (of_pointer q) (pubs h) = absurd (false≢true q)
  addressed_sure p (of_pointer q) hids = absurd (false≢true q)
  addressed_sure p (of_pointer q) none = absurd (false≢true q)

  offset_ok : {A : Type 0} (r : Result A TrapKind) → IfOk r (λ _. Unit {0})
  offset_ok (Ok a) = tt
  offset_ok (Err t) = tt

  pub moves_sure : (p : Spot) (size : ℕ) (back : Bool) {u : CType} {k : IntKind} {v n : V D} → is_pointer u ≡ true → Has u v → Has (CInt k false) n → Sure (λ _. Unit {0}) (moves D p size back v n)
  moves_sure p size back q (ptrs {a = a} h) (pubs {k = k} {n = n} i) =
      record { run = λ x g. (holding (is_of_kind k n) (λ y. answered p (offset x.blocks a (signed_by back n) size) y) (odd p) i (record { run = λ y f. answereds {P = λ _. Unit {0}} p y (offset x.blocks a (signed_by back n) size) (offset_ok (offset x.blocks a (signed_by back n) size)) f })).run x g }
  moves_sure p size back q (ptrs h) (ptrs i) = absurd (false≢true i)
  moves_sure p size back q (pubs h) i = absurd (false≢true q)
  moves_sure p size back q hids i = absurd (false≢true q)
  moves_sure p size back q places i = absurd (false≢true q)
  moves_sure p size back q none i = absurd (false≢true q)

  truth_has : (b : Bool) → Has (CInt I32 false) (Int I32 (number_of b))
  truth_has b = pubs (truth_fits I32 b)

  pub same_sure : (p : Spot) (negated : Bool) {u t : CType} {v z : V D} → is_pointer u ≡ true → is_pointer t ≡ true → Has u v → Has t z → Sure (Has (CInt I32 false)) (same_places D p negated v z)
  same_sure p negated q r (ptrs h) (ptrs i) = gives_so (truth_has _)
  same_sure p negated q r (ptrs h) (pubs i) = absurd (false≢true r)
  same_sure p negated q r (ptrs h) hids = absurd (false≢true r)
  same_sure p negated q r (ptrs h) places = absurd (false≢true r)
  same_sure p negated q r (ptrs h) none = absurd (false≢true r)
  same_sure p negated q r (pubs h) i = absurd (false≢true q)
  same_sure p negated q r hids i = absurd (false≢true q)
  same_sure p negated q r places i = absurd (false≢true q)
  same_sure p negated q r none i = absurd (false≢true q)

  pub tests_sure : (p : Spot) {k : IntKind} {v : V D} → Has (CInt k false) v → Sure (λ _. Unit {0}) (tests D p v)
  tests_sure p (pubs h) = gives_so (tt {0})
  tests_sure p (ptrs h) = absurd (false≢true h)

  pub condition_sure : (p : Spot) {v : V D} → Has (CInt KBool true) v → Sure (λ _. Unit {0}) (condition D p v)
  condition_sure p (hids {h = h}) = gives_so (tt {0})
  condition_sure p (ptrs h) = absurd (false≢true h)

  made_sure : (k : IntKind) (f : D.Own → D.Hidden × D.Own) → Sure (Has (CInt k true)) (hidden_of D k f)
  made_sure k f = next (owns {P = λ _. Unit {0}} f (λ _. tt {0})) (λ h _. gives_so (hids {h = h}))

  one_public : (op : OneOp) (k : IntKind) (n : ℤ) → IsOfKind k n → Has (CInt (one_kind op k) false) (Int (one_kind op k) (operate_one op k n))
  one_public Neg k n h = pubs (one_op_fits Neg k n h)
  one_public Plus k n h = pubs h
  one_public Not k n h = truth_has (is_zero n)
  one_public Flip k n h = pubs (one_op_fits Flip k n h)

  pub unaries_sure : (p : Spot) (op : OneOp) (k : IntKind) (o : Bool) {v : V D} → Has (CInt k o) v → Sure (Has (one_type op k o)) (unaries D p op k o v)
  unaries_sure p op k false (pubs {n = n} h) = holding (same_kind k k) (pure (Int (one_kind op k) (operate_one op k n))) (odd p) (kind_itself k) (gives_so (one_public op k n h))
  unaries_sure p op k true (hids {h = h}) = holding (same_kind k k) (hidden_of D k (D.one op k h)) (odd p) (kind_itself k) (made_sure k (D.one op k h))
  unaries_sure p op k o (ptrs h) = absurd (false≢true h)

  result_public : (op : BinaryOp) (k : IntKind) (x y : ℤ) → IsOfKind (kind_of_result op k) (operate op k x y)
  result_public Add k x y = operate_fits Add k x y
  result_public Sub k x y = operate_fits Sub k x y
  result_public Mul k x y = operate_fits Mul k x y
  result_public Div k x y = operate_fits Div k x y
  result_public Rem k x y = operate_fits Rem k x y
  result_public Shl k x y = operate_fits Shl k x y
  result_public Shr k x y = operate_fits Shr k x y
  result_public And k x y = operate_fits And k x y
  result_public Or k x y = operate_fits Or k x y
  result_public Xor k x y = operate_fits Xor k x y
  result_public Less k x y = truth_fits I32 _
  result_public LessEq k x y = truth_fits I32 _
  result_public Greater k x y = truth_fits I32 _
  result_public GreaterEq k x y = truth_fits I32 _
  result_public Equal k x y = truth_fits I32 _
  result_public NotEqual k x y = truth_fits I32 _

  divided_at : (p : Spot) (op : BinaryOp) (k : IntKind) (x y : ℤ) (b : Bool) → Sure (Has (CInt (kind_of_result op k) false)) (divided D p (kind_of_result op k) (if b then Err record {} else Ok (operate op k x y)))
  divided_at p op k x y true = record { run = λ s g. ended }
  divided_at p op k x y false = gives_so (pubs (result_public op k x y))

  shift_keeps : (op : BinaryOp) (k : IntKind) → is_shift op ≡ true → k ≡ result_kind op k
  shift_keeps Shl k h = refl
  shift_keeps Shr k h = refl
  shift_keeps Add k h = refl
  shift_keeps Sub k h = refl
  shift_keeps Mul k h = refl
  shift_keeps Div k h = refl
  shift_keeps Rem k h = refl
  shift_keeps And k h = refl
  shift_keeps Or k h = refl
  shift_keeps Xor k h = refl
  shift_keeps Less k h = absurd (false≢true h)
  shift_keeps LessEq k h = absurd (false≢true h)
  shift_keeps Greater k h = absurd (false≢true h)
  shift_keeps GreaterEq k h = absurd (false≢true h)
  shift_keeps Equal k h = absurd (false≢true h)
  shift_keeps NotEqual k h = absurd (false≢true h)

  both_hold : (a b : Bool) → a ≡ true → b ≡ true → (a && b) ≡ true
  both_hold true b h i = i
  both_hold false b h i = h

  pub operates_sure : (p : Spot) (op : BinaryOp) (k m : IntKind) (o q : Bool) {v z : V D} → Operands op k m o q → Has (CInt k o) v → Has (CInt m q) z → Sure (Has (two_type op k o)) (operates D p op k o v z)
  operates_sure p op k m true true (alike_marks f) (hids {h = x}) (hids {h = y}) =
      holding (same_kind k k && (is_shift op || same_kind k m)) (hidden_of D (result_kind op k) (D.binary op k x y)) (odd p) (both_hold (same_kind k k) (is_shift op || same_kind k m) (kind_itself k) f) (made_sure (result_kind op k) (D.binary op k x y))
  operates_sure p op k m true false (by_public f) (hids {h = x}) (pubs {n = n} i) =
      subst (λ l. Sure (Has (CInt l true)) (choose (same_kind k k && is_shift op) (hidden_of D k (D.shift op k x n)) (odd p))) (shift_keeps op k f)
      (holding (same_kind k k && is_shift op) (hidden_of D k (D.shift op k x n)) (odd p) (both_hold (same_kind k k) (is_shift op) (kind_itself k) f) (made_sure k (D.shift op k x n)))
  operates_sure p op k m false false (alike_marks f) (pubs {n = x} h) (pubs {n = y} i) =
      holding (same_kind k k && (is_shift op || same_kind k m)) (divided D p (kind_of_result op k) (operate_public op k x y)) (odd p) (both_hold (same_kind k k) (is_shift op || same_kind k m) (kind_itself k) f) (divided_at p op k x y (divides op && is_zero y))
  operates_sure p op k m false true f (pubs h) hids = elim f [ ]
  operates_sure p op k m o q f (ptrs h) i = absurd (false≢true h)
  operates_sure p op k m o q f h (ptrs i) = absurd (false≢true i)

  -- the mark of a conversion's result: hidden where the value is or where it is lifted
  lifted_has : (to : IntKind) (lift : Bool) (n : ℤ) → IsOfKind to n → Has (CInt to lift) (lifted D to lift n)
  lifted_has to true n h = hids
  lifted_has to false n h = pubs h

  pub turns_sure : (p : Spot) (from to : IntKind) (o : Bool) (lift : Bool) {v : V D} → (o ≡ true → lift ≡ false) → Has (CInt from o) v → Sure (Has (CInt to (o || lift))) (turns D p from to lift v)
  turns_sure p from to false lift f (pubs {n = n} h) =
      holding (same_kind from from) (pure (lifted D to lift (convert n to))) (odd p) (kind_itself from) (gives_so (lifted_has to lift (convert n to) (convert_fits n to)))
  turns_sure p from to true lift f (hids {h = x}) =
      holding (same_kind from from) (hidden_of D to (D.turn from to x)) (odd p) (kind_itself from) (made_sure to (D.turn from to x))
  turns_sure p from to o lift f (ptrs h) = absurd (false≢true h)

  any : {A : Type 0} (r : Result A TrapKind) → IfOk r (λ _. Unit {0})
  any (Ok a) = tt
  any (Err t) = tt

  pub checks_sure : (p : Spot) (to from : Address) (ls : List CType) → Sure (λ _. Unit {0}) (checks_copy D p to from ls)
  checks_sure p to from ls = record { run = λ x g. answereds {P = λ _. Unit {0}} p x ((then) (loadable x.blocks from ls) (λ _. all_storable x.blocks to ls)) (any ((then) (loadable x.blocks from ls) (λ _. all_storable x.blocks to ls))) g }

  pub starts_copy_sure : (p : Spot) (ls : List CType) (a : Address) {u : CType} {v : V D} → has_size ls ≡ true → At_one u → Has u v → Sure (λ _. Unit {0}) (starts_copy D p ls a v)
  starts_copy_sure p ls a {v = v} q f h = holding (has_size ls) (bind (addressed D p v) (λ b. bind (checks_copy D p a b ls) (λ _. pure b))) (odd p) q (next (addressed_sure p f h) (λ b _. next (checks_sure p a b ls) (λ _ _. gives_so (tt {0}))))

  pub copied_sure : (p : Spot) (e : D.Enable) (ls : List CType) (to from : Address) → AreLeaves ls → Sure (λ _. Unit {0}) (copies_all D p e ls to from)
  copied_sure p e [] to from h = gives_so (tt {0})
  copied_sure p e (l ∷ ls) to from h =
      next (next (reads_sure p l from h.0) (λ v i. writes_sure p e l to h.0 i)) (λ _ _. copied_sure p e ls (ahead 1 to) (ahead 1 from) h.1)

  leaves_append : (ls ms : List CType) → AreLeaves ls → AreLeaves ms → AreLeaves (ls ++ ms)
  leaves_append [] ms h i = i
  leaves_append (l ∷ ls) ms h i = (h.0, leaves_append ls ms h.1 i)

  leaves_repeated : (n : ℕ) (ls : List CType) → AreLeaves ls → AreLeaves (repeated n ls)
  leaves_repeated zero ls h = tt
  leaves_repeated (suc n) ls h = leaves_append (repeated n ls) ls (leaves_repeated n ls h) h

  joined_form : (b : Bool) (bs : List (Block D.Hidden)) (c : Block D.Hidden) → AllHaveForm (bs ++ c ∷ []) → IfOk (joined (nought D) b bs c) AllHaveForm
  joined_form true bs c h = h
  joined_form false bs c h = tt

  copies_form : (allocated : Bool) (bs : List (Block D.Hidden)) (ls : List CType) (n : ℤ) → AreLeaves ls → AllHaveForm bs → IfOk (make_copies (nought D) 65536 allocated bs ls n) AllHaveForm
  copies_form allocated bs ls (pos n) l h = joined_form _ bs _ (form_more bs _ h (form_blanks (nought D) (repeated n ls) (leaves_repeated n ls l)))
  copies_form allocated bs ls (negsuc n) l h = tt

  kept_at : {A : Type 0} (p : Spot) (x : M D) (a : A) (r : Result (List (Block D.Hidden)) TrapKind) → IfOk r AllHaveForm → Fine Formed (λ _. Unit {0}) (after (answered p r x) (λ bs. bind (keeps bs) (λ _. pure a)))
  kept_at p x a (Ok bs) h = went (tt {0}) h
  kept_at p x a (Err t) h = ended

  pub makes_sure : (p : Spot) (allocated : Bool) (ls : List CType) (n : ℤ) → AreLeaves ls → Sure (λ _. Unit {0}) (makes (nought D) p allocated ls n)
  makes_sure p allocated ls n l = record { run = λ x g. kept_at p x (length x.blocks) (make_copies (nought D) 65536 allocated x.blocks ls n) (copies_form allocated x.blocks ls n l g) }

  pub allocates_sure : (p : Spot) (lss : List (List CType)) (u : CType) {t : CType} {k : IntKind} {v : V D} → is_pointer t ≡ true → has_size (leaves lss u) ≡ true → AreLeaves (leaves lss u) → Has (CInt k false) v → Sure (Has t) (allocates D p lss u v)
  allocates_sure p lss u f q l (pubs {n = n} h) = holding (has_size (leaves lss u)) (bind (makes (nought D) p true (leaves lss u) n) (λ b. pure (Pointer (At b 0)))) (odd p) q (next (makes_sure p true (leaves lss u) n l) (λ b _. gives_so (ptrs f)))
  allocates_sure p lss u f q l (ptrs h) = absurd (false≢true h)

  freed_form : (bs : List (Block D.Hidden)) (a : Address) → AllHaveForm bs → IfOk (free bs a) AllHaveForm
  freed_form bs Null h = h
  freed_form bs (At b i) h = freed_at (freeable (slice_get bs b) i)
    where
      freed_at : (r : Result (Unit {0}) TrapKind) → IfOk ((then) r (λ _. Ok (block_ended bs b))) AllHaveForm
      freed_at (Ok u) = form_ended bs b h
      freed_at (Err t) = tt

  weaken : {A : Type 0} {P Q : A → Type 0} {r : Res (M D) A} → ((a : A) → P a → Q a) → Fine Formed P r → Fine Formed Q r
  weaken f (went p g) = went (f _ p) g
  weaken f ended = ended
  weaken f needs = needs

  pub frees_sure : (p : Spot) {u : CType} {v : V D} → is_pointer u ≡ true → Has u v → Sure (Has CNothing) (frees D p v)
  frees_sure p q (ptrs {a = a} h) = record { run = λ x g. weaken (λ _ _. none) (kept_at p x Nothing (free x.blocks a) (freed_form x.blocks a g)) }
  frees_sure p q (pubs h) = absurd (false≢true q)
  frees_sure p q hids = absurd (false≢true q)
  frees_sure p q places = absurd (false≢true q)
  frees_sure p q none = absurd (false≢true q)

  paid : (b : Bool) (n : ℕ) → Sure (λ _. Unit {0}) (pays b n)
  paid true n = record { run = λ x g. went (tt {0}) g }
  paid false n = record { run = λ x g. ended }

  counted_sure : (q : Spot) (b : Bool) (party : ℕ) (k : IntKind) (i : ℕ) → Sure (Has (CInt k true)) (counted D q b party k i)
  counted_sure q true party k i = next (record { run = λ x g. (paid (nat_le (cost party k) x.dealt) (cost party k)).run x g }) (λ _ _. made_sure k (D.feed party k i))
  counted_sure q false party k i = record { run = λ x g. ended }

  pub word_sure : (known : Known) (q : Spot) (party : ℕ) (k : IntKind) {l : IntKind} {v : V D} → Has (CInt l false) v → Sure (Has (CInt k true)) (word D known q party k v)
  word_sure known q party k (pubs {n = pos i} h) = counted_sure q (nat_lt i (count_of known party)) party k i
  word_sure known q party k (pubs {n = negsuc i} h) = record { run = λ x g. ended }
  word_sure known q party k (ptrs h) = absurd (false≢true h)

  pub public_sure : (known : Known) (p : Spot) (party : ℕ) (k : IntKind) {v : V D} → Has (CInt k true) v → Sure (Has (CInt k true)) (feeds D known p Public party k v)
  public_sure known p party k h = gives_so h

  answer_at : (k : IntKind) (o : Option ℤ) (ns : List ℤ) (x : M D) → AllHaveForm x.blocks → Fine Formed (λ n. IsOfKind k n) (takes_answer k ns x)
  answer_at k o [] x g = needs
  answer_at k o (n ∷ ns) x g = went (convert_fits n k) g

  answer_sure : (k : IntKind) (o : Option ℤ) → Sure (λ n. IsOfKind k n) (answer k o)
  answer_sure k (Some n) = record { run = λ x g. went (convert_fits n k) g }
  answer_sure k None = record { run = λ x g. answer_at k None x.answers x g }

  pub reveals_sure : (p : Spot) (k : IntKind) {v : V D} → Has (CInt k true) v → Sure (Has (CInt k false)) (reveals D p k v)
  reveals_sure p k (hids {h = h}) =
      holding (same_kind k k) (bind (answer k (D.knows k h)) (λ n. bind (own {A = Unit {0}} (λ o. (tt {0}, D.reveal k h n o))) (λ _. pure (Int k n)))) (odd p) (kind_itself k) (next (answer_sure k (D.knows k h)) (λ n i. next (owns {P = λ _. Unit {0}} (λ o. (tt {0}, D.reveal k h n o)) (λ _. tt {0})) (λ _ _. gives_so (pubs i))))
  reveals_sure p k (ptrs h) = absurd (false≢true h)

  pub gives_sure : (p : Spot) (k : IntKind) (party : ℕ) {v : V D} → Has (CInt k true) v → Sure (Has CNothing) (gives D p k party v)
  gives_sure p k party (hids {h = h}) =
      holding (same_kind k k) (bind (own {A = Unit {0}} (λ o. (tt {0}, D.give party k h o))) (λ _. pure Nothing)) (odd p) (kind_itself k) (next (owns {P = λ _. Unit {0}} (λ o. (tt {0}, D.give party k h o)) (λ _. tt {0})) (λ _ _. gives_so (none {v = Nothing})))
  gives_sure p k party (ptrs h) = absurd (false≢true h)

  known_word_sure : (p : Spot) (o : Option ℤ) → Sure (Has (CInt I64 false)) (known_word D p o)
  known_word_sure p (Some n) = gives_so (pubs (convert_fits n I64))
  known_word_sure p None = record { run = λ x g. ended }

  pub public_word_sure : (known : Known) (p : Spot) {k : IntKind} {v : V D} → Has (CInt k false) v → Sure (Has (CInt I64 false)) (public_word D known p v)
  public_word_sure known p (pubs {n = pos i} h) = known_word_sure p (slice_get known.public i)
  public_word_sure known p (pubs {n = negsuc i} h) = record { run = λ x g. ended }
  public_word_sure known p (ptrs h) = absurd (false≢true h)

  -- values of these types, in order
  pub data HasAll : List CType → List (V D) → Type 0 where
    no_more : HasAll [] []
    one_more : {t : CType} {v : V D} {ts : List CType} {vs : List (V D)} → Has t v → HasAll ts vs → HasAll (t ∷ ts) (v ∷ vs)

  abbrev Is_some : Option (List ℕ) → Type 0
  Is_some (Some b) = Unit {0}
  Is_some None = ⊥

  onto_some : (b : List ℕ) (o : Option (List ℕ)) → Is_some o → Is_some (onto b o)
  onto_some b (Some c) h = tt
  onto_some b None h = h

  pub formats_some : {ps : List PrintPiece} {ts : List CType} {vs : List (V D)} → Formats ps ts → HasAll ts vs → Is_some (formatted ps vs)
  formats_some no_pieces no_more = tt
  formats_some (a_text f) h = onto_some _ _ (formats_some f h)
  formats_some (a_number {k = k} f) (one_more (pubs {n = n} i) h) = onto_some (signed_decimal (convert n k)) _ (formats_some f h)
  formats_some (a_number f) (one_more (ptrs i) h) = absurd (false≢true i)
  formats_some (a_byte f) (one_more (pubs {n = n} i) h) = onto_some (residue 8 n ∷ []) _ (formats_some f h)
  formats_some (a_byte f) (one_more (ptrs i) h) = absurd (false≢true i)

  pub prints_sure : (p : Spot) (o : Option (List ℕ)) → Is_some o → Sure (Has CNothing) (prints D p o)
  prints_sure p (Some bytes) h = next (owns {P = λ _. Unit {0}} (λ o. (tt {0}, D.print bytes o)) (λ _. tt {0})) (λ _ _. gives_so (none {v = Nothing}))
  prints_sure p None h = absurd h
