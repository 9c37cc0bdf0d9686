-- Actions on memory add to what the domain keeps, and give back nothing that was spent.
use Rattle.std.proofs.Common.{ℕ, zero, suc, ◌≤◌, ◌≡◌, ℤ, pos, negsuc, List, [], ◌∷◌, length, Option, Some, None, Result, Ok, Err, Bool, true, false, arith, refl}
use Rattle.std.specs.Prelude.{nat_le, nat_lt, slice_get}
use Rattle.oc_values.specs.declared.integers.IntKind.{IntKind}
use Rattle.oc_values.specs.declared.integers.BinaryOp.{BinaryOp}
use Rattle.oc_values.specs.declared.integers.OneOp.{OneOp}
use Rattle.oc_values.specs.declared.integers.ZeroDivisor.{ZeroDivisor}
use Rattle.oc_values.specs.Integers.{operate_public, kind_of_result}
use Rattle.oc_values.specs.Kinds.{same_kind, result_kind}
use Rattle.oc_values.specs.declared.integers.IntKind.TheVariants.{Bool as KBool}
use Rattle.oc_cells.specs.declared.types.CType.{CType, Int as CInt, Pointer'}
use Rattle.oc_cells.specs.declared.types.SlotType.{SlotType}
use Rattle.oc_cells.specs.declared.memory.Address.{Address}
use Rattle.oc_cells.specs.declared.memory.Address.TheVariants.{Null, At}
use Rattle.oc_cells.specs.declared.memory.Block.{Block}
use Rattle.oc_cells.specs.declared.memory.CellValue.{CellValue}
use Rattle.oc_cells.specs.declared.memory.CellValue.TheVariants.{Int as CellInt, Pointer as CellPointer, Hidden as CellHidden}
use Rattle.oc_cells.specs.declared.trap.TrapKind.{TrapKind}
use Rattle.oc_cells.specs.Types.{kind_of, is_hidden, is_struct}
use Rattle.oc_cells.specs.Layout.{leaves, has_size}
use Rattle.oc_cells.specs.Memory.{load, store, make_copies, free, offset, then, loadable, all_storable}
use Rattle.oc_source.specs.declared.spot.Spot.{Spot}
use Rattle.oc_walk.specs.declared.run.Value.TheVariants.{Int, Pointer, Hidden, Nothing}
use Rattle.oc_walk.specs.declared.run.Source.{Source}
use Rattle.oc_walk.specs.declared.run.Source.TheVariants.{Word, Public}
use Rattle.oc_walk.specs.Domain.{Domain}
use Rattle.oc_walk.specs.Walking.{Res, Go, Stop, Halt, Odd, after, bind, pure, odd, choose, still, stilled, own, answered, loads, keeps, stores, makes, takes_answer, answer, pays, transfers, spent, step, enter, block_of, live_limit, Known}
use Rattle.oc_walk.specs.Cells.{signed_by, Goal, Only, V, M, S, valued, reads, fits_leaf, cell_of, puts, picks, writes_hidden, writes, gets, fetches, sets, follows, addressed, moves, same_places, checks_copy, starts_copy, copies_all, nought, opens, allocates, frees, typed_slot, variable, slot}
use Rattle.oc_walk.specs.Operations.{tests, condition, hidden_of, publicly_one, hiddenly_one, unaries, divided, publicly, hiddenly, operates, turns}
use Rattle.oc_walk.specs.Exchange.{count_of, cost, counted, word, feeds, reveals, gives, known_word, public_word, prints}
use Rattle.growing_runs.specs.Laws.{end_of}

module _ (D : Domain) (R : D.Own → D.Own → Type 0) where
  -- what a domain does with its own state is an addition to it
  pub record Adds : Type 0 where
    pub same : (o : D.Own) → R o o
    pub more : {o p q : D.Own} → R o p → R p q → R o q
    pub one : (op : OneOp) (k : IntKind) (x : D.Hidden) (o : D.Own) → R o (D.one op k x o).1
    pub binary : (op : BinaryOp) (k : IntKind) (x y : D.Hidden) (o : D.Own) → R o (D.binary op k x y o).1
    pub shift : (op : BinaryOp) (k : IntKind) (x : D.Hidden) (n : ℤ) (o : D.Own) → R o (D.shift op k x n o).1
    pub turn : (from to : IntKind) (x : D.Hidden) (o : D.Own) → R o (D.turn from to x o).1
    pub pick : (k : IntKind) (e : D.Enable) (x y : D.Hidden) (o : D.Own) → R o (D.pick k e x y o).1
    pub first : (e : D.Enable) (h : D.Hidden) (o : D.Own) → R o (D.first e h o).1
    pub second : (e : D.Enable) (h : D.Hidden) (u : D.Enable) (o : D.Own) → R o (D.second e h u o).1
    pub feed : (party : ℕ) (k : IntKind) (i : ℕ) (o : D.Own) → R o (D.feed party k i o).1
    pub reveal : (k : IntKind) (h : D.Hidden) (n : ℤ) (o : D.Own) → R o (D.reveal k h n o)
    pub give : (party : ℕ) (k : IntKind) (h : D.Hidden) (o : D.Own) → R o (D.give party k h o)
    pub print : (bytes : List ℕ) (o : D.Own) → R o (D.print bytes o)

  -- what actions on memory work on, before and after
  pub record Kept (x y : M D) : Type 0 where
    pub own : R x.own y.own
    pub dealt : y.dealt ≤ x.dealt
    pub taken : x.taken ≤ y.taken

  -- the state, before and after
  pub record Spent (s t : S D) : Type 0 where
    pub mem : Kept s.mem t.mem
    pub steps : t.steps ≤ s.steps

  -- an action on memory, and one on the state, that only add
  pub record Grows {A : Type 0} (m : M D → Res (M D) A) : Type 0 where
    pub run : (x : M D) → Kept x (end_of (m x))

  pub record Goes {A : Type 0} (m : S D → Res (S D) A) : Type 0 where
    pub run : (s : S D) → Spent s (end_of (m s))

module _ (D : Domain) (R : D.Own → D.Own → Type 0) (adds : Adds D R) where
  itself : (x : M D) → Kept D R x x
  itself x = record { own = adds.same x.own; dealt = omega arith; taken = omega arith }

  kept_more : {x y z : M D} → Kept D R x y → Kept D R y z → Kept D R x z
  kept_more h i = record { own = adds.more h.own i.own; dealt = omega (arith, h.dealt, i.dealt); taken = omega (arith, h.taken, i.taken) }

  pub as_is : (s : S D) → Spent D R s s
  as_is s = record { mem = itself s.mem; steps = omega arith }

  pub spent_more : {s t u : S D} → Spent D R s t → Spent D R t u → Spent D R s u
  spent_more h i = record { mem = kept_more h.mem i.mem; steps = omega (arith, h.steps, i.steps) }

  -- one action after the other
  then_at : {A B : Type 0} {k : A → M D → Res (M D) B} {x : M D} (r : Res (M D) A) → Kept D R x (end_of r) → ((a : A) → Grows D R (k a)) → Kept D R x (end_of (after r k))
  then_at (Go a y) h f = kept_more h ((f a).run y)
  then_at (Stop w y) h f = h

  next : {A B : Type 0} {m : M D → Res (M D) A} {k : A → M D → Res (M D) B} → Grows D R m → ((a : A) → Grows D R (k a)) → Grows D R (bind m k)
  next {m = m} g f = record { run = λ x. then_at (m x) (g.run x) f }

  after_at : {A B : Type 0} {k : A → S D → Res (S D) B} {s : S D} (r : Res (S D) A) → Spent D R s (end_of r) → ((a : A) → Goes D R (k a)) → Spent D R s (end_of (after r k))
  after_at (Go a t) h f = spent_more h ((f a).run t)
  after_at (Stop w t) h f = h

  pub seq : {A B : Type 0} {m : S D → Res (S D) A} {k : A → S D → Res (S D) B} → Goes D R m → ((a : A) → Goes D R (k a)) → Goes D R (bind m k)
  seq {m = m} g f = record { run = λ s. after_at (m s) (g.run s) f }

  lift_at : {A : Type 0} (s : S D) (r : Res (M D) A) → Kept D R s.mem (end_of r) → Spent D R s (end_of (stilled s r))
  lift_at s (Go a y) h = record { mem = h; steps = omega arith }
  lift_at s (Stop w y) h = record { mem = h; steps = omega arith }

  pub lift : {A : Type 0} {m : M D → Res (M D) A} → Grows D R m → Goes D R (still m)
  lift {m = m} g = record { run = λ s. lift_at s (m s.mem) (g.run s.mem) }

  -- what changes nothing
  rests : {A : Type 0} (a : A) → Grows D R (pure a)
  rests a = record { run = λ x. itself x }

  ends : {A : Type 0} (w : Halt) → Grows D R {A = A} (λ x. Stop w x)
  ends w = record { run = λ x. itself x }

  pub answers : {A : Type 0} (a : A) → Goes D R (pure a)
  answers a = record { run = λ s. as_is s }

  pub stops : {A : Type 0} (w : Halt) → Goes D R {A = A} (λ s. Stop w s)
  stops w = record { run = λ s. as_is s }

  either : {A : Type 0} (b : Bool) {m n : M D → Res (M D) A} → Grows D R m → Grows D R n → Grows D R (choose b m n)
  either true f g = f
  either false f g = g

  pub chosen : {A : Type 0} (b : Bool) {m n : S D → Res (S D) A} → Goes D R m → Goes D R n → Goes D R (choose b m n)
  chosen true f g = f
  chosen false f g = g

  -- an operation of the domain
  pub owns : {A : Type 0} (f : D.Own → A × D.Own) → ((o : D.Own) → R o (f o).1) → Grows D R (own f)
  owns f h = record { run = λ x. record { own = h x.own; dealt = omega arith; taken = omega arith } }

  tells : (f : D.Own → D.Own) → ((o : D.Own) → R o (f o)) → Grows D R (own {A = Unit {0}} (λ o. (tt {0}, f o)))
  tells f h = owns {A = Unit {0}} (λ o. (tt {0}, f o)) h

  -- an answer of the memory
  answered_at : {A : Type 0} (p : Spot) (x : M D) (r : Result A TrapKind) → Kept D R x (end_of (answered p r x))
  answered_at p x (Ok a) = itself x
  answered_at p x (Err t) = itself x

  loads_grows : (p : Spot) (a : Address) (u : CType) → Grows D R (loads p a u)
  loads_grows p a u = record { run = λ x. answered_at p x (load x.blocks a u) }

  keeps_grows : (bs : List (Block D.Hidden)) → Grows D R (keeps bs)
  keeps_grows bs = record { run = λ x. record { own = adds.same x.own; dealt = omega arith; taken = omega arith } }

  stores_grows : (p : Spot) (a : Address) (u : CType) (c : CellValue D.Hidden) → Grows D R (stores p a u c)
  stores_grows p a u c = record { run = λ x. then_at (answered p (store x.blocks a u c) x) (answered_at p x (store x.blocks a u c)) (λ bs. keeps_grows bs) }

  makes_grows : (p : Spot) (allocated : Bool) (ls : List CType) (n : ℤ) → Grows D R (makes (nought D) p allocated ls n)
  makes_grows p allocated ls n =
      record {
        run = λ x. then_at (answered p (make_copies (nought D) live_limit allocated x.blocks ls n) x) (answered_at p x (make_copies (nought D) live_limit allocated x.blocks ls n)) (λ bs. next (keeps_grows bs) (λ _. rests (length x.blocks)));
      }

  pays_grows : (b : Bool) (n : ℕ) → Grows D R (pays b n)
  pays_grows true n = record { run = λ x. record { own = adds.same x.own; dealt = omega arith; taken = omega arith } }
  pays_grows false n = ends _

  transfers_grows : (n : ℕ) → Grows D R (transfers n)
  transfers_grows n = record { run = λ x. (pays_grows (nat_le n x.dealt) n).run x }

  takes_at : (k : IntKind) (ns : List ℤ) (x : M D) → Kept D R x (end_of (takes_answer k ns x))
  takes_at k [] x = itself x
  takes_at k (n ∷ ns) x = record { own = adds.same x.own; dealt = omega arith; taken = omega arith }

  answer_grows : (k : IntKind) (o : Option ℤ) → Grows D R (answer k o)
  answer_grows k (Some n) = rests _
  answer_grows k None = record { run = λ x. takes_at k x.answers x }

  valued_grows : (p : Spot) (u : CType) (c : CellValue D.Hidden) → Grows D R (valued D p u c)
  valued_grows p (CInt k false) (CellInt n) = rests _
  valued_grows p (CInt k true) (CellHidden h) = rests _
  valued_grows p (Pointer' f u t) (CellPointer a) = rests _
  valued_grows p _ _ = ends _

  reads_grows : (p : Spot) (u : CType) (a : Address) → Grows D R (reads D p u a)
  reads_grows p u a = next (loads_grows p a u) (λ c. valued_grows p u c)

  puts_grows : (p : Spot) (u : CType) (a : Address) (v : V D) → Grows D R (puts D p u a v)
  puts_grows p u a v = either (fits_leaf D u v) (next (stores_grows p a u (cell_of D v)) (λ _. rests v)) (ends _)

  picks_grows : (p : Spot) (e : D.Enable) (k : IntKind) (a : Address) (h : D.Hidden) (c : CellValue D.Hidden) → Grows D R (picks D p e k a h c)
  picks_grows p e k a h (CellHidden old) = next (owns (D.pick k e h old) (λ o. adds.pick k e h old o)) (λ g. next (stores_grows p a (CInt k true) (CellHidden g)) (λ _. rests (Hidden k g)))
  picks_grows p e k a h _ = ends _

  hidden_grows : (p : Spot) (e : D.Enable) (k : IntKind) (a : Address) (v : V D) → Grows D R (writes_hidden D p e k a v)
  hidden_grows p e k a (Hidden l h) = either (same_kind k l) (next (loads_grows p a (CInt k true)) (λ c. picks_grows p e k a h c)) (ends _)
  hidden_grows p e k a _ = ends _

  writes_grows : (p : Spot) (e : D.Enable) (u : CType) (a : Address) (v : V D) → Grows D R (writes D p e u a v)
  writes_grows p e u a v = either (is_hidden u) (hidden_grows p e (kind_of u) a v) (puts_grows p u a v)

  pub puts_goes : (p : Spot) (u : CType) (a : Address) (v : V D) → Goes D R (still (puts D p u a v))
  puts_goes p u a v = lift (puts_grows p u a v)

  pub writes_goes : (p : Spot) (e : D.Enable) (u : CType) (a : Address) (v : V D) → Goes D R (still (writes D p e u a v))
  writes_goes p e u a v = lift (writes_grows p e u a v)

  pub gets_goes : (p : Spot) (u : CType) (g : Goal D.Hidden) → Goes D R (still (gets D p u g))
  gets_goes p u (Only a) = lift (reads_grows p u a)

  fetches_grows : (p : Spot) (u : CType) (g : Goal D.Hidden) → Grows D R (fetches D p u g)
  fetches_grows p u (Only a) = either (is_struct u) (rests (Pointer a)) (reads_grows p u a)

  pub fetches_goes : (p : Spot) (u : CType) (g : Goal D.Hidden) → Goes D R (still (fetches D p u g))
  fetches_goes p u g = lift (fetches_grows p u g)

  pub sets_goes : (p : Spot) (e : D.Enable) (u : CType) (g : Goal D.Hidden) (v : V D) → Goes D R (still (sets D p e u g v))
  sets_goes p e u (Only a) v = lift (writes_grows p e u a v)

  follows_grows : (p : Spot) (v : V D) → Grows D R (follows D p v)
  follows_grows p (Pointer (At b i)) = rests _
  follows_grows p (Pointer Null) = ends _
  follows_grows p (Int k n) = ends _
  follows_grows p (Hidden k h) = ends _
  follows_grows p Nothing = ends _

  pub follows_goes : (p : Spot) (v : V D) → Goes D R (still (follows D p v))
  follows_goes p v = lift (follows_grows p v)

  addressed_grows : (p : Spot) (v : V D) → Grows D R (addressed D p v)
  addressed_grows p (Pointer a) = rests a
  addressed_grows p _ = ends _

  pub addressed_goes : (p : Spot) (v : V D) → Goes D R (still (addressed D p v))
  addressed_goes p v = lift (addressed_grows p v)

  moved_at : (b : Bool) (p : Spot) (r : Result Address TrapKind) → Grows D R (choose b (answered p r) (odd p))
  moved_at true p r = record { run = λ x. answered_at p x r }
  moved_at false p r = ends _

  moves_grows : (p : Spot) (size : ℕ) (back : Bool) (v n : V D) → Grows D R (moves D p size back v n)
  moves_grows p size back (Pointer a) (Int k n) = record { run = λ x. (moved_at _ p (offset x.blocks a (signed_by back n) size)).run x }
  moves_grows p size back _ _ = ends _

  pub moves_goes : (p : Spot) (size : ℕ) (back : Bool) (v n : V D) → Goes D R (still (moves D p size back v n))
  moves_goes p size back v n = lift (moves_grows p size back v n)

  same_grows : (p : Spot) (negated : Bool) (v w : V D) → Grows D R (same_places D p negated v w)
  same_grows p negated (Pointer a) (Pointer b) = rests _
  same_grows p negated _ _ = ends _

  pub same_goes : (p : Spot) (negated : Bool) (v w : V D) → Goes D R (still (same_places D p negated v w))
  same_goes p negated v w = lift (same_grows p negated v w)

  tests_grows : (p : Spot) (v : V D) → Grows D R (tests D p v)
  tests_grows p (Int k n) = rests _
  tests_grows p _ = ends _

  pub tests_goes : (p : Spot) (v : V D) → Goes D R (still (tests D p v))
  tests_goes p v = lift (tests_grows p v)

  condition_grows : (p : Spot) (v : V D) → Grows D R (condition D p v)
  condition_grows p (Hidden k h) = either (same_kind KBool k) (rests h) (ends _)
  condition_grows p _ = ends _

  pub condition_goes : (p : Spot) (v : V D) → Goes D R (still (condition D p v))
  condition_goes p v = lift (condition_grows p v)

  made : (k : IntKind) (f : D.Own → D.Hidden × D.Own) → ((o : D.Own) → R o (f o).1) → Grows D R (hidden_of D k f)
  made k f h = next (owns f h) (λ g. rests (Hidden k g))

  public_one : (p : Spot) (op : OneOp) (k : IntKind) (v : V D) → Grows D R (publicly_one D p op k v)
  public_one p op k (Int l n) = either (same_kind k l) (rests _) (ends _)
  public_one p op k _ = ends _

  hidden_one : (p : Spot) (op : OneOp) (k : IntKind) (v : V D) → Grows D R (hiddenly_one D p op k v)
  hidden_one p op k (Hidden l h) = either (same_kind k l) (made k (D.one op k h) (λ o. adds.one op k h o)) (ends _)
  hidden_one p op k _ = ends _

  pub unaries_goes : (p : Spot) (op : OneOp) (k : IntKind) (hidden : Bool) (v : V D) → Goes D R (still (unaries D p op k hidden v))
  unaries_goes p op k hidden v = lift (either hidden (hidden_one p op k v) (public_one p op k v))

  divided_grows : (p : Spot) (k : IntKind) (r : Result ℤ ZeroDivisor) → Grows D R (divided D p k r)
  divided_grows p k (Ok n) = rests _
  divided_grows p k (Err z) = ends _

  public_two : (p : Spot) (op : BinaryOp) (k : IntKind) (v w : V D) → Grows D R (publicly D p op k v w)
  public_two p op k (Int l x) (Int m y) = either _ (divided_grows p (kind_of_result op k) (operate_public op k x y)) (ends _)
  public_two p op k _ _ = ends _

  hidden_two : (p : Spot) (op : BinaryOp) (k : IntKind) (v w : V D) → Grows D R (hiddenly D p op k v w)
  hidden_two p op k (Hidden l x) (Hidden m y) = either _ (made (result_kind op k) (D.binary op k x y) (λ o. adds.binary op k x y o)) (ends _)
  hidden_two p op k (Hidden l x) (Int m n) = either _ (made k (D.shift op k x n) (λ o. adds.shift op k x n o)) (ends _)
  hidden_two p op k _ _ = ends _

  pub operates_goes : (p : Spot) (op : BinaryOp) (k : IntKind) (hidden : Bool) (v w : V D) → Goes D R (still (operates D p op k hidden v w))
  operates_goes p op k hidden v w = lift (either hidden (hidden_two p op k v w) (public_two p op k v w))

  turns_grows : (p : Spot) (from to : IntKind) (up : Bool) (v : V D) → Grows D R (turns D p from to up v)
  turns_grows p from to up (Int l n) = either (same_kind from l) (rests _) (ends _)
  turns_grows p from to up (Hidden l h) = either (same_kind from l) (made to (D.turn from to h) (λ o. adds.turn from to h o)) (ends _)
  turns_grows p from to up _ = ends _

  pub turns_goes : (p : Spot) (from to : IntKind) (up : Bool) (v : V D) → Goes D R (still (turns D p from to up v))
  turns_goes p from to up v = lift (turns_grows p from to up v)

  checks_grows : (p : Spot) (to from : Address) (ls : List CType) → Grows D R (checks_copy D p to from ls)
  checks_grows p to from ls = record { run = λ x. answered_at p x ((then) (loadable x.blocks from ls) (λ _. all_storable x.blocks to ls)) }

  pub starts_goes : (p : Spot) (ls : List CType) (a : Address) (v : V D) → Goes D R (still (starts_copy D p ls a v))
  starts_goes p ls a v = lift (either (has_size ls) (next (addressed_grows p v) (λ b. next (checks_grows p a b ls) (λ _. rests b))) (ends _))

  copied_grows : (p : Spot) (e : D.Enable) (ls : List CType) (to from : Address) → Grows D R (copies_all D p e ls to from)
  copied_grows p e [] to from = rests _
  copied_grows p e (l ∷ ls) to from = next (next (reads_grows p l from) (λ v. writes_grows p e l to v)) (λ _. copied_grows p e ls _ _)

  pub copied_goes : (p : Spot) (e : D.Enable) (ls : List CType) (to from : Address) → Goes D R (still (copies_all D p e ls to from))
  copied_goes p e ls to from = lift (copied_grows p e ls to from)

  enter_goes : (n b : ℕ) → Goes D R (enter n b)
  enter_goes n b = record { run = λ s. record { mem = itself s.mem; steps = omega arith } }

  pub opens_goes : (p : Spot) (lss : List (List CType)) (u : CType) (n : ℕ) → Goes D R (opens D p lss u n)
  opens_goes p lss u n = chosen (has_size (leaves lss u)) (seq (lift (makes_grows p false (leaves lss u) (pos 1))) (λ b. seq (enter_goes n b) (λ _. answers b))) (stops _)

  allocates_grows : (p : Spot) (lss : List (List CType)) (u : CType) (v : V D) → Grows D R (allocates D p lss u v)
  allocates_grows p lss u (Int k n) = either (has_size (leaves lss u)) (next (makes_grows p true (leaves lss u) n) (λ b. rests _)) (ends _)
  allocates_grows p lss u _ = ends _

  pub allocates_goes : (p : Spot) (lss : List (List CType)) (u : CType) (v : V D) → Goes D R (still (allocates D p lss u v))
  allocates_goes p lss u v = lift (allocates_grows p lss u v)

  frees_grows : (p : Spot) (v : V D) → Grows D R (frees D p v)
  frees_grows p (Pointer a) = record { run = λ x. then_at (answered p (free x.blocks a) x) (answered_at p x (free x.blocks a)) (λ bs. next (keeps_grows bs) (λ _. rests Nothing)) }
  frees_grows p (Int k n) = ends _
  frees_grows p (Hidden k h) = ends _
  frees_grows p Nothing = ends _

  pub frees_goes : (p : Spot) (v : V D) → Goes D R (still (frees D p v))
  frees_goes p v = lift (frees_grows p v)

  counted_grows : (q : Spot) (b : Bool) (party : ℕ) (k : IntKind) (i : ℕ) → Grows D R (counted D q b party k i)
  counted_grows q true party k i = next (transfers_grows (cost party k)) (λ _. made k (D.feed party k i) (λ o. adds.feed party k i o))
  counted_grows q false party k i = ends _

  word_grows : (known : Known) (q : Spot) (party : ℕ) (k : IntKind) (v : V D) → Grows D R (word D known q party k v)
  word_grows known q party k (Int l (pos i)) = counted_grows q (nat_lt i (count_of known party)) party k i
  word_grows known q party k (Int l (negsuc i)) = ends _
  word_grows known q party k (Pointer a) = ends _
  word_grows known q party k (Hidden l h) = ends _
  word_grows known q party k Nothing = ends _

  feeds_grows : (known : Known) (p : Spot) (s : Source) (party : ℕ) (k : IntKind) (v : V D) → Grows D R (feeds D known p s party k v)
  feeds_grows known p (Word q) party k v = word_grows known q party k v
  feeds_grows known p Public party k v = rests v

  pub feeds_goes : (known : Known) (p : Spot) (s : Source) (party : ℕ) (k : IntKind) (v : V D) → Goes D R (still (feeds D known p s party k v))
  feeds_goes known p s party k v = lift (feeds_grows known p s party k v)

  reveals_grows : (p : Spot) (k : IntKind) (v : V D) → Grows D R (reveals D p k v)
  reveals_grows p k (Hidden l h) = either (same_kind k l) (next (answer_grows k (D.knows k h)) (λ n. next (tells (D.reveal k h n) (λ o. adds.reveal k h n o)) (λ _. rests (Int k n)))) (ends (Odd p))
  reveals_grows p k _ = ends _

  pub reveals_goes : (p : Spot) (k : IntKind) (v : V D) → Goes D R (still (reveals D p k v))
  reveals_goes p k v = lift (reveals_grows p k v)

  gives_grows : (p : Spot) (k : IntKind) (party : ℕ) (v : V D) → Grows D R (gives D p k party v)
  gives_grows p k party (Hidden l h) = either (same_kind k l) (next (tells (D.give party k h) (λ o. adds.give party k h o)) (λ _. rests Nothing)) (ends (Odd p))
  gives_grows p k party _ = ends _

  pub gives_goes : (p : Spot) (k : IntKind) (party : ℕ) (v : V D) → Goes D R (still (gives D p k party v))
  gives_goes p k party v = lift (gives_grows p k party v)

  known_grows : (p : Spot) (o : Option ℤ) → Grows D R (known_word D p o)
  known_grows p (Some n) = rests _
  known_grows p None = ends _

  public_grows : (known : Known) (p : Spot) (v : V D) → Grows D R (public_word D known p v)
  public_grows known p (Int k (pos i)) = known_grows p (slice_get known.public i)
  public_grows known p (Int k (negsuc i)) = ends _
  public_grows known p (Pointer a) = ends _
  public_grows known p (Hidden l h) = ends _
  public_grows known p Nothing = ends _

  pub public_goes : (known : Known) (p : Spot) (v : V D) → Goes D R (still (public_word D known p v))
  public_goes known p v = lift (public_grows known p v)

  prints_grows : (p : Spot) (o : Option (List ℕ)) → Grows D R (prints D p o)
  prints_grows p (Some bytes) = next (tells (D.print bytes) (λ o. adds.print bytes o)) (λ _. rests Nothing)
  prints_grows p None = ends _

  pub prints_goes : (p : Spot) (o : Option (List ℕ)) → Goes D R (still (prints D p o))
  prints_goes p o = lift (prints_grows p o)

  pub typed_goes : {T : Type 0} (p : Spot) (o : Option SlotType) (k : SlotType → S D → Res (S D) T) → ((t : SlotType) → Goes D R (k t)) → Goes D R (typed_slot D p o k)
  typed_goes p (Some t) k f = f t
  typed_goes p None k f = stops _

  variable_goes : (p : Spot) (o : Option ℕ) → Goes D R (variable D p o)
  variable_goes p (Some b) = answers _
  variable_goes p None = stops _

  pub slot_goes : (p : Spot) (n : ℕ) → Goes D R (slot D p n)
  slot_goes p n = record { run = λ s. (variable_goes p (block_of n s.entered)).run s }

  spent_at : (n : ℕ) (s : S D) → s.steps ≡ n → Spent D R s (end_of (spent n s))
  spent_at zero s q = as_is s
  spent_at (suc n) s q = record { mem = itself s.mem; steps = omega (arith, q) }

  pub step_goes : Goes D R step
  step_goes = record { run = λ s. spent_at s.steps s refl }
