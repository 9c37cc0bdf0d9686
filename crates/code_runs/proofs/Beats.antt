-- By events, one beat makes at most one entry.
use Rattle.std.proofs.Common.{ℕ, zero, suc, ◌+◌, ◌-◌, ◌≡◌, List, [], ◌∷◌, length, Option, Some, None, refl, sym, ◌∙◌, subst, Bool, true, false}
use Rattle.std.specs.Prelude.{ℤ, pos, negsuc, slice_get, nat_lt, nat_eq, nat_le, Result, Ok, Err, if◌then◌else◌}
use Rattle.oc_values.specs.declared.integers.IntKind.{IntKind}
use Rattle.oc_values.specs.declared.integers.IntKind.TheVariants.{Bool as KBool}
use Rattle.oc_values.specs.declared.integers.ZeroDivisor.{ZeroDivisor}
use Rattle.oc_values.specs.declared.integers.BinaryOp.{BinaryOp}
use Rattle.oc_values.specs.declared.integers.OneOp.{OneOp}
use Rattle.oc_values.specs.Integers.{operate_public, kind_of_result}
use Rattle.oc_values.specs.Kinds.{same_kind}
use Rattle.oc_cells.specs.declared.types.CType.{CType, Int as CInt, Pointer' as CPointer', Array' as CArray', Struct, Nothing as CNothing}
use Rattle.oc_cells.specs.declared.types.SlotType.{SlotType}
use Rattle.oc_cells.specs.declared.memory.Address.{Address}
use Rattle.oc_cells.specs.declared.memory.Address.TheVariants.{Null, At}
use Rattle.oc_cells.specs.declared.memory.CellValue.{CellValue}
use Rattle.oc_cells.specs.declared.memory.CellValue.TheVariants.{Int as CellInt, Pointer as CellPointer, Hidden as CellHidden}
use Rattle.oc_cells.specs.declared.trap.TrapKind.{TrapKind}
use Rattle.oc_cells.specs.Types.{kind_of, is_hidden, is_struct}
use Rattle.oc_cells.specs.Layout.{leaves, has_size}
use Rattle.oc_cells.specs.Memory.{load, store, make_copies, offset, free}
use Rattle.oc_source.specs.declared.spot.Spot.{Spot}
use Rattle.oc_walk.specs.declared.run.Value.TheVariants.{Int, Pointer, Hidden, Nothing}
use Rattle.oc_walk.specs.declared.run.Named.{Named}
use Rattle.oc_walk.specs.Domain.{Domain}
use Rattle.oc_walk.specs.Walking.{Res, Go, Stop, Act, after, bind, pure, odd, choose, stilled, still, own, answered, keeps, loads, stores, makes, answer, takes_answer, pays, transfers, step, spent, enter, live_limit, Known, Run, Odd, block_of, close}
use Rattle.oc_walk.specs.Cells.{V, M, S, A, valued, reads, fits_leaf, cell_of, puts, picks, writes_hidden, writes, follows, addressed, moves, same_places, starts_copy, copies_cell, nought, opens, allocates, frees, typed_slot, slot, variable, is_of_kind, signed_by}
use Rattle.oc_walk.specs.Operations.{tests, condition, hidden_of, unaries, divided, publicly, hiddenly, operates, turns as turns_kind}
use Rattle.oc_walk.specs.Exchange.{counted, word, reveals, gives, known_word, public_word, prints, formatted, cost, count_of}
use Rattle.oc_walk.specs.Walk.{params}
use Rattle.oc_meanings.specs.Events.{Entry, Operand, events, pick_under, first_under, second_under, apart_from}
use Rattle.oc_code.specs.declared.code.Instr.{Instr}
use Rattle.oc_code.specs.declared.code.Instr.TheVariants.{Push, Null as PushNull, Var, FieldAt, Move, Check, Load, Store, Init, Copy, Op, One, Same, Turn, Dup, Swap, Discard, Jump, JumpZero, Step, Enter, Leave, Invoke, Back as GoBack, BackValue, When, Otherwise, EndWhen, Always, EndAlways, Feed, Reveal, Give, Count, PublicCount, PublicWord, Make, Free, Print}
use Rattle.oc_code.specs.declared.code.CodeFunction.{CodeFunction}
use Rattle.code_runs.specs.Laws.{AtMostOne, none, more, own_out}
use Rattle.oc_code.specs.declared.code.Line.{Line}
use Rattle.oc_code.specs.Machine.{Setup, Here, Conf, Caller, Aside, Apart, Lifted, Task, Idle, Copying, asked, leaving, with_one, with_two, with_all, popped, enters, marks, leaves_newest, effect, carried, begun, copies_to, copies_two, inits, jumped, jumps, opened, called_with, reached, invoked, goes_back, goes_back_with, when_of, whens, otherwise, ends_when, always_on, ends_always, obey, over, follow, went_on, goes_on, next}

abbrev E : Domain
E = events

abbrev own_of : {T A : Type 0} → (T → List Entry) → Res T A → List Entry
own_of o (Go a t) = o t
own_of o (Stop w t) = o t

abbrev om : M E → List Entry
om m = m.own

abbrev os : S E → List Entry
os s = s.mem.own

-- actions that make no entry, and those that make one at most
record Still {T A : Type 0} (o : T → List Entry) (m : Act T A) : Type 0 where
  is : (s : T) → own_of o (m s) ≡ o s

record Once {T A : Type 0} (o : T → List Entry) (m : Act T A) : Type 0 where
  is : (s : T) → AtMostOne (o s) (own_of o (m s))

after_still : {T A B : Type 0} (o : T → List Entry) (es : List Entry) (r : Res T A) (k : A → Act T B) → own_of o r ≡ es → ((a : A) → Still o (k a)) → own_of o (after r k) ≡ es
after_still o es (Go a t) k e f = (f a).is t ∙ e
after_still o es (Stop w t) k e f = e

after_once : {T A B : Type 0} (o : T → List Entry) (es : List Entry) (r : Res T A) (k : A → Act T B) → own_of o r ≡ es → ((a : A) → Once o (k a)) → AtMostOne es (own_of o (after r k))
after_once o es (Go a t) k e f = subst (λ q. AtMostOne q (own_of o (k a t))) e ((f a).is t)
after_once o es (Stop w t) k e f = subst (λ q. AtMostOne es q) (sym e) none

once_after : {T A B : Type 0} (o : T → List Entry) (es : List Entry) (r : Res T A) (k : A → Act T B) → AtMostOne es (own_of o r) → ((a : A) → Still o (k a)) → AtMostOne es (own_of o (after r k))
once_after o es (Go a t) k q f = subst (λ x. AtMostOne es x) (sym ((f a).is t)) q
once_after o es (Stop w t) k q f = q

still_seq : {T A B : Type 0} {o : T → List Entry} {m : Act T A} {k : A → Act T B} → Still o m → ((a : A) → Still o (k a)) → Still o (bind m k)
still_seq {o = o} {m = m} {k = k} f h = record { is = λ s. after_still o (o s) (m s) k (f.is s) h }

still_once : {T A B : Type 0} {o : T → List Entry} {m : Act T A} {k : A → Act T B} → Still o m → ((a : A) → Once o (k a)) → Once o (bind m k)
still_once {o = o} {m = m} {k = k} f h = record { is = λ s. after_once o (o s) (m s) k (f.is s) h }

once_still : {T A B : Type 0} {o : T → List Entry} {m : Act T A} {k : A → Act T B} → Once o m → ((a : A) → Still o (k a)) → Once o (bind m k)
once_still {o = o} {m = m} {k = k} f h = record { is = λ s. once_after o (o s) (m s) k (f.is s) h }

as_once : {T A : Type 0} {o : T → List Entry} {m : Act T A} → Still o m → Once o m
as_once {o = o} {m = m} f = record { is = λ s. subst (λ q. AtMostOne (o s) q) (sym (f.is s)) none }

pure_still : {T A : Type 0} {o : T → List Entry} (a : A) → Still o (pure a)
pure_still a = record { is = λ s. refl }

odd_still : {T A : Type 0} {o : T → List Entry} (p : Spot) → Still {A = A} o (odd p)
odd_still p = record { is = λ s. refl }

choose_still : {T A : Type 0} {o : T → List Entry} (b : Bool) {m k : Act T A} → Still o m → Still o k → Still o (choose b m k)
choose_still true f h = f
choose_still false f h = h

choose_once : {T A : Type 0} {o : T → List Entry} (b : Bool) {m k : Act T A} → Once o m → Once o k → Once o (choose b m k)
choose_once true f h = f
choose_once false f h = h

answered_still : {A : Type 0} (p : Spot) (r : Result A TrapKind) → Still om (answered p r)
answered_still p (Ok a) = record { is = λ s. refl }
answered_still p (Err k) = record { is = λ s. refl }

loads_still : (p : Spot) (at : Address) (leaf : CType) → Still om (loads p at leaf)
loads_still p at leaf = record { is = λ s. (answered_still p (load s.blocks at leaf)).is s }

keeps_still : (blocks : _) → Still om (keeps blocks)
keeps_still blocks = record { is = λ s. refl }

stores_still : (p : Spot) (at : Address) (leaf : CType) (v : CellValue Operand) → Still om (stores p at leaf v)
stores_still p at leaf v = record { is = λ s. after_still om s.own (answered p (store s.blocks at leaf v) s) keeps ((answered_still p (store s.blocks at leaf v)).is s) keeps_still }

own_once : {A : Type 0} (f : List Entry → A × List Entry) → ((es : List Entry) → AtMostOne es (f es).1) → Once om (own f)
own_once f h = record { is = λ s. h s.own }

valued_still : (p : Spot) (u : CType) (c : CellValue Operand) → Still om (valued E p u c)
valued_still p (CInt k false) (CellInt n) = pure_still (Int k n)
valued_still p (CInt k false) (CellPointer a) = odd_still p
valued_still p (CInt k false) (CellHidden h) = odd_still p
valued_still p (CInt k true) (CellInt n) = odd_still p
valued_still p (CInt k true) (CellPointer a) = odd_still p
valued_still p (CInt k true) (CellHidden h) = pure_still (Hidden k h)
valued_still p (CPointer' f u t) (CellInt n) = odd_still p
valued_still p (CPointer' f u t) (CellPointer a) = pure_still (Pointer a)
valued_still p (CPointer' f u t) (CellHidden h) = odd_still p
valued_still p (CArray' n u t) c = odd_still p
valued_still p (Struct n) c = odd_still p
valued_still p CNothing c = odd_still p

reads_still : (p : Spot) (u : CType) (a : Address) → Still om (reads E p u a)
reads_still p u a = still_seq (loads_still p a u) (λ c. valued_still p u c)

puts_still : (p : Spot) (u : CType) (a : Address) (v : V E) → Still om (puts E p u a v)
puts_still p u a v = choose_still (fits_leaf E u v) (still_seq (stores_still p a u (cell_of E v)) (λ _. pure_still v)) (odd_still p)

pick_once : (k : IntKind) (e : Option Operand) (new old : Operand) (es : List Entry) → AtMostOne es (pick_under k e new old es).1
pick_once k None new old es = none
pick_once k (Some e) new old es = more _

picks_once : (p : Spot) (e : Option Operand) (k : IntKind) (a : Address) (new : Operand) (c : CellValue Operand) → Once om (picks E p e k a new c)
picks_once p e k a new (CellHidden old) = once_still (own_once (pick_under k e new old) (pick_once k e new old)) (λ h. still_seq (stores_still p a (CInt k true) (CellHidden h)) (λ _. pure_still (Hidden k h)))
picks_once p e k a new (CellInt n) = as_once (odd_still p)
picks_once p e k a new (CellPointer b) = as_once (odd_still p)

writes_hidden_once : (p : Spot) (e : Option Operand) (k : IntKind) (a : Address) (v : V E) → Once om (writes_hidden E p e k a v)
writes_hidden_once p e k a (Hidden l h) = choose_once (same_kind k l) (still_once (loads_still p a (CInt k true)) (λ c. picks_once p e k a h c)) (as_once (odd_still p))
writes_hidden_once p e k a (Int l n) = as_once (odd_still p)
writes_hidden_once p e k a (Pointer b) = as_once (odd_still p)
writes_hidden_once p e k a Nothing = as_once (odd_still p)

writes_once : (p : Spot) (e : Option Operand) (u : CType) (a : Address) (v : V E) → Once om (writes E p e u a v)
writes_once p e u a v = choose_once (is_hidden u) (writes_hidden_once p e (kind_of u) a v) (as_once (puts_still p u a v))

-- each cell of a copy makes one entry at most
copies_cell_once : (p : Spot) (e : Option Operand) (l : CType) (to from : Address) → Once om (copies_cell E p e l to from)
copies_cell_once p e l to from = still_once (reads_still p l from) (λ v. writes_once p e l to v)

follows_still : (p : Spot) (v : V E) → Still om (follows E p v)
follows_still p (Pointer (At b i)) = pure_still (At b i)
follows_still p (Pointer Null) = record { is = λ s. refl }
follows_still p (Int k n) = odd_still p
follows_still p (Hidden k h) = odd_still p
follows_still p Nothing = odd_still p

addressed_still : (p : Spot) (v : V E) → Still om (addressed E p v)
addressed_still p (Pointer a) = pure_still a
addressed_still p (Int k n) = odd_still p
addressed_still p (Hidden k h) = odd_still p
addressed_still p Nothing = odd_still p

moves_at : (p : Spot) (size : ℕ) (back : Bool) (a : Address) (k : IntKind) (n : ℤ) (s : M E) (b : Bool) → own_of om (choose b (answered p (offset s.blocks a (signed_by back n) size)) (odd p) s) ≡ s.own
moves_at p size back a k n s true = (answered_still p (offset s.blocks a (signed_by back n) size)).is s
moves_at p size back a k n s false = refl

moves_still : (p : Spot) (size : ℕ) (back : Bool) (v z : V E) → Still om (moves E p size back v z)
moves_still p size back (Pointer a) (Int k n) = record { is = λ s. moves_at p size back a k n s (is_of_kind k n) }
moves_still p size back (Pointer a) (Pointer b) = odd_still p
moves_still p size back (Pointer a) (Hidden k h) = odd_still p
moves_still p size back (Pointer a) Nothing = odd_still p
moves_still p size back (Int k n) z = odd_still p
moves_still p size back (Hidden k h) z = odd_still p
moves_still p size back Nothing z = odd_still p

same_still : (p : Spot) (negated : Bool) (v z : V E) → Still om (same_places E p negated v z)
same_still p negated (Pointer a) (Pointer b) = pure_still _
same_still p negated (Pointer a) (Int k n) = odd_still p
same_still p negated (Pointer a) (Hidden k h) = odd_still p
same_still p negated (Pointer a) Nothing = odd_still p
same_still p negated (Int k n) z = odd_still p
same_still p negated (Hidden k h) z = odd_still p
same_still p negated Nothing z = odd_still p

tests_still : (p : Spot) (v : V E) → Still om (tests E p v)
tests_still p (Int k n) = pure_still _
tests_still p (Pointer a) = odd_still p
tests_still p (Hidden k h) = odd_still p
tests_still p Nothing = odd_still p

condition_still : (p : Spot) (v : V E) → Still om (condition E p v)
condition_still p (Hidden k h) = choose_still (same_kind KBool k) (pure_still h) (odd_still p)
condition_still p (Int k n) = odd_still p
condition_still p (Pointer a) = odd_still p
condition_still p Nothing = odd_still p

hidden_once : (k : IntKind) (f : List Entry → Operand × List Entry) → ((es : List Entry) → AtMostOne es (f es).1) → Once om (hidden_of E k f)
hidden_once k f h = once_still (own_once f h) (λ x. pure_still (Hidden k x))

unaries_once : (p : Spot) (op : OneOp) (k : IntKind) (hidden : Bool) (v : V E) → Once om (unaries E p op k hidden v)
unaries_once p op k true (Hidden l h) = choose_once (same_kind k l) (hidden_once k _ (λ es. more _)) (as_once (odd_still p))
unaries_once p op k true (Int l n) = as_once (odd_still p)
unaries_once p op k true (Pointer a) = as_once (odd_still p)
unaries_once p op k true Nothing = as_once (odd_still p)
unaries_once p op k false (Int l n) = as_once (choose_still (same_kind k l) (pure_still _) (odd_still p))
unaries_once p op k false (Hidden l h) = as_once (odd_still p)
unaries_once p op k false (Pointer a) = as_once (odd_still p)
unaries_once p op k false Nothing = as_once (odd_still p)

divided_still : (p : Spot) (k : IntKind) (r : Result ℤ ZeroDivisor) → Still om (divided E p k r)
divided_still p k (Ok n) = pure_still (Int k n)
divided_still p k (Err z) = record { is = λ s. refl }

hiddenly_once : (p : Spot) (op : BinaryOp) (k : IntKind) (x y : V E) → Once om (hiddenly E p op k x y)
hiddenly_once p op k (Hidden l x) (Hidden m y) = choose_once _ (hidden_once _ _ (λ es. more _)) (as_once (odd_still p))
hiddenly_once p op k (Hidden l x) (Int m n) = choose_once _ (hidden_once _ _ (λ es. more _)) (as_once (odd_still p))
hiddenly_once p op k (Hidden l x) (Pointer a) = as_once (odd_still p)
hiddenly_once p op k (Hidden l x) Nothing = as_once (odd_still p)
hiddenly_once p op k (Int l n) y = as_once (odd_still p)
hiddenly_once p op k (Pointer a) y = as_once (odd_still p)
hiddenly_once p op k Nothing y = as_once (odd_still p)

publicly_still : (p : Spot) (op : BinaryOp) (k : IntKind) (x y : V E) → Still om (publicly E p op k x y)
publicly_still p op k (Int l x) (Int m y) = choose_still _ (divided_still p (kind_of_result op k) (operate_public op k x y)) (odd_still p)
publicly_still p op k (Int l x) (Hidden m h) = odd_still p
publicly_still p op k (Int l x) (Pointer a) = odd_still p
publicly_still p op k (Int l x) Nothing = odd_still p
publicly_still p op k (Hidden l x) y = odd_still p
publicly_still p op k (Pointer a) y = odd_still p
publicly_still p op k Nothing y = odd_still p

operates_once : (p : Spot) (op : BinaryOp) (k : IntKind) (hidden : Bool) (x y : V E) → Once om (operates E p op k hidden x y)
operates_once p op k hidden x y = choose_once hidden (hiddenly_once p op k x y) (as_once (publicly_still p op k x y))

turns_once : (p : Spot) (from to : IntKind) (lift : Bool) (v : V E) → Once om (turns_kind E p from to lift v)
turns_once p from to lift (Int l n) = as_once (choose_still (same_kind from l) (pure_still _) (odd_still p))
turns_once p from to lift (Hidden l h) = choose_once (same_kind from l) (hidden_once to _ (λ es. more _)) (as_once (odd_still p))
turns_once p from to lift (Pointer a) = as_once (odd_still p)
turns_once p from to lift Nothing = as_once (odd_still p)

makes_still : (p : Spot) (allocated : Bool) (ls : List CType) (n : ℤ) → Still om (makes (nought E) p allocated ls n)
makes_still p allocated ls n = record { is = λ s. after_still om s.own (answered p (make_copies (nought E) live_limit allocated s.blocks ls n) s) _ ((answered_still p (make_copies (nought E) live_limit allocated s.blocks ls n)).is s) (λ blocks. still_seq (keeps_still blocks) (λ _. pure_still (length s.blocks))) }

allocates_still : (p : Spot) (lss : List (List CType)) (u : CType) (v : V E) → Still om (allocates E p lss u v)
allocates_still p lss u (Int k n) = choose_still (has_size (leaves lss u)) (still_seq (makes_still p true (leaves lss u) n) (λ b. pure_still (Pointer (At b 0)))) (odd_still p)
allocates_still p lss u (Pointer a) = odd_still p
allocates_still p lss u (Hidden k h) = odd_still p
allocates_still p lss u Nothing = odd_still p

frees_still : (p : Spot) (v : V E) → Still om (frees E p v)
frees_still p (Pointer a) = record { is = λ s. after_still om s.own (answered p (free s.blocks a) s) _ ((answered_still p (free s.blocks a)).is s) (λ blocks. still_seq (keeps_still blocks) (λ _. pure_still Nothing)) }
frees_still p (Int k n) = odd_still p
frees_still p (Hidden k h) = odd_still p
frees_still p Nothing = odd_still p

pays_at : (b : Bool) (n : ℕ) (s : M E) → own_of om (pays b n s) ≡ s.own
pays_at true n s = refl
pays_at false n s = refl

transfers_still : (n : ℕ) → Still om (transfers n)
transfers_still n = record { is = λ s. pays_at (nat_le n s.dealt) n s }

counted_once : (q : Spot) (b : Bool) (party : ℕ) (k : IntKind) (i : ℕ) → Once om (counted E q b party k i)
counted_once q true party k i = still_once (transfers_still (cost party k)) (λ _. hidden_once k _ (λ es. more _))
counted_once q false party k i = as_once (record { is = λ s. refl })

word_once : (known : Known) (q : Spot) (party : ℕ) (k : IntKind) (v : V E) → Once om (word E known q party k v)
word_once known q party k (Int l (pos i)) = counted_once q (nat_lt i (count_of known party)) party k i
word_once known q party k (Int l (negsuc i)) = as_once (record { is = λ s. refl })
word_once known q party k (Hidden l h) = as_once (odd_still q)
word_once known q party k (Pointer a) = as_once (odd_still q)
word_once known q party k Nothing = as_once (odd_still q)

takes_at : (k : IntKind) (ns : List ℤ) (s : M E) → own_of om (takes_answer k ns s) ≡ s.own
takes_at k [] s = refl
takes_at k (n ∷ ns) s = refl

reveals_once : (p : Spot) (k : IntKind) (v : V E) → Once om (reveals E p k v)
reveals_once p k (Hidden l h) = choose_once (same_kind k l) (still_once {m = answer k None} (record { is = λ s. takes_at k s.answers s }) (λ n. once_still {m = own (λ o. (tt {0}, E.reveal k h n o))} (own_once _ (λ es. more _)) (λ _. pure_still (Int k n)))) (as_once (odd_still p))
reveals_once p k (Int l n) = as_once (odd_still p)
reveals_once p k (Pointer a) = as_once (odd_still p)
reveals_once p k Nothing = as_once (odd_still p)

gives_once : (p : Spot) (k : IntKind) (party : ℕ) (v : V E) → Once om (gives E p k party v)
gives_once p k party (Hidden l h) = choose_once (same_kind k l) (once_still {m = own (λ o. (tt {0}, E.give party k h o))} (own_once _ (λ es. more _)) (λ _. pure_still Nothing)) (as_once (odd_still p))
gives_once p k party (Int l n) = as_once (odd_still p)
gives_once p k party (Pointer a) = as_once (odd_still p)
gives_once p k party Nothing = as_once (odd_still p)

shared_still : (p : Spot) (o : Option ℤ) → Still om (known_word E p o)
shared_still p (Some n) = pure_still _
shared_still p None = record { is = λ s. refl }

public_still : (known : Known) (p : Spot) (v : V E) → Still om (public_word E known p v)
public_still known p (Int k (pos i)) = shared_still p (slice_get known.public i)
public_still known p (Int k (negsuc i)) = record { is = λ s. refl }
public_still known p (Hidden k h) = odd_still p
public_still known p (Pointer a) = odd_still p
public_still known p Nothing = odd_still p

prints_once : (p : Spot) (o : Option (List ℕ)) → Once om (prints E p o)
prints_once p (Some bytes) = once_still {m = own (λ o. (tt {0}, E.print bytes o))} (own_once _ (λ es. more _)) (λ _. pure_still Nothing)
prints_once p None = as_once (odd_still p)

starts_still : (p : Spot) (ls : List CType) (a : Address) (v : V E) → Still om (starts_copy E p ls a v)
starts_still p ls a v = choose_still (has_size ls) (still_seq (addressed_still p v) (λ b. still_seq (record { is = λ s. (answered_still p _).is s }) (λ _. pure_still b))) (odd_still p)

-- the same of the whole state
stilled_own : {A : Type 0} (s : S E) (r : Res (M E) A) → own_of os (stilled s r) ≡ own_of om r
stilled_own s (Go a m) = refl
stilled_own s (Stop w m) = refl

up : {A : Type 0} {m : Act (M E) A} → Still om m → Still os (still m)
up {m = m} f = record { is = λ s. stilled_own s (m s.mem) ∙ f.is s.mem }

up_once : {A : Type 0} {m : Act (M E) A} → Once om m → Once os (still m)
up_once {m = m} f = record { is = λ s. subst (λ q. AtMostOne s.mem.own q) (sym (stilled_own s (m s.mem))) (f.is s.mem) }

variable_still : (p : Spot) (o : Option ℕ) (s : S E) → own_of os (variable E p o s) ≡ s.mem.own
variable_still p (Some b) s = refl
variable_still p None s = refl

slot_still : (p : Spot) (n : ℕ) → Still os (slot E p n)
slot_still p n = record { is = λ s. variable_still p (block_of n s.entered) s }

spent_at : (n : ℕ) (s : S E) → own_of os (spent n s) ≡ s.mem.own
spent_at zero s = refl
spent_at (suc n) s = refl

step_still : Still os step
step_still = record { is = λ s. spent_at s.steps s }

opens_still : (p : Spot) (lss : List (List CType)) (u : CType) (n : ℕ) → Still os (opens E p lss u n)
opens_still p lss u n = choose_still (has_size (leaves lss u)) (still_seq (up (makes_still p false (leaves lss u) (pos 1))) (λ b. still_seq {m = enter n b} (record { is = λ s. refl }) (λ _. pure_still b))) (odd_still p)

typed_still : {T : Type 0} (p : Spot) (o : Option SlotType) (k : SlotType → A E T) → ((t : SlotType) → Still os (k t)) → Still os (typed_slot E p o k)
typed_still p (Some t) k f = f t
typed_still p None k f = odd_still p

enters_still : (p : Spot) (lss : List (List CType)) (ss : List SlotType) (n : ℕ) → Still os (enters E p lss ss n)
enters_still p lss ss n = typed_still p (slice_get ss n) _ (λ t. still_seq (opens_still p lss t.ty n) (λ _. pure_still _))

marks_still : (p : Spot) (lss : List (List CType)) (ss : List SlotType) (n : ℕ) (e : Option Operand) → Still os (marks E p lss ss n e)
marks_still p lss ss n e = typed_still p (slice_get ss n) _ (λ t. still_seq (opens_still p lss t.ty n) (λ b. still_seq (up (puts_still p t.ty (At b 0) (Hidden KBool (E.held e)))) (λ _. pure_still _)))

params_still : (p : Spot) (lss : List (List CType)) (ss : List SlotType) (n : ℕ) (vs : List (V E)) → Still os (params E p lss ss n vs)
params_still p lss ss n [] = pure_still _
params_still p lss ss n (v ∷ vs) = typed_still p (slice_get ss n) _ (λ t. still_seq (opens_still p lss t.ty n) (λ b. still_seq (up (puts_still p t.ty (At b 0) v)) (λ _. params_still p lss ss (suc n) vs)))

abbrev left_if : Spot → S E → Bool → Res (S E) (Unit {0})
left_if p s b = if b then Go tt (close 1 s) else Stop (Odd p) s

leaves_if : (p : Spot) (s : S E) (b : Bool) → own_of os (left_if p s b) ≡ s.mem.own
leaves_if p s true = refl
leaves_if p s false = refl

leaves_at : (p : Spot) (n : ℕ) (es : List Named) (s : S E) → own_of os (leaves_newest E p n es s) ≡ s.mem.own
leaves_at p n [] s = refl
leaves_at p n (e ∷ es) s = leaves_if p s (nat_eq e.slot n)

with_one_once : {T : Type 0} (p : Spot) (vs : List (V E)) {k : V E → List (V E) → A E T} → ((v : V E) (us : List (V E)) → Once os (k v us)) → Once os (with_one E p vs k)
with_one_once p [] f = as_once (odd_still p)
with_one_once p (v ∷ vs) f = f v vs

with_two_once : {T : Type 0} (p : Spot) (vs : List (V E)) {k : V E → V E → List (V E) → A E T} → ((v z : V E) (us : List (V E)) → Once os (k v z us)) → Once os (with_two E p vs k)
with_two_once p [] f = as_once (odd_still p)
with_two_once p (y ∷ []) f = as_once (odd_still p)
with_two_once p (y ∷ x ∷ vs) f = f x y vs

with_all_once : {T : Type 0} (p : Spot) (o : Option (List (V E) × List (V E))) {k : List (V E) → List (V E) → A E T} → ((args us : List (V E)) → Once os (k args us)) → Once os (with_all E p o k)
with_all_once p (Some r) f = f r.0 r.1
with_all_once p None f = as_once (odd_still p)

effect_once : (r : Run) (ss : List SlotType) (p : Spot) (e : Option Operand) (i : Instr) (vs : List (V E)) → Once os (effect E r ss p e i vs)
effect_once r ss p e (Push k n) vs = as_once (pure_still _)
effect_once r ss p e PushNull vs = as_once (pure_still _)
effect_once r ss p e (Var n) vs = as_once (still_seq (slot_still p n) (λ a. pure_still _))
effect_once r ss p e (FieldAt n) vs = with_one_once p vs (λ v us. as_once (still_seq (up (addressed_still p v)) (λ a. pure_still _)))
effect_once r ss p e (Move size back) vs = with_two_once p vs (λ v n us. as_once (still_seq (up (moves_still p size back v n)) (λ a. pure_still _)))
effect_once r ss p e Check vs = with_one_once p vs (λ v us. as_once (still_seq (up (follows_still p v)) (λ a. pure_still _)))
effect_once r ss p e (Load ty) vs = with_one_once p vs (λ v us. as_once (still_seq (up (addressed_still p v)) (λ a. still_seq (up (reads_still p ty a)) (λ z. pure_still _))))
effect_once r ss p e (Store ty) vs = with_two_once p vs (λ a v us. still_once (up (addressed_still p a)) (λ b. once_still (up_once (writes_once p e ty b v)) (λ z. pure_still _)))
effect_once r ss p e (Init ty) vs = with_two_once p vs (λ a v us. as_once (still_seq (up (addressed_still p a)) (λ b. still_seq (up (puts_still p ty b v)) (λ z. pure_still _))))
effect_once r ss p e (Op op k hidden) vs = with_two_once p vs (λ v z us. once_still (up_once (operates_once p op k hidden v z)) (λ y. pure_still _))
effect_once r ss p e (One op k hidden) vs = with_one_once p vs (λ v us. once_still (up_once (unaries_once p op k hidden v)) (λ y. pure_still _))
effect_once r ss p e (Same negated) vs = with_two_once p vs (λ v z us. as_once (still_seq (up (same_still p negated v z)) (λ y. pure_still _)))
effect_once r ss p e (Turn from to lift) vs = with_one_once p vs (λ v us. once_still (up_once (turns_once p from to lift v)) (λ y. pure_still _))
effect_once r ss p e Dup vs = with_one_once p vs (λ v us. as_once (pure_still _))
effect_once r ss p e Swap vs = with_two_once p vs (λ v z us. as_once (pure_still _))
effect_once r ss p e Discard vs = with_one_once p vs (λ v us. as_once (pure_still _))
effect_once r ss p e Step vs = as_once (still_seq step_still (λ _. pure_still _))
effect_once r ss p e (Enter n) vs = as_once (still_seq (enters_still p r.structs ss n) (λ _. pure_still _))
effect_once r ss p e (Leave n) vs = as_once (still_seq {m = leaving E p n} (record { is = λ s. leaves_at p n s.entered s }) (λ _. pure_still _))
effect_once r ss p e (Feed k party) vs = with_one_once p vs (λ v us. once_still (up_once (word_once r.known p party k v)) (λ y. pure_still _))
effect_once r ss p e (Reveal k) vs = with_one_once p vs (λ v us. once_still (up_once (reveals_once p k v)) (λ y. pure_still _))
effect_once r ss p e (Give k party) vs = with_one_once p vs (λ v us. once_still (up_once (gives_once p k party v)) (λ y. pure_still _))
effect_once r ss p e (Count party) vs = as_once (pure_still _)
effect_once r ss p e PublicCount vs = as_once (pure_still _)
effect_once r ss p e PublicWord vs = with_one_once p vs (λ v us. as_once (still_seq (up (public_still r.known p v)) (λ y. pure_still _)))
effect_once r ss p e (Make ty) vs = with_one_once p vs (λ v us. as_once (still_seq (up (allocates_still p r.structs ty v)) (λ y. pure_still _)))
effect_once r ss p e Free vs = with_one_once p vs (λ v us. as_once (still_seq (up (frees_still p v)) (λ y. pure_still _)))
effect_once r ss p e (Print ps) vs = with_all_once p (popped E (asked ps) vs []) (λ args us. once_still (up_once (prints_once p (formatted ps args))) (λ y. pure_still _))
effect_once r ss p e (Copy n) vs = as_once (odd_still p)
effect_once r ss p e (Jump n) vs = as_once (odd_still p)
effect_once r ss p e (JumpZero n) vs = as_once (odd_still p)
effect_once r ss p e (Invoke f n k) vs = as_once (odd_still p)
effect_once r ss p e GoBack vs = as_once (odd_still p)
effect_once r ss p e BackValue vs = as_once (odd_still p)
effect_once r ss p e When vs = as_once (odd_still p)
effect_once r ss p e Otherwise vs = as_once (odd_still p)
effect_once r ss p e EndWhen vs = as_once (odd_still p)
effect_once r ss p e (Always n) vs = as_once (odd_still p)
effect_once r ss p e EndAlways vs = as_once (odd_still p)

carried_once : (h : Here E) (pc : ℕ) (r : Res (S E) (List (V E))) (es : List Entry) → AtMostOne es (own_of os r) → AtMostOne es (own_out (carried E h pc r))
carried_once h pc (Go vs t) es q = q
carried_once h pc (Stop w t) es q = q

begun_still : (h : Here E) (pc : ℕ) (vs : List (V E)) (k : Address → Task E) (r : Res (S E) Address) → own_out (begun E h pc vs k r) ≡ own_of os r
begun_still h pc vs k (Go b t) = refl
begun_still h pc vs k (Stop w t) = refl

copies_to_still : (p : Spot) (e : Option Operand) (ls : List CType) (h : Here E) (pc : ℕ) (keep : Address → List (V E)) (v : V E) (r : Res (S E) Address) → own_out (copies_to E p e ls h pc keep v r) ≡ own_of os r
copies_to_still p e ls h pc keep v (Go a t) = begun_still h pc (keep a) _ (still (starts_copy E p ls a v) t) ∙ (up (starts_still p ls a v)).is t
copies_to_still p e ls h pc keep v (Stop w t) = refl

copies_two_still : (p : Spot) (e : Option Operand) (ls : List CType) (h : Here E) (pc : ℕ) (keep : Address → List (V E) → List (V E)) (vs : List (V E)) (s : S E) → own_out (copies_two E p e ls h pc keep vs s) ≡ s.mem.own
copies_two_still p e ls h pc keep [] s = refl
copies_two_still p e ls h pc keep (v ∷ []) s = refl
copies_two_still p e ls h pc keep (v ∷ a ∷ us) s = copies_to_still p e ls h pc _ v (still (addressed E p a) s) ∙ (up (addressed_still p a)).is s

same : {es fs : List Entry} → fs ≡ es → AtMostOne es fs
same {es} {fs} e = subst (λ q. AtMostOne es q) (sym e) none

inits_once : (b : Bool) (r : Run) (p : Spot) (ty : CType) (h : Here E) (pc : ℕ) (vs : List (V E)) (s : S E) → AtMostOne s.mem.own (own_out (inits E b r p ty h pc vs s))
inits_once true r p ty h pc vs s = same (copies_two_still p E.always (leaves r.structs ty) h pc _ vs s)
inits_once false r p ty h pc vs s = carried_once h pc (effect E r h.slots p h.enable (Init ty) vs s) s.mem.own ((effect_once r h.slots p h.enable (Init ty) vs).is s)

jumped_still : (h : Here E) (n pc : ℕ) (vs : List (V E)) (r : Res (S E) Bool) → own_out (jumped E h n pc vs r) ≡ own_of os r
jumped_still h n pc vs (Go true t) = refl
jumped_still h n pc vs (Go false t) = refl
jumped_still h n pc vs (Stop w t) = refl

jumps_still : (p : Spot) (h : Here E) (n pc : ℕ) (vs : List (V E)) (s : S E) → own_out (jumps E p h n pc vs s) ≡ s.mem.own
jumps_still p h n pc [] s = refl
jumps_still p h n pc (v ∷ vs) s = jumped_still h n pc vs (still (tests E p v) s) ∙ (up (tests_still p v)).is s

opened_still : (code : List Line) (ss : List SlotType) (e : Option Operand) (room : ℕ) (cs : List (Caller E)) (r : Res (S E) (Unit {0})) → own_out (opened E code ss e room cs r) ≡ own_of os r
opened_still code ss e room cs (Go a t) = refl
opened_still code ss e room cs (Stop w t) = refl

called_still : (r : Run) (p : Spot) (o : Option CodeFunction) (room : ℕ) (h : Here E) (pc : ℕ) (args us : List (V E)) (s : S E) → own_out (called_with E r p o room h pc args us s) ≡ s.mem.own
called_still r p None room h pc args us s = refl
called_still r p (Some f) room h pc args us s = opened_still f.code f.slots h.enable room _ (params E p r.structs f.slots 0 args (record s { entered = [] })) ∙ (params_still p r.structs f.slots 0 args).is (record s { entered = [] })

reached_still : (g : Setup) (p : Spot) (f room : ℕ) (h : Here E) (pc : ℕ) (args us : List (V E)) (s : S E) → own_out (reached E g p f room h pc args us s) ≡ s.mem.own
reached_still g p f zero h pc args us s = refl
reached_still g p f (suc room) h pc args us s = called_still g.run p (slice_get g.functions f) room h pc args us s

invoked_still : (g : Setup) (p : Spot) (f r : ℕ) (h : Here E) (pc : ℕ) (o : Option (List (V E) × List (V E))) (s : S E) → own_out (invoked E g p f r h pc o s) ≡ s.mem.own
invoked_still g p f r h pc None s = refl
invoked_still g p f r h pc (Some a) s = reached_still g p f (h.room + 1 - r) h pc a.0 a.1 s

goes_back_still : (p : Spot) (cs : List (Caller E)) (v : V E) (s : S E) → own_out (goes_back E p cs v s) ≡ s.mem.own
goes_back_still p [] v s = refl
goes_back_still p (c ∷ cs) v s = refl

goes_with_still : (p : Spot) (cs : List (Caller E)) (vs : List (V E)) (s : S E) → own_out (goes_back_with E p cs vs s) ≡ s.mem.own
goes_with_still p cs [] s = refl
goes_with_still p cs (v ∷ vs) s = goes_back_still p cs v s

first_once : (e : Option Operand) (c : Operand) (es : List Entry) → AtMostOne es (first_under e c es).1
first_once None c es = none
first_once (Some e) c es = more _

apart_once : (e : Operand) (u : Option Operand) (es : List Entry) → AtMostOne es (apart_from e u es).1
apart_once e None es = none
apart_once e (Some u) es = more _

second_once : (e : Option Operand) (c : Operand) (u : Option Operand) (es : List Entry) → AtMostOne es (second_under e c u es).1
second_once None c u es = more _
second_once (Some e) c u es = apart_once e u es

when_once : (h : Here E) (pc : ℕ) (us : List (V E)) (r : Res (S E) Operand) (es : List Entry) → own_of os r ≡ es → AtMostOne es (own_out (when_of E h pc us r))
when_once h pc us (Go c t) es e = subst (λ q. AtMostOne q (first_under h.enable c t.mem.own).1) e (first_once h.enable c t.mem.own)
when_once h pc us (Stop w t) es e = same e

whens_once : (p : Spot) (h : Here E) (pc : ℕ) (vs : List (V E)) (s : S E) → AtMostOne s.mem.own (own_out (whens E p h pc vs s))
whens_once p h pc [] s = none
whens_once p h pc (v ∷ us) s = when_once h pc us (still (condition E p v) s) s.mem.own ((up (condition_still p v)).is s)

otherwise_once : (p : Spot) (h : Here E) (pc : ℕ) (vs : List (V E)) (as1 : List (Aside E)) (s : S E) → AtMostOne s.mem.own (own_out (otherwise E p h pc vs as1 s))
otherwise_once p h pc vs [] s = none
otherwise_once p h pc vs (Lifted e ∷ rest) s = none
otherwise_once p h pc vs (Apart o c e ∷ rest) s = second_once o c e s.mem.own

ends_when_still : (p : Spot) (h : Here E) (pc : ℕ) (vs : List (V E)) (as1 : List (Aside E)) (s : S E) → own_out (ends_when E p h pc vs as1 s) ≡ s.mem.own
ends_when_still p h pc vs [] s = refl
ends_when_still p h pc vs (Lifted e ∷ rest) s = refl
ends_when_still p h pc vs (Apart o c e ∷ rest) s = refl

always_still : (h : Here E) (pc : ℕ) (vs : List (V E)) (r : Res (S E) (Unit {0})) → own_out (always_on E h pc vs r) ≡ own_of os r
always_still h pc vs (Go a t) = refl
always_still h pc vs (Stop w t) = refl

ends_always_still : (p : Spot) (h : Here E) (pc : ℕ) (vs : List (V E)) (as1 : List (Aside E)) (s : S E) → own_out (ends_always E p h pc vs as1 s) ≡ s.mem.own
ends_always_still p h pc vs [] s = refl
ends_always_still p h pc vs (Lifted e ∷ rest) s = refl
ends_always_still p h pc vs (Apart o c e ∷ rest) s = refl

obey_once : (g : Setup) (p : Spot) (i : Instr) (h : Here E) (pc : ℕ) (vs : List (V E)) (s : S E) → AtMostOne s.mem.own (own_out (obey E g p i h pc vs s))
obey_once g p (Push k n) h pc vs s = carried_once h (pc + 1) (effect E g.run h.slots p h.enable (Push k n) vs s) s.mem.own ((effect_once g.run h.slots p h.enable (Push k n) vs).is s)
obey_once g p PushNull h pc vs s = carried_once h (pc + 1) (effect E g.run h.slots p h.enable PushNull vs s) s.mem.own ((effect_once g.run h.slots p h.enable PushNull vs).is s)
obey_once g p (Var n) h pc vs s = carried_once h (pc + 1) (effect E g.run h.slots p h.enable (Var n) vs s) s.mem.own ((effect_once g.run h.slots p h.enable (Var n) vs).is s)
obey_once g p (FieldAt n) h pc vs s = carried_once h (pc + 1) (effect E g.run h.slots p h.enable (FieldAt n) vs s) s.mem.own ((effect_once g.run h.slots p h.enable (FieldAt n) vs).is s)
obey_once g p (Move size back) h pc vs s = carried_once h (pc + 1) (effect E g.run h.slots p h.enable (Move size back) vs s) s.mem.own ((effect_once g.run h.slots p h.enable (Move size back) vs).is s)
obey_once g p Check h pc vs s = carried_once h (pc + 1) (effect E g.run h.slots p h.enable Check vs s) s.mem.own ((effect_once g.run h.slots p h.enable Check vs).is s)
obey_once g p (Load ty) h pc vs s = carried_once h (pc + 1) (effect E g.run h.slots p h.enable (Load ty) vs s) s.mem.own ((effect_once g.run h.slots p h.enable (Load ty) vs).is s)
obey_once g p (Store ty) h pc vs s = carried_once h (pc + 1) (effect E g.run h.slots p h.enable (Store ty) vs s) s.mem.own ((effect_once g.run h.slots p h.enable (Store ty) vs).is s)
obey_once g p (Op op k hidden) h pc vs s = carried_once h (pc + 1) (effect E g.run h.slots p h.enable (Op op k hidden) vs s) s.mem.own ((effect_once g.run h.slots p h.enable (Op op k hidden) vs).is s)
obey_once g p (One op k hidden) h pc vs s = carried_once h (pc + 1) (effect E g.run h.slots p h.enable (One op k hidden) vs s) s.mem.own ((effect_once g.run h.slots p h.enable (One op k hidden) vs).is s)
obey_once g p (Same negated) h pc vs s = carried_once h (pc + 1) (effect E g.run h.slots p h.enable (Same negated) vs s) s.mem.own ((effect_once g.run h.slots p h.enable (Same negated) vs).is s)
obey_once g p (Turn from to lift) h pc vs s = carried_once h (pc + 1) (effect E g.run h.slots p h.enable (Turn from to lift) vs s) s.mem.own ((effect_once g.run h.slots p h.enable (Turn from to lift) vs).is s)
obey_once g p Dup h pc vs s = carried_once h (pc + 1) (effect E g.run h.slots p h.enable Dup vs s) s.mem.own ((effect_once g.run h.slots p h.enable Dup vs).is s)
obey_once g p Swap h pc vs s = carried_once h (pc + 1) (effect E g.run h.slots p h.enable Swap vs s) s.mem.own ((effect_once g.run h.slots p h.enable Swap vs).is s)
obey_once g p Discard h pc vs s = carried_once h (pc + 1) (effect E g.run h.slots p h.enable Discard vs s) s.mem.own ((effect_once g.run h.slots p h.enable Discard vs).is s)
obey_once g p Step h pc vs s = carried_once h (pc + 1) (effect E g.run h.slots p h.enable Step vs s) s.mem.own ((effect_once g.run h.slots p h.enable Step vs).is s)
obey_once g p (Enter n) h pc vs s = carried_once h (pc + 1) (effect E g.run h.slots p h.enable (Enter n) vs s) s.mem.own ((effect_once g.run h.slots p h.enable (Enter n) vs).is s)
obey_once g p (Leave n) h pc vs s = carried_once h (pc + 1) (effect E g.run h.slots p h.enable (Leave n) vs s) s.mem.own ((effect_once g.run h.slots p h.enable (Leave n) vs).is s)
obey_once g p (Feed k party) h pc vs s = carried_once h (pc + 1) (effect E g.run h.slots p h.enable (Feed k party) vs s) s.mem.own ((effect_once g.run h.slots p h.enable (Feed k party) vs).is s)
obey_once g p (Reveal k) h pc vs s = carried_once h (pc + 1) (effect E g.run h.slots p h.enable (Reveal k) vs s) s.mem.own ((effect_once g.run h.slots p h.enable (Reveal k) vs).is s)
obey_once g p (Give k party) h pc vs s = carried_once h (pc + 1) (effect E g.run h.slots p h.enable (Give k party) vs s) s.mem.own ((effect_once g.run h.slots p h.enable (Give k party) vs).is s)
obey_once g p (Count party) h pc vs s = carried_once h (pc + 1) (effect E g.run h.slots p h.enable (Count party) vs s) s.mem.own ((effect_once g.run h.slots p h.enable (Count party) vs).is s)
obey_once g p PublicCount h pc vs s = carried_once h (pc + 1) (effect E g.run h.slots p h.enable PublicCount vs s) s.mem.own ((effect_once g.run h.slots p h.enable PublicCount vs).is s)
obey_once g p PublicWord h pc vs s = carried_once h (pc + 1) (effect E g.run h.slots p h.enable PublicWord vs s) s.mem.own ((effect_once g.run h.slots p h.enable PublicWord vs).is s)
obey_once g p (Make ty) h pc vs s = carried_once h (pc + 1) (effect E g.run h.slots p h.enable (Make ty) vs s) s.mem.own ((effect_once g.run h.slots p h.enable (Make ty) vs).is s)
obey_once g p Free h pc vs s = carried_once h (pc + 1) (effect E g.run h.slots p h.enable Free vs s) s.mem.own ((effect_once g.run h.slots p h.enable Free vs).is s)
obey_once g p (Print ps) h pc vs s = carried_once h (pc + 1) (effect E g.run h.slots p h.enable (Print ps) vs s) s.mem.own ((effect_once g.run h.slots p h.enable (Print ps) vs).is s)
obey_once g p (Init ty) h pc vs s = inits_once (is_struct ty) g.run p ty h (pc + 1) vs s
obey_once g p (Copy n) h pc vs s = same (copies_two_still p h.enable (leaves g.run.structs (Struct n)) h (pc + 1) _ vs s)
obey_once g p (Jump n) h pc vs s = none
obey_once g p (JumpZero n) h pc vs s = same (jumps_still p h n (pc + 1) vs s)
obey_once g p (Invoke f n k) h pc vs s = same (invoked_still g p f k h (pc + 1) (popped E n vs []) s)
obey_once g p GoBack h pc vs s = same (goes_back_still p h.callers Nothing s)
obey_once g p BackValue h pc vs s = same (goes_with_still p h.callers vs s)
obey_once g p When h pc vs s = whens_once p h (pc + 1) vs s
obey_once g p Otherwise h pc vs s = otherwise_once p h (pc + 1) vs h.aside s
obey_once g p EndWhen h pc vs s = same (ends_when_still p h (pc + 1) vs h.aside s)
obey_once g p (Always n) h pc vs s = same (always_still h (pc + 1) vs (marks E p g.run.structs h.slots n h.enable s) ∙ (marks_still p g.run.structs h.slots n h.enable).is s)
obey_once g p EndAlways h pc vs s = same (ends_always_still p h (pc + 1) vs h.aside s)

over_still : (vs : List (V E)) (s : S E) → own_out (over E vs s) ≡ s.mem.own
over_still [] s = refl
over_still (v ∷ vs) s = refl

follow_once : (g : Setup) (o : Option Line) (h : Here E) (pc : ℕ) (vs : List (V E)) (s : S E) → AtMostOne s.mem.own (own_out (follow E g o h pc vs s))
follow_once g None h pc vs s = same (over_still vs s)
follow_once g (Some l) h pc vs s = obey_once g l.spot l.instr h pc vs s

went_on_own : (h : Here E) (pc : ℕ) (vs : List (V E)) (k : Task E) (r : Res (S E) (V E)) → own_out (went_on E h pc vs k r) ≡ own_of os r
went_on_own h pc vs k (Go v t) = refl
went_on_own h pc vs k (Stop w t) = refl

goes_on_once : (g : Setup) (k : Task E) (h : Here E) (pc : ℕ) (vs : List (V E)) (s : S E) → AtMostOne s.mem.own (own_out (goes_on E g k h pc vs s))
goes_on_once g Idle h pc vs s = follow_once g (slice_get h.code pc) h pc vs s
goes_on_once g (Copying p e l ls to from) h pc vs s = subst (λ q. AtMostOne s.mem.own q) (sym (went_on_own h pc vs _ (still (copies_cell E p e l to from) s))) ((up_once (copies_cell_once p e l to from)).is s)

-- a beat makes one entry at most, whatever the code is
pub beat_once : (g : Setup) (c : Conf E) → AtMostOne c.state.mem.own (own_out (next E g c))
beat_once g c = goes_on_once g c.task c.here c.place c.stack c.state
