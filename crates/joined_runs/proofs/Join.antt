-- Two domains whose hidden values agree, and walks over them that stay in step.
use Rattle.std.proofs.Common.{ℕ, zero, suc, ◌+◌, ◌-◌, ◌≡◌, ℤ, pos, negsuc, List, [], ◌∷◌, ◌++◌, length, Option, Some, None, Result, Ok, Err, refl, sym, ap, ◌∙◌, subst, append_assoc, append-nil, Bool, true, false, ◌&&◌, ◌||◌, not}
use Rattle.std.specs.Prelude.{slice_get, nat_lt, nat_le, drop}
use Rattle.std.proofs.lemmas.Bool.{false≢true}
use Rattle.std.specs.Fmt.{signed_decimal}
use Rattle.oc_values.specs.declared.integers.IntKind.{IntKind}
use Rattle.oc_values.specs.declared.integers.IntKind.TheVariants.{Bool as KBool, I32}
use Rattle.oc_values.specs.declared.integers.BinaryOp.{BinaryOp}
use Rattle.oc_values.specs.declared.integers.OneOp.{OneOp}
use Rattle.oc_values.specs.declared.integers.ZeroDivisor.{ZeroDivisor}
use Rattle.oc_values.specs.Integers.{IsOfKind, convert, operate_public, kind_of_result, residue}
use Rattle.oc_values.specs.Kinds.{same_kind, is_shift, is_minus, result_kind, operate_one, one_kind}
use Rattle.oc_cells.specs.declared.types.CType.{CType, Int as CInt, Pointer' as CPointer', Array' as CArray', Struct as CStruct, Nothing as CNothing}
use Rattle.oc_cells.specs.declared.types.SlotType.{SlotType}
use Rattle.oc_cells.specs.declared.memory.Address.{Address}
use Rattle.oc_cells.specs.declared.memory.Address.TheVariants.{Null, At}
use Rattle.oc_cells.specs.declared.memory.CellValue.{CellValue}
use Rattle.oc_cells.specs.declared.memory.Block.{Block}
use Rattle.oc_cells.specs.declared.trap.TrapKind.{TrapKind}
use Rattle.oc_cells.specs.declared.trap.TrapKind.TheVariants.{Z1, I1, M3, M6}
use Rattle.oc_cells.specs.Types.{kind_of, is_hidden, is_integer, is_pointer, is_struct, target, alike}
use Rattle.oc_cells.specs.Layout.{leaves, has_size, size_of}
use Rattle.oc_cells.specs.Memory.{then, load, store, offset, free, loadable, all_storable, make_copies}
use Rattle.oc_cells.specs.Joined.{none, SameAnswer, answers, traps, SameValue, ints as cell_ints, pointers as cell_pointers, hiddens as cell_hiddens, SameMemory}
use Rattle.oc_cells.proofs.Joined.{load_same, store_same, offset_same, free_same, loadable_same, all_storable_same, ended_same, make_copies_same, length_same, then_same, memory_later}
use Rattle.oc_cells.proofs.Equal.{kind_is}
use Rattle.oc_values.proofs.Numbers.{zero_fits, convert_fits}
use Rattle.oc_source.specs.declared.spot.Spot.{Spot}
use Rattle.oc_typed.specs.declared.typed.TExpr.{TExpr}
use Rattle.oc_typed.specs.declared.typed.TExprNode.{TExprNode, Number, NullPointer, Read', AddressOf', Decay', Unary', Binary', PointerStep', PointerSame', Logic', Choose', Assign', Update', Convert', Call', Builtin', Row_of-TExpr, end_of-TExpr, more_of-TExpr}
use Rattle.oc_typed.specs.declared.typed.TPlaceNode.{TPlaceNode, Slot, Deref', Index', Field', Row_of-TPlace, more_of-TPlace}
use Rattle.oc_typed.specs.declared.typed.Builtin.{Builtin}
use Rattle.oc_typed.specs.declared.typed.Builtin.TheVariants.{Private, Feed, Reveal, Give, PrivateCount, PublicCount, PublicWord, Print, Calloc, Malloc, Free}
use Rattle.oc_typed.specs.declared.typed.PrintPiece.{PrintPiece}
use Rattle.oc_typed.specs.declared.typed.PrintPiece.TheVariants.{Text, Decimal, Byte}
use Rattle.oc_typed.specs.declared.typed.TDeclared.{TDeclared}
use Rattle.oc_typed.specs.declared.typed.TForInit.{TForInit}
use Rattle.oc_typed.specs.declared.typed.TForInit.TheVariants.{Nothing as NoInit, Declare as InitDeclare, Express as InitExpress}
use Rattle.oc_typed.specs.declared.typed.TStmt.{TStmt}
use Rattle.oc_typed.specs.declared.typed.TStmtNode.{TStmtNode, Declare, Express, Block', If', OblivIf', Always', While', For', Return, Break, Continue, Empty, Row_of-TStmt, end_of-TStmt, more_of-TStmt, Held-TStmtNode-If-2, None', Some'}
use Rattle.oc_typed.specs.declared.typed.TypedFunction.{TypedFunction}
use Rattle.oc_typed.specs.Static.{spot_of, type_of, working_kind}
use Rattle.oc_walk.specs.declared.run.Value.{Value}
use Rattle.oc_walk.specs.declared.run.Value.TheVariants.{Int, Pointer, Hidden, Nothing}
use Rattle.oc_walk.specs.declared.run.Flow.{Flow}
use Rattle.oc_walk.specs.declared.run.Flow.TheVariants.{Next, Break as Broke, Continue as Continued, Back}
use Rattle.oc_walk.specs.declared.run.Source.{Source}
use Rattle.oc_walk.specs.declared.run.Source.TheVariants.{Word, Public}
use Rattle.oc_walk.specs.declared.run.Outcome.TheVariants.{Trap, StepsSpent, DealtSpent}
use Rattle.oc_walk.specs.declared.run.Named.{Named}
use Rattle.oc_walk.specs.Domain.{Domain, Parts, AllOf}
use Rattle.oc_walk.specs.Walking.{Mem, State, Halt, Ended, Odd, Res, Go, Stop, after, bind, pure, odd, choose, stilled, still, own, answered, keeps, loads, stores, makes, answer, pays, transfers, spent, step, block_of, enter, shut, leave, scoped, ahead, Known, Run, Site, deeper, lighter}
use Rattle.oc_walk.specs.Cells.{Goal, Only, gets, fetches, sets, is_of_kind, signed_by, V, M, valued, reads, fits_leaf, cell_of, puts, picks, writes_hidden, writes, follows, addressed, moves, same_places, checks_copy, starts_copy, copies_all, nought, opens, allocates, frees, typed_slot, variable, slot}
use Rattle.oc_walk.specs.Operations.{tests, condition, hidden_of, publicly_one, hiddenly_one, unaries, divided, publicly, hiddenly, operates, lifted, turns}
use Rattle.oc_walk.specs.Exchange.{count_of, cost, formatted, onto, counted, word, feeds, reveals, gives, known_word, public_word, prints}
use Rattle.oc_walk.specs.Builtins.{source_of, on_none, on_one, on_two, on_some, performs}
use Rattle.oc_walk.specs.Expressions.{Under, under, stepping, converted, turned, copies, assigns, initializes, readied, renewed, both_or_one, decided, solely, expr, place, place_one, one, exprs, whole, tested}
use Rattle.oc_walk.specs.Statements.{F, started, declares, declares_all, proceed, part_done, round, again, loop, header, tested_or, advances, gives_back, parted, both, node, part, stmts, other, listed}
use Rattle.oc_walk.specs.Walk.{zero_value, value_back, returned, called, params, invokes, found, calls, start, nowhere}

-- what an operation of each domain does, where P is of what they answer
pub record Did {O O' A B : Type 0} (Own : O → O' → Type 0) (Later : O' → O' → Type 0) (told : O' → List ℤ) (P : O' → A → B → Type 0) (o : O') (r : A × O) (r' : B × O') : Type 0 where
  pub own_after : Own r.1 r'.1
  pub later : Later o r'.1
  -- it reveals nothing
  pub quiet : told r'.1 ≡ told o
  pub answers : P r'.1 r.0 r'.0

-- a reveal: the first domain knows the value, the second one doesn't
pub record Reveals {O O' : Type 0} (Own : O → O' → Type 0) (Later : O' → O' → Type 0) (told : O' → List ℤ) (k : IntKind) (o : O) (o' : O') (knows knows' : Option ℤ) (after_it : ℤ → O) (after_it' : ℤ → O') : Type 0 where
  pub value : ℤ
  pub of_kind : convert value k ≡ value
  pub known : knows ≡ Some value
  pub unknown : knows' ≡ None
  pub own_after : Own (after_it value) (after_it' value)
  pub later : Later o' (after_it' value)
  pub tells : told (after_it' value) ≡ told o' ++ value ∷ []

-- how the hidden values, enables and own states of two domains agree, and that each operation keeps it so
pub record Joined (C E : Domain) : Type 1 where
  pub Own : C.Own → E.Own → Type 0
  -- what is known of operands stays so
  pub Later : E.Own → E.Own → Type 0
  -- the second value stands for the first one, which is one of the kind
  pub Held : E.Own → IntKind → C.Hidden → E.Hidden → Type 0
  pub Same : E.Own → C.Enable → E.Enable → Type 0
  -- the values that were revealed
  pub told : E.Own → List ℤ
  pub later_refl : (o : E.Own) → Later o o
  pub later_trans : {a b c : E.Own} → Later a b → Later b c → Later a c
  pub held_later : {o o' : E.Own} {k : IntKind} {x : C.Hidden} {y : E.Hidden} → Later o o' → Held o k x y → Held o' k x y
  pub same_later : {o o' : E.Own} {x : C.Enable} {y : E.Enable} → Later o o' → Same o x y → Same o' x y
  pub known : (o : E.Own) (k : IntKind) (n : ℤ) → IsOfKind k n → Held o k (C.known k n) (E.known k n)
  pub one : {o : C.Own} {o' : E.Own} {x : C.Hidden} {x' : E.Hidden} (op : OneOp) (k : IntKind) → Own o o' → Held o' k x x' → Did Own Later told (λ p. Held p k) o' (C.one op k x o) (E.one op k x' o')
  -- a shift's right operand may have another kind
  pub binary : {o : C.Own} {o' : E.Own} {l : IntKind} {x y : C.Hidden} {x' y' : E.Hidden} (op : BinaryOp) (k : IntKind) → (is_shift op || same_kind k l) ≡ true → Own o o' → Held o' k x x' → Held o' l y y' → Did Own Later told (λ p. Held p (result_kind op k)) o' (C.binary op k x y o) (E.binary op k x' y' o')
  pub shift : {o : C.Own} {o' : E.Own} {x : C.Hidden} {x' : E.Hidden} (op : BinaryOp) (k : IntKind) (n : ℤ) → Own o o' → Held o' k x x' → Did Own Later told (λ p. Held p k) o' (C.shift op k x n o) (E.shift op k x' n o')
  pub turn : {o : C.Own} {o' : E.Own} {x : C.Hidden} {x' : E.Hidden} (from to : IntKind) → Own o o' → Held o' from x x' → Did Own Later told (λ p. Held p to) o' (C.turn from to x o) (E.turn from to x' o')
  pub pick : {o : C.Own} {o' : E.Own} {e : C.Enable} {e' : E.Enable} {x y : C.Hidden} {x' y' : E.Hidden} (k : IntKind) → Own o o' → Same o' e e' → Held o' k x x' → Held o' k y y' → Did Own Later told (λ p. Held p k) o' (C.pick k e x y o) (E.pick k e' x' y' o')
  pub always : (o : E.Own) → Same o C.always E.always
  pub held : {o : E.Own} {x : C.Enable} {y : E.Enable} → Same o x y → Held o KBool (C.held x) (E.held y)
  -- the second part's enable is made later, from what the first part's was made of
  pub first : {o : C.Own} {o' : E.Own} {e : C.Enable} {e' : E.Enable} {x : C.Hidden} {x' : E.Hidden} → Own o o' → Same o' e e' → Held o' KBool x x' → Did Own Later told (λ p u u'. (Same p u u') × ((q : E.Own) (r : C.Own) → Own r q → Later p q → Did Own Later told Same q (C.second e x u r) (E.second e' x' u' q))) o' (C.first e x o) (E.first e' x' o')
  -- both walk all parts
  pub decide : {o : E.Own} {x : C.Hidden} {x' : E.Hidden} → Held o KBool x x' → (C.decide x ≡ AllOf) × (E.decide x' ≡ AllOf)
  pub feed : {o : C.Own} {o' : E.Own} (party : ℕ) (k : IntKind) (i : ℕ) → Own o o' → Did Own Later told (λ p. Held p k) o' (C.feed party k i o) (E.feed party k i o')
  pub reveal : {o : C.Own} {o' : E.Own} {x : C.Hidden} {x' : E.Hidden} (k : IntKind) → Own o o' → Held o' k x x' → Reveals Own Later told k o o' (C.knows k x) (E.knows k x') (λ n. C.reveal k x n o) (λ n. E.reveal k x' n o')
  pub give : {o : C.Own} {o' : E.Own} {x : C.Hidden} {x' : E.Hidden} (party : ℕ) (k : IntKind) → Own o o' → Held o' k x x' → Did Own Later told (λ p _ _. Unit {0}) o' (tt {0}, C.give party k x o) (tt {0}, E.give party k x' o')
  pub print : {o : C.Own} {o' : E.Own} (bytes : List ℕ) → Own o o' → Did Own Later told (λ p _ _. Unit {0}) o' (tt {0}, C.print bytes o) (tt {0}, E.print bytes o')

and_left : (a b : Bool) → (a && b) ≡ true → a ≡ true
and_left true b e = refl
and_left false b e = e

and_right : (a b : Bool) → (a && b) ≡ true → b ≡ true
and_right true b e = e
and_right false b e = absurd (false≢true e)

module _ (C E : Domain) (J : Joined C E) where
  -- values that agree
  pub data SameVal (o : E.Own) : Value C.Hidden → Value E.Hidden → Type 0 where
    ints : {k : IntKind} {n : ℤ} → SameVal o (Int k n) (Int k n)
    pointers : {a : Address} → SameVal o (Pointer a) (Pointer a)
    hids : {k : IntKind} {x : C.Hidden} {y : E.Hidden} → J.Held o k x y → SameVal o (Hidden k x) (Hidden k y)
    nothings : SameVal o Nothing Nothing

  pub data SameVals (o : E.Own) : List (Value C.Hidden) → List (Value E.Hidden) → Type 0 where
    no_vals : SameVals o [] []
    more_vals : {v : Value C.Hidden} {w : Value E.Hidden} {vs : List (Value C.Hidden)} {ws : List (Value E.Hidden)} → SameVal o v w → SameVals o vs ws → SameVals o (v ∷ vs) (w ∷ ws)

  pub data SameFlow (o : E.Own) : Flow C.Hidden → Flow E.Hidden → Type 0 where
    nexts : SameFlow o Next Next
    breaks : SameFlow o Broke Broke
    continues : SameFlow o Continued Continued
    backs : {v : Value C.Hidden} {w : Value E.Hidden} → SameVal o v w → SameFlow o (Back v) (Back w)

  -- the same place
  pub data SameGoal (o : E.Own) : Goal C.Hidden → Goal E.Hidden → Type 0 where
    onlys : {a : Address} → SameGoal o (Only a) (Only a)

  val_later : {o o' : E.Own} {v : Value C.Hidden} {w : Value E.Hidden} → J.Later o o' → SameVal o v w → SameVal o' v w
  val_later l ints = ints
  val_later l pointers = pointers
  val_later l (hids h) = hids (J.held_later l h)
  val_later l nothings = nothings

  goal_later : {o o' : E.Own} {v : Goal C.Hidden} {w : Goal E.Hidden} → J.Later o o' → SameGoal o v w → SameGoal o' v w
  goal_later l onlys = onlys

  vals_later : {o o' : E.Own} {v : List (Value C.Hidden)} {w : List (Value E.Hidden)} → J.Later o o' → SameVals o v w → SameVals o' v w
  vals_later l no_vals = no_vals
  vals_later l (more_vals h hs) = more_vals (val_later l h) (vals_later l hs)

  -- states that agree, but for what is known beforehand of revealed values
  pub record Even (s : State C.Hidden C.Own) (t : State E.Hidden E.Own) : Type 0 where
    pub blocks : SameMemory (J.Held t.mem.own) s.mem.blocks t.mem.blocks
    pub dealt : s.mem.dealt ≡ t.mem.dealt
    pub entered : s.entered ≡ t.entered
    pub steps : s.steps ≡ t.steps
    pub own : J.Own s.mem.own t.mem.own

  abbrev pub CSt : Type 0
  CSt = State C.Hidden C.Own

  abbrev pub ESt : Type 0
  ESt = State E.Hidden E.Own

  abbrev pub CRes : Type 0 → Type 0
  CRes T = Res CSt T

  abbrev pub ERes : Type 0 → Type 0
  ERes T = Res ESt T

  pub data Ends {A B : Type 0} (P : E.Own → A → B → Type 0) (o : E.Own) : CRes A → ERes B → Type 0 where
    went : {a : A} {b : B} {s : CSt} {t : ESt} → Even s t → J.Later o t.mem.own → P t.mem.own a b → Ends P o (Go a s) (Go b t)
    stopped : {w : Halt} {s : CSt} {t : ESt} → Even s t → J.Later o t.mem.own → Ends P o (Stop w s) (Stop w t)

  abbrev pub knows : List ℤ → ESt → ESt
  knows l t = record t { mem = record t.mem { answers = l } }

  abbrev pub knows_after : {B : Type 0} → List ℤ → ERes B → ERes B
  knows_after l (Go b t) = Go b (knows l t)
  knows_after l (Stop w t) = Stop w (knows l t)

  abbrev pub own_at : {B : Type 0} → ERes B → E.Own
  own_at (Go b t) = t.mem.own
  own_at (Stop w t) = t.mem.own

  -- from t the second action ends as the first one did, if it knows what is revealed on the way
  pub record Follows {A B : Type 0} (P : E.Own → A → B → Type 0) (t : ESt) (r : CRes A) (m : ESt → ERes B) : Type 0 where
    pub new : List ℤ
    pub end : ERes B
    pub runs : (rest : List ℤ) → m (knows (new ++ rest) t) ≡ knows_after rest end
    pub told : J.told (own_at end) ≡ J.told t.mem.own ++ new
    pub ends : Ends P t.mem.own r end

  ends_later : {A B : Type 0} {P : E.Own → A → B → Type 0} {o o' : E.Own} {r : CRes A} {e : ERes B} → J.Later o o' → Ends P o' r e → Ends P o r e
  ends_later l (went v k p) = went v (J.later_trans l k) p
  ends_later l (stopped v k) = stopped v (J.later_trans l k)

  -- what is known once the first of two actions went well
  pub record Then {A B : Type 0} (P : E.Own → A → B → Type 0) (o : E.Own) (a : A) (b : B) (s : CSt) (t : ESt) : Type 0 where
    pub even : Even s t
    pub later : J.Later o t.mem.own
    pub holds : P t.mem.own a b

  module _ {A B A' B' : Type 0} {P : E.Own → A → B → Type 0} {Q : E.Own → A' → B' → Type 0} (k : A → CSt → CRes A') (k' : B → ESt → ERes B') (t : ESt) (m : ESt → ERes B) where
    seq_at : (new : List ℤ) (r : CRes A) (end : ERes B) → ((rest : List ℤ) → m (knows (new ++ rest) t) ≡ knows_after rest end) → J.told (own_at end) ≡ J.told t.mem.own ++ new → Ends P t.mem.own r end → ((a : A) (b : B) (u : CSt) (v : ESt) → Then P t.mem.own a b u v → Follows Q v (k a u) (k' b)) → Follows Q t (after r k) (bind m k')
    seq_at new (Go a u) (Go b v) runs told (went e l p) next =
        let f : Follows Q v (k a u) (k' b) = next a b u v (record { even = e; later = l; holds = p }) in
        record {
          new = new ++ f.new;
          end = f.end;
          runs = λ rest. ap (λ q. after (m (knows q t)) k') (append_assoc new f.new rest) ∙ ap (λ q. after q k') (runs (f.new ++ rest)) ∙ f.runs rest;
          told = f.told ∙ ap (λ q. q ++ f.new) told ∙ append_assoc (J.told t.mem.own) new f.new;
          ends = ends_later l f.ends;
        }
    seq_at new (Stop w u) (Stop w' v) runs told (stopped e l) next =
        record { new = new; end = Stop w' v; runs = λ rest. ap (λ q. after q k') (runs rest); told = told; ends = stopped e l }
    seq_at new (Go a u) (Stop w' v) runs told h next = elim h [ ]
    seq_at new (Stop w u) (Go b v) runs told h next = elim h [ ]

  -- one action after another
  pub seq : {A B A' B' : Type 0} {P : E.Own → A → B → Type 0} {Q : E.Own → A' → B' → Type 0} {k : A → CSt → CRes A'} {k' : B → ESt → ERes B'} {t : ESt} {r : CRes A} {m : ESt → ERes B} → Follows P t r m → ((a : A) (b : B) (u : CSt) (v : ESt) → Then P t.mem.own a b u v → Follows Q v (k a u) (k' b)) → Follows Q t (after r k) (bind m k')
  seq {k = k} {k' = k'} {t = t} {r = r} {m = m} f next = seq_at k k' t m f.new r f.end f.runs f.told f.ends next

  abbrev pub Equal : {A : Type 0} → E.Own → A → A → Type 0
  Equal o a b = a ≡ b

  abbrev pub Any : {A B : Type 0} → E.Own → A → B → Type 0
  Any o a b = Unit {0}

  -- the same, where both answer the same public thing
  pub seq_same : {A A' B' : Type 0} {Q : E.Own → A' → B' → Type 0} {k : A → CSt → CRes A'} {k' : A → ESt → ERes B'} {t : ESt} {r : CRes A} {m : ESt → ERes A} → Follows (Equal {A = A}) t r m → ((a : A) (u : CSt) (v : ESt) → Even u v → J.Later t.mem.own v.mem.own → Follows Q v (k a u) (k' a)) → Follows Q t (after r k) (bind m k')
  seq_same {Q = Q} {k = k} {k' = k'} f next =
      seq f (λ a b u v h. subst (λ b. Follows Q v (k a u) (k' b)) h.holds (next a u v h.even h.later))

  -- an action that reveals nothing and reads nothing that is known beforehand
  pub alone : {A B : Type 0} {P : E.Own → A → B → Type 0} {t : ESt} {r : CRes A} (m : ESt → ERes B) → ((rest : List ℤ) → m (knows rest t) ≡ knows_after rest (m t)) → J.told (own_at (m t)) ≡ J.told t.mem.own → Ends P t.mem.own r (m t) → Follows P t r m
  alone {t = t} m runs same ends =
      record { new = []; end = m t; runs = runs; told = same ∙ sym (append-nil (J.told t.mem.own)); ends = ends }

  -- an action that does the same from t
  pub like : {A B : Type 0} {P : E.Own → A → B → Type 0} {t : ESt} {r : CRes A} {m : ESt → ERes B} (m0 : ESt → ERes B) → ((l : List ℤ) → m (knows l t) ≡ m0 (knows l t)) → Follows P t r m0 → Follows P t r m
  like m0 same f =
      record { new = f.new; end = f.end; runs = λ l. same (f.new ++ l) ∙ f.runs l; told = f.told; ends = f.ends }

  pub goes : {A B : Type 0} {P : E.Own → A → B → Type 0} {s : CSt} {t : ESt} {a : A} {b : B} → Even s t → P t.mem.own a b → Follows P t (Go a s) (pure b)
  goes {t = t} {b = b} e p = alone (pure b) (λ rest. refl) refl (went e (J.later_refl t.mem.own) p)

  pub halts : {A B : Type 0} {P : E.Own → A → B → Type 0} {s : CSt} {t : ESt} (w : Halt) → Even s t → Follows P t (Stop w s) (λ u. Stop w u)
  halts {t = t} w e = alone (λ u. Stop w u) (λ rest. refl) refl (stopped e (J.later_refl t.mem.own))

  pub chooses : {A B : Type 0} {P : E.Own → A → B → Type 0} {s : CSt} {t : ESt} (b : Bool) (m m0 : CSt → CRes A) (k k0 : ESt → ERes B) → Follows P t (m s) k → Follows P t (m0 s) k0 → Follows P t (choose b m m0 s) (choose b k k0)
  chooses true m m0 k k0 f g = f
  chooses false m m0 k k0 f g = g

  -- the other action where a test fails, at which both stop alike
  pub where_so : {A B : Type 0} {P : E.Own → A → B → Type 0} {s : CSt} {t : ESt} (b : Bool) (p : Spot) (m : CSt → CRes A) (k : ESt → ERes B) → Even s t → (b ≡ true → Follows P t (m s) k) → Follows P t (choose b m (odd p) s) (choose b k (odd p))
  where_so true p m k e f = f refl
  where_so false p m k e f = halts (Odd p) e

  -- actions on the memory alone
  stilled_again : {H O T : Type 0} (s : State H O) (m : Mem H O) (r : Res (Mem H O) T) → stilled (record s { mem = m }) r ≡ stilled s r
  stilled_again s m (Go a n) = refl
  stilled_again s m (Stop w n) = refl

  still_after : {H O T T' : Type 0} (s : State H O) (r : Res (Mem H O) T) (k : T → Mem H O → Res (Mem H O) T') → after (stilled s r) (λ a. still (k a)) ≡ stilled s (after r k)
  still_after s (Go a m) k = stilled_again s m (k a m)
  still_after s (Stop w m) k = refl

  abbrev pub CAct : Type 0 → Type 0
  CAct T = M C → Res (M C) T

  abbrev pub EAct : Type 0 → Type 0
  EAct T = M E → Res (M E) T

  -- the same of two actions on the memory alone, from the memories of s and t
  pub record Stays {A B : Type 0} (P : E.Own → A → B → Type 0) (s : CSt) (t : ESt) (m : CAct A) (k : EAct B) : Type 0 where
    pub so : Follows P t (still m s) (still k)

  -- one action on the memory after another
  pub seqs : {A B A' B' : Type 0} {P : E.Own → A → B → Type 0} {Q : E.Own → A' → B' → Type 0} {k : A → CAct A'} {k' : B → EAct B'} {s : CSt} {t : ESt} {m : CAct A} {m' : EAct B} → Stays P s t m m' → ((a : A) (b : B) (u : CSt) (v : ESt) → Then P t.mem.own a b u v → Stays Q u v (k a) (k' b)) → Stays Q s t (bind m k) (bind m' k')
  seqs {Q = Q} {k = k} {k' = k'} {s = s} {t = t} {m = m} {m' = m'} f next =
      record {
        so = subst (λ q. Follows Q t q (still (bind m' k'))) (still_after s (m s.mem) k)
            (like (bind (still m') (λ b. still (k' b))) (λ l. sym (still_after (knows l t) (m' (knows l t).mem) k')) (seq {k = λ a. still (k a)} {k' = λ b. still (k' b)} f.so (λ a b u v h. (next a b u v h).so)));
      }

  pub seqs_same : {A A' B' : Type 0} {Q : E.Own → A' → B' → Type 0} {k : A → CAct A'} {k' : A → EAct B'} {s : CSt} {t : ESt} {m : CAct A} {m' : EAct A} → Stays (Equal {A = A}) s t m m' → ((a : A) (u : CSt) (v : ESt) → Even u v → J.Later t.mem.own v.mem.own → Stays Q u v (k a) (k' a)) → Stays Q s t (bind m k) (bind m' k')
  seqs_same {Q = Q} {k = k} {k' = k'} f next =
      seqs f (λ a b u v h. subst (λ b. Stays Q u v (k a) (k' b)) h.holds (next a u v h.even h.later))

  -- an action on the memory that reveals nothing and reads nothing that is known beforehand
  stays : {A B : Type 0} {P : E.Own → A → B → Type 0} {s : CSt} {t : ESt} (m : CAct A) (k : EAct B) → ((rest : List ℤ) → still k (knows rest t) ≡ knows_after rest (still k t)) → J.told (own_at (still k t)) ≡ J.told t.mem.own → Ends P t.mem.own (still m s) (still k t) → Stays P s t m k
  stays m k runs same ends = record { so = alone (still k) runs same ends }

  module _ {s : CSt} {t : ESt} (e : Even s t) where
    gives_so : {A B : Type 0} {P : E.Own → A → B → Type 0} {a : A} {b : B} → P t.mem.own a b → Stays P s t (pure a) (pure b)
    gives_so {a = a} {b = b} p =
        stays (pure a) (pure b) (λ l. refl) refl (went (record { blocks = e.blocks; dealt = e.dealt; entered = e.entered; steps = e.steps; own = e.own }) (J.later_refl t.mem.own) p)

    stops : {A B : Type 0} {P : E.Own → A → B → Type 0} (w : Halt) → Stays P s t (λ m. Stop w m) (λ m. Stop w m)
    stops w =
        stays (λ m. Stop w m) (λ m. Stop w m) (λ l. refl) refl (stopped (record { blocks = e.blocks; dealt = e.dealt; entered = e.entered; steps = e.steps; own = e.own }) (J.later_refl t.mem.own))

    -- where a test fails, both stop alike
    checked : {A B : Type 0} {P : E.Own → A → B → Type 0} (b : Bool) (p : Spot) (m : CAct A) (k : EAct B) → (b ≡ true → Stays P s t m k) → Stays P s t (choose b m (odd p)) (choose b k (odd p))
    checked true p m k f = f refl
    checked false p m k f = stops (Odd p)

    -- either of two actions
    picked : {A B : Type 0} {P : E.Own → A → B → Type 0} (b : Bool) (m m0 : CAct A) (k k0 : EAct B) → Stays P s t m k → Stays P s t m0 k0 → Stays P s t (choose b m m0) (choose b k k0)
    picked true m m0 k k0 f g = f
    picked false m m0 k k0 f g = g

    -- the states of two domains after one of their operations
    owns : {A B : Type 0} {P : E.Own → A → B → Type 0} (f : C.Own → A × C.Own) (g : E.Own → B × E.Own) → Did J.Own J.Later J.told P t.mem.own (f s.mem.own) (g t.mem.own) → Stays P s t (own f) (own g)
    owns f g d =
        stays (own f) (own g) (λ l. refl) d.quiet (went (record { blocks = memory_later (λ k x y h. J.held_later d.later h) e.blocks; dealt = e.dealt; entered = e.entered; steps = e.steps; own = d.own_after }) d.later d.answers)

    -- an answer of memory, or its trap
    answereds : {A B : Type 0} {P : E.Own → A → B → Type 0} (p : Spot) {x : Result A TrapKind} {y : Result B TrapKind} → SameAnswer (P t.mem.own) x y → Stays P s t (answered p x) (answered p y)
    answereds p (answers h) = gives_so h
    answereds p (traps {t = k}) = stops (Ended (Trap k p))

    loads_same : (p : Spot) (at : Address) (leaf : CType) → Stays (λ o. SameValue (J.Held o) (kind_of leaf)) s t (loads p at leaf) (loads p at leaf)
    loads_same p at leaf =
        record { so = like (still (answered p (load t.mem.blocks at leaf))) (λ l. refl) (answereds {P = λ o. SameValue (J.Held o) (kind_of leaf)} p (load_same e.blocks at leaf)).so }

    -- what follows new blocks, or their trap
    kept : {A B : Type 0} {P : E.Own → A → B → Type 0} (p : Spot) {x : Result (List (Block C.Hidden)) TrapKind} {y : Result (List (Block E.Hidden)) TrapKind} (a : A) (b : B) → SameAnswer (SameMemory (J.Held t.mem.own)) x y → P t.mem.own a b → Stays P s t (λ m. after (answered p x m) (λ bs. bind (keeps bs) (λ _. pure a))) (λ m. after (answered p y m) (λ bs. bind (keeps bs) (λ _. pure b)))
    kept p {x = Ok ks} {y = Ok bs} a b (answers h) q =
        stays (λ m. Go a (record m { blocks = ks })) (λ m. Go b (record m { blocks = bs })) (λ l. refl) refl (went (record { blocks = h; dealt = e.dealt; entered = e.entered; steps = e.steps; own = e.own }) (J.later_refl t.mem.own) q)
    kept p a b (traps {t = k}) q = stops (Ended (Trap k p))

    stores_same : (p : Spot) (at : Address) (leaf : CType) {v : CellValue C.Hidden} {w : CellValue E.Hidden} → SameValue (J.Held t.mem.own) (kind_of leaf) v w → Stays Any s t (stores p at leaf v) (stores p at leaf w)
    stores_same p at leaf {v} {w} h =
        record { so = like (still (λ m. after (answered p (store t.mem.blocks at leaf w) m) (λ bs. bind (keeps bs) (λ _. pure (tt {0}))))) (λ l. stored_alike l (store t.mem.blocks at leaf w)) (subst (λ r. Follows Any t (stilled s r) (still (λ m. after (answered p (store t.mem.blocks at leaf w) m) (λ bs. bind (keeps bs) (λ _. pure (tt {0})))))) (stored_here (store s.mem.blocks at leaf v)) (kept {P = Any} p (tt {0}) (tt {0}) (store_same e.blocks at leaf h) (tt {0})).so) }
      where
        stored_alike : (l : List ℤ) (y : Result (List (Block E.Hidden)) TrapKind) → still (λ m. after (answered p y m) keeps) (knows l t) ≡ still (λ m. after (answered p y m) (λ bs. bind (keeps bs) (λ _. pure (tt {0})))) (knows l t)
        stored_alike l (Ok bs) = refl
        stored_alike l (Err k) = refl

        stored_here : (y : Result (List (Block C.Hidden)) TrapKind) → after (answered p y s.mem) (λ bs. bind (keeps bs) (λ _. pure (tt {0}))) ≡ after (answered p y s.mem) keeps
        stored_here (Ok bs) = refl
        stored_here (Err k) = refl

    makes_same : (p : Spot) (allocated : Bool) (ls : List CType) (n : ℤ) → Stays Equal s t (makes (nought C) p allocated ls n) (makes (nought E) p allocated ls n)
    makes_same p allocated ls n =
        record { so = like (still (λ m. after (answered p (make_copies (nought E) 65536 allocated t.mem.blocks ls n) m) (λ bs. bind (keeps bs) (λ _. pure (length t.mem.blocks))))) (λ l. refl) (kept {P = Equal} p (length s.mem.blocks) (length t.mem.blocks) (make_copies_same (nought C) (nought E) (λ k. J.known t.mem.own k (pos 0) (zero_fits k)) 65536 allocated e.blocks ls n) (length_same e.blocks)).so }

    frees_same : (p : Spot) {v : V C} {w : V E} → SameVal t.mem.own v w → Stays SameVal s t (frees C p v) (frees E p w)
    frees_same p (pointers {a = a}) =
        record { so = like (still (λ m. after (answered p (free t.mem.blocks a) m) (λ bs. bind (keeps bs) (λ _. pure Nothing)))) (λ l. refl) (kept {P = SameVal} p Nothing Nothing (free_same e.blocks a) nothings).so }
    frees_same p ints = stops (Odd p)
    frees_same p (hids h) = stops (Odd p)
    frees_same p nothings = stops (Odd p)

    moves_same : (p : Spot) (size : ℕ) (back : Bool) {v y : V C} {w z : V E} → SameVal t.mem.own v w → SameVal t.mem.own y z → Stays Equal s t (moves C p size back v y) (moves E p size back w z)
    moves_same p size back (pointers {a = a}) (ints {k = k} {n = n}) =
        record { so = like (still (choose (is_of_kind k n) (answered p (offset t.mem.blocks a (signed_by back n) size)) (odd p))) (λ l. refl) (checked {P = Equal} (is_of_kind k n) p (answered p (offset s.mem.blocks a (signed_by back n) size)) (answered p (offset t.mem.blocks a (signed_by back n) size)) (λ _. answereds p (offset_same e.blocks a (signed_by back n) size))).so }
    moves_same p size back pointers pointers = stops (Odd p)
    moves_same p size back pointers (hids h) = stops (Odd p)
    moves_same p size back pointers nothings = stops (Odd p)
    moves_same p size back ints z = stops (Odd p)
    moves_same p size back (hids h) z = stops (Odd p)
    moves_same p size back nothings z = stops (Odd p)

    checks_same : (p : Spot) (to from : Address) (ls : List CType) → Stays Any s t (checks_copy C p to from ls) (checks_copy E p to from ls)
    checks_same p to from ls =
        record { so = like (still (answered p (then (loadable t.mem.blocks from ls) (λ _. all_storable t.mem.blocks to ls)))) (λ l. refl) (answereds {P = Any} p (then_same (loadable_same e.blocks from ls) (λ _ _ _. all_storable_same e.blocks to ls))).so }

    values_same : (p : Spot) (u : CType) {v : CellValue C.Hidden} {w : CellValue E.Hidden} → SameValue (J.Held t.mem.own) (kind_of u) v w → Stays SameVal s t (valued C p u v) (valued E p u w)
    values_same p (CInt k false) cell_ints = gives_so ints
    values_same p (CInt k false) cell_pointers = stops (Odd p)
    values_same p (CInt k false) (cell_hiddens h) = stops (Odd p)
    values_same p (CInt k true) cell_ints = stops (Odd p)
    values_same p (CInt k true) cell_pointers = stops (Odd p)
    values_same p (CInt k true) (cell_hiddens h) = gives_so (hids h)
    values_same p (CPointer' f u t) cell_ints = stops (Odd p)
    values_same p (CPointer' f u t) cell_pointers = gives_so pointers
    values_same p (CPointer' f u t) (cell_hiddens h) = stops (Odd p)
    values_same p (CArray' n u t) h = stops (Odd p)
    values_same p (CStruct n) h = stops (Odd p)
    values_same p CNothing h = stops (Odd p)

    follows_same : (p : Spot) {v : V C} {w : V E} → SameVal t.mem.own v w → Stays Equal s t (follows C p v) (follows E p w)
    follows_same p (pointers {a = Null}) = stops (Ended (Trap M3 p))
    follows_same p (pointers {a = At b i}) = gives_so refl
    follows_same p ints = stops (Odd p)
    follows_same p (hids h) = stops (Odd p)
    follows_same p nothings = stops (Odd p)

    addressed_same : (p : Spot) {v : V C} {w : V E} → SameVal t.mem.own v w → Stays Equal s t (addressed C p v) (addressed E p w)
    addressed_same p pointers = gives_so refl
    addressed_same p ints = stops (Odd p)
    addressed_same p (hids h) = stops (Odd p)
    addressed_same p nothings = stops (Odd p)

    places_same : (p : Spot) (negated : Bool) {v y : V C} {w z : V E} → SameVal t.mem.own v w → SameVal t.mem.own y z → Stays SameVal s t (same_places C p negated v y) (same_places E p negated w z)
    places_same p negated pointers pointers = gives_so ints
    places_same p negated pointers ints = stops (Odd p)
    places_same p negated pointers (hids h) = stops (Odd p)
    places_same p negated pointers nothings = stops (Odd p)
    places_same p negated ints z = stops (Odd p)
    places_same p negated (hids h) z = stops (Odd p)
    places_same p negated nothings z = stops (Odd p)

    tests_same : (p : Spot) {v : V C} {w : V E} → SameVal t.mem.own v w → Stays Equal s t (tests C p v) (tests E p w)
    tests_same p ints = gives_so refl
    tests_same p pointers = stops (Odd p)
    tests_same p (hids h) = stops (Odd p)
    tests_same p nothings = stops (Odd p)

    -- a hidden value of this kind, where the kinds are tested
    at_kind : (k l : IntKind) {x : C.Hidden} {y : E.Hidden} → J.Held t.mem.own l x y → same_kind k l ≡ true → J.Held t.mem.own k x y
    at_kind k l {x} {y} h q = subst (λ i. J.Held t.mem.own i x y) (sym (kind_is k l q)) h

    condition_same : (p : Spot) {v : V C} {w : V E} → SameVal t.mem.own v w → Stays (λ o. J.Held o KBool) s t (condition C p v) (condition E p w)
    condition_same p (hids {k = k} {x = x} {y = y} h) =
        checked (same_kind KBool k) p (pure x) (pure y) (λ q. gives_so {P = λ o. J.Held o KBool} (at_kind KBool k h q))
    condition_same p ints = stops (Odd p)
    condition_same p pointers = stops (Odd p)
    condition_same p nothings = stops (Odd p)

    -- what fits a cell stands in it as the other does
    fits_alike : (u : CType) {v : V C} {w : V E} → SameVal t.mem.own v w → fits_leaf C u v ≡ fits_leaf E u w
    fits_alike (CInt k false) ints = refl
    fits_alike (CInt k false) pointers = refl
    fits_alike (CInt k false) (hids h) = refl
    fits_alike (CInt k false) nothings = refl
    fits_alike (CInt k true) ints = refl
    fits_alike (CInt k true) pointers = refl
    fits_alike (CInt k true) (hids h) = refl
    fits_alike (CInt k true) nothings = refl
    fits_alike (CPointer' f u t) ints = refl
    fits_alike (CPointer' f u t) pointers = refl
    fits_alike (CPointer' f u t) (hids h) = refl
    fits_alike (CPointer' f u t) nothings = refl
    fits_alike (CArray' n u t) h = refl
    fits_alike (CStruct n) h = refl
    fits_alike CNothing h = refl

    cells_of : (u : CType) {v : V C} {w : V E} → SameVal t.mem.own v w → fits_leaf C u v ≡ true → SameValue (J.Held t.mem.own) (kind_of u) (cell_of C v) (cell_of E w)
    cells_of u ints q = cell_ints
    cells_of u pointers q = cell_pointers
    cells_of u nothings q = cell_pointers
    cells_of (CInt k true) (hids {k = l} h) q = cell_hiddens (at_kind k l h q)
    cells_of (CInt k false) (hids h) q = absurd (false≢true q)
    cells_of (CPointer' f u t) (hids h) q = absurd (false≢true q)
    cells_of (CArray' n u t) (hids h) q = absurd (false≢true q)
    cells_of (CStruct n) (hids h) q = absurd (false≢true q)
    cells_of CNothing (hids h) q = absurd (false≢true q)

  -- actions on the memory, one after another
  puts_same : {s : CSt} {t : ESt} (p : Spot) (u : CType) (a : Address) {v : V C} {w : V E} → Even s t → SameVal t.mem.own v w → Stays SameVal s t (puts C p u a v) (puts E p u a w)
  puts_same {s} {t} p u a {v} {w} e h =
      subst (λ b. Stays SameVal s t (puts C p u a v) (choose b (bind (stores p a u (cell_of E w)) (λ _. pure w)) (odd p))) (fits_alike e u h)
      (checked e (fits_leaf C u v) p (bind (stores p a u (cell_of C v)) (λ _. pure v)) (bind (stores p a u (cell_of E w)) (λ _. pure w)) (λ q. seqs (stores_same e p a u (cells_of e u h q)) (λ _ _ _ _ k. gives_so k.even (val_later k.later h))))

  reads_same : {s : CSt} {t : ESt} (p : Spot) (u : CType) (a : Address) → Even s t → Stays SameVal s t (reads C p u a) (reads E p u a)
  reads_same p u a e = seqs (loads_same e p a u) (λ _ _ _ _ k. values_same k.even p u k.holds)

  hidden_of_same : {s : CSt} {t : ESt} (k : IntKind) (f : C.Own → C.Hidden × C.Own) (g : E.Own → E.Hidden × E.Own) → Even s t → Did J.Own J.Later J.told (λ o. J.Held o k) t.mem.own (f s.mem.own) (g t.mem.own) → Stays SameVal s t (hidden_of C k f) (hidden_of E k g)
  hidden_of_same k f g e d = seqs (owns e f g d) (λ _ _ _ _ z. gives_so z.even (hids z.holds))

  picks_same : {s : CSt} {t : ESt} {en : C.Enable} {en' : E.Enable} {x : C.Hidden} {x' : E.Hidden} (p : Spot) (k : IntKind) (a : Address) {v : CellValue C.Hidden} {w : CellValue E.Hidden} → Even s t → J.Same t.mem.own en en' → J.Held t.mem.own k x x' → SameValue (J.Held t.mem.own) k v w → Stays SameVal s t (picks C p en k a x v) (picks E p en' k a x' w)
  picks_same {en = en} {en' = en'} {x = x} {x' = x'} p k a e n h (cell_hiddens {x = y} {y = y'} g) =
      seqs (owns e (C.pick k en x y) (E.pick k en' x' y') (J.pick k e.own n h g)) (λ _ _ _ _ z. seqs (stores_same z.even p a (CInt k true) (cell_hiddens z.holds)) (λ _ _ _ _ i. gives_so i.even (hids (J.held_later i.later z.holds))))
  picks_same p k a e n h cell_ints = stops e (Odd p)
  picks_same p k a e n h cell_pointers = stops e (Odd p)

  writes_hidden_same : {s : CSt} {t : ESt} {en : C.Enable} {en' : E.Enable} (p : Spot) (k : IntKind) (a : Address) {v : V C} {w : V E} → Even s t → J.Same t.mem.own en en' → SameVal t.mem.own v w → Stays SameVal s t (writes_hidden C p en k a v) (writes_hidden E p en' k a w)
  writes_hidden_same {en = en} {en' = en'} p k a e n (hids {k = l} {x = x} {y = x'} h) =
      checked e (same_kind k l) p (bind (loads p a (CInt k true)) (picks C p en k a x)) (bind (loads p a (CInt k true)) (picks E p en' k a x')) (λ q. seqs (loads_same e p a (CInt k true)) (λ _ _ _ _ z. picks_same p k a z.even (J.same_later z.later n) (J.held_later z.later (at_kind e k l h q)) z.holds))
  writes_hidden_same p k a e n ints = stops e (Odd p)
  writes_hidden_same p k a e n pointers = stops e (Odd p)
  writes_hidden_same p k a e n nothings = stops e (Odd p)

  writes_same : {s : CSt} {t : ESt} {en : C.Enable} {en' : E.Enable} (p : Spot) (u : CType) (a : Address) {v : V C} {w : V E} → Even s t → J.Same t.mem.own en en' → SameVal t.mem.own v w → Stays SameVal s t (writes C p en u a v) (writes E p en' u a w)
  writes_same {en = en} {en' = en'} p u a {v} {w} e n h =
      picked e (is_hidden u) (writes_hidden C p en (kind_of u) a v) (puts C p u a v) (writes_hidden E p en' (kind_of u) a w) (puts E p u a w) (writes_hidden_same p (kind_of u) a e n h) (puts_same p u a e h)

  gets_same : {s : CSt} {t : ESt} (p : Spot) (u : CType) {g : Goal C.Hidden} {g' : Goal E.Hidden} → Even s t → SameGoal t.mem.own g g' → Stays SameVal s t (gets C p u g) (gets E p u g')
  gets_same p u e (onlys {a = a}) = reads_same p u a e

  fetches_same : {s : CSt} {t : ESt} (p : Spot) (u : CType) {g : Goal C.Hidden} {g' : Goal E.Hidden} → Even s t → SameGoal t.mem.own g g' → Stays SameVal s t (fetches C p u g) (fetches E p u g')
  fetches_same p u e (onlys {a = a}) = picked e (is_struct u) (pure (Pointer a)) (reads C p u a) (pure (Pointer a)) (reads E p u a) (gives_so e pointers) (reads_same p u a e)

  sets_same : {s : CSt} {t : ESt} {en : C.Enable} {en' : E.Enable} (p : Spot) (u : CType) {g : Goal C.Hidden} {g' : Goal E.Hidden} {v : V C} {w : V E} → Even s t → J.Same t.mem.own en en' → SameGoal t.mem.own g g' → SameVal t.mem.own v w → Stays SameVal s t (sets C p en u g v) (sets E p en' u g' w)
  sets_same p u e m (onlys {a = a}) h = writes_same p u a e m h

  publicly_one_same : {s : CSt} {t : ESt} (p : Spot) (op : OneOp) (k : IntKind) {v : V C} {w : V E} → Even s t → SameVal t.mem.own v w → Stays SameVal s t (publicly_one C p op k v) (publicly_one E p op k w)
  publicly_one_same p op k e (ints {k = l} {n = n}) =
      checked e (same_kind k l) p (pure (Int (one_kind op k) (operate_one op k n))) (pure (Int (one_kind op k) (operate_one op k n))) (λ _. gives_so e ints)
  publicly_one_same p op k e pointers = stops e (Odd p)
  publicly_one_same p op k e (hids h) = stops e (Odd p)
  publicly_one_same p op k e nothings = stops e (Odd p)

  hiddenly_one_same : {s : CSt} {t : ESt} (p : Spot) (op : OneOp) (k : IntKind) {v : V C} {w : V E} → Even s t → SameVal t.mem.own v w → Stays SameVal s t (hiddenly_one C p op k v) (hiddenly_one E p op k w)
  hiddenly_one_same p op k e (hids {k = l} {x = x} {y = y} h) =
      checked e (same_kind k l) p (hidden_of C k (C.one op k x)) (hidden_of E k (E.one op k y)) (λ q. hidden_of_same k (C.one op k x) (E.one op k y) e (J.one op k e.own (at_kind e k l h q)))
  hiddenly_one_same p op k e ints = stops e (Odd p)
  hiddenly_one_same p op k e pointers = stops e (Odd p)
  hiddenly_one_same p op k e nothings = stops e (Odd p)

  unaries_same : {s : CSt} {t : ESt} (p : Spot) (op : OneOp) (k : IntKind) (hidden : Bool) {v : V C} {w : V E} → Even s t → SameVal t.mem.own v w → Stays SameVal s t (unaries C p op k hidden v) (unaries E p op k hidden w)
  unaries_same p op k hidden {v} {w} e h =
      picked e hidden (hiddenly_one C p op k v) (publicly_one C p op k v) (hiddenly_one E p op k w) (publicly_one E p op k w) (hiddenly_one_same p op k e h) (publicly_one_same p op k e h)

  divided_same : {s : CSt} {t : ESt} (p : Spot) (k : IntKind) (r : Result ℤ ZeroDivisor) → Even s t → Stays SameVal s t (divided C p k r) (divided E p k r)
  divided_same p k (Ok n) e = gives_so e ints
  divided_same p k (Err z) e = stops e (Ended (Trap Z1 p))

  publicly_same : {s : CSt} {t : ESt} (p : Spot) (op : BinaryOp) (k : IntKind) {v y : V C} {w z : V E} → Even s t → SameVal t.mem.own v w → SameVal t.mem.own y z → Stays SameVal s t (publicly C p op k v y) (publicly E p op k w z)
  publicly_same p op k e (ints {k = l} {n = x}) (ints {k = m} {n = y}) =
      checked e (same_kind k l && (is_shift op || same_kind k m)) p (divided C p (kind_of_result op k) (operate_public op k x y)) (divided E p (kind_of_result op k) (operate_public op k x y)) (λ _. divided_same p (kind_of_result op k) (operate_public op k x y) e)
  publicly_same p op k e ints pointers = stops e (Odd p)
  publicly_same p op k e ints (hids h) = stops e (Odd p)
  publicly_same p op k e ints nothings = stops e (Odd p)
  publicly_same p op k e pointers h = stops e (Odd p)
  publicly_same p op k e (hids g) h = stops e (Odd p)
  publicly_same p op k e nothings h = stops e (Odd p)

  hiddenly_same : {s : CSt} {t : ESt} (p : Spot) (op : BinaryOp) (k : IntKind) {v y : V C} {w z : V E} → Even s t → SameVal t.mem.own v w → SameVal t.mem.own y z → Stays SameVal s t (hiddenly C p op k v y) (hiddenly E p op k w z)
  hiddenly_same p op k e (hids {k = l} {x = x} {y = x'} g) (hids {k = m} {x = y} {y = y'} h) =
      checked e (same_kind k l && (is_shift op || same_kind k m)) p (hidden_of C (result_kind op k) (C.binary op k x y)) (hidden_of E (result_kind op k) (E.binary op k x' y')) (λ q. hidden_of_same (result_kind op k) (C.binary op k x y) (E.binary op k x' y') e (J.binary op k (and_right (same_kind k l) (is_shift op || same_kind k m) q) e.own (at_kind e k l g (and_left (same_kind k l) (is_shift op || same_kind k m) q)) h))
  hiddenly_same p op k e (hids {k = l} {x = x} {y = x'} g) (ints {k = m} {n = n}) =
      checked e (same_kind k l && is_shift op) p (hidden_of C k (C.shift op k x n)) (hidden_of E k (E.shift op k x' n)) (λ q. hidden_of_same k (C.shift op k x n) (E.shift op k x' n) e (J.shift op k n e.own (at_kind e k l g (and_left (same_kind k l) (is_shift op) q))))
  hiddenly_same p op k e (hids g) pointers = stops e (Odd p)
  hiddenly_same p op k e (hids g) nothings = stops e (Odd p)
  hiddenly_same p op k e ints h = stops e (Odd p)
  hiddenly_same p op k e pointers h = stops e (Odd p)
  hiddenly_same p op k e nothings h = stops e (Odd p)

  operates_same : {s : CSt} {t : ESt} (p : Spot) (op : BinaryOp) (k : IntKind) (hidden : Bool) {v y : V C} {w z : V E} → Even s t → SameVal t.mem.own v w → SameVal t.mem.own y z → Stays SameVal s t (operates C p op k hidden v y) (operates E p op k hidden w z)
  operates_same p op k hidden {v} {y} {w} {z} e g h =
      picked e hidden (hiddenly C p op k v y) (publicly C p op k v y) (hiddenly E p op k w z) (publicly E p op k w z) (hiddenly_same p op k e g h) (publicly_same p op k e g h)

  lifted_same : {o : E.Own} (to : IntKind) (lift : Bool) (n : ℤ) → IsOfKind to n → SameVal o (lifted C to lift n) (lifted E to lift n)
  lifted_same {o} to true n h = hids (J.known o to n h)
  lifted_same to false n h = ints

  turns_same : {s : CSt} {t : ESt} (p : Spot) (from to : IntKind) (lift : Bool) {v : V C} {w : V E} → Even s t → SameVal t.mem.own v w → Stays SameVal s t (turns C p from to lift v) (turns E p from to lift w)
  turns_same p from to lift e (ints {k = l} {n = n}) =
      checked e (same_kind from l) p (pure (lifted C to lift (convert n to))) (pure (lifted E to lift (convert n to))) (λ _. gives_so e (lifted_same to lift (convert n to) (convert_fits n to)))
  turns_same p from to lift e (hids {k = l} {x = x} {y = y} h) =
      checked e (same_kind from l) p (hidden_of C to (C.turn from to x)) (hidden_of E to (E.turn from to y)) (λ q. hidden_of_same to (C.turn from to x) (E.turn from to y) e (J.turn from to e.own (at_kind e from l h q)))
  turns_same p from to lift e pointers = stops e (Odd p)
  turns_same p from to lift e nothings = stops e (Odd p)

  starts_copy_same : {s : CSt} {t : ESt} (p : Spot) (ls : List CType) (a : Address) {v : V C} {w : V E} → Even s t → SameVal t.mem.own v w → Stays Equal s t (starts_copy C p ls a v) (starts_copy E p ls a w)
  starts_copy_same p ls a {v} {w} e h =
      checked e (has_size ls) p (bind (addressed C p v) (λ b. bind (checks_copy C p a b ls) (λ _. pure b))) (bind (addressed E p w) (λ b. bind (checks_copy E p a b ls) (λ _. pure b))) (λ _. seqs_same (addressed_same e p h) (λ b _ _ f _. seqs (checks_same f p a b ls) (λ _ _ _ _ k. gives_so k.even refl)))

  copied_same : (p : Spot) (ls : List CType) (to from : Address) {s : CSt} {t : ESt} {en : C.Enable} {en' : E.Enable} → Even s t → J.Same t.mem.own en en' → Stays Any s t (copies_all C p en ls to from) (copies_all E p en' ls to from)
  copied_same p [] to from e n = gives_so e (tt {0})
  copied_same p (l ∷ ls) to from e n =
      seqs (seqs (reads_same p l from e) (λ _ _ _ _ h. writes_same p l to h.even (J.same_later h.later n) h.holds)) (λ _ _ _ _ k. copied_same p ls (ahead 1 to) (ahead 1 from) k.even (J.same_later k.later n))

  allocates_same : {s : CSt} {t : ESt} (p : Spot) (lss : List (List CType)) (u : CType) {v : V C} {w : V E} → Even s t → SameVal t.mem.own v w → Stays SameVal s t (allocates C p lss u v) (allocates E p lss u w)
  allocates_same p lss u e (ints {n = n}) =
      checked e (has_size (leaves lss u)) p (bind (makes (nought C) p true (leaves lss u) n) (λ b. pure (Pointer (At b 0)))) (bind (makes (nought E) p true (leaves lss u) n) (λ b. pure (Pointer (At b 0)))) (λ _. seqs_same (makes_same e p true (leaves lss u) n) (λ b _ _ f _. gives_so f pointers))
  allocates_same p lss u e pointers = stops e (Odd p)
  allocates_same p lss u e (hids h) = stops e (Odd p)
  allocates_same p lss u e nothings = stops e (Odd p)

  transfers_same : {s : CSt} {t : ESt} (n : ℕ) → Even s t → Stays Any s t (transfers n) (transfers n)
  transfers_same {s} {t} n e =
      record { so = like (still (pays (nat_le n t.mem.dealt) n)) (λ l. refl) (subst (λ d. Follows Any t (still (pays (nat_le n d) n) s) (still (pays (nat_le n t.mem.dealt) n))) (sym e.dealt) (paid (nat_le n t.mem.dealt))) }
    where
      paid : (b : Bool) → Follows Any t (still (pays b n) s) (still (pays b n))
      paid true =
          (stays {P = Any} (pays true n) (pays true n) (λ l. refl) refl (went (record { blocks = e.blocks; dealt = ap (λ d. d - n) e.dealt; entered = e.entered; steps = e.steps; own = e.own }) (J.later_refl t.mem.own) (tt {0}))).so
      paid false = (stops e {P = Any} (Ended DealtSpent)).so

  counted_same : {s : CSt} {t : ESt} (q : Spot) (b : Bool) (party : ℕ) (k : IntKind) (i : ℕ) → Even s t → Stays SameVal s t (counted C q b party k i) (counted E q b party k i)
  counted_same q true party k i e =
      seqs (transfers_same (cost party k) e) (λ _ _ _ _ h. hidden_of_same k (C.feed party k i) (E.feed party k i) h.even (J.feed party k i h.even.own))
  counted_same q false party k i e = stops e (Ended (Trap I1 q))

  word_same : {s : CSt} {t : ESt} (known : Known) (q : Spot) (party : ℕ) (k : IntKind) {v : V C} {w : V E} → Even s t → SameVal t.mem.own v w → Stays SameVal s t (word C known q party k v) (word E known q party k w)
  word_same known q party k e (ints {n = pos i}) = counted_same q (nat_lt i (count_of known party)) party k i e
  word_same known q party k e (ints {n = negsuc i}) = stops e (Ended (Trap I1 q))
  word_same known q party k e pointers = stops e (Odd q)
  word_same known q party k e (hids h) = stops e (Odd q)
  word_same known q party k e nothings = stops e (Odd q)

  feeds_same : {s : CSt} {t : ESt} (known : Known) (p : Spot) (c : Source) (party : ℕ) (k : IntKind) {v : V C} {w : V E} → Even s t → SameVal t.mem.own v w → Stays SameVal s t (feeds C known p c party k v) (feeds E known p c party k w)
  feeds_same known p (Word q) party k e h = word_same known q party k e h
  feeds_same known p Public party k e h = gives_so e h

  shows_revealed : {s : CSt} {t : ESt} {x : C.Hidden} {y : E.Hidden} (k : IntKind) → Even s t → J.Held t.mem.own k x y → Stays SameVal s t (bind (answer k (C.knows k x)) (λ n. bind (own {A = Unit {0}} (λ o. (tt {0}, C.reveal k x n o))) (λ _. pure (Int k n)))) (bind (answer k (E.knows k y)) (λ n. bind (own {A = Unit {0}} (λ o. (tt {0}, E.reveal k y n o))) (λ _. pure (Int k n))))
  shows_revealed {s} {t} {x} {y} k e h =
      let g = J.reveal k e.own h in
      record {
        so = record {
          new = g.value ∷ [];
          end = Go (Int k g.value) (record t { mem = record t.mem { taken = t.mem.taken + 1; own = E.reveal k y g.value t.mem.own } });
          runs = λ rest. ap (λ o. still (bind (answer k o) (λ n. bind (own {A = Unit {0}} (λ o. (tt {0}, E.reveal k y n o))) (λ _. pure (Int k n)))) (knows (g.value ∷ rest) t)) g.unknown ∙ ap (λ z. Go (Int k z) (record t { mem = record t.mem { answers = rest; taken = t.mem.taken + 1; own = E.reveal k y z t.mem.own } })) g.of_kind;
          told = g.tells;
          ends = subst (λ r. Ends SameVal t.mem.own r (Go (Int k g.value) (record t { mem = record t.mem { taken = t.mem.taken + 1; own = E.reveal k y g.value t.mem.own } }))) (sym (ap (λ o. still (bind (answer k o) (λ n. bind (own {A = Unit {0}} (λ o. (tt {0}, C.reveal k x n o))) (λ _. pure (Int k n)))) s) g.known ∙ ap (λ z. Go (Int k z) (record s { mem = record s.mem { own = C.reveal k x z s.mem.own } })) g.of_kind))
              (went (record { blocks = memory_later (λ k x y h. J.held_later g.later h) e.blocks; dealt = e.dealt; entered = e.entered; steps = e.steps; own = g.own_after }) g.later ints);
        };
      }

  reveals_same : {s : CSt} {t : ESt} (p : Spot) (k : IntKind) {v : V C} {w : V E} → Even s t → SameVal t.mem.own v w → Stays SameVal s t (reveals C p k v) (reveals E p k w)
  reveals_same p k e (hids {k = l} {x = x} {y = y} h) =
      checked e (same_kind k l) p (bind (answer k (C.knows k x)) (λ n. bind (own {A = Unit {0}} (λ o. (tt {0}, C.reveal k x n o))) (λ _. pure (Int k n)))) (bind (answer k (E.knows k y)) (λ n. bind (own {A = Unit {0}} (λ o. (tt {0}, E.reveal k y n o))) (λ _. pure (Int k n)))) (λ q. shows_revealed k e (at_kind e k l h q))
  reveals_same p k e ints = stops e (Odd p)
  reveals_same p k e pointers = stops e (Odd p)
  reveals_same p k e nothings = stops e (Odd p)

  gives_same : {s : CSt} {t : ESt} (p : Spot) (k : IntKind) (party : ℕ) {v : V C} {w : V E} → Even s t → SameVal t.mem.own v w → Stays SameVal s t (gives C p k party v) (gives E p k party w)
  gives_same p k party e (hids {k = l} {x = x} {y = y} h) =
      checked e (same_kind k l) p (bind (own {A = Unit {0}} (λ o. (tt {0}, C.give party k x o))) (λ _. pure Nothing)) (bind (own {A = Unit {0}} (λ o. (tt {0}, E.give party k y o))) (λ _. pure Nothing)) (λ q. seqs (owns e (λ o. (tt {0}, C.give party k x o)) (λ o. (tt {0}, E.give party k y o)) (J.give party k e.own (at_kind e k l h q))) (λ _ _ _ _ z. gives_so z.even nothings))
  gives_same p k party e ints = stops e (Odd p)
  gives_same p k party e pointers = stops e (Odd p)
  gives_same p k party e nothings = stops e (Odd p)

  known_word_same : {s : CSt} {t : ESt} (p : Spot) (o : Option ℤ) → Even s t → Stays SameVal s t (known_word C p o) (known_word E p o)
  known_word_same p (Some n) e = gives_so e ints
  known_word_same p None e = stops e (Ended (Trap I1 p))

  public_word_same : {s : CSt} {t : ESt} (known : Known) (p : Spot) {v : V C} {w : V E} → Even s t → SameVal t.mem.own v w → Stays SameVal s t (public_word C known p v) (public_word E known p w)
  public_word_same known p e (ints {n = pos i}) = known_word_same p (slice_get known.public i) e
  public_word_same known p e (ints {n = negsuc i}) = stops e (Ended (Trap I1 p))
  public_word_same known p e pointers = stops e (Odd p)
  public_word_same known p e (hids h) = stops e (Odd p)
  public_word_same known p e nothings = stops e (Odd p)

  formats : {o : E.Own} (ps : List PrintPiece) {vs : List (V C)} {ws : List (V E)} → SameVals o vs ws → formatted ps vs ≡ formatted ps ws
  formats [] no_vals = refl
  formats [] (more_vals h hs) = refl
  formats (Text bytes ∷ ps) hs = ap (onto bytes) (formats ps hs)
  formats (Decimal k ∷ ps) no_vals = refl
  formats (Decimal k ∷ ps) (more_vals (ints {n = n}) hs) = ap (onto (signed_decimal (convert n k))) (formats ps hs)
  formats (Decimal k ∷ ps) (more_vals pointers hs) = refl
  formats (Decimal k ∷ ps) (more_vals (hids h) hs) = refl
  formats (Decimal k ∷ ps) (more_vals nothings hs) = refl
  formats (Byte ∷ ps) no_vals = refl
  formats (Byte ∷ ps) (more_vals (ints {n = n}) hs) = ap (onto (residue 8 n ∷ [])) (formats ps hs)
  formats (Byte ∷ ps) (more_vals pointers hs) = refl
  formats (Byte ∷ ps) (more_vals (hids h) hs) = refl
  formats (Byte ∷ ps) (more_vals nothings hs) = refl

  printed : {s : CSt} {t : ESt} (p : Spot) (o : Option (List ℕ)) → Even s t → Stays SameVal s t (prints C p o) (prints E p o)
  printed p (Some bytes) e =
      seqs (owns e (λ o. (tt {0}, C.print bytes o)) (λ o. (tt {0}, E.print bytes o)) (J.print bytes e.own)) (λ _ _ _ _ z. gives_so z.even nothings)
  printed p None e = stops e (Odd p)

  prints_same : {s : CSt} {t : ESt} (p : Spot) (ps : List PrintPiece) {vs : List (V C)} {ws : List (V E)} → Even s t → SameVals t.mem.own vs ws → Stays SameVal s t (prints C p (formatted ps vs)) (prints E p (formatted ps ws))
  prints_same {s} {t} p ps {vs} {ws} e hs =
      subst (λ o. Stays SameVal s t (prints C p (formatted ps vs)) (prints E p o)) (formats ps hs) (printed p (formatted ps vs) e)

  -- actions on steps and slots
  steps_same : {s : CSt} {t : ESt} → Even s t → Follows Any t (step s) step
  steps_same {s} {t} e = like (spent t.steps) (λ l. refl) (subst (λ k. Follows Any t (spent s.steps s) (spent k)) e.steps (spends s.steps))
    where
      spends : (k : ℕ) → Follows Any t (spent k s) (spent k)
      spends zero = halts (Ended StepsSpent) e
      spends (suc k) =
          alone (spent (suc k)) (λ l. refl) refl (went (record { blocks = e.blocks; dealt = e.dealt; entered = e.entered; steps = refl; own = e.own }) (J.later_refl t.mem.own) (tt {0}))

  enters_same : {s : CSt} {t : ESt} (n b : ℕ) → Even s t → Follows Any t (enter n b s) (enter n b)
  enters_same {s} {t} n b e =
      alone (enter n b) (λ l. refl) refl (went (record { blocks = e.blocks; dealt = e.dealt; entered = ap (λ es. record { slot = n; block = b } ∷ es) e.entered; steps = e.steps; own = e.own }) (J.later_refl t.mem.own) (tt {0}))

  variables_same : {s : CSt} {t : ESt} (p : Spot) (o : Option ℕ) → Even s t → Follows Equal t (variable C p o s) (variable E p o)
  variables_same p (Some b) e = goes e refl
  variables_same p None e = halts (Odd p) e

  slots_same : {s : CSt} {t : ESt} (p : Spot) (n : ℕ) → Even s t → Follows Equal t (slot C p n s) (slot E p n)
  slots_same {s} {t} p n e =
      like (variable E p (block_of n t.entered)) (λ l. refl) (subst (λ es. Follows Equal t (variable C p (block_of n es) s) (variable E p (block_of n t.entered))) (sym e.entered) (variables_same p (block_of n t.entered) e))

  typed_same : {R R' : Type 0} {P : E.Own → R → R' → Type 0} {s : CSt} {t : ESt} (p : Spot) (o : Option SlotType) (k : SlotType → CSt → CRes R) (k' : SlotType → ESt → ERes R') → Even s t → ((u : SlotType) → Follows P t (k u s) (k' u)) → Follows P t (typed_slot C p o k s) (typed_slot E p o k')
  typed_same p (Some u) k k' e f = f u
  typed_same p None k k' e f = halts (Odd p) e

  opens_same : {s : CSt} {t : ESt} (p : Spot) (lss : List (List CType)) (u : CType) (n : ℕ) → Even s t → Follows Equal t (opens C p lss u n s) (opens E p lss u n)
  opens_same p lss u n e =
      where_so (has_size (leaves lss u)) p (bind (still (makes (nought C) p false (leaves lss u) (pos 1))) (λ b. bind (enter n b) (λ _. pure b))) (bind (still (makes (nought E) p false (leaves lss u) (pos 1))) (λ b. bind (enter n b) (λ _. pure b))) e (λ _. seq_same (makes_same e p false (leaves lss u) (pos 1)).so (λ b _ _ f _. seq {k = λ _. pure b} {k' = λ _. pure b} (enters_same n b f) (λ _ _ _ _ h. goes h.even refl)))

  shut_same : {o : E.Own} (n : ℕ) (es : List Named) {m : List (Block C.Hidden)} {k : List (Block E.Hidden)} → SameMemory (J.Held o) m k → SameMemory (J.Held o) (shut n es m) (shut n es k)
  shut_same zero es h = h
  shut_same (suc n) [] h = h
  shut_same (suc n) (e ∷ es) h = shut_same n es (ended_same h e.block)

  left_knows : {B : Type 0} (n : ℕ) (l : List ℤ) (r : ERes B) → leave n (knows_after l r) ≡ knows_after l (leave n r)
  left_knows n l (Go b u) = refl
  left_knows n l (Stop w u) = refl

  left_own : {B : Type 0} (n : ℕ) (r : ERes B) → own_at (leave n r) ≡ own_at r
  left_own n (Go b u) = refl
  left_own n (Stop w u) = refl

  closed : {A B : Type 0} {P : E.Own → A → B → Type 0} {o : E.Own} (n : ℕ) {r : CRes A} {end : ERes B} → Ends P o r end → Ends P o (leave n r) (leave n end)
  closed n (went {s = u} {t = v} f l p) =
      went (record { blocks = subst (λ es. SameMemory (J.Held v.mem.own) (shut (length es - n) es u.mem.blocks) (shut (length v.entered - n) v.entered v.mem.blocks)) (sym f.entered) (shut_same (length v.entered - n) v.entered f.blocks); dealt = f.dealt; entered = ap (λ es. drop (length es - n) es) f.entered; steps = f.steps; own = f.own }) l p
  closed n (stopped f l) = stopped f l

  -- a scope
  scopes : {A B : Type 0} {P : E.Own → A → B → Type 0} {s : CSt} {t : ESt} (m : CSt → CRes A) (k : ESt → ERes B) → Even s t → Follows P t (m s) k → Follows P t (scoped m s) (scoped k)
  scopes {P = P} {s = s} {t = t} m k e f =
      record { new = f.new; end = leave (length t.entered) f.end; runs = λ l. ap (λ r. leave (length t.entered) r) (f.runs l) ∙ left_knows (length t.entered) l f.end; told = ap J.told (left_own (length t.entered) f.end) ∙ f.told; ends = subst (λ es. Ends P t.mem.own (leave (length es) (m s)) (leave (length t.entered) f.end)) (sym e.entered) (closed (length t.entered) f.ends) }

  zero_same : {o : E.Own} (u : CType) → SameVal o (zero_value C u) (zero_value E u)
  zero_same (CInt k false) = ints
  zero_same {o} (CInt k true) = hids (J.known o k (pos 0) (zero_fits k))
  zero_same (CPointer' f u t) = pointers
  zero_same (CArray' n u t) = nothings
  zero_same (CStruct n) = nothings
  zero_same CNothing = nothings

  values_back : {o : E.Own} (u : CType) {f : F C} {g : F E} → SameFlow o f g → SameVal o (value_back C u f) (value_back E u g)
  values_back u nexts = zero_same u
  values_back u breaks = zero_same u
  values_back u continues = zero_same u
  values_back u (backs h) = h

  back_knows : (u : CType) (es : List Named) (l : List ℤ) (r : ERes (F E)) → returned E u es (knows_after l r) ≡ knows_after l (returned E u es r)
  back_knows u es l (Go f s) = refl
  back_knows u es l (Stop w s) = refl

  back_own : (u : CType) (es : List Named) (r : ERes (F E)) → own_at (returned E u es r) ≡ own_at r
  back_own u es (Go f s) = refl
  back_own u es (Stop w s) = refl

  finished : (u : CType) (es : List Named) {o : E.Own} {r : CRes (F C)} {end : ERes (F E)} → Ends SameFlow o r end → Ends SameVal o (returned C u es r) (returned E u es end)
  finished u es (went {s = s} {t = t} f l p) =
      went (record { blocks = subst (λ es. SameMemory (J.Held t.mem.own) (shut (length es) es s.mem.blocks) (shut (length t.entered) t.entered t.mem.blocks)) (sym f.entered) (shut_same (length t.entered) t.entered f.blocks); dealt = f.dealt; entered = refl; steps = f.steps; own = f.own }) l (values_back u p)
  finished u es (stopped f l) = stopped f l

  -- a call
  calleds : {s : CSt} {t : ESt} (u : CType) (m : CSt → CRes (F C)) (k : ESt → ERes (F E)) → Even s t → ((i : CSt) (j : ESt) → Even i j → j.mem.own ≡ t.mem.own → Follows SameFlow j (m i) k) → Follows SameVal t (called C u m s) (called E u k)
  calleds {s} {t} u m k e go =
      let f : Follows SameFlow (record t { entered = [] }) (m (record s { entered = [] })) k = go (record s { entered = [] }) (record t { entered = [] }) (record { blocks = e.blocks; dealt = e.dealt; entered = refl; steps = e.steps; own = e.own }) refl in
      record { new = f.new; end = returned E u t.entered f.end; runs = λ l. ap (λ r. returned E u t.entered r) (f.runs l) ∙ back_knows u t.entered l f.end; told = ap J.told (back_own u t.entered f.end) ∙ f.told; ends = subst (λ es. Ends SameVal t.mem.own (returned C u es (m (record s { entered = [] }))) (returned E u t.entered f.end)) (sym e.entered) (finished u t.entered f.ends) }

  -- what surrounds a node in the two walks
  pub record SameUnder (o : E.Own) (w : Under C) (v : Under E) : Type 0 where
    pub enable : J.Same o w.enable v.enable
    pub call : (s : CSt) (t : ESt) → Even s t → (p : Spot) (f : ℕ) (e : C.Enable) (e' : E.Enable) (room : ℕ) (vs : List (V C)) (ws : List (V E)) → J.Same t.mem.own e e' → SameVals t.mem.own vs ws → Follows SameVal t (w.call p f e room vs s) (v.call p f e' room ws)

  within : {o o' : E.Own} {w : Under C} {v : Under E} → J.Later o o' → SameUnder o w v → SameUnder o' w v
  within l a = record { enable = J.same_later l a.enable; call = a.call }

  under_same : {o : E.Own} {w : Under C} {v : Under E} {e : C.Enable} {e' : E.Enable} → J.Same o e e' → SameUnder o w v → SameUnder o (under C w e) (under E v e')
  under_same h a = record { enable = h; call = a.call }

  -- helpers of expressions
  steppings : {s : CSt} {t : ESt} (p : Spot) (size : ℕ) (back : Bool) {v y : V C} {w z : V E} → Even s t → SameVal t.mem.own v w → SameVal t.mem.own y z → Follows SameVal t (stepping C p size back v y s) (stepping E p size back w z)
  steppings p size back e g h = seq_same (moves_same e p size back g h).so (λ a _ _ f _. goes f pointers)

  converteds : {s : CSt} {t : ESt} (p : Spot) (a u : CType) {v : V C} {w : V E} → Even s t → SameVal t.mem.own v w → Follows SameVal t (converted C p a u v s) (converted E p a u w)
  converteds p a u {v} {w} e h =
      chooses (is_integer u) (still (turns C p (kind_of a) (kind_of u) (is_hidden u && not (is_hidden a)) v)) (pure v) (still (turns E p (kind_of a) (kind_of u) (is_hidden u && not (is_hidden a)) w)) (pure w) (turns_same p (kind_of a) (kind_of u) (is_hidden u && not (is_hidden a)) e h).so (goes e h)

  turneds : {s : CSt} {t : ESt} (p : Spot) (k l : IntKind) {v : V C} {w : V E} → Even s t → SameVal t.mem.own v w → Follows SameVal t (turned C p k l v s) (turned E p k l w)
  turneds p k l {v} {w} e h =
      chooses (same_kind k l) (pure v) (still (turns C p k l false v)) (pure w) (still (turns E p k l false w)) (goes e h) (turns_same p k l false e h).so

  copies_same : {s : CSt} {t : ESt} {en : C.Enable} {en' : E.Enable} (r : Spot) (ls : List CType) (a : Address) {v : V C} {w : V E} → Even s t → J.Same t.mem.own en en' → SameVal t.mem.own v w → Follows Any t (copies C r en ls a v s) (copies E r en' ls a w)
  copies_same r ls a e n h =
      seq_same (starts_copy_same r ls a e h).so (λ b _ _ f l. (copied_same r ls a b f (J.same_later l n)).so)

  assigns_same : {s : CSt} {t : ESt} {en : C.Enable} {en' : E.Enable} (x : Site) (q r : Spot) (u : CType) {g : Goal C.Hidden} {g' : Goal E.Hidden} {v : V C} {w : V E} → Even s t → J.Same t.mem.own en en' → SameGoal t.mem.own g g' → SameVal t.mem.own v w → Follows SameVal t (assigns C x en q r u g v s) (assigns E x en' q r u g' w)
  assigns_same {en = en} {en' = en'} x q r u {v = v} {w = w} e n (onlys {a = a}) h =
      chooses (is_struct u) (bind (copies C r en (leaves x.run.structs u) a v) (λ _. pure (Pointer a))) (still (writes C q en u a v)) (bind (copies E r en' (leaves x.run.structs u) a w) (λ _. pure (Pointer a))) (still (writes E q en' u a w)) (seq (copies_same r (leaves x.run.structs u) a e n h) (λ _ _ _ _ k. goes k.even pointers)) (writes_same q u a e n h).so

  solelies : {s : CSt} {t : ESt} (p : Spot) {g : Goal C.Hidden} {g' : Goal E.Hidden} → Even s t → SameGoal t.mem.own g g' → Follows Equal t (solely C p g s) (solely E p g')
  solelies p e onlys = goes e refl

  initializes_same : {s : CSt} {t : ESt} (r : Spot) (lss : List (List CType)) (u : CType) (a : Address) {v : V C} {w : V E} → Even s t → SameVal t.mem.own v w → Follows Any t (initializes C r lss u a v s) (initializes E r lss u a w)
  initializes_same {t = t} r lss u a {v} {w} e h =
      chooses (is_struct u) (copies C r C.always (leaves lss u) a v) (bind (still (puts C r u a v)) (λ _. pure tt)) (copies E r E.always (leaves lss u) a w) (bind (still (puts E r u a w)) (λ _. pure tt)) (copies_same r (leaves lss u) a e (J.always t.mem.own) h) (seq (puts_same r u a e h).so (λ _ _ _ _ k. goes k.even (tt {0})))

  readieds : {s : CSt} {t : ESt} (p : Spot) (op : BinaryOp) (u a : CType) {v : V C} {w : V E} → Even s t → SameVal t.mem.own v w → Follows SameVal t (readied C p op u a v s) (readied E p op u a w)
  readieds p op u a {v} {w} e h =
      chooses (is_pointer u) (pure v) (turned C p (kind_of u) (working_kind op u a) v) (pure w) (turned E p (kind_of u) (working_kind op u a) w) (goes e h) (turneds p (kind_of u) (working_kind op u a) e h)

  reneweds : {s : CSt} {t : ESt} (x : Site) (p : Spot) (op : BinaryOp) (u a : CType) {v y : V C} {w z : V E} → Even s t → SameVal t.mem.own v w → SameVal t.mem.own y z → Follows SameVal t (renewed C x p op u a v y s) (renewed E x p op u a w z)
  reneweds x p op u a {v} {y} {w} {z} e g h =
      chooses (is_pointer u) (stepping C p (size_of x.run.structs (target u)) (is_minus op) v y) (bind (still (operates C p op (working_kind op u a) (is_hidden u) v y)) (λ z. turned C p (working_kind op u a) (kind_of u) z))
      (stepping E p (size_of x.run.structs (target u)) (is_minus op) w z) (bind (still (operates E p op (working_kind op u a) (is_hidden u) w z)) (λ z. turned E p (working_kind op u a) (kind_of u) z))
      (steppings p (size_of x.run.structs (target u)) (is_minus op) e g h) (seq (operates_same p op (working_kind op u a) (is_hidden u) e g h).so (λ _ _ _ _ k. turneds p (working_kind op u a) (kind_of u) k.even k.holds))

  -- built-in calls
  on_nones : {s : CSt} {t : ESt} (p : Spot) {vs : List (V C)} {ws : List (V E)} (k : CSt → CRes (V C)) (k' : ESt → ERes (V E)) → Even s t → SameVals t.mem.own vs ws → Follows SameVal t (k s) k' → Follows SameVal t (on_none C p vs k s) (on_none E p ws k')
  on_nones p k k' e no_vals f = f
  on_nones p k k' e (more_vals h hs) f = halts (Odd p) e

  on_ones : {s : CSt} {t : ESt} (p : Spot) {vs : List (V C)} {ws : List (V E)} (k : V C → CSt → CRes (V C)) (k' : V E → ESt → ERes (V E)) → Even s t → SameVals t.mem.own vs ws → ((v : V C) (w : V E) → SameVal t.mem.own v w → Follows SameVal t (k v s) (k' w)) → Follows SameVal t (on_one C p vs k s) (on_one E p ws k')
  on_ones p k k' e no_vals f = halts (Odd p) e
  on_ones p k k' e (more_vals h no_vals) f = f _ _ h
  on_ones p k k' e (more_vals h (more_vals g hs)) f = halts (Odd p) e

  on_twos : {s : CSt} {t : ESt} (p : Spot) {vs : List (V C)} {ws : List (V E)} (k : V C → V C → CSt → CRes (V C)) (k' : V E → V E → ESt → ERes (V E)) → Even s t → SameVals t.mem.own vs ws → ((v y : V C) (w z : V E) → SameVal t.mem.own v w → SameVal t.mem.own y z → Follows SameVal t (k v y s) (k' w z)) → Follows SameVal t (on_two C p vs k s) (on_two E p ws k')
  on_twos p k k' e no_vals f = halts (Odd p) e
  on_twos p k k' e (more_vals h no_vals) f = halts (Odd p) e
  on_twos p k k' e (more_vals h (more_vals g no_vals)) f = f _ _ _ _ h g
  on_twos p k k' e (more_vals h (more_vals g (more_vals i hs))) f = halts (Odd p) e

  on_somes : {s : CSt} {t : ESt} (p : Spot) {vs : List (V C)} {ws : List (V E)} (k : V C → CSt → CRes (V C)) (k' : V E → ESt → ERes (V E)) → Even s t → SameVals t.mem.own vs ws → ((v : V C) (w : V E) → SameVal t.mem.own v w → Follows SameVal t (k v s) (k' w)) → Follows SameVal t (on_some C p vs k s) (on_some E p ws k')
  on_somes p k k' e no_vals f = f _ _ ints
  on_somes p k k' e (more_vals h no_vals) f = f _ _ h
  on_somes p k k' e (more_vals h (more_vals g hs)) f = halts (Odd p) e

  performs_same : {s : CSt} {t : ESt} (x : Site) (p : Spot) (u : CType) (c : Source) (which : Builtin) {vs : List (V C)} {ws : List (V E)} → Even s t → SameVals t.mem.own vs ws → Follows SameVal t (performs C x p u c which vs s) (performs E x p u c which ws)
  performs_same x p u c Private e hs = on_ones p (λ v. pure v) (λ w. pure w) e hs (λ v w h. goes e h)
  performs_same x p u c (Feed k party) e hs =
      on_ones p (λ v. still (feeds C x.run.known p c party k v)) (λ w. still (feeds E x.run.known p c party k w)) e hs (λ v w h. (feeds_same x.run.known p c party k e h).so)
  performs_same x p u c (Reveal k) e hs =
      on_twos p (λ a v. bind (still (reveals C p k v)) (λ y. bind (still (addressed C p a)) (λ b. still (puts C p (CInt k false) b y)))) (λ a v. bind (still (reveals E p k v)) (λ y. bind (still (addressed E p a)) (λ b. still (puts E p (CInt k false) b y)))) e hs (λ a v b w g h. seq (reveals_same p k e h).so (λ _ _ _ _ z. seq_same (addressed_same z.even p (val_later z.later g)).so (λ at _ _ f l. (puts_same p (CInt k false) at f (val_later l z.holds)).so)))
  performs_same x p u c (Give k party) e hs =
      on_ones p (λ v. still (gives C p k party v)) (λ w. still (gives E p k party w)) e hs (λ v w h. (gives_same p k party e h).so)
  performs_same x p u c (PrivateCount party) e hs = on_nones p _ _ e hs (goes e ints)
  performs_same x p u c PublicCount e hs = on_nones p _ _ e hs (goes e ints)
  performs_same x p u c PublicWord e hs =
      on_ones p (λ v. still (public_word C x.run.known p v)) (λ w. still (public_word E x.run.known p w)) e hs (λ v w h. (public_word_same x.run.known p e h).so)
  performs_same x p u c (Print ps) e hs = (prints_same p ps e hs).so
  performs_same x p u c Calloc e hs =
      on_ones p (λ v. still (allocates C p x.run.structs (target u) v)) (λ w. still (allocates E p x.run.structs (target u) w)) e hs (λ v w h. (allocates_same p x.run.structs (target u) e h).so)
  performs_same x p u c Malloc e hs =
      on_somes p (λ v. still (allocates C p x.run.structs (target u) v)) (λ w. still (allocates E p x.run.structs (target u) w)) e hs (λ v w h. (allocates_same p x.run.structs (target u) e h).so)
  performs_same x p u c Free e hs =
      on_ones p (λ v. still (frees C p v)) (λ w. still (frees E p w)) e hs (λ v w h. (frees_same e p h).so)

  -- an expression, a place and arguments, walked in two domains
  abbrev mutual
    expr_same : (c : TExprNode) (x : Site) {w : Under C} {v : Under E} {s : CSt} {t : ESt} (p : Spot) (y : CType) → Even s t → SameUnder t.mem.own w v → Follows SameVal t (expr C x w p y c s) (expr E x v p y c)
    expr_same (Number n) x p y e a = goes e ints
    expr_same NullPointer x p y e a = goes e pointers
    expr_same (Read' q u c) x p y e a = seq (place_same c (deeper x) q u e a) (λ _ _ _ _ g. (fetches_same q u g.even g.holds).so)
    expr_same (AddressOf' q u c) x p y e a = seq (place_same c (deeper x) q u e a) (λ _ _ _ _ g. seq_same (solelies q g.even g.holds) (λ i _ _ f _. goes f pointers))
    expr_same (Decay' q u c) x p y e a = seq (place_same c (deeper x) q u e a) (λ _ _ _ _ g. seq_same (solelies q g.even g.holds) (λ i _ _ f _. goes f pointers))
    expr_same (Unary' op _ c) x p y e a =
        seq (one_same c (deeper x) e a) (λ _ _ _ _ h. (unaries_same p op (kind_of (type_of c)) (is_hidden y) h.even h.holds).so)
    expr_same (Binary' op _ c _ d) x p y e a =
        seq (one_same c (deeper x) e a) (λ _ _ _ _ h. seq (one_same d (deeper x) h.even (within h.later a)) (λ _ _ _ _ k. (operates_same p op (kind_of (type_of c)) (is_hidden y) k.even (val_later k.later h.holds) k.holds).so))
    expr_same (PointerStep' _ c _ d back false) x p y e a =
        seq (one_same c (deeper x) e a) (λ _ _ _ _ h. seq (one_same d (deeper x) h.even (within h.later a)) (λ _ _ _ _ k. steppings p (size_of x.run.structs (target y)) back k.even (val_later k.later h.holds) k.holds))
    expr_same (PointerStep' _ c _ d back true) x p y e a =
        seq (one_same d (deeper x) e a) (λ _ _ _ _ h. seq (one_same c (deeper x) h.even (within h.later a)) (λ _ _ _ _ k. steppings p (size_of x.run.structs (target y)) back k.even k.holds (val_later k.later h.holds)))
    expr_same (PointerSame' _ c _ d negated) x p y e a =
        seq (one_same c (deeper x) e a) (λ _ _ _ _ h. seq (one_same d (deeper x) h.even (within h.later a)) (λ _ _ _ _ k. (places_same k.even p negated (val_later k.later h.holds) k.holds).so))
    expr_same (Logic' all _ c _ d) x {w = w} {v = v} p y e a =
        chooses (is_hidden y)
        (bind (one C (deeper x) w c) (λ g. bind (one C (deeper x) w d) (λ z. still (operates C p (both_or_one C all) KBool true g z))))
        (bind (one C (deeper x) w c) (λ g. bind (still (tests C p g)) (λ b. choose (alike all b) (bind (one C (deeper x) w d) (λ z. still (turns C p KBool I32 false z))) (pure (decided C b)))))
        (bind (one E (deeper x) v c) (λ g. bind (one E (deeper x) v d) (λ z. still (operates E p (both_or_one E all) KBool true g z))))
        (bind (one E (deeper x) v c) (λ g. bind (still (tests E p g)) (λ b. choose (alike all b) (bind (one E (deeper x) v d) (λ z. still (turns E p KBool I32 false z))) (pure (decided E b)))))
        (seq (one_same c (deeper x) e a) (λ _ _ _ _ h. seq (one_same d (deeper x) h.even (within h.later a)) (λ _ _ _ _ k. (operates_same p (both_or_one C all) KBool true k.even (val_later k.later h.holds) k.holds).so)))
        (seq (one_same c (deeper x) e a) (λ _ _ _ _ h. seq_same (tests_same h.even p h.holds).so (λ b _ _ f l. chooses (alike all b)
        (bind (one C (deeper x) w d) (λ z. still (turns C p KBool I32 false z))) (pure (decided C b))
        (bind (one E (deeper x) v d) (λ z. still (turns E p KBool I32 false z))) (pure (decided E b))
        (seq (one_same d (deeper x) f (within l (within h.later a))) (λ _ _ _ _ k. (turns_same p KBool I32 false k.even k.holds).so))
        (goes f ints))))
    expr_same (Choose' _ b _ c _ d) x {w = w} {v = v} p y e a =
        seq (one_same b (deeper x) e a) (λ _ _ _ _ h. seq_same (tests_same h.even p h.holds).so (λ i _ _ f l. chooses i (one C (deeper x) w c) (one C (deeper x) w d) (one E (deeper x) v c) (one E (deeper x) v d) (one_same c (deeper x) f (within l (within h.later a))) (one_same d (deeper x) f (within l (within h.later a)))))
    expr_same (Assign' q u c _ d) x p y e a =
        seq (place_same c (deeper x) q u e a) (λ _ _ _ _ g. seq (one_same d (deeper x) g.even (within g.later a)) (λ _ _ _ _ k. assigns_same x q (spot_of d) u k.even (J.same_later k.later (J.same_later g.later a.enable)) (goal_later k.later g.holds) k.holds))
    expr_same (Update' op q u c _ d false) x p y e a =
        seq (place_same c (deeper x) q u e a) (λ _ _ _ _ g. seq (one_same d (deeper x) g.even (within g.later a)) (λ _ _ _ _ k. seq (gets_same q u k.even (goal_later k.later g.holds)).so (λ _ _ _ _ r. seq (readieds p op u (type_of d) r.even r.holds) (λ _ _ _ _ z. seq (reneweds x p op u (type_of d) z.even z.holds (val_later z.later (val_later r.later k.holds))) (λ _ _ _ _ n. (sets_same q u n.even (J.same_later n.later (J.same_later z.later (J.same_later r.later (J.same_later k.later (J.same_later g.later a.enable))))) (goal_later n.later (goal_later z.later (goal_later r.later (goal_later k.later g.holds)))) n.holds).so)))))
    expr_same (Update' op q u c _ d true) x p y e a =
        seq (place_same c (deeper x) q u e a) (λ _ _ _ _ g. seq (gets_same q u g.even g.holds).so (λ _ _ _ _ o. seq (gets_same q u o.even (goal_later o.later g.holds)).so (λ _ _ _ _ r. seq (readieds p op u (type_of d) r.even r.holds) (λ _ _ _ _ z. seq (one_same d (deeper x) z.even (within z.later (within r.later (within o.later (within g.later a))))) (λ _ _ _ _ k. seq (reneweds x p op u (type_of d) k.even (val_later k.later z.holds) k.holds) (λ _ _ _ _ n. seq (sets_same q u n.even (J.same_later n.later (J.same_later k.later (J.same_later z.later (J.same_later r.later (J.same_later o.later (J.same_later g.later a.enable)))))) (goal_later n.later (goal_later k.later (goal_later z.later (goal_later r.later (goal_later o.later g.holds))))) n.holds).so (λ _ _ _ _ j. goes j.even (val_later j.later (val_later n.later (val_later k.later (val_later z.later (val_later r.later o.holds))))))))))))
    expr_same (Convert' _ c) x p y e a =
        seq (one_same c (lighter x p c) e a) (λ _ _ _ _ h. converteds p (type_of c) y h.even h.holds)
    expr_same (Call' f _ cs) x {w = w} {v = v} p y e a =
        seq (exprs_same cs (deeper x) e a) (λ vs ws u z h. a.call u z h.even p f w.enable v.enable x.room vs ws (J.same_later h.later a.enable) h.holds)
    expr_same (Builtin' which _ cs) x p y e a =
        seq (exprs_same cs (deeper x) e a) (λ _ _ _ _ h. performs_same x p y (source_of cs) which h.even h.holds)

    place_same : (c : TPlaceNode) (x : Site) {w : Under C} {v : Under E} {s : CSt} {t : ESt} (p : Spot) (y : CType) → Even s t → SameUnder t.mem.own w v → Follows SameGoal t (place C x w p y c s) (place E x v p y c)
    place_same (Slot n) x p y e a = seq_same (slots_same p n e) (λ i _ _ f _. goes f onlys)
    place_same (Deref' _ c) x p y e a =
        seq (one_same c (deeper x) e a) (λ _ _ _ _ k. seq_same (follows_same k.even p k.holds).so (λ i _ _ f _. goes f onlys))
    place_same (Index' _ c _ d) x p y e a =
        seq (one_same c (deeper x) e a) (λ _ _ _ _ h. seq (one_same d (deeper x) h.even (within h.later a)) (λ _ _ _ _ k. seq_same (moves_same k.even p (size_of x.run.structs y) false (val_later k.later h.holds) k.holds).so (λ i _ _ f _. goes f onlys)))
    place_same (Field' _ c n) x p y e a =
        seq (place_one_same c (deeper x) e a) (λ _ _ _ _ g. seq_same (solelies p g.even g.holds) (λ i _ _ f _. goes f onlys))

    place_one_same : (c : Row_of-TPlace 1) (x : Site) {w : Under C} {v : Under E} {s : CSt} {t : ESt} → Even s t → SameUnder t.mem.own w v → Follows SameGoal t (place_one C x w c s) (place_one E x v c)
    place_one_same (more_of-TPlace q u c rest) x e a = place_same c x q u e a

    one_same : (c : Row_of-TExpr 1) (x : Site) {w : Under C} {v : Under E} {s : CSt} {t : ESt} → Even s t → SameUnder t.mem.own w v → Follows SameVal t (one C x w c s) (one E x v c)
    one_same (more_of-TExpr q u c rest) x e a = expr_same c x q u e a

    exprs_same : {m : _} (c : Row_of-TExpr m) (x : Site) {w : Under C} {v : Under E} {s : CSt} {t : ESt} → Even s t → SameUnder t.mem.own w v → Follows SameVals t (exprs C x w c s) (exprs E x v c)
    exprs_same end_of-TExpr x e a = goes e no_vals
    exprs_same (more_of-TExpr q u c rest) x e a =
        seq (expr_same c x q u e a) (λ _ _ _ _ h. seq (exprs_same rest x h.even (within h.later a)) (λ _ _ _ _ k. goes k.even (more_vals (val_later k.later h.holds) k.holds)))

  wholes : (c : TExpr) (x : Site) {w : Under C} {v : Under E} {s : CSt} {t : ESt} → Even s t → SameUnder t.mem.own w v → Follows SameVal t (whole C x w c s) (whole E x v c)
  wholes c x e a = expr_same c.node x c.spot c.ty e a

  testeds : (c : TExpr) (x : Site) {w : Under C} {v : Under E} {s : CSt} {t : ESt} → Even s t → SameUnder t.mem.own w v → Follows Equal t (tested C x w c s) (tested E x v c)
  testeds c x e a = seq (wholes c x e a) (λ _ _ _ _ h. (tests_same h.even c.spot h.holds).so)

  starts_same : (c : Option TExpr) (x : Site) (u : CType) (b : ℕ) {w : Under C} {v : Under E} {s : CSt} {t : ESt} → Even s t → SameUnder t.mem.own w v → Follows Any t (started C x w u b c s) (started E x v u b c)
  starts_same None x u b e a = goes e (tt {0})
  starts_same (Some c) x u b e a =
      seq (wholes c x e a) (λ _ _ _ _ h. initializes_same c.spot x.run.structs u (At b 0) h.even h.holds)

  declareds : (d : TDeclared) (x : Site) {w : Under C} {v : Under E} {s : CSt} {t : ESt} → Even s t → SameUnder t.mem.own w v → Follows Any t (declares C x w d s) (declares E x v d)
  declareds d x {w = w} {v = v} e a =
      typed_same d.spot (slice_get x.slots d.slot) (λ u. bind (opens C d.spot x.run.structs u.ty d.slot) (λ b. started C x w u.ty b d.init)) (λ u. bind (opens E d.spot x.run.structs u.ty d.slot) (λ b. started E x v u.ty b d.init)) e (λ u. seq_same (opens_same d.spot x.run.structs u.ty d.slot e) (λ b _ _ f l. starts_same d.init x u.ty b f (within l a)))

  all_declared : (ds : List TDeclared) (x : Site) {w : Under C} {v : Under E} {s : CSt} {t : ESt} → Even s t → SameUnder t.mem.own w v → Follows Any t (declares_all C x w ds s) (declares_all E x v ds)
  all_declared [] x e a = goes e (tt {0})
  all_declared (d ∷ ds) x e a = seq (declareds d x e a) (λ _ _ _ _ h. all_declared ds x h.even (within h.later a))

  proceeds : {f : F C} {g : F E} (m : CSt → CRes (F C)) (k : ESt → ERes (F E)) {s : CSt} {t : ESt} → Even s t → SameFlow t.mem.own f g → Follows SameFlow t (m s) k → Follows SameFlow t (proceed C f m s) (proceed E g k)
  proceeds m k e nexts h = h
  proceeds m k e breaks h = goes e breaks
  proceeds m k e continues h = goes e continues
  proceeds m k e (backs v) h = goes e (backs v)

  pub data SameEnd (o : E.Own) : Option (F C) → Option (F E) → Type 0 where
    goes_on : SameEnd o None None
    ends_so : {f : F C} {g : F E} → SameFlow o f g → SameEnd o (Some f) (Some g)

  -- actions that stay in step from any later state
  abbrev Steady : {A B : Type 0} → (E.Own → A → B → Type 0) → E.Own → (CSt → CRes A) → (ESt → ERes B) → Type 0
  Steady P o m k = (u : CSt) (v : ESt) → Even u v → J.Later o v.mem.own → Follows P v (m u) k

  endeds : {f : F C} {g : F E} (adv : CSt → CRes (Unit {0})) (adv' : ESt → ERes (Unit {0})) {s : CSt} {t : ESt} → Even s t → SameFlow t.mem.own f g → Follows Any t (adv s) adv' → Follows SameEnd t (part_done C adv f s) (part_done E adv' g)
  endeds adv adv' e nexts h = seq h (λ _ _ _ _ k. goes k.even goes_on)
  endeds adv adv' e continues h = seq h (λ _ _ _ _ k. goes k.even goes_on)
  endeds adv adv' e breaks h = goes e (ends_so nexts)
  endeds adv adv' e (backs v) h = goes e (ends_so (backs v))

  turns_round : {c : CSt → CRes Bool} {c' : ESt → ERes Bool} {b : CSt → CRes (F C)} {b' : ESt → ERes (F E)} {adv : CSt → CRes (Unit {0})} {adv' : ESt → ERes (Unit {0})} {s : CSt} {t : ESt} → Steady Equal t.mem.own c c' → Steady SameFlow t.mem.own b b' → Steady Any t.mem.own adv adv' → Even s t → Follows SameEnd t (round C c b adv s) (round E c' b' adv')
  turns_round {b = b} {b' = b'} {adv = adv} {adv' = adv'} {t = t} hc hb ha e =
      seq_same (hc _ t e (J.later_refl t.mem.own)) (λ k _ _ f l. chooses k (bind step (λ _. bind b (part_done C adv))) (pure (Some Next)) (bind step (λ _. bind b' (part_done E adv'))) (pure (Some Next)) (seq (steps_same f) (λ _ _ _ _ g. seq (hb _ _ g.even (J.later_trans l g.later)) (λ _ _ _ _ h. endeds adv adv' h.even h.holds (ha _ _ h.even (J.later_trans l (J.later_trans g.later h.later)))))) (goes f (ends_so nexts)))

  agains : {f : Option (F C)} {g : Option (F E)} (m : CSt → CRes (F C)) (k : ESt → ERes (F E)) {s : CSt} {t : ESt} → Even s t → SameEnd t.mem.own f g → Follows SameFlow t (m s) k → Follows SameFlow t (again C f m s) (again E g k)
  agains m k e goes_on h = h
  agains m k e (ends_so f) h = goes e f

  loops : (n : ℕ) {c : CSt → CRes Bool} {c' : ESt → ERes Bool} {b : CSt → CRes (F C)} {b' : ESt → ERes (F E)} {adv : CSt → CRes (Unit {0})} {adv' : ESt → ERes (Unit {0})} {s : CSt} {t : ESt} → Steady Equal t.mem.own c c' → Steady SameFlow t.mem.own b b' → Steady Any t.mem.own adv adv' → Even s t → Follows SameFlow t (loop C n c b adv s) (loop E n c' b' adv')
  loops zero hc hb ha e = halts (Ended StepsSpent) e
  loops (suc n) {c = c} {c' = c'} {b = b} {b' = b'} {adv = adv} {adv' = adv'} hc hb ha e =
      seq (turns_round hc hb ha e) (λ _ _ _ _ h. agains (loop C n c b adv) (loop E n c' b' adv') h.even h.holds (loops n (λ i j z o. hc i j z (J.later_trans h.later o)) (λ i j z o. hb i j z (J.later_trans h.later o)) (λ i j z o. ha i j z (J.later_trans h.later o)) h.even))

  headers : (c : TForInit) (x : Site) {w : Under C} {v : Under E} {s : CSt} {t : ESt} → Even s t → SameUnder t.mem.own w v → Follows Any t (header C x w c s) (header E x v c)
  headers NoInit x e a = goes e (tt {0})
  headers (InitDeclare ds) x e a = all_declared ds x e a
  headers (InitExpress c) x e a = seq (wholes c x e a) (λ _ _ _ _ h. goes h.even (tt {0}))

  testeds_or : (c : Option TExpr) (x : Site) {w : Under C} {v : Under E} {s : CSt} {t : ESt} → Even s t → SameUnder t.mem.own w v → Follows Equal t (tested_or C x w c s) (tested_or E x v c)
  testeds_or None x e a = goes e refl
  testeds_or (Some c) x e a = testeds c x e a

  advanced : (c : Option TExpr) (x : Site) {w : Under C} {v : Under E} {s : CSt} {t : ESt} → Even s t → SameUnder t.mem.own w v → Follows Any t (advances C x w c s) (advances E x v c)
  advanced None x e a = goes e (tt {0})
  advanced (Some c) x e a = seq (wholes c x e a) (λ _ _ _ _ h. goes h.even (tt {0}))

  given_back : (c : Option TExpr) (x : Site) {w : Under C} {v : Under E} {s : CSt} {t : ESt} → Even s t → SameUnder t.mem.own w v → Follows SameFlow t (gives_back C x w c s) (gives_back E x v c)
  given_back None x e a = goes e (backs nothings)
  given_back (Some c) x e a = seq (wholes c x e a) (λ _ _ _ _ h. goes h.even (backs h.holds))

  parts_all : {d : Parts} {d' : Parts} (m one two : CSt → CRes (F C)) (k one' two' : ESt → ERes (F E)) {s : CSt} {t : ESt} → (d ≡ AllOf) × (d' ≡ AllOf) → Follows SameFlow t (m s) k → Follows SameFlow t (parted C d m one two s) (parted E d' k one' two')
  parts_all {d} {d'} m one two k one' two' {s} {t} q f =
      subst (λ d. Follows SameFlow t (parted C d m one two s) (parted E d' k one' two')) (sym q.0) (subst (λ d'. Follows SameFlow t (m s) (parted E d' k one' two')) (sym q.1) f)

  -- both parts of an `obliv if`, from actions that stay in step under any enables that agree
  boths : {s : CSt} {t : ESt} {en : C.Enable} {en' : E.Enable} {h : C.Hidden} {h' : E.Hidden} (m n : C.Enable → CSt → CRes (F C)) (m' n' : E.Enable → ESt → ERes (F E)) → Even s t → J.Same t.mem.own en en' → J.Held t.mem.own KBool h h'
      → ((d : C.Enable) (d' : E.Enable) (u : CSt) (v : ESt) → Even u v → J.Later t.mem.own v.mem.own → J.Same v.mem.own d d' → Follows SameFlow v (m d u) (m' d'))
      → ((d : C.Enable) (d' : E.Enable) (u : CSt) (v : ESt) → Even u v → J.Later t.mem.own v.mem.own → J.Same v.mem.own d d' → Follows SameFlow v (n d u) (n' d'))
      → Follows SameFlow t (both C en h m n s) (both E en' h' m' n')
  boths {en = en} {en' = en'} {h = h} {h' = h'} m n m' n' e q c hm hn =
      seq (owns e (C.first en h) (E.first en' h') (J.first e.own q c)).so (λ u u' _ _ y. seq (hm u u' _ _ y.even y.later y.holds.0) (λ f g i j r. proceeds (bind (still (own (C.second en h u))) (λ d. n d)) (bind (still (own (E.second en' h' u'))) (λ d. n' d)) r.even r.holds
      (seq (owns r.even (C.second en h u) (E.second en' h' u') (y.holds.1 j.mem.own i.mem.own r.even.own r.later)).so (λ d d' _ _ z. hn d d' _ _ z.even (J.later_trans y.later (J.later_trans r.later z.later)) z.holds))))

  abbrev mutual
    node_same : (c : TStmtNode) (x : Site) {w : Under C} {v : Under E} {s : CSt} {t : ESt} (p : Spot) → Even s t → SameUnder t.mem.own w v → Follows SameFlow t (node C x w p c s) (node E x v p c)
    node_same (Declare ds) x p e a = seq (all_declared ds x e a) (λ _ _ _ _ h. goes h.even nexts)
    node_same (Express c) x p e a = seq (wholes c x e a) (λ _ _ _ _ h. goes h.even nexts)
    node_same (Block' _ ss) x {w = w} {v = v} p e a = scopes (stmts C x w ss) (stmts E x v ss) e (stmts_same ss x e a)
    node_same (If' c _ d n) x {w = w} {v = v} p e a =
        seq_same (testeds c x e a) (λ b _ _ f l. chooses b (part C x w d) (other C x w n) (part E x v d) (other E x v n) (part_same d x f (within l a)) (other_same n x f (within l a)))
    node_same (OblivIf' c _ d n) x {w = w} {v = v} p e a =
        seq (wholes c x e a) (λ _ _ _ _ h. seq (condition_same h.even c.spot h.holds).so (λ y y' _ _ z. parts_all
        (both C w.enable y (λ i. part C x (under C w i) d) (λ i. other C x (under C w i) n))
        (bind (part C x w d) (λ f. proceed C f (bind (w.skip x n) (λ _. pure Next))))
        (bind (w.skip x (Some' tt d)) (λ _. other C x w n))
        (both E v.enable y' (λ i. part E x (under E v i) d) (λ i. other E x (under E v i) n))
        (bind (part E x v d) (λ f. proceed E f (bind (v.skip x n) (λ _. pure Next))))
        (bind (v.skip x (Some' tt d)) (λ _. other E x v n))
        (J.decide z.holds)
        (boths (λ i. part C x (under C w i) d) (λ i. other C x (under C w i) n) (λ i. part E x (under E v i) d) (λ i. other E x (under E v i) n) z.even (J.same_later z.later (J.same_later h.later a.enable)) z.holds
        (λ _ _ _ _ f l q. part_same d x f (under_same q (within l (within z.later (within h.later a)))))
        (λ _ _ _ _ f l q. other_same n x f (under_same q (within l (within z.later (within h.later a))))))))
    node_same (Always' n _ d) x {w = w} {v = v} p e a =
        scopes (typed_slot C p (slice_get x.slots n) (λ u. bind (opens C p x.run.structs u.ty n) (λ b. bind (still (puts C p u.ty (At b 0) (Hidden KBool (C.held w.enable)))) (λ _. part C x (under C w C.always) d))))
        (typed_slot E p (slice_get x.slots n) (λ u. bind (opens E p x.run.structs u.ty n) (λ b. bind (still (puts E p u.ty (At b 0) (Hidden KBool (E.held v.enable)))) (λ _. part E x (under E v E.always) d)))) e
        (typed_same p (slice_get x.slots n) (λ u. bind (opens C p x.run.structs u.ty n) (λ b. bind (still (puts C p u.ty (At b 0) (Hidden KBool (C.held w.enable)))) (λ _. part C x (under C w C.always) d))) (λ u. bind (opens E p x.run.structs u.ty n) (λ b. bind (still (puts E p u.ty (At b 0) (Hidden KBool (E.held v.enable)))) (λ _. part E x (under E v E.always) d))) e
        (λ u. seq_same (opens_same p x.run.structs u.ty n e) (λ b _ _ f l. seq (puts_same p u.ty (At b 0) f (hids (J.held (J.same_later l a.enable)))).so (λ _ _ _ z h. part_same d x h.even (under_same (J.always z.mem.own) (within h.later (within l a)))))))
    node_same (While' c _ d) x p e a =
        loops x.run.rounds (λ _ _ f l. testeds c x f (within l a)) (λ _ _ f l. part_same d x f (within l a)) (λ _ _ f l. goes f (tt {0})) e
    node_same (For' i c k _ d) x {w = w} {v = v} p e a =
        scopes (bind (header C x w i) (λ _. loop C x.run.rounds (tested_or C x w c) (part C x w d) (advances C x w k))) (bind (header E x v i) (λ _. loop E x.run.rounds (tested_or E x v c) (part E x v d) (advances E x v k))) e
        (seq (headers i x e a) (λ _ _ _ _ h. loops x.run.rounds (λ _ _ f l. testeds_or c x f (within l (within h.later a))) (λ _ _ f l. part_same d x f (within l (within h.later a))) (λ _ _ f l. advanced k x f (within l (within h.later a))) h.even))
    node_same (Return c) x p e a = given_back c x e a
    node_same Break x p e a = goes e breaks
    node_same Continue x p e a = goes e continues
    node_same Empty x p e a = goes e nexts

    part_same : (c : Row_of-TStmt 1) (x : Site) {w : Under C} {v : Under E} {s : CSt} {t : ESt} → Even s t → SameUnder t.mem.own w v → Follows SameFlow t (part C x w c s) (part E x v c)
    part_same (more_of-TStmt q c rest) x {w = w} {v = v} e a =
        scopes (bind step (λ _. node C (deeper x) w q c)) (bind step (λ _. node E (deeper x) v q c)) e (seq (steps_same e) (λ _ _ _ _ h. node_same c (deeper x) q h.even (within h.later a)))

    stmts_same : {m : _} (c : Row_of-TStmt m) (x : Site) {w : Under C} {v : Under E} {s : CSt} {t : ESt} → Even s t → SameUnder t.mem.own w v → Follows SameFlow t (stmts C x w c s) (stmts E x v c)
    stmts_same end_of-TStmt x e a = goes e nexts
    stmts_same (more_of-TStmt q c rest) x {w = w} {v = v} e a =
        seq (seq (steps_same e) (λ _ _ _ _ h. node_same c (deeper x) q h.even (within h.later a))) (λ _ _ _ _ h. proceeds (stmts C x w rest) (stmts E x v rest) h.even h.holds (stmts_same rest x h.even (within h.later a)))

    other_same : (c : Held-TStmtNode-If-2) (x : Site) {w : Under C} {v : Under E} {s : CSt} {t : ESt} → Even s t → SameUnder t.mem.own w v → Follows SameFlow t (other C x w c s) (other E x v c)
    other_same None' x e a = goes e nexts
    other_same (Some' _ d) x e a = part_same d x e a

  listed_same : (ss : List TStmt) (x : Site) {w : Under C} {v : Under E} {s : CSt} {t : ESt} → Even s t → SameUnder t.mem.own w v → Follows SameFlow t (listed C x w ss s) (listed E x v ss)
  listed_same [] x e a = goes e nexts
  listed_same (c ∷ ss) x {w = w} {v = v} e a =
      seq (seq (steps_same e) (λ _ _ _ _ h. node_same c.node (deeper x) c.spot h.even (within h.later a))) (λ _ _ _ _ h. proceeds (listed C x w ss) (listed E x v ss) h.even h.holds (listed_same ss x h.even (within h.later a)))

  params_same : (p : Spot) (lss : List (List CType)) (us : List SlotType) (n : ℕ) (vs : List (V C)) (ws : List (V E)) {s : CSt} {t : ESt} → Even s t → SameVals t.mem.own vs ws → Follows Any t (params C p lss us n vs s) (params E p lss us n ws)
  params_same p lss us n [] [] e hs = goes e (tt {0})
  params_same p lss us n (v ∷ vs) (w ∷ ws) e (more_vals h hs) =
      typed_same p (slice_get us n) (λ u. bind (opens C p lss u.ty n) (λ b. bind (still (puts C p u.ty (At b 0) v)) (λ _. params C p lss us (suc n) vs))) (λ u. bind (opens E p lss u.ty n) (λ b. bind (still (puts E p u.ty (At b 0) w)) (λ _. params E p lss us (suc n) ws))) e
      (λ u. seq_same (opens_same p lss u.ty n e) (λ b _ _ f l. seq (puts_same p u.ty (At b 0) f (val_later l h)).so (λ _ _ _ _ k. params_same p lss us (suc n) vs ws k.even (vals_later k.later (vals_later l hs)))))
  params_same p lss us n [] (w ∷ ws) e hs = elim hs [ ]
  params_same p lss us n (v ∷ vs) [] e hs = elim hs [ ]

  invoked : (g : TypedFunction) (x : Site) (p : Spot) {w : Under C} {v : Under E} {vs : List (V C)} {ws : List (V E)} {s : CSt} {t : ESt} → Even s t → SameUnder t.mem.own w v → SameVals t.mem.own vs ws → Follows SameVal t (invokes C x w p g vs s) (invokes E x v p g ws)
  invoked g x p {w = w} {v = v} {vs = vs} {ws = ws} {s = s} {t = t} e a h =
      calleds g.result (bind (params C p x.run.structs g.slots 0 vs) (λ _. listed C x w g.body)) (bind (params E p x.run.structs g.slots 0 ws) (λ _. listed E x v g.body)) e
      (λ i j f q. seq (params_same p x.run.structs g.slots 0 vs ws f (subst (λ o. SameVals o vs ws) (sym q) h)) (λ _ _ _ _ k. listed_same g.body x k.even (within k.later (subst (λ o. SameUnder o w v) (sym q) a))))

  founds : {s : CSt} {t : ESt} (p : Spot) (o : Option TypedFunction) (k : TypedFunction → CSt → CRes (V C)) (k' : TypedFunction → ESt → ERes (V E)) → Even s t → ((g : TypedFunction) → Follows SameVal t (k g s) (k' g)) → Follows SameVal t (found C p o k s) (found E p o k')
  founds p (Some g) k k' e f = f g
  founds p None k k' e f = halts (Odd p) e

  calls_same : (kc : ℕ → Site → Held-TStmtNode-If-2 → CSt → CRes (Unit {0})) (ke : ℕ → Site → Held-TStmtNode-If-2 → ESt → ERes (Unit {0})) (run : Run) (fs : List TypedFunction) (n : ℕ) (s : CSt) (t : ESt) → Even s t → (p : Spot) (f : ℕ) (e : C.Enable) (e' : E.Enable) (room : ℕ) (vs : List (V C)) (ws : List (V E)) → J.Same t.mem.own e e' → SameVals t.mem.own vs ws → Follows SameVal t (calls C kc run fs n p f e room vs s) (calls E ke run fs n p f e' room ws)
  calls_same kc ke run fs zero s t i p f e e' room vs ws h hs = halts (Ended (Trap M6 p)) i
  calls_same kc ke run fs (suc n) s t i p f e e' zero vs ws h hs = halts (Ended (Trap M6 p)) i
  calls_same kc ke run fs (suc n) s t i p f e e' (suc room) vs ws h hs =
      founds p (slice_get fs f) (λ g. invokes C (record { run = run; slots = g.slots; room = room }) (record { enable = e; call = calls C kc run fs n; skip = kc n }) p g vs) (λ g. invokes E (record { run = run; slots = g.slots; room = room }) (record { enable = e'; call = calls E ke run fs n; skip = ke n }) p g ws) i
      (λ g. invoked g (record { run = run; slots = g.slots; room = room }) p i (record { enable = h; call = calls_same kc ke run fs n }) hs)

  -- the walks of a program, where the second one knows what the first one reveals
  pub walks : (kc : ℕ → Site → Held-TStmtNode-If-2 → CSt → CRes (Unit {0})) (ke : ℕ → Site → Held-TStmtNode-If-2 → ESt → ERes (Unit {0})) (run : Run) (fs : List TypedFunction) (entry dealt budget : ℕ) (o : C.Own) (o' : E.Own) → J.Own o o' → Follows SameVal (start E dealt [] budget o') (calls C kc run fs 1002 nowhere entry C.always 1001 [] (start C dealt [] budget o)) (calls E ke run fs 1002 nowhere entry E.always 1001 [])
  walks kc ke run fs entry dealt budget o o' h =
      calls_same kc ke run fs 1002 (start C dealt [] budget o) (start E dealt [] budget o') (record { blocks = none; dealt = refl; entered = refl; steps = refl; own = h }) nowhere entry C.always E.always 1001 [] [] (J.always o') no_vals
