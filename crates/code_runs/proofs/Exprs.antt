-- The code of expressions and places does what they do.
use Rattle.std.proofs.Common.{ℕ, suc, ◌+◌, ◌-◌, ◌≡◌, ◌<◌, ◌≤◌, List, [], ◌∷◌, ◌++◌, length, Option, Some, None, refl, sym, ap, ◌∙◌, subst, append-nil, arith, Bool, true, false, eq-eqb, eqb-true}
use Rattle.std.specs.Prelude.{pos, nat_eq, if◌then◌else◌, not, ◌&&◌}
use Rattle.oc_values.specs.declared.integers.IntKind.{IntKind}
use Rattle.oc_values.specs.declared.integers.IntKind.TheVariants.{I32}
use Rattle.oc_values.specs.declared.integers.BinaryOp.{BinaryOp}
use Rattle.std.specs.Fmt.{signed_decimal}
use Rattle.oc_values.specs.Integers.{convert, residue}
use Rattle.oc_values.specs.Kinds.{same_kind, is_minus}
use Rattle.oc_cells.specs.declared.types.CType.{CType, Int as CInt, Pointer' as CPointer', Array' as CArray', Struct, Nothing as CNothing}
use Rattle.oc_cells.specs.declared.memory.Address.{Address}
use Rattle.oc_cells.specs.declared.types.SlotType.{SlotType}
use Rattle.oc_cells.specs.Types.{kind_of, is_hidden, is_integer, is_pointer, is_struct, target}
use Rattle.oc_cells.specs.Layout.{leaves, size_of}
use Rattle.oc_source.specs.declared.spot.Spot.{Spot}
use Rattle.oc_typed.specs.declared.typed.PrintPiece.{PrintPiece}
use Rattle.oc_typed.specs.declared.typed.PrintPiece.TheVariants.{Text, Decimal, Byte}
use Rattle.oc_typed.specs.declared.typed.TExpr.{TExpr}
use Rattle.oc_typed.specs.declared.typed.TExprNode.{TExprNode, Number, NullPointer, Read', AddressOf', Decay', Unary', Binary', PointerStep', PointerSame', Logic', Choose', Assign', Update', Convert', Call', Builtin', Row_of-TExpr, end_of-TExpr, more_of-TExpr}
use Rattle.oc_typed.specs.declared.typed.TPlaceNode.{TPlaceNode, Slot, Deref', Index', Field', Row_of-TPlace, more_of-TPlace}
use Rattle.oc_typed.specs.declared.typed.Builtin.{Builtin}
use Rattle.oc_typed.specs.declared.typed.Builtin.TheVariants.{Private, Feed as FeedCall, Reveal as RevealCall, Give as GiveCall, PrivateCount, PublicCount as PublicCountCall, PublicWord as PublicWordCall, Print as PrintCall, Calloc, Malloc, Free as FreeCall}
use Rattle.oc_typed.specs.declared.typed.TStmtNode.{Held-TStmtNode-If-2}
use Rattle.oc_typed.specs.Static.{same_spot, spot_of, type_of, working_kind}
use Rattle.oc_walk.specs.declared.run.Named.{Named}
use Rattle.oc_walk.specs.declared.run.Source.{Source}
use Rattle.oc_walk.specs.declared.run.Source.TheVariants.{Word, Public}
use Rattle.oc_walk.specs.declared.run.Value.{Value}
use Rattle.oc_walk.specs.declared.run.Value.TheVariants.{Int, Pointer, Hidden, Nothing}
use Rattle.oc_walk.specs.Domain.{Domain}
use Rattle.oc_walk.specs.Walking.{Mem, State, Res, Go, Stop, Act, after, bind, pure, odd, choose, stilled, still, block_of, ahead, Site, deeper}
use Rattle.oc_walk.specs.Cells.{Goal, Only, gets, fetches, sets, V, M, S, A, starts_copy, copies_cell, copies_all, reads, puts, writes, addressed, moves, slot, variable}
use Rattle.oc_walk.specs.Exchange.{formatted, onto as onto_bytes, feeds, prints}
use Rattle.oc_walk.specs.Operations.{operates, turns as turns_kind}
use Rattle.oc_walk.specs.Expressions.{solely, Under, stepping, turned, copies, assigns, initializes, expr, place, place_one, one, exprs, whole}
use Rattle.oc_walk.specs.Builtins.{source_of, on_none, on_one, on_two, on_some, performs}
use Rattle.oc_code.specs.declared.code.Instr.TheVariants.{Move, Init, Copy, Invoke}
use Rattle.oc_code.specs.declared.code.Line.{Line}
use Rattle.oc_code.specs.Machine.{asked, Setup, Here, Conf, at, carried, puts_value, with_all, task_of, begun, went_on, popped, follow, next, and_then, exec}
use Rattle.oc_code.specs.Lower.{line, count, below, wrong_code, if_none, if_one, if_two, if_some, read_code, turn_code, assign_code, convert_code, ready_code, renew_code, feed_code, print_code, perform_code, expr_code, place_code, place_one_code, one_code, exprs_code}
use Rattle.code_runs.proofs.Runs.{Comes, stays, goes_one, Runs, went, stops, before, seq, stands, Quietly, Quiet, quiet_still, quiet_pure, quiet_odd, quiet_bind, Any, Does, does_one, does_none, does_seq, does_next, does_first, does_if}

-- values pushed in order
abbrev pub onto : {T : Type 0} → List T → List T → List T
onto [] us = us
onto (v ∷ vs) us = onto vs (v ∷ us)

pub popped_onto : (D : Domain) (vs us args : List (V D)) (k : ℕ) → popped D (length vs + k) (onto vs us) args ≡ popped D k us (vs ++ args)
popped_onto D [] us args k = let e : 0 + k ≡ k = omega arith in ap (λ i. popped D i us args) e
popped_onto D (v ∷ vs) us args k =
    let e : length (v ∷ vs) + k ≡ length vs + suc k = omega arith in
    ap (λ i. popped D i (onto vs (v ∷ us)) args) e ∙ popped_onto D vs (v ∷ us) args (suc k)

-- the arguments, as they were pushed
pub args_popped : (D : Domain) (vs us : List (V D)) → popped D (length vs) (onto vs us) [] ≡ Some (vs, us)
args_popped D vs us =
    let e : length vs ≡ length vs + 0 = omega arith in
    ap (λ i. popped D i (onto vs us) []) e ∙ popped_onto D vs us [] 0 ∙ ap (λ l. Some (l, us)) (append-nil vs)

-- what a format makes of another number of values than it asks for
pub formatted_none : {H : Type 0} (ps : List PrintPiece) (vs : List (Value H)) → (length vs ≡ asked ps → ⊥) → formatted ps vs ≡ None
formatted_none [] [] e = absurd (e refl)
formatted_none [] (v ∷ vs) e = refl
formatted_none (Text bytes ∷ ps) vs e = ap (onto_bytes bytes) (formatted_none ps vs e)
formatted_none (Decimal k ∷ ps) [] e = refl
formatted_none (Decimal k ∷ ps) (Int l n ∷ vs) e = ap (onto_bytes (signed_decimal (convert n k))) (formatted_none ps vs (λ q. e (ap suc q)))
formatted_none (Decimal k ∷ ps) (Pointer a ∷ vs) e = refl
formatted_none (Decimal k ∷ ps) (Hidden l x ∷ vs) e = refl
formatted_none (Decimal k ∷ ps) (Nothing ∷ vs) e = refl
formatted_none (Byte ∷ ps) [] e = refl
formatted_none (Byte ∷ ps) (Int l n ∷ vs) e = ap (onto_bytes (residue 8 n ∷ [])) (formatted_none ps vs (λ q. e (ap suc q)))
formatted_none (Byte ∷ ps) (Pointer a ∷ vs) e = refl
formatted_none (Byte ∷ ps) (Hidden l x ∷ vs) e = refl
formatted_none (Byte ∷ ps) (Nothing ∷ vs) e = refl

stilled_same : {H O T : Type 0} (s : State H O) (m : Mem H O) (q : Res (Mem H O) T) → stilled s q ≡ stilled (record s { mem = m }) q
stilled_same s m (Go a u) = refl
stilled_same s m (Stop w u) = refl

-- one action on the memory after another
pub still_bind : {H O T U : Type 0} (s : State H O) (r : Res (Mem H O) T) (k : T → Act (Mem H O) U) → stilled s (after r k) ≡ after (stilled s r) (λ a. still (k a))
still_bind s (Go a m) k = stilled_same s m (k a m)
still_bind s (Stop w m) k = refl

pub after_after : {S T U R : Type 0} (r : Res S T) (f : T → Act S U) (k : U → Act S R) → after (after r f) k ≡ after r (λ a. bind (f a) k)
after_after (Go a t) f k = refl
after_after (Stop w t) f k = refl

module _ (D : Domain) (g : Setup) (fuel : ℕ) (small : fuel ≤ 1001) (call : Spot → ℕ → D.Enable → ℕ → List (V D) → A D (V D)) (skip : Site → Held-TStmtNode-If-2 → A D (Unit {0})) where
  -- what surrounds a node's parts, at a call with these slots and so much room
  abbrev pub X : List SlotType → ℕ → Site
  X ss r = record { run = g.run; slots = ss; room = r }

  abbrev pub W : D.Enable → Under D
  W e = record { enable = e; call = call; skip = skip }

  -- the instruction of a call does what the walk's call does
  pub record CallsRun : Type 0 where
    pub run : (h : Here D) → h.room < fuel → (m : ℕ) → m < g.run.rounds → (es : List Named) (pc : ℕ) (us : List (V D)) (p : Spot) (f : ℕ) (vs : List (V D)) (d r : ℕ) → r ≡ h.room - d → Does D g h m es (Any D g h m es) pc (line p (Invoke f (length vs) (d + 1)) ∷ []) (onto vs us) (call p f h.enable r vs) (λ v. v ∷ us)

  module _ (calls_run : CallsRun) (h : Here D) (enough : h.room < fuel) (n : ℕ) (lt : n < g.run.rounds) (es : List Named) where
    abbrev lss : List (List CType)
    lss = g.run.structs

    abbrev All : {T : Type 0} → T → Type 0
    All a = Unit {0}

    abbrev On : {T : Type 0} → ℕ → List Line → List (V D) → A D T → (T → List (V D)) → Type 0
    On pc c vs m out = Does D g h n es All pc c vs m out

    deep : (r d : ℕ) → r ≡ h.room - d → r - 1 ≡ h.room - below d
    deep r d e = omega (arith, enough, small)

    -- what is left of a copy, one cell a beat
    copied_runs : (p : Spot) (e : D.Enable) (pc : ℕ) (vs : List (V D)) (ls : List CType) (to from : Address) (s : S D) → s.steps ≤ n → s.entered ≡ es → Runs D g (λ _ t. (t.entered ≡ es) × Unit {0}) n (record { here = h; place = pc; stack = vs; task = task_of D p e ls to from; state = s }) (λ _ t. at D h pc vs t) (still (copies_all D p e ls to from) s)
    copied_runs p e pc vs [] to from s le same = went (stays D g _) le (same, tt {0})
    copied_runs p e pc vs (l ∷ ls) to from s le same =
        subst (λ r. Runs D g (λ _ t. (t.entered ≡ es) × Unit {0}) n (record { here = h; place = pc; stack = vs; task = task_of D p e (l ∷ ls) to from; state = s }) (λ _ t. at D h pc vs t) r) (sym (still_bind s (copies_cell D p e l to from s.mem) (λ _. copies_all D p e ls (ahead 1 to) (ahead 1 from))))
        (cell_runs p e pc vs ls to from s (copies_cell D p e l to from s.mem) (record { here = h; place = pc; stack = vs; task = task_of D p e (l ∷ ls) to from; state = s }) refl (λ t l2 same2. copied_runs p e pc vs ls (ahead 1 to) (ahead 1 from) t l2 same2) le same)
      where
        cell_runs : (p : Spot) (e : D.Enable) (pc : ℕ) (vs : List (V D)) (ls : List CType) (to from : Address) (s : S D) (r : Res (M D) (V D)) (c : Conf D) → next D g c ≡ went_on D h pc vs (task_of D p e ls (ahead 1 to) (ahead 1 from)) (stilled s r) → ((t : S D) → t.steps ≤ n → t.entered ≡ es → Runs D g (λ _ t. (t.entered ≡ es) × Unit {0}) n (record { here = h; place = pc; stack = vs; task = task_of D p e ls (ahead 1 to) (ahead 1 from); state = t }) (λ _ t. at D h pc vs t) (still (copies_all D p e ls (ahead 1 to) (ahead 1 from)) t)) → s.steps ≤ n → s.entered ≡ es → Runs D g (λ _ t. (t.entered ≡ es) × Unit {0}) n c (λ _ t. at D h pc vs t) (after (stilled s r) (λ _. still (copies_all D p e ls (ahead 1 to) (ahead 1 from))))
        cell_runs p e pc vs ls to from s (Go v m) c does f le same = before D g (goes_one D g does) (f (record s { mem = m }) le same)
        cell_runs p e pc vs ls to from s (Stop w m) c does f le same = stops 1 (ap (λ o. and_then D o (exec D g 0)) does)

    copies_at : (p : Spot) (e : D.Enable) (pc : ℕ) (vs : List (V D)) (ls : List CType) (a : Address) (s : S D) (r : Res (M D) Address) (c : Conf D) → next D g c ≡ begun D h pc vs (λ b. task_of D p e ls a b) (stilled s r) → s.steps ≤ n → s.entered ≡ es → Runs D g (λ _ t. (t.entered ≡ es) × Unit {0}) n c (λ _ t. at D h pc vs t) (after (stilled s r) (λ b. still (copies_all D p e ls a b)))
    copies_at p e pc vs ls a s (Go b m) c does le same = before D g (goes_one D g does) (copied_runs p e pc vs ls a b (record s { mem = m }) le same)
    copies_at p e pc vs ls a s (Stop w m) c does le same = stops 1 (ap (λ o. and_then D o (exec D g 0)) does)

    -- a copy of a struct, whose instruction is this line
    copies_do : (p : Spot) (e : D.Enable) (pc : ℕ) (l : Line) (us vs : List (V D)) (ls : List CType) (a : Address) (v : V D) → ((s : S D) → follow D g (Some l) h pc us s ≡ begun D h (pc + 1) vs (λ b. task_of D p e ls a b) (still (starts_copy D p ls a v) s)) → On pc (l ∷ []) us (copies D p e ls a v) (λ _. vs)
    copies_do p e pc l us vs ls a v does = record { runs = λ s has le same. copies_at p e (pc + 1) vs ls a s (starts_copy D p ls a v s.mem) (at D h pc us s) (stands D g h pc us s l has.0 ∙ does s) le same }

    put_does : (p : Spot) (u : CType) (a : Address) (v : V D) (pc : ℕ) (us : List (V D)) → ((s : S D) → follow D g (Some (line p (Init u))) h pc (v ∷ Pointer a ∷ us) s ≡ carried D h (pc + 1) (after (still (puts D p u a v) s) (λ _. pure us))) → On pc (line p (Init u) ∷ []) (v ∷ Pointer a ∷ us) (bind (still (puts D p u a v)) (λ _. pure (tt {0}))) (λ _. us)
    put_does p u a v pc us does = does_one D g h n es (quiet_bind D g {T = V D} (quiet_still D g (puts D p u a v)) (λ _. (quiet_pure D g))) (λ s. does s ∙ ap (λ r. carried D h (pc + 1) r) (sym (after_after (still (puts D p u a v) s) (λ _. pure (tt {0})) (λ _. pure us))))

    -- an initialiser's write
    pub initializes_do : (p : Spot) (u : CType) (a : Address) (v : V D) (pc : ℕ) (us : List (V D)) → On pc (line p (Init u) ∷ []) (v ∷ Pointer a ∷ us) (initializes D p lss u a v) (λ _. us)
    initializes_do p (Struct k) a v pc us = copies_do p D.always pc (line p (Init (Struct k))) (v ∷ Pointer a ∷ us) us (leaves lss (Struct k)) a v (λ s. refl)
    initializes_do p (CInt k o) a v pc us = put_does p (CInt k o) a v pc us (λ s. refl)
    initializes_do p (CPointer' f y t) a v pc us = put_does p (CPointer' f y t) a v pc us (λ s. refl)
    initializes_do p (CArray' k y t) a v pc us = put_does p (CArray' k y t) a v pc us (λ s. refl)
    initializes_do p CNothing a v pc us = put_does p CNothing a v pc us (λ s. refl)

    step_quiet : (p : Spot) (size : ℕ) (back : Bool) (v z : V D) → Quiet D g (stepping D p size back v z)
    step_quiet p size back v z = quiet_bind D g (quiet_still D g _) (λ a. (quiet_pure D g))

    -- a result by another name, with no code
    does_map : {T U : Type 0} {Q : T → Type 0} {R : U → Type 0} {pc : ℕ} {c : List Line} {vs : List (V D)} {m : A D T} {mid : T → List (V D)} {out : U → List (V D)} (f : T → U) → Does D g h n es Q pc c vs m mid → ((a : T) → Q a → R (f a)) → ((a : T) → mid a ≡ out (f a)) → Does D g h n es R pc c vs (bind m (λ a. pure (f a))) out
    does_map {pc = pc} {c = c} {mid = mid} f x r e = record { runs = λ s has le same. seq D g (x.runs s has le same) (λ a t l p. went (subst (λ us. Comes D g (at D h (pc + length c) (mid a) t) (at D h (pc + length c) us t)) (e a) (stays D g _)) l (p.0, r a p.1)) }

    step_does : (p : Spot) (size : ℕ) (back : Bool) (v z : V D) (pc : ℕ) (us : List (V D)) → On pc (line p (Move size back) ∷ []) (z ∷ v ∷ us) (stepping D p size back v z) (λ v. v ∷ us)
    step_does p size back v z pc us = does_one D g h n es (step_quiet p size back v z) (λ s. ap (λ r. carried D h (pc + 1) r) (sym (after_after (still (moves D p size back v z) s) (λ a. pure (Pointer a)) (λ v. pure (v ∷ us)))))

    slot_at : (p : Spot) (o : Option ℕ) (s : S D) → Quietly D g s (variable D p o s)
    slot_at p (Some b) s = (refl, refl)
    slot_at p None s = tt

    slot_quiet : (p : Spot) (k : ℕ) → Quiet D g (slot D p k)
    slot_quiet p k = record { is = λ s. slot_at p (block_of k s.entered) s }

    -- what stands on the stack for a goal
    abbrev goal_value : Goal D.Hidden → V D
    goal_value (Only a) = Pointer a

    goal_at : {U : Type 0} {R : U → Type 0} {pc : ℕ} {c : List Line} {us : List (V D)} {out : U → List (V D)} (k : Goal D.Hidden → A D U) → ((a : Address) → Does D g h n es R pc c (Pointer a ∷ us) (k (Only a)) out) → (i : Goal D.Hidden) → Does D g h n es R pc c (goal_value i ∷ us) (k i) out
    goal_at k f (Only a) = f a

    -- code of a place, and what follows with its address
    goal_seq : {U : Type 0} {R : U → Type 0} {pc : ℕ} {a b : List Line} {us vs : List (V D)} {m : A D (Goal D.Hidden)} {out : U → List (V D)} (k : Goal D.Hidden → A D U) → On pc a vs m (λ i. goal_value i ∷ us) → ((i : Address) → Does D g h n es R (pc + length a) b (Pointer i ∷ us) (k (Only i)) out) → Does D g h n es R pc (a ++ b) vs (bind m k) out
    goal_seq {us = us} k x f = does_seq D g h n es {mid = λ i. goal_value i ∷ us} x (λ i _. goal_at k f i)

    sole_at : {pc : ℕ} (z : Spot) (i : Goal D.Hidden) (us : List (V D)) (t : S D) → t.steps ≤ n → t.entered ≡ es → Runs D g (λ _ u. (u.entered ≡ es) × Unit {0}) n (at D h pc (goal_value i ∷ us) t) (λ v u. at D h pc (v ∷ us) u) (bind (solely D z i) (λ a. pure (Pointer a)) t)
    sole_at z (Only a) us t le same = went (stays D g _) le (same, tt {0})

    sole_does : {pc : ℕ} {c : List Line} {us vs : List (V D)} {m : A D (Goal D.Hidden)} (z : Spot) → On pc c vs m (λ i. goal_value i ∷ us) → On pc c vs (bind m (λ i. bind (solely D z i) (λ a. pure (Pointer a)))) (λ v. v ∷ us)
    sole_does {us = us} z x = record { runs = λ s has le same. seq D g (x.runs s has le same) (λ i t l p. sole_at z i us t l p.0) }

    placed_does : {pc : ℕ} {c : List Line} {us vs : List (V D)} {m : A D Address} → On pc c vs m (λ a. Pointer a ∷ us) → On pc c vs (bind m (λ a. pure (Only a))) (λ i. goal_value i ∷ us)
    placed_does x = does_map (λ a. Only a) x (λ _ _. tt {0}) (λ a. refl)

    read_does : (b : Bool) (q : Spot) (u : CType) (a : Address) (pc : ℕ) (us : List (V D)) → On pc (read_code b q u) (Pointer a ∷ us) (still (choose b (pure (Pointer a)) (reads D q u a))) (λ v. v ∷ us)
    read_does true q u a pc us = does_none D g h n es refl
    read_does false q u a pc us = does_one D g h n es (quiet_still D g _) (λ s. refl)

    turn_does : (b : Bool) (p : Spot) (k l : IntKind) (v : V D) (pc : ℕ) (us : List (V D)) → On pc (turn_code b p k l) (v ∷ us) (choose b (pure v) (still (turns_kind D p k l false v))) (λ v. v ∷ us)
    turn_does true p k l v pc us = does_none D g h n es refl
    turn_does false p k l v pc us = does_one D g h n es (quiet_still D g _) (λ s. refl)

    assign_does : (q r : Spot) (u : CType) (room : ℕ) (a : Address) (v : V D) (pc : ℕ) (us : List (V D)) → On pc (assign_code q r u) (v ∷ Pointer a ∷ us) (assigns D (X h.slots room) h.enable q r u (Only a) v) (λ v. v ∷ us)
    assign_does q r (Struct k) room a v pc us =
        does_map (λ _. Pointer a) (copies_do r h.enable pc (line r (Copy k)) (v ∷ Pointer a ∷ us) (Pointer a ∷ us) (leaves lss (Struct k)) a v (λ s. refl)) (λ _ _. tt {0}) (λ _. refl)
    assign_does q r (CInt k o) room a v pc us = does_one D g h n es (quiet_still D g (writes D q h.enable (CInt k o) a v)) (λ s. refl)
    assign_does q r (CPointer' f y t) room a v pc us = does_one D g h n es (quiet_still D g (writes D q h.enable (CPointer' f y t) a v)) (λ s. refl)
    assign_does q r (CArray' k y t) room a v pc us = does_one D g h n es (quiet_still D g (writes D q h.enable (CArray' k y t) a v)) (λ s. refl)
    assign_does q r CNothing room a v pc us = does_one D g h n es (quiet_still D g (writes D q h.enable CNothing a v)) (λ s. refl)

    convert_does : (b : Bool) (p : Spot) (t u : CType) (v : V D) (pc : ℕ) (us : List (V D)) → On pc (convert_code b p t u) (v ∷ us) (choose b (still (turns_kind D p (kind_of t) (kind_of u) (is_hidden u && not (is_hidden t)) v)) (pure v)) (λ v. v ∷ us)
    convert_does true p t u v pc us = does_one D g h n es (quiet_still D g _) (λ s. refl)
    convert_does false p t u v pc us = does_none D g h n es refl

    ready_does : (b : Bool) (p : Spot) (op : BinaryOp) (u t : CType) (v : V D) (pc : ℕ) (us : List (V D)) → On pc (ready_code b p op u t) (v ∷ us) (choose b (pure v) (turned D p (kind_of u) (working_kind op u t) v)) (λ v. v ∷ us)
    ready_does true p op u t v pc us = does_none D g h n es refl
    ready_does false p op u t v pc us = turn_does (same_kind (kind_of u) (working_kind op u t)) p (kind_of u) (working_kind op u t) v pc us

    renew_does : (b : Bool) (p : Spot) (op : BinaryOp) (u t : CType) (y v : V D) (pc : ℕ) (us : List (V D)) → On pc (renew_code b lss p op u t) (v ∷ y ∷ us) (choose b (stepping D p (size_of lss (target u)) (is_minus op) y v) (bind (still (operates D p op (working_kind op u t) (is_hidden u) y v)) (λ z. turned D p (working_kind op u t) (kind_of u) z))) (λ v. v ∷ us)
    renew_does true p op u t y v pc us = step_does p (size_of lss (target u)) (is_minus op) y v pc us
    renew_does false p op u t y v pc us =
        does_next D g h n es {mid = λ z. z ∷ us} (quiet_still D g _) (λ s. refl) (λ z. turn_does (same_kind (working_kind op u t) (kind_of u)) p (working_kind op u t) (kind_of u) z (pc + 1) us)

    -- a call of the language's own with another number of arguments than it has
    wrong_does : {T : Type 0} (p : Spot) (pc : ℕ) (vs : List (V D)) (out : T → List (V D)) → On pc (wrong_code p) vs (odd p) out
    wrong_does p pc [] out = does_one D g h n es (quiet_odd D g p) (λ s. refl)
    wrong_does p pc (Int k z ∷ vs) out = does_one D g h n es (quiet_odd D g p) (λ s. refl)
    wrong_does p pc (Pointer a ∷ vs) out = does_one D g h n es (quiet_odd D g p) (λ s. refl)
    wrong_does p pc (Hidden k z ∷ vs) out = does_one D g h n es (quiet_odd D g p) (λ s. refl)
    wrong_does p pc (Nothing ∷ vs) out = does_one D g h n es (quiet_odd D g p) (λ s. refl)

    none_does : (p : Spot) (pc : ℕ) (c : List Line) (vs us : List (V D)) (k : A D (V D)) → On pc c us k (λ v. v ∷ us) → On pc (if_none p (length vs) c) (onto vs us) (on_none D p vs k) (λ v. v ∷ us)
    none_does p pc c [] us k f = f
    none_does p pc c (v ∷ vs) us k f = wrong_does p pc _ _

    one_does : (p : Spot) (pc : ℕ) (c : List Line) (vs us : List (V D)) (k : V D → A D (V D)) → ((v : V D) → On pc c (v ∷ us) (k v) (λ v. v ∷ us)) → On pc (if_one p (length vs) c) (onto vs us) (on_one D p vs k) (λ v. v ∷ us)
    one_does p pc c [] us k f = wrong_does p pc _ _
    one_does p pc c (v ∷ []) us k f = f v
    one_does p pc c (v ∷ z ∷ vs) us k f = wrong_does p pc _ _

    two_does : (p : Spot) (pc : ℕ) (c : List Line) (vs us : List (V D)) (k : V D → V D → A D (V D)) → ((v z : V D) → On pc c (z ∷ v ∷ us) (k v z) (λ v. v ∷ us)) → On pc (if_two p (length vs) c) (onto vs us) (on_two D p vs k) (λ v. v ∷ us)
    two_does p pc c [] us k f = wrong_does p pc _ _
    two_does p pc c (v ∷ []) us k f = wrong_does p pc _ _
    two_does p pc c (v ∷ z ∷ []) us k f = f v z
    two_does p pc c (v ∷ z ∷ y ∷ vs) us k f = wrong_does p pc _ _

    some_does : (p : Spot) (pc : ℕ) (c d : List Line) (vs us : List (V D)) (k : V D → A D (V D)) → On pc c us (k (Int I32 (pos 1))) (λ v. v ∷ us) → ((v : V D) → On pc d (v ∷ us) (k v) (λ v. v ∷ us)) → On pc (if_some p (length vs) c d) (onto vs us) (on_some D p vs k) (λ v. v ∷ us)
    some_does p pc c d [] us k f0 f = f0
    some_does p pc c d (v ∷ []) us k f0 f = f v
    some_does p pc c d (v ∷ z ∷ vs) us k f0 f = wrong_does p pc _ _

    print_does : (b : Bool) (p : Spot) (ps : List PrintPiece) (vs us : List (V D)) (pc : ℕ) → nat_eq (length vs) (asked ps) ≡ b → On pc (print_code b p ps) (onto vs us) (still (prints D p (formatted ps vs))) (λ v. v ∷ us)
    print_does true p ps vs us pc e =
        let q : length vs ≡ asked ps = eqb-true (length vs) (asked ps) e in
        let x : popped D (asked ps) (onto vs us) [] ≡ Some (vs, us) = subst (λ i. popped D i (onto vs us) [] ≡ Some (vs, us)) q (args_popped D vs us) in
        does_one D g h n es (quiet_still D g _) (λ s. ap (λ o. carried D h (pc + 1) (with_all D p o (λ args us. puts_value D us (still (prints D p (formatted ps args)))) s)) x)
    print_does false p ps vs us pc e =
        subst (λ o. On pc (wrong_code p) (onto vs us) (still (prints D p o)) (λ v. v ∷ us)) (sym (formatted_none ps vs (λ q. let z = eq-eqb (length vs) (asked ps) q in (cc)))) (wrong_does p pc (onto vs us) (λ v. v ∷ us))

    feed_does : (c : Source) (p : Spot) (k : IntKind) (party : ℕ) (v : V D) (pc : ℕ) (us : List (V D)) → On pc (feed_code c k party) (v ∷ us) (still (feeds D g.run.known p c party k v)) (λ v. v ∷ us)
    feed_does (Word q) p k party v pc us = does_one D g h n es (quiet_still D g _) (λ s. refl)
    feed_does Public p k party v pc us = does_none D g h n es refl

    perform_does : (which : Builtin) (p : Spot) (t : CType) (c : Source) (room : ℕ) (vs us : List (V D)) (pc : ℕ) → On pc (perform_code p t c which (length vs)) (onto vs us) (performs D (X h.slots room) p t c which vs) (λ v. v ∷ us)
    perform_does Private p t c room vs us pc = one_does p pc _ vs us _ (λ v. does_none D g h n es refl)
    perform_does (FeedCall k party) p t c room vs us pc = one_does p pc _ vs us _ (λ v. feed_does c p k party v pc us)
    perform_does (RevealCall k) p t c room vs us pc =
        two_does p pc _ vs us _ (λ a v. does_next D g h n es {mid = λ y. y ∷ a ∷ us} (quiet_still D g _) (λ s. refl) (λ y. does_one D g h n es (quiet_bind D g {T = Address} (quiet_still D g (addressed D p a)) (λ b. quiet_still D g (puts D p (CInt k false) b y))) (λ s. ap (λ r. carried D h (pc + 1 + 1) r) (sym (after_after (still (addressed D p a) s) (λ b. still (puts D p (CInt k false) b y)) (λ v. pure (v ∷ us)))))))
    perform_does (GiveCall k party) p t c room vs us pc = one_does p pc _ vs us _ (λ v. does_one D g h n es (quiet_still D g _) (λ s. refl))
    perform_does (PrivateCount party) p t c room vs us pc = none_does p pc _ vs us _ (does_one D g h n es (quiet_pure D g) (λ s. refl))
    perform_does PublicCountCall p t c room vs us pc = none_does p pc _ vs us _ (does_one D g h n es (quiet_pure D g) (λ s. refl))
    perform_does PublicWordCall p t c room vs us pc = one_does p pc _ vs us _ (λ v. does_one D g h n es (quiet_still D g _) (λ s. refl))
    perform_does (PrintCall ps) p t c room vs us pc = print_does (nat_eq (length vs) (asked ps)) p ps vs us pc refl
    perform_does Calloc p t c room vs us pc = one_does p pc _ vs us _ (λ v. does_one D g h n es (quiet_still D g _) (λ s. refl))
    perform_does Malloc p t c room vs us pc = some_does p pc _ _ vs us _ (does_first D g h n es (λ s. refl) (does_one D g h n es (quiet_still D g _) (λ s. refl))) (λ v. does_one D g h n es (quiet_still D g _) (λ s. refl))
    perform_does FreeCall p t c room vs us pc = one_does p pc _ vs us _ (λ v. does_one D g h n es (quiet_still D g _) (λ s. refl))

    -- by a Boolean that is known before the run
    by_mark : {T : Type 0} (b : Bool) (pc : ℕ) (c1 c0 : List Line) (us : List (V D)) (m1 m0 : A D T) (out : T → List (V D)) → On pc c1 us m1 out → On pc c0 us m0 out → On pc (if b then c1 else c0) us (choose b m1 m0) out
    by_mark true pc c1 c0 us m1 m0 out f1 f0 = f1
    by_mark false pc c1 c0 us m1 m0 out f1 f0 = f0

    -- the part of a conversion, which may count for nothing
    lightly : (b : Bool) (r d : ℕ) → r ≡ h.room - d → (e : Row_of-TExpr 1) (pc : ℕ) (us : List (V D)) → ((r d : ℕ) → r ≡ h.room - d → On pc (one_code lss d pc e) us (one D (X h.slots r) (W h.enable) e) (λ v. v ∷ us)) → On pc (one_code lss (if b then d else below d) pc e) us (one D (if b then X h.slots r else deeper (X h.slots r)) (W h.enable) e) (λ v. v ∷ us)
    lightly true r d q e pc us f = f r d q
    lightly false r d q e pc us f = f (r - 1) (below d) (deep r d q)

    mutual
      pub expr_does : (r d : ℕ) → r ≡ h.room - d → (p : Spot) (t : CType) (e : TExprNode) (pc : ℕ) (us : List (V D)) → On pc (expr_code lss d pc p t e) us (expr D (X h.slots r) (W h.enable) p t e) (λ v. v ∷ us)
      expr_does r d q p t (Number k) pc us = does_one D g h n es (quiet_pure D g) (λ s. refl)
      expr_does r d q p t NullPointer pc us = does_one D g h n es (quiet_pure D g) (λ s. refl)
      expr_does r d q p t (Read' z u c) pc us = goal_seq _ (place_does (r - 1) (below d) (deep r d q) z u c pc us) (λ a. read_does (is_struct u) z u a _ us)
      expr_does r d q p t (AddressOf' z u c) pc us = sole_does z (place_does (r - 1) (below d) (deep r d q) z u c pc us)
      expr_does r d q p t (Decay' z u c) pc us = sole_does z (place_does (r - 1) (below d) (deep r d q) z u c pc us)
      expr_does r d q p t (Unary' op _ e) pc us = does_seq D g h n es (one_expr_does (r - 1) (below d) (deep r d q) e pc us) (λ v _. does_one D g h n es (quiet_still D g _) (λ s. refl))
      expr_does r d q p t (Binary' op _ l _ e) pc us =
          does_seq D g h n es (one_expr_does (r - 1) (below d) (deep r d q) l pc us) (λ v _. does_seq D g h n es (one_expr_does (r - 1) (below d) (deep r d q) e _ (v ∷ us)) (λ z _. does_one D g h n es (quiet_still D g _) (λ s. refl)))
      expr_does r d q p t (PointerStep' _ l _ e back false) pc us =
          does_seq D g h n es (one_expr_does (r - 1) (below d) (deep r d q) l pc us) (λ v _. does_seq D g h n es (one_expr_does (r - 1) (below d) (deep r d q) e _ (v ∷ us)) (λ z _. step_does p (size_of lss (target t)) back v z _ us))
      expr_does r d q p t (PointerStep' _ l _ e back true) pc us =
          does_seq D g h n es (one_expr_does (r - 1) (below d) (deep r d q) e pc us) (λ z _. does_seq D g h n es (one_expr_does (r - 1) (below d) (deep r d q) l _ (z ∷ us)) (λ v _. does_first D g h n es (λ s. refl) (step_does p (size_of lss (target t)) back v z _ us)))
      expr_does r d q p t (PointerSame' _ l _ e negated) pc us =
          does_seq D g h n es (one_expr_does (r - 1) (below d) (deep r d q) l pc us) (λ v _. does_seq D g h n es (one_expr_does (r - 1) (below d) (deep r d q) e _ (v ∷ us)) (λ z _. does_one D g h n es (quiet_still D g _) (λ s. refl)))
      expr_does r d q p t (Logic' true _ l _ e) pc us =
          by_mark (is_hidden t) pc _ _ us _ _ _
          (does_seq D g h n es (one_expr_does (r - 1) (below d) (deep r d q) l pc us) (λ v _. does_seq D g h n es (one_expr_does (r - 1) (below d) (deep r d q) e _ (v ∷ us)) (λ z _. does_one D g h n es (quiet_still D g _) (λ s. refl))))
          (does_if D g h n es p _ (one_expr_does (r - 1) (below d) (deep r d q) l pc us)
          (does_seq D g h n es (one_expr_does (r - 1) (below d) (deep r d q) e _ us) (λ z _. does_one D g h n es (quiet_still D g _) (λ s. refl)))
          (does_one D g h n es (quiet_pure D g) (λ s. refl)))
      expr_does r d q p t (Logic' false _ l _ e) pc us =
          by_mark (is_hidden t) pc _ _ us _ _ _
          (does_seq D g h n es (one_expr_does (r - 1) (below d) (deep r d q) l pc us) (λ v _. does_seq D g h n es (one_expr_does (r - 1) (below d) (deep r d q) e _ (v ∷ us)) (λ z _. does_one D g h n es (quiet_still D g _) (λ s. refl))))
          (does_if D g h n es p _ (one_expr_does (r - 1) (below d) (deep r d q) l pc us)
          (does_one D g h n es (quiet_pure D g) (λ s. refl))
          (does_seq D g h n es (one_expr_does (r - 1) (below d) (deep r d q) e _ us) (λ z _. does_one D g h n es (quiet_still D g _) (λ s. refl))))
      expr_does r d q p t (Choose' _ c _ l _ e) pc us =
          does_if D g h n es p _ (one_expr_does (r - 1) (below d) (deep r d q) c pc us) (one_expr_does (r - 1) (below d) (deep r d q) l _ us) (one_expr_does (r - 1) (below d) (deep r d q) e _ us)
      expr_does r d q p t (Assign' z u c _ e) pc us =
          goal_seq _ (place_does (r - 1) (below d) (deep r d q) z u c pc us) (λ a. does_seq D g h n es (one_expr_does (r - 1) (below d) (deep r d q) e _ (Pointer a ∷ us)) (λ v _. assign_does z (spot_of e) u r a v _ us))
      expr_does r d q p t (Update' op z u c _ e false) pc us =
          goal_seq _ (place_does (r - 1) (below d) (deep r d q) z u c pc us) (λ a.
          does_first D g h n es {us = Pointer a ∷ Pointer a ∷ us} (λ s. refl) (does_seq D g h n es (one_expr_does (r - 1) (below d) (deep r d q) e _ (Pointer a ∷ Pointer a ∷ us)) (λ v _.
          does_first D g h n es {us = Pointer a ∷ v ∷ Pointer a ∷ us} (λ s. refl) (does_next D g h n es {mid = λ o. o ∷ v ∷ Pointer a ∷ us} (quiet_still D g _) (λ s. refl) (λ o.
          does_seq D g h n es (ready_does (is_pointer u) p op u (type_of e) o _ (v ∷ Pointer a ∷ us)) (λ y _.
          does_first D g h n es {us = v ∷ y ∷ Pointer a ∷ us} (λ s. refl) (does_seq D g h n es (renew_does (is_pointer u) p op u (type_of e) y v _ (Pointer a ∷ us)) (λ w _.
          does_one D g h n es (quiet_still D g _) (λ s. refl)))))))))
      expr_does r d q p t (Update' op z u c _ e true) pc us =
          goal_seq _ (place_does (r - 1) (below d) (deep r d q) z u c pc us) (λ a.
          does_first D g h n es {us = Pointer a ∷ Pointer a ∷ us} (λ s. refl) (does_next D g h n es {mid = λ o. o ∷ Pointer a ∷ us} (quiet_still D g _) (λ s. refl) (λ old.
          does_first D g h n es {us = Pointer a ∷ old ∷ us} (λ s. refl) (does_first D g h n es {us = Pointer a ∷ Pointer a ∷ old ∷ us} (λ s. refl) (does_next D g h n es {mid = λ o. o ∷ Pointer a ∷ old ∷ us} (quiet_still D g _) (λ s. refl) (λ o.
          does_seq D g h n es (ready_does (is_pointer u) p op u (type_of e) o _ (Pointer a ∷ old ∷ us)) (λ y _.
          does_seq D g h n es (one_expr_does (r - 1) (below d) (deep r d q) e _ (y ∷ Pointer a ∷ old ∷ us)) (λ v _.
          does_seq D g h n es (renew_does (is_pointer u) p op u (type_of e) y v _ (Pointer a ∷ old ∷ us)) (λ w _.
          does_next D g h n es {mid = λ x. x ∷ old ∷ us} (quiet_still D g _) (λ s. refl) (λ x. does_one D g h n es (quiet_pure D g) (λ s. refl)))))))))))
      expr_does r d q p t (Convert' _ e) pc us =
          does_seq D g h n es (lightly (same_spot p (spot_of e)) r d q e pc us (λ r d q. one_expr_does r d q e pc us)) (λ v _. convert_does (is_integer t) p (type_of e) t v _ us)
      expr_does r d q p t (Call' f _ xs) pc us =
          does_seq D g h n es (exprs_does (r - 1) (below d) (deep r d q) xs pc us) (λ vs k. subst (λ i. On (pc + length (exprs_code lss (below d) pc xs)) (line p (Invoke f i (d + 1)) ∷ []) (onto vs us) (call p f h.enable r vs) (λ v. v ∷ us)) k (calls_run.run h enough n lt es _ us p f vs d r q))
      expr_does r d q p t (Builtin' which _ xs) pc us =
          does_seq D g h n es (exprs_does (r - 1) (below d) (deep r d q) xs pc us) (λ vs k. subst (λ i. On (pc + length (exprs_code lss (below d) pc xs)) (perform_code p t (source_of xs) which i) (onto vs us) (performs D (X h.slots r) p t (source_of xs) which vs) (λ v. v ∷ us)) k (perform_does which p t (source_of xs) r vs us _))

      pub place_does : (r d : ℕ) → r ≡ h.room - d → (p : Spot) (t : CType) (e : TPlaceNode) (pc : ℕ) (us : List (V D)) → On pc (place_code lss d pc p t e) us (place D (X h.slots r) (W h.enable) p t e) (λ i. goal_value i ∷ us)
      place_does r d q p t (Slot k) pc us = placed_does (does_one D g h n es (slot_quiet p k) (λ s. refl))
      place_does r d q p t (Deref' _ e) pc us = does_seq D g h n es (one_expr_does (r - 1) (below d) (deep r d q) e pc us) (λ v _. placed_does (does_one D g h n es (quiet_still D g _) (λ s. refl)))
      place_does r d q p t (Index' _ l _ e) pc us =
          does_seq D g h n es (one_expr_does (r - 1) (below d) (deep r d q) l pc us) (λ v _. does_seq D g h n es (one_expr_does (r - 1) (below d) (deep r d q) e _ (v ∷ us)) (λ z _. placed_does (does_one D g h n es (quiet_still D g _) (λ s. refl))))
      place_does r d q p t (Field' _ b k) pc us = goal_seq _ (place_one_does (r - 1) (below d) (deep r d q) b pc us) (λ a. does_one D g h n es (quiet_pure D g) (λ s. refl))

      pub place_one_does : (r d : ℕ) → r ≡ h.room - d → (b : Row_of-TPlace 1) (pc : ℕ) (us : List (V D)) → On pc (place_one_code lss d pc b) us (place_one D (X h.slots r) (W h.enable) b) (λ i. goal_value i ∷ us)
      place_one_does r d q (more_of-TPlace z u c rest) pc us = place_does r d q z u c pc us

      pub one_expr_does : (r d : ℕ) → r ≡ h.room - d → (e : Row_of-TExpr 1) (pc : ℕ) (us : List (V D)) → On pc (one_code lss d pc e) us (one D (X h.slots r) (W h.enable) e) (λ v. v ∷ us)
      one_expr_does r d q (more_of-TExpr z u c rest) pc us = expr_does r d q z u c pc us

      pub exprs_does : {m : _} (r d : ℕ) → r ≡ h.room - d → (xs : Row_of-TExpr m) (pc : ℕ) (us : List (V D)) → Does D g h n es (λ vs. length vs ≡ count xs) pc (exprs_code lss d pc xs) us (exprs D (X h.slots r) (W h.enable) xs) (λ vs. onto vs us)
      exprs_does r d q end_of-TExpr pc us = record { runs = λ s has le same. let z : pc ≡ pc + 0 = omega arith in went (subst (λ i. Comes D g (at D h pc us s) (at D h i us s)) z (stays D g _)) le (same, refl) }
      exprs_does r d q (more_of-TExpr z u c rest) pc us =
          does_seq D g h n es (expr_does r d q z u c pc us) (λ v _. does_map (λ vs. v ∷ vs) (exprs_does r d q rest _ (v ∷ us)) (λ vs k. ap suc k) (λ vs. refl))

    -- an expression in a statement
    pub whole_does : (r d : ℕ) → r ≡ h.room - d → (e : TExpr) (pc : ℕ) (us : List (V D)) → On pc (expr_code lss d pc e.spot e.ty e.node) us (whole D (X h.slots r) (W h.enable) e) (λ v. v ∷ us)
    whole_does r d q e pc us = expr_does r d q e.spot e.ty e.node pc us
