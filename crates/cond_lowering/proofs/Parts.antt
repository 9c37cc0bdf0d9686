-- The code of each form of a statement, as the pieces that the Rust code adds.
use Rattle.std.proofs.Common.{ℕ, ◌+◌, ◌≡◌, ◌<◌, ◌≤◌, List, [], ◌∷◌, ◌++◌, length, drop, get_or, Option, Some, None, refl, sym, ap, ◌∙◌, true, false, arith, length-append, append_assoc, append-nil, OnOk, Result}
use Rattle.std.specs.Prelude.{slice_set}
use Rattle.std.proofs.Math.Seq.{set-append_seam}
use Rattle.std.proofs.lemmas.List.{drop_all}
use Rattle.oc_cells.specs.declared.types.CType.{CType}
use Rattle.oc_source.specs.declared.spot.Spot.{Spot}
use Rattle.oc_typed.specs.declared.typed.TExpr.{TExpr}
use Rattle.oc_typed.specs.declared.typed.TDeclared.{TDeclared}
use Rattle.oc_typed.specs.declared.typed.TForInit.{TForInit}
use Rattle.oc_typed.specs.declared.typed.TStmt.{TStmt}
use Rattle.oc_typed.specs.declared.typed.TStmtNode.{TStmtNode, Block, If, OblivIf, Always as AlwaysStmt, While, For, Row_of-TStmt}
use Rattle.oc_typed.specs.declared.typed.TStmtNode.TheBlock.{hidden-the_row-TStmt-0, hidden-the_row-TStmt-1, back-the_row-TStmt}
use Rattle.sqlite_items.specs.formers.items.Items.{the_former}
use denote.Hole.Carrier.{hidden}
use mathlib.Core.Former.{this, list_count, children}
use mathlib.Core.List.{map}
use Rattle.oc_code.specs.declared.code.Instr.TheVariants.{Step, EndWhen, Always, EndAlways, Jump}
use Rattle.oc_code.specs.declared.code.Line.{Line}
use Rattle.oc_code.specs.Lower.{Coding, line, below, node_code, stmts_code, end_code, declared, leave_code, header_slots, when_code, loop_code, whole_code, test_code, test_or_code, header_code, advance_code}
use Rattle.cond_lowering.specs.declared.ways.Exit.{Exit}
use Rattle.cond_lowering.specs.declared.ways.ExitKind.TheVariants.{Part, Lift, Loop}
use Rattle.cond_lowering.specs.Pieces.{Piece, one, fixed, seq, Adds}
use Rattle.cond_lowering.specs.Ways.{way, entered}
use Rattle.cond_lowering.specs.Statements.{stmt_of, turn_of, if_of, when_of, always_of, while_of, for_of, stmts_of, declare_of, declares_of, loop_of, head_of, listed_of}
use Rattle.cond_lowering.proofs.Adding.{told_as, adds_as, adds_length}
use Rattle.cond_lowering.proofs.Loops.{next_left, left_next}
use Rattle.cond_lowering.proofs.Exits.{way_last, way_entered}

-- statements as the row that the tree keeps
abbrev row_of : (ss : List TStmt) → Row_of-TStmt (list_count (this {0}) (map (λ x. (this {0}).shape TStmt x) ss) 0)
row_of ss = back-the_row-TStmt (list_count (this {0}) (map (λ x. (this {0}).shape TStmt x) ss) 0) (children (the_former (this {0})) TStmt ss)

module _ (k : Coding) (t : CType) (d : ℕ) (es : List Exit) (p : Spot) where
  -- a statement with its step, by its ways out
  abbrev step_at : List Line → List Line → ℕ → TStmt → List Line
  step_at x y n s = line s.spot Step ∷ node_code k (below d) x y (n + 1) s.spot s.node

  -- a part, by its ways out
  abbrev part_at : List Line → List Line → ℕ → TStmt → List Line
  part_at x y n s = line s.spot Step ∷ (node_code k (below d) x y (n + 1) s.spot s.node ++ leave_code s.spot (declared s.node))

  -- the ways out
  abbrev broken : List Exit → List Line
  broken fs = way false fs (end_code t)

  abbrev again : List Exit → List Line
  again fs = way true fs (end_code t)

  rows_at : (mine : List ℕ) (n : ℕ) (ss : List TStmt) → stmts_code k d (broken es) (again es) p mine n (row_of ss) ≡ stmts_of k t d es p mine ss n
  unfolding hidden
  rows_at mine n [] = refl
  rows_at mine n (s ∷ ss) =
      let fs = es ++ entered p mine in
      let rest = declared s.node ++ mine in
      let x = leave_code p mine ++ broken es in
      let y = leave_code p mine ++ again es in
      let a = step_at (broken fs) (again fs) n s in
      ap (λ x. step_at x y n s ++ stmts_code k d (broken es) (again es) p rest (n + length (step_at x y n s)) (row_of ss)) (sym (way_entered false es p mine (end_code t)))
      ∙ ap (λ y. step_at (broken fs) y n s ++ stmts_code k d (broken es) (again es) p rest (n + length (step_at (broken fs) y n s)) (row_of ss)) (sym (way_entered true es p mine (end_code t)))
      ∙ ap (λ l. a ++ l) (rows_at rest (n + length a) ss)

  module _ (n : ℕ) where
    pub block_at : (ss : List TStmt) → node_code k d (broken es) (again es) n p (Block ss) ≡ stmts_of k t d es p [] ss n
    unfolding hidden-the_row-TStmt-1 hidden
    block_at ss = rows_at [] n ss

    pub if_at : (c : TExpr) (s : TStmt) (o : Option TStmt) → node_code k d (broken es) (again es) n p (If c s o) ≡ if_of k t d es c s o n
    unfolding hidden-the_row-TStmt-0 hidden-the_row-TStmt-1 hidden
    if_at c s None = refl
    if_at c s (Some o) = refl

    pub when_at : (c : TExpr) (s : TStmt) (o : Option TStmt) → node_code k d (broken es) (again es) n p (OblivIf c s o) ≡ when_of k t d es p c s o n
    unfolding hidden-the_row-TStmt-0 hidden-the_row-TStmt-1 hidden
    when_at c s None =
        let e : Exit = record { spot = p; kind = Part } in
        let fs = es ++ e ∷ [] in
        let l = whole_code k d n c in
        let m = n + length l + 1 in
        ap (λ x. when_code c.spot l (part_at x (line p EndWhen ∷ again es) m s) []) (sym (way_last false es e (end_code t)))
        ∙ ap (λ y. when_code c.spot l (part_at (broken fs) y m s) []) (sym (way_last true es e (end_code t)))
    when_at c s (Some o) =
        let e : Exit = record { spot = p; kind = Part } in
        let fs = es ++ e ∷ [] in
        let l = whole_code k d n c in
        let m = n + length l + 1 in
        ap (λ x. when_code c.spot l (part_at x (line p EndWhen ∷ again es) m s) (part_at x (line p EndWhen ∷ again es) (m + length (part_at x (line p EndWhen ∷ again es) m s) + 1) o)) (sym (way_last false es e (end_code t)))
        ∙ ap (λ y. when_code c.spot l (part_at (broken fs) y m s) (part_at (broken fs) y (m + length (part_at (broken fs) y m s) + 1) o)) (sym (way_last true es e (end_code t)))

    pub always_at : (slot : ℕ) (s : TStmt) → node_code k d (broken es) (again es) n p (AlwaysStmt slot s) ≡ always_of k t d es p slot s n
    unfolding hidden-the_row-TStmt-0 hidden-the_row-TStmt-1 hidden
    always_at slot s =
        let e : Exit = record { spot = p; kind = Lift } in
        let fs = es ++ e ∷ [] in
        ap (λ x. line p (Always slot) ∷ (part_at x (line p EndAlways ∷ again es) (n + 1) s ++ line p EndAlways ∷ [])) (sym (way_last false es e (end_code t)))
        ∙ ap (λ y. line p (Always slot) ∷ (part_at (broken fs) y (n + 1) s ++ line p EndAlways ∷ [])) (sym (way_last true es e (end_code t)))

    pub while_at : (c : TExpr) (s : TStmt) → node_code k d (broken es) (again es) n p (While c s) ≡ while_of k t d es p c s n
    unfolding hidden-the_row-TStmt-0 hidden-the_row-TStmt-1 hidden
    while_at c s =
        let e : Exit = record { spot = p; kind = Loop (n + 1) (n + 1 + 1) } in
        let fs = es ++ e ∷ [] in
        let m = n + 1 + 1 + 1 + 1 in
        ap (λ x. loop_code p n (part_at x (line p (Jump (n + 1 + 1)) ∷ []) m s) [] (test_code k d (m + length (part_at x (line p (Jump (n + 1 + 1)) ∷ []) m s) + 0) (n + 1) c)) (sym (way_last false es e (end_code t)))
        ∙ ap (λ y. loop_code p n (part_at (broken fs) y m s) [] (test_code k d (m + length (part_at (broken fs) y m s) + 0) (n + 1) c)) (sym (way_last true es e (end_code t)))

    -- the loop of a `for`, by the ways out of its body
    abbrev round_at : List Line → List Line → Option TExpr → Option TExpr → TStmt → ℕ → List Line
    round_at x y c a s top =
        let b = part_at x y (top + 1 + 1 + 1 + 1) s in
        let v = advance_code k d (top + 1 + 1 + 1 + 1 + length b) p a in
        loop_code p top b v (test_or_code k d (top + 1 + 1 + 1 + 1 + length b + length v) (top + 1) c)

    pub for_at : (i : TForInit) (c a : Option TExpr) (s : TStmt) → node_code k d (broken es) (again es) n p (For i c a s) ≡ for_of k t d es p i c a s n
    unfolding hidden-the_row-TStmt-0 hidden-the_row-TStmt-1 hidden
    for_at i c a s =
        let o = header_code k d n p i in
        let top = n + length o in
        let e : Exit = record { spot = p; kind = Loop (top + 1) (top + 1 + 1) } in
        let fs = es ++ e ∷ [] in
        ap (λ x. o ++ (round_at x (line p (Jump (top + 1 + 1)) ∷ []) c a s top ++ leave_code p (header_slots i))) (sym (way_last false es e (end_code t)))
        ∙ ap (λ y. o ++ (round_at (broken fs) y c a s top ++ leave_code p (header_slots i))) (sym (way_last true es e (end_code t)))

-- a node as the piece that its form has
pub stmt_as : {T E : Type 0} (k : Coding) (t : CType) (d : ℕ) (es : List Exit) (s : TStmt) (n : TStmtNode) (a : Piece) (c0 c1 : List Line) (r : Result T E)
    → OnOk r (Adds c0 a c1) → s.node ≡ n → node_code k d (way false es (end_code t)) (way true es (end_code t)) (length c0) s.spot n ≡ a (length c0) → OnOk r (Adds c0 (stmt_of k t d es s) c1)
stmt_as k t d es s n a c0 c1 r h i v =
    told_as c0 c1 a (stmt_of k t d es s) r h (ap (λ m. node_code k d (way false es (end_code t)) (way true es (end_code t)) (length c0) s.spot m) i ∙ v)

-- the same, where there was memory
pub stmt_now : (k : Coding) (t : CType) (d : ℕ) (es : List Exit) (s : TStmt) (n : TStmtNode) (a : Piece) (c0 c1 : List Line)
    → Adds c0 a c1 → s.node ≡ n → node_code k d (way false es (end_code t)) (way true es (end_code t)) (length c0) s.spot n ≡ a (length c0) → Adds c0 (stmt_of k t d es s) c1
stmt_now k t d es s n a c0 c1 h i v =
    adds_as c0 c1 a (stmt_of k t d es s) (ap (λ m. node_code k d (way false es (end_code t)) (way true es (end_code t)) (length c0) s.spot m) i ∙ v) h

-- the line after the one that was written, written too
next_write : (c l : List Line) (i y j : Line) (n : ℕ) → n ≡ length c + 1 → slice_set (c ++ i ∷ (y ∷ l)) n j ≡ c ++ i ∷ (j ∷ l)
next_write c l i y j n h =
    let m : n ≡ length (c ++ i ∷ []) = h ∙ sym (length-append c (i ∷ [])) in
    ap (λ m. slice_set (c ++ i ∷ (y ∷ l)) m j) m ∙ ap (λ l. slice_set l (length (c ++ i ∷ [])) j) (sym (append_assoc c (i ∷ []) (y ∷ l)))
    ∙ set-append_seam (c ++ i ∷ []) y l j ∙ append_assoc c (i ∷ []) (j ∷ l)

three_writes : (c r : List Line) (x y z i j k : Line) → slice_set (slice_set (slice_set (c ++ x ∷ (y ∷ (z ∷ r))) (length c) i) (length c + 1) j) (length c + 1 + 1) k ≡ c ++ i ∷ (j ∷ (k ∷ r))
three_writes c r x y z i j k =
    let m : length c + 1 + 1 ≡ length (c ++ i ∷ []) + 1 = ap (λ n. n + 1) (sym (length-append c (i ∷ []))) in
    ap (λ l. slice_set (slice_set l (length c + 1) j) (length c + 1 + 1) k) (set-append_seam c x (y ∷ (z ∷ r)) i)
    ∙ ap (λ l. slice_set l (length c + 1 + 1) k) (next_write c (z ∷ r) i y j (length c + 1) refl ∙ sym (append_assoc c (i ∷ []) (j ∷ (z ∷ r))))
    ∙ next_write (c ++ i ∷ []) r j z k (length c + 1 + 1) m
    ∙ append_assoc c (i ∷ []) (j ∷ (k ∷ r))

five : (a b c d e f : List Line) → ((((a ++ b) ++ c) ++ d) ++ e) ++ f ≡ a ++ (b ++ (c ++ (d ++ (e ++ f))))
five a b c d e f =
    append_assoc (((a ++ b) ++ c) ++ d) e f ∙ append_assoc ((a ++ b) ++ c) d (e ++ f) ∙ append_assoc (a ++ b) c (d ++ (e ++ f)) ∙ append_assoc a b (c ++ (d ++ (e ++ f)))

-- a loop lands: c1 ends with its head, c2 with its body, c3 with its advance, c4 with its test, c5 with the jump to its next turn
pub loop_lands : (c0 c1 c2 c3 c4 c5 c6 : List Line) (b a t : Piece) (p : Spot) (top after test : ℕ) → top ≡ length c0 → Adds c0 (fixed (head_of p)) c1 → Adds c1 b c2 → after ≡ length c2 → Adds c2 a c3
    → test ≡ length c3 → Adds c3 t c4 → Adds c4 (one p (Jump (top + 3))) c5
    → c6 ≡ slice_set (slice_set (slice_set c5 top (line p (Jump test))) (top + 1) (line p (Jump (length c5)))) (top + 1 + 1) (line p (Jump after)) → Adds c0 (loop_of p b a t) c6
loop_lands c0 c1 c2 c3 c4 c5 c6 b a t p top after test m0 e1 e2 m2 e3 m3 e4 e5 h =
    let n = length c0 in
    let x = line p (Jump 0) in
    let s = line p Step in
    let l1 = adds_length c0 c1 (fixed (head_of p)) e1 in
    let at1 : length c1 ≡ n + 1 + 1 + 1 + 1 = omega (arith, l1) in
    let bl = b (n + 1 + 1 + 1 + 1) in
    let f2 : c2 ≡ c1 ++ bl = e2.so ∙ ap (λ i. c1 ++ b i) at1 in
    let l2 : length c2 ≡ n + 1 + 1 + 1 + 1 + length bl = ap length f2 ∙ length-append c1 bl ∙ ap (λ i. i + length bl) at1 in
    let al = a (n + 1 + 1 + 1 + 1 + length bl) in
    let f3 : c3 ≡ c2 ++ al = e3.so ∙ ap (λ i. c2 ++ a i) l2 in
    let l3 : length c3 ≡ n + 1 + 1 + 1 + 1 + length bl + length al = ap length f3 ∙ length-append c2 al ∙ ap (λ i. i + length al) l2 in
    let tl = t (n + 1 + 1 + 1 + 1 + length bl + length al) in
    let f4 : c4 ≡ c3 ++ tl = e4.so ∙ ap (λ i. c3 ++ t i) l3 in
    let l4 : length c4 ≡ n + 1 + 1 + 1 + 1 + length bl + length al + length tl = ap length f4 ∙ length-append c3 tl ∙ ap (λ i. i + length tl) l3 in
    let w = line p (Jump (top + 3)) in
    let l5 = adds_length c4 c5 (one p (Jump (top + 3))) e5 in
    let d5 : length c5 ≡ n + 1 + 1 + 1 + 1 + length bl + length al + length tl + 1 = l5 ∙ ap (λ i. i + 1) l4 in
    let rest = s ∷ (bl ++ (al ++ (tl ++ w ∷ []))) in
    let all : c5 ≡ ((((c0 ++ head_of p) ++ bl) ++ al) ++ tl) ++ w ∷ [] = e5.so ∙ ap (λ c. c ++ w ∷ []) (f4 ∙ ap (λ c. c ++ tl) (f3 ∙ ap (λ c. c ++ al) (f2 ∙ ap (λ c. c ++ bl) e1.so))) in
    let flat : ((((c0 ++ head_of p) ++ bl) ++ al) ++ tl) ++ w ∷ [] ≡ c0 ++ x ∷ (x ∷ (x ∷ rest)) = five c0 (head_of p) bl al tl (w ∷ []) in
    let i = line p (Jump test) in
    let j = line p (Jump (length c5)) in
    let k = line p (Jump after) in
    let wt : top + 3 ≡ n + 1 + 1 + 1 = omega (arith, m0) in
    record {
      so =
          h ∙ ap (λ l. slice_set (slice_set (slice_set l top i) (top + 1) j) (top + 1 + 1) k) (all ∙ flat)
          ∙ ap (λ top. slice_set (slice_set (slice_set (c0 ++ x ∷ (x ∷ (x ∷ rest))) top i) (top + 1) j) (top + 1 + 1) k) m0
          ∙ three_writes c0 rest x x x i j k
          ∙ ap (λ m. c0 ++ line p (Jump m) ∷ (j ∷ (k ∷ rest))) (m3 ∙ l3)
          ∙ ap (λ m. c0 ++ line p (Jump (n + 1 + 1 + 1 + 1 + length bl + length al)) ∷ (line p (Jump m) ∷ (k ∷ rest))) d5
          ∙ ap (λ m. c0 ++ line p (Jump (n + 1 + 1 + 1 + 1 + length bl + length al)) ∷ (line p (Jump (n + 1 + 1 + 1 + 1 + length bl + length al + length tl + 1)) ∷ (line p (Jump m) ∷ rest))) (m2 ∙ l2)
          ∙ ap (λ m. c0 ++ line p (Jump (n + 1 + 1 + 1 + 1 + length bl + length al)) ∷ (line p (Jump (n + 1 + 1 + 1 + 1 + length bl + length al + length tl + 1)) ∷ (line p (Jump (n + 1 + 1 + 1 + 1 + length bl)) ∷ (s ∷ (bl ++ (al ++ (tl ++ line p (Jump m) ∷ []))))))) wt;
    }

-- loops over declared variables, over the statements of a block, and over those of a function
module _ (k : Coding) where
  pub declares_next : (d : ℕ) (c0 c1 target : List Line) (ds : List TDeclared) (i : ℕ) (v : TDeclared) → i < length ds → v ≡ get_or ds i v → c0 ++ declares_of k d (drop i ds) (length c0) ≡ target
      → Adds c0 (declare_of k d v) c1 → c1 ++ declares_of k d (drop (i + 1) ds) (length c1) ≡ target
  declares_next d c0 c1 target ds i v h q inv x =
      left_next c0 c1 target (declare_of k d v) (declares_of k d (drop (i + 1) ds)) (declares_of k d (drop i ds)) inv (ap (λ xs. declares_of k d xs (length c0)) (next_left ds i v h q)) x

  pub declares_end : (d : ℕ) (c0 c : List Line) (ds : List TDeclared) (i : ℕ) → length ds ≤ i → c ++ declares_of k d (drop i ds) (length c) ≡ c0 ++ declares_of k d ds (length c0) → Adds c0 (declares_of k d ds) c
  declares_end d c0 c ds i h inv = record { so = sym (append-nil c) ∙ ap (λ xs. c ++ declares_of k d xs (length c)) (sym (drop_all i ds h)) ∙ inv }

  module _ (t : CType) where
    pub stmts_next : (d : ℕ) (es fs : List Exit) (p : Spot) (mine : List ℕ) (c0 c1 target : List Line) (ss : List TStmt) (i : ℕ) (s : TStmt) → i < length ss → s ≡ get_or ss i s → fs ≡ es ++ entered p mine
        → c0 ++ stmts_of k t d es p mine (drop i ss) (length c0) ≡ target → Adds c0 (turn_of k t d fs s) c1 → c1 ++ stmts_of k t d es p (declared s.node ++ mine) (drop (i + 1) ss) (length c1) ≡ target
    stmts_next d es fs p mine c0 c1 target ss i s h q e inv x =
        left_next c0 c1 target (turn_of k t d fs s) (stmts_of k t d es p (declared s.node ++ mine) (drop (i + 1) ss)) (stmts_of k t d es p mine (drop i ss)) inv
        (ap (λ xs. stmts_of k t d es p mine xs (length c0)) (next_left ss i s h q)
        ∙ ap (λ gs. seq (turn_of k t d gs s) (stmts_of k t d es p (declared s.node ++ mine) (drop (i + 1) ss)) (length c0)) (sym e)) x

    pub stmts_end : (d : ℕ) (es : List Exit) (p : Spot) (mine : List ℕ) (c target : List Line) (ss : List TStmt) (i : ℕ) → length ss ≤ i
        → c ++ stmts_of k t d es p mine (drop i ss) (length c) ≡ target → c ++ leave_code p mine ≡ target
    stmts_end d es p mine c target ss i h inv = ap (λ xs. c ++ stmts_of k t d es p mine xs (length c)) (sym (drop_all i ss h)) ∙ inv

    pub listed_next : (c0 c1 target : List Line) (ss : List TStmt) (i : ℕ) (s : TStmt) → i < length ss → s ≡ get_or ss i s → c0 ++ listed_of k t (drop i ss) (length c0) ≡ target
        → Adds c0 (turn_of k t 0 [] s) c1 → c1 ++ listed_of k t (drop (i + 1) ss) (length c1) ≡ target
    listed_next c0 c1 target ss i s h q inv x =
        left_next c0 c1 target (turn_of k t 0 [] s) (listed_of k t (drop (i + 1) ss)) (listed_of k t (drop i ss)) inv (ap (λ xs. listed_of k t xs (length c0)) (next_left ss i s h q)) x

    pub listed_end : (c target : List Line) (ss : List TStmt) (i : ℕ) → length ss ≤ i → c ++ listed_of k t (drop i ss) (length c) ≡ target → c ++ end_code t ≡ target
    listed_end c target ss i h inv = ap (λ xs. c ++ listed_of k t xs (length c)) (sym (drop_all i ss h)) ∙ inv
