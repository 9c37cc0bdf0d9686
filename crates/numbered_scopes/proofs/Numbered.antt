-- The visits of statements are the same where one number stands for the variables outside.
use Rattle.std.proofs.Common.{ℕ, ◌≤◌, ◌≡◌, List, [], ◌∷◌, length, map, take, refl, sym, ap, ◌∙◌, subst, Bool, true, false, Option, Some, None, arith}
use Rattle.std.specs.Prelude.{◌&&◌, not, slice_get}
use Rattle.std.proofs.lemmas.List.{length-map, length-take}
use Rattle.oc_source.specs.declared.spot.Spot.{Spot}
use Rattle.oc_cells.specs.declared.types.SlotType.{SlotType}
use Rattle.oc_cells.specs.declared.types.StructType.{StructType}
use Rattle.oc_cells.specs.Types.{same}
use Rattle.oc_typed.specs.declared.typed.TExpr.{TExpr}
use Rattle.oc_typed.specs.declared.typed.TDeclared.{TDeclared}
use Rattle.oc_typed.specs.declared.typed.TForInit.{TForInit}
use Rattle.oc_typed.specs.declared.typed.TForInit.TheVariants.{Nothing as NoInit, Declare as InitDeclare, Express as InitExpress}
use Rattle.oc_typed.specs.declared.typed.TStmt.{TStmt}
use Rattle.oc_typed.specs.declared.typed.TStmtNode.{TStmtNode, Declare, Express, Block', If', OblivIf', Always', While', For', Return, Break, Continue, Empty, Row_of-TStmt, end_of-TStmt, more_of-TStmt, Held-TStmtNode-If-2, None', Some'}
use Rattle.oc_typed.specs.declared.typed.TypedFunction.{TypedFunction}
use Rattle.oc_typed.specs.Visible.{after_node, after_header, after_params}
use Rattle.oc_typing.specs.Rules.{all}
use Rattle.oc_typing.specs.Typed.{Context, context, param_types, slots_of, slots_of_header, slots_in, slots_in_part, slots_in_rows, slots_in_other, slots_in_all, alone, initial, declares, header, maybe, condition, valued, back, stmt, part, rows, other, stmts, function}
use Rattle.sound_runs.proofs.Bools.{first, second, never}
use Rattle.scope_rules.specs.declared.rules.ScopeRule.TheVariants.{F4}
use Rattle.scope_rules.specs.Frozen.{Facts, of_body, of_part, of_always, in_loop, leaves_part}
use Rattle.scope_rules.specs.InScope.{slot_type}
use Rattle.scope_rules.specs.FirstFault.{visit, visits, visits_maybe, visits_coming, visits_declares, visits_header, visits_stmt, visits_part, visits_rows, visits_other, visits_stmts, visits_function, visits_functions, first_broken, first_fault}
use Rattle.numbered_scopes.specs.Numbered.{of_part_after, last_header, last_stmt, last_part, last_rows, last_other, numbered_stmt, numbered_part, numbered_rows, numbered_other, numbered_stmts, last_of, numbered_function, numbered_functions, numbered_fault}
use Rattle.numbered_scopes.specs.Laws.{SlotsAreNumbered}
use Rattle.numbered_scopes.proofs.Agreeing.{both, alone_same, coming_same}
use Rattle.numbered_scopes.proofs.Numbers.{Counted, counted_of, counted_parts, counted_rises, Reaches, reaches_named, reaches_declared, reaches_header, Before, before_later, before_part, before_loop, before_always, before_named, before_declared, before_header, before_body}

module _ (g : Context) where
  initial_same : (vis : List ℕ) (w v : Facts) (last : Option ℕ) (m : ℕ) → Before vis w v last m → (s : Option SlotType) (o : Option TExpr) → initial g vis s o ≡ true
      → visits_coming g w (slot_type s) o ≡ visits_coming g v (slot_type s) o
  initial_same vis w v last m b s None h = refl
  initial_same vis w v last m b (Some s) (Some e) h = coming_same g vis w v b.agree s.ty e (second _ _ h)
  initial_same vis w v last m b None (Some e) h = never h

  declares_same : (ds : List TDeclared) (vis : List ℕ) (w v : Facts) (last : Option ℕ) (m k : ℕ) → Before vis w v last m → Counted m (slots_of ds) k → declares g vis ds ≡ true
      → visits_declares g w ds ≡ visits_declares g v ds
  declares_same [] vis w v last m k b c h = refl
  declares_same (d ∷ ds) vis w v last m k b c h =
      let n = before_named vis w v last m d.slot c.0 b in
      both (initial_same (d.slot ∷ vis) w v (Some d.slot) _ n (slice_get g.slots d.slot) d.init (first _ _ h)) (declares_same ds (d.slot ∷ vis) w v (Some d.slot) _ k n c.1 (second _ _ h))

  header_same : (i : TForInit) (vis : List ℕ) (w v : Facts) (last : Option ℕ) (m k : ℕ) → Before vis w v last m → Counted m (slots_of_header i) k → header g vis i ≡ true
      → visits_header g w i ≡ visits_header g v i
  header_same NoInit vis w v last m k b c h = refl
  header_same (InitDeclare ds) vis w v last m k b c h = declares_same ds vis w v last m k b c h
  header_same (InitExpress e) vis w v last m k b c h = alone_same g vis w v b.agree e (second _ _ h)

  maybe_same : (f : TExpr → Bool) (vis : List ℕ) (w v : Facts) (last : Option ℕ) (m : ℕ) → Before vis w v last m → ((e : TExpr) → f e ≡ true → alone g vis e ≡ true)
      → (o : Option TExpr) → maybe f o ≡ true → visits_maybe g w o ≡ visits_maybe g v o
  maybe_same f vis w v last m b a None h = refl
  maybe_same f vis w v last m b a (Some e) h = alone_same g vis w v b.agree e (a e h)

  back_same : (vis : List ℕ) (w v : Facts) (last : Option ℕ) (m : ℕ) → Before vis w v last m → (o : Option TExpr) → back g vis o ≡ true → visits_coming g w g.result o ≡ visits_coming g v g.result o
  back_same vis w v last m b None h = refl
  back_same vis w v last m b (Some e) h = coming_same g vis w v b.agree g.result e (second _ _ h)

  leaving_same : (vis : List ℕ) (w v : Facts) (last : Option ℕ) (m : ℕ) (p : Spot) → Before vis w v last m → visit F4 p (not (leaves_part w)) ≡ visit F4 p (not (leaves_part v))
  leaving_same vis w v last m p b = ap (λ x. visit F4 p (not (x && not w.loop))) b.agree.parted ∙ ap (λ x. visit F4 p (not (v.parted && not x))) b.agree.loop

  mutual
    -- where the slots are counted on to
    reached_stmt : (c : TStmtNode) (last : Option ℕ) (m k : ℕ) → Reaches last m → Counted m (slots_in c) k → Reaches (last_stmt last c) k
    reached_stmt (Declare ds) last m k r c = reaches_declared ds last m k r c
    reached_stmt (Express e) last m k r c = subst (λ j. Reaches last j) c r
    reached_stmt (Block' _ ss) last m k r c = reached_rows ss last m k r c
    reached_stmt (If' e _ s n) last m k r c =
        let q = counted_parts m (slots_in_part s) (slots_in_other n) k c in reached_other n (last_part last s) q.0 k (reached_part s last m q.0 r q.1) q.2
    reached_stmt (OblivIf' e _ s n) last m k r c =
        let q = counted_parts m (slots_in_part s) (slots_in_other n) k c in reached_other n (last_part last s) q.0 k (reached_part s last m q.0 r q.1) q.2
    reached_stmt (Always' n _ s) last m k r c = reached_part s (Some n) _ k (reaches_named m n c.0) c.1
    reached_stmt (While' e _ s) last m k r c = reached_part s last m k r c
    reached_stmt (For' i e a _ s) last m k r c =
        let q = counted_parts m (slots_of_header i) (slots_in_part s) k c in reached_part s (last_header last i) q.0 k (reaches_header i last m q.0 r q.1) q.2
    reached_stmt (Return e) last m k r c = subst (λ j. Reaches last j) c r
    reached_stmt Break last m k r c = subst (λ j. Reaches last j) c r
    reached_stmt Continue last m k r c = subst (λ j. Reaches last j) c r
    reached_stmt Empty last m k r c = subst (λ j. Reaches last j) c r

    reached_part : (s : Row_of-TStmt 1) (last : Option ℕ) (m k : ℕ) → Reaches last m → Counted m (slots_in_part s) k → Reaches (last_part last s) k
    reached_part (more_of-TStmt q c rest) last m k r d = reached_stmt c last m k r d

    reached_rows : {i : _} (ss : Row_of-TStmt i) (last : Option ℕ) (m k : ℕ) → Reaches last m → Counted m (slots_in_rows ss) k → Reaches (last_rows last ss) k
    reached_rows end_of-TStmt last m k r c = subst (λ j. Reaches last j) c r
    reached_rows (more_of-TStmt q c rest) last m k r d =
        let z = counted_parts m (slots_in c) (slots_in_rows rest) k d in reached_rows rest (last_stmt last c) z.0 k (reached_stmt c last m z.0 r z.1) z.2

    reached_other : (n : Held-TStmtNode-If-2) (last : Option ℕ) (m k : ℕ) → Reaches last m → Counted m (slots_in_other n) k → Reaches (last_other last n) k
    reached_other None' last m k r c = subst (λ j. Reaches last j) c r
    reached_other (Some' _ s) last m k r c = reached_part s last m k r c

  -- what stands before the next statement
  before_after : (c : TStmtNode) (vis : List ℕ) (w v : Facts) (last : Option ℕ) (m k : ℕ) → Counted m (slots_in c) k → Before vis w v last m → Before (after_node vis c) w v (last_stmt last c) k
  before_after (Declare ds) vis w v last m k d b = before_declared ds vis w v last m k d b
  before_after (Express e) vis w v last m k d b = before_later vis w v last m b _ k (counted_rises m (slots_in (Express e)) k d) (reached_stmt (Express e) last m k b.reaches d)
  before_after (Block' u ss) vis w v last m k d b = before_later vis w v last m b _ k (counted_rises m (slots_in (Block' u ss)) k d) (reached_stmt (Block' u ss) last m k b.reaches d)
  before_after (If' e u s n) vis w v last m k d b = before_later vis w v last m b _ k (counted_rises m (slots_in (If' e u s n)) k d) (reached_stmt (If' e u s n) last m k b.reaches d)
  before_after (OblivIf' e u s n) vis w v last m k d b = before_later vis w v last m b _ k (counted_rises m (slots_in (OblivIf' e u s n)) k d) (reached_stmt (OblivIf' e u s n) last m k b.reaches d)
  before_after (Always' n u s) vis w v last m k d b = before_later vis w v last m b _ k (counted_rises m (slots_in (Always' n u s)) k d) (reached_stmt (Always' n u s) last m k b.reaches d)
  before_after (While' e u s) vis w v last m k d b = before_later vis w v last m b _ k (counted_rises m (slots_in (While' e u s)) k d) (reached_stmt (While' e u s) last m k b.reaches d)
  before_after (For' i e a u s) vis w v last m k d b = before_later vis w v last m b _ k (counted_rises m (slots_in (For' i e a u s)) k d) (reached_stmt (For' i e a u s) last m k b.reaches d)
  before_after (Return e) vis w v last m k d b = before_later vis w v last m b _ k (counted_rises m (slots_in (Return e)) k d) (reached_stmt (Return e) last m k b.reaches d)
  before_after Break vis w v last m k d b = before_later vis w v last m b _ k (counted_rises m (slots_in Break) k d) (reached_stmt Break last m k b.reaches d)
  before_after Continue vis w v last m k d b = before_later vis w v last m b _ k (counted_rises m (slots_in Continue) k d) (reached_stmt Continue last m k b.reaches d)
  before_after Empty vis w v last m k d b = before_later vis w v last m b _ k (counted_rises m (slots_in Empty) k d) (reached_stmt Empty last m k b.reaches d)

  mutual
    stmt_same : (c : TStmtNode) (p : Spot) (loop : Bool) (vis : List ℕ) (w v : Facts) (last : Option ℕ) (m k : ℕ) → Before vis w v last m → Counted m (slots_in c) k → stmt g loop vis c ≡ true
        → visits_stmt g w vis p c ≡ numbered_stmt g v last p c
    stmt_same (Declare ds) p loop vis w v last m k b d h = declares_same ds vis w v last m k b d h
    stmt_same (Express e) p loop vis w v last m k b d h = alone_same g vis w v b.agree e h
    stmt_same (Block' _ ss) p loop vis w v last m k b d h = rows_same ss loop vis w v last m k b d h
    stmt_same (If' e _ s n) p loop vis w v last m k b d h =
        let q = counted_parts m (slots_in_part s) (slots_in_other n) k d in
        both (both (alone_same g vis w v b.agree e (second _ _ (first _ _ (first _ _ h)))) (part_same s loop vis w v last m q.0 b q.1 (second _ _ (first _ _ h))))
        (other_same n loop vis w v (last_part last s) q.0 k (before_later vis w v last m b _ q.0 (counted_rises m (slots_in_part s) q.0 q.1) (reached_part s last m q.0 b.reaches q.1)) q.2 (second _ _ h))
    stmt_same (OblivIf' e _ s n) p loop vis w v last m k b d h =
        let q = counted_parts m (slots_in_part s) (slots_in_other n) k d in
        let i = before_part vis w v last m b in
        both (both (alone_same g vis w v b.agree e (second _ _ (first _ _ (first _ _ h)))) (part_same s loop vis (of_part vis) (of_part_after last) last m q.0 i q.1 (second _ _ (first _ _ h))))
        (other_same n loop vis (of_part vis) (of_part_after last) (last_part last s) q.0 k (before_later vis (of_part vis) (of_part_after last) last m i _ q.0 (counted_rises m (slots_in_part s) q.0 q.1) (reached_part s last m q.0 b.reaches q.1)) q.2 (second _ _ h))
    stmt_same (Always' n _ s) p loop vis w v last m k b d h =
        part_same s loop (n ∷ vis) of_always of_always (Some n) _ k (before_named vis of_always of_always last m n d.0 (before_always vis w v last m b)) d.1 (second _ _ h)
    stmt_same (While' e _ s) p loop vis w v last m k b d h =
        both (alone_same g vis w v b.agree e (second _ _ (first _ _ h))) (part_same s true vis (in_loop w) (in_loop v) last m k (before_loop vis w v last m b) d (second _ _ h))
    stmt_same (For' i e a _ s) p loop vis w v last m k b d h =
        let q = counted_parts m (slots_of_header i) (slots_in_part s) k d in
        let j = before_header i vis w v last m q.0 q.1 b in
        both (both (both (header_same i vis w v last m q.0 b q.1 (first _ _ (first _ _ (first _ _ h))))
        (maybe_same (condition g (after_header vis i)) (after_header vis i) w v (last_header last i) q.0 j (λ x y. second _ _ y) e (second _ _ (first _ _ (first _ _ h)))))
        (maybe_same (valued g (after_header vis i)) (after_header vis i) w v (last_header last i) q.0 j (λ x y. second _ _ y) a (second _ _ (first _ _ h))))
        (part_same s true (after_header vis i) (in_loop w) (in_loop v) (last_header last i) q.0 k (before_loop (after_header vis i) w v (last_header last i) q.0 j) q.2 (second _ _ h))
    stmt_same (Return e) p loop vis w v last m k b d h = both (back_same vis w v last m b e h) (ap (λ x. visit F4 p (not x)) b.agree.parted)
    stmt_same Break p loop vis w v last m k b d h = leaving_same vis w v last m p b
    stmt_same Continue p loop vis w v last m k b d h = leaving_same vis w v last m p b
    stmt_same Empty p loop vis w v last m k b d h = refl

    part_same : (s : Row_of-TStmt 1) (loop : Bool) (vis : List ℕ) (w v : Facts) (last : Option ℕ) (m k : ℕ) → Before vis w v last m → Counted m (slots_in_part s) k → part g loop vis s ≡ true
        → visits_part g w vis s ≡ numbered_part g v last s
    part_same (more_of-TStmt q c rest) loop vis w v last m k b d h = stmt_same c q loop vis w v last m k b d h

    rows_same : {i : _} (ss : Row_of-TStmt i) (loop : Bool) (vis : List ℕ) (w v : Facts) (last : Option ℕ) (m k : ℕ) → Before vis w v last m → Counted m (slots_in_rows ss) k → rows g loop vis ss ≡ true
        → visits_rows g w vis ss ≡ numbered_rows g v last ss
    rows_same end_of-TStmt loop vis w v last m k b d h = refl
    rows_same (more_of-TStmt q c rest) loop vis w v last m k b d h =
        let z = counted_parts m (slots_in c) (slots_in_rows rest) k d in
        both (stmt_same c q loop vis w v last m z.0 b z.1 (first _ _ h)) (rows_same rest loop (after_node vis c) w v (last_stmt last c) z.0 k (before_after c vis w v last m z.0 z.1 b) z.2 (second _ _ h))

    other_same : (n : Held-TStmtNode-If-2) (loop : Bool) (vis : List ℕ) (w v : Facts) (last : Option ℕ) (m k : ℕ) → Before vis w v last m → Counted m (slots_in_other n) k → other g loop vis n ≡ true
        → visits_other g w vis n ≡ numbered_other g v last n
    other_same None' loop vis w v last m k b d h = refl
    other_same (Some' _ s) loop vis w v last m k b d h = part_same s loop vis w v last m k b d h

  stmts_same : (ss : List TStmt) (vis : List ℕ) (w v : Facts) (last : Option ℕ) (m k : ℕ) → Before vis w v last m → Counted m (slots_in_all ss) k → stmts g vis ss ≡ true
      → visits_stmts g w vis ss ≡ numbered_stmts g v last ss
  stmts_same [] vis w v last m k b d h = refl
  stmts_same (s ∷ ss) vis w v last m k b d h =
      let z = counted_parts m (slots_in s.node) (slots_in_all ss) k d in
      both (stmt_same s.node s.spot false vis w v last m z.0 b z.1 (first _ _ h)) (stmts_same ss (after_node vis s.node) w v (last_stmt last s.node) z.0 k (before_after s.node vis w v last m z.0 z.1 b) z.2 (second _ _ h))

param_count : (f : TypedFunction) → length (param_types f) ≤ f.params
param_count f = let e = length-map (take f.params f.slots) (λ s. s.ty) in let l = length-take f.params f.slots in grind (arith, e, l)

module _ (structs : List StructType) (fs : List TypedFunction) where
  function_same : (f : TypedFunction) → function structs fs f ≡ true → visits_function structs fs f ≡ numbered_function structs fs f
  function_same f h =
      stmts_same (context structs fs f) f.body (after_params [] 0 (param_types f)) (of_body f.obliv) (of_body f.obliv) (last_of f.params) f.params (length f.slots)
      (before_body f.obliv (param_types f) f.params (param_count f)) (counted_of f.params (slots_in_all f.body) (length f.slots) (second _ _ (first _ _ h))) (second _ _ h)

  functions_same : (rest : List TypedFunction) → all (function structs fs) rest ≡ true → visits_functions structs fs rest ≡ numbered_functions structs fs rest
  functions_same [] h = refl
  functions_same (f ∷ rest) h = both (function_same f (first _ _ h)) (functions_same rest (second _ _ h))

pub numbered : SlotsAreNumbered
unfolding numbered_fault first_fault
numbered t h = ap (λ vs. first_broken vs) (sym (functions_same t.structs t.functions t.functions (second _ _ (first _ _ (first _ _ h)))))
