-- A tree keeps the rules of scopes exactly where each of its visits does.
use Rattle.std.proofs.Common.{ℕ, zero, suc, ◌≡◌, List, [], ◌∷◌, refl, subst, Option, Some, None}
use Rattle.std.specs.Prelude.{not, ◌||◌, slice_get}
use Rattle.std.proofs.lemmas.Option.{none-some, same_Some}
use Rattle.oc_source.specs.declared.spot.Spot.{Spot}
use Rattle.oc_cells.specs.declared.types.CType.{CType}
use Rattle.oc_cells.specs.declared.types.StructType.{StructType}
use Rattle.oc_typed.specs.declared.typed.TExpr.{TExpr}
use Rattle.oc_typed.specs.declared.typed.TExprNode.{TExprNode, Number, NullPointer, Read', AddressOf', Decay', Unary', Binary', PointerStep', PointerSame', Logic', Choose', Assign', Update', Convert', Call', Builtin', Row_of-TExpr, end_of-TExpr, more_of-TExpr}
use Rattle.oc_typed.specs.declared.typed.TPlaceNode.{TPlaceNode, Slot, Deref', Index', Field', Row_of-TPlace, more_of-TPlace}
use Rattle.oc_typed.specs.declared.typed.TDeclared.{TDeclared}
use Rattle.oc_typed.specs.declared.typed.TForInit.{TForInit}
use Rattle.oc_typed.specs.declared.typed.TForInit.TheVariants.{Nothing as NoInit, Declare as InitDeclare, Express as InitExpress}
use Rattle.oc_typed.specs.declared.typed.TStmt.{TStmt}
use Rattle.oc_typed.specs.declared.typed.TStmtNode.{TStmtNode, Declare, Express, Block', If', OblivIf', Always', While', For', Return, Break, Continue, Empty, Row_of-TStmt, end_of-TStmt, more_of-TStmt, Held-TStmtNode-If-2, None', Some'}
use Rattle.oc_typed.specs.declared.typed.TypedFunction.{TypedFunction}
use Rattle.oc_typed.specs.Static.{types_of, spot_of}
use Rattle.oc_typed.specs.Visible.{after_node, after_header, after_params}
use Rattle.oc_typing.specs.Typed.{Context, context, param_types}
use Rattle.scope_rules.specs.declared.rules.ScopeRule.TheVariants.{F2, F3, F4}
use Rattle.scope_rules.specs.Frozen.{Facts, of_body, of_part, of_always, in_loop, from_frozen, loses, loses_one, is_kept, is_marked, leaves_part}
use Rattle.scope_rules.specs.InScope.{params_of, comings, slot_type, ExprInScope, PlaceInScope, BaseInScope, OneInScope, AllInScope, MaybeInScope, ComesInScope, DeclaresInScope, HeaderInScope, StmtInScope, PartInScope, RowsInScope, OtherInScope, StmtsInScope, FunctionInScope}
use Rattle.scope_rules.specs.FirstFault.{visit, writing, visits, visits_place, visits_base, visits_one, visits_all, visits_maybe, visits_coming, visits_declares, visits_header, visits_stmt, visits_part, visits_rows, visits_other, visits_stmts, visits_function, visits_functions, first_fault}
use Rattle.judged_scopes.specs.Laws.{ScopesAreJudged}
use Rattle.judged_scopes.proofs.Visits.{AllKept, join, front, back, join3, join4, of3, of4, ordered, ordered_left, ordered_right, denied, fails, if_hidden, where_hidden, unbroken, all_kept}

-- What keeps the rules is kept at each visit.

module _ (g : Context) where
  mutual
    kept_expr : (c : TExprNode) (w : Facts) (p : Spot) (t : CType) → ExprInScope g w t c → AllKept (visits g w p t c)
    kept_expr (Number n) w p t h = tt
    kept_expr NullPointer w p t h = tt
    kept_expr (Read' q u c) w p t h = kept_place c w h
    kept_expr (AddressOf' q u c) w p t h = kept_place c w h
    kept_expr (Decay' q u c) w p t h = kept_place c w h
    kept_expr (Unary' op _ e) w p t h = kept_one e w h
    kept_expr (Binary' op _ l _ r) w p t h = join (visits_one g w l) (visits_one g w r) (kept_one l w h.0) (kept_one r w h.1)
    kept_expr (PointerStep' _ l _ r b first) w p t h = ordered first (visits_one g w l) (visits_one g w r) (kept_one l w h.0) (kept_one r w h.1)
    kept_expr (PointerSame' _ l _ r negated) w p t h = join (visits_one g w l) (visits_one g w r) (kept_one l w h.0) (kept_one r w h.1)
    kept_expr (Logic' all _ l _ r) w p t h = join (visits_one g w l) (visits_one g w r) (kept_one l w h.0) (kept_one r w h.1)
    kept_expr (Choose' _ c _ l _ r) w p t h =
        join3 (visits_one g w c) (visits_one g w l) (visits_one g w r) (kept_one c w h.0) (kept_one l w h.1) (kept_one r w h.2)
    kept_expr (Assign' q u c _ e) w p t h =
        join4 (visits_place g w c) (visits_one g w e) (visit F2 (spot_of e) (not (loses_one g w e u))) (visit (writing w) q (not (is_kept g w u c)))
        (kept_place c w h.0) (kept_one e w h.1) (denied (loses_one g w e u) h.2, tt) (denied (is_kept g w u c) h.3, tt)
    kept_expr (Update' op q u c _ e old) w p t h =
        join3 (visits_place g w c) (visits_one g w e) (visit (writing w) q (not (is_kept g w u c)))
        (kept_place c w h.0) (kept_one e w h.1) (denied (is_kept g w u c) h.2, tt)
    kept_expr (Convert' _ e) w p t h =
        join (visits_one g w e) (visit F2 (spot_of e) (not (loses_one g w e t))) (kept_one e w h.0) (denied (loses_one g w e t) h.1, tt)
    kept_expr (Call' f _ es) w p t h =
        join (visits_all g w (params_of (slice_get g.functions f)) es) (visit F3 p (not w.hidden || is_marked (slice_get g.functions f)))
        (kept_all es w (params_of (slice_get g.functions f)) h.0) (if_hidden w.hidden (is_marked (slice_get g.functions f)) h.1, tt)
    kept_expr (Builtin' which _ es) w p t h =
        join (visits_all g w (comings which (types_of es)) es) (visit F3 p (not w.hidden))
        (kept_all es w (comings which (types_of es)) h.0) (denied w.hidden h.1, tt)

    kept_place : (c : TPlaceNode) (w : Facts) → PlaceInScope g w c → AllKept (visits_place g w c)
    kept_place (Slot n) w h = tt
    kept_place (Deref' _ e) w h = kept_one e w h
    kept_place (Index' _ l _ r) w h = join (visits_one g w l) (visits_one g w r) (kept_one l w h.0) (kept_one r w h.1)
    kept_place (Field' _ b n) w h = kept_base b w h

    kept_base : (c : Row_of-TPlace 1) (w : Facts) → BaseInScope g w c → AllKept (visits_base g w c)
    kept_base (more_of-TPlace q u c rest) w h = kept_place c w h

    kept_one : (c : Row_of-TExpr 1) (w : Facts) → OneInScope g w c → AllKept (visits_one g w c)
    kept_one (more_of-TExpr q u c rest) w h = kept_expr c w q u h

    kept_all : {m : _} (c : Row_of-TExpr m) (w : Facts) (ts : List CType) → AllInScope g w ts c → AllKept (visits_all g w ts c)
    kept_all end_of-TExpr w ts h = tt
    kept_all (more_of-TExpr q u c rest) w [] h = join (visits g w q u c) (visits_all g w [] rest) (kept_expr c w q u h.0) (kept_all rest w [] h.1)
    kept_all (more_of-TExpr q u c rest) w (t ∷ ts) h =
        join3 (visits g w q u c) (visit F2 q (not (loses g (from_frozen g w c) u t))) (visits_all g w ts rest)
        (kept_expr c w q u h.0) (denied (loses g (from_frozen g w c) u t) h.1, tt) (kept_all rest w ts h.2)

  kept_maybe : (e : Option TExpr) (w : Facts) → MaybeInScope g w e → AllKept (visits_maybe g w e)
  kept_maybe None w h = tt
  kept_maybe (Some e) w h = kept_expr e.node w e.spot e.ty h

  kept_coming : (e : Option TExpr) (w : Facts) (t : CType) → ComesInScope g w t e → AllKept (visits_coming g w t e)
  kept_coming None w t h = tt
  kept_coming (Some e) w t h =
      join (visits g w e.spot e.ty e.node) (visit F2 e.spot (not (loses g (from_frozen g w e.node) e.ty t)))
      (kept_expr e.node w e.spot e.ty h.0) (denied (loses g (from_frozen g w e.node) e.ty t) h.1, tt)

  kept_declares : (ds : List TDeclared) (w : Facts) → DeclaresInScope g w ds → AllKept (visits_declares g w ds)
  kept_declares [] w h = tt
  kept_declares (d ∷ ds) w h =
      join (visits_coming g w (slot_type (slice_get g.slots d.slot)) d.init) (visits_declares g w ds)
      (kept_coming d.init w (slot_type (slice_get g.slots d.slot)) h.0) (kept_declares ds w h.1)

  kept_header : (i : TForInit) (w : Facts) → HeaderInScope g w i → AllKept (visits_header g w i)
  kept_header NoInit w h = tt
  kept_header (InitDeclare ds) w h = kept_declares ds w h
  kept_header (InitExpress e) w h = kept_expr e.node w e.spot e.ty h

  mutual
    kept_stmt : (c : TStmtNode) (w : Facts) (vis : List ℕ) (p : Spot) → StmtInScope g w vis c → AllKept (visits_stmt g w vis p c)
    kept_stmt (Declare ds) w vis p h = kept_declares ds w h
    kept_stmt (Express e) w vis p h = kept_expr e.node w e.spot e.ty h
    kept_stmt (Block' _ ss) w vis p h = kept_rows ss w vis h
    kept_stmt (If' c _ s n) w vis p h =
        join3 (visits g w c.spot c.ty c.node) (visits_part g w vis s) (visits_other g w vis n)
        (kept_expr c.node w c.spot c.ty h.0) (kept_part s w vis h.1) (kept_other n w vis h.2)
    kept_stmt (OblivIf' c _ s n) w vis p h =
        join3 (visits g w c.spot c.ty c.node) (visits_part g (of_part vis) vis s) (visits_other g (of_part vis) vis n)
        (kept_expr c.node w c.spot c.ty h.0) (kept_part s (of_part vis) vis h.1) (kept_other n (of_part vis) vis h.2)
    kept_stmt (Always' n _ s) w vis p h = kept_part s of_always (n ∷ vis) h
    kept_stmt (While' c _ s) w vis p h =
        join (visits g w c.spot c.ty c.node) (visits_part g (in_loop w) vis s) (kept_expr c.node w c.spot c.ty h.0) (kept_part s (in_loop w) vis h.1)
    kept_stmt (For' i c a _ s) w vis p h =
        join4 (visits_header g w i) (visits_maybe g w c) (visits_maybe g w a) (visits_part g (in_loop w) (after_header vis i) s)
        (kept_header i w h.0) (kept_maybe c w h.1) (kept_maybe a w h.2) (kept_part s (in_loop w) (after_header vis i) h.3)
    kept_stmt (Return e) w vis p h =
        join (visits_coming g w g.result e) (visit F4 p (not w.parted)) (kept_coming e w g.result h.0) (denied w.parted h.1, tt)
    kept_stmt Break w vis p h = (denied (leaves_part w) h, tt)
    kept_stmt Continue w vis p h = (denied (leaves_part w) h, tt)
    kept_stmt Empty w vis p h = tt

    kept_part : (c : Row_of-TStmt 1) (w : Facts) (vis : List ℕ) → PartInScope g w vis c → AllKept (visits_part g w vis c)
    kept_part (more_of-TStmt q c rest) w vis h = kept_stmt c w vis q h

    kept_rows : {m : _} (c : Row_of-TStmt m) (w : Facts) (vis : List ℕ) → RowsInScope g w vis c → AllKept (visits_rows g w vis c)
    kept_rows end_of-TStmt w vis h = tt
    kept_rows (more_of-TStmt q c rest) w vis h =
        join (visits_stmt g w vis q c) (visits_rows g w (after_node vis c) rest) (kept_stmt c w vis q h.0) (kept_rows rest w (after_node vis c) h.1)

    kept_other : (c : Held-TStmtNode-If-2) (w : Facts) (vis : List ℕ) → OtherInScope g w vis c → AllKept (visits_other g w vis c)
    kept_other None' w vis h = tt
    kept_other (Some' _ s) w vis h = kept_part s w vis h

  kept_stmts : (ss : List TStmt) (w : Facts) (vis : List ℕ) → StmtsInScope g w vis ss → AllKept (visits_stmts g w vis ss)
  kept_stmts [] w vis h = tt
  kept_stmts (s ∷ ss) w vis h =
      join (visits_stmt g w vis s.spot s.node) (visits_stmts g w (after_node vis s.node) ss)
      (kept_stmt s.node w vis s.spot h.0) (kept_stmts ss w (after_node vis s.node) h.1)

-- What is kept at each visit keeps the rules.

module _ (g : Context) where
  mutual
    expr_in : (c : TExprNode) (w : Facts) (p : Spot) (t : CType) → AllKept (visits g w p t c) → ExprInScope g w t c
    expr_in (Number n) w p t h = tt
    expr_in NullPointer w p t h = tt
    expr_in (Read' q u c) w p t h = place_in c w h
    expr_in (AddressOf' q u c) w p t h = place_in c w h
    expr_in (Decay' q u c) w p t h = place_in c w h
    expr_in (Unary' op _ e) w p t h = one_in e w h
    expr_in (Binary' op _ l _ r) w p t h =
        (one_in l w (front (visits_one g w l) (visits_one g w r) h), one_in r w (back (visits_one g w l) (visits_one g w r) h))
    expr_in (PointerStep' _ l _ r b first) w p t h =
        (one_in l w (ordered_left first (visits_one g w l) (visits_one g w r) h), one_in r w (ordered_right first (visits_one g w l) (visits_one g w r) h))
    expr_in (PointerSame' _ l _ r negated) w p t h =
        (one_in l w (front (visits_one g w l) (visits_one g w r) h), one_in r w (back (visits_one g w l) (visits_one g w r) h))
    expr_in (Logic' all _ l _ r) w p t h =
        (one_in l w (front (visits_one g w l) (visits_one g w r) h), one_in r w (back (visits_one g w l) (visits_one g w r) h))
    expr_in (Choose' _ c _ l _ r) w p t h =
        let xs = visits_one g w c in let ys = visits_one g w l in let zs = visits_one g w r in
        (one_in c w (of3 xs ys zs h).0, one_in l w (of3 xs ys zs h).1, one_in r w (of3 xs ys zs h).2)
    expr_in (Assign' q u c _ e) w p t h =
        let xs = visits_place g w c in let ys = visits_one g w e in
        let zs = visit F2 (spot_of e) (not (loses_one g w e u)) in let ws = visit (writing w) q (not (is_kept g w u c)) in (
          place_in c w (of4 xs ys zs ws h).0,
          one_in e w (of4 xs ys zs ws h).1,
          fails (loses_one g w e u) (of4 xs ys zs ws h).2.0,
          fails (is_kept g w u c) (of4 xs ys zs ws h).3.0,
        )
    expr_in (Update' op q u c _ e old) w p t h =
        let xs = visits_place g w c in let ys = visits_one g w e in let ws = visit (writing w) q (not (is_kept g w u c)) in
        (place_in c w (of3 xs ys ws h).0, one_in e w (of3 xs ys ws h).1, fails (is_kept g w u c) (of3 xs ys ws h).2.0)
    expr_in (Convert' _ e) w p t h =
        let xs = visits_one g w e in let ys = visit F2 (spot_of e) (not (loses_one g w e t)) in
        (one_in e w (front xs ys h), fails (loses_one g w e t) (back xs ys h).0)
    expr_in (Call' f _ es) w p t h =
        let xs = visits_all g w (params_of (slice_get g.functions f)) es in
        let ys = visit F3 p (not w.hidden || is_marked (slice_get g.functions f)) in (
          all_in es w (params_of (slice_get g.functions f)) (front xs ys h),
          where_hidden w.hidden (is_marked (slice_get g.functions f)) (back xs ys h).0,
        )
    expr_in (Builtin' which _ es) w p t h =
        let xs = visits_all g w (comings which (types_of es)) es in let ys = visit F3 p (not w.hidden) in
        (all_in es w (comings which (types_of es)) (front xs ys h), fails w.hidden (back xs ys h).0)

    place_in : (c : TPlaceNode) (w : Facts) → AllKept (visits_place g w c) → PlaceInScope g w c
    place_in (Slot n) w h = tt
    place_in (Deref' _ e) w h = one_in e w h
    place_in (Index' _ l _ r) w h =
        (one_in l w (front (visits_one g w l) (visits_one g w r) h), one_in r w (back (visits_one g w l) (visits_one g w r) h))
    place_in (Field' _ b n) w h = base_in b w h

    base_in : (c : Row_of-TPlace 1) (w : Facts) → AllKept (visits_base g w c) → BaseInScope g w c
    base_in (more_of-TPlace q u c rest) w h = place_in c w h

    one_in : (c : Row_of-TExpr 1) (w : Facts) → AllKept (visits_one g w c) → OneInScope g w c
    one_in (more_of-TExpr q u c rest) w h = expr_in c w q u h

    all_in : {m : _} (c : Row_of-TExpr m) (w : Facts) (ts : List CType) → AllKept (visits_all g w ts c) → AllInScope g w ts c
    all_in end_of-TExpr w ts h = tt
    all_in (more_of-TExpr q u c rest) w [] h =
        (expr_in c w q u (front (visits g w q u c) (visits_all g w [] rest) h), all_in rest w [] (back (visits g w q u c) (visits_all g w [] rest) h))
    all_in (more_of-TExpr q u c rest) w (t ∷ ts) h =
        let xs = visits g w q u c in let ys = visit F2 q (not (loses g (from_frozen g w c) u t)) in let zs = visits_all g w ts rest in
        (expr_in c w q u (of3 xs ys zs h).0, fails (loses g (from_frozen g w c) u t) (of3 xs ys zs h).1.0, all_in rest w ts (of3 xs ys zs h).2)

  maybe_in : (e : Option TExpr) (w : Facts) → AllKept (visits_maybe g w e) → MaybeInScope g w e
  maybe_in None w h = tt
  maybe_in (Some e) w h = expr_in e.node w e.spot e.ty h

  coming_in : (e : Option TExpr) (w : Facts) (t : CType) → AllKept (visits_coming g w t e) → ComesInScope g w t e
  coming_in None w t h = tt
  coming_in (Some e) w t h =
      let xs = visits g w e.spot e.ty e.node in let ys = visit F2 e.spot (not (loses g (from_frozen g w e.node) e.ty t)) in
      (expr_in e.node w e.spot e.ty (front xs ys h), fails (loses g (from_frozen g w e.node) e.ty t) (back xs ys h).0)

  declares_in : (ds : List TDeclared) (w : Facts) → AllKept (visits_declares g w ds) → DeclaresInScope g w ds
  declares_in [] w h = tt
  declares_in (d ∷ ds) w h =
      let xs = visits_coming g w (slot_type (slice_get g.slots d.slot)) d.init in let ys = visits_declares g w ds in
      (coming_in d.init w (slot_type (slice_get g.slots d.slot)) (front xs ys h), declares_in ds w (back xs ys h))

  header_in : (i : TForInit) (w : Facts) → AllKept (visits_header g w i) → HeaderInScope g w i
  header_in NoInit w h = tt
  header_in (InitDeclare ds) w h = declares_in ds w h
  header_in (InitExpress e) w h = expr_in e.node w e.spot e.ty h

  mutual
    stmt_in : (c : TStmtNode) (w : Facts) (vis : List ℕ) (p : Spot) → AllKept (visits_stmt g w vis p c) → StmtInScope g w vis c
    stmt_in (Declare ds) w vis p h = declares_in ds w h
    stmt_in (Express e) w vis p h = expr_in e.node w e.spot e.ty h
    stmt_in (Block' _ ss) w vis p h = rows_in ss w vis h
    stmt_in (If' c _ s n) w vis p h =
        let xs = visits g w c.spot c.ty c.node in let ys = visits_part g w vis s in let zs = visits_other g w vis n in
        (expr_in c.node w c.spot c.ty (of3 xs ys zs h).0, part_in s w vis (of3 xs ys zs h).1, other_in n w vis (of3 xs ys zs h).2)
    stmt_in (OblivIf' c _ s n) w vis p h =
        let xs = visits g w c.spot c.ty c.node in let ys = visits_part g (of_part vis) vis s in let zs = visits_other g (of_part vis) vis n in
        (expr_in c.node w c.spot c.ty (of3 xs ys zs h).0, part_in s (of_part vis) vis (of3 xs ys zs h).1, other_in n (of_part vis) vis (of3 xs ys zs h).2)
    stmt_in (Always' n _ s) w vis p h = part_in s of_always (n ∷ vis) h
    stmt_in (While' c _ s) w vis p h =
        let xs = visits g w c.spot c.ty c.node in let ys = visits_part g (in_loop w) vis s in
        (expr_in c.node w c.spot c.ty (front xs ys h), part_in s (in_loop w) vis (back xs ys h))
    stmt_in (For' i c a _ s) w vis p h =
        let xs = visits_header g w i in let ys = visits_maybe g w c in let zs = visits_maybe g w a in
        let ws = visits_part g (in_loop w) (after_header vis i) s in (
          header_in i w (of4 xs ys zs ws h).0,
          maybe_in c w (of4 xs ys zs ws h).1,
          maybe_in a w (of4 xs ys zs ws h).2,
          part_in s (in_loop w) (after_header vis i) (of4 xs ys zs ws h).3,
        )
    stmt_in (Return e) w vis p h =
        let xs = visits_coming g w g.result e in let ys = visit F4 p (not w.parted) in
        (coming_in e w g.result (front xs ys h), fails w.parted (back xs ys h).0)
    stmt_in Break w vis p h = fails (leaves_part w) h.0
    stmt_in Continue w vis p h = fails (leaves_part w) h.0
    stmt_in Empty w vis p h = tt

    part_in : (c : Row_of-TStmt 1) (w : Facts) (vis : List ℕ) → AllKept (visits_part g w vis c) → PartInScope g w vis c
    part_in (more_of-TStmt q c rest) w vis h = stmt_in c w vis q h

    rows_in : {m : _} (c : Row_of-TStmt m) (w : Facts) (vis : List ℕ) → AllKept (visits_rows g w vis c) → RowsInScope g w vis c
    rows_in end_of-TStmt w vis h = tt
    rows_in (more_of-TStmt q c rest) w vis h =
        let xs = visits_stmt g w vis q c in let ys = visits_rows g w (after_node vis c) rest in
        (stmt_in c w vis q (front xs ys h), rows_in rest w (after_node vis c) (back xs ys h))

    other_in : (c : Held-TStmtNode-If-2) (w : Facts) (vis : List ℕ) → AllKept (visits_other g w vis c) → OtherInScope g w vis c
    other_in None' w vis h = tt
    other_in (Some' _ s) w vis h = part_in s w vis h

  stmts_in : (ss : List TStmt) (w : Facts) (vis : List ℕ) → AllKept (visits_stmts g w vis ss) → StmtsInScope g w vis ss
  stmts_in [] w vis h = tt
  stmts_in (s ∷ ss) w vis h =
      let xs = visits_stmt g w vis s.spot s.node in let ys = visits_stmts g w (after_node vis s.node) ss in
      (stmt_in s.node w vis s.spot (front xs ys h), stmts_in ss w (after_node vis s.node) (back xs ys h))

-- Of all functions of a program.

module _ (structs : List StructType) (fs : List TypedFunction) where
  kept_functions : (gs : List TypedFunction)
      → ((n : ℕ) (f : TypedFunction) → slice_get gs n ≡ Some f → FunctionInScope structs fs f)
      → AllKept (visits_functions structs fs gs)
  kept_functions [] h = tt
  kept_functions (f ∷ gs) h =
      join (visits_function structs fs f) (visits_functions structs fs gs)
      (kept_stmts (context structs fs f) f.body (of_body f.obliv) (after_params [] 0 (param_types f)) (h zero f refl))
      (kept_functions gs (λ n k e. h (suc n) k e))

  functions_in : (gs : List TypedFunction) → AllKept (visits_functions structs fs gs)
      → (n : ℕ) (f : TypedFunction) → slice_get gs n ≡ Some f → FunctionInScope structs fs f
  functions_in [] h n f e = absurd (none-some f e)
  functions_in (k ∷ gs) h zero f e =
      subst (λ x. FunctionInScope structs fs x) (same_Some k f e)
      (stmts_in (context structs fs k) k.body (of_body k.obliv) (after_params [] 0 (param_types k))
      (front (visits_function structs fs k) (visits_functions structs fs gs) h))
  functions_in (k ∷ gs) h (suc n) f e = functions_in gs (back (visits_function structs fs k) (visits_functions structs fs gs) h) n f e

pub scopes : ScopesAreJudged
unfolding first_fault
scopes t = (
  λ h. unbroken (visits_functions t.structs t.functions t.functions) (kept_functions t.structs t.functions t.functions h),
  λ h. functions_in t.structs t.functions t.functions (all_kept (visits_functions t.structs t.functions t.functions) h),
)
