-- Statements only add.
use Rattle.std.proofs.Common.{ℕ, zero, suc, ◌-◌, List, [], ◌∷◌, length, Option, Some, None, Bool, arith}
use Rattle.std.specs.Prelude.{slice_get}
use Rattle.oc_values.specs.declared.integers.IntKind.TheVariants.{Bool as KBool}
use Rattle.oc_cells.specs.declared.types.CType.{CType}
use Rattle.oc_cells.specs.declared.memory.Address.TheVariants.{At}
use Rattle.oc_source.specs.declared.spot.Spot.{Spot}
use Rattle.oc_typed.specs.declared.typed.TExpr.{TExpr}
use Rattle.oc_typed.specs.declared.typed.TDeclared.{TDeclared}
use Rattle.oc_typed.specs.declared.typed.TForInit.{TForInit}
use Rattle.oc_typed.specs.declared.typed.TForInit.TheVariants.{Nothing as NoInit, Declare as InitDeclare, Express as InitExpress}
use Rattle.oc_typed.specs.declared.typed.TStmt.{TStmt}
use Rattle.oc_typed.specs.declared.typed.TStmtNode.{TStmtNode, Declare, Express, Block', If', OblivIf', Always', While', For', Return, Break, Continue, Empty, Row_of-TStmt, end_of-TStmt, more_of-TStmt, Held-TStmtNode-If-2, None', Some'}
use Rattle.oc_walk.specs.declared.run.Flow.{Flow}
use Rattle.oc_walk.specs.declared.run.Flow.TheVariants.{Next, Break as Broke, Continue as Continued, Back}
use Rattle.oc_walk.specs.declared.run.Value.TheVariants.{Hidden}
use Rattle.oc_walk.specs.Domain.{Domain, Parts, AllOf, FirstOf, SecondOf}
use Rattle.oc_walk.specs.Walking.{Res, Go, Stop, close, leave, scoped, Site, deeper}
use Rattle.oc_walk.specs.Cells.{S}
use Rattle.oc_walk.specs.Expressions.{Under, under}
use Rattle.oc_walk.specs.Statements.{started, declares, declares_all, proceed, part_done, round, again, loop, header, tested_or, advances, gives_back, parted, both, node, part, stmts, other, listed}
use Rattle.growing_runs.specs.Laws.{end_of}
use Rattle.growing_runs.proofs.Adding.{Adds, Spent, Goes, spent_more, seq, lift, owns, answers, stops, chosen, puts_goes, condition_goes, opens_goes, typed_goes, step_goes}
use Rattle.growing_runs.proofs.Exprs.{Calls, whole_goes, tested_goes, initializes_goes}

module _ (D : Domain) (R : D.Own → D.Own → Type 0) (adds : Adds D R) where
  abbrev Fine : {A : Type 0} → (S D → Res (S D) A) → Type 0
  Fine m = Goes D R m

  -- what surrounds a node only adds
  pub record Around (w : Under D) : Type 0 where
    pub calls : Calls D R adds w
    pub skips : (x : Site) (n : Held-TStmtNode-If-2) → Goes D R (w.skip x n)

  under_so : {w : Under D} (e : D.Enable) → Around w → Around (under D w e)
  under_so e a = record { calls = record { call = a.calls.call }; skips = a.skips }

  started_goes : (x : Site) (w : Under D) (u : CType) (b : ℕ) (c : Option TExpr) → Calls D R adds w → Fine (started D x w u b c)
  started_goes x w u b None h = answers D R adds _
  started_goes x w u b (Some c) h = seq D R adds (whole_goes D R adds x w c h) (λ v. initializes_goes D R adds c.spot x.run.structs u (At b 0) v)

  declares_goes : (x : Site) (w : Under D) (d : TDeclared) → Calls D R adds w → Fine (declares D x w d)
  declares_goes x w d h =
      typed_goes D R adds d.spot (slice_get x.slots d.slot) _ (λ t. seq D R adds (opens_goes D R adds d.spot x.run.structs t.ty d.slot) (λ b. started_goes x w t.ty b d.init h))

  all_goes : (ds : List TDeclared) (x : Site) (w : Under D) → Calls D R adds w → Fine (declares_all D x w ds)
  all_goes [] x w h = answers D R adds _
  all_goes (d ∷ ds) x w h = seq D R adds (declares_goes x w d h) (λ _. all_goes ds x w h)

  proceed_goes : (f : Flow D.Hidden) {m : S D → Res (S D) (Flow D.Hidden)} → Fine m → Fine (proceed D f m)
  proceed_goes Next h = h
  proceed_goes Broke h = answers D R adds _
  proceed_goes Continued h = answers D R adds _
  proceed_goes (Back v) h = answers D R adds _

  ended_goes : (f : Flow D.Hidden) {adv : S D → Res (S D) (Unit {0})} → Fine adv → Fine (part_done D adv f)
  ended_goes Next h = seq D R adds h (λ _. answers D R adds _)
  ended_goes Continued h = seq D R adds h (λ _. answers D R adds _)
  ended_goes Broke h = answers D R adds _
  ended_goes (Back v) h = answers D R adds _

  turn_goes : {c : S D → Res (S D) Bool} {b : S D → Res (S D) (Flow D.Hidden)} {adv : S D → Res (S D) (Unit {0})} → Fine c → Fine b → Fine adv → Fine (round D c b adv)
  turn_goes hc hb ha = seq D R adds hc (λ t. chosen D R adds t (seq D R adds (step_goes D R adds) (λ _. seq D R adds hb (λ f. ended_goes f ha))) (answers D R adds _))

  again_goes : (o : Option (Flow D.Hidden)) {m : S D → Res (S D) (Flow D.Hidden)} → Fine m → Fine (again D o m)
  again_goes None h = h
  again_goes (Some f) h = answers D R adds _

  loop_goes : (n : ℕ) {c : S D → Res (S D) Bool} {b : S D → Res (S D) (Flow D.Hidden)} {adv : S D → Res (S D) (Unit {0})} → Fine c → Fine b → Fine adv → Fine (loop D n c b adv)
  loop_goes zero hc hb ha = stops D R adds _
  loop_goes (suc n) hc hb ha = seq D R adds (turn_goes hc hb ha) (λ o. again_goes o (loop_goes n hc hb ha))

  header_goes : (i : TForInit) (x : Site) (w : Under D) → Calls D R adds w → Fine (header D x w i)
  header_goes NoInit x w h = answers D R adds _
  header_goes (InitDeclare ds) x w h = all_goes ds x w h
  header_goes (InitExpress e) x w h = seq D R adds (whole_goes D R adds x w e h) (λ _. answers D R adds _)

  tested_or_goes : (c : Option TExpr) (x : Site) (w : Under D) → Calls D R adds w → Fine (tested_or D x w c)
  tested_or_goes None x w h = answers D R adds _
  tested_or_goes (Some e) x w h = tested_goes D R adds x w e h

  advances_goes : (c : Option TExpr) (x : Site) (w : Under D) → Calls D R adds w → Fine (advances D x w c)
  advances_goes None x w h = answers D R adds _
  advances_goes (Some e) x w h = seq D R adds (whole_goes D R adds x w e h) (λ _. answers D R adds _)

  back_goes : (c : Option TExpr) (x : Site) (w : Under D) → Calls D R adds w → Fine (gives_back D x w c)
  back_goes None x w h = answers D R adds _
  back_goes (Some e) x w h = seq D R adds (whole_goes D R adds x w e h) (λ v. answers D R adds _)

  -- a scope's end leaves what the walk kept as it is
  closed : (n : ℕ) (t : S D) → Spent D R t (close n t)
  closed n t = record { mem = record { own = adds.same t.mem.own; dealt = omega arith; taken = omega arith }; steps = omega arith }

  left_at : {A : Type 0} (k : ℕ) {s : S D} (r : Res (S D) A) → Spent D R s (end_of r) → Spent D R s (end_of (leave k r))
  left_at k (Go a t) h = spent_more D R adds h (closed (length t.entered - k) t)
  left_at k (Stop w t) h = h

  scoped_goes : {A : Type 0} {m : S D → Res (S D) A} → Fine m → Fine (scoped m)
  scoped_goes {m = m} g = record { run = λ s. left_at (length s.entered) (m s) (g.run s) }

  parted_goes : (d : Parts) {m n k : S D → Res (S D) (Flow D.Hidden)} → Fine m → Fine n → Fine k → Fine (parted D d m n k)
  parted_goes AllOf f g h = f
  parted_goes FirstOf f g h = g
  parted_goes SecondOf f g h = h

  both_goes : (e : D.Enable) (h : D.Hidden) {m n : D.Enable → S D → Res (S D) (Flow D.Hidden)} → ((d : D.Enable) → Fine (m d)) → ((d : D.Enable) → Fine (n d)) → Fine (both D e h m n)
  both_goes e h f g =
      seq D R adds (lift D R adds (owns D R adds (D.first e h) (λ o. adds.first e h o))) (λ u. seq D R adds (f u) (λ w. proceed_goes w
      (seq D R adds (lift D R adds (owns D R adds (D.second e h u) (λ o. adds.second e h u o))) (λ d. g d))))

  mutual
    node_goes : (c : TStmtNode) (x : Site) (w : Under D) (p : Spot) → Around w → Fine (node D x w p c)
    node_goes (Declare ds) x w p a = seq D R adds (all_goes ds x w a.calls) (λ _. answers D R adds _)
    node_goes (Express e) x w p a = seq D R adds (whole_goes D R adds x w e a.calls) (λ _. answers D R adds _)
    node_goes (Block' _ ss) x w p a = scoped_goes (rows_goes ss x w a)
    node_goes (If' c _ s n) x w p a = seq D R adds (tested_goes D R adds x w c a.calls) (λ b. chosen D R adds b (part_goes s x w a) (other_goes n x w a))
    node_goes (OblivIf' c _ s n) x w p a =
        seq D R adds (whole_goes D R adds x w c a.calls) (λ v. seq D R adds (condition_goes D R adds c.spot v) (λ h. parted_goes (D.decide h)
        (both_goes w.enable h (λ e. part_goes s x (under D w e) (under_so e a)) (λ d. other_goes n x (under D w d) (under_so d a)))
        (seq D R adds (part_goes s x w a) (λ f. proceed_goes f (seq D R adds (a.skips x n) (λ _. answers D R adds _))))
        (seq D R adds (a.skips x (Some' tt s)) (λ _. other_goes n x w a))))
    node_goes (Always' n _ s) x w p a =
        scoped_goes (typed_goes D R adds p (slice_get x.slots n) _ (λ t. seq D R adds (opens_goes D R adds p x.run.structs t.ty n) (λ b.
        seq D R adds (puts_goes D R adds p t.ty (At b 0) (Hidden KBool (D.held w.enable))) (λ _. part_goes s x (under D w D.always) (under_so D.always a)))))
    node_goes (While' c _ s) x w p a = loop_goes x.run.rounds (tested_goes D R adds x w c a.calls) (part_goes s x w a) (answers D R adds _)
    node_goes (For' i c l _ s) x w p a =
        scoped_goes (seq D R adds (header_goes i x w a.calls) (λ _. loop_goes x.run.rounds (tested_or_goes c x w a.calls) (part_goes s x w a) (advances_goes l x w a.calls)))
    node_goes (Return c) x w p a = back_goes c x w a.calls
    node_goes Break x w p a = answers D R adds _
    node_goes Continue x w p a = answers D R adds _
    node_goes Empty x w p a = answers D R adds _

    part_goes : (c : Row_of-TStmt 1) (x : Site) (w : Under D) → Around w → Fine (part D x w c)
    part_goes (more_of-TStmt q c rest) x w a = scoped_goes (seq D R adds (step_goes D R adds) (λ _. node_goes c (deeper x) w q a))

    rows_goes : {m : _} (c : Row_of-TStmt m) (x : Site) (w : Under D) → Around w → Fine (stmts D x w c)
    rows_goes end_of-TStmt x w a = answers D R adds _
    rows_goes (more_of-TStmt q c rest) x w a = seq D R adds (seq D R adds (step_goes D R adds) (λ _. node_goes c (deeper x) w q a)) (λ f. proceed_goes f (rows_goes rest x w a))

    other_goes : (c : Held-TStmtNode-If-2) (x : Site) (w : Under D) → Around w → Fine (other D x w c)
    other_goes None' x w a = answers D R adds _
    other_goes (Some' _ s) x w a = part_goes s x w a

  pub listed_goes : (ss : List TStmt) (x : Site) (w : Under D) → Around w → Fine (listed D x w ss)
  listed_goes [] x w a = answers D R adds _
  listed_goes (s ∷ ss) x w a = seq D R adds (seq D R adds (step_goes D R adds) (λ _. node_goes s.node (deeper x) w s.spot a)) (λ f. proceed_goes f (listed_goes ss x w a))
