-- How the parts of a statement make its walk.
use Rattle.std.proofs.Common.{ℕ, zero, suc, ◌-◌, ◌≡◌, ◌<◌, ℤ, List, length, Option, Some, None, Result, Ok, Err, sym, ap, ◌∙◌, subst, Bool, true, false, arith}
use Rattle.std.proofs.lemmas.List.{length-reverse}
use Rattle.oc_source.specs.declared.spot.Spot.{Spot}
use Rattle.oc_typed.specs.declared.typed.TExpr.{TExpr}
use Rattle.oc_typed.specs.declared.typed.TDeclared.{TDeclared}
use Rattle.oc_typed.specs.declared.typed.TForInit.{TForInit}
use Rattle.oc_typed.specs.declared.typed.TStmt.{TStmt}
use Rattle.oc_typed.specs.declared.typed.TStmtNode.{TStmtNode, Declare, Express, Block, If, OblivIf, Always, While, For, Return}
use Rattle.oc_walk.specs.declared.run.Flow.{Flow}
use Rattle.oc_walk.specs.declared.run.Flow.TheVariants.{Next}
use Rattle.oc_walk.specs.Walking.{Site, Res, Go, after, bind, pure, choose, still, step, scoped, leave, close, deeper}
use Rattle.oc_walk.specs.Operations.{condition}
use Rattle.oc_walk.specs.Expressions.{Under, whole, tested}
use Rattle.oc_walk.specs.Statements.{node, listed, declares_all, header, tested_or, advances, round, loop, again, part_done}
use Rattle.oc_walk.proofs.Views.{block_at, if_at, if_alone_at, always_at, while_at, for_at}
use Rattle.oc_meanings.proofs.Views.{obliv_at, obliv_alone_at}
use Rattle.clear_actions.specs.Acting.{ClearState, Gives, SameBlocks, state_of}
use Rattle.clear_actions.specs.declared.machine.Machine.{Machine}
use Rattle.clear_actions.specs.declared.machine.Fault.{Fault}
use Rattle.clear_actions.specs.declared.machine.Fault.TheVariants.{Halted, NoMemory}
use Rattle.clear_walk.specs.declared.around.Frame.{Frame}
use Rattle.clear_walk.specs.declared.writes.Condition.{Condition}
use Rattle.clear_walk.specs.declared.around.At.{At}
use Rattle.clear_walk.specs.Places.{below}
use Rattle.clear_walk.specs.Runs.{Around, around, domain_of, site_of, under_of, Here, Walks, RunsExpr, RunsTest, RunsCondition, RunsHidden, RunsDeclares, RunsHeader, RunsStmt, RunsAfter, RunsRound, RunsLoop, RunsHeaded, RunsReturn, Turned, integer_of, part_of, other_of, both_of, always_of, loop_of, headed}
use Rattle.clear_walk.proofs.Walked.{CAct, Then, Goes, chain, as_walk, as_states, lower, stops, after_after, ready_later, same_later}

abbrev F : Type 0
F = Flow ℤ

-- a statement with this node
pub after_is : {at : Around} {s : TStmt} {n : TStmtNode} {m m1 : Machine} {r : Result F Fault} → s.node ≡ n → RunsAfter at s.spot n m r m1 → RunsAfter at s.spot s.node m r m1
after_is {at = at} {s = s} {n = n} h x = record { runs = as_walk (λ x w. node (domain_of at) x w s.spot s.node) (λ x w. node (domain_of at) x w s.spot n) (λ x w. ap (λ c. node (domain_of at) x w s.spot c) h) x.runs }

pub deep_after : (f : Frame) (p d : At) {q : Spot} {n : TStmtNode} {m m1 : Machine} {r : Result F Fault} → d ≡ below p → RunsAfter (around f d) q n m r m1 → Walks (around f p) (λ x w. node (domain_of (around f p)) (deeper x) w q n) m r m1
deep_after f p d {q} {n} {m} {m1} {r} h x = lower {at = around f p} (λ x w. node (domain_of (around f p)) x w q n) (subst (λ k. RunsAfter (around f k) q n m r m1) h x).runs

-- what a scope leaves of a first answer
abbrev pub Leaves : {T : Type 0} → ℕ → Result T Fault → Machine → Result T Fault → Machine → Type 0
Leaves k (Ok a) m1 r m2 = (r ≡ Ok a) × (state_of m2 ≡ close (length m1.entered - k) (state_of m1)) × SameBlocks m1.store m2.store
Leaves k (Err e) m1 r m2 = (r ≡ Err e) × (m2 ≡ m1)

leaves_stop : {T : Type 0} (k : ℕ) (q : Res ClearState T) (e : Fault) (s : ClearState) → Gives q (Err e) s → Gives (leave k q) (Err e) s
leaves_stop k q (Halted h) s d = ap (λ z. leave k z) d
leaves_stop k q NoMemory s d = tt

closes_so : {T : Type 0} (a : T) (m m1 m2 : Machine) (k : ℕ) → k ≡ length m.entered → state_of m2 ≡ close (length m1.entered - k) (state_of m1) → leave (length (state_of m).entered) (Go a (state_of m1)) ≡ Go a (state_of m2)
closes_so a m m1 m2 k h e =
    ap (λ j. Go a (close (j - length (state_of m).entered) (state_of m1))) (length-reverse m1.entered)
    ∙ ap (λ j. Go a (close (length m1.entered - j) (state_of m1))) (length-reverse m.entered ∙ sym h)
    ∙ ap (λ s. Go a s) (sym e)

module _ (at : Around) where
  pub stepped_so : (s : TStmt) {m m1 m2 : Machine} (r1 : Result (Unit {0}) Fault) {r : Result F Fault} → Walks at (λ x w. step) m r1 m1 → Goes at (λ x w _. node (domain_of at) (deeper x) w s.spot s.node) r1 m1 r m2 → RunsStmt at s m r m2
  stepped_so s r1 x y = record { runs = chain (λ x w. step) (λ x w _. node (domain_of at) (deeper x) w s.spot s.node) r1 x y }

  pub declare_so : (p : Spot) (ds : List TDeclared) {m m1 m2 : Machine} (r1 : Result (Unit {0}) Fault) {r : Result F Fault} → RunsDeclares at ds m r1 m1 → Goes at (λ x w _. pure Next) r1 m1 r m2 → RunsAfter at p (Declare ds) m r m2
  declare_so p ds r1 x y = record { runs = chain (λ x w. declares_all (domain_of at) x w ds) (λ x w _. pure Next) r1 x.runs y }

  pub express_so : (p : Spot) (e : TExpr) {m m1 m2 : Machine} (r1 : Result _ Fault) {r : Result F Fault} → RunsExpr at e m r1 m1 → Goes at (λ x w _. pure Next) r1 m1 r m2 → RunsAfter at p (Express e) m r m2
  express_so p e r1 x y = record { runs = chain (λ x w. whole (domain_of at) x w e) (λ x w _. pure Next) r1 x.runs y }

  pub scoped_so : {T : Type 0} (g : Here at T) {m m1 m2 : Machine} (r1 : Result T Fault) {r : Result T Fault} {k : ℕ} → k ≡ length m.entered → Walks at g m r1 m1 → Leaves k r1 m1 r m2 → Walks at (λ x w. scoped (g x w)) m r m2
  scoped_so g {m} {m1} {m2} (Ok a) {r} {k} h x y = subst (λ q. Walks at (λ x w. scoped (g x w)) m q m2) (sym y.0) (record {
    does = λ ls rounds n t lt. ap (λ z. leave (length (state_of m).entered) z) (x.does ls rounds n t lt) ∙ closes_so a m m1 m2 k h y.1;
    kept = same_later m.store m1.store m2.store x.kept y.2;
    fewer = let e = ap (λ s. s.steps) y.1 in let b = x.fewer in omega (arith, e, b);
  })
  scoped_so g {m} {m1} {m2} (Err e) {r} {k} h x y = subst (λ q. Walks at (λ x w. scoped (g x w)) m q m2) (sym y.0) (subst (λ j. Walks at (λ x w. scoped (g x w)) m (Err e) j) (sym y.1) (record {
    does = λ ls rounds n t lt. leaves_stop (length (state_of m).entered) (g (site_of ls rounds at) (under_of ls rounds n at) (state_of m)) e (state_of m1) (x.does ls rounds n t lt);
    kept = x.kept;
    fewer = x.fewer;
  }))

  pub block_so : (p : Spot) (ss : List TStmt) {m m2 : Machine} {r : Result F Fault} → Walks at (λ x w. scoped (listed (domain_of at) x w ss)) m r m2 → RunsAfter at p (Block ss) m r m2
  block_so p ss x = record { runs = as_walk (λ x w. node (domain_of at) x w p (Block ss)) (λ x w. scoped (listed (domain_of at) x w ss)) (λ x w. block_at (domain_of at) x w p ss) x }

  -- what follows a condition
  abbrev pub then_part : TStmt → Option TStmt → Then at Bool F
  then_part s n x w b = choose b (part_of at s x w) (other_of at n x w)

  if_is : (p : Spot) (c : TExpr) (s : TStmt) (n : Option TStmt) (x : Site) (w : Under (domain_of at)) → node (domain_of at) x w p (If c s n) ≡ bind (tested (domain_of at) x w c) (then_part s n x w)
  if_is p c s None x w = if_alone_at (domain_of at) x w p c s
  if_is p c s (Some n) x w = if_at (domain_of at) x w p c s n

  pub if_so : (p : Spot) (c : TExpr) (s : TStmt) (n : Option TStmt) {m m1 m2 : Machine} (r1 : Result Bool Fault) {r : Result F Fault} → RunsTest at c m r1 m1 → Goes at (then_part s n) r1 m1 r m2 → RunsAfter at p (If c s n) m r m2
  if_so p c s n r1 x y = record {
    runs = as_walk (λ x w. node (domain_of at) x w p (If c s n)) (λ x w. bind (tested (domain_of at) x w c) (then_part s n x w)) (λ x w. if_is p c s n x w) (chain (λ x w. tested (domain_of at) x w c) (then_part s n) r1 x.runs y);
  }

  pub chooses_first : {T : Type 0} {b : Bool} {g : Here at T} (k : Here at T) {m m1 : Machine} {r : Result T Fault} → b ≡ true → Walks at g m r m1 → Walks at (λ x w. choose b (g x w) (k x w)) m r m1
  chooses_first {T} {b} {g} k h x = as_states (λ x w. choose b (g x w) (k x w)) g (λ x w s. ap (λ c. choose c (g x w) (k x w) s) h) x

  pub chooses_second : {T : Type 0} {b : Bool} (g : Here at T) {k : Here at T} {m m1 : Machine} {r : Result T Fault} → b ≡ false → Walks at k m r m1 → Walks at (λ x w. choose b (g x w) (k x w)) m r m1
  chooses_second {T} {b} g {k} h x = as_states (λ x w. choose b (g x w) (k x w)) k (λ x w s. ap (λ c. choose c (g x w) (k x w) s) h) x

  pub while_so : (p : Spot) (c : TExpr) (s : TStmt) {m m2 : Machine} {r : Result F Fault} → RunsLoop at (Some c) None s m r m2 → RunsAfter at p (While c s) m r m2
  while_so p c s x = record { runs = as_walk (λ x w. node (domain_of at) x w p (While c s)) (λ x w. loop_of at x.run.rounds (Some c) None s x w) (λ x w. while_at (domain_of at) x w p c s) x.runs }

  pub for_so : (p : Spot) (i : TForInit) (c a : Option TExpr) (s : TStmt) {m m2 : Machine} {r : Result F Fault} → Walks at (λ x w. scoped (headed at i c a s x w)) m r m2 → RunsAfter at p (For i c a s) m r m2
  for_so p i c a s x = record { runs = as_walk (λ x w. node (domain_of at) x w p (For i c a s)) (λ x w. scoped (headed at i c a s x w)) (λ x w. for_at (domain_of at) x w p i c a s) x }

  pub always_so : (p : Spot) (k : ℕ) (s : TStmt) {m m2 : Machine} {r : Result F Fault} → Walks at (λ x w. scoped (always_of at p k s x w)) m r m2 → RunsAfter at p (Always k s) m r m2
  always_so p k s x = record { runs = as_walk (λ x w. node (domain_of at) x w p (Always k s)) (λ x w. scoped (always_of at p k s x w)) (λ x w. always_at (domain_of at) x w p k s) x }

  pub return_so : (p : Spot) (e : Option TExpr) {m m2 : Machine} {r : Result F Fault} → RunsReturn at e m r m2 → RunsAfter at p (Return e) m r m2
  return_so p e x = record { runs = x.runs }

  obliv_is : (p : Spot) (c : TExpr) (s : TStmt) (n : Option TStmt) (x : Site) (w : Under (domain_of at)) → node (domain_of at) x w p (OblivIf c s n) ≡ bind (whole (domain_of at) x w c) (λ v. bind (still (condition (domain_of at) c.spot v)) (λ h. both_of at h s n x w))
  obliv_is p c s None x w = obliv_alone_at at.setup.first at.setup.second x w p c s
  obliv_is p c s (Some n) x w = obliv_at at.setup.first at.setup.second x w p c s n

  pub obliv_so : (p : Spot) (c : TExpr) (s : TStmt) (n : Option TStmt) {m m1 m2 : Machine} (r1 : Result Condition Fault) {r : Result F Fault} → RunsHidden at c m r1 m1 → Goes at (λ x w h. both_of at h s n x w) (integer_of r1) m1 r m2 → RunsAfter at p (OblivIf c s n) m r m2
  obliv_so p c s n r1 x y = record {
    runs = as_states (λ x w. node (domain_of at) x w p (OblivIf c s n)) (λ x w. bind (bind (whole (domain_of at) x w c) (λ v. still (condition (domain_of at) c.spot v))) (λ h. both_of at h s n x w))
        (λ x w t. ap (λ k. k t) (obliv_is p c s n x w) ∙ sym (after_after (whole (domain_of at) x w c t) (λ v. still (condition (domain_of at) c.spot v)) (λ h. both_of at h s n x w)))
        (chain (λ x w. bind (whole (domain_of at) x w c) (λ v. still (condition (domain_of at) c.spot v))) (λ x w h. both_of at h s n x w) (integer_of r1) x.runs y);
  }

  pub headed_so : (i : TForInit) (c a : Option TExpr) (s : TStmt) {m m1 m2 : Machine} (r1 : Result (Unit {0}) Fault) {r : Result F Fault} → RunsHeader at i m r1 m1 → Goes at (λ x w _. loop_of at x.run.rounds c a s x w) r1 m1 r m2 → RunsHeaded at i c a s m r m2
  headed_so i c a s r1 x y = record { runs = chain (λ x w. header (domain_of at) x w i) (λ x w _. loop_of at x.run.rounds c a s x w) r1 x.runs y }

  -- what follows the condition of a loop
  abbrev pub then_turn : Option TExpr → TStmt → Then at Bool (Option F)
  then_turn a s x w b = choose b (bind step (λ _. bind (part_of at s x w) (part_done (domain_of at) (advances (domain_of at) x w a)))) (pure (Some Next))

  pub round_so : (c a : Option TExpr) (s : TStmt) {m m1 m2 : Machine} (r1 : Result Bool Fault) {r : Result (Option F) Fault} → RunsCondition at c m r1 m1 → Goes at (then_turn a s) r1 m1 r m2 → RunsRound at c a s m r m2
  round_so c a s r1 x y = record { runs = chain (λ x w. tested_or (domain_of at) x w c) (then_turn a s) r1 x.runs y }

  -- one more round of a loop, from where it stands
  module _ (c : CAct Bool) (b : CAct F) (a : CAct (Unit {0})) (m m1 : Machine) where
    next_at : (k : ℕ) → m.steps < k → round (domain_of at) c b a (state_of m) ≡ Go None (state_of m1) → m1.steps < m.steps → (j : ℕ) × (m1.steps < j) × (loop (domain_of at) k c b a (state_of m) ≡ loop (domain_of at) j c b a (state_of m1))
    next_at zero lt e less = absurd (omega (arith, lt))
    next_at (suc k) lt e less = (k, omega (arith, lt, less), ap (λ r. after r (λ o. again (domain_of at) o (loop (domain_of at) k c b a))) e)

    end_at : (k : ℕ) (f : F) → m.steps < k → round (domain_of at) c b a (state_of m) ≡ Go (Some f) (state_of m1) → loop (domain_of at) k c b a (state_of m) ≡ Go f (state_of m1)
    end_at zero f lt e = absurd (omega (arith, lt))
    end_at (suc k) f lt e = ap (λ r. after r (λ o. again (domain_of at) o (loop (domain_of at) k c b a))) e

    stop_at : (k : ℕ) (f : Fault) → m.steps < k → Gives {A = Option F} (round (domain_of at) c b a (state_of m)) (Err f) (state_of m1) → Gives {A = F} (loop (domain_of at) k c b a (state_of m)) (Err f) (state_of m1)
    stop_at zero f lt e = absurd (omega (arith, lt))
    stop_at (suc k) f lt e = stops (round (domain_of at) c b a (state_of m)) (λ o. again (domain_of at) o (loop (domain_of at) k c b a)) f (state_of m1) e

  module _ {c a : Option TExpr} {s : TStmt} {m m1 m2 : Machine} where
    pub turned_next : Turned at c a s m m1 → RunsRound at c a s m1 (Ok None) m2 → m2.steps < m1.steps → Turned at c a s m m2
    turned_next t r less = record {
      does = λ ls rounds n d lt.
          let x = site_of ls rounds at in
          let w : Under (domain_of at) = under_of ls rounds n at in
          let q = t.does ls rounds n d lt in
          let z = next_at (tested_or (domain_of at) x w c) (part_of at s x w) (advances (domain_of at) x w a) m1 m2 q.0 q.1 (r.runs.does ls rounds n (ready_later d t.kept t.fewer) lt) less in
          (z.0, z.1, q.2 ∙ z.2);
      kept = same_later m.store m1.store m2.store t.kept r.runs.kept;
      fewer = let p = t.fewer in omega (arith, p, less);
    }

    pub loop_ends : {f : F} → Turned at c a s m m1 → RunsRound at c a s m1 (Ok (Some f)) m2 → RunsLoop at c a s m (Ok f) m2
    loop_ends {f} t r = record {
      runs = record {
        does = λ ls rounds n d lt.
            let x = site_of ls rounds at in
            let w : Under (domain_of at) = under_of ls rounds n at in
            let q = t.does ls rounds n d lt in
            q.2 ∙ end_at (tested_or (domain_of at) x w c) (part_of at s x w) (advances (domain_of at) x w a) m1 m2 q.0 f q.1 (r.runs.does ls rounds n (ready_later d t.kept t.fewer) lt);
        kept = same_later m.store m1.store m2.store t.kept r.runs.kept;
        fewer = let p = t.fewer in let z = r.runs.fewer in omega (arith, p, z);
      };
    }

    pub loop_stops : {f : Fault} → Turned at c a s m m1 → RunsRound at c a s m1 (Err f) m2 → RunsLoop at c a s m (Err f) m2
    loop_stops {f} t r = record {
      runs = record {
        does = λ ls rounds n d lt.
            let x = site_of ls rounds at in
            let w : Under (domain_of at) = under_of ls rounds n at in
            let q = t.does ls rounds n d lt in
            subst (λ z. Gives {A = F} z (Err f) (state_of m2)) (sym q.2) (stop_at (tested_or (domain_of at) x w c) (part_of at s x w) (advances (domain_of at) x w a) m1 m2 q.0 f q.1 (r.runs.does ls rounds n (ready_later d t.kept t.fewer) lt));
        kept = same_later m.store m1.store m2.store t.kept r.runs.kept;
        fewer = let p = t.fewer in let z = r.runs.fewer in omega (arith, p, z);
      };
    }
