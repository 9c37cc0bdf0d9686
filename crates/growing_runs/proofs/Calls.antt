-- Calls and whole runs only add.
use Rattle.std.proofs.Common.{ℕ, zero, suc, ℤ, List, [], ◌∷◌, ◌++◌, Option, Some, None, Bool, true, refl, sym, ap, ◌∙◌, arith}
use Rattle.std.specs.Prelude.{slice_get}
use Rattle.std.proofs.lemmas.List.{append_assoc, append-nil}
use Rattle.oc_values.specs.declared.integers.IntKind.{IntKind}
use Rattle.oc_cells.specs.declared.types.CType.{CType}
use Rattle.oc_cells.specs.declared.types.SlotType.{SlotType}
use Rattle.oc_cells.specs.declared.memory.Address.TheVariants.{At}
use Rattle.oc_source.specs.declared.spot.Spot.{Spot}
use Rattle.oc_typed.specs.declared.typed.TStmtNode.{Held-TStmtNode-If-2}
use Rattle.oc_typed.specs.declared.typed.TypedFunction.{TypedFunction}
use Rattle.oc_walk.specs.declared.run.Named.{Named}
use Rattle.oc_walk.specs.Domain.{Domain}
use Rattle.oc_walk.specs.Walking.{Res, Go, Stop, finish, Run, Site}
use Rattle.oc_walk.specs.Cells.{V, S}
use Rattle.oc_walk.specs.Expressions.{Under}
use Rattle.oc_walk.specs.Statements.{F}
use Rattle.oc_walk.specs.Walk.{run_of, nowhere, returned, called, params, invokes, found, Skips, calls, start}
use Rattle.oc_meanings.specs.Clear.{clear, no_skip, known_of}
use Rattle.oc_meanings.specs.Events.{Operand, Entry, events}
use Rattle.growing_runs.specs.Laws.{end_of, Extends, WalksOnlyAdd, RunsStayInBudget}
use Rattle.growing_runs.proofs.Adding.{Adds, Spent, Goes, spent_more, seq, answers, stops, puts_goes, opens_goes, typed_goes}
use Rattle.growing_runs.proofs.Stmts.{listed_goes}

module _ (D : Domain) (R : D.Own → D.Own → Type 0) (adds : Adds D R) where
  params_goes : (vs : List (V D)) (p : Spot) (lss : List (List CType)) (slots : List SlotType) (n : ℕ) → Goes D R (params D p lss slots n vs)
  params_goes [] p lss slots n = answers D R adds _
  params_goes (v ∷ vs) p lss slots n =
      typed_goes D R adds p (slice_get slots n) _ (λ t. seq D R adds (opens_goes D R adds p lss t.ty n) (λ b. seq D R adds (puts_goes D R adds p t.ty (At b 0) v) (λ _. params_goes vs p lss slots (suc n))))

  finished : (outer : List Named) (s : S D) → Spent D R s (finish outer s)
  finished outer s = record { mem = record { own = adds.same s.mem.own; dealt = omega arith; taken = omega arith }; steps = omega arith }

  returned_at : (t : CType) (outer : List Named) {s : S D} (r : Res (S D) (F D)) → Spent D R s (end_of r) → Spent D R s (end_of (returned D t outer r))
  returned_at t outer (Go f u) h = spent_more D R adds h (finished outer u)
  returned_at t outer (Stop w u) h = h

  entered_at : {s t : S D} → Spent D R (record s { entered = [] }) t → Spent D R s t
  entered_at h = record { mem = h.mem; steps = h.steps }

  called_goes : (t : CType) {m : S D → Res (S D) (F D)} → Goes D R m → Goes D R (called D t m)
  called_goes t {m = m} g = record { run = λ s. returned_at t s.entered (m (record s { entered = [] })) (entered_at (g.run (record s { entered = [] }))) }

  found_goes : (p : Spot) (o : Option TypedFunction) (k : TypedFunction → S D → Res (S D) (V D)) → ((g : TypedFunction) → Goes D R (k g)) → Goes D R (found D p o k)
  found_goes p (Some g) k f = f g
  found_goes p None k f = stops D R adds _

  module _ (skips : Skips D) (skipped : (n : ℕ) (x : Site) (c : Held-TStmtNode-If-2) → Goes D R (skips n x c)) (run : Run) (fs : List TypedFunction) where
    pub calls_go : (n : ℕ) (p : Spot) (f : ℕ) (e : D.Enable) (room : ℕ) (vs : List (V D)) → Goes D R (calls D skips run fs n p f e room vs)
    calls_go zero p f e room vs = stops D R adds _
    calls_go (suc n) p f e zero vs = stops D R adds _
    calls_go (suc n) p f e (suc room) vs =
        let w : Under D = record { enable = e; call = calls D skips run fs n; skip = skips n } in
        found_goes p (slice_get fs f) (λ g. invokes D (record { run = run; slots = g.slots; room = room }) w p g vs) (λ g.
        called_goes g.result (seq D R adds (params_goes vs p run.structs g.slots 0) (λ _.
        listed_goes D R adds g.body (record { run = run; slots = g.slots; room = room }) w (record { calls = record { call = λ p f e room vs. calls_go n p f e room vs }; skips = λ x c. skipped n x c }))))

-- Lists that are longer at their end.

extends_same : {E : Type 0} (es : List E) → Extends es es
extends_same es = record { new = []; is = sym (append-nil es) }

extends_more : {E : Type 0} {xs ys zs : List E} → Extends xs ys → Extends ys zs → Extends xs zs
extends_more {xs = xs} h i = record { new = h.new ++ i.new; is = i.is ∙ ap (λ l. l ++ i.new) h.is ∙ append_assoc xs h.new i.new }

extends_by : {E : Type 0} (es : List E) (e : E) → Extends es (es ++ e ∷ [])
extends_by es e = record { new = e ∷ []; is = refl }

clear_adds : (X Y : List ℤ) → Adds (clear X Y) Extends
clear_adds X Y =
    record {
      same = extends_same;
      more = extends_more;
      one = λ op k x o. extends_same o;
      binary = λ op k x y o. extends_same o;
      shift = λ op k x n o. extends_same o;
      turn = λ from to x o. extends_same o;
      pick = λ k e x y o. extends_same o;
      first = λ e h o. extends_same o;
      second = λ e h u o. extends_same o;
      feed = λ party k i o. extends_same o;
      reveal = λ k h n o. extends_by o _;
      give = λ party k h o. extends_by o _;
      print = λ bytes o. extends_by o _;
    }

picks_add : (k : IntKind) (e : Option Operand) (x y : Operand) (o : List Entry) → Extends o (events.pick k e x y o).1
picks_add k None x y o = extends_same o
picks_add k (Some e) x y o = extends_by o _

first_adds : (e : Option Operand) (h : Operand) (o : List Entry) → Extends o (events.first e h o).1
first_adds None h o = extends_same o
first_adds (Some e) h o = extends_by o _

second_adds : (e : Option Operand) (h : Operand) (u : Option Operand) (o : List Entry) → Extends o (events.second e h u o).1
second_adds None h u o = extends_by o _
second_adds (Some e) h None o = extends_same o
second_adds (Some e) h (Some u) o = extends_by o _

events_add : Adds events Extends
events_add =
    record {
      same = extends_same;
      more = extends_more;
      one = λ op k x o. extends_by o _;
      binary = λ op k x y o. extends_by o _;
      shift = λ op k x n o. extends_by o _;
      turn = λ from to x o. extends_by o _;
      pick = picks_add;
      first = first_adds;
      second = second_adds;
      feed = λ party k i o. extends_by o _;
      reveal = λ k h n o. extends_by o _;
      give = λ party k h o. extends_by o _;
      print = λ bytes o. extends_by o _;
    }

clear_goes : (X Y : List ℤ) (run : Run) (fs : List TypedFunction) (n : ℕ) (p : Spot) (f : ℕ) (e : Bool) (room : ℕ) (vs : List (V (clear X Y))) (s : S (clear X Y))
    → Spent (clear X Y) Extends s (end_of (calls (clear X Y) no_skip run fs n p f e room vs s))
clear_goes X Y run fs n p f e room vs s =
    (calls_go (clear X Y) Extends (clear_adds X Y) no_skip (λ n x c. answers (clear X Y) Extends (clear_adds X Y) tt) run fs n p f e room vs).run s

events_go : (run : Run) (fs : List TypedFunction) (n : ℕ) (p : Spot) (f : ℕ) (e : Option Operand) (room : ℕ) (vs : List (V events)) (s : S events)
    → Spent events Extends s (end_of (calls events no_skip run fs n p f e room vs s))
events_go run fs n p f e room vs s = (calls_go events Extends events_add no_skip (λ n x c. answers events Extends events_add tt) run fs n p f e room vs).run s

pub walks_add : WalksOnlyAdd
walks_add run fs n p f room = (
  λ X Y e vs s. let h = clear_goes X Y run fs n p f e room vs s in record { shown = h.mem.own; steps = h.steps; dealt = h.mem.dealt; taken = h.mem.taken },
  λ e vs s. let h = events_go run fs n p f e room vs s in record { shown = h.mem.own; steps = h.steps; dealt = h.mem.dealt; taken = h.mem.taken },
)

pub stays_in_budget : RunsStayInBudget
stays_in_budget structs fs entry = (
  λ s. let h = clear_goes s.first s.second (run_of structs (known_of s) s.budget) fs 1002 nowhere entry true 1001 [] (start (clear s.first s.second) s.dealt [] s.budget []) in (h.steps, h.mem.dealt),
  λ known dealt rev budget. let h = events_go (run_of structs known budget) fs 1002 nowhere entry None 1001 [] (start events dealt rev budget []) in (h.steps, h.mem.dealt),
)
