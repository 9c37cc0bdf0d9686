-- Calls, and whole programs.
use Rattle.std.proofs.Common.{ℕ, zero, suc, ◌≡◌, ℤ, List, [], ◌∷◌, length, Option, Some, refl, sym, subst, true, false}
use Rattle.std.specs.Prelude.{slice_get}
use Rattle.std.proofs.lemmas.Bool.{false≢true}
use Rattle.oc_cells.specs.declared.types.CType.{CType, Int as CInt, Pointer' as CPointer', Array' as CArray', Struct as CStruct, Nothing as CNothing}
use Rattle.oc_cells.specs.declared.types.SlotType.{SlotType}
use Rattle.oc_cells.specs.declared.memory.Address.TheVariants.{At}
use Rattle.oc_cells.specs.Types.{IsLeaf}
use Rattle.oc_cells.specs.Memory.{AllHaveForm}
use Rattle.oc_source.specs.declared.spot.Spot.{Spot}
use Rattle.oc_typed.specs.declared.typed.TStmtNode.{Held-TStmtNode-If-2}
use Rattle.oc_typed.specs.declared.typed.TypedFunction.{TypedFunction}
use Rattle.oc_typed.specs.Visible.{after_params}
use Rattle.oc_walk.specs.declared.run.Flow.{Flow}
use Rattle.oc_walk.specs.declared.run.Named.{Named}
use Rattle.oc_walk.specs.Domain.{Domain}
use Rattle.oc_walk.specs.Walking.{Res, Go, Stop, Ended, Needs, Odd, bind, still, Run, Site}
use Rattle.oc_walk.specs.Cells.{S, V, puts, opens}
use Rattle.oc_walk.specs.Expressions.{Under}
use Rattle.oc_walk.specs.Statements.{listed}
use Rattle.oc_walk.specs.Walk.{zero_value, value_back, returned, called, params, invokes, found, calls, start, run_of, nowhere}
use Rattle.oc_meanings.specs.Clear.{clear, no_skip, known_of}
use Rattle.oc_meanings.specs.Events.{events}
use Rattle.typed_runs.specs.Shapes.{Heading, Sized}
use Rattle.typed_runs.specs.Statements.{ParamsOk, IsResult, FunctionOk, ProgramOk}
use Rattle.typed_runs.specs.Laws.{NotOdd, NeverOdd}
use Rattle.typed_runs.proofs.Sure.{Fine, went, ended, needs, Has, pubs, hids, ptrs, none, Safe, lift, puts_sure, HasAll, no_more, one_more}
use Rattle.typed_runs.proofs.Runs.{Ends, goes, stops, wants, Runs, next, still_so, gives, at_once, opens_runs, typed_runs, wider, shut_form}
use Rattle.typed_runs.proofs.Stmts.{Entered, one_more_slot, HasFlow, nexts, breaks, continues, backs, Grown_to, listed_runs, grown_itself, grown_more, grown_one}
use Rattle.oc_values.proofs.Numbers.{zero_fits}

leaf_sized : (lss : List (List CType)) (t : CType) → IsLeaf t → Sized lss t
leaf_sized lss (CInt k o) h = record { size = refl; flat = (tt, tt) }
leaf_sized lss (CPointer' f u t) h = record { size = refl; flat = (tt, tt) }
leaf_sized lss (CArray' n u t) h = absurd h
leaf_sized lss (CStruct n) h = absurd h
leaf_sized lss CNothing h = absurd h

module _ (D : Domain) (hs : List Heading) where
  zero_has : (u : CType) → IsResult u → Has D u (zero_value D u)
  zero_has (CInt k false) h = pubs (zero_fits k)
  zero_has (CInt k true) h = hids
  zero_has (CPointer' f u t) h = ptrs refl
  zero_has (CArray' n u t) h = absurd h
  zero_has (CStruct n) h = absurd h
  zero_has CNothing h = none

  value_has : (u : CType) {f : Flow D.Hidden} → IsResult u → HasFlow D hs u f → Has D u (value_back D u f)
  value_has u h nexts = zero_has u h
  value_has u h breaks = zero_has u h
  value_has u h continues = zero_has u h
  value_has u h (backs v) = v

  params_runs : (ts : List CType) (p : Spot) (lss : List (List CType)) (slots : List SlotType) (result : CType) (n : ℕ) (vis : List ℕ) {vs : List (V D)} {e : List Named} → Entered vis e → HasAll D ts vs → ParamsOk slots n ts → Runs D e (Grown_to D hs result e (after_params vis n ts)) (params D p lss slots n vs)
  params_runs [] p lss slots result n vis i no_more h = gives D (record { grown = grown_itself D hs result; entered = i })
  params_runs (t ∷ ts) p lss slots result n vis {e = e} i (one_more {v = v} {vs = vs} f fs) h =
      typed_runs D p (slice_get slots n) h.0.type (λ u. bind (opens D p lss u.ty n) (λ b. bind (still (puts D p u.ty (At b 0) v)) (λ _. params D p lss slots (suc n) vs))) h.0.there
      (next D (opens_runs D p lss h.0.type.ty n (subst (λ u. Sized lss u) (sym h.0.is) (leaf_sized lss t h.0.leaf))) (λ b es q.
      next D (still_so D {Q = λ _ gs. gs ≡ es} (subst (λ u. Safe D es (Has D u) (still (puts D p u (At b 0) v))) (sym h.0.is) (lift D (puts_sure D p t (At b 0) h.0.leaf f))) (λ _ _. refl)) (λ _ gs r. at_once D r
      (wider D (params_runs ts p lss slots result (suc n) (n ∷ vis) (subst (λ l. Entered (n ∷ vis) l) (sym q) (one_more_slot vis e n b i)) fs h.1) (λ _ us k. record { grown = grown_more D hs result (grown_one D hs result (record { slot = n; block = b }) q) k.grown; entered = k.entered })))))

  returned_at : (u : CType) (es : List Named) {e : List Named} (r : Res (S D) (Flow D.Hidden)) → es ≡ e → IsResult u → Ends D (λ f _. HasFlow D hs u f) r → Fine (λ t. AllHaveForm t.mem.blocks × (t.entered ≡ e)) (Has D u) (returned D u es r)
  returned_at u es (Go f s) q h (goes p g) = went (value_has u h p) (shut_form D (length s.entered) s.entered s.mem.blocks g, q)
  returned_at u es (Stop (Ended o) s) q h stops = ended
  returned_at u es (Stop (Needs k i) s) q h wants = needs
  returned_at u es (Stop (Odd p) s) q h z = elim z [ ]

  called_safe : (u : CType) {e : List Named} {m : S D → Res (S D) (Flow D.Hidden)} → IsResult u → Runs D [] (λ f _. HasFlow D hs u f) m → Safe D e (Has D u) (called D u m)
  called_safe u {m = m} h f = record { run = λ s g q. returned_at u s.entered (m (record s { entered = [] })) q h (f.run (record s { entered = [] }) g refl) }

  found_safe : {e : List Named} {P : V D → Type 0} (p : Spot) (o : Option TypedFunction) (g : TypedFunction) (k : TypedFunction → S D → Res (S D) (V D)) → o ≡ Some g → Safe D e P (k g) → Safe D e P (found D p o k)
  found_safe {e} {P} p o g k q f = subst (λ o. Safe D e P (found D p o k)) (sym q) f

  module _ (skips : ℕ → Site → Held-TStmtNode-If-2 → S D → Res (S D) (Unit {0})) (skipped : (n : ℕ) (e : List Named) (x : Site) (c : Held-TStmtNode-If-2) → Runs D e (λ _ es. es ≡ e) (skips n x c)) (run : Run) (fs : List TypedFunction) (ok : ProgramOk run.structs hs fs) where
    pub calls_safe : (n : ℕ) (e : List Named) (p : Spot) (f : ℕ) (en : D.Enable) (room : ℕ) (vs : List (V D)) (h : Heading) → slice_get hs f ≡ Some h → HasAll D h.params vs → Safe D e (Has D h.result) (calls D skips run fs n p f en room vs)
    calls_safe zero e p f en room vs h q i = record { run = λ s g r. ended }
    calls_safe (suc n) e p f en zero vs h q i = record { run = λ s g r. ended }
    calls_safe (suc n) e p f en (suc room) vs h q i =
        let z = ok f h q in
        let k : FunctionOk run.structs hs h z.0 = z.2 in
        let x : Site = record { run = run; slots = z.0.slots; room = room } in
        let w : Under D = record { enable = en; call = calls D skips run fs n; skip = skips n } in
        found_safe p (slice_get fs f) z.0 (λ g. invokes D (record { run = run; slots = g.slots; room = room }) w p g vs) z.1
        (subst (λ t. Safe D e (Has D h.result) (called D t (bind (params D p run.structs z.0.slots 0 vs) (λ _. listed D x w z.0.body)))) (sym k.result)
        (called_safe h.result k.returns (next D (params_runs h.params p run.structs z.0.slots h.result 0 [] no_slots i k.params) (λ _ es r. wider D (listed_runs D hs h.result z.0.body x w (after_params [] 0 h.params) (record { calls = record { call = λ e p f en room vs h q i. calls_safe n e p f en room vs h q i }; skips = skipped n }) r.entered k.body) (λ _ _ t. t.0)))))
      where
        no_slots : Entered [] []
        no_slots m h = absurd (false≢true h)

    not_odd : {P : V D → Type 0} {e : List Named} (r : Res (S D) (V D)) → Fine (λ t. AllHaveForm t.mem.blocks × (t.entered ≡ e)) P r → NotOdd r
    not_odd (Go a s) h = tt
    not_odd (Stop (Ended o) s) h = tt
    not_odd (Stop (Needs k i) s) h = tt
    not_odd (Stop (Odd p) s) h = elim h [ ]

    pub never : (entry : ℕ) (result : CType) (dealt : ℕ) (rev : List ℤ) (budget : ℕ) (o : D.Own) → slice_get hs entry ≡ Some (record { params = []; result = result }) → NotOdd (calls D skips run fs 1002 nowhere entry D.always 1001 [] (start D dealt rev budget o))
    never entry result dealt rev budget o q =
        not_odd (calls D skips run fs 1002 nowhere entry D.always 1001 [] (start D dealt rev budget o)) ((calls_safe 1002 [] nowhere entry D.always 1001 [] (record { params = []; result = result }) q no_more).run (start D dealt rev budget o) tt refl)

pub never_odd : NeverOdd
never_odd structs hs fs entry result ok q = (
  λ s. never (clear s.first s.second) hs no_skip (λ n e x c. gives (clear s.first s.second) refl) (run_of structs (known_of s) s.budget) fs ok entry result s.dealt [] s.budget [] q,
  λ known dealt rev budget. never events hs no_skip (λ n e x c. gives events refl) (run_of structs known budget) fs ok entry result dealt rev budget [] q,
)
