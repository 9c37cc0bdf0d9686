-- Calls, and whole programs.
use Rattle.std.proofs.Common.{ℕ, zero, suc, ◌+◌, ◌-◌, ◌≡◌, ◌<◌, ◌≤◌, List, [], ◌∷◌, length, Option, Some, None, refl, ap, ◌∙◌, arith}
use Rattle.std.specs.Prelude.{ℤ, slice_get}
use Rattle.oc_cells.specs.declared.types.CType.{CType}
use Rattle.oc_cells.specs.declared.types.StructType.{StructType}
use Rattle.oc_source.specs.declared.spot.Spot.{Spot}
use Rattle.oc_typed.specs.declared.typed.TStmt.{TStmt}
use Rattle.oc_typed.specs.declared.typed.TStmtNode.{Held-TStmtNode-If-2}
use Rattle.oc_typed.specs.declared.typed.TypedFunction.{TypedFunction}
use Rattle.oc_walk.specs.declared.run.Flow.TheVariants.{Next, Break as Broke, Continue as Continued, Back}
use Rattle.oc_walk.specs.declared.run.Named.{Named}
use Rattle.oc_walk.specs.Domain.{Domain, AllOf}
use Rattle.oc_walk.specs.Walking.{Res, Go, Stop, after, Known, Run, Site}
use Rattle.oc_walk.specs.Cells.{V, S, A}
use Rattle.oc_walk.specs.Statements.{F, node, listed}
use Rattle.oc_walk.specs.Walk.{zero_value, returned, params, invokes, found, calls, start, walk, nowhere, run_of}
use Rattle.oc_code.specs.declared.code.Instr.TheVariants.{Step, Invoke}
use Rattle.oc_code.specs.declared.code.CodeFunction.{CodeFunction}
use Rattle.oc_code.specs.Machine.{Setup, Here, Conf, at, Caller, landed, opened, caller_of, called_with, reached, invoked, follow, next, Finished, and_then, exec, entry_at, EndsSo}
use Rattle.oc_code.specs.Lower.{line, node_code, end_code, listed_code, function_code, functions_code, lowered}
use Rattle.code_runs.proofs.Runs.{HasAt, has_front, has_back, has_all, goes_one, Runs, went, stops, before, stands, Any, Does}
use Rattle.code_runs.proofs.Exprs.{onto, args_popped, X, W, CallsRun}
use Rattle.code_runs.proofs.Stmts.{slots, lands, Ok, next_to, then_next, moved, step_runs, end_comes, Steady, params_steady}
use Rattle.code_runs.proofs.Nodes.{Exit, Ctx, deep, coding, node_runs}

-- the code of a function, where there is one
abbrev code_of : List (List CType) → Option TypedFunction → Option CodeFunction
code_of lss None = None
code_of lss (Some f) = Some (function_code lss f)

get_code : (lss : List (List CType)) (ts : List TypedFunction) (n : ℕ) → slice_get (functions_code lss ts) n ≡ code_of lss (slice_get ts n)
get_code lss [] n = refl
get_code lss (t ∷ ts) zero = refl
get_code lss (t ∷ ts) (suc n) = get_code lss ts n

module _ (D : Domain) (decides : (b : D.Hidden) → D.decide b ≡ AllOf) (skips : ℕ → Site → Held-TStmtNode-If-2 → A D (Unit {0})) (run : Run) (ts : List TypedFunction) where
  abbrev pub g : Setup
  g = record { run = run; functions = functions_code run.structs ts }

  abbrev All : {T : Type 0} → T → S D → Type 0
  All a t = Unit {0}

  abbrev Free : S D → Type 0
  Free t = Unit {0}

  module _ (fuel : ℕ) (small : fuel ≤ 1001) (calls_run : CallsRun D g fuel small (calls D skips run ts fuel) (skips fuel)) where
    abbrev ending : (u : CType) (h : Here D) (c : Caller D) (cs : List (Caller D)) → h.callers ≡ c ∷ cs → (xs : List ℕ) → Exit D g fuel small (calls D skips run ts fuel) (skips fuel) calls_run decides h xs
    ending u h c cs callers xs = record { x = end_code u; to = λ t. landed D c cs (zero_value D u) t; does = λ q t same has. end_comes D g u h c cs callers q t has }

    -- what surrounds a statement of a function's own body
    abbrev in_body : (u : CType) (h : Here D) → h.room < fuel → (n : ℕ) → n < run.rounds → (c : Caller D) (cs : List (Caller D)) → h.callers ≡ c ∷ cs → List ℕ → Ctx D g fuel small (calls D skips run ts fuel) (skips fuel) calls_run decides
    in_body u h enough n lt c cs callers xs = record {
      h = h;
      enough = enough;
      n = n;
      lt = lt;
      r = h.room;
      d = 0;
      room = let e : h.room ≡ h.room - 0 = omega arith in e;
      xs = xs;
      c = c;
      cs = cs;
      callers = callers;
      br = ending u h c cs callers xs;
      ct = ending u h c cs callers xs;
    }

    -- a function's own body, from its next statement
    listed_runs : (u : CType) (h : Here D) (enough : h.room < fuel) (n : ℕ) (lt : n < run.rounds) (c : Caller D) (cs : List (Caller D)) (callers : h.callers ≡ c ∷ cs) (ss : List TStmt) (pc : ℕ) (s : S D) → HasAt h.code pc (listed_code (coding D g fuel small (calls D skips run ts fuel) (skips fuel) calls_run decides h) u pc ss) → s.steps ≤ n → Runs D g (Ok D g Free Free) n (at D h pc [] s) (lands D g c cs (λ t. landed D c cs (zero_value D u) t) (λ t. landed D c cs (zero_value D u) t) (λ t. landed D c cs (zero_value D u) t)) (listed D (X D g fuel small (calls D skips run ts fuel) (skips fuel) h.slots h.room) (W D g fuel small (calls D skips run ts fuel) (skips fuel) h.enable) ss s)
    listed_runs u h enough n lt c cs callers [] pc s has le = went (end_comes D g u h c cs callers pc s has) le tt
    listed_runs u h enough n lt c cs callers (i ∷ is) pc s has le =
        let e = in_body u h enough n lt c cs callers (slots s.entered) in
        let site = X D g fuel small (calls D skips run ts fuel) (skips fuel) h.slots in
        let w = W D g fuel small (calls D skips run ts fuel) (skips fuel) h.enable in
        let b = node_code (coding D g fuel small (calls D skips run ts fuel) (skips fuel) calls_run decides h) 1 (end_code u) (end_code u) (pc + 1) i.spot i.node in
        let a = line i.spot Step ∷ b in
        let y : pc + 1 + length b ≡ pc + length a = omega arith in
        then_next D g {N = Free} {B = Free} {Q = Free} c cs (λ t. at D h (pc + length a) [] t) _ _ _ (listed D (site h.room) w is)
        (step_runs D g h i.spot pc [] s _ (node D (site (h.room - 1)) w i.spot i.node) has.0 (λ j l.
        next_to D g c cs _ _ _ _ (let r : n ≤ n = omega arith in r) (λ t l q. (moved D g h [] t _ _ y, tt {0})) (λ t q. tt {0})
        (node_runs D g fuel small (calls D skips run ts fuel) (skips fuel) calls_run decides (deep D g fuel small (calls D skips run ts fuel) (skips fuel) calls_run decides e) i.spot i.node (pc + 1) (record s { steps = j }) (has_front h.code (pc + 1) b _ has.1) (let r : j ≤ n = omega (arith, l, le) in r) refl)))
        (λ t l q. listed_runs u h enough n lt c cs callers is (pc + length a) t (has_back h.code pc a _ has) l)

  -- the end of a call
  returned_runs : {n : ℕ} {d : Conf D} {es : List Named} (u : CType) (h : Here D) (pc : ℕ) (us : List (V D)) (outer : List Named) (r : Res (S D) (F D)) → outer ≡ es → Runs D g (Ok D g Free Free) n d (lands D g (caller_of D h pc us outer) h.callers (λ t. landed D (caller_of D h pc us outer) h.callers (zero_value D u) t) (λ t. landed D (caller_of D h pc us outer) h.callers (zero_value D u) t) (λ t. landed D (caller_of D h pc us outer) h.callers (zero_value D u) t)) r → Runs D g (λ v t. (t.entered ≡ es) × Unit {0}) n d (λ v t. at D h pc (v ∷ us) t) (returned D u outer r)
  returned_runs u h pc us outer r e (went {a = Next} {t = t} f l p) = went f l (e, tt {0})
  returned_runs u h pc us outer r e (went {a = Broke} {t = t} f l p) = went f l (e, tt {0})
  returned_runs u h pc us outer r e (went {a = Continued} {t = t} f l p) = went f l (e, tt {0})
  returned_runs u h pc us outer r e (went {a = Back v} {t = t} f l p) = went f l (e, tt {0})
  returned_runs u h pc us outer r e (stops q w) = stops q w

  module _ (k : ℕ) (small : k ≤ 1001) (ih : CallsRun D g k small (calls D skips run ts k) (skips k)) (m : ℕ) (lt : m < run.rounds) (h : Here D) (enough : h.room < suc k) (pc : ℕ) (us : List (V D)) (s : S D) (es : List Named) (p : Spot) (f : ℕ) (vs : List (V D)) where
    abbrev out : V D → S D → Conf D
    out v t = at D h (pc + 1) (v ∷ us) t

    abbrev here_in : TypedFunction → ℕ → Here D
    here_in q r = record { code = listed_code (record { structs = run.structs; slots = q.slots }) q.result 0 q.body; slots = q.slots; enable = h.enable; aside = []; room = r; callers = caller_of D h (pc + 1) us s.entered ∷ h.callers }

    abbrev body_of : TypedFunction → ℕ → A D (F D)
    body_of q r = listed D (record { run = run; slots = q.slots; room = r }) (record { enable = h.enable; call = calls D skips run ts k; skip = skips k }) q.body

    by_params : (q : TypedFunction) (r : ℕ) → r < k → s.steps ≤ m → s.entered ≡ es → (d : Conf D) → (x : Res (S D) (Unit {0})) → Steady D g (record s { entered = [] }) x → next D g d ≡ opened D (here_in q r).code q.slots h.enable r (caller_of D h (pc + 1) us s.entered ∷ h.callers) x → Runs D g (λ v t. (t.entered ≡ es) × Unit {0}) m d out (returned D q.result s.entered (after x (λ _. body_of q r)))
    by_params q r low le same d (Go _ t) b does =
        before D g (goes_one D g {c = d} does)
        (returned_runs q.result h (pc + 1) us s.entered (body_of q r t) same
        (listed_runs k small ih q.result (here_in q r) low m lt (caller_of D h (pc + 1) us s.entered) h.callers refl q.body 0 t (has_all (here_in q r).code []) (let z : t.steps ≤ m = omega (arith, b, le) in z)))
    by_params q r low le same d (Stop w t) b does = stops 1 (ap (λ o. and_then D o (exec D g 0)) does)

    by_function : (o : Option TypedFunction) (r : ℕ) → r < k → s.steps ≤ m → s.entered ≡ es → (d : Conf D) → next D g d ≡ called_with D run p (code_of run.structs o) r h (pc + 1) vs us s → Runs D g (λ v t. (t.entered ≡ es) × Unit {0}) m d out (found D p o (λ q. invokes D (record { run = run; slots = q.slots; room = r }) (record { enable = h.enable; call = calls D skips run ts k; skip = skips k }) p q vs) s)
    by_function None r low le same d does = stops 1 (ap (λ o. and_then D o (exec D g 0)) does)
    by_function (Some q) r low le same d does =
        by_params q r low le same d (params D p run.structs q.slots 0 vs (record s { entered = [] })) (params_steady D g p run.structs q.slots vs 0 (record s { entered = [] })) does

    by_room : (r : ℕ) → r ≤ h.room → s.steps ≤ m → s.entered ≡ es → (d : Conf D) → next D g d ≡ reached D g p f r h (pc + 1) vs us s → Runs D g (λ v t. (t.entered ≡ es) × Unit {0}) m d out (calls D skips run ts (suc k) p f h.enable r vs s)
    by_room zero low le same d does = stops 1 (ap (λ o. and_then D o (exec D g 0)) does)
    by_room (suc r) low le same d does =
        by_function (slice_get ts f) r (let z : r < k = omega (arith, low, enough) in z) le same d (does ∙ ap (λ o. called_with D run p o r h (pc + 1) vs us s) (get_code run.structs ts f))

  -- the instruction of a call does what the walk's call does
  pub invoke_runs : (k : ℕ) (small : k ≤ 1001) → CallsRun D g k small (calls D skips run ts k) (skips k) → (h : Here D) → h.room < suc k → (m : ℕ) → m < run.rounds → (es : List Named) (pc : ℕ) (us : List (V D)) (p : Spot) (f : ℕ) (vs : List (V D)) (d r : ℕ) → r ≡ h.room - d → Does D g h m es (Any D g h m es) pc (line p (Invoke f (length vs) (d + 1)) ∷ []) (onto vs us) (calls D skips run ts (suc k) p f h.enable r vs) (λ v. v ∷ us)
  invoke_runs k small ih h enough m lt es pc us p f vs d r room = record {
    runs = λ s has le same.
        let e : h.room + 1 - (d + 1) ≡ r = omega (arith, room) in
        by_room k small ih m lt h enough pc us s es p f vs r (let q : r ≤ h.room = omega (arith, room) in q) le same (at D h pc (onto vs us) s)
        (stands D g h pc (onto vs us) s _ has.0 ∙ ap (λ o. invoked D g p f (d + 1) h (pc + 1) o s) (args_popped D vs us) ∙ ap (λ i. reached D g p f i h (pc + 1) vs us s) e);
  }

  pub calls_ok : (fuel : ℕ) (small : fuel ≤ 1001) → CallsRun D g fuel small (calls D skips run ts fuel) (skips fuel)
  calls_ok zero small = record { run = λ h enough m lt es pc us p f vs d r room. absurd (omega (arith, enough)) }
  calls_ok (suc k) small = record {
    run = λ h enough m lt es pc us p f vs d r room.
        let less : k ≤ 1001 = omega (arith, small) in
        invoke_runs k less (calls_ok k less) h enough m lt es pc us p f vs d r room;
  }

  ends_run : {n : ℕ} {d : Conf D} {h : Here D} {pc : ℕ} {r : Res (S D) (V D)} → slice_get h.code pc ≡ None → Runs D g (λ v t. (t.entered ≡ []) × Unit {0}) n d (λ v t. at D h pc (v ∷ []) t) r → (j : ℕ) × (exec D g j d ≡ Finished r)
  ends_run {h = h} {pc = pc} e (went {a = v} {t = t} f l p) = let x = f.by 1 in (x.0, x.2 ∙ ap (λ o. and_then D (follow D g o h pc (v ∷ []) t) (exec D g 0)) e)
  ends_run e (stops j w) = (j, w)

-- the code of a program does what the program's walk does
pub code_gives : (D : Domain) → ((b : D.Hidden) → D.decide b ≡ AllOf) → (skips : ℕ → Site → Held-TStmtNode-If-2 → A D (Unit {0})) (structs : List StructType) (ts : List TypedFunction) (entry : ℕ) (known : Known) (dealt : ℕ) (answers : List ℤ) (budget : ℕ) (o : D.Own) → EndsSo D structs (lowered structs ts) entry known dealt answers budget o (walk D skips structs ts entry known dealt answers budget o)
code_gives D decides skips structs ts entry known dealt answers budget o =
    let run = run_of structs known budget in
    let s = start D dealt answers budget o in
    let h : Here D = (entry_at D entry s).here in
    let less : 1001 ≤ 1001 = omega arith in
    let enough : h.room < 1002 = omega arith in
    let few : budget < run.rounds = omega arith in
    let is_room : 1001 ≡ h.room - 0 = omega arith in
    let x = (invoke_runs D decides skips run ts 1001 less (calls_ok D decides skips run ts 1001 less) h enough budget few [] 0 [] nowhere entry [] 0 1001 is_room).runs s (refl, tt {0}) (let z : budget ≤ budget = omega arith in z) refl in
    let y = ends_run D decides skips run ts refl x in
    record { count = y.0; ends = y.1 }
