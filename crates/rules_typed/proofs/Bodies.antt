-- A function that the rules find passes the test.
use Rattle.std.proofs.Common.{ℕ, zero, suc, ◌≡◌, List, [], ◌∷◌, ◌++◌, length, take, Option, Some, None, Ok, refl, sym, ap, ◌∙◌, subst, Bool, true, false, arith, append_assoc, append-nil}
use Rattle.std.specs.Prelude.{◌&&◌, ◌||◌, not, nat_le, slice_get, if◌then◌else◌, is_some, IfOk}
use Rattle.oc_cells.specs.declared.types.CType.{CType}
use Rattle.oc_cells.specs.declared.types.SlotType.{SlotType}
use Rattle.oc_cells.specs.declared.types.StructType.{StructType}
use Rattle.oc_cells.specs.Types.{same, public_structs}
use Rattle.oc_cells.specs.Layout.{struct_cells}
use Rattle.oc_source.specs.declared.parsed.Stmt.{Stmt}
use Rattle.oc_source.specs.declared.parsed.StructDef.{StructDef}
use Rattle.oc_source.specs.declared.parsed.Param.{Param}
use Rattle.oc_source.specs.declared.parsed.Function.{Function}
use Rattle.oc_typed.specs.declared.typed.TStmt.{TStmt}
use Rattle.oc_typed.specs.declared.typed.TypedFunction.{TypedFunction}
use Rattle.oc_typed.specs.Visible.{after_params, after_node}
use Rattle.oc_typing.specs.Rules.{all, is_type, is_nothing, is_null, is_leaf, same_all}
use Rattle.oc_typing.specs.Typed.{Context, context, is_slot, is_starred, is_result, slot_types, param_types, call, count_up, slots_in_all, is_of_node}
use Rattle.oc_typing.specs.Typed as typed
use Rattle.type_rules.specs.declared.judging.Heading.{Heading}
use Rattle.type_rules.specs.Judging.{next}
use Rattle.type_rules.specs.Lookup.{Lookup}
use Rattle.type_rules.specs.Calls.{types_of}
use Rattle.type_rules.specs.Written.{bodies_of, at_function}
use Rattle.type_rules.specs.StatementRules.{Scope, add, stmt}
use Rattle.type_rules.specs.ProgramRules.{statements, with_params, body, function, functions_from}
use Rattle.type_rules.proofs.Laws.{fine_back, parted}
use Rattle.rules_typed.specs.Agreeing.{Goes, GoodFunction, AgreesApart, SeesAll}
use Rattle.rules_typed.proofs.Bools.{never, both, first, second, last, none_some, some_is}
use Rattle.rules_typed.proofs.Types.{itself}
use Rattle.rules_typed.proofs.Slots.{one_on, length_one}
use Rattle.rules_typed.proofs.Stmts.{DoneRows, rows_none, rows_more, rows_test, sees_more, stmt_done}
use Rattle.rules_typed.proofs.Structs.{take_first}
use Rattle.rules_typed.proofs.Headings.{MadeHeading, MadeHeadings}
use Rattle.rules_typed.proofs.Found.{params_slots, started, MadeFunction, made_function}
use Rattle.rules_typed.proofs.Numbers.{number_itself, suc_is}
use Rattle.rules_typed.proofs.Numbers as number

-- the functions with a body, each with its heading
pub data Built (g : Lookup) (ds : List StructDef) (sizes : List ℕ) (structs : List StructType) : List Heading → List TypedFunction → Type 0 where
  built_none : Built g ds sizes structs [] []
  built_more : {f : Function} {h : Heading} {ss : List Stmt} {t : TypedFunction} {hs : List Heading} {ts : List TypedFunction}
      → MadeHeading sizes structs f h → MadeFunction (record (at_function g ds f) { result = h.result }) f h ss t → Built g ds sizes structs hs ts → Built g ds sizes structs (h ∷ hs) (t ∷ ts)

-- those that are judged after others
abbrev Building : Lookup → List StructDef → List ℕ → List StructType → List Heading → List TypedFunction → List TypedFunction → Type 0
Building g ds sizes structs hs done ts = (us : List TypedFunction) × Built g ds sizes structs hs us × (ts ≡ done ++ us)

-- what is found for functions
pub built : (g : Lookup) (ds : List StructDef) (sizes : List ℕ) (structs : List StructType) (earlier : List Heading) (fs : List Function) (hs : List Heading) (done ts : List TypedFunction)
    → MadeHeadings sizes structs earlier fs hs → functions_from g ds done fs hs ≡ Ok ts → Building g ds sizes structs (bodies_of hs) done ts
unfolding next
built g ds sizes structs earlier [] [] done ts m q = ([], built_none, sym (fine_back done ts q) ∙ sym (append-nil done))
built g ds sizes structs earlier [] (h ∷ hs) done ts m q = absurd m
built g ds sizes structs earlier (f ∷ fs) [] done ts m q = absurd m
built g ds sizes structs earlier (f ∷ fs) (h ∷ hs) done ts m q = on f.body refl q (λ d p. built g ds sizes structs (earlier ++ h ∷ []) fs hs d ts m.2 p)
  where
    on : (o : Option (List Stmt)) → f.body ≡ o → next (function (at_function g ds f) f h o done) (λ ts. functions_from g ds ts fs hs) ≡ Ok ts
        → ((d : List TypedFunction) → functions_from g ds d fs hs ≡ Ok ts → Building g ds sizes structs (bodies_of hs) d ts) → Building g ds sizes structs (bodies_of (h ∷ hs)) done ts
    on None e q r =
        subst (λ l. Building g ds sizes structs l done ts) (sym (ap (λ c. if c then h ∷ bodies_of hs else bodies_of hs) (m.0.body ∙ ap (λ o. is_some o) e))) (r done q)
    on (Some ss) e q r =
        let z = parted (function (at_function g ds f) f h (Some ss) done) _ ts q in
        let y = parted (body (record (at_function g ds f) { result = h.result }) f h ss) _ z.0 z.1 in
        let u = r z.0 z.2 in
        let made = made_function (record (at_function g ds f) { result = h.result }) f h ss y.0 m.0.params.count y.1 in
        subst (λ l. Building g ds sizes structs l done ts) (sym (ap (λ c. if c then h ∷ bodies_of hs else bodies_of hs) (m.0.body ∙ ap (λ o. is_some o) e)))
        (y.0 ∷ u.0, built_more m.0 made u.1, u.2 ∙ sym (ap (λ l. l ++ u.0) (fine_back (done ++ y.0 ∷ []) z.0 y.2)) ∙ one_on done u.0 y.0)

-- Calls.

-- lists of types
types_same : (ss : List SlotType) → types_of ss ≡ slot_types ss
types_same [] = refl
types_same (s ∷ ss) = ap (λ l. s.ty ∷ l) (types_same ss)

all_same : (ts : List CType) → same_all ts ts ≡ true
all_same [] = refl
all_same (t ∷ ts) = both (itself t) (all_same ts)

-- the types of slots are types
types_typed : (sizes : List ℕ) (public : List Bool) (ss : List SlotType) → all (is_slot sizes public) ss ≡ true → all (λ u. is_type sizes public u) (types_of ss) ≡ true
types_typed sizes public [] h = refl
types_typed sizes public (s ∷ ss) h =
    both (first (is_type sizes public s.ty) (not (s.frozen && is_starred s.ty)) (first (is_slot sizes public s) (all (is_slot sizes public) ss) h))
    (types_typed sizes public ss (second (is_slot sizes public s) (all (is_slot sizes public) ss) h))

-- parameters stand first
params_first : (params slots : List SlotType) (n : ℕ) → n ≡ length params → Goes params slots → slot_types (take n slots) ≡ slot_types params
params_first params slots n e g = ap (λ l. slot_types l) (ap (λ m. take m slots) e ∙ ap (λ l. take (length params) l) g.1 ∙ take_first params g.0)

-- a typed function has the types of its heading
pub record HasHeading (sizes : List ℕ) (public : List Bool) (h : Heading) (t : TypedFunction) : Type 0 where
  pub name : t.name ≡ h.name
  pub obliv : t.obliv ≡ h.obliv
  pub count : t.params ≡ length h.params
  pub result : t.result ≡ h.result
  pub types : param_types t ≡ types_of h.params
  pub typed : all (λ u. is_type sizes public u) (types_of h.params) ≡ true
  pub gives : is_result sizes public h.result ≡ true

-- so has each that is found
pub has_heading : (sizes : List ℕ) (structs : List StructType) (r : Lookup) (f : Function) (h : Heading) (ss : List Stmt) (t : TypedFunction) → MadeHeading sizes structs f h → MadeFunction r f h ss t → HasHeading sizes (public_structs structs) h t
has_heading sizes structs r f h ss t m n = record {
  name = ap (λ t. t.name) n.is ∙ sym m.name;
  obliv = ap (λ t. t.obliv) n.is ∙ sym m.obliv;
  count = ap (λ t. t.params) n.is;
  result = ap (λ t. t.result) n.is;
  types = params_first h.params t.slots t.params (ap (λ t. t.params) n.is) n.grows ∙ sym (types_same h.params);
  typed = types_typed sizes (public_structs structs) h.params m.params.slots;
  gives = m.result;
}

-- the typed function of a heading
pub has_function : (g : Lookup) (ds : List StructDef) (sizes : List ℕ) (structs : List StructType) (hs : List Heading) (ts : List TypedFunction) (n : ℕ) (h : Heading) → Built g ds sizes structs hs ts → slice_get hs n ≡ Some h
    → (t : TypedFunction) × (slice_get ts n ≡ Some t) × HasHeading sizes (public_structs structs) h t
has_function g ds sizes structs _ _ n h built_none q = absurd (none_some q)
has_function g ds sizes structs _ _ zero h (built_more {f} {h = k} {ss} {t} m n rest) q =
    (t, refl, subst (λ h. HasHeading sizes (public_structs structs) h t) (some_is q) (has_heading sizes structs (record (at_function g ds f) { result = k.result }) f k ss t m n))
has_function g ds sizes structs _ _ (suc n) h (built_more {hs} {ts} m k rest) q = has_function g ds sizes structs hs ts n h rest q

-- a result may be the type of a node
result_of_node : (g : Context) (u : CType) → is_result g.sizes g.public u ≡ true → is_of_node g u ≡ true
result_of_node g u h = on (is_nothing u) (is_null u) (is_leaf u) (is_type g.sizes g.public u) h
  where
    on : (a b c d : Bool) → (a || (c && d)) ≡ true → (a || b || d) ≡ true
    on true true c d h = refl
    on true false c d h = refl
    on false b true true h = last b true refl
    on false b true false h = never h
    on false b false d h = never h

-- so a function that is found is the typed one
pub good_function : (g : Context) (n : ℕ) (h : Heading) (t : TypedFunction) → slice_get g.functions n ≡ Some t → HasHeading g.sizes g.public h t → GoodFunction g n h
good_function g n h t e k = record {
  params = k.typed;
  result = result_of_node g h.result k.gives;
  call = subst (λ o. call h.result (types_of h.params) o ≡ true) (sym e)
      (both (subst (λ u. same true u h.result ≡ true) (sym k.result) (itself h.result)) (subst (λ l. same_all l (types_of h.params) ≡ true) (sym k.types) (all_same (types_of h.params))));
}

-- Parameters.

-- what goes on from more goes on from less
goes_less : (a b f : List SlotType) → Goes (a ++ b) f → Goes a f
goes_less a b f g = (b ++ g.0, g.1 ∙ append_assoc a b g.0)

module _ (r : Lookup) (g : Context) (around : AgreesApart r g) where
  -- parameters are visible in the body
  params_seen : (ps : List Param) (ss : List SlotType) (z : Scope) (f : List SlotType) (vis : List ℕ) → length ss ≡ length ps → all (is_slot g.sizes g.public) ss ≡ true → Goes (z.slots ++ ss) f → SeesAll g vis z.seen f
      → SeesAll g (after_params vis (length z.slots) (slot_types ss)) (with_params ps ss z).seen f
  params_seen [] [] z f vis q k e h = h
  params_seen [] (s ∷ ss) z f vis q k e h = absurd (number.some_none (length ss) q)
  params_seen (p ∷ ps) [] z f vis q k e h = absurd (number.none_some (length ps) q)
  params_seen (p ∷ ps) (s ∷ ss) z f vis q k e h =
      let on = subst (λ l. Goes l f) (sym (one_on z.slots ss s)) e in
      let ty = first (is_type g.sizes g.public s.ty) (not (s.frozen && is_starred s.ty)) (first (is_slot g.sizes g.public s) (all (is_slot g.sizes g.public) ss) k) in
      let more = sees_more r g around z f vis p.name s.ty s.frozen ty (goes_less (z.slots ++ s ∷ []) ss f on) h in
      subst (λ n. SeesAll g (after_params (length z.slots ∷ vis) n (slot_types ss)) (with_params (p ∷ ps) (s ∷ ss) z).seen f) (length_one z.slots s)
      (params_seen ps ss (add p.name s.ty s.frozen z) f (length z.slots ∷ vis) (suc_is (length ss) (length ps) q) (second (is_slot g.sizes g.public s) (all (is_slot g.sizes g.public) ss) k) on more)

  -- the statements of a body
  statements_done : (ss : List Stmt) (z : Scope) → IfOk (statements r ss z) (λ q. DoneRows r g around false z q.0 q.1)
  statements_done [] z = rows_none r g around false z
  statements_done (x ∷ xs) z = rows_more r g around false z (stmt r false x.spot x.node) (statements r xs) (stmt_done r g around x.node false x.spot z) (λ t. statements_done xs t)

  rows_stmts : (f : List SlotType) (vis : List ℕ) (xs : List TStmt) → rows_test r g around f false vis xs ≡ true → typed.stmts (record g { slots = f }) vis xs ≡ true
  rows_stmts f vis [] h = refl
  rows_stmts f vis (x ∷ xs) h =
      both (first (typed.stmt (record g { slots = f }) false vis x.node) (rows_test r g around f false (after_node vis x.node) xs) h)
      (rows_stmts f (after_node vis x.node) xs (second (typed.stmt (record g { slots = f }) false vis x.node) (rows_test r g around f false (after_node vis x.node) xs) h))

-- what goes on is no shorter
longer : (a f : List SlotType) → Goes a f → nat_le (length a) (length f) ≡ true
longer a f g = subst (λ l. nat_le (length a) (length l) ≡ true) (sym g.1) (on a g.0)
  where
    none : (n : ℕ) → nat_le 0 n ≡ true
    none n = grind arith

    more : (m n : ℕ) → nat_le m n ≡ true → nat_le (suc m) (suc n) ≡ true
    more m n h = grind arith

    on : (a b : List SlotType) → nat_le (length a) (length (a ++ b)) ≡ true
    on [] b = none (length b)
    on (x ∷ a) b = more (length a) (length (a ++ b)) (on a b)

-- a body that was walked from its parameters on
pub function_typed : (r : Lookup) (structs : List StructType) (fs : List TypedFunction) (f : Function) (h : Heading) (ss : List Stmt) (t : TypedFunction) → AgreesApart r (context structs fs t)
    → MadeHeading (struct_cells structs) structs f h → MadeFunction r f h ss t → typed.function structs fs t ≡ true
function_typed r structs fs f h ss t around m n = subst (λ t. AgreesApart r (context structs fs t) → typed.function structs fs t ≡ true) (sym n.is) body_typed around
  where
    start : Scope
    start = record { seen = []; slots = []; outer = 0 }

    slots : List SlotType
    slots = n.rest.1.slots

    made : TypedFunction
    made = record { name = f.name; result = h.result; params = length h.params; slots = n.rest.1.slots; obliv = f.obliv; body = n.rest.0 }

    body_typed : AgreesApart r (context structs fs made) → typed.function structs fs made ≡ true
    body_typed around =
        let g = context structs fs made in
        let done = subst (λ m. IfOk m (λ q. DoneRows r g around false (started f h) q.0 q.1)) n.walked (statements_done r g around ss (started f h)) in
        let from = params_slots f.params h.params start m.params.count in
        let grows = subst (λ t. Goes h.params t.slots) n.is n.grows in
        let types = params_first h.params slots (length h.params) refl grows in
        let counts = subst (λ l. count_up (length h.params) l (length slots) ≡ true) (append-nil (slots_in_all n.rest.0)) (subst (λ l. count_up (length l) (slots_in_all n.rest.0 ++ []) (length slots) ≡ true) from (done.adds.counts [] (length slots) (number_itself (length slots)))) in
        let seen = params_seen r g around f.params h.params start slots [] m.params.count m.params.slots grows (λ x y q. absurd (none_some q)) in
        let test = rows_stmts r g around slots (after_params [] 0 (slot_types h.params)) n.rest.0 (done.test slots (after_params [] 0 (slot_types h.params)) ([], sym (append-nil slots)) seen) in
        both (both (both (both (both
        (done.adds.kept (subst (λ l. all (is_slot (struct_cells structs) (public_structs structs)) l ≡ true) (sym from) m.params.slots))
        m.result) (longer h.params slots grows))
        (subst (λ l. all is_leaf l ≡ true) (sym types) m.params.leaves)) counts)
        (subst (λ l. typed.stmts g (after_params [] 0 l) n.rest.0 ≡ true) (sym types) test)
