-- The typed tree that the rules give for a program passes the test.
use Rattle.std.proofs.Common.{ℕ, suc, ◌+◌, ◌≡◌, List, [], ◌∷◌, ◌++◌, length, Option, Some, None, Ok, refl, sym, ap, ◌∙◌, subst, Bool, true, false, nat_eq, arith}
use Rattle.std.specs.Prelude.{◌&&◌, ◌||◌, not, slice_get, if◌then◌else◌, codes}
use Rattle.oc_cells.specs.declared.types.SlotType.{SlotType}
use Rattle.oc_cells.specs.declared.types.StructType.{StructType}
use Rattle.oc_cells.specs.declared.types.CType.{CType}
use Rattle.oc_cells.specs.Types.{public_structs}
use Rattle.oc_cells.specs.Layout.{struct_cells}
use Rattle.oc_source.specs.declared.spot.Spot.{Spot}
use Rattle.oc_source.specs.declared.parsed.StructDef.{StructDef}
use Rattle.oc_source.specs.declared.parsed.Function.{Function}
use Rattle.oc_typed.specs.declared.typed.TypedFunction.{TypedFunction}
use Rattle.oc_typing.specs.Rules.{all, is_type, is_nothing, is_leaf, same_name, is_new, differ}
use Rattle.oc_typing.specs.Typed.{Context, context, is_result, function_names, is_typed}
use Rattle.oc_typing.specs.Typed as typed
use Rattle.type_rules.specs.declared.judging.Heading.{Heading}
use Rattle.type_rules.specs.declared.judging.Seen.{Seen}
use Rattle.type_rules.specs.Lookup.{Lookup}
use Rattle.type_rules.specs.Written.{has_name, same_heading, may_stand, bodies_of, count_before, structs_from, headings_from}
use Rattle.type_rules.specs.ProgramRules.{functions_from, is_empty, is_entry, entry_from, entry, first_lookup, typed_program}
use Rattle.type_rules.proofs.Laws.{fine_back, not_both, parted}
use Rattle.rules_typed.specs.Agreeing.{AgreesApart}
use Rattle.rules_typed.specs.Laws.{ProgramsAreTyped}
use Rattle.rules_typed.proofs.Bools.{never, both, first, second, none_some, some_is}
use Rattle.rules_typed.proofs.WrittenTypes.{Known, declares, slot_good, written, written_good}
use Rattle.rules_typed.proofs.Structs.{Structured, structured, new_before, all_split, none_left}
use Rattle.rules_typed.proofs.Headings.{MadeHeadings, made_headings}
use Rattle.rules_typed.proofs.Found.{fields_good, called_named}
use Rattle.rules_typed.proofs.Bodies.{Built, built_none, built_more, built, HasHeading, has_function, good_function, function_typed}
use Rattle.rules_typed.proofs.Numbers.{counted_later, counted_from_none}

-- Each function.

-- what is known at a function: the structs above it, the functions with a body, its result
abbrev lookup_at : Lookup → List Heading → ℕ → CType → List Seen → Lookup
lookup_at g hs n u ss = record g { above = n; bodies = hs; result = u; seen = ss }

-- at a function the sizes of all structs are known
known_all : (ds : List StructDef) (g : Lookup) (hs : List Heading) (n : ℕ) (u : CType) (ss : List Seen) → Structured ds g → Known (lookup_at g hs n u ss) (struct_cells g.structs)
known_all ds g hs n u ss w = record { named = w.among.named; sized = w.among.sized; above = λ n b e. refl }

-- a result with a value is a type
result_type : (sizes : List ℕ) (public : List Bool) (u : CType) → is_result sizes public u ≡ true → not (is_nothing u) ≡ true → is_type sizes public u ≡ true
result_type sizes public u h n = on (is_nothing u) (is_leaf u) (is_type sizes public u) h n
  where
    on : (a b c : Bool) → (a || (b && c)) ≡ true → not a ≡ true → c ≡ true
    on true b c h n = never n
    on false b c h n = second b c h

-- what the rules look up in a body is what the test has
agrees : (ds : List StructDef) (g : Lookup) (hs : List Heading) (fs : List TypedFunction) (n : ℕ) (t : TypedFunction) → Structured ds g
    → Built (record g { bodies = hs }) ds (struct_cells g.structs) g.structs hs fs → is_result (struct_cells g.structs) (public_structs g.structs) t.result ≡ true
    → AgreesApart (lookup_at g hs n t.result g.seen) (context g.structs fs t)
agrees ds g hs fs n t w b k = record {
  fields = λ ss l u x. fields_good (lookup_at g hs n t.result ss) (record (context g.structs fs t) { slots = l }) [] [] refl w.typed u x;
  types = λ ss v u q. written_good (lookup_at g hs n t.result ss) g.structs (struct_cells g.structs) v.base.frozen v.stars u w.among.public (known_all ds g hs n t.result ss w) (written (lookup_at g hs n t.result ss) v u q);
  declared = λ d u q. slot_good (lookup_at g hs n t.result g.seen) g.structs (struct_cells g.structs) d u w.among.public (known_all ds g hs n t.result g.seen w) (declares (lookup_at g hs n t.result g.seen) d u q);
  functions = λ ss l x m h q.
      let z = has_function (record g { bodies = hs }) ds (struct_cells g.structs) g.structs hs fs m h b (called_named (lookup_at g hs n t.result ss) x m h q) in
      good_function (record (context g.structs fs t) { slots = l }) m h z.0 z.1 z.2;
  same_result = refl;
  back = result_type (struct_cells g.structs) (public_structs g.structs) t.result k;
}

-- all functions pass the test
all_functions : (ds : List StructDef) (g : Lookup) (hs ks : List Heading) (fs us : List TypedFunction) → Structured ds g
    → Built (record g { bodies = hs }) ds (struct_cells g.structs) g.structs hs fs → Built (record g { bodies = hs }) ds (struct_cells g.structs) g.structs ks us → all (typed.function g.structs fs) us ≡ true
all_functions ds g hs _ fs _ w b built_none = refl
all_functions ds g hs _ fs _ w b (built_more {f} {h} {ss} {t} {hs = ks} {ts = us} m n rest) =
    both (mine (ap (λ t. t.result) n.is)) (all_functions ds g hs ks fs us w b rest)
  where
    at : CType → Lookup
    at u = lookup_at g hs (count_before f.spot ds) u g.seen

    mine : t.result ≡ h.result → typed.function g.structs fs t ≡ true
    mine e =
        function_typed (at h.result) g.structs fs f h ss t
        (subst (λ u. AgreesApart (at u) (context g.structs fs t)) e (agrees ds g hs fs (count_before f.spot ds) t w b (subst (λ u. is_result (struct_cells g.structs) (public_structs g.structs) u ≡ true) (sym e) m.result))) m n

-- Their names.

-- the names of headings
abbrev heading_names : List Heading → List (List ℕ)
heading_names [] = []
heading_names (h ∷ hs) = h.name ∷ heading_names hs

-- functions have the names of their headings
built_names : (g : Lookup) (ds : List StructDef) (sizes : List ℕ) (structs : List StructType) (hs : List Heading) (ts : List TypedFunction) → Built g ds sizes structs hs ts → function_names ts ≡ heading_names hs
built_names g ds sizes structs _ _ built_none = refl
built_names g ds sizes structs _ _ (built_more {f} {h} {ss} {t} {hs} {ts} m n rest) =
    ap (λ x. x ∷ function_names ts) (ap (λ t. t.name) n.is ∙ sym m.name) ∙ ap (λ l. h.name ∷ l) (built_names g ds sizes structs hs ts rest)

-- a heading with a body has another name than the earlier ones with one
name_is_new : (ks : List Heading) (h : Heading) → h.has_body ≡ true → may_stand ks h ≡ true → has_name (heading_names (bodies_of ks)) h.name ≡ false
name_is_new [] h b q = refl
name_is_new (k ∷ ks) h b q = on k.has_body refl (name_is_new ks h b (second (not (same_name k.name h.name) || (same_heading k h && not (k.has_body && h.has_body))) (may_stand ks h) q))
  where
    here : (a s c d : Bool) → c ≡ true → d ≡ true → (not a || (s && not (c && d))) ≡ true → a ≡ false
    here true true true true e i q = never q
    here true false true true e i q = never q
    here true s true false e i q = never i
    here true s false d e i q = never e
    here false s c d e i q = refl

    on : (c : Bool) → k.has_body ≡ c → has_name (heading_names (bodies_of ks)) h.name ≡ false → has_name (heading_names (if c then k ∷ bodies_of ks else bodies_of ks)) h.name ≡ false
    on true e rest =
        subst (λ a. (a || has_name (heading_names (bodies_of ks)) h.name) ≡ false)
        (sym (here (same_name k.name h.name) (same_heading k h) k.has_body h.has_body e b (first (not (same_name k.name h.name) || (same_heading k h && not (k.has_body && h.has_body))) (may_stand ks h) q))) rest
    on false e rest = rest

-- headings with one more
bodies_one : (ks : List Heading) (h : Heading) → h.has_body ≡ true → heading_names (bodies_of (ks ++ h ∷ [])) ≡ heading_names (bodies_of ks) ++ h.name ∷ []
bodies_one [] h b = ap (λ c. heading_names (if c then h ∷ [] else [])) b
bodies_one (k ∷ ks) h b = on k.has_body (bodies_one ks h b)
  where
    on : (c : Bool) → heading_names (bodies_of (ks ++ h ∷ [])) ≡ heading_names (bodies_of ks) ++ h.name ∷ [] → heading_names (if c then k ∷ bodies_of (ks ++ h ∷ []) else bodies_of (ks ++ h ∷ [])) ≡ heading_names (if c then k ∷ bodies_of ks else bodies_of ks) ++ h.name ∷ []
    on true e = ap (λ l. k.name ∷ l) e
    on false e = e

bodies_none : (ks : List Heading) (h : Heading) → h.has_body ≡ false → bodies_of (ks ++ h ∷ []) ≡ bodies_of ks
bodies_none [] h b = ap (λ c. if c then h ∷ [] else []) b
bodies_none (k ∷ ks) h b = on k.has_body (bodies_none ks h b)
  where
    on : (c : Bool) → bodies_of (ks ++ h ∷ []) ≡ bodies_of ks → (if c then k ∷ bodies_of (ks ++ h ∷ []) else bodies_of (ks ++ h ∷ [])) ≡ (if c then k ∷ bodies_of ks else bodies_of ks)
    on true e = ap (λ l. k ∷ l) e
    on false e = e

-- names of functions differ
names_differ : (sizes : List ℕ) (structs : List StructType) (earlier : List Heading) (fs : List Function) (hs : List Heading) → MadeHeadings sizes structs earlier fs hs
    → (all (λ y. is_new y (heading_names (bodies_of hs))) (heading_names (bodies_of earlier)) ≡ true) × (differ (heading_names (bodies_of hs)) ≡ true)
names_differ sizes structs earlier [] [] m = (none_left (heading_names (bodies_of earlier)), refl)
names_differ sizes structs earlier [] (h ∷ hs) m = absurd m
names_differ sizes structs earlier (f ∷ fs) [] m = absurd m
names_differ sizes structs earlier (f ∷ fs) (h ∷ hs) m = on h.has_body refl (names_differ sizes structs (earlier ++ h ∷ []) fs hs m.2)
  where
    on : (c : Bool) → h.has_body ≡ c → (all (λ y. is_new y (heading_names (bodies_of hs))) (heading_names (bodies_of (earlier ++ h ∷ []))) ≡ true) × (differ (heading_names (bodies_of hs)) ≡ true)
        → (all (λ y. is_new y (heading_names (if c then h ∷ bodies_of hs else bodies_of hs))) (heading_names (bodies_of earlier)) ≡ true) × (differ (heading_names (if c then h ∷ bodies_of hs else bodies_of hs)) ≡ true)
    on true e r =
        let z = all_split (λ y. is_new y (heading_names (bodies_of hs))) (heading_names (bodies_of earlier)) h.name (subst (λ l. all (λ y. is_new y (heading_names (bodies_of hs))) l ≡ true) (bodies_one earlier h e) r.0) in
        (new_before (heading_names (bodies_of earlier)) h.name (heading_names (bodies_of hs)) (name_is_new earlier h e m.1) z.0, both z.1 r.1)
    on false e r = (subst (λ l. all (λ y. is_new y (heading_names (bodies_of hs))) (heading_names l) ≡ true) (bodies_none earlier h e) r.0, r.1)

-- The entry.

-- the heading of a number, which is that of an entry
abbrev Enters : List Heading → ℕ → ℕ → Type 0
Enters hs n m = (k : ℕ) × (h : Heading) × (m ≡ n + k) × (slice_get hs k ≡ Some h) × (is_entry h ≡ true)

-- the entry stands at its number
entry_named : (n : ℕ) (hs : List Heading) (m : ℕ) → entry_from n hs ≡ Some m → Enters hs n m
entry_named n [] m q = absurd (none_some q)
entry_named n (h ∷ hs) m q = on (is_entry h) refl q (λ p. entry_named (n + 1) hs m p)
  where
    here : (n m : ℕ) → n ≡ m → m ≡ n + 0
    here n m e = omega arith

    later : (n m i : ℕ) → m ≡ n + 1 + i → m ≡ n + suc i
    later n m i e = omega arith

    on : (b : Bool) → is_entry h ≡ b → (if b then Some n else entry_from (n + 1) hs) ≡ Some m → (entry_from (n + 1) hs ≡ Some m → Enters hs (n + 1) m) → Enters (h ∷ hs) n m
    on true e q f = (0, h, here n m (some_is q), refl, e)
    on false e q f = let z = f q in (suc z.0, z.1, counted_later n m z.0 z.2, z.3, z.4)

-- and is one for the test
entry_typed : (sizes : List ℕ) (public : List Bool) (h : Heading) (t : TypedFunction) → HasHeading sizes public h t → is_entry h ≡ true → typed.is_entry (Some t) ≡ true
entry_typed sizes public h t k e =
    let named = first (same_name h.name (codes "oc_main")) (is_nothing h.result) (first (same_name h.name (codes "oc_main") && is_nothing h.result) (is_empty h.params) (first (same_name h.name (codes "oc_main") && is_nothing h.result && is_empty h.params) (not h.obliv) e)) in
    let gives = second (same_name h.name (codes "oc_main")) (is_nothing h.result) (first (same_name h.name (codes "oc_main") && is_nothing h.result) (is_empty h.params) (first (same_name h.name (codes "oc_main") && is_nothing h.result && is_empty h.params) (not h.obliv) e)) in
    let empty = second (same_name h.name (codes "oc_main") && is_nothing h.result) (is_empty h.params) (first (same_name h.name (codes "oc_main") && is_nothing h.result && is_empty h.params) (not h.obliv) e) in
    let plain = second (same_name h.name (codes "oc_main") && is_nothing h.result && is_empty h.params) (not h.obliv) e in
    both (both (both
    (subst (λ x. same_name x (codes "oc_main") ≡ true) (sym k.name) named)
    (subst (λ u. is_nothing u ≡ true) (sym k.result) gives))
    (subst (λ n. nat_eq n 0 ≡ true) (sym k.count) (none h.params empty)))
    (subst (λ o. not o ≡ true) (sym k.obliv) plain)
  where
    none : (ss : List SlotType) → is_empty ss ≡ true → nat_eq (length ss) 0 ≡ true
    none [] q = refl
    none (s ∷ ss) q = never q

-- it is there
entry_found : (p : Spot) (o : Option ℕ) (n : ℕ) → entry p o ≡ Ok n → o ≡ Some n
entry_found p None n q = absurd (not_both n _ q)
entry_found p (Some m) n q = ap (λ n. Some n) (fine_back m n q)

-- Programs.

-- so the tree of a program passes the test
pub programs_typed : ProgramsAreTyped
unfolding typed_program
programs_typed p t q =
    let g = parted (structs_from (first_lookup p.structs) p.structs) _ t q in
    let h = parted (headings_from g.0 p.structs [] p.functions) _ t g.2 in
    let f = parted (functions_from (record g.0 { bodies = bodies_of h.0 }) p.structs [] p.functions h.0) _ t h.2 in
    let e = parted (entry p.end (entry_from 0 (bodies_of h.0))) _ t f.2 in
    let w = structured p.structs g.0 g.1 in
    let hs = made_headings g.0 p.structs g.0.structs (struct_cells g.0.structs) [] p.functions h.0 w.among.public (λ n. record { named = w.among.named; sized = w.among.sized; above = λ n b e. refl }) h.1 in
    let headings = subst (λ l. MadeHeadings (struct_cells g.0.structs) g.0.structs [] p.functions l) (sym hs.2) hs.1 in
    let us = built (record g.0 { bodies = bodies_of h.0 }) p.structs (struct_cells g.0.structs) g.0.structs [] p.functions h.0 [] f.0 headings f.1 in
    let all_built = subst (λ l. Built (record g.0 { bodies = bodies_of h.0 }) p.structs (struct_cells g.0.structs) g.0.structs (bodies_of h.0) l) (sym us.2) us.1 in
    let n = entry_named 0 (bodies_of h.0) e.0 (entry_found p.end (entry_from 0 (bodies_of h.0)) e.0 e.1) in
    let enters = has_function (record g.0 { bodies = bodies_of h.0 }) p.structs (struct_cells g.0.structs) g.0.structs (bodies_of h.0) f.0 n.0 n.1 all_built n.3 in
    subst (λ t. is_typed t.structs t.functions t.entry ≡ true) (fine_back (record { structs = g.0.structs; functions = f.0; entry = e.0 }) t e.2)
    (both (both (both (both w.typed w.differ)
    (all_functions p.structs g.0 (bodies_of h.0) (bodies_of h.0) f.0 f.0 w all_built all_built))
    (subst (λ l. differ l ≡ true) (sym (built_names (record g.0 { bodies = bodies_of h.0 }) p.structs (struct_cells g.0.structs) g.0.structs (bodies_of h.0) f.0 all_built)) (names_differ (struct_cells g.0.structs) g.0.structs [] p.functions h.0 headings).1))
    (subst (λ m. typed.is_entry (slice_get f.0 m) ≡ true) (counted_from_none n.0 e.0 n.2) (subst (λ o. typed.is_entry o ≡ true) (sym enters.1) (entry_typed (struct_cells g.0.structs) (public_structs g.0.structs) n.1 enters.0 enters.2 n.4))))
