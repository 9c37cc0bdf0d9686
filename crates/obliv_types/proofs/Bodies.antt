-- Functions with a body take their headings from those with a body, in order.
use Rattle.std.proofs.Common.{ℕ, ◌≡◌, List, [], ◌∷◌, ◌++◌, length, Bool, true, false, Option, Some, None, Ok, Err, refl, sym, ap, ◌∙◌, arith, length-append, append_assoc, append-nil}
use Rattle.std.specs.Prelude.{◌&&◌, is_none, is_some, slice_get, if◌then◌else◌}
use Rattle.oc_source.specs.declared.parsed.Stmt.{Stmt}
use Rattle.oc_source.specs.declared.parsed.StructDef.{StructDef}
use Rattle.oc_source.specs.declared.parsed.Function.{Function}
use Rattle.oc_typed.specs.declared.typed.TypedFunction.{TypedFunction}
use Rattle.type_rules.specs.declared.judging.Heading.{Heading}
use Rattle.type_rules.specs.declared.judging.TypeRule.TheVariants.{T2}
use Rattle.type_rules.specs.Judging.{Judged, next, needs}
use Rattle.type_rules.specs.Lookup.{Lookup}
use Rattle.type_rules.specs.Calls.{own_call}
use Rattle.type_rules.specs.Written.{heading, may_stand, at_function, headings_from, bodies_of}
use Rattle.type_rules.specs.ProgramRules.{body, function, functions_from}
use Rattle.typed_headings.specs.InTurn.{in_turn}
use Rattle.typed_headings.proofs.InTurn.{parted}
use Rattle.typed_headings.proofs.Judged.{heading_named}
use Rattle.obliv_types.specs.Functions.{in_body, body_added, maybe_added, function_added}

-- each function has a heading, which has a body exactly where the function has
abbrev pub Headed : List Function → List Heading → Type 0
Headed [] [] = Unit {0}
Headed [] (h ∷ hs) = ⊥
Headed (f ∷ fs) [] = ⊥
Headed (f ∷ fs) (h ∷ hs) = (h.has_body ≡ is_some f.body) × Headed fs hs

fine_back : {A : Type 0} (a b : A) → ◌≡◌ {A = Judged A} (Ok a) (Ok b) → a ≡ b
fine_back a b e = cc

-- those that were judged are
pub headed : (g : Lookup) (ds : List StructDef) (earlier : List Heading) (fs : List Function) (hs : List Heading) → headings_from g ds earlier fs ≡ Ok hs → (more : List Heading) × (hs ≡ earlier ++ more) × Headed fs more
headed g ds earlier [] hs e = ([], sym (fine_back _ _ e) ∙ sym (append-nil earlier), tt)
headed g ds earlier (f ∷ fs) hs e =
    let a = parted (heading (at_function g ds f) f) _ hs e in
    let b = parted (needs f.spot T2 (is_none (own_call f.name) && may_stand earlier a.0)) _ hs a.2 in
    let m = headed g ds (earlier ++ a.0 ∷ []) fs hs b.2 in
    (a.0 ∷ m.0, m.1 ∙ append_assoc earlier (a.0 ∷ []) m.0, ((heading_named (at_function g ds f) f a.0 a.1).1, m.2))

pub next_same : {A B : Type 0} (m : Judged A) (k l : A → Judged B) → ((a : A) → k a ≡ l a) → next m k ≡ next m l
unfolding next
next_same (Ok a) k l h = h a
next_same (Err f) k l h = refl

pub next_next : {A B C : Type 0} (m : Judged A) (k : A → Judged B) (l : B → Judged C) → next (next m k) l ≡ next m (λ a. next (k a) l)
unfolding next
next_next (Ok a) k l = refl
next_next (Err f) k l = refl

pub next_fine : {A B : Type 0} (a : A) (k : A → Judged B) → next (Ok a) k ≡ k a
unfolding next
next_fine a k = refl

-- what stands between two parts of a list
got_between : {A : Type 0} (xs : List A) (y : A) (ys : List A) → slice_get (xs ++ y ∷ ys) (length xs) ≡ Some y
got_between [] y ys = refl
got_between (x ∷ xs) y ys = got_between xs y ys

got_next : {A : Type 0} (xs : List A) (y : A) (ys : List A) (n : ℕ) → n ≡ length xs → slice_get (xs ++ y ∷ ys) n ≡ Some y
got_next xs y ys n e = ap (λ n. slice_get (xs ++ y ∷ ys) n) e ∙ got_between xs y ys

one_longer : {A B : Type 0} (xs : List A) (x : A) (ys : List B) (y : B) → length xs ≡ length ys → length (xs ++ x ∷ []) ≡ length (ys ++ y ∷ [])
one_longer xs x ys y e = omega (arith, e, length-append xs (x ∷ []), length-append ys (y ∷ []))

module _ (g : Lookup) (ds : List StructDef) (all : List Heading) where
  -- what further functions give is the same in both ways
  abbrev Same : List Function → List Heading → Type 0
  Same fs hs =
      (done : List TypedFunction) (before : List Heading) → length done ≡ length before → all ≡ before ++ bodies_of hs
      → functions_from g ds done fs hs ≡ in_turn (function_added g ds all) done fs

  module _ (f : Function) (fs : List Function) (h : Heading) (hs : List Heading) (rest : Same fs hs) (done : List TypedFunction) (before : List Heading) (e : length done ≡ length before) (q : all ≡ before ++ bodies_of (h ∷ hs)) where
    abbrev now_from : List TypedFunction → Judged (List TypedFunction)
    now_from ts = functions_from g ds ts fs hs

    abbrev now_turn : List TypedFunction → Judged (List TypedFunction)
    now_turn ts = in_turn (function_added g ds all) ts fs

    bodies_so : (b : Bool) → h.has_body ≡ b → all ≡ before ++ (if b then h ∷ bodies_of hs else bodies_of hs)
    bodies_so b k = q ∙ ap (λ b. before ++ (if b then h ∷ bodies_of hs else bodies_of hs)) k

    same_here : (o : Option (List Stmt)) → h.has_body ≡ is_some o → next (function (at_function g ds f) f h o done) now_from ≡ next (maybe_added g ds all done f o) now_turn
    same_here None k = next_fine done now_from ∙ rest done before e (bodies_so false k) ∙ sym (next_fine done now_turn)
    same_here (Some ss) k =
        let m = body (in_body g ds f h) f h ss in
        let w = bodies_so true k in
        next_next m (λ t. Ok (done ++ t ∷ [])) now_from
        ∙ next_same m (λ t. next (Ok (done ++ t ∷ [])) now_from) (λ t. next (Ok (done ++ t ∷ [])) now_turn) (λ t.
        next_fine (done ++ t ∷ []) now_from
        ∙ rest (done ++ t ∷ []) (before ++ h ∷ []) (one_longer done t before h e) (w ∙ sym (append_assoc before (h ∷ []) (bodies_of hs)))
        ∙ sym (next_fine (done ++ t ∷ []) now_turn))
        ∙ sym (next_next m (λ t. Ok (done ++ t ∷ [])) now_turn)
        ∙ ap (λ o. next (body_added g ds done f o ss) now_turn) (sym (ap (λ hs. slice_get hs (length done)) w ∙ got_next before h (bodies_of hs) (length done) e))

  same_functions : (fs : List Function) (hs : List Heading) → Headed fs hs → Same fs hs
  same_functions [] hs k done before e q = refl
  same_functions (f ∷ fs) [] k done before e q = absurd k
  same_functions (f ∷ fs) (h ∷ hs) k done before e q = same_here f fs h hs (same_functions fs hs k.1) done before e q f.body k.0

-- so the functions are made one after another
pub functions_so : (g : Lookup) (ds : List StructDef) (fs : List Function) (hs : List Heading) → Headed fs hs → functions_from g ds [] fs hs ≡ in_turn (function_added g ds (bodies_of hs)) [] fs
functions_so g ds fs hs k = same_functions g ds (bodies_of hs) fs hs k [] [] refl refl
