-- Struct definitions and functions, as they stand in a source.
use Rattle.std.proofs.Common.{◌≡◌, ℕ, List, [], ◌∷◌, ◌++◌, false, Option, Some, None, refl, sym, ◌∙◌, ap, append-nil, append_assoc, subst}
use Rattle.oc_source.specs.declared.spot.Spot.{Spot}
use Rattle.oc_source.specs.declared.parsed.BaseName.{BaseName}
use Rattle.oc_source.specs.declared.parsed.TypeName.{TypeName}
use Rattle.oc_source.specs.declared.parsed.FieldDef.{FieldDef}
use Rattle.oc_source.specs.declared.parsed.Function.{Function}
use Rattle.oc_lexer.specs.declared.token.Token.{Token}
use Rattle.oc_lexer.specs.declared.token.TokenKind.TheVariants.{Name, Keyword, Sign}
use Rattle.oc_lexer.specs.declared.token.Keyword.TheVariants as w
use Rattle.oc_lexer.specs.declared.token.Sign.TheVariants as s
use Rattle.oc_grammar.specs.declared.taking.Named.{Named}
use Rattle.oc_grammar.specs.declared.tables.Opening.TheVariants as o
use Rattle.oc_grammar.specs.Tokens.{Is, Starts, NotNext, spot_at}
use Rattle.oc_grammar.specs.Tables.{opening}
use Rattle.oc_grammar.specs.Trees.{struct_base, type_name}
use Rattle.oc_grammar.specs.Parsing.{SameNext, Found, Refused, Leaves, Any, End, ended, Then, then, By, first}
use Rattle.oc_grammar.specs.Calls.{One, one, ANamed, a_named}
use Rattle.oc_grammar.specs.WrittenTypes.{Base, a_struct, Stars, no_star, star, TypeNamed, type_named}
use Rattle.oc_grammar.specs.Headings.{Fields, AllFields, last_fields, more_fields, struct, struct_def, void, typed, AfterResult, after_result, a_function}
use Rattle.oc_grammar.proofs.Parsing.{start, also, read, fails, ends, Goes, Closes, close_end, close_then, then_end, sure, taken}
use Rattle.oc_grammar.proofs.Calls.{not_next, close_one}
use Rattle.oc_declarators.specs.Continuations.{NoWord, BeforeNoWord, NoStar, named_struct, base_after}
use Rattle.oc_declarators.proofs.Marks.{base_in, base_out, some_base}
use Rattle.oc_expressions.specs.Continuations.{BeginsType}
use Rattle.oc_parser.specs.declared.parts.Part.{Part}
use Rattle.oc_parser.specs.declared.parts.Part.TheVariants as part
use Rattle.oc_parser.specs.Continuations.{FieldRun, run_end, run_more, closed_fields, struct_after, function_after, typed_after, APart, a_struct_part, a_function_part, NamedAfter, by_brace, by_result, named_after}
use Rattle.oc_parser.proofs.Firsts.{base_first, not_type_first}
use Rattle.oc_parser.proofs.Fields.{some_closed}
use Rattle.oc_parser.proofs.AfterResults.{some_function}

-- ---- after the result

module _ (r : Option TypeName) {ts : List Token} where
  pub function_fails : {rest : List Token} → Refused (AfterResult r) Any ts rest → Refused (function_after r) Any ts rest
  function_fails f = fails (start (function_after r) Any ts) f (sure (λ f. close_end))

  pub function_part_read : {f : Function} {rest : List Token} → Found (AfterResult r) Any ts f rest → Found (function_after r) Any ts (part.Function f) rest
  function_part_read f = ends (read (start (function_after r) Any ts) f (sure (λ f. close_end)))

pub some_after : (r : Option TypeName) → Closes (function_after r)
some_after r = let (f, x, d) = some_function r in close_then f x d close_end

-- ---- after what the type of the result begins with

star_goes : (b : BaseName) → Goes NoStar Any (λ n. function_after (Some (type_name b n)))
star_goes b = record { follow = λ n v ys zs q s. go n v ys zs q; closes = λ n. some_after (Some (type_name b n)) }
  where
    first_star : {r : Option TypeName} {f : Function} {x : List Token} (zs : List Token) → AfterResult r f x → NotNext (Sign s.Star) (x ++ zs)
    first_star zs (after_result i j d k e g) = λ l. let e = i.kind in let g = l.kind in cc

    go : (n : ℕ) (v : Part) (ys zs : List Token) → function_after (Some (type_name b n)) v ys → NotNext (Sign s.Star) (ys ++ zs)
    go n v _ zs (then {xs = x} {zs = y} d q) = rw (append_assoc x y zs) (first_star (y ++ zs) d)

some_typed : (b : BaseName) → Closes (typed_after b)
some_typed b = close_then 0 [] no_star (some_after (Some (type_name b 0)))

module _ (b : BaseName) {ts : List Token} where
  pub stars_fail : {r : List Token} → Refused Stars NoStar ts r → Refused (typed_after b) Any ts r
  stars_fail f = fails (start (typed_after b) Any ts) f (star_goes b)

  pub stars_read : {n : ℕ} {r : List Token} → Found Stars NoStar ts n r → Leaves (typed_after b) Any ts (function_after (Some (type_name b n))) r
  stars_read f = read (start (typed_after b) Any ts) f (star_goes b)

-- ---- after `struct`, the name and `{`

some_end : (n : Named) (fs : List FieldDef) → Closes (Then (One (Sign s.Semicolon)) (λ _. End (part.Struct (struct_def n.spot n.name fs))))
some_end n fs = close_one (Sign s.Semicolon) close_end

some_struct : (n : Named) → Closes (struct_after n)
some_struct n = let (fs, x, d) = some_closed in close_then fs x d (some_end n fs)

module _ (n : Named) {ts : List Token} where
  pub closed_fails : {r : List Token} → Refused closed_fields Any ts r → Refused (struct_after n) Any ts r
  closed_fails f = fails (start (struct_after n) Any ts) f (sure (some_end n))

  module _ {fs : List FieldDef} {r1 : List Token} (f : Found closed_fields Any ts fs r1) where
    end_left : Leaves (struct_after n) Any ts (Then (One (Sign s.Semicolon)) (λ _. End (part.Struct (struct_def n.spot n.name fs)))) r1
    end_left = read (start (struct_after n) Any ts) f (sure (some_end n))

    pub end_fails : {r : List Token} → Refused (One (Sign s.Semicolon)) Any r1 r → Refused (struct_after n) Any ts r
    end_fails g = fails end_left g (sure (λ u. close_end))

    pub struct_read : {r : List Token} → Found (One (Sign s.Semicolon)) Any r1 tt r → Found (struct_after n) Any ts (part.Struct (struct_def n.spot n.name fs)) r
    struct_read g = ends (read end_left g (sure (λ u. close_end)))

-- ---- after `struct`

module _ (spot : Spot) where
  some_named : (n : Named) → Closes (NamedAfter spot n)
  some_named n = let (v, x, d) = some_typed (struct_base spot false n.name) in (v, x, by_result d)

  -- the rest of a function begins with no brace
  result_brace : {b : BaseName} {v : Part} {ys : List Token} → typed_after b v ys → (t : Token) (us zs : List Token) → t ∷ us ≡ ys ++ zs → Is (Sign s.LeftBrace) t → ⊥
  result_brace (then (star {t = a} i d) q) t us zs e k = let h : t ≡ a = cc in let g = ap (λ (t : Token). t.kind) h in let f = i.kind in let f' = k.kind in cc
  result_brace (then no_star (then (after_result {t = a} i j d l m n) q)) t us zs e k = let h : t ≡ a = cc in let g = ap (λ (t : Token). t.kind) h in let f = i.kind in let f' = k.kind in cc

  module _ {ts : List Token} where
    pub name_fails : {r : List Token} → Refused ANamed Any ts r → Refused (named_after spot) Any ts r
    name_fails f = fails (start (named_after spot) Any ts) f (sure some_named)

    module _ {n : Named} {r1 : List Token} (f : Found ANamed Any ts n r1) where
      either_left : Leaves (named_after spot) Any ts (NamedAfter spot n) r1
      either_left = read (start (named_after spot) Any ts) f (sure some_named)

      pub brace_left : {r2 : List Token} → Starts (Sign s.LeftBrace) r1 r2 → Leaves (named_after spot) Any ts (struct_after n) r2
      brace_left i = taken either_left i.whole (λ v ys q. by_brace i.is q) (λ v us ys zs q e. out v us ys zs q e)
        where
          out : (v : Part) (us ys zs : List Token) → NamedAfter spot n v ys → i.token ∷ us ≡ ys ++ zs → (xs : List Token) × struct_after n v xs × (us ≡ xs ++ zs)
          out v us _ zs (by_brace {ys = ys} j q) e = (ys, q, cc)
          out v us ys zs (by_result q) e = absurd (result_brace q i.token us zs e i.is)

      pub result_left : NotNext (Sign s.LeftBrace) r1 → Leaves (named_after spot) Any ts (typed_after (struct_base spot false n.name)) r1
      result_left out = also either_left (λ v ys q. by_result q) (λ v us ys zs a q s e. go v us ys zs a q e)
        where
          go : (v : Part) (us ys zs : List Token) → SameNext r1 us → NamedAfter spot n v ys → us ≡ ys ++ zs → typed_after (struct_base spot false n.name) v ys
          go v us _ zs a (by_brace {t} {ys = ys} i q) e = absurd (not_next (Sign s.LeftBrace) t r1 (ys ++ zs) out (subst (λ us. SameNext r1 us) e a) i)
          go v us _ zs a (by_result q) e = q

-- ---- fields one after the other

all_run : {fs : List FieldDef} {x : List Token} (l : List FieldDef) {b : Token} → AllFields fs x → Is (Sign s.RightBrace) b → Then Fields (λ gs. FieldRun (l ++ gs)) (l ++ fs) (x ++ b ∷ [])
all_run l (last_fields d) i = then d (run_end i)
all_run l {b} (more_fields {fs} {gs} {x} {y} d q) i = rw (append_assoc x y (b ∷ []), ← append_assoc l fs gs) (then d (go _ _ (all_run (l ++ fs) q i)))
  where
    go : (v : List FieldDef) (z : List Token) → Then Fields (λ hs. FieldRun ((l ++ fs) ++ hs)) v z → FieldRun (l ++ fs) v z
    go v _ (then d q) = run_more d q

run_all : {l v : List FieldDef} {x : List Token} → FieldRun l v x → (es fs : List FieldDef) (y : List Token) → l ≡ es ++ fs → Fields fs y → (gs : List FieldDef) × (a : List Token) × (b : Token) × (v ≡ es ++ gs) × AllFields gs a × Is (Sign s.RightBrace) b × (y ++ x ≡ a ++ b ∷ [])
run_all (run_end {t = t} i) es fs y e d = (fs, y, t, e, last_fields d, i, refl)
run_all (run_more {l} {fs = gs} {x = x} {y = y'} d' q) es fs y e d =
    let (hs, a, b, h, all, i, p) = run_all q l gs x refl d' in
    (fs ++ hs, y ++ a, b, h ∙ (ap (λ l. l ++ hs) e ∙ append_assoc es fs hs), more_fields d all, i, ap (λ z. y ++ z) p ∙ sym (append_assoc y a (b ∷ [])))

closed_all : {v : List FieldDef} {x : List Token} → closed_fields v x → (a : List Token) × (b : Token) × AllFields v a × Is (Sign s.RightBrace) b × (x ≡ a ++ b ∷ [])
closed_all (then {w = fs} {xs = y} d q) = let (gs, a, b, e, all, i, p) = run_all q [] fs y refl d in (a, b, subst (λ v. AllFields v a) (sym e) all, i, p)

-- ---- a part by its first token

-- a written type whose first token is `struct`
struct_type : {b : BaseName} {x : List Token} → Base b x → (t : Token) (us zs : List Token) → t ∷ us ≡ x ++ zs → Is (Keyword w.Struct) t → (n : List ℕ) × (u : Token) × (b ≡ struct_base t.spot false n) × Is (Name n) u × (x ≡ t ∷ (u ∷ []))
struct_type {b} {x} d t us zs e i = go (base_out b x d) e
  where
    named : {spot : Spot} {c : BaseName} {ys : List Token} → named_struct spot false c ys → (n : List ℕ) × (u : Token) × (c ≡ struct_base spot false n) × Is (Name n) u × (ys ≡ u ∷ [])
    named (then (a_named {n} {t = u} j) ended) = (n, u, refl, j, refl)

    go : {x : List Token} → By (λ t. base_after t.spot (opening t.kind)) b x → t ∷ us ≡ x ++ zs → (n : List ℕ) × (u : Token) × (b ≡ struct_base t.spot false n) × Is (Name n) u × (x ≡ t ∷ (u ∷ []))
    go (first {t = u} {ys = ys} q) e =
        let h : u ≡ t = cc in
        let k : opening t.kind ≡ o.Struct = ap opening i.kind in
        let q1 = subst (λ (u : Token). base_after u.spot (opening u.kind) b ys) h q in
        let q2 = subst (λ op. base_after t.spot op b ys) k q1 in
        let (n, v, e1, j, e2) = named q2 in
        (n, v, e1, j, (let g : u ∷ ys ≡ t ∷ (v ∷ []) = cc in g))

typed_first : {ty : TypeName} {x : List Token} (zs : List Token) → TypeNamed ty x → BeginsType (x ++ zs)
typed_first zs (type_named {x = x} {y = y} d st) = rw (append_assoc x y zs) (base_first (y ++ zs) d)

some_part : Closes (Then Base typed_after)
some_part = let (b, x, d) = some_base in close_then b x (base_in b x d) (some_typed b)

type_goes : Goes BeforeNoWord Any typed_after
type_goes = record { follow = λ b v ys zs q s. go b v ys zs q; closes = some_typed }
  where
    go : (b : BaseName) (v : Part) (ys zs : List Token) → typed_after b v ys → NoWord (ys ++ zs)
    go b v _ zs (then (star i d) q) = λ word j. let e = i.kind in let g = j.kind in cc
    go b v _ zs (then no_star (then (after_result i j d k e g) q)) = λ word l. let e = i.kind in let g = l.kind in cc

module _ {ts : List Token} where
  module _ {r1 : List Token} (i : Starts (Keyword w.Struct) ts r1) where
    struct_into : (v : Part) (ys : List Token) → named_after i.token.spot v ys → APart v (i.token ∷ ys)
    struct_into v _ (then (a_named {t = n} j) (by_brace {t = a} k (then {xs = x} c (then (one {t = e} m) ended)))) =
        let (y, b, all, l, p) = closed_all c in
        let q : i.token ∷ (n ∷ (a ∷ (y ++ b ∷ (e ∷ [])))) ≡ i.token ∷ ((n ∷ []) ++ (a ∷ (x ++ ((e ∷ []) ++ [])))) = ap (λ z. i.token ∷ (n ∷ (a ∷ z))) (sym (append_assoc y (b ∷ []) (e ∷ [])) ∙ ap (λ z. z ++ e ∷ []) (sym p)) in
        subst (λ z. APart v z) q (a_struct_part (struct i.is j k all l m))
    struct_into v _ (then (a_named {t = n} j) (by_result (then {xs = x} st (then {xs = y} af ended)))) =
        let q : (i.token ∷ (n ∷ [])) ++ (x ++ y) ≡ i.token ∷ (n ∷ (x ++ (y ++ []))) = ap (λ z. i.token ∷ (n ∷ (x ++ z))) (sym (append-nil y)) in
        subst (λ z. APart v z) q (let h = a_function (typed (type_named (a_struct i.is j) st)) af in a_function_part (rw append_assoc at h))

    struct_out : (v : Part) (us ys zs : List Token) → APart v ys → i.token ∷ us ≡ ys ++ zs → (xs : List Token) × named_after i.token.spot v xs × (us ≡ xs ++ zs)
    struct_out v us _ zs (a_struct_part (struct {n = n} {a = a} {b = b} {c = c} {x = x} it j k all l m)) e =
        let q : x ++ b ∷ (c ∷ []) ≡ (x ++ b ∷ []) ++ c ∷ [] = sym (append_assoc x (b ∷ []) (c ∷ [])) in
        (n ∷ (a ∷ (x ++ b ∷ (c ∷ []))), rw q (then (a_named j) (by_brace k (then (all_run [] all l) (then (one m) ended)))), cc)
    struct_out v us _ zs (a_function_part (a_function (void {t} k) d)) e = let h : i.token ≡ t = cc in let g = ap (λ (t : Token). t.kind) h in let f = k.kind in let f' = i.is.kind in cc
    struct_out v us _ zs (a_function_part (a_function {y = y} (typed (type_named {b = b} {x = x1} {y = y1} d st)) af)) e =
        let g : i.token ∷ us ≡ x1 ++ ((y1 ++ y) ++ zs) = e ∙ (append_assoc (x1 ++ y1) y zs ∙ (append_assoc x1 y1 (y ++ zs) ∙ ap (λ z. x1 ++ z) (sym (append_assoc y1 y zs)))) in
        let (n, u, e1, j, e2) = struct_type d i.token us ((y1 ++ y) ++ zs) g i.is in
        let q : typed_after b v (y1 ++ y) = then st (then_end part.Function _ y af) in
        (u ∷ (y1 ++ y), then (a_named j) (by_result (rw e1 at q)), (let k : i.token ∷ us ≡ (i.token ∷ (u ∷ [])) ++ ((y1 ++ y) ++ zs) = g ∙ ap (λ x. x ++ ((y1 ++ y) ++ zs)) e2 in cc))

    pub named_left : Leaves APart Any ts (named_after (spot_at ts)) r1
    named_left = let e : spot_at ts ≡ i.token.spot = ap spot_at i.whole in rw e (taken (start APart Any ts) i.whole struct_into struct_out)

  module _ {r1 : List Token} (i : Starts (Keyword w.Void) ts r1) where
    pub void_left : Leaves APart Any ts (function_after None) r1
    void_left = taken (start APart Any ts) i.whole into out
      where
        into : (v : Part) (ys : List Token) → function_after None v ys → APart v (i.token ∷ ys)
        into v _ (then af ended) = rw append-nil (a_function_part (a_function (void i.is) af))

        out : (v : Part) (us ys zs : List Token) → APart v ys → i.token ∷ us ≡ ys ++ zs → (xs : List Token) × function_after None v xs × (us ≡ xs ++ zs)
        out v us _ zs (a_struct_part (struct {t} k j a b c d)) e = let h : i.token ≡ t = cc in let g = ap (λ (t : Token). t.kind) h in let f = k.kind in let f' = i.is.kind in cc
        out v us _ zs (a_function_part (a_function {y = y} (void k) af)) e = (y, then_end part.Function _ y af, cc)
        out v us _ zs (a_function_part (a_function {x = x} {y = y} (typed d) af)) e = absurd (not_type_first (Keyword w.Void) i.token us ((x ++ y) ++ zs) refl e (rw (append_assoc x y zs) (typed_first (y ++ zs) d)) i.is)

  module _ (n : NotNext (Keyword w.Struct) ts) (m : NotNext (Keyword w.Void) ts) where
    typed_left : Leaves APart Any ts (Then Base typed_after) ts
    typed_left = also (start APart Any ts) into (λ v us ys zs a q s e. go v us ys zs a q e)
      where
        into : (v : Part) (ys : List Token) → Then Base typed_after v ys → APart v ys
        into v _ (then {xs = x} d (then {xs = y} st (then {xs = z} af ended))) = let h = a_function (typed (type_named d st)) af in a_function_part (rw (append-nil, ← append_assoc x y z) h)

        go : (v : Part) (us ys zs : List Token) → SameNext ts us → APart v ys → us ≡ ys ++ zs → Then Base typed_after v ys
        go v us _ zs a (a_struct_part (struct {t} k j b c d f)) e = absurd (not_next (Keyword w.Struct) t ts _ n (subst (λ us. SameNext ts us) e a) k)
        go v us _ zs a (a_function_part (a_function {y = y} (void {t} k) af)) e = absurd (not_next (Keyword w.Void) t ts (y ++ zs) m (subst (λ us. SameNext ts us) e a) k)
        go v us _ zs a (a_function_part (a_function {y = z} (typed (type_named {x = x} {y = y} d st)) af)) e = rw append_assoc (then d (then st (then_end part.Function _ z af)))

    pub type_fails : {r : List Token} → Refused Base BeforeNoWord ts r → Refused APart Any ts r
    type_fails f = fails typed_left f type_goes

    pub type_read : {b : BaseName} {r : List Token} → Found Base BeforeNoWord ts b r → Leaves APart Any ts (typed_after b) r
    type_read f = read typed_left f type_goes
