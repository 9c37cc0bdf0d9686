-- Names with their stars and lengths.
use Rattle.std.proofs.Common.{◌≡◌, ℕ, ◌+◌, List, [], ◌∷◌, ◌++◌, refl, sym, ◌∙◌, ap, append-nil, append_assoc, subst, arith}
use Rattle.oc_values.specs.declared.integers.IntKind.TheVariants as kind
use Rattle.oc_source.specs.declared.literal.Literal.{Literal}
use Rattle.oc_source.specs.declared.parsed.BaseName.{BaseName}
use Rattle.oc_source.specs.declared.parsed.FieldDef.{FieldDef}
use Rattle.oc_source.specs.declared.parsed.TypeName.{TypeName}
use Rattle.oc_lexer.specs.declared.token.Token.{Token}
use Rattle.oc_lexer.specs.declared.token.TokenKind.TheVariants.{Name, Number, Sign}
use Rattle.oc_lexer.specs.declared.token.Sign.TheVariants as s
use Rattle.oc_grammar.specs.declared.taking.Named.{Named}
use Rattle.oc_grammar.specs.Tokens.{Is, Starts, NotNext}
use Rattle.oc_source.specs.Parsed.{field}
use Rattle.oc_grammar.specs.Trees.{type_name}
use Rattle.oc_grammar.specs.Parsing.{SameNext, Found, Refused, Leaves, Any, End, ended, Then, then, Loop, at_last, turn}
use Rattle.oc_grammar.specs.Calls.{One, one, ANamed, a_named}
use Rattle.oc_grammar.specs.WrittenTypes.{Base, Stars, no_star, star, Dims, no_dim, dim, Declr, declr, type_named}
use Rattle.oc_grammar.proofs.Parsing.{start, turned, read, fails, ends, stuck, Goes, Closes, close_end, close_then, after_end, after_then, then_end, sure, loop_on, loop_done}
use Rattle.oc_grammar.proofs.Calls.{made, is_made, not_next, close_one, after_one}
use Rattle.oc_declarators.specs.Continuations.{NoWord, BeforeNoWord, NoStar, NoBracket, ALength, a_length, dim_rest, closed_type}
use Rattle.oc_declarators.proofs.Marks.{base_in, some_base}

-- ---- stars

pub data StarStep (n : ℕ) (t : Token) : ℕ → List Token → Type 0 where
  one_star : Is (Sign s.Star) t → StarStep n t (n + 1) []

stars_loop : {n : ℕ} {x : List Token} (a : ℕ) → Stars n x → Loop StarStep a (a + n) x
stars_loop a no_star = let e : a + 0 ≡ a = omega arith in rw e at_last
stars_loop a (star {n = n} {x = x} i d) = let e : a + (n + 1) ≡ (a + 1) + n = omega arith in rw e (turn (one_star i) (stars_loop (a + 1) d))

pub stars_out : (n : ℕ) (x : List Token) → Stars n x → Loop StarStep 0 n x
stars_out n x d = let e : 0 + n ≡ n = omega arith in rw e at (stars_loop 0 d)

loop_stars : {a v : ℕ} {x : List Token} → Loop StarStep a v x → (n : ℕ) × (v ≡ a + n) × Stars n x
loop_stars {a} at_last = (0, omega arith, no_star)
loop_stars {a} (turn (one_star i) q) = let (n, e, d) = loop_stars q in (n + 1, omega arith, star i d)

pub stars_in : (n : ℕ) (x : List Token) → Loop StarStep 0 n x → Stars n x
stars_in n x q = let (m, e, d) = loop_stars q in let g : n ≡ m = omega arith in rw g d

pub stars_opened : (ts : List Token) → Leaves Stars NoStar ts (Loop StarStep 0) ts
stars_opened ts = turned (start Stars NoStar ts) stars_in stars_out

module _ {ts rest : List Token} {n : ℕ} (l : Leaves Stars NoStar ts (Loop StarStep n) rest) where
  pub star_read : {rest' : List Token} → Starts (Sign s.Star) rest rest' → Leaves Stars NoStar ts (Loop StarStep (n + 1)) rest'
  star_read i = turned (loop_on l i.whole (λ zs h. h i.is)) (λ v ys q. then (one_star i.is) q) (λ v ys q. go v ys q)
    where
      go : (v : ℕ) (ys : List Token) → Then (StarStep n i.token) (λ m. Loop StarStep m) v ys → Loop StarStep (n + 1) v ys
      go v _ (then (one_star j) q) = q

  pub stars_done : NotNext (Sign s.Star) rest → Found Stars NoStar ts n rest
  stars_done out = loop_done l (λ t us m xs a d. go t us m xs a d)
    where
      go : (t : Token) (us : List Token) (m : ℕ) (xs : List Token) → SameNext rest (t ∷ us) → StarStep n t m xs → ⊥
      go t us m _ a (one_star i) = not_next (Sign s.Star) t rest us out a i

-- ---- lengths

pub length_found : {n : Literal} {t : Token} (ts rest : List Token) → ts ≡ t ∷ rest → t.kind ≡ Number n → Found ALength Any ts n.value rest
length_found {n} {t} ts rest is k = record {
  front = t ∷ [];
  whole = is;
  derives = a_length (record { kind = k });
  only = λ us xs zs w a f q e. go us xs zs w f e;
}
  where
    go : (us xs zs : List Token) (w : ℕ) → ALength w xs → t ∷ us ≡ xs ++ zs → (w ≡ n.value) × (zs ≡ us)
    go us _ zs _ (a_length {n = m} {t = u} i) e = let h : u ≡ t = cc in let j = i.kind in let g : m ≡ n = cc in (ap (λ (n : Literal). n.value) g, cc)

zero_literal : Literal
zero_literal = record { kind = kind.I32; value = 0; of_kind = refl }

some_length : Closes ALength
some_length = (zero_literal.value, made (Number zero_literal) ∷ [], a_length (is_made (Number zero_literal)))

pub length_refused : (ts : List Token) → ((n : Literal) → NotNext (Number n) ts) → Refused ALength Any ts ts
length_refused ts out = stuck (start ALength Any ts) (λ v us ys zs a d s e. go v us ys zs a d e) some_length
  where
    go : (v : ℕ) (us ys zs : List Token) → SameNext ts us → ALength v ys → us ≡ ys ++ zs → ⊥
    go v us _ zs a (a_length {n} {t} i) e = not_next (Number n) t ts zs (out n) (subst (λ us. SameNext ts us) e a) i

some_bracket : (n : ℕ) → Closes (Then (One (Sign s.RightBracket)) (λ _. End n))
some_bracket n = close_one (Sign s.RightBracket) close_end

module _ {ts : List Token} where
  pub dim_fails : {r : List Token} → Refused ALength Any ts r → Refused dim_rest Any ts r
  dim_fails f = fails (start dim_rest Any ts) f (sure some_bracket)

  module _ {n : ℕ} {r1 : List Token} (f : Found ALength Any ts n r1) where
    bracket_left : Leaves dim_rest Any ts (Then (One (Sign s.RightBracket)) (λ _. End n)) r1
    bracket_left = read (start dim_rest Any ts) f (sure some_bracket)

    pub bracket_fails : {r : List Token} → Refused (One (Sign s.RightBracket)) Any r1 r → Refused dim_rest Any ts r
    bracket_fails g = fails bracket_left g (sure (λ b. close_end))

    pub dim_read : {r : List Token} → Found (One (Sign s.RightBracket)) Any r1 tt r → Found dim_rest Any ts n r
    dim_read g = ends (read bracket_left g (sure (λ b. close_end)))

pub data DimStep (ds : List ℕ) (t : Token) : List ℕ → List Token → Type 0 where
  one_dim : {n : ℕ} {x : List Token} → Is (Sign s.LeftBracket) t → dim_rest n x → DimStep ds t (ds ++ n ∷ []) x

dims_loop : {ds : List ℕ} {x : List Token} (l : List ℕ) → Dims ds x → Loop DimStep l (l ++ ds) x
dims_loop l no_dim = rw append-nil at_last
dims_loop l (dim {a} {b} {c} {n} {ds} {x} i j k d) =
    let q : Loop DimStep l ((l ++ n.value ∷ []) ++ ds) (a ∷ ((b ∷ (c ∷ [])) ++ x)) = turn (one_dim i (then (a_length j) (then (one k) ended))) (dims_loop (l ++ n.value ∷ []) d) in
    rw append_assoc at q

pub dims_out : (ds : List ℕ) (x : List Token) → Dims ds x → Loop DimStep [] ds x
dims_out ds x d = dims_loop [] d

loop_dims : {l v : List ℕ} {x : List Token} → Loop DimStep l v x → (ds : List ℕ) × (v ≡ l ++ ds) × Dims ds x
loop_dims {l} at_last = ([], sym (append-nil l), no_dim)
loop_dims {l} (turn (one_dim i (then (a_length {n} j) (then (one k) ended))) q) =
    let (ds, e, d) = loop_dims q in
    (n.value ∷ ds, e ∙ append_assoc l (n.value ∷ []) ds, dim i j k d)

pub dims_in : (ds : List ℕ) (x : List Token) → Loop DimStep [] ds x → Dims ds x
dims_in ds x q = let (es, e, d) = loop_dims q in rw e d

pub dims_opened : (ts : List Token) → Leaves Dims NoBracket ts (Loop DimStep []) ts
dims_opened ts = turned (start Dims NoBracket ts) dims_in dims_out

module _ {ts rest : List Token} {ds : List ℕ} (l : Leaves Dims NoBracket ts (Loop DimStep ds) rest) where
  module _ {r1 : List Token} (i : Starts (Sign s.LeftBracket) rest r1) where
    length_left : Leaves Dims NoBracket ts (Then dim_rest (λ n. Loop DimStep (ds ++ n ∷ []))) r1
    length_left = turned (loop_on l i.whole (λ zs h. h i.is)) into out
      where
        into : (v : List ℕ) (ys : List Token) → Then dim_rest (λ n. Loop DimStep (ds ++ n ∷ [])) v ys → Then (DimStep ds i.token) (λ m. Loop DimStep m) v ys
        into v _ (then d q) = then (one_dim i.is d) q

        out : (v : List ℕ) (ys : List Token) → Then (DimStep ds i.token) (λ m. Loop DimStep m) v ys → Then dim_rest (λ n. Loop DimStep (ds ++ n ∷ [])) v ys
        out v _ (then (one_dim j d) q) = then d q

    pub length_fails : {r : List Token} → Refused dim_rest Any r1 r → Refused Dims NoBracket ts r
    length_fails f = fails length_left f (sure (λ b. (_, [], at_last)))

    pub length_read : {n : ℕ} {r : List Token} → Found dim_rest Any r1 n r → Leaves Dims NoBracket ts (Loop DimStep (ds ++ n ∷ [])) r
    length_read f = read length_left f (sure (λ b. (_, [], at_last)))

  pub dims_done : NotNext (Sign s.LeftBracket) rest → Found Dims NoBracket ts ds rest
  dims_done out = loop_done l (λ t us m xs a d. go t us m xs a d)
    where
      go : (t : Token) (us : List Token) (m : List ℕ) (xs : List Token) → SameNext rest (t ∷ us) → DimStep ds t m xs → ⊥
      go t us m xs a (one_dim i d) = not_next (Sign s.LeftBracket) t rest us out a i

-- ---- a declared name

module _ (b : BaseName) where
  declr_left : FieldDef → List Token → Type 0
  declr_left = Then Stars (λ n. Then ANamed (λ m. Then Dims (λ ds. End (field m.spot m.name b n ds))))

  declr_out : (f : FieldDef) (x : List Token) → Declr b f x → declr_left f x
  unfolding declr_left
  declr_out f _ (declr {n} {m} {ds} {t} {y = y} i j k) = then i (then (a_named j) (then_end (λ ds. field t.spot m b n ds) ds y k))

  declr_in : (f : FieldDef) (x : List Token) → declr_left f x → Declr b f x
  unfolding declr_left
  declr_in f _ (then i (then (a_named j) (then k ended))) = rw append-nil (declr i j k)

  no_length : (n : ℕ) (m : Named) → Closes (Then Dims (λ ds. End (field m.spot m.name b n ds)))
  no_length n m = close_then [] [] no_dim close_end

  some_name : (n : ℕ) → Closes (Then ANamed (λ m. Then Dims (λ ds. End (field m.spot m.name b n ds))))
  some_name n = close_then (record { spot = (made (Name [])).spot; name = [] }) (made (Name []) ∷ []) (a_named (is_made (Name []))) (no_length n _)

  star_goes : Goes NoStar NoBracket (λ n. Then ANamed (λ m. Then Dims (λ ds. End (field m.spot m.name b n ds))))
  star_goes = after_then (λ n m xs zs d. go n m xs zs d) some_name
    where
      go : (n : ℕ) (m : Named) (xs zs : List Token) → ANamed m xs → NotNext (Sign s.Star) (xs ++ zs)
      go n m _ zs (a_named i) = λ j. let e = i.kind in let g = j.kind in cc

  module _ {ts : List Token} where
    declr_opened : Leaves (Declr b) NoBracket ts declr_left ts
    declr_opened = turned (start (Declr b) NoBracket ts) declr_in declr_out

    pub stars_fail : {r : List Token} → Refused Stars NoStar ts r → Refused (Declr b) NoBracket ts r
    unfolding declr_left
    stars_fail f = fails declr_opened f star_goes

    module _ {n : ℕ} {r1 : List Token} (f : Found Stars NoStar ts n r1) where
      name_left : Leaves (Declr b) NoBracket ts (Then ANamed (λ m. Then Dims (λ ds. End (field m.spot m.name b n ds)))) r1
      unfolding declr_left
      name_left = read declr_opened f star_goes

      pub name_fails : {r : List Token} → Refused ANamed Any r1 r → Refused (Declr b) NoBracket ts r
      name_fails g = fails name_left g (sure (no_length n))

      module _ {m : Named} {r2 : List Token} (g : Found ANamed Any r1 m r2) where
        dims_left : Leaves (Declr b) NoBracket ts (Then Dims (λ ds. End (field m.spot m.name b n ds))) r2
        dims_left = read name_left g (sure (no_length n))

        pub dims_fail : {r : List Token} → Refused Dims NoBracket r2 r → Refused (Declr b) NoBracket ts r
        dims_fail h = fails dims_left h (after_end (λ ds. field m.spot m.name b n ds) (λ ds zs s. s))

        pub declr_read : {ds : List ℕ} {r : List Token} → Found Dims NoBracket r2 ds r → Found (Declr b) NoBracket ts (field m.spot m.name b n ds) r
        declr_read h = ends (read dims_left h (after_end (λ ds. field m.spot m.name b n ds) (λ ds zs s. s)))

-- ---- a type in parentheses

type_left : TypeName → List Token → Type 0
type_left = Then Base (λ b. Then Stars (λ n. Then (One (Sign s.RightParen)) (λ _. End (type_name b n))))

type_out : (ty : TypeName) (x : List Token) → closed_type ty x → type_left ty x
unfolding type_left
type_out ty _ (then (type_named {x = x} {y = y} d i) (then (one {t} j) ended)) = rw (append_assoc x y (t ∷ [])) (then d (then i (then (one j) ended)))

type_in : (ty : TypeName) (x : List Token) → type_left ty x → closed_type ty x
unfolding type_left
type_in ty _ (then {xs = x} d (then {xs = y} i (then (one {t} j) ended))) = rw (← append_assoc x y (t ∷ [])) (then (type_named d i) (then (one j) ended))

some_close : (b : BaseName) (n : ℕ) → Closes (Then (One (Sign s.RightParen)) (λ _. End (type_name b n)))
some_close b n = close_one (Sign s.RightParen) close_end

some_stars : (b : BaseName) → Closes (Then Stars (λ n. Then (One (Sign s.RightParen)) (λ _. End (type_name b n))))
some_stars b = close_then 0 [] no_star (some_close b 0)

base_goes : Goes BeforeNoWord Any (λ b. Then Stars (λ n. Then (One (Sign s.RightParen)) (λ _. End (type_name b n))))
base_goes = record { follow = λ b v ys zs q s. go b v ys zs q; closes = some_stars }
  where
    go : (b : BaseName) (v : TypeName) (ys zs : List Token) → Then Stars (λ n. Then (One (Sign s.RightParen)) (λ _. End (type_name b n))) v ys → NoWord (ys ++ zs)
    go b v _ zs (then (star i d) q) = λ word j. let e = i.kind in let g = j.kind in cc
    go b v _ zs (then no_star (then (one i) q)) = λ word j. let e = i.kind in let g = j.kind in cc

close_goes : {b : BaseName} → Goes NoStar Any (λ n. Then (One (Sign s.RightParen)) (λ _. End (type_name b n)))
close_goes {b} = after_one (Sign s.RightParen) (λ n t zs i j. let e = i.kind in let g = j.kind in cc) (λ n. close_end)

module _ {ts : List Token} where
  type_opened : Leaves closed_type Any ts type_left ts
  type_opened = turned (start closed_type Any ts) type_in type_out

  pub type_fails : {r : List Token} → Refused Base BeforeNoWord ts r → Refused closed_type Any ts r
  unfolding type_left
  type_fails f = fails type_opened f base_goes

  module _ {b : BaseName} {r1 : List Token} (f : Found Base BeforeNoWord ts b r1) where
    pointers_left : Leaves closed_type Any ts (Then Stars (λ n. Then (One (Sign s.RightParen)) (λ _. End (type_name b n)))) r1
    unfolding type_left
    pointers_left = read type_opened f base_goes

    pub pointers_fail : {r : List Token} → Refused Stars NoStar r1 r → Refused closed_type Any ts r
    pointers_fail g = fails pointers_left g close_goes

    module _ {n : ℕ} {r2 : List Token} (g : Found Stars NoStar r1 n r2) where
      paren_left : Leaves closed_type Any ts (Then (One (Sign s.RightParen)) (λ _. End (type_name b n))) r2
      paren_left = read pointers_left g close_goes

      pub paren_fails : {r : List Token} → Refused (One (Sign s.RightParen)) Any r2 r → Refused closed_type Any ts r
      paren_fails h = fails paren_left h (sure (λ u. close_end))

      pub type_read : {r : List Token} → Found (One (Sign s.RightParen)) Any r2 tt r → Found closed_type Any ts (type_name b n) r
      type_read h = ends (read paren_left h (sure (λ u. close_end)))

pub some_closed : Closes closed_type
some_closed = let (b, x, d) = some_base in close_then (type_name b 0) (x ++ []) (type_named (base_in b x d) no_star) (close_one (Sign s.RightParen) close_end)
