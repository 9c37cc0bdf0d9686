-- The steps of the calls that read what stands before the parts of a statement.
use Rattle.std.proofs.Common.{◌≡◌, List, [], ◌∷◌, ◌++◌, Option, Some, None, true, false, refl, sym, ◌∙◌, ap, append-nil, append_assoc, subst}
use Rattle.oc_source.specs.declared.parsed.BaseName.{BaseName}
use Rattle.oc_source.specs.declared.parsed.Declared.{Declared}
use Rattle.oc_source.specs.declared.parsed.Expr.{Expr}
use Rattle.oc_source.specs.declared.parsed.ForInit.{ForInit}
use Rattle.oc_source.specs.declared.parsed.ForInit.TheVariants as init
use Rattle.oc_lexer.specs.declared.token.Token.{Token}
use Rattle.oc_lexer.specs.declared.token.TokenKind.{TokenKind}
use Rattle.oc_lexer.specs.declared.token.TokenKind.TheVariants.{Name, Sign}
use Rattle.oc_lexer.specs.declared.token.Sign.{Sign as SignType}
use Rattle.oc_lexer.specs.declared.token.Sign.TheVariants as s
use Rattle.oc_grammar.specs.declared.taking.Named.{Named}
use Rattle.oc_grammar.specs.declared.tables.Opening.TheVariants as o
use Rattle.oc_grammar.specs.Tokens.{Is, Starts, NotNext}
use Rattle.oc_grammar.specs.Tables.{opening}
use Rattle.oc_grammar.specs.Parsing.{SameNext, Found, Refused, Leaves, Any, End, ended, Then, then, By, first}
use Rattle.oc_grammar.specs.Calls.{One, one, ANamed, a_named}
use Rattle.oc_grammar.specs.WrittenTypes.{Base}
use Rattle.oc_grammar.specs.Expressions.{Before, before}
use Rattle.oc_grammar.specs.Statements.{Declaration, declaration, Condition, condition, Perhaps, absent, given, Init, nothing, declares, expresses}
use Rattle.oc_grammar.proofs.Parsing.{start, also, turned, read, fails, ends, through, through_fails, taken, Goes, sure, Closes, close_end, close_then, then_end, end_is}
use Rattle.oc_grammar.proofs.Calls.{made, is_made, not_next, close_one}
use Rattle.oc_declarators.specs.Continuations.{NoWord, BeforeNoWord, base_after}
use Rattle.oc_declarators.proofs.Marks.{base_out}
use Rattle.oc_expressions.specs.Continuations.{begins, BeginsType}
use Rattle.oc_expressions.proofs.Levels.{Begun, begun, begun_append, begins_other, some_before}
use Rattle.oc_statements.specs.Continuations.{names_after, header, header_form, name_form}
use Rattle.oc_statements.proofs.Declaring.{names_word, some_names}

-- ---- first tokens

pub before_begun : {sign : SignType} {v : Expr} {x : List Token} → Before sign v x → Begun x
before_begun (before {x = x} d i) = begun_append x _ (begun d)

-- what begins with an expression begins with none of the other tokens
pub begun_clash : {k : TokenKind} (t : Token) (us x zs : List Token) → begins k ≡ false → Is k t → Begun x → t ∷ us ≡ x ++ zs → ⊥
begun_clash t us [] zs n i b g = b
begun_clash {k} t us (u ∷ x) zs n i b g =
    let h : t ≡ u = cc in
    let c : begins t.kind ≡ true = rw h b in
    let d : begins k ≡ true = rw i.kind at c in
    let e : false ≡ true = sym n ∙ d in
    cc

pub base_first : {b : BaseName} {x : List Token} (zs : List Token) → Base b x → BeginsType (x ++ zs)
base_first {b} {x} zs d = go (base_out b x d)
  where
    go : {x : List Token} → By (λ t. base_after t.spot (opening t.kind)) b x → BeginsType (x ++ zs)
    go (first {t} {ys = ys} q) = λ h. none_other ys (rw h at q)
      where
        none_other : (ys : List Token) → base_after t.spot o.Other b ys → ⊥
        none_other _ (then d q) = d

pub declaration_first : {b : BaseName} {ds : List Declared} {x : List Token} (zs : List Token) → Declaration b ds x → BeginsType (x ++ zs)
declaration_first zs (declaration {t = t} {x = x} {y = y} d l i) = rw (append_assoc x (y ++ t ∷ []) zs) (base_first ((y ++ t ∷ []) ++ zs) d)

pub type_not_begun : (ts us : List Token) → BeginsType ts → SameNext ts us → Begun us → ⊥
type_not_begun [] us h a b = h
type_not_begun (t ∷ ts) us h (m, g) b = let c : begins t.kind ≡ true = rw g at b in h (begins_other t.kind c)

pub not_type : (ts us : List Token) → (BeginsType ts → ⊥) → SameNext ts us → BeginsType us → ⊥
not_type [] us n a h = let b : BeginsType [] = rw a at h in b
not_type (t ∷ ts) us n (m, g) h = n (rw g at h)

-- no written type begins with it
pub type_not_next : {k : TokenKind} (t : Token) (ts us : List Token) → opening k ≡ o.Other → BeginsType ts → SameNext ts (t ∷ us) → Is k t → ⊥
type_not_next t [] us n h a i = h
type_not_next {k} t (u ∷ ts) us n h (m, g) i = let e : u ≡ t = cc in let f : u.kind ≡ k = rw e i.kind in h (rw f n)

-- ---- an expression in parentheses

condition_in : (c : Expr) (x : List Token) → Then (One (Sign s.LeftParen)) (λ _. Before s.RightParen) c x → Condition c x
condition_in c _ (then (one i) d) = condition i d

condition_out : (c : Expr) (x : List Token) → Condition c x → Then (One (Sign s.LeftParen)) (λ _. Before s.RightParen) c x
condition_out c _ (condition i d) = then (one i) d

pub some_condition : Closes Condition
some_condition = let (c, x, d) = some_before s.RightParen in (c, made (Sign s.LeftParen) ∷ x, condition (is_made (Sign s.LeftParen)) d)

module _ {ts : List Token} where
  condition_opened : Leaves Condition Any ts (Then (One (Sign s.LeftParen)) (λ _. Before s.RightParen)) ts
  condition_opened = turned (start Condition Any ts) condition_in condition_out

  pub paren_fails : {r : List Token} → Refused (One (Sign s.LeftParen)) Any ts r → Refused Condition Any ts r
  paren_fails f = fails condition_opened f (sure (λ u. some_before s.RightParen))

  module _ {r1 : List Token} (f : Found (One (Sign s.LeftParen)) Any ts tt r1) where
    inner_left : Leaves Condition Any ts (Before s.RightParen) r1
    inner_left = read condition_opened f (sure (λ u. some_before s.RightParen))

    pub inner_fails : {r : List Token} → Refused (Before s.RightParen) Any r1 r → Refused Condition Any ts r
    inner_fails g = through_fails inner_left g

    pub condition_read : {c : Expr} {r : List Token} → Found (Before s.RightParen) Any r1 c r → Found Condition Any ts c r
    condition_read g = through inner_left g

-- ---- an expression or none, and a sign

module _ (sign : SignType) {ts : List Token} where
  pub absent_read : {r : List Token} → begins (Sign sign) ≡ false → Starts (Sign sign) ts r → Found (Perhaps sign) Any ts None r
  absent_read {r} n here = ends (taken (start (Perhaps sign) Any ts) here.whole into out)
    where
      into : (v : Option Expr) (ys : List Token) → End None v ys → Perhaps sign v (here.token ∷ ys)
      into v _ ended = absent here.is

      out : (v : Option Expr) (us ys zs : List Token) → Perhaps sign v ys → here.token ∷ us ≡ ys ++ zs → (xs : List Token) × End None v xs × (us ≡ xs ++ zs)
      out v us _ zs (absent i) g = ([], ended, cc)
      out v us _ zs (given {x = x} d) g = absurd (begun_clash here.token us x zs n here.is (before_begun d) g)

  module _ (n : NotNext (Sign sign) ts) where
    given_left : Leaves (Perhaps sign) Any ts (Then (Before sign) (λ v. End (Some v))) ts
    given_left = also (start (Perhaps sign) Any ts) into (λ v us ys zs a d k g. out v us ys zs a d g)
      where
        into : (v : Option Expr) (ys : List Token) → Then (Before sign) (λ v. End (Some v)) v ys → Perhaps sign v ys
        into v _ (then d ended) = rw append-nil (given d)

        out : (v : Option Expr) (us ys zs : List Token) → SameNext ts us → Perhaps sign v ys → us ≡ ys ++ zs → Then (Before sign) (λ v. End (Some v)) v ys
        out v us _ zs a (absent {t} i) g = absurd (not_next (Sign sign) t ts zs n (subst (λ us. SameNext ts us) g a) i)
        out v us ys zs a (given {v = w} d) g = then_end (λ (v : Expr). Some v) w ys d

    pub given_fails : {r : List Token} → Refused (Before sign) Any ts r → Refused (Perhaps sign) Any ts r
    given_fails f = fails given_left f (sure (λ v. close_end))

    pub given_read : {v : Expr} {r : List Token} → Found (Before sign) Any ts v r → Found (Perhaps sign) Any ts (Some v) r
    given_read f = ends (read given_left f (sure (λ v. close_end)))

pub some_perhaps : (sign : SignType) → Closes (Perhaps sign)
some_perhaps sign = (None, made (Sign sign) ∷ [], absent (is_made (Sign sign)))

-- ---- a declaration by its parts

module _ {A : Type 0} (mk : BaseName → List Declared → A) where
  abbrev pub typed : A → List Token → Type 0
  typed = Then Base (λ b. Then (names_after b) (λ ds. End (mk b ds)))

  pub typed_out : {b : BaseName} {ds : List Declared} {x : List Token} → Declaration b ds x → typed (mk b ds) x
  typed_out {b} {ds} (declaration {t = t} {y = y} d l i) = then d (then_end (mk b) ds (y ++ t ∷ []) (then l (then (one i) ended)))

  pub typed_in : {v : A} {x : List Token} → typed v x → (b : BaseName) × (ds : List Declared) × (v ≡ mk b ds) × Declaration b ds x
  typed_in (then {w = b} d (then (then {w = ds} l (then (one i) e1)) e2)) = let p = end_is e1 in let q = end_is e2 in (b, ds, q.0 ∙ ap (mk b) p.0, rw (q.1, p.1, append-nil) (declaration d l i))

  pub base_goes : {stop : A → List Token → Type 0} → Goes BeforeNoWord stop (λ b. Then (names_after b) (λ ds. End (mk b ds)))
  base_goes {stop} = record { follow = λ b v ys zs q k. go b v ys zs q; closes = λ b. (let (ds, x, d) = some_names b in close_then ds x d close_end) }
    where
      go : (b : BaseName) (v : A) (ys zs : List Token) → Then (names_after b) (λ ds. End (mk b ds)) v ys → NoWord (ys ++ zs)
      go b v _ zs (then {xs = x} {zs = y} d q) = rw (append_assoc x y zs) (names_word (y ++ zs) d)

-- ---- what the header of a `for` begins with

abbrev pub of_perhaps : Option Expr → ForInit
of_perhaps None = init.Nothing
of_perhaps (Some v) = init.Express v

abbrev declare_init : BaseName → List Declared → ForInit
declare_init b ds = init.Declare ds

init_goes : Goes BeforeNoWord Any (λ b. Then (names_after b) (λ ds. End (init.Declare ds)))
init_goes = base_goes declare_init

module _ {ts : List Token} where
  module _ (h : BeginsType ts) where
    typed_left : Leaves Init Any ts (Then Base (λ b. Then (names_after b) (λ ds. End (init.Declare ds)))) ts
    typed_left = also (start Init Any ts) into (λ v us ys zs a d k g. out v us ys zs a d g)
      where
        into : (v : ForInit) (ys : List Token) → typed declare_init v ys → Init v ys
        into v ys q = let (b, ds, e, d) = typed_in declare_init q in rw e (declares d)

        out : (v : ForInit) (us ys zs : List Token) → SameNext ts us → Init v ys → us ≡ ys ++ zs → typed declare_init v ys
        out v us _ zs a (nothing {t} i) g = absurd (type_not_next t ts zs refl h (subst (λ us. SameNext ts us) g a) i)
        out v us ys zs a (declares d) g = typed_out declare_init d
        out v us ys zs a (expresses d) g = absurd (type_not_begun ts us h a (rw g (begun_append ys zs (before_begun d))))

    pub base_fails : {r : List Token} → Refused Base BeforeNoWord ts r → Refused Init Any ts r
    base_fails f = fails typed_left f init_goes

    module _ {b : BaseName} {r1 : List Token} (f : Found Base BeforeNoWord ts b r1) where
      pub names_fail : {r : List Token} → Refused (names_after b) Any r1 r → Refused Init Any ts r
      names_fail g = fails (read typed_left f init_goes) g (sure (λ ds. close_end))

      pub declares_read : {ds : List Declared} {r : List Token} → Found (names_after b) Any r1 ds r → Found Init Any ts (init.Declare ds) r
      declares_read g = ends (read (read typed_left f init_goes) g (sure (λ ds. close_end)))

  module _ (n : BeginsType ts → ⊥) where
    perhaps_left : Leaves Init Any ts (Then (Perhaps s.Semicolon) (λ v. End (of_perhaps v))) ts
    perhaps_left = also (start Init Any ts) into (λ v us ys zs a d k g. out v us ys zs a d g)
      where
        into : (v : ForInit) (ys : List Token) → Then (Perhaps s.Semicolon) (λ v. End (of_perhaps v)) v ys → Init v ys
        into v _ (then (absent i) ended) = nothing i
        into v _ (then (given d) ended) = rw append-nil (expresses d)

        out : (v : ForInit) (us ys zs : List Token) → SameNext ts us → Init v ys → us ≡ ys ++ zs → Then (Perhaps s.Semicolon) (λ v. End (of_perhaps v)) v ys
        out v us ys zs a (nothing i) g = then_end of_perhaps None ys (absent i)
        out v us ys zs a (declares d) g = absurd (not_type ts us n a (rw g (declaration_first zs d)))
        out v us ys zs a (expresses {v = w} d) g = then_end of_perhaps (Some w) ys (given d)

    pub perhaps_fails : {r : List Token} → Refused (Perhaps s.Semicolon) Any ts r → Refused Init Any ts r
    perhaps_fails f = fails perhaps_left f (sure (λ v. close_end))

    pub perhaps_read : {v : Option Expr} {r : List Token} → Found (Perhaps s.Semicolon) Any ts v r → Found Init Any ts (of_perhaps v) r
    perhaps_read f = ends (read perhaps_left f (sure (λ v. close_end)))

some_init : Closes Init
some_init = (init.Nothing, made (Sign s.Semicolon) ∷ [], nothing (is_made (Sign s.Semicolon)))

-- ---- the header of a `for`

some_advance : (i : ForInit) (c : Option Expr) → Closes (Then (Perhaps s.RightParen) (λ a. End (header i c a)))
some_advance i c = let (a, x, d) = some_perhaps s.RightParen in close_then a x d close_end

some_cond : (i : ForInit) → Closes (Then (Perhaps s.Semicolon) (λ c. Then (Perhaps s.RightParen) (λ a. End (header i c a))))
some_cond i = let (c, x, d) = some_perhaps s.Semicolon in close_then c x d (some_advance i c)

some_parts : Closes (Then Init (λ i. Then (Perhaps s.Semicolon) (λ c. Then (Perhaps s.RightParen) (λ a. End (header i c a)))))
some_parts = let (i, x, d) = some_init in close_then i x d (some_cond i)

module _ {ts : List Token} where
  pub open_fails : {r : List Token} → Refused (One (Sign s.LeftParen)) Any ts r → Refused header_form Any ts r
  open_fails f = fails (start header_form Any ts) f (sure (λ u. some_parts))

  module _ {r1 : List Token} (f : Found (One (Sign s.LeftParen)) Any ts tt r1) where
    init_left : Leaves header_form Any ts (Then Init (λ i. Then (Perhaps s.Semicolon) (λ c. Then (Perhaps s.RightParen) (λ a. End (header i c a))))) r1
    init_left = read (start header_form Any ts) f (sure (λ u. some_parts))

    pub init_fails : {r : List Token} → Refused Init Any r1 r → Refused header_form Any ts r
    init_fails g = fails init_left g (sure some_cond)

    module _ {i : ForInit} {r2 : List Token} (g : Found Init Any r1 i r2) where
      cond_left : Leaves header_form Any ts (Then (Perhaps s.Semicolon) (λ c. Then (Perhaps s.RightParen) (λ a. End (header i c a)))) r2
      cond_left = read init_left g (sure some_cond)

      pub cond_fails : {r : List Token} → Refused (Perhaps s.Semicolon) Any r2 r → Refused header_form Any ts r
      cond_fails h = fails cond_left h (sure (some_advance i))

      module _ {c : Option Expr} {r3 : List Token} (h : Found (Perhaps s.Semicolon) Any r2 c r3) where
        advance_left : Leaves header_form Any ts (Then (Perhaps s.RightParen) (λ a. End (header i c a))) r3
        advance_left = read cond_left h (sure (some_advance i))

        pub advance_fails : {r : List Token} → Refused (Perhaps s.RightParen) Any r3 r → Refused header_form Any ts r
        advance_fails k = fails advance_left k (sure (λ a. close_end))

        pub header_read : {a : Option Expr} {r : List Token} → Found (Perhaps s.RightParen) Any r3 a r → Found header_form Any ts (header i c a) r
        header_read k = ends (read advance_left k (sure (λ a. close_end)))

-- ---- a name in parentheses

some_close : (n : Named) → Closes (Then (One (Sign s.RightParen)) (λ _. End n.name))
some_close n = close_one (Sign s.RightParen) close_end

some_inner : Closes (Then ANamed (λ n. Then (One (Sign s.RightParen)) (λ _. End n.name)))
some_inner = let n : Named = record { spot = (made (Name [])).spot; name = [] } in close_then n (made (Name []) ∷ []) (a_named (is_made (Name []))) (some_close n)

module _ {ts : List Token} where
  pub name_open_fails : {r : List Token} → Refused (One (Sign s.LeftParen)) Any ts r → Refused name_form Any ts r
  name_open_fails f = fails (start name_form Any ts) f (sure (λ u. some_inner))

  module _ {r1 : List Token} (f : Found (One (Sign s.LeftParen)) Any ts tt r1) where
    name_left : Leaves name_form Any ts (Then ANamed (λ n. Then (One (Sign s.RightParen)) (λ _. End n.name))) r1
    name_left = read (start name_form Any ts) f (sure (λ u. some_inner))

    pub name_fails : {r : List Token} → Refused ANamed Any r1 r → Refused name_form Any ts r
    name_fails g = fails name_left g (sure some_close)

    module _ {n : Named} {r2 : List Token} (g : Found ANamed Any r1 n r2) where
      pub name_close_fails : {r : List Token} → Refused (One (Sign s.RightParen)) Any r2 r → Refused name_form Any ts r
      name_close_fails h = fails (read name_left g (sure some_close)) h (sure (λ u. close_end))

      pub name_read : {r : List Token} → Found (One (Sign s.RightParen)) Any r2 tt r → Found name_form Any ts n.name r
      name_read h = ends (read (read name_left g (sure some_close)) h (sure (λ u. close_end)))
