-- The steps of the calls that read declarations.
use Rattle.std.proofs.Common.{List, [], ◌∷◌, ◌++◌, Some, None, arith, append-nil, append_assoc}
use Rattle.oc_source.specs.declared.parsed.BaseName.{BaseName}
use Rattle.oc_source.specs.declared.parsed.FieldDef.{FieldDef}
use Rattle.oc_source.specs.declared.parsed.Declared.{Declared}
use Rattle.oc_source.specs.declared.parsed.Expr.{Expr}
use Rattle.oc_source.specs.declared.parsed.StmtNode.TheVariants as st
use Rattle.oc_lexer.specs.declared.token.Token.{Token}
use Rattle.oc_lexer.specs.declared.token.TokenKind.TheVariants.{Name, Sign}
use Rattle.oc_lexer.specs.declared.token.Sign.TheVariants as s
use Rattle.oc_grammar.specs.Tokens.{Starts, NotNext}
use Rattle.oc_source.specs.Parsed.{stmt, field, declared}
use Rattle.oc_grammar.specs.Parsing.{SameNext, Found, Refused, Leaves, Any, End, Then, then, Maybe, stays, goes}
use Rattle.oc_grammar.specs.Calls.{One}
use Rattle.oc_grammar.specs.WrittenTypes.{Declr, declr, no_star, star, no_dim, Commas, last, more}
use Rattle.oc_grammar.specs.Expressions.{Expression, BindsWeaker, Ends}
use Rattle.oc_grammar.specs.Statements.{Initialised, bare, set}
use Rattle.oc_grammar.proofs.Parsing.{start, turned, read, fails, ends, token_on, alone, Goes, sure, Closes, close_end, close_then, after_end, then_end, end_is}
use Rattle.oc_grammar.proofs.Calls.{made, is_made, not_next, close_one, after_one}
use Rattle.oc_declarators.specs.Continuations.{NoWord, NoBracket}
use Rattle.oc_expressions.proofs.Levels.{stops_kind, goes_kind}
use Rattle.oc_expressions.specs.Continuations.{ListEnds}
use Rattle.oc_statements.specs.Continuations.{SetBy, set_by, NameEnds, names_after, declare_after}

-- ---- a declared name

initialised : BaseName → Declared → List Token → Type 0
initialised b = Then (Declr b) (λ f. Maybe (SetBy f) (declared f None))

initialised_in : (b : BaseName) (d : Declared) (x : List Token) → initialised b d x → Initialised b d x
unfolding initialised
initialised_in b d _ (then e stays) = rw append-nil (bare e)
initialised_in b d _ (then e (goes (set_by i (then v q)))) = let p = end_is q in rw (p.0, p.1, append-nil) (set e i v)

initialised_out : (b : BaseName) (d : Declared) (x : List Token) → Initialised b d x → initialised b d x
unfolding initialised
initialised_out b d x (bare e) = let h : Then (Declr b) (λ f. Maybe (SetBy f) (declared f None)) d (x ++ []) = then e stays in rw append-nil at h
initialised_out b d _ (set {f} {v} {y = y} e i dv) = then e (goes (set_by i (then_end (λ v. declared f (Some v)) v y dv)))

no_bracket : (zs : List Token) → BindsWeaker 1 zs → NotNext (Sign s.LeftBracket) zs
no_bracket [] h = tt
no_bracket (t ∷ zs) h = λ i. goes_kind 1 t zs (omega arith) i h

declr_goes : Goes NoBracket NameEnds (λ (f : FieldDef). Maybe (SetBy f) (declared f None))
declr_goes = record { follow = λ f v ys zs q h. go f v ys zs q h; closes = λ f. (declared f None, [], stays) }
  where
    go : (f : FieldDef) (v : Declared) (ys zs : List Token) → Maybe (SetBy f) (declared f None) v ys → BindsWeaker 1 zs → NotNext (Sign s.LeftBracket) (ys ++ zs)
    go f v _ zs stays h = no_bracket zs h
    go f v _ zs (goes (set_by i q)) h = λ j. let a = i.kind in let b = j.kind in cc

module _ (b : BaseName) {ts : List Token} where
  initialised_opened : Leaves (Initialised b) NameEnds ts (initialised b) ts
  initialised_opened = turned (start (Initialised b) NameEnds ts) (initialised_in b) (initialised_out b)

  pub declr_fails : {r : List Token} → Refused (Declr b) NoBracket ts r → Refused (Initialised b) NameEnds ts r
  unfolding initialised
  declr_fails f = fails initialised_opened f declr_goes

  module _ {f : FieldDef} {r1 : List Token} (g : Found (Declr b) NoBracket ts f r1) where
    set_left : Leaves (Initialised b) NameEnds ts (Maybe (SetBy f) (declared f None)) r1
    unfolding initialised
    set_left = read initialised_opened g declr_goes

    pub bare_read : NotNext (Sign s.Assign) r1 → Found (Initialised b) NameEnds ts (declared f None) r1
    bare_read n = alone set_left (λ t us v ys a q. go t us v ys a q)
      where
        go : (t : Token) (us : List Token) (v : Declared) (ys : List Token) → SameNext r1 (t ∷ us) → SetBy f t v ys → ⊥
        go t us v ys a (set_by i q) = not_next (Sign s.Assign) t r1 us n a i

    module _ {r2 : List Token} (here : Starts (Sign s.Assign) r1 r2) where
      value_left : Leaves (Initialised b) NameEnds ts (Then (Expression 1) (λ v. End (declared f (Some v)))) r2
      value_left = turned (token_on set_left here.whole (λ zs h. goes_kind 1 here.token zs (omega arith) here.is h)) (λ v ys q. set_by here.is q) (λ v ys q. go v ys q)
        where
          go : (v : Declared) (ys : List Token) → SetBy f here.token v ys → Then (Expression 1) (λ v. End (declared f (Some v))) v ys
          go v ys (set_by i q) = q

      value_goes : Goes (Ends 1) NameEnds (λ v. End (declared f (Some v)))
      value_goes = after_end (λ v. declared f (Some v)) (λ v zs h. h)

      pub value_fails : {r : List Token} → Refused (Expression 1) (Ends 1) r2 r → Refused (Initialised b) NameEnds ts r
      value_fails h = fails value_left h value_goes

      pub set_read : {v : Expr} {r : List Token} → Found (Expression 1) (Ends 1) r2 v r → Found (Initialised b) NameEnds ts (declared f (Some v)) r
      set_read h = ends (read value_left h value_goes)

-- ---- the names of a declaration

list_goes : Goes {A = List Declared} ListEnds Any (λ ds. Then (One (Sign s.Semicolon)) (λ _. End ds))
list_goes = after_one (Sign s.Semicolon) (λ ds t zs i. (λ j. let x = i.kind in let y = j.kind in cc, stops_kind 1 t zs (omega arith) i)) (λ ds. close_end)

module _ (b : BaseName) {ts : List Token} where
  pub list_fails : {r : List Token} → Refused (Commas (Initialised b)) ListEnds ts r → Refused (names_after b) Any ts r
  list_fails f = fails (start (names_after b) Any ts) f list_goes

  module _ {ds : List Declared} {r1 : List Token} (f : Found (Commas (Initialised b)) ListEnds ts ds r1) where
    pub end_fails : {r : List Token} → Refused (One (Sign s.Semicolon)) Any r1 r → Refused (names_after b) Any ts r
    end_fails g = fails (read (start (names_after b) Any ts) f list_goes) g (sure (λ u. close_end))

    pub names_read : {r : List Token} → Found (One (Sign s.Semicolon)) Any r1 tt r → Found (names_after b) Any ts ds r
    names_read g = ends (read (read (start (names_after b) Any ts) f list_goes) g (sure (λ u. close_end)))

  pub names_fail : {r : List Token} → Refused (names_after b) Any ts r → Refused (declare_after b) Any ts r
  names_fail f = fails (start (declare_after b) Any ts) f (sure (λ ds. close_end))

  pub declare_read : {ds : List Declared} {r : List Token} → Found (names_after b) Any ts ds r → Found (declare_after b) Any ts (stmt b.spot (st.Declare ds)) r
  declare_read f = ends (read (start (declare_after b) Any ts) f (sure (λ ds. close_end)))

-- ---- their first token

declr_word : {b : BaseName} {f : FieldDef} {x : List Token} (zs : List Token) → Declr b f x → NoWord (x ++ zs)
declr_word zs (declr no_star i k) = λ word j. let e = i.kind in let g = j.kind in cc
declr_word zs (declr (star i d) j k) = λ word l. let e = i.kind in let g = l.kind in cc

initialised_word : {b : BaseName} {d : Declared} {x : List Token} (zs : List Token) → Initialised b d x → NoWord (x ++ zs)
initialised_word zs (bare e) = declr_word zs e
initialised_word zs (set {t = t} {x = x} {y = y} e i v) = rw (append_assoc x (t ∷ y) zs) (declr_word ((t ∷ y) ++ zs) e)

commas_word : {b : BaseName} {ds : List Declared} {x : List Token} (zs : List Token) → Commas (Initialised b) ds x → NoWord (x ++ zs)
commas_word zs (last d) = initialised_word zs d
commas_word zs (more {t = t} {x = x} {y = y} d i q) = rw (append_assoc x (t ∷ y) zs) (initialised_word ((t ∷ y) ++ zs) d)

pub names_word : {b : BaseName} {ds : List Declared} {x : List Token} (zs : List Token) → names_after b ds x → NoWord (x ++ zs)
names_word zs (then {xs = x} {zs = y} l q) = rw (append_assoc x y zs) (commas_word (y ++ zs) l)

-- ---- to close with

pub some_names : (b : BaseName) → Closes (names_after b)
some_names b =
    let f = field (made (Name [])).spot [] b 0 [] in
    close_then (declared f None ∷ []) (made (Name []) ∷ []) (last (bare (declr no_star (is_made (Name [])) no_dim))) (close_one (Sign s.Semicolon) close_end)
