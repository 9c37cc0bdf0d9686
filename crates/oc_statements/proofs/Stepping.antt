-- The steps of the call that reads a declaration or a statement.
use Rattle.std.proofs.Common.{◌≡◌, List, [], ◌∷◌, ◌++◌, true, ◌⊎◌, inl, inr, refl, sym, ◌∙◌, ap, append_assoc, subst}
use Rattle.oc_source.specs.declared.parsed.BaseName.{BaseName}
use Rattle.oc_source.specs.declared.parsed.Declared.{Declared}
use Rattle.oc_source.specs.declared.parsed.Stmt.{Stmt}
use Rattle.oc_source.specs.declared.parsed.StmtNode.TheVariants as st
use Rattle.oc_lexer.specs.declared.token.Token.{Token}
use Rattle.oc_lexer.specs.declared.token.TokenKind.{TokenKind}
use Rattle.oc_lexer.specs.declared.token.TokenKind.TheVariants.{Keyword}
use Rattle.oc_lexer.specs.declared.token.Keyword.TheVariants as w
use Rattle.oc_grammar.specs.declared.tables.Opening.TheVariants as o
use Rattle.oc_grammar.specs.Tokens.{Is, Starts, NotNext, spot_at}
use Rattle.oc_grammar.specs.Tables.{opening}
use Rattle.oc_source.specs.Parsed.{stmt}
use Rattle.oc_grammar.specs.Parsing.{SameNext, Found, Refused, Leaves, Then, then, By, first}
use Rattle.oc_grammar.specs.Calls.{One, one}
use Rattle.oc_grammar.specs.WrittenTypes.{Base}
use Rattle.oc_grammar.specs.Statements.{Declaration, Condition, Statement, Block, Closed, braces, no_step}
use Rattle.oc_grammar.specs.Statements as g
use Rattle.oc_grammar.proofs.Parsing.{start, also, read, fails, taken, Goes}
use Rattle.oc_grammar.proofs.Calls.{not_next}
use Rattle.oc_declarators.specs.Continuations.{BeforeNoWord, base_after, after_obliv}
use Rattle.oc_declarators.proofs.Marks.{base_in, base_out}
use Rattle.oc_expressions.specs.Continuations.{begins, BeginsType}
use Rattle.oc_expressions.proofs.Levels.{Begun, begun_append, begins_other}
use Rattle.oc_statements.specs.Continuations.{lead_at, declare_after, if_after, Step, declares, states, stmt_after, OblivAfter, by_if, by_base}
use Rattle.oc_statements.proofs.Headers.{before_begun, declaration_first, not_type, typed_out, typed_in, base_goes}
use Rattle.oc_statements.proofs.Grammar.{obliv_in, statement_out}

abbrev declared_at : BaseName → List Declared → Stmt
declared_at b ds = stmt b.spot (st.Declare ds)

other : {k : TokenKind} {a t : Token} {x ys : List Token} → opening k ≡ o.Other → Is k a → a ∷ x ≡ t ∷ ys → opening t.kind ≡ o.Other
other {k} {a} {t} h i e = let f : t ≡ a = cc in let j : t.kind ≡ k = rw f i.kind in rw j h

begun_at : {t : Token} {ys : List Token} (x : List Token) → Begun x → x ≡ t ∷ ys → begins t.kind ≡ true
begun_at [] b e = absurd b
begun_at {t} (a ∷ x) b e = let f : t ≡ a = cc in rw f b

-- only `obliv` begins both a type and a statement
statement_first : {v : Stmt} {x : List Token} → Statement v x → (t : Token) (ys zs : List Token) → x ++ zs ≡ t ∷ ys → (opening t.kind ≡ o.Other) ⊎ Is (Keyword w.Obliv) t
statement_first (g.empty i) t ys zs e = inl (other refl i e)
statement_first (g.express {x = x} d) t ys zs e = inl (begins_other t.kind (begun_at (x ++ zs) (begun_append x zs (before_begun d)) e))
statement_first (g.block (braces i d j)) t ys zs e = inl (other refl i e)
statement_first (g.returns i d) t ys zs e = inl (other refl i e)
statement_first (g.breaks i j) t ys zs e = inl (other refl i e)
statement_first (g.continues i j) t ys zs e = inl (other refl i e)
statement_first (g.if i d b) t ys zs e = inl (other refl i e)
statement_first (g.obliv_if {o = u} i j d b) t ys zs e = inr (let h : t ≡ u = cc in rw h i)
statement_first (g.always i j k l m d) t ys zs e = inl (other refl i e)
statement_first (g.while i d b) t ys zs e = inl (other refl i e)
statement_first (g.for i j a b c d) t ys zs e = inl (other refl i e)

declares_in : {b : BaseName} {v : Stmt} {x y : List Token} → Base b x → declare_after b v y → Step v (x ++ y)
declares_in {v = v} d q = let (b, ds, e, h) = typed_in declared_at (then d q) in declares_of e h
  where
    declares_of : {b : BaseName} {ds : List Declared} {x : List Token} → v ≡ declared_at b ds → Declaration b ds x → Step v x
    declares_of e h = rw e (declares h)

declare_goes : Goes BeforeNoWord Closed declare_after
declare_goes = base_goes declared_at

-- ---- a step that begins with `obliv`

module _ {ts r1 : List Token} (here : Starts (Keyword w.Obliv) ts r1) where
  obliv_spot : here.token.spot ≡ spot_at ts
  obliv_spot = let h = here.whole in rw h refl

  moved : {u : Token} (v : Stmt) (x : List Token) → u ≡ here.token → OblivAfter u.spot v x → OblivAfter (spot_at ts) v x
  moved {u} v x h q = subst (λ spot. OblivAfter spot v x) (ap (λ (t : Token). t.spot) h ∙ obliv_spot) q

  obliv_step : (v : Stmt) (ys : List Token) → OblivAfter here.token.spot v ys → Step v (here.token ∷ ys)
  obliv_step v _ (by_if {ys = ys} i q) = states (obliv_in here.is i v ys q)
  obliv_step v _ (by_base (then {w = b} {xs = x} d q)) = declares_in (base_in b (here.token ∷ x) (first (let i = here.is in rw (ap opening i.kind) d))) q

  module _ (v : Stmt) (us zs : List Token) where
    of_base : {b : BaseName} {x y : List Token} → By (λ t. base_after t.spot (opening t.kind)) b x → declare_after b v y → here.token ∷ us ≡ (x ++ y) ++ zs → (xs : List Token) × OblivAfter (spot_at ts) v xs × (us ≡ xs ++ zs)
    of_base {b} {y = y} (first {t = u} {ys = x} p) q e =
        let h : u ≡ here.token = cc in
        let i : u.kind ≡ Keyword w.Obliv = (let j = here.is in rw h j.kind) in
        let d : By (λ t. after_obliv u.spot (opening t.kind)) b x = subst (λ op. base_after u.spot op b x) (ap opening i) p in
        (x ++ y, moved v (x ++ y) h (by_base (then d q)), cc)

    of_typed : {x : List Token} → Then Base declare_after v x → here.token ∷ us ≡ x ++ zs → (xs : List Token) × OblivAfter (spot_at ts) v xs × (us ≡ xs ++ zs)
    of_typed (then {w = b} {xs = x} d q) e = of_base (base_out b x d) q e

    of_if : {u : Token} (x : List Token) → Then (One (Keyword w.If)) (λ _. if_after u.spot true) v x → u ≡ here.token → us ≡ x ++ zs → (xs : List Token) × OblivAfter (spot_at ts) v xs × (us ≡ xs ++ zs)
    of_if _ (then {zs = y} (one {t = t} i) q) h e = (t ∷ y, moved v (t ∷ y) h (by_if i q), e)

    of_statement : {x : List Token} → By (λ t. stmt_after t (lead_at t.kind)) v x → here.token ∷ us ≡ x ++ zs → (xs : List Token) × OblivAfter (spot_at ts) v xs × (us ≡ xs ++ zs)
    of_statement (first {t = u} {ys = x} q) e =
        let h : u ≡ here.token = cc in
        let i : u.kind ≡ Keyword w.Obliv = (let j = here.is in rw h j.kind) in
        of_if x (subst (λ l. stmt_after u l v x) (ap lead_at i) q) h (cc)

  of_step : (v : Stmt) (us ys zs : List Token) → Step v ys → here.token ∷ us ≡ ys ++ zs → (xs : List Token) × OblivAfter (spot_at ts) v xs × (us ≡ xs ++ zs)
  of_step v us ys zs (declares d) e = of_typed v us zs (typed_out declared_at d) e
  of_step v us ys zs (states d) e = of_statement v us zs (statement_out v ys d) e

  step_obliv : Leaves Step Closed ts (OblivAfter (spot_at ts)) r1
  step_obliv = taken (start Step Closed ts) here.whole (λ v ys q. obliv_step v ys (subst (λ spot. OblivAfter spot v ys) (sym obliv_spot) q)) of_step

  pub step_if : {r2 : List Token} → Starts (Keyword w.If) r1 r2 → Leaves Step Closed ts (if_after (spot_at ts) true) r2
  step_if word = taken step_obliv word.whole (λ v ys q. by_if word.is q) out
    where
      no_words : {b : BaseName} (x : List Token) → after_obliv (spot_at ts) o.Other b x → ⊥
      no_words _ (then d q) = d

      no_base : {b : BaseName} {x : List Token} (us : List Token) → By (λ t. after_obliv (spot_at ts) (opening t.kind)) b x → (y : List Token) → word.token ∷ us ≡ x ++ y → ⊥
      no_base {b} us (first {t = u} {ys = x} p) y e =
          let h : u ≡ word.token = cc in
          let i : u.kind ≡ Keyword w.If = (let j = word.is in rw h j.kind) in
          no_words x (subst (λ op. after_obliv (spot_at ts) op b x) (ap opening i) p)

      out : (v : Stmt) (us ys zs : List Token) → OblivAfter (spot_at ts) v ys → word.token ∷ us ≡ ys ++ zs → (xs : List Token) × if_after (spot_at ts) true v xs × (us ≡ xs ++ zs)
      out v us _ zs (by_if {ys = ys} i q) e = (ys, q, cc)
      out v us _ zs (by_base (then {xs = x} {zs = y} d q)) e = absurd (no_base us d (y ++ zs) (e ∙ append_assoc x y zs))

  module _ (n : NotNext (Keyword w.If) r1) where
    words_left : Leaves Step Closed ts (Then (By (λ t. after_obliv (spot_at ts) (opening t.kind))) declare_after) r1
    words_left = also step_obliv (λ v ys q. by_base q) (λ v us ys zs a q k e. out v us ys zs a q e)
      where
        out : (v : Stmt) (us ys zs : List Token) → SameNext r1 us → OblivAfter (spot_at ts) v ys → us ≡ ys ++ zs → Then (By (λ t. after_obliv (spot_at ts) (opening t.kind))) declare_after v ys
        out v us _ zs a (by_if {u = u} {ys = ys} i q) e = absurd (not_next (Keyword w.If) u r1 (ys ++ zs) n (subst (λ us. SameNext r1 us) e a) i)
        out v us _ zs a (by_base q) e = q

    pub words_fail : {r : List Token} → Refused (By (λ t. after_obliv (spot_at ts) (opening t.kind))) BeforeNoWord r1 r → Refused Step Closed ts r
    words_fail f = fails words_left f declare_goes

    pub words_read : {b : BaseName} {r : List Token} → Found (By (λ t. after_obliv (spot_at ts) (opening t.kind))) BeforeNoWord r1 b r → Leaves Step Closed ts (declare_after b) r
    words_read f = read words_left f declare_goes

-- ---- another step

module _ {ts : List Token} where
  module _ (n : NotNext (Keyword w.Obliv) ts) (h : BeginsType ts) where
    base_left : Leaves Step Closed ts (Then Base declare_after) ts
    base_left = also (start Step Closed ts) into (λ v us ys zs a d k e. out v us ys zs a d e)
      where
        into : (v : Stmt) (ys : List Token) → Then Base declare_after v ys → Step v ys
        into v _ (then d q) = declares_in d q

        no_statement : (ts us ys zs : List Token) (v : Stmt) → NotNext (Keyword w.Obliv) ts → BeginsType ts → SameNext ts us → Statement v ys → us ≡ ys ++ zs → ⊥
        no_statement [] us ys zs v n h a d e = h
        no_statement (t ∷ ts) us ys zs v n h (m, f) d e = apart (statement_first d t m zs (sym e ∙ f))
          where
            apart : (opening t.kind ≡ o.Other) ⊎ Is (Keyword w.Obliv) t → ⊥
            apart (inl g) = h g
            apart (inr g) = n g

        out : (v : Stmt) (us ys zs : List Token) → SameNext ts us → Step v ys → us ≡ ys ++ zs → Then Base declare_after v ys
        out v us ys zs a (declares d) e = typed_out declared_at d
        out v us ys zs a (states d) e = absurd (no_statement ts us ys zs v n h a d e)

    pub base_fails : {r : List Token} → Refused Base BeforeNoWord ts r → Refused Step Closed ts r
    base_fails f = fails base_left f declare_goes

    pub base_read : {b : BaseName} {r : List Token} → Found Base BeforeNoWord ts b r → Leaves Step Closed ts (declare_after b) r
    base_read f = read base_left f declare_goes

  pub statement_left : (BeginsType ts → ⊥) → Leaves Step Closed ts Statement ts
  statement_left n = also (start Step Closed ts) (λ v ys q. states q) (λ v us ys zs a d k e. out v us ys zs a d e)
    where
      out : (v : Stmt) (us ys zs : List Token) → SameNext ts us → Step v ys → us ≡ ys ++ zs → Statement v ys
      out v us ys zs a (declares d) e = absurd (not_type ts us n a (rw e (declaration_first zs d)))
      out v us ys zs a (states d) e = d
