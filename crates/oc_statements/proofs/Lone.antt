-- The steps of the call that reads a statement without statements as parts.
use Rattle.std.proofs.Common.{◌≡◌, List, [], ◌∷◌, ◌++◌, Option, true, false, refl, sym, ap, append-nil, subst}
use Rattle.oc_source.specs.declared.parsed.Expr.{Expr}
use Rattle.oc_source.specs.declared.parsed.Stmt.{Stmt}
use Rattle.oc_source.specs.declared.parsed.StmtNode.TheVariants as st
use Rattle.oc_lexer.specs.declared.token.Token.{Token}
use Rattle.oc_lexer.specs.declared.token.TokenKind.{TokenKind}
use Rattle.oc_lexer.specs.declared.token.TokenKind.TheVariants.{Name, Number, Character, Text, Keyword, Sign}
use Rattle.oc_lexer.specs.declared.token.Keyword.TheVariants as w
use Rattle.oc_lexer.specs.declared.token.Sign.TheVariants as s
use Rattle.oc_grammar.specs.Tokens.{spot_at}
use Rattle.oc_source.specs.Parsed.{stmt}
use Rattle.oc_grammar.specs.Parsing.{SameNext, Found, Refused, Leaves, Any, End, ended, Then, then, By, first}
use Rattle.oc_grammar.specs.Calls.{One, one, placed}
use Rattle.oc_grammar.specs.Expressions.{Before}
use Rattle.oc_grammar.specs.Statements.{Perhaps}
use Rattle.oc_grammar.specs.Open.{ends_open}
use Rattle.oc_grammar.proofs.Parsing.{start, also, turned, read, fails, ends, same_token, by_end, by_left, sure, Closes, close_end, then_end}
use Rattle.oc_grammar.proofs.Calls.{made, is_made, placed_found, placed_refused}
use Rattle.oc_grammar.proofs.OpenEnds.{open-empty, open-express, open-return, open-break, open-continue}
use Rattle.oc_expressions.specs.Continuations.{begins}
use Rattle.oc_expressions.proofs.Levels.{Begun, begun_append}
use Rattle.oc_statements.specs.declared.leads.SimpleLead.{SimpleLead}
use Rattle.oc_statements.specs.declared.leads.SimpleLead.TheVariants as lead
use Rattle.oc_statements.specs.Continuations.{SimpleStatement, empty, express, returns, breaks, continues, simple_lead, expressed}
use Rattle.oc_statements.proofs.Headers.{before_begun}

-- what is left after the first token
abbrev after : Token → SimpleLead → Stmt → List Token → Type 0
after t lead.Empty = End (stmt t.spot st.Empty)
after t lead.Return = Then (Perhaps s.Semicolon) (λ v. End (stmt t.spot (st.Return v)))
after t lead.Break = Then (One (Sign s.Semicolon)) (λ _. End (stmt t.spot st.Break))
after t lead.Continue = Then (One (Sign s.Semicolon)) (λ _. End (stmt t.spot st.Continue))
after t lead.Express = λ v ys. expressed v (t ∷ ys)

begins_express : (k : TokenKind) → begins k ≡ true → simple_lead k ≡ lead.Express
begins_express (Name n) h = refl
begins_express (Number n) h = refl
begins_express (Character c) h = refl
begins_express (Text t) h = refl
begins_express (Sign s.Semicolon) h = cc
begins_express (Sign _) h = refl
begins_express (Keyword w.Return) h = cc
begins_express (Keyword w.Break) h = cc
begins_express (Keyword w.Continue) h = cc
begins_express (Keyword _) h = refl

expressed_out : {v : Expr} {x : List Token} → Before s.Semicolon v x → expressed (stmt (spot_at x) (st.Express v)) x
expressed_out {v} {x} d = then_end (λ p. stmt p.0 (st.Express p.1)) (spot_at x, v) x (placed d)

simple_out : (v : Stmt) (x : List Token) → SimpleStatement v x → By (λ t. after t (simple_lead t.kind)) v x
simple_out v _ (empty i) = first (rw i.kind ended)
simple_out v _ (returns {t = t} {v = e} {x = x} i d) = first (rw i.kind (then_end (λ v. stmt t.spot (st.Return v)) e x d))
simple_out v _ (breaks i j) = first (rw i.kind (then (one j) ended))
simple_out v _ (continues i j) = first (rw i.kind (then (one j) ended))
simple_out v x (express d) = go x (before_begun d) (expressed_out d)
  where
    go : (x : List Token) → Begun x → expressed v x → By (λ t. after t (simple_lead t.kind)) v x
    go [] b q = absurd b
    go (t ∷ x) b q = first (rw (begins_express t.kind b) q)

data LeadView : TokenKind → SimpleLead → Type 0 where
  is_empty : LeadView (Sign s.Semicolon) lead.Empty
  is_return : LeadView (Keyword w.Return) lead.Return
  is_break : LeadView (Keyword w.Break) lead.Break
  is_continue : LeadView (Keyword w.Continue) lead.Continue
  is_express : {k : TokenKind} → LeadView k lead.Express

lead_view : (k : TokenKind) → LeadView k (simple_lead k)
lead_view (Sign s.Semicolon) = is_empty
lead_view (Keyword w.Return) = is_return
lead_view (Keyword w.Break) = is_break
lead_view (Keyword w.Continue) = is_continue
lead_view _ = is_express

expressed_in : {v : Stmt} {x : List Token} → expressed v x → SimpleStatement v x
expressed_in (then (placed d) ended) = rw append-nil (express d)

after_in : {t : Token} {k : TokenKind} {l : SimpleLead} → LeadView k l → t.kind ≡ k → (v : Stmt) (ys : List Token) → after t l v ys → SimpleStatement v (t ∷ ys)
after_in is_empty e v _ ended = empty (record { kind = e })
after_in is_return e v _ (then d ended) = rw append-nil (returns (record { kind = e }) d)
after_in is_break e v _ (then (one i) ended) = breaks (record { kind = e }) i
after_in is_continue e v _ (then (one i) ended) = continues (record { kind = e }) i
after_in is_express e v ys q = expressed_in q

simple_in : (v : Stmt) (x : List Token) → By (λ t. after t (simple_lead t.kind)) v x → SimpleStatement v x
simple_in v _ (first {t} {ys = ys} q) = after_in (lead_view t.kind) refl v ys q

pub some_simple : Closes SimpleStatement
some_simple = let t = made (Sign s.Semicolon) in (stmt t.spot st.Empty, t ∷ [], empty (is_made (Sign s.Semicolon)))

by_simple : Closes (By (λ t. after t (simple_lead t.kind)))
by_simple = let (v, x, d) = some_simple in (v, x, simple_out v x d)

simple_opened : (ts : List Token) → Leaves SimpleStatement Any ts (By (λ t. after t (simple_lead t.kind))) ts
simple_opened ts = turned (start SimpleStatement Any ts) simple_in simple_out

-- with an expression
pub simple_begun : {v : Stmt} {t : Token} {ys : List Token} → SimpleStatement v (t ∷ ys) → simple_lead t.kind ≡ lead.Express → begins t.kind ≡ true
simple_begun {v} {t} {ys} d e = go (t ∷ ys) (simple_out v (t ∷ ys) d) refl
  where
    in_express : {v : Stmt} {x : List Token} → expressed v x → Begun x
    in_express (then {xs = x} {zs = y} (placed d) q) = begun_append x y (before_begun d)

    go : (x : List Token) → By (λ t. after t (simple_lead t.kind)) v x → t ∷ ys ≡ x → begins t.kind ≡ true
    go _ (first {t = u} {ys = zs} q) h =
        let f : t ≡ u = cc in
        let c : simple_lead u.kind ≡ lead.Express = rw (← f) e in
        let b : begins u.kind ≡ true = in_express (rw c at q) in
        rw f b

-- none takes an `else`
pub simple_shut : {v : Stmt} {x : List Token} → SimpleStatement v x → ends_open v ≡ false
simple_shut (empty {t} i) = open-empty t.spot
simple_shut (express {v} {x} d) = open-express (spot_at x) v
simple_shut (returns {t} {v} i d) = open-return t.spot v
simple_shut (breaks {t} i j) = open-break t.spot
simple_shut (continues {t} i j) = open-continue t.spot

module _ {ts : List Token} where
  pub simple_end : ts ≡ [] → Refused SimpleStatement Any ts ts
  simple_end is = by_end (simple_opened ts) by_simple is

  module _ {t : Token} {rest : List Token} (is : ts ≡ t ∷ rest) where
    left : {l : SimpleLead} → simple_lead t.kind ≡ l → Leaves SimpleStatement Any ts (after t l) rest
    left e = by_left (simple_opened ts) is (λ v ys q. subst (λ l. after t l v ys) (sym e) q) (λ v ys q. subst (λ l. after t l v ys) e q)

    pub empty_read : simple_lead t.kind ≡ lead.Empty → Found SimpleStatement Any ts (stmt t.spot st.Empty) rest
    empty_read e = ends (left e)

    module _ (e : simple_lead t.kind ≡ lead.Return) where
      pub return_fails : {r : List Token} → Refused (Perhaps s.Semicolon) Any rest r → Refused SimpleStatement Any ts r
      return_fails f = fails (left e) f (sure (λ v. close_end))

      pub return_read : {v : Option Expr} {r : List Token} → Found (Perhaps s.Semicolon) Any rest v r → Found SimpleStatement Any ts (stmt t.spot (st.Return v)) r
      return_read f = ends (read (left e) f (sure (λ v. close_end)))

    module _ (e : simple_lead t.kind ≡ lead.Break) where
      pub break_fails : {r : List Token} → Refused (One (Sign s.Semicolon)) Any rest r → Refused SimpleStatement Any ts r
      break_fails f = fails (left e) f (sure (λ u. close_end))

      pub break_read : {r : List Token} → Found (One (Sign s.Semicolon)) Any rest tt r → Found SimpleStatement Any ts (stmt t.spot st.Break) r
      break_read f = ends (read (left e) f (sure (λ u. close_end)))

    module _ (e : simple_lead t.kind ≡ lead.Continue) where
      pub continue_fails : {r : List Token} → Refused (One (Sign s.Semicolon)) Any rest r → Refused SimpleStatement Any ts r
      continue_fails f = fails (left e) f (sure (λ u. close_end))

      pub continue_read : {r : List Token} → Found (One (Sign s.Semicolon)) Any rest tt r → Found SimpleStatement Any ts (stmt t.spot st.Continue) r
      continue_read f = ends (read (left e) f (sure (λ u. close_end)))

    module _ (e : simple_lead t.kind ≡ lead.Express) where
      express_left : Leaves SimpleStatement Any ts expressed ts
      express_left = also (simple_opened ts) (λ v ys q. simple_out v ys (expressed_in q)) (λ v us ys zs a d k g. go v us ys zs a d g)
        where
          go : (v : Stmt) (us ys zs : List Token) → SameNext ts us → By (λ t. after t (simple_lead t.kind)) v ys → us ≡ ys ++ zs → expressed v ys
          go v us _ zs a (first {t = u} {ys = ys} q) g =
              let h : u ≡ t = same_token t u ts rest (ys ++ zs) is (subst (λ us. SameNext ts us) g a) in
              let c : simple_lead u.kind ≡ lead.Express = rw h e in
              subst (λ l. after u l v ys) c q

      pub express_fails : {r : List Token} → Refused (Before s.Semicolon) Any ts r → Refused SimpleStatement Any ts r
      express_fails f = fails express_left (placed_refused f) (sure (λ p. close_end))

      pub express_read : {v : Expr} {r : List Token} → Found (Before s.Semicolon) Any ts v r → Found SimpleStatement Any ts (stmt t.spot (st.Express v)) r
      express_read {v} f = let h : spot_at ts ≡ t.spot = ap spot_at is in rw (← h) (ends (read express_left (placed_found (λ v d. before_begun d) f) (sure (λ p. close_end))))
