-- The steps of the call that reads a statement.
use Rattle.std.proofs.Common.{◌≡◌, List, [], ◌∷◌, ◌++◌, true, refl, sym, append-nil, subst}
use Rattle.oc_source.specs.declared.parsed.Stmt.{Stmt}
use Rattle.oc_source.specs.declared.parsed.StmtNode.TheVariants as st
use Rattle.oc_lexer.specs.declared.token.Token.{Token}
use Rattle.oc_lexer.specs.declared.token.TokenKind.TheVariants.{Keyword, Sign}
use Rattle.oc_lexer.specs.declared.token.Keyword.TheVariants as w
use Rattle.oc_lexer.specs.declared.token.Sign.TheVariants as s
use Rattle.oc_grammar.specs.Tokens.{Is, Starts, NotNext}
use Rattle.oc_source.specs.Parsed.{stmt}
use Rattle.oc_grammar.specs.Parsing.{SameNext, Found, Refused, Leaves, Any, By, first}
use Rattle.oc_grammar.specs.Calls.{One}
use Rattle.oc_grammar.specs.Statements.{Statement, Closed}
use Rattle.oc_grammar.proofs.Parsing.{start, also, turned, read, fails, ends, through, through_fails, same_token, taken, by_end, by_left, stricter, stricter_fails, sure, Closes, close_end}
use Rattle.oc_grammar.proofs.Calls.{not_next}
use Rattle.oc_statements.specs.declared.leads.Lead.{Lead}
use Rattle.oc_statements.specs.declared.leads.Lead.TheVariants as lead
use Rattle.oc_statements.specs.Continuations.{SimpleStatement, lead_at, if_after, always_after, Run, TildeAfter, by_always, by_simple, stmt_after}
use Rattle.oc_statements.proofs.Headers.{begun_clash}
use Rattle.oc_statements.proofs.Tildes.{tilde_second, some_tilde}
use Rattle.oc_statements.proofs.Grammar.{simple_in, statement_out, statement_in, tilde_kind}
use Rattle.oc_statements.proofs.Branching.{some_statement, some_if}

some_by : Closes (By (λ t. stmt_after t (lead_at t.kind)))
some_by = let (v, x, d) = some_statement in (v, x, statement_out v x d)

same_append : (x y z : List Token) → SameNext y z → SameNext (x ++ y) (x ++ z)
same_append [] y z a = a
same_append (t ∷ x) y z a = (x ++ z, refl)

module _ {ts : List Token} where
  statement_opened : Leaves Statement Closed ts (By (λ t. stmt_after t (lead_at t.kind))) ts
  statement_opened = turned (start Statement Closed ts) statement_in statement_out

  pub statement_end : ts ≡ [] → Refused Statement Closed ts ts
  statement_end is = by_end statement_opened some_by is

  module _ {t : Token} {rest : List Token} (is : ts ≡ t ∷ rest) where
    pub lead_left : {l : Lead} → lead_at t.kind ≡ l → Leaves Statement Closed ts (stmt_after t l) rest
    lead_left e = by_left statement_opened is (λ v ys q. subst (λ l. stmt_after t l v ys) (sym e) q) (λ v ys q. subst (λ l. stmt_after t l v ys) e q)

    module _ (e : lead_at t.kind ≡ lead.Block) where
      pub block_fails : {r : List Token} → Refused (Run []) Any rest r → Refused Statement Closed ts r
      block_fails f = fails (lead_left e) f (sure (λ vs. close_end))

      pub block_found : {vs : List Stmt} {r : List Token} → Found (Run []) Any rest vs r → Found Statement Closed ts (stmt t.spot (st.Block vs)) r
      block_found f = ends (read (lead_left e) f (sure (λ vs. close_end)))

    module _ (e : lead_at t.kind ≡ lead.Obliv) where
      pub word_fails : {r : List Token} → Refused (One (Keyword w.If)) Any rest r → Refused Statement Closed ts r
      word_fails f = fails (lead_left e) f (sure (λ u. some_if t.spot true))

      pub obliv_left : {r : List Token} → Found (One (Keyword w.If)) Any rest tt r → Leaves Statement Closed ts (if_after t.spot true) r
      obliv_left f = read (lead_left e) f (sure (λ u. some_if t.spot true))

    module _ (e : lead_at t.kind ≡ lead.Simple) where
      simple_left : Leaves Statement Closed ts SimpleStatement ts
      simple_left = also statement_opened (λ v ys q. statement_out v ys (simple_in q)) (λ v us ys zs a d k h. go v us ys zs a d h)
        where
          go : (v : Stmt) (us ys zs : List Token) → SameNext ts us → By (λ t. stmt_after t (lead_at t.kind)) v ys → us ≡ ys ++ zs → SimpleStatement v ys
          go v us _ zs a (first {t = u} {ys = ys} q) h =
              let f : u ≡ t = same_token t u ts rest (ys ++ zs) is (subst (λ us. SameNext ts us) h a) in
              let c : lead_at u.kind ≡ lead.Simple = rw f e in
              subst (λ l. stmt_after u l v ys) c q

      pub simple_fails : {r : List Token} → Refused SimpleStatement Any ts r → Refused Statement Closed ts r
      simple_fails f = through_fails simple_left (stricter_fails (λ v zs k. tt) f)

      pub simple_found : {v : Stmt} {r : List Token} → Found SimpleStatement Any ts v r → Found Statement Closed ts v r
      simple_found f = through simple_left (stricter (λ v zs k. tt) f)

    module _ (e : lead_at t.kind ≡ lead.Tilde) where
      tilde : Is (Sign s.Tilde) t
      tilde = record { kind = tilde_kind t.kind e }

      pub always_left : {r : List Token} → Starts (Keyword w.Obliv) rest r → Leaves Statement Closed ts (always_after t.spot) r
      always_left here = taken (lead_left e) here.whole (λ v ys q. by_always here.is q) out
        where
          out : (v : Stmt) (us ys zs : List Token) → TildeAfter t v ys → here.token ∷ us ≡ ys ++ zs → (xs : List Token) × always_after t.spot v xs × (us ≡ xs ++ zs)
          out v us _ zs (by_always {ys = ys} i q) h = (ys, q, cc)
          out v us ys zs (by_simple q) h = absurd (begun_clash here.token us ys zs refl here.is (tilde_second tilde q) h)

      module _ (n : NotNext (Keyword w.Obliv) rest) where
        -- `obliv` does not come second, once the sign is read
        second : (x r us ys zs : List Token) (u : Token) → (x ≡ [] → ⊥) → ts ≡ x ++ r → SameNext r us → Is (Keyword w.Obliv) u → x ++ us ≡ (t ∷ (u ∷ ys)) ++ zs → ⊥
        second [] r us ys zs u m h a i k = m refl
        second (b ∷ x) r us ys zs u m h a i k =
            let f : rest ≡ x ++ r = cc in
            let j : x ++ us ≡ u ∷ (ys ++ zs) = cc in
            not_next (Keyword w.Obliv) u rest (ys ++ zs) n (rw (f, ← j) (same_append x r us a)) i

        plain : (x r us ys zs : List Token) (v : Stmt) → (x ≡ [] → ⊥) → ts ≡ x ++ r → SameNext r us → Statement v ys → x ++ us ≡ ys ++ zs → SimpleStatement v ys
        plain x r us ys zs v m h a d k = go ys (statement_out v ys d) k
          where
            first_same : (x : List Token) (u : Token) (ys : List Token) → (x ≡ [] → ⊥) → ts ≡ x ++ r → x ++ us ≡ u ∷ ys → u ≡ t
            first_same [] u ys m h k = absurd (m refl)
            first_same (b ∷ x) u ys m h k = cc

            tilde_only : (ys : List Token) → TildeAfter t v ys → x ++ us ≡ (t ∷ ys) ++ zs → SimpleStatement v (t ∷ ys)
            tilde_only _ (by_always {u = u} {ys = ys} i q) k = absurd (second x r us ys zs u m h a i k)
            tilde_only ys (by_simple q) k = q

            go : (ys : List Token) → By (λ t. stmt_after t (lead_at t.kind)) v ys → x ++ us ≡ ys ++ zs → SimpleStatement v ys
            go _ (first {t = u} {ys = ys} q) k =
                let f : t ≡ u = sym (first_same x u (ys ++ zs) m h k) in
                let c : TildeAfter t v ys = subst (λ l. stmt_after t l v ys) e (subst (λ u. stmt_after u (lead_at u.kind) v ys) (sym f) q) in
                subst (λ u. SimpleStatement v (u ∷ ys)) f (tilde_only ys c (rw f k))

        pub tilde_fails : {r : List Token} → Refused SimpleStatement Any ts r → Refused Statement Closed ts r
        tilde_fails {r} f = record {
          front = f.front;
          whole = f.whole;
          closes = let (v, close, d) = f.closes in (v, close, simple_in d);
          none = λ us xs zs v a d k h. f.none us xs zs v a (plain f.front r us xs zs v filled f.whole a d h) tt h;
        }
          where
            filled : f.front ≡ [] → ⊥
            filled h =
                let (v, x, d) = some_tilde tilde in
                let a : SameNext ts (t ∷ x) = subst (λ ts. SameNext ts (t ∷ x)) (sym is) (x, refl) in
                let b : ts ≡ r = (let w = f.whole in rw h at w) in
                f.none (t ∷ x) (t ∷ x) [] v (subst (λ r. SameNext r (t ∷ x)) b a) d tt (rw (h, append-nil) refl)

        pub tilde_found : {v : Stmt} {r : List Token} → Found SimpleStatement Any ts v r → Found Statement Closed ts v r
        tilde_found {v} {r} f = record {
          front = f.front;
          whole = f.whole;
          derives = simple_in f.derives;
          only = λ us xs zs w a d k h. f.only us xs zs w a (plain f.front r us xs zs w (simple_filled f.derives) f.whole a d h) tt h;
        }
          where
            simple_filled : {x : List Token} → SimpleStatement v x → x ≡ [] → ⊥
            simple_filled {x} d h = go (statement_out v x (simple_in d)) h
              where
                go : {x : List Token} → By (λ t. stmt_after t (lead_at t.kind)) v x → x ≡ [] → ⊥
                go (first q) h = cc
