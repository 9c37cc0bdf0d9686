-- The exits of a call that reads a form.
use Rattle.std.proofs.Common.{◌≡◌, ℕ, ◌≤◌, Option, Some, List, [], ◌∷◌, ◌++◌, Result, Ok, Err, Bor, length, length-append, arith, ap, refl, sym, ◌∙◌, subst}
use Rattle.std.specs.Result.{IsErrAnd}
use Rattle.std.proofs.lemmas.Result.{err_from_is_err_and}
use Rattle.oc_grammar.specs.Tokens.{Is, Starts, NotNext, NoSign, spot_at}
use Rattle.oc_grammar.specs.Parsing.{SameNext, Found, Refused, Any, Then}
use Rattle.oc_grammar.specs.Calls.{Reads, Fails, One, one, ANamed, a_named, Placed, placed}
use Rattle.oc_grammar.proofs.Parsing.{same_token, no_token, Goes, Closes, close_then, after_then}
use Rattle.oc_source.specs.declared.spot.Spot.{Spot}
use Rattle.oc_lexer.specs.declared.token.Token.{Token}
use Rattle.oc_lexer.specs.declared.token.Sign.{Sign as SignType}
use Rattle.oc_lexer.specs.declared.token.TokenKind.{TokenKind}
use Rattle.oc_lexer.specs.declared.token.TokenKind.TheVariants.{Name, Sign}
use Rattle.oc_grammar.specs.declared.taking.Named.{Named}
use Rattle.oc_grammar.specs.declared.ParseError.{ParseError}
use Rattle.oc_grammar.specs.declared.ParseError.TheVariants.{Unexpected, NoMemory}

pub failing : {A B : Type 0} (F stopF : B → List Token → Type 0) (form stop : A → List Token → Type 0) (ts ts' : List Token) (e : ParseError) →
    Fails F stopF ts' e → ((rest : List Token) → Refused F stopF ts' rest → Refused form stop ts rest) → Fails form stop ts e
failing F stopF form stop ts ts' (Unexpected rest) f k = k rest.now f
failing F stopF form stop ts ts' NoMemory f k = tt

-- the exit of a `?`
pub error_on : {A B : Type 0} (F stopF : B → List Token → Type 0) (form stop : A → List Token → Type 0) (ts ts' : List Token) (e : ParseError) (r : Result (A × Bor (List Token)) ParseError) →
    IsErrAnd r (λ y. y ≡ e) → Fails F stopF ts' e → ((rest : List Token) → Refused F stopF ts' rest → Refused form stop ts rest) → Reads form stop ts r
error_on F stopF form stop ts ts' e r h f k =
    let p = err_from_is_err_and r h in
    rw (p.1, p.2) (failing F stopF form stop ts ts' e f k)

-- a call's result, returned as it is
pub mapped : {A : Type 0} (F stopF form stop : A → List Token → Type 0) (ts ts' : List Token) (r : Result (A × Bor (List Token)) ParseError) →
    Reads F stopF ts' r → ((v : A) (rest : List Token) → Found F stopF ts' v rest → Found form stop ts v rest) → ((rest : List Token) → Refused F stopF ts' rest → Refused form stop ts rest) → Reads form stop ts r
mapped F stopF form stop ts ts' (Ok p) f k k' = k p.0 p.1.now f
mapped F stopF form stop ts ts' (Err e) f k k' = failing F stopF form stop ts ts' e f k'

-- ---- single tokens

pub not_next : (k : TokenKind) (t : Token) (rest us : List Token) → NotNext k rest → SameNext rest (t ∷ us) → Is k t → ⊥
not_next k t [] us n a i = no_token t [] us refl a
not_next k t (u ∷ rest) us n a i = n (subst (λ t. Is k t) (same_token u t (u ∷ rest) rest us refl a) i)

pub is_found : {k : TokenKind} (ts rest : List Token) → Starts k ts rest → Found (One k) Any ts tt rest
is_found {k} ts rest s = record {
  front = s.token ∷ [];
  whole = s.whole;
  derives = one s.is;
  only = λ us xs zs w a f q e. go us xs zs w f e;
}
  where
    go : (us xs zs : List Token) (w : Unit {0}) → One k w xs → s.token ∷ us ≡ xs ++ zs → (w ≡ tt) × (zs ≡ us)
    go us _ zs _ (one i) e = (refl, cc)

-- a token of a kind
pub made : TokenKind → Token
made k = record { kind = k; from = 0; to = 0; spot = record { line = 1; column = 1 } }

pub is_made : (k : TokenKind) → Is k (made k)
unfolding made
is_made k = record { kind = refl }

pub is_refused : {k : TokenKind} (ts : List Token) → NotNext k ts → Refused (One k) Any ts ts
is_refused {k} ts n = record {
  front = [];
  whole = refl;
  closes = (tt, made k ∷ [], one (is_made k));
  none = λ us xs zs w a f s e. go us xs zs w a f e;
}
  where
    go : (us xs zs : List Token) (w : Unit {0}) → SameNext ts us → One k w xs → us ≡ xs ++ zs → ⊥
    go us _ zs _ a (one {t} i) e = not_next k t ts zs n (subst (λ us. SameNext ts us) e a) i

pub found_length : {A : Type 0} {F stopF : A → List Token → Type 0} {ts rest : List Token} {v : A} → Found F stopF ts v rest → length rest ≤ length ts
found_length {rest = rest} f = omega (arith, ap length f.whole, length-append f.front rest)

-- a name comes next
pub name_found : {n : List ℕ} {t : Token} (ts rest : List Token) → ts ≡ t ∷ rest → t.kind ≡ Name n → Found ANamed Any ts (record { spot = t.spot; name = n }) rest
name_found {n} {t} ts rest is k = record {
  front = t ∷ [];
  whole = is;
  derives = a_named (record { kind = k });
  only = λ us xs zs w a f q e. go us xs zs w f e;
}
  where
    go : (us xs zs : List Token) (w : Named) → ANamed w xs → t ∷ us ≡ xs ++ zs → (w ≡ record { spot = t.spot; name = n }) × (zs ≡ us)
    go us _ zs _ (a_named {n = m} {t = u} i) e = let h : u ≡ t = cc in let g : m ≡ n = (let j = i.kind in cc) in (rw (h, g) refl, cc)

-- none comes next
pub name_refused : (ts : List Token) → ((n : List ℕ) → NotNext (Name n) ts) → Refused ANamed Any ts ts
name_refused ts out = record {
  front = [];
  whole = refl;
  closes = (record { spot = (made (Name [])).spot; name = [] }, made (Name []) ∷ [], a_named (is_made (Name [])));
  none = λ us xs zs w a f s e. go us xs zs w a f e;
}
  where
    go : (us xs zs : List Token) (w : Named) → SameNext ts us → ANamed w xs → us ≡ xs ++ zs → ⊥
    go us _ zs _ a (a_named {n} {t} i) e = not_next (Name n) t ts zs (out n) (subst (λ us. SameNext ts us) e a) i

pub none_next : (k : TokenKind) (ts : List Token) → ts ≡ [] → NotNext k ts
none_next k ts e = rw e tt

pub other_next : (k : TokenKind) (t : Token) (ts rest : List Token) → ts ≡ t ∷ rest → (t.kind ≡ k → ⊥) → NotNext k ts
other_next k t ts rest e n = rw e (λ i. n i.kind)

-- ---- what may stand after a part

pub close_one : {A : Type 0} {next : Unit {0} → A → List Token → Type 0} (k : TokenKind) → Closes (next tt) → Closes (Then (One k) next)
close_one k c = close_then tt (made k ∷ []) (one (is_made k)) c

-- a token of a kind stands after it
pub after_one : {A B : Type 0} {stopF : B → List Token → Type 0} {stop : A → List Token → Type 0} {next : B → Unit {0} → A → List Token → Type 0} (k : TokenKind) →
    ((b : B) (t : Token) (zs : List Token) → Is k t → stopF b (t ∷ zs)) → ((b : B) → Closes (next b tt)) → Goes stopF stop (λ b. Then (One k) (next b))
after_one {A} {B} {stopF} {stop} {next} k h c = after_then go (λ b. close_one k (c b))
  where
    go : (b : B) (u : Unit {0}) (xs zs : List Token) → One k u xs → stopF b (xs ++ zs)
    go b _ _ zs (one {t} i) = h b t zs i

-- ---- the spot of the first token

pub spot_front : (x y : List Token) → (x ≡ [] → ⊥) → spot_at (x ++ y) ≡ spot_at x
spot_front [] y n = absurd (n refl)
spot_front (t ∷ x) y n = refl

module _ {A : Type 0} (F : A → List Token → Type 0) (filled : (v : A) → F v [] → ⊥) where
  not_empty : (v : A) (x : List Token) → F v x → x ≡ [] → ⊥
  not_empty v x d e = filled v (rw e at d)

  same_spot : (v w : A) (front us xs zs : List Token) → F v front → F w xs → front ++ us ≡ xs ++ zs → spot_at xs ≡ spot_at front
  same_spot v w front us xs zs d d' e = sym (spot_front xs zs (not_empty w xs d')) ∙ (ap spot_at (sym e) ∙ spot_front front us (not_empty v front d))

module _ {A : Type 0} {F stop : A → List Token → Type 0} {ts rest : List Token} (filled : (v : A) → F v [] → ⊥) where
  pub placed_found : {v : A} → Found F stop ts v rest → Found (Placed F) (λ p. stop p.1) ts (spot_at ts, v) rest
  placed_found {v} f =
      let h : spot_at ts ≡ spot_at f.front = ap spot_at f.whole ∙ spot_front f.front rest (not_empty F filled v f.front f.derives) in
      record {
        front = f.front;
        whole = f.whole;
        derives = rw h (placed f.derives);
        only = λ us xs zs w a d s e. go h us xs zs w a d s e;
      }
    where
      go : spot_at ts ≡ spot_at f.front → (us xs zs : List Token) (w : Spot × A) → SameNext rest us → Placed F w xs → stop w.1 zs → f.front ++ us ≡ xs ++ zs → (w ≡ (spot_at ts, v)) × (zs ≡ us)
      go h us xs zs _ a (placed {v = u} d) s e =
          let q = f.only us xs zs u a d s e in
          let g : spot_at xs ≡ spot_at ts = same_spot F filled v u f.front us xs zs f.derives d e ∙ sym h in
          let q0 = q.0 in
          (rw (g, q0) refl, q.1)

module _ {A : Type 0} {F stop : A → List Token → Type 0} {ts rest : List Token} where
  pub placed_refused : Refused F stop ts rest → Refused (Placed F) (λ p. stop p.1) ts rest
  placed_refused f = record {
    front = f.front;
    whole = f.whole;
    closes = let (v, close, d) = f.closes in ((spot_at (f.front ++ close), v), close, placed d);
    none = λ us xs zs w a d s e. go us xs zs w a d s e;
  }
    where
      go : (us xs zs : List Token) (w : Spot × A) → SameNext rest us → Placed F w xs → stop w.1 zs → f.front ++ us ≡ xs ++ zs → ⊥
      go us xs zs _ a (placed {v = u} d) s e = f.none us xs zs u a d s e

-- ---- signs

pub no_sign : {R : Type 0} (table : SignType → Option R) (t : Token) (rest us : List Token) (sign : SignType) (said : R) → NoSign table rest → SameNext rest (t ∷ us) → Is (Sign sign) t → table sign ≡ Some said → ⊥
no_sign table t [] us sign said n a i e = no_token t [] us refl a
no_sign table t (u ∷ rest) us sign said n a i e = n sign said (subst (λ t. Is (Sign sign) t) (same_token u t (u ∷ rest) rest us refl a) i) e
