-- Lists with commas, as a call reads them.
use Rattle.std.proofs.Common.{◌≡◌, List, [], ◌∷◌, ◌++◌, refl, ◌∙◌, ap, append-nil, append_assoc}
use Rattle.oc_lexer.specs.declared.token.Token.{Token}
use Rattle.oc_lexer.specs.declared.token.TokenKind.TheVariants.{Sign}
use Rattle.oc_lexer.specs.declared.token.Sign.TheVariants as s
use Rattle.oc_grammar.specs.Tokens.{Is, Starts, NotNext}
use Rattle.oc_grammar.specs.Parsing.{SameNext, Found, Refused, Leaves, Then, then, Loop, at_last, turn}
use Rattle.oc_grammar.specs.WrittenTypes.{Commas, last, more}
use Rattle.oc_grammar.proofs.Parsing.{start, turned, read, fails, Goes, loop_on, loop_done}
use Rattle.oc_grammar.proofs.Calls.{not_next}

-- one more after a comma
pub data CommaStep {A : Type 0} (F : A → List Token → Type 0) (l : List A) (t : Token) : List A → List Token → Type 0 where
  comma_step : {v : A} {x : List Token} → Is (Sign s.Comma) t → F v x → CommaStep F l t (l ++ v ∷ []) x

module _ {A : Type 0} {F : A → List Token → Type 0} where
  commas_loop : (l : List A) {vs : List A} {x : List Token} → Commas F vs x → Then F (λ v. Loop (CommaStep F) (l ++ v ∷ [])) (l ++ vs) x
  commas_loop l (last {x = x} d) =
      let h : Then F (λ v. Loop (CommaStep F) (l ++ v ∷ [])) _ (x ++ []) = then d at_last in
      rw append-nil at h
  commas_loop l (more {t} {v} {vs} {x} {y} d i q) = rw append_assoc at (go ((l ++ v ∷ []) ++ vs) y (commas_loop (l ++ v ∷ []) q))
    where
      go : (w : List A) (z : List Token) → Then F (λ u. Loop (CommaStep F) ((l ++ v ∷ []) ++ u ∷ [])) w z → Then F (λ v. Loop (CommaStep F) (l ++ v ∷ [])) w (x ++ t ∷ z)
      go w _ (then e r) = then d (turn (comma_step i e) r)

  pub commas_out : (vs : List A) (x : List Token) → Commas F vs x → Then F (λ v. Loop (CommaStep F) (v ∷ [])) vs x
  commas_out vs x d = commas_loop [] d

  loop_commas : {l vs : List A} {y : List Token} → Loop (CommaStep F) l vs y → (v : A) (ws : List A) (x : List Token) → l ≡ ws ++ v ∷ [] → F v x → (us : List A) × (vs ≡ ws ++ us) × Commas F us (x ++ y)
  loop_commas at_last v ws x e d = (v ∷ [], e, rw append-nil (last d))
  loop_commas {l} (turn {t} {xs = a} {ys = b} (comma_step {v = w} i d') q) v ws x e d =
      let (us, e', h) = loop_commas q w l a refl d' in
      (v ∷ us, e' ∙ (ap (λ l. l ++ us) e ∙ append_assoc ws (v ∷ []) us), more d i h)

  pub commas_in : (vs : List A) (x : List Token) → Then F (λ v. Loop (CommaStep F) (v ∷ [])) vs x → Commas F vs x
  commas_in vs _ (then {w = v} {xs = a} d q) = let (us, e, h) = loop_commas q v [] a refl d in rw e h

-- neither a comma nor what goes on with the last one comes next
abbrev pub CommaEnds : {A : Type 0} → (List Token → Type 0) → A → List Token → Type 0
CommaEnds P v zs = NotNext (Sign s.Comma) zs × P zs

module _ {A : Type 0} (F : A → List Token → Type 0) (P : List Token → Type 0) (comma : (t : Token) (zs : List Token) → Is (Sign s.Comma) t → P (t ∷ zs)) where
  list_goes : (l : List A) → Goes (λ (v : A) zs. P zs) (CommaEnds P) (λ v. Loop (CommaStep F) (l ++ v ∷ []))
  list_goes l = record { follow = λ b v ys zs q s. go b v ys zs q s; closes = λ b. (l ++ b ∷ [], [], at_last) }
    where
      go : (b : A) (v : List A) (ys zs : List Token) → Loop (CommaStep F) (l ++ b ∷ []) v ys → CommaEnds P v zs → P (ys ++ zs)
      go b v _ zs at_last s = s.1
      go b v _ zs (turn (comma_step i d) q) s = comma _ _ i

  module _ (ts : List Token) where
    list_opened : Leaves (Commas F) (CommaEnds P) ts (Then F (λ v. Loop (CommaStep F) ([] ++ v ∷ []))) ts
    list_opened = turned (start (Commas F) (CommaEnds P) ts) commas_in commas_out

    pub list_fails : {r : List Token} → Refused F (λ (v : A) zs. P zs) ts r → Refused (Commas F) (CommaEnds P) ts r
    list_fails f = fails list_opened f (list_goes [])

    pub list_first : {v : A} {r : List Token} → Found F (λ (v : A) zs. P zs) ts v r → Leaves (Commas F) (CommaEnds P) ts (Loop (CommaStep F) (v ∷ [])) r
    list_first f = read list_opened f (list_goes [])

    module _ {rest : List Token} {l : List A} (loop : Leaves (Commas F) (CommaEnds P) ts (Loop (CommaStep F) l) rest) where
      pub list_done : NotNext (Sign s.Comma) rest → Found (Commas F) (CommaEnds P) ts l rest
      list_done out = loop_done loop (λ t us m xs a d. go t us m xs a d)
        where
          go : (t : Token) (us : List Token) (m : List A) (xs : List Token) → SameNext rest (t ∷ us) → CommaStep F l t m xs → ⊥
          go t us _ xs a (comma_step i d) = not_next (Sign s.Comma) t rest us out a i

      module _ {r1 : List Token} (i : Starts (Sign s.Comma) rest r1) where
        list_left : Leaves (Commas F) (CommaEnds P) ts (Then F (λ v. Loop (CommaStep F) (l ++ v ∷ []))) r1
        list_left = turned (loop_on loop i.whole (λ zs h. h.0 i.is)) into out
          where
            into : (v : List A) (ys : List Token) → Then F (λ v. Loop (CommaStep F) (l ++ v ∷ [])) v ys → Then (CommaStep F l i.token) (λ m. Loop (CommaStep F) m) v ys
            into v _ (then d q) = then (comma_step i.is d) q

            out : (v : List A) (ys : List Token) → Then (CommaStep F l i.token) (λ m. Loop (CommaStep F) m) v ys → Then F (λ v. Loop (CommaStep F) (l ++ v ∷ [])) v ys
            out v _ (then (comma_step j d) q) = then d q

        pub more_fails : {r : List Token} → Refused F (λ (v : A) zs. P zs) r1 r → Refused (Commas F) (CommaEnds P) ts r
        more_fails f = fails list_left f (list_goes l)

        pub more_read : {v : A} {r : List Token} → Found F (λ (v : A) zs. P zs) r1 v r → Leaves (Commas F) (CommaEnds P) ts (Loop (CommaStep F) (l ++ v ∷ [])) r
        more_read f = read list_left f (list_goes l)
