-- Functions, after their result.
use Rattle.std.proofs.Common.{◌≡◌, List, [], ◌∷◌, ◌++◌, Bool, true, false, Option, Some, None, refl, sym, ◌∙◌, ap, append-nil, append_assoc, subst}
use Rattle.oc_source.specs.declared.parsed.TypeName.{TypeName}
use Rattle.oc_source.specs.declared.parsed.Param.{Param}
use Rattle.oc_source.specs.declared.parsed.Stmt.{Stmt}
use Rattle.oc_source.specs.declared.parsed.Function.{Function}
use Rattle.oc_lexer.specs.declared.token.Token.{Token}
use Rattle.oc_lexer.specs.declared.token.TokenKind.TheVariants.{Name, Keyword, Sign}
use Rattle.oc_lexer.specs.declared.token.Keyword.TheVariants as w
use Rattle.oc_lexer.specs.declared.token.Sign.TheVariants as s
use Rattle.oc_grammar.specs.declared.taking.Named.{Named}
use Rattle.oc_grammar.specs.Tokens.{Is, Starts, NotNext}
use Rattle.oc_grammar.specs.Parsing.{SameNext, Found, Refused, Leaves, Any, End, ended, Then, then}
use Rattle.oc_grammar.specs.Calls.{One, one, ANamed, a_named}
use Rattle.oc_grammar.specs.Statements.{Block, braces, no_step}
use Rattle.oc_grammar.specs.Headings.{Mark, unmarked, marked, Body, prototype, body, function, AfterResult, after_result}
use Rattle.oc_grammar.proofs.Parsing.{start, turned, also, read, fails, ends, Goes, Closes, close_end, close_then, after_end, then_end, sure, taken}
use Rattle.oc_grammar.proofs.Calls.{made, is_made, not_next, close_one}
use Rattle.oc_parser.specs.declared.functions.Heading.{Heading}
use Rattle.oc_parser.specs.Continuations.{NoObliv, closed_parameters, heading, signature}
use Rattle.oc_parser.proofs.ParameterLists.{some_params}

-- ---- the mark

module _ {ts : List Token} where
  pub mark_found : {rest : List Token} → Starts (Keyword w.Obliv) ts rest → Found Mark NoObliv ts true rest
  mark_found {rest} i = record {
    front = i.token ∷ [];
    whole = i.whole;
    derives = marked i.is;
    only = λ us xs zs v a f n e. go us xs zs v f n e;
  }
    where
      go : (us xs zs : List Token) (v : Bool) → Mark v xs → NotNext (Keyword w.Obliv) zs → i.token ∷ us ≡ xs ++ zs → (v ≡ true) × (zs ≡ us)
      go us _ zs _ unmarked n e = let h = subst (λ zs. NotNext (Keyword w.Obliv) zs) (sym e) n in absurd (h i.is)
      go us _ zs _ (marked j) n e = (refl, cc)

  pub mark_absent : NotNext (Keyword w.Obliv) ts → Found Mark NoObliv ts false ts
  mark_absent n = record {
    front = [];
    whole = refl;
    derives = unmarked;
    only = λ us xs zs v a f s e. go us xs zs v a f e;
  }
    where
      go : (us xs zs : List Token) (v : Bool) → SameNext ts us → Mark v xs → us ≡ xs ++ zs → (v ≡ false) × (zs ≡ us)
      go us _ zs _ a unmarked e = (refl, sym e)
      go us _ zs _ a (marked {t} i) e = absurd (not_next (Keyword w.Obliv) t ts zs n (subst (λ us. SameNext ts us) e a) i)

-- ---- up to the body

some_mark : (n : Named) (ps : List Param) → Closes (Then Mark (λ m. End (heading n ps m)))
some_mark n ps = close_then false [] unmarked close_end

some_list : (n : Named) → Closes (Then closed_parameters (λ ps. Then Mark (λ m. End (heading n ps m))))
some_list n = let (ps, x, d) = some_params in close_then ps x d (some_mark n ps)

some_open : (n : Named) → Closes (Then (One (Sign s.LeftParen)) (λ _. Then closed_parameters (λ ps. Then Mark (λ m. End (heading n ps m)))))
some_open n = close_one (Sign s.LeftParen) (some_list n)

some_signature : Closes signature
some_signature = close_then (record { spot = (made (Name [])).spot; name = [] }) (made (Name []) ∷ []) (a_named (is_made (Name []))) (some_open _)

module _ {ts : List Token} where
  pub named_fails : {r : List Token} → Refused ANamed Any ts r → Refused signature NoObliv ts r
  named_fails f = fails (start signature NoObliv ts) f (sure some_open)

  module _ {n : Named} {r1 : List Token} (f : Found ANamed Any ts n r1) where
    open_left : Leaves signature NoObliv ts (Then (One (Sign s.LeftParen)) (λ _. Then closed_parameters (λ ps. Then Mark (λ m. End (heading n ps m))))) r1
    open_left = read (start signature NoObliv ts) f (sure some_open)

    pub open_fails : {r : List Token} → Refused (One (Sign s.LeftParen)) Any r1 r → Refused signature NoObliv ts r
    open_fails g = fails open_left g (sure (λ u. some_list n))

    module _ {r2 : List Token} (g : Found (One (Sign s.LeftParen)) Any r1 tt r2) where
      list_left : Leaves signature NoObliv ts (Then closed_parameters (λ ps. Then Mark (λ m. End (heading n ps m)))) r2
      list_left = read open_left g (sure (λ u. some_list n))

      pub list_fails : {r : List Token} → Refused closed_parameters Any r2 r → Refused signature NoObliv ts r
      list_fails h = fails list_left h (sure (some_mark n))

      pub signature_read : {ps : List Param} {m : Bool} {r3 r : List Token} → Found closed_parameters Any r2 ps r3 → Found Mark NoObliv r3 m r → Found signature NoObliv ts (heading n ps m) r
      signature_read {ps} h k = ends (read (read list_left h (sure (some_mark n))) k (after_end (heading n ps) (λ m zs s. s)))

-- ---- the body

pub some_body : Closes Body
some_body = (None, made (Sign s.Semicolon) ∷ [], prototype (is_made (Sign s.Semicolon)))

-- a body by its first token
data BodyLeft : Option (List Stmt) → List Token → Type 0 where
  by_end : {t : Token} → Is (Sign s.Semicolon) t → BodyLeft None (t ∷ [])
  by_block : {b : Option (List Stmt)} {ys : List Token} → Then Block (λ vs. End (Some vs)) b ys → BodyLeft b ys

body_out : (b : Option (List Stmt)) (x : List Token) → Body b x → BodyLeft b x
body_out b _ (prototype i) = by_end i
body_out b x (body {vs = vs} d) = by_block (then_end Some vs x d)

body_in : (b : Option (List Stmt)) (x : List Token) → BodyLeft b x → Body b x
body_in b _ (by_end i) = prototype i
body_in b _ (by_block (then d ended)) = rw append-nil (body d)

some_block : Closes Block
some_block = ([], made (Sign s.LeftBrace) ∷ (made (Sign s.RightBrace) ∷ []), braces (is_made (Sign s.LeftBrace)) no_step (is_made (Sign s.RightBrace)))

block_semicolon : {vs : List Stmt} {x : List Token} → Block vs x → (t : Token) (us zs : List Token) → t ∷ us ≡ x ++ zs → Is (Sign s.Semicolon) t → ⊥
block_semicolon (braces {a} i d j) t us zs e k = let h : t ≡ a = cc in let g = ap (λ (t : Token). t.kind) h in let f = i.kind in let f' = k.kind in cc

module _ {ts : List Token} where
  body_opened : Leaves Body Any ts BodyLeft ts
  body_opened = turned (start Body Any ts) body_in body_out

  pub prototype_read : {r : List Token} → Starts (Sign s.Semicolon) ts r → Found Body Any ts None r
  prototype_read i = ends (taken body_opened i.whole into out)
    where
      into : (v : Option (List Stmt)) (ys : List Token) → End None v ys → BodyLeft v (i.token ∷ ys)
      into v _ ended = by_end i.is

      out : (v : Option (List Stmt)) (us ys zs : List Token) → BodyLeft v ys → i.token ∷ us ≡ ys ++ zs → (xs : List Token) × End None v xs × (us ≡ xs ++ zs)
      out v us _ zs (by_end j) e = ([], ended, cc)
      out v us _ zs (by_block (then {xs = x} {zs = y} d q)) e = absurd (block_semicolon d i.token us (y ++ zs) (e ∙ append_assoc x y zs) i.is)

  module _ (n : NotNext (Sign s.Semicolon) ts) where
    block_left : Leaves Body Any ts (Then Block (λ vs. End (Some vs))) ts
    block_left = also body_opened (λ v ys q. by_block q) (λ v us ys zs a q s e. go v us ys zs a q e)
      where
        go : (v : Option (List Stmt)) (us ys zs : List Token) → SameNext ts us → BodyLeft v ys → us ≡ ys ++ zs → Then Block (λ vs. End (Some vs)) v ys
        go v us _ zs a (by_end {t} i) e = absurd (not_next (Sign s.Semicolon) t ts zs n (subst (λ us. SameNext ts us) e a) i)
        go v us _ zs a (by_block q) e = q

    pub block_fails : {r : List Token} → Refused Block Any ts r → Refused Body Any ts r
    block_fails f = fails block_left f (sure (λ vs. close_end))

    pub block_read : {vs : List Stmt} {r : List Token} → Found Block Any ts vs r → Found Body Any ts (Some vs) r
    block_read f = ends (read block_left f (sure (λ vs. close_end)))

-- ---- the whole

module _ (r : Option TypeName) where
  function_of : Heading → Option (List Stmt) → Function
  function_of h b = function h.named.spot h.named.name r h.params h.obliv b

  function_left : Function → List Token → Type 0
  function_left = Then signature (λ h. Then Body (λ b. End (function_of h b)))

  function_out : (f : Function) (x : List Token) → AfterResult r f x → function_left f x
  unfolding function_left function_of
  function_out f _ (after_result {t = t} {a = a} {b = b} {name = name} {ps = ps} {mark = m} {bd = bd} {y = y} {z = z} {w = w} i j d k e g) =
      let h : signature (heading (record { spot = t.spot; name = name }) ps m) (t ∷ (a ∷ ((y ++ b ∷ []) ++ z))) = then (a_named i) (then (one j) (then (then d (then (one k) ended)) (then_end (heading (record { spot = t.spot; name = name }) ps) m z e))) in
      let q : function_left f ((t ∷ (a ∷ ((y ++ b ∷ []) ++ z))) ++ w) = then h (then_end (λ b. function t.spot name r ps m b) bd w g) in
      let p : (t ∷ (a ∷ ((y ++ b ∷ []) ++ z))) ++ w ≡ t ∷ (a ∷ (y ++ b ∷ (z ++ w))) = ap (λ x. t ∷ (a ∷ x)) (append_assoc (y ++ b ∷ []) z w ∙ append_assoc y (b ∷ []) (z ++ w)) in
      subst (λ x. function_left f x) p q

  function_in : (f : Function) (x : List Token) → function_left f x → AfterResult r f x
  unfolding function_left function_of
  function_in f _ (then (then (a_named {t = t} i) (then (one {t = a} j) (then (then {xs = y} d (then (one {t = b} k) ended)) (then {xs = z} e ended)))) (then {xs = w} g ended)) =
      let p : t ∷ (a ∷ (y ++ b ∷ (z ++ w))) ≡ ((t ∷ []) ++ ((a ∷ []) ++ ((y ++ ((b ∷ []) ++ [])) ++ (z ++ [])))) ++ (w ++ []) = ap (λ x. t ∷ (a ∷ x)) (sym (append_assoc y (b ∷ []) (z ++ w)) ∙ (sym (append_assoc (y ++ b ∷ []) z w) ∙ (ap (λ z. ((y ++ b ∷ []) ++ z) ++ w) (sym (append-nil z)) ∙ ap (λ w. ((y ++ b ∷ []) ++ (z ++ [])) ++ w) (sym (append-nil w))))) in
      subst (λ x. AfterResult r f x) p (after_result i j d k e g)

  body_goes : (h : Heading) → Closes (Then Body (λ b. End (function_of h b)))
  body_goes h = let (b, x, d) = some_body in close_then b x d close_end

  body_not_obliv : {b : Option (List Stmt)} {x : List Token} (zs : List Token) → Body b x → NotNext (Keyword w.Obliv) (x ++ zs)
  body_not_obliv zs (prototype i) = λ j. let e = i.kind in let g = j.kind in cc
  body_not_obliv zs (body (braces i d k)) = λ j. let e = i.kind in let g = j.kind in cc

  signature_goes : Goes NoObliv Any (λ h. Then Body (λ b. End (function_of h b)))
  signature_goes = record { follow = λ h v ys zs q s. go h v ys zs q; closes = body_goes }
    where
      go : (h : Heading) (v : Function) (ys zs : List Token) → Then Body (λ b. End (function_of h b)) v ys → NotNext (Keyword w.Obliv) (ys ++ zs)
      go h v _ zs (then {xs = x} {zs = y} d q) = rw (append_assoc x y zs) (body_not_obliv (y ++ zs) d)

  module _ {ts : List Token} where
    function_opened : Leaves (AfterResult r) Any ts function_left ts
    function_opened = turned (start (AfterResult r) Any ts) function_in function_out

    pub signature_fails : {rest : List Token} → Refused signature NoObliv ts rest → Refused (AfterResult r) Any ts rest
    unfolding function_left
    signature_fails f = fails function_opened f signature_goes

    module _ {h : Heading} {r1 : List Token} (f : Found signature NoObliv ts h r1) where
      body_left : Leaves (AfterResult r) Any ts (Then Body (λ b. End (function_of h b))) r1
      unfolding function_left
      body_left = read function_opened f signature_goes

      pub body_fails : {rest : List Token} → Refused Body Any r1 rest → Refused (AfterResult r) Any ts rest
      body_fails g = fails body_left g (sure (λ b. close_end))

      pub function_read : {b : Option (List Stmt)} {rest : List Token} → Found Body Any r1 b rest → Found (AfterResult r) Any ts (function h.named.spot h.named.name r h.params h.obliv b) rest
      unfolding function_of
      function_read g = ends (read body_left g (sure (λ b. close_end)))

  pub some_function : Closes (AfterResult r)
  some_function =
      let (h, x, d) = some_signature in
      let (f, y, q) = body_goes h in
      (f, x ++ y, function_in f (x ++ y) (unfold function_left in then d q))
