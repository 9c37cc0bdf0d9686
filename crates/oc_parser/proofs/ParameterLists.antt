-- Parameters of a function.
use Rattle.std.proofs.Common.{◌≡◌, ℕ, List, [], ◌∷◌, ◌++◌, refl, ap, append-nil, append_assoc, subst}
use Rattle.oc_source.specs.declared.parsed.BaseName.{BaseName}
use Rattle.oc_source.specs.declared.parsed.Param.{Param}
use Rattle.oc_source.specs.declared.parsed.ParamArray.{ParamArray}
use Rattle.oc_source.specs.declared.parsed.ParamArray.TheVariants as array
use Rattle.oc_lexer.specs.declared.token.Token.{Token}
use Rattle.oc_lexer.specs.declared.token.TokenKind.TheVariants.{Name, Keyword, Sign}
use Rattle.oc_lexer.specs.declared.token.Keyword.TheVariants as w
use Rattle.oc_lexer.specs.declared.token.Sign.TheVariants as s
use Rattle.oc_grammar.specs.declared.taking.Named.{Named}
use Rattle.oc_grammar.specs.Tokens.{Is, Starts, NotNext}
use Rattle.oc_grammar.specs.Parsing.{SameNext, Found, Refused, Leaves, Any, End, ended, Then, then, Maybe, stays, goes}
use Rattle.oc_grammar.specs.Calls.{One, one, ANamed, a_named}
use Rattle.oc_grammar.specs.WrittenTypes.{Base, Stars, no_star, star, Commas, last, more}
use Rattle.oc_grammar.specs.Headings.{Brackets, plain, open_brackets, sized, Parameter, parameter, param, no_parameter, void_parameter, parameters}
use Rattle.oc_grammar.proofs.Parsing.{start, turned, also, alone, token_on, read, fails, ends, Goes, Closes, close_end, close_then, after_end, after_then, then_end, sure, taken}
use Rattle.oc_grammar.proofs.Calls.{made, is_made, not_next, close_one, after_one}
use Rattle.oc_declarators.specs.Continuations.{NoWord, BeforeNoWord, NoStar, NoBracket, a_length, dim_rest}
use Rattle.oc_expressions.specs.Continuations.{BeginsType}
use Rattle.oc_parser.specs.Continuations.{DeclaratorsEnd, closed_parameters}
use Rattle.oc_parser.proofs.Firsts.{base_first, not_type_first}

-- ---- brackets

data AfterBracket : ParamArray → List Token → Type 0 where
  after_open : {t : Token} → Is (Sign s.RightBracket) t → AfterBracket array.Open (t ∷ [])
  after_sized : {r : ParamArray} {ys : List Token} → Then dim_rest (λ n. End (array.Sized n)) r ys → AfterBracket r ys

data BracketsBy (t : Token) : ParamArray → List Token → Type 0 where
  brackets_by : {r : ParamArray} {ys : List Token} → Is (Sign s.LeftBracket) t → AfterBracket r ys → BracketsBy t r ys

brackets_out : (r : ParamArray) (x : List Token) → Brackets r x → Maybe BracketsBy array.Plain r x
brackets_out r _ plain = stays
brackets_out r _ (open_brackets i j) = goes (brackets_by i (after_open j))
brackets_out r _ (sized i j k) = goes (brackets_by i (after_sized (then (then (a_length j) (then (one k) ended)) ended)))

brackets_in : (r : ParamArray) (x : List Token) → Maybe BracketsBy array.Plain r x → Brackets r x
brackets_in r _ stays = plain
brackets_in r _ (goes (brackets_by i (after_open j))) = open_brackets i j
brackets_in r _ (goes (brackets_by i (after_sized (then (then (a_length j) (then (one k) ended)) ended)))) = sized i j k

module _ {ts : List Token} where
  brackets_opened : Leaves Brackets NoBracket ts (Maybe BracketsBy array.Plain) ts
  brackets_opened = turned (start Brackets NoBracket ts) brackets_in brackets_out

  pub no_brackets : NotNext (Sign s.LeftBracket) ts → Found Brackets NoBracket ts array.Plain ts
  no_brackets n = alone brackets_opened (λ t us v ys a q. go t us v ys a q)
    where
      go : (t : Token) (us : List Token) (v : ParamArray) (ys : List Token) → SameNext ts (t ∷ us) → BracketsBy t v ys → ⊥
      go t us v ys a (brackets_by i q) = not_next (Sign s.LeftBracket) t ts us n a i

  module _ {r1 : List Token} (i : Starts (Sign s.LeftBracket) ts r1) where
    inside_left : Leaves Brackets NoBracket ts AfterBracket r1
    inside_left = turned (token_on brackets_opened i.whole (λ zs h. h i.is)) (λ v ys q. brackets_by i.is q) (λ v ys q. go v ys q)
      where
        go : (v : ParamArray) (ys : List Token) → BracketsBy i.token v ys → AfterBracket v ys
        go v ys (brackets_by j q) = q

    pub open_read : {r2 : List Token} → Starts (Sign s.RightBracket) r1 r2 → Found Brackets NoBracket ts array.Open r2
    open_read j = ends (taken inside_left j.whole into out)
      where
        into : (v : ParamArray) (ys : List Token) → End array.Open v ys → AfterBracket v (j.token ∷ ys)
        into v _ ended = after_open j.is

        out : (v : ParamArray) (us ys zs : List Token) → AfterBracket v ys → j.token ∷ us ≡ ys ++ zs → (xs : List Token) × End array.Open v xs × (us ≡ xs ++ zs)
        out v us _ zs (after_open k) e = ([], ended, cc)
        out v us _ zs (after_sized (then (then (a_length {t = t} k) q) q')) e = let h : j.token ≡ t = cc in let g = ap (λ (t : Token). t.kind) h in let f = k.kind in let f' = j.is.kind in cc

    module _ (n : NotNext (Sign s.RightBracket) r1) where
      size_left : Leaves Brackets NoBracket ts (Then dim_rest (λ n. End (array.Sized n))) r1
      size_left = also inside_left (λ v ys q. after_sized q) (λ v us ys zs a q s e. go v us ys zs a q e)
        where
          go : (v : ParamArray) (us ys zs : List Token) → SameNext r1 us → AfterBracket v ys → us ≡ ys ++ zs → Then dim_rest (λ n. End (array.Sized n)) v ys
          go v us _ zs a (after_open {t} k) e = absurd (not_next (Sign s.RightBracket) t r1 zs n (subst (λ us. SameNext r1 us) e a) k)
          go v us _ zs a (after_sized q) e = q

      pub size_fails : {r : List Token} → Refused dim_rest Any r1 r → Refused Brackets NoBracket ts r
      size_fails f = fails size_left f (sure (λ n. close_end))

      pub size_read : {n : ℕ} {r : List Token} → Found dim_rest Any r1 n r → Found Brackets NoBracket ts (array.Sized n) r
      size_read f = ends (read size_left f (sure (λ n. close_end)))

-- ---- a parameter

param_left : Param → List Token → Type 0
param_left = Then Base (λ b. Then Stars (λ n. Then ANamed (λ m. Then Brackets (λ r. End (param m.spot m.name b n r)))))

param_out : (p : Param) (x : List Token) → Parameter p x → param_left p x
unfolding param_left
param_out p _ (parameter {b} {n} {r = r} {t = t} {z = z} d i j k) = then d (then i (then (a_named j) (then_end (λ r. param t.spot _ b n r) r z k)))

param_in : (p : Param) (x : List Token) → param_left p x → Parameter p x
unfolding param_left
param_in p _ (then d (then i (then (a_named j) (then k ended)))) = rw append-nil (parameter d i j k)

some_brackets : (b : BaseName) (n : ℕ) (m : Named) → Closes (Then Brackets (λ r. End (param m.spot m.name b n r)))
some_brackets b n m = close_then array.Plain [] plain close_end

some_name : (b : BaseName) (n : ℕ) → Closes (Then ANamed (λ m. Then Brackets (λ r. End (param m.spot m.name b n r))))
some_name b n = close_then (record { spot = (made (Name [])).spot; name = [] }) (made (Name []) ∷ []) (a_named (is_made (Name []))) (some_brackets b n _)

some_stars : (b : BaseName) → Closes (Then Stars (λ n. Then ANamed (λ m. Then Brackets (λ r. End (param m.spot m.name b n r)))))
some_stars b = close_then 0 [] no_star (some_name b 0)

base_goes : Goes BeforeNoWord NoBracket (λ b. Then Stars (λ n. Then ANamed (λ m. Then Brackets (λ r. End (param m.spot m.name b n r)))))
base_goes = record { follow = λ b v ys zs q s. go b v ys zs q; closes = some_stars }
  where
    go : (b : BaseName) (v : Param) (ys zs : List Token) → Then Stars (λ n. Then ANamed (λ m. Then Brackets (λ r. End (param m.spot m.name b n r)))) v ys → NoWord (ys ++ zs)
    go b v _ zs (then (star i d) q) = λ word j. let e = i.kind in let g = j.kind in cc
    go b v _ zs (then no_star (then (a_named i) q)) = λ word j. let e = i.kind in let g = j.kind in cc

stars_goes : (b : BaseName) → Goes NoStar NoBracket (λ n. Then ANamed (λ m. Then Brackets (λ r. End (param m.spot m.name b n r))))
stars_goes b = after_then (λ n m xs zs d. go n m xs zs d) (some_name b)
  where
    go : (n : ℕ) (m : Named) (xs zs : List Token) → ANamed m xs → NotNext (Sign s.Star) (xs ++ zs)
    go n m _ zs (a_named i) = λ j. let e = i.kind in let g = j.kind in cc

module _ {ts : List Token} where
  param_opened : Leaves Parameter NoBracket ts param_left ts
  param_opened = turned (start Parameter NoBracket ts) param_in param_out

  pub base_fails : {r : List Token} → Refused Base BeforeNoWord ts r → Refused Parameter NoBracket ts r
  unfolding param_left
  base_fails f = fails param_opened f base_goes

  module _ {b : BaseName} {r1 : List Token} (f : Found Base BeforeNoWord ts b r1) where
    stars_left : Leaves Parameter NoBracket ts (Then Stars (λ n. Then ANamed (λ m. Then Brackets (λ r. End (param m.spot m.name b n r))))) r1
    unfolding param_left
    stars_left = read param_opened f base_goes

    pub stars_fail : {r : List Token} → Refused Stars NoStar r1 r → Refused Parameter NoBracket ts r
    stars_fail g = fails stars_left g (stars_goes b)

    module _ {n : ℕ} {r2 : List Token} (g : Found Stars NoStar r1 n r2) where
      name_left : Leaves Parameter NoBracket ts (Then ANamed (λ m. Then Brackets (λ r. End (param m.spot m.name b n r)))) r2
      name_left = read stars_left g (stars_goes b)

      pub name_fails : {r : List Token} → Refused ANamed Any r2 r → Refused Parameter NoBracket ts r
      name_fails h = fails name_left h (sure (some_brackets b n))

      module _ {m : Named} {r3 : List Token} (h : Found ANamed Any r2 m r3) where
        array_left : Leaves Parameter NoBracket ts (Then Brackets (λ r. End (param m.spot m.name b n r))) r3
        array_left = read name_left h (sure (some_brackets b n))

        pub array_fails : {r : List Token} → Refused Brackets NoBracket r3 r → Refused Parameter NoBracket ts r
        array_fails k = fails array_left k (after_end (λ r. param m.spot m.name b n r) (λ r zs s. s))

        pub param_read : {r : ParamArray} {rest : List Token} → Found Brackets NoBracket r3 r rest → Found Parameter NoBracket ts (param m.spot m.name b n r) rest
        param_read k = ends (read array_left k (after_end (λ r. param m.spot m.name b n r) (λ r zs s. s)))

-- ---- all parameters

data ParamsLeft : List Param → List Token → Type 0 where
  none_left : {t : Token} → Is (Sign s.RightParen) t → ParamsLeft [] (t ∷ [])
  void_left : {t : Token} {ps : List Param} {ys : List Token} → Is (Keyword w.Void) t → Then (One (Sign s.RightParen)) (λ _. End []) ps ys → ParamsLeft ps (t ∷ ys)
  some_left : {ps : List Param} {ys : List Token} → Then (Commas Parameter) (λ ps. Then (One (Sign s.RightParen)) (λ _. End ps)) ps ys → ParamsLeft ps ys

closed_out : (ps : List Param) (x : List Token) → closed_parameters ps x → ParamsLeft ps x
closed_out ps _ (then no_parameter (then (one i) ended)) = none_left i
closed_out ps _ (then (void_parameter i) q) = void_left i q
closed_out ps _ (then (parameters d) q) = some_left (then d q)

closed_in : (ps : List Param) (x : List Token) → ParamsLeft ps x → closed_parameters ps x
closed_in ps _ (none_left i) = then no_parameter (then (one i) ended)
closed_in ps _ (void_left i q) = then (void_parameter i) q
closed_in ps _ (some_left (then d q)) = then (parameters d) q

param_first : {p : Param} {x : List Token} (zs : List Token) → Parameter p x → BeginsType (x ++ zs)
param_first zs (parameter {t = t} {x = x} {y = y} {z = z} d i j k) = rw (append_assoc x (y ++ t ∷ z) zs) (base_first ((y ++ t ∷ z) ++ zs) d)

params_first : {ps : List Param} {x : List Token} (zs : List Token) → Commas Parameter ps x → BeginsType (x ++ zs)
params_first zs (last d) = param_first zs d
params_first zs (more {t = t} {x = x} {y = y} d i q) = rw (append_assoc x (t ∷ y) zs) (param_first (t ∷ (y ++ zs)) d)

some_paren : (ps : List Param) → Closes (Then (One (Sign s.RightParen)) (λ _. End ps))
some_paren ps = close_one (Sign s.RightParen) close_end

params_goes : Goes DeclaratorsEnd Any (λ (ps : List Param). Then (One (Sign s.RightParen)) (λ _. End ps))
params_goes = after_one (Sign s.RightParen) (λ ps t zs i. (λ j. let e = i.kind in let g = j.kind in cc, λ j. let e = i.kind in let g = j.kind in cc)) (λ ps. close_end)

pub some_params : Closes closed_parameters
some_params = close_then [] [] no_parameter (some_paren [])

module _ {ts : List Token} where
  params_opened : Leaves closed_parameters Any ts ParamsLeft ts
  params_opened = turned (start closed_parameters Any ts) closed_in closed_out

  pub none_read : {r : List Token} → Starts (Sign s.RightParen) ts r → Found closed_parameters Any ts [] r
  none_read i = ends (taken params_opened i.whole into out)
    where
      into : (v : List Param) (ys : List Token) → End [] v ys → ParamsLeft v (i.token ∷ ys)
      into v _ ended = none_left i.is

      out : (v : List Param) (us ys zs : List Token) → ParamsLeft v ys → i.token ∷ us ≡ ys ++ zs → (xs : List Token) × End [] v xs × (us ≡ xs ++ zs)
      out v us _ zs (none_left j) e = ([], ended, cc)
      out v us _ zs (void_left {t} j q) e = let h : i.token ≡ t = cc in let g = ap (λ (t : Token). t.kind) h in let f = j.kind in let f' = i.is.kind in cc
      out v us _ zs (some_left (then {xs = x} {zs = y} d q)) e = absurd (not_type_first (Sign s.RightParen) i.token us ((x ++ y) ++ zs) refl e (rw (append_assoc x y zs) (params_first (y ++ zs) d)) i.is)

  module _ (n : NotNext (Sign s.RightParen) ts) where
    module _ {r1 : List Token} (i : Starts (Keyword w.Void) ts r1) where
      void_paren : Leaves closed_parameters Any ts (Then (One (Sign s.RightParen)) (λ _. End [])) r1
      void_paren = taken params_opened i.whole (λ v ys q. void_left i.is q) (λ v us ys zs q e. out v us ys zs q e)
        where
          out : (v : List Param) (us ys zs : List Token) → ParamsLeft v ys → i.token ∷ us ≡ ys ++ zs → (xs : List Token) × Then (One (Sign s.RightParen)) (λ _. End []) v xs × (us ≡ xs ++ zs)
          out v us _ zs (none_left {t} j) e = let h : i.token ≡ t = cc in let g = ap (λ (t : Token). t.kind) h in let f = j.kind in let f' = i.is.kind in cc
          out v us _ zs (void_left {ys = ys} j q) e = (ys, q, cc)
          out v us _ zs (some_left (then {xs = x} {zs = y} d q)) e = absurd (not_type_first (Keyword w.Void) i.token us ((x ++ y) ++ zs) refl e (rw (append_assoc x y zs) (params_first (y ++ zs) d)) i.is)

      pub void_fails : {r : List Token} → Refused (One (Sign s.RightParen)) Any r1 r → Refused closed_parameters Any ts r
      void_fails f = fails void_paren f (sure (λ u. close_end))

      pub void_read : {r : List Token} → Found (One (Sign s.RightParen)) Any r1 tt r → Found closed_parameters Any ts [] r
      void_read f = ends (read void_paren f (sure (λ u. close_end)))

    module _ (n' : NotNext (Keyword w.Void) ts) where
      listed_left : Leaves closed_parameters Any ts (Then (Commas Parameter) (λ ps. Then (One (Sign s.RightParen)) (λ _. End ps))) ts
      listed_left = also params_opened (λ v ys q. some_left q) (λ v us ys zs a q s e. go v us ys zs a q e)
        where
          go : (v : List Param) (us ys zs : List Token) → SameNext ts us → ParamsLeft v ys → us ≡ ys ++ zs → Then (Commas Parameter) (λ ps. Then (One (Sign s.RightParen)) (λ _. End ps)) v ys
          go v us _ zs a (none_left {t} i) e = absurd (not_next (Sign s.RightParen) t ts zs n (subst (λ us. SameNext ts us) e a) i)
          go v us _ zs a (void_left {t} {ys = ys} i q) e = absurd (not_next (Keyword w.Void) t ts (ys ++ zs) n' (subst (λ us. SameNext ts us) e a) i)
          go v us _ zs a (some_left q) e = q

      pub listed_fails : {r : List Token} → Refused (Commas Parameter) DeclaratorsEnd ts r → Refused closed_parameters Any ts r
      listed_fails f = fails listed_left f params_goes

      module _ {ps : List Param} {r1 : List Token} (f : Found (Commas Parameter) DeclaratorsEnd ts ps r1) where
        paren_left : Leaves closed_parameters Any ts (Then (One (Sign s.RightParen)) (λ _. End ps)) r1
        paren_left = read listed_left f params_goes

        pub paren_fails : {r : List Token} → Refused (One (Sign s.RightParen)) Any r1 r → Refused closed_parameters Any ts r
        paren_fails g = fails paren_left g (sure (λ u. close_end))

        pub params_read : {r : List Token} → Found (One (Sign s.RightParen)) Any r1 tt r → Found closed_parameters Any ts ps r
        params_read g = ends (read paren_left g (sure (λ u. close_end)))
