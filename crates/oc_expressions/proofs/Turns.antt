-- The steps of the calls that read operands.
use Rattle.std.proofs.Common.{◌≡◌, ℕ, List, [], ◌∷◌, ◌++◌, Option, Some, None, refl, sym, ◌∙◌, ap, arith, Bool, true, false, subst, append_assoc}
use Rattle.oc_source.specs.declared.spot.Spot.{Spot}
use Rattle.oc_source.specs.declared.parsed.TypeName.{TypeName}
use Rattle.oc_source.specs.declared.parsed.Expr.{Expr}
use Rattle.oc_source.specs.declared.parsed.ExprNode.{ExprNode}
use Rattle.oc_source.specs.declared.parsed.ExprNode.TheVariants as e
use Rattle.oc_lexer.specs.declared.token.Token.{Token}
use Rattle.oc_lexer.specs.declared.token.TokenKind.{TokenKind}
use Rattle.oc_lexer.specs.declared.token.TokenKind.TheVariants.{Name, Keyword, Sign}
use Rattle.oc_lexer.specs.declared.token.Keyword.TheVariants as w
use Rattle.oc_lexer.specs.declared.token.Sign.{Sign as SignType}
use Rattle.oc_lexer.specs.declared.token.Sign.TheVariants as s
use Rattle.oc_grammar.specs.declared.tables.Prefix.{Prefix}
use Rattle.oc_grammar.specs.declared.taking.Named.{Named}
use Rattle.oc_grammar.specs.declared.tables.Opening.TheVariants as o
use Rattle.oc_grammar.specs.Tokens.{Is, Starts, NotNext, SignStarts, NoSign, spot_at}
use Rattle.oc_grammar.specs.Tables.{prefix, opening}
use Rattle.oc_source.specs.Parsed.{expr}
use Rattle.oc_grammar.specs.Trees.{prefixed, Leaf, number, character, text, null, truth, falsity}
use Rattle.oc_grammar.specs.Parsing.{SameNext, Found, Refused, Leaves, Any, End, ended, Then, then, By, first, at_last, turn}
use Rattle.oc_grammar.specs.Calls.{One, one, ANamed, Placed, placed}
use Rattle.oc_grammar.specs.WrittenTypes.{Commas}
use Rattle.oc_grammar.specs.Expressions.{Expression, Before, before, none, some, Listed, last, more, BindsWeaker, Ends}
use Rattle.oc_grammar.proofs.Parsing.{start, also, turned, read, fails, ends, token_on, alone, Goes, sure, Closes, close_end, close_then, after_end, loop_on, loop_done, by_end, by_none, by_left, end_is, taken}
use Rattle.oc_grammar.proofs.Calls.{made, is_made, not_next, no_sign, after_one, placed_found, placed_refused}
use Rattle.oc_declarators.specs.Continuations.{closed_type}
use Rattle.oc_expressions.specs.declared.signs.Postfix.{Postfix}
use Rattle.oc_expressions.specs.declared.signs.Postfix.TheVariants as p
use Rattle.std.proofs.Math.Bool.{Bool-set}
use Rattle.oc_values.specs.declared.integers.IntKind.{IntKind}
use Rattle.oc_source.specs.declared.literal.Literal.{Literal}
use Rattle.oc_source.specs.Literals.{is_literal}
use Rattle.oc_source.specs.declared.parsed.BaseName.{BaseName}
use Rattle.oc_grammar.specs.WrittenTypes.{Base, type_named, last as last_one, more as one_more}
use Rattle.oc_grammar.proofs.Lists.{CommaEnds}
use Rattle.oc_declarators.specs.Continuations.{base_after}
use Rattle.oc_declarators.proofs.Marks.{base_out}
use Rattle.oc_declarators.proofs.Names.{some_closed}
use Rattle.oc_expressions.specs.Continuations.{begins, LeafOf, leaf_of, postfix, postfix_after, PostfixStep, postfix_step, postfixes, closed_arguments, CallBy, call_by, size_after, name_after, PrimaryBy, by_leaf, by_size, by_name, primary, ParenAfter, by_cast, by_inner, Operand, by_paren, by_prefix, by_primary, BeginsType}
use Rattle.oc_expressions.proofs.Levels.{postfix_level, begun, Begun, begins_other, begun_append, stops_less, stops_kind, goes_kind, same_said, some_expr}
use Rattle.oc_expressions.proofs.Operands.{operand_in, operand_out, primary_filled}

-- ---- what stands after an operand

module _ {spot : Spot} {f l : Expr} {ts rest : List Token} (loop : Leaves (postfixes spot f) (Ends 13) ts (postfixes spot l) rest) where
  pub postfixes_done : NoSign postfix rest → Found (postfixes spot f) (Ends 13) ts l rest
  postfixes_done n = loop_done loop (λ t us m xs a d. go t us m xs a d)
    where
      go : (t : Token) (us : List Token) (m : Expr) (xs : List Token) → SameNext rest (t ∷ us) → PostfixStep spot l t m xs → ⊥
      go t us m xs a (postfix_step {sign} {said} i h q) = no_sign postfix t rest us sign said n a i h

  module _ {said : Postfix} {r1 : List Token} (here : SignStarts postfix rest said r1) where
    postfix_left : Leaves (postfixes spot f) (Ends 13) ts (Then (postfix_after spot l said) (λ m. postfixes spot m)) r1
    postfix_left = turned (loop_on loop here.whole (λ zs h. goes_kind 13 here.token zs (omega (arith, postfix_level here.sign said here.says)) here.is h)) into out
      where
        into : (v : Expr) (ys : List Token) → Then (postfix_after spot l said) (λ m. postfixes spot m) v ys → Then (PostfixStep spot l here.token) (λ m. postfixes spot m) v ys
        into v _ (then d q) = then (postfix_step here.is here.says d) q

        out : (v : Expr) (ys : List Token) → Then (PostfixStep spot l here.token) (λ m. postfixes spot m) v ys → Then (postfix_after spot l said) (λ m. postfixes spot m) v ys
        out v _ (then {w = m} {xs = xs} (postfix_step i h d) q) = then (subst (λ said. postfix_after spot l said m xs) (same_said postfix i here.is h here.says) d) q

    pub postfixed_fails : {r : List Token} → Refused (postfix_after spot l said) Any r1 r → Refused (postfixes spot f) (Ends 13) ts r
    postfixed_fails g = fails postfix_left g (sure (λ b. (b, [], at_last)))

    pub postfixed_read : {m : Expr} {r : List Token} → Found (postfix_after spot l said) Any r1 m r → Leaves (postfixes spot f) (Ends 13) ts (postfixes spot m) r
    postfixed_read g = read postfix_left g (sure (λ b. (b, [], at_last)))

module _ (spot : Spot) (l : Expr) {ts : List Token} where
  pub index_fails : {r : List Token} → Refused (Before s.RightBracket) Any ts r → Refused (postfix_after spot l p.Index) Any ts r
  index_fails f = fails (start (postfix_after spot l p.Index) Any ts) f (sure (λ b. close_end))

  pub index_read : {i : Expr} {r : List Token} → Found (Before s.RightBracket) Any ts i r → Found (postfix_after spot l p.Index) Any ts (expr spot (e.Index l i)) r
  index_read f = ends (read (start (postfix_after spot l p.Index) Any ts) f (sure (λ b. close_end)))

  pub field_fails : {r : List Token} → Refused ANamed Any ts r → Refused (postfix_after spot l p.Field) Any ts r
  field_fails f = fails (start (postfix_after spot l p.Field) Any ts) f (sure (λ b. close_end))

  pub field_read : {n : Named} {r : List Token} → Found ANamed Any ts n r → Found (postfix_after spot l p.Field) Any ts (expr spot (e.Field l n.name)) r
  field_read f = ends (read (start (postfix_after spot l p.Field) Any ts) f (sure (λ b. close_end)))

  pub arrow_fails : {r : List Token} → Refused ANamed Any ts r → Refused (postfix_after spot l p.Arrow) Any ts r
  arrow_fails f = fails (start (postfix_after spot l p.Arrow) Any ts) f (sure (λ b. close_end))

  pub arrow_read : {n : Named} {r : List Token} → Found ANamed Any ts n r → Found (postfix_after spot l p.Arrow) Any ts (expr spot (e.Arrow l n.name)) r
  arrow_read f = ends (read (start (postfix_after spot l p.Arrow) Any ts) f (sure (λ b. close_end)))

  pub bump_read : (up : Bool) → Found (postfix_after spot l (p.Bump up)) Any ts (expr spot (e.Bump up false l)) ts
  bump_read up = ends (start (postfix_after spot l (p.Bump up)) Any ts)

-- ---- an operand

no_said : {R : Type 0} (table : SignType → Option R) {t : Token} {a b : SignType} {r : R} → Is (Sign a) t → Is (Sign b) t → table a ≡ None → table b ≡ Some r → ⊥
no_said table i j h g = let p = i.kind in let q = j.kind in cc

leaf_sign : {k : TokenKind} {node : ExprNode} (sign : SignType) → Leaf k node → k ≡ Sign sign → ⊥
leaf_sign sign (number n) h = cc
leaf_sign sign (character n a b) h = cc
leaf_sign sign (text bytes) h = cc
leaf_sign sign null h = cc
leaf_sign sign (truth n a b) h = cc
leaf_sign sign (falsity n a b) h = cc

primary_sign : {t : Token} (sign : SignType) {v : Expr} {ys : List Token} → PrimaryBy t v ys → Is (Sign sign) t → ⊥
primary_sign sign (by_leaf (leaf_of d)) i = leaf_sign sign d i.kind
primary_sign sign (by_size j q) i = let a = i.kind in let b = j.kind in cc
primary_sign sign (by_name j q) i = let a = i.kind in let b = j.kind in cc

first_spot : {t : Token} {ts rest : List Token} → ts ≡ t ∷ rest → t.spot ≡ spot_at ts
first_spot h = rw h refl

operand_opened : (ts : List Token) → Leaves (Expression 13) (Ends 13) ts Operand ts
operand_opened ts = turned (start (Expression 13) (Ends 13) ts) operand_in operand_out

postfixes_follow : (b : Spot × Expr) (v : Expr) (ys zs : List Token) → postfixes b.0 b.1 v ys → BindsWeaker 13 zs → BindsWeaker 15 (ys ++ zs)
postfixes_follow b v _ zs at_last k = stops_less zs (omega arith) k
postfixes_follow b v _ zs (turn {t = t} {xs = xs} {ys = ys} (postfix_step {sign} {said} i h q) r) k = stops_kind 15 t ((xs ++ ys) ++ zs) (omega (arith, postfix_level sign said h)) i

primary_goes : Goes (λ (p : Spot × Expr). Ends 15 p.1) (Ends 13) (λ p. postfixes p.0 p.1)
primary_goes = record { follow = postfixes_follow; closes = λ b. (b.1, [], at_last) }

module _ {ts : List Token} where
  pub paren_left : {r1 : List Token} → Starts (Sign s.LeftParen) ts r1 → Leaves (Expression 13) (Ends 13) ts (ParenAfter (spot_at ts)) r1
  paren_left {r1} here = taken (operand_opened ts) here.whole (λ v ys q. by_paren here.is (rw (first_spot here.whole) q)) go
    where
      go : (v : Expr) (us ys zs : List Token) → Operand v ys → here.token ∷ us ≡ ys ++ zs → (xs : List Token) × ParenAfter (spot_at ts) v xs × (us ≡ xs ++ zs)
      go v us _ zs (by_paren {t} {ys = ys} i q) g = let h : t ≡ here.token = cc in (ys, subst (λ spot. ParenAfter spot v ys) (ap (λ (t : Token). t.spot) h ∙ first_spot here.whole) q, cc)
      go v us _ zs (by_prefix {t} {sign} i o q) g = let h : t ≡ here.token = cc in absurd (no_said prefix (subst (λ t. Is (Sign s.LeftParen) t) (sym h) here.is) i refl o)
      go v us _ zs (by_primary (then (placed (first {t} d)) q)) g = let h : t ≡ here.token = cc in absurd (primary_sign s.LeftParen d (subst (λ t. Is (Sign s.LeftParen) t) (sym h) here.is))

  module _ {op : Prefix} {r1 : List Token} (here : SignStarts prefix ts op r1) where
    part_left : Leaves (Expression 13) (Ends 13) ts (Then (Expression 13) (λ w. End (expr (spot_at ts) (prefixed op w)))) r1
    part_left = taken (operand_opened ts) here.whole (λ v ys q. by_prefix here.is here.says (rw (first_spot here.whole) q)) go
      where
        go : (v : Expr) (us ys zs : List Token) → Operand v ys → here.token ∷ us ≡ ys ++ zs → (xs : List Token) × Then (Expression 13) (λ w. End (expr (spot_at ts) (prefixed op w))) v xs × (us ≡ xs ++ zs)
        go v us _ zs (by_paren {t} i q) g = let h : t ≡ here.token = cc in absurd (no_said prefix (subst (λ t. Is (Sign s.LeftParen) t) h i) here.is refl here.says)
        go v us _ zs (by_prefix {t} {sign = sign} {op = op'} {ys = ys} i o q) g =
            let h : t ≡ here.token = cc in
            let k = same_said prefix (subst (λ t. Is (Sign sign) t) h i) here.is o here.says in
            (ys, subst (λ spot. Then (Expression 13) (λ w. End (expr spot (prefixed op w))) v ys) (ap (λ (t : Token). t.spot) h ∙ first_spot here.whole) (subst (λ op. Then (Expression 13) (λ w. End (expr t.spot (prefixed op w))) v ys) k q), cc)
        go v us _ zs (by_primary (then (placed (first {t} d)) q)) g = let h : t ≡ here.token = cc in absurd (primary_sign here.sign d (subst (λ t. Is (Sign here.sign) t) (sym h) here.is))

    pub part_fails : {r : List Token} → Refused (Expression 13) (Ends 13) r1 r → Refused (Expression 13) (Ends 13) ts r
    part_fails f = fails part_left f (after_end (λ w. expr (spot_at ts) (prefixed op w)) (λ b zs k. k))

    pub part_read : {w : Expr} {r : List Token} → Found (Expression 13) (Ends 13) r1 w r → Found (Expression 13) (Ends 13) ts (expr (spot_at ts) (prefixed op w)) r
    part_read f = ends (read part_left f (after_end (λ w. expr (spot_at ts) (prefixed op w)) (λ b zs k. k)))

  module _ (n1 : NotNext (Sign s.LeftParen) ts) (n2 : NoSign prefix ts) where
    plain_left : Leaves (Expression 13) (Ends 13) ts (Then (Placed primary) (λ p. postfixes p.0 p.1)) ts
    plain_left = also (operand_opened ts) (λ v ys q. by_primary q) (λ v us ys zs a d k g. go v us ys zs a d g)
      where
        go : (v : Expr) (us ys zs : List Token) → SameNext ts us → Operand v ys → us ≡ ys ++ zs → Then (Placed primary) (λ p. postfixes p.0 p.1) v ys
        go v us _ zs a (by_paren {t} {ys = ys} i q) g = absurd (not_next (Sign s.LeftParen) t ts (ys ++ zs) n1 (subst (λ us. SameNext ts us) g a) i)
        go v us _ zs a (by_prefix {t} {sign} {op} {ys = ys} i o q) g = absurd (no_sign prefix t ts (ys ++ zs) sign op n2 (subst (λ us. SameNext ts us) g a) i o)
        go v us _ zs a (by_primary q) g = q

    pub plain_fails : {r : List Token} → Refused primary (Ends 15) ts r → Refused (Expression 13) (Ends 13) ts r
    plain_fails f = fails plain_left (placed_refused f) primary_goes

    pub plain_read : {l : Expr} {r : List Token} → Found primary (Ends 15) ts l r → Leaves (Expression 13) (Ends 13) ts (postfixes (spot_at ts) l) r
    plain_read f = read plain_left (placed_found primary_filled f) primary_goes

-- ---- after an opening parenthesis

base_first : {b : BaseName} {x : List Token} (zs : List Token) → Base b x → BeginsType (x ++ zs)
base_first {b} {x} zs d = go (base_out b x d)
  where
    go : {x : List Token} → By (λ t. base_after t.spot (opening t.kind)) b x → BeginsType (x ++ zs)
    go (first {t} {ys = ys} q) = λ h. none_other ys (rw h at q)
      where
        none_other : (ys : List Token) → base_after t.spot o.Other b ys → ⊥
        none_other _ (then d q) = d

type_first : {ty : TypeName} {x : List Token} (zs : List Token) → closed_type ty x → BeginsType (x ++ zs)
type_first zs (then {zs = c} (type_named {x = a} {y = b} d i) q) = rw (append_assoc (a ++ b) c zs, append_assoc a b (c ++ zs)) (base_first (b ++ (c ++ zs)) d)

before_begun : {sign : SignType} {v : Expr} {x : List Token} → Before sign v x → Begun x
before_begun (before {x = x} d i) = begun_append x _ (begun d)

type_not_begun : (ts us : List Token) → BeginsType ts → SameNext ts us → Begun us → ⊥
type_not_begun [] us h a b = h
type_not_begun (t ∷ ts) us h (m, g) b = let c : begins t.kind ≡ true = rw g at b in h (begins_other t.kind c)

not_type : (ts us : List Token) → (BeginsType ts → ⊥) → SameNext ts us → BeginsType us → ⊥
not_type [] us n a h = let b : BeginsType [] = rw a at h in b
not_type (t ∷ ts) us n (m, g) h = n (rw g at h)

some_operand : (spot : Spot) (ty : TypeName) → Closes (Then (Expression 13) (λ w. End (expr spot (e.Cast ty w))))
some_operand spot ty = let (v, x, d) = some_expr 13 (omega arith) in close_then v x d close_end

module _ (spot : Spot) {ts : List Token} where
  module _ (h : BeginsType ts) where
    cast_left : Leaves (ParenAfter spot) (Ends 13) ts (Then closed_type (λ ty. Then (Expression 13) (λ w. End (expr spot (e.Cast ty w))))) ts
    cast_left = also (start (ParenAfter spot) (Ends 13) ts) (λ v ys q. by_cast q) (λ v us ys zs a d k g. go v us ys zs a d g)
      where
        go : (v : Expr) (us ys zs : List Token) → SameNext ts us → ParenAfter spot v ys → us ≡ ys ++ zs → Then closed_type (λ ty. Then (Expression 13) (λ w. End (expr spot (e.Cast ty w)))) v ys
        go v us _ zs a (by_cast q) g = q
        go v us _ zs a (by_inner (then {xs = b} {zs = c} d q)) g = absurd (type_not_begun ts us h a (rw g (begun_append (b ++ c) zs (begun_append b c (before_begun d)))))

    pub type_fails : {r : List Token} → Refused closed_type Any ts r → Refused (ParenAfter spot) (Ends 13) ts r
    type_fails f = fails cast_left f (sure (some_operand spot))

    module _ {ty : TypeName} {r1 : List Token} (f : Found closed_type Any ts ty r1) where
      pub cast_fails : {r : List Token} → Refused (Expression 13) (Ends 13) r1 r → Refused (ParenAfter spot) (Ends 13) ts r
      cast_fails g = fails (read cast_left f (sure (some_operand spot))) g (after_end (λ w. expr spot (e.Cast ty w)) (λ b zs k. k))

      pub cast_read : {w : Expr} {r : List Token} → Found (Expression 13) (Ends 13) r1 w r → Found (ParenAfter spot) (Ends 13) ts (expr spot (e.Cast ty w)) r
      cast_read g = ends (read (read cast_left f (sure (some_operand spot))) g (after_end (λ w. expr spot (e.Cast ty w)) (λ b zs k. k)))

  module _ (n : BeginsType ts → ⊥) where
    inner_left : Leaves (ParenAfter spot) (Ends 13) ts (Then (Before s.RightParen) (λ l. postfixes spot l)) ts
    inner_left = also (start (ParenAfter spot) (Ends 13) ts) (λ v ys q. by_inner q) (λ v us ys zs a d k g. go v us ys zs a d g)
      where
        go : (v : Expr) (us ys zs : List Token) → SameNext ts us → ParenAfter spot v ys → us ≡ ys ++ zs → Then (Before s.RightParen) (λ l. postfixes spot l) v ys
        go v us _ zs a (by_cast (then {xs = b} {zs = c} d q)) g = absurd (not_type ts us n a (rw (g, append_assoc b c zs) (type_first (c ++ zs) d)))
        go v us _ zs a (by_inner q) g = q

    pub inner_fails : {r : List Token} → Refused (Before s.RightParen) Any ts r → Refused (ParenAfter spot) (Ends 13) ts r
    inner_fails f = fails inner_left f (sure (λ b. (b, [], at_last)))

    pub inner_read : {l : Expr} {r : List Token} → Found (Before s.RightParen) Any ts l r → Leaves (ParenAfter spot) (Ends 13) ts (postfixes spot l) r
    inner_read f = read inner_left f (sure (λ b. (b, [], at_last)))

-- ---- what stands alone

abbrev literal : (k : IntKind) (n : ℕ) → is_literal k n ≡ true → Literal
literal k n h = record { kind = k; value = n; of_kind = h }

literal_at : (k : IntKind) (n : ℕ) (h : is_literal k n ≡ true) (k' : IntKind) → k ≡ k' → (n' : ℕ) → n ≡ n' → (h' : is_literal k' n' ≡ true) → literal k n h ≡ literal k' n' h'
literal_at k n h k' e n' f =
    subst (λ k'. (h' : is_literal k' n' ≡ true) → literal k n h ≡ literal k' n' h') e
    (subst (λ n'. (h' : is_literal k n' ≡ true) → literal k n h ≡ literal k n' h') f (λ h'. ap (λ h. literal k n h) (Bool-set _ _ h h')))

literal_same : (a b : Literal) → a.kind ≡ b.kind → a.value ≡ b.value → a ≡ b
literal_same a b h g = literal_at a.kind a.value a.of_kind b.kind h b.value g b.of_kind

-- a kind is one leaf
leaf_node_same : {k k' : TokenKind} {n m : ExprNode} → Leaf k n → Leaf k' m → k ≡ k' → n ≡ m
leaf_node_same (number a) (number b) h = let g : a ≡ b = cc in ap e.Number g
leaf_node_same (character a f g) (character b f' g') h = ap e.Number (literal_same a b (f ∙ sym f') (cc))
leaf_node_same (text a) (text b) h = let g : a ≡ b = cc in ap e.Text g
leaf_node_same null null h = refl
leaf_node_same (truth a f g) (truth b f' g') h = ap e.Number (literal_same a b (f ∙ sym f') (g ∙ sym g'))
leaf_node_same (falsity a f g) (falsity b f' g') h = ap e.Number (literal_same a b (f ∙ sym f') (g ∙ sym g'))
leaf_node_same _ _ h = cc

leaf_same : {t : Token} {v w : Expr} → LeafOf t v → LeafOf t w → w ≡ v
leaf_same {t} (leaf_of d) (leaf_of d') = ap (expr t.spot) (leaf_node_same d' d refl)

leaf_kind : {k : TokenKind} {node : ExprNode} → Leaf k node → (k ≡ Keyword w.Sizeof → ⊥) × ((n : List ℕ) → k ≡ Name n → ⊥)
leaf_kind (number a) = (λ h. cc, λ n h. cc)
leaf_kind (character a f g) = (λ h. cc, λ n h. cc)
leaf_kind (text a) = (λ h. cc, λ n h. cc)
leaf_kind null = (λ h. cc, λ n h. cc)
leaf_kind (truth a f g) = (λ h. cc, λ n h. cc)
leaf_kind (falsity a f g) = (λ h. cc, λ n h. cc)

not_size : {t : Token} {v : Expr} → LeafOf t v → Is (Keyword w.Sizeof) t → ⊥
not_size (leaf_of d) i = (leaf_kind d).0 i.kind

not_name : {t : Token} {v : Expr} {n : List ℕ} → LeafOf t v → Is (Name n) t → ⊥
not_name {n = n} (leaf_of d) i = (leaf_kind d).1 n i.kind

some_primary : Closes primary
some_primary = let i = is_made (Keyword w.Null) in (expr (made (Keyword w.Null)).spot e.NullPointer, made (Keyword w.Null) ∷ [], first (by_leaf (leaf_of (rw i.kind null))))

module _ {ts : List Token} where
  pub primary_end : ts ≡ [] → Refused primary (Ends 15) ts ts
  primary_end is = by_end (start primary (Ends 15) ts) some_primary is

  module _ {t : Token} {rest : List Token} (is : ts ≡ t ∷ rest) where
    pub primary_none : ((v : Expr) → LeafOf t v → ⊥) → (Is (Keyword w.Sizeof) t → ⊥) → ((n : List ℕ) → Is (Name n) t → ⊥) → Refused primary (Ends 15) ts ts
    primary_none h1 h2 h3 = by_none (start primary (Ends 15) ts) some_primary is (λ v ys q. go v ys q)
      where
        go : (v : Expr) (ys : List Token) → PrimaryBy t v ys → ⊥
        go v _ (by_leaf d) = h1 v d
        go v ys (by_size i q) = h2 i
        go v ys (by_name {n} i q) = h3 n i

    pub leaf_read : {v : Expr} → LeafOf t v → Found primary (Ends 15) ts v rest
    leaf_read {v} d = ends (by_left (start primary (Ends 15) ts) is into out)
      where
        into : (w : Expr) (ys : List Token) → End v w ys → PrimaryBy t w ys
        into w _ ended = by_leaf d

        out : (w : Expr) (ys : List Token) → PrimaryBy t w ys → End v w ys
        out w _ (by_leaf d') = rw (leaf_same d d') ended
        out w ys (by_size i q) = absurd (not_size d i)
        out w ys (by_name i q) = absurd (not_name d i)

    pub size_left : Is (Keyword w.Sizeof) t → Leaves primary (Ends 15) ts (size_after t.spot) rest
    size_left i = by_left (start primary (Ends 15) ts) is (λ v ys q. by_size i q) (λ v ys q. go v ys q)
      where
        go : (v : Expr) (ys : List Token) → PrimaryBy t v ys → size_after t.spot v ys
        go v _ (by_leaf d) = absurd (not_size d i)
        go v ys (by_size j q) = q
        go v ys (by_name j q) = let a = i.kind in let b = j.kind in cc

    pub name_left : {n : List ℕ} → Is (Name n) t → Leaves primary (Ends 15) ts (name_after t.spot n) rest
    name_left {n} i = by_left (start primary (Ends 15) ts) is (λ v ys q. by_name i q) (λ v ys q. go v ys q)
      where
        go : (v : Expr) (ys : List Token) → PrimaryBy t v ys → name_after t.spot n v ys
        go v _ (by_leaf d) = absurd (not_name d i)
        go v ys (by_size j q) = let a = i.kind in let b = j.kind in cc
        go v ys (by_name {n = m} j q) = let a = i.kind in let b = j.kind in let h : m ≡ n = cc in subst (λ n. name_after t.spot n v ys) h q

-- ---- `sizeof`

some_size : (spot : Spot) → Closes (Then closed_type (λ ty. End (expr spot (e.SizeOf ty))))
some_size spot = let (ty, x, d) = some_closed in close_then ty x d close_end

module _ (spot : Spot) {ts : List Token} where
  pub size_open_fails : {r : List Token} → Refused (One (Sign s.LeftParen)) Any ts r → Refused (size_after spot) (Ends 15) ts r
  size_open_fails f = fails (start (size_after spot) (Ends 15) ts) f (sure (λ u. some_size spot))

  module _ {r1 : List Token} (f : Found (One (Sign s.LeftParen)) Any ts tt r1) where
    size_type_left : Leaves (size_after spot) (Ends 15) ts (Then closed_type (λ ty. End (expr spot (e.SizeOf ty)))) r1
    size_type_left = read (start (size_after spot) (Ends 15) ts) f (sure (λ u. some_size spot))

    pub size_type_fails : {r : List Token} → Refused closed_type Any r1 r → Refused (size_after spot) (Ends 15) ts r
    size_type_fails g = fails size_type_left g (sure (λ b. close_end))

    pub size_read : {ty : TypeName} {r : List Token} → Found closed_type Any r1 ty r → Found (size_after spot) (Ends 15) ts (expr spot (e.SizeOf ty)) r
    size_read g = ends (read size_type_left g (sure (λ b. close_end)))

-- ---- calls

module _ (spot : Spot) (n : List ℕ) {ts : List Token} where
  pub call_alone : NotNext (Sign s.LeftParen) ts → Found (name_after spot n) (Ends 15) ts (expr spot (e.Named n)) ts
  call_alone out = alone (start (name_after spot n) (Ends 15) ts) (λ t us v ys a q. go t us v ys a q)
    where
      go : (t : Token) (us : List Token) (v : Expr) (ys : List Token) → SameNext ts (t ∷ us) → CallBy spot n t v ys → ⊥
      go t us v ys a (call_by i q) = not_next (Sign s.LeftParen) t ts us out a i

  module _ {r1 : List Token} (here : Starts (Sign s.LeftParen) ts r1) where
    call_left : Leaves (name_after spot n) (Ends 15) ts (Then closed_arguments (λ vs. End (expr spot (e.Call n vs)))) r1
    call_left = turned (token_on (start (name_after spot n) (Ends 15) ts) here.whole (λ zs h. goes_kind 15 here.token zs (omega arith) here.is h)) (λ v ys q. call_by here.is q) (λ v ys q. go v ys q)
      where
        go : (v : Expr) (ys : List Token) → CallBy spot n here.token v ys → Then closed_arguments (λ vs. End (expr spot (e.Call n vs))) v ys
        go v ys (call_by i q) = q

    pub call_fails : {r : List Token} → Refused closed_arguments Any r1 r → Refused (name_after spot n) (Ends 15) ts r
    call_fails f = fails call_left f (sure (λ b. close_end))

    pub call_read : {vs : List Expr} {r : List Token} → Found closed_arguments Any r1 vs r → Found (name_after spot n) (Ends 15) ts (expr spot (e.Call n vs)) r
    call_read f = ends (read call_left f (sure (λ b. close_end)))

-- ---- arguments

commas_listed : {vs : List Expr} {x : List Token} → Commas (Expression 1) vs x → Listed vs x
commas_listed (last_one d) = last d
commas_listed (one_more d i q) = more d i (commas_listed q)

listed_commas : {vs : List Expr} {x : List Token} → Listed vs x → Commas (Expression 1) vs x
listed_commas (last d) = last_one d
listed_commas (more d i q) = one_more d i (listed_commas q)

listed_begun : {vs : List Expr} {x : List Token} → Listed vs x → Begun x
listed_begun (last d) = begun d
listed_begun (more {x = x} d i q) = begun_append x _ (begun d)

close_begun : (t : Token) (us x zs : List Token) → Is (Sign s.RightParen) t → Begun x → t ∷ us ≡ x ++ zs → ⊥
close_begun t us [] zs i b g = b
close_begun t us (u ∷ x) zs i b g = let h : t ≡ u = cc in let c : begins t.kind ≡ true = rw h b in let d : begins (Sign s.RightParen) ≡ true = rw i.kind at c in let k : false ≡ true = d in cc

args_goes : Goes {A = List Expr} (CommaEnds (BindsWeaker 1)) Any (λ vs. Then (One (Sign s.RightParen)) (λ _. End vs))
args_goes = after_one (Sign s.RightParen) (λ b t zs i. (λ j. let x = i.kind in let y = j.kind in cc, stops_kind 1 t zs (omega arith) i)) (λ b. close_end)

module _ {ts : List Token} where
  pub args_none : {r : List Token} → Starts (Sign s.RightParen) ts r → Found closed_arguments Any ts [] r
  args_none {r} here = record {
    front = here.token ∷ [];
    whole = here.whole;
    derives = then none (then (one here.is) ended);
    only = λ us xs zs v a d k g. go us xs zs v d g;
  }
    where
      go : (us xs zs : List Token) (v : List Expr) → closed_arguments v xs → here.token ∷ us ≡ xs ++ zs → (v ≡ []) × (zs ≡ us)
      go us _ zs v (then none (then (one i) q)) g = let p = end_is q in let h = p.1 in (p.0, cc)
      go us _ zs v (then {xs = a} {zs = b} (some d) q) g = absurd (close_begun here.token us a (b ++ zs) here.is (listed_begun d) (g ∙ append_assoc a b zs))

  module _ (n : NotNext (Sign s.RightParen) ts) where
    args_left : Leaves closed_arguments Any ts (Then (Commas (Expression 1)) (λ vs. Then (One (Sign s.RightParen)) (λ _. End vs))) ts
    args_left = also (start closed_arguments Any ts) into (λ v us ys zs a d k g. go v us ys zs a d g)
      where
        into : (v : List Expr) (ys : List Token) → Then (Commas (Expression 1)) (λ vs. Then (One (Sign s.RightParen)) (λ _. End vs)) v ys → closed_arguments v ys
        into v _ (then d q) = then (some (commas_listed d)) q

        go : (v : List Expr) (us ys zs : List Token) → SameNext ts us → closed_arguments v ys → us ≡ ys ++ zs → Then (Commas (Expression 1)) (λ vs. Then (One (Sign s.RightParen)) (λ _. End vs)) v ys
        go v us _ zs a (then none (then {zs = c} (one {t} i) q)) g = absurd (not_next (Sign s.RightParen) t ts (c ++ zs) n (subst (λ us. SameNext ts us) g a) i)
        go v us _ zs a (then (some d) q) g = then (listed_commas d) q

    pub list_fails : {r : List Token} → Refused (Commas (Expression 1)) (CommaEnds (BindsWeaker 1)) ts r → Refused closed_arguments Any ts r
    list_fails f = fails args_left f args_goes

    module _ {vs : List Expr} {r1 : List Token} (f : Found (Commas (Expression 1)) (CommaEnds (BindsWeaker 1)) ts vs r1) where
      pub close_fails : {r : List Token} → Refused (One (Sign s.RightParen)) Any r1 r → Refused closed_arguments Any ts r
      close_fails g = fails (read args_left f args_goes) g (sure (λ u. close_end))

      pub args_read : {r : List Token} → Found (One (Sign s.RightParen)) Any r1 tt r → Found closed_arguments Any ts vs r
      args_read g = ends (read (read args_left f args_goes) g (sure (λ u. close_end)))

pub comma_stops : (t : Token) (zs : List Token) → Is (Sign s.Comma) t → BindsWeaker 1 (t ∷ zs)
comma_stops t zs i = stops_kind 1 t zs (omega arith) i
