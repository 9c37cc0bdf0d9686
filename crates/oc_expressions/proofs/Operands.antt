-- Operands, with what stands before and after them.
use Rattle.std.proofs.Common.{◌≡◌, ℕ, ◌≤◌, List, [], ◌∷◌, ◌++◌, Some, refl, ◌∙◌, arith, Bool, true, false, subst, append-nil, append_assoc}
use Rattle.oc_source.specs.declared.spot.Spot.{Spot}
use Rattle.oc_source.specs.declared.parsed.Expr.{Expr}
use Rattle.oc_source.specs.declared.parsed.ExprNode.{ExprNode}
use Rattle.oc_source.specs.declared.parsed.ExprNode.TheVariants as e
use Rattle.oc_lexer.specs.declared.token.Token.{Token}
use Rattle.oc_lexer.specs.declared.token.TokenKind.TheVariants.{Sign}
use Rattle.oc_lexer.specs.declared.token.Sign.{Sign as SignType}
use Rattle.oc_lexer.specs.declared.token.Sign.TheVariants as s
use Rattle.oc_grammar.specs.Tokens.{Is, spot_at}
use Rattle.oc_grammar.specs.Tables.{bump}
use Rattle.oc_source.specs.Parsed.{expr}
use Rattle.oc_grammar.specs.Trees.{prefixed, Leaf}
use Rattle.oc_grammar.specs.Parsing.{ended, Then, then, first, stays, goes, at_last, turn}
use Rattle.oc_grammar.specs.Calls.{one, a_named, Placed, placed}
use Rattle.oc_grammar.specs.Expressions.{Rule, Expression, Before, assign, choose, operation, signed, cast, index, field, arrow, bumped, leaf, named, call, size, parens, at}
use Rattle.oc_grammar.proofs.Parsing.{then_end, loop_snoc, end_is}
use Rattle.oc_expressions.specs.declared.signs.Postfix.{Postfix}
use Rattle.oc_expressions.specs.declared.signs.Postfix.TheVariants as p
use Rattle.oc_expressions.specs.Continuations.{leaf_of, postfix, postfix_after, PostfixStep, postfix_step, postfixes, call_by, by_leaf, by_size, by_name, primary, by_cast, by_inner, Operand, by_paren, by_prefix, by_primary}
use Rattle.oc_expressions.proofs.Levels.{lower, operator_level, begun, Begun, spot_begun}

-- ---- what stands after an operand

data PostfixView : SignType → Postfix → Type 0 where
  is_index : PostfixView s.LeftBracket p.Index
  is_field : PostfixView s.Dot p.Field
  is_arrow : PostfixView s.Arrow p.Arrow
  is_bump : {sign : SignType} {up : Bool} → bump sign ≡ Some up → PostfixView sign (p.Bump up)

moved : {sign : SignType} {a b : Postfix} → PostfixView sign a → Some a ≡ Some b → PostfixView sign b
moved {sign} {a} {b} v h = let g : a ≡ b = cc in subst (λ b. PostfixView sign b) g v

postfix_view : (sign : SignType) (said : Postfix) → postfix sign ≡ Some said → PostfixView sign said
postfix_view s.LeftBracket said h = moved is_index h
postfix_view s.Dot said h = moved is_field h
postfix_view s.Arrow said h = moved is_arrow h
postfix_view s.PlusPlus said h = moved (is_bump refl) h
postfix_view s.MinusMinus said h = moved (is_bump refl) h
postfix_view _ said h = cc

bump_postfix : (sign : SignType) (up : Bool) → bump sign ≡ Some up → postfix sign ≡ Some (p.Bump up)
bump_postfix s.PlusPlus up h = let g : true ≡ up = cc in rw g refl
bump_postfix s.MinusMinus up h = let g : false ≡ up = cc in rw g refl
bump_postfix _ up h = cc

module _ {spot : Spot} where
  postfix_in : {sign : SignType} {said : Postfix} → PostfixView sign said → {l : Expr} (v : Expr) (x ys : List Token) {t : Token} → spot_at x ≡ spot → Expression 14 l x → Is (Sign sign) t → postfix_after spot l said v ys → Expression 14 v (x ++ t ∷ ys)
  postfix_in is_index v x _ g d i (then b q) = let p = end_is q in rw (p.0, p.1, append-nil, ← g) (at {n = 14} (index d i b) (omega arith))
  postfix_in is_field v x _ g d i (then (a_named j) q) = let p = end_is q in rw (p.0, p.1, ← g) (at {n = 14} (field d i j) (omega arith))
  postfix_in is_arrow v x _ g d i (then (a_named j) q) = let p = end_is q in rw (p.0, p.1, ← g) (at {n = 14} (arrow d i j) (omega arith))
  postfix_in (is_bump h) v x ys g d i q = let p = end_is q in rw (p.0, p.1, ← g) (at {n = 14} (bumped d i h) (omega arith))

  postfixes_in : {l v : Expr} (x : List Token) {y : List Token} → spot_at x ≡ spot → Expression 14 l x → postfixes spot l v y → Expression 14 v (x ++ y)
  postfixes_in x g d at_last = rw append-nil d
  postfixes_in x g d (turn {m = m} {t = t} {xs = xs} {ys = ys} (postfix_step {sign} {said} i h q) r) =
      rw (← append_assoc x (t ∷ xs) ys) (postfixes_in (x ++ t ∷ xs) (spot_begun x (t ∷ xs) (begun d) ∙ g) (postfix_in (postfix_view sign said h) m x xs g d i q) r)

-- ---- what stands alone

primary_in : {v : Expr} {x : List Token} → primary v x → Expression 15 v x
primary_in (first (by_leaf (leaf_of d))) = at {n = 15} (leaf d) (omega arith)
primary_in (first {v = v} (by_size i (then (one j) (then (then {xs = y} ty (then (one {t} k) e1)) e2)))) =
    let p = end_is e1 in let q = end_is e2 in rw (q.0, q.1, p.0, p.1, append-nil) (at {n = 15} (size i j ty k) (omega arith))
primary_in (first (by_name i stays)) = at {n = 15} (named i) (omega arith)
primary_in (first {v = v} (by_name i (goes (call_by j (then (then a (then (one k) e1)) e2))))) =
    let p = end_is e1 in let q = end_is e2 in rw (q.0, q.1, p.0, p.1, append-nil) (at {n = 15} (call i j a k) (omega arith))

primary_begun : {v : Expr} {x : List Token} → primary v x → Begun x
primary_begun d = begun (primary_in d)

pub primary_filled : (v : Expr) → primary v [] → ⊥
primary_filled v d = primary_begun d

leaf_out : {node : ExprNode} {t : Token} → Leaf t.kind node → primary (expr t.spot node) (t ∷ [])
leaf_out d = first (by_leaf (leaf_of d))

-- ---- the whole

pub operand_in : (v : Expr) (x : List Token) → Operand v x → Expression 13 v x
operand_in v _ (by_paren {t = a} i (by_cast (then (then {xs = y} ty (then (one {t = b} j) e1)) (then {xs = x} d e2)))) =
    let p = end_is e1 in let q = end_is e2 in rw (q.0, q.1, p.0, p.1, append-nil, append_assoc y (b ∷ []) x) (at {n = 13} (cast i ty j d) (omega arith))
operand_in v _ (by_paren {t = a} i (by_inner (then {xs = x} b q))) = lower (omega arith) (postfixes_in (a ∷ x) refl (at {n = 14} (parens i b) (omega arith)) q)
operand_in v _ (by_prefix i h (then d e)) = let q = end_is e in rw (q.0, q.1, append-nil) (at {n = 13} (signed i h d) (omega arith))
operand_in v _ (by_primary (then {xs = x} (placed d) q)) = lower (omega arith) (postfixes_in x refl (lower (omega arith) (primary_in d)) q)

-- what more may stand after
data Postfixed : Expr → List Token → Type 0 where
  in_parens : {t : Token} {v : Expr} {ys : List Token} → Is (Sign s.LeftParen) t → Then (Before s.RightParen) (λ l. postfixes t.spot l) v ys → Postfixed v (t ∷ ys)
  in_none : {v : Expr} {ys : List Token} → Then (Placed primary) (λ p. postfixes p.0 p.1) v ys → Postfixed v ys

postfixed_operand : {v : Expr} {x : List Token} → Postfixed v x → Operand v x
postfixed_operand (in_parens i q) = by_paren i (by_inner q)
postfixed_operand (in_none q) = by_primary q

postfixed_snoc : {l v : Expr} {t : Token} {x ys : List Token} → Postfixed l x → PostfixStep (spot_at x) l t v ys → Postfixed v (x ++ t ∷ ys)
postfixed_snoc {t = t} {ys = ys} (in_parens i (then {xs = a} {zs = b} d q)) st = in_parens i (rw (append_assoc a b (t ∷ ys)) (then d (loop_snoc q st)))
postfixed_snoc {l} {v} {t = t} {ys = ys} (in_none (then {xs = a} {zs = b} (placed d) q)) st =
    let st' = subst (λ spot. PostfixStep spot l t v ys) (spot_begun a b (primary_begun d)) st in
    in_none (rw (append_assoc a b (t ∷ ys)) (then (placed d) (loop_snoc q st')))

postfixed_alone : {v : Expr} {x : List Token} → primary v x → Postfixed v x
postfixed_alone {v} {x} d = let h : Then (Placed primary) (λ p. postfixes p.0 p.1) v (x ++ []) = then (placed d) at_last in in_none (rw append-nil at h)

postfixed_out : {n : ℕ} {v : Expr} {x : List Token} → Rule n v x → 14 ≤ n → Postfixed v x
postfixed_out (index {v = v} {i = i} {x = x} {y = y} (at d h) j b) g = postfixed_snoc (postfixed_out d h) (postfix_step j refl (then_end (λ i. expr (spot_at x) (e.Index v i)) i y b))
postfixed_out (field {v = v} {x = x} (at d h) i j) g = postfixed_snoc (postfixed_out d h) (postfix_step i refl (then (a_named j) ended))
postfixed_out (arrow {v = v} {x = x} (at d h) i j) g = postfixed_snoc (postfixed_out d h) (postfix_step i refl (then (a_named j) ended))
postfixed_out (bumped {sign = sign} {up = up} (at d h) i o) g = postfixed_snoc (postfixed_out d h) (postfix_step i (bump_postfix sign up o) ended)
postfixed_out (leaf d) g = postfixed_alone (leaf_out d)
postfixed_out (named i) g = postfixed_alone (first (by_name i stays))
postfixed_out (call {n} {t} i j a k) g = postfixed_alone (first (by_name i (goes (call_by j (then_end (λ vs. expr t.spot (e.Call n vs)) _ _ (then a (then (one k) ended)))))))
postfixed_out (size {t = t} i j ty k) g = postfixed_alone (first (by_size i (then (one j) (then_end (λ ty. expr t.spot (e.SizeOf ty)) _ _ (then ty (then (one k) ended))))))
postfixed_out (parens {a = a} {v = v} {x = x} i b) g =
    let h : Then (Before s.RightParen) (λ l. postfixes a.spot l) v (x ++ []) = then b at_last in in_parens i (rw append-nil at h)
postfixed_out (assign d i o r) g = absurd (let P : 14 ≤ 1 → ⊥ = λ a. omega arith in P g)
postfixed_out (choose d i b z) g = absurd (let P : 14 ≤ 2 → ⊥ = λ a. omega arith in P g)
postfixed_out (operation {n} {sign} d i o r) g = let b = operator_level sign n _ o in absurd (let P : 14 ≤ n → n ≤ 12 → ⊥ = λ a b. omega arith in P g b.1)
postfixed_out (signed i o d) g = absurd (let P : 14 ≤ 13 → ⊥ = λ a. omega arith in P g)
postfixed_out (cast i ty j d) g = absurd (let P : 14 ≤ 13 → ⊥ = λ a. omega arith in P g)

pub operand_out : (v : Expr) (x : List Token) → Expression 13 v x → Operand v x
operand_out v _ (at (signed {op = op} {t = t} {v = w} {x = x} i o d) g) = by_prefix i o (then_end (λ w. expr t.spot (prefixed op w)) w x d)
operand_out v _ (at (cast {a = a} {b = b} {to = to} {v = w} {x = x} {y = y} i ty j d) g) =
    by_paren i (by_cast (rw (← append_assoc y (b ∷ []) x) (then (then ty (then (one j) ended)) (then_end (λ w. expr a.spot (e.Cast to w)) w x d))))
operand_out v _ (at (assign d i o r) g) = absurd (let P : 13 ≤ 1 → ⊥ = λ a. omega arith in P g)
operand_out v _ (at (choose d i b z) g) = absurd (let P : 13 ≤ 2 → ⊥ = λ a. omega arith in P g)
operand_out v _ (at (operation {n} {sign} d i o r) g) = let b = operator_level sign n _ o in absurd (let P : 13 ≤ n → n ≤ 12 → ⊥ = λ a b. omega arith in P g b.1)
operand_out v x (at d g) = postfixed_operand (postfixed_out d (omega arith))
