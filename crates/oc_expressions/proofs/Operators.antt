-- Operators between two operands.
use Rattle.std.proofs.Common.{◌≡◌, ℕ, ◌+◌, ◌≤◌, ◌<◌, List, [], ◌∷◌, ◌++◌, Some, refl, ◌∙◌, ap, arith, subst, append-nil, append_assoc}
use Rattle.oc_source.specs.declared.spot.Spot.{Spot}
use Rattle.oc_source.specs.declared.parsed.Expr.{Expr}
use Rattle.oc_lexer.specs.declared.token.Token.{Token}
use Rattle.oc_lexer.specs.declared.token.TokenKind.TheVariants.{Sign}
use Rattle.oc_lexer.specs.declared.token.Sign.{Sign as SignType}
use Rattle.oc_grammar.specs.declared.tables.Infix.{Infix}
use Rattle.oc_grammar.specs.Tokens.{Is, spot_at}
use Rattle.oc_grammar.specs.Tables.{operator}
use Rattle.oc_source.specs.Parsed.{expr}
use Rattle.oc_grammar.specs.Trees.{infixed}
use Rattle.oc_grammar.specs.Parsing.{SameNext, Found, Refused, Leaves, Then, then, Maybe, stays, goes}
use Rattle.oc_grammar.specs.Calls.{Placed, placed}
use Rattle.oc_grammar.specs.Expressions.{Rule, Expression, assign, choose, operation, at, BindsWeaker, Ends}
use Rattle.oc_grammar.proofs.Parsing.{start, turned, read, fails, token_on, alone, same_token, no_token, Goes}
use Rattle.oc_grammar.proofs.Calls.{placed_found, placed_refused}
use Rattle.oc_expressions.specs.Continuations.{Operates, Below}
use Rattle.oc_expressions.proofs.Levels.{lower, some_pair, operator_level, filled, begun, spot_begun, stops_less, stops_kind, goes_kind, same_said}

-- what may follow l, which binds at level m, in an expression of level n that begins at the spot: v is the whole
pub data Rest (spot : Spot) (n : ℕ) : ℕ → Expr → Expr → List Token → Type 0 where
  rest_end : {m : ℕ} {l : Expr} → n ≤ m → Rest spot n m l l []
  rest_more : {m i : ℕ} {sign : SignType} {op : Infix} {l r v : Expr} {t : Token} {x y : List Token} → Is (Sign sign) t → operator sign ≡ Some (i, op) → n ≤ i → i ≤ m → Expression (i + 1) r x → Rest spot n i (expr spot (infixed op l r)) v y → Rest spot n m l v (t ∷ (x ++ y))

same : (n : ℕ) → n ≤ n
same n = omega arith

module _ {spot : Spot} where
  rest_snoc : {i m : ℕ} {sign : SignType} {op : Infix} {l r v : Expr} {t : Token} {x y : List Token} → Rest spot i m l v y → Is (Sign sign) t → operator sign ≡ Some (i, op) → Expression (i + 1) r x → Rest spot i m l (expr spot (infixed op v r)) (y ++ t ∷ x)
  rest_snoc {i} {m} {op = op} {l} {r} {t = t} {x = x} (rest_end h) is o d =
      let q : Rest spot i m l (expr spot (infixed op l r)) (t ∷ (x ++ [])) = rest_more is o (same i) h d (rest_end (same i)) in
      rw append-nil at q
  rest_snoc {t = t} {x = x} (rest_more {x = x'} {y = y} is' o' h h' d' q) is o d =
      rw (append_assoc x' y (t ∷ x)) (rest_more is' o' h h' d' (rest_snoc q is o d))

  rest_lower : {n k m : ℕ} {l v : Expr} {y : List Token} → k ≤ n → Rest spot n m l v y → Rest spot k m l v y
  rest_lower g (rest_end h) = rest_end (omega arith)
  rest_lower g (rest_more is o h h' d q) = rest_more is o (omega arith) h' d (rest_lower g q)

  rest_in : {n m : ℕ} {l v : Expr} (x : List Token) {y : List Token} → spot_at x ≡ spot → Expression m l x → Rest spot n m l v y → Expression n v (x ++ y)
  rest_in x e d (rest_end h) = rw append-nil (lower h d)
  rest_in x e d (rest_more {m} {i} {op = op} {l} {r} {t = t} {x = a} {y = b} is o h h' dr q) =
      let made : Expression i (expr (spot_at x) (infixed op l r)) (x ++ t ∷ a) = at {n = i} (operation (lower h' d) is o dr) (omega arith) in
      rw (← append_assoc x (t ∷ a) b) (rest_in (x ++ t ∷ a) (spot_begun x (t ∷ a) (begun d) ∙ e) (rw e at made) q)

between : ℕ → Expr → List Token → Type 0
between n = Then (Placed (Expression 13)) (λ p. Rest p.0 n 13 p.1)

-- an expression is an operand and what follows it
spelled_out : {n : ℕ} {v : Expr} {x : List Token} → Rule n v x → (k : ℕ) → 3 ≤ k → k ≤ n → k ≤ 13 → between k v x
unfolding between
spelled_out {n} (operation {sign = sign} {op = op} {t = t} {r = r} {x = x} {y = y} (at dl hl) i o dr) k g h h' =
    let b = operator_level sign n op o in
    go (spelled_out dl n (omega arith) hl (omega arith))
  where
    go : {l : Expr} {x : List Token} → between n l x → between k (expr (spot_at x) (infixed op l r)) (x ++ t ∷ y)
    go (then {xs = a} {zs = c} (placed {v = l0} d0) q) =
        rw (append_assoc a c (t ∷ y), spot_begun a c (begun d0)) (then (placed d0) (rest_lower h (rest_snoc q i o dr)))
spelled_out (assign d i o r) k g h h' = absurd (let P : 3 ≤ k → k ≤ 1 → ⊥ = λ a b. omega arith in P g h)
spelled_out (choose d i b z) k g h h' = absurd (let P : 3 ≤ k → k ≤ 2 → ⊥ = λ a b. omega arith in P g h)
spelled_out {v = v} {x = x} d k g h h' =
    let q : Then (Placed (Expression 13)) (λ p. Rest p.0 k 13 p.1) v (x ++ []) = then (placed (at d (omega arith))) (rest_end h') in
    rw append-nil at q

binary_out : (n : ℕ) → 3 ≤ n → n ≤ 13 → (v : Expr) (x : List Token) → Expression n v x → between n v x
binary_out n g h' v x (at d h) = spelled_out d n g h h'

binary_in : (n : ℕ) (v : Expr) (x : List Token) → between n v x → Expression n v x
unfolding between
binary_in n v _ (then {xs = a} (placed d) q) = rest_in a refl d q

-- one turn of the loop over operators
data RestBy (spot : Spot) (n m : ℕ) (l : Expr) (t : Token) : Expr → List Token → Type 0 where
  rest_by : {i : ℕ} {sign : SignType} {op : Infix} {v : Expr} {ys : List Token} → Is (Sign sign) t → operator sign ≡ Some (i, op) → n ≤ i → i ≤ m → Then (Expression (i + 1)) (λ r. Rest spot n i (expr spot (infixed op l r))) v ys → RestBy spot n m l t v ys

rest_turn : {spot : Spot} {n m : ℕ} {l : Expr} (v : Expr) (ys : List Token) → Rest spot n m l v ys → Maybe (RestBy spot n m l) l v ys
rest_turn v _ (rest_end h) = stays
rest_turn v _ (rest_more is o h h' d q) = goes (rest_by is o h h' (then d q))

turn_rest : {spot : Spot} {n m : ℕ} {l : Expr} → n ≤ m → (v : Expr) (ys : List Token) → Maybe (RestBy spot n m l) l v ys → Rest spot n m l v ys
turn_rest h v _ stays = rest_end h
turn_rest h v _ (goes (rest_by is o g g' (then d q))) = rest_more is o g g' d q

rest_follow : {spot : Spot} {n m : ℕ} (k : ℕ) → m < k → {l v : Expr} {ys : List Token} (zs : List Token) → Rest spot n m l v ys → BindsWeaker n zs → BindsWeaker k (ys ++ zs)
rest_follow k g zs (rest_end h) s = stops_less zs (omega arith) s
rest_follow k g zs (rest_more {sign = sign} {t = t} {x = x} {y = y} is o h h' d q) s = stops_kind k t ((x ++ y) ++ zs) (omega (arith, operator_level sign _ _ o)) is

operand_follow : {spot : Spot} {n : ℕ} → n ≤ 13 → {l v : Expr} {ys : List Token} (zs : List Token) → Rest spot n 13 l v ys → BindsWeaker n zs → BindsWeaker 13 (ys ++ zs)
operand_follow g zs (rest_end h) s = stops_less zs g s
operand_follow g zs (rest_more {sign = sign} {t = t} {x = x} {y = y} is o h h' d q) s = stops_kind 13 t ((x ++ y) ++ zs) (omega (arith, operator_level sign _ _ o)) is

module _ (ts : List Token) {n : ℕ} (low : 3 ≤ n) (high : n ≤ 13) where
  binary_opened : Leaves (Expression n) (Ends n) ts (between n) ts
  binary_opened = turned (start (Expression n) (Ends n) ts) (binary_in n) (binary_out n low high)

  between_goes : Goes (λ (p : Spot × Expr). Ends 13 p.1) (Ends n) (λ p. Rest p.0 n 13 p.1)
  between_goes = record { follow = λ b v ys zs q s. operand_follow high zs q s; closes = λ b. (b.1, [], rest_end high) }

  pub binary_fails : {r : List Token} → Refused (Expression 13) (Ends 13) ts r → Refused (Expression n) (Ends n) ts r
  unfolding between
  binary_fails f = fails binary_opened (placed_refused f) between_goes

  pub binary_first : {l : Expr} {r : List Token} → Found (Expression 13) (Ends 13) ts l r → Leaves (Expression n) (Ends n) ts (Rest (spot_at ts) n 13 l) r
  unfolding between
  binary_first f = read binary_opened (placed_found (filled 13) f) between_goes

below_next : (n : ℕ) (t : Token) (rest us : List Token) (sign : SignType) (i : ℕ) (op : Infix) → Below n rest → SameNext rest (t ∷ us) → Is (Sign sign) t → operator sign ≡ Some (i, op) → i < n
below_next n t [] us sign i op b a is o = absurd (no_token t [] us refl a)
below_next n t (u ∷ rest) us sign i op b a is o = b sign i op (subst (λ t. Is (Sign sign) t) (same_token u t (u ∷ rest) rest us refl a) is) o

pub all_below : (ts : List Token) → Below (13 + 1) ts
all_below [] = tt
all_below (t ∷ ts) = λ sign i op is o. omega (arith, operator_level sign i op o)

module _ {ts rest : List Token} {n m i : ℕ} {l : Expr} {op : Infix} {r1 : List Token} (loop : Leaves (Expression n) (Ends n) ts (Rest (spot_at ts) n m l) rest) (above : n ≤ m) (below : Below (m + 1) rest) (s : Operates rest n i op r1) where
  right_form : Expr → List Token → Type 0
  right_form = Then (Expression (i + 1)) (λ r. Rest (spot_at ts) n i (expr (spot_at ts) (infixed op l r)))

  operator_left : Leaves (Expression n) (Ends n) ts right_form r1
  unfolding right_form
  operator_left =
      let k = below_next (m + 1) s.token rest r1 s.sign i op below (rw s.whole (r1, refl)) s.is s.says in
      let cap : i ≤ m = omega arith in
      turned (token_on (turned loop (turn_rest above) rest_turn) s.whole (λ zs h. goes_kind n s.token zs (omega (arith, operator_level s.sign i op s.says, s.above)) s.is h))
      (λ v ys q. rest_by s.is s.says s.above cap q)
      (λ v ys q. go v ys q)
    where
      go : (v : Expr) (ys : List Token) → RestBy (spot_at ts) n m l s.token v ys → Then (Expression (i + 1)) (λ r. Rest (spot_at ts) n i (expr (spot_at ts) (infixed op l r))) v ys
      go v ys (rest_by {i = i'} {op = op'} is o g g' q) =
          let p = some_pair (ap Some (same_said operator is s.is o s.says)) in
          subst (λ j. Then (Expression (i + 1)) (λ r. Rest (spot_at ts) n i (expr (spot_at ts) (infixed j l r))) v ys) p.1
          (subst (λ i. Then (Expression (i + 1)) (λ r. Rest (spot_at ts) n i (expr (spot_at ts) (infixed op' l r))) v ys) p.0 q)

  right_goes : Goes (Ends (i + 1)) (Ends n) (λ r. Rest (spot_at ts) n i (expr (spot_at ts) (infixed op l r)))
  right_goes = record { follow = λ b v ys zs q k. rest_follow (i + 1) (omega arith) zs q k; closes = λ b. (expr (spot_at ts) (infixed op l b), [], rest_end s.above) }

  pub right_fails : {r : List Token} → Refused (Expression (i + 1)) (Ends (i + 1)) r1 r → Refused (Expression n) (Ends n) ts r
  unfolding right_form
  right_fails g = fails operator_left g right_goes

  pub right_read : {v : Expr} {r : List Token} → Found (Expression (i + 1)) (Ends (i + 1)) r1 v r → Leaves (Expression n) (Ends n) ts (Rest (spot_at ts) n i (expr (spot_at ts) (infixed op l v))) r
  unfolding right_form
  right_read g = read operator_left g right_goes

pub binary_done : {ts rest : List Token} {n m : ℕ} {l : Expr} → Leaves (Expression n) (Ends n) ts (Rest (spot_at ts) n m l) rest → n ≤ m → Below n rest → Found (Expression n) (Ends n) ts l rest
binary_done {ts} {rest} {n} {m} {l} loop h b = alone (turned loop (turn_rest h) rest_turn) (λ t us v ys a q. go t us v ys a q)
  where
    go : (t : Token) (us : List Token) (v : Expr) (ys : List Token) → SameNext rest (t ∷ us) → RestBy (spot_at ts) n m l t v ys → ⊥
    go t us v ys a (rest_by {i} {sign} {op} is o g g' q) = let k = below_next n t rest us sign i op b a is o in let P : i < n → n ≤ i → ⊥ = λ a b. omega arith in P k g
