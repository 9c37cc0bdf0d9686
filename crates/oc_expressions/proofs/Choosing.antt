-- Choices and assignments.
use Rattle.std.proofs.Common.{◌≡◌, ◌≤◌, List, [], ◌∷◌, ◌++◌, Option, arith, subst, append-nil}
use Rattle.oc_values.specs.declared.integers.BinaryOp.{BinaryOp}
use Rattle.oc_source.specs.declared.spot.Spot.{Spot}
use Rattle.oc_source.specs.declared.parsed.Expr.{Expr}
use Rattle.oc_source.specs.declared.parsed.ExprNode.TheVariants as e
use Rattle.oc_lexer.specs.declared.token.Token.{Token}
use Rattle.oc_lexer.specs.declared.token.TokenKind.TheVariants.{Sign}
use Rattle.oc_lexer.specs.declared.token.Sign.{Sign as SignType}
use Rattle.oc_lexer.specs.declared.token.Sign.TheVariants as s
use Rattle.oc_grammar.specs.Tokens.{Starts, NotNext, SignStarts, NoSign, spot_at}
use Rattle.oc_grammar.specs.Tables.{assignment, strength}
use Rattle.oc_source.specs.Parsed.{expr}
use Rattle.oc_grammar.specs.Parsing.{SameNext, Found, Refused, Leaves, Any, End, ended, Then, then, Maybe, stays, goes}
use Rattle.oc_grammar.specs.Calls.{One, one, Placed, placed}
use Rattle.oc_grammar.specs.Expressions.{Expression, Before, before, assign, choose, operation, at, BindsWeaker, Ends}
use Rattle.oc_grammar.proofs.Parsing.{start, turned, read, fails, ends, token_on, alone, Goes, sure, Closes, close_end, close_then, after_end, then_end, end_is}
use Rattle.oc_grammar.proofs.Calls.{not_next, no_sign, after_one, placed_found, placed_refused}
use Rattle.oc_expressions.specs.Continuations.{AssignBy, assign_by, ChooseBy, choose_by}
use Rattle.oc_expressions.proofs.Levels.{lower, operator_level, assignment_level, filled, stops_less, stops_kind, goes_kind, same_said, some_expr}

-- a form alone, where more could stand after it
stay : {F : Expr → List Token → Type 0} {by : Spot × Expr → Token → Expr → List Token → Type 0} (l : Expr) (x : List Token) → F l x → Then (Placed F) (λ p. Maybe (by p) p.1) l x
stay {F} {by} l x d = let h : Then (Placed F) (λ p. Maybe (by p) p.1) l (x ++ []) = then (placed d) stays in rw append-nil at h

-- ---- assignments

assigning : Expr → List Token → Type 0
assigning = Then (Placed (Expression 2)) (λ p. Maybe (AssignBy p.0 p.1) p.1)

expr_in : (v : Expr) (x : List Token) → assigning v x → Expression 1 v x
unfolding assigning
expr_in v _ (then (placed d) stays) = rw append-nil (lower (omega arith) d)
expr_in v _ (then (placed d) (goes (assign_by i h (then r q)))) = let p = end_is q in rw (p.0, p.1, append-nil) (at {n = 1} (assign d i h r) (omega arith))

expr_out : (v : Expr) (x : List Token) → Expression 1 v x → assigning v x
unfolding assigning
expr_out v _ (at (assign {op = op} {l = l} {r = r} {x = x} {y = y} d i h dr) g) = then (placed d) (goes (assign_by i h (then_end (λ r. expr (spot_at x) (e.Assign op l r)) r y dr)))
expr_out v x (at (operation {sign = sign} d i h r) g) = stay v x (at (operation d i h r) (omega (arith, operator_level sign _ _ h)))
expr_out v x (at d g) = stay v x (at d (omega arith))

assign_follow : (b : Spot × Expr) (v : Expr) (ys zs : List Token) → Maybe (AssignBy b.0 b.1) b.1 v ys → BindsWeaker 1 zs → BindsWeaker 2 (ys ++ zs)
assign_follow b v _ zs stays s = stops_less zs (omega arith) s
assign_follow b v _ zs (goes {t} {ys = ys} (assign_by {sign = sign} {op = op} i h q)) s = stops_kind 2 t (ys ++ zs) (omega (arith, assignment_level sign op h)) i

expr_goes : Goes (λ (p : Spot × Expr). Ends 2 p.1) (Ends 1) (λ p. Maybe (AssignBy p.0 p.1) p.1)
expr_goes = record { follow = assign_follow; closes = λ b. (b.1, [], stays) }

module _ {ts : List Token} where
  expr_opened : Leaves (Expression 1) (Ends 1) ts assigning ts
  expr_opened = turned (start (Expression 1) (Ends 1) ts) expr_in expr_out

  pub expr_fails : {r : List Token} → Refused (Expression 2) (Ends 2) ts r → Refused (Expression 1) (Ends 1) ts r
  unfolding assigning
  expr_fails f = fails expr_opened (placed_refused f) expr_goes

  module _ {rest : List Token} {l : Expr} (f : Found (Expression 2) (Ends 2) ts l rest) where
    expr_left : Leaves (Expression 1) (Ends 1) ts (Maybe (AssignBy (spot_at ts) l) l) rest
    unfolding assigning
    expr_left = read expr_opened (placed_found (filled 2) f) expr_goes

    pub expr_alone : NoSign assignment rest → Found (Expression 1) (Ends 1) ts l rest
    expr_alone n = alone expr_left (λ t us v ys a q. go t us v ys a q)
      where
        go : (t : Token) (us : List Token) (v : Expr) (ys : List Token) → SameNext rest (t ∷ us) → AssignBy (spot_at ts) l t v ys → ⊥
        go t us v ys a (assign_by {sign = sign} {op = op} i h q) = no_sign assignment t rest us sign op n a i h

    module _ {op : Option BinaryOp} {r1 : List Token} (s : SignStarts assignment rest op r1) where
      expr_right : Leaves (Expression 1) (Ends 1) ts (Then (Expression 1) (λ r. End (expr (spot_at ts) (e.Assign op l r)))) r1
      expr_right = turned (token_on expr_left s.whole (λ zs h. goes_kind 1 s.token zs (omega (arith, assignment_level s.sign op s.says)) s.is h)) (λ v ys q. assign_by s.is s.says q) (λ v ys q. go v ys q)
        where
          go : (v : Expr) (ys : List Token) → AssignBy (spot_at ts) l s.token v ys → Then (Expression 1) (λ r. End (expr (spot_at ts) (e.Assign op l r))) v ys
          go v ys (assign_by i h q) = subst (λ op. Then (Expression 1) (λ r. End (expr (spot_at ts) (e.Assign op l r))) v ys) (same_said assignment i s.is h s.says) q

      right_goes : Goes (Ends 1) (Ends 1) (λ r. End (expr (spot_at ts) (e.Assign op l r)))
      right_goes = after_end (λ r. expr (spot_at ts) (e.Assign op l r)) (λ b zs s. s)

      pub right_fails : {r : List Token} → Refused (Expression 1) (Ends 1) r1 r → Refused (Expression 1) (Ends 1) ts r
      right_fails g = fails expr_right g right_goes

      pub assigned : {v : Expr} {r : List Token} → Found (Expression 1) (Ends 1) r1 v r → Found (Expression 1) (Ends 1) ts (expr (spot_at ts) (e.Assign op l v)) r
      assigned g = ends (read expr_right g right_goes)

-- ---- choices

choosing : Expr → List Token → Type 0
choosing = Then (Placed (Expression 3)) (λ p. Maybe (ChooseBy p.0 p.1) p.1)

cond_in : (v : Expr) (x : List Token) → choosing v x → Expression 2 v x
unfolding choosing
cond_in v _ (then (placed d) stays) = rw append-nil (lower (omega arith) d)
cond_in v _ (then (placed d) (goes (choose_by i (then b (then z q))))) = let p = end_is q in rw (p.0, p.1, append-nil) (at {n = 2} (choose d i b z) (omega arith))

cond_out : (v : Expr) (x : List Token) → Expression 2 v x → choosing v x
unfolding choosing
cond_out v _ (at (choose {c = c} {y = y} {z = z} {xs = xs} {zs = zs} d i b dz) g) = then (placed d) (goes (choose_by i (then b (then_end (λ z. expr (spot_at xs) (e.Choose c y z)) z zs dz))))
cond_out v x (at (operation {sign = sign} d i h r) g) = stay v x (at (operation d i h r) (omega (arith, operator_level sign _ _ h)))
cond_out v x (at (assign d i h r) g) = absurd (let P : 2 ≤ 1 → ⊥ = λ h. omega arith in P g)
cond_out v x (at d g) = stay v x (at d (omega arith))

choose_follow : (b : Spot × Expr) (v : Expr) (ys zs : List Token) → Maybe (ChooseBy b.0 b.1) b.1 v ys → BindsWeaker 2 zs → BindsWeaker 3 (ys ++ zs)
choose_follow b v _ zs stays s = stops_less zs (omega arith) s
choose_follow b v _ zs (goes {t} {ys = ys} (choose_by i q)) s = stops_kind 3 t (ys ++ zs) (omega arith) i

cond_goes : Goes (λ (p : Spot × Expr). Ends 3 p.1) (Ends 2) (λ p. Maybe (ChooseBy p.0 p.1) p.1)
cond_goes = record { follow = choose_follow; closes = λ b. (b.1, [], stays) }

module _ {ts : List Token} where
  cond_opened : Leaves (Expression 2) (Ends 2) ts choosing ts
  cond_opened = turned (start (Expression 2) (Ends 2) ts) cond_in cond_out

  pub cond_fails : {r : List Token} → Refused (Expression 3) (Ends 3) ts r → Refused (Expression 2) (Ends 2) ts r
  unfolding choosing
  cond_fails f = fails cond_opened (placed_refused f) cond_goes

  module _ {rest : List Token} {l : Expr} (f : Found (Expression 3) (Ends 3) ts l rest) where
    cond_left : Leaves (Expression 2) (Ends 2) ts (Maybe (ChooseBy (spot_at ts) l) l) rest
    unfolding choosing
    cond_left = read cond_opened (placed_found (filled 3) f) cond_goes

    pub cond_alone : NotNext (Sign s.Question) rest → Found (Expression 2) (Ends 2) ts l rest
    cond_alone n = alone cond_left (λ t us v ys a q. go t us v ys a q)
      where
        go : (t : Token) (us : List Token) (v : Expr) (ys : List Token) → SameNext rest (t ∷ us) → ChooseBy (spot_at ts) l t v ys → ⊥
        go t us v ys a (choose_by i q) = not_next (Sign s.Question) t rest us n a i

    module _ {r1 : List Token} (here : Starts (Sign s.Question) rest r1) where
      yes_left : Leaves (Expression 2) (Ends 2) ts (Then (Before s.Colon) (λ y. Then (Expression 2) (λ z. End (expr (spot_at ts) (e.Choose l y z))))) r1
      yes_left = turned (token_on cond_left here.whole (λ zs h. goes_kind 2 here.token zs (omega arith) here.is h)) (λ v ys q. choose_by here.is q) (λ v ys q. go v ys q)
        where
          go : (v : Expr) (ys : List Token) → ChooseBy (spot_at ts) l here.token v ys → Then (Before s.Colon) (λ y. Then (Expression 2) (λ z. End (expr (spot_at ts) (e.Choose l y z)))) v ys
          go v ys (choose_by i q) = q

      some_no : (y : Expr) → Closes (Then (Expression 2) (λ z. End (expr (spot_at ts) (e.Choose l y z))))
      some_no y = let (v, x, d) = some_expr 2 (omega arith) in close_then v x d close_end

      pub yes_fails : {r : List Token} → Refused (Before s.Colon) Any r1 r → Refused (Expression 2) (Ends 2) ts r
      yes_fails g = fails yes_left g (sure some_no)

      module _ {y : Expr} {r2 : List Token} (g : Found (Before s.Colon) Any r1 y r2) where
        no_left : Leaves (Expression 2) (Ends 2) ts (Then (Expression 2) (λ z. End (expr (spot_at ts) (e.Choose l y z)))) r2
        no_left = read yes_left g (sure some_no)

        pub no_fails : {r : List Token} → Refused (Expression 2) (Ends 2) r2 r → Refused (Expression 2) (Ends 2) ts r
        no_fails h = fails no_left h (after_end (λ z. expr (spot_at ts) (e.Choose l y z)) (λ b zs k. k))

        pub chosen : {z : Expr} {r : List Token} → Found (Expression 2) (Ends 2) r2 z r → Found (Expression 2) (Ends 2) ts (expr (spot_at ts) (e.Choose l y z)) r
        chosen h = ends (read no_left h (after_end (λ z. expr (spot_at ts) (e.Choose l y z)) (λ b zs k. k)))

-- ---- an expression and a sign

before_in : (sign : SignType) (v : Expr) (x : List Token) → Then (Expression 1) (λ v. Then (One (Sign sign)) (λ _. End v)) v x → Before sign v x
before_in sign v _ (then d (then (one i) ended)) = before d i

before_out : (sign : SignType) (v : Expr) (x : List Token) → Before sign v x → Then (Expression 1) (λ v. Then (One (Sign sign)) (λ _. End v)) v x
before_out sign v _ (before d i) = then d (then (one i) ended)

before_goes : (sign : SignType) → strength (Sign sign) ≡ 0 → Goes (Ends 1) Any (λ v. Then (One (Sign sign)) (λ _. End v))
before_goes sign loose = after_one (Sign sign) (λ b t zs i. stops_kind 1 t zs (omega arith) i) (λ b. close_end)

module _ (sign : SignType) (loose : strength (Sign sign) ≡ 0) {ts : List Token} where
  before_opened : Leaves (Before sign) Any ts (Then (Expression 1) (λ v. Then (One (Sign sign)) (λ _. End v))) ts
  before_opened = turned (start (Before sign) Any ts) (before_in sign) (before_out sign)

  pub value_fails : {r : List Token} → Refused (Expression 1) (Ends 1) ts r → Refused (Before sign) Any ts r
  value_fails f = fails before_opened f (before_goes sign loose)

  module _ {v : Expr} {r1 : List Token} (f : Found (Expression 1) (Ends 1) ts v r1) where
    pub sign_fails : {r : List Token} → Refused (One (Sign sign)) Any r1 r → Refused (Before sign) Any ts r
    sign_fails g = fails (read before_opened f (before_goes sign loose)) g (sure (λ u. close_end))

    pub before_read : {r : List Token} → Found (One (Sign sign)) Any r1 tt r → Found (Before sign) Any ts v r
    before_read g = ends (read (read before_opened f (before_goes sign loose)) g (sure (λ u. close_end)))
