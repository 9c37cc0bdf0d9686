-- Expressions leave a statement unfinished, and take as many tokens as they are deep.
use Rattle.std.proofs.Common.{◌≡◌, ℕ, ◌+◌, Bool, false, List, [], ◌∷◌, map, Option, Some, refl, arith}
use Rattle.oc_values.specs.declared.integers.BinaryOp.{BinaryOp}
use Rattle.oc_source.specs.declared.parsed.Expr.{Expr}
use Rattle.oc_source.specs.declared.parsed.ExprNode.{ExprNode}
use Rattle.oc_lexer.specs.declared.token.Token.{Token}
use Rattle.oc_lexer.specs.declared.token.TokenKind.{TokenKind}
use Rattle.oc_lexer.specs.declared.token.TokenKind.TheVariants.{Sign}
use Rattle.oc_lexer.specs.declared.token.Sign.{Sign as SignType}
use Rattle.oc_lexer.specs.declared.token.Sign.TheVariants as s
use Rattle.oc_grammar.specs.declared.tables.Prefix.{Prefix}
use Rattle.oc_grammar.specs.declared.tables.Infix.{Infix}
use Rattle.oc_grammar.specs.Tokens.{Is, spot_at}
use Rattle.oc_grammar.specs.Tables.{prefix, operator, assignment, bump}
use Rattle.oc_grammar.specs.Trees.{Leaf, number, character, text, null, truth, falsity}
use Rattle.oc_grammar.specs.Expressions.{Rule, assign, choose, operation, signed, cast, index, field, arrow, bumped, leaf, named, call, size, parens, Expression, at, Before, before, Arguments, none, some, Listed, last, more}
use Rattle.oc_parser.specs.declared.entries.Effect.TheVariants as effect
use Rattle.oc_parser.specs.Load.{effect_of}
use Rattle.oc_source.specs.Depth.{greatest, expr_depth}
use Rattle.oc_parser.proofs.Flows.{Flow, nothing, then, less, within, plain, opens, closes, after, between}
use Rattle.oc_parser.proofs.TypeFlows.{type_flow}
use Rattle.oc_parser.proofs.ExprDepths.{depth_prefixed, depth_infixed, depth_leaf, depth_Bump, depth_Choose, depth_Assign, depth_Index, depth_Field, depth_Arrow, depth_Call, depth_Cast, depth_SizeOf, depth_Named}

-- ---- no sign of the tables opens, closes or ends anything

prefix_plain : (sign : SignType) (op : Prefix) → prefix sign ≡ Some op → effect_of (Sign sign) ≡ effect.Nothing
prefix_plain s.LeftParen op h = cc
prefix_plain s.RightParen op h = cc
prefix_plain s.LeftBracket op h = cc
prefix_plain s.RightBracket op h = cc
prefix_plain s.LeftBrace op h = cc
prefix_plain s.RightBrace op h = cc
prefix_plain s.Semicolon op h = cc
prefix_plain _ op h = refl

operator_plain : (sign : SignType) (op : ℕ × Infix) → operator sign ≡ Some op → effect_of (Sign sign) ≡ effect.Nothing
operator_plain s.LeftParen op h = cc
operator_plain s.RightParen op h = cc
operator_plain s.LeftBracket op h = cc
operator_plain s.RightBracket op h = cc
operator_plain s.LeftBrace op h = cc
operator_plain s.RightBrace op h = cc
operator_plain s.Semicolon op h = cc
operator_plain _ op h = refl

assignment_plain : (sign : SignType) (op : Option BinaryOp) → assignment sign ≡ Some op → effect_of (Sign sign) ≡ effect.Nothing
assignment_plain s.LeftParen op h = cc
assignment_plain s.RightParen op h = cc
assignment_plain s.LeftBracket op h = cc
assignment_plain s.RightBracket op h = cc
assignment_plain s.LeftBrace op h = cc
assignment_plain s.RightBrace op h = cc
assignment_plain s.Semicolon op h = cc
assignment_plain _ op h = refl

bump_plain : (sign : SignType) (op : Bool) → bump sign ≡ Some op → effect_of (Sign sign) ≡ effect.Nothing
bump_plain s.LeftParen op h = cc
bump_plain s.RightParen op h = cc
bump_plain s.LeftBracket op h = cc
bump_plain s.RightBracket op h = cc
bump_plain s.LeftBrace op h = cc
bump_plain s.RightBrace op h = cc
bump_plain s.Semicolon op h = cc
bump_plain _ op h = refl

leaf_plain : {k : TokenKind} {node : ExprNode} → Leaf k node → effect_of k ≡ effect.Nothing
leaf_plain (number n) = refl
leaf_plain (character n h g) = refl
leaf_plain (text bytes) = refl
leaf_plain null = refl
leaf_plain (truth n h g) = refl
leaf_plain (falsity n h g) = refl

mutual
  rule_flow : {n : ℕ} {v : Expr} {x : List Token} → Rule n v x → Flow 0 0 (expr_depth v) x
  rule_flow (assign {sign = sign} {op = op} {l = l} {r = r} {x = x} d i h g) = less (omega (arith, depth_Assign (spot_at x) op l r)) (then (expr_flow d) (after (assignment_plain sign op h) i (expr_flow g)))
  rule_flow (choose {c = c} {y = y} {z = z} {xs = xs} d i b g) = less (omega (arith, depth_Choose (spot_at xs) c y z)) (then (expr_flow d) (after refl i (then (before_flow 0 0 (λ t j. plain refl j) b) (expr_flow g))))
  rule_flow (operation {n = n} {sign = sign} {op = op} {l = l} {r = r} {x = x} d i h g) = less (omega (arith, depth_infixed (spot_at x) op l r)) (then (expr_flow d) (after (operator_plain sign (n, op) h) i (expr_flow g)))
  rule_flow (signed {sign = sign} {op = op} {t = t} {v = v} i h d) = less (omega (arith, depth_prefixed t.spot op v)) (after (prefix_plain sign op h) i (expr_flow d))
  rule_flow (cast {a = a} {to = to} {v = v} i ty j d) = less (omega (arith, depth_Cast a.spot to v)) (then (opens refl i) (then (within 1 (type_flow ty)) (then (closes refl j) (expr_flow d))))
  rule_flow (index {v = v} {i = i} {x = x} d j b) = less (omega (arith, depth_Index (spot_at x) v i)) (then (expr_flow d) (then (opens refl j) (before_flow 1 0 (λ t k. closes refl k) b)))
  rule_flow (field {n = n} {v = v} {x = x} d i j) = less (omega (arith, depth_Field (spot_at x) v n)) (then (expr_flow d) (after refl i (plain refl j)))
  rule_flow (arrow {n = n} {v = v} {x = x} d i j) = less (omega (arith, depth_Arrow (spot_at x) v n)) (then (expr_flow d) (after refl i (plain refl j)))
  rule_flow (bumped {sign = sign} {up = up} {v = v} {x = x} d i h) = less (omega (arith, depth_Bump (spot_at x) up false v)) (then (expr_flow d) (plain (bump_plain sign up h) i))
  rule_flow (leaf {node = node} {t = t} d) = less (omega (arith, depth_leaf t.spot d)) (plain (leaf_plain d) (record { kind = refl }))
  rule_flow (named {n = n} {t = t} i) = less (omega (arith, depth_Named t.spot n)) (plain refl i)
  rule_flow (call {n = n} {t = t} {vs = vs} i j a k) = less (omega (arith, depth_Call t.spot n vs)) (after refl i (between refl refl j (arguments_flow a) k))
  rule_flow (size {t = t} {ty = ty} i j d k) = less (omega (arith, depth_SizeOf t.spot ty)) (after refl i (between refl refl j (type_flow d) k))
  rule_flow (parens i b) = less (omega arith) (then (opens refl i) (before_flow 1 0 (λ t k. closes refl k) b))

  pub expr_flow : {n : ℕ} {v : Expr} {x : List Token} → Expression n v x → Flow 0 0 (expr_depth v) x
  expr_flow (at d h) = rule_flow d

  pub before_flow : {sign : SignType} {v : Expr} {x : List Token} (a b : ℕ) → ((t : Token) → Is (Sign sign) t → Flow a b 1 (t ∷ [])) → Before sign v x → Flow a b (expr_depth v + 1) x
  before_flow a b h (before {t = t} d i) = then (within a (expr_flow d)) (h t i)

  arguments_flow : {vs : List Expr} {x : List Token} → Arguments vs x → Flow 0 0 (greatest (map expr_depth vs)) x
  arguments_flow none = nothing
  arguments_flow (some d) = listed_flow d

  listed_flow : {vs : List Expr} {x : List Token} → Listed vs x → Flow 0 0 (greatest (map expr_depth vs)) x
  listed_flow (last d) = less (omega arith) (expr_flow d)
  listed_flow (more d i g) = less (omega arith) (then (expr_flow d) (after refl i (listed_flow g)))
