-- The depth of each form of an expression.
use Rattle.std.proofs.Common.{◌≡◌, ℕ, ◌+◌, Bool, true, List, [], ◌∷◌, map, Option, ap, sym, ◌∙◌}
use Rattle.oc_values.specs.declared.integers.BinaryOp.{BinaryOp}
use Rattle.oc_source.specs.declared.spot.Spot.{Spot}
use Rattle.oc_source.specs.declared.literal.Literal.{Literal}
use Rattle.oc_source.specs.declared.parsed.UnaryOp.{UnaryOp}
use Rattle.oc_source.specs.declared.parsed.TypeName.{TypeName}
use Rattle.oc_source.specs.declared.parsed.Expr.{Expr, fold-roll-Expr}
use Rattle.oc_source.specs.declared.parsed.ExprNode.{ExprNode, ExprNode-F, fold-ExprNode, fold-roll-ExprNode}
use Rattle.oc_source.specs.declared.parsed.ExprNode.TheVariants as e
use Rattle.oc_source.specs.Parsed.{expr}
use Rattle.oc_grammar.specs.declared.tables.Prefix.{Prefix}
use Rattle.oc_grammar.specs.declared.tables.Prefix.TheVariants as p
use Rattle.oc_grammar.specs.declared.tables.Infix.{Infix}
use Rattle.oc_grammar.specs.declared.tables.Infix.TheVariants as i
use Rattle.oc_lexer.specs.declared.token.TokenKind.{TokenKind}
use Rattle.oc_grammar.specs.Trees.{prefixed, infixed, Leaf, number, character, text, null, truth, falsity}
use Rattle.oc_source.specs.Depth.{greatest, parts_of_expr, type_depth, expr_depth}

abbrev one_more : ExprNode-F ℕ ℕ → ℕ
one_more node = greatest (parts_of_expr node) + 1

of_node : ExprNode → ℕ
of_node node = fold-ExprNode ℕ ℕ one_more (λ v. v.node) node

by_node : (spot : Spot) (n : ExprNode) → expr_depth (expr spot n) ≡ of_node n
unfolding of_node
by_node spot n = fold-roll-Expr ℕ ℕ one_more (λ v. v.node) (record { spot = spot; node = n })

module _ (spot : Spot) where
  pub depth_Unary : (op : UnaryOp) (v : Expr) → expr_depth (expr spot (e.Unary op v)) ≡ greatest (expr_depth v ∷ []) + 1
  unfolding of_node
  depth_Unary op v = by_node spot (e.Unary op v) ∙ (ap of_node (sym (e.rolls-Unary op v)) ∙ fold-roll-ExprNode ℕ ℕ one_more (λ v. v.node) (ExprNode-F.Unary op v))

  pub depth_Bump : (up first : Bool) (v : Expr) → expr_depth (expr spot (e.Bump up first v)) ≡ greatest (expr_depth v ∷ []) + 1
  unfolding of_node
  depth_Bump up first v = by_node spot (e.Bump up first v) ∙ (ap of_node (sym (e.rolls-Bump up first v)) ∙ fold-roll-ExprNode ℕ ℕ one_more (λ v. v.node) (ExprNode-F.Bump up first v))

  pub depth_Binary : (op : BinaryOp) (l r : Expr) → expr_depth (expr spot (e.Binary op l r)) ≡ greatest (expr_depth l ∷ expr_depth r ∷ []) + 1
  unfolding of_node
  depth_Binary op l r = by_node spot (e.Binary op l r) ∙ (ap of_node (sym (e.rolls-Binary op l r)) ∙ fold-roll-ExprNode ℕ ℕ one_more (λ v. v.node) (ExprNode-F.Binary op l r))

  pub depth_Logic : (all : Bool) (l r : Expr) → expr_depth (expr spot (e.Logic all l r)) ≡ greatest (expr_depth l ∷ expr_depth r ∷ []) + 1
  unfolding of_node
  depth_Logic all l r = by_node spot (e.Logic all l r) ∙ (ap of_node (sym (e.rolls-Logic all l r)) ∙ fold-roll-ExprNode ℕ ℕ one_more (λ v. v.node) (ExprNode-F.Logic all l r))

  pub depth_Choose : (c y n : Expr) → expr_depth (expr spot (e.Choose c y n)) ≡ greatest (expr_depth c ∷ expr_depth y ∷ expr_depth n ∷ []) + 1
  unfolding of_node
  depth_Choose c y n = by_node spot (e.Choose c y n) ∙ (ap of_node (sym (e.rolls-Choose c y n)) ∙ fold-roll-ExprNode ℕ ℕ one_more (λ v. v.node) (ExprNode-F.Choose c y n))

  pub depth_Assign : (op : Option BinaryOp) (l r : Expr) → expr_depth (expr spot (e.Assign op l r)) ≡ greatest (expr_depth l ∷ expr_depth r ∷ []) + 1
  unfolding of_node
  depth_Assign op l r = by_node spot (e.Assign op l r) ∙ (ap of_node (sym (e.rolls-Assign op l r)) ∙ fold-roll-ExprNode ℕ ℕ one_more (λ v. v.node) (ExprNode-F.Assign op l r))

  pub depth_Index : (v i : Expr) → expr_depth (expr spot (e.Index v i)) ≡ greatest (expr_depth v ∷ expr_depth i ∷ []) + 1
  unfolding of_node
  depth_Index v i = by_node spot (e.Index v i) ∙ (ap of_node (sym (e.rolls-Index v i)) ∙ fold-roll-ExprNode ℕ ℕ one_more (λ v. v.node) (ExprNode-F.Index v i))

  pub depth_Field : (v : Expr) (name : List ℕ) → expr_depth (expr spot (e.Field v name)) ≡ greatest (expr_depth v ∷ []) + 1
  unfolding of_node
  depth_Field v name = by_node spot (e.Field v name) ∙ (ap of_node (sym (e.rolls-Field v name)) ∙ fold-roll-ExprNode ℕ ℕ one_more (λ v. v.node) (ExprNode-F.Field v name))

  pub depth_Arrow : (v : Expr) (name : List ℕ) → expr_depth (expr spot (e.Arrow v name)) ≡ greatest (expr_depth v ∷ []) + 1
  unfolding of_node
  depth_Arrow v name = by_node spot (e.Arrow v name) ∙ (ap of_node (sym (e.rolls-Arrow v name)) ∙ fold-roll-ExprNode ℕ ℕ one_more (λ v. v.node) (ExprNode-F.Arrow v name))

  pub depth_Call : (name : List ℕ) (vs : List Expr) → expr_depth (expr spot (e.Call name vs)) ≡ greatest (map expr_depth vs) + 1
  unfolding of_node
  depth_Call name vs = by_node spot (e.Call name vs) ∙ (ap of_node (sym (e.rolls-Call name vs)) ∙ fold-roll-ExprNode ℕ ℕ one_more (λ v. v.node) (ExprNode-F.Call name vs))

  pub depth_Cast : (to : TypeName) (v : Expr) → expr_depth (expr spot (e.Cast to v)) ≡ greatest (type_depth to ∷ expr_depth v ∷ []) + 1
  unfolding of_node
  depth_Cast to v = by_node spot (e.Cast to v) ∙ (ap of_node (sym (e.rolls-Cast to v)) ∙ fold-roll-ExprNode ℕ ℕ one_more (λ v. v.node) (ExprNode-F.Cast to v))

  pub depth_SizeOf : (ty : TypeName) → expr_depth (expr spot (e.SizeOf ty)) ≡ greatest (type_depth ty ∷ []) + 1
  unfolding of_node
  depth_SizeOf ty = by_node spot (e.SizeOf ty) ∙ (ap of_node (sym (e.rolls-SizeOf ty)) ∙ fold-roll-ExprNode ℕ ℕ one_more (λ v. v.node) (ExprNode-F.SizeOf ty))

  pub depth_Number : (n : Literal) → expr_depth (expr spot (e.Number n)) ≡ greatest ([]) + 1
  unfolding of_node
  depth_Number n = by_node spot (e.Number n) ∙ (ap of_node (sym (e.rolls-Number n)) ∙ fold-roll-ExprNode ℕ ℕ one_more (λ v. v.node) (ExprNode-F.Number n))

  pub depth_NullPointer : expr_depth (expr spot e.NullPointer) ≡ greatest ([]) + 1
  unfolding of_node
  depth_NullPointer = by_node spot e.NullPointer ∙ (ap of_node (sym e.rolls-NullPointer) ∙ fold-roll-ExprNode ℕ ℕ one_more (λ v. v.node) ExprNode-F.NullPointer)

  pub depth_Text : (bytes : List ℕ) → expr_depth (expr spot (e.Text bytes)) ≡ greatest ([]) + 1
  unfolding of_node
  depth_Text bytes = by_node spot (e.Text bytes) ∙ (ap of_node (sym (e.rolls-Text bytes)) ∙ fold-roll-ExprNode ℕ ℕ one_more (λ v. v.node) (ExprNode-F.Text bytes))

  pub depth_Named : (name : List ℕ) → expr_depth (expr spot (e.Named name)) ≡ greatest ([]) + 1
  unfolding of_node
  depth_Named name = by_node spot (e.Named name) ∙ (ap of_node (sym (e.rolls-Named name)) ∙ fold-roll-ExprNode ℕ ℕ one_more (λ v. v.node) (ExprNode-F.Named name))

  pub depth_prefixed : (op : Prefix) (v : Expr) → expr_depth (expr spot (prefixed op v)) ≡ greatest (expr_depth v ∷ []) + 1
  depth_prefixed (p.Unary op) v = depth_Unary op v
  depth_prefixed (p.Bump up) v = depth_Bump up true v

  pub depth_infixed : (op : Infix) (l r : Expr) → expr_depth (expr spot (infixed op l r)) ≡ greatest (expr_depth l ∷ expr_depth r ∷ []) + 1
  depth_infixed (i.Binary op) l r = depth_Binary op l r
  depth_infixed (i.Logic all) l r = depth_Logic all l r

  pub depth_leaf : {k : TokenKind} {node : ExprNode} → Leaf k node → expr_depth (expr spot node) ≡ greatest [] + 1
  depth_leaf (number n) = depth_Number n
  depth_leaf (character n h g) = depth_Number n
  depth_leaf (text bytes) = depth_Text bytes
  depth_leaf null = depth_NullPointer
  depth_leaf (truth n h g) = depth_Number n
  depth_leaf (falsity n h g) = depth_Number n
