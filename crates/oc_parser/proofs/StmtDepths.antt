-- The depth of each form of a statement.
use Rattle.std.proofs.Common.{◌≡◌, ℕ, ◌+◌, List, [], ◌∷◌, map, Option, Some, None, ap, sym, ◌∙◌}
use Rattle.std.specs.Option.{option_map_or}
use Rattle.oc_source.specs.declared.spot.Spot.{Spot}
use Rattle.oc_source.specs.declared.parsed.Declared.{Declared}
use Rattle.oc_source.specs.declared.parsed.Expr.{Expr}
use Rattle.oc_source.specs.declared.parsed.ForInit.{ForInit}
use Rattle.oc_source.specs.declared.parsed.Stmt.{Stmt, fold-roll-Stmt}
use Rattle.oc_source.specs.declared.parsed.StmtNode.{StmtNode, StmtNode-F, fold-StmtNode, fold-roll-StmtNode}
use Rattle.oc_source.specs.declared.parsed.StmtNode.TheVariants as st
use Rattle.oc_source.specs.Parsed.{stmt}
use Rattle.oc_source.specs.Depth.{greatest, parts_of_stmt, expr_depth, declared_depth, init_depth, stmt_depth}

abbrev one_more : StmtNode-F ℕ ℕ → ℕ
one_more node = greatest (parts_of_stmt node) + 1

of_node : StmtNode → ℕ
of_node node = fold-StmtNode ℕ ℕ one_more (λ v. v.node) node

by_node : (spot : Spot) (n : StmtNode) → stmt_depth (stmt spot n) ≡ of_node n
unfolding of_node
by_node spot n = fold-roll-Stmt ℕ ℕ one_more (λ v. v.node) (record { spot = spot; node = n })

module _ (spot : Spot) where
  pub depth_Declare : (ds : List Declared) → stmt_depth (stmt spot (st.Declare ds)) ≡ greatest (map declared_depth ds) + 1
  unfolding of_node
  depth_Declare ds = by_node spot (st.Declare ds) ∙ (ap of_node (sym (st.rolls-Declare ds)) ∙ fold-roll-StmtNode ℕ ℕ one_more (λ v. v.node) (StmtNode-F.Declare ds))

  pub depth_Express : (v : Expr) → stmt_depth (stmt spot (st.Express v)) ≡ greatest (expr_depth v ∷ []) + 1
  unfolding of_node
  depth_Express v = by_node spot (st.Express v) ∙ (ap of_node (sym (st.rolls-Express v)) ∙ fold-roll-StmtNode ℕ ℕ one_more (λ v. v.node) (StmtNode-F.Express v))

  pub depth_Block : (vs : List Stmt) → stmt_depth (stmt spot (st.Block vs)) ≡ greatest (map stmt_depth vs) + 1
  unfolding of_node
  depth_Block vs = by_node spot (st.Block vs) ∙ (ap of_node (sym (st.rolls-Block vs)) ∙ fold-roll-StmtNode ℕ ℕ one_more (λ v. v.node) (StmtNode-F.Block vs))

  pub depth_If : (c : Expr) (y : Stmt) (n : Option Stmt) → stmt_depth (stmt spot (st.If c y n)) ≡ greatest (expr_depth c ∷ stmt_depth y ∷ option_map_or stmt_depth n 0 ∷ []) + 1
  unfolding of_node
  depth_If c y None = by_node spot (st.If c y None) ∙ (ap of_node (sym (st.rolls-If c y None)) ∙ fold-roll-StmtNode ℕ ℕ one_more (λ v. v.node) (StmtNode-F.If c y None))
  depth_If c y (Some n) = by_node spot (st.If c y (Some n)) ∙ (ap of_node (sym (st.rolls-If c y (Some n))) ∙ fold-roll-StmtNode ℕ ℕ one_more (λ v. v.node) (StmtNode-F.If c y (Some n)))

  pub depth_OblivIf : (c : Expr) (y : Stmt) (n : Option Stmt) → stmt_depth (stmt spot (st.OblivIf c y n)) ≡ greatest (expr_depth c ∷ stmt_depth y ∷ option_map_or stmt_depth n 0 ∷ []) + 1
  unfolding of_node
  depth_OblivIf c y None = by_node spot (st.OblivIf c y None) ∙ (ap of_node (sym (st.rolls-OblivIf c y None)) ∙ fold-roll-StmtNode ℕ ℕ one_more (λ v. v.node) (StmtNode-F.OblivIf c y None))
  depth_OblivIf c y (Some n) = by_node spot (st.OblivIf c y (Some n)) ∙ (ap of_node (sym (st.rolls-OblivIf c y (Some n))) ∙ fold-roll-StmtNode ℕ ℕ one_more (λ v. v.node) (StmtNode-F.OblivIf c y (Some n)))

  pub depth_Always : (name : List ℕ) (b : Stmt) → stmt_depth (stmt spot (st.Always name b)) ≡ greatest (stmt_depth b ∷ []) + 1
  unfolding of_node
  depth_Always name b = by_node spot (st.Always name b) ∙ (ap of_node (sym (st.rolls-Always name b)) ∙ fold-roll-StmtNode ℕ ℕ one_more (λ v. v.node) (StmtNode-F.Always name b))

  pub depth_While : (c : Expr) (b : Stmt) → stmt_depth (stmt spot (st.While c b)) ≡ greatest (expr_depth c ∷ stmt_depth b ∷ []) + 1
  unfolding of_node
  depth_While c b = by_node spot (st.While c b) ∙ (ap of_node (sym (st.rolls-While c b)) ∙ fold-roll-StmtNode ℕ ℕ one_more (λ v. v.node) (StmtNode-F.While c b))

  pub depth_For : (i : ForInit) (c a : Option Expr) (b : Stmt) → stmt_depth (stmt spot (st.For i c a b)) ≡ greatest (init_depth i ∷ option_map_or expr_depth c 0 ∷ option_map_or expr_depth a 0 ∷ stmt_depth b ∷ []) + 1
  unfolding of_node
  depth_For i c a b = by_node spot (st.For i c a b) ∙ (ap of_node (sym (st.rolls-For i c a b)) ∙ fold-roll-StmtNode ℕ ℕ one_more (λ v. v.node) (StmtNode-F.For i c a b))

  pub depth_Return : (v : Option Expr) → stmt_depth (stmt spot (st.Return v)) ≡ greatest (option_map_or expr_depth v 0 ∷ []) + 1
  unfolding of_node
  depth_Return v = by_node spot (st.Return v) ∙ (ap of_node (sym (st.rolls-Return v)) ∙ fold-roll-StmtNode ℕ ℕ one_more (λ v. v.node) (StmtNode-F.Return v))

  pub depth_Break : stmt_depth (stmt spot st.Break) ≡ greatest ([]) + 1
  unfolding of_node
  depth_Break = by_node spot st.Break ∙ (ap of_node (sym st.rolls-Break) ∙ fold-roll-StmtNode ℕ ℕ one_more (λ v. v.node) StmtNode-F.Break)

  pub depth_Continue : stmt_depth (stmt spot st.Continue) ≡ greatest ([]) + 1
  unfolding of_node
  depth_Continue = by_node spot st.Continue ∙ (ap of_node (sym st.rolls-Continue) ∙ fold-roll-StmtNode ℕ ℕ one_more (λ v. v.node) StmtNode-F.Continue)

  pub depth_Empty : stmt_depth (stmt spot st.Empty) ≡ greatest ([]) + 1
  unfolding of_node
  depth_Empty = by_node spot st.Empty ∙ (ap of_node (sym st.rolls-Empty) ∙ fold-roll-StmtNode ℕ ℕ one_more (λ v. v.node) StmtNode-F.Empty)
