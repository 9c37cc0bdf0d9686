-- Which nodes still take an `else`.
use Rattle.std.proofs.Common.{◌≡◌, Bool, true, false, Option, Some, None, List, ap, sym, ◌∙◌}
use Rattle.oc_source.specs.declared.spot.Spot.{Spot}
use Rattle.oc_source.specs.declared.parsed.Expr.{Expr}
use Rattle.oc_source.specs.declared.parsed.ForInit.{ForInit}
use Rattle.oc_source.specs.declared.parsed.Stmt.{Stmt, fold-roll-Stmt}
use Rattle.oc_source.specs.declared.parsed.StmtNode.{StmtNode, StmtNode-F, fold-StmtNode, fold-roll-StmtNode}
use Rattle.oc_source.specs.declared.parsed.StmtNode.TheVariants as st
use Rattle.oc_source.specs.Parsed.{stmt}
use Rattle.oc_grammar.specs.Open.{open_node, ends_open}

opens : StmtNode → Bool
opens n = fold-StmtNode Bool Bool open_node (λ s. s.node) n

by_node : (spot : Spot) (n : StmtNode) → ends_open (stmt spot n) ≡ opens n
unfolding opens
by_node spot n = fold-roll-Stmt Bool Bool open_node (λ s. s.node) (record { spot = spot; node = n })

module _ (spot : Spot) where
  pub open-if : (c : Expr) (y : Stmt) → ends_open (stmt spot (st.If c y None)) ≡ true
  unfolding opens
  open-if c y = by_node spot (st.If c y None) ∙ (ap opens (sym (st.rolls-If c y None)) ∙ fold-roll-StmtNode Bool Bool open_node (λ s. s.node) (StmtNode-F.If c y None))

  pub open-else : (c : Expr) (y n : Stmt) → ends_open (stmt spot (st.If c y (Some n))) ≡ ends_open n
  unfolding opens
  open-else c y n = by_node spot (st.If c y (Some n)) ∙ (ap opens (sym (st.rolls-If c y (Some n))) ∙ fold-roll-StmtNode Bool Bool open_node (λ s. s.node) (StmtNode-F.If c y (Some n)))

  pub open-obliv_if : (c : Expr) (y : Stmt) → ends_open (stmt spot (st.OblivIf c y None)) ≡ true
  unfolding opens
  open-obliv_if c y = by_node spot (st.OblivIf c y None) ∙ (ap opens (sym (st.rolls-OblivIf c y None)) ∙ fold-roll-StmtNode Bool Bool open_node (λ s. s.node) (StmtNode-F.OblivIf c y None))

  pub open-obliv_else : (c : Expr) (y n : Stmt) → ends_open (stmt spot (st.OblivIf c y (Some n))) ≡ ends_open n
  unfolding opens
  open-obliv_else c y n = by_node spot (st.OblivIf c y (Some n)) ∙ (ap opens (sym (st.rolls-OblivIf c y (Some n))) ∙ fold-roll-StmtNode Bool Bool open_node (λ s. s.node) (StmtNode-F.OblivIf c y (Some n)))

  pub open-while : (c : Expr) (b : Stmt) → ends_open (stmt spot (st.While c b)) ≡ ends_open b
  unfolding opens
  open-while c b = by_node spot (st.While c b) ∙ (ap opens (sym (st.rolls-While c b)) ∙ fold-roll-StmtNode Bool Bool open_node (λ s. s.node) (StmtNode-F.While c b))

  pub open-for : (i : ForInit) (c a : Option Expr) (b : Stmt) → ends_open (stmt spot (st.For i c a b)) ≡ ends_open b
  unfolding opens
  open-for i c a b = by_node spot (st.For i c a b) ∙ (ap opens (sym (st.rolls-For i c a b)) ∙ fold-roll-StmtNode Bool Bool open_node (λ s. s.node) (StmtNode-F.For i c a b))

  pub open-block : (vs : List Stmt) → ends_open (stmt spot (st.Block vs)) ≡ false
  unfolding opens
  open-block vs = by_node spot (st.Block vs) ∙ (ap opens (sym (st.rolls-Block vs)) ∙ fold-roll-StmtNode Bool Bool open_node (λ s. s.node) (StmtNode-F.Block vs))

  pub open-always : (name : List _) (b : Stmt) → ends_open (stmt spot (st.Always name b)) ≡ false
  unfolding opens
  open-always name b = by_node spot (st.Always name b) ∙ (ap opens (sym (st.rolls-Always name b)) ∙ fold-roll-StmtNode Bool Bool open_node (λ s. s.node) (StmtNode-F.Always name b))

  pub open-express : (v : Expr) → ends_open (stmt spot (st.Express v)) ≡ false
  unfolding opens
  open-express v = by_node spot (st.Express v) ∙ (ap opens (sym (st.rolls-Express v)) ∙ fold-roll-StmtNode Bool Bool open_node (λ s. s.node) (StmtNode-F.Express v))

  pub open-return : (v : Option Expr) → ends_open (stmt spot (st.Return v)) ≡ false
  unfolding opens
  open-return v = by_node spot (st.Return v) ∙ (ap opens (sym (st.rolls-Return v)) ∙ fold-roll-StmtNode Bool Bool open_node (λ s. s.node) (StmtNode-F.Return v))

  pub open-empty : ends_open (stmt spot st.Empty) ≡ false
  unfolding opens
  open-empty = by_node spot st.Empty ∙ (ap opens (sym st.rolls-Empty) ∙ fold-roll-StmtNode Bool Bool open_node (λ s. s.node) StmtNode-F.Empty)

  pub open-break : ends_open (stmt spot st.Break) ≡ false
  unfolding opens
  open-break = by_node spot st.Break ∙ (ap opens (sym st.rolls-Break) ∙ fold-roll-StmtNode Bool Bool open_node (λ s. s.node) StmtNode-F.Break)

  pub open-continue : ends_open (stmt spot st.Continue) ≡ false
  unfolding opens
  open-continue = by_node spot st.Continue ∙ (ap opens (sym st.rolls-Continue) ∙ fold-roll-StmtNode Bool Bool open_node (λ s. s.node) StmtNode-F.Continue)
