-- The walk of an `obliv if`, where every part is walked.
use Rattle.std.proofs.Common.{◌≡◌, ℤ, List, Some, None, refl}
use Rattle.oc_source.specs.declared.spot.Spot.{Spot}
use Rattle.oc_typed.specs.declared.typed.TExpr.{TExpr}
use Rattle.oc_typed.specs.declared.typed.TStmt.{TStmt}
use Rattle.oc_typed.specs.declared.typed.TStmtNode.{OblivIf}
use Rattle.oc_typed.specs.declared.typed.TStmtNode.TheBlock.{hidden-the_row-TStmt-0, hidden-the_row-TStmt-1}
use denote.Hole.Carrier.{hidden}
use Rattle.oc_walk.specs.declared.run.Flow.TheVariants.{Next}
use Rattle.oc_walk.specs.Walking.{Site, bind, pure, still}
use Rattle.oc_walk.specs.Operations.{condition}
use Rattle.oc_walk.specs.Expressions.{Under, under, whole}
use Rattle.oc_walk.specs.Statements.{node, both}
use Rattle.oc_walk.proofs.Views.{part_of}
use Rattle.oc_meanings.specs.Clear.{clear}
use Rattle.oc_meanings.specs.Events.{events}

module _ (X Y : List ℤ) (x : Site) (w : Under (clear X Y)) (p : Spot) (c : TExpr) (s : TStmt) where
  pub obliv_at : (n : TStmt) → node (clear X Y) x w p (OblivIf c s (Some n)) ≡ bind (whole (clear X Y) x w c) (λ v. bind (still (condition (clear X Y) c.spot v)) (λ h. both (clear X Y) w.enable h (λ e. part_of (clear X Y) x (under (clear X Y) w e) s) (λ d. part_of (clear X Y) x (under (clear X Y) w d) n)))
  unfolding hidden-the_row-TStmt-0 hidden-the_row-TStmt-1 hidden
  obliv_at n = refl

  pub obliv_alone_at : node (clear X Y) x w p (OblivIf c s None) ≡ bind (whole (clear X Y) x w c) (λ v. bind (still (condition (clear X Y) c.spot v)) (λ h. both (clear X Y) w.enable h (λ e. part_of (clear X Y) x (under (clear X Y) w e) s) (λ d. pure Next)))
  unfolding hidden-the_row-TStmt-0 hidden-the_row-TStmt-1 hidden
  obliv_alone_at = refl

module _ (x : Site) (w : Under events) (p : Spot) (c : TExpr) (s : TStmt) where
  pub events_obliv_at : (n : TStmt) → node events x w p (OblivIf c s (Some n)) ≡ bind (whole events x w c) (λ v. bind (still (condition events c.spot v)) (λ h. both events w.enable h (λ e. part_of events x (under events w e) s) (λ d. part_of events x (under events w d) n)))
  unfolding hidden-the_row-TStmt-0 hidden-the_row-TStmt-1 hidden
  events_obliv_at n = refl
