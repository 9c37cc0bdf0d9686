-- What a glance tells is what the walk gives.
use Rattle.std.proofs.Common.{◌≡◌, ℤ, Some, Result, Ok, refl, sym, subst, arith}
use Rattle.oc_cells.specs.declared.types.CType.{CType}
use Rattle.oc_cells.specs.declared.memory.Address.{Address}
use Rattle.oc_cells.specs.Types.{kind_of}
use Rattle.oc_typed.specs.declared.typed.TExpr.{TExpr}
use Rattle.oc_typed.specs.declared.typed.TExprNode.{TExprNode}
use Rattle.oc_typed.specs.declared.typed.TPlace.{TPlace}
use Rattle.oc_walk.specs.declared.run.Value.{Value}
use Rattle.oc_walk.specs.declared.run.Value.TheVariants.{Int}
use Rattle.oc_walk.specs.Cells.{Only}
use Rattle.oc_walk.specs.Walking.{Go}
use Rattle.oc_walk.specs.Expressions.{whole, expr, place}
use Rattle.oc_meanings.specs.Clear.{clear}
use Rattle.clear_actions.specs.Acting.{state_of}
use Rattle.clear_actions.specs.declared.machine.Machine.{Machine}
use Rattle.clear_actions.specs.declared.machine.Fault.{Fault}
use Rattle.clear_glances.specs.Glances.{Part, AtOnce, Tells, TellsPlace}
use Rattle.clear_glances.specs.Writes.{DoesAtOnce}
use Rattle.clear_walk.specs.Runs.{Around, site_of, under_of, Here, Walks, RunsExpr, RunsNode, RunsPlace}

module _ (at : Around) where
  -- the part of a walk that stands here
  abbrev here : {T : Type 0} → Part T → Here at T
  here part x w = part at.setup.first at.setup.second x w

  at_once : {T : Type 0} {m : Machine} (part : Part T) (a : T) → AtOnce m part a → Walks at (here part) m (Ok a) m
  at_once {m = m} part a d = record {
    does = λ ls rounds n t lt. d at.setup.first at.setup.second (site_of ls rounds at) (under_of ls rounds n at) (sym t.structs_are);
    kept = (refl, refl);
    fewer = omega arith;
  }

  pub glanced : (e : TExpr) (n : ℤ) {m : Machine} {r : Result (Value ℤ) Fault} → Tells m e (Some n) → r ≡ Ok (Int (kind_of e.ty) n) → RunsExpr at e m r m
  glanced e n {m} {r} d h = subst (λ q. RunsExpr at e m q m) (sym h) (record { runs = at_once (λ f s x w. whole (clear f s) x w e) (Int (kind_of e.ty) n) d })

  pub glanced_place : (q : TPlace) (a : Address) {m : Machine} → TellsPlace m q (Some a) → RunsPlace at q m (Ok a) m
  glanced_place q a {m} d = record { runs = at_once (λ f s x w. place (clear f s) x w q.spot q.ty q.node) (Only a) d }

  -- what an assignment or an update at once does
  pub done : (n : TExprNode) (t : CType) (v : ℤ) {m m1 : Machine} {r : Result (Value ℤ) Fault} → DoesAtOnce m n t v m1 → r ≡ Ok (Int (kind_of t) v) → (e : TExpr) → RunsNode at e n m r m1
  done n t v {m} {m1} {r} d h e = subst (λ q. RunsNode at e n m q m1) (sym h) (subst (λ y. RunsNode at e n m (Ok (Int (kind_of t) v)) y) (sym d.1) (record {
    runs = record {
      does = λ ls rounds k y lt. subst (λ z. expr (clear at.setup.first at.setup.second) (site_of ls rounds at) (under_of ls rounds k at) e.spot e.ty n (state_of m) ≡ Go (Int (kind_of t) v) (state_of z)) d.1
          (d.0 at.setup.first at.setup.second (site_of ls rounds at) (under_of ls rounds k at) e.spot e.ty (sym y.structs_are));
      kept = (refl, refl);
      fewer = omega arith;
    };
  }))

  -- a walk from a machine that is this one
  pub from_same : {e : TExpr} {n : TExprNode} {m old m1 : Machine} {r : Result (Value ℤ) Fault} → m ≡ old → RunsNode at e n m r m1 → RunsNode at e n old r m1
  from_same {e} {n} {m} {old} {m1} {r} h x = subst (λ y. RunsNode at e n y r m1) h x
