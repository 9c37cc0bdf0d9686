-- The walk of statements: steps, scopes, loops and both parts of an `obliv if`.
use Rattle.std.specs.Prelude.{ℕ, zero, suc, List, [], ◌∷◌, Option, Some, None, Bool, true, slice_get}
use Rattle.oc_values.specs.declared.integers.IntKind.TheVariants.{Bool as KBool}
use Rattle.oc_cells.specs.declared.types.CType.{CType}
use Rattle.oc_cells.specs.declared.memory.Address.TheVariants.{At}
use Rattle.oc_source.specs.declared.spot.Spot.{Spot}
use Rattle.oc_typed.specs.declared.typed.TExpr.{TExpr}
use Rattle.oc_typed.specs.declared.typed.TDeclared.{TDeclared}
use Rattle.oc_typed.specs.declared.typed.TForInit.{TForInit}
use Rattle.oc_typed.specs.declared.typed.TForInit.TheVariants.{Nothing as NoInit, Declare as InitDeclare, Express as InitExpress}
use Rattle.oc_typed.specs.declared.typed.TStmt.{TStmt}
use Rattle.oc_typed.specs.declared.typed.TStmtNode.{TStmtNode, Declare, Express, Block', If', OblivIf', Always', While', For', Return, Break, Continue, Empty, Row_of-TStmt, end_of-TStmt, more_of-TStmt, Held-TStmtNode-If-2, None', Some'}
use Rattle.oc_walk.specs.declared.run.Value.TheVariants.{Hidden, Nothing}
use Rattle.oc_walk.specs.declared.run.Flow.{Flow}
use Rattle.oc_walk.specs.declared.run.Flow.TheVariants.{Next, Break as Broke, Continue as Continued, Back}
use Rattle.oc_walk.specs.declared.run.Outcome.TheVariants.{StepsSpent}
use Rattle.oc_walk.specs.Domain.{Domain, Parts, AllOf, FirstOf, SecondOf}
use Rattle.oc_walk.specs.Walking.{Stop, Ended, bind, pure, choose, still, own, step, scoped, Site, deeper}
use Rattle.oc_walk.specs.Cells.{A, puts, opens, typed_slot}
use Rattle.oc_walk.specs.Operations.{condition}
use Rattle.oc_walk.specs.Expressions.{Under, under, initializes, whole, tested}

module _ (D : Domain) where
  -- how a statement of a walk over the domain goes on
  abbrev pub F : Type 0
  F = Flow D.Hidden

  -- a variable's initialiser, if it has one: its value is written at the start of the variable's block
  abbrev pub started : Site → Under D → CType → ℕ → Option TExpr → A D (Unit {0})
  started x w u b None = pure tt
  started x w u b (Some e) = bind (whole D x w e) (λ v. initializes D e.spot x.run.structs u (At b 0) v)

  -- a declaration: a block of zero cells, then the initialiser, in which the name is visible already
  abbrev pub declares : Site → Under D → TDeclared → A D (Unit {0})
  declares x w d =
      typed_slot D d.spot (slice_get x.slots d.slot) (λ t. bind (opens D d.spot x.run.structs t.ty d.slot) (λ b. started x w t.ty b d.init))

  -- the variables of one declaration, in order
  abbrev pub declares_all : Site → Under D → List TDeclared → A D (Unit {0})
  declares_all x w [] = pure tt
  declares_all x w (d ∷ ds) = bind (declares x w d) (λ _. declares_all x w ds)

  -- what is walked after a statement that goes on so
  abbrev pub proceed : F → A D F → A D F
  proceed Next m = m
  proceed Broke m = pure Broke
  proceed Continued m = pure Continued
  proceed (Back v) m = pure (Back v)

  -- how a body's end ends a loop; where it doesn't, the advance follows
  abbrev pub part_done : A D (Unit {0}) → F → A D (Option F)
  part_done adv Next = bind adv (λ _. pure None)
  part_done adv Continued = bind adv (λ _. pure None)
  part_done adv Broke = pure (Some Next)
  part_done adv (Back v) = pure (Some (Back v))

  -- one round of a loop, which takes a step where its condition is true, or the loop's end
  abbrev pub round : A D Bool → A D F → A D (Unit {0}) → A D (Option F)
  round c b adv = bind c (λ t. choose t (bind step (λ _. bind b (part_done adv))) (pure (Some Next)))

  -- the rest of a loop, unless it ended
  abbrev pub again : Option F → A D F → A D F
  again None m = m
  again (Some f) m = pure f

  -- at most n rounds of a loop; n is more than the steps of the budget, which end first
  abbrev pub loop : ℕ → A D Bool → A D F → A D (Unit {0}) → A D F
  loop zero c b adv s = Stop (Ended StepsSpent) s
  loop (suc n) c b adv s = bind (round c b adv) (λ o. again o (loop n c b adv)) s

  -- what the header of a `for` begins with
  abbrev pub header : Site → Under D → TForInit → A D (Unit {0})
  header x w NoInit = pure tt
  header x w (InitDeclare ds) = declares_all x w ds
  header x w (InitExpress e) = bind (whole D x w e) (λ _. pure tt)

  -- the condition of a `for`, which holds where it has none
  abbrev pub tested_or : Site → Under D → Option TExpr → A D Bool
  tested_or x w None = pure true
  tested_or x w (Some e) = tested D x w e

  -- the advance of a `for`
  abbrev pub advances : Site → Under D → Option TExpr → A D (Unit {0})
  advances x w None = pure tt
  advances x w (Some e) = bind (whole D x w e) (λ _. pure tt)

  -- the end of a call by a `return`
  abbrev pub gives_back : Site → Under D → Option TExpr → A D F
  gives_back x w None = pure (Back Nothing)
  gives_back x w (Some e) = bind (whole D x w e) (λ v. pure (Back v))

  -- the first of these walks where both parts are walked, the second where the first part alone, the third where the second alone
  abbrev pub parted : Parts → A D F → A D F → A D F → A D F
  parted AllOf m n k = m
  parted FirstOf m n k = n
  parted SecondOf m n k = k

  -- both parts of an `obliv if` in order, each under its enable, which is made of the outer one and the condition
  abbrev pub both : D.Enable → D.Hidden → (D.Enable → A D F) → (D.Enable → A D F) → A D F
  both e h m n =
      bind (still (own (D.first e h))) (λ u. bind (m u) (λ f. proceed f (bind (still (own (D.second e h u))) (λ d. n d))))

  abbrev mutual
    -- a statement after its step; the site is that of its parts
    pub node : Site → Under D → Spot → TStmtNode → A D F
    node x w p (Declare ds) = bind (declares_all x w ds) (λ _. pure Next)
    node x w p (Express e) = bind (whole D x w e) (λ _. pure Next)
    node x w p (Block' _ ss) = scoped (stmts x w ss)
    node x w p (If' c _ s n) = bind (tested D x w c) (λ b. choose b (part x w s) (other x w n))
    node x w p (OblivIf' c _ s n) =
        bind (whole D x w c) (λ v. bind (still (condition D c.spot v)) (λ h. parted (D.decide h)
        (both w.enable h (λ e. part x (under D w e) s) (λ d. other x (under D w d) n))
        (bind (part x w s) (λ f. proceed f (bind (w.skip x n) (λ _. pure Next))))
        (bind (w.skip x (Some' tt s)) (λ _. other x w n))))
    node x w p (Always' n _ s) =
        scoped (typed_slot D p (slice_get x.slots n) (λ t. bind (opens D p x.run.structs t.ty n) (λ b.
        bind (still (puts D p t.ty (At b 0) (Hidden KBool (D.held w.enable)))) (λ _. part x (under D w D.always) s))))
    node x w p (While' c _ s) = loop x.run.rounds (tested D x w c) (part x w s) (pure tt)
    node x w p (For' i c a _ s) =
        scoped (bind (header x w i) (λ _. loop x.run.rounds (tested_or x w c) (part x w s) (advances x w a)))
    node x w p (Return e) = gives_back x w e
    node x w p Break = pure Broke
    node x w p Continue = pure Continued
    node x w p Empty = pure Next

    -- a part of a statement with its step; it is a scope
    pub part : Site → Under D → Row_of-TStmt 1 → A D F
    part x w (more_of-TStmt q c rest) = scoped (bind step (λ _. node (deeper x) w q c))

    -- the statements of a block, each with its step
    pub stmts : {m : _} → Site → Under D → Row_of-TStmt m → A D F
    stmts x w end_of-TStmt = pure Next
    stmts x w (more_of-TStmt q c rest) = bind (bind step (λ _. node (deeper x) w q c)) (λ f. proceed f (stmts x w rest))

    -- the part after an `else`, if there is one
    pub other : Site → Under D → Held-TStmtNode-If-2 → A D F
    other x w None' = pure Next
    other x w (Some' _ s) = part x w s

  -- a statement with its step
  abbrev pub stepped : Site → Under D → TStmt → A D F
  stepped x w s = bind step (λ _. node (deeper x) w s.spot s.node)

  -- the statements of a function's body, which is no statement itself
  abbrev pub listed : Site → Under D → List TStmt → A D F
  listed x w [] = pure Next
  listed x w (s ∷ ss) = bind (stepped x w s) (λ f. proceed f (listed x w ss))
