-- The walk of a program: its calls, from the function that it starts with.
use Rattle.std.specs.Prelude.{ℕ, zero, suc, ℤ, pos, List, [], ◌∷◌, Option, Some, None, true, false, slice_get}
use Rattle.oc_cells.specs.declared.types.CType.{CType, Int as CInt, Pointer' as CPointer'}
use Rattle.oc_cells.specs.declared.types.SlotType.{SlotType}
use Rattle.oc_cells.specs.declared.types.StructType.{StructType}
use Rattle.oc_cells.specs.declared.memory.Address.TheVariants.{Null, At}
use Rattle.oc_cells.specs.declared.trap.TrapKind.TheVariants.{M6}
use Rattle.oc_cells.specs.Layout.{struct_leaves}
use Rattle.oc_source.specs.declared.spot.Spot.{Spot}
use Rattle.oc_typed.specs.declared.typed.TStmtNode.{Held-TStmtNode-If-2}
use Rattle.oc_typed.specs.declared.typed.TypedFunction.{TypedFunction}
use Rattle.oc_walk.specs.declared.run.Value.TheVariants.{Int, Pointer, Hidden, Nothing}
use Rattle.oc_walk.specs.declared.run.Flow.TheVariants.{Back}
use Rattle.oc_walk.specs.declared.run.Named.{Named}
use Rattle.oc_walk.specs.Domain.{Domain}
use Rattle.oc_walk.specs.Walking.{Res, Go, Stop, bind, pure, trap, odd, still, finish, Known, Run, Site}
use Rattle.oc_walk.specs.Cells.{V, S, A, puts, opens, typed_slot}
use Rattle.oc_walk.specs.Expressions.{Under}
use Rattle.oc_walk.specs.Statements.{F, listed}

-- what the nodes of a program's run share; each round of a loop but its last takes a step, so that one round more than the budget is enough
abbrev pub run_of : List StructType → Known → ℕ → Run
run_of structs known budget = record { known = known; structs = struct_leaves structs; rounds = suc budget }

-- where a program starts, whose call is at no node
abbrev pub nowhere : Spot
nowhere = record { line = 0; column = 0 }

module _ (D : Domain) where
  -- what a function that ends without `return` gives: zero or null
  abbrev pub zero_value : CType → V D
  zero_value (CInt k false) = Int k (pos 0)
  zero_value (CInt k true) = Hidden k (D.known k (pos 0))
  zero_value (CPointer' f u t) = Pointer Null
  zero_value _ = Nothing

  -- the value of a call whose body ends so
  abbrev pub value_back : CType → F D → V D
  value_back t (Back v) = v
  value_back t _ = zero_value t

  -- a call after its body's walk: its variables' blocks are gone, and the caller's slots are entered again
  abbrev pub returned : CType → List Named → Res (S D) (F D) → Res (S D) (V D)
  returned t outer (Go f s) = Go (value_back t f) (finish outer s)
  returned t outer (Stop w s) = Stop w s

  -- a call's walk, in which no slot is entered yet
  abbrev pub called : CType → A D (F D) → A D (V D)
  called t m s = returned t s.entered (m (record s { entered = [] }))

  -- the parameters' variables from slot n on, each with the value of its argument, which no enable holds back
  abbrev pub params : Spot → List (List CType) → List SlotType → ℕ → List (V D) → A D (Unit {0})
  params p lss slots n [] = pure tt
  params p lss slots n (v ∷ vs) =
      typed_slot D p (slice_get slots n) (λ t. bind (opens D p lss t.ty n) (λ b.
      bind (still (puts D p t.ty (At b 0) v)) (λ _. params p lss slots (suc n) vs)))

  -- a call of this function with these arguments: its parameters' variables are made, then its body is walked
  abbrev pub invokes : Site → Under D → Spot → TypedFunction → List (V D) → A D (V D)
  invokes x w p f vs = called f.result (bind (params p x.run.structs f.slots 0 vs) (λ _. listed D x w f.body))

  -- what follows with a function that is there
  abbrev pub found : Spot → Option TypedFunction → (TypedFunction → A D (V D)) → A D (V D)
  found p (Some g) k = k g
  found p None k = odd p

  -- what stands for the parts that aren't walked, below each number of calls that may still hold one another
  abbrev pub Skips : Type 0
  Skips = ℕ → Site → Held-TStmtNode-If-2 → A D (Unit {0})

  -- the call of function f at this spot, under an enable, with the room at its node: without room it is a trap, and its body has one less.
  -- The number goes down by one at each call too, so that the walk ends by its form; room is less, and ends first
  abbrev pub calls : Skips → Run → List TypedFunction → ℕ → Spot → ℕ → D.Enable → ℕ → List (V D) → A D (V D)
  calls skips run fs zero p f e room vs = trap M6 p
  calls skips run fs (suc n) p f e zero vs = trap M6 p
  calls skips run fs (suc n) p f e (suc room) vs =
      found p (slice_get fs f) (λ g. invokes (record { run = run; slots = g.slots; room = room })
      (record { enable = e; call = calls skips run fs n; skip = skips n }) p g vs)

  -- the state at the start: no block, no slot
  abbrev pub start : ℕ → List ℤ → ℕ → D.Own → S D
  start dealt answers budget o =
      record { mem = record { blocks = []; dealt = dealt; answers = answers; taken = 0; own = o }; entered = []; steps = budget }

  -- a program's walk, from the call of the function that it starts with, below which 1,000 nodes may hold one another
  abbrev pub walk : Skips → List StructType → List TypedFunction → ℕ → Known → ℕ → List ℤ → ℕ → D.Own → Res (S D) (V D)
  walk skips structs fs entry known dealt answers budget o =
      calls skips (run_of structs known budget) fs 1002 nowhere entry D.always 1001 [] (start dealt answers budget o)
