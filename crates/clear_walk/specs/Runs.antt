-- What a run in the clear does, as the code holds it: each function's contract is the walk of its part of the tree.
use Rattle.std.specs.Prelude.{ℕ, ◌≡◌, ◌<◌, ◌≤◌, ℤ, List, [], ◌∷◌, ◌++◌, Option, Some, None, Bool, true, Result, Ok, Err, slice_get}
use Rattle.oc_values.specs.declared.integers.BinaryOp.{BinaryOp}
use Rattle.oc_values.specs.declared.integers.IntKind.TheVariants.{Bool as KBool}
use Rattle.oc_values.specs.Integers.{number_of}
use Rattle.oc_source.specs.declared.spot.Spot.{Spot}
use Rattle.oc_cells.specs.declared.types.CType.{CType}
use Rattle.oc_cells.specs.declared.types.SlotType.{SlotType}
use Rattle.oc_cells.specs.declared.memory.Address.{Address}
use Rattle.oc_cells.specs.declared.memory.Address.TheVariants.{At as AtCell}
use Rattle.oc_cells.specs.Types.{kind_of, is_hidden}
use Rattle.oc_cells.specs.Layout.{struct_leaves}
use Rattle.oc_cells.specs.declared.types.StructType.{StructType}
use Rattle.oc_cells.specs.declared.trap.TrapKind.TheVariants.{M5}
use Rattle.oc_typed.specs.Static.{working_kind}
use Rattle.oc_typed.specs.declared.typed.TExpr.{TExpr}
use Rattle.oc_typed.specs.declared.typed.TExprNode.{TExprNode}
use Rattle.oc_typed.specs.declared.typed.TPlace.{TPlace}
use Rattle.oc_typed.specs.declared.typed.TPlaceNode.{TPlaceNode}
use Rattle.oc_typed.specs.declared.typed.TDeclared.{TDeclared}
use Rattle.oc_typed.specs.declared.typed.TForInit.{TForInit}
use Rattle.oc_typed.specs.declared.typed.TStmt.{TStmt}
use Rattle.oc_typed.specs.declared.typed.TStmtNode.{TStmtNode}
use Rattle.oc_typed.specs.declared.typed.TypedFunction.{TypedFunction}
use Rattle.oc_walk.specs.declared.run.ClearSetup.{ClearSetup}
use Rattle.oc_walk.specs.declared.run.Value.{Value}
use Rattle.oc_walk.specs.declared.run.Value.TheVariants.{Hidden}
use Rattle.oc_walk.specs.declared.run.Flow.{Flow}
use Rattle.oc_walk.specs.declared.run.Flow.TheVariants.{Next}
use Rattle.oc_walk.specs.declared.run.Source.{Source}
use Rattle.oc_walk.specs.declared.run.Source.TheVariants.{Public}
use Rattle.oc_walk.specs.declared.run.Outcome.{Outcome}
use Rattle.oc_walk.specs.declared.run.Outcome.TheVariants as outcome
use Rattle.oc_walk.specs.Domain.{Domain}
use Rattle.oc_walk.specs.Walking.{Act, Site, Run, bind, pure, still, scoped, live_limit}
use Rattle.oc_walk.specs.Cells.{Goal, Only, gets, sets, puts, opens, typed_slot}
use Rattle.oc_walk.specs.Operations.{operates, condition}
use Rattle.oc_walk.specs.Builtins.{source_at}
use Rattle.oc_walk.specs.Expressions.{Under, under, whole, expr, place, tested, turned, readied, renewed}
use Rattle.oc_walk.specs.Statements.{declares, declares_all, header, tested_or, advances, gives_back, part_done, both, round, loop, node, stepped, listed, started}
use Rattle.oc_walk.specs.Walk.{calls, params, invokes, start}
use Rattle.oc_meanings.specs.Clear.{clear, known_of, no_skip}
use Rattle.clear_actions.specs.Acting.{ClearState, Gives, SameBlocks, bare, state_of}
use Rattle.clear_actions.specs.declared.machine.Machine.{Machine}
use Rattle.clear_actions.specs.declared.machine.Fault.{Fault}
use Rattle.clear_actions.specs.declared.machine.Halt.{Halt}
use Rattle.clear_actions.specs.declared.machine.Halt.TheVariants as halt
use Rattle.clear_walk.specs.declared.around.Frame.{Frame}
use Rattle.clear_walk.specs.declared.around.At.{At}
use Rattle.clear_walk.specs.declared.variables.Opened.{Opened}
use Rattle.clear_walk.specs.declared.writes.Condition.{Condition}

-- what surrounds a node of a run: the run's words and functions, the slots of the call, whether hidden writes are enabled, and
-- how many nodes may still hold one another up to a call
pub record Around : Type 0 where
  pub setup : ClearSetup
  pub functions : List TypedFunction
  pub slots : List SlotType
  pub enabled : Bool
  pub room : ℕ

-- what surrounds a node that stands there in a call
abbrev pub around : Frame → At → Around
around f at = record { setup = f.setup.now; functions = f.functions.now; slots = f.slots.now; enabled = at.enabled; room = at.room }

-- the domain of a run
abbrev pub domain : ClearSetup → Domain
domain s = clear s.first s.second

-- the domain of a node's run
abbrev pub domain_of : Around → Domain
domain_of at = domain at.setup

-- what the nodes of a run share, with the leaves of each struct and more rounds than any loop makes
abbrev pub shared : ClearSetup → List (List CType) → ℕ → Run
shared s structs rounds = record { known = known_of s; structs = structs; rounds = rounds }

-- what surrounds a node in every walk alike
abbrev pub site_of : List (List CType) → ℕ → Around → Site
site_of structs rounds at = record { run = shared at.setup structs rounds; slots = at.slots; room = at.room }

-- what surrounds it in the clear, where so many calls may still hold one another
abbrev pub under_of : List (List CType) → ℕ → ℕ → (at : Around) → Under (domain at.setup)
under_of structs rounds n at = record {
  enable = at.enabled;
  call = calls (domain at.setup) no_skip (shared at.setup structs rounds) at.functions n;
  skip = no_skip n;
}

-- a machine in which a walk may be: its store has the language's limit and these structs, and fewer steps are left than rounds
pub record Ready (structs : List (List CType)) (rounds : ℕ) (m : Machine) : Type 0 where
  pub limit : m.store.blocks.limit ≡ live_limit
  pub structs_are : m.store.blocks.structs ≡ structs
  pub steps : m.steps < rounds

-- the walk of a node in the clear, from what surrounds it
abbrev pub Here : Around → Type 0 → Type 0
Here at T = Site → Under (domain at.setup) → Act ClearState T

-- the code does what this walk does, whatever number of calls above the room may hold one another; it gains no step and
-- keeps the limit and the structs
pub record Walks {T : Type 0} (at : Around) (walk : Here at T) (m : Machine) (result : Result T Fault) (new : Machine) : Type 0 where
  pub does : (structs : List (List CType)) (rounds n : ℕ) → Ready structs rounds m → at.room < n
      → Gives (walk (site_of structs rounds at) (under_of structs rounds n at) (state_of m)) result (state_of new)
  pub kept : SameBlocks m.store new.store
  pub fewer : new.steps ≤ m.steps

-- the code does what this action does at each site that has the store's structs, where the store has the language's limit
pub record Acts {T : Type 0} (act : Site → Act ClearState T) (m : Machine) (result : Result T Fault) (new : Machine) : Type 0 where
  pub does : (x : Site) → x.run.structs ≡ m.store.blocks.structs → m.store.blocks.limit ≡ live_limit → Gives (act x (state_of m)) result (state_of new)
  pub kept : SameBlocks m.store new.store
  pub fewer : new.steps ≤ m.steps

-- what the first of some expressions is to a feed
abbrev pub source_in : List TExpr → Source
source_in [] = Public
source_in (e ∷ es) = source_at e.spot e.node

-- an update's new value where its place is an integer
abbrev pub renewed_integer : Spot → BinaryOp → CType → CType → Value ℤ → Value ℤ → Act ClearState (Value ℤ)
renewed_integer p op u t y v =
    bind (still (operates bare p op (working_kind op u t) (is_hidden u) y v)) (λ z. turned bare p (working_kind op u t) (kind_of u) z)

-- an update once its place and its value are known: it reads, computes and writes
abbrev pub updates : Site → Bool → Spot → BinaryOp → Spot → CType → CType → Address → Value ℤ → Act ClearState (Value ℤ)
updates x e p op q u t a v =
    bind (still (gets bare q u (Only a))) (λ o. bind (readied bare p op u t o) (λ y. bind (renewed bare x p op u t y v) (λ z.
    still (sets bare q e u (Only a) z))))

-- the first part of an update whose value is the old one: that value, and the same as its operator takes it
abbrev pub begins_update : Spot → BinaryOp → Spot → CType → CType → Address → Act ClearState (Value ℤ × Value ℤ)
begins_update p op q u t a =
    bind (still (gets bare q u (Only a))) (λ old. bind (still (gets bare q u (Only a))) (λ o. bind (readied bare p op u t o) (λ y. pure (old, y))))

-- its other part, once the operand is known
abbrev pub ends_update : Site → Bool → Spot → BinaryOp → Spot → CType → CType → Address → Value ℤ → Value ℤ → Value ℤ → Act ClearState (Value ℤ)
ends_update x e p op q u t a old y v =
    bind (renewed bare x p op u t y v) (λ z. bind (still (sets bare q e u (Only a) z)) (λ _. pure old))

-- the goal that an address is
abbrev pub goal_of : Result Address Fault → Result (Goal ℤ) Fault
goal_of (Ok a) = Ok (Only a)
goal_of (Err f) = Err f

-- a new variable as its type and its block
abbrev pub opened_of : Result Opened Fault → Result (CType × ℕ) Fault
opened_of (Ok o) = Ok (o.ty.now, o.block)
opened_of (Err f) = Err f

-- a hidden condition as its integer
abbrev pub integer_of : Result Condition Fault → Result ℤ Fault
integer_of (Ok c) = Ok c.value
integer_of (Err f) = Err f

module _ (at : Around) where
  -- the walk of two expressions from left to right, whose result is their values
  abbrev pub two : TExpr → TExpr → Here at (Value ℤ × Value ℤ)
  two l r x w = bind (whole (domain_of at) x w l) (λ v. bind (whole (domain_of at) x w r) (λ z. pure (v, z)))

  -- the walk of a list of expressions from left to right, whose result is their values
  abbrev pub wholes : Site → Under (domain_of at) → List TExpr → Act ClearState (List (Value ℤ))
  wholes x w [] = pure []
  wholes x w (e ∷ es) = bind (whole (domain_of at) x w e) (λ v. bind (wholes x w es) (λ vs. pure (v ∷ vs)))

  -- the cell of a place, as its address
  abbrev pub place_of : TPlace → Here at (Goal ℤ)
  place_of q x w = place (domain_of at) x w q.spot q.ty q.node

  -- a new variable under a slot's number: its type and its block
  abbrev pub opened : Spot → ℕ → Here at (CType × ℕ)
  opened p n x w =
      typed_slot (domain_of at) p (slice_get x.slots n) (λ t. bind (opens (domain_of at) p x.run.structs t.ty n) (λ b. pure (t.ty, b)))

  -- a parameter's variable, with the value of its argument
  abbrev pub filled : Spot → ℕ → Value ℤ → Here at (Unit {0})
  filled p n v x w =
      typed_slot (domain_of at) p (slice_get x.slots n) (λ t. bind (opens (domain_of at) p x.run.structs t.ty n) (λ b.
      bind (still (puts (domain_of at) p t.ty (AtCell b 0) v)) (λ _. pure tt)))

  -- a statement as a part of another one: a scope
  abbrev pub part_of : TStmt → Here at (Flow ℤ)
  part_of s x w = scoped (stepped (domain_of at) x w s)

  -- the part after an `else`, if there is one
  abbrev pub other_of : Option TStmt → Here at (Flow ℤ)
  other_of None x w = pure Next
  other_of (Some s) x w = part_of s x w

  -- both parts of an `obliv if` with a condition of this value
  abbrev pub both_of : ℤ → TStmt → Option TStmt → Here at (Flow ℤ)
  both_of h s n x w =
      both (domain_of at) w.enable h (λ e. part_of s x (under (domain_of at) w e)) (λ d. other_of n x (under (domain_of at) w d))

  -- the body of a statement that is always enabled, whose variable holds the outer enable
  abbrev pub always_of : Spot → ℕ → TStmt → Here at (Flow ℤ)
  always_of p k s x w =
      typed_slot (domain_of at) p (slice_get x.slots k) (λ t. bind (opens (domain_of at) p x.run.structs t.ty k) (λ b.
      bind (still (puts (domain_of at) p t.ty (AtCell b 0) (Hidden KBool (number_of w.enable)))) (λ _. part_of s x (under (domain_of at) w true))))

  -- one round of a loop with this condition, advance and body
  abbrev pub round_of : Option TExpr → Option TExpr → TStmt → Here at (Option (Flow ℤ))
  round_of c a s x w = round (domain_of at) (tested_or (domain_of at) x w c) (part_of s x w) (advances (domain_of at) x w a)

  -- at most so many rounds of it
  abbrev pub loop_of : ℕ → Option TExpr → Option TExpr → TStmt → Here at (Flow ℤ)
  loop_of k c a s x w = loop (domain_of at) k (tested_or (domain_of at) x w c) (part_of s x w) (advances (domain_of at) x w a)

  -- a `for`: its header, then its rounds
  abbrev pub headed : TForInit → Option TExpr → Option TExpr → TStmt → Here at (Flow ℤ)
  headed i c a s x w = bind (header (domain_of at) x w i) (λ _. loop_of x.run.rounds c a s x w)

-- the code gives the value of an expression as its walk does
pub record RunsExpr (at : Around) (e : TExpr) (m : Machine) (result : Result (Value ℤ) Fault) (new : Machine) : Type 0 where
  pub runs : Walks at (λ x w. whole (domain_of at) x w e) m result new

-- the same of an expression with the spot and the type of another one and this node
pub record RunsNode (at : Around) (e : TExpr) (n : TExprNode) (m : Machine) (result : Result (Value ℤ) Fault) (new : Machine) : Type 0 where
  pub runs : Walks at (λ x w. expr (domain_of at) x w e.spot e.ty n) m result new

-- the code gives the values of two expressions, in order, as their walk does
pub record RunsTwo (at : Around) (l r : TExpr) (m : Machine) (result : Result (Value ℤ × Value ℤ) Fault) (new : Machine) : Type 0 where
  pub runs : Walks at (two at l r) m result new

-- the code gives the values of expressions, in order, as their walk does
pub record RunsExprs (at : Around) (es : List TExpr) (m : Machine) (result : Result (List (Value ℤ)) Fault) (new : Machine) : Type 0 where
  pub runs : Walks at (λ x w. wholes at x w es) m result new

-- after some of the expressions, with these values, these are left
pub record Valued (at : Around) (es : List TExpr) (m : Machine) (values : List (Value ℤ)) (left : List TExpr) (new : Machine) : Type 0 where
  pub does : (structs : List (List CType)) (rounds n : ℕ) → Ready structs rounds m → at.room < n
      → wholes at (site_of structs rounds at) (under_of structs rounds n at) es (state_of m)
      ≡ bind (wholes at (site_of structs rounds at) (under_of structs rounds n at) left) (λ vs. pure (values ++ vs)) (state_of new)
  pub kept : SameBlocks m.store new.store
  pub fewer : new.steps ≤ m.steps

-- the code gives the address of a place as its walk does
pub record RunsPlace (at : Around) (q : TPlace) (m : Machine) (result : Result Address Fault) (new : Machine) : Type 0 where
  pub runs : Walks at (place_of at q) m (goal_of result) new

-- the same of a place with the spot and the type of another one and this node
pub record RunsPlaceNode (at : Around) (q : TPlace) (n : TPlaceNode) (m : Machine) (result : Result Address Fault) (new : Machine) : Type 0 where
  pub runs : Walks at (λ x w. place (domain_of at) x w q.spot q.ty n) m (goal_of result) new

-- the code tests a condition as its walk does
pub record RunsTest (at : Around) (c : TExpr) (m : Machine) (result : Result Bool Fault) (new : Machine) : Type 0 where
  pub runs : Walks at (λ x w. tested (domain_of at) x w c) m result new

-- the code tests a condition of a loop as its walk does; one that is left out holds
pub record RunsCondition (at : Around) (c : Option TExpr) (m : Machine) (result : Result Bool Fault) (new : Machine) : Type 0 where
  pub runs : Walks at (λ x w. tested_or (domain_of at) x w c) m result new

-- the code gives the integer of a hidden condition as its walk does
pub record RunsHidden (at : Around) (c : TExpr) (m : Machine) (result : Result Condition Fault) (new : Machine) : Type 0 where
  pub runs : Walks at (λ x w. bind (whole (domain_of at) x w c) (λ v. still (condition (domain_of at) c.spot v))) m (integer_of result) new

-- the code runs the advance of a `for` as its walk does
pub record RunsAdvance (at : Around) (e : Option TExpr) (m : Machine) (result : Result (Unit {0}) Fault) (new : Machine) : Type 0 where
  pub runs : Walks at (λ x w. advances (domain_of at) x w e) m result new

-- the code goes on after a loop's body that ended so as the walk does
pub record RunsDone (at : Around) (a : Option TExpr) (f : Flow ℤ) (m : Machine) (result : Result (Option (Flow ℤ)) Fault) (new : Machine) : Type 0 where
  pub runs : Walks at (λ x w. part_done (domain_of at) (advances (domain_of at) x w a) f) m result new

-- the code makes a variable of zero cells as the walk does
pub record RunsOpened (at : Around) (p : Spot) (n : ℕ) (m : Machine) (result : Result Opened Fault) (new : Machine) : Type 0 where
  pub runs : Walks at (opened at p n) m (opened_of result) new

-- the code initialises a variable's block as its walk does
pub record RunsStart (at : Around) (t : CType) (b : ℕ) (e : Option TExpr) (m : Machine) (result : Result (Unit {0}) Fault) (new : Machine) : Type 0 where
  pub runs : Walks at (λ x w. started (domain_of at) x w t b e) m result new

-- the code makes and initialises a variable as its walk does
pub record RunsDeclared (at : Around) (d : TDeclared) (m : Machine) (result : Result (Unit {0}) Fault) (new : Machine) : Type 0 where
  pub runs : Walks at (λ x w. declares (domain_of at) x w d) m result new

-- the code makes and initialises the variables of a declaration, in order, as their walk does
pub record RunsDeclares (at : Around) (ds : List TDeclared) (m : Machine) (result : Result (Unit {0}) Fault) (new : Machine) : Type 0 where
  pub runs : Walks at (λ x w. declares_all (domain_of at) x w ds) m result new

-- after some of the variables, these are left
pub record Declared (at : Around) (ds : List TDeclared) (m : Machine) (left : List TDeclared) (new : Machine) : Type 0 where
  pub does : (structs : List (List CType)) (rounds n : ℕ) → Ready structs rounds m → at.room < n
      → declares_all (domain_of at) (site_of structs rounds at) (under_of structs rounds n at) ds (state_of m)
      ≡ declares_all (domain_of at) (site_of structs rounds at) (under_of structs rounds n at) left (state_of new)
  pub kept : SameBlocks m.store new.store
  pub fewer : new.steps ≤ m.steps

-- the code begins a `for` as the walk of its header does
pub record RunsHeader (at : Around) (i : TForInit) (m : Machine) (result : Result (Unit {0}) Fault) (new : Machine) : Type 0 where
  pub runs : Walks at (λ x w. header (domain_of at) x w i) m result new

-- the code runs a statement with its step as its walk does
pub record RunsStmt (at : Around) (s : TStmt) (m : Machine) (result : Result (Flow ℤ) Fault) (new : Machine) : Type 0 where
  pub runs : Walks at (λ x w. stepped (domain_of at) x w s) m result new

-- the same of a statement at this spot after its step; what surrounds it is that of its parts
pub record RunsAfter (at : Around) (p : Spot) (n : TStmtNode) (m : Machine) (result : Result (Flow ℤ) Fault) (new : Machine) : Type 0 where
  pub runs : Walks at (λ x w. node (domain_of at) x w p n) m result new

-- the code runs a statement as a part of another one, which is a scope
pub record RunsPart (at : Around) (s : TStmt) (m : Machine) (result : Result (Flow ℤ) Fault) (new : Machine) : Type 0 where
  pub runs : Walks at (part_of at s) m result new

-- the code runs the part after an `else`, if there is one
pub record RunsOther (at : Around) (s : Option TStmt) (m : Machine) (result : Result (Flow ℤ) Fault) (new : Machine) : Type 0 where
  pub runs : Walks at (other_of at s) m result new

-- the code runs both parts of an `obliv if` whose condition has this value
pub record RunsBoth (at : Around) (h : ℤ) (s : TStmt) (n : Option TStmt) (m : Machine) (result : Result (Flow ℤ) Fault) (new : Machine) : Type 0 where
  pub runs : Walks at (both_of at h s n) m result new

-- the code runs the body of a statement that is always enabled, in the variable of this slot
pub record RunsAlways (at : Around) (p : Spot) (k : ℕ) (s : TStmt) (m : Machine) (result : Result (Flow ℤ) Fault) (new : Machine) : Type 0 where
  pub runs : Walks at (always_of at p k s) m result new

-- the code runs statements in order as their walk does
pub record RunsList (at : Around) (ss : List TStmt) (m : Machine) (result : Result (Flow ℤ) Fault) (new : Machine) : Type 0 where
  pub runs : Walks at (λ x w. listed (domain_of at) x w ss) m result new

-- after some of the statements, these are left
pub record Passed (at : Around) (ss : List TStmt) (m : Machine) (left : List TStmt) (new : Machine) : Type 0 where
  pub does : (structs : List (List CType)) (rounds n : ℕ) → Ready structs rounds m → at.room < n
      → listed (domain_of at) (site_of structs rounds at) (under_of structs rounds n at) ss (state_of m)
      ≡ listed (domain_of at) (site_of structs rounds at) (under_of structs rounds n at) left (state_of new)
  pub kept : SameBlocks m.store new.store
  pub fewer : new.steps ≤ m.steps

-- the code makes one round of a loop as its walk does
pub record RunsRound (at : Around) (c a : Option TExpr) (s : TStmt) (m : Machine) (result : Result (Option (Flow ℤ)) Fault) (new : Machine) : Type 0 where
  pub runs : Walks at (round_of at c a s) m result new

-- the code makes all rounds of a loop as its walk does
pub record RunsLoop (at : Around) (c a : Option TExpr) (s : TStmt) (m : Machine) (result : Result (Flow ℤ) Fault) (new : Machine) : Type 0 where
  pub runs : Walks at (λ x w. loop_of at x.run.rounds c a s x w) m result new

-- the code runs a `for` without its scope as its walk does
pub record RunsHeaded (at : Around) (i : TForInit) (c a : Option TExpr) (s : TStmt) (m : Machine) (result : Result (Flow ℤ) Fault) (new : Machine) : Type 0 where
  pub runs : Walks at (headed at i c a s) m result new

-- after some rounds of a loop, as many rounds as more than the steps that are left are still enough
pub record Turned (at : Around) (c a : Option TExpr) (s : TStmt) (m : Machine) (new : Machine) : Type 0 where
  pub does : (structs : List (List CType)) (rounds n : ℕ) → Ready structs rounds m → at.room < n
      → (k : ℕ) × (new.steps < k) × (loop_of at rounds c a s (site_of structs rounds at) (under_of structs rounds n at) (state_of m)
      ≡ loop_of at k c a s (site_of structs rounds at) (under_of structs rounds n at) (state_of new))
  pub kept : SameBlocks m.store new.store
  pub fewer : new.steps ≤ m.steps

-- the code ends a call by a `return` as its walk does
pub record RunsReturn (at : Around) (e : Option TExpr) (m : Machine) (result : Result (Flow ℤ) Fault) (new : Machine) : Type 0 where
  pub runs : Walks at (λ x w. gives_back (domain_of at) x w e) m result new

-- the code makes a parameter's variable as its walk does
pub record RunsFilled (at : Around) (p : Spot) (k : ℕ) (v : Value ℤ) (m : Machine) (result : Result (Unit {0}) Fault) (new : Machine) : Type 0 where
  pub runs : Walks at (filled at p k v) m result new

-- the code makes the parameters' variables as their walk does
pub record RunsParams (at : Around) (p : Spot) (vs : List (Value ℤ)) (m : Machine) (result : Result (Unit {0}) Fault) (new : Machine) : Type 0 where
  pub runs : Walks at (λ x w. params (domain_of at) p x.run.structs x.slots 0 vs) m result new

-- after the variables of the first k parameters, those of these arguments are left
pub record Filled (at : Around) (p : Spot) (vs : List (Value ℤ)) (m : Machine) (k : ℕ) (left : List (Value ℤ)) (new : Machine) : Type 0 where
  pub does : (structs : List (List CType)) (rounds n : ℕ) → Ready structs rounds m → at.room < n
      → params (domain_of at) p structs at.slots 0 vs (state_of m) ≡ params (domain_of at) p structs at.slots k left (state_of new)
  pub kept : SameBlocks m.store new.store
  pub fewer : new.steps ≤ m.steps

-- the code runs a function with these arguments as its walk does, where the slots around it are the function's own
pub record RunsFunction (at : Around) (p : Spot) (f : TypedFunction) (vs : List (Value ℤ)) (m : Machine) (result : Result (Value ℤ) Fault) (new : Machine) : Type 0 where
  pub runs : at.slots ≡ f.slots → Walks at (λ x w. invokes (domain_of at) x w p f vs) m result new

-- the code calls a function with these arguments as the walk of a call does
pub record RunsCall (at : Around) (p : Spot) (f : ℕ) (vs : List (Value ℤ)) (m : Machine) (result : Result (Value ℤ) Fault) (new : Machine) : Type 0 where
  pub runs : Walks at (λ x w. w.call p f at.enabled at.room vs) m result new

-- how a run ends that stops so: a value of another form, which no typed program meets, counts as a cell of another type
abbrev pub outcome_of : Halt → Outcome
outcome_of (halt.Trap kind p) = outcome.Trap kind p
outcome_of halt.StepsSpent = outcome.StepsSpent
outcome_of halt.DealtSpent = outcome.DealtSpent
outcome_of (halt.Odd p) = outcome.Trap M5 p

-- a machine at the start of a run
abbrev pub IsStart : List StructType → ClearSetup → Machine → Type 0
IsStart structs s m = (state_of m ≡ start (domain s) s.dealt [] s.budget []) × (m.store.blocks.limit ≡ live_limit) × (m.store.blocks.structs ≡ struct_leaves structs)
