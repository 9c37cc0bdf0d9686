-- The rules of typing for statements, as functions that carry what is visible along.
use Rattle.std.specs.Prelude.{ℕ, List, [], ◌∷◌, ◌++◌, length, drop, Bool, true, false, not, ◌||◌, Option, Some, None, Ok}
use Rattle.oc_values.specs.declared.integers.IntKind.TheVariants.{Bool as KBool}
use Rattle.oc_source.specs.declared.spot.Spot.{Spot}
use Rattle.oc_cells.specs.declared.types.CType.{CType, Int}
use Rattle.oc_cells.specs.declared.types.SlotType.{SlotType}
use Rattle.oc_source.specs.declared.parsed.Expr.{Expr}
use Rattle.oc_source.specs.declared.parsed.Declared.{Declared}
use Rattle.oc_source.specs.declared.parsed.StmtNode.{StmtNode, Declare, Express, Block', If', OblivIf', Always', While', For', Return, Break, Continue, Empty, Row_of-Stmt, end_of-Stmt, more_of-Stmt, Held-StmtNode-If-2, None', Some'}
use Rattle.oc_source.specs.declared.parsed.ForInit.{ForInit}
use Rattle.oc_source.specs.declared.parsed.ForInit.TheVariants as begin
use Rattle.oc_typed.specs.declared.typed.TExpr.{TExpr}
use Rattle.oc_typed.specs.declared.typed.TStmt as typed
use Rattle.oc_typed.specs.declared.typed.TStmtNode as s
use Rattle.oc_typed.specs.declared.typed.TDeclared as typed_declared
use Rattle.oc_typed.specs.declared.typed.TForInit as typed_init
use Rattle.oc_typed.specs.declared.typed.TForInit.TheVariants as init
use Rattle.type_rules.specs.declared.judging.TypeRule.TheVariants.{T2, T3, T12}
use Rattle.type_rules.specs.declared.judging.Seen.{Seen}
use Rattle.type_rules.specs.Judging.{Judged, next, needs, public_integer, is_nothing}
use Rattle.oc_cells.specs.Types.{is_integer}
use Rattle.type_rules.specs.Lookup.{Lookup, convert, converted, same_name}
use Rattle.type_rules.specs.Written.{field_type, is_frozen_place}
use Rattle.type_rules.specs.Rules.{typed_value, typed_alone}

-- what is visible, the variables of the function so far, and how many variables are visible from around the innermost scope
pub record Scope : Type 0 where
  pub seen : List Seen
  pub slots : List SlotType
  pub outer : ℕ

-- a judgement that may declare
abbrev pub Walk : Type 0 → Type 0
Walk A = Scope → Judged (A × Scope)

-- one judgement, then the one that its answer gives
abbrev pub bind : {A B : Type 0} → Walk A → (A → Walk B) → Walk B
bind m k s = next (m s) (λ r. k r.0 r.1)

-- an answer that declares nothing
abbrev pub pure : {A : Type 0} → A → Walk A
pure a s = Ok (a, s)

-- a judgement that declares nothing
abbrev pub ask : {A : Type 0} → Judged A → Walk A
ask m s = next m (λ a. Ok (a, s))

-- the same with what is visible now
abbrev pub at : Lookup → Scope → Lookup
at g s = record g { seen = s.seen }

-- a part whose names end with it, and whose variables stay
abbrev pub scoped : {A : Type 0} → Walk A → Walk A
scoped m s = next (m (record s { outer = length s.seen })) (λ r. Ok (r.0, record { seen = s.seen; slots = r.1.slots; outer = s.outer }))

-- whether one of the variables has this name
abbrev pub has_seen : List Seen → List ℕ → Bool
has_seen [] x = false
has_seen (y ∷ ys) x = same_name y.name x || has_seen ys x

-- whether a name is declared in the innermost scope
abbrev pub is_taken : Scope → List ℕ → Bool
is_taken s x = has_seen (drop s.outer s.seen) x

-- a further variable, which has the next slot
abbrev pub add : List ℕ → CType → Bool → Scope → Scope
add x ty frozen s =
    record {
      seen = s.seen ++ record { name = x; slot = length s.slots; ty = ty } ∷ [];
      slots = s.slots ++ record { ty = ty; frozen = frozen } ∷ [];
      outer = s.outer;
    }

-- an expression whose value is used
abbrev pub value_in : Lookup → Expr → Walk TExpr
value_in g e s = next (typed_value (at g s) e) (λ v. Ok (v, s))

-- an expression that stands alone
abbrev pub alone_in : Lookup → Expr → Walk TExpr
alone_in g e s = next (typed_alone (at g s) e) (λ v. Ok (v, s))

-- an expression whose value is used, if there is one
abbrev pub optional_in : Lookup → Option Expr → Walk (Option TExpr)
optional_in g None = pure None
optional_in g (Some e) = bind (value_in g e) (λ v. pure (Some v))

-- an initialiser, converted to the type of its variable, if there is one
abbrev pub initial : Lookup → CType → Option Expr → Walk (Option TExpr)
initial g ty None = pure None
initial g ty (Some e) = bind (value_in g e) (λ v. bind (ask (convert ty v)) (λ x. pure (Some x)))

-- the name is visible in its own initialiser
abbrev pub declare : Lookup → Declared → Walk typed_declared.TDeclared
declare g d s =
    next (field_type g d.field) (λ ty.
    next (needs d.field.spot T2 (not (is_taken s d.field.name))) (λ _.
    bind (initial g ty d.init) (λ v. pure (record { spot = d.field.spot; slot = length s.slots; init = v }))
    (add d.field.name ty (is_frozen_place d.field.base d.field.stars) s)))

-- the variables of a declaration, in order
abbrev pub declare_all : Lookup → List Declared → Walk (List typed_declared.TDeclared)
declare_all g [] = pure []
declare_all g (d ∷ ds) = bind (declare g d) (λ x. bind (declare_all g ds) (λ xs. pure (x ∷ xs)))

-- a variable that a `~obliv` declares
abbrev pub name_mark : List ℕ → Walk ℕ
name_mark x s = Ok (length s.slots, add x (Int KBool true) false s)

-- what the header of a `for` begins with
abbrev pub header : Lookup → ForInit → Walk typed_init.TForInit
header g begin.Nothing = pure init.Nothing
header g (begin.Declare ds) = bind (declare_all g ds) (λ xs. pure (init.Declare xs))
header g (begin.Express e) = bind (value_in g e) (λ v. pure (init.Express v))

-- the condition of a `for`, which is public, if there is one
abbrev pub condition : Spot → Option TExpr → Judged (Unit {0})
condition p None = Ok tt
condition p (Some v) = public_integer p v.ty

-- a `return`, with a value exactly where the function has a result
abbrev pub returned : Lookup → Spot → Option TExpr → Judged (Option TExpr)
returned g p None = next (needs p T3 (is_nothing g.result)) (λ _. Ok None)
returned g p (Some v) = next (needs p T3 (not (is_nothing g.result))) (λ _. next (convert g.result v) (λ x. Ok (Some x)))

-- a statement with its spot
abbrev pub made : Spot → s.TStmtNode → Walk typed.TStmt
made p n = pure (typed.roll-TStmt (record { spot = p; node = n }))

abbrev mutual
  -- a statement, in a loop or not
  pub stmt : Lookup → Bool → Spot → StmtNode → Walk typed.TStmt
  stmt g loop p (Declare ds) = bind (declare_all g ds) (λ xs. made p (s.Declare xs))
  stmt g loop p (Express e) = bind (alone_in g e) (λ v. made p (s.Express v))
  stmt g loop p (Block' _ ss) = bind (scoped (stmts g loop ss)) (λ xs. made p (s.Block xs))
  stmt g loop p (If' c _ y n) =
      bind (value_in g c) (λ v. bind (ask (public_integer p v.ty)) (λ _. bind (part g loop y) (λ a.
      bind (other g loop n) (λ b. made p (s.If v a b)))))
  stmt g loop p (OblivIf' c _ y n) =
      bind (value_in g c) (λ v. bind (ask (needs p T3 (is_integer v.ty))) (λ _. bind (part g loop y) (λ a.
      bind (other g loop n) (λ b. made p (s.OblivIf (converted (Int KBool true) v) a b)))))
  stmt g loop p (Always' x _ b) = scoped (bind (name_mark x) (λ n. bind (part g loop b) (λ a. made p (s.Always n a))))
  stmt g loop p (While' c _ b) =
      bind (value_in g c) (λ v. bind (ask (public_integer p v.ty)) (λ _. bind (part g true b) (λ a. made p (s.While v a))))
  stmt g loop p (For' i c v _ b) =
      scoped (bind (header g i) (λ x. bind (optional_in g c) (λ y. bind (optional_in g v) (λ z. bind (ask (condition p y)) (λ _.
      bind (part g true b) (λ a. made p (s.For x y z a)))))))
  stmt g loop p (Return e) = bind (optional_in g e) (λ v. bind (ask (returned g p v)) (λ x. made p (s.Return x)))
  stmt g loop p Break = bind (ask (needs p T12 loop)) (λ _. made p s.Break)
  stmt g loop p Continue = bind (ask (needs p T12 loop)) (λ _. made p s.Continue)
  stmt g loop p Empty = made p s.Empty

  -- a part of a statement, whose names end with it
  pub part : Lookup → Bool → Row_of-Stmt 1 → Walk typed.TStmt
  part g loop (more_of-Stmt p n rest) = scoped (stmt g loop p n)

  -- the statements of a block, in order
  pub stmts : {m : _} → Lookup → Bool → Row_of-Stmt m → Walk (List typed.TStmt)
  stmts g loop end_of-Stmt = pure []
  stmts g loop (more_of-Stmt p n rest) = bind (stmt g loop p n) (λ x. bind (stmts g loop rest) (λ xs. pure (x ∷ xs)))

  -- the part after an `else`, if there is one
  pub other : Lookup → Bool → Held-StmtNode-If-2 → Walk (Option typed.TStmt)
  other g loop None' = pure None
  other g loop (Some' _ y) = bind (part g loop y) (λ x. pure (Some x))
