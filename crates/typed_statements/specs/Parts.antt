-- The rules for statements, by the parts that the code meets.
use Rattle.std.specs.Prelude.{ℕ, List, Bool, true, Option, Some, None}
use Rattle.oc_source.specs.declared.spot.Spot.{Spot}
use Rattle.oc_source.specs.declared.parsed.Expr.{Expr}
use Rattle.oc_source.specs.declared.parsed.ForInit.{ForInit}
use Rattle.oc_source.specs.declared.parsed.Stmt.{Stmt}
use Rattle.oc_typed.specs.declared.typed.TStmt.{TStmt}
use Rattle.oc_typed.specs.declared.typed.TStmtNode as s
use Rattle.type_rules.specs.Lookup.{Lookup}
use Rattle.type_rules.specs.StatementRules.{Walk, bind, ask, pure, scoped, header, optional_in, condition, name_mark, made, stmt}
use Rattle.typed_statements.specs.Walking.{in_turn}

-- a statement with its parts
abbrev pub whole : Lookup → Bool → Stmt → Walk TStmt
whole g loop c = stmt g loop c.spot c.node

-- a part of a statement, whose names end with it
abbrev pub part_of : Lookup → Bool → Stmt → Walk TStmt
part_of g loop c = scoped (whole g loop c)

-- the part after an `else`, if there is one
abbrev pub other_of : Lookup → Bool → Option Stmt → Walk (Option TStmt)
other_of g loop None = pure None
other_of g loop (Some c) = bind (part_of g loop c) (λ x. pure (Some x))

-- statements in order
abbrev pub all_of : Lookup → Bool → List Stmt → Walk (List TStmt)
all_of g loop cs = in_turn (whole g loop) cs

-- a `for` within its scope
abbrev pub for_within : Lookup → Spot → ForInit → Option Expr → Option Expr → Stmt → Walk TStmt
for_within g p i c v b =
    bind (header g i) (λ x. bind (optional_in g c) (λ y. bind (optional_in g v) (λ z. bind (ask (condition p y)) (λ _.
    bind (part_of g true b) (λ a. made p (s.For x y z a))))))

-- an `~obliv` within its scope
abbrev pub always_within : Lookup → Bool → Spot → List ℕ → Stmt → Walk TStmt
always_within g loop p x b = bind (name_mark x) (λ n. bind (part_of g loop b) (λ a. made p (s.Always n a)))
