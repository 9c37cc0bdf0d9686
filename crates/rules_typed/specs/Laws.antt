-- What the rules of typing give passes the test of typed trees.
use Rattle.std.specs.Prelude.{ℕ, ◌≡◌, List, Bool, true, Ok, IfOk}
use Rattle.oc_cells.specs.declared.types.SlotType.{SlotType}
use Rattle.oc_source.specs.declared.spot.Spot.{Spot}
use Rattle.oc_source.specs.declared.parsed.ExprNode.{ExprNode}
use Rattle.oc_source.specs.declared.parsed.StmtNode.{StmtNode}
use Rattle.oc_source.specs.declared.parsed.Program.{Program}
use Rattle.oc_typing.specs.Tree.{TypedTree, is_well_typed}
use Rattle.oc_typing.specs.Typed.{Context}
use Rattle.oc_typing.specs.Typed as typed
use Rattle.type_rules.specs.Lookup.{Lookup}
use Rattle.type_rules.specs.Rules.{expr}
use Rattle.type_rules.specs.StatementRules.{Scope, stmt}
use Rattle.type_rules.specs.ProgramRules.{typed_program}
use Rattle.rules_typed.specs.Agreeing.{Passes, Agrees, AgreesApart, Goes, SeesAll}

-- of an expression: where the rules look up what the context has, it breaks a rule, or what they give passes the test
abbrev pub ExpressionsPass : Type 0
ExpressionsPass =
    (r : Lookup) (g : Context) (vis : List ℕ) (n : ExprNode) (alone_here : Bool) (p : Spot)
    → Agrees r g vis → Passes g vis (expr r alone_here p n)

-- of a statement: it breaks a rule, or what the rules give passes the test among any slots that go on from those after it
abbrev pub StatementsPass : Type 0
StatementsPass =
    (r : Lookup) (g : Context) (c : StmtNode) (loop : Bool) (p : Spot) (z : Scope)
    → AgreesApart r g
    → IfOk (stmt r loop p c z) (λ q. (f : List SlotType) (vis : List ℕ) → Goes q.1.slots f → SeesAll g vis z.seen f
    → typed.stmt (record g { slots = f }) loop vis q.0.node ≡ true)

-- of a program: it breaks a rule, or its typed tree passes the test
abbrev pub ProgramsAreTyped : Type 0
ProgramsAreTyped =
    (p : Program) (t : TypedTree) → typed_program p ≡ Ok t → is_well_typed t ≡ true
