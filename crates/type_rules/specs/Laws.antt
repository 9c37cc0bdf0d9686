-- The rules of typing as a relation, as functions and as a first fault are one.
use Rattle.std.specs.Prelude.{◌≡◌, Bool, Ok, Err}
use Rattle.oc_source.specs.declared.spot.Spot.{Spot}
use Rattle.oc_source.specs.declared.parsed.ExprNode.{ExprNode}
use Rattle.oc_source.specs.declared.parsed.StmtNode.{StmtNode}
use Rattle.oc_typed.specs.declared.typed.TStmt.{TStmt}
use Rattle.type_rules.specs.declared.judging.Found.{Found}
use Rattle.type_rules.specs.declared.judging.Refusal.{Refusal}
use Rattle.type_rules.specs.Lookup.{Lookup}
use Rattle.type_rules.specs.Rules.{expr}
use Rattle.type_rules.specs.StatementRules.{Scope, stmt}
use Rattle.type_rules.specs.Typing.{Typing}
use Rattle.type_rules.specs.FirstFault.{order, FirstFault}
use Rattle.type_rules.specs.Moves as visits

-- of an expression: what is found is what the relation says, and the fault that is answered is the first one, and no other is
abbrev pub ExpressionsAreJudged : Type 0
ExpressionsAreJudged =
    (g : Lookup) (alone : Bool) (p : Spot) (n : ExprNode)
    → ((f : Found) → (expr g alone p n ≡ Ok f → Typing g alone p n f) × (Typing g alone p n f → expr g alone p n ≡ Ok f))
    × ((x : Refusal)
    → (expr g alone p n ≡ Err x → FirstFault g (order g alone p n) x)
    × (FirstFault g (order g alone p n) x → expr g alone p n ≡ Err x))

-- of a statement: where there is a typed one no visit breaks a rule, and the fault that is answered is the first one, and no other is
abbrev pub StatementsAreJudged : Type 0
StatementsAreJudged =
    (g : Lookup) (loop : Bool) (p : Spot) (n : StmtNode) (s : Scope)
    → ((t : TStmt) (r : Scope) → stmt g loop p n s ≡ Ok (t, r) → visits.AllFine g s (visits.moves loop p n visits.Done) r)
    × ((x : Refusal)
    → (stmt g loop p n s ≡ Err x → visits.FirstFault g s (visits.moves loop p n visits.Done) x)
    × (visits.FirstFault g s (visits.moves loop p n visits.Done) x → stmt g loop p n s ≡ Err x))
