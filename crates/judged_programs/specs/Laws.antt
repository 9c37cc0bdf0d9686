-- The rules of typing, as relations, as functions and as a first fault, are one: of statements and of whole programs.
use Rattle.std.specs.Prelude.{◌≡◌, Bool, Ok, Err}
use Rattle.oc_source.specs.declared.spot.Spot.{Spot}
use Rattle.oc_source.specs.declared.parsed.StmtNode.{StmtNode}
use Rattle.oc_source.specs.declared.parsed.Program.{Program}
use Rattle.oc_typed.specs.declared.typed.TStmt.{TStmt}
use Rattle.oc_typing.specs.Tree.{TypedTree}
use Rattle.type_rules.specs.declared.judging.Refusal.{Refusal}
use Rattle.type_rules.specs.Lookup.{Lookup}
use Rattle.type_rules.specs.StatementRules.{Scope, stmt}
use Rattle.type_rules.specs.ProgramRules.{typed_program}
use Rattle.judged_programs.specs.StatementTyping.{StatementTyping}
use Rattle.judged_programs.specs.ProgramTyping.{ProgramTyping}
use Rattle.judged_programs.specs.ProgramFault.{ProgramFault}

-- what the rules give of a statement is what the relation says of it
abbrev pub StatementsAreTyped : Type 0
StatementsAreTyped =
    (g : Lookup) (loop : Bool) (p : Spot) (n : StmtNode) (s : Scope) (t : TStmt) (r : Scope)
    → (stmt g loop p n s ≡ Ok (t, r) → StatementTyping g loop p n s t r)
    × (StatementTyping g loop p n s t r → stmt g loop p n s ≡ Ok (t, r))

-- of a program: the tree that the rules give is what the relation says, and the fault that they answer is the first one, and no other is
abbrev pub ProgramsAreJudged : Type 0
ProgramsAreJudged =
    (p : Program)
    → ((t : TypedTree) → (typed_program p ≡ Ok t → ProgramTyping p t) × (ProgramTyping p t → typed_program p ≡ Ok t))
    × ((x : Refusal) → (typed_program p ≡ Err x → ProgramFault p x) × (ProgramFault p x → typed_program p ≡ Err x))
