use Rattle.type_rules.specs.StatementRules.{declare}
use Rattle.written_types.specs.Known.{lookup}
use Rattle.typed_statements.proofs.Loops.{Left}
use Rattle.typed_statements.proofs.declarations.type_declares.Given as goal

abbrev pub invariant-loop-declared : goal.invariant-loop-declared
invariant-loop-declared l = Left (declare (lookup l.known)) l.initial.scope l.scope l.declared-items l.declared-index l.typed
