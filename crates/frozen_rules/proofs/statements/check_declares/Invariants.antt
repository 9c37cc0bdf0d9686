use Rattle.std.proofs.Common.{◌≡◌, drop}
use Rattle.scope_rules.specs.FirstFault.{visits_declares}
use Rattle.numbered_scopes.specs.Numbered.{last_declared}
use Rattle.frozen_rules.proofs.Sequences.{Left}
use Rattle.frozen_rules.specs.Scopes.{facts_of, around}
use Rattle.frozen_rules.proofs.statements.check_declares.Given as goal

abbrev pub invariant-loop-d : goal.invariant-loop-d
invariant-loop-d l = record {
  left : Left (visits_declares (around l.typed l.f) (facts_of l.w) (drop l.d-index l.ds)) (visits_declares (around l.typed l.f) (facts_of l.w) l.ds);
  slots : last_declared l.last (drop l.d-index l.ds) ≡ last_declared l.initial.last l.ds;
}
