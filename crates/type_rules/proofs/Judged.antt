-- The laws of the rules, put together.
use Rattle.std.proofs.Common.{refl}
use Rattle.type_rules.specs.Moves.{Done, AllFine}
use Rattle.type_rules.specs.Laws.{ExpressionsAreJudged, StatementsAreJudged}
use Rattle.type_rules.proofs.Laws.{holds, found, faults, only}
use Rattle.type_rules.proofs.Statements.{fine_carried, through, faults_stmt}
use Rattle.type_rules.proofs.Unique.{only_stmt}

pub expressions : ExpressionsAreJudged
expressions g alone p n = (
  λ f. (λ h. found g alone p n f h, λ h. holds g alone p n f h),
  λ x. (λ h. faults g alone p n x h, λ h. only g alone p n x h),
)

pub statements : StatementsAreJudged
statements g loop p n s = (
  λ t r h. through g (λ q us. AllFine g q us r) (fine_carried g r) loop p n s (t, r) Done h refl,
  λ x. (λ h. faults_stmt g loop p n s x Done h, λ h. only_stmt g loop p n s x h),
)
