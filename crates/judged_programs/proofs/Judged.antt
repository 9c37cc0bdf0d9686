-- The laws of statements and programs, put together.
use Rattle.judged_programs.specs.Laws.{StatementsAreTyped, ProgramsAreJudged}
use Rattle.judged_programs.proofs.Statements.{statement_typed, statement_is}
use Rattle.judged_programs.proofs.Programs.{program_typed, program_is, program_fault, program_fails}

pub statements : StatementsAreTyped
statements g loop p n s t r = (λ h. statement_typed g loop p n s (t, r) h, λ h. statement_is g loop p n s t r h)

pub programs : ProgramsAreJudged
programs p = (λ t. (λ h. program_typed p t h, λ h. program_is p t h), λ x. (λ h. program_fault p x h, λ h. program_fails p x h))
