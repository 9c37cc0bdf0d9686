use Rattle.std.proofs.Common.{ap, Err, ◌∙◌, arith}
use Rattle.std.proofs.lemmas.Result.{err_from_is_err_and}
use Rattle.oblivcc_commands.specs.Views.{clear_of}
use Rattle.oblivc_main.proofs.ClearRuns.{source_stops, first_stops, second_stops, ran}
use Rattle.oblivc_main.proofs.Steps.{files_at}
use Rattle.oblivc_main.proofs.clearing.run_files.Goals as goal

pub returns-in_err-source-clause-end : goal.returns-in_err-source-clause-end
returns-in_err-source-clause-end g c =
    let q = err_from_is_err_and c.from_residual.result c.from_residual.ensures.1 in
    source_stops (clear_of c.args.asked.now) (files_at (g.V.Vault.contents c.args.files.now) (g.V.Vault.faults c.args.files.now) (g.V.Vault.faults c.read_source.new.files) (g.V.Vault.failed c.read_source.new.files))
    c.in_err-source.field-0.0 c.from_residual.result c.in_err-source.ensures.end (q.1 ∙ ap Err q.2)

pub returns-in_err-first_words-clause-end : goal.returns-in_err-first_words-clause-end
returns-in_err-first_words-clause-end g c =
    let q = err_from_is_err_and c.from_residual-in_err-first_words.result c.from_residual-in_err-first_words.ensures.1 in
    first_stops (g.V.Vault.contents c.args.files.now) (g.V.Vault.faults c.args.files.now) (g.V.Vault.faults c.read_source.new.files) (g.V.Vault.faults c.read_given.new.files) (g.V.Vault.failed c.read_given.new.files) (clear_of c.args.asked.now)
    (g.V.Vault.contents c.read_source.new.files) c.in_ok-source.source c.in_err-first_words.field-0.0 c.from_residual-in_err-first_words.result
    c.read_source.ensures.unchanged c.in_ok-source.ensures.end c.read_source.ensures.never_falls c.in_err-first_words.ensures.end (q.1 ∙ ap Err q.2)

pub returns-in_err-second_words-clause-end : goal.returns-in_err-second_words-clause-end
returns-in_err-second_words-clause-end g c =
    let q = err_from_is_err_and c.from_residual-in_err-second_words.result c.from_residual-in_err-second_words.ensures.1 in
    let le = c.read_source.ensures.never_falls in
    let le_too = c.read_given.ensures.never_falls in
    second_stops (g.V.Vault.contents c.args.files.now) (g.V.Vault.faults c.args.files.now) (g.V.Vault.faults c.read_given.new.files) (g.V.Vault.faults c.read_given-2.new.files) (g.V.Vault.failed c.read_given-2.new.files) (clear_of c.args.asked.now)
    (g.V.Vault.contents c.read_source.new.files) (g.V.Vault.contents c.read_given.new.files) (g.V.Vault.faults c.read_source.new.files) (g.V.Vault.faults c.read_given.new.files) (g.V.Vault.failed c.read_given.new.files)
    c.in_ok-source.source c.in_ok-first_words.first_words c.in_err-second_words.field-0.0 c.from_residual-in_err-second_words.result
    c.read_source.ensures.unchanged (c.read_given.ensures.unchanged ∙ c.read_source.ensures.unchanged) c.in_ok-source.ensures.end c.in_ok-first_words.ensures.end (omega (arith, le, le_too)) c.in_err-second_words.ensures.end (q.1 ∙ ap Err q.2)

pub returns-in-Ok-clause-end : goal.returns-in-Ok-clause-end
returns-in-Ok-clause-end g c =
    ran (g.V.Vault.contents c.args.files.now) (g.V.Vault.faults c.args.files.now) (g.V.Vault.faults c.read_given.new.files) (g.V.Vault.faults c.read_given-2.new.files) (g.V.Vault.failed c.read_given-2.new.files) (clear_of c.args.asked.now)
    (g.V.Vault.contents c.read_source.new.files) (g.V.Vault.contents c.read_given.new.files) (g.V.Vault.faults c.read_source.new.files) (g.V.Vault.faults c.read_given.new.files) (g.V.Vault.failed c.read_given.new.files)
    c.in_ok-source.source c.in_ok-first_words.first_words c.in_ok-second_words.second_words c.in-Ok.run'.shown c.in-Ok.run'.outcome
    c.read_source.ensures.unchanged (c.read_given.ensures.unchanged ∙ c.read_source.ensures.unchanged) c.in_ok-source.ensures.end c.in_ok-first_words.ensures.end c.in_ok-second_words.ensures.end c.in-Ok.ensures
