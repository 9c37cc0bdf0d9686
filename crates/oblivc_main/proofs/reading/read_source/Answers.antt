use Rattle.std.proofs.Common.{subst, sym, ap, ◌∙◌, Err}
use Rattle.std.proofs.lemmas.Result.{err_from_is_err_and}
use Rattle.accepted_sources.specs.Answers.{IsAccepted, Accepts}
use Rattle.oblivc_main.specs.Forms.{source_content}
use Rattle.oblivc_main.specs.Steps.{Reads, source_step}
use Rattle.oblivc_main.proofs.FileForms.{source_read, fault_stops, unread}
use Rattle.oblivc_main.proofs.Steps.{files_at}
use Rattle.oblivc_main.proofs.reading.read_source.Goals as goal

pub returns-in_err-bytes-clause-end : goal.returns-in_err-bytes-clause-end
returns-in_err-bytes-clause-end g c =
    let q = err_from_is_err_and c.from_residual.result c.from_residual.ensures.1 in
    subst (Reads source_content (files_at (g.V.Vault.contents c.args.files.now) (g.V.Vault.faults c.args.files.now) (g.V.Vault.faults c.read_bytes.new.files) (g.V.Vault.failed c.read_bytes.new.files)) (source_step c.args.name.now)) (sym (q.1 ∙ ap Err q.2))
    (unread (files_at (g.V.Vault.contents c.args.files.now) (g.V.Vault.faults c.args.files.now) (g.V.Vault.faults c.read_bytes.new.files) (g.V.Vault.failed c.read_bytes.new.files)) (source_step c.args.name.now) 1048577 c.in_err-bytes.field-0.0 c.in_err-bytes.ensures.end)

pub returns-in-Ok-clause-end : goal.returns-in-Ok-clause-end
returns-in-Ok-clause-end g c =
    source_read (files_at (g.V.Vault.contents c.args.files.now) (g.V.Vault.faults c.args.files.now) (g.V.Vault.faults c.read_bytes.new.files) (g.V.Vault.failed c.read_bytes.new.files)) c.args.name.now c.in_ok-bytes.bytes c.in_ok-bytes.ensures.end c.in-Ok.accepted
    (subst (λ s. IsAccepted s c.in-Ok.accepted.program c.in-Ok.accepted.typed) c.as_slice.ensures c.in-Ok.ensures)

pub returns-clause-end : goal.returns-clause-end
returns-clause-end g c =
    subst (λ s. Reads source_content (files_at (g.V.Vault.contents c.args.files.now) (g.V.Vault.faults c.args.files.now) (g.V.Vault.faults c.read_bytes.new.files) (g.V.Vault.failed c.read_bytes.new.files)) (source_step c.args.name.now) (Err s)) (sym c.not_accepted.ensures)
    (fault_stops (files_at (g.V.Vault.contents c.args.files.now) (g.V.Vault.faults c.args.files.now) (g.V.Vault.faults c.read_bytes.new.files) (g.V.Vault.failed c.read_bytes.new.files)) c.args.name.now c.in_ok-bytes.bytes c.in_ok-bytes.ensures.end c.in-Err.fault
    (subst (λ s. Accepts s (Err c.in-Err.fault)) c.as_slice.ensures c.in-Err.ensures))
