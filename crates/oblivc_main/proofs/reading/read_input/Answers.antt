use Rattle.std.proofs.Common.{sym, ap, ◌∙◌, subst, Err, inl, refl}
use Rattle.std.proofs.lemmas.Result.{err_from_is_err_and}
use Rattle.input_words.specs.Telling.{AreItsWords, IsWrongAt, Tells}
use Rattle.oblivc_main.specs.Forms.{words}
use Rattle.oblivc_main.specs.Steps.{Reads, input_step}
use Rattle.oblivc_main.proofs.FileForms.{input_read, input_wrong, unread}
use Rattle.oblivc_main.proofs.Steps.{files_at}
use Rattle.oblivc_main.proofs.reading.read_input.Goals as goal

pub returns-in_err-bytes-clause-end : goal.returns-in_err-bytes-clause-end
returns-in_err-bytes-clause-end g c =
    let q = err_from_is_err_and c.from_residual.result c.from_residual.ensures.1 in
    subst (Reads words (files_at (g.V.Vault.contents c.args.files.now) (g.V.Vault.faults c.args.files.now) (g.V.Vault.faults c.read_bytes.new.files) (g.V.Vault.failed c.read_bytes.new.files)) (input_step c.args.name.now)) (sym (q.1 ∙ ap Err q.2)) (unread (files_at (g.V.Vault.contents c.args.files.now) (g.V.Vault.faults c.args.files.now) (g.V.Vault.faults c.read_bytes.new.files) (g.V.Vault.failed c.read_bytes.new.files)) (input_step c.args.name.now) 1376277 c.in_err-bytes.field-0.0 c.in_err-bytes.ensures.end)

pub returns-in-Ok-clause-end : goal.returns-in-Ok-clause-end
returns-in-Ok-clause-end g c =
    input_read (files_at (g.V.Vault.contents c.args.files.now) (g.V.Vault.faults c.args.files.now) (g.V.Vault.faults c.read_bytes.new.files) (g.V.Vault.failed c.read_bytes.new.files)) c.args.name.now c.in_ok-bytes.bytes c.in_ok-bytes.ensures.end c.in-Ok.list
    (subst (λ s. AreItsWords s c.in-Ok.list) c.as_slice.ensures c.in-Ok.ensures)

pub returns-in-Err-Wrong-clause-end : goal.returns-in-Err-Wrong-clause-end
returns-in-Err-Wrong-clause-end g c =
    input_wrong (files_at (g.V.Vault.contents c.args.files.now) (g.V.Vault.faults c.args.files.now) (g.V.Vault.faults c.read_bytes.new.files) (g.V.Vault.failed c.read_bytes.new.files)) c.args.name.now c.in_ok-bytes.bytes c.in_ok-bytes.ensures.end c.in-Err-Wrong.line
    (subst (λ s. IsWrongAt s c.in-Err-Wrong.line) c.as_slice.ensures (subst (λ e. Tells c.as_slice.result.now (Err e)) c.in-Err-Wrong.field-0-is c.in-Err-Wrong.ensures))

pub returns-clause-end : goal.returns-clause-end
returns-clause-end g c = inl refl
