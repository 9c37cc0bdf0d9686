use Rattle.std.proofs.Common.{◌≡◌, ◌+◌, ◌*◌, ℕ, None, sym, ap, ◌∙◌}
use Rattle.dealt_transfer.specs.Files.{sender_magic}
use Rattle.dealt_transfer.specs.Faults.{first_found, opening_checks, size_checks}
use Rattle.dealt_transfer.proofs.Faults.{sender_opening, sender_sized}
use Rattle.dealt_transfer.proofs.form.sender_fault.Goals as goal

pub returns-in-Some : goal.returns-in-Some
returns-in-Some c = sender_opening c.args.bytes.now c.in-Some.fault (sym c.in-Some.is ∙ c.opening_fault.ensures)

pub returns : goal.returns
returns c =
    let bytes = c.args.bytes.now in
    let opened : first_found (opening_checks sender_magic 53 bytes) ≡ None = sym c.opening_fault.ensures ∙ c.in_default.is in
    c.size_fault.ensures ∙ ap (λ (n : ℕ). first_found (size_checks (57 + 32 * n) bytes)) c.count_at-count.ensures ∙ sym (sender_sized bytes opened)
