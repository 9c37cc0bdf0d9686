use Rattle.std.proofs.Common.{◌≡◌, ◌+◌, ◌*◌, ℕ, None, sym, ap, ◌∙◌}
use Rattle.oc_values.specs.Packing.{byte_count}
use Rattle.dealt_transfer.specs.Files.{receiver_magic}
use Rattle.dealt_transfer.specs.Faults.{count_at, first_found, opening_checks, bits_checks, size_checks}
use Rattle.dealt_transfer.proofs.Faults.{receiver_opening, receiver_bits, receiver_sized}
use Rattle.dealt_transfer.proofs.form.receiver_fault.Goals as goal

pub returns-in-Some : goal.returns-in-Some
returns-in-Some c = receiver_opening c.args.bytes.now c.in-Some.fault (sym c.in-Some.is ∙ c.opening_fault.ensures)

pub returns-in-Some-bits_fault : goal.returns-in-Some-bits_fault
returns-in-Some-bits_fault c =
    let bytes = c.args.bytes.now in
    let opened : first_found (opening_checks receiver_magic 21 bytes) ≡ None = sym c.opening_fault.ensures ∙ c.in_default.is in
    receiver_bits bytes c.in-Some-bits_fault.fault opened
    (sym c.in-Some-bits_fault.is ∙ c.bits_fault.ensures ∙ ap (λ (n : ℕ). first_found (bits_checks n 25 bytes)) c.count_at-count.ensures)

pub returns : goal.returns
returns c =
    let bytes = c.args.bytes.now in
    let opened : first_found (opening_checks receiver_magic 21 bytes) ≡ None = sym c.opening_fault.ensures ∙ c.in_default.is in
    let bits : first_found (bits_checks (count_at 21 bytes) 25 bytes) ≡ None =
    ap (λ (n : ℕ). first_found (bits_checks n 25 bytes)) (sym c.count_at-count.ensures) ∙ sym c.bits_fault.ensures ∙ c.in_default-bits_fault.is in
    c.size_fault.ensures ∙ ap (λ (k : ℕ). first_found (size_checks (25 + k + 16 * c.count_at-count.result) bytes)) c.byte_count.ensures
    ∙ ap (λ (n : ℕ). first_found (size_checks (25 + byte_count n + 16 * n) bytes)) c.count_at-count.ensures
    ∙ sym (receiver_sized bytes opened bits)
