use Rattle.std.proofs.Common.{subst, ◌∙◌, [], ◌∷◌, refl}
use Rattle.oblivcc_commands.specs.Views.{deal_of}
use Rattle.dealt_transfer.specs.Dealing.{sender_dealt, receiver_dealt}
use Rattle.dealt_transfer.specs.Files.{sender_file, receiver_file}
use Rattle.oblivc_main.specs.Making.{Made, no_memory}
use Rattle.oblivc_main.specs.Reading.{Holds}
use Rattle.oblivc_main.proofs.DealtFiles.{first_put, second_put, second_lost}
use Rattle.oblivc_main.proofs.dealing.deal.Goals as goal

pub returns-in-Err-clause-end : goal.returns-in-Err-clause-end
returns-in-Err-clause-end g c = no_memory refl

pub returns-in-Err-make_file-clause-end : goal.returns-in-Err-make_file-clause-end
returns-in-Err-make_file-clause-end g c =
    let d = deal_of c.args.asked.now in
    first_put (g.V.Vault.contents c.args.files.now) (g.V.Vault.contents c.make_file.new.files) (g.V.Vault.faults c.args.files.now) (g.V.Vault.faults c.make_file.new.files) (g.V.Vault.failed c.make_file.new.files)
    (d.first, sender_file (sender_dealt d.key d.count)) ((d.second, receiver_file (receiver_dealt d.key d.count)) ∷ []) c.make_file.ensures.elsewhere
    c.as_slice.result.now c.in-Err-make_file.status c.in-Err-make_file.ensures.end

pub returns-in-Ok-make_file-clause-end : goal.returns-in-Ok-make_file-clause-end
returns-in-Ok-make_file-clause-end g c =
    let d = deal_of c.args.asked.now in
    let one : Made = (d.first, sender_file (sender_dealt d.key d.count)) in
    let two : Made = (d.second, receiver_file (receiver_dealt d.key d.count)) in
    let first : Holds (g.V.Vault.contents c.make_file.new.files) one.0 one.1 =
    subst (Holds (g.V.Vault.contents c.make_file.new.files) d.first) (c.as_slice.ensures ∙ c.in-Ok.ensures.first) c.in_default.ensures.end in
    second_put (g.V.Vault.contents c.args.files.now) (g.V.Vault.contents c.make_file.new.files) (g.V.Vault.contents c.make_file-2.new.files) (g.V.Vault.faults c.args.files.now) (g.V.Vault.faults c.make_file.new.files) (g.V.Vault.faults c.make_file-2.new.files)
    (g.V.Vault.failed c.make_file-2.new.files) one two first c.make_file.ensures.never_falls c.make_file.ensures.elsewhere c.make_file-2.ensures.elsewhere
    (subst (Holds (g.V.Vault.contents c.make_file-2.new.files) d.second) (c.as_slice-2.ensures ∙ c.in-Ok.ensures.second) c.in-Ok-make_file.ensures.end)

pub returns-clause-end : goal.returns-clause-end
returns-clause-end g c =
    let d = deal_of c.args.asked.now in
    let one : Made = (d.first, sender_file (sender_dealt d.key d.count)) in
    let two : Made = (d.second, receiver_file (receiver_dealt d.key d.count)) in
    let first : Holds (g.V.Vault.contents c.make_file.new.files) one.0 one.1 =
    subst (Holds (g.V.Vault.contents c.make_file.new.files) d.first) (c.as_slice.ensures ∙ c.in-Ok.ensures.first) c.in_default.ensures.end in
    second_lost (g.V.Vault.contents c.args.files.now) (g.V.Vault.contents c.make_file.new.files) (g.V.Vault.contents c.make_file-2.new.files) (g.V.Vault.faults c.args.files.now) (g.V.Vault.faults c.make_file.new.files) (g.V.Vault.faults c.make_file-2.new.files)
    (g.V.Vault.failed c.make_file-2.new.files) one two first c.make_file.ensures.never_falls c.make_file.ensures.elsewhere c.make_file-2.ensures.elsewhere
    c.as_slice-2.result.now c.in-Err-make_file-2.status c.in-Err-make_file-2.ensures.end
