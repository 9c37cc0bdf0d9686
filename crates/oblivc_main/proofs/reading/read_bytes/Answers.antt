use Rattle.oblivc_main.proofs.FileForms.{some_told}
use Rattle.oblivc_main.proofs.reading.read_bytes.Goals as goal

pub returns-in-Bytes-clause-end : goal.returns-in-Bytes-clause-end
returns-in-Bytes-clause-end g c = some_told (g.V.Vault.contents c.args.files.now c.args.name.now) c.in-Bytes.bytes c.args.limit c.in-Bytes.ensures.bytes c.in-Bytes.ensures.within
