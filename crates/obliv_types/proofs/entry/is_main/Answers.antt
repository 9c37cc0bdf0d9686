use Rattle.std.proofs.Common.{ap, ◌∙◌}
use Rattle.type_rules.specs.Lookup.{same_name}
use Rattle.written_types.proofs.Numbering.{same_bytes}
use Rattle.obliv_types.proofs.entry.is_main.Goals as goal

pub returns : goal.returns
returns c = c.eq.ensures ∙ same_bytes c.args.name.now c.as_slice.result.now ∙ ap (λ x. same_name c.args.name.now x) c.as_slice.ensures
