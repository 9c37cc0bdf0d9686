use Rattle.std.proofs.Common.{length, false, ap, ◌∙◌}
use Rattle.std.specs.Prelude.{slice_index_or}
use Rattle.type_rules.specs.Written.{number_or}
use Rattle.typed_structs.proofs.Naming.{none_known}
use Rattle.typed_structs.proofs.names.is_public_struct.Goals as goal

pub returns-in-Some : goal.returns-in-Some
returns-in-Some c =
    let known = c.args.known.now in
    c.is_known.ensures ∙ ap (λ o. slice_index_or known (number_or (length known) o) false) (c.in-Some.ensures ∙ c.args.names.now.numbered.at c.args.name.now)

pub returns-in-None : goal.returns-in-None
returns-in-None c = none_known c.args.known.now _ (c.in-None.ensures ∙ c.args.names.now.numbered.at c.args.name.now)
