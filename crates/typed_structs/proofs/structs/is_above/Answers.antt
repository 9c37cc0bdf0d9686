use Rattle.std.proofs.Common.{ap, ◌∙◌}
use Rattle.type_rules.specs.Written.{struct_names}
use Rattle.typed_structs.proofs.Above.{is_below, taken_number}
use Rattle.typed_structs.proofs.structs.is_above.Goals as goal

pub returns-in-Some : goal.returns-in-Some
returns-in-Some c =
    let n = c.args.known.now.names.now in
    ap (λ o. is_below c.args.known.now.above o) (c.in-Some.ensures ∙ n.numbered.at c.args.name.now) ∙ taken_number (struct_names n.defs.now) c.args.known.now.above c.args.name.now

pub returns-in-None : goal.returns-in-None
returns-in-None c =
    let n = c.args.known.now.names.now in
    ap (λ o. is_below c.args.known.now.above o) (c.in-None.ensures ∙ n.numbered.at c.args.name.now) ∙ taken_number (struct_names n.defs.now) c.args.known.now.above c.args.name.now
