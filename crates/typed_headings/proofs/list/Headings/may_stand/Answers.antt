use Rattle.std.proofs.Common.{sym, ap, ◌∙◌}
use Rattle.typed_headings.specs.Beside.{beside, first_named}
use Rattle.typed_headings.proofs.Agreed.{has_bodied, stands}
use Rattle.typed_headings.proofs.list.Headings.may_stand.Goals as goal

pub returns : goal.returns
returns c =
    let hs = c.args.self.now.list.items in
    let h = c.args.heading.now in
    c.may_stand_beside.ensures ∙ ap (λ o. beside o c.has_body.result h) c.first.ensures
    ∙ ap (λ b. beside (first_named hs c.as_bytes-name.result.now) b h) c.has_body.ensures
    ∙ ap (λ x. beside (first_named hs x) (has_bodied hs x) h) c.as_bytes-name.ensures ∙ sym (stands h hs c.args.self.now.agreeing)
