use Rattle.std.proofs.Common.{ap, ◌∙◌}
use Rattle.std.specs.Prelude.{is_some}
use Rattle.typed_headings.proofs.Numbered.{is_numbered}
use Rattle.typed_headings.proofs.list.Headings.has_body.Goals as goal

pub returns : goal.returns
returns c = c.is_some.ensures ∙ ap (λ o. is_some o) (c.number_of.ensures ∙ c.args.self.now.numbered.at c.args.name.now) ∙ is_numbered 0 _ c.args.name.now
