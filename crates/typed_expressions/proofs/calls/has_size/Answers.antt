use Rattle.std.proofs.Common.{sym, ap, ◌∙◌}
use Rattle.type_rules.specs.Rules.{has_sizeof}
use Rattle.typed_expressions.proofs.Rows.{has_binary}
use Rattle.typed_expressions.proofs.calls.has_size.Goals as goal

pub returns-in-Binary : goal.returns-in-Binary
returns-in-Binary c = (rw (c.get.ensures, c.get-in-Binary.ensures) at c.is_sized_product.ensures) ∙ sym (ap has_sizeof c.in-Binary.is ∙ has_binary _ _ _)
