-- What is known where an expression stands, as the rules see it.
use Rattle.std.specs.Prelude.{Bool}
use Rattle.oc_source.specs.declared.parsed.Expr.{Expr}
use Rattle.type_rules.specs.declared.judging.Found.{Found}
use Rattle.type_rules.specs.Judging.{Judged}
use Rattle.type_rules.specs.Lookup.{Lookup}
use Rattle.type_rules.specs.Rules.{expr}
use Rattle.written_types.specs.Known.{lookup}
use Rattle.typed_expressions.specs.declared.site.Site.{Site}
use Rattle.visible_variables.specs.Seen.{all_seen}

-- what the rules look names up in
abbrev pub site_lookup : Site → Lookup
site_lookup s = record (lookup s.known.now) { seen = all_seen s.variables.now }

-- what an expression is found to be; it may have no value where it stands alone
unfoldable pub found : Lookup → Bool → Expr → Judged Found
found g alone e = expr g alone e.spot e.node
