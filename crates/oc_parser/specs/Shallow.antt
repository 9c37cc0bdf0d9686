-- Shallow: how deep the tree of tokens without a large load is.
use Rattle.std.specs.Prelude.{◌≤◌, List}
use Rattle.oc_source.specs.declared.parsed.Program.{Program}
use Rattle.oc_source.specs.Depth.{depth}
use Rattle.oc_lexer.specs.declared.token.Token.{Token}
use Rattle.oc_grammar.specs.Headings.{Derives}
use Rattle.oc_parser.specs.Load.{IsLight}

-- Where no load is over 1,000, no node of the tree lies under 1,000 others or more.
abbrev pub LightIsShallow : Type 0
LightIsShallow = (program : Program) (tokens : List Token) → Derives program tokens → IsLight tokens → depth program ≤ 1000
