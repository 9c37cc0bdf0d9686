-- Trees: which program is the tree of a source.
use Rattle.std.specs.Prelude.{◌≡◌}
use Rattle.oc_source.specs.declared.parsed.Program.{Program}
use Rattle.oc_lexer.specs.declared.token.Lexed.{Lexed}
use Rattle.oc_grammar.specs.Headings.{Derives}

-- the tokens spell the program, and it ends where the source does
pub record IsTree (lexed : Lexed) (program : Program) : Type 0 where
  pub spelled : Derives program lexed.tokens
  pub end : program.end ≡ lexed.end
