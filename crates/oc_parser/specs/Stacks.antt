-- Stacks: the stack that is kept while tokens are counted.
use Rattle.std.specs.Prelude.{reverse}
use Rattle.oc_parser.specs.declared.entries.Counts.{Counts}
use Rattle.oc_parser.specs.Load.{Stack, stack}

-- the stack that is kept as these counts, whose nearest entry below the top stands last
abbrev pub stack_of : Counts → Stack
stack_of c = stack c.top (reverse c.below)
