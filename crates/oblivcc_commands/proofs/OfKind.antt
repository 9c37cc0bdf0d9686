-- The kind of a command says which it is.
use Rattle.std.proofs.Common.{ℕ, zero, suc, ◌≡◌, ◌<◌, List, [], ◌∷◌, length, get_or, refl, ap, ◌∙◌, subst, arith}
use Rattle.std.specs.Prelude.{Contains}
use Rattle.std.specs.List.{AllByRecursion}
use Rattle.oblivcc_commands.specs.declared.table.CommandKind.{CommandKind}
use Rattle.command_grammar.specs.Grammar.{Command, IsCommandOf}
use Rattle.command_grammar.specs.Scanning.{operands_in, options_in}
use Rattle.oblivcc_commands.specs.Table.{commands, command_for}

all_rows : AllByRecursion (λ c. c ≡ command_for c.kind) commands
all_rows = (refl, (refl, (refl, tt)))

at_row : (cs : List (Command CommandKind)) (k : ℕ) (c : Command CommandKind) → AllByRecursion (λ c. c ≡ command_for c.kind) cs → k < length cs → get_or cs k c ≡ c → c ≡ command_for c.kind
at_row [] k c a lt e = absurd (omega arith)
at_row (d ∷ ds) zero c a lt e = subst (λ x. x ≡ command_for x.kind) e a.0
at_row (d ∷ ds) (suc k) c a lt e = at_row ds k c a.1 (omega arith) e

pub kind_row : (c : Command CommandKind) → Contains commands c → (ws : List (List ℕ)) → IsCommandOf c ws (operands_in c ws) (options_in c ws) → (kind : CommandKind) → c.kind ≡ kind → IsCommandOf (command_for kind) ws (operands_in (command_for kind) ws) (options_in (command_for kind) ws)
kind_row c i ws is kind e = subst (λ x. IsCommandOf x ws (operands_in x ws) (options_in x ws)) (at_row commands i.0 c all_rows i.1 i.2 ∙ ap command_for e) is
