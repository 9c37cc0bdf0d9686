-- Open statements: those that could still take an `else`.
use Rattle.std.specs.Prelude.{Bool, true, false, Some, None}
use Rattle.oc_source.specs.declared.parsed.Stmt.{Stmt, fold-Stmt}
use Rattle.oc_source.specs.declared.parsed.StmtNode.{StmtNode-F}

-- whether a statement ends in an `if` or `obliv if` without an else, from the same of its parts
abbrev pub open_node : StmtNode-F Bool Bool → Bool
open_node (StmtNode-F.If c y None) = true
open_node (StmtNode-F.If c y (Some n)) = n
open_node (StmtNode-F.OblivIf c y None) = true
open_node (StmtNode-F.OblivIf c y (Some n)) = n
open_node (StmtNode-F.While c b) = b
open_node (StmtNode-F.For i c a b) = b
open_node (StmtNode-F.Declare ds) = false
open_node (StmtNode-F.Express v) = false
open_node (StmtNode-F.Block bs) = false
open_node (StmtNode-F.Always name b) = false
open_node (StmtNode-F.Return v) = false
open_node StmtNode-F.Break = false
open_node StmtNode-F.Continue = false
open_node StmtNode-F.Empty = false

-- whether a statement ends in an `if` or `obliv if` without an else
abbrev pub ends_open : Stmt → Bool
ends_open = fold-Stmt Bool Bool open_node (λ s. s.node)
