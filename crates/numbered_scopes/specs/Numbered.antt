-- The visits of the rules of scopes, where the last slot before a part of an `obliv if` stands for all variables outside of it.
use Rattle.std.specs.Prelude.{ℕ, zero, suc, nat_le, List, [], ◌∷◌, ◌++◌, Bool, true, false, not, Option, Some, None}
use Rattle.oc_source.specs.declared.spot.Spot.{Spot}
use Rattle.oc_cells.specs.declared.types.StructType.{StructType}
use Rattle.oc_typed.specs.declared.typed.TDeclared.{TDeclared}
use Rattle.oc_typed.specs.declared.typed.TForInit.{TForInit}
use Rattle.oc_typed.specs.declared.typed.TForInit.TheVariants.{Declare as InitDeclare}
use Rattle.oc_typed.specs.declared.typed.TStmt.{TStmt}
use Rattle.oc_typed.specs.declared.typed.TStmtNode.{TStmtNode, Declare, Express, Block', If', OblivIf', Always', While', For', Return, Break, Continue, Empty, Row_of-TStmt, end_of-TStmt, more_of-TStmt, Held-TStmtNode-If-2, None', Some'}
use Rattle.oc_typed.specs.declared.typed.TypedFunction.{TypedFunction}
use Rattle.oc_typing.specs.Tree.{TypedTree}
use Rattle.oc_typing.specs.Typed.{Context, context}
use Rattle.scope_rules.specs.declared.rules.ScopeRule.TheVariants.{F4}
use Rattle.scope_rules.specs.declared.rules.ScopeFault.{ScopeFault}
use Rattle.scope_rules.specs.Frozen.{Facts, of_body, of_always, in_loop, leaves_part}
use Rattle.scope_rules.specs.FirstFault.{Visit, visit, visits, visits_maybe, visits_coming, visits_declares, visits_header, first_broken}

-- whether a slot is the last one or before it
abbrev pub up_to : Option ℕ → ℕ → Bool
up_to None n = false
up_to (Some m) n = nat_le n m

-- the facts of a part of an `obliv if` before which this slot is the last
abbrev pub of_part_after : Option ℕ → Facts
of_part_after last = record { hidden = true; outside = λ n. up_to last n; parted = true; loop = false }

-- the last slot after declared variables
abbrev pub last_declared : Option ℕ → List TDeclared → Option ℕ
last_declared last [] = last
last_declared last (d ∷ ds) = last_declared (Some d.slot) ds

-- the last slot after what the header of a `for` begins with
abbrev pub last_header : Option ℕ → TForInit → Option ℕ
last_header last (InitDeclare ds) = last_declared last ds
last_header last _ = last

abbrev mutual
  -- the last slot after a statement and all its parts, in the order of the text
  pub last_stmt : Option ℕ → TStmtNode → Option ℕ
  last_stmt last (Declare ds) = last_declared last ds
  last_stmt last (Express e) = last
  last_stmt last (Block' _ ss) = last_rows last ss
  last_stmt last (If' c _ s n) = last_other (last_part last s) n
  last_stmt last (OblivIf' c _ s n) = last_other (last_part last s) n
  last_stmt last (Always' n _ s) = last_part (Some n) s
  last_stmt last (While' c _ s) = last_part last s
  last_stmt last (For' i c a _ s) = last_part (last_header last i) s
  last_stmt last (Return e) = last
  last_stmt last Break = last
  last_stmt last Continue = last
  last_stmt last Empty = last

  -- the last slot after a part
  pub last_part : Option ℕ → Row_of-TStmt 1 → Option ℕ
  last_part last (more_of-TStmt q c rest) = last_stmt last c

  -- the last slot after the statements of a block
  pub last_rows : {m : _} → Option ℕ → Row_of-TStmt m → Option ℕ
  last_rows last end_of-TStmt = last
  last_rows last (more_of-TStmt q c rest) = last_rows (last_stmt last c) rest

  -- the last slot after the part behind an `else`, if it is there
  pub last_other : Option ℕ → Held-TStmtNode-If-2 → Option ℕ
  last_other last None' = last
  last_other last (Some' _ s) = last_part last s

abbrev mutual
  -- the visits of a statement at a spot, before which this slot is the last
  pub numbered_stmt : Context → Facts → Option ℕ → Spot → TStmtNode → List Visit
  numbered_stmt g w last p (Declare ds) = visits_declares g w ds
  numbered_stmt g w last p (Express e) = visits g w e.spot e.ty e.node
  numbered_stmt g w last p (Block' _ ss) = numbered_rows g w last ss
  numbered_stmt g w last p (If' c _ s n) =
      visits g w c.spot c.ty c.node ++ numbered_part g w last s ++ numbered_other g w (last_part last s) n
  numbered_stmt g w last p (OblivIf' c _ s n) =
      visits g w c.spot c.ty c.node ++ numbered_part g (of_part_after last) last s
      ++ numbered_other g (of_part_after last) (last_part last s) n
  numbered_stmt g w last p (Always' n _ s) = numbered_part g of_always (Some n) s
  numbered_stmt g w last p (While' c _ s) = visits g w c.spot c.ty c.node ++ numbered_part g (in_loop w) last s
  numbered_stmt g w last p (For' i c a _ s) =
      visits_header g w i ++ visits_maybe g w c ++ visits_maybe g w a ++ numbered_part g (in_loop w) (last_header last i) s
  numbered_stmt g w last p (Return e) = visits_coming g w g.result e ++ visit F4 p (not w.parted)
  numbered_stmt g w last p Break = visit F4 p (not (leaves_part w))
  numbered_stmt g w last p Continue = visit F4 p (not (leaves_part w))
  numbered_stmt g w last p Empty = []

  -- those of a part of a statement
  pub numbered_part : Context → Facts → Option ℕ → Row_of-TStmt 1 → List Visit
  numbered_part g w last (more_of-TStmt q c rest) = numbered_stmt g w last q c

  -- those of the statements of a block
  pub numbered_rows : {m : _} → Context → Facts → Option ℕ → Row_of-TStmt m → List Visit
  numbered_rows g w last end_of-TStmt = []
  numbered_rows g w last (more_of-TStmt q c rest) = numbered_stmt g w last q c ++ numbered_rows g w (last_stmt last c) rest

  -- those of the part after an `else`, if it is there
  pub numbered_other : Context → Facts → Option ℕ → Held-TStmtNode-If-2 → List Visit
  numbered_other g w last None' = []
  numbered_other g w last (Some' _ s) = numbered_part g w last s

-- those of the statements of a function's body
abbrev pub numbered_stmts : Context → Facts → Option ℕ → List TStmt → List Visit
numbered_stmts g w last [] = []
numbered_stmts g w last (s ∷ ss) = numbered_stmt g w last s.spot s.node ++ numbered_stmts g w (last_stmt last s.node) ss

-- the last of so many slots
abbrev pub last_of : ℕ → Option ℕ
last_of zero = None
last_of (suc n) = Some n

-- those of a function, before whose body its last parameter is the last slot
abbrev pub numbered_function : List StructType → List TypedFunction → TypedFunction → List Visit
numbered_function structs fs f = numbered_stmts (context structs fs f) (of_body f.obliv) (last_of f.params) f.body

-- those of some functions, one after the other
abbrev pub numbered_functions : List StructType → List TypedFunction → List TypedFunction → List Visit
numbered_functions structs fs [] = []
numbered_functions structs fs (f ∷ rest) = numbered_function structs fs f ++ numbered_functions structs fs rest

-- the first rule of scopes that a program breaks, and where, if it breaks one
unfoldable pub numbered_fault : TypedTree → Option ScopeFault
numbered_fault t = first_broken (numbered_functions t.structs t.functions t.functions)
