-- The visits of the rules of scopes for expressions and lists of them, as the code meets them.
use Rattle.std.specs.Prelude.{ℕ, List, [], ◌∷◌, ◌++◌, map, not, Option, Some, None}
use Rattle.oc_cells.specs.declared.types.CType.{CType}
use Rattle.oc_typed.specs.declared.typed.TExpr.{TExpr}
use Rattle.oc_typed.specs.declared.typed.TPlace.{TPlace}
use Rattle.oc_typed.specs.declared.typed.TStmt.{TStmt}
use Rattle.oc_typing.specs.Typed.{Context}
use Rattle.scope_rules.specs.declared.rules.ScopeRule.TheVariants.{F2}
use Rattle.scope_rules.specs.Frozen.{Facts, from_frozen, loses, is_kept}
use Rattle.scope_rules.specs.FirstFault.{Visit, visit, writing, visits, visits_place}
use Rattle.numbered_scopes.specs.Numbered.{numbered_stmt, last_stmt}

-- the visits of an expression
abbrev pub whole : Context → Facts → TExpr → List Visit
whole g w e = visits g w e.spot e.ty e.node

-- those of an argument, which comes to a type, if there is one
abbrev pub visits_arg : Context → Facts → Option CType → TExpr → List Visit
visits_arg g w None e = whole g w e
visits_arg g w (Some t) e = whole g w e ++ visit F2 e.spot (not (loses g (from_frozen g w e.node) e.ty t))

-- those of a place and a value that comes to it
abbrev pub visits_filling : Context → Facts → TPlace → TExpr → List Visit
visits_filling g w q e = visits_place g w q.node ++ whole g w e ++ visit F2 e.spot (not (loses g (from_frozen g w e.node) e.ty q.ty))

-- that of a write to a place
abbrev pub visit_write : Context → Facts → TPlace → List Visit
visit_write g w q = visit (writing w) q.spot (not (is_kept g w q.ty q.node))

-- those of arguments in order, of which the first ones come to these types
abbrev pub visits_list : Context → Facts → List CType → List TExpr → List Visit
visits_list g w ts [] = []
visits_list g w [] (e ∷ es) = visits_arg g w None e ++ visits_list g w [] es
visits_list g w (t ∷ ts) (e ∷ es) = visits_arg g w (Some t) e ++ visits_list g w ts es

-- the types of expressions in order
abbrev pub types_in : List TExpr → List CType
types_in es = map (λ e. e.ty) es

-- the visits of a statement before which this slot is the last
abbrev pub numbered_whole : Context → Facts → Option ℕ → TStmt → List Visit
numbered_whole g w last s = numbered_stmt g w last s.spot s.node

-- those of a statement that may be missing
abbrev pub numbered_maybe : Context → Facts → Option ℕ → Option TStmt → List Visit
numbered_maybe g w last None = []
numbered_maybe g w last (Some s) = numbered_whole g w last s

-- the last slot after a statement that may be missing
abbrev pub last_maybe : Option ℕ → Option TStmt → Option ℕ
last_maybe last None = last
last_maybe last (Some s) = last_stmt last s.node

-- the last slot after statements in order
abbrev pub last_all : Option ℕ → List TStmt → Option ℕ
last_all last [] = last
last_all last (s ∷ ss) = last_all (last_stmt last s.node) ss
