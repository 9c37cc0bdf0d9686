-- Which variables are visible where, each by the number of its slot.
use Rattle.std.specs.Prelude.{ℕ, suc, List, [], ◌∷◌, nat_eq, Bool, false, ◌||◌}
use Rattle.oc_cells.specs.declared.types.CType.{CType}
use Rattle.oc_typed.specs.declared.typed.TDeclared.{TDeclared}
use Rattle.oc_typed.specs.declared.typed.TForInit.{TForInit}
use Rattle.oc_typed.specs.declared.typed.TForInit.TheVariants.{Declare as InitDeclare}
use Rattle.oc_typed.specs.declared.typed.TStmtNode.{TStmtNode, Declare}

-- whether a slot is among those that are visible
abbrev pub is_among : List ℕ → ℕ → Bool
is_among [] n = false
is_among (m ∷ ms) n = nat_eq m n || is_among ms n

-- the slots that are visible after variables were declared
abbrev pub after_all : List ℕ → List TDeclared → List ℕ
after_all vis [] = vis
after_all vis (d ∷ ds) = after_all (d.slot ∷ vis) ds

-- those that are visible after a statement: a declaration adds its own
abbrev pub after_node : List ℕ → TStmtNode → List ℕ
after_node vis (Declare ds) = after_all vis ds
after_node vis _ = vis

-- those that are visible in the rest of a `for`, after what its header begins with
abbrev pub after_header : List ℕ → TForInit → List ℕ
after_header vis (InitDeclare ds) = after_all vis ds
after_header vis _ = vis

-- those that are visible after parameters of these types, whose slots are the numbers from n on
abbrev pub after_params : List ℕ → ℕ → List CType → List ℕ
after_params vis n [] = vis
after_params vis n (t ∷ ts) = after_params (n ∷ vis) (suc n) ts
