-- Loops over declared variables, statements and functions: the next one, and the end.
use Rattle.std.proofs.Common.{ℕ, ◌+◌, ◌<◌, ◌≤◌, ◌≡◌, List, [], ◌∷◌, ◌++◌, length, drop, get_or, Option, Some, ap, sym, ◌∙◌}
use Rattle.std.specs.Prelude.{slice_get}
use Rattle.std.proofs.lemmas.List.{at_drop_more, at_drop_all}
use Rattle.oc_cells.specs.declared.types.StructType.{StructType}
use Rattle.oc_typed.specs.declared.typed.TDeclared.{TDeclared}
use Rattle.oc_typed.specs.declared.typed.TStmt.{TStmt}
use Rattle.oc_typed.specs.declared.typed.TypedFunction.{TypedFunction}
use Rattle.oc_typing.specs.Typed.{Context}
use Rattle.scope_rules.specs.Frozen.{Facts}
use Rattle.scope_rules.specs.InScope.{slot_type}
use Rattle.scope_rules.specs.FirstFault.{visits_coming, visits_declares}
use Rattle.numbered_scopes.specs.Numbered.{last_declared, last_stmt, numbered_stmts, numbered_function, numbered_functions}
use Rattle.frozen_rules.specs.Lists.{numbered_whole, last_all}

-- a function of the rest of a list, one step on
module _ {A B : Type 0} (F : List A → B) where
  pub step_on : (xs : List A) (i : ℕ) (x : A) → i < length xs → x ≡ get_or xs i x → F (drop i xs) ≡ F (x ∷ drop (i + 1) xs)
  step_on xs i x h q = at_drop_more F xs i x h ∙ ap (λ y. F (y ∷ drop (i + 1) xs)) (sym q)

module _ (g : Context) (w : Facts) where
  pub declares_next : (ds : List TDeclared) (i : ℕ) (d : TDeclared) → i < length ds → d ≡ get_or ds i d
      → visits_declares g w (drop i ds) ≡ visits_coming g w (slot_type (slice_get g.slots d.slot)) d.init ++ visits_declares g w (drop (i + 1) ds)
  declares_next ds i d h q = step_on (λ xs. visits_declares g w xs) ds i d h q

  pub declares_end : (ds : List TDeclared) (i : ℕ) → length ds ≤ i → visits_declares g w (drop i ds) ≡ []
  declares_end ds i h = at_drop_all (λ xs. visits_declares g w xs) ds i h

  pub stmts_next : (last : Option ℕ) (ss : List TStmt) (i : ℕ) (s : TStmt) → i < length ss → s ≡ get_or ss i s
      → numbered_stmts g w last (drop i ss) ≡ numbered_whole g w last s ++ numbered_stmts g w (last_stmt last s.node) (drop (i + 1) ss)
  stmts_next last ss i s h q = step_on (λ xs. numbered_stmts g w last xs) ss i s h q

  pub stmts_end : (last : Option ℕ) (ss : List TStmt) (i : ℕ) → length ss ≤ i → numbered_stmts g w last (drop i ss) ≡ []
  stmts_end last ss i h = at_drop_all (λ xs. numbered_stmts g w last xs) ss i h

pub declared_next : (last : Option ℕ) (ds : List TDeclared) (i : ℕ) (d : TDeclared) → i < length ds → d ≡ get_or ds i d
    → last_declared last (drop i ds) ≡ last_declared (Some d.slot) (drop (i + 1) ds)
declared_next last ds i d h q = step_on (λ xs. last_declared last xs) ds i d h q

pub declared_end : (last : Option ℕ) (ds : List TDeclared) (i : ℕ) → length ds ≤ i → last_declared last (drop i ds) ≡ last
declared_end last ds i h = at_drop_all (λ xs. last_declared last xs) ds i h

pub all_next : (last : Option ℕ) (ss : List TStmt) (i : ℕ) (s : TStmt) → i < length ss → s ≡ get_or ss i s
    → last_all last (drop i ss) ≡ last_all (last_stmt last s.node) (drop (i + 1) ss)
all_next last ss i s h q = step_on (λ xs. last_all last xs) ss i s h q

pub all_end : (last : Option ℕ) (ss : List TStmt) (i : ℕ) → length ss ≤ i → last_all last (drop i ss) ≡ last
all_end last ss i h = at_drop_all (λ xs. last_all last xs) ss i h

pub functions_next : (structs : List StructType) (fs gs : List TypedFunction) (i : ℕ) (f : TypedFunction) → i < length gs → f ≡ get_or gs i f
    → numbered_functions structs fs (drop i gs) ≡ numbered_function structs fs f ++ numbered_functions structs fs (drop (i + 1) gs)
functions_next structs fs gs i f h q = step_on (λ xs. numbered_functions structs fs xs) gs i f h q

pub functions_end : (structs : List StructType) (fs gs : List TypedFunction) (i : ℕ) → length gs ≤ i → numbered_functions structs fs (drop i gs) ≡ []
functions_end structs fs gs i h = at_drop_all (λ xs. numbered_functions structs fs xs) gs i h
