-- Arguments in a list, and in the row that a tree keeps.
use Rattle.std.proofs.Common.{ℕ, ◌≡◌, List, refl, ap, ◌∙◌, true, false, suc, [], ◌∷◌, length}
use Rattle.oc_cells.specs.declared.types.CType.{CType}
use Rattle.oc_typed.specs.declared.typed.TExpr.{TExpr}
use denote.Hole.Carrier.{hidden}
use Rattle.oc_typing.specs.Typed.{Context, alone}
use Rattle.rules_typed.specs.Agreeing.{Valued}
use Rattle.oc_cells.specs.declared.types.SlotType.{SlotType}
use Rattle.oc_typed.specs.declared.typed.TExprNode.{Row_of-TExpr}
use Rattle.oc_typed.specs.declared.typed.TExprNode.TheBlock.{back-the_row-TExpr}
use mathlib.Core.Former.{this, list_count, children}
use Rattle.sqlite_items.specs.formers.items.Items.{the_former}
use Rattle.type_rules.specs.Calls.{types_of}
use Rattle.oc_typed.specs.Static as static
use Rattle.oc_typing.specs.Typed as typed
use mathlib.Core.List as lists
use Rattle.rules_typed.proofs.Bools.{both}
use Rattle.rules_typed.proofs.Numbers.{suc_is}
use Rattle.rules_typed.proofs.Numbers as number

-- a list of arguments as the row that the tree keeps
abbrev pub row_of : (es : List TExpr) → Row_of-TExpr (list_count (this {0}) (lists.map (λ x. (this {0}).shape TExpr x) es) 0)
row_of es = back-the_row-TExpr (list_count (this {0}) (lists.map (λ x. (this {0}).shape TExpr x) es) 0) (children (the_former (this {0})) TExpr es)

-- the types of arguments
abbrev pub types_in : List TExpr → List CType
types_in [] = []
types_in (e ∷ es) = e.ty ∷ types_in es

-- the types of a row are those of its list
pub types_row : (es : List TExpr) → static.types_of (row_of es) ≡ types_in es
unfolding hidden
types_row [] = refl
types_row (e ∷ es) = ap (λ ts. e.ty ∷ ts) (types_row es)

-- each of some expressions passes the test
abbrev pub AllAlone : Context → List ℕ → List TExpr → Type 0
AllAlone g vis [] = Unit {0}
AllAlone g vis (e ∷ es) = (alone g vis e ≡ true) × AllAlone g vis es

-- a row passes where each of its list does
pub exprs_row : (g : Context) (vis : List ℕ) (es : List TExpr) → AllAlone g vis es → typed.exprs g vis false (row_of es) ≡ true
unfolding hidden
exprs_row g vis [] h = refl
exprs_row g vis (e ∷ es) h = both h.0 (exprs_row g vis es h.1)

-- arguments, as far as there are parameters of these types
abbrev pub Matched : Context → List ℕ → List CType → List TExpr → Type 0
Matched g vis ts [] = Unit {0}
Matched g vis [] (e ∷ es) = (alone g vis e ≡ true) × Matched g vis [] es
Matched g vis (u ∷ ts) (e ∷ es) = Valued g vis u e × Matched g vis ts es

-- each of matched arguments passes by itself
pub all_alone : (g : Context) (vis : List ℕ) (ts : List CType) (es : List TExpr) → Matched g vis ts es → AllAlone g vis es
all_alone g vis ts [] h = tt
all_alone g vis [] (e ∷ es) h = (h.0, all_alone g vis [] es h.1)
all_alone g vis (u ∷ ts) (e ∷ es) h = (h.0.good, all_alone g vis ts es h.1)

-- as many arguments as parameters have their types
pub matched_types : (g : Context) (vis : List ℕ) (ts : List CType) (es : List TExpr) → Matched g vis ts es → length es ≡ length ts → types_in es ≡ ts
matched_types g vis [] [] h q = refl
matched_types g vis [] (e ∷ es) h q = absurd (number.some_none (length es) q)
matched_types g vis (u ∷ ts) [] h q = absurd (number.none_some (length ts) q)
matched_types g vis (u ∷ ts) (e ∷ es) h q = ap (λ w. w ∷ types_in es) h.0.ty ∙ ap (λ ws. u ∷ ws) (matched_types g vis ts es h.1 (suc_is (length es) (length ts) q))

-- there are as many types as slots
pub length_types : (ss : List SlotType) → length ss ≡ length (types_of ss)
length_types [] = refl
length_types (s ∷ ss) = ap (λ n. suc n) (length_types ss)
