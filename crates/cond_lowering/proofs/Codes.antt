-- The laws of lowered code, of the functions that were made.
use Rattle.std.proofs.Common.{ℕ, List, ◌≡◌, sym, subst}
use Rattle.oc_cells.specs.declared.types.StructType.{StructType}
use Rattle.oc_typed.specs.declared.typed.TypedFunction.{TypedFunction}
use Rattle.oc_code.specs.declared.code.CodeFunction.{CodeFunction}
use Rattle.oc_code.specs.Lower.{lowered}
use Rattle.code_runs.specs.Laws.{CodeEvents, CodeShows, JumpsAreGood}
use Rattle.cond_lowering.specs.Codes.{SameEvents, SameShown, JumpsLeadOn}

module _ (structs : List StructType) (fs : List TypedFunction) (gs : List CodeFunction) where
  pub events_so : (entry : ℕ) → CodeEvents → gs ≡ lowered structs fs → SameEvents structs fs entry gs
  events_so entry law e = subst (λ gs. SameEvents structs fs entry gs) (sym e) (λ known dealt rev budget. law structs fs entry known dealt rev budget)

  pub shown_so : (entry : ℕ) → CodeShows → gs ≡ lowered structs fs → SameShown structs fs entry gs
  shown_so entry law e = subst (λ gs. SameShown structs fs entry gs) (sym e) (λ s. law structs fs entry s)

  pub jumps_so : JumpsAreGood → gs ≡ lowered structs fs → JumpsLeadOn gs
  jumps_so law e = subst (λ gs. JumpsLeadOn gs) (sym e) (λ n f. law structs fs n f)
