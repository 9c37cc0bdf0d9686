-- Small typed trees, by hand.
use Rattle.std.proofs.Common.{ℕ, pos, List, [], ◌∷◌, Option, true, false}
use Rattle.std.specs.Prelude.{codes}
use Rattle.oc_values.specs.declared.integers.IntKind.{IntKind}
use Rattle.oc_values.specs.declared.integers.IntKind.TheVariants.{Bool as KBool, I32}
use Rattle.oc_values.specs.declared.integers.BinaryOp.{BinaryOp}
use Rattle.oc_cells.specs.declared.types.CType.{CType, Int, Pointer, Nothing}
use Rattle.oc_cells.specs.declared.types.SlotType.{SlotType}
use Rattle.oc_source.specs.declared.spot.Spot.{Spot}
use Rattle.oc_typed.specs.declared.typed.TExpr.{TExpr}
use Rattle.oc_typed.specs.declared.typed.TPlace.{TPlace}
use Rattle.oc_typed.specs.declared.typed.TExprNode.{TExprNode, Number, Read, AddressOf, Binary, Assign, Convert, Builtin as Known}
use Rattle.oc_typed.specs.declared.typed.TPlaceNode.{Slot}
use Rattle.oc_typed.specs.declared.typed.Builtin.TheVariants.{Private, Feed, Reveal, Print}
use Rattle.oc_typed.specs.declared.typed.PrintPiece.{PrintPiece}
use Rattle.oc_typed.specs.declared.typed.TStmt.{TStmt}
use Rattle.oc_typed.specs.declared.typed.TStmtNode.{TStmtNode, Declare, Express}
use Rattle.oc_typed.specs.declared.typed.TypedFunction.{TypedFunction}

abbrev pub at : ℕ → ℕ → Spot
at l c = record { line = l; column = c }

abbrev pub here : Spot
here = at 1 1

abbrev pub hid : CType
hid = Int I32 true

abbrev pub int : CType
int = Int I32 false

abbrev pub bit : CType
bit = Int KBool true

abbrev pub ex : CType → TExprNode → TExpr
ex t n = record { spot = here; ty = t; node = n }

abbrev pub pl : CType → ℕ → TPlace
pl t n = record { spot = here; ty = t; node = Slot n }

abbrev pub num : ℕ → TExpr
num n = ex int (Number (pos n))

abbrev pub var : CType → ℕ → TExpr
var t n = ex t (Read (pl t n))

abbrev pub set : CType → ℕ → TExpr → TStmt
set t n e = record { spot = here; node = Express (ex t (Assign (pl t n) e)) }

-- a conversion that the checker added
abbrev pub to : CType → TExpr → TExpr
to t e = record { spot = e.spot; ty = t; node = Convert e }

abbrev pub bin : CType → BinaryOp → TExpr → TExpr → TExpr
bin t op l r = ex t (Binary op l r)

abbrev pub st : TStmtNode → TStmt
st n = record { spot = here; node = n }

abbrev pub decl : ℕ → Option TExpr → TStmt
decl n e = st (Declare (record { spot = here; slot = n; init = e } ∷ []))

abbrev pub feed_at : CType → IntKind → ℕ → ℕ → TExpr
feed_at t k party i = ex t (Known (Feed k party) (ex int (Known Private (num i ∷ [])) ∷ []))

abbrev pub feed : ℕ → TExpr
feed party = feed_at hid I32 party 0

abbrev pub reveal : ℕ → TExpr → TStmt
reveal n e = st (Express (ex Nothing (Known (Reveal I32) (ex (Pointer false int) (AddressOf (pl int n)) ∷ e ∷ []))))

abbrev pub print : List PrintPiece → List TExpr → TStmt
print ps es = st (Express (ex Nothing (Known (Print ps) es)))

abbrev pub of_type : CType → SlotType
of_type t = record { ty = t; frozen = false }

abbrev pub main : List SlotType → List TStmt → TypedFunction
main slots body = record { name = codes "oc_main"; result = Nothing; params = 0; slots = slots; obliv = false; body = body }
