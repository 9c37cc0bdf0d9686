-- What a typed tree says before it is walked.
use Rattle.std.specs.Prelude.{List, [], ◌∷◌, nat_eq, Bool, true, false, ◌&&◌, if◌then◌else◌}
use Rattle.oc_values.specs.declared.integers.IntKind.{IntKind}
use Rattle.oc_values.specs.declared.integers.BinaryOp.{BinaryOp}
use Rattle.oc_values.specs.declared.integers.OneOp.{OneOp}
use Rattle.oc_values.specs.Integers.{kind_of_result}
use Rattle.oc_values.specs.Kinds.{promoted, is_shift, result_kind, one_kind}
use Rattle.oc_cells.specs.declared.types.CType.{CType, Int}
use Rattle.oc_cells.specs.Types.{kind_of}
use Rattle.oc_source.specs.declared.spot.Spot.{Spot}
use Rattle.oc_typed.specs.declared.typed.TExprNode.{Row_of-TExpr, end_of-TExpr, more_of-TExpr}

-- whether two spots are the same
abbrev pub same_spot : Spot → Spot → Bool
same_spot p q = nat_eq p.line q.line && nat_eq p.column q.column

-- the spot of a row's only expression
abbrev pub spot_of : Row_of-TExpr 1 → Spot
spot_of (more_of-TExpr q u c rest) = q

-- the type of a row's only expression
abbrev pub type_of : Row_of-TExpr 1 → CType
type_of (more_of-TExpr q u c rest) = u

-- the types of a row of expressions, in order
abbrev pub types_of : {m : _} → Row_of-TExpr m → List CType
types_of end_of-TExpr = []
types_of (more_of-TExpr q u c rest) = u ∷ types_of rest

-- the type of what an operator with one operand of this kind gives, hidden or not
abbrev pub one_type : OneOp → IntKind → Bool → CType
one_type op k true = Int k true
one_type op k false = Int (one_kind op k) false

-- the type of what an operator with two operands of this kind gives, hidden or not
abbrev pub two_type : BinaryOp → IntKind → Bool → CType
two_type op k true = Int (result_kind op k) true
two_type op k false = Int (kind_of_result op k) false

-- the kind at which an update of a place of the first type by a value of the second is computed
abbrev pub working_kind : BinaryOp → CType → CType → IntKind
working_kind op u v = if is_shift op then promoted (kind_of u) else kind_of v
