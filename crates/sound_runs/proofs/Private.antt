-- The type of the node of `ocPrivate`.
use Rattle.std.proofs.Common.{ℕ, ◌≡◌, ℤ, [], ◌∷◌, refl, false}
use Rattle.oc_values.specs.declared.integers.IntKind.{IntKind}
use Rattle.oc_values.specs.declared.integers.IntKind.TheVariants.{I32, I64}
use Rattle.oc_cells.specs.declared.types.CType.{CType, Int}
use Rattle.oc_source.specs.declared.spot.Spot.{Spot}
use Rattle.oc_typed.specs.declared.typed.TExprNode.{Builtin', end_of-TExpr, more_of-TExpr}
use Rattle.oc_typed.specs.declared.typed.Builtin.TheVariants.{Private, Feed}
use Rattle.oc_walk.specs.declared.run.Value.TheVariants.{Int as VInt}
use Rattle.oc_walk.specs.Domain.{Domain}
use Rattle.oc_walk.specs.Walking.{Site}
use Rattle.oc_walk.specs.Expressions.{Under, expr}
use Rattle.typed_runs.proofs.Sure.{Has}

-- no walk reads it: a feed is the same whatever this type is
private_free : (D : Domain) (x : Site) (w : Under D) (p q : Spot) (t u v : CType) (k : IntKind) (party : ℕ) (i : _) (es : _)
    → expr D x w p v (Builtin' (Feed k party) (tt ∷ []) (more_of-TExpr q t (Builtin' Private i es) end_of-TExpr)) ≡ expr D x w p v (Builtin' (Feed k party) (tt ∷ []) (more_of-TExpr q u (Builtin' Private i es) end_of-TExpr))
private_free D x w p q t u v k party i es = refl

-- the value of a public index is handed on with its own kind, which isn't that of another type
other_kind : (D : Domain) (n : ℤ) → Has D (Int I64 false) (VInt I32 n) → ⊥
other_kind D n h = elim h [ ]
