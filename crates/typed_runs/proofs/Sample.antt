-- A program whose shapes are right.
use Rattle.std.proofs.Common.{zero, suc, ◌≡◌, List, [], ◌∷◌, Some, None, refl, subst, false}
use Rattle.oc_values.specs.declared.integers.IntKind.TheVariants.{I32}
use Rattle.oc_values.specs.declared.integers.BinaryOp.TheVariants.{Div}
use Rattle.oc_cells.specs.declared.types.CType.{Int, Nothing}
use Rattle.oc_cells.specs.declared.types.CType.TheBlock.{hidden-the_row-CType-0}
use Rattle.oc_typed.specs.declared.typed.TExprNode.TheBlock.{hidden-the_row-TExpr-0, hidden-the_row-TExpr-1, hidden-the_row-TPlace-2}
use Rattle.oc_typed.specs.declared.typed.TStmtNode.TheBlock.{hidden-the_row-TStmt-0, hidden-the_row-TStmt-1}
use denote.Hole.Carrier.{hidden}
use Rattle.oc_typed.specs.declared.typed.TExprNode.{Binary, Builtin as Known}
use Rattle.oc_typed.specs.declared.typed.Builtin.TheVariants.{PublicCount}
use Rattle.oc_typed.specs.declared.typed.PrintPiece.TheVariants.{Text, Decimal}
use Rattle.oc_typed.specs.declared.typed.TypedFunction.{TypedFunction}
use Rattle.oc_meanings.proofs.Building.{at, int, ex, num, var, decl, print, of_type, main}
use Rattle.typed_runs.specs.Shapes.{Heading, integer, binary_ok, alike_marks, counts_ok, print_ok, no_pieces, a_text, a_number}
use Rattle.typed_runs.specs.Statements.{FunctionOk, ProgramOk}

abbrev heading : Heading
heading = record { params = []; result = Nothing }

some_same : (a b : Heading) → Some a ≡ Some b → a ≡ b
some_same a b q = (cc)

none_some : (a : Heading) → None ≡ Some a → ⊥
none_some a q = (cc)

abbrev first : List TypedFunction → TypedFunction
first (f ∷ fs) = f
first [] = record { name = []; result = Nothing; params = 0; slots = []; obliv = false; body = [] }

abbrev hs : List Heading
hs = heading ∷ []

-- int d = ocPublicCount(); printf("%d\n", 1 / d);
abbrev quotient : List TypedFunction
quotient =
    main (of_type int ∷ [])
    (decl 0 (Some (ex int (Known PublicCount [])))
    ∷ print (Decimal I32 ∷ Text (10 ∷ []) ∷ []) (record { spot = at 4 18; ty = int; node = Binary Div (num 1) (var int 0) } ∷ []) ∷ [])
    ∷ []

quotient_fits : ProgramOk [] hs quotient
unfolding hidden-the_row-TExpr-0 hidden-the_row-TExpr-1 hidden-the_row-TPlace-2 hidden-the_row-TStmt-0 hidden-the_row-TStmt-1 hidden-the_row-CType-0 hidden
quotient_fits zero h q = (
  first quotient,
  refl,
  subst (λ h. FunctionOk [] hs h (first quotient)) (some_same heading h q) (record {
    result = refl;
    returns = tt;
    params = tt;
    body = (((record { type = record { ty = Int I32 false; frozen = false }; there = refl; sized = record { size = refl; flat = (tt, tt) }; init = (refl, integer, (counts_ok, tt)) }), tt), ((print_ok (a_number (a_text no_pieces)), ((binary_ok (alike_marks refl) refl, refl, (refl, integer, refl)), tt)), tt));
  }),
)
quotient_fits (suc n) h q = absurd (none_some h q)
