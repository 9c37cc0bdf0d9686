-- Traps, with their spots, and the operations that never are one.
use Rattle.std.proofs.Common.{ℕ, pos, negsuc, List, [], ◌∷◌, Some, None, true, false, refl}
use Rattle.std.specs.Prelude.{codes}
use Rattle.std.specs.Fmt.{digits}
use Rattle.oc_values.specs.declared.integers.IntKind.TheVariants.{I32, U32}
use Rattle.oc_values.specs.declared.integers.BinaryOp.TheVariants.{Sub, Div, Rem, Greater}
use Rattle.oc_cells.specs.declared.types.CType.{CType, Int, Array, Nothing}
use Rattle.oc_cells.specs.declared.types.CType.TheBlock.{hidden-the_row-CType-0}
use Rattle.oc_cells.specs.declared.trap.TrapKind.TheVariants.{M1, M6, Z1}
use denote.Hole.Carrier.{hidden}
use Rattle.oc_typed.specs.declared.typed.TExpr.{TExpr}
use Rattle.oc_typed.specs.declared.typed.TExprNode.{Read, Binary, Call, Builtin as Known}
use Rattle.oc_typed.specs.declared.typed.TExprNode.TheBlock.{hidden-the_row-TExpr-0, hidden-the_row-TExpr-1, hidden-the_row-TPlace-2}
use Rattle.oc_typed.specs.declared.typed.Builtin.TheVariants.{PublicCount, Give as Gives}
use Rattle.oc_typed.specs.declared.typed.PrintPiece.TheVariants.{Text, Decimal}
use Rattle.oc_typed.specs.declared.typed.TStmt.{TStmt}
use Rattle.oc_typed.specs.declared.typed.TStmtNode.{Express, If, OblivIf}
use Rattle.oc_typed.specs.declared.typed.TStmtNode.TheBlock.{hidden-the_row-TStmt-0, hidden-the_row-TStmt-1}
use Rattle.oc_typed.specs.declared.typed.TypedFunction.{TypedFunction}
use Rattle.oc_walk.specs.declared.run.ShownItem.TheVariants.{Print as Printed, Reveal as Revealed, Give as Given}
use Rattle.oc_walk.specs.declared.run.Outcome.TheVariants.{Done, Trap}
use Rattle.oc_meanings.specs.Clear.{Clear}
use Rattle.oc_meanings.proofs.Building.{at, hid, bit, int, ex, num, var, to, bin, st, decl, feed_at, feed, reveal, print, of_type, main}
use Rattle.sampled_runs.proofs.Small.{words, line, shows, block, element}

-- int a[3]; obliv if (x > 0) { int y = a[3]; }
abbrev untaken : List TypedFunction
untaken =
    main (of_type (Array 3 int) ∷ of_type int ∷ of_type hid ∷ of_type int ∷ [])
    (decl 0 None ∷ decl 1 None ∷ decl 2 (Some (feed 1))
    ∷ st (OblivIf (bin bit Greater (var hid 2) (to hid (num 0)))
    (block (decl 3 (Some (ex int (Read (element int 3 0 (at 6 13) 3)))) ∷ [])) None)
    ∷ reveal 1 (var hid 2) ∷ shows 1 ∷ []) ∷ []

untaken_of_4 : Clear [] untaken 0 (words (pos 4 ∷ []) []) [] (Trap M1 (at 6 13))
unfolding digits hidden-the_row-TExpr-0 hidden-the_row-TExpr-1 hidden-the_row-TPlace-2 hidden-the_row-TStmt-0 hidden-the_row-TStmt-1 hidden-the_row-CType-0 hidden
untaken_of_4 = (refl, refl)

untaken_of_minus_4 : Clear [] untaken 0 (words (negsuc 3 ∷ []) []) [] (Trap M1 (at 6 13))
unfolding digits hidden-the_row-TExpr-0 hidden-the_row-TExpr-1 hidden-the_row-TPlace-2 hidden-the_row-TStmt-0 hidden-the_row-TStmt-1 hidden-the_row-CType-0 hidden
untaken_of_minus_4 = (refl, refl)

-- int d = ocPublicCount(); printf("%d\n", 1 / d);
abbrev quotient : List TypedFunction
quotient =
    main (of_type int ∷ [])
    (decl 0 (Some (ex int (Known PublicCount [])))
    ∷ print (Decimal I32 ∷ Text line ∷ []) (record { spot = at 4 18; ty = int; node = Binary Div (num 1) (var int 0) } ∷ []) ∷ [])
    ∷ []

quotient_by_none : Clear [] quotient 0 (words [] []) [] (Trap Z1 (at 4 18))
unfolding digits hidden-the_row-TExpr-0 hidden-the_row-TExpr-1 hidden-the_row-TPlace-2 hidden-the_row-TStmt-0 hidden-the_row-TStmt-1 hidden-the_row-CType-0 hidden
quotient_by_none = (refl, refl)

quotient_by_two : Clear [] quotient 0 (record { public = pos 4 ∷ pos 4 ∷ []; first = []; second = []; dealt = 0; budget = 100 }) (Printed (codes "0\n") ∷ []) Done
unfolding digits hidden-the_row-TExpr-0 hidden-the_row-TExpr-1 hidden-the_row-TPlace-2 hidden-the_row-TStmt-0 hidden-the_row-TStmt-1 hidden-the_row-CType-0 hidden
quotient_by_two = (refl, refl)

-- a hidden unsigned integer
abbrev unsigned : CType
unsigned = Int U32 true

-- a result of this value for the first party
abbrev gives : TExpr → TStmt
gives e = st (Express (ex Nothing (Known (Gives U32 1) (e ∷ []))))

-- x / y, x % y, x / z and x % z of a word of the first party and two of the second; then 7 / 0 and 7 % 0 of unsigned ones
abbrev divisions : List TypedFunction
divisions =
    main (of_type hid ∷ of_type hid ∷ of_type hid ∷ of_type int ∷ [])
    (decl 0 (Some (feed_at hid I32 1 0)) ∷ decl 1 (Some (feed_at hid I32 2 0)) ∷ decl 2 (Some (feed_at hid I32 2 1)) ∷ decl 3 None
    ∷ reveal 3 (bin hid Div (var hid 0) (var hid 1)) ∷ reveal 3 (bin hid Rem (var hid 0) (var hid 1))
    ∷ reveal 3 (bin hid Div (var hid 0) (var hid 2)) ∷ reveal 3 (bin hid Rem (var hid 0) (var hid 2))
    ∷ gives (bin unsigned Div (to unsigned (num 7)) (to unsigned (num 0))) ∷ gives (bin unsigned Rem (to unsigned (num 7)) (to unsigned (num 0))) ∷ [])
    ∷ []

divisions_of_minus_7 : Clear [] divisions 0 (words (negsuc 6 ∷ []) (pos 2 ∷ pos 0 ∷ []))
    (Revealed I32 (negsuc 2) ∷ Revealed I32 (negsuc 0) ∷ Revealed I32 (pos 1) ∷ Revealed I32 (negsuc 6)
    ∷ Given 1 U32 (pos 4294967295) ∷ Given 1 U32 (pos 7) ∷ []) Done
unfolding digits hidden-the_row-TExpr-0 hidden-the_row-TExpr-1 hidden-the_row-TPlace-2 hidden-the_row-TStmt-0 hidden-the_row-TStmt-1 hidden-the_row-CType-0 hidden
divisions_of_minus_7 = (refl, refl)

-- void f(int n) { if (n > 0) f(n - 1); }, called with n: its calls reach 3 * n + 2
abbrev descent : ℕ → List TypedFunction
descent n =
    record {
      name = codes "f";
      result = Nothing;
      params = 1;
      slots = of_type int ∷ [];
      obliv = false;
      body =
          st (If (bin int Greater (var int 0) (num 0)) (st (Express (record { spot = at 2 14; ty = Nothing; node = Call 0 (bin int Sub (var int 0) (num 1) ∷ []) }))) None) ∷ [];
    }
    ∷ main [] (st (Express (record { spot = at 5 3; ty = Nothing; node = Call 0 (num n ∷ []) })) ∷ []) ∷ []

descent_of_332 : Clear [] (descent 332) 1 (words [] []) [] Done
unfolding digits hidden-the_row-TExpr-0 hidden-the_row-TExpr-1 hidden-the_row-TPlace-2 hidden-the_row-TStmt-0 hidden-the_row-TStmt-1 hidden-the_row-CType-0 hidden
descent_of_332 = (refl, refl)

descent_of_333 : Clear [] (descent 333) 1 (words [] []) [] (Trap M6 (at 2 14))
unfolding digits hidden-the_row-TExpr-0 hidden-the_row-TExpr-1 hidden-the_row-TPlace-2 hidden-the_row-TStmt-0 hidden-the_row-TStmt-1 hidden-the_row-CType-0 hidden
descent_of_333 = (refl, refl)
