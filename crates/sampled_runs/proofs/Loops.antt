-- A loop over a revealed bound, and a call through pointers under a condition.
use Rattle.std.proofs.Common.{◌≡◌, pos, List, [], ◌∷◌, Some, None, true, refl}
use Rattle.std.specs.Prelude.{codes}
use Rattle.std.specs.Fmt.{digits}
use Rattle.oc_values.specs.declared.integers.IntKind.TheVariants.{Bool as KBool, I32}
use Rattle.oc_values.specs.declared.integers.BinaryOp.TheVariants.{Add, Less}
use Rattle.oc_values.specs.declared.integers.OneOp.TheVariants.{Flip}
use Rattle.oc_cells.specs.declared.types.CType.{Array, Nothing}
use Rattle.oc_cells.specs.declared.types.CType.TheBlock.{hidden-the_row-CType-0}
use denote.Hole.Carrier.{hidden}
use Rattle.oc_typed.specs.declared.typed.TExprNode.{Read, AddressOf, Assign, Call}
use Rattle.oc_typed.specs.declared.typed.TExprNode.TheBlock.{hidden-the_row-TExpr-0, hidden-the_row-TExpr-1, hidden-the_row-TPlace-2}
use Rattle.oc_typed.specs.declared.typed.TForInit.TheVariants.{Declare as ForDeclare}
use Rattle.oc_typed.specs.declared.typed.TStmtNode.{Express, OblivIf, For}
use Rattle.oc_typed.specs.declared.typed.TStmtNode.TheBlock.{hidden-the_row-TStmt-0, hidden-the_row-TStmt-1}
use Rattle.oc_typed.specs.declared.typed.TypedFunction.{TypedFunction}
use Rattle.oc_walk.specs.declared.run.ShownItem.TheVariants.{Print as Printed, Reveal as Revealed}
use Rattle.oc_walk.specs.declared.run.Outcome.TheVariants.{Done}
use Rattle.oc_walk.specs.Walking.{Needs}
use Rattle.oc_meanings.specs.Clear.{Clear}
use Rattle.oc_meanings.specs.Events.{Fix, Of, Feed, Op, One, Pick, Reveal, Print, events_walk}
use Rattle.oc_meanings.proofs.Building.{here, hid, bit, int, ex, pl, num, var, set, to, bin, st, decl, feed, reveal, of_type, main}
use Rattle.sampled_runs.proofs.Small.{words, known, entries, halted, shows, shows_two, element, pointer, led_by}

-- for (int i = 0; i < k; i = i + 1) s = s + i;, where k is a revealed value
abbrev counted : List TypedFunction
counted =
    main (of_type hid ∷ of_type hid ∷ of_type int ∷ of_type int ∷ [])
    (decl 0 (Some (feed 1)) ∷ decl 1 (Some (to hid (num 0))) ∷ decl 2 None ∷ reveal 2 (var hid 0)
    ∷ st (For (ForDeclare (record { spot = here; slot = 3; init = Some (num 0) } ∷ [])) (Some (bin int Less (var int 3) (var int 2)))
    (Some (ex int (Assign (pl int 3) (bin int Add (var int 3) (num 1))))) (set hid 1 (bin hid Add (var hid 1) (to hid (var int 3)))))
    ∷ reveal 2 (var hid 1) ∷ shows 2 ∷ []) ∷ []

counted_of_3 : Clear [] counted 0 (words (pos 3 ∷ []) []) (Revealed I32 (pos 3) ∷ Revealed I32 (pos 3) ∷ Printed (codes "3\n") ∷ []) Done
unfolding digits hidden-the_row-TExpr-0 hidden-the_row-TExpr-1 hidden-the_row-TPlace-2 hidden-the_row-TStmt-0 hidden-the_row-TStmt-1 hidden-the_row-CType-0 hidden
counted_of_3 = (refl, refl)

counted_events : entries (events_walk [] counted 0 (known 1 0) 64 (pos 3 ∷ pos 3 ∷ []) 1000) ≡
    Feed 1 I32 0 ∷ Reveal I32 (Of 0) ∷ Op Add I32 (Fix I32 (pos 0)) (Fix I32 (pos 0)) ∷ Op Add I32 (Of 2) (Fix I32 (pos 1)) ∷ Op Add I32 (Of 3) (Fix I32 (pos 2))
    ∷ Reveal I32 (Of 4) ∷ Print (codes "3\n") ∷ []
unfolding digits hidden-the_row-TExpr-0 hidden-the_row-TExpr-1 hidden-the_row-TPlace-2 hidden-the_row-TStmt-0 hidden-the_row-TStmt-1 hidden-the_row-CType-0 hidden
counted_events = refl

-- without revealed values the walk stops at the first reveal, whose event isn't in the list
counted_needs : halted (events_walk [] counted 0 (known 1 0) 64 [] 1000) ≡ Some (Needs 0 I32)
unfolding digits hidden-the_row-TExpr-0 hidden-the_row-TExpr-1 hidden-the_row-TPlace-2 hidden-the_row-TStmt-0 hidden-the_row-TStmt-1 hidden-the_row-CType-0 hidden
counted_needs = refl

counted_before : entries (events_walk [] counted 0 (known 1 0) 64 [] 1000) ≡ Feed 1 I32 0 ∷ []
unfolding digits hidden-the_row-TExpr-0 hidden-the_row-TExpr-1 hidden-the_row-TPlace-2 hidden-the_row-TStmt-0 hidden-the_row-TStmt-1 hidden-the_row-CType-0 hidden
counted_before = refl

-- void swap(obliv int *p, obliv int *q) obliv { obliv int t = *p; *p = *q; *q = t; }, called where a later element is less
abbrev swapped : List TypedFunction
swapped =
    record {
      name = codes "swap";
      result = Nothing;
      params = 2;
      slots = of_type pointer ∷ of_type pointer ∷ of_type hid ∷ [];
      obliv = true;
      body =
          decl 2 (Some (ex hid (Read (led_by 0)))) ∷ st (Express (ex hid (Assign (led_by 0) (ex hid (Read (led_by 1)))))) ∷ st (Express (ex hid (Assign (led_by 1) (var hid 2)))) ∷ [];
    }
    ∷ main (of_type (Array 2 hid) ∷ of_type int ∷ of_type int ∷ [])
    (decl 0 None ∷ decl 1 None ∷ decl 2 None
    ∷ st (Express (ex hid (Assign (element hid 2 0 here 0) (feed 1)))) ∷ st (Express (ex hid (Assign (element hid 2 0 here 1) (feed 2))))
    ∷ st (OblivIf (bin bit Less (ex hid (Read (element hid 2 0 here 1))) (ex hid (Read (element hid 2 0 here 0))))
    (st (Express (ex Nothing (Call 0 (ex pointer (AddressOf (element hid 2 0 here 0)) ∷ ex pointer (AddressOf (element hid 2 0 here 1)) ∷ []))))) None)
    ∷ reveal 1 (ex hid (Read (element hid 2 0 here 0))) ∷ reveal 2 (ex hid (Read (element hid 2 0 here 1))) ∷ shows_two 1 int 2 ∷ [])
    ∷ []

swapped_of_9_3 : Clear [] swapped 1 (words (pos 9 ∷ []) (pos 3 ∷ [])) (Revealed I32 (pos 3) ∷ Revealed I32 (pos 9) ∷ Printed (codes "3 9\n") ∷ []) Done
unfolding digits hidden-the_row-TExpr-0 hidden-the_row-TExpr-1 hidden-the_row-TPlace-2 hidden-the_row-TStmt-0 hidden-the_row-TStmt-1 hidden-the_row-CType-0 hidden
swapped_of_9_3 = (refl, refl)

swapped_of_3_9 : Clear [] swapped 1 (words (pos 3 ∷ []) (pos 9 ∷ [])) (Revealed I32 (pos 3) ∷ Revealed I32 (pos 9) ∷ Printed (codes "3 9\n") ∷ []) Done
unfolding digits hidden-the_row-TExpr-0 hidden-the_row-TExpr-1 hidden-the_row-TPlace-2 hidden-the_row-TStmt-0 hidden-the_row-TStmt-1 hidden-the_row-CType-0 hidden
swapped_of_3_9 = (refl, refl)

swapped_events : entries (events_walk [] swapped 1 (known 1 1) 64 (pos 3 ∷ pos 9 ∷ []) 1000) ≡
    Feed 1 I32 0 ∷ Feed 2 I32 0 ∷ Op Less I32 (Of 1) (Of 0) ∷ Pick I32 (Of 2) (Of 1) (Of 0) ∷ Pick I32 (Of 2) (Of 0) (Of 1)
    ∷ One Flip KBool (Of 2) ∷ Reveal I32 (Of 3) ∷ Reveal I32 (Of 4) ∷ Print (codes "3 9\n") ∷ []
unfolding digits hidden-the_row-TExpr-0 hidden-the_row-TExpr-1 hidden-the_row-TPlace-2 hidden-the_row-TStmt-0 hidden-the_row-TStmt-1 hidden-the_row-CType-0 hidden
swapped_events = refl
