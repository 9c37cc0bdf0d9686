-- Conditions on hidden values: what both parts do, and the events that they make.
use Rattle.std.proofs.Common.{◌≡◌, pos, List, [], ◌∷◌, Some, None, true, false, refl}
use Rattle.std.specs.Prelude.{codes}
use Rattle.std.specs.Fmt.{digits}
use Rattle.oc_values.specs.declared.integers.IntKind.TheVariants.{Bool as KBool, I32}
use Rattle.oc_values.specs.declared.integers.BinaryOp.TheVariants.{Add, Less, Greater, Equal, And, Xor}
use Rattle.oc_values.specs.declared.integers.OneOp.TheVariants.{Flip}
use Rattle.oc_cells.specs.declared.types.CType.{Int, Pointer, Struct, Nothing}
use Rattle.oc_cells.specs.declared.types.CType.TheBlock.{hidden-the_row-CType-0}
use Rattle.oc_cells.specs.declared.types.StructType.{StructType}
use denote.Hole.Carrier.{hidden}
use Rattle.oc_typed.specs.declared.typed.TPlace.{TPlace}
use Rattle.oc_typed.specs.declared.typed.TExprNode.{Read, AddressOf, Assign, Builtin as Known}
use Rattle.oc_typed.specs.declared.typed.TExprNode.TheBlock.{hidden-the_row-TExpr-0, hidden-the_row-TExpr-1, hidden-the_row-TPlace-2}
use Rattle.oc_typed.specs.declared.typed.TPlaceNode.{Deref, Field}
use Rattle.oc_typed.specs.declared.typed.Builtin.TheVariants.{Reveal as Reveals}
use Rattle.oc_typed.specs.declared.typed.TStmtNode.{Express, Block, OblivIf, Always}
use Rattle.oc_typed.specs.declared.typed.TStmtNode.TheBlock.{hidden-the_row-TStmt-0, hidden-the_row-TStmt-1}
use Rattle.oc_typed.specs.declared.typed.TypedFunction.{TypedFunction}
use Rattle.oc_walk.specs.declared.run.ShownItem.TheVariants.{Print as Printed, Reveal as Revealed}
use Rattle.oc_walk.specs.declared.run.Outcome.TheVariants.{Done}
use Rattle.oc_meanings.specs.Clear.{Clear}
use Rattle.oc_meanings.specs.Events.{Fix, Of, Feed, Op, One, Pick, Reveal, Print, events_walk}
use Rattle.oc_meanings.proofs.Building.{here, hid, bit, int, ex, pl, num, var, set, to, bin, st, decl, feed_at, feed, reveal, of_type, main}
use Rattle.sampled_runs.proofs.Small.{words, known, entries, shows, shows_two, block, pointer, led_by}

-- m = a; obliv if (a < b) m = b;
abbrev maximum : List TypedFunction
maximum =
    main (of_type hid ∷ of_type hid ∷ of_type hid ∷ of_type int ∷ [])
    (decl 0 (Some (feed 1)) ∷ decl 1 (Some (feed 2)) ∷ decl 2 (Some (var hid 0)) ∷ decl 3 None
    ∷ st (OblivIf (bin bit Less (var hid 0) (var hid 1)) (set hid 2 (var hid 1)) None)
    ∷ reveal 3 (var hid 2) ∷ shows 3 ∷ [])
    ∷ []

maximum_of_9_3 : Clear [] maximum 0 (words (pos 9 ∷ []) (pos 3 ∷ [])) (Revealed I32 (pos 9) ∷ Printed (codes "9\n") ∷ []) Done
unfolding digits hidden-the_row-TExpr-0 hidden-the_row-TExpr-1 hidden-the_row-TPlace-2 hidden-the_row-TStmt-0 hidden-the_row-TStmt-1 hidden-the_row-CType-0 hidden
maximum_of_9_3 = (refl, refl)

maximum_of_3_9 : Clear [] maximum 0 (words (pos 3 ∷ []) (pos 9 ∷ [])) (Revealed I32 (pos 9) ∷ Printed (codes "9\n") ∷ []) Done
unfolding digits hidden-the_row-TExpr-0 hidden-the_row-TExpr-1 hidden-the_row-TPlace-2 hidden-the_row-TStmt-0 hidden-the_row-TStmt-1 hidden-the_row-CType-0 hidden
maximum_of_3_9 = (refl, refl)

maximum_events : entries (events_walk [] maximum 0 (known 1 1) 64 (pos 9 ∷ []) 1000) ≡
    Feed 1 I32 0 ∷ Feed 2 I32 0 ∷ Op Less I32 (Of 0) (Of 1) ∷ Pick I32 (Of 2) (Of 1) (Of 0) ∷ One Flip KBool (Of 2) ∷ Reveal I32 (Of 3) ∷ Print (codes "9\n") ∷ []
unfolding digits hidden-the_row-TExpr-0 hidden-the_row-TExpr-1 hidden-the_row-TPlace-2 hidden-the_row-TStmt-0 hidden-the_row-TStmt-1 hidden-the_row-CType-0 hidden
maximum_events = refl

-- obliv if (a < b) { obliv if (a == 0) m = 1; else m = 2; }
abbrev nested : List TypedFunction
nested =
    main (of_type hid ∷ of_type hid ∷ of_type hid ∷ of_type int ∷ [])
    (decl 0 (Some (feed 1)) ∷ decl 1 (Some (feed 2)) ∷ decl 2 (Some (to hid (num 0))) ∷ decl 3 None
    ∷ st (OblivIf (bin bit Less (var hid 0) (var hid 1))
    (st (Block (st (OblivIf (bin bit Equal (var hid 0) (to hid (num 0))) (set hid 2 (to hid (num 1))) (Some (set hid 2 (to hid (num 2))))) ∷ []))) None)
    ∷ reveal 3 (var hid 2) ∷ shows 3 ∷ [])
    ∷ []

nested_of_9_3 : Clear [] nested 0 (words (pos 9 ∷ []) (pos 3 ∷ [])) (Revealed I32 (pos 0) ∷ Printed (codes "0\n") ∷ []) Done
unfolding digits hidden-the_row-TExpr-0 hidden-the_row-TExpr-1 hidden-the_row-TPlace-2 hidden-the_row-TStmt-0 hidden-the_row-TStmt-1 hidden-the_row-CType-0 hidden
nested_of_9_3 = (refl, refl)

nested_of_0_3 : Clear [] nested 0 (words (pos 0 ∷ []) (pos 3 ∷ [])) (Revealed I32 (pos 1) ∷ Printed (codes "1\n") ∷ []) Done
unfolding digits hidden-the_row-TExpr-0 hidden-the_row-TExpr-1 hidden-the_row-TPlace-2 hidden-the_row-TStmt-0 hidden-the_row-TStmt-1 hidden-the_row-CType-0 hidden
nested_of_0_3 = (refl, refl)

nested_of_2_3 : Clear [] nested 0 (words (pos 2 ∷ []) (pos 3 ∷ [])) (Revealed I32 (pos 2) ∷ Printed (codes "2\n") ∷ []) Done
unfolding digits hidden-the_row-TExpr-0 hidden-the_row-TExpr-1 hidden-the_row-TPlace-2 hidden-the_row-TStmt-0 hidden-the_row-TStmt-1 hidden-the_row-CType-0 hidden
nested_of_2_3 = (refl, refl)

nested_events : entries (events_walk [] nested 0 (known 1 1) 64 (pos 9 ∷ []) 1000) ≡
    Feed 1 I32 0 ∷ Feed 2 I32 0 ∷ Op Less I32 (Of 0) (Of 1) ∷ Op Equal I32 (Of 0) (Fix I32 (pos 0)) ∷ Op And KBool (Of 2) (Of 3)
    ∷ Pick I32 (Of 4) (Fix I32 (pos 1)) (Fix I32 (pos 0)) ∷ Op Xor KBool (Of 2) (Of 4) ∷ Pick I32 (Of 6) (Fix I32 (pos 2)) (Of 5)
    ∷ One Flip KBool (Of 2) ∷ Reveal I32 (Of 7) ∷ Print (codes "9\n") ∷ []
unfolding digits hidden-the_row-TExpr-0 hidden-the_row-TExpr-1 hidden-the_row-TPlace-2 hidden-the_row-TStmt-0 hidden-the_row-TStmt-1 hidden-the_row-CType-0 hidden
nested_events = refl

-- obliv if (a > 5) { ~obliv(en) { count = count + 1; revealOblivBool(&e, en, 0); } }
abbrev always : List TypedFunction
always =
    main (of_type hid ∷ of_type int ∷ of_type (Int KBool false) ∷ of_type bit ∷ [])
    (decl 0 (Some (feed 1)) ∷ decl 1 (Some (num 0)) ∷ decl 2 None
    ∷ st (OblivIf (bin bit Greater (var hid 0) (to hid (num 5)))
    (block (st (Always 3 (block (set int 1 (bin int Add (var int 1) (num 1))
    ∷ st (Express (ex Nothing (Known (Reveals KBool) (ex (Pointer false (Int KBool false)) (AddressOf (pl (Int KBool false) 2)) ∷ var bit 3 ∷ [])))) ∷ []))) ∷ [])) None)
    ∷ shows_two 1 (Int KBool false) 2 ∷ []) ∷ []

always_of_3 : Clear [] always 0 (words (pos 3 ∷ []) []) (Revealed KBool (pos 0) ∷ Printed (codes "1 0\n") ∷ []) Done
unfolding digits hidden-the_row-TExpr-0 hidden-the_row-TExpr-1 hidden-the_row-TPlace-2 hidden-the_row-TStmt-0 hidden-the_row-TStmt-1 hidden-the_row-CType-0 hidden
always_of_3 = (refl, refl)

always_of_9 : Clear [] always 0 (words (pos 9 ∷ []) []) (Revealed KBool (pos 1) ∷ Printed (codes "1 1\n") ∷ []) Done
unfolding digits hidden-the_row-TExpr-0 hidden-the_row-TExpr-1 hidden-the_row-TPlace-2 hidden-the_row-TStmt-0 hidden-the_row-TStmt-1 hidden-the_row-CType-0 hidden
always_of_9 = (refl, refl)

-- struct Pair { int tag; obliv int v; };
abbrev pair : List StructType
pair =
    record {
      name = codes "Pair";
      fields = record { name = codes "tag"; ty = int; offset = 0 } ∷ record { name = codes "v"; ty = hid; offset = 1 } ∷ [];
      cells = 2;
    } ∷ []

-- the hidden field of the struct in slot 0
abbrev second_field : TPlace
second_field = record { spot = here; ty = hid; node = Field (pl (Struct 0) 0) 1 }

-- obliv int *p = &s.v; obliv if (x > 10) *p = x;
abbrev field_write : List TypedFunction
field_write =
    main (of_type (Struct 0) ∷ of_type hid ∷ of_type pointer ∷ of_type int ∷ [])
    (decl 0 None ∷ st (Express (ex hid (Assign second_field (feed 1)))) ∷ decl 1 (Some (feed 2))
    ∷ decl 2 (Some (ex pointer (AddressOf second_field))) ∷ decl 3 None
    ∷ st (OblivIf (bin bit Greater (var hid 1) (to hid (num 10))) (st (Express (ex hid (Assign (led_by 2) (var hid 1))))) None)
    ∷ reveal 3 (ex hid (Read second_field)) ∷ shows 3 ∷ [])
    ∷ []

field_write_of_7 : Clear pair field_write 0 (words (pos 4 ∷ []) (pos 7 ∷ [])) (Revealed I32 (pos 4) ∷ Printed (codes "4\n") ∷ []) Done
unfolding digits hidden-the_row-TExpr-0 hidden-the_row-TExpr-1 hidden-the_row-TPlace-2 hidden-the_row-TStmt-0 hidden-the_row-TStmt-1 hidden-the_row-CType-0 hidden
field_write_of_7 = (refl, refl)

field_write_of_12 : Clear pair field_write 0 (words (pos 4 ∷ []) (pos 12 ∷ [])) (Revealed I32 (pos 12) ∷ Printed (codes "12\n") ∷ []) Done
unfolding digits hidden-the_row-TExpr-0 hidden-the_row-TExpr-1 hidden-the_row-TPlace-2 hidden-the_row-TStmt-0 hidden-the_row-TStmt-1 hidden-the_row-CType-0 hidden
field_write_of_12 = (refl, refl)

field_write_events : entries (events_walk pair field_write 0 (known 1 1) 64 (pos 12 ∷ []) 1000) ≡
    Feed 1 I32 0 ∷ Feed 2 I32 0 ∷ Op Greater I32 (Of 1) (Fix I32 (pos 10)) ∷ Pick I32 (Of 2) (Of 1) (Of 0) ∷ One Flip KBool (Of 2)
    ∷ Reveal I32 (Of 3) ∷ Print (codes "12\n") ∷ []
unfolding digits hidden-the_row-TExpr-0 hidden-the_row-TExpr-1 hidden-the_row-TPlace-2 hidden-the_row-TStmt-0 hidden-the_row-TStmt-1 hidden-the_row-CType-0 hidden
field_write_events = refl

-- obliv if (c) { frozen int *p = &outer; s = *p; }
abbrev frozen_read : List TypedFunction
frozen_read =
    main (of_type int ∷ of_type hid ∷ of_type bit ∷ of_type int ∷ of_type (Pointer true int) ∷ [])
    (decl 0 (Some (num 4)) ∷ decl 1 (Some (to hid (num 0))) ∷ decl 2 (Some (feed_at bit KBool 1 0)) ∷ decl 3 None
    ∷ st (OblivIf (var bit 2)
    (block (decl 4 (Some (to (Pointer true int) (ex (Pointer true int) (AddressOf (pl int 0)))))
    ∷ set hid 1 (to hid (ex int (Read (record { spot = here; ty = int; node = Deref (var (Pointer true int) 4) })))) ∷ [])) None)
    ∷ reveal 3 (var hid 1) ∷ shows 3 ∷ []) ∷ []

frozen_read_of_0 : Clear [] frozen_read 0 (words (pos 0 ∷ []) []) (Revealed I32 (pos 0) ∷ Printed (codes "0\n") ∷ []) Done
unfolding digits hidden-the_row-TExpr-0 hidden-the_row-TExpr-1 hidden-the_row-TPlace-2 hidden-the_row-TStmt-0 hidden-the_row-TStmt-1 hidden-the_row-CType-0 hidden
frozen_read_of_0 = (refl, refl)

frozen_read_of_1 : Clear [] frozen_read 0 (words (pos 1 ∷ []) []) (Revealed I32 (pos 4) ∷ Printed (codes "4\n") ∷ []) Done
unfolding digits hidden-the_row-TExpr-0 hidden-the_row-TExpr-1 hidden-the_row-TPlace-2 hidden-the_row-TStmt-0 hidden-the_row-TStmt-1 hidden-the_row-CType-0 hidden
frozen_read_of_1 = (refl, refl)

frozen_read_events : entries (events_walk [] frozen_read 0 (known 1 0) 64 (pos 4 ∷ []) 1000) ≡
    Feed 1 KBool 0 ∷ Pick I32 (Of 0) (Fix I32 (pos 4)) (Fix I32 (pos 0)) ∷ One Flip KBool (Of 0) ∷ Reveal I32 (Of 1) ∷ Print (codes "4\n") ∷ []
unfolding digits hidden-the_row-TExpr-0 hidden-the_row-TExpr-1 hidden-the_row-TPlace-2 hidden-the_row-TStmt-0 hidden-the_row-TStmt-1 hidden-the_row-CType-0 hidden
frozen_read_events = refl
