-- A program whose run ends for want of dealt transfers.
-- What its runs show, their events and what they leave were made by an independent model.
use Rattle.std.proofs.Common.{pos, negsuc, List, [], ◌∷◌, Some, None, true, false, refl}
use Rattle.std.specs.Fmt.{digits}
use Rattle.oc_values.specs.declared.integers.IntKind.TheVariants.{Bool as KBool, I16, I32, U32, I64, U64}
use Rattle.oc_values.specs.declared.integers.BinaryOp.TheVariants.{Add, Sub, Rem, Shl, Shr, And, Or, Xor, Less, LessEq, Greater, Equal}
use Rattle.oc_values.specs.declared.integers.OneOp.TheVariants.{Plus, Not, Flip}
use Rattle.oc_cells.specs.declared.types.CType.{Int, Pointer, Array, Nothing}
use Rattle.oc_cells.specs.declared.types.StructType.{StructType}
use Rattle.oc_typed.specs.declared.typed.TExprNode.{Number, Read, AddressOf, Decay, Unary, Binary, PointerSame, Logic, Choose, Assign, Update, Convert, Call, Builtin as Known}
use Rattle.oc_typed.specs.declared.typed.TExprNode.TheBlock.{hidden-the_row-TExpr-0, hidden-the_row-TExpr-1, hidden-the_row-TPlace-2}
use Rattle.oc_typed.specs.declared.typed.TStmtNode.TheBlock.{hidden-the_row-TStmt-0, hidden-the_row-TStmt-1}
use Rattle.oc_cells.specs.declared.types.CType.TheBlock.{hidden-the_row-CType-0}
use denote.Hole.Carrier.{hidden}
use Rattle.oc_typed.specs.declared.typed.TPlaceNode.{Slot, Deref, Index}
use Rattle.oc_typed.specs.declared.typed.Builtin.TheVariants.{Private, Feed as Feeds, Reveal as Reveals, Give as Gives, PrivateCount, PublicWord, Print as Prints}
use Rattle.oc_typed.specs.declared.typed.PrintPiece.TheVariants.{Text, Decimal}
use Rattle.oc_typed.specs.declared.typed.TForInit.TheVariants.{Declare as ForDeclare}
use Rattle.oc_typed.specs.declared.typed.TStmtNode.{Declare, Express, Block, If, OblivIf, While, For, Return, Empty}
use Rattle.oc_typed.specs.declared.typed.TypedFunction.{TypedFunction}
use Rattle.oc_walk.specs.declared.run.ClearSetup.{ClearSetup}
use Rattle.oc_walk.specs.declared.run.Outcome.TheVariants.{DealtSpent}
use Rattle.oc_meanings.specs.Clear.{Clear, known_of, clear_walk}
use Rattle.oc_meanings.specs.Events.{events_walk}
use Rattle.sampled_runs.proofs.Small.{Ends, Left}

abbrev structs : List StructType
structs = (record { name = []; fields = (record { name = []; ty = (Int I32 false); offset = 0 } ∷ record { name = []; ty = (Int I32 true); offset = 1 } ∷ []); cells = 2 } ∷ record { name = []; fields = (record { name = []; ty = (Pointer false (Int I32 false)); offset = 0 } ∷ record { name = []; ty = (Int I32 true); offset = 1 } ∷ []); cells = 2 } ∷ record { name = []; fields = (record { name = []; ty = (Int I32 true); offset = 0 } ∷ record { name = []; ty = (Array 2 (Int I32 true)); offset = 1 } ∷ []); cells = 3 } ∷ [])

abbrev functions : List TypedFunction
functions = (record { name = []; result = (Int I32 false); params = 1; slots = (record { ty = (Int I32 false); frozen = false } ∷ []); obliv = false; body = (record { spot = record { line = 7; column = 18 }; node = Return (Some (record { spot = record { line = 7; column = 25 }; ty = (Int I32 false); node = Read (record { spot = record { line = 7; column = 25 }; ty = (Int I32 false); node = Slot 0 }) })) } ∷ []) } ∷ record { name = []; result = Nothing; params = 0; slots = []; obliv = false; body = [] } ∷ record { name = []; result = Nothing; params = 1; slots = (record { ty = (Pointer false (Int I32 false)); frozen = false } ∷ []); obliv = false; body = [] } ∷ record { name = []; result = Nothing; params = 1; slots = (record { ty = (Pointer true (Int I32 false)); frozen = false } ∷ []); obliv = false; body = [] } ∷ record { name = []; result = Nothing; params = 1; slots = (record { ty = (Pointer false (Int I32 false)); frozen = false } ∷ []); obliv = true; body = (record { spot = record { line = 12; column = 27 }; node = Express (record { spot = record { line = 12; column = 27 }; ty = (Int I32 false); node = Assign (record { spot = record { line = 12; column = 27 }; ty = (Int I32 false); node = Deref (record { spot = record { line = 12; column = 28 }; ty = (Pointer false (Int I32 false)); node = Read (record { spot = record { line = 12; column = 28 }; ty = (Pointer false (Int I32 false)); node = Slot 0 }) }) }) (record { spot = record { line = 12; column = 32 }; ty = (Int I32 false); node = Number (pos 1) }) }) } ∷ []) } ∷ record { name = []; result = Nothing; params = 1; slots = (record { ty = (Pointer false (Int I32 true)); frozen = false } ∷ []); obliv = true; body = (record { spot = record { line = 13; column = 34 }; node = Express (record { spot = record { line = 13; column = 34 }; ty = (Int I32 true); node = Assign (record { spot = record { line = 13; column = 34 }; ty = (Int I32 true); node = Deref (record { spot = record { line = 13; column = 35 }; ty = (Pointer false (Int I32 true)); node = Read (record { spot = record { line = 13; column = 35 }; ty = (Pointer false (Int I32 true)); node = Slot 0 }) }) }) (record { spot = record { line = 13; column = 39 }; ty = (Int I32 true); node = Convert (record { spot = record { line = 13; column = 39 }; ty = (Int I32 false); node = Number (pos 1) }) }) }) } ∷ []) } ∷ record { name = []; result = Nothing; params = 1; slots = (record { ty = (Int I32 true); frozen = false } ∷ []); obliv = true; body = (record { spot = record { line = 14; column = 33 }; node = Express (record { spot = record { line = 14; column = 33 }; ty = (Int I32 true); node = Assign (record { spot = record { line = 14; column = 33 }; ty = (Int I32 true); node = Slot 0 }) (record { spot = record { line = 14; column = 37 }; ty = (Int I32 true); node = Convert (record { spot = record { line = 14; column = 37 }; ty = (Int I32 false); node = Number (pos 1) }) }) }) } ∷ []) } ∷ record { name = []; result = (Int I32 false); params = 1; slots = (record { ty = (Int I32 false); frozen = false } ∷ []); obliv = false; body = (record { spot = record { line = 15; column = 17 }; node = Return (Some (record { spot = record { line = 15; column = 24 }; ty = (Int I32 false); node = Number (pos 0) })) } ∷ []) } ∷ record { name = []; result = (Int I32 false); params = 1; slots = (record { ty = (Int I32 false); frozen = false } ∷ []); obliv = false; body = (record { spot = record { line = 16; column = 20 }; node = If (record { spot = record { line = 16; column = 24 }; ty = (Int I32 false); node = Binary LessEq (record { spot = record { line = 16; column = 24 }; ty = (Int I32 false); node = Read (record { spot = record { line = 16; column = 24 }; ty = (Int I32 false); node = Slot 0 }) }) (record { spot = record { line = 16; column = 29 }; ty = (Int I32 false); node = Number (pos 0) }) }) (record { spot = record { line = 16; column = 32 }; node = Return (Some (record { spot = record { line = 16; column = 39 }; ty = (Int I32 false); node = Number (pos 0) })) }) None } ∷ record { spot = record { line = 16; column = 42 }; node = Return (Some (record { spot = record { line = 16; column = 49 }; ty = (Int I32 false); node = Binary Add (record { spot = record { line = 16; column = 49 }; ty = (Int I32 false); node = Number (pos 1) }) (record { spot = record { line = 16; column = 53 }; ty = (Int I32 false); node = Call 8 (record { spot = record { line = 16; column = 59 }; ty = (Int I32 false); node = Binary Sub (record { spot = record { line = 16; column = 59 }; ty = (Int I32 false); node = Read (record { spot = record { line = 16; column = 59 }; ty = (Int I32 false); node = Slot 0 }) }) (record { spot = record { line = 16; column = 63 }; ty = (Int I32 false); node = Number (pos 1) }) } ∷ []) }) })) } ∷ []) } ∷ record { name = []; result = Nothing; params = 1; slots = (record { ty = (Pointer false (Int I32 true)); frozen = false } ∷ []); obliv = true; body = (record { spot = record { line = 17; column = 35 }; node = OblivIf (record { spot = record { line = 17; column = 45 }; ty = (Int KBool true); node = Binary Greater (record { spot = record { line = 17; column = 45 }; ty = (Int I32 true); node = Read (record { spot = record { line = 17; column = 45 }; ty = (Int I32 true); node = Deref (record { spot = record { line = 17; column = 46 }; ty = (Pointer false (Int I32 true)); node = Read (record { spot = record { line = 17; column = 46 }; ty = (Pointer false (Int I32 true)); node = Slot 0 }) }) }) }) (record { spot = record { line = 17; column = 50 }; ty = (Int I32 true); node = Convert (record { spot = record { line = 17; column = 50 }; ty = (Int I32 false); node = Number (pos 4) }) }) }) (record { spot = record { line = 17; column = 53 }; node = Block (record { spot = record { line = 17; column = 55 }; node = Express (record { spot = record { line = 17; column = 55 }; ty = (Int I32 true); node = Assign (record { spot = record { line = 17; column = 55 }; ty = (Int I32 true); node = Deref (record { spot = record { line = 17; column = 56 }; ty = (Pointer false (Int I32 true)); node = Read (record { spot = record { line = 17; column = 56 }; ty = (Pointer false (Int I32 true)); node = Slot 0 }) }) }) (record { spot = record { line = 17; column = 60 }; ty = (Int I32 true); node = Binary Add (record { spot = record { line = 17; column = 60 }; ty = (Int I32 true); node = Read (record { spot = record { line = 17; column = 60 }; ty = (Int I32 true); node = Deref (record { spot = record { line = 17; column = 61 }; ty = (Pointer false (Int I32 true)); node = Read (record { spot = record { line = 17; column = 61 }; ty = (Pointer false (Int I32 true)); node = Slot 0 }) }) }) }) (record { spot = record { line = 17; column = 65 }; ty = (Int I32 true); node = Convert (record { spot = record { line = 17; column = 65 }; ty = (Int I32 false); node = Number (pos 10) }) }) }) }) } ∷ []) }) (Some (record { spot = record { line = 17; column = 76 }; node = Express (record { spot = record { line = 17; column = 76 }; ty = (Int I32 true); node = Assign (record { spot = record { line = 17; column = 76 }; ty = (Int I32 true); node = Deref (record { spot = record { line = 17; column = 77 }; ty = (Pointer false (Int I32 true)); node = Read (record { spot = record { line = 17; column = 77 }; ty = (Pointer false (Int I32 true)); node = Slot 0 }) }) }) (record { spot = record { line = 17; column = 81 }; ty = (Int I32 true); node = Convert (record { spot = record { line = 17; column = 81 }; ty = (Int I32 false); node = Number (pos 0) }) }) }) })) } ∷ []) } ∷ record { name = []; result = (Int U32 true); params = 3; slots = (record { ty = (Int U32 false); frozen = false } ∷ record { ty = (Int I32 false); frozen = false } ∷ record { ty = (Pointer false (Int I64 false)); frozen = false } ∷ []); obliv = true; body = (record { spot = record { line = 19; column = 3 }; node = Express (record { spot = record { line = 19; column = 3 }; ty = (Int I64 false); node = Update Or (record { spot = record { line = 19; column = 3 }; ty = (Int I64 false); node = Index (record { spot = record { line = 19; column = 3 }; ty = (Pointer false (Int I64 false)); node = Read (record { spot = record { line = 19; column = 3 }; ty = (Pointer false (Int I64 false)); node = Slot 2 }) }) (record { spot = record { line = 19; column = 6 }; ty = (Int I32 false); node = Number (pos 0) }) }) (record { spot = record { line = 19; column = 12 }; ty = (Int I64 false); node = Convert (record { spot = record { line = 19; column = 12 }; ty = (Int I32 false); node = Binary Equal (record { spot = record { line = 19; column = 13 }; ty = (Int I64 false); node = Convert (record { spot = record { line = 19; column = 13 }; ty = (Int I32 false); node = Binary Add (record { spot = record { line = 19; column = 13 }; ty = (Int I32 false); node = Number (pos 16) }) (record { spot = record { line = 19; column = 18 }; ty = (Int I32 false); node = Read (record { spot = record { line = 19; column = 18 }; ty = (Int I32 false); node = Slot 1 }) }) }) }) (record { spot = record { line = 19; column = 25 }; ty = (Int I64 false); node = Read (record { spot = record { line = 19; column = 25 }; ty = (Int I64 false); node = Index (record { spot = record { line = 19; column = 25 }; ty = (Pointer false (Int I64 false)); node = Read (record { spot = record { line = 19; column = 25 }; ty = (Pointer false (Int I64 false)); node = Slot 2 }) }) (record { spot = record { line = 19; column = 28 }; ty = (Int I32 false); node = Number (pos 0) }) }) }) }) }) false }) } ∷ record { spot = record { line = 20; column = 3 }; node = Return (Some (record { spot = record { line = 20; column = 10 }; ty = (Int U32 true); node = Convert (record { spot = record { line = 20; column = 10 }; ty = (Int I32 true); node = Binary Sub (record { spot = record { line = 20; column = 11 }; ty = (Int I32 true); node = Convert (record { spot = record { line = 20; column = 11 }; ty = (Int I32 false); node = Logic true (record { spot = record { line = 20; column = 11 }; ty = (Int KBool false); node = Convert (record { spot = record { line = 20; column = 11 }; ty = (Int I32 false); node = Number (pos 32768) }) }) (record { spot = record { line = 20; column = 20 }; ty = (Int KBool false); node = Convert (record { spot = record { line = 20; column = 20 }; ty = (Int I32 false); node = Read (record { spot = record { line = 20; column = 20 }; ty = (Int I32 false); node = Slot 1 }) }) }) }) }) (record { spot = record { line = 20; column = 27 }; ty = (Int I32 true); node = Convert (record { spot = record { line = 20; column = 27 }; ty = (Int KBool true); node = Convert (record { spot = record { line = 20; column = 39 }; ty = (Int I32 false); node = Read (record { spot = record { line = 20; column = 39 }; ty = (Int I32 false); node = Slot 1 }) }) }) }) }) })) } ∷ []) } ∷ record { name = []; result = (Int I32 true); params = 3; slots = (record { ty = (Int I64 false); frozen = false } ∷ record { ty = (Int I64 false); frozen = false } ∷ record { ty = (Int I64 true); frozen = false } ∷ []); obliv = false; body = (record { spot = record { line = 23; column = 3 }; node = Express (record { spot = record { line = 23; column = 3 }; ty = Nothing; node = Known (Prints (Text (97 ∷ 9 ∷ 98 ∷ 32 ∷ []) ∷ Decimal I64 ∷ Text (32 ∷ []) ∷ Decimal I64 ∷ Text (10 ∷ []) ∷ [])) (record { spot = record { line = 23; column = 30 }; ty = (Int I64 false); node = Read (record { spot = record { line = 23; column = 30 }; ty = (Int I64 false); node = Slot 1 }) } ∷ record { spot = record { line = 23; column = 34 }; ty = (Int I64 false); node = Read (record { spot = record { line = 23; column = 34 }; ty = (Int I64 false); node = Slot 1 }) } ∷ []) }) } ∷ record { spot = record { line = 24; column = 3 }; node = Express (record { spot = record { line = 24; column = 3 }; ty = Nothing; node = Known (Gives I64 2) (record { spot = record { line = 24; column = 12 }; ty = (Int I64 true); node = Binary Add (record { spot = record { line = 24; column = 14 }; ty = (Int I64 true); node = Choose (record { spot = record { line = 24; column = 14 }; ty = (Int I64 false); node = Read (record { spot = record { line = 24; column = 14 }; ty = (Int I64 false); node = Slot 1 }) }) (record { spot = record { line = 24; column = 19 }; ty = (Int I64 true); node = Read (record { spot = record { line = 24; column = 19 }; ty = (Int I64 true); node = Slot 2 }) }) (record { spot = record { line = 24; column = 24 }; ty = (Int I64 true); node = Convert (record { spot = record { line = 24; column = 24 }; ty = (Int I64 false); node = Read (record { spot = record { line = 24; column = 24 }; ty = (Int I64 false); node = Slot 0 }) }) }) }) (record { spot = record { line = 24; column = 32 }; ty = (Int I64 true); node = Convert (record { spot = record { line = 24; column = 32 }; ty = (Int U32 true); node = Convert (record { spot = record { line = 24; column = 52 }; ty = (Int I64 false); node = Read (record { spot = record { line = 24; column = 52 }; ty = (Int I64 false); node = Slot 0 }) }) }) }) } ∷ []) }) } ∷ record { spot = record { line = 25; column = 3 }; node = Express (record { spot = record { line = 25; column = 3 }; ty = (Int I64 false); node = Assign (record { spot = record { line = 25; column = 3 }; ty = (Int I64 false); node = Slot 0 }) (record { spot = record { line = 25; column = 8 }; ty = (Int I64 false); node = Read (record { spot = record { line = 25; column = 8 }; ty = (Int I64 false); node = Slot 0 }) }) }) } ∷ record { spot = record { line = 26; column = 3 }; node = Express (record { spot = record { line = 26; column = 3 }; ty = (Int I64 false); node = Update Sub (record { spot = record { line = 26; column = 5 }; ty = (Int I64 false); node = Slot 0 }) (record { spot = record { line = 26; column = 3 }; ty = (Int I64 false); node = Convert (record { spot = record { line = 26; column = 3 }; ty = (Int I32 false); node = Number (pos 1) }) }) false }) } ∷ record { spot = record { line = 27; column = 3 }; node = Return (Some (record { spot = record { line = 27; column = 11 }; ty = (Int I32 true); node = Convert (record { spot = record { line = 27; column = 11 }; ty = (Int I64 true); node = Choose (record { spot = record { line = 27; column = 12 }; ty = (Int U32 false); node = Convert (record { spot = record { line = 27; column = 22 }; ty = (Int I64 false); node = Read (record { spot = record { line = 27; column = 22 }; ty = (Int I64 false); node = Slot 1 }) }) }) (record { spot = record { line = 27; column = 29 }; ty = (Int I64 true); node = Choose (record { spot = record { line = 27; column = 29 }; ty = (Int I64 false); node = Read (record { spot = record { line = 27; column = 29 }; ty = (Int I64 false); node = Slot 0 }) }) (record { spot = record { line = 27; column = 34 }; ty = (Int I64 true); node = Convert (record { spot = record { line = 27; column = 34 }; ty = (Int I32 false); node = Number (pos 16) }) }) (record { spot = record { line = 27; column = 39 }; ty = (Int I64 true); node = Read (record { spot = record { line = 27; column = 39 }; ty = (Int I64 true); node = Slot 2 }) }) }) (record { spot = record { line = 27; column = 46 }; ty = (Int I64 true); node = Convert (record { spot = record { line = 27; column = 46 }; ty = (Int I32 false); node = Binary LessEq (record { spot = record { line = 27; column = 46 }; ty = (Int I64 false); node = Read (record { spot = record { line = 27; column = 46 }; ty = (Int I64 false); node = Slot 0 }) }) (record { spot = record { line = 27; column = 52 }; ty = (Int I64 false); node = Read (record { spot = record { line = 27; column = 52 }; ty = (Int I64 false); node = Slot 1 }) }) }) }) }) })) } ∷ []) } ∷ record { name = []; result = Nothing; params = 0; slots = (record { ty = (Int I64 true); frozen = false } ∷ record { ty = (Int I32 true); frozen = false } ∷ record { ty = (Int I32 true); frozen = false } ∷ record { ty = (Int I64 true); frozen = false } ∷ record { ty = (Int I32 false); frozen = false } ∷ record { ty = (Int I32 false); frozen = false } ∷ record { ty = (Int U32 false); frozen = false } ∷ record { ty = (Array 1 (Array 3 (Int I64 false))); frozen = false } ∷ record { ty = (Pointer false (Int U32 false)); frozen = false } ∷ record { ty = (Int I32 false); frozen = false } ∷ record { ty = (Int U32 false); frozen = false } ∷ record { ty = (Int I16 false); frozen = false } ∷ record { ty = (Int I32 false); frozen = false } ∷ record { ty = (Int I32 false); frozen = false } ∷ record { ty = (Int I64 true); frozen = false } ∷ record { ty = (Int I64 false); frozen = false } ∷ record { ty = (Int I32 false); frozen = false } ∷ record { ty = (Int I32 false); frozen = false } ∷ record { ty = (Int I32 false); frozen = false } ∷ record { ty = (Int I64 false); frozen = false } ∷ []); obliv = false; body = (record { spot = record { line = 30; column = 3 }; node = Declare (record { spot = record { line = 30; column = 19 }; slot = 0; init = Some (record { spot = record { line = 30; column = 24 }; ty = (Int I64 true); node = Known (Feeds I64 2) (record { spot = record { line = 30; column = 39 }; ty = (Int I32 false); node = Known Private (record { spot = record { line = 30; column = 49 }; ty = (Int I32 false); node = Number (pos 0) } ∷ []) } ∷ []) }) } ∷ []) } ∷ record { spot = record { line = 31; column = 3 }; node = Declare (record { spot = record { line = 31; column = 13 }; slot = 1; init = Some (record { spot = record { line = 31; column = 19 }; ty = (Int I32 true); node = Known (Feeds I32 2) (record { spot = record { line = 31; column = 32 }; ty = (Int I32 false); node = Known Private (record { spot = record { line = 31; column = 42 }; ty = (Int I32 false); node = Number (pos 1) } ∷ []) } ∷ []) }) } ∷ []) } ∷ record { spot = record { line = 32; column = 1 }; node = While (record { spot = record { line = 32; column = 8 }; ty = (Int I32 false); node = Binary Less (record { spot = record { line = 32; column = 8 }; ty = (Int I32 false); node = Call 8 (record { spot = record { line = 32; column = 14 }; ty = (Int I32 false); node = Number (pos 332) } ∷ []) }) (record { spot = record { line = 32; column = 21 }; ty = (Int I32 false); node = Number (pos 0) }) }) (record { spot = record { line = 32; column = 24 }; node = Empty }) } ∷ record { spot = record { line = 33; column = 3 }; node = Declare (record { spot = record { line = 33; column = 13 }; slot = 2; init = Some (record { spot = record { line = 33; column = 19 }; ty = (Int I32 true); node = Convert (record { spot = record { line = 33; column = 19 }; ty = (Int I32 false); node = Binary Less (record { spot = record { line = 33; column = 20 }; ty = (Int U32 false); node = Unary Plus (record { spot = record { line = 33; column = 21 }; ty = (Int U32 false); node = Number (pos 2147483649) }) }) (record { spot = record { line = 33; column = 36 }; ty = (Int U32 false); node = Convert (record { spot = record { line = 33; column = 36 }; ty = (Int I32 false); node = Known (PrivateCount 2) [] }) }) }) }) } ∷ []) } ∷ record { spot = record { line = 34; column = 3 }; node = Express (record { spot = record { line = 34; column = 3 }; ty = (Int I32 true); node = Assign (record { spot = record { line = 34; column = 3 }; ty = (Int I32 true); node = Slot 2 }) (record { spot = record { line = 34; column = 9 }; ty = (Int I32 true); node = Read (record { spot = record { line = 34; column = 9 }; ty = (Int I32 true); node = Slot 2 }) }) }) } ∷ record { spot = record { line = 35; column = 3 }; node = Declare (record { spot = record { line = 35; column = 19 }; slot = 3; init = Some (record { spot = record { line = 35; column = 25 }; ty = (Int I64 true); node = Convert (record { spot = record { line = 35; column = 25 }; ty = (Int I32 true); node = Read (record { spot = record { line = 35; column = 25 }; ty = (Int I32 true); node = Slot 2 }) }) }) } ∷ []) } ∷ record { spot = record { line = 36; column = 1 }; node = For (ForDeclare (record { spot = record { line = 36; column = 10 }; slot = 4; init = Some (record { spot = record { line = 36; column = 15 }; ty = (Int I32 false); node = Number (pos 0) }) } ∷ [])) (Some (record { spot = record { line = 36; column = 18 }; ty = (Int I32 false); node = Binary Less (record { spot = record { line = 36; column = 18 }; ty = (Int I32 false); node = Read (record { spot = record { line = 36; column = 18 }; ty = (Int I32 false); node = Slot 4 }) }) (record { spot = record { line = 36; column = 23 }; ty = (Int I32 false); node = Number (pos 2) }) })) (Some (record { spot = record { line = 36; column = 26 }; ty = (Int I32 false); node = Update Add (record { spot = record { line = 36; column = 26 }; ty = (Int I32 false); node = Slot 4 }) (record { spot = record { line = 36; column = 26 }; ty = (Int I32 false); node = Number (pos 1) }) true })) (record { spot = record { line = 36; column = 32 }; node = Block (record { spot = record { line = 36; column = 34 }; node = Declare (record { spot = record { line = 36; column = 38 }; slot = 5; init = Some (record { spot = record { line = 36; column = 43 }; ty = (Int I32 false); node = Call 8 (record { spot = record { line = 36; column = 49 }; ty = (Int I32 false); node = Number (pos 328) } ∷ []) }) } ∷ []) } ∷ record { spot = record { line = 36; column = 56 }; node = Express (record { spot = record { line = 36; column = 56 }; ty = (Int I32 false); node = Assign (record { spot = record { line = 36; column = 56 }; ty = (Int I32 false); node = Slot 5 }) (record { spot = record { line = 36; column = 61 }; ty = (Int I32 false); node = Binary Add (record { spot = record { line = 36; column = 62 }; ty = (Int I32 false); node = Call 8 (record { spot = record { line = 36; column = 68 }; ty = (Int I32 false); node = Number (pos 332) } ∷ []) }) (record { spot = record { line = 36; column = 76 }; ty = (Int I32 false); node = Number (pos 1) }) }) }) } ∷ []) }) } ∷ record { spot = record { line = 37; column = 3 }; node = Express (record { spot = record { line = 37; column = 3 }; ty = Nothing; node = Known (Prints (Text (97 ∷ 9 ∷ 98 ∷ 32 ∷ 10 ∷ []) ∷ [])) [] }) } ∷ record { spot = record { line = 38; column = 3 }; node = Express (record { spot = record { line = 38; column = 3 }; ty = (Int I32 true); node = Assign (record { spot = record { line = 38; column = 3 }; ty = (Int I32 true); node = Slot 1 }) (record { spot = record { line = 38; column = 9 }; ty = (Int I32 true); node = Convert (record { spot = record { line = 38; column = 9 }; ty = (Int I32 false); node = Number (pos 1) }) }) }) } ∷ record { spot = record { line = 39; column = 3 }; node = Declare (record { spot = record { line = 39; column = 16 }; slot = 6; init = None } ∷ []) } ∷ record { spot = record { line = 40; column = 3 }; node = Declare (record { spot = record { line = 40; column = 8 }; slot = 7; init = None } ∷ []) } ∷ record { spot = record { line = 41; column = 3 }; node = If (record { spot = record { line = 41; column = 7 }; ty = (Int I64 false); node = Known PublicWord (record { spot = record { line = 41; column = 16 }; ty = (Int I32 false); node = Number (pos 0) } ∷ []) }) (record { spot = record { line = 42; column = 3 }; node = Block (record { spot = record { line = 43; column = 5 }; node = Express (record { spot = record { line = 43; column = 5 }; ty = (Int I64 false); node = Assign (record { spot = record { line = 43; column = 5 }; ty = (Int I64 false); node = Index (record { spot = record { line = 43; column = 5 }; ty = (Pointer false (Int I64 false)); node = Decay (record { spot = record { line = 43; column = 5 }; ty = (Array 3 (Int I64 false)); node = Index (record { spot = record { line = 43; column = 5 }; ty = (Pointer false (Array 3 (Int I64 false))); node = Decay (record { spot = record { line = 43; column = 5 }; ty = (Array 1 (Array 3 (Int I64 false))); node = Slot 7 }) }) (record { spot = record { line = 43; column = 9 }; ty = (Int I32 false); node = Number (pos 0) }) }) }) (record { spot = record { line = 43; column = 12 }; ty = (Int I32 false); node = Number (pos 0) }) }) (record { spot = record { line = 43; column = 17 }; ty = (Int I64 false); node = Convert (record { spot = record { line = 43; column = 17 }; ty = (Int U32 false); node = Read (record { spot = record { line = 43; column = 17 }; ty = (Int U32 false); node = Slot 6 }) }) }) }) } ∷ record { spot = record { line = 44; column = 5 }; node = Express (record { spot = record { line = 44; column = 5 }; ty = (Int I64 true); node = Assign (record { spot = record { line = 44; column = 5 }; ty = (Int I64 true); node = Slot 3 }) (record { spot = record { line = 44; column = 12 }; ty = (Int I64 true); node = Convert (record { spot = record { line = 44; column = 12 }; ty = (Int I64 false); node = Update Add (record { spot = record { line = 44; column = 12 }; ty = (Int I64 false); node = Index (record { spot = record { line = 44; column = 12 }; ty = (Pointer false (Int I64 false)); node = Decay (record { spot = record { line = 44; column = 12 }; ty = (Array 3 (Int I64 false)); node = Index (record { spot = record { line = 44; column = 12 }; ty = (Pointer false (Array 3 (Int I64 false))); node = Decay (record { spot = record { line = 44; column = 12 }; ty = (Array 1 (Array 3 (Int I64 false))); node = Slot 7 }) }) (record { spot = record { line = 44; column = 16 }; ty = (Int I32 false); node = Number (pos 0) }) }) }) (record { spot = record { line = 44; column = 19 }; ty = (Int I32 false); node = Number (pos 1) }) }) (record { spot = record { line = 44; column = 25 }; ty = (Int I64 false); node = Read (record { spot = record { line = 44; column = 25 }; ty = (Int I64 false); node = Index (record { spot = record { line = 44; column = 25 }; ty = (Pointer false (Int I64 false)); node = Decay (record { spot = record { line = 44; column = 25 }; ty = (Array 3 (Int I64 false)); node = Index (record { spot = record { line = 44; column = 25 }; ty = (Pointer false (Array 3 (Int I64 false))); node = Decay (record { spot = record { line = 44; column = 25 }; ty = (Array 1 (Array 3 (Int I64 false))); node = Slot 7 }) }) (record { spot = record { line = 44; column = 29 }; ty = (Int I32 false); node = Number (pos 0) }) }) }) (record { spot = record { line = 44; column = 32 }; ty = (Int U32 false); node = Binary Rem (record { spot = record { line = 44; column = 32 }; ty = (Int U32 false); node = Convert (record { spot = record { line = 44; column = 43 }; ty = (Int I32 false); node = Logic false (record { spot = record { line = 44; column = 43 }; ty = (Int KBool false); node = Convert (record { spot = record { line = 44; column = 43 }; ty = (Int I32 false); node = Number (pos 10) }) }) (record { spot = record { line = 44; column = 49 }; ty = (Int KBool false); node = Convert (record { spot = record { line = 44; column = 49 }; ty = (Int U32 false); node = Read (record { spot = record { line = 44; column = 49 }; ty = (Int U32 false); node = Slot 6 }) }) }) }) }) (record { spot = record { line = 44; column = 56 }; ty = (Int U32 false); node = Number (pos 3) }) }) }) }) false }) }) }) } ∷ record { spot = record { line = 45; column = 5 }; node = Declare (record { spot = record { line = 45; column = 19 }; slot = 8; init = Some (record { spot = record { line = 45; column = 25 }; ty = (Pointer false (Int U32 false)); node = Convert (record { spot = record { line = 45; column = 25 }; ty = (Pointer false (Int U32 false)); node = AddressOf (record { spot = record { line = 45; column = 26 }; ty = (Int U32 false); node = Slot 6 }) }) }) } ∷ []) } ∷ record { spot = record { line = 46; column = 5 }; node = Declare (record { spot = record { line = 46; column = 9 }; slot = 9; init = Some (record { spot = record { line = 46; column = 15 }; ty = (Int I32 false); node = PointerSame (record { spot = record { line = 46; column = 15 }; ty = (Pointer false (Int U32 false)); node = Read (record { spot = record { line = 46; column = 15 }; ty = (Pointer false (Int U32 false)); node = Slot 8 }) }) (record { spot = record { line = 46; column = 22 }; ty = (Pointer false (Int U32 false)); node = AddressOf (record { spot = record { line = 46; column = 23 }; ty = (Int U32 false); node = Slot 6 }) }) false }) } ∷ []) } ∷ []) }) None } ∷ record { spot = record { line = 48; column = 3 }; node = Declare (record { spot = record { line = 48; column = 12 }; slot = 10; init = Some (record { spot = record { line = 48; column = 19 }; ty = (Int U32 false); node = Convert (record { spot = record { line = 48; column = 19 }; ty = (Int I64 false); node = Choose (record { spot = record { line = 48; column = 20 }; ty = (Int I32 false); node = Binary Shl (record { spot = record { line = 48; column = 20 }; ty = (Int I32 false); node = Number (pos 2) }) (record { spot = record { line = 48; column = 27 }; ty = (Int U32 false); node = Read (record { spot = record { line = 48; column = 27 }; ty = (Int U32 false); node = Slot 6 }) }) }) (record { spot = record { line = 48; column = 35 }; ty = (Int I64 false); node = Convert (record { spot = record { line = 48; column = 35 }; ty = (Int I32 false); node = Logic false (record { spot = record { line = 48; column = 35 }; ty = (Int KBool false); node = Convert (record { spot = record { line = 48; column = 35 }; ty = (Int U32 false); node = Read (record { spot = record { line = 48; column = 35 }; ty = (Int U32 false); node = Slot 6 }) }) }) (record { spot = record { line = 48; column = 42 }; ty = (Int KBool false); node = Convert (record { spot = record { line = 48; column = 42 }; ty = (Int U32 false); node = Read (record { spot = record { line = 48; column = 42 }; ty = (Int U32 false); node = Slot 6 }) }) }) }) }) (record { spot = record { line = 48; column = 49 }; ty = (Int I64 false); node = Binary Sub (record { spot = record { line = 48; column = 50 }; ty = (Int I64 false); node = Convert (record { spot = record { line = 48; column = 50 }; ty = (Int I32 false); node = Number (pos 97) }) }) (record { spot = record { line = 48; column = 57 }; ty = (Int I64 false); node = Read (record { spot = record { line = 48; column = 57 }; ty = (Int I64 false); node = Index (record { spot = record { line = 48; column = 57 }; ty = (Pointer false (Int I64 false)); node = Decay (record { spot = record { line = 48; column = 57 }; ty = (Array 3 (Int I64 false)); node = Index (record { spot = record { line = 48; column = 57 }; ty = (Pointer false (Array 3 (Int I64 false))); node = Decay (record { spot = record { line = 48; column = 57 }; ty = (Array 1 (Array 3 (Int I64 false))); node = Slot 7 }) }) (record { spot = record { line = 48; column = 61 }; ty = (Int I32 false); node = Number (pos 0) }) }) }) (record { spot = record { line = 48; column = 64 }; ty = (Int I32 false); node = Number (pos 2) }) }) }) }) }) }) } ∷ []) } ∷ record { spot = record { line = 49; column = 3 }; node = Declare (record { spot = record { line = 49; column = 20 }; slot = 11; init = None } ∷ []) } ∷ record { spot = record { line = 50; column = 3 }; node = Express (record { spot = record { line = 50; column = 3 }; ty = Nothing; node = Known (Reveals I16) (record { spot = record { line = 50; column = 20 }; ty = (Pointer false (Int I16 false)); node = Convert (record { spot = record { line = 50; column = 20 }; ty = (Pointer false (Int I16 false)); node = AddressOf (record { spot = record { line = 50; column = 21 }; ty = (Int I16 false); node = Slot 11 }) }) } ∷ record { spot = record { line = 50; column = 26 }; ty = (Int I16 true); node = Convert (record { spot = record { line = 50; column = 26 }; ty = (Int I64 true); node = Binary Sub (record { spot = record { line = 50; column = 27 }; ty = (Int I64 true); node = Convert (record { spot = record { line = 50; column = 27 }; ty = (Int I32 true); node = Call 11 (record { spot = record { line = 50; column = 31 }; ty = (Int I64 false); node = Convert (record { spot = record { line = 50; column = 31 }; ty = (Int I32 false); node = Binary Less (record { spot = record { line = 50; column = 31 }; ty = (Int U32 false); node = Read (record { spot = record { line = 50; column = 31 }; ty = (Int U32 false); node = Slot 6 }) }) (record { spot = record { line = 50; column = 37 }; ty = (Int U32 false); node = Convert (record { spot = record { line = 50; column = 37 }; ty = (Int I32 false); node = Number (pos 11) }) }) }) } ∷ record { spot = record { line = 50; column = 41 }; ty = (Int I64 false); node = Convert (record { spot = record { line = 50; column = 41 }; ty = (Int I32 false); node = Known (PrivateCount 1) [] }) } ∷ record { spot = record { line = 50; column = 60 }; ty = (Int I64 true); node = Convert (record { spot = record { line = 50; column = 60 }; ty = (Int I32 false); node = Unary Not (record { spot = record { line = 50; column = 61 }; ty = (Int KBool false); node = Convert (record { spot = record { line = 50; column = 61 }; ty = (Int U32 false); node = Read (record { spot = record { line = 50; column = 61 }; ty = (Int U32 false); node = Slot 10 }) }) }) }) } ∷ []) }) }) (record { spot = record { line = 50; column = 69 }; ty = (Int I64 true); node = Convert (record { spot = record { line = 50; column = 69 }; ty = (Int I64 false); node = Read (record { spot = record { line = 50; column = 69 }; ty = (Int I64 false); node = Index (record { spot = record { line = 50; column = 69 }; ty = (Pointer false (Int I64 false)); node = Decay (record { spot = record { line = 50; column = 69 }; ty = (Array 3 (Int I64 false)); node = Index (record { spot = record { line = 50; column = 69 }; ty = (Pointer false (Array 3 (Int I64 false))); node = Decay (record { spot = record { line = 50; column = 69 }; ty = (Array 1 (Array 3 (Int I64 false))); node = Slot 7 }) }) (record { spot = record { line = 50; column = 73 }; ty = (Int I32 false); node = Number (pos 0) }) }) }) (record { spot = record { line = 50; column = 76 }; ty = (Int I32 false); node = Number (pos 2) }) }) }) }) }) } ∷ []) }) } ∷ record { spot = record { line = 51; column = 3 }; node = Express (record { spot = record { line = 51; column = 3 }; ty = Nothing; node = Known (Prints (Decimal I32 ∷ Text (10 ∷ []) ∷ [])) (record { spot = record { line = 51; column = 18 }; ty = (Int I32 false); node = Convert (record { spot = record { line = 51; column = 18 }; ty = (Int I16 false); node = Read (record { spot = record { line = 51; column = 18 }; ty = (Int I16 false); node = Slot 11 }) }) } ∷ []) }) } ∷ record { spot = record { line = 52; column = 3 }; node = OblivIf (record { spot = record { line = 52; column = 13 }; ty = (Int KBool true); node = Convert (record { spot = record { line = 52; column = 13 }; ty = (Int I32 false); node = Number (pos 5) }) }) (record { spot = record { line = 53; column = 3 }; node = Block (record { spot = record { line = 54; column = 5 }; node = For (ForDeclare (record { spot = record { line = 54; column = 14 }; slot = 12; init = Some (record { spot = record { line = 54; column = 20 }; ty = (Int I32 false); node = Number (pos 0) }) } ∷ [])) (Some (record { spot = record { line = 54; column = 23 }; ty = (Int I32 false); node = Binary Less (record { spot = record { line = 54; column = 23 }; ty = (Int I32 false); node = Read (record { spot = record { line = 54; column = 23 }; ty = (Int I32 false); node = Slot 12 }) }) (record { spot = record { line = 54; column = 29 }; ty = (Int I32 false); node = Number (pos 0) }) })) (Some (record { spot = record { line = 54; column = 32 }; ty = (Int I32 false); node = Assign (record { spot = record { line = 54; column = 32 }; ty = (Int I32 false); node = Slot 12 }) (record { spot = record { line = 54; column = 38 }; ty = (Int I32 false); node = Binary Add (record { spot = record { line = 54; column = 38 }; ty = (Int I32 false); node = Read (record { spot = record { line = 54; column = 38 }; ty = (Int I32 false); node = Slot 12 }) }) (record { spot = record { line = 54; column = 44 }; ty = (Int I32 false); node = Number (pos 1) }) }) })) (record { spot = record { line = 55; column = 5 }; node = Block (record { spot = record { line = 56; column = 7 }; node = For (ForDeclare (record { spot = record { line = 56; column = 16 }; slot = 13; init = Some (record { spot = record { line = 56; column = 22 }; ty = (Int I32 false); node = Number (pos 0) }) } ∷ [])) (Some (record { spot = record { line = 56; column = 25 }; ty = (Int I32 false); node = Binary Less (record { spot = record { line = 56; column = 25 }; ty = (Int I32 false); node = Read (record { spot = record { line = 56; column = 25 }; ty = (Int I32 false); node = Slot 13 }) }) (record { spot = record { line = 56; column = 31 }; ty = (Int I32 false); node = Number (pos 2) }) })) (Some (record { spot = record { line = 56; column = 34 }; ty = (Int I32 false); node = Update Add (record { spot = record { line = 56; column = 34 }; ty = (Int I32 false); node = Slot 13 }) (record { spot = record { line = 56; column = 41 }; ty = (Int I32 false); node = Number (pos 1) }) false })) (record { spot = record { line = 57; column = 7 }; node = Block (record { spot = record { line = 58; column = 9 }; node = Express (record { spot = record { line = 58; column = 9 }; ty = (Int I64 true); node = Assign (record { spot = record { line = 58; column = 9 }; ty = (Int I64 true); node = Slot 0 }) (record { spot = record { line = 58; column = 14 }; ty = (Int I64 true); node = Convert (record { spot = record { line = 58; column = 14 }; ty = (Int I32 true); node = Unary Flip (record { spot = record { line = 58; column = 15 }; ty = (Int I32 true); node = Read (record { spot = record { line = 58; column = 15 }; ty = (Int I32 true); node = Slot 2 }) }) }) }) }) } ∷ []) }) } ∷ record { spot = record { line = 60; column = 7 }; node = Express (record { spot = record { line = 60; column = 7 }; ty = (Int I64 true); node = Update Add (record { spot = record { line = 60; column = 7 }; ty = (Int I64 true); node = Slot 0 }) (record { spot = record { line = 60; column = 13 }; ty = (Int I64 true); node = Convert (record { spot = record { line = 60; column = 13 }; ty = (Int I16 false); node = Read (record { spot = record { line = 60; column = 13 }; ty = (Int I16 false); node = Slot 11 }) }) }) false }) } ∷ record { spot = record { line = 61; column = 7 }; node = Express (record { spot = record { line = 61; column = 7 }; ty = (Int I32 true); node = Update Sub (record { spot = record { line = 61; column = 7 }; ty = (Int I32 true); node = Slot 2 }) (record { spot = record { line = 61; column = 14 }; ty = (Int I32 true); node = Update Sub (record { spot = record { line = 61; column = 14 }; ty = (Int I32 true); node = Slot 1 }) (record { spot = record { line = 61; column = 14 }; ty = (Int I32 true); node = Convert (record { spot = record { line = 61; column = 14 }; ty = (Int I32 false); node = Number (pos 1) }) }) true }) false }) } ∷ []) }) } ∷ record { spot = record { line = 63; column = 5 }; node = Declare (record { spot = record { line = 63; column = 28 }; slot = 14; init = Some (record { spot = record { line = 63; column = 34 }; ty = (Int I64 true); node = Convert (record { spot = record { line = 63; column = 34 }; ty = (Int I32 true); node = Binary And (record { spot = record { line = 63; column = 34 }; ty = (Int I32 true); node = Convert (record { spot = record { line = 63; column = 34 }; ty = (Int I32 false); node = Number (pos 0) }) }) (record { spot = record { line = 63; column = 39 }; ty = (Int I32 true); node = Binary Shr (record { spot = record { line = 63; column = 39 }; ty = (Int I32 true); node = Read (record { spot = record { line = 63; column = 39 }; ty = (Int I32 true); node = Slot 1 }) }) (record { spot = record { line = 63; column = 47 }; ty = (Int I32 false); node = Convert (record { spot = record { line = 63; column = 47 }; ty = (Int I16 false); node = Read (record { spot = record { line = 63; column = 47 }; ty = (Int I16 false); node = Slot 11 }) }) }) }) }) }) } ∷ []) } ∷ []) }) (Some (record { spot = record { line = 66; column = 3 }; node = Block (record { spot = record { line = 67; column = 5 }; node = Express (record { spot = record { line = 67; column = 5 }; ty = (Int I64 true); node = Update Rem (record { spot = record { line = 67; column = 5 }; ty = (Int I64 true); node = Slot 0 }) (record { spot = record { line = 67; column = 12 }; ty = (Int I64 true); node = Convert (record { spot = record { line = 67; column = 12 }; ty = (Int I32 true); node = Choose (record { spot = record { line = 67; column = 13 }; ty = (Int I32 false); node = Binary Shl (record { spot = record { line = 67; column = 13 }; ty = (Int I32 false); node = Convert (record { spot = record { line = 67; column = 13 }; ty = (Int I16 false); node = Read (record { spot = record { line = 67; column = 13 }; ty = (Int I16 false); node = Slot 11 }) }) }) (record { spot = record { line = 67; column = 21 }; ty = (Int I32 false); node = Number (pos 0) }) }) (record { spot = record { line = 67; column = 31 }; ty = (Int I32 true); node = Binary Xor (record { spot = record { line = 67; column = 31 }; ty = (Int I32 true); node = Convert (record { spot = record { line = 67; column = 31 }; ty = (Int I32 false); node = Number (pos 13) }) }) (record { spot = record { line = 67; column = 36 }; ty = (Int I32 true); node = Read (record { spot = record { line = 67; column = 36 }; ty = (Int I32 true); node = Slot 2 }) }) }) (record { spot = record { line = 67; column = 43 }; ty = (Int I32 true); node = Convert (record { spot = record { line = 67; column = 43 }; ty = (Int I32 false); node = Binary Shr (record { spot = record { line = 67; column = 43 }; ty = (Int I32 false); node = Number (pos 7) }) (record { spot = record { line = 67; column = 49 }; ty = (Int U64 false); node = Number (pos 33) }) }) }) }) }) false }) } ∷ record { spot = record { line = 68; column = 5 }; node = Express (record { spot = record { line = 68; column = 5 }; ty = (Int I32 true); node = Update Rem (record { spot = record { line = 68; column = 5 }; ty = (Int I32 true); node = Slot 1 }) (record { spot = record { line = 68; column = 12 }; ty = (Int I64 true); node = Convert (record { spot = record { line = 68; column = 12 }; ty = (Int I64 false); node = Binary Add (record { spot = record { line = 68; column = 13 }; ty = (Int I64 false); node = Binary And (record { spot = record { line = 68; column = 14 }; ty = (Int I64 false); node = Binary Or (record { spot = record { line = 68; column = 15 }; ty = (Int I64 false); node = Convert (record { spot = record { line = 68; column = 15 }; ty = (Int I32 false); node = Binary Greater (record { spot = record { line = 68; column = 15 }; ty = (Int I32 false); node = Number (pos 1) }) (record { spot = record { line = 68; column = 22 }; ty = (Int I32 false); node = Number (pos 16) }) }) }) (record { spot = record { line = 68; column = 29 }; ty = (Int I64 false); node = Binary And (record { spot = record { line = 68; column = 29 }; ty = (Int I64 false); node = Convert (record { spot = record { line = 68; column = 29 }; ty = (Int I32 false); node = Number (pos 1) }) }) (record { spot = record { line = 68; column = 33 }; ty = (Int I64 false); node = Read (record { spot = record { line = 68; column = 33 }; ty = (Int I64 false); node = Index (record { spot = record { line = 68; column = 33 }; ty = (Pointer false (Int I64 false)); node = Decay (record { spot = record { line = 68; column = 33 }; ty = (Array 3 (Int I64 false)); node = Index (record { spot = record { line = 68; column = 33 }; ty = (Pointer false (Array 3 (Int I64 false))); node = Decay (record { spot = record { line = 68; column = 33 }; ty = (Array 1 (Array 3 (Int I64 false))); node = Slot 7 }) }) (record { spot = record { line = 68; column = 37 }; ty = (Int I32 false); node = Number (pos 0) }) }) }) (record { spot = record { line = 68; column = 40 }; ty = (Int I32 false); node = Number (pos 2) }) }) }) }) }) (record { spot = record { line = 68; column = 46 }; ty = (Int I64 false); node = Convert (record { spot = record { line = 68; column = 46 }; ty = (Int I32 false); node = Number (pos 7) }) }) }) (record { spot = record { line = 68; column = 51 }; ty = (Int I64 false); node = Convert (record { spot = record { line = 68; column = 51 }; ty = (Int I32 false); node = Number (pos 1) }) }) }) }) false }) } ∷ []) })) } ∷ record { spot = record { line = 70; column = 3 }; node = Declare (record { spot = record { line = 70; column = 12 }; slot = 15; init = None } ∷ []) } ∷ record { spot = record { line = 71; column = 3 }; node = Express (record { spot = record { line = 71; column = 3 }; ty = Nothing; node = Known (Reveals I64) (record { spot = record { line = 71; column = 20 }; ty = (Pointer false (Int I64 false)); node = Convert (record { spot = record { line = 71; column = 20 }; ty = (Pointer false (Int I64 false)); node = AddressOf (record { spot = record { line = 71; column = 21 }; ty = (Int I64 false); node = Slot 15 }) }) } ∷ record { spot = record { line = 71; column = 26 }; ty = (Int I64 true); node = Read (record { spot = record { line = 71; column = 26 }; ty = (Int I64 true); node = Slot 0 }) } ∷ []) }) } ∷ record { spot = record { line = 72; column = 3 }; node = Express (record { spot = record { line = 72; column = 3 }; ty = Nothing; node = Known (Prints (Decimal I64 ∷ Text (10 ∷ []) ∷ [])) (record { spot = record { line = 72; column = 20 }; ty = (Int I64 false); node = Read (record { spot = record { line = 72; column = 20 }; ty = (Int I64 false); node = Slot 15 }) } ∷ []) }) } ∷ record { spot = record { line = 73; column = 3 }; node = Declare (record { spot = record { line = 73; column = 14 }; slot = 16; init = None } ∷ []) } ∷ record { spot = record { line = 74; column = 3 }; node = Express (record { spot = record { line = 74; column = 3 }; ty = Nothing; node = Known (Reveals I32) (record { spot = record { line = 74; column = 18 }; ty = (Pointer false (Int I32 false)); node = Convert (record { spot = record { line = 74; column = 18 }; ty = (Pointer false (Int I32 false)); node = AddressOf (record { spot = record { line = 74; column = 19 }; ty = (Int I32 false); node = Slot 16 }) }) } ∷ record { spot = record { line = 74; column = 24 }; ty = (Int I32 true); node = Read (record { spot = record { line = 74; column = 24 }; ty = (Int I32 true); node = Slot 1 }) } ∷ []) }) } ∷ record { spot = record { line = 75; column = 3 }; node = Express (record { spot = record { line = 75; column = 3 }; ty = Nothing; node = Known (Prints (Decimal I32 ∷ Text (10 ∷ []) ∷ [])) (record { spot = record { line = 75; column = 18 }; ty = (Int I32 false); node = Read (record { spot = record { line = 75; column = 18 }; ty = (Int I32 false); node = Slot 16 }) } ∷ []) }) } ∷ record { spot = record { line = 76; column = 1 }; node = For (ForDeclare (record { spot = record { line = 76; column = 10 }; slot = 17; init = Some (record { spot = record { line = 76; column = 14 }; ty = (Int I32 false); node = Number (pos 0) }) } ∷ [])) (Some (record { spot = record { line = 76; column = 17 }; ty = (Int I32 false); node = Binary Less (record { spot = record { line = 76; column = 17 }; ty = (Int I32 false); node = Read (record { spot = record { line = 76; column = 17 }; ty = (Int I32 false); node = Slot 17 }) }) (record { spot = record { line = 76; column = 21 }; ty = (Int I32 false); node = Number (pos 1) }) })) (Some (record { spot = record { line = 76; column = 24 }; ty = (Int I32 false); node = Update Add (record { spot = record { line = 76; column = 24 }; ty = (Int I32 false); node = Slot 17 }) (record { spot = record { line = 76; column = 24 }; ty = (Int I32 false); node = Number (pos 1) }) true })) (record { spot = record { line = 76; column = 29 }; node = Express (record { spot = record { line = 76; column = 29 }; ty = (Int I32 false); node = Call 8 (record { spot = record { line = 76; column = 35 }; ty = (Int I32 false); node = Number (pos 332) } ∷ []) }) }) } ∷ record { spot = record { line = 77; column = 3 }; node = Declare (record { spot = record { line = 77; column = 7 }; slot = 18; init = None } ∷ []) } ∷ record { spot = record { line = 78; column = 3 }; node = Express (record { spot = record { line = 78; column = 3 }; ty = Nothing; node = Known (Reveals I32) (record { spot = record { line = 78; column = 18 }; ty = (Pointer false (Int I32 false)); node = Convert (record { spot = record { line = 78; column = 18 }; ty = (Pointer false (Int I32 false)); node = AddressOf (record { spot = record { line = 78; column = 19 }; ty = (Int I32 false); node = Slot 18 }) }) } ∷ record { spot = record { line = 78; column = 24 }; ty = (Int I32 true); node = Read (record { spot = record { line = 78; column = 24 }; ty = (Int I32 true); node = Slot 2 }) } ∷ []) }) } ∷ record { spot = record { line = 79; column = 3 }; node = Express (record { spot = record { line = 79; column = 3 }; ty = Nothing; node = Known (Prints (Decimal I32 ∷ Text (10 ∷ []) ∷ [])) (record { spot = record { line = 79; column = 18 }; ty = (Int I32 false); node = Read (record { spot = record { line = 79; column = 18 }; ty = (Int I32 false); node = Slot 18 }) } ∷ []) }) } ∷ record { spot = record { line = 80; column = 3 }; node = Declare (record { spot = record { line = 80; column = 12 }; slot = 19; init = None } ∷ []) } ∷ record { spot = record { line = 81; column = 3 }; node = Express (record { spot = record { line = 81; column = 3 }; ty = Nothing; node = Known (Reveals I64) (record { spot = record { line = 81; column = 20 }; ty = (Pointer false (Int I64 false)); node = Convert (record { spot = record { line = 81; column = 20 }; ty = (Pointer false (Int I64 false)); node = AddressOf (record { spot = record { line = 81; column = 21 }; ty = (Int I64 false); node = Slot 19 }) }) } ∷ record { spot = record { line = 81; column = 26 }; ty = (Int I64 true); node = Read (record { spot = record { line = 81; column = 26 }; ty = (Int I64 true); node = Slot 3 }) } ∷ []) }) } ∷ record { spot = record { line = 82; column = 3 }; node = Express (record { spot = record { line = 82; column = 3 }; ty = Nothing; node = Known (Prints (Decimal I64 ∷ Text (10 ∷ []) ∷ [])) (record { spot = record { line = 82; column = 20 }; ty = (Int I64 false); node = Read (record { spot = record { line = 82; column = 20 }; ty = (Int I64 false); node = Slot 19 }) } ∷ []) }) } ∷ record { spot = record { line = 83; column = 3 }; node = Express (record { spot = record { line = 83; column = 3 }; ty = Nothing; node = Known (Prints (Decimal U32 ∷ Text (10 ∷ []) ∷ [])) (record { spot = record { line = 83; column = 18 }; ty = (Int U32 false); node = Read (record { spot = record { line = 83; column = 18 }; ty = (Int U32 false); node = Slot 6 }) } ∷ []) }) } ∷ record { spot = record { line = 84; column = 3 }; node = Express (record { spot = record { line = 84; column = 3 }; ty = Nothing; node = Known (Prints (Decimal U32 ∷ Text (10 ∷ []) ∷ [])) (record { spot = record { line = 84; column = 18 }; ty = (Int U32 false); node = Read (record { spot = record { line = 84; column = 18 }; ty = (Int U32 false); node = Slot 10 }) } ∷ []) }) } ∷ record { spot = record { line = 85; column = 3 }; node = Express (record { spot = record { line = 85; column = 3 }; ty = Nothing; node = Known (Prints (Decimal I32 ∷ Text (10 ∷ []) ∷ [])) (record { spot = record { line = 85; column = 18 }; ty = (Int I32 false); node = Convert (record { spot = record { line = 85; column = 18 }; ty = (Int I16 false); node = Read (record { spot = record { line = 85; column = 18 }; ty = (Int I16 false); node = Slot 11 }) }) } ∷ []) }) } ∷ []) } ∷ [])

abbrev setup : ClearSetup
setup = record { public = ((pos 32767) ∷ []); first = []; second = ((negsuc 128) ∷ (negsuc 32767) ∷ []); dealt = 5; budget = 3000 }

clear : Clear structs functions 12 setup [] DealtSpent
unfolding digits hidden-the_row-TExpr-0 hidden-the_row-TExpr-1 hidden-the_row-TPlace-2 hidden-the_row-TStmt-0 hidden-the_row-TStmt-1 hidden-the_row-CType-0 hidden
clear = (refl, refl)

left : Left (clear_walk structs functions 12 setup) 2999 5
unfolding digits hidden-the_row-TExpr-0 hidden-the_row-TExpr-1 hidden-the_row-TPlace-2 hidden-the_row-TStmt-0 hidden-the_row-TStmt-1 hidden-the_row-CType-0 hidden
left = (refl, refl)

events : Ends (events_walk structs functions 12 (known_of setup) 5 [] 3000)
    [] DealtSpent
unfolding digits hidden-the_row-TExpr-0 hidden-the_row-TExpr-1 hidden-the_row-TPlace-2 hidden-the_row-TStmt-0 hidden-the_row-TStmt-1 hidden-the_row-CType-0 hidden
events = (refl, refl)
