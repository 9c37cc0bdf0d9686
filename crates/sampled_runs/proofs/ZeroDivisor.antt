-- A program whose run ends at a public division by zero.
-- What its runs show, their events and what they leave were made by an independent model.
use Rattle.std.proofs.Common.{pos, negsuc, List, [], ◌∷◌, Some, None, true, false, refl}
use Rattle.std.specs.Fmt.{digits}
use Rattle.oc_values.specs.declared.integers.IntKind.TheVariants.{Bool as KBool, U8, I16, U16, I32, U32, I64, U64}
use Rattle.oc_values.specs.declared.integers.BinaryOp.TheVariants.{Add, Sub, Mul, Div, Rem, Shl, Shr, And, Or, Xor, LessEq, Greater, GreaterEq, NotEqual}
use Rattle.oc_values.specs.declared.integers.OneOp.TheVariants.{Neg, Plus}
use Rattle.oc_cells.specs.declared.types.CType.{Int, Pointer, Nothing}
use Rattle.oc_cells.specs.declared.types.StructType.{StructType}
use Rattle.oc_cells.specs.declared.trap.TrapKind.TheVariants.{Z1}
use Rattle.oc_typed.specs.declared.typed.TExprNode.{Number, Read, AddressOf, Unary, Binary, Logic, Choose, Assign, Update, Convert, Call, Builtin as Known}
use Rattle.oc_typed.specs.declared.typed.TExprNode.TheBlock.{hidden-the_row-TExpr-0, hidden-the_row-TExpr-1, hidden-the_row-TPlace-2}
use Rattle.oc_typed.specs.declared.typed.TStmtNode.TheBlock.{hidden-the_row-TStmt-0, hidden-the_row-TStmt-1}
use Rattle.oc_cells.specs.declared.types.CType.TheBlock.{hidden-the_row-CType-0}
use denote.Hole.Carrier.{hidden}
use Rattle.oc_typed.specs.declared.typed.TPlaceNode.{Slot, Deref}
use Rattle.oc_typed.specs.declared.typed.Builtin.TheVariants.{PrivateCount, PublicCount, Print as Prints}
use Rattle.oc_typed.specs.declared.typed.PrintPiece.TheVariants.{Text, Decimal}
use Rattle.oc_typed.specs.declared.typed.TStmtNode.{Declare, Express, Return}
use Rattle.oc_typed.specs.declared.typed.TypedFunction.{TypedFunction}
use Rattle.oc_walk.specs.declared.run.ClearSetup.{ClearSetup}
use Rattle.oc_walk.specs.declared.run.Outcome.TheVariants.{Trap}
use Rattle.oc_meanings.specs.Clear.{Clear, known_of, clear_walk}
use Rattle.oc_meanings.specs.Events.{events_walk}
use Rattle.sampled_runs.proofs.Small.{Ends, Left}

abbrev structs : List StructType
structs = (record { name = []; fields = (record { name = []; ty = (Int U16 false); offset = 0 } ∷ record { name = []; ty = (Int U64 false); offset = 1 } ∷ []); cells = 2 } ∷ [])

abbrev functions : List TypedFunction
functions = (record { name = []; result = (Int I64 false); params = 3; slots = (record { ty = (Int U32 false); frozen = false } ∷ record { ty = (Int I32 false); frozen = false } ∷ record { ty = (Int U32 false); frozen = false } ∷ record { ty = (Int U64 false); frozen = true } ∷ record { ty = (Int I64 false); frozen = false } ∷ []); obliv = false; body = (record { spot = record { line = 5; column = 3 }; node = Declare (record { spot = record { line = 5; column = 24 }; slot = 3; init = Some (record { spot = record { line = 5; column = 29 }; ty = (Int U64 false); node = Convert (record { spot = record { line = 5; column = 29 }; ty = (Int U8 false); node = Convert (record { spot = record { line = 5; column = 45 }; ty = (Int I32 false); node = Logic false (record { spot = record { line = 5; column = 45 }; ty = (Int KBool false); node = Convert (record { spot = record { line = 5; column = 45 }; ty = (Int I64 false); node = Number (pos 2147483649) }) }) (record { spot = record { line = 5; column = 59 }; ty = (Int KBool false); node = Convert (record { spot = record { line = 5; column = 59 }; ty = (Int U32 false); node = Read (record { spot = record { line = 5; column = 59 }; ty = (Int U32 false); node = Slot 2 }) }) }) }) }) }) } ∷ []) } ∷ record { spot = record { line = 6; column = 3 }; node = Declare (record { spot = record { line = 6; column = 12 }; slot = 4; init = Some (record { spot = record { line = 6; column = 18 }; ty = (Int I64 false); node = Convert (record { spot = record { line = 6; column = 18 }; ty = (Int I32 false); node = Update And (record { spot = record { line = 6; column = 18 }; ty = (Int I32 false); node = Slot 1 }) (record { spot = record { line = 6; column = 24 }; ty = (Int I32 false); node = Number (pos 5) }) false }) }) } ∷ []) } ∷ record { spot = record { line = 7; column = 3 }; node = Express (record { spot = record { line = 7; column = 3 }; ty = (Int I64 false); node = Assign (record { spot = record { line = 7; column = 3 }; ty = (Int I64 false); node = Slot 4 }) (record { spot = record { line = 7; column = 8 }; ty = (Int I64 false); node = Convert (record { spot = record { line = 7; column = 8 }; ty = (Int I32 false); node = Binary Shr (record { spot = record { line = 7; column = 9 }; ty = (Int I32 false); node = Binary LessEq (record { spot = record { line = 7; column = 9 }; ty = (Int I32 false); node = Read (record { spot = record { line = 7; column = 9 }; ty = (Int I32 false); node = Slot 1 }) }) (record { spot = record { line = 7; column = 15 }; ty = (Int I32 false); node = Known (PrivateCount 1) [] }) }) (record { spot = record { line = 7; column = 38 }; ty = (Int I32 false); node = Convert (record { spot = record { line = 7; column = 38 }; ty = (Int U16 false); node = Convert (record { spot = record { line = 7; column = 58 }; ty = (Int U32 false); node = Read (record { spot = record { line = 7; column = 58 }; ty = (Int U32 false); node = Slot 2 }) }) }) }) }) }) }) } ∷ record { spot = record { line = 8; column = 3 }; node = Express (record { spot = record { line = 8; column = 3 }; ty = (Int I64 false); node = Update Div (record { spot = record { line = 8; column = 3 }; ty = (Int I64 false); node = Slot 4 }) (record { spot = record { line = 8; column = 9 }; ty = (Int U64 false); node = Binary Mul (record { spot = record { line = 8; column = 9 }; ty = (Int U64 false); node = Unary Neg (record { spot = record { line = 8; column = 10 }; ty = (Int U64 false); node = Read (record { spot = record { line = 8; column = 10 }; ty = (Int U64 false); node = Slot 3 }) }) }) (record { spot = record { line = 8; column = 15 }; ty = (Int U64 false); node = Convert (record { spot = record { line = 8; column = 15 }; ty = (Int I32 false); node = Read (record { spot = record { line = 8; column = 15 }; ty = (Int I32 false); node = Slot 1 }) }) }) }) false }) } ∷ record { spot = record { line = 9; column = 3 }; node = Return (Some (record { spot = record { line = 9; column = 10 }; ty = (Int I64 false); node = Convert (record { spot = record { line = 9; column = 10 }; ty = (Int I32 false); node = Known PublicCount [] }) })) } ∷ []) } ∷ record { name = []; result = Nothing; params = 0; slots = (record { ty = (Int I32 false); frozen = false } ∷ record { ty = (Int I16 false); frozen = false } ∷ record { ty = (Int U16 false); frozen = false } ∷ record { ty = (Pointer true (Int I16 false)); frozen = false } ∷ record { ty = (Int U8 false); frozen = false } ∷ record { ty = (Int U8 false); frozen = false } ∷ record { ty = (Int U8 false); frozen = false } ∷ record { ty = (Int I64 false); frozen = false } ∷ []); obliv = false; body = (record { spot = record { line = 12; column = 3 }; node = Declare (record { spot = record { line = 12; column = 7 }; slot = 0; init = Some (record { spot = record { line = 12; column = 13 }; ty = (Int I32 false); node = Binary Shl (record { spot = record { line = 12; column = 14 }; ty = (Int I32 false); node = Unary Neg (record { spot = record { line = 12; column = 15 }; ty = (Int I32 false); node = Number (pos 0) }) }) (record { spot = record { line = 12; column = 26 }; ty = (Int I32 false); node = Binary Div (record { spot = record { line = 12; column = 26 }; ty = (Int I32 false); node = Number (pos 14) }) (record { spot = record { line = 12; column = 32 }; ty = (Int I32 false); node = Binary Add (record { spot = record { line = 12; column = 33 }; ty = (Int I32 false); node = Binary And (record { spot = record { line = 12; column = 33 }; ty = (Int I32 false); node = Number (pos 9) }) (record { spot = record { line = 12; column = 37 }; ty = (Int I32 false); node = Number (pos 7) }) }) (record { spot = record { line = 12; column = 42 }; ty = (Int I32 false); node = Number (pos 1) }) }) }) }) } ∷ []) } ∷ record { spot = record { line = 13; column = 3 }; node = Express (record { spot = record { line = 13; column = 3 }; ty = (Int I32 false); node = Assign (record { spot = record { line = 13; column = 3 }; ty = (Int I32 false); node = Slot 0 }) (record { spot = record { line = 13; column = 10 }; ty = (Int I32 false); node = Update And (record { spot = record { line = 13; column = 10 }; ty = (Int I32 false); node = Slot 0 }) (record { spot = record { line = 13; column = 18 }; ty = (Int I32 false); node = Choose (record { spot = record { line = 13; column = 18 }; ty = (Int I32 false); node = Read (record { spot = record { line = 13; column = 18 }; ty = (Int I32 false); node = Slot 0 }) }) (record { spot = record { line = 13; column = 24 }; ty = (Int I32 false); node = Update Sub (record { spot = record { line = 13; column = 24 }; ty = (Int I32 false); node = Slot 0 }) (record { spot = record { line = 13; column = 24 }; ty = (Int I32 false); node = Number (pos 1) }) true }) (record { spot = record { line = 13; column = 32 }; ty = (Int I32 false); node = Read (record { spot = record { line = 13; column = 32 }; ty = (Int I32 false); node = Slot 0 }) }) }) false }) }) } ∷ record { spot = record { line = 14; column = 3 }; node = Declare (record { spot = record { line = 14; column = 13 }; slot = 1; init = None } ∷ []) } ∷ record { spot = record { line = 15; column = 3 }; node = Express (record { spot = record { line = 15; column = 3 }; ty = (Int I32 false); node = Update Div (record { spot = record { line = 15; column = 3 }; ty = (Int I32 false); node = Slot 0 }) (record { spot = record { line = 15; column = 10 }; ty = (Int I32 false); node = Binary Add (record { spot = record { line = 15; column = 11 }; ty = (Int I32 false); node = Binary And (record { spot = record { line = 15; column = 12 }; ty = (Int I32 false); node = Binary Xor (record { spot = record { line = 15; column = 12 }; ty = (Int I32 false); node = Binary Sub (record { spot = record { line = 15; column = 12 }; ty = (Int I32 false); node = Read (record { spot = record { line = 15; column = 12 }; ty = (Int I32 false); node = Slot 0 }) }) (record { spot = record { line = 15; column = 18 }; ty = (Int I32 false); node = Read (record { spot = record { line = 15; column = 18 }; ty = (Int I32 false); node = Slot 0 }) }) }) (record { spot = record { line = 15; column = 24 }; ty = (Int I32 false); node = Number (pos 4) }) }) (record { spot = record { line = 15; column = 29 }; ty = (Int I32 false); node = Number (pos 7) }) }) (record { spot = record { line = 15; column = 34 }; ty = (Int I32 false); node = Number (pos 1) }) }) false }) } ∷ record { spot = record { line = 16; column = 3 }; node = Declare (record { spot = record { line = 16; column = 22 }; slot = 2; init = Some (record { spot = record { line = 16; column = 28 }; ty = (Int U16 false); node = Convert (record { spot = record { line = 16; column = 28 }; ty = (Int I32 false); node = Binary Greater (record { spot = record { line = 16; column = 30 }; ty = (Int I32 false); node = Convert (record { spot = record { line = 16; column = 30 }; ty = (Int I16 false); node = Assign (record { spot = record { line = 16; column = 30 }; ty = (Int I16 false); node = Slot 1 }) (record { spot = record { line = 16; column = 36 }; ty = (Int I16 false); node = Read (record { spot = record { line = 16; column = 36 }; ty = (Int I16 false); node = Slot 1 }) }) }) }) (record { spot = record { line = 16; column = 45 }; ty = (Int I32 false); node = Binary GreaterEq (record { spot = record { line = 16; column = 45 }; ty = (Int I32 false); node = Number (pos 33) }) (record { spot = record { line = 16; column = 53 }; ty = (Int I32 false); node = Convert (record { spot = record { line = 16; column = 53 }; ty = (Int I16 false); node = Read (record { spot = record { line = 16; column = 53 }; ty = (Int I16 false); node = Slot 1 }) }) }) }) }) }) } ∷ []) } ∷ record { spot = record { line = 17; column = 3 }; node = Express (record { spot = record { line = 17; column = 3 }; ty = (Int I64 false); node = Call 0 (record { spot = record { line = 17; column = 8 }; ty = (Int U32 false); node = Convert (record { spot = record { line = 17; column = 8 }; ty = (Int I32 false); node = Choose (record { spot = record { line = 17; column = 8 }; ty = (Int I32 false); node = Read (record { spot = record { line = 17; column = 8 }; ty = (Int I32 false); node = Slot 0 }) }) (record { spot = record { line = 17; column = 14 }; ty = (Int I32 false); node = Number (pos 0) }) (record { spot = record { line = 17; column = 22 }; ty = (Int I32 false); node = Read (record { spot = record { line = 17; column = 22 }; ty = (Int I32 false); node = Slot 0 }) }) }) } ∷ record { spot = record { line = 17; column = 28 }; ty = (Int I32 false); node = Convert (record { spot = record { line = 17; column = 28 }; ty = (Int U8 false); node = Convert (record { spot = record { line = 17; column = 43 }; ty = (Int U16 false); node = Read (record { spot = record { line = 17; column = 43 }; ty = (Int U16 false); node = Slot 2 }) }) }) } ∷ record { spot = record { line = 17; column = 48 }; ty = (Int U32 false); node = Convert (record { spot = record { line = 17; column = 48 }; ty = (Int I64 false); node = Call 0 (record { spot = record { line = 17; column = 52 }; ty = (Int U32 false); node = Convert (record { spot = record { line = 17; column = 52 }; ty = (Int I32 false); node = Binary Shl (record { spot = record { line = 17; column = 52 }; ty = (Int I32 false); node = Number (pos 1) }) (record { spot = record { line = 17; column = 58 }; ty = (Int I32 false); node = Read (record { spot = record { line = 17; column = 58 }; ty = (Int I32 false); node = Slot 0 }) }) }) } ∷ record { spot = record { line = 17; column = 64 }; ty = (Int I32 false); node = Convert (record { spot = record { line = 17; column = 64 }; ty = (Int U32 false); node = Binary Rem (record { spot = record { line = 17; column = 64 }; ty = (Int U32 false); node = Convert (record { spot = record { line = 17; column = 64 }; ty = (Int U16 false); node = Read (record { spot = record { line = 17; column = 64 }; ty = (Int U16 false); node = Slot 2 }) }) }) (record { spot = record { line = 17; column = 71 }; ty = (Int U32 false); node = Binary Add (record { spot = record { line = 17; column = 72 }; ty = (Int U32 false); node = Convert (record { spot = record { line = 17; column = 72 }; ty = (Int I32 false); node = Binary And (record { spot = record { line = 17; column = 72 }; ty = (Int I32 false); node = Convert (record { spot = record { line = 17; column = 72 }; ty = (Int U16 false); node = Read (record { spot = record { line = 17; column = 72 }; ty = (Int U16 false); node = Slot 2 }) }) }) (record { spot = record { line = 17; column = 78 }; ty = (Int I32 false); node = Number (pos 7) }) }) }) (record { spot = record { line = 17; column = 83 }; ty = (Int U32 false); node = Number (pos 1) }) }) }) } ∷ record { spot = record { line = 17; column = 88 }; ty = (Int U32 false); node = Convert (record { spot = record { line = 17; column = 88 }; ty = (Int U16 false); node = Read (record { spot = record { line = 17; column = 88 }; ty = (Int U16 false); node = Slot 2 }) }) } ∷ []) }) } ∷ []) }) } ∷ record { spot = record { line = 18; column = 3 }; node = Declare (record { spot = record { line = 18; column = 28 }; slot = 3; init = Some (record { spot = record { line = 18; column = 34 }; ty = (Pointer true (Int I16 false)); node = Convert (record { spot = record { line = 18; column = 34 }; ty = (Pointer false (Int I16 false)); node = AddressOf (record { spot = record { line = 18; column = 35 }; ty = (Int I16 false); node = Slot 1 }) }) }) } ∷ []) } ∷ record { spot = record { line = 19; column = 3 }; node = Express (record { spot = record { line = 19; column = 3 }; ty = Nothing; node = Known (Prints (Text (47 ∷ 42 ∷ 32 ∷ 110 ∷ 111 ∷ 32 ∷ 42 ∷ 47 ∷ 32 ∷ 10 ∷ []) ∷ [])) [] }) } ∷ record { spot = record { line = 20; column = 3 }; node = Declare (record { spot = record { line = 20; column = 17 }; slot = 4; init = Some (record { spot = record { line = 20; column = 23 }; ty = (Int U8 false); node = Convert (record { spot = record { line = 20; column = 23 }; ty = (Int I32 false); node = Binary NotEqual (record { spot = record { line = 20; column = 24 }; ty = (Int I32 false); node = Binary Sub (record { spot = record { line = 20; column = 25 }; ty = (Int I32 false); node = Number (pos 32) }) (record { spot = record { line = 20; column = 32 }; ty = (Int I32 false); node = Convert (record { spot = record { line = 20; column = 32 }; ty = (Int I16 false); node = Read (record { spot = record { line = 20; column = 32 }; ty = (Int I16 false); node = Slot 1 }) }) }) }) (record { spot = record { line = 20; column = 40 }; ty = (Int I32 false); node = Read (record { spot = record { line = 20; column = 40 }; ty = (Int I32 false); node = Slot 0 }) }) }) }) } ∷ []) } ∷ record { spot = record { line = 21; column = 3 }; node = Declare (record { spot = record { line = 21; column = 17 }; slot = 5; init = Some (record { spot = record { line = 21; column = 23 }; ty = (Int U8 false); node = Convert (record { spot = record { line = 21; column = 23 }; ty = (Int I64 false); node = Binary Or (record { spot = record { line = 21; column = 23 }; ty = (Int I64 false); node = Convert (record { spot = record { line = 21; column = 23 }; ty = (Int U16 false); node = Read (record { spot = record { line = 21; column = 23 }; ty = (Int U16 false); node = Slot 2 }) }) }) (record { spot = record { line = 21; column = 30 }; ty = (Int I64 false); node = Convert (record { spot = record { line = 21; column = 40 }; ty = (Int U16 false); node = Read (record { spot = record { line = 21; column = 40 }; ty = (Int U16 false); node = Slot 2 }) }) }) }) }) } ∷ record { spot = record { line = 21; column = 46 }; slot = 6; init = Some (record { spot = record { line = 21; column = 53 }; ty = (Int U8 false); node = Convert (record { spot = record { line = 21; column = 53 }; ty = (Int I16 false); node = Read (record { spot = record { line = 21; column = 53 }; ty = (Int I16 false); node = Deref (record { spot = record { line = 21; column = 54 }; ty = (Pointer true (Int I16 false)); node = Read (record { spot = record { line = 21; column = 54 }; ty = (Pointer true (Int I16 false)); node = Slot 3 }) }) }) }) }) } ∷ []) } ∷ record { spot = record { line = 22; column = 3 }; node = Express (record { spot = record { line = 22; column = 3 }; ty = (Int U8 false); node = Assign (record { spot = record { line = 22; column = 3 }; ty = (Int U8 false); node = Slot 4 }) (record { spot = record { line = 22; column = 9 }; ty = (Int U8 false); node = Convert (record { spot = record { line = 22; column = 9 }; ty = (Int I32 false); node = Number (pos 0) }) }) }) } ∷ record { spot = record { line = 23; column = 3 }; node = Express (record { spot = record { line = 23; column = 3 }; ty = (Int U8 false); node = Assign (record { spot = record { line = 23; column = 3 }; ty = (Int U8 false); node = Slot 4 }) (record { spot = record { line = 23; column = 9 }; ty = (Int U8 false); node = Convert (record { spot = record { line = 23; column = 9 }; ty = (Int I32 false); node = Binary GreaterEq (record { spot = record { line = 23; column = 9 }; ty = (Int I32 false); node = Convert (record { spot = record { line = 23; column = 9 }; ty = (Int U16 false); node = Read (record { spot = record { line = 23; column = 9 }; ty = (Int U16 false); node = Slot 2 }) }) }) (record { spot = record { line = 23; column = 16 }; ty = (Int I32 false); node = Convert (record { spot = record { line = 23; column = 16 }; ty = (Int U8 false); node = Read (record { spot = record { line = 23; column = 16 }; ty = (Int U8 false); node = Slot 6 }) }) }) }) }) }) } ∷ record { spot = record { line = 24; column = 3 }; node = Declare (record { spot = record { line = 24; column = 12 }; slot = 7; init = Some (record { spot = record { line = 24; column = 18 }; ty = (Int I64 false); node = Call 0 (record { spot = record { line = 24; column = 22 }; ty = (Int U32 false); node = Convert (record { spot = record { line = 24; column = 22 }; ty = (Int I32 false); node = Binary Shl (record { spot = record { line = 24; column = 22 }; ty = (Int I32 false); node = Convert (record { spot = record { line = 24; column = 22 }; ty = (Int I16 false); node = Read (record { spot = record { line = 24; column = 22 }; ty = (Int I16 false); node = Slot 1 }) }) }) (record { spot = record { line = 24; column = 30 }; ty = (Int I32 false); node = Read (record { spot = record { line = 24; column = 30 }; ty = (Int I32 false); node = Slot 0 }) }) }) } ∷ record { spot = record { line = 24; column = 36 }; ty = (Int I32 false); node = Convert (record { spot = record { line = 24; column = 36 }; ty = (Int KBool false); node = Convert (record { spot = record { line = 24; column = 43 }; ty = (Int U16 false); node = Read (record { spot = record { line = 24; column = 43 }; ty = (Int U16 false); node = Slot 2 }) }) }) } ∷ record { spot = record { line = 24; column = 48 }; ty = (Int U32 false); node = Convert (record { spot = record { line = 24; column = 48 }; ty = (Int U8 false); node = Read (record { spot = record { line = 24; column = 48 }; ty = (Int U8 false); node = Slot 6 }) }) } ∷ []) }) } ∷ []) } ∷ record { spot = record { line = 25; column = 3 }; node = Express (record { spot = record { line = 25; column = 3 }; ty = (Int U16 false); node = Assign (record { spot = record { line = 25; column = 3 }; ty = (Int U16 false); node = Slot 2 }) (record { spot = record { line = 25; column = 9 }; ty = (Int U16 false); node = Convert (record { spot = record { line = 25; column = 9 }; ty = (Int I64 false); node = Call 0 (record { spot = record { line = 25; column = 13 }; ty = (Int U32 false); node = Convert (record { spot = record { line = 25; column = 13 }; ty = (Int I32 false); node = Binary Add (record { spot = record { line = 25; column = 14 }; ty = (Int I32 false); node = Number (pos 97) }) (record { spot = record { line = 25; column = 21 }; ty = (Int I32 false); node = Convert (record { spot = record { line = 25; column = 21 }; ty = (Int U8 false); node = Read (record { spot = record { line = 25; column = 21 }; ty = (Int U8 false); node = Slot 4 }) }) }) }) } ∷ record { spot = record { line = 25; column = 27 }; ty = (Int I32 false); node = Convert (record { spot = record { line = 25; column = 27 }; ty = (Int I16 false); node = Read (record { spot = record { line = 25; column = 27 }; ty = (Int I16 false); node = Deref (record { spot = record { line = 25; column = 28 }; ty = (Pointer true (Int I16 false)); node = Read (record { spot = record { line = 25; column = 28 }; ty = (Pointer true (Int I16 false)); node = Slot 3 }) }) }) }) } ∷ record { spot = record { line = 25; column = 34 }; ty = (Int U32 false); node = Convert (record { spot = record { line = 25; column = 34 }; ty = (Int I32 false); node = Unary Plus (record { spot = record { line = 25; column = 35 }; ty = (Int I32 false); node = Convert (record { spot = record { line = 25; column = 35 }; ty = (Int U16 false); node = Read (record { spot = record { line = 25; column = 35 }; ty = (Int U16 false); node = Slot 2 }) }) }) }) } ∷ []) }) }) }) } ∷ record { spot = record { line = 26; column = 3 }; node = Express (record { spot = record { line = 26; column = 3 }; ty = Nothing; node = Known (Prints (Decimal I32 ∷ Text (10 ∷ []) ∷ [])) (record { spot = record { line = 26; column = 18 }; ty = (Int I32 false); node = Read (record { spot = record { line = 26; column = 18 }; ty = (Int I32 false); node = Slot 0 }) } ∷ []) }) } ∷ record { spot = record { line = 27; column = 3 }; node = Express (record { spot = record { line = 27; column = 3 }; ty = Nothing; node = Known (Prints (Decimal I32 ∷ Text (10 ∷ []) ∷ [])) (record { spot = record { line = 27; column = 18 }; ty = (Int I32 false); node = Convert (record { spot = record { line = 27; column = 18 }; ty = (Int I16 false); node = Read (record { spot = record { line = 27; column = 18 }; ty = (Int I16 false); node = Slot 1 }) }) } ∷ []) }) } ∷ record { spot = record { line = 28; column = 3 }; node = Express (record { spot = record { line = 28; column = 3 }; ty = Nothing; node = Known (Prints (Decimal U32 ∷ Text (10 ∷ []) ∷ [])) (record { spot = record { line = 28; column = 18 }; ty = (Int U32 false); node = Convert (record { spot = record { line = 28; column = 18 }; ty = (Int U16 false); node = Read (record { spot = record { line = 28; column = 18 }; ty = (Int U16 false); node = Slot 2 }) }) } ∷ []) }) } ∷ record { spot = record { line = 29; column = 3 }; node = Express (record { spot = record { line = 29; column = 3 }; ty = Nothing; node = Known (Prints (Decimal I32 ∷ Text (10 ∷ []) ∷ [])) (record { spot = record { line = 29; column = 18 }; ty = (Int I32 false); node = Convert (record { spot = record { line = 29; column = 18 }; ty = (Int U8 false); node = Read (record { spot = record { line = 29; column = 18 }; ty = (Int U8 false); node = Slot 4 }) }) } ∷ []) }) } ∷ record { spot = record { line = 30; column = 3 }; node = Express (record { spot = record { line = 30; column = 3 }; ty = Nothing; node = Known (Prints (Decimal I32 ∷ Text (10 ∷ []) ∷ [])) (record { spot = record { line = 30; column = 18 }; ty = (Int I32 false); node = Convert (record { spot = record { line = 30; column = 18 }; ty = (Int U8 false); node = Read (record { spot = record { line = 30; column = 18 }; ty = (Int U8 false); node = Slot 5 }) }) } ∷ []) }) } ∷ record { spot = record { line = 31; column = 3 }; node = Express (record { spot = record { line = 31; column = 3 }; ty = Nothing; node = Known (Prints (Decimal I32 ∷ Text (10 ∷ []) ∷ [])) (record { spot = record { line = 31; column = 18 }; ty = (Int I32 false); node = Convert (record { spot = record { line = 31; column = 18 }; ty = (Int U8 false); node = Read (record { spot = record { line = 31; column = 18 }; ty = (Int U8 false); node = Slot 6 }) }) } ∷ []) }) } ∷ record { spot = record { line = 32; column = 3 }; node = Express (record { spot = record { line = 32; column = 3 }; ty = Nothing; node = Known (Prints (Decimal I64 ∷ Text (10 ∷ []) ∷ [])) (record { spot = record { line = 32; column = 20 }; ty = (Int I64 false); node = Read (record { spot = record { line = 32; column = 20 }; ty = (Int I64 false); node = Slot 7 }) } ∷ []) }) } ∷ []) } ∷ [])

abbrev setup : ClearSetup
setup = record { public = ((pos 4294967296) ∷ (pos 63) ∷ []); first = ((negsuc 2147483647) ∷ []); second = ((negsuc 87) ∷ []); dealt = 1048576; budget = 3000 }

clear : Clear structs functions 1 setup [] (Trap Z1 (record { line = 8; column = 3 }))
unfolding digits hidden-the_row-TExpr-0 hidden-the_row-TExpr-1 hidden-the_row-TPlace-2 hidden-the_row-TStmt-0 hidden-the_row-TStmt-1 hidden-the_row-CType-0 hidden
clear = (refl, refl)

left : Left (clear_walk structs functions 1 setup) 2990 1048576
unfolding digits hidden-the_row-TExpr-0 hidden-the_row-TExpr-1 hidden-the_row-TPlace-2 hidden-the_row-TStmt-0 hidden-the_row-TStmt-1 hidden-the_row-CType-0 hidden
left = (refl, refl)

events : Ends (events_walk structs functions 1 (known_of setup) 1048576 [] 3000)
    [] (Trap Z1 (record { line = 8; column = 3 }))
unfolding digits hidden-the_row-TExpr-0 hidden-the_row-TExpr-1 hidden-the_row-TPlace-2 hidden-the_row-TStmt-0 hidden-the_row-TStmt-1 hidden-the_row-CType-0 hidden
events = (refl, refl)
