-- A program whose run ends at a null pointer, after many calls.
-- What its runs show, their events and what they leave were made by an independent model.
use Rattle.std.proofs.Common.{pos, negsuc, List, [], ◌∷◌, Some, None, true, false, refl}
use Rattle.std.specs.Fmt.{digits}
use Rattle.oc_values.specs.declared.integers.IntKind.TheVariants.{Bool as KBool, I8, I16, U16, I32, U32, I64, U64}
use Rattle.oc_values.specs.declared.integers.BinaryOp.TheVariants.{Add, Sub, Mul, Div, Rem, Shl, Shr, And, Or, Xor, Less, LessEq, Greater, NotEqual}
use Rattle.oc_values.specs.declared.integers.OneOp.TheVariants.{Neg, Plus, Not, Flip}
use Rattle.oc_cells.specs.declared.types.CType.{Int, Pointer, Array, Struct, Nothing}
use Rattle.oc_cells.specs.declared.types.StructType.{StructType}
use Rattle.oc_cells.specs.declared.trap.TrapKind.TheVariants.{M3}
use Rattle.oc_typed.specs.declared.typed.TExprNode.{Number, Read, AddressOf, Decay, Unary, Binary, Logic, Choose, Assign, Update, Convert, Call, Builtin as Known}
use Rattle.oc_typed.specs.declared.typed.TExprNode.TheBlock.{hidden-the_row-TExpr-0, hidden-the_row-TExpr-1, hidden-the_row-TPlace-2}
use Rattle.oc_typed.specs.declared.typed.TStmtNode.TheBlock.{hidden-the_row-TStmt-0, hidden-the_row-TStmt-1}
use Rattle.oc_cells.specs.declared.types.CType.TheBlock.{hidden-the_row-CType-0}
use denote.Hole.Carrier.{hidden}
use Rattle.oc_typed.specs.declared.typed.TPlaceNode.{Slot, Deref, Index}
use Rattle.oc_typed.specs.declared.typed.Builtin.TheVariants.{Private, Feed as Feeds, Reveal as Reveals, Give as Gives, PrivateCount, Print as Prints}
use Rattle.oc_typed.specs.declared.typed.PrintPiece.TheVariants.{Text, Decimal}
use Rattle.oc_typed.specs.declared.typed.TForInit.TheVariants.{Declare as ForDeclare}
use Rattle.oc_typed.specs.declared.typed.TStmtNode.{Declare, Express, Block, If, OblivIf, Always, For, Return, Empty}
use Rattle.oc_typed.specs.declared.typed.TypedFunction.{TypedFunction}
use Rattle.oc_walk.specs.declared.run.ShownItem.TheVariants.{Print as Printed, Reveal as Revealed}
use Rattle.oc_walk.specs.declared.run.ClearSetup.{ClearSetup}
use Rattle.oc_walk.specs.declared.run.Outcome.TheVariants.{Trap}
use Rattle.oc_meanings.specs.Clear.{Clear, known_of, clear_walk}
use Rattle.oc_meanings.specs.Events.{Fix, Of, Feed, Op, One, Turn, ShiftBy, Pick, Reveal, Print, events_walk}
use Rattle.sampled_runs.proofs.Small.{Ends, Left}

abbrev structs : List StructType
structs = (record { name = []; fields = (record { name = []; ty = (Int I32 false); offset = 0 } ∷ record { name = []; ty = (Int I32 true); offset = 1 } ∷ []); cells = 2 } ∷ record { name = []; fields = (record { name = []; ty = (Pointer false (Int I32 false)); offset = 0 } ∷ record { name = []; ty = (Int I32 true); offset = 1 } ∷ []); cells = 2 } ∷ record { name = []; fields = (record { name = []; ty = (Int I32 true); offset = 0 } ∷ record { name = []; ty = (Array 2 (Int I32 true)); offset = 1 } ∷ []); cells = 3 } ∷ [])

abbrev functions : List TypedFunction
functions = (record { name = []; result = (Int I32 false); params = 1; slots = (record { ty = (Int I32 false); frozen = false } ∷ []); obliv = false; body = (record { spot = record { line = 7; column = 18 }; node = Return (Some (record { spot = record { line = 7; column = 25 }; ty = (Int I32 false); node = Read (record { spot = record { line = 7; column = 25 }; ty = (Int I32 false); node = Slot 0 }) })) } ∷ []) } ∷ record { name = []; result = Nothing; params = 0; slots = []; obliv = false; body = [] } ∷ record { name = []; result = Nothing; params = 1; slots = (record { ty = (Pointer false (Int I32 false)); frozen = false } ∷ []); obliv = false; body = [] } ∷ record { name = []; result = Nothing; params = 1; slots = (record { ty = (Pointer true (Int I32 false)); frozen = false } ∷ []); obliv = false; body = [] } ∷ record { name = []; result = Nothing; params = 1; slots = (record { ty = (Pointer false (Int I32 false)); frozen = false } ∷ []); obliv = true; body = (record { spot = record { line = 12; column = 27 }; node = Express (record { spot = record { line = 12; column = 27 }; ty = (Int I32 false); node = Assign (record { spot = record { line = 12; column = 27 }; ty = (Int I32 false); node = Deref (record { spot = record { line = 12; column = 28 }; ty = (Pointer false (Int I32 false)); node = Read (record { spot = record { line = 12; column = 28 }; ty = (Pointer false (Int I32 false)); node = Slot 0 }) }) }) (record { spot = record { line = 12; column = 32 }; ty = (Int I32 false); node = Number (pos 1) }) }) } ∷ []) } ∷ record { name = []; result = Nothing; params = 1; slots = (record { ty = (Pointer false (Int I32 true)); frozen = false } ∷ []); obliv = true; body = (record { spot = record { line = 13; column = 34 }; node = Express (record { spot = record { line = 13; column = 34 }; ty = (Int I32 true); node = Assign (record { spot = record { line = 13; column = 34 }; ty = (Int I32 true); node = Deref (record { spot = record { line = 13; column = 35 }; ty = (Pointer false (Int I32 true)); node = Read (record { spot = record { line = 13; column = 35 }; ty = (Pointer false (Int I32 true)); node = Slot 0 }) }) }) (record { spot = record { line = 13; column = 39 }; ty = (Int I32 true); node = Convert (record { spot = record { line = 13; column = 39 }; ty = (Int I32 false); node = Number (pos 1) }) }) }) } ∷ []) } ∷ record { name = []; result = Nothing; params = 1; slots = (record { ty = (Int I32 true); frozen = false } ∷ []); obliv = true; body = (record { spot = record { line = 14; column = 33 }; node = Express (record { spot = record { line = 14; column = 33 }; ty = (Int I32 true); node = Assign (record { spot = record { line = 14; column = 33 }; ty = (Int I32 true); node = Slot 0 }) (record { spot = record { line = 14; column = 37 }; ty = (Int I32 true); node = Convert (record { spot = record { line = 14; column = 37 }; ty = (Int I32 false); node = Number (pos 1) }) }) }) } ∷ []) } ∷ record { name = []; result = (Int I32 false); params = 1; slots = (record { ty = (Int I32 false); frozen = false } ∷ []); obliv = false; body = (record { spot = record { line = 15; column = 17 }; node = Return (Some (record { spot = record { line = 15; column = 24 }; ty = (Int I32 false); node = Number (pos 0) })) } ∷ []) } ∷ record { name = []; result = (Int I32 false); params = 1; slots = (record { ty = (Int I32 false); frozen = false } ∷ []); obliv = false; body = (record { spot = record { line = 16; column = 20 }; node = If (record { spot = record { line = 16; column = 24 }; ty = (Int I32 false); node = Binary LessEq (record { spot = record { line = 16; column = 24 }; ty = (Int I32 false); node = Read (record { spot = record { line = 16; column = 24 }; ty = (Int I32 false); node = Slot 0 }) }) (record { spot = record { line = 16; column = 29 }; ty = (Int I32 false); node = Number (pos 0) }) }) (record { spot = record { line = 16; column = 32 }; node = Return (Some (record { spot = record { line = 16; column = 39 }; ty = (Int I32 false); node = Number (pos 0) })) }) None } ∷ record { spot = record { line = 16; column = 42 }; node = Return (Some (record { spot = record { line = 16; column = 49 }; ty = (Int I32 false); node = Binary Add (record { spot = record { line = 16; column = 49 }; ty = (Int I32 false); node = Number (pos 1) }) (record { spot = record { line = 16; column = 53 }; ty = (Int I32 false); node = Call 8 (record { spot = record { line = 16; column = 59 }; ty = (Int I32 false); node = Binary Sub (record { spot = record { line = 16; column = 59 }; ty = (Int I32 false); node = Read (record { spot = record { line = 16; column = 59 }; ty = (Int I32 false); node = Slot 0 }) }) (record { spot = record { line = 16; column = 63 }; ty = (Int I32 false); node = Number (pos 1) }) } ∷ []) }) })) } ∷ []) } ∷ record { name = []; result = Nothing; params = 1; slots = (record { ty = (Pointer false (Int I32 true)); frozen = false } ∷ []); obliv = true; body = (record { spot = record { line = 17; column = 35 }; node = OblivIf (record { spot = record { line = 17; column = 45 }; ty = (Int KBool true); node = Binary Greater (record { spot = record { line = 17; column = 45 }; ty = (Int I32 true); node = Read (record { spot = record { line = 17; column = 45 }; ty = (Int I32 true); node = Deref (record { spot = record { line = 17; column = 46 }; ty = (Pointer false (Int I32 true)); node = Read (record { spot = record { line = 17; column = 46 }; ty = (Pointer false (Int I32 true)); node = Slot 0 }) }) }) }) (record { spot = record { line = 17; column = 50 }; ty = (Int I32 true); node = Convert (record { spot = record { line = 17; column = 50 }; ty = (Int I32 false); node = Number (pos 4) }) }) }) (record { spot = record { line = 17; column = 53 }; node = Block (record { spot = record { line = 17; column = 55 }; node = Express (record { spot = record { line = 17; column = 55 }; ty = (Int I32 true); node = Assign (record { spot = record { line = 17; column = 55 }; ty = (Int I32 true); node = Deref (record { spot = record { line = 17; column = 56 }; ty = (Pointer false (Int I32 true)); node = Read (record { spot = record { line = 17; column = 56 }; ty = (Pointer false (Int I32 true)); node = Slot 0 }) }) }) (record { spot = record { line = 17; column = 60 }; ty = (Int I32 true); node = Binary Add (record { spot = record { line = 17; column = 60 }; ty = (Int I32 true); node = Read (record { spot = record { line = 17; column = 60 }; ty = (Int I32 true); node = Deref (record { spot = record { line = 17; column = 61 }; ty = (Pointer false (Int I32 true)); node = Read (record { spot = record { line = 17; column = 61 }; ty = (Pointer false (Int I32 true)); node = Slot 0 }) }) }) }) (record { spot = record { line = 17; column = 65 }; ty = (Int I32 true); node = Convert (record { spot = record { line = 17; column = 65 }; ty = (Int I32 false); node = Number (pos 10) }) }) }) }) } ∷ []) }) (Some (record { spot = record { line = 17; column = 76 }; node = Express (record { spot = record { line = 17; column = 76 }; ty = (Int I32 true); node = Assign (record { spot = record { line = 17; column = 76 }; ty = (Int I32 true); node = Deref (record { spot = record { line = 17; column = 77 }; ty = (Pointer false (Int I32 true)); node = Read (record { spot = record { line = 17; column = 77 }; ty = (Pointer false (Int I32 true)); node = Slot 0 }) }) }) (record { spot = record { line = 17; column = 81 }; ty = (Int I32 true); node = Convert (record { spot = record { line = 17; column = 81 }; ty = (Int I32 false); node = Number (pos 0) }) }) }) })) } ∷ []) } ∷ record { name = []; result = (Int U32 false); params = 0; slots = (record { ty = (Int U32 true); frozen = false } ∷ record { ty = (Array 2 (Int U64 true)); frozen = false } ∷ record { ty = (Int U32 true); frozen = false } ∷ []); obliv = false; body = (record { spot = record { line = 20; column = 3 }; node = OblivIf (record { spot = record { line = 20; column = 13 }; ty = (Int KBool true); node = Convert (record { spot = record { line = 20; column = 13 }; ty = (Int I32 false); node = Logic false (record { spot = record { line = 20; column = 13 }; ty = (Int KBool false); node = Convert (record { spot = record { line = 20; column = 13 }; ty = (Int I32 false); node = Number (pos 1) }) }) (record { spot = record { line = 20; column = 21 }; ty = (Int KBool false); node = Convert (record { spot = record { line = 20; column = 21 }; ty = (Int I32 false); node = Binary NotEqual (record { spot = record { line = 20; column = 21 }; ty = (Int I32 false); node = Number (pos 19) }) (record { spot = record { line = 20; column = 27 }; ty = (Int I32 false); node = Number (pos 3) }) }) }) }) }) (record { spot = record { line = 21; column = 3 }; node = Block (record { spot = record { line = 22; column = 5 }; node = Declare (record { spot = record { line = 22; column = 24 }; slot = 0; init = Some (record { spot = record { line = 22; column = 29 }; ty = (Int U32 true); node = Convert (record { spot = record { line = 22; column = 29 }; ty = (Int I32 false); node = Binary Div (record { spot = record { line = 22; column = 30 }; ty = (Int I32 false); node = Logic false (record { spot = record { line = 22; column = 30 }; ty = (Int KBool false); node = Convert (record { spot = record { line = 22; column = 30 }; ty = (Int I32 false); node = Number (pos 18) }) }) (record { spot = record { line = 22; column = 36 }; ty = (Int KBool false); node = Convert (record { spot = record { line = 22; column = 36 }; ty = (Int I32 false); node = Number (pos 16) }) }) }) (record { spot = record { line = 22; column = 43 }; ty = (Int I32 false); node = Binary Add (record { spot = record { line = 22; column = 44 }; ty = (Int I32 false); node = Binary And (record { spot = record { line = 22; column = 44 }; ty = (Int I32 false); node = Number (pos 0) }) (record { spot = record { line = 22; column = 48 }; ty = (Int I32 false); node = Number (pos 7) }) }) (record { spot = record { line = 22; column = 53 }; ty = (Int I32 false); node = Number (pos 1) }) }) }) }) } ∷ []) } ∷ record { spot = record { line = 23; column = 5 }; node = OblivIf (record { spot = record { line = 23; column = 15 }; ty = (Int KBool true); node = Convert (record { spot = record { line = 23; column = 15 }; ty = (Int I32 false); node = Number (pos 11) }) }) (record { spot = record { line = 24; column = 5 }; node = Block (record { spot = record { line = 25; column = 7 }; node = Declare (record { spot = record { line = 25; column = 31 }; slot = 1; init = None } ∷ []) } ∷ []) }) None } ∷ record { spot = record { line = 27; column = 5 }; node = Express (record { spot = record { line = 27; column = 5 }; ty = (Int U32 true); node = Update And (record { spot = record { line = 27; column = 5 }; ty = (Int U32 true); node = Slot 0 }) (record { spot = record { line = 27; column = 11 }; ty = (Int U32 true); node = Binary Sub (record { spot = record { line = 27; column = 11 }; ty = (Int U32 true); node = Read (record { spot = record { line = 27; column = 11 }; ty = (Int U32 true); node = Slot 0 }) }) (record { spot = record { line = 27; column = 17 }; ty = (Int U32 true); node = Convert (record { spot = record { line = 27; column = 17 }; ty = (Int KBool true); node = Logic false (record { spot = record { line = 27; column = 17 }; ty = (Int KBool true); node = Convert (record { spot = record { line = 27; column = 17 }; ty = (Int U32 true); node = Read (record { spot = record { line = 27; column = 17 }; ty = (Int U32 true); node = Slot 0 }) }) }) (record { spot = record { line = 27; column = 23 }; ty = (Int KBool true); node = Convert (record { spot = record { line = 27; column = 23 }; ty = (Int U32 true); node = Read (record { spot = record { line = 27; column = 23 }; ty = (Int U32 true); node = Slot 0 }) }) }) }) }) }) false }) } ∷ []) }) (Some (record { spot = record { line = 30; column = 3 }; node = Block (record { spot = record { line = 31; column = 5 }; node = Declare (record { spot = record { line = 31; column = 20 }; slot = 2; init = None } ∷ []) } ∷ []) })) } ∷ record { spot = record { line = 33; column = 3 }; node = Return (Some (record { spot = record { line = 33; column = 10 }; ty = (Int U32 false); node = Convert (record { spot = record { line = 33; column = 10 }; ty = (Int I32 false); node = Binary LessEq (record { spot = record { line = 33; column = 10 }; ty = (Int I32 false); node = Number (pos 11) }) (record { spot = record { line = 33; column = 16 }; ty = (Int I32 false); node = Number (pos 1) }) }) })) } ∷ []) } ∷ record { name = []; result = (Int U64 true); params = 0; slots = (record { ty = (Int U16 true); frozen = false } ∷ record { ty = (Int I32 false); frozen = false } ∷ record { ty = (Int I64 true); frozen = false } ∷ record { ty = (Int I8 false); frozen = false } ∷ record { ty = (Int I64 true); frozen = false } ∷ []); obliv = false; body = (record { spot = record { line = 36; column = 3 }; node = Declare (record { spot = record { line = 36; column = 28 }; slot = 0; init = Some (record { spot = record { line = 36; column = 33 }; ty = (Int U16 true); node = Convert (record { spot = record { line = 36; column = 33 }; ty = (Int I32 false); node = Number (pos 65536) }) }) } ∷ []) } ∷ record { spot = record { line = 37; column = 3 }; node = For (ForDeclare (record { spot = record { line = 37; column = 12 }; slot = 1; init = Some (record { spot = record { line = 37; column = 17 }; ty = (Int I32 false); node = Number (pos 0) }) } ∷ [])) (Some (record { spot = record { line = 37; column = 20 }; ty = (Int I32 false); node = Binary Less (record { spot = record { line = 37; column = 20 }; ty = (Int I32 false); node = Read (record { spot = record { line = 37; column = 20 }; ty = (Int I32 false); node = Slot 1 }) }) (record { spot = record { line = 37; column = 25 }; ty = (Int I32 false); node = Number (pos 1) }) })) (Some (record { spot = record { line = 37; column = 28 }; ty = (Int I32 false); node = Update Add (record { spot = record { line = 37; column = 28 }; ty = (Int I32 false); node = Slot 1 }) (record { spot = record { line = 37; column = 28 }; ty = (Int I32 false); node = Number (pos 1) }) true })) (record { spot = record { line = 38; column = 3 }; node = Block (record { spot = record { line = 39; column = 5 }; node = Declare (record { spot = record { line = 39; column = 20 }; slot = 2; init = None } ∷ []) } ∷ record { spot = record { line = 40; column = 5 }; node = Express (record { spot = record { line = 40; column = 5 }; ty = (Int I64 true); node = Update Rem (record { spot = record { line = 40; column = 5 }; ty = (Int I64 true); node = Slot 2 }) (record { spot = record { line = 40; column = 11 }; ty = (Int I64 true); node = Binary Add (record { spot = record { line = 40; column = 12 }; ty = (Int I64 true); node = Binary And (record { spot = record { line = 40; column = 13 }; ty = (Int I64 true); node = Read (record { spot = record { line = 40; column = 13 }; ty = (Int I64 true); node = Slot 2 }) }) (record { spot = record { line = 40; column = 19 }; ty = (Int I64 true); node = Convert (record { spot = record { line = 40; column = 19 }; ty = (Int I32 false); node = Number (pos 7) }) }) }) (record { spot = record { line = 40; column = 24 }; ty = (Int I64 true); node = Convert (record { spot = record { line = 40; column = 24 }; ty = (Int I32 false); node = Number (pos 1) }) }) }) false }) } ∷ []) }) } ∷ record { spot = record { line = 42; column = 3 }; node = Declare (record { spot = record { line = 42; column = 8 }; slot = 3; init = Some (record { spot = record { line = 42; column = 13 }; ty = (Int I8 false); node = Convert (record { spot = record { line = 42; column = 13 }; ty = (Int I32 false); node = Binary Less (record { spot = record { line = 42; column = 13 }; ty = (Int I64 false); node = Binary Add (record { spot = record { line = 42; column = 13 }; ty = (Int I64 false); node = Convert (record { spot = record { line = 42; column = 13 }; ty = (Int I32 false); node = Number (pos 32768) }) }) (record { spot = record { line = 42; column = 22 }; ty = (Int I64 false); node = Number (pos 9223372036854775807) }) }) (record { spot = record { line = 42; column = 44 }; ty = (Int I64 false); node = Convert (record { spot = record { line = 42; column = 44 }; ty = (Int I32 false); node = Number (pos 0) }) }) }) }) } ∷ []) } ∷ record { spot = record { line = 43; column = 3 }; node = Declare (record { spot = record { line = 43; column = 19 }; slot = 4; init = Some (record { spot = record { line = 43; column = 25 }; ty = (Int I64 true); node = Convert (record { spot = record { line = 43; column = 25 }; ty = (Int I32 false); node = Binary Greater (record { spot = record { line = 43; column = 27 }; ty = (Int I32 false); node = Convert (record { spot = record { line = 43; column = 27 }; ty = (Int I8 false); node = Assign (record { spot = record { line = 43; column = 27 }; ty = (Int I8 false); node = Slot 3 }) (record { spot = record { line = 43; column = 32 }; ty = (Int I8 false); node = Read (record { spot = record { line = 43; column = 32 }; ty = (Int I8 false); node = Slot 3 }) }) }) }) (record { spot = record { line = 43; column = 39 }; ty = (Int I32 false); node = Number (pos 2) }) }) }) } ∷ []) } ∷ record { spot = record { line = 44; column = 3 }; node = Return (Some (record { spot = record { line = 44; column = 10 }; ty = (Int U64 true); node = Convert (record { spot = record { line = 44; column = 10 }; ty = (Int I64 true); node = Read (record { spot = record { line = 44; column = 10 }; ty = (Int I64 true); node = Slot 4 }) }) })) } ∷ []) } ∷ record { name = []; result = Nothing; params = 3; slots = (record { ty = (Pointer false (Int I32 false)); frozen = false } ∷ record { ty = (Int U64 true); frozen = false } ∷ record { ty = (Int I64 true); frozen = false } ∷ []); obliv = true; body = (record { spot = record { line = 47; column = 3 }; node = Express (record { spot = record { line = 47; column = 3 }; ty = (Int U64 true); node = Assign (record { spot = record { line = 47; column = 3 }; ty = (Int U64 true); node = Slot 1 }) (record { spot = record { line = 47; column = 9 }; ty = (Int U64 true); node = Binary Sub (record { spot = record { line = 47; column = 10 }; ty = (Int U64 true); node = Convert (record { spot = record { line = 47; column = 10 }; ty = (Int I64 true); node = Convert (record { spot = record { line = 47; column = 34 }; ty = (Int I32 false); node = Number (pos 3) }) }) }) (record { spot = record { line = 47; column = 39 }; ty = (Int U64 true); node = Read (record { spot = record { line = 47; column = 39 }; ty = (Int U64 true); node = Slot 1 }) }) }) }) } ∷ []) } ∷ record { name = []; result = Nothing; params = 0; slots = (record { ty = (Int I16 true); frozen = false } ∷ record { ty = (Int KBool true); frozen = false } ∷ record { ty = (Int I16 true); frozen = false } ∷ record { ty = (Array 1 (Int I64 false)); frozen = false } ∷ record { ty = (Array 2 (Int I32 true)); frozen = false } ∷ record { ty = (Int I8 false); frozen = false } ∷ record { ty = (Int I8 false); frozen = false } ∷ record { ty = (Int I16 true); frozen = true } ∷ record { ty = (Int I32 false); frozen = false } ∷ record { ty = (Int I32 false); frozen = false } ∷ record { ty = (Int I64 false); frozen = false } ∷ record { ty = (Array 1 (Int I8 false)); frozen = false } ∷ record { ty = (Int I64 true); frozen = false } ∷ record { ty = (Int I32 true); frozen = false } ∷ record { ty = (Int I32 true); frozen = false } ∷ record { ty = (Pointer false (Struct 0)); frozen = false } ∷ record { ty = (Struct 0); frozen = false } ∷ record { ty = (Int KBool true); frozen = false } ∷ record { ty = (Int I32 false); frozen = false } ∷ record { ty = (Int I64 false); frozen = false } ∷ record { ty = (Int I16 false); frozen = false } ∷ record { ty = (Int KBool false); frozen = false } ∷ record { ty = (Int I16 false); frozen = false } ∷ record { ty = (Int I64 false); frozen = false } ∷ []); obliv = false; body = (record { spot = record { line = 50; column = 3 }; node = Declare (record { spot = record { line = 50; column = 22 }; slot = 0; init = Some (record { spot = record { line = 50; column = 28 }; ty = (Int I16 true); node = Known (Feeds I16 2) (record { spot = record { line = 50; column = 43 }; ty = (Int I32 false); node = Known Private (record { spot = record { line = 50; column = 53 }; ty = (Int I32 false); node = Number (pos 0) } ∷ []) } ∷ []) }) } ∷ []) } ∷ record { spot = record { line = 51; column = 3 }; node = Declare (record { spot = record { line = 51; column = 14 }; slot = 1; init = Some (record { spot = record { line = 51; column = 20 }; ty = (Int KBool true); node = Known (Feeds KBool 2) (record { spot = record { line = 51; column = 34 }; ty = (Int I32 false); node = Known Private (record { spot = record { line = 51; column = 44 }; ty = (Int I32 false); node = Number (pos 2) } ∷ []) } ∷ []) }) } ∷ []) } ∷ record { spot = record { line = 52; column = 3 }; node = Declare (record { spot = record { line = 52; column = 19 }; slot = 2; init = Some (record { spot = record { line = 52; column = 25 }; ty = (Int I16 true); node = Known (Feeds I16 2) (record { spot = record { line = 52; column = 40 }; ty = (Int I32 false); node = Known Private (record { spot = record { line = 52; column = 50 }; ty = (Int I32 false); node = Number (pos 0) } ∷ []) } ∷ []) }) } ∷ []) } ∷ record { spot = record { line = 53; column = 3 }; node = Declare (record { spot = record { line = 53; column = 8 }; slot = 3; init = None } ∷ []) } ∷ record { spot = record { line = 54; column = 3 }; node = If (record { spot = record { line = 54; column = 7 }; ty = (Int I64 false); node = Binary Div (record { spot = record { line = 54; column = 8 }; ty = (Int I64 false); node = Binary Shl (record { spot = record { line = 54; column = 8 }; ty = (Int I64 false); node = Read (record { spot = record { line = 54; column = 8 }; ty = (Int I64 false); node = Index (record { spot = record { line = 54; column = 8 }; ty = (Pointer false (Int I64 false)); node = Decay (record { spot = record { line = 54; column = 8 }; ty = (Array 1 (Int I64 false)); node = Slot 3 }) }) (record { spot = record { line = 54; column = 12 }; ty = (Int I32 false); node = Number (pos 0) }) }) }) (record { spot = record { line = 54; column = 19 }; ty = (Int I64 false); node = Read (record { spot = record { line = 54; column = 19 }; ty = (Int I64 false); node = Index (record { spot = record { line = 54; column = 19 }; ty = (Pointer false (Int I64 false)); node = Decay (record { spot = record { line = 54; column = 19 }; ty = (Array 1 (Int I64 false)); node = Slot 3 }) }) (record { spot = record { line = 54; column = 23 }; ty = (Int I32 false); node = Number (pos 0) }) }) }) }) (record { spot = record { line = 54; column = 31 }; ty = (Int I64 false); node = Convert (record { spot = record { line = 54; column = 31 }; ty = (Int I32 false); node = Binary Add (record { spot = record { line = 54; column = 32 }; ty = (Int I32 false); node = Logic true (record { spot = record { line = 54; column = 32 }; ty = (Int KBool false); node = Convert (record { spot = record { line = 54; column = 32 }; ty = (Int I64 false); node = Read (record { spot = record { line = 54; column = 32 }; ty = (Int I64 false); node = Index (record { spot = record { line = 54; column = 32 }; ty = (Pointer false (Int I64 false)); node = Decay (record { spot = record { line = 54; column = 32 }; ty = (Array 1 (Int I64 false)); node = Slot 3 }) }) (record { spot = record { line = 54; column = 36 }; ty = (Int I32 false); node = Number (pos 0) }) }) }) }) (record { spot = record { line = 54; column = 42 }; ty = (Int KBool false); node = Convert (record { spot = record { line = 54; column = 42 }; ty = (Int I32 false); node = Binary And (record { spot = record { line = 54; column = 42 }; ty = (Int I32 false); node = Number (pos 3) }) (record { spot = record { line = 54; column = 46 }; ty = (Int I32 false); node = Number (pos 7) }) }) }) }) (record { spot = record { line = 54; column = 51 }; ty = (Int I32 false); node = Number (pos 1) }) }) }) }) (record { spot = record { line = 55; column = 3 }; node = Block (record { spot = record { line = 56; column = 5 }; node = Express (record { spot = record { line = 56; column = 5 }; ty = (Int KBool true); node = Update Add (record { spot = record { line = 56; column = 5 }; ty = (Int KBool true); node = Slot 1 }) (record { spot = record { line = 56; column = 12 }; ty = (Int I32 true); node = Convert (record { spot = record { line = 56; column = 12 }; ty = (Int I32 false); node = Known (PrivateCount 2) [] }) }) false }) } ∷ record { spot = record { line = 57; column = 5 }; node = Express (record { spot = record { line = 57; column = 5 }; ty = (Int I16 true); node = Assign (record { spot = record { line = 57; column = 5 }; ty = (Int I16 true); node = Slot 0 }) (record { spot = record { line = 57; column = 11 }; ty = (Int I16 true); node = Convert (record { spot = record { line = 57; column = 11 }; ty = (Int KBool true); node = Read (record { spot = record { line = 57; column = 11 }; ty = (Int KBool true); node = Slot 1 }) }) }) }) } ∷ record { spot = record { line = 58; column = 5 }; node = OblivIf (record { spot = record { line = 58; column = 15 }; ty = (Int KBool true); node = Convert (record { spot = record { line = 58; column = 15 }; ty = (Int I64 false); node = Read (record { spot = record { line = 58; column = 15 }; ty = (Int I64 false); node = Index (record { spot = record { line = 58; column = 15 }; ty = (Pointer false (Int I64 false)); node = Decay (record { spot = record { line = 58; column = 15 }; ty = (Array 1 (Int I64 false)); node = Slot 3 }) }) (record { spot = record { line = 58; column = 19 }; ty = (Int I32 false); node = Number (pos 0) }) }) }) }) (record { spot = record { line = 59; column = 5 }; node = Block (record { spot = record { line = 60; column = 7 }; node = OblivIf (record { spot = record { line = 60; column = 17 }; ty = (Int KBool true); node = Convert (record { spot = record { line = 60; column = 17 }; ty = (Int I32 false); node = Binary Xor (record { spot = record { line = 60; column = 18 }; ty = (Int I32 false); node = Unary Neg (record { spot = record { line = 60; column = 19 }; ty = (Int I32 false); node = Number (pos 15) }) }) (record { spot = record { line = 60; column = 26 }; ty = (Int I32 false); node = Number (pos 34) }) }) }) (record { spot = record { line = 61; column = 7 }; node = Block (record { spot = record { line = 62; column = 9 }; node = Express (record { spot = record { line = 62; column = 9 }; ty = (Int I16 true); node = Assign (record { spot = record { line = 62; column = 9 }; ty = (Int I16 true); node = Slot 0 }) (record { spot = record { line = 62; column = 15 }; ty = (Int I16 true); node = Convert (record { spot = record { line = 62; column = 15 }; ty = (Int KBool true); node = Read (record { spot = record { line = 62; column = 15 }; ty = (Int KBool true); node = Slot 1 }) }) }) }) } ∷ record { spot = record { line = 63; column = 9 }; node = Express (record { spot = record { line = 63; column = 9 }; ty = (Int I16 true); node = Update Add (record { spot = record { line = 63; column = 11 }; ty = (Int I16 true); node = Slot 0 }) (record { spot = record { line = 63; column = 9 }; ty = (Int I32 true); node = Convert (record { spot = record { line = 63; column = 9 }; ty = (Int I32 false); node = Number (pos 1) }) }) false }) } ∷ []) }) (Some (record { spot = record { line = 66; column = 7 }; node = Block (record { spot = record { line = 67; column = 9 }; node = OblivIf (record { spot = record { line = 67; column = 19 }; ty = (Int KBool true); node = Binary NotEqual (record { spot = record { line = 67; column = 20 }; ty = (Int I32 true); node = Binary Add (record { spot = record { line = 67; column = 20 }; ty = (Int I32 true); node = Convert (record { spot = record { line = 67; column = 20 }; ty = (Int I16 true); node = Read (record { spot = record { line = 67; column = 20 }; ty = (Int I16 true); node = Slot 0 }) }) }) (record { spot = record { line = 67; column = 26 }; ty = (Int I32 true); node = Convert (record { spot = record { line = 67; column = 26 }; ty = (Int KBool true); node = Read (record { spot = record { line = 67; column = 26 }; ty = (Int KBool true); node = Slot 1 }) }) }) }) (record { spot = record { line = 67; column = 35 }; ty = (Int I32 true); node = Convert (record { spot = record { line = 67; column = 35 }; ty = (Int KBool true); node = Binary NotEqual (record { spot = record { line = 67; column = 35 }; ty = (Int I64 true); node = Convert (record { spot = record { line = 67; column = 35 }; ty = (Int I64 false); node = Read (record { spot = record { line = 67; column = 35 }; ty = (Int I64 false); node = Index (record { spot = record { line = 67; column = 35 }; ty = (Pointer false (Int I64 false)); node = Decay (record { spot = record { line = 67; column = 35 }; ty = (Array 1 (Int I64 false)); node = Slot 3 }) }) (record { spot = record { line = 67; column = 39 }; ty = (Int I32 false); node = Number (pos 0) }) }) }) }) (record { spot = record { line = 67; column = 45 }; ty = (Int I64 true); node = Convert (record { spot = record { line = 67; column = 45 }; ty = (Int I16 true); node = Read (record { spot = record { line = 67; column = 45 }; ty = (Int I16 true); node = Slot 0 }) }) }) }) }) }) (record { spot = record { line = 68; column = 9 }; node = Block (record { spot = record { line = 69; column = 11 }; node = Declare (record { spot = record { line = 69; column = 21 }; slot = 4; init = None } ∷ []) } ∷ record { spot = record { line = 70; column = 11 }; node = Express (record { spot = record { line = 70; column = 11 }; ty = (Int I16 true); node = Assign (record { spot = record { line = 70; column = 11 }; ty = (Int I16 true); node = Slot 2 }) (record { spot = record { line = 70; column = 17 }; ty = (Int I16 true); node = Convert (record { spot = record { line = 70; column = 17 }; ty = (Int I64 true); node = Unary Plus (record { spot = record { line = 70; column = 19 }; ty = (Int I64 true); node = Binary Add (record { spot = record { line = 70; column = 21 }; ty = (Int I64 true); node = Convert (record { spot = record { line = 70; column = 21 }; ty = (Int I64 false); node = Choose (record { spot = record { line = 70; column = 21 }; ty = (Int I64 false); node = Read (record { spot = record { line = 70; column = 21 }; ty = (Int I64 false); node = Index (record { spot = record { line = 70; column = 21 }; ty = (Pointer false (Int I64 false)); node = Decay (record { spot = record { line = 70; column = 21 }; ty = (Array 1 (Int I64 false)); node = Slot 3 }) }) (record { spot = record { line = 70; column = 25 }; ty = (Int I32 false); node = Number (pos 0) }) }) }) (record { spot = record { line = 70; column = 30 }; ty = (Int I64 false); node = Number (pos 9223372036854775807) }) (record { spot = record { line = 70; column = 55 }; ty = (Int I64 false); node = Convert (record { spot = record { line = 70; column = 55 }; ty = (Int I32 false); node = Number (pos 2) }) }) }) }) (record { spot = record { line = 70; column = 62 }; ty = (Int I64 true); node = Convert (record { spot = record { line = 70; column = 62 }; ty = (Int I32 true); node = Binary Rem (record { spot = record { line = 70; column = 62 }; ty = (Int I32 true); node = Convert (record { spot = record { line = 70; column = 62 }; ty = (Int KBool true); node = Read (record { spot = record { line = 70; column = 62 }; ty = (Int KBool true); node = Slot 1 }) }) }) (record { spot = record { line = 70; column = 68 }; ty = (Int I32 true); node = Read (record { spot = record { line = 70; column = 68 }; ty = (Int I32 true); node = Index (record { spot = record { line = 70; column = 68 }; ty = (Pointer false (Int I32 true)); node = Decay (record { spot = record { line = 70; column = 68 }; ty = (Array 2 (Int I32 true)); node = Slot 4 }) }) (record { spot = record { line = 70; column = 72 }; ty = (Int I32 false); node = Number (pos 1) }) }) }) }) }) }) }) }) }) } ∷ []) }) (Some (record { spot = record { line = 73; column = 9 }; node = Block (record { spot = record { line = 74; column = 11 }; node = Declare (record { spot = record { line = 74; column = 23 }; slot = 5; init = None } ∷ record { spot = record { line = 74; column = 28 }; slot = 6; init = Some (record { spot = record { line = 74; column = 34 }; ty = (Int I8 false); node = Convert (record { spot = record { line = 74; column = 34 }; ty = (Int I32 false); node = Unary Not (record { spot = record { line = 74; column = 36 }; ty = (Int KBool false); node = Convert (record { spot = record { line = 74; column = 36 }; ty = (Int I32 false); node = Logic false (record { spot = record { line = 74; column = 36 }; ty = (Int KBool false); node = Convert (record { spot = record { line = 74; column = 36 }; ty = (Int I64 false); node = Read (record { spot = record { line = 74; column = 36 }; ty = (Int I64 false); node = Index (record { spot = record { line = 74; column = 36 }; ty = (Pointer false (Int I64 false)); node = Decay (record { spot = record { line = 74; column = 36 }; ty = (Array 1 (Int I64 false)); node = Slot 3 }) }) (record { spot = record { line = 74; column = 40 }; ty = (Int I32 false); node = Number (pos 0) }) }) }) }) (record { spot = record { line = 74; column = 46 }; ty = (Int KBool false); node = Convert (record { spot = record { line = 74; column = 46 }; ty = (Int I64 false); node = Read (record { spot = record { line = 74; column = 46 }; ty = (Int I64 false); node = Index (record { spot = record { line = 74; column = 46 }; ty = (Pointer false (Int I64 false)); node = Decay (record { spot = record { line = 74; column = 46 }; ty = (Array 1 (Int I64 false)); node = Slot 3 }) }) (record { spot = record { line = 74; column = 50 }; ty = (Int I32 false); node = Number (pos 0) }) }) }) }) }) }) }) }) } ∷ []) } ∷ record { spot = record { line = 75; column = 11 }; node = Empty } ∷ []) })) } ∷ []) })) } ∷ record { spot = record { line = 78; column = 7 }; node = Declare (record { spot = record { line = 78; column = 30 }; slot = 7; init = Some (record { spot = record { line = 78; column = 36 }; ty = (Int I16 true); node = Convert (record { spot = record { line = 78; column = 36 }; ty = (Int I64 true); node = Binary Div (record { spot = record { line = 78; column = 38 }; ty = (Int I64 true); node = Convert (record { spot = record { line = 78; column = 38 }; ty = (Int I32 true); node = Choose (record { spot = record { line = 78; column = 38 }; ty = (Int I64 false); node = Read (record { spot = record { line = 78; column = 38 }; ty = (Int I64 false); node = Index (record { spot = record { line = 78; column = 38 }; ty = (Pointer false (Int I64 false)); node = Decay (record { spot = record { line = 78; column = 38 }; ty = (Array 1 (Int I64 false)); node = Slot 3 }) }) (record { spot = record { line = 78; column = 42 }; ty = (Int I32 false); node = Number (pos 0) }) }) }) (record { spot = record { line = 78; column = 47 }; ty = (Int I32 true); node = Convert (record { spot = record { line = 78; column = 47 }; ty = (Int I16 true); node = Read (record { spot = record { line = 78; column = 47 }; ty = (Int I16 true); node = Slot 0 }) }) }) (record { spot = record { line = 78; column = 53 }; ty = (Int I32 true); node = Convert (record { spot = record { line = 78; column = 53 }; ty = (Int I32 false); node = Number (pos 31) }) }) }) }) (record { spot = record { line = 78; column = 62 }; ty = (Int I64 true); node = Convert (record { spot = record { line = 78; column = 62 }; ty = (Int I64 false); node = Binary Add (record { spot = record { line = 78; column = 63 }; ty = (Int I64 false); node = Binary Or (record { spot = record { line = 78; column = 63 }; ty = (Int I64 false); node = Read (record { spot = record { line = 78; column = 63 }; ty = (Int I64 false); node = Index (record { spot = record { line = 78; column = 63 }; ty = (Pointer false (Int I64 false)); node = Decay (record { spot = record { line = 78; column = 63 }; ty = (Array 1 (Int I64 false)); node = Slot 3 }) }) (record { spot = record { line = 78; column = 67 }; ty = (Int I32 false); node = Number (pos 0) }) }) }) (record { spot = record { line = 78; column = 72 }; ty = (Int I64 false); node = Binary And (record { spot = record { line = 78; column = 72 }; ty = (Int I64 false); node = Read (record { spot = record { line = 78; column = 72 }; ty = (Int I64 false); node = Index (record { spot = record { line = 78; column = 72 }; ty = (Pointer false (Int I64 false)); node = Decay (record { spot = record { line = 78; column = 72 }; ty = (Array 1 (Int I64 false)); node = Slot 3 }) }) (record { spot = record { line = 78; column = 76 }; ty = (Int I32 false); node = Number (pos 0) }) }) }) (record { spot = record { line = 78; column = 81 }; ty = (Int I64 false); node = Convert (record { spot = record { line = 78; column = 81 }; ty = (Int I32 false); node = Number (pos 7) }) }) }) }) (record { spot = record { line = 78; column = 86 }; ty = (Int I64 false); node = Convert (record { spot = record { line = 78; column = 86 }; ty = (Int U32 false); node = Number (pos 1) }) }) }) }) }) }) } ∷ []) } ∷ []) }) (Some (record { spot = record { line = 81; column = 5 }; node = Block (record { spot = record { line = 82; column = 7 }; node = Express (record { spot = record { line = 82; column = 7 }; ty = (Int I16 true); node = Update Mul (record { spot = record { line = 82; column = 7 }; ty = (Int I16 true); node = Slot 2 }) (record { spot = record { line = 82; column = 14 }; ty = (Int I32 true); node = Binary Add (record { spot = record { line = 82; column = 15 }; ty = (Int I32 true); node = Convert (record { spot = record { line = 82; column = 15 }; ty = (Int KBool true); node = Binary LessEq (record { spot = record { line = 82; column = 15 }; ty = (Int I32 true); node = Convert (record { spot = record { line = 82; column = 15 }; ty = (Int KBool true); node = Read (record { spot = record { line = 82; column = 15 }; ty = (Int KBool true); node = Slot 1 }) }) }) (record { spot = record { line = 82; column = 22 }; ty = (Int I32 true); node = Convert (record { spot = record { line = 82; column = 22 }; ty = (Int I32 false); node = Number (pos 64) }) }) }) }) (record { spot = record { line = 82; column = 30 }; ty = (Int I32 true); node = Convert (record { spot = record { line = 82; column = 30 }; ty = (Int I16 true); node = Read (record { spot = record { line = 82; column = 30 }; ty = (Int I16 true); node = Slot 0 }) }) }) }) false }) } ∷ []) })) } ∷ []) }) None } ∷ record { spot = record { line = 85; column = 3 }; node = Express (record { spot = record { line = 85; column = 3 }; ty = (Int I16 true); node = Assign (record { spot = record { line = 85; column = 3 }; ty = (Int I16 true); node = Slot 0 }) (record { spot = record { line = 85; column = 9 }; ty = (Int I16 true); node = Convert (record { spot = record { line = 85; column = 9 }; ty = (Int I32 false); node = Number (pos 17) }) }) }) } ∷ record { spot = record { line = 86; column = 3 }; node = Declare (record { spot = record { line = 86; column = 10 }; slot = 8; init = None } ∷ []) } ∷ record { spot = record { line = 87; column = 3 }; node = Express (record { spot = record { line = 87; column = 3 }; ty = Nothing; node = Known (Reveals I32) (record { spot = record { line = 87; column = 18 }; ty = (Pointer false (Int I32 false)); node = Convert (record { spot = record { line = 87; column = 18 }; ty = (Pointer false (Int I32 false)); node = AddressOf (record { spot = record { line = 87; column = 19 }; ty = (Int I32 false); node = Slot 8 }) }) } ∷ record { spot = record { line = 87; column = 24 }; ty = (Int I32 true); node = Binary Shl (record { spot = record { line = 87; column = 26 }; ty = (Int I32 true); node = Choose (record { spot = record { line = 87; column = 26 }; ty = (Int I64 false); node = Read (record { spot = record { line = 87; column = 26 }; ty = (Int I64 false); node = Index (record { spot = record { line = 87; column = 26 }; ty = (Pointer false (Int I64 false)); node = Decay (record { spot = record { line = 87; column = 26 }; ty = (Array 1 (Int I64 false)); node = Slot 3 }) }) (record { spot = record { line = 87; column = 30 }; ty = (Int I32 false); node = Number (pos 0) }) }) }) (record { spot = record { line = 87; column = 35 }; ty = (Int I32 true); node = Convert (record { spot = record { line = 87; column = 35 }; ty = (Int KBool true); node = Read (record { spot = record { line = 87; column = 35 }; ty = (Int KBool true); node = Slot 1 }) }) }) (record { spot = record { line = 87; column = 41 }; ty = (Int I32 true); node = Convert (record { spot = record { line = 87; column = 41 }; ty = (Int I16 true); node = Read (record { spot = record { line = 87; column = 41 }; ty = (Int I16 true); node = Slot 0 }) }) }) }) (record { spot = record { line = 87; column = 51 }; ty = (Int I64 false); node = Read (record { spot = record { line = 87; column = 51 }; ty = (Int I64 false); node = Index (record { spot = record { line = 87; column = 51 }; ty = (Pointer false (Int I64 false)); node = Decay (record { spot = record { line = 87; column = 51 }; ty = (Array 1 (Int I64 false)); node = Slot 3 }) }) (record { spot = record { line = 87; column = 55 }; ty = (Int I32 false); node = Number (pos 0) }) }) }) } ∷ []) }) } ∷ record { spot = record { line = 88; column = 3 }; node = Express (record { spot = record { line = 88; column = 3 }; ty = Nothing; node = Known (Prints (Decimal I32 ∷ Text (10 ∷ []) ∷ [])) (record { spot = record { line = 88; column = 18 }; ty = (Int I32 false); node = Read (record { spot = record { line = 88; column = 18 }; ty = (Int I32 false); node = Slot 8 }) } ∷ []) }) } ∷ record { spot = record { line = 89; column = 1 }; node = Block (record { spot = record { line = 89; column = 3 }; node = Declare (record { spot = record { line = 89; column = 7 }; slot = 9; init = Some (record { spot = record { line = 89; column = 11 }; ty = (Int I32 false); node = Binary Add (record { spot = record { line = 89; column = 11 }; ty = (Int I32 false); node = Number (pos 1) }) (record { spot = record { line = 89; column = 15 }; ty = (Int I32 false); node = Binary Mul (record { spot = record { line = 89; column = 15 }; ty = (Int I32 false); node = Call 8 (record { spot = record { line = 89; column = 21 }; ty = (Int I32 false); node = Number (pos 330) } ∷ []) }) (record { spot = record { line = 89; column = 28 }; ty = (Int I32 false); node = Number (pos 2) }) }) }) } ∷ []) } ∷ []) } ∷ record { spot = record { line = 90; column = 3 }; node = Express (record { spot = record { line = 90; column = 3 }; ty = (Int I16 true); node = Update Rem (record { spot = record { line = 90; column = 3 }; ty = (Int I16 true); node = Slot 2 }) (record { spot = record { line = 90; column = 10 }; ty = (Int I32 true); node = Binary Add (record { spot = record { line = 90; column = 11 }; ty = (Int I32 true); node = Binary And (record { spot = record { line = 90; column = 12 }; ty = (Int I32 true); node = Convert (record { spot = record { line = 90; column = 12 }; ty = (Int KBool true); node = Logic false (record { spot = record { line = 90; column = 14 }; ty = (Int KBool true); node = Convert (record { spot = record { line = 90; column = 14 }; ty = (Int I16 true); node = Update Add (record { spot = record { line = 90; column = 16 }; ty = (Int I16 true); node = Slot 0 }) (record { spot = record { line = 90; column = 14 }; ty = (Int I32 true); node = Convert (record { spot = record { line = 90; column = 14 }; ty = (Int I32 false); node = Number (pos 1) }) }) false }) }) (record { spot = record { line = 90; column = 26 }; ty = (Int KBool true); node = Convert (record { spot = record { line = 90; column = 26 }; ty = (Int I32 false); node = Binary Add (record { spot = record { line = 90; column = 26 }; ty = (Int I32 false); node = Number (pos 0) }) (record { spot = record { line = 90; column = 30 }; ty = (Int I32 false); node = Read (record { spot = record { line = 90; column = 30 }; ty = (Int I32 false); node = Slot 8 }) }) }) }) }) }) (record { spot = record { line = 90; column = 38 }; ty = (Int I32 true); node = Convert (record { spot = record { line = 90; column = 38 }; ty = (Int I32 false); node = Number (pos 7) }) }) }) (record { spot = record { line = 90; column = 43 }; ty = (Int I32 true); node = Convert (record { spot = record { line = 90; column = 43 }; ty = (Int I32 false); node = Number (pos 1) }) }) }) false }) } ∷ record { spot = record { line = 91; column = 3 }; node = Declare (record { spot = record { line = 91; column = 8 }; slot = 10; init = None } ∷ []) } ∷ record { spot = record { line = 92; column = 3 }; node = Express (record { spot = record { line = 92; column = 3 }; ty = Nothing; node = Known (Reveals I64) (record { spot = record { line = 92; column = 20 }; ty = (Pointer false (Int I64 false)); node = Convert (record { spot = record { line = 92; column = 20 }; ty = (Pointer false (Int I64 false)); node = AddressOf (record { spot = record { line = 92; column = 21 }; ty = (Int I64 false); node = Slot 10 }) }) } ∷ record { spot = record { line = 92; column = 26 }; ty = (Int I64 true); node = Convert (record { spot = record { line = 92; column = 26 }; ty = (Int U32 true); node = Convert (record { spot = record { line = 92; column = 43 }; ty = (Int I32 true); node = Binary Add (record { spot = record { line = 92; column = 43 }; ty = (Int I32 true); node = Convert (record { spot = record { line = 92; column = 43 }; ty = (Int I32 false); node = Read (record { spot = record { line = 92; column = 43 }; ty = (Int I32 false); node = Slot 8 }) }) }) (record { spot = record { line = 92; column = 49 }; ty = (Int I32 true); node = Convert (record { spot = record { line = 92; column = 49 }; ty = (Int KBool true); node = Read (record { spot = record { line = 92; column = 49 }; ty = (Int KBool true); node = Slot 1 }) }) }) }) }) } ∷ []) }) } ∷ record { spot = record { line = 93; column = 3 }; node = Express (record { spot = record { line = 93; column = 3 }; ty = Nothing; node = Known (Prints (Decimal I64 ∷ Text (10 ∷ []) ∷ [])) (record { spot = record { line = 93; column = 20 }; ty = (Int I64 false); node = Read (record { spot = record { line = 93; column = 20 }; ty = (Int I64 false); node = Slot 10 }) } ∷ []) }) } ∷ record { spot = record { line = 94; column = 3 }; node = Express (record { spot = record { line = 94; column = 3 }; ty = (Int I64 false); node = Update Sub (record { spot = record { line = 94; column = 3 }; ty = (Int I64 false); node = Slot 10 }) (record { spot = record { line = 94; column = 3 }; ty = (Int I64 false); node = Convert (record { spot = record { line = 94; column = 3 }; ty = (Int I32 false); node = Number (pos 1) }) }) true }) } ∷ record { spot = record { line = 95; column = 3 }; node = Declare (record { spot = record { line = 95; column = 8 }; slot = 11; init = None } ∷ []) } ∷ record { spot = record { line = 96; column = 3 }; node = Express (record { spot = record { line = 96; column = 3 }; ty = (Int U32 false); node = Call 10 [] }) } ∷ record { spot = record { line = 97; column = 3 }; node = Express (record { spot = record { line = 97; column = 3 }; ty = (Int I64 false); node = Assign (record { spot = record { line = 97; column = 3 }; ty = (Int I64 false); node = Slot 10 }) (record { spot = record { line = 97; column = 9 }; ty = (Int I64 false); node = Convert (record { spot = record { line = 97; column = 9 }; ty = (Int I32 false); node = Number (pos 12) }) }) }) } ∷ record { spot = record { line = 98; column = 3 }; node = Declare (record { spot = record { line = 98; column = 14 }; slot = 12; init = Some (record { spot = record { line = 98; column = 20 }; ty = (Int I64 true); node = Known (Feeds I64 1) (record { spot = record { line = 98; column = 35 }; ty = (Int I32 false); node = Known Private (record { spot = record { line = 98; column = 45 }; ty = (Int I32 false); node = Number (pos 0) } ∷ []) } ∷ []) }) } ∷ []) } ∷ record { spot = record { line = 99; column = 3 }; node = Express (record { spot = record { line = 99; column = 3 }; ty = (Int I8 false); node = Assign (record { spot = record { line = 99; column = 3 }; ty = (Int I8 false); node = Index (record { spot = record { line = 99; column = 3 }; ty = (Pointer false (Int I8 false)); node = Decay (record { spot = record { line = 99; column = 3 }; ty = (Array 1 (Int I8 false)); node = Slot 11 }) }) (record { spot = record { line = 99; column = 7 }; ty = (Int I32 false); node = Number (pos 0) }) }) (record { spot = record { line = 99; column = 12 }; ty = (Int I8 false); node = Convert (record { spot = record { line = 99; column = 12 }; ty = (Int I32 false); node = Binary Less (record { spot = record { line = 99; column = 12 }; ty = (Int I32 false); node = Convert (record { spot = record { line = 99; column = 12 }; ty = (Int I8 false); node = Read (record { spot = record { line = 99; column = 12 }; ty = (Int I8 false); node = Index (record { spot = record { line = 99; column = 12 }; ty = (Pointer false (Int I8 false)); node = Decay (record { spot = record { line = 99; column = 12 }; ty = (Array 1 (Int I8 false)); node = Slot 11 }) }) (record { spot = record { line = 99; column = 16 }; ty = (Int I32 false); node = Number (pos 0) }) }) }) }) (record { spot = record { line = 99; column = 22 }; ty = (Int I32 false); node = Binary Mul (record { spot = record { line = 99; column = 22 }; ty = (Int I32 false); node = Convert (record { spot = record { line = 99; column = 27 }; ty = (Int I64 false); node = Read (record { spot = record { line = 99; column = 27 }; ty = (Int I64 false); node = Slot 10 }) }) }) (record { spot = record { line = 99; column = 35 }; ty = (Int I32 false); node = Choose (record { spot = record { line = 99; column = 35 }; ty = (Int I64 false); node = Read (record { spot = record { line = 99; column = 35 }; ty = (Int I64 false); node = Index (record { spot = record { line = 99; column = 35 }; ty = (Pointer false (Int I64 false)); node = Decay (record { spot = record { line = 99; column = 35 }; ty = (Array 1 (Int I64 false)); node = Slot 3 }) }) (record { spot = record { line = 99; column = 39 }; ty = (Int I32 false); node = Number (pos 0) }) }) }) (record { spot = record { line = 99; column = 44 }; ty = (Int I32 false); node = Number (pos 32768) }) (record { spot = record { line = 99; column = 55 }; ty = (Int I32 false); node = Number (pos 0) }) }) }) }) }) }) } ∷ record { spot = record { line = 100; column = 3 }; node = Express (record { spot = record { line = 100; column = 3 }; ty = Nothing; node = Call 12 (record { spot = record { line = 100; column = 8 }; ty = (Pointer false (Int I32 false)); node = Convert (record { spot = record { line = 100; column = 8 }; ty = (Pointer false (Int I32 false)); node = AddressOf (record { spot = record { line = 100; column = 9 }; ty = (Int I32 false); node = Slot 8 }) }) } ∷ record { spot = record { line = 100; column = 14 }; ty = (Int U64 true); node = Convert (record { spot = record { line = 100; column = 14 }; ty = (Int I64 true); node = Read (record { spot = record { line = 100; column = 14 }; ty = (Int I64 true); node = Slot 12 }) }) } ∷ record { spot = record { line = 100; column = 19 }; ty = (Int I64 true); node = Convert (record { spot = record { line = 100; column = 19 }; ty = (Int KBool true); node = Binary Greater (record { spot = record { line = 100; column = 19 }; ty = (Int I64 true); node = Convert (record { spot = record { line = 100; column = 19 }; ty = (Int I16 true); node = Read (record { spot = record { line = 100; column = 19 }; ty = (Int I16 true); node = Slot 2 }) }) }) (record { spot = record { line = 100; column = 25 }; ty = (Int I64 true); node = Read (record { spot = record { line = 100; column = 25 }; ty = (Int I64 true); node = Slot 12 }) }) }) } ∷ []) }) } ∷ record { spot = record { line = 101; column = 3 }; node = Block (record { spot = record { line = 102; column = 5 }; node = Declare (record { spot = record { line = 102; column = 15 }; slot = 13; init = Some (record { spot = record { line = 102; column = 21 }; ty = (Int I32 true); node = Convert (record { spot = record { line = 102; column = 21 }; ty = (Int I64 true); node = Binary Rem (record { spot = record { line = 102; column = 21 }; ty = (Int I64 true); node = Convert (record { spot = record { line = 102; column = 21 }; ty = (Int I64 false); node = Read (record { spot = record { line = 102; column = 21 }; ty = (Int I64 false); node = Index (record { spot = record { line = 102; column = 21 }; ty = (Pointer false (Int I64 false)); node = Decay (record { spot = record { line = 102; column = 21 }; ty = (Array 1 (Int I64 false)); node = Slot 3 }) }) (record { spot = record { line = 102; column = 25 }; ty = (Int I32 false); node = Number (pos 0) }) }) }) }) (record { spot = record { line = 102; column = 30 }; ty = (Int I64 true); node = Convert (record { spot = record { line = 102; column = 30 }; ty = (Int I16 true); node = Read (record { spot = record { line = 102; column = 30 }; ty = (Int I16 true); node = Slot 2 }) }) }) }) }) } ∷ []) } ∷ []) } ∷ record { spot = record { line = 104; column = 3 }; node = Declare (record { spot = record { line = 104; column = 13 }; slot = 14; init = Some (record { spot = record { line = 104; column = 19 }; ty = (Int I32 true); node = Known (Feeds I32 2) (record { spot = record { line = 104; column = 32 }; ty = (Int I32 false); node = Known Private (record { spot = record { line = 104; column = 42 }; ty = (Int I32 false); node = Number (pos 0) } ∷ []) } ∷ []) }) } ∷ []) } ∷ record { spot = record { line = 105; column = 3 }; node = Express (record { spot = record { line = 105; column = 3 }; ty = (Int I32 false); node = Assign (record { spot = record { line = 105; column = 3 }; ty = (Int I32 false); node = Slot 8 }) (record { spot = record { line = 105; column = 9 }; ty = (Int I32 false); node = Binary Shr (record { spot = record { line = 105; column = 9 }; ty = (Int I32 false); node = Convert (record { spot = record { line = 105; column = 9 }; ty = (Int I8 false); node = Read (record { spot = record { line = 105; column = 9 }; ty = (Int I8 false); node = Index (record { spot = record { line = 105; column = 9 }; ty = (Pointer false (Int I8 false)); node = Decay (record { spot = record { line = 105; column = 9 }; ty = (Array 1 (Int I8 false)); node = Slot 11 }) }) (record { spot = record { line = 105; column = 13 }; ty = (Int I32 false); node = Number (pos 0) }) }) }) }) (record { spot = record { line = 105; column = 20 }; ty = (Int I32 false); node = Logic true (record { spot = record { line = 105; column = 21 }; ty = (Int KBool false); node = Convert (record { spot = record { line = 105; column = 28 }; ty = (Int I64 false); node = Read (record { spot = record { line = 105; column = 28 }; ty = (Int I64 false); node = Index (record { spot = record { line = 105; column = 28 }; ty = (Pointer false (Int I64 false)); node = Decay (record { spot = record { line = 105; column = 28 }; ty = (Array 1 (Int I64 false)); node = Slot 3 }) }) (record { spot = record { line = 105; column = 32 }; ty = (Int I32 false); node = Number (pos 0) }) }) }) }) (record { spot = record { line = 105; column = 39 }; ty = (Int KBool false); node = Convert (record { spot = record { line = 105; column = 39 }; ty = (Int I32 false); node = Read (record { spot = record { line = 105; column = 39 }; ty = (Int I32 false); node = Slot 8 }) }) }) }) }) }) } ∷ record { spot = record { line = 106; column = 1 }; node = Block (record { spot = record { line = 106; column = 3 }; node = Declare (record { spot = record { line = 106; column = 13 }; slot = 15; init = None } ∷ []) } ∷ record { spot = record { line = 106; column = 17 }; node = Declare (record { spot = record { line = 106; column = 26 }; slot = 16; init = Some (record { spot = record { line = 106; column = 30 }; ty = (Struct 0); node = Read (record { spot = record { line = 106; column = 30 }; ty = (Struct 0); node = Deref (record { spot = record { line = 106; column = 31 }; ty = (Pointer false (Struct 0)); node = Read (record { spot = record { line = 106; column = 31 }; ty = (Pointer false (Struct 0)); node = Slot 15 }) }) }) }) } ∷ []) } ∷ []) } ∷ record { spot = record { line = 107; column = 3 }; node = Always 17 (record { spot = record { line = 107; column = 16 }; node = Block (record { spot = record { line = 108; column = 5 }; node = For (ForDeclare (record { spot = record { line = 108; column = 14 }; slot = 18; init = Some (record { spot = record { line = 108; column = 20 }; ty = (Int I32 false); node = Number (pos 0) }) } ∷ [])) (Some (record { spot = record { line = 108; column = 23 }; ty = (Int I32 false); node = Binary Less (record { spot = record { line = 108; column = 23 }; ty = (Int I32 false); node = Read (record { spot = record { line = 108; column = 23 }; ty = (Int I32 false); node = Slot 18 }) }) (record { spot = record { line = 108; column = 29 }; ty = (Int I32 false); node = Number (pos 0) }) })) (Some (record { spot = record { line = 108; column = 32 }; ty = (Int I32 false); node = Update Add (record { spot = record { line = 108; column = 34 }; ty = (Int I32 false); node = Slot 18 }) (record { spot = record { line = 108; column = 32 }; ty = (Int I32 false); node = Number (pos 1) }) false })) (record { spot = record { line = 109; column = 5 }; node = Block (record { spot = record { line = 110; column = 7 }; node = Declare (record { spot = record { line = 110; column = 12 }; slot = 19; init = Some (record { spot = record { line = 110; column = 18 }; ty = (Int I64 false); node = Read (record { spot = record { line = 110; column = 18 }; ty = (Int I64 false); node = Index (record { spot = record { line = 110; column = 18 }; ty = (Pointer false (Int I64 false)); node = Decay (record { spot = record { line = 110; column = 18 }; ty = (Array 1 (Int I64 false)); node = Slot 3 }) }) (record { spot = record { line = 110; column = 22 }; ty = (Int I32 false); node = Number (pos 0) }) }) }) } ∷ []) } ∷ []) }) } ∷ []) }) } ∷ record { spot = record { line = 113; column = 3 }; node = Declare (record { spot = record { line = 113; column = 20 }; slot = 20; init = None } ∷ []) } ∷ record { spot = record { line = 114; column = 3 }; node = Express (record { spot = record { line = 114; column = 3 }; ty = Nothing; node = Known (Reveals I16) (record { spot = record { line = 114; column = 20 }; ty = (Pointer false (Int I16 false)); node = Convert (record { spot = record { line = 114; column = 20 }; ty = (Pointer false (Int I16 false)); node = AddressOf (record { spot = record { line = 114; column = 21 }; ty = (Int I16 false); node = Slot 20 }) }) } ∷ record { spot = record { line = 114; column = 26 }; ty = (Int I16 true); node = Read (record { spot = record { line = 114; column = 26 }; ty = (Int I16 true); node = Slot 0 }) } ∷ []) }) } ∷ record { spot = record { line = 115; column = 3 }; node = Express (record { spot = record { line = 115; column = 3 }; ty = Nothing; node = Known (Prints (Decimal I32 ∷ Text (10 ∷ []) ∷ [])) (record { spot = record { line = 115; column = 18 }; ty = (Int I32 false); node = Convert (record { spot = record { line = 115; column = 18 }; ty = (Int I16 false); node = Read (record { spot = record { line = 115; column = 18 }; ty = (Int I16 false); node = Slot 20 }) }) } ∷ []) }) } ∷ record { spot = record { line = 116; column = 3 }; node = Declare (record { spot = record { line = 116; column = 8 }; slot = 21; init = None } ∷ []) } ∷ record { spot = record { line = 117; column = 3 }; node = Express (record { spot = record { line = 117; column = 3 }; ty = Nothing; node = Known (Reveals KBool) (record { spot = record { line = 117; column = 19 }; ty = (Pointer false (Int KBool false)); node = Convert (record { spot = record { line = 117; column = 19 }; ty = (Pointer false (Int KBool false)); node = AddressOf (record { spot = record { line = 117; column = 20 }; ty = (Int KBool false); node = Slot 21 }) }) } ∷ record { spot = record { line = 117; column = 25 }; ty = (Int KBool true); node = Read (record { spot = record { line = 117; column = 25 }; ty = (Int KBool true); node = Slot 1 }) } ∷ []) }) } ∷ record { spot = record { line = 118; column = 3 }; node = Express (record { spot = record { line = 118; column = 3 }; ty = Nothing; node = Known (Prints (Decimal I32 ∷ Text (10 ∷ []) ∷ [])) (record { spot = record { line = 118; column = 18 }; ty = (Int I32 false); node = Convert (record { spot = record { line = 118; column = 18 }; ty = (Int KBool false); node = Read (record { spot = record { line = 118; column = 18 }; ty = (Int KBool false); node = Slot 21 }) }) } ∷ []) }) } ∷ record { spot = record { line = 119; column = 3 }; node = Declare (record { spot = record { line = 119; column = 20 }; slot = 22; init = None } ∷ []) } ∷ record { spot = record { line = 120; column = 3 }; node = Express (record { spot = record { line = 120; column = 3 }; ty = Nothing; node = Known (Reveals I16) (record { spot = record { line = 120; column = 20 }; ty = (Pointer false (Int I16 false)); node = Convert (record { spot = record { line = 120; column = 20 }; ty = (Pointer false (Int I16 false)); node = AddressOf (record { spot = record { line = 120; column = 21 }; ty = (Int I16 false); node = Slot 22 }) }) } ∷ record { spot = record { line = 120; column = 26 }; ty = (Int I16 true); node = Read (record { spot = record { line = 120; column = 26 }; ty = (Int I16 true); node = Slot 2 }) } ∷ []) }) } ∷ record { spot = record { line = 121; column = 3 }; node = Express (record { spot = record { line = 121; column = 3 }; ty = Nothing; node = Known (Prints (Decimal I32 ∷ Text (10 ∷ []) ∷ [])) (record { spot = record { line = 121; column = 18 }; ty = (Int I32 false); node = Convert (record { spot = record { line = 121; column = 18 }; ty = (Int I16 false); node = Read (record { spot = record { line = 121; column = 18 }; ty = (Int I16 false); node = Slot 22 }) }) } ∷ []) }) } ∷ record { spot = record { line = 122; column = 3 }; node = Express (record { spot = record { line = 122; column = 3 }; ty = Nothing; node = Known (Prints (Decimal I64 ∷ Text (10 ∷ []) ∷ [])) (record { spot = record { line = 122; column = 20 }; ty = (Int I64 false); node = Read (record { spot = record { line = 122; column = 20 }; ty = (Int I64 false); node = Index (record { spot = record { line = 122; column = 20 }; ty = (Pointer false (Int I64 false)); node = Decay (record { spot = record { line = 122; column = 20 }; ty = (Array 1 (Int I64 false)); node = Slot 3 }) }) (record { spot = record { line = 122; column = 24 }; ty = (Int I32 false); node = Number (pos 0) }) }) } ∷ []) }) } ∷ record { spot = record { line = 123; column = 3 }; node = Express (record { spot = record { line = 123; column = 3 }; ty = Nothing; node = Known (Prints (Decimal I32 ∷ Text (10 ∷ []) ∷ [])) (record { spot = record { line = 123; column = 18 }; ty = (Int I32 false); node = Read (record { spot = record { line = 123; column = 18 }; ty = (Int I32 false); node = Slot 8 }) } ∷ []) }) } ∷ record { spot = record { line = 124; column = 3 }; node = Express (record { spot = record { line = 124; column = 3 }; ty = Nothing; node = Known (Prints (Decimal I64 ∷ Text (10 ∷ []) ∷ [])) (record { spot = record { line = 124; column = 20 }; ty = (Int I64 false); node = Read (record { spot = record { line = 124; column = 20 }; ty = (Int I64 false); node = Slot 10 }) } ∷ []) }) } ∷ record { spot = record { line = 125; column = 3 }; node = Express (record { spot = record { line = 125; column = 3 }; ty = Nothing; node = Known (Prints (Decimal I32 ∷ Text (10 ∷ []) ∷ [])) (record { spot = record { line = 125; column = 18 }; ty = (Int I32 false); node = Convert (record { spot = record { line = 125; column = 18 }; ty = (Int I8 false); node = Read (record { spot = record { line = 125; column = 18 }; ty = (Int I8 false); node = Index (record { spot = record { line = 125; column = 18 }; ty = (Pointer false (Int I8 false)); node = Decay (record { spot = record { line = 125; column = 18 }; ty = (Array 1 (Int I8 false)); node = Slot 11 }) }) (record { spot = record { line = 125; column = 22 }; ty = (Int I32 false); node = Number (pos 0) }) }) }) } ∷ []) }) } ∷ record { spot = record { line = 126; column = 3 }; node = Declare (record { spot = record { line = 126; column = 13 }; slot = 23; init = None } ∷ []) } ∷ record { spot = record { line = 127; column = 3 }; node = Express (record { spot = record { line = 127; column = 3 }; ty = Nothing; node = Known (Reveals I64) (record { spot = record { line = 127; column = 20 }; ty = (Pointer false (Int I64 false)); node = Convert (record { spot = record { line = 127; column = 20 }; ty = (Pointer false (Int I64 false)); node = AddressOf (record { spot = record { line = 127; column = 21 }; ty = (Int I64 false); node = Slot 23 }) }) } ∷ record { spot = record { line = 127; column = 26 }; ty = (Int I64 true); node = Read (record { spot = record { line = 127; column = 26 }; ty = (Int I64 true); node = Slot 12 }) } ∷ []) }) } ∷ record { spot = record { line = 128; column = 3 }; node = Express (record { spot = record { line = 128; column = 3 }; ty = Nothing; node = Known (Prints (Decimal I64 ∷ Text (10 ∷ []) ∷ [])) (record { spot = record { line = 128; column = 20 }; ty = (Int I64 false); node = Read (record { spot = record { line = 128; column = 20 }; ty = (Int I64 false); node = Slot 23 }) } ∷ []) }) } ∷ record { spot = record { line = 129; column = 3 }; node = Express (record { spot = record { line = 129; column = 3 }; ty = Nothing; node = Known (Gives I32 1) (record { spot = record { line = 129; column = 12 }; ty = (Int I32 true); node = Read (record { spot = record { line = 129; column = 12 }; ty = (Int I32 true); node = Slot 14 }) } ∷ []) }) } ∷ []) } ∷ [])

abbrev setup : ClearSetup
setup = record { public = ((pos 100) ∷ (pos 32) ∷ []); first = ((pos 2147483647) ∷ (pos 5) ∷ []); second = ((negsuc 72) ∷ (pos 9) ∷ (negsuc 9223372036854775807) ∷ []); dealt = 1048576; budget = 3000 }

clear : Clear structs functions 13 setup (Revealed I32 (pos 17) ∷ Printed (49 ∷ 55 ∷ 10 ∷ []) ∷ Revealed I64 (pos 18) ∷ Printed (49 ∷ 56 ∷ 10 ∷ []) ∷ []) (Trap M3 (record { line = 106; column = 30 }))
unfolding digits hidden-the_row-TExpr-0 hidden-the_row-TExpr-1 hidden-the_row-TPlace-2 hidden-the_row-TStmt-0 hidden-the_row-TStmt-1 hidden-the_row-CType-0 hidden
clear = (refl, refl)

left : Left (clear_walk structs functions 13 setup) 2298 1048511
unfolding digits hidden-the_row-TExpr-0 hidden-the_row-TExpr-1 hidden-the_row-TPlace-2 hidden-the_row-TStmt-0 hidden-the_row-TStmt-1 hidden-the_row-CType-0 hidden
left = (refl, refl)

events : Ends (events_walk structs functions 13 (known_of setup) 1048576 ((pos 17) ∷ (pos 18) ∷ []) 3000)
    (Feed 2 I16 0 ∷ Feed 2 KBool 2 ∷ Feed 2 I16 0 ∷ Turn I16 I32 (Fix I16 (pos 17)) ∷ ShiftBy Shl I32 (Of 3) (pos 0) ∷ Reveal I32 (Of 4) ∷ Print (49 ∷ 55 ∷ 10 ∷ []) ∷ Turn I16 I32 (Fix I16 (pos 17)) ∷ Op Add I32 (Of 7) (Fix I32 (pos 1)) ∷ Turn I32 I16 (Of 8) ∷ Turn I16 KBool (Of 9) ∷ Op Or KBool (Of 10) (Fix KBool (pos 1)) ∷ Turn KBool I32 (Of 11) ∷ Op And I32 (Of 12) (Fix I32 (pos 7)) ∷ Op Add I32 (Of 13) (Fix I32 (pos 1)) ∷ Turn I16 I32 (Of 2) ∷ Op Rem I32 (Of 15) (Of 14) ∷ Turn I32 I16 (Of 16) ∷ Turn KBool I32 (Of 1) ∷ Op Add I32 (Fix I32 (pos 17)) (Of 18) ∷ Turn I32 U32 (Of 19) ∷ Turn U32 I64 (Of 20) ∷ Reveal I64 (Of 21) ∷ Print (49 ∷ 56 ∷ 10 ∷ []) ∷ Op And KBool (Fix KBool (pos 1)) (Fix KBool (pos 1)) ∷ Op Xor KBool (Fix KBool (pos 1)) (Of 24) ∷ Turn U32 KBool (Fix U32 (pos 1)) ∷ Turn U32 KBool (Fix U32 (pos 1)) ∷ Op Or KBool (Of 26) (Of 27) ∷ Turn KBool U32 (Of 28) ∷ Op Sub U32 (Fix U32 (pos 1)) (Of 29) ∷ Op And U32 (Fix U32 (pos 1)) (Of 30) ∷ Pick U32 (Fix KBool (pos 1)) (Of 31) (Fix U32 (pos 1)) ∷ One Flip KBool (Fix KBool (pos 1)) ∷ Feed 1 I64 0 ∷ Turn I64 U64 (Of 34) ∷ Turn I16 I64 (Of 17) ∷ Op Greater I64 (Of 36) (Of 34) ∷ Turn KBool I64 (Of 37) ∷ Turn I64 U64 (Fix I64 (pos 3)) ∷ Op Sub U64 (Of 39) (Of 35) ∷ Turn I16 I64 (Of 17) ∷ Op Rem I64 (Fix I64 (pos 0)) (Of 41) ∷ Turn I64 I32 (Of 42) ∷ Feed 2 I32 0 ∷ []) (Trap M3 (record { line = 106; column = 30 }))
unfolding digits hidden-the_row-TExpr-0 hidden-the_row-TExpr-1 hidden-the_row-TPlace-2 hidden-the_row-TStmt-0 hidden-the_row-TStmt-1 hidden-the_row-CType-0 hidden
events = (refl, refl)
