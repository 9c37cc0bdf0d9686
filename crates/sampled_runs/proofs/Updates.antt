-- A program of compound assignments, nested conditions, loops and an allocated block.
-- What its runs show, their events and what they leave were made by an independent model.
use Rattle.std.proofs.Common.{pos, negsuc, List, [], ◌∷◌, Some, None, true, false, refl}
use Rattle.std.specs.Fmt.{digits}
use Rattle.oc_values.specs.declared.integers.IntKind.TheVariants.{Bool as KBool, I8, U8, I16, U16, I32, U32, I64, U64}
use Rattle.oc_values.specs.declared.integers.BinaryOp.TheVariants.{Add, Sub, Mul, Div, Rem, Shl, Shr, And, Or, Xor, Less, Greater, GreaterEq, Equal, NotEqual}
use Rattle.oc_values.specs.declared.integers.OneOp.TheVariants.{Neg, Plus, Not, Flip}
use Rattle.oc_cells.specs.declared.types.CType.{Int, Pointer, Array, Nothing}
use Rattle.oc_cells.specs.declared.types.StructType.{StructType}
use Rattle.oc_typed.specs.declared.typed.TExprNode.{Number, Read, AddressOf, Decay, Unary, Binary, Logic, Choose, Assign, Update, Convert, Call, Builtin as Known}
use Rattle.oc_typed.specs.declared.typed.TExprNode.TheBlock.{hidden-the_row-TExpr-0, hidden-the_row-TExpr-1, hidden-the_row-TPlace-2}
use Rattle.oc_typed.specs.declared.typed.TStmtNode.TheBlock.{hidden-the_row-TStmt-0, hidden-the_row-TStmt-1}
use Rattle.oc_cells.specs.declared.types.CType.TheBlock.{hidden-the_row-CType-0}
use denote.Hole.Carrier.{hidden}
use Rattle.oc_typed.specs.declared.typed.TPlaceNode.{Slot, Deref, Index}
use Rattle.oc_typed.specs.declared.typed.Builtin.TheVariants.{Private, Feed as Feeds, Reveal as Reveals, Give as Gives, PrivateCount, Print as Prints, Malloc}
use Rattle.oc_typed.specs.declared.typed.PrintPiece.TheVariants.{Text, Decimal}
use Rattle.oc_typed.specs.declared.typed.TForInit.TheVariants.{Declare as ForDeclare, Express as ForExpress}
use Rattle.oc_typed.specs.declared.typed.TStmtNode.{Declare, Express, Block, If, OblivIf, While, For, Return}
use Rattle.oc_typed.specs.declared.typed.TypedFunction.{TypedFunction}
use Rattle.oc_walk.specs.declared.run.ShownItem.TheVariants.{Print as Printed, Reveal as Revealed, Give as Given}
use Rattle.oc_walk.specs.declared.run.ClearSetup.{ClearSetup}
use Rattle.oc_walk.specs.declared.run.Outcome.TheVariants.{Done}
use Rattle.oc_meanings.specs.Clear.{Clear, IsEnd, known_of, clear_walk}
use Rattle.oc_meanings.specs.Events.{Fix, Of, Feed, Op, One, Turn, ShiftBy, Pick, Reveal, Give, Print, events_walk}
use Rattle.oc_meanings.specs.Plain.{plain_walk}
use Rattle.sampled_runs.proofs.Small.{Ends, Left}

abbrev structs : List StructType
structs = []

abbrev functions : List TypedFunction
functions = (record { name = []; result = (Int U8 false); params = 2; slots = (record { ty = (Pointer false (Int U32 true)); frozen = false } ∷ record { ty = (Int I32 true); frozen = false } ∷ record { ty = (Int I32 false); frozen = false } ∷ record { ty = (Int I32 false); frozen = false } ∷ record { ty = (Int I32 false); frozen = false } ∷ record { ty = (Array 4 (Int U8 false)); frozen = false } ∷ record { ty = (Int U64 true); frozen = true } ∷ record { ty = (Int I32 false); frozen = false } ∷ record { ty = (Array 4 (Int I32 true)); frozen = false } ∷ record { ty = (Int I32 true); frozen = false } ∷ []); obliv = true; body = (record { spot = record { line = 5; column = 3 }; node = Declare (record { spot = record { line = 5; column = 7 }; slot = 2; init = Some (record { spot = record { line = 5; column = 12 }; ty = (Int I32 false); node = Number (pos 9) }) } ∷ []) } ∷ record { spot = record { line = 6; column = 3 }; node = For (ForExpress (record { spot = record { line = 6; column = 8 }; ty = (Int I32 false); node = Assign (record { spot = record { line = 6; column = 8 }; ty = (Int I32 false); node = Slot 2 }) (record { spot = record { line = 6; column = 13 }; ty = (Int I32 false); node = Number (pos 0) }) })) (Some (record { spot = record { line = 6; column = 16 }; ty = (Int I32 false); node = Binary Less (record { spot = record { line = 6; column = 16 }; ty = (Int I32 false); node = Read (record { spot = record { line = 6; column = 16 }; ty = (Int I32 false); node = Slot 2 }) }) (record { spot = record { line = 6; column = 21 }; ty = (Int I32 false); node = Number (pos 3) }) })) (Some (record { spot = record { line = 6; column = 24 }; ty = (Int I32 false); node = Update Add (record { spot = record { line = 6; column = 24 }; ty = (Int I32 false); node = Slot 2 }) (record { spot = record { line = 6; column = 24 }; ty = (Int I32 false); node = Number (pos 1) }) true })) (record { spot = record { line = 7; column = 3 }; node = Block (record { spot = record { line = 8; column = 5 }; node = For (ForDeclare (record { spot = record { line = 8; column = 14 }; slot = 3; init = Some (record { spot = record { line = 8; column = 19 }; ty = (Int I32 false); node = Number (pos 0) }) } ∷ [])) (Some (record { spot = record { line = 8; column = 22 }; ty = (Int I32 false); node = Binary Less (record { spot = record { line = 8; column = 22 }; ty = (Int I32 false); node = Read (record { spot = record { line = 8; column = 22 }; ty = (Int I32 false); node = Slot 3 }) }) (record { spot = record { line = 8; column = 27 }; ty = (Int I32 false); node = Number (pos 3) }) })) (Some (record { spot = record { line = 8; column = 30 }; ty = (Int I32 false); node = Update Add (record { spot = record { line = 8; column = 32 }; ty = (Int I32 false); node = Slot 3 }) (record { spot = record { line = 8; column = 30 }; ty = (Int I32 false); node = Number (pos 1) }) false })) (record { spot = record { line = 9; column = 5 }; node = Block (record { spot = record { line = 10; column = 7 }; node = Declare (record { spot = record { line = 10; column = 11 }; slot = 4; init = Some (record { spot = record { line = 10; column = 16 }; ty = (Int I32 false); node = Binary GreaterEq (record { spot = record { line = 10; column = 17 }; ty = (Int I32 false); node = Convert (record { spot = record { line = 10; column = 22 }; ty = (Int I32 false); node = Number (pos 12) }) }) (record { spot = record { line = 10; column = 29 }; ty = (Int I32 false); node = Read (record { spot = record { line = 10; column = 29 }; ty = (Int I32 false); node = Slot 3 }) }) }) } ∷ []) } ∷ record { spot = record { line = 11; column = 7 }; node = Express (record { spot = record { line = 11; column = 7 }; ty = (Int I32 true); node = Assign (record { spot = record { line = 11; column = 7 }; ty = (Int I32 true); node = Slot 1 }) (record { spot = record { line = 11; column = 12 }; ty = (Int I32 true); node = Convert (record { spot = record { line = 11; column = 12 }; ty = (Int U8 true); node = Convert (record { spot = record { line = 11; column = 34 }; ty = (Int I32 false); node = Logic false (record { spot = record { line = 11; column = 36 }; ty = (Int KBool false); node = Convert (record { spot = record { line = 11; column = 36 }; ty = (Int I32 false); node = Update Add (record { spot = record { line = 11; column = 36 }; ty = (Int I32 false); node = Slot 4 }) (record { spot = record { line = 11; column = 42 }; ty = (Int I32 false); node = Read (record { spot = record { line = 11; column = 42 }; ty = (Int I32 false); node = Slot 2 }) }) false }) }) (record { spot = record { line = 11; column = 51 }; ty = (Int KBool false); node = Convert (record { spot = record { line = 11; column = 51 }; ty = (Int I32 false); node = Binary Mul (record { spot = record { line = 11; column = 51 }; ty = (Int I32 false); node = Read (record { spot = record { line = 11; column = 51 }; ty = (Int I32 false); node = Slot 3 }) }) (record { spot = record { line = 11; column = 56 }; ty = (Int I32 false); node = Number (pos 14) }) }) }) }) }) }) }) } ∷ []) }) } ∷ record { spot = record { line = 13; column = 5 }; node = Declare (record { spot = record { line = 13; column = 19 }; slot = 5; init = None } ∷ []) } ∷ []) }) } ∷ record { spot = record { line = 15; column = 3 }; node = Declare (record { spot = record { line = 15; column = 30 }; slot = 6; init = Some (record { spot = record { line = 15; column = 35 }; ty = (Int U64 true); node = Convert (record { spot = record { line = 15; column = 35 }; ty = (Int U32 true); node = Read (record { spot = record { line = 15; column = 35 }; ty = (Int U32 true); node = Index (record { spot = record { line = 15; column = 35 }; ty = (Pointer false (Int U32 true)); node = Read (record { spot = record { line = 15; column = 35 }; ty = (Pointer false (Int U32 true)); node = Slot 0 }) }) (record { spot = record { line = 15; column = 38 }; ty = (Int I32 false); node = Number (pos 0) }) }) }) }) } ∷ []) } ∷ record { spot = record { line = 16; column = 3 }; node = For (ForDeclare (record { spot = record { line = 16; column = 12 }; slot = 7; init = Some (record { spot = record { line = 16; column = 18 }; ty = (Int I32 false); node = Number (pos 0) }) } ∷ [])) (Some (record { spot = record { line = 16; column = 21 }; ty = (Int I32 false); node = Binary Less (record { spot = record { line = 16; column = 21 }; ty = (Int I32 false); node = Read (record { spot = record { line = 16; column = 21 }; ty = (Int I32 false); node = Slot 7 }) }) (record { spot = record { line = 16; column = 27 }; ty = (Int I32 false); node = Number (pos 3) }) })) (Some (record { spot = record { line = 16; column = 30 }; ty = (Int I32 false); node = Assign (record { spot = record { line = 16; column = 30 }; ty = (Int I32 false); node = Slot 7 }) (record { spot = record { line = 16; column = 36 }; ty = (Int I32 false); node = Binary Add (record { spot = record { line = 16; column = 36 }; ty = (Int I32 false); node = Read (record { spot = record { line = 16; column = 36 }; ty = (Int I32 false); node = Slot 7 }) }) (record { spot = record { line = 16; column = 42 }; ty = (Int I32 false); node = Number (pos 1) }) }) })) (record { spot = record { line = 17; column = 3 }; node = Block (record { spot = record { line = 18; column = 5 }; node = Declare (record { spot = record { line = 18; column = 22 }; slot = 8; init = None } ∷ []) } ∷ record { spot = record { line = 19; column = 5 }; node = Express (record { spot = record { line = 19; column = 5 }; ty = (Int U32 true); node = Update Add (record { spot = record { line = 19; column = 8 }; ty = (Int U32 true); node = Deref (record { spot = record { line = 19; column = 9 }; ty = (Pointer false (Int U32 true)); node = Read (record { spot = record { line = 19; column = 9 }; ty = (Pointer false (Int U32 true)); node = Slot 0 }) }) }) (record { spot = record { line = 19; column = 5 }; ty = (Int U32 true); node = Convert (record { spot = record { line = 19; column = 5 }; ty = (Int I32 false); node = Number (pos 1) }) }) false }) } ∷ record { spot = record { line = 20; column = 5 }; node = Declare (record { spot = record { line = 20; column = 15 }; slot = 9; init = None } ∷ []) } ∷ []) }) } ∷ record { spot = record { line = 22; column = 3 }; node = Return (Some (record { spot = record { line = 22; column = 10 }; ty = (Int U8 false); node = Convert (record { spot = record { line = 22; column = 10 }; ty = (Int I32 false); node = Binary Shl (record { spot = record { line = 22; column = 11 }; ty = (Int I32 false); node = Unary Neg (record { spot = record { line = 22; column = 12 }; ty = (Int I32 false); node = Read (record { spot = record { line = 22; column = 12 }; ty = (Int I32 false); node = Slot 2 }) }) }) (record { spot = record { line = 22; column = 20 }; ty = (Int I32 false); node = Logic false (record { spot = record { line = 22; column = 20 }; ty = (Int KBool false); node = Convert (record { spot = record { line = 22; column = 20 }; ty = (Int I32 false); node = Number (pos 9) }) }) (record { spot = record { line = 22; column = 25 }; ty = (Int KBool false); node = Convert (record { spot = record { line = 22; column = 25 }; ty = (Int I32 false); node = Read (record { spot = record { line = 22; column = 25 }; ty = (Int I32 false); node = Slot 2 }) }) }) }) }) })) } ∷ []) } ∷ record { name = []; result = (Int I64 false); params = 1; slots = (record { ty = (Int I8 true); frozen = false } ∷ record { ty = (Int I32 false); frozen = false } ∷ record { ty = (Array 3 (Int U32 false)); frozen = false } ∷ []); obliv = true; body = (record { spot = record { line = 25; column = 3 }; node = Express (record { spot = record { line = 25; column = 3 }; ty = (Int I8 true); node = Update Sub (record { spot = record { line = 25; column = 3 }; ty = (Int I8 true); node = Slot 0 }) (record { spot = record { line = 25; column = 3 }; ty = (Int I32 true); node = Convert (record { spot = record { line = 25; column = 3 }; ty = (Int I32 false); node = Number (pos 1) }) }) true }) } ∷ record { spot = record { line = 26; column = 3 }; node = Declare (record { spot = record { line = 26; column = 7 }; slot = 1; init = Some (record { spot = record { line = 26; column = 13 }; ty = (Int I32 false); node = Binary GreaterEq (record { spot = record { line = 26; column = 13 }; ty = (Int I32 false); node = Number (pos 17) }) (record { spot = record { line = 26; column = 20 }; ty = (Int I32 false); node = Binary Equal (record { spot = record { line = 26; column = 20 }; ty = (Int I64 false); node = Number (pos 4294967296) }) (record { spot = record { line = 26; column = 36 }; ty = (Int I64 false); node = Convert (record { spot = record { line = 26; column = 36 }; ty = (Int I32 false); node = Number (pos 1) }) }) }) }) } ∷ []) } ∷ record { spot = record { line = 27; column = 3 }; node = Declare (record { spot = record { line = 27; column = 12 }; slot = 2; init = None } ∷ []) } ∷ record { spot = record { line = 28; column = 3 }; node = Return (Some (record { spot = record { line = 28; column = 10 }; ty = (Int I64 false); node = Convert (record { spot = record { line = 28; column = 10 }; ty = (Int I32 false); node = Binary Xor (record { spot = record { line = 28; column = 10 }; ty = (Int I32 false); node = Number (pos 10) }) (record { spot = record { line = 28; column = 15 }; ty = (Int I32 false); node = Binary NotEqual (record { spot = record { line = 28; column = 15 }; ty = (Int I32 false); node = Read (record { spot = record { line = 28; column = 15 }; ty = (Int I32 false); node = Slot 1 }) }) (record { spot = record { line = 28; column = 24 }; ty = (Int I32 false); node = Choose (record { spot = record { line = 28; column = 24 }; ty = (Int U32 false); node = Read (record { spot = record { line = 28; column = 24 }; ty = (Int U32 false); node = Index (record { spot = record { line = 28; column = 24 }; ty = (Pointer false (Int U32 false)); node = Decay (record { spot = record { line = 28; column = 24 }; ty = (Array 3 (Int U32 false)); node = Slot 2 }) }) (record { spot = record { line = 28; column = 28 }; ty = (Int I32 false); node = Number (pos 1) }) }) }) (record { spot = record { line = 28; column = 33 }; ty = (Int I32 false); node = Read (record { spot = record { line = 28; column = 33 }; ty = (Int I32 false); node = Slot 1 }) }) (record { spot = record { line = 28; column = 39 }; ty = (Int I32 false); node = Number (pos 6) }) }) }) }) })) } ∷ []) } ∷ record { name = []; result = Nothing; params = 0; slots = (record { ty = (Int I32 true); frozen = false } ∷ record { ty = (Int I32 false); frozen = false } ∷ record { ty = (Int U32 true); frozen = false } ∷ []); obliv = true; body = (record { spot = record { line = 31; column = 3 }; node = OblivIf (record { spot = record { line = 31; column = 13 }; ty = (Int KBool true); node = Convert (record { spot = record { line = 31; column = 13 }; ty = (Int I64 false); node = Call 1 (record { spot = record { line = 31; column = 18 }; ty = (Int I8 true); node = Convert (record { spot = record { line = 31; column = 18 }; ty = (Int I32 false); node = Binary Add (record { spot = record { line = 31; column = 18 }; ty = (Int I32 false); node = Number (pos 0) }) (record { spot = record { line = 31; column = 22 }; ty = (Int I32 false); node = Number (pos 10) }) }) } ∷ []) }) }) (record { spot = record { line = 32; column = 3 }; node = Block (record { spot = record { line = 33; column = 5 }; node = Declare (record { spot = record { line = 33; column = 18 }; slot = 0; init = None } ∷ []) } ∷ record { spot = record { line = 34; column = 5 }; node = Express (record { spot = record { line = 34; column = 5 }; ty = (Int I64 false); node = Call 1 (record { spot = record { line = 34; column = 10 }; ty = (Int I8 true); node = Convert (record { spot = record { line = 34; column = 10 }; ty = (Int I32 true); node = Read (record { spot = record { line = 34; column = 10 }; ty = (Int I32 true); node = Slot 0 }) }) } ∷ []) }) } ∷ record { spot = record { line = 35; column = 5 }; node = Express (record { spot = record { line = 35; column = 5 }; ty = (Int I32 true); node = Update Add (record { spot = record { line = 35; column = 7 }; ty = (Int I32 true); node = Slot 0 }) (record { spot = record { line = 35; column = 5 }; ty = (Int I32 true); node = Convert (record { spot = record { line = 35; column = 5 }; ty = (Int I32 false); node = Number (pos 1) }) }) false }) } ∷ []) }) (Some (record { spot = record { line = 38; column = 3 }; node = Block (record { spot = record { line = 39; column = 5 }; node = Declare (record { spot = record { line = 39; column = 9 }; slot = 1; init = Some (record { spot = record { line = 39; column = 15 }; ty = (Int I32 false); node = Unary Neg (record { spot = record { line = 39; column = 17 }; ty = (Int I32 false); node = Convert (record { spot = record { line = 39; column = 29 }; ty = (Int I32 false); node = Number (pos 0) }) }) }) } ∷ []) } ∷ record { spot = record { line = 40; column = 5 }; node = Express (record { spot = record { line = 40; column = 5 }; ty = (Int I32 false); node = Update Div (record { spot = record { line = 40; column = 5 }; ty = (Int I32 false); node = Slot 1 }) (record { spot = record { line = 40; column = 12 }; ty = (Int I32 false); node = Binary Add (record { spot = record { line = 40; column = 13 }; ty = (Int I32 false); node = Binary And (record { spot = record { line = 40; column = 14 }; ty = (Int I32 false); node = Logic false (record { spot = record { line = 40; column = 15 }; ty = (Int KBool false); node = Convert (record { spot = record { line = 40; column = 15 }; ty = (Int I16 false); node = Convert (record { spot = record { line = 40; column = 26 }; ty = (Int I32 false); node = Number (pos 1) }) }) }) (record { spot = record { line = 40; column = 32 }; ty = (Int KBool false); node = Convert (record { spot = record { line = 40; column = 32 }; ty = (Int I32 false); node = Read (record { spot = record { line = 40; column = 32 }; ty = (Int I32 false); node = Slot 1 }) }) }) }) (record { spot = record { line = 40; column = 39 }; ty = (Int I32 false); node = Number (pos 7) }) }) (record { spot = record { line = 40; column = 44 }; ty = (Int I32 false); node = Number (pos 1) }) }) false }) } ∷ []) })) } ∷ record { spot = record { line = 42; column = 3 }; node = Declare (record { spot = record { line = 42; column = 22 }; slot = 2; init = None } ∷ []) } ∷ []) } ∷ record { name = []; result = Nothing; params = 0; slots = (record { ty = (Int I64 true); frozen = false } ∷ record { ty = (Int I32 true); frozen = false } ∷ record { ty = (Int KBool true); frozen = false } ∷ record { ty = (Int I32 false); frozen = false } ∷ record { ty = (Int I8 true); frozen = false } ∷ record { ty = (Int I32 false); frozen = false } ∷ record { ty = (Int I32 false); frozen = false } ∷ record { ty = (Int I32 false); frozen = false } ∷ record { ty = (Int I32 false); frozen = false } ∷ record { ty = (Int I64 true); frozen = false } ∷ record { ty = (Int I32 true); frozen = false } ∷ record { ty = (Int I32 true); frozen = false } ∷ record { ty = (Int I64 true); frozen = false } ∷ record { ty = (Pointer false (Int I32 true)); frozen = false } ∷ record { ty = (Int I8 false); frozen = false } ∷ record { ty = (Int I8 false); frozen = false } ∷ record { ty = (Int I32 false); frozen = false } ∷ record { ty = (Array 1 (Int U32 false)); frozen = false } ∷ record { ty = (Int I16 false); frozen = true } ∷ record { ty = (Int I32 false); frozen = false } ∷ record { ty = (Int I8 true); frozen = true } ∷ record { ty = (Int I8 true); frozen = true } ∷ record { ty = (Int I32 false); frozen = false } ∷ record { ty = (Array 4 (Int I16 false)); frozen = false } ∷ record { ty = (Int I64 true); frozen = false } ∷ record { ty = (Int I32 false); frozen = false } ∷ record { ty = (Int I32 false); frozen = false } ∷ record { ty = (Array 4 (Int I16 true)); frozen = false } ∷ record { ty = (Int I64 false); frozen = false } ∷ record { ty = (Int I32 false); frozen = false } ∷ record { ty = (Int I16 false); frozen = false } ∷ record { ty = (Int I16 false); frozen = false } ∷ record { ty = (Int I16 false); frozen = false } ∷ record { ty = (Int I16 false); frozen = false } ∷ []); obliv = false; body = (record { spot = record { line = 45; column = 3 }; node = Declare (record { spot = record { line = 45; column = 26 }; slot = 0; init = Some (record { spot = record { line = 45; column = 32 }; ty = (Int I64 true); node = Known (Feeds I64 1) (record { spot = record { line = 45; column = 47 }; ty = (Int I32 false); node = Known Private (record { spot = record { line = 45; column = 57 }; ty = (Int I32 false); node = Number (pos 1) } ∷ []) } ∷ []) }) } ∷ []) } ∷ record { spot = record { line = 46; column = 3 }; node = Declare (record { spot = record { line = 46; column = 20 }; slot = 1; init = Some (record { spot = record { line = 46; column = 26 }; ty = (Int I32 true); node = Known (Feeds I32 2) (record { spot = record { line = 46; column = 39 }; ty = (Int I32 false); node = Known Private (record { spot = record { line = 46; column = 49 }; ty = (Int I32 false); node = Number (pos 0) } ∷ []) } ∷ []) }) } ∷ []) } ∷ record { spot = record { line = 47; column = 3 }; node = OblivIf (record { spot = record { line = 47; column = 13 }; ty = (Int KBool true); node = Convert (record { spot = record { line = 47; column = 13 }; ty = (Int I64 true); node = Read (record { spot = record { line = 47; column = 13 }; ty = (Int I64 true); node = Slot 0 }) }) }) (record { spot = record { line = 48; column = 3 }; node = Block (record { spot = record { line = 49; column = 5 }; node = OblivIf (record { spot = record { line = 49; column = 16 }; ty = (Int KBool true); node = Convert (record { spot = record { line = 49; column = 16 }; ty = (Int I64 true); node = Choose (record { spot = record { line = 49; column = 16 }; ty = (Int I32 false); node = Binary Rem (record { spot = record { line = 49; column = 16 }; ty = (Int I32 false); node = Number (pos 18) }) (record { spot = record { line = 49; column = 22 }; ty = (Int I32 false); node = Binary Add (record { spot = record { line = 49; column = 23 }; ty = (Int I32 false); node = Binary And (record { spot = record { line = 49; column = 23 }; ty = (Int I32 false); node = Number (pos 19) }) (record { spot = record { line = 49; column = 28 }; ty = (Int I32 false); node = Number (pos 7) }) }) (record { spot = record { line = 49; column = 33 }; ty = (Int I32 false); node = Number (pos 1) }) }) }) (record { spot = record { line = 49; column = 38 }; ty = (Int I64 true); node = Binary Xor (record { spot = record { line = 49; column = 38 }; ty = (Int I64 true); node = Read (record { spot = record { line = 49; column = 38 }; ty = (Int I64 true); node = Slot 0 }) }) (record { spot = record { line = 49; column = 44 }; ty = (Int I64 true); node = Convert (record { spot = record { line = 49; column = 44 }; ty = (Int I32 false); node = Number (pos 5) }) }) }) (record { spot = record { line = 49; column = 48 }; ty = (Int I64 true); node = Convert (record { spot = record { line = 49; column = 48 }; ty = (Int U32 true); node = Convert (record { spot = record { line = 49; column = 68 }; ty = (Int I64 true); node = Read (record { spot = record { line = 49; column = 68 }; ty = (Int I64 true); node = Slot 0 }) }) }) }) }) }) (record { spot = record { line = 50; column = 5 }; node = Block (record { spot = record { line = 51; column = 7 }; node = Express (record { spot = record { line = 51; column = 7 }; ty = (Int I64 true); node = Update Sub (record { spot = record { line = 51; column = 7 }; ty = (Int I64 true); node = Slot 0 }) (record { spot = record { line = 51; column = 7 }; ty = (Int I64 true); node = Convert (record { spot = record { line = 51; column = 7 }; ty = (Int I32 false); node = Number (pos 1) }) }) true }) } ∷ record { spot = record { line = 52; column = 7 }; node = OblivIf (record { spot = record { line = 52; column = 17 }; ty = (Int KBool true); node = Convert (record { spot = record { line = 52; column = 17 }; ty = (Int I32 true); node = Update Add (record { spot = record { line = 52; column = 17 }; ty = (Int I32 true); node = Slot 1 }) (record { spot = record { line = 52; column = 17 }; ty = (Int I32 true); node = Convert (record { spot = record { line = 52; column = 17 }; ty = (Int I32 false); node = Number (pos 1) }) }) true }) }) (record { spot = record { line = 53; column = 7 }; node = Block (record { spot = record { line = 54; column = 9 }; node = Declare (record { spot = record { line = 54; column = 21 }; slot = 2; init = Some (record { spot = record { line = 54; column = 27 }; ty = (Int KBool true); node = Convert (record { spot = record { line = 54; column = 27 }; ty = (Int I32 true); node = Read (record { spot = record { line = 54; column = 27 }; ty = (Int I32 true); node = Slot 1 }) }) }) } ∷ []) } ∷ record { spot = record { line = 55; column = 9 }; node = For (ForDeclare (record { spot = record { line = 55; column = 18 }; slot = 3; init = Some (record { spot = record { line = 55; column = 24 }; ty = (Int I32 false); node = Number (pos 0) }) } ∷ [])) (Some (record { spot = record { line = 55; column = 27 }; ty = (Int I32 false); node = Binary Less (record { spot = record { line = 55; column = 27 }; ty = (Int I32 false); node = Read (record { spot = record { line = 55; column = 27 }; ty = (Int I32 false); node = Slot 3 }) }) (record { spot = record { line = 55; column = 33 }; ty = (Int I32 false); node = Number (pos 3) }) })) (Some (record { spot = record { line = 55; column = 36 }; ty = (Int I32 false); node = Update Add (record { spot = record { line = 55; column = 36 }; ty = (Int I32 false); node = Slot 3 }) (record { spot = record { line = 55; column = 43 }; ty = (Int I32 false); node = Number (pos 1) }) false })) (record { spot = record { line = 56; column = 9 }; node = Block (record { spot = record { line = 57; column = 11 }; node = Express (record { spot = record { line = 57; column = 11 }; ty = (Int KBool true); node = Assign (record { spot = record { line = 57; column = 11 }; ty = (Int KBool true); node = Slot 2 }) (record { spot = record { line = 57; column = 18 }; ty = (Int KBool true); node = Convert (record { spot = record { line = 57; column = 18 }; ty = (Int I64 true); node = Update Or (record { spot = record { line = 57; column = 18 }; ty = (Int I64 true); node = Slot 0 }) (record { spot = record { line = 57; column = 25 }; ty = (Int I64 true); node = Convert (record { spot = record { line = 57; column = 25 }; ty = (Int I32 true); node = Binary Shl (record { spot = record { line = 57; column = 26 }; ty = (Int I32 true); node = Binary Or (record { spot = record { line = 57; column = 26 }; ty = (Int I32 true); node = Read (record { spot = record { line = 57; column = 26 }; ty = (Int I32 true); node = Slot 1 }) }) (record { spot = record { line = 57; column = 32 }; ty = (Int I32 true); node = Convert (record { spot = record { line = 57; column = 32 }; ty = (Int KBool true); node = Read (record { spot = record { line = 57; column = 32 }; ty = (Int KBool true); node = Slot 2 }) }) }) }) (record { spot = record { line = 57; column = 41 }; ty = (Int I32 false); node = Number (pos 31) }) }) }) false }) }) }) } ∷ record { spot = record { line = 58; column = 11 }; node = Express (record { spot = record { line = 58; column = 11 }; ty = (Int I32 true); node = Binary Add (record { spot = record { line = 58; column = 13 }; ty = (Int I32 true); node = Choose (record { spot = record { line = 58; column = 13 }; ty = (Int U32 false); node = Number (pos 32767) }) (record { spot = record { line = 58; column = 22 }; ty = (Int I32 true); node = Convert (record { spot = record { line = 58; column = 22 }; ty = (Int I32 false); node = Read (record { spot = record { line = 58; column = 22 }; ty = (Int I32 false); node = Slot 3 }) }) }) (record { spot = record { line = 58; column = 28 }; ty = (Int I32 true); node = Convert (record { spot = record { line = 58; column = 28 }; ty = (Int KBool true); node = Read (record { spot = record { line = 58; column = 28 }; ty = (Int KBool true); node = Slot 2 }) }) }) }) (record { spot = record { line = 58; column = 38 }; ty = (Int I32 true); node = Convert (record { spot = record { line = 58; column = 38 }; ty = (Int I32 false); node = Choose (record { spot = record { line = 58; column = 38 }; ty = (Int I32 false); node = Read (record { spot = record { line = 58; column = 38 }; ty = (Int I32 false); node = Slot 3 }) }) (record { spot = record { line = 58; column = 44 }; ty = (Int I32 false); node = Number (pos 39) }) (record { spot = record { line = 58; column = 51 }; ty = (Int I32 false); node = Read (record { spot = record { line = 58; column = 51 }; ty = (Int I32 false); node = Slot 3 }) }) }) }) }) } ∷ []) }) } ∷ record { spot = record { line = 60; column = 9 }; node = Declare (record { spot = record { line = 60; column = 27 }; slot = 4; init = Some (record { spot = record { line = 60; column = 33 }; ty = (Int I8 true); node = Convert (record { spot = record { line = 60; column = 33 }; ty = (Int KBool true); node = Binary NotEqual (record { spot = record { line = 60; column = 34 }; ty = (Int I32 true); node = Unary Plus (record { spot = record { line = 60; column = 35 }; ty = (Int I32 true); node = Read (record { spot = record { line = 60; column = 35 }; ty = (Int I32 true); node = Slot 1 }) }) }) (record { spot = record { line = 60; column = 43 }; ty = (Int I32 true); node = Read (record { spot = record { line = 60; column = 43 }; ty = (Int I32 true); node = Slot 1 }) }) }) }) } ∷ []) } ∷ []) }) (Some (record { spot = record { line = 63; column = 7 }; node = Block (record { spot = record { line = 64; column = 9 }; node = For (ForDeclare (record { spot = record { line = 64; column = 18 }; slot = 5; init = Some (record { spot = record { line = 64; column = 24 }; ty = (Int I32 false); node = Number (pos 0) }) } ∷ [])) (Some (record { spot = record { line = 64; column = 27 }; ty = (Int I32 false); node = Binary Less (record { spot = record { line = 64; column = 27 }; ty = (Int I32 false); node = Read (record { spot = record { line = 64; column = 27 }; ty = (Int I32 false); node = Slot 5 }) }) (record { spot = record { line = 64; column = 33 }; ty = (Int I32 false); node = Number (pos 0) }) })) (Some (record { spot = record { line = 64; column = 36 }; ty = (Int I32 false); node = Assign (record { spot = record { line = 64; column = 36 }; ty = (Int I32 false); node = Slot 5 }) (record { spot = record { line = 64; column = 42 }; ty = (Int I32 false); node = Binary Add (record { spot = record { line = 64; column = 42 }; ty = (Int I32 false); node = Read (record { spot = record { line = 64; column = 42 }; ty = (Int I32 false); node = Slot 5 }) }) (record { spot = record { line = 64; column = 48 }; ty = (Int I32 false); node = Number (pos 1) }) }) })) (record { spot = record { line = 65; column = 9 }; node = Block (record { spot = record { line = 66; column = 11 }; node = Express (record { spot = record { line = 66; column = 11 }; ty = (Int I64 true); node = Assign (record { spot = record { line = 66; column = 11 }; ty = (Int I64 true); node = Slot 0 }) (record { spot = record { line = 66; column = 17 }; ty = (Int I64 true); node = Convert (record { spot = record { line = 66; column = 30 }; ty = (Int I64 true); node = Update Sub (record { spot = record { line = 66; column = 30 }; ty = (Int I64 true); node = Slot 0 }) (record { spot = record { line = 66; column = 30 }; ty = (Int I64 true); node = Convert (record { spot = record { line = 66; column = 30 }; ty = (Int I32 false); node = Number (pos 1) }) }) true }) }) }) } ∷ record { spot = record { line = 67; column = 11 }; node = Express (record { spot = record { line = 67; column = 11 }; ty = (Int I32 true); node = Assign (record { spot = record { line = 67; column = 11 }; ty = (Int I32 true); node = Slot 1 }) (record { spot = record { line = 67; column = 17 }; ty = (Int I32 true); node = Convert (record { spot = record { line = 67; column = 17 }; ty = (Int KBool true); node = Binary GreaterEq (record { spot = record { line = 67; column = 19 }; ty = (Int I32 true); node = Choose (record { spot = record { line = 67; column = 19 }; ty = (Int I32 false); node = Number (pos 92) }) (record { spot = record { line = 67; column = 26 }; ty = (Int I32 true); node = Convert (record { spot = record { line = 67; column = 26 }; ty = (Int I16 true); node = Convert (record { spot = record { line = 67; column = 43 }; ty = (Int I32 false); node = Read (record { spot = record { line = 67; column = 43 }; ty = (Int I32 false); node = Slot 5 }) }) }) }) (record { spot = record { line = 67; column = 49 }; ty = (Int I32 true); node = Convert (record { spot = record { line = 67; column = 49 }; ty = (Int I32 false); node = Read (record { spot = record { line = 67; column = 49 }; ty = (Int I32 false); node = Slot 5 }) }) }) }) (record { spot = record { line = 67; column = 58 }; ty = (Int I32 true); node = Convert (record { spot = record { line = 67; column = 58 }; ty = (Int I32 false); node = Number (pos 12) }) }) }) }) }) } ∷ record { spot = record { line = 68; column = 11 }; node = Express (record { spot = record { line = 68; column = 11 }; ty = (Int I32 true); node = Assign (record { spot = record { line = 68; column = 11 }; ty = (Int I32 true); node = Slot 1 }) (record { spot = record { line = 68; column = 17 }; ty = (Int I32 true); node = Convert (record { spot = record { line = 68; column = 17 }; ty = (Int KBool true); node = Binary NotEqual (record { spot = record { line = 68; column = 18 }; ty = (Int U64 true); node = Binary And (record { spot = record { line = 68; column = 19 }; ty = (Int U64 true); node = Convert (record { spot = record { line = 68; column = 19 }; ty = (Int I64 true); node = Binary Add (record { spot = record { line = 68; column = 19 }; ty = (Int I64 true); node = Convert (record { spot = record { line = 68; column = 19 }; ty = (Int I32 true); node = Read (record { spot = record { line = 68; column = 19 }; ty = (Int I32 true); node = Slot 1 }) }) }) (record { spot = record { line = 68; column = 25 }; ty = (Int I64 true); node = Read (record { spot = record { line = 68; column = 25 }; ty = (Int I64 true); node = Slot 0 }) }) }) }) (record { spot = record { line = 68; column = 33 }; ty = (Int U64 true); node = Convert (record { spot = record { line = 68; column = 59 }; ty = (Int I32 false); node = Number (pos 48) }) }) }) (record { spot = record { line = 68; column = 68 }; ty = (Int U64 true); node = Convert (record { spot = record { line = 68; column = 68 }; ty = (Int U64 false); node = Number (pos 3) }) }) }) }) }) } ∷ []) }) } ∷ []) })) } ∷ []) }) None } ∷ record { spot = record { line = 72; column = 5 }; node = Declare (record { spot = record { line = 72; column = 9 }; slot = 6; init = Some (record { spot = record { line = 72; column = 15 }; ty = (Int I32 false); node = Logic true (record { spot = record { line = 72; column = 16 }; ty = (Int KBool false); node = Convert (record { spot = record { line = 72; column = 16 }; ty = (Int I64 false); node = Call 1 (record { spot = record { line = 72; column = 21 }; ty = (Int I8 true); node = Convert (record { spot = record { line = 72; column = 21 }; ty = (Int KBool true); node = Unary Not (record { spot = record { line = 72; column = 22 }; ty = (Int KBool true); node = Convert (record { spot = record { line = 72; column = 22 }; ty = (Int I64 true); node = Read (record { spot = record { line = 72; column = 22 }; ty = (Int I64 true); node = Slot 0 }) }) }) }) } ∷ []) }) }) (record { spot = record { line = 72; column = 32 }; ty = (Int KBool false); node = Convert (record { spot = record { line = 72; column = 32 }; ty = (Int I32 false); node = Convert (record { spot = record { line = 72; column = 44 }; ty = (Int I32 false); node = Number (pos 65535) }) }) }) }) } ∷ []) } ∷ record { spot = record { line = 73; column = 5 }; node = OblivIf (record { spot = record { line = 73; column = 15 }; ty = (Int KBool true); node = Logic false (record { spot = record { line = 73; column = 15 }; ty = (Int KBool true); node = Convert (record { spot = record { line = 73; column = 15 }; ty = (Int I32 false); node = Binary Shr (record { spot = record { line = 73; column = 15 }; ty = (Int I32 false); node = Read (record { spot = record { line = 73; column = 15 }; ty = (Int I32 false); node = Slot 6 }) }) (record { spot = record { line = 73; column = 23 }; ty = (Int I32 false); node = Read (record { spot = record { line = 73; column = 23 }; ty = (Int I32 false); node = Slot 6 }) }) }) }) (record { spot = record { line = 73; column = 33 }; ty = (Int KBool true); node = Convert (record { spot = record { line = 73; column = 33 }; ty = (Int I64 true); node = Update Sub (record { spot = record { line = 73; column = 35 }; ty = (Int I64 true); node = Slot 0 }) (record { spot = record { line = 73; column = 33 }; ty = (Int I64 true); node = Convert (record { spot = record { line = 73; column = 33 }; ty = (Int I32 false); node = Number (pos 1) }) }) false }) }) }) (record { spot = record { line = 74; column = 5 }; node = Block (record { spot = record { line = 75; column = 7 }; node = For (ForDeclare (record { spot = record { line = 75; column = 16 }; slot = 7; init = Some (record { spot = record { line = 75; column = 22 }; ty = (Int I32 false); node = Number (pos 0) }) } ∷ [])) (Some (record { spot = record { line = 75; column = 25 }; ty = (Int I32 false); node = Binary Less (record { spot = record { line = 75; column = 25 }; ty = (Int I32 false); node = Read (record { spot = record { line = 75; column = 25 }; ty = (Int I32 false); node = Slot 7 }) }) (record { spot = record { line = 75; column = 31 }; ty = (Int I32 false); node = Number (pos 2) }) })) (Some (record { spot = record { line = 75; column = 34 }; ty = (Int I32 false); node = Update Add (record { spot = record { line = 75; column = 34 }; ty = (Int I32 false); node = Slot 7 }) (record { spot = record { line = 75; column = 34 }; ty = (Int I32 false); node = Number (pos 1) }) true })) (record { spot = record { line = 76; column = 7 }; node = Block (record { spot = record { line = 77; column = 9 }; node = For (ForDeclare (record { spot = record { line = 77; column = 18 }; slot = 8; init = Some (record { spot = record { line = 77; column = 24 }; ty = (Int I32 false); node = Number (pos 0) }) } ∷ [])) (Some (record { spot = record { line = 77; column = 27 }; ty = (Int I32 false); node = Binary Less (record { spot = record { line = 77; column = 27 }; ty = (Int I32 false); node = Read (record { spot = record { line = 77; column = 27 }; ty = (Int I32 false); node = Slot 8 }) }) (record { spot = record { line = 77; column = 33 }; ty = (Int I32 false); node = Number (pos 2) }) })) (Some (record { spot = record { line = 77; column = 36 }; ty = (Int I32 false); node = Update Add (record { spot = record { line = 77; column = 36 }; ty = (Int I32 false); node = Slot 8 }) (record { spot = record { line = 77; column = 43 }; ty = (Int I32 false); node = Number (pos 1) }) false })) (record { spot = record { line = 78; column = 9 }; node = Block (record { spot = record { line = 79; column = 11 }; node = Express (record { spot = record { line = 79; column = 11 }; ty = (Int I64 true); node = Update Shl (record { spot = record { line = 79; column = 11 }; ty = (Int I64 true); node = Slot 0 }) (record { spot = record { line = 79; column = 19 }; ty = (Int I64 true); node = Binary Sub (record { spot = record { line = 79; column = 19 }; ty = (Int I64 true); node = Read (record { spot = record { line = 79; column = 19 }; ty = (Int I64 true); node = Slot 0 }) }) (record { spot = record { line = 79; column = 26 }; ty = (Int I64 true); node = Convert (record { spot = record { line = 79; column = 50 }; ty = (Int I32 false); node = Number (pos 3) }) }) }) false }) } ∷ []) }) } ∷ record { spot = record { line = 81; column = 9 }; node = Declare (record { spot = record { line = 81; column = 29 }; slot = 9; init = Some (record { spot = record { line = 81; column = 35 }; ty = (Int I64 true); node = Convert (record { spot = record { line = 81; column = 35 }; ty = (Int KBool true); node = Binary Less (record { spot = record { line = 81; column = 35 }; ty = (Int I64 true); node = Convert (record { spot = record { line = 81; column = 35 }; ty = (Int I32 false); node = Binary Sub (record { spot = record { line = 81; column = 35 }; ty = (Int I32 false); node = Read (record { spot = record { line = 81; column = 35 }; ty = (Int I32 false); node = Slot 6 }) }) (record { spot = record { line = 81; column = 41 }; ty = (Int I32 false); node = Read (record { spot = record { line = 81; column = 41 }; ty = (Int I32 false); node = Slot 6 }) }) }) }) (record { spot = record { line = 81; column = 47 }; ty = (Int I64 true); node = Read (record { spot = record { line = 81; column = 47 }; ty = (Int I64 true); node = Slot 0 }) }) }) }) } ∷ []) } ∷ []) }) } ∷ record { spot = record { line = 83; column = 7 }; node = Express (record { spot = record { line = 83; column = 7 }; ty = (Int I64 true); node = Assign (record { spot = record { line = 83; column = 7 }; ty = (Int I64 true); node = Slot 0 }) (record { spot = record { line = 83; column = 13 }; ty = (Int I64 true); node = Read (record { spot = record { line = 83; column = 13 }; ty = (Int I64 true); node = Slot 0 }) }) }) } ∷ record { spot = record { line = 84; column = 7 }; node = Declare (record { spot = record { line = 84; column = 20 }; slot = 10; init = None } ∷ record { spot = record { line = 84; column = 25 }; slot = 11; init = Some (record { spot = record { line = 84; column = 31 }; ty = (Int I32 true); node = Convert (record { spot = record { line = 84; column = 31 }; ty = (Int I64 false); node = Call 1 (record { spot = record { line = 84; column = 37 }; ty = (Int I8 true); node = Convert (record { spot = record { line = 84; column = 37 }; ty = (Int I64 true); node = Update Add (record { spot = record { line = 84; column = 37 }; ty = (Int I64 true); node = Slot 0 }) (record { spot = record { line = 84; column = 44 }; ty = (Int I64 true); node = Convert (record { spot = record { line = 84; column = 44 }; ty = (Int I32 true); node = Read (record { spot = record { line = 84; column = 44 }; ty = (Int I32 true); node = Slot 1 }) }) }) false }) } ∷ []) }) }) } ∷ []) } ∷ []) }) (Some (record { spot = record { line = 87; column = 5 }; node = Block (record { spot = record { line = 88; column = 7 }; node = Express (record { spot = record { line = 88; column = 7 }; ty = (Int I32 true); node = Update Div (record { spot = record { line = 88; column = 7 }; ty = (Int I32 true); node = Slot 1 }) (record { spot = record { line = 88; column = 14 }; ty = (Int I32 true); node = Convert (record { spot = record { line = 88; column = 14 }; ty = (Int KBool true); node = Logic false (record { spot = record { line = 88; column = 14 }; ty = (Int KBool true); node = Convert (record { spot = record { line = 88; column = 14 }; ty = (Int I64 true); node = Unary Neg (record { spot = record { line = 88; column = 15 }; ty = (Int I64 true); node = Read (record { spot = record { line = 88; column = 15 }; ty = (Int I64 true); node = Slot 0 }) }) }) }) (record { spot = record { line = 88; column = 22 }; ty = (Int KBool true); node = Convert (record { spot = record { line = 88; column = 22 }; ty = (Int I32 true); node = Read (record { spot = record { line = 88; column = 22 }; ty = (Int I32 true); node = Slot 1 }) }) }) }) }) false }) } ∷ []) })) } ∷ []) }) None } ∷ record { spot = record { line = 91; column = 3 }; node = Declare (record { spot = record { line = 91; column = 18 }; slot = 12; init = Some (record { spot = record { line = 91; column = 25 }; ty = (Int I64 true); node = Convert (record { spot = record { line = 91; column = 25 }; ty = (Int U64 true); node = Choose (record { spot = record { line = 91; column = 25 }; ty = (Int I32 false); node = Number (pos 2) }) (record { spot = record { line = 91; column = 29 }; ty = (Int U64 true); node = Convert (record { spot = record { line = 91; column = 29 }; ty = (Int U16 true); node = Convert (record { spot = record { line = 91; column = 55 }; ty = (Int I64 true); node = Read (record { spot = record { line = 91; column = 55 }; ty = (Int I64 true); node = Slot 0 }) }) }) }) (record { spot = record { line = 91; column = 62 }; ty = (Int U64 true); node = Convert (record { spot = record { line = 91; column = 87 }; ty = (Int I32 true); node = Read (record { spot = record { line = 91; column = 87 }; ty = (Int I32 true); node = Slot 1 }) }) }) }) }) } ∷ []) } ∷ record { spot = record { line = 92; column = 3 }; node = Declare (record { spot = record { line = 92; column = 17 }; slot = 13; init = Some (record { spot = record { line = 92; column = 23 }; ty = (Pointer false (Int I32 true)); node = Convert (record { spot = record { line = 92; column = 23 }; ty = (Pointer false (Int I32 true)); node = Known Malloc (record { spot = record { line = 92; column = 30 }; ty = (Int I32 false); node = Number (pos 3) } ∷ []) }) }) } ∷ []) } ∷ record { spot = record { line = 93; column = 3 }; node = Declare (record { spot = record { line = 93; column = 8 }; slot = 14; init = Some (record { spot = record { line = 93; column = 14 }; ty = (Int I8 false); node = Convert (record { spot = record { line = 93; column = 14 }; ty = (Int I32 false); node = Binary GreaterEq (record { spot = record { line = 93; column = 14 }; ty = (Int I32 false); node = Number (pos 1) }) (record { spot = record { line = 93; column = 19 }; ty = (Int I32 false); node = Binary Shl (record { spot = record { line = 93; column = 19 }; ty = (Int I32 false); node = Number (pos 15) }) (record { spot = record { line = 93; column = 27 }; ty = (Int I64 false); node = Choose (record { spot = record { line = 93; column = 27 }; ty = (Int I32 false); node = Number (pos 128) }) (record { spot = record { line = 93; column = 34 }; ty = (Int I64 false); node = Number (pos 16) }) (record { spot = record { line = 93; column = 43 }; ty = (Int I64 false); node = Convert (record { spot = record { line = 93; column = 43 }; ty = (Int U32 false); node = Number (pos 4294967295) }) }) }) }) }) }) } ∷ record { spot = record { line = 93; column = 59 }; slot = 15; init = Some (record { spot = record { line = 93; column = 65 }; ty = (Int I8 false); node = Convert (record { spot = record { line = 93; column = 65 }; ty = (Int I32 false); node = Known (PrivateCount 2) [] }) }) } ∷ []) } ∷ record { spot = record { line = 94; column = 3 }; node = Block (record { spot = record { line = 95; column = 5 }; node = OblivIf (record { spot = record { line = 95; column = 16 }; ty = (Int KBool true); node = Convert (record { spot = record { line = 95; column = 16 }; ty = (Int I32 true); node = Read (record { spot = record { line = 95; column = 16 }; ty = (Int I32 true); node = Deref (record { spot = record { line = 95; column = 17 }; ty = (Pointer false (Int I32 true)); node = Read (record { spot = record { line = 95; column = 17 }; ty = (Pointer false (Int I32 true)); node = Slot 13 }) }) }) }) }) (record { spot = record { line = 96; column = 5 }; node = Block (record { spot = record { line = 97; column = 7 }; node = Express (record { spot = record { line = 97; column = 7 }; ty = (Int I64 true); node = Update Add (record { spot = record { line = 97; column = 7 }; ty = (Int I64 true); node = Slot 0 }) (record { spot = record { line = 97; column = 15 }; ty = (Int U64 true); node = Convert (record { spot = record { line = 97; column = 15 }; ty = (Int U64 false); node = Choose (record { spot = record { line = 97; column = 16 }; ty = (Int I32 false); node = Binary Div (record { spot = record { line = 97; column = 16 }; ty = (Int I32 false); node = Convert (record { spot = record { line = 97; column = 16 }; ty = (Int I8 false); node = Read (record { spot = record { line = 97; column = 16 }; ty = (Int I8 false); node = Slot 15 }) }) }) (record { spot = record { line = 97; column = 22 }; ty = (Int I32 false); node = Number (pos 6) }) }) (record { spot = record { line = 97; column = 27 }; ty = (Int U64 false); node = Convert (record { spot = record { line = 97; column = 27 }; ty = (Int I32 false); node = Binary Equal (record { spot = record { line = 97; column = 27 }; ty = (Int I32 false); node = Convert (record { spot = record { line = 97; column = 27 }; ty = (Int I8 false); node = Read (record { spot = record { line = 97; column = 27 }; ty = (Int I8 false); node = Slot 14 }) }) }) (record { spot = record { line = 97; column = 34 }; ty = (Int I32 false); node = Convert (record { spot = record { line = 97; column = 34 }; ty = (Int I8 false); node = Read (record { spot = record { line = 97; column = 34 }; ty = (Int I8 false); node = Slot 14 }) }) }) }) }) (record { spot = record { line = 97; column = 40 }; ty = (Int U64 false); node = Number (pos 18446744073709551615) }) }) }) false }) } ∷ record { spot = record { line = 98; column = 7 }; node = Declare (record { spot = record { line = 98; column = 11 }; slot = 16; init = Some (record { spot = record { line = 98; column = 17 }; ty = (Int I32 false); node = Convert (record { spot = record { line = 98; column = 17 }; ty = (Int I64 false); node = Binary Shr (record { spot = record { line = 98; column = 18 }; ty = (Int I64 false); node = Call 1 (record { spot = record { line = 98; column = 23 }; ty = (Int I8 true); node = Convert (record { spot = record { line = 98; column = 23 }; ty = (Int I8 false); node = Read (record { spot = record { line = 98; column = 23 }; ty = (Int I8 false); node = Slot 15 }) }) } ∷ []) }) (record { spot = record { line = 98; column = 33 }; ty = (Int I32 false); node = Binary Add (record { spot = record { line = 98; column = 33 }; ty = (Int I32 false); node = Convert (record { spot = record { line = 98; column = 33 }; ty = (Int I8 false); node = Read (record { spot = record { line = 98; column = 33 }; ty = (Int I8 false); node = Slot 15 }) }) }) (record { spot = record { line = 98; column = 39 }; ty = (Int I32 false); node = Convert (record { spot = record { line = 98; column = 39 }; ty = (Int I8 false); node = Read (record { spot = record { line = 98; column = 39 }; ty = (Int I8 false); node = Slot 14 }) }) }) }) }) }) } ∷ []) } ∷ []) }) None } ∷ record { spot = record { line = 100; column = 5 }; node = Declare (record { spot = record { line = 100; column = 14 }; slot = 17; init = None } ∷ []) } ∷ []) } ∷ record { spot = record { line = 102; column = 3 }; node = Declare (record { spot = record { line = 102; column = 23 }; slot = 18; init = Some (record { spot = record { line = 102; column = 29 }; ty = (Int I16 false); node = Convert (record { spot = record { line = 102; column = 29 }; ty = (Int I32 false); node = Number (pos 3) }) }) } ∷ []) } ∷ record { spot = record { line = 103; column = 3 }; node = Declare (record { spot = record { line = 103; column = 7 }; slot = 19; init = Some (record { spot = record { line = 103; column = 13 }; ty = (Int I32 false); node = Number (pos 0) }) } ∷ []) } ∷ record { spot = record { line = 104; column = 3 }; node = While (record { spot = record { line = 104; column = 10 }; ty = (Int I32 false); node = Binary Greater (record { spot = record { line = 104; column = 10 }; ty = (Int I32 false); node = Update Sub (record { spot = record { line = 104; column = 10 }; ty = (Int I32 false); node = Slot 19 }) (record { spot = record { line = 104; column = 10 }; ty = (Int I32 false); node = Number (pos 1) }) true }) (record { spot = record { line = 104; column = 18 }; ty = (Int I32 false); node = Number (pos 0) }) }) (record { spot = record { line = 105; column = 3 }; node = Block (record { spot = record { line = 106; column = 5 }; node = Declare (record { spot = record { line = 106; column = 30 }; slot = 20; init = Some (record { spot = record { line = 106; column = 36 }; ty = (Int I8 true); node = Convert (record { spot = record { line = 106; column = 36 }; ty = (Int I64 true); node = Read (record { spot = record { line = 106; column = 36 }; ty = (Int I64 true); node = Slot 0 }) }) }) } ∷ record { spot = record { line = 106; column = 41 }; slot = 21; init = Some (record { spot = record { line = 106; column = 47 }; ty = (Int I8 true); node = Convert (record { spot = record { line = 106; column = 47 }; ty = (Int I64 true); node = Binary Add (record { spot = record { line = 106; column = 47 }; ty = (Int I64 true); node = Convert (record { spot = record { line = 106; column = 47 }; ty = (Int I32 false); node = Binary Add (record { spot = record { line = 106; column = 47 }; ty = (Int I32 false); node = Number (pos 0) }) (record { spot = record { line = 106; column = 51 }; ty = (Int I32 false); node = Convert (record { spot = record { line = 106; column = 51 }; ty = (Int I8 false); node = Read (record { spot = record { line = 106; column = 51 }; ty = (Int I8 false); node = Slot 15 }) }) }) }) }) (record { spot = record { line = 106; column = 59 }; ty = (Int I64 true); node = Choose (record { spot = record { line = 106; column = 59 }; ty = (Int I32 false); node = Read (record { spot = record { line = 106; column = 59 }; ty = (Int I32 false); node = Slot 19 }) }) (record { spot = record { line = 106; column = 65 }; ty = (Int I64 true); node = Read (record { spot = record { line = 106; column = 65 }; ty = (Int I64 true); node = Slot 12 }) }) (record { spot = record { line = 106; column = 71 }; ty = (Int I64 true); node = Convert (record { spot = record { line = 106; column = 71 }; ty = (Int I16 false); node = Read (record { spot = record { line = 106; column = 71 }; ty = (Int I16 false); node = Slot 18 }) }) }) }) }) }) } ∷ []) } ∷ []) }) } ∷ record { spot = record { line = 108; column = 3 }; node = If (record { spot = record { line = 108; column = 7 }; ty = (Int I32 false); node = Unary Not (record { spot = record { line = 108; column = 9 }; ty = (Int KBool false); node = Convert (record { spot = record { line = 108; column = 9 }; ty = (Int I64 false); node = Binary And (record { spot = record { line = 108; column = 9 }; ty = (Int I64 false); node = Number (pos 33) }) (record { spot = record { line = 108; column = 16 }; ty = (Int I64 false); node = Convert (record { spot = record { line = 108; column = 16 }; ty = (Int I32 false); node = Read (record { spot = record { line = 108; column = 16 }; ty = (Int I32 false); node = Slot 19 }) }) }) }) }) }) (record { spot = record { line = 109; column = 3 }; node = Block (record { spot = record { line = 110; column = 5 }; node = Express (record { spot = record { line = 110; column = 5 }; ty = (Int I32 true); node = Assign (record { spot = record { line = 110; column = 6 }; ty = (Int I32 true); node = Deref (record { spot = record { line = 110; column = 7 }; ty = (Pointer false (Int I32 true)); node = Read (record { spot = record { line = 110; column = 7 }; ty = (Pointer false (Int I32 true)); node = Slot 13 }) }) }) (record { spot = record { line = 110; column = 14 }; ty = (Int I32 true); node = Convert (record { spot = record { line = 110; column = 14 }; ty = (Int I64 true); node = Unary Plus (record { spot = record { line = 110; column = 17 }; ty = (Int I64 true); node = Choose (record { spot = record { line = 110; column = 18 }; ty = (Int I32 false); node = Unary Not (record { spot = record { line = 110; column = 19 }; ty = (Int KBool false); node = Convert (record { spot = record { line = 110; column = 19 }; ty = (Int I16 false); node = Read (record { spot = record { line = 110; column = 19 }; ty = (Int I16 false); node = Slot 18 }) }) }) }) (record { spot = record { line = 110; column = 26 }; ty = (Int I64 true); node = Convert (record { spot = record { line = 110; column = 26 }; ty = (Int I64 false); node = Call 1 (record { spot = record { line = 110; column = 31 }; ty = (Int I8 true); node = Convert (record { spot = record { line = 110; column = 31 }; ty = (Int I32 false); node = Read (record { spot = record { line = 110; column = 31 }; ty = (Int I32 false); node = Slot 19 }) }) } ∷ []) }) }) (record { spot = record { line = 110; column = 38 }; ty = (Int I64 true); node = Convert (record { spot = record { line = 110; column = 38 }; ty = (Int KBool true); node = Convert (record { spot = record { line = 110; column = 50 }; ty = (Int I16 false); node = Read (record { spot = record { line = 110; column = 50 }; ty = (Int I16 false); node = Slot 18 }) }) }) }) }) }) }) }) } ∷ []) }) (Some (record { spot = record { line = 113; column = 3 }; node = Block (record { spot = record { line = 114; column = 5 }; node = For (ForDeclare (record { spot = record { line = 114; column = 14 }; slot = 22; init = Some (record { spot = record { line = 114; column = 20 }; ty = (Int I32 false); node = Number (pos 0) }) } ∷ [])) (Some (record { spot = record { line = 114; column = 23 }; ty = (Int I32 false); node = Binary Less (record { spot = record { line = 114; column = 23 }; ty = (Int I32 false); node = Read (record { spot = record { line = 114; column = 23 }; ty = (Int I32 false); node = Slot 22 }) }) (record { spot = record { line = 114; column = 29 }; ty = (Int I32 false); node = Number (pos 1) }) })) (Some (record { spot = record { line = 114; column = 32 }; ty = (Int I32 false); node = Update Add (record { spot = record { line = 114; column = 32 }; ty = (Int I32 false); node = Slot 22 }) (record { spot = record { line = 114; column = 39 }; ty = (Int I32 false); node = Number (pos 1) }) false })) (record { spot = record { line = 115; column = 5 }; node = Block (record { spot = record { line = 116; column = 7 }; node = If (record { spot = record { line = 116; column = 11 }; ty = (Int I32 false); node = Known (PrivateCount 2) [] }) (record { spot = record { line = 117; column = 7 }; node = Block (record { spot = record { line = 118; column = 9 }; node = Express (record { spot = record { line = 118; column = 9 }; ty = (Int I64 true); node = Assign (record { spot = record { line = 118; column = 9 }; ty = (Int I64 true); node = Slot 0 }) (record { spot = record { line = 118; column = 15 }; ty = (Int I64 true); node = Convert (record { spot = record { line = 118; column = 15 }; ty = (Int I32 false); node = Binary NotEqual (record { spot = record { line = 118; column = 16 }; ty = (Int I32 false); node = Binary Less (record { spot = record { line = 118; column = 18 }; ty = (Int I64 false); node = Choose (record { spot = record { line = 118; column = 18 }; ty = (Int I32 false); node = Read (record { spot = record { line = 118; column = 18 }; ty = (Int I32 false); node = Slot 22 }) }) (record { spot = record { line = 118; column = 24 }; ty = (Int I64 false); node = Number (pos 0) }) (record { spot = record { line = 118; column = 30 }; ty = (Int I64 false); node = Convert (record { spot = record { line = 118; column = 30 }; ty = (Int I32 false); node = Read (record { spot = record { line = 118; column = 30 }; ty = (Int I32 false); node = Slot 22 }) }) }) }) (record { spot = record { line = 118; column = 38 }; ty = (Int I64 false); node = Convert (record { spot = record { line = 118; column = 38 }; ty = (Int I32 false); node = Read (record { spot = record { line = 118; column = 38 }; ty = (Int I32 false); node = Slot 19 }) }) }) }) (record { spot = record { line = 118; column = 46 }; ty = (Int I32 false); node = Number (pos 8) }) }) }) }) } ∷ record { spot = record { line = 119; column = 9 }; node = Declare (record { spot = record { line = 119; column = 19 }; slot = 23; init = None } ∷ []) } ∷ []) }) None } ∷ record { spot = record { line = 121; column = 7 }; node = Declare (record { spot = record { line = 121; column = 27 }; slot = 24; init = None } ∷ []) } ∷ record { spot = record { line = 122; column = 7 }; node = Express (record { spot = record { line = 122; column = 7 }; ty = (Int I8 false); node = Update Shl (record { spot = record { line = 122; column = 7 }; ty = (Int I8 false); node = Slot 14 }) (record { spot = record { line = 122; column = 15 }; ty = (Int I32 false); node = Convert (record { spot = record { line = 122; column = 15 }; ty = (Int I8 false); node = Read (record { spot = record { line = 122; column = 15 }; ty = (Int I8 false); node = Slot 15 }) }) }) false }) } ∷ []) }) } ∷ []) })) } ∷ record { spot = record { line = 125; column = 3 }; node = Declare (record { spot = record { line = 125; column = 7 }; slot = 25; init = Some (record { spot = record { line = 125; column = 13 }; ty = (Int I32 false); node = Number (pos 1) }) } ∷ []) } ∷ record { spot = record { line = 126; column = 3 }; node = While (record { spot = record { line = 126; column = 10 }; ty = (Int I32 false); node = Binary Greater (record { spot = record { line = 126; column = 10 }; ty = (Int I32 false); node = Update Sub (record { spot = record { line = 126; column = 10 }; ty = (Int I32 false); node = Slot 25 }) (record { spot = record { line = 126; column = 10 }; ty = (Int I32 false); node = Number (pos 1) }) true }) (record { spot = record { line = 126; column = 18 }; ty = (Int I32 false); node = Number (pos 0) }) }) (record { spot = record { line = 127; column = 3 }; node = Block (record { spot = record { line = 128; column = 5 }; node = Declare (record { spot = record { line = 128; column = 9 }; slot = 26; init = None } ∷ []) } ∷ record { spot = record { line = 129; column = 5 }; node = Express (record { spot = record { line = 129; column = 5 }; ty = Nothing; node = Known (Reveals I32) (record { spot = record { line = 129; column = 20 }; ty = (Pointer false (Int I32 false)); node = Convert (record { spot = record { line = 129; column = 20 }; ty = (Pointer false (Int I32 false)); node = AddressOf (record { spot = record { line = 129; column = 21 }; ty = (Int I32 false); node = Slot 26 }) }) } ∷ record { spot = record { line = 129; column = 26 }; ty = (Int I32 true); node = Convert (record { spot = record { line = 129; column = 26 }; ty = (Int I32 false); node = Binary Rem (record { spot = record { line = 129; column = 28 }; ty = (Int I32 false); node = Convert (record { spot = record { line = 129; column = 28 }; ty = (Int I8 false); node = Assign (record { spot = record { line = 129; column = 28 }; ty = (Int I8 false); node = Slot 15 }) (record { spot = record { line = 129; column = 34 }; ty = (Int I8 false); node = Convert (record { spot = record { line = 129; column = 34 }; ty = (Int I32 false); node = Read (record { spot = record { line = 129; column = 34 }; ty = (Int I32 false); node = Slot 19 }) }) }) }) }) (record { spot = record { line = 129; column = 43 }; ty = (Int I32 false); node = Binary Add (record { spot = record { line = 129; column = 44 }; ty = (Int I32 false); node = Binary And (record { spot = record { line = 129; column = 44 }; ty = (Int I32 false); node = Known (PrivateCount 1) [] }) (record { spot = record { line = 129; column = 64 }; ty = (Int I32 false); node = Number (pos 7) }) }) (record { spot = record { line = 129; column = 69 }; ty = (Int I32 false); node = Number (pos 1) }) }) }) } ∷ []) }) } ∷ record { spot = record { line = 130; column = 5 }; node = Express (record { spot = record { line = 130; column = 5 }; ty = Nothing; node = Known (Prints (Decimal I32 ∷ Text (10 ∷ []) ∷ [])) (record { spot = record { line = 130; column = 20 }; ty = (Int I32 false); node = Read (record { spot = record { line = 130; column = 20 }; ty = (Int I32 false); node = Slot 26 }) } ∷ []) }) } ∷ []) }) } ∷ record { spot = record { line = 132; column = 3 }; node = Express (record { spot = record { line = 132; column = 3 }; ty = (Int I32 true); node = Update Mul (record { spot = record { line = 132; column = 3 }; ty = (Int I32 true); node = Index (record { spot = record { line = 132; column = 3 }; ty = (Pointer false (Int I32 true)); node = Read (record { spot = record { line = 132; column = 3 }; ty = (Pointer false (Int I32 true)); node = Slot 13 }) }) (record { spot = record { line = 132; column = 7 }; ty = (Int I32 false); node = Number (pos 0) }) }) (record { spot = record { line = 132; column = 13 }; ty = (Int U32 true); node = Convert (record { spot = record { line = 132; column = 29 }; ty = (Int I32 true); node = Read (record { spot = record { line = 132; column = 29 }; ty = (Int I32 true); node = Index (record { spot = record { line = 132; column = 29 }; ty = (Pointer false (Int I32 true)); node = Read (record { spot = record { line = 132; column = 29 }; ty = (Pointer false (Int I32 true)); node = Slot 13 }) }) (record { spot = record { line = 132; column = 33 }; ty = (Int I32 false); node = Number (pos 0) }) }) }) }) false }) } ∷ record { spot = record { line = 133; column = 3 }; node = Declare (record { spot = record { line = 133; column = 15 }; slot = 27; init = None } ∷ []) } ∷ record { spot = record { line = 134; column = 3 }; node = Express (record { spot = record { line = 134; column = 3 }; ty = (Int I8 false); node = Update Sub (record { spot = record { line = 134; column = 3 }; ty = (Int I8 false); node = Slot 14 }) (record { spot = record { line = 134; column = 11 }; ty = (Int I32 false); node = Choose (record { spot = record { line = 134; column = 12 }; ty = (Int I32 false); node = Unary Neg (record { spot = record { line = 134; column = 13 }; ty = (Int I32 false); node = Convert (record { spot = record { line = 134; column = 13 }; ty = (Int I8 false); node = Read (record { spot = record { line = 134; column = 13 }; ty = (Int I8 false); node = Slot 14 }) }) }) }) (record { spot = record { line = 134; column = 20 }; ty = (Int I32 false); node = Read (record { spot = record { line = 134; column = 20 }; ty = (Int I32 false); node = Slot 25 }) }) (record { spot = record { line = 134; column = 27 }; ty = (Int I32 false); node = Binary Xor (record { spot = record { line = 134; column = 27 }; ty = (Int I32 false); node = Read (record { spot = record { line = 134; column = 27 }; ty = (Int I32 false); node = Slot 19 }) }) (record { spot = record { line = 134; column = 33 }; ty = (Int I32 false); node = Convert (record { spot = record { line = 134; column = 33 }; ty = (Int I16 false); node = Read (record { spot = record { line = 134; column = 33 }; ty = (Int I16 false); node = Slot 18 }) }) }) }) }) false }) } ∷ record { spot = record { line = 135; column = 3 }; node = Express (record { spot = record { line = 135; column = 3 }; ty = (Int I32 true); node = Update Add (record { spot = record { line = 135; column = 3 }; ty = (Int I32 true); node = Index (record { spot = record { line = 135; column = 3 }; ty = (Pointer false (Int I32 true)); node = Read (record { spot = record { line = 135; column = 3 }; ty = (Pointer false (Int I32 true)); node = Slot 13 }) }) (record { spot = record { line = 135; column = 7 }; ty = (Int I32 false); node = Number (pos 0) }) }) (record { spot = record { line = 135; column = 13 }; ty = (Int I32 true); node = Convert (record { spot = record { line = 135; column = 13 }; ty = (Int KBool true); node = Binary Greater (record { spot = record { line = 135; column = 13 }; ty = (Int I64 true); node = Read (record { spot = record { line = 135; column = 13 }; ty = (Int I64 true); node = Slot 0 }) }) (record { spot = record { line = 135; column = 19 }; ty = (Int I64 true); node = Convert (record { spot = record { line = 135; column = 19 }; ty = (Int I32 true); node = Read (record { spot = record { line = 135; column = 19 }; ty = (Int I32 true); node = Slot 1 }) }) }) }) }) false }) } ∷ record { spot = record { line = 136; column = 3 }; node = Express (record { spot = record { line = 136; column = 3 }; ty = (Int I64 true); node = Assign (record { spot = record { line = 136; column = 3 }; ty = (Int I64 true); node = Slot 0 }) (record { spot = record { line = 136; column = 9 }; ty = (Int I64 true); node = Convert (record { spot = record { line = 136; column = 9 }; ty = (Int KBool true); node = Unary Not (record { spot = record { line = 136; column = 11 }; ty = (Int KBool true); node = Convert (record { spot = record { line = 136; column = 11 }; ty = (Int I32 true); node = Convert (record { spot = record { line = 136; column = 23 }; ty = (Int I32 false); node = Unary Flip (record { spot = record { line = 136; column = 24 }; ty = (Int I32 false); node = Number (pos 1) }) }) }) }) }) }) }) } ∷ record { spot = record { line = 137; column = 3 }; node = Declare (record { spot = record { line = 137; column = 12 }; slot = 28; init = None } ∷ []) } ∷ record { spot = record { line = 138; column = 3 }; node = Express (record { spot = record { line = 138; column = 3 }; ty = Nothing; node = Known (Reveals I64) (record { spot = record { line = 138; column = 20 }; ty = (Pointer false (Int I64 false)); node = Convert (record { spot = record { line = 138; column = 20 }; ty = (Pointer false (Int I64 false)); node = AddressOf (record { spot = record { line = 138; column = 21 }; ty = (Int I64 false); node = Slot 28 }) }) } ∷ record { spot = record { line = 138; column = 26 }; ty = (Int I64 true); node = Read (record { spot = record { line = 138; column = 26 }; ty = (Int I64 true); node = Slot 0 }) } ∷ []) }) } ∷ record { spot = record { line = 139; column = 3 }; node = Express (record { spot = record { line = 139; column = 3 }; ty = Nothing; node = Known (Prints (Decimal I64 ∷ Text (10 ∷ []) ∷ [])) (record { spot = record { line = 139; column = 20 }; ty = (Int I64 false); node = Read (record { spot = record { line = 139; column = 20 }; ty = (Int I64 false); node = Slot 28 }) } ∷ []) }) } ∷ record { spot = record { line = 140; column = 3 }; node = Declare (record { spot = record { line = 140; column = 14 }; slot = 29; init = None } ∷ []) } ∷ record { spot = record { line = 141; column = 3 }; node = Express (record { spot = record { line = 141; column = 3 }; ty = Nothing; node = Known (Reveals I32) (record { spot = record { line = 141; column = 18 }; ty = (Pointer false (Int I32 false)); node = Convert (record { spot = record { line = 141; column = 18 }; ty = (Pointer false (Int I32 false)); node = AddressOf (record { spot = record { line = 141; column = 19 }; ty = (Int I32 false); node = Slot 29 }) }) } ∷ record { spot = record { line = 141; column = 24 }; ty = (Int I32 true); node = Read (record { spot = record { line = 141; column = 24 }; ty = (Int I32 true); node = Slot 1 }) } ∷ []) }) } ∷ record { spot = record { line = 142; column = 3 }; node = Express (record { spot = record { line = 142; column = 3 }; ty = Nothing; node = Known (Prints (Decimal I32 ∷ Text (10 ∷ []) ∷ [])) (record { spot = record { line = 142; column = 18 }; ty = (Int I32 false); node = Read (record { spot = record { line = 142; column = 18 }; ty = (Int I32 false); node = Slot 29 }) } ∷ []) }) } ∷ record { spot = record { line = 143; column = 3 }; node = Express (record { spot = record { line = 143; column = 3 }; ty = Nothing; node = Known (Gives I64 2) (record { spot = record { line = 143; column = 12 }; ty = (Int I64 true); node = Read (record { spot = record { line = 143; column = 12 }; ty = (Int I64 true); node = Slot 12 }) } ∷ []) }) } ∷ record { spot = record { line = 144; column = 3 }; node = Express (record { spot = record { line = 144; column = 3 }; ty = Nothing; node = Known (Prints (Decimal I32 ∷ Text (10 ∷ []) ∷ [])) (record { spot = record { line = 144; column = 18 }; ty = (Int I32 false); node = Convert (record { spot = record { line = 144; column = 18 }; ty = (Int I8 false); node = Read (record { spot = record { line = 144; column = 18 }; ty = (Int I8 false); node = Slot 14 }) }) } ∷ []) }) } ∷ record { spot = record { line = 145; column = 3 }; node = Express (record { spot = record { line = 145; column = 3 }; ty = Nothing; node = Known (Prints (Decimal I32 ∷ Text (10 ∷ []) ∷ [])) (record { spot = record { line = 145; column = 18 }; ty = (Int I32 false); node = Convert (record { spot = record { line = 145; column = 18 }; ty = (Int I8 false); node = Read (record { spot = record { line = 145; column = 18 }; ty = (Int I8 false); node = Slot 15 }) }) } ∷ []) }) } ∷ record { spot = record { line = 146; column = 3 }; node = Express (record { spot = record { line = 146; column = 3 }; ty = Nothing; node = Known (Prints (Decimal I32 ∷ Text (10 ∷ []) ∷ [])) (record { spot = record { line = 146; column = 18 }; ty = (Int I32 false); node = Convert (record { spot = record { line = 146; column = 18 }; ty = (Int I16 false); node = Read (record { spot = record { line = 146; column = 18 }; ty = (Int I16 false); node = Slot 18 }) }) } ∷ []) }) } ∷ record { spot = record { line = 147; column = 3 }; node = Express (record { spot = record { line = 147; column = 3 }; ty = Nothing; node = Known (Prints (Decimal I32 ∷ Text (10 ∷ []) ∷ [])) (record { spot = record { line = 147; column = 18 }; ty = (Int I32 false); node = Read (record { spot = record { line = 147; column = 18 }; ty = (Int I32 false); node = Slot 19 }) } ∷ []) }) } ∷ record { spot = record { line = 148; column = 3 }; node = Express (record { spot = record { line = 148; column = 3 }; ty = Nothing; node = Known (Prints (Decimal I32 ∷ Text (10 ∷ []) ∷ [])) (record { spot = record { line = 148; column = 18 }; ty = (Int I32 false); node = Read (record { spot = record { line = 148; column = 18 }; ty = (Int I32 false); node = Slot 25 }) } ∷ []) }) } ∷ record { spot = record { line = 149; column = 3 }; node = Declare (record { spot = record { line = 149; column = 20 }; slot = 30; init = None } ∷ []) } ∷ record { spot = record { line = 150; column = 3 }; node = Express (record { spot = record { line = 150; column = 3 }; ty = Nothing; node = Known (Reveals I16) (record { spot = record { line = 150; column = 20 }; ty = (Pointer false (Int I16 false)); node = Convert (record { spot = record { line = 150; column = 20 }; ty = (Pointer false (Int I16 false)); node = AddressOf (record { spot = record { line = 150; column = 21 }; ty = (Int I16 false); node = Slot 30 }) }) } ∷ record { spot = record { line = 150; column = 26 }; ty = (Int I16 true); node = Read (record { spot = record { line = 150; column = 26 }; ty = (Int I16 true); node = Index (record { spot = record { line = 150; column = 26 }; ty = (Pointer false (Int I16 true)); node = Decay (record { spot = record { line = 150; column = 26 }; ty = (Array 4 (Int I16 true)); node = Slot 27 }) }) (record { spot = record { line = 150; column = 30 }; ty = (Int I32 false); node = Number (pos 0) }) }) } ∷ []) }) } ∷ record { spot = record { line = 151; column = 3 }; node = Express (record { spot = record { line = 151; column = 3 }; ty = Nothing; node = Known (Prints (Decimal I32 ∷ Text (10 ∷ []) ∷ [])) (record { spot = record { line = 151; column = 18 }; ty = (Int I32 false); node = Convert (record { spot = record { line = 151; column = 18 }; ty = (Int I16 false); node = Read (record { spot = record { line = 151; column = 18 }; ty = (Int I16 false); node = Slot 30 }) }) } ∷ []) }) } ∷ record { spot = record { line = 152; column = 3 }; node = Declare (record { spot = record { line = 152; column = 16 }; slot = 31; init = None } ∷ []) } ∷ record { spot = record { line = 153; column = 3 }; node = Express (record { spot = record { line = 153; column = 3 }; ty = Nothing; node = Known (Reveals I16) (record { spot = record { line = 153; column = 20 }; ty = (Pointer false (Int I16 false)); node = Convert (record { spot = record { line = 153; column = 20 }; ty = (Pointer false (Int I16 false)); node = AddressOf (record { spot = record { line = 153; column = 21 }; ty = (Int I16 false); node = Slot 31 }) }) } ∷ record { spot = record { line = 153; column = 26 }; ty = (Int I16 true); node = Read (record { spot = record { line = 153; column = 26 }; ty = (Int I16 true); node = Index (record { spot = record { line = 153; column = 26 }; ty = (Pointer false (Int I16 true)); node = Decay (record { spot = record { line = 153; column = 26 }; ty = (Array 4 (Int I16 true)); node = Slot 27 }) }) (record { spot = record { line = 153; column = 30 }; ty = (Int I32 false); node = Number (pos 1) }) }) } ∷ []) }) } ∷ record { spot = record { line = 154; column = 3 }; node = Express (record { spot = record { line = 154; column = 3 }; ty = Nothing; node = Known (Prints (Decimal I32 ∷ Text (10 ∷ []) ∷ [])) (record { spot = record { line = 154; column = 18 }; ty = (Int I32 false); node = Convert (record { spot = record { line = 154; column = 18 }; ty = (Int I16 false); node = Read (record { spot = record { line = 154; column = 18 }; ty = (Int I16 false); node = Slot 31 }) }) } ∷ []) }) } ∷ record { spot = record { line = 155; column = 3 }; node = Declare (record { spot = record { line = 155; column = 13 }; slot = 32; init = None } ∷ []) } ∷ record { spot = record { line = 156; column = 3 }; node = Express (record { spot = record { line = 156; column = 3 }; ty = Nothing; node = Known (Reveals I16) (record { spot = record { line = 156; column = 20 }; ty = (Pointer false (Int I16 false)); node = Convert (record { spot = record { line = 156; column = 20 }; ty = (Pointer false (Int I16 false)); node = AddressOf (record { spot = record { line = 156; column = 21 }; ty = (Int I16 false); node = Slot 32 }) }) } ∷ record { spot = record { line = 156; column = 26 }; ty = (Int I16 true); node = Read (record { spot = record { line = 156; column = 26 }; ty = (Int I16 true); node = Index (record { spot = record { line = 156; column = 26 }; ty = (Pointer false (Int I16 true)); node = Decay (record { spot = record { line = 156; column = 26 }; ty = (Array 4 (Int I16 true)); node = Slot 27 }) }) (record { spot = record { line = 156; column = 30 }; ty = (Int I32 false); node = Number (pos 2) }) }) } ∷ []) }) } ∷ record { spot = record { line = 157; column = 3 }; node = Express (record { spot = record { line = 157; column = 3 }; ty = Nothing; node = Known (Prints (Decimal I32 ∷ Text (10 ∷ []) ∷ [])) (record { spot = record { line = 157; column = 18 }; ty = (Int I32 false); node = Convert (record { spot = record { line = 157; column = 18 }; ty = (Int I16 false); node = Read (record { spot = record { line = 157; column = 18 }; ty = (Int I16 false); node = Slot 32 }) }) } ∷ []) }) } ∷ record { spot = record { line = 158; column = 3 }; node = Declare (record { spot = record { line = 158; column = 13 }; slot = 33; init = None } ∷ []) } ∷ record { spot = record { line = 159; column = 3 }; node = Express (record { spot = record { line = 159; column = 3 }; ty = Nothing; node = Known (Reveals I16) (record { spot = record { line = 159; column = 20 }; ty = (Pointer false (Int I16 false)); node = Convert (record { spot = record { line = 159; column = 20 }; ty = (Pointer false (Int I16 false)); node = AddressOf (record { spot = record { line = 159; column = 21 }; ty = (Int I16 false); node = Slot 33 }) }) } ∷ record { spot = record { line = 159; column = 26 }; ty = (Int I16 true); node = Read (record { spot = record { line = 159; column = 26 }; ty = (Int I16 true); node = Index (record { spot = record { line = 159; column = 26 }; ty = (Pointer false (Int I16 true)); node = Decay (record { spot = record { line = 159; column = 26 }; ty = (Array 4 (Int I16 true)); node = Slot 27 }) }) (record { spot = record { line = 159; column = 30 }; ty = (Int I32 false); node = Number (pos 3) }) }) } ∷ []) }) } ∷ record { spot = record { line = 160; column = 3 }; node = Express (record { spot = record { line = 160; column = 3 }; ty = Nothing; node = Known (Prints (Decimal I32 ∷ Text (10 ∷ []) ∷ [])) (record { spot = record { line = 160; column = 18 }; ty = (Int I32 false); node = Convert (record { spot = record { line = 160; column = 18 }; ty = (Int I16 false); node = Read (record { spot = record { line = 160; column = 18 }; ty = (Int I16 false); node = Slot 33 }) }) } ∷ []) }) } ∷ []) } ∷ [])

abbrev setup : ClearSetup
setup = record { public = []; first = ((negsuc 2147483647) ∷ (pos 31) ∷ []); second = ((pos 7) ∷ (negsuc 7) ∷ []); dealt = 1048576; budget = 3000 }

clear : Clear structs functions 3 setup (Revealed I32 (negsuc 0) ∷ Printed (45 ∷ 49 ∷ 10 ∷ []) ∷ Revealed I64 (pos 0) ∷ Printed (48 ∷ 10 ∷ []) ∷ Revealed I32 (pos 8) ∷ Printed (56 ∷ 10 ∷ []) ∷ Given 2 I64 (pos 8) ∷ Printed (52 ∷ 10 ∷ []) ∷ Printed (45 ∷ 49 ∷ 10 ∷ []) ∷ Printed (51 ∷ 10 ∷ []) ∷ Printed (45 ∷ 49 ∷ 10 ∷ []) ∷ Printed (45 ∷ 49 ∷ 10 ∷ []) ∷ Revealed I16 (pos 0) ∷ Printed (48 ∷ 10 ∷ []) ∷ Revealed I16 (pos 0) ∷ Printed (48 ∷ 10 ∷ []) ∷ Revealed I16 (pos 0) ∷ Printed (48 ∷ 10 ∷ []) ∷ Revealed I16 (pos 0) ∷ Printed (48 ∷ 10 ∷ []) ∷ []) Done
unfolding digits hidden-the_row-TExpr-0 hidden-the_row-TExpr-1 hidden-the_row-TPlace-2 hidden-the_row-TStmt-0 hidden-the_row-TStmt-1 hidden-the_row-CType-0 hidden
clear = (refl, refl)

left : Left (clear_walk structs functions 3 setup) 2875 1048544
unfolding digits hidden-the_row-TExpr-0 hidden-the_row-TExpr-1 hidden-the_row-TPlace-2 hidden-the_row-TStmt-0 hidden-the_row-TStmt-1 hidden-the_row-CType-0 hidden
left = (refl, refl)

events : Ends (events_walk structs functions 3 (known_of setup) 1048576 ((negsuc 0) ∷ (pos 0) ∷ (pos 8) ∷ (pos 0) ∷ (pos 0) ∷ (pos 0) ∷ (pos 0) ∷ []) 3000)
    (Feed 1 I64 1 ∷ Feed 2 I32 0 ∷ Turn I64 KBool (Of 0) ∷ Op Xor I64 (Of 0) (Fix I64 (pos 5)) ∷ Turn I64 KBool (Of 3) ∷ Op And KBool (Of 2) (Of 4) ∷ Op Sub I64 (Of 0) (Fix I64 (pos 1)) ∷ Pick I64 (Of 5) (Of 6) (Of 0) ∷ Op Add I32 (Of 1) (Fix I32 (pos 1)) ∷ Pick I32 (Of 5) (Of 8) (Of 1) ∷ Turn I32 KBool (Of 1) ∷ Op And KBool (Of 5) (Of 10) ∷ Turn I32 KBool (Of 9) ∷ Turn KBool I32 (Of 12) ∷ Op Or I32 (Of 9) (Of 13) ∷ ShiftBy Shl I32 (Of 14) (pos 31) ∷ Turn I32 I64 (Of 15) ∷ Op Or I64 (Of 7) (Of 16) ∷ Pick I64 (Of 11) (Of 17) (Of 7) ∷ Turn I64 KBool (Of 18) ∷ Pick KBool (Of 11) (Of 19) (Of 12) ∷ Op Add I32 (Fix I32 (pos 0)) (Fix I32 (pos 0)) ∷ Turn KBool I32 (Of 20) ∷ Op Or I32 (Of 9) (Of 22) ∷ ShiftBy Shl I32 (Of 23) (pos 31) ∷ Turn I32 I64 (Of 24) ∷ Op Or I64 (Of 18) (Of 25) ∷ Pick I64 (Of 11) (Of 26) (Of 18) ∷ Turn I64 KBool (Of 27) ∷ Pick KBool (Of 11) (Of 28) (Of 20) ∷ Op Add I32 (Fix I32 (pos 1)) (Fix I32 (pos 39)) ∷ Turn KBool I32 (Of 29) ∷ Op Or I32 (Of 9) (Of 31) ∷ ShiftBy Shl I32 (Of 32) (pos 31) ∷ Turn I32 I64 (Of 33) ∷ Op Or I64 (Of 27) (Of 34) ∷ Pick I64 (Of 11) (Of 35) (Of 27) ∷ Turn I64 KBool (Of 36) ∷ Pick KBool (Of 11) (Of 37) (Of 29) ∷ Op Add I32 (Fix I32 (pos 2)) (Fix I32 (pos 39)) ∷ One Plus I32 (Of 9) ∷ Op NotEqual I32 (Of 40) (Of 9) ∷ Turn KBool I8 (Of 41) ∷ Op Xor KBool (Of 5) (Of 11) ∷ Op Xor KBool (Of 2) (Of 5) ∷ Turn I64 KBool (Of 36) ∷ One Not KBool (Of 45) ∷ Turn KBool I8 (Of 46) ∷ Turn I8 I32 (Of 47) ∷ Op Sub I32 (Of 48) (Fix I32 (pos 1)) ∷ Turn I32 I8 (Of 49) ∷ Pick I8 (Of 2) (Of 50) (Of 47) ∷ Op Sub I64 (Of 36) (Fix I64 (pos 1)) ∷ Pick I64 (Of 2) (Of 52) (Of 36) ∷ Turn I64 KBool (Of 53) ∷ Op Or KBool (Fix KBool (pos 0)) (Of 54) ∷ Op And KBool (Of 2) (Of 55) ∷ Op Sub I64 (Of 53) (Fix I64 (pos 3)) ∷ Op Shl I64 (Of 53) (Of 57) ∷ Pick I64 (Of 56) (Of 58) (Of 53) ∷ Op Sub I64 (Of 59) (Fix I64 (pos 3)) ∷ Op Shl I64 (Of 59) (Of 60) ∷ Pick I64 (Of 56) (Of 61) (Of 59) ∷ Op Less I64 (Fix I64 (pos 0)) (Of 62) ∷ Turn KBool I64 (Of 63) ∷ Op Sub I64 (Of 62) (Fix I64 (pos 3)) ∷ Op Shl I64 (Of 62) (Of 65) ∷ Pick I64 (Of 56) (Of 66) (Of 62) ∷ Op Sub I64 (Of 67) (Fix I64 (pos 3)) ∷ Op Shl I64 (Of 67) (Of 68) ∷ Pick I64 (Of 56) (Of 69) (Of 67) ∷ Op Less I64 (Fix I64 (pos 0)) (Of 70) ∷ Turn KBool I64 (Of 71) ∷ Pick I64 (Of 56) (Of 70) (Of 70) ∷ Turn I32 I64 (Of 9) ∷ Op Add I64 (Of 73) (Of 74) ∷ Pick I64 (Of 56) (Of 75) (Of 73) ∷ Turn I64 I8 (Of 76) ∷ Turn I8 I32 (Of 77) ∷ Op Sub I32 (Of 78) (Fix I32 (pos 1)) ∷ Turn I32 I8 (Of 79) ∷ Pick I8 (Of 56) (Of 80) (Of 77) ∷ Op Xor KBool (Of 2) (Of 56) ∷ One Neg I64 (Of 76) ∷ Turn I64 KBool (Of 83) ∷ Turn I32 KBool (Of 9) ∷ Op Or KBool (Of 84) (Of 85) ∷ Turn KBool I32 (Of 86) ∷ Op Div I32 (Of 9) (Of 87) ∷ Pick I32 (Of 82) (Of 88) (Of 9) ∷ One Flip KBool (Of 2) ∷ Turn I64 U16 (Of 76) ∷ Turn U16 U64 (Of 91) ∷ Turn U64 I64 (Of 92) ∷ Turn I32 KBool (Fix I32 (pos 0)) ∷ Turn I64 U64 (Of 76) ∷ Op Add U64 (Of 95) (Fix U64 (pos 18446744073709551615)) ∷ Turn U64 I64 (Of 96) ∷ Pick I64 (Of 94) (Of 97) (Of 76) ∷ Turn I8 I32 (Fix I8 (pos 2)) ∷ Op Sub I32 (Of 99) (Fix I32 (pos 1)) ∷ Turn I32 I8 (Of 100) ∷ Pick I8 (Of 94) (Of 101) (Fix I8 (pos 2)) ∷ One Flip KBool (Of 94) ∷ Reveal I32 (Fix I32 (negsuc 0)) ∷ Print (45 ∷ 49 ∷ 10 ∷ []) ∷ Turn I32 U32 (Fix I32 (pos 0)) ∷ Turn I32 U32 (Fix I32 (pos 0)) ∷ Op Mul U32 (Of 107) (Of 106) ∷ Turn U32 I32 (Of 108) ∷ Turn I32 I64 (Of 89) ∷ Op Greater I64 (Fix I64 (pos 1)) (Of 110) ∷ Turn KBool I32 (Of 111) ∷ Op Add I32 (Of 109) (Of 112) ∷ Turn I32 KBool (Fix I32 (negsuc 1)) ∷ One Not KBool (Of 114) ∷ Turn KBool I64 (Of 115) ∷ Reveal I64 (Of 116) ∷ Print (48 ∷ 10 ∷ []) ∷ Reveal I32 (Of 89) ∷ Print (56 ∷ 10 ∷ []) ∷ Give 2 I64 (Of 93) ∷ Print (52 ∷ 10 ∷ []) ∷ Print (45 ∷ 49 ∷ 10 ∷ []) ∷ Print (51 ∷ 10 ∷ []) ∷ Print (45 ∷ 49 ∷ 10 ∷ []) ∷ Print (45 ∷ 49 ∷ 10 ∷ []) ∷ Reveal I16 (Fix I16 (pos 0)) ∷ Print (48 ∷ 10 ∷ []) ∷ Reveal I16 (Fix I16 (pos 0)) ∷ Print (48 ∷ 10 ∷ []) ∷ Reveal I16 (Fix I16 (pos 0)) ∷ Print (48 ∷ 10 ∷ []) ∷ Reveal I16 (Fix I16 (pos 0)) ∷ Print (48 ∷ 10 ∷ []) ∷ []) Done
unfolding digits hidden-the_row-TExpr-0 hidden-the_row-TExpr-1 hidden-the_row-TPlace-2 hidden-the_row-TStmt-0 hidden-the_row-TStmt-1 hidden-the_row-CType-0 hidden
events = (refl, refl)

plain : IsEnd (plain_walk structs functions 3 setup) (Revealed I32 (negsuc 0) ∷ Printed (45 ∷ 49 ∷ 10 ∷ []) ∷ Revealed I64 (pos 0) ∷ Printed (48 ∷ 10 ∷ []) ∷ Revealed I32 (pos 8) ∷ Printed (56 ∷ 10 ∷ []) ∷ Given 2 I64 (pos 8) ∷ Printed (52 ∷ 10 ∷ []) ∷ Printed (45 ∷ 49 ∷ 10 ∷ []) ∷ Printed (51 ∷ 10 ∷ []) ∷ Printed (45 ∷ 49 ∷ 10 ∷ []) ∷ Printed (45 ∷ 49 ∷ 10 ∷ []) ∷ Revealed I16 (pos 0) ∷ Printed (48 ∷ 10 ∷ []) ∷ Revealed I16 (pos 0) ∷ Printed (48 ∷ 10 ∷ []) ∷ Revealed I16 (pos 0) ∷ Printed (48 ∷ 10 ∷ []) ∷ Revealed I16 (pos 0) ∷ Printed (48 ∷ 10 ∷ []) ∷ []) Done
unfolding digits hidden-the_row-TExpr-0 hidden-the_row-TExpr-1 hidden-the_row-TPlace-2 hidden-the_row-TStmt-0 hidden-the_row-TStmt-1 hidden-the_row-CType-0 hidden
plain = (refl, refl)
