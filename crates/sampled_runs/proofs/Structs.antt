-- A program of structs, pointers, loops and calls under conditions.
-- What its runs show, their events and what they leave were made by an independent model.
use Rattle.std.proofs.Common.{pos, negsuc, List, [], ◌∷◌, Some, None, true, false, refl}
use Rattle.std.specs.Fmt.{digits}
use Rattle.oc_values.specs.declared.integers.IntKind.TheVariants.{Bool as KBool, I8, U8, I16, U16, I32, U32, I64, U64}
use Rattle.oc_values.specs.declared.integers.BinaryOp.TheVariants.{Add, Sub, Mul, Div, Rem, Shl, Shr, And, Or, Xor, Less, LessEq, Greater, GreaterEq}
use Rattle.oc_values.specs.declared.integers.OneOp.TheVariants.{Neg, Plus, Not, Flip}
use Rattle.oc_cells.specs.declared.types.CType.{Int, Pointer, Array, Struct, Nothing}
use Rattle.oc_cells.specs.declared.types.StructType.{StructType}
use Rattle.oc_typed.specs.declared.typed.TExprNode.{Number, Read, AddressOf, Decay, Unary, Binary, Logic, Choose, Assign, Update, Convert, Call, Builtin as Known}
use Rattle.oc_typed.specs.declared.typed.TExprNode.TheBlock.{hidden-the_row-TExpr-0, hidden-the_row-TExpr-1, hidden-the_row-TPlace-2}
use Rattle.oc_typed.specs.declared.typed.TStmtNode.TheBlock.{hidden-the_row-TStmt-0, hidden-the_row-TStmt-1}
use Rattle.oc_cells.specs.declared.types.CType.TheBlock.{hidden-the_row-CType-0}
use denote.Hole.Carrier.{hidden}
use Rattle.oc_typed.specs.declared.typed.TPlaceNode.{Slot, Deref, Index, Field}
use Rattle.oc_typed.specs.declared.typed.Builtin.TheVariants.{Private, Feed as Feeds, Reveal as Reveals, PrivateCount, PublicWord, Print as Prints}
use Rattle.oc_typed.specs.declared.typed.PrintPiece.TheVariants.{Text, Decimal}
use Rattle.oc_typed.specs.declared.typed.TForInit.TheVariants.{Declare as ForDeclare}
use Rattle.oc_typed.specs.declared.typed.TStmtNode.{Declare, Express, Block, If, OblivIf, Always, While, For, Return, Empty}
use Rattle.oc_typed.specs.declared.typed.TypedFunction.{TypedFunction}
use Rattle.oc_walk.specs.declared.run.ShownItem.TheVariants.{Print as Printed, Reveal as Revealed}
use Rattle.oc_walk.specs.declared.run.ClearSetup.{ClearSetup}
use Rattle.oc_walk.specs.declared.run.Outcome.TheVariants.{Done}
use Rattle.oc_meanings.specs.Clear.{Clear, IsEnd, known_of, clear_walk}
use Rattle.oc_meanings.specs.Events.{Fix, Of, Feed, Op, One, Turn, ShiftBy, Pick, Reveal, Print, events_walk}
use Rattle.oc_meanings.specs.Plain.{plain_walk}
use Rattle.sampled_runs.proofs.Small.{Ends, Left}

abbrev structs : List StructType
structs = (record { name = []; fields = (record { name = []; ty = (Array 1 (Int I64 false)); offset = 0 } ∷ record { name = []; ty = (Pointer false (Struct 0)); offset = 1 } ∷ record { name = []; ty = (Pointer false (Struct 0)); offset = 2 } ∷ record { name = []; ty = (Pointer false (Struct 0)); offset = 3 } ∷ []); cells = 4 } ∷ [])

abbrev functions : List TypedFunction
functions = (record { name = []; result = (Int I8 false); params = 2; slots = (record { ty = (Int I64 false); frozen = false } ∷ record { ty = (Int I32 false); frozen = false } ∷ record { ty = (Int U8 true); frozen = false } ∷ record { ty = (Int I16 false); frozen = true } ∷ []); obliv = true; body = (record { spot = record { line = 6; column = 3 }; node = Block (record { spot = record { line = 7; column = 5 }; node = Express (record { spot = record { line = 7; column = 5 }; ty = (Int I32 false); node = Update Sub (record { spot = record { line = 7; column = 5 }; ty = (Int I32 false); node = Slot 1 }) (record { spot = record { line = 7; column = 5 }; ty = (Int I32 false); node = Number (pos 1) }) true }) } ∷ record { spot = record { line = 8; column = 5 }; node = Declare (record { spot = record { line = 8; column = 25 }; slot = 2; init = Some (record { spot = record { line = 8; column = 30 }; ty = (Int U8 true); node = Convert (record { spot = record { line = 8; column = 30 }; ty = (Int I64 false); node = Binary Shr (record { spot = record { line = 8; column = 30 }; ty = (Int I64 false); node = Read (record { spot = record { line = 8; column = 30 }; ty = (Int I64 false); node = Slot 0 }) }) (record { spot = record { line = 8; column = 37 }; ty = (Int I32 false); node = Number (pos 0) }) }) }) } ∷ []) } ∷ []) } ∷ record { spot = record { line = 10; column = 3 }; node = Express (record { spot = record { line = 10; column = 3 }; ty = (Int I32 false); node = Assign (record { spot = record { line = 10; column = 3 }; ty = (Int I32 false); node = Slot 1 }) (record { spot = record { line = 10; column = 8 }; ty = (Int I32 false); node = Binary And (record { spot = record { line = 10; column = 10 }; ty = (Int I32 false); node = Update Or (record { spot = record { line = 10; column = 10 }; ty = (Int I32 false); node = Slot 1 }) (record { spot = record { line = 10; column = 16 }; ty = (Int I32 false); node = Convert (record { spot = record { line = 10; column = 24 }; ty = (Int I32 false); node = Number (pos 16) }) }) false }) (record { spot = record { line = 10; column = 32 }; ty = (Int I32 false); node = Convert (record { spot = record { line = 10; column = 46 }; ty = (Int I64 false); node = Choose (record { spot = record { line = 10; column = 46 }; ty = (Int I64 false); node = Read (record { spot = record { line = 10; column = 46 }; ty = (Int I64 false); node = Slot 0 }) }) (record { spot = record { line = 10; column = 51 }; ty = (Int I64 false); node = Convert (record { spot = record { line = 10; column = 51 }; ty = (Int I32 false); node = Read (record { spot = record { line = 10; column = 51 }; ty = (Int I32 false); node = Slot 1 }) }) }) (record { spot = record { line = 10; column = 56 }; ty = (Int I64 false); node = Read (record { spot = record { line = 10; column = 56 }; ty = (Int I64 false); node = Slot 0 }) }) }) }) }) }) } ∷ record { spot = record { line = 11; column = 3 }; node = Declare (record { spot = record { line = 11; column = 16 }; slot = 3; init = Some (record { spot = record { line = 11; column = 22 }; ty = (Int I16 false); node = Convert (record { spot = record { line = 11; column = 22 }; ty = (Int I64 false); node = Read (record { spot = record { line = 11; column = 22 }; ty = (Int I64 false); node = Slot 0 }) }) }) } ∷ []) } ∷ record { spot = record { line = 12; column = 3 }; node = Return (Some (record { spot = record { line = 12; column = 10 }; ty = (Int I8 false); node = Convert (record { spot = record { line = 12; column = 10 }; ty = (Int I32 false); node = Logic true (record { spot = record { line = 12; column = 10 }; ty = (Int KBool false); node = Convert (record { spot = record { line = 12; column = 10 }; ty = (Int I32 false); node = Binary Div (record { spot = record { line = 12; column = 10 }; ty = (Int I32 false); node = Number (pos 0) }) (record { spot = record { line = 12; column = 14 }; ty = (Int I32 false); node = Number (pos 2) }) }) }) (record { spot = record { line = 12; column = 19 }; ty = (Int KBool false); node = Convert (record { spot = record { line = 12; column = 19 }; ty = (Int I64 false); node = Read (record { spot = record { line = 12; column = 19 }; ty = (Int I64 false); node = Slot 0 }) }) }) }) })) } ∷ []) } ∷ record { name = []; result = (Int KBool true); params = 0; slots = (record { ty = (Int I16 true); frozen = false } ∷ record { ty = (Int I16 true); frozen = false } ∷ record { ty = (Int I32 false); frozen = false } ∷ record { ty = (Int I32 false); frozen = false } ∷ []); obliv = false; body = (record { spot = record { line = 16; column = 3 }; node = Declare (record { spot = record { line = 16; column = 26 }; slot = 0; init = Some (record { spot = record { line = 16; column = 32 }; ty = (Int I16 true); node = Convert (record { spot = record { line = 16; column = 32 }; ty = (Int I32 false); node = Binary GreaterEq (record { spot = record { line = 16; column = 33 }; ty = (Int I32 false); node = Logic true (record { spot = record { line = 16; column = 33 }; ty = (Int KBool false); node = Convert (record { spot = record { line = 16; column = 33 }; ty = (Int I32 false); node = Number (pos 10) }) }) (record { spot = record { line = 16; column = 41 }; ty = (Int KBool false); node = Convert (record { spot = record { line = 16; column = 41 }; ty = (Int I32 false); node = Number (pos 33) }) }) }) (record { spot = record { line = 16; column = 48 }; ty = (Int I32 false); node = Number (pos 18) }) }) }) } ∷ record { spot = record { line = 16; column = 52 }; slot = 1; init = Some (record { spot = record { line = 16; column = 58 }; ty = (Int I16 true); node = Convert (record { spot = record { line = 16; column = 58 }; ty = (Int I32 false); node = Number (pos 6) }) }) } ∷ []) } ∷ record { spot = record { line = 17; column = 3 }; node = Declare (record { spot = record { line = 17; column = 7 }; slot = 2; init = Some (record { spot = record { line = 17; column = 13 }; ty = (Int I32 false); node = Number (pos 0) }) } ∷ []) } ∷ record { spot = record { line = 18; column = 3 }; node = While (record { spot = record { line = 18; column = 10 }; ty = (Int I32 false); node = Binary Greater (record { spot = record { line = 18; column = 10 }; ty = (Int I32 false); node = Update Sub (record { spot = record { line = 18; column = 10 }; ty = (Int I32 false); node = Slot 2 }) (record { spot = record { line = 18; column = 10 }; ty = (Int I32 false); node = Number (pos 1) }) true }) (record { spot = record { line = 18; column = 18 }; ty = (Int I32 false); node = Number (pos 0) }) }) (record { spot = record { line = 19; column = 3 }; node = Block (record { spot = record { line = 20; column = 5 }; node = Express (record { spot = record { line = 20; column = 5 }; ty = Nothing; node = Known (Prints (Text (97 ∷ 9 ∷ 98 ∷ 32 ∷ 10 ∷ []) ∷ [])) [] }) } ∷ record { spot = record { line = 21; column = 5 }; node = Empty } ∷ record { spot = record { line = 22; column = 5 }; node = Declare (record { spot = record { line = 22; column = 9 }; slot = 3; init = Some (record { spot = record { line = 22; column = 15 }; ty = (Int I32 false); node = Read (record { spot = record { line = 22; column = 15 }; ty = (Int I32 false); node = Slot 2 }) }) } ∷ []) } ∷ []) }) } ∷ record { spot = record { line = 24; column = 3 }; node = Express (record { spot = record { line = 24; column = 3 }; ty = (Int I16 true); node = Update And (record { spot = record { line = 24; column = 3 }; ty = (Int I16 true); node = Slot 0 }) (record { spot = record { line = 24; column = 10 }; ty = (Int I32 true); node = Convert (record { spot = record { line = 24; column = 10 }; ty = (Int I32 false); node = Binary Shl (record { spot = record { line = 24; column = 11 }; ty = (Int I32 false); node = Unary Flip (record { spot = record { line = 24; column = 12 }; ty = (Int I32 false); node = Read (record { spot = record { line = 24; column = 12 }; ty = (Int I32 false); node = Slot 2 }) }) }) (record { spot = record { line = 24; column = 21 }; ty = (Int I64 false); node = Known PublicWord (record { spot = record { line = 24; column = 30 }; ty = (Int I32 false); node = Number (pos 0) } ∷ []) }) }) }) false }) } ∷ record { spot = record { line = 25; column = 3 }; node = Express (record { spot = record { line = 25; column = 3 }; ty = Nothing; node = Known (Prints (Text (34 ∷ 113 ∷ 34 ∷ 32 ∷ []) ∷ Text (37 ∷ []) ∷ Text (10 ∷ []) ∷ [])) [] }) } ∷ record { spot = record { line = 26; column = 3 }; node = Return (Some (record { spot = record { line = 26; column = 10 }; ty = (Int KBool true); node = Convert (record { spot = record { line = 26; column = 10 }; ty = (Int I32 true); node = Binary Sub (record { spot = record { line = 26; column = 11 }; ty = (Int I32 true); node = Binary Add (record { spot = record { line = 26; column = 11 }; ty = (Int I32 true); node = Convert (record { spot = record { line = 26; column = 11 }; ty = (Int I32 false); node = Read (record { spot = record { line = 26; column = 11 }; ty = (Int I32 false); node = Slot 2 }) }) }) (record { spot = record { line = 26; column = 17 }; ty = (Int I32 true); node = Convert (record { spot = record { line = 26; column = 17 }; ty = (Int I16 true); node = Read (record { spot = record { line = 26; column = 17 }; ty = (Int I16 true); node = Slot 0 }) }) }) }) (record { spot = record { line = 26; column = 24 }; ty = (Int I32 true); node = Convert (record { spot = record { line = 26; column = 24 }; ty = (Int I32 false); node = Read (record { spot = record { line = 26; column = 24 }; ty = (Int I32 false); node = Slot 2 }) }) }) }) })) } ∷ []) } ∷ record { name = []; result = (Int I32 false); params = 2; slots = (record { ty = (Pointer false (Int I8 false)); frozen = false } ∷ record { ty = (Int I64 false); frozen = false } ∷ record { ty = (Int I64 true); frozen = false } ∷ record { ty = (Int I16 true); frozen = false } ∷ record { ty = (Int I32 false); frozen = false } ∷ record { ty = (Int I32 true); frozen = false } ∷ record { ty = (Struct 0); frozen = false } ∷ record { ty = (Int I32 false); frozen = false } ∷ record { ty = (Int I32 false); frozen = false } ∷ record { ty = (Int I64 true); frozen = false } ∷ record { ty = (Int I32 true); frozen = false } ∷ record { ty = (Int I32 false); frozen = true } ∷ record { ty = (Int I32 true); frozen = true } ∷ record { ty = (Int U16 true); frozen = false } ∷ record { ty = (Struct 0); frozen = false } ∷ record { ty = (Int I16 true); frozen = false } ∷ record { ty = (Int KBool true); frozen = false } ∷ record { ty = (Struct 0); frozen = false } ∷ record { ty = (Struct 0); frozen = false } ∷ record { ty = (Int I64 true); frozen = false } ∷ record { ty = (Int U16 true); frozen = false } ∷ record { ty = (Int I32 true); frozen = false } ∷ record { ty = (Int I32 true); frozen = false } ∷ record { ty = (Int U32 true); frozen = false } ∷ []); obliv = false; body = (record { spot = record { line = 29; column = 3 }; node = OblivIf (record { spot = record { line = 29; column = 14 }; ty = (Int KBool true); node = Convert (record { spot = record { line = 29; column = 14 }; ty = (Int I8 false); node = Update Add (record { spot = record { line = 29; column = 16 }; ty = (Int I8 false); node = Index (record { spot = record { line = 29; column = 16 }; ty = (Pointer false (Int I8 false)); node = Read (record { spot = record { line = 29; column = 16 }; ty = (Pointer false (Int I8 false)); node = Slot 0 }) }) (record { spot = record { line = 29; column = 20 }; ty = (Int I32 false); node = Number (pos 0) }) }) (record { spot = record { line = 29; column = 14 }; ty = (Int I32 false); node = Number (pos 1) }) false }) }) (record { spot = record { line = 30; column = 3 }; node = Block (record { spot = record { line = 31; column = 5 }; node = OblivIf (record { spot = record { line = 31; column = 15 }; ty = (Int KBool true); node = Convert (record { spot = record { line = 31; column = 15 }; ty = (Int I64 false); node = Read (record { spot = record { line = 31; column = 15 }; ty = (Int I64 false); node = Slot 1 }) }) }) (record { spot = record { line = 32; column = 5 }; node = Block (record { spot = record { line = 33; column = 7 }; node = OblivIf (record { spot = record { line = 33; column = 17 }; ty = (Int KBool true); node = Convert (record { spot = record { line = 33; column = 17 }; ty = (Int I64 false); node = Unary Flip (record { spot = record { line = 33; column = 18 }; ty = (Int I64 false); node = Read (record { spot = record { line = 33; column = 18 }; ty = (Int I64 false); node = Slot 1 }) }) }) }) (record { spot = record { line = 34; column = 7 }; node = Block (record { spot = record { line = 35; column = 9 }; node = Declare (record { spot = record { line = 35; column = 20 }; slot = 2; init = None } ∷ []) } ∷ record { spot = record { line = 36; column = 9 }; node = Declare (record { spot = record { line = 36; column = 25 }; slot = 3; init = Some (record { spot = record { line = 36; column = 31 }; ty = (Int I16 true); node = Convert (record { spot = record { line = 36; column = 31 }; ty = (Int I64 true); node = Update Sub (record { spot = record { line = 36; column = 31 }; ty = (Int I64 true); node = Slot 2 }) (record { spot = record { line = 36; column = 31 }; ty = (Int I64 true); node = Convert (record { spot = record { line = 36; column = 31 }; ty = (Int I32 false); node = Number (pos 1) }) }) true }) }) } ∷ []) } ∷ record { spot = record { line = 37; column = 9 }; node = Express (record { spot = record { line = 37; column = 9 }; ty = (Int I16 true); node = Update Add (record { spot = record { line = 37; column = 9 }; ty = (Int I16 true); node = Slot 3 }) (record { spot = record { line = 37; column = 16 }; ty = (Int I64 true); node = Convert (record { spot = record { line = 37; column = 16 }; ty = (Int I64 false); node = Read (record { spot = record { line = 37; column = 16 }; ty = (Int I64 false); node = Slot 1 }) }) }) false }) } ∷ []) }) None } ∷ record { spot = record { line = 39; column = 7 }; node = For (ForDeclare (record { spot = record { line = 39; column = 16 }; slot = 4; init = Some (record { spot = record { line = 39; column = 22 }; ty = (Int I32 false); node = Number (pos 0) }) } ∷ [])) (Some (record { spot = record { line = 39; column = 25 }; ty = (Int I32 false); node = Binary Less (record { spot = record { line = 39; column = 25 }; ty = (Int I32 false); node = Read (record { spot = record { line = 39; column = 25 }; ty = (Int I32 false); node = Slot 4 }) }) (record { spot = record { line = 39; column = 31 }; ty = (Int I32 false); node = Number (pos 2) }) })) (Some (record { spot = record { line = 39; column = 34 }; ty = (Int I32 false); node = Update Add (record { spot = record { line = 39; column = 36 }; ty = (Int I32 false); node = Slot 4 }) (record { spot = record { line = 39; column = 34 }; ty = (Int I32 false); node = Number (pos 1) }) false })) (record { spot = record { line = 40; column = 7 }; node = Block (record { spot = record { line = 41; column = 9 }; node = Declare (record { spot = record { line = 41; column = 22 }; slot = 5; init = None } ∷ []) } ∷ []) }) } ∷ []) }) None } ∷ record { spot = record { line = 44; column = 5 }; node = OblivIf (record { spot = record { line = 44; column = 15 }; ty = (Int KBool true); node = Convert (record { spot = record { line = 44; column = 15 }; ty = (Int I32 false); node = Unary Neg (record { spot = record { line = 44; column = 16 }; ty = (Int I32 false); node = Number (pos 65535) }) }) }) (record { spot = record { line = 45; column = 5 }; node = Block (record { spot = record { line = 46; column = 7 }; node = Declare (record { spot = record { line = 46; column = 17 }; slot = 6; init = None } ∷ []) } ∷ record { spot = record { line = 47; column = 7 }; node = For (ForDeclare (record { spot = record { line = 47; column = 16 }; slot = 7; init = Some (record { spot = record { line = 47; column = 22 }; ty = (Int I32 false); node = Number (pos 0) }) } ∷ [])) (Some (record { spot = record { line = 47; column = 25 }; ty = (Int I32 false); node = Binary Less (record { spot = record { line = 47; column = 25 }; ty = (Int I32 false); node = Read (record { spot = record { line = 47; column = 25 }; ty = (Int I32 false); node = Slot 7 }) }) (record { spot = record { line = 47; column = 31 }; ty = (Int I32 false); node = Number (pos 1) }) })) (Some (record { spot = record { line = 47; column = 34 }; ty = (Int I32 false); node = Assign (record { spot = record { line = 47; column = 34 }; ty = (Int I32 false); node = Slot 7 }) (record { spot = record { line = 47; column = 40 }; ty = (Int I32 false); node = Binary Add (record { spot = record { line = 47; column = 40 }; ty = (Int I32 false); node = Read (record { spot = record { line = 47; column = 40 }; ty = (Int I32 false); node = Slot 7 }) }) (record { spot = record { line = 47; column = 46 }; ty = (Int I32 false); node = Number (pos 1) }) }) })) (record { spot = record { line = 48; column = 7 }; node = Block (record { spot = record { line = 49; column = 9 }; node = Express (record { spot = record { line = 49; column = 9 }; ty = (Int I64 false); node = Update Shl (record { spot = record { line = 49; column = 9 }; ty = (Int I64 false); node = Index (record { spot = record { line = 49; column = 9 }; ty = (Pointer false (Int I64 false)); node = Decay (record { spot = record { line = 49; column = 9 }; ty = (Array 1 (Int I64 false)); node = Field (record { spot = record { line = 49; column = 9 }; ty = (Struct 0); node = Slot 6 }) 0 }) }) (record { spot = record { line = 49; column = 16 }; ty = (Int I32 false); node = Number (pos 0) }) }) (record { spot = record { line = 49; column = 24 }; ty = (Int I64 false); node = Choose (record { spot = record { line = 49; column = 24 }; ty = (Int I64 false); node = Read (record { spot = record { line = 49; column = 24 }; ty = (Int I64 false); node = Slot 1 }) }) (record { spot = record { line = 49; column = 30 }; ty = (Int I64 false); node = Binary Or (record { spot = record { line = 49; column = 30 }; ty = (Int I64 false); node = Convert (record { spot = record { line = 49; column = 30 }; ty = (Int I32 false); node = Read (record { spot = record { line = 49; column = 30 }; ty = (Int I32 false); node = Slot 7 }) }) }) (record { spot = record { line = 49; column = 36 }; ty = (Int I64 false); node = Read (record { spot = record { line = 49; column = 36 }; ty = (Int I64 false); node = Slot 1 }) }) }) (record { spot = record { line = 49; column = 42 }; ty = (Int I64 false); node = Read (record { spot = record { line = 49; column = 42 }; ty = (Int I64 false); node = Index (record { spot = record { line = 49; column = 42 }; ty = (Pointer false (Int I64 false)); node = Decay (record { spot = record { line = 49; column = 42 }; ty = (Array 1 (Int I64 false)); node = Field (record { spot = record { line = 49; column = 42 }; ty = (Struct 0); node = Slot 6 }) 0 }) }) (record { spot = record { line = 49; column = 49 }; ty = (Int I32 false); node = Number (pos 0) }) }) }) }) false }) } ∷ record { spot = record { line = 50; column = 9 }; node = Express (record { spot = record { line = 50; column = 9 }; ty = (Int I64 false); node = Update Xor (record { spot = record { line = 50; column = 9 }; ty = (Int I64 false); node = Index (record { spot = record { line = 50; column = 9 }; ty = (Pointer false (Int I64 false)); node = Decay (record { spot = record { line = 50; column = 9 }; ty = (Array 1 (Int I64 false)); node = Field (record { spot = record { line = 50; column = 9 }; ty = (Struct 0); node = Slot 6 }) 0 }) }) (record { spot = record { line = 50; column = 16 }; ty = (Int I32 false); node = Number (pos 0) }) }) (record { spot = record { line = 50; column = 23 }; ty = (Int I64 false); node = Choose (record { spot = record { line = 50; column = 23 }; ty = (Int I64 false); node = Read (record { spot = record { line = 50; column = 23 }; ty = (Int I64 false); node = Index (record { spot = record { line = 50; column = 23 }; ty = (Pointer false (Int I64 false)); node = Decay (record { spot = record { line = 50; column = 23 }; ty = (Array 1 (Int I64 false)); node = Field (record { spot = record { line = 50; column = 23 }; ty = (Struct 0); node = Slot 6 }) 0 }) }) (record { spot = record { line = 50; column = 30 }; ty = (Int I32 false); node = Number (pos 0) }) }) }) (record { spot = record { line = 50; column = 35 }; ty = (Int I64 false); node = Convert (record { spot = record { line = 50; column = 35 }; ty = (Int I32 false); node = Read (record { spot = record { line = 50; column = 35 }; ty = (Int I32 false); node = Slot 7 }) }) }) (record { spot = record { line = 50; column = 41 }; ty = (Int I64 false); node = Read (record { spot = record { line = 50; column = 41 }; ty = (Int I64 false); node = Slot 1 }) }) }) false }) } ∷ record { spot = record { line = 51; column = 9 }; node = Declare (record { spot = record { line = 51; column = 13 }; slot = 8; init = Some (record { spot = record { line = 51; column = 19 }; ty = (Int I32 false); node = Number (pos 0) }) } ∷ []) } ∷ record { spot = record { line = 52; column = 9 }; node = While (record { spot = record { line = 52; column = 16 }; ty = (Int I32 false); node = Binary Greater (record { spot = record { line = 52; column = 16 }; ty = (Int I32 false); node = Update Sub (record { spot = record { line = 52; column = 16 }; ty = (Int I32 false); node = Slot 8 }) (record { spot = record { line = 52; column = 16 }; ty = (Int I32 false); node = Number (pos 1) }) true }) (record { spot = record { line = 52; column = 24 }; ty = (Int I32 false); node = Number (pos 0) }) }) (record { spot = record { line = 53; column = 9 }; node = Block (record { spot = record { line = 54; column = 11 }; node = Express (record { spot = record { line = 54; column = 11 }; ty = (Int I64 false); node = Update Sub (record { spot = record { line = 54; column = 11 }; ty = (Int I64 false); node = Index (record { spot = record { line = 54; column = 11 }; ty = (Pointer false (Int I64 false)); node = Decay (record { spot = record { line = 54; column = 11 }; ty = (Array 1 (Int I64 false)); node = Field (record { spot = record { line = 54; column = 11 }; ty = (Struct 0); node = Slot 6 }) 0 }) }) (record { spot = record { line = 54; column = 18 }; ty = (Int I32 false); node = Number (pos 0) }) }) (record { spot = record { line = 54; column = 24 }; ty = (Int I64 false); node = Convert (record { spot = record { line = 54; column = 24 }; ty = (Int U32 false); node = Binary Div (record { spot = record { line = 54; column = 25 }; ty = (Int U32 false); node = Convert (record { spot = record { line = 54; column = 39 }; ty = (Int I32 false); node = Read (record { spot = record { line = 54; column = 39 }; ty = (Int I32 false); node = Slot 7 }) }) }) (record { spot = record { line = 54; column = 47 }; ty = (Int U32 false); node = Convert (record { spot = record { line = 54; column = 47 }; ty = (Int I32 false); node = Binary Add (record { spot = record { line = 54; column = 48 }; ty = (Int I32 false); node = Binary And (record { spot = record { line = 54; column = 48 }; ty = (Int I32 false); node = Read (record { spot = record { line = 54; column = 48 }; ty = (Int I32 false); node = Slot 7 }) }) (record { spot = record { line = 54; column = 54 }; ty = (Int I32 false); node = Number (pos 7) }) }) (record { spot = record { line = 54; column = 59 }; ty = (Int I32 false); node = Number (pos 3) }) }) }) }) }) false }) } ∷ record { spot = record { line = 55; column = 11 }; node = Declare (record { spot = record { line = 55; column = 27 }; slot = 9; init = Some (record { spot = record { line = 55; column = 33 }; ty = (Int I64 true); node = Convert (record { spot = record { line = 55; column = 33 }; ty = (Int I64 false); node = Read (record { spot = record { line = 55; column = 33 }; ty = (Int I64 false); node = Slot 1 }) }) }) } ∷ []) } ∷ []) }) } ∷ []) }) } ∷ []) }) (Some (record { spot = record { line = 60; column = 5 }; node = Block (record { spot = record { line = 61; column = 7 }; node = OblivIf (record { spot = record { line = 61; column = 18 }; ty = (Int KBool true); node = Convert (record { spot = record { line = 61; column = 18 }; ty = (Int I8 false); node = Read (record { spot = record { line = 61; column = 18 }; ty = (Int I8 false); node = Deref (record { spot = record { line = 61; column = 19 }; ty = (Pointer false (Int I8 false)); node = Read (record { spot = record { line = 61; column = 19 }; ty = (Pointer false (Int I8 false)); node = Slot 0 }) }) }) }) }) (record { spot = record { line = 62; column = 7 }; node = Block (record { spot = record { line = 63; column = 9 }; node = Declare (record { spot = record { line = 63; column = 19 }; slot = 10; init = None } ∷ []) } ∷ record { spot = record { line = 64; column = 9 }; node = If (record { spot = record { line = 64; column = 13 }; ty = (Int I64 false); node = Binary Rem (record { spot = record { line = 64; column = 13 }; ty = (Int I64 false); node = Convert (record { spot = record { line = 64; column = 13 }; ty = (Int I8 false); node = Read (record { spot = record { line = 64; column = 13 }; ty = (Int I8 false); node = Index (record { spot = record { line = 64; column = 13 }; ty = (Pointer false (Int I8 false)); node = Read (record { spot = record { line = 64; column = 13 }; ty = (Pointer false (Int I8 false)); node = Slot 0 }) }) (record { spot = record { line = 64; column = 17 }; ty = (Int I32 false); node = Number (pos 0) }) }) }) }) (record { spot = record { line = 64; column = 23 }; ty = (Int I64 false); node = Binary Add (record { spot = record { line = 64; column = 24 }; ty = (Int I64 false); node = Binary And (record { spot = record { line = 64; column = 24 }; ty = (Int I64 false); node = Read (record { spot = record { line = 64; column = 24 }; ty = (Int I64 false); node = Slot 1 }) }) (record { spot = record { line = 64; column = 30 }; ty = (Int I64 false); node = Convert (record { spot = record { line = 64; column = 30 }; ty = (Int I32 false); node = Number (pos 7) }) }) }) (record { spot = record { line = 64; column = 35 }; ty = (Int I64 false); node = Convert (record { spot = record { line = 64; column = 35 }; ty = (Int U32 false); node = Number (pos 1) }) }) }) }) (record { spot = record { line = 65; column = 9 }; node = Block (record { spot = record { line = 66; column = 11 }; node = Express (record { spot = record { line = 66; column = 11 }; ty = (Int I8 false); node = Call 0 (record { spot = record { line = 66; column = 15 }; ty = (Int I64 false); node = Convert (record { spot = record { line = 66; column = 15 }; ty = (Int I8 false); node = Read (record { spot = record { line = 66; column = 15 }; ty = (Int I8 false); node = Index (record { spot = record { line = 66; column = 15 }; ty = (Pointer false (Int I8 false)); node = Read (record { spot = record { line = 66; column = 15 }; ty = (Pointer false (Int I8 false)); node = Slot 0 }) }) (record { spot = record { line = 66; column = 19 }; ty = (Int I32 false); node = Number (pos 0) }) }) }) } ∷ record { spot = record { line = 66; column = 24 }; ty = (Int I32 false); node = Convert (record { spot = record { line = 66; column = 24 }; ty = (Int I64 false); node = Choose (record { spot = record { line = 66; column = 24 }; ty = (Int I8 false); node = Read (record { spot = record { line = 66; column = 24 }; ty = (Int I8 false); node = Index (record { spot = record { line = 66; column = 24 }; ty = (Pointer false (Int I8 false)); node = Read (record { spot = record { line = 66; column = 24 }; ty = (Pointer false (Int I8 false)); node = Slot 0 }) }) (record { spot = record { line = 66; column = 28 }; ty = (Int I32 false); node = Number (pos 0) }) }) }) (record { spot = record { line = 66; column = 33 }; ty = (Int I64 false); node = Read (record { spot = record { line = 66; column = 33 }; ty = (Int I64 false); node = Slot 1 }) }) (record { spot = record { line = 66; column = 39 }; ty = (Int I64 false); node = Convert (record { spot = record { line = 66; column = 39 }; ty = (Int I8 false); node = Read (record { spot = record { line = 66; column = 39 }; ty = (Int I8 false); node = Index (record { spot = record { line = 66; column = 39 }; ty = (Pointer false (Int I8 false)); node = Read (record { spot = record { line = 66; column = 39 }; ty = (Pointer false (Int I8 false)); node = Slot 0 }) }) (record { spot = record { line = 66; column = 43 }; ty = (Int I32 false); node = Number (pos 0) }) }) }) }) }) } ∷ []) }) } ∷ record { spot = record { line = 67; column = 11 }; node = Express (record { spot = record { line = 67; column = 11 }; ty = (Int I32 true); node = Assign (record { spot = record { line = 67; column = 11 }; ty = (Int I32 true); node = Slot 10 }) (record { spot = record { line = 67; column = 18 }; ty = (Int I32 true); node = Convert (record { spot = record { line = 67; column = 18 }; ty = (Int I32 false); node = Choose (record { spot = record { line = 67; column = 19 }; ty = (Int I8 false); node = Call 0 (record { spot = record { line = 67; column = 23 }; ty = (Int I64 false); node = Read (record { spot = record { line = 67; column = 23 }; ty = (Int I64 false); node = Slot 1 }) } ∷ record { spot = record { line = 67; column = 29 }; ty = (Int I32 false); node = Convert (record { spot = record { line = 67; column = 29 }; ty = (Int I8 false); node = Read (record { spot = record { line = 67; column = 29 }; ty = (Int I8 false); node = Deref (record { spot = record { line = 67; column = 30 }; ty = (Pointer false (Int I8 false)); node = Read (record { spot = record { line = 67; column = 30 }; ty = (Pointer false (Int I8 false)); node = Slot 0 }) }) }) }) } ∷ []) }) (record { spot = record { line = 67; column = 39 }; ty = (Int I32 false); node = Convert (record { spot = record { line = 67; column = 39 }; ty = (Int I8 false); node = Call 0 (record { spot = record { line = 67; column = 43 }; ty = (Int I64 false); node = Convert (record { spot = record { line = 67; column = 43 }; ty = (Int I32 false); node = Binary Shr (record { spot = record { line = 67; column = 43 }; ty = (Int I32 false); node = Number (pos 9) }) (record { spot = record { line = 67; column = 49 }; ty = (Int I32 false); node = Number (pos 5) }) }) } ∷ record { spot = record { line = 67; column = 53 }; ty = (Int I32 false); node = Convert (record { spot = record { line = 67; column = 53 }; ty = (Int I64 false); node = Unary Plus (record { spot = record { line = 67; column = 54 }; ty = (Int I64 false); node = Read (record { spot = record { line = 67; column = 54 }; ty = (Int I64 false); node = Slot 1 }) }) }) } ∷ []) }) }) (record { spot = record { line = 67; column = 63 }; ty = (Int I32 false); node = Convert (record { spot = record { line = 67; column = 63 }; ty = (Int I8 false); node = Read (record { spot = record { line = 67; column = 63 }; ty = (Int I8 false); node = Deref (record { spot = record { line = 67; column = 64 }; ty = (Pointer false (Int I8 false)); node = Read (record { spot = record { line = 67; column = 64 }; ty = (Pointer false (Int I8 false)); node = Slot 0 }) }) }) }) }) }) }) }) } ∷ record { spot = record { line = 68; column = 11 }; node = Express (record { spot = record { line = 68; column = 11 }; ty = (Int I32 true); node = Assign (record { spot = record { line = 68; column = 11 }; ty = (Int I32 true); node = Slot 10 }) (record { spot = record { line = 68; column = 17 }; ty = (Int I32 true); node = Convert (record { spot = record { line = 68; column = 17 }; ty = (Int I32 false); node = Logic false (record { spot = record { line = 68; column = 17 }; ty = (Int KBool false); node = Convert (record { spot = record { line = 68; column = 17 }; ty = (Int I32 false); node = Number (pos 13) }) }) (record { spot = record { line = 68; column = 23 }; ty = (Int KBool false); node = Convert (record { spot = record { line = 68; column = 23 }; ty = (Int I64 false); node = Read (record { spot = record { line = 68; column = 23 }; ty = (Int I64 false); node = Slot 1 }) }) }) }) }) }) } ∷ []) }) (Some (record { spot = record { line = 71; column = 9 }; node = Block (record { spot = record { line = 72; column = 11 }; node = Express (record { spot = record { line = 72; column = 11 }; ty = (Int I32 true); node = Update Add (record { spot = record { line = 72; column = 11 }; ty = (Int I32 true); node = Slot 10 }) (record { spot = record { line = 72; column = 11 }; ty = (Int I32 true); node = Convert (record { spot = record { line = 72; column = 11 }; ty = (Int I32 false); node = Number (pos 1) }) }) true }) } ∷ record { spot = record { line = 73; column = 11 }; node = Declare (record { spot = record { line = 73; column = 22 }; slot = 11; init = Some (record { spot = record { line = 73; column = 28 }; ty = (Int I32 false); node = Logic true (record { spot = record { line = 73; column = 28 }; ty = (Int KBool false); node = Convert (record { spot = record { line = 73; column = 28 }; ty = (Int I32 false); node = Convert (record { spot = record { line = 73; column = 35 }; ty = (Int I8 false); node = Read (record { spot = record { line = 73; column = 35 }; ty = (Int I8 false); node = Deref (record { spot = record { line = 73; column = 36 }; ty = (Pointer false (Int I8 false)); node = Read (record { spot = record { line = 73; column = 36 }; ty = (Pointer false (Int I8 false)); node = Slot 0 }) }) }) }) }) }) (record { spot = record { line = 73; column = 46 }; ty = (Int KBool false); node = Convert (record { spot = record { line = 73; column = 46 }; ty = (Int I64 false); node = Binary Sub (record { spot = record { line = 73; column = 47 }; ty = (Int I64 false); node = Convert (record { spot = record { line = 73; column = 47 }; ty = (Int I8 false); node = Read (record { spot = record { line = 73; column = 47 }; ty = (Int I8 false); node = Deref (record { spot = record { line = 73; column = 48 }; ty = (Pointer false (Int I8 false)); node = Read (record { spot = record { line = 73; column = 48 }; ty = (Pointer false (Int I8 false)); node = Slot 0 }) }) }) }) }) (record { spot = record { line = 73; column = 55 }; ty = (Int I64 false); node = Read (record { spot = record { line = 73; column = 55 }; ty = (Int I64 false); node = Slot 1 }) }) }) }) }) } ∷ []) } ∷ []) })) } ∷ record { spot = record { line = 75; column = 9 }; node = Express (record { spot = record { line = 75; column = 9 }; ty = (Int I32 true); node = Assign (record { spot = record { line = 75; column = 9 }; ty = (Int I32 true); node = Slot 10 }) (record { spot = record { line = 75; column = 15 }; ty = (Int I32 true); node = Convert (record { spot = record { line = 75; column = 15 }; ty = (Int I8 false); node = Call 0 (record { spot = record { line = 75; column = 19 }; ty = (Int I64 false); node = Convert (record { spot = record { line = 75; column = 19 }; ty = (Int I32 false); node = Number (pos 63) }) } ∷ record { spot = record { line = 75; column = 23 }; ty = (Int I32 false); node = Convert (record { spot = record { line = 75; column = 23 }; ty = (Int I64 false); node = Read (record { spot = record { line = 75; column = 23 }; ty = (Int I64 false); node = Slot 1 }) }) } ∷ []) }) }) }) } ∷ []) }) (Some (record { spot = record { line = 78; column = 7 }; node = Block (record { spot = record { line = 79; column = 9 }; node = Declare (record { spot = record { line = 79; column = 29 }; slot = 12; init = Some (record { spot = record { line = 79; column = 36 }; ty = (Int I32 true); node = Convert (record { spot = record { line = 79; column = 36 }; ty = (Int I8 false); node = Read (record { spot = record { line = 79; column = 36 }; ty = (Int I8 false); node = Deref (record { spot = record { line = 79; column = 37 }; ty = (Pointer false (Int I8 false)); node = Read (record { spot = record { line = 79; column = 37 }; ty = (Pointer false (Int I8 false)); node = Slot 0 }) }) }) }) }) } ∷ []) } ∷ []) })) } ∷ []) })) } ∷ record { spot = record { line = 82; column = 5 }; node = Empty } ∷ []) }) (Some (record { spot = record { line = 85; column = 3 }; node = Block (record { spot = record { line = 86; column = 5 }; node = Declare (record { spot = record { line = 86; column = 26 }; slot = 13; init = Some (record { spot = record { line = 86; column = 32 }; ty = (Int U16 true); node = Convert (record { spot = record { line = 86; column = 32 }; ty = (Int I32 false); node = Number (pos 1) }) }) } ∷ []) } ∷ record { spot = record { line = 87; column = 5 }; node = Declare (record { spot = record { line = 87; column = 15 }; slot = 14; init = None } ∷ []) } ∷ []) })) } ∷ record { spot = record { line = 89; column = 3 }; node = OblivIf (record { spot = record { line = 89; column = 13 }; ty = (Int KBool true); node = Call 1 [] }) (record { spot = record { line = 90; column = 3 }; node = Block (record { spot = record { line = 91; column = 5 }; node = Declare (record { spot = record { line = 91; column = 24 }; slot = 15; init = Some (record { spot = record { line = 91; column = 30 }; ty = (Int I16 true); node = Convert (record { spot = record { line = 91; column = 30 }; ty = (Int I32 false); node = Unary Not (record { spot = record { line = 91; column = 33 }; ty = (Int KBool false); node = Convert (record { spot = record { line = 91; column = 33 }; ty = (Int I64 false); node = Choose (record { spot = record { line = 91; column = 33 }; ty = (Int I64 false); node = Read (record { spot = record { line = 91; column = 33 }; ty = (Int I64 false); node = Slot 1 }) }) (record { spot = record { line = 91; column = 39 }; ty = (Int I64 false); node = Read (record { spot = record { line = 91; column = 39 }; ty = (Int I64 false); node = Slot 1 }) }) (record { spot = record { line = 91; column = 47 }; ty = (Int I64 false); node = Convert (record { spot = record { line = 91; column = 47 }; ty = (Int I8 false); node = Read (record { spot = record { line = 91; column = 47 }; ty = (Int I8 false); node = Deref (record { spot = record { line = 91; column = 48 }; ty = (Pointer false (Int I8 false)); node = Read (record { spot = record { line = 91; column = 48 }; ty = (Pointer false (Int I8 false)); node = Slot 0 }) }) }) }) }) }) }) }) }) } ∷ []) } ∷ record { spot = record { line = 92; column = 5 }; node = Always 16 (record { spot = record { line = 92; column = 18 }; node = Block (record { spot = record { line = 93; column = 7 }; node = Declare (record { spot = record { line = 93; column = 17 }; slot = 17; init = None } ∷ []) } ∷ []) }) } ∷ record { spot = record { line = 95; column = 5 }; node = OblivIf (record { spot = record { line = 95; column = 15 }; ty = (Int KBool true); node = Convert (record { spot = record { line = 95; column = 15 }; ty = (Int I32 false); node = Number (pos 1) }) }) (record { spot = record { line = 96; column = 5 }; node = Block (record { spot = record { line = 97; column = 7 }; node = Declare (record { spot = record { line = 97; column = 17 }; slot = 18; init = None } ∷ []) } ∷ record { spot = record { line = 98; column = 7 }; node = Express (record { spot = record { line = 98; column = 7 }; ty = (Int I64 false); node = Assign (record { spot = record { line = 98; column = 7 }; ty = (Int I64 false); node = Index (record { spot = record { line = 98; column = 7 }; ty = (Pointer false (Int I64 false)); node = Decay (record { spot = record { line = 98; column = 7 }; ty = (Array 1 (Int I64 false)); node = Field (record { spot = record { line = 98; column = 7 }; ty = (Struct 0); node = Slot 18 }) 0 }) }) (record { spot = record { line = 98; column = 14 }; ty = (Int I32 false); node = Number (pos 0) }) }) (record { spot = record { line = 98; column = 19 }; ty = (Int I64 false); node = Binary Add (record { spot = record { line = 98; column = 20 }; ty = (Int I64 false); node = Convert (record { spot = record { line = 98; column = 20 }; ty = (Int I32 false); node = Logic true (record { spot = record { line = 98; column = 20 }; ty = (Int KBool false); node = Convert (record { spot = record { line = 98; column = 20 }; ty = (Int I16 false); node = Convert (record { spot = record { line = 98; column = 31 }; ty = (Int I32 false); node = Number (pos 3) }) }) }) (record { spot = record { line = 98; column = 36 }; ty = (Int KBool false); node = Convert (record { spot = record { line = 98; column = 36 }; ty = (Int I64 false); node = Convert (record { spot = record { line = 98; column = 54 }; ty = (Int I8 false); node = Read (record { spot = record { line = 98; column = 54 }; ty = (Int I8 false); node = Index (record { spot = record { line = 98; column = 54 }; ty = (Pointer false (Int I8 false)); node = Read (record { spot = record { line = 98; column = 54 }; ty = (Pointer false (Int I8 false)); node = Slot 0 }) }) (record { spot = record { line = 98; column = 58 }; ty = (Int I32 false); node = Number (pos 0) }) }) }) }) }) }) }) (record { spot = record { line = 98; column = 65 }; ty = (Int I64 false); node = Binary Sub (record { spot = record { line = 98; column = 65 }; ty = (Int I64 false); node = Convert (record { spot = record { line = 98; column = 65 }; ty = (Int I32 false); node = Number (pos 0) }) }) (record { spot = record { line = 98; column = 75 }; ty = (Int I64 false); node = Choose (record { spot = record { line = 98; column = 75 }; ty = (Int I64 false); node = Read (record { spot = record { line = 98; column = 75 }; ty = (Int I64 false); node = Slot 1 }) }) (record { spot = record { line = 98; column = 81 }; ty = (Int I64 false); node = Convert (record { spot = record { line = 98; column = 81 }; ty = (Int I32 false); node = Number (pos 32767) }) }) (record { spot = record { line = 98; column = 90 }; ty = (Int I64 false); node = Read (record { spot = record { line = 98; column = 90 }; ty = (Int I64 false); node = Slot 1 }) }) }) }) }) }) } ∷ record { spot = record { line = 99; column = 7 }; node = Express (record { spot = record { line = 99; column = 7 }; ty = (Int I64 false); node = Update Shr (record { spot = record { line = 99; column = 7 }; ty = (Int I64 false); node = Index (record { spot = record { line = 99; column = 7 }; ty = (Pointer false (Int I64 false)); node = Decay (record { spot = record { line = 99; column = 7 }; ty = (Array 1 (Int I64 false)); node = Field (record { spot = record { line = 99; column = 7 }; ty = (Struct 0); node = Slot 18 }) 0 }) }) (record { spot = record { line = 99; column = 14 }; ty = (Int I32 false); node = Number (pos 0) }) }) (record { spot = record { line = 99; column = 21 }; ty = (Int I32 false); node = Convert (record { spot = record { line = 99; column = 21 }; ty = (Int I8 false); node = Call 0 (record { spot = record { line = 99; column = 25 }; ty = (Int I64 false); node = Read (record { spot = record { line = 99; column = 25 }; ty = (Int I64 false); node = Slot 1 }) } ∷ record { spot = record { line = 99; column = 30 }; ty = (Int I32 false); node = Convert (record { spot = record { line = 99; column = 30 }; ty = (Int I64 false); node = Read (record { spot = record { line = 99; column = 30 }; ty = (Int I64 false); node = Slot 1 }) }) } ∷ []) }) }) false }) } ∷ []) }) (Some (record { spot = record { line = 102; column = 5 }; node = Block (record { spot = record { line = 103; column = 7 }; node = Declare (record { spot = record { line = 103; column = 23 }; slot = 19; init = Some (record { spot = record { line = 103; column = 29 }; ty = (Int I64 true); node = Convert (record { spot = record { line = 103; column = 29 }; ty = (Int I64 false); node = Read (record { spot = record { line = 103; column = 29 }; ty = (Int I64 false); node = Slot 1 }) }) }) } ∷ []) } ∷ record { spot = record { line = 104; column = 7 }; node = Declare (record { spot = record { line = 104; column = 28 }; slot = 20; init = Some (record { spot = record { line = 104; column = 34 }; ty = (Int U16 true); node = Convert (record { spot = record { line = 104; column = 34 }; ty = (Int I64 false); node = Read (record { spot = record { line = 104; column = 34 }; ty = (Int I64 false); node = Slot 1 }) }) }) } ∷ []) } ∷ []) })) } ∷ []) }) (Some (record { spot = record { line = 108; column = 3 }; node = Block (record { spot = record { line = 109; column = 5 }; node = Declare (record { spot = record { line = 109; column = 15 }; slot = 21; init = Some (record { spot = record { line = 109; column = 21 }; ty = (Int I32 true); node = Convert (record { spot = record { line = 109; column = 21 }; ty = (Int I8 false); node = Read (record { spot = record { line = 109; column = 21 }; ty = (Int I8 false); node = Index (record { spot = record { line = 109; column = 21 }; ty = (Pointer false (Int I8 false)); node = Read (record { spot = record { line = 109; column = 21 }; ty = (Pointer false (Int I8 false)); node = Slot 0 }) }) (record { spot = record { line = 109; column = 25 }; ty = (Int I32 false); node = Number (pos 0) }) }) }) }) } ∷ []) } ∷ record { spot = record { line = 110; column = 5 }; node = Declare (record { spot = record { line = 110; column = 15 }; slot = 22; init = Some (record { spot = record { line = 110; column = 21 }; ty = (Int I32 true); node = Convert (record { spot = record { line = 110; column = 21 }; ty = (Int I32 false); node = Number (pos 65536) }) }) } ∷ []) } ∷ []) })) } ∷ record { spot = record { line = 112; column = 3 }; node = OblivIf (record { spot = record { line = 112; column = 13 }; ty = (Int KBool true); node = Convert (record { spot = record { line = 112; column = 13 }; ty = (Int I64 false); node = Read (record { spot = record { line = 112; column = 13 }; ty = (Int I64 false); node = Slot 1 }) }) }) (record { spot = record { line = 113; column = 3 }; node = Block (record { spot = record { line = 114; column = 5 }; node = Declare (record { spot = record { line = 114; column = 20 }; slot = 23; init = None } ∷ []) } ∷ record { spot = record { line = 115; column = 5 }; node = Express (record { spot = record { line = 115; column = 5 }; ty = (Int U32 true); node = Update Div (record { spot = record { line = 115; column = 5 }; ty = (Int U32 true); node = Slot 23 }) (record { spot = record { line = 115; column = 12 }; ty = (Int U32 true); node = Binary Add (record { spot = record { line = 115; column = 13 }; ty = (Int U32 true); node = Binary And (record { spot = record { line = 115; column = 14 }; ty = (Int U32 true); node = Binary Shr (record { spot = record { line = 115; column = 16 }; ty = (Int U32 true); node = Assign (record { spot = record { line = 115; column = 16 }; ty = (Int U32 true); node = Slot 23 }) (record { spot = record { line = 115; column = 22 }; ty = (Int U32 true); node = Convert (record { spot = record { line = 115; column = 22 }; ty = (Int I64 false); node = Read (record { spot = record { line = 115; column = 22 }; ty = (Int I64 false); node = Slot 1 }) }) }) }) (record { spot = record { line = 115; column = 32 }; ty = (Int U32 true); node = Binary Div (record { spot = record { line = 115; column = 32 }; ty = (Int U32 true); node = Read (record { spot = record { line = 115; column = 32 }; ty = (Int U32 true); node = Slot 23 }) }) (record { spot = record { line = 115; column = 38 }; ty = (Int U32 true); node = Convert (record { spot = record { line = 115; column = 38 }; ty = (Int I32 false); node = Number (pos 6) }) }) }) }) (record { spot = record { line = 115; column = 44 }; ty = (Int U32 true); node = Convert (record { spot = record { line = 115; column = 44 }; ty = (Int I32 false); node = Number (pos 7) }) }) }) (record { spot = record { line = 115; column = 49 }; ty = (Int U32 true); node = Convert (record { spot = record { line = 115; column = 49 }; ty = (Int I32 false); node = Number (pos 1) }) }) }) false }) } ∷ []) }) None } ∷ record { spot = record { line = 117; column = 3 }; node = Return (Some (record { spot = record { line = 117; column = 10 }; ty = (Int I32 false); node = Known (PrivateCount 2) [] })) } ∷ []) } ∷ record { name = []; result = Nothing; params = 0; slots = (record { ty = (Int KBool true); frozen = false } ∷ record { ty = (Int I64 true); frozen = false } ∷ record { ty = (Int I64 true); frozen = false } ∷ record { ty = (Int I32 false); frozen = false } ∷ record { ty = (Int I32 false); frozen = false } ∷ record { ty = (Int I32 true); frozen = false } ∷ record { ty = (Int I64 true); frozen = false } ∷ record { ty = (Int KBool false); frozen = false } ∷ record { ty = (Int I64 false); frozen = false } ∷ record { ty = (Int I64 false); frozen = false } ∷ []); obliv = false; body = (record { spot = record { line = 120; column = 3 }; node = Declare (record { spot = record { line = 120; column = 14 }; slot = 0; init = Some (record { spot = record { line = 120; column = 20 }; ty = (Int KBool true); node = Known (Feeds KBool 2) (record { spot = record { line = 120; column = 34 }; ty = (Int I32 false); node = Known Private (record { spot = record { line = 120; column = 44 }; ty = (Int I32 false); node = Number (pos 0) } ∷ []) } ∷ []) }) } ∷ []) } ∷ record { spot = record { line = 121; column = 3 }; node = Declare (record { spot = record { line = 121; column = 19 }; slot = 1; init = Some (record { spot = record { line = 121; column = 25 }; ty = (Int I64 true); node = Known (Feeds I64 1) (record { spot = record { line = 121; column = 40 }; ty = (Int I32 false); node = Known Private (record { spot = record { line = 121; column = 50 }; ty = (Int I32 false); node = Number (pos 2) } ∷ []) } ∷ []) }) } ∷ []) } ∷ record { spot = record { line = 122; column = 3 }; node = Declare (record { spot = record { line = 122; column = 26 }; slot = 2; init = Some (record { spot = record { line = 122; column = 32 }; ty = (Int I64 true); node = Known (Feeds I64 2) (record { spot = record { line = 122; column = 47 }; ty = (Int I32 false); node = Known Private (record { spot = record { line = 122; column = 57 }; ty = (Int I32 false); node = Number (pos 1) } ∷ []) } ∷ []) }) } ∷ []) } ∷ record { spot = record { line = 123; column = 3 }; node = OblivIf (record { spot = record { line = 123; column = 13 }; ty = (Int KBool true); node = Convert (record { spot = record { line = 123; column = 13 }; ty = (Int I64 true); node = Read (record { spot = record { line = 123; column = 13 }; ty = (Int I64 true); node = Slot 2 }) }) }) (record { spot = record { line = 124; column = 3 }; node = Block (record { spot = record { line = 125; column = 5 }; node = Express (record { spot = record { line = 125; column = 5 }; ty = (Int KBool true); node = Assign (record { spot = record { line = 125; column = 5 }; ty = (Int KBool true); node = Slot 0 }) (record { spot = record { line = 125; column = 11 }; ty = (Int KBool true); node = Logic false (record { spot = record { line = 125; column = 13 }; ty = (Int KBool true); node = Convert (record { spot = record { line = 125; column = 13 }; ty = (Int I64 true); node = Choose (record { spot = record { line = 125; column = 14 }; ty = (Int I32 false); node = Binary Shr (record { spot = record { line = 125; column = 14 }; ty = (Int I32 false); node = Number (pos 3) }) (record { spot = record { line = 125; column = 20 }; ty = (Int I32 false); node = Number (pos 65536) }) }) (record { spot = record { line = 125; column = 33 }; ty = (Int I64 true); node = Convert (record { spot = record { line = 125; column = 33 }; ty = (Int KBool true); node = Update Xor (record { spot = record { line = 125; column = 33 }; ty = (Int KBool true); node = Slot 0 }) (record { spot = record { line = 125; column = 40 }; ty = (Int I32 true); node = Convert (record { spot = record { line = 125; column = 40 }; ty = (Int I32 false); node = Number (pos 10) }) }) false }) }) (record { spot = record { line = 125; column = 47 }; ty = (Int I64 true); node = Binary Or (record { spot = record { line = 125; column = 47 }; ty = (Int I64 true); node = Read (record { spot = record { line = 125; column = 47 }; ty = (Int I64 true); node = Slot 1 }) }) (record { spot = record { line = 125; column = 53 }; ty = (Int I64 true); node = Read (record { spot = record { line = 125; column = 53 }; ty = (Int I64 true); node = Slot 1 }) }) }) }) }) (record { spot = record { line = 125; column = 64 }; ty = (Int KBool true); node = Convert (record { spot = record { line = 125; column = 64 }; ty = (Int I64 true); node = Update Add (record { spot = record { line = 125; column = 66 }; ty = (Int I64 true); node = Slot 1 }) (record { spot = record { line = 125; column = 64 }; ty = (Int I64 true); node = Convert (record { spot = record { line = 125; column = 64 }; ty = (Int I32 false); node = Number (pos 1) }) }) false }) }) }) }) } ∷ record { spot = record { line = 126; column = 5 }; node = Express (record { spot = record { line = 126; column = 5 }; ty = (Int KBool true); node = Update Add (record { spot = record { line = 126; column = 5 }; ty = (Int KBool true); node = Slot 0 }) (record { spot = record { line = 126; column = 5 }; ty = (Int I32 true); node = Convert (record { spot = record { line = 126; column = 5 }; ty = (Int I32 false); node = Number (pos 1) }) }) true }) } ∷ []) }) (Some (record { spot = record { line = 129; column = 3 }; node = Block (record { spot = record { line = 130; column = 5 }; node = If (record { spot = record { line = 130; column = 9 }; ty = (Int I32 false); node = Binary LessEq (record { spot = record { line = 130; column = 10 }; ty = (Int U64 false); node = Binary Xor (record { spot = record { line = 130; column = 10 }; ty = (Int U64 false); node = Convert (record { spot = record { line = 130; column = 10 }; ty = (Int I32 false); node = Number (pos 0) }) }) (record { spot = record { line = 130; column = 18 }; ty = (Int U64 false); node = Number (pos 129) }) }) (record { spot = record { line = 130; column = 30 }; ty = (Int U64 false); node = Convert (record { spot = record { line = 130; column = 30 }; ty = (Int I32 false); node = Number (pos 13) }) }) }) (record { spot = record { line = 131; column = 5 }; node = Block (record { spot = record { line = 132; column = 7 }; node = For (ForDeclare (record { spot = record { line = 132; column = 16 }; slot = 3; init = Some (record { spot = record { line = 132; column = 22 }; ty = (Int I32 false); node = Number (pos 0) }) } ∷ [])) (Some (record { spot = record { line = 132; column = 25 }; ty = (Int I32 false); node = Binary Less (record { spot = record { line = 132; column = 25 }; ty = (Int I32 false); node = Read (record { spot = record { line = 132; column = 25 }; ty = (Int I32 false); node = Slot 3 }) }) (record { spot = record { line = 132; column = 31 }; ty = (Int I32 false); node = Number (pos 2) }) })) (Some (record { spot = record { line = 132; column = 34 }; ty = (Int I32 false); node = Assign (record { spot = record { line = 132; column = 34 }; ty = (Int I32 false); node = Slot 3 }) (record { spot = record { line = 132; column = 40 }; ty = (Int I32 false); node = Binary Add (record { spot = record { line = 132; column = 40 }; ty = (Int I32 false); node = Read (record { spot = record { line = 132; column = 40 }; ty = (Int I32 false); node = Slot 3 }) }) (record { spot = record { line = 132; column = 46 }; ty = (Int I32 false); node = Number (pos 1) }) }) })) (record { spot = record { line = 133; column = 7 }; node = Block (record { spot = record { line = 134; column = 9 }; node = For (ForDeclare (record { spot = record { line = 134; column = 18 }; slot = 4; init = Some (record { spot = record { line = 134; column = 24 }; ty = (Int I32 false); node = Number (pos 0) }) } ∷ [])) (Some (record { spot = record { line = 134; column = 27 }; ty = (Int I32 false); node = Binary Less (record { spot = record { line = 134; column = 27 }; ty = (Int I32 false); node = Read (record { spot = record { line = 134; column = 27 }; ty = (Int I32 false); node = Slot 4 }) }) (record { spot = record { line = 134; column = 33 }; ty = (Int I32 false); node = Number (pos 2) }) })) (Some (record { spot = record { line = 134; column = 36 }; ty = (Int I32 false); node = Update Add (record { spot = record { line = 134; column = 38 }; ty = (Int I32 false); node = Slot 4 }) (record { spot = record { line = 134; column = 36 }; ty = (Int I32 false); node = Number (pos 1) }) false })) (record { spot = record { line = 135; column = 9 }; node = Block (record { spot = record { line = 136; column = 11 }; node = Express (record { spot = record { line = 136; column = 11 }; ty = (Int KBool true); node = Update Sub (record { spot = record { line = 136; column = 11 }; ty = (Int KBool true); node = Slot 0 }) (record { spot = record { line = 136; column = 18 }; ty = (Int I64 true); node = Binary Shr (record { spot = record { line = 136; column = 18 }; ty = (Int I64 true); node = Binary Shr (record { spot = record { line = 136; column = 18 }; ty = (Int I64 true); node = Read (record { spot = record { line = 136; column = 18 }; ty = (Int I64 true); node = Slot 2 }) }) (record { spot = record { line = 136; column = 26 }; ty = (Int I32 false); node = Read (record { spot = record { line = 136; column = 26 }; ty = (Int I32 false); node = Slot 3 }) }) }) (record { spot = record { line = 136; column = 35 }; ty = (Int I32 false); node = Number (pos 4) }) }) false }) } ∷ []) }) } ∷ record { spot = record { line = 138; column = 9 }; node = Express (record { spot = record { line = 138; column = 9 }; ty = (Int I64 true); node = Update Sub (record { spot = record { line = 138; column = 11 }; ty = (Int I64 true); node = Slot 1 }) (record { spot = record { line = 138; column = 9 }; ty = (Int I64 true); node = Convert (record { spot = record { line = 138; column = 9 }; ty = (Int I32 false); node = Number (pos 1) }) }) false }) } ∷ []) }) } ∷ record { spot = record { line = 140; column = 7 }; node = Declare (record { spot = record { line = 140; column = 17 }; slot = 5; init = Some (record { spot = record { line = 140; column = 23 }; ty = (Int I32 true); node = Convert (record { spot = record { line = 140; column = 23 }; ty = (Int I32 false); node = Unary Not (record { spot = record { line = 140; column = 25 }; ty = (Int KBool false); node = Convert (record { spot = record { line = 140; column = 25 }; ty = (Int I32 false); node = Unary Not (record { spot = record { line = 140; column = 26 }; ty = (Int KBool false); node = Convert (record { spot = record { line = 140; column = 26 }; ty = (Int I32 false); node = Number (pos 255) }) }) }) }) }) }) } ∷ []) } ∷ record { spot = record { line = 141; column = 7 }; node = Express (record { spot = record { line = 141; column = 7 }; ty = (Int KBool true); node = Read (record { spot = record { line = 141; column = 7 }; ty = (Int KBool true); node = Slot 0 }) }) } ∷ []) }) (Some (record { spot = record { line = 144; column = 5 }; node = Block (record { spot = record { line = 145; column = 7 }; node = Declare (record { spot = record { line = 145; column = 22 }; slot = 6; init = Some (record { spot = record { line = 145; column = 28 }; ty = (Int I64 true); node = Binary Shr (record { spot = record { line = 145; column = 28 }; ty = (Int I64 true); node = Read (record { spot = record { line = 145; column = 28 }; ty = (Int I64 true); node = Slot 1 }) }) (record { spot = record { line = 145; column = 36 }; ty = (Int I32 false); node = Convert (record { spot = record { line = 145; column = 36 }; ty = (Int I8 false); node = Call 0 (record { spot = record { line = 145; column = 40 }; ty = (Int I64 false); node = Convert (record { spot = record { line = 145; column = 40 }; ty = (Int I32 false); node = Number (pos 15) }) } ∷ record { spot = record { line = 145; column = 44 }; ty = (Int I32 false); node = Logic false (record { spot = record { line = 145; column = 44 }; ty = (Int KBool false); node = Convert (record { spot = record { line = 145; column = 44 }; ty = (Int I32 false); node = Number (pos 19) }) }) (record { spot = record { line = 145; column = 50 }; ty = (Int KBool false); node = Convert (record { spot = record { line = 145; column = 50 }; ty = (Int I32 false); node = Number (pos 11) }) }) } ∷ []) }) }) }) } ∷ []) } ∷ record { spot = record { line = 146; column = 7 }; node = Express (record { spot = record { line = 146; column = 7 }; ty = (Int I64 true); node = Assign (record { spot = record { line = 146; column = 7 }; ty = (Int I64 true); node = Slot 2 }) (record { spot = record { line = 146; column = 13 }; ty = (Int I64 true); node = Convert (record { spot = record { line = 146; column = 13 }; ty = (Int U64 true); node = Binary Div (record { spot = record { line = 146; column = 13 }; ty = (Int U64 true); node = Binary Rem (record { spot = record { line = 146; column = 13 }; ty = (Int U64 true); node = Convert (record { spot = record { line = 146; column = 13 }; ty = (Int I64 true); node = Read (record { spot = record { line = 146; column = 13 }; ty = (Int I64 true); node = Slot 2 }) }) }) (record { spot = record { line = 146; column = 20 }; ty = (Int U64 true); node = Convert (record { spot = record { line = 146; column = 20 }; ty = (Int U64 false); node = Binary Add (record { spot = record { line = 146; column = 21 }; ty = (Int U64 false); node = Binary And (record { spot = record { line = 146; column = 21 }; ty = (Int U64 false); node = Binary Rem (record { spot = record { line = 146; column = 21 }; ty = (Int U64 false); node = Number (pos 65536) }) (record { spot = record { line = 146; column = 33 }; ty = (Int U64 false); node = Convert (record { spot = record { line = 146; column = 33 }; ty = (Int I32 false); node = Number (pos 2) }) }) }) (record { spot = record { line = 146; column = 37 }; ty = (Int U64 false); node = Convert (record { spot = record { line = 146; column = 37 }; ty = (Int I32 false); node = Number (pos 7) }) }) }) (record { spot = record { line = 146; column = 42 }; ty = (Int U64 false); node = Convert (record { spot = record { line = 146; column = 42 }; ty = (Int I32 false); node = Number (pos 3) }) }) }) }) }) (record { spot = record { line = 146; column = 47 }; ty = (Int U64 true); node = Convert (record { spot = record { line = 146; column = 47 }; ty = (Int I64 true); node = Read (record { spot = record { line = 146; column = 47 }; ty = (Int I64 true); node = Slot 2 }) }) }) }) }) }) } ∷ []) })) } ∷ record { spot = record { line = 148; column = 5 }; node = Express (record { spot = record { line = 148; column = 5 }; ty = (Int I64 true); node = Assign (record { spot = record { line = 148; column = 5 }; ty = (Int I64 true); node = Slot 1 }) (record { spot = record { line = 148; column = 11 }; ty = (Int I64 true); node = Convert (record { spot = record { line = 148; column = 11 }; ty = (Int I32 true); node = Binary Shl (record { spot = record { line = 148; column = 12 }; ty = (Int I32 true); node = Convert (record { spot = record { line = 148; column = 23 }; ty = (Int I32 false); node = Number (pos 16) }) }) (record { spot = record { line = 148; column = 31 }; ty = (Int I32 false); node = Number (pos 7) }) }) }) }) } ∷ []) })) } ∷ record { spot = record { line = 150; column = 3 }; node = Express (record { spot = record { line = 150; column = 3 }; ty = (Int KBool true); node = Update Shr (record { spot = record { line = 150; column = 3 }; ty = (Int KBool true); node = Slot 0 }) (record { spot = record { line = 150; column = 12 }; ty = (Int I32 false); node = Choose (record { spot = record { line = 150; column = 12 }; ty = (Int I64 false); node = Number (pos 2147483648) }) (record { spot = record { line = 150; column = 25 }; ty = (Int I32 false); node = Binary Shl (record { spot = record { line = 150; column = 25 }; ty = (Int I32 false); node = Number (pos 1) }) (record { spot = record { line = 150; column = 34 }; ty = (Int I32 false); node = Number (pos 16) }) }) (record { spot = record { line = 150; column = 41 }; ty = (Int I32 false); node = Convert (record { spot = record { line = 150; column = 41 }; ty = (Int I8 false); node = Call 0 (record { spot = record { line = 150; column = 45 }; ty = (Int I64 false); node = Convert (record { spot = record { line = 150; column = 45 }; ty = (Int I32 false); node = Number (pos 39) }) } ∷ record { spot = record { line = 150; column = 52 }; ty = (Int I32 false); node = Convert (record { spot = record { line = 150; column = 52 }; ty = (Int I64 false); node = Choose (record { spot = record { line = 150; column = 52 }; ty = (Int I32 false); node = Number (pos 18) }) (record { spot = record { line = 150; column = 57 }; ty = (Int I64 false); node = Number (pos 2147483648) }) (record { spot = record { line = 150; column = 70 }; ty = (Int I64 false); node = Convert (record { spot = record { line = 150; column = 70 }; ty = (Int I32 false); node = Number (pos 5) }) }) }) } ∷ []) }) }) }) false }) } ∷ record { spot = record { line = 151; column = 3 }; node = Express (record { spot = record { line = 151; column = 3 }; ty = (Int KBool true); node = Update Mul (record { spot = record { line = 151; column = 3 }; ty = (Int KBool true); node = Slot 0 }) (record { spot = record { line = 151; column = 10 }; ty = (Int I64 true); node = Read (record { spot = record { line = 151; column = 10 }; ty = (Int I64 true); node = Slot 1 }) }) false }) } ∷ record { spot = record { line = 152; column = 3 }; node = Declare (record { spot = record { line = 152; column = 8 }; slot = 7; init = None } ∷ []) } ∷ record { spot = record { line = 153; column = 3 }; node = Express (record { spot = record { line = 153; column = 3 }; ty = Nothing; node = Known (Reveals KBool) (record { spot = record { line = 153; column = 19 }; ty = (Pointer false (Int KBool false)); node = Convert (record { spot = record { line = 153; column = 19 }; ty = (Pointer false (Int KBool false)); node = AddressOf (record { spot = record { line = 153; column = 20 }; ty = (Int KBool false); node = Slot 7 }) }) } ∷ record { spot = record { line = 153; column = 25 }; ty = (Int KBool true); node = Read (record { spot = record { line = 153; column = 25 }; ty = (Int KBool true); node = Slot 0 }) } ∷ []) }) } ∷ record { spot = record { line = 154; column = 3 }; node = Express (record { spot = record { line = 154; column = 3 }; ty = Nothing; node = Known (Prints (Decimal I32 ∷ Text (10 ∷ []) ∷ [])) (record { spot = record { line = 154; column = 18 }; ty = (Int I32 false); node = Convert (record { spot = record { line = 154; column = 18 }; ty = (Int KBool false); node = Read (record { spot = record { line = 154; column = 18 }; ty = (Int KBool false); node = Slot 7 }) }) } ∷ []) }) } ∷ record { spot = record { line = 155; column = 3 }; node = Declare (record { spot = record { line = 155; column = 12 }; slot = 8; init = None } ∷ []) } ∷ record { spot = record { line = 156; column = 3 }; node = Express (record { spot = record { line = 156; column = 3 }; ty = Nothing; node = Known (Reveals I64) (record { spot = record { line = 156; column = 20 }; ty = (Pointer false (Int I64 false)); node = Convert (record { spot = record { line = 156; column = 20 }; ty = (Pointer false (Int I64 false)); node = AddressOf (record { spot = record { line = 156; column = 21 }; ty = (Int I64 false); node = Slot 8 }) }) } ∷ record { spot = record { line = 156; column = 26 }; ty = (Int I64 true); node = Read (record { spot = record { line = 156; column = 26 }; ty = (Int I64 true); node = Slot 1 }) } ∷ []) }) } ∷ record { spot = record { line = 157; column = 3 }; node = Express (record { spot = record { line = 157; column = 3 }; ty = Nothing; node = Known (Prints (Decimal I64 ∷ Text (10 ∷ []) ∷ [])) (record { spot = record { line = 157; column = 20 }; ty = (Int I64 false); node = Read (record { spot = record { line = 157; column = 20 }; ty = (Int I64 false); node = Slot 8 }) } ∷ []) }) } ∷ record { spot = record { line = 158; column = 3 }; node = Declare (record { spot = record { line = 158; column = 13 }; slot = 9; init = None } ∷ []) } ∷ record { spot = record { line = 159; column = 3 }; node = Express (record { spot = record { line = 159; column = 3 }; ty = Nothing; node = Known (Reveals I64) (record { spot = record { line = 159; column = 20 }; ty = (Pointer false (Int I64 false)); node = Convert (record { spot = record { line = 159; column = 20 }; ty = (Pointer false (Int I64 false)); node = AddressOf (record { spot = record { line = 159; column = 21 }; ty = (Int I64 false); node = Slot 9 }) }) } ∷ record { spot = record { line = 159; column = 26 }; ty = (Int I64 true); node = Read (record { spot = record { line = 159; column = 26 }; ty = (Int I64 true); node = Slot 2 }) } ∷ []) }) } ∷ record { spot = record { line = 160; column = 3 }; node = Express (record { spot = record { line = 160; column = 3 }; ty = Nothing; node = Known (Prints (Decimal I64 ∷ Text (10 ∷ []) ∷ [])) (record { spot = record { line = 160; column = 20 }; ty = (Int I64 false); node = Read (record { spot = record { line = 160; column = 20 }; ty = (Int I64 false); node = Slot 9 }) } ∷ []) }) } ∷ []) } ∷ [])

abbrev setup : ClearSetup
setup = record { public = ((pos 0) ∷ []); first = ((pos 32) ∷ (pos 16) ∷ (pos 32767) ∷ []); second = ((negsuc 10) ∷ (pos 55) ∷ []); dealt = 1048576; budget = 3000 }

clear : Clear structs functions 3 setup (Revealed KBool (pos 1) ∷ Printed (49 ∷ 10 ∷ []) ∷ Revealed I64 (pos 32768) ∷ Printed (51 ∷ 50 ∷ 55 ∷ 54 ∷ 56 ∷ 10 ∷ []) ∷ Revealed I64 (pos 55) ∷ Printed (53 ∷ 53 ∷ 10 ∷ []) ∷ []) Done
unfolding digits hidden-the_row-TExpr-0 hidden-the_row-TExpr-1 hidden-the_row-TPlace-2 hidden-the_row-TStmt-0 hidden-the_row-TStmt-1 hidden-the_row-CType-0 hidden
clear = (refl, refl)

left : Left (clear_walk structs functions 3 setup) 2970 1048511
unfolding digits hidden-the_row-TExpr-0 hidden-the_row-TExpr-1 hidden-the_row-TPlace-2 hidden-the_row-TStmt-0 hidden-the_row-TStmt-1 hidden-the_row-CType-0 hidden
left = (refl, refl)

events : Ends (events_walk structs functions 3 (known_of setup) 1048576 ((pos 1) ∷ (pos 32768) ∷ (pos 55) ∷ []) 3000)
    (Feed 2 KBool 0 ∷ Feed 1 I64 2 ∷ Feed 2 I64 1 ∷ Turn I64 KBool (Of 2) ∷ Turn KBool I32 (Of 0) ∷ Op Xor I32 (Of 4) (Fix I32 (pos 10)) ∷ Turn I32 KBool (Of 5) ∷ Pick KBool (Of 3) (Of 6) (Of 0) ∷ Turn KBool I64 (Of 7) ∷ Turn I64 KBool (Of 8) ∷ Op Add I64 (Of 1) (Fix I64 (pos 1)) ∷ Pick I64 (Of 3) (Of 10) (Of 1) ∷ Turn I64 KBool (Of 11) ∷ Op Or KBool (Of 9) (Of 12) ∷ Pick KBool (Of 3) (Of 13) (Of 7) ∷ Turn KBool I32 (Of 14) ∷ Op Add I32 (Of 15) (Fix I32 (pos 1)) ∷ Turn I32 KBool (Of 16) ∷ Pick KBool (Of 3) (Of 17) (Of 14) ∷ One Flip KBool (Of 3) ∷ ShiftBy Shr I64 (Of 11) (pos 0) ∷ Turn I64 U64 (Of 2) ∷ Op Rem U64 (Of 21) (Fix U64 (pos 3)) ∷ Turn I64 U64 (Of 2) ∷ Op Div U64 (Of 22) (Of 23) ∷ Turn U64 I64 (Of 24) ∷ Pick I64 (Of 19) (Of 25) (Of 2) ∷ ShiftBy Shl I32 (Fix I32 (pos 16)) (pos 7) ∷ Turn I32 I64 (Of 27) ∷ Pick I64 (Of 19) (Of 28) (Of 11) ∷ Turn KBool I32 (Of 18) ∷ ShiftBy Shr I32 (Of 30) (pos 65536) ∷ Turn I32 KBool (Of 31) ∷ Turn KBool I64 (Of 32) ∷ Op Mul I64 (Of 33) (Of 29) ∷ Turn I64 KBool (Of 34) ∷ Reveal KBool (Of 35) ∷ Print (49 ∷ 10 ∷ []) ∷ Reveal I64 (Of 29) ∷ Print (51 ∷ 50 ∷ 55 ∷ 54 ∷ 56 ∷ 10 ∷ []) ∷ Reveal I64 (Of 26) ∷ Print (53 ∷ 53 ∷ 10 ∷ []) ∷ []) Done
unfolding digits hidden-the_row-TExpr-0 hidden-the_row-TExpr-1 hidden-the_row-TPlace-2 hidden-the_row-TStmt-0 hidden-the_row-TStmt-1 hidden-the_row-CType-0 hidden
events = (refl, refl)

plain : IsEnd (plain_walk structs functions 3 setup) (Revealed KBool (pos 1) ∷ Printed (49 ∷ 10 ∷ []) ∷ Revealed I64 (pos 32768) ∷ Printed (51 ∷ 50 ∷ 55 ∷ 54 ∷ 56 ∷ 10 ∷ []) ∷ Revealed I64 (pos 55) ∷ Printed (53 ∷ 53 ∷ 10 ∷ []) ∷ []) Done
unfolding digits hidden-the_row-TExpr-0 hidden-the_row-TExpr-1 hidden-the_row-TPlace-2 hidden-the_row-TStmt-0 hidden-the_row-TStmt-1 hidden-the_row-CType-0 hidden
plain = (refl, refl)
