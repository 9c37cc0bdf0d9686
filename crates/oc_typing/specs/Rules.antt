-- Tests of the types at the nodes of a typed tree, a rule each, and of a program's structs.
use Rattle.std.specs.Prelude.{ℕ, suc, ◌+◌, ℤ, List, [], ◌∷◌, ◌++◌, length, max, nat_eq, nat_le, Bool, true, false, ◌&&◌, ◌||◌, not, if◌then◌else◌, Option, Some, None, slice_get, slice_index_or}
use Rattle.oc_values.specs.declared.integers.IntKind.{IntKind}
use Rattle.oc_values.specs.declared.integers.IntKind.TheVariants.{Bool as KBool, I8, I16, I32, I64}
use Rattle.oc_values.specs.declared.integers.BinaryOp.{BinaryOp}
use Rattle.oc_values.specs.declared.integers.BinaryOp.TheVariants.{Add, Less, LessEq, Greater, GreaterEq, Equal, NotEqual}
use Rattle.oc_values.specs.declared.integers.OneOp.{OneOp}
use Rattle.oc_values.specs.declared.integers.OneOp.TheVariants.{Not}
use Rattle.oc_values.specs.Integers.{is_in_bits, is_signed, width}
use Rattle.oc_values.specs.Kinds.{number_of_kind, same_kind, promoted, is_shift, is_minus}
use Rattle.oc_cells.specs.declared.types.CType.{CType, Int, Pointer', Array', Struct, Nothing, Row_of-CType, end_of-CType, more_of-CType}
use Rattle.oc_cells.specs.declared.types.FieldType.{FieldType}
use Rattle.oc_cells.specs.declared.types.StructType.{StructType}
use Rattle.oc_cells.specs.Types.{alike, same, is_normal, is_pointer, is_frozen_pointer, first_type, target}
use Rattle.oc_cells.specs.Layout.{cells, field_cells}
use Rattle.oc_typed.specs.declared.typed.Builtin.{Builtin}
use Rattle.oc_typed.specs.declared.typed.Builtin.TheVariants.{Private, Feed, Reveal, Give, PrivateCount, PublicCount, PublicWord, Print, Calloc, Malloc, Free}
use Rattle.oc_typed.specs.declared.typed.PrintPiece.{PrintPiece}
use Rattle.oc_typed.specs.declared.typed.PrintPiece.TheVariants.{Text, Decimal, Byte}
use Rattle.oc_typed.specs.Static.{one_type, two_type}

-- whether each of a list passes a test
abbrev pub all : {A : Type 0} → (A → Bool) → List A → Bool
all f [] = true
all f (x ∷ xs) = f x && all f xs

-- whether a type takes from 1 to 65,536 cells, given those of each struct
abbrev pub is_sized : List ℕ → CType → Bool
is_sized ss t = nat_le 1 (cells ss t) && nat_le (cells ss t) 65536

abbrev mutual
  -- whether a type, and all that it is made of and leads to, takes from 1 to 65,536 cells
  pub is_whole : List ℕ → CType → Bool
  is_whole ss (Int k o) = true
  is_whole ss (Pointer' f u t) = is_whole_row ss t
  is_whole ss (Array' n u t) = is_sized ss (Array' n u t) && is_whole_row ss t
  is_whole ss (Struct n) = is_sized ss (Struct n)
  is_whole ss Nothing = false

  -- the same of a row's only type
  pub is_whole_row : {m : _} → List ℕ → Row_of-CType m → Bool
  is_whole_row ss (more_of-CType t ts) = is_whole ss t
  is_whole_row ss end_of-CType = false

-- whether a type is in normal form, and takes from 1 to 65,536 cells as does all that it leads to
abbrev pub is_type : List ℕ → List Bool → CType → Bool
is_type sizes public t = is_normal public false t && is_whole sizes t

-- whether a type is that of a call without a value
abbrev pub is_nothing : CType → Bool
is_nothing Nothing = true
is_nothing _ = false

-- whether a type is that of `NULL` before a conversion
abbrev pub is_null : CType → Bool
is_null (Pointer' f u t) = not f && is_nothing (first_type t)
is_null _ = false

-- whether a type is a public integer
abbrev pub is_public : CType → Bool
is_public (Int k o) = not o
is_public _ = false

-- an integer of a kind to which operands are promoted
abbrev pub is_promoted : IntKind → Bool
is_promoted k = nat_le 5 (number_of_kind k)

-- whether a type is an integer of a promoted kind, hidden or not
abbrev pub is_common : CType → Bool
is_common (Int k o) = is_promoted k
is_common _ = false

-- a type of which a cell is: an integer or a pointer
abbrev pub is_leaf : CType → Bool
is_leaf (Int k o) = true
is_leaf (Pointer' f u t) = true
is_leaf _ = false

-- a type that is read and written as a whole
abbrev pub is_held : CType → Bool
is_held (Struct n) = true
is_held t = is_leaf t

-- whether an operator is the sum
abbrev pub is_addition : BinaryOp → Bool
is_addition Add = true
is_addition _ = false

-- whether an operator compares
abbrev pub is_comparison : BinaryOp → Bool
is_comparison Less = true
is_comparison LessEq = true
is_comparison Greater = true
is_comparison GreaterEq = true
is_comparison Equal = true
is_comparison NotEqual = true
is_comparison _ = false

-- a literal: a public integer of the kind of its type
abbrev pub number : CType → ℤ → Bool
number (Int k o) n = not o && is_in_bits (is_signed k) (width k) n
number _ n = false

-- the first type is that of an address of what has the second
abbrev pub address : CType → CType → Bool
address t u = is_pointer t && not (is_frozen_pointer t) && same true (target t) u

-- the first type is that of an address of an element of the second
abbrev pub decay : CType → CType → Bool
decay t (Array' n u s) = address t (first_type s)
decay t _ = false

-- whether an operator with one operand takes this kind: `!` takes Bool, the others a promoted kind
abbrev pub takes_one : OneOp → IntKind → Bool
takes_one Not k = same_kind k KBool
takes_one _ k = is_promoted k

-- an operator with one operand: its type, and its operand's
abbrev pub unary : OneOp → CType → CType → Bool
unary op t (Int k o) = takes_one op k && same true t (one_type op k o)
unary op t _ = false

-- the marks of two operands: alike, but for a shift by a public amount
abbrev pub marks : BinaryOp → Bool → Bool → Bool
marks op o q = alike o q || (is_shift op && o)

-- the kinds of two operands: both are promoted, and the same but for a shift
abbrev pub operands : BinaryOp → IntKind → IntKind → Bool
operands op k m = is_promoted k && is_promoted m && (is_shift op || same_kind k m)

-- an operator with two operands: its type, and its operands'
abbrev pub binary : BinaryOp → CType → CType → CType → Bool
binary op t (Int k o) (Int m q) = operands op k m && marks op o q && same true t (two_type op k o)
binary op t _ _ = false

-- a step of a pointer: its type, the pointer's, the amount's
abbrev pub step : CType → CType → CType → Bool
step t u y = same true t u && is_pointer u && not (is_null u) && is_public y

-- two pointers that are compared
abbrev pub alike_pointers : CType → CType → Bool
alike_pointers u y = is_pointer u && is_pointer y && (same false u y || is_null u || is_null y)

-- `&&` and `||`: their type, and their operands', which are Bool and hidden alike
abbrev pub logic : CType → CType → CType → Bool
logic t (Int KBool o) y = same true y (Int KBool o) && same true t (if o then Int KBool true else Int I32 false)
logic t _ y = false

-- an update of a place of the first type by a value of the second
abbrev pub update : BinaryOp → CType → CType → Bool
update op (Pointer' f u t) (Int m q) = not q && (is_addition op || is_minus op)
update op (Int k o) (Int m q) =
    not (is_comparison op) && is_promoted m && marks op o q
    && (is_shift op || nat_le (number_of_kind (promoted k)) (number_of_kind m))
update op _ _ = false

-- a conversion of the first type to the second
abbrev pub converts : CType → CType → Bool
converts (Int k o) (Int l q) = not o || q
converts (Pointer' f u t) y = is_pointer y && (is_null (Pointer' f u t) || same false (Pointer' f u t) y)
converts _ _ = false

-- whether two lists have the same types
abbrev pub same_all : List CType → List CType → Bool
same_all [] [] = true
same_all (t ∷ ts) (u ∷ us) = same true t u && same_all ts us
same_all _ _ = false

-- the kinds of which feeds and reveals have a call each
abbrev pub is_shown : IntKind → Bool
is_shown KBool = true
is_shown I8 = true
is_shown I16 = true
is_shown I32 = true
is_shown I64 = true
is_shown _ = false

-- whether a number is that of a party
abbrev pub is_party : ℕ → Bool
is_party n = nat_eq n 1 || nat_eq n 2

-- whether these types are those of the arguments that the pieces of a format ask for
abbrev pub formats : List PrintPiece → List CType → Bool
formats [] [] = true
formats (Text bytes ∷ ps) ts = formats ps ts
formats (Decimal k ∷ ps) (t ∷ ts) = is_promoted k && same true t (Int k false) && formats ps ts
formats (Byte ∷ ps) (t ∷ ts) = same true t (Int I32 false) && formats ps ts
formats _ _ = false

-- the bytes of the texts of a format
abbrev pub text_bytes : List PrintPiece → ℕ
text_bytes [] = 0
text_bytes (Text bytes ∷ ps) = length bytes + text_bytes ps
text_bytes (_ ∷ ps) = text_bytes ps

-- a list of one public integer
abbrev pub one_public : List CType → Bool
one_public (t ∷ []) = is_public t
one_public _ = false

-- a list of at most one type, a public integer's
abbrev pub none_or_one : List CType → Bool
none_or_one [] = true
none_or_one ts = one_public ts

-- a pointer to what has a size, not frozen
abbrev pub made : List ℕ → CType → Bool
made sizes t = is_pointer t && not (is_frozen_pointer t) && is_sized sizes (target t)

-- a list of one pointer
abbrev pub one_pointer : List CType → Bool
one_pointer (t ∷ []) = is_pointer t
one_pointer _ = false

-- where a reveal writes, and what it shows
abbrev pub revealed : IntKind → List CType → Bool
revealed k (t ∷ u ∷ []) = address t (Int k false) && same true u (Int k true)
revealed k _ = false

-- a call of the language's own: its type, whether its arguments are those of a feed, and their types
abbrev pub builtin : List ℕ → CType → Bool → Builtin → List CType → Bool
builtin sizes t fed Private (u ∷ []) = is_public u && same true t u
builtin sizes t fed (Feed k party) ts = same true t (Int k true) && is_shown k && is_party party && fed
builtin sizes t fed (Reveal k) ts = is_nothing t && is_shown k && revealed k ts
builtin sizes t fed (Give k party) ts = is_nothing t && is_party party && same_all ts (Int k true ∷ [])
builtin sizes t fed (PrivateCount party) ts = same true t (Int I32 false) && is_party party && same_all ts []
builtin sizes t fed PublicCount ts = same true t (Int I32 false) && same_all ts []
builtin sizes t fed PublicWord ts = same true t (Int I64 false) && one_public ts
builtin sizes t fed (Print ps) ts = is_nothing t && formats ps ts && nat_le (text_bytes ps) 4000 && nat_le (length ts) 64
builtin sizes t fed Calloc ts = made sizes t && one_public ts
builtin sizes t fed Malloc ts = made sizes t && none_or_one ts
builtin sizes t fed Free ts = is_nothing t && one_pointer ts
builtin sizes t fed _ ts = false

-- Structs: the cells, the depth and the types of each, where those of the earlier ones are known.

abbrev mutual
  -- how deep structs are nested by value in a type, given this of each struct
  pub depth : List ℕ → CType → ℕ
  depth ds (Array' n u t) = depth_row ds t
  depth ds (Struct n) = slice_index_or ds n 0
  depth ds _ = 0

  -- the same of a row's only type
  pub depth_row : {m : _} → List ℕ → Row_of-CType m → ℕ
  depth_row ds (more_of-CType t ts) = depth ds t
  depth_row ds end_of-CType = 0

-- how deep structs are nested by value in fields
abbrev pub field_depth : List ℕ → List FieldType → ℕ
field_depth ds [] = 0
field_depth ds (f ∷ fs) = max (depth ds f.ty) (field_depth ds fs)

-- whether two names are the same
abbrev pub same_name : List ℕ → List ℕ → Bool
same_name [] [] = true
same_name (b ∷ bs) (c ∷ cs) = nat_eq b c && same_name bs cs
same_name _ _ = false

-- whether a name is none of these
abbrev pub is_new : List ℕ → List (List ℕ) → Bool
is_new n [] = true
is_new n (m ∷ ms) = not (same_name n m) && is_new n ms

-- whether no two names are the same
abbrev pub differ : List (List ℕ) → Bool
differ [] = true
differ (n ∷ ns) = is_new n ns && differ ns

-- the names of fields
abbrev pub field_names : List FieldType → List (List ℕ)
field_names [] = []
field_names (f ∷ fs) = f.name ∷ field_names fs

-- the names of structs
abbrev pub struct_names : List StructType → List (List ℕ)
struct_names [] = []
struct_names (s ∷ ss) = s.name ∷ struct_names ss

-- whether fields follow one another from a cell on, with types whose own cells are known
abbrev pub are_fields : List ℕ → List Bool → List ℕ → ℕ → List FieldType → Bool
are_fields sizes public known at [] = true
are_fields sizes public known at (f ∷ fs) =
    is_type sizes public f.ty && is_sized known f.ty && nat_eq f.offset at && are_fields sizes public known (at + cells known f.ty) fs

-- whether a struct's cells are those of its fields, which hold only earlier structs by value, at most 63 of them in one another
abbrev pub is_struct_type : List ℕ → List Bool → List ℕ → List ℕ → StructType → Bool
is_struct_type sizes public known depths s =
    nat_eq s.cells (field_cells known s.fields) && nat_le 1 s.cells && nat_le s.cells 65536
    && nat_le (field_depth depths s.fields) 63 && are_fields sizes public known 0 s.fields && differ (field_names s.fields)

-- whether structs follow one another, with the cells and the depth of the earlier ones
abbrev pub are_structs : List ℕ → List Bool → List ℕ → List ℕ → List StructType → Bool
are_structs sizes public known depths [] = true
are_structs sizes public known depths (s ∷ ss) =
    is_struct_type sizes public known depths s
    && are_structs sizes public (known ++ field_cells known s.fields ∷ []) (depths ++ suc (field_depth depths s.fields) ∷ []) ss

-- whether one of these fields has this type and stands at this offset
abbrev pub has_field : ℕ → CType → List FieldType → Bool
has_field at t [] = false
has_field at t (f ∷ fs) = (nat_eq f.offset at && same true f.ty t) || has_field at t fs

-- whether a struct that is there has a field of this type at this offset
abbrev pub has_field_of : ℕ → CType → Option StructType → Bool
has_field_of at t None = false
has_field_of at t (Some s) = has_field at t s.fields

-- a field of a place of the first type
abbrev pub field : List StructType → CType → ℕ → CType → Bool
field structs (Struct n) at t = has_field_of at t (slice_get structs n)
field structs _ at t = false
