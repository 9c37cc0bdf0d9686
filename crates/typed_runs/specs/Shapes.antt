-- When a typed tree's nodes have values of the forms that their users want.
use Rattle.std.specs.Prelude.{ℕ, ◌≡◌, ℤ, List, [], ◌∷◌, Some, Bool, true, false, ◌||◌, slice_get}
use Rattle.oc_values.specs.declared.integers.IntKind.{IntKind}
use Rattle.oc_values.specs.declared.integers.IntKind.TheVariants.{Bool as KBool, I32, I64}
use Rattle.oc_values.specs.declared.integers.BinaryOp.{BinaryOp}
use Rattle.oc_values.specs.declared.integers.OneOp.{OneOp}
use Rattle.oc_values.specs.Integers.{IsOfKind}
use Rattle.oc_values.specs.Kinds.{same_kind, is_shift}
use Rattle.oc_cells.specs.declared.types.CType.{CType, Int, Pointer', Struct, Nothing}
use Rattle.oc_cells.specs.Types.{is_pointer, target, AreLeaves}
use Rattle.oc_cells.specs.Layout.{leaves, has_size}
use Rattle.oc_source.specs.declared.spot.Spot.{Spot}
use Rattle.oc_typed.specs.declared.typed.TExprNode.{TExprNode, Number, NullPointer, Read', AddressOf', Decay', Unary', Binary', PointerStep', PointerSame', Logic', Choose', Assign', Update', Convert', Call', Builtin', Row_of-TExpr, end_of-TExpr, more_of-TExpr}
use Rattle.oc_typed.specs.declared.typed.TPlaceNode.{TPlaceNode, Slot, Deref', Index', Field', Row_of-TPlace, more_of-TPlace}
use Rattle.oc_typed.specs.declared.typed.Builtin.{Builtin}
use Rattle.oc_typed.specs.declared.typed.Builtin.TheVariants.{Private, Feed, Reveal, Give, PrivateCount, PublicCount, PublicWord, Print, Calloc, Malloc, Free}
use Rattle.oc_typed.specs.declared.typed.PrintPiece.{PrintPiece}
use Rattle.oc_typed.specs.declared.typed.PrintPiece.TheVariants.{Text, Decimal, Byte}
use Rattle.oc_walk.specs.declared.run.Source.{Source}
use Rattle.oc_walk.specs.declared.run.Source.TheVariants.{Word, Public}
use Rattle.oc_walk.specs.Builtins.{source_of}
use Rattle.oc_typed.specs.Static.{type_of, working_kind, types_of, one_type, two_type}
use Rattle.oc_typed.specs.Visible.{is_among}

-- a function's parameters and result
pub record Heading : Type 0 where
  pub params : List CType
  pub result : CType

-- what a function's nodes stand in: the headings of all functions, and the slots that are visible
pub record Env : Type 0 where
  pub headings : List Heading
  pub visible : List ℕ

-- a type that is copied: it has a size, and its leaves are leaves
pub record Sized (lss : List (List CType)) (t : CType) : Type 0 where
  pub size : has_size (leaves lss t) ≡ true
  pub flat : AreLeaves (leaves lss t)

-- a type that is read and written: a leaf, or a struct that has a size
pub data Held (lss : List (List CType)) : CType → Type 0 where
  integer : {k : IntKind} {o : Bool} → Held lss (Int k o)
  pointer : {f : Bool} {u : _} {t : _} → Held lss (Pointer' f u t)
  struct : {n : ℕ} → Sized lss (Struct n) → Held lss (Struct n)

-- an operator with one operand: its own type, and its operand's
pub data UnaryOk (op : OneOp) (t : CType) : CType → Type 0 where
  unary_ok : {k : IntKind} {o : Bool} → t ≡ one_type op k o → UnaryOk op t (Int k o)

-- the kinds and the marks of two operands: kinds agree but for a shift, and a public right operand beside a hidden left one is a shift's
pub data Operands (op : BinaryOp) (k m : IntKind) : Bool → Bool → Type 0 where
  alike_marks : {o : Bool} → (is_shift op || same_kind k m) ≡ true → Operands op k m o o
  by_public : is_shift op ≡ true → Operands op k m true false

-- an operator with two operands: its own type, and its operands'
pub data BinaryOk (op : BinaryOp) (t : CType) : CType → CType → Type 0 where
  binary_ok : {k m : IntKind} {o q : Bool} → Operands op k m o q → t ≡ two_type op k o → BinaryOk op t (Int k o) (Int m q)

-- an update of a place of the first type by a value of the second
pub data UpdateOk (op : BinaryOp) : CType → CType → Type 0 where
  steps : {f : Bool} {u : _} {t : _} {m : IntKind} → UpdateOk op (Pointer' f u t) (Int m false)
  computes : {k m : IntKind} {o q : Bool} → Operands op (working_kind op (Int k o) (Int m q)) m o q
      → two_type op (working_kind op (Int k o) (Int m q)) o ≡ Int (working_kind op (Int k o) (Int m q)) o
      → UpdateOk op (Int k o) (Int m q)

-- a conversion of the first type to the second: a hidden integer never becomes a public one
pub data ConvertOk : CType → CType → Type 0 where
  kinds : {k l : IntKind} {o q : Bool} → (o || q) ≡ q → ConvertOk (Int k o) (Int l q)
  pointers : {t u : CType} → is_pointer t ≡ true → is_pointer u ≡ true → ConvertOk t u

-- a step of a pointer: its own type, the pointer's and the amount's
pub data StepOk (t : CType) : CType → CType → Type 0 where
  step_ok : {u : CType} {m : IntKind} → is_pointer t ≡ true → is_pointer u ≡ true → StepOk t u (Int m false)

-- `&&` and `||`: their own type, and their operands', which are Bool
pub data LogicOk : CType → CType → CType → Type 0 where
  hidden_logic : LogicOk (Int KBool true) (Int KBool true) (Int KBool true)
  public_logic : LogicOk (Int I32 false) (Int KBool false) (Int KBool false)

-- a public integer
pub data PublicOk : CType → Type 0 where
  public_ok : {k : IntKind} → PublicOk (Int k false)

-- a literal: a public integer that is a value of the kind of its type
abbrev pub NumberOk : CType → ℤ → Type 0
NumberOk (Int k false) n = IsOfKind k n
NumberOk _ n = ⊥

-- the types of a print's arguments: one public integer for each piece that isn't a text
pub data Formats : List PrintPiece → List CType → Type 0 where
  no_pieces : Formats [] []
  a_text : {bytes : List ℕ} {ps : List PrintPiece} {ts : List CType} → Formats ps ts → Formats (Text bytes ∷ ps) ts
  a_number : {k l : IntKind} {ps : List PrintPiece} {ts : List CType} → Formats ps ts → Formats (Decimal k ∷ ps) (Int l false ∷ ts)
  a_byte : {l : IntKind} {ps : List PrintPiece} {ts : List CType} → Formats ps ts → Formats (Byte ∷ ps) (Int l false ∷ ts)

-- a call of the language's own: its type, what its argument is to a feed, the call, and its arguments' types
pub data BuiltinOk (lss : List (List CType)) : CType → Source → Builtin → List CType → Type 0 where
  private_ok : {t : CType} {s : Source} → BuiltinOk lss t s Private (t ∷ [])
  word_ok : {k l : IntKind} {party : ℕ} {q : Spot} → BuiltinOk lss (Int k true) (Word q) (Feed k party) (Int l false ∷ [])
  fed_ok : {k : IntKind} {party : ℕ} → BuiltinOk lss (Int k true) Public (Feed k party) (Int k true ∷ [])
  reveal_ok : {k : IntKind} {s : Source} {u : CType} → is_pointer u ≡ true → BuiltinOk lss Nothing s (Reveal k) (u ∷ Int k true ∷ [])
  give_ok : {k : IntKind} {party : ℕ} {s : Source} → BuiltinOk lss Nothing s (Give k party) (Int k true ∷ [])
  count_ok : {party : ℕ} {s : Source} → BuiltinOk lss (Int I32 false) s (PrivateCount party) []
  counts_ok : {s : Source} → BuiltinOk lss (Int I32 false) s PublicCount []
  known_word_ok : {l : IntKind} {s : Source} → BuiltinOk lss (Int I64 false) s PublicWord (Int l false ∷ [])
  print_ok : {ps : List PrintPiece} {ts : List CType} {s : Source} → Formats ps ts → BuiltinOk lss Nothing s (Print ps) ts
  calloc_ok : {t : CType} {l : IntKind} {s : Source} → is_pointer t ≡ true → Sized lss (target t)
      → BuiltinOk lss t s Calloc (Int l false ∷ [])
  malloc_ok : {t : CType} {s : Source} → is_pointer t ≡ true → Sized lss (target t) → BuiltinOk lss t s Malloc []
  mallocs_ok : {t : CType} {l : IntKind} {s : Source} → is_pointer t ≡ true → Sized lss (target t)
      → BuiltinOk lss t s Malloc (Int l false ∷ [])
  free_ok : {u : CType} {s : Source} → is_pointer u ≡ true → BuiltinOk lss Nothing s Free (u ∷ [])

module _ (lss : List (List CType)) (g : Env) where
  abbrev mutual
    -- an expression of this type, and all its parts
    pub ExprOk : CType → TExprNode → Type 0
    ExprOk t (Number n) = NumberOk t n
    ExprOk t NullPointer = is_pointer t ≡ true
    ExprOk t (Read' q u c) = (t ≡ u) × Held lss u × PlaceOk c
    ExprOk t (AddressOf' q u c) = (is_pointer t ≡ true) × PlaceOk c
    ExprOk t (Decay' q u c) = (is_pointer t ≡ true) × PlaceOk c
    ExprOk t (Unary' op _ e) = UnaryOk op t (type_of e) × OneOk e
    ExprOk t (Binary' op _ l _ r) = BinaryOk op t (type_of l) (type_of r) × OneOk l × OneOk r
    ExprOk t (PointerStep' _ l _ r back first) = StepOk t (type_of l) (type_of r) × OneOk l × OneOk r
    ExprOk t (PointerSame' _ l _ r negated) =
        (t ≡ Int I32 false) × (is_pointer (type_of l) ≡ true) × (is_pointer (type_of r) ≡ true) × OneOk l × OneOk r
    ExprOk t (Logic' all _ l _ r) = LogicOk t (type_of l) (type_of r) × OneOk l × OneOk r
    ExprOk t (Choose' _ c _ l _ r) = PublicOk (type_of c) × (type_of l ≡ t) × (type_of r ≡ t) × OneOk c × OneOk l × OneOk r
    ExprOk t (Assign' q u c _ e) = (t ≡ u) × (type_of e ≡ u) × Held lss u × PlaceOk c × OneOk e
    ExprOk t (Update' op q u c _ e old) = (t ≡ u) × UpdateOk op u (type_of e) × PlaceOk c × OneOk e
    ExprOk t (Convert' _ e) = ConvertOk (type_of e) t × OneOk e
    ExprOk t (Call' f _ es) = (slice_get g.headings f ≡ Some (record { params = types_of es; result = t })) × AllOk es
    ExprOk t (Builtin' which _ es) = BuiltinOk lss t (source_of es) which (types_of es) × AllOk es

    -- a place, and all its parts
    pub PlaceOk : TPlaceNode → Type 0
    PlaceOk (Slot n) = is_among g.visible n ≡ true
    PlaceOk (Deref' _ e) = (is_pointer (type_of e) ≡ true) × OneOk e
    PlaceOk (Index' _ l _ r) = (is_pointer (type_of l) ≡ true) × PublicOk (type_of r) × OneOk l × OneOk r
    PlaceOk (Field' _ b n) = PlaceOneOk b

    -- a row's only place
    pub PlaceOneOk : Row_of-TPlace 1 → Type 0
    PlaceOneOk (more_of-TPlace q u c rest) = PlaceOk c

    -- a row's only expression
    pub OneOk : Row_of-TExpr 1 → Type 0
    OneOk (more_of-TExpr q u c rest) = ExprOk u c

    -- each expression of a row
    pub AllOk : {m : _} → Row_of-TExpr m → Type 0
    AllOk end_of-TExpr = Unit {0}
    AllOk (more_of-TExpr q u c rest) = ExprOk u c × AllOk rest
