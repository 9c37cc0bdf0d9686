-- Numbers: a prefix, digits and a suffix. The digits have a value, and the suffix says which kinds the number may have.
use Rattle.std.specs.Prelude.{ℕ, ◌≡◌, ◌⊎◌, ◌+◌, ◌*◌, ◌-◌, List, [], ◌∷◌, ◌++◌, fold, Bool, true, false, not, nat_eq, nat_le, codes, IsTrue, if◌then◌else◌}
use Rattle.std.specs.List.{list_all, list_any}
use Rattle.std.specs.Str.{bytes_eq}
use Rattle.oc_values.specs.declared.integers.IntKind.{IntKind}
use Rattle.oc_values.specs.declared.integers.IntKind.TheVariants.{I32, U32, I64, U64}
use Rattle.oc_source.specs.declared.literal.Literal.{Literal}
use Rattle.oc_source.specs.Literals.{holds}
use Rattle.oc_lexer.specs.declared.bytes.ByteClass.{ByteClass}
use Rattle.oc_lexer.specs.declared.bytes.ByteClass.TheVariants as class
use Rattle.oc_lexer.specs.declared.numbers.Form.{Form}
use Rattle.oc_lexer.specs.declared.numbers.Form.TheVariants.{Decimal, Octal, Hexadecimal}
use Rattle.oc_lexer.specs.declared.numbers.Suffix.{Suffix}
use Rattle.oc_lexer.specs.Bytes.{is_in, begins_with, is_empty}

-- ---- how a number is written

-- what stands before the digits: nothing, `0` for octal ones, `0x` or `0X` for hexadecimal ones
abbrev pub IsPrefix : Form → List ℕ → Type 0
IsPrefix Decimal prefix = prefix ≡ []
IsPrefix Octal prefix = prefix ≡ codes "0"
IsPrefix Hexadecimal prefix = (prefix ≡ codes "0x") ⊎ (prefix ≡ codes "0X")

-- the class of the bytes that are digits of a form
abbrev pub digit_class : Form → ByteClass
digit_class Decimal = class.Decimal
digit_class Octal = class.Octal
digit_class Hexadecimal = class.Hexadecimal

-- whether these digits may follow the prefix: decimal ones begin with no 0, and only after `0` there may be none
abbrev pub may_follow : Form → List ℕ → Bool
may_follow Decimal digits = begins_with (λ d. not (nat_eq d 48)) digits
may_follow Octal digits = true
may_follow Hexadecimal digits = not (is_empty digits)

-- `u` in either case, where a number has it
abbrev pub unsigned_marks : Bool → List (List ℕ)
unsigned_marks false = [] ∷ []
unsigned_marks true = codes "u" ∷ codes "U" ∷ []

-- `l` or `ll` in either case, where a number has one; `lL` and `Ll` are none
abbrev pub long_marks : Bool → List (List ℕ)
long_marks false = [] ∷ []
long_marks true = codes "l" ∷ codes "L" ∷ codes "ll" ∷ codes "LL" ∷ []

-- the text is the suffix: its `u` and its `l` or `ll`, in either order
pub record SpellsSuffix (suffix : Suffix) (text : List ℕ) : Type 0 where
  pub u : List ℕ
  pub l : List ℕ
  pub unsigned : IsTrue (list_any (bytes_eq u) (unsigned_marks suffix.unsigned))
  pub long : IsTrue (list_any (bytes_eq l) (long_marks suffix.long))
  pub order : (text ≡ u ++ l) ⊎ (text ≡ l ++ u)

-- the text is a number of this form: a prefix, these digits and this suffix
pub record WritesNumber (form : Form) (digits : List ℕ) (suffix : Suffix) (text : List ℕ) : Type 0 where
  pub prefix : List ℕ
  pub ending : List ℕ
  pub whole : text ≡ prefix ++ (digits ++ ending)
  pub begins : IsPrefix form prefix
  pub all : IsTrue (list_all (is_in (digit_class form)) digits)
  pub some : IsTrue (may_follow form digits)
  pub ends : SpellsSuffix suffix ending

-- ---- its value

-- the base in which the digits of a form are read
abbrev pub base_of : Form → ℕ
base_of Decimal = 10
base_of Octal = 8
base_of Hexadecimal = 16

-- the value of a digit, of any base
abbrev pub digit_value : ℕ → ℕ
digit_value b = if nat_le b 57 then b - 48 else if nat_le b 70 then b - 55 else b - 87

-- the value of digits in this base, the highest first
abbrev pub value_of : ℕ → List ℕ → ℕ
value_of base digits = fold (λ v b. v * base + digit_value b) 0 digits

-- ---- its kind

-- the kinds of a number with `l` or `ll` and without `u`, in the order in which they are tried
abbrev pub long_kinds : Form → List IntKind
long_kinds Decimal = I64 ∷ []
long_kinds Octal = I64 ∷ U64 ∷ []
long_kinds Hexadecimal = I64 ∷ U64 ∷ []

-- the kinds of a number without a suffix, in the order in which they are tried
abbrev pub plain_kinds : Form → List IntKind
plain_kinds Decimal = I32 ∷ I64 ∷ []
plain_kinds Octal = I32 ∷ U32 ∷ I64 ∷ U64 ∷ []
plain_kinds Hexadecimal = I32 ∷ U32 ∷ I64 ∷ U64 ∷ []

-- the kinds that a number may have, in the order in which they are tried
abbrev pub kinds_of : Form → Suffix → List IntKind
kinds_of form s =
    if s.unsigned then (if s.long then U64 ∷ [] else U32 ∷ U64 ∷ [])
    else if s.long then long_kinds form
    else plain_kinds form

-- none of these kinds holds the value
abbrev pub none_holds : List IntKind → ℕ → Bool
none_holds kinds value = list_all (λ kind. not (holds kind value)) kinds

-- the kind is the first of these that holds the value
pub record IsFirstHolding (kinds : List IntKind) (value : ℕ) (kind : IntKind) : Type 0 where
  pub before : List IntKind
  pub behind : List IntKind
  pub whole : kinds ≡ before ++ kind ∷ behind
  pub fits : IsTrue (holds kind value)
  pub first : IsTrue (none_holds before value)

-- ---- the three things that a text can be

-- the text spells the literal: its value is that of the digits, and its kind the first that holds it
pub record SpellsNumber (literal : Literal) (text : List ℕ) : Type 0 where
  pub form : Form
  pub digits : List ℕ
  pub suffix : Suffix
  pub written : WritesNumber form digits suffix text
  pub value : literal.value ≡ value_of (base_of form) digits
  pub kind : IsFirstHolding (kinds_of form suffix) literal.value literal.kind

-- the text is a number, and none of the kinds that it may have holds its value
pub record IsTooLarge (text : List ℕ) : Type 0 where
  pub form : Form
  pub digits : List ℕ
  pub suffix : Suffix
  pub written : WritesNumber form digits suffix text
  pub none : IsTrue (none_holds (kinds_of form suffix) (value_of (base_of form) digits))

-- the text is no number
abbrev pub IsNoNumber : List ℕ → Type 0
IsNoNumber text = (form : Form) (digits : List ℕ) (suffix : Suffix) → WritesNumber form digits suffix text → ⊥
