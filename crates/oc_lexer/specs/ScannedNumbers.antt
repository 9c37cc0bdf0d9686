-- What is read of a number: its form by its first bytes, its digits as far as they go, and what follows them.
use Rattle.std.specs.Prelude.{ℕ, ◌≡◌, refl, List, [], ◌∷◌, get_or, drop, Option, Some, None, Bool, true, false, ◌||◌, nat_eq, codes, if◌then◌else◌}
use Rattle.std.specs.Map.{lookup}
use Rattle.std.specs.Str.{bytes_eq}
use Rattle.oc_values.specs.declared.integers.IntKind.{IntKind}
use Rattle.oc_source.specs.declared.literal.Literal.{Literal}
use Rattle.oc_source.specs.Literals.{holds, is_literal}
use Rattle.oc_lexer.specs.declared.numbers.Form.{Form}
use Rattle.oc_lexer.specs.declared.numbers.Form.TheVariants.{Decimal, Octal, Hexadecimal}
use Rattle.oc_lexer.specs.declared.numbers.Suffix.{Suffix}
use Rattle.oc_lexer.specs.Bytes.{is_in, is_empty, run, after}
use Rattle.oc_lexer.specs.Numbers.{digit_class, base_of, value_of, kinds_of}

-- a number that begins with 0 is octal, and with 0x or 0X hexadecimal
abbrev pub form_of : List ℕ → Form
form_of text =
    if nat_eq (get_or text 0 0) 48 then (if nat_eq (get_or text 1 0) 120 || nat_eq (get_or text 1 0) 88 then Hexadecimal else Octal)
    else Decimal

-- how many bytes stand before the digits; the leading 0 of an octal number is one of its digits
abbrev pub prefix_length : Form → ℕ
prefix_length Decimal = 0
prefix_length Octal = 0
prefix_length Hexadecimal = 2

-- what follows the prefix: digits, and after them the suffix
abbrev pub body_of : List ℕ → List ℕ
body_of text = drop (prefix_length (form_of text)) text

-- the digits of a number, as far as they go after its prefix
abbrev pub digits_of : List ℕ → List ℕ
digits_of text = run (is_in (digit_class (form_of text))) (body_of text)

-- what follows the digits of a number
abbrev pub suffix_text : List ℕ → List ℕ
suffix_text text = after (is_in (digit_class (form_of text))) (body_of text)

-- a suffix: whether it has `u`, and whether it has `l` or `ll`
abbrev pub suffix : Bool → Bool → Suffix
suffix unsigned long = record { unsigned = unsigned; long = long }

-- `u`, and `l` or `ll`, in either order and either case, but for `lL` and `Ll`
abbrev pub suffixes : List (List ℕ × Suffix)
suffixes =
    ([], suffix false false)
    ∷ (codes "u", suffix true false) ∷ (codes "U", suffix true false)
    ∷ (codes "l", suffix false true) ∷ (codes "L", suffix false true) ∷ (codes "ll", suffix false true) ∷ (codes "LL", suffix false true)
    ∷ (codes "ul", suffix true true) ∷ (codes "uL", suffix true true) ∷ (codes "ull", suffix true true) ∷ (codes "uLL", suffix true true)
    ∷ (codes "Ul", suffix true true) ∷ (codes "UL", suffix true true) ∷ (codes "Ull", suffix true true) ∷ (codes "ULL", suffix true true)
    ∷ (codes "lu", suffix true true) ∷ (codes "Lu", suffix true true) ∷ (codes "llu", suffix true true) ∷ (codes "LLu", suffix true true)
    ∷ (codes "lU", suffix true true) ∷ (codes "LU", suffix true true) ∷ (codes "llU", suffix true true) ∷ (codes "LLU", suffix true true)
    ∷ []

-- the suffix of a number, none where the text is no number
unfoldable pub suffix_of : List ℕ → Option Suffix
suffix_of text = if is_empty (digits_of text) then None else lookup (bytes_eq (suffix_text text)) suffixes

-- the first of the kinds that holds a value
abbrev pub first_holding : List IntKind → ℕ → Option IntKind
first_holding [] v = None
first_holding (k ∷ ks) v = if holds k v then Some k else first_holding ks v

-- the literal of a kind and a value, where it is one
abbrev pub literal_where : (kind : IntKind) (value : ℕ) (is : Bool) → is_literal kind value ≡ is → Option Literal
literal_where kind value true h = Some (record { kind = kind; value = value; of_kind = h })
literal_where kind value false h = None

-- the literal of a kind and a value, none where no literal has that kind or the kind doesn't hold the value
unfoldable pub literal : IntKind → ℕ → Option Literal
literal kind value = literal_where kind value (is_literal kind value) refl

-- the literal of a kind and a value, none where there is no kind or no such literal
abbrev pub literal_of_kind : Option IntKind → ℕ → Option Literal
literal_of_kind (Some k) v = literal k v
literal_of_kind None v = None

-- the literal of a value in this form and with this suffix, none where it is no number or no kind holds it
abbrev pub literal_with : Option Suffix → Form → ℕ → Option Literal
literal_with (Some s) form v = literal_of_kind (first_holding (kinds_of form s) v) v
literal_with None form v = None

-- the value of the digits of a number, in the base of its form
abbrev pub number_value : List ℕ → ℕ
number_value text = value_of (base_of (form_of text)) (digits_of text)

-- the literal that a text spells, none where it is no number or no kind holds it
unfoldable pub literal_of : List ℕ → Option Literal
literal_of text = literal_with (suffix_of text) (form_of text) (number_value text)
