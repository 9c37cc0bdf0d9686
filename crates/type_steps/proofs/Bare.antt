-- What is left of the tests of types without the marks `obliv`.
use Rattle.std.proofs.Common.{◌≡◌, refl, ap, ◌∙◌, Bool, true, false}
use Rattle.std.specs.Prelude.{◌&&◌, ◌||◌, not}
use Rattle.oc_values.specs.declared.integers.BinaryOp.{BinaryOp}
use Rattle.oc_cells.specs.declared.types.CType.{CType, Int, Pointer', Array', Struct, Nothing, more_of-CType}
use Rattle.oc_cells.specs.Types.{same, is_integer, is_hidden, is_pointer, is_struct, target}
use Rattle.type_rules.specs.Judging.{is_nothing, is_null, leads, is_public, bare, converts, both_integers, steps, alike_pointers, is_comparison}

bare_integer : (t : CType) → is_integer (bare t) ≡ is_integer t
bare_integer (Int k o) = refl
bare_integer (Pointer' f u t) = refl
bare_integer (Array' n u t) = refl
bare_integer (Struct n) = refl
bare_integer Nothing = refl

bare_hidden : (t : CType) → is_hidden (bare t) ≡ false
bare_hidden (Int k o) = refl
bare_hidden (Pointer' f u t) = refl
bare_hidden (Array' n u t) = refl
bare_hidden (Struct n) = refl
bare_hidden Nothing = refl

bare_nothing : (t : CType) → is_nothing (bare t) ≡ is_nothing t
bare_nothing (Int k o) = refl
bare_nothing (Pointer' f u t) = refl
bare_nothing (Array' n u t) = refl
bare_nothing (Struct n) = refl
bare_nothing Nothing = refl

bare_address : (t : CType) → is_pointer (bare t) ≡ is_pointer t
bare_address (Int k o) = refl
bare_address (Pointer' f u t) = refl
bare_address (Array' n u t) = refl
bare_address (Struct n) = refl
bare_address Nothing = refl

bare_target : (t : CType) → is_nothing (target (bare t)) ≡ is_nothing (target t)
bare_target (Int k o) = refl
bare_target (Pointer' f u (more_of-CType t ts)) = bare_nothing t
bare_target (Array' n u t) = refl
bare_target (Struct n) = refl
bare_target Nothing = refl

bare_struct : (s t : CType) → (is_struct (bare t) && same true (bare s) (bare t)) ≡ (is_struct t && same true s t)
bare_struct s (Int k o) = refl
bare_struct s (Pointer' f u t) = refl
bare_struct s (Array' n u t) = refl
bare_struct (Int k o) (Struct n) = refl
bare_struct (Pointer' f u t) (Struct n) = refl
bare_struct (Array' m u t) (Struct n) = refl
bare_struct (Struct m) (Struct n) = refl
bare_struct Nothing (Struct n) = refl
bare_struct s Nothing = refl

-- the tests of a conversion put together
abbrev form : Bool → Bool → Bool → Bool → Bool → Bool → Bool → Bool → Bool → Bool → Bool
form k a b c d e f g h m = (a && b && (not c || d)) || ((e && not f) && ((g && h) || k)) || m

-- the test as the code makes it
abbrev pub bare_test : CType → CType → Bool
bare_test s t = (is_integer s && is_integer t && (not false || false)) || (leads t && (is_null s || same false (bare s) (bare t))) || (is_struct t && same true s t)

pub bare_converts : (s t : CType) → converts (bare s) (bare t) ≡ bare_test s t
bare_converts s t =
    ap (λ z. form (same false (bare s) (bare t)) z (is_integer (bare t)) (is_hidden (bare s)) (is_hidden (bare t)) (is_pointer (bare t)) (is_nothing (target (bare t))) (is_pointer (bare s)) (is_nothing (target (bare s))) (is_struct (bare t) && same true (bare s) (bare t))) (bare_integer s)
    ∙ ap (λ z. form (same false (bare s) (bare t)) (is_integer s) z (is_hidden (bare s)) (is_hidden (bare t)) (is_pointer (bare t)) (is_nothing (target (bare t))) (is_pointer (bare s)) (is_nothing (target (bare s))) (is_struct (bare t) && same true (bare s) (bare t))) (bare_integer t)
    ∙ ap (λ z. form (same false (bare s) (bare t)) (is_integer s) (is_integer t) z (is_hidden (bare t)) (is_pointer (bare t)) (is_nothing (target (bare t))) (is_pointer (bare s)) (is_nothing (target (bare s))) (is_struct (bare t) && same true (bare s) (bare t))) (bare_hidden s)
    ∙ ap (λ z. form (same false (bare s) (bare t)) (is_integer s) (is_integer t) (false) z (is_pointer (bare t)) (is_nothing (target (bare t))) (is_pointer (bare s)) (is_nothing (target (bare s))) (is_struct (bare t) && same true (bare s) (bare t))) (bare_hidden t)
    ∙ ap (λ z. form (same false (bare s) (bare t)) (is_integer s) (is_integer t) (false) (false) z (is_nothing (target (bare t))) (is_pointer (bare s)) (is_nothing (target (bare s))) (is_struct (bare t) && same true (bare s) (bare t))) (bare_address t)
    ∙ ap (λ z. form (same false (bare s) (bare t)) (is_integer s) (is_integer t) (false) (false) (is_pointer t) z (is_pointer (bare s)) (is_nothing (target (bare s))) (is_struct (bare t) && same true (bare s) (bare t))) (bare_target t)
    ∙ ap (λ z. form (same false (bare s) (bare t)) (is_integer s) (is_integer t) (false) (false) (is_pointer t) (is_nothing (target t)) z (is_nothing (target (bare s))) (is_struct (bare t) && same true (bare s) (bare t))) (bare_address s)
    ∙ ap (λ z. form (same false (bare s) (bare t)) (is_integer s) (is_integer t) (false) (false) (is_pointer t) (is_nothing (target t)) (is_pointer s) z (is_struct (bare t) && same true (bare s) (bare t))) (bare_target s)
    ∙ ap (λ z. form (same false (bare s) (bare t)) (is_integer s) (is_integer t) (false) (false) (is_pointer t) (is_nothing (target t)) (is_pointer s) (is_nothing (target s)) z) (bare_struct s t)

both : {a b c d : Bool} → a ≡ c → b ≡ d → (a && b) ≡ (c && d)
both {a} {b} {c} {d} p q = ap (λ z. z && b) p ∙ ap (λ z. c && z) q

either : {a b c d : Bool} → a ≡ c → b ≡ d → (a || b) ≡ (c || d)
either {a} {b} {c} {d} p q = ap (λ z. z || b) p ∙ ap (λ z. c || z) q

and_true : (b : Bool) → (b && true) ≡ b
and_true true = refl
and_true false = refl

bare_null : (t : CType) → is_null (bare t) ≡ is_null t
bare_null t = both (bare_address t) (bare_target t)

bare_leads : (t : CType) → leads (bare t) ≡ leads t
bare_leads t = both (bare_address t) (ap not (bare_target t))

bare_public : (t : CType) → is_public (bare t) ≡ is_integer t
bare_public t = both (bare_integer t) (ap not (bare_hidden t)) ∙ and_true (is_integer t)

pub bare_both : (a b : CType) → both_integers (bare a) (bare b) ≡ both_integers a b
bare_both a b = both (bare_integer a) (bare_integer b)

pub bare_steps : (a b : CType) → steps (bare a) (bare b) ≡ (leads a && is_integer b)
bare_steps a b = both (bare_leads a) (bare_public b)

pub bare_alike : (a b : CType) → alike_pointers (bare a) (bare b) ≡ (is_pointer a && is_pointer b && (is_null a || is_null b || same false (bare a) (bare b)))
bare_alike a b = both (both (bare_address a) (bare_address b)) (either (either (bare_null a) (bare_null b)) refl)

-- what a compound assignment of integers asks for is there without the marks
pub bare_fits : (op : BinaryOp) (a b : CType) → (both_integers (bare a) (bare b) && not (is_comparison op) && (not (is_hidden (bare b)) || is_hidden (bare a))) ≡ (both_integers a b && not (is_comparison op))
bare_fits op a b = both (both (bare_both a b) refl) (ap (λ h. not h || is_hidden (bare a)) (bare_hidden b)) ∙ and_true (both_integers a b && not (is_comparison op))
