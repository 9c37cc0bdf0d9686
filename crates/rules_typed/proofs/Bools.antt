-- Tests that hold, and what may be there.
use Rattle.std.proofs.Common.{◌≡◌, Some, None, refl, sym, subst, Bool, true, false}
use Rattle.std.specs.Prelude.{◌&&◌, ◌||◌, not}
use Rattle.std.proofs.lemmas.Bool.{false≢true}

-- what is false is not true
pub never : {P : Type 0} → false ≡ true → P
never e = absurd (false≢true e)

-- two tests, and three
pub both : {a b : Bool} → a ≡ true → b ≡ true → (a && b) ≡ true
both {a} {b} p q = subst (λ c. (c && b) ≡ true) (sym p) q

pub three : {a b c : Bool} → a ≡ true → b ≡ true → c ≡ true → (a && b && c) ≡ true
three p q r = both (both p q) r

-- the first and the second of two tests
pub first : (a b : Bool) → (a && b) ≡ true → a ≡ true
first true b e = refl
first false b e = never e

pub second : (a b : Bool) → (a && b) ≡ true → b ≡ true
second true b e = e
second false b e = never e

-- one of two tests, where one fails or holds
pub or_none : (a : Bool) → (a || false) ≡ true → a ≡ true
or_none true h = refl
or_none false h = h

pub last : (a b : Bool) → b ≡ true → (a || b) ≡ true
last true b h = refl
last false b h = h

pub either : (a b : Bool) → a ≡ true → (a || b) ≡ true
either true b h = refl
either false b h = never h

-- one of two that implies one of two
pub either_null : (a b c : Bool) → (a ≡ true → b ≡ true) → (a || c) ≡ true → (b || c) ≡ true
either_null true b c f h = subst (λ d. (d || c) ≡ true) (sym (f refl)) refl
either_null false b c f h = last b c h

-- one of three that implies one of three, in another order
pub turned : (a b c d e : Bool) → (a ≡ true → d ≡ true) → (b ≡ true → e ≡ true) → (a || b || c) ≡ true → (c || d || e) ≡ true
turned true b true d e f k h = refl
turned true b false d e f k h = either d e (f refl)
turned false true true d e f k h = refl
turned false true false d e f k h = last d e (k refl)
turned false false true d e f k h = refl
turned false false false d e f k h = never h

-- what is neither nothing nor `NULL` is a type
pub leads : (n z a b : Bool) → (false || z || a) ≡ true → not n ≡ true → (a ≡ true → b ≡ true) → (z ≡ true → n ≡ true) → b ≡ true
leads n true a b h k f e = never (subst (λ m. not m ≡ true) (e refl) k)
leads n false a b h k f e = f h

-- by cases: which of several tests holds
pub one_of : {P : Type 0} (a b c : Bool) → (a ≡ true → P) → (b ≡ true → P) → (c ≡ true → P) → (a || b || c) ≡ true → P
one_of true b c f g h k = f refl
one_of false true c f g h k = g refl
one_of false false c f g h k = h k

-- where the first test fails, one of the others holds
pub others : (a b c d : Bool) → a ≡ false → (a || b || c || d) ≡ true → (b || c || d) ≡ true
others true b c d q k = never (sym q)
others false b c d q k = k

pub either_way : {P : Type 0} (a b : Bool) → (a ≡ true → P) → (b ≡ true → P) → (a || b) ≡ true → P
either_way true b f g k = f refl
either_way false b f g k = g k

-- a hidden result has the marks of its operands
pub marked : (o : Bool) → (not o || o) ≡ true
marked true = refl
marked false = refl

pub left_marked : (o q : Bool) → (not o || (o || q)) ≡ true
left_marked true q = refl
left_marked false q = refl

pub right_marked : (o q : Bool) → (not q || (o || q)) ≡ true
right_marked o false = refl
right_marked true true = refl
right_marked false true = refl

pub hidden_last : (o : Bool) → (not o || true) ≡ true
hidden_last true = refl
hidden_last false = refl

pub not_back : (b : Bool) → not (b && false) ≡ true
not_back true = refl
not_back false = refl

-- where neither test holds
pub left_false : (a b : Bool) → (a || b) ≡ false → a ≡ false
left_false true b h = h
left_false false b h = refl

pub right_false : (a b : Bool) → (a || b) ≡ false → b ≡ false
right_false true b h = never (sym h)
right_false false b h = h

-- what may be there
pub some_is : {A : Type 0} {a b : A} → Some a ≡ Some b → a ≡ b
some_is q = (cc)

pub none_some : {A : Type 0} {a : A} → None ≡ Some a → ⊥
none_some q = (cc)

pub some_none : {A : Type 0} {a : A} → Some a ≡ None → ⊥
some_none q = (cc)
