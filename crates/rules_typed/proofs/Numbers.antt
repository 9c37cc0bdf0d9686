-- Numbers that are counted along lists.
use Rattle.std.proofs.Common.{ℕ, suc, ◌+◌, ◌≡◌, true, false, nat_eq, nat_lt, arith}
use Rattle.std.specs.Prelude.{nat_le}

-- a number as `nat_eq` and `nat_le` see it
pub number_itself : (n : ℕ) → nat_eq n n ≡ true
number_itself n = grind arith

pub number_is : (n m : ℕ) → nat_eq n m ≡ true → n ≡ m
number_is n m h = grind arith

pub not_zero : (n : ℕ) → nat_eq (suc n) 0 ≡ false
not_zero n = grind arith

pub at_most : (a b n : ℕ) → nat_le a b ≡ true → nat_le b n ≡ true → nat_le a n ≡ true
at_most a b n h i = grind arith

-- no number is less than 0, and one less is less than one less
pub no_less : (n : ℕ) → nat_lt n 0 ≡ true → ⊥
no_less n h = grind arith

pub one_less : (n m : ℕ) → nat_lt (suc n) (suc m) ≡ true → nat_lt n m ≡ true
one_less n m h = grind arith

-- lengths that differ
pub some_none : (n : ℕ) → suc n ≡ 0 → ⊥
some_none n q = omega arith

pub none_some : (n : ℕ) → 0 ≡ suc n → ⊥
none_some n q = omega arith

pub suc_is : (m n : ℕ) → suc m ≡ suc n → m ≡ n
suc_is m n q = omega arith

-- sums with nothing
pub none_more : (n : ℕ) → 0 + n ≡ n
none_more n = omega arith

pub one_more : (n : ℕ) → n + 1 ≡ suc n
one_more n = omega arith

-- a number that is counted from another on: here, and later
pub counted_here : (n m : ℕ) → n ≡ m → m ≡ n + 0
counted_here n m e = omega arith

pub counted_later : (n m i : ℕ) → m ≡ n + 1 + i → m ≡ n + suc i
counted_later n m i e = omega arith

pub counted_from_none : (k m : ℕ) → m ≡ 0 + k → k ≡ m
counted_from_none k m e = omega arith
