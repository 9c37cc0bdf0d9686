-- A file without a form fault has its fields.
use Rattle.std.proofs.Common.{ℕ, ◌+◌, ◌≡◌, ◌≤◌, List, [], ◌∷◌, ◌++◌, length, take, drop, get_or, Bool, true, false, cond, Option, Some, None, refl, sym, ◌∙◌, arith}
use Rattle.std.specs.Prelude.{not}
use Rattle.std.proofs.lemmas.Bool.{ltb-false, eqb-true}
use Rattle.std.proofs.lemmas.Slice.Eq.{bytes_eq-Decides}
use Rattle.dealt_transfer.specs.declared.fault.HalfRule.{HalfRule}
use Rattle.dealt_transfer.specs.Halves.{most_transfers}
use Rattle.oc_values.specs.Packing.{byte_count, padding_set}
use Rattle.dealt_transfer.specs.Files.{sender_magic, receiver_magic}
use Rattle.dealt_transfer.specs.Faults.{Check, first_found, opening_checks, size_checks, bits_checks, count_at, sender_size, receiver_size, sender_fault, receiver_fault}

abbrev pub Fault : Type 0
Fault = HalfRule × ℕ

-- where nothing is found, the first check found nothing
none_first : (b : Bool) (f : Fault) (rest : Option Fault) → cond b (Some f) rest ≡ None → (b ≡ false) × (rest ≡ None)
none_first true f rest e = absurd cc
none_first false f rest e = (refl, e)

-- the first fault that is found in two lists of checks
pub first_found-append : (xs ys : List Check) → first_found xs ≡ None → first_found (xs ++ ys) ≡ first_found ys
first_found-append [] ys e = refl
first_found-append (x ∷ xs) ys e =
    let p = none_first x.found (x.rule, x.offset) (first_found xs) e in
    rw p.0 (first_found-append xs ys p.1)

found_ahead : (b : Bool) (f g : Fault) (x y : Option Fault) → (x ≡ Some g → y ≡ Some g) → cond b (Some f) x ≡ Some g → cond b (Some f) y ≡ Some g
found_ahead true f g x y h e = e
found_ahead false f g x y h e = h e

pub first_found-ahead : (xs ys : List Check) (f : Fault) → first_found xs ≡ Some f → first_found (xs ++ ys) ≡ Some f
first_found-ahead [] ys f e = absurd cc
first_found-ahead (x ∷ xs) ys f e = found_ahead x.found (x.rule, x.offset) f (first_found xs) (first_found (xs ++ ys)) (first_found-ahead xs ys f) e

none_of : (xs ys : List Check) → first_found (xs ++ ys) ≡ None → (first_found xs ≡ None) × (first_found ys ≡ None)
none_of [] ys e = (refl, e)
none_of (x ∷ xs) ys e =
    let p = none_first x.found (x.rule, x.offset) (first_found (xs ++ ys)) e in
    let q = none_of xs ys p.1 in
    (rw p.0 q.0, q.1)

not_false : (b : Bool) → not b ≡ false → b ≡ true
not_false true e = refl
not_false false e = absurd cc

-- the fields up to the number of transfers
pub record IsOpened (magic : List ℕ) (at : ℕ) (bytes : List ℕ) : Type 0 where
  pub long : at + 4 ≤ length bytes
  pub magic_is : take 4 bytes ≡ magic
  pub longer : 5 ≤ length bytes
  pub version : get_or bytes 4 0 ≡ 1
  pub count : count_at at bytes ≤ most_transfers

pub is_opened : (magic : List ℕ) (at : ℕ) (bytes : List ℕ) → first_found (opening_checks magic at bytes) ≡ None → IsOpened magic at bytes
is_opened magic at bytes e =
    let one = none_first _ _ _ e in
    let two = none_first _ _ _ one.1 in
    let three = none_first _ _ _ two.1 in
    let four = none_first _ _ _ three.1 in
    let five = none_first _ _ _ four.1 in
    let six = none_first _ _ _ five.1 in
    record {
      long = ltb-false _ _ five.0;
      magic_is = (bytes_eq-Decides (take 4 bytes) magic).0 (not_false _ two.0);
      longer = ltb-false _ _ three.0;
      version = eqb-true _ _ (not_false _ four.0);
      count = ltb-false _ _ six.0;
    }

pub is_sized : (size : ℕ) (bytes : List ℕ) → first_found (size_checks size bytes) ≡ None → length bytes ≡ size
is_sized size bytes e =
    let one = none_first _ _ _ e in
    let two = none_first _ _ _ one.1 in
    let above : size ≤ length bytes = ltb-false _ _ one.0 in
    let below : length bytes ≤ size = ltb-false _ _ two.0 in
    omega arith

-- the bits have their bytes, and no bit stands behind them
pub record HasBits (bits at : ℕ) (bytes : List ℕ) : Type 0 where
  pub long : at + byte_count bits ≤ length bytes
  pub padded : padding_set bits (drop at bytes) ≡ false

pub has_bits : (bits at : ℕ) (bytes : List ℕ) → first_found (bits_checks bits at bytes) ≡ None → HasBits bits at bytes
has_bits bits at bytes e =
    let one = none_first _ _ _ e in
    let two = none_first _ _ _ one.1 in
    record {
      long = ltb-false _ _ one.0;
      padded = two.0;
    }

-- the fault of a sender's file is that of its opening, or of its size
pub sender_opening : (bytes : List ℕ) (f : Fault) → Some f ≡ first_found (opening_checks sender_magic 53 bytes) → Some f ≡ sender_fault bytes
unfolding sender_fault
sender_opening bytes f e = sym (first_found-ahead (opening_checks sender_magic 53 bytes) (size_checks (sender_size (count_at 53 bytes)) bytes) f (sym e))

pub sender_sized : (bytes : List ℕ) → first_found (opening_checks sender_magic 53 bytes) ≡ None → sender_fault bytes ≡ first_found (size_checks (sender_size (count_at 53 bytes)) bytes)
unfolding sender_fault
sender_sized bytes e = first_found-append (opening_checks sender_magic 53 bytes) (size_checks (sender_size (count_at 53 bytes)) bytes) e

-- that of a receiver's file is that of its opening, of its bits, or of its size
pub receiver_opening : (bytes : List ℕ) (f : Fault) → Some f ≡ first_found (opening_checks receiver_magic 21 bytes) → Some f ≡ receiver_fault bytes
unfolding receiver_fault
receiver_opening bytes f e = let n = count_at 21 bytes in sym (first_found-ahead (opening_checks receiver_magic 21 bytes) (bits_checks n 25 bytes ++ size_checks (receiver_size n) bytes) f (sym e))

pub receiver_bits : (bytes : List ℕ) (f : Fault) → first_found (opening_checks receiver_magic 21 bytes) ≡ None
    → Some f ≡ first_found (bits_checks (count_at 21 bytes) 25 bytes) → Some f ≡ receiver_fault bytes
unfolding receiver_fault
receiver_bits bytes f e h =
    let n = count_at 21 bytes in
    sym (first_found-append (opening_checks receiver_magic 21 bytes) (bits_checks n 25 bytes ++ size_checks (receiver_size n) bytes) e ∙ first_found-ahead (bits_checks n 25 bytes) (size_checks (receiver_size n) bytes) f (sym h))

pub receiver_sized : (bytes : List ℕ) → first_found (opening_checks receiver_magic 21 bytes) ≡ None
    → first_found (bits_checks (count_at 21 bytes) 25 bytes) ≡ None
    → receiver_fault bytes ≡ first_found (size_checks (receiver_size (count_at 21 bytes)) bytes)
unfolding receiver_fault
receiver_sized bytes e h =
    let n = count_at 21 bytes in
    first_found-append (opening_checks receiver_magic 21 bytes) (bits_checks n 25 bytes ++ size_checks (receiver_size n) bytes) e ∙ first_found-append (bits_checks n 25 bytes) (size_checks (receiver_size n) bytes) h

-- a file without a fault passes all its checks
pub sender_passes : (bytes : List ℕ) → sender_fault bytes ≡ None → IsOpened sender_magic 53 bytes × (length bytes ≡ sender_size (count_at 53 bytes))
unfolding sender_fault
sender_passes bytes e =
    let p = none_of (opening_checks sender_magic 53 bytes) (size_checks (sender_size (count_at 53 bytes)) bytes) e in
    (is_opened sender_magic 53 bytes p.0, is_sized (sender_size (count_at 53 bytes)) bytes p.1)

pub receiver_passes : (bytes : List ℕ) → receiver_fault bytes ≡ None
    → IsOpened receiver_magic 21 bytes × HasBits (count_at 21 bytes) 25 bytes × (length bytes ≡ receiver_size (count_at 21 bytes))
unfolding receiver_fault
receiver_passes bytes e =
    let n = count_at 21 bytes in
    let p = none_of (opening_checks receiver_magic 21 bytes) (bits_checks n 25 bytes ++ size_checks (receiver_size n) bytes) e in
    let q = none_of (bits_checks n 25 bytes) (size_checks (receiver_size n) bytes) p.1 in
    (is_opened receiver_magic 21 bytes p.0, has_bits n 25 bytes q.0, is_sized (receiver_size n) bytes q.1)
