-- The first byte that isn't as its form wants.
use Rattle.std.proofs.Common.{ℕ, zero, suc, ◌+◌, ◌≡◌, ◌<◌, Bool, true, false, List, [], ◌∷◌, length, get_or, Option, Some, None, refl, sym, ap, ◌∙◌, arith}
use Rattle.std.specs.Prelude.{nat_eq}
use Rattle.std.proofs.lemmas.Bool.Decides.{nat_tests}
use Rattle.party_frames.specs.Forms.{Form, Free, right_byte, WrongByte, first_wrong_from, first_wrong, IsRight, IsFirstWrong, FindsFirst}

-- the byte is the first wrong one of lists that begin at a place
record FoundFrom (at : ℕ) (forms : List Form) (bytes : List ℕ) (wrong : WrongByte) : Type 0 where
  place : ℕ
  counted : wrong.at ≡ at + place
  here : place < length bytes
  bound : place < length forms
  found : wrong.found ≡ get_or bytes place 0
  expected : wrong.expected ≡ right_byte (get_or forms place Free) wrong.found
  differs : wrong.expected ≡ wrong.found → ⊥
  before : (i : ℕ) → i < place → IsRight forms bytes i

abbrev FindsFrom : ℕ → List Form → List ℕ → Option WrongByte → Type 0
FindsFrom at forms bytes (Some wrong) = FoundFrom at forms bytes wrong
FindsFrom at forms bytes None = (i : ℕ) → i < length bytes → i < length forms → IsRight forms bytes i

-- a right byte in front
past : (at : ℕ) (form : Form) (forms : List Form) (byte : ℕ) (bytes : List ℕ) (answer : Option WrongByte) → right_byte form byte ≡ byte
    → FindsFrom (suc at) forms bytes answer → FindsFrom at (form ∷ forms) (byte ∷ bytes) answer
past at form forms byte bytes (Some wrong) right f = record {
  place = suc f.place;
  counted = let c = f.counted in omega (arith, c);
  here = let h = f.here in omega (arith, h);
  bound = let b = f.bound in omega (arith, b);
  found = f.found;
  expected = f.expected;
  differs = f.differs;
  before = elim [ zero ↦ λ _. right | suc i ↦ λ lt. f.before i (omega (arith, lt)) ];
}
past at form forms byte bytes None right f = elim [ zero ↦ λ _ _. right | suc i ↦ λ lt le. f i (omega (arith, lt)) (omega (arith, le)) ]

-- a wrong byte in front
stopped : (at : ℕ) (form : Form) (forms : List Form) (byte : ℕ) (bytes : List ℕ) → (right_byte form byte ≡ byte → ⊥)
    → FoundFrom at (form ∷ forms) (byte ∷ bytes) (record { at = at; expected = right_byte form byte; found = byte })
stopped at form forms byte bytes wrong = record {
  place = 0;
  counted = omega arith;
  here = omega arith;
  bound = omega arith;
  found = refl;
  expected = refl;
  differs = wrong;
  before = λ i lt. absurd (omega (arith, lt));
}

-- a byte in front, by its test
by_test : (at : ℕ) (form : Form) (forms : List Form) (byte : ℕ) (bytes : List ℕ) (t : Bool) → nat_eq (right_byte form byte) byte ≡ t
    → FindsFrom (suc at) forms bytes (first_wrong_from (suc at) forms bytes) → FindsFrom at (form ∷ forms) (byte ∷ bytes) (first_wrong_from at (form ∷ forms) (byte ∷ bytes))
by_test at form forms byte bytes true e f = rw e (past at form forms byte bytes (first_wrong_from (suc at) forms bytes) (grind (arith, nat_tests)) f)
by_test at form forms byte bytes false e f = rw e (stopped at form forms byte bytes (λ h. grind (arith, nat_tests)))

finds_from : (at : ℕ) (forms : List Form) (bytes : List ℕ) → FindsFrom at forms bytes (first_wrong_from at forms bytes)
finds_from at [] bytes = λ i lt le. absurd (omega (arith, le))
finds_from at (form ∷ forms) [] = λ i lt le. absurd (omega (arith, lt))
finds_from at (form ∷ forms) (byte ∷ bytes) = by_test at form forms byte bytes (nat_eq (right_byte form byte) byte) refl (finds_from (suc at) forms bytes)

-- from the start on
at_first : (forms : List Form) (bytes : List ℕ) (answer : Option WrongByte) → FindsFrom 0 forms bytes answer → FindsFirst forms bytes answer
at_first forms bytes None f = f
at_first forms bytes (Some wrong) f =
    let place : wrong.at ≡ f.place = let c = f.counted in omega (arith, c) in
    record {
      here = rw place f.here;
      bound = rw place f.bound;
      found = rw place f.found;
      expected = rw place f.expected;
      differs = f.differs;
      before = rw place f.before;
    }

pub finds_first : (forms : List Form) (bytes : List ℕ) → FindsFirst forms bytes (first_wrong forms bytes)
finds_first forms bytes = at_first forms bytes (first_wrong forms bytes) (finds_from 0 forms bytes)
