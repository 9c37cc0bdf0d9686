-- What the calls of the backends that only count give, which are seen as the number of ANDs that they made.
use Rattle.std.specs.Prelude.{◌≡◌, ℕ, ◌+◌, ◌%◌, ◌^◌, Bool, false, ◌&&◌, not, refl}
use Rattle.std.proofs.Common.{arith, ap, ◌∙◌}
use Rattle.gate_core.specs.Circuit.{Calls, xor}
use Rattle.gate_core.specs.Laws.{Laws, Counts, Rises, HasRoom}

-- the ANDs that one word event needs at most
abbrev pub most_ands : ℕ
most_ands = 8445

-- what is carried of a function of two bits hangs on what is told of them alone
abbrev pub CarriesBits : {W : Type 0} → (Bool → W) → (W → Bool) → Type 0
CarriesBits carried told = (f : Bool → Bool → Bool) (x y : Bool) → carried (f (told (carried x)) (told (carried y))) ≡ carried (f x y)

-- a default wire carries 0
abbrev pub CarriesDefault : {W : Type 0} → (Bool → W) → (W → Type 0) → Type 0
CarriesDefault {W} carried is_default = (w : W) → is_default w → w ≡ carried false

-- the wires carry each gate's function of the bits that its inputs tell, and an AND is counted and always has room
abbrev pub counting_calls : {W : Type 0} → (Bool → W) → (W → Bool) → Calls ℕ W
counting_calls carried told = record {
  known_wire = λ s b. carried b;
  xor_wire = λ s a b. carried (xor (told a) (told b));
  not_wire = λ s a. carried (not (told a));
  and_is = λ s a b w t. (w ≡ carried (told a && told b)) × (t ≡ (s + 1) % 2 ^ 64);
  has_room = λ s a b. HasRoom (λ (s : ℕ). most_ands) s 1;
}

-- a count that is one more, modulo 2^64, rose by one
counted : (s t : ℕ) → t ≡ (s + 1) % 2 ^ 64 → Rises s 1 t
counted s t e = omega (arith, e)

-- a wire that stands for a bit is the one that carries it, and gates keep that
pub counting_laws : {W : Type 0} (carried : Bool → W) (told : W → Bool) → CarriesBits carried told
    → Laws (counting_calls carried told) (λ (s : ℕ) (w : W) (x : Bool). w ≡ carried x)
counting_laws carried told law = record {
  known_stands = λ s x. refl;
  not_stands = λ s a x h. ap (λ w. carried (not (told w))) h ∙ law (λ u v. not u) x x;
  xor_stands = λ s a b x y h k.
      ap (λ w. carried (xor (told w) (told b))) h ∙ ap (λ w. carried (xor (told (carried x)) (told w))) k ∙ law xor x y;
  and_stands = λ s t a b w x y g h k.
      g.0 ∙ ap (λ v. carried (told v && told b)) h ∙ ap (λ v. carried (told (carried x) && told v)) k ∙ law (λ u v. u && v) x y;
  and_keeps = λ s t a b w v x g h. h;
  and_known = λ s t a b w x g. refl;
}

-- a default wire is the known 0
pub counting_default : {W : Type 0} (carried : Bool → W) (told : W → Bool) {is_default : W → Type 0} → CarriesDefault carried is_default
    → (s : ℕ) (w : W) → is_default w → w ≡ (counting_calls carried told).known_wire s false
counting_default carried told h s w d = h w d

-- an AND adds one to the count, and the room is always most_ands
pub counting_counts : {W : Type 0} (carried : Bool → W) (told : W → Bool)
    → Counts (counting_calls carried told) (λ (s : ℕ). s) (λ (s : ℕ). most_ands)
counting_counts carried told = record {
  and_made = λ s t a b w g. counted s t g.1;
  and_room = λ s t a b w g. omega arith;
  room_serves = λ s a b h. h;
}
