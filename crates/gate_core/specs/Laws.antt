-- The laws of a backend: how its wires stand for bits, and what an AND takes.
use Rattle.std.specs.Prelude.{◌≡◌, ℕ, ◌+◌, ◌%◌, ◌^◌, ◌≤◌, Bool, ◌&&◌, not}
use Rattle.gate_core.specs.Circuit.{Calls, xor}

-- in a state there is room for n ANDs, whatever their inputs are
abbrev pub HasRoom : {S : Type 0} → (S → ℕ) → S → ℕ → Type 0
HasRoom room s n = n ≤ room s

-- a count that rose by n, modulo 2^64
abbrev pub Rises : ℕ → ℕ → ℕ → Type 0
Rises before n after = after % 2 ^ 64 ≡ (before + n) % 2 ^ 64

-- each call gives a wire that stands for its function of the bits, and an AND leaves earlier wires as they stand, and known ones as
-- they are
pub record Laws {S W : Type 0} (m : Calls S W) (stands : S → W → Bool → Type 0) : Type 0 where
  pub known_stands : (s : S) (x : Bool) → stands s (m.known_wire s x) x
  pub not_stands : (s : S) (a : W) (x : Bool) → stands s a x → stands s (m.not_wire s a) (not x)
  pub xor_stands : (s : S) (a b : W) (x y : Bool) → stands s a x → stands s b y → stands s (m.xor_wire s a b) (xor x y)
  pub and_stands : (s t : S) (a b w : W) (x y : Bool) → m.and_is s a b w t → stands s a x → stands s b y → stands t w (x && y)
  pub and_keeps : (s t : S) (a b w v : W) (x : Bool) → m.and_is s a b w t → stands s v x → stands t v x
  pub and_known : (s t : S) (a b w : W) (x : Bool) → m.and_is s a b w t → m.known_wire t x ≡ m.known_wire s x

-- an AND adds one to the count, and lowers the room by at most one; a room of one has room for each
pub record Counts {S W : Type 0} (m : Calls S W) (made room : S → ℕ) : Type 0 where
  pub and_made : (s t : S) (a b w : W) → m.and_is s a b w t → Rises (made s) 1 (made t)
  pub and_room : (s t : S) (a b w : W) → m.and_is s a b w t → room s ≤ room t + 1
  pub room_serves : (s : S) (a b : W) → HasRoom room s 1 → m.has_room s a b
