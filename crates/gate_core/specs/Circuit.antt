-- A circuit: gates one after another, over any kind of wire.
use Rattle.std.specs.Prelude.{◌≡◌, ℕ, zero, suc, Bool, true, false, not, List, [], ◌∷◌, ◌++◌}

-- gates in the order in which they are made, each of which gives its wire to what follows, and in the end the answer
pub data Circuit (W A : Type 0) : Type 0 where
  give : A → Circuit W A
  known : Bool → (W → Circuit W A) → Circuit W A
  flip : W → (W → Circuit W A) → Circuit W A
  join : W → W → (W → Circuit W A) → Circuit W A
  meet : W → W → (W → Circuit W A) → Circuit W A

-- one circuit and then another
abbrev pub then : {W A B : Type 0} → Circuit W A → (A → Circuit W B) → Circuit W B
then (give a) f = f a
then (known b k) f = known b (λ w. then (k w) f)
then (flip x k) f = flip x (λ w. then (k w) f)
then (join x y k) f = join x y (λ w. then (k w) f)
then (meet x y k) f = meet x y (λ w. then (k w) f)

-- f at 0, 1 .. n - 1, each from what the one before gave
abbrev pub times : {W A : Type 0} → ℕ → (ℕ → A → Circuit W A) → A → Circuit W A
times zero f a = give a
times (suc n) f a = then (times n f a) (f n)

-- f at 0, 1 .. n - 1, the answers in a row
abbrev pub row : {W : Type 0} → ℕ → (ℕ → Circuit W W) → Circuit W (List W)
row n f = times n (λ i ws. then (f i) (λ w. give (ws ++ w ∷ []))) []

-- what a backend's own calls give: functions of the backend and the wires, and for an AND a relation of the backend before, its inputs,
-- its wire and the backend after; and whether the backend has room for an AND of two wires
pub record Calls (S W : Type 0) : Type 1 where
  pub known_wire : S → Bool → W
  pub xor_wire : S → W → W → W
  pub not_wire : S → W → W
  pub and_is : S → W → W → W → S → Type 0
  pub has_room : S → W → W → Type 0

-- a circuit that a backend played, from the state s to the state t
abbrev pub Plays : {S W A : Type 0} → Calls S W → Circuit W A → S → A → S → Type 0
Plays m (give a) s r t = (a ≡ r) × (s ≡ t)
Plays m (known b k) s r t = Plays m (k (m.known_wire s b)) s r t
Plays m (flip x k) s r t = Plays m (k (m.not_wire s x)) s r t
Plays m (join x y k) s r t = Plays m (k (m.xor_wire s x y)) s r t
Plays {S} {W} m (meet x y k) s r t = (w : W) × (u : S) × m.and_is s x y w u × Plays m (k w) u r t

-- wherever the play of a circuit from the state s comes to an AND, there is room for it
abbrev pub Affords : {S W A : Type 0} → Calls S W → Circuit W A → S → Type 0
Affords m (give a) s = Unit {0}
Affords m (known b k) s = Affords m (k (m.known_wire s b)) s
Affords m (flip x k) s = Affords m (k (m.not_wire s x)) s
Affords m (join x y k) s = Affords m (k (m.xor_wire s x y)) s
Affords {S} {W} m (meet x y k) s = m.has_room s x y × ((w : W) (u : S) → m.and_is s x y w u → Affords m (k w) u)

-- whether two bits differ
abbrev pub xor : Bool → Bool → Bool
xor false y = y
xor true y = not y
