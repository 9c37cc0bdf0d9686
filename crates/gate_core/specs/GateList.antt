-- A circuit as a list of gates that take wires by number, and what it is to play such a list.
use Rattle.std.specs.Prelude.{◌≡◌, ℕ, zero, suc, ◌<◌, length, get_or, Bool, List, [], ◌∷◌, ◌++◌}
use Rattle.gate_core.specs.Circuit.{Circuit, Calls}
use Rattle.gate_core.specs.Circuit.Circuit.{give, known, flip, join, meet}
use Rattle.gate_core.specs.Relations.{All2}

-- a gate; it gives its wire the next number
pub data Gate : Type 0 where
  gate_known : Bool → Gate
  gate_not : ℕ → Gate
  gate_xor : ℕ → ℕ → Gate
  gate_and : ℕ → ℕ → Gate

-- the gates of a circuit in order, where the next wire's number is n, and its answer by numbers
abbrev pub gates_of : {A : Type 0} → ℕ → Circuit ℕ A → List Gate × A
gates_of n (give a) = ([], a)
gates_of n (known b k) = let r = gates_of (suc n) (k n) in (gate_known b ∷ r.0, r.1)
gates_of n (flip x k) = let r = gates_of (suc n) (k n) in (gate_not x ∷ r.0, r.1)
gates_of n (join x y k) = let r = gates_of (suc n) (k n) in (gate_xor x y ∷ r.0, r.1)
gates_of n (meet x y k) = let r = gates_of (suc n) (k n) in (gate_and x y ∷ r.0, r.1)

-- the numbers n, n + 1 .. of k wires
abbrev pub numbers : ℕ → ℕ → List ℕ
numbers n zero = []
numbers n (suc k) = n ∷ numbers (suc n) k

-- the wire w has the number i among the wires ws
abbrev pub At : {W : Type 0} → List W → ℕ → W → Type 0
At ws i w = (i < length ws) × (get_or ws i w ≡ w)

-- a list of gates that a backend played, from the state s to the state t: each gate puts its wire after those that there are
abbrev pub PlaysList : {S W : Type 0} → Calls S W → List Gate → List W → S → List W → S → Type 0
PlaysList m [] ws s vs t = (ws ≡ vs) × (s ≡ t)
PlaysList m (gate_known b ∷ gs) ws s vs t = PlaysList m gs (ws ++ m.known_wire s b ∷ []) s vs t
PlaysList {S} {W} m (gate_not i ∷ gs) ws s vs t = (a : W) × At ws i a × PlaysList m gs (ws ++ m.not_wire s a ∷ []) s vs t
PlaysList {S} {W} m (gate_xor i j ∷ gs) ws s vs t =
    (a : W) × (b : W) × At ws i a × At ws j b × PlaysList m gs (ws ++ m.xor_wire s a b ∷ []) s vs t
PlaysList {S} {W} m (gate_and i j ∷ gs) ws s vs t =
    (a : W) × (b : W) × (w : W) × (u : S) × At ws i a × At ws j b × m.and_is s a b w u × PlaysList m gs (ws ++ w ∷ []) u vs t

-- a list of gates with the numbers of its answer, played on the operands' wires: it gave the wires r
unfoldable pub PlaysGates : {S W : Type 0} → Calls S W → List Gate × List ℕ → List W → S → List W → S → Type 0
PlaysGates {S} {W} m f ws s r t = (vs : List W) × PlaysList m f.0 ws s vs t × All2 (λ w i. At vs i w) r f.1

-- wherever the play of a list of gates on the wires ws, from the state s, comes to an AND, there is room for it
abbrev pub AffordsList : {S W : Type 0} → Calls S W → List Gate → List W → S → Type 0
AffordsList m [] ws s = Unit {0}
AffordsList m (gate_known b ∷ gs) ws s = AffordsList m gs (ws ++ m.known_wire s b ∷ []) s
AffordsList {S} {W} m (gate_not i ∷ gs) ws s = (a : W) → At ws i a → AffordsList m gs (ws ++ m.not_wire s a ∷ []) s
AffordsList {S} {W} m (gate_xor i j ∷ gs) ws s = (a b : W) → At ws i a → At ws j b → AffordsList m gs (ws ++ m.xor_wire s a b ∷ []) s
AffordsList {S} {W} m (gate_and i j ∷ gs) ws s =
    (a b : W) → At ws i a → At ws j b → m.has_room s a b × ((w : W) (u : S) → m.and_is s a b w u → AffordsList m gs (ws ++ w ∷ []) u)
