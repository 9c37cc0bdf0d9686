-- A list of gates read over any kind of wire, and lists put behind one another.
use Rattle.std.specs.Prelude.{◌≡◌, ℕ, suc, ◌+◌, ◌-◌, Bool, false, not, ◌&&◌, ⊤, List, [], ◌∷◌, ◌++◌, get_or, length, map}
use Rattle.gate_core.specs.Circuit.{Calls, xor}
use Rattle.gate_core.specs.Laws.{HasRoom}
use Rattle.gate_core.specs.Relations.{All2}
use Rattle.gate_core.specs.GateList.{Gate, gate_known, gate_not, gate_xor, gate_and, At, PlaysList, PlaysGates, AffordsList}

-- a kind of wire, and what is kept from gate to gate: each gate gives a wire and what is kept after it
pub record Wiring (W K : Type 0) : Type 0 where
  pub known_wire : Bool → K → W × K
  pub not_wire : W → K → W × K
  pub xor_wire : W → W → K → W × K
  pub and_wire : W → W → K → W × K

-- the wire that has a number; one that isn't there is the known 0
abbrev pub wire_at : {W K : Type 0} → Wiring W K → List W → K → ℕ → W
wire_at N ws k i = get_or ws i (N.known_wire false k).0

-- the wire that a gate gives, and what is kept after it
abbrev pub read_gate : {W K : Type 0} → Wiring W K → Gate → List W → K → W × K
read_gate N (gate_known b) ws k = N.known_wire b k
read_gate N (gate_not i) ws k = N.not_wire (wire_at N ws k i) k
read_gate N (gate_xor i j) ws k = N.xor_wire (wire_at N ws k i) (wire_at N ws k j) k
read_gate N (gate_and i j) ws k = N.and_wire (wire_at N ws k i) (wire_at N ws k j) k

-- all wires once a list of gates was read, and what is kept: each gate puts its wire after those that there are
abbrev pub read_gates : {W K : Type 0} → Wiring W K → List Gate → List W → K → List W × K
read_gates N [] ws k = (ws, k)
read_gates N (g ∷ gs) ws k = read_gates N gs (ws ++ (read_gate N g ws k).0 ∷ []) (read_gate N g ws k).1

-- the wires that have these numbers
abbrev pub wires_at : {W K : Type 0} → Wiring W K → List W → K → List ℕ → List W
wires_at N ws k [] = []
wires_at N ws k (i ∷ is) = wire_at N ws k i ∷ wires_at N ws k is

-- the answer of a list of gates on the operands' wires, and what is kept after it
abbrev pub read : {W K : Type 0} → Wiring W K → List Gate × List ℕ → List W → K → List W × K
read N f ws k = (wires_at N (read_gates N f.0 ws k).0 (read_gates N f.0 ws k).1 f.1, (read_gates N f.0 ws k).1)

-- wires that are bits, of which nothing is kept
abbrev pub bits : Wiring Bool ⊤
bits = record {
  known_wire = λ b k. (b, k);
  not_wire = λ x k. (not x, k);
  xor_wire = λ x y k. (xor x y, k);
  and_wire = λ x y k. (x && y, k);
}

-- the truth of the answer of a list of gates, where the operands' wires have these bits
abbrev pub truth_of : List Gate × List ℕ → List Bool → List Bool
truth_of f bs = (read bits f bs tt).0

-- how many of a list of gates are ANDs
abbrev pub ands_in : List Gate → ℕ
ands_in [] = 0
ands_in (gate_known b ∷ gs) = ands_in gs
ands_in (gate_not i ∷ gs) = ands_in gs
ands_in (gate_xor i j ∷ gs) = ands_in gs
ands_in (gate_and i j ∷ gs) = suc (ands_in gs)

-- the number of a wire once the operands, which came first, have the numbers xs, and the next wire the number n
abbrev pub number_in : List ℕ → ℕ → ℕ → ℕ
number_in xs n i = get_or xs i (n + (i - length xs))

-- a gate whose inputs have these other numbers
abbrev pub renumbered : (ℕ → ℕ) → Gate → Gate
renumbered f (gate_known b) = gate_known b
renumbered f (gate_not i) = gate_not (f i)
renumbered f (gate_xor i j) = gate_xor (f i) (f j)
renumbered f (gate_and i j) = gate_and (f i) (f j)

-- a list of gates with the numbers of its answer, where the operands have the numbers xs, and the next wire the number n
abbrev pub put_in : List ℕ → ℕ → List Gate × List ℕ → List Gate × List ℕ
put_in xs n f = (map (renumbered (number_in xs n)) f.0, map (number_in xs n) f.1)

-- wires of gates that were played stand for the truth of the operands' bits
abbrev pub StandsForTruth : {S W : Type 0} → Calls S W → (S → W → Bool → Type 0) → Type 0
StandsForTruth {S} {W} m stands = (f : List Gate × List ℕ) (ws r : List W) (bs : List Bool) (s t : S)
    → PlaysGates m f ws s r t → All2 (stands s) ws bs → All2 (stands t) r (truth_of f bs)

-- one list of gates and then another is played where the first is played, and then the other from where it stands
abbrev pub PlaysOnward : {S W : Type 0} → Calls S W → Type 0
PlaysOnward {S} {W} m = (gs hs : List Gate) (ws vs : List W) (s t : S)
    → (((us : List W) (u : S) → PlaysList m gs ws s us u → PlaysList m hs us u vs t → PlaysList m (gs ++ hs) ws s vs t)
    × (PlaysList m (gs ++ hs) ws s vs t → (us : List W) × (u : S) × PlaysList m gs ws s us u × PlaysList m hs us u vs t))

-- what is played on the operands' wires alone is played behind all wires that there are, with the operands' numbers put in
abbrev pub PlaysPutIn : {S W : Type 0} → Calls S W → Type 0
PlaysPutIn {S} {W} m = (f : List Gate × List ℕ) (xs : List ℕ) (us ws r : List W) (s t : S)
    → All2 (λ w i. At us i w) ws xs → PlaysGates m f ws s r t
    → (new : List W) × (length new ≡ length f.0)
    × PlaysList m (put_in xs (length us) f).0 us s (us ++ new) t × All2 (λ w i. At (us ++ new) i w) r (put_in xs (length us) f).1

-- one list of gates and then another is read as the first, and then the other from where it stands
abbrev pub ReadsOnward : {W K : Type 0} → Wiring W K → Type 0
ReadsOnward {W} {K} N = (gs hs : List Gate) (ws : List W) (k : K)
    → read_gates N (gs ++ hs) ws k ≡ read_gates N hs (read_gates N gs ws k).0 (read_gates N gs ws k).1

-- gates behind all wires, with the operands' numbers put in, are read as on the operands' wires alone
abbrev pub ReadsPutIn : {W K : Type 0} → Wiring W K → Type 0
ReadsPutIn {W} {K} N = (f : List Gate × List ℕ) (xs : List ℕ) (us ws : List W) (k : K)
    → All2 (λ w i. At us i w) ws xs → read N (put_in xs (length us) f) us k ≡ read N f ws k

-- a room of as many ANDs as a list of gates has is room for the list
abbrev pub RoomSuffices : {S W : Type 0} → Calls S W → (S → ℕ) → Type 0
RoomSuffices {S} {W} m room = (gs : List Gate) (ws : List W) (s : S) → HasRoom room s (ands_in gs) → AffordsList m gs ws s

-- room for one list of gates and then another is room for the first, and for the other from where it stands
abbrev pub AffordsOnward : {S W : Type 0} → Calls S W → Type 0
AffordsOnward {S} {W} m = (gs hs : List Gate) (ws : List W) (s : S)
    → (AffordsList m (gs ++ hs) ws s → AffordsList m gs ws s × ((us : List W) (u : S) → PlaysList m gs ws s us u → AffordsList m hs us u))
    × (AffordsList m gs ws s → ((us : List W) (u : S) → PlaysList m gs ws s us u → AffordsList m hs us u) → AffordsList m (gs ++ hs) ws s)
