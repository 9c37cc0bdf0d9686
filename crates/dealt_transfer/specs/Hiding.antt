-- What transfers hide: which messages were chosen, and the messages that weren't.
use Rattle.std.specs.Prelude.{ℕ, ◌≡◌, Bool, true, false, not, List, [], ◌∷◌, length, bit_xor}
use Rattle.dealt_transfer.specs.declared.half.SenderHalf.{SenderHalf}
use Rattle.dealt_transfer.specs.Halves.{Receiver}
use Rattle.dealt_transfer.specs.Dealing.{chosen}
use Rattle.dealt_transfer.specs.Transfers.{Match, turned}

-- what the receiver sends for these choices, where these are its bits
abbrev pub sent_all : List Bool → List Bool → List Bool
sent_all (b ∷ bs) (r ∷ rs) = turned b r ∷ sent_all bs rs
sent_all _ _ = []

-- a receiver's bit that hides another choice as this one hides the first: turned by both
abbrev pub remapped : Bool → Bool → Bool → Bool
remapped b c r = turned (turned r b) c

-- the same of each of the receiver's bits
abbrev pub remapped_all : List Bool → List Bool → List Bool → List Bool
remapped_all (b ∷ bs) (c ∷ cs) (r ∷ rs) = remapped b c r ∷ remapped_all bs cs rs
remapped_all _ _ rs = rs

-- of a pair the one that the bit chooses stays, and the other one is changed by these bits
abbrev pub apart : Bool → ℕ → ℕ × ℕ → ℕ × ℕ
apart true x p = (bit_xor p.0 x, p.1)
apart false x p = (p.0, bit_xor p.1 x)

-- the same of each pair
abbrev pub apart_all : List Bool → List ℕ → List (ℕ × ℕ) → List (ℕ × ℕ)
apart_all (b ∷ bs) (x ∷ xs) (p ∷ ps) = apart b x p ∷ apart_all bs xs ps
apart_all _ _ ps = ps

-- two messages masked by a pair of pads, by the bit that came
abbrev pub masked : ℕ × ℕ → Bool → ℕ × ℕ → ℕ × ℕ
masked pads d m = (bit_xor m.0 (chosen pads d), bit_xor m.1 (chosen pads (not d)))

-- what the sender sends for pairs of messages, by the bits that came
abbrev pub masked_all : List (ℕ × ℕ) → List Bool → List (ℕ × ℕ) → List (ℕ × ℕ)
masked_all (p ∷ ps) (d ∷ ds) (m ∷ ms) = masked p d m ∷ masked_all ps ds ms
masked_all _ _ _ = []

-- the chosen ones of some pairs
abbrev pub chosen_all : List (ℕ × ℕ) → List Bool → List ℕ
chosen_all (p ∷ ps) (b ∷ bs) = chosen p b ∷ chosen_all ps bs
chosen_all _ _ = []

-- for any two lists of choices a map of the receiver's bits, which is one to one, gives the same bits sent: so what is sent tells
-- nothing of the choices to whom the receiver's bits are as likely one way as another
pub record ChoicesAreHidden : Type 0 where
  pub sent : (bs cs rs : List Bool) → length bs ≡ length rs → length cs ≡ length rs → sent_all cs (remapped_all bs cs rs) ≡ sent_all bs rs
  pub back : (bs cs rs : List Bool) → length bs ≡ length rs → length cs ≡ length rs → remapped_all cs bs (remapped_all bs cs rs) ≡ rs
  pub one_to_one : (bs cs rs ss : List Bool) → length bs ≡ length rs → length cs ≡ length rs → length rs ≡ length ss
      → remapped_all bs cs rs ≡ remapped_all bs cs ss → rs ≡ ss

-- a change of the messages that weren't chosen, made also to the sender's pads that the receiver lacks, leaves the pairs sent, the
-- chosen messages and the receiver's pads as they are, and the halves still match
pub record UnchosenIsHidden : Type 0 where
  pub sent : (bs rs : List Bool) (xs : List ℕ) (ps ms : List (ℕ × ℕ)) → masked_all (apart_all rs xs ps) (sent_all bs rs) (apart_all bs xs ms) ≡ masked_all ps (sent_all bs rs) ms
  pub told : (bs : List Bool) (xs : List ℕ) (ms : List (ℕ × ℕ)) → chosen_all (apart_all bs xs ms) bs ≡ chosen_all ms bs
  pub matched : (sender : SenderHalf) (receiver : Receiver) (xs : List ℕ) → Match sender receiver → length receiver.bits ≡ length receiver.pads
      → Match (record sender { pads = apart_all receiver.bits xs sender.pads }) receiver
