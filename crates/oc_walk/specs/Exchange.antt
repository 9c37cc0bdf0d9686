-- What a run takes in and what it shows: private and public words, reveals, results and prints.
use Rattle.std.specs.Prelude.{ℕ, zero, suc, ℤ, pos, negsuc, List, [], ◌∷◌, ◌++◌, Option, Some, None, Bool, true, false, nat_lt, slice_get}
use Rattle.std.specs.Fmt.{signed_decimal}
use Rattle.oc_values.specs.declared.integers.IntKind.{IntKind}
use Rattle.oc_values.specs.declared.integers.IntKind.TheVariants.{I64}
use Rattle.oc_values.specs.Integers.{convert, width, residue}
use Rattle.oc_values.specs.Kinds.{same_kind}
use Rattle.oc_cells.specs.declared.trap.TrapKind.TheVariants.{I1}
use Rattle.oc_source.specs.declared.spot.Spot.{Spot}
use Rattle.oc_typed.specs.declared.typed.PrintPiece.{PrintPiece}
use Rattle.oc_typed.specs.declared.typed.PrintPiece.TheVariants.{Text, Decimal, Byte}
use Rattle.oc_walk.specs.declared.run.Value.{Value}
use Rattle.oc_walk.specs.declared.run.Value.TheVariants.{Int, Hidden, Nothing}
use Rattle.oc_walk.specs.declared.run.Source.{Source}
use Rattle.oc_walk.specs.declared.run.Source.TheVariants.{Word, Public}
use Rattle.oc_walk.specs.Domain.{Domain}
use Rattle.oc_walk.specs.Walking.{Act, bind, pure, trap, odd, choose, own, answer, transfers, Known}
use Rattle.oc_walk.specs.Cells.{V, M}
use Rattle.oc_walk.specs.Operations.{hidden_of}

-- how many private words the party of this number has
abbrev pub count_of : Known → ℕ → ℕ
count_of k (suc zero) = k.first
count_of k _ = k.second

-- the transfers that a feed uses: one a bit, of the second party's words
abbrev pub cost : ℕ → IntKind → ℕ
cost (suc zero) k = 0
cost _ k = width k

-- bytes before what is still to be made
abbrev pub onto : List ℕ → Option (List ℕ) → Option (List ℕ)
onto bytes (Some more) = Some (bytes ++ more)
onto bytes None = None

-- the bytes that the pieces of a format make of these values, one for each piece that isn't a text
abbrev pub formatted : {H : Type 0} → List PrintPiece → List (Value H) → Option (List ℕ)
formatted [] [] = Some []
formatted [] (v ∷ vs) = None
formatted (Text bytes ∷ ps) vs = onto bytes (formatted ps vs)
formatted (Decimal k ∷ ps) (Int l n ∷ vs) = onto (signed_decimal (convert n k)) (formatted ps vs)
formatted (Decimal k ∷ ps) _ = None
formatted (Byte ∷ ps) (Int l n ∷ vs) = onto (residue 8 n ∷ []) (formatted ps vs)
formatted (Byte ∷ ps) _ = None

module _ (D : Domain) where
  -- a private word, which uses its transfers, where its index is within the party's count, else trap I1
  abbrev pub counted : Spot → Bool → ℕ → IntKind → ℕ → Act (M D) (V D)
  counted q true party k i = bind (transfers (cost party k)) (λ _. hidden_of D k (D.feed party k i))
  counted q false party k i = trap I1 q

  -- a private word: an index out of the count stands before a want of transfers
  abbrev pub word : Known → Spot → ℕ → IntKind → V D → Act (M D) (V D)
  word known q party k (Int l (pos i)) = counted q (nat_lt i (count_of known party)) party k i
  word known q party k (Int l (negsuc i)) = trap I1 q
  word known q party k _ = odd q

  -- what a feed gives: the private word at this index, or the hidden value that its argument was made of a public one
  abbrev pub feeds : Known → Spot → Source → ℕ → IntKind → V D → Act (M D) (V D)
  feeds known p (Word q) party k v = word known q party k v
  feeds known p Public party k v = pure v

  -- a hidden value shown to both parties, and then a public one
  abbrev pub reveals : Spot → IntKind → V D → Act (M D) (V D)
  reveals p k (Hidden l h) =
      choose (same_kind k l)
      (bind (answer k (D.knows k h)) (λ n. bind (own {A = Unit {0}} (λ o. (tt {0}, D.reveal k h n o))) (λ _. pure (Int k n))))
      (odd p)
  reveals p k _ = odd p

  -- a hidden value shown to one party
  abbrev pub gives : Spot → IntKind → ℕ → V D → Act (M D) (V D)
  gives p k party (Hidden l h) =
      choose (same_kind k l) (bind (own {A = Unit {0}} (λ o. (tt {0}, D.give party k h o))) (λ _. pure Nothing)) (odd p)
  gives p k party _ = odd p

  -- a public word that is there
  abbrev pub known_word : Spot → Option ℤ → Act (M D) (V D)
  known_word p (Some n) = pure (Int I64 (convert n I64))
  known_word p None = trap I1 p

  -- the public word of this number
  abbrev pub public_word : Known → Spot → V D → Act (M D) (V D)
  public_word known p (Int k (pos i)) = known_word p (slice_get known.public i)
  public_word known p (Int k (negsuc i)) = trap I1 p
  public_word known p _ = odd p

  -- a print of the bytes that a format makes of its arguments
  abbrev pub prints : Spot → Option (List ℕ) → Act (M D) (V D)
  prints p (Some bytes) = bind (own {A = Unit {0}} (λ o. (tt {0}, D.print bytes o))) (λ _. pure Nothing)
  prints p None = odd p
