-- Private words: what a feed of one does, by what stands at its index.
use Rattle.std.proofs.Common.{ℕ, zero, suc, ◌≡◌, ℤ, pos, negsuc, List, [], ◌∷◌, length, Option, Some, None, true, false, slice_get, nat_lt, Result, subst, refl, sym, ap, ◌∙◌, arith}
use Rattle.std.specs.Prelude.{unwrap_or}
use Rattle.std.proofs.lemmas.Bool.Decides.{nat_tests}
use Rattle.oc_values.specs.declared.integers.IntKind.{IntKind}
use Rattle.oc_values.specs.Integers.{convert}
use Rattle.oc_source.specs.declared.spot.Spot.{Spot}
use Rattle.oc_walk.specs.declared.run.ClearSetup.{ClearSetup}
use Rattle.oc_walk.specs.declared.run.Value.{Value}
use Rattle.oc_walk.specs.declared.run.Value.TheVariants.{Int, Hidden}
use Rattle.oc_walk.specs.Walking.{bind, pure, transfers}
use Rattle.oc_walk.specs.Exchange.{word, counted, cost, count_of}
use Rattle.oc_meanings.specs.Clear.{clear, known_of, words_of}
use Rattle.clear_actions.specs.Acting.{ClearMem, mem_of, word_in, fed, Does}
use Rattle.clear_actions.specs.declared.machine.Fault.{Fault}
use Rattle.clear_actions.specs.declared.machine.Store.{Store}

within_count : (words : List ℤ) (i : ℕ) (n : ℤ) → slice_get words i ≡ Some n → nat_lt i (length words) ≡ true
within_count [] i n e = cc
within_count (w ∷ ws) zero n e = grind (arith, nat_tests)
within_count (w ∷ ws) (suc i) n e = let more = within_count ws i n e in grind (arith, nat_tests)

out_of_count : (words : List ℤ) (i : ℕ) → slice_get words i ≡ None → nat_lt i (length words) ≡ false
out_of_count [] i e = grind (arith, nat_tests)
out_of_count (w ∷ ws) zero e = cc
out_of_count (w ∷ ws) (suc i) e = let more = out_of_count ws i e in grind (arith, nat_tests)

-- a party has as many words as its list
pub count_is : (s : ClearSetup) (party : ℕ) → count_of (known_of s) party ≡ length (words_of s.first s.second party)
count_is s zero = refl
count_is s (suc zero) = refl
count_is s (suc (suc n)) = refl

-- a feed of a private word goes by what stands at its index
word_is : (s : ClearSetup) (q : Spot) (party : ℕ) (k of : IntKind) (i : ℤ) (m : ClearMem) → word (clear s.first s.second) (known_of s) q party k (Int of i) m ≡ fed q party k (word_in (words_of s.first s.second party) i) m
word_is s q party k of (pos i) m = elim (slice_get (words_of s.first s.second party) i) as (λ o. slice_get (words_of s.first s.second party) i ≡ o → word (clear s.first s.second) (known_of s) q party k (Int of (pos i)) m ≡ fed q party k o m) [
  | Some n ↦ λ e. ap (λ b. counted (clear s.first s.second) q b party k i m) (ap (nat_lt i) (count_is s party) ∙ within_count (words_of s.first s.second party) i n e)
      ∙ ap (λ o. bind (transfers (cost party k)) (λ _. pure (Hidden k (convert (unwrap_or o (pos 0)) k))) m) e
  | None ↦ λ e. ap (λ b. counted (clear s.first s.second) q b party k i m) (ap (nat_lt i) (count_is s party) ∙ out_of_count (words_of s.first s.second party) i e)
] refl
word_is s q party k of (negsuc i) m = refl

-- the same, as the code has its parts
pub word_from : (s : ClearSetup) (q : Spot) (party : ℕ) (k of : IntKind) (i j : ℤ) (o : Option ℤ) (ws vs : List ℤ) (old new : Store) (r : Result (Value ℤ) Fault) → o ≡ word_in vs j → j ≡ i → vs ≡ ws → ws ≡ words_of s.first s.second party → Does (fed q party k o (mem_of old)) r old new → Does (word (clear s.first s.second) (known_of s) q party k (Int of i) (mem_of old)) r old new
word_from s q party k of i j o ws vs old new r a b d e f =
    let g : word_in (words_of s.first s.second party) i ≡ o = sym (a ∙ ap (word_in vs) b ∙ ap (λ xs. word_in xs i) (d ∙ e)) in
    subst (λ x. Does x r old new) (sym (word_is s q party k of i (mem_of old) ∙ ap (λ x. fed q party k x (mem_of old)) g)) f
