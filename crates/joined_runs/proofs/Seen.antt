-- What both parties see of a run is what its events and its revealed values show.
use Rattle.std.proofs.Common.{ℕ, suc, ◌≡◌, ℤ, List, [], ◌∷◌, length, map, refl, sym, ap, ◌∙◌, subst, arith}
use Rattle.oc_walk.specs.declared.run.ShownItem.{ShownItem}
use Rattle.oc_walk.specs.declared.run.ShownItem.TheVariants.{Print as Printed, Reveal as Revealed, Give as Given}
use Rattle.oc_walk.specs.declared.run.Outcome.{Outcome}
use Rattle.oc_walk.specs.declared.run.Value.{Value}
use Rattle.oc_walk.specs.Walking.{State, Res, Go, Stop, Ended, Needs, Odd}
use Rattle.oc_meanings.specs.Clear.{known_of}
use Rattle.oc_meanings.specs.Events.{Operand, Entry, Feed, Op, One, Turn, ShiftBy, Pick, Reveal, Give, Print, events_walk}
use Rattle.oc_meanings.specs.Values.{values, items_of, revealed_of, ShowsEnd}
use Rattle.oc_meanings.specs.Public.{seen, PublicRunsAgree}
use Rattle.joined_runs.proofs.Agree.{length-values, shows}

heads : (n m : ℤ) (ns ms : List ℤ) → n ∷ ns ≡ m ∷ ms → n ≡ m
heads n m ns ms q = (cc)

tails : (n m : ℤ) (ns ms : List ℤ) → n ∷ ns ≡ m ∷ ms → ns ≡ ms
tails n m ns ms q = (cc)

-- entries whose revealed integers are the same show the same to both parties
seen_same : (es : List Entry) (ns ms : List ℤ) → length ns ≡ length es → length ms ≡ length es → revealed_of (items_of ns es) ≡ revealed_of (items_of ms es)
    → map seen (items_of ns es) ≡ map seen (items_of ms es)
seen_same [] [] [] h i q = refl
seen_same [] (n ∷ ns) ms h i q = absurd (nothing (length ns) h)
  where
    nothing : (n : ℕ) → suc n ≡ 0 → ⊥
    nothing n h = omega (arith, h)
seen_same [] [] (m ∷ ms) h i q = absurd (nothing (length ms) i)
  where
    nothing : (n : ℕ) → suc n ≡ 0 → ⊥
    nothing n h = omega (arith, h)
seen_same (e ∷ es) [] ms h i q = absurd (nothing (length es) h)
  where
    nothing : (n : ℕ) → 0 ≡ suc n → ⊥
    nothing n h = omega (arith, h)
seen_same (e ∷ es) (n ∷ ns) [] h i q = absurd (nothing (length es) i)
  where
    nothing : (n : ℕ) → 0 ≡ suc n → ⊥
    nothing n h = omega (arith, h)
seen_same (Reveal k a ∷ es) (n ∷ ns) (m ∷ ms) h i q =
    let rest = seen_same es ns ms (omega (arith, h)) (omega (arith, i)) (tails n m (revealed_of (items_of ns es)) (revealed_of (items_of ms es)) q) in
    ap (λ v. seen (Revealed k v) ∷ map seen (items_of ns es)) (heads n m (revealed_of (items_of ns es)) (revealed_of (items_of ms es)) q) ∙ ap (λ l. seen (Revealed k m) ∷ l) rest
seen_same (Give party k a ∷ es) (n ∷ ns) (m ∷ ms) h i q = ap (λ l. seen (Given party k m) ∷ l) (seen_same es ns ms (omega (arith, h)) (omega (arith, i)) q)
seen_same (Print bytes ∷ es) (n ∷ ns) (m ∷ ms) h i q = ap (λ l. seen (Printed bytes) ∷ l) (seen_same es ns ms (omega (arith, h)) (omega (arith, i)) q)
seen_same (Feed party k j ∷ es) (n ∷ ns) (m ∷ ms) h i q = seen_same es ns ms (omega (arith, h)) (omega (arith, i)) q
seen_same (Op op k a b ∷ es) (n ∷ ns) (m ∷ ms) h i q = seen_same es ns ms (omega (arith, h)) (omega (arith, i)) q
seen_same (One op k a ∷ es) (n ∷ ns) (m ∷ ms) h i q = seen_same es ns ms (omega (arith, h)) (omega (arith, i)) q
seen_same (Turn from to a ∷ es) (n ∷ ns) (m ∷ ms) h i q = seen_same es ns ms (omega (arith, h)) (omega (arith, i)) q
seen_same (ShiftBy op k a j ∷ es) (n ∷ ns) (m ∷ ms) h i q = seen_same es ns ms (omega (arith, h)) (omega (arith, i)) q
seen_same (Pick k e new old ∷ es) (n ∷ ns) (m ∷ ms) h i q = seen_same es ns ms (omega (arith, h)) (omega (arith, i)) q

module _ (X Y Z W : List ℤ) (items others : List ShownItem) (outcome end : Outcome) (q : revealed_of items ≡ revealed_of others) where
  listed : (es : List Entry) → items ≡ items_of (values X Y es) es → others ≡ items_of (values Z W es) es → map seen items ≡ map seen others
  listed es h i =
      ap (λ l. map seen l) h
      ∙ seen_same es (values X Y es) (values Z W es) (length-values X Y es) (length-values Z W es) (ap (λ l. revealed_of l) (sym h) ∙ q ∙ ap (λ l. revealed_of l) i)
      ∙ ap (λ l. map seen l) (sym i)

  -- of one walk by events, with the words of two runs
  ended : (r : Res (State Operand (List Entry)) (Value Operand)) → ShowsEnd X Y r items outcome → ShowsEnd Z W r others end → (map seen items ≡ map seen others) × (outcome ≡ end)
  ended (Go v s) h i = (listed s.mem.own h.0 i.0, h.1 ∙ sym i.1)
  ended (Stop (Ended o) s) h i = (listed s.mem.own h.0 i.0, h.1 ∙ sym i.1)
  ended (Stop (Needs k kind) s) h i = absurd h
  ended (Stop (Odd p) s) h i = (listed s.mem.own h.0 i.0, h.1 ∙ sym i.1)

pub agree : PublicRunsAgree
agree structs fs entry s t items others outcome end h i p q =
    let same : events_walk structs fs entry (known_of s) s.dealt (revealed_of items) s.budget ≡ events_walk structs fs entry (known_of t) t.dealt (revealed_of others) t.budget =
    ap (λ k. events_walk structs fs entry k s.dealt (revealed_of items) s.budget) p.known
    ∙ ap (λ d. events_walk structs fs entry (known_of t) d (revealed_of items) s.budget) p.dealt
    ∙ ap (λ l. events_walk structs fs entry (known_of t) t.dealt l s.budget) q
    ∙ ap (λ b. events_walk structs fs entry (known_of t) t.dealt (revealed_of others) b) p.budget in
    let z = ended s.first s.second t.first t.second items others outcome end q (events_walk structs fs entry (known_of t) t.dealt (revealed_of others) t.budget)
    (subst (λ r. ShowsEnd s.first s.second r items outcome) same (shows structs fs entry s items outcome h)) (shows structs fs entry t others end i) in
    (same, z.0, z.1)
