-- Whether a new block has room, and what stands then.
use Rattle.std.proofs.Common.{ℕ, suc, ◌+◌, ◌*◌, ◌≤◌, ◌<◌, ◌^◌, ◌≡◌, refl, sym, ap, ◌∙◌, subst, List, [], ◌∷◌, ◌++◌, length, Ok, Err, arith, Bool, true, false, max, ℤ, pos, negsuc, nat_le, nat_lt, w32}
use Rattle.std.specs.Prelude.{◌&&◌}
use Rattle.std.specs.Int.{FitsUnsigned}
use Rattle.std.proofs.Math.IntN.{nat_abs}
use Rattle.std.proofs.lemmas.Bool.{false≢true}
use Rattle.std.proofs.lemmas.Int.{ints}
use Rattle.oc_values.specs.declared.integers.IntKind.{IntKind}
use Rattle.std.specs.Prelude.{Result}
use Rattle.oc_cells.specs.declared.types.CType.{CType}
use Rattle.oc_cells.specs.declared.memory.Block.{Block}
use Rattle.oc_cells.specs.declared.memory.Cell.{Cell}
use Rattle.oc_cells.specs.declared.memory.Block.TheVariants.{Live}
use Rattle.oc_cells.specs.Layout.{repeated}
use Rattle.oc_cells.specs.Memory.{weight, living, blanks, joined, make_copies}
use Rattle.oc_cells.proofs.Lengths.{length_repeated}
use Rattle.block_memory.specs.declared.blocks.MakeRefusal.{MakeRefusal}
use Rattle.block_memory.specs.declared.blocks.MakeRefusal.TheVariants.{Trap, NoMemory}
use Rattle.block_memory.specs.Content.{Memory, has_room, copies_of, Makes, MakesExactly}
use Rattle.block_memory.proofs.Living.{weight_of_cells, living_more}
use Rattle.block_memory.proofs.Blanks.{blanks_are}

le_of : (m n : ℕ) → nat_le m n ≡ true → m ≤ n
le_of m n e = grind (arith, e)

not_le : (m n : ℕ) → n < m → nat_le m n ≡ false
not_le m n h = grind (arith, h)

and_first : (a b : Bool) → (a && b) ≡ true → a ≡ true
and_first true b e = refl
and_first false b e = absurd (false≢true e)

at_least : (n l : ℕ) → 1 ≤ l → n ≤ max 1 (n * l)
at_least n l h = grind (arith, h)

fits_word : (n : ℕ) → n < 2 ^ 32 → FitsUnsigned w32 (pos n)
fits_word n h = (omega (arith, ints), omega (arith, ints, h))

not_negative : (k : ℕ) → FitsUnsigned w32 (negsuc k) → ⊥
not_negative k f = grind (arith, f.0)

abbrev pub Fitting : ℤ → ℕ → Type 0
Fitting z n = FitsUnsigned w32 z × (n ≡ nat_abs z)

far_from : (n : ℕ) → (n < 2 ^ 32 → ⊥) → 2 ^ 32 ≤ n
far_from n f = grind (arith, f)

above : (limit live n l : ℕ) → limit < 2 ^ 32 → 2 ^ 32 ≤ n → 1 ≤ l → limit < live + max 1 (n * l)
above limit live n l h far w = let m = at_least n l w in omega (arith, h, far, m)

module _ {H : Type 0} (m : Memory H) (c : ℕ) where
  pub too_many : (z y : ℤ) → y ≡ z → (FitsUnsigned w32 y → ⊥) → m.limit < 2 ^ 32 → 1 ≤ c → has_room m c z ≡ false
  too_many (negsuc k) y e f h w = refl
  too_many (pos n) y e f h w =
      let far : 2 ^ 32 ≤ n = far_from n (λ g. f (subst (FitsUnsigned w32) (sym e) (fits_word n g))) in
      ap (λ b. b && nat_lt (length m.blocks) (2 ^ 63)) (not_le _ _ (above m.limit (living m.blocks) n c h far w))

  pub room_is : (z y : ℤ) (n : ℕ) → y ≡ z → Fitting y n → has_room m c z ≡ has_room m c (pos n)
  room_is (negsuc k) y n e f = absurd (not_negative k (subst (FitsUnsigned w32) e f.0))
  room_is (pos k) y n e f = ap (λ j. has_room m c (pos j)) (sym (f.1 ∙ ap nat_abs e))

  pub copies_are : (z y : ℤ) (n : ℕ) (ls : List CType) → y ≡ z → Fitting y n → repeated n ls ≡ copies_of ls z
  copies_are (negsuc k) y n ls e f = absurd (not_negative k (subst (FitsUnsigned w32) e f.0))
  copies_are (pos k) y n ls e f = ap (λ j. repeated j ls) (f.1 ∙ ap nat_abs e)

  -- the new number of live cells
  pub more_live : (n live w : ℕ) (b : Block H) (now : List (Block H)) → has_room m c (pos n) ≡ true → live ≡ living m.blocks → w ≡ weight b → weight b ≡ max 1 (n * c) → now ≡ m.blocks ++ b ∷ [] → (live + w ≡ living now) × (live + w ≤ m.limit)
  more_live n live w b now i e j f k =
      let s : live + w ≡ living now = rw (e, j) (sym (ap living k ∙ living_more m.blocks b)) in
      (s, rw (e, j, f) (le_of _ _ (and_first _ (nat_lt (length m.blocks) (2 ^ 63)) i)))

module _ {H : Type 0} where
  length_blanks : (zero_of : IntKind → H) (ls : List CType) → length (blanks zero_of ls) ≡ length ls
  length_blanks zero_of [] = refl
  length_blanks zero_of (l ∷ ls) = ap (λ n. suc n) (length_blanks zero_of ls)

  weight_of_blanks : (zero_of : IntKind → H) (a : Bool) (n : ℕ) (ls : List CType) → weight (Live a (blanks zero_of (repeated n ls))) ≡ max 1 (n * length ls)
  weight_of_blanks zero_of a n ls = weight_of_cells a (blanks zero_of (repeated n ls)) ∙ ap (max 1) (length_blanks zero_of (repeated n ls) ∙ length_repeated n ls)

  answer_is : (zero_of : IntKind → H) (a : Bool) (m : Memory H) (ls : List CType) (count : ℤ) → make_copies zero_of m.limit a m.blocks ls count ≡ joined zero_of (has_room m (length ls) count) m.blocks (Live a (blanks zero_of (copies_of ls count)))
  answer_is zero_of a m ls (pos n) =
      ap (λ w. joined zero_of (nat_le (living m.blocks + w) m.limit && nat_lt (length m.blocks) (2 ^ 63)) m.blocks (Live a (blanks zero_of (repeated n ls)))) (weight_of_blanks zero_of a n ls)
  answer_is zero_of a m ls (negsuc n) = refl

  replaced : (old new : Memory H) (bs : List (Block H)) → new ≡ record old { blocks = bs } → new ≡ record old { blocks = new.blocks }
  replaced old new bs e = e ∙ ap {A = List (Block H)} {B = Memory H} (λ cs. record old { blocks = cs }) (sym (ap (λ m. m.blocks) e))

  -- a block that is made with zeros is the memory's own, where each kind has one zero
  pub exactly : (z : IntKind → H → Type 0) (a : Bool) (ls : List CType) (count : ℤ) (r : Result ℕ MakeRefusal) (old new : Memory H) → Makes z a ls count r old new → MakesExactly z a ls count r old new
  exactly z a ls count (Ok number) old new h zero_of one =
      let k = h.2 in (
        h.0,
        answer_is zero_of a old ls count ∙ ap (λ b. joined zero_of b old.blocks (Live a (blanks zero_of (copies_of ls count)))) h.1
            ∙ ap (λ cs. Ok (old.blocks ++ Live a cs ∷ [])) (sym (blanks_are zero_of one k.blank)) ∙ ap (λ m. Ok m.blocks) (sym k.added),
        replaced old new (old.blocks ++ Live a k.cells ∷ []) k.added,
      )
  exactly z a ls count (Err (Trap kind)) old new h zero_of one =
      (answer_is zero_of a old ls count ∙ ap (λ b. joined zero_of b old.blocks (Live a (blanks zero_of (copies_of ls count)))) h.1 ∙ ap Err (sym h.0), h.2)
  exactly z a ls count (Err NoMemory) old new h zero_of one = h

  -- the memory with a new block, as it is seen
  pub seen : {old now : Memory H} (a : Bool) {cs cells : List (Cell H)} (new : List (Block H)) → old ≡ now → new ≡ old.blocks ++ Live a cs ∷ [] → cs ≡ cells → record old { blocks = new } ≡ record now { blocks = now.blocks ++ Live a cells ∷ [] }
  seen {old = old} a {cells = cells} new e f g =
      ap {A = List (Block H)} {B = Memory H} (λ b. record old { blocks = b }) (f ∙ ap (λ cs. old.blocks ++ Live a cs ∷ []) g) ∙ ap {A = Memory H} {B = Memory H} (λ m. record m { blocks = m.blocks ++ Live a cells ∷ [] }) e
