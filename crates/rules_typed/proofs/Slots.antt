-- The slots that a walk adds: each is a variable's, and they are numbered in the order of the text.
use Rattle.std.proofs.Common.{ℕ, suc, ◌≡◌, List, [], ◌∷◌, ◌++◌, length, Some, refl, sym, ap, ◌∙◌, subst, Bool, true, append_assoc}
use Rattle.std.specs.Prelude.{slice_get}
use Rattle.oc_cells.specs.declared.types.SlotType.{SlotType}
use Rattle.oc_typing.specs.Rules.{all}
use Rattle.oc_typing.specs.Typed.{Context, is_slot, count_up}
use Rattle.rules_typed.specs.Agreeing.{Goes}
use Rattle.rules_typed.proofs.Bools.{both, first, second}
use Rattle.rules_typed.proofs.Numbers.{number_itself}

-- a list with one more at its end, and what follows
pub one_on : {A : Type 0} (a b : List A) (t : A) → (a ++ t ∷ []) ++ b ≡ a ++ t ∷ b
one_on [] b t = refl
one_on (x ∷ a) b t = ap (λ l. x ∷ l) (one_on a b t)

-- one more is one longer
pub length_one : {A : Type 0} (a : List A) (t : A) → length (a ++ t ∷ []) ≡ suc (length a)
length_one [] t = refl
length_one (x ∷ a) t = ap (λ n. suc n) (length_one a t)

-- a test of each of two lists, one after the other
pub all_on : {A : Type 0} (f : A → Bool) (a b : List A) → all f a ≡ true → all f b ≡ true → all f (a ++ b) ≡ true
all_on f [] b h i = i
all_on f (x ∷ a) b h i = both (first (f x) (all f a) h) (all_on f a b (second (f x) (all f a) h) i)

-- a test of each of a list with one more
pub all_one : {A : Type 0} (f : A → Bool) (a : List A) (t : A) → all f a ≡ true → f t ≡ true → all f (a ++ t ∷ []) ≡ true
all_one f a t h i = all_on f a (t ∷ []) h (both i refl)

-- what goes on from one slot more goes on from those before
goes_back : (a f : List SlotType) (t : SlotType) → Goes (a ++ t ∷ []) f → Goes a f
goes_back a f t g = (t ∷ g.0, g.1 ∙ one_on a g.0 t)

-- the next one is found at the length
there_at : (a b : List SlotType) (t : SlotType) → slice_get (a ++ t ∷ b) (length a) ≡ Some t
there_at [] b t = refl
there_at (x ∷ a) b t = there_at a b t

-- a slot that was added has the next number
pub there : (a f : List SlotType) (t : SlotType) → Goes (a ++ t ∷ []) f → slice_get f (length a) ≡ Some t
unfolding goes_back
there a f t g = subst (λ l. slice_get l (length a) ≡ Some t) (sym (goes_back a f t g).1) (there_at a g.0 t)

-- the second slots go on from the first by variables' slots of these numbers
pub record Adds (g : Context) (a b : List SlotType) (ns : List ℕ) : Type 0 where
  pub grows : (f : List SlotType) → Goes b f → Goes a f
  pub kept : all (is_slot g.sizes g.public) a ≡ true → all (is_slot g.sizes g.public) b ≡ true
  pub counts : (ms : List ℕ) (m : ℕ) → count_up (length b) ms m ≡ true → count_up (length a) (ns ++ ms) m ≡ true

-- no slot, some after others, and one
pub adds_none : (g : Context) (a : List SlotType) → Adds g a a []
adds_none g a = record { grows = λ f e. e; kept = λ h. h; counts = λ ms m h. h }

pub adds_both : (g : Context) (a b c : List SlotType) (ns ms : List ℕ) → Adds g a b ns → Adds g b c ms → Adds g a c (ns ++ ms)
adds_both g a b c ns ms x y = record {
  grows = λ f e. x.grows f (y.grows f e);
  kept = λ h. y.kept (x.kept h);
  counts = λ ls m h. subst (λ l. count_up (length a) l m ≡ true) (sym (append_assoc ns ms ls)) (x.counts (ms ++ ls) m (y.counts ls m h));
}

pub adds_one : (g : Context) (a : List SlotType) (t : SlotType) → is_slot g.sizes g.public t ≡ true → Adds g a (a ++ t ∷ []) (length a ∷ [])
adds_one g a t k = record {
  grows = λ f e. goes_back a f t e;
  kept = λ h. all_one (is_slot g.sizes g.public) a t h k;
  counts = λ ms m h. both (number_itself (length a)) (subst (λ n. count_up n ms m ≡ true) (length_one a t) h);
}
