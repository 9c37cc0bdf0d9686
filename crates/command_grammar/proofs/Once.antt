-- Each option is given at most once.
use Rattle.std.proofs.Common.{ℕ, zero, suc, ◌≡◌, ◌<◌, List, [], ◌∷◌, ◌++◌, length, get_or, map, Bool, true, false, nat_eq, refl, sym, ap, ◌∙◌, arith, inl, inr}
use Rattle.std.specs.Prelude.{◌&&◌, ◌||◌, not, nat_le, Contains, ◌⊎◌}
use Rattle.std.specs.List.{AllByRecursion, list_all, list_any}
use Rattle.std.specs.Str.{bytes_eq}
use Rattle.std.proofs.lemmas.Bool.Decides.{nat_tests}
use Rattle.std.proofs.lemmas.Bool.{false≢true}
use Rattle.command_grammar.specs.Forms.{excludes}
use Rattle.command_grammar.specs.Grammar.{Belongs, CommandOption, Command, Given, GivesOnce, are_once, has, is_once, slots_of}
use Rattle.command_grammar.specs.Sound.{are_apart, has_sample, is_unambiguous, is_sound, is_sound_command}
use Rattle.command_grammar.proofs.Slots.{all_at, apart, both, both_left, both_right, bytes_same, has_at, not_true, once_apart, once_right, same_bytes, some_at}
use Rattle.command_grammar.proofs.Options.{unambiguous_options, option_at}
use Rattle.command_grammar.proofs.Fronts.{sound_command}

-- two options of a list are one, or stand apart
one_or_apart : (os : List CommandOption) (i j : ℕ) (o p : CommandOption) → is_unambiguous os ≡ true → i < length os → get_or os i o ≡ o → j < length os → get_or os j p ≡ p → (o ≡ p) ⊎ ((are_apart o p ≡ true) ⊎ (are_apart p o ≡ true))
one_or_apart [] i j o p h l e m f = absurd (omega arith)
one_or_apart (x ∷ xs) zero zero o p h l e m f = inl (sym e ∙ f)
one_or_apart (x ∷ xs) zero (suc j) o p h l e m f =
    inr (inl (ap (λ y. are_apart y p) (sym e) ∙ all_at (are_apart x) xs j p (both_left (list_all (are_apart x) xs) (is_unambiguous xs) h) (omega arith) f))
one_or_apart (x ∷ xs) (suc i) zero o p h l e m f =
    inr (inr (ap (λ y. are_apart y o) (sym f) ∙ all_at (are_apart x) xs i o (both_left (list_all (are_apart x) xs) (is_unambiguous xs) h) (omega arith) e))
one_or_apart (x ∷ xs) (suc i) (suc j) o p h l e m f = one_or_apart xs i j o p (both_right (list_all (are_apart x) xs) (is_unambiguous xs) h) (omega arith) e (omega arith) f

-- options of one name take a slot in common
common : (o p : CommandOption) → are_apart o p ≡ true → bytes_eq o.name p.name ≡ true → list_any (has o.slots) p.slots ≡ true
common o p h same =
    both_right (excludes o.form p.form) (list_any (has o.slots) p.slots) (ap (λ t. not t || (excludes o.form p.form && list_any (has o.slots) p.slots)) (sym same) ∙ h)

apart_clash : (ps qs : List ℕ) → apart ps qs ≡ true → list_any (has ps) qs ≡ true → ⊥
apart_clash ps qs a h =
    let s = some_at (has ps) qs h in
    let i = s.1 in
    let f = not_true (has ps s.0) (all_at (λ p. not (has ps p)) qs i.0 s.0 a i.1 i.2) in
    false≢true (sym f ∙ s.2)

-- the same, the other way round
apart_clash_turned : (ps qs : List ℕ) → apart ps qs ≡ true → list_any (has qs) ps ≡ true → ⊥
apart_clash_turned ps qs a h =
    let s = some_at (has qs) ps h in
    let r = some_at (λ q. nat_eq q s.0) qs s.2 in
    let i = r.1 in
    let same : r.0 ≡ s.0 = same_number r.0 s.0 r.2 in
    let f = not_true (has ps r.0) (all_at (λ p. not (has ps p)) qs i.0 r.0 a i.1 i.2) in
    false≢true (sym f ∙ ap (has ps) same ∙ has_at ps s.0 s.1)
  where
    same_number : (a b : ℕ) → nat_eq a b ≡ true → a ≡ b
    same_number a b t = grind (arith, nat_tests)

module _ {K : Type 0} (c : Command K) (sound : is_sound_command c ≡ true) where
  some_slots : (ps : List ℕ) → nat_le 1 (length ps) ≡ true → apart ps ps ≡ true → ⊥
  some_slots [] h a = false≢true h
  some_slots (p ∷ ps) h a = apart_clash (p ∷ ps) (p ∷ ps) a (ap (λ t. t || list_any (has (p ∷ ps)) ps) (has_at (p ∷ ps) p (zero, omega arith, refl)))

  other_name : (o p : CommandOption) → Contains c.options o → Contains c.options p → apart o.slots p.slots ≡ true → bytes_eq o.name p.name ≡ true → ⊥
  other_name o p i j a same = elim (one_or_apart c.options i.0 j.0 o p (unambiguous_options c sound) i.1 i.2 j.1 j.2) [
    | inl e ↦ some_slots o.slots (both_right (has_sample o.form) (nat_le 1 (length o.slots)) (both_left (has_sample o.form && nat_le 1 (length o.slots)) (is_once o.slots) (option_at c sound o i))) (ap (λ q. apart o.slots q.slots) e ∙ a)
    | inr k ↦ elim k [
      | inl t ↦ apart_clash o.slots p.slots a (common o p t same)
      | inr t ↦ apart_clash_turned o.slots p.slots a (common p o t (bytes_same p.name o.name (sym (same_bytes o.name p.name same))))
    ]
  ]

  apart_left : (ps qs rs : List ℕ) → apart ps (qs ++ rs) ≡ true → (apart ps qs ≡ true) × (apart ps rs ≡ true)
  apart_left ps [] rs a = (refl, a)
  apart_left ps (q ∷ qs) rs a =
      let r = apart_left ps qs rs (both_right (not (has ps q)) (apart ps (qs ++ rs)) a) in
      (both (not (has ps q)) (apart ps qs) (both_left (not (has ps q)) (apart ps (qs ++ rs)) a) r.0, r.1)

  new_name : (g : Given) (gs : List Given) → Belongs c g → AllByRecursion (Belongs c) gs → apart g.option.slots (slots_of gs) ≡ true → list_any (bytes_eq g.option.name) (map (λ h. h.option.name) gs) ≡ false
  new_name g [] b bs a = refl
  new_name g (h ∷ hs) b bs a =
      let split = apart_left g.option.slots h.option.slots (slots_of hs) a in
      neither (bytes_eq g.option.name h.option.name) (list_any (bytes_eq g.option.name) (map (λ h. h.option.name) hs)) (other_name g.option h.option b.listed bs.0.listed split.0) (new_name g hs b bs.1 split.1)
    where
      neither : (x y : Bool) → (x ≡ true → ⊥) → y ≡ false → (x || y) ≡ false
      neither true y f e = absurd (f refl)
      neither false y f e = e

  names_once : (gs : List Given) → AllByRecursion (Belongs c) gs → is_once (slots_of gs) ≡ true → are_once (map (λ g. g.option.name) gs) ≡ true
  names_once [] b h = refl
  names_once (g ∷ gs) b h =
      both (not (list_any (bytes_eq g.option.name) (map (λ h. h.option.name) gs))) (are_once (map (λ h. h.option.name) gs))
      (ap not (new_name g gs b.0 b.1 (once_apart g.option.slots (slots_of gs) h)))
      (names_once gs b.1 (once_right g.option.slots (slots_of gs) h))

pub gives_once : {K : Type 0} (table : List (Command K)) → is_sound table ≡ true → GivesOnce table
gives_once table sound c words operands given i is = names_once c (sound_command table sound c i) given is.reads.members is.reads.once
