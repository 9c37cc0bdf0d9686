-- Types without their arrays, and the frozen form of a type.
use Rattle.std.proofs.Common.{ℕ, zero, suc, ◌≡◌, refl, sym, ap, ◌∙◌, List, [], ◌∷◌, ◌++◌, Bool, true, false, nat_eq, arith}
use Rattle.std.specs.Prelude.{◌&&◌, ◌||◌, not}
use Rattle.oc_cells.specs.declared.types.CType.{CType, Int, Pointer', Array', Struct, Nothing, Row_of-CType, end_of-CType, more_of-CType}
use Rattle.oc_cells.specs.declared.types.CType.TheBlock.{hidden-the_row-CType-0}
use denote.Hole.Carrier.{hidden}
use Rattle.oc_cells.specs.Types.{holds_public, holds_public_row, freeze, same, alike, is_pointer, is_frozen_pointer, target}
use Rattle.oc_cells.specs.Layout.{leaves, leaves_row, repeated}
use Rattle.oc_typing.specs.Rules.{is_null, is_nothing}
use Rattle.scope_rules.specs.Frozen.{is_loose, some_loose, type_here, unfreezes, loses}
use Rattle.oc_typing.specs.Typed.{Context}
use Rattle.std.proofs.lemmas.Bool.{false≢true}
use Rattle.oc_values.specs.declared.integers.IntKind.{IntKind}
use Rattle.frozen_rules.specs.Types.{stripped, stripped_row, has_elements, has_elements_row}
use Rattle.oc_cells.specs.declared.types.CType as c

mutual
  holds_stripped : (ps : List Bool) (t : CType) → holds_public ps t ≡ holds_public ps (stripped t)
  holds_stripped ps (Int k o) = refl
  holds_stripped ps (Pointer' f u t) = refl
  holds_stripped ps (Array' n u t) = holds_stripped_row ps t
  holds_stripped ps (Struct n) = refl
  holds_stripped ps Nothing = refl

  holds_stripped_row : (ps : List Bool) (t : Row_of-CType 1) → holds_public_row ps t ≡ holds_public ps (stripped_row t)
  holds_stripped_row ps (more_of-CType t ts) = holds_stripped ps t

-- public data is held by what is left without arrays
pub by_stripped : (ps : List Bool) (t s : CType) → s ≡ stripped t → holds_public ps t ≡ holds_public ps s
by_stripped ps t s e = holds_stripped ps t ∙ ap (λ x. holds_public ps x) (sym e)

or_assoc : (a b c : Bool) → (a || (b || c)) ≡ ((a || b) || c)
or_assoc true b c = refl
or_assoc false b c = refl

pub loose_append : (ps : List Bool) (xs ys : List CType) → some_loose ps (xs ++ ys) ≡ (some_loose ps xs || some_loose ps ys)
loose_append ps [] ys = refl
loose_append ps (x ∷ xs) ys = ap (λ b. is_loose ps x || b) (loose_append ps xs ys) ∙ or_assoc (is_loose ps x) (some_loose ps xs) (some_loose ps ys)

full : (n : ℕ) → not (nat_eq (suc n) 0) ≡ true
full n = let e : nat_eq (suc n) 0 ≡ false = grind arith in ap not e

either : (c b : Bool) → ((c && b) || b) ≡ b
either true true = refl
either true false = refl
either false b = refl

loose_repeated : (ps : List Bool) (n : ℕ) (xs : List CType) → some_loose ps (repeated n xs) ≡ (not (nat_eq n 0) && some_loose ps xs)
loose_repeated ps zero xs = refl
loose_repeated ps (suc n) xs =
    loose_append ps (repeated n xs) xs ∙ ap (λ b. b || some_loose ps xs) (loose_repeated ps n xs) ∙ either (not (nat_eq n 0)) (some_loose ps xs)
    ∙ ap (λ b. b && some_loose ps xs) (sym (full n))

and_assoc : (a b c : Bool) → (a && (b && c)) ≡ ((a && b) && c)
and_assoc true b c = refl
and_assoc false b c = refl

mutual
  loose_stripped : (ps : List Bool) (ls : List (List CType)) (t : CType) → some_loose ps (leaves ls t) ≡ (has_elements t && some_loose ps (leaves ls (stripped t)))
  loose_stripped ps ls (Int k o) = refl
  loose_stripped ps ls (Pointer' f u t) = refl
  loose_stripped ps ls (Array' n u t) =
      loose_repeated ps n (leaves_row ls t) ∙ ap (λ b. not (nat_eq n 0) && b) (loose_stripped_row ps ls t)
      ∙ and_assoc (not (nat_eq n 0)) (has_elements_row t) (some_loose ps (leaves ls (stripped_row t)))
  loose_stripped ps ls (Struct n) = refl
  loose_stripped ps ls Nothing = refl

  loose_stripped_row : (ps : List Bool) (ls : List (List CType)) (t : Row_of-CType 1) → some_loose ps (leaves_row ls t) ≡ (has_elements_row t && some_loose ps (leaves ls (stripped_row t)))
  loose_stripped_row ps ls (more_of-CType t ts) = loose_stripped ps ls t

-- a loose pointer is in what is left without arrays, unless one is empty
pub loose_by : (ps : List Bool) (ls : List (List CType)) (t s : CType) → s ≡ stripped t → true ≡ has_elements t → some_loose ps (leaves ls t) ≡ some_loose ps (leaves ls s)
loose_by ps ls t s e h = loose_stripped ps ls t ∙ ap (λ b. b && some_loose ps (leaves ls (stripped t))) (sym h) ∙ ap (λ x. some_loose ps (leaves ls x)) (sym e)

pub loose_empty : (ps : List Bool) (ls : List (List CType)) (t : CType) → false ≡ has_elements t → false ≡ some_loose ps (leaves ls t)
loose_empty ps ls t h = ap (λ b. b && some_loose ps (leaves ls (stripped t))) h ∙ sym (loose_stripped ps ls t)

or_false : (a : Bool) → (a || false) ≡ a
or_false true = refl
or_false false = refl

pub stripped_array : (n : ℕ) (t : CType) → stripped (c.Array n t) ≡ stripped t
unfolding hidden-the_row-CType-0 hidden
stripped_array n t = refl

pub elements_array : (n : ℕ) (t : CType) → has_elements (c.Array n t) ≡ (not (nat_eq n 0) && has_elements t)
unfolding hidden-the_row-CType-0 hidden
elements_array n t = refl

pub holds_pointer : (ps : List Bool) (f : Bool) (t : CType) → holds_public ps (c.Pointer f t) ≡ true
holds_pointer ps f t = refl

pub loose_pointer : (ps : List Bool) (ls : List (List CType)) (f : Bool) (t : CType) → some_loose ps (leaves ls (c.Pointer f t)) ≡ (not f && holds_public ps t)
unfolding hidden-the_row-CType-0 hidden
loose_pointer ps ls f t = or_false (not f && holds_public ps t)

pub form_pointers : (ps : List Bool) (f g : Bool) (t s : CType) → same true (freeze ps (c.Pointer f t)) (c.Pointer g s) ≡ (alike (holds_public ps t) g && same true (freeze ps t) s)
unfolding hidden-the_row-CType-0 hidden
form_pointers ps f g t s = refl

pub form_arrays : (ps : List Bool) (n m : ℕ) (t s : CType) → same true (freeze ps (c.Array n t)) (c.Array m s) ≡ (nat_eq n m && same true (freeze ps t) s)
unfolding hidden-the_row-CType-0 hidden
form_arrays ps n m t s = refl

nothing_frozen : (ps : List Bool) (t : CType) → is_nothing (freeze ps t) ≡ is_nothing t
nothing_frozen ps (Int k o) = refl
nothing_frozen ps (Pointer' f u t) = refl
nothing_frozen ps (Array' n u t) = refl
nothing_frozen ps (Struct n) = refl
nothing_frozen ps Nothing = refl

pub here_pointer : (ps : List Bool) (frozen f : Bool) (t : CType) → type_here ps frozen (c.Pointer f t) ≡ c.Pointer (is_frozen_pointer (type_here ps frozen (c.Pointer f t))) (type_here ps frozen t)
unfolding hidden-the_row-CType-0 hidden
here_pointer ps true f t = refl
here_pointer ps false f t = refl

pub nothing_here : (ps : List Bool) (frozen : Bool) (t : CType) → is_nothing (type_here ps frozen t) ≡ is_nothing t
nothing_here ps true t = nothing_frozen ps t
nothing_here ps false t = refl

unfrozen_kept : (a n s : Bool) → (true && not (not a && n) && true && not false && (a || not s)) ≡ (a || (not n && not s))
unfrozen_kept true n s = refl
unfrozen_kept false true s = refl
unfrozen_kept false false s = refl

unfreezes_pointers : (a : Bool) (t s : CType) → unfreezes (c.Pointer a t) (c.Pointer false s) ≡ (a || (not (is_nothing t) && not (same true t s)))
unfolding hidden-the_row-CType-0 hidden
unfreezes_pointers a t s = unfrozen_kept a (is_nothing t) (same true t s)

pub mark_here : (ps : List Bool) (f : Bool) (t : CType) → is_frozen_pointer (type_here ps true (c.Pointer f t)) ≡ holds_public ps t
unfolding hidden-the_row-CType-0 hidden
mark_here ps f t = refl

unfreezes_so : (ps : List Bool) (frozen f : Bool) (t s : CType) → unfreezes (type_here ps frozen (c.Pointer f t)) (c.Pointer false s)
    ≡ (is_frozen_pointer (type_here ps frozen (c.Pointer f t)) || (not (is_nothing t) && not (same true (type_here ps frozen t) s)))
unfreezes_so ps frozen f t s =
    let a = is_frozen_pointer (type_here ps frozen (c.Pointer f t)) in
    ap (λ x. unfreezes x (c.Pointer false s)) (here_pointer ps frozen f t) ∙ unfreezes_pointers a (type_here ps frozen t) s
    ∙ ap (λ n. a || (not n && not (same true (type_here ps frozen t) s))) (nothing_here ps frozen t)

unfreezes_from : (ps : List Bool) (frozen f : Bool) (from to s : CType) (a : Bool) → from ≡ c.Pointer f to → a ≡ is_frozen_pointer (type_here ps frozen from)
    → unfreezes (type_here ps frozen from) (c.Pointer false s) ≡ (a || (not (is_nothing to) && not (same true (type_here ps frozen to) s)))
unfreezes_from ps frozen f from to s a e h =
    ap (λ x. unfreezes (type_here ps frozen x) (c.Pointer false s)) e ∙ unfreezes_so ps frozen f to s
    ∙ ap (λ b. b || (not (is_nothing to) && not (same true (type_here ps frozen to) s))) (ap (λ x. is_frozen_pointer (type_here ps frozen x)) (sym e) ∙ sym h)

pub unfreezes_kept : (ps : List Bool) (frozen f : Bool) (from to s : CType) (a : Bool) → from ≡ c.Pointer f to → a ≡ is_frozen_pointer (type_here ps frozen from) → a ≡ true
    → true ≡ unfreezes (type_here ps frozen from) (c.Pointer false s)
unfreezes_kept ps frozen f from to s a e h k = sym (unfreezes_from ps frozen f from to s a e h ∙ ap (λ b. b || (not (is_nothing to) && not (same true (type_here ps frozen to) s))) k)

pub unfreezes_null : (ps : List Bool) (frozen f : Bool) (from to s x : CType) (a n : Bool) → from ≡ c.Pointer f to → a ≡ is_frozen_pointer (type_here ps frozen from) → a ≡ false
    → n ≡ is_nothing x → x ≡ to → n ≡ true → not n ≡ unfreezes (type_here ps frozen from) (c.Pointer false s)
unfreezes_null ps frozen f from to s x a n e h k p q l =
    ap not l ∙ sym (unfreezes_from ps frozen f from to s a e h ∙ ap (λ b. b || (not (is_nothing to) && not (same true (type_here ps frozen to) s))) k
    ∙ ap (λ b. not b && not (same true (type_here ps frozen to) s)) (ap (λ y. is_nothing y) (sym q) ∙ sym p ∙ l))

pub unfreezes_other : (ps : List Bool) (frozen f : Bool) (from to s x y : CType) (a n b : Bool) → from ≡ c.Pointer f to → a ≡ is_frozen_pointer (type_here ps frozen from) → a ≡ false
    → n ≡ is_nothing x → x ≡ to → n ≡ false → b ≡ same true (type_here ps frozen y) s → y ≡ to → not b ≡ unfreezes (type_here ps frozen from) (c.Pointer false s)
unfreezes_other ps frozen f from to s x y a n b e h k p q l m r =
    ap not (m ∙ ap (λ z. same true (type_here ps frozen z) s) r)
    ∙ sym (unfreezes_from ps frozen f from to s a e h ∙ ap (λ b. b || (not (is_nothing to) && not (same true (type_here ps frozen to) s))) k
    ∙ ap (λ b. not b && not (same true (type_here ps frozen to) s)) (ap (λ y. is_nothing y) (sym q) ∙ sym p ∙ l))

pub held_by : (ps : List Bool) (t s u : CType) → s ≡ stripped t → s ≡ u → holds_public ps u ≡ holds_public ps t
held_by ps t s u e h = ap (λ x. holds_public ps x) (sym h) ∙ sym (by_stripped ps t s e)

pub loose_so : (ps : List Bool) (ls : List (List CType)) (t s u : CType) → s ≡ stripped t → true ≡ has_elements t → s ≡ u → some_loose ps (leaves ls u) ≡ some_loose ps (leaves ls t)
loose_so ps ls t s u e h q = ap (λ x. some_loose ps (leaves ls x)) (sym q) ∙ sym (loose_by ps ls t s e h)

pub filled_so : (n : ℕ) (t s : CType) (r : Bool) → (n ≡ 0 → ⊥) → r ≡ has_elements s → s ≡ t → r ≡ (not (nat_eq n 0) && has_elements t)
filled_so zero t s r h e q = absurd (h refl)
filled_so (suc n) t s r h e q = rw (full n) (e ∙ ap (λ x. has_elements x) q)

-- whether a type is an array
abbrev is_array : CType → Bool
is_array (Array' n u t) = true
is_array _ = false

mutual
  flat : (t : CType) → is_array (stripped t) ≡ false
  flat (Int k o) = refl
  flat (Pointer' f u t) = refl
  flat (Array' n u t) = flat_row t
  flat (Struct n) = refl
  flat Nothing = refl

  flat_row : (t : Row_of-CType 1) → is_array (stripped_row t) ≡ false
  flat_row (more_of-CType t ts) = flat t

packed : (f : Bool) (t : CType) → Pointer' f tt (more_of-CType t end_of-CType) ≡ c.Pointer f t
unfolding hidden-the_row-CType-0 hidden
packed f t = refl

pub rest_public : (ps : List Bool) (t s : CType) → s ≡ stripped t → ((k : IntKind) (o : Bool) → s ≡ Int k o → ⊥) → ((f : Bool) (u : CType) → s ≡ c.Pointer f u → ⊥) → ((n : ℕ) → s ≡ Struct n → ⊥) → false ≡ holds_public ps t
rest_public ps t (Int k o) e a b d = absurd (a k o refl)
rest_public ps t (Pointer' f u (more_of-CType v end_of-CType)) e a b d = absurd (b f v (packed f v))
rest_public ps t (Array' n u v) e a b d = absurd (false≢true (sym (flat t) ∙ ap (λ x. is_array x) (sym e)))
rest_public ps t (Struct n) e a b d = absurd (d n refl)
rest_public ps t Nothing e a b d = sym (by_stripped ps t Nothing e)

pub rest_loose : (ps : List Bool) (ls : List (List CType)) (t s : CType) → s ≡ stripped t → true ≡ has_elements t → ((f : Bool) (u : CType) → s ≡ c.Pointer f u → ⊥) → ((n : ℕ) → s ≡ Struct n → ⊥) → false ≡ some_loose ps (leaves ls t)
rest_loose ps ls t (Int k o) e h b d = sym (loose_by ps ls t (Int k o) e h)
rest_loose ps ls t (Pointer' f u (more_of-CType v end_of-CType)) e h b d = absurd (b f v (packed f v))
rest_loose ps ls t (Array' n u v) e h b d = absurd (false≢true (sym (flat t) ∙ ap (λ x. is_array x) (sym e)))
rest_loose ps ls t (Struct n) e h b d = absurd (d n refl)
rest_loose ps ls t Nothing e h b d = sym (loose_by ps ls t Nothing e h)

pub unfrozen_loose : (ps : List Bool) (ls : List (List CType)) (f : Bool) (to s : CType) (r : Bool) → f ≡ false → r ≡ holds_public ps s → s ≡ to → r ≡ some_loose ps (leaves ls (c.Pointer f to))
unfrozen_loose ps ls f to s r h e q = e ∙ ap (λ x. holds_public ps x) q ∙ ap (λ b. not b && holds_public ps to) (sym h) ∙ sym (loose_pointer ps ls f to)

pub frozen_tight : (ps : List Bool) (ls : List (List CType)) (f : Bool) (to : CType) → f ≡ true → not f ≡ some_loose ps (leaves ls (c.Pointer f to))
frozen_tight ps ls f to h = ap not h ∙ ap (λ b. not b && holds_public ps to) (sym h) ∙ sym (loose_pointer ps ls f to)

-- the frozen form of a pointer, as the code compares it
pub form_so : (ps : List Bool) (f g a r : Bool) (x t s to other : CType) → a ≡ alike r g → r ≡ holds_public ps x → x ≡ to
    → (b : Bool) → b ≡ same true (freeze ps t) s → t ≡ to → s ≡ other → (a && b) ≡ same true (freeze ps (c.Pointer f to)) (c.Pointer g other)
form_so ps f g a r x t s to other h e q b k m n =
    rw (form_pointers ps f g to other, h, e, q, k, m, n) refl

none_of_five : (a b p d e : Bool) → p ≡ false → false ≡ (a && b && p && d && e)
none_of_five false b p d e h = refl
none_of_five true false p d e h = refl
none_of_five true true false d e h = refl
none_of_five true true true d e h = absurd (false≢true (sym h))

no_pointer : (x to : CType) → is_pointer to ≡ false → false ≡ unfreezes x to
no_pointer x to h =
    none_of_five (is_pointer x) (not (is_null x)) (is_pointer to) (not (is_frozen_pointer to)) (is_frozen_pointer x || not (same true (target x) (target to))) h

-- what comes to neither a pointer nor a struct loses nothing
pub stays_else : (g : Context) (frozen : Bool) (from to : CType) → ((f : Bool) (u : CType) → to ≡ c.Pointer f u → ⊥) → ((n : ℕ) → to ≡ Struct n → ⊥) → false ≡ loses g frozen from to
stays_else g frozen from (Int k o) b d = no_pointer (type_here g.public frozen from) (Int k o) refl
stays_else g frozen from (Pointer' f u (more_of-CType v end_of-CType)) b d = absurd (b f v (packed f v))
stays_else g frozen from (Array' n u v) b d = no_pointer (type_here g.public frozen from) (Array' n u v) refl
stays_else g frozen from (Struct n) b d = absurd (d n refl)
stays_else g frozen from Nothing b d = no_pointer (type_here g.public frozen from) Nothing refl
