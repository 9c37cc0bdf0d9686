-- A type that the rules find for a written one is a type of a typed tree.
use Rattle.std.proofs.Common.{ℕ, zero, suc, ◌+◌, ◌*◌, ◌≡◌, List, [], ◌∷◌, length, Option, Some, None, Ok, refl, sym, ap, ◌∙◌, subst, Bool, true, false, nat_eq, nat_lt, slice_index_or, arith}
use Rattle.std.specs.Prelude.{◌&&◌, ◌||◌, not, if◌then◌else◌, nat_le}
use Rattle.oc_cells.specs.declared.types.CType.{CType, Int, Pointer', Array', Struct, Nothing, Row_of-CType, more_of-CType, end_of-CType}
use Rattle.oc_cells.specs.declared.types.CType.TheViews.{Pointer, Array}
use Rattle.oc_cells.specs.declared.types.CType.TheBlock.{hidden-the_row-CType-0}
use denote.Hole.Carrier.{hidden}
use Rattle.oc_cells.specs.declared.types.StructType.{StructType}
use Rattle.oc_cells.specs.Types.{is_struct, normal, normal_row, public_structs}
use Rattle.oc_cells.specs.Layout.{cells, cells_row, struct_cells}
use Rattle.oc_cells.proofs.Normal.{normal_forms}
use Rattle.oc_source.specs.declared.spot.Spot.{Spot}
use Rattle.oc_source.specs.declared.parsed.BaseName.{BaseName}
use Rattle.oc_source.specs.declared.parsed.BaseKind.{BaseKind}
use Rattle.oc_source.specs.declared.parsed.BaseKind.TheVariants as base
use Rattle.oc_source.specs.declared.parsed.TypeName.{TypeName}
use Rattle.oc_source.specs.declared.parsed.FieldDef.{FieldDef}
use Rattle.oc_typing.specs.Rules.{all, is_whole, is_whole_row, is_type, is_leaf}
use Rattle.oc_typing.specs.Typed.{is_starred, is_starred_row, is_slot}
use Rattle.type_rules.specs.declared.judging.TypeRule.{TypeRule}
use Rattle.type_rules.specs.declared.judging.TypeRule.TheVariants.{T1, T11}
use Rattle.type_rules.specs.Judging.{Judged, next, needs}
use Rattle.type_rules.specs.Lookup.{Lookup, same_name}
use Rattle.type_rules.specs.Written.{number_from, struct_named, base_kind, base_type, starred, arrays, is_length, are_lengths, cells_of, type_name, field_type, is_frozen_place}
use Rattle.type_rules.proofs.Laws.{fine_back, not_both, parted}
use Rattle.rules_typed.proofs.Bools.{never, both, first, second, none_some, some_is}
use Rattle.rules_typed.proofs.Numbers.{not_zero, no_less, one_less, none_more}

-- an answer after a rule that is kept
pub needed : {A : Type 0} (p : Spot) (t : TypeRule) (c : Bool) (k : Judged A) (a : A) → next (needs p t c) (λ _. k) ≡ Ok a → (c ≡ true) × (k ≡ Ok a)
unfolding next
needed p t true k a q = (refl, q)
needed p t false k a q = absurd (not_both a _ q)

-- the number of a name is less than that of the names
number_bound : (n : ℕ) (names : List (List ℕ)) (x : List ℕ) (m : ℕ) → number_from n names x ≡ Some m → nat_lt m (n + length names) ≡ true
number_bound n [] x m q = absurd (none_some q)
number_bound n (y ∷ ys) x m q = on (same_name y x) q (λ p. number_bound (n + 1) ys x m p)
  where
    here : (n m k : ℕ) → n ≡ m → nat_lt m (n + suc k) ≡ true
    here n m k e = grind arith

    later : (n m k : ℕ) → nat_lt m (n + 1 + k) ≡ true → nat_lt m (n + suc k) ≡ true
    later n m k e = grind arith

    on : (b : Bool) → (if b then Some n else number_from (n + 1) ys x) ≡ Some m → (number_from (n + 1) ys x ≡ Some m → nat_lt m (n + 1 + length ys) ≡ true) → nat_lt m (n + suc (length ys)) ≡ true
    on true q f = here n m (length ys) (some_is q)
    on false q f = later n m (length ys) (f q)

-- what a written type begins with: an integer, or a struct that has a name and by value is defined above
pub data Begins (g : Lookup) (by_value : Bool) : CType → Type 0 where
  integer : {k : _} {o : Bool} → Begins g by_value (Int k o)
  a_struct : {n : ℕ} → nat_lt n (length g.names) ≡ true → (not by_value || nat_lt n g.above) ≡ true → Begins g by_value (Struct n)

-- what is found for it
pub begins : (g : Lookup) (by_value : Bool) (b : BaseName) (u : CType) → base_type g by_value b ≡ Ok u → Begins g by_value u
begins g by_value b u q = on b.kind q
  where
    at : (o : Option ℕ) → ((n : ℕ) → o ≡ Some n → nat_lt n (length g.names) ≡ true) → struct_named g by_value b.spot o ≡ Ok u → Begins g by_value u
    at None f q = absurd (not_both u _ q)
    at (Some n) f q =
        let z = needed b.spot T1 (not by_value || nat_lt n g.above) (Ok (Struct n)) u q in
        subst (λ u. Begins g by_value u) (fine_back (Struct n) u z.1) (a_struct (f n refl) z.0)

    on : (k : BaseKind) → base_kind g by_value b.spot b.obliv k ≡ Ok u → Begins g by_value u
    on (base.Int k) q = subst (λ u. Begins g by_value u) (fine_back (Int k b.obliv) u q) integer
    on (base.Struct x) q = at (number_from 0 g.names x) (λ n p. subst (λ m. nat_lt n m ≡ true) (none_more (length g.names)) (number_bound 0 g.names x n p)) q

-- Sizes.

-- a struct may have this number of cells
abbrev pub is_cells : ℕ → Bool
is_cells n = nat_le 1 n && nat_le n 65536

-- each struct of some has its cells
pub cells_at : (ns : List ℕ) (n : ℕ) → all is_cells ns ≡ true → nat_lt n (length ns) ≡ true → is_cells (slice_index_or ns n 0) ≡ true
cells_at [] n h e = absurd (no_less n e)
cells_at (m ∷ ns) zero h e = first (is_cells m) (all is_cells ns) h
cells_at (m ∷ ns) (suc n) h e = cells_at ns n (second (is_cells m) (all is_cells ns) h) (one_less n (length ns) e)

-- pointers and arrays
pointer_cells : (ss : List ℕ) (f : Bool) (t : CType) → cells ss (Pointer f t) ≡ 1
unfolding hidden-the_row-CType-0 hidden
pointer_cells ss f t = refl

array_cells : (ss : List ℕ) (n : ℕ) (t : CType) → cells ss (Array n t) ≡ n * cells ss t
unfolding hidden-the_row-CType-0 hidden
array_cells ss n t = refl

pointer_whole : (ss : List ℕ) (f : Bool) (t : CType) → is_whole ss (Pointer f t) ≡ is_whole ss t
unfolding hidden-the_row-CType-0 hidden
pointer_whole ss f t = refl

array_whole : (ss : List ℕ) (n : ℕ) (t : CType) → is_whole ss (Array n t) ≡ (is_cells (n * cells ss t) && is_whole ss t)
unfolding hidden-the_row-CType-0 hidden
array_whole ss n t = refl

-- pointers to a type
starred_whole : (ss : List ℕ) (f : Bool) (k : ℕ) (t : CType) → is_whole ss t ≡ true → is_whole ss (starred f k t) ≡ true
starred_whole ss f zero t h = h
starred_whole ss f (suc k) t h = starred_whole ss f k (Pointer f t) (pointer_whole ss f t ∙ h)

starred_cells : (ss : List ℕ) (f : Bool) (k : ℕ) (t : CType) → cells ss t ≡ 1 → cells ss (starred f k t) ≡ 1
starred_cells ss f zero t h = h
starred_cells ss f (suc k) t h = starred_cells ss f k (Pointer f t) (pointer_cells ss f t)

-- the cells of arrays grow with those of their elements
arrays_same : (ss us : List ℕ) (ns : List ℕ) (t : CType) → cells ss t ≡ cells us t → cells ss (arrays ns t) ≡ cells us (arrays ns t)
arrays_same ss us [] t h = h
arrays_same ss us (n ∷ ns) t h = array_cells ss n (arrays ns t) ∙ ap (λ c. n * c) (arrays_same ss us ns t h) ∙ sym (array_cells us n (arrays ns t))

-- products of cells
more_cells : (n c : ℕ) → nat_le 1 n ≡ true → nat_le 1 c ≡ true → nat_le 1 (n * c) ≡ true
more_cells zero c h i = never h
more_cells (suc n) c h i = grind arith

fewer_cells : (n c : ℕ) → nat_le 1 n ≡ true → nat_le (n * c) 65536 ≡ true → nat_le c 65536 ≡ true
fewer_cells zero c h i = never h
fewer_cells (suc n) c h i = grind arith

-- arrays of what has a cell have one
arrays_least : (ss ns : List ℕ) (t : CType) → are_lengths ns ≡ true → nat_le 1 (cells ss t) ≡ true → nat_le 1 (cells ss (arrays ns t)) ≡ true
arrays_least ss [] t h i = i
arrays_least ss (n ∷ ns) t h i =
    subst (λ c. nat_le 1 c ≡ true) (sym (array_cells ss n (arrays ns t)))
    (more_cells n (cells ss (arrays ns t)) (first (nat_le 1 n) (nat_le n 65536) (first (is_length n) (are_lengths ns) h)) (arrays_least ss ns t (second (is_length n) (are_lengths ns) h) i))

-- arrays that fit are whole where their elements are
arrays_whole : (ss ns : List ℕ) (t : CType) → are_lengths ns ≡ true → nat_le 1 (cells ss t) ≡ true → nat_le (cells ss (arrays ns t)) 65536 ≡ true → is_whole ss t ≡ true → is_whole ss (arrays ns t) ≡ true
arrays_whole ss [] t h i j k = k
arrays_whole ss (n ∷ ns) t h i j k =
    let some = first (nat_le 1 n) (nat_le n 65536) (first (is_length n) (are_lengths ns) h) in
    let most = subst (λ c. nat_le c 65536 ≡ true) (array_cells ss n (arrays ns t)) j in
    array_whole ss n (arrays ns t)
    ∙ both (both (more_cells n (cells ss (arrays ns t)) some (arrays_least ss ns t (second (is_length n) (are_lengths ns) h) i)) most)
    (arrays_whole ss ns t (second (is_length n) (are_lengths ns) h) i (fewer_cells n (cells ss (arrays ns t)) some most) k)

-- Normal forms.

mutual
  -- a type in normal form has the same cells
  normal_cells : (ss : List ℕ) (public : List Bool) (inside : Bool) (t : CType) → cells ss (normal public inside t) ≡ cells ss t
  normal_cells ss public inside (Int k o) = refl
  normal_cells ss public inside (Pointer' f u t) = refl
  normal_cells ss public inside (Array' n u t) = ap (λ c. n * c) (normal_row_cells ss public inside t)
  normal_cells ss public inside (Struct n) = refl
  normal_cells ss public inside Nothing = refl

  normal_row_cells : {m : _} (ss : List ℕ) (public : List Bool) (inside : Bool) (t : Row_of-CType m) → cells_row ss (normal_row public inside t) ≡ cells_row ss t
  normal_row_cells ss public inside (more_of-CType t ts) = normal_cells ss public inside t
  normal_row_cells ss public inside end_of-CType = refl

mutual
  -- and is whole alike
  normal_whole : (ss : List ℕ) (public : List Bool) (inside : Bool) (t : CType) → is_whole ss (normal public inside t) ≡ is_whole ss t
  normal_whole ss public inside (Int k o) = refl
  normal_whole ss public inside (Pointer' f u t) = normal_row_whole ss public (inside || f) t
  normal_whole ss public inside (Array' n u t) =
      ap (λ c. is_cells (n * c) && is_whole_row ss (normal_row public inside t)) (normal_row_cells ss public inside t)
      ∙ ap (λ b. is_cells (n * cells_row ss t) && b) (normal_row_whole ss public inside t)
  normal_whole ss public inside (Struct n) = refl
  normal_whole ss public inside Nothing = refl

  normal_row_whole : {m : _} (ss : List ℕ) (public : List Bool) (inside : Bool) (t : Row_of-CType m) → is_whole_row ss (normal_row public inside t) ≡ is_whole_row ss t
  normal_row_whole ss public inside (more_of-CType t ts) = normal_whole ss public inside t
  normal_row_whole ss public inside end_of-CType = refl

mutual
  -- and leads on alike
  normal_starred : (public : List Bool) (inside : Bool) (t : CType) → is_starred (normal public inside t) ≡ is_starred t
  normal_starred public inside (Int k o) = refl
  normal_starred public inside (Pointer' f u t) = refl
  normal_starred public inside (Array' n u t) = normal_row_starred public inside t
  normal_starred public inside (Struct n) = refl
  normal_starred public inside Nothing = refl

  normal_row_starred : {m : _} (public : List Bool) (inside : Bool) (t : Row_of-CType m) → is_starred_row (normal_row public inside t) ≡ is_starred_row t
  normal_row_starred public inside (more_of-CType t ts) = normal_starred public inside t
  normal_row_starred public inside end_of-CType = refl

-- arrays lead on as their elements do
arrays_starred : (ns : List ℕ) (t : CType) → is_starred (arrays ns t) ≡ is_starred t
unfolding hidden-the_row-CType-0 hidden
arrays_starred [] t = refl
arrays_starred (n ∷ ns) t = arrays_starred ns t

-- Written types.

-- the structs above hold from 1 cell on
abbrev pub Least : Lookup → List ℕ → Type 0
Least g ss = (n : ℕ) → nat_lt n (length g.names) ≡ true → nat_lt n g.above ≡ true → nat_le 1 (slice_index_or ss n 0) ≡ true

-- what begins a type has a cell, starred or not
begun_least : (g : Lookup) (ss : List ℕ) (f : Bool) (k : ℕ) (u : CType) → Least g ss → Begins g (nat_eq k 0) u → nat_le 1 (cells ss (starred f k u)) ≡ true
begun_least g ss f zero _ l integer = refl
begun_least g ss f zero _ l (a_struct {n} b a) = l n b a
begun_least g ss f (suc k) u l b = subst (λ c. nat_le 1 c ≡ true) (sym (starred_cells ss f k (Pointer f u) (pointer_cells ss f u))) refl

-- among structs of these sizes each has a size, and those above have the sizes that are known
pub record Known (g : Lookup) (sizes : List ℕ) : Type 0 where
  pub named : length g.names ≡ length sizes
  pub sized : all is_cells sizes ≡ true
  pub above : (n : ℕ) → nat_lt n (length g.names) ≡ true → nat_lt n g.above ≡ true → slice_index_or (struct_cells g.structs) n 0 ≡ slice_index_or sizes n 0

-- sizes of structs among all
sized_at : (g : Lookup) (sizes : List ℕ) (n : ℕ) → Known g sizes → nat_lt n (length g.names) ≡ true → is_cells (slice_index_or sizes n 0) ≡ true
sized_at g sizes n h e = cells_at sizes n h.sized (subst (λ m. nat_lt n m ≡ true) h.named e)

least_known : (g : Lookup) (sizes : List ℕ) → Known g sizes → Least g sizes
least_known g sizes h n b a = first (nat_le 1 (slice_index_or sizes n 0)) (nat_le (slice_index_or sizes n 0) 65536) (sized_at g sizes n h b)

-- what begins a type is whole
begun_whole : (g : Lookup) (sizes : List ℕ) (v : Bool) (u : CType) → Known g sizes → Begins g v u → is_whole sizes u ≡ true
begun_whole g sizes v _ h integer = refl
begun_whole g sizes v _ h (a_struct {n} b a) = sized_at g sizes n h b

-- and has the same cells among all structs
begun_cells : (g : Lookup) (sizes : List ℕ) (f : Bool) (k : ℕ) (u : CType) → Known g sizes → Begins g (nat_eq k 0) u → cells (struct_cells g.structs) (starred f k u) ≡ cells sizes (starred f k u)
begun_cells g sizes f zero _ h integer = refl
begun_cells g sizes f zero _ h (a_struct {n} b a) = h.above n b a
begun_cells g sizes f (suc k) u h b = starred_cells (struct_cells g.structs) f k (Pointer f u) (pointer_cells (struct_cells g.structs) f u) ∙ sym (starred_cells sizes f k (Pointer f u) (pointer_cells sizes f u))

-- what is whole is a type in its normal form
normal_type : (structs : List StructType) (sizes : List ℕ) (t : CType) → is_whole sizes t ≡ true → is_type sizes (public_structs structs) (normal (public_structs structs) false t) ≡ true
normal_type structs sizes t h = both ((normal_forms structs t).is_reached false) (normal_whole sizes (public_structs structs) false t ∙ h)

-- what a written type without a name is: pointers to what it begins with
pub record Written (g : Lookup) (frozen : Bool) (stars : ℕ) (u : CType) : Type 0 where
  pub base : CType
  pub begins : Begins g (nat_eq stars 0) base
  pub is : u ≡ normal g.public false (starred frozen stars base)

-- what is found for it
pub written : (g : Lookup) (w : TypeName) (u : CType) → type_name g w ≡ Ok u → Written g w.base.frozen w.stars u
written g w u q =
    let z = parted (base_type g (nat_eq w.stars 0) w.base) (λ b. Ok (normal g.public false (starred w.base.frozen w.stars b))) u q in
    record { base = z.0; begins = begins g (nat_eq w.stars 0) w.base z.0 z.1; is = sym (fine_back _ u z.2) }

-- it is a type
pub written_good : (g : Lookup) (structs : List StructType) (sizes : List ℕ) (f : Bool) (k : ℕ) (u : CType) → g.public ≡ public_structs structs → Known g sizes → Written g f k u → is_type sizes (public_structs structs) u ≡ true
written_good g structs sizes f k u e h w =
    subst (λ u. is_type sizes (public_structs structs) u ≡ true) (sym w.is)
    (subst (λ p. is_type sizes (public_structs structs) (normal p false (starred f k w.base)) ≡ true) (sym e)
    (normal_type structs sizes (starred f k w.base) (starred_whole sizes f k w.base (begun_whole g sizes (nat_eq k 0) w.base h w.begins))))

-- no struct, it is what a cell has
normal_leaf : (public : List Bool) (inside : Bool) (t : CType) → is_leaf (normal public inside t) ≡ is_leaf t
normal_leaf public inside (Int k o) = refl
normal_leaf public inside (Pointer' f u t) = refl
normal_leaf public inside (Array' n u t) = refl
normal_leaf public inside (Struct n) = refl
normal_leaf public inside Nothing = refl

-- a type in normal form is a struct alike
pub struct_of_normal : (public : List Bool) (inside : Bool) (t : CType) → is_struct (normal public inside t) ≡ is_struct t
struct_of_normal public inside (Int k o) = refl
struct_of_normal public inside (Pointer' f u t) = refl
struct_of_normal public inside (Array' n u t) = refl
struct_of_normal public inside (Struct n) = refl
struct_of_normal public inside Nothing = refl

-- pointers are leaves
pointer_leaf : (f : Bool) (t : CType) → is_leaf (Pointer f t) ≡ true
unfolding hidden-the_row-CType-0 hidden
pointer_leaf f t = refl

starred_leaf : (f : Bool) (k : ℕ) (t : CType) → is_leaf t ≡ true → is_leaf (starred f k t) ≡ true
starred_leaf f zero t h = h
starred_leaf f (suc k) t h = starred_leaf f k (Pointer f t) (pointer_leaf f t)

-- no struct, what is written is a leaf
begun_leaf : (g : Lookup) (f : Bool) (k : ℕ) (u : CType) → Begins g (nat_eq k 0) u → not (is_struct (starred f k u)) ≡ true → is_leaf (starred f k u) ≡ true
begun_leaf g f zero _ integer h = refl
begun_leaf g f zero _ (a_struct b a) h = never h
begun_leaf g f (suc k) u b h = starred_leaf f k (Pointer f u) (pointer_leaf f u)

pub written_leaf : (g : Lookup) (f : Bool) (k : ℕ) (u : CType) → Written g f k u → not (is_struct u) ≡ true → is_leaf u ≡ true
written_leaf g f k u w h =
    subst (λ u. is_leaf u ≡ true) (sym w.is)
    (normal_leaf g.public false (starred f k w.base) ∙ begun_leaf g f k w.base w.begins
    (subst (λ b. not b ≡ true) (struct_of_normal g.public false (starred f k w.base)) (subst (λ u. not (is_struct u) ≡ true) w.is h)))

-- what a declarator is: arrays of pointers to what it begins with
pub record Declares (g : Lookup) (f : FieldDef) (u : CType) : Type 0 where
  pub base : CType
  pub found : base_type g (nat_eq f.stars 0) f.base ≡ Ok base
  pub begins : Begins g (nat_eq f.stars 0) base
  pub lengths : are_lengths f.dims ≡ true
  pub fits : nat_le (cells (struct_cells g.structs) (arrays f.dims (starred f.base.frozen f.stars base))) 65536 ≡ true
  pub is : u ≡ normal g.public false (arrays f.dims (starred f.base.frozen f.stars base))

-- what is found for it
pub declares : (g : Lookup) (f : FieldDef) (u : CType) → field_type g f ≡ Ok u → Declares g f u
declares g f u q =
    let z = parted (base_type g (nat_eq f.stars 0) f.base) _ u q in
    let n = needed f.base.spot T11 (are_lengths f.dims && nat_le (cells_of g (arrays f.dims (starred f.base.frozen f.stars z.0))) 65536) (Ok (normal g.public false (arrays f.dims (starred f.base.frozen f.stars z.0)))) u z.2 in
    record {
      base = z.0;
      found = z.1;
      begins = begins g (nat_eq f.stars 0) f.base z.0 z.1;
      lengths = first (are_lengths f.dims) (nat_le (cells_of g (arrays f.dims (starred f.base.frozen f.stars z.0))) 65536) n.0;
      fits = second (are_lengths f.dims) (nat_le (cells_of g (arrays f.dims (starred f.base.frozen f.stars z.0))) 65536) n.0;
      is = sym (fine_back _ u n.1);
    }

-- it has a cell, where the structs above have one
pub field_least : (g : Lookup) (f : FieldDef) (u : CType) → Least g (struct_cells g.structs) → Declares g f u → nat_le 1 (cells (struct_cells g.structs) u) ≡ true
field_least g f u l d =
    let t = starred f.base.frozen f.stars d.base in
    subst (λ u. nat_le 1 (cells (struct_cells g.structs) u) ≡ true) (sym d.is)
    (subst (λ c. nat_le 1 c ≡ true) (sym (normal_cells (struct_cells g.structs) g.public false (arrays f.dims t)))
    (arrays_least (struct_cells g.structs) f.dims t d.lengths (begun_least g (struct_cells g.structs) f.base.frozen f.stars d.base l d.begins)))

-- and it fits
pub field_fits : (g : Lookup) (f : FieldDef) (u : CType) → Declares g f u → nat_le (cells (struct_cells g.structs) u) 65536 ≡ true
field_fits g f u d =
    subst (λ u. nat_le (cells (struct_cells g.structs) u) 65536 ≡ true) (sym d.is)
    (subst (λ c. nat_le c 65536 ≡ true) (sym (normal_cells (struct_cells g.structs) g.public false (arrays f.dims (starred f.base.frozen f.stars d.base)))) d.fits)

-- and it is a type
pub field_good : (g : Lookup) (structs : List StructType) (sizes : List ℕ) (f : FieldDef) (u : CType) → g.public ≡ public_structs structs → Known g sizes → Declares g f u → is_type sizes (public_structs structs) u ≡ true
field_good g structs sizes f u e h d =
    let t = starred f.base.frozen f.stars d.base in
    let same = arrays_same (struct_cells g.structs) sizes f.dims t (begun_cells g sizes f.base.frozen f.stars d.base h d.begins) in
    let whole = arrays_whole sizes f.dims t d.lengths (begun_least g sizes f.base.frozen f.stars d.base (least_known g sizes h) d.begins) (subst (λ c. nat_le c 65536 ≡ true) same d.fits) (starred_whole sizes f.base.frozen f.stars d.base (begun_whole g sizes (nat_eq f.stars 0) d.base h d.begins)) in
    subst (λ u. is_type sizes (public_structs structs) u ≡ true) (sym d.is)
    (subst (λ p. is_type sizes (public_structs structs) (normal p false (arrays f.dims t)) ≡ true) (sym e) (normal_type structs sizes (arrays f.dims t) whole))

-- what begins a type is no pointer
begun_starred : (g : Lookup) (v : Bool) (u : CType) → Begins g v u → is_starred u ≡ false
begun_starred g v _ integer = refl
begun_starred g v _ (a_struct b a) = refl

-- no pointer is a frozen place
not_marked : (g : Lookup) (b : BaseName) (k : ℕ) (u : CType) → Begins g (nat_eq k 0) u → not (is_frozen_place b k && is_starred (starred b.frozen k u)) ≡ true
not_marked g b zero u h = subst (λ s. not (b.frozen && true && s) ≡ true) (sym (begun_starred g true u h)) (none b.frozen)
  where
    none : (b : Bool) → not (b && true && false) ≡ true
    none true = refl
    none false = refl
not_marked g b (suc k) u h = subst (λ z. not (b.frozen && z && is_starred (starred b.frozen k (Pointer b.frozen u))) ≡ true) (sym (not_zero k)) (none b.frozen (is_starred (starred b.frozen k (Pointer b.frozen u))))
  where
    none : (b s : Bool) → not (b && false && s) ≡ true
    none true s = refl
    none false s = refl

-- and it may be a slot, frozen where its declarator says so
pub slot_good : (g : Lookup) (structs : List StructType) (sizes : List ℕ) (f : FieldDef) (u : CType) → g.public ≡ public_structs structs → Known g sizes → Declares g f u
    → is_slot sizes (public_structs structs) (record { ty = u; frozen = is_frozen_place f.base f.stars }) ≡ true
slot_good g structs sizes f u e h d =
    let t = starred f.base.frozen f.stars d.base in
    both (field_good g structs sizes f u e h d)
    (subst (λ u. not (is_frozen_place f.base f.stars && is_starred u) ≡ true) (sym d.is)
    (subst (λ s. not (is_frozen_place f.base f.stars && s) ≡ true) (sym (normal_starred g.public false (arrays f.dims t) ∙ arrays_starred f.dims t)) (not_marked g f.base f.stars d.base d.begins)))

-- a written type may be a slot, frozen where its name says so
pub written_slot : (g : Lookup) (structs : List StructType) (sizes : List ℕ) (b : BaseName) (k : ℕ) (u : CType) → g.public ≡ public_structs structs → Known g sizes → Written g b.frozen k u
    → is_slot sizes (public_structs structs) (record { ty = u; frozen = is_frozen_place b k }) ≡ true
written_slot g structs sizes b k u e h w =
    both (written_good g structs sizes b.frozen k u e h w)
    (subst (λ u. not (is_frozen_place b k && is_starred u) ≡ true) (sym w.is)
    (subst (λ s. not (is_frozen_place b k && s) ≡ true) (sym (normal_starred g.public false (starred b.frozen k w.base))) (not_marked g b k w.base w.begins)))
