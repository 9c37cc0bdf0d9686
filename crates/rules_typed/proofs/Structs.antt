-- The structs that the rules find pass the test.
use Rattle.std.proofs.Common.{ℕ, zero, suc, ◌+◌, ◌≡◌, List, [], ◌∷◌, ◌++◌, length, take, Option, Some, None, Ok, refl, sym, ap, ◌∙◌, subst, Bool, true, false, nat_eq, nat_lt, slice_index_or, arith, append-nil}
use Rattle.std.specs.Prelude.{◌&&◌, ◌||◌, not, nat_le}
use Rattle.std.proofs.lemmas.Bool.{not-true}
use Rattle.oc_cells.specs.declared.types.CType.{CType, Int, Pointer', Array', Struct, Nothing, Row_of-CType, more_of-CType, end_of-CType}
use Rattle.oc_cells.specs.declared.types.CType.TheViews.{Pointer}
use Rattle.oc_cells.specs.declared.types.CType.TheBlock.{hidden-the_row-CType-0}
use denote.Hole.Carrier.{hidden}
use Rattle.oc_cells.specs.declared.types.FieldType.{FieldType}
use Rattle.oc_cells.specs.declared.types.StructType.{StructType}
use Rattle.oc_cells.specs.Types.{holds_public, holds_public_row, some_public, public_after, public_structs, normal, normal_row}
use Rattle.oc_cells.specs.Layout.{field_cells, cells_after, struct_cells}
use Rattle.oc_source.specs.declared.parsed.BaseName.{BaseName}
use Rattle.oc_source.specs.declared.parsed.BaseKind.{BaseKind}
use Rattle.oc_source.specs.declared.parsed.BaseKind.TheVariants as base
use Rattle.oc_source.specs.declared.parsed.FieldDef.{FieldDef}
use Rattle.oc_source.specs.declared.parsed.StructDef.{StructDef}
use Rattle.oc_typing.specs.Rules.{all, is_type, is_sized, field_depth, is_new, differ, field_names, are_fields, is_struct_type, are_structs}
use Rattle.oc_typing.specs.Rules as test
use Rattle.type_rules.specs.declared.judging.TypeRule.TheVariants.{T1, T2, T11}
use Rattle.type_rules.specs.Lookup.{Lookup, same_name}
use Rattle.type_rules.specs.Written.{has_name, number_from, number_or, struct_named, base_kind, base_type, base_public, field_public, some_public_field, public_from, struct_names, starred, arrays, cells_of, fields, depths_after, struct_type, with_struct, structs_from}
use Rattle.type_rules.specs.ProgramRules.{first_lookup}
use Rattle.type_rules.proofs.Laws.{fine_back, not_both, parted}
use Rattle.rules_typed.proofs.Bools.{never, both, three, first, second}
use Rattle.rules_typed.proofs.Slots.{one_on, length_one, all_one}
use Rattle.rules_typed.proofs.WrittenTypes.{needed, is_cells, cells_at, Known, Least, Declares, declares, field_least, field_fits, field_good}
use Rattle.rules_typed.proofs.Numbers.{number_itself, not_zero, no_less, one_less, none_more, one_more}

-- Names.

-- a name that is none of these is new to them
pub new_before : (names : List (List ℕ)) (x : List ℕ) (ns : List (List ℕ)) → has_name names x ≡ false → all (λ y. is_new y ns) names ≡ true → all (λ y. is_new y (x ∷ ns)) names ≡ true
new_before [] x ns h i = refl
new_before (y ∷ ys) x ns h i =
    both (both (other (same_name y x) (has_name ys x) h) (first (is_new y ns) (all (λ y. is_new y ns) ys) i))
    (new_before ys x ns (rest (same_name y x) (has_name ys x) h) (second (is_new y ns) (all (λ y. is_new y ns) ys) i))
  where
    other : (a b : Bool) → (a || b) ≡ false → not a ≡ true
    other true b h = sym h
    other false b h = refl

    rest : (a b : Bool) → (a || b) ≡ false → b ≡ false
    rest true b h = never (sym h)
    rest false b h = h

-- each name is new to none
pub none_left : (ys : List (List ℕ)) → all (λ y. is_new y []) ys ≡ true
none_left [] = refl
none_left (y ∷ ys) = none_left ys

-- Fields.

-- fields that are judged one after another
abbrev pub MadeFields : Lookup → List (List ℕ) → ℕ → List FieldDef → List FieldType → Type 0
MadeFields g earlier at [] [] = Unit {0}
MadeFields g earlier at [] (t ∷ ts) = ⊥
MadeFields g earlier at (f ∷ fs) [] = ⊥
MadeFields g earlier at (f ∷ fs) (t ∷ ts) =
    Declares g f t.ty × (t.name ≡ f.name) × (t.offset ≡ at) × (has_name earlier f.name ≡ false) × MadeFields g (f.name ∷ earlier) (at + cells_of g t.ty) fs ts

-- what is found for fields
made_fields : (g : Lookup) (earlier : List (List ℕ)) (at : ℕ) (fs : List FieldDef) (ts : List FieldType) → fields g earlier at fs ≡ Ok ts → MadeFields g earlier at fs ts
made_fields g earlier at [] ts q = subst (λ ts. MadeFields g earlier at [] ts) (fine_back [] ts q) tt
made_fields g earlier at (f ∷ fs) ts q =
    let y = parted _ _ ts q in
    let n = needed f.spot T2 (not (has_name earlier f.name)) _ ts y.2 in
    let z = parted (fields g (f.name ∷ earlier) (at + cells_of g y.0) fs) _ ts n.1 in
    subst (λ ts. MadeFields g earlier at (f ∷ fs) ts) (fine_back _ ts z.2)
    (declares g f y.0 y.1, refl, refl, not-true (has_name earlier f.name) n.0, made_fields g (f.name ∷ earlier) (at + cells_of g y.0) fs z.0 z.1)

-- fields pass the test
fields_typed : (g : Lookup) (structs : List StructType) (sizes : List ℕ) (earlier : List (List ℕ)) (at : ℕ) (fs : List FieldDef) (ts : List FieldType) → g.public ≡ public_structs structs → Known g sizes → Least g (struct_cells g.structs)
    → MadeFields g earlier at fs ts → are_fields sizes (public_structs structs) (struct_cells g.structs) at ts ≡ true
fields_typed g structs sizes earlier at [] [] e h l m = refl
fields_typed g structs sizes earlier at [] (t ∷ ts) e h l m = absurd m
fields_typed g structs sizes earlier at (f ∷ fs) [] e h l m = absurd m
fields_typed g structs sizes earlier at (f ∷ fs) (t ∷ ts) e h l m =
    both (three (field_good g structs sizes f t.ty e h m.0) (both (field_least g f t.ty l m.0) (field_fits g f t.ty m.0)) (subst (λ n. nat_eq n at ≡ true) (sym m.2) (number_itself at)))
    (fields_typed g structs sizes (f.name ∷ earlier) (at + cells_of g t.ty) fs ts e h l m.4)

-- names of fields differ
fields_differ : (g : Lookup) (earlier : List (List ℕ)) (at : ℕ) (fs : List FieldDef) (ts : List FieldType) → MadeFields g earlier at fs ts → (all (λ y. is_new y (field_names ts)) earlier ≡ true) × (differ (field_names ts) ≡ true)
fields_differ g earlier at [] [] m = (none_left earlier, refl)
fields_differ g earlier at [] (t ∷ ts) m = absurd m
fields_differ g earlier at (f ∷ fs) [] m = absurd m
fields_differ g earlier at (f ∷ fs) (t ∷ ts) m =
    let z = fields_differ g (f.name ∷ earlier) (at + cells_of g t.ty) fs ts m.4 in
    let mine = first (is_new f.name (field_names ts)) (all (λ y. is_new y (field_names ts)) earlier) z.0 in
    let theirs = second (is_new f.name (field_names ts)) (all (λ y. is_new y (field_names ts)) earlier) z.0 in (
      subst (λ x. all (λ y. is_new y (x ∷ field_names ts)) earlier ≡ true) (sym m.1) (new_before earlier f.name (field_names ts) m.3 theirs),
      both (subst (λ x. is_new x (field_names ts) ≡ true) (sym m.1) mine) z.1,
    )

-- Public data.

mutual
  -- a type in normal form holds public data alike
  normal_holds : (known public : List Bool) (inside : Bool) (t : CType) → holds_public known (normal public inside t) ≡ holds_public known t
  normal_holds known public inside (Int k o) = refl
  normal_holds known public inside (Pointer' f u t) = refl
  normal_holds known public inside (Array' n u t) = normal_row_holds known public inside t
  normal_holds known public inside (Struct n) = refl
  normal_holds known public inside Nothing = refl

  normal_row_holds : {m : _} (known public : List Bool) (inside : Bool) (t : Row_of-CType m) → holds_public_row known (normal_row public inside t) ≡ holds_public_row known t
  normal_row_holds known public inside (more_of-CType t ts) = normal_holds known public inside t
  normal_row_holds known public inside end_of-CType = refl

-- arrays hold what their elements do
arrays_hold : (known : List Bool) (ns : List ℕ) (t : CType) → holds_public known (arrays ns t) ≡ holds_public known t
unfolding hidden-the_row-CType-0 hidden
arrays_hold known [] t = refl
arrays_hold known (n ∷ ns) t = arrays_hold known ns t

-- pointers are public data
pointer_holds : (known : List Bool) (f : Bool) (t : CType) → holds_public known (Pointer f t) ≡ true
unfolding hidden-the_row-CType-0 hidden
pointer_holds known f t = refl

starred_holds : (known : List Bool) (f : Bool) (k : ℕ) (t : CType) → holds_public known t ≡ true → holds_public known (starred f k t) ≡ true
starred_holds known f zero t h = h
starred_holds known f (suc k) t h = starred_holds known f k (Pointer f t) (pointer_holds known f t)

-- what a type begins with holds public data where the written name says so
begun_holds : (g : Lookup) (known : List Bool) (v : Bool) (b : BaseName) (u : CType) → base_type g v b ≡ Ok u → holds_public known u ≡ base_public g.names known b.obliv b.kind
begun_holds g known v b u q = on b.kind q
  where
    at : (o : Option ℕ) → struct_named g v b.spot o ≡ Ok u → holds_public known u ≡ slice_index_or known (number_or (length known) o) false
    at None q = absurd (not_both u _ q)
    at (Some n) q = sym (ap (λ u. holds_public known u) (fine_back (Struct n) u (needed b.spot T1 (not v || nat_lt n g.above) (Ok (Struct n)) u q).1))

    on : (k : BaseKind) → base_kind g v b.spot b.obliv k ≡ Ok u → holds_public known u ≡ base_public g.names known b.obliv k
    on (base.Int k) q = sym (ap (λ u. holds_public known u) (fine_back (Int k b.obliv) u q))
    on (base.Struct x) q = at (number_from 0 g.names x) q

-- a field holds public data where it is written so
declared_holds : (g : Lookup) (known : List Bool) (f : FieldDef) (u : CType) → Declares g f u → holds_public known u ≡ field_public g.names known f
declared_holds g known f u d =
    ap (λ u. holds_public known u) d.is
    ∙ normal_holds known g.public false (arrays f.dims (starred f.base.frozen f.stars d.base))
    ∙ arrays_hold known f.dims (starred f.base.frozen f.stars d.base)
    ∙ on f.stars
  where
    on : (k : ℕ) → holds_public known (starred f.base.frozen k d.base) ≡ (not (nat_eq k 0) || base_public g.names known f.base.obliv f.base.kind)
    on zero = begun_holds g known (nat_eq f.stars 0) f.base d.base d.found
    on (suc k) = starred_holds known f.base.frozen k (Pointer f.base.frozen d.base) (pointer_holds known f.base.frozen d.base) ∙ sym (ap (λ z. not z || base_public g.names known f.base.obliv f.base.kind) (not_zero k))

-- and so do fields
fields_hold : (g : Lookup) (known : List Bool) (earlier : List (List ℕ)) (at : ℕ) (fs : List FieldDef) (ts : List FieldType) → MadeFields g earlier at fs ts → some_public known ts ≡ some_public_field g.names known fs
fields_hold g known earlier at [] [] m = refl
fields_hold g known earlier at [] (t ∷ ts) m = absurd m
fields_hold g known earlier at (f ∷ fs) [] m = absurd m
fields_hold g known earlier at (f ∷ fs) (t ∷ ts) m =
    ap (λ b. b || some_public known ts) (declared_holds g known f t.ty m.0)
    ∙ ap (λ b. field_public g.names known f || b) (fields_hold g known (f.name ∷ earlier) (at + cells_of g t.ty) fs ts m.4)

-- Structs.

-- a struct of a definition, where the earlier ones are known
pub record MadeStruct (g : Lookup) (d : StructDef) (s : StructType) : Type 0 where
  pub made : MadeFields g [] 0 d.fields s.fields
  pub name : s.name ≡ d.name
  pub cells : s.cells ≡ field_cells (struct_cells g.structs) s.fields
  pub fresh : has_name (take g.above g.names) d.name ≡ false
  pub sized : is_cells (field_cells (struct_cells g.structs) s.fields) ≡ true
  pub deep : nat_lt (field_depth (depths_after [] g.structs) s.fields) 64 ≡ true

-- what is found for a struct
made_struct : (g : Lookup) (d : StructDef) (s : StructType) → struct_type g d ≡ Ok s → MadeStruct g d s
made_struct g d s q =
    let y = parted (fields g [] 0 d.fields) _ s q in
    let n = needed d.spot T2 (not (has_name (take g.above g.names) d.name)) _ s y.2 in
    let m = needed d.spot T11 (is_cells (field_cells (struct_cells g.structs) y.0) && nat_lt (field_depth (depths_after [] g.structs) y.0) 64) _ s n.1 in
    subst (λ s. MadeStruct g d s) (fine_back (record { name = d.name; fields = y.0; cells = field_cells (struct_cells g.structs) y.0 }) s m.1)
    (record {
      made = made_fields g [] 0 d.fields y.0 y.1;
      name = refl;
      cells = refl;
      fresh = not-true (has_name (take g.above g.names) d.name) n.0;
      sized = first (is_cells (field_cells (struct_cells g.structs) y.0)) (nat_lt (field_depth (depths_after [] g.structs) y.0) 64) m.0;
      deep = second (is_cells (field_cells (struct_cells g.structs) y.0)) (nat_lt (field_depth (depths_after [] g.structs) y.0) 64) m.0;
    })

-- structs that are judged one after another
abbrev pub MadeAll : Lookup → List StructDef → List StructType → Type 0
MadeAll g [] [] = Unit {0}
MadeAll g [] (s ∷ ss) = ⊥
MadeAll g (d ∷ ds) [] = ⊥
MadeAll g (d ∷ ds) (s ∷ ss) = MadeStruct g d s × MadeAll (with_struct g s) ds ss

-- what is known after structs
abbrev pub with_all : Lookup → List StructType → Lookup
with_all g [] = g
with_all g (s ∷ ss) = with_all (with_struct g s) ss

-- what is found for structs
made_all : (g : Lookup) (ds : List StructDef) (h : Lookup) → structs_from g ds ≡ Ok h → (ss : List StructType) × MadeAll g ds ss × (h ≡ with_all g ss)
made_all g [] h q = ([], tt, sym (fine_back g h q))
made_all g (d ∷ ds) h q =
    let z = parted (struct_type g d) _ h q in
    let r = made_all (with_struct g z.0) ds h z.2 in
    (z.0 ∷ r.0, (made_struct g d z.0 z.1, r.1), r.2)

-- what stays as structs are judged
all_structs : (g : Lookup) (ss : List StructType) → (with_all g ss).structs ≡ g.structs ++ ss
all_structs g [] = sym (append-nil g.structs)
all_structs g (s ∷ ss) = all_structs (with_struct g s) ss ∙ one_on g.structs ss s

all_names : (g : Lookup) (ss : List StructType) → (with_all g ss).names ≡ g.names
all_names g [] = refl
all_names g (s ∷ ss) = all_names (with_struct g s) ss

all_public : (g : Lookup) (ss : List StructType) → (with_all g ss).public ≡ g.public
all_public g [] = refl
all_public g (s ∷ ss) = all_public (with_struct g s) ss

-- Cells of a struct more.

-- cells of one struct more
after_one : (known : List ℕ) (ss : List StructType) (s : StructType) → cells_after known (ss ++ s ∷ []) ≡ cells_after known ss ++ field_cells (cells_after known ss) s.fields ∷ []
after_one known [] s = refl
after_one known (r ∷ ss) s = after_one (known ++ field_cells known r.fields ∷ []) ss s

cells_one : (ss : List StructType) (s : StructType) → struct_cells (ss ++ s ∷ []) ≡ struct_cells ss ++ field_cells (struct_cells ss) s.fields ∷ []
cells_one ss s = after_one [] ss s

-- depths of one struct more
depth_one : (known : List ℕ) (ss : List StructType) (s : StructType) → depths_after known (ss ++ s ∷ []) ≡ depths_after known ss ++ suc (field_depth (depths_after known ss) s.fields) ∷ []
depth_one known [] s = ap (λ n. known ++ n ∷ []) (one_more (field_depth known s.fields))
depth_one known (r ∷ ss) s = depth_one (known ++ (field_depth known r.fields + 1) ∷ []) ss s

-- there are as many numbers of cells as structs
after_length : (known : List ℕ) (ss : List StructType) → length (cells_after known ss) ≡ length known + length ss
after_length known [] = no_more (length known)
  where
    no_more : (n : ℕ) → n ≡ n + 0
    no_more n = omega arith
after_length known (s ∷ ss) =
    after_length (known ++ field_cells known s.fields ∷ []) ss
    ∙ ap (λ n. n + length ss) (length_one known (field_cells known s.fields)) ∙ shifted (length known) (length ss)
  where
    shifted : (n m : ℕ) → suc n + m ≡ n + suc m
    shifted n m = omega arith

cells_length : (ss : List StructType) → length (struct_cells ss) ≡ length ss
cells_length ss = after_length [] ss ∙ none_more (length ss)

-- the cells of the first structs stand first
after_goes : (known : List ℕ) (ss : List StructType) → (more : List ℕ) × (cells_after known ss ≡ known ++ more)
after_goes known [] = ([], sym (append-nil known))
after_goes known (s ∷ ss) =
    let z = after_goes (known ++ field_cells known s.fields ∷ []) ss in
    (field_cells known s.fields ∷ z.0, z.1 ∙ one_on known z.0 (field_cells known s.fields))

-- cells of structs after others
after_both : (known : List ℕ) (rs ss : List StructType) → cells_after known (rs ++ ss) ≡ cells_after (cells_after known rs) ss
after_both known [] ss = refl
after_both known (r ∷ rs) ss = after_both (known ++ field_cells known r.fields ∷ []) rs ss

-- the first numbers stand first
index_first : (ms ns : List ℕ) (n : ℕ) → nat_lt n (length ms) ≡ true → slice_index_or (ms ++ ns) n 0 ≡ slice_index_or ms n 0
index_first [] ns n h = absurd (no_less n h)
index_first (m ∷ ms) ns zero h = refl
index_first (m ∷ ms) ns (suc n) h = index_first ms ns n (one_less n (length ms) h)

-- the first structs keep their cells
cells_first : (rs ss : List StructType) (n : ℕ) → nat_lt n (length rs) ≡ true → slice_index_or (struct_cells rs) n 0 ≡ slice_index_or (struct_cells (rs ++ ss)) n 0
cells_first rs ss n h =
    let z = after_goes (struct_cells rs) ss in
    sym (ap (λ l. slice_index_or l n 0) (after_both [] rs ss ∙ z.1) ∙ index_first (struct_cells rs) z.0 n (subst (λ m. nat_lt n m ≡ true) (sym (cells_length rs)) h))

-- Structs among all.

-- the structs above have cells
least_above : (g : Lookup) → g.above ≡ length g.structs → all is_cells (struct_cells g.structs) ≡ true → Least g (struct_cells g.structs)
least_above g a h n b e =
    let c = cells_at (struct_cells g.structs) n h (subst (λ m. nat_lt n m ≡ true) (a ∙ sym (cells_length g.structs)) e) in
    first (nat_le 1 (slice_index_or (struct_cells g.structs) n 0)) (nat_le (slice_index_or (struct_cells g.structs) n 0) 65536) c

-- one more stands above
one_above : (g : Lookup) (s : StructType) → g.above ≡ length g.structs → (with_struct g s).above ≡ length (with_struct g s).structs
one_above g s a = next g.above (length g.structs) a ∙ sym (length_one g.structs s)
  where
    next : (n m : ℕ) → n ≡ m → n + 1 ≡ suc m
    next n m e = omega arith

-- with it each has
sized_with : (g : Lookup) (s : StructType) → all is_cells (struct_cells g.structs) ≡ true → is_cells (field_cells (struct_cells g.structs) s.fields) ≡ true → all is_cells (struct_cells (g.structs ++ s ∷ [])) ≡ true
sized_with g s h i = subst (λ l. all is_cells l ≡ true) (sym (cells_one g.structs s)) (all_one is_cells (struct_cells g.structs) (field_cells (struct_cells g.structs) s.fields) h i)

-- all structs have
all_sized : (g : Lookup) (ds : List StructDef) (ss : List StructType) → g.above ≡ length g.structs → all is_cells (struct_cells g.structs) ≡ true → MadeAll g ds ss → all is_cells (struct_cells (g.structs ++ ss)) ≡ true
all_sized g [] [] a h m = subst (λ l. all is_cells (struct_cells l) ≡ true) (sym (append-nil g.structs)) h
all_sized g [] (s ∷ ss) a h m = absurd m
all_sized g (d ∷ ds) [] a h m = absurd m
all_sized g (d ∷ ds) (s ∷ ss) a h m =
    subst (λ l. all is_cells (struct_cells l) ≡ true) (one_on g.structs ss s)
    (all_sized (with_struct g s) ds ss (one_above g s a) (sized_with g s h m.0.sized) m.1)

-- all structs, their sizes and what they hold
pub record Among (g : Lookup) (all_of : List StructType) : Type 0 where
  pub public : g.public ≡ public_structs all_of
  pub named : length g.names ≡ length (struct_cells all_of)
  pub sized : all is_cells (struct_cells all_of) ≡ true

-- what is known at a struct
known_at : (g : Lookup) (ss : List StructType) → Among g (g.structs ++ ss) → g.above ≡ length g.structs → Known g (struct_cells (g.structs ++ ss))
known_at g ss w a = record {
  named = w.named;
  sized = w.sized;
  above = λ n b e. cells_first g.structs ss n (subst (λ m. nat_lt n m ≡ true) a e);
}

-- depths
less_deep : (n : ℕ) → nat_lt n 64 ≡ true → nat_le n 63 ≡ true
less_deep n h = grind arith

-- structs pass the test
structs_typed : (g : Lookup) (ds : List StructDef) (ss : List StructType) → g.above ≡ length g.structs → all is_cells (struct_cells g.structs) ≡ true → Among g (g.structs ++ ss) → MadeAll g ds ss
    → are_structs (struct_cells (g.structs ++ ss)) (public_structs (g.structs ++ ss)) (struct_cells g.structs) (depths_after [] g.structs) ss ≡ true
structs_typed g [] [] a h w m = refl
structs_typed g [] (s ∷ ss) a h w m = absurd m
structs_typed g (d ∷ ds) [] a h w m = absurd m
structs_typed g (d ∷ ds) (s ∷ ss) a h w m =
    let l = least_above g a h in
    let i = m.0.sized in
    let mine = fields_typed g (g.structs ++ s ∷ ss) (struct_cells (g.structs ++ s ∷ ss)) [] 0 d.fields s.fields w.public (known_at g (s ∷ ss) w a) l m.0.made in
    let cells = subst (λ c. is_cells c ≡ true) (sym m.0.cells) i in
    let r = structs_typed (with_struct g s) ds ss (one_above g s a) (sized_with g s h i) (subst (λ l. Among (with_struct g s) l) (sym (one_on g.structs ss s)) (record { public = w.public; named = w.named; sized = w.sized })) m.1 in
    both (both (both (both (both (both
    (subst (λ c. nat_eq c (field_cells (struct_cells g.structs) s.fields) ≡ true) (sym m.0.cells) (number_itself (field_cells (struct_cells g.structs) s.fields)))
    (first (nat_le 1 s.cells) (nat_le s.cells 65536) cells)) (second (nat_le 1 s.cells) (nat_le s.cells 65536) cells))
    (less_deep (field_depth (depths_after [] g.structs) s.fields) m.0.deep)) mine) (fields_differ g [] 0 d.fields s.fields m.0.made).1)
    (subst (λ k. are_structs (struct_cells (g.structs ++ s ∷ ss)) (public_structs (g.structs ++ s ∷ ss)) k (depths_after [] g.structs ++ suc (field_depth (depths_after [] g.structs) s.fields) ∷ []) ss ≡ true) (cells_one g.structs s)
    (subst (λ k. are_structs (struct_cells (g.structs ++ s ∷ ss)) (public_structs (g.structs ++ s ∷ ss)) (struct_cells (g.structs ++ s ∷ [])) k ss ≡ true) (depth_one [] g.structs s)
    (subst (λ l. are_structs (struct_cells l) (public_structs l) (struct_cells (g.structs ++ s ∷ [])) (depths_after [] (g.structs ++ s ∷ [])) ss ≡ true) (one_on g.structs ss s) r)))

-- what is known of the structs' public data before they are judged is so of the judged ones
all_hold : (g : Lookup) (known : List Bool) (ds : List StructDef) (ss : List StructType) → MadeAll g ds ss → public_from g.names known ds ≡ public_after known ss
all_hold g known [] [] m = refl
all_hold g known [] (s ∷ ss) m = absurd m
all_hold g known (d ∷ ds) [] m = absurd m
all_hold g known (d ∷ ds) (s ∷ ss) m =
    ap (λ b. public_from g.names (known ++ b ∷ []) ds) (sym (fields_hold g known [] 0 d.fields s.fields m.0.made))
    ∙ all_hold (with_struct g s) (known ++ some_public known s.fields ∷ []) ds ss m.1

-- Their names.

-- structs have the names of their definitions
names_made : (g : Lookup) (ds : List StructDef) (ss : List StructType) → MadeAll g ds ss → test.struct_names ss ≡ struct_names ds
names_made g [] [] m = refl
names_made g [] (s ∷ ss) m = absurd m
names_made g (d ∷ ds) [] m = absurd m
names_made g (d ∷ ds) (s ∷ ss) m = ap (λ n. n ∷ test.struct_names ss) m.0.name ∙ ap (λ ns. d.name ∷ ns) (names_made (with_struct g s) ds ss m.1)

names_length : (ss : List StructType) → length (test.struct_names ss) ≡ length ss
names_length [] = refl
names_length (s ∷ ss) = ap (λ n. suc n) (names_length ss)

-- names of one struct more
names_one : (ss : List StructType) (s : StructType) → test.struct_names (ss ++ s ∷ []) ≡ test.struct_names ss ++ s.name ∷ []
names_one [] s = refl
names_one (r ∷ ss) s = ap (λ l. r.name ∷ l) (names_one ss s)

-- lists with more at their end
pub take_first : {A : Type 0} (xs ys : List A) → take (length xs) (xs ++ ys) ≡ xs
take_first [] ys = refl
take_first (x ∷ xs) ys = ap (λ l. x ∷ l) (take_first xs ys)

pub all_split : {A : Type 0} (f : A → Bool) (xs : List A) (y : A) → all f (xs ++ y ∷ []) ≡ true → (all f xs ≡ true) × (f y ≡ true)
all_split f [] y h = (refl, first (f y) true h)
all_split f (x ∷ xs) y h =
    let z = all_split f xs y (second (f x) (all f (xs ++ y ∷ [])) h) in
    (both (first (f x) (all f (xs ++ y ∷ [])) h) z.0, z.1)

-- names of structs differ
structs_differ : (g : Lookup) (ds : List StructDef) (ss : List StructType) → g.above ≡ length g.structs → g.names ≡ test.struct_names g.structs ++ struct_names ds → MadeAll g ds ss
    → (all (λ y. is_new y (test.struct_names ss)) (test.struct_names g.structs) ≡ true) × (differ (test.struct_names ss) ≡ true)
structs_differ g [] [] a e m = (none_left (test.struct_names g.structs), refl)
structs_differ g [] (s ∷ ss) a e m = absurd m
structs_differ g (d ∷ ds) [] a e m = absurd m
structs_differ g (d ∷ ds) (s ∷ ss) a e m =
    let above = take_first (test.struct_names g.structs) (struct_names (d ∷ ds)) in
    let old = subst (λ l. has_name l d.name ≡ false) above (subst (λ n. has_name (take n (test.struct_names g.structs ++ struct_names (d ∷ ds))) d.name ≡ false) (a ∙ sym (names_length g.structs)) (subst (λ l. has_name (take g.above l) d.name ≡ false) e m.0.fresh)) in
    let more = e ∙ sym (ap (λ l. l ++ struct_names ds) (names_one g.structs s) ∙ one_on (test.struct_names g.structs) (struct_names ds) s.name ∙ ap (λ n. test.struct_names g.structs ++ n ∷ struct_names ds) m.0.name) in
    let r = structs_differ (with_struct g s) ds ss (one_above g s a) more m.1 in
    let z = all_split (λ y. is_new y (test.struct_names ss)) (test.struct_names g.structs) s.name (subst (λ l. all (λ y. is_new y (test.struct_names ss)) l ≡ true) (names_one g.structs s) r.0) in
    (subst (λ x. all (λ y. is_new y (x ∷ test.struct_names ss)) (test.struct_names g.structs) ≡ true) (sym m.0.name) (new_before (test.struct_names g.structs) d.name (test.struct_names ss) old z.0), both z.1 r.1)

-- What is known after all structs.

-- the structs of a program, all judged
pub record Structured (ds : List StructDef) (g : Lookup) : Type 0 where
  pub among : Among g g.structs
  pub names : g.names ≡ struct_names ds
  pub typed : are_structs (struct_cells g.structs) (public_structs g.structs) [] [] g.structs ≡ true
  pub differ : differ (test.struct_names g.structs) ≡ true

-- there are as many numbers of cells as names
names_list : (ds : List StructDef) (ss : List StructType) → test.struct_names ss ≡ struct_names ds → length (struct_names ds) ≡ length (struct_cells ss)
names_list ds ss e = sym (ap (λ l. length l) e) ∙ names_length ss ∙ sym (cells_length ss)

-- what is found for the structs of a program
pub structured : (ds : List StructDef) (g : Lookup) → structs_from (first_lookup ds) ds ≡ Ok g → Structured ds g
structured ds g q =
    let z = made_all (first_lookup ds) ds g q in
    subst (λ g. Structured ds g) (sym z.2) (after z.0 z.1 (all_structs (first_lookup ds) z.0))
  where
    after : (ss : List StructType) → MadeAll (first_lookup ds) ds ss → (with_all (first_lookup ds) ss).structs ≡ ss → Structured ds (with_all (first_lookup ds) ss)
    after ss m e =
        let first_among : Among (first_lookup ds) ss = record {
          public = all_hold (first_lookup ds) [] ds ss m;
          named = names_list ds ss (names_made (first_lookup ds) ds ss m);
          sized = all_sized (first_lookup ds) ds ss refl refl m;
        } in
        let there = structs_typed (first_lookup ds) ds ss refl refl first_among m in
        record {
          among = subst (λ l. Among (with_all (first_lookup ds) ss) l) (sym e) (record {
            public = all_public (first_lookup ds) ss ∙ first_among.public;
            named = ap (λ l. length l) (all_names (first_lookup ds) ss) ∙ first_among.named;
            sized = first_among.sized;
          });
          names = all_names (first_lookup ds) ss;
          typed = subst (λ l. are_structs (struct_cells l) (public_structs l) [] [] l ≡ true) (sym e) there;
          differ = subst (λ l. differ (test.struct_names l) ≡ true) (sym e) (structs_differ (first_lookup ds) ds ss refl refl m).1;
        }
