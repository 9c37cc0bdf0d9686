-- Fields that are laid one after another, with one more at their end.
use Rattle.std.proofs.Common.{ℕ, suc, ◌+◌, ◌≡◌, ◌≤◌, List, [], ◌∷◌, ◌++◌, length, min, max, refl, sym, ap, ◌∙◌, arith}
use Rattle.oc_cells.specs.declared.types.CType.{CType}
use Rattle.oc_cells.specs.declared.types.FieldType.{FieldType}
use Rattle.oc_source.specs.declared.parsed.FieldDef.{FieldDef}
use Rattle.oc_cells.specs.Layout.{cells, field_cells}
use Rattle.oc_typing.specs.Rules.{depth, field_depth, field_names}
use Rattle.typed_structs.specs.Fields.{new_field, unlaid, laid, laid_within}

unlaid_push : (fs : List FieldType) (f : FieldType) → unlaid (fs ++ f ∷ []) ≡ unlaid fs ++ record { name = f.name; ty = f.ty; offset = 0 } ∷ []
unlaid_push [] f = refl
unlaid_push (g ∷ gs) f = ap (λ hs. record { name = g.name; ty = g.ty; offset = 0 } ∷ hs) (unlaid_push gs f)

names_push : (fs : List FieldType) (f : FieldType) → field_names (fs ++ f ∷ []) ≡ field_names fs ++ f.name ∷ []
names_push [] f = refl
names_push (g ∷ gs) f = ap (λ xs. g.name ∷ xs) (names_push gs f)

pub names_length : (fs : List FieldType) → length fs ≡ length (field_names fs)
names_length [] = refl
names_length (f ∷ fs) = ap suc (names_length fs)

moved : (a x y : ℕ) → a + (x + y) ≡ (a + x) + y
moved a x y = omega arith

right_zero : (a : ℕ) → a + 0 ≡ a
right_zero a = omega arith

zero_left : (a : ℕ) → 0 + a ≡ a
zero_left a = omega arith

only : (a : ℕ) → a + 0 ≡ 0 + a
only a = omega arith

cells_push : (ss : List ℕ) (fs : List FieldType) (f : FieldType) → field_cells ss (fs ++ f ∷ []) ≡ field_cells ss fs + cells ss f.ty
cells_push ss [] f = only (cells ss f.ty)
cells_push ss (g ∷ gs) f = ap (λ n. cells ss g.ty + n) (cells_push ss gs f) ∙ moved (cells ss g.ty) (field_cells ss gs) (cells ss f.ty)

most : (a : ℕ) → max a 0 ≡ max 0 a
most a = omega arith

max_moved : (a x y : ℕ) → max a (max x y) ≡ max (max a x) y
max_moved a x y = omega arith

depth_push : (ds : List ℕ) (fs : List FieldType) (f : FieldType) → field_depth ds (fs ++ f ∷ []) ≡ max (field_depth ds fs) (depth ds f.ty)
depth_push ds [] f = most (depth ds f.ty)
depth_push ds (g ∷ gs) f = ap (λ n. max (depth ds g.ty) n) (depth_push ds gs f) ∙ max_moved (depth ds g.ty) (field_depth ds gs) (depth ds f.ty)

laid_push : (ss : List ℕ) (at : ℕ) (fs : List FieldType) (f : FieldType) → laid_within ss at (fs ++ f ∷ []) ≡ laid_within ss at fs ++ record { name = f.name; ty = f.ty; offset = min (at + field_cells ss fs) 65537 } ∷ []
laid_push ss at [] f = ap (λ n. record { name = f.name; ty = f.ty; offset = min n 65537 } ∷ []) (sym (right_zero at))
laid_push ss at (g ∷ gs) f =
    ap (λ hs. record { name = g.name; ty = g.ty; offset = min at 65537 } ∷ hs)
    (laid_push ss (at + cells ss g.ty) gs f ∙ ap (λ n. laid_within ss (at + cells ss g.ty) gs ++ record { name = f.name; ty = f.ty; offset = min n 65537 } ∷ []) (sym (moved at (cells ss g.ty) (field_cells ss gs))))

cells_unlaid : (ss : List ℕ) (fs : List FieldType) → field_cells ss (unlaid fs) ≡ field_cells ss fs
cells_unlaid ss [] = refl
cells_unlaid ss (f ∷ fs) = ap (λ n. cells ss f.ty + n) (cells_unlaid ss fs)

depth_unlaid : (ds : List ℕ) (fs : List FieldType) → field_depth ds (unlaid fs) ≡ field_depth ds fs
depth_unlaid ds [] = refl
depth_unlaid ds (f ∷ fs) = ap (λ n. max (depth ds f.ty) n) (depth_unlaid ds fs)

cells_of_laid : (ss : List ℕ) (at : ℕ) (fs : List FieldType) → field_cells ss (laid ss at fs) ≡ field_cells ss fs
cells_of_laid ss at [] = refl
cells_of_laid ss at (f ∷ fs) = ap (λ n. cells ss f.ty + n) (cells_of_laid ss (at + cells ss f.ty) fs)

depth_of_laid : (ss ds : List ℕ) (at : ℕ) (fs : List FieldType) → field_depth ds (laid ss at fs) ≡ field_depth ds fs
depth_of_laid ss ds at [] = refl
depth_of_laid ss ds at (f ∷ fs) = ap (λ n. max (depth ds f.ty) n) (depth_of_laid ss ds (at + cells ss f.ty) fs)

pub cells_laid : (ss : List ℕ) (fs : List FieldType) → field_cells ss (laid ss 0 (unlaid fs)) ≡ field_cells ss fs
cells_laid ss fs = cells_of_laid ss 0 (unlaid fs) ∙ cells_unlaid ss fs

pub depth_laid : (ss ds : List ℕ) (fs : List FieldType) → field_depth ds (laid ss 0 (unlaid fs)) ≡ field_depth ds fs
depth_laid ss ds fs = depth_of_laid ss ds 0 (unlaid fs) ∙ depth_unlaid ds fs

first_fits : (a x y : ℕ) → a + (x + y) ≤ 65536 → min a 65537 ≡ a
first_fits a x y h = omega (arith, h)

rest_fits : (a x y : ℕ) → a + (x + y) ≤ 65536 → (a + x) + y ≤ 65536
rest_fits a x y h = omega (arith, h)

all_fit : (ss : List ℕ) (at : ℕ) (fs : List FieldType) → at + field_cells ss fs ≤ 65536 → laid_within ss at fs ≡ laid ss at fs
all_fit ss at [] h = refl
all_fit ss at (f ∷ fs) h =
    ap (λ n. record { name = f.name; ty = f.ty; offset = n } ∷ laid_within ss (at + cells ss f.ty) fs) (first_fits at (cells ss f.ty) (field_cells ss fs) h)
    ∙ ap (λ gs. record { name = f.name; ty = f.ty; offset = at } ∷ gs) (all_fit ss (at + cells ss f.ty) fs (rest_fits at (cells ss f.ty) (field_cells ss fs) h))

whole : (c x y : ℕ) → c ≡ min x 65537 → c ≤ 65536 → y ≡ x → 0 + y ≤ 65536
whole c x y e h q = omega (arith, e, h, q)

-- where a struct has room, its fields stand where they are laid
pub laid_whole : (ss : List ℕ) (fs : List FieldType) (c : ℕ) → fs ≡ laid_within ss 0 (unlaid fs) → c ≡ min (field_cells ss fs) 65537 → c ≤ 65536 → fs ≡ laid ss 0 (unlaid fs)
laid_whole ss fs c e q h = e ∙ all_fit ss 0 (unlaid fs) (whole c (field_cells ss fs) (field_cells ss (unlaid fs)) q h (cells_unlaid ss fs))

pub cells_whole : (c x : ℕ) → c ≡ min x 65537 → c ≤ 65536 → c ≡ x
cells_whole c x e h = omega (arith, e, h)

capped_more : (a b x c y : ℕ) → a ≡ min x 65537 → b ≡ min (a + c) 65537 → y ≡ x + c → b ≡ min y 65537
capped_more a b x c y e f g = omega (arith, e, f, g)

module _ (ss ds : List ℕ) (old new : List FieldType) (d : FieldDef) (ty : CType) (at : ℕ) (f : FieldType) (list : new ≡ old ++ f ∷ []) (is : f ≡ record { name = d.name; ty = ty; offset = at }) where
  -- the field, laid at this offset
  abbrev pub the_field : ℕ → FieldType
  the_field n = record { name = d.name; ty = ty; offset = n }

  list_is : new ≡ old ++ the_field at ∷ []
  list_is = list ∙ ap (λ g. old ++ g ∷ []) is

  pub unlaid_more : unlaid new ≡ unlaid old ++ new_field d ty ∷ []
  unlaid_more = ap unlaid list_is ∙ unlaid_push old (the_field at)

  pub names_more : field_names new ≡ field_names old ++ d.name ∷ []
  names_more = ap field_names list_is ∙ names_push old (the_field at)

  pub laid_more : old ≡ laid_within ss 0 (unlaid old) → at ≡ min (field_cells ss old) 65537 → new ≡ laid_within ss 0 (unlaid new)
  laid_more h e =
      list_is ∙ ap (λ fs. fs ++ the_field at ∷ []) h
      ∙ ap (λ n. laid_within ss 0 (unlaid old) ++ the_field n ∷ []) (e ∙ ap (λ n. min n 65537) (sym (zero_left (field_cells ss (unlaid old)) ∙ cells_unlaid ss old)))
      ∙ sym (ap (λ fs. laid_within ss 0 fs) unlaid_more ∙ laid_push ss 0 (unlaid old) (new_field d ty))

  pub cells_more : (b : ℕ) → at ≡ min (field_cells ss old) 65537 → b ≡ min (at + cells ss ty) 65537 → b ≡ min (field_cells ss new) 65537
  cells_more b e h = capped_more at b (field_cells ss old) (cells ss ty) (field_cells ss new) e h (ap (λ fs. field_cells ss fs) list_is ∙ cells_push ss old (the_field at))

  pub depth_more : (m n : ℕ) → m ≡ field_depth ds old → n ≡ max m (depth ds ty) → n ≡ field_depth ds new
  depth_more m n e h = h ∙ ap (λ m. max m (depth ds ty)) e ∙ sym (ap (λ fs. field_depth ds fs) list_is ∙ depth_push ds old (the_field at))
