-- The first heading of a name stands for all of that name.
use Rattle.std.proofs.Common.{ℕ, ◌≡◌, List, [], ◌∷◌, ◌++◌, Bool, true, false, nat_eq, Some, refl, sym, ap, ◌∙◌, subst, arith}
use Rattle.std.specs.Prelude.{◌&&◌, ◌||◌, not, if◌then◌else◌}
use Rattle.oc_cells.specs.declared.types.CType.{CType}
use Rattle.oc_cells.specs.Types.{same, alike}
use Rattle.oc_cells.proofs.Equal.{same_is}
use Rattle.oc_cells.proofs.Freezing.{alike_is}
use Rattle.type_rules.specs.declared.judging.Heading.{Heading}
use Rattle.type_rules.specs.Lookup.{same_name}
use Rattle.type_rules.specs.Calls.{types_of}
use Rattle.type_rules.specs.Written.{has_name, same_types, same_heading, may_stand, bodies_of}
use Rattle.written_types.specs.Numbers.{heading_names}
use Rattle.written_types.proofs.Numbering.{equal_names}
use Rattle.written_types.proofs.Forms.{both_true}
use Rattle.typed_headings.specs.Beside.{first_named, beside, agree_with, are_agreeing}

-- whether one of the headings of a name has a body
abbrev pub has_bodied : List Heading → List ℕ → Bool
has_bodied hs x = has_name (heading_names (bodies_of hs)) x

types_are : (ts bs : List CType) → same_types ts bs ≡ true → ts ≡ bs
types_are [] [] h = refl
types_are [] (b ∷ bs) h = cc
types_are (a ∷ ts) [] h = cc
types_are (a ∷ ts) (b ∷ bs) h =
    let k = both_true (same true a b) (same_types ts bs) h in
    ap (λ c. c ∷ ts) (same_is a b k.0) ∙ ap (λ cs. b ∷ cs) (types_are ts bs k.1)

-- what a heading has to agree in
abbrev agrees : CType → List CType → Bool → Heading → Bool
agrees ty ts o h = same true ty h.result && same_types ts (types_of h.params) && alike o h.obliv

-- a heading that agrees with another agrees with what that does
agreed : (k j h : Heading) → same_heading k j ≡ true → same_heading k h ≡ true → same_heading j h ≡ true
agreed k j h e f =
    let a = both_true (same true k.result j.result && same_types (types_of k.params) (types_of j.params)) (alike k.obliv j.obliv) e in
    let b = both_true (same true k.result j.result) (same_types (types_of k.params) (types_of j.params)) a.0 in
    subst (λ ty. agrees ty (types_of j.params) j.obliv h ≡ true) (same_is k.result j.result b.0)
    (subst (λ ts. agrees k.result ts j.obliv h ≡ true) (types_are (types_of k.params) (types_of j.params) b.1)
    (subst (λ o. agrees k.result (types_of k.params) o h ≡ true) (alike_is k.obliv j.obliv a.1) f))

number_itself : (n : ℕ) → nat_eq n n ≡ true
number_itself n = grind arith

name_itself : (x : List ℕ) → same_name x x ≡ true
name_itself [] = refl
name_itself (b ∷ bs) = ap (λ t. t && same_name bs bs) (number_itself b) ∙ name_itself bs

-- two names that are a third are the same
names_meet : (a b x : List ℕ) → same_name a x ≡ true → same_name b x ≡ true → same_name a b ≡ true
names_meet a b x p q = subst (λ y. same_name a y ≡ true) (equal_names a x p ∙ sym (equal_names b x q)) (name_itself a)

or_same : (t b c : Bool) → (if b then t || c else c) ≡ ((t && b) || c)
or_same true true c = refl
or_same true false c = refl
or_same false true c = refl
or_same false false c = refl

pub bodied_at : (k : Heading) (ks : List Heading) (x : List ℕ) → has_bodied (k ∷ ks) x ≡ ((same_name k.name x && k.has_body) || has_bodied ks x)
bodied_at k ks x = go k.has_body ∙ or_same (same_name k.name x) k.has_body (has_bodied ks x)
  where
    go : (b : Bool) → has_name (heading_names (if b then k ∷ bodies_of ks else bodies_of ks)) x ≡ (if b then same_name k.name x || has_bodied ks x else has_bodied ks x)
    go true = refl
    go false = refl

bools : (a h b : Bool) → (not (a && h) && not (b && h)) ≡ not ((a || b) && h)
bools true true true = refl
bools true true false = refl
bools true false true = refl
bools true false false = refl
bools false true true = refl
bools false true false = refl
bools false false true = refl
bools false false false = refl

one_by_one : (s e jb hb b m : Bool) → (s ≡ true → e ≡ true) → m ≡ not (b && hb) → ((not s || (e && not (jb && hb))) && m) ≡ not (((s && jb) || b) && hb)
one_by_one false e jb hb b m f q = q
one_by_one true e jb hb b m f q = ap (λ e. (e && not (jb && hb)) && m) (f refl) ∙ ap (λ m. not (jb && hb) && m) q ∙ bools jb hb b

meant : (s e : Bool) → (not s || e) ≡ true → s ≡ true → e ≡ true
meant true e h q = h
meant false e h q = cc

-- beside those that agree with a heading, one that does stands but for bodies
all_agree : (k h : Heading) (ks : List Heading) → agree_with k ks ≡ true → same_name k.name h.name ≡ true → same_heading k h ≡ true → may_stand ks h ≡ not (has_bodied ks h.name && h.has_body)
all_agree k h [] a n e = refl
all_agree k h (j ∷ js) a n e =
    let b = both_true (not (same_name k.name j.name) || same_heading k j) (agree_with k js) a in
    one_by_one (same_name j.name h.name) (same_heading j h) j.has_body h.has_body (has_bodied js h.name) (may_stand js h)
    (λ q. agreed k j h (meant (same_name k.name j.name) (same_heading k j) b.0 (names_meet k.name j.name h.name n q)) e) (all_agree k h js b.1 n e)
    ∙ ap (λ b. not (b && h.has_body)) (sym (bodied_at j js h.name))

module _ (h k : Heading) (ks : List Heading) (a : agree_with k ks ≡ true) where
  first_stands : (e : Bool) → same_heading k h ≡ e → same_name k.name h.name ≡ true → ((e && not (k.has_body && h.has_body)) && may_stand ks h) ≡ (e && not ((k.has_body || has_bodied ks h.name) && h.has_body))
  first_stands true e n = ap (λ m. not (k.has_body && h.has_body) && m) (all_agree k h ks a n e) ∙ bools k.has_body h.has_body (has_bodied ks h.name)
  first_stands false e n = refl

  one_stands : (s : Bool) → same_name k.name h.name ≡ s → may_stand ks h ≡ beside (first_named ks h.name) (has_bodied ks h.name) h
      → ((not s || (same_heading k h && not (k.has_body && h.has_body))) && may_stand ks h) ≡ beside (if s then Some k else first_named ks h.name) ((s && k.has_body) || has_bodied ks h.name) h
  one_stands true n f = first_stands (same_heading k h) refl n
  one_stands false n f = f

-- so a heading may stand exactly where it may stand beside the first of its name
pub stands : (h : Heading) (ks : List Heading) → are_agreeing ks ≡ true → may_stand ks h ≡ beside (first_named ks h.name) (has_bodied ks h.name) h
stands h [] a = refl
stands h (k ∷ ks) a =
    let b = both_true (agree_with k ks) (are_agreeing ks) a in
    one_stands h k ks b.0 (same_name k.name h.name) refl (stands h ks b.1)
    ∙ ap (λ b. beside (first_named (k ∷ ks) h.name) b h) (sym (bodied_at k ks h.name))

stood : (s e b : Bool) → (not s || (e && b)) ≡ true → (not s || e) ≡ true
stood true e b h = (both_true e b h).0
stood false e b h = refl

and_true : (b : Bool) → b ≡ true → (b && true) ≡ true
and_true true h = refl
and_true false h = h

and_so : (a b : Bool) → a ≡ true → b ≡ true → (a && b) ≡ true
and_so true b p q = q
and_so false b p q = p

agree_more : (k h : Heading) (ks : List Heading) → agree_with k ks ≡ true → (not (same_name k.name h.name) || same_heading k h) ≡ true → agree_with k (ks ++ h ∷ []) ≡ true
agree_more k h [] a f = and_true (not (same_name k.name h.name) || same_heading k h) f
agree_more k h (j ∷ js) a f =
    let b = both_true (not (same_name k.name j.name) || same_heading k j) (agree_with k js) a in
    and_so (not (same_name k.name j.name) || same_heading k j) (agree_with k (js ++ h ∷ [])) b.0 (agree_more k h js b.1 f)

pub agreeing_more : (h : Heading) (ks : List Heading) → are_agreeing ks ≡ true → may_stand ks h ≡ true → are_agreeing (ks ++ h ∷ []) ≡ true
agreeing_more h [] a m = refl
agreeing_more h (k ∷ ks) a m =
    let b = both_true (not (same_name k.name h.name) || (same_heading k h && not (k.has_body && h.has_body))) (may_stand ks h) m in
    let d = both_true (agree_with k ks) (are_agreeing ks) a in
    and_so (agree_with k (ks ++ h ∷ [])) (are_agreeing (ks ++ h ∷ [])) (agree_more k h ks d.0 (stood (same_name k.name h.name) (same_heading k h) (not (k.has_body && h.has_body)) b.0)) (agreeing_more h ks d.1 b.1)
