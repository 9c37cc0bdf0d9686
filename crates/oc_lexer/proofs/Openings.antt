-- What the kind of a beginning tells of the first bytes.
use Rattle.std.proofs.Common.{◌≡◌, ℕ, ◌≤◌, Bool, true, false, cond, List, [], ◌∷◌, ◌++◌, length, take, drop, refl, ap, subst, ◌∙◌, arith, length-append}
use Rattle.std.specs.Prelude.{◌&&◌, nat_eq}
use Rattle.std.specs.List.{starts_with}
use Rattle.std.proofs.lemmas.Bool.Decides.{Decides-eqb}
use Rattle.std.proofs.lemmas.Slice.Eq.{starts_is}
use Rattle.oc_lexer.specs.declared.kinds.Kind.{Kind}
use Rattle.oc_lexer.specs.declared.kinds.Kind.TheVariants.{Blank, Word, Number, Character, Text, Directive, BlockComment, LineComment, Sign}
use Rattle.oc_lexer.specs.Bytes.{is_blank, is_name_start, is_digit, begins_with}
use Rattle.oc_lexer.specs.Kinds.{kind_at}

-- which of the tests passes
abbrev pub Told : Kind → (blank word number character text directive block line : Bool) → Type 0
Told Blank b1 b2 b3 b4 b5 b6 b7 b8 = b1 ≡ true
Told Word b1 b2 b3 b4 b5 b6 b7 b8 = b2 ≡ true
Told Number b1 b2 b3 b4 b5 b6 b7 b8 = b3 ≡ true
Told Character b1 b2 b3 b4 b5 b6 b7 b8 = b4 ≡ true
Told Text b1 b2 b3 b4 b5 b6 b7 b8 = b5 ≡ true
Told Directive b1 b2 b3 b4 b5 b6 b7 b8 = b6 ≡ true
Told BlockComment b1 b2 b3 b4 b5 b6 b7 b8 = b7 ≡ true
Told LineComment b1 b2 b3 b4 b5 b6 b7 b8 = b8 ≡ true
Told Sign b1 b2 b3 b4 b5 b6 b7 b8 = Unit {0}

told_by : (b1 b2 b3 b4 b5 b6 b7 b8 : Bool) → Told (cond b1 Blank (cond b2 Word (cond b3 Number (cond b4 Character (cond b5 Text (cond b6 Directive (cond b7 BlockComment (cond b8 LineComment Sign)))))))) b1 b2 b3 b4 b5 b6 b7 b8
told_by true b2 b3 b4 b5 b6 b7 b8 = refl
told_by false true b3 b4 b5 b6 b7 b8 = refl
told_by false false true b4 b5 b6 b7 b8 = refl
told_by false false false true b5 b6 b7 b8 = refl
told_by false false false false true b6 b7 b8 = refl
told_by false false false false false true b7 b8 = refl
told_by false false false false false false true b8 = refl
told_by false false false false false false false true = refl
told_by false false false false false false false false = tt

pub told : (is_fresh : Bool) (b : ℕ) (more : List ℕ) (k : Kind) → kind_at is_fresh (b ∷ more) ≡ k → Told k (is_blank b) (is_name_start b) (is_digit b) (nat_eq b 39) (nat_eq b 34) (nat_eq b 35 && is_fresh) (nat_eq b 47 && begins_with (λ c. nat_eq c 42) more) (nat_eq b 47 && begins_with (λ c. nat_eq c 47) more)
unfolding kind_at
told is_fresh b more k e =
    subst (λ (x : Kind). Told x (is_blank b) (is_name_start b) (is_digit b) (nat_eq b 39) (nat_eq b 34) (nat_eq b 35 && is_fresh) (nat_eq b 47 && begins_with (λ c. nat_eq c 42) more) (nat_eq b 47 && begins_with (λ c. nat_eq c 47) more)) e
    (told_by (is_blank b) (is_name_start b) (is_digit b) (nat_eq b 39) (nat_eq b 34) (nat_eq b 35 && is_fresh) (nat_eq b 47 && begins_with (λ c. nat_eq c 42) more) (nat_eq b 47 && begins_with (λ c. nat_eq c 47) more))

pub nothing_is_sign : (is_fresh : Bool) → kind_at is_fresh [] ≡ Sign
unfolding kind_at
nothing_is_sign is_fresh = refl

-- ---- fronts of texts

pub take_front : (text rest : List ℕ) → take (length text) (text ++ rest) ≡ text
take_front [] rest = refl
take_front (b ∷ bs) rest = ap (λ t. b ∷ t) (take_front bs rest)

pub drop_front : (text rest : List ℕ) → drop (length text) (text ++ rest) ≡ rest
drop_front [] rest = refl
drop_front (b ∷ bs) rest = drop_front bs rest

-- the first n bytes of a text, and the rest
pub record Split (n : ℕ) (text front rest : List ℕ) : Type 0 where
  pub front_is : take n text ≡ front
  pub rest_is : drop n text ≡ rest
  pub within : n ≤ length text

pub split_is : (n : ℕ) (text front rest : List ℕ) → text ≡ front ++ rest → n ≡ length front → Split n text front rest
split_is n text front rest whole size = record {
  front_is = ap (λ k. take k text) size ∙ ap (take (length front)) whole ∙ take_front front rest;
  rest_is = ap (λ k. drop k text) size ∙ ap (drop (length front)) whole ∙ drop_front front rest;
  within = let e = ap length whole ∙ length-append front rest in omega (arith, e, size);
}

pub starts_true : (text front : List ℕ) → starts_with nat_eq text front ≡ true → text ≡ front ++ drop (length front) text
starts_true text front h = (starts_is Decides-eqb text front (starts_with nat_eq text front) refl).0 h

pub starts_of : (text front rest : List ℕ) → text ≡ front ++ rest → starts_with nat_eq text front ≡ true
starts_of text front rest e = (starts_is Decides-eqb text front (starts_with nat_eq text front) refl).1 rest e
