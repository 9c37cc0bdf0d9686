-- Lists of visits at which each rule is kept.
use Rattle.std.proofs.Common.{◌≡◌, List, [], ◌∷◌, ◌++◌, refl, sym, Bool, true, false, Option, Some, None}
use Rattle.std.specs.Prelude.{not, ◌||◌, if◌then◌else◌}
use Rattle.std.proofs.lemmas.Bool.{false≢true}
use Rattle.std.proofs.lemmas.Option.{none-some}
use Rattle.scope_rules.specs.declared.rules.ScopeFault.{ScopeFault}
use Rattle.scope_rules.specs.FirstFault.{Visit, in_order, first_broken}

-- the rule is kept at each of these visits
abbrev pub AllKept : List Visit → Type 0
AllKept [] = Unit {0}
AllKept (v ∷ vs) = (v.kept ≡ true) × AllKept vs

pub join : (xs ys : List Visit) → AllKept xs → AllKept ys → AllKept (xs ++ ys)
join [] ys h i = i
join (x ∷ xs) ys h i = (h.0, join xs ys h.1 i)

pub front : (xs ys : List Visit) → AllKept (xs ++ ys) → AllKept xs
front [] ys h = tt
front (x ∷ xs) ys h = (h.0, front xs ys h.1)

pub back : (xs ys : List Visit) → AllKept (xs ++ ys) → AllKept ys
back [] ys h = h
back (x ∷ xs) ys h = back xs ys h.1

pub join3 : (xs ys zs : List Visit) → AllKept xs → AllKept ys → AllKept zs → AllKept (xs ++ ys ++ zs)
join3 xs ys zs h i j = join (xs ++ ys) zs (join xs ys h i) j

pub join4 : (xs ys zs ws : List Visit) → AllKept xs → AllKept ys → AllKept zs → AllKept ws → AllKept (xs ++ ys ++ zs ++ ws)
join4 xs ys zs ws h i j k = join (xs ++ ys ++ zs) ws (join3 xs ys zs h i j) k

-- the parts of three and of four lists
pub of3 : (xs ys zs : List Visit) → AllKept (xs ++ ys ++ zs) → AllKept xs × AllKept ys × AllKept zs
of3 xs ys zs h = (front xs ys (front (xs ++ ys) zs h), back xs ys (front (xs ++ ys) zs h), back (xs ++ ys) zs h)

pub of4 : (xs ys zs ws : List Visit) → AllKept (xs ++ ys ++ zs ++ ws) → AllKept xs × AllKept ys × AllKept zs × AllKept ws
of4 xs ys zs ws h = let k = of3 xs ys zs (front (xs ++ ys ++ zs) ws h) in (k.0, k.1, k.2, back (xs ++ ys ++ zs) ws h)

pub ordered : (b : Bool) (xs ys : List Visit) → AllKept xs → AllKept ys → AllKept (in_order b xs ys)
ordered true xs ys h i = join ys xs i h
ordered false xs ys h i = join xs ys h i

pub ordered_left : (b : Bool) (xs ys : List Visit) → AllKept (in_order b xs ys) → AllKept xs
ordered_left true xs ys h = back ys xs h
ordered_left false xs ys h = front xs ys h

pub ordered_right : (b : Bool) (xs ys : List Visit) → AllKept (in_order b xs ys) → AllKept ys
ordered_right true xs ys h = front ys xs h
ordered_right false xs ys h = back xs ys h

-- a test that fails is one whose denial holds
pub denied : (b : Bool) → b ≡ false → not b ≡ true
denied true h = sym h
denied false h = refl

pub fails : (b : Bool) → not b ≡ true → b ≡ false
fails true h = sym h
fails false h = refl

-- what has to hold in a hidden scope alone
pub if_hidden : (b m : Bool) → (b ≡ true → m ≡ true) → (not b || m) ≡ true
if_hidden true m h = h refl
if_hidden false m h = refl

pub where_hidden : (b m : Bool) → (not b || m) ≡ true → b ≡ true → m ≡ true
where_hidden true m h e = h
where_hidden false m h e = absurd (false≢true e)

-- no rule is broken first exactly where each is kept
passed : (b : Bool) (x y : Option ScopeFault) → b ≡ true → x ≡ None → (if b then x else y) ≡ None
passed true x y e h = h
passed false x y e h = absurd (false≢true e)

passes : (b : Bool) (x : Option ScopeFault) (f : ScopeFault) → (if b then x else Some f) ≡ None → (b ≡ true) × (x ≡ None)
passes true x f h = (refl, h)
passes false x f h = absurd (none-some f (sym h))

pub unbroken : (vs : List Visit) → AllKept vs → first_broken vs ≡ None
unbroken [] h = refl
unbroken (v ∷ vs) h = passed v.kept (first_broken vs) (Some (record { rule = v.rule; spot = v.spot })) h.0 (unbroken vs h.1)

pub all_kept : (vs : List Visit) → first_broken vs ≡ None → AllKept vs
all_kept [] h = tt
all_kept (v ∷ vs) h =
    let z = passes v.kept (first_broken vs) (record { rule = v.rule; spot = v.spot }) h in
    (z.0, all_kept vs z.1)
