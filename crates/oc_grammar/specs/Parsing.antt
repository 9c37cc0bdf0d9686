-- Parsing: how a form is read from the front of a list of tokens, and where that fails.
use Rattle.std.specs.Prelude.{◌≡◌, List, [], ◌∷◌, ◌++◌}

-- The same token comes next, or both lists end.
abbrev pub SameNext : {X : Type 0} → List X → List X → Type 0
SameNext [] us = us ≡ []
SameNext {X} (t ∷ ts) us = (more : List X) × (us ≡ t ∷ more)

-- A form says which lists of tokens spell a value. `stop w zs` says that a `w` before the tokens `zs` does not go on with them.
module _ {X A : Type 0} (form stop : A → List X → Type 0) (ts : List X) where
  -- The tokens begin with a spelling of `v`, and whatever follows the next token, they begin with no other.
  pub record Found (v : A) (rest : List X) : Type 0 where
    pub front : List X
    pub whole : ts ≡ front ++ rest
    pub derives : form v front
    pub only : (us xs zs : List X) (w : A) →
        SameNext rest us → form w xs → stop w zs → front ++ us ≡ xs ++ zs → (w ≡ v) × (zs ≡ us)

  -- The tokens before `rest` begin a spelling, and with the next token they begin none.
  pub record Refused (rest : List X) : Type 0 where
    pub front : List X
    pub whole : ts ≡ front ++ rest
    pub closes : (v : A) × (close : List X) × form v (front ++ close)
    pub none : (us xs zs : List X) (w : A) →
        SameNext rest us → form w xs → stop w zs → front ++ us ≡ xs ++ zs → ⊥

  -- Up to `rest` the form is read, and the form `left` is left of it, whatever follows the next token.
  pub record Leaves (left : A → List X → Type 0) (rest : List X) : Type 0 where
    pub front : List X
    pub whole : ts ≡ front ++ rest
    pub derives : (v : A) (ys : List X) → left v ys → form v (front ++ ys)
    pub only : (us xs zs : List X) (w : A) →
        SameNext rest us → form w xs → stop w zs → front ++ us ≡ xs ++ zs →
        (ys : List X) × left w ys × (us ≡ ys ++ zs)

-- nothing is gone on with
abbrev pub Any : {X A : Type 0} → A → List X → Type 0
Any w zs = Unit {0}

-- The value is `v`, and no token is left.
pub data End {X A : Type 0} (v : A) : A → List X → Type 0 where
  ended : End v v []

-- First a form `F`, and after a value `w` of it the form `next w`.
pub data Then {X A B : Type 0} (F : B → List X → Type 0) (next : B → A → List X → Type 0) : A → List X → Type 0 where
  then : {w : B} {v : A} {xs zs : List X} → F w xs → next w v zs → Then F next v (xs ++ zs)

-- a form by its first token
pub data By {X A : Type 0} (by : X → A → List X → Type 0) : A → List X → Type 0 where
  first : {t : X} {v : A} {ys : List X} → by t v ys → By by v (t ∷ ys)

-- the value `l` with no token, or a form by its first token
pub data Maybe {X A : Type 0} (by : X → A → List X → Type 0) (l : A) : A → List X → Type 0 where
  stays : Maybe by l l []
  goes : {t : X} {v : A} {ys : List X} → by t v ys → Maybe by l v (t ∷ ys)

-- Steps, each by its first token, that make the last value from the first.
pub data Loop {X S : Type 0} (step : S → X → S → List X → Type 0) : S → S → List X → Type 0 where
  at_last : {s : S} → Loop step s s []
  turn : {s m v : S} {t : X} {xs ys : List X} → step s t m xs → Loop step m v ys → Loop step s v (t ∷ (xs ++ ys))
