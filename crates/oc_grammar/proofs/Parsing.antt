-- How the steps of a reading call compose.
use Rattle.std.proofs.Common.{◌≡◌, List, [], ◌∷◌, ◌++◌, refl, sym, ◌∙◌, ap, append_assoc, append-nil, subst}
use Rattle.oc_grammar.specs.Parsing.{SameNext, Found, Refused, Leaves, Any, End, ended, Then, then, By, first, Maybe, stays, goes, Loop, at_last, turn}

same_append : {X : Type 0} (front rest us : List X) → SameNext rest us → SameNext (front ++ rest) (front ++ us)
same_append [] rest us a = a
same_append (t ∷ front) rest us a = (front ++ us, refl)

-- the next token is the first of what is left
pub same_token : {X : Type 0} (t u : X) (rest more us : List X) → rest ≡ t ∷ more → SameNext rest (u ∷ us) → u ≡ t
same_token t u rest more us is a = let b = subst (λ rest. SameNext rest (u ∷ us)) is a in go b.0 b.1
  where
    go : (m : List _) → u ∷ us ≡ t ∷ m → u ≡ t
    go m e = cc

-- at the end no token is next
pub no_token : {X : Type 0} (u : X) (rest us : List X) → rest ≡ [] → SameNext rest (u ∷ us) → ⊥
no_token u rest us is a = let b : u ∷ us ≡ [] = subst (λ rest. SameNext rest (u ∷ us)) is a in cc

unthen : {X A B : Type 0} {F : B → List X → Type 0} {next : B → A → List X → Type 0} {v : A} {ys : List X} → Then F next v ys → (w : B) × (xs zs : List X) × F w xs × next w v zs × (ys ≡ xs ++ zs)
unthen (then {w} {v} {xs} {zs} d q) = (w, xs, zs, d, q, refl)

-- What may stand after a part: where the whole stops the part does, and there is something that may stand there.
pub record Goes {X A B : Type 0} (stopF : B → List X → Type 0) (stop : A → List X → Type 0) (next : B → A → List X → Type 0) : Type 0 where
  pub follow : (b : B) (v : A) (ys zs : List X) → next b v ys → stop v zs → stopF b (ys ++ zs)
  pub closes : (b : B) → (v : A) × (ys : List X) × next b v ys

-- after a part that is never gone on with
pub sure : {X A B : Type 0} {stop : A → List X → Type 0} {next : B → A → List X → Type 0} → ((b : B) → (v : A) × (ys : List X) × next b v ys) → Goes Any stop next
sure closes = record { follow = λ b v ys zs n s. tt; closes = closes }

-- nothing is read yet
pub start : {X A : Type 0} (form stop : A → List X → Type 0) (ts : List X) → Leaves form stop ts form ts
start form stop ts = record {
  front = [];
  whole = refl;
  derives = λ v ys h. h;
  only = λ us xs zs w a f s e. (xs, f, e);
}

module _ {X A : Type 0} {form stop : A → List X → Type 0} {ts : List X} where
  -- what is left, said otherwise where the next token is that of `rest`
  pub also : {F G : A → List X → Type 0} {rest : List X} → Leaves form stop ts F rest →
      ((v : A) (ys : List X) → G v ys → F v ys) →
      ((v : A) (us ys zs : List X) → SameNext rest us → F v ys → stop v zs → us ≡ ys ++ zs → G v ys) →
      Leaves form stop ts G rest
  also l into out = record {
    front = l.front;
    whole = l.whole;
    derives = λ v ys h. l.derives v ys (into v ys h);
    only = λ us xs zs w a f s e.
        let p = l.only us xs zs w a f s e in
        (p.0, out w us p.0 zs a p.1 s p.2, p.2);
  }

  -- what is left, said otherwise
  pub turned : {F G : A → List X → Type 0} {rest : List X} → Leaves form stop ts F rest → ((v : A) (ys : List X) → G v ys → F v ys) → ((v : A) (ys : List X) → F v ys → G v ys) → Leaves form stop ts G rest
  turned l into out = also l into (λ v us ys zs a f s e. out v ys f)

  module _ {B : Type 0} {F stopF : B → List X → Type 0} {next : B → A → List X → Type 0} {rest rest' : List X} (l : Leaves form stop ts (Then F next) rest) where
    -- a call has read its form, with which what is left began
    pub read : {w : B} → Found F stopF rest w rest' → Goes stopF stop next → Leaves form stop ts (next w) rest'
    read {w} f g = record {
      front = l.front ++ f.front;
      whole = rw (append_assoc, ← f.whole) l.whole;
      derives = λ v ys h. rw append_assoc (l.derives v (f.front ++ ys) (then f.derives h));
      only = λ us xs zs v a d s e.
          let p = l.only (f.front ++ us) xs zs v (rw f.whole (same_append f.front rest' us a)) d s (rw (← append_assoc) e) in
          let (b, xs', zs', fb, nb, e') = unthen p.1 in
          let q = f.only us xs' (zs' ++ zs) b a fb (g.follow b v zs' zs nb s) (p.2 ∙ ap (λ y. y ++ zs) e' ∙ append_assoc xs' zs' zs) in
          (zs', subst (λ b. next b v zs') q.0 nb, sym q.1);
    }

    -- a call has failed
    pub fails : Refused F stopF rest rest' → Goes stopF stop next → Refused form stop ts rest'
    fails f g = record {
      front = l.front ++ f.front;
      whole = rw (append_assoc, ← f.whole) l.whole;
      closes =
          let (b, close, d) = f.closes in
          let (v, ys, n) = g.closes b in
          (v, close ++ ys, rw (append_assoc, ← append_assoc f.front close ys) (l.derives v ((f.front ++ close) ++ ys) (then d n)));
      none = λ us xs zs v a d s e.
          let p = l.only (f.front ++ us) xs zs v (rw f.whole (same_append f.front rest' us a)) d s (rw (← append_assoc) e) in
          let (b, xs', zs', fb, nb, e') = unthen p.1 in
          f.none us xs' (zs' ++ zs) b a fb (g.follow b v zs' zs nb s) (p.2 ∙ ap (λ y. y ++ zs) e' ∙ append_assoc xs' zs' zs);
    }

  -- all is read
  pub ends : {v : A} {rest : List X} → Leaves form stop ts (End v) rest → Found form stop ts v rest
  ends {v} {rest} l = record {
    front = l.front;
    whole = l.whole;
    derives = rw append-nil at (l.derives v [] ended);
    only = λ us xs zs w a f s e.
        let p = l.only us xs zs w a f s e in
        go w us p.0 zs p.1 p.2;
  }
    where
      go : (w : A) (us ys zs : List X) → End v w ys → us ≡ ys ++ zs → (w ≡ v) × (zs ≡ us)
      go w us _ zs ended e = (refl, sym e)

  -- no token that comes next begins what is left
  pub stuck : {left : A → List X → Type 0} {rest : List X} →
      Leaves form stop ts left rest →
      ((v : A) (us ys zs : List X) → SameNext rest us → left v ys → stop v zs → us ≡ ys ++ zs → ⊥) →
      ((v : A) × (ys : List X) × left v ys) →
      Refused form stop ts rest
  stuck l out w = record {
    front = l.front;
    whole = l.whole;
    closes = (w.0, w.1, l.derives w.0 w.1 w.2);
    none = λ us xs zs w a f s e.
        let p = l.only us xs zs w a f s e in
        out w us p.0 zs a p.1 s p.2;
  }

  module _ {by : X → A → List X → Type 0} where
    -- a token begins what is left, and is taken
    pub token : {t : X} {rest rest' : List X} → Leaves form stop ts (By by) rest → rest ≡ t ∷ rest' → Leaves form stop ts (by t) rest'
    token {t} {rest} {rest'} l is = record {
      front = l.front ++ t ∷ [];
      whole = rw (append_assoc, ← is) l.whole;
      derives = λ v ys h. rw append_assoc (l.derives v (t ∷ ys) (first h));
      only = λ us xs zs w a f s e.
          let p = l.only (t ∷ us) xs zs w (rw is (us, refl)) f s (sym (append_assoc l.front (t ∷ []) us) ∙ e) in
          go w us p.0 zs p.1 p.2;
    }
      where
        go : (w : A) (us ys zs : List X) → By by w ys → t ∷ us ≡ ys ++ zs → (ys' : List X) × by t w ys' × (us ≡ ys' ++ zs)
        go w us _ zs (first {t = u} {ys = ys} b) e = let h : t ≡ u = cc in let g : us ≡ ys ++ zs = cc in (ys, subst (λ u. by u w ys) (sym h) b, g)

    -- the same, where the value l would not stop before the token
    pub token_on : {l : A} {t : X} {rest rest' : List X} → Leaves form stop ts (Maybe by l) rest → rest ≡ t ∷ rest' → ((zs : List X) → stop l (t ∷ zs) → ⊥) → Leaves form stop ts (by t) rest'
    token_on {l = v0} {t} {rest} {rest'} l is goes_on = record {
      front = l.front ++ t ∷ [];
      whole = rw (append_assoc, ← is) l.whole;
      derives = λ v ys h. rw append_assoc (l.derives v (t ∷ ys) (goes h));
      only = λ us xs zs w a f s e.
          let p = l.only (t ∷ us) xs zs w (rw is (us, refl)) f s (sym (append_assoc l.front (t ∷ []) us) ∙ e) in
          go w us p.0 zs p.1 s p.2;
    }
      where
        go : (w : A) (us ys zs : List X) → Maybe by v0 w ys → stop w zs → t ∷ us ≡ ys ++ zs → (ys' : List X) × by t w ys' × (us ≡ ys' ++ zs)
        go w us _ zs stays s e = absurd (goes_on us (subst (λ zs. stop v0 zs) (sym e) s))
        go w us _ zs (goes {t = u} {ys = ys} b) s e = let h : t ≡ u = cc in let g : us ≡ ys ++ zs = cc in (ys, subst (λ u. by u w ys) (sym h) b, g)

    -- the value l stands alone, since what comes next does not begin a further part
    pub alone : {l : A} {rest : List X} → Leaves form stop ts (Maybe by l) rest → ((t : X) (us : List X) (v : A) (ys : List X) → SameNext rest (t ∷ us) → by t v ys → ⊥) → Found form stop ts l rest
    alone {l = v0} {rest} l out = ends (also l into (λ v us ys zs a m s e. go v us ys zs a m e))
      where
        into : (v : A) (ys : List X) → End v0 v ys → Maybe by v0 v ys
        into v _ ended = stays

        go : (v : A) (us ys zs : List X) → SameNext rest us → Maybe by v0 v ys → us ≡ ys ++ zs → End v0 v ys
        go v us _ zs a stays e = ended
        go v us _ zs a (goes {t = y} {ys = ys} m) e = absurd (out y (ys ++ zs) v ys (subst (λ us. SameNext rest us) e a) m)

    -- a token was to come, and none that may comes
    pub stuck_by : {rest : List X} → Leaves form stop ts (By by) rest → ((t : X) (us : List X) (v : A) (ys : List X) → SameNext rest (t ∷ us) → by t v ys → ⊥) → ((v : A) × (ys : List X) × By by v ys) → Refused form stop ts rest
    stuck_by {rest} l out w = stuck l (λ v us ys zs a b s e. go v us ys zs a b e) w
      where
        go : (v : A) (us ys zs : List X) → SameNext rest us → By by v ys → us ≡ ys ++ zs → ⊥
        go v us _ zs a (first {t = y} {ys = ys} m) e = out y (ys ++ zs) v ys (subst (λ us. SameNext rest us) e a) m

-- the last call reads all that is left, and stops where the whole does
module _ {X A : Type 0} {form stop left : A → List X → Type 0} {ts rest rest' : List X} (l : Leaves form stop ts left rest) where
  pub through : {v : A} → Found left stop rest v rest' → Found form stop ts v rest'
  through {v} f = record {
    front = l.front ++ f.front;
    whole = rw (append_assoc, ← f.whole) l.whole;
    derives = l.derives v f.front f.derives;
    only = λ us xs zs w a d s e.
        let p = l.only (f.front ++ us) xs zs w (rw f.whole (same_append f.front rest' us a)) d s (sym (append_assoc l.front f.front us) ∙ e) in
        f.only us p.0 zs w a p.1 s p.2;
  }

  pub through_fails : Refused left stop rest rest' → Refused form stop ts rest'
  through_fails f = record {
    front = l.front ++ f.front;
    whole = rw (append_assoc, ← f.whole) l.whole;
    closes = let (v, close, d) = f.closes in (v, close, rw append_assoc (l.derives v (f.front ++ close) d));
    none = λ us xs zs w a d s e.
        let p = l.only (f.front ++ us) xs zs w (rw f.whole (same_append f.front rest' us a)) d s (sym (append_assoc l.front f.front us) ∙ e) in
        f.none us p.0 zs w a p.1 s p.2;
  }

-- ---- loops

module _ {X S : Type 0} {step : S → X → S → List X → Type 0} where
  -- one turn
  pub loop_split : {s : S} (v : S) (ys : List X) → Loop step s v ys → Maybe (λ t. Then (step s t) (λ m. Loop step m)) s v ys
  loop_split v _ at_last = stays
  loop_split v _ (turn d q) = goes (then d q)

  pub loop_join : {s : S} (v : S) (ys : List X) → Maybe (λ t. Then (step s t) (λ m. Loop step m)) s v ys → Loop step s v ys
  loop_join v _ stays = at_last
  loop_join v _ (goes (then d q)) = turn d q

  -- one more turn at the end
  pub loop_snoc : {s v w : S} {t : X} {xs ys : List X} → Loop step s v ys → step v t w xs → Loop step s w (ys ++ t ∷ xs)
  loop_snoc {s} {w = w} {t = t} {xs = xs} at_last d = let h : Loop step s w (t ∷ (xs ++ [])) = turn d at_last in rw append-nil at h
  loop_snoc {t = t} {xs = xs} (turn {xs = a} {ys = b} d q) e = rw (append_assoc a b (t ∷ xs)) (turn d (loop_snoc q e))

  module _ {form stop : S → List X → Type 0} {ts rest : List X} {s : S} (l : Leaves form stop ts (Loop step s) rest) where
    -- a further turn begins
    pub loop_on : {t : X} {rest' : List X} → rest ≡ t ∷ rest' → ((zs : List X) → stop s (t ∷ zs) → ⊥) → Leaves form stop ts (Then (step s t) (λ m. Loop step m)) rest'
    loop_on is goes_on = token_on (turned l loop_join loop_split) is goes_on

    -- no further turn begins
    pub loop_done : ((t : X) (us : List X) (m : S) (xs : List X) → SameNext rest (t ∷ us) → step s t m xs → ⊥) → Found form stop ts s rest
    loop_done out = alone (turned l loop_join loop_split) (λ t us v ys a q. go t us v ys a q)
      where
        go : (t : X) (us : List X) (v : S) (ys : List X) → SameNext rest (t ∷ us) → Then (step s t) (λ m. Loop step m) v ys → ⊥
        go t us v _ a (then {w = m} {xs = xs} d q) = out t us m xs a d

-- ---- what may stand after a part

-- some tokens spell the form
abbrev pub Closes : {X A : Type 0} → (A → List X → Type 0) → Type 0
Closes {X} {A} Q = (v : A) × (ys : List X) × Q v ys

pub close_end : {X A : Type 0} {v : A} → Closes {X = X} (End v)
close_end {v = v} = (v, [], ended)

pub close_then : {X A B : Type 0} {F : B → List X → Type 0} {next : B → A → List X → Type 0} (w : B) (xs : List X) → F w xs → Closes (next w) → Closes (Then F next)
close_then w xs d c = (c.0, xs ++ c.1, then d c.2)

-- nothing stands after it
pub after_end : {X A B : Type 0} {stopF : B → List X → Type 0} {stop : A → List X → Type 0} (mk : B → A) → ((b : B) (zs : List X) → stop (mk b) zs → stopF b zs) → Goes stopF stop (λ b. End (mk b))
after_end {X} {A} {B} {stopF} {stop} mk h = record { follow = λ b v ys zs e s. go b v ys zs e s; closes = λ b. close_end }
  where
    go : (b : B) (v : A) (ys zs : List X) → End (mk b) v ys → stop v zs → stopF b (ys ++ zs)
    go b v _ zs ended s = h b zs s

-- a further part stands after it
pub after_then : {X A B C : Type 0} {stopF : B → List X → Type 0} {stop : A → List X → Type 0} {F : C → List X → Type 0} {next : B → C → A → List X → Type 0} →
    ((b : B) (c : C) (xs zs : List X) → F c xs → stopF b (xs ++ zs)) → ((b : B) → Closes (Then F (next b))) → Goes stopF stop (λ b. Then F (next b))
after_then {X} {A} {B} {C} {stopF} {stop} {F} {next} h c = record { follow = λ b v ys zs q s. go b v ys zs q; closes = c }
  where
    go : (b : B) (v : A) (ys zs : List X) → Then F (next b) v ys → stopF b (ys ++ zs)
    go b v _ zs (then {w} {xs = xs} {zs = ys} d q) = rw append_assoc (h b w xs (ys ++ zs) d)

-- a form with nothing after it
pub then_end : {X A B : Type 0} {F : B → List X → Type 0} (mk : B → A) (w : B) (x : List X) → F w x → Then F (λ w. End (mk w)) (mk w) x
then_end {X} {A} {B} {F} mk w x d = let h : Then F (λ w. End (mk w)) (mk w) (x ++ []) = then d ended in rw append-nil at h

-- where a call stops sooner than it needs to
pub stricter : {X A : Type 0} {form stop stop' : A → List X → Type 0} {ts rest : List X} {v : A} → ((w : A) (zs : List X) → stop' w zs → stop w zs) → Found form stop ts v rest → Found form stop' ts v rest
stricter h f = record { front = f.front; whole = f.whole; derives = f.derives; only = λ us xs zs w a d s e. f.only us xs zs w a d (h w zs s) e }

pub stricter_fails : {X A : Type 0} {form stop stop' : A → List X → Type 0} {ts rest : List X} → ((w : A) (zs : List X) → stop' w zs → stop w zs) → Refused form stop ts rest → Refused form stop' ts rest
stricter_fails h f = record { front = f.front; whole = f.whole; closes = f.closes; none = λ us xs zs w a d s e. f.none us xs zs w a d (h w zs s) e }

pub maybe_of_by : {X A : Type 0} {by : X → A → List X → Type 0} {l v : A} {ys : List X} → By by v ys → Maybe by l v ys
maybe_of_by (first q) = goes q

-- ---- a form by its first token

module _ {X A : Type 0} {form stop : A → List X → Type 0} {by : X → A → List X → Type 0} {ts : List X} (l : Leaves form stop ts (By by) ts) where
  -- no token comes
  pub by_end : Closes (By by) → ts ≡ [] → Refused form stop ts ts
  by_end some is = stuck_by l (λ t us v ys a q. no_token t ts us is a) some

  -- a token comes with which the form doesn't begin
  pub by_none : {t : X} {rest : List X} → Closes (By by) → ts ≡ t ∷ rest → ((v : A) (ys : List X) → by t v ys → ⊥) → Refused form stop ts ts
  by_none {t} {rest} some is out = stuck_by l (λ t' us v ys a q. out v ys (subst (λ t. by t v ys) (same_token t t' ts rest us is a) q)) some

  -- a token comes with which it begins
  pub by_left : {t : X} {rest : List X} {F : A → List X → Type 0} → ts ≡ t ∷ rest → ((v : A) (ys : List X) → F v ys → by t v ys) → ((v : A) (ys : List X) → by t v ys → F v ys) → Leaves form stop ts F rest
  by_left is into out = turned (token l is) into out

pub end_is : {X A : Type 0} {v w : A} {ys : List X} → End v w ys → (w ≡ v) × (ys ≡ [])
end_is ended = (refl, refl)

-- a token is taken with which one of the forms that are left begins
pub taken : {X A : Type 0} {form stop F G : A → List X → Type 0} {ts rest rest' : List X} {t : X} → Leaves form stop ts G rest → rest ≡ t ∷ rest' →
    ((v : A) (ys : List X) → F v ys → G v (t ∷ ys)) →
    ((v : A) (us ys zs : List X) → G v ys → t ∷ us ≡ ys ++ zs → (xs : List X) × F v xs × (us ≡ xs ++ zs)) →
    Leaves form stop ts F rest'
taken {X} {A} {form} {stop} {F} {G} {ts} {rest} {rest'} {t} l is into out = record {
  front = l.front ++ t ∷ [];
  whole = rw (append_assoc, ← is) l.whole;
  derives = λ v ys h. rw append_assoc (l.derives v (t ∷ ys) (into v ys h));
  only = λ us xs zs w a f s e.
      let p = l.only (t ∷ us) xs zs w (rw is (us, refl)) f s (sym (append_assoc l.front (t ∷ []) us) ∙ e) in
      out w us p.0 zs p.1 p.2;
}
