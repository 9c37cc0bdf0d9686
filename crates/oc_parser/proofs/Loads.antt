-- Loads of the tokens that are passed.
use Rattle.std.proofs.Common.{◌≡◌, ℕ, zero, suc, ◌<◌, ◌≤◌, List, [], ◌∷◌, ◌++◌, length, drop, slice_index, refl, ap, arith, lit≤, append_assoc, append-nil, length-append}
use Rattle.std.specs.List.{AllByRecursion}
use Rattle.std.proofs.lemmas.List.Elements.{All-from_recursion}
use Rattle.oc_source.specs.declared.spot.Spot.{Spot}
use Rattle.oc_lexer.specs.declared.token.Token.{Token}
use Rattle.oc_parser.specs.Load.{Stack, load, with_token, passed, effect_of, is_else_next, loads_after, loads, IsLight, HeavyAt}
use Rattle.oc_parser.specs.Places.{place_spot}

abbrev pub AllSmall : List ℕ → Type 0
AllSmall = AllByRecursion (λ n. n ≤ 1000)

small_push : (xs : List ℕ) (x : ℕ) → AllSmall xs → x ≤ 1000 → AllSmall (xs ++ x ∷ [])
small_push [] x h le = (le, tt)
small_push (y ∷ xs) x h le = (h.0, small_push xs x h.1 le)

pub small_at : (xs : List ℕ) (k : ℕ) → AllSmall xs → slice_index xs k ≤ 1000
small_at [] k h = lit≤ tt
small_at (x ∷ xs) zero h = h.0
small_at (x ∷ xs) (suc k) h = small_at xs k h.1

small_before : (xs ys : List ℕ) (k : ℕ) → AllSmall xs → k < length xs → slice_index (xs ++ ys) k ≤ 1000
small_before [] ys k h lt = absurd (omega arith)
small_before (x ∷ xs) ys zero h lt = h.0
small_before (x ∷ xs) ys (suc k) h lt = small_before xs ys k h.1 (omega arith)

index_at : (xs ys : List ℕ) (y : ℕ) → slice_index (xs ++ y ∷ ys) (length xs) ≡ y
index_at [] ys y = refl
index_at (x ∷ xs) ys y = index_at xs ys y

pub drop_front : {X : Type 0} (xs ys : List X) → drop (length xs) (xs ++ ys) ≡ ys
drop_front [] ys = refl
drop_front (x ∷ xs) ys = drop_front xs ys

-- after the tokens `front`, whose loads are not too large, with this stack
pub record Passed (ts : List Token) (s : Stack) (rest : List Token) : Type 0 where
  pub front : List Token
  pub light : List ℕ
  pub whole : ts ≡ front ++ rest
  pub loads : loads ts ≡ light ++ loads_after s rest
  pub same : length light ≡ length front
  pub small : AllSmall light

module _ {ts : List Token} {s : Stack} where
  pub pass : {t : Token} {rest : List Token} → Passed ts s (t ∷ rest) → load (with_token s) ≤ 1000 → Passed ts (passed (effect_of t.kind) (is_else_next rest) (with_token s)) rest
  pass {t} {rest} p h = record {
    front = p.front ++ t ∷ [];
    light = p.light ++ load (with_token s) ∷ [];
    whole = rw append_assoc p.whole;
    loads = rw append_assoc p.loads;
    same = omega (arith, p.same, length-append p.front (t ∷ []), length-append p.light (load (with_token s) ∷ []));
    small = small_push p.light (load (with_token s)) p.small h;
  }

  pub heavy : {t : Token} {rest : List Token} → Passed ts s (t ∷ rest) → 1000 < load (with_token s) → (p : ℕ) × HeavyAt ts p × ((end : Spot) → t.spot ≡ place_spot end ts p)
  heavy {t} {rest} p h = (
    length p.light,
    record {
      within = omega (arith, ap length p.whole, p.same, length-append p.front (t ∷ rest));
      heavy = rw (p.loads, index_at) h;
      before = λ q lt. rw p.loads (small_before p.light _ q p.small lt);
    },
    λ end. rw (p.whole, p.same, drop_front) refl,
  )

  pub light : Passed ts s [] → IsLight ts
  light p = All-from_recursion (λ n. n ≤ 1000) (loads ts) (rw (p.loads, append-nil) p.small)
