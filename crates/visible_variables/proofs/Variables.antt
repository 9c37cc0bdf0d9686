-- Variables by their numbers.
use Rattle.std.proofs.Common.{ℕ, ◌≡◌, List, [], ◌∷◌, Option, Some, None, Bool, true, false, refl, sym, ap, ◌∙◌}
use Rattle.std.specs.Prelude.{if◌then◌else◌, slice_get}
use Rattle.std.specs.Option.{option_map}
use Rattle.type_rules.specs.declared.judging.Seen.{Seen}
use Rattle.type_rules.specs.Lookup.{same_name, find, or_else}
use Rattle.visible_variables.specs.declared.scope.Variable.{Variable}
use Rattle.visible_variables.specs.Seen.{seen_of, all_seen, later, last}

-- what a list has at a number, if there is one
abbrev pub seen_at : List Variable → Option ℕ → Option Seen
seen_at vs None = None
seen_at vs (Some i) = option_map seen_of (slice_get vs i)

-- what a list has at a number, if there is one
abbrev pub var_at : List Variable → Option ℕ → Option Variable
var_at vs None = None
var_at vs (Some i) = slice_get vs i

-- a number that is there is that of a variable
abbrev pub Within : List Variable → Option ℕ → Type 0
Within vs None = Unit {0}
Within vs (Some i) = (w : Variable) × (slice_get vs i ≡ Some w)

pub last_within : (vs : List Variable) (x : List ℕ) → Within vs (last vs x)
last_within [] x = tt
last_within (v ∷ vs) x = go (last vs x) (last_within vs x) (same_name v.name.now x)
  where
    go : (o : Option ℕ) → Within vs o → (t : Bool) → Within (v ∷ vs) (later o (if t then Some 0 else None))
    go (Some i) h t = h
    go None h true = (v, refl)
    go None h false = tt

some_else : (o : Option Variable) (p : Option Seen) (w : Variable) → o ≡ Some w → or_else (option_map seen_of o) p ≡ option_map seen_of o
some_else o p w h = ap (λ o. or_else (option_map seen_of o) p) h ∙ ap (λ o. option_map seen_of o) (sym h)

pub found_last : (vs : List Variable) (x : List ℕ) → find (all_seen vs) x ≡ seen_at vs (last vs x)
found_last [] x = refl
found_last (v ∷ vs) x = go (last vs x) (last_within vs x) (found_last vs x) (same_name v.name.now x)
  where
    go : (o : Option ℕ) → Within vs o → find (all_seen vs) x ≡ seen_at vs o → (t : Bool) → or_else (find (all_seen vs) x) (if t then Some (seen_of v) else None) ≡ seen_at (v ∷ vs) (later o (if t then Some 0 else None))
    go (Some i) w h t = ap (λ q. or_else q (if t then Some (seen_of v) else None)) h ∙ some_else (slice_get vs i) (if t then Some (seen_of v) else None) w.0 w.1
    go None w h true = ap (λ q. or_else q (Some (seen_of v))) h
    go None w h false = ap (λ q. or_else q None) h
