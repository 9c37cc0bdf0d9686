-- Scopes that grow by a variable and shrink by one.
use Rattle.std.proofs.Common.{ℕ, zero, suc, ◌≡◌, List, [], ◌∷◌, ◌++◌, length, Option, Some, None, Bool, true, false, cond, refl, sym, ap, ◌∙◌, arith, append_assoc, append-nil}
use Rattle.std.specs.Prelude.{◌||◌, if◌then◌else◌, nat_le, drop}
use Rattle.std.specs.Str.{bytes_eq}
use Rattle.std.specs.Map.{update}
use Rattle.std.specs.BTreeMap.{BTreeMap}
use denote.Ref.{Bor}
use Rattle.type_rules.specs.Lookup.{same_name}
use Rattle.type_rules.specs.StatementRules.{has_seen, add}
use Rattle.type_rules.specs.StatementRules as rules
use Rattle.type_rules.specs.declared.judging.Seen.{Seen}
use Rattle.oc_cells.specs.declared.types.CType.{CType}
use Rattle.oc_cells.specs.declared.types.SlotType.{SlotType}
use Rattle.written_types.specs.Numbers.{get_at}
use Rattle.written_types.proofs.Numbering.{same_bytes, equal_names}
use Rattle.visible_variables.specs.declared.scope.Variable.{Variable}
use Rattle.visible_variables.specs.Seen.{seen_of, all_seen, later, last, Latest}
use Rattle.visible_variables.specs.Scopes.{Hidden}

pub last_push : (vs : List Variable) (v : Variable) (x : List ℕ) → last (vs ++ v ∷ []) x ≡ (if same_name v.name.now x then Some (length vs) else last vs x)
last_push [] v x = refl
last_push (u ∷ us) v x = ap (λ o. later o (if same_name u.name.now x then Some 0 else None)) (last_push us v x) ∙ go (same_name v.name.now x)
  where
    one_more : (u : Variable) (us : List Variable) → suc (length us) ≡ length (u ∷ us)
    one_more u us = omega arith

    go : (t : Bool) → later (if t then Some (length us) else last us x) (if same_name u.name.now x then Some 0 else None) ≡ (if t then Some (length (u ∷ us)) else last (u ∷ us) x)
    go true = ap (λ k. Some k) (one_more u us)
    go false = refl

module _ (old new : BTreeMap (Bor (List ℕ)) ℕ) (name : List ℕ) (w : Option ℕ) (told : (x : List ℕ) → get_at new x ≡ update bytes_eq (get_at old) name w x) where
  new_at : (x : List ℕ) → get_at new x ≡ cond (same_name name x) w (get_at old x)
  new_at x = told x ∙ ap (λ t. cond t w (get_at old x)) (same_bytes name x)

  -- a variable that is added is the last one of its name
  pub latest_added : (vs : List Variable) (v : Variable) → v.name.now ≡ name → w ≡ Some (length vs) → Latest old vs → Latest new (vs ++ v ∷ [])
  latest_added vs v n e h = record { at = λ x. new_at x ∙ go x (same_name name x) refl ∙ sym (last_push vs v x ∙ ap (λ n. if same_name n x then Some (length vs) else last vs x) n) }
    where
      go : (x : List ℕ) (t : Bool) → same_name name x ≡ t → cond t w (get_at old x) ≡ (if same_name name x then Some (length vs) else last vs x)
      go x true q = e ∙ ap (λ t. if t then Some (length vs) else last vs x) (sym q)
      go x false q = h.at x ∙ ap (λ t. if t then Some (length vs) else last vs x) (sym q)

  -- where the last variable goes, the one of its name that was the last before it is the last again
  pub latest_back : (vs : List Variable) (v : Variable) → v.name.now ≡ name → w ≡ last vs name → Latest old (vs ++ v ∷ []) → Latest new vs
  latest_back vs v n e h = record { at = λ x. new_at x ∙ go x (same_name name x) refl }
    where
      go : (x : List ℕ) (t : Bool) → same_name name x ≡ t → cond t w (get_at old x) ≡ last vs x
      go x true q = e ∙ ap (λ y. last vs y) (equal_names name x q)
      go x false q = h.at x ∙ last_push vs v x ∙ ap (λ n. if same_name n x then Some (length vs) else last vs x) n ∙ ap (λ t. if t then Some (length vs) else last vs x) q

pub hidden_added : (before vs : List Variable) (v : Variable) → Hidden before vs → v.hides ≡ last (before ++ vs) v.name.now → Hidden before (vs ++ v ∷ [])
hidden_added before [] v h e = (e ∙ ap (λ us. last us v.name.now) (append-nil before), tt)
hidden_added before (u ∷ us) v h e = (h.0, hidden_added (before ++ u ∷ []) us v h.1 (e ∙ ap (λ us. last us v.name.now) (sym (append_assoc before (u ∷ []) us))))

pub hidden_back : (before vs : List Variable) (v : Variable) → Hidden before (vs ++ v ∷ []) → Hidden before vs × (v.hides ≡ last (before ++ vs) v.name.now)
hidden_back before [] v h = (tt, h.0 ∙ ap (λ us. last us v.name.now) (sym (append-nil before)))
hidden_back before (u ∷ us) v h =
    let p = hidden_back (before ++ u ∷ []) us v h.1 in
    ((h.0, p.0), p.1 ∙ ap (λ us. last us v.name.now) (append_assoc before (u ∷ []) us))

pub seen_added : (vs : List Variable) (v : Variable) → all_seen (vs ++ v ∷ []) ≡ all_seen vs ++ seen_of v ∷ []
seen_added [] v = refl
seen_added (u ∷ us) v = ap (λ ss. seen_of u ∷ ss) (seen_added us v)

pub seen_length : (vs : List Variable) → length (all_seen vs) ≡ length vs
seen_length [] = refl
seen_length (v ∷ vs) = omega (arith, seen_length vs)

-- whether a number that is there is at least another
abbrev pub from : Option ℕ → ℕ → Bool
from None n = false
from (Some i) n = nat_le n i

le_zero : (i : ℕ) → nat_le 0 i ≡ true
le_zero i = grind arith

le_more : (n i : ℕ) → nat_le (suc n) (suc i) ≡ nat_le n i
le_more n i = grind arith

le_none : (n : ℕ) → nat_le (suc n) 0 ≡ false
le_none n = grind arith

-- a name is among the variables from a number on exactly where the last variable of the name has no lower number
pub taken_last : (n : ℕ) (vs : List Variable) (x : List ℕ) → has_seen (drop n (all_seen vs)) x ≡ from (last vs x) n
taken_last zero [] x = refl
taken_last (suc n) [] x = refl
taken_last zero (v ∷ vs) x = go (last vs x) (taken_last zero vs x) (same_name v.name.now x)
  where
    go : (o : Option ℕ) → has_seen (all_seen vs) x ≡ from o 0 → (t : Bool) → (t || has_seen (all_seen vs) x) ≡ from (later o (if t then Some 0 else None)) 0
    go (Some i) k true = sym (le_zero (suc i))
    go (Some i) k false = k ∙ le_zero i ∙ sym (le_zero (suc i))
    go None k true = sym (le_zero 0)
    go None k false = k
taken_last (suc n) (v ∷ vs) x = go (last vs x) (taken_last n vs x) (same_name v.name.now x)
  where
    go : (o : Option ℕ) → has_seen (drop n (all_seen vs)) x ≡ from o n → (t : Bool) → has_seen (drop n (all_seen vs)) x ≡ from (later o (if t then Some 0 else None)) (suc n)
    go (Some i) k t = k ∙ sym (le_more n i)
    go None k true = k ∙ sym (le_none n)
    go None k false = k

-- a scope of these parts
abbrev pub made : List Seen → List SlotType → ℕ → rules.Scope
made seen slots outer = record { seen = seen; slots = slots; outer = outer }

-- two scopes are the same
abbrev Equal : rules.Scope → rules.Scope → Type 0
Equal a b = a ≡ b

-- a scope with one variable more is what the rules add
pub scope_added : (old new : List Variable) (slots more : List SlotType) (outer : ℕ) (v : Variable) (name : List ℕ) (ty t : CType) (frozen : Bool) → new ≡ old ++ v ∷ [] → more ≡ slots ++ record { ty = t; frozen = frozen } ∷ [] → t ≡ ty → v.name.now ≡ name → v.slot ≡ length slots → v.ty ≡ ty → Equal (record { seen = all_seen new; slots = more; outer = outer }) (add name ty frozen (record { seen = all_seen old; slots = slots; outer = outer }))
scope_added old new slots more outer v name ty t frozen e f g n s u =
    let q : seen_of v ≡ record { name = name; slot = length slots; ty = ty } = cc in
    ap (λ vs. made (all_seen vs) more outer) e ∙ ap (λ ss. made ss more outer) (seen_added old v) ∙ ap (λ x. made (all_seen old ++ x ∷ []) more outer) q
    ∙ ap (λ ss. made (all_seen old ++ record { name = name; slot = length slots; ty = ty } ∷ []) ss outer) (f ∙ ap (λ t. slots ++ record { ty = t; frozen = frozen } ∷ []) g)
