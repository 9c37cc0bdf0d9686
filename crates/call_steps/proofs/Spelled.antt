-- The call of a name is the one whose text it is.
use Rattle.std.proofs.Common.{ℕ, ◌≡◌, List, [], ◌∷◌, Some, nat_eq, refl, ap, ◌∙◌, arith}
use Rattle.std.specs.Prelude.{◌&&◌, if◌then◌else◌}
use Rattle.std.specs.Str.{bytes_eq}
use Rattle.type_rules.specs.declared.judging.OwnCall.{OwnCall}
use Rattle.type_rules.specs.Lookup.{same_name}
use Rattle.type_rules.specs.Calls.{own_calls, own_call_in, own_call}
use Rattle.call_steps.specs.OwnCalls.{call_text, named_calls, find_call}

same_either_way : (m n : ℕ) → nat_eq m n ≡ nat_eq n m
same_either_way m n = grind arith

pub bytes_same : (a b : List ℕ) → bytes_eq a b ≡ same_name b a
bytes_same [] [] = refl
bytes_same [] (c ∷ cs) = refl
bytes_same (b ∷ bs) [] = refl
bytes_same (b ∷ bs) (c ∷ cs) = ap (λ z. z && bytes_eq bs cs) (same_either_way b c) ∙ ap (λ z. nat_eq c b && z) (bytes_same bs cs)

-- calls with their texts
abbrev paired : List OwnCall → List (List ℕ × OwnCall)
paired [] = []
paired (c ∷ cs) = (call_text c, c) ∷ paired cs

found_in : (cs : List OwnCall) (x : List ℕ) → find_call cs x ≡ own_call_in (paired cs) x
found_in [] x = refl
found_in (c ∷ cs) x =
    ap (λ t. if t then Some c else find_call cs x) (bytes_same x (call_text c)) ∙ ap (λ o. if same_name (call_text c) x then Some c else o) (found_in cs x)

all_named : paired named_calls ≡ own_calls
all_named = refl

pub named_call : (x : List ℕ) → find_call named_calls x ≡ own_call x
named_call x = found_in named_calls x ∙ ap (λ cs. own_call_in cs x) all_named
