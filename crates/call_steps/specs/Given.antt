-- What arguments give, as the rules see it.
use Rattle.std.specs.Prelude.{ℕ, ◌+◌, List, [], ◌∷◌, length, false, Ok, nat_lt}
use Rattle.oc_source.specs.declared.spot.Spot.{Spot}
use Rattle.oc_cells.specs.declared.types.CType.{Nothing}
use Rattle.type_rules.specs.declared.judging.TypeRule.TheVariants.{T9}
use Rattle.type_rules.specs.Judging.{Judged, next, needs}
use Rattle.type_rules.specs.Calls as rules
use Rattle.call_steps.specs.declared.given.NamedParty.{NamedParty}
use Rattle.call_steps.specs.declared.given.NamedParty.TheVariants.{Nobody, First, Second}
use Rattle.call_steps.specs.declared.given.Given.{Given}

-- the number of a party, or 0
abbrev pub party_number : NamedParty → ℕ
party_number Nobody = 0
party_number First = 1
party_number Second = 2

-- the numbers of parties together
abbrev pub parties_sum : List NamedParty → ℕ
parties_sum [] = 0
parties_sum (p ∷ ps) = party_number p + parties_sum ps

-- what arguments give, as the rules see it
abbrev pub given_of : Given → rules.Given
given_of a = record { args = a.args; party = parties_sum a.parties; of = a.of; misplaced = a.misplaced; count = length a.parties }

-- a party of this number that is named at a spot
abbrev pub named_given : Spot → ℕ → Judged rules.Given
named_given p n = next (needs p T9 (nat_lt 0 n)) (λ _. Ok (record { args = []; party = n; of = Nothing; misplaced = false; count = 1 }))
