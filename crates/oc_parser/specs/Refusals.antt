-- Refusals: where tokens are refused, and by which rule.
use Rattle.std.specs.Prelude.{◌≡◌, ℕ, suc, ◌<◌, ◌≤◌, List, ◌++◌, length, take}
use Rattle.oc_source.specs.declared.spot.Spot.{Spot}
use Rattle.oc_lexer.specs.declared.token.Lexed.{Lexed}
use Rattle.oc_grammar.specs.Headings.{Derives}
use Rattle.oc_parser.specs.declared.faults.ParseRule.{ParseRule}
use Rattle.oc_parser.specs.declared.faults.ParseRule.TheVariants.{G1, G2}
use Rattle.oc_parser.specs.declared.faults.ParseFault.{ParseFault}
use Rattle.oc_parser.specs.declared.faults.ParseFault.TheVariants.{Refused, NoMemory}
use Rattle.oc_parser.specs.Places.{place_spot}
use Rattle.oc_parser.specs.Load.{IsLight, HeavyAt}

-- A form says which lists spell a value.
module _ {X A : Type 0} (form : A → List X → Type 0) where
  -- the first n tokens begin a spelling
  abbrev pub Begins : List X → ℕ → Type 0
  Begins ts n = (v : A) × (ys : List X) × form v (take n ts ++ ys)

  -- p is the least place such that no spelling begins with tokens 0 to p, or the end of a list that only begins one
  pub record IsFault (ts : List X) (p : ℕ) : Type 0 where
    pub within : p ≤ length ts
    pub before : (q : ℕ) → q < p → Begins ts (suc q)
    pub there : p < length ts → Begins ts (suc p) → ⊥
    pub at_end : p ≡ length ts → Begins ts p × ((v : A) → form v ts → ⊥)

-- the tokens are refused by this rule at this spot: G2 at the first load over 1,000, and where there is none G1 at
-- the first token that no program goes on with, or at the end
abbrev pub HasNoTree : Lexed → ParseRule → Spot → Type 0
HasNoTree lexed G1 spot = IsLight lexed.tokens ×
    ((p : ℕ) × IsFault Derives lexed.tokens p × (spot ≡ place_spot lexed.end lexed.tokens p))
HasNoTree lexed G2 spot = (p : ℕ) × HeavyAt lexed.tokens p × (spot ≡ place_spot lexed.end lexed.tokens p)

-- a fact of the rule and the spot of a refusal; want of memory says nothing
abbrev pub IfRefused : ParseFault → (ParseRule → Spot → Type 0) → Type 0
IfRefused (Refused rule spot) P = P rule spot
IfRefused NoMemory P = Unit {0}
