-- Load: how deep the tokens of a source nest. A stack of entries counts the tokens of what is open: of each
-- block the statement that isn't finished, with the brackets that are open in it. The load of a token is the
-- sum of all counts.
use Rattle.std.specs.Prelude.{ℕ, ◌+◌, ◌-◌, ◌<◌, ◌≤◌, List, [], ◌∷◌, length, slice_index, Bool, true, false, nat_lt, ◌||◌}
use Rattle.std.specs.List.{All}
use Rattle.oc_lexer.specs.declared.token.Token.{Token}
use Rattle.oc_lexer.specs.declared.token.TokenKind.{TokenKind}
use Rattle.oc_lexer.specs.declared.token.TokenKind.TheVariants.{Keyword, Sign}
use Rattle.oc_lexer.specs.declared.token.Keyword.TheVariants as w
use Rattle.oc_lexer.specs.declared.token.Sign.TheVariants as s
use Rattle.oc_parser.specs.declared.entries.Entry.{Entry}
use Rattle.oc_parser.specs.declared.entries.Effect.{Effect}
use Rattle.oc_parser.specs.declared.entries.Effect.TheVariants as effect

-- the top entry, and those below it, the nearest one first
pub record Stack : Type 0 where
  pub top : Entry
  pub below : List Entry

-- an entry: how many tokens it counts, and how many brackets are open in it
abbrev pub entry : ℕ → ℕ → Entry
entry count opened = record { count = count; opened = opened }

-- a stack of this top entry and those below it
abbrev pub stack : Entry → List Entry → Stack
stack top below = record { top = top; below = below }

-- the sum of the counts of entries
abbrev pub total : List Entry → ℕ
total [] = 0
total (e ∷ es) = e.count + total es

-- the sum of all counts of a stack
abbrev pub load : Stack → ℕ
load s = s.top.count + total s.below

-- the top count rises by one
abbrev pub with_token : Stack → Stack
with_token s = stack (entry (s.top.count + 1) s.top.opened) s.below

-- what a token does to the stack after it was counted
abbrev pub effect_of : TokenKind → Effect
effect_of (Sign s.LeftParen) = effect.Open
effect_of (Sign s.LeftBracket) = effect.Open
effect_of (Sign s.RightParen) = effect.Close
effect_of (Sign s.RightBracket) = effect.Close
effect_of (Sign s.LeftBrace) = effect.Enter
effect_of (Sign s.RightBrace) = effect.Leave
effect_of (Sign s.Semicolon) = effect.Finish
effect_of _ = effect.Nothing

-- with an empty entry on top
abbrev pub entered : Stack → Stack
entered s = stack (entry 0 0) (s.top ∷ s.below)

-- without the top entry, if it is not the only one
abbrev pub next_top : Entry → List Entry → Stack
next_top top [] = stack top []
next_top top (e ∷ es) = stack e es

-- a stack without its top entry, if that is not the only one
abbrev pub popped : Stack → Stack
popped s = next_top s.top s.below

-- with an empty top entry, unless it stays
abbrev pub emptied : Bool → Stack → Stack
emptied true s = s
emptied false s = stack (entry 0 0) s.below

-- after a token with this effect, where an `else` comes next or not
abbrev pub passed : Effect → Bool → Stack → Stack
passed effect.Open else_next s = stack (entry s.top.count (s.top.opened + 1)) s.below
passed effect.Close else_next s = stack (entry s.top.count (s.top.opened - 1)) s.below
passed effect.Enter else_next s = entered s
passed effect.Leave else_next s = emptied else_next (popped s)
passed effect.Finish else_next s = emptied (else_next || nat_lt 0 s.top.opened) s
passed effect.Nothing else_next s = s

-- whether a token of this kind is `else`
abbrev pub is_else : TokenKind → Bool
is_else (Keyword w.Else) = true
is_else _ = false

-- whether `else` comes next
abbrev pub is_else_next : List Token → Bool
is_else_next [] = false
is_else_next (t ∷ ts) = is_else t.kind

-- the load of each token after this stack
abbrev pub loads_after : Stack → List Token → List ℕ
loads_after s [] = []
loads_after s (t ∷ ts) = load (with_token s) ∷ loads_after (passed (effect_of t.kind) (is_else_next ts) (with_token s)) ts

-- the load of each token of a source
abbrev pub loads : List Token → List ℕ
loads = loads_after (stack (entry 0 0) [])

-- no load is over 1,000
abbrev pub IsLight : List Token → Type 0
IsLight ts = All (λ n. n ≤ 1000) (loads ts)

-- the token at place p is the first whose load is over 1,000
pub record HeavyAt (ts : List Token) (p : ℕ) : Type 0 where
  pub within : p < length ts
  pub heavy : 1000 < slice_index (loads ts) p
  pub before : (q : ℕ) → q < p → slice_index (loads ts) q ≤ 1000
