-- What is left of a light source after each token.
use Rattle.std.proofs.Common.{◌≡◌, ℕ, ◌+◌, ◌≤◌, Bool, true, false, ◌||◌, List, [], ◌∷◌, refl, subst, arith}
use Rattle.std.proofs.lemmas.List.Elements.{recursion_from_All}
use Rattle.std.specs.Prelude.{nat_lt}
use Rattle.oc_lexer.specs.declared.token.Token.{Token}
use Rattle.oc_lexer.specs.declared.token.TokenKind.{TokenKind}
use Rattle.oc_lexer.specs.declared.token.TokenKind.TheVariants.{Sign}
use Rattle.oc_lexer.specs.declared.token.Sign.TheVariants as s
use Rattle.oc_grammar.specs.Tokens.{Is}
use Rattle.oc_parser.specs.declared.entries.Entry.{Entry}
use Rattle.oc_parser.specs.declared.entries.Effect.{Effect}
use Rattle.oc_parser.specs.declared.entries.Effect.TheVariants as effect
use Rattle.oc_parser.specs.Load.{Stack, entry, stack, total, load, with_token, effect_of, next_top, popped, emptied, passed, is_else_next, loads_after, loads, IsLight}
use Rattle.oc_parser.proofs.Loads.{AllSmall}

-- Neither this stack nor a token after it has a load over 1,000.
pub record Under (st : Stack) (ts : List Token) : Type 0 where
  pub now : load st ≤ 1000
  pub later : AllSmall (loads_after st ts)

pub light_under : (ts : List Token) → IsLight ts → Under (stack (entry 0 0) []) ts
light_under ts h = record { now = omega arith; later = recursion_from_All (λ n. n ≤ 1000) (loads ts) h }

-- ---- no effect adds to the load

popped_load : (top : Entry) (below : List Entry) → load (next_top top below) ≤ top.count + total below
popped_load top [] = omega arith
popped_load top (e ∷ es) = omega arith

emptied_load : (b : Bool) (st : Stack) → load (emptied b st) ≤ load st
emptied_load true st = omega arith
emptied_load false st = omega arith

passed_load : (e : Effect) (b : Bool) (st : Stack) → load (passed e b st) ≤ load st
passed_load effect.Open b st = omega arith
passed_load effect.Close b st = omega arith
passed_load effect.Enter b st = omega arith
passed_load effect.Leave b st = omega (arith, emptied_load b (popped st), popped_load st.top st.below)
passed_load effect.Finish b st = emptied_load (b || nat_lt 0 st.top.opened) st
passed_load effect.Nothing b st = omega arith

-- ---- after a token of this kind

pub step : {k : TokenKind} {st : Stack} {t : Token} {ts : List Token} → Is k t → Under st (t ∷ ts) → Under (passed (effect_of k) (is_else_next ts) (with_token st)) ts
step {st = st} {t = t} {ts = ts} i u = subst (λ k. Under (passed (effect_of k) (is_else_next ts) (with_token st)) ts) i.kind (record {
  now = omega (arith, passed_load (effect_of t.kind) (is_else_next ts) (with_token st), u.later.0);
  later = u.later.1;
})

pub step_by : {k : TokenKind} {e : Effect} {st : Stack} {t : Token} {ts : List Token} → effect_of k ≡ e → Is k t → Under st (t ∷ ts) → Under (passed e (is_else_next ts) (with_token st)) ts
step_by {st = st} {ts = ts} h i u = subst (λ e. Under (passed e (is_else_next ts) (with_token st)) ts) h (step i u)

pub recounted : {a b c d : ℕ} {below : List Entry} {ts : List Token} → a ≡ c → b ≡ d → Under (stack (entry a b) below) ts → Under (stack (entry c d) below) ts
recounted {b = b} {c = c} {below = below} {ts = ts} h g u = subst (λ n. Under (stack (entry c n) below) ts) g (subst (λ n. Under (stack (entry n b) below) ts) h u)

-- ---- after the end of a statement

-- Something is left on top, and all that is counted where an `else` comes next.
pub record Left (least : ℕ) (below : List Entry) (rest : List Token) : Type 0 where
  pub top : Entry
  pub kept : is_else_next rest ≡ true → least ≤ top.count
  pub under : Under (stack top below) rest

left_top : (b : Bool) (top : Entry) (below : List Entry) (rest : List Token) → (is_else_next rest ≡ true → b ≡ true) → Under (emptied b (stack top below)) rest → Left top.count below rest
left_top true top below rest g u = record { top = top; kept = λ h. omega arith; under = u }
left_top false top below rest g u = record { top = entry 0 0; kept = λ h. let f : false ≡ true = g h in cc; under = u }

else_or : (a b : Bool) → a ≡ true → (a || b) ≡ true
else_or true b h = refl
else_or false b h = cc

pub after_semicolon : {c o : ℕ} {below : List Entry} {t : Token} {rest : List Token} → Is (Sign s.Semicolon) t → Under (stack (entry c o) below) (t ∷ rest) → Left (c + 1) below rest
after_semicolon {c} {o} {below} {t} {rest} i u = left_top (is_else_next rest || nat_lt 0 o) (entry (c + 1) o) below rest (else_or (is_else_next rest) (nat_lt 0 o)) (step i u)

pub after_brace : {inner outer : Entry} {below : List Entry} {t : Token} {rest : List Token} → Is (Sign s.RightBrace) t → Under (stack inner (outer ∷ below)) (t ∷ rest) → Left outer.count below rest
after_brace {outer = outer} {below = below} {rest = rest} i u = left_top (is_else_next rest) outer below rest (λ h. h) (step i u)
