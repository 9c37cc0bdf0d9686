-- Tokens that leave a statement unfinished: each of them is counted in the same entry.
use Rattle.std.proofs.Common.{◌≡◌, ℕ, zero, suc, ◌+◌, ◌<◌, ◌≤◌, Bool, true, false, ◌||◌, List, [], ◌∷◌, ◌++◌, length, refl, subst, arith, append_assoc, length-append}
use Rattle.std.specs.Prelude.{nat_lt}
use Rattle.oc_lexer.specs.declared.token.Token.{Token}
use Rattle.oc_lexer.specs.declared.token.TokenKind.{TokenKind}
use Rattle.oc_lexer.specs.declared.token.TokenKind.TheVariants.{Sign}
use Rattle.oc_lexer.specs.declared.token.Sign.TheVariants as s
use Rattle.oc_grammar.specs.Tokens.{Is}
use Rattle.oc_parser.specs.declared.entries.Entry.{Entry}
use Rattle.oc_parser.specs.declared.entries.Effect.TheVariants as effect
use Rattle.oc_parser.specs.Load.{entry, stack, effect_of, emptied, is_else_next}
use Rattle.oc_parser.proofs.Under.{Under, step, step_by, recounted}

-- At least d tokens, before which a brackets are open, or more, and after them b and as many more.
pub record Flow (a b d : ℕ) (x : List Token) : Type 0 where
  pub long : d ≤ length x
  pub passes : (c o : ℕ) (below : List Entry) (rest : List Token) → Under (stack (entry c (a + o)) below) (x ++ rest) → Under (stack (entry (c + length x) (b + o)) below) rest

pub nothing : Flow 0 0 0 []
nothing = record { long = omega arith; passes = λ c o below rest u. recounted (omega arith) refl u }

pub then : {a b e m n : ℕ} {x y : List Token} → Flow a b m x → Flow b e n y → Flow a e (m + n) (x ++ y)
then {a = a} {x = x} {y = y} f g = record {
  long = omega (arith, f.long, g.long, length-append x y);
  passes = λ c o below rest u.
      recounted (omega (arith, length-append x y)) refl (g.passes (c + length x) o below rest (f.passes c o below (y ++ rest) (subst (λ ts. Under (stack (entry c (a + o)) below) ts) (append_assoc x y rest) u)));
}

pub less : {a b m n : ℕ} {x : List Token} → n ≤ m → Flow a b m x → Flow a b n x
less h f = record { long = omega (arith, f.long); passes = f.passes }

pub within : (k : ℕ) {d : ℕ} {x : List Token} → Flow 0 0 d x → Flow k k d x
within k f = record { long = f.long; passes = λ c o below rest u. recounted refl (omega arith) (f.passes c (k + o) below rest (recounted refl (omega arith) u)) }

pub pass : {d : ℕ} {x : List Token} → Flow 0 0 d x → (c o : ℕ) (below : List Entry) (rest : List Token) → Under (stack (entry c o) below) (x ++ rest) → Under (stack (entry (c + length x) o) below) rest
pass f c o below rest u = recounted refl (omega arith) (f.passes c o below rest (recounted refl (omega arith) u))

-- ---- single tokens

pub plain : {k : TokenKind} {t : Token} → effect_of k ≡ effect.Nothing → Is k t → Flow 0 0 1 (t ∷ [])
plain h i = record { long = omega arith; passes = λ c o below rest u. recounted (omega arith) refl (step_by h i u) }

pub opens : {k : TokenKind} {t : Token} → effect_of k ≡ effect.Open → Is k t → Flow 0 1 1 (t ∷ [])
opens h i = record { long = omega arith; passes = λ c o below rest u. recounted (omega arith) (omega arith) (step_by h i u) }

pub closes : {k : TokenKind} {t : Token} → effect_of k ≡ effect.Close → Is k t → Flow 1 0 1 (t ∷ [])
closes h i = record { long = omega arith; passes = λ c o below rest u. recounted (omega arith) (omega arith) (step_by h i u) }

in_brackets : (b : Bool) (n : ℕ) → 0 < n → (b || nat_lt 0 n) ≡ true
in_brackets true n h = refl
in_brackets false zero h = absurd (omega arith)
in_brackets false (suc n) h = grind arith

pub semicolon : {t : Token} → Is (Sign s.Semicolon) t → Flow 1 1 1 (t ∷ [])
semicolon i = record {
  long = omega arith;
  passes = λ c o below rest u.
      recounted (omega arith) refl (subst (λ b. Under (emptied b (stack (entry (c + 1) (1 + o)) below)) rest) (in_brackets (is_else_next rest) (1 + o) (omega arith)) (step i u));
}

-- ---- several tokens

pub after : {k : TokenKind} {t : Token} {b d : ℕ} {x : List Token} → effect_of k ≡ effect.Nothing → Is k t → Flow 0 b d x → Flow 0 b (1 + d) (t ∷ x)
after h i f = then (plain h i) f

pub between : {k l : TokenKind} {a b : Token} {d : ℕ} {x : List Token} → effect_of k ≡ effect.Open → effect_of l ≡ effect.Close → Is k a → Flow 0 0 d x → Is l b → Flow 0 0 (d + 2) (a ∷ (x ++ b ∷ []))
between h g i f j = less (omega arith) (then (opens h i) (then (within 1 f) (closes g j)))
