-- Tokens at whose end a statement is finished.
use Rattle.std.proofs.Common.{◌≡◌, ℕ, ◌+◌, ◌≤◌, max, List, [], ◌∷◌, ◌++◌, length, refl, subst, arith, append_assoc}
use Rattle.oc_lexer.specs.declared.token.Token.{Token}
use Rattle.oc_lexer.specs.declared.token.TokenKind.TheVariants.{Keyword, Sign}
use Rattle.oc_lexer.specs.declared.token.Keyword.TheVariants as w
use Rattle.oc_lexer.specs.declared.token.Sign.TheVariants as s
use Rattle.oc_grammar.specs.Tokens.{Is}
use Rattle.oc_parser.specs.declared.entries.Entry.{Entry}
use Rattle.oc_parser.specs.Load.{entry, stack, total}
use Rattle.oc_parser.proofs.Under.{Under, step, Left, after_semicolon, after_brace}
use Rattle.oc_parser.proofs.Flows.{Flow, pass}

-- After the tokens of a statement that began at the count c: there was room for d more, and this is left.
pub record Ending (d c : ℕ) (below : List Entry) (rest : List Token) : Type 0 where
  pub room : c + total below + d ≤ 1000
  pub left : Left (c + 1) below rest

-- Tokens that finish a statement, where there was room for d more as it began.
pub record Finishes (d : ℕ) (x : List Token) : Type 0 where
  pub passes : (c o : ℕ) (below : List Entry) (rest : List Token) → Under (stack (entry c o) below) (x ++ rest) → Ending d c below rest

kept_less : {m n : ℕ} {below : List Entry} {rest : List Token} → n ≤ m → Left m below rest → Left n below rest
kept_less h l = record { top = l.top; kept = λ e. omega (arith, l.kept e); under = l.under }

pub end_less : {m n : ℕ} {x : List Token} → n ≤ m → Finishes m x → Finishes n x
end_less h e = record {
  passes = λ c o below rest u. let r = e.passes c o below rest u in record { room = omega (arith, r.room); left = r.left };
}

pub over : {d : ℕ} {x y : List Token} → x ≡ y → Finishes d x → Finishes d y
over {d} h e = subst (λ ts. Finishes d ts) h e

pub semicolon_ends : {t : Token} → Is (Sign s.Semicolon) t → Finishes 1 (t ∷ [])
semicolon_ends {t} i = record {
  passes = λ c o below rest u. record { room = omega (arith, u.later.0); left = after_semicolon i u };
}

pub then_ends : {m n : ℕ} {x y : List Token} → Flow 0 0 m x → Finishes n y → Finishes (m + n) (x ++ y)
then_ends {x = x} {y = y} f e = record {
  passes = λ c o below rest u.
      let v : Under (stack (entry c o) below) (x ++ (y ++ rest)) = subst (λ ts. Under (stack (entry c o) below) ts) (append_assoc x y rest) u in
      let r = e.passes (c + length x) o below rest (pass f c o below (y ++ rest) v) in
      record { room = omega (arith, r.room, f.long); left = kept_less (omega arith) r.left };
}

-- two statements with an `else` between them
pub else_ends : {m n : ℕ} {t : Token} {x y : List Token} → Finishes m x → Is (Keyword w.Else) t → Finishes n y → Finishes (max m n) (x ++ t ∷ y)
else_ends {t = t} {x = x} {y = y} e i g = record {
  passes = λ c o below rest u.
      let v : Under (stack (entry c o) below) (x ++ (t ∷ (y ++ rest))) = subst (λ ts. Under (stack (entry c o) below) ts) (append_assoc x (t ∷ y) rest) u in
      let r = e.passes c o below (t ∷ (y ++ rest)) v in
      let k : c + 1 ≤ r.left.top.count = r.left.kept (rw i.kind refl) in
      let q = g.passes (r.left.top.count + 1) r.left.top.opened below rest (step i r.left.under) in
      record { room = omega (arith, r.room, q.room, k); left = kept_less (omega (arith, k)) q.left };
}

-- ---- one statement after another

-- Beside what is counted below there was room for d, and this is left.
pub record Resting (d : ℕ) (below : List Entry) (rest : List Token) : Type 0 where
  pub room : total below + d ≤ 1000
  pub top : Entry
  pub under : Under (stack top below) rest

-- Tokens of finished statements, beside each of which there was room for d.
pub record Series (d : ℕ) (x : List Token) : Type 0 where
  pub passes : (top : Entry) (below : List Entry) (rest : List Token) → Under (stack top below) (x ++ rest) → Resting d below rest

pub series_less : {m n : ℕ} {x : List Token} → n ≤ m → Series m x → Series n x
series_less h a = record {
  passes = λ top below rest u. let r = a.passes top below rest u in record { room = omega (arith, r.room); top = r.top; under = r.under };
}

pub series_over : {d : ℕ} {x y : List Token} → x ≡ y → Series d x → Series d y
series_over {d} h a = subst (λ ts. Series d ts) h a

pub empty_series : Series 0 []
empty_series = record { passes = λ top below rest u. record { room = omega (arith, u.now); top = top; under = u } }

pub series_of : {d : ℕ} {x : List Token} → Finishes d x → Series d x
series_of e = record {
  passes = λ top below rest u. let r = e.passes top.count top.opened below rest u in record { room = omega (arith, r.room); top = r.left.top; under = r.left.under };
}

pub two_series : {m n : ℕ} {x y : List Token} → Series m x → Series n y → Series (max m n) (x ++ y)
two_series {x = x} {y = y} a b = record {
  passes = λ top below rest u.
      let r = a.passes top below (y ++ rest) (subst (λ ts. Under (stack top below) ts) (append_assoc x y rest) u) in
      let q = b.passes r.top below rest r.under in
      record { room = omega (arith, r.room, q.room); top = q.top; under = q.under };
}

-- finished statements in braces
pub braces_end : {d : ℕ} {a b : Token} {x : List Token} → Is (Sign s.LeftBrace) a → Series d x → Is (Sign s.RightBrace) b → Finishes (d + 1) (a ∷ (x ++ b ∷ []))
braces_end {b = b} {x = x} i f j = record {
  passes = λ c o below rest u.
      let outer : Entry = entry (c + 1) o in
      let v : Under (stack (entry 0 0) (outer ∷ below)) (x ++ (b ∷ rest)) = subst (λ ts. Under (stack (entry 0 0) (outer ∷ below)) ts) (append_assoc x (b ∷ []) rest) (step i u) in
      let r = f.passes (entry 0 0) (outer ∷ below) (b ∷ rest) v in
      record { room = omega (arith, r.room); left = after_brace j r.under };
}
