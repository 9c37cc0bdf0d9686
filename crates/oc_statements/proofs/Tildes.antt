-- What follows the sign `~` where a statement begins with it.
use Rattle.std.proofs.Common.{◌≡◌, ℕ, List, [], ◌∷◌, ◌++◌, refl, arith}
use Rattle.oc_source.specs.declared.parsed.Expr.{Expr}
use Rattle.oc_source.specs.declared.parsed.Stmt.{Stmt}
use Rattle.oc_lexer.specs.declared.token.Token.{Token}
use Rattle.oc_lexer.specs.declared.token.TokenKind.{TokenKind}
use Rattle.oc_lexer.specs.declared.token.TokenKind.TheVariants.{Sign}
use Rattle.oc_lexer.specs.declared.token.Sign.TheVariants as s
use Rattle.oc_grammar.specs.Tokens.{Is}
use Rattle.oc_grammar.specs.Trees.{Leaf, number, character, text, null, truth, falsity}
use Rattle.oc_grammar.specs.Expressions.{Rule, Expression, before, assign, choose, operation, signed, cast, index, field, arrow, bumped, leaf, named, call, size, parens, at}
use Rattle.oc_grammar.proofs.Calls.{made, is_made}
use Rattle.oc_expressions.proofs.Levels.{Begun, begun, begun_append, some_expr}
use Rattle.oc_statements.specs.Continuations.{SimpleStatement, empty, express, returns, breaks, continues}

-- the first token of a front is that of the whole
front : (x y : List Token) (t : Token) (ys : List Token) → Begun x → ((zs : List Token) → x ≡ t ∷ zs → Begun zs) → x ++ y ≡ t ∷ ys → Begun ys
front [] y t ys b f e = absurd b
front (a ∷ x) y t ys b f e =
    let h : a ∷ x ≡ t ∷ x = (let g : a ≡ t = cc in cc) in
    let g : ys ≡ x ++ y = cc in
    rw g (begun_append x y (f x h))

clash : {k l : TokenKind} {a t : Token} {x ys : List Token} {A : Type 0} → (k ≡ l → ⊥) → Is k a → a ∷ x ≡ t ∷ ys → Is l t → A
clash {k} {l} {a} {t} n i e j = absurd (n (let h : a ≡ t = cc in let f = i.kind in let g = j.kind in cc))

leaf_clash : {k : TokenKind} {node : _} → Leaf k node → k ≡ Sign s.Tilde → ⊥
leaf_clash (number n) h = cc
leaf_clash (character n f g) h = cc
leaf_clash (text bytes) h = cc
leaf_clash null h = cc
leaf_clash (truth n f g) h = cc
leaf_clash (falsity n f g) h = cc

-- an operand follows it
mutual
  rule_second : {n : ℕ} {v : Expr} {x : List Token} → Rule n v x → (t : Token) (ys : List Token) → Is (Sign s.Tilde) t → x ≡ t ∷ ys → Begun ys
  rule_second (assign {x = x} d i h r) t ys j e = front x _ t ys (begun d) (λ zs g. second d t zs j g) e
  rule_second (choose {xs = x} d i b z) t ys j e = front x _ t ys (begun d) (λ zs g. second d t zs j g) e
  rule_second (operation {x = x} d i h r) t ys j e = front x _ t ys (begun d) (λ zs g. second d t zs j g) e
  rule_second (index {x = x} d i b) t ys j e = front x _ t ys (begun d) (λ zs g. second d t zs j g) e
  rule_second (field {x = x} d i k) t ys j e = front x _ t ys (begun d) (λ zs g. second d t zs j g) e
  rule_second (arrow {x = x} d i k) t ys j e = front x _ t ys (begun d) (λ zs g. second d t zs j g) e
  rule_second (bumped {x = x} d i h) t ys j e = front x _ t ys (begun d) (λ zs g. second d t zs j g) e
  rule_second (signed {x = x} i h d) t ys j e = let g : ys ≡ x = cc in rw g (begun d)
  rule_second (cast i ty k d) t ys j e = clash (λ h. cc) i e j
  rule_second (leaf {t = a} d) t ys j e = absurd (leaf_clash d (let h : a ≡ t = cc in rw h j.kind))
  rule_second (named i) t ys j e = clash (λ h. cc) i e j
  rule_second (call i k a l) t ys j e = clash (λ h. cc) i e j
  rule_second (size i k ty l) t ys j e = clash (λ h. cc) i e j
  rule_second (parens i b) t ys j e = clash (λ h. cc) i e j

  second : {n : ℕ} {v : Expr} {x : List Token} → Expression n v x → (t : Token) (ys : List Token) → Is (Sign s.Tilde) t → x ≡ t ∷ ys → Begun ys
  second (at d h) t ys j e = rule_second d t ys j e

simple_second : {v : Stmt} {x : List Token} → SimpleStatement v x → (t : Token) (ys : List Token) → Is (Sign s.Tilde) t → x ≡ t ∷ ys → Begun ys
simple_second (empty i) t ys j e = clash (λ h. cc) i e j
simple_second (express (before {x = x} d i)) t ys j e = front x _ t ys (begun d) (λ zs g. second d t zs j g) e
simple_second (returns i d) t ys j e = clash (λ h. cc) i e j
simple_second (breaks i k) t ys j e = clash (λ h. cc) i e j
simple_second (continues i k) t ys j e = clash (λ h. cc) i e j

pub tilde_second : {v : Stmt} {t : Token} {ys : List Token} → Is (Sign s.Tilde) t → SimpleStatement v (t ∷ ys) → Begun ys
tilde_second {v} {t} {ys} j d = simple_second d t ys j refl

-- some statement begins with it
pub some_tilde : {t : Token} → Is (Sign s.Tilde) t → (v : Stmt) × (ys : List Token) × SimpleStatement v (t ∷ ys)
some_tilde {t} i = let (v, x, d) = some_expr 13 (omega arith) in (_, x ++ made (Sign s.Semicolon) ∷ [], express (before (at {n = 1} (signed i refl d) (omega arith)) (is_made (Sign s.Semicolon))))
