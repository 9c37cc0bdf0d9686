-- The steps of the calls that read what follows `if`, `while`, `for` and `~ obliv`.
use Rattle.std.proofs.Common.{◌≡◌, ℕ, List, [], ◌∷◌, ◌++◌, Some, None, Bool, true, false, refl, ◌∙◌, subst}
use Rattle.oc_source.specs.declared.spot.Spot.{Spot}
use Rattle.oc_source.specs.declared.parsed.Expr.{Expr}
use Rattle.oc_source.specs.declared.parsed.Stmt.{Stmt}
use Rattle.oc_source.specs.declared.parsed.StmtNode.TheVariants as st
use Rattle.oc_lexer.specs.declared.token.Token.{Token}
use Rattle.oc_lexer.specs.declared.token.TokenKind.TheVariants.{Keyword, Sign}
use Rattle.oc_lexer.specs.declared.token.Keyword.TheVariants as w
use Rattle.oc_lexer.specs.declared.token.Sign.TheVariants as s
use Rattle.oc_grammar.specs.Tokens.{Starts, NotNext, spot_at}
use Rattle.oc_source.specs.Parsed.{stmt}
use Rattle.oc_grammar.specs.Parsing.{SameNext, Found, Refused, Leaves, Any, End, Then, then, Maybe, stays, goes}
use Rattle.oc_grammar.specs.Calls.{One, one, Placed, placed}
use Rattle.oc_grammar.specs.Statements.{Condition, Statement, Block, Closed}
use Rattle.oc_grammar.specs.Open.{ends_open}
use Rattle.oc_grammar.proofs.Parsing.{start, turned, read, fails, ends, token_on, alone, Goes, sure, Closes, close_end, close_then, after_end}
use Rattle.oc_grammar.proofs.Calls.{not_next, placed_found, placed_refused}
use Rattle.oc_grammar.proofs.OpenEnds.{open-if, open-else, open-obliv_if, open-obliv_else, open-while, open-for}
use Rattle.oc_statements.specs.declared.simple.Header.{Header}
use Rattle.oc_statements.specs.Continuations.{header_form, name_form, if_node, ElseBy, else_by, if_after, while_after, for_after, always_after, Run}
use Rattle.oc_statements.proofs.Headers.{some_condition}
use Rattle.oc_statements.proofs.Lone.{some_simple}
use Rattle.oc_statements.proofs.Grammar.{block_out, simple_in}
use Rattle.oc_statements.proofs.Blocks.{some_block}

pub some_statement : Closes Statement
some_statement = let (v, x, d) = some_simple in (v, x, simple_in d)

-- ---- after `if`

pub open_none : (spot : Spot) (obliv : Bool) (c : Expr) (y : Stmt) → ends_open (stmt spot (if_node obliv c y None)) ≡ true
open_none spot false c y = open-if spot c y
open_none spot true c y = open-obliv_if spot c y

pub open_some : (spot : Spot) (obliv : Bool) (c : Expr) (y n : Stmt) → ends_open (stmt spot (if_node obliv c y (Some n))) ≡ ends_open n
open_some spot false c y n = open-else spot c y n
open_some spot true c y n = open-obliv_else spot c y n

module _ (spot : Spot) (obliv : Bool) where
  no_goes : (c : Expr) (y : Stmt) → Goes Closed Closed (λ n. End (stmt spot (if_node obliv c y (Some n))))
  no_goes c y = after_end (λ n. stmt spot (if_node obliv c y (Some n))) (λ n zs k o. k (open_some spot obliv c y n ∙ o))

  yes_goes : (c : Expr) → Goes Closed Closed (λ y. Maybe (ElseBy spot obliv c y) (stmt spot (if_node obliv c y None)))
  yes_goes c = record { follow = λ y v ys zs q k. go y v ys zs q k; closes = λ y. (stmt spot (if_node obliv c y None), [], stays) }
    where
      go : (y v : Stmt) (ys zs : List Token) → Maybe (ElseBy spot obliv c y) (stmt spot (if_node obliv c y None)) v ys → Closed v zs → Closed y (ys ++ zs)
      go y v _ zs stays k = λ o. k (open_none spot obliv c y)
      go y v _ zs (goes (else_by i h q)) k = λ o. cc

  some_yes : (c : Expr) → Closes (Then Statement (λ y. Maybe (ElseBy spot obliv c y) (stmt spot (if_node obliv c y None))))
  some_yes c = let (y, x, d) = some_statement in close_then y x d (stmt spot (if_node obliv c y None), [], stays)

  pub some_if : Closes (if_after spot obliv)
  some_if = let (c, x, d) = some_condition in close_then c x d (some_yes c)

  module _ {ts : List Token} where
    pub cond_fails : {r : List Token} → Refused Condition Any ts r → Refused (if_after spot obliv) Closed ts r
    cond_fails f = fails (start (if_after spot obliv) Closed ts) f (sure some_yes)

    module _ {c : Expr} {r1 : List Token} (f : Found Condition Any ts c r1) where
      yes_left : Leaves (if_after spot obliv) Closed ts (Then Statement (λ y. Maybe (ElseBy spot obliv c y) (stmt spot (if_node obliv c y None)))) r1
      yes_left = read (start (if_after spot obliv) Closed ts) f (sure some_yes)

      pub yes_fails : {r : List Token} → Refused Statement Closed r1 r → Refused (if_after spot obliv) Closed ts r
      yes_fails h = fails yes_left h (yes_goes c)

      module _ {y : Stmt} {r2 : List Token} (h : Found Statement Closed r1 y r2) where
        else_left : Leaves (if_after spot obliv) Closed ts (Maybe (ElseBy spot obliv c y) (stmt spot (if_node obliv c y None))) r2
        else_left = read yes_left h (yes_goes c)

        pub if_read : NotNext (Keyword w.Else) r2 → Found (if_after spot obliv) Closed ts (stmt spot (if_node obliv c y None)) r2
        if_read n = alone else_left (λ t us v ys a q. go t us v ys a q)
          where
            go : (t : Token) (us : List Token) (v : Stmt) (ys : List Token) → SameNext r2 (t ∷ us) → ElseBy spot obliv c y t v ys → ⊥
            go t us v ys a (else_by i o q) = not_next (Keyword w.Else) t r2 us n a i

        module _ {r3 : List Token} (closed : Closed y r2) (here : Starts (Keyword w.Else) r2 r3) where
          shut : (b : Bool) → ends_open y ≡ b → ends_open y ≡ false
          shut true o = let n : NotNext (Keyword w.Else) r2 = closed o in let m : NotNext (Keyword w.Else) (here.token ∷ r3) = subst (λ r. NotNext (Keyword w.Else) r) here.whole n in absurd (m here.is)
          shut false o = o

          no_left : Leaves (if_after spot obliv) Closed ts (Then Statement (λ n. End (stmt spot (if_node obliv c y (Some n))))) r3
          no_left = turned (token_on else_left here.whole (λ zs k. k (open_none spot obliv c y) here.is)) (λ v ys q. else_by here.is (shut (ends_open y) refl) q) (λ v ys q. go v ys q)
            where
              go : (v : Stmt) (ys : List Token) → ElseBy spot obliv c y here.token v ys → Then Statement (λ n. End (stmt spot (if_node obliv c y (Some n)))) v ys
              go v ys (else_by i o q) = q

          pub no_fails : {r : List Token} → Refused Statement Closed r3 r → Refused (if_after spot obliv) Closed ts r
          no_fails k = fails no_left k (no_goes c y)

          pub if_else_read : {n : Stmt} {r : List Token} → Found Statement Closed r3 n r → Found (if_after spot obliv) Closed ts (stmt spot (if_node obliv c y (Some n))) r
          if_else_read k = ends (read no_left k (no_goes c y))

-- ---- after `while`, `for` and `~ obliv`

module _ (spot : Spot) where
  while_goes : (c : Expr) → Goes Closed Closed (λ b. End (stmt spot (st.While c b)))
  while_goes c = after_end (λ b. stmt spot (st.While c b)) (λ b zs k o. k (open-while spot c b ∙ o))

  some_body : (c : Expr) → Closes (Then Statement (λ b. End (stmt spot (st.While c b))))
  some_body c = let (b, x, d) = some_statement in close_then b x d close_end

  for_goes : (h : Header) → Goes Closed Closed (λ b. End (stmt spot (st.For h.init h.cond h.advance b)))
  for_goes h = after_end (λ b. stmt spot (st.For h.init h.cond h.advance b)) (λ b zs k o. k (open-for spot h.init h.cond h.advance b ∙ o))

  some_for : (h : Header) → Closes (Then Statement (λ b. End (stmt spot (st.For h.init h.cond h.advance b))))
  some_for h = let (b, x, d) = some_statement in close_then b x d close_end

  module _ {ts : List Token} where
    pub while_cond_fails : {r : List Token} → Refused Condition Any ts r → Refused (while_after spot) Closed ts r
    while_cond_fails f = fails (start (while_after spot) Closed ts) f (sure some_body)

    module _ {c : Expr} {r1 : List Token} (f : Found Condition Any ts c r1) where
      while_left : Leaves (while_after spot) Closed ts (Then Statement (λ b. End (stmt spot (st.While c b)))) r1
      while_left = read (start (while_after spot) Closed ts) f (sure some_body)

      pub while_body_fails : {r : List Token} → Refused Statement Closed r1 r → Refused (while_after spot) Closed ts r
      while_body_fails h = fails while_left h (while_goes c)

      pub while_read : {b : Stmt} {r : List Token} → Found Statement Closed r1 b r → Found (while_after spot) Closed ts (stmt spot (st.While c b)) r
      while_read h = ends (read while_left h (while_goes c))

    pub header_fails : {r : List Token} → Refused header_form Any ts r → Refused (for_after spot) Closed ts r
    header_fails f = fails (start (for_after spot) Closed ts) f (sure some_for)

    module _ {h : Header} {r1 : List Token} (f : Found header_form Any ts h r1) where
      for_left : Leaves (for_after spot) Closed ts (Then Statement (λ b. End (stmt spot (st.For h.init h.cond h.advance b)))) r1
      for_left = read (start (for_after spot) Closed ts) f (sure some_for)

      pub for_body_fails : {r : List Token} → Refused Statement Closed r1 r → Refused (for_after spot) Closed ts r
      for_body_fails k = fails for_left k (for_goes h)

      pub for_read : {b : Stmt} {r : List Token} → Found Statement Closed r1 b r → Found (for_after spot) Closed ts (stmt spot (st.For h.init h.cond h.advance b)) r
      for_read k = ends (read for_left k (for_goes h))

block_filled : (vs : List Stmt) → Block vs [] → ⊥
block_filled vs d = go (block_out vs [] d) refl
  where
    go : {x : List Token} → Then (One (Sign s.LeftBrace)) (λ _. Run []) vs x → x ≡ [] → ⊥
    go (then (one i) q) e = cc

module _ (spot : Spot) where
  some_placed : (n : List ℕ) → Closes (Then (Placed Block) (λ p. End (stmt spot (st.Always n (stmt p.0 (st.Block p.1))))))
  some_placed n = let (vs, x, d) = some_block in close_then (spot_at x, vs) x (placed d) close_end

  module _ {ts : List Token} where
    pub always_name_fails : {r : List Token} → Refused name_form Any ts r → Refused (always_after spot) Any ts r
    always_name_fails f = fails (start (always_after spot) Any ts) f (sure some_placed)

    module _ {n : List ℕ} {r1 : List Token} (f : Found name_form Any ts n r1) where
      placed_left : Leaves (always_after spot) Any ts (Then (Placed Block) (λ p. End (stmt spot (st.Always n (stmt p.0 (st.Block p.1)))))) r1
      placed_left = read (start (always_after spot) Any ts) f (sure some_placed)

      pub always_block_fails : {r : List Token} → Refused Block Any r1 r → Refused (always_after spot) Any ts r
      always_block_fails h = fails placed_left (placed_refused h) (sure (λ p. close_end))

      pub always_read : {vs : List Stmt} {r : List Token} → Found Block Any r1 vs r → Found (always_after spot) Any ts (stmt spot (st.Always n (stmt (spot_at r1) (st.Block vs)))) r
      always_read h = ends (read placed_left (placed_found block_filled h) (sure (λ p. close_end)))
