-- The steps of the calls that read a block.
use Rattle.std.proofs.Common.{◌≡◌, List, [], ◌∷◌, ◌++◌, refl, ◌∙◌, append_assoc, subst}
use Rattle.oc_source.specs.declared.parsed.Stmt.{Stmt}
use Rattle.oc_lexer.specs.declared.token.Token.{Token}
use Rattle.oc_lexer.specs.declared.token.TokenKind.TheVariants.{Keyword, Sign}
use Rattle.oc_lexer.specs.declared.token.Keyword.TheVariants as w
use Rattle.oc_lexer.specs.declared.token.Sign.TheVariants as s
use Rattle.oc_grammar.specs.Tokens.{Is, Starts, NotNext}
use Rattle.oc_grammar.specs.Parsing.{SameNext, Found, Refused, Leaves, Any, End, ended, Then, then}
use Rattle.oc_grammar.specs.Calls.{One}
use Rattle.oc_grammar.specs.Statements.{Block, Closed, braces, no_step}
use Rattle.oc_grammar.proofs.Parsing.{start, also, turned, read, fails, ends, through, through_fails, taken, Goes, sure, Closes}
use Rattle.oc_grammar.proofs.Calls.{made, is_made, not_next}
use Rattle.oc_statements.specs.Continuations.{Step, Run, run_end, run_more}
use Rattle.oc_statements.proofs.Grammar.{block_out, block_in, else_idle, brace_idle, no_step_begins}

run_goes : (l : List Stmt) → Goes Closed Any (λ v. Run (l ++ v ∷ []))
run_goes l = record { follow = λ b v ys zs q k o. go zs q; closes = λ b. (l ++ b ∷ [], made (Sign s.RightBrace) ∷ [], run_end (is_made (Sign s.RightBrace))) }
  where
    not_else : (us : List Token) → ((t : Token) (m : List Token) → Is (Keyword w.Else) t → t ∷ m ≡ us → ⊥) → NotNext (Keyword w.Else) us
    not_else [] h = tt
    not_else (t ∷ us) h = λ i. h t us i refl

    go : {l vs : List Stmt} {ys : List Token} (zs : List Token) → Run l vs ys → NotNext (Keyword w.Else) (ys ++ zs)
    go zs (run_end i) = λ j. let e = i.kind in let f = j.kind in cc
    go zs (run_more {x = x} {y = y} d q) = not_else _ (λ t m i e. no_step_begins t m (y ++ zs) else_idle i d (e ∙ append_assoc x y zs))

module _ {ts rest : List Token} {l : List Stmt} (loop : Leaves (Run []) Any ts (Run l) rest) where
  pub run_done : {r : List Token} → Starts (Sign s.RightBrace) rest r → Found (Run []) Any ts l r
  run_done {r} here = ends (taken loop here.whole into out)
    where
      into : (v : List Stmt) (ys : List Token) → End l v ys → Run l v (here.token ∷ ys)
      into v _ ended = run_end here.is

      out : (v : List Stmt) (us ys zs : List Token) → Run l v ys → here.token ∷ us ≡ ys ++ zs → (xs : List Token) × End l v xs × (us ≡ xs ++ zs)
      out v us _ zs (run_end i) e = ([], ended, cc)
      out v us _ zs (run_more {x = x} {y = y} d q) e = absurd (no_step_begins here.token us (y ++ zs) brace_idle here.is d (e ∙ append_assoc x y zs))

  module _ (n : NotNext (Sign s.RightBrace) rest) where
    step_left : Leaves (Run []) Any ts (Then Step (λ v. Run (l ++ v ∷ []))) rest
    step_left = also loop into (λ v us ys zs a q k e. out v us ys zs a q e)
      where
        into : (v : List Stmt) (ys : List Token) → Then Step (λ v. Run (l ++ v ∷ [])) v ys → Run l v ys
        into v _ (then d q) = run_more d q

        out : (v : List Stmt) (us ys zs : List Token) → SameNext rest us → Run l v ys → us ≡ ys ++ zs → Then Step (λ v. Run (l ++ v ∷ [])) v ys
        out v us _ zs a (run_end {t = t} i) e = absurd (not_next (Sign s.RightBrace) t rest zs n (subst (λ us. SameNext rest us) e a) i)
        out v us _ zs a (run_more d q) e = then d q

    pub step_fails : {r : List Token} → Refused Step Closed rest r → Refused (Run []) Any ts r
    step_fails f = fails step_left f (run_goes l)

    pub step_read : {v : Stmt} {r : List Token} → Found Step Closed rest v r → Leaves (Run []) Any ts (Run (l ++ v ∷ [])) r
    step_read f = read step_left f (run_goes l)

some_run : Closes (Run [])
some_run = ([], made (Sign s.RightBrace) ∷ [], run_end (is_made (Sign s.RightBrace)))

pub some_block : Closes Block
some_block = ([], made (Sign s.LeftBrace) ∷ (made (Sign s.RightBrace) ∷ []), braces (is_made (Sign s.LeftBrace)) no_step (is_made (Sign s.RightBrace)))

module _ {ts : List Token} where
  block_opened : Leaves Block Any ts (Then (One (Sign s.LeftBrace)) (λ _. Run [])) ts
  block_opened = turned (start Block Any ts) block_in block_out

  pub brace_fails : {r : List Token} → Refused (One (Sign s.LeftBrace)) Any ts r → Refused Block Any ts r
  brace_fails f = fails block_opened f (sure (λ u. some_run))

  module _ {r1 : List Token} (f : Found (One (Sign s.LeftBrace)) Any ts tt r1) where
    pub run_fails : {r : List Token} → Refused (Run []) Any r1 r → Refused Block Any ts r
    run_fails h = through_fails (read block_opened f (sure (λ u. some_run))) h

    pub block_read : {vs : List Stmt} {r : List Token} → Found (Run []) Any r1 vs r → Found Block Any ts vs r
    block_read h = through (read block_opened f (sure (λ u. some_run))) h
