-- The visits at each form of a statement, and what is told of it, from what is told of its parts.
use Rattle.std.proofs.Common.{ℕ, ◌≡◌, List, [], ◌∷◌, ◌++◌, Option, Some, None, refl, ap, sym, ◌∙◌}
use Rattle.std.specs.Prelude.{not, Result}
use Rattle.oc_source.specs.declared.spot.Spot.{Spot}
use Rattle.oc_typed.specs.declared.typed.TExpr.{TExpr}
use Rattle.oc_typed.specs.declared.typed.TDeclared.{TDeclared}
use Rattle.oc_typed.specs.declared.typed.TForInit.{TForInit}
use Rattle.oc_typed.specs.declared.typed.TStmt.{TStmt}
use Rattle.oc_typed.specs.declared.typed.TStmtNode.{TStmtNode, Declare, Express, Block, If, OblivIf, Always, While, For, Return, Break, Continue, Row_of-TStmt}
use Rattle.oc_typed.specs.declared.typed.TStmtNode.TheBlock.{hidden-the_row-TStmt-0, hidden-the_row-TStmt-1, back-the_row-TStmt}
use Rattle.oc_typing.specs.Typed.{Context}
use Rattle.scope_rules.specs.declared.rules.ScopeRule.TheVariants.{F4}
use Rattle.scope_rules.specs.declared.rules.ScopeFault.{ScopeFault}
use Rattle.scope_rules.specs.Frozen.{Facts, of_body, of_always, in_loop, leaves_part}
use Rattle.scope_rules.specs.FirstFault.{Visit, visit, visits_maybe, visits_coming, visits_declares, visits_header, first_broken}
use Rattle.numbered_scopes.specs.Numbered.{of_part_after, last_declared, last_header, last_stmt, last_rows, numbered_stmt, numbered_rows, numbered_stmts, last_of, numbered_function}
use Rattle.sqlite_items.specs.formers.items.Items.{the_former}
use denote.Hole.Carrier.{hidden}
use mathlib.Core.Former.{this, list_count, children}
use mathlib.Core.List.{map}
use Rattle.oc_typed.specs.declared.typed.TypedFunction.{TypedFunction}
use Rattle.oc_typing.specs.declared.program.Typed.{Typed}
use Rattle.frozen_rules.specs.Scopes.{around, Judges, answer}
use Rattle.frozen_rules.specs.Lists.{whole, last_all, numbered_whole, numbered_maybe, last_maybe}

-- statements as the row that the tree keeps
abbrev row_of : (ss : List TStmt) → Row_of-TStmt (list_count (this {0}) (map (λ x. (this {0}).shape TStmt x) ss) 0)
row_of ss = back-the_row-TStmt (list_count (this {0}) (map (λ x. (this {0}).shape TStmt x) ss) 0) (children (the_former (this {0})) TStmt ss)

last_row : (last : Option ℕ) (ss : List TStmt) → last_rows last (row_of ss) ≡ last_all last ss
unfolding hidden
last_row last [] = refl
last_row last (s ∷ ss) = last_row (last_stmt last s.node) ss

rows_at : (g : Context) (w : Facts) (last : Option ℕ) (ss : List TStmt) → numbered_rows g w last (row_of ss) ≡ numbered_stmts g w last ss
unfolding hidden
rows_at g w last [] = refl
rows_at g w last (s ∷ ss) = ap (λ vs. numbered_whole g w last s ++ vs) (rows_at g w (last_stmt last s.node) ss)

module _ (g : Context) (w : Facts) (last : Option ℕ) (p : Spot) where
  block_at : (ss : List TStmt) → numbered_stmt g w last p (Block ss) ≡ numbered_stmts g w last ss
  unfolding hidden-the_row-TStmt-1 hidden
  block_at ss = rows_at g w last ss

  if_at : (c : TExpr) (s : TStmt) (n : Option TStmt) → numbered_stmt g w last p (If c s n) ≡ whole g w c ++ numbered_whole g w last s ++ numbered_maybe g w (last_stmt last s.node) n
  unfolding hidden-the_row-TStmt-0 hidden-the_row-TStmt-1 hidden
  if_at c s None = refl
  if_at c s (Some n) = refl

  obliv_at : (c : TExpr) (s : TStmt) (n : Option TStmt) → numbered_stmt g w last p (OblivIf c s n)
      ≡ whole g w c ++ numbered_whole g (of_part_after last) last s ++ numbered_maybe g (of_part_after last) (last_stmt last s.node) n
  unfolding hidden-the_row-TStmt-0 hidden-the_row-TStmt-1 hidden
  obliv_at c s None = refl
  obliv_at c s (Some n) = refl

  always_at : (n : ℕ) (s : TStmt) → numbered_stmt g w last p (Always n s) ≡ numbered_whole g of_always (Some n) s
  unfolding hidden-the_row-TStmt-0 hidden-the_row-TStmt-1 hidden
  always_at n s = refl

  while_at : (c : TExpr) (s : TStmt) → numbered_stmt g w last p (While c s) ≡ whole g w c ++ numbered_whole g (in_loop w) last s
  unfolding hidden-the_row-TStmt-0 hidden-the_row-TStmt-1 hidden
  while_at c s = refl

  for_at : (i : TForInit) (c a : Option TExpr) (s : TStmt) → numbered_stmt g w last p (For i c a s)
      ≡ visits_header g w i ++ visits_maybe g w c ++ visits_maybe g w a ++ numbered_whole g (in_loop w) (last_header last i) s
  unfolding hidden-the_row-TStmt-0 hidden-the_row-TStmt-1 hidden
  for_at i c a s = refl

module _ (last : Option ℕ) where
  last_block : (ss : List TStmt) → last_stmt last (Block ss) ≡ last_all last ss
  unfolding hidden-the_row-TStmt-1 hidden
  last_block ss = last_row last ss

  last_if : (c : TExpr) (s : TStmt) (n : Option TStmt) → last_stmt last (If c s n) ≡ last_maybe (last_stmt last s.node) n
  unfolding hidden-the_row-TStmt-0 hidden-the_row-TStmt-1 hidden
  last_if c s None = refl
  last_if c s (Some n) = refl

  last_obliv : (c : TExpr) (s : TStmt) (n : Option TStmt) → last_stmt last (OblivIf c s n) ≡ last_maybe (last_stmt last s.node) n
  unfolding hidden-the_row-TStmt-0 hidden-the_row-TStmt-1 hidden
  last_obliv c s None = refl
  last_obliv c s (Some n) = refl

  last_always : (n : ℕ) (s : TStmt) → last_stmt last (Always n s) ≡ last_stmt (Some n) s.node
  unfolding hidden-the_row-TStmt-0 hidden-the_row-TStmt-1 hidden
  last_always n s = refl

  last_while : (c : TExpr) (s : TStmt) → last_stmt last (While c s) ≡ last_stmt last s.node
  unfolding hidden-the_row-TStmt-0 hidden-the_row-TStmt-1 hidden
  last_while c s = refl

  last_for : (i : TForInit) (c a : Option TExpr) (s : TStmt) → last_stmt last (For i c a s) ≡ last_stmt (last_header last i) s.node
  unfolding hidden-the_row-TStmt-0 hidden-the_row-TStmt-1 hidden
  last_for i c a s = refl

module _ (g : Context) (w : Facts) (last : Option ℕ) (s : TStmt) {z : Result (Option ℕ) ScopeFault} where
  -- what is told of the statement, where its node is known
  stmt_is : {vs : List Visit} {m : Option ℕ} (n : TStmtNode) → s.node ≡ n → numbered_stmt g w last s.spot n ≡ vs → last_stmt last n ≡ m → Judges vs m z
      → Judges (numbered_whole g w last s) (last_stmt last s.node) z
  stmt_is {vs} {m} n i v l h = record {
    told = h.told ∙ ap (λ us. answer (first_broken us) m) (sym (ap (λ k. numbered_stmt g w last s.spot k) i ∙ v))
        ∙ ap (λ k. answer (first_broken (numbered_whole g w last s)) k) (sym (ap (λ k. last_stmt last k) i ∙ l));
  }

  pub declare_so : (xs ds : List TDeclared) → s.node ≡ Declare ds → xs ≡ ds → Judges (visits_declares g w xs) (last_declared last xs) z
      → Judges (numbered_whole g w last s) (last_stmt last s.node) z
  declare_so xs ds i p h = stmt_is (Declare ds) i (ap (λ us. visits_declares g w us) (sym p)) (ap (λ us. last_declared last us) (sym p)) h

  pub express_so : (x e : TExpr) → s.node ≡ Express e → x ≡ e → Judges (whole g w x) last z → Judges (numbered_whole g w last s) (last_stmt last s.node) z
  express_so x e i p h = stmt_is (Express e) i (ap (λ u. whole g w u) (sym p)) refl h

  pub block_so : (xs ss : List TStmt) → s.node ≡ Block ss → xs ≡ ss → Judges (numbered_stmts g w last xs) (last_all last xs) z
      → Judges (numbered_whole g w last s) (last_stmt last s.node) z
  block_so xs ss i p h =
      stmt_is (Block ss) i (block_at g w last s.spot ss ∙ ap (λ us. numbered_stmts g w last us) (sym p)) (last_block last ss ∙ ap (λ us. last_all last us) (sym p)) h

  pub if_so : (x c : TExpr) (y t : TStmt) (n : Option TStmt) (m : Option ℕ) → s.node ≡ If c t n → x ≡ c → y ≡ t → m ≡ last_stmt last y.node
      → Judges (whole g w x ++ numbered_whole g w last y ++ numbered_maybe g w m n) (last_maybe m n) z → Judges (numbered_whole g w last s) (last_stmt last s.node) z
  if_so x c y t n m i p q e h =
      stmt_is (If c t n) i
      (if_at g w last s.spot c t n ∙ ap (λ u. whole g w u ++ numbered_whole g w last t ++ numbered_maybe g w (last_stmt last t.node) n) (sym p)
      ∙ ap (λ (u : TStmt). whole g w x ++ numbered_whole g w last u ++ numbered_maybe g w (last_stmt last u.node) n) (sym q)
      ∙ ap (λ k. whole g w x ++ numbered_whole g w last y ++ numbered_maybe g w k n) (sym e))
      (last_if last c t n ∙ ap (λ (u : TStmt). last_maybe (last_stmt last u.node) n) (sym q) ∙ ap (λ k. last_maybe k n) (sym e)) h

  pub obliv_so : (v : Facts) (x c : TExpr) (y t : TStmt) (n : Option TStmt) (m : Option ℕ) → s.node ≡ OblivIf c t n → x ≡ c → y ≡ t → m ≡ last_stmt last y.node → v ≡ of_part_after last
      → Judges (whole g w x ++ numbered_whole g v last y ++ numbered_maybe g v m n) (last_maybe m n) z → Judges (numbered_whole g w last s) (last_stmt last s.node) z
  obliv_so v x c y t n m i p q e f h =
      stmt_is (OblivIf c t n) i
      (obliv_at g w last s.spot c t n ∙ ap (λ o. whole g w c ++ numbered_whole g o last t ++ numbered_maybe g o (last_stmt last t.node) n) (sym f)
      ∙ ap (λ u. whole g w u ++ numbered_whole g v last t ++ numbered_maybe g v (last_stmt last t.node) n) (sym p)
      ∙ ap (λ (u : TStmt). whole g w x ++ numbered_whole g v last u ++ numbered_maybe g v (last_stmt last u.node) n) (sym q)
      ∙ ap (λ k. whole g w x ++ numbered_whole g v last y ++ numbered_maybe g v k n) (sym e))
      (last_obliv last c t n ∙ ap (λ (u : TStmt). last_maybe (last_stmt last u.node) n) (sym q) ∙ ap (λ k. last_maybe k n) (sym e)) h

  pub always_so : (v : Facts) (x y : TStmt) (n : ℕ) → s.node ≡ Always n y → x ≡ y → v ≡ of_always → Judges (numbered_whole g v (Some n) x) (last_stmt (Some n) x.node) z
      → Judges (numbered_whole g w last s) (last_stmt last s.node) z
  always_so v x y n i p f h =
      stmt_is (Always n y) i (always_at g w last s.spot n y ∙ ap (λ u. numbered_whole g of_always (Some n) u) (sym p) ∙ ap (λ o. numbered_whole g o (Some n) x) (sym f))
      (last_always last n y ∙ ap (λ (u : TStmt). last_stmt (Some n) u.node) (sym p)) h

  pub while_so : (v : Facts) (x c : TExpr) (y t : TStmt) → s.node ≡ While c t → x ≡ c → y ≡ t → v ≡ in_loop w
      → Judges (whole g w x ++ numbered_whole g v last y) (last_stmt last y.node) z → Judges (numbered_whole g w last s) (last_stmt last s.node) z
  while_so v x c y t i p q f h =
      stmt_is (While c t) i
      (while_at g w last s.spot c t ∙ ap (λ o. whole g w c ++ numbered_whole g o last t) (sym f) ∙ ap (λ u. whole g w u ++ numbered_whole g v last t) (sym p)
      ∙ ap (λ u. whole g w x ++ numbered_whole g v last u) (sym q))
      (last_while last c t ∙ ap (λ (u : TStmt). last_stmt last u.node) (sym q)) h

  pub for_so : (v : Facts) (j : TForInit) (c a : Option TExpr) (y t : TStmt) (m : Option ℕ) → s.node ≡ For j c a t → y ≡ t → v ≡ in_loop w → m ≡ last_header last j
      → Judges (visits_header g w j ++ visits_maybe g w c ++ visits_maybe g w a ++ numbered_whole g v m y) (last_stmt m y.node) z → Judges (numbered_whole g w last s) (last_stmt last s.node) z
  for_so v j c a y t m i q f e h =
      stmt_is (For j c a t) i
      (for_at g w last s.spot j c a t ∙ ap (λ o. visits_header g w j ++ visits_maybe g w c ++ visits_maybe g w a ++ numbered_whole g o (last_header last j) t) (sym f)
      ∙ ap (λ u. visits_header g w j ++ visits_maybe g w c ++ visits_maybe g w a ++ numbered_whole g v (last_header last j) u) (sym q)
      ∙ ap (λ k. visits_header g w j ++ visits_maybe g w c ++ visits_maybe g w a ++ numbered_whole g v k y) (sym e))
      (last_for last j c a t ∙ ap (λ (u : TStmt). last_stmt (last_header last j) u.node) (sym q) ∙ ap (λ k. last_stmt k y.node) (sym e)) h

  pub return_so : (e : Option TExpr) → s.node ≡ Return e → Judges (visits_coming g w g.result e ++ visit F4 s.spot (not w.parted)) last z
      → Judges (numbered_whole g w last s) (last_stmt last s.node) z
  return_so e i h = stmt_is (Return e) i refl refl h

  pub break_so : s.node ≡ Break → Judges (visit F4 s.spot (not (leaves_part w))) last z → Judges (numbered_whole g w last s) (last_stmt last s.node) z
  break_so i h = stmt_is Break i refl refl h

  pub continue_so : s.node ≡ Continue → Judges (visit F4 s.spot (not (leaves_part w))) last z → Judges (numbered_whole g w last s) (last_stmt last s.node) z
  continue_so i h = stmt_is Continue i refl refl h

pub other_so : (g : Context) (w : Facts) (last : Option ℕ) (n : Option TStmt) (x y : TStmt) {z : Result (Option ℕ) ScopeFault} → n ≡ Some y → x ≡ y
    → Judges (numbered_whole g w last x) (last_stmt last x.node) z → Judges (numbered_maybe g w last n) (last_maybe last n) z
other_so g w last n x y {z} e p h = record {
  told = h.told ∙ ap (λ (u : TStmt). answer (first_broken (numbered_whole g w last u)) (last_stmt last u.node)) p
      ∙ ap (λ o. answer (first_broken (numbered_maybe g w last o)) (last_maybe last o)) (sym e);
}

pub function_is : (typed : Typed) (f : TypedFunction) (w : Facts) (last : Option ℕ) (ss : List TStmt) → w ≡ of_body f.obliv → last ≡ last_of f.params → ss ≡ f.body
    → numbered_function typed.structs typed.functions f ≡ numbered_stmts (around typed f) w last ss
function_is typed f w last ss p q e =
    ap (λ v. numbered_stmts (around typed f) v (last_of f.params) f.body) (sym p) ∙ ap (λ k. numbered_stmts (around typed f) w k f.body) (sym q)
    ∙ ap (λ us. numbered_stmts (around typed f) w last us) (sym e)
