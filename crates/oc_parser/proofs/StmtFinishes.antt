-- Statements take as many tokens as they are deep, blocks in blocks included.
use Rattle.std.proofs.Common.{ℕ, ◌+◌, max, List, [], ◌∷◌, ◌++◌, map, Option, refl, ap, ◌∙◌, arith, append_assoc}
use Rattle.std.specs.Option.{option_map_or}
use Rattle.oc_source.specs.declared.parsed.BaseName.{BaseName}
use Rattle.oc_source.specs.declared.parsed.Declared.{Declared}
use Rattle.oc_source.specs.declared.parsed.Expr.{Expr}
use Rattle.oc_source.specs.declared.parsed.ForInit.{ForInit}
use Rattle.oc_source.specs.declared.parsed.Stmt.{Stmt}
use Rattle.oc_source.specs.declared.parsed.StmtNode.TheVariants as st
use Rattle.oc_source.specs.Parsed.{stmt}
use Rattle.oc_lexer.specs.declared.token.Token.{Token}
use Rattle.oc_lexer.specs.declared.token.TokenKind.TheVariants.{Sign}
use Rattle.oc_lexer.specs.declared.token.Sign.{Sign as SignType}
use Rattle.oc_lexer.specs.declared.token.Sign.TheVariants as s
use Rattle.oc_grammar.specs.Tokens.{Is, spot_at}
use Rattle.oc_grammar.specs.WrittenTypes.{Commas}
use Rattle.oc_grammar.specs.Expressions.{before}
use Rattle.oc_grammar.specs.Statements.{Initialised, bare, set, Declaration, declaration, Condition, condition, Perhaps, absent, given, Init, nothing, declares, expresses, Statement, empty, express, block, returns, breaks, continues, if, obliv_if, always, while, for, Branches, one, two, Block, braces, Steps, no_step, a_declaration, a_statement}
use Rattle.oc_source.specs.Depth.{greatest, expr_depth, declared_depth, init_depth, stmt_depth, stmts_depth}
use Rattle.oc_parser.proofs.Flows.{Flow, then, less, within, plain, opens, closes, semicolon, after, between}
use Rattle.oc_parser.proofs.TypeFlows.{base_flow, declr_flow, commas_flow}
use Rattle.oc_parser.proofs.ExprFlows.{expr_flow, before_flow}
use Rattle.oc_parser.proofs.StmtDepths.{depth_Declare, depth_Express, depth_Block, depth_If, depth_OblivIf, depth_Always, depth_While, depth_For, depth_Return, depth_Break, depth_Continue, depth_Empty}
use Rattle.oc_parser.proofs.Finishes.{Finishes, Series, end_less, over, semicolon_ends, then_ends, else_ends, series_less, empty_series, series_of, two_series, braces_end}

-- ---- what stands in a statement

initialised_flow : {b : BaseName} (v : Declared) (x : List Token) → Initialised b v x → Flow 0 0 (declared_depth v) x
initialised_flow v x (bare d) = less (omega arith) (declr_flow d)
initialised_flow v x (set d i g) = less (omega arith) (then (declr_flow d) (after refl i (expr_flow g)))

names_flow : {b : BaseName} {ds : List Declared} {x : List Token} → Commas (Initialised b) ds x → Flow 0 0 (greatest (map declared_depth ds)) x
names_flow c = commas_flow declared_depth initialised_flow c

declaration_ends : {b : BaseName} {ds : List Declared} {x : List Token} → Declaration b ds x → Finishes (greatest (map declared_depth ds) + 1) x
declaration_ends (declaration b c i) = end_less (omega arith) (then_ends (base_flow b) (then_ends (names_flow c) (semicolon_ends i)))

declaration_flow : {b : BaseName} {ds : List Declared} {x : List Token} → Declaration b ds x → Flow 1 1 (greatest (map declared_depth ds)) x
declaration_flow (declaration b c i) = less (omega arith) (then (within 1 (base_flow b)) (then (within 1 (names_flow c)) (semicolon i)))

condition_flow : {c : Expr} {x : List Token} → Condition c x → Flow 0 0 (expr_depth c) x
condition_flow (condition i b) = less (omega arith) (then (opens refl i) (before_flow 1 0 (λ t j. closes refl j) b))

perhaps_flow : {sign : SignType} {v : Option Expr} {x : List Token} (b : ℕ) → ((t : Token) → Is (Sign sign) t → Flow 1 b 1 (t ∷ [])) → Perhaps sign v x → Flow 1 b (option_map_or expr_depth v 0) x
perhaps_flow b h (absent {t = t} i) = less (omega arith) (h t i)
perhaps_flow b h (given d) = less (omega arith) (before_flow 1 b h d)

perhaps_ends : {v : Option Expr} {x : List Token} → Perhaps s.Semicolon v x → Finishes (option_map_or expr_depth v 0 + 1) x
perhaps_ends (absent i) = semicolon_ends i
perhaps_ends (given (before d i)) = then_ends (expr_flow d) (semicolon_ends i)

init_flow : {i : ForInit} {x : List Token} → Init i x → Flow 1 1 (init_depth i) x
init_flow (nothing i) = less (omega arith) (semicolon i)
init_flow (declares d) = declaration_flow d
init_flow (expresses b) = less (omega arith) (before_flow 1 1 (λ t i. semicolon i) b)

-- the header of a `for`, and its body
header_ends : {k l m n q : ℕ} {t : Token} {ws xs ys zs : List Token} → Flow 0 1 k (t ∷ []) → Flow 1 1 l ws → Flow 1 1 m xs → Flow 1 0 n ys → Finishes q zs → Finishes (k + (l + (m + n)) + q) (t ∷ (ws ++ (xs ++ (ys ++ zs))))
header_ends {t = t} {ws = ws} {xs = xs} {ys = ys} {zs = zs} f g h i e = over (ap (λ ts. t ∷ ts) (append_assoc ws (xs ++ ys) zs ∙ ap (λ ts. ws ++ ts) (append_assoc xs ys zs))) (then_ends (then f (then g (then h i))) e)

-- ---- statements

mutual
  stmt_ends : {v : Stmt} {x : List Token} → Statement v x → Finishes (stmt_depth v) x
  stmt_ends (empty {t = t} i) = end_less (omega (arith, depth_Empty t.spot)) (semicolon_ends i)
  stmt_ends (express {v = v} {x = x} (before d i)) = end_less (omega (arith, depth_Express (spot_at x) v)) (then_ends (expr_flow d) (semicolon_ends i))
  stmt_ends (block {vs = vs} {x = x} b) = end_less (omega (arith, depth_Block (spot_at x) vs)) (block_ends b)
  stmt_ends (returns {t = t} {v = v} i d) = end_less (omega (arith, depth_Return t.spot v)) (then_ends (plain refl i) (perhaps_ends d))
  stmt_ends (breaks {t = t} i j) = end_less (omega (arith, depth_Break t.spot)) (then_ends (plain refl i) (semicolon_ends j))
  stmt_ends (continues {t = t} i j) = end_less (omega (arith, depth_Continue t.spot)) (then_ends (plain refl i) (semicolon_ends j))
  stmt_ends (if {t = t} {c = c} {y = y} {n = n} i d b) = end_less (omega (arith, depth_If t.spot c y n)) (then_ends (plain refl i) (then_ends (condition_flow d) (branches_end b)))
  stmt_ends (obliv_if {o = o} {c = c} {y = y} {n = n} i j d b) = end_less (omega (arith, depth_OblivIf o.spot c y n)) (then_ends (after refl i (plain refl j)) (then_ends (condition_flow d) (branches_end b)))
  stmt_ends (always {a = a} {name = name} {vs = vs} {x = x} i j k l m b) = end_less (omega (arith, depth_Always a.spot name (stmt (spot_at x) (st.Block vs)), depth_Block (spot_at x) vs)) (then_ends (after refl i (after refl j (between refl refl k (plain refl l) m))) (block_ends b))
  stmt_ends (while {t = t} {c = c} {b = b} i d g) = end_less (omega (arith, depth_While t.spot c b)) (then_ends (plain refl i) (then_ends (condition_flow d) (stmt_ends g)))
  stmt_ends (for {t = t} {i = k} {c = c} {a = a} {b = b} i j d g h e) = end_less (omega (arith, depth_For t.spot k c a b)) (then_ends (plain refl i) (header_ends (opens refl j) (init_flow d) (perhaps_flow 1 (λ u l. semicolon l) g) (perhaps_flow 0 (λ u l. closes refl l) h) (stmt_ends e)))

  branches_end : {y : Stmt} {n : Option Stmt} {x : List Token} → Branches y n x → Finishes (max (stmt_depth y) (option_map_or stmt_depth n 0)) x
  branches_end (one d) = end_less (omega arith) (stmt_ends d)
  branches_end (two d h i g) = else_ends (stmt_ends d) i (stmt_ends g)

  pub block_ends : {vs : List Stmt} {x : List Token} → Block vs x → Finishes (stmts_depth vs + 1) x
  block_ends (braces i d j) = braces_end i (steps_series d) j

  steps_series : {vs : List Stmt} {x : List Token} → Steps vs x → Series (stmts_depth vs) x
  steps_series no_step = empty_series
  steps_series (a_declaration {b = b} {ds = ds} d g) = series_less (omega (arith, depth_Declare b.spot ds)) (two_series (series_of (declaration_ends d)) (steps_series g))
  steps_series (a_statement d g) = two_series (series_of (stmt_ends d)) (steps_series g)
