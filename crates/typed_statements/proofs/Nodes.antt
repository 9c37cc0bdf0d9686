-- The rules at each form of a statement, as the code opens it.
use Rattle.std.proofs.Common.{ℕ, ◌≡◌, List, [], ◌∷◌, length, Option, Some, None, Bool, true, false, Result, Ok, Err, refl, ap, sym, ◌∙◌, subst}
use Rattle.oc_values.specs.declared.integers.IntKind.TheVariants.{Bool as KBool}
use Rattle.oc_cells.specs.declared.types.CType.{Int}
use Rattle.oc_cells.specs.Types.{is_integer}
use Rattle.oc_source.specs.declared.spot.Spot.{Spot}
use Rattle.oc_source.specs.declared.parsed.Expr.{Expr}
use Rattle.oc_source.specs.declared.parsed.ForInit.{ForInit}
use Rattle.oc_source.specs.declared.parsed.Stmt.{Stmt}
use Rattle.oc_source.specs.declared.parsed.StmtNode.{StmtNode, Block, If, OblivIf, Always, While, For, Row_of-Stmt}
use Rattle.oc_source.specs.declared.parsed.StmtNode.TheBlock.{hidden-the_row-Stmt-0, hidden-the_row-Stmt-1, back-the_row-Stmt}
use Rattle.oc_typed.specs.declared.typed.TStmt.{TStmt, roll-TStmt}
use Rattle.oc_typed.specs.declared.typed.TStmtNode as s
use Rattle.type_rules.specs.declared.judging.TypeRule.TheVariants.{T3}
use Rattle.type_rules.specs.Judging.{Judged, next, needs, public_integer}
use Rattle.type_rules.specs.Lookup.{Lookup, converted}
use Rattle.type_rules.specs.StatementRules as rules
use Rattle.type_rules.specs.StatementRules.{Walk, bind, ask, pure, scoped, value_in, add, made, stmt, stmts}
use Rattle.type_rules.specs.ProgramRules.{statements}
use Rattle.type_steps.specs.declared.fault.TypeFault.{TypeFault}
use Rattle.visible_variables.specs.declared.scope.Scope.{Scope}
use Rattle.visible_variables.specs.Scopes.{scope_of}
use Rattle.sqlite_items.specs.formers.items.Items.{the_former}
use denote.Hole.Carrier.{hidden}
use mathlib.Core.Former.{this, list_count, children}
use mathlib.Core.List.{map}
use Rattle.typed_statements.specs.Walking.{Kept, Does}
use Rattle.typed_statements.specs.Parts.{whole, part_of, other_of, all_of, for_within, always_within}
use Rattle.typed_statements.proofs.Walks.{ends_as, told, walks, halts, still, from_made}

-- statements as the row that the tree keeps
abbrev row_of : (cs : List Stmt) → Row_of-Stmt (list_count (this {0}) (map (λ x. (this {0}).shape Stmt x) cs) 0)
row_of cs = back-the_row-Stmt (list_count (this {0}) (map (λ x. (this {0}).shape Stmt x) cs) 0) (children (the_former (this {0})) Stmt cs)

pub next_same : {A B : Type 0} (m : Judged A) (k l : A → Judged B) → ((a : A) → k a ≡ l a) → next m k ≡ next m l
unfolding next
next_same (Ok a) k l h = h a
next_same (Err f) k l h = refl

-- what may be judged in one way may in another that is the same everywhere
bind_same : {A B : Type 0} (m n : Walk A) (k : A → Walk B) (z : rules.Scope) → m z ≡ n z → bind m k z ≡ bind n k z
bind_same m n k z h = ap (λ j. next j (λ r. k r.0 r.1)) h

rows_at : (g : Lookup) (loop : Bool) (cs : List Stmt) (z : rules.Scope) → stmts g loop (row_of cs) z ≡ all_of g loop cs z
unfolding hidden
rows_at g loop [] z = refl
rows_at g loop (c ∷ cs) z =
    next_same (whole g loop c z) (λ r. bind (stmts g loop (row_of cs)) (λ ys. pure (r.0 ∷ ys)) r.1) (λ r. bind (all_of g loop cs) (λ ys. pure (r.0 ∷ ys)) r.1)
    (λ r. bind_same (stmts g loop (row_of cs)) (all_of g loop cs) (λ ys. pure (r.0 ∷ ys)) r.1 (rows_at g loop cs r.1))

-- the statements of a body are statements in order
pub body_at : (g : Lookup) (cs : List Stmt) (z : rules.Scope) → statements g cs z ≡ all_of g false cs z
body_at g [] z = refl
body_at g (c ∷ cs) z =
    next_same (whole g false c z) (λ r. bind (statements g cs) (λ ys. pure (r.0 ∷ ys)) r.1) (λ r. bind (all_of g false cs) (λ ys. pure (r.0 ∷ ys)) r.1)
    (λ r. bind_same (statements g cs) (all_of g false cs) (λ ys. pure (r.0 ∷ ys)) r.1 (body_at g cs r.1))

module _ (g : Lookup) (loop : Bool) (p : Spot) (z : rules.Scope) where
  block_row : (cs : List Stmt) → stmt g loop p (Block cs) z ≡ bind (scoped (stmts g loop (row_of cs))) (λ xs. made p (s.Block xs)) z
  unfolding hidden-the_row-Stmt-1 hidden
  block_row cs = refl

  pub block_at : (cs : List Stmt) → bind (scoped (all_of g loop cs)) (λ xs. made p (s.Block xs)) z ≡ stmt g loop p (Block cs) z
  block_at cs =
      sym (block_row cs ∙ bind_same (scoped (stmts g loop (row_of cs))) (scoped (all_of g loop cs)) (λ xs. made p (s.Block xs)) z
      (ap (λ j. next j (λ r. Ok (r.0, record { seen = z.seen; slots = r.1.slots; outer = z.outer }))) (rows_at g loop cs _)))

  pub if_at : (c : Expr) (y : Stmt) (n : Option Stmt)
      → bind (value_in g c) (λ v. bind (ask (public_integer p v.ty)) (λ _. bind (part_of g loop y) (λ a. bind (other_of g loop n) (λ b. made p (s.If v a b))))) z
      ≡ stmt g loop p (If c y n) z
  unfolding hidden-the_row-Stmt-0 hidden-the_row-Stmt-1 hidden
  if_at c y None = refl
  if_at c y (Some n) = refl

  pub obliv_at : (c : Expr) (y : Stmt) (n : Option Stmt)
      → bind (value_in g c) (λ v. bind (ask (needs p T3 (is_integer v.ty))) (λ _. bind (part_of g loop y) (λ a.
      bind (other_of g loop n) (λ b. made p (s.OblivIf (converted (Int KBool true) v) a b))))) z
      ≡ stmt g loop p (OblivIf c y n) z
  unfolding hidden-the_row-Stmt-0 hidden-the_row-Stmt-1 hidden
  obliv_at c y None = refl
  obliv_at c y (Some n) = refl

  pub always_at : (x : List ℕ) (b : Stmt) → scoped (always_within g loop p x b) z ≡ stmt g loop p (Always x b) z
  unfolding hidden-the_row-Stmt-0 hidden-the_row-Stmt-1 hidden
  always_at x b = refl

  pub while_at : (c : Expr) (b : Stmt)
      → bind (value_in g c) (λ v. bind (ask (public_integer p v.ty)) (λ _. bind (part_of g true b) (λ a. made p (s.While v a)))) z
      ≡ stmt g loop p (While c b) z
  unfolding hidden-the_row-Stmt-0 hidden-the_row-Stmt-1 hidden
  while_at c b = refl

  pub for_at : (i : ForInit) (c v : Option Expr) (b : Stmt) → scoped (for_within g p i c v b) z ≡ stmt g loop p (For i c v b) z
  unfolding hidden-the_row-Stmt-0 hidden-the_row-Stmt-1 hidden
  for_at i c v b = refl

-- a statement, where its node is known
pub by_node : (g : Lookup) (loop : Bool) (c : Stmt) (n : StmtNode) {old new : Scope} {r : Result TStmt TypeFault} → c.node ≡ n
    → Does (stmt g loop c.spot n) old r new → Does (whole g loop c) old r new
by_node g loop c n {old} h x = ends_as (ap (λ k. stmt g loop c.spot k (scope_of old)) (sym h)) x

module _ (g : Lookup) (loop : Bool) (p : Spot) (x : List ℕ) (b : Stmt) {old mid new : Scope} where
  -- a part breaks a rule, after its mark was added
  pub mark_fails : {f h : TypeFault} {r : Result TStmt TypeFault} → scope_of mid ≡ add x (Int KBool true) false (scope_of old) → Kept old mid
      → Does {A = TStmt} (part_of g loop b) mid (Err f) new → r ≡ Err h → h ≡ f → Does (always_within g loop p x b) old r new
  mark_fails e k d y z =
      told _ _ {a = (length old.slots, add x (Int KBool true) false (scope_of old))} (record { said = refl })
      (from_made (bind (part_of g loop b) (λ a. made p (s.Always (length old.slots) a))) e k (halts _ _ d y z))

  -- a part is judged, after its mark was added
  pub mark_done : {n : ℕ} {a : TStmt} → n ≡ length old.slots → scope_of mid ≡ add x (Int KBool true) false (scope_of old) → Kept old mid
      → Does (part_of g loop b) mid (Ok a) new → Does (always_within g loop p x b) old (Ok (roll-TStmt (record { spot = p; node = s.Always n a }))) new
  mark_done {n} {a} q e k d =
      subst (λ m. Does (always_within g loop p x b) old (Ok (roll-TStmt (record { spot = p; node = s.Always m a }))) new) (sym q)
      (told _ _ {a = (length old.slots, add x (Int KBool true) false (scope_of old))} (record { said = refl })
      (from_made (bind (part_of g loop b) (λ a. made p (s.Always (length old.slots) a))) e k (walks _ _ d (still _ _ d.ended.1.sound))))
