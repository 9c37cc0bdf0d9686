-- The code of each form, as the pieces that the Rust code adds.
use Rattle.std.proofs.Common.{ℕ, suc, ◌+◌, ◌≡◌, List, [], ◌∷◌, ◌++◌, length, refl, sym, ap, ◌∙◌, Bool, true, false, arith, append_assoc, OnOk, Result}
use Rattle.oc_values.specs.declared.integers.BinaryOp.{BinaryOp}
use Rattle.oc_values.specs.declared.integers.OneOp.{OneOp}
use Rattle.oc_cells.specs.declared.types.CType.{CType}
use Rattle.oc_cells.specs.Types.{is_hidden, is_pointer}
use Rattle.oc_source.specs.declared.spot.Spot.{Spot}
use Rattle.oc_typed.specs.declared.typed.TExpr.{TExpr}
use Rattle.oc_typed.specs.declared.typed.TPlace.{TPlace}
use Rattle.oc_typed.specs.declared.typed.TExprNode.{TExprNode, PointerStep, Unary, Binary, PointerSame, Logic, Choose, Assign, Update, Convert, Call, Builtin as Known, Row_of-TExpr}
use Rattle.oc_typed.specs.declared.typed.TExprNode.TheBlock.{hidden-the_row-TExpr-0, hidden-the_row-TExpr-1, hidden-the_row-TPlace-2, back-the_row-TExpr}
use Rattle.oc_typed.specs.declared.typed.TPlaceNode.{TPlaceNode, Index, Deref, Field}
use Rattle.oc_typed.specs.declared.typed.Builtin.{Builtin}
use Rattle.oc_walk.specs.Builtins.{source_of}
use denote.Hole.Carrier.{hidden}
use mathlib.Core.Former.{this, list_count, children}
use mathlib.Core.List.{map}
use Rattle.sqlite_items.specs.formers.items.Items.{the_former}
use Rattle.oc_code.specs.declared.code.Line.{Line}
use Rattle.oc_code.specs.declared.code.Instr.TheVariants.{Invoke, Dup, Swap, Load, Store, Discard}
use Rattle.oc_code.specs.Lower.{line, count, below, expr_code, place_code, exprs_code, all_code, ready_code, renew_code, perform_code}
use Rattle.cond_lowering.specs.Pieces.{Piece, Adds}
use Rattle.cond_lowering.specs.Forms.{code_of, place_of, unary_of, binary_of, moved_of, same_of, choose_of, assign_of, convert_of, call_of, deref_of, index_of, field_of, logic, hidden_logic, public_logic, update_of, keeping, own_of, first_source}
use Rattle.cond_lowering.proofs.Adding.{told_as}

-- a list of arguments as the row that the tree keeps
abbrev row_of : (es : List TExpr) → Row_of-TExpr (list_count (this {0}) (map (λ x. (this {0}).shape TExpr x) es) 0)
row_of es = back-the_row-TExpr (list_count (this {0}) (map (λ x. (this {0}).shape TExpr x) es) 0) (children (the_former (this {0})) TExpr es)

count_at : (es : List TExpr) → count (row_of es) ≡ length es
unfolding hidden
count_at [] = refl
count_at (e ∷ es) = ap suc (count_at es)

source_row : (es : List TExpr) → source_of (row_of es) ≡ first_source es
unfolding hidden
source_row [] = refl
source_row (e ∷ es) = refl

module _ (lss : List (List CType)) (d : ℕ) where
  rows_at : (pc : ℕ) (es : List TExpr) → exprs_code lss d pc (row_of es) ≡ all_code lss d pc es
  unfolding hidden
  rows_at pc [] = refl
  rows_at pc (e ∷ es) = ap (λ l. code_of lss d e pc ++ l) (rows_at (pc + length (code_of lss d e pc)) es)

module _ (lss : List (List CType)) (d : ℕ) (p : Spot) (t : CType) (pc : ℕ) where
  pub unary_at : (op : OneOp) (e : TExpr) → expr_code lss d pc p t (Unary op e) ≡ unary_of lss (below d) p t op e pc
  unfolding hidden-the_row-TExpr-0 hidden
  unary_at op e = refl

  pub binary_at : (op : BinaryOp) (l r : TExpr) → expr_code lss d pc p t (Binary op l r) ≡ binary_of lss (below d) p t op l r pc
  unfolding hidden-the_row-TExpr-0 hidden
  binary_at op l r = refl

  pub moved_at : (l r : TExpr) (back first : Bool) → expr_code lss d pc p t (PointerStep l r back first) ≡ moved_of lss (below d) p t l r back first pc
  unfolding hidden-the_row-TExpr-0 hidden
  moved_at l r back true = refl
  moved_at l r back false = refl

  pub same_at : (l r : TExpr) (negated : Bool) → expr_code lss d pc p t (PointerSame l r negated) ≡ same_of lss (below d) p l r negated pc
  unfolding hidden-the_row-TExpr-0 hidden
  same_at l r negated = refl

  pub choose_at : (c l r : TExpr) → expr_code lss d pc p t (Choose c l r) ≡ choose_of lss (below d) p c l r pc
  unfolding hidden-the_row-TExpr-0 hidden
  choose_at c l r = refl

  pub assign_at : (q : TPlace) (e : TExpr) → expr_code lss d pc p t (Assign q e) ≡ assign_of lss (below d) q e pc
  unfolding hidden-the_row-TExpr-0 hidden
  assign_at q e = refl

  pub convert_at : (e : TExpr) → expr_code lss d pc p t (Convert e) ≡ convert_of lss d p t e pc
  unfolding hidden-the_row-TExpr-0 hidden
  convert_at e = refl

  pub call_at : (f : ℕ) (es : List TExpr) → expr_code lss d pc p t (Call f es) ≡ call_of lss d p f es pc
  unfolding hidden-the_row-TExpr-1 hidden
  call_at f es = ap (λ l. l ++ line p (Invoke f (count (row_of es)) (d + 1)) ∷ []) (rows_at lss (below d) pc es) ∙ ap (λ n. all_code lss (below d) pc es ++ line p (Invoke f n (d + 1)) ∷ []) (count_at es)

  pub own_at : (which : Builtin) (es : List TExpr) → expr_code lss d pc p t (Known which es) ≡ own_of lss (below d) p t which es pc
  unfolding hidden-the_row-TExpr-1 hidden
  own_at which es =
      ap (λ l. l ++ perform_code p t (source_of (row_of es)) which (count (row_of es))) (rows_at lss (below d) pc es)
      ∙ ap (λ s. all_code lss (below d) pc es ++ perform_code p t s which (count (row_of es))) (source_row es)
      ∙ ap (λ n. all_code lss (below d) pc es ++ perform_code p t (first_source es) which n) (count_at es)

  logic_public : (all : Bool) (l r : TExpr) (b : Bool) → is_hidden t ≡ b → expr_code lss d pc p t (Logic all l r) ≡ logic lss (below d) p t all l r pc
  unfolding hidden-the_row-TExpr-0 hidden
  logic_public true l r true h = rw h refl
  logic_public true l r false h = rw h refl
  logic_public false l r true h = rw h refl
  logic_public false l r false h = rw h refl

  pub logic_at : (all : Bool) (l r : TExpr) → expr_code lss d pc p t (Logic all l r) ≡ logic lss (below d) p t all l r pc
  logic_at all l r = logic_public all l r (is_hidden t) refl

  pub update_at : (op : BinaryOp) (q : TPlace) (e : TExpr) (old : Bool) → expr_code lss d pc p t (Update op q e old) ≡ update_of lss (below d) p op q e old pc
  unfolding hidden-the_row-TExpr-0 hidden
  update_at op q e false =
      let u = q.ty in
      let b = ready_code (is_pointer u) p op u e.ty in
      let c = renew_code (is_pointer u) lss p op u e.ty ++ line q.spot (Store u) ∷ [] in
      let a = place_of lss (below d) q pc in
      ap (λ l. a ++ (line p Dup ∷ (code_of lss (below d) e (pc + length a + 1) ++ (line p Swap ∷ (line q.spot (Load u) ∷ l))))) (sym (append_assoc b (line p Swap ∷ []) c))
  update_at op q e true =
      let u = q.ty in
      let a = place_of lss (below d) q pc in
      let b = ready_code (is_pointer u) p op u e.ty in
      let n : pc + length a + 1 + 1 + 1 + 1 + 1 + length b ≡ pc + length a + length (keeping p q.spot op u e.ty) = omega arith in
      ap (λ i. a ++ (line p Dup ∷ (line q.spot (Load u) ∷ (line p Swap ∷ (line p Dup ∷ (line q.spot (Load u)
      ∷ (b ++ (code_of lss (below d) e i ++ (renew_code (is_pointer u) lss p op u e.ty ++ (line q.spot (Store u) ∷ (line p Discard ∷ []))))))))))) n

  pub deref_at : (e : TExpr) → place_code lss d pc p t (Deref e) ≡ deref_of lss (below d) p e pc
  unfolding hidden-the_row-TExpr-0 hidden
  deref_at e = refl

  pub index_at : (l r : TExpr) → place_code lss d pc p t (Index l r) ≡ index_of lss (below d) p t l r pc
  unfolding hidden-the_row-TExpr-0 hidden
  index_at l r = refl

  pub field_at : (b : TPlace) (n : ℕ) → place_code lss d pc p t (Field b n) ≡ field_of lss (below d) p b n pc
  unfolding hidden-the_row-TPlace-2 hidden
  field_at b n = refl

-- a node as the piece that its form has
pub node_as : {T E : Type 0} (lss : List (List CType)) (d : ℕ) (e : TExpr) (n : TExprNode) (a : Piece) (c0 c1 : List Line) (r : Result T E)
    → OnOk r (Adds c0 a c1) → e.node ≡ n → expr_code lss d (length c0) e.spot e.ty n ≡ a (length c0) → OnOk r (Adds c0 (code_of lss d e) c1)
node_as lss d e n a c0 c1 r h i v = told_as c0 c1 a (code_of lss d e) r h (ap (λ m. expr_code lss d (length c0) e.spot e.ty m) i ∙ v)

pub place_as : {T E : Type 0} (lss : List (List CType)) (d : ℕ) (q : TPlace) (n : TPlaceNode) (a : Piece) (c0 c1 : List Line) (r : Result T E)
    → OnOk r (Adds c0 a c1) → q.node ≡ n → place_code lss d (length c0) q.spot q.ty n ≡ a (length c0) → OnOk r (Adds c0 (place_of lss d q) c1)
place_as lss d q n a c0 c1 r h i v = told_as c0 c1 a (place_of lss d q) r h (ap (λ m. place_code lss d (length c0) q.spot q.ty m) i ∙ v)

-- `&&` and `||` of hidden operands, and of public ones
pub logic_hidden : (lss : List (List CType)) (d : ℕ) (p : Spot) (t : CType) (all : Bool) (l r : TExpr) (n : ℕ) → is_hidden t ≡ true
    → logic lss d p t all l r n ≡ hidden_logic lss d p all l r n
logic_hidden lss d p t all l r n h = rw h refl

pub logic_shown : (lss : List (List CType)) (d : ℕ) (p : Spot) (t : CType) (all b : Bool) (l r : TExpr) (n : ℕ) → is_hidden t ≡ false → all ≡ b
    → logic lss d p t all l r n ≡ public_logic lss d p b l r n
logic_shown lss d p t true true l r n h q = rw h refl
logic_shown lss d p t false false l r n h q = rw h refl
logic_shown lss d p t true false l r n h q = absurd cc
logic_shown lss d p t false true l r n h q = absurd cc
