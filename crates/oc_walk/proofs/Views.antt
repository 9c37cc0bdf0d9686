-- The walk at each form of a node, as the code opens it.
use Rattle.std.proofs.Common.{ℕ, ◌≡◌, List, Option, Some, None, Bool, true, false, refl}
use Rattle.oc_values.specs.declared.integers.BinaryOp.{BinaryOp}
use Rattle.oc_values.specs.declared.integers.OneOp.{OneOp}
use Rattle.oc_values.specs.declared.integers.IntKind.TheVariants.{Bool as KBool, I32}
use Rattle.oc_cells.specs.declared.types.CType.{CType}
use Rattle.oc_cells.specs.Types.{kind_of, is_hidden, target, alike}
use Rattle.oc_cells.specs.Layout.{size_of}
use Rattle.oc_cells.specs.declared.memory.Address.TheVariants.{At}
use Rattle.oc_source.specs.declared.spot.Spot.{Spot}
use Rattle.oc_typed.specs.declared.typed.TExpr.{TExpr}
use Rattle.oc_typed.specs.declared.typed.TPlace.{TPlace}
use Rattle.oc_typed.specs.declared.typed.TExprNode.{Read, AddressOf, Decay, Unary, Binary, PointerStep, PointerSame, Logic, Choose, Assign, Update, Convert, Call, Builtin as Known}
use Rattle.oc_typed.specs.declared.typed.TExprNode.TheBlock.{hidden-the_row-TExpr-0, hidden-the_row-TExpr-1, hidden-the_row-TPlace-2}
use Rattle.oc_typed.specs.declared.typed.TPlaceNode.{Deref, Index, Field}
use Rattle.oc_typed.specs.declared.typed.Builtin.{Builtin}
use Rattle.oc_typed.specs.declared.typed.TForInit.{TForInit}
use Rattle.oc_typed.specs.declared.typed.TStmt.{TStmt}
use Rattle.oc_typed.specs.declared.typed.TStmtNode.{Block, If, Always, While, For}
use Rattle.oc_typed.specs.declared.typed.TStmtNode.TheBlock.{hidden-the_row-TStmt-0, hidden-the_row-TStmt-1}
use Rattle.oc_typed.specs.Static.{same_spot}
use denote.Hole.Carrier.{hidden}
use Rattle.oc_walk.specs.declared.run.Value.TheVariants.{Pointer, Hidden}
use Rattle.oc_walk.specs.Domain.{Domain}
use Rattle.oc_walk.specs.Walking.{Site, deeper, bind, pure, choose, still, scoped}
use Rattle.oc_walk.specs.Cells.{A, V, Only, gets, fetches, sets, same_places, follows, moves}
use Rattle.oc_walk.specs.Operations.{unaries, operates, tests, turns}
use mathlib.Core.Former.{this, list_count, children}
use mathlib.Core.List.{map}
use Rattle.sqlite_items.specs.formers.items.Items.{the_former}
use Rattle.oc_typed.specs.declared.typed.TExprNode.TheBlock.{back-the_row-TExpr}
use Rattle.oc_typed.specs.declared.typed.TStmtNode.TheBlock.{back-the_row-TStmt}
use Rattle.oc_typed.specs.declared.typed.TExprNode.{Row_of-TExpr}
use Rattle.oc_typed.specs.declared.typed.TStmtNode.{Row_of-TStmt}
use Rattle.oc_walk.specs.Walking.{ahead}
use Rattle.std.specs.Prelude.{slice_get, if◌then◌else◌, ◌∷◌, []}
use Rattle.std.proofs.Common.{ap}
use Rattle.oc_walk.specs.declared.run.Flow.TheVariants.{Next}
use Rattle.oc_walk.specs.Cells.{opens, puts, typed_slot}
use Rattle.oc_walk.specs.Builtins.{source_of, source_at}
use Rattle.oc_walk.specs.Expressions.{exprs}
use Rattle.oc_walk.specs.Statements.{stmts, stepped, proceed}
use Rattle.oc_walk.specs.declared.run.Source.{Source}
use Rattle.oc_walk.specs.declared.run.Source.TheVariants.{Public}
use Rattle.oc_walk.specs.Builtins.{performs}
use Rattle.oc_walk.specs.Expressions.{Under, under, whole, expr, place, stepping, both_or_one, decided, assigns, readied, renewed, converted, solely, tested}
use Rattle.oc_walk.specs.Statements.{F, node, listed, loop, header, tested_or, advances}

-- a list of arguments, and of statements, as the row that the tree keeps
abbrev row_of : (es : List TExpr) → Row_of-TExpr (list_count (this {0}) (map (λ x. (this {0}).shape TExpr x) es) 0)
row_of es = back-the_row-TExpr (list_count (this {0}) (map (λ x. (this {0}).shape TExpr x) es) 0) (children (the_former (this {0})) TExpr es)

abbrev stmts_of : (ss : List TStmt) → Row_of-TStmt (list_count (this {0}) (map (λ x. (this {0}).shape TStmt x) ss) 0)
stmts_of ss = back-the_row-TStmt (list_count (this {0}) (map (λ x. (this {0}).shape TStmt x) ss) 0) (children (the_former (this {0})) TStmt ss)

-- the walk of a list of expressions
abbrev pub all_of : (D : Domain) → Site → Under D → List TExpr → A D (List (V D))
all_of D x w [] = pure []
all_of D x w (e ∷ es) = bind (whole D x w e) (λ v. bind (all_of D x w es) (λ vs. pure (v ∷ vs)))

-- the source of a feed whose arguments these are
abbrev pub source_in : List TExpr → Source
source_in [] = Public
source_in (e ∷ es) = source_at e.spot e.node

module _ (D : Domain) where
  rows_at : (x : Site) (w : Under D) (es : List TExpr) → exprs D x w (row_of es) ≡ all_of D x w es
  unfolding hidden
  rows_at x w [] = refl
  rows_at x w (e ∷ es) = ap (λ m. bind (whole D x w e) (λ v. bind m (λ vs. pure (v ∷ vs)))) (rows_at x w es)

  source_row : (es : List TExpr) → source_of (row_of es) ≡ source_in es
  unfolding hidden
  source_row [] = refl
  source_row (e ∷ es) = refl

  listed_at : (x : Site) (w : Under D) (ss : List TStmt) → stmts D x w (stmts_of ss) ≡ listed D x w ss
  unfolding hidden
  listed_at x w [] = refl
  listed_at x w (s ∷ ss) = ap (λ m. bind (stepped D x w s) (λ f. proceed D f m)) (listed_at x w ss)

  module _ (x : Site) (w : Under D) (p : Spot) (t : CType) where
    pub read_at : (q : TPlace) → expr D x w p t (Read q) ≡ bind (place D (deeper x) w q.spot q.ty q.node) (λ g. still (fetches D q.spot q.ty g))
    read_at q = refl

    pub address_at : (q : TPlace) → expr D x w p t (AddressOf q) ≡ bind (place D (deeper x) w q.spot q.ty q.node) (λ g. bind (solely D q.spot g) (λ a. pure (Pointer a)))
    address_at q = refl

    pub decay_at : (q : TPlace) → expr D x w p t (Decay q) ≡ bind (place D (deeper x) w q.spot q.ty q.node) (λ g. bind (solely D q.spot g) (λ a. pure (Pointer a)))
    decay_at q = refl

    pub unary_at : (op : OneOp) (e : TExpr) → expr D x w p t (Unary op e) ≡ bind (whole D (deeper x) w e) (λ v. still (unaries D p op (kind_of e.ty) (is_hidden t) v))
    unfolding hidden-the_row-TExpr-0 hidden
    unary_at op e = refl

    pub binary_at : (op : BinaryOp) (l r : TExpr) → expr D x w p t (Binary op l r) ≡ bind (whole D (deeper x) w l) (λ v. bind (whole D (deeper x) w r) (λ z. still (operates D p op (kind_of l.ty) (is_hidden t) v z)))
    unfolding hidden-the_row-TExpr-0 hidden
    binary_at op l r = refl

    pub step_at : (l r : TExpr) (back : Bool) → expr D x w p t (PointerStep l r back false) ≡ bind (whole D (deeper x) w l) (λ v. bind (whole D (deeper x) w r) (λ n. stepping D p (size_of x.run.structs (target t)) back v n))
    unfolding hidden-the_row-TExpr-0 hidden
    step_at l r back = refl

    pub step_first_at : (l r : TExpr) (back : Bool) → expr D x w p t (PointerStep l r back true) ≡ bind (whole D (deeper x) w r) (λ n. bind (whole D (deeper x) w l) (λ v. stepping D p (size_of x.run.structs (target t)) back v n))
    unfolding hidden-the_row-TExpr-0 hidden
    step_first_at l r back = refl

    pub same_at : (l r : TExpr) (negated : Bool) → expr D x w p t (PointerSame l r negated) ≡ bind (whole D (deeper x) w l) (λ v. bind (whole D (deeper x) w r) (λ z. still (same_places D p negated v z)))
    unfolding hidden-the_row-TExpr-0 hidden
    same_at l r negated = refl

    pub logic_at : (all : Bool) (l r : TExpr) → expr D x w p t (Logic all l r) ≡
        choose (is_hidden t)
        (bind (whole D (deeper x) w l) (λ v. bind (whole D (deeper x) w r) (λ z. still (operates D p (both_or_one D all) KBool true v z))))
        (bind (whole D (deeper x) w l) (λ v. bind (still (tests D p v)) (λ b. choose (alike all b) (bind (whole D (deeper x) w r) (λ z. still (turns D p KBool I32 false z))) (pure (decided D b)))))
    unfolding hidden-the_row-TExpr-0 hidden
    logic_at all l r = refl

    pub choose_at : (c l r : TExpr) → expr D x w p t (Choose c l r) ≡ bind (whole D (deeper x) w c) (λ v. bind (still (tests D p v)) (λ b. choose b (whole D (deeper x) w l) (whole D (deeper x) w r)))
    unfolding hidden-the_row-TExpr-0 hidden
    choose_at c l r = refl

    pub assign_at : (q : TPlace) (e : TExpr) → expr D x w p t (Assign q e) ≡ bind (place D (deeper x) w q.spot q.ty q.node) (λ g. bind (whole D (deeper x) w e) (λ v. assigns D x w.enable q.spot e.spot q.ty g v))
    unfolding hidden-the_row-TExpr-0 hidden
    assign_at q e = refl

    pub update_at : (op : BinaryOp) (q : TPlace) (e : TExpr) → expr D x w p t (Update op q e false) ≡
        bind (place D (deeper x) w q.spot q.ty q.node) (λ g. bind (whole D (deeper x) w e) (λ v. bind (still (gets D q.spot q.ty g)) (λ o. bind (readied D p op q.ty e.ty o) (λ y. bind (renewed D x p op q.ty e.ty y v) (λ z. still (sets D q.spot w.enable q.ty g z))))))
    unfolding hidden-the_row-TExpr-0 hidden
    update_at op q e = refl

    pub old_at : (op : BinaryOp) (q : TPlace) (e : TExpr) → expr D x w p t (Update op q e true) ≡
        bind (place D (deeper x) w q.spot q.ty q.node) (λ g. bind (still (gets D q.spot q.ty g)) (λ old. bind (still (gets D q.spot q.ty g)) (λ o. bind (readied D p op q.ty e.ty o) (λ y. bind (whole D (deeper x) w e) (λ v. bind (renewed D x p op q.ty e.ty y v) (λ z. bind (still (sets D q.spot w.enable q.ty g z)) (λ _. pure old)))))))
    unfolding hidden-the_row-TExpr-0 hidden
    old_at op q e = refl

    pub convert_at : (e : TExpr) → expr D x w p t (Convert e) ≡ bind (whole D (if same_spot p e.spot then x else deeper x) w e) (λ v. converted D p e.ty t v)
    unfolding hidden-the_row-TExpr-0 hidden
    convert_at e = refl

    pub call_at : (f : ℕ) (es : List TExpr) → expr D x w p t (Call f es) ≡ bind (all_of D (deeper x) w es) (λ vs. w.call p f w.enable x.room vs)
    unfolding hidden-the_row-TExpr-1 hidden
    call_at f es = ap (λ m. bind m (λ vs. w.call p f w.enable x.room vs)) (rows_at (deeper x) w es)

    pub builtin_at : (which : Builtin) (es : List TExpr) → expr D x w p t (Known which es) ≡ bind (all_of D (deeper x) w es) (λ vs. performs D x p t (source_in es) which vs)
    unfolding hidden-the_row-TExpr-1 hidden
    builtin_at which es = rw (rows_at (deeper x) w es, source_row es) refl

    pub deref_at : (e : TExpr) → place D x w p t (Deref e) ≡ bind (whole D (deeper x) w e) (λ v. bind (still (follows D p v)) (λ a. pure (Only a)))
    unfolding hidden-the_row-TExpr-0 hidden
    deref_at e = refl

    pub index_at : (l r : TExpr) → place D x w p t (Index l r) ≡ bind (whole D (deeper x) w l) (λ v. bind (whole D (deeper x) w r) (λ n. bind (still (moves D p (size_of x.run.structs t) false v n)) (λ a. pure (Only a))))
    unfolding hidden-the_row-TExpr-0 hidden
    index_at l r = refl

    pub field_at : (b : TPlace) (n : ℕ) → place D x w p t (Field b n) ≡ bind (place D (deeper x) w b.spot b.ty b.node) (λ g. bind (solely D p g) (λ a. pure (Only (ahead n a))))
    unfolding hidden-the_row-TPlace-2 hidden
    field_at b n = refl

  -- a statement as a part of another one
  abbrev pub part_of : Site → Under D → TStmt → A D (F D)
  part_of x w s = scoped (stepped D x w s)

  -- the part after an `else`, if there is one
  abbrev pub other_of : Site → Under D → Option TStmt → A D (F D)
  other_of x w None = pure Next
  other_of x w (Some s) = part_of x w s

  module _ (x : Site) (w : Under D) (p : Spot) where
    pub block_at : (ss : List TStmt) → node D x w p (Block ss) ≡ scoped (listed D x w ss)
    unfolding hidden-the_row-TStmt-1 hidden
    block_at ss = ap (λ m. scoped m) (listed_at x w ss)

    pub if_at : (c : TExpr) (s n : TStmt) → node D x w p (If c s (Some n)) ≡ bind (tested D x w c) (λ b. choose b (part_of x w s) (part_of x w n))
    unfolding hidden-the_row-TStmt-0 hidden-the_row-TStmt-1 hidden
    if_at c s n = refl

    pub if_alone_at : (c : TExpr) (s : TStmt) → node D x w p (If c s None) ≡ bind (tested D x w c) (λ b. choose b (part_of x w s) (pure Next))
    unfolding hidden-the_row-TStmt-0 hidden-the_row-TStmt-1 hidden
    if_alone_at c s = refl

    pub always_at : (n : ℕ) (s : TStmt) → node D x w p (Always n s) ≡ scoped (typed_slot D p (slice_get x.slots n) (λ t. bind (opens D p x.run.structs t.ty n) (λ b. bind (still (puts D p t.ty (At b 0) (Hidden KBool (D.held w.enable)))) (λ _. part_of x (under D w D.always) s))))
    unfolding hidden-the_row-TStmt-0 hidden-the_row-TStmt-1 hidden
    always_at n s = refl

    pub while_at : (c : TExpr) (s : TStmt) → node D x w p (While c s) ≡ loop D x.run.rounds (tested D x w c) (part_of x w s) (pure tt)
    unfolding hidden-the_row-TStmt-0 hidden-the_row-TStmt-1 hidden
    while_at c s = refl

    pub for_at : (i : TForInit) (c a : Option TExpr) (s : TStmt) → node D x w p (For i c a s) ≡ scoped (bind (header D x w i) (λ _. loop D x.run.rounds (tested_or D x w c) (part_of x w s) (advances D x w a)))
    unfolding hidden-the_row-TStmt-0 hidden-the_row-TStmt-1 hidden
    for_at i c a s = refl
