-- The walk of expressions and places, whose parts go from left to right.
--
-- `room` is 1,000 less the nodes that hold this one through all open calls, so a call that needs more room than is
-- left is one whose reaches would sum to more than 1,000.
use Rattle.std.specs.Prelude.{ℕ, List, [], ◌∷◌, Bool, true, false, not, ◌&&◌}
use Rattle.oc_values.specs.declared.integers.IntKind.{IntKind}
use Rattle.oc_values.specs.declared.integers.IntKind.TheVariants.{Bool as KBool, I32}
use Rattle.oc_values.specs.declared.integers.BinaryOp.{BinaryOp}
use Rattle.oc_values.specs.declared.integers.BinaryOp.TheVariants.{And, Or}
use Rattle.oc_values.specs.Integers.{number_of}
use Rattle.oc_values.specs.Kinds.{same_kind, is_minus}
use Rattle.oc_cells.specs.declared.types.CType.{CType}
use Rattle.oc_cells.specs.declared.memory.Address.{Address}
use Rattle.oc_cells.specs.declared.memory.Address.TheVariants.{Null}
use Rattle.oc_cells.specs.Types.{kind_of, is_hidden, is_integer, is_pointer, is_struct, target, alike}
use Rattle.oc_cells.specs.Layout.{leaves, size_of}
use Rattle.oc_source.specs.declared.spot.Spot.{Spot}
use Rattle.oc_typed.specs.declared.typed.TExpr.{TExpr}
use Rattle.oc_typed.specs.declared.typed.TExprNode.{TExprNode, Number, NullPointer, Read', AddressOf', Decay', Unary', Binary', PointerStep', PointerSame', Logic', Choose', Assign', Update', Convert', Call', Builtin', Row_of-TExpr, end_of-TExpr, more_of-TExpr}
use Rattle.oc_typed.specs.declared.typed.TPlaceNode.{TPlaceNode, Slot, Deref', Index', Field', Row_of-TPlace, more_of-TPlace}
use Rattle.oc_typed.specs.declared.typed.TStmtNode.{Held-TStmtNode-If-2}
use Rattle.oc_typed.specs.Static.{spot_of, type_of, working_kind}
use Rattle.oc_walk.specs.declared.run.Value.TheVariants.{Int, Pointer}
use Rattle.oc_walk.specs.Domain.{Domain}
use Rattle.oc_walk.specs.Walking.{bind, pure, choose, still, ahead, Site, deeper, lighter}
use Rattle.oc_walk.specs.Cells.{Goal, Only, gets, fetches, sets, V, A, puts, writes, follows, moves, same_places, starts_copy, copies_all, slot}
use Rattle.oc_walk.specs.Operations.{tests, unaries, operates, turns}
use Rattle.oc_walk.specs.Builtins.{source_of, performs}

module _ (D : Domain) where
  -- what surrounds a node, as this domain has it
  pub record Under : Type 0 where
    pub enable : D.Enable
    -- a call: its spot, the function, the enable, the room at its node, the arguments
    pub call : Spot → ℕ → D.Enable → ℕ → List (V D) → A D (V D)
    -- what stands for a part of an `obliv if` that isn't walked
    pub skip : Site → Held-TStmtNode-If-2 → A D (Unit {0})

  -- the same under another enable
  abbrev pub under : Under → D.Enable → Under
  under w e = record w { enable = e }

  -- a pointer moved by so many elements of this size
  abbrev pub stepping : Spot → ℕ → Bool → V D → V D → A D (V D)
  stepping p size back v n = bind (still (moves D p size back v n)) (λ a. pure (Pointer a))

  -- a value of the type t as one of the type u: a pointer stays what it is
  abbrev pub converted : Spot → CType → CType → V D → A D (V D)
  converted p t u v =
      choose (is_integer u) (still (turns D p (kind_of t) (kind_of u) (is_hidden u && not (is_hidden t)) v)) (pure v)

  -- a value of the first kind as one of the second
  abbrev pub turned : Spot → IntKind → IntKind → V D → A D (V D)
  turned p k l v = choose (same_kind k l) (pure v) (still (turns D p k l false v))

  -- a struct copied cell by cell under the enable, after all its cells were checked
  abbrev pub copies : Spot → D.Enable → List CType → Address → V D → A D (Unit {0})
  copies r e ls a v = bind (still (starts_copy D r ls a v)) (λ b. still (copies_all D r e ls a b))

  -- the write of an assignment, and what is then in the place: q and r are the spots of place and value
  abbrev pub assigns : Site → D.Enable → Spot → Spot → CType → Goal D.Hidden → V D → A D (V D)
  assigns x e q r u (Only a) v =
      choose (is_struct u) (bind (copies r e (leaves x.run.structs u) a v) (λ _. pure (Pointer a))) (still (writes D q e u a v))

  -- the write of an initialiser, which no enable holds back
  abbrev pub initializes : Spot → List (List CType) → CType → Address → V D → A D (Unit {0})
  initializes r lss u a v =
      choose (is_struct u) (copies r D.always (leaves lss u) a v) (bind (still (puts D r u a v)) (λ _. pure tt))

  -- an update's old value as its operator takes it: u and t are the types of place and value
  abbrev pub readied : Spot → BinaryOp → CType → CType → V D → A D (V D)
  readied p op u t old = choose (is_pointer u) (pure old) (turned p (kind_of u) (working_kind op u t) old)

  -- an update's new value, of the old one and the operand
  abbrev pub renewed : Site → Spot → BinaryOp → CType → CType → V D → V D → A D (V D)
  renewed x p op u t y v =
      choose (is_pointer u) (stepping p (size_of x.run.structs (target u)) (is_minus op) y v)
      (bind (still (operates D p op (working_kind op u t) (is_hidden u) y v)) (λ z. turned p (working_kind op u t) (kind_of u) z))

  -- the operator of a hidden `&&` or `||`
  abbrev pub both_or_one : Bool → BinaryOp
  both_or_one true = And
  both_or_one false = Or

  -- the value of `&&` or `||` where its left operand decides it
  abbrev pub decided : Bool → V D
  decided b = Int I32 (number_of b)

  -- the cell of a place where an address is wanted
  abbrev pub solely : Spot → Goal D.Hidden → A D Address
  solely p (Only a) = pure a

  abbrev mutual
    -- the value of an expression of this type. An update evaluates its place and its value, reads, computes and writes; one whose value is
    -- the old one adds or subtracts the number 1, so that it may read first
    pub expr : Site → Under → Spot → CType → TExprNode → A D (V D)
    expr x w p t (Number n) = pure (Int (kind_of t) n)
    expr x w p t NullPointer = pure (Pointer Null)
    expr x w p t (Read' q u c) =
        bind (place (deeper x) w q u c) (λ g. still (fetches D q u g))
    expr x w p t (AddressOf' q u c) = bind (place (deeper x) w q u c) (λ g. bind (solely q g) (λ a. pure (Pointer a)))
    expr x w p t (Decay' q u c) = bind (place (deeper x) w q u c) (λ g. bind (solely q g) (λ a. pure (Pointer a)))
    expr x w p t (Unary' op _ e) =
        bind (one (deeper x) w e) (λ v. still (unaries D p op (kind_of (type_of e)) (is_hidden t) v))
    expr x w p t (Binary' op _ l _ r) =
        bind (one (deeper x) w l) (λ v. bind (one (deeper x) w r) (λ z. still (operates D p op (kind_of (type_of l)) (is_hidden t) v z)))
    expr x w p t (PointerStep' _ l _ r back false) =
        bind (one (deeper x) w l) (λ v. bind (one (deeper x) w r) (λ n. stepping p (size_of x.run.structs (target t)) back v n))
    expr x w p t (PointerStep' _ l _ r back true) =
        bind (one (deeper x) w r) (λ n. bind (one (deeper x) w l) (λ v. stepping p (size_of x.run.structs (target t)) back v n))
    expr x w p t (PointerSame' _ l _ r negated) =
        bind (one (deeper x) w l) (λ v. bind (one (deeper x) w r) (λ z. still (same_places D p negated v z)))
    expr x w p t (Logic' all _ l _ r) =
        choose (is_hidden t)
        (bind (one (deeper x) w l) (λ v. bind (one (deeper x) w r) (λ z. still (operates D p (both_or_one all) KBool true v z))))
        (bind (one (deeper x) w l) (λ v. bind (still (tests D p v)) (λ b. choose (alike all b)
        (bind (one (deeper x) w r) (λ z. still (turns D p KBool I32 false z)))
        (pure (decided b)))))
    expr x w p t (Choose' _ c _ l _ r) =
        bind (one (deeper x) w c) (λ v. bind (still (tests D p v)) (λ b. choose b (one (deeper x) w l) (one (deeper x) w r)))
    expr x w p t (Assign' q u c _ e) =
        bind (place (deeper x) w q u c) (λ g. bind (one (deeper x) w e) (λ v. assigns x w.enable q (spot_of e) u g v))
    expr x w p t (Update' op q u c _ e false) =
        bind (place (deeper x) w q u c) (λ g. bind (one (deeper x) w e) (λ v. bind (still (gets D q u g)) (λ o.
        bind (readied p op u (type_of e) o) (λ y. bind (renewed x p op u (type_of e) y v) (λ z.
        still (sets D q w.enable u g z))))))
    expr x w p t (Update' op q u c _ e true) =
        bind (place (deeper x) w q u c) (λ g. bind (still (gets D q u g)) (λ old. bind (still (gets D q u g)) (λ o.
        bind (readied p op u (type_of e) o) (λ y. bind (one (deeper x) w e) (λ v. bind (renewed x p op u (type_of e) y v) (λ z.
        bind (still (sets D q w.enable u g z)) (λ _. pure old)))))))
    expr x w p t (Convert' _ e) = bind (one (lighter x p e) w e) (λ v. converted p (type_of e) t v)
    expr x w p t (Call' f _ es) = bind (exprs (deeper x) w es) (λ vs. w.call p f w.enable x.room vs)
    expr x w p t (Builtin' which _ es) = bind (exprs (deeper x) w es) (λ vs. performs D x p t (source_of es) which vs)

    -- the cell of a place that holds this type
    pub place : Site → Under → Spot → CType → TPlaceNode → A D (Goal D.Hidden)
    place x w p t (Slot n) = bind (slot D p n) (λ a. pure (Only a))
    place x w p t (Deref' _ e) = bind (one (deeper x) w e) (λ v. bind (still (follows D p v)) (λ a. pure (Only a)))
    place x w p t (Index' _ l _ r) =
        bind (one (deeper x) w l) (λ v. bind (one (deeper x) w r) (λ n.
        bind (still (moves D p (size_of x.run.structs t) false v n)) (λ a. pure (Only a))))
    place x w p t (Field' _ b n) = bind (place_one (deeper x) w b) (λ g. bind (solely p g) (λ a. pure (Only (ahead n a))))

    -- the cell of the only place of a row
    pub place_one : Site → Under → Row_of-TPlace 1 → A D (Goal D.Hidden)
    place_one x w (more_of-TPlace q u c rest) = place x w q u c

    -- the value of the only expression of a row
    pub one : Site → Under → Row_of-TExpr 1 → A D (V D)
    one x w (more_of-TExpr q u c rest) = expr x w q u c

    -- the values of a row of expressions, in order
    pub exprs : {m : _} → Site → Under → Row_of-TExpr m → A D (List (V D))
    exprs x w end_of-TExpr = pure []
    exprs x w (more_of-TExpr q u c rest) = bind (expr x w q u c) (λ v. bind (exprs x w rest) (λ vs. pure (v ∷ vs)))

  -- an expression that stands in a statement
  abbrev pub whole : Site → Under → TExpr → A D (V D)
  whole x w e = expr x w e.spot e.ty e.node

  -- a public condition of a statement
  abbrev pub tested : Site → Under → TExpr → A D Bool
  tested x w e = bind (whole x w e) (λ v. still (tests D e.spot v))
