-- Expressions and places only add.
use Rattle.std.proofs.Common.{ℕ, List, [], ◌∷◌, Bool, true, false, not, ◌&&◌}
use Rattle.oc_values.specs.declared.integers.IntKind.{IntKind}
use Rattle.oc_values.specs.declared.integers.IntKind.TheVariants.{Bool as KBool, I32}
use Rattle.oc_values.specs.declared.integers.BinaryOp.{BinaryOp}
use Rattle.oc_values.specs.Kinds.{same_kind, is_minus}
use Rattle.oc_cells.specs.declared.types.CType.{CType, Int as CInt}
use Rattle.oc_cells.specs.declared.memory.Address.{Address}
use Rattle.oc_cells.specs.Types.{kind_of, is_hidden, is_integer, is_pointer, is_struct, target, alike}
use Rattle.oc_cells.specs.Layout.{leaves, size_of}
use Rattle.oc_source.specs.declared.spot.Spot.{Spot}
use Rattle.oc_typed.specs.declared.typed.TExpr.{TExpr}
use Rattle.oc_typed.specs.declared.typed.TExprNode.{TExprNode, Number, NullPointer, Read', AddressOf', Decay', Unary', Binary', PointerStep', PointerSame', Logic', Choose', Assign', Update', Convert', Call', Builtin', Row_of-TExpr, end_of-TExpr, more_of-TExpr}
use Rattle.oc_typed.specs.declared.typed.TPlaceNode.{TPlaceNode, Slot, Deref', Index', Field', Row_of-TPlace, more_of-TPlace}
use Rattle.oc_typed.specs.declared.typed.Builtin.{Builtin}
use Rattle.oc_typed.specs.declared.typed.Builtin.TheVariants.{Private, Feed, Reveal, Give, PrivateCount, PublicCount, PublicWord, Print, Calloc, Malloc, Free}
use Rattle.oc_typed.specs.Static.{spot_of, type_of, working_kind}
use Rattle.oc_walk.specs.declared.run.Source.{Source}
use Rattle.oc_walk.specs.Domain.{Domain}
use Rattle.oc_walk.specs.Walking.{Res, Site, deeper, lighter}
use Rattle.oc_walk.specs.Cells.{Goal, Only, V, S}
use Rattle.oc_walk.specs.Exchange.{formatted}
use Rattle.oc_walk.specs.Builtins.{on_none, on_one, on_two, on_some, source_of, performs}
use Rattle.oc_walk.specs.Expressions.{Under, stepping, converted, turned, copies, assigns, initializes, readied, renewed, both_or_one, decided, solely, expr, place, place_one, one, exprs, whole, tested}
use Rattle.growing_runs.proofs.Adding.{Adds, Goes, seq, answers, stops, chosen, puts_goes, writes_goes, gets_goes, fetches_goes, sets_goes, follows_goes, addressed_goes, moves_goes, same_goes, tests_goes, unaries_goes, operates_goes, turns_goes, starts_goes, copied_goes, allocates_goes, frees_goes, feeds_goes, reveals_goes, gives_goes, public_goes, prints_goes, slot_goes}

module _ (D : Domain) (R : D.Own → D.Own → Type 0) (adds : Adds D R) where
  abbrev Fine : {A : Type 0} → (S D → Res (S D) A) → Type 0
  Fine m = Goes D R m

  -- calls only add
  pub record Calls (w : Under D) : Type 0 where
    pub call : (p : Spot) (f : ℕ) (e : D.Enable) (room : ℕ) (vs : List (V D)) → Goes D R (w.call p f e room vs)

  none_goes : (p : Spot) (vs : List (V D)) {k : S D → Res (S D) (V D)} → Fine k → Fine (on_none D p vs k)
  none_goes p [] f = f
  none_goes p (v ∷ vs) f = stops D R adds _

  one_goes : (p : Spot) (vs : List (V D)) {k : V D → S D → Res (S D) (V D)} → ((v : V D) → Fine (k v)) → Fine (on_one D p vs k)
  one_goes p (v ∷ []) f = f v
  one_goes p [] f = stops D R adds _
  one_goes p (v ∷ y ∷ vs) f = stops D R adds _

  two_goes : (p : Spot) (vs : List (V D)) {k : V D → V D → S D → Res (S D) (V D)} → ((v y : V D) → Fine (k v y)) → Fine (on_two D p vs k)
  two_goes p (v ∷ y ∷ []) f = f v y
  two_goes p [] f = stops D R adds _
  two_goes p (v ∷ []) f = stops D R adds _
  two_goes p (v ∷ y ∷ z ∷ vs) f = stops D R adds _

  some_goes : (p : Spot) (vs : List (V D)) {k : V D → S D → Res (S D) (V D)} → ((v : V D) → Fine (k v)) → Fine (on_some D p vs k)
  some_goes p [] f = f _
  some_goes p (v ∷ []) f = f v
  some_goes p (v ∷ y ∷ vs) f = stops D R adds _

  performs_goes : (x : Site) (p : Spot) (t : CType) (s : Source) (b : Builtin) (vs : List (V D)) → Fine (performs D x p t s b vs)
  performs_goes x p t s Private vs = one_goes p vs (λ v. answers D R adds v)
  performs_goes x p t s (Feed k party) vs = one_goes p vs (λ v. feeds_goes D R adds x.run.known p s party k v)
  performs_goes x p t s (Reveal k) vs =
      two_goes p vs (λ a v. seq D R adds (reveals_goes D R adds p k v) (λ y. seq D R adds (addressed_goes D R adds p a) (λ b. puts_goes D R adds p (CInt k false) b y)))
  performs_goes x p t s (Give k party) vs = one_goes p vs (λ v. gives_goes D R adds p k party v)
  performs_goes x p t s (PrivateCount party) vs = none_goes p vs (answers D R adds _)
  performs_goes x p t s PublicCount vs = none_goes p vs (answers D R adds _)
  performs_goes x p t s PublicWord vs = one_goes p vs (λ v. public_goes D R adds x.run.known p v)
  performs_goes x p t s (Print ps) vs = prints_goes D R adds p (formatted ps vs)
  performs_goes x p t s Calloc vs = one_goes p vs (λ v. allocates_goes D R adds p x.run.structs (target t) v)
  performs_goes x p t s Malloc vs = some_goes p vs (λ v. allocates_goes D R adds p x.run.structs (target t) v)
  performs_goes x p t s Free vs = one_goes p vs (λ v. frees_goes D R adds p v)

  stepping_goes : (p : Spot) (size : ℕ) (back : Bool) (v n : V D) → Fine (stepping D p size back v n)
  stepping_goes p size back v n = seq D R adds (moves_goes D R adds p size back v n) (λ a. answers D R adds _)

  converted_goes : (p : Spot) (t u : CType) (v : V D) → Fine (converted D p t u v)
  converted_goes p t u v = chosen D R adds (is_integer u) (turns_goes D R adds p (kind_of t) (kind_of u) (is_hidden u && not (is_hidden t)) v) (answers D R adds v)

  turned_goes : (p : Spot) (k l : IntKind) (v : V D) → Fine (turned D p k l v)
  turned_goes p k l v = chosen D R adds (same_kind k l) (answers D R adds v) (turns_goes D R adds p k l false v)

  copies_goes : (r : Spot) (e : D.Enable) (ls : List CType) (a : Address) (v : V D) → Fine (copies D r e ls a v)
  copies_goes r e ls a v = seq D R adds (starts_goes D R adds r ls a v) (λ b. copied_goes D R adds r e ls a b)

  assigns_goes : (x : Site) (e : D.Enable) (q r : Spot) (u : CType) (g : Goal D.Hidden) (v : V D) → Fine (assigns D x e q r u g v)
  assigns_goes x e q r u (Only a) v = chosen D R adds (is_struct u) (seq D R adds (copies_goes r e (leaves x.run.structs u) a v) (λ _. answers D R adds _)) (writes_goes D R adds q e u a v)

  pub initializes_goes : (r : Spot) (lss : List (List CType)) (u : CType) (a : Address) (v : V D) → Fine (initializes D r lss u a v)
  initializes_goes r lss u a v = chosen D R adds (is_struct u) (copies_goes r D.always (leaves lss u) a v) (seq D R adds (puts_goes D R adds r u a v) (λ _. answers D R adds _))

  readied_goes : (p : Spot) (op : BinaryOp) (u t : CType) (v : V D) → Fine (readied D p op u t v)
  readied_goes p op u t v = chosen D R adds (is_pointer u) (answers D R adds v) (turned_goes p (kind_of u) (working_kind op u t) v)

  renewed_goes : (x : Site) (p : Spot) (op : BinaryOp) (u t : CType) (y v : V D) → Fine (renewed D x p op u t y v)
  renewed_goes x p op u t y v =
      chosen D R adds (is_pointer u) (stepping_goes p (size_of x.run.structs (target u)) (is_minus op) y v)
      (seq D R adds (operates_goes D R adds p op (working_kind op u t) (is_hidden u) y v) (λ z. turned_goes p (working_kind op u t) (kind_of u) z))

  solely_goes : (p : Spot) (g : Goal D.Hidden) → Fine (solely D p g)
  solely_goes p (Only a) = answers D R adds a

  mutual
    expr_goes : (c : TExprNode) (x : Site) (w : Under D) (p : Spot) (t : CType) → Calls w → Fine (expr D x w p t c)
    expr_goes (Number n) x w p t h = answers D R adds _
    expr_goes NullPointer x w p t h = answers D R adds _
    expr_goes (Read' q u c) x w p t h = seq D R adds (place_goes c (deeper x) w q u h) (λ g. fetches_goes D R adds q u g)
    expr_goes (AddressOf' q u c) x w p t h = seq D R adds (place_goes c (deeper x) w q u h) (λ g. seq D R adds (solely_goes q g) (λ a. answers D R adds _))
    expr_goes (Decay' q u c) x w p t h = seq D R adds (place_goes c (deeper x) w q u h) (λ g. seq D R adds (solely_goes q g) (λ a. answers D R adds _))
    expr_goes (Unary' op _ e) x w p t h = seq D R adds (one_row e (deeper x) w h) (λ v. unaries_goes D R adds p op (kind_of (type_of e)) (is_hidden t) v)
    expr_goes (Binary' op _ l _ r) x w p t h =
        seq D R adds (one_row l (deeper x) w h) (λ v. seq D R adds (one_row r (deeper x) w h) (λ z. operates_goes D R adds p op (kind_of (type_of l)) (is_hidden t) v z))
    expr_goes (PointerStep' _ l _ r back false) x w p t h =
        seq D R adds (one_row l (deeper x) w h) (λ v. seq D R adds (one_row r (deeper x) w h) (λ n. stepping_goes p (size_of x.run.structs (target t)) back v n))
    expr_goes (PointerStep' _ l _ r back true) x w p t h =
        seq D R adds (one_row r (deeper x) w h) (λ n. seq D R adds (one_row l (deeper x) w h) (λ v. stepping_goes p (size_of x.run.structs (target t)) back v n))
    expr_goes (PointerSame' _ l _ r negated) x w p t h =
        seq D R adds (one_row l (deeper x) w h) (λ v. seq D R adds (one_row r (deeper x) w h) (λ z. same_goes D R adds p negated v z))
    expr_goes (Logic' all _ l _ r) x w p t h =
        chosen D R adds (is_hidden t)
        (seq D R adds (one_row l (deeper x) w h) (λ v. seq D R adds (one_row r (deeper x) w h) (λ z. operates_goes D R adds p (both_or_one D all) KBool true v z)))
        (seq D R adds (one_row l (deeper x) w h) (λ v. seq D R adds (tests_goes D R adds p v) (λ b. chosen D R adds (alike all b)
        (seq D R adds (one_row r (deeper x) w h) (λ z. turns_goes D R adds p KBool I32 false z))
        (answers D R adds (decided D b)))))
    expr_goes (Choose' _ c _ l _ r) x w p t h =
        seq D R adds (one_row c (deeper x) w h) (λ v. seq D R adds (tests_goes D R adds p v) (λ b. chosen D R adds b (one_row l (deeper x) w h) (one_row r (deeper x) w h)))
    expr_goes (Assign' q u c _ e) x w p t h =
        seq D R adds (place_goes c (deeper x) w q u h) (λ g. seq D R adds (one_row e (deeper x) w h) (λ v. assigns_goes x w.enable q (spot_of e) u g v))
    expr_goes (Update' op q u c _ e false) x w p t h =
        seq D R adds (place_goes c (deeper x) w q u h) (λ g. seq D R adds (one_row e (deeper x) w h) (λ v. seq D R adds (gets_goes D R adds q u g) (λ o.
        seq D R adds (readied_goes p op u (type_of e) o) (λ y. seq D R adds (renewed_goes x p op u (type_of e) y v) (λ z. sets_goes D R adds q w.enable u g z)))))
    expr_goes (Update' op q u c _ e true) x w p t h =
        seq D R adds (place_goes c (deeper x) w q u h) (λ g. seq D R adds (gets_goes D R adds q u g) (λ old. seq D R adds (gets_goes D R adds q u g) (λ o.
        seq D R adds (readied_goes p op u (type_of e) o) (λ y. seq D R adds (one_row e (deeper x) w h) (λ v. seq D R adds (renewed_goes x p op u (type_of e) y v) (λ z.
        seq D R adds (sets_goes D R adds q w.enable u g z) (λ _. answers D R adds old)))))))
    expr_goes (Convert' _ e) x w p t h = seq D R adds (one_row e (lighter x p e) w h) (λ v. converted_goes p (type_of e) t v)
    expr_goes (Call' f _ es) x w p t h = seq D R adds (exprs_goes es (deeper x) w h) (λ vs. h.call p f w.enable x.room vs)
    expr_goes (Builtin' which _ es) x w p t h = seq D R adds (exprs_goes es (deeper x) w h) (λ vs. performs_goes x p t (source_of es) which vs)

    place_goes : (c : TPlaceNode) (x : Site) (w : Under D) (p : Spot) (t : CType) → Calls w → Fine (place D x w p t c)
    place_goes (Slot n) x w p t h = seq D R adds (slot_goes D R adds p n) (λ a. answers D R adds _)
    place_goes (Deref' _ e) x w p t h = seq D R adds (one_row e (deeper x) w h) (λ v. seq D R adds (follows_goes D R adds p v) (λ a. answers D R adds _))
    place_goes (Index' _ l _ r) x w p t h =
        seq D R adds (one_row l (deeper x) w h) (λ v. seq D R adds (one_row r (deeper x) w h) (λ n.
        seq D R adds (moves_goes D R adds p (size_of x.run.structs t) false v n) (λ a. answers D R adds _)))
    place_goes (Field' _ b n) x w p t h = seq D R adds (place_row b (deeper x) w h) (λ g. seq D R adds (solely_goes p g) (λ a. answers D R adds _))

    place_row : (c : Row_of-TPlace 1) (x : Site) (w : Under D) → Calls w → Fine (place_one D x w c)
    place_row (more_of-TPlace q u c rest) x w h = place_goes c x w q u h

    one_row : (c : Row_of-TExpr 1) (x : Site) (w : Under D) → Calls w → Fine (one D x w c)
    one_row (more_of-TExpr q u c rest) x w h = expr_goes c x w q u h

    exprs_goes : {m : _} (c : Row_of-TExpr m) (x : Site) (w : Under D) → Calls w → Fine (exprs D x w c)
    exprs_goes end_of-TExpr x w h = answers D R adds []
    exprs_goes (more_of-TExpr q u c rest) x w h = seq D R adds (expr_goes c x w q u h) (λ v. seq D R adds (exprs_goes rest x w h) (λ vs. answers D R adds _))

  pub whole_goes : (x : Site) (w : Under D) (e : TExpr) → Calls w → Fine (whole D x w e)
  whole_goes x w e h = expr_goes e.node x w e.spot e.ty h

  pub tested_goes : (x : Site) (w : Under D) (e : TExpr) → Calls w → Fine (tested D x w e)
  tested_goes x w e h = seq D R adds (whole_goes x w e h) (λ v. tests_goes D R adds e.spot v)
