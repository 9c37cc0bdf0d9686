-- Well typed expressions have the shapes that walks want.
use Rattle.std.proofs.Common.{ℕ, zero, suc, ◌≡◌, List, [], ◌∷◌, Some, ap, ◌∙◌, Bool, true, false}
use Rattle.std.specs.Prelude.{◌&&◌, ◌||◌, not, slice_get}
use Rattle.oc_values.specs.declared.integers.IntKind.TheVariants.{I32}
use Rattle.oc_cells.specs.declared.types.CType.{CType, Int}
use Rattle.oc_cells.specs.declared.types.StructType.{StructType}
use Rattle.oc_cells.specs.Types.{is_pointer, target, public_structs}
use Rattle.oc_cells.specs.Layout.{struct_cells, struct_leaves}
use Rattle.oc_cells.proofs.Equal.{same_is}
use Rattle.oc_typed.specs.declared.typed.TExprNode.{TExprNode, Number, NullPointer, Read', AddressOf', Decay', Unary', Binary', PointerStep', PointerSame', Logic', Choose', Assign', Update', Convert', Call', Builtin', Row_of-TExpr, end_of-TExpr, more_of-TExpr}
use Rattle.oc_typed.specs.declared.typed.TPlaceNode.{TPlaceNode, Slot, Deref', Index', Field', Row_of-TPlace, more_of-TPlace}
use Rattle.oc_typed.specs.declared.typed.TypedFunction.{TypedFunction}
use Rattle.oc_typed.specs.Static.{type_of, types_of}
use Rattle.oc_typed.specs.Visible.{is_among}
use Rattle.oc_typing.specs.Rules.{is_type, is_common, is_held, field}
use Rattle.oc_typing.specs.Typed.{Context, context, param_types, has_type, call, is_feed, is_private, is_of_node, expr, place, place_one, one, exprs, is_unit}
use Rattle.typed_runs.specs.Shapes.{Env, Held, ExprOk, PlaceOk, PlaceOneOk, OneOk, AllOk}
use Rattle.sound_runs.specs.Laws.{headings}
use Rattle.sound_runs.proofs.Bools.{first, kept, never, all2, all3, all4, all5, all6, all7}
use Rattle.sound_runs.proofs.Rules.{held_right, null_right, public_right, number_right, address_right, decay_right, unary_right, binary_right, step_right, logic_right, update_right, convert_right, alike_pointers_right, same_all_is}
use Rattle.sound_runs.proofs.Builtins.{builtin_right}

-- a function that is called is one with that heading
called_right : (fs : List TypedFunction) (f : ℕ) (t : CType) (ts : List CType) → call t ts (slice_get fs f) ≡ true → slice_get (headings fs) f ≡ Some (record { params = ts; result = t })
called_right [] f t ts h = never h
called_right (f ∷ fs) zero t ts h =
    let z = all2 (same_is f.result t) (same_all_is (param_types f) ts) h in
    ap (λ u. Some (record { params = param_types f; result = u })) z.0 ∙ ap (λ us. Some (record { params = us; result = t })) z.1
called_right (f ∷ fs) (suc n) t ts h = called_right fs n t ts h

module _ (structs : List StructType) (fs : List TypedFunction) (f : TypedFunction) where
  abbrev g : Context
  g = context structs fs f

  abbrev lss : List (List CType)
  lss = struct_leaves structs

  abbrev env : List ℕ → Env
  env vis = record { headings = headings fs; visible = vis }

  abbrev is_ok : CType → Bool
  is_ok t = is_type (struct_cells structs) (public_structs structs) t

  held : (t : CType) → is_held t ≡ true → is_ok t ≡ true → Held lss t
  held t h i = held_right structs (public_structs structs) t h i

  mutual
    pub expr_right : (c : TExprNode) (vis : List ℕ) (fed : Bool) (t : CType) → expr g vis fed t c ≡ true → ExprOk lss (env vis) t c
    expr_right (Number n) vis fed t h = number_right t n h
    expr_right NullPointer vis fed t h = null_right t h
    expr_right (Read' q u c) vis fed t h = let z = all4 (same_is t u) (kept (is_held u)) (kept (is_ok u)) (place_right c vis u) h in (z.0, held u z.1 z.2, z.3)
    expr_right (AddressOf' q u c) vis fed t h = let z = all3 (address_right t u) (kept (is_ok u)) (place_right c vis u) h in (z.0, z.2)
    expr_right (Decay' q u c) vis fed t h = let z = all3 (decay_right t u) (kept (is_ok u)) (place_right c vis u) h in (z.0, z.2)
    expr_right (Unary' op _ e) vis fed t h = all2 (unary_right op t (type_of e)) (one_right e vis) h
    expr_right (Binary' op _ l _ r) vis fed t h = all3 (binary_right op t (type_of l) (type_of r)) (one_right l vis) (one_right r vis) h
    expr_right (PointerStep' _ l _ r back amount_first) vis fed t h = let z = all4 (step_right t (type_of l) (type_of r)) (kept (not (back && amount_first))) (one_right l vis) (one_right r vis) h in (z.0, z.2, z.3)
    expr_right (PointerSame' _ l _ r negated) vis fed t h = let z = all4 (same_is t (Int I32 false)) (alike_pointers_right (type_of l) (type_of r)) (one_right l vis) (one_right r vis) h in (z.0, z.1.0, z.1.1, z.2, z.3)
    expr_right (Logic' every _ l _ r) vis fed t h = all3 (logic_right t (type_of l) (type_of r)) (one_right l vis) (one_right r vis) h
    expr_right (Choose' _ c _ l _ r) vis fed t h =
        let z = all7 (public_right (type_of c)) (kept (is_common t)) (same_is (type_of l) t) (same_is (type_of r) t) (one_right c vis) (one_right l vis) (one_right r vis) h in
        (z.0, z.2, z.3, z.4, z.5, z.6)
    expr_right (Assign' q u c _ e) vis fed t h =
        let z = all6 (same_is t u) (same_is (type_of e) u) (kept (is_held u)) (kept (is_ok u)) (place_right c vis u) (one_right e vis) h in
        (z.0, z.1, held u z.2 z.3, z.4, z.5)
    expr_right (Update' op q u c _ e old) vis fed t h =
        let z = all6 (same_is t u) (update_right op u (type_of e)) (kept (is_ok u)) (place_right c vis u) (one_right e vis) (kept (not old || is_unit e)) h in
        (z.0, z.1, z.3, z.4)
    expr_right (Convert' _ e) vis fed t h = all2 (convert_right (type_of e) t) (one_right e vis) h
    expr_right (Call' f _ es) vis fed t h =
        let z = all2 (called_right fs f t (types_of es)) (exprs_right es vis false) h in
        (z.0, z.1)
    expr_right (Builtin' which _ es) vis fed t h =
        let z = all3 (kept (fed || not (is_private which))) (builtin_right structs which t es) (exprs_right es vis (is_feed which)) h in
        (z.1, z.2)

    pub place_right : (c : TPlaceNode) (vis : List ℕ) (t : CType) → place g vis t c ≡ true → PlaceOk lss (env vis) c
    place_right (Slot n) vis t h = first (is_among vis n) (has_type t (slice_get f.slots n)) h
    place_right (Deref' _ e) vis t h = let z = all3 (kept (is_pointer (type_of e))) (same_is (target (type_of e)) t) (one_right e vis) h in (z.0, z.2)
    place_right (Index' _ l _ r) vis t h =
        let z = all5 (kept (is_pointer (type_of l))) (same_is (target (type_of l)) t) (public_right (type_of r)) (one_right l vis) (one_right r vis) h in
        (z.0, z.2, z.3, z.4)
    place_right (Field' _ b n) vis t h = place_one_right b vis n t h

    pub place_one_right : (c : Row_of-TPlace 1) (vis : List ℕ) (n : ℕ) (t : CType) → place_one g vis n t c ≡ true → PlaceOneOk lss (env vis) c
    place_one_right (more_of-TPlace q u c rest) vis n t h = (all3 (kept (field structs u n t)) (kept (is_ok u)) (place_right c vis u) h).2

    pub one_right : (c : Row_of-TExpr 1) (vis : List ℕ) → one g vis c ≡ true → OneOk lss (env vis) c
    one_right (more_of-TExpr q u c rest) vis h = (all2 (kept (is_of_node g u)) (expr_right c vis false u) h).1

    pub exprs_right : {m : _} (c : Row_of-TExpr m) (vis : List ℕ) (fed : Bool) → exprs g vis fed c ≡ true → AllOk lss (env vis) c
    exprs_right end_of-TExpr vis fed h = tt
    exprs_right (more_of-TExpr q u c rest) vis fed h = let z = all3 (kept (is_of_node g u)) (expr_right c vis fed u) (exprs_right rest vis fed) h in (z.1, z.2)
