-- Well typed statements have the shapes that walks want.
use Rattle.std.proofs.Common.{ℕ, zero, suc, ◌≡◌, List, [], ◌∷◌, Option, Some, None, refl, subst, Bool, true, false}
use Rattle.std.specs.Prelude.{◌&&◌, not, slice_get}
use Rattle.oc_values.specs.declared.integers.IntKind.TheVariants.{Bool as KBool}
use Rattle.oc_cells.specs.declared.types.CType.{CType, Int}
use Rattle.oc_cells.specs.declared.types.SlotType.{SlotType}
use Rattle.oc_cells.specs.declared.types.StructType.{StructType}
use Rattle.oc_cells.specs.Types.{public_structs}
use Rattle.oc_cells.specs.Layout.{struct_cells, struct_leaves}
use Rattle.oc_cells.proofs.Equal.{same_is}
use Rattle.oc_typed.specs.declared.typed.TExpr.{TExpr}
use Rattle.oc_typed.specs.declared.typed.TDeclared.{TDeclared}
use Rattle.oc_typed.specs.declared.typed.TForInit.{TForInit}
use Rattle.oc_typed.specs.declared.typed.TForInit.TheVariants.{Nothing as NoInit, Declare as InitDeclare, Express as InitExpress}
use Rattle.oc_typed.specs.declared.typed.TStmt.{TStmt}
use Rattle.oc_typed.specs.declared.typed.TStmtNode.{TStmtNode, Declare, Express, Block', If', OblivIf', Always', While', For', Return, Break, Continue, Empty, Row_of-TStmt, end_of-TStmt, more_of-TStmt, Held-TStmtNode-If-2, None', Some'}
use Rattle.oc_typed.specs.declared.typed.TypedFunction.{TypedFunction}
use Rattle.oc_typed.specs.Visible.{after_node, after_header}
use Rattle.oc_typing.specs.Rules.{all, is_type, is_nothing, is_held}
use Rattle.oc_typing.specs.Typed.{Context, context, has_type, is_of_node, is_slot, is_starred, expr, alone, valued, condition, initial, declares, header, maybe, back, stmt, part, rows, other, stmts}
use Rattle.typed_runs.specs.Shapes.{Heading}
use Rattle.typed_runs.specs.Statements.{WholeOk, TestOk, InitOk, DeclaredOk, DeclaredsOk, HeaderOk, MaybeTestOk, MaybeOk, BackOk, NameOk, NodeOk, PartOk, RowOk, OtherOk, ListOk}
use Rattle.sound_runs.specs.Laws.{headings}
use Rattle.sound_runs.proofs.Bools.{first, second, kept, never, all2, all3, all4}
use Rattle.sound_runs.proofs.Rules.{type_right, held_right, nothing_is, public_right}
use Rattle.sound_runs.proofs.Exprs.{expr_right}

-- a slot that is there and has a type
slot_right : (o : Option SlotType) (t : CType) → has_type t o ≡ true → (s : SlotType) × (o ≡ Some s) × (s.ty ≡ t)
slot_right None t h = never h
slot_right (Some s) t h = (s, refl, same_is s.ty t h)

pub none_some : {A : Type 0} {a : A} → None ≡ Some a → ⊥
none_some q = (cc)

pub some_is : {A : Type 0} {a b : A} → Some a ≡ Some b → a ≡ b
some_is q = (cc)

-- each slot of a list passes a test
pub all_at : {A : Type 0} (p : A → Bool) (xs : List A) (n : ℕ) (x : A) → all p xs ≡ true → slice_get xs n ≡ Some x → p x ≡ true
all_at p [] n x h q = absurd (none_some q)
all_at p (y ∷ ys) zero x h q = subst (λ z. p z ≡ true) (some_is q) (first (p y) (all p ys) h)
all_at p (y ∷ ys) (suc n) x h q = all_at p ys n x (second (p y) (all p ys) h) q

module _ (structs : List StructType) (fs : List TypedFunction) (f : TypedFunction) (typed : all (is_slot (struct_cells structs) (public_structs structs)) f.slots ≡ true) where
  abbrev g : Context
  g = context structs fs f

  abbrev lss : List (List CType)
  lss = struct_leaves structs

  abbrev hs : List Heading
  hs = headings fs

  abbrev is_ok : CType → Bool
  is_ok t = is_type (struct_cells structs) (public_structs structs) t

  slot_type : (n : ℕ) (s : SlotType) → slice_get f.slots n ≡ Some s → is_ok s.ty ≡ true
  slot_type n s q = first (is_ok s.ty) (not (s.frozen && is_starred s.ty)) (all_at (is_slot (struct_cells structs) (public_structs structs)) f.slots n s typed q)

  whole_right : (vis : List ℕ) (e : TExpr) → alone g vis e ≡ true → WholeOk lss hs f.slots f.result vis e
  whole_right vis e h = expr_right structs fs f e.node vis false e.ty (second (is_of_node g e.ty) (expr g vis false e.ty e.node) h)

  test_right : (vis : List ℕ) (e : TExpr) → condition g vis e ≡ true → TestOk lss hs f.slots f.result vis e
  test_right vis e h = all2 (public_right e.ty) (whole_right vis e) h

  init_at : (vis : List ℕ) (n : ℕ) (o : Option SlotType) (e : Option TExpr) (s : SlotType) → o ≡ Some s → slice_get f.slots n ≡ Some s → initial g vis o e ≡ true → InitOk lss hs f.slots f.result vis s.ty e
  init_at vis n o None s p q h = tt
  init_at vis n o (Some e) s p q h =
      let i : initial g vis (Some s) (Some e) ≡ true = subst (λ o. initial g vis o (Some e) ≡ true) p h in
      let z = all3 (same_is e.ty s.ty) (kept (is_held s.ty)) (whole_right vis e) i in
      (z.0, held_right structs (public_structs structs) s.ty z.1 (slot_type n s q), z.2)

  there : (vis : List ℕ) (o : Option SlotType) (e : Option TExpr) → initial g vis o e ≡ true → (s : SlotType) × (o ≡ Some s)
  there vis None e h = never h
  there vis (Some s) e h = (s, refl)

  declared_right : (vis : List ℕ) (d : TDeclared) → initial g (d.slot ∷ vis) (slice_get f.slots d.slot) d.init ≡ true → DeclaredOk lss hs f.slots f.result vis d
  declared_right vis d h =
      let z = there (d.slot ∷ vis) (slice_get f.slots d.slot) d.init h in
      record { type = z.0; there = z.1; sized = type_right structs (public_structs structs) z.0.ty (slot_type d.slot z.0 z.1); init = init_at (d.slot ∷ vis) d.slot (slice_get f.slots d.slot) d.init z.0 z.1 z.1 h }

  declares_right : (ds : List TDeclared) (vis : List ℕ) → declares g vis ds ≡ true → DeclaredsOk lss hs f.slots f.result vis ds
  declares_right [] vis h = tt
  declares_right (d ∷ ds) vis h = all2 (declared_right vis d) (declares_right ds (d.slot ∷ vis)) h

  header_right : (i : TForInit) (vis : List ℕ) → header g vis i ≡ true → HeaderOk lss hs f.slots f.result vis i
  header_right NoInit vis h = tt
  header_right (InitDeclare ds) vis h = declares_right ds vis h
  header_right (InitExpress e) vis h = (all2 (kept (not (is_nothing e.ty))) (whole_right vis e) h).1

  maybe_test_right : (o : Option TExpr) (vis : List ℕ) → maybe (condition g vis) o ≡ true → MaybeTestOk lss hs f.slots f.result vis o
  maybe_test_right None vis h = tt
  maybe_test_right (Some e) vis h = test_right vis e h

  maybe_right : (o : Option TExpr) (vis : List ℕ) → maybe (valued g vis) o ≡ true → MaybeOk lss hs f.slots f.result vis o
  maybe_right None vis h = tt
  maybe_right (Some e) vis h = (all2 (kept (not (is_nothing e.ty))) (whole_right vis e) h).1

  back_right : (o : Option TExpr) (vis : List ℕ) → back g vis o ≡ true → BackOk lss hs f.slots f.result vis o
  back_right None vis h = nothing_is f.result h
  back_right (Some e) vis h = let z = all3 (kept (not (is_nothing f.result))) (same_is e.ty f.result) (whole_right vis e) h in (z.1, z.2)

  name_right : (n : ℕ) → has_type (Int KBool true) (slice_get f.slots n) ≡ true → NameOk lss hs f.slots f.result n
  name_right n h = let z = slot_right (slice_get f.slots n) (Int KBool true) h in record { type = z.0; there = z.1; is = z.2 }

  mutual
    pub stmt_right : (c : TStmtNode) (loop : Bool) (vis : List ℕ) → stmt g loop vis c ≡ true → NodeOk lss hs f.slots f.result vis c
    stmt_right (Declare ds) loop vis h = declares_right ds vis h
    stmt_right (Express e) loop vis h = whole_right vis e h
    stmt_right (Block' _ ss) loop vis h = rows_right ss loop vis h
    stmt_right (If' c _ s n) loop vis h = all3 (test_right vis c) (part_right s loop vis) (other_right n loop vis) h
    stmt_right (OblivIf' c _ s n) loop vis h = all4 (same_is c.ty (Int KBool true)) (whole_right vis c) (part_right s loop vis) (other_right n loop vis) h
    stmt_right (Always' n _ s) loop vis h = all2 (name_right n) (part_right s loop (n ∷ vis)) h
    stmt_right (While' c _ s) loop vis h = all2 (test_right vis c) (part_right s true vis) h
    stmt_right (For' i c a _ s) loop vis h =
        let z = all4 (header_right i vis) (maybe_test_right c (after_header vis i)) (maybe_right a (after_header vis i)) (part_right s true (after_header vis i)) h in
        (z.0, z.1, z.2, z.3)
    stmt_right (Return e) loop vis h = back_right e vis h
    stmt_right Break loop vis h = tt
    stmt_right Continue loop vis h = tt
    stmt_right Empty loop vis h = tt

    part_right : (c : Row_of-TStmt 1) (loop : Bool) (vis : List ℕ) → part g loop vis c ≡ true → PartOk lss hs f.slots f.result vis c
    part_right (more_of-TStmt q c rest) loop vis h = stmt_right c loop vis h

    rows_right : {m : _} (c : Row_of-TStmt m) (loop : Bool) (vis : List ℕ) → rows g loop vis c ≡ true → RowOk lss hs f.slots f.result vis c
    rows_right end_of-TStmt loop vis h = tt
    rows_right (more_of-TStmt q c rest) loop vis h =
        let z = all2 (stmt_right c loop vis) (rows_right rest loop (after_node vis c)) h in
        (z.0, z.1)

    other_right : (c : Held-TStmtNode-If-2) (loop : Bool) (vis : List ℕ) → other g loop vis c ≡ true → OtherOk lss hs f.slots f.result vis c
    other_right None' loop vis h = tt
    other_right (Some' _ s) loop vis h = part_right s loop vis h

  pub stmts_right : (ss : List TStmt) (vis : List ℕ) → stmts g vis ss ≡ true → ListOk lss hs f.slots f.result vis ss
  stmts_right [] vis h = tt
  stmts_right (s ∷ ss) vis h =
      let z = all2 (stmt_right s.node false vis) (stmts_right ss (after_node vis s.node)) h in
      (z.0, z.1)
