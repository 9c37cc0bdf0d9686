-- Statements: what the function of a statement gives is what its typing says.
use Rattle.std.proofs.Common.{◌≡◌, List, [], ◌∷◌, Option, Some, None, Ok, length, refl, sym, ap, ◌∙◌, subst, Bool, true, false}
use Rattle.std.specs.Prelude.{not}
use Rattle.oc_values.specs.declared.integers.IntKind.TheVariants.{Bool as KBool}
use Rattle.oc_source.specs.declared.spot.Spot.{Spot}
use Rattle.oc_cells.specs.declared.types.CType.{CType, Int}
use Rattle.oc_source.specs.declared.parsed.Expr.{Expr}
use Rattle.oc_source.specs.declared.parsed.Stmt.{Stmt}
use Rattle.oc_source.specs.declared.parsed.Declared.{Declared}
use Rattle.oc_source.specs.declared.parsed.StmtNode.{StmtNode, Declare, Express, Block', If', OblivIf', Always', While', For', Return, Break, Continue, Empty, Row_of-Stmt, end_of-Stmt, more_of-Stmt, Held-StmtNode-If-2, None', Some'}
use Rattle.oc_source.specs.declared.parsed.ForInit.{ForInit}
use Rattle.oc_source.specs.declared.parsed.ForInit.TheVariants as begin
use Rattle.oc_typed.specs.declared.typed.TExpr.{TExpr}
use Rattle.oc_typed.specs.declared.typed.TStmt.{TStmt}
use Rattle.oc_typed.specs.declared.typed.TStmtNode as t
use Rattle.oc_typed.specs.declared.typed.TDeclared.{TDeclared}
use Rattle.oc_typed.specs.declared.typed.TForInit.{TForInit}
use Rattle.oc_typed.specs.declared.typed.TForInit.TheVariants as init
use Rattle.oc_cells.specs.Types.{is_integer}
use Rattle.type_rules.specs.declared.judging.TypeRule.{TypeRule}
use Rattle.type_rules.specs.declared.judging.TypeRule.TheVariants.{T2, T3, T12}
use Rattle.type_rules.specs.declared.judging.Found.{Found}
use Rattle.type_rules.specs.Judging.{Judged, next, needs, public_integer}
use Rattle.type_rules.specs.Lookup.{Lookup, value_of, convert, converted}
use Rattle.type_rules.specs.Written.{field_type}
use Rattle.type_rules.specs.Rules.{expr, typed_value, typed_alone}
use Rattle.type_rules.specs.StatementRules.{Scope, Walk, bind, pure, ask, at, scoped, add, is_taken, value_in, alone_in, optional_in, initial, declare, declare_all, header, condition, returned, made, name_mark, stmt, stmts, part, other}
use Rattle.type_rules.specs.ProgramRules.{statements}
use Rattle.type_rules.specs.Moves.{deeper, back}
use Rattle.type_rules.proofs.Laws.{absurd, parted, then_ok, as_value, fine_back, not_both, found, holds}
use Rattle.type_rules.proofs.Statements.{value_then, alone_then, ask_then, scoped_then, walk_then, mark_then, not_taken}
use Rattle.judged_programs.specs.StatementTyping.{stands, ValueTyping, OptionalTyping, InitialTyping, declared, DeclaredTyping, DeclaresTyping, HeaderTyping, StatementTyping, PartTyping, BlockTyping, OtherTyping, BodyTyping}

-- an answer's parts
pure_back : {A : Type 0} (a : A) (s : Scope) (z : A × Scope) → ◌≡◌ {A = Judged (A × Scope)} (Ok (a, s)) (Ok z) → (z.0 ≡ a) × (z.1 ≡ s)
pure_back {A = A} a s z h = let q = fine_back _ _ h in (sym (ap (λ (y : A × Scope). y.0) q), sym (ap (λ (y : A × Scope). y.1) q))

pure_ok : {A : Type 0} (a b : A) (s r : Scope) → b ≡ a → r ≡ s → ◌≡◌ {A = Judged (A × Scope)} (Ok (a, s)) (Ok (b, r))
pure_ok {A = A} a b s r e f = ap (λ y. Ok (y, s)) (sym e) ∙ ap (λ q. Ok (b, q)) (sym f)

-- what a part in a scope of its own gives
scoped_back : {A : Type 0} (w : Walk A) (s : Scope) (z : A × Scope) → scoped w s ≡ Ok z → (r : A × Scope) × (w (deeper s) ≡ Ok r) × (z.0 ≡ r.0) × (z.1 ≡ back s r.1)
scoped_back {A = A} w s z h =
    let q = parted (w (deeper s)) (λ r. Ok (r.0, back s r.1)) z h in
    let e = fine_back _ _ q.2 in
    (q.0, q.1, sym (ap (λ (y : A × Scope). y.0) e), sym (ap (λ (y : A × Scope). y.1) e))

-- what is needed at a node is so
pub met : (p : Spot) (rule : TypeRule) (b : Bool) (u : Unit {0}) → needs p rule b ≡ Ok u → b ≡ true
met p rule true u h = refl
met p rule false u h = absurd (not_both u _ h)

pub meets : (p : Spot) (rule : TypeRule) (b : Bool) → b ≡ true → needs p rule b ≡ Ok tt
meets p rule b h = ap (λ c. needs p rule c) h

-- steps that answer, one after the other
pub walk_ok : {A B : Type 0} (w : Walk A) (k : A → Walk B) (s : Scope) (a : A) (q : Scope) (z : B × Scope) → w s ≡ Ok (a, q) → k a q ≡ Ok z → bind w k s ≡ Ok z
walk_ok w k s a q z h i = then_ok (λ r. k r.0 r.1) h ∙ i

ask_ok : {A B : Type 0} (m : Judged A) (k : A → Walk B) (s : Scope) (a : A) (z : B × Scope) → m ≡ Ok a → k a s ≡ Ok z → bind (ask m) k s ≡ Ok z
ask_ok m k s a z h i = walk_ok (ask m) k s a s z (then_ok (λ x. Ok (x, s)) h) i

scoped_is : {A : Type 0} (w : Walk A) (s : Scope) (a : A) (q : Scope) → w (deeper s) ≡ Ok (a, q) → scoped w s ≡ Ok (a, back s q)
scoped_is w s a q h = then_ok (λ r. Ok (r.0, back s r.1)) h

module _ (g : Lookup) where
  value_is : (e : Expr) (s : Scope) (v : TExpr) → ValueTyping g s e v → value_in g e s ≡ Ok (v, s)
  unfolding typed_value
  value_is e s v h = then_ok (λ y. Ok (y, s)) (as_value (holds (at g s) false e.spot e.node h.0 h.1)) ∙ ap (λ y. Ok (y, s)) (sym h.2)

  alone_is : (e : Expr) (s : Scope) (f : Found) → expr (at g s) true e.spot e.node ≡ Ok f → alone_in g e s ≡ Ok (value_of f, s)
  unfolding typed_alone
  alone_is e s f h = then_ok (λ y. Ok (y, s)) (as_value h)

  value_typed : (e : Expr) (s : Scope) (f : Found) → expr (at g s) false e.spot e.node ≡ Ok f → ValueTyping g s e (value_of f)
  value_typed e s f h = (f, found (at g s) false e.spot e.node f h, refl)

  optional_typed : {B : Type 0} (o : Option Expr) (k : Option TExpr → Walk B) (s : Scope) (z : B × Scope) → bind (optional_in g o) k s ≡ Ok z → (y : Option TExpr) × OptionalTyping g s o y × (k y s ≡ Ok z)
  unfolding next
  optional_typed None k s z h = (None, refl, h)
  optional_typed (Some e) k s z h =
      let a = walk_then (optional_in g (Some e)) k s z h in
      let b = value_then g e (λ v. pure (Some v)) s a.0 a.1 in
      (Some (value_of b.0), (value_of b.0, value_typed e s b.0 b.1, refl), subst (λ (r : Option TExpr × Scope). k r.0 r.1 ≡ Ok z) (sym (fine_back _ _ b.2)) a.2)

  optional_is : (o : Option Expr) (s : Scope) (y : Option TExpr) → OptionalTyping g s o y → optional_in g o s ≡ Ok (y, s)
  optional_is None s y h = ap (λ x. Ok (x, s)) (sym h)
  optional_is (Some e) s y h = walk_ok (value_in g e) (λ v. pure (Some v)) s h.0 s (y, s) (value_is e s h.0 h.1) (ap (λ x. Ok (x, s)) (sym h.2))

  initial_typed : (ty : CType) (o : Option Expr) (s : Scope) (z : Option TExpr × Scope) → initial g ty o s ≡ Ok z → InitialTyping g s ty o z.0 × (z.1 ≡ s)
  initial_typed ty None s z h = pure_back None s z h
  initial_typed ty (Some e) s z h =
      let a = value_then g e (λ w. bind (ask (convert ty w)) (λ x. pure (Some x))) s z h in
      let b = ask_then (convert ty (value_of a.0)) (λ x. pure (Some x)) s z a.2 in
      let q = pure_back (Some b.0) s z b.2 in
      ((value_of a.0, b.0, value_typed e s a.0 a.1, b.1, q.0), q.1)

  initial_is : (ty : CType) (o : Option Expr) (s : Scope) (y : Option TExpr) → InitialTyping g s ty o y → initial g ty o s ≡ Ok (y, s)
  initial_is ty None s y h = ap (λ x. Ok (x, s)) (sym h)
  initial_is ty (Some e) s y h =
      walk_ok (value_in g e) (λ w. bind (ask (convert ty w)) (λ x. pure (Some x))) s h.0 s (y, s) (value_is e s h.0 h.2)
      (ask_ok (convert ty h.0) (λ x. pure (Some x)) s h.1 (y, s) h.3 (ap (λ x. Ok (x, s)) (sym h.4)))

  abbrev declaring : Declared → Scope → Option TExpr → Walk TDeclared
  declaring d s v = pure (record { spot = d.field.spot; slot = length s.slots; init = v })

  declare_typed : (d : Declared) (s : Scope) (z : TDeclared × Scope) → declare g d s ≡ Ok z → DeclaredTyping g d s z.0 z.1
  declare_typed d s z h =
      let a = parted (field_type g d.field) (λ ty. next (needs d.field.spot T2 (not (is_taken s d.field.name))) (λ _. bind (initial g ty d.init) (λ v. declaring d s v) (declared d ty s))) z h in
      let n = parted (needs d.field.spot T2 (not (is_taken s d.field.name))) (λ _. bind (initial g a.0 d.init) (λ v. declaring d s v) (declared d a.0 s)) z a.2 in
      let i = walk_then (initial g a.0 d.init) (λ v. declaring d s v) (declared d a.0 s) z n.2 in
      let o = initial_typed a.0 d.init (declared d a.0 s) i.0 i.1 in
      let q = pure_back _ i.0.1 z i.2 in
      (a.0, i.0.0, a.1, not_taken _ _ _ n.1, o.0, q.0, q.1 ∙ o.1)

  declare_is : (d : Declared) (s : Scope) (x : TDeclared) (r : Scope) → DeclaredTyping g d s x r → declare g d s ≡ Ok (x, r)
  declare_is d s x r h =
      then_ok (λ ty. next (needs d.field.spot T2 (not (is_taken s d.field.name))) (λ _. bind (initial g ty d.init) (λ v. declaring d s v) (declared d ty s))) h.2
      ∙ then_ok (λ _. bind (initial g h.0 d.init) (λ v. declaring d s v) (declared d h.0 s)) (meets d.field.spot T2 _ (ap not h.3))
      ∙ walk_ok (initial g h.0 d.init) (λ v. declaring d s v) (declared d h.0 s) h.1 (declared d h.0 s) (x, r) (initial_is h.0 d.init (declared d h.0 s) h.1 h.4) (pure_ok _ x _ r h.5 h.6)

  declares_typed : (ds : List Declared) (s : Scope) (z : List TDeclared × Scope) → declare_all g ds s ≡ Ok z → DeclaresTyping g ds s z.0 z.1
  declares_typed [] s z h = pure_back [] s z h
  declares_typed (d ∷ ds) s z h =
      let a = walk_then (declare g d) (λ x. bind (declare_all g ds) (λ xs. pure (x ∷ xs))) s z h in
      let b = walk_then (declare_all g ds) (λ xs. pure (a.0.0 ∷ xs)) a.0.1 z a.2 in
      let q = pure_back (a.0.0 ∷ b.0.0) b.0.1 z b.2 in
      (a.0.0, a.0.1, b.0.0, declare_typed d s a.0 a.1, subst (λ r. DeclaresTyping g ds a.0.1 b.0.0 r) (sym q.1) (declares_typed ds a.0.1 b.0 b.1), q.0)

  declares_is : (ds : List Declared) (s : Scope) (xs : List TDeclared) (r : Scope) → DeclaresTyping g ds s xs r → declare_all g ds s ≡ Ok (xs, r)
  declares_is [] s xs r h = pure_ok [] xs s r h.0 h.1
  declares_is (d ∷ ds) s xs r h =
      walk_ok (declare g d) (λ x. bind (declare_all g ds) (λ ys. pure (x ∷ ys))) s h.0 h.1 (xs, r) (declare_is d s h.0 h.1 h.3)
      (walk_ok (declare_all g ds) (λ ys. pure (h.0 ∷ ys)) h.1 h.2 r (xs, r) (declares_is ds h.1 h.2 r h.4) (pure_ok (h.0 ∷ h.2) xs r r h.5 refl))

  header_typed : (i : ForInit) (s : Scope) (z : TForInit × Scope) → header g i s ≡ Ok z → HeaderTyping g i s z.0 z.1
  header_typed begin.Nothing s z h = pure_back init.Nothing s z h
  header_typed (begin.Declare ds) s z h =
      let a = walk_then (declare_all g ds) (λ xs. pure (init.Declare xs)) s z h in
      let q = pure_back (init.Declare a.0.0) a.0.1 z a.2 in
      (a.0.0, subst (λ r. DeclaresTyping g ds s a.0.0 r) (sym q.1) (declares_typed ds s a.0 a.1), q.0)
  header_typed (begin.Express e) s z h =
      let a = value_then g e (λ v. pure (init.Express v)) s z h in
      let q = pure_back (init.Express (value_of a.0)) s z a.2 in
      (value_of a.0, value_typed e s a.0 a.1, q.0, q.1)

  header_is : (i : ForInit) (s : Scope) (y : TForInit) (r : Scope) → HeaderTyping g i s y r → header g i s ≡ Ok (y, r)
  header_is begin.Nothing s y r h = pure_ok init.Nothing y s r h.0 h.1
  header_is (begin.Declare ds) s y r h =
      walk_ok (declare_all g ds) (λ xs. pure (init.Declare xs)) s h.0 r (y, r) (declares_is ds s h.0 r h.1) (pure_ok (init.Declare h.0) y r r h.2 refl)
  header_is (begin.Express e) s y r h =
      walk_ok (value_in g e) (λ v. pure (init.Express v)) s h.0 s (y, r) (value_is e s h.0 h.1) (pure_ok (init.Express h.0) y s r h.2 h.3)

  mutual
    -- the function's answer is typed
    pub statement_typed : (loop : Bool) (p : Spot) (n : StmtNode) (s : Scope) (z : TStmt × Scope) → stmt g loop p n s ≡ Ok z → StatementTyping g loop p n s z.0 z.1
    statement_typed loop p (Express e) s z h =
        let a = alone_then g e (λ v. made p (t.Express v)) s z h in
        let q = pure_back (stands p (t.Express (value_of a.0))) s z a.2 in
        (a.0, found (at g s) true e.spot e.node a.0 a.1, q.0, q.1)
    statement_typed loop p (Declare ds) s z h =
        let a = walk_then (declare_all g ds) (λ xs. made p (t.Declare xs)) s z h in
        let q = pure_back (stands p (t.Declare a.0.0)) a.0.1 z a.2 in
        (a.0.0, subst (λ r. DeclaresTyping g ds s a.0.0 r) (sym q.1) (declares_typed ds s a.0 a.1), q.0)
    statement_typed loop p (Block' u ss) s z h =
        let a = scoped_then (stmts g loop ss) (λ xs. made p (t.Block xs)) s z h in
        let q = pure_back (stands p (t.Block a.0.0)) (back s a.0.1) z a.2 in
        (a.0.0, a.0.1, block_typed loop ss (deeper s) a.0 a.1, q.0, q.1)
    statement_typed loop p (If' e u y n) s z h =
        let a = value_then g e (λ v. bind (ask (public_integer p v.ty)) (λ _. bind (part g loop y) (λ x. bind (other g loop n) (λ o. made p (t.If v x o))))) s z h in
        let b = ask_then (public_integer p (value_of a.0).ty) (λ _. bind (part g loop y) (λ x. bind (other g loop n) (λ o. made p (t.If (value_of a.0) x o)))) s z a.2 in
        let d = walk_then (part g loop y) (λ x. bind (other g loop n) (λ o. made p (t.If (value_of a.0) x o))) s z b.2 in
        let l = walk_then (other g loop n) (λ o. made p (t.If (value_of a.0) d.0.0 o)) d.0.1 z d.2 in
        let q = pure_back (stands p (t.If (value_of a.0) d.0.0 l.0.0)) l.0.1 z l.2 in
        (value_of a.0, d.0.0, d.0.1, l.0.0, value_typed e s a.0 a.1, b.1, part_typed loop y s d.0 d.1, subst (λ r. OtherTyping g loop n d.0.1 l.0.0 r) (sym q.1) (other_typed loop n d.0.1 l.0 l.1), q.0)
    statement_typed loop p (OblivIf' e u y n) s z h =
        let a = value_then g e (λ v. bind (ask (needs p T3 (is_integer v.ty))) (λ _. bind (part g loop y) (λ x. bind (other g loop n) (λ o. made p (t.OblivIf (converted (Int KBool true) v) x o))))) s z h in
        let b = ask_then (needs p T3 (is_integer (value_of a.0).ty)) (λ _. bind (part g loop y) (λ x. bind (other g loop n) (λ o. made p (t.OblivIf (converted (Int KBool true) (value_of a.0)) x o)))) s z a.2 in
        let d = walk_then (part g loop y) (λ x. bind (other g loop n) (λ o. made p (t.OblivIf (converted (Int KBool true) (value_of a.0)) x o))) s z b.2 in
        let l = walk_then (other g loop n) (λ o. made p (t.OblivIf (converted (Int KBool true) (value_of a.0)) d.0.0 o)) d.0.1 z d.2 in
        let q = pure_back (stands p (t.OblivIf (converted (Int KBool true) (value_of a.0)) d.0.0 l.0.0)) l.0.1 z l.2 in
        (value_of a.0, d.0.0, d.0.1, l.0.0, value_typed e s a.0 a.1, met p T3 _ b.0 b.1, part_typed loop y s d.0 d.1, subst (λ r. OtherTyping g loop n d.0.1 l.0.0 r) (sym q.1) (other_typed loop n d.0.1 l.0 l.1), q.0)
    statement_typed loop p (Always' x u y) s z h =
        let w = scoped_back (bind (name_mark x) (λ n. bind (part g loop y) (λ a. made p (t.Always n a)))) s z h in
        let m = mark_then x (λ n. bind (part g loop y) (λ a. made p (t.Always n a))) (deeper s) (Ok w.0) w.1 in
        let d = walk_then (part g loop y) (λ a. made p (t.Always (length s.slots) a)) (add x (Int KBool true) false (deeper s)) w.0 m in
        let q = pure_back (stands p (t.Always (length s.slots) d.0.0)) d.0.1 w.0 d.2 in
        (d.0.0, w.0.1, subst (λ r. PartTyping g loop y (add x (Int KBool true) false (deeper s)) d.0.0 r) (sym q.1) (part_typed loop y (add x (Int KBool true) false (deeper s)) d.0 d.1), w.2 ∙ q.0, w.3)
    statement_typed loop p (While' e u y) s z h =
        let a = value_then g e (λ v. bind (ask (public_integer p v.ty)) (λ _. bind (part g true y) (λ b. made p (t.While v b)))) s z h in
        let b = ask_then (public_integer p (value_of a.0).ty) (λ _. bind (part g true y) (λ x. made p (t.While (value_of a.0) x))) s z a.2 in
        let d = walk_then (part g true y) (λ x. made p (t.While (value_of a.0) x)) s z b.2 in
        let q = pure_back (stands p (t.While (value_of a.0) d.0.0)) d.0.1 z d.2 in
        (value_of a.0, d.0.0, value_typed e s a.0 a.1, b.1, subst (λ r. PartTyping g true y s d.0.0 r) (sym q.1) (part_typed true y s d.0 d.1), q.0)
    statement_typed loop p (For' i e v u y) s z h =
        let w = scoped_back (bind (header g i) (λ a. bind (optional_in g e) (λ b. bind (optional_in g v) (λ d. bind (ask (condition p b)) (λ _. bind (part g true y) (λ l. made p (t.For a b d l))))))) s z h in
        let k = walk_then (header g i) (λ a. bind (optional_in g e) (λ b. bind (optional_in g v) (λ d. bind (ask (condition p b)) (λ _. bind (part g true y) (λ l. made p (t.For a b d l)))))) (deeper s) w.0 w.1 in
        let b = optional_typed e (λ b. bind (optional_in g v) (λ d. bind (ask (condition p b)) (λ _. bind (part g true y) (λ l. made p (t.For k.0.0 b d l))))) k.0.1 w.0 k.2 in
        let d = optional_typed v (λ d. bind (ask (condition p b.0)) (λ _. bind (part g true y) (λ l. made p (t.For k.0.0 b.0 d l)))) k.0.1 w.0 b.2 in
        let j = ask_then (condition p b.0) (λ _. bind (part g true y) (λ l. made p (t.For k.0.0 b.0 d.0 l))) k.0.1 w.0 d.2 in
        let l = walk_then (part g true y) (λ l. made p (t.For k.0.0 b.0 d.0 l)) k.0.1 w.0 j.2 in
        let q = pure_back (stands p (t.For k.0.0 b.0 d.0 l.0.0)) l.0.1 w.0 l.2 in
        (k.0.0, b.0, d.0, l.0.0, k.0.1, w.0.1, header_typed i (deeper s) k.0 k.1, b.1, d.1, j.1, subst (λ r. PartTyping g true y k.0.1 l.0.0 r) (sym q.1) (part_typed true y k.0.1 l.0 l.1), w.2 ∙ q.0, w.3)
    statement_typed loop p (Return v) s z h =
        let a = optional_typed v (λ y. bind (ask (returned g p y)) (λ x. made p (t.Return x))) s z h in
        let b = ask_then (returned g p a.0) (λ x. made p (t.Return x)) s z a.2 in
        let q = pure_back (stands p (t.Return b.0)) s z b.2 in
        (a.0, b.0, a.1, b.1, q.0, q.1)
    statement_typed loop p Break s z h =
        let a = ask_then (needs p T12 loop) (λ _. made p t.Break) s z h in
        let q = pure_back (stands p t.Break) s z a.2 in
        (met p T12 loop a.0 a.1, q.0, q.1)
    statement_typed loop p Continue s z h =
        let a = ask_then (needs p T12 loop) (λ _. made p t.Continue) s z h in
        let q = pure_back (stands p t.Continue) s z a.2 in
        (met p T12 loop a.0 a.1, q.0, q.1)
    statement_typed loop p Empty s z h = pure_back (stands p t.Empty) s z h

    part_typed : (loop : Bool) (y : Row_of-Stmt 1) (s : Scope) (z : TStmt × Scope) → part g loop y s ≡ Ok z → PartTyping g loop y s z.0 z.1
    part_typed loop (more_of-Stmt p n rest) s z h =
        let w = scoped_back (stmt g loop p n) s z h in
        (w.0.1, subst (λ c. StatementTyping g loop p n (deeper s) c w.0.1) (sym w.2) (statement_typed loop p n (deeper s) w.0 w.1), w.3)

    block_typed : {m : _} (loop : Bool) (ss : Row_of-Stmt m) (s : Scope) (z : List TStmt × Scope) → stmts g loop ss s ≡ Ok z → BlockTyping g loop ss s z.0 z.1
    block_typed loop end_of-Stmt s z h = pure_back [] s z h
    block_typed loop (more_of-Stmt p n rest) s z h =
        let a = walk_then (stmt g loop p n) (λ x. bind (stmts g loop rest) (λ xs. pure (x ∷ xs))) s z h in
        let b = walk_then (stmts g loop rest) (λ xs. pure (a.0.0 ∷ xs)) a.0.1 z a.2 in
        let q = pure_back (a.0.0 ∷ b.0.0) b.0.1 z b.2 in
        (a.0.0, a.0.1, b.0.0, statement_typed loop p n s a.0 a.1, subst (λ r. BlockTyping g loop rest a.0.1 b.0.0 r) (sym q.1) (block_typed loop rest a.0.1 b.0 b.1), q.0)

    other_typed : (loop : Bool) (o : Held-StmtNode-If-2) (s : Scope) (z : Option TStmt × Scope) → other g loop o s ≡ Ok z → OtherTyping g loop o s z.0 z.1
    other_typed loop None' s z h = pure_back None s z h
    other_typed loop (Some' u y) s z h =
        let a = walk_then (part g loop y) (λ x. pure (Some x)) s z h in
        let q = pure_back (Some a.0.0) a.0.1 z a.2 in
        (a.0.0, subst (λ r. PartTyping g loop y s a.0.0 r) (sym q.1) (part_typed loop y s a.0 a.1), q.0)

  mutual
    -- what is typed is the function's answer
    pub statement_is : (loop : Bool) (p : Spot) (n : StmtNode) (s : Scope) (c : TStmt) (r : Scope) → StatementTyping g loop p n s c r → stmt g loop p n s ≡ Ok (c, r)
    statement_is loop p (Express e) s c r h =
        walk_ok (alone_in g e) (λ v. made p (t.Express v)) s (value_of h.0) s (c, r) (alone_is e s h.0 (holds (at g s) true e.spot e.node h.0 h.1)) (pure_ok _ c s r h.2 h.3)
    statement_is loop p (Declare ds) s c r h =
        walk_ok (declare_all g ds) (λ xs. made p (t.Declare xs)) s h.0 r (c, r) (declares_is ds s h.0 r h.1) (pure_ok _ c r r h.2 refl)
    statement_is loop p (Block' u ss) s c r h =
        walk_ok (scoped (stmts g loop ss)) (λ xs. made p (t.Block xs)) s h.0 (back s h.1) (c, r) (scoped_is (stmts g loop ss) s h.0 h.1 (block_is loop ss (deeper s) h.0 h.1 h.2)) (pure_ok _ c (back s h.1) r h.3 h.4)
    statement_is loop p (If' e u y n) s c r h =
        walk_ok (value_in g e) (λ v. bind (ask (public_integer p v.ty)) (λ _. bind (part g loop y) (λ x. bind (other g loop n) (λ o. made p (t.If v x o))))) s h.0 s (c, r) (value_is e s h.0 h.4)
        (ask_ok (public_integer p h.0.ty) (λ _. bind (part g loop y) (λ x. bind (other g loop n) (λ o. made p (t.If h.0 x o)))) s tt (c, r) h.5
        (walk_ok (part g loop y) (λ x. bind (other g loop n) (λ o. made p (t.If h.0 x o))) s h.1 h.2 (c, r) (part_is loop y s h.1 h.2 h.6)
        (walk_ok (other g loop n) (λ o. made p (t.If h.0 h.1 o)) h.2 h.3 r (c, r) (other_is loop n h.2 h.3 r h.7) (pure_ok _ c r r h.8 refl))))
    statement_is loop p (OblivIf' e u y n) s c r h =
        walk_ok (value_in g e) (λ v. bind (ask (needs p T3 (is_integer v.ty))) (λ _. bind (part g loop y) (λ x. bind (other g loop n) (λ o. made p (t.OblivIf (converted (Int KBool true) v) x o))))) s h.0 s (c, r) (value_is e s h.0 h.4)
        (ask_ok (needs p T3 (is_integer h.0.ty)) (λ _. bind (part g loop y) (λ x. bind (other g loop n) (λ o. made p (t.OblivIf (converted (Int KBool true) h.0) x o)))) s tt (c, r) (meets p T3 _ h.5)
        (walk_ok (part g loop y) (λ x. bind (other g loop n) (λ o. made p (t.OblivIf (converted (Int KBool true) h.0) x o))) s h.1 h.2 (c, r) (part_is loop y s h.1 h.2 h.6)
        (walk_ok (other g loop n) (λ o. made p (t.OblivIf (converted (Int KBool true) h.0) h.1 o)) h.2 h.3 r (c, r) (other_is loop n h.2 h.3 r h.7) (pure_ok _ c r r h.8 refl))))
    statement_is loop p (Always' x u y) s c r h =
        scoped_is (bind (name_mark x) (λ n. bind (part g loop y) (λ a. made p (t.Always n a)))) s c h.1
        (walk_ok (name_mark x) (λ n. bind (part g loop y) (λ a. made p (t.Always n a))) (deeper s) (length s.slots) (add x (Int KBool true) false (deeper s)) (c, h.1) refl
        (walk_ok (part g loop y) (λ a. made p (t.Always (length s.slots) a)) (add x (Int KBool true) false (deeper s)) h.0 h.1 (c, h.1) (part_is loop y (add x (Int KBool true) false (deeper s)) h.0 h.1 h.2) (pure_ok _ c h.1 h.1 h.3 refl)))
        ∙ ap (λ q. Ok (c, q)) (sym h.4)
    statement_is loop p (While' e u y) s c r h =
        walk_ok (value_in g e) (λ v. bind (ask (public_integer p v.ty)) (λ _. bind (part g true y) (λ b. made p (t.While v b)))) s h.0 s (c, r) (value_is e s h.0 h.2)
        (ask_ok (public_integer p h.0.ty) (λ _. bind (part g true y) (λ b. made p (t.While h.0 b))) s tt (c, r) h.3
        (walk_ok (part g true y) (λ b. made p (t.While h.0 b)) s h.1 r (c, r) (part_is true y s h.1 r h.4) (pure_ok _ c r r h.5 refl)))
    statement_is loop p (For' i e v u y) s c r h =
        scoped_is (bind (header g i) (λ a. bind (optional_in g e) (λ b. bind (optional_in g v) (λ d. bind (ask (condition p b)) (λ _. bind (part g true y) (λ l. made p (t.For a b d l))))))) s c h.5
        (walk_ok (header g i) (λ a. bind (optional_in g e) (λ b. bind (optional_in g v) (λ d. bind (ask (condition p b)) (λ _. bind (part g true y) (λ l. made p (t.For a b d l)))))) (deeper s) h.0 h.4 (c, h.5) (header_is i (deeper s) h.0 h.4 h.6)
        (walk_ok (optional_in g e) (λ b. bind (optional_in g v) (λ d. bind (ask (condition p b)) (λ _. bind (part g true y) (λ l. made p (t.For h.0 b d l))))) h.4 h.1 h.4 (c, h.5) (optional_is e h.4 h.1 h.7)
        (walk_ok (optional_in g v) (λ d. bind (ask (condition p h.1)) (λ _. bind (part g true y) (λ l. made p (t.For h.0 h.1 d l)))) h.4 h.2 h.4 (c, h.5) (optional_is v h.4 h.2 h.8)
        (ask_ok (condition p h.1) (λ _. bind (part g true y) (λ l. made p (t.For h.0 h.1 h.2 l))) h.4 tt (c, h.5) h.9
        (walk_ok (part g true y) (λ l. made p (t.For h.0 h.1 h.2 l)) h.4 h.3 h.5 (c, h.5) (part_is true y h.4 h.3 h.5 h.10) (pure_ok _ c h.5 h.5 h.11 refl))))))
        ∙ ap (λ q. Ok (c, q)) (sym h.12)
    statement_is loop p (Return v) s c r h =
        walk_ok (optional_in g v) (λ y. bind (ask (returned g p y)) (λ x. made p (t.Return x))) s h.0 s (c, r) (optional_is v s h.0 h.2)
        (ask_ok (returned g p h.0) (λ x. made p (t.Return x)) s h.1 (c, r) h.3 (pure_ok _ c s r h.4 h.5))
    statement_is loop p Break s c r h = ask_ok (needs p T12 loop) (λ _. made p t.Break) s tt (c, r) (meets p T12 loop h.0) (pure_ok _ c s r h.1 h.2)
    statement_is loop p Continue s c r h = ask_ok (needs p T12 loop) (λ _. made p t.Continue) s tt (c, r) (meets p T12 loop h.0) (pure_ok _ c s r h.1 h.2)
    statement_is loop p Empty s c r h = pure_ok _ c s r h.0 h.1

    part_is : (loop : Bool) (y : Row_of-Stmt 1) (s : Scope) (c : TStmt) (r : Scope) → PartTyping g loop y s c r → part g loop y s ≡ Ok (c, r)
    part_is loop (more_of-Stmt p n rest) s c r h =
        scoped_is (stmt g loop p n) s c h.0 (statement_is loop p n (deeper s) c h.0 h.1) ∙ ap (λ q. Ok (c, q)) (sym h.2)

    block_is : {m : _} (loop : Bool) (ss : Row_of-Stmt m) (s : Scope) (xs : List TStmt) (r : Scope) → BlockTyping g loop ss s xs r → stmts g loop ss s ≡ Ok (xs, r)
    block_is loop end_of-Stmt s xs r h = pure_ok [] xs s r h.0 h.1
    block_is loop (more_of-Stmt p n rest) s xs r h =
        walk_ok (stmt g loop p n) (λ x. bind (stmts g loop rest) (λ ys. pure (x ∷ ys))) s h.0 h.1 (xs, r) (statement_is loop p n s h.0 h.1 h.3)
        (walk_ok (stmts g loop rest) (λ ys. pure (h.0 ∷ ys)) h.1 h.2 r (xs, r) (block_is loop rest h.1 h.2 r h.4) (pure_ok (h.0 ∷ h.2) xs r r h.5 refl))

    other_is : (loop : Bool) (o : Held-StmtNode-If-2) (s : Scope) (y : Option TStmt) (r : Scope) → OtherTyping g loop o s y r → other g loop o s ≡ Ok (y, r)
    other_is loop None' s y r h = pure_ok None y s r h.0 h.1
    other_is loop (Some' u b) s y r h = walk_ok (part g loop b) (λ x. pure (Some x)) s h.0 r (y, r) (part_is loop b s h.0 r h.1) (pure_ok (Some h.0) y r r h.2 refl)

  pub body_typed : (cs : List Stmt) (s : Scope) (z : List TStmt × Scope) → statements g cs s ≡ Ok z → BodyTyping g cs s z.0 z.1
  body_typed [] s z h = pure_back [] s z h
  body_typed (c ∷ cs) s z h =
      let a = walk_then (stmt g false c.spot c.node) (λ x. bind (statements g cs) (λ xs. pure (x ∷ xs))) s z h in
      let b = walk_then (statements g cs) (λ xs. pure (a.0.0 ∷ xs)) a.0.1 z a.2 in
      let q = pure_back (a.0.0 ∷ b.0.0) b.0.1 z b.2 in
      (a.0.0, a.0.1, b.0.0, statement_typed false c.spot c.node s a.0 a.1, subst (λ r. BodyTyping g cs a.0.1 b.0.0 r) (sym q.1) (body_typed cs a.0.1 b.0 b.1), q.0)

  pub body_is : (cs : List Stmt) (s : Scope) (xs : List TStmt) (r : Scope) → BodyTyping g cs s xs r → statements g cs s ≡ Ok (xs, r)
  body_is [] s xs r h = pure_ok [] xs s r h.0 h.1
  body_is (c ∷ cs) s xs r h =
      walk_ok (stmt g false c.spot c.node) (λ x. bind (statements g cs) (λ ys. pure (x ∷ ys))) s h.0 h.1 (xs, r) (statement_is false c.spot c.node s h.0 h.1 h.3)
      (walk_ok (statements g cs) (λ ys. pure (h.0 ∷ ys)) h.1 h.2 r (xs, r) (body_is cs h.1 h.2 r h.4) (pure_ok (h.0 ∷ h.2) xs r r h.5 refl))
