-- The slots of a walk go on from those before it, whatever is judged.
use Rattle.std.proofs.Common.{ℕ, List, [], ◌∷◌, ◌++◌, length, Option, Some, None, Ok, Err, refl, sym, ap, ◌∙◌, Bool, true, false, append_assoc, append-nil}
use Rattle.std.specs.Prelude.{not, IfOk}
use Rattle.oc_values.specs.declared.integers.IntKind.TheVariants.{Bool as KBool}
use Rattle.oc_cells.specs.declared.types.CType.{CType, Int}
use Rattle.oc_cells.specs.declared.types.SlotType.{SlotType}
use Rattle.oc_source.specs.declared.spot.Spot.{Spot}
use Rattle.oc_source.specs.declared.parsed.Expr.{Expr}
use Rattle.oc_source.specs.declared.parsed.Stmt.{Stmt}
use Rattle.oc_source.specs.declared.parsed.Declared.{Declared}
use Rattle.oc_source.specs.declared.parsed.StmtNode.{StmtNode, Declare, Express, Block', If', OblivIf', Always', While', For', Return, Break, Continue, Empty, Row_of-Stmt, end_of-Stmt, more_of-Stmt, Held-StmtNode-If-2, None', Some'}
use Rattle.oc_source.specs.declared.parsed.ForInit.{ForInit}
use Rattle.oc_source.specs.declared.parsed.ForInit.TheVariants as begin
use Rattle.oc_typed.specs.declared.typed.TDeclared.{TDeclared}
use Rattle.type_rules.specs.declared.judging.TypeRule.TheVariants.{T2}
use Rattle.type_rules.specs.Judging.{Judged, next, needs}
use Rattle.type_rules.specs.Lookup.{Lookup}
use Rattle.type_rules.specs.Written.{field_type, is_frozen_place}
use Rattle.type_rules.specs.Rules.{typed_value, typed_alone}
use Rattle.type_rules.specs.StatementRules.{Scope, Walk, bind, pure, ask, at, scoped, is_taken, add, value_in, alone_in, optional_in, initial, declare, declare_all, name_mark, header, stmt, part, stmts, other}
use Rattle.type_rules.specs.ProgramRules.{statements}
use Rattle.rules_typed.specs.Agreeing.{Goes}

-- a walk that breaks a rule or adds slots at the end
abbrev pub Grows : {A : Type 0} → Walk A → Type 0
Grows m = (z : Scope) → IfOk (m z) (λ q. Goes z.slots q.1.slots)

-- slots go on from themselves, and from those that they go on from
goes_on : (a : List SlotType) → Goes a a
goes_on a = ([], sym (append-nil a))

goes_further : (a b c : List SlotType) → Goes a b → Goes b c → Goes a c
goes_further a b c g h = (g.0 ++ h.0, h.1 ∙ ap (λ l. l ++ h.0) g.1 ∙ append_assoc a g.0 h.0)

-- one walk after another
grows_bind : {A B : Type 0} (m : Walk A) (k : A → Walk B) → Grows m → ((a : A) → Grows (k a)) → Grows (bind m k)
unfolding next
grows_bind {A} {B} m k f g z = on (m z) (f z)
  where
    then : (x : A × Scope) (n : Judged (B × Scope)) → Goes z.slots x.1.slots → IfOk n (λ q. Goes x.1.slots q.1.slots) → IfOk n (λ q. Goes z.slots q.1.slots)
    then x (Ok y) h i = goes_further z.slots x.1.slots y.1.slots h i
    then x (Err b) h i = tt

    on : (n : Judged (A × Scope)) → IfOk n (λ q. Goes z.slots q.1.slots) → IfOk (next n (λ r. k r.0 r.1)) (λ q. Goes z.slots q.1.slots)
    on (Ok x) h = then x (k x.0 x.1) h (g x.0 x.1)
    on (Err b) h = tt

-- an answer adds no slot
still : (z : Scope) → Goes z.slots z.slots
still z = goes_on z.slots

-- a judgement that declares nothing
grows_judged : {A : Type 0} (m : Judged A) (z : Scope) → IfOk (next {B = A × Scope} m (λ a. Ok (a, z))) (λ q. Goes z.slots q.1.slots)
unfolding next
grows_judged (Ok a) z = goes_on z.slots
grows_judged (Err b) z = tt

-- a judgement, and a part with a scope of its own
grows_ask : {A : Type 0} (m : Judged A) → Grows (ask m)
grows_ask m z = grows_judged m z

grows_scoped : {A : Type 0} (m : Walk A) → Grows m → Grows (scoped m)
unfolding next
grows_scoped {A} m f z = on (m (record z { outer = length z.seen })) (f (record z { outer = length z.seen }))
  where
    on : (n : Judged (A × Scope)) → IfOk n (λ q. Goes z.slots q.1.slots) → IfOk (next {B = A × Scope} n (λ q. Ok (q.0, record { seen = z.seen; slots = q.1.slots; outer = z.outer }))) (λ q. Goes z.slots q.1.slots)
    on (Ok x) h = h
    on (Err b) h = tt

-- expressions
grows_value : (g : Lookup) (e : Expr) → Grows (value_in g e)
grows_value g e z = grows_judged (typed_value (at g z) e) z

grows_alone : (g : Lookup) (e : Expr) → Grows (alone_in g e)
grows_alone g e z = grows_judged (typed_alone (at g z) e) z

grows_optional : (g : Lookup) (o : Option Expr) → Grows (optional_in g o)
grows_optional g None = still
grows_optional g (Some e) = grows_bind (value_in g e) (λ v. pure (Some v)) (grows_value g e) (λ v. still)

-- an initialiser
grows_initial : (g : Lookup) (u : CType) (o : Option Expr) → Grows (initial g u o)
grows_initial g u None = still
grows_initial g u (Some e) = grows_bind (value_in g e) _ (grows_value g e) (λ v. grows_bind (ask _) _ (grows_ask _) (λ x. still))

-- a variable more
added : (x : List ℕ) (u : CType) (frozen : Bool) (z : Scope) → Goes z.slots (add x u frozen z).slots
added x u frozen z = (record { ty = u; frozen = frozen } ∷ [], refl)

-- a declaration
grows_declare : (g : Lookup) (d : Declared) → Grows (declare g d)
unfolding next
grows_declare g d z = on (field_type g d.field) (not (is_taken z d.field.name))
  where
    then : {A : Type 0} (w : Scope) (n : Judged (A × Scope)) → Goes z.slots w.slots → IfOk n (λ q. Goes w.slots q.1.slots) → IfOk n (λ q. Goes z.slots q.1.slots)
    then w (Ok y) h i = goes_further z.slots w.slots y.1.slots h i
    then w (Err b) h i = tt

    on : (m : Judged CType) (b : Bool) → IfOk (next m (λ ty. next (needs d.field.spot T2 b) (λ _. bind {B = TDeclared} (initial g ty d.init) (λ v. pure (record { spot = d.field.spot; slot = length z.slots; init = v })) (add d.field.name ty (is_frozen_place d.field.base d.field.stars) z)))) (λ q. Goes z.slots q.1.slots)
    on (Err b) c = tt
    on (Ok u) false = tt
    on (Ok u) true =
        let w = add d.field.name u (is_frozen_place d.field.base d.field.stars) z in
        then w (bind (initial g u d.init) (λ v. pure (record { spot = d.field.spot; slot = length z.slots; init = v })) w) (added d.field.name u (is_frozen_place d.field.base d.field.stars) z)
        (grows_bind (initial g u d.init) _ (grows_initial g u d.init) (λ v. still) w)

grows_declare_all : (g : Lookup) (ds : List Declared) → Grows (declare_all g ds)
grows_declare_all g [] = still
grows_declare_all g (d ∷ ds) = grows_bind (declare g d) _ (grows_declare g d) (λ x. grows_bind (declare_all g ds) _ (grows_declare_all g ds) (λ xs. still))

-- the variable of a `~obliv`
grows_mark : (x : List ℕ) → Grows (name_mark x)
grows_mark x z = added x (Int KBool true) false z

-- the header of a `for`
grows_header : (g : Lookup) (i : ForInit) → Grows (header g i)
grows_header g begin.Nothing = still
grows_header g (begin.Declare ds) = grows_bind (declare_all g ds) _ (grows_declare_all g ds) (λ xs. still)
grows_header g (begin.Express e) = grows_bind (value_in g e) _ (grows_value g e) (λ v. still)

mutual
  -- each form of a statement
  grows_stmt : (g : Lookup) (loop : Bool) (p : Spot) (c : StmtNode) → Grows (stmt g loop p c)
  grows_stmt g loop p (Declare ds) = grows_bind (declare_all g ds) _ (grows_declare_all g ds) (λ xs. still)
  grows_stmt g loop p (Express e) = grows_bind (alone_in g e) _ (grows_alone g e) (λ v. still)
  grows_stmt g loop p (Block' _ ss) = grows_bind (scoped (stmts g loop ss)) _ (grows_scoped (stmts g loop ss) (grows_stmts g loop ss)) (λ xs. still)
  grows_stmt g loop p (If' c _ y n) = grows_bind (value_in g c) _ (grows_value g c) (λ v. grows_bind (ask _) _ (grows_ask _) (λ _. grows_bind (part g loop y) _ (grows_part g loop y) (λ a. grows_bind (other g loop n) _ (grows_other g loop n) (λ b. still))))
  grows_stmt g loop p (OblivIf' c _ y n) = grows_bind (value_in g c) _ (grows_value g c) (λ v. grows_bind (ask _) _ (grows_ask _) (λ _. grows_bind (part g loop y) _ (grows_part g loop y) (λ a. grows_bind (other g loop n) _ (grows_other g loop n) (λ b. still))))
  grows_stmt g loop p (Always' x _ b) = grows_scoped _ (grows_bind (name_mark x) _ (grows_mark x) (λ n. grows_bind (part g loop b) _ (grows_part g loop b) (λ a. still)))
  grows_stmt g loop p (While' c _ b) = grows_bind (value_in g c) _ (grows_value g c) (λ v. grows_bind (ask _) _ (grows_ask _) (λ _. grows_bind (part g true b) _ (grows_part g true b) (λ a. still)))
  grows_stmt g loop p (For' i c v _ b) =
      grows_scoped _ (grows_bind (header g i) _ (grows_header g i) (λ x. grows_bind (optional_in g c) _ (grows_optional g c) (λ y. grows_bind (optional_in g v) _ (grows_optional g v) (λ w. grows_bind (ask _) _ (grows_ask _) (λ _. grows_bind (part g true b) _ (grows_part g true b) (λ a. still))))))
  grows_stmt g loop p (Return e) = grows_bind (optional_in g e) _ (grows_optional g e) (λ v. grows_bind (ask _) _ (grows_ask _) (λ x. still))
  grows_stmt g loop p Break = grows_bind (ask _) _ (grows_ask _) (λ _. still)
  grows_stmt g loop p Continue = grows_bind (ask _) _ (grows_ask _) (λ _. still)
  grows_stmt g loop p Empty = still

  grows_part : (g : Lookup) (loop : Bool) (c : Row_of-Stmt 1) → Grows (part g loop c)
  grows_part g loop (more_of-Stmt p n rest) = grows_scoped (stmt g loop p n) (grows_stmt g loop p n)

  grows_stmts : {m : _} (g : Lookup) (loop : Bool) (c : Row_of-Stmt m) → Grows (stmts g loop c)
  grows_stmts g loop end_of-Stmt = still
  grows_stmts g loop (more_of-Stmt p n rest) = grows_bind (stmt g loop p n) _ (grows_stmt g loop p n) (λ x. grows_bind (stmts g loop rest) _ (grows_stmts g loop rest) (λ xs. still))

  grows_other : (g : Lookup) (loop : Bool) (c : Held-StmtNode-If-2) → Grows (other g loop c)
  grows_other g loop None' = still
  grows_other g loop (Some' _ y) = grows_bind (part g loop y) _ (grows_part g loop y) (λ x. still)

-- the statements of a body
pub grows_statements : (g : Lookup) (ss : List Stmt) → Grows (statements g ss)
grows_statements g [] = still
grows_statements g (x ∷ xs) = grows_bind (stmt g false x.spot x.node) _ (grows_stmt g false x.spot x.node) (λ y. grows_bind (statements g xs) _ (grows_statements g xs) (λ ys. still))
