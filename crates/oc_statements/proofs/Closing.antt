-- What a call that is never gone on with leaves for an `else`.
use Rattle.std.proofs.Common.{◌≡◌, List, Bool, true, false, Result, Ok, Err, IfOk, Bor, sym, ◌∙◌, ap}
use Rattle.oc_source.specs.declared.spot.Spot.{Spot}
use Rattle.oc_source.specs.declared.parsed.BaseName.{BaseName}
use Rattle.oc_source.specs.declared.parsed.Declared.{Declared}
use Rattle.oc_source.specs.declared.parsed.Stmt.{Stmt, fold-roll-Stmt}
use Rattle.oc_source.specs.declared.parsed.StmtNode.{StmtNode-F, fold-StmtNode, fold-roll-StmtNode}
use Rattle.oc_source.specs.declared.parsed.StmtNode.TheVariants as st
use Rattle.oc_lexer.specs.declared.token.Token.{Token}
use Rattle.oc_grammar.specs.declared.ParseError.{ParseError}
use Rattle.oc_source.specs.Parsed.{stmt}
use Rattle.oc_grammar.specs.Parsing.{Found, Refused, Leaves, Any, then}
use Rattle.oc_grammar.specs.Calls.{Reads}
use Rattle.oc_grammar.specs.Statements.{Closed}
use Rattle.oc_grammar.specs.Open.{open_node, ends_open}
use Rattle.oc_grammar.proofs.Parsing.{through, through_fails, stricter, stricter_fails, end_is}
use Rattle.oc_statements.specs.Continuations.{SimpleStatement, declare_after}
use Rattle.oc_statements.proofs.Lone.{simple_shut}

-- the last call reads all that is left, whatever follows
pub last_read : {form left : Stmt → List Token → Type 0} {ts r1 r : List Token} {v : Stmt} → Leaves form Closed ts left r1 → Found left Any r1 v r → Found form Closed ts v r
last_read l f = through l (stricter (λ v zs k. tt) f)

pub last_fails : {form left : Stmt → List Token → Type 0} {ts r1 r : List Token} → Leaves form Closed ts left r1 → Refused left Any r1 r → Refused form Closed ts r
last_fails l f = through_fails l (stricter_fails (λ v zs k. tt) f)

-- no `else` goes on with it
pub open_declare : (spot : Spot) (ds : List Declared) → ends_open (stmt spot (st.Declare ds)) ≡ false
open_declare spot ds = fold-roll-Stmt Bool Bool open_node (λ s. s.node) (record { spot = spot; node = st.Declare ds }) ∙ (ap (fold-StmtNode Bool Bool open_node (λ s. s.node)) (sym (st.rolls-Declare ds)) ∙ fold-roll-StmtNode Bool Bool open_node (λ s. s.node) (StmtNode-F.Declare ds))

shut_closed : (v : Stmt) (rest : List Token) → ends_open v ≡ false → Closed v rest
shut_closed v rest h o = let e : false ≡ true = sym h ∙ o in cc

pub declare_closed : (b : BaseName) (ts : List Token) (r : Result (Stmt × Bor (List Token)) ParseError) → Reads (declare_after b) Any ts r → IfOk r (λ found. Closed found.0 found.1.now)
declare_closed b ts (Ok p) f = shut_closed p.0 p.1.now (go f.derives)
  where
    go : {v : Stmt} {x : List Token} → declare_after b v x → ends_open v ≡ false
    go (then {w = ds} d q) = let e = end_is q in rw e.0 (open_declare b.spot ds)
declare_closed b ts (Err e) f = tt

pub simple_closed : (ts : List Token) (r : Result (Stmt × Bor (List Token)) ParseError) → Reads SimpleStatement Any ts r → IfOk r (λ found. Closed found.0 found.1.now)
simple_closed ts (Ok p) f = shut_closed p.0 p.1.now (simple_shut f.derives)
simple_closed ts (Err e) f = tt
