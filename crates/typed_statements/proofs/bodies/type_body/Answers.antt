use Rattle.std.proofs.Common.{refl}
use Rattle.std.proofs.lemmas.Result.{err_from_is_err_and}
use Rattle.written_types.specs.Known.{lookup}
use Rattle.typed_statements.proofs.Whole.{body_fails, body_made}
use Rattle.typed_statements.proofs.bodies.type_body.Goals as goal

pub returns-in_err-body : goal.returns-in_err-body
returns-in_err-body c =
    let q = err_from_is_err_and c.from_residual-in_err-body.result c.from_residual-in_err-body.ensures.1 in
    body_fails (lookup c.args.known.now) c.args.function.now c.args.heading.now c.args.stmts.now c.new-scope.result c.add_params.new.scope c.new-scope.ensures.empty c.in_ok-add_params.ensures.added c.in_err-body.ensures q.1 q.2

pub returns : goal.returns
returns c =
    body_made (lookup c.args.known.now) c.args.function.now c.args.heading.now c.args.stmts.now c.new-scope.result c.add_params.new.scope c.new-scope.ensures.empty c.in_ok-add_params.ensures.added c.in_ok-body.ensures
    (rw (c.in_ok-share.ensures, c.in_ok-share_type.ensures, c.len.ensures) refl)
