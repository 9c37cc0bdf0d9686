use Rattle.std.proofs.Common.{◌∙◌, ap, refl, Err}
use Rattle.std.proofs.lemmas.Result.{err_from_is_err_and}
use Rattle.oc_typing.specs.Tree.{tree_of}
use Rattle.scope_rules.specs.FirstFault.{first_fault}
use Rattle.frozen_rules.proofs.Programs.{no_fault, a_fault, none_is, in_scope_by, kept_err, first_err, no_ok}
use Rattle.frozen_rules.proofs.check.check_scopes.Goals as goal

pub returns-in_err-check_functions : goal.returns-in_err-check_functions
returns-in_err-check_functions c =
    let q = err_from_is_err_and c.from_residual.result c.from_residual.ensures.1 in
    let e = q.1 ∙ ap Err q.2 in
    let n = a_fault (tree_of c.args.typed.now) c.args.typed.now.well_typed _ _ c.in_err-check_functions.ensures refl in
    record {
      kept = kept_err (tree_of c.args.typed.now) c.from_residual.result _ e n;
      lent = no_ok (tree_of c.args.typed.now) c.from_residual.result _ _ e;
      first = first_err (tree_of c.args.typed.now) c.from_residual.result _ e n;
    }

pub returns : goal.returns
returns c =
    let t = tree_of c.args.typed.now in
    let n = no_fault t c.args.typed.now.well_typed _ _ c.in_ok-check_functions.ensures refl in
    record {
      kept = (λ k. in_scope_by t n, λ s. refl);
      lent = refl;
      first = tt;
    }

pub invariant_of-result : goal.invariant_of-result
invariant_of-result c = record {
  in_scope = none_is (first_fault (tree_of c.args.typed.now)) (no_fault (tree_of c.args.typed.now) c.args.typed.now.well_typed _ _ c.in_ok-check_functions.ensures refl);
}
