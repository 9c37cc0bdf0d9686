use Rattle.std.proofs.Common.{◌∙◌, ap, sym, arith, length, length-append, [], ◌∷◌, ◌++◌, append-nil}
use Rattle.std.proofs.lemmas.List.{take_all, drop_all}
use Rattle.cond_lowering.specs.Ways.{outs}
use Rattle.cond_lowering.proofs.Exits.{leaves_one}
use Rattle.cond_lowering.proofs.ways.close.Goals as goal

pub leaving-preserved : goal.leaving-preserved
leaving-preserved c =
    let i = c.leaving.invariant in
    let e = c.in_ok-leave_last.ensures in
    let r = leaves_one c.args.mark _ _ _ e.last _ _ _ e.popped (rw c.len.ensures at c.leaving-test.true) i.kept i.rest e.code in
    record { within = r.0; kept = r.1; rest = r.2 }

pub leaving-smaller : goal.leaving-smaller
leaving-smaller c =
    let e = c.in_ok-leave_last.ensures in
    let n = ap length e.popped ∙ length-append c.leave_last.new.exits (e.last ∷ []) in
    omega (arith, n)

pub returns-clause-code : goal.returns-clause-code
returns-clause-code c = record {
  so = sym (append-nil c.leaving.code) ∙ ap (λ l. c.leaving.code ++ outs l) (sym (drop_all c.args.mark c.leaving.exits (rw c.len.ensures at c.leaving-test.false))) ∙ c.leaving.invariant.rest;
}

pub returns-clause-exits : goal.returns-clause-exits
returns-clause-exits c = sym (take_all c.args.mark c.leaving.exits (rw c.len.ensures at c.leaving-test.false)) ∙ c.leaving.invariant.kept
