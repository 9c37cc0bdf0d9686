use Rattle.std.proofs.Common.{◌≡◌, ◌+◌, ◌-◌, List, [], ◌∷◌, ◌++◌, length, ap, subst, arith, length-append}
use Rattle.visible_variables.specs.declared.scope.Variable.{Variable}
use Rattle.visible_variables.specs.Seen.{Latest}
use Rattle.visible_variables.specs.Scopes.{Hidden}
use Rattle.visible_variables.proofs.Scoping.{hidden_back}
use Rattle.visible_variables.proofs.scope.Scope.drop_last.Goals as goal

one_fewer : (old vs : List Variable) (v : Variable) → old ≡ vs ++ v ∷ [] → length vs ≡ length old - 1
one_fewer old vs v e = omega (arith, ap length e, length-append vs (v ∷ []))

pub returns-in_ok-show-in-Some-clause-latest : goal.returns-in_ok-show-in-Some-clause-latest
returns-in_ok-show-in-Some-clause-latest c =
    let h = subst (λ vs. Latest c.args.self.now.latest vs) c.in-Some.ensures c.requires.latest in
    let k = subst (λ vs. Hidden [] vs) c.in-Some.ensures c.requires.hidden in
    c.in_ok-show-in-Some.ensures _ h (hidden_back [] _ _ k).1

pub returns-in_ok-show-in-Some-clause-hidden : goal.returns-in_ok-show-in-Some-clause-hidden
returns-in_ok-show-in-Some-clause-hidden c = (hidden_back [] _ _ (subst (λ vs. Hidden [] vs) c.in-Some.ensures c.requires.hidden)).0

pub returns-in_ok-show-in-Some-clause-shrunk : goal.returns-in_ok-show-in-Some-clause-shrunk
returns-in_ok-show-in-Some-clause-shrunk c = (_, c.in-Some.ensures)

pub returns-in_ok-show-in-Some-clause-fewer : goal.returns-in_ok-show-in-Some-clause-fewer
returns-in_ok-show-in-Some-clause-fewer c = one_fewer _ _ _ c.in-Some.ensures
