use Rattle.std.proofs.Common.{◌≡◌, List, [], ◌∙◌, sym, ap, Result}
use Rattle.std.proofs.lemmas.Result.{err_from_is_err_and}
use Rattle.oc_source.specs.declared.parsed.StructDef.{StructDef}
use Rattle.oc_source.specs.declared.parsed.Function.{Function}
use Rattle.type_rules.specs.declared.judging.Heading.{Heading}
use Rattle.type_rules.specs.Lookup.{Lookup}
use Rattle.type_rules.specs.Written.{headings_from}
use Rattle.type_steps.specs.declared.fault.TypeFault.{TypeFault}
use Rattle.type_steps.specs.Answering.{Answers}
use Rattle.written_types.specs.Each.{mapped}
use Rattle.type_steps.proofs.Steps.{said_as, fine}
use Rattle.typed_headings.specs.InTurn.{in_turn}
use Rattle.typed_headings.specs.Judging.{heading_lookup, heading_added, listed}
use Rattle.typed_headings.proofs.InTurn.{goes_on, fails, ends}
use Rattle.typed_headings.proofs.Judged.{headings_so}
use Rattle.typed_headings.proofs.headings.type_headings.Goals as goal

of_items : (g : Lookup) (ds : List StructDef) (fs xs : List Function) {r : Result (List Heading) TypeFault} → xs ≡ fs → Answers (in_turn (heading_added g ds) [] xs) r → Answers (headings_from g ds [] fs) r
of_items g ds fs xs e h = said_as (sym (headings_so g ds [] xs) ∙ ap (λ fs. headings_from g ds [] fs) e) h

pub loop-function-preserved : goal.loop-function-preserved
loop-function-preserved c =
    let s = c.args.structs.now in
    let step = heading_added (heading_lookup s) s.names.now.defs.now in
    let fs = c.as_slice-function-items.result.now in
    goes_on step (in_turn step [] fs) fs c.loop-function.function-index (listed c.loop-function.headings) _ _ c.loop-function.invariant c.function-item.is c.loop-function-test.true c.in_ok-headings.ensures.said

pub returns-in_err-headings : goal.returns-in_err-headings
returns-in_err-headings c =
    let q = err_from_is_err_and c.from_residual.result c.from_residual.ensures.1 in
    let s = c.args.structs.now in
    let step = heading_added (heading_lookup s) s.names.now.defs.now in
    let fs = c.as_slice-function-items.result.now in
    of_items (heading_lookup s) s.names.now.defs.now _ fs c.as_slice-function-items.ensures
    (fails step (in_turn step [] fs) fs c.loop-function.function-index (listed c.loop-function.headings) _ c.loop-function.invariant c.function-item.is c.loop-function-test.true c.in_err-headings.ensures (ap (λ r. mapped listed r) q.1) q.2)

pub returns : goal.returns
returns c =
    let s = c.args.structs.now in
    let step = heading_added (heading_lookup s) s.names.now.defs.now in
    let fs = c.as_slice-function-items.result.now in
    of_items (heading_lookup s) s.names.now.defs.now _ fs c.as_slice-function-items.ensures
    (fine (ends step (in_turn step [] fs) fs _ (listed c.loop-function.headings) c.loop-function.invariant c.loop-function-test.false))
