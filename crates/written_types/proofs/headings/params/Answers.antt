use Rattle.std.proofs.Common.{◌≡◌, ℕ, ◌+◌, ◌<◌, List, [], ◌∷◌, length, get_or, take, Result, sym, ap, ◌∙◌, subst}
use Rattle.std.proofs.lemmas.Result.{err_from_is_err_and}
use Rattle.std.specs.BTreeMap.{BTreeMap}
use denote.Ref.{Bor}
use Rattle.oc_source.specs.declared.parsed.Param.{Param}
use Rattle.oc_cells.specs.declared.types.SlotType.{SlotType}
use Rattle.type_rules.specs.Lookup.{Lookup}
use Rattle.type_rules.specs.Written.{params}
use Rattle.type_steps.specs.declared.fault.TypeFault.{TypeFault}
use Rattle.type_steps.specs.Answering.{Answers}
use Rattle.type_steps.proofs.Steps.{said_as, fine}
use Rattle.written_types.specs.Known.{lookup}
use Rattle.written_types.specs.Numbers.{Has}
use Rattle.written_types.specs.Each.{each, state_after}
use Rattle.written_types.specs.Params.{param_judged, with_param}
use Rattle.written_types.proofs.EachItem.{to_item, state_push, Left, begins, goes_on, fails, ends}
use Rattle.written_types.proofs.Naming.{has_none, params_so}
use Rattle.written_types.proofs.headings.params.Goals as goal

of_items : (g : Lookup) (ps qs : List Param) {r : Result (List SlotType) TypeFault} → qs ≡ ps → Answers (each (param_judged g) with_param [] qs) r → Answers (params g [] ps) r
of_items g ps qs e h = said_as (sym (params_so g [] qs) ∙ ap (λ ps. params g [] ps) e) h

named : (old new : BTreeMap (Bor (List ℕ)) ℕ) (ps : List Param) (i : ℕ) (p : Param) (read : List ℕ) → ((xs : List (List ℕ)) → Has old xs → Has new (read ∷ xs)) → read ≡ p.name → p ≡ get_or ps i p → i < length ps → Has old (state_after with_param [] (take i ps)) → Has new (state_after with_param [] (take (i + 1) ps))
named old new ps i p read f e q l h =
    subst (λ xs. Has new xs) (ap (λ n. n ∷ state_after with_param [] (take i ps)) e ∙ sym (ap (λ qs. state_after with_param [] qs) (to_item ps i p q l) ∙ state_push with_param [] (take i ps) p))
    (f (state_after with_param [] (take i ps)) h)

pub loop-param-init : goal.loop-param-init
loop-param-init c =
    let judge = param_judged (lookup c.args.known.now) in
    let ps = c.as_slice-param-items.result.now in
    record {
      typed = subst (λ out. Left judge with_param [] ps 0 out) (sym c.new-slots.ensures) (begins judge with_param [] ps);
      names = has_none _ c.new-numbers.ensures.empty;
    }

pub loop-param-preserved : goal.loop-param-preserved
loop-param-preserved c =
    let judge = param_judged (lookup c.args.known.now) in
    let ps = c.as_slice-param-items.result.now in
    let i = c.loop-param.invariant in
    let more = goes_on judge with_param [] ps c.loop-param.param-index _ _ _ i.typed c.param-item.is c.loop-param-test.true (c.in_ok-slot.ensures _ i.names).said in
    record {
      typed = subst (λ out. Left judge with_param [] ps (c.loop-param.param-index + 1) out) (sym c.in_ok-push.ensures.ok) more;
      names = named _ _ _ _ _ _ c.in_ok-add_name.ensures.has c.as_bytes.ensures c.param-item.is c.loop-param-test.true i.names;
    }

pub returns-in_err-slot : goal.returns-in_err-slot
returns-in_err-slot c =
    let q = err_from_is_err_and c.from_residual.result c.from_residual.ensures.1 in
    let judge = param_judged (lookup c.args.known.now) in
    let ps = c.as_slice-param-items.result.now in
    let i = c.loop-param.invariant in
    of_items (lookup c.args.known.now) _ ps c.as_slice-param-items.ensures
    (fails judge with_param [] ps c.loop-param.param-index _ _ i.typed c.param-item.is c.loop-param-test.true (c.in_err-slot.ensures _ i.names) q.1 q.2)

pub returns : goal.returns
returns c =
    let judge = param_judged (lookup c.args.known.now) in
    let ps = c.as_slice-param-items.result.now in
    of_items (lookup c.args.known.now) _ ps c.as_slice-param-items.ensures (fine (ends judge with_param [] ps _ _ c.loop-param.invariant.typed c.loop-param-test.false))
