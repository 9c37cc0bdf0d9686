use Rattle.std.proofs.Common.{◌≡◌, List, [], ◌∷◌, ◌++◌, Ok, sym, ap, ◌∙◌}
use Rattle.std.proofs.lemmas.Result.{err_from_is_err_and}
use Rattle.type_rules.specs.declared.judging.Heading.{Heading}
use Rattle.type_rules.specs.Judging.{Judged}
use Rattle.type_steps.proofs.Steps.{go, stop, fine}
use Rattle.written_types.specs.Each.{mapped}
use Rattle.typed_headings.specs.Judging.{heading_lookup, listed}
use Rattle.typed_headings.proofs.Judged.{judged_named, judged_stands}
use Rattle.typed_headings.proofs.headings.add_heading.Goals as goal

pub returns-in_err-heading : goal.returns-in_err-heading
returns-in_err-heading c =
    let q = err_from_is_err_and c.from_residual.result c.from_residual.ensures.1 in
    stop _ _ c.in_err-heading.ensures (ap (λ r. mapped listed r) q.1) q.2

pub with-requires-clause-named : goal.with-requires-clause-named
with-requires-clause-named c =
    let s = c.args.structs.now in
    judged_named (heading_lookup s) s.names.now.defs.now c.args.headings.list.items c.args.function.now _ c.in_ok-heading.ensures.said ∙ sym c.as_bytes.ensures

pub with-requires-clause-stands : goal.with-requires-clause-stands
with-requires-clause-stands c =
    let s = c.args.structs.now in
    judged_stands (heading_lookup s) s.names.now.defs.now c.args.headings.list.items c.args.function.now _ c.in_ok-heading.ensures.said

more_so : (hs ks : List Heading) (h : Heading) → ks ≡ hs ++ h ∷ [] → ◌≡◌ {A = Judged (List Heading)} (Ok (hs ++ h ∷ [])) (Ok ks)
more_so hs ks h e = ap (λ ks. Ok ks) (sym e)

pub returns : goal.returns
returns c = go _ _ c.in_ok-heading.ensures (fine (more_so c.args.headings.list.items _ _ c.in_ok-with.ensures))
