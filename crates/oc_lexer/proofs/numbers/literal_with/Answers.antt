use Rattle.std.proofs.Common.{sym, ap, ◌∙◌}
use Rattle.oc_lexer.specs.ScannedNumbers.{first_holding, literal_of_kind}
use Rattle.oc_lexer.proofs.Cuts.{literal_holds, literal_is}
use Rattle.oc_lexer.proofs.numbers.literal_with.Goals as goal

pub invariant_of-result : goal.invariant_of-result
invariant_of-result c = record {
  of_kind = literal_holds c.args.form c.args.suffix c.args.value c.in_ok-kind.kind (sym (ap (λ ks. first_holding ks c.args.value) c.kinds_of.ensures) ∙ sym c.in_ok-kind.ensures);
}

pub returns : goal.returns
returns c =
    sym (ap (λ o. literal_of_kind o c.args.value) (sym (ap (λ ks. first_holding ks c.args.value) c.kinds_of.ensures) ∙ sym c.in_ok-kind.ensures) ∙ literal_is _)
