use Rattle.std.proofs.Common.{◌≡◌, ap, ◌∙◌, List, ℕ, ◌++◌, append_assoc}
use Rattle.std.specs.Prelude.{codes, string_bytes}
use Rattle.std.specs.Fmt.{decimal}
use Rattle.std.proofs.lemmas.Result.{IfOk-weaker}
use Rattle.oblivc_main.specs.RuleNames.{source_name}
use Rattle.oblivc_main.specs.Lines.{refused_line}
use Rattle.oblivc_main.proofs.saying.line_for_refusal.Goals as goal

-- the pieces of the line, as they are written
pieces : (rule line column : List ℕ) → codes "refused " ++ (rule ++ (codes " " ++ (line ++ (codes ":" ++ (column ++ codes "\n"))))) ≡ codes "refused " ++ rule ++ codes " " ++ line ++ codes ":" ++ column ++ codes "\n"
pieces rule line column = simp append_assoc

pub returns : goal.returns
returns c =
    let line : List ℕ = decimal c.args.refusal.spot.line in
    let column : List ℕ = decimal c.args.refusal.spot.column in
    let after : List ℕ = codes " " ++ (line ++ (codes ":" ++ (column ++ codes "\n"))) in
    IfOk-weaker c.format.result (λ s. string_bytes s ≡ codes "refused " ++ (c.source_name-rule.result.now ++ after)) (λ s. string_bytes s ≡ refused_line c.args.refusal) (λ s wrote. wrote ∙ ap (λ r. codes "refused " ++ (r ++ after)) c.source_name-rule.ensures ∙ pieces (source_name c.args.refusal.rule) line column) c.format.ensures.ok
