use Rattle.std.proofs.Common.{◌≡◌, ap, ◌∙◌, List, ℕ, ◌++◌, append_assoc}
use Rattle.std.specs.Prelude.{codes, string_bytes}
use Rattle.std.specs.Fmt.{decimal}
use Rattle.std.proofs.lemmas.Result.{IfOk-weaker}
use Rattle.oblivc_main.specs.RuleNames.{trap_name}
use Rattle.oblivc_main.specs.Lines.{trap_line}
use Rattle.oblivc_main.proofs.saying.line_for_trap.Goals as goal

-- the pieces of the line, as they are written
pieces : (kind line column : List ℕ) → codes "trap " ++ (kind ++ (codes " " ++ (line ++ (codes ":" ++ (column ++ codes "\n"))))) ≡ codes "trap " ++ kind ++ codes " " ++ line ++ codes ":" ++ column ++ codes "\n"
pieces kind line column = simp append_assoc

pub returns : goal.returns
returns c =
    let line : List ℕ = decimal c.args.spot.line in
    let column : List ℕ = decimal c.args.spot.column in
    let after : List ℕ = codes " " ++ (line ++ (codes ":" ++ (column ++ codes "\n"))) in
    IfOk-weaker c.format.result (λ s. string_bytes s ≡ codes "trap " ++ (c.trap_name-name.result.now ++ after)) (λ s. string_bytes s ≡ trap_line c.args.kind c.args.spot) (λ s wrote. wrote ∙ ap (λ r. codes "trap " ++ (r ++ after)) c.trap_name-name.ensures ∙ pieces (trap_name c.args.kind) line column) c.format.ensures.ok
