use Rattle.std.proofs.Common.{◌≡◌, ap, ◌∙◌, List, ℕ, ◌++◌, append_assoc, to_z, of_z}
use Rattle.std.specs.Prelude.{codes, string_bytes}
use Rattle.std.specs.Int.{w128}
use Rattle.std.specs.Fmt.{decimal, signed_decimal}
use Rattle.std.proofs.lemmas.Int.{to_z-of_z}
use Rattle.std.proofs.lemmas.Result.{IfOk-weaker}
use Rattle.oblivc_main.specs.Shown.{result_line as line_of_result}
use Rattle.oblivc_main.proofs.printing.result_line.Goals as goal

-- the pieces of the line, as they are written
pieces : (party value : List ℕ) → codes "result" ++ (party ++ (codes " " ++ (value ++ codes "\n"))) ≡ codes "result" ++ party ++ codes " " ++ value ++ codes "\n"
pieces party value = simp append_assoc

pub returns : goal.returns
returns c =
    let value : List ℕ = signed_decimal (to_z w128 (of_z w128 c.args.value)) in
    let same : value ≡ signed_decimal c.args.value = ap signed_decimal (to_z-of_z w128 c.args.value c.ranges.value) in
    IfOk-weaker c.format.result (λ s. string_bytes s ≡ codes "result" ++ (decimal c.args.party ++ (codes " " ++ (value ++ codes "\n")))) (λ s. string_bytes s ≡ line_of_result c.args.party c.args.value) (λ s wrote. wrote ∙ pieces (decimal c.args.party) value ∙ ap (λ v. codes "result" ++ decimal c.args.party ++ codes " " ++ v ++ codes "\n") same) c.format.ensures.ok
