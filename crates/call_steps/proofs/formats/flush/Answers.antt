use Rattle.std.proofs.Common.{ap, ◌∙◌, ◌++◌, ◌∷◌, [], sym, refl}
use Rattle.oc_typed.specs.declared.typed.PrintPiece.TheVariants as piece
use Rattle.call_steps.proofs.Reading.{some_text, no_text}
use Rattle.call_steps.proofs.formats.flush.Goals as goal

pub returns-then-length-eq0 : goal.returns-then-length-eq0
returns-then-length-eq0 c = no_text _ c.args.text.now _ refl c.if-length-eq0.true

pub returns : goal.returns
returns c =
    c.in_ok-push.ensures.ok ∙ ap (λ t. c.args.pieces.now ++ piece.Text t ∷ []) c.in_ok-from_bytes.ensures
    ∙ ap (λ ps. c.args.pieces.now ++ ps) (sym (some_text c.args.text.now _ refl c.if-length-eq0.false))
