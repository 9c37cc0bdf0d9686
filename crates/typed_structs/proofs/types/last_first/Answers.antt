use Rattle.std.proofs.Common.{◌≡◌, List, [], ◌∷◌, ◌++◌, reverse, sym, ap, ◌∙◌, append_assoc}
use Rattle.std.proofs.lemmas.List.{reverse-append}
use Rattle.oc_cells.specs.declared.types.StructType.{StructType}
use Rattle.written_types.specs.declared.shape.Shape.{Shape}
use Rattle.written_types.specs.Shapes.{types}
use Rattle.typed_structs.proofs.AllStructs.{types_push}
use Rattle.typed_structs.proofs.types.last_first.Goals as goal

taken : (all list new : List StructType) (old left : List Shape) (s : Shape) → list ++ reverse (types old) ≡ all → old ≡ left ++ s ∷ [] → new ≡ list ++ s.ty ∷ [] → new ++ reverse (types left) ≡ all
taken all list new old left s inv e q =
    ap (λ l. l ++ reverse (types left)) q ∙ append_assoc list (s.ty ∷ []) (reverse (types left))
    ∙ ap (λ l. list ++ l) (sym (ap (λ ss. reverse (types ss)) e ∙ ap reverse (types_push left s) ∙ reverse-append (types left) (s.ty ∷ [])))
    ∙ inv

pub loop-shape-preserved : goal.loop-shape-preserved
loop-shape-preserved c = taken _ _ _ _ _ _ c.loop-shape.invariant c.in-Some.ensures c.in_ok-push.ensures.ok
