-- The kinds that pieces ask for, piece by piece.
use Rattle.std.proofs.Common.{ℕ, ◌≡◌, ◌+◌, ◌<◌, ◌≤◌, List, [], ◌∷◌, ◌++◌, length, get_or, drop, refl, sym, ap, ◌∙◌, append_assoc, append-nil}
use Rattle.std.proofs.lemmas.List.{drop_all}
use Rattle.oc_values.specs.declared.integers.IntKind.{IntKind}
use Rattle.oc_typed.specs.declared.typed.PrintPiece.{PrintPiece}
use Rattle.oc_typed.specs.declared.typed.PrintPiece.TheVariants as piece
use Rattle.type_rules.specs.Prints.{asked}
use Rattle.written_types.proofs.EachItem.{at_item}

asked_first : (p : PrintPiece) (ps : List PrintPiece) → asked (p ∷ ps) ≡ asked (p ∷ []) ++ asked ps
asked_first (piece.Text bs) ps = refl
asked_first (piece.Decimal k) ps = refl
asked_first piece.Byte ps = refl

pub asks_on : (ps : List PrintPiece) (i : ℕ) (p : PrintPiece) (old new : List IntKind) → p ≡ get_or ps i p → i < length ps → new ≡ old ++ asked (p ∷ []) → old ++ asked (drop i ps) ≡ asked ps → new ++ asked (drop (i + 1) ps) ≡ asked ps
asks_on ps i p old new e l h inv =
    ap (λ ks. ks ++ asked (drop (i + 1) ps)) h ∙ append_assoc old (asked (p ∷ [])) (asked (drop (i + 1) ps))
    ∙ ap (λ ks. old ++ ks) (sym (ap asked (at_item ps i p e l) ∙ asked_first p (drop (i + 1) ps))) ∙ inv

pub asks_end : (ps : List PrintPiece) (i : ℕ) (ks : List IntKind) → length ps ≤ i → ks ++ asked (drop i ps) ≡ asked ps → ks ≡ asked ps
asks_end ps i ks l inv = sym (append-nil ks) ∙ sym (ap (λ qs. ks ++ asked qs) (drop_all i ps l)) ∙ inv
