-- Sums of counts.
use Rattle.std.proofs.Common.{◌≡◌, ◌+◌, List, [], ◌∷◌, ◌++◌, reverse, refl, sym, ◌∙◌, ap, arith, add_assoc, zero-add}
use Rattle.std.proofs.lemmas.List.{reverse-append}
use Rattle.oc_parser.specs.declared.entries.Entry.{Entry}
use Rattle.oc_parser.specs.Load.{total}

pub total-append : (xs ys : List Entry) → total (xs ++ ys) ≡ total xs + total ys
total-append [] ys = sym (zero-add (total ys))
total-append (x ∷ xs) ys = ap (λ n. x.count + n) (total-append xs ys) ∙ sym (add_assoc x.count (total xs) (total ys))

pub total-push : (xs : List Entry) (e : Entry) → total (xs ++ e ∷ []) ≡ total xs + e.count
total-push xs e = omega (arith, total-append xs (e ∷ []))

pub reverse-push : (xs : List Entry) (e : Entry) → reverse (xs ++ e ∷ []) ≡ e ∷ reverse xs
reverse-push xs e = reverse-append xs (e ∷ [])

pub total-reverse : (xs : List Entry) → total (reverse xs) ≡ total xs
total-reverse [] = refl
total-reverse (x ∷ xs) = let e : reverse (x ∷ xs) ≡ reverse xs ++ x ∷ [] = reverse-append (x ∷ []) xs in rw e (omega (arith, total-push (reverse xs) x, total-reverse xs))
