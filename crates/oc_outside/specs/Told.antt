-- Lists that may be untold. An untold list is None, and what is done to it stays untold.
use Rattle.std.specs.Prelude.{◌≡◌, List, [], ◌++◌, Option, Some, None, refl}
use Rattle.std.specs.Option.{option_map}
use Rattle.std.proofs.Common.{ap, append_assoc, append-nil}

-- the list with more at its end
abbrev pub appended : {A : Type 0} → List A → Option (List A) → Option (List A)
appended more told = option_map (λ list. list ++ more) told

-- the list with these items before it
abbrev pub preceded : {A : Type 0} → List A → Option (List A) → Option (List A)
preceded front told = option_map (λ list. front ++ list) told

-- to append nothing changes nothing
pub appended-nil : {A : Type 0} (told : Option (List A)) → appended [] told ≡ told
appended-nil (Some list) = ap Some (append-nil list)
appended-nil None = refl

-- two pieces, one after the other, are one
pub appended-appended : {A : Type 0} (first second : List A) (told : Option (List A))
    → appended second (appended first told) ≡ appended (first ++ second) told
appended-appended first second (Some list) = ap Some (append_assoc list first second)
appended-appended first second None = refl
