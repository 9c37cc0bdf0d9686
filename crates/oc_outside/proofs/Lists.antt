-- Pieces of a list, one after another.
use Rattle.std.proofs.Common.{◌≡◌, ℕ, ◌+◌, List, take, drop, Option, ap, sym, ◌∙◌}
use Rattle.std.proofs.Math.Seq.{take-add}
use Rattle.oc_outside.specs.Told.{appended, appended-appended}

-- the next n of the bytes after the first ones
pub appended-next : {A : Type 0} (bytes : List A) (at n : ℕ) (told : Option (List A)) → appended (take n (drop at bytes)) (appended (take at bytes) told) ≡ appended (take (at + n) bytes) told
appended-next bytes at n told = appended-appended (take at bytes) (take n (drop at bytes)) told ∙ ap (λ list. appended list told) (sym (take-add at n bytes))
