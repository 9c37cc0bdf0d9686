use Rattle.std.proofs.Common.{ℕ, ◌≡◌, ◌+◌, false}
use Rattle.oc_cells.specs.Types.{normal}
use Rattle.type_rules.specs.Written.{starred}
use Rattle.written_types.specs.Forms.{marked}
use Rattle.written_types.proofs.written.starred.Given as goal

abbrev pub invariant-loop : goal.invariant-loop
invariant-loop l = (n : ℕ) → l.counter + n ≡ l.stars → marked l.mark l.frozen n l.ty ≡ normal l.names.public false (starred l.frozen l.stars l.fn.base)
