-- Answers that are seen otherwise, and rules that hold or are broken.
use Rattle.std.proofs.Common.{◌≡◌, ℕ, List, ◌++◌, ◌∷◌, [], length, ◌+◌, nat_eq, Result, Err, Bool, true, false, refl, sym, ap, ◌∙◌, arith}
use Rattle.std.specs.Prelude.{Some, nat_le, ◌&&◌}
use Rattle.std.proofs.lemmas.Bool.{ne_eqb}
use Rattle.oc_source.specs.declared.spot.Spot.{Spot}
use Rattle.oc_cells.specs.declared.types.CType.{CType, Nothing}
use Rattle.oc_typed.specs.declared.typed.TExpr.{TExpr}
use Rattle.oc_typed.specs.declared.typed.TExprNode as t
use Rattle.oc_typed.specs.declared.typed.Builtin.TheVariants as own
use Rattle.type_steps.specs.declared.fault.TypeFault.{TypeFault}
use Rattle.type_steps.specs.declared.fault.TypeFault.TheVariants.{Refused}
use Rattle.type_rules.specs.declared.judging.TypeRule.{TypeRule}
use Rattle.type_rules.specs.declared.judging.TypeRule.TheVariants.{T3, T8}
use Rattle.type_rules.specs.declared.judging.Found.{Found}
use Rattle.type_rules.specs.Judging.{Judged, next, needs}
use Rattle.type_rules.specs.Lookup.{is}
use Rattle.type_rules.specs.Calls as rules
use Rattle.type_rules.specs.Prints.{Format, Printed, asked, print_called, format_of}
use Rattle.type_steps.specs.Answering.{Answers}
use Rattle.type_steps.proofs.Steps.{stop, said_as}
use Rattle.written_types.specs.Each.{mapped}
use Rattle.call_steps.specs.declared.given.NamedParty.{NamedParty}
use Rattle.call_steps.specs.declared.given.NamedParty.TheVariants.{Nobody, First, Second}
use Rattle.call_steps.specs.Given.{parties_sum, party_number}

pub stop_seen : {A B C : Type 0} (view : C → B) (m : Judged A) (k : A → Judged B) {f g : TypeFault} {r : Result C TypeFault} → Answers {A = A} m (Err f) → r ≡ Err g → g ≡ f → Answers (next m k) (mapped view r)
stop_seen view m k x p q = stop m k x (ap (mapped view) p) q

pub refused : {B : Type 0} (p : Spot) (r : TypeRule) (b : Bool) (k : Unit {0} → Judged B) → b ≡ false → Answers {A = B} (next (needs p r b) k) (Err (Refused r p))
unfolding next
refused p r b k e = record { said = ap (λ c. next (needs p r c) k) e }

pub holds : {B : Type 0} (p : Spot) (r : TypeRule) (b : Bool) (k : Unit {0} → Judged B) {x : Result B TypeFault} → b ≡ true → Answers (k tt) x → Answers (next (needs p r b) k) x
unfolding next
holds p r b k e h = said_as (ap (λ c. next (needs p r c) k) (sym e)) h

pub alike : (m n : ℕ) → m ≡ n → nat_eq m n ≡ true
alike m n e = rw (e) (grind (arith))

pub unlike : (m n : ℕ) → (m ≡ n → ⊥) → nat_eq m n ≡ false
unlike m n h = ne_eqb m n h

pub only_party : (p : NamedParty) → parties_sum (p ∷ []) ≡ party_number p
only_party Nobody = refl
only_party First = refl
only_party Second = refl

none_before : (n : ℕ) → n ≡ 0 + n
none_before n = grind (arith)

regrouped : (a b d : ℕ) → a + (b + d) ≡ (a + b) + d
regrouped a b d = grind (arith)

pub sum_joined : (ps qs : List NamedParty) → parties_sum (ps ++ qs) ≡ parties_sum ps + parties_sum qs
sum_joined [] qs = none_before (parties_sum qs)
sum_joined (p ∷ ps) qs = ap (λ n. party_number p + n) (sum_joined ps qs) ∙ regrouped (party_number p) (parties_sum ps) (parties_sum qs)

pub given_so : {a b : List TExpr} {p q : ℕ} {t u : CType} {m n : Bool} {i j : ℕ} → a ≡ b → p ≡ q → t ≡ u → m ≡ n → i ≡ j → ◌≡◌ {A = rules.Given} (record { args = a; party = p; of = t; misplaced = m; count = i }) (record { args = b; party = q; of = u; misplaced = n; count = j })
given_so e f g h k = rw (e, f, g, h, k) refl

-- a print of a text, judged by the format that was read of it
pub print_so : (p : Spot) (alone : Bool) (text : List ℕ) (f : Format) (a : Printed) {r : Result Found TypeFault} → f ≡ format_of (Some text) → Answers (next (needs p T3 alone) (λ _. next (needs p T8 (f.good && a.fit && nat_eq (length a.args) (length (asked f.pieces)) && nat_le (length a.args) 64 && nat_le (length text) 4000)) (λ _. is p Nothing (t.Builtin (own.Print f.pieces) a.args)))) r → Answers (print_called alone p true (Some text) a) r
unfolding next
print_so p alone text f a e h = said_as (ap (λ f. next (needs p T3 alone) (λ _. next (needs p T8 (f.good && a.fit && nat_eq (length a.args) (length (asked f.pieces)) && nat_le (length a.args) 64 && nat_le (length text) 4000)) (λ _. is p Nothing (t.Builtin (own.Print f.pieces) a.args)))) e) h
