-- How the steps of the code answer what is judged.
use Rattle.std.proofs.Common.{◌≡◌, Result, Ok, Err, sym, ap, ◌∙◌, subst}
use Rattle.type_steps.specs.declared.fault.TypeFault.{TypeFault}
use Rattle.type_steps.specs.declared.fault.TypeFault.TheVariants.{Refused, NoMemory}
use Rattle.type_rules.specs.Judging.{Judged, next}
use Rattle.type_steps.specs.Answering.{Said, Answers}

said_next : {A B : Type 0} (m : Judged A) (k : A → Judged B) (a : A) (r : Result B TypeFault) → m ≡ Ok a → Said (k a) r → Said (next m k) r
unfolding next
said_next m k a r h x = subst (λ q. Said (next q k) r) (sym h) x

said_stop : {A B : Type 0} (m : Judged A) (k : A → Judged B) (f : TypeFault) → Said {A = A} m (Err f) → Said {A = B} (next m k) (Err f)
unfolding next
said_stop m k (Refused r p) h = ap (λ q. next q k) h
said_stop m k NoMemory h = tt

-- a first step that answers, then the rest
pub go : {A B : Type 0} (m : Judged A) (k : A → Judged B) {a : A} {r : Result B TypeFault} → Answers m (Ok a) → Answers (k a) r → Answers (next m k) r
go m k {a} {r} x y = record { said = said_next m k a r x.said y.said }

-- a first step that fails
pub stop : {A B : Type 0} (m : Judged A) (k : A → Judged B) {f g : TypeFault} {r : Result B TypeFault} → Answers {A = A} m (Err f) → r ≡ Err g → g ≡ f → Answers (next m k) r
stop {B = B} m k {f} {g} {r} x y z = subst (λ q. Answers (next m k) q) (sym (y ∙ ap (λ h. Err h) z)) (record { said = said_stop m k f x.said })

-- the same step in other words
pub said_as : {A : Type 0} {m n : Judged A} {r : Result A TypeFault} → n ≡ m → Answers n r → Answers m r
said_as {r = r} e x = subst (λ q. Answers q r) e x

-- an answer
pub fine : {A : Type 0} {m : Judged A} {a : A} → m ≡ Ok a → Answers m (Ok a)
fine h = record { said = h }
