-- No beat of a typed program is odd.
use Rattle.std.proofs.Common.{ℕ, zero, suc, ◌≡◌, ◌≢◌, [], Some, refl, subst}
use Rattle.oc_source.specs.declared.spot.Spot.{Spot}
use Rattle.oc_walk.specs.Walking.{Res, Stop, Odd}
use Rattle.oc_walk.specs.Cells.{S, V}
use Rattle.oc_walk.specs.Walk.{start}
use Rattle.oc_meanings.specs.Clear.{no_skip}
use Rattle.oc_meanings.specs.Events.{events, events_walk}
use Rattle.typed_runs.specs.Laws.{NotOdd}
use Rattle.typed_runs.proofs.Calls.{never_odd as typed_never_odd}
use Rattle.oc_code.specs.Machine.{Setup, Conf, Out, On, Halted, Over, next, setup_of}
use Rattle.oc_code.specs.Lower.{lowered}
use Rattle.code_runs.specs.Laws.{and_on, stands_after, NoOddBeat}
use Rattle.code_runs.proofs.Runs.{Comes, stays, comes_on, goes_one}
use Rattle.code_runs.proofs.Ends.{never_odd}
use Rattle.code_runs.proofs.Calls.{code_gives}

goes_to : (g : Setup) (n : ℕ) (c d : Conf events) (o : Out events) → next events g c ≡ o → ((e : Conf events) → stands_after g n e ≡ Some d → Comes events g e d) → and_on o (stands_after g n) ≡ Some d → Comes events g c d
goes_to g n c d (On e) q f h = comes_on events g (goes_one events g q) (f e h)
goes_to g n c d (Halted w t) q f h = (cc)
goes_to g n c d (Over v t) q f h = (cc)

comes_after : (g : Setup) (n : ℕ) (c d : Conf events) → stands_after g n c ≡ Some d → Comes events g c d
comes_after g zero c d h = let e : c ≡ d = cc in subst (λ x. Comes events g c x) e (stays events g c)
comes_after g (suc n) c d h = goes_to g n c d (next events g c) refl (λ e k. comes_after g n e d k) h

not_so : (r : Res (S events) (V events)) → NotOdd r → (p : Spot) (t : S events) → r ≢ Stop (Odd p) t
not_so r h p t e = subst (λ r. NotOdd r) e h

pub no_odd_beat : NoOddBeat
no_odd_beat structs hs fs entry result ok q known dealt rev budget n c h p t odd =
    let g = setup_of structs (lowered structs fs) known budget in
    let r = events_walk structs fs entry known dealt rev budget in
    never_odd events g entry (start events dealt rev budget []) r (code_gives events (λ b. refl) no_skip structs fs entry known dealt rev budget [])
    (not_so r ((typed_never_odd structs hs fs entry result ok q).1 known dealt rev budget)) c (comes_after g n _ c h) p t odd
