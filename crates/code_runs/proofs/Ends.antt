-- A run has one end.
use Rattle.std.proofs.Common.{ℕ, zero, suc, ◌+◌, ◌≡◌, ◌≢◌, ◌≤◌, ap, ◌∙◌, arith}
use Rattle.oc_walk.specs.Domain.{Domain}
use Rattle.oc_walk.specs.Walking.{Odd, Res, Stop}
use Rattle.oc_walk.specs.Cells.{V, S}
use Rattle.oc_source.specs.declared.spot.Spot.{Spot}
use Rattle.oc_code.specs.Machine.{Setup, Conf, Out, On, Halted, Over, End, Finished, and_then, next, exec, entry_at, Gives}
use Rattle.code_runs.proofs.Runs.{Comes}

module _ (D : Domain) (g : Setup) where
  more_out : (o : Out D) (f f' : Conf D → End D) (r : Res (S D) (V D)) → ((c : Conf D) → f c ≡ Finished r → f' c ≡ Finished r) → and_then D o f ≡ Finished r → and_then D o f' ≡ Finished r
  more_out (On c) f f' r h e = h c e
  more_out (Halted w t) f f' r h e = e
  more_out (Over v t) f f' r h e = e

  -- with more instructions a run ends alike
  pub more_still : (n m : ℕ) (c : Conf D) (r : Res (S D) (V D)) → n ≤ m → exec D g n c ≡ Finished r → exec D g m c ≡ Finished r
  more_still zero m c r le e = (cc)
  more_still (suc n) zero c r le e = absurd (omega arith)
  more_still (suc n) (suc m) c r le e = more_out (next D g c) (exec D g n) (exec D g m) r (λ d. more_still n m d r (let z : n ≤ m = omega arith in z)) e

  same_end : (n m : ℕ) (c : Conf D) (r q : Res (S D) (V D)) → exec D g n c ≡ Finished r → exec D g m c ≡ Finished q → r ≡ q
  same_end n m c r q e f =
      let a = more_still n (n + m) c r (let z : n ≤ n + m = omega arith in z) e in
      let b = more_still m (n + m) c q (let z : m ≤ n + m = omega arith in z) f in
      cc

  -- where the walk is never odd, no instruction that the machine comes to is
  pub never_odd : (f : ℕ) (s : S D) (r : Res (S D) (V D)) → Gives D g f s r → ((p : Spot) (t : S D) → r ≢ Stop (Odd p) t) → (c : Conf D) → Comes D g (entry_at D f s) c → (p : Spot) (t : S D) → next D g c ≢ Halted (Odd p) t
  never_odd f s r gives fine c comes p t odd =
      let x = comes.by 1 in
      fine p t (same_end gives.count x.0 (entry_at D f s) r (Stop (Odd p) t) gives.ends (x.2 ∙ ap (λ o. and_then D o (exec D g 0)) odd))
