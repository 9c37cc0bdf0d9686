use Rattle.std.proofs.Common.{ℕ, ◌≡◌, ◌+◌, ◌-◌, ◌<◌, ◌≤◌, List, [], ◌++◌, length, take, refl, sym, ap, ◌∙◌, arith, append_assoc, append-nil}
use Rattle.std.proofs.lemmas.List.{take_at}
use Rattle.visible_variables.specs.declared.scope.Variable.{Variable}
use Rattle.visible_variables.proofs.scope.Scope.leave.Goals as goal

still : (outer o n m k : ℕ) → o ≡ outer → n ≡ k → o < n → m ≡ k - 1 → outer ≤ m
still outer o n m k q e h f = omega (arith, q, e, h, f)

front : (all old new : List Variable) → (more : List Variable) × (all ≡ old ++ more) → (more : List Variable) × (old ≡ new ++ more) → (more : List Variable) × (all ≡ new ++ more)
front all old new p q = (q.0 ++ p.0, p.1 ∙ ap (λ vs. vs ++ p.0) q.1 ∙ append_assoc new q.0 p.0)

left : (all now : List Variable) (outer o n : ℕ) → (more : List Variable) × (all ≡ now ++ more) → outer ≤ length now → o ≡ outer → n ≡ length now → n ≤ o → now ≡ take outer all
left all now outer o n p h q e l = let r : length now ≡ outer = omega (arith, h, e, l, q) in sym (ap (λ vs. take outer vs) p.1 ∙ take_at now p.0 outer r)

within_around : (around outer n : ℕ) → around ≤ outer → outer ≤ n → around ≤ n
within_around around outer n h k = omega (arith, h, k)

pub leaving-init : goal.leaving-init
leaving-init c =
    record {
      within = c.requires.sound.within;
      front = ([], sym (append-nil c.args.self.now.variables));
      latest = c.requires.sound.latest;
      hidden = c.requires.sound.hidden;
      slots = refl;
      outer = refl;
    }

pub leaving-preserved : goal.leaving-preserved
leaving-preserved c =
    let i = c.leaving.invariant in
    let e = c.in_ok-drop_last.ensures in
    record {
      within = still _ _ _ _ _ i.outer c.len.ensures c.leaving-test.true e.fewer;
      front = front _ _ _ i.front e.shrunk;
      latest = e.latest;
      hidden = e.hidden;
      slots = e.rest.0 ∙ i.slots;
      outer = e.rest.1 ∙ i.outer;
    }

pub returns-clause-sound : goal.returns-clause-sound
returns-clause-sound c =
    let i = c.leaving.invariant in
    record {
      latest = i.latest;
      hidden = i.hidden;
      within = within_around _ _ _ c.requires.within i.within;
    }

pub returns-clause-left : goal.returns-clause-left
returns-clause-left c =
    let i = c.leaving.invariant in
    (left _ _ _ _ _ i.front i.within i.outer c.len.ensures c.leaving-test.false, i.slots, refl)
