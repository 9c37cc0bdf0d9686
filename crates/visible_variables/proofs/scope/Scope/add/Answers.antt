use Rattle.std.proofs.Common.{ℕ, ◌≡◌, ◌≤◌, ◌+◌, length, arith, length-append, List, [], ◌∷◌, ◌++◌, Some, refl, sym, ap, ◌∙◌, subst}
use Rattle.std.proofs.lemmas.Map.Text.{btree_map_updates_str}
use Rattle.visible_variables.specs.declared.scope.Variable.{Variable}
use Rattle.visible_variables.specs.Seen.{Latest}
use Rattle.visible_variables.specs.Scopes.{Hidden}
use Rattle.visible_variables.proofs.Scoping.{latest_added, hidden_added, scope_added}
use Rattle.visible_variables.proofs.scope.Scope.add.Goals as goal

one_more : (n : ℕ) (old new : List Variable) (v : Variable) → n ≤ length old → new ≡ old ++ v ∷ [] → n ≤ length new
one_more n old new v h e = omega (arith, h, ap length e, length-append old (v ∷ []))

pub returns-clause-sound : goal.returns-clause-sound
returns-clause-sound c =
    let s = c.args.self.now in
    let n = c.args.name.now in
    let told = btree_map_updates_str n s.latest c.insert.new.self (Some c.len-number.result) c.in_ok-insert.ensures.updates in
    let back = sym c.in_ok-push-2.ensures.ok in
    record {
      latest = subst (λ vs. Latest c.insert.new.self vs) back (latest_added s.latest c.insert.new.self n (Some c.len-number.result) told s.variables _ refl (ap (λ k. Some k) c.len-number.ensures) c.requires.latest);
      hidden = subst (λ vs. Hidden [] vs) back (hidden_added [] s.variables _ c.requires.hidden (c.number_of-hides.ensures ∙ c.requires.latest.at n));
      within = one_more s.outer s.variables _ _ c.requires.within c.in_ok-push-2.ensures.ok;
    }

pub returns-clause-added : goal.returns-clause-added
returns-clause-added c =
    let s = c.args.self.now in
    scope_added s.variables c.push-2.new.self s.slots c.push.new.self s.outer _ c.args.name.now c.args.ty _ c.args.frozen c.in_ok-push-2.ensures.ok c.in_ok-push.ensures.ok c.in_ok-share_type.ensures refl c.len-slot.ensures refl

pub returns-clause-grown : goal.returns-clause-grown
returns-clause-grown c = (_, c.in_ok-push-2.ensures.ok)
