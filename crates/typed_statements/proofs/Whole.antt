-- A body is its statements after its parameters.
use Rattle.std.proofs.Common.{◌≡◌, ℕ, List, [], length, false, Result, Ok, Err, sym, ap, ◌∙◌, subst}
use Rattle.oc_cells.specs.declared.types.SlotType.{SlotType}
use Rattle.oc_source.specs.declared.parsed.Stmt.{Stmt}
use Rattle.oc_source.specs.declared.parsed.Function.{Function}
use Rattle.oc_typed.specs.declared.typed.TStmt.{TStmt}
use Rattle.oc_typed.specs.declared.typed.TypedFunction.{TypedFunction}
use Rattle.type_rules.specs.declared.judging.Heading.{Heading}
use Rattle.type_rules.specs.Judging.{Judged, next}
use Rattle.type_rules.specs.Lookup.{Lookup}
use Rattle.type_rules.specs.StatementRules as rules
use Rattle.type_rules.specs.ProgramRules.{body, statements, with_params}
use Rattle.type_steps.specs.declared.fault.TypeFault.{TypeFault}
use Rattle.type_steps.specs.declared.fault.TypeFault.TheVariants.{Refused, NoMemory}
use Rattle.type_steps.specs.Answering.{Said, Answers}
use Rattle.visible_variables.specs.declared.scope.Scope.{Scope}
use Rattle.visible_variables.specs.declared.scope.Variable.{Variable}
use Rattle.visible_variables.specs.Seen.{all_seen}
use Rattle.visible_variables.specs.Scopes.{scope_of}
use Rattle.typed_statements.specs.Walking.{Ended, Does}
use Rattle.typed_statements.specs.Parts.{all_of}
use Rattle.typed_statements.proofs.Nodes.{body_at}

next_ok : {A B : Type 0} (m : Judged A) (k : A → Judged B) (a : A) → m ≡ Ok a → next m k ≡ k a
unfolding next
next_ok m k a h = ap (λ m. next m k) h

next_err : {A B : Type 0} (m : Judged A) (k : A → Judged B) (f : _) → m ≡ Err f → next m k ≡ Err f
unfolding next
next_err m k f h = ap (λ m. next m k) h

-- no variable
abbrev nothing : rules.Scope
nothing = record { seen = []; slots = []; outer = 0 }

empty : (s : Scope) → (s.variables ≡ []) × (s.slots ≡ []) × (s.outer ≡ 0) → scope_of s ≡ nothing
empty s h =
    ap (λ (vs : List Variable). record { seen = all_seen vs; slots = s.slots; outer = s.outer }) h.0
    ∙ ap (λ (ss : List SlotType). record { seen = []; slots = ss; outer = s.outer }) h.1
    ∙ ap (λ (n : ℕ). record { seen = []; slots = []; outer = n }) h.2

module _ (g : Lookup) (f : Function) (h : Heading) (cs : List Stmt) (new before : Scope) (e : (new.variables ≡ []) × (new.slots ≡ []) × (new.outer ≡ 0)) (p : scope_of before ≡ with_params f.params h.params (scope_of new)) where
  -- the statements are judged where the parameters are
  inside : statements g cs (with_params f.params h.params nothing) ≡ all_of g false cs (scope_of before)
  inside = ap (λ s. statements g cs (with_params f.params h.params s)) (sym (empty new e)) ∙ ap (λ s. statements g cs s) (sym p) ∙ body_at g cs (scope_of before)

  said_err : (after : Scope) (x : TypeFault) → Ended {A = List TStmt} (all_of g false cs (scope_of before)) before (Err x) after → Said {A = TypedFunction} (body g f h cs) (Err x)
  said_err after (Refused r q) d = next_err _ _ _ (inside ∙ d)
  said_err after NoMemory d = tt

  pub body_fails : {after : Scope} {x y : TypeFault} {r : Result TypedFunction TypeFault} → Does {A = List TStmt} (all_of g false cs) before (Err x) after → r ≡ Err y → y ≡ x → Answers (body g f h cs) r
  body_fails {after} {x} d y z = subst (λ q. Answers (body g f h cs) q) (sym (y ∙ ap (λ h. Err h) z)) (record { said = said_err after x d.ended })

  pub body_made : {after : Scope} {ys : List TStmt} {t : TypedFunction} → Does (all_of g false cs) before (Ok ys) after
      → t ≡ record { name = f.name; result = h.result; params = length h.params; slots = after.slots; obliv = f.obliv; body = ys } → Answers (body g f h cs) (Ok t)
  body_made {after} {ys} {t} d q = record { said = next_ok _ _ (ys, scope_of after) (inside ∙ d.ended.0) ∙ ap (λ u. Ok u) (sym q) }
