-- Reading files one after another.
use Rattle.std.proofs.Common.{ℕ, ◌≡◌, ◌≤◌, List, [], ◌∷◌, ◌++◌, Option, Some, None, refl, sym, ap, subst, arith, inl, inr}
use Rattle.std.specs.Prelude.{IfSome}
use Rattle.std.specs.List.{AllByRecursion}
use Rattle.std.specs.Option.{unwrap_or}
use Rattle.std.proofs.lemmas.Option.{none-some}
use Rattle.oc_outside.specs.Counts.{Rose}
use Rattle.oblivc_main.specs.Reading.{Told, Holds, IsAbsent, Files}
use Rattle.oblivc_main.specs.Forms.{Content, FileForm, source_form, input_form, HasForm, IsMalformed}
use Rattle.oblivc_main.specs.Steps.{ReadStep, Takes, Fails, unreadable, malformed, StopsAt, IsReady}
use Rattle.oblivc_main.specs.declared.status.Status.{Status}

module _ (f : Files) where
  pub stops_first : (s : ReadStep) (rest : List ReadStep) (status : Status) → Fails f s status → StopsAt f (s ∷ rest) status
  stops_first s rest status h = record { before = []; step = s; after = rest; contents = []; split = refl; earlier = tt; cause = h }

  pub stops_later : (s : ReadStep) (x : Content) (rest : List ReadStep) (status : Status) → Takes f.told s x → StopsAt f rest status → StopsAt f (s ∷ rest) status
  stops_later s x rest status t h = record {
    before = s ∷ h.before;
    step = h.step;
    after = h.after;
    contents = x ∷ h.contents;
    split = ap (λ xs. s ∷ xs) h.split;
    earlier = (t, h.earlier);
    cause = h.cause;
  }

abbrev pub files_at : Told → ℕ → ℕ → Option (List ℕ) → Files
files_at told before after failed = record { told = told; faults_before = before; faults_after = after; failed = failed }

-- why a step fails in a later call is why it fails since the first one
fails_since : (told : Told) (before mid after : ℕ) (failed : Option (List ℕ)) (s : ReadStep) (status : Status) → before ≤ mid → Fails (files_at told mid after failed) s status → Fails (files_at told before after failed) s status
fails_since told before mid after failed s status le (unreadable is (inl absent)) = unreadable is (inl absent)
fails_since told before mid after failed s status le (unreadable is (inr rose)) = let r = rose.0 in unreadable is (inr (omega (arith, le, r), rose.1))
fails_since told before mid after failed s status le (malformed bytes held form) = malformed bytes held form

-- the same, where the vault tells the same of each name
pub fails_later : (told told' : Told) (before mid after : ℕ) (failed : Option (List ℕ)) (s : ReadStep) (status : Status) → told' ≡ told → before ≤ mid → Fails (files_at told' mid after failed) s status → Fails (files_at told before after failed) s status
fails_later told told' before mid after failed s status same le h =
    fails_since told before mid after failed s status le (subst (λ t. Fails (files_at t mid after failed) s status) same h)

-- ---- Files that have their form stop nothing

just : {A : Type 0} (x y : A) → Some x ≡ Some y → x ≡ y
just x y e = ap (λ o. unwrap_or o x) e

-- what is told of a name is what it holds
held : (told : Told) (name bytes whole : List ℕ) → told name ≡ Some (Some whole) → Holds told name bytes → whole ≡ bytes
held told name bytes whole e h = just whole bytes (subst (λ t. IfSome t (λ o. o ≡ Some bytes)) e h)

present : (told : Told) (name whole : List ℕ) → told name ≡ Some (Some whole) → IsAbsent told name → ⊥
present told name whole e h = none-some whole (sym (subst (λ t. IfSome t (λ o. o ≡ None)) e h))

-- bytes that have a form don't miss it
apart : (form : FileForm) (bytes : List ℕ) (status : Status) → HasForm form bytes → IsMalformed form bytes status → ⊥
apart source_form bytes status has wrong = let refused = wrong.3 in refused.none has.0 has.1
apart input_form bytes status has wrong = let at = wrong.2 in at.none has.0 has.1

never_fails : (f : Files) (s : ReadStep) (status : Status) → (Rose f.faults_before f.faults_after → ⊥) → IsReady f.told s → Fails f s status → ⊥
never_fails f s status faultless ready (unreadable is (inl absent)) = present f.told s.name ready.0 ready.1 absent
never_fails f s status faultless ready (unreadable is (inr rose)) = faultless rose.0
never_fails f s status faultless ready (malformed bytes holds wrong) =
    apart s.form bytes status (subst (HasForm s.form) (held f.told s.name bytes ready.0 ready.1 holds) ready.2) wrong

-- what holds of each step holds of one in the middle
middle : {A : Type 0} (P : A → Type 0) (front : List A) (x : A) (rest : List A) → AllByRecursion P (front ++ x ∷ rest) → P x
middle P [] x rest all = all.0
middle P (y ∷ front) x rest all = middle P front x rest all.1

pub never_stops : (f : Files) (steps : List ReadStep) (status : Status) → (Rose f.faults_before f.faults_after → ⊥) → AllByRecursion (IsReady f.told) steps → StopsAt f steps status → ⊥
never_stops f steps status faultless all h =
    never_fails f h.step status faultless (middle (IsReady f.told) h.before h.step h.after (subst (AllByRecursion (IsReady f.told)) h.split all)) h.cause
