-- The first bytes of a file, up to a limit, say of the whole file what its form needs.
use Rattle.std.proofs.Common.{ℕ, ◌≡◌, ◌<◌, ◌≤◌, ℤ, List, length, take, Option, Some, None, refl, sym, ap, ◌∙◌, subst, arith, min, inl, inr, Ok, Err}
use Rattle.std.specs.Prelude.{◌⊎◌, IfSome, IsSomeAnd}
use Rattle.std.proofs.lemmas.List.{take_all, length-take}
use Rattle.std.proofs.lemmas.Bool.{cases_lt}
use Rattle.accepted_sources.specs.Answers.{IsAccepted, Accepts}
use Rattle.accepted_sources.specs.declared.source.AcceptedSource.{AcceptedSource}
use Rattle.accepted_sources.specs.declared.source.SourceFault.{SourceFault}
use Rattle.accepted_sources.specs.declared.source.SourceFault.TheVariants as fault
use Rattle.input_words.specs.Telling.{AreItsWords, IsWrongAt}
use Rattle.input_words.proofs.LongInputs.{long_wrong}
use Rattle.oblivc_main.specs.Sources.{status_of}
use Rattle.oblivc_main.specs.Reading.{Files, Fetches}
use Rattle.oblivc_main.specs.Forms.{source_content, words}
use Rattle.oblivc_main.specs.Steps.{ReadStep, Reads, Fails, unreadable, malformed, source_step, input_step}
use Rattle.oblivc_main.specs.declared.status.Status.{Status}
use Rattle.oblivc_main.specs.declared.status.Status.TheVariants.{Done, Refused, NoCommand, Trap, Steps, File, Dealt, Input, NoMemory, Output}
use Rattle.oblivc_main.proofs.SourceFronts.{below_limit, accepted_front, refused_front}

-- what is told of a name says that these bytes are the front of the whole
abbrev pub Fronts : Option (Option (List ℕ)) → ℕ → List ℕ → Type 0
Fronts told limit bytes = IfSome told (λ held. IsSomeAnd held (λ whole. bytes ≡ take limit whole))

-- some bytes that the name holds, of which these are the front
pub some_told : (told : Option (Option (List ℕ))) (bytes : List ℕ) (limit : ℕ) → Fronts told limit bytes → length bytes ≤ limit
    → (whole : List ℕ) × (IfSome told (λ held. held ≡ Some whole)) × (bytes ≡ take limit whole)
some_told None bytes limit h le = (bytes, tt, sym (take_all limit bytes le))
some_told (Some None) bytes limit h le = absurd h
some_told (Some (Some whole)) bytes limit h le = (whole, refl, h)

-- a file that can't be read stops its step
pub unread : (f : Files) (s : ReadStep) (limit : ℕ) (status : Status) → Fetches f s.name limit (Err status) → (status ≡ NoMemory) ⊎ Fails f s status
unread f s limit (File named) h = inr (unreadable h.0 h.1)
unread f s limit NoMemory h = inl refl
unread f s limit Done h = absurd h
unread f s limit (Refused r) h = absurd h
unread f s limit (NoCommand k) h = absurd h
unread f s limit (Trap kind spot) h = absurd h
unread f s limit (Steps n) h = absurd h
unread f s limit (Dealt n) h = absurd h
unread f s limit (Input line) h = absurd h
unread f s limit Output h = absurd h

-- ---- Sources

-- what reading the bytes of a source answers, reading the file answers
module _ (f : Files) (name bytes : List ℕ) (h : Fetches f name 1048577 (Ok bytes)) where
  pub source_read : (a : AcceptedSource) → IsAccepted bytes a.program a.typed → Reads source_content f (source_step name) (Ok a)
  source_read a is = (h.0, h.1, (refl, (a.program, accepted_front h.0 bytes a.program a.typed h.2 is)))

  pub fault_stops : (fault : SourceFault) → Accepts bytes (Err fault) → Reads source_content f (source_step name) (Err (status_of fault))
  fault_stops (fault.Refused broken spot) is = inr (malformed h.0 h.1 (broken, spot, refl, refused_front h.0 bytes broken spot h.2 is))
  fault_stops fault.NoMemory is = inl refl

-- ---- Inputs

-- the front of a text is the whole, or both are wrong at one line
module _ (whole bytes : List ℕ) (e : bytes ≡ take 1376277 whole) where
  size : length bytes ≡ min 1376277 (length whole)
  size = ap length e ∙ length-take 1376277 whole

  same_or_wrong : (whole ≡ bytes) ⊎ ((number : ℕ) × IsWrongAt whole number × IsWrongAt bytes number)
  same_or_wrong = at_length (cases_lt (length bytes) 1376277)
    where
      at_length : (length bytes < 1376277) ⊎ (1376277 ≤ length bytes) → (whole ≡ bytes) ⊎ ((number : ℕ) × IsWrongAt whole number × IsWrongAt bytes number)
      at_length (inl short) = inl (below_limit whole bytes 1376277 e short)
      at_length (inr long) =
          let w = long_wrong whole (omega (arith, size, long)) in
          inr (w.0, w.1, subst (λ bs. IsWrongAt bs w.0) (sym e) w.2)

  words_read : (ws : List ℤ) → AreItsWords bytes ws → (whole ≡ bytes) ⊎ ((number : ℕ) × IsWrongAt whole number × IsWrongAt bytes number) → AreItsWords whole ws
  words_read ws is (inl same) = subst (λ bs. AreItsWords bs ws) (sym same) is
  words_read ws is (inr w) = let at : IsWrongAt bytes w.0 = w.2 in absurd (is.right w.0 at.first)

  wrong_read : (number : ℕ) → IsWrongAt bytes number → (whole ≡ bytes) ⊎ ((other : ℕ) × IsWrongAt whole other × IsWrongAt bytes other) → IsWrongAt whole number
  wrong_read number is (inl same) = subst (λ bs. IsWrongAt bs number) (sym same) is
  wrong_read number is (inr w) = let at : IsWrongAt bytes w.0 = w.2 in subst (λ n. IsWrongAt whole n) (is.only w.0 at.first) w.1

-- what reading the bytes of an input answers, reading the file answers
module _ (f : Files) (name bytes : List ℕ) (h : Fetches f name 1376277 (Ok bytes)) where
  pub input_read : (ws : List ℤ) → AreItsWords bytes ws → Reads words f (input_step name) (Ok ws)
  input_read ws is = (h.0, h.1, (refl, words_read h.0 bytes h.2 ws is (same_or_wrong h.0 bytes h.2)))

  pub input_wrong : (line : ℕ) → IsWrongAt bytes line → Reads words f (input_step name) (Err (Input line))
  input_wrong line wrong = inr (malformed h.0 h.1 (line, refl, wrong_read h.0 bytes h.2 line wrong (same_or_wrong h.0 bytes h.2)))
