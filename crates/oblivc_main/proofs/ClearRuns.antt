-- Reading the files of `clear`, one after another, and running the program.
use Rattle.std.proofs.Common.{ℕ, ◌≡◌, ◌≤◌, ℤ, List, [], ◌∷◌, length, take, Option, Some, None, Result, Ok, Err, refl, sym, subst, inl, inr}
use Rattle.std.specs.Prelude.{◌⊎◌}
use Rattle.std.specs.List.{AllZip}
use Rattle.oc_walk.specs.declared.run.ShownItem.{ShownItem}
use Rattle.oc_walk.specs.declared.run.Outcome.{Outcome}
use Rattle.oc_meanings.specs.Clear.{Clear}
use Rattle.accepted_sources.specs.declared.source.AcceptedSource.{AcceptedSource}
use Rattle.clear_walk.specs.declared.run.ClearRun.{ClearRun}
use Rattle.oc_outside.specs.Told.{appended}
use Rattle.oc_outside.specs.declared.sinks.PutEnd.TheVariants.{Done as AllPut, Failed as NotPut, NoMemory as PutNoMemory}
use Rattle.oblivcc_commands.specs.Asked.{ClearAsked}
use Rattle.oblivcc_commands.specs.Views.{clear_of}
use Rattle.oblivcc_commands.specs.declared.asked.ClearWords.{ClearWords}
use Rattle.oblivcc_commands.specs.declared.asked.Asked.TheVariants.{Clear as ClearAsk}
use Rattle.oblivc_main.specs.Reading.{Told, Files}
use Rattle.oblivc_main.specs.Forms.{Content, source, words}
use Rattle.oblivc_main.specs.Steps.{ReadStep, Takes, Fails, StopsAt, source_step, input_step}
use Rattle.oblivc_main.specs.Shown.{shown}
use Rattle.oblivc_main.specs.Clearing.{setup_of, with_input, with_words, clear_steps, IsGiven, end_of, ClearMeans, ReadsGiven, Runs}
use Rattle.oblivc_main.specs.declared.status.Status.{Status}
use Rattle.oblivc_main.specs.Endings.{Outside, Ends, finished, stopped, unwritten, without_memory, IsMeant, PrintsFront, Printed, IsSilent, files_of}
use Rattle.oblivc_main.specs.declared.status.Status.TheVariants.{NoMemory, Output}
use Rattle.oblivc_main.proofs.Steps.{files_at, stops_first, stops_later, fails_later}

-- ---- Inputs that may be left out

no_fault : (s : Status) → ◌≡◌ {A = Result (List ℤ) Status} (Err s) (Ok []) → ⊥
no_fault s e = cc

all_words : (ws : List ℤ) → ◌≡◌ {A = Result (List ℤ) Status} (Ok ws) (Ok []) → ws ≡ []
all_words ws e = cc

-- an input that can't be read stops what begins with it
input_stops : (f : Files) (name : Option (List ℕ)) (rest : List ReadStep) (s : Status) → ReadsGiven f name (Err s) → (s ≡ NoMemory) ⊎ StopsAt f (with_input name rest) s
input_stops f None rest s h = absurd (no_fault s h)
input_stops f (Some name) rest s (inl none) = inl none
input_stops f (Some name) rest s (inr h) = inr (stops_first f (input_step name) rest s h)

-- one that is read lets what is after it stop
input_passes : (f : Files) (name : Option (List ℕ)) (ws : List ℤ) (rest : List ReadStep) (s : Status) → ReadsGiven f name (Ok ws) → (s ≡ NoMemory) ⊎ StopsAt f rest s → (s ≡ NoMemory) ⊎ StopsAt f (with_input name rest) s
input_passes f name ws rest s h (inl none) = inl none
input_passes f None ws rest s h (inr at) = inr at
input_passes f (Some name) ws rest s h (inr at) = inr (stops_later f (input_step name) (words ws) rest s h at)

-- its file is read as these words, and so what is after it
input_taken : (f : Files) (name : Option (List ℕ)) (ws : List ℤ) (rest : List ReadStep) (contents : List Content) → ReadsGiven f name (Ok ws) → AllZip (Takes f.told) rest contents → AllZip (Takes f.told) (with_input name rest) (with_words name ws contents)
input_taken f None ws rest contents h all = all
input_taken f (Some name) ws rest contents h all = (h, all)

input_given : (f : Files) (name : Option (List ℕ)) (ws : List ℤ) → ReadsGiven f name (Ok ws) → IsGiven name ws
input_given f None ws h = all_words ws h
input_given f (Some name) ws h = tt

-- what a later call answers, the first one could
given_later : (told told' : Told) (before mid after : ℕ) (failed : Option (List ℕ)) (name : Option (List ℕ)) (s : Status) → told' ≡ told → before ≤ mid → ReadsGiven (files_at told' mid after failed) name (Err s) → ReadsGiven (files_at told before after failed) name (Err s)
given_later told told' before mid after failed None s same le h = h
given_later told told' before mid after failed (Some name) s same le (inl none) = inl none
given_later told told' before mid after failed (Some name) s same le (inr h) = inr (fails_later told told' before mid after failed (input_step name) s same le h)

given_told : (f g : Files) (name : Option (List ℕ)) (ws : List ℤ) → f.told ≡ g.told → ReadsGiven f name (Ok ws) → ReadsGiven g name (Ok ws)
given_told f g None ws same h = h
given_told f g (Some name) ws same h = subst (λ told. Takes told (input_step name) (words ws)) same h

-- ---- The files of the command

module _ (d : ClearAsked) where
  source_stopped : (f : Files) (s : Status) → (s ≡ NoMemory) ⊎ Fails f (source_step d.file) s → (s ≡ NoMemory) ⊎ StopsAt f (clear_steps d) s
  source_stopped f s (inl none) = inl none
  source_stopped f s (inr h) = inr (stops_first f (source_step d.file) _ s h)

  -- the source stops the call
  pub source_stops : (f : Files) (s : Status) (r : Result ClearRun Status) → (s ≡ NoMemory) ⊎ Fails f (source_step d.file) s → r ≡ Err s → Runs f d r
  source_stops f s r h e = subst (Runs f d) (sym e) (source_stopped f s h)

  -- after the source something else stops
  source_passes : (f : Files) (a : AcceptedSource) (s : Status) → Takes f.told (source_step d.file) (source a.typed) → (s ≡ NoMemory) ⊎ StopsAt f (with_input d.first (with_input d.second [])) s → (s ≡ NoMemory) ⊎ StopsAt f (clear_steps d) s
  source_passes f a s t (inl none) = inl none
  source_passes f a s t (inr at) = inr (stops_later f (source_step d.file) (source a.typed) _ s t at)

module _ (told : Told) (before mid after : ℕ) (failed : Option (List ℕ)) (d : ClearAsked) where
  abbrev pub files : Files
  files = files_at told before after failed

  -- the first input stops the call
  pub first_stops : (told' : Told) (a : AcceptedSource) (s : Status) (r : Result ClearRun Status) → told' ≡ told → Takes told (source_step d.file) (source a.typed) → before ≤ mid
      → ReadsGiven (files_at told' mid after failed) d.first (Err s) → r ≡ Err s → Runs files d r
  first_stops told' a s r same t le h e =
      subst (Runs files d) (sym e) (source_passes d files a s t (input_stops files d.first _ s (given_later told told' before mid after failed d.first s same le h)))

  -- the second input stops the call
  pub second_stops : (told' told'' : Told) (from to : ℕ) (name : Option (List ℕ)) (a : AcceptedSource) (ws : List ℤ) (s : Status) (r : Result ClearRun Status) → told' ≡ told → told'' ≡ told → Takes told (source_step d.file) (source a.typed)
      → ReadsGiven (files_at told' from to name) d.first (Ok ws) → before ≤ mid
      → ReadsGiven (files_at told'' mid after failed) d.second (Err s) → r ≡ Err s → Runs files d r
  second_stops told' told'' from to name a ws s r same also t g le h e =
      subst (Runs files d) (sym e)
      (source_passes d files a s t
      (input_passes files d.first ws _ s (given_told (files_at told' from to name) files d.first ws same g)
      (input_stops files d.second [] s (given_later told told'' before mid after failed d.second s also le h))))

  -- all were read, and the program ran
  pub ran : (told' told'' : Told) (from to : ℕ) (name : Option (List ℕ)) (a : AcceptedSource) (x y : List ℤ) (items : List ShownItem) (outcome : Outcome) → told' ≡ told → told'' ≡ told
      → Takes told (source_step d.file) (source a.typed) → ReadsGiven (files_at told' from to name) d.first (Ok x) → ReadsGiven (files_at told'' mid after failed) d.second (Ok y)
      → Clear a.typed.structs a.typed.functions a.typed.entry (setup_of d x y) items outcome
      → (contents : List Content) × AllZip (Takes told) (clear_steps d) contents × ClearMeans d contents (shown items) (end_of d outcome)
  ran told' told'' from to name a x y items outcome same also t g h run =
      let first = given_told (files_at told' from to name) files d.first x same g in
      let second = given_told (files_at told'' mid after failed) files d.second y also h in (
        source a.typed ∷ with_words d.first x (with_words d.second y []),
        (t, input_taken files d.first x _ _ first (input_taken files d.second y [] [] second tt)),
        record {
          program = a.typed;
          first = x;
          second = y;
          items = items;
          outcome = outcome;
          read = refl;
          first_given = input_given files d.first x first;
          second_given = input_given files d.second y second;
          meaning = run;
          printed = refl;
          ended = refl;
        },
      )

-- ---- Printing

-- a file that is read stops the command before anything is printed
pub clear_stops : (o : Outside) (asked : ClearWords) (s : Status) → (s ≡ NoMemory) ⊎ StopsAt (files_of o) (clear_steps (clear_of asked)) s → IsSilent o.out → Ends o (ClearAsk asked) s
clear_stops o asked s (inl none) same = without_memory none (inl same)
clear_stops o asked s (inr at) same = stopped at same

module _ (o : Outside) (asked : ClearWords) (run : ClearRun) (runs : Runs (files_of o) (clear_of asked) (Ok run)) where
  meant : IsMeant o.told (ClearAsk asked) (shown run.shown) (end_of (clear_of asked) run.outcome)
  meant = record { contents = runs.0; taken = runs.1; meant = runs.2 }

  -- all is printed
  pub clear_done : (s : Status) → s ≡ end_of (clear_of asked) run.outcome → Printed (shown run.shown) AllPut o.out.faults_before o.out.faults_after o.out.before o.out.after → Ends o (ClearAsk asked) s
  clear_done s e p =
      subst (Ends o (ClearAsk asked)) (sym e) (finished (record { bytes = shown run.shown; meant = meant; printed = p.done; faultless = p.no_fault; made = tt }))

  front : ((n : ℕ) × (n ≤ length (shown run.shown)) × (o.out.after ≡ appended (take n (shown run.shown)) o.out.before)) → PrintsFront o (ClearAsk asked)
  front f = record { bytes = shown run.shown; status = end_of (clear_of asked) run.outcome; meant = meant; count = f.0; within = f.1; printed = f.2 }

  -- the output fails
  pub clear_unwritten : Printed (shown run.shown) NotPut o.out.faults_before o.out.faults_after o.out.before o.out.after → Ends o (ClearAsk asked) Output
  clear_unwritten p = unwritten refl p.failed (front p.refused)

  -- the output finds no memory
  pub clear_spent : Printed (shown run.shown) PutNoMemory o.out.faults_before o.out.faults_after o.out.before o.out.after → Ends o (ClearAsk asked) NoMemory
  clear_spent p = without_memory refl (inr (front p.refused))
