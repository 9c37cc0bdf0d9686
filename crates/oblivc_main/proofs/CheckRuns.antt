-- Reading the source of `check`, and printing that it is accepted.
use Rattle.std.proofs.Common.{ℕ, ◌≡◌, ◌≤◌, [], ◌∷◌, length, take, refl, inl, inr}
use Rattle.std.specs.Prelude.{◌⊎◌, codes}
use Rattle.accepted_sources.specs.declared.source.AcceptedSource.{AcceptedSource}
use Rattle.oc_outside.specs.Told.{appended}
use Rattle.oc_outside.specs.declared.sinks.PutEnd.TheVariants.{Done as AllPut, Failed as NotPut, NoMemory as PutNoMemory}
use Rattle.oblivcc_commands.specs.declared.asked.CheckWords.{CheckWords}
use Rattle.oblivcc_commands.specs.declared.asked.Asked.TheVariants.{Check as CheckAsk}
use Rattle.oblivc_main.specs.Forms.{source}
use Rattle.oblivc_main.specs.Steps.{Takes, Fails, source_step}
use Rattle.oblivc_main.specs.declared.status.Status.{Status}
use Rattle.oblivc_main.specs.Endings.{Outside, Ends, finished, stopped, unwritten, without_memory, IsMeant, PrintsFront, Printed, IsSilent, files_of}
use Rattle.oblivc_main.specs.declared.status.Status.TheVariants.{Done, NoMemory, Output}
use Rattle.oblivc_main.proofs.Steps.{stops_first}

-- the source stops the command before anything is printed
pub check_stops : (o : Outside) (words : CheckWords) (s : Status) → (s ≡ NoMemory) ⊎ Fails (files_of o) (source_step words.file.now) s → IsSilent o.out → Ends o (CheckAsk words) s
check_stops o words s (inl none) same = without_memory none (inl same)
check_stops o words s (inr h) same = stopped (stops_first (files_of o) (source_step words.file.now) [] s h) same

module _ (o : Outside) (words : CheckWords) (a : AcceptedSource) (taken : Takes o.told (source_step words.file.now) (source a.typed)) where
  meant : IsMeant o.told (CheckAsk words) (codes "ok\n") Done
  meant = record {
    contents = source a.typed ∷ [];
    taken = (taken, tt);
    meant = record { program = a.typed; read = refl; printed = refl; ended = refl };
  }

  -- all is printed
  pub check_done : Printed (codes "ok\n") AllPut o.out.faults_before o.out.faults_after o.out.before o.out.after → Ends o (CheckAsk words) Done
  check_done p = finished (record { bytes = codes "ok\n"; meant = meant; printed = p.done; faultless = p.no_fault; made = tt })

  front : ((n : ℕ) × (n ≤ length (codes "ok\n")) × (o.out.after ≡ appended (take n (codes "ok\n")) o.out.before)) → PrintsFront o (CheckAsk words)
  front f = record { bytes = codes "ok\n"; status = Done; meant = meant; count = f.0; within = f.1; printed = f.2 }

  -- the output fails
  pub check_unwritten : Printed (codes "ok\n") NotPut o.out.faults_before o.out.faults_after o.out.before o.out.after → Ends o (CheckAsk words) Output
  check_unwritten p = unwritten refl p.failed (front p.refused)

  -- the output finds no memory
  pub check_spent : Printed (codes "ok\n") PutNoMemory o.out.faults_before o.out.faults_after o.out.before o.out.after → Ends o (CheckAsk words) NoMemory
  check_spent p = without_memory refl (inr (front p.refused))
