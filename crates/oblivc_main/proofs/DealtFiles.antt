-- Making two files, one after the other.
use Rattle.std.proofs.Common.{ℕ, ◌≡◌, ◌≤◌, List, [], ◌∷◌, Option, Some, Ok, Err, refl, sym, ◌∙◌, subst, arith, inl}
use Rattle.std.specs.Prelude.{IfSome, ◌≢◌}
use Rattle.oc_outside.specs.Told.{appended-nil}
use Rattle.oblivcc_commands.specs.declared.asked.DealWords.{DealWords}
use Rattle.oblivcc_commands.specs.declared.asked.Asked.TheVariants.{Deal}
use Rattle.oblivcc_commands.specs.Views.{deal_of}
use Rattle.oblivc_main.specs.Reading.{Told, Holds}
use Rattle.oblivc_main.specs.Making.{Made, Writing, Makes, all_made, not_made, no_memory, Puts}
use Rattle.oblivc_main.specs.Dealing.{dealt_files}
use Rattle.oblivc_main.specs.Endings.{Outside, Ends, finished, unmade, without_memory, IsSilent, writing_of}
use Rattle.oblivc_main.specs.declared.status.Status.{Status}
use Rattle.oblivc_main.specs.declared.status.Status.TheVariants.{Done, Refused, NoCommand, Trap, Steps, File, Dealt, Input, NoMemory, Output}

module _ (before between : Told) (faults_0 faults_1 : ℕ) (failed : Option (List ℕ)) (first : Made) (rest : List Made)
    (elsewhere : (n : List ℕ) → n ≢ first.0 → between n ≡ before n) where
  abbrev pub one : Writing
  one = record { before = before; after = between; faults_before = faults_0; faults_after = faults_1; failed = failed }

  -- the first file wasn't made
  pub first_put : (bytes : List ℕ) (s : Status) → Puts one first.0 bytes (Err s) → Makes one (first ∷ rest) s
  first_put bytes (File name) h = not_made first.0 h.0 (record {
    front = [];
    bytes = first.1;
    rest = rest;
    split = refl;
    rose = h.1;
    named = h.2;
    earlier = tt;
    others = λ n apart all. elsewhere n apart;
  })
  first_put bytes NoMemory h = no_memory refl
  first_put bytes Done h = absurd h
  first_put bytes (Refused r) h = absurd h
  first_put bytes (NoCommand k) h = absurd h
  first_put bytes (Trap kind spot) h = absurd h
  first_put bytes (Steps k) h = absurd h
  first_put bytes (Dealt k) h = absurd h
  first_put bytes (Input line) h = absurd h
  first_put bytes Output h = absurd h

module _ (before between after : Told) (faults_0 faults_1 faults_2 : ℕ) (failed : Option (List ℕ)) (first second : Made)
    (held : Holds between first.0 first.1) (least : faults_0 ≤ faults_1)
    (earlier : (n : List ℕ) → n ≢ first.0 → between n ≡ before n) (elsewhere : (n : List ℕ) → n ≢ second.0 → after n ≡ between n) where
  abbrev pub last : Writing
  last = record { before = between; after = after; faults_before = faults_1; faults_after = faults_2; failed = failed }

  abbrev pub both : Writing
  both = record { before = before; after = after; faults_before = faults_0; faults_after = faults_2; failed = failed }

  kept : first.0 ≢ second.0 → Holds after first.0 first.1
  kept apart = subst (λ told. IfSome told (λ held. held ≡ Some first.1)) (sym (elsewhere first.0 apart)) held

  -- both were made
  pub second_put : Puts last second.0 second.1 (Ok tt) → Makes both (first ∷ second ∷ []) Done
  second_put h = all_made refl ((λ apart. kept apart.0), ((λ none. h), tt))

  -- the second file wasn't made, after the first
  pub second_lost : (bytes : List ℕ) (s : Status) → Puts last second.0 bytes (Err s) → Makes both (first ∷ second ∷ []) s
  second_lost bytes (File name) h = let rose = h.1 in not_made second.0 h.0 (record {
    front = first ∷ [];
    bytes = second.1;
    rest = [];
    split = refl;
    rose = omega (arith, rose, least);
    named = h.2;
    earlier = ((λ apart none. kept apart), tt);
    others = λ n apart all. elsewhere n apart ∙ earlier n all.0;
  })
  second_lost bytes NoMemory h = no_memory refl
  second_lost bytes Done h = absurd h
  second_lost bytes (Refused r) h = absurd h
  second_lost bytes (NoCommand k) h = absurd h
  second_lost bytes (Trap kind spot) h = absurd h
  second_lost bytes (Steps k) h = absurd h
  second_lost bytes (Dealt k) h = absurd h
  second_lost bytes (Input line) h = absurd h
  second_lost bytes Output h = absurd h

-- `deal` prints nothing
pub deal_ends : (o : Outside) (words : DealWords) (s : Status) → IsSilent o.out → o.out.faults_after ≡ o.out.faults_before → Makes (writing_of o) (dealt_files (deal_of words)) s → Ends o (Deal words) s
deal_ends o words s same faultless (all_made is holds) = finished (record {
  bytes = [];
  meant = record { contents = []; taken = tt; meant = (refl, is) };
  printed = same ∙ sym (appended-nil o.out.before);
  faultless = faultless;
  made = holds;
})
deal_ends o words s same faultless (not_made name is cause) = unmade name is cause same
deal_ends o words s same faultless (no_memory is) = without_memory is (inl same)
