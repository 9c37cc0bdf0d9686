-- The files that a command makes, one after another.
use Rattle.std.specs.Prelude.{ℕ, ◌≡◌, ◌≢◌, List, [], ◌∷◌, ◌++◌, Option, IfSome, Result, Ok, Err}
use Rattle.std.specs.List.{AllByRecursion}
use Rattle.oc_outside.specs.Counts.{Rose}
use Rattle.oblivc_main.specs.Reading.{Told, Holds, IsFile}
use Rattle.oblivc_main.specs.declared.status.Status.{Status}
use Rattle.oblivc_main.specs.declared.status.Status.TheVariants.{Done, File, NoMemory}

-- a file's name and the bytes that are made its contents
abbrev pub Made : Type 0
Made = List ℕ × List ℕ

-- what a vault tells of each name before and after a call, its faults before and after, and the name that failed last
pub record Writing : Type 0 where
  pub before : Told
  pub after : Told
  pub faults_before : ℕ
  pub faults_after : ℕ
  pub failed : Option (List ℕ)

-- the name is none of these files'
abbrev pub IsElsewhere : List ℕ → List Made → Type 0
IsElsewhere name made = AllByRecursion (λ m. name ≢ m.0) made

-- each of these files holds its bytes, where one name stands twice the later ones
abbrev pub HoldsAll : Told → List Made → Type 0
HoldsAll told [] = Unit {0}
HoldsAll told (m ∷ rest) = (IsElsewhere m.0 rest → Holds told m.0 m.1) × HoldsAll told rest

-- the same, but for a file of this name
abbrev pub HoldsOthers : List ℕ → Told → List Made → Type 0
HoldsOthers name told [] = Unit {0}
HoldsOthers name told (m ∷ rest) = (m.0 ≢ name → IsElsewhere m.0 rest → Holds told m.0 m.1) × HoldsOthers name told rest

-- the file of this name can't be written: the faults rose, and it is the name that failed last. Those before it hold their
-- bytes, and no other file was changed
pub record IsUnwritable (w : Writing) (made : List Made) (name : List ℕ) : Type 0 where
  pub front : List Made
  pub bytes : List ℕ
  pub rest : List Made
  pub split : made ≡ front ++ (name, bytes) ∷ rest
  pub rose : Rose w.faults_before w.faults_after
  pub named : IfSome w.failed (λ last. last ≡ name)
  pub earlier : HoldsOthers name w.after front
  pub others : (n : List ℕ) → n ≢ name → IsElsewhere n front → w.after n ≡ w.before n

-- how making these files ends
pub data Makes (w : Writing) (made : List Made) (status : Status) : Type 0 where
  all_made : status ≡ Done → HoldsAll w.after made → Makes w made status
  not_made : (name : List ℕ) → IsFile status name → IsUnwritable w made name → Makes w made status
  no_memory : status ≡ NoMemory → Makes w made status

-- what making one file answers
abbrev pub Puts : Writing → List ℕ → List ℕ → Result (Unit {0}) Status → Type 0
Puts w name bytes (Ok u) = Holds w.after name bytes
Puts w name bytes (Err (File named)) = (named.now ≡ name) × Rose w.faults_before w.faults_after × IfSome w.failed (λ last. last ≡ name)
Puts w name bytes (Err NoMemory) = Unit {0}
Puts w name bytes (Err _) = ⊥
