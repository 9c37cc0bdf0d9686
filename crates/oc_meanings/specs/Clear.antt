-- The clear meaning of a program: the walk whose hidden values are plain integers and whose private words are known.
use Rattle.std.specs.Prelude.{ℕ, zero, suc, ◌≡◌, ℤ, pos, List, [], ◌∷◌, ◌++◌, length, Some, Bool, true, false, not, ◌&&◌, slice_get, unwrap_or}
use Rattle.oc_values.specs.Integers.{operate, convert, is_zero, number_of}
use Rattle.oc_values.specs.Kinds.{operate_one}
use Rattle.oc_cells.specs.declared.types.StructType.{StructType}
use Rattle.oc_cells.specs.declared.trap.TrapKind.TheVariants.{M5}
use Rattle.oc_typed.specs.declared.typed.TypedFunction.{TypedFunction}
use Rattle.oc_typed.specs.declared.typed.TStmtNode.{Held-TStmtNode-If-2}
use Rattle.oc_walk.specs.declared.run.ShownItem.{ShownItem}
use Rattle.oc_walk.specs.declared.run.ShownItem.TheVariants.{Print, Reveal, Give}
use Rattle.oc_walk.specs.declared.run.ClearSetup.{ClearSetup}
use Rattle.oc_walk.specs.declared.run.Value.{Value}
use Rattle.oc_walk.specs.declared.run.Outcome.{Outcome}
use Rattle.oc_walk.specs.declared.run.Outcome.TheVariants.{Done, Trap}
use Rattle.oc_walk.specs.Domain.{Domain, AllOf}
use Rattle.oc_walk.specs.Walking.{State, Res, Go, Stop, Ended, Needs, Odd, Act, pure, Known, Site}
use Rattle.oc_walk.specs.Walk.{walk}

-- the words of a party
abbrev pub words_of : List ℤ → List ℤ → ℕ → List ℤ
words_of first second (suc zero) = first
words_of first second _ = second

-- the private word of a party at an index
abbrev pub word_at : List ℤ → List ℤ → ℕ → ℕ → ℤ
word_at first second party i = unwrap_or (slice_get (words_of first second party) i) (pos 0)

-- the new value where the enable is true, else the old one
abbrev pub selected : Bool → ℤ → ℤ → ℤ
selected true new old = new
selected false new old = old

-- the domain of plain integers, which keeps what is shown
abbrev pub clear : List ℤ → List ℤ → Domain
clear first second = record {
  Hidden = ℤ;
  Enable = Bool;
  Own = List ShownItem;
  known = λ k n. n;
  one = λ op k x o. (operate_one op k x, o);
  binary = λ op k x y o. (operate op k x y, o);
  shift = λ op k x n o. (operate op k x n, o);
  turn = λ from to x o. (convert x to, o);
  pick = λ k e new old o. (selected e new old, o);
  always = true;
  held = number_of;
  first = λ e c o. (e && not (is_zero c), o);
  second = λ e c u o. (e && is_zero c, o);
  decide = λ c. AllOf;
  feed = λ party k i o. (convert (word_at first second party i) k, o);
  knows = λ k h. Some h;
  reveal = λ k h n o. o ++ Reveal k n ∷ [];
  give = λ party k h o. o ++ Give party k h ∷ [];
  print = λ bytes o. o ++ Print bytes ∷ [];
}

-- nothing stands for a part that isn't walked, where every part is
abbrev pub no_skip : {S : Type 0} → ℕ → Site → Held-TStmtNode-If-2 → Act S (Unit {0})
no_skip n x part s = pure tt s

-- what both parties know of a setup: the public words, and how many private words each party has
abbrev pub known_of : ClearSetup → Known
known_of s = record { public = s.public; first = length s.first; second = length s.second }

-- the walk of a program in the clear, from a setup's words, dealt transfers and step budget
abbrev pub clear_walk : List StructType → List TypedFunction → ℕ → ClearSetup → Res (State ℤ (List ShownItem)) (Value ℤ)
clear_walk structs fs entry s = walk (clear s.first s.second) no_skip structs fs entry (known_of s) s.dealt [] s.budget []

-- what a walk has shown where it ends, and its outcome; no typed program ends as the last line says
abbrev pub IsEnd : Res (State ℤ (List ShownItem)) (Value ℤ) → List ShownItem → Outcome → Type 0
IsEnd (Go v s) items outcome = (items ≡ s.mem.own) × (outcome ≡ Done)
IsEnd (Stop (Ended o) s) items outcome = (items ≡ s.mem.own) × (outcome ≡ o)
IsEnd (Stop (Needs k kind) s) items outcome = ⊥
IsEnd (Stop (Odd p) s) items outcome = (items ≡ s.mem.own) × (outcome ≡ Trap M5 p)

-- the program shows these items, in order, and ends so
abbrev pub Clear : List StructType → List TypedFunction → ℕ → ClearSetup → List ShownItem → Outcome → Type 0
Clear structs fs entry setup items outcome = IsEnd (clear_walk structs fs entry setup) items outcome
