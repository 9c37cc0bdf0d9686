-- The plain meaning of a program: the clear one, where of an `obliv if` only the part that is taken is walked.
use Rattle.std.specs.Prelude.{ℕ, zero, suc, ◌-◌, ℤ, List, [], ◌∷◌, ◌++◌, length, false, if◌then◌else◌}
use Rattle.oc_values.specs.Integers.{is_zero}
use Rattle.oc_cells.specs.declared.memory.Block.{Block}
use Rattle.oc_cells.specs.declared.memory.Block.TheVariants.{Gone}
use Rattle.oc_cells.specs.declared.types.StructType.{StructType}
use Rattle.oc_typed.specs.declared.typed.TypedFunction.{TypedFunction}
use Rattle.oc_typed.specs.declared.typed.TStmtNode.{Held-TStmtNode-If-2}
use Rattle.oc_walk.specs.declared.run.ShownItem.{ShownItem}
use Rattle.oc_walk.specs.declared.run.ClearSetup.{ClearSetup}
use Rattle.oc_walk.specs.declared.run.Value.{Value}
use Rattle.oc_walk.specs.Domain.{Domain, FirstOf, SecondOf}
use Rattle.oc_walk.specs.Walking.{State, Res, Go, Stop, Act, Run, Site}
use Rattle.oc_walk.specs.Statements.{other}
use Rattle.oc_walk.specs.Walk.{calls, run_of, walk}
use Rattle.oc_meanings.specs.Clear.{clear, no_skip, known_of}

-- the domain of plain integers, in which the condition decides which part is walked
abbrev pub plain : List ℤ → List ℤ → Domain
plain first second = record (clear first second) { decide = λ c. if is_zero c then SecondOf else FirstOf }

-- so many blocks that are gone
abbrev pub gone : ℕ → List (Block ℤ)
gone zero = []
gone (suc n) = Gone ∷ gone n

-- the blocks where a walk ends
abbrev pub blocks_of : {A : Type 0} → Res (State ℤ (List ShownItem)) A → List (Block ℤ)
blocks_of (Go a t) = t.mem.blocks
blocks_of (Stop w t) = t.mem.blocks

module _ (first second : List ℤ) (run : Run) (fs : List TypedFunction) where
  -- as many gone blocks as the clear walk of this part, with nothing enabled, makes from the same state
  abbrev pub skipped : ℕ → Site → Held-TStmtNode-If-2 → Act (State ℤ (List ShownItem)) (Unit {0})
  skipped n x part s =
      let c = clear first second in
      let r = other c x (record { enable = false; call = calls c no_skip run fs n; skip = no_skip n }) part s in
      Go tt (record s { mem = record s.mem { blocks = s.mem.blocks ++ gone (length (blocks_of r) - length s.mem.blocks) } })

-- the plain walk of a program, from a setup's words, dealt transfers and step budget
abbrev pub plain_walk : List StructType → List TypedFunction → ℕ → ClearSetup → Res (State ℤ (List ShownItem)) (Value ℤ)
plain_walk structs fs entry s =
    let run = run_of structs (known_of s) s.budget in
    walk (plain s.first s.second) (skipped s.first s.second run fs) structs fs entry (known_of s) s.dealt [] s.budget []
