-- The lines that go to the error stream.
use Rattle.std.specs.Prelude.{ℕ, List, [], ◌∷◌, ◌++◌, codes}
use Rattle.std.specs.Fmt.{decimal}
use Rattle.oc_source.specs.declared.spot.Spot.{Spot}
use Rattle.oc_cells.specs.declared.trap.TrapKind.{TrapKind}
use Rattle.oblivc_main.specs.RuleNames.{source_name, trap_name}
use Rattle.oblivc_main.specs.declared.refusal.Refusal.{Refusal}

-- `usage K`: the words aren't a command
abbrev pub usage_line : ℕ → List ℕ
usage_line k = codes "usage " ++ decimal k ++ 10 ∷ []

-- `refused RULE LINE:COLUMN`: the source is refused
abbrev pub refused_line : Refusal → List ℕ
refused_line r =
    codes "refused " ++ source_name r.rule ++ codes " " ++ decimal r.spot.line ++ codes ":" ++ decimal r.spot.column ++ codes "\n"

-- `file NAME`: a file can't be read or written
abbrev pub file_line : List ℕ → List ℕ
file_line name = codes "file " ++ name ++ 10 ∷ []

-- `trap KIND LINE:COLUMN`: the run met this trap
abbrev pub trap_line : TrapKind → Spot → List ℕ
trap_line kind spot = codes "trap " ++ trap_name kind ++ codes " " ++ decimal spot.line ++ codes ":" ++ decimal spot.column ++ codes "\n"

-- `steps N`: the budget of N steps was spent
abbrev pub steps_line : ℕ → List ℕ
steps_line n = codes "steps " ++ decimal n ++ 10 ∷ []

-- `dealt N`: the N dealt transfers were too few
abbrev pub dealt_line : ℕ → List ℕ
dealt_line n = codes "dealt " ++ decimal n ++ 10 ∷ []

-- `input LINE`: this is the first wrong line of an input file
abbrev pub input_line : ℕ → List ℕ
input_line n = codes "input " ++ decimal n ++ 10 ∷ []

-- `output`: the output can't be written
abbrev pub output_line : List ℕ
output_line = codes "output\n"

-- `memory`: want of memory
abbrev pub memory_line : List ℕ
memory_line = codes "memory\n"
