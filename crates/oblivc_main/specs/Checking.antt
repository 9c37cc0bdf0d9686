-- The command `check`: what it reads, and what it prints.
use Rattle.std.specs.Prelude.{◌≡◌, ℕ, List, [], ◌∷◌, codes}
use Rattle.oc_typing.specs.declared.program.Typed.{Typed}
use Rattle.oblivcc_commands.specs.Asked.{CheckAsked}
use Rattle.oblivc_main.specs.Forms.{Content, source}
use Rattle.oblivc_main.specs.Steps.{ReadStep, source_step}
use Rattle.oblivc_main.specs.declared.status.Status.{Status}
use Rattle.oblivc_main.specs.declared.status.Status.TheVariants.{Done}

-- the source is read
abbrev pub check_steps : CheckAsked → List ReadStep
check_steps d = source_step d.file ∷ []

-- of a source that is accepted, `ok` and a newline are printed
pub record CheckMeans (contents : List Content) (bytes : List ℕ) (status : Status) : Type 0 where
  pub program : Typed
  pub read : contents ≡ source program ∷ []
  pub printed : bytes ≡ codes "ok\n"
  pub ended : status ≡ Done
