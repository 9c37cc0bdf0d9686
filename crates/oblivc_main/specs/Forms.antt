-- The forms of the files that commands read: which bytes have a form, what they are read as, and the status where they haven't it.
use Rattle.std.specs.Prelude.{ℕ, ◌≡◌, ℤ, List}
use Rattle.oc_source.specs.declared.spot.Spot.{Spot}
use Rattle.oc_source.specs.declared.parsed.Program.{Program}
use Rattle.oc_typing.specs.declared.program.Typed.{Typed}
use Rattle.accepted_sources.specs.Accepted.{Accepted}
use Rattle.accepted_sources.specs.Answers.{IsAccepted, IsRefused}
use Rattle.accepted_sources.specs.declared.rules.SourceRule.{SourceRule}
use Rattle.accepted_sources.specs.declared.source.AcceptedSource.{AcceptedSource}
use Rattle.input_words.specs.Lines.{HasWords}
use Rattle.input_words.specs.Telling.{AreItsWords, IsWrongAt}
use Rattle.oblivc_main.specs.declared.status.Status.{Status}
use Rattle.oblivc_main.specs.declared.status.Status.TheVariants.{Refused, Input}

-- the form that a file has to have: a source that is accepted, or an input of one word a line
pub data FileForm : Type 0 where
  source_form : FileForm
  input_form : FileForm

-- what a file is read as
pub data Content : Type 0 where
  source : Typed → Content
  words : List ℤ → Content

-- what an accepted source is read as
abbrev pub source_content : AcceptedSource → Content
source_content a = source a.typed

-- the bytes have this form
abbrev pub HasForm : FileForm → List ℕ → Type 0
HasForm source_form bytes = (t : Typed) × Accepted bytes t
HasForm input_form bytes = (ws : List ℤ) × HasWords bytes ws

-- the bytes have this form and are read as this
abbrev pub IsReadAs : FileForm → List ℕ → Content → Type 0
IsReadAs form bytes (source t) = (form ≡ source_form) × ((program : Program) × IsAccepted bytes program t)
IsReadAs form bytes (words ws) = (form ≡ input_form) × AreItsWords bytes ws

-- the bytes haven't this form, and this is the status of that
abbrev pub IsMalformed : FileForm → List ℕ → Status → Type 0
IsMalformed source_form bytes status =
    (rule : SourceRule) × (spot : Spot) × (status ≡ Refused (record { rule = rule; spot = spot })) × IsRefused bytes rule spot
IsMalformed input_form bytes status = (line : ℕ) × (status ≡ Input line) × IsWrongAt bytes line
