use Rattle.std.proofs.Common.{◌≡◌, drop}
use Rattle.call_steps.specs.declared.formats.Reading.TheVariants as reading
use Rattle.call_steps.specs.Formats.{read_with, format_from}
use Rattle.call_steps.proofs.formats.read_format.Given as goal

abbrev pub invariant-loop-byte : goal.invariant-loop-byte
invariant-loop-byte l = read_with l.reader (drop l.byte-index l.text) ≡ format_from reading.Outside l.text
