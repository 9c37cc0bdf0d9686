use Rattle.std.proofs.Common.{◌++◌, length, take}
use Rattle.std.specs.List.{flat_map}
use Rattle.sha2.specs.Hashers.{Holds256}
use Rattle.party_frames.specs.Setup.{number_bytes, word_bytes}
use Rattle.party_frames.proofs.setup.setup_digest.Given as goal

abbrev pub invariant-loop-word : goal.invariant-loop-word
invariant-loop-word l =
    Holds256 l.hasher (((number_bytes (length l.source) ++ l.source) ++ number_bytes (length l.public)) ++ flat_map word_bytes (take l.word-index l.public))
