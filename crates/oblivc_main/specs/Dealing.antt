-- The command `deal`: the files that it makes.
use Rattle.std.specs.Prelude.{List, [], ◌∷◌}
use Rattle.dealt_transfer.specs.Dealing.{sender_dealt, receiver_dealt}
use Rattle.dealt_transfer.specs.Files.{sender_file, receiver_file}
use Rattle.oblivcc_commands.specs.Asked.{DealAsked}
use Rattle.oblivc_main.specs.Making.{Made}

-- the sender's half, and then the receiver's
abbrev pub dealt_files : DealAsked → List Made
dealt_files d = (d.first, sender_file (sender_dealt d.key d.count)) ∷ (d.second, receiver_file (receiver_dealt d.key d.count)) ∷ []
