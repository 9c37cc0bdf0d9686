use Rattle.std.proofs.lemmas.List.Elements.{All-rest}
use Rattle.oc_lines.specs.MemoryLines.{IsUnused}
use Rattle.oc_lines.proofs.memory_dialer.MemoryDialer.hand_out.Goals as goal

-- the lines behind the one that is handed out weren't used yet
pub invariant_of-self-in-Some : goal.invariant_of-self-in-Some
invariant_of-self-in-Some c =
    (All-rest IsUnused c.in-Some.line _ _ c.in-Some.ensures.items c.self.invariant.0, c.next_fails.ensures.below_end)
