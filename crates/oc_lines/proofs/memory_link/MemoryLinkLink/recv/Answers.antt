use Rattle.std.proofs.Common.{Some, ap, sym, take-append-drop}
use Rattle.std.proofs.Math.Seq.{take-add}
use Rattle.std.proofs.lemmas.List.{take_rest, drop-drop}
use Rattle.oc_lines.proofs.memory_link.MemoryLinkLink.recv.Goals as goal

-- what arrived is now longer by the next bytes
pub returns-clause-arrived : goal.returns-clause-arrived
returns-clause-arrived c =
    rw (← c.self.view_is, c.copy_front-n.ensures.front, c.as_slice.ensures, take_rest) (ap Some (take-add c.self.inside.at c.copy_front-n.result c.self.inside.bytes))

-- and these stood at the front of what comes
pub returns-clause-taken : goal.returns-clause-taken
returns-clause-taken c =
    rw (← c.self.view_is, c.copy_front-n.ensures.front, c.as_slice.ensures, take_rest, ← drop-drop) (ap Some (sym (take-append-drop c.copy_front-n.result _)))
