use Rattle.oc_declarators.proofs.Words.{tail_char, tail_int, tail_short, tail_long}
use Rattle.oc_declarators.proofs.integers.tail.Goals as goal

pub returns-in-Char : goal.returns-in-Char
returns-in-Char c = rw (c.int_kind-kind.ensures, c.in-Char.is) (tail_char _ _)

pub returns-in-Short : goal.returns-in-Short
returns-in-Short c = rw (c.int_kind-kind.ensures, c.in-Short.is) (tail_short _ _ _ c.optional.ensures)

pub returns-in-Int : goal.returns-in-Int
returns-in-Int c = rw (c.int_kind-kind.ensures, c.in-Int.is) (tail_int _ _)

pub returns-in-Long : goal.returns-in-Long
returns-in-Long c = rw (c.int_kind-kind.ensures, c.in-Long.is) (tail_long _ _ _ _ c.optional-rest.ensures c.optional-in-Long.ensures)
