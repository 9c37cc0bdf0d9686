use Rattle.std.proofs.Common.{◌≡◌, drop}
use Rattle.oc_lexer.specs.Words.{find_keyword}
use Rattle.oc_lexer.proofs.words.find_keyword.Given as goal

abbrev pub invariant-loop-keyword : goal.invariant-loop-keyword
invariant-loop-keyword l = find_keyword (drop l.keyword-index l.keywords) l.word ≡ find_keyword l.keywords l.word
