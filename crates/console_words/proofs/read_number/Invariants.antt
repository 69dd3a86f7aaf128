use Rattle.console_words.proofs.NumberLaws.{Reading}
use Rattle.console_words.proofs.read_number.Given as goal

abbrev pub invariant-loop-c : goal.invariant-loop-c
invariant-loop-c l = Reading l.s l.n l.c-index
