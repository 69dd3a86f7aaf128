use Rattle.console_words.proofs.PrefixLaws.{Networks}
use Rattle.console_words.proofs.read_network.Given as goal

abbrev pub invariant-loop : goal.invariant-loop
invariant-loop l = Networks l.s l.at l.n l.counter
