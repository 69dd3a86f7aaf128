use lib.ListN.{length}
use Rattle.ask_again.specs.InnerChains.{key_in, Waiting}
use Rattle.ask_again.proofs.FindLaws.{Reached, left}
use Rattle.ask_again.proofs.find_held.Given as goal

abbrev pub invariant-loop-held : goal.invariant-loop-held
invariant-loop-held l = Reached l.image l.from l.n l.asker.client l.asker.time l.default_length l.ask_lengths l.ask_h l.held l.places l.given
    × Waiting (key_in l.ask_lengths l.ask_h l.default_length) (length l.ask_lengths) l.places l.first

abbrev pub decreases-loop-held : goal.decreases-loop-held
decreases-loop-held l = left l.image l.from l.n l.asker.client l.asker.time l.default_length l.ask_lengths l.ask_h l.held
