use Rattle.image_figures.proofs.EmptyBytes.{Turned}
use Rattle.image_figures.proofs.BlockLaws.{Agree}
use Rattle.image_figures.proofs.thirty_two_empty.Given as goal

abbrev pub invariant-loop-k : goal.invariant-loop-k
invariant-loop-k l = Turned l.turned 16 × Agree l.sheet l.at 16 l.other l.k
