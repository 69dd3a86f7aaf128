use mathlib.Core.Path.{◌≡◌}
use lib.ListN.{length}
use Rattle.option.specs.Values.{most_requests}
use Rattle.ask_again.specs.InnerChains.{key_in, Heads, Linked}
use Rattle.ask_again.proofs.chain.Given as goal

abbrev pub invariant-loop-j : goal.invariant-loop-j
invariant-loop-j l = (length l.next ≡ most_requests) × Heads (key_in l.ask_lengths l.ask_h l.default_length) (length l.ask_lengths) l.j l.first × Linked (key_in l.ask_lengths l.ask_h l.default_length) (length l.ask_lengths) l.j l.next
