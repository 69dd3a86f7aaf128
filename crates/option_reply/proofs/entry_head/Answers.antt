-- `entry_head` meets its contract.
use mathlib.Core.Path.{◌∙◌}
use Rattle.option.specs.Writing.{four_bytes, entry_head}
use Rattle.option_reply.proofs.BytePuts.{four-high-first}
use Rattle.option_reply.proofs.entry_head.Goals as goal

pub returns : goal.returns
unfolding entry_head four_bytes
returns c = simp (c.to_be_bytes-n.ensures ∙ four-high-first _ c.ranges.network.fits, c.flags_byte.ensures)
