-- `put_lease` meets its contract.
use native.Mathlib.Omega.{arith}
use mathlib.Core.Path.{◌∙◌}
use Rattle.option.specs.Writing.{four_bytes, entry_head}
use Rattle.option_reply.proofs.BytePuts.{put-part}
use Rattle.option_reply.proofs.put_lease.Goals as goal

pub returns : goal.returns
unfolding entry_head four_bytes
returns c = rw (c.copy_from_slice.ensures.after ∙ c.entry_head.ensures) (put-part _ _ _ _ (omega arith) (omega (arith, c.requires)))
