-- `put_information_head` meets its contract.
use Rattle.option.specs.Writing.{information_head}
use Rattle.option_reply.proofs.put_information_head.Goals as goal

pub returns : goal.returns
unfolding information_head
returns c = rw c.flags_byte.ensures at c.put_bytes.ensures
