-- `put_option_head` meets its contract.
use Rattle.option.specs.Writing.{option_head}
use Rattle.option_reply.proofs.put_option_head.Goals as goal

pub returns : goal.returns
unfolding option_head
returns c = c.put_bytes.ensures
