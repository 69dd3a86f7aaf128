-- `put_request` meets its contract.
use Rattle.option.specs.Writing.{request_bytes}
use Rattle.option_write.proofs.put_request.Goals as goal

pub returns : goal.returns
unfolding request_bytes
returns c = rw c.flags_byte.ensures at c.put_bytes.ensures
