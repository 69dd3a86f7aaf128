-- `put_command` stays within its room.
use native.Mathlib.Omega.{arith}
use lib.ListN.{length}
use Rattle.console_reason.proofs.FaultLaws.{earlier}
use Rattle.console_reason.proofs.put_command.Goals as goal

pub put_fault-a-requires : goal.put_fault-a-requires
put_fault-a-requires c = (omega (arith, c.requires), earlier 0 c.args.end (length c.args.s.now) c.command_fault-f.result (omega arith) c.command_fault-f.ensures)
