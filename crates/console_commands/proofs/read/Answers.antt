-- `read` meets its contract.
use native.Mathlib.Omega.{arith}
use lib.ListN.{take}
use Rattle.console_commands.proofs.CommandLaws.{part-appended}
use Rattle.console_commands.proofs.read.Goals as goal

pub returns : goal.returns
returns c = record { upper_bound = omega (arith, c.read-n.ensures, c.requires); read = record { text = take c.read-n.result c.read-n.new.out; wrote = part-appended _ _ _ _ _ (omega (arith, c.requires)) (omega (arith, c.read-n.ensures, c.read-n.auto.out, c.requires)) } }
