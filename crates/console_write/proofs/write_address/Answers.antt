-- `write_address` meets its contract.
use native.Mathlib.Omega.{arith}
use Rattle.console_write.proofs.WriteLaws.{answered, selection-short}
use Rattle.console_write.proofs.write_address.Goals as goal

pub written-requires : goal.written-requires
written-requires c = selection-short _ _ _ _ _ (omega (arith, c.requires)) c.write_selection.ensures

pub returns : goal.returns
returns c = answered _ _ _ _ _ c.written.ensures c.write_selection.ensures
