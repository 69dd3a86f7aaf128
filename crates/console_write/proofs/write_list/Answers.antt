-- `write_list` meets its contract.
use native.Mathlib.Omega.{arith}
use Rattle.console_write.proofs.WriteLaws.{answered, option-short}
use Rattle.console_write.proofs.write_list.Goals as goal

pub written-requires : goal.written-requires
written-requires c = option-short _ _ _ _ _ (omega (arith, c.requires)) c.write_option.ensures

pub returns : goal.returns
returns c = answered _ _ _ _ _ c.written.ensures c.write_option.ensures
