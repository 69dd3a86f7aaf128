-- `image_check::leases_of` meets its contract.
use Prim.Native.Nat.{◌/◌}
use mathlib.Core.Path.{sym, ap}
use Rattle.image.specs.declared.Form.{Form}
use Rattle.image.specs.Image.{lease_size_in}
use Rattle.image_check.proofs.leases_of.Goals as goal

pub returns-in-First : goal.returns-in-First
returns-in-First c = sym (ap (λ (f : Form). c.args.bytes / lease_size_in f) c.in-First.is)

pub returns-in-Second : goal.returns-in-Second
returns-in-Second c = sym (ap (λ (f : Form). c.args.bytes / lease_size_in f) c.in-Second.is)
