-- `image_check::name_fits` meets its contract.
use Prim.Native.Nat.{◌≤◌}
use mathlib.Core.Path.{sym, ap, subst, ◌∙◌}
use native.Mathlib.Omega.{arith}
use lib.ListN.{length, get_or}
use lib.Dec.{eqb}
use Rattle.names.specs.Names.{name_length}
use Rattle.image.specs.declared.Form.{Form}
use Rattle.image.specs.Image.{lease_size_in, lease_size}
use Rattle.image.specs.Reading.{name_test}
use Rattle.image_check.proofs.name_fits.Goals as goal

-- In the second form the record has a name.
long : (c : goal.After-shared_slice_known-in-Second-1-unread) → lease_size ≤ length c.args.s.now
long c = subst (λ (f : Form). lease_size_in f ≤ length c.args.s.now) c.in-Second.is c.requires

-- In the second form the record has a name.
long-2 : (c : goal.After-shared_slice_known-in-Second-1) → lease_size ≤ length c.args.s.now
long-2 c = subst (λ (f : Form). lease_size_in f ≤ length c.args.s.now) c.in-Second.is c.requires

pub bounds-s-19 : goal.bounds-s-19
bounds-s-19 c = omega (arith, long c)

pub name_at-requires : goal.name_at-requires
name_at-requires c = omega (arith, long-2 c)

pub returns-in-Second : goal.returns-in-Second
returns-in-Second c =
    let s = c.args.s.now in
    ap (eqb (get_or s 19 0)) (c.length.ensures ∙ ap name_length c.name_at.ensures) ∙ sym (ap (λ (f : Form). name_test f s) c.in-Second.is)
